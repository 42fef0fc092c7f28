-- Where the bytes of a read come from.
use Rattle.std.proofs.Common.{◌≡◌, ℕ, zero, suc, ◌<◌, false, true, List, [], ◌∷◌, ◌++◌, map, length, get_or, Option, Some, None, arith, refl, ap, ◌∙◌}
use Rattle.std.specs.Prelude.{is_some}
use Rattle.std.specs.List.{AllByRecursion}
use Rattle.std.specs.FinMap as finite
use Rattle.saw_messages.specs.declared.talk.Place.{Place}
use Rattle.saw_context.specs.Access.{Access, Gets, origin_at, origin_by, read_at}
use Rattle.saw_context.specs.declared.reads.Read.{Read}
use Rattle.std.proofs.lemmas.Simd.{map-map}
use Rattle.saw_context.specs.Conversation.{Overlay, first_refused, is_granted}
use Rattle.saw_context.specs.Views.{Layers}
use Rattle.saw_context.specs.declared.reads.Origin.TheVariants.{Own, Layer, Base}
use Rattle.saw_context.specs.declared.view.ViewEntry.{ViewEntry}
use Rattle.saw_context.proofs.Alike.{granted_all}

none_of : (o : Option (Option (List ℕ))) → is_some o ≡ false → o ≡ None
none_of None e = refl
none_of (Some x) e = absurd cc

some_by : (o : Option (Option (List ℕ))) (layer : Option ViewEntry) → is_some o ≡ true → Own ≡ origin_by o layer
some_by None layer e = absurd cc
some_by (Some x) layer e = refl

-- an own change
pub origin_own : (own : Overlay) (layers : Layers) (at : List ℕ) → is_some (finite.get own at) ≡ true → Own ≡ origin_at layers own at
origin_own own layers at has = some_by (finite.get own at) (finite.get layers at) has

-- the view's entry
pub origin_layer : (own : Overlay) (layers : Layers) (at : List ℕ) (entry : ViewEntry) → is_some (finite.get own at) ≡ false
    → Some entry ≡ finite.get layers at
    → Layer entry.index ≡ origin_at layers own at
origin_layer own layers at entry none found = rw (none_of (finite.get own at) none, ← found) refl

-- the base
pub origin_base : (own : Overlay) (layers : Layers) (at : List ℕ) → is_some (finite.get own at) ≡ false → None ≡ finite.get layers at
    → Base ≡ origin_at layers own at
origin_base own layers at none found = rw (none_of (finite.get own at) none, ← found) refl

-- ---- granted places

all_at : {A : Type 0} (P : A → Type 0) (xs : List A) (i : ℕ) (x : A) → AllByRecursion P xs → i < length xs → P (get_or xs i x)
all_at P [] i x all below = absurd (omega arith)
all_at P (y ∷ ys) zero x all below = all.0
all_at P (y ∷ ys) (suc i) x all below = all_at P ys i x all.1 (omega arith)

pub granted_at : (texts : List (List ℕ)) (places : List Place) (i : ℕ) (place : Place) → first_refused texts places ≡ None → i < length places
    → place ≡ get_or places i place → is_granted texts place ≡ true
granted_at texts places i place none below is =
    ap (is_granted texts) is ∙ all_at (λ one. is_granted texts one ≡ true) places i place (granted_all texts places none) below

-- places that were read, with the records of the reads
pub gets : (old new : Access) (places : List Place) (bodies : List (List ℕ)) (reads : List Read) → first_refused old.header.inputs places ≡ None
    → reads ≡ map (read_at old) places
    → bodies ≡ map (λ read. read.body) reads → new ≡ record old { reads = old.reads ++ reads } → Gets old places bodies new
gets old new places bodies reads granted made told is = record {
  granted = granted;
  answered = told ∙ ap (map (λ read. read.body)) made ∙ map-map (λ read. read.body) (read_at old) places;
  recorded = is ∙ ap (λ more. record old { reads = old.reads ++ more }) made;
}
