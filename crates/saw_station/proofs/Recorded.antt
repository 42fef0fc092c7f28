-- What a request reads, and how that is recorded.
use Rattle.std.proofs.Common.{◌≡◌, ℕ, Bool, true, false, List, [], ◌∷◌, map, Option, Some, None, is_some, refl, ap, ◌∙◌}
use Rattle.std.specs.FinMap as finite
use Rattle.std.specs.List.{AllByRecursion}
use Rattle.saw_address.specs.Maps.{value_at}
use Rattle.saw_messages.specs.declared.talk.Action.{Action}
use Rattle.saw_messages.specs.declared.talk.Action.TheVariants as actions
use Rattle.saw_messages.specs.declared.talk.Place.{Place}
use Rattle.saw_messages.specs.declared.talk.Place.TheVariants.{At, Bad}
use Rattle.saw_context.specs.Access.{Access, map_of_access, origin_by, read_at, reads_by}
use Rattle.saw_context.specs.Conversation.{asked_at, asked_by, address_in, body_of, first_refused, is_granted, seen_by, unless_refused}
use Rattle.saw_context.specs.SoundResults.{IsOf, IsOfBase, IsSeen, IsSeenAs, as_asked, is_own}
use Rattle.saw_context.specs.Views.{Layers, layered}
use Rattle.saw_context.specs.declared.reads.Origin.TheVariants.{Base}
use Rattle.saw_context.specs.declared.reads.Read.{Read}
use Rattle.saw_context.specs.declared.view.ViewEntry.{ViewEntry}
use Rattle.saw_context.proofs.Alike.{granted_all}
use Rattle.saw_context.proofs.Each.{all_map, all_weaker}
use Rattle.saw_context.proofs.OnTop.{value_at-over}

-- ---- what was asked

own_by : (own : Option (Option (List ℕ))) (layer : Option ViewEntry) → is_own (origin_by own layer) ≡ is_some own
own_by (Some change) layer = refl
own_by None (Some entry) = refl
own_by None None = refl

asked_of : (access : Access) (place : Place) → as_asked (read_at access place) ≡ asked_at access.own place
asked_of access place =
    ap (λ (own : Bool). record { address = address_in place; own = own })
    (own_by (finite.get access.own (address_in place)) (finite.get access.layers (address_in place)))

asked_of_all : (access : Access) (places : List Place) → map as_asked (map (read_at access) places) ≡ map (asked_at access.own) places
asked_of_all access [] = refl
asked_of_all access (place ∷ places) = ap (λ asked. asked ∷ map as_asked (map (read_at access) places)) (asked_of access place)
    ∙ ap (λ all. asked_at access.own place ∷ all) (asked_of_all access places)

asked_unless : (access : Access) (places : List Place) (refused : Option ℕ)
    → map as_asked (unless_refused refused (λ index. []) (map (read_at access) places)) ≡ unless_refused refused (λ index. [])
    (map (asked_at access.own) places)
asked_unless access places None = asked_of_all access places
asked_unless access places (Some index) = refl

-- the recorded reads are what was asked
pub asked_is : (access : Access) (action : Action) → map as_asked (reads_by access action) ≡ asked_by access.header access.own action
asked_is access (actions.Get places) = asked_unless access places (first_refused access.header.inputs places)
asked_is access (actions.Set entries) = refl
asked_is access (actions.Delete places) = refl
asked_is access (actions.AddEvent event) = refl
asked_is access actions.Ok = refl
asked_is access (actions.Invalid reason) = refl

-- ---- what the reads tell

of_map_by : (own : Option (Option (List ℕ))) (layer : Option ViewEntry) (below : Option (List ℕ)) → is_own (origin_by own layer) ≡ false
    → body_of below ≡ seen_by own below
of_map_by (Some change) layer below e = absurd cc
of_map_by None (Some entry) below e = refl
of_map_by None None below e = refl

seen_as : (layers : Layers) (at : List ℕ) (own : Option (Option (List ℕ))) (layer : Option ViewEntry) (below : Option (List ℕ)) → finite.get layers at ≡ layer
    → IsSeenAs layers at (seen_by own (layered layer below)) (origin_by own layer)
seen_as layers at (Some change) layer below e = tt
seen_as layers at None (Some entry) below e = (entry.value, e, refl)
seen_as layers at None None below e = e

of_base_by : (own : Option (Option (List ℕ))) (layer : Option ViewEntry) (below : Option (List ℕ)) → origin_by own layer ≡ Base
    → body_of below ≡ seen_by own (layered layer below)
of_base_by (Some change) layer below e = absurd cc
of_base_by None (Some entry) below e = absurd cc
of_base_by None None below e = refl

bad_granted : (texts : List (List ℕ)) → is_granted texts Bad ≡ true → ⊥
bad_granted texts e = cc

read_of_map : (access : Access) (place : Place) → is_granted access.header.inputs place ≡ true → IsOf (map_of_access access) (read_at access place)
read_of_map access (At at) granted own = of_map_by (finite.get access.own at) (finite.get access.layers at) (value_at (map_of_access access) at) own
read_of_map access Bad granted own = absurd (bad_granted access.header.inputs granted)

read_seen : (access : Access) (place : Place) → is_granted access.header.inputs place ≡ true → IsSeen access.layers (read_at access place)
read_seen access (At at) granted =
    rw (value_at-over access.base access.layers at) (seen_as access.layers at (finite.get access.own at) (finite.get access.layers at)
    (value_at access.base at) refl)
read_seen access Bad granted = absurd (bad_granted access.header.inputs granted)

read_of_base : (access : Access) (place : Place) → is_granted access.header.inputs place ≡ true → IsOfBase access.base (read_at access place)
read_of_base access (At at) granted from =
    rw (value_at-over access.base access.layers at) (of_base_by (finite.get access.own at) (finite.get access.layers at) (value_at access.base at) from)
read_of_base access Bad granted from = absurd (bad_granted access.header.inputs granted)

-- ---- the same of all reads of a request

module _ (access : Access) (P : Read → Type 0) (one : (place : Place) → is_granted access.header.inputs place ≡ true → P (read_at access place)) where
  all_unless : (places : List Place) (refused : Option ℕ) → first_refused access.header.inputs places ≡ refused
      → AllByRecursion P (unless_refused refused (λ index. []) (map (read_at access) places))
  all_unless places None e =
      all_map (read_at access) P places (all_weaker (λ place. is_granted access.header.inputs place ≡ true)
      (λ place. P (read_at access place)) one places (granted_all access.header.inputs places e))
  all_unless places (Some index) e = tt

  all_read : (action : Action) → AllByRecursion P (reads_by access action)
  all_read (actions.Get places) = all_unless places (first_refused access.header.inputs places) refl
  all_read (actions.Set entries) = tt
  all_read (actions.Delete places) = tt
  all_read (actions.AddEvent event) = tt
  all_read actions.Ok = tt
  all_read (actions.Invalid reason) = tt

pub reads_of_map : (access : Access) (action : Action) → AllByRecursion (IsOf (map_of_access access)) (reads_by access action)
reads_of_map access action = all_read access (IsOf (map_of_access access)) (read_of_map access) action

pub reads_seen : (access : Access) (action : Action) → AllByRecursion (IsSeen access.layers) (reads_by access action)
reads_seen access action = all_read access (IsSeen access.layers) (read_seen access) action

pub reads_of_base : (access : Access) (action : Action) → AllByRecursion (IsOfBase access.base) (reads_by access action)
reads_of_base access action = all_read access (IsOfBase access.base) (read_of_base access) action
