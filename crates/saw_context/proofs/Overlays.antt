-- What a transaction sees of its own changes.
use Rattle.std.proofs.Common.{◌≡◌, ℕ, List, [], ◌∷◌, ◌++◌, Option, Some, None, refl, sym, ap, ◌∙◌}
use Rattle.std.specs.Ordering.{nat_cmp}
use Rattle.std.specs.Cmp.Lexicographic.{slice_cmp}
use Rattle.std.specs.Map.{lookup}
use Rattle.std.specs.BTreeMap.{is_at}
use Rattle.std.specs.FinMap as finite
use Rattle.saw_address.specs.Maps.{StateMap, value_at}
use Rattle.saw_address.proofs.Finite.{get-map_of}
use Rattle.saw_messages.specs.declared.outcome.Change.{Change}
use Rattle.saw_messages.specs.declared.talk.Entry.{Entry}
use Rattle.saw_messages.specs.declared.talk.Place.{Place}
use Rattle.saw_context.specs.Views.{Layers, over, layered}
use Rattle.saw_context.specs.declared.view.ViewEntry.{ViewEntry}
use Rattle.saw_context.proofs.OnTop.{value_at-over}
use Rattle.saw_context.specs.Conversation.{Overlay, body_of, seen_at, seen_by, put_at, set_all, delete_all}

abbrev pub Changes : Type 0
Changes = List (List ℕ × Option (List ℕ))

-- a change of the transaction's own is seen
pub seen_own : (own : Overlay) (es : Changes) (m : StateMap) (at : List ℕ) (change : Option (List ℕ)) → finite.from_entries es ≡ own
    → Some change ≡ lookup (is_at (slice_cmp nat_cmp at)) es → seen_at m own at ≡ body_of change
seen_own own es m at change is found =
    ap (λ o. seen_by o (value_at m at)) (ap (λ own. finite.get own at) (sym is) ∙ get-map_of es at ∙ sym found)

-- else what the map has
pub seen_below : (own : Overlay) (es : Changes) (m : StateMap) (at : List ℕ) → finite.from_entries es ≡ own
    → None ≡ lookup (is_at (slice_cmp nat_cmp at)) es → seen_at m own at ≡ body_of (value_at m at)
seen_below own es m at is found =
    ap (λ o. seen_by o (value_at m at)) (ap (λ own. finite.get own at) (sym is) ∙ get-map_of es at ∙ sym found)

-- an entry of the view is what is there
pub over_entry : (m : StateMap) (layers : Layers) (at : List ℕ) (entry : ViewEntry) → Some entry ≡ finite.get layers at
    → value_at (over m layers) at ≡ entry.value
over_entry m layers at entry found = value_at-over m layers at ∙ ap (λ o. layered o (value_at m at)) (sym found)

-- where the view has none, the map's value is
pub over_none : (m : StateMap) (layers : Layers) (at : List ℕ) → None ≡ finite.get layers at → value_at (over m layers) at ≡ value_at m at
over_none m layers at found = value_at-over m layers at ∙ ap (λ o. layered o (value_at m at)) (sym found)

pub set_all-push : (own : Overlay) (entries : List Entry) (entry : Entry)
    → set_all own (entries ++ entry ∷ []) ≡ put_at (set_all own entries) entry.place (Some entry.body)
set_all-push own [] entry = refl
set_all-push own (first ∷ entries) entry = set_all-push (put_at own first.place (Some first.body)) entries entry

pub delete_all-push : (own : Overlay) (places : List Place) (place : Place) → delete_all own (places ++ place ∷ []) ≡ put_at (delete_all own places) place None
delete_all-push own [] place = refl
delete_all-push own (first ∷ places) place = delete_all-push (put_at own first None) places place

-- an entry as a change
abbrev pub change_of : List ℕ × Option (List ℕ) → Change
change_of entry = record { address = entry.0; value = entry.1 }
