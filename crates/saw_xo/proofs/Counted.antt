-- Whether any games are left.
use Rattle.std.proofs.Common.{◌≡◌, ℕ, ◌<◌, eqb, List, [], ◌∷◌, length, Ordering, sym, ap, ◌∙◌, arith}
use Rattle.std.specs.Ordering.{nat_cmp}
use Rattle.std.specs.declared.cmp.Ordering.TheVariants.{Less, Equal, Greater}
use Rattle.std.specs.Cmp.Lexicographic.{slice_cmp, nat_list_cmp_total}
use Rattle.std.specs.FinMap as finite
use Rattle.std.specs.FinMap.Entries.{put, by_order}
use Rattle.std.proofs.lemmas.Bool.{cond-true, cond-false, eq-eqb, ne_eqb}
use Rattle.saw_messages.specs.declared.talk.Action.TheVariants as actions
use Rattle.saw_messages.specs.declared.talk.Place.TheVariants.{At}
use Rattle.saw_xo.specs.Games.{Games, kept_bytes}
use Rattle.saw_xo.specs.Changes.{set_or_delete}
use Rattle.saw_xo.specs.declared.game.Game.{Game}
use Rattle.saw_xo.proofs.Lookups.{Entries}

some_by_order : (r : Ordering) (less equal greater : Entries) → 0 < length less → 0 < length equal → 0 < length greater
    → 0 < length (by_order r less equal greater)
some_by_order Less less equal greater a b c = a
some_by_order Equal less equal greater a b c = b
some_by_order Greater less equal greater a b c = c

some_put : (name : List ℕ) (game : Game) (entries : Entries) → 0 < length (put (slice_cmp nat_cmp) name game entries)
some_put name game [] = omega arith
some_put name game (entry ∷ entries) =
    some_by_order (slice_cmp nat_cmp name entry.0) ((name, game) ∷ entry ∷ entries) ((entry.0, game) ∷ entries)
    (entry ∷ put (slice_cmp nat_cmp) name game entries) (omega arith) (omega arith) (omega arith)

some_game : (entries : Entries) → (length entries ≡ 0 → ⊥) → finite.len (finite.from_entries {R = slice_cmp nat_cmp} entries) ≡ 0 → ⊥
some_game [] none e = none (omega arith)
some_game (entry ∷ entries) none e =
    let rest : Games = finite.from_entries entries in
    let count = finite.len-entries (finite.insert rest entry.0 entry.1) ∙ ap length (finite.entries-insert nat_list_cmp_total rest entry.0 entry.1) in
    omega (arith, some_put entry.0 entry.1 (finite.entries rest), count, e)

no_game : (entries : Entries) → length entries ≡ 0 → finite.len (finite.from_entries {R = slice_cmp nat_cmp} entries) ≡ 0
no_game [] e = finite.len-empty (slice_cmp nat_cmp) Game
no_game (entry ∷ entries) e = absurd (omega arith)

pub deletes : (address : List ℕ) (entries : Entries) → length entries ≡ 0
    → set_or_delete address (finite.from_entries entries) ≡ actions.Delete (At address ∷ [])
deletes address entries e =
    let games : Games = finite.from_entries entries in
    cond-true (eqb (finite.len games) 0) (actions.Delete (At address ∷ []))
    (actions.Set (record { place = At address; body = kept_bytes games } ∷ [])) (eq-eqb (finite.len games) 0 (no_game entries e))

pub sets : (address : List ℕ) (entries : Entries) (body : List ℕ) → (length entries ≡ 0 → ⊥) → body ≡ kept_bytes (finite.from_entries entries)
    → set_or_delete address (finite.from_entries entries) ≡ actions.Set (record { place = At address; body = body } ∷ [])
sets address entries body some kept =
    let games : Games = finite.from_entries entries in
    cond-false (eqb (finite.len games) 0) (actions.Delete (At address ∷ []))
    (actions.Set (record { place = At address; body = kept_bytes games } ∷ [])) (ne_eqb (finite.len games) 0 (some_game entries some))
    ∙ ap (λ kept. actions.Set (record { place = At address; body = kept } ∷ [])) (sym kept)
