-- A map with nothing on top, and dependencies by their ids.
use Rattle.std.proofs.Common.{◌≡◌, ℕ, ◌+◌, ◌<◌, Bool, List, [], ◌∷◌, ◌++◌, append_assoc, length, take, get_or, refl, sym, ap, subst, ◌∙◌, inl, inr}
use Rattle.std.specs.Prelude.{◌||◌}
use Rattle.std.specs.Arc.{arc_value}
use Rattle.std.specs.declared.sync.Arc.{Arc}
use Rattle.std.specs.Global.{Global}
use Rattle.std.proofs.lemmas.List.{map-append, take_more}
use Rattle.std.specs.List.{list_any}
use Rattle.std.specs.Str.{bytes_eq}
use Rattle.std.specs.Ordering.{nat_cmp}
use Rattle.std.specs.Cmp.Lexicographic.{slice_cmp, nat_list_cmp_total, nat_list_eq_equiv}
use Rattle.std.proofs.lemmas.Bool.{cases_Bool}
use Rattle.std.proofs.lemmas.Map.Lookups.{exact_bytes}
use Rattle.std.specs.BTreeSet.{BTreeSet, contains}
use Rattle.std.specs.FinMap as finite
use Rattle.saw_address.specs.Maps.{StateMap}
use Rattle.saw_address.specs.Prefixes.{covers}
use Rattle.saw_ids.specs.Seen.{is_among}
use Rattle.saw_messages.specs.TxShapes.{TxShape}
use Rattle.saw_messages.specs.declared.outcome.Outcome.{Outcome}
use Rattle.saw_messages.specs.declared.tx.Tx.{Tx}
use Rattle.saw_context.specs.Outcome.{Processors}
use Rattle.saw_context.specs.Possible.{MayCome}
use Rattle.saw_context.specs.Views.{layers_of, over}
use Rattle.saw_context.specs.declared.view.View.{View}
use Rattle.saw_context.proofs.OnTop.{over-empty}
use Rattle.saw_context.proofs.Views.{get-covered, get-uncovered}
use Rattle.saw_plan.specs.BatchShapes.{ids_of, shapes_of}
use Rattle.saw_crew.specs.Failing.{HoldsTxs}

-- nothing is read of nothing
none_read : (view : View) → view.layers ≡ finite.empty → layers_of view ≡ finite.empty
none_read view none = finite.same_map nat_list_cmp_total exact_bytes _ _ (λ q. elim (cases_Bool (list_any (λ prefix. covers prefix q) view.inputs.items)) [
  | inl covered ↦ get-covered view view.inputs.items q refl covered ∙ ap (λ layers. finite.get layers q) none
  | inr not ↦ get-uncovered view view.inputs.items q refl not ∙ sym (finite.get-empty (slice_cmp nat_cmp) q)
])

over_nothing : (m : StateMap) (view : View) → view.layers ≡ finite.empty → over m (layers_of view) ≡ m
over_nothing m view none = ap (over m) (none_read view none) ∙ over-empty m

-- what may come of a transaction under a view with nothing on top
pub outcome_plain : (processors : Processors) (m : StateMap) (tx its : Tx) (view made : View) (failed depends : Bool) (outcome : Outcome) → tx ≡ its
    → view ≡ made → made.layers ≡ finite.empty → failed ≡ depends
    → MayCome processors tx (over m (layers_of view)) failed outcome → MayCome processors its m depends outcome
outcome_plain processors m tx its view made failed depends outcome same shows none flag may =
    let shown : over m (layers_of view) ≡ m = ap (λ (v : View). over m (layers_of v)) shows ∙ over_nothing m made none in
    subst (λ (t : Tx). MayCome processors t m depends outcome) same
    (subst (λ (f : Bool). MayCome processors tx m f outcome) flag
    (subst (λ (n : StateMap). MayCome processors tx n failed outcome) shown may))

-- ---- dependencies

-- an id is among those of transactions where one of them has it
pub among-ids : (others : List TxShape) (id : List ℕ) → is_among (ids_of others) id ≡ list_any (λ other. bytes_eq id other.id) others
among-ids [] id = refl
among-ids (other ∷ others) id = rw (nat_list_eq_equiv.symm other.id id) (ap (λ (b : Bool). bytes_eq id other.id || b) (among-ids others id))

module _ (seen : BTreeSet (List ℕ)) (others : List TxShape) (holds : HoldsTxs seen others) where
  -- a dependency whose id is in the set is one of the transactions
  pub held-names : (dependencies : List (List ℕ)) → list_any (λ id. contains (slice_cmp nat_cmp) seen id) dependencies ≡ list_any
      (λ id. list_any (λ other. bytes_eq id other.id) others) dependencies
  held-names [] = refl
  held-names (id ∷ ids) = rw (holds id, among-ids others id) (ap (λ (b : Bool). list_any (λ other. bytes_eq id other.id) others || b) (held-names ids))

-- the ids of the transactions up to an index, with one more
ids-take : (others : List TxShape) (txs : List (Arc Tx Global)) (i : ℕ) (tx : Arc Tx Global) → i < length txs → tx ≡ get_or txs i tx
    → ids_of (others ++ shapes_of (take i txs)) ++ (arc_value tx).id ∷ [] ≡ ids_of (others ++ shapes_of (take (i + 1) txs))
ids-take others txs i tx below is =
    rw (
      take_more txs i tx below,
      ← is,
      map-append arc_value (take i txs) (tx ∷ []),
      map-append (λ (t : TxShape). t.id) others (shapes_of (take i txs)),
      map-append (λ (t : TxShape). t.id) others (shapes_of (take i txs) ++ shapes_of (tx ∷ [])),
      map-append (λ (t : TxShape). t.id) (shapes_of (take i txs)) (shapes_of (tx ∷ [])),
    )
    (append_assoc (ids_of others) (ids_of (shapes_of (take i txs))) ((arc_value tx).id ∷ []))

-- the same, where the one more is known by an equation
pub ids-take_seen : (others : List TxShape) (txs : List (Arc Tx Global)) (i : ℕ) (tx : Arc Tx Global) (seen : TxShape) → seen ≡ arc_value tx
    → i < length txs → tx ≡ get_or txs i tx
    → ids_of (others ++ shapes_of (take i txs)) ++ seen.id ∷ [] ≡ ids_of (others ++ shapes_of (take (i + 1) txs))
ids-take_seen others txs i tx seen same below is =
    ap (λ (one : TxShape). ids_of (others ++ shapes_of (take i txs)) ++ one.id ∷ []) same ∙ ids-take others txs i tx below is
