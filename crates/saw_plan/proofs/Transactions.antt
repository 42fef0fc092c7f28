-- The transactions of a batch, one after another.
use Rattle.std.proofs.Common.{◌≡◌, ℕ, ◌+◌, ◌<◌, List, [], ◌∷◌, ◌++◌, length, take, drop, get_or, None, refl, sym, ap, ◌∙◌}
use Rattle.std.specs.Arc.{arc_value}
use Rattle.std.specs.Global.{Global}
use Rattle.std.specs.declared.sync.Arc.{Arc}
use Rattle.std.proofs.lemmas.List.{append_assoc, take_more, drop_more, map_push}
use Rattle.saw_messages.specs.TxShapes.{TxShape}
use Rattle.saw_messages.specs.declared.tx.Tx.{Tx}
use Rattle.saw_plan.specs.BatchShapes.{shapes_of, ids_of}
use Rattle.saw_plan.specs.StaticRules.{tx_cause, txs_cause}

module _ (txs : List (Arc Tx Global)) (i : ℕ) (tx : Arc Tx Global) (more : i < length txs) (here : tx ≡ get_or txs i tx) where
  pub shapes_more : shapes_of (take (i + 1) txs) ≡ shapes_of (take i txs) ++ arc_value tx ∷ []
  shapes_more = rw (take_more txs i tx more, ← here) (map_push arc_value (take i txs) tx)

  shapes_here : shapes_of (drop i txs) ≡ arc_value tx ∷ shapes_of (drop (i + 1) txs)
  shapes_here = rw (drop_more txs i tx more, ← here) refl

  module _ (seen : TxShape) (same : seen ≡ arc_value tx) where
    pub ids_more : ids_of (shapes_of (take i txs)) ++ seen.id ∷ [] ≡ ids_of (shapes_of (take (i + 1) txs))
    ids_more = ap (λ (one : TxShape). ids_of (shapes_of (take i txs)) ++ one.id ∷ []) same
        ∙ sym (ap ids_of shapes_more ∙ map_push (λ (one : TxShape). one.id) (shapes_of (take i txs)) (arc_value tx))

    pub all_ids_more : (earlier : List (List ℕ)) → (earlier ++ ids_of (shapes_of (take i txs))) ++ seen.id ∷ [] ≡ earlier ++ ids_of
        (shapes_of (take (i + 1) txs))
    all_ids_more earlier = append_assoc earlier (ids_of (shapes_of (take i txs))) (seen.id ∷ []) ∙ ap (λ ids. earlier ++ ids) ids_more

    module _ (there : List (List ℕ)) (so_far : txs_cause there [] 0 (shapes_of txs) ≡ txs_cause there (ids_of (shapes_of (take i txs))) i
        (shapes_of (drop i txs))) where
      pub cause_later : None ≡ tx_cause there (ids_of (shapes_of (take i txs))) i seen
          → txs_cause there [] 0 (shapes_of txs) ≡ txs_cause there (ids_of (shapes_of (take (i + 1) txs))) (i + 1) (shapes_of (drop (i + 1) txs))
      cause_later none = so_far ∙ rw (shapes_here, ← same, ← none, ids_more) refl
