use Rattle.std.proofs.Common.{◌≡◌, ◌⊎◌, inl, inr, List, [], ◌∷◌, ◌++◌, refl, sym, ◌∙◌}
use Rattle.std.proofs.lemmas.List.{append-nil}
use Rattle.std.proofs.lemmas.Slice.Zip.{either_empty_from_Zip}
use Rattle.std.specs.Global.{Global}
use Rattle.std.specs.declared.sync.Arc.{Arc}
use Rattle.saw_messages.specs.declared.outcome.Outcome.{Outcome}
use Rattle.saw_messages.specs.declared.receipt.Receipt.{Receipt}
use Rattle.saw_messages.specs.declared.tx.Tx.{Tx}
use Rattle.saw_plan.specs.BatchShapes.{ids_of, shapes_of}
use Rattle.saw_receipts.specs.Receipts.{receipts}
use Rattle.saw_receipts.proofs.receipt.batch_receipts.Goals as goal

none : (txs : List (Arc Tx Global)) (outcomes : List Outcome) → (txs ≡ []) ⊎ (outcomes ≡ []) → receipts (ids_of (shapes_of txs)) outcomes ≡ []
none txs outcomes (inl is) = rw is refl
none [] outcomes (inr is) = refl
none (tx ∷ txs) outcomes (inr is) = rw is refl

ended : (made whole : List Receipt) (txs : List (Arc Tx Global)) (outcomes : List Outcome) → (txs ≡ []) ⊎ (outcomes ≡ [])
    → made ++ receipts (ids_of (shapes_of txs)) outcomes ≡ whole → made ≡ whole
ended made whole txs outcomes which known = sym (append-nil made) ∙ (rw (none txs outcomes which) at known)

pub returns : goal.returns
returns c = ended c.loop-tx.made.items _ _ _ (either_empty_from_Zip c.loop-tx.tx-iterator c.next.new.self c.next.result c.in-None.is
    c.next.ensures.steps) c.loop-tx.invariant
