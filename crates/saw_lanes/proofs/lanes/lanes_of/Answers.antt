use Rattle.std.proofs.Common.{◌≡◌, ℕ, List, ◌++◌, length, take, sym, ap, ◌∙◌, rules}
use Rattle.std.proofs.lemmas.List.{length-map}
use Rattle.std.proofs.Math.Seq.{take-append_seam}
use Rattle.saw_plan.specs.BatchShapes.{txs_of}
use Rattle.saw_messages.specs.TxShapes.{BatchShape}
use Rattle.saw_lanes.proofs.Keeping.{are_lanes}
use Rattle.saw_lanes.specs.Apart.{are_apart}
use Rattle.saw_lanes.proofs.lanes.lanes_of.Goals as goal

-- what is written back over the whole of a list
written_back : {X : Type 0} (count : ℕ) (new rest : List X) → length new ≡ count → take count (new ++ rest) ≡ new
written_back count new rest whole = ap (λ n. take n (new ++ rest)) (sym whole) ∙ take-append_seam new rest

pub returns-then-stay_apart : goal.returns-then-stay_apart
returns-then-stay_apart c =
    let sorted = c.sort_unstable.new.self in
    let whole : length sorted ≡ c.in-Some.claims.len = search rules in
    let seen = c.as_slice-then-len-batches.ensures.value ∙ written_back c.in-Some.claims.len sorted _ whole in
    let apart = ap (λ claims. are_apart c.as_slice-then-len-batches-2.result.now 0 0 claims) (sym seen) ∙ c.stay_apart.ensures c.if-stay_apart.true in
    let counted : length c.in_ok-lanes.lanes.items ≡ length c.args.batches.now = search rules in
    are_lanes c.as_mut_slice.result.now sorted c.in_ok-lanes.lanes.items (txs_of c.args.batches.now)
    (search rules) c.sort_unstable.ensures.permutation (rw (← c.as_slice-then-len-batches-2.ensures.value) apart) (counted ∙ sym (length-map c.args.batches.now (λ (batch : BatchShape). batch.txs)))
