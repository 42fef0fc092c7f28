-- When all batches are settled.
use Rattle.std.proofs.Common.{◌≡◌, ◌+◌, ◌==◌, nat_le, ℕ, List, length, vec_len, ap, ◌∙◌, arith}
use Rattle.saw_machine.specs.Machine.{State}
use Rattle.saw_machine.specs.Orders.{Order}
use Rattle.saw_schedule.specs.Inside.{AreSlotsOf}
use Rattle.saw_schedule.specs.declared.slots.Slots.{Slots}
use Rattle.saw_schedule.specs.declared.step.Step.{Step}
use Rattle.saw_schedule.proofs.Verdicts.{left-of, length-ends}

same-test : (done all left : ℕ) → done + left ≡ all → nat_le all done ≡ (left == 0)
same-test done all left e = grind (arith, e)

pub over-is : (order : Order) (sizes : List ℕ) (st : State) (steps : List Step) (slots : Slots) (done all : ℕ) → AreSlotsOf order sizes st steps slots
    → done ≡ vec_len slots.verdicts → all ≡ vec_len slots.ends → nat_le all done ≡ (length st.rest == 0)
over-is order sizes st steps slots done all are p q =
    let left : length slots.verdicts.items + length st.rest ≡ length sizes = left-of st 0 sizes st.results slots.verdicts.items are.verdicts in
    let ends : length slots.ends.items ≡ length sizes = ap (λ (xs : List ℕ). length xs) are.ends ∙ length-ends 0 sizes in
    let a : done ≡ length slots.verdicts.items = p ∙ slots.verdicts.ok.0 in
    let b : all ≡ length slots.ends.items = q ∙ slots.ends.ok.0 in
    same-test done all (length st.rest) (omega (arith, left, ends, a, b))
