-- Verdicts of settled batches, and the ends of batches.
use Rattle.std.proofs.Common.{◌≡◌, ◌<◌, ◌≤◌, ◌+◌, ℕ, zero, suc, List, [], ◌∷◌, ◌++◌, length, drop, Option, Some, None, refl, sym, ap, subst, ◌∙◌, arith}
use Rattle.saw_messages.specs.declared.outcome.Outcome.{Outcome}
use Rattle.saw_messages.specs.declared.outcome.Outcome.TheVariants.{Ok, Invalid}
use Rattle.saw_context.specs.declared.batch_result.BatchResult.{BatchResult}
use Rattle.saw_context.specs.declared.batch_result.BatchResult.TheVariants as results
use Rattle.saw_machine.specs.Machine.{Closed, Held, Running, Slot, Slots, State, Task, Waiting, front, front_at}
use Rattle.saw_schedule.specs.Inside.{AreVerdictsOf, HoldOutcomes, IsVerdictOf}
use Rattle.saw_schedule.specs.Layout.{ends_of}
use Rattle.saw_schedule.specs.declared.verdict.Verdict.{Verdict}

-- ---- ends

-- behind the settled batches the ends are those of the rest
pub coming : (st : State) (n : ℕ) (sizes : List ℕ) (rs : List BatchResult) (verdicts : List Verdict) → AreVerdictsOf st n sizes rs verdicts
    → drop (length verdicts) (ends_of n sizes) ≡ ends_of st.first st.rest
coming st n sizes [] [] are = rw (are.0, are.1) refl
coming st n sizes [] (verdict ∷ verdicts) are = absurd are
coming st n sizes (result ∷ rs) [] are = absurd are
coming st n [] (result ∷ rs) (verdict ∷ verdicts) are = absurd are
coming st n (size ∷ sizes) (result ∷ rs) (verdict ∷ verdicts) are = coming st (n + size) sizes rs verdicts are.1

pub length-ends : (n : ℕ) (sizes : List ℕ) → length (ends_of n sizes) ≡ length sizes
length-ends n [] = refl
length-ends n (size ∷ sizes) = ap suc (length-ends (n + size) sizes)

pub left-of : (st : State) (n : ℕ) (sizes : List ℕ) (rs : List BatchResult) (verdicts : List Verdict) → AreVerdictsOf st n sizes rs verdicts
    → length verdicts + length st.rest ≡ length sizes
left-of st n sizes [] [] are = let same : length sizes ≡ length st.rest = ap (λ (all : List ℕ). length all) are.1 in omega (arith, same)
left-of st n sizes [] (verdict ∷ verdicts) are = absurd are
left-of st n sizes (result ∷ rs) [] are = absurd are
left-of st n [] (result ∷ rs) (verdict ∷ verdicts) are = absurd are
left-of st n (size ∷ sizes) (result ∷ rs) (verdict ∷ verdicts) are = let more : length verdicts + length st.rest ≡ length sizes = left-of st (n + size) sizes rs verdicts are.1 in omega (arith, more)

-- ---- what slots hold

-- slots that are the same below a number hold the same there
pub hold-same : (st next : State) (n : ℕ) (outcomes : List Outcome) (end : ℕ) → n + length outcomes ≤ end
    → ((j : ℕ) → j < end → next.slots j ≡ st.slots j) → HoldOutcomes st n outcomes → HoldOutcomes next n outcomes
hold-same st next n [] end low same hold = tt
hold-same st next n (outcome ∷ outcomes) end low same hold =
    ((hold.0.0, same n (omega (arith, low)) ∙ hold.0.1), hold-same st next (suc n) outcomes end (omega (arith, low)) same hold.1)

verdict-same : (st next : State) (n size : ℕ) (result : BatchResult) (verdict : Verdict) (end : ℕ) → n + size ≤ end
    → ((j : ℕ) → j < end → next.slots j ≡ st.slots j) → IsVerdictOf st n size result verdict → IsVerdictOf next n size result verdict
verdict-same st next n size (results.Applied outcomes) verdict end low same is =
    let long : length outcomes ≡ size = is.1 in
    (is.0, is.1, hold-same st next n outcomes end (omega (arith, low, long)) same is.2)
verdict-same st next n size (results.Failed t reason) verdict end low same is = is

first-after : (st : State) (n : ℕ) (sizes : List ℕ) (rs : List BatchResult) (verdicts : List Verdict) → AreVerdictsOf st n sizes rs verdicts → n ≤ st.first
first-after st n sizes [] [] are = let e : n ≡ st.first = are.0 in omega (arith, e)
first-after st n sizes [] (verdict ∷ verdicts) are = absurd are
first-after st n sizes (result ∷ rs) [] are = absurd are
first-after st n [] (result ∷ rs) (verdict ∷ verdicts) are = absurd are
first-after st n (size ∷ sizes) (result ∷ rs) (verdict ∷ verdicts) are = let l : n + size ≤ st.first = first-after st (n + size) sizes rs verdicts are.1 in omega (arith, l)

-- a state with the same settled slots has the same verdicts
pub verdicts-same : (st next : State) (n : ℕ) (sizes : List ℕ) (rs : List BatchResult) (verdicts : List Verdict) → next.first ≡ st.first → next.rest ≡ st.rest
    → ((j : ℕ) → j < st.first → next.slots j ≡ st.slots j) → AreVerdictsOf st n sizes rs verdicts → AreVerdictsOf next n sizes rs verdicts
verdicts-same st next n sizes [] [] first rest same are = (are.0 ∙ sym first, are.1 ∙ sym rest)
verdicts-same st next n sizes [] (verdict ∷ verdicts) first rest same are = absurd are
verdicts-same st next n sizes (result ∷ rs) [] first rest same are = absurd are
verdicts-same st next n [] (result ∷ rs) (verdict ∷ verdicts) first rest same are = absurd are
verdicts-same st next n (size ∷ sizes) (result ∷ rs) (verdict ∷ verdicts) first rest same are = (
  verdict-same st next n size result verdict st.first (first-after st (n + size) sizes rs verdicts are.1) same are.0,
  verdicts-same st next (n + size) sizes rs verdicts first rest same are.1,
)

-- one more settled batch
pub verdicts-push : (st next : State) (n : ℕ) (sizes : List ℕ) (rs : List BatchResult) (verdicts : List Verdict) (size : ℕ) (rest : List ℕ) (result : BatchResult) (verdict : Verdict)
    → st.rest ≡ size ∷ rest → next.first ≡ st.first + size → next.rest ≡ rest → ((j : ℕ) → j < st.first → next.slots j ≡ st.slots j)
    → IsVerdictOf next st.first size result verdict → AreVerdictsOf st n sizes rs verdicts → AreVerdictsOf next n sizes (rs ++ result ∷ []) (verdicts ++ verdict ∷ [])
verdicts-push st next n sizes [] [] size rest result verdict is first rest_is same one are =
    subst (λ (all : List ℕ). AreVerdictsOf next n all (result ∷ []) (verdict ∷ [])) (sym (are.1 ∙ is))
    (subst (λ (k : ℕ). IsVerdictOf next k size result verdict) (sym are.0) one, (ap (λ k. k + size) are.0 ∙ sym first, sym rest_is))
verdicts-push st next n sizes [] (v ∷ verdicts) size rest result verdict is first rest_is same one are = absurd are
verdicts-push st next n sizes (r ∷ rs) [] size rest result verdict is first rest_is same one are = absurd are
verdicts-push st next n [] (r ∷ rs) (v ∷ verdicts) size rest result verdict is first rest_is same one are = absurd are
verdicts-push st next n (s ∷ sizes) (r ∷ rs) (v ∷ verdicts) size rest result verdict is first rest_is same one are = (
  verdict-same st next n s r v st.first (first-after st (n + s) sizes rs verdicts are.1) same are.0,
  verdicts-push st next (n + s) sizes rs verdicts size rest result verdict is first rest_is same one are.1,
)

-- ---- an applied batch

record First (slots : Slots) (n size : ℕ) (outcomes : List Outcome) : Type 0 where
  task : Task
  outcome : Outcome
  others : List Outcome
  held : slots n ≡ Held task outcome
  onward : front slots (suc n) size ≡ Some (results.Applied others)
  is : outcome ∷ others ≡ outcomes

outcomes_in : List Outcome → Option BatchResult → List Outcome
outcomes_in d None = d
outcomes_in d (Some (results.Applied outcomes)) = outcomes
outcomes_in d (Some (results.Failed t reason)) = d

applied-same : (xs ys : List Outcome) → Some (results.Applied xs) ≡ Some (results.Applied ys) → xs ≡ ys
unfolding outcomes_in
applied-same xs ys e = ap (outcomes_in xs) e

front-first : (slots : Slots) (n size : ℕ) (outcomes : List Outcome) → front slots n (suc size) ≡ Some (results.Applied outcomes) → First slots n size outcomes
front-first slots n size outcomes e = go (slots n) refl (front slots (suc n) size) refl e
  where
    go : (slot : Slot) → slots n ≡ slot → (found : Option BatchResult) → front slots (suc n) size ≡ found → front_at slot found ≡ Some (results.Applied outcomes) → First slots n size outcomes
    go Waiting a found b e = absurd (grind arith)
    go (Running k task) a found b e = absurd (grind arith)
    go (Held task (Ok changes events)) a None b e = absurd (grind arith)
    go (Held task (Ok changes events)) a (Some (results.Applied others)) b e = record { task = task; outcome = Ok changes events; others = others; held = a; onward = b; is = applied-same _ _ e }
    go (Held task (Ok changes events)) a (Some (results.Failed t reason)) b e = absurd (grind arith)
    go (Held task (Invalid reason)) a found b e = absurd (grind arith)
    go Closed a found b e = absurd (grind arith)

-- the outcomes of an applied batch are those that its slots hold
pub front-holds : (st : State) (n size : ℕ) (outcomes : List Outcome) → front st.slots n size ≡ Some (results.Applied outcomes) → (length outcomes ≡ size) × HoldOutcomes st n outcomes
front-holds st n zero outcomes e = subst (λ (all : List Outcome). (length all ≡ 0) × HoldOutcomes st n all) (applied-same [] outcomes e) (refl, tt)
front-holds st n (suc size) outcomes e =
    let f : First st.slots n size outcomes = front-first st.slots n size outcomes e in
    let more = front-holds st (suc n) size f.others f.onward in
    subst (λ (all : List Outcome). (length all ≡ suc size) × HoldOutcomes st n all) f.is (ap suc more.0, ((f.task, f.held), more.1))
