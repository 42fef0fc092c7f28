use Rattle.std.proofs.Common.{◌≡◌, ◌<◌, ◌≤◌, ◌+◌, ℕ, List, length, get_or, set, sum, take, sym, ◌∙◌, arith, rules, inl, inr, get_or-set_same, get_or-set_other}
use Rattle.std.proofs.lemmas.Bool.{cases_eq}
use Rattle.std.proofs.lemmas.List.{get_or_read}
use Rattle.std.proofs.lemmas.List.Sums.{sum_by-take-le, sum_by_more}
use Rattle.saw_ready.proofs.successors.add_up.Goals as goal

-- one count more
sum-more : (xs : List ℕ) (j all count : ℕ) → j < length xs → all ≡ sum (take j xs) → count ≡ get_or xs j 0
    → all + count ≡ sum (take (j + 1) xs)
sum-more xs j all count lt a b = rw (a, b) (sym (sum_by_more (λ (x : ℕ). x) xs j 0 lt))

sum-fits : (xs : List ℕ) (j all count : ℕ) → j < length xs → all ≡ sum (take j xs) → count ≡ get_or xs j 0 → all + count ≤ sum xs
sum-fits xs j all count lt a b =
    let h = sum-more xs j all count lt a b in let le = sum_by-take-le (λ (x : ℕ). x) xs (j + 1) in omega (arith, h, le)

next : (old now : List ℕ) (j all : ℕ) → j < length now → all ≡ sum (take j old) → ((i : ℕ) → i < j → get_or now i 0 ≡ sum (take i old))
    → (i : ℕ) → i < j + 1 → get_or (set now j all) i 0 ≡ sum (take i old)
next old now j all lt is so i less = elim (cases_eq i j) [
  | inl e ↦ rw (e, get_or-set_same now j all 0 lt) is
  | inr diff ↦ get_or-set_other now j i all 0 diff ∙ so i (omega (arith, less, diff))
]

from : (old now : List ℕ) (j all : ℕ) → j + 1 < length now → all ≡ sum (take (j + 1) old)
    → ((i : ℕ) → i ≤ j → get_or now i 0 ≡ sum (take i old)) → (i : ℕ) → i ≤ j + 1 → get_or (set now (j + 1) all) i 0 ≡ sum (take i old)
from old now j all lt is so i less = elim (cases_eq i (j + 1)) [
  | inl e ↦ rw (e, get_or-set_same now (j + 1) all 0 lt) is
  | inr diff ↦ get_or-set_other now (j + 1) i all 0 diff ∙ so i (omega (arith, less, diff))
]

pub overflow_add-all : goal.overflow_add-all
overflow_add-all c =
    let old = c.args.next.now.items in
    let l = c.loop-j in
    let count =
    get_or_read l.next.items l.j c.index-count.result.now (omega arith) c.index-count.ensures 0 ∙ l.invariant.later l.j (omega arith) in
    let le = sum-fits old l.j l.all c.index-count.result.now (omega arith) l.invariant.all count in
    omega (arith, le)

pub overflow_cast-all : goal.overflow_cast-all
overflow_cast-all c =
    let old = c.args.next.now.items in
    let l = c.loop-j in
    let count =
    get_or_read l.next.items l.j c.index-count.result.now (omega arith) c.index-count.ensures 0 ∙ l.invariant.later l.j (omega arith) in
    let le = sum-fits old l.j l.all c.index-count.result.now (omega arith) l.invariant.all count in
    omega (arith, le)

pub loop-j-preserved : goal.loop-j-preserved
loop-j-preserved c =
    let old = c.args.next.now.items in
    let l = c.loop-j in
    let lt : l.j < length old = omega arith in
    let count =
    get_or_read l.next.items l.j c.index-count.result.now (omega arith) c.index-count.ensures 0 ∙ l.invariant.later l.j (omega arith) in
    let more = sum-more old l.j l.all c.index-count.result.now lt l.invariant.all count in
    record {
      next_long = search rules;
      from_long = search rules;
      all = more;
      next = λ i lt. next old l.next.items l.j l.all (omega arith) l.invariant.all l.invariant.next i lt;
      later = λ i le. get_or-set_other l.next.items l.j i l.all 0 (λ e. omega (arith, le, e)) ∙ l.invariant.later i (omega (arith, le));
      from = λ i le. from old l.from.items l.j (l.all + c.index-count.result.now) (omega arith) more l.invariant.from i le;
    }
