-- Sets in blocks.
use Rattle.std.proofs.Common.{◌≡◌, ◌≢◌, ◌<◌, ◌≤◌, ◌+◌, ◌*◌, ℕ, Bool, true, false, List, length, get_or, set, sym, ◌∙◌, arith, ◌⊎◌, inl, inr, true≢false, min, get_or-set_same, get_or-set_other, length-set}
use Rattle.std.proofs.Math.ListN.{get_or-eq_default}
use Rattle.std.proofs.lemmas.Bool.{cases_eq, cases_lt, false_from_ne_true}
use Rattle.saw_ready.specs.Sets.{Covers, NoneIn}

pub none-join : (flags : List Bool) (a b c : ℕ) → NoneIn flags a b → NoneIn flags b c → NoneIn flags a c
none-join flags a b c p q i l r = elim (cases_lt i b) [ inl h ↦ p i l h | inr h ↦ q i h r ]

-- beyond the end there is none
pub none-past : (flags : List Bool) (a b : ℕ) → NoneIn flags a (min b (length flags)) → NoneIn flags a b
none-past flags a b p i l r = elim (cases_lt i (length flags)) [
  | inl h ↦ p i l (omega arith)
  | inr h ↦ get_or-eq_default flags false h
]

pub none-unmarked : (flags blocks : List Bool) (b : ℕ) → Covers flags blocks → get_or blocks b false ≡ false
    → NoneIn flags (b * 128) (b * 128 + 128)
none-unmarked flags blocks b covers e i l r =
    false_from_ne_true (get_or flags i false) (λ t. true≢false (sym (covers.marked b i l r t) ∙ e))

pub covers-clear : (flags blocks : List Bool) (b : ℕ) → b < length blocks → Covers flags blocks → NoneIn flags (b * 128) (b * 128 + 128)
    → Covers flags (set blocks b false)
covers-clear flags blocks b lt covers none = record {
  enough = rw (length-set blocks b false) covers.enough;
  few = rw (length-set blocks b false) covers.few;
  marked = λ c i l r t. go c i l r t (cases_eq c b);
}
  where
    go : (c i : ℕ) → c * 128 ≤ i → i < c * 128 + 128 → get_or flags i false ≡ true → (c ≡ b) ⊎ (c ≢ b)
        → get_or (set blocks b false) c false ≡ true
    go c i l r t (inl e) = absurd (true≢false (sym t ∙ none i (rw e at l) (rw e at r)))
    go c i l r t (inr diff) = rw (get_or-set_other blocks b c false false diff) (covers.marked c i l r t)

pub none-next : (flags : List Bool) (a b : ℕ) → NoneIn flags a (b * 128) → NoneIn flags (b * 128) (b * 128 + 128)
    → NoneIn flags a ((b + 1) * 128)
none-next flags a b p q i l r = none-join flags a (b * 128) (b * 128 + 128) p q i l (omega (arith, r))

pub in-before : (flags : List Bool) (from to i : ℕ) → NoneIn flags from to → get_or flags i false ≡ true → i < to → i < from
in-before flags from to i none h lt = elim (cases_lt i from) [ inl b ↦ b | inr a ↦ absurd (true≢false (sym h ∙ none i a lt)) ]

-- ---- one taken away

pub none-cut : (flags : List Bool) (start from k : ℕ) → k < length flags → NoneIn flags start from → NoneIn flags from k
    → NoneIn (set flags k false) start (k + 1)
none-cut flags start from k lt p q i l r = go (cases_eq i k) (cases_lt i from)
  where
    go : (i ≡ k) ⊎ (i ≢ k) → (i < from) ⊎ (from ≤ i) → get_or (set flags k false) i false ≡ false
    go (inl e) h = rw e (get_or-set_same flags k false false lt)
    go (inr diff) (inl h) = get_or-set_other flags k i false false diff ∙ p i l h
    go (inr diff) (inr h) = get_or-set_other flags k i false false diff ∙ q i h (omega (arith, r, diff))
