-- What stands behind the last known block of a branch.
use Rattle.std.proofs.Common.{◌≡◌, ℕ, Bool, true, false, cond, true≢false, ◌||◌, Some, None, List, [], ◌∷◌, ◌++◌, length, ◌==◌, refl, sym, ap, ◌∙◌}
use Rattle.std.proofs.lemmas.List.{append_assoc}
use Rattle.std.specs.Option.{option_or}
use Rattle.std.specs.List.{list_any}
use Rattle.saw_receipts.specs.declared.block.BlockRecord.{BlockRecord}
use Rattle.saw_events.specs.Replays.{behind_last, is_known, news_of}

module _ {A : Type 0} (test : A → Bool) where
  or_none : (b : Bool) (x : A) (xs : List A) → (b || list_any test xs) ≡ false → (list_any test xs ≡ false → behind_last test xs ≡ None)
      → option_or (behind_last test xs) (cond b (Some xs) None) ≡ None
  or_none true x xs none more = absurd (true≢false none)
  or_none false x xs none more = ap (λ found. option_or found None) (more none)

  behind_none : (xs : List A) → list_any test xs ≡ false → behind_last test xs ≡ None
  behind_none [] none = refl
  behind_none (x ∷ xs) none = or_none (test x) x xs none (behind_none xs)

  behind_one : (front : List A) (x : A) (later : List A) → test x ≡ true → list_any test later ≡ false
      → behind_last test (front ++ x ∷ later) ≡ Some later
  behind_one [] x later is none =
      ap (λ found. option_or found (cond (test x) (Some later) None)) (behind_none later none) ∙ ap (λ b. cond b (Some later) None) is
  behind_one (y ∷ front) x later is none =
      ap (λ found. option_or found (cond (test y) (Some (front ++ x ∷ later)) None)) (behind_one front x later is none)

news_behind : (known : List (List ℕ)) (front : List BlockRecord) (block : BlockRecord) (later : List BlockRecord)
    → is_known known block ≡ true → list_any (is_known known) later ≡ false → news_of known (front ++ block ∷ later) ≡ Some later
news_behind [] front block later is none = absurd (true≢false (sym is))
news_behind (first ∷ others) front block later is none = behind_one (is_known (first ∷ others)) front block later is none

-- a known block with no known one behind it
pub known_here : (known : List (List ℕ)) (walk front : List BlockRecord) (block : BlockRecord) (later branch : List BlockRecord)
    → walk ≡ front ++ block ∷ [] → walk ++ later ≡ branch → is_known known block ≡ true → list_any (is_known known) later ≡ false
    → news_of known branch ≡ Some later
known_here known walk front block later branch cut whole is none =
    ap (news_of known) (sym whole ∙ ap (λ walk. walk ++ later) cut ∙ append_assoc front (block ∷ []) later)
    ∙ news_behind known front block later is none

-- no known block at all
pub known_nowhere : (known : List (List ℕ)) (walk later branch : List BlockRecord) → walk ≡ [] → walk ++ later ≡ branch
    → list_any (is_known known) later ≡ false → (length known == 0) ≡ false → news_of known branch ≡ None
known_nowhere [] walk later branch end whole none some = absurd (true≢false some)
known_nowhere (first ∷ others) walk later branch end whole none some =
    ap (behind_last (is_known (first ∷ others))) (sym whole ∙ ap (λ walk. walk ++ later) end) ∙ behind_none (is_known (first ∷ others)) later none
