-- A text without the spaces at its ends, as `trim_start_matches` and `trim_end_matches` leave it.
use Rattle.std.proofs.Common.{◌≡◌, ◌≢◌, ℕ, ◌-◌, Bool, true, false, List, [], ◌∷◌, ◌++◌, length, take, drop, reverse, Option, Some, None, IfSome, refl, sym, ap, ◌∙◌, lit<, one-add, arith, length-append, length-drop, length-take, take-append-drop}
use Rattle.std.specs.Prelude.{◌==◌}
use Rattle.std.specs.Str.Pattern.{CutsPrefixes, CutsSuffixes, FindsCharPrefix, FindsCharSuffix, IsTrimStartMatches, IsTrimEndMatches}
use Rattle.std.proofs.Math.Seq.{drop-length}
use Rattle.std.proofs.lemmas.Bool.{eqb-true}
use Rattle.std.proofs.lemmas.List.{reverse-append, reverse-reverse}
use Rattle.std.proofs.lemmas.Str.Pattern.{drop_at_char, strip_prefix_char, strip_suffix_char}
use Rattle.saw_settings.specs.Values.{without_spaces}

space_more : (t : List ℕ) → without_spaces (32 ∷ t) ≡ without_spaces t
space_more t = rw one-add refl

-- where no space stands at the front, nothing is left out
none_at_front : (r : List ℕ) → ((rest : List ℕ) → r ≢ 32 ∷ rest) → without_spaces r ≡ r
none_at_front [] h = refl
none_at_front (b ∷ r) h = go (b == 32) refl
  where
    go : (space : Bool) → (b == 32) ≡ space → without_spaces (b ∷ r) ≡ b ∷ r
    go true is = absurd (h r (ap (λ c. c ∷ r) (eqb-true b 32 is)))
    go false is = rw is refl

-- ---- at the front

no_space_first : (r : List ℕ) (o : Option ℕ) → FindsCharPrefix 32 r o → IfSome o (λ n. n ≡ 0) → (rest : List ℕ) → r ≢ 32 ∷ rest
no_space_first r None finds small = strip_prefix_char 32 r None finds (lit< tt)
no_space_first r (Some n) finds small = λ rest e. omega (arith, ap length (drop_at_char 32 r 0 n finds (lit< tt)), length-drop n r, small)

first_cut : (s r : List ℕ) (ns : List ℕ) → CutsPrefixes (FindsCharPrefix 32) s ns r → without_spaces s ≡ without_spaces r
first_cut s r [] e = ap without_spaces (sym e)
first_cut s r (n ∷ ns) (m, cuts, finds, is) = first_cut s m ns cuts ∙ ap without_spaces (drop_at_char 32 m 0 n finds (lit< tt)) ∙ space_more (drop n m)
    ∙ ap without_spaces (sym is)

pub start_trimmed : (s r : List ℕ) → IsTrimStartMatches (FindsCharPrefix 32) s r → r ≡ without_spaces s
start_trimmed s r ((ns, cuts), (o, finds, small)) = sym (none_at_front r (no_space_first r o finds small)) ∙ sym (first_cut s r ns cuts)

-- ---- at the end

ends_so : (s : List ℕ) (n : ℕ) → FindsCharSuffix 32 s (Some n) → s ≡ take (length s - n) s ++ 32 ∷ []
ends_so s n finds = sym (take-append-drop (length s - n) s)
    ∙ ap (λ t. take (length s - n) s ++ t) (drop_at_char 32 s (length s - n) (length s) finds.1 (lit< tt) ∙ ap (λ t. 32 ∷ t) (drop-length s))

no_space_last : (r : List ℕ) (o : Option ℕ) → FindsCharSuffix 32 r o → IfSome o (λ n. n ≡ 0) → (front : List ℕ) → r ≢ front ++ 32 ∷ []
no_space_last r None finds small = strip_suffix_char 32 r None finds (lit< tt)
no_space_last r (Some n) finds small = λ front e. omega (
  arith,
  ap length (ends_so r n finds),
  length-append (take (length r - n) r) (32 ∷ []),
  length-take (length r - n) r,
  small,
)

last_cut : (s r : List ℕ) (ns : List ℕ) → CutsSuffixes (FindsCharSuffix 32) s ns r → without_spaces (reverse s) ≡ without_spaces (reverse r)
last_cut s r [] e = ap (λ t. without_spaces (reverse t)) (sym e)
last_cut s r (n ∷ ns) (m, cuts, finds, is) = last_cut s m ns cuts
    ∙ ap without_spaces (ap reverse (ends_so m n finds) ∙ reverse-append (take (length m - n) m) (32 ∷ []))
    ∙ space_more (reverse (take (length m - n) m)) ∙ ap (λ t. without_spaces (reverse t)) (sym is)

pub end_trimmed : (s r : List ℕ) → IsTrimEndMatches (FindsCharSuffix 32) s r → r ≡ reverse (without_spaces (reverse s))
end_trimmed s r ((ns, cuts), (o, finds, small)) =
    let apart : (rest : List ℕ) → reverse r ≢ 32 ∷ rest = λ rest e. no_space_last r o finds small (reverse rest)
    (sym (reverse-reverse r) ∙ ap reverse e ∙ reverse-append (32 ∷ []) rest) in
    sym (reverse-reverse r) ∙ ap reverse (sym (none_at_front (reverse r) apart) ∙ sym (last_cut s r ns cuts))
