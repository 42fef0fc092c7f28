-- A text without the spaces at both ends, by how many there are at each.
use Rattle.std.proofs.Common.{◌≡◌, ℕ, ◌-◌, List, ◌++◌, length, take, drop, reverse, sym, ap, ◌∙◌}
use Rattle.std.specs.Prelude.{◌==◌}
use Rattle.std.specs.List.{prefix_len, take_while}
use Rattle.std.proofs.lemmas.List.{length-drop, length-reverse, reverse-append, reverse-reverse, take-append-drop, take_at, take_rest}
use Rattle.std.proofs.lemmas.List.Folds.{length-prefix_len}
use Rattle.saw_settings.specs.Values.{trimmed, without_spaces}

-- a list without its last elements, by its reverse
reverse-drop : (n : ℕ) (xs : List ℕ) → reverse (drop n (reverse xs)) ≡ take (length xs - n) xs
reverse-drop n xs =
    let ys = reverse xs in
    let whole : reverse (drop n ys) ++ reverse (take n ys) ≡ xs = sym (reverse-append (take n ys) (drop n ys)) ∙ ap reverse (take-append-drop n ys)
    ∙ reverse-reverse xs in
    let long : length (reverse (drop n ys)) ≡ length xs - n = length-reverse (drop n ys) ∙ length-drop n ys ∙ ap (λ k. k - n) (length-reverse xs) in
    sym (take_at (reverse (drop n ys)) (reverse (take n ys)) (length xs - n) long) ∙ ap (take (length xs - n)) whole

without_last : (text : List ℕ) (j : ℕ) → j ≡ length (take_while (λ b. b == 32) (reverse text))
    → take (length text - j) text ≡ reverse (without_spaces (reverse text))
without_last text j is = rw (is, length-prefix_len (λ b. b == 32) (reverse text)) (sym (reverse-drop (prefix_len (λ b. b == 32) (reverse text)) text))

without_first : (text : List ℕ) (i : ℕ) → i ≡ length (take_while (λ b. b == 32) text) → take (length text - i) (drop i text) ≡ without_spaces text
without_first text i is = take_rest text i ∙ ap (λ n. drop n text) (is ∙ length-prefix_len (λ b. b == 32) text)

-- i spaces are left out at the front, and j at the end
pub trimmed_is : (text : List ℕ) (i j : ℕ) → i ≡ length (take_while (λ b. b == 32) text)
    → j ≡ length (take_while (λ b. b == 32) (reverse (take (length text - i) (drop i text))))
    → take (length (take (length text - i) (drop i text)) - j) (take (length text - i) (drop i text)) ≡ trimmed text
trimmed_is text i j first last = without_last (take (length text - i) (drop i text)) j last
    ∙ ap (λ t. reverse (without_spaces (reverse t))) (without_first text i first)
