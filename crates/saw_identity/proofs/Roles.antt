-- Where a role is kept, by where a setting of its name would be.
use Rattle.std.proofs.Common.{◌≡◌, ℕ, List, ◌++◌, drop, length, take, sym, ap, ap₂, ◌∙◌, arith}
use Rattle.std.specs.List.{flat_map}
use Rattle.std.proofs.lemmas.List.{drop_at, length-take-le, take-append-drop, take-append-le}
use Rattle.sha2.proofs.Facts256.{length-sha256}
use Rattle.sha2.specs.Sha256.{sha256}
use Rattle.saw_settings.specs.Keys.{address_of, head_part, parts_of}

-- the first 8 bytes of a digest
abbrev first_of : List ℕ → List ℕ
first_of part = take 8 (sha256 part)

first_is_long : (part : List ℕ) → length (first_of part) ≡ 8
first_is_long part = length-take-le 8 (sha256 part) (omega (arith, length-sha256 part))

fewer : (part : List ℕ) → take 7 (first_of part) ≡ take 7 (sha256 part)
fewer part =
    sym (take-append-le 7 (first_of part) (drop 8 (sha256 part)) (omega (arith, first_is_long part))) ∙ ap (take 7) (take-append-drop 8 (sha256 part))

-- what is taken of the place of a setting
pub role_tail : (name : List ℕ) → take 7 (drop 3 (address_of name)) ++ drop 11 (address_of name)
    ≡ take 7 (sha256 (head_part name)) ++ flat_map first_of (drop 1 (parts_of name))
unfolding address_of
role_tail name =
    let first = first_of (head_part name) in
    let others = flat_map first_of (drop 1 (parts_of name)) in
    ap₂ (λ (front back : List ℕ). front ++ back)
    (take-append-le 7 first others (omega (arith, first_is_long (head_part name))) ∙ fewer (head_part name))
    (drop_at first others 8 (first_is_long (head_part name)))
