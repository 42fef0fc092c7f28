-- Where policies and roles are kept.
use Rattle.std.specs.Prelude.{ℕ, List, ◌∷◌, ◌++◌, drop, take}
use Rattle.std.specs.List.{flat_map}
use Rattle.sha2.specs.Sha256.{sha256}
use Rattle.saw_settings.specs.Keys.{head_part, parts_of}

-- the bytes 0, 0, 1d and 0, and the first 31 bytes of SHA-256 of the name
unfoldable pub policy_address : List ℕ → List ℕ
policy_address name = 0 ∷ 0 ∷ 0x1d ∷ 0 ∷ take 31 (sha256 name)

-- The bytes 0, 0, 1d and 1, of SHA-256 of the name's first part 7 bytes, and of that of each of three further parts 8. The name
-- is cut as the key of a setting is.
unfoldable pub role_address : List ℕ → List ℕ
role_address name =
    0 ∷ 0 ∷ 0x1d ∷ 1 ∷ take 7 (sha256 (head_part name)) ++ flat_map (λ part. take 8 (sha256 part)) (drop 1 (parts_of name))
