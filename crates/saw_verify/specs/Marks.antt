-- The digest mark.
use Rattle.std.specs.Prelude.{ℕ, Bool, List, ◌++◌}
use Rattle.std.specs.Str.{bytes_eq}
use Rattle.hex.specs.Hex.{encode_lower}
use Rattle.sha2.specs.Sha512.{sha512}

-- the hex digits of SHA-512 of the key's text followed by the message
abbrev pub mark_of : List ℕ → List ℕ → List ℕ
mark_of key message = encode_lower (sha512 (key ++ message))

-- a signature is accepted exactly where it is the mark
abbrev pub accepts_mark : List ℕ → List ℕ → List ℕ → Bool
accepts_mark key message signature = bytes_eq signature (mark_of key message)
