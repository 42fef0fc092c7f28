-- Sets of ids, by their bits.
use Rattle.std.specs.Prelude.{◌≡◌, ℕ, ◌+◌, ◌*◌, ◌/◌, ◌%◌, ◌^◌, ◌==◌, ◌&&◌, ◌||◌, Bool, true, false, not, List, length, map, nat_le, take}
use Rattle.std.specs.Prelude.{Option, Some, None, slice_get, bit_and, if◌then◌else◌}
use Rattle.std.specs.Arc.{arc_value}
use Rattle.std.specs.Int.{from_le_bytes, w64}
use Rattle.std.specs.List.{list_any}
use Rattle.std.specs.Str.{bytes_eq}
use Rattle.saw_ids.specs.Seen.{is_among}
use Rattle.saw_ids.specs.declared.set.IdSet.{IdSet}
use Rattle.saw_ids.specs.declared.set.Marked.{Marked}
use Rattle.saw_ids.specs.declared.set.Tree.{Tree, Few, Fork'}

-- the first eight bytes as a number; of less, 0
unfoldable pub mark_of : List ℕ → ℕ
mark_of id = if nat_le 8 (length id) then from_le_bytes w64 (take 8 id) else 0

abbrev pub text_of : Marked → List ℕ
text_of one = arc_value one.id

-- a marked id by itself, and such ids
abbrev pub entry_of : Marked → ℕ × List ℕ
entry_of one = (one.mark, text_of one)

abbrev pub entries_of : List Marked → List (ℕ × List ℕ)
entries_of ids = map entry_of ids

-- whether one of these has the mark of the id, and is it
abbrev pub is_marked : List (ℕ × List ℕ) → List ℕ → Bool
is_marked entries id = list_any (λ other. other.0 == mark_of id && bytes_eq other.1 id) entries

-- a bit of the value of a hex digit; of none, 0
abbrev pub bit_of : Option ℕ → ℕ → Bool
bit_of None bit = false
bit_of (Some digit) bit = bit_and ((bit_and digit 15 + 9 * (digit / 64)) / 2 ^ bit) 1 == 1

-- the way of an id at a bit: four bits a digit
unfoldable pub turns : List ℕ → ℕ → Bool
turns id bit = bit_of (slice_get id (bit / 4)) (bit % 4)

-- whether a marked id goes this way
abbrev pub goes : ℕ → Bool → ℕ × List ℕ → Bool
goes bit false one = not (turns one.1 bit)
goes bit true one = turns one.1 bit

-- whether the tree has the id: each fork shows where it must be
abbrev pub has : Tree → List ℕ → Bool
has (Few bit ids) id = is_marked (entries_of ids) id
has (Fork' bit p zero q one) id = if turns id bit then has one id else has zero id

-- the tree has what the other has, and this id
abbrev pub HasOneMore : Tree → List ℕ → Tree → Type 0
HasOneMore tree id made = (other : List ℕ) → has made other ≡ (has tree other || bytes_eq id other)

-- the trees have the same ids
abbrev pub HasSame : Tree → Tree → Type 0
HasSame tree other = (id : List ℕ) → has other id ≡ has tree id

-- exactly these ids are in the set
abbrev pub HasIds : IdSet → List (List ℕ) → Type 0
HasIds set ids = (id : List ℕ) → has set.tree id ≡ is_among ids id
