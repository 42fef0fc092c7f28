-- What the batches of a generated stream do: two transactions each, by two draws.
use Rattle.std.specs.Prelude.{ℕ, ◌+◌, ◌*◌, ◌%◌, ◌++◌, ◌&&◌, ◌==◌, List, codes, nat_lt, if◌then◌else◌}
use Rattle.std.specs.Fmt.{decimal}
use Rattle.saw_intkey.specs.declared.payload.Payload.{Payload}
use Rattle.saw_intkey.specs.declared.payload.Verb.TheVariants.{Set, Inc}
use Rattle.saw_generate.specs.Draws.{draw_at}
use Rattle.saw_generate.specs.declared.wish.GenerateWish.{GenerateWish}

-- the name that the batches at one place of each block change
abbrev pub name_at : ℕ → List ℕ
name_at k = codes "n" ++ decimal k

-- the name that conflicts change
abbrev pub hot : List ℕ
hot = codes "hot"

abbrev pub set_to : List ℕ → ℕ → Payload
set_to name value = record { verb = Set; name = name; value = value }

abbrev pub add_to : List ℕ → ℕ → Payload
add_to name value = record { verb = Inc; name = name; value = value }

-- the first transaction of batch k of block b, by a draw: the first block sets each name, and later ones add to it
abbrev pub first_by : ℕ → ℕ → ℕ → Payload
first_by b k p = if b == 0 then set_to (name_at k) (p % 1000) else add_to (name_at k) (p % 10)

-- so many of a hundred draws add to the one name, and the others to the batch's own
abbrev pub added_by : ℕ → ℕ → ℕ → Payload
added_by conflicts k q = if nat_lt (q % 100) conflicts then add_to hot 1 else add_to (name_at k) 1

-- the second transaction; that of the very first batch sets the one name
abbrev pub second_by : ℕ → ℕ → ℕ → ℕ → Payload
second_by conflicts b k q = if b == 0 && k == 0 then set_to hot 0 else added_by conflicts k q

-- how many draws were made before batch k of block b
abbrev pub draws_before : GenerateWish → ℕ → ℕ → ℕ
draws_before wish b k = 2 * (b * wish.batches + k)

abbrev pub first_of : GenerateWish → ℕ → ℕ → Payload
first_of wish b k = first_by b k (draw_at wish.start (draws_before wish b k))

abbrev pub second_of : GenerateWish → ℕ → ℕ → Payload
second_of wish b k = second_by wish.conflicts b k (draw_at wish.start (draws_before wish b k + 1))
