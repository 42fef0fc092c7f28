-- The payload of an XO transaction: a name, an action and a space, between commas.
use Rattle.std.specs.Prelude.{ℕ, ◌-◌, Bool, ◌&&◌, not, List, [], ◌∷◌, length, Option, Some, None, Result, Ok, Err, nat_le, ◌==◌, if◌then◌else◌, codes}
use Rattle.std.specs.List.{list_any, slice_split}
use Rattle.std.specs.Str.{bytes_eq, is_utf8}
use Rattle.saw_xo.specs.declared.payload.Payload.{Payload}
use Rattle.saw_xo.specs.declared.payload.Act.{Act}
use Rattle.saw_xo.specs.declared.payload.Act.TheVariants.{Create, Take, Delete}

-- what stands between the bytes that are the separator
abbrev pub parts_of : ℕ → List ℕ → List (List ℕ)
parts_of separator text = slice_split (λ b. b == separator) text

-- one character from `1` to `9`, as a place of the board, counted from 0
abbrev pub place_in : List ℕ → Option ℕ
place_in (c ∷ []) = if nat_le 49 c && nat_le c 57 then Some (c - 49) else None
place_in _ = None

-- not empty, and without `|`
abbrev pub is_name : List ℕ → Bool
is_name name = not (length name == 0) && not (list_any (λ b. b == 124) name)

-- ---- the checks, in order: 201 three parts, 202 the name, 203 the action, 204 the space of a take

abbrev pub take_at : Option ℕ → Result Act ℕ
take_at None = Err 204
take_at (Some place) = Ok (Take place)

abbrev pub act_in : List ℕ → List ℕ → Result Act ℕ
act_in action space =
    if bytes_eq action (codes "create") then Ok Create
    else if bytes_eq action (codes "take") then take_at (place_in space)
    else if bytes_eq action (codes "delete") then Ok Delete
    else Err 203

abbrev pub with_act : List ℕ → Result Act ℕ → Result Payload ℕ
with_act name (Ok act) = Ok (record { name = name; act = act })
with_act name (Err number) = Err number

abbrev pub payload_in : List ℕ → List ℕ → List ℕ → Result Payload ℕ
payload_in name action space = if not (is_name name) then Err 202 else with_act name (act_in action space)

abbrev pub payload_by : List (List ℕ) → Result Payload ℕ
payload_by (name ∷ action ∷ space ∷ []) = payload_in name action space
payload_by _ = Err 201

-- the payload that bytes say, or the number of the first check that fails
unfoldable pub payload_of : List ℕ → Result Payload ℕ
payload_of whole = if not (is_utf8 whole) then Err 201 else payload_by (parts_of 44 whole)
