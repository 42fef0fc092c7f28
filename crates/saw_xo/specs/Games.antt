-- What the family keeps at an address: games, as text.
use Rattle.std.specs.Prelude.{ℕ, List, [], ◌∷◌, ◌++◌, map, length, not, Option, Some, None, ◌==◌, if◌then◌else◌, codes}
use Rattle.std.specs.FinMap as finite
use Rattle.std.specs.Cmp.Lexicographic.{slice_cmp}
use Rattle.std.specs.List.{join_with_byte}
use Rattle.std.specs.Ordering.{nat_cmp}
use Rattle.std.specs.Str.{bytes_eq, is_utf8}
use Rattle.saw_messages.specs.Distinct.{are_distinct}
use Rattle.saw_xo.specs.Payloads.{parts_of}
use Rattle.saw_xo.specs.declared.game.Game.{Game}
use Rattle.saw_xo.specs.declared.game.Mark.{Mark}
use Rattle.saw_xo.specs.declared.game.Mark.TheVariants.{Empty, X, O}
use Rattle.saw_xo.specs.declared.game.Standing.{Standing}
use Rattle.saw_xo.specs.declared.game.Standing.TheVariants.{FirstNext, SecondNext, FirstWon, SecondWon, Tie}

-- the games by their names, in the order of the names' bytes
abbrev pub Games : Type 0
Games = finite.FinMap (slice_cmp nat_cmp) Game

-- `-`, `X` and `O`
abbrev pub mark_code : Mark → ℕ
mark_code Empty = 45
mark_code X = 88
mark_code O = 79

abbrev pub mark_in : ℕ → Option Mark
mark_in code = if code == 45 then Some Empty else if code == 88 then Some X else if code == 79 then Some O else None

abbrev pub standing_text : Standing → List ℕ
standing_text FirstNext = codes "P1-NEXT"
standing_text SecondNext = codes "P2-NEXT"
standing_text FirstWon = codes "P1-WIN"
standing_text SecondWon = codes "P2-WIN"
standing_text Tie = codes "TIE"

abbrev pub standing_in : List ℕ → Option Standing
standing_in text =
    if bytes_eq text (codes "P1-NEXT") then Some FirstNext
    else if bytes_eq text (codes "P2-NEXT") then Some SecondNext
    else if bytes_eq text (codes "P1-WIN") then Some FirstWon
    else if bytes_eq text (codes "P2-WIN") then Some SecondWon
    else if bytes_eq text (codes "TIE") then Some Tie
    else None

abbrev pub before_all : {A : Type 0} → Option A → Option (List A) → Option (List A)
before_all (Some x) (Some xs) = Some (x ∷ xs)
before_all _ _ = None

-- all of them, where none is missing
abbrev pub all_of : {A : Type 0} → List (Option A) → Option (List A)
all_of [] = Some []
all_of (x ∷ xs) = before_all x (all_of xs)

-- nine marks
abbrev pub board_in : List ℕ → Option (List Mark)
board_in text = if length text == 9 then all_of (map mark_in text) else None

abbrev pub game_by : Option (List Mark) → Option Standing → List ℕ → List ℕ → Option Game
game_by (Some board) (Some standing) first_key second_key = Some (record { board = board; standing = standing; first_key = first_key; second_key = second_key })
game_by _ _ first_key second_key = None

abbrev pub named : List ℕ → Option Game → Option (List ℕ × Game)
named name None = None
named name (Some game) = if length name == 0 then None else Some (name, game)

-- five parts: a name that is not empty, a board, a standing and two keys
abbrev pub entry_by : List (List ℕ) → Option (List ℕ × Game)
entry_by (name ∷ board ∷ standing ∷ first_key ∷ second_key ∷ []) = named name (game_by (board_in board) (standing_in standing) first_key second_key)
entry_by _ = None

-- the parts of an entry stand between commas
abbrev pub entry_in : List ℕ → Option (List ℕ × Game)
entry_in text = entry_by (parts_of 44 text)

-- the entries stand between bars
abbrev pub entries_in : List ℕ → Option (List (List ℕ × Game))
entries_in text = all_of (map entry_in (parts_of 124 text))

-- no name stands there twice
abbrev pub games_by : Option (List (List ℕ × Game)) → Option Games
games_by None = None
games_by (Some entries) = if are_distinct (map (λ entry. entry.0) entries) then Some (finite.from_entries entries) else None

-- the games that bytes say; no bytes say no games
unfoldable pub games_of : List ℕ → Option Games
games_of whole =
    if length whole == 0 then Some finite.empty
    else if not (is_utf8 whole) then None
    else games_by (entries_in whole)

-- a game as it is kept
abbrev pub entry_text : (List ℕ × Game) → List ℕ
entry_text entry =
    entry.0 ++ codes "," ++ map mark_code entry.1.board ++ codes "," ++ standing_text entry.1.standing ++ codes "," ++ entry.1.first_key ++ codes "," ++ entry.1.second_key

-- the bytes that are kept for games
unfoldable pub kept_bytes : Games → List ℕ
kept_bytes games = join_with_byte 124 (map entry_text (finite.entries games))
