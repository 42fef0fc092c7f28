-- What a payload makes of the games.
use Rattle.std.specs.Prelude.{ℕ, Bool, true, false, ◌||◌, not, List, [], ◌∷◌, length, slice_index_or, slice_set, Option, Some, None, Result, Ok, Err, ◌==◌, if◌then◌else◌}
use Rattle.std.specs.FinMap as finite
use Rattle.std.specs.List.{list_all, list_any}
use Rattle.std.specs.Str.{bytes_eq}
use Rattle.saw_xo.specs.Games.{Games}
use Rattle.saw_xo.specs.declared.game.Game.{Game}
use Rattle.saw_xo.specs.declared.game.Mark.{Mark}
use Rattle.saw_xo.specs.declared.game.Mark.TheVariants.{Empty, X, O}
use Rattle.saw_xo.specs.declared.game.Player.{Player}
use Rattle.saw_xo.specs.declared.game.Player.TheVariants.{First, Second}
use Rattle.saw_xo.specs.declared.game.Standing.{Standing}
use Rattle.saw_xo.specs.declared.game.Standing.TheVariants.{FirstNext, SecondNext, FirstWon, SecondWon, Tie}
use Rattle.saw_xo.specs.declared.payload.Payload.{Payload}
use Rattle.saw_xo.specs.declared.payload.Act.{Act}
use Rattle.saw_xo.specs.declared.payload.Act.TheVariants.{Create, Take, Delete}

abbrev pub is_mark : Mark → Mark → Bool
is_mark Empty Empty = true
is_mark X X = true
is_mark O O = true
is_mark _ _ = false

abbrev pub mark_at : List Mark → ℕ → Mark
mark_at board place = slice_index_or board place Empty

-- the rows, the columns and the diagonals, by places that count from 0
abbrev pub lines : List (List ℕ)
lines =
    (0 ∷ 1 ∷ 2 ∷ []) ∷ (3 ∷ 4 ∷ 5 ∷ []) ∷ (6 ∷ 7 ∷ 8 ∷ [])
    ∷ (0 ∷ 3 ∷ 6 ∷ []) ∷ (1 ∷ 4 ∷ 7 ∷ []) ∷ (2 ∷ 5 ∷ 8 ∷ [])
    ∷ (0 ∷ 4 ∷ 8 ∷ []) ∷ (2 ∷ 4 ∷ 6 ∷ []) ∷ []

-- whether a line is full of a mark
abbrev pub has_line : Mark → List Mark → Bool
has_line mark board = list_any (λ line. list_all (λ place. is_mark mark (mark_at board place)) line) lines

-- the player to move
abbrev pub mover : Standing → Option Player
mover FirstNext = Some First
mover SecondNext = Some Second
mover _ = None

abbrev pub mark_of : Player → Mark
mark_of First = X
mark_of Second = O

abbrev pub key_of : Player → Game → List ℕ
key_of First game = game.first_key
key_of Second game = game.second_key

-- where the game goes on after the player's move
abbrev pub other_next : Player → Standing
other_next First = SecondNext
other_next Second = FirstNext

-- a line decides before a full board
abbrev pub standing_after : Player → List Mark → Standing
standing_after player board =
    if has_line X board then FirstWon
    else if has_line O board then SecondWon
    else if list_any (is_mark Empty) board then other_next player
    else Tie

abbrev pub new_game : Game
new_game = record {
  board = Empty ∷ Empty ∷ Empty ∷ Empty ∷ Empty ∷ Empty ∷ Empty ∷ Empty ∷ Empty ∷ [];
  standing = FirstNext;
  first_key = [];
  second_key = [];
}

abbrev pub is_free : List ℕ → Bool
is_free key = length key == 0

-- the first key is the signer's where there is none yet, else the second one is where there is none yet
abbrev pub after_move : List ℕ → Player → ℕ → Game → Game
after_move signer player place game = record {
  board = slice_set game.board place (mark_of player);
  standing = standing_after player (slice_set game.board place (mark_of player));
  first_key = if is_free game.first_key then signer else game.first_key;
  second_key = if is_free game.first_key then game.second_key else if is_free game.second_key then signer else game.second_key;
}

-- 209 the game goes on, 210 the key of the player to move is free or the signer's, 211 the space is free
abbrev pub taken_by : List ℕ → ℕ → Game → Option Player → Result Game ℕ
taken_by signer place game None = Err 209
taken_by signer place game (Some player) =
    if not (is_free (key_of player game) || bytes_eq (key_of player game) signer) then Err 210
    else if not (is_mark Empty (mark_at game.board place)) then Err 211
    else Ok (after_move signer player place game)

unfoldable pub taken : List ℕ → ℕ → Game → Result Game ℕ
taken signer place game = taken_by signer place game (mover game.standing)

abbrev pub with_game : Games → List ℕ → Result Game ℕ → Result Games ℕ
with_game games name (Ok game) = Ok (finite.insert games name game)
with_game games name (Err number) = Err number

-- 207 a game that is created is absent, 208 one that is taken or deleted is present
abbrev pub changed_by : List ℕ → Games → List ℕ → Act → Option Game → Result Games ℕ
changed_by signer games name Create None = Ok (finite.insert games name new_game)
changed_by signer games name Create (Some game) = Err 207
changed_by signer games name (Take place) None = Err 208
changed_by signer games name (Take place) (Some game) = with_game games name (taken signer place game)
changed_by signer games name Delete None = Err 208
changed_by signer games name Delete (Some game) = Ok (finite.remove games name)

-- what a payload of a signer makes of the games, or the number of the check that fails
unfoldable pub changed : List ℕ → Payload → Games → Result Games ℕ
changed signer payload games = changed_by signer games payload.name payload.act (finite.get games payload.name)
