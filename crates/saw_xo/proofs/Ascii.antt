-- Entries are UTF-8.
use Rattle.std.proofs.Common.{◌≡◌, ℕ, ◌<◌, true, ltb, List, [], ◌∷◌, ◌++◌, map, zero, suc, slice_index, refl, arith}
use Rattle.std.specs.List.{AllByRecursion, list_all, join_with_byte}
use Rattle.std.specs.Str.{IsUtf8}
use Rattle.std.proofs.lemmas.Bool.{and_from, and_parts, ltb-true}
use Rattle.std.proofs.lemmas.Str.{IsUtf8-append, IsUtf8-from_ascii, IsUtf8-from_is_utf8, IsUtf8-nil}
use Rattle.saw_xo.specs.Games.{entry_text, mark_code, standing_text}
use Rattle.saw_xo.specs.Laws.{IsEntry}
use Rattle.saw_xo.specs.declared.game.Game.{Game}
use Rattle.saw_xo.specs.declared.game.Mark.{Mark}
use Rattle.saw_xo.specs.declared.game.Mark.TheVariants.{Empty, X, O}
use Rattle.saw_xo.specs.declared.game.Standing.{Standing}
use Rattle.saw_xo.specs.declared.game.Standing.TheVariants.{FirstNext, SecondNext, FirstWon, SecondWon, Tie}

ascii_from : (bs : List ℕ) → list_all (λ b. ltb b 128) bs ≡ true → (i : ℕ) → slice_index bs i < 128
ascii_from [] h i = omega arith
ascii_from (b ∷ bs) h zero = ltb-true b 128 (and_parts (ltb b 128) (list_all (λ b. ltb b 128) bs) h).0
ascii_from (b ∷ bs) h (suc i) = ascii_from bs (and_parts (ltb b 128) (list_all (λ b. ltb b 128) bs) h).1 i

utf8_from : (bs : List ℕ) → list_all (λ b. ltb b 128) bs ≡ true → IsUtf8 bs
utf8_from bs h = IsUtf8-from_ascii bs (ascii_from bs h)

mark_is_ascii : (mark : Mark) → ltb (mark_code mark) 128 ≡ true
mark_is_ascii Empty = refl
mark_is_ascii X = refl
mark_is_ascii O = refl

board_is_ascii : (board : List Mark) → list_all (λ b. ltb b 128) (map mark_code board) ≡ true
board_is_ascii [] = refl
board_is_ascii (mark ∷ board) = and_from (ltb (mark_code mark) 128) (list_all (λ b. ltb b 128) (map mark_code board)) (mark_is_ascii mark)
    (board_is_ascii board)

standing_is_ascii : (standing : Standing) → list_all (λ b. ltb b 128) (standing_text standing) ≡ true
standing_is_ascii FirstNext = refl
standing_is_ascii SecondNext = refl
standing_is_ascii FirstWon = refl
standing_is_ascii SecondWon = refl
standing_is_ascii Tie = refl

after_comma : (front part : List ℕ) → IsUtf8 front → IsUtf8 part → IsUtf8 ((front ++ 44 ∷ []) ++ part)
after_comma front part f p = IsUtf8-append (front ++ 44 ∷ []) part (IsUtf8-append front (44 ∷ []) f (utf8_from (44 ∷ []) refl)) p

entry_utf8 : (entry : List ℕ × Game) → IsEntry entry → IsUtf8 (entry_text entry)
entry_utf8 entry is =
    let board = map mark_code entry.1.board in
    let standing = standing_text entry.1.standing in
    let first = entry.1.first_key in
    let second = entry.1.second_key in
    let a = after_comma entry.0 board (IsUtf8-from_is_utf8 entry.0 is.name.utf8) (utf8_from board (board_is_ascii entry.1.board)) in
    let b = after_comma ((entry.0 ++ 44 ∷ []) ++ board) standing a (utf8_from standing (standing_is_ascii entry.1.standing)) in
    let c = after_comma ((((entry.0 ++ 44 ∷ []) ++ board) ++ 44 ∷ []) ++ standing) first b (IsUtf8-from_is_utf8 first is.first_key.utf8) in
    after_comma ((((((entry.0 ++ 44 ∷ []) ++ board) ++ 44 ∷ []) ++ standing) ++ 44 ∷ []) ++ first) second c (IsUtf8-from_is_utf8 second is.second_key.utf8)

pub texts_utf8 : (entries : List (List ℕ × Game)) → AllByRecursion IsEntry entries → IsUtf8 (join_with_byte 124 (map entry_text entries))
texts_utf8 [] all = IsUtf8-nil
texts_utf8 (entry ∷ []) all = entry_utf8 entry all.0
texts_utf8 (entry ∷ next ∷ entries) all =
    let rest = join_with_byte 124 (map entry_text (next ∷ entries)) in
    IsUtf8-append (entry_text entry) (124 ∷ rest) (entry_utf8 entry all.0)
    (IsUtf8-append (124 ∷ []) rest (utf8_from (124 ∷ []) refl) (texts_utf8 (next ∷ entries) all.1))
