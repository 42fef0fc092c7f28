-- Entries as they are written.
use Rattle.std.proofs.Common.{◌≡◌, ◌==◌, ◌<◌, ℕ, false, eqb, List, [], ◌∷◌, ◌++◌, map, length, Some, None, refl, ap, ◌∙◌, arith}
use Rattle.std.specs.List.{AllByRecursion, list_any}
use Rattle.std.proofs.lemmas.Bool.{cond-true, cond-false, eq-eqb, ne_eqb, or_from}
use Rattle.std.proofs.lemmas.List.{append_assoc, length-map}
use Rattle.saw_xo.specs.Games.{mark_code, mark_in, standing_text, standing_in, before_all, all_of, board_in, game_by, named, entry_by, entry_in, entry_text}
use Rattle.saw_xo.specs.Laws.{IsEntry}
use Rattle.saw_xo.specs.Payloads.{parts_of}
use Rattle.saw_xo.specs.declared.game.Game.{Game}
use Rattle.saw_xo.specs.declared.game.Mark.{Mark}
use Rattle.saw_xo.specs.declared.game.Mark.TheVariants.{Empty, X, O}
use Rattle.saw_xo.specs.declared.game.Standing.{Standing}
use Rattle.saw_xo.specs.declared.game.Standing.TheVariants.{FirstNext, SecondNext, FirstWon, SecondWon, Tie}
use Rattle.saw_xo.proofs.Cuts.{Lacks, lacks-append, parts_of-first, parts_of-none}

-- ---- marks and standings

mark_in-mark_code : (mark : Mark) → mark_in (mark_code mark) ≡ Some mark
mark_in-mark_code Empty = refl
mark_in-mark_code X = refl
mark_in-mark_code O = refl

all_of-codes : (board : List Mark) → all_of (map mark_in (map mark_code board)) ≡ Some board
all_of-codes [] = refl
all_of-codes (mark ∷ board) = ap (λ o. before_all o (all_of (map mark_in (map mark_code board)))) (mark_in-mark_code mark)
    ∙ ap (before_all (Some mark)) (all_of-codes board)

board_in-codes : (board : List Mark) → length board ≡ 9 → board_in (map mark_code board) ≡ Some board
board_in-codes board full =
    let text = map mark_code board in
    cond-true (eqb (length text) 9) (all_of (map mark_in text)) None (eq-eqb (length text) 9 (length-map board mark_code ∙ full)) ∙ all_of-codes board

standing_in-text : (standing : Standing) → standing_in (standing_text standing) ≡ Some standing
standing_in-text FirstNext = refl
standing_in-text SecondNext = refl
standing_in-text FirstWon = refl
standing_in-text SecondWon = refl
standing_in-text Tie = refl

-- ---- bytes that do not stand there

board_lacks : (c : ℕ) → ((mark : Mark) → (mark_code mark == c) ≡ false) → (board : List Mark) → Lacks c (map mark_code board)
board_lacks c none [] = refl
board_lacks c none (mark ∷ board) = or_from (mark_code mark == c) (list_any (λ b. b == c) (map mark_code board)) (none mark) (board_lacks c none board)

no_comma : (mark : Mark) → (mark_code mark == 44) ≡ false
no_comma Empty = refl
no_comma X = refl
no_comma O = refl

no_bar : (mark : Mark) → (mark_code mark == 124) ≡ false
no_bar Empty = refl
no_bar X = refl
no_bar O = refl

standing_lacks_commas : (standing : Standing) → Lacks 44 (standing_text standing)
standing_lacks_commas FirstNext = refl
standing_lacks_commas SecondNext = refl
standing_lacks_commas FirstWon = refl
standing_lacks_commas SecondWon = refl
standing_lacks_commas Tie = refl

standing_lacks_bars : (standing : Standing) → Lacks 124 (standing_text standing)
standing_lacks_bars FirstNext = refl
standing_lacks_bars SecondNext = refl
standing_lacks_bars FirstWon = refl
standing_lacks_bars SecondWon = refl
standing_lacks_bars Tie = refl

-- ---- entries

-- five parts with commas between them
commas : (a b c d e : List ℕ) → (((((((a ++ 44 ∷ []) ++ b) ++ 44 ∷ []) ++ c) ++ 44 ∷ []) ++ d) ++ 44 ∷ []) ++ e ≡ a ++ 44 ∷
    (b ++ 44 ∷ (c ++ 44 ∷ (d ++ 44 ∷ e)))
commas a b c d e = simp append_assoc

five_parts : (a b c d e : List ℕ) → Lacks 44 a → Lacks 44 b → Lacks 44 c → Lacks 44 d → Lacks 44 e
    → parts_of 44 (a ++ 44 ∷ (b ++ 44 ∷ (c ++ 44 ∷ (d ++ 44 ∷ e)))) ≡ a ∷ b ∷ c ∷ d ∷ e ∷ []
five_parts a b c d e ha hb hc hd he =
    parts_of-first 44 a (b ++ 44 ∷ (c ++ 44 ∷ (d ++ 44 ∷ e))) ha
    ∙ ap (λ parts. a ∷ parts) (parts_of-first 44 b (c ++ 44 ∷ (d ++ 44 ∷ e)) hb)
    ∙ ap (λ parts. a ∷ b ∷ parts) (parts_of-first 44 c (d ++ 44 ∷ e) hc)
    ∙ ap (λ parts. a ∷ b ∷ c ∷ parts) (parts_of-first 44 d e hd)
    ∙ ap (λ parts. a ∷ b ∷ c ∷ d ∷ parts) (parts_of-none 44 e he)

parts_of-entry : (entry : List ℕ × Game) → IsEntry entry
    → parts_of 44 (entry_text entry) ≡ entry.0 ∷ map mark_code entry.1.board ∷ standing_text entry.1.standing ∷ entry.1.first_key ∷ entry.1.second_key ∷ []
parts_of-entry entry is =
    let board = map mark_code entry.1.board in
    let standing = standing_text entry.1.standing in
    ap (parts_of 44) (commas entry.0 board standing entry.1.first_key entry.1.second_key)
    ∙ five_parts entry.0 board standing entry.1.first_key entry.1.second_key is.name.commas (board_lacks 44 no_comma entry.1.board)
    (standing_lacks_commas entry.1.standing) is.first_key.commas is.second_key.commas

named-game : (name : List ℕ) (game : Game) → 0 < length name → named name (Some game) ≡ Some (name, game)
named-game name game h = cond-false (eqb (length name) 0) None (Some (name, game)) (ne_eqb (length name) 0 (λ e. omega arith))

pub entry_in-text : (entry : List ℕ × Game) → IsEntry entry → entry_in (entry_text entry) ≡ Some entry
entry_in-text entry is =
    let game = entry.1 in
    ap entry_by (parts_of-entry entry is)
    ∙ ap (λ board. named entry.0 (game_by board (standing_in (standing_text game.standing)) game.first_key game.second_key)) (board_in-codes game.board is.full)
    ∙ ap (λ standing. named entry.0 (game_by (Some game.board) standing game.first_key game.second_key)) (standing_in-text game.standing)
    ∙ named-game entry.0 game is.named

pub entry_lacks_bars : (entry : List ℕ × Game) → IsEntry entry → Lacks 124 (entry_text entry)
entry_lacks_bars entry is =
    let board = map mark_code entry.1.board in
    let standing = standing_text entry.1.standing in
    let comma = 44 ∷ [] in
    let a = lacks-append 124 entry.0 comma is.name.bars refl in
    let b = lacks-append 124 (entry.0 ++ comma) board a (board_lacks 124 no_bar entry.1.board) in
    let c = lacks-append 124 ((entry.0 ++ comma) ++ board) comma b refl in
    let d = lacks-append 124 (((entry.0 ++ comma) ++ board) ++ comma) standing c (standing_lacks_bars entry.1.standing) in
    let e = lacks-append 124 ((((entry.0 ++ comma) ++ board) ++ comma) ++ standing) comma d refl in
    let f = lacks-append 124 (((((entry.0 ++ comma) ++ board) ++ comma) ++ standing) ++ comma) entry.1.first_key e is.first_key.bars in
    let g = lacks-append 124 ((((((entry.0 ++ comma) ++ board) ++ comma) ++ standing) ++ comma) ++ entry.1.first_key) comma f refl in
    lacks-append 124 (((((((entry.0 ++ comma) ++ board) ++ comma) ++ standing) ++ comma) ++ entry.1.first_key) ++ comma) entry.1.second_key g is.second_key.bars

pub texts_lack_bars : (entries : List (List ℕ × Game)) → AllByRecursion IsEntry entries → AllByRecursion (Lacks 124) (map entry_text entries)
texts_lack_bars [] all = tt
texts_lack_bars (entry ∷ entries) all = (entry_lacks_bars entry all.0, texts_lack_bars entries all.1)

pub all_of-texts : (entries : List (List ℕ × Game)) → AllByRecursion IsEntry entries → all_of (map entry_in (map entry_text entries)) ≡ Some entries
all_of-texts [] all = refl
all_of-texts (entry ∷ entries) all = ap (λ o. before_all o (all_of (map entry_in (map entry_text entries)))) (entry_in-text entry all.0)
    ∙ ap (before_all (Some entry)) (all_of-texts entries all.1)
