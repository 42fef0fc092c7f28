-- Boards that are read place by place.
use Rattle.std.proofs.Common.{◌≡◌, ℕ, ◌<◌, eqb, List, [], ◌∷◌, map, length, get_or, Some, None, suc, refl, sym, ap, ◌∙◌, arith}
use Rattle.std.proofs.lemmas.Bool.{cond-true, eq-eqb}
use Rattle.std.proofs.lemmas.List.{length-map, get_or-map}
use Rattle.saw_xo.specs.Games.{mark_in, all_of, before_all, board_in}
use Rattle.saw_xo.specs.declared.game.Mark.{Mark}
use Rattle.saw_xo.specs.declared.game.Mark.TheVariants.{Empty}
use Rattle.saw_xo.proofs.Wholes.{all_of-missing}

-- marks that stand place by place for the codes
pub all_of-marks : (board : List Mark) (codes : List ℕ) → length board ≡ length codes
    → ((k : ℕ) → k < length codes → mark_in (get_or codes k 0) ≡ Some (get_or board k Empty)) → all_of (map mark_in codes) ≡ Some board
all_of-marks [] [] e h = refl
all_of-marks [] (c ∷ codes) e h = absurd (omega arith)
all_of-marks (m ∷ board) [] e h = absurd (omega arith)
all_of-marks (m ∷ board) (c ∷ codes) e h =
    ap (λ o. before_all o (all_of (map mark_in codes))) (h 0 (omega arith))
    ∙ ap (before_all (Some m)) (all_of-marks board codes (omega arith) (λ k l. h (suc k) (omega arith)))

pub no_mark : (codes : List ℕ) (i : ℕ) → i < length codes → mark_in (get_or codes i 0) ≡ None → all_of (map mark_in codes) ≡ None
no_mark codes i h e = all_of-missing (map mark_in codes) i None (omega (arith, length-map codes mark_in, h)) (get_or-map mark_in codes i 0 None h ∙ e)

-- a text of nine codes is a board where each is a mark
pub board_whole : (text codes : List ℕ) (board : List Mark) → codes ≡ text → length codes ≡ 9 → length board ≡ 9
    → ((k : ℕ) → k < 9 → mark_in (get_or codes k 0) ≡ Some (get_or board k Empty)) → Some board ≡ board_in text
board_whole text codes board e n full read =
    sym (all_of-marks board codes (full ∙ sym n) (λ k l. read k (omega arith)))
    ∙ sym (cond-true (eqb (length codes) 9) (all_of (map mark_in codes)) None (eq-eqb (length codes) 9 n)) ∙ ap board_in e

pub board_missing : (text codes : List ℕ) (i : ℕ) → codes ≡ text → length codes ≡ 9 → i < 9 → mark_in (get_or codes i 0) ≡ None → board_in text ≡ None
board_missing text codes i e n h none =
    ap board_in (sym e) ∙ cond-true (eqb (length codes) 9) (all_of (map mark_in codes)) None (eq-eqb (length codes) 9 n) ∙ no_mark codes i (omega arith) none
