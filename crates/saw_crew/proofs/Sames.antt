-- Lists of transactions that are the same.
use Rattle.std.proofs.Common.{◌≡◌, ◌<◌, ◌+◌, ℕ, true, List, [], ◌∷◌, ◌++◌, length, take, get_or, sym, ap, ap₂, ◌∙◌}
use Rattle.std.proofs.lemmas.List.{map-append, take_more}
use Rattle.std.specs.Arc.{arc_value}
use Rattle.std.specs.Global.{Global}
use Rattle.std.specs.declared.sync.Arc.{Arc}
use Rattle.saw_messages.specs.TxEquality.{tx_eq}
use Rattle.saw_messages.specs.TxShapes.{TxShape}
use Rattle.saw_messages.specs.declared.tx.Tx.{Tx}
use Rattle.saw_messages.proofs.SameTxs.{same-is}
use Rattle.saw_plan.specs.BatchShapes.{shapes_of}

shapes-more : (all : List (Arc Tx Global)) (i : ℕ) (one : Arc Tx Global) → i < length all → one ≡ get_or all i one → shapes_of (take (i + 1) all) ≡ shapes_of (take i all) ++ arc_value one ∷ []
shapes-more all i one inside is =
    ap shapes_of (take_more all i one inside) ∙ (map-append arc_value (take i all) (get_or all i one ∷ [])
    ∙ ap (λ (tx : Arc Tx Global). shapes_of (take i all) ++ arc_value tx ∷ []) (sym is))

-- one more is the same
pub one-more-same : (some others : List (Arc Tx Global)) (i : ℕ) (one other : Arc Tx Global) → i < length some → i < length others → one ≡ get_or some i one → other ≡ get_or others i other
    → tx_eq (arc_value one) (arc_value other) ≡ true → shapes_of (take i some) ≡ shapes_of (take i others) → shapes_of (take (i + 1) some) ≡ shapes_of (take (i + 1) others)
one-more-same some others i one other inside within is is_other same so_far =
    shapes-more some i one inside is
    ∙ (ap₂ (λ (xs : List TxShape) (x : TxShape). xs ++ x ∷ []) so_far (same-is (arc_value one) (arc_value other) same) ∙ sym (shapes-more others i other within is_other))
