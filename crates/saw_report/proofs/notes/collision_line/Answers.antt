use Rattle.std.proofs.Common.{◌∷◌, ◌++◌, [], ◌≡◌, ℕ, List, append_assoc, ap, ◌∙◌}
use Rattle.std.specs.Prelude.{codes}
use Rattle.saw_report.specs.Lines.{spaced}
use Rattle.saw_report.specs.RunFaults.{node_digits}
use Rattle.saw_report.proofs.notes.collision_line.Goals as goal

-- the words of the line, put one behind another
parted : (front name kept space given : List ℕ) → (((front ++ name) ++ kept) ++ space) ++ given ≡ front ++ (((name ++ kept) ++ space) ++ given)
parted front name kept space given =
    ap (λ x. (x ++ space) ++ given) (append_assoc front name kept) ∙ ap (λ x. x ++ given) (append_assoc front (name ++ kept) space)
    ∙ append_assoc front ((name ++ kept) ++ space) given

pub returns : goal.returns
returns c =
    let counted = c.in_ok-put_counted.ensures ∙ ap (λ x. x ++ (codes "fault" ++ spaced 9)) c.new-out.ensures.items in
    let start = c.in_ok-extend_from_slice.ensures.items ∙ ap (λ x. x ++ codes " collision ") counted in
    let kept = c.in_ok-put_node.ensures ∙ ap (λ x. x ++ node_digits c.args.kept.now) start in
    let parts = c.in_ok-push.ensures.items ∙ ap (λ x. x ++ 32 ∷ []) kept in
    let given = c.in_ok-put_node-2.ensures ∙ ap (λ x. x ++ node_digits c.args.given.now) parts in
    c.in_ok-push-2.ensures.items ∙ ap (λ x. x ++ 10 ∷ []) given ∙ ap (λ x. x ++ 10 ∷ [])
    (parted (codes "fault" ++ spaced 9) (codes " collision ") (node_digits c.args.kept.now) (codes " ") (node_digits c.args.given.now))
