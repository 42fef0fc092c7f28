use Rattle.std.proofs.Common.{◌+◌, ◌++◌, ◌∷◌, [], take, ap, sym, ◌∙◌}
use Rattle.std.proofs.lemmas.List.{take_more}
use Rattle.saw_node.proofs.Decoded.{are_more}
use Rattle.saw_proofs.proofs.proving.show_children.Goals as goal

pub loop-child-preserved : goal.loop-child-preserved
loop-child-preserved c =
    let children = c.args.children.now in
    let i = c.loop-child.child-index in
    let here = c.child-item.result in
    are_more (take i children) (take (i + 1) children) here
    (take_more children i here c.loop-child-test.true ∙ ap (λ x. take i children ++ x ∷ []) (sym c.child-item.is)) c.loop-child.invariant
    (c.show_byte.ensures, c.as_slice.ensures.is)
