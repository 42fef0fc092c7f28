use Rattle.std.proofs.Common.{◌≡◌, ◌+◌, ◌++◌, ◌∷◌, [], take, ap, sym, ◌∙◌}
use Rattle.std.proofs.lemmas.List.{take_more}
use Rattle.saw_context.proofs.Gathered.{changed_by_all-push}
use Rattle.saw_context.proofs.overlay.Overlay.change_all.Goals as goal

pub loop-change-preserved : goal.loop-change-preserved
loop-change-preserved c =
    let xs = c.args.changes.now in
    let i = c.loop-change.change-index in
    let change = c.change-item.result in
    let more : take (i + 1) xs ≡ take i xs ++ change ∷ [] = take_more xs i change c.loop-change-test.true ∙ ap (λ e. take i xs ++ e ∷ []) (sym c.change-item.is) in
    rw (more, changed_by_all-push, ← c.loop-change.invariant, ← c.in_ok-try_clone.ensures) c.in_ok-change.ensures.ok
