use Rattle.std.proofs.Common.{◌≡◌, ◌+◌, ◌++◌, ◌∷◌, [], take, ap, sym, ◌∙◌}
use Rattle.std.proofs.lemmas.List.{take_more}
use Rattle.saw_context.proofs.Overlays.{set_all-push}
use Rattle.saw_context.proofs.overlay.Overlay.set_each.Goals as goal

pub loop-entry-preserved : goal.loop-entry-preserved
loop-entry-preserved c =
    let xs = c.args.entries.now in
    let i = c.loop-entry.entry-index in
    let entry = c.entry-item.result in
    let more : take (i + 1) xs ≡ take i xs ++ entry ∷ [] = take_more xs i entry c.loop-entry-test.true ∙ ap (λ e. take i xs ++ e ∷ []) (sym c.entry-item.is) in
    record {
      so_far = rw (more, set_all-push, ← c.loop-entry.invariant.so_far, ← c.in_ok-body.ensures) c.in_ok-put_at.ensures.ok;
      undos = λ earlier came. c.put_at.ensures.undos earlier (c.loop-entry.invariant.undos earlier came);
    }
