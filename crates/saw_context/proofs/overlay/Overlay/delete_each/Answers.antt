use Rattle.std.proofs.Common.{◌≡◌, ◌+◌, ◌++◌, ◌∷◌, [], take, ap, sym, ◌∙◌}
use Rattle.std.proofs.lemmas.List.{take_more}
use Rattle.saw_context.proofs.Overlays.{delete_all-push}
use Rattle.saw_context.proofs.overlay.Overlay.delete_each.Goals as goal

pub loop-place-preserved : goal.loop-place-preserved
loop-place-preserved c =
    let xs = c.args.places.now in
    let i = c.loop-place.place-index in
    let place = c.place-item.result in
    let more : take (i + 1) xs ≡ take i xs ++ place ∷ [] = take_more xs i place c.loop-place-test.true ∙ ap (λ e. take i xs ++ e ∷ []) (sym c.place-item.is) in
    record {
      so_far = rw (more, delete_all-push, ← c.loop-place.invariant.so_far) c.in_ok-put_at.ensures.ok;
      undos = λ earlier came. c.put_at.ensures.undos earlier (c.loop-place.invariant.undos earlier came);
    }
