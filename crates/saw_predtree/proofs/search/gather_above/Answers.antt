use Rattle.std.proofs.Common.{◌≡◌, ◌++◌, ℕ, List, length, sym, ap, ◌∙◌, arith}
use Rattle.std.proofs.lemmas.List.{append-nil}
use Rattle.saw_predtree.proofs.Searching.{above-none, above-more}
use Rattle.saw_predtree.proofs.search.gather_above.Goals as goal

pub loop-len-preserved : goal.loop-len-preserved
loop-len-preserved c = λ marked.
    above-more c.args.usage c.args.places.now c.args.key.now c.as_slice-bytes.result.now c.args.found.now.items c.loop-len.found.items
    c.gather_first.new.found.items c.loop-len.len c.as_slice-bytes.ensures.bytes (c.loop-len.invariant marked) (c.in_ok-gather_first.ensures marked)

pub loop-len-init : goal.loop-len-init
loop-len-init c = λ marked.
    let found = c.args.found.now.items in
    let is = c.min-len.ensures in
    let same : length c.as_slice-bytes.result.now ≡ length c.args.key.now = ap (λ (bytes : List ℕ). length bytes) c.as_slice-bytes.ensures.bytes in
    sym (append-nil found) ∙ ap (λ (more : List ℕ). found ++ more)
    (sym (above-none c.args.usage c.args.places.now c.args.lengths.now c.args.key.now c.min-len.result marked (omega (arith, is, same))
    (λ m less. c.least_marked.ensures m (omega (arith, is, less)))))
