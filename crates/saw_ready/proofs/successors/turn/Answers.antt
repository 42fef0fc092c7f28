use Rattle.std.proofs.Common.{◌≡◌, ◌≤◌, ◌+◌, ℕ, length, sum, take, ◌∙◌, arith, rules}
use Rattle.std.proofs.lemmas.List.{get_or_read}
use Rattle.saw_ready.specs.Successors.{start_of}
use Rattle.saw_ready.proofs.Counts.{sum-counts}
use Rattle.saw_ready.proofs.Turning.{filled-none, turned-end}
use Rattle.saw_ready.proofs.successors.turn.Goals as goal

pub fill-requires-clause-filled : goal.fill-requires-clause-filled
fill-requires-clause-filled c =
    let preds = c.args.preds.now in
    let count = c.args.count in
    let counts = c.count_targets.new.counts.items in
    let from = c.add_up.new.from.items in
    let long : length counts ≡ count = search rules in
    let same : length c.add_up.new.next.items ≡ count = c.add_up.ensures.next_long ∙ long in
    let from_long : length from ≡ count + 1 = search rules in
    let to_long : length c.in_ok-to.to.items ≡ c.index.result.now = search rules in
    let start : (j : ℕ) → j ≤ count → sum (take j counts) ≡ start_of preds count j =
    λ j le. rw long at (sum-counts preds counts j c.count_targets.ensures.counts (rw long le)) in
    let all =
    get_or_read from count c.index.result.now (omega (arith, from_long)) c.index.ensures 0
    ∙ (c.add_up.ensures.from count (rw long (omega arith)) ∙ start count (omega arith)) in
    rw same (filled-none preds count c.add_up.new.next.items c.in_ok-to.to.items same (to_long ∙ all)
    (λ j lt. c.add_up.ensures.next j (rw long lt) ∙ start j (omega (arith, lt))))

pub returns : goal.returns
returns c =
    let preds = c.args.preds.now in
    let count = c.args.count in
    let counts = c.count_targets.new.counts.items in
    let long : length counts ≡ count = search rules in
    let same : length c.add_up.new.next.items ≡ count = c.add_up.ensures.next_long ∙ long in
    let from_long : length c.add_up.new.from.items ≡ count + 1 = search rules in
    let start : (j : ℕ) → j ≤ count → sum (take j counts) ≡ start_of preds count j =
    λ j le. rw long at (sum-counts preds counts j c.count_targets.ensures.counts (rw long le)) in
    turned-end preds (record { from = c.add_up.new.from; to = c.fill.new.to }) count c.fill.new.next.items c.requires from_long
    (λ j le. c.add_up.ensures.from j (rw long le) ∙ start j le)
    (rw same at c.fill.ensures)
