use Rattle.std.proofs.Common.{◌≡◌, [], bytes_eq, sym, ap, ◌∙◌}
use Rattle.std.specs.Map.{update_all}
use Rattle.std.proofs.lemmas.List.{nil_from_length}
use Rattle.saw_context.specs.Runs.{last_of, mark_in}
use Rattle.saw_context.proofs.Runs.{put-first, put-mark}
use Rattle.saw_context.proofs.layers.run_of_all.Goals as goal

pub loop-mark-init : goal.loop-mark-init
loop-mark-init c = λ q. put-first (record { marks = c.new.result }) c.into_iter-mark-iterator.result.rest.items c.new.ensures.empty q

pub loop-mark-preserved-in_ok-insert : goal.loop-mark-preserved-in_ok-insert
loop-mark-preserved-in_ok-insert c = λ q.
    put-mark c.loop-mark.run (record { marks = c.insert.new.self }) c.in-Some.mark.0 c.in_ok-new.field-0 c.in-Some.mark.1 c.loop-mark.mark-iterator.rest.items c.next.new.self.rest.items
    c.in-Some.ensures.steps.0 (ap (λ mark. mark.entry) c.in_ok-new.ensures.ok) c.in_ok-insert.ensures.updates.0 q
    ∙ c.loop-mark.invariant q

pub loop-mark-preserved : goal.loop-mark-preserved
loop-mark-preserved c = λ q.
    put-mark c.loop-mark.run (record { marks = c.insert.new.self }) c.in-Some.mark.0 c.in_ok-new.field-0 c.in-Some.mark.1 c.loop-mark.mark-iterator.rest.items c.next.new.self.rest.items
    c.in-Some.ensures.steps.0 (ap (λ mark. mark.entry) c.in_ok-new.ensures.ok) c.in_ok-insert.ensures.updates.0 q
    ∙ c.loop-mark.invariant q

pub returns : goal.returns
returns c =
    let rest = c.loop-mark.mark-iterator.rest in
    let none : rest.items ≡ [] = nil_from_length rest.items (sym rest.ok.0 ∙ c.in-None.ensures.steps.0) in
    λ q. ap (λ marks. update_all bytes_eq (mark_in c.loop-mark.run) marks q) (sym none)
    ∙ c.loop-mark.invariant q ∙ ap (λ marks. last_of marks q) c.into_iter-mark-iterator.ensures.into_iter_gives.0
