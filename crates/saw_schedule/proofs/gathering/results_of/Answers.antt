use Rattle.std.proofs.Common.{◌<◌, length, refl, ◌∙◌}
use Rattle.std.proofs.lemmas.List.{get_or_default}
use Rattle.saw_schedule.specs.declared.verdict.Verdict.TheVariants.{Applied, Failed}
use Rattle.saw_schedule.proofs.Gatherings.{all-gathered, applied-on, end-inside, failed-on, none-gathered, places-below}
use Rattle.saw_schedule.proofs.gathering.results_of.Goals.{In-loop-batch, in-Applied+in_ok-move_outcomes-in-Applied, in-Failed}
use Rattle.saw_schedule.proofs.gathering.results_of.Goals as goal

pub loop-batch-init : goal.loop-batch-init
loop-batch-init c = λ order sizes st steps are is. rw c.new-batches.ensures (none-gathered order sizes st steps c.args.slots.now are c.args.outcomes.now.items is)

inside : (c : In-loop-batch) → c.loop-batch.batch < length c.args.slots.now.verdicts.items
inside c = rw c.deref-verdict-items.ensures.value at c.loop-batch-test.true

end : (c : In-loop-batch) → c.loop-batch.batch < length c.args.slots.now.ends.items
end c = end-inside c.requires.0 c.requires.1 c.requires.2 c.requires.3 c.args.slots.now c.requires.4 c.loop-batch.batch (inside c)

pub index-to-requires : goal.index-to-requires
index-to-requires c = rw c.args.slots.now.ends.ok.0 (end c)

pub move_outcomes-requires : goal.move_outcomes-requires
move_outcomes-requires c =
    let at = (goal.at.move_outcomes-requires c).In-loop-batch in
    let slots = c.args.slots.now in
    rw c.deref.ensures.value
    (places-below c.requires.0 c.requires.1 c.requires.2 c.requires.3 slots c.requires.4 c.loop-batch.outcomes.items c.loop-batch.batches c.loop-batch.from c.loop-batch.batch c.index-to.result.now
    (c.loop-batch.invariant c.requires.0 c.requires.1 c.requires.2 c.requires.3 c.requires.4 c.requires.5) Applied Applied (inside at) (rw c.deref-verdict-items.ensures.value at c.in-Applied.is)
    (c.index-to.ensures ∙ get_or_default slots.ends.items c.loop-batch.batch c.index-to.result.now 0 (end at)) refl)

pub loop-batch-preserved : goal.loop-batch-preserved
loop-batch-preserved c = λ order sizes st steps are is.
    let at = (goal.at.loop-batch-preserved c).In-loop-batch in
    let slots = c.args.slots.now in
    let to_is = c.index-to.ensures ∙ get_or_default slots.ends.items c.loop-batch.batch c.index-to.result.now 0 (end at) in
    elim c.match-verdict.branch [
      | in-Applied+in_ok-move_outcomes-in-Applied w ↦
          let clauses = rw w.deref.ensures.value at w.in_ok-move_outcomes-in-Applied.ensures in
          rw (c.in_ok-push.ensures.ok, w.result-is, w.outcomes-is)
          (applied-on order sizes st steps slots are c.loop-batch.outcomes.items c.loop-batch.batches c.loop-batch.from c.loop-batch.batch c.index-to.result.now
          (c.loop-batch.invariant order sizes st steps are is) Applied Applied (inside at) (rw c.deref-verdict-items.ensures.value at w.in-Applied.is) to_is refl
          w.in_ok-move_outcomes-in-Applied.field-0 w.move_outcomes.new.outcomes.items clauses.moved clauses.others clauses.long)
      | in-Failed w ↦
          rw (c.in_ok-push.ensures.ok, w.result-is, w.outcomes-is)
          (failed-on order sizes st steps slots are c.loop-batch.outcomes.items c.loop-batch.batches c.loop-batch.from c.loop-batch.batch c.index-to.result.now
          (c.loop-batch.invariant order sizes st steps are is) (Failed w.in-Failed.t w.in-Failed.reason) Applied (inside at) (rw c.deref-verdict-items.ensures.value at w.in-Failed.is) to_is w.in-Failed.t w.in-Failed.reason refl)
    ]

pub returns : goal.returns
returns c = λ order sizes st steps are is.
    all-gathered order sizes st steps c.args.slots.now are c.loop-batch.outcomes.items c.loop-batch.batches c.loop-batch.from c.loop-batch.batch (c.loop-batch.invariant order sizes st steps are is)
    (rw c.deref-verdict-items.ensures.value at c.loop-batch-test.false)
