use Rattle.std.proofs.Common.{arith, refl, subst}
use Rattle.saw_plan.specs.StaticRules.{after_batch, batch_cause}
use Rattle.saw_plan.specs.SortingSteps.{sorting_of}
use Rattle.saw_plan.proofs.Fronts.{behind_error, front_at, known_more}
use Rattle.saw_plan.proofs.Rest.{begins, goes_on, ends, few, grown}
use Rattle.saw_plan.proofs.drops.precheck_by.Goals as goal

pub loop-place-init : goal.loop-place-init
loop-place-init g c = λ there known. (there, known, begins there c.args.batches.now (sorting_of c.new-sorted.result) c.new-sorted.ensures, refl)

pub sort_next-requires : goal.sort_next-requires
sort_next-requires g c =
    omega (
      arith,
      few c.args.batches.now c.loop-place.place c.index-batches-place.result c.loop-place-test.true c.index-batches-place.is,
      c.requires.transactions,
    )

pub loop-place-preserved : goal.loop-place-preserved
loop-place-preserved g c = λ there known.
    let l = c.loop-place in
    let batch = c.index-batches-place.result in
    let so_far = l.invariant there known in
    let now = so_far.0 in
    let done = c.in_ok-sort_next.ensures in (
      after_batch (batch_cause now batch) now batch,
      done.ids now so_far.1,
      goes_on there now c.args.batches.now l.place batch c.loop-place-test.true c.index-batches-place.is (sorting_of l.sorted)
          (sorting_of c.sort_next.new.sorted) (done.sorting now so_far.1) so_far.2,
      known_more there now c.args.batches.now l.place batch c.loop-place-test.true c.index-batches-place.is so_far.3,
    )

pub returns-clause-sorted : goal.returns-clause-sorted
returns-clause-sorted g c = λ there known.
    let l = c.loop-place in
    let so_far = l.invariant there known in
    ends there so_far.0 l.place c.args.batches.now l.sorted c.loop-place-test.false so_far.2

pub returns-clause-grown : goal.returns-clause-grown
returns-clause-grown g c = λ there known.
    let l = c.loop-place in
    let so_far = l.invariant there known in
    subst (g.K.KnownIds.knows l.known) (grown there so_far.0 l.place c.args.batches.now (sorting_of l.sorted) c.loop-place-test.false so_far.2) so_far.1

pub returns-in_err-sort_next-clause-front : goal.returns-in_err-sort_next-clause-front
returns-in_err-sort_next-clause-front g c =
    behind_error c.from_residual.result
    (λ there known.
    let l = c.loop-place in
    let so_far = l.invariant there known in
    front_at there so_far.0 c.args.batches.now l.place c.index-batches-place.result c.loop-place-test.true c.index-batches-place.is so_far.3
    g.K.KnownIds.knows c.sort_next.new.known (c.in_err-sort_next.ensures.part so_far.0 so_far.1))
