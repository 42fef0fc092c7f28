use Rattle.std.proofs.Common.{◌<◌, ◌≤◌, ◌∷◌, ◌++◌, ℕ, List, [], refl, sym, ap, subst, arith, ◌∙◌}
use Rattle.saw_context.specs.declared.job.Job.{Job}
use Rattle.saw_schedule.specs.Histories.{IsTake}
use Rattle.saw_tickets.specs.Seats.{capacity_of, issued_by, views_of}
use Rattle.saw_crew.proofs.Rounds.{Taking, taking-back, taking-issued, taking-none}
use Rattle.saw_crew.proofs.locked.Locked.take_more.Goals as goal
use Rattle.saw_crew.proofs.locked.Locked.take_more.Goals.{in-Err, in-Ok}

pub loop-init : goal.loop-init
loop-init g c = record {
  taken = taking-none c.args.self.now _ _ (capacity_of c.args.seat.now) c.args.jobs.now.items;
  capacity = refl;
  few = let one = c.requires.one in omega (arith, one);
  room = c.requires.room;
}

pub loop-preserved : goal.loop-preserved
loop-preserved g c =
    let old = c.args.self.now in
    let views = views_of c.args.seat.now in
    let mids = views_of c.loop.seat in
    let views' = views_of c.issue.new.self in
    let most = capacity_of c.args.seat.now in
    let job = c.in-Ok-Some.job in
    let so_far = c.loop.invariant in
    let take : IsTake c.loop.self.history c.take.new.self.history job = rw c.in-Ok-Some.field-0-is at c.in-Ok-Some.ensures.ok in
    let offers = c.in-Ok-Some.ensures.offers in
    let few = so_far.few in
    let room = so_far.room in
    let capacity = c.issue.ensures.capacity ∙ so_far.capacity in
    elim c.match-issue.branch [
      | in-Ok w ↦ rw w.jobs-is (record {
        taken = taking-issued old c.loop.self c.take.new.self views mids views' most c.args.jobs.now.items c.loop.jobs.items so_far.taken job take offers w.in-Ok.ensures.ok
            (subst (λ (n : ℕ). issued_by mids < n) so_far.capacity w.in-Ok.ensures.room);
        capacity = capacity;
        few = omega (arith, few);
        room = room;
      })
      | in-Err w ↦ rw w.jobs-is (record {
        taken = subst (λ (jobs : List Job). Taking old c.take.new.self views views' most c.args.jobs.now.items jobs)
            (sym (w.put_job.ensures.more ∙ ap (λ (back : Job). c.loop.jobs.items ++ back ∷ []) w.in-Err.ensures.back))
            (taking-back old c.loop.self c.take.new.self views mids views' most c.args.jobs.now.items c.loop.jobs.items so_far.taken job take offers w.in-Err.ensures.err
            (subst (λ (n : ℕ). n ≤ issued_by mids) so_far.capacity w.in-Err.ensures.full));
        capacity = capacity;
        few = let len = w.put_job.ensures.len in omega (arith, few, len);
        room = let wider = w.put_job.ensures.room in omega (arith, room, wider);
      })
    ]
