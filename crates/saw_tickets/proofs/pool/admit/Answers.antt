use Rattle.std.proofs.Common.{◌≡◌, ◌∙◌, ◌∷◌, ◌++◌, [], length, ap, sym}
use Rattle.crossbeam_deque.specs.Handles.{worker_deque}
use Rattle.saw_tickets.specs.TicketHistory.{alone}
use Rattle.saw_tickets.specs.Seats.{views_of, queues_of, after_meeting, capacity_of, deques}
use Rattle.saw_tickets.proofs.Seats.{written_back}
use Rattle.saw_tickets.proofs.Pools.{grows}
use Rattle.saw_tickets.proofs.pool.admit.Goals as goal

pub returns-clause-pool : goal.returns-clause-pool
returns-clause-pool c =
    let value = c.as_mut_slice.ensures.value in
    let old = c.args.seats.now.items in
    let ts = c.introduce.new.seats in
    let x = c.introduce.new.new in
    let q = worker_deque c.args.new.own in
    let same = c.introduce.auto.seats ∙ ap length value in
    let len = sym c.as_mut_slice.ensures.len ∙ ap length value in
    let items = c.in_ok-push.ensures.items ∙ ap (λ l. l ++ x ∷ []) (written_back ts old c.args.seats.now.len same len) in
    let queues : queues_of x ≡ q ∷ deques old = c.in_ok-introduce.ensures.queues ∙ (λ i. c.requires.queues i ++ deques (value i)) in
    let views : views_of x ≡ after_meeting old (alone [] [] ∷ []) = c.in_ok-introduce.ensures.views ∙ (λ i. after_meeting (value i) (c.requires.views i)) in
    let own : worker_deque x.own ≡ q = cc in
    let met = rw value at c.in_ok-introduce.ensures.seats in rw items (grows (capacity_of c.args.new) q old ts x same c.requires.pool met own queues views c.in_ok-introduce.ensures.capacity)
