use Rattle.std.proofs.Common.{Some, length, arith}
use Rattle.std.proofs.lemmas.Bool.{iff_false}
use Rattle.saw_ready.specs.Sets.{IsNext}
use Rattle.saw_ready.proofs.Blocks.{none-cut, none-join}
use Rattle.saw_ready.proofs.Choosing.{may-later, none-may, queue-pass}
use Rattle.saw_ready.proofs.choice.find_ready.Goals as goal

pub returns-in_default-clause-none : goal.returns-in_default-clause-none
returns-in_default-clause-none c =
    let l = c.loop-from in
    none-may c.args.layout.now c.args.marks.now c.args.first c.args.cursors.now c.args.lowest.now l.ready l.invariant.queue
    (none-join l.ready c.args.first l.from (length l.ready) l.invariant.none c.in_default.ensures.next)

pub loop-from-preserved : goal.loop-from-preserved
loop-from-preserved c =
    let l = c.loop-from in
    let k = c.in-Some.k in
    let next : IsNext l.ready l.from (length l.ready) (Some k) = c.in-Some.ensures.next in
    let low = next.0 in
    let inside = next.1 in
    let put = rw c.next_from.ensures.same at c.remove.ensures in
    record {
      queue =
          rw put (queue-pass c.args.layout.now c.args.marks.now c.args.first c.args.cursors.now c.args.lowest.now l.ready l.invariant.queue
          k (iff_false c.may_take.ensures c.if-may_take.false));
      none = rw put (none-cut l.ready c.args.first l.from k inside l.invariant.none next.3);
      onward = omega (arith, low);
      within = omega (arith, inside);
    }

pub returns-clause-none : goal.returns-clause-none
returns-clause-none c =
    let l = c.loop-from in
    none-may c.args.layout.now c.args.marks.now c.args.first c.args.cursors.now c.args.lowest.now l.ready l.invariant.queue
    (λ i low lt. l.invariant.none i low (omega (arith, lt)))

pub returns-then-may_take-clause-least : goal.returns-then-may_take-clause-least
returns-then-may_take-clause-least c =
    let l = c.loop-from in
    let k = c.in-Some.k in
    let next : IsNext l.ready l.from (length l.ready) (Some k) = c.in-Some.ensures.next in
    may-later c.args.layout.now c.args.marks.now c.args.first c.args.cursors.now c.args.lowest.now l.ready l.invariant.queue k
    (none-join l.ready c.args.first l.from k l.invariant.none next.3)
