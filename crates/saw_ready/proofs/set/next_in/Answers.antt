use Rattle.std.proofs.Common.{◌+◌, ◌*◌, ℕ, arith}
use Rattle.std.proofs.Common.{subst}
use Rattle.saw_ready.specs.Sets.{NoneIn}
use Rattle.saw_ready.proofs.Blocks.{covers-clear, none-next, none-past, none-unmarked}
use Rattle.saw_ready.proofs.set.next_in.Goals.{then-blocks-b+in_default-find, else-blocks-b}
use Rattle.saw_ready.proofs.set.next_in.Goals as goal

pub loop-b-preserved : goal.loop-b-preserved
loop-b-preserved c = elim c.if-blocks-b.branch [
  | then-blocks-b+in_default-find w ↦
      let flags = c.args.flags.now in
      let b = c.loop-b.b in
      let none : NoneIn flags (b * 128) (b * 128 + 128) =
      none-past flags (b * 128) (b * 128 + 128)
      (subst (λ (e : ℕ). NoneIn flags (b * 128) e) w.min-end-then-blocks-b.ensures w.in_default-find.ensures) in
      record {
        covers =
            rw w.blocks-is
            (covers-clear flags c.loop-b.blocks b
            (omega (arith, c.loop-b-test.true, c.loop-b.auto.blocks)) c.loop-b.invariant.covers none);
        none = none-next flags c.args.from b c.loop-b.invariant.none none;
      }
  | else-blocks-b w ↦
      let flags = c.args.flags.now in
      let b = c.loop-b.b in
      record {
        covers = rw w.blocks-is c.loop-b.invariant.covers;
        none =
            none-next flags c.args.from b c.loop-b.invariant.none
            (none-unmarked flags c.loop-b.blocks b c.loop-b.invariant.covers w.if-blocks-b.false);
      }
]
