use Rattle.std.proofs.Common.{arith, refl, ◌∙◌}
use Rattle.std.proofs.lemmas.List.{length-set}
use Rattle.saw_journal.proofs.Packing.{packed_all, packed_more}
use Rattle.saw_journal.proofs.id_key.packed.Goals as goal

pub loop-i-preserved : goal.loop-i-preserved
loop-i-preserved c =
    let inv = c.loop-i.invariant in (
      length-set c.loop-i.bytes c.loop-i.i _ ∙ inv.0,
      packed_more c.args.digits.now c.loop-i.bytes c.loop-i.i _ (omega (arith, c.requires, c.loop-i-test.true)) (omega (arith, inv.0, c.loop-i-test.true))
          (rw (c.value_of.ensures, c.value_of-in-loop-i.ensures) refl) inv.1,
    )

pub returns : goal.returns
returns c =
    let inv = c.loop-i.invariant in
    packed_all c.args.digits.now c.loop-i.bytes c.loop-i.i (omega (arith, inv.0, c.loop-i-test.false)) (omega (arith, c.requires, c.loop-i-test.false)) inv.1
