use Rattle.saw_ready.specs.Undone.{AreMembersNoted}
use Rattle.saw_ready.proofs.undone.note_members.Given as goal

abbrev pub invariant-loop-m : goal.invariant-loop-m
invariant-loop-m l = AreMembersNoted l.marks l.first l.m l.fn.undone l.undone
