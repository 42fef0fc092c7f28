use Rattle.std.proofs.Common.{◌∙◌}
use Rattle.std.proofs.KnownBytes.{Appends-nil}
use Rattle.saw_top.proofs.Listed.{head_is_known, none_listed, none_status}
use Rattle.saw_top.proofs.ending.list_head.Goals as goal

pub unreachable-requires : goal.unreachable-requires
unreachable-requires g c =
    let head = rw c.in-Some.is at c.head.ensures.is in
    let none = rw c.in-None-tree.is at c.tree.ensures.is in
    head_is_known c.state.result.now _ c.in-Some.head.now head c.state.ensures.known none

pub returns-in-None-clause-ok : goal.returns-in-None-clause-ok
returns-in-None-clause-ok g c =
    let none = rw c.in-None.is at c.head.ensures.is in
    rw (none_listed c.args.prefix.now c.args.journal.now.states _ none) (Appends-nil (g.O.Sink.written c.args.output.now))

pub returns-in-None-clause-status : goal.returns-in-None-clause-status
returns-in-None-clause-status g c =
    let none = rw c.in-None.is at c.head.ensures.is in
    c.new.ensures ∙ none_status c.args.prefix.now c.args.journal.now.states _ none
