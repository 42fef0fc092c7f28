use Rattle.std.proofs.Common.{◌∙◌, ap, Some, sym}
use Rattle.saw_address.proofs.Finite.{changed_map_inserted, changed_map_removed}
use Rattle.saw_merkle.proofs.plain.apply.Goals as goal

pub returns-in_ok-insert-in-Some-clause-ok : goal.returns-in_ok-insert-in-Some-clause-ok
returns-in_ok-insert-in-Some-clause-ok c =
    changed_map_inserted c.args.map.now.entries c.insert.new.self.entries c.args.change.now.address c.in_ok-try_clone-in-Some.field-0 c.args.change.now.value
    (c.in-Some.is ∙ ap Some (sym c.in_ok-try_clone-in-Some.ensures)) c.in_ok-insert-in-Some.ensures.updates.0

pub returns-in-None-clause-ok : goal.returns-in-None-clause-ok
returns-in-None-clause-ok c = changed_map_removed c.args.map.now.entries c.remove.new.self.entries c.args.change.now.address c.args.change.now.value c.in-None.is
    c.remove.ensures.updates.0
