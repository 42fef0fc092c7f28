use Rattle.std.proofs.Common.{[], ◌∷◌, ◌++◌, ap, ◌∙◌}
use Rattle.saw_schedule.proofs.Adding.{inserted, kept, on_err, written}
use Rattle.saw_schedule.proofs.lasts.Lasts.add.Goals as goal

pub returns-in_err-push-clause-err : goal.returns-in_err-push-clause-err
returns-in_err-push-clause-err c =
    on_err _ c.from_residual.result (kept c.args.self.now (record { lists = c.get_mut.follows.lender c.push.new.self; layers = c.args.self.now.layers; undone = c.args.self.now.undone; wide = c.args.self.now.wide; place = c.args.self.now.place; change = c.args.self.now.change }) c.args.at c.in-Some.list.now c.push.new.self c.in-Some.ensures.value (c.get_mut.follows.holds c.push.new.self).3 c.in_err-push.ensures.items)

pub returns-in-Some-clause-ok : goal.returns-in-Some-clause-ok
returns-in-Some-clause-ok c =
    written c.args.self.now _ c.args.at c.in-Some.list.now c.push.new.self c.in-Some.ensures.value (c.get_mut.follows.holds c.push.new.self).3 c.args.left c.in_ok-push.ensures.items c.show_whole.ensures

pub returns-clause-ok : goal.returns-clause-ok
returns-clause-ok c =
    inserted c.args.self.now (record { lists = c.get_mut.follows.lender-at-none; layers = c.args.self.now.layers; undone = c.args.self.now.undone; wide = c.args.self.now.wide; place = 0; change = 0 }) _ c.args.at c.args.left c.push-2.new.self
    c.in_default.ensures.value c.get_mut.follows.holds-at-none (c.in_ok-push-2.ensures.items ∙ ap (λ xs. xs ++ c.args.left ∷ []) c.new-list.ensures.items) c.in_ok-insert.ensures.updates c.show_whole.ensures
