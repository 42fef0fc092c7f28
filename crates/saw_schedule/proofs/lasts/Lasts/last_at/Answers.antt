use Rattle.std.proofs.Common.{ℕ, List, Option, Vec, refl, sym, ap, subst, ◌∙◌, filter, take}
use Rattle.std.specs.BTreeMap.{BTreeMap}
use Rattle.std.specs.Global.{Global}
use Rattle.saw_schedule.specs.Lasts.{items_in}
use Rattle.saw_schedule.specs.Layering.{AreLastsOf}
use Rattle.saw_schedule.specs.Shown.{is_held_at, last_held}
use Rattle.saw_schedule.specs.declared.lasts.Left.{Left}
use Rattle.saw_schedule.proofs.Adding.{changed}
use Rattle.saw_schedule.proofs.Refreshing.{last-is, shortened}
use Rattle.saw_schedule.proofs.lasts.Lasts.last_at.Goals as goal

pub returns-in-Some-clause-so : goal.returns-in-Some-clause-so
returns-in-Some-clause-so c =
    let test = is_held_at c.args.steps.now c.args.slots.now in
    let is = changed c.args.self.now (record { lists = c.get_mut.follows.lender c.trim.new.lefts; layers = c.args.self.now.layers; undone = c.args.self.now.undone; wide = c.args.self.now.wide; place = c.args.self.now.place; change = c.args.self.now.change }) c.args.at c.in-Some.lefts.now c.trim.new.lefts c.in-Some.ensures.value (c.get_mut.follows.holds c.trim.new.lefts).3 in
    shortened c.args.steps.now c.args.slots.now c.args.self.now (record { lists = c.get_mut.follows.lender c.trim.new.lefts; layers = c.args.self.now.layers; undone = c.args.self.now.undone; wide = c.args.self.now.wide; place = c.args.self.now.place; change = c.args.self.now.change }) c.args.at c.requires.so c.trim.ensures.fewer.0
    (is.0 ∙ (c.trim.ensures.fewer.1 ∙ ap (take c.trim.ensures.fewer.0) (sym is.1))) (ap (filter test) is.0 ∙ (c.trim.ensures.held ∙ ap (filter test) (sym is.1))) is.2 refl refl refl refl refl

pub returns-in-Some-clause-last : goal.returns-in-Some-clause-last
returns-in-Some-clause-last c =
    let test = is_held_at c.args.steps.now c.args.slots.now in
    let is = changed c.args.self.now (record { lists = c.get_mut.follows.lender c.trim.new.lefts; layers = c.args.self.now.layers; undone = c.args.self.now.undone; wide = c.args.self.now.wide; place = c.args.self.now.place; change = c.args.self.now.change }) c.args.at c.in-Some.lefts.now c.trim.new.lefts c.in-Some.ensures.value (c.get_mut.follows.holds c.trim.new.lefts).3 in
    c.trim.ensures.last ∙ (ap (last_held test) (sym is.1) ∙ last-is c.args.steps.now c.args.slots.now c.args.self.now c.args.at c.requires.so)

pub returns-in-None-clause-last : goal.returns-in-None-clause-last
returns-in-None-clause-last c =
    let test = is_held_at c.args.steps.now c.args.slots.now in
    ap (λ (list : Option (Vec Left Global)). last_held test (items_in list)) c.in-None.ensures.value
    ∙ last-is c.args.steps.now c.args.slots.now c.args.self.now c.args.at c.requires.so

pub returns-in-None-clause-so : goal.returns-in-None-clause-so
returns-in-None-clause-so c =
    let old = c.args.self.now in
    subst (λ (lists : BTreeMap (List ℕ) (Vec Left Global)). AreLastsOf c.args.steps.now c.args.slots.now (record { lists = lists; layers = old.layers; undone = old.undone; wide = old.wide; place = old.place; change = old.change }))
    (sym c.get_mut.follows.holds-at-none) c.requires.so
