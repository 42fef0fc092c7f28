-- The guests in the readers' order.
use Rattle.std.proofs.Common.{map, reverse, sym, ap, ◌∙◌}
use Rattle.std.proofs.lemmas.List.{reverse-reverse}
use Rattle.saw_top.proofs.Seated.{map_back}
use Rattle.saw_top.proofs.readers.welcome.Goals as goal

pub returns-clause-readers : goal.returns-clause-readers
returns-clause-readers g c =
    let made = c.welcome_each.new.guests.items in
    ap (map (λ guest. guest.reader)) c.reverse.ensures.items ∙ map_back (λ guest. guest.reader) made
    ∙ sym c.welcome_each.ensures.moved

pub returns-clause-passes : goal.returns-clause-passes
returns-clause-passes g c =
    let made = c.welcome_each.new.guests.items in
    ap (map (λ guest. guest.pass)) c.reverse.ensures.items ∙ map_back (λ guest. guest.pass) made
    ∙ ap reverse c.welcome_each.ensures.passes ∙ reverse-reverse c.args.passes.items
