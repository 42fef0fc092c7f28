use Rattle.std.proofs.Common.{List, ◌++◌, map, reverse, sym, ap, ◌∙◌}
use Rattle.saw_top.specs.Wrapping.{inner_of}
use Rattle.saw_top.proofs.Seated.{map_back}
use Rattle.saw_top.proofs.wrapping.wrap.Goals as goal

pub returns-in-Ok-clause-all : goal.returns-in-Ok-clause-all
returns-in-Ok-clause-all g c =
    let made = c.wrap_each.new.wrapped.items in
    ap (map inner_of) c.reverse.ensures.items ∙ map_back inner_of made
    ∙ sym (c.in-Ok.ensures.moved ∙ ap (λ (l : List _). l ++ reverse (map inner_of made)) c.in-Ok.ensures.all)
