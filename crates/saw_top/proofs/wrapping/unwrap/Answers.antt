use Rattle.std.proofs.Common.{List, ◌++◌, map, reverse, ap, subst, ◌∙◌}
use Rattle.std.specs.List.{AllByRecursion}
use Rattle.saw_top.specs.Wrapping.{ServesIdentity, inner_of}
use Rattle.saw_top.proofs.Wrapped.{all_back, back_again}
use Rattle.saw_top.proofs.wrapping.unwrap.Goals as goal

pub returns-clause-all : goal.returns-clause-all
returns-clause-all g c =
    let back = c.reverse.new.self.items in
    c.unwrap_each.ensures.moved ∙ ap (λ (l : List _). l ++ reverse (map inner_of back)) c.requires.none
    ∙ ap (λ (l : List _). reverse (map inner_of l)) c.reverse.ensures.items ∙ back_again inner_of c.args.wrapped.items

pub returns-clause-serve : goal.returns-clause-serve
returns-clause-serve g c =
    all_back (ServesIdentity g.R.Station.offered) c.args.wrapped.items
    (subst (AllByRecursion (ServesIdentity g.R.Station.offered)) c.reverse.ensures.items c.unwrap_each.ensures.serve)
