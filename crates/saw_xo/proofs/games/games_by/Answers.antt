use Rattle.std.proofs.Common.{Some, ◌+◌, drop, length, sym, ap, ◌∙◌, arith}
use Rattle.std.proofs.lemmas.Iterator.Adapters.{YieldsList-from_vec}
use Rattle.std.proofs.lemmas.Iterator.Consumers.{YieldsList-so_far, YieldsList-turn}
use Rattle.saw_xo.specs.Games.{games_by}
use Rattle.saw_xo.proofs.Gathered.{again, one_more, cut_at}
use Rattle.saw_xo.proofs.games.games_by.Goals as goal

pub returns-then-contains_key : goal.returns-then-contains_key
returns-then-contains_key c =
    let l = c.loop-name in
    let all = c.args.entries.items in
    let gives = c.into_iter-name-iterator.ensures.into_iter_gives in
    let source = YieldsList-from_vec {s = c.into_iter-name-iterator.result} all gives.0 (gives.1 ∙ omega (arith, c.args.entries.ok.0)) in
    let before = YieldsList-so_far source l.yielded l.name-iterator l.yielded_by in
    let here = YieldsList-turn source l.yielded l.name-iterator l.yielded_by c.next.result c.next.new.self
    (c.in-Some.name, c.in-Some.game) c.in-Some.is c.next.ensures.steps in
    let whole = cut_at all l.yielded (c.in-Some.name, c.in-Some.game) before here in
    sym (ap (λ entries. games_by (Some entries)) whole ∙ again l.games.entries l.yielded
    (drop (length l.yielded + 1) all) c.in-Some.name c.in-Some.game l.invariant (sym c.if-contains_key.ensures))

pub loop-name-preserved : goal.loop-name-preserved
loop-name-preserved c =
    one_more c.loop-name.games.entries c.insert.new.self.entries c.loop-name.yielded c.in-Some.name c.in-Some.game c.loop-name.invariant
    (sym c.if-contains_key.ensures) c.in_ok-insert.ensures.updates.0
