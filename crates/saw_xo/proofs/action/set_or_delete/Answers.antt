use Rattle.std.proofs.Common.{refl, rules}
use Rattle.std.proofs.lemmas.Bool.{false≢true}
use Rattle.saw_xo.proofs.Counted.{deletes, sets}
use Rattle.saw_xo.proofs.action.set_or_delete.Goals as goal

pub returns-then-is_empty : goal.returns-then-is_empty
returns-then-is_empty c = rw (deletes c.args.address c.args.games.now.entries (c.if-is_empty.ensures.0 refl)) (search rules)

pub returns : goal.returns
returns c =
    rw (sets c.args.address c.args.games.now.entries _ (λ e. false≢true (c.if-is_empty.ensures.1 e)) c.in_ok-kept_bytes.ensures) c.set.ensures
