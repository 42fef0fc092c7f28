use Rattle.std.proofs.lemmas.Result.{on_ok_weaker}
use Rattle.saw_identity.proofs.permissions.Permissions.judge_by.Goals as goal

pub returns-clause-ok : goal.returns-clause-ok
returns-clause-ok c =
    on_ok_weaker c.noted.result (λ told m holds own.
    told m c.args.t (c.in_ok-keep.ensures.ok m holds own) (c.in_ok-found.ensures m holds own)) c.noted.ensures.ok
