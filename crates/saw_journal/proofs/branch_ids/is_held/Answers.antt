use Rattle.std.proofs.Common.{sym, ap}
use Rattle.saw_journal.specs.KnownBranches.{is_held}
use Rattle.saw_journal.proofs.FirstHolders.{without_key}
use Rattle.saw_journal.proofs.branch_ids.is_held.Goals as goal

pub returns-in_default : goal.returns-in_default
returns-in_default c = λ chain has.
    sym (ap (λ holder. is_held holder chain) (without_key c.args.holders.now.entries c.args.id.now (sym c.in_default.ensures)))
