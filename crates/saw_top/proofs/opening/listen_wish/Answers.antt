-- Words without readers open no door for them.
use Rattle.std.proofs.Common.{map, subst, string_bytes, sym}
use Rattle.saw_top.specs.Opening.{HasFewReaders}
use Rattle.saw_top.proofs.FewReaders.{few_alone}
use Rattle.saw_top.proofs.opening.listen_wish.Goals as goal

pub returns-in-None-clause-few : goal.returns-in-None-clause-few
returns-in-None-clause-few c = subst HasFewReaders (sym c.opened_alone.ensures) (few_alone (map string_bytes c.args.words.now))
