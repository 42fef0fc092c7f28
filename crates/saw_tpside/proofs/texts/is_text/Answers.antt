use Rattle.std.proofs.Common.{subst}
use Rattle.std.specs.Str.{IsUtf8}
use Rattle.std.proofs.lemmas.Str.{is_utf8-from_IsUtf8}
use Rattle.saw_tpside.proofs.texts.is_text.Goals as goal

pub returns : goal.returns
returns c = is_utf8-from_IsUtf8 c.args.text.now (subst IsUtf8 c.as_str.ensures c.as_str.utf8)
