use Rattle.std.proofs.lemmas.Str.{IsUtf8-from_is_utf8}
use Rattle.saw_publish.proofs.HexTexts.{hex_text}
use Rattle.saw_generate.proofs.signed.sign.Goals as goal

pub unreachable-requires : goal.unreachable-requires
unreachable-requires g c = c.in-Err.ensures.cases.0 (IsUtf8-from_is_utf8 c.sign.result (hex_text 128 c.sign.result c.sign.ensures.form))
