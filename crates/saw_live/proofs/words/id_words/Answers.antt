use Rattle.std.proofs.Common.{ap, ◌∙◌}
use Rattle.hex.specs.Hex.{encode_lower}
use Rattle.saw_live.proofs.Spelled.{id_is_read}
use Rattle.saw_live.proofs.words.id_words.Goals as goal

pub returns : goal.returns
returns c =
    ap encode_lower c.eight_words.ensures
    ∙ id_is_read c.args.id.now c.decode_to_slice.new.out c.requires (λ bytes decoded.
    (rw (c.as_bytes.ensures.value, c.as_str.ensures, decoded) at c.decode_to_slice.ensures.value).1)
