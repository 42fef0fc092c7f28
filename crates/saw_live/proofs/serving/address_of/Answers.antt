use Rattle.std.proofs.Common.{◌∙◌}
use Rattle.saw_live.proofs.Spelled.{question_is_read}
use Rattle.saw_live.proofs.serving.address_of.Goals as goal

pub returns : goal.returns
returns c =
    c.new.ensures ∙ question_is_read c.args.question.now c.decode_to_slice.new.out c.requires
    (λ bytes decoded. (rw decoded at c.decode_to_slice.ensures.value).1)
