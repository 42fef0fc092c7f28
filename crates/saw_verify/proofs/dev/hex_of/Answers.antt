use Rattle.std.proofs.Common.{rules}
use Rattle.saw_verify.proofs.Digests.{is_hex_text-digest}
use Rattle.saw_verify.proofs.dev.hex_of.Goals as goal

pub returns-clause-form : goal.returns-clause-form
returns-clause-form c =
    is_hex_text-digest c.args.digest.now c.encode_to_slice.new.output c.fits-digest c.told-digest (search rules)
