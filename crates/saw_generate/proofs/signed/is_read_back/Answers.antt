use Rattle.std.proofs.Common.{arith, subst}
use Rattle.std.specs.List.{AllByRecursion}
use Rattle.saw_messages.specs.ReadBack.{IsText}
use Rattle.saw_generate.proofs.HeadersBack.{header_back}
use Rattle.saw_generate.proofs.signed.is_read_back.Goals as goal

pub returns : goal.returns
returns c =
    header_back c.args.header.now c.args.bytes.now (record {
      batcher_public_key = c.is_text.ensures;
      dependencies = subst (AllByRecursion IsText) c.as_slice.ensures c.are_texts.ensures;
      family_name = c.is_text-2.ensures;
      family_version = c.is_text-3.ensures;
      inputs = subst (AllByRecursion IsText) c.as_slice-2.ensures c.are_texts-2.ensures;
      nonce = c.is_text-4.ensures;
      outputs = subst (AllByRecursion IsText) c.as_slice-3.ensures c.are_texts-3.ensures;
      payload_sha512 = c.is_text-5.ensures;
      signer_public_key = c.is_text-6.ensures;
    })
    c.requires (omega arith)
