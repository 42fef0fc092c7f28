use Rattle.std.proofs.Common.{arith, ap, length, sym, ◌∙◌, Some}
use Rattle.saw_top.proofs.Prefixes.{digits_of, hex_decoded, length-decoded}
use Rattle.saw_top.proofs.options.hash_in.Goals as goal

pub copy_from_slice-requires : goal.copy_from_slice-requires
copy_from_slice-requires c =
    let fine = sym c.is_hex_text.ensures ∙ c.if-not-is_hex_text.false in
    let long = digits_of 64 c.args.text.now fine in
    let pairs = length-decoded c.in_ok-digits.digits c.args.text.now c.in_ok-digits.ensures.value in
    omega (arith, long, pairs, ap length c.as_slice.ensures.bytes)

pub returns : goal.returns
returns c =
    let fine = sym c.is_hex_text.ensures ∙ c.if-not-is_hex_text.false in
    ap Some (c.new.ensures.bytes ∙ c.copy_from_slice.ensures.after ∙ c.as_slice.ensures.bytes)
    ∙ sym (hex_decoded 64 c.in_ok-digits.digits c.args.text.now c.in_ok-digits.ensures.value fine)
