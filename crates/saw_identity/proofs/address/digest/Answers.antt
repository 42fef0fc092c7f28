use Rattle.std.proofs.Common.{sym, ap, length, ◌∙◌, arith}
use Rattle.std.proofs.lemmas.List.{length-take-le}
use Rattle.sha2.proofs.Facts256.{length-sha256}
use Rattle.saw_identity.proofs.address.digest.Goals as goal

pub slice_bounds-copy_from_slice-end-3 : goal.slice_bounds-copy_from_slice-end-3
slice_bounds-copy_from_slice-end-3 c =
    let long = ap length c.digest.ensures ∙ length-sha256 _ in sym (length-take-le 31 c.digest.result (omega (arith, long)))

pub copy_from_slice-requires : goal.copy_from_slice-requires
copy_from_slice-requires c =
    let long = ap length c.digest.ensures ∙ length-sha256 _ in sym (length-take-le 31 c.digest.result (omega (arith, long)))
