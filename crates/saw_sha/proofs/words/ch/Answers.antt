use Rattle.std.proofs.Common.{slice_index, w64}
use Rattle.saw_sha.proofs.ChMaj.{ch_short}
use Rattle.saw_sha.proofs.LaneLemmas.{fits_lane}
use Rattle.saw_sha.proofs.words.ch.Goals as goal

pub returns : goal.returns
returns c j h =
    rw (c.xor-2.ensures j h, c.and.ensures j h, c.xor.ensures j h)
    (ch_short w64 (slice_index c.args.x j) (slice_index c.args.y j) (slice_index c.args.z j)
    (fits_lane c.args.x c.fits-x.0 c.fits-x.1 j h) (fits_lane c.args.y c.fits-y.0 c.fits-y.1 j h) (fits_lane c.args.z c.fits-z.0 c.fits-z.1 j h))
