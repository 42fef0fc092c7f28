use Rattle.std.proofs.Common.{◌≡◌, ◌+◌, ◌%◌, arith, refl}
use Rattle.saw_sha.proofs.LaneLemmas.{window_at}
use Rattle.saw_sha.proofs.rounds.next_word.Goals as goal

pub returns-clause-value : goal.returns-clause-value
returns-clause-value c j h =
    let at : c.args.place % 16 ≡ c.args.place = omega arith in
    rw (
      window_at j c.args.w.now ((c.args.place + 14) % 16),
      window_at j c.args.w.now ((c.args.place + 9) % 16),
      window_at j c.args.w.now ((c.args.place + 1) % 16),
      window_at j c.args.w.now (c.args.place % 16),
      at,
      c.add-word.ensures j h,
      c.add-2.ensures j h,
      c.add.ensures j h,
      c.small_sigma1-far.ensures j h,
      c.small_sigma0-near.ensures j h,
    ) refl
