use Rattle.saw_live.proofs.HeadLists.{starts_in, starts_later}
use Rattle.saw_live.proofs.live.Live.ask.Goals as goal

pub returns-in_err-words-clause-later : goal.returns-in_err-words-clause-later
returns-in_err-words-clause-later g c = starts_in _ _ (starts_later _ _ _ c.loop.invariant.later c.in_err-words.ensures.later)

pub returns-in_err-reply-clause-later : goal.returns-in_err-reply-clause-later
returns-in_err-reply-clause-later g c = starts_in _ _ (starts_later _ _ _ c.loop.invariant.later c.in_ok-words.ensures.later)

pub returns-in-Some-2-clause-later : goal.returns-in-Some-2-clause-later
returns-in-Some-2-clause-later g c = starts_in _ _ (starts_later _ _ _ c.loop.invariant.later c.in_ok-words.ensures.later)
