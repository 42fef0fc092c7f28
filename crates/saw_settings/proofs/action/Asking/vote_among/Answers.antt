use Rattle.std.proofs.Common.{ap, ◌∙◌}
use Rattle.std.specs.List.{position}
use Rattle.saw_settings.specs.Actions.{has_id}
use Rattle.saw_settings.proofs.Places.{found, missing, none_is}
use Rattle.saw_settings.proofs.action.Asking.vote_among.Goals as goal

pub returns-in-Some-place_of : goal.returns-in-Some-place_of
returns-in-Some-place_of c =
    let candidates = c.in-Some.candidates in
    let is_it = has_id c.args.one.now.proposal_id in
    let first = found is_it candidates c.in-Some-place_of.place
    (c.in-Some-place_of.ensures ∙ ap (λ id. position (has_id id) c.as_slice.result.now) c.as_str.ensures ∙ ap (position is_it) c.as_slice.ensures) in
    rw (c.in-Some.is, first.is) (c.vote_for.ensures first.it first.here)

pub returns-in-None : goal.returns-in-None
returns-in-None c =
    let candidates = c.in-Some.candidates in
    let is_it = has_id c.args.one.now.proposal_id in
    let past = none_is is_it candidates (c.in-None.ensures ∙ ap (λ id. position (has_id id) c.as_slice.result.now) c.as_str.ensures
    ∙ ap (position is_it) c.as_slice.ensures) in
    rw (c.in-Some.is, missing is_it 0 candidates past) c.invalid-in-None.ensures
