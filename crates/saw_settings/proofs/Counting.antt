-- A candidate that is taken out of its place and put back there.
use Rattle.std.proofs.Common.{◌≡◌, ℕ, suc, ◌<◌, false, List, length, set, take, drop, Result, sym, ap, subst, ◌∙◌, arith}
use Rattle.std.specs.Prelude.{IfOk, nat_le, ◌||◌, ◌==◌}
use Rattle.std.specs.List.{insert, remove}
use Rattle.std.proofs.lemmas.List.{drop_at, length-take-le, set_split, take_at}
use Rattle.saw_messages.specs.declared.talk.Action.{Action}
use Rattle.saw_messages.specs.declared.talk.Reply.{Reply}
use Rattle.saw_settings.specs.Actions.{accept_number, reject_number, count_up, count_votes, write}
use Rattle.saw_settings.specs.Keys.{proposals}
use Rattle.saw_settings.specs.Values.{kept_text}
use Rattle.saw_settings.specs.declared.candidate.SettingCandidate.{SettingCandidate}
use Rattle.saw_settings.specs.declared.candidate.VoteRecord.{VoteRecord}

pub insert-remove : {X : Type 0} (xs : List X) (i : ℕ) (x : X) → i < length xs → insert (remove xs i) i x ≡ set xs i x
insert-remove xs i x lt =
    let long = length-take-le i xs (omega arith) in
    rw (take_at (take i xs) (drop (suc i) xs) i long, drop_at (take i xs) (drop (suc i) xs) i long) (sym (set_split xs i x lt))

-- neither won nor lost: the candidate stays, with the vote
pub stays : {E : Type 0} (r : Result Action E) (keys : List (List ℕ)) (threshold : ℕ) (candidates made : List SettingCandidate) (place : ℕ)
    (voted : SettingCandidate) (votes : List VoteRecord) (replies : List Reply)
    → votes ≡ voted.votes → false ≡ nat_le threshold (count_votes accept_number votes)
    → false ≡ (nat_le threshold (count_votes reject_number votes) || (length votes == length keys))
    → made ≡ set candidates place voted → IfOk r (λ action. action ≡ write proposals (kept_text made) replies)
    → IfOk r (λ action. action ≡ count_up keys threshold candidates place voted replies)
stays r keys threshold candidates made place voted votes replies sees not_won not_lost is gives =
    let won : nat_le threshold (count_votes accept_number voted.votes) ≡ false = ap (λ vs. nat_le threshold (count_votes accept_number vs)) (sym sees)
    ∙ sym not_won in
    let lost : (nat_le threshold (count_votes reject_number voted.votes) || (length voted.votes == length keys)) ≡ false =
    ap (λ vs. nat_le threshold (count_votes reject_number vs) || (length vs == length keys)) (sym sees) ∙ sym not_lost in
    rw (won, lost) (subst (λ cs. IfOk r (λ action. action ≡ write proposals (kept_text cs) replies)) is gives)
