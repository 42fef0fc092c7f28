use Rattle.std.proofs.Common.{◌≡◌, ℕ, true, length, get_or, subst, sym, is_ok, arith, ◌∙◌}
use Rattle.std.proofs.lemmas.List.{get_or_read}
use Rattle.saw_crew.proofs.InHand.{ticket-at}
use Rattle.saw_crew.proofs.hand.Hand.run_next.Goals as goal

pub returns-in-Ok-clause-yes : goal.returns-in-Ok-clause-yes
returns-in-Ok-clause-yes g c = λ yes.
    let jobs = c.args.self.now.jobs.items in
    let done = c.args.self.now.done.items in
    let job = c.index-job.result.now in
    let put : is_ok c.push.result ≡ true = sym c.is_ok.ensures.value ∙ yes in
    let inside = c.requires in
    let place : c.len.result ≡ length done = c.len.ensures ∙ c.args.self.now.done.ok.0 in
    let is : job ≡ get_or jobs (length done) job =
    subst (λ (i : ℕ). job ≡ get_or jobs i job) place (get_or_read jobs c.len.result job (omega (arith, place, inside)) c.index-job.ensures job) in record {
      done = c.in-Ok.done;
      sound = c.in-Ok.ensures.sound;
      ticket = ticket-at jobs (length done) job c.in-Ok.done.ticket inside is c.in-Ok.ensures.ticket;
      more = rw put at c.push.ensures.items;
    }
