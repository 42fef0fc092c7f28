use Rattle.std.proofs.Common.{refl, subst}
use Rattle.std.proofs.lemmas.Result.{IfErr-weaker, IfOk-weaker}
use Rattle.std.specs.Prelude.{Err, Result}
use Rattle.saw_crew.specs.Desks.{offers_at}
use Rattle.saw_rules.specs.Policies.{policy_by}
use Rattle.saw_station.specs.Serving.{processors_at}
use Rattle.saw_journal.specs.Judgement.{rules_by}
use Rattle.saw_journal.specs.Ledger.{Ledger}
use Rattle.saw_journal.specs.Parted.{JudgedAs}
use Rattle.saw_journal.specs.declared.judge.New.{New}
use Rattle.saw_journal.specs.declared.stop.Stop.{Stop}
use Rattle.saw_journal.proofs.Accepting.{clashes_judged, may_join, no_clash, says_full, says_good}
use Rattle.saw_journal.proofs.journal.Journal.accept.Goals as goal

pub join-requires-clause-may : goal.join-requires-clause-may
join-requires-clause-may g c = λ κs alive.
    let hash = g.H.NodeHasher.hash_of in
    let accepts = g.V.Verifier.accepts c.args.verifier.now in
    let old = c.args.self.now in
    let content = c.args.bytes.now in
    let policy = policy_by g.P.BlockPolicy.fault g.P.BlockPolicy.end_fault in
    let processors = processors_at g.R.Station.next g.R.Station.tells (offers_at c.args.desks.now) in
    let seen = subst (λ (j : Ledger). JudgedAs processors hash accepts policy j.blocks j.states content c.judge_block.result) c.self.view_is c.judge_block.ensures.judged in
    let judged = subst (λ (result : Result New Stop). JudgedAs processors hash accepts policy old.blocks old.states content result) c.in-Ok.is seen in
    let rules = rules_by hash accepts policy judged.1.runs in
    may_join rules old content judged.0 judged.1.judged_as c.in-Ok.new judged.2

pub returns-in-Ok-clause-says : goal.returns-in-Ok-clause-says
returns-in-Ok-clause-says g c =
    let hash = g.H.NodeHasher.hash_of in
    let accepts = g.V.Verifier.accepts c.args.verifier.now in
    let old = c.args.self.now in
    let content = c.args.bytes.now in
    let policy = policy_by g.P.BlockPolicy.fault g.P.BlockPolicy.end_fault in
    let processors = processors_at g.R.Station.next g.R.Station.tells (offers_at c.args.desks.now) in
    let seen = subst (λ (j : Ledger). JudgedAs processors hash accepts policy j.blocks j.states content c.judge_block.result) c.self.view_is c.judge_block.ensures.judged in
    let judged = subst (λ (result : Result New Stop). JudgedAs processors hash accepts policy old.blocks old.states content result) c.in-Ok.is seen in
    let rules = rules_by hash accepts policy judged.1.runs in
    IfOk-weaker c.join.result _ _
    (λ verdict joined. (
      judged.1.runs,
      judged.1.by,
      says_good rules old content judged.0 judged.1.judged_as c.in-Ok.new judged.2 verdict c.join.new.self joined,
    )) c.join.ensures.ok

pub returns-in-Ok-clause-full : goal.returns-in-Ok-clause-full
returns-in-Ok-clause-full g c = λ is.
    let hash = g.H.NodeHasher.hash_of in
    let accepts = g.V.Verifier.accepts c.args.verifier.now in
    let old = c.args.self.now in
    let content = c.args.bytes.now in
    let policy = policy_by g.P.BlockPolicy.fault g.P.BlockPolicy.end_fault in
    let processors = processors_at g.R.Station.next g.R.Station.tells (offers_at c.args.desks.now) in
    let seen = subst (λ (j : Ledger). JudgedAs processors hash accepts policy j.blocks j.states content c.judge_block.result) c.self.view_is c.judge_block.ensures.judged in
    let judged = subst (λ (result : Result New Stop). JudgedAs processors hash accepts policy old.blocks old.states content result) c.in-Ok.is seen in
    let rules = rules_by hash accepts policy judged.1.runs in
    (judged.1.runs, judged.1.by, says_full rules old content judged.0 judged.1.judged_as c.in-Ok.new judged.2 (c.join.ensures.full is))

pub returns-in-Err-Refused-clause-says : goal.returns-in-Err-Refused-clause-says
returns-in-Err-Refused-clause-says g c =
    let hash = g.H.NodeHasher.hash_of in
    let accepts = g.V.Verifier.accepts c.args.verifier.now in
    let old = c.args.self.now in
    let content = c.args.bytes.now in
    let policy = policy_by g.P.BlockPolicy.fault g.P.BlockPolicy.end_fault in
    let processors = processors_at g.R.Station.next g.R.Station.tells (offers_at c.args.desks.now) in
    let seen = subst (λ (j : Ledger). JudgedAs processors hash accepts policy j.blocks j.states content c.judge_block.result) c.self.view_is c.judge_block.ensures.judged in
    let told = subst (λ (result : Result New Stop). JudgedAs processors hash accepts policy old.blocks old.states content result) c.in-Err-Refused.is seen in
    let came = subst (λ (stop : Stop). JudgedAs processors hash accepts policy old.blocks old.states content (Err stop)) c.in-Err-Refused.field-0-is told in
    (came.runs, came.by, (came.judged_as, refl))

pub returns-in-Ok-clause-clash : goal.returns-in-Ok-clause-clash
returns-in-Ok-clause-clash g c =
    let hash = g.H.NodeHasher.hash_of in
    let accepts = g.V.Verifier.accepts c.args.verifier.now in
    let policy = policy_by g.P.BlockPolicy.fault g.P.BlockPolicy.end_fault in
    let processors = processors_at g.R.Station.next g.R.Station.tells (offers_at c.args.desks.now) in
    IfErr-weaker c.join.result _ _ (no_clash processors hash accepts policy c.args.self.now c.args.bytes.now) c.join.ensures.clear

pub returns-in-Err-Failed-clause-clash : goal.returns-in-Err-Failed-clause-clash
returns-in-Err-Failed-clause-clash g c =
    let hash = g.H.NodeHasher.hash_of in
    let accepts = g.V.Verifier.accepts c.args.verifier.now in
    let old = c.args.self.now in
    let content = c.args.bytes.now in
    let policy = policy_by g.P.BlockPolicy.fault g.P.BlockPolicy.end_fault in
    let processors = processors_at g.R.Station.next g.R.Station.tells (offers_at c.args.desks.now) in
    let seen = subst (λ (j : Ledger). JudgedAs processors hash accepts policy j.blocks j.states content c.judge_block.result) c.self.view_is c.judge_block.ensures.judged in
    let told = subst (λ (result : Result New Stop). JudgedAs processors hash accepts policy old.blocks old.states content result) c.in-Err-Failed.is seen in
    let met = subst (λ (stop : Stop). JudgedAs processors hash accepts policy old.blocks old.states content (Err stop)) c.in-Err-Failed.field-0-is told in
    clashes_judged processors hash accepts policy old content c.in-Err-Failed.fault met
