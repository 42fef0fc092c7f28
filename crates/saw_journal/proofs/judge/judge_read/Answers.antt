use Rattle.std.proofs.Common.{List, Err, map, sym, ap, subst, ◌∙◌}
use Rattle.std.proofs.lemmas.Result.{err_from_is_err_and}
use Rattle.std.specs.Prelude.{option_copied, string_bytes}
use Rattle.indexmap.specs.IndexMap.{keys, values}
use Rattle.saw_context.specs.Possible.{MayComeOfAll}
use Rattle.saw_crew.proofs.Leaving.{keep_all}
use Rattle.saw_crew.specs.Desks.{Failed, offers_at}
use Rattle.saw_messages.specs.TxShapes.{BatchShape}
use Rattle.saw_merkle.specs.States.{map_at}
use Rattle.saw_plan.specs.BatchShapes.{txs_of}
use Rattle.saw_receipts.specs.Heads.{root_behind}
use Rattle.saw_rules.specs.Policies.{policy_by}
use Rattle.saw_schedule.specs.BatchResults.{AreResultsFor}
use Rattle.saw_station.proofs.Finished.{processors_own}
use Rattle.saw_station.specs.Serving.{processors_at}
use Rattle.saw_journal.specs.BlockFaults.{ids_before}
use Rattle.saw_journal.specs.Passing.{RanAs, rule_fault}
use Rattle.saw_journal.proofs.Judgements.{by_batches, by_place, by_results}
use Rattle.saw_journal.proofs.Judging.{at_root}
use Rattle.saw_journal.proofs.KnownBranches.{known_before}
use Rattle.saw_journal.proofs.Passing.{never_full, peer_tells}
use Rattle.saw_journal.proofs.judge.judge_read.Goals as goal

pub returns-in_err-parent-clause-desks : goal.returns-in_err-parent-clause-desks
returns-in_err-parent-clause-desks g c = keep_all g.R.Station.faults g.R.Station.offered c.args.desks.now

pub returns-in_err-known-clause-desks : goal.returns-in_err-known-clause-desks
returns-in_err-known-clause-desks g c = keep_all g.R.Station.faults g.R.Station.offered c.args.desks.now

pub returns-in_err-before-clause-desks : goal.returns-in_err-before-clause-desks
returns-in_err-before-clause-desks g c = keep_all g.R.Station.faults g.R.Station.offered c.args.desks.now

pub returns-in_err-parent-clause-judged : goal.returns-in_err-parent-clause-judged
returns-in_err-parent-clause-judged g c = λ accepts content fine of.
    let p = err_from_is_err_and c.from_residual.result c.from_residual.ensures.1 in
    let hash = g.H.NodeHasher.hash_of in
    let blocks = values c.args.blocks.now in
    let states = c.args.state.now in
    let checked = c.args.read.checked in
    let laws = g.met.R.Station g.world.𝓛 g.world.𝓜 g.world.𝓡 ((λ s x. x), (λ x. x), (λ x. x), λ x. x) in
    let own = processors_own g.R.Station.next laws.own_reasons g.R.Station.tells (offers_at c.args.desks.now) in
    let policy = policy_by g.P.BlockPolicy.fault g.P.BlockPolicy.end_fault in
    let processors = processors_at g.R.Station.next g.R.Station.tells (offers_at c.args.desks.now) in
    rw (p.1, p.2) (by_place processors own hash accepts policy blocks states content checked fine of c.in_err-parent.field-0.0 c.in_err-parent.ensures)

pub returns-in_err-known-clause-judged : goal.returns-in_err-known-clause-judged
returns-in_err-known-clause-judged g c = λ accepts content fine of.
    let p = err_from_is_err_and c.from_residual-in_err-known.result c.from_residual-in_err-known.ensures.1 in rw (p.1, p.2) tt

pub returns-in_err-before-clause-judged : goal.returns-in_err-before-clause-judged
returns-in_err-before-clause-judged g c = λ accepts content fine of.
    let p = err_from_is_err_and c.from_residual-in_err-before.result c.from_residual-in_err-before.ensures.1 in rw (p.1, p.2) tt

pub run_all-requires-clause-known : goal.run_all-requires-clause-known
run_all-requires-clause-known g c = λ κs alive.
    let placed = c.in_ok-parent.ensures in
    (at_root (values c.args.blocks.now) c.args.read.checked.id c.args.read.checked.header (sym placed.0)
    (option_copied c.in_ok-parent.parent) placed.1 g.H.NodeHasher.hash_of (map string_bytes (keys c.args.blocks.now)) c.args.state.now c.requires.founded
    c.in_ok-before.before (c.in_ok-before.ensures ∙ ap (root_behind g.H.NodeHasher.hash_of) c.root_of.ensures)).1

pub run_all-requires-clause-ids : goal.run_all-requires-clause-ids
run_all-requires-clause-ids g c = λ κs alive.
    let blocks = values c.args.blocks.now in
    let header = c.args.read.checked.header in
    (ids_before blocks header, known_before blocks header c.in_ok-known.known c.requires.founded.linked c.in_ok-known.ensures)

pub run_all-requires-clause-few : goal.run_all-requires-clause-few
run_all-requires-clause-few g c = λ κs alive.
    rw c.as_slice-batches.ensures c.requires.few

pub run_all-requires-clause-counted : goal.run_all-requires-clause-counted
run_all-requires-clause-counted g c = λ κs alive.
    rw c.as_slice-batches.ensures c.requires.counted

pub returns-in_err-results-clause-judged : goal.returns-in_err-results-clause-judged
returns-in_err-results-clause-judged g c = λ accepts content fine of.
    let p = err_from_is_err_and c.from_residual-in_err-results.result c.from_residual-in_err-results.ensures.1 in
    let hash = g.H.NodeHasher.hash_of in
    let blocks = values c.args.blocks.now in
    let states = c.args.state.now in
    let checked = c.args.read.checked in
    let placed = c.in_ok-parent.ensures in
    let there = ids_before blocks checked.header in
    let knows = known_before blocks checked.header c.in_ok-known.known c.requires.founded.linked c.in_ok-known.ensures in
    let laws = g.met.R.Station g.world.𝓛 g.world.𝓜 g.world.𝓡 ((λ s x. x), (λ x. x), (λ x. x), λ x. x) in
    let own = processors_own g.R.Station.next laws.own_reasons g.R.Station.tells (offers_at c.args.desks.now) in
    let policy = policy_by g.P.BlockPolicy.fault g.P.BlockPolicy.end_fault in
    let processors = processors_at g.R.Station.next g.R.Station.tells (offers_at c.args.desks.now) in
    let m = map_at states c.in_ok-before.before in
    let peer = Failed g.R.Station.faults c.args.desks.now c.run_all.new.desks in
    let ran = subst (λ (batches : List BatchShape). RanAs processors peer policy m checked.header.signer_public_key there batches (Err c.in_err-results.field-0.0)) c.as_slice-batches.ensures
    (c.in_err-results.ensures.ran there knows) in
    let root = at_root blocks checked.id checked.header (sym placed.0) (option_copied c.in_ok-parent.parent) placed.1 hash
    (map string_bytes (keys c.args.blocks.now)) states c.requires.founded c.in_ok-before.before (c.in_ok-before.ensures ∙ ap (root_behind g.H.NodeHasher.hash_of) c.root_of.ensures) in
    rw (p.1, p.2) (by_batches processors own hash accepts policy blocks states content checked fine of placed.0 c.in_ok-before.before root.0 peer
    c.in_err-results.field-0.0 ran)

pub returns-in_err-results-clause-room : goal.returns-in_err-results-clause-room
returns-in_err-results-clause-room g c =
    let p = err_from_is_err_and c.from_residual-in_err-results.result c.from_residual-in_err-results.ensures.1 in
    let blocks = values c.args.blocks.now in
    let checked = c.args.read.checked in
    let there = ids_before blocks checked.header in
    let knows = known_before blocks checked.header c.in_ok-known.known c.requires.founded.linked c.in_ok-known.ensures in
    let policy = policy_by g.P.BlockPolicy.fault g.P.BlockPolicy.end_fault in
    let processors = processors_at g.R.Station.next g.R.Station.tells (offers_at c.args.desks.now) in
    let peer = Failed g.R.Station.faults c.args.desks.now c.run_all.new.desks in
    rw (p.1, p.2) (never_full processors peer policy (map_at c.args.state.now c.in_ok-before.before) checked.header.signer_public_key there c.as_slice-batches.result.now c.in_err-results.field-0.0
    (c.in_err-results.ensures.ran there knows))

pub returns-in_err-results-clause-cause : goal.returns-in_err-results-clause-cause
returns-in_err-results-clause-cause g c =
    let p = err_from_is_err_and c.from_residual-in_err-results.result c.from_residual-in_err-results.ensures.1 in
    let blocks = values c.args.blocks.now in
    let checked = c.args.read.checked in
    let there = ids_before blocks checked.header in
    let knows = known_before blocks checked.header c.in_ok-known.known c.requires.founded.linked c.in_ok-known.ensures in
    let policy = policy_by g.P.BlockPolicy.fault g.P.BlockPolicy.end_fault in
    let processors = processors_at g.R.Station.next g.R.Station.tells (offers_at c.args.desks.now) in
    let peer = Failed g.R.Station.faults c.args.desks.now c.run_all.new.desks in
    rw (p.1, p.2) (peer_tells processors peer policy (map_at c.args.state.now c.in_ok-before.before) checked.header.signer_public_key there c.as_slice-batches.result.now c.in_err-results.field-0.0
    (c.in_err-results.ensures.ran there knows))

pub conclude-requires-clause-known : goal.conclude-requires-clause-known
conclude-requires-clause-known g c = λ κs alive.
    let placed = c.in_ok-parent.ensures in
    (at_root (values c.args.blocks.now) c.args.read.checked.id c.args.read.checked.header (sym placed.0)
    (option_copied c.in_ok-parent.parent) placed.1 g.H.NodeHasher.hash_of (map string_bytes (keys c.args.blocks.now)) c.args.state.now c.requires.founded
    c.in_ok-before.before (c.in_ok-before.ensures ∙ ap (root_behind g.H.NodeHasher.hash_of) c.root_of.ensures)).1

pub conclude-requires-clause-fit : goal.conclude-requires-clause-fit
conclude-requires-clause-fit g c = λ κs alive.
    let blocks = values c.args.blocks.now in
    let checked = c.args.read.checked in
    let there = ids_before blocks checked.header in
    let knows = known_before blocks checked.header c.in_ok-known.known c.requires.founded.linked c.in_ok-known.ensures in
    subst (λ (batches : List BatchShape). AreResultsFor (txs_of batches) c.in_ok-results.results.batches) c.as_slice-batches.ensures
    (c.in_ok-results.ensures.ran there knows).1.fit

pub conclude-requires-clause-few : goal.conclude-requires-clause-few
conclude-requires-clause-few g c = λ κs alive. c.requires.few

pub returns-clause-judged : goal.returns-clause-judged
returns-clause-judged g c = λ accepts content fine of.
    let hash = g.H.NodeHasher.hash_of in
    let blocks = values c.args.blocks.now in
    let states = c.args.state.now in
    let checked = c.args.read.checked in
    let placed = c.in_ok-parent.ensures in
    let parent = option_copied c.in_ok-parent.parent in
    let there = ids_before blocks checked.header in
    let knows = known_before blocks checked.header c.in_ok-known.known c.requires.founded.linked c.in_ok-known.ensures in
    let root = at_root blocks checked.id checked.header (sym placed.0) parent placed.1 hash (map string_bytes (keys c.args.blocks.now)) states
    c.requires.founded c.in_ok-before.before (c.in_ok-before.ensures ∙ ap (root_behind g.H.NodeHasher.hash_of) c.root_of.ensures) in
    let laws = g.met.R.Station g.world.𝓛 g.world.𝓜 g.world.𝓡 ((λ s x. x), (λ x. x), (λ x. x), λ x. x) in
    let own = processors_own g.R.Station.next laws.own_reasons g.R.Station.tells (offers_at c.args.desks.now) in
    let policy = policy_by g.P.BlockPolicy.fault g.P.BlockPolicy.end_fault in
    let processors = processors_at g.R.Station.next g.R.Station.tells (offers_at c.args.desks.now) in
    let ran = c.in_ok-results.ensures.ran there knows in
    let m = map_at states c.in_ok-before.before in
    let all = ap (λ (batches : List BatchShape). rule_fault policy m checked.header.signer_public_key there batches) (sym c.as_slice-batches.ensures) ∙ ran.0 in
    let may = subst (λ (batches : List BatchShape). MayComeOfAll processors (map_at states c.in_ok-before.before) (txs_of batches)
    c.in_ok-results.results.batches) c.as_slice-batches.ensures ran.1.may in
    by_results processors own hash accepts policy blocks states content checked fine of placed.0 c.in_ok-before.before root.0 all
    c.conclude.result (c.conclude.ensures.ran processors may)
