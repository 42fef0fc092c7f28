use Rattle.std.proofs.Common.{◌≡◌, List, [], ◌∷◌, Err, Some, drop, inl, inr, length, map, refl, sym, subst, ap, ◌∙◌, arith}
use Rattle.std.proofs.lemmas.Bool.{eqb-false, eqb-true}
use Rattle.std.proofs.lemmas.Result.{err_from_is_err_and}
use Rattle.saw_context.specs.Outcome.{Processors}
use Rattle.saw_top.specs.Headline.{DoesJob}
use Rattle.saw_top.specs.Outside.{AreLater, SomeRose, outside}
use Rattle.saw_top.specs.Seats.{StopsAt}
use Rattle.saw_top.specs.Wishes.{wish_in}
use Rattle.saw_top.specs.World.{processors_beside, processors_with, world_with}
use Rattle.saw_top.proofs.Branching.{known_nothing}
use Rattle.saw_top.proofs.Carrying.{signs, since_begun, unbegun}
use Rattle.saw_top.proofs.Counting.{later_at, rose_at}
use Rattle.saw_top.proofs.Seated.{written_back}
use Rattle.saw_top.proofs.Served.{own_with, with_some}
use Rattle.saw_top.proofs.Wrapped.{as_many_offered}
use Rattle.saw_top.proofs.top.judge_wish.Goals as goal

pub returns-in_err-begin_each : goal.returns-in_err-begin_each
returns-in_err-begin_each g c =
    let laws = g.met.R.Station g.world.𝓛 g.world.𝓜 g.world.𝓡 ((λ s x. x), (λ x. x), (λ x. x), λ x. x) in
    let faults = g.R.Station.faults in
    let offered = g.R.Station.offered in
    let signing = signs (g.G.Signer.key_text c.args.signer.now) (g.G.Signer.signature c.args.signer.now) in
    let mids = c.begin_each.new.remotes in
    let e = c.begin_each.ensures in
    let back = written_back c.args.remotes.now.len mids (drop (length mids) c.args.remotes.now.items) (e.count ∙ c.deref_mut.ensures.len) in
    let later = subst (λ (l : List _). AreLater (map faults l) (map faults mids)) c.deref_mut.ensures.value
    (later_at faults c.deref_mut.result.now mids e.count e.later) in
    let p = err_from_is_err_and c.from_residual.result c.from_residual.ensures.1 in
    let failed = c.in_err-begin_each.ensures in
    record {
      carries = rw (p.1, p.2, back)
          (unbegun (world_with (g.V.Verifier.accepts c.args.verifier.now) signing
          (processors_with g.R.Station.next g.R.Station.tells (map offered mids))) (wish_in c.args.job.now)
          (outside g.S.Source g.O.Sink g.N.Sink g.F.Shelf faults c.args.input.now c.args.output.now c.args.notes.now c.args.shelf.now
          c.args.remotes.now.items) (map faults mids) later
          (λ files. own_with g.R.Station.next laws.own_reasons g.R.Station.tells (map offered mids)) c.in_err-begin_each.field-0.0 failed.fault
          (λ is. let at = failed.cause (ap Err is) in
          subst (λ (l : List _). SomeRose (map faults l) (map faults mids)) c.deref_mut.ensures.value
          (rose_at faults c.deref_mut.result.now mids at.0 e.count at.1 at.2)));
      begun = rw (p.1, p.2, back)
          (inr (subst (λ (l : List _). StopsAt g.R.Station.begun l mids) c.deref_mut.ensures.value failed.stops, (refl, refl, refl, failed.fault)));
    }

none_there : {X : Type 0} (xs : List X) → length xs ≡ 0 → xs ≡ []
none_there [] none = refl
none_there (x ∷ xs) none = let no : ⊥ = omega (arith, none) in absurd no

-- there are none
pub returns-then-is_empty : goal.returns-then-is_empty
returns-then-is_empty g c =
    let mids = c.begin_each.new.remotes in
    let e = c.begin_each.ensures in
    let back = written_back c.args.remotes.now.len mids (drop (length mids) c.args.remotes.now.items) (e.count ∙ c.deref_mut.ensures.len) in
    let zero = eqb-true c.args.remotes.now.len 0 (sym c.is_empty.ensures ∙ c.if-is_empty.true) in
    let none = none_there mids (e.count ∙ c.deref_mut.ensures.len ∙ zero) in
    let none_old = sym c.deref_mut.ensures.value ∙ none_there c.deref_mut.result.now (c.deref_mut.ensures.len ∙ zero) in
    record {
      carries = rw (back, none, none_old) c.judge_alone.ensures.carries;
      begun = rw back (inl c.in_ok-begin_each.ensures.begun);
    }

pub returns : goal.returns
returns g c =
    let next = g.R.Station.next in
    let tells = g.R.Station.tells in
    let faults = g.R.Station.faults in
    let offered = g.R.Station.offered in
    let accepts = g.V.Verifier.accepts c.args.verifier.now in
    let signing = signs (g.G.Signer.key_text c.args.signer.now) (g.G.Signer.signature c.args.signer.now) in
    let wish = wish_in c.args.job.now in
    let mids = c.begin_each.new.remotes in
    let last = c.judge_beside.new.stations.items in
    let came = c.judge_beside.result in
    let e = c.begin_each.ensures in
    let count = e.count ∙ c.deref_mut.ensures.len in
    let back = written_back c.args.remotes.now.len mids (drop (length mids) c.args.remotes.now.items) count in
    let later = subst (λ (l : List _). AreLater (map faults l) (map faults mids)) c.deref_mut.ensures.value
    (later_at faults c.deref_mut.result.now mids e.count e.later) in
    let filled = eqb-false c.args.remotes.now.len 0 (sym c.is_empty.ensures ∙ c.if-is_empty.false) in
    let some = as_many_offered offered last mids (c.judge_beside.ensures.count ∙ ap length back) (omega (arith, filled, count)) in
    let world = outside g.S.Source g.O.Sink g.N.Sink g.F.Shelf faults in
    let before = world c.args.input.now c.args.output.now c.args.notes.now c.args.shelf.now in
    let after = world c.judge_beside.new.input c.judge_beside.new.output c.judge_beside.new.notes c.judge_beside.new.shelf last in
    let done = subst (λ (l : List _). DoesJob (world_with accepts signing (processors_beside next tells (map offered last))) (Some wish) (before l) after came) back
    c.judge_beside.ensures.carries in
    record {
      carries = since_begun (world_with accepts signing (processors_with next tells (map offered last))) wish (before c.args.remotes.now.items) (map faults mids) later after came
          (subst (λ (p : Processors). DoesJob (world_with accepts signing p) (Some wish) (before mids) after came) (with_some next tells (map offered last) some) done);
      begun = inl c.judge_beside.ensures.begun;
    }

-- nobody follows, who knows the empty state
pub judge_alone-requires-clause-knows : goal.judge_alone-requires-clause-knows
judge_alone-requires-clause-knows g c = λ κs alive. known_nothing

pub judge_beside-requires-clause-knows : goal.judge_beside-requires-clause-knows
judge_beside-requires-clause-knows g c = λ κs alive. known_nothing
