use Rattle.std.proofs.Common.{◌<◌, List, [], ◌++◌, drop, length, map, reverse, Some, Ok, refl, sym, ap, subst, ◌∙◌, arith}
use Rattle.std.proofs.lemmas.Result.{err_from_is_err_and}
use Rattle.std.specs.Prelude.{option_map}
use Rattle.saw_crew.specs.Desks.{offers_at}
use Rattle.saw_station.specs.CommonOffers.{common}
use Rattle.saw_station.specs.DeskPlaces.{Place}
use Rattle.saw_station.proofs.Finished.{processors_own}
use Rattle.saw_station.specs.Serving.{processors_at}
use Rattle.saw_station.specs.declared.offer.Offer.{Offer}
use Rattle.saw_top.specs.Following.{Follows, HearsJob}
use Rattle.saw_top.specs.Headline.{DoesJob}
use Rattle.saw_top.specs.Outside.{AreLater, SomeRose, counts_of, outside, outside_with, shelf_end}
use Rattle.saw_top.specs.Seats.{HaveOffers, remotes_at}
use Rattle.saw_top.specs.Wishes.{wish_in}
use Rattle.saw_top.specs.World.{world_with}
use Rattle.saw_top.proofs.Carrying.{deskless, does_so, never_wrong, signs, unprepared, with_ready}
use Rattle.saw_top.proofs.HearingJobs.{deskless_heard, ready_heard, unprepared_heard}
use Rattle.saw_top.proofs.Seated.{all_later, all_offers, all_rose, are_alike, as_many, as_many_desks, offers_are, written_back}
use Rattle.saw_top.proofs.top.judge_begun.Goals as goal

pub returns-in_err-ready : goal.returns-in_err-ready
returns-in_err-ready g c =
    let laws = g.met.R.Station g.world.𝓛 g.world.𝓜 g.world.𝓡 ((λ s x. x), (λ x. x), (λ x. x), λ x. x) in
    let signing = signs (g.G.Signer.key_text c.args.signer.now) (g.G.Signer.signature c.args.signer.now) in
    let p = err_from_is_err_and c.from_residual.result c.from_residual.ensures.1 in
    let job = c.args.job.now in
    record {
      carries = rw (p.1, p.2)
          (unprepared (g.V.Verifier.accepts c.args.verifier.now) signing
          (processors_at g.R.Station.next g.R.Station.tells (common (map g.R.Station.offered c.args.remotes.now.items)))
          (processors_own g.R.Station.next laws.own_reasons g.R.Station.tells (common (map g.R.Station.offered c.args.remotes.now.items))) job.workers job.task
          (option_map (λ name. name.now) job.attest) (option_map (λ name. name.now) job.batches)
          (outside g.S.Source g.O.Sink g.N.Sink g.F.Shelf g.R.Station.faults c.args.input.now c.args.output.now c.args.notes.now c.args.shelf.now
          c.args.remotes.now.items)
          (shelf_end g.F.Shelf c.prepare.new.shelf) c.in_err-ready.field-0.0 (c.in_err-ready.ensures.prepares signing));
      heard = rw (p.1, p.2) (unprepared_heard (g.V.Verifier.accepts c.args.verifier.now) signing
          (processors_at g.R.Station.next g.R.Station.tells (common (map g.R.Station.offered c.args.remotes.now.items)))
          (processors_own g.R.Station.next laws.own_reasons g.R.Station.tells (common (map g.R.Station.offered c.args.remotes.now.items)))
          (wish_in job) (shelf_end g.F.Shelf c.args.shelf.now) (shelf_end g.F.Shelf c.prepare.new.shelf) (g.S.Source.unread c.args.input.now)
          g.W.Follower.follows (g.W.Follower.heads c.args.follower.now) c.in_err-ready.field-0.0 (c.in_err-ready.ensures.prepares signing));
      belongs = c.requires.belongs;
      begun = c.requires.begun;
    }

pub returns-in_err-offers : goal.returns-in_err-offers
returns-in_err-offers g c =
    let laws = g.met.R.Station g.world.𝓛 g.world.𝓜 g.world.𝓡 ((λ s x. x), (λ x. x), (λ x. x), λ x. x) in
    let signing = signs (g.G.Signer.key_text c.args.signer.now) (g.G.Signer.signature c.args.signer.now) in
    let p = err_from_is_err_and c.from_residual-in_err-offers.result c.from_residual-in_err-offers.ensures.1 in
    let job = c.args.job.now in
    record {
      carries = rw (p.1, p.2)
          (deskless (g.V.Verifier.accepts c.args.verifier.now) signing
          (processors_at g.R.Station.next g.R.Station.tells (common (map g.R.Station.offered c.args.remotes.now.items)))
          (processors_own g.R.Station.next laws.own_reasons g.R.Station.tells (common (map g.R.Station.offered c.args.remotes.now.items))) job.workers job.task
          (option_map (λ name. name.now) job.attest) (option_map (λ name. name.now) job.batches)
          (outside g.S.Source g.O.Sink g.N.Sink g.F.Shelf g.R.Station.faults c.args.input.now c.args.output.now c.args.notes.now c.args.shelf.now
          c.args.remotes.now.items)
          (shelf_end g.F.Shelf c.prepare.new.shelf) _ (c.in_ok-ready.ensures.prepares signing));
      heard = rw (p.1, p.2) (deskless_heard (g.V.Verifier.accepts c.args.verifier.now) signing
          (processors_at g.R.Station.next g.R.Station.tells (common (map g.R.Station.offered c.args.remotes.now.items)))
          (processors_own g.R.Station.next laws.own_reasons g.R.Station.tells (common (map g.R.Station.offered c.args.remotes.now.items)))
          (wish_in job) (shelf_end g.F.Shelf c.args.shelf.now) (shelf_end g.F.Shelf c.prepare.new.shelf) (g.S.Source.unread c.args.input.now)
          _ (c.in_ok-ready.ensures.prepares signing) g.W.Follower.follows (g.W.Follower.heads c.args.follower.now));
      belongs = c.requires.belongs;
      begun = c.requires.begun;
    }

pub returns-in_err-desks : goal.returns-in_err-desks
returns-in_err-desks g c =
    let laws = g.met.R.Station g.world.𝓛 g.world.𝓜 g.world.𝓡 ((λ s x. x), (λ x. x), (λ x. x), λ x. x) in
    let signing = signs (g.G.Signer.key_text c.args.signer.now) (g.G.Signer.signature c.args.signer.now) in
    let p = err_from_is_err_and c.from_residual-in_err-desks.result c.from_residual-in_err-desks.ensures.1 in
    let job = c.args.job.now in
    let same = c.in_err-desks.ensures.err in
    record {
      carries = rw (p.1, p.2, same)
          (deskless (g.V.Verifier.accepts c.args.verifier.now) signing
          (processors_at g.R.Station.next g.R.Station.tells (common (map g.R.Station.offered c.args.remotes.now.items)))
          (processors_own g.R.Station.next laws.own_reasons g.R.Station.tells (common (map g.R.Station.offered c.args.remotes.now.items))) job.workers job.task
          (option_map (λ name. name.now) job.attest) (option_map (λ name. name.now) job.batches)
          (outside g.S.Source g.O.Sink g.N.Sink g.F.Shelf g.R.Station.faults c.args.input.now c.args.output.now c.args.notes.now c.args.shelf.now
          c.args.remotes.now.items)
          (shelf_end g.F.Shelf c.prepare.new.shelf) _ (c.in_ok-ready.ensures.prepares signing));
      heard = rw (p.1, p.2, same) (deskless_heard (g.V.Verifier.accepts c.args.verifier.now) signing
          (processors_at g.R.Station.next g.R.Station.tells (common (map g.R.Station.offered c.args.remotes.now.items)))
          (processors_own g.R.Station.next laws.own_reasons g.R.Station.tells (common (map g.R.Station.offered c.args.remotes.now.items)))
          (wish_in job) (shelf_end g.F.Shelf c.args.shelf.now) (shelf_end g.F.Shelf c.prepare.new.shelf) (g.S.Source.unread c.args.input.now)
          _ (c.in_ok-ready.ensures.prepares signing) g.W.Follower.follows (g.W.Follower.heads c.args.follower.now));
      belongs = c.requires.belongs;
      begun = c.in_err-desks.ensures.begun;
    }

-- the desks behind the task
pub unseat-requires-after_bounds : goal.unseat-requires-after_bounds
unseat-requires-after_bounds g c =
    let faults = g.R.Station.faults in
    let offered = g.R.Station.offered in
    let olds = c.deref_mut.result.now in
    let news = c.do_task-came.new.desks in
    let keeps = c.do_task-came.ensures.desks in
    let count = as_many_desks faults offered olds news keeps in
    let back = written_back c.in_ok-desks.desks.len news (drop (length news) c.in_ok-desks.desks.items) (count ∙ c.deref_mut.ensures.len) in
    let few = as_many faults offered [] olds news keeps in
    let same = ap (λ (l : List (Place _)). length (remotes_at l)) c.deref_mut.ensures.value in
    let whole = ap (λ (l : List (Place _)). length (remotes_at l)) back in
    omega (arith, c.in_ok-desks.ensures.room, few, same, whole)

pub returns : goal.returns
returns g c =
    let laws = g.met.R.Station g.world.𝓛 g.world.𝓜 g.world.𝓡 ((λ s x. x), (λ x. x), (λ x. x), λ x. x) in
    let faults = g.R.Station.faults in
    let offered = g.R.Station.offered in
    let signing = signs (g.G.Signer.key_text c.args.signer.now) (g.G.Signer.signature c.args.signer.now) in
    let job = c.args.job.now in
    let olds = c.deref_mut.result.now in
    let news = c.do_task-came.new.desks in
    let left = c.seat.new.remotes.items in
    let first = c.args.remotes.now.items in
    let last = c.unseat.new.remotes.items in
    let keeps = c.do_task-came.ensures.desks in
    let count = as_many_desks faults offered olds news keeps in
    let back = written_back c.in_ok-desks.desks.len news (drop (length news) c.in_ok-desks.desks.items) (count ∙ c.deref_mut.ensures.len) in
    let value = c.deref_mut.ensures.value in
    let moved = c.in_ok-desks.ensures.seated ∙ ap (λ (l : List (Place _)). left ++ reverse (remotes_at l)) (sym value) in
    let returned = c.unseat.ensures.seated ∙ ap (λ (l : List (Place _)). left ++ reverse (remotes_at l)) back in
    let some = subst (λ (l : List (Place _)). 0 < length l) (sym value) c.in_ok-desks.ensures.some in
    let have = subst (HaveOffers c.in_ok-offers.offers.items) (sym value) c.in_ok-desks.ensures.offers in
    let offers = offers_are c.in_ok-offers.offers.items olds some have ∙ c.in_ok-offers.ensures
    ∙ ap (λ (l : List _). common (map offered l)) (c.deref.ensures.value ∙ moved) ∙ ap common (sym (all_offers faults offered left olds news keeps))
    ∙ ap (λ (l : List _). common (map offered l)) (sym returned) in
    let later = subst (λ (l : List _). AreLater (map faults l) (map faults last)) (sym moved)
    (subst (λ (l : List _). AreLater (map faults (left ++ reverse (remotes_at olds))) (map faults l)) (sym returned)
    (all_later faults offered left olds news keeps)) in
    let rose = λ (rose : SomeRose (counts_of faults olds) (counts_of faults news)). subst (λ (l : List _). SomeRose (map faults l) (map faults last)) (sym moved)
    (subst (λ (l : List _). SomeRose (map faults (left ++ reverse (remotes_at olds))) (map faults l)) (sym returned)
    (all_rose faults offered left olds news keeps rose)) in
    record {
      carries =
          subst (λ (offers : List Offer). DoesJob (world_with (g.V.Verifier.accepts c.args.verifier.now) signing
          (processors_at g.R.Station.next g.R.Station.tells offers)) (Some (wish_in job))
          (outside g.S.Source g.O.Sink g.N.Sink g.F.Shelf faults c.args.input.now c.args.output.now c.args.notes.now c.args.shelf.now first)
          (outside g.S.Source g.O.Sink g.N.Sink g.F.Shelf faults c.do_task-came.new.input c.do_task-came.new.output c.do_task-came.new.notes
          c.prepare.new.shelf last) c.do_task-came.result) offers
          (with_ready (g.V.Verifier.accepts c.args.verifier.now) signing (processors_at g.R.Station.next g.R.Station.tells (offers_at olds))
          (processors_own g.R.Station.next laws.own_reasons g.R.Station.tells (offers_at olds)) job.workers job.task (option_map (λ name. name.now) job.attest) (option_map (λ name. name.now) job.batches)
          (outside g.S.Source g.O.Sink g.N.Sink g.F.Shelf faults c.args.input.now c.args.output.now c.args.notes.now c.args.shelf.now first)
          (shelf_end g.F.Shelf c.prepare.new.shelf) _ (c.in_ok-ready.ensures.prepares signing)
          (outside g.S.Source g.O.Sink g.N.Sink g.F.Shelf faults c.do_task-came.new.input c.do_task-came.new.output c.do_task-came.new.notes
          c.prepare.new.shelf last) c.do_task-came.result refl later
          (λ from to.
          let before = outside_with g.S.Source g.O.Sink g.N.Sink c.args.input.now c.args.output.now c.args.notes.now from (counts_of faults olds) in
          let after = outside_with g.S.Source g.O.Sink g.N.Sink c.do_task-came.new.input c.do_task-came.new.output c.do_task-came.new.notes to
          (counts_of faults news) in
          let does = rw c.as_slice.ensures at (c.do_task-came.ensures.does from to) in
          does_so (processors_at g.R.Station.next g.R.Station.tells (offers_at olds)) job.task (Ok _) before after (counts_of faults olds) (counts_of faults news)
          (map faults first) (map faults last) rose c.do_task-came.result
          (never_wrong (processors_at g.R.Station.next g.R.Station.tells (offers_at olds)) job.task _ before after c.do_task-came.result does) does));
      heard =
          subst (λ (offers : List Offer). HearsJob (world_with (g.V.Verifier.accepts c.args.verifier.now) signing
          (processors_at g.R.Station.next g.R.Station.tells offers)) (Some (wish_in job)) (g.F.Shelf.files c.args.shelf.now)
          (Follows g.W.Follower.follows (g.W.Follower.heads c.args.follower.now) (g.W.Follower.heads c.do_task-came.new.follower))
          (g.S.Source.unread c.args.input.now) c.do_task-came.result) offers
          (ready_heard (g.V.Verifier.accepts c.args.verifier.now) signing (processors_at g.R.Station.next g.R.Station.tells (offers_at olds))
          (processors_own g.R.Station.next laws.own_reasons g.R.Station.tells (offers_at olds)) (wish_in job) (shelf_end g.F.Shelf c.args.shelf.now)
          (shelf_end g.F.Shelf c.prepare.new.shelf) (g.S.Source.unread c.args.input.now) _ (c.in_ok-ready.ensures.prepares signing) _
          c.do_task-came.result c.do_task-came.ensures.heard);
      belongs = c.do_task-came.ensures.belongs;
      begun = c.unseat.ensures.begun c.in_ok-desks.ensures.begun;
    }

pub do_task-came-requires-clause-some : goal.do_task-came-requires-clause-some
do_task-came-requires-clause-some g c = λ κs alive.
    subst (λ (l : List (Place _)). 0 < length l) (sym c.deref_mut.ensures.value) c.in_ok-desks.ensures.some

pub do_task-came-requires-clause-alike : goal.do_task-came-requires-clause-alike
do_task-came-requires-clause-alike g c = λ κs alive.
    let value = sym c.deref_mut.ensures.value in
    are_alike c.in_ok-offers.offers.items c.deref_mut.result.now (subst (λ (l : List (Place _)). 0 < length l) value c.in_ok-desks.ensures.some)
    (subst (HaveOffers c.in_ok-offers.offers.items) value c.in_ok-desks.ensures.offers)
