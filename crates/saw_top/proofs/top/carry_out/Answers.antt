use Rattle.std.proofs.Common.{◌≡◌, true, false, inr, map, refl, sym, ap, ◌∙◌}
use Rattle.std.proofs.lemmas.Result.{err_from_is_err_and}
use Rattle.saw_top.specs.Headline.{asks_external}
use Rattle.saw_top.specs.Outside.{outside}
use Rattle.saw_top.specs.World.{processors_with, world_with}
use Rattle.saw_top.proofs.Beginning.{none_asked}
use Rattle.saw_top.proofs.Carrying.{claimed, generated, judged, signs, unasked, unread}
use Rattle.saw_top.proofs.Served.{own_with}
use Rattle.saw_top.proofs.top.carry_out.Goals as goal

pub returns-in_err-command : goal.returns-in_err-command
returns-in_err-command g c =
    let laws = g.met.R.Station g.world.𝓛 g.world.𝓜 g.world.𝓡 ((λ s x. x), (λ x. x), (λ x. x), λ x. x) in
    let signing = signs (g.G.Signer.key_text c.args.signer.now) (g.G.Signer.signature c.args.signer.now) in
    let p = err_from_is_err_and c.from_residual.result c.from_residual.ensures.1 in
    record {
      carries = rw (p.1, p.2)
          (unread (g.V.Verifier.accepts c.args.verifier.now) signing (processors_with g.R.Station.next g.R.Station.tells (map g.R.Station.offered c.args.remotes.now.items))
          (own_with g.R.Station.next laws.own_reasons g.R.Station.tells (map g.R.Station.offered c.args.remotes.now.items)) _
          (outside g.S.Source g.O.Sink g.N.Sink g.F.Shelf g.R.Station.faults c.args.input.now c.args.output.now c.args.notes.now c.args.shelf.now
          c.args.remotes.now.items)
          c.in_err-command.ensures.memory);
      unasked = λ is. refl;
      begun = λ asks. rw (p.1, p.2) (inr (none_asked g.R.Station.begun c.args.remotes.now.items, (refl, refl, refl, inr refl)));
    }

pub returns-in-None : goal.returns-in-None
returns-in-None g c =
    let laws = g.met.R.Station g.world.𝓛 g.world.𝓜 g.world.𝓡 ((λ s x. x), (λ x. x), (λ x. x), λ x. x) in
    let signing = signs (g.G.Signer.key_text c.args.signer.now) (g.G.Signer.signature c.args.signer.now) in
    let none = rw c.in-None.is at c.in_ok-command.ensures.ok in
    record {
      carries = unasked (g.V.Verifier.accepts c.args.verifier.now) signing (processors_with g.R.Station.next g.R.Station.tells (map g.R.Station.offered c.args.remotes.now.items))
          (own_with g.R.Station.next laws.own_reasons g.R.Station.tells (map g.R.Station.offered c.args.remotes.now.items)) _
          (outside g.S.Source g.O.Sink g.N.Sink g.F.Shelf g.R.Station.faults c.args.input.now c.args.output.now c.args.notes.now c.args.shelf.now
          c.args.remotes.now.items) (sym none);
      unasked = λ is. refl;
      begun = λ asks. absurd (let never : false ≡ true = ap asks_external none ∙ asks in cc never);
    }

pub returns-in-Some-Judge : goal.returns-in-Some-Judge
returns-in-Some-Judge g c =
    let asked = rw (c.in-Some-Judge.is, c.in-Some-Judge.field-0-is) at c.in_ok-command.ensures.ok in
    record {
      carries = judged _ _ _ _ _ _ asked c.judge_wish.ensures.carries;
      unasked = λ is. absurd (let never : true ≡ false = ap asks_external asked ∙ is in cc never);
      begun = λ asks. c.judge_wish.ensures.begun;
    }

pub returns-in-Some-Generate : goal.returns-in-Some-Generate
returns-in-Some-Generate g c =
    let signing = signs (g.G.Signer.key_text c.args.signer.now) (g.G.Signer.signature c.args.signer.now) in
    let asked = rw (c.in-Some-Generate.is, c.in-Some-Generate.field-0-is) at c.in_ok-command.ensures.ok in
    record {
      carries = generated (world_with (g.V.Verifier.accepts c.args.verifier.now) signing (processors_with g.R.Station.next g.R.Station.tells (map g.R.Station.offered c.args.remotes.now.items))) _ _
          (outside g.S.Source g.O.Sink g.N.Sink g.F.Shelf g.R.Station.faults c.args.input.now c.args.output.now c.args.notes.now c.args.shelf.now
          c.args.remotes.now.items)
          (outside g.S.Source g.O.Sink g.N.Sink g.F.Shelf g.R.Station.faults c.args.input.now c.write_stream.new.output c.args.notes.now c.args.shelf.now
          c.args.remotes.now.items) _ asked refl
          (λ files. c.write_stream.ensures.writes);
      unasked = λ is. refl;
      begun = λ asks. absurd (let never : false ≡ true = ap asks_external asked ∙ asks in cc never);
    }

pub returns-in-Some-Check : goal.returns-in-Some-Check
returns-in-Some-Check g c =
    let asked = rw (c.in-Some-Check.is, c.in-Some-Check.field-0-is) at c.in_ok-command.ensures.ok in
    record {
      carries = claimed _ _ _ _ _ _ asked (record { still = refl; checks = c.check_claim.ensures.checks });
      unasked = λ is. refl;
      begun = λ asks. absurd (let never : false ≡ true = ap asks_external asked ∙ asks in cc never);
    }
