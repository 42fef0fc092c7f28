-- Where no transaction is of a family that is offered, batches come to what they come to without external processors.
use Rattle.std.proofs.Common.{◌≡◌, ℕ, Bool, true, false, not, List, [], ◌∷◌, Option, Some, None, map, length, get_or, ◌<◌, refl, ap, subst, ◌||◌, arith}
use Rattle.std.specs.List.{list_any}
use Rattle.std.specs.Prelude.{is_some, if◌then◌else◌}
use Rattle.saw_address.specs.Maps.{StateMap}
use Rattle.saw_messages.specs.TxShapes.{TxShape}
use Rattle.saw_messages.specs.declared.outcome.Outcome.{Outcome}
use Rattle.saw_messages.specs.declared.outcome.Outcome.TheVariants as outcomes
use Rattle.saw_messages.specs.declared.outcome.Reason.TheVariants.{BadDeclared, NoProcessor}
use Rattle.saw_messages.specs.declared.talk.Action.{Action}
use Rattle.saw_messages.specs.declared.talk.Turn.{Turn}
use Rattle.saw_context.specs.Outcome.{are_declared, conversed, map_after, outcome_by}
use Rattle.saw_context.specs.Possible.{ThenOthers, MayCome, MayComeFrom, MayComeOfAll, MayComeOfBatch}
use Rattle.saw_context.specs.Serial.{failed_with, left_by, names_one}
use Rattle.saw_context.specs.SoundResults.{AnswersFor}
use Rattle.saw_context.specs.declared.batch_result.BatchResult.{BatchResult}
use Rattle.saw_station.specs.Families.{family_of}
use Rattle.saw_station.specs.Serving.{is_offered, next_by, processors_at, serving, tells_by}
use Rattle.saw_station.specs.declared.offer.Offer.{Offer}
use Rattle.saw_station.specs.DeskPlaces.{Place}
use Rattle.saw_crew.specs.Desks.{offers_at}
use Rattle.saw_crew.specs.Offered.{are_offered, tx_offered}

pub any_seen : {A B : Type 0} (seen : A → B) (p : B → Bool) (xs : List A) → list_any (λ x. p (seen x)) xs ≡ list_any p (map seen xs)
any_seen seen p [] = refl
any_seen seen p (x ∷ xs) = ap (λ more. p (seen x) || more) (any_seen seen p xs)

-- the offers of the first desk
pub first_offers : {R : Type 0} (desks : List (Place R)) (desk : Place R) → 0 < length desks → (get_or desks 0 desk).offers ≡ offers_at desks
first_offers [] desk some = absurd (omega (arith, some))
first_offers (first ∷ desks) desk some = refl

neither : (a b : Bool) → (a || b) ≡ false → (a ≡ false) × (b ≡ false)
neither true b is = absurd cc
neither false b is = (refl, is)

module _ (next : TxShape → List Turn → Action) (tells : Bool) (offers : List Offer) where
  same_by : (family version : List ℕ) (own : Bool) → is_some (family_of family version) ≡ own → is_offered offers family version ≡ false
      → serving [] family version ≡ serving offers family version
  same_by family version true is none = rw is refl
  same_by family version false is none = rw (is, none) refl

  module _ (tx : TxShape) (none : tx_offered offers tx ≡ false) where
    abbrev name : List ℕ
    name = tx.header.family_name

    abbrev version : List ℕ
    version = tx.header.family_version

    same : serving [] name version ≡ serving offers name version
    same = same_by name version _ refl none

    answers : (f : List Turn → Action) → AnswersFor (processors_at next tells []) tx f → AnswersFor (processors_at next tells offers) tx f
    answers f alone = record {
      reasons = alone.reasons;
      told = subst (λ (served : Option _). tells_by tells served ≡ true → (turns : List Turn) → f turns ≡ next_by next tx turns served) same alone.told;
    }

    come : (m : StateMap) (failed : Bool) (outcome : Outcome) → MayCome (processors_at next tells []) tx m failed outcome
        → MayCome (processors_at next tells offers) tx m failed outcome
    come m failed outcome alone = record {
      next = alone.next;
      answers = answers alone.next alone.answers;
      decided = subst (λ (served : Option _). outcome ≡ outcome_by
          (if not (are_declared tx.header) then Some BadDeclared else if not (is_some served) then Some NoProcessor else None) failed
          (conversed alone.next tx.header m)) same alone.decided;
    }

  batch_comes : (failed : List TxShape) (m : StateMap) (txs : List TxShape) (result : BatchResult) → list_any (tx_offered offers) txs ≡ false
      → MayComeOfBatch (processors_at next tells []) failed m txs result → MayComeOfBatch (processors_at next tells offers) failed m txs result
  batch_comes failed m [] result none comes = comes
  batch_comes failed m (tx ∷ txs) result none (outcome, may, goes) =
      let both = neither (tx_offered offers tx) (list_any (tx_offered offers) txs) none in
      (outcome, come tx both.0 m (names_one tx failed) outcome may, on outcome goes (λ n others. batch_comes failed n txs others both.1))
    where
      on : (outcome : Outcome) → ThenOthers (λ n others. MayComeOfBatch (processors_at next tells []) failed n txs others) m outcome result
          → ((n : StateMap) (others : BatchResult) → MayComeOfBatch (processors_at next tells []) failed n txs others
          → MayComeOfBatch (processors_at next tells offers) failed n txs others)
          → ThenOthers (λ n others. MayComeOfBatch (processors_at next tells offers) failed n txs others) m outcome result
      on (outcomes.Ok changes events) (others, rest, is) more = (others, more (map_after m changes) others rest, is)
      on (outcomes.Invalid reason) is more = is

  from_comes : (failed : List TxShape) (m : StateMap) (batches : List (List TxShape)) (results : List BatchResult) → are_offered offers batches ≡ false
      → MayComeFrom (processors_at next tells []) failed m batches results → MayComeFrom (processors_at next tells offers) failed m batches results
  from_comes failed m [] results none comes = comes
  from_comes failed m (txs ∷ batches) results none (result, others, batch, rest, is) =
      let both = neither (list_any (tx_offered offers) txs) (are_offered offers batches) none in (
        result,
        others,
        batch_comes failed m txs result both.0 batch,
        from_comes (failed_with failed txs result) (left_by m result) batches others both.1 rest,
        is,
      )

  pub all_come : (m : StateMap) (batches : List (List TxShape)) (results : List BatchResult) → are_offered offers batches ≡ false
      → MayComeOfAll (processors_at next tells []) m batches results → MayComeOfAll (processors_at next tells offers) m batches results
  all_come m batches results none comes = from_comes [] m batches results none comes
