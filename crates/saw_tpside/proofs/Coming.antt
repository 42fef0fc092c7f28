-- How a peer in memory comes to stand so, step by step.
use Rattle.std.proofs.Common.{◌≡◌, ◌≤◌, ℕ, List, [], ◌∷◌, ◌++◌, length, false, Option, Some, None, sym, subst, arith}
use Rattle.std.specs.Prelude.{IfSome, nat_lt}
use Rattle.std.proofs.lemmas.Bool.Decides.{nat_tests}
use Rattle.saw_link.specs.LinkConversation.{Obeys}
use Rattle.saw_link.specs.declared.passed.Passed.{Passed}
use Rattle.saw_link.specs.declared.passed.Passed.TheVariants.{Sent, Received, Ended}
use Rattle.saw_station.specs.declared.offer.Offer.{Offer}
use Rattle.saw_tpside.specs.FamilyPeers.{begins, hears, speaks, ends, gives_up, HasCome, due_from, family_next, is_above, taken_from}
use Rattle.saw_tpside.specs.ProcessorConversation.{AreOffers, IsVersion, after_sent, due, limit_at, starting}
use Rattle.saw_tpside.specs.Understood.{IsUnderstood}
use Rattle.saw_tpside.specs.declared.serving.Serving.{Serving}
use Rattle.saw_tpside.proofs.Obeying.{obeys}

pub has_begun : (offers : List Offer) (asked : ℕ) → AreOffers offers → IsVersion asked → HasCome [] (Some (starting offers asked))
has_begun offers asked are is = record { offers = offers; asked = asked; are = are; is = is; came = begins }

-- the same frames, and the same standing
pub as_come : (passed later : List Passed) (before after : Option Serving) → later ≡ passed → after ≡ before → HasCome passed before → HasCome later after
as_come passed later before after same stands has =
    subst (λ (l : List Passed). HasCome l after) (sym same) (subst (λ (now : Option Serving). HasCome passed now) (sym stands) has)

-- it heard a frame
pub has_heard : (passed later : List Passed) (before after : Option Serving) (frame : List ℕ) → later ≡ passed ++ Sent frame ∷ [] → after ≡ taken_from before frame
    → HasCome passed before → HasCome later after
has_heard passed later before after frame more stands has =
    as_come (passed ++ Sent frame ∷ []) later (taken_from before frame) after more stands
    (record { offers = has.offers; asked = has.asked; are = has.are; is = has.is; came = hears frame has.came })

-- it says nothing any more
pub has_given_up : (passed later : List Passed) (before after : Option Serving) → later ≡ passed → after ≡ None → HasCome passed before → HasCome later after
has_given_up passed later before after same none has =
    as_come passed later None after same none (record { offers = has.offers; asked = has.asked; are = has.are; is = has.is; came = gives_up has.came })

-- it ended the link
pub has_ended : (passed later : List Passed) (before after : Option Serving) → later ≡ passed ++ Ended ∷ [] → after ≡ before → HasCome passed before → HasCome later after
has_ended passed later before after more stands has =
    as_come (passed ++ Ended ∷ []) later before after more stands
    (record { offers = has.offers; asked = has.asked; are = has.are; is = has.is; came = ends has.came })

-- it said a frame
pub has_spoken : (passed later : List Passed) (p : Serving) (after : Option Serving) (frame : List ℕ) → later ≡ passed ++ Received frame ∷ []
    → after ≡ Some (after_sent p) → due p ≡ Some frame → length frame ≤ limit_at p → IsUnderstood p frame → HasCome passed (Some p) → HasCome later after
has_spoken passed later p after frame more stands due_is short says has =
    as_come (passed ++ Received frame ∷ []) later (Some (after_sent p)) after more stands
    (record { offers = has.offers; asked = has.asked; are = has.are; is = has.is; came = speaks frame has.came due_is short says })

short_enough : (limit n : ℕ) → nat_lt limit n ≡ false → n ≤ limit
short_enough limit n short = grind (arith, nat_tests)

module _ (passed : List Passed) (frame : List ℕ) where
  -- the frame that was due was said
  pub has_said : (later : List Passed) (now after : Option Serving) → due_from now ≡ Some frame → later ≡ passed ++ Received frame ∷ []
      → IfSome now (λ p. after ≡ Some (after_sent p)) → is_above now (length frame) ≡ false → IfSome now (λ p. IsUnderstood p frame) → HasCome passed now
      → HasCome later after
  has_said later None after due_is more stands short says has = absurd cc
  has_said later (Some p) after due_is more stands short says has =
      has_spoken passed later p after frame more stands due_is (short_enough (limit_at p) (length frame) short) says has

  -- it may be said
  pub may_be_said : (now : Option Serving) → due_from now ≡ Some frame → is_above now (length frame) ≡ false → IfSome now (λ p. IsUnderstood p frame)
      → HasCome passed now → Obeys family_next (Some passed) frame
  may_be_said None due_is short says has = absurd cc
  may_be_said (Some p) due_is short says has =
      obeys passed p frame has (record { due_is = due_is; short = short_enough (limit_at p) (length frame) short; understood = says })
