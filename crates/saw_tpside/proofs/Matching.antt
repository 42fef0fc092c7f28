-- A processor's frames are those that its station may receive there.
use Rattle.std.proofs.Common.{◌≡◌, ◌⊎◌, inl, inr, ◌≤◌, ◌<◌, ◌+◌, ◌^◌, ◌==◌, ℕ, zero, suc, Bool, true, false, not, List, [], ◌∷◌, ◌++◌, length, map, get_or, min, Option, Some, None, refl, sym, ap, subst, ◌∙◌, arith}
use Rattle.std.specs.Prelude.{nat_lt, nat_le, is_some, if◌then◌else◌}
use Rattle.std.specs.Fmt.{decimal}
use Rattle.std.proofs.lemmas.Bool.Decides.{nat_tests}
use Rattle.saw_context.specs.Outcome.{is_request}
use Rattle.saw_faults.specs.Counts.{last_count}
use Rattle.saw_messages.specs.Transactions.{transaction_header}
use Rattle.saw_messages.specs.TxShapes.{TxShape, header_by, shape_in}
use Rattle.saw_messages.specs.declared.outcome.Reason.TheVariants.{Remote}
use Rattle.saw_messages.specs.declared.talk.Action.{Action}
use Rattle.saw_messages.specs.declared.talk.Action.TheVariants as actions
use Rattle.saw_messages.specs.declared.talk.Reply.{Reply}
use Rattle.saw_messages.specs.declared.talk.Reply.TheVariants.{Unauthorized}
use Rattle.saw_messages.specs.declared.talk.Turn.{Turn}
use Rattle.saw_messages.specs.declared.transaction.Transaction.{Transaction}
use Rattle.saw_messages.specs.declared.transaction.TransactionHeader.{TransactionHeader}
use Rattle.saw_link.specs.Alike.{AreAlike, IsAlike, with_no_index}
use Rattle.saw_link.specs.Hearing.{heard, registration}
use Rattle.saw_link.specs.LinkConversation.{IsActOf, acted, version_by, may_register}
use Rattle.saw_link.specs.SentFrames.{limit_of, stated}
use Rattle.saw_link.specs.declared.heard.Asked.{Asked}
use Rattle.saw_link.specs.declared.heard.Heard.{Heard}
use Rattle.saw_link.specs.declared.standing.LastStep.{LastStep}
use Rattle.saw_link.specs.declared.standing.Standing.{Standing}
use Rattle.saw_tpside.proofs.Answered.{asked_by}
use Rattle.saw_tpside.specs.FamilyLaws.{family_alike, next_parts}
use Rattle.saw_tpside.specs.FamilyPeers.{as_remote, family_next}
use Rattle.saw_tpside.specs.ProcessorConversation.{IsVersion, after_sent, limit_at, number_of, registers}
use Rattle.saw_tpside.specs.Understood.{said}
use Rattle.saw_tpside.specs.declared.serving.Open.{Open}
use Rattle.saw_tpside.specs.declared.serving.Serving.{Serving}

-- ---- how a processor and its station stand to each other, between two moves of the station

-- the station's last step is that of the open transaction
pub record IsLast (last : LastStep) (current : Open) : Type 0 where
  pub header : header_by (transaction_header last.tx.header) ≡ current.tx.header
  pub payload : last.tx.payload ≡ current.tx.payload
  pub turns : AreAlike last.turns current.talk.turns
  pub action : last.action ≡ as_remote current.action

pub record HasLast (last : Option LastStep) (current : Open) : Type 0 where
  pub step : LastStep
  pub is : last ≡ Some step
  pub of : IsLast step current

pub record IsOpen (p : Serving) (current : Open) (s : Standing) : Type 0 where
  pub waits : p.waits ≡ true
  pub few : nat_lt p.answered last_count ≡ true
  pub count : s.count ≡ p.answered + 1
  pub asked : s.asked ≡ asked_by (number_of current) current.action
  pub request : is_request current.action ≡ true
  pub last : s.refused ≡ 0 → HasLast s.last current

pub record IsIdle (p : Serving) (s : Standing) : Type 0 where
  pub asked : s.asked ≡ None
  pub waits : p.waits ≡ false
  pub count : s.count ≡ p.answered

abbrev pub Talks : Serving → Option Open → Standing → Type 0
Talks p None s = IsIdle p s
Talks p (Some current) s = IsOpen p current s

pub record Agrees (p : Serving) (s : Standing) : Type 0 where
  pub version : s.version ≡ (if p.registered == 0 then 1 else p.version)
  pub asks : IsVersion p.version
  pub registered : s.registrations ≡ p.registered
  pub more : s.more ≡ registers p
  pub some : 0 < length p.offers
  pub few : length p.offers ≤ 100

pub record Match (p : Serving) (s : Standing) : Type 0 where
  pub agrees : Agrees p s
  pub talk : Talks p p.current s

-- ---- an action that was heard

counts_on : (n : ℕ) → nat_lt n last_count ≡ true → n + 1 ≡ min (n + 1) last_count
counts_on n few = grind (arith, nat_tests)

-- a processor with an open transaction whose action is due
abbrev pub with_open : Serving → TxShape → List Turn → Action → Serving
with_open p tx turns action = record p { current = Some (record { tx = tx; talk = record { turns = turns }; action = action }); waits = false }

module _ (p : Serving) (s : Standing) (made : TxShape) (turns : List Turn) (tx : Transaction) (told : List Turn) (count : ℕ) (h : Heard)
    (agrees : Agrees p s) (few : nat_lt p.answered last_count ≡ true) (count_is : count ≡ p.answered + 1)
    (header : header_by (transaction_header tx.header) ≡ made.header) (payload : tx.payload ≡ made.payload) (alike : AreAlike told turns) where
  agrees_again : {q : Serving} {t : Standing} → q.registered ≡ p.registered → q.version ≡ p.version → q.offers ≡ p.offers
      → t.version ≡ s.version → t.registrations ≡ s.registrations → t.more ≡ s.more → Agrees q t
  agrees_again {q} {t} same_registered same_version same_offers version registrations more = record {
    version = version ∙ agrees.version ∙ rw (same_registered, same_version) refl;
    asks = subst IsVersion (sym same_version) agrees.asks;
    registered = registrations ∙ agrees.registered ∙ sym same_registered;
    more = more ∙ agrees.more ∙ rw (same_registered, same_offers) refl;
    some = subst (λ (offers : List _). 0 < length offers) (sym same_offers) agrees.some;
    few = subst (λ (offers : List _). length offers ≤ 100) (sym same_offers) agrees.few;
  }

  same_next : family_next (shape_in tx) told ≡ family_next made turns
  same_next = next_parts (shape_in tx) made told header payload ∙ family_alike made told turns alike

  pub went_on : (action : Action) → as_remote action ≡ family_next made turns → h ≡ said (decimal (length turns + 1)) action
      → ((next : Standing) × ((acted s tx told count h ≡ Some next) × IsActOf family_next next.last × Match (after_sent (with_open p made turns action)) next))
  went_on (actions.Get places) own h_is = (
    record s {
      count = count;
      last = Some (record { tx = tx; turns = told; action = actions.Get places });
      asked = asked_by (decimal (length turns + 1)) (actions.Get places);
      refused = 0;
    },
    (
      ap (acted s tx told count) h_is,
      own ∙ sym same_next,
      record {
        agrees = agrees_again refl refl refl refl refl refl;
        talk = record {
          waits = refl;
          few = few;
          count = count_is;
          asked = refl;
          request = refl;
          last = λ still. record { step = _; is = refl; of = record { header = header; payload = payload; turns = alike; action = refl } };
        };
      },
    ),
  )
  went_on (actions.Set entries) own h_is = (
    record s {
      count = count;
      last = Some (record { tx = tx; turns = told; action = actions.Set entries });
      asked = asked_by (decimal (length turns + 1)) (actions.Set entries);
      refused = 0;
    },
    (
      ap (acted s tx told count) h_is,
      own ∙ sym same_next,
      record {
        agrees = agrees_again refl refl refl refl refl refl;
        talk = record {
          waits = refl;
          few = few;
          count = count_is;
          asked = refl;
          request = refl;
          last = λ still. record { step = _; is = refl; of = record { header = header; payload = payload; turns = alike; action = refl } };
        };
      },
    ),
  )
  went_on (actions.Delete places) own h_is = (
    record s {
      count = count;
      last = Some (record { tx = tx; turns = told; action = actions.Delete places });
      asked = asked_by (decimal (length turns + 1)) (actions.Delete places);
      refused = 0;
    },
    (
      ap (acted s tx told count) h_is,
      own ∙ sym same_next,
      record {
        agrees = agrees_again refl refl refl refl refl refl;
        talk = record {
          waits = refl;
          few = few;
          count = count_is;
          asked = refl;
          request = refl;
          last = λ still. record { step = _; is = refl; of = record { header = header; payload = payload; turns = alike; action = refl } };
        };
      },
    ),
  )
  went_on (actions.AddEvent event) own h_is = (
    record s {
      count = count;
      last = Some (record { tx = tx; turns = told; action = actions.AddEvent event });
      asked = asked_by (decimal (length turns + 1)) (actions.AddEvent event);
      refused = 0;
    },
    (
      ap (acted s tx told count) h_is,
      own ∙ sym same_next,
      record {
        agrees = agrees_again refl refl refl refl refl refl;
        talk = record {
          waits = refl;
          few = few;
          count = count_is;
          asked = refl;
          request = refl;
          last = λ still. record { step = _; is = refl; of = record { header = header; payload = payload; turns = alike; action = refl } };
        };
      },
    ),
  )
  went_on actions.Ok own h_is = (
    record s { count = count; last = Some (record { tx = tx; turns = told; action = actions.Ok }); asked = None; refused = 0 },
    (
      ap (acted s tx told count) h_is,
      own ∙ sym same_next,
      record {
        agrees = agrees_again refl refl refl refl refl refl;
        talk = record { asked = refl; waits = refl; count = count_is ∙ counts_on p.answered few };
      },
    ),
  )
  went_on (actions.Invalid reason) own h_is = (
    record s { count = count; last = Some (record { tx = tx; turns = told; action = actions.Invalid Remote }); asked = None; refused = 0 },
    (
      ap (acted s tx told count) h_is,
      own ∙ sym same_next,
      record {
        agrees = agrees_again refl refl refl refl refl refl;
        talk = record { asked = refl; waits = refl; count = count_is ∙ counts_on p.answered few };
      },
    ),
  )
