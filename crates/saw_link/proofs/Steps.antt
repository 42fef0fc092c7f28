-- A move, from what the code did.
use Rattle.std.proofs.Common.{◌≡◌, ◌+◌, ◌≤◌, ℕ, length, true, List, [], ◌∷◌, ◌++◌, Option, Some, None, Result, Ok, Err, OnOk, refl, sym, ap, ◌∙◌, subst}
use Rattle.std.specs.Fmt.{decimal}
use Rattle.std.specs.Option.{IsSome, IfSome, is_some}
use Rattle.saw_messages.specs.TxShapes.{TxShape}
use Rattle.saw_messages.specs.declared.talk.Action.{Action}
use Rattle.saw_messages.specs.declared.talk.Reply.{Reply}
use Rattle.saw_messages.specs.declared.talk.Reply.TheVariants.{Unauthorized}
use Rattle.saw_messages.specs.declared.talk.Turn.{Turn}
use Rattle.saw_messages.specs.declared.transaction.Transaction.{Transaction}
use Rattle.saw_station.specs.TalkSteps.{fits}
use Rattle.saw_link.specs.declared.heard.Asked.{Asked}
use Rattle.saw_link.specs.declared.heard.Finish.TheVariants.{Accepted, Refused, Broken}
use Rattle.saw_link.specs.declared.heard.Heard.{Heard}
use Rattle.saw_link.specs.declared.heard.Heard.TheVariants.{Asks, Ends, Breach}
use Rattle.saw_link.specs.declared.heard.Registration.{Registration}
use Rattle.saw_link.specs.declared.standing.LastStep.{LastStep}
use Rattle.saw_link.specs.declared.standing.Standing.{Standing}
use Rattle.saw_link.specs.Hearing.{heard, registration}
use Rattle.saw_link.specs.LinkConversation.{Move, Begins, Answers, Refuses, Registers, may_register, registered, registered_by, version_by, welcomed, IsDue, AreWithin, FitsLast, IsSpelled, IsAct, ObeysAfter, Moved, acted, answered, closed, after, sent_before, sent_behind, answer_sent}
use Rattle.saw_link.specs.declared.passed.Passed.{Passed}
use Rattle.saw_link.specs.declared.passed.Passed.TheVariants.{Sent, Received}
use Rattle.saw_link.specs.Tells.{Adds}
use Rattle.saw_link.specs.SentFrames.{answer, limit_of, process_request, welcome}
use Rattle.saw_link.proofs.LinkRuns.{acts_of, adds_two}

pub ok_map : {T E A B : Type 0} (r : Result T E) → (A → B) → OnOk r A → OnOk r B
ok_map (Ok x) f h = f h
ok_map (Err e) f h = tt

pub ok_map_two : {T E A B C : Type 0} (r : Result T E) → (A → B → C) → OnOk r A → OnOk r B → OnOk r C
ok_map_two (Ok x) f h k = f h k
ok_map_two (Err e) f h k = tt

-- nothing is sent behind the peer's frame
abbrev IsPlain : Move → Type 0
IsPlain move = (s : Standing) (frame : List ℕ) (next : Standing) → sent_behind s move frame next ≡ []

module _ (told later : Option (List Passed)) (s next : Standing) (context sent frame : List ℕ) (limit : ℕ) (h : Heard)
    (limit_is : limit ≡ limit_of s.version) (heard_is : h ≡ heard limit context frame)
    (adds : Adds told (Sent sent ∷ Received frame ∷ []) later) (short : length sent ≤ limit) where
  short_here : length sent ≤ limit_of s.version
  short_here = let P : ℕ → Type 0 = λ l. length sent ≤ l in subst P limit_is short

  said_at : (count : ℕ) → context ≡ decimal count → h ≡ heard (limit_of s.version) (decimal count) frame
  said_at count context_is = heard_is ∙ rw (limit_is, context_is) refl

  moved_by : (move : Move) → IsPlain move → IsDue s move → sent_before s move ≡ Sent sent ∷ [] → after s move frame ≡ Some next → Moved told s move later next
  moved_by move plain due is legal = record {
    frame = frame;
    due = due;
    legal = legal;
    within = let P : List Passed → Type 0 = AreWithin (limit_of s.version) in
        (subst P (sym is) (short_here, tt), subst P (sym (plain s frame next)) tt);
    adds = let P : List Passed → Type 0 = λ passed. Adds told passed later in
        subst P (sym (ap (λ x. sent_before s move ++ Received frame ∷ x) (plain s frame next) ∙ ap (λ x. x ++ Received frame ∷ []) is)) adds;
  }

  module _ (tx : Transaction) (count : ℕ) (count_is : count ≡ s.count + 1) (context_is : context ≡ decimal count)
      (sent_is : sent ≡ process_request s.version context tx)
      (legal : acted s tx [] count h ≡ Some next) (due : IsDue s (Begins tx)) where
    begins_legal : after s (Begins tx) frame ≡ Some next
    unfolding after
    begins_legal = let said : h ≡ heard (limit_of s.version) (decimal (s.count + 1)) frame = said_at count context_is
        ∙ ap (λ n. heard (limit_of s.version) (decimal n) frame) count_is in
        let P : ℕ → Type 0 = λ n. acted s tx [] n h ≡ Some next in
        let Q : Heard → Type 0 = λ x. acted s tx [] (s.count + 1) x ≡ Some next in
        subst Q said (subst P count_is legal)

    begins_sent : sent_before s (Begins tx) ≡ Sent sent ∷ []
    begins_sent = ap (λ x. Sent x ∷ []) (sym (sent_is ∙ ap (λ c. process_request s.version c tx) (context_is ∙ ap decimal count_is)))

    pub begins_moved : Moved told s (Begins tx) later next
    begins_moved = moved_by (Begins tx) (λ at f n. refl) due begins_sent begins_legal

    pub begins_acts : (act : TxShape → List Turn → Action) → IsSome told → ObeysAfter act told sent frame → IsSpelled told s → IsAct act (Begins tx) next
    begins_acts act some obeys spelled = acts_of act told s (Begins tx) sent frame next some spelled due begins_sent short_here obeys begins_legal

  module _ (asked : Asked) (asked_is : s.asked ≡ Some asked) where
    answer_is : (reply : Reply) → sent ≡ answer asked reply → answer_sent s.asked reply ≡ Sent sent ∷ []
    answer_is reply sent_is = rw (asked_is, sent_is) refl

    module _ (reply : Reply) (context_is : context ≡ decimal s.count) (sent_is : sent ≡ answer asked reply)
        (legal : answered s s.last reply h ≡ Some next) (due : IsDue s (Answers reply)) where
      answers_legal : after s (Answers reply) frame ≡ Some next
      unfolding after
      answers_legal = let P : Heard → Type 0 = λ x. answered s s.last reply x ≡ Some next in subst P (said_at s.count context_is) legal

      pub answers_moved : Moved told s (Answers reply) later next
      answers_moved = moved_by (Answers reply) (λ at f n. refl) due (answer_is reply sent_is) answers_legal

      pub answers_acts : (act : TxShape → List Turn → Action) → IsSome told → ObeysAfter act told sent frame → IsSpelled told s → IsAct act (Answers reply) next
      answers_acts act some obeys spelled =
          acts_of act told s (Answers reply) sent frame next some spelled due (answer_is reply sent_is) short_here obeys answers_legal

    module _ (context_is : context ≡ decimal s.count) (sent_is : sent ≡ answer asked (Unauthorized 0)) (legal : closed s h ≡ Some next)
        (due : IsDue s Refuses) where
      refuses_legal : after s Refuses frame ≡ Some next
      unfolding after
      refuses_legal = let P : Heard → Type 0 = λ x. closed s x ≡ Some next in subst P (said_at s.count context_is) legal

      pub refuses_moved : Moved told s Refuses later next
      refuses_moved = moved_by Refuses (λ at f n. refl) due (answer_is (Unauthorized 0) sent_is) refuses_legal

-- the last step is written over
acted_over : (s : Standing) (x : Option LastStep) (tx : Transaction) (turns : List Turn) (count : ℕ) (h : Heard)
    → acted (record s { last = x }) tx turns count h ≡ acted s tx turns count h
acted_over s x tx turns count (Asks asked action) = refl
acted_over s x tx turns count (Ends Accepted) = refl
acted_over s x tx turns count (Ends Refused) = refl
acted_over s x tx turns count (Ends Broken) = refl
acted_over s x tx turns count Breach = refl

-- the last step and its turns, with the reply as the latest
pub acted_behind : (s : Standing) (x : Option LastStep) (last : LastStep) (made : Transaction × List Turn) (reply : Reply) (h : Heard) (next : Standing)
    → s.last ≡ Some last → made ≡ (last.tx, last.turns ++ record { action = last.action; reply = reply } ∷ [])
    → acted (record s { last = x }) made.0 made.1 s.count h ≡ Some next → answered s s.last reply h ≡ Some next
acted_behind s x last made reply h next last_is made_is legal =
    let T : Transaction × List Turn → Type 0 = λ p. acted s p.0 p.1 s.count h ≡ Some next in
    let Q : Option LastStep → Type 0 = λ y. answered s y reply h ≡ Some next in
    subst Q (sym last_is) (subst T made_is (sym (acted_over s x made.0 made.1 s.count h) ∙ legal))

some_same : {A : Type 0} (x y : A) → Some x ≡ Some y → x ≡ y
some_same x y e = cc

-- a registration that was entered and answered
pub registers_moved : (told mid later : Option (List Passed)) (s next : Standing) (frame sent : List ℕ) (limit : ℕ) (found : Registration)
    → length sent ≤ limit → limit ≡ limit_of s.version → registration (limit_of s.version) frame ≡ Some found
    → may_register s (version_by found.request.protocol_version) ≡ true
    → registered_by s found (version_by found.request.protocol_version) ≡ Some next → sent ≡ welcome (version_by found.request.protocol_version) found.correlation
    → Adds told (Received frame ∷ []) mid → s.more ≡ true → Adds mid (Sent sent ∷ []) later → Moved told s Registers later next
unfolding after
registers_moved told mid later s next frame sent limit found short limit_is said may entered sent_is received due answered =
    let Q : Option Registration → Type 0 = λ r. registered s r ≡ Some next in
    let fixed : version_by found.request.protocol_version ≡ next.version = ap (λ x. x.version) (some_same _ _ entered) in
    let sent_here : welcomed next.version (registration (limit_of s.version) frame) ≡ Sent sent ∷ [] = ap (welcomed next.version) said
    ∙ ap (λ v. Sent (welcome v found.correlation) ∷ []) (sym fixed) ∙ ap (λ x. Sent x ∷ []) (sym sent_is) in
    let P : List Passed → Type 0 = λ passed. Adds told passed later in
    let S : ℕ → Type 0 = λ l. length sent ≤ l in
    let W : List Passed → Type 0 = AreWithin (limit_of s.version) in
    record {
      frame = frame;
      within = (tt, subst W (sym sent_here) (subst S limit_is short, tt));
      due = due;
      legal = subst Q (sym said) (rw may entered);
      adds = subst P (ap (λ x. Received frame ∷ x) (sym sent_here)) (adds_two told mid later (Received frame ∷ []) (Sent sent ∷ []) received answered);
    }

fits_some : (x : Option LastStep) (reply : Reply) → IsSome x → IfSome x (λ last. fits last.action reply ≡ true) → FitsLast x reply
fits_some None reply some fit = absurd cc
fits_some (Some last) reply some fit = fit

-- a request waits, so an answer is due
pub due_waiting : (s : Standing) (asked : Asked) (reply : Reply) → s.refused ≡ 0 → s.asked ≡ Some asked → IsSome s.last
    → IfSome s.last (λ last. fits last.action reply ≡ true) → IsDue s (Answers reply)
due_waiting s asked reply still asked_is some fit = (still, ap is_some asked_is, fits_some s.last reply some fit)
