-- What a station hears next, by each of its moves.
use Rattle.std.proofs.Common.{◌≡◌, ◌⊎◌, inl, inr, ◌≤◌, ◌<◌, ◌+◌, ◌^◌, ◌==◌, ℕ, zero, suc, Bool, true, false, not, List, [], ◌∷◌, ◌++◌, length, map, get_or, min, Option, Some, None, refl, sym, ap, subst, ◌∙◌, arith}
use Rattle.std.specs.Prelude.{nat_lt, nat_le, is_some, if◌then◌else◌}
use Rattle.std.specs.Fmt.{decimal}
use Rattle.std.proofs.lemmas.Bool.Decides.{nat_tests}
use Rattle.saw_context.specs.Outcome.{is_request}
use Rattle.saw_faults.specs.Counts.{last_count}
use Rattle.saw_messages.specs.TxShapes.{TxShape, shape_in}
use Rattle.saw_messages.specs.declared.talk.Action.{Action}
use Rattle.saw_messages.specs.declared.talk.Action.TheVariants as actions
use Rattle.saw_messages.specs.declared.talk.Reply.{Reply}
use Rattle.saw_messages.specs.declared.talk.Reply.TheVariants.{Unauthorized}
use Rattle.saw_messages.specs.declared.talk.Turn.{Turn}
use Rattle.saw_messages.specs.declared.transaction.Transaction.{Transaction}
use Rattle.saw_link.specs.Alike.{AreAlike, with_no_index}
use Rattle.saw_link.specs.Hearing.{heard, registration}
use Rattle.saw_link.specs.LinkConversation.{Move, Answers, Begins, Refuses, Registers, FitsLast, IsActOf, acted, after, answered, closed, may_register, registered, registered_by, version_by}
use Rattle.saw_link.specs.SentFrames.{answer, limit_of, process_request, stated, welcome}
use Rattle.saw_link.specs.declared.heard.Asked.{Asked}
use Rattle.saw_link.specs.declared.heard.Heard.{Heard}
use Rattle.saw_link.specs.declared.heard.Registration.{Registration}
use Rattle.saw_link.specs.declared.standing.LastStep.{LastStep}
use Rattle.saw_link.specs.declared.standing.Standing.{Standing}
use Rattle.saw_station.specs.TalkSteps.{fits}
use Rattle.saw_station.specs.declared.offer.Offer.{Offer}
use Rattle.saw_tpside.proofs.Answered.{IsReply, asked_by, refusal_taken, reply_taken, tx_taken, version_taken}
use Rattle.saw_tpside.proofs.Matching.{Agrees, HasLast, IsIdle, IsLast, IsOpen, Match, Talks, with_open, went_on}
use Rattle.saw_tpside.proofs.Refusals.{family_ends}
use Rattle.saw_tpside.proofs.StationBack.{IsSmall}
use Rattle.saw_tpside.proofs.Taking.{taken_waiting}
use Rattle.saw_tpside.specs.FamilyPeers.{as_remote, family_next}
use Rattle.saw_tpside.specs.ProcessorConversation.{IsVersion, action_behind, after_sent, begun_by, context_of, due, due_by, family_action, is_refused_event, limit_at, no_offer, number_of, open_behind, replied, taken, turns_with}
use Rattle.saw_tpside.specs.ProcessorConversation as mine
use Rattle.saw_tpside.specs.ProcessorFrames.{registering}
use Rattle.saw_tpside.specs.StationFrames.{content_of, reply_of, tx_of, version_stated}
use Rattle.saw_tpside.specs.Understood.{IsUnderstood, IsUnderstoodBy, said}
use Rattle.saw_tpside.specs.declared.serving.Open.{Open}
use Rattle.saw_tpside.specs.declared.serving.Serving.{Serving}

some_same : {A : Type 0} (x y : A) → Some x ≡ Some y → x ≡ y
some_same x y e = cc

if_some : {A : Type 0} (test : Bool) (x y : A) → (if test then None else Some x) ≡ Some y → x ≡ y
if_some true x y is = absurd cc
if_some false x y is = some_same x y is

-- ---- both allow as much

limit_by : (first : Bool) (version : ℕ) → limit_of (if first then 1 else version) ≡ (if first then limit_of 1 else limit_of version)
limit_by true version = refl
limit_by false version = refl

limit_same : (p : Serving) (s : Standing) → Agrees p s → limit_of s.version ≡ limit_at p
limit_same p s agrees = ap limit_of agrees.version ∙ limit_by (p.registered == 0) p.version

-- ---- requests wait, ends do not

request_waits : (number : List ℕ) (action : Action) → is_request action ≡ true → asked_by number action ≡ None → ⊥
request_waits number (actions.Get places) request none = absurd cc
request_waits number (actions.Set entries) request none = absurd cc
request_waits number (actions.Delete places) request none = absurd cc
request_waits number (actions.AddEvent event) request none = absurd cc
request_waits number actions.Ok request none = absurd cc
request_waits number (actions.Invalid reason) request none = absurd cc

remote_same : (action : Action) → is_request action ≡ true → as_remote action ≡ action
remote_same (actions.Get places) request = refl
remote_same (actions.Set entries) request = refl
remote_same (actions.Delete places) request = refl
remote_same (actions.AddEvent event) request = refl
remote_same actions.Ok request = absurd cc
remote_same (actions.Invalid reason) request = absurd cc

-- what a processor said is legal, is its own action, and both agree again
pub record NextOf (s : Standing) (move : Move) (frame : List ℕ) (q : Serving) : Type 0 where
  pub next : Standing
  pub legal : after s move frame ≡ Some next
  pub acts : IsActOf family_next next.last
  pub match : Match (after_sent q) next

-- what a processor is to say, and that it is understood
pub record IsDueFrame (q : Serving) (frame : List ℕ) : Type 0 where
  pub due_is : due q ≡ Some frame
  pub short : length frame ≤ limit_at q
  pub understood : IsUnderstood q frame

-- ---- a transaction begins

registered_some : (p : Serving) → mine.registers p ≡ false → 0 < length p.offers → (p.registered == 0) ≡ false
registered_some p done some = grind (arith, nat_tests)

taken_idle : (p : Serving) (frame : List ℕ) → p.current ≡ None → p.waits ≡ false → mine.registers p ≡ false
    → taken p frame ≡ (if not (nat_lt p.answered last_count) then None else begun_by p (tx_of p.version (context_of p) (content_of (limit_at p) 5 (context_of p) frame)))
unfolding taken
taken_idle p frame current_is waits_is done = rw (current_is, done, waits_is) refl

-- the transaction that was begun
record IsBegun (p : Serving) (found : Option TxShape) (q : Serving) : Type 0 where
  made : TxShape
  found_it : found ≡ Some made
  few : nat_lt p.answered last_count ≡ true
  is : with_open p made [] (family_action made []) ≡ q

begun : (p : Serving) (few : Bool) (found : Option TxShape) (q : Serving) → nat_lt p.answered last_count ≡ few
    → (if not few then None else begun_by p found) ≡ Some q → IsBegun p found q
begun p false found q few_is is = absurd cc
begun p true None q few_is is = absurd cc
begun p true (Some made) q few_is is = record { made = made; found_it = refl; few = few_is; is = some_same _ q is }

begins_by : (p : Serving) (s : Standing) (tx : Transaction) (frame : List ℕ) (q : Serving) (current : Option Open) → p.current ≡ current → Agrees p s → Talks p current s
    → s.more ≡ false → s.asked ≡ None → IsSmall (process_request s.version (decimal (s.count + 1)) tx)
    → taken p (process_request s.version (decimal (s.count + 1)) tx) ≡ Some q → IsDueFrame q frame → NextOf s (Begins tx) frame q
unfolding after
begins_by p s tx frame q (Some current) current_is agrees talk more asked small took says =
    absurd (request_waits (number_of current) current.action talk.request (sym talk.asked ∙ asked))
begins_by p s tx frame q None current_is agrees talk more asked small took says =
    let sent = process_request s.version (decimal (s.count + 1)) tx in
    let done : mine.registers p ≡ false = sym agrees.more ∙ more in
    let version_is : s.version ≡ p.version = agrees.version
    ∙ ap (λ (first : Bool). if first then 1 else p.version) (registered_some p done agrees.some) in
    let b = begun p (nat_lt p.answered last_count) (tx_of p.version (context_of p) (content_of (limit_at p) 5 (context_of p) sent)) q refl
    (sym (taken_idle p sent current_is talk.waits done) ∙ took) in
    let found : tx_of p.version (context_of p) (content_of (limit_at p) 5 (context_of p) (process_request p.version (decimal (s.count + 1)) tx)) ≡ Some b.made =
    subst (λ (v : ℕ). tx_of p.version (context_of p) (content_of (limit_at p) 5 (context_of p) (process_request v (decimal (s.count + 1)) tx)) ≡ Some b.made)
    version_is b.found_it in
    let parts = tx_taken p.version (limit_at p) (context_of p) (decimal (s.count + 1)) tx b.made
    (subst (λ (v : ℕ). IsSmall (process_request v (decimal (s.count + 1)) tx)) version_is small) found in
    let says_it : IsDueFrame (with_open p b.made [] (family_action b.made [])) frame = subst (λ (q : Serving). IsDueFrame q frame) (sym b.is) says in
    let count_is : s.count + 1 ≡ p.answered + 1 = ap (λ (n : ℕ). n + 1) talk.count in
    let h_is : heard (limit_of s.version) (decimal (s.count + 1)) frame ≡ said (decimal (length {A = Turn} [] + 1)) (family_action b.made []) =
    ap (λ (l : ℕ). heard l (decimal (s.count + 1)) frame) (limit_same p s agrees)
    ∙ ap (λ (n : ℕ). heard (limit_at p) (decimal n) frame) count_is ∙ says_it.understood (limit_at p) says_it.short in
    let g = went_on p s b.made [] tx [] (s.count + 1) (heard (limit_of s.version) (decimal (s.count + 1)) frame) agrees b.few count_is parts.header_is
    parts.payload_is tt (family_action b.made []) refl h_is in
    record {
      next = g.0;
      legal = g.1.0;
      acts = g.1.1;
      match = subst (λ (q : Serving). Match (after_sent q) g.0) b.is g.1.2;
    }

-- ---- a request is answered

-- the reply that was taken
record IsReplied (p : Serving) (current : Open) (found : Option Reply) (q : Serving) : Type 0 where
  read : Reply
  found_it : found ≡ Some read
  is : record p { current = Some (open_behind current read); waits = false } ≡ q

replied_by : (p : Serving) (current : Open) (found : Option Reply) (q : Serving) → replied p current found ≡ Some q → IsReplied p current found q
replied_by p current None q is = absurd cc
replied_by p current (Some read) q is = record { read = read; found_it = refl; is = some_same _ q is }

alike_push : (told turns : List Turn) (a b : Action) (r t : Reply) → AreAlike told turns → a ≡ b → with_no_index r ≡ with_no_index t
    → AreAlike (told ++ record { action = a; reply = r } ∷ []) (turns ++ record { action = b; reply = t } ∷ [])
alike_push [] [] a b r t are same replies = ((same, replies), tt)
alike_push [] (y ∷ turns) a b r t are same replies = absurd are
alike_push (x ∷ told) [] a b r t are same replies = absurd are
alike_push (x ∷ told) (y ∷ turns) a b r t are same replies = (are.0, alike_push told turns a b r t are.1 same replies)

fits_last : (last : Option LastStep) (step : LastStep) (reply : Reply) → last ≡ Some step → FitsLast last reply → fits step.action reply ≡ true
fits_last last step reply is fit = let P : Option LastStep → Type 0 = λ x. FitsLast x reply in subst P is fit

answers_by : (p : Serving) (s : Standing) (reply : Reply) (asked : Asked) (frame : List ℕ) (q : Serving) (current : Option Open) → p.current ≡ current → Agrees p s
    → Talks p current s → s.refused ≡ 0 → s.asked ≡ Some asked → FitsLast s.last reply → IsSmall (answer asked reply) → taken p (answer asked reply) ≡ Some q
    → IsDueFrame q frame → NextOf s (Answers reply) frame q
unfolding after
answers_by p s reply asked frame q None current_is agrees talk still asked_is fit small took says =
    let none : None ≡ Some asked = sym talk.asked ∙ asked_is in absurd cc
answers_by p s reply asked frame q (Some current) current_is agrees talk still asked_is fit small took says =
    let last = talk.last still in
    let acts : last.step.action ≡ current.action = last.of.action ∙ remote_same current.action talk.request in
    let b = replied_by p current (reply_of (limit_at p) (number_of current) current.action (answer asked reply)) q
    (sym (taken_waiting p current (answer asked reply) current_is talk.waits) ∙ took) in
    let fit_here : fits current.action reply ≡ true = subst (λ (a : Action). fits a reply ≡ true) acts (fits_last s.last last.step reply last.is fit) in
    let r = reply_taken (limit_at p) (number_of current) current.action asked reply b.read (sym talk.asked ∙ asked_is) fit_here small b.found_it in
    let turns = turns_with current b.read in
    let is : with_open p current.tx turns (family_action current.tx turns) ≡ q = ap (λ (refused : Bool). with_open p current.tx turns (action_behind current.tx turns refused)) (sym r.granted_it)
    ∙ b.is in
    let says_it : IsDueFrame (with_open p current.tx turns (family_action current.tx turns)) frame = subst (λ (q : Serving). IsDueFrame q frame) (sym is) says in
    let told = last.step.turns ++ record { action = last.step.action; reply = reply } ∷ [] in
    let h_is : heard (limit_of s.version) (decimal s.count) frame ≡ said (decimal (length turns + 1)) (family_action current.tx turns) =
    ap (λ (l : ℕ). heard l (decimal s.count) frame) (limit_same p s agrees)
    ∙ ap (λ (n : ℕ). heard (limit_at p) (decimal n) frame) talk.count ∙ says_it.understood (limit_at p) says_it.short in
    let g = went_on p s current.tx turns last.step.tx told s.count (heard (limit_of s.version) (decimal s.count) frame) agrees talk.few talk.count last.of.header
    last.of.payload (alike_push last.step.turns current.talk.turns last.step.action current.action reply b.read last.of.turns acts r.alike)
    (family_action current.tx turns) refl h_is in
    record {
      next = g.0;
      legal = ap (λ (l : Option LastStep). answered s l reply (heard (limit_of s.version) (decimal s.count) frame)) last.is ∙ g.1.0;
      acts = g.1.1;
      match = subst (λ (q : Serving). Match (after_sent q) g.0) is g.1.2;
    }

-- ---- a request is refused to end the conversation

-- an end is legal
end_legal : (s : Standing) (number : List ℕ) (action : Action) → is_request action ≡ false → closed s (said number action) ≡ None → ⊥
end_legal s number (actions.Get places) ends is = absurd cc
end_legal s number (actions.Set entries) ends is = absurd cc
end_legal s number (actions.Delete places) ends is = absurd cc
end_legal s number (actions.AddEvent event) ends is = absurd cc
end_legal s number actions.Ok ends is = absurd cc
end_legal s number (actions.Invalid reason) ends is = absurd cc

-- a refused event ends as invalid, and any other refusal ends the family's transaction
refusal_ends : (tx : TxShape) (turns : List Turn) (turn : Turn) (refused : Bool) → turn.reply ≡ Unauthorized 0
    → is_request (action_behind tx (turns ++ turn ∷ []) refused) ≡ false
refusal_ends tx turns turn true is = refl
refusal_ends tx turns turn false is = family_ends tx turns turn is

agrees_kept : {p q : Serving} {s t : Standing} → Agrees p s → q.registered ≡ p.registered → q.version ≡ p.version → q.offers ≡ p.offers
    → t.version ≡ s.version → t.registrations ≡ s.registrations → t.more ≡ s.more → Agrees q t
agrees_kept {p} {q} {s} {t} agrees same_registered same_version same_offers version registrations more = record {
  version = version ∙ agrees.version ∙ rw (same_registered, same_version) refl;
  asks = subst IsVersion (sym same_version) agrees.asks;
  registered = registrations ∙ agrees.registered ∙ sym same_registered;
  more = more ∙ agrees.more ∙ rw (same_registered, same_offers) refl;
  some = subst (λ (offers : List Offer). 0 < length offers) (sym same_offers) agrees.some;
  few = subst (λ (offers : List Offer). length offers ≤ 100) (sym same_offers) agrees.few;
}

counts_on : (n : ℕ) → nat_lt n last_count ≡ true → n + 1 ≡ min (n + 1) last_count
counts_on n few = grind (arith, nat_tests)

not_still : {A : Type 0} (n : ℕ) → n + 1 ≡ 0 → A
not_still n is = absurd (omega (arith, is))

refused_on : (p : Serving) (s : Standing) (tx : TxShape) (turns : List Turn) (action : Action) (next : Standing) → Agrees p s → nat_lt p.answered last_count ≡ true
    → s.count ≡ p.answered + 1 → closed s (said (decimal (length turns + 1)) action) ≡ Some next → Match (after_sent (with_open p tx turns action)) next
refused_on p s tx turns (actions.Get places) next agrees few count is =
    subst (Match (after_sent (with_open p tx turns (actions.Get places)))) (if_some (nat_le 1000 (s.refused + 1)) _ next is) (record {
      agrees = agrees_kept agrees refl refl refl refl refl refl;
      talk = record { waits = refl; few = few; count = count; asked = refl; request = refl; last = not_still s.refused };
    })
refused_on p s tx turns (actions.Set entries) next agrees few count is =
    subst (Match (after_sent (with_open p tx turns (actions.Set entries)))) (if_some (nat_le 1000 (s.refused + 1)) _ next is) (record {
      agrees = agrees_kept agrees refl refl refl refl refl refl;
      talk = record { waits = refl; few = few; count = count; asked = refl; request = refl; last = not_still s.refused };
    })
refused_on p s tx turns (actions.Delete places) next agrees few count is =
    subst (Match (after_sent (with_open p tx turns (actions.Delete places)))) (if_some (nat_le 1000 (s.refused + 1)) _ next is) (record {
      agrees = agrees_kept agrees refl refl refl refl refl refl;
      talk = record { waits = refl; few = few; count = count; asked = refl; request = refl; last = not_still s.refused };
    })
refused_on p s tx turns (actions.AddEvent event) next agrees few count is =
    subst (Match (after_sent (with_open p tx turns (actions.AddEvent event)))) (if_some (nat_le 1000 (s.refused + 1)) _ next is) (record {
      agrees = agrees_kept agrees refl refl refl refl refl refl;
      talk = record { waits = refl; few = few; count = count; asked = refl; request = refl; last = not_still s.refused };
    })
refused_on p s tx turns actions.Ok next agrees few count is =
    subst (Match (after_sent (with_open p tx turns actions.Ok))) (some_same _ next is) (record {
      agrees = agrees_kept agrees refl refl refl refl refl refl;
      talk = record { asked = refl; waits = refl; count = count ∙ counts_on p.answered few };
    })
refused_on p s tx turns (actions.Invalid reason) next agrees few count is =
    subst (Match (after_sent (with_open p tx turns (actions.Invalid reason)))) (some_same _ next is) (record {
      agrees = agrees_kept agrees refl refl refl refl refl refl;
      talk = record { asked = refl; waits = refl; count = count ∙ counts_on p.answered few };
    })

-- what is said behind a refusal is legal, and both agree again
pub record RefusedOn (s : Standing) (frame : List ℕ) (q : Serving) : Type 0 where
  pub legal : after s Refuses frame ≡ None → ⊥
  pub match : (next : Standing) → after s Refuses frame ≡ Some next → Match (after_sent q) next

refuses_by : (p : Serving) (s : Standing) (asked : Asked) (frame : List ℕ) (q : Serving) (current : Option Open) → p.current ≡ current → Agrees p s → Talks p current s
    → s.asked ≡ Some asked → IsSmall (answer asked (Unauthorized 0)) → taken p (answer asked (Unauthorized 0)) ≡ Some q → IsDueFrame q frame → RefusedOn s frame q
unfolding after
refuses_by p s asked frame q None current_is agrees talk asked_is small took says = let none : None ≡ Some asked = sym talk.asked ∙ asked_is in absurd cc
refuses_by p s asked frame q (Some current) current_is agrees talk asked_is small took says =
    let sent = answer asked (Unauthorized 0) in
    let b = replied_by p current (reply_of (limit_at p) (number_of current) current.action sent) q (sym (taken_waiting p current sent current_is talk.waits) ∙ took) in
    let turns = turns_with current b.read in
    let action = action_behind current.tx turns (is_refused_event current.action b.read) in
    let says_it : IsDueFrame (with_open p current.tx turns action) frame = subst (λ (q : Serving). IsDueFrame q frame) (sym b.is) says in
    let h_is : heard (limit_of s.version) (decimal s.count) frame ≡ said (decimal (length turns + 1)) action =
    ap (λ (l : ℕ). heard l (decimal s.count) frame) (limit_same p s agrees)
    ∙ ap (λ (n : ℕ). heard (limit_at p) (decimal n) frame) talk.count ∙ says_it.understood (limit_at p) says_it.short in
    let refused : b.read ≡ Unauthorized 0 =
    refusal_taken (limit_at p) (number_of current) current.action asked b.read (sym talk.asked ∙ asked_is) small b.found_it in
    let ends : is_request action ≡ false =
    refusal_ends current.tx current.talk.turns (record { action = current.action; reply = b.read }) (is_refused_event current.action b.read) refused in
    record {
      legal = λ is. end_legal s (decimal (length turns + 1)) action ends (ap (closed s) (sym h_is) ∙ is);
      match = λ next legal. subst (λ (q : Serving). Match (after_sent q) next) b.is
          (refused_on p s current.tx turns action next agrees talk.few talk.count (ap (closed s) (sym h_is) ∙ legal));
    }

-- ---- a registration

-- the registration that was said, which is legal, and what the answer to it leaves
pub record Entered (p : Serving) (s : Standing) (frame : List ℕ) : Type 0 where
  pub found : Registration
  pub is : registration (limit_of s.version) frame ≡ Some found
  pub next : Standing
  pub legal : after s Registers frame ≡ Some next
  pub match : (q : Serving) → IsSmall (welcome next.version found.correlation) → taken (after_sent p) (welcome next.version found.correlation) ≡ Some q → Match q next

due_waits : (p : Serving) (frame : List ℕ) → p.waits ≡ true → due p ≡ Some frame → ⊥
unfolding due
due_waits p frame waits_is is = let none : None ≡ Some frame = sym (rw waits_is refl) ∙ is in absurd cc

version_said : (version : ℕ) → IsVersion version → version_by (stated version) ≡ version
version_said version (inl one) = rw one refl
version_said version (inr two) = rw two refl

may_by : (none : Bool) (s : Standing) (version : ℕ) → (s.registrations == 0) ≡ none → s.registrations < 100 → (none ≡ false → version ≡ s.version)
    → may_register s version ≡ true
may_by true s version none_is few same = rw none_is refl
may_by false s version none_is few same =
    let below : nat_le 100 s.registrations ≡ false = grind (arith, nat_tests) in
    rw (none_is, below, same refl) (nat_itself s.version) where
      nat_itself : (n : ℕ) → (n == n) ≡ true
      nat_itself n = grind (arith, nat_tests)

below : (p : Serving) → mine.registers p ≡ true → p.registered < length p.offers
below p is = grind (arith, nat_tests)

-- the version behind the answer is the one that was asked for
version_kept : (first : Bool) (version said : ℕ) → IsVersion version → said ≡ stated version
    → (if first then mine.version_first version said else mine.version_later version said) ≡ Some version
version_kept true version said (inl one) is = rw (is, one) refl
version_kept true version said (inr two) is = rw (is, two) refl
version_kept false version said (inl one) is = rw (is, one) refl
version_kept false version said (inr two) is = rw (is, two) refl

-- what the answer to a registration leaves
record IsWelcomed (p : Serving) (said : Option ℕ) (q : Serving) : Type 0 where
  stated_it : ℕ
  said_it : said ≡ Some stated_it
  version : ℕ
  version_is : (if p.registered == 0 then mine.version_first p.version stated_it else mine.version_later p.version stated_it) ≡ Some version
  is : record p { version = version; registered = p.registered + 1; waits = false } ≡ q

welcomed_by : (p : Serving) (version : Option ℕ) (q : Serving) → mine.registered_by p version ≡ Some q
    → (v : ℕ) × ((version ≡ Some v) × (record p { version = v; registered = p.registered + 1; waits = false } ≡ q))
welcomed_by p None q is = absurd cc
welcomed_by p (Some v) q is = (v, (refl, some_same _ q is))

welcomed : (p : Serving) (said : Option ℕ) (q : Serving) → mine.registered_by p (mine.version_after p said) ≡ Some q → IsWelcomed p said q
welcomed p None q is = absurd cc
welcomed p (Some stated_it) q is =
    let w = welcomed_by p (mine.version_after p (Some stated_it)) q is in
    record { stated_it = stated_it; said_it = refl; version = w.0; version_is = w.1.0; is = w.1.1 }

taken_waits : (p : Serving) (frame : List ℕ) → p.current ≡ None → mine.registers p ≡ true → p.waits ≡ true
    → taken p frame ≡ mine.registered_by p (mine.version_after p (version_stated (content_of (limit_at p) 2 (decimal (p.registered + 1)) frame)))
unfolding taken
taken_waits p frame current_is more waits_is = rw (current_is, more, waits_is) refl

behind_first : (n v : ℕ) → v ≡ (if n + 1 == 0 then 1 else v)
behind_first n v = let some : (n + 1 == 0) ≡ false = grind (arith, nat_tests) in rw some refl

sent_idle : (p : Serving) → p.current ≡ None → after_sent p ≡ record p { waits = true }
sent_idle p current_is = ap (mine.sent_by p) current_is

registers_by : (p : Serving) (s : Standing) (frame : List ℕ) (current : Option Open) → p.current ≡ current → Agrees p s → Talks p current s → s.more ≡ true
    → IsDueFrame p frame → Entered p s frame
unfolding after
registers_by p s frame (Some current) current_is agrees talk more says = absurd (due_waits p frame talk.waits says.due_is)
registers_by p s frame None current_is agrees talk more says =
    let due_more : mine.registers p ≡ true = sym agrees.more ∙ more in
    let offer = get_or p.offers p.registered no_offer in
    let more_follow = nat_lt (p.registered + 1) (length p.offers) in
    let found : Registration = record { correlation = decimal (p.registered + 1); request = registering (stated p.version) more_follow offer } in
    let understood : IsUnderstoodBy p None frame = subst (λ (current : Option Open). IsUnderstoodBy p current frame) current_is says.understood in
    let is : registration (limit_of s.version) frame ≡ Some found = ap (λ (l : ℕ). registration l frame) (limit_same p s agrees) ∙ understood (limit_at p) says.short in
    let few : s.registrations < 100 = let b = below p due_more in omega (arith, b, agrees.few, agrees.registered) in
    let version_is : version_by (stated p.version) ≡ p.version = version_said p.version agrees.asks in
    let later : (s.registrations == 0) ≡ false → version_by (stated p.version) ≡ s.version = λ none.
    version_is ∙ sym (agrees.version ∙ ap (λ (first : Bool). if first then 1 else p.version) (ap (λ (n : ℕ). n == 0) (sym agrees.registered) ∙ none)) in
    let next : Standing = record s {
      version = version_by (stated p.version);
      more = more_follow;
      registrations = s.registrations + 1;
      offers = s.offers ++ record { family = offer.family; version = offer.version } ∷ [];
    } in
    record {
      found = found;
      is = is;
      next = next;
      legal = ap (registered s) is ∙ ap (λ (may : Bool). if may then registered_by s found (version_by (stated p.version)) else None)
          (may_by (s.registrations == 0) s (version_by (stated p.version)) refl few later);
      match = λ q small took.
          let r : Serving = record p { waits = true } in
          let frame_sent = welcome (version_by (stated p.version)) (decimal (p.registered + 1)) in
          let took_it : taken r frame_sent ≡ Some q = ap (λ (x : Serving). taken x frame_sent) (sym (sent_idle p current_is)) ∙ took in
          let w = welcomed r (version_stated (content_of (limit_at r) 2 (decimal (p.registered + 1)) frame_sent)) q (sym (taken_waits r frame_sent current_is due_more refl) ∙ took_it) in
          let said_is : w.stated_it ≡ stated p.version = version_taken (version_by (stated p.version)) (limit_at r) (decimal (p.registered + 1)) (decimal (p.registered + 1))
          w.stated_it small w.said_it ∙ ap stated version_is in
          let kept : w.version ≡ p.version = some_same _ _ (sym w.version_is ∙ version_kept (p.registered == 0) p.version w.stated_it agrees.asks said_is) in
          subst (λ (x : Serving). Match x next) w.is (record {
            agrees = record {
              version = version_is ∙ sym kept ∙ behind_first p.registered w.version;
              asks = subst IsVersion (sym kept) agrees.asks;
              registered = ap (λ (n : ℕ). n + 1) agrees.registered;
              more = refl;
              some = agrees.some;
              few = agrees.few;
            };
            talk = subst (λ (current : Option Open). Talks (record p { version = w.version; registered = p.registered + 1; waits = false }) current next) (sym current_is)
                (record { asked = talk.asked; waits = refl; count = talk.count });
          });
    }

-- ---- all of these, whatever is open

pub begins_next : (p : Serving) (s : Standing) (tx : Transaction) (frame : List ℕ) (q : Serving) → Match p s → s.more ≡ false → s.asked ≡ None
    → IsSmall (process_request s.version (decimal (s.count + 1)) tx) → taken p (process_request s.version (decimal (s.count + 1)) tx) ≡ Some q
    → IsDueFrame q frame → NextOf s (Begins tx) frame q
begins_next p s tx frame q match = begins_by p s tx frame q p.current refl match.agrees match.talk

pub answers_next : (p : Serving) (s : Standing) (reply : Reply) (asked : Asked) (frame : List ℕ) (q : Serving) → Match p s → s.refused ≡ 0
    → s.asked ≡ Some asked → FitsLast s.last reply → IsSmall (answer asked reply) → taken p (answer asked reply) ≡ Some q → IsDueFrame q frame
    → NextOf s (Answers reply) frame q
answers_next p s reply asked frame q match = answers_by p s reply asked frame q p.current refl match.agrees match.talk

pub refuses_next : (p : Serving) (s : Standing) (asked : Asked) (frame : List ℕ) (q : Serving) → Match p s → s.asked ≡ Some asked
    → IsSmall (answer asked (Unauthorized 0)) → taken p (answer asked (Unauthorized 0)) ≡ Some q → IsDueFrame q frame → RefusedOn s frame q
refuses_next p s asked frame q match = refuses_by p s asked frame q p.current refl match.agrees match.talk

pub registers_next : (p : Serving) (s : Standing) (frame : List ℕ) → Match p s → s.more ≡ true → IsDueFrame p frame → Entered p s frame
registers_next p s frame match = registers_by p s frame p.current refl match.agrees match.talk
