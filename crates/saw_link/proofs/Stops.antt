-- What passed of moves that did not come to their end.
use Rattle.std.proofs.Common.{◌≡◌, ◌⊎◌, inl, inr, ◌<◌, ◌≤◌, ◌+◌, ℕ, Bool, true, List, [], ◌∷◌, ◌++◌, length, Option, Some, None, is_some, Result, Ok, Err, refl, sym, ap, ◌∙◌, subst}
use Rattle.std.specs.Result.{IfErr}
use Rattle.std.specs.Fmt.{decimal}
use Rattle.std.specs.List.{AllByRecursion}
use Rattle.saw_messages.specs.TxShapes.{TxShape}
use Rattle.saw_messages.specs.declared.talk.Reply.{Reply}
use Rattle.saw_messages.specs.declared.talk.Reply.TheVariants.{Unauthorized}
use Rattle.saw_messages.specs.declared.talk.Turn.{Turn}
use Rattle.saw_messages.specs.declared.transaction.Transaction.{Transaction}
use Rattle.saw_station.specs.TalkSteps.{Follows, MayFollow}
use Rattle.saw_link.specs.declared.heard.Asked.{Asked}
use Rattle.saw_link.specs.declared.heard.Finish.TheVariants.{Broken}
use Rattle.saw_link.specs.declared.heard.Heard.{Heard}
use Rattle.saw_link.specs.declared.heard.Registration.{Registration}
use Rattle.saw_link.specs.declared.standing.LastStep.{LastStep}
use Rattle.saw_link.specs.declared.heard.Heard.TheVariants.{Ends, Breach}
use Rattle.saw_link.specs.declared.standing.Standing.{Standing}
use Rattle.saw_link.specs.declared.exchange.Trouble.{Trouble}
use Rattle.saw_link.specs.declared.exchange.Trouble.TheVariants as troubles
use Rattle.saw_link.specs.Hearing.{heard, registration}
use Rattle.saw_link.specs.LinkConversation.{Move, Registers, Begins, Answers, Refuses, AreWithin, Closed, FitsLast, IsDue, Ran, after, sent_before, sent_behind, acted, answered, closed, answer_sent, registered, registered_by, may_register, version_by, welcomed}
use Rattle.saw_link.specs.declared.passed.Passed.{Passed}
use Rattle.saw_link.specs.declared.passed.Passed.TheVariants.{Sent, Received, Ended}
use Rattle.saw_link.specs.Tells.{Adds}
use Rattle.saw_link.specs.Troubles.{Unsent, Unreceived, Unasked, Unspoken, Unacted, Unanswered, IsLate, IsTooLong, IsUnregistered, Troubled, Stopped, StopsBeginning, StopsClosing, StopsRegistering, SaysBroken, late}
use Rattle.saw_link.specs.Remotes.{StopsAnswering, StopsStep, kept_step}
use Rattle.saw_link.specs.SentFrames.{answer, limit_of, process_request, welcome}
use Rattle.saw_link.proofs.LinkRuns.{Closing, Entering, adds_two, ran_none, spells_nil}

pub err_map : {T E : Type 0} {A B : E → Type 0} (r : Result T E) → ((e : E) → A e → B e) → IfErr r A → IfErr r B
err_map (Ok x) f h = tt
err_map (Err e) f h = f e h

pub unsent_unasked : (trouble : Trouble) (told : Option (List Passed)) (limit : ℕ) (sent : List ℕ) (later : Option (List Passed))
    → Unsent trouble told limit sent later → Unasked trouble told limit sent later
unsent_unasked troubles.Link told limit sent later h = h
unsent_unasked troubles.TooLong told limit sent later h = h
unsent_unasked troubles.Ended told limit sent later h = absurd h
unsent_unasked troubles.Broken told limit sent later h = absurd h
unsent_unasked (troubles.Breach frame) told limit sent later h = absurd h
unsent_unasked troubles.Exhausted told limit sent later h = absurd h
unsent_unasked troubles.Early told limit sent later h = absurd h
unsent_unasked troubles.Closed told limit sent later h = absurd h
unsent_unasked troubles.OutOfMemory told limit sent later h = h

pub unreceived_unasked : (trouble : Trouble) (told mid : Option (List Passed)) (limit : ℕ) (sent : List ℕ) (later : Option (List Passed))
    → Adds told (Sent sent ∷ []) mid → length sent ≤ limit → Unreceived trouble mid later → Unasked trouble told limit sent later
unreceived_unasked troubles.Link told mid limit sent later adds short h = short
unreceived_unasked troubles.TooLong told mid limit sent later adds short h = absurd h
unreceived_unasked troubles.Ended told mid limit sent later adds short h = adds_two told mid later (Sent sent ∷ []) (Ended ∷ []) adds h
unreceived_unasked troubles.Broken told mid limit sent later adds short h = absurd h
unreceived_unasked (troubles.Breach frame) told mid limit sent later adds short h = absurd h
unreceived_unasked troubles.Exhausted told mid limit sent later adds short h = absurd h
unreceived_unasked troubles.Early told mid limit sent later adds short h = absurd h
unreceived_unasked troubles.Closed told mid limit sent later adds short h = absurd h
unreceived_unasked troubles.OutOfMemory told mid limit sent later adds short h = short

pub unasked_unspoken : (told : Option (List Passed)) (limit : ℕ) (sent : List ℕ) (later : Option (List Passed)) (trouble : Trouble)
    → Unasked trouble told limit sent later → Unspoken trouble told limit sent later
unasked_unspoken told limit sent later troubles.Link h = h
unasked_unspoken told limit sent later troubles.TooLong h = h
unasked_unspoken told limit sent later troubles.Ended h = h
unasked_unspoken told limit sent later troubles.Broken h = h
unasked_unspoken told limit sent later (troubles.Breach frame) h = h
unasked_unspoken told limit sent later troubles.Exhausted h = h
unasked_unspoken told limit sent later troubles.Early h = absurd h
unasked_unspoken told limit sent later troubles.Closed h = h
unasked_unspoken told limit sent later troubles.OutOfMemory h = h

-- a move that sends before the peer's frame
abbrev pub IsAsking : Move → Type 0
IsAsking move = (told later : Option (List Passed)) (s : Standing) (sent : List ℕ) → sent_before s move ≡ Sent sent ∷ []
    → limit_of s.version < length sent → Adds told [] later → IsTooLong s move told later

pub begins_asking : (tx : Transaction) → IsAsking (Begins tx)
begins_asking tx told later s sent is long adds = (sent, (is, long, adds))

pub answers_asking : (reply : Reply) → IsAsking (Answers reply)
answers_asking reply told later s sent is long adds = (sent, (is, long, adds))

pub refuses_asking : IsAsking Refuses
refuses_asking told later s sent is long adds = (sent, (is, long, adds))

module _ (move : Move) (asking : IsAsking move) (told later : Option (List Passed)) (s : Standing) (sent : List ℕ)
    (is : sent_before s move ≡ Sent sent ∷ []) where
  within_one : length sent ≤ limit_of s.version → AreWithin (limit_of s.version) (sent_before s move)
  within_one short = let P : List Passed → Type 0 = AreWithin (limit_of s.version) in subst P (sym is) (short, tt)

  within_by : (limit : ℕ) → limit ≡ limit_of s.version → length sent ≤ limit → AreWithin (limit_of s.version) (sent_before s move)
  within_by limit limit_is short = let P : ℕ → Type 0 = λ l. length sent ≤ l in within_one (subst P limit_is short)

  pub unasked_troubled : (trouble : Trouble) (limit : ℕ) → limit ≡ limit_of s.version → Unspoken trouble told limit sent later
      → Troubled trouble told s move later
  unasked_troubled troubles.Link limit limit_is h = within_by limit limit_is h
  unasked_troubled troubles.TooLong limit limit_is h = asking told later s sent is (let P : ℕ → Type 0 = λ l. l < length sent in subst P limit_is h.0) h.1
  unasked_troubled troubles.Ended limit limit_is h = let P : List Passed → Type 0 = λ x. Adds told (x ++ Ended ∷ []) later in subst P (sym is) h
  unasked_troubled troubles.Broken limit limit_is h = absurd h
  unasked_troubled (troubles.Breach frame) limit limit_is h = absurd h
  unasked_troubled troubles.Exhausted limit limit_is h = absurd h
  unasked_troubled troubles.Early limit limit_is h = h
  unasked_troubled troubles.Closed limit limit_is h = absurd h
  unasked_troubled troubles.OutOfMemory limit limit_is h = within_by limit limit_is h

  -- what was heard is no action here, or memory is wanting for one
  pub unacted_troubled : (trouble : Trouble) (h : Heard) (frame : List ℕ) → length sent ≤ limit_of s.version → (h ≡ Ends Broken → SaysBroken s move frame)
      → (h ≡ Breach → (after s move frame ≡ None) × (SaysBroken s move frame → ⊥))
      → Adds told (Sent sent ∷ Received frame ∷ []) later → Unacted trouble h frame → Troubled trouble told s move later
  unacted_troubled troubles.Link h frame short said none adds u = absurd u
  unacted_troubled troubles.TooLong h frame short said none adds u = absurd u
  unacted_troubled troubles.Ended h frame short said none adds u = absurd u
  unacted_troubled troubles.Broken h frame short said none adds u = let P : List Passed → Type 0 = λ x. Adds told (x ++ Received frame ∷ []) later in
      (frame, (said u, subst P (sym is) adds))
  unacted_troubled (troubles.Breach other) h frame short said none adds u =
      let P : List Passed → Type 0 = λ x. Adds told (x ++ Received frame ∷ []) later in
      let Q : List ℕ → Type 0 = λ x. Troubled (troubles.Breach x) told s move later in
      subst Q (sym u.1) ((none u.0).0, (none u.0).1, subst P (sym is) adds)
  unacted_troubled troubles.Exhausted h frame short said none adds u = absurd u
  unacted_troubled troubles.Early h frame short said none adds u = absurd u
  unacted_troubled troubles.Closed h frame short said none adds u = absurd u
  unacted_troubled troubles.OutOfMemory h frame short said none adds u = within_one short

-- ---- an answer

module _ (told later : Option (List Passed)) (s : Standing) (reply : Reply) where
  pub troubled_unanswered : IsDue s (Answers reply) → (trouble : Trouble) → Troubled trouble told s (Answers reply) later → Unanswered trouble told s reply later
  troubled_unanswered due troubles.Link came = (due, came)
  troubled_unanswered due troubles.TooLong came = (due, came)
  troubled_unanswered due troubles.Ended came = (due, came)
  troubled_unanswered due troubles.Broken came = (due, came)
  troubled_unanswered due (troubles.Breach frame) came = (due, came)
  troubled_unanswered due troubles.Exhausted came = (due, came)
  troubled_unanswered due troubles.Early came = (due, came)
  troubled_unanswered due troubles.Closed came = absurd came
  troubled_unanswered due troubles.OutOfMemory came = (due, came)

  module _ (tx : TxShape) (turns : List Turn)
      (adds : (last : LastStep) → s.last ≡ Some last → turns ≡ last.turns ++ record { action = last.action; reply = reply } ∷ []) where
    stops_answering : (trouble : Trouble) (x : Option LastStep) → s.last ≡ x → IsDue s (Answers reply) → Troubled trouble told s (Answers reply) later
        → StopsAnswering turns trouble told s later
    stops_answering trouble None is due came = let P : Option LastStep → Type 0 = λ l. FitsLast l reply in absurd (subst P is due.2)
    stops_answering trouble (Some last) is due came = record { last = last; reply = reply; had = is; adds = adds last is; due = due; came = came }

    -- so stops a step with turns
    pub unanswered_stops : (trouble : Trouble) → Unanswered trouble told s reply later → StopsStep tx turns trouble told s later
    unanswered_stops troubles.Link u = inr (inl (stops_answering troubles.Link s.last refl u.0 u.1))
    unanswered_stops troubles.TooLong u = inr (inl (stops_answering troubles.TooLong s.last refl u.0 u.1))
    unanswered_stops troubles.Ended u = inr (inl (stops_answering troubles.Ended s.last refl u.0 u.1))
    unanswered_stops troubles.Broken u = inr (inl (stops_answering troubles.Broken s.last refl u.0 u.1))
    unanswered_stops (troubles.Breach frame) u = inr (inl (stops_answering (troubles.Breach frame) s.last refl u.0 u.1))
    unanswered_stops troubles.Exhausted u = inr (inl (stops_answering troubles.Exhausted s.last refl u.0 u.1))
    unanswered_stops troubles.Early u = inr (inl (stops_answering troubles.Early s.last refl u.0 u.1))
    unanswered_stops troubles.Closed u = inr (inr (refl, u.0, u.1))
    unanswered_stops troubles.OutOfMemory u = inr (inl (stops_answering troubles.OutOfMemory s.last refl u.0 u.1))

-- the last of the turns is the reply to the last step
pub reply_added : (x : Option LastStep) (tx : TxShape) (turns : List Turn) (turn : Turn) → MayFollow (kept_step x) tx turns → (turns ≡ [] → ⊥)
    → ((front : List Turn) (pushed : Turn) → turns ≡ front ++ pushed ∷ [] → turn ≡ pushed) → (last : LastStep) → x ≡ Some last
    → turns ≡ last.turns ++ record { action = last.action; reply = turn.reply } ∷ []
reply_added x tx turns turn (inl none) some is_last last is = absurd (some none)
reply_added x tx turns turn (inr follows) some is_last last is =
    let P : Option LastStep → Type 0 = λ l. Follows (kept_step l) tx turns in
    let f = subst P is follows in
    let pushed = is_last _ _ f.1.2 in
    f.1.2 ∙ ap (λ (r : Reply). last.turns ++ record { action = last.action; reply = r } ∷ []) (sym (ap (λ (t : Turn). t.reply) pushed))

-- ---- some moves, and one that did not come to its end

-- a registration
pub registering_stops : (trouble : Trouble) (told : Option (List Passed)) (s : Standing) (mid : Option (List Passed)) (between : Standing)
    (later : Option (List Passed))
    → Entering told s mid between → between.more ≡ true → Troubled trouble mid between Registers later → (trouble ≡ troubles.Early → ⊥)
    → StopsRegistering trouble told s later
registering_stops trouble told s mid between later entering due came never = record {
  moves = entering.moves;
  are = entering.registers;
  told_between = mid;
  between = between;
  ran = entering.ran;
  move = Registers;
  is = refl;
  due = due;
  came = inl came;
  early = λ is. absurd (never is);
}

-- the first refusal
pub closing_stops : (trouble : Trouble) (told : Option (List Passed)) (s : Standing) (mid : Option (List Passed)) (between : Standing) (later : Option (List Passed))
    (first : Bool)
    → first ≡ true → Closing first told s mid between → is_some between.asked ≡ true → Troubled trouble mid between Refuses later → StopsClosing trouble told s later
closing_stops trouble told s mid between later first is_first closing due came = record {
  moves = closing.moves;
  are = closing.refuses;
  told_between = mid;
  between = between;
  ran = closing.ran;
  move = Refuses;
  is = refl;
  due = due;
  came = inl came;
  early = λ is. closing.untouched is_first;
}

module _ (moves : List Move) (behind : moves ≡ [] → ⊥) (mid later : Option (List Passed)) (between : Standing) (move : Move) where
  late_came : (trouble : Trouble) → Troubled trouble mid between move later
      → Troubled (late trouble) mid between move later ⊎ IsLate (late trouble) moves mid later
  late_came troubles.Link came = inl came
  late_came troubles.TooLong came = inl came
  late_came troubles.Ended came = inl came
  late_came troubles.Broken came = inl came
  late_came (troubles.Breach frame) came = inl came
  late_came troubles.Exhausted came = inl came
  late_came troubles.Early came = inr (record { memory = refl; behind = behind; still = came })
  late_came troubles.Closed came = inl came
  late_came troubles.OutOfMemory came = inl came

late_not_early : (trouble : Trouble) → late trouble ≡ troubles.Early → ⊥
late_not_early troubles.Link is = cc
late_not_early troubles.TooLong is = cc
late_not_early troubles.Ended is = cc
late_not_early troubles.Broken is = cc
late_not_early (troubles.Breach frame) is = cc
late_not_early troubles.Exhausted is = cc
late_not_early troubles.Early is = cc
late_not_early troubles.Closed is = cc
late_not_early troubles.OutOfMemory is = cc

-- a move behind refusals
pub late_stops : (by : Move → Type 0) (trouble fault : Trouble) (told : Option (List Passed)) (s : Standing) (moves : List Move)
    → AllByRecursion (λ move. move ≡ Refuses) moves → (moves ≡ [] → ⊥)
    → (mid : Option (List Passed)) (between : Standing) (move : Move) (later : Option (List Passed)) → Ran told s moves mid between
    → fault ≡ late trouble → by move → IsDue between move → Troubled trouble mid between move later
    → Stopped (λ move. move ≡ Refuses) by fault told s later
late_stops by trouble fault told s moves are behind mid between move later ran fault_is is due came =
    let P : Trouble → Type 0 = λ t. Stopped (λ move. move ≡ Refuses) by t told s later in
    subst P (sym fault_is) (record {
      moves = moves;
      are = are;
      told_between = mid;
      between = between;
      ran = ran;
      move = move;
      is = is;
      due = due;
      came = late_came moves behind mid later between move trouble came;
      early = λ is. absurd (late_not_early trouble is);
    })

-- a transaction with nothing before it
pub begins_stops : (tx : Transaction) (told : Option (List Passed)) (s : Standing) (later : Option (List Passed)) → IsDue s (Begins tx) → (trouble : Trouble)
    → Troubled trouble told s (Begins tx) later → StopsBeginning tx trouble told s later
begins_stops tx told s later due trouble came = record {
  moves = [];
  are = tt;
  told_between = told;
  between = s;
  ran = ran_none told s;
  move = Begins tx;
  is = inr refl;
  due = due;
  came = inl came;
  early = λ is. refl;
}

pub closing_beginning : (tx : Transaction) (trouble : Trouble) (told : Option (List Passed)) (s : Standing) (later : Option (List Passed))
    → StopsClosing trouble told s later → StopsBeginning tx trouble told s later
closing_beginning tx trouble told s later stopped = record {
  moves = stopped.moves;
  are = stopped.are;
  told_between = stopped.told_between;
  between = stopped.between;
  ran = stopped.ran;
  move = stopped.move;
  is = inl stopped.is;
  due = stopped.due;
  came = stopped.came;
  early = stopped.early;
}

none_waits : (asked : Option Asked) → asked ≡ None → is_some asked ≡ true → ⊥
none_waits None is open_it = cc
none_waits (Some asked) is open_it = cc

-- what was open was ended by some refusals
pub closed_some : (told : Option (List Passed)) (s : Standing) (later : Option (List Passed)) (next : Standing) (c : Closed told s later next)
    → is_some s.asked ≡ true → c.moves ≡ [] → ⊥
closed_some told s later next c open_it none_it =
    let same : s ≡ next = spells_nil c.ran.spells none_it in
    let asked : s.asked ≡ None = ap (λ (x : Standing). x.asked) same ∙ c.done in
    none_waits s.asked asked open_it

-- ---- what was sent and heard

pub sent_begins : (s : Standing) (tx : Transaction) (count : ℕ) (context sent : List ℕ) → count ≡ s.count + 1 → context ≡ decimal count
    → sent ≡ process_request s.version context tx → sent_before s (Begins tx) ≡ Sent sent ∷ []
sent_begins s tx count context sent count_is context_is sent_is =
    ap (λ x. Sent x ∷ []) (sym (sent_is ∙ ap (λ c. process_request s.version c tx) (context_is ∙ ap decimal count_is)))

pub sent_answers : (s : Standing) (asked : Asked) (reply : Reply) (sent : List ℕ) → s.asked ≡ Some asked → sent ≡ answer asked reply
    → answer_sent s.asked reply ≡ Sent sent ∷ []
sent_answers s asked reply sent asked_is sent_is = rw (asked_is, sent_is) refl

pub said_at_count : (s : Standing) (limit : ℕ) (context frame : List ℕ) (h : Heard) (count at : ℕ) → limit ≡ limit_of s.version
    → h ≡ heard limit context frame → context ≡ decimal count → count ≡ at → h ≡ heard (limit_of s.version) (decimal at) frame
said_at_count s limit context frame h count at limit_is heard_is context_is count_is = heard_is ∙ rw (limit_is, context_is, count_is) refl

breach_not_broken : Breach ≡ Ends Broken → ⊥
breach_not_broken e = cc

pub none_begins : (s : Standing) (tx : Transaction) (frame : List ℕ) (h : Heard) → h ≡ heard (limit_of s.version) (decimal (s.count + 1)) frame
    → h ≡ Breach → (after s (Begins tx) frame ≡ None) × (SaysBroken s (Begins tx) frame → ⊥)
unfolding after
none_begins s tx frame h said breach = (
  let P : Heard → Type 0 = λ x. acted s tx [] (s.count + 1) x ≡ None in
      subst P (sym breach ∙ said) refl,
  λ broken. breach_not_broken (sym breach ∙ said ∙ broken),
)

answered_breach : (s : Standing) (x : Option LastStep) (reply : Reply) → answered s x reply Breach ≡ None
answered_breach s None reply = refl
answered_breach s (Some last) reply = refl

pub none_answers : (s : Standing) (reply : Reply) (frame : List ℕ) (h : Heard) → h ≡ heard (limit_of s.version) (decimal s.count) frame → h ≡ Breach
    → (after s (Answers reply) frame ≡ None) × (SaysBroken s (Answers reply) frame → ⊥)
unfolding after
none_answers s reply frame h said breach = (
  let P : Heard → Type 0 = λ x. answered s s.last reply x ≡ None in
      subst P (sym breach ∙ said) (answered_breach s s.last reply),
  λ broken. breach_not_broken (sym breach ∙ said ∙ broken),
)

pub none_refuses : (s : Standing) (frame : List ℕ) (h : Heard) → h ≡ heard (limit_of s.version) (decimal s.count) frame → closed s h ≡ None
    → after s Refuses frame ≡ None
unfolding after
none_refuses s frame h said none = let P : Heard → Type 0 = λ x. closed s x ≡ None in subst P said none

pub adds_heard : (told later : Option (List Passed)) (s : Standing) (move : Move) (sent frame : List ℕ) → sent_before s move ≡ Sent sent ∷ []
    → Adds told (Sent sent ∷ Received frame ∷ []) later → Adds told (sent_before s move ++ Received frame ∷ []) later
adds_heard told later s move sent frame is adds = let P : List Passed → Type 0 = λ x. Adds told (x ++ Received frame ∷ []) later in subst P (sym is) adds

-- what was heard closes nothing
pub unclosed_troubled : (told later : Option (List Passed)) (s : Standing) (sent frame : List ℕ) (h : Heard) → answer_sent s.asked (Unauthorized 0) ≡ Sent sent ∷ []
    → h ≡ heard (limit_of s.version) (decimal s.count) frame → Adds told (Sent sent ∷ Received frame ∷ []) later
    → (trouble : Trouble) → (trouble ≡ troubles.Breach frame) × (closed s h ≡ None) → Troubled trouble told s Refuses later
unclosed_troubled told later s sent frame h is said adds trouble unclosed =
    let Q : Trouble → Type 0 = λ x. Troubled x told s Refuses later in
    subst Q (sym unclosed.0) (none_refuses s frame h said unclosed.1, λ e. e, adds_heard told later s Refuses sent frame is adds)

-- ---- registrations

pub unregistered_troubled : (told later : Option (List Passed)) (s : Standing) (frame : List ℕ) → Adds told (Received frame ∷ []) later
    → (trouble : Trouble) → IsUnregistered s frame trouble → Troubled trouble told s Registers later
unfolding after
unregistered_troubled told later s frame adds troubles.Link u = absurd u
unregistered_troubled told later s frame adds troubles.TooLong u = absurd u
unregistered_troubled told later s frame adds troubles.Ended u = absurd u
unregistered_troubled told later s frame adds troubles.Broken u = absurd u
unregistered_troubled told later s frame adds (troubles.Breach other) u =
    let P : List ℕ → Type 0 = λ x. (registered s (registration (limit_of s.version) x) ≡ None) × (⊥ → ⊥) × Adds told (Received x ∷ []) later in
    subst P (sym u.1) (u.0, λ e. e, adds)
unregistered_troubled told later s frame adds troubles.Exhausted u = absurd u
unregistered_troubled told later s frame adds troubles.Early u = absurd u
unregistered_troubled told later s frame adds troubles.Closed u = absurd u
unregistered_troubled told later s frame adds troubles.OutOfMemory u = tt

some_alike : {A : Type 0} (x y : A) → Some x ≡ Some y → x ≡ y
some_alike x y e = cc

-- the answer to a registration was not sent
module _ (told mid later : Option (List Passed)) (s next : Standing) (frame sent : List ℕ) (limit : ℕ) (found : Registration)
    (limit_is : limit ≡ limit_of s.version) (entered_read : registration (limit_of s.version) frame ≡ Some found)
    (may : may_register s (version_by found.request.protocol_version) ≡ true)
    (entered : registered_by s found (version_by found.request.protocol_version) ≡ Some next)
    (sent_is : sent ≡ welcome (version_by found.request.protocol_version) found.correlation) (received : Adds told (Received frame ∷ []) mid) where
  entered_version : version_by found.request.protocol_version ≡ next.version
  entered_version = ap (λ x. x.version) (some_alike _ _ entered)

  entered_legal : after s Registers frame ≡ Some next
  unfolding after
  entered_legal = let Q : Option Registration → Type 0 = λ r. registered s r ≡ Some next in subst Q (sym entered_read) (rw may entered)

  entered_sent : sent_behind s Registers frame next ≡ Sent sent ∷ []
  entered_sent = ap (welcomed next.version) entered_read ∙ ap (λ v. Sent (welcome v found.correlation) ∷ []) (sym entered_version)
      ∙ ap (λ x. Sent x ∷ []) (sym sent_is)

  pub register_unsent : (trouble : Trouble) → Unsent trouble mid limit sent later → Troubled trouble told s Registers later
  register_unsent troubles.Link h = tt
  register_unsent troubles.TooLong h =
      let P : ℕ → Type 0 = λ l. l < length sent in (
        frame,
        (
          next,
          (
            sent,
            (
              entered_legal,
              entered_sent,
              subst P limit_is h.0,
              adds_two told mid later (Received frame ∷ []) [] received h.1,
            ),
          ),
        ),
      )
  register_unsent troubles.Ended h = absurd h
  register_unsent troubles.Broken h = absurd h
  register_unsent (troubles.Breach other) h = absurd h
  register_unsent troubles.Exhausted h = absurd h
  register_unsent troubles.Early h = absurd h
  register_unsent troubles.Closed h = absurd h
  register_unsent troubles.OutOfMemory h = tt
