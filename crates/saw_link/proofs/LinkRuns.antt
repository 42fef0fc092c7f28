-- Moves on a link, one after another.
use Rattle.std.proofs.Common.{◌≡◌, ◌≤◌, inl, inr, ℕ, length, Bool, true, false, List, [], ◌∷◌, ◌++◌, Option, Some, None, refl, sym, ap, ◌∙◌, subst, append_assoc, append-nil}
use Rattle.std.specs.List.{AllByRecursion}
use Rattle.std.specs.Option.{IsSome, IfSome}
use Rattle.saw_link.specs.Remotes.{AgreesWithLink, Stepped}
use Rattle.saw_link.specs.declared.remote.Health.{Health}
use Rattle.saw_link.specs.declared.remote.Health.TheVariants.{Sound}
use Rattle.saw_messages.specs.TxShapes.{TxShape}
use Rattle.saw_messages.specs.declared.talk.Action.{Action}
use Rattle.saw_messages.specs.declared.talk.Turn.{Turn}
use Rattle.saw_link.specs.declared.standing.Standing.{Standing}
use Rattle.saw_link.specs.LinkConversation.{Move, Answers, Begins, Refuses, Registers, Closed, IsActOf, IsNext, Spells, none, more, IsSpelled, IsDue, AreWithin, IsAct, Obeys, ObeysAfter, Moved, Ran, after, exchanged, fresh, sent_before}
use Rattle.saw_link.specs.declared.passed.Passed.{Passed}
use Rattle.saw_link.specs.declared.passed.Passed.TheVariants.{Sent}
use Rattle.saw_link.specs.SentFrames.{limit_of}
use Rattle.saw_link.specs.Tells.{Adds}

-- ---- what a link tells

pub adds_none : (told : Option (List Passed)) → Adds told [] told
adds_none None = refl
adds_none (Some before) = rw append-nil refl

pub adds_two : (first second third : Option (List Passed)) (front back : List Passed) → Adds first front second → Adds second back third
    → Adds first (front ++ back) third
adds_two None second third front back a b = let P : Option (List Passed) → Type 0 = λ told. Adds told back third in subst P a b
adds_two (Some before) second third front back a b =
    let P : Option (List Passed) → Type 0 = λ told. Adds told back third in
    subst P a b ∙ ap Some (append_assoc before front back)

-- ---- what was obeyed after a frame was sent

pub obeys_after : (next : TxShape → List Turn → Action) (first second : Option (List Passed)) (sent frame : List ℕ)
    → Adds first (Sent sent ∷ []) second → Obeys next second frame → ObeysAfter next first sent frame
obeys_after next first second sent frame adds obeys moves passed s move spells due told is short =
    let Q : Option (List Passed) → Type 0 = λ at. Adds at (Sent sent ∷ []) second in
    let added : second ≡ Some (passed ++ Sent sent ∷ []) = subst Q told adds in
    let W : List Passed → Type 0 = AreWithin (limit_of s.version) in
    obeys moves passed s move spells due (subst W (sym is) (short, tt)) (added ∙ ap (λ x. Some (passed ++ x)) (sym is))

some_once : {A : Type 0} (x y : A) → Some x ≡ Some y → x ≡ y
some_once x y e = cc

acts_on : (next : TxShape → List Turn → Action) (s : Standing) (move : Move) (frame : List ℕ) (later : Standing) → IsNext next s move frame
    → after s move frame ≡ Some later → IsActOf next later.last
acts_on next s move frame later allowed legal = let P : Standing → Type 0 = λ x. IsActOf next x.last in
    subst P (some_once _ _ (sym allowed.legal ∙ legal)) allowed.acts

-- the action that came is the peer's own
pub acts_of : (next : TxShape → List Turn → Action) (told : Option (List Passed)) (s : Standing) (move : Move) (sent frame : List ℕ) (later : Standing)
    → IsSome told → IsSpelled told s → IsDue s move → sent_before s move ≡ Sent sent ∷ [] → length sent ≤ limit_of s.version
    → ObeysAfter next told sent frame → after s move frame ≡ Some later → IsAct next move later
acts_of next None s move sent frame later some spelled due is short obeys legal = absurd cc
acts_of next (Some passed) s Registers sent frame later some spelled due is short obeys legal = tt
acts_of next (Some passed) s (Begins tx) sent frame later some spelled due is short obeys legal =
    acts_on next s (Begins tx) frame later (obeys spelled.0 passed s (Begins tx) spelled.1 due refl is short) legal
acts_of next (Some passed) s (Answers reply) sent frame later some spelled due is short obeys legal =
    acts_on next s (Answers reply) frame later (obeys spelled.0 passed s (Answers reply) spelled.1 due refl is short) legal
acts_of next (Some passed) s Refuses sent frame later some spelled due is short obeys legal = tt

-- ---- one after another

pub spells_on : {start between : Standing} {moves : List Move} {passed : List Passed} {others : List Move} {further : List Passed} {last : Standing}
    → Spells start moves passed between → Spells between others further last → Spells start (moves ++ others) (passed ++ further) last
spells_on first none = rw (append-nil, append-nil) first
spells_on first (more move frame next rest due legal within) =
    rw (← append_assoc, ← append_assoc) (more move frame next (spells_on first rest) due legal within)

pub pushed_some : (moves : List Move) (move : Move) → moves ++ move ∷ [] ≡ [] → ⊥
pushed_some [] move is = cc
pushed_some (x ∷ moves) move is = cc

-- no moves lead nowhere
pub spells_nil : {start next : Standing} {moves : List Move} {passed : List Passed} → Spells start moves passed next → moves ≡ [] → start ≡ next
spells_nil none is = refl
spells_nil (more {moves} move frame next rest due legal within) is = absurd (pushed_some moves move is)

pub ran_none : (told : Option (List Passed)) (s : Standing) → Ran told s [] told s
ran_none told s = record { passed = []; spells = none; adds = adds_none told }

pub ran_more : (told : Option (List Passed)) (s : Standing) (moves : List Move) (second : Option (List Passed)) (between : Standing) (move : Move)
    (third : Option (List Passed)) (last : Standing)
    → Ran told s moves second between → Moved second between move third last → Ran told s (moves ++ move ∷ []) third last
ran_more told s moves second between move third last ran moved = record {
  passed = ran.passed ++ exchanged between move moved.frame last;
  spells = more move moved.frame last ran.spells moved.due moved.legal moved.within;
  adds = adds_two told second third ran.passed (exchanged between move moved.frame last) ran.adds moved.adds;
}

-- what a link tells stays spelled
pub spelled_ran : (told : Option (List Passed)) (s : Standing) (moves : List Move) (second : Option (List Passed)) (last : Standing)
    → IsSpelled told s → Ran told s moves second last → IsSpelled second last
spelled_ran None s moves second last spelled ran = rw ran.adds tt
spelled_ran (Some before) s moves second last spelled ran = rw ran.adds (spelled.0 ++ moves, spells_on spelled.1 ran.spells)

pub spelled_moved : (told : Option (List Passed)) (s : Standing) (move : Move) (second : Option (List Passed)) (last : Standing) → IsSpelled told s
    → Moved told s move second last → IsSpelled second last
spelled_moved told s move second last spelled moved =
    spelled_ran told s ([] ++ move ∷ []) second last spelled (ran_more told s [] told s move second last (ran_none told s) moved)

-- ---- refusals

-- some refusals, or none where it is the first
pub record Closing (first : Bool) (told : Option (List Passed)) (s : Standing) (later : Option (List Passed)) (next : Standing) : Type 0 where
  pub moves : List Move
  pub refuses : AllByRecursion (λ move. move ≡ Refuses) moves
  pub ran : Ran told s moves later next
  pub untouched : first ≡ true → moves ≡ []
  pub behind : first ≡ false → moves ≡ [] → ⊥

true_is_not_false : true ≡ false → ⊥
true_is_not_false e = cc

false_is_not_true : false ≡ true → ⊥
false_is_not_true e = cc

pub closing_none : (told : Option (List Passed)) (s : Standing) → Closing true told s told s
closing_none told s = record {
  moves = [];
  refuses = tt;
  ran = ran_none told s;
  untouched = λ is. refl;
  behind = λ is. absurd (true_is_not_false is);
}

all_more : (moves : List Move) → AllByRecursion (λ move. move ≡ Refuses) moves → AllByRecursion (λ move. move ≡ Refuses) (moves ++ Refuses ∷ [])
all_more [] all = (refl, tt)
all_more (move ∷ moves) all = (all.0, all_more moves all.1)

pub closing_more : (first : Bool) (told : Option (List Passed)) (s : Standing) (second : Option (List Passed)) (between : Standing)
    (third : Option (List Passed)) (last : Standing)
    → Closing first told s second between → Moved second between Refuses third last → Closing false told s third last
closing_more first told s second between third last closing moved = record {
  moves = closing.moves ++ Refuses ∷ [];
  refuses = all_more closing.moves closing.refuses;
  ran = ran_more told s closing.moves second between Refuses third last closing.ran moved;
  untouched = λ is. absurd (false_is_not_true is);
  behind = λ is. pushed_some closing.moves Refuses;
}

-- ---- registrations

pub record Entering (told : Option (List Passed)) (s : Standing) (later : Option (List Passed)) (next : Standing) : Type 0 where
  pub moves : List Move
  pub registers : AllByRecursion (λ move. move ≡ Registers) moves
  pub ran : Ran told s moves later next

pub entering_none : (told : Option (List Passed)) (s : Standing) → Entering told s told s
entering_none told s = record { moves = []; registers = tt; ran = ran_none told s }

all_on : (moves : List Move) → AllByRecursion (λ move. move ≡ Registers) moves → AllByRecursion (λ move. move ≡ Registers) (moves ++ Registers ∷ [])
all_on [] all = (refl, tt)
all_on (move ∷ moves) all = (all.0, all_on moves all.1)

pub entering_more : (told : Option (List Passed)) (s : Standing) (second : Option (List Passed)) (between : Standing) (third : Option (List Passed))
    (last : Standing)
    → Entering told s second between → Moved second between Registers third last → Entering told s third last
entering_more told s second between third last entering moved = record {
  moves = entering.moves ++ Registers ∷ [];
  registers = all_on entering.moves entering.registers;
  ran = ran_more told s entering.moves second between Registers third last entering.ran moved;
}

pub closed_none : (told : Option (List Passed)) (s : Standing) → s.asked ≡ None → Closed told s told s
closed_none told s done = record { moves = []; refuses = tt; ran = ran_none told s; done = done }

-- ---- a station over a link over which nothing passed

spelled_fresh : (told : Option (List Passed)) → IfSome told (λ passed. passed ≡ []) → IsSpelled told fresh
spelled_fresh None some = tt
spelled_fresh (Some passed) some = let P : List Passed → Type 0 = λ x. Spells fresh [] x fresh in ([], subst P (sym some) none)

pub kept_fresh : (told : Option (List Passed)) (standing : Standing) → IfSome told (λ passed. passed ≡ []) → standing ≡ fresh → AgreesWithLink told standing false Sound
kept_fresh told standing first is = record {
  spelled = λ _. let P : Standing → Type 0 = λ x. IsSpelled told x in subst P (sym is) (spelled_fresh told first);
  still = λ _. ap (λ x. x.refused) is;
  ready = λ not _. absurd (false_is_not_true not);
  unbegun = λ _ _. is;
}

-- what a station keeps after a call
pub kept_on : (told : Option (List Passed)) (s : Standing) (begun : Bool) (health : Health) (later : Option (List Passed)) (next : Standing) (begins : Bool)
    → AgreesWithLink told s begun health → begins ≡ true → (IsSpelled told s → IsSpelled later next) → next.refused ≡ 0 → next.more ≡ false
    → AgreesWithLink later next begins health
kept_on told s begun health later next begins kept is on still ready = record {
  still = λ sound. still;
  ready = λ yes_begun sound. ready;
  spelled = λ sound. on (kept.spelled sound);
  unbegun = λ not sound. absurd (false_is_not_true (sym not ∙ is));
}

pub spelled_stepped : (told : Option (List Passed)) (s : Standing) (tx : TxShape) (turns : List Turn) (later : Option (List Passed)) (next : Standing)
    → IsSpelled told s → Stepped told s tx turns later next → IsSpelled later next
spelled_stepped told s tx turns later next spelled (inl began) =
    spelled_moved _ _ _ _ _ (spelled_ran _ _ _ _ _ spelled began.1.closed_it.ran) began.1.moved
spelled_stepped told s tx turns later next spelled (inr answered) = spelled_moved _ _ _ _ _ spelled answered.moved
