-- What is so of requests and of refusals is so of each action that is due.
use Rattle.std.proofs.Common.{ℕ, Bool, true, false, cond, List, [], ◌∷◌, Result, Ok, Err}
use Rattle.saw_wire.specs.declared.fault.MessageFault.{MessageFault}
use Rattle.saw_messages.specs.Reasons.{invalid}
use Rattle.saw_messages.specs.declared.talk.Action.{Action}
use Rattle.saw_messages.specs.declared.talk.Action.TheVariants as actions
use Rattle.saw_messages.specs.declared.talk.Place.TheVariants.{At}
use Rattle.saw_messages.specs.declared.talk.Reply.{Reply}
use Rattle.saw_messages.specs.declared.talk.Reply.TheVariants.{Entries, Done, Unauthorized}
use Rattle.saw_settings.specs.Requests.{Told, Due, Goes, and_then, body_at, body_by, done, done_by, message_at, readable, then_do}

module _ (Q : Action → Type 0) where
  abbrev pub due_own : {A : Type 0} → Told A → Type 0
  due_own (Due action) = Q action
  due_own (Goes told rest) = Unit {0}

  pub either_own : (test : Bool) (x y : Action) → Q x → Q y → Q (cond test x y)
  either_own true x y own other = own
  either_own false x y own other = other

  pub either_told : {A : Type 0} (test : Bool) (x y : Told A) → due_own x → due_own y → due_own (cond test x y)
  either_told true x y own other = own
  either_told false x y own other = other

  pub then_own : {A : Type 0} (told : Told A) (others : A → List Reply → Action) → due_own told → ((x : A) (rest : List Reply) → Q (others x rest))
      → Q (then_do told others)
  then_own (Due action) others own all = own
  then_own (Goes told rest) others own all = all told rest

  pub and_own : {A B : Type 0} (told : Told A) (others : A → List Reply → Told B) → due_own told → ((x : A) (rest : List Reply) → due_own (others x rest))
      → due_own (and_then told others)
  and_own (Due action) others own all = own
  and_own (Goes told rest) others own all = all told rest

  module _ (refused : ℕ) (refuses : Q (invalid refused)) where
    body_by_own : (rest : List Reply) (reply : Reply) → due_own (body_by refused rest reply)
    body_by_own rest (Entries []) = refuses
    body_by_own rest (Entries (body ∷ [])) = tt
    body_by_own rest (Entries (body ∷ second ∷ others)) = refuses
    body_by_own rest Done = refuses
    body_by_own rest (Unauthorized index) = refuses

    body_own : (address : List ℕ) (replies : List Reply) → Q (actions.Get (At address ∷ [])) → due_own (body_at refused address replies)
    body_own address [] gets = gets
    body_own address (first ∷ rest) gets = body_by_own rest first

    readable_own : {A : Type 0} (unreadable : ℕ) (rest : List Reply) (read : Result A MessageFault) → Q (invalid unreadable)
        → due_own (readable unreadable rest read)
    readable_own unreadable rest (Ok read) own = tt
    readable_own unreadable rest (Err e) own = own

    pub message_own : {A : Type 0} (unreadable : ℕ) (message : List ℕ → Result A MessageFault) (address : List ℕ) (replies : List Reply)
        → Q (actions.Get (At address ∷ [])) → Q (invalid unreadable) → due_own (message_at refused unreadable message address replies)
    message_own unreadable message address replies gets own =
        and_own (body_at refused address replies) _ (body_own address replies gets) (λ body rest. readable_own unreadable rest (message body) own)

    done_by_own : (rest : List Reply) (reply : Reply) → due_own (done_by refused rest reply)
    done_by_own rest (Entries bodies) = refuses
    done_by_own rest Done = tt
    done_by_own rest (Unauthorized index) = refuses

    pub done_own : (action : Action) (replies : List Reply) → Q action → due_own (done refused action replies)
    done_own action [] own = own
    done_own action (first ∷ rest) own = done_by_own rest first
