-- A reader is served one question after another.
use Rattle.std.proofs.Common.{◌≡◌, ◌<◌, ◌≤◌, ℕ, ◌+◌, List, [], ◌∷◌, ◌++◌, length, Option, Some, None, refl, sym, ap, subst, ◌∙◌, inl, inr, arith}
use Rattle.std.specs.Prelude.{IfSome}
use Rattle.std.specs.List.{flat_map}
use Rattle.std.specs.Io.KnownBytes.{Appends, IsAtEnd}
use Rattle.std.proofs.KnownBytes.{Appends-nil, Appends-trans}
use Rattle.std.proofs.lemmas.Grind.{flat_map-append}
use Rattle.std.proofs.lemmas.List.{append-nil, length-append}
use Rattle.saw_io.specs.Frame.{frame}
use Rattle.saw_live.specs.Serving.{AreAnswers, IsFault, IsServed, IsServedUntil, Moment, Reads, Serves, max_answers}
use Rattle.saw_live.specs.Words.{Head}
use Rattle.saw_live.specs.declared.reader.ReaderFault.{ReaderFault}

module _ (hash : List ℕ → List ℕ) where
  reads-append : (some others : List (List ℕ)) (old between new : Option (List ℕ)) → Reads hash some old between → Reads hash others between new
      → Reads hash (some ++ others) old new
  reads-append some others None between new first second = tt
  reads-append [] others (Some bytes) between new first second = subst (λ at. Reads hash others at new) first second
  reads-append (question ∷ some) others (Some bytes) between new first second =
      (first.0, first.1, reads-append some others (Some first.0) between new first.2 second)

  answers-append : (some others said more : List (List ℕ)) (old between new : List Head) → AreAnswers hash old between some said
      → AreAnswers hash between new others more → AreAnswers hash old new (some ++ others) (said ++ more)
  answers-append [] others [] more old between new first second = subst (λ at. AreAnswers hash at new others more) first second
  answers-append [] others (text ∷ said) more old between new first second = absurd first
  answers-append (question ∷ some) others [] more old between new first second = absurd first
  answers-append (question ∷ some) others (text ∷ said) more old between new first second =
      (first.0, first.1, answers-append some others said more first.0 between new first.2 second)

  pub serves-append : (old between new : Moment) (some others said more : List (List ℕ)) → Serves hash old between some said
      → Serves hash between new others more → Serves hash old new (some ++ others) (said ++ more)
  serves-append old between new some others said more first second = record {
    reads = reads-append some others old.unread between.unread new.unread first.reads second.reads;
    answers = answers-append some others said more old.heads between.heads new.heads first.answers second.answers;
    writes = subst (Appends old.written new.written) (sym (flat_map-append frame said more))
        (Appends-trans old.written between.written new.written (flat_map frame said) (flat_map frame more) first.writes second.writes);
  }

  -- so many questions were answered
  pub record HasServed (old new : Moment) (count : ℕ) : Type 0 where
    pub questions : List (List ℕ)
    pub texts : List (List ℕ)
    pub serves : Serves hash old new questions texts
    pub count_is : count ≡ length questions

  pub one_more : (old between new : Moment) (count : ℕ) → HasServed old between count
      → (question : List ℕ) × (text : List ℕ) × Serves hash between new (question ∷ []) (text ∷ []) → HasServed old new (count + 1)
  one_more old between new count has next = record {
    questions = has.questions ++ next.0 ∷ [];
    texts = has.texts ++ next.1 ∷ [];
    serves = serves-append old between new has.questions (next.0 ∷ []) has.texts (next.1 ∷ []) has.serves next.2;
    count_is = ap (λ n. n + 1) has.count_is ∙ sym (length-append has.questions (next.0 ∷ []));
  }

  -- known bytes stay known
  known : (questions : List (List ℕ)) (bytes : List ℕ) (new : Option (List ℕ)) → Reads hash questions (Some bytes) new → (rest : List ℕ) × (new ≡ Some rest)
  known [] bytes new reads = (bytes, reads)
  known (question ∷ questions) bytes new reads = known questions reads.0 new reads.2

  ended : (old between new : Option (List ℕ)) (questions : List (List ℕ)) → Reads hash questions old between
      → IfSome between (λ bytes. bytes ≡ []) → Reads hash [] between new → IfSome old (λ bytes. IsAtEnd new)
  ended None between new questions reads none same = tt
  ended (Some bytes) between new questions reads none same =
      let left = known questions bytes between reads in
      let empty : left.0 ≡ [] = rw left.1 at none in
      let kept : new ≡ Some left.0 = rw left.1 at same in
      subst IsAtEnd (sym (kept ∙ ap (λ rest. Some rest) empty)) refl

  pub at_its_end : (old between new : Moment) (count : ℕ) → HasServed old between count → count ≤ max_answers
      → IfSome between.unread (λ bytes. bytes ≡ []) × Serves hash between new [] [] → IsServed hash old new count
  at_its_end old between new count has few last = record {
    questions = has.questions ++ [];
    texts = has.texts ++ [];
    serves = serves-append old between new has.questions [] has.texts [] has.serves last.1;
    count_is = has.count_is ∙ ap length (sym (append-nil has.questions));
    few = few;
    done = inl (ended old.unread between.unread new.unread has.questions has.serves.reads last.0 last.1.reads);
  }

  pub as_often_as_may_be : (old new : Moment) (count : ℕ) → HasServed old new count → count ≡ max_answers → IsServed hash old new count
  as_often_as_may_be old new count has most = record {
    questions = has.questions;
    texts = has.texts;
    serves = has.serves;
    count_is = has.count_is;
    few = omega (arith, most);
    done = inr most;
  }

  pub until_fault : (old between new : Moment) (count : ℕ) (fault : ReaderFault) → HasServed old between count → count < max_answers
      → IsFault hash between new fault → IsServedUntil hash old new fault
  until_fault old between new count fault has few is = record {
    questions = has.questions;
    texts = has.texts;
    few = omega (arith, has.count_is, few);
    between = between;
    serves = has.serves;
    fault_is = is;
  }

  reads_none : (old : Option (List ℕ)) → Reads hash [] old old
  reads_none None = tt
  reads_none (Some bytes) = refl

  -- nothing was asked yet
  pub served_none : (now : Moment) → HasServed now now 0
  served_none now = record {
    questions = [];
    texts = [];
    serves = record { reads = reads_none now.unread; answers = refl; writes = Appends-nil now.written };
    count_is = refl;
  }
