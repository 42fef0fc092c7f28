-- What was spoken over a map is the conversation with the recorded reads in place of the map.
use Rattle.std.proofs.Common.{◌≡◌, ℕ, Bool, true, false, cond, List, [], ◌∷◌, map, Some, refl, sym, ap, subst, ◌∙◌}
use Rattle.std.proofs.lemmas.Map.Lookups.{exact_bytes}
use Rattle.std.specs.Cmp.{Equal-is}
use Rattle.std.specs.Cmp.Lexicographic.{slice_cmp, nat_list_cmp_total}
use Rattle.std.specs.FinMap as finite
use Rattle.std.specs.List.{AllByRecursion}
use Rattle.std.specs.Ordering.{nat_cmp, eq_by_cmp}
use Rattle.std.proofs.lemmas.Bool.{both_ways}
use Rattle.saw_address.specs.Maps.{StateMap, value_at}
use Rattle.saw_messages.specs.Reasons.{has_own_reason}
use Rattle.saw_messages.specs.TxShapes.{TxShape}
use Rattle.saw_messages.specs.declared.outcome.Change.{Change}
use Rattle.saw_messages.specs.declared.receipt.Event.{Event}
use Rattle.saw_messages.specs.declared.talk.Action.{Action}
use Rattle.saw_messages.specs.declared.talk.Turn.{Turn}
use Rattle.saw_messages.specs.declared.transaction.TransactionHeader.{TransactionHeader}
use Rattle.saw_context.specs.Conversation.{body_of}
use Rattle.saw_context.specs.Outcome.{Processors, Talk, changes_of, conversation, conversed, decided, decided_by, max_requests, no_talk, outcome_at}
use Rattle.saw_context.specs.SoundResults.{AnswersFor, IsConversed, IsOf, as_asked, is_own, recorded}
use Rattle.saw_context.specs.Views.{Layers, over}
use Rattle.saw_context.specs.declared.reads.Read.{Read}
use Rattle.saw_context.proofs.Alike.{AreAlike, followed_alike}
use Rattle.saw_context.proofs.Each.{all_both, all_map}
use Rattle.saw_station.specs.Spoken.{IsSpokenBy, IsSpoken}
use Rattle.saw_station.proofs.Replays.{replay, replay_gives, replay_last, replay_own}

-- ---- the recorded reads as a map

-- what a map has at an address after another was set, where both agree with a third
set_agrees : (m n : StateMap) (at other body told : List ℕ) → body_of (value_at m other) ≡ body → body_of (value_at m at) ≡ told
    → body_of (value_at n at) ≡ told
    → body_of (value_at (finite.insert n other body) at) ≡ told
set_agrees m n at other body told set first second =
    ap body_of (finite.get-insert nat_list_cmp_total n other body at)
    ∙ elim (eq_by_cmp (slice_cmp nat_cmp) at other) as (λ b. (b ≡ true → at ≡ other) → body_of (cond b (Some body) (value_at n at)) ≡ told) [
      | true ↦ λ same. sym set ∙ ap (λ a. body_of (value_at m a)) (sym (same refl)) ∙ first
      | false ↦ λ same. second
    ] (λ tie. exact_bytes at other ((Equal-is (slice_cmp nat_cmp at other)).0 tie))

set_same : (n : StateMap) (at body : List ℕ) → body_of (value_at (finite.insert n at body) at) ≡ body
set_same n at body =
    ap body_of (finite.get-insert nat_list_cmp_total n at body at)
    ∙ ap (λ b. body_of (cond b (Some body) (value_at n at))) ((Rattle.std.specs.Cmp.eq_by_cmp_equiv nat_list_cmp_total).refl at)

module _ (m : StateMap) where
  one_recorded : (n : StateMap) (read : Read) (own : Bool) → is_own read.from ≡ own → IsOf (cond own n (finite.insert n read.address read.body)) read
  one_recorded n read true is apart = absurd (both_ways (is_own read.from) apart is)
  one_recorded n read false is apart = set_same n read.address read.body

  others_recorded : (n : StateMap) (read : Read) (own : Bool) (reads : List Read) → is_own read.from ≡ own → IsOf m read
      → AllByRecursion (IsOf m) reads → AllByRecursion (IsOf n) reads
      → AllByRecursion (IsOf (cond own n (finite.insert n read.address read.body))) reads
  others_recorded n read true reads is of all rest = rest
  others_recorded n read false reads is of all rest =
      all_both (IsOf m) (IsOf n) (IsOf (finite.insert n read.address read.body))
      (λ other h k apart. set_agrees m n other.address read.address read.body other.body (of is) (h apart) (k apart)) reads all rest

  -- reads that a map gives are what the recorded reads give
  pub recorded_of : (reads : List Read) → AllByRecursion (IsOf m) reads → AllByRecursion (IsOf (recorded reads)) reads
  recorded_of [] all = tt
  recorded_of (read ∷ reads) all = (
    one_recorded (recorded reads) read (is_own read.from) refl,
    others_recorded (recorded reads) read (is_own read.from) reads refl all.0 all.1
        (recorded_of reads all.1),
  )

reads_are_alike : (m n : StateMap) (reads : List Read) → AllByRecursion (IsOf m) reads → AllByRecursion (IsOf n) reads
    → AllByRecursion (AreAlike m n) (map as_asked reads)
reads_are_alike m n reads h k =
    all_map as_asked (AreAlike m n) reads (all_both (IsOf m) (IsOf n) (λ read. AreAlike m n (as_asked read)) (λ read p q own. p own ∙ sym (q own)) reads h k)

-- ---- the conversation

pub conversed-by : (next : List Turn → Action) (header : TransactionHeader) (m : StateMap) (talk : Talk) (last : Action) (changes : List Change)
    → conversation next header m ≡ talk → next talk.turns ≡ last → changes ≡ changes_of talk.own
    → conversed next header m ≡ outcome_at last changes talk.events
unfolding conversed
conversed-by next header m talk last changes whole is made =
    ap (decided_by next) whole ∙ ap (decided talk) is ∙ ap (λ changes. outcome_at last changes talk.events) (sym made)

module _ (processors : Processors) (tx : TxShape) (base : StateMap) (layers : Layers) (tells : Bool) (its : List Turn → Action)
    (turns : List Turn) (last : Action) (changes : List Change) (events : List Event) (reads : List Read)
    (spoken : IsSpoken tells its tx.header base layers turns last changes events reads) where
  abbrev talk : Talk
  talk = record { turns = turns; own = spoken.own; events = events; asked = map as_asked reads }

  module _ (next : List Turn → Action) (gives : IsSpokenBy next turns) (is : next turns ≡ last) where
    over_recorded : conversation next tx.header (recorded reads) ≡ talk
    over_recorded =
        let whole : conversation next tx.header (over base layers) ≡ talk = spoken.spoken next gives is in
        let has : AllByRecursion (IsOf (recorded reads)) reads = recorded_of (over base layers) reads spoken.of_map in
        let alike : AllByRecursion (AreAlike (over base layers) (recorded reads)) (conversation next tx.header (over base layers)).asked =
        subst (λ (t : Talk). AllByRecursion (AreAlike (over base layers) (recorded reads)) t.asked) (sym whole)
        (reads_are_alike (over base layers) (recorded reads) reads spoken.of_map has) in
        sym (followed_alike next tx.header (over base layers) (recorded reads) max_requests no_talk alike) ∙ whole

    -- with a function that answers for the transaction
    conversed_with : AnswersFor processors tx next → IsConversed processors tx reads (outcome_at last changes events)
    conversed_with answers = record {
      next = next;
      answers = answers;
      decided = sym (conversed-by next tx.header (recorded reads) talk last changes over_recorded is spoken.made);
      asked = ap (λ (t : Talk). t.asked) (sym over_recorded);
      alike = recorded_of (over base layers) reads spoken.of_map;
    }

  untold : {A : Type 0} → tells ≡ false → tells ≡ true → A
  untold is told = absurd (both_ways tells is told)

  -- with the processors' own function where it is told, else with one that says again what was said
  pub conversed_by_spoken : processors.tells tx.header.family_name tx.header.family_version ≡ tells
      → ((said : List Turn) → its said ≡ processors.next tx said) → ((said : List Turn) → has_own_reason (its said) ≡ true)
      → (told : Bool) → tells ≡ told → IsConversed processors tx reads (outcome_at last changes events)
  conversed_by_spoken same alike own true is =
      let told = spoken.told is in
      conversed_with its told.0 told.1 (record { reasons = own; told = λ _. alike })
  conversed_by_spoken same alike own false is =
      conversed_with (replay turns last) (replay_gives turns last) (replay_last turns last) (record {
        reasons = λ said. replay_own turns last said spoken.reasons spoken.last_reason;
        told = λ tell said. untold is (sym same ∙ tell);
      })
