-- A peer of the families sends what it may.
use Rattle.std.proofs.Common.{◌≡◌, ◌≤◌, ◌<◌, ◌+◌, ◌^◌, ◌==◌, ℕ, Bool, true, false, List, [], ◌∷◌, ◌++◌, length, Option, Some, None, refl, sym, ap, subst, ◌∙◌, arith}
use Rattle.std.specs.Prelude.{nat_lt, is_some, if◌then◌else◌}
use Rattle.std.specs.Fmt.{decimal}
use Rattle.std.proofs.lemmas.Bool.Decides.{nat_tests}
use Rattle.std.proofs.lemmas.List.{append-nil, append_assoc}
use Rattle.saw_messages.specs.declared.talk.Reply.{Reply}
use Rattle.saw_messages.specs.declared.talk.Reply.TheVariants.{Unauthorized}
use Rattle.saw_messages.specs.declared.transaction.Transaction.{Transaction}
use Rattle.saw_link.specs.Hearing.{registration}
use Rattle.saw_link.specs.LinkConversation.{Move, Answers, Begins, Refuses, Registers, AreWithin, IsAllowed, IsDue, IsWithin, Obeys, Spells, none, more, after, answer_sent, exchanged, fresh, registered, sent_before, sent_behind, welcomed}
use Rattle.saw_link.specs.SentFrames.{answer, limit_of, process_request, welcome}
use Rattle.saw_link.specs.declared.heard.Asked.{Asked}
use Rattle.saw_link.specs.declared.heard.Registration.{Registration}
use Rattle.saw_link.specs.declared.passed.Passed.{Passed}
use Rattle.saw_link.specs.declared.passed.Passed.TheVariants.{Sent, Received, Ended}
use Rattle.saw_link.specs.declared.standing.Standing.{Standing}
use Rattle.saw_station.specs.declared.offer.Offer.{Offer}
use Rattle.saw_tpside.proofs.Matching.{Match}
use Rattle.saw_tpside.proofs.Moving.{Entered, IsDueFrame, NextOf, RefusedOn, answers_next, begins_next, refuses_next, registers_next}
use Rattle.saw_tpside.proofs.StationBack.{IsSmall}
use Rattle.saw_tpside.specs.FamilyPeers.{Came, begins, hears, speaks, ends, gives_up, HasCome, family_next, taken_from}
use Rattle.saw_tpside.specs.ProcessorConversation.{AreOffers, IsVersion, after_sent, due, limit_at, starting, taken}
use Rattle.saw_tpside.specs.Understood.{IsUnderstood}
use Rattle.saw_tpside.specs.declared.serving.Serving.{Serving}

some_same : {A : Type 0} (x y : A) → Some x ≡ Some y → x ≡ y
some_same x y e = cc

-- ---- lists that end with the same

nil_snoc : {A : Type 0} (xs : List A) (x : A) → [] ≡ xs ++ x ∷ [] → ⊥
nil_snoc [] x is = absurd cc
nil_snoc (y ∷ xs) x is = absurd cc

snoc_same : {A : Type 0} (xs ys : List A) (x y : A) → xs ++ x ∷ [] ≡ ys ++ y ∷ [] → (xs ≡ ys) × (x ≡ y)
snoc_same [] [] x y is = (refl, cc)
snoc_same [] (b ∷ ys) x y is = let rest : [] ≡ ys ++ y ∷ [] = cc in absurd (nil_snoc ys y rest)
snoc_same (a ∷ xs) [] x y is = let rest : [] ≡ xs ++ x ∷ [] = cc in absurd (nil_snoc xs x rest)
snoc_same {A} (a ∷ xs) (b ∷ ys) x y is =
    let rest : xs ++ x ∷ [] ≡ ys ++ y ∷ [] = cc in
    let first : a ≡ b = cc in
    let r = snoc_same xs ys x y rest in
    (ap (λ (c : A). c ∷ xs) first ∙ ap (λ (zs : List A). b ∷ zs) r.0, r.1)

-- ---- how a peer came to stand so

pub record CameSent (start : Serving) (passed : List Passed) (frame : List ℕ) (q : Serving) : Type 0 where
  pub before : Serving
  pub came : Came start passed (Some before)
  pub took : taken before frame ≡ Some q

pub record CameReceived (start : Serving) (passed : List Passed) (frame : List ℕ) (q : Serving) : Type 0 where
  pub before : Serving
  pub came : Came start passed (Some before)
  pub says : IsDueFrame before frame
  pub is : after_sent before ≡ q

sent_from : (start : Serving) (passed : List Passed) (frame : List ℕ) (q : Serving) (before : Option Serving) → Came start passed before
    → taken_from before frame ≡ Some q → CameSent start passed frame q
sent_from start passed frame q None came is = absurd cc
sent_from start passed frame q (Some p) came is = record { before = p; came = came; took = is }

came_sent : {start : Serving} {all : List Passed} {m : Option Serving} → Came start all m → (passed : List Passed) (frame : List ℕ) (q : Serving) → m ≡ Some q
    → all ≡ passed ++ Sent frame ∷ [] → CameSent start passed frame q
came_sent begins passed frame q is all = absurd (nil_snoc passed (Sent frame) all)
came_sent {start} (hears {passed = earlier} {before} heard_it came) passed frame q is all =
    let same = snoc_same earlier passed (Sent heard_it) (Sent frame) all in
    let frame_is : heard_it ≡ frame = cc in
    sent_from start passed frame q before (subst (λ (l : List Passed). Came start l before) same.0 came)
    (ap (taken_from before) (sym frame_is) ∙ is)
came_sent (speaks {passed = earlier} said_it came due_is short understood) passed frame q is all =
    let same = snoc_same earlier passed (Received said_it) (Sent frame) all in
    let never : Received said_it ≡ Sent frame = same.1 in absurd cc
came_sent (ends {passed = earlier} came) passed frame q is all =
    let same = snoc_same earlier passed Ended (Sent frame) all in
    let never : Ended ≡ Sent frame = same.1 in absurd cc
came_sent (gives_up came) passed frame q is all = absurd cc

came_received : {start : Serving} {all : List Passed} {m : Option Serving} → Came start all m → (passed : List Passed) (frame : List ℕ) (q : Serving) → m ≡ Some q
    → all ≡ passed ++ Received frame ∷ [] → CameReceived start passed frame q
came_received begins passed frame q is all = absurd (nil_snoc passed (Received frame) all)
came_received (hears {passed = earlier} heard_it came) passed frame q is all =
    let same = snoc_same earlier passed (Sent heard_it) (Received frame) all in
    let never : Sent heard_it ≡ Received frame = same.1 in absurd cc
came_received {start} (speaks {passed = earlier} {p} said_it came due_is short understood) passed frame q is all =
    let same = snoc_same earlier passed (Received said_it) (Received frame) all in
    let frame_is : said_it ≡ frame = cc in
    record {
      before = p;
      came = subst (λ (l : List Passed). Came start l (Some p)) same.0 came;
      says = subst (IsDueFrame p) frame_is (record { due_is = due_is; short = short; understood = understood });
      is = some_same (after_sent p) q is;
    }
came_received (ends {passed = earlier} came) passed frame q is all =
    let same = snoc_same earlier passed Ended (Received frame) all in
    let never : Ended ≡ Received frame = same.1 in absurd cc
came_received (gives_up came) passed frame q is all = absurd cc

came_nil : {start : Serving} {all : List Passed} {m : Option Serving} → Came start all m → (q : Serving) → m ≡ Some q → all ≡ [] → start ≡ q
came_nil {start} begins q is all = some_same start q is
came_nil (hears {passed = earlier} heard_it came) q is all = absurd (nil_snoc earlier (Sent heard_it) (sym all))
came_nil (speaks {passed = earlier} said_it came due_is short understood) q is all = absurd (nil_snoc earlier (Received said_it) (sym all))
came_nil (ends {passed = earlier} came) q is all = absurd (nil_snoc earlier Ended (sym all))
came_nil (gives_up came) q is all = absurd cc

-- ---- what stands in front

limit_small : (version : ℕ) → limit_of version < 2 ^ 64
limit_small version = elim (version == 2) as (λ two. (if two then 8388608 else 1048576) < 2 ^ 64) [ true ↦ omega arith | false ↦ omega arith ]

small_by : (version : ℕ) (frame : List ℕ) (sent : List Passed) → sent ≡ Sent frame ∷ [] → AreWithin (limit_of version) sent → IsSmall frame
small_by version frame sent is within =
    let short : length frame ≤ limit_of version = (subst (AreWithin (limit_of version)) is within).0 in
    let l = limit_small version in
    omega (arith, short, l)

waiting : (found : Option Asked) → is_some found ≡ true → (asked : Asked) × (found ≡ Some asked)
waiting None is = absurd cc
waiting (Some asked) is = (asked, refl)

read_of : (s next : Standing) (found : Option Registration) → registered s found ≡ Some next → (r : Registration) × (found ≡ Some r)
read_of s next None is = absurd cc
read_of s next (Some r) is = (r, refl)

registered_of : (s next : Standing) (frame : List ℕ) → after s Registers frame ≡ Some next → registered s (registration (limit_of s.version) frame) ≡ Some next
unfolding after
registered_of s next frame legal = legal

two_last : {A : Type 0} (xs : List A) (x y : A) → xs ++ x ∷ y ∷ [] ≡ (xs ++ x ∷ []) ++ y ∷ []
two_last xs x y = sym (append_assoc xs (x ∷ []) (y ∷ []))

module _ (start : Serving) (at_start : Match start fresh) where
  behind : (passed : List Passed) (s : Standing) (agree : (q : Serving) → Came start passed (Some q) → Match q s) (move : Move) (frame : List ℕ) (next : Standing)
      (q : Serving) → IsDue s move → after s move frame ≡ Some next → IsWithin s move frame next
      → Came start (passed ++ exchanged s move frame next) (Some q) → Match q next
  behind passed s agree Registers frame next q due_it legal within came =
      let found = read_of s next (registration (limit_of s.version) frame) (registered_of s next frame legal) in
      let sent = welcome next.version found.0.correlation in
      let behind_is : sent_behind s Registers frame next ≡ Sent sent ∷ [] = ap (welcomed next.version) found.1 in
      let all : passed ++ exchanged s Registers frame next ≡ (passed ++ Received frame ∷ []) ++ Sent sent ∷ [] =
      ap (λ (l : List Passed). passed ++ Received frame ∷ l) behind_is ∙ two_last passed (Received frame) (Sent sent) in
      let second = came_sent came (passed ++ Received frame ∷ []) sent q refl all in
      let first = came_received second.came passed frame second.before refl refl in
      let e = registers_next first.before s frame (agree first.before first.came) due_it first.says in
      let found_is : e.found ≡ found.0 = some_same e.found found.0 (sym e.is ∙ found.1) in
      let next_is : e.next ≡ next = some_same e.next next (sym e.legal ∙ legal) in
      let took : taken (after_sent first.before) sent ≡ Some q = ap (λ (x : Serving). taken x sent) first.is ∙ second.took in
      let small : IsSmall sent = small_by s.version sent (sent_behind s Registers frame next) behind_is within.1 in
      let sent_is : welcome e.next.version e.found.correlation ≡ sent = ap (λ (r : Registration). welcome e.next.version r.correlation) found_is
      ∙ ap (λ (t : Standing). welcome t.version found.0.correlation) next_is in
      subst (Match q) next_is (e.match q (subst IsSmall (sym sent_is) small) (ap (taken (after_sent first.before)) sent_is ∙ took))
  behind passed s agree (Begins tx) frame next q due_it legal within came =
      let sent = process_request s.version (decimal (s.count + 1)) tx in
      let second = came_received came (passed ++ Sent sent ∷ []) frame q refl (two_last passed (Sent sent) (Received frame)) in
      let first = came_sent second.came passed sent second.before refl refl in
      let n = begins_next first.before s tx frame second.before (agree first.before first.came) due_it.0 due_it.1 (small_by s.version sent _ refl within.0) first.took second.says in
      let next_is : n.next ≡ next = some_same n.next next (sym n.legal ∙ legal) in
      subst (Match q) next_is (subst (λ (x : Serving). Match x n.next) second.is n.match)
  behind passed s agree (Answers reply) frame next q due_it legal within came =
      let asked = waiting s.asked due_it.1 in
      let sent = answer asked.0 reply in
      let before_is : sent_before s (Answers reply) ≡ Sent sent ∷ [] = ap (λ (found : Option Asked). answer_sent found reply) asked.1 in
      let all : passed ++ exchanged s (Answers reply) frame next ≡ (passed ++ Sent sent ∷ []) ++ Received frame ∷ [] =
      ap (λ (l : List Passed). passed ++ (l ++ Received frame ∷ [])) before_is ∙ two_last passed (Sent sent) (Received frame) in
      let second = came_received came (passed ++ Sent sent ∷ []) frame q refl all in
      let first = came_sent second.came passed sent second.before refl refl in
      let n = answers_next first.before s reply asked.0 frame second.before (agree first.before first.came) due_it.0 asked.1 due_it.2
      (small_by s.version sent _ before_is within.0) first.took second.says in
      let next_is : n.next ≡ next = some_same n.next next (sym n.legal ∙ legal) in
      subst (Match q) next_is (subst (λ (x : Serving). Match x n.next) second.is n.match)
  behind passed s agree Refuses frame next q due_it legal within came =
      let asked = waiting s.asked due_it in
      let sent = answer asked.0 (Unauthorized 0) in
      let before_is : sent_before s Refuses ≡ Sent sent ∷ [] = ap (λ (found : Option Asked). answer_sent found (Unauthorized 0)) asked.1 in
      let all : passed ++ exchanged s Refuses frame next ≡ (passed ++ Sent sent ∷ []) ++ Received frame ∷ [] =
      ap (λ (l : List Passed). passed ++ (l ++ Received frame ∷ [])) before_is ∙ two_last passed (Sent sent) (Received frame) in
      let second = came_received came (passed ++ Sent sent ∷ []) frame q refl all in
      let first = came_sent second.came passed sent second.before refl refl in
      let n = refuses_next first.before s asked.0 frame second.before (agree first.before first.came) asked.1
      (small_by s.version sent _ before_is within.0) first.took second.says in
      subst (λ (x : Serving). Match x next) second.is (n.match next legal)

  matches : {moves : List Move} {passed : List Passed} {s : Standing} → Spells fresh moves passed s → (q : Serving) → Came start passed (Some q) → Match q s
  matches none q came = subst (λ (x : Serving). Match x fresh) (came_nil came q refl refl) at_start
  matches (more {moves} {passed} {before} move frame next spelled due_it legal within) q came =
      behind passed before (matches spelled) move frame next q due_it legal within came

  allowed : (told passed : List Passed) (s : Standing) (move : Move) (frame : List ℕ) (q : Serving) → ((p : Serving) → Came start passed (Some p) → Match p s)
      → IsDue s move → AreWithin (limit_of s.version) (sent_before s move) → told ≡ passed ++ sent_before s move → Came start told (Some q) → IsDueFrame q frame
      → IsAllowed family_next s move frame
  allowed told passed s Registers frame q agree due_it within all came says =
      let e = registers_next q s frame (agree q (subst (λ (l : List Passed). Came start l (Some q)) (all ∙ append-nil passed) came)) due_it says in
      λ is. let never : Some e.next ≡ None = sym e.legal ∙ is in absurd cc
  allowed told passed s (Begins tx) frame q agree due_it within all came says =
      let sent = process_request s.version (decimal (s.count + 1)) tx in
      let first = came_sent came passed sent q refl all in
      let n = begins_next first.before s tx frame q (agree first.before first.came) due_it.0 due_it.1 (small_by s.version sent _ refl within) first.took says in
      record { then_it = n.next; legal = n.legal; acts = n.acts }
  allowed told passed s (Answers reply) frame q agree due_it within all came says =
      let asked = waiting s.asked due_it.1 in
      let sent = answer asked.0 reply in
      let before_is : sent_before s (Answers reply) ≡ Sent sent ∷ [] = ap (λ (found : Option Asked). answer_sent found reply) asked.1 in
      let first = came_sent came passed sent q refl (all ∙ ap (λ (l : List Passed). passed ++ l) before_is) in
      let n = answers_next first.before s reply asked.0 frame q (agree first.before first.came) due_it.0 asked.1 due_it.2
      (small_by s.version sent _ before_is within) first.took says in
      record { then_it = n.next; legal = n.legal; acts = n.acts }
  allowed told passed s Refuses frame q agree due_it within all came says =
      let asked = waiting s.asked due_it in
      let sent = answer asked.0 (Unauthorized 0) in
      let before_is : sent_before s Refuses ≡ Sent sent ∷ [] = ap (λ (found : Option Asked). answer_sent found (Unauthorized 0)) asked.1 in
      let first = came_sent came passed sent q refl (all ∙ ap (λ (l : List Passed). passed ++ l) before_is) in
      (refuses_next first.before s asked.0 frame q (agree first.before first.came) asked.1 (small_by s.version sent _ before_is within) first.took says).legal

starts : (offers : List Offer) (asked : ℕ) → AreOffers offers → IsVersion asked → Match (starting offers asked) fresh
starts offers asked are is = record {
  agrees = record {
    version = refl;
    asks = is;
    registered = refl;
    more = let some = are.some in grind (arith, nat_tests);
    some = are.some;
    few = are.few;
  };
  talk = record { asked = refl; waits = refl; count = refl };
}

-- what a peer says is what it may
pub obeys : (told : List Passed) (q : Serving) (frame : List ℕ) → HasCome told (Some q) → IsDueFrame q frame → Obeys family_next (Some told) frame
obeys told q frame has says moves passed s move spelled due_it within is =
    let start = starting has.offers has.asked in
    let at_start = starts has.offers has.asked has.are has.is in
    allowed start at_start told passed s move frame q (matches start at_start spelled) due_it within (some_same told (passed ++ sent_before s move) is) has.came says
