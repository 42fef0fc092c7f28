-- What a transaction and a batch of a generated stream do.
use Rattle.std.proofs.Common.{◌≡◌, ℕ, zero, suc, ◌+◌, ◌%◌, ◌<◌, ◌≤◌, ◌==◌, ◌&&◌, ◌||◌, Bool, true, false, cond, eqb, nat_lt}
use Rattle.std.proofs.Common.{List, [], ◌∷◌, refl, sym, ap, ap₂, subst, ◌∙◌, arith}
use Rattle.std.specs.Str.{bytes_eq}
use Rattle.std.proofs.lemmas.Bool.{and_parts, cond-false, eqb-true, false_from_ne_true, le-ltb, lt-ltb, ne_eqb}
use Rattle.std.proofs.lemmas.Bool.Decides.{nat_tests}
use Rattle.std.specs.Cmp.Lexicographic.{nat_list_eq_equiv}
use Rattle.saw_address.specs.Maps.{StateMap}
use Rattle.saw_messages.specs.TxShapes.{TxShape}
use Rattle.saw_messages.specs.declared.outcome.Change.{Change}
use Rattle.saw_messages.specs.declared.outcome.Outcome.{Outcome}
use Rattle.saw_messages.specs.declared.outcome.Outcome.TheVariants as outcomes
use Rattle.saw_messages.specs.declared.receipt.Event.{Event}
use Rattle.saw_context.specs.Outcome.{map_after, outcome_of}
use Rattle.saw_context.specs.Serial.{batch_result, behind, goes_on, map_after_all, names_one}
use Rattle.saw_context.specs.declared.batch_result.BatchResult.TheVariants.{Applied}
use Rattle.saw_station.specs.Serving.{alone}
use Rattle.saw_intkey.specs.Actions.{address_of}
use Rattle.saw_intkey.specs.Payloads.{max_value}
use Rattle.saw_intkey.specs.States.{kept_bytes, with_value_at}
use Rattle.saw_intkey.specs.declared.payload.Payload.{Payload}
use Rattle.saw_generate.specs.Draws.{draw_at}
use Rattle.saw_generate.proofs.Shapes.{IsBatch, IsFor}
use Rattle.saw_generate.specs.declared.wish.GenerateWish.{GenerateWish}
use Rattle.saw_generate.specs.Operations.{add_to, added_by, draws_before, hot, name_at, second_by, second_of, set_to}
use Rattle.saw_generate.proofs.Books.{Holds, holds_alike, holds_later, holds_with, named}
use Rattle.saw_generate.proofs.Entries.{IsName, Makes, adds, fine-with, most_changes, payload_is, sets, there_already}
use Rattle.saw_generate.proofs.Exchange.{only_change}
use Rattle.saw_generate.proofs.Names.{hot_is_name, name_at_is_name, names_at}
use Rattle.saw_generate.proofs.Outcomes.{none_named, outcome_is}

-- ---- a transaction and a batch that come through

-- a transaction that is Ok, and leaves such a map
pub record Goes (Q : StateMap → Type 0) (tx : TxShape) (m : StateMap) : Type 0 where
  pub changes : List Change
  pub events : List Event
  pub is : outcome_of (alone []) tx m (names_one tx []) ≡ outcomes.Ok changes events
  pub left : Q (map_after m changes)

-- a batch that applies, and leaves such a map
pub record Applies (Q : StateMap → Type 0) (txs : List TxShape) (m : StateMap) : Type 0 where
  pub each : List Outcome
  pub is : batch_result (alone []) [] m txs ≡ Applied each
  pub left : Q (map_after_all m each)

goes_to : (Q R : StateMap → Type 0) (tx : TxShape) (m : StateMap) → ((n : StateMap) → Q n → R n) → Goes Q tx m → Goes R tx m
goes_to Q R tx m more goes = record { changes = goes.changes; events = goes.events; is = goes.is; left = more (map_after m goes.changes) goes.left }

both_go : (Q R : StateMap → Type 0) (first second : TxShape) (m : StateMap) → Goes Q first m → ((n : StateMap) → Q n → Goes R second n)
    → Applies R (first ∷ second ∷ []) m
both_go Q R first second m goes later =
    let n = map_after m goes.changes in
    let second_goes = later n goes.left in
    record {
      each = outcomes.Ok goes.changes goes.events ∷ outcomes.Ok second_goes.changes second_goes.events ∷ [];
      is =
          ap (λ o. goes_on o (λ changes. batch_result (alone []) [] (map_after m changes) (second ∷ []))) goes.is
          ∙ ap (λ o. behind (outcomes.Ok goes.changes goes.events) (goes_on o (λ changes. Applied []))) second_goes.is;
      left = second_goes.left;
    }

-- ---- a transaction

-- one that changes its name
changes_go : (here : List ℕ → Bool) (c d : ℕ) (m : StateMap) (payload : Payload) (tx : TxShape) (holds : Holds here c m) → IsFor payload tx
    → IsName payload.name → payload.value ≤ max_value → c < d → d ≤ most_changes → Makes payload (named holds.book payload.name) d
    → Goes (Holds (λ other. bytes_eq payload.name other || here other) d) tx m
changes_go here c d m payload tx holds meant is fits less few makes =
    let names = named holds.book payload.name in
    let new = with_value_at payload.name makes.value names in
    record {
      changes = only_change (address_of payload.name) (kept_bytes new);
      events = [];
      is =
          outcome_is payload tx m (names_one tx []) names new meant (payload_is payload is fits) (none_named payload tx meant [])
          (holds.keeps.reads (address_of payload.name)) makes.is;
      left =
          holds_with here c d m payload.name makes.value holds is less few
          (fine-with c d payload.name makes.value names less is makes.low (holds.keeps.fine (address_of payload.name)));
    }

-- one that sets a name that is not there
sets_go : (here : List ℕ → Bool) (c : ℕ) (m : StateMap) (name : List ℕ) (value : ℕ) (tx : TxShape) → Holds here c m → IsFor (set_to name value) tx
    → IsName name → value ≤ 999 → c + 1 ≤ most_changes → here name ≡ false → Goes (Holds (λ other. bytes_eq name other || here other) (c + 1)) tx m
sets_go here c m name value tx holds meant is small few absent =
    changes_go here c (c + 1) m (set_to name value) tx holds meant is (omega arith) (omega arith) few
    (sets name value (named holds.book name) (c + 1) (holds.there name ∙ absent) small)

-- one that adds to a name that is there
adds_go : (here : List ℕ → Bool) (c : ℕ) (m : StateMap) (name : List ℕ) (value : ℕ) (tx : TxShape) → Holds here c m → IsFor (add_to name value) tx
    → IsName name → value ≤ 10 → c + 1 ≤ most_changes → here name ≡ true → Goes (Holds here (c + 1)) tx m
adds_go here c m name value tx holds meant is small few present =
    goes_to (Holds (λ other. bytes_eq name other || here other) (c + 1)) (Holds here (c + 1)) tx m
    (λ n left. holds_alike (λ other. bytes_eq name other || here other) here (c + 1) n (λ other. there_already here name other present) left)
    (changes_go here c (c + 1) m (add_to name value) tx holds meant is (omega arith) (omega arith) few
    (adds c (c + 1) name value (named holds.book name) (holds.there name ∙ present) (holds.keeps.fine (address_of name)) small (omega arith) few))

-- the second one of a batch, where it adds
added_goes : (here : List ℕ → Bool) (c : ℕ) (m : StateMap) (k : ℕ) (tx : TxShape) (b : Bool) → Holds here c m
    → IsFor (cond b (add_to hot 1) (add_to (name_at k) 1)) tx → k < 5000 → c + 1 ≤ most_changes → here hot ≡ true → here (name_at k) ≡ true
    → Goes (Holds here (c + 1)) tx m
added_goes here c m k tx true holds meant low few hot_here here_too = adds_go here c m hot 1 tx holds meant hot_is_name (omega arith) few hot_here
added_goes here c m k tx false holds meant low few hot_here here_too =
    adds_go here c m (name_at k) 1 tx holds meant (name_at_is_name k low) (omega arith) few here_too

second_is_added : (conflicts b k q : ℕ) → (b ≡ 0 → k ≡ 0 → ⊥) → second_by conflicts b k q ≡ added_by conflicts k q
second_is_added conflicts b k q later =
    cond-false (b == 0 && k == 0) (set_to hot 0) (added_by conflicts k q)
    (false_from_ne_true (b == 0 && k == 0)
    (λ e. let parts = and_parts (b == 0) (k == 0) e in later (eqb-true b 0 parts.0) (eqb-true k 0 parts.1)))

-- ---- which names are there

-- the names of so many places, and with them the one for conflicts
pub record IsAt (k c : ℕ) (m : StateMap) : Type 0 where
  pub here : List ℕ → Bool
  pub holds : Holds here c m
  pub own : (j : ℕ) → j < 5000 → here (name_at j) ≡ nat_lt j k
  pub hot_is : here hot ≡ nat_lt 0 k

pub at_later : (k c d : ℕ) (m : StateMap) → c ≤ d → IsAt k c m → IsAt k d m
at_later k c d m later at = record { here = at.here; holds = holds_later at.here c d m later at.holds; own = at.own; hot_is = at.hot_is }

one_place_more : (k j : ℕ) → (eqb k j || nat_lt j k) ≡ nat_lt j (k + 1)
one_place_more k j = grind (arith, nat_tests)

-- the places after a name is set
own_more : (here : List ℕ → Bool) (k j : ℕ) → k < 5000 → j < 5000 → here (name_at j) ≡ nat_lt j k
    → (bytes_eq (name_at k) (name_at j) || here (name_at j)) ≡ nat_lt j (k + 1)
own_more here k j low small was = ap₂ ◌||◌ (names_at k j low small) was ∙ one_place_more k j

itself_there : (here : List ℕ → Bool) (k : ℕ) → (bytes_eq (name_at k) (name_at k) || here (name_at k)) ≡ true
itself_there here k = ap (λ b. b || here (name_at k)) (nat_list_eq_equiv.refl (name_at k))

-- ---- a batch

module _ (wish : GenerateWish) (m : StateMap) (c : ℕ) (few : c + 2 ≤ most_changes) where
  -- the second transaction of the first block, after the first one
  abbrev with_own : (List ℕ → Bool) → ℕ → List ℕ → Bool
  with_own here k other = bytes_eq (name_at k) other || here other

  start_second : (k : ℕ) (at : IsAt k c m) (tx : TxShape) (n : StateMap) → k < 5000 → IsFor (second_of wish 0 k) tx
      → Holds (with_own at.here k) (c + 1) n → Goes (IsAt (k + 1) (c + 2)) tx n
  start_second zero at tx n low meant holds =
      goes_to (Holds (λ other. bytes_eq hot other || with_own at.here 0 other) ((c + 1) + 1)) (IsAt 1 (c + 2)) tx n
      (λ after left. record {
        here = λ other. bytes_eq hot other || with_own at.here 0 other;
        holds = holds_later (λ other. bytes_eq hot other || with_own at.here 0 other) ((c + 1) + 1) (c + 2) after (omega arith) left;
        own = λ j small. own_more at.here 0 j low small (at.own j small);
        hot_is = refl;
      })
      (sets_go (with_own at.here 0) (c + 1) n hot 0 tx holds meant hot_is_name (omega arith) (omega arith) at.hot_is)
  start_second (suc k) at tx n low meant holds =
      let there : with_own at.here (suc k) hot ≡ true = at.hot_is ∙ lt-ltb 0 (suc k) (omega arith) in
      let q = draw_at wish.start (draws_before wish 0 (suc k) + 1) in
      let adds_to : IsFor (added_by wish.conflicts (suc k) q) tx =
      subst (λ (payload : Payload). IsFor payload tx) (second_is_added wish.conflicts 0 (suc k) q (λ z s. omega arith)) meant in
      goes_to (Holds (with_own at.here (suc k)) ((c + 1) + 1)) (IsAt (suc k + 1) (c + 2)) tx n
      (λ after left. record {
        here = with_own at.here (suc k);
        holds = holds_later (with_own at.here (suc k)) ((c + 1) + 1) (c + 2) after (omega arith) left;
        own = λ j small. own_more at.here (suc k) j low small (at.own j small);
        hot_is = there ∙ sym (lt-ltb 0 (suc k + 1) (omega arith));
      })
      (added_goes (with_own at.here (suc k)) (c + 1) n (suc k) tx (nat_lt (q % 100) wish.conflicts) holds
      adds_to low (omega arith) there (itself_there at.here (suc k)))

  -- a batch of the first block
  start_applies : (k : ℕ) (txs : List TxShape) → k < 5000 → IsBatch wish 0 k txs → IsAt k c m → Applies (IsAt (k + 1) (c + 2)) txs m
  start_applies k txs low batch at =
      let p = draw_at wish.start (draws_before wish 0 k) in
      subst (λ (txs : List TxShape). Applies (IsAt (k + 1) (c + 2)) txs m) (sym batch.both)
      (both_go (Holds (with_own at.here k) (c + 1)) (IsAt (k + 1) (c + 2)) batch.first batch.second m
      (sets_go at.here c m (name_at k) (p % 1000) batch.first at.holds batch.sets (name_at_is_name k low) (omega arith) (omega arith)
      (at.own k low ∙ le-ltb k k (omega arith)))
      (λ n holds. start_second k at batch.second n low batch.adds holds))

  -- a batch of a later block
  later_applies : (b k places : ℕ) (txs : List TxShape) → (b ≡ 0 → ⊥) → k < places → places ≤ 5000 → IsBatch wish b k txs → IsAt places c m
      → Applies (IsAt places (c + 2)) txs m
  later_applies b k places txs later less low batch at =
      let p = draw_at wish.start (draws_before wish b k) in
      let q = draw_at wish.start (draws_before wish b k + 1) in
      let hot_here : at.here hot ≡ true = at.hot_is ∙ lt-ltb 0 places (omega arith) in
      let own_here : at.here (name_at k) ≡ true = at.own k (omega arith) ∙ lt-ltb k places less in
      let adds_first : IsFor (add_to (name_at k) (p % 10)) batch.first =
      subst (λ (payload : Payload). IsFor payload batch.first)
      (cond-false (b == 0) (set_to (name_at k) (p % 1000)) (add_to (name_at k) (p % 10)) (ne_eqb b 0 later)) batch.sets in
      let adds_second : IsFor (added_by wish.conflicts k q) batch.second =
      subst (λ (payload : Payload). IsFor payload batch.second) (second_is_added wish.conflicts b k q (λ z s. later z)) batch.adds in
      subst (λ (txs : List TxShape). Applies (IsAt places (c + 2)) txs m) (sym batch.both)
      (both_go (Holds at.here (c + 1)) (IsAt places (c + 2)) batch.first batch.second m
      (adds_go at.here c m (name_at k) (p % 10) batch.first at.holds adds_first (name_at_is_name k (omega arith)) (omega arith) (omega arith) own_here)
      (λ n holds.
      goes_to (Holds at.here ((c + 1) + 1)) (IsAt places (c + 2)) batch.second n
      (λ after left. record {
        here = at.here;
        holds = holds_later at.here ((c + 1) + 1) (c + 2) after (omega arith) left;
        own = at.own;
        hot_is = at.hot_is;
      })
      (added_goes at.here (c + 1) n k batch.second (nat_lt (q % 100) wish.conflicts) holds adds_second (omega arith) (omega arith) hot_here own_here)))

-- ---- any batch

-- the places whose names are there after so many batches of a block, of so many in each
abbrev pub places_at : ℕ → ℕ → ℕ → ℕ
places_at batches zero k = k
places_at batches (suc b) k = batches

pub batch_applies : (wish : GenerateWish) (m : StateMap) (c b k : ℕ) (txs : List TxShape) → c + 2 ≤ most_changes → k < wish.batches → wish.batches ≤ 5000
    → IsBatch wish b k txs → IsAt (places_at wish.batches b k) c m → Applies (IsAt (places_at wish.batches b (k + 1)) (c + 2)) txs m
batch_applies wish m c zero k txs few less low batch at = start_applies wish m c few k txs (omega arith) batch at
batch_applies wish m c (suc b) k txs few less low batch at = later_applies wish m c few (suc b) k wish.batches txs (λ z. omega arith) less low batch at
