-- What lies below the bytes of a node, for a map.
use Rattle.std.proofs.Common.{◌≡◌, ◌≢◌, ℕ, zero, suc, ◌+◌, ◌<◌, ◌≤◌, Bool, true, false, cond, List, [], ◌∷◌, ◌++◌, map, refl, sym, ap, ◌∙◌, subst, arith, nat_eq, Option, Some, None, inl, inr}
use Rattle.std.specs.Prelude.{is_some}
use Rattle.std.specs.Option.{option_map}
use Rattle.std.specs.List.{filter, range_with_len}
use Rattle.std.proofs.lemmas.Bool.{cases_Bool, cases_eq, both_ways, eq-eqb, ne_eqb, false_from_ne_true}
use Rattle.saw_address.specs.Maps.{Entries}
use Rattle.saw_node.specs.Nodes.{encoding_of}
use Rattle.saw_node.specs.Trees.{has_under, next_bytes, all_bytes, node_at}
use Rattle.saw_runs.proofs.Local.{Agree, has_under-Agree, has_under-shorter, node_at-Agree}
use Rattle.saw_runs.specs.Entries.{Entry, IsRead}
use Rattle.saw_runs.specs.Entries.Entry.{OfNode}
use Rattle.saw_runs.specs.Told.{hash_at, IsTold, IsToldBy}
use Rattle.saw_runs.specs.Tables.{with_at}
use Rattle.saw_runs.specs.Lowers.{AreFor, AreKidsOf, IsFor, IsOpened, Reads, Stands, children_read, held_pair, kid_pair}
use Rattle.saw_runs.specs.declared.run.Run.{Run}
use Rattle.saw_runs.specs.declared.lowers.Lower.{Lower}
use Rattle.saw_runs.specs.declared.lowers.Lower.TheVariants.{Held, Made}
use Rattle.saw_runs.specs.declared.lowers.Kid.{Kid}
use Rattle.saw_runs.proofs.Tabled.{table_none, table_one, table-filter}
use Rattle.saw_runs.proofs.Telling.{IsTold-more, IsTold-Agree, IsToldBy-Agree}

-- ---- bytes that pass a test

pub filter_none : (t : ℕ → Bool) (a n : ℕ) → filter t (range_with_len a n) ≡ [] → (b : ℕ) → a ≤ b → b < a + n → t b ≡ false
filter_none t a zero none b low high = absurd (omega (arith, low, high))
filter_none t a (suc n) none b low high =
    let below : filter t (range_with_len (a + 1) n) ≡ [] → a ≢ b → t b ≡ false = λ h apart. filter_none t (a + 1) n h b (omega (arith, low, apart)) (omega (arith, high)) in
    elim (t a) as (λ v. t a ≡ v → cond v (a ∷ filter t (range_with_len (a + 1) n)) (filter t (range_with_len (a + 1) n)) ≡ [] → t b ≡ false) [
      | true ↦ λ e h. absurd cc
      | false ↦ λ e h. elim (cases_eq a b) [
        | inl same ↦ ap t (sym same) ∙ e
        | inr apart ↦ below h apart
      ]
    ] refl none

-- the first of them
pub filter_first : (t : ℕ → Bool) (a n c : ℕ) (cs : List ℕ) → filter t (range_with_len a n) ≡ c ∷ cs → (a ≤ c) × (c < a + n) × (t c ≡ true)
filter_first t a zero c cs is = absurd cc
filter_first t a (suc n) c cs is =
    let rest : filter t (range_with_len (a + 1) n) ≡ c ∷ cs → (a + 1 ≤ c) × (c < a + 1 + n) × (t c ≡ true) = filter_first t (a + 1) n c cs in
    elim (t a) as (λ v. t a ≡ v → cond v (a ∷ filter t (range_with_len (a + 1) n)) (filter t (range_with_len (a + 1) n)) ≡ c ∷ cs → (a ≤ c) × (c < a + suc n) × (t c ≡ true)) [
      | true ↦ λ e h. let same : a ≡ c = head_is h in (omega (arith, same), omega (arith, same), ap t (sym same) ∙ e)
      | false ↦ λ e h. let r = rest h in let low = r.0 in let high = r.1 in (omega (arith, low), omega (arith, high), r.2)
    ] refl is
  where
    head_is : {x y : ℕ} {xs ys : List ℕ} → x ∷ xs ≡ y ∷ ys → x ≡ y
    head_is e = cc

-- the only one
pub filter_only : (t : ℕ → Bool) (a n c : ℕ) → filter t (range_with_len a n) ≡ c ∷ [] → (b : ℕ) → a ≤ b → b < a + n → b ≢ c → t b ≡ false
filter_only t a zero c is b low high other = absurd (omega (arith, low, high))
filter_only t a (suc n) c is b low high other =
    let below : filter t (range_with_len (a + 1) n) ≡ c ∷ [] → a ≢ b → t b ≡ false = λ h apart. filter_only t (a + 1) n c h b (omega (arith, low, apart)) (omega (arith, high)) other in
    elim (t a) as (λ v. t a ≡ v → cond v (a ∷ filter t (range_with_len (a + 1) n)) (filter t (range_with_len (a + 1) n)) ≡ c ∷ [] → t b ≡ false) [
      | true ↦ λ e h.
          let same : a ≡ c = head_is h in
          filter_none t (a + 1) n (tail_is h) b (omega (arith, low, other, same)) (omega (arith, high))
      | false ↦ λ e h. elim (cases_eq a b) [
        | inl equal ↦ ap t (sym equal) ∙ e
        | inr apart ↦ below h apart
      ]
    ] refl is
  where
    head_is : {x y : ℕ} {xs ys : List ℕ} → x ∷ xs ≡ y ∷ ys → x ≡ y
    head_is e = cc

    tail_is : {x y : ℕ} {xs ys : List ℕ} → x ∷ xs ≡ y ∷ ys → xs ≡ ys
    tail_is e = cc

-- of the bytes behind a place
module _ (es : Entries) (place : List ℕ) (c : ℕ) (cs : List ℕ) where
  pub next_first : next_bytes es place ≡ c ∷ cs → (c < 256) × (has_under es (place ++ c ∷ []) ≡ true)
  unfolding all_bytes
  next_first is = let first = filter_first (λ b. has_under es (place ++ b ∷ [])) 0 256 c cs is in let high = first.1 in (omega (arith, high), first.2)

pub next_only : (es : Entries) (place : List ℕ) (c : ℕ) → next_bytes es place ≡ c ∷ [] → (b : ℕ) → b < 256 → b ≢ c → has_under es (place ++ b ∷ []) ≡ false
unfolding all_bytes
next_only es place c is b lt other = filter_only (λ b. has_under es (place ++ b ∷ [])) 0 256 c is b (omega arith) (omega (arith, lt)) other

-- ---- what lies below a byte

module _ (hash : List ℕ → List ℕ) where
  pub for_more : (Old R S : List ℕ → Entry → Type 0) → ((h : List ℕ) (e : Entry) → R h e → S h e) → (es : Entries) (levels : ℕ) (place : List ℕ)
      (o : Option Lower) → IsFor hash Old R es levels place o → IsFor hash Old S es levels place o
  for_more Old R S more es levels place None f = f
  for_more Old R S more es levels place (Some (Held h)) f = f
  for_more Old R S more es levels place (Some (Made run)) f = (f.0, IsTold-more hash R S more es levels place run.path.items run.bottom f.1)

  pub for_Agree : (Old R : List ℕ → Entry → Type 0) (es fs : Entries) (levels : ℕ) (place : List ℕ) (o : Option Lower) → Agree es fs place
      → IsFor hash Old R es levels place o → IsFor hash Old R fs levels place o
  for_Agree Old R es fs levels place None same f = sym (has_under-Agree es fs place same) ∙ f
  for_Agree Old R es fs levels place (Some (Held h)) same f = (
    sym (has_under-Agree es fs place same) ∙ f.0,
    f.1 ∙ ap (λ s. hash (encoding_of s)) (node_at-Agree hash es fs levels place same),
    IsToldBy-Agree hash Old es fs levels place h same f.2,
  )
  for_Agree Old R es fs levels place (Some (Made run)) same f =
      (sym (has_under-Agree es fs place same) ∙ f.0, IsTold-Agree hash R es fs levels place run.path.items run.bottom same f.1)

  -- what an answer stands for
  pub for_answer : (Old R : List ℕ → Entry → Type 0) (es : Entries) (levels : ℕ) (place : List ℕ) (answer : Option Run)
      → Stands hash R es levels place answer → IsFor hash Old R es levels place (option_map Made answer)
  for_answer Old R es levels place None s = s
  for_answer Old R es levels place (Some run) s = s

  -- whether something lies there
  pub for_some : (Old R : List ℕ → Entry → Type 0) (es : Entries) (levels : ℕ) (place : List ℕ) (o : Option Lower) → IsFor hash Old R es levels place o
      → is_some o ≡ has_under es place
  for_some Old R es levels place None f = sym f
  for_some Old R es levels place (Some (Held h)) f = sym f.0
  for_some Old R es levels place (Some (Made run)) f = sym f.0

  -- the node under a run's bottom
  pub told_node : (R : List ℕ → Entry → Type 0) (es : Entries) (levels : ℕ) (place h : List ℕ) → IsTold hash R es levels place [] h
      → R h (OfNode (node_at hash es levels place))
  unfolding IsTold
  told_node R es zero place h t = t.1
  told_node R es (suc levels) place h t = t.1

  reads_is : (R : List ℕ → Entry → Type 0) (es : Entries) (levels : ℕ) (place path p b : List ℕ) (bottom : Option (List ℕ)) → (path ≡ p) × (bottom ≡ Some b)
      → IsTold hash R es levels place p b → Reads hash R es levels place path bottom
  reads_is R es levels place path p b bottom is told =
      subst (λ o. Reads hash R es levels place path o) (sym is.1) (subst (λ q. IsTold hash R es levels place q b) (sym is.0) told)

  -- what is kept under a hash is read
  pub held_reads : (read : List ℕ → Option Entry) (es : Entries) (levels : ℕ) (place h path : List ℕ) (bottom : Option (List ℕ))
      → IsOpened read (Some (Held h)) path bottom → IsToldBy hash (IsRead read) es levels place h → Reads hash (IsRead read) es levels place path bottom
  held_reads read es levels place h path bottom opens told = elim told [
    | inl node ↦ reads_is (IsRead read) es levels place path [] h bottom (opens.node h _ refl (told_node (IsRead read) es levels place h node)) node
    | inr run ↦ reads_is (IsRead read) es levels place path (run.0 ∷ run.1) run.2 bottom (opens.run h (run.0 ∷ run.1) run.2 refl run.3) run.4
  ]

  -- what is opened is read
  pub opened_reads : (read : List ℕ → Option Entry) (es : Entries) (levels : ℕ) (place : List ℕ) (o : Option Lower) (path : List ℕ) (bottom : Option (List ℕ))
      → IsOpened read o path bottom → IsFor hash (IsRead read) (IsRead read) es levels place o → Reads hash (IsRead read) es levels place path bottom
  opened_reads read es levels place None path bottom opens f = subst (λ o. Reads hash (IsRead read) es levels place path o) (sym (opens.none refl)) f
  opened_reads read es levels place (Some (Made run)) path bottom opens f =
      reads_is (IsRead read) es levels place path run.path.items run.bottom bottom (opens.made run refl) f.1
  opened_reads read es levels place (Some (Held h)) path bottom opens f = held_reads read es levels place h path bottom opens f.2

  -- where something lies, a run is opened that tells it
  pub opened_told : (read : List ℕ → Option Entry) (R : List ℕ → Entry → Type 0) → ((h : List ℕ) (e : Entry) → IsRead read h e → R h e)
      → (es : Entries) (levels : ℕ) (place : List ℕ) (lower : Lower) (path : List ℕ) (bottom : Option (List ℕ))
      → IsOpened read (Some lower) path bottom → IsFor hash (IsRead read) R es levels place (Some lower)
      → (b : List ℕ) × (bottom ≡ Some b) × IsTold hash R es levels place path b
  opened_told read R more es levels place (Made run) path bottom opens f =
      let is = opens.made run refl in (run.bottom, is.1, subst (λ q. IsTold hash R es levels place q run.bottom) (sym is.0) f.1)
  opened_told read R more es levels place (Held h) path bottom opens f = elim f.2 [
    | inl node ↦
        let is = opens.node h _ refl (told_node (IsRead read) es levels place h node) in
        (h, is.1, subst (λ q. IsTold hash R es levels place q h) (sym is.0) (IsTold-more hash (IsRead read) R more es levels place [] h node))
    | inr run ↦
        let is = opens.run h (run.0 ∷ run.1) run.2 refl run.3 in (
          run.2,
          is.1,
          subst (λ q. IsTold hash R es levels place q run.2) (sym is.0)
              (IsTold-more hash (IsRead read) R more es levels place (run.0 ∷ run.1) run.2 run.4),
        )
  ]

  -- ---- the kids at the start

  held_map : (f : ℕ → List ℕ) (bs : List ℕ) → map held_pair (map (λ b. (b, f b)) bs) ≡ map (λ b. (b, Held (f b))) bs
  held_map f [] = refl
  held_map f (b ∷ bs) = ap (λ xs. (b, Held (f b)) ∷ xs) (held_map f bs)

  -- nothing lies below any byte
  start_none : (Old R : List ℕ → Entry → Type 0) (es : Entries) (levels : ℕ) (place : List ℕ) (kids : List Kid) → kids ≡ [] → has_under es place ≡ false
      → AreFor hash Old R es levels place kids
  start_none Old R es levels place kids none unmet = record {
    at = λ c. None;
    same = ap (map kid_pair) none ∙ sym (table_none {A = Lower} (λ c. None) 0 256 (λ c low high. refl));
    each = λ b lt. false_from_ne_true _ (λ met. both_ways _ unmet (has_under-shorter es place (b ∷ []) met));
  }

  -- the only kid
  start_one : (Old R : List ℕ → Entry → Type 0) (es : Entries) (levels : ℕ) (place : List ℕ) (kids : List Kid) (c : ℕ) (path bottom : List ℕ) (run : Run)
      → run.path.items ≡ path → run.bottom ≡ bottom → map kid_pair kids ≡ (c, Made run) ∷ [] → next_bytes es place ≡ c ∷ []
      → IsTold hash R es levels (place ++ c ∷ []) path bottom → AreFor hash Old R es levels place kids
  start_one Old R es levels place kids c path bottom run path_is bottom_is kids_are one told =
      let first = next_first es place c [] one in
      let here : IsFor hash Old R es levels (place ++ c ∷ []) (Some (Made run)) =
      (first.1, subst (λ q. IsTold hash R es levels (place ++ c ∷ []) q run.bottom) (sym path_is) (subst (IsTold hash R es levels (place ++ c ∷ []) path) (sym bottom_is) told)) in
      record {
        at = with_at (λ x. None) c (Some (Made run));
        same = kids_are ∙ table_one c (Made run) first.0;
        each = λ b lt. elim (cases_eq b c) [
          | inl same ↦ subst (λ x. IsFor hash Old R es levels (place ++ x ∷ []) (cond (nat_eq x c) (Some (Made run)) None)) (sym same)
              (subst (λ t. IsFor hash Old R es levels (place ++ c ∷ []) (cond t (Some (Made run)) None)) (sym (eq-eqb c c refl)) here)
          | inr other ↦ subst (λ t. IsFor hash Old R es levels (place ++ b ∷ []) (cond t (Some (Made run)) None)) (sym (ne_eqb b c other))
              (next_only es place c one b lt other)
        ];
      }

  -- the kids of a node
  start_node : (read : List ℕ → Option Entry) (es : Entries) (levels : ℕ) (place bottom : List ℕ) (kids : List Kid)
      → map kid_pair kids ≡ map held_pair (children_read (read bottom)) → IsTold hash (IsRead read) es (suc levels) place [] bottom
      → AreFor hash (IsRead read) (IsRead read) es levels place kids
  unfolding IsTold node_at all_bytes
  start_node read es levels place bottom kids kids_are told =
      let f = λ (b : ℕ). hash_at hash (IsRead read) es levels (place ++ b ∷ []) in
      let t = λ (b : ℕ). has_under es (place ++ b ∷ []) in
      record {
        at = λ b. cond (has_under es (place ++ b ∷ [])) (Some (Held (hash_at hash (IsRead read) es levels (place ++ b ∷ [])))) None;
        same = kids_are ∙ ap (λ o. map held_pair (children_read o)) told.1 ∙ held_map f (next_bytes es place) ∙ table-filter t (λ b. Held (f b)) 0 256;
        each = λ b lt. elim (cases_Bool (t b)) [
          | inl met ↦
              let here : IsFor hash (IsRead read) (IsRead read) es levels (place ++ b ∷ []) (Some (Held (f b))) = (met, refl, told.2 b lt met) in
              subst (λ v. IsFor hash (IsRead read) (IsRead read) es levels (place ++ b ∷ []) (cond v (Some (Held (f b))) None)) (sym met) here
          | inr unmet ↦ subst (λ v. IsFor hash (IsRead read) (IsRead read) es levels (place ++ b ∷ []) (cond v (Some (Held (f b))) None)) (sym unmet) unmet
        ];
      }

  -- the kids of what is read
  pub start_kids : (read : List ℕ → Option Entry) (es : Entries) (levels : ℕ) (place path : List ℕ) (before : Option (List ℕ)) (kids : List Kid)
      → AreKidsOf read path before kids → Reads hash (IsRead read) es (suc levels) place path before
      → AreFor hash (IsRead read) (IsRead read) es levels place kids
  unfolding IsTold
  start_kids read es levels place path None kids are reads = start_none (IsRead read) (IsRead read) es levels place kids are reads
  start_kids read es levels place [] (Some bottom) kids are told = start_node read es levels place bottom kids are told
  start_kids read es levels place (c ∷ path) (Some bottom) kids are told =
      start_one (IsRead read) (IsRead read) es levels place kids c path bottom are.0 are.1 are.2 are.3 told.0 told.1
