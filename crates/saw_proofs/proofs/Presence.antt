-- What a proof shows is the map's, and the proof that is told of a map is accepted.
use Rattle.std.proofs.Common.{◌≡◌, ◌≢◌, ◌⊎◌, ℕ, zero, suc, ◌+◌, ◌<◌, Bool, true, false, cond, List, [], ◌∷◌, ◌++◌, length, map, take, drop, get_or, bytes_eq, refl, sym, ap, ◌∙◌, subst, arith, nat_lt, Option, Some, None, inl, inr}
use Rattle.std.specs.Prelude.{is_some, not, Result, Ok, Err}
use Rattle.std.specs.List.{AllByRecursion}
use Rattle.std.specs.FinMap as finite
use Rattle.std.proofs.lemmas.Bool.{cases_Bool, both_ways, lt-ltb, false_from_ne_true}
use Rattle.std.proofs.lemmas.List.{drop_more, length-take-le, take-append-drop, take_all, take_more}
use Rattle.std.proofs.lemmas.Slice.Eq.{bytes_eq-Decides}
use Rattle.saw_address.specs.Maps.{AreAddresses, Entries, StateMap, is_address, value_at}
use Rattle.saw_address.specs.Prefixes.{covers}
use Rattle.saw_address.proofs.Digits.{length-is_address}
use Rattle.saw_node.specs.Decoding.{IsChild}
use Rattle.saw_node.specs.Hashes.{IsHash}
use Rattle.saw_node.specs.Nodes.{Shape, IsNode, encoding_of}
use Rattle.saw_node.specs.Trees.{IsPlace, all_bytes, found_at, has_under, next_bytes, node_at, root_of_map}
use Rattle.saw_node.proofs.Encodings.{same_node}
use Rattle.saw_node.proofs.Places.{covers-append}
use Rattle.saw_node.proofs.Ranges.{small_filter}
use Rattle.saw_node.proofs.SameRoot.{all_children}
use Rattle.saw_merkle.proofs.Addressed.{addressed}
use Rattle.saw_runs.specs.Paths.{nodes_towards, path_from, path_of}
use Rattle.saw_runs.specs.Tables.{at_byte}
use Rattle.saw_runs.proofs.Leading.{hashes_of, node_at-table, small_of, size_of}
use Rattle.saw_runs.proofs.Local.{has_from_value, value_from_has}
use Rattle.saw_runs.proofs.Nexts.{covers_same, none_of}
use Rattle.saw_runs.proofs.Tabled.{at_byte-table}
use Rattle.saw_proofs.specs.Checking.{IsChecked, IsJudged, Leads, found_in, is_misshapen, next_of}
use Rattle.saw_proofs.specs.Laws.{ClashWith, Holds, IsOneOf}
use Rattle.saw_proofs.specs.declared.fault.ProofFault.{ProofFault}
use Rattle.saw_proofs.specs.declared.found.Found.{Found}

decide : (xs ys : List ℕ) → (xs ≡ ys) ⊎ (xs ≢ ys)
decide xs ys = elim (cases_Bool (bytes_eq xs ys)) [
  | inl same ↦ inl ((bytes_eq-Decides xs ys).0 same)
  | inr apart ↦ inr (λ e. both_ways _ apart ((bytes_eq-Decides xs ys).1 e))
]

module _ (hash : List ℕ → List ℕ) (hashes : (bytes : List ℕ) → IsHash (hash bytes)) (m : StateMap) (are : AreAddresses (finite.entries m))
    (address : List ℕ) (is : is_address address ≡ true) where
  abbrev es : Entries
  es = finite.entries m

  -- ---- the nodes of a map

  children_are : (levels : ℕ) (place : List ℕ) → AllByRecursion IsChild (node_at hash es levels place).children
  unfolding node_at all_bytes
  children_are zero place = tt
  children_are (suc levels) place = all_children (λ b. hash (encoding_of (node_at hash es levels (place ++ b ∷ []))))
      (λ b. hashes (encoding_of (node_at hash es levels (place ++ b ∷ [])))) (next_bytes es place)
      (small_filter (λ b. has_under es (place ++ b ∷ [])) 0 256 (omega arith))

  abbrev byte : ℕ → ℕ
  byte depth = get_or address depth 0

  abbrev below : ℕ → List ℕ
  below depth = take depth address ++ byte depth ∷ []

  module _ (depth levels : ℕ) (deep : suc levels + depth ≡ 35) where
    is_above : nat_lt depth 35 ≡ true
    is_above = lt-ltb depth 35 (omega (arith, deep))

    place_on : take (depth + 1) address ≡ below depth
    place_on = let size = size_of address is in take_more address depth 0 (omega (arith, size, deep))

    is_shaped : is_misshapen (node_at hash es (suc levels) (take depth address)) depth ≡ false
    unfolding node_at
    is_shaped = ap (λ t. cond t false (is_misshapen (node_at hash es (suc levels) (take depth address)) 35)) is_above

    next_is : next_of (node_at hash es (suc levels) (take depth address)) address depth ≡ hashes_of hash levels (take depth address) m (byte depth)
    next_is =
        let small = small_of address depth is (omega (arith, deep)) in
        ap (λ t. cond t (at_byte (byte depth) (node_at hash es (suc levels) (take depth address)).children) None) is_above
        ∙ ap (λ (s : Shape). at_byte (byte depth) s.children) (node_at-table hash levels (take depth address) m)
        ∙ at_byte-table (hashes_of hash levels (take depth address) m) (byte depth) 0 256 (omega arith) (omega (arith, small))

    covers_on : covers (below depth) address ≡ true
    covers_on = ap (λ p. covers p address) (sym place_on) ∙ ap (covers (take (depth + 1) address)) (sym (take-append-drop (depth + 1) address))
        ∙ covers-append (take (depth + 1) address) (drop (depth + 1) address)

    -- where no address goes on, the map has nothing at the address
    none_at : has_under es (below depth) ≡ false → value_at m address ≡ None
    none_at unmet = finite.get-entries m address
        ∙ none_of _ (false_from_ne_true _ (λ some. both_ways _ unmet (has_from_value es (below depth) address covers_on some)))

  -- at its whole length
  module _ (depth : ℕ) (end : depth ≡ 35) where
    whole : take depth address ≡ address
    whole = let size = size_of address is in take_all depth address (omega (arith, size, end))

    found_is : found_at (take depth address) es ≡ value_at m address
    found_is = ap (λ q. found_at q es) whole ∙ sym (finite.get-entries m address)

    is_below : nat_lt depth 35 ≡ false
    is_below = ap (λ n. nat_lt n 35) end

    -- a leaf without a value has no place there
    leaf_shape : is_misshapen (node_at hash es 0 (take depth address)) depth ≡ not (is_some (value_at m address))
    unfolding node_at
    leaf_shape = ap (λ t. cond t (is_some (found_at (take depth address) es)) (not (is_some (found_at (take depth address) es)))) is_below
        ∙ ap (λ o. not (is_some o)) found_is

    leaf_next : next_of (node_at hash es 0 (take depth address)) address depth ≡ None
    leaf_next = ap (λ t. cond t (at_byte (byte depth) (node_at hash es 0 (take depth address)).children) None) is_below

  -- ---- what a proof shows

  abbrev Right : List (List ℕ) → Result Found ProofFault → Type 0
  Right all answer = Holds m address answer ⊎ ClashWith hash all m

  fault_right : (all : List (List ℕ)) (answer : Result Found ProofFault) (fault : ProofFault) → answer ≡ Err fault → Right all answer
  fault_right all answer fault err = inl (subst (Holds m address) (sym err) tt)

  -- at a node that is the map's, by what is known of it
  at_node : (all : List (List ℕ)) (depth : ℕ) (misshapen : Bool) (next value : Option (List ℕ)) (rest : List (List ℕ)) (Further : List ℕ → Type 0)
      (answer : Result Found ProofFault) → Leads depth misshapen next value rest Further answer
      → ((due : List ℕ) → next ≡ Some due → Further due → Right all answer)
      → (misshapen ≡ false → next ≡ None → Holds m address (Ok (found_in value))) → Right all answer
  at_node all depth true next value rest Further answer leads on ends = fault_right all answer _ leads
  at_node all depth false None value [] Further answer leads on ends = inl (subst (Holds m address) (sym leads) (ends refl refl))
  at_node all depth false (Some due) value [] Further answer leads on ends = fault_right all answer _ leads
  at_node all depth false None value (bytes ∷ rest) Further answer leads on ends = fault_right all answer _ leads
  at_node all depth false (Some due) value (bytes ∷ rest) Further answer leads on ends = on due refl leads

  found_holds : (o : Option (List ℕ)) → value_at m address ≡ o → Holds m address (Ok (found_in o))
  found_holds None has = has
  found_holds (Some value) has = has

  -- the map's node, where what is shown further down is right
  node_right : (levels depth : ℕ) (rest all : List (List ℕ)) (answer : Result Found ProofFault) → levels + depth ≡ 35
      → ((l : ℕ) (due : List ℕ) → l + (depth + 1) ≡ 35 → IsPlace hash es l (take (depth + 1) address)
      → hash (encoding_of (node_at hash es l (take (depth + 1) address))) ≡ due → IsJudged hash address (depth + 1) due rest answer → Right all answer)
      → Leads depth (is_misshapen (node_at hash es levels (take depth address)) depth) (next_of (node_at hash es levels (take depth address)) address depth)
      (node_at hash es levels (take depth address)).value rest (λ next. IsJudged hash address (depth + 1) next rest answer) answer → Right all answer
  unfolding node_at
  node_right zero depth rest all answer deep again leads =
      let end : depth ≡ 35 = omega (arith, deep) in
      at_node all depth _ _ (found_at (take depth address) es) rest (λ next. IsJudged hash address (depth + 1) next rest answer) answer leads
      (λ due next judged. absurd (no_some (sym (leaf_next depth end) ∙ next)))
      (λ shaped next. found_holds (found_at (take depth address) es) (sym (found_is depth end)))
    where
      no_some : {x : List ℕ} → None ≡ Some x → ⊥
      no_some e = cc
  node_right (suc l) depth rest all answer deep again leads =
      at_node all depth _ _ None rest (λ next. IsJudged hash address (depth + 1) next rest answer) answer leads
      (λ due next judged. elim (cases_Bool (has_under es (below depth))) [
        | inl met ↦
            let size = size_of address is in
            let long : length (take (depth + 1) address) ≡ depth + 1 = length-take-le (depth + 1) address (omega (arith, size, deep)) in
            let named : hash (encoding_of (node_at hash es l (below depth))) ≡ due =
            some_same (sym (ap (λ t. cond t (Some (hash (encoding_of (node_at hash es l (below depth))))) None) met) ∙ sym (next_is depth l deep) ∙ next) in
            again l due (omega (arith, deep)) (record {
              deep = omega (arith, deep, long);
              met = inr (ap (has_under es) (place_on depth l deep) ∙ met);
            }) (ap (λ p. hash (encoding_of (node_at hash es l p))) (place_on depth l deep) ∙ named) judged
        | inr unmet ↦
            absurd (no_some (sym (next_is depth l deep ∙ ap (λ t. cond t (Some (hash (encoding_of (node_at hash es l (below depth))))) None) unmet) ∙ next))
      ])
      (λ shaped next. elim (cases_Bool (has_under es (below depth))) [
        | inl met ↦
            absurd (no_some (sym next ∙ next_is depth l deep ∙ ap (λ t. cond t (Some (hash (encoding_of (node_at hash es l (below depth))))) None) met))
        | inr unmet ↦ none_at depth l deep unmet
      ])
    where
      no_some : {x : List ℕ} → None ≡ Some x → ⊥
      no_some e = cc

      some_same : {x y : List ℕ} → Some x ≡ Some y → x ≡ y
      some_same e = cc

  judged_right : (levels depth : ℕ) (due : List ℕ) (proof all : List (List ℕ)) (answer : Result Found ProofFault) → levels + depth ≡ 35
      → IsPlace hash es levels (take depth address) → hash (encoding_of (node_at hash es levels (take depth address))) ≡ due
      → ((bytes : List ℕ) → IsOneOf bytes proof → IsOneOf bytes all) → IsJudged hash address depth due proof answer → Right all answer
  judged_right levels depth due [] all answer deep place named among judged = absurd judged
  judged_right levels depth due (bytes ∷ rest) all answer deep place named among judged = elim judged [
    | inl other ↦ fault_right all answer _ other.1
    | inr right ↦ elim right [
      | inl form ↦ fault_right all answer _ form.2
      | inr node ↦ elim (decide (encoding_of node.1.0) (encoding_of (node_at hash es levels (take depth address)))) [
        | inr differ ↦ inr (record {
          given = node.1.0;
          kept = node_at hash es levels (take depth address);
          of_proof = among (encoding_of node.1.0) (inl node.1.2);
          of_map = record { levels = levels; place = take depth address; is_place = place; is = refl };
          differ = λ same. differ (ap encoding_of same);
          alike = ap hash node.1.2 ∙ node.0 ∙ sym named;
        })
        | inl same ↦ node_right levels depth rest all answer deep
            (λ l next down here is_next further. judged_right l (depth + 1) next rest all answer down here is_next (λ b one. among b (inr one)) further)
            (subst (λ (s : Shape). Leads depth (is_misshapen s depth) (next_of s address depth) s.value rest
            (λ next. IsJudged hash address (depth + 1) next rest answer) answer)
            (same_node node.1.0 (node_at hash es levels (take depth address)) node.1.1.small (children_are levels (take depth address)) same) node.1.3)
      ]
    ]
  ]

  pub checked_right : (root : List ℕ) (proof : List (List ℕ)) (answer : Result Found ProofFault) → root_of_map hash m ≡ root
      → IsChecked hash root address proof answer → Right proof answer
  checked_right root [] answer named checked = fault_right [] answer _ checked
  checked_right root (bytes ∷ rest) answer named checked =
      judged_right 35 0 root (bytes ∷ rest) (bytes ∷ rest) answer refl (record { deep = refl; met = inl refl }) named (λ b one. one) checked

  -- ---- which proof is accepted

  abbrev Judges : ℕ → Result Found ProofFault → Bool × Option (List ℕ) × List (List ℕ) → Option (List ℕ) → Type 0
  Judges depth answer seen value = Leads depth seen.0 seen.1 value seen.2 (λ next. IsJudged hash address (depth + 1) next seen.2 answer) answer

  abbrev path : ℕ → ℕ → List Shape
  path levels depth = path_from hash es levels (take depth address) (drop depth address)

  -- a leaf is there, where an address goes down to it
  leaf_met : (depth : ℕ) → depth ≡ 35 → has_under es (take depth address) ≡ true → is_some (value_at m address) ≡ true
  leaf_met depth end met =
      let found = value_from_has es (take depth address) met in
      let key = addressed m are found.0 (ap is_some (finite.get-entries m found.0) ∙ found.2) in
      let size = size_of address is in
      let long = length-is_address found.0 key in
      let same : found.0 ≡ address = covers_same address found.0 (ap (λ p. covers p found.0) (sym (whole depth end)) ∙ found.1) (omega (arith, size, long)) in
      ap is_some (finite.get-entries m address ∙ ap (λ q. found_at q es) (sym same)) ∙ found.2

  module _ (depth l : ℕ) (deep : suc l + depth ≡ 35) where
    dropped : drop depth address ≡ byte depth ∷ drop (depth + 1) address
    dropped = let size = size_of address is in drop_more address depth 0 (omega (arith, size, deep))

    rest_by : (t : Bool) → has_under es (below depth) ≡ t
        → nodes_towards hash es (suc l) (take depth address) (drop depth address) ≡ cond t (path l (depth + 1)) []
    unfolding nodes_towards
    rest_by t is_met =
        ap (nodes_towards hash es (suc l) (take depth address)) dropped
        ∙ ap (λ v. cond v (path_from hash es l (below depth) (drop (depth + 1) address)) []) is_met
        ∙ ap (λ p. cond t (path_from hash es l p (drop (depth + 1) address)) []) (sym (place_on depth l deep))

  node_accepted : (levels depth : ℕ) (answer : Result Found ProofFault) → levels + depth ≡ 35
      → (take depth address ≡ []) ⊎ (has_under es (take depth address) ≡ true)
      → ((l : ℕ) → l + (depth + 1) ≡ 35 → l < levels → has_under es (take (depth + 1) address) ≡ true
      → IsJudged hash address (depth + 1) (hash (encoding_of (node_at hash es l (take (depth + 1) address)))) (map encoding_of (path l (depth + 1))) answer
      → answer ≡ Ok (found_in (value_at m address)))
      → Judges depth answer (
        is_misshapen (node_at hash es levels (take depth address)) depth,
        next_of (node_at hash es levels (take depth address)) address depth,
        map encoding_of (nodes_towards hash es levels (take depth address) (drop depth address)),
      ) (node_at hash es levels (take depth address)).value
      → answer ≡ Ok (found_in (value_at m address))
  unfolding node_at nodes_towards
  node_accepted zero depth answer deep met again leads =
      let end : depth ≡ 35 = omega (arith, deep) in
      let size = size_of address is in
      let long : length (take depth address) ≡ depth = length-take-le depth address (omega (arith, size, end)) in
      let under : has_under es (take depth address) ≡ true = elim met [
        | inl none ↦ let none_long = ap length none in absurd (omega (arith, long, none_long, end))
        | inr here ↦ here
      ] in
      let some = leaf_met depth end under in
      let shaped : is_misshapen (node_at hash es 0 (take depth address)) depth ≡ false = leaf_shape depth end ∙ ap not some in
      let is_end : Judges depth answer (false, None, []) (found_at (take depth address) es) =
      subst (λ (seen : Bool × Option (List ℕ) × List (List ℕ)). Judges depth answer seen (found_at (take depth address) es))
      (λ k. (shaped k, leaf_next depth end k, [])) leads in
      is_end ∙ ap (λ o. Ok (found_in o)) (found_is depth end)
  node_accepted (suc l) depth answer deep met again leads = elim (cases_Bool (has_under es (below depth))) [
    | inl goes ↦
        let next : next_of (node_at hash es (suc l) (take depth address)) address depth ≡ Some (hash (encoding_of (node_at hash es l (take (depth + 1) address)))) =
        next_is depth l deep ∙ ap (λ t. cond t (Some (hash (encoding_of (node_at hash es l (below depth))))) None) goes
        ∙ ap (λ p. Some (hash (encoding_of (node_at hash es l p)))) (sym (place_on depth l deep)) in
        again l (omega (arith, deep)) (omega arith) (ap (has_under es) (place_on depth l deep) ∙ goes)
        (subst (λ (seen : Bool × Option (List ℕ) × List (List ℕ)). Judges depth answer seen None)
        (λ k. (is_shaped depth l deep k, next k, map encoding_of (rest_by depth l deep true goes k))) leads)
    | inr unmet ↦
        let next : next_of (node_at hash es (suc l) (take depth address)) address depth ≡ None =
        next_is depth l deep ∙ ap (λ t. cond t (Some (hash (encoding_of (node_at hash es l (below depth))))) None) unmet in
        let is_end : Judges depth answer (false, None, []) None =
        subst (λ (seen : Bool × Option (List ℕ) × List (List ℕ)). Judges depth answer seen None)
        (λ k. (is_shaped depth l deep k, next k, map encoding_of (rest_by depth l deep false unmet k))) leads in
        is_end ∙ ap (λ o. Ok (found_in o)) (sym (none_at depth l deep unmet))
  ]

  -- what is said of the node there is said of the map's
  map_node : (levels depth : ℕ) (answer : Result Found ProofFault) → IsNode (node_at hash es levels (take depth address))
      → IsJudged hash address depth (hash (encoding_of (node_at hash es levels (take depth address)))) (map encoding_of (path levels depth)) answer
      → Judges depth answer (
        is_misshapen (node_at hash es levels (take depth address)) depth,
        next_of (node_at hash es levels (take depth address)) address depth,
        map encoding_of (nodes_towards hash es levels (take depth address) (drop depth address)),
      ) (node_at hash es levels (take depth address)).value
  map_node levels depth answer is_node judged = elim judged [
    | inl other ↦ absurd (other.0 refl)
    | inr right ↦ elim right [
      | inl form ↦ absurd (form.1 (node_at hash es levels (take depth address)) is_node refl)
      | inr node ↦ subst (λ (s : Shape). Judges depth answer (
        is_misshapen s depth,
        next_of s address depth,
        map encoding_of (nodes_towards hash es levels (take depth address) (drop depth address)),
      ) s.value)
          (same_node node.1.0 (node_at hash es levels (take depth address)) node.1.1.small (children_are levels (take depth address)) node.1.2) node.1.3
    ]
  ]

  accepted : (levels depth : ℕ) (answer : Result Found ProofFault) → levels + depth ≡ 35
      → (take depth address ≡ []) ⊎ (has_under es (take depth address) ≡ true)
      → AllByRecursion IsNode (path levels depth)
      → IsJudged hash address depth (hash (encoding_of (node_at hash es levels (take depth address)))) (map encoding_of (path levels depth)) answer
      → answer ≡ Ok (found_in (value_at m address))
  accepted zero depth answer deep met nodes judged =
      node_accepted zero depth answer deep met (λ l down lt under further. absurd (omega (arith, lt))) (map_node zero depth answer nodes.0 judged)
  accepted (suc k) depth answer deep met nodes judged =
      node_accepted (suc k) depth answer deep met
      (λ l down lt under further.
      let same : l ≡ k = omega (arith, down, deep) in
      let goes : has_under es (below depth) ≡ true = sym (ap (has_under es) (place_on depth k deep)) ∙ under in
      accepted k (depth + 1) answer (omega (arith, deep)) (inr under)
      (subst (AllByRecursion IsNode) (rest_by depth k deep true goes) nodes.1)
      (subst (λ n. IsJudged hash address (depth + 1) (hash (encoding_of (node_at hash es n (take (depth + 1) address)))) (map encoding_of (path n (depth + 1))) answer)
      same further))
      (map_node (suc k) depth answer nodes.0 judged)

  pub told_accepted : (answer : Result Found ProofFault) → AllByRecursion IsNode (path_of hash es address)
      → IsChecked hash (root_of_map hash m) address (map encoding_of (path_of hash es address)) answer → answer ≡ Ok (found_in (value_at m address))
  told_accepted answer nodes checked = accepted 35 0 answer refl (inl refl) nodes checked
