-- The tests of a block, one after another.
use Rattle.std.proofs.Common.{◌≡◌, ℕ, Bool, true, false, List, [], ◌∷◌, ◌++◌, Option, Some, None, refl, sym, ap, subst, ◌∙◌, arith, cond}
use Rattle.std.specs.Prelude.{◌&&◌, ◌||◌, ◌==◌, not, Err, Ok, IsSome, if◌then◌else◌, unwrap_or}
use Rattle.std.specs.FinMap as finite
use Rattle.std.specs.Str.{bytes_eq}
use Rattle.std.specs.Cmp.{eq_by_cmp_equiv}
use Rattle.std.specs.Cmp.Lexicographic.{nat_list_cmp_total}
use Rattle.std.proofs.lemmas.Bool.{eqb-true}
use Rattle.saw_address.specs.Maps.{StateMap, no_entries}
use Rattle.saw_address.specs.Texts.{is_hex_text}
use Rattle.saw_checks.specs.Tests.{◌<|>◌}
use Rattle.saw_context.specs.declared.batch_result.BatchResult.{BatchResult}
use Rattle.saw_merkle.specs.States.{States, knows, map_at, state_at}
use Rattle.saw_messages.specs.declared.block.BlockHeader.{BlockHeader}
use Rattle.saw_node.specs.Trees.{root_of_map}
use Rattle.saw_plan.specs.BatchShapes.{txs_of}
use Rattle.saw_receipts.specs.declared.block.BlockRecord.{BlockRecord}
use Rattle.saw_receipts.specs.declared.verdict.BlockFault.{BlockFault}
use Rattle.saw_journal.specs.BlockFaults.{Test, due_behind, failure_fault, fault_but_root, fault_by, first_in, ids_before, is_first, parent_of, place_tests, rule_tests, run_tests, when}
use Rattle.saw_rules.specs.Policies.{Policy}
use Rattle.saw_receipts.specs.Branches.{block_at, has_block, has_first, no_block}
use Rattle.saw_journal.specs.Judgement.{Kept, judged_parts, kept_of, unless}
use Rattle.saw_receipts.specs.Running.{Runs}
use Rattle.saw_journal.specs.Ledger.{map_under}
use Rattle.saw_journal.specs.Linked.{StandsBehind, parent_in}
use Rattle.saw_journal.specs.Parted.{root_before, run_fault}
use Rattle.saw_journal.specs.BlockShapes.{Parts}
use Rattle.saw_journal.specs.Standing.{IsFounded, has_any}
use Rattle.saw_journal.proofs.Linking.{holds_at}

-- ---- the tests in order

decides : (first rest : Option BlockFault) (kept : Kept) (fault : BlockFault) → Some fault ≡ first → unless (first <|> rest) kept ≡ Err fault
decides first rest kept fault e = ap (λ first. unless (first <|> rest) kept) (sym e)

goes_on : (first rest : Option BlockFault) (kept : Kept) → None ≡ first → unless (first <|> rest) kept ≡ unless rest kept
goes_on first rest kept e = ap (λ first. unless (first <|> rest) kept) (sym e)

or_other : {F : Type 0} (a b c : Option F) → ((a <|> b) <|> c) ≡ (a <|> (b <|> c))
or_other None b c = refl
or_other (Some fault) b c = refl

pub or_none : {F : Type 0} (a : Option F) → (a <|> None) ≡ a
or_none None = refl
or_none (Some fault) = refl

-- tests behind others
first_in_both : (tests others : List Test) → first_in (tests ++ others) ≡ (first_in tests <|> first_in others)
first_in_both [] others = refl
first_in_both ((n, None) ∷ tests) others = first_in_both tests others
first_in_both ((n, Some fault) ∷ tests) others = refl

module _ (hash : List ℕ → List ℕ) (policy : Policy) (blocks : List BlockRecord) (before : StateMap) (results : List BatchResult) (parts : Parts) where
  abbrev place : List Test
  place = place_tests blocks parts.id parts.header

  abbrev rule : List Test
  rule = rule_tests policy (ids_before blocks parts.header) before parts.header.signer_public_key parts.batches

  in_three : (last : List Test) → first_in (place ++ rule ++ last) ≡ (first_in place <|> (first_in rule <|> first_in last))
  in_three last =
      first_in_both (place ++ rule) last ∙ ap (λ first. first <|> first_in last) (first_in_both place rule)
      ∙ or_other (first_in place) (first_in rule) (first_in last)

  -- the stretches of the tests, in order
  pub fault_in : fault_by hash policy blocks before results parts ≡ (first_in place <|> (first_in rule <|> first_in (run_tests hash before results parts.header)))
  fault_in = in_three (run_tests hash before results parts.header)

  pub but_root : fault_but_root hash policy blocks before results parts ≡ (first_in place <|> (first_in rule <|> failure_fault results))
  but_root = in_three ((14, failure_fault results) ∷ []) ∙ ap (λ last. first_in place <|> (first_in rule <|> last)) (or_none (failure_fault results))

module _ (hash : List ℕ → List ℕ) (policy : Policy) (runs : Runs) (blocks : List BlockRecord) (states : States) (parts : Parts) where
  abbrev before : StateMap
  before = map_under states (parent_of blocks parts.header)

  abbrev came : List BatchResult
  came = runs before (txs_of parts.batches)

  abbrev placing : Option BlockFault
  placing = first_in (place_tests blocks parts.id parts.header)

  abbrev ruling : StateMap → Option BlockFault
  ruling m = first_in (rule_tests policy (ids_before blocks parts.header) m parts.header.signer_public_key parts.batches)

  abbrev running : List BatchResult → StateMap → Option BlockFault
  running results m = first_in (run_tests hash m results parts.header)

  in_order : judged_parts hash policy runs (map_under states) blocks parts ≡ unless (placing <|> (ruling before <|> running came before)) (kept_of hash parts before came)
  in_order = ap (λ found. unless found (kept_of hash parts before came)) (fault_in hash policy blocks before came parts)

  -- a fault of its place
  pub misplaced : (fault : BlockFault) → Some fault ≡ first_in (place_tests blocks parts.id parts.header)
      → judged_parts hash policy runs (map_under states) blocks parts ≡ Err fault
  misplaced fault found = in_order ∙ decides placing (ruling before <|> running came before) (kept_of hash parts before came) fault found

  module _ (placed : None ≡ first_in (place_tests blocks parts.id parts.header)) where
    to_rules : judged_parts hash policy runs (map_under states) blocks parts ≡ unless (ruling before <|> running came before) (kept_of hash parts before came)
    to_rules = in_order ∙ goes_on placing (ruling before <|> running came before) (kept_of hash parts before came) placed

    -- its batches may not stand in it
    pub ruled_out : (fault : BlockFault) → ruling before ≡ Some fault → judged_parts hash policy runs (map_under states) blocks parts ≡ Err fault
    ruled_out fault found = to_rules ∙ decides (ruling before) (running came before) (kept_of hash parts before came) fault (sym found)

    module _ (whole : ruling before ≡ None) (results : List BatchResult) (at : List ℕ) (same : before ≡ map_at states at) (run : came ≡ results) where
      -- what comes of its results
      pub by_run : judged_parts hash policy runs (map_under states) blocks parts ≡ unless (run_fault hash states at parts results)
          (kept_of hash parts (map_at states at) results)
      by_run =
          to_rules ∙ goes_on (ruling before) (running came before) (kept_of hash parts before came) (sym whole)
          ∙ ap (λ results. unless (running results before) (kept_of hash parts before results)) run
          ∙ ap (λ m. unless (running results m) (kept_of hash parts m results)) same

-- ---- the map before a block

pub first_not : {F : Type 0} (b : Bool) (fault : F) (others : Option F) → None ≡ (if b then Some fault else others) → b ≡ false
first_not true fault others e = absurd cc
first_not false fault others e = refl

-- a test that is passed
pub passes : (b : Bool) (fault : BlockFault) (others : Option BlockFault) → None ≡ (when b fault <|> others) → (b ≡ false) × (None ≡ others)
passes true fault others e = absurd cc
passes false fault others e = (refl, e)

pub not_not : (b : Bool) → not b ≡ false → b ≡ true
not_not true e = refl
not_not false e = absurd (grind (arith, e))

either_true : (a b : Bool) → (not a && not b) ≡ false → (a || b) ≡ true
either_true true b e = refl
either_true false b e = not_not b e

module _ (blocks : List BlockRecord) (id : List ℕ) (header : BlockHeader) (placed : None ≡ first_in (place_tests blocks id header)) where
  pub is_fresh : has_block blocks id ≡ false
  is_fresh = (passes (has_block blocks id) _ _ placed).0

  pub first_once : (is_first header && has_first blocks) ≡ false
  first_once = (passes (is_first header && has_first blocks) _ _ (passes (has_block blocks id) _ _ placed).1).0

  pub previous_known : (not (is_first header) && not (has_block blocks header.previous_block_id)) ≡ false
  previous_known = (passes (not (is_first header) && not (has_block blocks header.previous_block_id)) _ _
      (passes (is_first header && has_first blocks) _ _ (passes (has_block blocks id) _ _ placed).1).1).0

  pub number_due : header.block_num ≡ due_behind (parent_of blocks header)
  number_due =
      let numbered = (passes (not (is_first header) && not (has_block blocks header.previous_block_id)) _ _
      (passes (is_first header && has_first blocks) _ _ (passes (has_block blocks id) _ _ placed).1).1).1 in
      eqb-true header.block_num (due_behind (parent_of blocks header))
      (not_not (header.block_num == due_behind (parent_of blocks header))
      (passes (not (header.block_num == due_behind (parent_of blocks header))) _ _ numbered).0)

  -- a block with this id and header stands behind the others
  pub stands : is_hex_text 128 id ≡ true → (block : BlockRecord) → block.id ≡ id → block.previous ≡ header.previous_block_id
      → block.number ≡ header.block_num → StandsBehind blocks block
  stands form block id_is previous number = record {
    form = ap (is_hex_text 128) id_is ∙ form;
    fresh = ap (has_block blocks) id_is ∙ is_fresh;
    known = ap (λ previous. bytes_eq previous no_block || has_block blocks previous) previous
        ∙ either_true (is_first header) (has_block blocks header.previous_block_id) previous_known;
    once = ap (λ previous. bytes_eq previous no_block && has_first blocks) previous ∙ first_once;
    number = number ∙ number_due ∙ ap (λ previous. due_behind (parent_in blocks previous)) (sym previous);
  }

no_block_yet : (blocks : List BlockRecord) → has_any blocks ≡ false → blocks ≡ []
no_block_yet [] none = refl
no_block_yet (block ∷ blocks) none = absurd cc

opening_map : (hash : List ℕ → List ℕ) (states : States) → states ≡ knows hash finite.empty no_entries
    → state_at states (root_of_map hash no_entries) ≡ Some no_entries
opening_map hash states is =
    ap (λ s. state_at s (root_of_map hash no_entries)) is ∙ finite.get-insert nat_list_cmp_total finite.empty (root_of_map hash no_entries) no_entries
    (root_of_map hash no_entries)
    ∙ ap (λ b. cond b (Some no_entries) (state_at finite.empty (root_of_map hash no_entries)))
    ((eq_by_cmp_equiv nat_list_cmp_total).refl (root_of_map hash no_entries))

at_opening : (found : Option StateMap) → found ≡ Some no_entries → (no_entries ≡ unwrap_or found no_entries) × IsSome found
at_opening found is = rw is (refl, refl)

missing_here : (b : Bool) (block : BlockRecord) (others : Option BlockRecord) (has : Bool) → (others ≡ None → has ≡ false)
    → (if b then Some block else others) ≡ None → (b || has) ≡ false
missing_here true block others has later e = absurd (grind (arith, e))
missing_here false block others has later e = later e

pub missing_is : (blocks : List BlockRecord) (id : List ℕ) → block_at blocks id ≡ None → has_block blocks id ≡ false
missing_is [] id e = refl
missing_is (block ∷ blocks) id e = missing_here (bytes_eq block.id id) block (block_at blocks id) (has_block blocks id) (missing_is blocks id) e

module _ (hash : List ℕ → List ℕ) (ids : List (List ℕ)) (blocks : List BlockRecord) (states : States) (founded : IsFounded hash ids blocks states)
    (id : List ℕ) (header : BlockHeader)
    (placed : None ≡ first_in (place_tests blocks id header)) where
  -- the map before a block is that under the root before it, which is known
  abbrev pub IsBefore : Option BlockRecord → Type 0
  IsBefore parent = (map_under states parent ≡ map_at states (root_before hash parent)) × IsSome (state_at states (root_before hash parent))

  before_first : is_first header ≡ true → IsBefore None
  before_first first =
      let none = ap (λ b. b && has_first blocks) (sym first) ∙ first_once blocks id header placed in
      let opening = founded.opening (no_block_yet blocks (sym founded.first ∙ none)) in
      at_opening (state_at states (root_of_map hash no_entries)) (opening_map hash states opening)

  before_other : is_first header ≡ false → (found : Option BlockRecord) → block_at blocks header.previous_block_id ≡ found → IsBefore found
  before_other first None e =
      let there = ap (λ b. not b && not (has_block blocks header.previous_block_id)) (sym first) ∙ previous_known blocks id header placed in
      let missing = missing_is blocks header.previous_block_id e in
      absurd (grind (arith, there, missing))
  before_other first (Some parent) e = (
    refl,
    holds_at (λ (block : BlockRecord). IsSome (state_at states block.root)) blocks header.previous_block_id
        parent founded.known e,
  )

  by_first : (first : Bool) → is_first header ≡ first → IsBefore (if first then None else block_at blocks header.previous_block_id)
  by_first true e = before_first e
  by_first false e = before_other e (block_at blocks header.previous_block_id) refl

  pub is_before : IsBefore (parent_of blocks header)
  is_before = by_first (is_first header) refl

module _ (blocks : List BlockRecord) (id : List ℕ) (header : BlockHeader) (placed : None ≡ first_in (place_tests blocks id header))
    (parent : Option BlockRecord) (is : parent ≡ parent_of blocks header) where
  -- the root before a block is known, and has the map behind its parent
  pub at_root : (hash : List ℕ → List ℕ) (ids : List (List ℕ)) (states : States) → IsFounded hash ids blocks states → (root : List ℕ)
      → root ≡ root_before hash parent → (map_under states (parent_of blocks header) ≡ map_at states root) × IsSome (state_at states root)
  at_root hash ids states founded root root_is =
      let same = root_is ∙ ap (root_before hash) is in
      let before = is_before hash ids blocks states founded id header placed in
      (before.0 ∙ ap (map_at states) (sym same), subst (λ (root : List ℕ). IsSome (state_at states root)) (sym same) before.1)

-- ---- results

pub unless_ok : (fault : Option BlockFault) (kept k : Kept) → unless fault kept ≡ Ok k → (fault ≡ None) × (kept ≡ k)
unless_ok None kept k is = (refl, cc)
unless_ok (Some fault) kept k is = absurd cc
