-- A block that joins the accepted ones.
use Rattle.std.proofs.Common.{◌≡◌, ◌<◌, ℕ, zero, suc, Bool, true, false, cond, List, [], ◌∷◌, ◌++◌, length, map, Option, Some, None, refl, sym, ap}
use Rattle.std.proofs.Common.{subst, ◌∙◌, arith}
use Rattle.std.specs.Prelude.{Result, Ok, Err, IsOk, OnOk, ◌||◌, IsSome, slice_get, string_bytes, String, if◌then◌else◌}
use Rattle.std.specs.FinMap as finite
use Rattle.std.specs.Global.{Global}
use Rattle.std.specs.List.{AllByRecursion}
use Rattle.std.specs.Map.{keys_of, values_of}
use Rattle.std.specs.Ordering.{nat_cmp, eq_by_cmp}
use Rattle.std.specs.Cmp.Lexicographic.{nat_list_cmp_total, nat_list_eq_equiv, slice_cmp}
use Rattle.std.specs.Cmp.{eq_by_cmp_equiv}
use Rattle.std.specs.Str.{bytes_eq}
use Rattle.std.proofs.lemmas.List.{map_push, length_push}
use Rattle.std.proofs.lemmas.List.Folds.{list_any-append}
use Rattle.indexmap.specs.IndexMap.{insert_entry}
use Rattle.saw_address.specs.Maps.{StateMap}
use Rattle.saw_merkle.specs.States.{States, knows, state_at}
use Rattle.saw_node.specs.Trees.{root_of_map}
use Rattle.saw_receipts.specs.declared.block.BlockRecord.{BlockRecord}
use Rattle.saw_receipts.specs.Branches.{has_block, has_first, no_block}
use Rattle.saw_receipts.specs.Heads.{head_after, head_of, is_new_head}
use Rattle.saw_journal.specs.Standing.{IsFounded, IsStanding, has_any, head_at}
use Rattle.saw_journal.specs.KnownBranches.{HaveIds}
use Rattle.saw_journal.specs.Linked.{StandsBehind}
use Rattle.saw_journal.specs.declared.branch_ids.BranchIds.{BranchIds}
use Rattle.saw_journal.specs.declared.branch_ids.Holders.{Holders}
use Rattle.saw_journal.proofs.KnownBranches.{have_same}
use Rattle.saw_journal.proofs.Linking.{all_push, either_false, linked_push}
use Rattle.saw_journal.proofs.Lookups.{heads}

-- ---- the last entry

apart : (k a b : List ℕ) → a ≡ b → bytes_eq b k ≡ false → bytes_eq k a ≡ false
apart k a b same other = ap (bytes_eq k) same ∙ nat_list_eq_equiv.symm k b ∙ other

pub put_behind : (es : List (String Global × BlockRecord)) (key : String Global) (block : BlockRecord)
    → map string_bytes (keys_of es) ≡ map (λ block. block.id) (values_of es) → has_block (values_of es) (string_bytes key) ≡ false
    → insert_entry (λ a b. bytes_eq (string_bytes a) (string_bytes b)) es key block ≡ es ++ (key, block) ∷ []
put_behind [] key block same fresh = refl
put_behind (e ∷ es) key block same fresh =
    let parts = heads same in
    let others = either_false (bytes_eq e.1.id (string_bytes key)) (has_block (values_of es) (string_bytes key)) fresh in
    ap (λ b. if b then (e.0, block) ∷ es else e ∷ insert_entry (λ a b. bytes_eq (string_bytes a) (string_bytes b)) es key block)
    (apart (string_bytes key) (string_bytes e.0) e.1.id parts.0 others.0)
    ∙ ap (λ rest. e ∷ rest) (put_behind es key block parts.1 others.1)

-- ---- what stays so

still_known : (states : States) (root : List ℕ) (m : StateMap) (at : List ℕ) → IsSome (state_at states at) → IsSome (state_at (finite.insert states root m) at)
still_known states root m at known = subst (λ found. IsSome found) (sym (finite.get-insert nat_list_cmp_total states root m at))
    (inserted (eq_by_cmp (slice_cmp nat_cmp) at root) (state_at states at) known)
  where
    inserted : (b : Bool) (found : Option StateMap) → IsSome found → IsSome (cond b (Some m) found)
    inserted true found known = refl
    inserted false found known = known

all_still_known : (states : States) (root : List ℕ) (m : StateMap) (blocks : List BlockRecord)
    → AllByRecursion (λ block. IsSome (state_at states block.root)) blocks
    → AllByRecursion (λ block. IsSome (state_at (finite.insert states root m) block.root)) blocks
all_still_known states root m [] known = tt
all_still_known states root m (block ∷ blocks) known = (still_known states root m block.root known.0, all_still_known states root m blocks known.1)

head_push : (head : Option BlockRecord) (blocks : List BlockRecord) (new : BlockRecord)
    → head_after head (blocks ++ new ∷ []) ≡ (if is_new_head (head_after head blocks) new then Some new else head_after head blocks)
head_push head [] new = refl
head_push head (block ∷ blocks) new = head_push (if is_new_head head block then Some block else head) blocks new

get_last : {X : Type 0} (xs : List X) (x : X) → slice_get (xs ++ x ∷ []) (length xs) ≡ Some x
get_last [] x = refl
get_last (y ∷ xs) x = get_last xs x

get_kept : {X : Type 0} (xs : List X) (x y : X) (i : ℕ) → slice_get xs i ≡ Some y → slice_get (xs ++ x ∷ []) i ≡ Some y
get_kept [] x y i e = absurd cc
get_kept (z ∷ xs) x y zero e = e
get_kept (z ∷ xs) x y (suc i) e = get_kept xs x y i e

not_empty : {X : Type 0} (xs : List X) (x : X) → (◌≡◌ {A = List X} (xs ++ x ∷ []) []) → ⊥
not_empty [] x e = absurd cc
not_empty (y ∷ xs) x e = absurd cc

any_from : (blocks : List BlockRecord) (id : List ℕ) → has_block blocks id ≡ true → has_any blocks ≡ true
any_from [] id e = absurd (grind (arith, e))
any_from (block ∷ blocks) id e = refl

or_true : (b : Bool) → (b || true) ≡ true
or_true true = refl
or_true false = refl

-- a first block, or one came before
some_first : (blocks : List BlockRecord) (new : BlockRecord) → has_first blocks ≡ has_any blocks
    → (bytes_eq new.previous no_block || has_block blocks new.previous) ≡ true
    → (first : Bool) → bytes_eq new.previous no_block ≡ first → (has_first blocks || bytes_eq new.previous no_block) ≡ true
some_first blocks new opened known true is = ap (λ b. has_first blocks || b) is ∙ or_true (has_first blocks)
some_first blocks new opened known false is =
    let before = ap (λ b. b || has_block blocks new.previous) (sym is) ∙ known in
    ap (λ b. b || bytes_eq new.previous no_block) (opened ∙ any_from blocks new.previous before)

module _ (hash : List ℕ → List ℕ) (ids : List (List ℕ)) (blocks : List BlockRecord) (holders : Holders) (kept : List BranchIds) (head : Option ℕ)
    (states : States) (limit : ℕ) (stands : IsStanding hash ids blocks holders kept head states limit)
    (new : BlockRecord) (m : StateMap) (root : new.root ≡ root_of_map hash m) (behind : StandsBehind blocks new) (room : length blocks < limit) where
  founded_more : (more : List (List ℕ)) → more ≡ map (λ block. block.id) (blocks ++ new ∷ []) → IsFounded hash more (blocks ++ new ∷ []) (knows hash states m)
  founded_more more ids_are = record {
    ids_are = ids_are;
    linked = linked_push blocks new stands.founded.linked behind;
    known = all_push (λ (block : BlockRecord). IsSome (state_at (knows hash states m) block.root)) blocks new
        (all_still_known states (root_of_map hash m) m blocks stands.founded.known)
        (subst (λ found. IsSome found) (sym (ap (state_at (knows hash states m)) root
        ∙ finite.get-insert nat_list_cmp_total states (root_of_map hash m) m (root_of_map hash m)
        ∙ ap (λ b. cond b (Some m) (state_at states (root_of_map hash m))) (own (root_of_map hash m)))) refl);
    first = list_any-append (λ (block : BlockRecord). bytes_eq block.previous no_block) blocks (new ∷ [])
        ∙ or_nil (has_first blocks) (bytes_eq new.previous no_block)
        ∙ some_first blocks new stands.founded.first behind.known (bytes_eq new.previous no_block) refl ∙ sym (some_length blocks);
    opening = λ e. absurd (not_empty blocks new e);
  }
    where
      own : (k : List ℕ) → eq_by_cmp (slice_cmp nat_cmp) k k ≡ true
      own k = (eq_by_cmp_equiv nat_list_cmp_total).refl k

      or_nil : (a b : Bool) → (a || (b || false)) ≡ (a || b)
      or_nil true b = refl
      or_nil false true = refl
      or_nil false false = refl

      some_length : (blocks : List BlockRecord) → has_any (blocks ++ new ∷ []) ≡ true
      some_length [] = refl
      some_length (block ∷ blocks) = refl

  module _ (more : List (List ℕ)) (ids_are : more ≡ map (λ block. block.id) (blocks ++ new ∷ [])) (now : Holders)
      (after : List BranchIds) (branches : HaveIds (blocks ++ new ∷ []) now after) where
    stands_with : (place : Option ℕ) → head_at (blocks ++ new ∷ []) place ≡ head_of (blocks ++ new ∷ [])
        → IsStanding hash more (blocks ++ new ∷ []) now after place (knows hash states m) limit
    stands_with place chosen = record {
      founded = founded_more more ids_are;
      branches = branches;
      chosen = chosen;
      room = omega (arith, length_push blocks new, room);
    }

    -- the new block is the head
    pub new_head : (place : ℕ) → place ≡ length blocks → true ≡ is_new_head (head_of blocks) new
        → IsStanding hash more (blocks ++ new ∷ []) now after (Some place) (knows hash states m) limit
    new_head place is head_is =
        stands_with (Some place)
        (ap (slice_get (blocks ++ new ∷ [])) is ∙ get_last blocks new
        ∙ sym (head_push None blocks new ∙ ap (λ b. if b then Some new else head_of blocks) (sym head_is)))

    still_at : (at : Option ℕ) (found : Option BlockRecord) → head_at blocks at ≡ found → false ≡ is_new_head found new
        → head_at (blocks ++ new ∷ []) at ≡ found
    still_at None found is head_is = is
    still_at (Some i) None is head_is = absurd (grind (arith, head_is))
    still_at (Some i) (Some block) is head_is = get_kept blocks new block i is

    -- the head stays
    pub old_head : false ≡ is_new_head (head_of blocks) new → IsStanding hash more (blocks ++ new ∷ []) now after head (knows hash states m) limit
    old_head head_is =
        stands_with head
        (still_at head (head_of blocks) stands.chosen head_is
        ∙ sym (head_push None blocks new ∙ ap (λ b. if b then Some new else head_of blocks) (sym head_is)))

module _ (hash : List ℕ → List ℕ) (ids : List (List ℕ)) (blocks : List BlockRecord) (holders : Holders) (kept : List BranchIds) (head : Option ℕ)
    (states : States) (limit : ℕ) (stands : IsStanding hash ids blocks holders kept head states limit)
    (new : BlockRecord) (m : StateMap) (root : new.root ≡ root_of_map hash m) (behind : StandsBehind blocks new) (room : length blocks < limit)
    (more : List (List ℕ)) (all : List BlockRecord) (later : States) (put : all ≡ blocks ++ new ∷ []) (ids_are : more ≡ map (λ block. block.id) all)
    (known : later ≡ knows hash states m) (now : Holders) (after : List BranchIds) (branches : HaveIds all now after) where
  ids_put : more ≡ map (λ block. block.id) (blocks ++ new ∷ [])
  ids_put = ids_are ∙ ap (map (λ (block : BlockRecord). block.id)) put

  branches_put : HaveIds (blocks ++ new ∷ []) now after
  branches_put = subst (λ (all : List BlockRecord). HaveIds all now after) put branches

  pub head_joins : (place : ℕ) → place ≡ length blocks → true ≡ is_new_head (head_of blocks) new
      → IsStanding hash more all now after (Some place) later limit
  head_joins place is head_is =
      rw (put, known) (new_head hash ids blocks holders kept head states limit stands new m root behind room more ids_put now after branches_put place is
      head_is)

  pub other_joins : false ≡ is_new_head (head_of blocks) new → IsStanding hash more all now after head later limit
  other_joins head_is =
      rw (put, known) (old_head hash ids blocks holders kept head states limit stands new m root behind room more ids_put now after branches_put head_is)

-- ---- no block more

-- what stood stands where only the holders' room changed
pub still_stands : (hash : List ℕ → List ℕ) (ids : List (List ℕ)) (blocks : List BlockRecord) (holders : Holders) (kept : List BranchIds)
    (head : Option ℕ) (states : States) (limit : ℕ) → IsStanding hash ids blocks holders kept head states limit
    → (other : List (List ℕ)) (all : List BlockRecord) (now : Holders) (after : List BranchIds) (later : States) → other ≡ ids → all ≡ blocks
    → now.batches.entries ≡ holders.batches.entries → now.transactions.entries ≡ holders.transactions.entries → after ≡ kept → later ≡ states
    → IsStanding hash other all now after head later limit
still_stands hash ids blocks holders kept head states limit stands other all now after later same_ids same_blocks batches transactions same_kept same_states =
    rw (same_ids, same_blocks, same_kept, same_states) (record {
      founded = stands.founded;
      branches = have_same blocks holders now kept batches transactions stands.branches;
      chosen = stands.chosen;
      room = stands.room;
    })

-- ---- the map of blocks

pub on_ok_of : {A F P : Type 0} (r : Result A F) → IsOk r → OnOk r P → P
on_ok_of (Ok x) ok on = on
on_ok_of (Err e) ok on = absurd cc

pub values_behind : (es more : List (String Global × BlockRecord)) (key : String Global) (block : BlockRecord) → more ≡ es ++ (key, block) ∷ []
    → values_of more ≡ values_of es ++ block ∷ []
values_behind es more key block is = ap values_of is ∙ map_push (λ (e : String Global × BlockRecord). e.1) es (key, block)

pub keys_behind : (es more : List (String Global × BlockRecord)) (key : String Global) (block : BlockRecord) → more ≡ es ++ (key, block) ∷ []
    → map string_bytes (keys_of more) ≡ map string_bytes (keys_of es) ++ string_bytes key ∷ []
keys_behind es more key block is =
    ap (λ es. map string_bytes (keys_of es)) is ∙ ap (map string_bytes) (map_push (λ (e : String Global × BlockRecord). e.0) es (key, block))
    ∙ map_push string_bytes (keys_of es) key
