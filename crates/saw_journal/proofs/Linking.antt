-- Blocks that stand behind those that came before them.
use Rattle.std.proofs.Common.{◌≡◌, ◌+◌, ◌<◌, ℕ, Bool, true, false, List, [], ◌∷◌, ◌++◌, length, reverse, Option, Some, None, refl, sym, ap, subst}
use Rattle.std.proofs.Common.{◌∙◌, ◌⊎◌, inl, inr, arith}
use Rattle.std.specs.Prelude.{◌||◌, IfSome, if◌then◌else◌}
use Rattle.std.specs.Cmp.Lexicographic.{nat_list_eq_equiv}
use Rattle.std.specs.List.{AllByRecursion}
use Rattle.std.specs.Str.{bytes_eq}
use Rattle.std.proofs.lemmas.List.{append_assoc, length_push, reverse-append, reverse-reverse}
use Rattle.saw_context.proofs.Each.{all_append, all_weaker}
use Rattle.saw_receipts.specs.declared.block.BlockRecord.{BlockRecord}
use Rattle.saw_journal.specs.BlockFaults.{due_behind}
use Rattle.saw_receipts.specs.Branches.{block_at, has_block, no_block}
use Rattle.saw_receipts.specs.Heads.{head_after, head_of, is_new_head}
use Rattle.saw_journal.specs.Linked.{AreLinked, StandsBehind, parent_in}

-- ---- lists

pub all_push : {X : Type 0} (P : X → Type 0) (xs : List X) (x : X) → AllByRecursion P xs → P x → AllByRecursion P (xs ++ x ∷ [])
all_push P xs x all last = all_append P xs (x ∷ []) all (last, tt)

pub either_false : (a b : Bool) → (a || b) ≡ false → (a ≡ false) × (b ≡ false)
either_false true b e = absurd cc
either_false false b e = (refl, e)

no_elements : {X : Type 0} (before after : List X) (x : X) → (◌≡◌ {A = List X} [] (before ++ x ∷ after)) → ⊥
no_elements [] after x e = absurd cc
no_elements (y ∷ before) after x e = absurd cc

pub cons_parts : {X : Type 0} (x y : X) (xs ys : List X) → (◌≡◌ {A = List X} (x ∷ xs) (y ∷ ys)) → (x ≡ y) × (xs ≡ ys)
cons_parts x y xs ys e = (cc, cc)

-- a list with one more element is cut at the last or before it
cut_push : {X : Type 0} (xs before after : List X) (x y : X) → xs ++ x ∷ [] ≡ before ++ y ∷ after → ((xs ≡ before) × (x ≡ y))
    ⊎ ((rest : List X) × (xs ≡ before ++ y ∷ rest))
cut_push [] [] after x y e = inl (refl, (cons_parts x y [] after e).0)
cut_push [] (z ∷ before) after x y e = absurd (no_elements before after y (cons_parts x z [] (before ++ y ∷ after) e).1)
cut_push (z ∷ xs) [] after x y e = inr (xs, ap (λ first. first ∷ xs) (cons_parts z y (xs ++ x ∷ []) after e).0)
cut_push {X = X} (z ∷ xs) (w ∷ before) after x y e =
    let parts = cons_parts z w (xs ++ x ∷ []) (before ++ y ∷ after) e in
    elim (cut_push xs before after x y parts.1) as (λ cut. ((z ∷ xs ≡ w ∷ before) × (x ≡ y)) ⊎ ((rest : List X) × (z ∷ xs ≡ w ∷ before ++ y ∷ rest))) [
      | inl same ↦ inl (ap (λ first. first ∷ xs) parts.0 ∙ ap (λ others. w ∷ others) same.0, same.1)
      | inr cut ↦ inr (cut.0, ap (λ first. first ∷ xs) parts.0 ∙ ap (λ others. w ∷ others) cut.1)
    ]

-- ---- blocks by their ids

found_or : (P : BlockRecord → Type 0) (here : Bool) (block : BlockRecord) (others : Option BlockRecord) → P block → IfSome others P
    → IfSome (if here then Some block else others) P
found_or P true block others holds later = holds
found_or P false block others holds later = later

-- what is so of each block is so of one that is found
pub found_so : (P : BlockRecord → Type 0) (blocks : List BlockRecord) (id : List ℕ) → AllByRecursion P blocks → IfSome (block_at blocks id) P
found_so P [] id all = tt
found_so P (block ∷ blocks) id all = found_or P (bytes_eq block.id id) block (block_at blocks id) all.0 (found_so P blocks id all.1)

pub holds_at : (P : BlockRecord → Type 0) (blocks : List BlockRecord) (id : List ℕ) (block : BlockRecord) → AllByRecursion P blocks
    → block_at blocks id ≡ Some block → P block
holds_at P blocks id block all found = subst (λ (found : Option BlockRecord). IfSome found P) found (found_so P blocks id all)

still_here : (here : Bool) (one block : BlockRecord) (others more : Option BlockRecord) → (others ≡ Some block → more ≡ Some block)
    → (if here then Some one else others) ≡ Some block → (if here then Some one else more) ≡ Some block
still_here true one block others more later e = e
still_here false one block others more later e = later e

-- a block that is found still is with more behind
pub block_at-more : (blocks more : List BlockRecord) (id : List ℕ) (block : BlockRecord) → block_at blocks id ≡ Some block
    → block_at (blocks ++ more) id ≡ Some block
block_at-more [] more id block e = absurd (grind (arith, e))
block_at-more (one ∷ blocks) more id block e = still_here (bytes_eq one.id id) one block (block_at blocks id) (block_at (blocks ++ more) id)
    (block_at-more blocks more id block) e

-- a block behind others that do not have its id is found by it
pub block_at-last : (blocks : List BlockRecord) (block : BlockRecord) → has_block blocks block.id ≡ false
    → block_at (blocks ++ block ∷ []) block.id ≡ Some block
block_at-last [] block fresh = ap (λ b. if b then Some block else None) (nat_list_eq_equiv.refl block.id)
block_at-last (one ∷ blocks) block fresh =
    let apart = either_false (bytes_eq one.id block.id) (has_block blocks block.id) fresh in
    ap (λ b. if b then Some one else block_at (blocks ++ block ∷ []) block.id) apart.0 ∙ block_at-last blocks block apart.1

-- by another id the same is found without it
pub block_at-other : (blocks : List BlockRecord) (block : BlockRecord) (id : List ℕ) → bytes_eq block.id id ≡ false
    → block_at (blocks ++ block ∷ []) id ≡ block_at blocks id
block_at-other [] block id other = ap (λ b. if b then Some block else None) other
block_at-other (one ∷ blocks) block id other = ap (λ (found : Option BlockRecord). if bytes_eq one.id id then Some one else found)
    (block_at-other blocks block id other)

-- ---- blocks of which the latest comes first

-- each block stands behind those that came before it
abbrev pub AreBack : List BlockRecord → Type 0
AreBack [] = Unit {0}
AreBack (latest ∷ earlier) = StandsBehind (reverse earlier) latest × AreBack earlier

pub latest_last : (earlier : List BlockRecord) (latest : BlockRecord) → reverse (latest ∷ earlier) ≡ reverse earlier ++ latest ∷ []
latest_last earlier latest = reverse-append (latest ∷ []) earlier

all_back : (back : List BlockRecord) → AreLinked (reverse back) → AreBack back
all_back [] linked = tt
all_back (latest ∷ earlier) linked =
    let here : AreLinked (reverse earlier ++ latest ∷ []) = subst AreLinked (latest_last earlier latest) linked in (
      here (reverse earlier) [] latest refl,
      all_back earlier (λ before after block e. here before (after ++ latest ∷ []) block
          (ap (λ blocks. blocks ++ latest ∷ []) e ∙ append_assoc before (block ∷ after) (latest ∷ []))),
    )

pub are_back : (blocks : List BlockRecord) → AreLinked blocks → AreBack (reverse blocks)
are_back blocks linked = all_back (reverse blocks) (subst AreLinked (sym (reverse-reverse blocks)) linked)

-- ---- one more block

pub none_linked : AreLinked []
none_linked = λ before after block e. absurd (no_elements before after block e)

stands_at : (blocks before : List BlockRecord) (new block : BlockRecord) → AreLinked blocks → StandsBehind blocks new
    → ((blocks ≡ before) × (new ≡ block)) ⊎ ((rest : List BlockRecord) × (blocks ≡ before ++ block ∷ rest)) → StandsBehind before block
stands_at blocks before new block linked stands (inl same) =
    subst (λ (before : List BlockRecord). StandsBehind before block) same.0 (subst (λ (block : BlockRecord). StandsBehind blocks block) same.1 stands)
stands_at blocks before new block linked stands (inr cut) = linked before cut.0 block cut.1

pub linked_push : (blocks : List BlockRecord) (new : BlockRecord) → AreLinked blocks → StandsBehind blocks new → AreLinked (blocks ++ new ∷ [])
linked_push blocks new linked stands = λ before after block e. stands_at blocks before new block linked stands (cut_push blocks before after new block e)

-- ---- each block is found by its id

found_back : (back : List BlockRecord) → AreBack back → AllByRecursion (λ block. block_at (reverse back) block.id ≡ Some block) (reverse back)
found_back [] are = tt
found_back (latest ∷ earlier) are =
    subst (λ (blocks : List BlockRecord). AllByRecursion (λ block. block_at blocks block.id ≡ Some block) blocks) (sym (latest_last earlier latest))
    (all_push (λ (block : BlockRecord). block_at (reverse earlier ++ latest ∷ []) block.id ≡ Some block) (reverse earlier) latest
    (all_weaker (λ (block : BlockRecord). block_at (reverse earlier) block.id ≡ Some block)
    (λ (block : BlockRecord). block_at (reverse earlier ++ latest ∷ []) block.id ≡ Some block)
    (λ block found. block_at-more (reverse earlier) (latest ∷ []) block.id block found) (reverse earlier) (found_back earlier are.1))
    (block_at-last (reverse earlier) latest are.0.fresh))

pub all_found : (blocks : List BlockRecord) → AreLinked blocks → AllByRecursion (λ block. block_at blocks block.id ≡ Some block) blocks
all_found blocks linked =
    subst (λ (blocks : List BlockRecord). AllByRecursion (λ block. block_at blocks block.id ≡ Some block) blocks) (reverse-reverse blocks)
    (found_back (reverse blocks) (are_back blocks linked))

-- ---- numbers

due_within : (found : Option BlockRecord) (n : ℕ) → IfSome found (λ block. block.number < n) → due_behind found < n + 1
due_within None n below = omega arith
due_within (Some block) n below = omega (arith, below)

parent_so : (first : Bool) (found : Option BlockRecord) (P : BlockRecord → Type 0) → IfSome found P → IfSome (if first then None else found) P
parent_so true found P so = tt
parent_so false found P so = so

below_back : (back : List BlockRecord) → AreBack back → AllByRecursion (λ block. block.number < length (reverse back)) (reverse back)
below_back [] are = tt
below_back (latest ∷ earlier) are =
    let before = below_back earlier are.1 in
    let count = length_push (reverse earlier) latest in
    let parent = parent_so (bytes_eq latest.previous no_block) (block_at (reverse earlier) latest.previous)
    (λ (block : BlockRecord). block.number < length (reverse earlier))
    (found_so (λ (block : BlockRecord). block.number < length (reverse earlier)) (reverse earlier) latest.previous before) in
    let due = due_within (parent_in (reverse earlier) latest.previous) (length (reverse earlier)) parent in
    subst (λ (blocks : List BlockRecord). AllByRecursion (λ block. block.number < length blocks) blocks) (sym (latest_last earlier latest))
    (all_push (λ (block : BlockRecord). block.number < length (reverse earlier ++ latest ∷ [])) (reverse earlier) latest
    (all_weaker (λ (block : BlockRecord). block.number < length (reverse earlier))
    (λ (block : BlockRecord). block.number < length (reverse earlier ++ latest ∷ []))
    (λ block below. omega (arith, below, count)) (reverse earlier) before)
    (omega (arith, due, are.0.number, count)))

-- a block's number is less than the count of the blocks
pub all_below : (blocks : List BlockRecord) → AreLinked blocks → AllByRecursion (λ block. block.number < length blocks) blocks
all_below blocks linked =
    subst (λ (blocks : List BlockRecord). AllByRecursion (λ block. block.number < length blocks) blocks) (reverse-reverse blocks)
    (below_back (reverse blocks) (are_back blocks linked))

-- ---- the head

chosen_so : (P : BlockRecord → Type 0) (is_head : Bool) (head : Option BlockRecord) (new : BlockRecord) → IfSome head P → P new
    → IfSome (if is_head then Some new else head) P
chosen_so P true head new so holds = holds
chosen_so P false head new so holds = so

after_so : (P : BlockRecord → Type 0) (head : Option BlockRecord) (blocks : List BlockRecord) → IfSome head P → AllByRecursion P blocks
    → IfSome (head_after head blocks) P
after_so P head [] so all = so
after_so P head (new ∷ others) so all = after_so P (if is_new_head head new then Some new else head) others
    (chosen_so P (is_new_head head new) head new so all.0) all.1

-- what is so of each block is so of the head
pub head_so : (P : BlockRecord → Type 0) (blocks : List BlockRecord) → AllByRecursion P blocks → IfSome (head_of blocks) P
head_so P blocks all = after_so P None blocks tt all
