-- Branches of accepted blocks as chains by previous ids.
use Rattle.std.proofs.Common.{◌≡◌, ℕ, Bool, true, false, List, [], ◌∷◌, ◌++◌, map, reverse, Some, None, refl, sym, ap, subst, ◌∙◌, ◌⊎◌, inl, inr, arith}
use Rattle.std.specs.Prelude.{◌||◌, if◌then◌else◌}
use Rattle.std.specs.Cmp.Lexicographic.{nat_list_eq_equiv, same_text}
use Rattle.std.specs.List.{AllByRecursion}
use Rattle.std.specs.Str.{bytes_eq}
use Rattle.std.proofs.lemmas.List.{map_push, reverse-reverse}
use Rattle.std.proofs.lemmas.List.Folds.{list_any-append}
use Rattle.indexmap.proofs.ReorderLemmas.{map-reverse}
use Rattle.saw_context.proofs.Each.{all_left, all_right, all_weaker}
use Rattle.saw_receipts.specs.declared.block.BlockRecord.{BlockRecord}
use Rattle.saw_receipts.specs.Branches.{block_at, branch_back, branch_of, has_block, no_block}
use Rattle.saw_journal.specs.Judgement.{Kept}
use Rattle.saw_journal.specs.Linked.{AreChained, AreLinked, IsChainTo, StandsBehind}
use Rattle.saw_journal.proofs.Ids.{walk}
use Rattle.saw_journal.proofs.Named.{hex_names}
use Rattle.saw_journal.proofs.Linking.{AreBack, all_push, are_back, block_at-last, block_at-more, block_at-other, holds_at, latest_last}

-- a block that is found by its id
abbrev IsIn : List BlockRecord → BlockRecord → Type 0
IsIn blocks block = block_at blocks block.id ≡ Some block

-- a block that states no previous one, or one of these
abbrev KnowsPrevious : List BlockRecord → BlockRecord → Type 0
KnowsPrevious before block = (bytes_eq block.previous no_block || has_block before block.previous) ≡ true

-- ---- no block stands before the latest

or_more : (a b c : Bool) → (b ≡ true → c ≡ true) → (a || b) ≡ true → (a || c) ≡ true
or_more true b c more e = refl
or_more false b c more e = more e

has_more : (blocks : List BlockRecord) (more : BlockRecord) (id : List ℕ) → has_block blocks id ≡ true → has_block (blocks ++ more ∷ []) id ≡ true
has_more blocks more id has =
    list_any-append (λ (block : BlockRecord). bytes_eq block.id id) blocks (more ∷ []) ∙ ap (λ b. b || (bytes_eq more.id id || false)) has

knows_more : (before : List BlockRecord) (more block : BlockRecord) → KnowsPrevious before block → KnowsPrevious (before ++ more ∷ []) block
knows_more before more block knows =
    or_more (bytes_eq block.previous no_block) (has_block before block.previous) (has_block (before ++ more ∷ []) block.previous)
    (has_more before more block.previous) knows

all_know : (back : List BlockRecord) → AreBack back → AllByRecursion (KnowsPrevious (reverse back)) (reverse back)
all_know [] are = tt
all_know (latest ∷ earlier) are =
    subst (λ (blocks : List BlockRecord). AllByRecursion (KnowsPrevious blocks) blocks) (sym (latest_last earlier latest))
    (all_weaker (KnowsPrevious (reverse earlier)) (KnowsPrevious (reverse earlier ++ latest ∷ [])) (knows_more (reverse earlier) latest)
    (reverse earlier ++ latest ∷ [])
    (all_push (KnowsPrevious (reverse earlier)) (reverse earlier) latest (all_know earlier are.1) are.0.known))

not_previous : (before : List BlockRecord) (latest block : BlockRecord) → StandsBehind before latest → KnowsPrevious before block → (same : Bool)
    → bytes_eq block.previous latest.id ≡ same → same ≡ false
not_previous before latest block stands knows false is = refl
not_previous before latest block stands knows true is =
    let there : (bytes_eq latest.id no_block || has_block before latest.id) ≡ true =
    subst (λ (id : List ℕ). (bytes_eq id no_block || has_block before id) ≡ true) (same_text block.previous latest.id (sym is)) knows in
    let named = hex_names latest.id stands.form in
    let fresh = stands.fresh in
    absurd (grind (arith, there, named, fresh))

module _ (latest : BlockRecord) (earlier : List BlockRecord) (are : AreBack (latest ∷ earlier)) where
  -- no block states the latest as its previous one
  none_behind : AllByRecursion (λ block. bytes_eq block.previous latest.id ≡ false) (reverse earlier ++ latest ∷ [])
  none_behind =
      all_weaker (KnowsPrevious (reverse earlier)) (λ (block : BlockRecord). bytes_eq block.previous latest.id ≡ false)
      (λ block knows. not_previous (reverse earlier) latest block are.0 knows (bytes_eq block.previous latest.id) refl) (reverse earlier ++ latest ∷ [])
      (all_push (KnowsPrevious (reverse earlier)) (reverse earlier) latest (all_know earlier are.1) are.0.known)

  not_latest : (one next : BlockRecord) → next.previous ≡ one.id → bytes_eq next.previous latest.id ≡ false → bytes_eq latest.id one.id ≡ false
  not_latest one next states other = nat_list_eq_equiv.symm latest.id one.id ∙ ap (λ id. bytes_eq id latest.id) (sym states) ∙ other

  -- so the latest stands in a chain at its end only
  all_before : (previous : List ℕ) (front : List BlockRecord) (last : BlockRecord) → AreChained previous (front ++ last ∷ [])
      → AllByRecursion (λ block. bytes_eq block.previous latest.id ≡ false) (front ++ last ∷ [])
      → AllByRecursion (λ block. bytes_eq latest.id block.id ≡ false) front
  all_before previous [] last chained others = tt
  all_before previous (one ∷ []) last chained others = (not_latest one last chained.1.0 others.1.0, tt)
  all_before previous (one ∷ next ∷ front) last chained others =
      (not_latest one next chained.1.0 others.1.0, all_before one.id (next ∷ front) last chained.1 others.1)

  front_before : (front : List BlockRecord) (last : BlockRecord) → AreChained no_block (front ++ last ∷ [])
      → AllByRecursion (IsIn (reverse earlier ++ latest ∷ [])) (front ++ last ∷ [])
      → AllByRecursion (λ block. bytes_eq latest.id block.id ≡ false) front
  front_before front last chained among =
      all_before no_block front last chained
      (all_weaker (IsIn (reverse earlier ++ latest ∷ [])) (λ (block : BlockRecord). bytes_eq block.previous latest.id ≡ false)
      (λ block found. holds_at (λ (block : BlockRecord). bytes_eq block.previous latest.id ≡ false)
      (reverse earlier ++ latest ∷ []) block.id block none_behind found) (front ++ last ∷ []) among)

-- ---- the branch is a chain

pub no_walk : (back : List BlockRecord) → AreBack back → walk back no_block ≡ []
no_walk [] are = refl
no_walk (latest ∷ earlier) are = ap (λ b. if b then walk earlier latest.previous ++ latest ∷ [] else walk earlier no_block) (hex_names latest.id are.0.form) ∙ no_walk earlier are.1

chained_push : (previous : List ℕ) (front : List BlockRecord) (last new : BlockRecord) → AreChained previous (front ++ last ∷ [])
    → new.previous ≡ last.id → AreChained previous ((front ++ last ∷ []) ++ new ∷ [])
chained_push previous [] last new chained states = (chained.0, (states, tt))
chained_push previous (one ∷ front) last new chained states = (chained.0, chained_push one.id front last new chained.1 states)

-- blocks that lead to one with this previous id
record LeadsTo (blocks : List BlockRecord) (new : BlockRecord) (chain : List BlockRecord) : Type 0 where
  pub among : AllByRecursion (IsIn blocks) chain
  pub chained : AreChained no_block (chain ++ new ∷ [])

leads : (blocks : List BlockRecord) (new : BlockRecord) (chain : List BlockRecord) → IsChainTo blocks new.previous chain → LeadsTo blocks new chain
leads blocks new chain is = record {
  among = is.among;
  chained =
      subst (λ (chain : List BlockRecord). AreChained no_block (chain ++ new ∷ [])) (sym is.ends)
      (chained_push no_block is.front is.last new (subst (AreChained no_block) is.ends is.chained) (sym is.named));
}

leads_first : (blocks : List BlockRecord) (new : BlockRecord) (chain : List BlockRecord) → new.previous ≡ no_block → chain ≡ [] → LeadsTo blocks new chain
leads_first blocks new chain states none = record {
  among = subst (AllByRecursion (IsIn blocks)) (sym none) tt;
  chained = subst (λ (chain : List BlockRecord). AreChained no_block (chain ++ new ∷ [])) (sym none) (states, tt);
}

all_more : (blocks chain : List BlockRecord) (new : BlockRecord) → AllByRecursion (IsIn blocks) chain → AllByRecursion (IsIn (blocks ++ new ∷ [])) chain
all_more blocks chain new among = all_weaker (IsIn blocks) (IsIn (blocks ++ new ∷ []))
    (λ block found. block_at-more blocks (new ∷ []) block.id block found) chain among

ends_with : (blocks : List BlockRecord) (new : BlockRecord) (id : List ℕ) (chain : List BlockRecord) → StandsBehind blocks new
    → bytes_eq new.id id ≡ true → LeadsTo blocks new chain → IsChainTo (blocks ++ new ∷ []) id (chain ++ new ∷ [])
ends_with blocks new id chain stands it to = record {
  among = all_push (IsIn (blocks ++ new ∷ [])) chain new (all_more blocks chain new to.among) (block_at-last blocks new stands.fresh);
  chained = to.chained;
  front = chain;
  last = new;
  ends = refl;
  named = same_text new.id id (sym it);
}

chain_more : (blocks : List BlockRecord) (new : BlockRecord) (id : List ℕ) (chain : List BlockRecord) → IsChainTo blocks id chain
    → IsChainTo (blocks ++ new ∷ []) id chain
chain_more blocks new id chain is = record {
  among = all_more blocks chain new is.among;
  chained = is.chained;
  front = is.front;
  last =
      is.last;
  ends = is.ends;
  named = is.named;
}

or_nil : (a b : Bool) → (a || (b || false)) ≡ true → b ≡ false → a ≡ true
or_nil true b e other = refl
or_nil false true e other = absurd (grind (arith, other))
or_nil false false e other = e

-- with one more block
module _ (latest : BlockRecord) (earlier : List BlockRecord) (are : AreBack (latest ∷ earlier))
    (before : (id : List ℕ) → has_block (reverse earlier) id ≡ true → IsChainTo (reverse earlier) id (walk earlier id)) where
  leads_by : (first : Bool) → bytes_eq latest.previous no_block ≡ first → LeadsTo (reverse earlier) latest (walk earlier latest.previous)
  leads_by true is =
      let states : latest.previous ≡ no_block = same_text latest.previous no_block (sym is) in
      leads_first (reverse earlier) latest (walk earlier latest.previous) states (ap (walk earlier) states ∙ no_walk earlier are.1)
  leads_by false is =
      let has = ap (λ b. b || has_block (reverse earlier) latest.previous) (sym is) ∙ are.0.known in
      leads (reverse earlier) latest (walk earlier latest.previous) (before latest.previous has)

  chain_by : (id : List ℕ) (here : Bool) → bytes_eq latest.id id ≡ here → has_block (reverse earlier ++ latest ∷ []) id ≡ true
      → IsChainTo (reverse earlier ++ latest ∷ []) id (if here then walk earlier latest.previous ++ latest ∷ [] else walk earlier id)
  chain_by id true is has = ends_with (reverse earlier) latest id (walk earlier latest.previous) are.0 is (leads_by (bytes_eq latest.previous no_block) refl)
  chain_by id false is has =
      let old : has_block (reverse earlier) id ≡ true =
      or_nil (has_block (reverse earlier) id) (bytes_eq latest.id id)
      (sym (list_any-append (λ (block : BlockRecord). bytes_eq block.id id) (reverse earlier) (latest ∷ [])) ∙ has) is in
      chain_more (reverse earlier) latest id (walk earlier id) (before id old)

chain_back : (back : List BlockRecord) → AreBack back → (id : List ℕ) → has_block (reverse back) id ≡ true → IsChainTo (reverse back) id (walk back id)
chain_back [] are id has = absurd (grind (arith, has))
chain_back (latest ∷ earlier) are id has =
    let blocks = latest_last earlier latest in
    subst (λ (blocks : List BlockRecord). IsChainTo blocks id (walk (latest ∷ earlier) id)) (sym blocks)
    (chain_by latest earlier are (chain_back earlier are.1) id (bytes_eq latest.id id) refl
    (subst (λ (blocks : List BlockRecord). has_block blocks id ≡ true) blocks has))

-- ---- and the only one

unsnoc : (xs : List BlockRecord) → (xs ≡ []) ⊎ ((front : List BlockRecord) × (last : BlockRecord) × (xs ≡ front ++ last ∷ []))
unsnoc [] = inl refl
unsnoc (x ∷ xs) =
    elim (unsnoc xs) as (λ _. (x ∷ xs ≡ []) ⊎ ((front : List BlockRecord) × (last : BlockRecord) × (x ∷ xs ≡ front ++ last ∷ []))) [
      | inl none ↦ inr ([], x, ap (λ others. x ∷ others) none)
      | inr cut ↦ inr (x ∷ cut.0, cut.1, ap (λ others. x ∷ others) cut.2)
    ]

chained_front : (previous : List ℕ) (front : List BlockRecord) (last new : BlockRecord) → AreChained previous ((front ++ last ∷ []) ++ new ∷ [])
    → AreChained previous (front ++ last ∷ []) × (new.previous ≡ last.id)
chained_front previous [] last new chained = ((chained.0, tt), chained.1.0)
chained_front previous (one ∷ front) last new chained = let rest = chained_front one.id front last new chained.1 in ((chained.0, rest.0), rest.1)

-- that a chain which ends with this block is the branch
abbrev IsOnly : List BlockRecord → Type 0
IsOnly back =
    (front : List BlockRecord) (last : BlockRecord) → AllByRecursion (IsIn (reverse back)) (front ++ last ∷ [])
    → AreChained no_block (front ++ last ∷ []) → front ++ last ∷ [] ≡ walk back last.id

module _ (latest : BlockRecord) (earlier : List BlockRecord) (are : AreBack (latest ∷ earlier)) (before : IsOnly earlier) where
  all_earlier : (chain : List BlockRecord) → AllByRecursion (λ block. bytes_eq latest.id block.id ≡ false) chain
      → AllByRecursion (IsIn (reverse earlier ++ latest ∷ [])) chain → AllByRecursion (IsIn (reverse earlier)) chain
  all_earlier [] others among = tt
  all_earlier (block ∷ chain) others among = (sym (block_at-other (reverse earlier) latest block.id others.0) ∙ among.0, all_earlier chain others.1 among.1)

  front_is : (front : List BlockRecord) → AllByRecursion (IsIn (reverse earlier)) front → AreChained no_block (front ++ latest ∷ [])
      → (front ≡ []) ⊎ ((start : List BlockRecord) × (last : BlockRecord) × (front ≡ start ++ last ∷ [])) → front ≡ walk earlier latest.previous
  front_is front among chained (inl none) =
      let states : latest.previous ≡ no_block = (subst (λ (front : List BlockRecord). AreChained no_block (front ++ latest ∷ [])) none chained).0 in
      none ∙ sym (ap (walk earlier) states ∙ no_walk earlier are.1)
  front_is front among chained (inr cut) =
      let parts = chained_front no_block cut.0 cut.1 latest (subst (λ (front : List BlockRecord). AreChained no_block (front ++ latest ∷ [])) cut.2 chained) in
      cut.2 ∙ before cut.0 cut.1 (subst (AllByRecursion (IsIn (reverse earlier))) cut.2 among) parts.0 ∙ ap (walk earlier) (sym parts.1)

  last_is : (last : BlockRecord) → bytes_eq latest.id last.id ≡ true → IsIn (reverse earlier ++ latest ∷ []) last → last ≡ latest
  last_is last is found =
      let same : latest.id ≡ last.id = same_text latest.id last.id (sym is) in
      let there : Some last ≡ Some latest = sym found ∙ ap (block_at (reverse earlier ++ latest ∷ [])) (sym same)
      ∙ block_at-last (reverse earlier) latest are.0.fresh in
      cc

  only_by : (front : List BlockRecord) (last : BlockRecord) → AllByRecursion (IsIn (reverse earlier ++ latest ∷ [])) (front ++ last ∷ [])
      → AreChained no_block (front ++ last ∷ [])
      → (here : Bool) → bytes_eq latest.id last.id ≡ here → front ++ last ∷ [] ≡
      (if here then walk earlier latest.previous ++ latest ∷ [] else walk earlier last.id)
  only_by front last among chained here is =
      let others = front_before latest earlier are front last chained among in
      elim here as (λ h. here ≡ h → front ++ last ∷ [] ≡ (if h then walk earlier latest.previous ++ latest ∷ [] else walk earlier last.id)) [
        | true ↦ λ e.
            let last_one : last ≡ latest = last_is last (is ∙ e) (all_right (IsIn (reverse earlier ++ latest ∷ [])) front (last ∷ []) among).0 in
            let front_one : front ≡ walk earlier latest.previous =
            front_is front (all_earlier front others (all_left (IsIn (reverse earlier ++ latest ∷ [])) front (last ∷ []) among))
            (subst (λ (last : BlockRecord). AreChained no_block (front ++ last ∷ [])) last_one chained) (unsnoc front) in
            ap (λ (last : BlockRecord). front ++ last ∷ []) last_one ∙ ap (λ front. front ++ latest ∷ []) front_one
        | false ↦ λ e.
            before front last
            (all_earlier (front ++ last ∷ []) (all_push (λ (block : BlockRecord). bytes_eq latest.id block.id ≡ false) front last others (is ∙ e))
            among) chained
      ] refl

only_back : (back : List BlockRecord) → AreBack back → IsOnly back
only_back [] are front last among chained =
    let found : None ≡ Some last = (all_right (IsIn []) front (last ∷ []) among).0 in absurd (grind (arith, found))
only_back (latest ∷ earlier) are front last among chained =
    only_by latest earlier are (only_back earlier are.1) front last
    (subst (λ (blocks : List BlockRecord). AllByRecursion (IsIn blocks) (front ++ last ∷ [])) (latest_last earlier latest) among) chained
    (bytes_eq latest.id last.id) refl

-- ---- the laws

module _ (blocks : List BlockRecord) (linked : AreLinked blocks) where
  pub branch_is_chain : (id : List ℕ) → has_block blocks id ≡ true → IsChainTo blocks id (branch_of (λ block. block) blocks id)
  branch_is_chain id has =
      subst (λ (all : List BlockRecord). IsChainTo all id (branch_of (λ block. block) blocks id)) (reverse-reverse blocks)
      (chain_back (reverse blocks) (are_back blocks linked) id (subst (λ (all : List BlockRecord). has_block all id ≡ true) (sym (reverse-reverse blocks)) has))

  pub only_chain : (id : List ℕ) (chain : List BlockRecord) → IsChainTo blocks id chain → chain ≡ branch_of (λ block. block) blocks id
  only_chain id chain is =
      is.ends
      ∙ only_back (reverse blocks) (are_back blocks linked) is.front is.last
      (subst (λ (all : List BlockRecord). AllByRecursion (IsIn all) (is.front ++ is.last ∷ [])) (sym (reverse-reverse blocks))
      (subst (AllByRecursion (IsIn blocks)) is.ends is.among))
      (subst (AreChained no_block) is.ends is.chained)
      ∙ ap (walk (reverse blocks)) is.named

kept_by : (here : Bool) (latest : Kept) (a b : List Kept) (c d : List BlockRecord) → map (λ kept. kept.block) a ≡ c → map (λ kept. kept.block) b ≡ d
    → map (λ kept. kept.block) (if here then a ++ latest ∷ [] else b) ≡ (if here then c ++ latest.block ∷ [] else d)
kept_by true latest a b c d one other = map_push (λ (kept : Kept). kept.block) a latest ∙ ap (λ blocks. blocks ++ latest.block ∷ []) one
kept_by false latest a b c d one other = other

kept_back : (back : List Kept) (id : List ℕ) → map (λ kept. kept.block) (branch_back (λ kept. kept.block) back id) ≡ walk (map (λ kept. kept.block) back) id
kept_back [] id = refl
kept_back (latest ∷ earlier) id =
    kept_by (bytes_eq latest.block.id id) latest (branch_back (λ kept. kept.block) earlier latest.block.previous) (branch_back (λ kept. kept.block) earlier id)
    (walk (map (λ kept. kept.block) earlier) latest.block.previous) (walk (map (λ kept. kept.block) earlier) id)
    (kept_back earlier latest.block.previous) (kept_back earlier id)

pub kept_branch_is : (accepted : List Kept) (id : List ℕ) → map (λ kept. kept.block) (branch_of (λ kept. kept.block) accepted id) ≡ branch_of
    (λ block. block) (map (λ kept. kept.block) accepted) id
kept_branch_is accepted id = kept_back (reverse accepted) id ∙ ap (λ back. walk back id) (map-reverse (λ (kept : Kept). kept.block) accepted)
