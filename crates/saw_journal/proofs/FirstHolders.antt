-- First holders of ids, and what they tell of a branch.
use Rattle.std.proofs.Common.{◌≡◌, ℕ, Bool, true, false, cond, ◌||◌, ◌&&◌, ◌==◌, List, [], ◌∷◌, ◌++◌, Option, Some, None, length, refl, sym, ap, subst}
use Rattle.std.proofs.Common.{◌∙◌, ◌⊎◌, inl, inr, if◌then◌else◌, is_some, option_map, append_assoc, append-nil, true≢false}
use Rattle.std.specs.Arc.{arc_value}
use Rattle.std.specs.Cmp.Lexicographic.{nat_list_eq_equiv, same_text}
use Rattle.std.specs.Global.{Global}
use Rattle.std.specs.List.{AllByRecursion}
use Rattle.std.specs.Map.{lookup}
use Rattle.std.specs.Str.{bytes_eq}
use Rattle.std.specs.declared.sync.Arc.{Arc}
use Rattle.std.proofs.lemmas.Bool.{and_parts}
use Rattle.std.proofs.lemmas.List.Folds.{list_any-append}
use Rattle.hex.specs.Hex.{encode_lower}
use Rattle.indexmap.specs.IndexMap.{insert_entry}
use Rattle.saw_context.proofs.Each.{all_append}
use Rattle.saw_ids.specs.Seen.{is_among}
use Rattle.saw_ids.specs.Sets.{HasIds}
use Rattle.saw_ids.specs.declared.set.IdSet.{IdSet}
use Rattle.saw_plan.specs.SortingSteps.{both}
use Rattle.saw_plan.specs.StaticRules.{Ids}
use Rattle.saw_receipts.specs.Branches.{batch_ids, has_block}
use Rattle.saw_receipts.specs.declared.block.BlockRecord.{BlockRecord}
use Rattle.saw_journal.specs.IdKeys.{key_by, key_of, packed}
use Rattle.saw_journal.specs.KnownBranches.{AddHeld, AddsHeld, AreAccepted, FirstHolders, KnowsBranch, KnowsIds, KnowsWith, Told, has_key, holder_in, is_held}
use Rattle.saw_journal.specs.declared.branch_ids.BranchIds.{BranchIds}
use Rattle.saw_journal.specs.declared.branch_ids.Holders.{Holders}

-- ---- truth values

or_true : (b : Bool) → (b || true) ≡ true
or_true true = refl
or_true false = refl

or_false : (b : Bool) → (b || false) ≡ b
or_false true = refl
or_false false = refl

or_moves : (a b c : Bool) → ((a || (b || false)) || c) ≡ ((a || c) || (b || false))
or_moves true b c = refl
or_moves false true true = refl
or_moves false true false = refl
or_moves false false true = refl
or_moves false false false = refl

or_weaker : (a b c : Bool) → (a ≡ true → c ≡ true) → (a || b) ≡ true → (c || b) ≡ true
or_weaker true b c so is = ap (λ c. c || b) (so refl)
or_weaker false b c so is = ap (λ b. c || b) is ∙ or_true c

-- ---- entries

abbrev pub Entries : Type 0
Entries = List (List ℕ × Arc (List ℕ) Global)

abbrev pub named : List ℕ → List ℕ → Bool
named id = λ key. has_key (key_of id) key

abbrev pub first : Entries → List ℕ → Option (List ℕ)
first es id = option_map arc_value (lookup (named id) es)

abbrev or_else : {X : Type 0} → Option X → Option X → Option X
or_else None other = other
or_else (Some x) other = Some x

or_none : {X : Type 0} (at : Option X) → or_else at None ≡ at
or_none None = refl
or_none (Some x) = refl

look_on : {X : Type 0} (here : Bool) (x : X) (whole before behind : Option X) → whole ≡ or_else before behind
    → cond here (Some x) whole ≡ or_else (cond here (Some x) before) behind
look_on true x whole before behind e = refl
look_on false x whole before behind e = e

lookup_append : (test : List ℕ → Bool) (es more : Entries) → lookup test (es ++ more) ≡ or_else (lookup test es) (lookup test more)
lookup_append test [] more = refl
lookup_append test (e ∷ es) more = look_on (test e.0) e.1 (lookup test (es ++ more)) (lookup test es) (lookup test more) (lookup_append test es more)

none_here : {X : Type 0} (here : Bool) (x : X) (others : Option X) → cond here (Some x) others ≡ None → (here ≡ false) × (others ≡ None)
none_here true x others e = absurd cc
none_here false x others e = (refl, e)

-- a key that is not there is put last
pub put_new : (es : Entries) (key : List ℕ) (value : Arc (List ℕ) Global) → lookup (bytes_eq key) es ≡ None
    → insert_entry bytes_eq es key value ≡ es ++ (key, value) ∷ []
put_new [] key value none = refl
put_new (e ∷ es) key value none =
    let parts = none_here (bytes_eq key e.0) e.1 (lookup (bytes_eq key) es) none in
    ap (λ b. if b then (e.0, value) ∷ es else e ∷ insert_entry bytes_eq es key value) parts.0
    ∙ ap (λ rest. e ∷ rest) (put_new es key value parts.1)

none_named : (es : Entries) → lookup (λ key. has_key None key) es ≡ None
none_named [] = refl
none_named (e ∷ es) = none_named es

-- an id without a key has no holder
pub without_key : (es : Entries) (id : List ℕ) → key_of id ≡ None → first es id ≡ None
without_key es id none = ap (λ at. option_map arc_value (lookup (λ key. has_key at key) es)) none ∙ ap (option_map arc_value) (none_named es)

pub none_of : {X : Type 0} (at : Option X) → false ≡ is_some at → at ≡ None
none_of None none = refl
none_of (Some x) none = absurd cc

-- ---- keys

so_written : (so : Bool) (id bytes key : List ℕ) → (so ≡ true → bytes_eq id (encode_lower bytes) ≡ true) → (if so then Some bytes else None) ≡ Some key
    → id ≡ encode_lower key
so_written true id bytes key is e =
    let it : bytes ≡ key = cc in same_text id (encode_lower bytes) (sym (is refl)) ∙ ap (λ bytes. encode_lower bytes) it
so_written false id bytes key is e = absurd cc

-- a key tells its id
id_of_key : (id bytes key : List ℕ) → key_by id bytes ≡ Some key → id ≡ encode_lower key
id_of_key id bytes key e =
    so_written (length id == 128 && bytes_eq id (encode_lower bytes)) id bytes key
    (λ so. (and_parts (length id == 128) (bytes_eq id (encode_lower bytes)) so).1) e

module _ (id q key : List ℕ) (key_is : key_of id ≡ Some key) (apart : bytes_eq id q ≡ false) where
  not_its : (its : List ℕ) (same : Bool) → key_of q ≡ Some its → bytes_eq its key ≡ same → bytes_eq its key ≡ false
  not_its its true other e =
      let is : id ≡ q =
      id_of_key id (packed id) key key_is ∙ ap (λ bytes. encode_lower bytes) (sym (same_text its key (sym e)))
      ∙ sym (id_of_key q (packed q) its other) in
      absurd (true≢false (sym (nat_list_eq_equiv.refl id) ∙ ap (bytes_eq id) is ∙ apart))
  not_its its false other e = e

  -- another id has another key, or none
  other_key : (at : Option (List ℕ)) → key_of q ≡ at → has_key at key ≡ false
  other_key None is = refl
  other_key (Some its) is = not_its its (bytes_eq its key) is refl

-- ---- one id more

-- it is put into the set of others
pub by_others : (holder : List ℕ → Option (List ℕ)) (chain ids : List (List ℕ)) (old new : IdSet) (id : List ℕ)
    → ((others : List (List ℕ)) → HasIds old others → HasIds new (others ++ id ∷ [])) → Told holder chain old ids
    → Told holder chain new (ids ++ id ∷ [])
by_others holder chain ids old new id inserts told = record {
  others = told.others ++ id ∷ [];
  has = inserts told.others told.has;
  each = λ q. ap (λ b. b || is_held (holder q) chain) (list_any-append (λ x. bytes_eq x q) told.others (id ∷ []))
      ∙ or_moves (is_among told.others q) (bytes_eq id q) (is_held (holder q) chain)
      ∙ ap (λ b. b || (bytes_eq id q || false)) (told.each q) ∙ sym (list_any-append (λ x. bytes_eq x q) ids (id ∷ []));
}

-- the same as a batch's or a transaction's in what is kept
pub one_batch_more : (holders : Holders) (kept : BranchIds) (set : IdSet) (there : Ids) (id : List ℕ)
    → ((others : List (List ℕ)) → HasIds kept.batches others → HasIds set (others ++ id ∷ [])) → KnowsIds holders kept there
    → KnowsIds holders (record { blocks = kept.blocks; batches = set; transactions = kept.transactions })
    (record { batches = there.batches ++ id ∷ []; transactions = there.transactions })
one_batch_more holders kept set there id inserts knows = record {
  chain = knows.chain;
  has = knows.has;
  batches = by_others (holder_in holders.batches) knows.chain there.batches kept.batches set id inserts knows.batches;
  transactions = knows.transactions;
}

pub one_transaction_more : (holders : Holders) (kept : BranchIds) (set : IdSet) (there : Ids) (id : List ℕ)
    → ((others : List (List ℕ)) → HasIds kept.transactions others → HasIds set (others ++ id ∷ [])) → KnowsIds holders kept there
    → KnowsIds holders (record { blocks = kept.blocks; batches = kept.batches; transactions = set })
    (record { batches = there.batches; transactions = there.transactions ++ id ∷ [] })
one_transaction_more holders kept set there id inserts knows = record {
  chain = knows.chain;
  has = knows.has;
  batches = knows.batches;
  transactions = by_others (holder_in holders.transactions) knows.chain there.transactions kept.transactions set id inserts knows.transactions;
}

module _ (es : Entries) (key : List ℕ) (value : Arc (List ℕ) Global) (id block : List ℕ) (key_is : key_of id ≡ Some key)
    (value_is : arc_value value ≡ block) (none : lookup (named id) es ≡ None) where
  abbrev grown : Entries
  grown = es ++ (key, value) ∷ []

  its_holder : first grown id ≡ Some block
  its_holder =
      ap (option_map arc_value) (lookup_append (named id) es ((key, value) ∷ [])
      ∙ ap (λ (at : Option (Arc (List ℕ) Global)). or_else at (lookup (named id) ((key, value) ∷ []))) none
      ∙ ap (λ b. cond b (Some value) None) (ap (λ its. has_key its key) key_is ∙ nat_list_eq_equiv.refl key))
      ∙ ap (λ (block : List ℕ). Some block) value_is

  other_holder : (q : List ℕ) → bytes_eq id q ≡ false → first grown q ≡ first es q
  other_holder q apart =
      ap (option_map arc_value) (lookup_append (named q) es ((key, value) ∷ [])
      ∙ ap (λ b. or_else (lookup (named q) es) (cond b (Some value) None)) (other_key id q key key_is apart (key_of q) refl)
      ∙ or_none (lookup (named q) es))

  module _ (chain ids : List (List ℕ)) (set : IdSet) (here : is_among chain block ≡ true) (told : Told (first es) chain set ids) where
    at_id : (is_among told.others id || is_held (first grown id) chain) ≡ is_among (ids ++ id ∷ []) id
    at_id =
        ap (λ b. is_among told.others id || b) (ap (λ (holder : Option (List ℕ)). is_held holder chain) its_holder ∙ here) ∙ or_true (is_among told.others id)
        ∙ sym (list_any-append (λ x. bytes_eq x id) ids (id ∷ []) ∙ ap (λ b. is_among ids id || (b || false)) (nat_list_eq_equiv.refl id)
        ∙ or_true (is_among ids id))

    at_other : (q : List ℕ) → bytes_eq id q ≡ false → (is_among told.others q || is_held (first grown q) chain) ≡ is_among (ids ++ id ∷ []) q
    at_other q apart =
        ap (λ (holder : Option (List ℕ)). is_among told.others q || is_held holder chain) (other_holder q apart) ∙ told.each q
        ∙ sym (list_any-append (λ x. bytes_eq x q) ids (id ∷ []) ∙ ap (λ b. is_among ids q || (b || false)) apart ∙ or_false (is_among ids q))

    at_any : (q : List ℕ) (same : Bool) → bytes_eq id q ≡ same → (is_among told.others q || is_held (first grown q) chain) ≡ is_among (ids ++ id ∷ []) q
    at_any q true e =
        subst (λ (q : List ℕ). (is_among told.others q || is_held (first grown q) chain) ≡ is_among (ids ++ id ∷ []) q) (same_text id q (sym e)) at_id
    at_any q false e = at_other q e

    -- the block is its first holder
    pub by_first : Told (first grown) chain set (ids ++ id ∷ [])
    by_first = record { others = told.others; has = told.has; each = λ q. at_any q (bytes_eq id q) refl }

-- ---- no blocks, and the same once more

none_held : (holder : Option (List ℕ)) → is_held holder [] ≡ false
none_held None = refl
none_held (Some block) = refl

pub knows_none : (all : List BlockRecord) (holders : Holders) (kept : BranchIds) → HasIds kept.blocks [] → HasIds kept.batches []
    → HasIds kept.transactions [] → KnowsBranch all holders kept (record { batches = []; transactions = [] })
knows_none all holders kept blocks batches transactions = record {
  knows = record {
    chain = [];
    has = blocks;
    batches = record { others = []; has = batches; each = λ q. none_held (holder_in holders.batches q) };
    transactions = record { others = []; has = transactions; each = λ q. none_held (holder_in holders.transactions q) };
  };
  accepted = λ id here. absurd (true≢false (sym here));
}

abbrev pub Shares : IdSet → IdSet → Type 0
Shares set made = (ids : List (List ℕ)) → HasIds set ids → HasIds made ids

pub knows_shared : (all : List BlockRecord) (holders : Holders) (there : Ids) (kept made : BranchIds) → Shares kept.blocks made.blocks
    → Shares kept.batches made.batches → Shares kept.transactions made.transactions → KnowsBranch all holders kept there
    → KnowsBranch all holders made there
knows_shared all holders there kept made blocks batches transactions knows =
    let now = knows.knows in record {
      knows = record {
        chain = now.chain;
        has = blocks now.chain now.has;
        batches = record { others = now.batches.others; has = batches now.batches.others now.batches.has; each = now.batches.each };
        transactions = record {
          others = now.transactions.others;
          has = transactions now.transactions.others now.transactions.has;
          each = now.transactions.each;
        };
      };
      accepted = knows.accepted;
    }

both_none : (there : Ids) → both there (batch_ids []) ≡ there
both_none there = rw (append-nil there.batches, append-nil there.transactions) refl

pub with_none : (block : List ℕ) (holders : Holders) (kept : BranchIds) (there : Ids) → KnowsWith block holders kept there
    → KnowsWith block holders kept (both there (batch_ids []))
with_none block holders kept there knows = subst (λ (ids : Ids). KnowsWith block holders kept ids) (sym (both_none there)) knows

-- ---- more first holders

module _ {S : Type 0} (block : List ℕ) where
  adds_none : (old new : FirstHolders S) → new.entries ≡ old.entries → AddsHeld block old new
  adds_none old new same = record { more = []; grown = same ∙ sym (append-nil old.entries); are = tt }

  pub adds_one : (old new : FirstHolders S) (key : List ℕ) (value : Arc (List ℕ) Global) → new.entries ≡ old.entries ++ (key, value) ∷ []
      → arc_value value ≡ block → AddsHeld block old new
  adds_one old new key value put is = record { more = (key, value) ∷ []; grown = put; are = (is, tt) }

  pub adds_both : (old mid new : FirstHolders S) → AddsHeld block old mid → AddsHeld block mid new → AddsHeld block old new
  adds_both old mid new one two = record {
    more = one.more ++ two.more;
    grown = two.grown ∙ ap (λ es. es ++ two.more) one.grown ∙ append_assoc old.entries one.more two.more;
    are = all_append (λ (entry : List ℕ × Arc (List ℕ) Global). arc_value entry.1 ≡ block) one.more two.more one.are two.are;
  }

pub add_none : (block : List ℕ) (old : Holders) → AddHeld block old old
add_none block old = record { batches = adds_none block old.batches old.batches refl; transactions = adds_none block old.transactions old.transactions refl }

pub add_both : (block : List ℕ) (old mid new : Holders) → AddHeld block old mid → AddHeld block mid new → AddHeld block old new
add_both block old mid new one two = record {
  batches = adds_both block old.batches mid.batches new.batches one.batches two.batches;
  transactions = adds_both block old.transactions mid.transactions new.transactions one.transactions two.transactions;
}

-- an id keeps its holder, or had none and has this one
abbrev pub Grows : List ℕ → (List ℕ → Option (List ℕ)) → (List ℕ → Option (List ℕ)) → Type 0
Grows block old new = (id : List ℕ) → (new id ≡ old id) ⊎ ((old id ≡ None) × (new id ≡ Some block))

grows_by : (block : List ℕ) (before behind : Option (Arc (List ℕ) Global)) → ((value : Arc (List ℕ) Global) → behind ≡ Some value → arc_value value ≡ block)
    → (option_map arc_value (or_else before behind) ≡ option_map arc_value before)
    ⊎ ((option_map arc_value before ≡ None) × (option_map arc_value (or_else before behind) ≡ Some block))
grows_by block (Some x) behind are = inl refl
grows_by block None None are = inl refl
grows_by block None (Some value) are = inr (refl, ap (λ (block : List ℕ). Some block) (are value refl))

is_it : (block : List ℕ) (here : Bool) (one value : Arc (List ℕ) Global) (others : Option (Arc (List ℕ) Global)) → arc_value one ≡ block
    → (others ≡ Some value → arc_value value ≡ block) → cond here (Some one) others ≡ Some value → arc_value value ≡ block
is_it block true one value others is later e = let same : one ≡ value = cc in subst (λ (value : Arc (List ℕ) Global). arc_value value ≡ block) same is
is_it block false one value others is later e = later e

all_it : (block : List ℕ) (test : List ℕ → Bool) (es : Entries) → AllByRecursion (λ entry. arc_value entry.1 ≡ block) es
    → (value : Arc (List ℕ) Global) → lookup test es ≡ Some value → arc_value value ≡ block
all_it block test [] are value e = absurd cc
all_it block test (e ∷ es) are value is = is_it block (test e.0) e.1 value (lookup test es) are.0 (all_it block test es are.1 value) is

pub grows : {S : Type 0} (block : List ℕ) (old new : FirstHolders S) → AddsHeld block old new → Grows block (holder_in old) (holder_in new)
grows block old new adds = λ id.
    let now : first new.entries id ≡ option_map arc_value (or_else (lookup (named id) old.entries) (lookup (named id) adds.more)) =
    ap (λ es. first es id) adds.grown ∙ ap (option_map arc_value) (lookup_append (named id) old.entries adds.more) in
    subst (λ (holder : Option (List ℕ)). (holder ≡ first old.entries id) ⊎ ((first old.entries id ≡ None) × (holder ≡ Some block))) (sym now)
    (grows_by block (lookup (named id) old.entries) (lookup (named id) adds.more) (all_it block (named id) adds.more adds.are))

held_so : (block : List ℕ) (chain : List (List ℕ)) (old new : Option (List ℕ)) → (new ≡ old) ⊎ ((old ≡ None) × (new ≡ Some block))
    → is_among chain block ≡ false → is_held new chain ≡ is_held old chain
held_so block chain old new (inl same) apart = ap (λ (holder : Option (List ℕ)). is_held holder chain) same
held_so block chain old new (inr now) apart =
    ap (λ (holder : Option (List ℕ)). is_held holder chain) now.1 ∙ apart ∙ sym (ap (λ (holder : Option (List ℕ)). is_held holder chain) now.0)

-- a branch without the block is told as before
told_still : (block : List ℕ) (old new : List ℕ → Option (List ℕ)) (chain ids : List (List ℕ)) (set : IdSet) → Grows block old new
    → is_among chain block ≡ false → Told old chain set ids → Told new chain set ids
told_still block old new chain ids set more apart told = record {
  others = told.others;
  has = told.has;
  each = λ q. ap (λ b. is_among told.others q || b) (held_so block chain (old q) (new q) (more q) apart) ∙ told.each q;
}

-- ---- one block more

module _ (all : List BlockRecord) (new : BlockRecord) where
  still_accepted : (id : List ℕ) → has_block all id ≡ true → has_block (all ++ new ∷ []) id ≡ true
  still_accepted id is =
      list_any-append (λ (block : BlockRecord). bytes_eq block.id id) all (new ∷ []) ∙ ap (λ b. b || (bytes_eq new.id id || false)) is

  now_accepted : has_block (all ++ new ∷ []) new.id ≡ true
  now_accepted =
      list_any-append (λ (block : BlockRecord). bytes_eq block.id new.id) all (new ∷ [])
      ∙ ap (λ b. has_block all new.id || (b || false)) (nat_list_eq_equiv.refl new.id) ∙ or_true (has_block all new.id)

  accepted_by : (id block : List ℕ) (old now : Option (List ℕ)) → (now ≡ old) ⊎ ((old ≡ None) × (now ≡ Some new.id))
      → (old ≡ Some block → has_block all block ≡ true) → now ≡ Some block → has_block (all ++ new ∷ []) block ≡ true
  accepted_by id block old now (inl same) accepted is = still_accepted block (accepted (sym same ∙ is))
  accepted_by id block old now (inr held) accepted is =
      let it : Some new.id ≡ Some block = sym held.1 ∙ is in
      let same : new.id ≡ block = cc in
      subst (λ (block : List ℕ). has_block (all ++ new ∷ []) block ≡ true) same now_accepted

  pub all_accepted : (old now : List ℕ → Option (List ℕ)) → Grows new.id old now → AreAccepted all old → AreAccepted (all ++ new ∷ []) now
  all_accepted old now more accepted = λ id block is. accepted_by id block (old id) (now id) (more id) (accepted id block) is

module _ (all : List BlockRecord) (block : List ℕ) (fresh : has_block all block ≡ false) where
  not_accepted : (other : List ℕ) (same : Bool) → bytes_eq block other ≡ same → has_block all other ≡ true → bytes_eq block other ≡ false
  not_accepted other false e is = e
  not_accepted other true e is = absurd (true≢false (sym is ∙ ap (has_block all) (sym (same_text block other (sym e))) ∙ fresh))

  held_longer : (chain : List (List ℕ)) (holder : Option (List ℕ)) → ((other : List ℕ) → holder ≡ Some other → has_block all other ≡ true)
      → is_held holder (chain ++ block ∷ []) ≡ is_held holder chain
  held_longer chain None accepted = refl
  held_longer chain (Some other) accepted =
      list_any-append (λ x. bytes_eq x other) chain (block ∷ [])
      ∙ ap (λ b. is_among chain other || (b || false)) (not_accepted other (bytes_eq block other) refl (accepted other refl))
      ∙ or_false (is_among chain other)

  told_longer : (holder : List ℕ → Option (List ℕ)) (chain ids : List (List ℕ)) (set : IdSet) → AreAccepted all holder → Told holder chain set ids
      → Told holder (chain ++ block ∷ []) set ids
  told_longer holder chain ids set accepted told = record {
    others = told.others;
    has = told.has;
    each = λ q. ap (λ b. is_among told.others q || b) (held_longer chain (holder q) (accepted q)) ∙ told.each q;
  }

  -- the block is of the branch
  pub with_block : (holders : Holders) (kept later : BranchIds) (there : Ids) → AreAccepted all (holder_in holders.batches)
      → AreAccepted all (holder_in holders.transactions) → (knows : KnowsBranch all holders kept there)
      → HasIds later.blocks (knows.knows.chain ++ block ∷ []) → later.batches ≡ kept.batches → later.transactions ≡ kept.transactions
      → KnowsWith block holders later there
  with_block holders kept later there batches transactions knows has same_batches same_transactions =
      let chain = knows.knows.chain in record {
        knows = record {
          chain = chain ++ block ∷ [];
          has = has;
          batches = subst (λ (set : IdSet). Told (holder_in holders.batches) (chain ++ block ∷ []) set there.batches) (sym same_batches)
              (told_longer (holder_in holders.batches) chain there.batches kept.batches batches knows.knows.batches);
          transactions = subst (λ (set : IdSet). Told (holder_in holders.transactions) (chain ++ block ∷ []) set there.transactions) (sym same_transactions)
              (told_longer (holder_in holders.transactions) chain there.transactions kept.transactions transactions knows.knows.transactions);
        };
        here = list_any-append (λ x. bytes_eq x block) chain (block ∷ [])
            ∙ ap (λ b. is_among chain block || (b || false)) (nat_list_eq_equiv.refl block) ∙ or_true (is_among chain block);
      }

module _ (all : List BlockRecord) (new : BlockRecord) (before after : Holders) where
  -- the branch with one block more
  pub branch_more : (kept later : BranchIds) (there more : Ids) (knows : KnowsBranch all before kept there)
      → HasIds later.blocks (knows.knows.chain ++ new.id ∷ []) → KnowsWith new.id after later more → KnowsBranch (all ++ new ∷ []) after later more
  branch_more kept later there more knows has now = record {
    knows = now.knows;
    accepted = λ id here.
        let chain = knows.knows.chain in
        let either = sym (list_any-append (λ x. bytes_eq x id) chain (new.id ∷ [])) ∙ sym (has id) ∙ now.knows.has id ∙ here in
        list_any-append (λ (block : BlockRecord). bytes_eq block.id id) all (new ∷ [])
        ∙ or_weaker (is_among chain id) (bytes_eq new.id id || false) (has_block all id) (knows.accepted id) either;
  }

  module _ (fresh : has_block all new.id ≡ false) (adds : AddHeld new.id before after) where
    not_among : (chain : List (List ℕ)) (among : Bool) → is_among chain new.id ≡ among → (is_among chain new.id ≡ true → has_block all new.id ≡ true)
        → is_among chain new.id ≡ false
    not_among chain false e accepted = e
    not_among chain true e accepted = absurd (true≢false (sym (accepted e) ∙ fresh))

    -- a branch without it
    pub knows_still : (kept : BranchIds) (there : Ids) → KnowsBranch all before kept there → KnowsBranch (all ++ new ∷ []) after kept there
    knows_still kept there knows =
        let chain = knows.knows.chain in
        let apart = not_among chain (is_among chain new.id) refl (knows.accepted new.id) in record {
          knows = record {
            chain = chain;
            has = knows.knows.has;
            batches = told_still new.id (holder_in before.batches) (holder_in after.batches) chain there.batches kept.batches
                (grows new.id before.batches after.batches adds.batches) apart knows.knows.batches;
            transactions = told_still new.id (holder_in before.transactions) (holder_in after.transactions) chain there.transactions kept.transactions
                (grows new.id before.transactions after.transactions adds.transactions) apart knows.knows.transactions;
          };
          accepted = λ id here. still_accepted all new id (knows.accepted id here);
        }

-- ---- the same entries

pub knows_same : (all : List BlockRecord) (before after : Holders) (kept : BranchIds) (there : Ids) → after.batches.entries ≡ before.batches.entries
    → after.transactions.entries ≡ before.transactions.entries → KnowsBranch all before kept there → KnowsBranch all after kept there
knows_same all before after kept there batches transactions knows =
    let chain = knows.knows.chain in record {
      knows = record {
        chain = chain;
        has = knows.knows.has;
        batches = subst (λ (es : Entries). Told (first es) chain kept.batches there.batches) (sym batches) knows.knows.batches;
        transactions = subst (λ (es : Entries). Told (first es) chain kept.transactions there.transactions) (sym transactions) knows.knows.transactions;
      };
      accepted = knows.accepted;
    }
