-- Branches of what has records of blocks, once one more joins.
use Rattle.std.proofs.Common.{◌≡◌, ℕ, Bool, true, false, List, [], ◌∷◌, ◌++◌, map, reverse, Option, Some, refl, sym, ap, subst, ◌∙◌, arith}
use Rattle.std.specs.Prelude.{if◌then◌else◌}
use Rattle.std.specs.Cmp.Lexicographic.{nat_list_eq_equiv, same_text}
use Rattle.std.specs.List.{AllByRecursion}
use Rattle.std.specs.Str.{bytes_eq}
use Rattle.std.proofs.lemmas.List.{reverse-append}
use Rattle.saw_receipts.specs.declared.block.BlockRecord.{BlockRecord}
use Rattle.saw_receipts.specs.Branches.{block_at, branch_back, branch_of}
use Rattle.saw_journal.proofs.Linking.{all_push}

all_reverse : {X : Type 0} (P : X → Type 0) (xs : List X) → AllByRecursion P xs → AllByRecursion P (reverse xs)
all_reverse P [] all = tt
all_reverse P (x ∷ xs) all = subst (AllByRecursion P) (sym (reverse-append (x ∷ []) xs)) (all_push P (reverse xs) x (all_reverse P xs all.1) all.0)

module _ {A : Type 0} (record_of : A → BlockRecord) where
  branch_of-push : (accepted : List A) (new : A) (id : List ℕ)
      → branch_of record_of (accepted ++ new ∷ []) id
      ≡ (if bytes_eq (record_of new).id id then branch_of record_of accepted (record_of new).previous ++ new ∷ [] else branch_of record_of accepted id)
  branch_of-push accepted new id = ap (λ all. branch_back record_of all id) (reverse-append accepted (new ∷ []))

  -- the branch of the new block
  pub branch_of-new : (accepted : List A) (new : A)
      → branch_of record_of (accepted ++ new ∷ []) (record_of new).id ≡ branch_of record_of accepted (record_of new).previous ++ new ∷ []
  branch_of-new accepted new =
      branch_of-push accepted new (record_of new).id
      ∙ ap (λ b. if b then branch_of record_of accepted (record_of new).previous ++ new ∷ [] else branch_of record_of accepted (record_of new).id)
      (nat_list_eq_equiv.refl (record_of new).id)

  -- and that of another id
  pub branch_of-other : (accepted : List A) (new : A) (id : List ℕ) → bytes_eq (record_of new).id id ≡ false
      → branch_of record_of (accepted ++ new ∷ []) id ≡ branch_of record_of accepted id
  branch_of-other accepted new id other =
      branch_of-push accepted new id ∙ ap (λ b. if b then branch_of record_of accepted (record_of new).previous ++ new
      ∷ [] else branch_of record_of accepted id) other

  none_back : (back : List A) (id : List ℕ) → AllByRecursion (λ one. bytes_eq (record_of one).id id ≡ false) back → branch_back record_of back id ≡ []
  none_back [] id others = refl
  none_back (latest ∷ earlier) id others =
      ap (λ b. if b then branch_back record_of earlier (record_of latest).previous ++ latest ∷ [] else branch_back record_of earlier id) others.0
      ∙ none_back earlier id others.1

  -- no branch ends with an id that no block has
  pub no_branch : (accepted : List A) (id : List ℕ) → AllByRecursion (λ one. bytes_eq (record_of one).id id ≡ false) accepted
      → branch_of record_of accepted id ≡ []
  no_branch accepted id others = none_back (reverse accepted) id (all_reverse (λ one. bytes_eq (record_of one).id id ≡ false) accepted others)

  -- ---- the one with an id

  pub record IsFound (P : A → Type 0) (block : BlockRecord) (id : List ℕ) : Type 0 where
    pub one : A
    pub holds : P one
    pub same : record_of one ≡ block
    pub named : id ≡ block.id

  found_here : (P : A → Type 0) (here : Bool) (one : A) (others : Option BlockRecord) (block : BlockRecord) (id : List ℕ)
      → bytes_eq (record_of one).id id ≡ here → P one
      → (others ≡ Some block → IsFound P block id) → (if here then Some (record_of one) else others) ≡ Some block → IsFound P block id
  found_here P true one others block id is holds later e =
      let same : record_of one ≡ block = grind (arith, e) in
      record { one = one; holds = holds; same = same; named = sym (same_text (record_of one).id id (sym is)) ∙ ap (λ (block : BlockRecord). block.id) same }
  found_here P false one others block id is holds later e = later e

  -- what is found by its id is one of them
  pub found_in : (P : A → Type 0) (accepted : List A) (id : List ℕ) (block : BlockRecord) → AllByRecursion P accepted
      → block_at (map record_of accepted) id ≡ Some block → IsFound P block id
  found_in P [] id block all e = absurd (grind (arith, e))
  found_in P (one ∷ accepted) id block all e =
      found_here P (bytes_eq (record_of one).id id) one (block_at (map record_of accepted) id) block id refl all.0 (found_in P accepted id block all.1) e
