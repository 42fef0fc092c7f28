-- What is told of a map depends on what it has below a place alone, and grows with what is kept.
use Rattle.std.proofs.Common.{◌≡◌, ℕ, zero, suc, ◌≤◌, List, [], ◌∷◌, ◌++◌, length, map, sym, ap, ◌∙◌, subst, arith, inl, inr}
use Rattle.saw_address.specs.Maps.{Entries}
use Rattle.saw_node.specs.Nodes.{encoding_of}
use Rattle.saw_node.specs.Trees.{next_bytes, all_bytes, node_at}
use Rattle.saw_node.proofs.Places.{filter-same}
use Rattle.saw_runs.proofs.Local.{Agree, Agree-longer, has_under-Agree, node_at-Agree, node_with}
use Rattle.saw_runs.specs.Runs.{hash_up, above_one}
use Rattle.saw_runs.specs.Entries.{Entry}
use Rattle.saw_runs.specs.Entries.Entry.{OfNode, OfRun}
use Rattle.saw_runs.specs.Told.{hash_at, IsTold, IsToldBy}

pub next_bytes-Agree : (es fs : Entries) (place : List ℕ) → Agree es fs place → next_bytes es place ≡ next_bytes fs place
next_bytes-Agree es fs place same = filter-same _ _ (λ b. has_under-Agree es fs (place ++ b ∷ []) (Agree-longer es fs place (b ∷ []) same)) all_bytes

module _ (hash : List ℕ → List ℕ) where
  -- where more is kept, what was told still is
  pub IsTold-more : (R S : List ℕ → Entry → Type 0) → ((h : List ℕ) (e : Entry) → R h e → S h e) → (es : Entries) (levels : ℕ) (place path bottom : List ℕ)
      → IsTold hash R es levels place path bottom → IsTold hash S es levels place path bottom
  unfolding IsTold
  IsTold-more R S more es zero place [] bottom t = (t.0, more _ _ t.1)
  IsTold-more R S more es zero place (c ∷ path) bottom t = t
  IsTold-more R S more es (suc levels) place [] bottom t = (
    t.0,
    more _ _ t.1,
    λ b lt met. elim (t.2 b lt met) [
      | inl node ↦ inl (IsTold-more R S more es levels (place ++ b ∷ []) [] (hash_at hash R es levels (place ++ b ∷ [])) node)
      | inr run ↦ inr (run.0, run.1, run.2, more _ _ run.3, IsTold-more R S more es levels (place ++ b ∷ []) (run.0 ∷ run.1) run.2 run.4)
    ],
  )
  IsTold-more R S more es (suc levels) place (c ∷ path) bottom t = (t.0, IsTold-more R S more es levels (place ++ c ∷ []) path bottom t.1)

  pub IsToldBy-more : (R S : List ℕ → Entry → Type 0) → ((h : List ℕ) (e : Entry) → R h e → S h e) → (es : Entries) (levels : ℕ) (place h : List ℕ)
      → IsToldBy hash R es levels place h → IsToldBy hash S es levels place h
  IsToldBy-more R S more es levels place h t = elim t [
    | inl node ↦ inl (IsTold-more R S more es levels place [] h node)
    | inr run ↦ inr (run.0, run.1, run.2, more _ _ run.3, IsTold-more R S more es levels place (run.0 ∷ run.1) run.2 run.4)
  ]

  -- what is told below a place is told of each map that agrees there
  pub IsTold-Agree : (R : List ℕ → Entry → Type 0) (es fs : Entries) (levels : ℕ) (place path bottom : List ℕ) → Agree es fs place
      → IsTold hash R es levels place path bottom → IsTold hash R fs levels place path bottom
  unfolding IsTold
  IsTold-Agree R es fs zero place [] bottom same t =
      let e = node_at-Agree hash es fs zero place same in
      (t.0 ∙ ap (λ s. hash (encoding_of s)) e, subst (λ s. R bottom (OfNode s)) e t.1)
  IsTold-Agree R es fs zero place (c ∷ path) bottom same t = t
  IsTold-Agree R es fs (suc levels) place [] bottom same t =
      let e = node_at-Agree hash es fs (suc levels) place same in (
        t.0 ∙ ap (λ s. hash (encoding_of s)) e,
        subst (λ s. R bottom (OfNode s)) e t.1,
        λ b lt met.
            let narrow = Agree-longer es fs place (b ∷ []) same in
            let below = ap (λ s. hash (encoding_of s)) (node_at-Agree hash es fs levels (place ++ b ∷ []) narrow) in
            elim (t.2 b lt (has_under-Agree es fs (place ++ b ∷ []) narrow ∙ met)) [
              | inl node ↦ inl (subst (IsTold hash R fs levels (place ++ b ∷ []) []) below
                  (IsTold-Agree R es fs levels (place ++ b ∷ []) [] (hash_at hash R es levels (place ++ b ∷ [])) narrow node))
              | inr run ↦ inr (
                run.0,
                run.1,
                run.2,
                subst (λ h. R h (OfRun (run.0 ∷ run.1) run.2)) below run.3,
                IsTold-Agree R es fs levels (place ++ b ∷ []) (run.0 ∷ run.1) run.2 narrow run.4,
              )
            ],
      )
  IsTold-Agree R es fs (suc levels) place (c ∷ path) bottom same t = (
    sym (next_bytes-Agree es fs place same) ∙ t.0,
    IsTold-Agree R es fs levels (place ++ c ∷ []) path bottom (Agree-longer es fs place (c ∷ []) same) t.1,
  )

  pub IsToldBy-Agree : (R : List ℕ → Entry → Type 0) (es fs : Entries) (levels : ℕ) (place h : List ℕ) → Agree es fs place
      → IsToldBy hash R es levels place h → IsToldBy hash R fs levels place h
  IsToldBy-Agree R es fs levels place h same t = elim t [
    | inl node ↦ inl (IsTold-Agree R es fs levels place [] h same node)
    | inr run ↦ inr (run.0, run.1, run.2, run.3, IsTold-Agree R es fs levels place (run.0 ∷ run.1) run.2 same run.4)
  ]

  -- the node above an only child
  pub node_at-one : (es : Entries) (levels : ℕ) (place : List ℕ) (c : ℕ) → next_bytes es place ≡ c ∷ []
      → node_at hash es (suc levels) place ≡ above_one c (hash (encoding_of (node_at hash es levels (place ++ c ∷ []))))
  unfolding node_at
  node_at-one es levels place c one = ap (λ bs. node_with (map (λ b. (b, hash (encoding_of (node_at hash es levels (place ++ b ∷ []))))) bs)) one

  -- the hash of a run that tells is the node's at its top
  pub told_hash : (R : List ℕ → Entry → Type 0) (es : Entries) (levels : ℕ) (place path bottom : List ℕ) → IsTold hash R es levels place path bottom
      → hash_up hash path bottom ≡ hash_at hash R es levels place
  unfolding IsTold
  told_hash R es zero place [] bottom t = t.0
  told_hash R es zero place (c ∷ path) bottom t = absurd t
  told_hash R es (suc levels) place [] bottom t = t.0
  told_hash R es (suc levels) place (c ∷ path) bottom t =
      ap (λ h. hash (encoding_of (above_one c h))) (told_hash R es levels (place ++ c ∷ []) path bottom t.1)
      ∙ ap (λ s. hash (encoding_of s)) (sym (node_at-one es levels place c t.0))

  -- it is no longer than there are levels
  pub told_short : (R : List ℕ → Entry → Type 0) (es : Entries) (levels : ℕ) (place path bottom : List ℕ) → IsTold hash R es levels place path bottom
      → length path ≤ levels
  unfolding IsTold
  told_short R es zero place [] bottom t = omega arith
  told_short R es zero place (c ∷ path) bottom t = absurd t
  told_short R es (suc levels) place [] bottom t = omega arith
  told_short R es (suc levels) place (c ∷ path) bottom t = let short = told_short R es levels (place ++ c ∷ []) path bottom t.1 in omega (arith, short)
