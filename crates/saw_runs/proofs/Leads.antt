-- What a way has is what its kids have.
use Rattle.std.proofs.Common.{◌≡◌, ◌≢◌, ℕ, suc, ◌-◌, List, [], ◌∷◌, ◌++◌, length, map, take, drop, get_or, refl, sym, ap, ◌∙◌, subst, Option, Some}
use Rattle.std.specs.List.{flat_map}
use Rattle.std.specs.List.Sorted.{IsStrictlySortedBy}
use Rattle.std.specs.Ordering.{nat_cmp}
use Rattle.std.proofs.lemmas.List.{append-nil, map-append, take-append-drop, take_rest}
use Rattle.std.proofs.lemmas.List.Folds.{flat_map-map}
use Rattle.std.proofs.lemmas.Simd.{map-map}
use Rattle.saw_node.specs.Nodes.{pair_of}
use Rattle.saw_node.specs.declared.node.Child.{Child}
use Rattle.saw_runs.specs.Below.{read_by}
use Rattle.saw_runs.specs.Differing.{Lead, PassSame, entries_of, part_of}
use Rattle.saw_runs.specs.Entries.{Entry}
use Rattle.saw_runs.specs.Listing.{opened_by, read_below}
use Rattle.saw_runs.specs.Lowers.{children_read}

-- a child as a kid
abbrev pub lead_of : (List ℕ → Option Entry) → Child → Lead
lead_of read child = (child.byte, Some (opened_by child.hash (read child.hash)))

pub leads_rise : (read : List ℕ → Option Entry) (children : List Child) → IsStrictlySortedBy nat_cmp (map (λ child. child.byte) children)
    → IsStrictlySortedBy nat_cmp (map (λ (kid : Lead). kid.0) (map (lead_of read) children))
leads_rise read children = subst (IsStrictlySortedBy nat_cmp) (sym (map-map (λ (kid : Lead). kid.0) (lead_of read) children))

module _ (read : List ℕ → Option Entry) (levels : ℕ) (place : List ℕ) where
  abbrev below : ℕ × List ℕ → List (List ℕ × List ℕ)
  below child = read_by read levels (place ++ child.0 ∷ []) (Some (opened_by child.1 (read child.1)))

  node_at : (bottom : List ℕ) → read_by read (suc levels) place (part_of [] (Some bottom)) ≡ flat_map below (children_read (read bottom))
  unfolding read_below
  node_at bottom = refl

  pub node_have : (path : List ℕ) (o : Option (List ℕ)) (bottom : List ℕ) (children : List Child) → path ≡ [] → o ≡ Some bottom
      → map pair_of children ≡ children_read (read bottom)
      → read_by read (suc levels) place (part_of path o) ≡ entries_of read levels place (map (lead_of read) children)
  node_have path o bottom children none is same =
      (λ k. read_by read (suc levels) place (part_of (none k) (is k))) ∙ node_at bottom ∙ ap (flat_map below) (sym same)
      ∙ flat_map-map below pair_of children
      ∙ sym (flat_map-map (λ (kid : Lead). read_by read levels (place ++ kid.0 ∷ []) kid.1) (lead_of read) children)

  only_at : (c : ℕ) (path : List ℕ) (bottom : List ℕ) → read_by read (suc levels) place (part_of (c ∷ path) (Some bottom))
      ≡ read_by read levels (place ++ c ∷ []) (part_of path (Some bottom))
  unfolding read_below
  only_at c path bottom = refl

  pub only_have : (path : List ℕ) (o : Option (List ℕ)) (bottom : List ℕ) → path ≢ [] → o ≡ Some bottom
      → read_by read (suc levels) place (part_of path o)
      ≡ entries_of read levels place ((get_or path 0 0, part_of (take (length path - 1) (drop 1 path)) o) ∷ [])
  only_have [] o bottom some is = absurd (some refl)
  only_have (c ∷ path) o bottom some is =
      ap (λ b. read_by read (suc levels) place (part_of (c ∷ path) b)) is ∙ only_at c path bottom
      ∙ (λ k. read_by read levels (place ++ c ∷ []) (part_of (sym (take_rest (c ∷ path) 1) k) (sym is k)))
      ∙ sym (append-nil (read_by read levels (place ++ c ∷ []) (part_of (take (length (c ∷ path) - 1) path) o)))

-- the children at the front that are the same in both
pub pass_children : (read : List ℕ → Option Entry) (n : ℕ) (firsts seconds : List Lead) (ones others : List Child) → firsts ≡ map (lead_of read) ones
    → seconds ≡ map (lead_of read) others → take n ones ≡ take n others
    → PassSame firsts seconds (map (lead_of read) (take (length ones - n) (drop n ones))) (map (lead_of read) (take (length others - n) (drop n others)))
pass_children read n firsts seconds ones others of_ones of_others same = (
  map (lead_of read) (take n ones),
  of_ones ∙ parted ones,
  of_others ∙ parted others ∙ ap (λ xs. map (lead_of read) xs ++ map (lead_of read) (take (length others - n) (drop n others))) (sym same),
)
  where
    parted : (xs : List Child) → map (lead_of read) xs ≡ map (lead_of read) (take n xs) ++ map (lead_of read) (take (length xs - n) (drop n xs))
    parted xs =
        ap (map (lead_of read)) (sym (take-append-drop n xs) ∙ ap (λ rest. take n xs ++ rest) (sym (take_rest xs n)))
        ∙ map-append (lead_of read) (take n xs) (take (length xs - n) (drop n xs))
