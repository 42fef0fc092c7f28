use Rattle.std.proofs.Common.{◌≡◌, ℕ, List, [], ◌∷◌, ◌++◌, map, Option, Some, None, refl, ap, arith}
use Rattle.std.specs.Prelude.{string_bytes}
use Rattle.std.specs.FinMap as finite
use Rattle.std.specs.Map.{keys_of, values_of}
use Rattle.indexmap.specs.IndexMap.{keys, values}
use Rattle.saw_address.specs.Maps.{no_entries}
use Rattle.saw_journal.specs.KnownBranches.{holder_in}
use Rattle.saw_journal.specs.Standing.{IsStanding}
use Rattle.saw_journal.specs.declared.branch_ids.BranchIds.{BranchIds}
use Rattle.saw_journal.specs.declared.branch_ids.Holders.{Holders}
use Rattle.saw_merkle.specs.States.{States, knows}
use Rattle.saw_receipts.specs.declared.block.BlockRecord.{BlockRecord}
use Rattle.saw_journal.proofs.journal.Journal.new.Goals as goal

none_there : (before after : List BlockRecord) (block : BlockRecord) → [] ≡ before ++ block ∷ after → ⊥
none_there [] after block is = cc
none_there (first ∷ before) after block is = cc

no_holder : (holder : Option (List ℕ)) (block : List ℕ) → holder ≡ None → holder ≡ Some block → ⊥
no_holder None block none is = cc
no_holder (Some other) block none is = cc

-- a journal without blocks
first_stands : (hash : List ℕ → List ℕ) (ids : List (List ℕ)) (blocks : List BlockRecord) (holders : Holders) (kept : List BranchIds)
    (states : States) (limit : ℕ)
    → ids ≡ [] → blocks ≡ [] → ((id : List ℕ) → (holder_in holders.batches id ≡ None) × (holder_in holders.transactions id ≡ None)) → kept ≡ []
    → states ≡ knows hash finite.empty no_entries → IsStanding hash ids blocks holders kept None states limit
first_stands hash ids blocks holders kept states limit no_ids no_blocks no_holders none_kept opening = rw (no_ids, no_blocks, none_kept) (record {
  founded = record {
    ids_are = refl;
    linked = λ before after block is. absurd (none_there before after block is);
    known = tt;
    first = refl;
    opening = λ none. opening;
  };
  branches = record {
    batches = λ id block is. absurd (no_holder (holder_in holders.batches id) block (no_holders id).0 is);
    transactions = λ id block is. absurd (no_holder (holder_in holders.transactions id) block (no_holders id).1 is);
    branches = tt;
  };
  chosen = refl;
  room = omega arith;
})

pub invariant_of-result : goal.invariant_of-result
invariant_of-result g c =
    let none = c.new-2.ensures.empty in
    first_stands g.H.NodeHasher.hash_of (map string_bytes (keys c.new-2.result)) (values c.new-2.result) c.new-3.result c.new-4.result.items
    c.in_ok-state.state c.args.limit
    (ap (λ entries. map string_bytes (keys_of entries)) none) (ap values_of none) c.new-3.ensures c.new-4.ensures.items c.in_ok-state.ensures
