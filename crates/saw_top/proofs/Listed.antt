-- The entries of a state, as they are listed.
use Rattle.std.proofs.Common.{◌≡◌, ℕ, List, [], length, map, Option, Some, None, sym, ap, subst, ◌∙◌}
use Rattle.std.specs.Prelude.{IfSome, IsSome, filter, ◌==◌, if◌then◌else◌}
use Rattle.std.specs.List.{AllByRecursion, flat_map}
use Rattle.std.proofs.lemmas.List.Folds.{flat_map-map}
use Rattle.saw_address.specs.Maps.{StateMap}
use Rattle.saw_address.specs.Prefixes.{covers}
use Rattle.saw_context.proofs.Keys.{entries-empty}
use Rattle.saw_journal.proofs.Linking.{head_so}
use Rattle.saw_receipts.specs.Heads.{head_of}
use Rattle.saw_journal.specs.Ledger.{map_under}
use Rattle.saw_merkle.specs.States.{Listed, States, listed_as, state_at}
use Rattle.saw_receipts.specs.declared.block.BlockRecord.{BlockRecord}
use Rattle.saw_report.specs.Lines.{listed_line}
use Rattle.saw_top.specs.Listing.{entries_under, entry_line, listing, listing_status}

-- what was listed, as a slice of it shows
pub listed_all : (prefix : List ℕ) (m : StateMap) (all shown : List Listed) → shown ≡ all → map listed_as all ≡ entries_under prefix m
    → flat_map listed_line shown ≡ listing prefix m
listed_all prefix m all shown same is = ap (flat_map listed_line) same ∙ sym (flat_map-map entry_line listed_as all) ∙ ap (flat_map entry_line) is

pub none_listed : (prefix : List ℕ) (states : States) (head : Option BlockRecord) → None ≡ head → listing prefix (map_under states head) ≡ []
none_listed prefix states head none =
    ap (λ (h : Option BlockRecord). listing prefix (map_under states h)) (sym none)
    ∙ ap (λ (es : List (List ℕ × List ℕ)). flat_map entry_line (filter (λ entry. covers prefix entry.0) es)) (entries-empty (List ℕ))

pub none_status : (prefix : List ℕ) (states : States) (head : Option BlockRecord) → None ≡ head → 8 ≡ listing_status prefix (map_under states head)
none_status prefix states head none =
    sym (ap (λ (h : Option BlockRecord). listing_status prefix (map_under states h)) (sym none)
    ∙ ap (λ (es : List (List ℕ × List ℕ)). if length (filter (λ entry. covers prefix entry.0) es) == 0 then 8 else 0) (entries-empty (List ℕ)))

-- ---- the head is one of the blocks

-- what holds of all blocks holds of the head
pub of_head : (P : BlockRecord → Type 0) (blocks : List BlockRecord) (head : BlockRecord) → Some head ≡ head_of blocks → AllByRecursion P blocks → P head
of_head P blocks head is all = subst (λ (h : Option BlockRecord). IfSome h P) (sym is) (head_so P blocks all)

-- the root of the head is known
pub head_is_known : (states : States) (blocks : List BlockRecord) (head : BlockRecord) → Some head ≡ head_of blocks
    → AllByRecursion (λ block. IsSome (state_at states block.root)) blocks → None ≡ state_at states head.root → ⊥
head_is_known states blocks head is all none =
    let some : IsSome {T = StateMap} None = subst IsSome (sym none) (of_head (λ block. IsSome (state_at states block.root)) blocks head is all) in
    cc some
