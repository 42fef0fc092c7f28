use Rattle.std.proofs.Common.{◌≡◌, refl, ap, ◌∙◌}
use Rattle.std.proofs.lemmas.Result.{IfOk-weaker}
use Rattle.std.specs.Map.{lookup}
use Rattle.std.specs.Prelude.{is_some, string_bytes}
use Rattle.std.specs.Str.{bytes_eq}
use Rattle.indexmap.specs.IndexMap.{values}
use Rattle.saw_receipts.specs.Branches.{block_at, branch_of, ids_in}
use Rattle.saw_journal.proofs.KnownBranches.{known_at, known_nowhere, place_within}
use Rattle.saw_journal.proofs.Lookups.{found}
use Rattle.saw_journal.proofs.branch_ids.ids_behind.Goals as goal

pub kept_at-requires : goal.kept_at-requires
kept_at-requires c =
    let es = c.args.blocks.now.entries in
    let blocks = values c.args.blocks.now in
    let last = c.args.last.now in
    let is : lookup (λ k. bytes_eq c.as_str.result.now (string_bytes k)) es ≡ block_at blocks last =
    ap (λ q. lookup (λ k. bytes_eq q (string_bytes k)) es) c.as_str.ensures ∙ found es last c.requires.ids_are in
    place_within blocks c.requires.kept.0 c.args.ids.now c.requires.kept.1 last c.in-Some.place (block_at blocks last) (c.in-Some.ensures.value ∙ is)
    (c.in-Some.ensures.found ∙ ap is_some is)

pub returns-in-None : goal.returns-in-None
returns-in-None c = λ holders have.
    let es = c.args.blocks.now.entries in
    let blocks = values c.args.blocks.now in
    let last = c.args.last.now in
    let is : lookup (λ k. bytes_eq c.as_str.result.now (string_bytes k)) es ≡ block_at blocks last =
    ap (λ q. lookup (λ k. bytes_eq q (string_bytes k)) es) c.as_str.ensures ∙ found es last c.requires.ids_are in
    known_nowhere blocks holders last c.new.result (block_at blocks last) refl (c.in-None.ensures.found ∙ ap is_some is) (c.new.ensures blocks holders)

pub returns-in-Some : goal.returns-in-Some
returns-in-Some c =
    let es = c.args.blocks.now.entries in
    let blocks = values c.args.blocks.now in
    let last = c.args.last.now in
    let is : lookup (λ k. bytes_eq c.as_str.result.now (string_bytes k)) es ≡ block_at blocks last =
    ap (λ q. lookup (λ k. bytes_eq q (string_bytes k)) es) c.as_str.ensures ∙ found es last c.requires.ids_are in
    IfOk-weaker c.try_share.result _ _
    (λ made shared. λ holders have.
    let knows = known_at blocks holders c.args.ids.now have last c.in-Some.place c.kept_at.result.now (block_at blocks last) refl
    (c.in-Some.ensures.value ∙ is) (c.in-Some.ensures.found ∙ ap is_some is) in
    shared blocks holders (ids_in (branch_of (λ block. block) blocks last)) (rw c.kept_at.ensures knows)) c.try_share.ensures
