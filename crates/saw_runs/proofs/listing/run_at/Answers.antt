use Rattle.std.proofs.Common.{[], None, Some, length, get_or, sym, subst, ◌∙◌}
use Rattle.std.specs.List.{between}
use Rattle.std.proofs.lemmas.Bool.{eqb-true}
use Rattle.std.proofs.lemmas.List.{nil_from_length}
use Rattle.std.proofs.lemmas.Slice.{first_rest}
use Rattle.saw_runs.specs.Below.{Narrows}
use Rattle.saw_runs.specs.Readings.{read_at}
use Rattle.saw_runs.proofs.Descending.{narrows_child, narrows_first, narrows_other, not_empty}
use Rattle.saw_runs.proofs.listing.run_at.Goals as goal

pub returns-in-None : goal.returns-in-None
returns-in-None g c =
    let none = nil_from_length c.args.path.now (eqb-true (length c.args.path.now) 0 (sym c.is_empty.ensures ∙ c.if-is_empty.true)) in
    subst (λ path. Narrows (read_at c.args.tables.now) path c.args.bottom.now c.args.byte None) (sym none)
    (narrows_child (read_at c.args.tables.now) c.args.bottom.now c.args.byte c.children_read.result.now None c.children_read.ensures.same c.children_read.ensures.rising
    (sym c.in-None.is ∙ c.child_at.ensures))

pub returns-in-Some : goal.returns-in-Some
returns-in-Some g c =
    let none = nil_from_length c.args.path.now (eqb-true (length c.args.path.now) 0 (sym c.is_empty.ensures ∙ c.if-is_empty.true)) in
    subst (λ path. Narrows (read_at c.args.tables.now) path c.args.bottom.now c.args.byte (Some (c.opened_at.result.0.now, c.opened_at.result.1))) (sym none)
    (subst (λ run. Narrows (read_at c.args.tables.now) [] c.args.bottom.now c.args.byte (Some run)) (sym c.opened_at.ensures)
    (narrows_child (read_at c.args.tables.now) c.args.bottom.now c.args.byte c.children_read.result.now (Some c.in-Some.hash) c.children_read.ensures.same
    c.children_read.ensures.rising (sym c.in-Some.is ∙ c.child_at.ensures)))

pub returns-then-path-byte : goal.returns-then-path-byte
returns-then-path-byte g c =
    let path = c.args.path.now in
    let some = not_empty path (sym c.is_empty.ensures ∙ c.if-is_empty.false) in
    subst (λ p. Narrows (read_at c.args.tables.now) p c.args.bottom.now c.args.byte None) (sym (first_rest path 0 some))
    (narrows_other (read_at c.args.tables.now) c.args.bottom.now c.args.byte (get_or path 0 0) (between 1 (length path) path) c.if-path-byte.true)

pub returns : goal.returns
returns g c =
    let path = c.args.path.now in
    let rest = between 1 (length path) path in
    let some = not_empty path (sym c.is_empty.ensures ∙ c.if-is_empty.false) in
    subst (λ p. Narrows (read_at c.args.tables.now) p c.args.bottom.now c.args.byte (Some (rest, c.args.bottom.now))) (sym (first_rest path 0 some))
    (narrows_first (read_at c.args.tables.now) c.args.bottom.now c.args.byte (get_or path 0 0) rest c.if-path-byte.false)
