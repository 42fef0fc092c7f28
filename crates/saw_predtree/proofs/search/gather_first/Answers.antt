use Rattle.std.proofs.Common.{ap, sym, take, get_or, ℕ, false, ◌∙◌}
use Rattle.std.proofs.lemmas.List.{length-take-le}
use Rattle.saw_predtree.proofs.Searching.{none-met}
use Rattle.saw_predtree.proofs.search.gather_first.Goals as goal

pub returns-then-not-is_marked : goal.returns-then-not-is_marked
returns-then-not-is_marked c = λ marked.
    none-met c.args.usage c.args.places.now c.args.lengths.now marked (take c.args.len c.args.bytes.now) c.args.found.now.items
    (ap (λ (n : ℕ). get_or c.args.lengths.now n false) (length-take-le c.args.len c.args.bytes.now c.requires.inside)
    ∙ (sym c.is_marked.ensures ∙ c.if-not-is_marked.true))
