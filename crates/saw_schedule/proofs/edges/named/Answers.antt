use Rattle.std.proofs.Common.{◌≡◌, ◌<◌, ℕ, false, true, sym, ◌∙◌}
use Rattle.std.specs.Arc.{arc_value}
use Rattle.std.specs.List.{list_all}
use Rattle.std.proofs.lemmas.Result.{IfOk-weaker}
use Rattle.std.proofs.lemmas.List.Folds.{list_all-map}
use Rattle.saw_plan.specs.BatchShapes.{shapes_of}
use Rattle.saw_schedule.specs.ByIds.{names_none}
use Rattle.saw_schedule.specs.Orders.{names_in}
use Rattle.saw_schedule.specs.Shows.{is_edge}
use Rattle.saw_schedule.proofs.NamedRows.{none-names}
use Rattle.saw_schedule.proofs.edges.named.Goals as goal

pub returns-then-all_name_none-clause-names : goal.returns-then-all_name_none-clause-names
returns-then-all_name_none-clause-names c =
    let none : list_all names_none (shapes_of c.args.txs.now) ≡ true = list_all-map names_none arc_value c.args.txs.now ∙ sym c.if-all_name_none.ensures in
    IfOk-weaker c.no_edges.result (λ edges. (i j : ℕ) → is_edge edges j i ≡ false) (λ named. (i j : ℕ) → j < i → is_edge named j i ≡ names_in (shapes_of c.args.txs.now) i j)
    (λ edges no_edges i j less. no_edges i j ∙ sym (none-names (shapes_of c.args.txs.now) i j none)) c.no_edges.ensures.none
