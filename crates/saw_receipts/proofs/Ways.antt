-- Ways to run batches.
use Rattle.std.proofs.Common.{◌≡◌, true, false, List, [], refl, ap, subst}
use Rattle.std.specs.Prelude.{if◌then◌else◌}
use Rattle.std.specs.Coded.{Coded, codes}
use Rattle.std.specs.FinMap as finite
use Rattle.saw_address.specs.Maps.{StateMap}
use Rattle.saw_context.specs.Outcome.{Processors}
use Rattle.saw_context.specs.Possible.{MayComeOfAll}
use Rattle.saw_context.specs.Serial.{serial}
use Rattle.saw_context.specs.declared.batch_result.BatchResult.{BatchResult}
use Rattle.saw_context.proofs.Coming.{from_comes}
use Rattle.saw_messages.specs.Reasons.{has_own_reason}
use Rattle.saw_messages.specs.TxShapes.{TxShape}
use Rattle.saw_messages.specs.declared.talk.Turn.{Turn}
use Rattle.saw_receipts.specs.Running.{Runs, RunsBy}
use Rattle.saw_receipts.proofs.Testing.{are_one, one_is, one_itself}

-- a map with batches
abbrev Place : Type 0
Place = StateMap × List (List TxShape)

coded_place : Coded Place
coded_place = hlevel (codes, finite.code)

abbrev pub by_serial : Processors → Runs
by_serial processors = λ m batches. serial processors m batches

-- these results of these batches over this map, and else the serial ones
pub or_here : Processors → StateMap → List (List TxShape) → List BatchResult → Runs
or_here processors m batches results = λ n others. if are_one coded_place (m, batches) (n, others) then results else serial processors n others

-- the results are those of the batches over the map
pub here_are : (processors : Processors) (m : StateMap) (batches : List (List TxShape)) (results : List BatchResult)
    → or_here processors m batches results m batches ≡ results
unfolding or_here
here_are processors m batches results = ap (λ b. if b then results else serial processors m batches) (one_itself coded_place (m, batches))

module _ (processors : Processors) (own : (tx : TxShape) (turns : List Turn) → has_own_reason (processors.next tx turns) ≡ true) where
  pub is_by_serial : RunsBy processors (by_serial processors)
  is_by_serial = record { serial = λ m batches. from_comes processors own [] m batches }

  -- results that may come there are a way to run batches
  pub is_or_here : (m : StateMap) (batches : List (List TxShape)) (results : List BatchResult) → MayComeOfAll processors m batches results
      → RunsBy processors (or_here processors m batches results)
  unfolding or_here
  is_or_here m batches results may = record {
    serial = λ n others.
        elim (are_one coded_place (m, batches) (n, others)) as
        (λ b. are_one coded_place (m, batches) (n, others) ≡ b → MayComeOfAll processors n others (if b then results else serial processors n others)) [
          | true ↦ λ same. subst (λ (place : Place). MayComeOfAll processors place.0 place.1 results) (one_is coded_place (m, batches) (n, others) same) may
          | false ↦ λ same. from_comes processors own [] n others
        ] refl;
  }
