-- What options say, as what the words ask for.
use Rattle.std.specs.Prelude.{◌≤◌, ℕ, false, List, [], ◌∷◌, Option, None, Some, option_map}
use Rattle.std.specs.Borrow.{Bor}
use Rattle.saw_events.specs.declared.filter.Filter.{Filter}
use Rattle.saw_top.specs.Command.{Asked, Assignment, claims, Judge as judges, Generate as generates, Check as checks}
use Rattle.saw_top.specs.declared.said.Plan.{Plan}
use Rattle.saw_top.specs.declared.said.Said.{Said}
use Rattle.saw_top.specs.declared.said.Said.TheVariants.{Judge, Generate, Check}
use Rattle.saw_top.specs.declared.said.Wanted.{Wanted}
use Rattle.saw_top.specs.declared.said.Wanted.TheVariants as wanted
use Rattle.saw_top.specs.declared.task.Ending.{Ending}
use Rattle.saw_top.specs.declared.task.Ending.TheVariants as endings
use Rattle.saw_top.specs.declared.task.Lines.{Lines}
use Rattle.saw_top.specs.declared.task.Lines.TheVariants.{All, Refused}

-- only the first command tells every block on the output
abbrev pub lines_in : Wanted → Lines
lines_in wanted.Head = All
lines_in other = Refused

-- the id that is named
abbrev pub known_ids : Option (Bor (List ℕ)) → List (List ℕ)
known_ids None = []
known_ids (Some id) = id.now ∷ []

-- the text that is wanted at a key
abbrev pub text_at : Option (Bor (List ℕ)) → Option (Bor (List ℕ)) → List Filter
text_at (Some at) (Some text) = record { key = at.now; text = text.now; all = false } ∷ []
text_at at text = []

abbrev pub ending_in : Wanted → Ending
ending_in wanted.Head = endings.Head
ending_in (wanted.Entries prefix) = endings.Entries prefix
ending_in wanted.Receipts = endings.Receipts
ending_in (wanted.Batch id) = endings.Batch id.now
ending_in (wanted.Proof at) = endings.Proof at
ending_in (wanted.Events event_type known at text) =
    endings.Events (known_ids known) (record { event_type = event_type.now; filters = text_at at text })
ending_in (wanted.Candidate list) = endings.Candidate

-- the batch list that is named
abbrev pub batches_in : Wanted → Option (List ℕ)
batches_in (wanted.Candidate list) = Some list.now
batches_in other = None

abbrev pub plan_wish : Plan → Assignment
plan_wish plan = record {
  workers = plan.workers;
  task = record { lines = lines_in plan.wanted; ending = ending_in plan.wanted };
  list = option_map (λ name. name.now) plan.attest;
  batches = batches_in plan.wanted;
}

abbrev pub asked_said : Said → Asked
asked_said (Judge plan) = judges (plan_wish plan)
asked_said (Generate wish) = generates wish
asked_said (Check claim proof) = checks (claims claim.root claim.at proof.now)

-- a new stream has few blocks and batches
abbrev pub IsSmall : Said → Type 0
IsSmall (Judge plan) = Unit {0}
IsSmall (Generate wish) = (wish.blocks ≤ 1000) × (wish.batches ≤ 5000)
IsSmall (Check claim proof) = Unit {0}
