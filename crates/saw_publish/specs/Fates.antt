-- What becomes of the batches of a list: each stays in, or is left out for a cause.
use Rattle.std.specs.Prelude.{ℕ, ◌+◌, List, [], ◌∷◌, Option, Some, None}
use Rattle.saw_receipts.specs.declared.loss.Loss.{Loss}
use Rattle.saw_receipts.specs.declared.loss.LossCause.{LossCause}

-- for each batch why it is left out, if it is
abbrev pub Fates : Type 0
Fates = List (Option LossCause)

-- what stays in
abbrev pub still_in : {A : Type 0} → Fates → List A → List A
still_in [] xs = []
still_in (fate ∷ fates) [] = []
still_in (None ∷ fates) (x ∷ xs) = x ∷ still_in fates xs
still_in (Some cause ∷ fates) (x ∷ xs) = still_in fates xs

-- the fates of batches, of which those that stay in have these further fates
abbrev pub further : Fates → Fates → Fates
further [] more = []
further (Some cause ∷ fates) more = Some cause ∷ further fates more
further (None ∷ fates) [] = None ∷ further fates []
further (None ∷ fates) (fate ∷ more) = fate ∷ further fates more

-- the rejected ones of batches, of which the first has this place
abbrev pub losses_from : ℕ → Fates → List Loss
losses_from place [] = []
losses_from place (None ∷ fates) = losses_from (place + 1) fates
losses_from place (Some cause ∷ fates) = record { place = place; cause = cause } ∷ losses_from (place + 1) fates

-- the first fate of some; where there is none, the batch stays in
abbrev pub first_fate : Fates → Option LossCause
first_fate [] = None
first_fate (fate ∷ fates) = fate
