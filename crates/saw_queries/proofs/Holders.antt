-- The first block of a branch that holds a batch.
use Rattle.std.proofs.Common.{◌≡◌, ℕ, Bool, true, false, cond, Option, Some, None, List, [], ◌∷◌, ◌++◌, refl, sym, ap, ◌∙◌}
use Rattle.std.specs.Option.{option_or}
use Rattle.std.proofs.lemmas.List.Folds.{find-append}
use Rattle.saw_receipts.specs.declared.block.BlockRecord.{BlockRecord}
use Rattle.saw_queries.specs.Queries.{block_with, holds}

last_tried : (earlier : Option BlockRecord) (b : Bool) (block : BlockRecord) (later : Option BlockRecord)
    → option_or (option_or earlier (cond b (Some block) None)) later ≡ option_or earlier (cond b (Some block) later)
last_tried None true block later = refl
last_tried None false block later = refl
last_tried (Some first) b block later = refl

-- what the last block tells counts where no other holds the batch
module _ (batch : List ℕ) (branch rest : List BlockRecord) (block : BlockRecord) (later whole : Option BlockRecord)
    (cut : branch ≡ rest ++ block ∷ []) (known : option_or (block_with batch branch) later ≡ whole) where
  without_last : option_or (block_with batch rest) (cond (holds block batch) (Some block) later) ≡ whole
  without_last =
      sym (last_tried (block_with batch rest) (holds block batch) block later)
      ∙ sym (ap (λ found. option_or found later) (find-append (λ one. holds one batch) rest (block ∷ [])))
      ∙ ap (λ blocks. option_or (block_with batch blocks) later) (sym cut) ∙ known

  pub told : holds block batch ≡ true → option_or (block_with batch rest) (Some block) ≡ whole
  told held = ap (λ b. option_or (block_with batch rest) (cond b (Some block) later)) (sym held) ∙ without_last

  pub not_told : holds block batch ≡ false → option_or (block_with batch rest) later ≡ whole
  not_told held = ap (λ b. option_or (block_with batch rest) (cond b (Some block) later)) (sym held) ∙ without_last
