-- That the built-in processors are deterministic and refuse by their own reasons; and where all is told.
use Rattle.std.proofs.Common.{◌≡◌, inl, inr, ℕ, Bool, true, List, [], ◌∷◌, map, Result, Ok, Err, refl, sym, subst}
use Rattle.std.proofs.lemmas.Bool.{and_from}
use Rattle.std.specs.List.{list_all}
use Rattle.saw_context.specs.Outcome.{Processors}
use Rattle.saw_crew.proofs.Telling.{batches_told}
use Rattle.saw_identity.specs.Stations.{identity_offers, with_identity}
use Rattle.saw_messages.specs.Blocks.{block}
use Rattle.saw_messages.specs.TxShapes.{TxShape}
use Rattle.saw_messages.specs.declared.batch.Batch.{Batch}
use Rattle.saw_messages.specs.declared.block.Block.{Block}
use Rattle.saw_messages.specs.declared.outcome.Reason.TheVariants.{Remote}
use Rattle.saw_messages.specs.declared.talk.Action.{Action}
use Rattle.saw_messages.specs.declared.talk.Action.TheVariants as actions
use Rattle.saw_messages.specs.declared.talk.Turn.{Turn}
use Rattle.saw_plan.specs.BatchShapes.{txs_of}
use Rattle.saw_receipts.specs.Shapes.{batch_in}
use Rattle.saw_report.specs.declared.run_fault.RunFault.{RunFault}
use Rattle.saw_station.specs.CommonOffers.{common}
use Rattle.saw_station.specs.declared.offer.Offer.{Offer}
use Rattle.saw_top.specs.Answers.{Prepared}
use Rattle.saw_top.specs.BuiltInLaws.{BuiltInTell}
use Rattle.saw_top.specs.Stream.{stream_of}
use Rattle.saw_receipts.specs.Telling.{tell_batches, tell_block, tell_read}
use Rattle.saw_top.specs.Telling.{IsTold}
use Rattle.saw_top.specs.TellingLaws.{AllIsTold}
use Rattle.saw_top.specs.World.{TellsAll, processors_alone, processors_with}
use Rattle.saw_top.proofs.Desks.{tells_all}
use Rattle.saw_top.proofs.Served.{own_alone}
use Rattle.saw_wire.specs.declared.fault.MessageFault.{MessageFault}

pub built_in_tell : BuiltInTell
built_in_tell = (tells_all (with_identity (λ tx turns. actions.Invalid Remote)) (identity_offers []), own_alone)

-- ---- where all is told

module _ (processors : Processors) (tells : TellsAll processors) where
  batches_so : (batches : List Batch) → tell_batches processors batches ≡ true
  batches_so batches = batches_told processors tells (txs_of (map batch_in batches))

  read_so : (read : Result Block MessageFault) → tell_read processors read ≡ true
  read_so (Ok b) = batches_so b.batches
  read_so (Err fault) = refl

  frames_so : (frames : List (List ℕ)) → list_all (tell_block processors) frames ≡ true
  frames_so [] = refl
  frames_so (content ∷ frames) = and_from _ _ (read_so (block content)) (frames_so frames)

  told_so : (ready : Result Prepared RunFault) (bytes : List ℕ) → IsTold processors ready bytes
  told_so (Ok made) bytes = (frames_so (stream_of bytes).frames, batches_so made.waiting.batches)
  told_so (Err fault) bytes = tt

told_with : (next : TxShape → List Turn → Action) (lists : List (List Offer)) → TellsAll (processors_with next true lists)
told_with next [] = tells_all (with_identity (λ tx turns. actions.Invalid Remote)) (identity_offers [])
told_with next (first ∷ others) = tells_all (with_identity next) (identity_offers (common (first ∷ others)))

pub all_is_told : AllIsTold
all_is_told next tells lists ready bytes (inl none) =
    subst (λ (lists : List (List Offer)). IsTold (processors_with next tells lists) ready bytes) (sym none)
    (told_so processors_alone (told_with next []) ready bytes)
all_is_told next tells lists ready bytes (inr told) =
    subst (λ (tells : Bool). IsTold (processors_with next tells lists) ready bytes) (sym told)
    (told_so (processors_with next true lists) (told_with next lists) ready bytes)

-- without external processors all blocks are
pub frames_told : (frames : List (List ℕ)) → list_all (tell_block processors_alone) frames ≡ true
frames_told frames = frames_so processors_alone (tells_all (with_identity (λ tx turns. actions.Invalid Remote)) (identity_offers [])) frames
