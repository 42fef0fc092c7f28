-- The lines of the answer. Each ends with a line feed, and one space parts its words.
use Rattle.std.specs.Prelude.{ℕ, List, [], ◌∷◌, ◌++◌, length, sum_by, Option, Some, None, codes}
use Rattle.std.specs.Fmt.{decimal}
use Rattle.hex.specs.Hex.{encode_lower}
use Rattle.saw_checks.specs.declared.fault.BatchFault.{BatchFault}
use Rattle.saw_checks.specs.declared.fault.BatchFault.TheVariants as batches
use Rattle.saw_checks.specs.declared.fault.StructureFault.{StructureFault}
use Rattle.saw_checks.specs.declared.fault.StructureFault.TheVariants as blocks
use Rattle.saw_checks.specs.declared.policy.PolicyFault.{PolicyFault}
use Rattle.saw_checks.specs.declared.policy.PolicyFault.TheVariants as policies
use Rattle.saw_merkle.specs.States.{Listed}
use Rattle.saw_messages.specs.declared.outcome.Reason.{Reason}
use Rattle.saw_messages.specs.declared.outcome.Reason.TheVariants as reasons
use Rattle.saw_messages.specs.declared.receipt.Receipt.{Receipt}
use Rattle.saw_messages.specs.Receipts.{receipt_pieces}
use Rattle.saw_plan.specs.declared.sorted.DropCause.{DropCause}
use Rattle.saw_plan.specs.declared.sorted.DropCause.TheVariants as causes
use Rattle.saw_receipts.specs.Numbers.{fault_name, fault_number}
use Rattle.saw_receipts.specs.declared.block.BlockRecord.{BlockRecord}
use Rattle.saw_receipts.specs.declared.loss.Loss.{Loss}
use Rattle.saw_receipts.specs.declared.loss.LossCause.{LossCause}
use Rattle.saw_receipts.specs.declared.loss.LossCause.TheVariants as losses
use Rattle.saw_receipts.specs.declared.verdict.BlockFault.{BlockFault}
use Rattle.saw_receipts.specs.declared.verdict.BlockFault.TheVariants as faults
use Rattle.saw_receipts.specs.declared.verdict.Verdict.{Verdict}
use Rattle.saw_receipts.specs.declared.verdict.Verdict.TheVariants.{Committed, Stored, Refused}
use Rattle.saw_wire.specs.Writing.{spelled}

abbrev pub spaced : ℕ → List ℕ
spaced n = codes " " ++ decimal n

-- number, id and root of a block
abbrev pub record_text : BlockRecord → List ℕ
record_text block = decimal block.number ++ codes " " ++ block.id ++ codes " " ++ encode_lower block.root

-- how many transactions it has: each has a receipt
abbrev pub transactions_of : BlockRecord → ℕ
transactions_of block = sum_by (λ batch. length batch.receipts) block.batches

-- the number of a batch fault, and the place that it has
abbrev pub batch_fault_text : BatchFault → List ℕ
batch_fault_text batches.Header = decimal 1
batch_fault_text batches.IdText = decimal 2
batch_fault_text batches.KeyText = decimal 3
batch_fault_text batches.Empty = decimal 4
batch_fault_text (batches.IdsDiffer index) = decimal 5 ++ spaced index
batch_fault_text (batches.TxHeader t) = decimal 6 ++ spaced t
batch_fault_text (batches.TxIdText t) = decimal 7 ++ spaced t
batch_fault_text (batches.TxKeyText t) = decimal 8 ++ spaced t
batch_fault_text (batches.PayloadHash t) = decimal 9 ++ spaced t
batch_fault_text (batches.BatcherKey t) = decimal 10 ++ spaced t
batch_fault_text (batches.TxSignature t) = decimal 11 ++ spaced t
batch_fault_text (batches.RepeatedTx t) = decimal 12 ++ spaced t
batch_fault_text (batches.TooManyDeclared t) = decimal 13 ++ spaced t
batch_fault_text batches.Signature = decimal 14
batch_fault_text batches.OutOfMemory = []

-- what a fault of a block's structure says behind its number and name
abbrev pub structure_text : StructureFault → List ℕ
structure_text (blocks.TooManyTransactions count) = spaced count
structure_text (blocks.BatchIds index) = spaced index
structure_text (blocks.Batch k fault) = spaced k ++ codes " " ++ batch_fault_text fault
structure_text _ = []

-- the number of a cause, and the transaction that it has
abbrev pub cause_text : DropCause → List ℕ
cause_text causes.DuplicateBatch = decimal 1
cause_text (causes.DuplicateTransaction t) = decimal 2 ++ spaced t
cause_text (causes.MissingDependency t id) = decimal 3 ++ spaced t

-- the number of a reason; a family's reason is its own number
abbrev pub reason_number : Reason → ℕ
reason_number reasons.BadDeclared = 1
reason_number reasons.NoProcessor = 2
reason_number reasons.DependencyFailed = 3
reason_number reasons.TooManyRequests = 4
reason_number reasons.Remote = 5
reason_number (reasons.Family number) = number

-- a number, or a word where there is none
abbrev pub spaced_or : List ℕ → Option ℕ → List ℕ
spaced_or word (Some number) = spaced number
spaced_or word None = codes " " ++ word

-- the number of a fault by a policy, and the transaction or the rule that it has; or the signer's transaction or batch, the
-- role and the entry
abbrev pub policy_text : PolicyFault → List ℕ
policy_text (policies.Family t) = spaced 1 ++ spaced t
policy_text (policies.Rule index) = spaced 2 ++ spaced index
policy_text (policies.Denied t role entry) = spaced 3 ++ spaced_or (codes "batch") t ++ spaced role ++ spaced_or (codes "none") entry

-- what a fault of a block says behind its number and name
abbrev pub said_text : BlockFault → List ℕ
said_text (faults.Structure fault) = structure_text fault
said_text (faults.BlockNumber stated due) = spaced stated ++ spaced due
said_text (faults.Static k cause) = spaced k ++ codes " " ++ cause_text cause
said_text (faults.Policy k fault) = spaced k ++ policy_text fault
said_text (faults.BatchInvalid k t reason) = spaced k ++ spaced t ++ spaced (reason_number reason)
said_text (faults.Root stated computed) = codes " " ++ encode_lower computed
said_text _ = []

abbrev pub fault_text : BlockFault → List ℕ
fault_text fault = decimal (fault_number fault) ++ codes " " ++ fault_name fault ++ said_text fault

-- of an accepted block besides the numbers of its batches and transactions
abbrev pub accepted_text : Option BlockRecord → List ℕ
accepted_text None = []
accepted_text (Some block) = codes " " ++ record_text block ++ spaced (length block.batches) ++ spaced (transactions_of block)

abbrev pub verdict_text : Verdict → Option BlockRecord → List ℕ
verdict_text Committed block = codes " committed" ++ accepted_text block
verdict_text Stored block = codes " stored" ++ accepted_text block
verdict_text (Refused fault) block = codes " refused " ++ fault_text fault

-- the line of the block at a place of the stream
abbrev pub verdict_line : ℕ → Verdict → Option BlockRecord → List ℕ
verdict_line place verdict block = codes "block " ++ decimal place ++ verdict_text verdict block ++ 10 ∷ []

abbrev pub head_text : Option BlockRecord → List ℕ
head_text None = codes "none"
head_text (Some block) = record_text block

abbrev pub head_line : Option BlockRecord → List ℕ
head_line head = codes "head " ++ head_text head ++ 10 ∷ []

-- an entry of the state
abbrev pub listed_line : Listed → List ℕ
listed_line listed = encode_lower listed.address ++ codes " " ++ encode_lower listed.value ++ 10 ∷ []

-- why a candidate leaves a batch out
abbrev pub loss_text : LossCause → List ℕ
loss_text (losses.Check fault) = codes " check " ++ batch_fault_text fault
loss_text losses.Room = codes " room"
loss_text (losses.Policy fault) = codes " policy" ++ policy_text fault
loss_text (losses.Static cause) = codes " static " ++ cause_text cause
loss_text (losses.Invalid t reason) = codes " invalid" ++ spaced t ++ spaced (reason_number reason)

-- a candidate that the policy refuses as a block: the batch at k has this fault, or, behind the last, all together
abbrev pub candidate_line : ℕ → PolicyFault → List ℕ
candidate_line k fault = codes "candidate refused " ++ fault_text (faults.Policy k fault) ++ 10 ∷ []

-- a batch that a candidate leaves out, by its place in the list
abbrev pub loss_line : Loss → List ℕ
loss_line loss = codes "batch" ++ spaced loss.place ++ codes " dropped" ++ loss_text loss.cause ++ 10 ∷ []

-- the id of a transaction, and its receipt as it is spelled
abbrev pub receipt_line : Receipt → List ℕ
receipt_line receipt =
    receipt.transaction_id ++ codes " " ++ encode_lower (spelled (receipt_pieces receipt)) ++ 10 ∷ []

-- number and id of the block that holds a batch, if one does
abbrev pub status_text : Option BlockRecord → List ℕ
status_text None = codes "UNKNOWN"
status_text (Some block) = codes "COMMITTED" ++ spaced block.number ++ codes " " ++ block.id

abbrev pub status_line : Option BlockRecord → List ℕ
status_line block = status_text block ++ 10 ∷ []
