-- What is true of generated streams.
use Rattle.std.specs.Prelude.{◌≡◌, ◌≤◌, ℕ, true, List, [], ◌∷◌, ◌++◌, length, map, None, option_map, Ok}
use Rattle.std.specs.List.{AllByRecursion, flat_map, range_with_len}
use Rattle.saw_address.specs.Texts.{is_hex_text}
use Rattle.saw_checks.specs.BatchFaults.{ids_of}
use Rattle.saw_generate.specs.Streams.{batches_at, block_at, content_at, map_after_blocks, parent_after, stream}
use Rattle.saw_generate.specs.declared.wish.GenerateWish.{GenerateWish}
use Rattle.saw_messages.specs.Distinct.{are_distinct}
use Rattle.saw_messages.specs.declared.batch.Batch.{Batch}
use Rattle.saw_publish.specs.Candidates.{Signing}
use Rattle.saw_receipts.specs.Heads.{as_parent, head_of}
use Rattle.saw_receipts.specs.declared.verdict.Verdict.TheVariants.{Committed}
use Rattle.saw_top.specs.History.{records_of}
use Rattle.saw_top.specs.Answers.{answer_for}
use Rattle.saw_top.specs.Publishing.{Waiting}
use Rattle.saw_top.specs.Run.{fault_of, head_map, run_of}
use Rattle.saw_top.specs.Stream.{stream_of}
use Rattle.saw_top.specs.World.{Accepts, Judging, judging_by, processors_alone, serially}
use Rattle.saw_top.specs.declared.task.Ending.TheVariants.{Head}
use Rattle.saw_top.specs.declared.task.Lines.TheVariants.{All}

-- blocks are judged by the built-in processors alone, their batches one after another
abbrev pub alone_by : Accepts → Judging
alone_by accepts = judging_by accepts (serially processors_alone)

module _ (signing : Signing) (wish : GenerateWish) where
  -- the places of the blocks
  abbrev pub places : List ℕ
  places = range_with_len 0 wish.blocks

  -- what is signed for a batch: the headers of its transactions, and its own
  abbrev pub signed_for : Batch → List (List ℕ)
  signed_for batch = map (λ tx. tx.header) batch.transactions ++ batch.header ∷ []

  -- what is signed for a block: for its batches, and its own header
  abbrev pub signed_at : ℕ → List (List ℕ)
  signed_at b = flat_map signed_for (batches_at signing wish b) ++ (block_at signing wish b).header ∷ []

  -- the ids of a block's batches, and of their transactions
  abbrev pub batch_ids_at : ℕ → List (List ℕ)
  batch_ids_at b = map (λ batch. batch.header_signature) (batches_at signing wish b)

  abbrev pub transaction_ids_at : ℕ → List (List ℕ)
  transaction_ids_at b = flat_map (λ batch. ids_of batch.transactions) (batches_at signing wish b)

  -- A stream whose signer is vouched for: the key has the right form, and so has each signature, which is accepted; and no
  -- two blocks, batches or transactions have one id.
  pub record IsVouchedFor (accepts : Accepts) : Type 0 where
    pub key : is_hex_text 66 signing.key ≡ true
    pub form : AllByRecursion (λ message. is_hex_text 128 (signing.signature message) ≡ true) (flat_map signed_at places)
    pub signed : AllByRecursion (λ message. accepts signing.key message (signing.signature message) ≡ true) (flat_map signed_at places)
    pub blocks : are_distinct (map (λ b. (block_at signing wish b).header_signature) places) ≡ true
    pub batches : are_distinct (flat_map batch_ids_at places) ≡ true
    pub transactions : are_distinct (flat_map transaction_ids_at places) ≡ true

  -- What the stream comes to: its frames are the blocks, each is committed, and none is without room; the head is the last
  -- block, over the map that all of them leave; and `apply` ends with status 0.
  pub record IsCommitted (accepts : Accepts) : Type 0 where
    pub frames : (stream_of (stream signing wish)).frames ≡ map (content_at signing wish) places
    pub fault : fault_of (alone_by accepts) (stream signing wish) ≡ None
    pub said : AllByRecursion (λ said. said.verdict ≡ Committed) (run_of (alone_by accepts) (stream signing wish)).said
    pub judged : length (run_of (alone_by accepts) (stream signing wish)).said ≡ wish.blocks
    pub head : option_map as_parent (head_of (records_of (run_of (alone_by accepts) (stream signing wish)).accepted))
        ≡ parent_after signing wish wish.blocks
    pub left : head_map (run_of (alone_by accepts) (stream signing wish))
        ≡ map_after_blocks signing wish wish.blocks
    pub status : (waiting : Waiting)
        → (answer_for (serially processors_alone) (record { lines = All; ending = Head })
        (Ok (record { accepts = accepts; waiting = waiting })) (stream signing wish)).status ≡ 0

-- a generated stream is committed by whoever accepts its signatures
abbrev pub GeneratedStreamIsCommitted : Type 0
GeneratedStreamIsCommitted =
    (accepts : Accepts) (signing : Signing) (wish : GenerateWish) → wish.blocks ≤ 1000 → wish.batches ≤ 5000
    → IsVouchedFor signing wish accepts → IsCommitted signing wish accepts
