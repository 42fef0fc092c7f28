-- The batch at a place by its two draws, and the batches of a block.
use Rattle.std.proofs.Common.{◌≡◌, ◌+◌, ◌*◌, ℕ, List, [], ◌∷◌, ◌++◌, map, length, sym, ap, ◌∙◌, arith}
use Rattle.std.specs.List.{range_with_len}
use Rattle.std.proofs.lemmas.List.{map-append}
use Rattle.std.proofs.lemmas.List.FromFn.{map-range_with_len_more}
use Rattle.std.proofs.lemmas.List.Sums.{sum_by-append}
use Rattle.saw_messages.specs.TxShapes.{BatchShape, TxShape, shape_in}
use Rattle.saw_messages.specs.declared.batch.Batch.{Batch}
use Rattle.saw_plan.specs.BatchShapes.{transactions_in, txs_of}
use Rattle.saw_receipts.specs.Shapes.{batch_in}
use Rattle.saw_messages.specs.declared.transaction.Transaction.{Transaction}
use Rattle.saw_publish.specs.Candidates.{Signing}
use Rattle.saw_generate.specs.Draws.{draw_at}
use Rattle.saw_generate.specs.Operations.{draws_before, first_by, first_of, second_by}
use Rattle.saw_generate.specs.Signed.{batch_at, batch_of, nonce_at, transaction}
use Rattle.saw_generate.specs.declared.wish.GenerateWish.{GenerateWish}

-- two more draws
two_more : (x k : ℕ) → 2 * (x + k) + 1 + 1 ≡ 2 * (x + (k + 1))
two_more x k = omega arith

pub drawn_more : (wish : GenerateWish) (b k : ℕ) → draws_before wish b k + 1 + 1 ≡ draws_before wish b (k + 1)
drawn_more wish b k = two_more (b * wish.batches) k

pub two_put : (none one two : List Transaction) (first second : Transaction) → none ≡ [] → one ≡ none ++ first ∷ [] → two ≡ one ++ second ∷ []
    → two ≡ first ∷ second ∷ []
two_put none one two first second a b c =
    c ∙ ap (λ (l : List Transaction). l ++ second ∷ []) (b ∙ ap (λ (l : List Transaction). l ++ first ∷ []) a)

module _ (signing : Signing) (wish : GenerateWish) (b k : ℕ) where
  pub batch_is : (p q : ℕ) (messages : List Transaction) (one other : Transaction) → messages ≡ one ∷ other ∷ []
      → one ≡ transaction signing (nonce_at b k 0) (first_by b k p)
      → other ≡ transaction signing (nonce_at b k 1) (second_by wish.conflicts b k q)
      → p ≡ draw_at wish.start (draws_before wish b k) → q ≡ draw_at wish.start (draws_before wish b k + 1)
      → batch_of signing messages ≡ batch_at signing wish b k
  batch_is p q messages one other both first second is_p is_q =
      let e = first ∙ ap (λ (n : ℕ). transaction signing (nonce_at b k 0) (first_by b k n)) is_p in
      let f = second ∙ ap (λ (n : ℕ). transaction signing (nonce_at b k 1) (second_by wish.conflicts b k n)) is_q in
      ap (λ (txs : List Transaction). batch_of signing txs)
      (both ∙ ap (λ (tx : Transaction). tx ∷ other ∷ []) e
      ∙ ap (λ (tx : Transaction). transaction signing (nonce_at b k 0) (first_of wish b k) ∷ tx ∷ []) f)

-- ---- one batch more

-- what is run is what the messages say
pub reads_more : (reads more : List BatchShape) (read : BatchShape) (messages others : List Batch) (message : Batch) → more ≡ reads ++ read ∷ []
    → others ≡ messages ++ message ∷ [] → read.txs ≡ map shape_in message.transactions → txs_of reads ≡ txs_of (map batch_in messages)
    → txs_of more ≡ txs_of (map batch_in others)
reads_more reads more read messages others message a b same is =
    ap txs_of a ∙ map-append (λ (batch : BatchShape). batch.txs) reads (read ∷ [])
    ∙ ap (λ (txs : List (List TxShape)). txs ++ read.txs ∷ []) is
    ∙ ap (λ (txs : List TxShape). txs_of (map batch_in messages) ++ txs ∷ []) same
    ∙ sym (ap (λ (l : List Batch). txs_of (map batch_in l)) b ∙ ap txs_of (map-append batch_in messages (message ∷ []))
    ∙ map-append (λ (batch : BatchShape). batch.txs) (map batch_in messages) (batch_in message ∷ []))

pub ids_more : (ids more : List (List ℕ)) (messages others : List Batch) (message : Batch) → more ≡ ids ++ message.header_signature ∷ []
    → others ≡ messages ++ message ∷ [] → ids ≡ map (λ (batch : Batch). batch.header_signature) messages
    → more ≡ map (λ (batch : Batch). batch.header_signature) others
ids_more ids more messages others message a b is =
    a ∙ ap (λ (l : List (List ℕ)). l ++ message.header_signature ∷ []) is
    ∙ sym (ap (map (λ (batch : Batch). batch.header_signature)) b ∙ map-append (λ (batch : Batch). batch.header_signature) messages (message ∷ []))

pub messages_more : (f : ℕ → Batch) (k : ℕ) (messages others : List Batch) (message : Batch) → others ≡ messages ++ message ∷ [] → message ≡ f k
    → messages ≡ map f (range_with_len 0 k) → others ≡ map f (range_with_len 0 (k + 1))
messages_more f k messages others message a same is =
    a ∙ ap (λ (l : List Batch). l ++ message ∷ []) is ∙ ap (λ (batch : Batch). map f (range_with_len 0 k) ++ batch ∷ []) same
    ∙ sym (map-range_with_len_more f 0 k k (omega arith))

-- two transactions more
pub count_more : (k : ℕ) (reads more : List BatchShape) (read : BatchShape) → more ≡ reads ++ read ∷ [] → length read.txs ≡ 2
    → transactions_in reads ≡ 2 * k → transactions_in more ≡ 2 * (k + 1)
count_more k reads more read a two is =
    let e = ap transactions_in a ∙ sum_by-append (λ (batch : BatchShape). length batch.txs) reads (read ∷ []) in
    omega (arith, e, two, is)
