-- Ids of branches, gathered from the latest block on.
use Rattle.std.proofs.Common.{◌≡◌, ℕ, ◌+◌, ◌<◌, Bool, true, false, List, [], ◌∷◌, ◌++◌, length, map, take, get_or, refl, sym, ap, subst, ◌∙◌}
use Rattle.std.proofs.Common.{◌⊎◌, inl, inr, arith}
use Rattle.std.specs.Prelude.{◌||◌}
use Rattle.std.specs.Str.{bytes_eq}
use Rattle.std.specs.BTreeSet.{BTreeSet}
use Rattle.std.proofs.lemmas.Grind.{flat_map-append}
use Rattle.std.proofs.lemmas.List.{append_assoc, append-nil, map_push, take_more}
use Rattle.std.proofs.lemmas.List.Concat.{flat_map-cons}
use Rattle.std.proofs.lemmas.List.Folds.{list_any-append}
use Rattle.saw_ids.specs.Seen.{HoldsIds, is_among}
use Rattle.saw_messages.specs.declared.receipt.Receipt.{Receipt}
use Rattle.saw_context.specs.declared.batch_result.BatchResult.{BatchResult}
use Rattle.saw_messages.specs.TxShapes.{BatchShape}
use Rattle.saw_journal.specs.Judgement.{batch_record, batch_records}
use Rattle.saw_plan.specs.StaticRules.{Ids, Knows}
use Rattle.saw_plan.specs.SortingSteps.{both}
use Rattle.saw_plan.specs.declared.known.Known.{Known}
use Rattle.saw_receipts.specs.declared.block.BatchRecord.{BatchRecord}
use Rattle.saw_receipts.specs.declared.block.BlockRecord.{BlockRecord}
use Rattle.saw_receipts.specs.Branches.{batch_ids, branch_back, ids_in}

-- ---- the ids of one block

pub receipt_ids_more : (receipts : List Receipt) (i : ℕ) (receipt : Receipt) → i < length receipts → receipt ≡ get_or receipts i receipt → (ids : List (List ℕ))
    → (ids ++ map (λ receipt. receipt.transaction_id) (take i receipts)) ++ receipt.transaction_id ∷ [] ≡ ids ++ map
    (λ receipt. receipt.transaction_id) (take (i + 1) receipts)
receipt_ids_more receipts i receipt more here ids =
    let cut : take (i + 1) receipts ≡ take i receipts ++ receipt ∷ [] = take_more receipts i receipt more
    ∙ ap (λ one. take i receipts ++ one ∷ []) (sym here) in
    append_assoc ids (map (λ (receipt : Receipt). receipt.transaction_id) (take i receipts)) (receipt.transaction_id ∷ [])
    ∙ ap (λ more. ids ++ more) (sym (ap (map (λ (receipt : Receipt). receipt.transaction_id)) cut
    ∙ map_push (λ (receipt : Receipt). receipt.transaction_id) (take i receipts) receipt))

abbrev pub one_batch : BatchRecord → Ids
one_batch batch = record { batches = batch.id ∷ []; transactions = map (λ receipt. receipt.transaction_id) batch.receipts }

ids_push : (batches : List BatchRecord) (batch : BatchRecord) → batch_ids (batches ++ batch ∷ []) ≡ both (batch_ids batches) (one_batch batch)
ids_push batches batch =
    rw (
      map_push (λ (batch : BatchRecord). batch.id) batches batch,
      flat_map-append (λ (batch : BatchRecord). map (λ (receipt : Receipt). receipt.transaction_id) batch.receipts) batches (batch ∷ []),
      flat_map-cons (λ (batch : BatchRecord). map (λ (receipt : Receipt). receipt.transaction_id) batch.receipts) batch [],
      append-nil (map (λ (receipt : Receipt). receipt.transaction_id) batch.receipts),
    ) refl

same_ids : {a b c d : List (List ℕ)} → a ≡ b → c ≡ d → (◌≡◌ {A = Ids} (record { batches = a; transactions = c }) (record { batches = b; transactions = d }))
same_ids e f = rw (e, f) refl

pub batch_ids_more : (batches : List BatchRecord) (i : ℕ) (batch : BatchRecord) → i < length batches → batch ≡ get_or batches i batch → (there : Ids)
    → both (both there (batch_ids (take i batches))) (record
    { batches = batch.id ∷ []; transactions = map (λ receipt. receipt.transaction_id) batch.receipts }) ≡ both there (batch_ids (take (i + 1) batches))
batch_ids_more batches i batch more here there =
    let cut : take (i + 1) batches ≡ take i batches ++ batch ∷ [] = take_more batches i batch more ∙ ap (λ one. take i batches ++ one ∷ []) (sym here) in
    let pushed : batch_ids (take (i + 1) batches) ≡ both (batch_ids (take i batches)) (one_batch batch) = ap batch_ids cut ∙ ids_push (take i batches) batch in
    let before = batch_ids (take i batches) in
    same_ids (append_assoc there.batches before.batches (batch.id ∷ [])) (append_assoc there.transactions before.transactions (one_batch batch).transactions)
    ∙ ap (both there) (sym pushed)

-- ---- the ids that are gathered, and those of the rest of the branch

-- the gathered ids and those that are left are those of the whole
abbrev pub Covers : List (List ℕ) → List (List ℕ) → List (List ℕ) → Type 0
Covers gathered left whole = (q : List ℕ) → (is_among gathered q || is_among left q) ≡ is_among whole q

pub record CoversIds (gathered left whole : Ids) : Type 0 where
  pub batches : Covers gathered.batches left.batches whole.batches
  pub transactions : Covers gathered.transactions left.transactions whole.transactions

turned : (a b c : Bool) → ((a || b) || c) ≡ (a || (c || b))
turned true b c = refl
turned false true true = refl
turned false true false = refl
turned false false true = refl
turned false false false = refl

covers_more : (gathered more left whole : List (List ℕ)) → Covers gathered (left ++ more) whole → Covers (gathered ++ more) left whole
covers_more gathered more left whole covers = λ q.
    rw (list_any-append (λ x. bytes_eq x q) gathered more)
    (turned (is_among gathered q) (is_among more q) (is_among left q)
    ∙ ap (λ b. is_among gathered q || b) (sym (list_any-append (λ x. bytes_eq x q) left more)) ∙ covers q)

none_gathered : (whole : List (List ℕ)) → Covers [] whole whole
none_gathered whole = λ q. refl

or_false : (b : Bool) → (b || false) ≡ b
or_false true = refl
or_false false = refl

all_gathered : (seen : BTreeSet (List ℕ)) (gathered whole : List (List ℕ)) → HoldsIds seen gathered → Covers gathered [] whole → HoldsIds seen whole
all_gathered seen gathered whole holds covers = λ q. holds q ∙ sym (or_false (is_among gathered q)) ∙ covers q

abbrev pub walk : List BlockRecord → List ℕ → List BlockRecord
walk blocks id = branch_back (λ block. block) blocks id

pub ids_push_block : (blocks : List BlockRecord) (block : BlockRecord) → ids_in (blocks ++ block ∷ []) ≡ both (ids_in blocks) (batch_ids block.batches)
ids_push_block blocks block =
    rw (
      flat_map-append (λ (block : BlockRecord). (batch_ids block.batches).batches) blocks (block ∷ []),
      flat_map-append (λ (block : BlockRecord). (batch_ids block.batches).transactions) blocks (block ∷ []),
      flat_map-cons (λ (block : BlockRecord). (batch_ids block.batches).batches) block [],
      flat_map-cons (λ (block : BlockRecord). (batch_ids block.batches).transactions) block [],
      append-nil (batch_ids block.batches).batches,
      append-nil (batch_ids block.batches).transactions,
    ) refl

-- the last block of a branch is gathered
pub gathers_last : (branch rest : List BlockRecord) (block : BlockRecord) → branch ≡ rest ++ block ∷ [] → (gathered whole : Ids)
    → CoversIds gathered (ids_in branch) whole → CoversIds (both gathered (batch_ids block.batches)) (ids_in rest) whole
gathers_last branch rest block cut gathered whole covers =
    let now : CoversIds gathered (both (ids_in rest) (batch_ids block.batches)) whole =
    subst (λ (left : Ids). CoversIds gathered left whole) (ap ids_in cut ∙ ids_push_block rest block) covers in
    record {
      batches = covers_more gathered.batches (batch_ids block.batches).batches (ids_in rest).batches whole.batches now.batches;
      transactions = covers_more gathered.transactions (batch_ids block.batches).transactions (ids_in rest).transactions whole.transactions now.transactions;
    }

pub opens : (whole : Ids) → CoversIds (record { batches = []; transactions = [] }) whole whole
opens whole = record { batches = none_gathered whole.batches; transactions = none_gathered whole.transactions }

pub closes : (known : Known) (gathered whole : Ids) → Knows known gathered → CoversIds gathered (record { batches = []; transactions = [] }) whole
    → Knows known whole
closes known gathered whole knows covers = (
  all_gathered known.batches gathered.batches whole.batches knows.0 covers.batches,
  all_gathered
      known.transactions gathered.transactions whole.transactions knows.1 covers.transactions,
)

-- ---- records of batches

pub no_records : (batches : List BatchShape) (results : List BatchResult) → (batches ≡ []) ⊎ (results ≡ []) → batch_records batches results ≡ []
no_records [] results none = refl
no_records (batch ∷ batches) [] none = refl
no_records (batch ∷ batches) (result ∷ results) (inl is) = absurd (grind (arith, is))
no_records (batch ∷ batches) (result ∷ results) (inr is) = absurd (grind (arith, is))

pub ended : (made whole : List BatchRecord) (batches : List BatchShape) (results : List BatchResult) → (batches ≡ []) ⊎ (results ≡ [])
    → made ++ batch_records batches results ≡ whole → made ≡ whole
ended made whole batches results none known = sym (append-nil made) ∙ ap (λ rest. made ++ rest) (sym (no_records batches results none)) ∙ known

pub records_joined : (batches others : List BatchShape) (results more : List BatchResult) → length batches ≡ length results
    → batch_records (batches ++ others) (results ++ more) ≡ batch_records batches results ++ batch_records others more
records_joined [] others [] more same = refl
records_joined [] others (result ∷ results) more same = absurd (grind arith)
records_joined (batch ∷ batches) others [] more same = absurd (grind arith)
records_joined (batch ∷ batches) others (result ∷ results) more same =
    ap (λ rest. batch_record batch result ∷ rest) (records_joined batches others results more (grind arith))
