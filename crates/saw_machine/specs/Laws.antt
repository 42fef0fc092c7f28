-- What every list of legal moves comes to.
use Rattle.std.specs.Prelude.{◌≡◌, ◌↔◌, ℕ, zero, suc, ◌+◌, ◌<◌, ◌≤◌, Bool, true, false, ◌&&◌, ◌||◌, ◌==◌, nat_le, if◌then◌else◌, List, [], ◌∷◌, ◌++◌, Option, Some, None, ⊤}
use Rattle.saw_messages.specs.declared.outcome.Outcome.{Outcome}
use Rattle.saw_context.specs.declared.batch_result.BatchResult.{BatchResult}
use Rattle.saw_context.specs.declared.batch_result.BatchResult.TheVariants.{Applied, Failed}
use Rattle.saw_machine.specs.Orders.{AreEdgesOf, AreMeetings, Map, Order}
use Rattle.saw_machine.specs.Serial.{MayComeOfAll, ReadsOnly, end_map, names_failed}
use Rattle.saw_machine.specs.Machine.{ArePredsOk, AreLegal, Finish, GiveBack, IsReady, IsReadyBy, Move, Running, Runs, Slots, State, Take, Task, View, Waiting, closed_in, finished, front, is_hit, look, made, next, over, put, run, seen, slots_after, start, task_in, view_of}

-- ---- serial execution

module _ (May : ℕ → Map → Bool → Outcome → Type 0) (base : Map) where
  -- a result that is accepted may come over what its task shows
  abbrev pub IsTrue : State → Move → Type 0
  IsTrue st (Take i) = ⊤
  IsTrue st (Finish i n outcome true) = (task : Task) → Runs st i n task → May i (over base task.view) task.failed outcome
  IsTrue st (Finish i n outcome false) = ⊤
  IsTrue st (GiveBack i n) = ⊤

  abbrev pub AreTrue : Order → State → List Move → Type 0
  AreTrue order st [] = ⊤
  AreTrue order st (move ∷ moves) = IsTrue st move × AreTrue order (next order st move) moves

-- every list of legal moves that ends finished, in which each accepted result is true, gives what may come of the
-- batches one after another, and its slots show the map after them
pub record IsSerial (order : Order) (May : ℕ → Map → Bool → Outcome → Type 0) (base : Map) (sizes : List ℕ) (st : State) : Type 0 where
  pub results : MayComeOfAll order May base sizes st.results
  pub map : look base st.slots st.first ≡ end_map base st.results

abbrev pub MovesAreSerial : Type 1
MovesAreSerial =
    (order : Order) (May : ℕ → Map → Bool → Outcome → Type 0) (base : Map) (sizes : List ℕ) (moves : List Move)
    → AreMeetings order → ReadsOnly order May
    → AreLegal order (start order sizes) moves → AreTrue May base order (start order sizes) moves
    → (run order (start order sizes) moves).rest ≡ []
    → IsSerial order May base sizes (run order (start order sizes) moves)

-- ---- what every move keeps

-- what precedes a transaction in an unsettled batch holds Ok, and its task is that of the present state
pub record KeepsTask (order : Order) (slots : Slots) (first i : ℕ) (task : Task) : Type 0 where
  pub preds : ArePredsOk order.precedes slots first i
  pub view : (at : List ℕ) → task.view at ≡ view_of order slots i at
  pub failed : task.failed ≡ names_failed order (closed_in slots) i

-- each held outcome changes what its transaction's outputs cover alone
abbrev pub AreDeclared : Order → Slots → Type 0
AreDeclared order slots = (j : ℕ) (at : List ℕ) (value : Option (List ℕ)) → made (slots j) at ≡ Some value → order.writes j at ≡ true

-- what runs or is held is as its predecessors and the present state ask
pub record IsLawful (order : Order) (st : State) : Type 0 where
  -- of each transaction of an unsettled batch that runs or is held
  pub tasks : (i : ℕ) (task : Task) → st.first ≤ i → task_in (st.slots i) ≡ Some task → KeepsTask order st.slots st.first i task
  pub running : (i n : ℕ) (task : Task) → st.slots i ≡ Running n task → st.first ≤ i
  pub declared : AreDeclared order st.slots

abbrev pub StatesAreLawful : Type 0
StatesAreLawful = (order : Order) (sizes : List ℕ) (moves : List Move)
    → AreMeetings order → AreLegal order (start order sizes) moves → IsLawful order (run order (start order sizes) moves)

-- nothing runs
abbrev pub IsQuiet : State → Type 0
IsQuiet st = (i n : ℕ) (task : Task) → st.slots i ≡ Running n task → ⊥

-- where nothing runs and not all is settled, some transaction may be taken
abbrev pub NeverStuck : Type 0
NeverStuck = (order : Order) (sizes : List ℕ) (moves : List Move)
    → AreLegal order (start order sizes) moves
    → IsQuiet (run order (start order sizes) moves) → ((run order (start order sizes) moves).rest ≡ [] → ⊥)
    → (i : ℕ) × IsReady order (run order (start order sizes) moves) i

-- ---- views

-- the last change at an address among the numbers below n
abbrev pub last_below : Slots → ℕ → View
last_below slots zero at = None
last_below slots (suc n) at = seen n (made (slots n) at) (last_below slots n at)

-- a view needs no closure: at an address that the transaction reads it is the last change before it
abbrev pub ViewIsLast : Type 0
ViewIsLast = (order : Order) (slots : Slots) (i : ℕ) (at : List ℕ)
    → AreMeetings order → AreDeclared order slots
    → view_of order slots i at ≡ (if order.reads i at then last_below slots i at else None)

-- nothing after a transaction that waits has changed what it reads
abbrev pub NoLaterChange : Type 0
NoLaterChange = (order : Order) (st : State) (i j : ℕ) (at : List ℕ)
    → AreMeetings order → IsLawful order st
    → st.first ≤ i → st.slots i ≡ Waiting → order.reads i at ≡ true → i < j → made (st.slots j) at ≡ None

-- nothing after a transaction that runs has changed what it may change
abbrev pub NoLaterWrite : Type 0
NoLaterWrite = (order : Order) (st : State) (i j n : ℕ) (task : Task) (at : List ℕ)
    → AreMeetings order → IsLawful order st
    → st.slots i ≡ Running n task → order.writes i at ≡ true → i < j → made (st.slots j) at ≡ None

-- ---- fewer edges

-- edges of which all pairs follow say as much: who is ready, and what stands on a failed batch
abbrev pub EdgesDecide : Type 0
EdgesDecide = (order : Order) (edges : ℕ → ℕ → Bool) (st : State) (i : ℕ)
    → AreEdgesOf order.precedes edges → IsLawful order st → IsReadyBy edges st i ↔ IsReady order st i

abbrev pub EdgesHit : Type 0
EdgesHit = (precedes edges : ℕ → ℕ → Bool) (n size i : ℕ)
    → AreEdgesOf precedes edges → is_hit edges n size i ≡ is_hit precedes n size i

-- ---- no needless rerun

abbrev pub is_failed : BatchResult → Bool
is_failed (Applied outcomes) = false
is_failed (Failed t reason) = true

abbrev pub hit_by : Option BatchResult → (BatchResult → Bool) → Bool
hit_by None on = false
hit_by (Some result) on = on result

-- the settling fails a batch that i stands on
abbrev pub hits : Order → ℕ → Slots → ℕ → List ℕ → Bool
hits order i slots first [] = false
hits order i slots first (size ∷ rest) =
    hit_by (front slots first size) (λ result. (is_failed result && is_hit order.precedes first size i)
    || hits order i (slots_after order first size result slots) (first + size) rest)

-- the move gives i back, refuses a result of i, or settles as failed a batch that i stands on
abbrev pub disturbs : Order → ℕ → State → Move → Bool
disturbs order i st (Take j) = false
disturbs order i st (Finish j n outcome true) = hits order i (put st.slots j (finished (st.slots j) outcome)) st.first st.rest
disturbs order i st (Finish j n outcome false) = i == j
disturbs order i st (GiveBack j n) = i == j

abbrev pub some_disturbs : Order → ℕ → State → List Move → Bool
some_disturbs order i st [] = false
some_disturbs order i st (move ∷ moves) = disturbs order i st move || some_disturbs order i (next order st move) moves

-- between two takes of one transaction something disturbs it
abbrev pub NoNeedlessRerun : Type 0
NoNeedlessRerun = (order : Order) (st : State) (i : ℕ) (moves : List Move)
    → AreLegal order st (Take i ∷ moves ++ Take i ∷ [])
    → some_disturbs order i (next order st (Take i)) moves ≡ true

abbrev pub one_if : Bool → ℕ
one_if true = 1
one_if false = 0

-- the move gives i back, or refuses a result of it
abbrev pub is_return : ℕ → Move → Bool
is_return i (Take j) = false
is_return i (Finish j n outcome true) = false
is_return i (Finish j n outcome false) = i == j
is_return i (GiveBack j n) = i == j

abbrev pub returns_of : ℕ → List Move → ℕ
returns_of i [] = 0
returns_of i (move ∷ moves) = one_if (is_return i move) + returns_of i moves

-- how many batches before that of i have failed; the batches have these sizes, numbered from n on
abbrev pub failed_before : ℕ → List ℕ → List BatchResult → ℕ → ℕ
failed_before n [] results i = 0
failed_before n (size ∷ sizes) [] i = 0
failed_before n (size ∷ sizes) (result ∷ results) i =
    one_if (is_failed result && nat_le (n + size) i) + failed_before (n + size) sizes results i

-- a transaction is taken at most once, and once more for each return and each failed batch before its own
abbrev pub FewReruns : Type 0
FewReruns = (order : Order) (sizes : List ℕ) (moves : List Move) (i : ℕ)
    → AreLegal order (start order sizes) moves
    → (run order (start order sizes) moves).attempts i
    ≤ 1 + returns_of i moves + failed_before 0 sizes (run order (start order sizes) moves).results i
