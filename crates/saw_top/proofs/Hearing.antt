-- What is told to one who follows a stream, by where its judging ends.
use Rattle.std.proofs.Common.{◌≡◌, ◌⊎◌, inl, inr, ℕ, ◌+◌, ◌<◌, ◌≤◌, Bool, true, false, List, [], ◌∷◌, ◌++◌, length, take, Option, Some, None, Result, Ok, Err, refl, sym, ap, subst, ◌∙◌, append_assoc, arith}
use Rattle.std.specs.Prelude.{IfSome}
use Rattle.std.specs.Global.{Vec}
use Rattle.std.proofs.lemmas.List.{append-nil, length-append, take_all}
use lib.Seq.{take-append_seam}
use Rattle.saw_context.specs.Outcome.{Processors}
use Rattle.saw_io.specs.Frame.{FrameGives}
use Rattle.saw_journal.specs.Ledger.{IsFull, Ledger}
use Rattle.saw_live.specs.Words.{Head}
use Rattle.saw_node.specs.Hashes.{first_half}
use Rattle.saw_receipts.specs.Running.{Runs, RunsBy}
use Rattle.saw_receipts.specs.declared.block.BlockRecord.{BlockRecord}
use Rattle.saw_receipts.specs.declared.verdict.Verdict.{Verdict}
use Rattle.saw_receipts.specs.declared.verdict.Verdict.TheVariants.{Committed, Stored, Refused}
use Rattle.saw_report.specs.declared.run_fault.RunFault.{RunFault}
use Rattle.saw_report.specs.declared.run_fault.RunFault.TheVariants.{Blocks, Collision, Memory, Peer, Write}
use Rattle.saw_top.specs.Clashing.{LeavesUnjudged}
use Rattle.saw_top.specs.Following.{Follows, HearsBy, HearsStream, HearsUpTo, cuts, heads_by, heads_in, heads_of, heads_said}
use Rattle.saw_top.specs.History.{Said}
use Rattle.saw_top.specs.Limits.{max_frames, max_length}
use Rattle.saw_top.specs.Run.{run_of}
use Rattle.saw_top.specs.World.{Accepts, Judging, rules_with, serially}
use Rattle.saw_top.specs.declared.task.Lines.{Lines}
use Rattle.saw_top.proofs.OwnReasons.{HasOwnReasons, serial_may}
use Rattle.saw_top.proofs.Histories.{by_ways, put, put_may}
use Rattle.saw_top.proofs.Standings.{IsAt, SoFar, at_put, no_room_said, said_first, so_by, there}

-- ---- heads of what is said

heads_append : (some others : List Said) → heads_said (some ++ others) ≡ heads_said some ++ heads_said others
heads_append [] others = refl
heads_append (said ∷ some) others =
    ap (λ (l : List Head). heads_in said ++ l) (heads_append some others) ∙ sym (append_assoc (heads_in said) (heads_said some) (heads_said others))

heads_push : (some : List Said) (said : Said) → heads_said (some ++ said ∷ []) ≡ heads_said some ++ heads_in said
heads_push some said = heads_append some (said ∷ []) ∙ ap (λ (l : List Head). heads_said some ++ l) (append-nil (heads_in said))

-- one block is one head at most
one_at_most : (verdict : Verdict) (block : Option BlockRecord) → length (heads_by verdict block) ≤ 1
one_at_most Committed (Some block) = omega arith
one_at_most Committed None = omega arith
one_at_most Stored block = omega arith
one_at_most (Refused fault) block = omega arith

-- ---- what was told so far

pub record Heard (follows : Bool) (begin now : List Head) (saids : List Said) : Type 0 where
  pub so : Follows follows begin now (heads_said saids)

pub nothing_heard : (follows : Bool) (begin : List Head) → Heard follows begin begin []
nothing_heard follows begin = record { so = λ yes. sym (append-nil begin) }

module _ {follows : Bool} {begin now next : List Head} {saids : List Said} where
  pub same_heard : next ≡ now → Heard follows begin now saids → Heard follows begin next saids
  same_heard same heard = record { so = λ yes. same ∙ heard.so yes }

  pub one_heard : (said : Said) → (follows ≡ true → next ≡ now ++ heads_in said) → Heard follows begin now saids
      → Heard follows begin next (saids ++ said ∷ [])
  one_heard said more heard = record {
    so = λ yes. more yes ∙ ap (λ (l : List Head). l ++ heads_in said) (heard.so yes) ∙ append_assoc begin (heads_said saids) (heads_in said)
        ∙ ap (λ (l : List Head). begin ++ l) (sym (heads_push saids said));
  }

-- how many they are
pub few_more : (follows : Bool) (begin now next : List Head) (place : ℕ) (said : Said) → (follows ≡ true → length now ≤ length begin + place)
    → (follows ≡ true → next ≡ now ++ heads_in said) → follows ≡ true → length next ≤ length begin + (place + 1)
few_more follows begin now next place said few more told =
    omega (arith, few told, ap length (more told), length-append now (heads_in said), one_at_most said.verdict said.block)

-- ---- of a whole stream

module _ (judging : Judging) (bytes : List ℕ) {follows : Bool} {begin now : List Head} {saids : List Said} (told : Heard follows begin now saids) where
  pub whole_heard : (run_of judging bytes).said ≡ saids → Follows follows begin now (heads_of judging bytes)
  whole_heard is = subst (Follows follows begin now) (sym (ap heads_said is)) told.so

  pub part_heard : (fault : RunFault) → (cuts fault ≡ false → (run_of judging bytes).said ≡ saids)
      → (more : List Said) × ((run_of judging bytes).said ≡ saids ++ more) → HearsUpTo (cuts fault) (Follows follows begin now) (heads_of judging bytes)
  part_heard fault all first = by (cuts fault) refl
    where
      by : (cut : Bool) → cuts fault ≡ cut → HearsUpTo cut (Follows follows begin now) (heads_of judging bytes)
      by true is =
          let parts : heads_of judging bytes ≡ heads_said saids ++ heads_said first.0 = ap heads_said first.1 ∙ heads_append saids first.0 in (
            length (heads_said saids),
            subst (Follows follows begin now)
                (sym (ap (take (length (heads_said saids))) parts ∙ take-append_seam (heads_said saids) (heads_said first.0))) told.so,
          )
      by false is = subst (Follows follows begin now) (sym (ap heads_said (all is))) told.so

-- a block was judged, and of its line a part was written
pub cut_line : (judging : Judging) (bytes : List ℕ) {follows : Bool} {begin now : List Head} (saids : List Said) (said : Said)
    → Heard follows begin now (saids ++ said ∷ []) → (more : List Said) × ((run_of judging bytes).said ≡ saids ++ said ∷ more) → (fault : RunFault)
    → (fault ≡ Write) ⊎ (fault ≡ Memory) → HearsUpTo (cuts fault) (Follows follows begin now) (heads_of judging bytes)
cut_line judging bytes saids said told goes fault which =
    part_heard judging bytes told fault (λ whole. absurd (never which whole))
    (goes.0, goes.1 ∙ sym (append_assoc saids (said ∷ []) goes.0))
  where
    never : (fault ≡ Write) ⊎ (fault ≡ Memory) → cuts fault ≡ false → ⊥
    never (inl is) whole = let no : true ≡ false = ap cuts (sym is) ∙ whole in cc no
    never (inr is) whole = let no : true ≡ false = ap cuts (sym is) ∙ whole in cc no

-- ---- where the judging ends

module _ (processors : Processors) (accepts : Accepts) (lines : Lines) (heard : List Head → Type 0) {Told : List Said → Type 0} {place : ℕ}
    {first now old mid : Option (List ℕ)} {refused : Bool} {ledger : Ledger}
    (at : SoFar processors accepts lines Told place first now old mid refused ledger) where
  abbrev Stands : (ℕ → Runs) → List ℕ → Type 0
  Stands ways bytes = IsAt (by_ways accepts ways) lines Told place bytes now old mid refused ledger

  pub hears : {A : Type 0} → (result : Result A RunFault)
      → ((ways : ℕ → Runs) (bytes : List ℕ) → Stands ways bytes → HearsBy heard (heads_of (by_ways accepts ways) bytes) result)
      → HearsStream processors accepts heard first result
  hears result step = record {
    ways = at.ways;
    may = at.may;
    so = so_by first (Stands at.ways) (λ bytes. HearsBy heard (heads_of (by_ways accepts at.ways) bytes) result) (step at.ways) at.so;
  }

  -- the batches of a block were run so
  pub hears_by : {A : Type 0} → (runs : Runs) (by : RunsBy processors runs) (result : Result A RunFault)
      → ((ways : ℕ → Runs) (bytes : List ℕ) (is : Stands ways bytes) → ways (length is.frames) ≡ runs
      → HearsBy heard (heads_of (by_ways accepts ways) bytes) result)
      → HearsStream processors accepts heard first result
  hears_by runs by result step =
      let on = put at.ways place runs in
      record {
        ways = on;
        may = put_may processors at.ways place runs at.may by;
        so = so_by first (Stands at.ways) (λ bytes. HearsBy heard (heads_of (by_ways accepts on) bytes) result)
            (λ bytes was. let is = at_put accepts lines at.ways runs was in
            step on bytes is (there processors accepts lines at now mid runs by is)) at.so;
      }

-- a frame was read whose block has no verdict
module _ (processors : Processors) (accepts : Accepts) (lines : Lines) (follows : Bool) (begin told : List Head) {place : ℕ}
    {first now old mid : Option (List ℕ)} {refused : Bool} {ledger : Ledger}
    (at : SoFar processors accepts lines (Heard follows begin told) place first now old mid refused ledger)
    (next : Option (List ℕ)) (content : Vec ℕ) (below : place < max_frames) (read : FrameGives max_length now next (Ok (Some content))) where
  cut_off : (e : RunFault) → cuts e ≡ true → HearsStream {A = Bool} processors accepts (Follows follows begin told) first (Err e)
  cut_off e cut = hears processors accepts lines (Follows follows begin told) at (Err e) (λ ways bytes is.
      part_heard (by_ways accepts ways) bytes is.heard e (λ whole. absurd cc)
      (said_first (by_ways accepts ways) lines is (omega (arith, below))))

  pub unjudged_heard : (e : RunFault) → LeavesUnjudged e
      → (e ≡ Blocks → (runs : Runs) × RunsBy processors runs × IsFull (rules_with first_half accepts runs) ledger content.items)
      → HearsStream {A = Bool} processors accepts (Follows follows begin told) first (Err e)
  unjudged_heard Blocks why full =
      let by = full refl in
      hears_by processors accepts lines (Follows follows begin told) at by.0 by.1 (Err Blocks) (λ ways bytes is same.
      part_heard (by_ways accepts ways) bytes is.heard Blocks
      (λ whole. no_room_said (by_ways accepts ways) lines is next content below read by.0 same by.2)
      (said_first (by_ways accepts ways) lines is (omega (arith, below))))
  unjudged_heard (Collision kept given) why full = cut_off (Collision kept given) refl
  unjudged_heard Peer why full = cut_off Peer refl
  unjudged_heard Memory why full = cut_off Memory refl
  unjudged_heard e why full = absurd why

-- ---- behind the judging

-- before it nobody was told
pub nobody_heard : (processors : Processors) → HasOwnReasons processors → (accepts : Accepts) (follows : Bool) (begin : List Head) (first : Option (List ℕ))
    → {A : Type 0} → HearsStream {A = A} processors accepts (Follows follows begin begin) first (Err Memory)
nobody_heard processors own accepts follows begin first {A} = record {
  ways = (serially processors).blocks;
  may = (serial_may processors own).blocks;
  so = here first;
}
  where
    here : (first : Option (List ℕ)) → IfSome first (λ bytes.
        HearsBy {A = A} (Follows follows begin begin) (heads_of (by_ways accepts (serially processors).blocks) bytes) (Err Memory))
    here None = tt
    here (Some bytes) = (0, λ yes. sym (append-nil begin))

-- all are told, so the first of them are
up_to : (heard : List Head → Type 0) (cut : Bool) (heads : List Head) → heard heads → HearsUpTo cut heard heads
up_to heard true heads all = (length heads, subst heard (sym (take_all (length heads) heads (omega arith))) all)
up_to heard false heads all = all

all_so : {B : Type 0} → (heard : List Head → Type 0) (heads : List Head) (result : Result B RunFault) → heard heads → HearsBy heard heads result
all_so heard heads (Ok done) all = all
all_so heard heads (Err fault) all = up_to heard (cuts fault) heads all

module _ {processors : Processors} {accepts : Accepts} {heard : List Head → Type 0} {first : Option (List ℕ)} {A B : Type 0} where
  -- a fault stays one
  pub heard_fault : {fault : RunFault} → HearsStream {A = A} processors accepts heard first (Err fault)
      → HearsStream {A = B} processors accepts heard first (Err fault)
  heard_fault told = record { ways = told.ways; may = told.may; so = told.so }

  -- who was told of all may hear of a fault behind it
  pub heard_on : {came : A} (result : Result B RunFault) → HearsStream {A = A} processors accepts heard first (Ok came)
      → HearsStream {A = B} processors accepts heard first result
  heard_on result told = record {
    ways = told.ways;
    may = told.may;
    so = so_by first (λ bytes. heard (heads_of (by_ways accepts told.ways) bytes))
        (λ bytes. HearsBy heard (heads_of (by_ways accepts told.ways) bytes) result)
        (λ bytes all. all_so heard (heads_of (by_ways accepts told.ways) bytes) result all) told.so;
  }
