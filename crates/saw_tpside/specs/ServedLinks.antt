-- What a processor made of its link.
use Rattle.std.specs.Prelude.{◌≡◌, ◌⊎◌, ℕ, List, [], ◌∷◌, ◌++◌, Option, Some, None, Result, Ok, Err}
use Rattle.saw_faults.specs.Counts.{Rose}
use Rattle.saw_link.specs.Tells.{Adds}
use Rattle.saw_link.specs.declared.fault.LinkFault.{LinkFault}
use Rattle.saw_link.specs.declared.fault.LinkFault.TheVariants as links
use Rattle.saw_link.specs.declared.passed.Passed.{Passed}
use Rattle.saw_link.specs.declared.passed.Passed.TheVariants.{Received, Ended}
use Rattle.saw_tpside.specs.ProcessorConversation.{Serves, due, taken}
use Rattle.saw_tpside.specs.declared.fault.TpFault.{TpFault}
use Rattle.saw_tpside.specs.declared.fault.TpFault.TheVariants.{Failed, Breach, OutOfMemory}
use Rattle.saw_tpside.specs.declared.serve.Stepped.{Stepped}
use Rattle.saw_tpside.specs.declared.serve.Stepped.TheVariants.{On, Over}
use Rattle.saw_tpside.specs.declared.serving.Serving.{Serving}

abbrev pub of_link : LinkFault → TpFault
of_link links.Failed = Failed
of_link links.OutOfMemory = OutOfMemory

-- a frame of the station came last
abbrev pub HasReceived : Serving → List Passed → Type 0
HasReceived p last = (frame : List ℕ) × (due p ≡ None) × (last ≡ Received frame ∷ [])

-- why it ended: the link's end, which gives the number of transactions answered; a failure of the link, which is counted; a
-- frame that is not legal where it came; or want of memory, before any more passed or once a frame of the station came
abbrev pub EndsBy : Result ℕ TpFault → Serving → List Passed → ℕ → ℕ → Type 0
EndsBy (Ok number) p last before after = (number ≡ p.answered) × (due p ≡ None) × (last ≡ Ended ∷ [])
EndsBy (Err Failed) p last before after = Rose before after × (last ≡ [])
EndsBy (Err (Breach frame)) p last before after = (due p ≡ None) × (taken p frame.items ≡ None) × (last ≡ Received frame.items ∷ [])
EndsBy (Err OutOfMemory) p last before after = (last ≡ []) ⊎ HasReceived p last

-- the frames of a conversation passed, and what came last ended it
pub record HasServed (start : Serving) (result : Result ℕ TpFault) (told later : Option (List Passed)) (before after : ℕ) : Type 0 where
  pub passed : List Passed
  pub last : List Passed
  pub serving : Serving
  pub serves : Serves start passed serving
  pub ends : EndsBy result serving last before after
  pub adds : Adds told (passed ++ last) later

-- ---- one frame of it

-- a frame passed, by which the conversation goes on
pub record ServesOn (p : Serving) (told later : Option (List Passed)) (next : Serving) : Type 0 where
  pub passed : List Passed
  pub adds : Adds told passed later
  pub serves : (start : Serving) (before : List Passed) → Serves start before p → Serves start (before ++ passed) next

-- it ended there
pub record EndsHere (p : Serving) (result : Result ℕ TpFault) (told later : Option (List Passed)) (before after : ℕ) : Type 0 where
  pub last : List Passed
  pub ends : EndsBy result p last before after
  pub adds : Adds told last later

abbrev pub HasStepped : Serving → Result Stepped TpFault → Option (List Passed) → Option (List Passed) → ℕ → ℕ → Type 0
HasStepped p (Ok (On next)) told later before after = ServesOn p told later next
HasStepped p (Ok (Over number)) told later before after = EndsHere p (Ok number) told later before after
HasStepped p (Err fault) told later before after = EndsHere p (Err fault) told later before after

-- what came of a frame of the station
abbrev pub HasTaken : Serving → List ℕ → Result Stepped TpFault → Type 0
HasTaken p frame (Ok (On next)) = taken p frame ≡ Some next
HasTaken p frame (Ok (Over number)) = ⊥
HasTaken p frame (Err Failed) = ⊥
HasTaken p frame (Err (Breach shown)) = (taken p frame ≡ None) × (shown.items ≡ frame)
HasTaken p frame (Err OutOfMemory) = Unit {0}
