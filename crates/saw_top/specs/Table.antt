-- The commands: their names, and the options that each takes.
use Rattle.std.specs.Prelude.{ℕ, List, [], ◌∷◌, Option, codes}
use Rattle.std.specs.List.{find}
use Rattle.std.specs.Str.{bytes_eq}
use Rattle.saw_top.specs.declared.table.Kind.{Kind}
use Rattle.saw_top.specs.declared.table.Kind.TheVariants.{Apply, State, Receipts, Status, Publish, Prove, Events, Check, Generate, Tp}

abbrev pub kinds : List Kind
kinds = Apply ∷ State ∷ Receipts ∷ Status ∷ Publish ∷ Prove ∷ Events ∷ Check ∷ Generate ∷ Tp ∷ []

abbrev pub name_of : Kind → List ℕ
name_of Apply = codes "apply"
name_of State = codes "state"
name_of Receipts = codes "receipts"
name_of Status = codes "status"
name_of Publish = codes "publish"
name_of Prove = codes "prove"
name_of Events = codes "events"
name_of Check = codes "check"
name_of Generate = codes "generate"
name_of Tp = codes "tp"

-- the command of this name
abbrev pub kind_of : List ℕ → Option Kind
kind_of word = find (λ kind. bytes_eq (name_of kind) word) kinds

-- ---- options

abbrev pub workers : List ℕ
workers = codes "--workers"

abbrev pub attest : List ℕ
attest = codes "--attest"

abbrev pub listen : List ℕ
listen = codes "--listen"

abbrev pub remotes : List ℕ
remotes = codes "--remotes"

abbrev pub live : List ℕ
live = codes "--live"

abbrev pub readers : List ℕ
readers = codes "--readers"

abbrev pub prefix : List ℕ
prefix = codes "--prefix"

abbrev pub batch : List ℕ
batch = codes "--batch"

abbrev pub batches : List ℕ
batches = codes "--batches"

abbrev pub start : List ℕ
start = codes "--start"

abbrev pub blocks : List ℕ
blocks = codes "--blocks"

abbrev pub conflicts : List ℕ
conflicts = codes "--conflicts"

abbrev pub root : List ℕ
root = codes "--root"

abbrev pub address : List ℕ
address = codes "--address"

abbrev pub proof : List ℕ
proof = codes "--proof"

abbrev pub event_type : List ℕ
event_type = codes "--type"

abbrev pub from : List ℕ
from = codes "--from"

abbrev pub key : List ℕ
key = codes "--key"

abbrev pub text : List ℕ
text = codes "--value"

abbrev pub connect : List ℕ
connect = codes "--connect"

-- those of each command on blocks, and more of some
abbrev pub common : List (List ℕ) → List (List ℕ)
common more = workers ∷ attest ∷ listen ∷ remotes ∷ more

abbrev pub options_of : Kind → List (List ℕ)
options_of Apply = common []
options_of State = common (prefix ∷ [])
options_of Receipts = common []
options_of Status = common (batch ∷ [])
options_of Publish = common (batches ∷ [])
options_of Prove = common (address ∷ [])
options_of Events = common (event_type ∷ from ∷ key ∷ text ∷ [])
options_of Check = root ∷ address ∷ proof ∷ []
options_of Generate = start ∷ blocks ∷ batches ∷ conflicts ∷ []
options_of Tp = connect ∷ []

-- the options of `apply` beside readers
abbrev pub live_options : List (List ℕ)
live_options = workers ∷ attest ∷ live ∷ readers ∷ []
