-- The families' next actions, as a station hears them.
use Rattle.std.proofs.Common.{◌≡◌, ℕ, Bool, true, false, List, [], ◌∷◌, map, Result, Ok, Err, refl, ap, ap₂}
use Rattle.saw_messages.specs.Reasons.{has_own_reason}
use Rattle.saw_messages.specs.TxShapes.{TxShape}
use Rattle.saw_messages.specs.declared.talk.Action.{Action}
use Rattle.saw_messages.specs.declared.talk.Action.TheVariants as actions
use Rattle.saw_messages.specs.declared.talk.Reply.{Reply}
use Rattle.saw_messages.specs.declared.talk.Reply.TheVariants.{Unauthorized}
use Rattle.saw_messages.specs.declared.talk.Turn.{Turn}
use Rattle.saw_messages.specs.declared.transaction.TransactionHeader.{TransactionHeader}
use Rattle.saw_intkey.specs.Actions as intkey
use Rattle.saw_intkey.specs.Payloads as intkeys
use Rattle.saw_xo.specs.Actions as xo
use Rattle.saw_xo.specs.Payloads as xos
use Rattle.saw_link.specs.Alike.{AreAlike}
use Rattle.saw_station.specs.Families.{family_of, of_each}
use Rattle.saw_station.specs.Serving.{built_in_next, built_in_own, next_of}
use Rattle.saw_tpside.specs.ProcessorConversation.{family_action}
use Rattle.saw_tpside.specs.FamilyPeers.{as_remote, family_next}
use Rattle.saw_tpside.specs.RepliesAlike.{Alike, alike_replies, reply_same}
use Rattle.saw_tpside.specs.SettingsAlike.{settings_same}

remote_own : (action : Action) → has_own_reason action ≡ true → has_own_reason (as_remote action) ≡ true
remote_own (actions.Get places) own = refl
remote_own (actions.Set entries) own = refl
remote_own (actions.Delete places) own = refl
remote_own (actions.AddEvent event) own = refl
remote_own actions.Ok own = refl
remote_own (actions.Invalid reason) own = refl

pub family_own : (tx : TxShape) (turns : List Turn) → has_own_reason (family_next tx turns) ≡ true
unfolding family_action
family_own tx turns = remote_own (built_in_next tx turns) (built_in_own tx turns)

intkey_index : (payload : List ℕ) (i j : ℕ) → intkey.changing (intkeys.payload_of payload) (Unauthorized i) ≡ intkey.changing (intkeys.payload_of payload) (Unauthorized j)
intkey_index payload i j =
    elim (intkeys.payload_of payload) as (λ read. intkey.changing read (Unauthorized i) ≡ intkey.changing read (Unauthorized j)) [ Ok read ↦ refl | Err number ↦ refl ]

intkey_same : (payload : List ℕ) (r s : List Reply) → Alike r s → intkey.next_after payload r ≡ intkey.next_after payload s
intkey_same payload [] [] are = refl
intkey_same payload [] (y ∷ s) are = absurd are
intkey_same payload (x ∷ r) [] are = absurd are
intkey_same payload (x ∷ []) (y ∷ []) are =
    reply_same (intkey.changing (intkeys.payload_of payload)) (intkey_index payload) x y are.0
intkey_same payload (x ∷ []) (y ∷ z ∷ s) are = absurd are.1
intkey_same payload (x ∷ z ∷ r) (y ∷ []) are = absurd are.1
intkey_same payload (x ∷ z ∷ r) (y ∷ w ∷ s) are = reply_same intkey.after_set (λ i j. refl) z w are.1.0

xo_index : (signer payload : List ℕ) (i j : ℕ) → xo.changing signer (xos.payload_of payload) (Unauthorized i) ≡ xo.changing signer (xos.payload_of payload) (Unauthorized j)
xo_index signer payload i j =
    elim (xos.payload_of payload) as (λ read. xo.changing signer read (Unauthorized i) ≡ xo.changing signer read (Unauthorized j)) [ Ok read ↦ refl | Err number ↦ refl ]

xo_same : (signer payload : List ℕ) (r s : List Reply) → Alike r s → xo.next_after signer payload r ≡ xo.next_after signer payload s
xo_same signer payload [] [] are = refl
xo_same signer payload [] (y ∷ s) are = absurd are
xo_same signer payload (x ∷ r) [] are = absurd are
xo_same signer payload (x ∷ []) (y ∷ []) are =
    reply_same (xo.changing signer (xos.payload_of payload)) (xo_index signer payload) x y are.0
xo_same signer payload (x ∷ []) (y ∷ z ∷ s) are = absurd are.1
xo_same signer payload (x ∷ z ∷ r) (y ∷ []) are = absurd are.1
xo_same signer payload (x ∷ z ∷ r) (y ∷ w ∷ s) are = reply_same xo.after_change (λ i j. refl) z w are.1.0

-- the families look at the header and the payload alone
pub next_parts : (tx other : TxShape) (turns : List Turn) → tx.header ≡ other.header → tx.payload ≡ other.payload → family_next tx turns ≡ family_next other turns
unfolding family_action
next_parts tx other turns header payload =
    ap as_remote (ap₂ (λ (h : TransactionHeader) (p : List ℕ). next_of h.signer_public_key p turns (family_of h.family_name h.family_version)) header payload)

-- the built-in families' next actions do not depend on the index of a place that is not declared
pub built_in_alike : (tx : TxShape) (turns others : List Turn) → AreAlike turns others → built_in_next tx turns ≡ built_in_next tx others
built_in_alike tx turns others are =
    let replies = alike_replies turns others are in
    let signer = tx.header.signer_public_key in
    let payload = tx.payload in
    of_each (λ family. next_of signer payload turns family ≡ next_of signer payload others family) refl tx.header.family_name tx.header.family_version
    (intkey_same payload _ _ replies, (xo_same signer payload _ _ replies, (settings_same signer payload _ _ replies, tt)))

pub family_alike : (tx : TxShape) (turns others : List Turn) → AreAlike turns others → family_next tx turns ≡ family_next tx others
unfolding family_action
family_alike tx turns others are = ap as_remote (built_in_alike tx turns others are)
