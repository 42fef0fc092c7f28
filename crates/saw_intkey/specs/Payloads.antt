-- The payload of an IntegerKey transaction: a CBOR map with a verb, a name and a value. How it is read and written.
use Rattle.std.specs.Prelude.{ℕ, Bool, false, ◌&&◌, List, [], ◌∷◌, length, Option, Some, None, Result, Ok, Err, nat_le, if◌then◌else◌, codes}
use Rattle.std.specs.Str.{bytes_eq, chars}
use Rattle.saw_cbor.specs.Data.{Cbor, unsigned, text, pairs, Pairs, no_pairs, pair}
use Rattle.saw_cbor.specs.Reading.{reading}
use Rattle.saw_cbor.specs.Writing.{written}
use Rattle.saw_cbor.specs.declared.fault.CborFault.{CborFault}
use Rattle.saw_intkey.specs.declared.payload.Payload.{Payload}
use Rattle.saw_intkey.specs.declared.payload.Verb.{Verb}
use Rattle.saw_intkey.specs.declared.payload.Verb.TheVariants.{Set, Inc, Dec}

-- the greatest value
abbrev pub max_value : ℕ
max_value = 4294967295

-- how deep items may nest
abbrev pub max_depth : ℕ
max_depth = 8

-- whether an item is this text
abbrev pub is_text : List ℕ → Cbor → Bool
is_text key (text t) = bytes_eq t key
is_text key _ = false

-- the values of a key, in order; a key that is no text is none
abbrev pub values_of : List ℕ → Pairs → List Cbor
values_of key no_pairs = []
values_of key (pair k value rest) = if is_text key k then value ∷ values_of key rest else values_of key rest

-- what is there exactly once
abbrev pub only_of : List Cbor → Option Cbor
only_of (value ∷ []) = Some value
only_of _ = None

abbrev pub verb_in : List ℕ → Option Verb
verb_in t = if bytes_eq t (codes "set") then Some Set else if bytes_eq t (codes "inc") then Some Inc else if bytes_eq t (codes "dec") then Some Dec else None

-- 1 to 20 characters
abbrev pub name_in : List ℕ → Option (List ℕ)
name_in t = if nat_le 1 (length (chars t)) && nat_le (length (chars t)) 20 then Some t else None

abbrev pub number_in : ℕ → Option ℕ
number_in n = if nat_le n max_value then Some n else None

abbrev pub text_in : {A : Type 0} → (List ℕ → Option A) → Option Cbor → Option A
text_in form (Some (text t)) = form t
text_in form _ = None

abbrev pub unsigned_in : Option Cbor → Option ℕ
unsigned_in (Some (unsigned n)) = number_in n
unsigned_in _ = None

abbrev pub verb_of : Pairs → Option Verb
verb_of ps = text_in verb_in (only_of (values_of (codes "Verb") ps))

abbrev pub name_of : Pairs → Option (List ℕ)
name_of ps = text_in name_in (only_of (values_of (codes "Name") ps))

abbrev pub value_of : Pairs → Option ℕ
value_of ps = unsigned_in (only_of (values_of (codes "Value") ps))

-- ---- the checks of a payload, in order: 102 the verb, 103 the name, 104 the value

abbrev pub with_value : Verb → List ℕ → Option ℕ → Result Payload ℕ
with_value verb name None = Err 104
with_value verb name (Some value) = Ok (record { verb = verb; name = name; value = value })

abbrev pub with_name : Verb → Option (List ℕ) → Pairs → Result Payload ℕ
with_name verb None ps = Err 103
with_name verb (Some name) ps = with_value verb name (value_of ps)

abbrev pub with_verb : Option Verb → Pairs → Result Payload ℕ
with_verb None ps = Err 102
with_verb (Some verb) ps = with_name verb (name_of ps) ps

unfoldable pub payload_in : Pairs → Result Payload ℕ
payload_in ps = with_verb (verb_of ps) ps

-- the pairs of a map that is the whole input
abbrev pub pairs_in : Result Cbor CborFault → Option Pairs
pairs_in (Ok (pairs ps)) = Some ps
pairs_in _ = None

abbrev pub payload_by : Option Pairs → Result Payload ℕ
payload_by None = Err 101
payload_by (Some ps) = payload_in ps

-- the payload that bytes say, or the number of the first check that fails: 101 they are a CBOR map, then as above
unfoldable pub payload_of : List ℕ → Result Payload ℕ
payload_of whole = payload_by (pairs_in (reading max_depth whole))

-- ---- written

abbrev pub verb_text : Verb → List ℕ
verb_text Set = codes "set"
verb_text Inc = codes "inc"
verb_text Dec = codes "dec"

abbrev pub pairs_of_payload : Payload → Pairs
pairs_of_payload payload =
    pair (text (codes "Verb")) (text (verb_text payload.verb))
    (pair (text (codes "Name")) (text payload.name) (pair (text (codes "Value")) (unsigned payload.value) no_pairs))

-- the map of the verb, the name and the value, in this order
unfoldable pub payload_bytes : Payload → List ℕ
payload_bytes payload = written (pairs (pairs_of_payload payload))
