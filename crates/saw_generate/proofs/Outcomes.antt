-- What a transaction of the family does, where its payload changes the names at its address.
use Rattle.std.proofs.Common.{◌≡◌, ℕ, Bool, true, false, not, cond, List, [], ◌∷◌, Some, None, is_some, Ok, refl, ap, ap₂, ◌∙◌}
use Rattle.std.specs.List.{list_any}
use Rattle.std.specs.Str.{bytes_eq}
use Rattle.std.proofs.lemmas.Bool.{and_from}
use Rattle.hex.specs.Hex.{encode_lower}
use Rattle.saw_address.specs.Maps.{StateMap, value_at}
use Rattle.saw_address.specs.Texts.{is_prefix_text}
use Rattle.saw_messages.specs.TxShapes.{TxShape}
use Rattle.saw_messages.specs.declared.outcome.Outcome.TheVariants as outcomes
use Rattle.saw_messages.specs.declared.outcome.Reason.TheVariants as reasons
use Rattle.saw_messages.specs.declared.talk.Action.TheVariants as actions
use Rattle.saw_messages.specs.declared.talk.Place.TheVariants.{At}
use Rattle.saw_messages.specs.declared.talk.Turn.{Turn}
use Rattle.saw_context.specs.Conversation.{body_of, first_refused}
use Rattle.saw_context.specs.Outcome.{are_declared, are_prefixes, conversed, outcome_by, outcome_of, refusal}
use Rattle.saw_context.specs.Serial.{names_one}
use Rattle.saw_station.specs.Families.{family_of}
use Rattle.saw_station.specs.Serving.{alone, next_by, next_of, serving}
use Rattle.saw_intkey.specs.Actions as intkey
use Rattle.saw_intkey.specs.Actions.{address_of}
use Rattle.saw_intkey.specs.Laws.{IsPayload}
use Rattle.saw_intkey.specs.Payloads.{payload_bytes, payload_of}
use Rattle.saw_intkey.specs.States.{Names, changed, kept_bytes, names_of}
use Rattle.saw_intkey.specs.declared.payload.Payload.{Payload}
use Rattle.saw_intkey.proofs.PayloadLemmas.{payload_is_read}
use Rattle.saw_generate.proofs.Shapes.{IsFor}
use Rattle.saw_generate.proofs.Addresses.{address_is, its_text_grants, none_refused, text_is_prefix}
use Rattle.saw_generate.proofs.Exchange.{IsExchange, done, exchanged, getting, got, only_change, setting}

-- ---- the family serves it

module _ (payload : Payload) (tx : TxShape) (meant : IsFor payload tx) where
  abbrev text : List ℕ
  text = encode_lower (address_of payload.name)

  is_prefix : is_prefix_text text ≡ true
  is_prefix = text_is_prefix (address_of payload.name) (address_is payload.name)

  is_family : family_of tx.header.family_name tx.header.family_version ≡ family_of intkey.family_name intkey.family_version
  is_family = ap₂ family_of meant.family meant.version

  is_served : serving [] tx.header.family_name tx.header.family_version ≡ serving [] intkey.family_name intkey.family_version
  is_served = ap₂ (serving []) meant.family meant.version

  next_is : (turns : List Turn) → (alone []).next tx turns ≡ intkey.next (payload_bytes payload) turns
  next_is turns =
      ap (next_by (λ tx turns. actions.Invalid reasons.Remote) tx turns) is_served ∙ ap (next_of tx.header.signer_public_key tx.payload turns) is_family
      ∙ ap (λ bytes. intkey.next bytes turns) meant.payload_is

  one_prefix : (texts : List (List ℕ)) → texts ≡ text ∷ [] → are_prefixes texts ≡ true
  one_prefix texts e = ap are_prefixes e ∙ and_from (is_prefix_text text) true is_prefix refl

  is_declared : are_declared tx.header ≡ true
  is_declared =
      and_from (are_prefixes tx.header.inputs) (are_prefixes tx.header.outputs) (one_prefix tx.header.inputs meant.inputs)
      (one_prefix tx.header.outputs meant.outputs)

  no_refusal : refusal (alone []) tx ≡ None
  no_refusal =
      ap₂ (λ (declared served : Bool). cond (not declared) (Some reasons.BadDeclared) (cond (not served) (Some reasons.NoProcessor) None)) is_declared
      (ap is_some is_served)

  one_granted : (texts : List (List ℕ)) → texts ≡ text ∷ [] → first_refused texts (At (address_of payload.name) ∷ []) ≡ None
  one_granted texts e =
      ap (λ texts. first_refused texts (At (address_of payload.name) ∷ [])) e
      ∙ none_refused (text ∷ []) (At (address_of payload.name)) (its_text_grants (address_of payload.name) (address_is payload.name))

  -- no dependency is named
  pub none_named : (others : List TxShape) → names_one tx others ≡ false
  none_named others = ap (list_any (λ id. list_any (λ (other : TxShape). bytes_eq id other.id) others)) meant.free

-- ---- what it asks, replies and sets

module _ (payload : Payload) (is : IsPayload payload) where
  read_back : payload_of (payload_bytes payload) ≡ Ok payload
  read_back = payload_is_read payload is

  gets_first : intkey.next (payload_bytes payload) [] ≡ getting (address_of payload.name)
  gets_first = ap intkey.asked read_back

  sets_then : (m : StateMap) (names new : Names) → names_of (body_of (value_at m (address_of payload.name))) ≡ Some names → changed payload names ≡ Ok new
      → intkey.next (payload_bytes payload) (got m (address_of payload.name) ∷ []) ≡ setting (address_of payload.name) (kept_bytes new)
  sets_then m names new kept makes =
      ap (λ read. intkey.changing read (got m (address_of payload.name)).reply) read_back
      ∙ ap (intkey.changed_in payload) kept ∙ ap (intkey.set_to payload) makes

-- the outcome of a transaction whose payload changes the names at its address
pub outcome_is : (payload : Payload) (tx : TxShape) (m : StateMap) (failed : Bool) (names new : Names) → IsFor payload tx → IsPayload payload → failed ≡ false
    → names_of (body_of (value_at m (address_of payload.name))) ≡ Some names → changed payload names ≡ Ok new
    → outcome_of (alone []) tx m failed ≡ outcomes.Ok (only_change (address_of payload.name) (kept_bytes new)) []
outcome_is payload tx m failed names new meant is free kept makes =
    let address = address_of payload.name in
    let exchange : IsExchange ((alone []).next tx) tx.header m address (kept_bytes new) = record {
      gets = next_is payload tx meant [] ∙ gets_first payload is;
      sets = next_is payload tx meant (got m address ∷ []) ∙ sets_then payload is m names new kept makes;
      ends = next_is payload tx meant (got m address ∷ done address (kept_bytes new) ∷ []);
      may_get = one_granted payload tx meant tx.header.inputs meant.inputs;
      may_set = one_granted payload tx meant tx.header.outputs meant.outputs;
    } in
    ap₂ (λ reason failed. outcome_by reason failed (conversed ((alone []).next tx) tx.header m)) (no_refusal payload tx meant) free
    ∙ exchanged ((alone []).next tx) tx.header m address (kept_bytes new) exchange
