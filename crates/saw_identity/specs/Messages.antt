-- Policies and roles as they are kept, and the payloads of the family, as records say them.
use Rattle.std.specs.Prelude.{◌++◌, List, ℕ, Option, None, Result}
use Rattle.saw_wire.specs.Pieces.{Piece}
use Rattle.saw_wire.specs.Writing.{bytes_pieces, number_pieces}
use Rattle.saw_wire.specs.Written.{items_pieces}
use Rattle.saw_wire.specs.Fields.{all_items, item_fault, last_bytes, last_small, text_fault}
use Rattle.saw_wire.specs.MessageReading.{reading}
use Rattle.saw_wire.specs.declared.fault.MessageFault.{MessageFault}
use Rattle.saw_wire.specs.MessageFaults.{◌<|>◌}
use Rattle.saw_identity.specs.declared.payload.IdentityPayload.{IdentityPayload}
use Rattle.saw_identity.specs.declared.policy.Entry.{Entry}
use Rattle.saw_identity.specs.declared.policy.Policy.{Policy}
use Rattle.saw_identity.specs.declared.policy.PolicyList.{PolicyList}
use Rattle.saw_identity.specs.declared.role.Role.{Role}
use Rattle.saw_identity.specs.declared.role.RoleList.{RoleList}

-- the entry that records say
abbrev pub entry_of : List Piece → Entry
entry_of pieces = record { kind = last_small 1 pieces; key = last_bytes 2 pieces }

abbrev pub entry_fault : Piece → Option MessageFault
entry_fault piece = text_fault 2 piece

-- the records that are written for it
abbrev pub entry_pieces : Entry → List Piece
entry_pieces m = number_pieces 1 m.kind ++ bytes_pieces 2 m.key

-- the policy that records say
abbrev pub policy_of : List Piece → Policy
policy_of pieces = record { name = last_bytes 1 pieces; entries = all_items entry_of 2 pieces }

abbrev pub policy_fault : Piece → Option MessageFault
policy_fault piece = text_fault 1 piece <|> item_fault entry_fault 2 piece

abbrev pub policy : List ℕ → Result Policy MessageFault
policy bytes = reading policy_of policy_fault bytes

-- the records that are written for it
abbrev pub policy_pieces : Policy → List Piece
policy_pieces m = bytes_pieces 1 m.name ++ items_pieces entry_pieces 2 m.entries

-- the policies that records say
abbrev pub policies_of : List Piece → PolicyList
policies_of pieces = record { policies = all_items policy_of 1 pieces }

abbrev pub policies_fault : Piece → Option MessageFault
policies_fault piece = item_fault policy_fault 1 piece

abbrev pub policy_list : List ℕ → Result PolicyList MessageFault
policy_list bytes = reading policies_of policies_fault bytes

-- the records that are written for them
abbrev pub policies_pieces : PolicyList → List Piece
policies_pieces m = items_pieces policy_pieces 1 m.policies

-- the role that records say
abbrev pub role_of : List Piece → Role
role_of pieces = record { name = last_bytes 1 pieces; policy_name = last_bytes 2 pieces }

abbrev pub role_fault : Piece → Option MessageFault
role_fault piece = text_fault 1 piece <|> text_fault 2 piece

abbrev pub role : List ℕ → Result Role MessageFault
role bytes = reading role_of role_fault bytes

-- the records that are written for it
abbrev pub role_pieces : Role → List Piece
role_pieces m = bytes_pieces 1 m.name ++ bytes_pieces 2 m.policy_name

-- the roles that records say
abbrev pub roles_of : List Piece → RoleList
roles_of pieces = record { roles = all_items role_of 1 pieces }

abbrev pub roles_fault : Piece → Option MessageFault
roles_fault piece = item_fault role_fault 1 piece

abbrev pub role_list : List ℕ → Result RoleList MessageFault
role_list bytes = reading roles_of roles_fault bytes

-- the records that are written for them
abbrev pub roles_pieces : RoleList → List Piece
roles_pieces m = items_pieces role_pieces 1 m.roles

-- the payload that records say
abbrev pub payload_of : List Piece → IdentityPayload
payload_of pieces = record { kind = last_small 1 pieces; body = last_bytes 2 pieces }

abbrev pub payload_fault : Piece → Option MessageFault
payload_fault piece = None

abbrev pub identity_payload : List ℕ → Result IdentityPayload MessageFault
identity_payload bytes = reading payload_of payload_fault bytes

-- the records that are written for it
abbrev pub payload_pieces : IdentityPayload → List Piece
payload_pieces m = number_pieces 1 m.kind ++ bytes_pieces 2 m.body
