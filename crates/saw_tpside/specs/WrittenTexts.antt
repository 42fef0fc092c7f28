-- The texts in messages that are written are UTF-8.
use Rattle.std.specs.List.{AllByRecursion}
use Rattle.saw_linkmsg.specs.declared.state.TpStateEntry.{TpStateEntry}
use Rattle.saw_messages.specs.ReadBack.{IsText}
use Rattle.saw_messages.specs.declared.receipt.Attribute.{Attribute}
use Rattle.saw_messages.specs.declared.receipt.Event.{Event}
use Rattle.saw_messages.specs.declared.transaction.TransactionHeader.{TransactionHeader}

abbrev pub HasText : TpStateEntry → Type 0
HasText entry = IsText entry.address

abbrev pub HasTexts : Attribute → Type 0
HasTexts attribute = IsText attribute.key × IsText attribute.value

pub record AreEventTexts (event : Event) : Type 0 where
  pub event_type : IsText event.event_type
  pub attributes : AllByRecursion HasTexts event.attributes

pub record AreHeaderTexts (m : TransactionHeader) : Type 0 where
  pub batcher_public_key : IsText m.batcher_public_key
  pub dependencies : AllByRecursion IsText m.dependencies
  pub family_name : IsText m.family_name
  pub family_version : IsText m.family_version
  pub inputs : AllByRecursion IsText m.inputs
  pub nonce : IsText m.nonce
  pub outputs : AllByRecursion IsText m.outputs
  pub payload_sha512 : IsText m.payload_sha512
  pub signer_public_key : IsText m.signer_public_key
