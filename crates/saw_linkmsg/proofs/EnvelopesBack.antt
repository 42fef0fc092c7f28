-- Written envelopes are read back.
use Rattle.std.proofs.Common.{◌≡◌, List, refl}
use Rattle.std.specs.List.{filter_map}
use Rattle.saw_wire.specs.Pieces.{Piece}
use Rattle.saw_wire.specs.Fields.{all_bytes, number_in}
use Rattle.saw_wire.proofs.FieldsBack.{field_values, bytes_values, number_values, bytes_back, small_back, IsFine, text_fine, ComesBack, comes_back}
use Rattle.saw_wire.proofs.FieldsBack.{is_read}
use Rattle.saw_linkmsg.specs.declared.envelope.Envelope.{Envelope}
use Rattle.saw_linkmsg.specs.Envelopes.{envelope_of, envelope_fault, envelope_pieces}
use Rattle.saw_linkmsg.specs.LinkReadBack.{IsEnvelope, EnvelopeIsReadBack}

-- what the fields show
record SpelledBy (m : Envelope) (pieces : List Piece) : Type 0 where
  message_type : filter_map (number_in 1) pieces ≡ number_values m.message_type
  correlation_id : all_bytes 2 pieces ≡ bytes_values m.correlation_id
  content : all_bytes 3 pieces ≡ bytes_values m.content

shows : (m : Envelope) → SpelledBy m (envelope_pieces m)
shows m = record { message_type = simp field_values; correlation_id = simp field_values; content = simp field_values }

says : (m : Envelope) (pieces : List Piece) → IsEnvelope m → SpelledBy m pieces → envelope_of pieces ≡ m
says m pieces is shown =
    rw (
      small_back 1 pieces m.message_type shown.message_type is.message_type,
      bytes_back 2 pieces m.correlation_id shown.correlation_id,
      bytes_back 3 pieces m.content shown.content,
    ) refl

fine : (m : Envelope) (pieces : List Piece) → IsEnvelope m → SpelledBy m pieces → IsFine envelope_fault pieces
fine m pieces is shown = text_fine 2 pieces m.correlation_id shown.correlation_id is.correlation_id

pub envelope_back : (m : Envelope) → IsEnvelope m → ComesBack envelope_of envelope_fault envelope_pieces m
envelope_back m is =
    comes_back envelope_of envelope_fault envelope_pieces m is.fits
    (fine m (envelope_pieces m) is (shows m))
    (says m (envelope_pieces m) is (shows m))

pub envelope_is_read : EnvelopeIsReadBack
envelope_is_read m is = is_read (envelope_back m is)
