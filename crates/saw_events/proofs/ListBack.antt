-- A written list of changes is read back.
use Rattle.std.proofs.Common.{◌≡◌, List, map, refl}
use Rattle.saw_wire.specs.Pieces.{Piece}
use Rattle.saw_wire.specs.Writing.{spelled}
use Rattle.saw_wire.specs.Fields.{all_bytes}
use Rattle.saw_wire.proofs.FieldsBack.{field_values, items_back, items_fine, comes_back, is_read}
use Rattle.saw_messages.proofs.ReceiptsBack.{state_change_back}
use Rattle.saw_messages.specs.Receipts.{state_change_pieces}
use Rattle.saw_events.specs.Laws.{ChangesAreReadBack, IsChangeList}
use Rattle.saw_events.specs.Messages.{changes_fault, changes_of, changes_pieces}
use Rattle.saw_events.specs.declared.change_list.StateChangeList.{StateChangeList}

-- what the field shows
changes_shown : (m : StateChangeList) → all_bytes 1 (changes_pieces m) ≡ map (λ one. spelled (state_change_pieces one)) m.state_changes
changes_shown m = simp field_values

list_says : (m : StateChangeList) (pieces : List Piece) → IsChangeList m
    → all_bytes 1 pieces ≡ map (λ one. spelled (state_change_pieces one)) m.state_changes → changes_of pieces ≡ m
list_says m pieces is shown = rw (items_back state_change_back 1 pieces m.state_changes shown is.state_changes) refl

pub list_is_read : ChangesAreReadBack
list_is_read m is =
    is_read (comes_back changes_of changes_fault changes_pieces m is.fits
    (items_fine state_change_back 1 (changes_pieces m) m.state_changes (changes_shown m) is.state_changes)
    (list_says m (changes_pieces m) is (changes_shown m)))
