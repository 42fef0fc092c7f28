-- What is written for records is read as them.
use Rattle.std.proofs.Common.{◌≡◌, List, Ok}
use Rattle.saw_wire.specs.Pieces.{Piece}
use Rattle.saw_wire.specs.Reading.{records_of}
use Rattle.saw_wire.specs.Writing.{spelled, AreWritable}
use Rattle.saw_wire.proofs.Again.{all_again}
use Rattle.saw_wire.proofs.Written.{spelled_is}

pub written_back : (pieces : List Piece) → AreWritable pieces → records_of (spelled pieces) ≡ Ok pieces
written_back pieces fits = all_again pieces (spelled pieces) (spelled_is pieces fits)
