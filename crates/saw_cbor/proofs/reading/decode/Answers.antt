use Rattle.std.proofs.Common.{arith, subst}
use Rattle.saw_cbor.specs.Reading.{IsReading}
use Rattle.saw_cbor.specs.View.{view}
use Rattle.saw_cbor.proofs.Again.{reading_again}
use Rattle.saw_cbor.proofs.Found.{is_found}
use Rattle.saw_cbor.proofs.reading.decode.Goals as goal

pub returns-clause-found : goal.returns-clause-found
returns-clause-found c = is_found c.args.depth c.args.bytes.now c.read.result (λ i. omega (arith, c.type_inv.bytes i)) c.read.ensures

pub returns-clause-only : goal.returns-clause-only
returns-clause-only c = λ x is fine. subst (λ r. IsReading view c.read.result r) (reading_again c.args.depth x c.args.bytes.now is fine) c.read.ensures
