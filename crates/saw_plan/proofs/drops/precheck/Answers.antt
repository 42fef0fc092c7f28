use Rattle.std.proofs.Common.{[]}
use Rattle.std.proofs.lemmas.Result.{IfOk-weaker}
use Rattle.saw_plan.proofs.Adding.{none-added}
use Rattle.saw_plan.proofs.drops.precheck.Goals as goal

pub returns : goal.returns
returns c =
    IfOk-weaker c.precheck_by.result _ _
    (λ sorted is there known. is there (there, record { batches = []; transactions = [] }, known, c.new.ensures, none-added there))
    c.precheck_by.ensures.sorted
