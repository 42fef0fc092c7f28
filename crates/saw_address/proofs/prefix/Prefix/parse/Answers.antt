use Rattle.std.proofs.Common.{arith, rules}
use Rattle.std.proofs.lemmas.Grind.{common_steps}
use Rattle.saw_address.proofs.prefix.Prefix.parse.Goals as goal

pub slice_bounds-bytes-end : goal.slice_bounds-bytes-end
slice_bounds-bytes-end c = search rules

pub slice_bounds-read_digits-end : goal.slice_bounds-read_digits-end
slice_bounds-read_digits-end c = search rules

pub read_digits-requires : goal.read_digits-requires
read_digits-requires c = search rules

pub invariant_of-result : goal.invariant_of-result
invariant_of-result c = grind (arith, common_steps)

pub returns-clause-valid : goal.returns-clause-valid
returns-clause-valid c = search rules
