use Rattle.std.proofs.Common.{◌+◌, ◌-◌, ◌++◌, [], length, take, ap, sym, ◌∙◌, arith}
use Rattle.std.proofs.lemmas.Slice.{take-put_mid}
use Rattle.saw_runs.specs.Listing.{read_below}
use Rattle.saw_runs.proofs.Descending.{run_end, run_long}
use Rattle.saw_runs.proofs.listing.end_of.Goals as goal

pub returns-then-path-depth-clause-same : goal.returns-then-path-depth-clause-same
returns-then-path-depth-clause-same c = λ read.
    let long = c.if-path-depth.true in
    sym (run_long read c.args.bottom c.args.path.now (35 - c.args.depth) (take c.args.depth c.args.bytes) (omega (arith, long)))

pub returns-clause-same : goal.returns-clause-same
returns-clause-same c = λ read.
    let fits = c.if-path-depth.false in
    let within = c.requires.within in
    let whole = c.requires.whole in
    let after = c.copy_from_slice.ensures.after in
    let depth = c.args.depth in
    let path = c.args.path.now in
    let end = depth + length path in
    ap (λ place. read_below read (35 - end) place [] c.args.bottom)
    (take-put_mid depth (end - depth) c.args.bytes c.copy_from_slice.new.self end (omega (arith, ap length after)) (omega (arith, whole, within))
    ∙ ap (λ xs. take depth c.args.bytes ++ xs) after)
    ∙ sym (run_end read c.args.bottom path (35 - depth) (35 - end) (take depth c.args.bytes) (omega (arith, fits, within)))
