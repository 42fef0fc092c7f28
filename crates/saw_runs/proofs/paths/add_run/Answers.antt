use Rattle.std.proofs.Common.{◌++◌, ◌∙◌, Some, map, take, sym, ap}
use Rattle.std.proofs.lemmas.List.{map-append, take-map}
use Rattle.saw_node.specs.Nodes.{shape_of}
use Rattle.saw_runs.specs.Entries.Entry.{OfRun}
use Rattle.saw_runs.specs.Paths.{passed}
use Rattle.saw_runs.proofs.paths.add_run.Goals as goal

pub returns : goal.returns
returns g c =
    ap (map shape_of) c.in_ok-append.ensures.items ∙ map-append shape_of c.args.nodes.now.items c.truncate.new.self.items
    ∙ ap (λ xs. map shape_of c.args.nodes.now.items ++ xs)
    (ap (map shape_of) c.truncate.ensures.items ∙ sym (take-map shape_of c.along.result c.in_ok-made.made.items) ∙ (λ k. take (c.along.ensures k) (c.in_ok-made.ensures k))
    ∙ ap (λ path. passed g.H.NodeHasher.hash_of (Some (OfRun path c.args.run.now.bottom)) c.args.bytes.now) c.as_slice-path.ensures.value)
