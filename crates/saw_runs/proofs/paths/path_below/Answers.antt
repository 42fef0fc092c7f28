use Rattle.std.proofs.Common.{◌∙◌, ◌++◌, map, ap, sym, subst, arith, drop}
use Rattle.std.proofs.lemmas.List.{take_rest}
use Rattle.saw_node.specs.Nodes.{shape_of}
use Rattle.saw_runs.specs.Paths.{passed}
use Rattle.saw_runs.specs.Readings.{read_at, stepped}
use Rattle.saw_runs.proofs.OnPath.{Gathers, gathers_last, gathers_none, gathers_on, gathers_start}
use Rattle.saw_runs.proofs.paths.path_below.Goals as goal

pub loop-place-init : goal.loop-place-init
loop-place-init g c = (
  omega arith,
  subst (λ nodes. Gathers g.H.NodeHasher.hash_of (read_at c.args.tables.now) c.args.root.now c.args.at.now 0 c.args.root.now (map shape_of nodes))
      (sym c.new-nodes.ensures.items) (gathers_start g.H.NodeHasher.hash_of (read_at c.args.tables.now) c.args.root.now c.args.at.now),
)

pub returns-in-None : goal.returns-in-None
returns-in-None g c = λ m root_is.
    let read = read_at c.args.tables.now in
    let l = c.loop-place in
    c.in_ok-add_passed.ensures
    ∙ ap (λ bs. map shape_of l.nodes.items ++ passed g.H.NodeHasher.hash_of (read l.place.1) bs)
    (take_rest c.as_slice-bytes.result.now l.place.0 ∙ ap (drop l.place.0) c.as_slice-bytes.ensures.bytes)
    ∙ gathers_none g.H.NodeHasher.hash_of read c.args.root.now c.args.at.now l.place.0 l.place.1 (map shape_of l.nodes.items) l.invariant.1
    c.as_slice-bytes.ensures.is c.loop-place-test.true
    (c.in-None.ensures.stepped ∙ ap (λ bs. stepped (read l.place.1) bs l.place.0) c.as_slice-bytes.ensures.bytes) m root_is

pub loop-place-preserved : goal.loop-place-preserved
loop-place-preserved g c =
    let read = read_at c.args.tables.now in
    let l = c.loop-place in (
      c.in-Some.ensures.within,
      subst (Gathers g.H.NodeHasher.hash_of read c.args.root.now c.args.at.now c.in-Some.next.0 c.in-Some.next.1)
          (sym (c.in_ok-add_passed.ensures
          ∙ ap (λ bs. map shape_of l.nodes.items ++ passed g.H.NodeHasher.hash_of (read l.place.1) bs)
          (take_rest c.as_slice-bytes.result.now l.place.0 ∙ ap (drop l.place.0) c.as_slice-bytes.ensures.bytes)))
          (gathers_on g.H.NodeHasher.hash_of read c.args.root.now c.args.at.now l.place.0 l.place.1 (map shape_of l.nodes.items) l.invariant.1
          c.as_slice-bytes.ensures.is _ c.loop-place-test.true
          (c.in-Some.ensures.stepped ∙ ap (λ bs. stepped (read l.place.1) bs l.place.0) c.as_slice-bytes.ensures.bytes)),
    )

pub returns : goal.returns
returns g c = λ m root_is.
    let read = read_at c.args.tables.now in
    let l = c.loop-place in
    let low = l.invariant.0 in
    let all = c.loop-place-test.false in
    c.in_ok-add_passed-2.ensures
    ∙ ap (λ bs. map shape_of l.nodes.items ++ passed g.H.NodeHasher.hash_of (read l.place.1) bs)
    (take_rest c.as_slice-bytes.result.now l.place.0 ∙ ap (drop l.place.0) c.as_slice-bytes.ensures.bytes)
    ∙ gathers_last g.H.NodeHasher.hash_of read c.args.root.now c.args.at.now l.place.0 l.place.1 (map shape_of l.nodes.items) l.invariant.1
    c.as_slice-bytes.ensures.is (omega (arith, low, all)) m root_is
