use Rattle.saw_predtree.proofs.Adding.{is-added}
use Rattle.saw_predtree.proofs.tree.enter.Goals as goal

pub returns : goal.returns
returns c = λ next behind w tree.
    let written = c.in_ok-written.written.items in
    let read = c.in_ok-read.read.items in
    let one = rw (c.as_slice-2.ensures.value, c.new-found.ensures.items) at (c.in_ok-search.ensures tree.marked) in
    let two = rw c.as_slice-3.ensures.value at (c.in_ok-search-2.ensures tree.marked) in
    is-added c.args.places.now c.put_readers.new.places c.put_writers.new.places c.args.lengths.now c.put_writers.new.lengths c.args.reaches.now.items
    c.put_reach.new.reaches.items next c.args.index w c.args.inputs.now c.args.outputs.now written read c.search.new.found.items c.search-2.new.found.items
    c.in_ok-given.given.items c.greatest_reach-from.result c.reach_with.result tree behind c.in_ok-written.ensures (rw c.as_slice.ensures.value at c.in_ok-read.ensures) one two
    (rw (c.as_slice-4.ensures.value, c.as_slice-5.ensures.value) at c.greatest_reach-from.ensures)
    (rw c.as_slice-6.ensures.value at c.in_ok-given.ensures)
    (rw (c.as_slice-7.ensures.value, c.as_slice-8.ensures.value) at c.in_ok-put_readers.ensures.puts)
    (rw c.as_slice-9.ensures.value at c.in_ok-put_writers.ensures.puts)
    (c.in_ok-put_writers.ensures.marks (c.in_ok-put_readers.ensures.marks tree.marked))
    (rw c.as_slice-10.ensures.value at c.reach_with.ensures)
    c.in_ok-put_reach.ensures
