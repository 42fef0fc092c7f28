use Rattle.std.proofs.Common.{◌≡◌, ◌<◌, ◌≤◌, length, sym, arith, rules}
use Rattle.std.proofs.lemmas.List.{get_or_read}
use Rattle.saw_ready.specs.Edges.{begin}
use Rattle.saw_ready.proofs.Counts.{count-fits, counts-end, counts-few, counts-more, place_in}
use Rattle.saw_ready.proofs.successors.count_targets.Goals as goal

pub target-requires : goal.target-requires
target-requires c =
    let n = length c.args.counts.now.items in
    let long : c.len.result ≡ n = omega arith in
    let high : c.loop-place.place < begin c.args.preds.now n = rw (c.begin-place-end.ensures.value, long) at c.loop-place-test.true in
    (place_in c.args.preds.now n c.loop-place.place c.requires.edges (rw c.begin-place.ensures.value at c.loop-place.auto.place) high).0

pub index_mut-requires : goal.index_mut-requires
index_mut-requires c =
    let n = length c.args.counts.now.items in
    let long : c.len.result ≡ n = omega arith in
    let high : c.loop-place.place < begin c.args.preds.now n = rw (c.begin-place-end.ensures.value, long) at c.loop-place-test.true in
    let low =
    (place_in c.args.preds.now n c.loop-place.place c.requires.edges
    (rw c.begin-place.ensures.value at c.loop-place.auto.place) high).1 in
    omega (arith, low)

pub overflow_add-index_mut : goal.overflow_add-index_mut
overflow_add-index_mut c =
    let n = length c.args.counts.now.items in
    let l = c.loop-place in
    let j = c.target.result in
    let long : c.len.result ≡ n = omega arith in
    let high : l.place < begin c.args.preds.now n = rw (c.begin-place-end.ensures.value, long) at c.loop-place-test.true in
    let low = (place_in c.args.preds.now n l.place c.requires.edges (rw c.begin-place.ensures.value at l.auto.place) high).1 in
    let lt : j < length l.counts.items = omega (arith, low) in
    let here = get_or_read l.counts.items j c.index_mut.result.now lt c.index_mut.ensures.value 0 in
    let small : begin c.args.preds.now n < 4294967296 = rw (c.begin-place-end.ensures.value, long) at c.begin-place-end.ensures.small in
    let fits =
    count-fits c.args.preds.now n j l.place c.index_mut.result.now high (sym c.target.ensures)
    (rw here (l.invariant.so_far j (omega arith))) in
    omega (arith, fits, small)

pub loop-place-preserved : goal.loop-place-preserved
loop-place-preserved c =
    let n = length c.args.counts.now.items in
    let l = c.loop-place in
    let j = c.target.result in
    let long : c.len.result ≡ n = omega arith in
    let high : l.place < begin c.args.preds.now n = rw (c.begin-place-end.ensures.value, long) at c.loop-place-test.true in
    let low = (place_in c.args.preds.now n l.place c.requires.edges (rw c.begin-place.ensures.value at l.auto.place) high).1 in
    let lt : j < length l.counts.items = omega (arith, low) in
    let here = get_or_read l.counts.items j c.index_mut.result.now lt c.index_mut.ensures.value 0 in
    record {
      long = search rules;
      so_far =
          counts-more c.args.preds.now n j l.place c.index_mut.result.now l.counts.items l.invariant.long (omega (arith, low)) high
          (sym c.target.ensures) here l.invariant.so_far;
    }

pub returns-clause-counts : goal.returns-clause-counts
returns-clause-counts c =
    let n = length c.args.counts.now.items in
    let l = c.loop-place in
    let long : c.len.result ≡ n = omega arith in
    let past : begin c.args.preds.now n ≤ l.place = rw (c.begin-place-end.ensures.value, long) at c.loop-place-test.false in
    counts-end c.args.preds.now n l.place l.counts.items l.invariant.long past l.invariant.so_far

pub returns-clause-few : goal.returns-clause-few
returns-clause-few c =
    let n = length c.args.counts.now.items in
    let few = counts-few c.args.preds.now c.loop-place.counts.items (returns-clause-counts c) in
    let long : c.len.result ≡ length c.loop-place.counts.items = omega arith in
    let small : begin c.args.preds.now (length c.loop-place.counts.items) < 4294967296 =
    rw (c.begin-place-end.ensures.value, long) at c.begin-place-end.ensures.small in
    omega (arith, few, small)
