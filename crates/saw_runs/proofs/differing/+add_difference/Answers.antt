use Rattle.std.proofs.Common.{◌++◌, ◌+◌, ◌-◌, ◌∙◌, [], ap, arith, length, sym, subst, take, inl, inr}
use Rattle.std.specs.Prelude.{option_copied}
use Rattle.std.proofs.lemmas.List.{take_all, take_more_set}
use Rattle.saw_runs.specs.Differing.{AddsDifference, changes_at, kids_in, part_of, set_for, way_part}
use Rattle.saw_runs.specs.Readings.{read_at}
use Rattle.saw_runs.proofs.Jumping.{jump}
use Rattle.saw_runs.proofs.SameFronts.{fewer_left, pass_on}
use Rattle.saw_runs.proofs.SideBySide.{Walked, leaf_part, same_part, walk_end, walk_on, walk_start}
use Rattle.saw_runs.proofs.differing.+add_difference.Goals as goal

pub returns-then-is_same : goal.returns-then-is_same
returns-then-is_same g t c =
    let both = c.is_same.ensures c.if-is_same.true in
    same_part (read_at c.args.tables.now) (35 - c.args.depth) (take c.args.depth c.args.at) _ _ c.args.changes.now.items (λ k. part_of (both.0 k) (both.1 k))

pub returns-then-depth-eq35 : goal.returns-then-depth-eq35
returns-then-depth-eq35 g t c =
    let end = c.if-depth-eq35.true in
    let whole = c.requires.whole in
    let old = option_copied c.leaf_of-old.result in
    let new = option_copied c.leaf_of-new.result in
    let place = take c.args.depth c.args.at in
    leaf_part (read_at c.args.tables.now) (35 - c.args.depth) place _ _ old new c.args.changes.now.items _ (omega (arith, end))
    (c.leaf_of-old.ensures place) (c.leaf_of-new.ensures place)
    (c.in_ok-add_value.ensures ∙ ap (λ q. c.args.changes.now.items ++ changes_at q (set_for old new)) (sym (take_all c.args.depth c.args.at (omega (arith, end, whole)))))

pub returns-then-shared-depth : goal.returns-then-shared-depth
returns-then-shared-depth g t c =
    let read = read_at c.args.tables.now in
    let shared = c.shared_path-shared.result.now in
    let place = take c.args.depth c.args.at in
    let left = 35 - (c.args.depth + length shared) in
    let within = c.requires.within in
    let fits = c.if-shared-depth.true in
    let from = c.way_to-from in
    let to = c.way_to-to in
    let next = c.add_difference.new.changes.items in
    elim c.shared_path-shared.ensures [
      | inl none ↦ absurd (grind (arith, none, c.is_empty.ensures, c.if-not-is_empty.true, c.if-not-is_empty.ensures))
      | inr both ↦
          jump read (35 - c.args.depth) left place shared (option_copied c.args.from.bottom) (option_copied c.args.to.bottom) _ _ c.args.changes.now.items next
          (omega (arith, within, fits)) both.0 both.1
          (subst (λ part. AddsDifference read left (place ++ shared) part (part_of [] (option_copied c.args.to.bottom)) c.args.changes.now.items next)
          (λ k. part_of (from.ensures.path k) (from.ensures.bottom k))
          (subst (λ part. AddsDifference read left (place ++ shared) (way_part from.result) part c.args.changes.now.items next)
          (λ k. part_of (to.ensures.path k) (to.ensures.bottom k))
          (subst (λ p. AddsDifference read left p (way_part from.result) (way_part to.result) c.args.changes.now.items next) c.moved-at.ensures c.in_ok-add_difference.ensures)))
    ]

pub loop-byte-init : goal.loop-byte-init
loop-byte-init g t c =
    let read = read_at c.args.tables.now in
    let levels = 35 - (c.args.depth + 1) in
    let place = take c.args.depth c.args.at in
    let from = way_part c.args.from in
    let to = way_part c.args.to in
    let old = c.args.changes.now.items in
    let one = c.kids_below in
    let two = c.kids_below-2 in
    let left = c.behind_same-left in
    record {
      walked = pass_on read levels place from to old old (kids_in read one.result) (kids_in read two.result) (kids_in read left.result.0)
          (kids_in read left.result.1)
          (walk_start read levels place from to old (kids_in read one.result) (kids_in read two.result) (one.ensures.have levels place)
          (two.ensures.have levels place) one.ensures.rising two.ensures.rising) (left.ensures.pass read);
      fit_first = left.ensures.fit.0;
      fit_second = left.ensures.fit.1;
    }

pub loop-byte-smaller : goal.loop-byte-smaller
loop-byte-smaller g t c =
    let read = read_at c.args.tables.now in
    let one = c.split in
    let two = c.split-in-Some in
    let left = c.behind_same-left-in-Some in
    fewer_left c.in-Some.byte (kids_in read c.loop-byte.left.0) (kids_in read c.loop-byte.left.1) (kids_in read one.result.1) (kids_in read two.result.1)
    (kids_in read left.result.0) (kids_in read left.result.1) (way_part one.result.0) (way_part two.result.0)
    (c.in-Some.ensures read) one.ensures.takes two.ensures.takes (left.ensures.pass read)

pub loop-byte-preserved : goal.loop-byte-preserved
loop-byte-preserved g t c =
    let read = read_at c.args.tables.now in
    let levels = 35 - (c.args.depth + 1) in
    let place = take c.args.depth c.args.at in
    let from = way_part c.args.from in
    let to = way_part c.args.to in
    let old = c.args.changes.now.items in
    let l = c.loop-byte in
    let next = c.add_difference-in-Some.new.changes.items in
    let one = way_part c.split.result.0 in
    let two = way_part c.split-in-Some.result.0 in
    let firsts = kids_in read c.split.result.1 in
    let seconds = kids_in read c.split-in-Some.result.1 in
    let left = c.behind_same-left-in-Some in
    let whole = c.requires.whole in
    let within = c.requires.within in
    let other = c.if-depth-eq35.false in
    record {
      walked = pass_on read levels place from to old next firsts seconds (kids_in read left.result.0) (kids_in read left.result.1)
          (walk_on read levels place from to old (kids_in read l.left.0) (kids_in read l.left.1) firsts seconds c.in-Some.byte one two l.changes.items next
          l.invariant.walked (c.in-Some.ensures read) c.split.ensures.takes c.split-in-Some.ensures.takes
          (subst (λ p. AddsDifference read levels p one two l.changes.items next)
          (take_more_set c.args.at c.args.depth c.in-Some.byte (omega (arith, whole, within, other))) c.in_ok-add_difference-2.ensures)) (left.ensures.pass read);
      fit_first = left.ensures.fit.0;
      fit_second = left.ensures.fit.1;
    }

pub returns : goal.returns
returns g t c =
    let read = read_at c.args.tables.now in
    let within = c.requires.within in
    let other = c.if-depth-eq35.false in
    let l = c.loop-byte in
    let levels = 35 - (c.args.depth + 1) in
    let place = take c.args.depth c.args.at in
    let from = way_part c.args.from in
    let to = way_part c.args.to in
    let old = c.args.changes.now.items in
    let none = c.in_default.ensures read in
    walk_end read levels place from to old l.changes.items (35 - c.args.depth) (omega (arith, within, other))
    (subst (λ kids. Walked read levels place from to [] kids old l.changes.items) none.1
    (subst (λ kids. Walked read levels place from to kids (kids_in read l.left.1) old l.changes.items) none.0 l.invariant.walked))
