use Rattle.std.proofs.Common.{None, refl, [], ◌∷◌, ◌++◌, List, ℕ, ap, ◌∙◌}
use Rattle.saw_predtree.proofs.Putting.{read-new, read-put, reader-marks}
use Rattle.saw_predtree.proofs.put.put_reader.Goals as goal

pub returns-in-Some-clause-puts : goal.returns-in-Some-clause-puts
returns-in-Some-clause-puts c =
    read-put c.args.places.now (c.get_mut.follows.lender c.read_by.new.self) c.args.index c.args.written.now c.args.key.now c.in-Some.place.now c.read_by.new.self
    c.is_above.result c.in-Some.ensures.value (c.get_mut.follows.holds c.read_by.new.self).3 c.in_ok-read_by.ensures.writer c.in_ok-read_by.ensures.readers c.is_above.ensures

pub returns-in-Some-clause-marks : goal.returns-in-Some-clause-marks
returns-in-Some-clause-marks c =
    rw c.mark.ensures.marks
    (reader-marks c.args.lengths.now c.args.places.now (c.get_mut.follows.lender c.read_by.new.self) c.args.index c.args.written.now c.args.key.now c.mark.ensures.size
    (read-put c.args.places.now (c.get_mut.follows.lender c.read_by.new.self) c.args.index c.args.written.now c.args.key.now c.in-Some.place.now c.read_by.new.self
    c.is_above.result c.in-Some.ensures.value (c.get_mut.follows.holds c.read_by.new.self).3 c.in_ok-read_by.ensures.writer c.in_ok-read_by.ensures.readers c.is_above.ensures))

pub returns-clause-puts : goal.returns-clause-puts
returns-clause-puts c =
    read-new c.args.places.now c.get_mut.follows.lender-at-none c.insert.new.self c.args.index c.args.written.now c.args.key.now (record { writer = None; readers = c.push.new.self })
    c.in_default.ensures.value c.get_mut.follows.holds-at-none (rw c.copy.ensures at c.in_ok-insert.ensures.updates) refl
    (c.in_ok-push.ensures.items ∙ ap (λ (xs : List ℕ). xs ++ c.args.index ∷ []) c.new-readers.ensures.items)

pub returns-clause-marks : goal.returns-clause-marks
returns-clause-marks c =
    rw c.mark.ensures.marks
    (reader-marks c.args.lengths.now c.args.places.now c.insert.new.self c.args.index c.args.written.now c.args.key.now c.mark.ensures.size
    (read-new c.args.places.now c.get_mut.follows.lender-at-none c.insert.new.self c.args.index c.args.written.now c.args.key.now (record { writer = None; readers = c.push.new.self })
    c.in_default.ensures.value c.get_mut.follows.holds-at-none (rw c.copy.ensures at c.in_ok-insert.ensures.updates) refl
    (c.in_ok-push.ensures.items ∙ ap (λ (xs : List ℕ). xs ++ c.args.index ∷ []) c.new-readers.ensures.items)))
