use Rattle.std.proofs.Common.{None, Some, rules}
use Rattle.std.specs.Cmp.Lexicographic.{nat_list_eq_equiv}
use Rattle.std.proofs.lemmas.Slice.Eq.{bytes_eq-Decides}
use Rattle.saw_top.specs.Outside.{shelf_end}
use Rattle.saw_top.specs.Vouching.{file_in, known_in}
use Rattle.saw_top.proofs.Prepares.{named_known, named_other, unnamed}
use Rattle.saw_top.proofs.prepare.named_batches.Goals as goal

pub returns-in_default : goal.returns-in_default
returns-in_default g c = record {
  named = rw (c.in_default.is, c.new.ensures) (unnamed (known_in c.args.known) (shelf_end g.F.Shelf c.args.shelf.now) (shelf_end g.F.Shelf c.args.shelf.now) c.requires.known);
}

-- no file is known
pub returns-in_default-known : goal.returns-in_default-known
returns-in_default-known g c = record {
  named = rw (c.in-Some.is, c.in_default-known.is)
      (named_other None (shelf_end g.F.Shelf c.args.shelf.now) (shelf_end g.F.Shelf c.fetch_batches.new.shelf) (rw c.in_default-known.is at c.requires.known)
      c.in-Some.name.now c.fetch_batches.result tt c.fetch_batches.ensures.fetches);
}

pub returns-then-eq : goal.returns-then-eq
returns-then-eq g c =
    let known = c.in-Some-known.known in
    record {
      named = rw (c.in-Some.is, c.in-Some-known.is)
          (named_known (file_in known) (shelf_end g.F.Shelf c.args.shelf.now) (rw c.in-Some-known.is at c.requires.known) c.in-Some.name.now
          ((bytes_eq-Decides known.name.now c.in-Some.name.now).0 (search rules)) c.read_batches.result c.read_batches.ensures.reads);
    }

pub returns : goal.returns
returns g c =
    let known = c.in-Some-known.known in
    record {
      named = rw (c.in-Some.is, c.in-Some-known.is)
          (named_other (Some (file_in known)) (shelf_end g.F.Shelf c.args.shelf.now) (shelf_end g.F.Shelf c.fetch_batches-2.new.shelf)
          (rw c.in-Some-known.is at c.requires.known) c.in-Some.name.now c.fetch_batches-2.result
          (rw (nat_list_eq_equiv.symm c.in-Some.name.now known.name.now) (search rules)) c.fetch_batches-2.ensures.fetches);
    }
