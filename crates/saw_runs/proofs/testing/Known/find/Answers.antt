use Rattle.std.proofs.Common.{◌<◌, length, rules, sym}
use Rattle.saw_runs.specs.Readings.{found_entry, read_at}
use Rattle.saw_runs.proofs.Noted.{known_at}
use Rattle.saw_runs.proofs.testing.Known.find.Goals as goal

pub offset_bounds-self-place : goal.offset_bounds-self-place
offset_bounds-self-place g c =
    let below : c.in-Some-get.place.now < length c.args.self.now.before.now =
    c.requires.noted.within c.args.hash.now c.in-Some-get.place.now (sym c.in-Some-get.ensures.value) in
    search (rules, below)

pub bounds-self-place : goal.bounds-self-place
bounds-self-place g c = c.requires.noted.within c.args.hash.now c.in-Some-get.place.now (sym c.in-Some-get.ensures.value)

pub returns-in-Some-get : goal.returns-in-Some-get
returns-in-Some-get g c =
    known_at (read_at c.args.self.now.tables.now) c.args.self.now.before.now c.args.self.now.places.now.entries c.args.hash.now c.in-Some-get.place.now
    c.index-self-place.result (found_entry c.found_of.result) c.requires.noted c.in-Some-get.ensures.value c.found_of.ensures
