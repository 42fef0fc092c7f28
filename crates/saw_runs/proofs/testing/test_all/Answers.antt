use Rattle.std.proofs.Common.{subst}
use Rattle.std.proofs.lemmas.List.{take_all}
use Rattle.saw_runs.specs.Keeping.{AreClear}
use Rattle.saw_runs.specs.Readings.{read_at}
use Rattle.saw_runs.proofs.Noted.{noted_none, noted_on, sound_none}
use Rattle.saw_runs.proofs.testing.test_all.Goals as goal

pub loop-at-init : goal.loop-at-init
loop-at-init g c = record {
  sound = sound_none g.H.NodeHasher.hash_of (read_at c.args.tables.now) c.requires.theirs c.requires.kept_ends;
  noted = noted_none c.in_ok-places.places.entries c.in_ok-places.ensures.empty;
}

pub loop-at-preserved : goal.loop-at-preserved
loop-at-preserved g c = record {
  sound = c.in_ok-test_at.ensures.sound;
  noted = noted_on c.args.news.now c.loop-at.at c.index-news-at.result c.loop-at.places.entries c.insert.new.self.entries c.index-news-at.is
      c.loop-at-test.true c.in_ok-insert.ensures.updates.0 c.loop-at.invariant.noted;
}

pub returns-clause-clear : goal.returns-clause-clear
returns-clause-clear g c =
    subst (AreClear (read_at c.args.tables.now)) (take_all c.loop-at.at c.args.news.now c.loop-at-test.false) c.loop-at.invariant.sound.clear
