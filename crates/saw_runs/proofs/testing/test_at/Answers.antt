use Rattle.std.proofs.Common.{drop, subst, suc}
use Rattle.std.proofs.lemmas.Result.{IfErr-weaker, on_ok_weaker}
use Rattle.saw_runs.specs.Keeping.{IsClashOf}
use Rattle.saw_runs.specs.Readings.{read_at}
use Rattle.saw_runs.proofs.Noted.{cut_at, sound_at, sound_on}
use Rattle.saw_runs.proofs.testing.test_at.Goals as goal

pub test-requires-clause-given : goal.test-requires-clause-given
test-requires-clause-given g c = λ κs alive.
    sound_at g.H.NodeHasher.hash_of (read_at c.args.tables.now) c.args.news.now c.args.at c.index-news-at.result c.index-news-at.is c.requires.place
    c.requires.named c.requires.news_end

pub returns-clause-sound : goal.returns-clause-sound
returns-clause-sound g c =
    on_ok_weaker c.test.result
    (sound_on g.H.NodeHasher.hash_of (read_at c.args.tables.now) c.args.news.now c.args.at c.index-news-at.result c.index-news-at.is c.requires.place
    c.requires.named c.requires.news_end c.requires.sound) c.test.ensures.free

pub returns-clause-clash : goal.returns-clause-clash
returns-clause-clash g c =
    IfErr-weaker c.test.result _ _
    (λ fault clash.
    subst (λ news. IsClashOf g.H.NodeHasher.hash_of (read_at c.args.tables.now) news fault)
    (cut_at c.args.news.now c.args.at c.index-news-at.result c.index-news-at.is c.requires.place)
    (clash (drop (suc c.args.at) c.args.news.now))) c.test.ensures.clash
