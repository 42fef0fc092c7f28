use Rattle.std.proofs.lemmas.Result.{IfErr-weaker, on_ok_weaker}
use Rattle.saw_node.specs.Nodes.{shape_of}
use Rattle.saw_store.proofs.Kept.{kept_found, kept_missing}
use Rattle.saw_store.proofs.Tested.{free_of_none, free_of_same, told_kept}
use Rattle.saw_store.proofs.store.NodeStore.test_kept.Goals as goal

pub returns-in-None-clause-free : goal.returns-in-None-clause-free
returns-in-None-clause-free g c =
    free_of_none g.H.NodeHasher.hash_of c.args.self.now c.args.news.now c.args.at c.index-news-at.result c.index-news-at.is c.requires.place c.requires.named
    (kept_missing c.self.inside.nodes.entries c.args.self.now c.index-news-at.result.hash c.self.view_is c.in-None.ensures.value)

pub returns-in-Some-clause-free : goal.returns-in-Some-clause-free
returns-in-Some-clause-free g c =
    on_ok_weaker c.test_same.result
    (free_of_same g.H.NodeHasher.hash_of c.args.self.now c.args.news.now c.args.at c.index-news-at.result (shape_of c.in-Some.kept.now) c.index-news-at.is
    c.requires.place c.requires.named
    (kept_found c.self.inside.nodes.entries c.args.self.now c.index-news-at.result.hash c.in-Some.kept.now c.self.view_is c.in-Some.ensures.value))
    c.test_same.ensures.same

pub returns-in-Some-clause-clash : goal.returns-in-Some-clause-clash
returns-in-Some-clause-clash g c =
    IfErr-weaker c.test_same.result _ _
    (told_kept g.H.NodeHasher.hash_of c.args.self.now c.args.news.now c.args.at c.index-news-at.result (shape_of c.in-Some.kept.now) c.index-news-at.is
    c.requires.place c.requires.named c.requires.theirs
    (kept_found c.self.inside.nodes.entries c.args.self.now c.index-news-at.result.hash c.in-Some.kept.now c.self.view_is c.in-Some.ensures.value))
    c.test_same.ensures.apart
