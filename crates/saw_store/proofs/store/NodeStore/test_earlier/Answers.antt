use Rattle.std.proofs.Common.{◌<◌, length, rules, sym, ◌∙◌}
use Rattle.std.proofs.lemmas.Result.{IfErr-weaker, on_ok_weaker}
use Rattle.saw_store.proofs.Tested.{earlier_below, noted_again, noted_new, told_earlier}
use Rattle.saw_store.proofs.store.NodeStore.test_earlier.Goals as goal

pub bounds-news-earlier : goal.bounds-news-earlier
bounds-news-earlier g c =
    earlier_below c.args.news.now c.args.at c.in-Some.earlier c.index-news-at.result c.args.places.now.entries c.requires.place
    (sym c.in_ok-insert.ensures.old ∙ c.in-Some.is) c.requires.noted

pub offset_bounds-news-earlier : goal.offset_bounds-news-earlier
offset_bounds-news-earlier g c =
    let below : c.in-Some.earlier < length c.args.news.now = earlier_below c.args.news.now c.args.at c.in-Some.earlier c.index-news-at.result
    c.args.places.now.entries c.requires.place (sym c.in_ok-insert.ensures.old ∙ c.in-Some.is) c.requires.noted in
    search (rules, below)

pub returns-in-None-clause-noted : goal.returns-in-None-clause-noted
returns-in-None-clause-noted g c =
    noted_new c.args.news.now c.args.at c.index-news-at.result c.args.places.now.entries c.insert.new.self.entries c.index-news-at.is c.requires.place
    c.in_ok-insert.ensures.updates.0 (sym c.in_ok-insert.ensures.old ∙ c.in-None.is) c.requires.noted

pub returns-in-Some-clause-noted : goal.returns-in-Some-clause-noted
returns-in-Some-clause-noted g c =
    on_ok_weaker c.test_same.result
    (noted_again c.args.news.now c.args.at c.in-Some.earlier c.index-news-at.result c.index-news-earlier.result c.args.places.now.entries
    c.insert.new.self.entries c.index-news-at.is c.requires.place c.in_ok-insert.ensures.updates.0 (sym c.in_ok-insert.ensures.old ∙ c.in-Some.is)
    c.requires.noted) c.test_same.ensures.same

pub returns-in-Some-clause-clash : goal.returns-in-Some-clause-clash
returns-in-Some-clause-clash g c =
    IfErr-weaker c.test_same.result _ _
    (told_earlier g.H.NodeHasher.hash_of c.args.self.now c.args.news.now c.args.at c.in-Some.earlier c.index-news-at.result c.index-news-earlier.result
    c.args.places.now.entries c.index-news-at.is c.requires.place c.requires.named c.requires.noted (sym c.in_ok-insert.ensures.old ∙ c.in-Some.is))
    c.test_same.ensures.apart
