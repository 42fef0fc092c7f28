use Rattle.std.proofs.Common.{◌∙◌, ap}
use Rattle.saw_store.specs.News.{with_all}
use Rattle.saw_store.specs.Stores.{shown}
use Rattle.saw_store.proofs.store.NodeStore.put_all.Goals as goal

pub returns-clause-ok : goal.returns-clause-ok
returns-clause-ok g c =
    c.put_each.ensures g.H.NodeHasher.hash_of c.requires.named
    ∙ ap (λ nodes. with_all g.H.NodeHasher.hash_of nodes c.args.news.items) (ap shown c.reserve.ensures.entries ∙ c.self.view_is)
