use Rattle.std.proofs.Common.{sym, ap, ◌∙◌, subst}
use Rattle.std.specs.Map.{lookup}
use Rattle.std.specs.Str.{bytes_eq}
use Rattle.saw_store.specs.News.{AreNamed, with_all}
use Rattle.saw_runs.specs.Apart.{found_after}
use Rattle.saw_runs.specs.Keeping.{AddsPieces}
use Rattle.saw_runs.specs.Readings.{read_at}
use Rattle.saw_runs.proofs.Adding.{adds_pieces, nodes_named, reading}
use Rattle.saw_runs.proofs.tables.Tables.put_all.Goals as goal

pub put_all-requires-clause-named : goal.put_all-requires-clause-named
put_all-requires-clause-named g c = λ κs alive.
    subst (AreNamed g.H.NodeHasher.hash_of) (sym c.in_ok-nodes.ensures.nodes) (nodes_named g.H.NodeHasher.hash_of c.args.news.items c.requires.named)

pub returns-clause-ok : goal.returns-clause-ok
returns-clause-ok g c =
    let put = c.in_ok-put_all.ensures.ok ∙ ap (with_all g.H.NodeHasher.hash_of c.args.self.now.nodes) c.in_ok-nodes.ensures.nodes in
    subst (λ nodes. AddsPieces (read_at c.args.self.now) (reading (λ h. lookup (bytes_eq h) c.put_runs.new.table.entries) nodes) c.args.news.items) (sym put)
    (adds_pieces g.H.NodeHasher.hash_of (λ h. lookup (bytes_eq h) c.args.self.now.runs.entries) (λ h. lookup (bytes_eq h) c.put_runs.new.table.entries)
    c.args.self.now.nodes c.args.news.items c.requires.named
    (λ h.
    c.put_runs.ensures h ∙ (λ i. found_after (lookup (bytes_eq h) (c.reserve.ensures.entries i)) (c.in_ok-nodes.ensures.runs i) h)) c.requires.clear)
