use Rattle.std.proofs.Common.{refl, subst, sym}
use Rattle.std.proofs.lemmas.Result.{err_from_is_err_and}
use Rattle.saw_context.specs.Outcome.{map_after}
use Rattle.saw_runs.specs.Entries.{AreNamed}
use Rattle.saw_runs.specs.Keeping.{AreClear, IsClashOf, NewsAreEnded}
use Rattle.saw_runs.specs.Readings.{read_at}
use Rattle.saw_merkle.specs.Clashes.{IsClashFor, IsPreparedFor}
use Rattle.saw_merkle.specs.Preparations.{Preparation}
use Rattle.saw_merkle.specs.States.{map_at}
use Rattle.saw_merkle.proofs.Sound.{clash_for, ended, news_ended, news_named, prepared_for, root_with}
use Rattle.saw_merkle.proofs.state.State.prepare.Goals as goal

pub test_all-requires-clause-named : goal.test_all-requires-clause-named
test_all-requires-clause-named g c = λ κs alive.
    subst (AreNamed g.H.NodeHasher.hash_of) (sym c.deref.ensures.value)
    (news_named g.H.NodeHasher.hash_of (read_at c.self.inside.tables) c.self.inside.empty c.args.root.now c.in_ok-root.root c.args.changes.now
    c.new-news.result.items c.changed_root.new.news.items c.new-news.ensures.items c.in_ok-root.ensures.changes)

pub test_all-requires-clause-theirs : goal.test_all-requires-clause-theirs
test_all-requires-clause-theirs g c = λ κs alive. c.self.invariant.theirs

pub test_all-requires-clause-kept_ends : goal.test_all-requires-clause-kept_ends
test_all-requires-clause-kept_ends g c = λ κs alive.
    ended g.H.NodeHasher.hash_of (read_at c.self.inside.tables) c.self.inside.roots.keys c.self.inside.empty c.self.invariant

pub test_all-requires-clause-news_end : goal.test_all-requires-clause-news_end
test_all-requires-clause-news_end g c = λ κs alive.
    let hash = g.H.NodeHasher.hash_of in
    let read = read_at c.self.inside.tables in
    let news = c.changed_root.new.news.items in
    let m = map_after (map_at c.args.self.now c.args.root.now) c.args.changes.now in
    let with_news = root_with hash (read_at c.self.inside.tables) c.self.inside.roots.keys c.self.inside.empty c.args.root.now c.in_ok-root.root c.args.changes.now
    c.args.self.now c.new-news.result.items news c.self.invariant c.self.view_is c.requires.known c.changed_root.ensures.addresses c.new-news.ensures.items
    c.in_ok-root.ensures.changes in
    let named = news_named hash read c.self.inside.empty c.args.root.now c.in_ok-root.root c.args.changes.now c.new-news.result.items news
    c.new-news.ensures.items c.in_ok-root.ensures.changes in
    subst (NewsAreEnded (read_at c.self.inside.tables)) (sym c.deref.ensures.value)
    (news_ended hash read c.self.inside.roots.keys c.self.inside.empty c.self.invariant m c.in_ok-root.root news named with_news)

pub returns-in_err-test_all-clause-clash : goal.returns-in_err-test_all-clause-clash
returns-in_err-test_all-clause-clash g c =
    let p = err_from_is_err_and c.from_residual-in_err-test_all.result c.from_residual-in_err-test_all.ensures.1 in
    let hash = g.H.NodeHasher.hash_of in
    let read = read_at c.self.inside.tables in
    let news = c.changed_root.new.news.items in
    let m = map_after (map_at c.args.self.now c.args.root.now) c.args.changes.now in
    let with_news = root_with hash read c.self.inside.roots.keys c.self.inside.empty c.args.root.now c.in_ok-root.root c.args.changes.now c.args.self.now
    c.new-news.result.items news c.self.invariant c.self.view_is c.requires.known c.changed_root.ensures.addresses c.new-news.ensures.items c.in_ok-root.ensures.changes in
    let named = news_named hash read c.self.inside.empty c.args.root.now c.in_ok-root.root c.args.changes.now c.new-news.result.items news
    c.new-news.ensures.items c.in_ok-root.ensures.changes in
    rw (p.1, p.2) (subst (λ s. IsClashFor hash s m c.in_err-test_all.field-0.0) c.self.view_is
    (clash_for hash read c.self.inside.roots.keys c.self.inside.empty c.self.invariant m c.in_ok-root.root news named with_news c.in_err-test_all.field-0.0
    (subst (λ xs. IsClashOf hash (read_at c.self.inside.tables) xs c.in_err-test_all.field-0.0) c.deref.ensures.value c.in_err-test_all.ensures.clash)))

pub returns-clause-ok : goal.returns-clause-ok
returns-clause-ok g c =
    let hash = g.H.NodeHasher.hash_of in
    let read = read_at c.self.inside.tables in
    let news = c.changed_root.new.news.items in
    let m = map_after (map_at c.args.self.now c.args.root.now) c.args.changes.now in
    let with_news = root_with hash read c.self.inside.roots.keys c.self.inside.empty c.args.root.now c.in_ok-root.root c.args.changes.now c.args.self.now
    c.new-news.result.items news c.self.invariant c.self.view_is c.requires.known c.changed_root.ensures.addresses c.new-news.ensures.items c.in_ok-root.ensures.changes in
    let named = news_named hash read c.self.inside.empty c.args.root.now c.in_ok-root.root c.args.changes.now c.new-news.result.items news
    c.new-news.ensures.items c.in_ok-root.ensures.changes in
    let prepared : Preparation = record { root = c.in_ok-root.root; news = c.from_vec.result } in
    subst (λ s. IsPreparedFor hash s m prepared) c.self.view_is
    (prepared_for hash read c.self.inside.roots.keys c.self.inside.empty c.self.invariant m c.in_ok-root.root news named with_news prepared refl
    c.from_vec.ensures (subst (AreClear (read_at c.self.inside.tables)) c.deref.ensures.value c.in_ok-test_all.ensures.clear))
