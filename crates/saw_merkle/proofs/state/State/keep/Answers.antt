use Rattle.std.proofs.Common.{ap, subst, sym, refl, ◌∙◌}
use Rattle.std.proofs.Math.Path.{fun_ext}
use Rattle.std.proofs.lemmas.Result.{err_from_is_err_and}
use Rattle.saw_context.specs.Outcome.{map_after}
use Rattle.saw_runs.specs.Entries.{AreNamed}
use Rattle.saw_runs.specs.Keeping.{AddsPieces, AreClear}
use Rattle.saw_runs.specs.Readings.{read_at}
use Rattle.saw_merkle.specs.Clashes.{IsPreparedFor}
use Rattle.saw_merkle.specs.Inside.{IsSound, states_of}
use Rattle.saw_merkle.specs.Preparations.{Preparation}
use Rattle.saw_merkle.specs.States.{map_at}
use Rattle.saw_merkle.proofs.Sound.{clear_prepared, sound_same, states_same, updated}
use Rattle.saw_merkle.proofs.state.State.keep.Goals as goal

pub join-requires-clause-named : goal.join-requires-clause-named
join-requires-clause-named g c = λ κs alive.
    subst (AreNamed g.H.NodeHasher.hash_of) (sym c.into_vec.ensures)
    (subst (IsPreparedFor g.H.NodeHasher.hash_of c.args.self.now _) (sym c.prepared.view_is) c.requires.prepared).named

pub join-requires-clause-clear : goal.join-requires-clause-clear
join-requires-clause-clear g c = λ κs alive.
    let hash = g.H.NodeHasher.hash_of in
    let prepared : Preparation = record { root = c.prepared.inside.root; news = c.prepared.inside.news } in
    let m = map_after (map_at c.args.self.now c.args.root.now) c.args.changes.now in
    let ready = subst (IsPreparedFor hash c.args.self.now m) (sym c.prepared.view_is) c.requires.prepared in
    subst (AreClear (read_at c.self.inside.tables)) (sym c.into_vec.ensures)
    (clear_prepared hash (read_at c.self.inside.tables) c.self.inside.roots.keys c.self.inside.empty c.self.invariant m prepared.root prepared.news prepared
    (subst (λ s. IsPreparedFor hash s m prepared) (sym c.self.view_is) ready) refl refl)

pub invariant_of-self : goal.invariant_of-self
invariant_of-self g c =
    let hash = g.H.NodeHasher.hash_of in
    subst (λ read. IsSound hash read c.join.new.roots.keys c.self.inside.empty) (sym (fun_ext c.in_err-join.ensures.err_tables))
    (sound_same hash (read_at c.self.inside.tables) c.self.inside.roots.keys c.join.new.roots.keys c.self.inside.empty
    c.in_err-join.ensures.err_roots c.self.invariant)

pub returns-in_err-join-clause-err : goal.returns-in_err-join-clause-err
returns-in_err-join-clause-err g c =
    let p = err_from_is_err_and c.from_residual.result c.from_residual.ensures.1 in
    rw p.1
    (ap (λ read. states_of read c.join.new.roots.keys) (fun_ext c.in_err-join.ensures.err_tables)
    ∙ states_same (read_at c.self.inside.tables) c.self.inside.roots.keys c.join.new.roots.keys c.in_err-join.ensures.err_roots ∙ c.self.view_is)

pub invariant_of-self-2 : goal.invariant_of-self-2
invariant_of-self-2 g c =
    let hash = g.H.NodeHasher.hash_of in
    let prepared : Preparation = record { root = c.prepared.inside.root; news = c.prepared.inside.news } in
    let all = updated hash (read_at c.self.inside.tables) (read_at c.join.new.tables) c.self.inside.roots.keys c.join.new.roots.keys c.self.inside.empty
    c.args.root.now c.args.changes.now c.args.self.now prepared c.self.invariant c.self.view_is c.requires.known
    (subst (IsPreparedFor hash c.args.self.now _) (sym c.prepared.view_is) c.requires.prepared)
    (subst (AddsPieces (read_at c.self.inside.tables) (read_at c.join.new.tables)) c.into_vec.ensures c.in_ok-join.ensures.tables) c.in_ok-join.ensures.roots in
    all.sound

pub returns-clause-ok : goal.returns-clause-ok
returns-clause-ok g c =
    let hash = g.H.NodeHasher.hash_of in
    let prepared : Preparation = record { root = c.prepared.inside.root; news = c.prepared.inside.news } in
    let all = updated hash (read_at c.self.inside.tables) (read_at c.join.new.tables) c.self.inside.roots.keys c.join.new.roots.keys c.self.inside.empty
    c.args.root.now c.args.changes.now c.args.self.now prepared c.self.invariant c.self.view_is c.requires.known
    (subst (IsPreparedFor hash c.args.self.now _) (sym c.prepared.view_is) c.requires.prepared)
    (subst (AddsPieces (read_at c.self.inside.tables) (read_at c.join.new.tables)) c.into_vec.ensures c.in_ok-join.ensures.tables) c.in_ok-join.ensures.roots in
    all.updates
