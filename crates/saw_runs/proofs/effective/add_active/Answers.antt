use Rattle.std.proofs.Common.{◌≡◌, ◌+◌, ◌∷◌, [], ◌++◌, drop, sym, ap, ◌∙◌, subst}
use Rattle.saw_context.proofs.Each.{all_append}
use Rattle.saw_messages.specs.declared.outcome.Change.{Change}
use Rattle.saw_runs.specs.Idle.{AreActive, IsActive, StandsFor}
use Rattle.saw_runs.specs.Readings.{read_at}
use Rattle.saw_runs.proofs.Skipping.{one_skipped, one_taken}
use Rattle.saw_runs.proofs.effective.add_active.Goals.{then-not-is_idle+in_ok-try_clone+in_ok-push, else-not-is_idle}
use Rattle.saw_runs.proofs.effective.add_active.Goals as goal

pub loop-change-preserved : goal.loop-change-preserved
loop-change-preserved g c =
    let l = c.loop-change in
    let here = c.change-item.result in
    let all = c.args.left.now.items ++ c.args.changes.now in
    elim c.if-not-is_idle.branch [
      | then-not-is_idle+in_ok-try_clone+in_ok-push w ↦
          let is : c.if-not-is_idle.left.items ≡ l.left.items ++ here ∷ [] =
          ap (λ v. v.items) w.left-is ∙ w.in_ok-push.ensures.items ∙ ap (λ (x : Change). l.left.items ++ x ∷ []) w.in_ok-try_clone.ensures in
          record {
            stands = one_taken (read_at c.args.tables.now) c.args.root.now l.left.items c.args.changes.now all l.change-index here c.change-item.is
                c.loop-change-test.true l.invariant.stands c.if-not-is_idle.left.items is;
            active = subst (AreActive (read_at c.args.tables.now) c.args.root.now) (sym is)
                (all_append (IsActive (read_at c.args.tables.now) c.args.root.now) l.left.items (here ∷ []) l.invariant.active
                (c.is_idle.ensures.active w.if-not-is_idle.true, tt));
          }
      | else-not-is_idle w ↦
          let is : c.if-not-is_idle.left.items ≡ l.left.items = ap (λ v. v.items) w.left-is in
          record {
            stands = subst (λ xs. StandsFor (read_at c.args.tables.now) c.args.root.now (xs ++ drop (l.change-index + 1) c.args.changes.now) all) (sym is)
                (one_skipped (read_at c.args.tables.now) c.args.root.now l.left.items c.args.changes.now all l.change-index here c.change-item.is
                c.loop-change-test.true l.invariant.stands (c.is_idle.ensures.idle w.if-not-is_idle.false));
            active = subst (AreActive (read_at c.args.tables.now) c.args.root.now) (sym is) l.invariant.active;
          }
    ]
