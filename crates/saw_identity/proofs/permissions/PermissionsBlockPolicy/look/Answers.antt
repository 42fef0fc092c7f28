use Rattle.std.proofs.Common.{map, option_copied, sym, ap, ◌∙◌}
use Rattle.std.specs.Arc.{arc_value}
use Rattle.saw_messages.specs.TxShapes.{BatchShape}
use Rattle.saw_identity.proofs.Rulings.{denied_here, fault_in_txs, family_ruling, permitted_here}
use Rattle.saw_identity.proofs.permissions.PermissionsBlockPolicy.look.Goals.{in-Permitted, in-Unread+in_ok-name-in-Unread+in_ok-role-in-Unread+in_ok-own-in-Unread+in_ok-fault-in-Unread+in_default-2}
use Rattle.saw_identity.proofs.permissions.PermissionsBlockPolicy.look.Goals as goal

pub returns-in-Denied-clause-fault : goal.returns-in-Denied-clause-fault
returns-in-Denied-clause-fault g c = λ signer before stands.
    let m = g.B.Base.entry c.args.parent.now in
    let raw = c.as_slice-txs.result.now in
    let far = c.loop-t.invariant stands in
    let told = rw c.in-Denied.is at (c.in_ok-judge_known.ensures.told m far.holds) in
    fault_in_txs m signer before c.args.batch.now _ (map arc_value raw) _
    (ap (λ (batch : BatchShape). batch.signer) c.batch.view_is)
    (ap (map arc_value) c.as_slice-txs.ensures ∙ ap (λ (batch : BatchShape). batch.txs) c.batch.view_is)
    (sym (c.in_ok-fault.ensures.fault m stands) ∙ c.in_default.is)
    (denied_here m arc_value raw c.loop-t.t c.index-txs-t.result c.deref.result.now c.loop-t-test.true c.index-txs-t.is c.deref.ensures far.so_far
    c.in-Denied.fault told)

pub returns-in-Some-2-clause-fault : goal.returns-in-Some-2-clause-fault
returns-in-Some-2-clause-fault g c = λ signer before stands.
    let m = g.B.Base.entry c.args.parent.now in
    let raw = c.as_slice-txs.result.now in
    let far = c.loop-t.invariant stands in
    let own = family_ruling m _ _ _ c.role_address.result (option_copied c.get-found.result) c.in_ok-role-in-Unread.role c.in_ok-own-in-Unread.own
    c.deref-in-Unread.result.now c.deref-in-Unread-2.result.now c.in_ok-name-in-Unread.ensures c.as_str.ensures.value
    c.as_str-in-Unread.ensures.value c.role_address.ensures c.get-found.ensures c.in_ok-role-in-Unread.ensures
    (c.in_ok-own-in-Unread.ensures m (rw c.policy_at.ensures at c.get.ensures)) (c.deref-in-Unread.ensures ∙ sym c.deref-in-Unread-2.ensures) in
    let told = c.in_ok-fault-in-Unread.ensures.fault m (c.in_ok-judge_known.ensures.ok m far.holds) own in
    fault_in_txs m signer before c.args.batch.now _ (map arc_value raw) _
    (ap (λ (batch : BatchShape). batch.signer) c.batch.view_is)
    (ap (map arc_value) c.as_slice-txs.ensures ∙ ap (λ (batch : BatchShape). batch.txs) c.batch.view_is)
    (sym (c.in_ok-fault.ensures.fault m stands) ∙ c.in_default.is)
    (denied_here m arc_value raw c.loop-t.t c.index-txs-t.result c.deref-in-Unread-2.result.now c.loop-t-test.true c.index-txs-t.is
    c.deref-in-Unread-2.ensures far.so_far c.in-Some-2.fault (sym told ∙ c.in-Some-2.is))

pub returns-in-Some-2-clause-stays : goal.returns-in-Some-2-clause-stays
returns-in-Some-2-clause-stays g c = λ signer before stands.
    let m = g.B.Base.entry c.args.parent.now in
    let own = family_ruling m _ _ _ c.role_address.result (option_copied c.get-found.result) c.in_ok-role-in-Unread.role c.in_ok-own-in-Unread.own
    c.deref-in-Unread.result.now c.deref-in-Unread-2.result.now c.in_ok-name-in-Unread.ensures c.as_str.ensures.value
    c.as_str-in-Unread.ensures.value c.role_address.ensures c.get-found.ensures c.in_ok-role-in-Unread.ensures
    (c.in_ok-own-in-Unread.ensures m (rw c.policy_at.ensures at c.get.ensures)) (c.deref-in-Unread.ensures ∙ sym c.deref-in-Unread-2.ensures) in
    c.in_ok-fault-in-Unread.ensures.ok m (c.in_ok-judge_known.ensures.ok m (c.loop-t.invariant stands).holds) own

pub loop-t-preserved : goal.loop-t-preserved
loop-t-preserved g c = λ stands.
    let m = g.B.Base.entry c.args.parent.now in
    let raw = c.as_slice-txs.result.now in
    let far = c.loop-t.invariant stands in
    elim c.match-branch-4.branch [
      | in-Permitted w ↦
          (let none = rw w.in-Permitted.is at (c.in_ok-judge_known.ensures.told m far.holds) in
          record {
            holds = rw w.self-is (c.in_ok-judge_known.ensures.ok m far.holds);
            so_far = permitted_here m arc_value raw c.loop-t.t c.index-txs-t.result c.deref.result.now c.loop-t-test.true c.index-txs-t.is c.deref.ensures
                far.so_far none;
          })
      | in-Unread+in_ok-name-in-Unread+in_ok-role-in-Unread+in_ok-own-in-Unread+in_ok-fault-in-Unread+in_default-2 w ↦
          (let own = family_ruling m _ _ _ w.role_address.result (option_copied w.get-found.result) w.in_ok-role-in-Unread.role w.in_ok-own-in-Unread.own
          w.deref-in-Unread.result.now w.deref-in-Unread-2.result.now w.in_ok-name-in-Unread.ensures w.as_str.ensures.value
          w.as_str-in-Unread.ensures.value w.role_address.ensures w.get-found.ensures w.in_ok-role-in-Unread.ensures
          (w.in_ok-own-in-Unread.ensures m (rw w.policy_at.ensures at w.get.ensures)) (w.deref-in-Unread.ensures ∙ sym w.deref-in-Unread-2.ensures) in
          let holds = c.in_ok-judge_known.ensures.ok m far.holds in
          record {
            holds = rw w.self-is (w.in_ok-fault-in-Unread.ensures.ok m holds own);
            so_far = permitted_here m arc_value raw c.loop-t.t c.index-txs-t.result w.deref-in-Unread-2.result.now c.loop-t-test.true c.index-txs-t.is
                w.deref-in-Unread-2.ensures far.so_far (sym (w.in_ok-fault-in-Unread.ensures.fault m holds own) ∙ w.in_default-2.is);
          })
    ]
