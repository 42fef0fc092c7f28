use Rattle.std.proofs.Common.{◌≡◌, ◌<◌, ◌^◌, ℕ, Bool, not, true, false, List, [], length, vec_capacity, refl, sym, ap, subst, ◌∙◌, true≢false}
use Rattle.std.specs.Arc.{arc_value}
use Rattle.std.specs.Global.{Global}
use Rattle.std.specs.declared.sync.Arc.{Arc}
use Rattle.saw_messages.specs.declared.tx.Tx.{Tx}
use Rattle.saw_plan.specs.BatchShapes.{shapes_of, transactions_in, txs_of}
use Rattle.saw_plan.specs.Precedence.{all_txs}
use Rattle.saw_plan.specs.declared.plan.Plan.{Plan}
use Rattle.saw_ready.specs.Edges.{AreEarlier, AreEdges}
use Rattle.saw_schedule.specs.Histories.{begun, order_in, sizes_in, state_of}
use Rattle.saw_schedule.specs.Inside.{AreSlotsOf, IsScheduleOf}
use Rattle.saw_schedule.specs.Lasts.{IsNothing}
use Rattle.saw_schedule.specs.LookedUp.{do_read_whole}
use Rattle.saw_schedule.specs.Orders.{names_in}
use Rattle.saw_schedule.specs.Shows.{is_edge}
use Rattle.saw_schedule.specs.declared.step.Step.{Step}
use Rattle.saw_schedule.proofs.Beginning.{begun-schedule}
use Rattle.saw_schedule.proofs.schedule.Schedule.new.Goals as goal

wide-not : (b : Bool) → not b ≡ false → b ≡ true
wide-not true e = refl
wide-not false e = absurd (true≢false e)

pub invariant_of-result : goal.invariant_of-result
invariant_of-result c =
    let txs_are : shapes_of c.in_ok-txs.txs ≡ all_txs (txs_of (arc_value c.args.plan).batches) =
    subst (λ (p : Plan). shapes_of c.in_ok-txs.txs ≡ all_txs (txs_of p.batches)) c.deref.ensures c.in_ok-txs.ensures.txs in
    let count : length c.in_ok-txs.txs ≡ transactions_in (arc_value c.args.plan).batches =
    subst (λ (p : Plan). length c.in_ok-txs.txs ≡ transactions_in p.batches) c.deref.ensures c.in_ok-txs.ensures.count in
    let few : length c.in_ok-txs.txs < 2 ^ 32 = subst (λ (n : ℕ). n < 2 ^ 32) (sym count) c.requires in
    let are : AreSlotsOf (order_in (begun (arc_value c.args.plan))) (sizes_in (begun (arc_value c.args.plan))) (state_of (begun (arc_value c.args.plan))) [] c.in_ok-slots.slots =
    subst (λ (p : Plan). AreSlotsOf (order_in (begun p)) (sizes_in (begun p)) (state_of (begun p)) [] c.in_ok-slots.slots) c.deref-2.ensures c.in_ok-slots.ensures.slots in
    subst (λ (steps : List Step). IsScheduleOf (record { batches = (arc_value c.args.plan).batches; steps = steps }) c.in_ok-txs.txs c.in_ok-named.named
    c.in_ok-slots.slots (record { lists = c.in_ok-lasts.lasts.lists; layers = c.in_ok-lasts.lasts.layers; undone = c.begin.new.undone; wide = c.in_ok-lasts.lasts.wide; place = c.in_ok-lasts.lasts.place; change = c.in_ok-lasts.lasts.change }) (vec_capacity c.new-2.result)) (sym c.new-2.ensures.items)
    (begun-schedule (arc_value c.args.plan) c.in_ok-txs.txs c.in_ok-named.named c.in_ok-slots.slots c.in_ok-slots.slots (record { lists = c.in_ok-lasts.lasts.lists; layers = c.in_ok-lasts.lasts.layers; undone = c.begin.new.undone; wide = c.in_ok-lasts.lasts.wide; place = c.in_ok-lasts.lasts.place; change = c.in_ok-lasts.lasts.change }) c.in_ok-lasts.lasts.undone (vec_capacity c.new-2.result)
    txs_are few
    (subst (λ (xs : List (Arc Tx Global)). AreEdges c.in_ok-named.named (length xs)) c.as_slice.ensures c.in_ok-named.ensures.edges)
    (subst (λ (xs : List (Arc Tx Global)). AreEarlier c.in_ok-named.named (length xs)) c.as_slice.ensures c.in_ok-named.ensures.earlier)
    (subst (λ (xs : List (Arc Tx Global)). (i j : ℕ) → j < i → is_edge c.in_ok-named.named j i ≡ names_in (shapes_of xs) i j) c.as_slice.ensures c.in_ok-named.ensures.names)
    are c.in_ok-slots.ensures.idle
    (subst (λ (n : ℕ). IsNothing n c.in_ok-lasts.lasts) c.len.ensures c.in_ok-lasts.ensures.nothing) c.in_ok-slots.ensures.undone
    (λ narrow. subst (λ (xs : List (Arc Tx Global)). do_read_whole xs ≡ true) c.as_slice-2.ensures (wide-not (do_read_whole c.as_slice-2.result.now) (ap not (sym c.do_read_whole-wide.ensures) ∙ (sym c.in_ok-lasts.ensures.wide ∙ narrow)))))

pub named-requires : goal.named-requires
named-requires c =
    let count : length c.in_ok-txs.txs ≡ transactions_in (arc_value c.args.plan).batches =
    subst (λ (p : Plan). length c.in_ok-txs.txs ≡ transactions_in p.batches) c.deref.ensures c.in_ok-txs.ensures.count in
    record { few = subst (λ (xs : List (Arc Tx Global)). length xs < 2 ^ 32) (sym c.as_slice.ensures) (subst (λ (n : ℕ). n < 2 ^ 32) (sym count) c.requires) }

pub begin-requires-clause-few : goal.begin-requires-clause-few
begin-requires-clause-few c =
    let count : length c.in_ok-txs.txs ≡ transactions_in (arc_value c.args.plan).batches =
    subst (λ (p : Plan). length c.in_ok-txs.txs ≡ transactions_in p.batches) c.deref.ensures c.in_ok-txs.ensures.count in
    subst (λ (xs : List (Arc Tx Global)). length xs < 2 ^ 32) (sym c.as_slice-3.ensures) (subst (λ (n : ℕ). n < 2 ^ 32) (sym count) c.requires)

pub begin-requires-clause-edges : goal.begin-requires-clause-edges
begin-requires-clause-edges c =
    subst (λ (xs : List (Arc Tx Global)). AreEdges c.in_ok-named.named (length xs)) (c.as_slice.ensures ∙ sym c.as_slice-3.ensures) c.in_ok-named.ensures.edges

pub begin-requires-clause-earlier : goal.begin-requires-clause-earlier
begin-requires-clause-earlier c =
    subst (λ (xs : List (Arc Tx Global)). AreEarlier c.in_ok-named.named (length xs)) (c.as_slice.ensures ∙ sym c.as_slice-3.ensures) c.in_ok-named.ensures.earlier

pub begin-requires-clause-names : goal.begin-requires-clause-names
begin-requires-clause-names c =
    subst (λ (xs : List (Arc Tx Global)). (i j : ℕ) → j < i → is_edge c.in_ok-named.named j i ≡ names_in (shapes_of xs) i j)
    (c.as_slice.ensures ∙ sym c.as_slice-3.ensures) c.in_ok-named.ensures.names

pub begin-requires-clause-are : goal.begin-requires-clause-are
begin-requires-clause-are c =
    ap (λ (xs : List (Arc Tx Global)). shapes_of xs) c.as_slice-3.ensures
    ∙ subst (λ (p : Plan). shapes_of c.in_ok-txs.txs ≡ all_txs (txs_of p.batches)) (c.deref.ensures ∙ sym c.deref-2.ensures) c.in_ok-txs.ensures.txs

pub begin-requires-clause-count : goal.begin-requires-clause-count
begin-requires-clause-count c =
    ap (λ (xs : List (Arc Tx Global)). length xs) c.as_slice-3.ensures
    ∙ subst (λ (p : Plan). length c.in_ok-txs.txs ≡ transactions_in p.batches) (c.deref.ensures ∙ sym c.deref-2.ensures) c.in_ok-txs.ensures.count

pub begin-requires-clause-long : goal.begin-requires-clause-long
begin-requires-clause-long c = c.in_ok-lasts.ensures.nothing.long ∙ (c.len.ensures ∙ sym (ap (λ (xs : List (Arc Tx Global)). length xs) c.as_slice-3.ensures))

pub begin-requires-clause-empty : goal.begin-requires-clause-empty
begin-requires-clause-empty c = c.in_ok-lasts.ensures.nothing.idle

pub returns : goal.returns
returns c = ap (λ (steps : List Step). record { batches = (arc_value c.args.plan).batches; steps = steps }) c.new-2.ensures.items
