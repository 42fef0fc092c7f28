use Rattle.std.proofs.Common.{◌≡◌, ◌<◌, ◌+◌, ℕ, Bool, false, List, Some, length, length-set, set, refl, sym, ap, subst, ◌∙◌, arith}
use Rattle.saw_ready.specs.Sets.{IsNext, NoneIn}
use Rattle.saw_schedule.specs.Layering.{IsChangedBy}
use Rattle.saw_schedule.specs.Places.{place_by, place_in}
use Rattle.std.proofs.lemmas.Option.{slice_get_read}
use Rattle.saw_schedule.proofs.Refreshing.{gone-through, none-before}
use Rattle.saw_schedule.proofs.lasts.Lasts.refresh.Goals as goal

pub loop-k-preserved : goal.loop-k-preserved
loop-k-preserved c =
    let l = c.loop-k in
    let k = c.in-Some.k in
    let next : IsNext l.self.undone l.from (length l.self.undone) (Some k) = c.in-Some.ensures.next in
    let by = c.refresh_by.new.self in
    let same : by.undone ≡ l.self.undone = c.refresh_by.ensures.stays.1 ∙ c.next_from.ensures.same in
    let inside : k < length l.self.undone = next.1 in
    let inner : k < length by.undone = subst (λ (flags : List Bool). k < length flags) (sym same) inside in
    let place : place_in c.args.slots.now.kept.items k ≡ c.index.result.now.place =
    ap place_by (slice_get_read c.args.slots.now.kept.items (length c.args.slots.now.kept.items) k c.index.result.now refl
    (let long = c.requires.long in let all = l.invariant.0.idle.long in omega (arith, inside, long, all)) c.index.ensures) in (
      gone-through c.args.steps.now c.args.slots.now by
          (record { lists = by.lists; layers = by.layers; undone = c.remove.new.self; wide = by.wide; place = by.place; change = by.change }) k c.refresh_by.ensures.so inner
          (λ at changed. c.in_ok-refresh_by.ensures.right at (subst (λ (p : ℕ). IsChangedBy c.args.steps.now p at) place changed)) refl refl c.remove.ensures refl refl refl,
      subst (λ (flags : List Bool). NoneIn flags 0 (k + 1)) (sym (c.remove.ensures ∙ ap (λ (flags : List Bool). set flags k false) same))
          (none-before l.self.undone l.from k l.invariant.1 next.3 inside),
      rw (c.remove.ensures, length-set by.undone k false) (omega (arith, inner)),
      (c.refresh_by.ensures.stays.0 ∙ l.invariant.3.0, c.refresh_by.ensures.wide ∙ l.invariant.3.1),
      ap (λ (flags : List Bool). length flags) c.remove.ensures ∙ (length-set by.undone k false ∙ (ap (λ (flags : List Bool). length flags) same ∙ l.invariant.4)),
    )
