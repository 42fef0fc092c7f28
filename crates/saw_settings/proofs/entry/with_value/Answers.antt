use Rattle.std.proofs.Common.{◌∙◌, ap}
use Rattle.saw_settings.proofs.Places.{replaced, added}
use Rattle.saw_settings.proofs.entry.with_value.Goals as goal
use Rattle.saw_settings.proofs.entry.with_value.Goals.{in-Some, in-None+in_ok-push-in-None}

pub returns : goal.returns
returns c =
    elim c.match-place_of.branch [
      | in-Some w ↦ replaced c.args.key.now c.args.value.now c.in_ok-from_str.field-0 c.in_ok-from_str-2.field-0 c.args.entries
          c.into_vec-entries.result.items c.deref.result.now c.from_vec.result w.in-Some.place
          c.in_ok-from_str.ensures c.in_ok-from_str-2.ensures c.into_vec-entries.ensures c.deref.ensures.value w.in-Some.ensures
          (c.from_vec.ensures ∙ ap (λ v. v.items) w.entries-is)
      | in-None+in_ok-push-in-None w ↦ added c.args.key.now c.args.value.now c.in_ok-from_str.field-0 c.in_ok-from_str-2.field-0 c.args.entries
          c.into_vec-entries.result.items c.deref.result.now c.from_vec.result
          c.in_ok-from_str.ensures c.in_ok-from_str-2.ensures c.into_vec-entries.ensures c.deref.ensures.value w.in-None.ensures
          (c.from_vec.ensures ∙ ap (λ v. v.items) w.entries-is ∙ w.in_ok-push-in-None.ensures.items)
    ]
