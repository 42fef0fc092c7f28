use Rattle.std.proofs.Common.{◌≡◌, ◌⊎◌, length, inl, inr, sym, ◌∙◌}
use Rattle.std.specs.Iterator.Adapters.{zip_first, zip_second}
use Rattle.std.specs.Slice.Iter.{iter_rest}
use Rattle.std.specs.Vec.Iter.{into_iter_items}
use Rattle.saw_publish.proofs.Judged.{stay_ended}
use Rattle.saw_publish.proofs.judge.staying.Goals as goal

pub returns : goal.returns
returns g c =
    let fates = iter_rest (zip_first c.loop-fate.fate-iterator) in
    let others = into_iter_items (zip_second c.loop-fate.fate-iterator) in
    let none : (length fates ≡ 0) ⊎ (length others ≡ 0) = elim c.in-None.ensures.steps [ inl ended ↦ inl ended.1.0 | inr ended ↦ inr (sym (zip_second c.loop-fate.fate-iterator).rest.ok.0 ∙ ended.1.0) ] in
    stay_ended c.loop-fate.kept _ fates others none c.loop-fate.invariant
