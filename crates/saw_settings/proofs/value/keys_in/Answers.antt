use Rattle.std.proofs.Common.{◌∙◌, ap, rules, tests, map}
use Rattle.std.specs.Prelude.{filter, not, length, ◌==◌}
use Rattle.std.proofs.lemmas.Iterator.Consumers.{YieldsList-end}
use Rattle.std.proofs.lemmas.Iterator.Splits.{YieldsList-from_slice_split}
use Rattle.saw_settings.specs.Values.{trimmed}
use Rattle.saw_settings.proofs.value.keys_in.Goals as goal

pub returns : goal.returns
returns c =
    let l = c.loop-part in
    let gives = c.into_iter-part-iterator.ensures.into_iter_gives in
    let split = c.split-part-items.ensures in
    let rest = ap (λ s. s.rest.now) gives ∙ split.rest ∙ c.as_bytes.ensures.value in
    let done = ap (λ s. s.done) gives ∙ split.done in
    let closure = ap (λ s. s.pred) gives ∙ split.closure in
    let all = YieldsList-end (YieldsList-from_slice_split {s = c.into_iter-part-iterator.result} _ (λ b. b == 44) c.args.text.now rest done closure
    (λ x r q k. search (rules, tests))) l.yielded l.part-iterator l.yielded_by c.next.result c.next.new.self c.in-None.is c.next.ensures.steps in
    l.invariant ∙ ap (λ ts. filter (λ key. not (length key == 0)) (map trimmed ts)) all.0
