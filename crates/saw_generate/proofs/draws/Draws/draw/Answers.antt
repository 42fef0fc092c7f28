use Rattle.std.proofs.Common.{◌≡◌, suc, ◌+◌, ◌/◌, ◌^◌, ap, ◌∙◌, arith}
use Rattle.saw_generate.specs.Draws.{next_state, state_after}
use Rattle.saw_generate.proofs.draws.Draws.draw.Goals as goal

pub returns : goal.returns
unfolding state_after
returns c start place is =
    let e = c.next_state-self.ensures ∙ ap next_state is in
    let more : suc place ≡ place + 1 = omega arith in
    (ap (λ n. n / 2 ^ 33) e, e ∙ ap (λ n. state_after start n) more)
