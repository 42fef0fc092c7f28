use Rattle.std.proofs.Common.{◌≡◌, ℕ, Bool, false, List, [], ◌∷◌, ◌++◌, length, Some, refl, sym, ap, ◌∙◌}
use Rattle.saw_link.specs.declared.passed.Passed.TheVariants.{Received}
use Rattle.saw_tpside.specs.FamilyPeers.{is_above}
use Rattle.saw_tpside.proofs.Coming.{has_ended, has_said, may_be_said}
use Rattle.saw_tpside.proofs.talking.speak.Goals as goal

pub returns-in_default-clause-come : goal.returns-in_default-clause-come
returns-in_default-clause-come c =
    has_ended c.args.passed.now.items c.push.new.self.items c.args.serving.now c.args.serving.now c.in_ok-push.ensures.items refl

pub returns-clause-come : goal.returns-clause-come
returns-clause-come c =
    let frame = c.in-Some.frame.items in
    let short : is_above c.args.serving.now (length frame) ≡ false =
    ap (λ (x : List ℕ). is_above c.args.serving.now (length x)) (sym c.deref.ensures.value) ∙ sym c.is_above.ensures ∙ c.if-is_above.false in
    has_said c.args.passed.now.items frame c.push-2.new.self.items c.args.serving.now c.go_on.new.serving
    (sym (rw c.in-Some.is at c.in_ok-frame.ensures.value))
    (c.in_ok-push-2.ensures.items ∙ ap (λ (x : List ℕ). c.args.passed.now.items ++ Received x ∷ []) (c.in_ok-kept.ensures ∙ c.deref-2.ensures.value))
    c.go_on.ensures short (rw c.in-Some.is at c.in_ok-frame.ensures.understood)

pub returns-clause-obeys : goal.returns-clause-obeys
returns-clause-obeys c =
    let frame = c.in-Some.frame.items in
    let short : is_above c.args.serving.now (length frame) ≡ false =
    ap (λ (x : List ℕ). is_above c.args.serving.now (length x)) (sym c.deref.ensures.value) ∙ sym c.is_above.ensures ∙ c.if-is_above.false in
    may_be_said c.args.passed.now.items frame c.args.serving.now (sym (rw c.in-Some.is at c.in_ok-frame.ensures.value)) short
    (rw c.in-Some.is at c.in_ok-frame.ensures.understood)
