-- Replies that differ in the index of a place that is not declared alone.
use Rattle.std.proofs.Common.{◌≡◌, ℕ, List, [], ◌∷◌, map, refl, sym, ap, ◌∙◌}
use Rattle.saw_messages.specs.declared.talk.Reply.{Reply}
use Rattle.saw_messages.specs.declared.talk.Reply.TheVariants.{Entries, Done, Unauthorized}
use Rattle.saw_messages.specs.declared.talk.Turn.{Turn}
use Rattle.saw_link.specs.Alike.{AreAlike, with_no_index}

abbrev pub Alike : List Reply → List Reply → Type 0
Alike [] [] = Unit {0}
Alike [] (y ∷ s) = ⊥
Alike (x ∷ r) [] = ⊥
Alike (x ∷ r) (y ∷ s) = (with_no_index x ≡ with_no_index y) × Alike r s

pub alike_replies : (turns others : List Turn) → AreAlike turns others → Alike (map (λ turn. turn.reply) turns) (map (λ turn. turn.reply) others)
alike_replies [] [] are = tt
alike_replies [] (other ∷ others) are = absurd are
alike_replies (turn ∷ turns) [] are = absurd are
alike_replies (turn ∷ turns) (other ∷ others) are = (are.0.1, alike_replies turns others are.1)

plain : {A : Type 0} (f : Reply → A) → ((i j : ℕ) → f (Unauthorized i) ≡ f (Unauthorized j)) → (x : Reply) → f x ≡ f (with_no_index x)
plain f any (Entries bodies) = refl
plain f any Done = refl
plain f any (Unauthorized index) = any index 0

-- what does not depend on the index is the same of both
pub reply_same : {A : Type 0} (f : Reply → A) → ((i j : ℕ) → f (Unauthorized i) ≡ f (Unauthorized j)) → (x y : Reply)
    → with_no_index x ≡ with_no_index y → f x ≡ f y
reply_same f any x y same = plain f any x ∙ ap f same ∙ sym (plain f any y)
