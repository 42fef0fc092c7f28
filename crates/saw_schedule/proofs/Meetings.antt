-- Transactions whose declared texts cover one address meet.
use Rattle.std.proofs.Common.{◌≡◌, ◌≤◌, ℕ, Bool, true, false, ◌&&◌, ◌||◌, List, [], ◌∷◌, length, take, Option, Some, None, slice_get, refl, sym, ap, ◌∙◌, arith, ◌⊎◌, inl, inr, true≢false}
use Rattle.std.proofs.lemmas.List.{take-take}
use Rattle.std.proofs.lemmas.Slice.Eq.{bytes_eq-Decides}
use Rattle.std.specs.List.{list_any}
use Rattle.saw_address.specs.Prefixes.{covers, overlaps}
use Rattle.saw_address.specs.Texts.{is_prefix_text}
use Rattle.saw_messages.specs.TxShapes.{TxShape}
use Rattle.saw_context.specs.Conversation.{are_covering, text_covers}
use Rattle.saw_machine.specs.Orders.{AreMeetings}
use Rattle.saw_plan.specs.Precedence.{comes_before, on_tx, precedes_in, some_overlap, texts_overlap}
use Rattle.saw_schedule.specs.Orders.{names_in, order_of}

pub and-left : (a b : Bool) → (a && b) ≡ true → a ≡ true
and-left true b e = refl
and-left false b e = e

pub and-right : (a b : Bool) → (a && b) ≡ true → b ≡ true
and-right true b e = e
and-right false b e = absurd (true≢false (sym e))

pub or-right : (a b : Bool) → b ≡ true → (a || b) ≡ true
or-right true b e = refl
or-right false b e = e

pub or-left : (a b : Bool) → a ≡ true → (a || b) ≡ true
or-left a b e = rw e refl

le-or : (a b : ℕ) → (a ≤ b) ⊎ (b ≤ a)
le-or a b = grind arith

take-covers : (prefix whole : List ℕ) → covers prefix whole ≡ true → take (length prefix) whole ≡ prefix
take-covers prefix whole h = sym ((bytes_eq-Decides prefix (take (length prefix) whole)).0 h)

covers-take : (prefix whole : List ℕ) → take (length prefix) whole ≡ prefix → covers prefix whole ≡ true
covers-take prefix whole e = (bytes_eq-Decides prefix (take (length prefix) whole)).1 (sym e)

-- of two lists that begin one list, one begins the other
both-begin : (s t whole : List ℕ) → covers s whole ≡ true → covers t whole ≡ true → overlaps s t ≡ true
both-begin s t whole a b = elim (le-or (length s) (length t)) [
  | inl short ↦ or-left (covers s t) (covers t s) (covers-take s t (sym (ap (take (length s)) (take-covers t whole b)) ∙ (take-take (length s) (length t) whole short ∙ take-covers s whole a)))
  | inr short ↦ or-right (covers s t) (covers t s) (covers-take t s (sym (ap (take (length t)) (take-covers s whole a)) ∙ (take-take (length t) (length s) whole short ∙ take-covers t whole b)))
]

texts-meet : (s t at : List ℕ) → text_covers s at ≡ true → text_covers t at ≡ true → texts_overlap s t ≡ true
texts-meet s t at a b =
    let p : is_prefix_text s ≡ true = and-left (is_prefix_text s) _ a in
    let q : is_prefix_text t ≡ true = and-left (is_prefix_text t) _ b in
    rw (p, q) (both-begin s t _ (and-right (is_prefix_text s) _ a) (and-right (is_prefix_text t) _ b))

one-meets : (s at : List ℕ) (others : List (List ℕ)) → text_covers s at ≡ true → are_covering others at ≡ true → list_any (λ other. texts_overlap s other) others ≡ true
one-meets s at [] a b = absurd (true≢false (sym b))
one-meets s at (t ∷ others) a b = go (text_covers t at) refl (one-meets s at others a)
  where
    go : (c : Bool) → text_covers t at ≡ c → (are_covering others at ≡ true → list_any (λ other. texts_overlap s other) others ≡ true)
        → list_any (λ other. texts_overlap s other) (t ∷ others) ≡ true
    go true e more = or-left _ _ (texts-meet s t at a e)
    go false e more = or-right (texts_overlap s t) _ (more (rw e at b))

pub all-meet : (texts others : List (List ℕ)) (at : List ℕ) → are_covering texts at ≡ true → are_covering others at ≡ true → some_overlap texts others ≡ true
all-meet [] others at a b = absurd (true≢false (sym a))
all-meet (s ∷ texts) others at a b = go (text_covers s at) refl (λ more. all-meet texts others at more b)
  where
    go : (c : Bool) → text_covers s at ≡ c → (are_covering texts at ≡ true → some_overlap texts others ≡ true) → some_overlap (s ∷ texts) others ≡ true
    go true e more = or-left _ _ (one-meets s at others e b)
    go false e more = or-right (list_any (λ other. texts_overlap s other) others) _ (more (rw e at a))

-- ---- transactions by number

module _ (txs : List TxShape) where
  by-both : (j i : ℕ) (p q : TxShape → Bool) → on_tx (slice_get txs j) p ≡ true → on_tx (slice_get txs i) q ≡ true
      → ((s t : TxShape) → p s ≡ true → q t ≡ true → comes_before s t ≡ true) → precedes_in txs j i ≡ true
  by-both j i p q a b before = go (slice_get txs j) refl (slice_get txs i) refl
    where
      go : (s : Option TxShape) → slice_get txs j ≡ s → (t : Option TxShape) → slice_get txs i ≡ t → precedes_in txs j i ≡ true
      go None e t f = absurd (true≢false (sym (rw e at a)))
      go (Some s) e None f = absurd (true≢false (sym (rw f at b)))
      go (Some s) e (Some t) f = rw (e, f) (before s t (rw e at a) (rw f at b))

  names-precede : (j i : ℕ) → names_in txs i j ≡ true → precedes_in txs j i ≡ true
  names-precede j i e = go (slice_get txs j) refl (slice_get txs i) refl
    where
      go : (s : Option TxShape) → slice_get txs j ≡ s → (t : Option TxShape) → slice_get txs i ≡ t → precedes_in txs j i ≡ true
      go s a None b = absurd (true≢false (sym (rw b at e)))
      go None a (Some t) b = absurd (true≢false (sym (rw (b, a) at e)))
      go (Some s) a (Some t) b =
          rw (a, b) (or-right (some_overlap s.header.outputs t.header.inputs) _ (or-right (some_overlap s.header.outputs t.header.outputs) _
          (or-right (some_overlap s.header.inputs t.header.outputs) _ (rw (b, a) at e))))

  pub meetings : AreMeetings (order_of txs)
  meetings = record {
    named = λ j i l e. names-precede j i e;
    written = λ j i at l a b. by-both j i _ _ a b (λ s t p q. or-left _ _ (all-meet s.header.outputs t.header.inputs at p q));
    read = λ j i at l a b. by-both j i _ _ a b (λ s t p q.
        or-right (some_overlap s.header.outputs t.header.inputs) _ (or-right (some_overlap s.header.outputs t.header.outputs) _ (or-left _ _ (all-meet s.header.inputs t.header.outputs at p q))));
    rewritten = λ j i at l a b. by-both j i _ _ a b (λ s t p q. or-right (some_overlap s.header.outputs t.header.inputs) _ (or-left _ _ (all-meet s.header.outputs t.header.outputs at p q)));
  }
