-- Whole addresses, looked up one by one.
use Rattle.std.proofs.Common.{◌≡◌, ◌≢◌, ◌*◌, ◌==◌, ◌&&◌, ◌||◌, ◌%◌, ℕ, nat_eq, nat_le, Bool, true, false, if◌then◌else◌, List, [], ◌∷◌, ◌++◌, length, filter, Option, None, refl, sym, ap, ◌∙◌, arith, ◌⊎◌, inl, inr, true≢false}
use Rattle.std.proofs.lemmas.Bool.{and_from, and_parts, eqb-true, eq-eqb}
use Rattle.std.proofs.lemmas.Slice.Eq.{bytes_eq-Decides}
use Rattle.std.specs.FinMap as finite
use Rattle.std.specs.List.{list_all, list_any}
use Rattle.std.specs.Str.{bytes_eq}
use Rattle.hex.specs.Hex.{encode_lower, encode_with}
use Rattle.saw_address.specs.Prefixes.{covers}
use Rattle.saw_address.specs.Texts.{is_address_text, is_hex_digit, is_prefix_text}
use Rattle.saw_context.specs.Conversation.{are_covering, text_covers}
use Rattle.saw_context.specs.Views.{layers_of}
use Rattle.saw_context.specs.declared.view.View.{View as Seen}
use Rattle.saw_context.specs.declared.view.ViewEntry.{ViewEntry}
use Rattle.saw_context.proofs.Views.{get-layers_of}
use Rattle.saw_machine.specs.Machine.{View}
use Rattle.saw_schedule.specs.Layering.{AreLastsOf}
use Rattle.saw_schedule.specs.LookedUp.{IsLookedUp, is_one_of}
use Rattle.saw_schedule.specs.Shown.{is_held_at, shown_at, shown_by}
use Rattle.saw_schedule.specs.declared.lasts.Lasts.{Lasts}
use Rattle.saw_schedule.specs.declared.slots.Slots.{Slots}
use Rattle.saw_schedule.specs.declared.step.Step.{Step}
use Rattle.saw_schedule.proofs.Lefts.{none-passes}
use Rattle.saw_schedule.proofs.Texts.{text-covers, text-covers-none}
use Rattle.saw_schedule.proofs.Undoing.{through}

-- ---- lists

any-append : (test : List ℕ → Bool) (xs ys : List (List ℕ)) → list_any test (xs ++ ys) ≡ (list_any test xs || list_any test ys)
any-append test [] ys = refl
any-append test (x ∷ xs) ys = go (any-append test xs ys) (test x)
  where
    go : list_any test (xs ++ ys) ≡ (list_any test xs || list_any test ys) → (b : Bool) → (b || list_any test (xs ++ ys)) ≡ ((b || list_any test xs) || list_any test ys)
    go more true = refl
    go more false = more

or-false : (b : Bool) → (b || false) ≡ b
or-false true = refl
or-false false = refl

-- one more at the end
pub any-push : (test : List ℕ → Bool) (xs : List (List ℕ)) (x : List ℕ) → list_any test (xs ++ x ∷ []) ≡ (list_any test xs || test x)
any-push test xs x = any-append test xs (x ∷ []) ∙ ap (λ (b : Bool). list_any test xs || b) (or-false (test x))

-- ---- whole prefixes

covers-itself : (at : List ℕ) → covers at at ≡ true
covers-itself [] = refl
covers-itself (x ∷ at) = and_from (nat_eq x x) (covers at at) (eq-eqb x x refl) (covers-itself at)

-- a prefix covers no other list of its length
covers-same : (prefix at : List ℕ) → covers prefix at ≡ true → length prefix ≡ length at → prefix ≡ at
covers-same [] [] e long = refl
covers-same [] (y ∷ at) e long = absurd (omega (arith, long))
covers-same (x ∷ prefix) [] e long = absurd (true≢false (sym e))
covers-same (x ∷ prefix) (y ∷ at) e long =
    let parts = and_parts (nat_eq x y) (covers prefix at) e in
    ap (λ (n : ℕ). n ∷ prefix) (eqb-true x y parts.0) ∙ ap (λ (rest : List ℕ). y ∷ rest) (covers-same prefix at parts.1 (omega (arith, long)))

length-encode : (bytes : List ℕ) → length (encode_lower bytes) ≡ 2 * length bytes
unfolding encode_with
length-encode [] = refl
length-encode (x ∷ bytes) = let more = length-encode bytes in omega (arith, more)

-- ---- texts that are long enough

-- the text of an address
pub is-prefix : (text : List ℕ) → is_address_text text ≡ true → is_prefix_text text ≡ true
is-prefix text is =
    let parts = and_parts (length text == 70) (list_all is_hex_digit text) is in
    let long : length text ≡ 70 = eqb-true (length text) 70 parts.0 in
    rw (long, parts.1) refl

-- no other one is a prefix
pub is-none : (text : List ℕ) → nat_le 70 (length text) ≡ true → is_address_text text ≡ false → is_prefix_text text ≡ false
is-none text long isnt = go (is_prefix_text text) refl
  where
    at-most : nat_le (length text) 70 ≡ true → length text ≡ 70
    at-most e = grind (arith, e, long)

    go : (b : Bool) → is_prefix_text text ≡ b → b ≡ false
    go false e = refl
    go true e =
        let one = and_parts (length text % 2 == 0 && nat_le (length text) 70) (list_all is_hex_digit text) e in
        let two = and_parts (length text % 2 == 0) (nat_le (length text) 70) one.0 in
        absurd (true≢false (sym (and_from (length text == 70) (list_all is_hex_digit text) (eq-eqb (length text) 70 (at-most two.1)) one.1) ∙ isnt))

-- ---- what is shown

-- nothing is shown but at whole addresses
pub shown-far : (steps : List Step) (slots : Slots) (lasts : Lasts) → AreLastsOf steps slots lasts → lasts.place ≡ length steps
    → (at : List ℕ) → length at ≢ 35 → shown_at steps slots at ≡ None
shown-far steps slots lasts so place at short =
    ap (shown_by steps) (none-passes (is_held_at steps slots) _
    (ap (filter (is_held_at steps slots)) (sym (through steps lasts.place lasts.change place at)) ∙ sym (so.are at) ∙ ap (filter (is_held_at steps slots)) (so.only at short)))

module _ (shown : View) (texts : List (List ℕ)) (view : Seen) (is : IsLookedUp shown texts view) where
  abbrev one_of : List ℕ → Bool
  one_of at = is_one_of view.inputs.items at

  covering-more : (text at : List ℕ) → are_covering (texts ++ text ∷ []) at ≡ (are_covering texts at || text_covers text at)
  covering-more text at = any-push (λ text. text_covers text at) texts text

  -- one text more, at whose address nothing is shown
  pub looked-past : (text : List ℕ) → ((at : List ℕ) → length at ≡ 35 → text_covers text at ≡ true → shown at ≡ None) → IsLookedUp shown (texts ++ text ∷ []) view
  looked-past text none = record {
    there = is.there;
    some = λ at e. let was = is.some at e in (was.0, covering-more text at ∙ rw was.1 refl);
    all = λ at long e. go at long (are_covering texts at) refl (sym (covering-more text at) ∙ e);
  }
    where
      go : (at : List ℕ) → length at ≡ 35 → (b : Bool) → are_covering texts at ≡ b → (are_covering texts at || text_covers text at) ≡ true → (one_of at ≡ true) ⊎ (shown at ≡ None)
      go at long true e either = is.all at long e
      go at long false e either = inr (none at long (rw e at either))

  -- one text more, at whose address something is shown
  pub looked-more : (text at prefix : List ℕ) (new : Seen) → length at ≡ 35 → ((q : List ℕ) → text_covers text q ≡ covers at q) → prefix ≡ at
      → ((q : List ℕ) → finite.get new.layers q ≡ (if bytes_eq at q then shown at else finite.get view.layers q)) → new.inputs.items ≡ view.inputs.items ++ prefix ∷ []
      → IsLookedUp shown (texts ++ text ∷ []) new
  looked-more text at prefix new long covered same layers inputs = record {
    there = λ q. there q (bytes_eq at q) refl;
    some = λ q e. some q (one_of q) refl (sym (now-one q) ∙ e);
    all = λ q whole e. all q whole (are_covering texts q) refl (sym (covering-more text q) ∙ e);
  }
    where
      now-one : (q : List ℕ) → is_one_of new.inputs.items q ≡ (one_of q || bytes_eq at q)
      now-one q = ap (λ (all : List (List ℕ)). is_one_of all q) inputs ∙ (any-push (λ prefix. bytes_eq prefix q) view.inputs.items prefix ∙ ap (λ (x : List ℕ). one_of q || bytes_eq x q) same)

      or-true : (b : Bool) → (b || true) ≡ true
      or-true true = refl
      or-true false = refl

      there : (q : List ℕ) (b : Bool) → bytes_eq at q ≡ b → finite.get new.layers q ≡ (if is_one_of new.inputs.items q then shown q else None)
      there q true e = layers q ∙ rw (e, now-one q, e, or-true (one_of q)) (ap shown ((bytes_eq-Decides at q).0 e))
      there q false e = layers q ∙ rw (e, now-one q, e, or-false (one_of q)) (is.there q)

      some : (q : List ℕ) (b : Bool) → one_of q ≡ b → (one_of q || bytes_eq at q) ≡ true → (length q ≡ 35) × (are_covering (texts ++ text ∷ []) q ≡ true)
      some q true e either = let was = is.some q e in (was.0, covering-more text q ∙ rw was.1 refl)
      some q false e either =
          let same_q : at ≡ q = (bytes_eq-Decides at q).0 (rw e at either) in (
            ap (λ (x : List ℕ). length x) (sym same_q) ∙ long,
            covering-more text q ∙ (ap (λ (b : Bool). are_covering texts q || b) (covered q ∙ (ap (covers at) (sym same_q) ∙ covers-itself at)) ∙ or-true (are_covering texts q)),
          )

      all : (q : List ℕ) → length q ≡ 35 → (b : Bool) → are_covering texts q ≡ b → (are_covering texts q || text_covers text q) ≡ true
          → (is_one_of new.inputs.items q ≡ true) ⊎ (shown q ≡ None)
      all q whole true e either = elim (is.all q whole e) [
        | inl there ↦ inl (now-one q ∙ rw there refl)
        | inr none ↦ inr none
      ]
      all q whole false e either =
          let here : covers at q ≡ true = sym (covered q) ∙ (rw e at either) in
          inl (now-one q ∙ (ap (λ (b : Bool). one_of q || b) ((bytes_eq-Decides at q).1 (covers-same at q here (long ∙ sym whole))) ∙ or-true (one_of q)))

  -- once all texts were gone through the view shows what it must
  pub looked-all : ((at : List ℕ) → length at ≢ 35 → shown at ≡ None) → (at : List ℕ) → finite.get (layers_of view) at ≡ (if are_covering texts at then shown at else None)
  looked-all far at = get-layers_of view at ∙ by-length (long-or-not (length at))
    where
      long-or-not : (n : ℕ) → (n ≡ 35) ⊎ (n ≢ 35)
      long-or-not n = grind arith

      covered : Bool
      covered = list_any (λ prefix. covers prefix at) view.inputs.items

      none-both : (a b : Bool) → shown at ≡ None → (if a then (if b then shown at else None) else None) ≡ None
      none-both true true e = e
      none-both true false e = refl
      none-both false b e = refl

      none-one : (a : Bool) → shown at ≡ None → (if a then shown at else None) ≡ None
      none-one true e = e
      none-one false e = refl

      covered-one : (prefixes : List (List ℕ)) → is_one_of prefixes at ≡ true → list_any (λ prefix. covers prefix at) prefixes ≡ true
      covered-one [] e = absurd (true≢false (sym e))
      covered-one (prefix ∷ prefixes) e = go (λ either. covered-one prefixes either) (bytes_eq prefix at) refl e
        where
          or-true : (b : Bool) → (b || true) ≡ true
          or-true true = refl
          or-true false = refl

          go : (is_one_of prefixes at ≡ true → list_any (λ prefix. covers prefix at) prefixes ≡ true) → (b : Bool) → bytes_eq prefix at ≡ b
              → (b || is_one_of prefixes at) ≡ true → list_any (λ prefix. covers prefix at) (prefix ∷ prefixes) ≡ true
          go more true same either = rw (ap (λ (x : List ℕ). covers x at) ((bytes_eq-Decides prefix at).0 same) ∙ covers-itself at) refl
          go more false same either = ap (λ (b : Bool). covers prefix at || b) (more either) ∙ or-true (covers prefix at)

      nowhere : Option ViewEntry
      nowhere = None

      nothing : (a : Bool) → (if a then nowhere else nowhere) ≡ nowhere
      nothing true = refl
      nothing false = refl

      by-one : length at ≡ 35 → (b : Bool) → one_of at ≡ b → (if covered then finite.get view.layers at else None) ≡ (if are_covering texts at then shown at else None)
      by-one long true e = rw (covered-one view.inputs.items e, is.there at, e, (is.some at e).1) refl
      by-one long false e = rw (is.there at, e) (nothing covered ∙ sym (by-text (are_covering texts at) refl))
        where
          by-text : (b : Bool) → are_covering texts at ≡ b → (if b then shown at else None) ≡ None
          by-text false q = refl
          by-text true q = elim (is.all at long q) [
            | inl there ↦ absurd (true≢false (sym there ∙ e))
            | inr none ↦ none
          ]

      by-length : (length at ≡ 35) ⊎ (length at ≢ 35) → (if covered then finite.get view.layers at else None) ≡ (if are_covering texts at then shown at else None)
      by-length (inl long) = by-one long (one_of at) refl
      by-length (inr short) =
          let none = far at short in
          rw (is.there at) (none-both covered (one_of at) none ∙ sym (none-one (are_covering texts at) none))

-- ---- a text that is an address

module _ (text at : List ℕ) (is : is_address_text text ≡ true) (written : encode_lower at ≡ text) where
  pub whole-covers : (q : List ℕ) → text_covers text q ≡ covers at q
  whole-covers q = text-covers text at q (is-prefix text is) written

  pub whole-long : length at ≡ 35
  whole-long =
      let parts = and_parts (length text == 70) (list_all is_hex_digit text) is in
      let size : length text ≡ 70 = eqb-true (length text) 70 parts.0 in
      let same : length (encode_lower at) ≡ length text = ap (λ (x : List ℕ). length x) written in
      let twice = length-encode at in
      omega (arith, size, same, twice)

  -- what is written so is this address
  pub whole-same : (prefix : List ℕ) → encode_lower prefix ≡ text → prefix ≡ at
  whole-same prefix other =
      let same : length (encode_lower prefix) ≡ length (encode_lower at) = ap (λ (x : List ℕ). length x) (other ∙ sym written) in
      let twice = length-encode prefix in
      let twice_at = length-encode at in
      covers-same prefix at
      (sym (text-covers text prefix at (is-prefix text is) other) ∙ (whole-covers at ∙ covers-itself at))
      (omega (arith, same, twice, twice_at))

  -- nothing is shown at its address
  pub whole-none : (shown : View) → shown at ≡ None → (q : List ℕ) → length q ≡ 35 → text_covers text q ≡ true → shown q ≡ None
  whole-none shown none q long e = ap shown (sym (covers-same at q (sym (whole-covers q) ∙ e) (whole-long ∙ sym long))) ∙ none

-- a text that is none covers nothing
pub none-covers : (shown : View) (text : List ℕ) → nat_le 70 (length text) ≡ true → is_address_text text ≡ false → (q : List ℕ) → length q ≡ 35 → text_covers text q ≡ true → shown q ≡ None
none-covers shown text long isnt q whole e = absurd (true≢false (sym e ∙ text-covers-none text q (is-none text long isnt)))

-- the view before any text
pub looked-none : (shown : View) (view : Seen) → ((at : List ℕ) → finite.get view.layers at ≡ None) → view.inputs.items ≡ [] → IsLookedUp shown [] view
looked-none shown view layers inputs = record {
  there = λ at. layers at ∙ rw inputs refl;
  some = λ at e. absurd (true≢false (sym e ∙ rw inputs refl));
  all = λ at long e. absurd (true≢false (sym e));
}

-- a view that shows nothing, where nothing is to be shown
pub shown-nothing : (shown : View) (texts : List (List ℕ)) (view : Seen) → ((at : List ℕ) → finite.get view.layers at ≡ None) → ((at : List ℕ) → are_covering texts at ≡ true → shown at ≡ None)
    → (at : List ℕ) → finite.get (layers_of view) at ≡ (if are_covering texts at then shown at else None)
shown-nothing shown texts view layers none at =
    get-layers_of view at ∙ (rw (layers at) (either (list_any (λ prefix. covers prefix at) view.inputs.items)) ∙ sym (go (are_covering texts at) refl))
  where
    nowhere : Option ViewEntry
    nowhere = None

    either : (b : Bool) → (if b then nowhere else nowhere) ≡ nowhere
    either true = refl
    either false = refl

    go : (b : Bool) → are_covering texts at ≡ b → (if b then shown at else None) ≡ None
    go true e = none at e
    go false e = refl
