-- Items that are no containers.
use Rattle.std.proofs.Common.{◌≡◌, ◌≢◌, ℕ, ◌+◌, ◌/◌, ◌<◌, ◌≤◌, ◌⊎◌, inl, inr, Bool, true, false, List, ◌++◌, length, take, drop, Ok, Err, refl, sym}
use Rattle.std.proofs.Common.{ap, subst, ◌∙◌, arith}
use Rattle.std.specs.Prelude.{nat_lt}
use Rattle.std.specs.Str.{is_utf8}
use Rattle.std.proofs.lemmas.Bool.{le-ltb, ltb-false}
use Rattle.std.proofs.lemmas.Bool.Decides.{nat_tests}
use Rattle.std.proofs.lemmas.List.{take_at}
use Rattle.saw_cbor.specs.declared.fault.CborFault.TheVariants.{Cut, NotUtf8}
use Rattle.saw_cbor.specs.Data.{Cbor, unsigned, negative, bytes, text, null, boolean, nesting}
use Rattle.saw_cbor.specs.Reading.{◌>>=◌, Head, is_unsupported, content_at, text_or, leaf_at}
use Rattle.saw_cbor.specs.Spelling.{IsHead, IsHeaded, Spells}
use Rattle.saw_cbor.proofs.Results.{ok_is, ok_pair, bind_ok, guard_ok}
use Rattle.saw_cbor.proofs.Cuts.{Lies, both, taken, behind}
use Rattle.saw_cbor.proofs.Heads.{IsHeadAt, head_lies, one_byte}

-- ---- what each head gives

pub unsigned_is : (head : Head) (whole : List ℕ) → head.first / 32 ≡ 0 → leaf_at head whole ≡ Ok (unsigned head.argument, head.behind)
unfolding leaf_at
unsigned_is head whole major = rw major refl

pub negative_is : (head : Head) (whole : List ℕ) → head.first / 32 ≡ 1 → leaf_at head whole ≡ Ok (negative head.argument, head.behind)
unfolding leaf_at
negative_is head whole major = rw major refl

pub bytes_are : (head : Head) (whole : List ℕ) → head.first / 32 ≡ 2
    → leaf_at head whole ≡ (content_at head.argument head.behind whole >>= λ found. Ok (bytes found.0, found.1))
unfolding leaf_at
bytes_are head whole major = rw major refl

text_by : (head : Head) (whole : List ℕ) → head.first / 32 ≡ 3
    → leaf_at head whole ≡ (content_at head.argument head.behind whole >>= λ found. text_or found (is_utf8 found.0))
unfolding leaf_at
text_by head whole major = rw major refl

pub text_is : (head : Head) (whole content : List ℕ) (end : ℕ) → head.first / 32 ≡ 3 → content_at head.argument head.behind whole ≡ Ok (content, end)
    → is_utf8 content ≡ true → leaf_at head whole ≡ Ok (text content, end)
text_is head whole content end major found fine = text_by head whole major ∙ rw (found, fine) refl

pub text_is_not : (head : Head) (whole content : List ℕ) (end : ℕ) → head.first / 32 ≡ 3
    → content_at head.argument head.behind whole ≡ Ok (content, end) → is_utf8 content ≡ false → leaf_at head whole ≡ Err NotUtf8
text_is_not head whole content end major found fine = text_by head whole major ∙ rw (found, fine) refl

pub null_is : (head : Head) (whole : List ℕ) → head.first ≡ 0xf6 → leaf_at head whole ≡ Ok (null, head.behind)
unfolding leaf_at
null_is head whole first = rw first refl

pub false_is : (head : Head) (whole : List ℕ) → head.first ≡ 0xf4 → leaf_at head whole ≡ Ok (boolean false, head.behind)
unfolding leaf_at
false_is head whole first = rw first refl

pub true_is : (head : Head) (whole : List ℕ) → head.first ≡ 0xf5 → leaf_at head whole ≡ Ok (boolean true, head.behind)
unfolding leaf_at
true_is head whole first = rw first refl

-- ---- contents

content_found : (n q : ℕ) (whole content : List ℕ) (next : ℕ) → content_at n q whole ≡ Ok (content, next) → (take n (drop q whole) ≡ content)
    × (q + n ≡ next) × (q + n ≤ length whole)
unfolding content_at
content_found n q whole content next e =
    let a = guard_ok (nat_lt (length whole) (q + n)) Cut _ (content, next) e in
    let b = ok_pair (take n (drop q whole)) (q + n) content next a.1 in
    let inside : q + n ≤ length whole = ltb-false _ _ a.0 in
    (b.0, b.1, inside)

pub content_again : (q n : ℕ) (whole content left : List ℕ) → q ≤ length whole → drop q whole ≡ content ++ left → n ≡ length content
    → content_at n q whole ≡ Ok (content, q + length content)
unfolding content_at
content_again q n whole content left le parts long =
    let b = behind q whole content left le parts in
    let t : nat_lt (length whole) (q + length content) ≡ false = le-ltb _ _ b.1 in
    let cut : take (length content) (drop q whole) ≡ content = ap (take (length content)) parts ∙ take_at content left (length content) refl in
    rw (long, t, cut) refl

-- a head with the content behind it
headed : (major p : ℕ) (whole : List ℕ) (head : Head) (content : List ℕ) (next : ℕ) → IsHeadAt p whole head → head.first / 32 ≡ major
    → content_at head.argument head.behind whole ≡ Ok (content, next) → Lies (IsHeaded major (length content) content) p whole next
headed major p whole head content next h e found =
    let c = content_found head.argument head.behind whole content next found in
    let join = λ (first others : List ℕ) (a : IsHead major head.argument first) (b : (others ≡ take head.argument (drop head.behind whole)) × (length others ≡ head.argument)).
    let same : others ≡ content = b.0 ∙ c.0 in
    let long : head.argument ≡ length content = sym b.1 ∙ ap (λ (v : List ℕ). length v) same in
    let is : IsHead major (length content) first = subst (λ (n : ℕ). IsHead major n first) long a in
    let t : IsHeaded major (length content) content (first ++ others) = (first, is, ap (λ (v : List ℕ). first ++ v) same) in
    t in
    let l : Lies (IsHeaded major (length content) content) p whole (head.behind + head.argument) =
    both p head.behind (head.behind + head.argument) whole join (head_lies p whole head major h e) (taken head.argument head.behind whole c.2) in
    subst (λ (n : ℕ). Lies (IsHeaded major (length content) content) p whole n) c.1 l

-- ---- what is read spells it

text_ok : (found : List ℕ × ℕ) (b : Bool) (x : Cbor × ℕ) → text_or found b ≡ Ok x → (b ≡ true) × (text_or found true ≡ Ok x)
text_ok found true x e = (refl, e)
text_ok found false x e = absurd cc

-- the first bytes of such items
abbrev FirstOfLeaf : ℕ → Type 0
FirstOfLeaf first = (first / 32 ≡ 0) ⊎ (first / 32 ≡ 1) ⊎ (first / 32 ≡ 2) ⊎ (first / 32 ≡ 3) ⊎ (first ≡ 0xf4) ⊎ (first ≡ 0xf5) ⊎ (first ≡ 0xf6)

first_is : (first : ℕ) → first < 256 → is_unsupported first ≡ false → first / 32 ≢ 4 → first / 32 ≢ 5 → FirstOfLeaf first
first_is first small fine four five = grind (arith, nat_tests)

-- an item without containers in it lies between the offsets
abbrev pub LeafLies : ℕ → List ℕ → Cbor × ℕ → Type 0
LeafLies p whole x = Lies (Spells x.0) p whole x.1 × (nesting x.0 ≡ 0)

pub leaf_found : (p : ℕ) (whole : List ℕ) (head : Head) (x : Cbor × ℕ) → IsHeadAt p whole head → head.first < 256 → head.first / 32 ≢ 4
    → head.first / 32 ≢ 5 → leaf_at head whole ≡ Ok x → LeafLies p whole x
leaf_found p whole head x h small four five e =
    elim (first_is head.first small h.supported four five) [
      | inl k ↦
          let made : Cbor × ℕ = (unsigned head.argument, head.behind) in
          subst (LeafLies p whole) (ok_is made x (sym (unsigned_is head whole k) ∙ e)) (head_lies p whole head 0 h k, refl)
      | inr (inl k) ↦
          let made : Cbor × ℕ = (negative head.argument, head.behind) in
          subst (LeafLies p whole) (ok_is made x (sym (negative_is head whole k) ∙ e)) (head_lies p whole head 1 h k, refl)
      | inr (inr (inl k)) ↦
          let f = bind_ok (content_at head.argument head.behind whole) (λ found. Ok (bytes found.0, found.1)) x (sym (bytes_are head whole k) ∙ e) in
          let made : Cbor × ℕ = (bytes f.0.0, f.0.1) in
          subst (LeafLies p whole) (ok_is made x f.2) (headed 2 p whole head f.0.0 f.0.1 h k f.1, refl)
      | inr (inr (inr (inl k))) ↦
          let f = bind_ok (content_at head.argument head.behind whole) (λ found. text_or found (is_utf8 found.0)) x (sym (text_by head whole k) ∙ e) in
          let fine = text_ok f.0 (is_utf8 f.0.0) x f.2 in
          let made : Cbor × ℕ = (text f.0.0, f.0.1) in
          let l = headed 3 p whole head f.0.0 f.0.1 h k f.1 in
          let t : Lies (Spells (text f.0.0)) p whole f.0.1 =
          record { front = l.front; parts = l.parts; ends = l.ends; within = l.within; is = (l.is, fine.0) } in
          subst (LeafLies p whole) (ok_is made x fine.1) (t, refl)
      | inr (inr (inr (inr (inl k)))) ↦
          let made : Cbor × ℕ = (boolean false, head.behind) in
          let l : Lies (Spells (boolean false)) p whole head.behind = rw k at (one_byte p whole head h (omega arith)) in
          subst (LeafLies p whole) (ok_is made x (sym (false_is head whole k) ∙ e)) (l, refl)
      | inr (inr (inr (inr (inr (inl k))))) ↦
          let made : Cbor × ℕ = (boolean true, head.behind) in
          let l : Lies (Spells (boolean true)) p whole head.behind = rw k at (one_byte p whole head h (omega arith)) in
          subst (LeafLies p whole) (ok_is made x (sym (true_is head whole k) ∙ e)) (l, refl)
      | inr (inr (inr (inr (inr (inr k))))) ↦
          let made : Cbor × ℕ = (null, head.behind) in
          let l : Lies (Spells null) p whole head.behind = rw k at (one_byte p whole head h (omega arith)) in
          subst (LeafLies p whole) (ok_is made x (sym (null_is head whole k) ∙ e)) (l, refl)
    ]
