-- Which of new nodes are kept.
use Rattle.std.proofs.Common.{◌≡◌, ℕ, Bool, true, false, cond, List, [], ◌∷◌, refl, sym, ap, ◌∙◌, Option, Some, None, inl, inr}
use Rattle.std.specs.Prelude.{if◌then◌else◌}
use Rattle.std.specs.Option.{option_or}
use Rattle.std.specs.Str.{bytes_eq}
use Rattle.std.proofs.lemmas.Bool.{cases_Bool}
use Rattle.std.proofs.lemmas.Slice.Eq.{bytes_eq-Decides}
use Rattle.saw_node.specs.Nodes.{Shape, encoding_of, shape_of}
use Rattle.saw_store.specs.News.{IsIn, KeepsAllClear, KeepsTheLast, last_under}
use Rattle.saw_store.specs.Stores.{kept_at, with_node}
use Rattle.saw_store.specs.declared.new_node.NewNode.{NewNode}
use Rattle.saw_store.proofs.Kept.{kept_at-with, same_test}

or_cond : (later : Option Shape) (same : Bool) (shape : Shape) (kept : Option Shape)
    → option_or later (cond same (Some shape) kept) ≡ option_or (option_or later (if same then Some shape else None)) kept
or_cond None true shape kept = refl
or_cond None false shape kept = refl
or_cond (Some last) same shape kept = refl

pub keeps_the_last : KeepsTheLast
keeps_the_last hash nodes [] h = refl
keeps_the_last hash nodes (new ∷ others) h =
    let shape = shape_of new.node in
    keeps_the_last hash (with_node hash nodes shape) others h
    ∙ ap (option_or (last_under hash others h)) (kept_at-with hash nodes shape h ∙ ap (λ same. cond same (Some shape) (kept_at nodes h)) (sym (same_test h (hash (encoding_of shape)))))
    ∙ or_cond (last_under hash others h) (bytes_eq h (hash (encoding_of shape))) shape (kept_at nodes h)

-- a node that is found last is new, and has the hash
last_is : (hash : List ℕ → List ℕ) (news : List NewNode) (h : List ℕ) (last : Shape) → last_under hash news h ≡ Some last
    → IsIn news last × (h ≡ hash (encoding_of last))
last_is hash [] h last found = absurd cc
last_is hash (new ∷ others) h last found =
    let shape = shape_of new.node in
    let same = bytes_eq h (hash (encoding_of shape)) in
    elim (last_under hash others h) as (λ later. last_under hash others h ≡ later → option_or later (if same then Some shape else None) ≡ Some last → IsIn (new ∷ others) last
    × (h ≡ hash (encoding_of last))) [
      | Some later ↦ λ is e. let rest = last_is hash others h last (is ∙ e) in (inr rest.0, rest.1)
      | None ↦ λ is e. elim (cases_Bool same) [
        | inl tied ↦
            let here : shape ≡ last = some_same (sym (ap (λ b. if b then Some shape else None) tied) ∙ e) in
            (inl here, (bytes_eq-Decides h (hash (encoding_of shape))).0 tied ∙ ap (λ s. hash (encoding_of s)) here)
        | inr apart ↦ absurd (none_some (sym (ap (λ b. if b then Some shape else None) apart) ∙ e))
      ]
    ] refl found
  where
    some_same : {x y : Shape} → Some x ≡ Some y → x ≡ y
    some_same e = cc

    none_some : {x : Shape} → None ≡ Some x → ⊥
    none_some e = cc

or_none : (later here : Option Shape) → option_or later here ≡ None → (later ≡ None) × (here ≡ None)
or_none None here e = (refl, e)
or_none (Some last) here e = absurd (some_none e)
  where
    some_none : {x : Shape} → Some x ≡ None → ⊥
    some_none e = cc

-- a new node has a last one of its hash
found_last : (hash : List ℕ → List ℕ) (news : List NewNode) (shape : Shape) → IsIn news shape → last_under hash news (hash (encoding_of shape)) ≡ None → ⊥
found_last hash [] shape among none = among
found_last hash (new ∷ others) shape among none =
    let both = or_none (last_under hash others (hash (encoding_of shape))) _ none in
    elim among [
      | inl same ↦
          let tied = (bytes_eq-Decides (hash (encoding_of shape)) (hash (encoding_of (shape_of new.node)))).1 (ap (λ s. hash (encoding_of s)) (sym same)) in
          some_none (sym (ap (λ b. if b then Some (shape_of new.node) else None) tied) ∙ both.1)
      | inr later ↦ found_last hash others shape later both.0
    ]
  where
    some_none : {x : Shape} → Some x ≡ None → ⊥
    some_none e = cc

pub keeps_all_clear : KeepsAllClear
keeps_all_clear hash nodes news clear shape there =
    let h = hash (encoding_of shape) in
    keeps_the_last hash nodes news h
    ∙ elim (last_under hash news h) as (λ last. last_under hash news h ≡ last → option_or last (kept_at nodes h) ≡ Some shape) [
      | Some last ↦ λ is. let came = last_is hash news h last is in ap Some (clear last shape (inr came.0) there (sym came.1))
      | None ↦ λ is. elim there [
        | inl kept ↦ kept
        | inr among ↦ absurd (found_last hash news shape among is)
      ]
    ] refl
