-- What is read as an item spells it.
use Rattle.std.proofs.Common.{◌≡◌, ℕ, zero, suc, ◌+◌, ◌-◌, ◌*◌, ◌/◌, ◌<◌, ◌≤◌, inl, inr, cond, List, [], ◌++◌, length, get_or, Result, Ok, Err, refl}
use Rattle.std.proofs.Common.{sym, ap, subst, ◌∙◌, arith}
use Rattle.std.specs.Prelude.{IfOk, nat_lt}
use Rattle.std.proofs.lemmas.Bool.{cases_eq, cases_lt, ltb-false}
use Rattle.std.proofs.lemmas.List.{append-nil, drop_all, get_or-drop}
use Rattle.saw_cbor.specs.declared.fault.CborFault.{CborFault}
use Rattle.saw_cbor.specs.declared.fault.CborFault.TheVariants.{Cut, Deep, Rest}
use Rattle.saw_cbor.specs.declared.item.Item.{Item}
use Rattle.saw_cbor.specs.Data.{Cbor, list, pairs, Items, no_items, item, Pairs, no_pairs, pair, items_count, pairs_count, nesting, items_nesting}
use Rattle.saw_cbor.specs.Data.{pairs_nesting}
use Rattle.saw_cbor.specs.Reading.{◌>>=◌, IsReading, Head, head_at, item_at, items_at, pairs_at, reading}
use Rattle.saw_cbor.specs.Spelling.{IsHead, Spells, SpellsItems, SpellsPairs}
use Rattle.saw_cbor.specs.View.{view}
use Rattle.saw_cbor.proofs.Results.{ok_is, no_ok, bind_ok, either_way, guard_ok}
use Rattle.saw_cbor.proofs.Cuts.{Lies, both}
use Rattle.saw_cbor.proofs.Heads.{IsHeadAt, head_found, head_lies}
use Rattle.saw_cbor.proofs.Leaves.{leaf_found}
use Rattle.saw_cbor.proofs.Steps.{item_empty, item_deep, item_no_head, item_list, item_pairs, item_leaf, items_empty, items_none, items_more}
use Rattle.saw_cbor.proofs.Steps.{pairs_empty, pairs_none, pairs_more}

abbrev pub AreBytes : List ℕ → Type 0
AreBytes whole = (i : ℕ) → get_or whole i 0 < 256

-- an item, or what stands in a container, lies between the offsets
abbrev ItemLies : ℕ → ℕ → ℕ → List ℕ → Cbor × ℕ → Type 0
ItemLies depth inside p whole x = Lies (Spells x.0) p whole x.1 × (nesting x.0 + inside ≤ depth)

abbrev ItemsLie : ℕ → ℕ → ℕ → ℕ → List ℕ → Items × ℕ → Type 0
ItemsLie n depth inside p whole x = Lies (SpellsItems x.0) p whole x.1 × (items_count x.0 ≡ n) × (items_nesting x.0 + inside ≤ depth + 1)

abbrev PairsLie : ℕ → ℕ → ℕ → ℕ → List ℕ → Pairs × ℕ → Type 0
PairsLie n depth inside p whole x = Lies (SpellsPairs x.0) p whole x.1 × (pairs_count x.0 ≡ n) × (pairs_nesting x.0 + inside ≤ depth + 1)

nothing : (P : List ℕ → Type 0) (p : ℕ) (whole : List ℕ) → p ≤ length whole → P [] → Lies P p whole p
nothing P p whole le is = record { front = []; parts = refl; ends = omega arith; within = le; is = is }

first_small : (p : ℕ) (whole : List ℕ) (head : Head) → AreBytes whole → IsHeadAt p whole head → head.first < 256
first_small p whole head small h =
    let same : get_or whole (p + 0) 0 ≡ head.first = sym (get_or-drop p whole 0 0) ∙ ap (λ (v : List ℕ). get_or v 0 0) h.parts in
    omega (arith, small (p + 0))

list_lies : (p next : ℕ) (whole : List ℕ) (head : Head) (items : Items) → IsHeadAt p whole head → head.first / 32 ≡ 4
    → items_count items ≡ head.argument → Lies (SpellsItems items) head.behind whole next → Lies (Spells (list items)) p whole next
list_lies p next whole head items h major count inner = both p head.behind next whole
    (λ first others a b. (others, (first, subst (λ (n : ℕ). IsHead 4 n first) (sym count) a, refl), b)) (head_lies p whole head 4 h major) inner

map_lies : (p next : ℕ) (whole : List ℕ) (head : Head) (ps : Pairs) → IsHeadAt p whole head → head.first / 32 ≡ 5 → pairs_count ps ≡ head.argument
    → Lies (SpellsPairs ps) head.behind whole next → Lies (Spells (pairs ps)) p whole next
map_lies p next whole head ps h major count inner = both p head.behind next whole
    (λ first others a b. (others, (first, subst (λ (n : ℕ). IsHead 5 n first) (sym count) a, refl), b)) (head_lies p whole head 5 h major) inner

item_lies : (p middle next : ℕ) (whole : List ℕ) (c : Cbor) (rest : Items) → Lies (Spells c) p whole middle
    → Lies (SpellsItems rest) middle whole next → Lies (SpellsItems (item c rest)) p whole next
item_lies p middle next whole c rest one others = both p middle next whole (λ first others a b. (first, others, a, b, refl)) one others

pair_lies : (p middle later next : ℕ) (whole : List ℕ) (key value : Cbor) (rest : Pairs) → Lies (Spells key) p whole middle
    → Lies (Spells value) middle whole later → Lies (SpellsPairs rest) later whole next → Lies (SpellsPairs (pair key value rest)) p whole next
pair_lies p middle later next whole key value rest one two others =
    let tail : Lies (λ v. (second : List ℕ) × (others : List ℕ) × Spells value second × SpellsPairs rest others × (v ≡ second ++ others)) middle whole
    next = both middle later next whole (λ second others b c. (second, others, b, c, refl)) two others in
    both p middle next whole (λ first w a t. (first, t.0, t.1, a, t.2, t.3, ap (λ (v : List ℕ). first ++ v) t.4)) one tail

no_items_found : (fuel n depth inside p : ℕ) (whole : List ℕ) (x : Items × ℕ) → inside ≤ depth + 1 → p ≤ length whole → n ≡ 0
    → items_at fuel n depth inside p whole ≡ Ok x → ItemsLie n depth inside p whole x
no_items_found fuel n depth inside p whole x fine le none e =
    let made : Items × ℕ = (no_items, p) in
    subst (ItemsLie n depth inside p whole) (ok_is made x (sym (items_none fuel n depth inside p whole none) ∙ e))
    (nothing (SpellsItems no_items) p whole le refl, sym none, omega arith)

no_pairs_found : (fuel n depth inside p : ℕ) (whole : List ℕ) (x : Pairs × ℕ) → inside ≤ depth + 1 → p ≤ length whole → n ≡ 0
    → pairs_at fuel n depth inside p whole ≡ Ok x → PairsLie n depth inside p whole x
no_pairs_found fuel n depth inside p whole x fine le none e =
    let made : Pairs × ℕ = (no_pairs, p) in
    subst (PairsLie n depth inside p whole) (ok_is made x (sym (pairs_none fuel n depth inside p whole none) ∙ e))
    (nothing (SpellsPairs no_pairs) p whole le refl, sym none, omega arith)

mutual
  item_found : (fuel depth inside p : ℕ) (whole : List ℕ) (x : Cbor × ℕ) → AreBytes whole → item_at fuel depth inside p whole ≡ Ok x
      → ItemLies depth inside p whole x
  item_found zero depth inside p whole x small e = absurd (no_ok x Cut _ (item_empty depth inside p whole) e)
  item_found (suc m) depth inside p whole x small e =
      elim (cases_lt depth inside) [
        | inl deep ↦ absurd (no_ok x Deep _ (item_deep (suc m) m depth inside p whole refl deep) e)
        | inr fine ↦
            elim (either_way (head_at p whole)) [
              | inr (d, failed) ↦ absurd (no_ok x d _ (item_no_head (suc m) m depth inside p whole d refl fine failed) e)
              | inl (head, found) ↦
                  let h = head_found p whole head found in
                  elim (cases_eq (head.first / 32) 4) [
                    | inl k ↦
                        let f = bind_ok (items_at m head.argument depth (inside + 1) head.behind whole) (λ found. Ok (list found.0, found.1)) x
                        (sym (item_list (suc m) m depth inside p whole head refl fine found k) ∙ e) in
                        let i = items_found m head.argument depth (inside + 1) head.behind whole f.0 small (omega arith) h.within f.1 in
                        let made : Cbor × ℕ = (list f.0.0, f.0.1) in
                        subst (ItemLies depth inside p whole) {x = made} (ok_is made x f.2) (list_lies p f.0.1 whole head f.0.0 h k i.1 i.0, omega (arith, i.2))
                    | inr four ↦
                        elim (cases_eq (head.first / 32) 5) [
                          | inl k ↦
                              let f = bind_ok (pairs_at m head.argument depth (inside + 1) head.behind whole) (λ found. Ok (pairs found.0, found.1)) x
                              (sym (item_pairs (suc m) m depth inside p whole head refl fine found k) ∙ e) in
                              let i = pairs_found m head.argument depth (inside + 1) head.behind whole f.0 small (omega arith) h.within f.1 in
                              let made : Cbor × ℕ = (pairs f.0.0, f.0.1) in
                              subst (ItemLies depth inside p whole) {x = made} (ok_is made x f.2)
                              (map_lies p f.0.1 whole head f.0.0 h k i.1 i.0, omega (arith, i.2))
                          | inr five ↦
                              let l = leaf_found p whole head x h (first_small p whole head small h) four five
                              (sym (item_leaf (suc m) m depth inside p whole head refl fine found four five) ∙ e) in
                              (l.0, omega (arith, l.1))
                        ]
                  ]
            ]
      ]

  items_found : (fuel n depth inside p : ℕ) (whole : List ℕ) (x : Items × ℕ) → AreBytes whole → inside ≤ depth + 1 → p ≤ length whole
      → items_at fuel n depth inside p whole ≡ Ok x → ItemsLie n depth inside p whole x
  items_found zero n depth inside p whole x small fine le e =
      elim (cases_eq n 0) [
        | inl none ↦ no_items_found zero n depth inside p whole x fine le none e
        | inr some ↦ absurd (no_ok x Cut _ (items_empty n depth inside p whole some) e)
      ]
  items_found (suc m) n depth inside p whole x small fine le e =
      elim (cases_eq n 0) [
        | inl none ↦ no_items_found (suc m) n depth inside p whole x fine le none e
        | inr some ↦
            let k = n - 1 in
            let f = bind_ok (item_at m depth inside p whole)
            (λ first. items_at m k depth inside first.1 whole >>= λ others. Ok (item first.0 others.0, others.1)) x
            (sym (items_more (suc m) m n k depth inside p whole refl (omega arith)) ∙ e) in
            let g = bind_ok (items_at m k depth inside f.0.1 whole) (λ others. Ok (item f.0.0 others.0, others.1)) x f.2 in
            let one = item_found m depth inside p whole f.0 small f.1 in
            let rest = items_found m k depth inside f.0.1 whole g.0 small fine one.0.within g.1 in
            let made : Items × ℕ = (item f.0.0 g.0.0, g.0.1) in
            subst (ItemsLie n depth inside p whole) {x = made} (ok_is made x g.2)
            (item_lies p f.0.1 g.0.1 whole f.0.0 g.0.0 one.0 rest.0, omega (arith, rest.1), omega (arith, one.1, rest.2))
      ]

  pairs_found : (fuel n depth inside p : ℕ) (whole : List ℕ) (x : Pairs × ℕ) → AreBytes whole → inside ≤ depth + 1 → p ≤ length whole
      → pairs_at fuel n depth inside p whole ≡ Ok x → PairsLie n depth inside p whole x
  pairs_found zero n depth inside p whole x small fine le e =
      elim (cases_eq n 0) [
        | inl none ↦ no_pairs_found zero n depth inside p whole x fine le none e
        | inr some ↦ absurd (no_ok x Cut _ (pairs_empty n depth inside p whole some) e)
      ]
  pairs_found (suc m) n depth inside p whole x small fine le e =
      elim (cases_eq n 0) [
        | inl none ↦ no_pairs_found (suc m) n depth inside p whole x fine le none e
        | inr some ↦
            let k = n - 1 in
            let f = bind_ok (item_at m depth inside p whole)
            (λ key. item_at m depth inside key.1 whole >>= λ value. pairs_at m k depth inside value.1 whole >>= λ others.
            Ok (pair key.0 value.0 others.0, others.1)) x (sym (pairs_more (suc m) m n k depth inside p whole refl (omega arith)) ∙ e) in
            let v = bind_ok (item_at m depth inside f.0.1 whole)
            (λ value. pairs_at m k depth inside value.1 whole >>= λ others. Ok (pair f.0.0 value.0 others.0, others.1)) x f.2 in
            let g = bind_ok (pairs_at m k depth inside v.0.1 whole) (λ others. Ok (pair f.0.0 v.0.0 others.0, others.1)) x v.2 in
            let one = item_found m depth inside p whole f.0 small f.1 in
            let two = item_found m depth inside f.0.1 whole v.0 small v.1 in
            let rest = pairs_found m k depth inside v.0.1 whole g.0 small fine two.0.within g.1 in
            let made : Pairs × ℕ = (pair f.0.0 v.0.0 g.0.0, g.0.1) in
            subst (PairsLie n depth inside p whole) {x = made} (ok_is made x g.2)
            (pair_lies p f.0.1 v.0.1 g.0.1 whole f.0.0 v.0.0 g.0.0 one.0 two.0 rest.0, omega (arith, rest.1), omega (arith, one.1, two.1, rest.2))
      ]

reading_found : (depth : ℕ) (whole : List ℕ) (c : Cbor) → AreBytes whole → reading depth whole ≡ Ok c → Spells c whole × (nesting c ≤ depth)
unfolding reading
reading_found depth whole c small e =
    let f = bind_ok (item_at (2 * length whole + 2) depth 0 0 whole) (λ found. cond (nat_lt found.1 (length whole)) (Err (Rest found.1)) (Ok found.0)) c e in
    let g = guard_ok (nat_lt f.0.1 (length whole)) (Rest f.0.1) (Ok f.0.0) c f.2 in
    let l = item_found (2 * length whole + 2) depth 0 0 whole f.0 small f.1 in
    let all : length whole ≤ f.0.1 = ltb-false _ _ g.0 in
    let same : l.0.front ≡ whole = sym (append-nil l.0.front) ∙ ap (λ (r : List ℕ). l.0.front ++ r) (sym (drop_all f.0.1 whole all)) ∙ sym l.0.parts in
    let here : Spells f.0.0 whole × (nesting f.0.0 ≤ depth) = (subst (λ (v : List ℕ). Spells f.0.0 v) same l.0.is, omega (arith, l.1)) in
    subst (λ (x : Cbor). Spells x whole × (nesting x ≤ depth)) (ok_is f.0.0 c g.1) here

-- what was returned spells the input, where it is reading's
pub is_found : (depth : ℕ) (whole : List ℕ) (r : Result Item CborFault) → AreBytes whole → IsReading view r (reading depth whole)
    → IfOk r (λ x. Spells (view x) whole × (nesting (view x) ≤ depth))
is_found depth whole (Ok x) small given = reading_found depth whole (view x) small given
is_found depth whole (Err e) small given = tt
