-- Nodes that are compared part by part.
use Rattle.std.proofs.Common.{◌≡◌, Bool, true, List, [], ◌∷◌, map, refl, sym, ap, ◌∙◌, nat_eq, bytes_eq}
use Rattle.std.specs.Prelude.{◌&&◌, ◌↔◌, IsTrue}
use Rattle.std.specs.Bool.{Decides}
use Rattle.std.specs.Cmp.Lexicographic.{pointwise}
use Rattle.std.proofs.lemmas.Bool.Decides.{Decides-eqb, Decides-and, Decides-like}
use Rattle.std.proofs.lemmas.Slice.Eq.{slice_eq-Decides, bytes_eq-Decides}
use Rattle.saw_node.specs.Nodes.{Shape, pair_of, shape_of}
use Rattle.saw_node.specs.declared.node.Child.{Child}
use Rattle.saw_node.specs.Contents.{Node}

abbrev same_child : Child → Child → Bool
same_child x y = nat_eq x.byte y.byte && bytes_eq x.hash y.hash

same_child-Decides : (x y : Child) → Decides (same_child x y) (x ≡ y)
same_child-Decides x y =
    Decides-like (same_child x y)
    (λ (h : (x.byte ≡ y.byte) × (x.hash ≡ y.hash)). λ i. record { byte = h.0 i; hash = h.1 i })
    (λ (e : x ≡ y). (ap (λ c. c.byte) e, ap (λ c. c.hash) e))
    (Decides-and (nat_eq x.byte y.byte) (bytes_eq x.hash y.hash) (Decides-eqb x.byte y.byte) (bytes_eq-Decides x.hash y.hash))

not_nil : {X : Type 0} {x : X} {xs : List X} → x ∷ xs ≡ [] → ⊥
not_nil e = cc

same_children : (xs ys : List Child) → map pair_of xs ≡ map pair_of ys → xs ≡ ys
same_children [] [] e = refl
same_children [] (y ∷ ys) e = absurd (not_nil (sym e))
same_children (x ∷ xs) [] e = absurd (not_nil e)
same_children (x ∷ xs) (y ∷ ys) e =
    let heads : pair_of x ≡ pair_of y = cc in
    let tails : map pair_of xs ≡ map pair_of ys = cc in
    let rest = same_children xs ys tails in
    λ i. record { byte = (heads i).0; hash = (heads i).1 } ∷ rest i

pub same_nodes : (first second : Node) (xs ys : List Child) (value children : Bool) → xs ≡ first.children → ys ≡ second.children
    → (IsTrue value ↔ (first.value ≡ second.value)) → children ≡ pointwise same_child xs ys
    → true ≡ value → IsTrue children ↔ (shape_of first ≡ shape_of second)
same_nodes first second xs ys value children here there of_value of_children holds =
    let decides = slice_eq-Decides same_child-Decides xs ys children of_children in
    let values : first.value ≡ second.value = of_value.0 (sym holds) in (
      λ h.
          let pairs : map pair_of first.children ≡ map pair_of second.children = ap (map pair_of) (sym here ∙ decides.0 h ∙ there) in
          λ i. record { value = values i; children = pairs i },
      λ e. decides.1 (here ∙ same_children first.children second.children (ap (λ (s : Shape). s.children) e) ∙ sym there),
    )

pub other_values : (first second : Node) (value : Bool) → (IsTrue value ↔ (first.value ≡ second.value)) → shape_of first ≡ shape_of second → IsTrue value
other_values first second value of_value e = of_value.1 (ap (λ (s : Shape). s.value) e)
