-- New nodes put one after another.
use Rattle.std.proofs.Common.{◌≡◌, ℕ, cond, List, ◌∷◌, refl, ap, ◌∙◌, subst, Some}
use Rattle.std.specs.Map.{lookup}
use Rattle.std.specs.Str.{bytes_eq}
use Rattle.saw_node.specs.Contents.{Node}
use Rattle.saw_store.specs.News.{AreNamed, with_all}
use Rattle.saw_store.specs.Stores.{shown}
use Rattle.saw_store.specs.declared.new_node.NewNode.{NewNode}
use Rattle.saw_store.proofs.Kept.{node_added}

-- with what is left, all would be kept
abbrev pub Leads : List (List ℕ × Node) → List (List ℕ × Node) → List NewNode → List NewNode → Type 0
Leads start now all left = (hash : List ℕ → List ℕ) → AreNamed hash all
    → AreNamed hash left × (with_all hash (shown now) left ≡ with_all hash (shown start) all)

pub leads_on : (start now after : List (List ℕ × Node)) (all left rest : List NewNode) (new : NewNode) → left ≡ new ∷ rest
    → ((q : List ℕ) → lookup (bytes_eq q) after ≡ cond (bytes_eq new.hash q) (Some new.node) (lookup (bytes_eq q) now))
    → Leads start now all left → Leads start after all rest
leads_on start now after all left rest new first added leads hash named =
    let before = subst (λ xs. AreNamed hash xs × (with_all hash (shown now) xs ≡ with_all hash (shown start) all)) first (leads hash named) in
    (before.0.1, ap (λ n. with_all hash n rest) (node_added hash now after (shown now) new.hash new.node refl before.0.0 added) ∙ before.1)
