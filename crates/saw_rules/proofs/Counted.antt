-- How many transactions of its family there are for each rule.
use Rattle.std.proofs.Common.{◌≡◌, ℕ, ◌+◌, ◌-◌, ◌<◌, ◌^◌, min, Bool, true, false, List, [], ◌∷◌, ◌++◌, length, map, get_or, take, slice_index, filter, ltb, refl, sym, ap, ◌∙◌, arith, length-append}
use Rattle.std.proofs.lemmas.Bool.{le-ltb, lt-ltb, ltb-false, ltb-true}
use Rattle.std.proofs.lemmas.List.{get_or-map, map-append, take_more}
use Rattle.std.proofs.lemmas.List.Elements.{filter-append}
use Rattle.saw_messages.specs.TxShapes.{TxShape}
use Rattle.saw_rules.specs.OnChainRules.{how_many, is_of}
use Rattle.saw_rules.specs.Courses.{count_for}
use Rattle.saw_rules.specs.declared.rule.Rule.{Rule}

-- the count at the place of a rule
pub counted_at : (before : List TxShape) (rules : List Rule) (counts : List ℕ) (i : ℕ) (rule : Rule) → i < length rules → rule ≡ get_or rules i rule
    → counts ≡ map (count_for before) rules → slice_index counts i ≡ count_for before rule
counted_at before rules counts i rule more here are =
    ap (λ numbers. slice_index numbers i) are ∙ get_or-map (count_for before) rules i rule 0 more ∙ ap (count_for before) (sym here)

pub counted_behind : (family : List ℕ) (earlier txs : List TxShape) → how_many family (earlier ++ txs) ≡ how_many family earlier + how_many family txs
counted_behind family earlier txs = ap length (filter-append (is_of family) earlier txs) ∙ length-append (filter (is_of family) earlier) (filter (is_of family) txs)

-- the counts of one more rule
pub counts_more : (txs : List TxShape) (rules : List Rule) (made : List ℕ) (i : ℕ) (rule : Rule) (n : ℕ) → i < length rules → rule ≡ get_or rules i rule
    → made ≡ map (count_for txs) (take i rules) → n ≡ count_for txs rule → made ++ n ∷ [] ≡ map (count_for txs) (take (i + 1) rules)
counts_more txs rules made i rule n more here so_far is =
    rw (take_more rules i rule more, ← here, so_far, is) (sym (map-append (count_for txs) (take i rules) (rule ∷ [])))
