-- Blocks that are looked up by their ids.
use Rattle.std.proofs.Common.{◌≡◌, ℕ, Bool, true, false, cond, List, [], ◌∷◌, map, Option, Some, None, refl, ap, ◌∙◌, arith, Bor}
use Rattle.std.specs.Global.{Global}
use Rattle.std.specs.Map.{keys_of, values_of, lookup}
use Rattle.std.specs.Prelude.{string_bytes, String, is_some, option_copied, ◌||◌}
use Rattle.std.specs.Cmp.Lexicographic.{nat_list_eq_equiv}
use Rattle.std.specs.Str.{bytes_eq}
use Rattle.saw_receipts.specs.declared.block.BlockRecord.{BlockRecord}
use Rattle.saw_receipts.specs.Branches.{block_at, has_block}

pub heads : {x y : List ℕ} {xs ys : List (List ℕ)} → (◌≡◌ {A = List (List ℕ)} (x ∷ xs) (y ∷ ys)) → (x ≡ y) × (xs ≡ ys)
heads e = grind (arith, e)

pub found : (es : List (String Global × BlockRecord)) (id : List ℕ) → map string_bytes (keys_of es) ≡ map (λ block. block.id) (values_of es)
    → lookup (λ k. bytes_eq id (string_bytes k)) es ≡ block_at (values_of es) id
found [] id same = refl
found (e ∷ es) id same =
    let parts = heads same in
    ap (λ key. cond (bytes_eq id key) (Some e.1) (lookup (λ k. bytes_eq id (string_bytes k)) es)) parts.0
    ∙ ap (λ b. cond b (Some e.1) (lookup (λ k. bytes_eq id (string_bytes k)) es)) (nat_list_eq_equiv.symm id e.1.id)
    ∙ ap (cond (bytes_eq e.1.id id) (Some e.1)) (found es id parts.1)

some_cond : (b : Bool) (block : BlockRecord) (others : Option BlockRecord) → is_some (cond b (Some block) others) ≡ (b || is_some others)
some_cond true block others = refl
some_cond false block others = refl

pub is_there : (blocks : List BlockRecord) (id : List ℕ) → is_some (block_at blocks id) ≡ has_block blocks id
is_there [] id = refl
is_there (block ∷ blocks) id = some_cond (bytes_eq block.id id) block (block_at blocks id) ∙ ap (λ b. bytes_eq block.id id || b) (is_there blocks id)

pub copied_is_some : {X : Type 0} (r : Option (Bor X)) → is_some r ≡ is_some (option_copied r)
copied_is_some None = refl
copied_is_some (Some x) = refl
