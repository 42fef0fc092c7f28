-- What a pass published last is known to a state.
use Rattle.std.proofs.Common.{◌≡◌, ℕ, List, Some, cond, sym, ap, ◌∙◌}
use Rattle.std.specs.Cmp.Lexicographic.{nat_list_cmp_total, nat_list_eq_equiv, texts_ties}
use Rattle.std.specs.FinMap as finite
use Rattle.std.specs.Str.{bytes_eq}
use Rattle.saw_address.specs.Maps.{StateMap, no_entries}
use Rattle.saw_merkle.specs.States.{States, Stays, knows, state_at}
use Rattle.saw_node.specs.Trees.{root_of_map}
use Rattle.saw_live.specs.Passes.{IsFresh, IsKnownIn}
use Rattle.saw_live.specs.declared.pass.LivePass.{LivePass}

-- it stays known to a state that grows
pub known_stays : (old new : States) (pass : LivePass) → Stays old new → IsKnownIn old pass → IsKnownIn new pass
known_stays old new pass stays is = stays pass.root _ is

known_under : (hash : List ℕ → List ℕ) (states : States) (m : StateMap) (root : List ℕ) → root ≡ root_of_map hash m
    → state_at (knows hash states m) root ≡ Some m
known_under hash states m root is =
    finite.get-insert nat_list_cmp_total states (root_of_map hash m) m root
    ∙ ap (λ b. cond b (Some m) (state_at states root))
    (sym (texts_ties root (root_of_map hash m)) ∙ ap (bytes_eq root) (sym is) ∙ nat_list_eq_equiv.refl root)

-- a pass that has published nothing is known to the state of a journal without blocks
pub fresh_known : (hash : List ℕ → List ℕ) (pass : LivePass) → IsFresh hash pass → IsKnownIn (knows hash finite.empty no_entries) pass
fresh_known hash pass fresh = known_under hash finite.empty no_entries pass.root fresh.root ∙ ap Some (sym fresh.map)
