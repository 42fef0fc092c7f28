-- What a pass knows.
use Rattle.std.specs.Prelude.{◌≡◌, ℕ, ◌-◌, Bool, true, false, List, [], ◌∷◌, ◌++◌, map, replicate, Some}
use Rattle.crossbeam_utils.specs.Seq.{cell_view}
use Rattle.saw_address.specs.Maps.{StateMap, no_entries}
use Rattle.saw_context.specs.Views.{over}
use Rattle.saw_merkle.specs.States.{States, state_at}
use Rattle.saw_node.specs.Trees.{root_of_map}
use Rattle.saw_live.specs.declared.pass.LivePass.{LivePass}
use Rattle.saw_live.specs.declared.rule.Known.{Known}
use Rattle.saw_live.specs.Heads.{knows}
use Rattle.saw_live.specs.Words.{Head, head, head_in}

abbrev pub view_of : LivePass → Known
view_of pass = cell_view pass.pass

-- whether it publishes the heads
abbrev pub publishes : LivePass → Bool
publishes pass = (view_of pass).publishes

-- the history of heads, as far as it has seen it
abbrev pub history : LivePass → List Head
history pass = map head_in (view_of pass).seen

-- the map that it published last
abbrev pub published : LivePass → StateMap
published pass = over no_entries pass.layers

-- and the root of that
abbrev pub published_root : LivePass → List ℕ
published_root pass = pass.root

-- it has published nothing
pub record IsFresh (hash : List ℕ → List ℕ) (pass : LivePass) : Type 0 where
  pub root : published_root pass ≡ root_of_map hash no_entries
  pub map : published pass ≡ no_entries

-- the map that it published last is known to a state
abbrev pub IsKnownIn : States → LivePass → Type 0
IsKnownIn states pass = state_at states (published_root pass) ≡ Some (published pass)

-- nothing but what it knows of the cell's list may differ
pub record IsSame (old new : LivePass) : Type 0 where
  pub root : published_root new ≡ published_root old
  pub map : published new ≡ published old
  pub first : publishes new ≡ publishes old

-- one more head was published, with the map that a state knows
pub record Publishes (states : States) (id root : List ℕ) (old new : LivePass) : Type 0 where
  pub added : history new ≡ history old ++ head id root ∷ []
  pub first : publishes new ≡ true
  pub known : IsKnownIn states new

-- new passes: the first publishes, and none has seen a head
abbrev pub fresh_views : ℕ → List Known
fresh_views passes = knows true [] ∷ replicate (passes - 1) (knows false [])
