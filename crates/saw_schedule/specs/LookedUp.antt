-- What whole addresses show, looked up one by one.
use Rattle.std.specs.Prelude.{◌≡◌, ◌⊎◌, ℕ, nat_le, nat_lt, Bool, false, true, List, length, None, if◌then◌else◌}
use Rattle.std.specs.Arc.{arc_value}
use Rattle.std.specs.FinMap as finite
use Rattle.std.specs.Global.{Global}
use Rattle.std.specs.List.{list_all, list_any}
use Rattle.std.specs.Str.{bytes_eq}
use Rattle.std.specs.declared.sync.Arc.{Arc}
use Rattle.saw_messages.specs.declared.tx.Tx.{Tx}
use Rattle.saw_context.specs.Conversation.{are_covering}
use Rattle.saw_context.specs.declared.view.View.{View as Shown}
use Rattle.saw_machine.specs.Machine.{View}
use Rattle.saw_ready.specs.Edges.{begin, finish}
use Rattle.saw_ready.specs.declared.edges.Edges.{Edges}

-- no text is shorter than that of an address
abbrev pub are_whole : List (List ℕ) → Bool
are_whole texts = list_all (λ text. nat_le 70 (length text)) texts

-- no transaction reads below a prefix that is shorter than an address
abbrev pub do_read_whole : List (Arc Tx Global) → Bool
do_read_whole txs = list_all (λ (tx : Arc Tx Global). are_whole (arc_value tx).header.inputs) txs

-- one of the prefixes is this one
abbrev pub is_one_of : List (List ℕ) → List ℕ → Bool
is_one_of prefixes at = list_any (λ prefix. bytes_eq prefix at) prefixes

-- The view has what is shown at some of the addresses that the texts are, and nothing else; at the others nothing is shown.
pub record IsLookedUp (shown : View) (texts : List (List ℕ)) (view : Shown) : Type 0 where
  pub there : (at : List ℕ) → finite.get view.layers at ≡ (if is_one_of view.inputs.items at then shown at else None)
  pub some : (at : List ℕ) → is_one_of view.inputs.items at ≡ true → (length at ≡ 35) × (are_covering texts at ≡ true)
  pub all : (at : List ℕ) → length at ≡ 35 → are_covering texts at ≡ true → (is_one_of view.inputs.items at ≡ true) ⊎ (shown at ≡ None)

-- no transaction precedes k
abbrev pub IsFirst : Edges → ℕ → Type 0
IsFirst preds k = nat_lt (begin preds k) (finish preds k) ≡ false
