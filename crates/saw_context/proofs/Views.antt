-- What a transaction may read of what earlier ones left.
use Rattle.std.proofs.Common.{◌≡◌, ℕ, Bool, true, false, List, None, sym, ap, ◌∙◌}
use Rattle.std.specs.Prelude.{if◌then◌else◌}
use Rattle.std.specs.List.{list_any}
use Rattle.std.specs.FinMap as finite
use Rattle.std.proofs.lemmas.Map.Lookups.{exact_bytes}
use Rattle.saw_address.specs.Prefixes.{covers}
use Rattle.saw_context.specs.Views.{layers_of}
use Rattle.saw_context.specs.declared.view.View.{View}

-- what stands at an address, where an input covers it
pub get-layers_of : (view : View) (at : List ℕ)
    → finite.get (layers_of view) at ≡ (if list_any (λ prefix. covers prefix at) view.inputs.items then finite.get view.layers at else None)
get-layers_of view at = finite.get-retain_keys view.layers (λ at. list_any (λ prefix. covers prefix at) view.inputs.items) at
    (λ other tied. ap (λ at. list_any (λ prefix. covers prefix at) view.inputs.items) (sym (exact_bytes at other tied)))

module _ (view : View) (prefixes : List (List ℕ)) (at : List ℕ) (same : prefixes ≡ view.inputs.items) where
  by_test : (test : Bool) → list_any (λ prefix. covers prefix at) prefixes ≡ test
      → finite.get (layers_of view) at ≡ (if test then finite.get view.layers at else None)
  by_test test is =
      get-layers_of view at
      ∙ ap (λ one. if one then finite.get view.layers at else None) (ap (list_any (λ prefix. covers prefix at)) (sym same) ∙ is)

  -- an input covers the address
  pub get-covered : list_any (λ prefix. covers prefix at) prefixes ≡ true → finite.get (layers_of view) at ≡ finite.get view.layers at
  get-covered is = by_test true is

  -- no input does
  pub get-uncovered : list_any (λ prefix. covers prefix at) prefixes ≡ false → finite.get (layers_of view) at ≡ None
  get-uncovered is = by_test false is
