-- The setting of allowed families.
use Rattle.std.specs.Prelude.{ℕ, List, [], ◌∷◌, Option, Some, None, option_map, option_and_then, codes}
use Rattle.serde_json.specs.Data.{Data, Items, no_items, item}
use Rattle.serde_json.specs.Find.{get, as_array, as_str}
use Rattle.serde_json.specs.Read.{read}
use Rattle.saw_rules.specs.declared.families.Family.{Family}

-- the text under a key of an object
abbrev pub text_under : List ℕ → Data → Option (List ℕ)
text_under key element = option_and_then as_str (get key element)

-- a family, of an object whose `family` and `version` are strings
abbrev pub family_in : Data → Option Family
family_in element = option_and_then (λ name. option_map (λ version. record { name = name; version = version }) (text_under (codes "version") element)) (text_under (codes "family") element)

-- the families of a list, where each element is one
abbrev pub families_in : Items → Option (List Family)
families_in no_items = Some []
families_in (item element others) = option_and_then (λ family. option_map (λ families. family ∷ families) (families_in others)) (family_in element)

-- the same of a list that is not empty
abbrev pub families_among : Items → Option (List Family)
families_among no_items = None
families_among (item element others) = families_in (item element others)

-- the families that a JSON text lists
unfoldable pub families_of : List ℕ → Option (List Family)
families_of text = option_and_then families_among (option_and_then as_array (read text))
