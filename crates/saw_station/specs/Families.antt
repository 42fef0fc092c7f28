-- The families whose processors are built in: one table.
use Rattle.std.specs.Prelude.{ℕ, Bool, true, false, cond, ◌&&◌, List, [], ◌∷◌, Option, Some, None, if◌then◌else◌}
use Rattle.std.specs.List.{AllByRecursion}
use Rattle.std.specs.Str.{bytes_eq}
use Rattle.saw_messages.specs.declared.talk.Action.{Action}
use Rattle.saw_messages.specs.declared.talk.Turn.{Turn}
use Rattle.saw_intkey.specs.Actions as intkey
use Rattle.saw_xo.specs.Actions as xo
use Rattle.saw_settings.specs.Actions as settings
use Rattle.saw_station.specs.declared.offer.Offer.{Offer}
use Rattle.saw_station.specs.declared.serving.Family.{Family}
use Rattle.saw_station.specs.declared.serving.Family.TheVariants.{IntKey, Xo, Settings}

-- a family's name and version, and its next action by the signer, the payload and the turns so far
pub record Row : Type 0 where
  pub name : List ℕ
  pub version : List ℕ
  pub next : List ℕ → List ℕ → List Turn → Action

abbrev pub row : Family → Row
row IntKey = record { name = intkey.family_name; version = intkey.family_version; next = λ signer payload turns. intkey.next payload turns }
row Xo = record { name = xo.family_name; version = xo.family_version; next = xo.next }
row Settings = record { name = settings.family_name; version = settings.family_version; next = settings.next }

abbrev pub families : List Row
families = row IntKey ∷ row Xo ∷ row Settings ∷ []

-- what a processor of it registers
abbrev pub offer_of : Row → Offer
offer_of one = record { family = one.name; version = one.version }

-- ---- who is built in

abbrev pub is_family : List ℕ → List ℕ → List ℕ → List ℕ → Bool
is_family name its_version family version = bytes_eq family name && bytes_eq version its_version

-- the first of a name and version
abbrev pub first_of : List ℕ → List ℕ → List Row → Option Row
first_of family version [] = None
first_of family version (one ∷ others) = if is_family one.name one.version family version then Some one else first_of family version others

abbrev pub family_of : List ℕ → List ℕ → Option Row
family_of family version = first_of family version families

-- what is so of each row, and where there is none, is so of whichever is named
module _ (Q : Option Row → Type 0) (none : Q None) (family version : List ℕ) where
  either : (test : Bool) (x y : Option Row) → Q x → Q y → Q (cond test x y)
  either true x y first second = first
  either false x y first second = second

  by_rows : (rows : List Row) → AllByRecursion (λ one. Q (Some one)) rows → Q (first_of family version rows)
  by_rows [] all = none
  by_rows (one ∷ others) all = either (is_family one.name one.version family version) (Some one) (first_of family version others) all.0 (by_rows others all.1)

  pub of_each : AllByRecursion (λ one. Q (Some one)) families → Q (family_of family version)
  of_each all = by_rows families all
