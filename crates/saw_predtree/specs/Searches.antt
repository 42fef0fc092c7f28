-- Whom a search finds.
use Rattle.std.specs.Prelude.{◌≡◌, ◌⊎◌, ℕ, zero, suc, Bool, true, List, [], ◌++◌, take, Option}
use Rattle.std.specs.List.{list_any}
use Rattle.saw_address.specs.Prefixes.{covers, overlaps}
use Rattle.saw_predtree.specs.declared.place.Usage.{Usage}
use Rattle.saw_predtree.specs.Places.{Places, met_at, met_by}
use Rattle.saw_predtree.specs.Trees.{is_in, is_one_of}

-- j is met at a prefix that passes the test
pub record IsMet (usage : Usage) (writers : List ℕ → Option ℕ) (readers : List ℕ → List ℕ) (test : List ℕ → Bool) (j : ℕ) : Type 0 where
  pub at : List ℕ
  pub passes : test at ≡ true
  pub there : is_in (met_by usage (writers at) (readers at)) j ≡ true

-- exactly those who are met at prefixes that pass the test come to those that were found before
pub record Gathers (usage : Usage) (writers : List ℕ → Option ℕ) (readers : List ℕ → List ℕ) (test : List ℕ → Bool) (old new : List ℕ) : Type 0 where
  pub kept : (j : ℕ) → is_in old j ≡ true → is_in new j ≡ true
  pub sound : (j : ℕ) → is_in new j ≡ true → (is_in old j ≡ true) ⊎ IsMet usage writers readers test j
  pub whole : (at : List ℕ) (j : ℕ) → test at ≡ true → is_in (met_by usage (writers at) (readers at)) j ≡ true → is_in new j ≡ true

-- who is met at the prefixes of a key that are shorter than n
abbrev pub met_above : Usage → Places → List ℕ → ℕ → List ℕ
met_above usage places key zero = []
met_above usage places key (suc n) = met_above usage places key n ++ met_at usage places (take n key)

abbrev pub overlaps_any : List (List ℕ) → List ℕ → Bool
overlaps_any keys at = list_any (λ key. overlaps at key) keys

-- some of the keys covers the prefix
pub record IsCovered (keys : List (List ℕ)) (prefix : List ℕ) : Type 0 where
  pub key : List ℕ
  pub one : is_one_of keys key ≡ true
  pub above : covers key prefix ≡ true

-- the prefix covers some of the keys
pub record IsAbove (prefix : List ℕ) (keys : List (List ℕ)) : Type 0 where
  pub key : List ℕ
  pub one : is_one_of keys key ≡ true
  pub above : covers prefix key ≡ true

-- some of the prefixes, which cover all that no other key covers
pub record AreWidest (prefixes others keys : List (List ℕ)) : Type 0 where
  pub among : (key : List ℕ) → is_one_of keys key ≡ true → is_one_of prefixes key ≡ true
  pub covering : (prefix : List ℕ) → is_one_of prefixes prefix ≡ true → IsCovered keys prefix ⊎ IsCovered others prefix
