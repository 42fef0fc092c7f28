-- The list of heads: the cell shows its last entry, and each pass knows a beginning of it.
use Rattle.std.specs.Prelude.{◌≡◌, ◌⊎◌, ℕ, Bool, true, List, [], ◌∷◌, ◌++◌, length, take, drop, slice_index}
use Rattle.std.specs.List.{AllByRecursion}
use mathlib.Core.Option.{some}
use lib.ListN.{get_elem?}
use Rattle.saw_live.specs.declared.rule.HeadWords.{HeadWords}
use Rattle.saw_live.specs.declared.rule.Known.{Known}

abbrev pub head_words : List ℕ → List ℕ → HeadWords
head_words id root = record { id = id; root = root }

-- what a pass knows in which none has ended
abbrev pub knows : Bool → List HeadWords → Known
knows publishes seen = record { publishes = publishes; seen = seen; met = [] }

-- the head that words show: behind the count eight words of the id and four of the root
abbrev pub head_of : List ℕ → HeadWords
head_of words = head_words (take 8 (drop 1 words)) (take 4 (drop 9 words))

-- words show how many heads there are, and the last one
abbrev pub Ends : List HeadWords → List ℕ → Type 0
Ends heads words = (length heads ≡ slice_index words 0) × ((heads ≡ []) ⊎ ((before : List HeadWords) × (heads ≡ before ++ head_of words ∷ [])))

-- a list begins with another
abbrev pub StartsWith : {A : Type 0} → List A → List A → Type 0
StartsWith {A} whole front = (rest : List A) × (whole ≡ front ++ rest)

-- a pass has seen a beginning of the list, as have those that ended in it; the one that publishes has seen all of it
abbrev pub Fits : ℕ → List HeadWords → ℕ → Known → Type 0
Fits publisher heads number v = StartsWith heads v.seen × (v.publishes ≡ true → (number ≡ publisher) × (v.seen ≡ heads))
    × AllByRecursion (StartsWith heads) v.met

-- the rule
abbrev pub ShowsLastHead : List ℕ → List Known → Type 0
ShowsLastHead words views = (publisher : ℕ) × (heads : List HeadWords) × Ends heads words
    × ((number : ℕ) (v : Known) → get_elem? views number ≡ some v → Fits publisher heads number v)

-- the pass has then seen the list that the words show; one that publishes knew it, and those that ended in the pass had
-- seen a beginning
abbrev pub Looks : Known → List ℕ → Known → Type 0
Looks v words w = StartsWith w.seen v.seen × (w.publishes ≡ v.publishes) × Ends w.seen words × (v.publishes ≡ true → w.seen ≡ v.seen)
    × (w.met ≡ v.met) × AllByRecursion (StartsWith w.seen) w.met

-- the head that the words show is one more
abbrev pub Adds : Known → List ℕ → Known → Type 0
Adds v words w = w ≡ record v { seen = v.seen ++ head_of words ∷ [] }
