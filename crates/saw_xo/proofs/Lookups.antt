-- What an act makes of the games, by what the entries of the map have at the name.
use Rattle.std.proofs.Common.{◌≡◌, ℕ, true, false, cond, List, [], Option, Some, None, Ok, Err, is_some, sym, ap, refl, ◌∙◌}
use Rattle.std.specs.Ordering.{nat_cmp}
use Rattle.std.specs.Cmp.Lexicographic.{slice_cmp}
use Rattle.std.specs.Map.{lookup}
use Rattle.std.specs.BTreeMap.{is_at}
use Rattle.std.specs.FinMap as finite
use Rattle.std.proofs.lemmas.Bool.{false≢true}
use Rattle.saw_address.proofs.Finite.{get-map_of, map_inserted, map_removed}
use Rattle.saw_xo.specs.Games.{Games}
use Rattle.saw_xo.specs.Moves.{changed_by, new_game, taken, with_game}
use Rattle.saw_xo.specs.Changes.{created, deleted, with_taken}
use Rattle.saw_xo.specs.declared.game.Game.{Game}
use Rattle.saw_xo.specs.declared.payload.Act.TheVariants.{Create, Take, Delete}

abbrev pub Entries : Type 0
Entries = List (List ℕ × Game)

abbrev pub has : Entries → List ℕ → Option Game
has es name = lookup (is_at (slice_cmp nat_cmp name)) es

-- the entries fs are es with another value, or none, at the name
abbrev pub Differs : Entries → Entries → List ℕ → Option Game → Type 0
Differs es fs name value = (q : List ℕ) → has fs q ≡ cond (is_at (slice_cmp nat_cmp name) q) value (has es q)

create_present : (games : Games) (name : List ℕ) (there : Option Game) → is_some there ≡ true → changed_by [] games name Create there ≡ Err 207
create_present games name (Some game) e = refl
create_present games name None e = absurd (false≢true e)

create_absent : (games : Games) (name : List ℕ) (there : Option Game) → is_some there ≡ false
    → changed_by [] games name Create there ≡ Ok (finite.insert games name new_game)
create_absent games name (Some game) e = absurd (false≢true (sym e))
create_absent games name None e = refl

pub created_present : (es : Entries) (name : List ℕ) → is_some (has es name) ≡ true → Err 207 ≡ created (finite.from_entries es) name
created_present es name h = sym (create_present (finite.from_entries es) name (finite.get (finite.from_entries es) name) (ap is_some (get-map_of es name) ∙ h))

pub created_absent : (es fs : Entries) (name : List ℕ) (game : Game) → is_some (has es name) ≡ false → game ≡ new_game
    → Differs es fs name (Some game) → Ok (finite.from_entries fs) ≡ created (finite.from_entries es) name
created_absent es fs name game h new updates =
    let games : Games = finite.from_entries es in
    ap Ok (map_inserted es fs name game updates ∙ ap (finite.insert games name) new)
    ∙ sym (create_absent games name (finite.get games name) (ap is_some (get-map_of es name) ∙ h))

pub taken_absent : (es : Entries) (name signer : List ℕ) (place : ℕ) → None ≡ has es name → Err 208 ≡ with_taken signer place (finite.from_entries es) name
taken_absent es name signer place h = ap (changed_by signer (finite.from_entries es) name (Take place)) (h ∙ sym (get-map_of es name))

taken_there : (es : Entries) (name signer : List ℕ) (place : ℕ) (game : Game) → Some game ≡ has es name
    → with_game (finite.from_entries es) name (taken signer place game) ≡ with_taken signer place (finite.from_entries es) name
taken_there es name signer place game h = ap (changed_by signer (finite.from_entries es) name (Take place)) (h ∙ sym (get-map_of es name))

pub taken_well : (es fs : Entries) (name signer : List ℕ) (place : ℕ) (game made : Game) → Some game ≡ has es name → Ok made ≡ taken signer place game
    → Differs es fs name (Some made) → Ok (finite.from_entries fs) ≡ with_taken signer place (finite.from_entries es) name
taken_well es fs name signer place game made h is updates =
    ap Ok (map_inserted es fs name made updates) ∙ ap (with_game (finite.from_entries es) name) is ∙ taken_there es name signer place game h

pub taken_badly : (es : Entries) (name signer : List ℕ) (place : ℕ) (game : Game) (number : ℕ) → Some game ≡ has es name
    → Err number ≡ taken signer place game → Err number ≡ with_taken signer place (finite.from_entries es) name
taken_badly es name signer place game number h is = ap (with_game (finite.from_entries es) name) is ∙ taken_there es name signer place game h

pub deleted_absent : (es : Entries) (name : List ℕ) → None ≡ has es name → Err 208 ≡ deleted (finite.from_entries es) name
deleted_absent es name h = ap (changed_by [] (finite.from_entries es) name Delete) (h ∙ sym (get-map_of es name))

pub deleted_present : (es fs : Entries) (name : List ℕ) (game : Game) → Some game ≡ has es name → Differs es fs name None
    → Ok (finite.from_entries fs) ≡ deleted (finite.from_entries es) name
deleted_present es fs name game h updates =
    ap Ok (map_removed es fs name updates) ∙ ap (changed_by [] (finite.from_entries es) name Delete) (h ∙ sym (get-map_of es name))
