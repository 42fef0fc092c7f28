-- Maps that have only addresses.
use Rattle.std.proofs.Common.{◌≡◌, ℕ, Bool, true, false, cond, List, [], ◌∷◌, Option, Some, None, refl, sym, ap, ◌∙◌}
use Rattle.std.specs.Prelude.{◌&&◌}
use Rattle.std.specs.Cmp.{eq_by_cmp_equiv}
use Rattle.std.specs.Cmp.Lexicographic.{nat_list_cmp_total, same_text, slice_cmp, texts_ties}
use Rattle.std.specs.FinMap as finite
use Rattle.std.specs.FinMap.Entries.{find}
use Rattle.std.specs.List.{list_all}
use Rattle.std.specs.Map.{keys_of}
use Rattle.std.specs.Ordering.{eq_by_cmp, nat_cmp}
use Rattle.std.specs.Str.{bytes_eq}
use Rattle.saw_address.specs.Maps.{AreAddresses, Entries, StateMap, is_address, value_at}

-- elsewhere than at addresses there is nothing
abbrev pub NoneElsewhere : (List ℕ → Option (List ℕ)) → Type 0
NoneElsewhere at = (q : List ℕ) → is_address q ≡ false → at q ≡ None

found_first : (es : Entries) (key value : List ℕ) (address : Bool) → is_address key ≡ address
    → NoneElsewhere (λ q. find (slice_cmp nat_cmp) q ((key, value) ∷ es)) → address ≡ true
found_first es key value true is none = refl
found_first es key value false is none =
    let tied : eq_by_cmp (slice_cmp nat_cmp) key key ≡ true = (eq_by_cmp_equiv nat_list_cmp_total).refl key in
    let missing : cond (eq_by_cmp (slice_cmp nat_cmp) key key) (Some value) (find (slice_cmp nat_cmp) key es) ≡ None = none key is in
    let found : Some value ≡ None = ap (λ b. cond b (Some value) (find (slice_cmp nat_cmp) key es)) (sym tied) ∙ missing in
    absurd cc

found_later : (here : Bool) (value : List ℕ) (others : Option (List ℕ)) → cond here (Some value) others ≡ None → others ≡ None
found_later true value others e = absurd cc
found_later false value others e = e

are_addresses : (es : Entries) → NoneElsewhere (λ q. find (slice_cmp nat_cmp) q es) → AreAddresses es
are_addresses [] none = refl
are_addresses (e ∷ es) none =
    ap (λ b. b && list_all is_address (keys_of es)) (found_first es e.0 e.1 (is_address e.0) refl none)
    ∙ are_addresses es (λ q other. found_later (eq_by_cmp (slice_cmp nat_cmp) q e.0) e.1 (find (slice_cmp nat_cmp) q es) (none q other))

not_here : (here : Bool) (value : List ℕ) (others : Option (List ℕ)) → here ≡ false → others ≡ None → cond here (Some value) others ≡ None
not_here here value others e none = ap (λ b. cond b (Some value) others) e ∙ none

and_both : (a b : Bool) → (a && b) ≡ true → (a ≡ true) × (b ≡ true)
and_both true b e = (refl, e)
and_both false b e = absurd cc

other_key : (key q : List ℕ) → is_address key ≡ true → is_address q ≡ false → (here : Bool) → bytes_eq key q ≡ here → here ≡ false
other_key key q is other false e = refl
other_key key q is other true e = let same : is_address key ≡ is_address q = ap is_address (same_text key q (sym e)) in absurd cc

none_elsewhere : (es : Entries) → AreAddresses es → NoneElsewhere (λ q. find (slice_cmp nat_cmp) q es)
none_elsewhere [] all = λ q other. refl
none_elsewhere (e ∷ es) all = λ q other.
    let parts = and_both (is_address e.0) (list_all is_address (keys_of es)) all in
    not_here (eq_by_cmp (slice_cmp nat_cmp) q e.0) e.1 (find (slice_cmp nat_cmp) q es)
    ((eq_by_cmp_equiv nat_list_cmp_total).symm q e.0 ∙ sym (texts_ties e.0 q) ∙ other_key e.0 q parts.0 other (bytes_eq e.0 q) refl)
    (none_elsewhere es parts.1 q other)

pub in_map : (m : StateMap) → AreAddresses (finite.entries m) → NoneElsewhere (value_at m)
in_map m all = λ q other. finite.get-entries m q ∙ none_elsewhere (finite.entries m) all q other

pub of_map : (m : StateMap) → NoneElsewhere (value_at m) → AreAddresses (finite.entries m)
of_map m none = are_addresses (finite.entries m) (λ q other. sym (finite.get-entries m q) ∙ none q other)
