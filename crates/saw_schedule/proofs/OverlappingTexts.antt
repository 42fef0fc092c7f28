-- Overlaps of declared texts are those of the bytes of the prefixes among them.
use Rattle.std.proofs.Common.{◌≡◌, ◌%◌, ℕ, Bool, true, false, ◌&&◌, ◌||◌, ◌==◌, nat_eq, nat_le, cond, List, [], ◌∷◌, filter, map, length, refl, sym, ap, ap₂, subst, ◌∙◌, bytes_eq, true≢false, Vec, Result, Ok, Err, IfOk}
use Rattle.std.specs.List.{list_all, list_any, starts_with}
use Rattle.std.proofs.lemmas.Bool.{and_parts}
use Rattle.std.proofs.lemmas.List.Folds.{list_all-map}
use Rattle.hex.specs.Hex.{encode_lower}
use Rattle.saw_address.specs.Prefixes.{covers, overlaps}
use Rattle.saw_address.specs.Texts.{is_hex_digit, is_prefix_text}
use Rattle.saw_context.specs.Conversation.{are_covering}
use Rattle.std.specs.Global.{Global}
use Rattle.std.proofs.lemmas.Slice.Eq.{bytes_eq-Decides}
use Rattle.saw_messages.specs.TxEquality.{texts_eq}
use Rattle.saw_messages.specs.TxShapes.{TxShape}
use Rattle.saw_plan.specs.Precedence.{some_overlap as some_texts_overlap, texts_overlap}
use Rattle.saw_predtree.specs.Entries.{some_overlap}
use Rattle.saw_predtree.specs.Trees.{Adds, Tree}
use Rattle.saw_schedule.specs.Overlaps.{AddsTx, AreBytesOf}
use Rattle.saw_schedule.proofs.Texts.{begins}

-- ---- filtered lists

any-step : (test : List ℕ → Bool) (x : List ℕ) (rest : List (List ℕ)) (more b : Bool) → more ≡ list_any test rest → ((b && test x) || more) ≡ list_any test (cond b (x ∷ rest) rest)
any-step test x rest more true e = ap (λ b. test x || b) e
any-step test x rest more false e = e

any-filtered : (is test : List ℕ → Bool) (xs : List (List ℕ)) → list_any (λ x. is x && test x) xs ≡ list_any test (filter is xs)
any-filtered is test [] = refl
any-filtered is test (x ∷ xs) = any-step test x (filter is xs) (list_any (λ x. is x && test x) xs) (is x) (any-filtered is test xs)

all-step : (is : List ℕ → Bool) (x : List ℕ) (rest : List (List ℕ)) (b : Bool) → is x ≡ b → list_all is rest ≡ true → list_all is (cond b (x ∷ rest) rest) ≡ true
all-step is x rest true e all = rw e all
all-step is x rest false e all = all

all-filtered : (is : List ℕ → Bool) (xs : List (List ℕ)) → list_all is (filter is xs) ≡ true
all-filtered is [] = refl
all-filtered is (x ∷ xs) = all-step is x (filter is xs) (is x) refl (all-filtered is xs)

any-same : (f g : List ℕ → Bool) (xs : List (List ℕ)) → ((x : List ℕ) → f x ≡ g x) → list_any f xs ≡ list_any g xs
any-same f g [] same = refl
any-same f g (x ∷ xs) same = rw (same x, any-same f g xs same) refl

any-none : (xs : List (List ℕ)) → list_any (λ x. false) xs ≡ false
any-none [] = refl
any-none (x ∷ xs) = any-none xs

-- ---- two prefixes as they are written

covers-written : (prefix other : List ℕ) → is_prefix_text (encode_lower prefix) ≡ true → covers (encode_lower prefix) (encode_lower other) ≡ covers prefix other
covers-written prefix other is =
    begins prefix other
    (and_parts (length (encode_lower prefix) % 2 == 0 && nat_le (length (encode_lower prefix)) 70) (list_all is_hex_digit (encode_lower prefix)) is).1

overlaps-written : (first second : List ℕ) → is_prefix_text (encode_lower first) ≡ true → is_prefix_text (encode_lower second) ≡ true
    → overlaps (encode_lower first) (encode_lower second) ≡ overlaps first second
overlaps-written first second is_first is_second = rw (covers-written first second is_first, covers-written second first is_second) refl

abbrev is_written : List ℕ → Bool
is_written prefix = is_prefix_text (encode_lower prefix)

one-written : (prefix : List ℕ) (others : List (List ℕ)) → is_written prefix ≡ true → list_all is_written others ≡ true
    → list_any (λ other. overlaps (encode_lower prefix) other) (map encode_lower others) ≡ list_any (λ other. overlaps prefix other) others
one-written prefix [] is all = refl
one-written prefix (other ∷ others) is all =
    let parts = and_parts (is_written other) (list_all is_written others) all in
    rw (overlaps-written prefix other is parts.0, one-written prefix others is parts.1) refl

some-written : (prefixes others : List (List ℕ)) → list_all is_written prefixes ≡ true → list_all is_written others ≡ true
    → list_any (λ text. list_any (λ other. overlaps text other) (map encode_lower others)) (map encode_lower prefixes) ≡ some_overlap prefixes others
some-written [] others all all_others = refl
some-written (prefix ∷ prefixes) others all all_others =
    let parts = and_parts (is_written prefix) (list_all is_written prefixes) all in
    rw (one-written prefix others parts.0 all_others, some-written prefixes others parts.1 all_others) refl

-- ---- texts

one-text : (text : List ℕ) (others : List (List ℕ)) → list_any (λ other. texts_overlap text other) others
    ≡ (is_prefix_text text && list_any (λ other. overlaps text other) (filter is_prefix_text others))
one-text text others = go (is_prefix_text text)
  where
    go : (b : Bool) → list_any (λ other. (b && is_prefix_text other) && overlaps text other) others ≡ (b && list_any (λ other. overlaps text other) (filter is_prefix_text others))
    go true = any-filtered is_prefix_text (λ other. overlaps text other) others
    go false = any-none others

all-written : (texts prefixes : List (List ℕ)) → AreBytesOf texts prefixes → list_all is_written prefixes ≡ true
all-written texts prefixes are = sym (list_all-map is_prefix_text encode_lower prefixes) ∙ (ap (λ (all : List (List ℕ)). list_all is_prefix_text all) are ∙ all-filtered is_prefix_text texts)

-- some of the texts overlap where some of the prefixes do
pub texts-overlap : (texts others prefixes other_prefixes : List (List ℕ)) → AreBytesOf texts prefixes → AreBytesOf others other_prefixes
    → some_texts_overlap texts others ≡ some_overlap prefixes other_prefixes
texts-overlap texts others prefixes other_prefixes are others_are =
    any-same (λ text. list_any (λ other. texts_overlap text other) others) (λ text. is_prefix_text text && list_any (λ other. overlaps text other) (filter is_prefix_text others)) texts (λ text. one-text text others)
    ∙ (any-filtered is_prefix_text (λ text. list_any (λ other. overlaps text other) (filter is_prefix_text others)) texts
    ∙ (ap (λ (all : List (List ℕ)). list_any (λ text. list_any (λ other. overlaps text other) (filter is_prefix_text others)) all) (sym are)
    ∙ (ap (λ (all : List (List ℕ)). list_any (λ text. list_any (λ other. overlaps text other) all) (map encode_lower prefixes)) (sym others_are)
    ∙ some-written prefixes other_prefixes (all-written texts prefixes are) (all-written others other_prefixes others_are))))

-- ---- what texts cover

covering-written : (prefixes : List (List ℕ)) (at : List ℕ) → list_all is_written prefixes ≡ true
    → list_any (λ text. starts_with nat_eq (encode_lower at) text) (map encode_lower prefixes) ≡ list_any (λ prefix. covers prefix at) prefixes
covering-written [] at all = refl
covering-written (prefix ∷ prefixes) at all =
    let parts = and_parts (is_written prefix) (list_all is_written prefixes) all in
    rw (covers-written prefix at parts.0, covering-written prefixes at parts.1) refl

-- texts cover what the prefixes that are written among them do
pub texts-cover : (texts prefixes : List (List ℕ)) (at : List ℕ) → AreBytesOf texts prefixes → list_any (λ prefix. covers prefix at) prefixes ≡ are_covering texts at
texts-cover texts prefixes at are =
    sym (any-filtered is_prefix_text (λ text. starts_with nat_eq (encode_lower at) text) texts
    ∙ (ap (λ (all : List (List ℕ)). list_any (λ text. starts_with nat_eq (encode_lower at) text) all) (sym are)
    ∙ covering-written prefixes at (all-written texts prefixes are)))

-- ---- a transaction that writes where it reads

pub same-texts : (first second : List (List ℕ)) → texts_eq first second ≡ true → first ≡ second
same-texts [] [] e = refl
same-texts [] (text ∷ second) e = absurd (true≢false (sym e))
same-texts (text ∷ first) [] e = absurd (true≢false (sym e))
same-texts (text ∷ first) (other ∷ second) e =
    let parts = and_parts (bytes_eq text other) (texts_eq first second) e in
    ap₂ (λ (x : List ℕ) (xs : List (List ℕ)). x ∷ xs) ((bytes_eq-Decides text other).0 parts.0) (same-texts first second parts.1)

pub adds-alike : {E : Type 0} (old new : Tree) (k : ℕ) (tx : TxShape) (inputs : List (List ℕ)) (result : Result (Vec ℕ Global) E) → AreBytesOf tx.header.inputs inputs
    → tx.header.inputs ≡ tx.header.outputs → IfOk result (λ found. Adds old new k inputs inputs found.items) → IfOk result (λ found. AddsTx old new k tx found.items)
adds-alike old new k tx inputs (Ok found) are same adds = record {
  inputs = inputs;
  outputs = inputs;
  inputs_are = are;
  outputs_are = subst (λ (texts : List (List ℕ)). AreBytesOf texts inputs) same are;
  adds = adds;
}
adds-alike old new k tx inputs (Err e) are same adds = tt
