-- New pieces at their places, one more at a time.
use Rattle.std.proofs.Common.{◌≡◌, ◌⊎◌, ℕ, zero, suc, ◌+◌, ◌<◌, true, false, true≢false, cond, List, [], ◌∷◌, ◌++◌, length, get_or, take, drop, refl, sym, ap, ◌∙◌, subst, Option, Some, None, inl, inr, arith, append-nil, append_assoc, take-append-drop, drop-cons, take-suc, length-append, length-take-le}
use Rattle.std.proofs.Math.ListN.{get_or-append}
use Rattle.std.proofs.Math.Seq.{get_or-append_seam}
use Rattle.std.specs.Map.{lookup}
use Rattle.std.specs.Str.{bytes_eq}
use Rattle.std.proofs.lemmas.Bool.{cases_Bool}
use Rattle.std.proofs.lemmas.Slice.Eq.{bytes_eq-Decides}
use Rattle.saw_node.specs.Nodes.{Shape}
use Rattle.saw_runs.specs.Apart.{AreNoted, AreSound, IsFree, IsSound}
use Rattle.saw_runs.specs.Entries.{Entry, AreNamed, IsAmong, IsReadOr, IsWhole, entry_hash, entry_of}
use Rattle.saw_runs.specs.Entries.Entry.{OfNode, OfRun}
use Rattle.saw_runs.specs.Keeping.{AreClear, AreEnded, AreTheirs, IsEnded, NewsAreEnded}
use Rattle.saw_runs.specs.Pieces.{EachIs}
use Rattle.saw_runs.specs.declared.pieces.NewPiece.{NewPiece}
use Rattle.saw_runs.proofs.Among.{read_left}

-- ---- lists of new pieces

among_parts : (xs ys : List NewPiece) (h : List ℕ) (entry : Entry) → IsAmong (xs ++ ys) h entry → IsAmong xs h entry ⊎ IsAmong ys h entry
among_parts [] ys h entry a = inr a
among_parts (x ∷ xs) ys h entry a = elim a [
  | inl here ↦ inl (inl here)
  | inr rest ↦ elim (among_parts xs ys h entry rest) [ inl first ↦ inl (inr first) | inr second ↦ inr second ]
]

pub among_at : (news : List NewPiece) (at : ℕ) (other : NewPiece) → at < length news
    → IsAmong news (get_or news at other).hash (entry_of (get_or news at other).piece)
among_at [] at other below = absurd (omega arith)
among_at (new ∷ news) zero other below = inl (refl, refl)
among_at (new ∷ news) (suc at) other below = inr (among_at news at other (omega arith))

one_more : (news : List NewPiece) (at : ℕ) (new : NewPiece) → new ≡ get_or news at new → at < length news → take (at + 1) news ≡ take at news ++ new ∷ []
one_more news at new is below =
    let next : at + 1 ≡ suc at = omega arith in
    ap (λ n. take n news) next ∙ take-suc news at new below ∙ ap (λ n. take at news ++ n ∷ []) (sym is)

pub cut_at : (news : List NewPiece) (at : ℕ) (new : NewPiece) → new ≡ get_or news at new → at < length news
    → take at news ++ new ∷ drop (suc at) news ≡ news
cut_at news at new is below =
    ap (λ n. take at news ++ n ∷ drop (suc at) news) is ∙ ap (λ xs. take at news ++ xs) (sym (drop-cons news at new below)) ∙ take-append-drop at news

-- ---- places that are noted

some_once : {x y : ℕ} → Some x ≡ Some y → x ≡ y
some_once e = cc

some_none : {x : ℕ} → Some x ≡ None → ⊥
some_none e = cc

pub noted_none : (places : List (List ℕ × ℕ)) → places ≡ [] → AreNoted [] places
noted_none places none = record {
  within = λ h place found. absurd (nowhere h place found);
  here = λ other h place found. absurd (nowhere h place found);
  all = λ h entry among. absurd among;
}
  where
    nowhere : (h : List ℕ) (place : ℕ) → lookup (bytes_eq h) places ≡ Some place → ⊥
    nowhere h place found = some_none (sym found ∙ ap (lookup (bytes_eq h)) none)

-- what is found by a noted place is known
pub known_at : (read : List ℕ → Option Entry) (before : List NewPiece) (places : List (List ℕ × ℕ)) (h : List ℕ) (place : ℕ) (other : NewPiece) (entry : Entry)
    → AreNoted before places → Some place ≡ lookup (bytes_eq h) places → entry ≡ entry_of (get_or before place other).piece → IsReadOr read before h entry
known_at read before places h place other entry noted found is =
    let among = among_at before place other (noted.within h place (sym found)) in
    inr (subst (IsAmong before h) (sym is)
    (subst (λ q. IsAmong before q (entry_of (get_or before place other).piece)) (noted.here other h place (sym found)) among))

module _ (before : List NewPiece) (new : NewPiece) (old after : List (List ℕ × ℕ))
    (added : (q : List ℕ) → lookup (bytes_eq q) after ≡ cond (bytes_eq new.hash q) (Some (length before)) (lookup (bytes_eq q) old)) where
  there : (h : List ℕ) → bytes_eq new.hash h ≡ true → lookup (bytes_eq h) after ≡ Some (length before)
  there h tied = added h ∙ ap (λ b. cond b (Some (length before)) (lookup (bytes_eq h) old)) tied

  elsewhere : (h : List ℕ) → bytes_eq new.hash h ≡ false → lookup (bytes_eq h) after ≡ lookup (bytes_eq h) old
  elsewhere h apart = added h ∙ ap (λ b. cond b (Some (length before)) (lookup (bytes_eq h) old)) apart

  noted_within : AreNoted before old → (h : List ℕ) (place : ℕ) → lookup (bytes_eq h) after ≡ Some place → place < length (before ++ new ∷ [])
  noted_within noted h place found =
      let longer = length-append before (new ∷ []) in
      elim (cases_Bool (bytes_eq new.hash h)) [
        | inl tied ↦ let last : length before ≡ place = some_once (sym (there h tied) ∙ found) in omega (arith, last, longer)
        | inr apart ↦ let was = noted.within h place (sym (elsewhere h apart) ∙ found) in omega (arith, was, longer)
      ]

  noted_here : AreNoted before old → (other : NewPiece) (h : List ℕ) (place : ℕ) → lookup (bytes_eq h) after ≡ Some place
      → (get_or (before ++ new ∷ []) place other).hash ≡ h
  noted_here noted other h place found = elim (cases_Bool (bytes_eq new.hash h)) [
    | inl tied ↦
        let last : length before ≡ place = some_once (sym (there h tied) ∙ found) in
        ap (λ p. (get_or (before ++ new ∷ []) p other).hash) (sym last) ∙ ap (λ (n : NewPiece). n.hash) (get_or-append_seam before new [] other)
        ∙ (bytes_eq-Decides new.hash h).0 tied
    | inr apart ↦
        let was : lookup (bytes_eq h) old ≡ Some place = sym (elsewhere h apart) ∙ found in
        ap (λ (n : NewPiece). n.hash) (get_or-append before (new ∷ []) other place (noted.within h place was)) ∙ noted.here other h place was
  ]

  noted_all : AreNoted before old → (h : List ℕ) (entry : Entry) → IsAmong (before ++ new ∷ []) h entry → lookup (bytes_eq h) after ≡ None → ⊥
  noted_all noted h entry among nowhere = elim (cases_Bool (bytes_eq new.hash h)) [
    | inl tied ↦ some_none (sym (there h tied) ∙ nowhere)
    | inr apart ↦ elim (among_parts before (new ∷ []) h entry among) [
      | inl earlier ↦ noted.all h entry earlier (sym (elsewhere h apart) ∙ nowhere)
      | inr last ↦ elim last [ inl is ↦ true≢false (sym ((bytes_eq-Decides new.hash h).1 is.0) ∙ apart) | inr none ↦ none ]
    ]
  ]

  -- one place more
  pub noted_more : AreNoted before old → AreNoted (before ++ new ∷ []) after
  noted_more noted = record { within = noted_within noted; here = noted_here noted; all = noted_all noted }

-- ---- what is read or new

ended_read : (read : List ℕ → Option Entry) (h : List ℕ) (entry : Entry) → AreEnded read → read h ≡ Some entry → IsEnded read [] entry
ended_read read h (OfNode shape) ends is = tt
ended_read read h (OfRun path bottom) ends is = let end = ends h path bottom is in (end.0, inl end.1)

ended_left : (read : List ℕ → Option Entry) (xs ys : List NewPiece) (entry : Entry) → IsEnded read xs entry → IsEnded read (xs ++ ys) entry
ended_left read xs ys (OfNode shape) end = tt
ended_left read xs ys (OfRun path bottom) end = (end.0, read_left read xs ys bottom (OfNode end.0) end.1)

pub sound_none : (hash : List ℕ → List ℕ) (read : List ℕ → Option Entry) → AreTheirs hash read → AreEnded read → AreSound hash read []
sound_none hash read theirs ends = record {
  each = λ h entry known. elim known [
    | inl is ↦ let own = theirs h entry is in (own.0, own.1, ended_read read h entry ends is)
    | inr among ↦ absurd among
  ];
  clear = λ h e f known_e known_f. elim known_e [
    | inl is_e ↦ elim known_f [ inl is_f ↦ same (sym is_e ∙ is_f) | inr among ↦ absurd among ]
    | inr among ↦ absurd among
  ];
}
  where
    same : {e f : Entry} → Some e ≡ Some f → e ≡ f
    same e = cc

module _ (hash : List ℕ → List ℕ) (read : List ℕ → Option Entry) (before : List NewPiece) (new : NewPiece) where
  known_parts : (h : List ℕ) (entry : Entry) → IsReadOr read (before ++ new ∷ []) h entry
      → IsReadOr read before h entry ⊎ ((new.hash ≡ h) × (entry_of new.piece ≡ entry))
  known_parts h entry known = elim known [
    | inl is ↦ inl (inl is)
    | inr among ↦ elim (among_parts before (new ∷ []) h entry among) [
      | inl earlier ↦ inl (inr earlier)
      | inr last ↦ elim last [ inl is ↦ inr is | inr none ↦ absurd none ]
    ]
  ]

  each_more : AreSound hash read before → IsSound hash read before new.hash (entry_of new.piece)
      → (h : List ℕ) (entry : Entry) → IsReadOr read (before ++ new ∷ []) h entry → IsSound hash read (before ++ new ∷ []) h entry
  each_more sound given h entry known = elim (known_parts h entry known) [
    | inl earlier ↦ let own = sound.each h entry earlier in (own.0, own.1, ended_left read before (new ∷ []) entry own.2)
    | inr is ↦ (
      sym is.0 ∙ given.0 ∙ ap (entry_hash hash) is.1,
      subst IsWhole is.1 given.1,
      ended_left read before (new ∷ []) entry (subst (IsEnded read before) is.1 given.2),
    )
  ]

  clear_more : AreClear read before → IsFree read before new.hash (entry_of new.piece) → AreClear read (before ++ new ∷ [])
  clear_more clear free h e f known_e known_f = elim (known_parts h e known_e) [
    | inl old_e ↦ elim (known_parts h f known_f) [
      | inl old_f ↦ clear h e f old_e old_f
      | inr is_f ↦ free e (subst (λ q. IsReadOr read before q e) (sym is_f.0) old_e) ∙ is_f.1
    ]
    | inr is_e ↦ elim (known_parts h f known_f) [
      | inl old_f ↦ sym is_e.1 ∙ sym (free f (subst (λ q. IsReadOr read before q f) (sym is_e.0) old_f))
      | inr is_f ↦ sym is_e.1 ∙ is_f.1
    ]
  ]

  -- one piece more
  pub sound_more : AreSound hash read before → IsSound hash read before new.hash (entry_of new.piece)
      → IsFree read before new.hash (entry_of new.piece) → AreSound hash read (before ++ new ∷ [])
  sound_more sound given free = record { each = each_more sound given; clear = clear_more sound.clear free }

-- a node is known where a run ends, and no run
pub no_run : (read : List ℕ → Option Entry) (before : List NewPiece) (h : List ℕ) → AreClear read before
    → (node : Shape) × IsReadOr read before h (OfNode node) → (entry : Entry) (path bottom : List ℕ) → IsReadOr read before h entry
    → entry ≡ OfRun path bottom → ⊥
no_run read before h clear end entry path bottom known is = node_run (clear h (OfNode end.0) entry end.1 known ∙ is)
  where
    node_run : {shape : Shape} → OfNode shape ≡ OfRun path bottom → ⊥
    node_run e = cc

-- nothing but this is known where this is
pub free_by : (read : List ℕ → Option Entry) (before : List NewPiece) (h : List ℕ) (kept given entry : Entry) → AreClear read before
    → IsReadOr read before h kept → kept ≡ given → given ≡ entry → IsFree read before h entry
free_by read before h kept given entry clear known same is other known_other = clear h other kept known_other known ∙ same ∙ is

-- ---- a new piece at its place

named_at : (hash : List ℕ → List ℕ) (news : List NewPiece) (at : ℕ) (other : NewPiece) → AreNamed hash news → at < length news
    → ((get_or news at other).hash ≡ entry_hash hash (entry_of (get_or news at other).piece)) × IsWhole (entry_of (get_or news at other).piece)
named_at hash [] at other named below = absurd (omega arith)
named_at hash (new ∷ news) zero other named below = named.0
named_at hash (new ∷ news) (suc at) other named below = named_at hash news at other named.1 (omega arith)

each_at : (Is : List NewPiece → Entry → Type 0) (earlier news : List NewPiece) (at : ℕ) (other : NewPiece) → EachIs Is earlier news → at < length news
    → Is (earlier ++ take at news) (entry_of (get_or news at other).piece)
unfolding EachIs
each_at Is earlier [] at other each below = absurd (omega arith)
each_at Is earlier (new ∷ news) zero other each below =
    subst (λ xs. Is xs (entry_of new.piece)) (sym (append-nil earlier)) each.0
each_at Is earlier (new ∷ news) (suc at) other each below =
    subst (λ xs. Is xs (entry_of (get_or news at other).piece)) (append_assoc earlier (new ∷ []) (take at news))
    (each_at Is (earlier ++ new ∷ []) news at other each.1 (omega arith))

pub sound_at : (hash : List ℕ → List ℕ) (read : List ℕ → Option Entry) (news : List NewPiece) (at : ℕ) (new : NewPiece) → new ≡ get_or news at new
    → at < length news → AreNamed hash news → NewsAreEnded read news → IsSound hash read (take at news) new.hash (entry_of new.piece)
sound_at hash read news at new is below named ends =
    let own = named_at hash news at new named below in
    subst (λ (n : NewPiece). IsSound hash read (take at news) n.hash (entry_of n.piece)) (sym is)
    (own.0, own.1, each_at (IsEnded read) [] news at new ends below)

-- the first pieces, with the next one
pub sound_on : (hash : List ℕ → List ℕ) (read : List ℕ → Option Entry) (news : List NewPiece) (at : ℕ) (new : NewPiece) → new ≡ get_or news at new
    → at < length news → AreNamed hash news → NewsAreEnded read news → AreSound hash read (take at news)
    → IsFree read (take at news) new.hash (entry_of new.piece) → AreSound hash read (take (at + 1) news)
sound_on hash read news at new is below named ends sound free =
    subst (AreSound hash read) (sym (one_more news at new is below))
    (sound_more hash read (take at news) new sound (sound_at hash read news at new is below named ends) free)

pub noted_on : (news : List NewPiece) (at : ℕ) (new : NewPiece) (old after : List (List ℕ × ℕ)) → new ≡ get_or news at new → at < length news
    → ((q : List ℕ) → lookup (bytes_eq q) after ≡ cond (bytes_eq (get_or news at new).hash q) (Some at) (lookup (bytes_eq q) old))
    → AreNoted (take at news) old → AreNoted (take (at + 1) news) after
noted_on news at new old after is below added noted =
    let last : length (take at news) ≡ at = length-take-le at news (omega (arith, below)) in
    subst (λ xs. AreNoted xs after) (sym (one_more news at new is below))
    (noted_more (take at news) new old after (λ q. added q ∙ (λ i. cond (bytes_eq (sym is i).hash q) (Some (sym last i)) (lookup (bytes_eq q) old))) noted)
