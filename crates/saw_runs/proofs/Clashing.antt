-- Two different nodes of one hash, where two different pieces have one.
use Rattle.std.proofs.Common.{◌≡◌, ◌≢◌, ◌⊎◌, ℕ, zero, suc, List, [], ◌∷◌, ◌++◌, length, take, drop, refl, sym, ap, ◌∙◌, subst, Option, inl, inr, append-nil, take-append-drop}
use Rattle.saw_node.specs.Nodes.{Shape, encoding_of}
use Rattle.saw_runs.specs.Apart.{ArePartedAt, AreSound, IsNodeAt, IsSound, IsTopOf, bottom_of, bytes_of}
use Rattle.saw_runs.specs.Entries.{Entry, IsAmong, IsReadOr, IsWhole, entry_hash, entry_of}
use Rattle.saw_runs.specs.Entries.Entry.{OfNode, OfRun}
use Rattle.saw_runs.specs.Keeping.{IsNodeAmong, IsNodeIn, IsNodeOfNew, IsNodeRead, IsRunNode}
use Rattle.saw_runs.specs.Runs.{above_one, hash_up}
use Rattle.saw_runs.specs.declared.pieces.NewPiece.{NewPiece}
use Rattle.saw_runs.proofs.Among.{among_left, among_right}

-- ---- runs

heads : {A : Type 0} {b c : A} {xs ys : List A} → b ∷ xs ≡ c ∷ ys → b ≡ c
heads e = cc

tails : {A : Type 0} {b c : A} {xs ys : List A} → b ∷ xs ≡ c ∷ ys → xs ≡ ys
tails e = cc

above_is : (b c : ℕ) (g k : List ℕ) → above_one b g ≡ above_one c k → (b ≡ c) × (g ≡ k)
above_is b c g k e =
    let child : (b, g) ≡ (c, k) = heads (ap (λ (s : Shape). s.children) e) in
    (ap (λ (p : ℕ × List ℕ). p.0) child, ap (λ (p : ℕ × List ℕ). p.1) child)

drop_none : (n : ℕ) → drop {A = ℕ} n [] ≡ []
drop_none zero = refl
drop_none (suc n) = refl

-- the same of equal runs
pub parted_as : (hash : List ℕ → List ℕ) (one first two second one' first' two' second' : List ℕ) (place : ℕ) → one ≡ one' → first ≡ first' → two ≡ two'
    → second ≡ second' → ArePartedAt hash one first two second place → ArePartedAt hash one' first' two' second' place
parted_as hash one first two second one' first' two' second' place same_one same_first same_two same_second parted =
    subst (λ p. ArePartedAt hash p first' two' second' place) same_one (subst (λ p. ArePartedAt hash one p two' second' place) same_first
    (subst (λ p. ArePartedAt hash one first p second' place) same_two (subst (λ p. ArePartedAt hash one first two p place) same_second parted)))

-- ---- nodes of pieces

module _ (hash : List ℕ → List ℕ) (read : List ℕ → Option Entry) (before : List NewPiece) (sound : AreSound hash read before) where
  -- the top node of what is left of a run, or the whole node at its end
  abbrev IsTip : List ℕ → List ℕ → Shape → Type 0
  IsTip [] bottom node = (bottom ≡ hash (encoding_of node)) × (length node.children ≢ 1)
  IsTip (b ∷ path) bottom node = node ≡ above_one b (hash_up hash path bottom)

  tip_of_top : (path bottom : List ℕ) (node : Shape) → IsTopOf hash (IsReadOr read before) path bottom node → IsTip path bottom node
  tip_of_top [] bottom node known = let own = sound.each bottom (OfNode node) known in (own.0, own.1)
  tip_of_top (b ∷ path) bottom node is = is

  tip_at : (h : List ℕ) (entry : Entry) (place : ℕ) (node : Shape) → h ≡ entry_hash hash entry → IsWhole entry
      → IsNodeAt hash (IsReadOr read before) entry place node → IsTip (drop place (bytes_of entry)) (bottom_of h entry) node
  tip_at h (OfNode shape) place node named whole is =
      subst (λ p. IsTip p h node) (sym (drop_none place))
      (named ∙ ap (λ s. hash (encoding_of s)) (sym is), λ e. whole (ap (λ (s : Shape). length s.children) (sym is) ∙ e))
  tip_at h (OfRun path bottom) place node named whole is = tip_of_top (drop place path) bottom node is

  tip_hash : (path bottom : List ℕ) (node : Shape) → IsTip path bottom node → hash (encoding_of node) ≡ hash_up hash path bottom
  tip_hash [] bottom node is = sym is.0
  tip_hash (b ∷ path) bottom node is = ap (λ s. hash (encoding_of s)) is

  tips_apart : (one first two second : List ℕ) (s t : Shape) → IsTip one first s → IsTip two second t → (one ≡ [] → two ≡ [] → s ≡ t → ⊥)
      → ((b c : ℕ) (path rest : List ℕ) → one ≡ b ∷ path → two ≡ c ∷ rest → b ≡ c → hash_up hash path first ≡ hash_up hash rest second → ⊥)
      → s ≡ t → ⊥
  tips_apart [] first [] second s t is_s is_t ended apart e = ended refl refl e
  tips_apart [] first (c ∷ rest) second s t is_s is_t ended apart e = is_s.1 (ap (λ (n : Shape). length n.children) (e ∙ is_t))
  tips_apart (b ∷ path) first [] second s t is_s is_t ended apart e = is_t.1 (ap (λ (n : Shape). length n.children) (sym e ∙ is_s))
  tips_apart (b ∷ path) first (c ∷ rest) second s t is_s is_t ended apart e =
      let same = above_is b c (hash_up hash path first) (hash_up hash rest second) (sym is_s ∙ e ∙ is_t) in
      apart b c path rest refl refl same.0 same.1

  all_passed : (path : List ℕ) (place : ℕ) → drop place path ≡ [] → path ≡ take place path
  all_passed path place none = sym (take-append-drop place path) ∙ ap (λ r. take place path ++ r) none ∙ append-nil (take place path)

  same_bytes : (one two : List ℕ) (place : ℕ) → take place one ≡ take place two → drop place one ≡ [] → drop place two ≡ [] → one ≡ two
  same_bytes one two place passed none_one none_two = all_passed one place none_one ∙ passed ∙ sym (all_passed two place none_two)

  -- two pieces that both end at a place with one node are one
  same_pieces : (h : List ℕ) (e f : Entry) (place : ℕ) (s t : Shape)
      → ArePartedAt hash (bytes_of e) (bottom_of h e) (bytes_of f) (bottom_of h f) place → IsWhole e → IsWhole f
      → IsNodeAt hash (IsReadOr read before) e place s → IsNodeAt hash (IsReadOr read before) f place t → drop place (bytes_of e) ≡ []
      → drop place (bytes_of f) ≡ [] → s ≡ t → e ≡ f
  same_pieces h (OfNode e) (OfNode f) place s t parted whole_e whole_f is_s is_t none_e none_f same = ap OfNode (sym is_s ∙ same ∙ is_t)
  same_pieces h (OfNode e) (OfRun path bottom) place s t parted whole_e whole_f is_s is_t none_e none_f same =
      absurd (whole_f (sym (same_bytes [] path place parted.passed none_e none_f)))
  same_pieces h (OfRun path bottom) (OfNode f) place s t parted whole_e whole_f is_s is_t none_e none_f same =
      absurd (whole_e (same_bytes path [] place parted.passed none_e none_f))
  same_pieces h (OfRun path bottom) (OfRun rest other) place s t parted whole_e whole_f is_s is_t none_e none_f same =
      let bytes = same_bytes path rest place parted.passed none_e none_f in
      let bottoms : bottom ≡ other =
      sym (ap (λ p. hash_up hash p bottom) none_e) ∙ parted.alike ∙ ap (λ p. hash_up hash p other) none_f in
      λ i. OfRun (bytes i) (bottoms i)

  -- ---- whose nodes they are

  run_node : (path bottom : List ℕ) (place b : ℕ) (rest : List ℕ) (node : Shape) → drop place path ≡ b ∷ rest
      → node ≡ above_one b (hash_up hash rest bottom) → IsRunNode hash path bottom node
  run_node [] bottom place b rest node e is = absurd (no_more (sym (drop_none place) ∙ e))
    where
      no_more : {b : ℕ} {xs : List ℕ} → [] ≡ b ∷ xs → ⊥
      no_more e = cc
  run_node (c ∷ path) bottom zero b rest node e is =
      inl (is ∙ sym (λ i. above_one (heads e i) (hash_up hash (tails e i) bottom)))
  run_node (c ∷ path) bottom (suc place) b rest node e is = inr (run_node path bottom place b rest node e is)

  run_or_end : (path bottom : List ℕ) (place : ℕ) (node : Shape) (rest : List ℕ) → drop place path ≡ rest
      → IsTopOf hash (IsReadOr read before) rest bottom node → IsRunNode hash path bottom node ⊎ IsReadOr read before bottom (OfNode node)
  run_or_end path bottom place node [] e known = inr known
  run_or_end path bottom place node (b ∷ rest) e is = inl (run_node path bottom place b rest node e is)

  node_known : (h : List ℕ) (entry : Entry) (node : Shape) → IsReadOr read before h entry → IsNodeIn hash entry node
      → IsNodeRead hash read node ⊎ IsNodeAmong hash before node
  node_known h entry node known is = elim known [
    | inl found ↦ inl (record { at = h; entry = entry; found = found; is = is })
    | inr among ↦ inr (record { at = h; entry = entry; among = among; is = is })
  ]

  kept_is : (h : List ℕ) (entry : Entry) (place : ℕ) (node : Shape) → IsReadOr read before h entry
      → IsNodeAt hash (IsReadOr read before) entry place node → IsNodeRead hash read node ⊎ IsNodeAmong hash before node
  kept_is h (OfNode shape) place node known is = node_known h (OfNode shape) node known is
  kept_is h (OfRun path bottom) place node known is = elim (run_or_end path bottom place node (drop place path) refl is) [
    | inl in_run ↦ node_known h (OfRun path bottom) node known in_run
    | inr end ↦ node_known bottom (OfNode node) node end refl
  ]

  module _ (new : NewPiece) (behind : List NewPiece) where
    among_here : (entry : Entry) → entry_of new.piece ≡ entry → IsAmong (before ++ new ∷ behind) new.hash entry
    among_here entry is = among_right before (new ∷ behind) new.hash entry (inl (refl, is))

    given_is : (entry : Entry) (place : ℕ) (node : Shape) → entry_of new.piece ≡ entry → IsNodeAt hash (IsReadOr read before) entry place node
        → IsNodeOfNew hash read (before ++ new ∷ behind) node
    given_is (OfNode shape) place node here is =
        inl (record { at = new.hash; entry = OfNode shape; among = among_here (OfNode shape) here; is = is })
    given_is (OfRun path bottom) place node here is = elim (run_or_end path bottom place node (drop place path) refl is) [
      | inl in_run ↦ inl (record { at = new.hash; entry = OfRun path bottom; among = among_here (OfRun path bottom) here; is = in_run })
      | inr end ↦ inr (record {
        before = before;
        new = new;
        after = behind;
        split = refl;
        path = path;
        bottom = bottom;
        is = here;
        end = λ shape known. same_shape (sound.clear bottom (OfNode node) (OfNode shape) end known);
      })
    ]
      where
        same_shape : {s t : Shape} → OfNode s ≡ OfNode t → s ≡ t
        same_shape e = cc

    wider : (node : Shape) → IsNodeRead hash read node ⊎ IsNodeAmong hash before node
        → IsNodeRead hash read node ⊎ IsNodeOfNew hash read (before ++ new ∷ behind) node
    wider node known = elim known [
      | inl found ↦ inl found
      | inr among ↦ inr (inl (record {
        at = among.at;
        entry = among.entry;
        among = among_left before (new ∷ behind) among.at among.entry among.among;
        is = among.is;
      }))
    ]

    -- two nodes that differ and have one hash
    pub nodes_clash : (kept given : Entry) (place : ℕ) (s t : Shape) → given ≡ entry_of new.piece
        → IsSound hash read before new.hash (entry_of new.piece) → IsReadOr read before new.hash kept → kept ≢ entry_of new.piece
        → ArePartedAt hash (bytes_of kept) (bottom_of new.hash kept) (bytes_of given) (bottom_of new.hash given) place
        → IsNodeAt hash (IsReadOr read before) kept place s → IsNodeAt hash (IsReadOr read before) given place t
        → IsNodeOfNew hash read (before ++ new ∷ behind) t
        × (IsNodeRead hash read s ⊎ IsNodeOfNew hash read (before ++ new ∷ behind) s)
        × (s ≢ t) × (hash (encoding_of s) ≡ hash (encoding_of t))
    nodes_clash kept given place s t here new_is known apart parted is_s is_t =
        let own = sound.each new.hash kept known in
        let whole : IsWhole given = subst IsWhole (sym here) new_is.1 in
        let tip_s = tip_at new.hash kept place s own.0 own.1 is_s in
        let tip_t = tip_at new.hash given place t (new_is.0 ∙ ap (entry_hash hash) (sym here)) whole is_t in (
          given_is given place t (sym here) is_t,
          wider s (kept_is new.hash kept place s known is_s),
          tips_apart (drop place (bytes_of kept)) (bottom_of new.hash kept) (drop place (bytes_of given)) (bottom_of new.hash given) s t tip_s tip_t
              (λ none_s none_t same. apart (same_pieces new.hash kept given place s t parted own.1 whole is_s is_t none_s none_t same ∙ here)) parted.apart,
          tip_hash (drop place (bytes_of kept)) (bottom_of new.hash kept) s tip_s ∙ parted.alike
              ∙ sym (tip_hash (drop place (bytes_of given)) (bottom_of new.hash given) t tip_t),
        )

-- the hash of a piece, up from its end
pub up_is : (hash : List ℕ → List ℕ) (path bottom h : List ℕ) (entry : Entry) → path ≡ bytes_of entry → bottom ≡ bottom_of h entry → h ≡ entry_hash hash entry
    → hash_up hash path bottom ≡ h
up_is hash path bottom h (OfNode shape) bytes is named = ap (λ p. hash_up hash p bottom) bytes ∙ is
up_is hash path bottom h (OfRun bytes end) same is named = (λ i. hash_up hash (same i) (is i)) ∙ sym named
