-- A pool grows by a seat that all others meet.
use Rattle.std.proofs.Common.{true, ◌≡◌, ◌<◌, ◌≤◌, ◌+◌, ℕ, List, [], ◌∷◌, ◌++◌, length, map, take, drop, get_or, refl, ap, ◌∙◌, sym, subst, arith, ⊎_elim, ◌⊎◌, append_assoc, append-nil, length-append, inl, inr}
use Rattle.std.proofs.lemmas.List.{get_or-map, length-map, map-append, take_more, take-append-le, drop-append-le, drop_all, ext_get_or, get_or_append_left}
use Rattle.std.proofs.Math.Seq.{get_or-append_seam}
use Rattle.std.proofs.Math.Nat.{eq-or-lt_of_le}
use lib.Seq.{take-append_seam}
use Rattle.crossbeam_deque.specs.Handles.{worker_deque}
use Rattle.atomic_blocks.specs.Lent.{RowsId}
use Rattle.std.specs.declared.alloc.Global.{Global}
use Rattle.saw_tickets.specs.declared.rule.View.{View}
use Rattle.saw_tickets.specs.declared.seat.Seat.{Seat}
use Rattle.saw_tickets.specs.TicketHistory.{alone, knows}
use Rattle.saw_tickets.specs.Seats.{views_of, queues_of, capacity_of, deques, AllMeet, after_meeting, first_views, others_at, shares_own, IsPool}

abbrev Id : Type 0
Id = RowsId × Global

others_snoc : (i : ℕ) (D : List Id) (q : Id) → i < length D → others_at i (D ++ q ∷ []) ≡ others_at i D ++ q ∷ []
others_snoc i D q lt =
    let a = take-append-le i D (q ∷ []) (omega arith) in
    let b = drop-append-le (i + 1) D (q ∷ []) (omega arith) in
    rw (a, b) (sym (append_assoc (take i D) (drop (i + 1) D) (q ∷ [])))

others_last : (D : List Id) (q : Id) → others_at (length D) (D ++ q ∷ []) ≡ D
others_last D q =
    let a = take-append_seam D (q ∷ []) in
    let b = drop_all (length D + 1) (D ++ q ∷ []) (omega (arith, length-append D (q ∷ []))) in rw (a, b) (append-nil D)

fresh : {A : Type 0} → (xs ys : List A) → length xs ≡ length ys → (v : View) → map (λ (_ : A). v) xs ≡ map (λ (_ : A). v) ys
fresh [] [] same v = refl
fresh [] (y ∷ ys) same v = absurd (omega arith)
fresh (x ∷ xs) [] same v = absurd (omega arith)
fresh (x ∷ xs) (y ∷ ys) same v = ap (λ l. v ∷ l) (fresh xs ys (omega arith) v)

-- what several seats know at first
several : (xs : List Seat) → 1 < length xs → first_views xs ≡ map (λ _. knows [] []) xs
several [] more = absurd (omega arith)
several (x ∷ []) more = absurd (omega arith)
several (x ∷ y ∷ xs) more = refl

-- what some seats know at first, once each has shared its own queue
shared_first : (xs : List Seat) → 0 < length xs → shares_own (first_views xs) ≡ map (λ _. knows [] []) xs
shared_first [] some = absurd (omega arith)
shared_first (x ∷ []) some = refl
shared_first (x ∷ y ∷ xs) some = refl

-- what a new seat knows once it has met all others
new_first : (ss all : List Seat) → length all ≡ length ss + 1 → after_meeting ss (alone [] [] ∷ []) ≡ first_views all
new_first ss [] len = absurd (omega arith)
new_first [] (x ∷ []) len = refl
new_first (s ∷ ss) (x ∷ []) len = absurd (omega arith)
new_first [] (x ∷ y ∷ xs) len = absurd (omega arith)
new_first (s ∷ ss) (x ∷ y ∷ xs) len = ap (λ l. knows [] [] ∷ l) (fresh (s ∷ ss) (y ∷ xs) (omega arith) (knows [] []))

-- a seat that has met some meets one more
meets_more : (own : View) (others : List View) (ss : List Seat) (s : Seat)
    → after_meeting (ss ++ s ∷ []) (own ∷ others) ≡ shares_own (after_meeting ss (own ∷ others) ++ knows [] [] ∷ [])
meets_more own others [] s = refl
meets_more own others (x ∷ ss) s = ap (λ l. record own { shared = true } ∷ l)
    (ap (λ l. others ++ l) (map-append (λ (_ : Seat). knows [] []) (x ∷ ss) (s ∷ []))
    ∙ sym (append_assoc others (map (λ _. knows [] []) (x ∷ ss)) (knows [] [] ∷ [])))

pub meets_next : (own guest : View) (others now mid new : List View) (ss : List Seat) (i : ℕ) (d : Seat) → i < length ss
    → now ≡ after_meeting (take i ss) (own ∷ others) → guest ≡ knows [] [] → mid ≡ now ++ guest ∷ [] → new ≡ shares_own mid → new ≡ after_meeting (take (i + 1) ss) (own ∷ others)
meets_next own guest others now mid new ss i d lt so_far none met shared =
    shared ∙ ap shares_own (met ∙ (λ k. so_far k ++ none k ∷ []))
    ∙ sym (ap (λ l. after_meeting l (own ∷ others)) (take_more ss i d lt) ∙ meets_more own others (take i ss) (get_or ss i d))

same_deques : (q : Id) (ss ts : List Seat) (x : Seat) → length ts ≡ length ss → AllMeet q ss ts → deques ts ≡ deques ss
same_deques q ss ts x len met =
    ext_get_or q (deques ts) (deques ss) (length-map ts (λ (s : Seat). worker_deque s.own) ∙ len ∙ sym (length-map ss (λ (s : Seat). worker_deque s.own)))
    (λ i lt.
    let in_ts : i < length ts = subst (λ (n : ℕ). i < n) (length-map ts (λ (s : Seat). worker_deque s.own)) lt in
    let in_ss : i < length ss = subst (λ (n : ℕ). i < n) len in_ts in
    let a = get_or-map (λ (s : Seat). worker_deque s.own) ts i x q in_ts in
    let b = get_or-map (λ (s : Seat). worker_deque s.own) ss i x q in_ss in
    let m = (met i x in_ss).0 in
    let head : worker_deque (get_or ts i x).own ≡ worker_deque (get_or ss i x).own = cc in a ∙ head ∙ sym b)

abbrev Good : ℕ → List Seat → ℕ → Seat → Type 0
Good cap all i s =
    (queues_of s ≡ worker_deque s.own ∷ others_at i (deques all)) × (views_of s ≡ first_views all) × (capacity_of s ≡ cap)

in_or_last : (i n : ℕ) → i < n + 1 → (i < n) ⊎ (i ≡ n)
in_or_last i n lt = let le : i ≤ n = omega arith in ⊎_elim (λ e. inr e) (λ l. inl l) (eq-or-lt_of_le le)

whole : (q : Id) (ss ts : List Seat) (x : Seat) → length ts ≡ length ss → AllMeet q ss ts → worker_deque x.own ≡ q → deques (ts ++ x ∷ []) ≡ deques ss ++ q ∷ []
whole q ss ts x len met own = map-append (λ (s : Seat). worker_deque s.own) ts (x ∷ []) ∙ (λ j. same_deques q ss ts x len met j ++ own j ∷ [])

old_one : (cap : ℕ) (q : Id) (ss ts : List Seat) (x : Seat) (i : ℕ) (d : Seat) → length ts ≡ length ss → IsPool cap ss → AllMeet q ss ts → worker_deque x.own ≡ q → i < length ts → Good cap (ts ++ x ∷ []) i (get_or ts i d)
old_one cap q ss ts x i d len pool met own in_ts =
    let t = get_or ts i d in
    let s = get_or ss i d in
    let in_ss : i < length ss = subst (λ (n : ℕ). i < n) len in_ts in
    let in_d : i < length (deques ss) = subst (λ (n : ℕ). i < n) (sym (length-map ss (λ (s : Seat). worker_deque s.own))) in_ss in
    let m = met i d in_ss in
    let p = pool i d in_ss in
    let n = m.0 in
    let head : worker_deque t.own ≡ worker_deque s.own = cc in
    let rest : others_at i (deques (ts ++ x ∷ [])) ≡ others_at i (deques ss) ++ q ∷ [] = ap (λ l. others_at i l) (whole q ss ts x len met own) ∙ others_snoc i (deques ss) q in_d in (
      n ∙ ap (λ l. l ++ q ∷ []) p.0 ∙ (λ j. sym head j ∷ sym rest j),
      m.1 ∙ ap (λ l. shares_own l ++ knows [] [] ∷ []) p.1
          ∙ ap (λ l. l ++ knows [] [] ∷ []) (shared_first ss (omega (arith, in_ss)) ∙ fresh ss ts (sym len) (knows [] []))
          ∙ sym (several (ts ++ x ∷ []) (omega (arith, in_ts, length-append ts (x ∷ []))) ∙ map-append (λ (_ : Seat). knows [] []) ts (x ∷ [])),
      m.2 ∙ p.2,
    )

new_one : (cap : ℕ) (q : Id) (ss ts : List Seat) (x : Seat) → length ts ≡ length ss → AllMeet q ss ts → worker_deque x.own ≡ q → queues_of x ≡ q ∷ deques ss
    → views_of x ≡ after_meeting ss (alone [] [] ∷ []) → capacity_of x ≡ cap → Good cap (ts ++ x ∷ []) (length ts) x
new_one cap q ss ts x len met own queues views room =
    let rest : others_at (length ts) (deques (ts ++ x ∷ [])) ≡ deques ss =
    ap (λ l. others_at (length ts) l) (whole q ss ts x len met own) ∙ ap (λ k. others_at k (deques ss ++ q ∷ [])) (len ∙ sym (length-map ss (λ (s : Seat). worker_deque s.own))) ∙ others_last (deques ss) q in
    (queues ∙ (λ j. sym own j ∷ sym rest j), views ∙ new_first ss (ts ++ x ∷ []) (omega (arith, len, length-append ts (x ∷ []))), room)

pub grows : (cap : ℕ) (q : Id) (ss ts : List Seat) (x : Seat) → length ts ≡ length ss → IsPool cap ss → AllMeet q ss ts → worker_deque x.own ≡ q → queues_of x ≡ q ∷ deques ss
    → views_of x ≡ after_meeting ss (alone [] [] ∷ []) → capacity_of x ≡ cap → IsPool cap (ts ++ x ∷ [])
grows cap q ss ts x len pool met own queues views room i d lt =
    ⊎_elim (λ in_ts. subst (Good cap (ts ++ x ∷ []) i) (sym (get_or_append_left ts (x ∷ []) d i in_ts)) (old_one cap q ss ts x i d len pool met own in_ts))
    (λ last. subst (λ (k : ℕ). Good cap (ts ++ x ∷ []) k (get_or (ts ++ x ∷ []) k d)) (sym last) (subst (Good cap (ts ++ x ∷ []) (length ts)) (sym (get_or-append_seam ts x [] d)) (new_one cap q ss ts x len met own queues views room)))
    (in_or_last i (length ts) (subst (λ (n : ℕ). i < n) (length-append ts (x ∷ [])) lt))
