-- A claim changes what one pass knows.
use Rattle.std.proofs.Common.{◌≡◌, ◌<◌, ℕ, zero, suc, List, [], ◌∷◌, ◌++◌, length, set, get_or, ap, ◌∙◌, sym, subst, arith, Option, Some, None, MatchOption}
use Rattle.std.proofs.lemmas.List.{map-set, get_or-map, length-map}
use Rattle.std.proofs.Common.{take, drop}
use lib.Seq.{take-append_seam}
use Rattle.std.proofs.Math.Seq.{map-set_same}
use Rattle.crossbeam_deque.specs.Handles.{view, stealer_deque}
use Rattle.saw_tickets.specs.declared.rule.Numbered.{Numbered}
use Rattle.saw_tickets.specs.declared.rule.View.{View}
use Rattle.saw_tickets.specs.declared.neighbor.Neighbor.{Neighbor}
use Rattle.saw_tickets.specs.TicketHistory.{knows, MayBeEmpty}
use Rattle.saw_tickets.specs.Seats.{other_views, other_queues, with_claimed, ClaimsEntry, FindsNone, HasClaimedAlone}
use Rattle.saw_tickets.proofs.Moves.{claimed_alone}

pub steals_at : (ns : List Neighbor) (vs : List View) (i : ℕ) (d n' : Neighbor) (e : Numbered) → i < length ns → view n'.pass ≡ with_claimed (view (get_or ns i d).pass) e → other_views ns ≡ vs → ClaimsEntry vs (other_views (set ns i n')) e
steals_at ns vs i d n' e lt took same =
    let len : length (other_views ns) ≡ length ns = length-map ns (λ (m : Neighbor). view m.pass) in
    let at : get_or (other_views ns) i (knows [] []) ≡ view (get_or ns i d).pass = get_or-map (λ (m : Neighbor). view m.pass) ns i d (knows [] []) lt in
    rw (← same) (i, omega arith, map-set (λ (m : Neighbor). view m.pass) ns i n' ∙ ap (λ v. set (other_views ns) i v) (took ∙ ap (λ v. with_claimed v e) (sym at)))

pub stays_at : (ns : List Neighbor) (i : ℕ) (d n' : Neighbor) → view n'.pass ≡ view (get_or ns i d).pass → other_views (set ns i n') ≡ other_views ns
stays_at ns i d n' same = map-set_same (λ (m : Neighbor). view m.pass) ns i n' d same

pub queues_at : (ns : List Neighbor) (i : ℕ) (d n' : Neighbor) → stealer_deque n'.thief ≡ stealer_deque (get_or ns i d).thief → other_queues (set ns i n') ≡ other_queues ns
queues_at ns i d n' same = map-set_same (λ (m : Neighbor). stealer_deque m.thief) ns i n' d same

pub empty_at : (ns : List Neighbor) (vs : List View) (i : ℕ) (d : Neighbor) → i < length ns → other_views ns ≡ vs → MayBeEmpty (view (get_or ns i d).pass) → MayBeEmpty (get_or vs i (knows [] []))
empty_at ns vs i d lt same may =
    let at : get_or (other_views ns) i (knows [] []) ≡ view (get_or ns i d).pass = get_or-map (λ (m : Neighbor). view m.pass) ns i d (knows [] []) lt in subst (λ (v : View). MayBeEmpty v) (sym at ∙ ap (λ l. get_or l i (knows [] [])) same) may

pub claims_first : (o o' : View) (vs vs' : List View) (e : Numbered) → o' ≡ with_claimed o e → vs' ≡ vs → ClaimsEntry (o ∷ vs) (o' ∷ vs') e
claims_first o o' vs vs' e is same = (0, omega arith, (let p : o' ∷ vs' ≡ with_claimed o e ∷ vs = cc in p))

pub claims_later : (o o' : View) (vs vs' : List View) (e : Numbered) → o' ≡ o → ClaimsEntry vs vs' e → ClaimsEntry (o ∷ vs) (o' ∷ vs') e
claims_later o o' vs vs' e same (t, lt, is) = (suc t, omega arith, (let p : o' ∷ vs' ≡ o ∷ set vs t (with_claimed (get_or vs t (knows [] [])) e) = cc in p))

pub finds_none : (o o' : View) (vs vs' : List View) → o' ≡ o → MayBeEmpty o → FindsNone vs vs' → FindsNone (o ∷ vs) (o' ∷ vs')
finds_none o o' vs vs' same first (rest, others) = ((let p : o' ∷ vs' ≡ o ∷ vs = cc in p), each)
  where
    each : (t : ℕ) → t < suc (length vs) → MayBeEmpty (get_or (o ∷ vs) t (knows [] []))
    each zero lt = first
    each (suc t) lt = others t (omega arith)

-- where the own queue had none, what the others gave
pub after_own : (o o' : View) (vs vs' : List View) (r : Option Numbered) → o' ≡ o → MayBeEmpty o → MatchOption r (FindsNone vs vs') (ClaimsEntry vs vs') → MatchOption r (FindsNone (o ∷ vs) (o' ∷ vs')) (ClaimsEntry (o ∷ vs) (o' ∷ vs'))
after_own o o' vs vs' (Some e) same first h = claims_later o o' vs vs' e same h
after_own o o' vs vs' None same first h = finds_none o o' vs vs' same first h

-- a seat that found none has claimed all of a queue that it alone has a pass of
pub none_alone : (own : View) (others views' : List View) → FindsNone (own ∷ others) views' → HasClaimedAlone (own ∷ others)
none_alone own others views' (same, empty) = claimed_alone own (empty 0 (omega arith))

pub written_back : {A : Type 0} → (xs ys : List A) (n : ℕ) → length xs ≡ length ys → n ≡ length ys → take n (xs ++ drop (length xs) ys) ≡ xs
written_back xs ys n same is = ap (λ k. take k (xs ++ drop (length xs) ys)) (is ∙ sym same) ∙ take-append_seam xs (drop (length xs) ys)
