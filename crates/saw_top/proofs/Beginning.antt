-- How far external processors have begun.
use Rattle.std.proofs.Common.{◌≡◌, ◌⊎◌, inl, inr, ℕ, zero, suc, ◌+◌, ◌<◌, ◌≤◌, Bool, true, List, [], ◌∷◌, length, drop, set, take, refl, sym, ap₂, subst, ◌∙◌, get_or-set_other, length-set, arith}
use Rattle.std.specs.Prelude.{All, slice_index_or}
use Rattle.std.proofs.lemmas.List.Elements.{All-cons, All-nil}
use Rattle.saw_report.specs.declared.run_fault.RunFault.{RunFault}
use Rattle.saw_report.specs.declared.run_fault.RunFault.TheVariants.{Peer, Memory}
use Rattle.saw_top.specs.Headline.{TellsFault}
use Rattle.saw_top.specs.Outside.{End}
use Rattle.saw_top.specs.Seats.{HaveBegun, StopsAt}

-- ---- lists that are the same from a place on

module _ {R : Type 0} where
  same_all : (olds news : List R) → length news ≡ length olds → ((k : ℕ) (d : R) → slice_index_or news k d ≡ slice_index_or olds k d) → news ≡ olds
  same_all [] [] count at = refl
  same_all [] (new ∷ news) count at = let no : ⊥ = omega (arith, count) in absurd no
  same_all (old ∷ olds) [] count at = let no : ⊥ = omega (arith, count) in absurd no
  same_all (old ∷ olds) (new ∷ news) count at =
      ap₂ (λ (first : R) (others : List R). first ∷ others) (at 0 old) (same_all olds news (omega (arith, count)) (λ k d. at (suc k) d))

  same_behind : (olds news : List R) (place : ℕ) → length news ≡ length olds
      → ((k : ℕ) (d : R) → place ≤ k → slice_index_or news k d ≡ slice_index_or olds k d) → drop place news ≡ drop place olds
  same_behind olds news zero count at = same_all olds news count (λ k d. at k d (omega arith))
  same_behind [] [] (suc place) count at = refl
  same_behind [] (new ∷ news) (suc place) count at = let no : ⊥ = omega (arith, count) in absurd no
  same_behind (old ∷ olds) [] (suc place) count at = let no : ⊥ = omega (arith, count) in absurd no
  same_behind (old ∷ olds) (new ∷ news) (suc place) count at =
      same_behind olds news place (omega (arith, count)) (λ k d low. at (suc k) d (omega (arith, low)))

-- ---- one that did not begin

module _ {R : Type 0} (begun : R → Bool) where
  abbrev Has : R → Type 0
  Has remote = begun remote ≡ true

  front_begun : (news : List R) (place : ℕ) → ((k : ℕ) (d : R) → k < place → Has (slice_index_or news k d)) → All Has (take place news)
  front_begun news zero at = All-nil Has
  front_begun [] (suc place) at = All-nil Has
  front_begun (new ∷ news) (suc place) at =
      All-cons Has new (take place news) (at 0 new (omega arith)) (front_begun news place (λ k d low. at (suc k) d (omega (arith, low))))

  -- those before a place have begun, and those behind it are as they were
  pub stops_at : (olds news : List R) (place : ℕ) → length news ≡ length olds → ((k : ℕ) (d : R) → k < place → Has (slice_index_or news k d))
      → ((k : ℕ) (d : R) → place < k → slice_index_or news k d ≡ slice_index_or olds k d) → StopsAt begun olds news
  stops_at olds news place count front behind = record {
    place = place;
    before = front_begun news place front;
    behind = same_behind olds news (place + 1) count (λ k d low. behind k d (omega (arith, low)));
  }

  -- the one at the place was asked, and did not begin
  pub stops_set : (olds news : List R) (place : ℕ) (new : R) → length news ≡ length olds
      → ((k : ℕ) (d : R) → k < place → Has (slice_index_or news k d))
      → ((k : ℕ) (d : R) → place ≤ k → slice_index_or news k d ≡ slice_index_or olds k d) → StopsAt begun olds (set news place new)
  stops_set olds news place new count front behind =
      stops_at olds (set news place new) place (length-set news place new ∙ count)
      (λ k d low. subst Has (sym (get_or-set_other news place k new d (omega (arith, low)))) (front k d low))
      (λ k d low. get_or-set_other news place k new d (omega (arith, low)) ∙ behind k d (omega (arith, low)))

  -- none was asked
  pub none_asked : (remotes : List R) → StopsAt begun remotes remotes
  none_asked remotes = record { place = 0; before = All-nil Has; behind = refl }

  pub have_so : (olds news : List R) (still other : Type 0) → HaveBegun begun olds news still → (still → other) → HaveBegun begun olds news other
  have_so olds news still other (inl all) so = inl all
  have_so olds news still other (inr stops) so = inr (stops.0, so stops.1)

-- ---- the status then

of_peer : (before after : End (List ℕ)) (status : ℕ) → TellsFault Peer before after status → status ≡ 6
of_peer before after status (inl all) = all.0
of_peer before after status (inr (n, less, cut, inl failed)) = failed.0
of_peer before after status (inr (n, less, cut, inr code)) = code

of_memory : (before after : End (List ℕ)) (status : ℕ) → TellsFault Memory before after status → status ≡ 7
of_memory before after status (inl all) = all.0
of_memory before after status (inr (n, less, cut, inl failed)) = failed.0
of_memory before after status (inr (n, less, cut, inr code)) = code

pub stopped_status : (fault : RunFault) (before after : End (List ℕ)) (status : ℕ) → TellsFault fault before after status → (fault ≡ Peer) ⊎ (fault ≡ Memory)
    → (status ≡ 6) ⊎ (status ≡ 7)
stopped_status fault before after status tells (inl peer) = inl (of_peer before after status (subst (λ (f : RunFault). TellsFault f before after status) peer tells))
stopped_status fault before after status tells (inr memory) =
    inr (of_memory before after status (subst (λ (f : RunFault). TellsFault f before after status) memory tells))
