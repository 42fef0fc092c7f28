-- Lane by lane, a vector's operations are those on words.
use Rattle.std.proofs.Common.{◌≡◌, ◌≢◌, ap, ℕ, zero, suc, ◌%◌, ◌/◌, ◌*◌, ◌-◌, ◌^◌, ◌<◌, List, [], ◌∷◌, length, slice_index, slice_set, bit_or, arith, refl, w64, Fits}
use Rattle.std.specs.Simd.Lanes.{zip2, Each1}
use Rattle.std.specs.Int.{rotate_right}
use Rattle.std.proofs.Math.ListN.{get_or-map}
use Rattle.std.proofs.lemmas.List.{map-set, length-map, get_or-set_same, get_or-set_other}
use Rattle.std.proofs.lemmas.Simd.{Each1-get_or}
use Rattle.sha2.specs.Sha512.{add64}
use Rattle.saw_sha.specs.Lane.{lane_at, window}

-- what holds of each of the four lanes
pub below_four : (P : ℕ → Type 0) → P 0 → P 1 → P 2 → P 3 → (j : ℕ) → j < 4 → P j
below_four P p0 p1 p2 p3 zero h = p0
below_four P p0 p1 p2 p3 (suc zero) h = p1
below_four P p0 p1 p2 p3 (suc (suc zero)) h = p2
below_four P p0 p1 p2 p3 (suc (suc (suc zero))) h = p3
below_four P p0 p1 p2 p3 (suc (suc (suc (suc n)))) h = absurd (omega arith)

-- what holds of each list of four elements
pub four_lanes : (P : List ℕ → Type 0) → ((a b c d : ℕ) → P (a ∷ b ∷ c ∷ d ∷ [])) → (xs : List ℕ) → length xs ≡ 4 → P xs
four_lanes P p (a ∷ b ∷ c ∷ d ∷ []) h = p a b c d
four_lanes P p [] h = absurd (omega arith)
four_lanes P p (a ∷ []) h = absurd (omega arith)
four_lanes P p (a ∷ b ∷ []) h = absurd (omega arith)
four_lanes P p (a ∷ b ∷ c ∷ []) h = absurd (omega arith)
four_lanes P p (a ∷ b ∷ c ∷ d ∷ e ∷ xs) h = absurd (omega arith)

-- a shift of each lane
abbrev Shifts : ℕ → List ℕ → Type 0
Shifts k x = (j : ℕ) → j < 4 → slice_index (zip2 (λ x n. x / 2 ^ n) x (k ∷ k ∷ k ∷ k ∷ [])) j ≡ slice_index x j / 2 ^ k

pub shifts_right : (k : ℕ) (x : List ℕ) → length x ≡ 4 → Shifts k x
shifts_right k = four_lanes (Shifts k) (λ a b c d. below_four _ refl refl refl refl)

-- two shifts of each lane and an or are a rotation
abbrev Rotates : ℕ → List ℕ → Type 0
Rotates k x = (j : ℕ) → j < 4
    → slice_index (zip2 bit_or
    (zip2 (λ x n. x / 2 ^ n) x (k ∷ k ∷ k ∷ k ∷ []))
    (zip2 (λ x n. x * 2 ^ n % 2 ^ 64) x ((64 - k) ∷ (64 - k) ∷ (64 - k) ∷ (64 - k) ∷ []))) j
    ≡ rotate_right w64 (slice_index x j) k

pub shifts_rotate : (k : ℕ) → 0 < k → k < 64 → (x : List ℕ) → length x ≡ 4 → Rotates k x
shifts_rotate k low high =
    let left : k % 64 ≡ k = omega arith in
    let right : (64 - k) % 64 ≡ 64 - k = omega arith in
    four_lanes (Rotates k) (λ a b c d.
    below_four _ (rw (left, right) refl) (rw (left, right) refl) (rw (left, right) refl) (rw (left, right) refl))

-- the last two terms of a sum of words are added first
pub add64-grouped : (x k w : ℕ) → add64 x (add64 k w) ≡ add64 (add64 x k) w
add64-grouped x k w = omega arith

-- word i of message j's window
pub window_at : (j : ℕ) (w : List (List ℕ)) (i : ℕ) → slice_index (window j w) i ≡ lane_at w i j
window_at j w i = get_or-map (λ x. slice_index x j) w i []

pub window_set : (j : ℕ) (w : List (List ℕ)) (i : ℕ) (x : List ℕ) → window j (slice_set w i x) ≡ slice_set (window j w) i (slice_index x j)
window_set j w i x = map-set (λ x. slice_index x j) w i x

-- each lane is a word
pub fits_lane : (xs : List ℕ) → length xs ≡ 4 → Each1 (Fits w64) xs → (j : ℕ) → j < 4 → slice_index xs j < 2 ^ 64
fits_lane xs l each j lt =
    let fit = Each1-get_or (Fits w64) xs j 0 (omega arith) each in
    fit.fits

pub length_window : (j : ℕ) (w : List (List ℕ)) → length (window j w) ≡ length w
length_window j w = length-map w (λ x. slice_index x j)

pub lane_set_same : (w : List (List ℕ)) (i j : ℕ) (x : List ℕ) → i < length w → lane_at (slice_set w i x) i j ≡ slice_index x j
lane_set_same w i j x lt = ap (λ y. slice_index y j) (get_or-set_same w i x [] lt)

pub lane_set_other : (w : List (List ℕ)) (i k j : ℕ) (x : List ℕ) → k ≢ i → lane_at (slice_set w i x) k j ≡ lane_at w k j
lane_set_other w i k j x ne = ap (λ y. slice_index y j) (get_or-set_other w i k x [] ne)
