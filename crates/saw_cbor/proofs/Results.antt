-- What follows where a reading, or the first of two, went well.
use Rattle.std.proofs.Common.{◌≡◌, ℕ, ◌⊎◌, inl, inr, Bool, true, false, cond, Result, Ok, Err, refl, ap}
use Rattle.saw_cbor.specs.declared.fault.CborFault.{CborFault}
use Rattle.saw_cbor.specs.Reading.{◌>>=◌}

abbrev done : {A : Type 0} → A → Result A CborFault
done x = Ok x

pub ok_is : {A : Type 0} (x y : A) → done x ≡ done y → x ≡ y
ok_is x y e = cc

pub ok_pair : {A : Type 0} (a : A) (m : ℕ) (x : A) (n : ℕ) → done {A = A × ℕ} (a, m) ≡ done {A = A × ℕ} (x, n) → (a ≡ x) × (m ≡ n)
ok_pair {A = A} a m x n e =
    let l : A × ℕ = (a, m) in
    let r : A × ℕ = (x, n) in
    let k : l ≡ r = ok_is l r e in
    (ap (λ (p : A × ℕ). p.0) k, ap (λ (p : A × ℕ). p.1) k)

pub no_ok : {A : Type 0} (x : A) (e : CborFault) (r : Result A CborFault) → r ≡ Err e → r ≡ Ok x → ⊥
no_ok x e r failed fine = cc

pub bind_ok : {A B : Type 0} (r : Result A CborFault) (f : A → Result B CborFault) (y : B) → (r >>= f) ≡ Ok y → (x : A) × (r ≡ Ok x) × (f x ≡ Ok y)
bind_ok (Ok x) f y e = (x, refl, e)
bind_ok (Err d) f y e = absurd cc

pub either_way : {A : Type 0} (r : Result A CborFault) → ((x : A) × (r ≡ Ok x)) ⊎ ((e : CborFault) × (r ≡ Err e))
either_way (Ok x) = inl (x, refl)
either_way (Err e) = inr (e, refl)

-- a test that refuses
pub guard_ok : {A : Type 0} (b : Bool) (d : CborFault) (x : Result A CborFault) (y : A) → cond b (Err d) x ≡ Ok y → (b ≡ false) × (x ≡ Ok y)
guard_ok true d x y e = absurd cc
guard_ok false d x y e = (refl, e)
