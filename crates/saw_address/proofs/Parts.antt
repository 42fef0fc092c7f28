-- Lists that are written into room that was made for them, one behind the other.
use Rattle.std.proofs.Common.{◌≡◌, ℕ, ◌≤◌, List, ◌++◌, length, take, drop, ap}
use Rattle.std.proofs.lemmas.List.{append-nil, drop_all, drop_at, take_at}

-- ys is written at n, where the room zs behind xs begins, over m of its elements
pub written_behind : {A : Type 0} (xs ys zs : List A) (n m : ℕ) → length xs ≡ n → length zs ≤ m
    → take n (xs ++ zs) ++ (ys ++ drop m (drop n (xs ++ zs))) ≡ xs ++ ys
written_behind xs ys zs n m front all = rw (take_at xs zs n front, drop_at xs zs n front, drop_all m zs all) (ap (λ rest. xs ++ rest) (append-nil ys))
