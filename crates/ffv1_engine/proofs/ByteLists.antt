-- Parts of bytes are bytes, and so are bytes one after the other.
use Rattle.std.proofs.Common.{ℕ, zero, suc, ◌<◌, List, [], ◌∷◌, ◌++◌, get_or, arith}
use Rattle.ffv1_range.specs.Codes.{AreBytes}

pub no_bytes : AreBytes []
no_bytes = λ k. omega arith

pub bytes_pushed : (x : ℕ) (xs : List ℕ) → x < 256 → AreBytes xs → AreBytes (x ∷ xs)
bytes_pushed x xs small are = each
  where
    each : AreBytes (x ∷ xs)
    each zero = small
    each (suc k) = are k

pub bytes_front : (xs ys : List ℕ) → AreBytes (xs ++ ys) → AreBytes xs
bytes_front [] ys are = no_bytes
bytes_front (x ∷ xs) ys are = bytes_pushed x xs (are 0) (bytes_front xs ys (λ j. are (suc j)))

pub bytes_behind : (xs ys : List ℕ) → AreBytes (xs ++ ys) → AreBytes ys
bytes_behind [] ys are = are
bytes_behind (x ∷ xs) ys are = bytes_behind xs ys (λ j. are (suc j))

at : (xs ys : List ℕ) (k : ℕ) → AreBytes xs → AreBytes ys → get_or (xs ++ ys) k 0 < 256
at [] ys k p q = q k
at (x ∷ xs) ys zero p q = p 0
at (x ∷ xs) ys (suc k) p q = at xs ys k (λ j. p (suc j)) q

pub bytes_joined : (xs ys : List ℕ) → AreBytes xs → AreBytes ys → AreBytes (xs ++ ys)
bytes_joined xs ys p q = λ k. at xs ys k p q
