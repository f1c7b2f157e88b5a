-- worked values
use Rattle.std.specs.Prelude.{◌≡◌, [], ◌∷◌}
use Rattle.std.proofs.Common.{refl}
use Rattle.ffv1_record.specs.Parity.{parity_of, remainder_of, divided}

pub one : parity_of (1 ∷ []) ≡ 79764919
unfolding parity_of divided
one = refl

pub none : parity_of (0 ∷ 0 ∷ 0 ∷ []) ≡ 0
unfolding parity_of divided
none = refl

pub some : parity_of (254 ∷ 123 ∷ 0 ∷ 0 ∷ 2 ∷ 0 ∷ []) ≡ 2492207932
unfolding parity_of divided
some = refl

pub whole : remainder_of (254 ∷ 123 ∷ 0 ∷ 0 ∷ 2 ∷ 0 ∷ 148 ∷ 140 ∷ 19 ∷ 60 ∷ []) ≡ 0
unfolding remainder_of divided
whole = refl
