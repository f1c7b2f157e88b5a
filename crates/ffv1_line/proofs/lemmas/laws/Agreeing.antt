-- Cells that agree on the rows up to one row.
use Rattle.std.proofs.Common.{◌≡◌, refl, ℕ, zero, suc, ◌-◌, ◌<◌, min, List, [], ◌∷◌, ◌++◌, arith, ap, subst, ◌∙◌, ℤ}
use Rattle.ffv1_plane.specs.declared.prediction.Around.{Around}
use Rattle.ffv1_plane.specs.Quantisation.{Set}
use Rattle.ffv1_line.specs.Cell.{Cell, seen, around, Agree}
use Rattle.ffv1_line.specs.Row.{AreSuiting, SuitsAt, sample_steps, row_steps}

-- the same is seen in them up to that row
inside_alike : (c d : Cell) (y x z : ℕ) → Agree c d y → z < suc (suc (suc y)) → seen c (suc (suc x)) z ≡ seen d (suc (suc x)) z
unfolding seen
inside_alike c d y x zero agree h = refl
inside_alike c d y x (suc zero) agree h = refl
inside_alike c d y x (suc (suc z)) agree h =
    agree.each (min x (c.width - 1)) z (omega (arith, agree.some)) (omega (arith, h)) ∙ ap (λ w. d.at (min x (w - 1)) z) agree.wide

seen_alike : (c d : Cell) (y x z : ℕ) → Agree c d y → z < suc (suc (suc y)) → seen c x z ≡ seen d x z
unfolding seen
seen_alike c d y zero z agree h = refl
seen_alike c d y (suc zero) zero agree h = refl
seen_alike c d y (suc zero) (suc z) agree h = inside_alike c d y 0 z agree (omega (arith, h))
seen_alike c d y (suc (suc x)) z agree h = inside_alike c d y x z agree h

around_alike : (c d : Cell) (y x : ℕ) → Agree c d y → around c x y ≡ around d x y
around_alike c d y x agree =
    let l = seen_alike c d y (suc x) (suc (suc y)) agree (omega arith) in
    let t = seen_alike c d y (suc (suc x)) (suc y) agree (omega arith) in
    let tl = seen_alike c d y (suc x) (suc y) agree (omega arith) in
    let tr = seen_alike c d y (suc (suc (suc x))) (suc y) agree (omega arith) in
    let ll = seen_alike c d y x (suc (suc y)) agree (omega arith) in
    let tt = seen_alike c d y (suc (suc x)) y agree (omega arith) in
    rw (l, t, tl, tr, ll, tt) refl

pub steps_alike : (set : Set) (c d : Cell) (y x : ℕ) (qs : List ℤ) → Agree c d y → row_steps set c y x qs ≡ row_steps set d y x qs
steps_alike set c d y x [] agree = refl
steps_alike set c d y x (q ∷ qs) agree =
    ap (λ (a : Around). sample_steps set a q ++ row_steps set c y (suc x) qs) (around_alike c d y x agree)
    ∙ ap (λ ss. sample_steps set (around d x y) q ++ ss) (steps_alike set c d y (suc x) qs agree)

pub suits_alike : (set : Set) (bits : ℕ) (c d : Cell) (y x : ℕ) (qs : List ℤ) → Agree c d y → AreSuiting set bits c y x qs → AreSuiting set bits d y x qs
suits_alike set bits c d y x [] agree are = tt
suits_alike set bits c d y x (q ∷ qs) agree are =
    let here : SuitsAt set bits (around d x y) (seen d (suc (suc x)) (suc (suc y))) q =
    subst (λ s. SuitsAt set bits (around d x y) s q) (seen_alike c d y (suc (suc x)) (suc (suc y)) agree (omega arith))
    (subst (λ (a : Around). SuitsAt set bits a (seen c (suc (suc x)) (suc (suc y))) q) (around_alike c d y x agree) are.0) in
    (here, suits_alike set bits c d y (suc x) qs agree are.1)
