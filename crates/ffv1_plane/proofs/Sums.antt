-- The sum of five raised entries.
use Rattle.std.proofs.Common.{◌≡◌, refl, ap, ◌∙◌, ℕ, ◌+◌, ◌-◌, ◌*◌, ◌<◌, ◌≤◌, length, unsigned_abs, true, false, [], ◌∷◌, take, arith, ℤ, pos, negsuc, ◌+ℤ◌, ◌-ℤ◌}
use Rattle.std.proofs.lemmas.Int.{ints}
use Rattle.ffv1_plane.specs.declared.prediction.Around.{Around}
use Rattle.ffv1_plane.specs.Quantisation.{Set, HasThreeTables, is_filled, entry_of, entry, scale_behind}
use Rattle.ffv1_plane.specs.Raised.{RaisedTable, AreRaised, half_of}
use Rattle.ffv1_plane.specs.Context.{low, context_of, size_of, flip_of}
use Rattle.ffv1_plane.proofs.Bounds.{entry_size}
use Rattle.ffv1_plane.proofs.Scales.{each_filled}

abbrev pub set_of : RaisedTable → RaisedTable → RaisedTable → RaisedTable → RaisedTable → Set
set_of first second third fourth fifth = first.runs ∷ second.runs ∷ third.runs ∷ fourth.runs ∷ fifth.runs ∷ []

summed : (e1 e2 e3 e4 e5 : ℤ) (r1 r2 r3 r4 r5 h1 h2 h3 h4 h5 half : ℕ) → pos r1 ≡ e1 +ℤ pos h1 → pos r2 ≡ e2 +ℤ pos h2 → pos r3 ≡ e3 +ℤ pos h3 → pos r4 ≡ e4 +ℤ pos h4 → pos r5 ≡ e5 +ℤ pos h5 →
    h1 + h2 + h3 + h4 + h5 ≡ half → e1 +ℤ e2 +ℤ e3 +ℤ e4 +ℤ e5 ≡ pos (r1 + (r4 + (r2 + r3 + r5))) -ℤ pos half
summed e1 e2 e3 e4 e5 r1 r2 r3 r4 r5 h1 h2 h3 h4 h5 half p q r s t u = omega (arith, ints)

pub at_scale : (t : RaisedTable) (other k r : ℕ) → t.scale ≡ other → pos r ≡ entry_of t.runs t.scale k +ℤ pos (half_of t) → pos r ≡ entry_of t.runs other k +ℤ pos (half_of t)
at_scale t other k r same is = is ∙ ap (λ s. entry_of t.runs s k +ℤ pos (half_of t)) same

pub context_is : (first second third fourth fifth : RaisedTable) (half r1 r2 r3 r4 r5 : ℕ) (a : Around) → AreRaised first second third fourth fifth half →
    pos r1 ≡ entry_of first.runs first.scale (low a.l a.tl) +ℤ pos (half_of first) →
    pos r2 ≡ entry_of second.runs second.scale (low a.tl a.t) +ℤ pos (half_of second) →
    pos r3 ≡ entry_of third.runs third.scale (low a.t a.tr) +ℤ pos (half_of third) →
    pos r4 ≡ entry_of fourth.runs fourth.scale (low a.ll a.l) +ℤ pos (half_of fourth) →
    pos r5 ≡ entry_of fifth.runs fifth.scale (low a.tt a.t) +ℤ pos (half_of fifth) →
    context_of (set_of first second third fourth fifth) a ≡ pos (r1 + (r4 + (r2 + r3 + r5))) -ℤ pos half
context_is first second third fourth fifth half r1 r2 r3 r4 r5 a is p q r s t =
    let set = set_of first second third fourth fifth in
    summed (entry set 0 (low a.l a.tl)) (entry set 1 (low a.tl a.t)) (entry set 2 (low a.t a.tr)) (entry set 3 (low a.ll a.l)) (entry set 4 (low a.tt a.t)) r1 r2 r3 r4 r5
    (half_of first) (half_of second) (half_of third) (half_of fourth) (half_of fifth) half
    (at_scale first (scale_behind 1 (take 0 set)) (low a.l a.tl) r1 is.first_scale p)
    (at_scale second (scale_behind 1 (take 1 set)) (low a.tl a.t) r2 is.second_scale q)
    (at_scale third (scale_behind 1 (take 2 set)) (low a.t a.tr) r3 is.third_scale r)
    (at_scale fourth (scale_behind 1 (take 3 set)) (low a.ll a.l) r4 is.fourth_scale s)
    (at_scale fifth (scale_behind 1 (take 4 set)) (low a.tt a.t) r5 is.fifth_scale t)
    is.halves

-- the entries of a table of one level are zeros
pub level_one : (t : RaisedTable) (k : ℕ) → is_filled t.runs ≡ true → length t.runs ≡ 1 → pos 0 ≡ entry_of t.runs t.scale k +ℤ pos (half_of t)
level_one t k filled one =
    let none : length t.runs - 1 ≡ 0 = omega arith in
    let size : unsigned_abs (entry_of t.runs t.scale k) ≤ t.scale * 0 = rw none at (entry_size t.runs t.scale k filled) in
    rw none (omega (arith, ints))

pub three_is : (first second third fourth fifth : RaisedTable) (half r1 r2 r3 : ℕ) (a : Around) → AreRaised first second third fourth fifth half →
    HasThreeTables (set_of first second third fourth fifth) →
    pos r1 ≡ entry_of first.runs first.scale (low a.l a.tl) +ℤ pos (half_of first) →
    pos r2 ≡ entry_of second.runs second.scale (low a.tl a.t) +ℤ pos (half_of second) →
    pos r3 ≡ entry_of third.runs third.scale (low a.t a.tr) +ℤ pos (half_of third) →
    context_of (set_of first second third fourth fifth) a ≡ pos (r1 + (r2 + r3)) -ℤ pos half
three_is first second third fourth fifth half r1 r2 r3 a is three p q r =
    let each = each_filled first.runs second.runs third.runs fourth.runs fifth.runs is.set.filled in
    let sum : r1 + (0 + (r2 + r3 + 0)) ≡ r1 + (r2 + r3) = omega arith in
    rw (← sum) (context_is first second third fourth fifth half r1 r2 r3 0 0 a is p q r
    (level_one fourth (low a.ll a.l) each.fourth three.fourth) (level_one fifth (low a.tt a.t) each.fifth three.fifth))

negative_is : (v : ℤ) (a b : ℕ) → v ≡ pos a -ℤ pos b → a < b → v ≡ negsuc (b - a - 1)
negative_is v a b e h = omega (arith, ints)

positive_is : (v : ℤ) (a b : ℕ) → v ≡ pos a -ℤ pos b → b ≤ a → v ≡ pos (a - b)
positive_is v a b e h = omega (arith, ints)

pub negative_size : (set : Set) (around : Around) (a b : ℕ) → context_of set around ≡ pos a -ℤ pos b → a < b → b - a ≡ size_of set around
unfolding size_of
negative_size set around a b e h = let is = negative_is (context_of set around) a b e h in rw is (omega arith)

pub negative_flip : (set : Set) (around : Around) (a b : ℕ) → context_of set around ≡ pos a -ℤ pos b → a < b → true ≡ flip_of set around
unfolding flip_of
negative_flip set around a b e h = rw (negative_is (context_of set around) a b e h) refl

pub positive_size : (set : Set) (around : Around) (a b : ℕ) → context_of set around ≡ pos a -ℤ pos b → b ≤ a → a - b ≡ size_of set around
unfolding size_of
positive_size set around a b e h = rw (positive_is (context_of set around) a b e h) refl

pub positive_flip : (set : Set) (around : Around) (a b : ℕ) → context_of set around ≡ pos a -ℤ pos b → b ≤ a → false ≡ flip_of set around
unfolding flip_of
positive_flip set around a b e h = rw (positive_is (context_of set around) a b e h) refl
