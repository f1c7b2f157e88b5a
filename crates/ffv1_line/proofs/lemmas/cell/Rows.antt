-- One place of a row more.
use Rattle.std.proofs.Common.{◌≡◌, ◌≢◌, refl, ℕ, ◌+◌, ◌-◌, ◌<◌, min, List, [], ◌∷◌, ◌++◌, length, get_or, slice_set, arith, ap, sym, ◌∙◌, subst, zero, suc, length-append, add-one, get_or-set_same, get_or-set_other, append_assoc, append-nil, ℤ}
use Rattle.ffv1_range.specs.Follows.{Follows}
use Rattle.ffv1_range.proofs.Steps.{follows_append, follows_none}
use Rattle.ffv1_plane.specs.declared.prediction.Around.{Around}
use Rattle.ffv1_plane.specs.Quantisation.{Set}
use Rattle.ffv1_line.specs.Cell.{Cell, seen, around, Shows, Above}
use Rattle.ffv1_line.specs.Internal.Along.{Left, AreNeighbours}
use Rattle.ffv1_range.proofs.Steps.{puts_none}
use Rattle.ffv1_line.specs.Row.{chosen_at, chosen_row}
use Rattle.ffv1_line.specs.Encoded.{Written}
use Rattle.ffv1_line.specs.Row.{SuitsAt, AreSuiting, sample_steps, refused_steps, row_steps}
use Rattle.ffv1_line.specs.Decoded.{Sampled, Lined, LinedToRefusal, SameFrom}
use Rattle.ffv1_line.specs.Coding.{RowCoding}
use Rattle.ffv1_line.specs.Coder.{Decoder, Encoder}
use Rattle.ffv1_line.specs.Above.{RowsAbove}

-- right of the cell stands its rightmost sample
pub seen_clamped : (c : Cell) (x y : ℕ) → seen c (suc (suc (min x (c.width - 1)))) y ≡ seen c (suc (suc x)) y
unfolding seen
seen_clamped c x zero = refl
seen_clamped c x (suc zero) = refl
seen_clamped c x (suc (suc y)) = ap (λ k. c.at k y) (omega arith)

-- left of the cell stands the sample above
pub seen_border : (c : Cell) (y : ℕ) → seen c 1 (suc y) ≡ seen c 2 y
unfolding seen
seen_border c y = refl

pub seen_far : (c : Cell) (y : ℕ) → seen c 0 y ≡ 0
unfolding seen
seen_far c y = refl

shows_before : (c : Cell) (y : ℕ) (row : List ℕ) (x s : ℕ) → Shows c y (slice_set row x s) (suc x) → Shows c y row x
shows_before c y row x s shows = record {
  each = λ k h. let other : k ≢ x = omega arith in sym (get_or-set_other row x k s 0 other) ∙ shows.each k (omega arith);
}

shows_at : (c : Cell) (y : ℕ) (row : List ℕ) (x s : ℕ) → x < length row → Shows c y (slice_set row x s) (suc x) → s ≡ seen c (suc (suc x)) y
shows_at c y row x s inside shows = sym (get_or-set_same row x s 0 inside) ∙ shows.each x (omega arith)

pub stands_first : (over : RowsAbove) (cur : List ℕ) → 0 < length over.one → length over.two ≡ length over.one → AreNeighbours over cur 0 0 (get_or over.one 0 0) (get_or over.two 0 0) (get_or over.one 0 0)
stands_first over cur some same = record {
  each = λ c y above shows.
      let some : 0 < c.width = omega (arith, above.wide) in
      record {
        ll_is = sym (seen_far c (suc (suc y)));
        l_is = above.first.each 0 some ∙ sym (seen_border c (suc y));
        tl_is = above.second.each 0 some ∙ sym (seen_border c y);
        t_is = above.first.each 0 some;
      };
}

top_right : (c : Cell) (y : ℕ) (two one : List ℕ) (x k : ℕ) → k ≡ min (x + 1) (length one - 1) → 0 < length one → Above c y two one →
    get_or one k 0 ≡ seen c (suc (suc (suc x))) (suc y)
top_right c y two one x k is some above =
    let at : k ≡ min (suc x) (c.width - 1) = omega (arith, above.wide) in
    ap (λ i. get_or one i 0) at ∙ above.first.each (min (suc x) (c.width - 1)) (omega (arith, above.wide)) ∙ seen_clamped c (suc x) (suc y)

pub stands_next : (over : RowsAbove) (cur : List ℕ) (x k ll l tl t s : ℕ) → k ≡ min (x + 1) (length over.one - 1) → x < length cur → length over.one ≡ length cur →
    AreNeighbours over cur x ll l tl t → AreNeighbours over (slice_set cur x s) (x + 1) l s t (get_or over.one k 0)
stands_next over cur x k ll l tl t s is inside same stands =
    let more : suc x ≡ x + 1 = omega arith in
    subst (λ n. AreNeighbours over (slice_set cur x s) n l s t (get_or over.one k 0)) more (record {
      each = λ c y above shows.
          let left = stands.each c y above (shows_before c (suc (suc y)) cur x s shows) in
          record {
            ll_is = left.l_is;
            l_is = shows_at c (suc (suc y)) cur x s inside shows;
            tl_is = left.t_is;
            t_is = top_right c y over.two over.one x k is (omega arith) above;
          };
    })

abbrev pub scalars : ℕ → ℕ → ℕ → ℕ → ℕ → ℕ → Around
scalars l t tl tr ll tt = record { l = l; t = t; tl = tl; tr = tr; ll = ll; tt = tt }

-- the scalars are the neighbours
pub around_is : (c : Cell) (y x : ℕ) (two one : List ℕ) (k ll l tl t : ℕ) → k ≡ min (x + 1) (length one - 1) → x < length one → Above c y two one → Left c y x ll l tl t →
    scalars l t tl (get_or one k 0) ll (get_or two x 0) ≡ around c x y
around_is c y x two one k ll l tl t is inside above left =
    let right = top_right c y two one x k is (omega arith) above in
    let second = above.second.each x (omega (arith, above.wide)) in
    rw (right, second, left.ll_is, left.l_is, left.tl_is, left.t_is) refl

pub row_steps-append : (set : Set) (c : Cell) (y x n : ℕ) (qs : List ℤ) (q : ℤ) → n ≡ x + length qs →
    row_steps set c y x (qs ++ (q ∷ [])) ≡ row_steps set c y x qs ++ sample_steps set (around c n y) q
row_steps-append set c y x n [] q is =
    let same : n ≡ x = omega arith in
    rw same (append-nil (sample_steps set (around c x y) q))
row_steps-append set c y x n (p ∷ qs) q is =
    let rest = row_steps-append set c y (suc x) n qs q (omega arith) in
    ap (λ l. sample_steps set (around c x y) p ++ l) rest ∙ sym (append_assoc (sample_steps set (around c x y) p) (row_steps set c y (suc x) qs) (sample_steps set (around c n y) q))

pub suiting-append : (set : Set) (bits : ℕ) (c : Cell) (y x n : ℕ) (qs : List ℤ) (q : ℤ) → n ≡ x + length qs → AreSuiting set bits c y x qs →
    SuitsAt set bits (around c n y) (seen c (suc (suc n)) (suc (suc y))) q → AreSuiting set bits c y x (qs ++ (q ∷ []))
suiting-append set bits c y x n [] q is are one =
    let same : n ≡ x = omega arith in
    (rw same at one, tt)
suiting-append set bits c y x n (p ∷ qs) q is are one = (are.0, suiting-append set bits c y (suc x) n qs q (omega arith) are.1 one)

pub lined_none : (coding : RowCoding) (r : Decoder) (over : RowsAbove) (cur : List ℕ) → Lined coding r r over cur 0
lined_none coding r over cur = record {
  residuals = [];
  count = refl;
  coded = λ c y above shows. record { suits = tt; follows = follows_none coding.table r.reading r.states };
}

pub lined_next : (coding : RowCoding) (old mid new : Decoder) (over : RowsAbove) (cur : List ℕ) (x k ll l tl top s : ℕ) →
    k ≡ min (x + 1) (length over.one - 1) → x < length cur → length over.one ≡ length cur → AreNeighbours over cur x ll l tl top → Lined coding old mid over cur x →
    Sampled coding mid new (record { l = l; t = top; tl = tl; tr = get_or over.one k 0; ll = ll; tt = get_or over.two x 0 }) s →
    Lined coding old new over (slice_set cur x s) (x + 1)
lined_next coding old mid new over cur x k ll l tl top s is inside same stands lined sampled = record {
  residuals = lined.residuals ++ (sampled.residual ∷ []);
  count = length-append lined.residuals (sampled.residual ∷ []) ∙ ap (λ n. n + 1) lined.count;
  coded = λ c y above shows.
      let shows : Shows c (suc (suc y)) (slice_set cur x s) (suc x) = rw add-one at shows in
      let before = shows_before c (suc (suc y)) cur x s shows in
      let coded = lined.coded c y above before in
      let neighbours = around_is c y x over.two over.one k ll l tl top is (omega arith) above (stands.each c y above before) in
      let suits : SuitsAt coding.set coding.bits (around c x y) s sampled.residual = subst (λ a. SuitsAt coding.set coding.bits a s sampled.residual) neighbours sampled.suits in
      let suits : SuitsAt coding.set coding.bits (around c x y) (seen c (suc (suc x)) (suc (suc y))) sampled.residual =
      subst (λ v. SuitsAt coding.set coding.bits (around c x y) v sampled.residual) (shows_at c (suc (suc y)) cur x s inside shows) suits in
      let follows : Follows coding.table mid.reading mid.states new.reading new.states (sample_steps coding.set (around c x y) sampled.residual) =
      subst (λ a. Follows coding.table mid.reading mid.states new.reading new.states (sample_steps coding.set a sampled.residual)) neighbours sampled.follows in
      record {
        suits = suiting-append coding.set coding.bits c y 0 x lined.residuals sampled.residual (omega (arith, lined.count)) coded.suits suits;
        follows = rw (row_steps-append coding.set c y 0 x lined.residuals sampled.residual (omega (arith, lined.count))) (follows_append _ _ _ _ _ _ _ _ _ coded.follows follows);
      };
}

pub lined_refused : (coding : RowCoding) (old mid new : Decoder) (over : RowsAbove) (cur : List ℕ) (x k ll l tl top : ℕ) →
    k ≡ min (x + 1) (length over.one - 1) → x < length cur → length over.one ≡ length cur → AreNeighbours over cur x ll l tl top → Lined coding old mid over cur x →
    Follows coding.table mid.reading mid.states new.reading new.states (refused_steps coding.set (record { l = l; t = top; tl = tl; tr = get_or over.one k 0; ll = ll; tt = get_or over.two x 0 })) →
    LinedToRefusal coding old new over cur x
lined_refused coding old mid new over cur x k ll l tl top is inside same stands lined refused = record {
  residuals = lined.residuals;
  count = lined.count;
  suits = λ c y above shows. (lined.coded c y above shows).suits;
  follows = λ c y above shows.
      let neighbours = around_is c y x over.two over.one k ll l tl top is (omega arith) above (stands.each c y above shows) in
      follows_append _ _ _ _ _ _ _ _ _ (lined.coded c y above shows).follows (subst (λ a. Follows coding.table mid.reading mid.states new.reading new.states (refused_steps coding.set a)) neighbours refused);
}

pub length-chosen : (set : Set) (bits : ℕ) (c : Cell) (y n : ℕ) → length (chosen_row set bits c y n) ≡ n
unfolding chosen_row
length-chosen set bits c y zero = refl
length-chosen set bits c y (suc n) =
    let rest = length-chosen set bits c y n in
    length-append (chosen_row set bits c y n) (chosen_at set bits c y n ∷ []) ∙ (omega arith)

pub chosen-none : (set : Set) (bits : ℕ) (c : Cell) (y : ℕ) → chosen_row set bits c y 0 ≡ []
unfolding chosen_row
chosen-none set bits c y = refl

pub chosen-more : (set : Set) (bits : ℕ) (c : Cell) (y n : ℕ) → chosen_row set bits c y (n + 1) ≡ chosen_row set bits c y n ++ (chosen_at set bits c y n ∷ [])
unfolding chosen_row
chosen-more set bits c y n = rw add-one refl

pub written_none : (coding : RowCoding) (w : Encoder) (over : RowsAbove) (cur : List ℕ) → Written coding w w over cur 0
written_none coding w over cur = record {
  puts = λ c y above shows. rw (chosen-none coding.set coding.bits c y) (puts_none coding.table w.writing w.states);
}

-- a write at a sample leaves those after it
pub same_from_start : (cur : List ℕ) → SameFrom 0 cur cur
same_from_start cur = record { each = λ k h. refl }

pub same_from_next : (x s : ℕ) (old cur : List ℕ) → SameFrom x old cur → SameFrom (x + 1) old (slice_set cur x s)
same_from_next x s old cur same = record {
  each = λ k h. let other : k ≢ x = omega arith in get_or-set_other cur x k s 0 other ∙ same.each k (omega arith);
}
