-- Places of equal neighbours: the samples above and to the left are one, and so is the sample where the symbol is a
-- zero. In a run the sample above to the right is too.
use Rattle.std.proofs.Common.{◌≡◌, refl, ℕ, suc, ◌+◌, ◌-◌, ◌*◌, ◌<◌, min, Bool, true, false, IsTrue, List, length, get_or, slice_set, arith, ap, sym, ◌∙◌, ℤ, pos, max}
use Rattle.ffv1_range.specs.Follows.{Follows}
use Rattle.ffv1_range.specs.Symbols.{shifted, signed_steps}
use Rattle.ffv1_plane.specs.declared.prediction.Around.{Around}
use Rattle.ffv1_plane.specs.declared.early.Early.{Early}
use Rattle.ffv1_plane.specs.Quantisation.{Set}
use Rattle.ffv1_plane.specs.Early.{left_above, right_above, IsEarly}
use Rattle.ffv1_plane.specs.Context.{size_of, flip_of}
use Rattle.ffv1_plane.specs.Prediction.{predicted}
use Rattle.ffv1_plane.specs.Residual.{sample_of}
use Rattle.ffv1_line.specs.Decoded.{Sampled, Lined}
use Rattle.ffv1_line.specs.declared.decode.places.Places.{Places}
use Rattle.ffv1_line.specs.declared.decode.places.Behind.{Behind}
use Rattle.ffv1_line.specs.Internal.Along.{AreUnsigned, IsBehind, IsFilled, ComesAgain}
use Rattle.ffv1_line.specs.Internal.Places.{ArePlaces, Carries, GoesOn, SharesContext, coding_of, above_of}
use Rattle.ffv1_line.proofs.lemmas.cell.Narrow.{unsigned_below}
use Rattle.ffv1_line.proofs.lemmas.decode.Prepared.{stands_behind, behind_next, prepared_at, sampled_by_zero}
use Rattle.ffv1_line.proofs.lemmas.cell.Rows.{lined_next}
use Rattle.ffv1_line.specs.Coding.{RowCoding}
use Rattle.ffv1_line.specs.Coder.{Decoder}
use Rattle.ffv1_line.specs.Above.{RowsAbove}

-- the sample above to the left of the next place is the one above this one
pub left_next : (set : Set) (two one : List ℕ) (from : ℕ) (e : Early) (n i : ℕ) → IsFilled set two one from e n → i + 1 < n → get_or e.tl (i + 1) 0 ≡ get_or e.t i 0
left_next set two one from e n i filled inside =
    let next : from + (i + 1) ≡ suc (from + i) = omega arith in
    filled.above.tl_is (i + 1) inside ∙ ap (left_above two one) next ∙ sym (filled.above.t_is i (omega arith))

-- the residual 0 makes l again where l is the sample that it made of the prediction of such places
pub comes_again : (bits l made : ℕ) (prediction : ℤ) → made ≡ l → pos made ≡ sample_of bits prediction false (pos 0) →
    ((a : Around) → a.l ≡ l → a.t ≡ l → l ≡ min a.tl a.t → l ≡ max a.tl a.t → prediction ≡ predicted a) → ComesAgain bits l
comes_again bits l made prediction is value predicts = record {
  makes = λ a left top above.
      let least : l ≡ min a.tl a.t = omega (arith, top, above) in
      let most : l ≡ max a.tl a.t = omega (arith, top, above) in
      rw (is, predicts a left top least most) at value;
}

-- a zero at such a position, by the context that zeros have
zero_sampled : (coding : RowCoding) (old new : Decoder) (l tr ll tt size : ℕ) → AreUnsigned coding.bits → ComesAgain coding.bits l →
    size ≡ size_of coding.set (record { l = l; t = l; tl = l; tr = tr; ll = ll; tt = tt }) → Follows coding.table old.reading old.states new.reading new.states (shifted (size * 32) (signed_steps (pos 0))) →
    Sampled coding old new (record { l = l; t = l; tl = l; tr = tr; ll = ll; tt = tt }) l
zero_sampled coding old new l tr ll tt size narrow again context follows =
    let a : Around = record { l = l; t = l; tl = l; tr = tr; ll = ll; tt = tt } in
    sampled_by_zero coding old new a l size (flip_of coding.set a) (predicted a) context refl (sym (unsigned_below coding.bits narrow a)) (again.makes a refl refl refl) follows

-- the sample above a position that goes on
pub top_here : (run : Bool) (e : Early) (sum l i : ℕ) → (IsTrue run → get_or e.t i 0 ≡ l) → GoesOn run e sum l i → get_or e.t i 0 ≡ l
top_here true e sum l i top on = top refl
top_here false e sum l i top on = on.0

-- in a run it says what is above the next one
pub top_next : (run : Bool) (e : Early) (sum l i : ℕ) → GoesOn run e sum l i → IsTrue run → get_or e.t (i + 1) 0 ≡ l
top_next true e sum l i on is = on
top_next false e sum l i on is = cc

-- zeros have the same context where the sample two to the left is the one too
pub shares_on : {B : Type 0} (run : Bool) (p : Places B) (start : ℕ) (b : Behind) (l size : ℕ) → l ≡ b.l → SharesContext run p start b size → SharesContext run p start (record { ll = l; l = l }) size
shares_on true p start b l size is shares = shares
shares_on false p start b l size is shares = rw is (shares.1, shares.1)

-- the context of a position that goes on
context_here : {B : Type 0} (run : Bool) (p : Places B) (start i : ℕ) (b : Behind) (size : ℕ) → ArePlaces p → i + 1 < p.count → get_or p.early.now.tl i 0 ≡ b.l → get_or p.early.now.t i 0 ≡ b.l →
    GoesOn run p.early.now (get_or p.early.now.sum start 0) b.l i → SharesContext run p start b size →
    size ≡ size_of p.set.now (record { l = b.l; t = b.l; tl = b.l; tr = right_above p.one.now (p.from + i); ll = b.ll; tt = get_or p.two.now (p.from + i) 0 })
context_here true p start i b size are inside left top on shares =
    let place : min (p.from + i + 1) (length p.one.now - 1) ≡ p.from + (i + 1) = omega (arith, are.within) in
    let right : right_above p.one.now (p.from + i) ≡ b.l = ap (λ k. get_or p.one.now k 0) place ∙ sym (are.filled.above.t_is (i + 1) inside) ∙ on in
    let a : Around = record { l = b.l; t = b.l; tl = b.l; tr = right_above p.one.now (p.from + i); ll = b.ll; tt = get_or p.two.now (p.from + i) 0 } in
    shares.0 ∙ sym (shares.1.each a refl refl right)
context_here false p start i b size are inside left top on shares =
    let prepared = (prepared_at p.set.now p.two.now p.one.now p.from p.early.now p.count i are.filled (omega arith)).early in
    let early : IsEarly p.set.now b.l b.l (right_above p.one.now (p.from + i)) (get_or p.two.now (p.from + i) 0) (get_or p.early.now.sum start 0) = rw (left, top, on.1) at prepared in
    shares.0.each (right_above p.one.now (p.from + i)) (get_or p.two.now (p.from + i) 0) early

-- one place more
pub equal_next : {B : Type 0} (run : Bool) (p : Places B) (start i : ℕ) (b : Behind) (size : ℕ) (first mid new : Decoder) (cur : List ℕ) → ArePlaces p → i + 1 < p.count → length p.one.now ≡ length cur →
    get_or p.early.now.tl i 0 ≡ b.l → get_or p.early.now.t i 0 ≡ b.l → GoesOn run p.early.now (get_or p.early.now.sum start 0) b.l i → ComesAgain p.bits b.l → SharesContext run p start b size →
    Carries p i cur b → Lined (coding_of p) first mid (above_of p) cur (p.from + i) → Follows p.table.now mid.reading mid.states new.reading new.states (shifted (size * 32) (signed_steps (pos 0))) →
    Lined (coding_of p) first new (above_of p) (slice_set cur (p.from + i) b.l) (p.from + (i + 1))
equal_next run p start i b size first mid new cur are inside wide left top on again shares behind lined follows =
    let x : ℕ = p.from + i in
    let more : p.from + (i + 1) ≡ x + 1 = omega arith in
    let filled = are.filled in
    let here : i < p.count = omega arith in
    let within : x < length cur = omega (arith, are.within, wide) in
    let stands = stands_behind (above_of p) cur x b.ll b.l b.l b.l (omega (arith, wide)) (sym left ∙ filled.above.tl_is i here) (sym top ∙ filled.above.t_is i here) behind in
    rw more (lined_next (coding_of p) first mid new (above_of p) cur x (min (x + 1) (length p.one.now - 1)) b.ll b.l b.l b.l b.l refl within wide stands lined
    (zero_sampled (coding_of p) mid new b.l (right_above p.one.now x) b.ll (get_or p.two.now x 0) size are.bits again (context_here run p start i b size are inside left top on shares) follows))

pub equal_behind : (set : Set) (over : RowsAbove) (cur : List ℕ) (from n i : ℕ) (e : Early) (ll l : ℕ) → IsFilled set over.two over.one from e n → i < n → from + i < length cur → length over.one ≡ length cur →
    IsBehind over cur (from + i) ll l → IsBehind over (slice_set cur (from + i) l) (from + (i + 1)) l l
equal_behind set over cur from n i e ll l filled inside within wide behind =
    let x : ℕ = from + i in
    let more : from + (i + 1) ≡ x + 1 = omega arith in
    let stands = stands_behind over cur x ll l (get_or e.tl i 0) (get_or e.t i 0) (omega arith) (filled.above.tl_is i inside) (filled.above.t_is i inside) behind in
    rw more (behind_next over cur x ll l _ _ l within wide stands)
