-- Three rows as a cell: what a line's contract says of every cell, it says of this one.
use Rattle.std.proofs.Common.{◌≡◌, refl, ℕ, zero, suc, ◌<◌, ◌≤◌, List, [], ◌∷◌, ◌++◌, length, get_or, arith, ap, sym, subst, ◌∙◌, ℤ}
use Rattle.ffv1_range.specs.Interval.{Decision, interval_of}
use Rattle.ffv1_range.specs.Codes.{AreBytes, Codes}
use Rattle.ffv1_range.specs.Symbols.{Step, decided}
use Rattle.ffv1_range.specs.Reading.{At}
use Rattle.ffv1_range.specs.Follows.{Follows}
use Rattle.ffv1_range.proofs.Steps.{read_on}
use Rattle.ffv1_plane.specs.Quantisation.{Set}
use Rattle.ffv1_line.specs.Cell.{Cell, seen, around, Shows, Above}
use Rattle.ffv1_line.specs.Row.{AreSuiting, row_steps, refused_steps}
use Rattle.ffv1_line.specs.Decoded.{Lined, LinedToRefusal}
use Rattle.ffv1_line.specs.Length.{AreSmall}
use Rattle.ffv1_line.specs.Coded.{CodesSteps, CodesRowBy, refused_row_steps}
use Rattle.ffv1_line.proofs.lemmas.laws.SameRow.{one_row, whole_or_refused}
use Rattle.ffv1_line.specs.Coding.{RowCoding}
use Rattle.ffv1_line.specs.Coder.{Decoder}
use Rattle.ffv1_line.specs.Above.{RowsAbove}

pub pick : List ℕ → List ℕ → List ℕ → ℕ → List ℕ
pick two one cur zero = two
pick two one cur (suc zero) = one
pick two one cur (suc (suc y)) = cur

abbrev pub three : List ℕ → List ℕ → List ℕ → Cell
three two one cur = record { width = length one; at = λ x y. get_or (pick two one cur y) x 0 }

pub above_three : (two one cur : List ℕ) → Above (three two one cur) 2 two one
unfolding pick seen
above_three two one cur = record {
  wide = refl;
  second = record { each = λ x h. ap (λ k. get_or two k 0) (omega arith) };
  first = record { each = λ x h. ap (λ k. get_or one k 0) (omega arith) };
}

pub shows_three : (two one cur : List ℕ) (n : ℕ) → n ≤ length one → Shows (three two one cur) 4 cur n
unfolding pick seen
shows_three two one cur n few = record { each = λ x h. ap (λ k. get_or cur k 0) (omega arith) }

pub seen_three : (two one cur : List ℕ) (x : ℕ) → x < length one → seen (three two one cur) (suc (suc x)) 4 ≡ get_or cur x 0
unfolding pick seen
seen_three two one cur x inside = ap (λ k. get_or cur k 0) (omega arith)

-- residuals that suit have symbols
pub suiting_small : (set : Set) (bits : ℕ) (c : Cell) (y x : ℕ) (qs : List ℤ) → AreSuiting set bits c y x qs → AreSmall qs
suiting_small set bits c y x [] are = tt
suiting_small set bits c y x (q ∷ qs) are = (are.0.size, suiting_small set bits c y (suc x) qs are.1)

module _ (coding : RowCoding) (old new : Decoder) (over : RowsAbove) (cur : List ℕ) where
  pub lined_suits : (n : ℕ) → n ≤ length over.one → (l : Lined coding old new over cur n) → AreSuiting coding.set coding.bits (three over.two over.one cur) 2 0 l.residuals
  lined_suits n few l = (l.coded (three over.two over.one cur) 2 (above_three over.two over.one cur) (shows_three over.two over.one cur n few)).suits

  pub lined_follows : (n : ℕ) → n ≤ length over.one → (l : Lined coding old new over cur n) → Follows coding.table old.reading old.states new.reading new.states (row_steps coding.set (three over.two over.one cur) 2 0 l.residuals)
  lined_follows n few l = (l.coded (three over.two over.one cur) 2 (above_three over.two over.one cur) (shows_three over.two over.one cur n few)).follows

  pub refused_suits : (n : ℕ) → n ≤ length over.one → (r : LinedToRefusal coding old new over cur n) → AreSuiting coding.set coding.bits (three over.two over.one cur) 2 0 r.residuals
  refused_suits n few r = r.suits (three over.two over.one cur) 2 (above_three over.two over.one cur) (shows_three over.two over.one cur n few)

  pub refused_follows : (n : ℕ) → n ≤ length over.one → (r : LinedToRefusal coding old new over cur n) →
      Follows coding.table old.reading old.states new.reading new.states (row_steps coding.set (three over.two over.one cur) 2 0 r.residuals ++ refused_steps coding.set (around (three over.two over.one cur) n 2))
  refused_follows n few r = r.follows (three over.two over.one cur) 2 (above_three over.two over.one cur) (shows_three over.two over.one cur n few)

  -- what was followed is coded
  coded_after : (before : List Decision) (steps : List Step) → At old.reading (interval_of before) → Follows coding.table old.reading old.states new.reading new.states steps → CodesSteps old.reading.bytes before coding.table old.states steps
  coded_after before steps at follows =
      let now = read_on coding.table old.reading old.states new.reading new.states steps before at follows in
      record { named = follows.named; codes = subst (λ b. Codes b (before ++ decided coding.table old.states steps)) follows.bytes now.inside }

  -- the row that was read is the one that is coded
  pub row_back : (before : List Decision) (c : Cell) (y : ℕ) (qs : List ℤ) → 0 < length over.one → Above c y over.two over.one → length cur ≡ c.width → length qs ≡ c.width →
      At old.reading (interval_of before) → AreBytes old.reading.bytes → CodesRowBy old.reading.bytes before coding old.states c y qs → Lined coding old new over cur (length cur) →
      Shows c (suc (suc y)) cur c.width × Follows coding.table old.reading old.states new.reading new.states (row_steps coding.set c y 0 qs)
  row_back before c y qs some above wide long at are codes lined =
      let d = three over.two over.one cur in
      let few : length cur ≤ length over.one = omega (arith, wide, above.wide) in
      let suits = lined_suits (length cur) few lined in
      let follows = lined_follows (length cur) few lined in
      let as_many : length lined.residuals ≡ length qs = lined.count ∙ wide ∙ sym long in
      let same = one_row old.reading.bytes are before coding old.states d 2 c y over.two over.one some (above_three over.two over.one cur) above lined.residuals qs as_many
      (record { suits = suits; coded = coded_after before (row_steps coding.set d 2 0 lined.residuals) at follows }) codes in
      let shows : Shows c (suc (suc y)) cur c.width = record {
        each = λ x h. sym (seen_three over.two over.one cur x (omega (arith, h, above.wide))) ∙ same.1.each x (omega (arith, h, lined.count, wide));
      } in
      let shown : Shows c (suc (suc y)) cur (length cur) = subst (Shows c (suc (suc y)) cur) (sym wide) shows in
      (shows, subst (λ rs. Follows coding.table old.reading old.states new.reading new.states (row_steps coding.set c y 0 rs)) same.0 (lined.coded c y above shown).follows)

  -- a row that is coded is not refused
  pub row_not_refused : (before : List Decision) (c : Cell) (y x : ℕ) (qs : List ℤ) → 0 < length over.one → Above c y over.two over.one → length qs ≡ c.width → x < c.width →
      At old.reading (interval_of before) → AreBytes old.reading.bytes → CodesRowBy old.reading.bytes before coding old.states c y qs → LinedToRefusal coding old new over cur x → ⊥
  row_not_refused before c y x qs some above long inside at are codes refused =
      let d = three over.two over.one cur in
      let few : x ≤ length over.one = omega (arith, inside, above.wide) in
      let suits = refused_suits x few refused in
      let follows = refused_follows x few refused in
      let steps = subst (λ n. Follows coding.table old.reading old.states new.reading new.states (row_steps coding.set d 2 0 refused.residuals ++ refused_steps coding.set (around d n 2))) (sym refused.count) follows in
      let short : length refused.residuals < length qs = omega (arith, refused.count, long, inside) in
      whole_or_refused old.reading.bytes are before coding old.states c y d 2 over.two over.one some above (above_three over.two over.one cur) qs refused.residuals short codes
      (record { suits = suits; coded = coded_after before (refused_row_steps coding.set d 2 refused.residuals) at steps })
