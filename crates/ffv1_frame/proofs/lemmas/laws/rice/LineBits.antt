-- Each line of Golomb-Rice coded samples has at least one bit.
use Rattle.std.proofs.Common.{◌≡◌, refl, ℕ, zero, suc, ◌+◌, ◌*◌, ◌<◌, ◌≤◌, Bool, List, [], ◌∷◌, ◌++◌, length, drop, ap, sym, subst, ◌∙◌, arith, inl, inr, length-append}
use Rattle.std.proofs.lemmas.List.{length-drop}
use Rattle.ffv1_range.specs.Interval.{interval_of}
use Rattle.ffv1_range.specs.Ending.{bits_place}
use Rattle.ffv1_line.specs.Cell.{Cell}
use Rattle.ffv1_rice.specs.Bits as bits
use Rattle.ffv1_rice.specs.Bits.{bits_from}
use Rattle.ffv1_rice.specs.Row.{Coder, Place, IsRunning, row_bits, places_of, place_at}
use Rattle.ffv1_plane.specs.Quantisation.{Set}
use Rattle.ffv1_record.specs.Configuration.{Configuration}
use Rattle.ffv1_record.specs.Accepted.{Accepted}
use Rattle.ffv1_slice.specs.declared.head.SliceHead.{SliceHead}
use Rattle.ffv1_frame.specs.SliceList.{Line}
use Rattle.ffv1_frame.specs.RiceLines.{LineCoder, line_reading, bits_in, shown, line_bits, line_after, lines_bits, fresh_coder}
use Rattle.ffv1_frame.specs.Ending.{IsBehind, sealed_by}
use Rattle.ffv1_frame.specs.Decoding.{Slice}
use Rattle.ffv1_frame.specs.Known.{AreBitsOf, cells_of}
use Rattle.ffv1_frame.proofs.lemmas.laws.rice.BitLines.{none_runs}
use Rattle.ffv1_frame.proofs.lemmas.laws.rice.BitBodies.{shown_long, bits_first, bits_none}

-- how many bits bytes have
bits_from_long : (bytes : List ℕ) (place count : ℕ) → length (bits_from bytes place count) ≡ count
unfolding bits_from
bits_from_long bytes place zero = refl
bits_from_long bytes place (suc count) = ap suc (bits_from_long bytes (suc place) count)

-- a list with a last element has a first one
first_of : {X : Type 0} (xs : List X) (x : X) → (y : X) × (ys : List X) × (xs ++ (x ∷ []) ≡ y ∷ ys)
first_of [] x = (x, [], refl)
first_of (z ∷ xs) x = (z, xs ++ (x ∷ []), refl)

-- the law of rows
abbrev pub HasBit : Type 0
HasBit = (depth : ℕ) (c : Coder) (p : Place) (ps : List Place) → IsRunning c.index c.run → 1 ≤ length (row_bits depth c (p ∷ ps))

module _ (law : HasBit) where
  places_bit : (depth : ℕ) (c : Coder) (set : Set) (two one row : List ℕ) (n : ℕ) → IsRunning c.index c.run → 0 < n → 1 ≤ length (row_bits depth c (places_of set depth two one row n))
  unfolding places_of
  places_bit depth c set two one row zero none some = absurd (omega (arith, some))
  places_bit depth c set two one row (suc n) none some =
      let parts = first_of (places_of set depth two one row n) (place_at set depth two one row n) in
      subst (λ ps. 1 ≤ length (row_bits depth c ps)) (sym parts.2) (law depth c parts.0 parts.1 none)

  line_bit : (c : Configuration) (h : SliceHead) (cell : ℕ → Cell) (k : LineCoder) (l : Line) → 0 < (cell l.plane).width → 1 ≤ length (line_bits c h cell k l)
  line_bit c h cell k l some =
      let r = line_reading c h (cell l.plane) k l.plane l.y [] in
      let row = shown (cell l.plane) (suc (suc l.y)) in
      let long = shown_long (cell l.plane) (suc (suc l.y)) in
      places_bit r.depth r.start r.set r.two r.one row (length row) (none_runs _) (rw long some)

  pub lines_bit : (c : Configuration) (h : SliceHead) (cell : ℕ → Cell) (k : LineCoder) (ls : List Line) → ((p : ℕ) → 0 < (cell p).width) → length ls ≤ length (lines_bits c h cell k ls)
  lines_bit c h cell k [] some = omega arith
  lines_bit c h cell k (l ∷ ls) some =
      let here = line_bit c h cell k l (some l.plane) in
      let rest = lines_bit c h cell (line_after c h cell k l) ls some in
      let parts : length (lines_bits c h cell k (l ∷ ls)) ≡ length (line_bits c h cell k l) + length (lines_bits c h cell (line_after c h cell k l) ls) =
      ap (λ (z : List Bool). length z) (bits_first c h cell k l ls) ∙ length-append (line_bits c h cell k l) (lines_bits c h cell (line_after c h cell k l) ls) in
      omega (arith, here, rest, parts)

  pub few_lines : (a : Accepted) (coded : ℕ → List ℕ) (n : ℕ) (q : Slice) (read : List Line) → ((p : ℕ) → 0 < (cells_of a.configuration n q p).width) → AreBitsOf a coded n q read → length read ≤ 8 * length (coded n)
  few_lines a coded n q read some are = elim are.begun [
    | inl none ↦ rw none (omega arith)
    | inr begun ↦
        let behind = begun.1 in
        let least = lines_bit a.configuration q.head (cells_of a.configuration n q) fresh_coder read some in
        let mine : length q.bits ≡ length (lines_bits a.configuration q.head (cells_of a.configuration n q) fresh_coder read) = ap (λ (z : List Bool). length z) are.bits in
        let all : length (q.bits ++ begun.0) ≡ length q.bits + length begun.0 = length-append q.bits begun.0 in
        let place = 8 * bits_place (interval_of (sealed_by a q.past behind.unused)) in
        let text : length (q.bits ++ begun.0) ≡ length (drop place (bits.bits_of (coded n))) = ap (λ (z : List Bool). length z) behind.is in
        let cut = length-drop place (bits.bits_of (coded n)) in
        let whole = bits_from_long (coded n) 0 (8 * length (coded n)) in
        omega (arith, least, mine, all, text, cut, whole)
  ]
