-- Planes of lines: if a list has each line of a plane once, from the top, its samples one after
-- the other are the plane.
use Rattle.std.proofs.Common.{◌≡◌, refl, ℕ, zero, suc, ◌+◌, ◌-◌, ◌*◌, ◌≤◌, true, false, if◌then◌else◌, ◌==◌, List, [], ◌∷◌, ◌++◌, map, length, take, drop, inl, inr, ap, sym, subst, ◌∙◌, arith, length-append}
use Rattle.std.specs.List.{flat_map, range_with_len}
use Rattle.std.proofs.lemmas.Bool.{cases_eq, eq-eqb, ne_eqb}
use Rattle.std.proofs.Math.Seq.{drop-append-add, take-append_seam}
use Rattle.ffv1_wire.specs.Runs as wire
use Rattle.ffv1_frame.specs.SliceList.{Line}
use Rattle.ffv1_frame.specs.Decoding.{row_in}
use Rattle.ffv1_frame.proofs.lemmas.laws.decoding.Machines.{each_both, Each}

-- where a line stands
abbrev pub key_of : wire.Line → Line
key_of l = record { plane = l.plane; y = l.row }

abbrev pub samples_if : ℕ → wire.Line → List ℕ
samples_if p l = if l.plane == p then l.samples else []

-- the samples of a plane
abbrev pub samples_in : ℕ → List wire.Line → List ℕ
samples_in p ls = flat_map (samples_if p) ls

abbrev pub row_if : ℕ → Line → List ℕ
row_if p k = if k.plane == p then k.y ∷ [] else []

-- the rows of a plane, in their order
abbrev pub rows_in : ℕ → List Line → List ℕ
rows_in p ks = flat_map (row_if p) ks

-- of plane p a line is this row of some samples, whose first row is number from
pub record IsRowOf (width p from : ℕ) (samples : List ℕ) (l : wire.Line) : Type 0 where
  pub row : l.plane ≡ p → (from ≤ l.row) × (l.samples ≡ row_in width (l.row - from) samples)

first_row : (width : ℕ) (xs ys : List ℕ) → length xs ≡ width → row_in width 0 (xs ++ ys) ≡ xs
first_row width xs ys long =
    ap (λ n. take width (drop n (xs ++ ys))) (let none : 0 * width ≡ 0 = omega arith in none)
    ∙ ap (λ n. take n (xs ++ ys)) (sym long) ∙ take-append_seam xs ys

later_row : (width y : ℕ) (xs ys : List ℕ) → length xs ≡ width → row_in width (suc y) (xs ++ ys) ≡ row_in width y ys
later_row width y xs ys long =
    let place : suc y * width ≡ length xs + y * width = omega (arith, long) in
    ap (λ n. take width (drop n (xs ++ ys))) place ∙ ap (take width) (drop-append-add xs ys (y * width))

-- the first of some numbers, and those after it
pub record Counted (row from count : ℕ) (rows : List ℕ) : Type 0 where
  pub less : ℕ
  pub many : count ≡ suc less
  pub here : row ≡ from
  pub rest : rows ≡ range_with_len (from + 1) less

pub counted : (row from count : ℕ) (rows : List ℕ) → row ∷ rows ≡ range_with_len from count → Counted row from count rows
counted row from zero rows e = cc
counted row from (suc count) rows e = record { less = count; many = refl; here = cc; rest = cc }

-- the lines stand in the samples
pub record Stand (width p from count : ℕ) (ls : List wire.Line) : Type 0 where
  pub long : length (samples_in p ls) ≡ count * width
  pub each : Each (IsRowOf width p from (samples_in p ls)) ls

first_line : (width p from : ℕ) (l : wire.Line) (samples : List ℕ) → length l.samples ≡ width → l.row ≡ from → IsRowOf width p from (l.samples ++ samples) l
first_line width p from l samples long here = record {
  row = λ is.
      let none : 0 ≡ l.row - from = omega (arith, here) in
      (omega (arith, here), sym (first_row width l.samples samples long) ∙ ap (λ y. row_in width y (l.samples ++ samples)) none);
}

behind_first : (width p from : ℕ) (xs samples : List ℕ) (l : wire.Line) → length xs ≡ width → IsRowOf width p (from + 1) samples l → IsRowOf width p from (xs ++ samples) l
behind_first width p from xs samples l long is = record {
  row = λ same.
      let there = is.row same in
      let place : suc (l.row - (from + 1)) ≡ l.row - from = omega (arith, there.0) in
      (omega (arith, there.0), there.1 ∙ sym (later_row width (l.row - (from + 1)) xs samples long) ∙ ap (λ y. row_in width y (xs ++ samples)) place);
}

pub stand : (width p from count : ℕ) (ls : List wire.Line) → Each (λ (l : wire.Line). l.plane ≡ p → length l.samples ≡ width) ls →
    rows_in p (map key_of ls) ≡ range_with_len from count → Stand width p from count ls
stand width p from zero [] sized rows = record { long = omega arith; each = tt }
stand width p from (suc count) [] sized rows = cc
stand width p from count (l ∷ ls) sized rows = elim (cases_eq l.plane p) [
  | inl same ↦
      let yes : (l.plane == p) ≡ true = eq-eqb l.plane p same in
      let here = counted l.row from count (rows_in p (map key_of ls)) (sym (ap (λ b. (if b then l.row ∷ [] else []) ++ rows_in p (map key_of ls)) yes) ∙ rows) in
      let rest = stand width p (from + 1) here.less ls sized.1 here.rest in
      let now : samples_in p (l ∷ ls) ≡ l.samples ++ samples_in p ls = ap (λ b. (if b then l.samples else []) ++ samples_in p ls) yes in
      let long = sized.0 same in
      record {
        long =
            ap (λ (xs : List ℕ). length xs) now ∙ length-append l.samples (samples_in p ls)
            ∙ (let sum : length l.samples + length (samples_in p ls) ≡ count * width = omega (arith, rest.long, long, ap (λ n. n * width) here.many) in sum);
        each =
            subst (λ xs. Each (IsRowOf width p from xs) (l ∷ ls)) (sym now) (
              first_line width p from l (samples_in p ls) long here.here,
              each_both (IsRowOf width p (from + 1) (samples_in p ls)) (IsRowOf width p from (l.samples ++ samples_in p ls)) ls rest.each
                  (λ other is. behind_first width p from l.samples (samples_in p ls) other long is),
            );
      }
  | inr other ↦
      let none : (l.plane == p) ≡ false = ne_eqb l.plane p other in
      let rest_rows : rows_in p (map key_of ls) ≡ range_with_len from count =
      sym (ap (λ b. (if b then l.row ∷ [] else []) ++ rows_in p (map key_of ls)) none) ∙ rows in
      let rest = stand width p from count ls sized.1 rest_rows in
      let now : samples_in p (l ∷ ls) ≡ samples_in p ls = ap (λ b. (if b then l.samples else []) ++ samples_in p ls) none in
      record {
        long = ap (λ (xs : List ℕ). length xs) now ∙ rest.long;
        each = subst (λ xs. Each (IsRowOf width p from xs) (l ∷ ls)) (sym now) (record { row = λ same. absurd (other same) }, rest.each);
      }
]
