-- A sink of images within an image: which line comes next, and what its lines are.
use Rattle.std.proofs.Common.{◌≡◌, ℕ, ◌+◌, ◌*◌, ◌≤◌, zero, suc, false, inl, inr, Option, List, [], ◌∷◌, ◌++◌, length, take, drop, refl, ap, ◌∙◌, sym, subst, arith, length-append}
use Rattle.std.specs.Prelude.{flat_map}
use Rattle.std.specs.List.{range_with_len}
use Rattle.ffv1_wire.specs.Failures.{one_more}
use Rattle.ffv1_wire.specs.Runs.{Grows, Line, places_in}
use Rattle.ffv1_wire.specs.Writes.{AppendsBeginning}
use Rattle.ffv1_y4m.specs.Ppm.{bytes_for}
use Rattle.ffv1_y4m.specs.Sink.{IsNext, PpmSink, Refuses, Takes, kept_behind, line_text, row_behind, row_text, row_with}
use Rattle.ffv1_y4m.specs.Images.{AtImage, image_lines, image_places, image_text, text_of_lines}
use Rattle.ffv1_y4m.proofs.ImageRuns.{image_rows, next_row, rows_text}

-- red, green and blue of a row
abbrev three : ℕ → List (ℕ × ℕ)
three y = (0, y) ∷ (1, y) ∷ (2, y) ∷ []

abbrev places_from : ℕ → ℕ → List (ℕ × ℕ)
places_from y n = flat_map (λ y. (0, y) ∷ (1, y) ∷ (2, y) ∷ []) (range_with_len y n)

parted : {A : Type 0} (x y : A) (xs ys : List A) → x ∷ xs ≡ y ∷ ys → (x ≡ y) × (xs ≡ ys)
parted x y xs ys e = (cc, cc)

-- a sink of these sizes in a row, of which these lines came
record Partway {W : Type 0} (d w h y : ℕ) (kept : List (List ℕ)) (s : PpmSink W) : Type 0 where
  lines : s.kept ≡ kept
  row : s.row ≡ y
  working : s.failed ≡ false
  wide : s.width ≡ w
  high : s.height ≡ h
  deep : s.depth ≡ d

module _ {W : Type 0} (contents : W → Option (List ℕ)) (failed : W → ℕ) where
  one_further : (d w h y p q : ℕ) (kept : List (List ℕ)) (samples : List ℕ) (s t : PpmSink W) → Partway d w h y kept s → Takes contents failed s p q samples t →
      Partway d w h (row_with h y kept) (kept_behind kept samples) t
  one_further d w h y p q kept samples s t at taken = record {
    lines = ap (λ z. z.kept) taken.sink ∙ ap (λ k. kept_behind k samples) at.lines;
    row = ap (λ z. z.row) taken.sink ∙ (ap (λ k. row_with s.height s.row k) at.lines ∙ (ap (λ k. row_with s.height k kept) at.row ∙ ap (λ k. row_with k y kept) at.high));
    working = ap (λ z. z.failed) taken.sink ∙ at.working;
    wide = ap (λ z. z.width) taken.sink ∙ at.wide;
    high = ap (λ z. z.height) taken.sink ∙ at.high;
    deep = ap (λ z. z.depth) taken.sink ∙ at.deep;
  }

  -- the writer's failures are not those of lines that are taken
  pub writes_kept : (s t : PpmSink W) (lines : List Line) → Grows (Takes contents failed) s lines t → failed t.out ≡ failed s.out
  writes_kept s t [] grows = ap (λ (z : PpmSink W). failed z.out) grows
  writes_kept s t (l ∷ lines) (m, taken, more) = writes_kept m t lines more ∙ taken.same

  module _ (d w h p q : ℕ) (samples : List ℕ) (rest : List (ℕ × ℕ)) (long : length samples ≡ bytes_for d w) where
    abbrev Comes : PpmSink W → Type 0
    Comes t = IsNext t p q samples × (t.width ≡ w) × (t.height ≡ h) × (t.depth ≡ d)

    comes_here : (y n : ℕ) (kept : List (List ℕ)) (t : PpmSink W) → Partway d w h y kept t → length kept ≡ n → ◌≡◌ {A = ℕ × ℕ} (p, q) (n, y) → Comes t
    comes_here y n kept t at many same =
        let plane : p ≡ n = ap (λ (z : ℕ × ℕ). z.0) same in
        let row : q ≡ y = ap (λ (z : ℕ × ℕ). z.1) same in
        let count : length t.kept ≡ length kept = ap (λ (k : List (List ℕ)). length k) at.lines in
        let size : bytes_for t.depth t.width ≡ bytes_for d w = ap (λ z. bytes_for z t.width) at.deep ∙ ap (bytes_for d) at.wide in
        ((at.working, plane ∙ sym (count ∙ many), row ∙ sym at.row, long ∙ sym size), at.wide, at.high, at.deep)

    comes_from : (n y : ℕ) (s t : PpmSink W) (lines : List Line) → y + n ≡ h → Partway d w h y [] s → Grows (Takes contents failed) s lines t →
        places_in lines ++ ((p, q) ∷ rest) ≡ places_from y n → Comes t
    comes_from zero y s t [] e at grows same = absurd (let none : length ((p, q) ∷ rest) ≡ 0 = ap (λ (z : List (ℕ × ℕ)). length z) same in omega (arith, none))
    comes_from zero y s t (l ∷ lines) e at grows same =
        absurd (let none : length (places_in (l ∷ lines) ++ ((p, q) ∷ rest)) ≡ 0 = ap (λ (z : List (ℕ × ℕ)). length z) same in omega (arith, none))
    comes_from (suc n) y s t [] e at grows same =
        subst Comes (sym grows) (comes_here y 0 [] s at refl (parted (p, q) (0, y) rest _ same).0)
    comes_from (suc n) y s t (a ∷ []) e at (one, first, is) same =
        let kept = one_further d w h y a.plane a.row [] a.samples s one at first in
        subst Comes (sym is) (comes_here y 1 (a.samples ∷ []) one kept refl (parted (p, q) (1, y) rest _ (parted (a.plane, a.row) (0, y) _ _ same).1).0)
    comes_from (suc n) y s t (a ∷ b ∷ []) e at (one, first, (two, second, is)) same =
        let kept = one_further d w h y b.plane b.row (a.samples ∷ []) b.samples one two (one_further d w h y a.plane a.row [] a.samples s one at first) second in
        subst Comes (sym is)
        (comes_here y 2 (a.samples ∷ b.samples ∷ []) two kept refl (parted (p, q) (2, y) rest _ (parted (b.plane, b.row) (1, y) _ _ (parted (a.plane, a.row) (0, y) _ _ same).1).1).0)
    comes_from (suc zero) y s t (a ∷ b ∷ c ∷ lines) e at grows same =
        let all : length (places_in (a ∷ b ∷ c ∷ lines) ++ ((p, q) ∷ rest)) ≡ 3 = ap (λ (z : List (ℕ × ℕ)). length z) same in
        absurd (omega (arith, all, length-append (places_in lines) ((p, q) ∷ rest)))
    comes_from (suc (suc n)) y s t (a ∷ b ∷ c ∷ lines) e at (one, first, (two, second, (last, third, more))) same =
        let behind = parted (c.plane, c.row) (2, y) _ _ (parted (b.plane, b.row) (1, y) _ _ (parted (a.plane, a.row) (0, y) _ _ same).1).1 in
        let kept = one_further d w h y c.plane c.row (a.samples ∷ b.samples ∷ []) c.samples two last
        (one_further d w h y b.plane b.row (a.samples ∷ []) b.samples one two (one_further d w h y a.plane a.row [] a.samples s one at first) second) third in
        let next : row_behind h y ≡ y + 1 = next_row h y n e ∙ (let one : suc y ≡ y + 1 = omega arith in one) in
        comes_from (suc n) (y + 1) last t lines (omega (arith, e)) (subst (λ k. Partway d w h k [] last) next kept) more behind.1

  -- the line that comes next in an image is the next of the sink
  pub comes_next : (s t : PpmSink W) (lines : List Line) (p q : ℕ) (samples : List ℕ) (rest : List (ℕ × ℕ)) → AtImage s → Grows (Takes contents failed) s lines t →
      places_in lines ++ ((p, q) ∷ rest) ≡ image_places s.height → length samples ≡ bytes_for s.depth s.width → IsNext t p q samples × (t.width ≡ s.width) × (t.height ≡ s.height) × (t.depth ≡ s.depth)
  comes_next s t lines p q samples rest at grows same long =
      comes_from s.depth s.width s.height p q samples rest long s.height 0 s t lines (omega arith)
      (record { lines = at.kept; row = at.row; working = at.working; wide = refl; high = refl; deep = refl }) grows same

  -- so it is refused only if a write fails
  pub refused_next : (t u : PpmSink W) (p q : ℕ) (samples : List ℕ) → IsNext t p q samples → Refuses contents failed t p q samples u →
      AppendsBeginning (contents t.out) (contents u.out) (line_text t samples) × (failed u.out ≡ one_more (failed t.out))
  refused_next t u p q samples next (inl other) = absurd (other.0 next)
  refused_next t u p q samples next (inr cut) = (cut.1, cut.2)

-- the lines of an image stand where its lines do
pub lines_placed : (w row n : ℕ) (r g b : List ℕ) → places_in (image_lines w row n r g b) ≡ places_from row n
lines_placed w row zero r g b = refl
lines_placed w row (suc n) r g b =
    let next : suc row ≡ row + 1 = omega arith in
    ap (λ z. three row ++ z) (lines_placed w (suc row) n (drop w r) (drop w g) (drop w b) ∙ ap (λ k. places_from k n) next)

-- and their text is that of the image
rows_by_lines : (d w h row n : ℕ) (r g b : List ℕ) → row + n ≡ h → text_of_lines d w h [] row (image_lines (bytes_for d w) row n r g b) ≡ rows_text d w h row n r g b
rows_by_lines d w h row zero r g b e = refl
rows_by_lines d w h row (suc zero) r g b e = refl
rows_by_lines d w h row (suc (suc n)) r g b e =
    ap (λ z. row_text d w h row (take (bytes_for d w) r) (take (bytes_for d w) g) (take (bytes_for d w) b) ++ z)
    (ap (λ k. text_of_lines d w h [] k (image_lines (bytes_for d w) (suc row) (suc n) (drop (bytes_for d w) r) (drop (bytes_for d w) g) (drop (bytes_for d w) b))) (next_row h row n e)
    ∙ rows_by_lines d w h (suc row) (suc n) (drop (bytes_for d w) r) (drop (bytes_for d w) g) (drop (bytes_for d w) b) (omega (arith, e)))

pub image_by_lines : (d w h : ℕ) (r g b : List ℕ) → 1 ≤ h → length r ≡ h * bytes_for d w → text_of_lines d w h [] 0 (image_lines (bytes_for d w) 0 h r g b) ≡ image_text d w h (r ∷ g ∷ b ∷ [])
image_by_lines d w zero r g b some long = absurd (omega (arith, some))
image_by_lines d w (suc n) r g b some long = rows_by_lines d w (suc n) 0 (suc n) r g b (omega arith) ∙ image_rows d w (suc n) n r g b long
