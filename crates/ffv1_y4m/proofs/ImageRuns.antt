-- A sink that takes the lines of an image.
use Rattle.std.proofs.Common.{◌≡◌, ℕ, ◌+◌, ◌*◌, ◌≤◌, ◌==◌, nat_lt, zero, suc, true, false, Option, List, [], ◌∷◌, ◌++◌, length, take, drop, refl, ap, ◌∙◌, sym, subst, append_assoc, append-nil, arith, length-drop}
use Rattle.std.proofs.lemmas.Bool.{lt-ltb, le-ltb, ne_eqb}
use Rattle.std.specs.Io.KnownBytes.{Appends}
use Rattle.ffv1_wire.specs.Runs.{Grows}
use Rattle.ffv1_y4m.specs.Ppm.{bytes_for, image_header_text, interleaved}
use Rattle.ffv1_y4m.specs.Sink.{PpmSink, Takes, row_behind, row_text, text_with, kept_behind, row_with}
use Rattle.ffv1_y4m.specs.Images.{image_lines, AtImage, image_text}
use Rattle.ffv1_y4m.proofs.DeepThirds.{interleaved_none, interleaved_parts}
use Rattle.ffv1_y4m.proofs.Written.{appends_then}

-- the text of rows, from this one on
abbrev pub rows_text : ℕ → ℕ → ℕ → ℕ → ℕ → List ℕ → List ℕ → List ℕ → List ℕ
rows_text d w h y zero r g b = []
rows_text d w h y (suc n) r g b =
    row_text d w h y (take (bytes_for d w) r) (take (bytes_for d w) g) (take (bytes_for d w) b) ++ rows_text d w h (suc y) n (drop (bytes_for d w) r) (drop (bytes_for d w) g) (drop (bytes_for d w) b)

-- a sink at a row, of these sizes
record AtRow {W : Type 0} (d w h y : ℕ) (s : PpmSink W) : Type 0 where
  kept : s.kept ≡ []
  row : s.row ≡ y
  working : s.failed ≡ false
  wide : s.width ≡ w
  high : s.height ≡ h
  deep : s.depth ≡ d

-- three lines
record Rowed {W : Type 0} (contents : W → Option (List ℕ)) (d w h y : ℕ) (r g b : List ℕ) (s t : PpmSink W) : Type 0 where
  at : AtRow d w h (row_behind h y) t
  written : Appends (contents s.out) (contents t.out) (row_text d w h y r g b)
  failures : t.failures ≡ s.failures

row_taken : {W : Type 0} (contents : W → Option (List ℕ)) (failed : W → ℕ) (d w h y : ℕ) (r g b : List ℕ) (s one two t : PpmSink W) → AtRow d w h y s →
    Takes contents failed s 0 y r one → Takes contents failed one 1 y g two → Takes contents failed two 2 y b t → Rowed contents d w h y r g b s t
row_taken {W = W} contents failed d w h y r g b s one two t at p q u =
    let one-kept : one.kept ≡ r ∷ [] = ap (λ z. z.kept) p.sink ∙ ap (λ k. kept_behind k r) at.kept in
    let two-kept : two.kept ≡ r ∷ g ∷ [] = ap (λ z. z.kept) q.sink ∙ ap (λ k. kept_behind k g) one-kept in
    let one-row : one.row ≡ y = ap (λ z. z.row) p.sink ∙ (ap (λ k. row_with s.height s.row k) at.kept ∙ at.row) in
    let two-row : two.row ≡ y = ap (λ z. z.row) q.sink ∙ (ap (λ k. row_with one.height one.row k) one-kept ∙ one-row) in
    let two-wide : two.width ≡ w = ap (λ z. z.width) q.sink ∙ (ap (λ z. z.width) p.sink ∙ at.wide) in
    let two-high : two.height ≡ h = ap (λ z. z.height) q.sink ∙ (ap (λ z. z.height) p.sink ∙ at.high) in
    let two-deep : two.depth ≡ d = ap (λ z. z.depth) q.sink ∙ (ap (λ z. z.depth) p.sink ∙ at.deep) in
    let t-row : t.row ≡ row_behind h y = ap (λ z. z.row) u.sink ∙ (ap (λ k. row_with two.height two.row k) two-kept ∙ (ap (λ k. row_behind k two.row) two-high ∙ ap (λ k. row_behind h k) two-row)) in
    let t-working : t.failed ≡ false = ap (λ z. z.failed) u.sink ∙ (ap (λ z. z.failed) q.sink ∙ (ap (λ z. z.failed) p.sink ∙ at.working)) in
    let N : List ℕ → Type 0 = λ z. Appends (contents s.out) (contents one.out) z in
    let none : Appends (contents s.out) (contents one.out) [] = subst N (ap (λ k. text_with s.depth s.width s.height s.row k r) at.kept) p.written in
    let M : List ℕ → Type 0 = λ z. Appends (contents one.out) (contents two.out) z in
    let more : Appends (contents one.out) (contents two.out) [] = subst M (ap (λ k. text_with one.depth one.width one.height one.row k g) one-kept) q.written in
    let text : text_with two.depth two.width two.height two.row two.kept b ≡ row_text d w h y r g b =
    ap (λ k. text_with two.depth two.width two.height two.row k b) two-kept ∙ (ap (λ k. row_text k two.width two.height two.row r g b) two-deep ∙ (ap (λ k. row_text d k two.height two.row r g b) two-wide ∙ (ap (λ k. row_text d w k two.row r g b) two-high ∙ ap (λ k. row_text d w h k r g b) two-row))) in
    let L : List ℕ → Type 0 = λ z. Appends (contents two.out) (contents t.out) z in
    let last : Appends (contents two.out) (contents t.out) (row_text d w h y r g b) = subst L text u.written in
    let t-kept : t.kept ≡ [] = ap (λ z. z.kept) u.sink ∙ ap (λ k. kept_behind k b) two-kept in
    record {
      at = record { kept = t-kept; row = t-row; working = t-working; wide = ap (λ z. z.width) u.sink ∙ two-wide; high = ap (λ z. z.height) u.sink ∙ two-high; deep = ap (λ z. z.depth) u.sink ∙ two-deep };
      written = appends_then (contents s.out) (contents one.out) (contents t.out) [] (row_text d w h y r g b) none (appends_then (contents one.out) (contents two.out) (contents t.out) [] (row_text d w h y r g b) more last);
      failures = ap (λ z. z.failures) u.sink ∙ (ap (λ z. z.failures) q.sink ∙ ap (λ z. z.failures) p.sink);
    }

-- rows
record Ended {W : Type 0} (contents : W → Option (List ℕ)) (d w h : ℕ) (text : List ℕ) (s t : PpmSink W) : Type 0 where
  at : AtRow d w h 0 t
  written : Appends (contents s.out) (contents t.out) text
  failures : t.failures ≡ s.failures

last_row : (h y : ℕ) → y + 1 ≡ h → row_behind h y ≡ 0
last_row h y e =
    let past : nat_lt (y + 1) h ≡ false = le-ltb _ _ (omega (arith, e)) in
    rw past refl

pub next_row : (h y n : ℕ) → y + suc (suc n) ≡ h → row_behind h y ≡ suc y
next_row h y n e =
    let inside : nat_lt (y + 1) h ≡ true = lt-ltb _ _ (omega (arith, e)) in
    rw inside (omega arith)

rows_taken : {W : Type 0} (contents : W → Option (List ℕ)) (failed : W → ℕ) (d w h n y : ℕ) (r g b : List ℕ) (s t : PpmSink W) → y + suc n ≡ h → AtRow d w h y s →
    Grows (Takes contents failed) s (image_lines (bytes_for d w) y (suc n) r g b) t → Ended contents d w h (rows_text d w h y (suc n) r g b) s t
rows_taken {W = W} contents failed d w h zero y r g b s t e at (one, p, (two, q, (three, u, is))) =
    let a = row_taken contents failed d w h y (take (bytes_for d w) r) (take (bytes_for d w) g) (take (bytes_for d w) b) s one two three at p q u in
    let Q : PpmSink W → Type 0 = λ z. Ended contents d w h (rows_text d w h y 1 r g b) s z in
    let P : ℕ → Type 0 = λ z. AtRow d w h z three in
    let L : List ℕ → Type 0 = λ z. Appends (contents s.out) (contents three.out) z in
    let done : Ended contents d w h (rows_text d w h y 1 r g b) s three = record { at = subst P (last_row h y (omega (arith, e))) a.at; written = subst L (sym (append-nil (row_text d w h y (take (bytes_for d w) r) (take (bytes_for d w) g) (take (bytes_for d w) b)))) a.written; failures = a.failures } in
    subst Q (sym is) done
rows_taken {W = W} contents failed d w h (suc n) y r g b s t e at (one, p, (two, q, (three, u, more))) =
    let a = row_taken contents failed d w h y (take (bytes_for d w) r) (take (bytes_for d w) g) (take (bytes_for d w) b) s one two three at p q u in
    let P : ℕ → Type 0 = λ z. AtRow d w h z three in
    let rest = rows_taken contents failed d w h n (suc y) (drop (bytes_for d w) r) (drop (bytes_for d w) g) (drop (bytes_for d w) b) three t (omega (arith, e)) (subst P (next_row h y n e) a.at) more in
    record { at = rest.at; written = appends_then (contents s.out) (contents three.out) (contents t.out) _ _ a.written rest.written; failures = rest.failures ∙ a.failures }

-- the rows of an image are its samples
later_rows : (d w h y n : ℕ) (r g b : List ℕ) → length r ≡ n * bytes_for d w → rows_text d w h (suc y) n r g b ≡ interleaved d r g b
later_rows d w h y zero [] g b long = sym (interleaved_none d g b)
later_rows d w h y zero (x ∷ r) g b long = absurd (omega (arith, long))
later_rows d w h y (suc n) r g b long =
    let less : length (drop (bytes_for d w) r) ≡ n * bytes_for d w = length-drop (bytes_for d w) r ∙ (omega (arith, long)) in
    let later : (suc y == 0) ≡ false = ne_eqb (suc y) 0 (λ e. absurd (omega (arith, e))) in
    rw later (ap (λ z. interleaved d (take (bytes_for d w) r) (take (bytes_for d w) g) (take (bytes_for d w) b) ++ z) (later_rows d w h (suc y) n (drop (bytes_for d w) r) (drop (bytes_for d w) g) (drop (bytes_for d w) b) less) ∙ interleaved_parts d w r g b)

pub image_rows : (d w h n : ℕ) (r g b : List ℕ) → length r ≡ suc n * bytes_for d w → rows_text d w h 0 (suc n) r g b ≡ image_header_text d w h ++ interleaved d r g b
image_rows d w h n r g b long =
    let less : length (drop (bytes_for d w) r) ≡ n * bytes_for d w = length-drop (bytes_for d w) r ∙ (omega (arith, long)) in
    append_assoc (image_header_text d w h) (interleaved d (take (bytes_for d w) r) (take (bytes_for d w) g) (take (bytes_for d w) b)) (rows_text d w h 1 n (drop (bytes_for d w) r) (drop (bytes_for d w) g) (drop (bytes_for d w) b))
    ∙ ap (λ z. image_header_text d w h ++ z) (ap (λ z. interleaved d (take (bytes_for d w) r) (take (bytes_for d w) g) (take (bytes_for d w) b) ++ z) (later_rows d w h 0 n (drop (bytes_for d w) r) (drop (bytes_for d w) g) (drop (bytes_for d w) b) less) ∙ interleaved_parts d w r g b)

image_by : {W : Type 0} (contents : W → Option (List ℕ)) (failed : W → ℕ) (d w h n : ℕ) (r g b : List ℕ) (s t : PpmSink W) → suc n ≡ h → AtRow d w h 0 s → length r ≡ h * bytes_for d w →
    Grows (Takes contents failed) s (image_lines (bytes_for d w) 0 h r g b) t → Ended contents d w h (image_header_text d w h ++ interleaved d r g b) s t
image_by {W = W} contents failed d w h n r g b s t e at long runs =
    let G : ℕ → Type 0 = λ k. Grows (Takes contents failed) s (image_lines (bytes_for d w) 0 k r g b) t in
    let a = rows_taken contents failed d w h n 0 r g b s t (omega (arith, e)) at (subst G (sym e) runs) in
    let same : length r ≡ suc n * bytes_for d w = rw e long in
    let L : List ℕ → Type 0 = λ z. Appends (contents s.out) (contents t.out) z in
    record { at = a.at; written = subst L (image_rows d w h n r g b same) a.written; failures = a.failures }

image_of : {W : Type 0} (contents : W → Option (List ℕ)) (failed : W → ℕ) (d w h k : ℕ) (r g b : List ℕ) (s t : PpmSink W) → k ≡ h → 1 ≤ k → AtRow d w h 0 s → length r ≡ h * bytes_for d w →
    Grows (Takes contents failed) s (image_lines (bytes_for d w) 0 h r g b) t → Ended contents d w h (image_header_text d w h ++ interleaved d r g b) s t
image_of contents failed d w h zero r g b s t e some at long runs = absurd (omega (arith, some))
image_of contents failed d w h (suc n) r g b s t e some at long runs = image_by contents failed d w h n r g b s t e at long runs

-- a whole image: its text is written, and the sink stands where the next one begins
pub image_taken : {W : Type 0} (contents : W → Option (List ℕ)) (failed : W → ℕ) (r g b : List ℕ) (s t : PpmSink W) → 1 ≤ s.height → AtImage s → length r ≡ s.height * bytes_for s.depth s.width →
    Grows (Takes contents failed) s (image_lines (bytes_for s.depth s.width) 0 s.height r g b) t →
    Appends (contents s.out) (contents t.out) (image_text s.depth s.width s.height (r ∷ g ∷ b ∷ [])) × AtImage t × (t.failures ≡ s.failures)
image_taken contents failed r g b s t some at long runs =
    let a = image_of contents failed s.depth s.width s.height s.height r g b s t refl some (record { kept = at.kept; row = at.row; working = at.working; wide = refl; high = refl; deep = refl }) long runs in
    (a.written, record { kept = a.at.kept; row = a.at.row; working = a.at.working }, a.failures)
