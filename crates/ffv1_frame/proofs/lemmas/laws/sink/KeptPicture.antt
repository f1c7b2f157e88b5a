-- A sink that keeps the lines of a picture has its planes.
use Rattle.std.proofs.Common.{◌≡◌, ◌≢◌, ℕ, zero, suc, ◌+◌, ◌<◌, ◌≤◌, ◌⊎◌, true, if◌then◌else◌, List, [], ◌∷◌, ◌++◌, map, inl, inr, ap, sym, subst, ◌∙◌, arith}
use Rattle.std.specs.List.{range_with_len}
use Rattle.std.proofs.lemmas.Bool.{cases_eq, eq-eqb, ne_eqb}
use Rattle.std.proofs.lemmas.List.{ext_get_or}
use Rattle.ffv1_wire.specs.Runs as wire
use Rattle.ffv1_wire.specs.Runs.{Grows}
use Rattle.ffv1_record.specs.Configuration.{Configuration, is_rct}
use Rattle.ffv1_slice.specs.Grid.{down, division_of, whole_of, shared_of}
use Rattle.ffv1_frame.specs.Sides.{Tiles}
use Rattle.ffv1_frame.specs.Picture.{Planes, AreOf, Fits, plane}
use Rattle.ffv1_frame.specs.SliceList.{Line}
use Rattle.ffv1_frame.specs.Decoding.{row_in}
use Rattle.ffv1_frame.specs.Order.{lines_down}
use Rattle.ffv1_frame.specs.Lines.{lines_of}
use Rattle.ffv1_frame.specs.Kept.{IsLine, Kept, Keeps, with_line}
use Rattle.ffv1_frame.proofs.lemmas.picture.ByNumber.{plane_is}
use Rattle.ffv1_frame.proofs.lemmas.FlatLists.{flat_range_same}
use Rattle.ffv1_frame.proofs.lemmas.picture.PlanesMade.{rows_in}
use Rattle.ffv1_frame.proofs.lemmas.picture.Keys.{keys_of, line_of, lines_by_keys, rows_of_plane}
use Rattle.ffv1_frame.proofs.lemmas.picture.OnePicture.{plane_by_rows}
use Rattle.ffv1_frame.proofs.lemmas.picture.LinesKept.{row_bytes, line_here, line_others, sizes_kept}

-- the sink with other planes
abbrev with_planes : Kept → Planes → Kept
with_planes s planes = record s { planes = planes }

-- what lines leave of a sink: its grid, the sizes of its planes, and its count
pub record Stays (s t : Kept) : Type 0 where
  pub grid : t.grid ≡ s.grid
  pub sizes : AreOf t.grid t.planes
  pub failures : t.failures ≡ s.failures

-- after a line that it keeps
after_line : (s t : Kept) (now : Planes) (l : wire.Line) (ls : List wire.Line) (m : Kept) → Keeps (with_planes s now) l.plane l.row l.samples m → Grows Keeps m ls t →
    Grows Keeps (with_planes s (with_line now l.plane l.row l.samples)) ls t
after_line s t now l ls m keeps more = subst (λ z. Grows Keeps z ls t) keeps.1 more

stays_from : (s t : Kept) (now : Planes) (ls : List wire.Line) → AreOf s.grid now → Grows Keeps (with_planes s now) ls t → Stays s t
stays_from s t now [] are grows = record {
  grid = ap (λ (z : Kept). z.grid) grows;
  sizes = subst (λ (z : Kept). AreOf z.grid z.planes) (sym grows) are;
  failures = ap (λ (z : Kept). z.failures) grows;
}
stays_from s t now (l ∷ ls) are grows =
    stays_from s t (with_line now l.plane l.row l.samples) ls (sizes_kept s.grid now l.plane l.row l.samples are grows.1.0) (after_line s t now l ls grows.0 grows.1 grows.2)

pub lines_stay : (s t : Kept) (ls : List wire.Line) → AreOf s.grid s.planes → Grows Keeps s ls t → Stays s t
lines_stay s t ls are grows = stays_from s t s.planes ls are grows

-- a row of a plane is among those of some lines
abbrev IsAmong : ℕ → ℕ → List Line → Type 0
IsAmong q z [] = ⊥
IsAmong q z (k ∷ ks) = ((q ≡ k.plane) × (z ≡ k.y)) ⊎ IsAmong q z ks

abbrev Has : ℕ → List ℕ → Type 0
Has z [] = ⊥
Has z (y ∷ ys) = (z ≡ y) ⊎ Has z ys

has_range : (z from count : ℕ) → from ≤ z → z < from + count → Has z (range_with_len from count)
has_range z from zero least most = absurd (omega (arith, least, most))
has_range z from (suc count) least most = elim (cases_eq z from) [
  | inl here ↦ inl here
  | inr other ↦ inr (has_range z (from + 1) count (omega (arith, least, other)) (omega (arith, most)))
]

among_rows : (q z : ℕ) (ks : List Line) → Has z (rows_in q ks) → IsAmong q z ks
among_rows q z [] has = has
among_rows q z (k ∷ ks) has = elim (cases_eq k.plane q) [
  | inl same ↦
      let here : Has z ((if true then k.y ∷ [] else []) ++ rows_in q ks) = subst (λ b. Has z ((if b then k.y ∷ [] else []) ++ rows_in q ks)) (eq-eqb k.plane q same) has in
      elim here [
        | inl row ↦ inl (sym same, row)
        | inr later ↦ inr (among_rows q z ks later)
      ]
  | inr other ↦ inr (among_rows q z ks (subst (λ b. Has z ((if b then k.y ∷ [] else []) ++ rows_in q ks)) (ne_eqb k.plane q other) has))
]

abbrev row_of : Configuration → ℕ → ℕ → Planes → List ℕ
row_of c q z now = row_in (row_bytes (division_of c) q) z (plane now q)

module _ (c : Configuration) (planes : Planes) (q z : ℕ) (inside : q < (division_of c).planes) (below : z < whole_of (down (division_of c) q)) where
  -- a row that is as in the picture, or among the lines that come, is as in the picture in the end
  kept_from : (s t : Kept) (now : Planes) (ks : List Line) → s.grid ≡ division_of c → AreOf (division_of c) now → Grows Keeps (with_planes s now) (map (line_of c planes) ks) t →
      (row_of c q z now ≡ row_of c q z planes) ⊎ IsAmong q z ks → row_of c q z t.planes ≡ row_of c q z planes
  kept_from s t now [] own are grows known = elim known [
    | inl same ↦ ap (λ (k : Kept). row_of c q z k.planes) grows ∙ same
    | inr among ↦ absurd among
  ]
  kept_from s t now (k ∷ ks) own are grows known =
      let l = line_of c planes k in
      let line = subst (λ d. IsLine d k.plane k.y l.samples) own grows.1.0 in
      let next = with_line now k.plane k.y l.samples in
      let rest = kept_from s t next ks own (sizes_kept (division_of c) now k.plane k.y l.samples are line)
      (after_line s t now l (map (line_of c planes) ks) grows.0 grows.1 grows.2) in
      let here : (q ≡ k.plane) → (z ≡ k.y) → row_of c q z next ≡ row_of c q z planes = λ same row.
      ap (λ n. row_in (row_bytes (division_of c) n) z (plane next n)) same ∙ ap (λ n. row_in (row_bytes (division_of c) k.plane) n (plane next k.plane)) row
      ∙ line_here (division_of c) now k.plane k.y l.samples are line
      ∙ sym (ap (λ n. row_in (row_bytes (division_of c) n) z (plane planes n)) same ∙ ap (λ n. row_in (row_bytes (division_of c) k.plane) n (plane planes k.plane)) row) in
      let there : ((q ≢ k.plane) ⊎ (z ≢ k.y)) → row_of c q z next ≡ row_of c q z planes ⊎ IsAmong q z ks = λ apart. elim known [
        | inl same ↦ inl (line_others (division_of c) now k.plane k.y l.samples are line q z inside below apart ∙ same)
        | inr among ↦ elim among [
          | inl both ↦ elim apart [ inl other ↦ absurd (other both.0) | inr other ↦ absurd (other both.1) ]
          | inr later ↦ inr later
        ]
      ] in
      elim (cases_eq q k.plane) [
        | inr other ↦ rest (there (inl other))
        | inl same ↦ elim (cases_eq z k.y) [
          | inr other ↦ rest (there (inr other))
          | inl row ↦ rest (inl (here same row))
        ]
      ]

module _ (c : Configuration) (tiles : (p : ℕ) → Tiles (down (division_of c) p)) (flat : is_rct c.colour ≡ true → (q r : ℕ) → r < c.rows → shared_of (down (division_of c) q) r ≡ 0) (same_lines : is_rct c.colour ≡ true → (p r : ℕ) → lines_down c p r ≡ lines_down c 0 r) where
  rows_kept : (planes : Planes) (s t : Kept) → s.grid ≡ division_of c → AreOf s.grid s.planes → Grows Keeps s (lines_of c planes) t → (q z : ℕ) → q < (division_of c).planes →
      z < whole_of (down (division_of c) q) → row_of c q z t.planes ≡ row_of c q z planes
  rows_kept planes s t own are grows q z inside below =
      let rows = rows_of_plane c q inside tiles flat (λ rct r. same_lines rct q r) in
      kept_from c planes q z inside below s t s.planes (keys_of c) own (subst (λ d. AreOf d s.planes) own are) (subst (λ ls. Grows Keeps s ls t) (lines_by_keys c planes) grows)
      (inr (among_rows q z (keys_of c) (subst (Has z) (sym rows) (has_range z 0 (whole_of (down (division_of c) q)) (omega arith) (omega (arith, below))))))

  -- the planes that were kept are those of the picture
  pub planes_kept : (planes : Planes) (s t : Kept) → Fits c planes → s.grid ≡ division_of c → AreOf s.grid s.planes → Grows Keeps s (lines_of c planes) t → t.planes ≡ planes
  planes_kept planes s t fits own are grows =
      let stays = lines_stay s t (lines_of c planes) are grows in
      let kept : AreOf (division_of c) t.planes = subst (λ d. AreOf d t.planes) (stays.grid ∙ own) stays.sizes in
      ext_get_or {A = List ℕ} [] t.planes planes (kept.count ∙ sym fits.are.count) (λ p h.
      let inside : p < (division_of c).planes = subst (λ n. p < n) kept.count h in
      let width = row_bytes (division_of c) p in
      let height = whole_of (down (division_of c) p) in
      sym (plane_is t.planes p) ∙ sym (plane_by_rows c t.planes kept p inside)
      ∙ flat_range_same (λ y. row_in width y (plane t.planes p)) (λ y. row_in width y (plane planes p)) 0 height
      (λ y least most. rows_kept planes s t own are grows p y inside (omega (arith, most)))
      ∙ plane_by_rows c planes fits.are p inside ∙ plane_is planes p)
