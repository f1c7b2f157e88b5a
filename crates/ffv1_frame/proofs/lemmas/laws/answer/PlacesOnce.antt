-- The lines of a picture stand at each place once.
use Rattle.std.proofs.Common.{◌≡◌, ◌≢◌, ◌⊎◌, refl, ℕ, zero, suc, ◌+◌, ◌<◌, ◌≤◌, Bool, true, false, if◌then◌else◌, ◌==◌, List, [], ◌∷◌, ◌++◌, map, inl, inr, ap, sym, ◌∙◌, arith}
use Rattle.std.specs.List.{range_with_len, filter}
use Rattle.std.proofs.lemmas.Bool.{cases_eq, cases_lt, eq-eqb, ne_eqb}
use Rattle.ffv1_wire.specs.Runs as wire
use Rattle.ffv1_record.specs.Configuration.{Configuration, is_rct}
use Rattle.ffv1_slice.specs.Grid.{down, division_of, shared_of}
use Rattle.ffv1_frame.specs.Sides.{Tiles}
use Rattle.ffv1_frame.specs.Picture.{Planes, plane_count, plane_height}
use Rattle.ffv1_frame.specs.SliceList.{Line}
use Rattle.ffv1_frame.specs.Order.{lines_down}
use Rattle.ffv1_frame.specs.Lines.{line_in, lines_of}
use Rattle.ffv1_frame.specs.Headline.{lines_at, StandsAtEachPlace}
use Rattle.ffv1_frame.proofs.lemmas.laws.decoding.Machines.{Each}
use Rattle.ffv1_frame.proofs.lemmas.picture.PlanesMade.{rows_in}
use Rattle.ffv1_frame.proofs.lemmas.picture.Keys.{keys_of, line_of, lines_by_keys, rows_of_plane, keys_are}

chosen_map : {A B : Type 0} (f : A → B) (x : A) (b : Bool) (rs : List B) (ss : List A) → rs ≡ map f ss → (if b then f x ∷ rs else rs) ≡ map f (if b then x ∷ ss else ss)
chosen_map f x true rs ss e = ap (λ z. f x ∷ z) e
chosen_map f x false rs ss e = e

abbrev only : ℕ → List ℕ → List ℕ
only y zs = filter (λ z. z == y) zs

none_in_range : (y from n : ℕ) → (y < from) ⊎ (from + n ≤ y) → only y (range_with_len from n) ≡ []
none_in_range y from zero apart = refl
none_in_range y from (suc n) apart =
    let rest = only y (range_with_len (from + 1) n) in
    elim apart [
      | inl below ↦
          let other : from ≢ y = omega (arith, below) in
          ap (λ b. if b then from ∷ rest else rest) (ne_eqb from y other) ∙ none_in_range y (from + 1) n (inl (omega (arith, below)))
      | inr above ↦
          let other : from ≢ y = omega (arith, above) in
          ap (λ b. if b then from ∷ rest else rest) (ne_eqb from y other) ∙ none_in_range y (from + 1) n (inr (omega (arith, above)))
    ]

one_in_range : (y from n : ℕ) → from ≤ y → y < from + n → only y (range_with_len from n) ≡ y ∷ []
one_in_range y from zero least most = absurd (omega (arith, least, most))
one_in_range y from (suc n) least most =
    let rest = only y (range_with_len (from + 1) n) in
    elim (cases_eq from y) [
      | inl here ↦
          ap (λ b. if b then from ∷ rest else rest) (eq-eqb from y here) ∙ ap (λ z. z ∷ rest) here
          ∙ ap (λ zs. y ∷ zs) (none_in_range y (from + 1) n (inl (omega (arith, here))))
      | inr other ↦
          ap (λ b. if b then from ∷ rest else rest) (ne_eqb from y other) ∙ one_in_range y (from + 1) n (omega (arith, least, other)) (omega (arith, most))
    ]

module _ (c : Configuration) (planes : Planes) where
  -- the lines of plane p in row y, at some places
  at_keys : (p y : ℕ) (ks : List Line) → lines_at p y (map (line_of c planes) ks) ≡ map (λ z. line_in c planes z p) (only y (rows_in p ks))
  at_keys p y [] = refl
  at_keys p y (k ∷ ks) =
      let f : ℕ → wire.Line = λ z. line_in c planes z p in
      let l : wire.Line = line_of c planes k in
      let inner : List wire.Line = filter (λ (m : wire.Line). m.plane == p) (map (line_of c planes) ks) in
      let in_row : List wire.Line → List wire.Line = filter (λ (m : wire.Line). m.row == y) in
      let rest = at_keys p y ks in
      elim (cases_eq k.plane p) [
        | inl same ↦
            let yes = eq-eqb k.plane p same in
            ap (λ b. in_row (if b then l ∷ inner else inner)) yes
            ∙ ap (λ j. in_row (line_in c planes k.y j ∷ inner)) same
            ∙ chosen_map f k.y (k.y == y) (in_row inner) (only y (rows_in p ks)) rest
            ∙ sym (ap (λ b. map f (only y ((if b then k.y ∷ [] else []) ++ rows_in p ks))) yes)
        | inr other ↦
            let no = ne_eqb k.plane p other in
            ap (λ b. in_row (if b then l ∷ inner else inner)) no
            ∙ rest
            ∙ sym (ap (λ b. map f (only y ((if b then k.y ∷ [] else []) ++ rows_in p ks))) no)
      ]

  no_rows : (p : ℕ) (ks : List Line) → plane_count c ≤ p → Each (λ (k : Line). k.plane < plane_count c) ks → rows_in p ks ≡ []
  no_rows p [] past all = refl
  no_rows p (k ∷ ks) past all =
      let first = all.0 in
      let other : k.plane ≢ p = omega (arith, first, past) in
      ap (λ b. (if b then k.y ∷ [] else []) ++ rows_in p ks) (ne_eqb k.plane p other) ∙ no_rows p ks past all.1

  module _ (tiles : (p : ℕ) → Tiles (down (division_of c) p)) (flat : is_rct c.colour ≡ true → (q r : ℕ) → r < c.rows → shared_of (down (division_of c) q) r ≡ 0) (same_lines : is_rct c.colour ≡ true → (p r : ℕ) → lines_down c p r ≡ lines_down c 0 r) where
    by_rows : (p y : ℕ) (rows : List ℕ) → rows_in p (keys_of c) ≡ rows → lines_at p y (lines_of c planes) ≡ map (λ z. line_in c planes z p) (only y rows)
    by_rows p y rows are =
        ap (lines_at p y) (lines_by_keys c planes) ∙ at_keys p y (keys_of c) ∙ ap (λ zs. map (λ z. line_in c planes z p) (only y zs)) are

    rows_are : (p : ℕ) → p < plane_count c → rows_in p (keys_of c) ≡ range_with_len 0 (plane_height c p)
    rows_are p inside = rows_of_plane c p inside tiles flat (λ rct r. same_lines rct p r)

    past_plane : (p y : ℕ) → plane_count c ≤ p → lines_at p y (lines_of c planes) ≡ []
    past_plane p y past = by_rows p y [] (no_rows p (keys_of c) past (keys_are c same_lines))

    -- at each place of the planes stands its line, and none elsewhere
    pub each_place : StandsAtEachPlace c planes
    each_place = record {
      inside = λ p y in_plane in_row.
          by_rows p y (range_with_len 0 (plane_height c p)) (rows_are p in_plane)
          ∙ ap (map (λ z. line_in c planes z p)) (one_in_range y 0 (plane_height c p) (omega arith) (omega (arith, in_row)));
      plane = past_plane;
      row = λ p y past. elim (cases_lt p (plane_count c)) [
        | inl in_plane ↦
            by_rows p y (range_with_len 0 (plane_height c p)) (rows_are p in_plane)
            ∙ ap (map (λ z. line_in c planes z p)) (none_in_range y 0 (plane_height c p) (inr (omega (arith, past))))
        | inr out ↦ past_plane p y out
      ];
    }
