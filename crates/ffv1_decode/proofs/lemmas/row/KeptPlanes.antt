-- What is kept of Cb and Cr, while the planes of a row are decoded.
use Rattle.std.proofs.Common.{◌≡◌, ◌≢◌, refl, ℕ, zero, suc, ◌+◌, ◌-◌, ◌*◌, ◌<◌, ◌≤◌, ◌⊎◌, inl, inr, Bool, true, false, List, [], ◌∷◌, ◌++◌, length, get_or, take, drop, ap, sym, subst, ◌∙◌, arith}
use Rattle.std.proofs.lemmas.Bool.{cases_lt, cases_eq}
use Rattle.std.proofs.Math.Seq.{drop-append-add}
use Rattle.ffv1_wire.specs.Runs.{LineStep}
use Rattle.ffv1_record.specs.Configuration.{Configuration, is_rct}
use Rattle.ffv1_record.specs.Accepted.{Accepted}
use Rattle.ffv1_decode.specs.declared.column.Column.{Column}
use Rattle.ffv1_frame.specs.Picture.{plane_count, plane_width}
use Rattle.ffv1_record.specs.Held.{planes_of}
use Rattle.ffv1_record.specs.declared.config.Colour.{Colour}
use Rattle.ffv1_record.specs.declared.config.Colour.TheVariants as colours
use Rattle.ffv1_slice.specs.Grid.{division_of, down, planes_in}
use Rattle.ffv1_frame.specs.Order.{Event, series_events, line_events, lines_down}
use Rattle.ffv1_frame.specs.Decoding.{State, left_of}
use Rattle.ffv1_decode.specs.Internal.Places.{AreParts}
use Rattle.ffv1_decode.specs.Internal.Tied.{TiedKept, line_length}
use Rattle.ffv1_decode.specs.Internal.Progress.{PlanesKept, SeriesKept, series_at}
use Rattle.ffv1_decode.specs.Internal.Shared.{AreAbove, AreLast, IsChroma, IsLast, KeepsChroma, ShareNoLine, kept_in, kept_line}
use Rattle.ffv1_frame.specs.Windows.{window}
use Rattle.ffv1_frame.proofs.lemmas.laws.decoding.Machines.{Each, each_range}
use Rattle.ffv1_frame.proofs.lemmas.laws.decoding.ColumnSteps.{IsOfRow}
use Rattle.ffv1_frame.proofs.lemmas.laws.decoding.LinesMade.{group_of_row}
use Rattle.ffv1_frame.proofs.lemmas.WrittenParts.{put, put_window, put_other}
use Rattle.ffv1_decode.proofs.lemmas.plane_lines.PlanesReads.{kept_stays}
use Rattle.ffv1_decode.proofs.lemmas.row.KeptSeries.{last_later}

-- there are two lines if there is something
pub kept_both : (c : Configuration) (n : ℕ) → KeepsChroma c n → 0 < n → n ≡ 2 * plane_width c 1
kept_both c n keeps some = elim keeps [
  | inl none ↦ absurd (omega (arith, some, none.0))
  | inr all ↦ all.0
]

-- the line of a plane lies in both, and that of the other one beside it
in_both : (q w n : ℕ) → IsChroma q → n ≡ 2 * w → (q - 1) * w + w ≤ n
in_both zero w n is both = absurd (omega (arith, is.0))
in_both (suc zero) w n is both = omega (arith, both)
in_both (suc (suc zero)) w n is both = omega (arith, both)
in_both (suc (suc (suc q))) w n is both = absurd (omega (arith, is.1))

beside : (p q w : ℕ) → IsChroma p → IsChroma q → q ≢ p → ((q - 1) * w + w ≤ (p - 1) * w) ⊎ ((p - 1) * w + w ≤ (q - 1) * w)
beside zero q w is_p is_q apart = absurd (omega (arith, is_p.0))
beside (suc (suc (suc p))) q w is_p is_q apart = absurd (omega (arith, is_p.1))
beside p zero w is_p is_q apart = absurd (omega (arith, is_q.0))
beside p (suc (suc (suc q))) w is_p is_q apart = absurd (omega (arith, is_q.1))
beside (suc zero) (suc zero) w is_p is_q apart = absurd (apart refl)
beside (suc zero) (suc (suc zero)) w is_p is_q apart = inr (omega arith)
beside (suc (suc zero)) (suc zero) w is_p is_q apart = inl (omega arith)
beside (suc (suc zero)) (suc (suc zero)) w is_p is_q apart = absurd (apart refl)

chroma_or : (p : ℕ) → IsChroma p ⊎ (IsChroma p → ⊥)
chroma_or zero = inr (λ is. absurd (omega (arith, is.0)))
chroma_or (suc zero) = inl (omega arith, omega arith)
chroma_or (suc (suc zero)) = inl (omega arith, omega arith)
chroma_or (suc (suc (suc p))) = inr (λ is. absurd (omega (arith, is.1)))

-- the line of one plane is written
module _ (c : Configuration) (p from upto : ℕ) (kept part : List ℕ) (keeps : KeepsChroma c (length kept)) (rises : from ≤ upto) (inside : upto ≤ length kept) (long : length part ≡ upto - from)
    (range : 0 < length kept → IsChroma p → (from ≡ (p - 1) * plane_width c 1) × (upto - from ≡ plane_width c 1)) (other : (IsChroma p → ⊥) → upto ≡ 0) where
  abbrev new : List ℕ
  new = put from (upto - from) kept part

  fits : from + (upto - from) ≤ length kept
  fits = omega (arith, rises, inside)

  pub line_new : 0 < length kept → IsChroma p → kept_line c p new ≡ part
  line_new some is =
      let at = range some is in
      let w = plane_width c 1 in
      let here : (p - 1) * w ≡ from = sym at.0 in
      ap (λ a. take w (drop a new)) here ∙ ap (λ n. take n (drop from new)) (sym at.1) ∙ put_window kept part from (upto - from) fits long

  pub line_old : 0 < length kept → (q : ℕ) → IsChroma q → q ≢ p → kept_line c q new ≡ kept_line c q kept
  line_old some q is apart =
      let w = plane_width c 1 in
      let both = kept_both c (length kept) keeps some in
      let out : ((q - 1) * w + w ≤ from) ⊎ (from + (upto - from) ≤ (q - 1) * w) = elim (chroma_or p) [
        | inl chroma ↦
            let at = range some chroma in
            elim (beside p q w chroma is apart) [
              | inl before ↦ inl (omega (arith, before, at.0))
              | inr behind ↦ inr (omega (arith, behind, at.0, at.1))
            ]
        | inr none ↦ inr (omega (arith, other none, rises))
      ] in
      put_other kept part from (upto - from) fits long ((q - 1) * w) w (in_both q w (length kept) is both) out

-- the lines of a series are of its row
series_of_row : (c : Configuration) (r p : ℕ) → is_rct c.colour ≡ false → p < plane_count c → Each (IsOfRow c r) (series_events c r (series_at c r p 1))
series_of_row c r p colours inside = each_range (IsOfRow c r) (line_events c r (p ∷ [])) 0 (lines_down c p r) (λ y least most.
    group_of_row c r (record { planes = p ∷ []; y = y }) (record { inside = (inside, tt); down = (omega (arith, most), tt); rct = λ e. absurd (let no : true ≡ false = sym e ∙ colours in cc); one = λ e. (p, refl) }))

module _ {S : Type 0} (takes refuses : LineStep S) (a : Accepted) (coded : ℕ → List ℕ) (initial : S) (r : ℕ) (payload : List ℕ) (s : State) (inside_r : r < a.configuration.rows)
    (are : (p : ℕ) → AreParts (down (division_of a.configuration) p)) where
  -- one series more
  module _ (p : ℕ) (events : List Event) (columns : List Column) (states kept : List ℕ) (now : S) (before : PlanesKept takes refuses a coded initial r p payload events columns states kept now s)
      (colours : is_rct a.configuration.colour ≡ false) (inside : p < plane_count a.configuration) where
    pub last_more : (after : List Column) (more new part : List ℕ) (later : S) → length new ≡ length kept →
        (made : SeriesKept takes refuses a coded initial r payload p 1 after more part later before.decoded.state) →
        (0 < length kept → IsChroma p → (kept_line a.configuration p new ≡ part) × (length part ≡ plane_width a.configuration 1)) → 0 < plane_width a.configuration 1 →
        (0 < length kept → (q : ℕ) → IsChroma q → q ≢ p → kept_line a.configuration q new ≡ kept_line a.configuration q kept) → AreLast a.configuration r (p + 1) new made.decoded.state
    last_more after more new part later long made here wide others = λ some q is upto.
        let some : 0 < length kept = omega (arith, some, long) in
        elim (cases_eq q p) [
          | inl same ↦
              let is_p : IsChroma p = subst IsChroma same is in
              let mine = here some is_p in
              let last = made.last (omega (arith, mine.1, wide)) in
              subst (λ z. IsLast a.configuration r z (kept_line a.configuration z new) made.decoded.state) (sym same)
              (subst (λ z. IsLast a.configuration r p z made.decoded.state) (sym mine.0) last)
          | inr apart ↦
              let tied = before.decoded.columns_are in
              let was = before.last some q is (omega (arith, upto, apart)) in
              let high = (are q).some r inside_r in
              subst (λ z. IsLast a.configuration r q z made.decoded.state) (sym (others some q is apart))
              (last_later a coded r q (kept_line a.configuration q kept) (series_events a.configuration r (series_at a.configuration r p 1)) before.decoded.state made.decoded.state
              (series_of_row a.configuration r p colours inside) made.decoded.runs tied.known (λ k less. (tied.each k less).cells) high was)
        ]

-- the lines of planes that are coded together
planes_apart : (colour : Colour) (extra : Bool) → is_rct colour ≡ false → planes_of colour extra ≡ 1
planes_apart colours.YCbCr extra e = refl
planes_apart colours.Rct extra e = absurd (let no : true ≡ false = e in cc)

planes_together : (colour : Colour) (chroma extra : Bool) → is_rct colour ≡ true → chroma ≡ true → planes_of colour extra ≡ planes_in chroma extra
planes_together colours.YCbCr chroma extra e is = absurd (let no : false ≡ true = e in cc)
planes_together colours.Rct chroma true e is = refl
planes_together colours.Rct true false e is = refl
planes_together colours.Rct false false e is = absurd (let no : false ≡ true = is in cc)

pub length_apart : (c : Configuration) → is_rct c.colour ≡ false → line_length c ≡ c.width
length_apart c e = let one = planes_apart c.colour c.extra_plane e in ap (λ n. n * c.width) one ∙ (let same : 1 * c.width ≡ c.width = omega arith in same)

pub length_together : (c : Configuration) → is_rct c.colour ≡ true → c.chroma_planes ≡ true → line_length c ≡ plane_count c * c.width
length_together c e chroma = ap (λ n. n * c.width) (planes_together c.colour c.chroma_planes c.extra_plane e chroma)

-- what is kept comes after them
module _ {A : Type 0} (samples : List A → List ℕ) (lengths : (xs : List A) → length (samples xs) ≡ length xs) (drops : (n : ℕ) (xs : List A) → samples (drop n xs) ≡ drop n (samples xs))
    (joins : (xs ys : List A) → samples (xs ++ ys) ≡ samples xs ++ samples ys) where
  pub kept_behind : (c : Configuration) (xs ys : List A) → length xs ≡ 3 * line_length c → kept_in c (samples (xs ++ ys)) ≡ samples ys
  kept_behind c xs ys long =
      let size : 3 * line_length c ≡ length (samples xs) + 0 = omega (arith, lengths xs, long) in
      ap (λ n. drop n (samples (xs ++ ys))) size ∙ ap (drop (length (samples xs) + 0)) (joins xs ys) ∙ drop-append-add (samples xs) (samples ys) 0

  pub kept_before : (c : Configuration) (n : ℕ) (xs ys : List A) → ys ≡ drop n xs → n ≡ 3 * line_length c → kept_in c (samples xs) ≡ samples ys
  kept_before c n xs ys is size = ap (λ m. drop m (samples xs)) (sym size) ∙ sym (drops n xs) ∙ ap samples (sym is)

by_plane : (c : Configuration) (p : ℕ) → p < 4 → (IsChroma p → ⊥) → ShareNoLine c 0 → ShareNoLine c 3 → ShareNoLine c p
by_plane c zero few none luma extra = luma
by_plane c (suc zero) few none luma extra = absurd (none (omega arith, omega arith))
by_plane c (suc (suc zero)) few none luma extra = absurd (none (omega arith, omega arith))
by_plane c (suc (suc (suc zero))) few none luma extra = extra
by_plane c (suc (suc (suc (suc p)))) few none luma extra = absurd (omega (arith, few))

-- no two rows share a line of a plane of which nothing is kept
pub none_kept : (c : Configuration) (n p : ℕ) → KeepsChroma c n → p < 4 → (IsChroma p → ⊥) ⊎ (n ≡ 0) → 0 < plane_width c 1 → ShareNoLine c p
none_kept c n p keeps few none wide = elim keeps [
  | inl nothing ↦ nothing.1 p
  | inr all ↦ elim none [
    | inl other ↦ by_plane c p few other all.3 all.4
    | inr zero_is ↦ absurd (omega (arith, zero_is, all.0, wide))
  ]
]

pub line_of_rct : (c : Configuration) (n : ℕ) → KeepsChroma c n → is_rct c.colour ≡ true → (n ≡ 0) × ((p : ℕ) → ShareNoLine c p)
line_of_rct c n keeps e = elim keeps [
  | inl nothing ↦ nothing
  | inr all ↦ absurd (let no : true ≡ false = sym e ∙ all.1 in cc)
]

-- what is kept of a plane is what the slices above have
pub tied_part : (c : Configuration) (r p y : ℕ) (kept first part : List ℕ) (s t : State) → KeepsChroma c (length kept) → p < 4 → r < c.rows → 0 < plane_width c 1 → length first ≡ length kept →
    (0 < length kept → IsChroma p → part ≡ kept_line c p first) → AreAbove c r first s → t.done ≡ s.done → TiedKept c r p y part t
tied_part c r p y kept first part s t keeps few inside wide long is above done = λ shared k x here small.
    let absent = λ (none : (IsChroma p → ⊥) ⊎ (length kept ≡ 0)). none_kept c (length kept) p keeps few none wide r inside in
    elim (chroma_or p) [
      | inl chroma ↦ elim (cases_lt 0 (length kept)) [
        | inl some ↦
            let same = is some chroma in
            ap (λ xs. get_or xs (left_of c p k + x) 0) same ∙ kept_stays c r p y (kept_line c p first) s t done (above (omega (arith, some, long)) p y chroma) shared k x here small
        | inr none ↦ let apart = absent (inr (omega (arith, none))) in absurd (omega (arith, shared, apart))
      ]
      | inr other ↦ let apart = absent (inl other) in absurd (omega (arith, shared, apart))
    ]

-- a window of both is the line of its plane
pub part_is : (c : Configuration) (p from n : ℕ) (kept : List ℕ) → from ≡ (p - 1) * plane_width c 1 → n ≡ plane_width c 1 → window from n kept ≡ kept_line c p kept
part_is c p from n kept at long = ap (λ a. window a n kept) at ∙ ap (λ m. window ((p - 1) * plane_width c 1) m kept) long

pub planes_few : (chroma extra : Bool) → planes_in chroma extra ≤ 4
planes_few chroma true = omega arith
planes_few true false = omega arith
planes_few false false = omega arith

-- as many lines as there are planes
pub together_long : (count planes w width line n : ℕ) → count ≡ planes → w ≡ width → line ≡ planes * width → n ≡ 3 * (count * w) → n ≡ 3 * line
together_long count planes w width line n many wide is long = long ∙ ap (λ k. 3 * k) (ap (λ k. k * w) many ∙ ap (λ k. planes * k) wide ∙ sym is)
