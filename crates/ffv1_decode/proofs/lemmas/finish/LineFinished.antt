-- What is made of a line is what its event makes of it.
use Rattle.std.proofs.Common.{◌≡◌, refl, ℕ, ◌+◌, ◌*◌, ◌^◌, ◌<◌, ◌≤◌, Bool, true, false, if◌then◌else◌, List, [], ◌++◌, map, length, get_or, slice_index, take, ap, sym, subst, ◌∙◌, arith}
use Rattle.std.specs.List.{range_with_len}
use Rattle.std.proofs.lemmas.List.FromFn.{get_or-map-range_with_len, length-map-range_with_len}
use Rattle.std.proofs.lemmas.List.{length-take-le}
use Rattle.std.proofs.Math.Seq.{take-length}
use Rattle.std.proofs.Math.Nat.{mul-le-mul_left}
use Rattle.ffv1_samples.specs.Samples.{AreBelow, bytes_of, sample_bytes, samples_of}
use Rattle.ffv1_samples.proofs.Depths.{length_bytes, length_samples}
use Rattle.ffv1_record.specs.Configuration.{Configuration, is_rct}
use Rattle.ffv1_record.specs.declared.config.Colour.{Colour}
use Rattle.ffv1_record.specs.declared.config.Colour.TheVariants as colours
use Rattle.ffv1_slice.specs.Grid.{planes_in}
use Rattle.ffv1_frame.specs.Picture.{plane_count, plane_width, line_bytes, width_bytes, green_of, blue_of}
use Rattle.ffv1_frame.specs.SliceList.{bits_of}
use Rattle.ffv1_frame.specs.Decoding.{State, FinishesBy, IsColourless, HasPlace, coded_line}
use Rattle.ffv1_frame.specs.Windows.{window}
use Rattle.ffv1_decode.specs.Internal.Finished.{colouring_of, AreMade, HasBoth, IsFirstWithout, AreTogether, IsTogether, StandRead, Finished, line_at}
use Rattle.ffv1_frame.proofs.lemmas.WrittenParts.{window_long}
use Rattle.ffv1_frame.proofs.lemmas.Sizes.{part_apart}
use Rattle.ffv1_decode.proofs.lemmas.finish.FinishedLines.{window_front, colours_at, has_at}
use Rattle.ffv1_frame.proofs.lemmas.picture.Words.{get_or_bytes, window_bytes, green_few, blue_few}
use Rattle.ffv1_frame.proofs.lemmas.picture.PlaneWidths.{wide_none}

pub planes_least : (chroma extra : Bool) → chroma ≡ true → 3 ≤ planes_in chroma extra
planes_least chroma true e = omega arith
planes_least true false e = omega arith
planes_least false false e = absurd (let no : false ≡ true = e in cc)

pub planes_four : (chroma extra : Bool) → extra ≡ true → planes_in chroma extra ≡ 4
planes_four chroma true e = refl
planes_four chroma false e = absurd (let no : false ≡ true = e in cc)

pub planes_three : (chroma extra : Bool) → chroma ≡ true → extra ≡ false → planes_in chroma extra ≡ 3
planes_three true false a b = refl
planes_three chroma true a b = absurd (let no : true ≡ false = b in cc)
planes_three false false a b = absurd (let no : false ≡ true = a in cc)

pub rct_is : (colour : Colour) → is_rct colour ≡ true → colour ≡ colours.Rct
rct_is colours.YCbCr e = absurd (let no : false ≡ true = e in cc)
rct_is colours.Rct e = refl

pub together_one : (c : Configuration) (first count : ℕ) → is_rct c.colour ≡ false → IsTogether c first count → (count ≡ 1) × (first < plane_count c)
together_one c first count e is = subst (λ b. AreTogether b c first count) e is

pub together_all : (c : Configuration) (first count : ℕ) → is_rct c.colour ≡ true → IsTogether c first count → (first ≡ 0) × (count ≡ plane_count c)
together_all c first count e is = subst (λ b. AreTogether b c first count) e is

module _ (c : Configuration) (first count y : ℕ) (read : List ℕ) (s : State) (stand : StandRead c first count y read s) where
  abbrev lines : List (List ℕ)
  lines = map (coded_line c s y) (range_with_len first count)

  line_is : (i : ℕ) → i < count → get_or lines i [] ≡ window (i * c.width) (plane_width c (first + i)) read
  line_is i h = get_or-map-range_with_len (coded_line c s y) first count i (first + i) [] h refl ∙ stand.lines i h

  -- samples as they are
  module _ (no : is_rct c.colour ≡ false) (one : count ≡ 1) (wide : ℕ) (wide_is : wide ≡ plane_width c first) (fits : wide ≤ length read) where
    first_is : coded_line c s y first ≡ take wide read
    first_is =
        let few : 0 < count = omega (arith, one) in
        let at : first + 0 ≡ first = omega arith in
        let none : 0 * c.width ≡ 0 = omega arith in
        ap (coded_line c s y) (sym at) ∙ stand.lines 0 few ∙ ap (λ n. window n (plane_width c (first + 0)) read) none ∙ ap (λ n. take (plane_width c n) read) at ∙ ap (λ n. take n read) (sym wide_is)

    pub all_small : (x : ℕ) → x < length (take wide read) → slice_index (take wide read) x < 2 ^ c.depth
    all_small x h =
        let few : 0 < count = omega (arith, one) in
        let at : first + 0 ≡ first = omega arith in
        let bits : bits_of c ≡ c.depth = ap (λ (b : Bool). if b then c.depth + 1 else c.depth) no in
        let small : slice_index (coded_line c s y first) x < 2 ^ c.depth = subst (λ n. slice_index (coded_line c s y first) x < 2 ^ n) bits (subst (λ n. slice_index (coded_line c s y n) x < 2 ^ bits_of c) at (stand.small 0 x few)) in
        subst (λ z. slice_index z x < 2 ^ c.depth) first_is small

    pub samples_finished : (copied rest : List ℕ) → copied ≡ bytes_of c.depth (take wide read) → Finished c first count y (copied ++ rest) s
    samples_finished copied rest is = record {
      lines = map (bytes_of c.depth) lines;
      finishes = record { made = lines; by = subst (λ b. FinishesBy b c lines lines) (sym no) refl; bytes = refl };
      stands = λ i h.
          let zero_is : i ≡ 0 = omega (arith, h, one) in
          let none : i * width_bytes c ≡ 0 = ap (λ n. n * width_bytes c) zero_is ∙ (let m : 0 * width_bytes c ≡ 0 = omega arith in m) in
          let at : first + i ≡ first = omega (arith, zero_is) in
          let w : plane_width c (first + i) ≡ wide = ap (plane_width c) at ∙ sym wide_is in
          let n : ℕ = sample_bytes c.depth * wide in
          let taken : length (take wide read) ≡ wide = length-take-le wide read fits in
          let long : length copied ≡ n = ap (λ (z : List ℕ). length z) is ∙ length_bytes c.depth (take wide read) ∙ ap (λ k. sample_bytes c.depth * k) taken in
          let whole : window 0 n (copied ++ rest) ≡ copied = window_front 0 n copied rest (omega (arith, long)) ∙ ap (λ k. take k copied) (sym long) ∙ take-length copied in
          let line : get_or lines i [] ≡ take wide read = get_or-map-range_with_len (coded_line c s y) first count i (first + i) [] h refl ∙ ap (coded_line c s y) at ∙ first_is in
          get_or_bytes c.depth i lines ∙ ap (bytes_of c.depth) line ∙ sym is ∙ sym whole
          ∙ ap (λ k. window 0 (sample_bytes c.depth * k) (copied ++ rest)) (sym w) ∙ ap (λ k. window k (line_bytes c (first + i)) (copied ++ rest)) (sym none);
    }

  -- colours
  module _ (yes : is_rct c.colour ≡ true) (narrow : c.log2_h ≡ 0) (at_first : first ≡ 0) (all : count ≡ plane_count c) (chroma : c.chroma_planes ≡ true) where
    three : 3 ≤ count
    three = let h = planes_least c.chroma_planes c.extra_plane chroma in omega (arith, h, all)

    read_is : (i : ℕ) → i < count → get_or lines i [] ≡ line_at c.width i read
    read_is i h = line_is i h ∙ ap (λ n. window (i * c.width) n read) (wide_none c (first + i) narrow)

    fourth_in : c.extra_plane ≡ true → 3 < count
    fourth_in e = let h = planes_four c.chroma_planes c.extra_plane e in omega (arith, h, all)

    has_place : (x : ℕ) → HasBoth (colouring_of c) read x → HasPlace c lines x
    has_place x both = (
      has_at c.depth (line_at c.width 0 read) (line_at c.width 1 read) (line_at c.width 2 read) (get_or lines 0 []) (get_or lines 1 []) (get_or lines 2 []) x
          (sym (read_is 0 (omega (arith, three)))) (sym (read_is 1 (omega (arith, three)))) (sym (read_is 2 (omega (arith, three)))) both.0,
      λ e. subst (λ z. slice_index z x < 2 ^ c.depth) (sym (read_is 3 (fourth_in e))) (both.1 e),
    )

    has_both : (x : ℕ) → HasPlace c lines x → HasBoth (colouring_of c) read x
    has_both x both = (
      has_at c.depth (get_or lines 0 []) (get_or lines 1 []) (get_or lines 2 []) (line_at c.width 0 read) (line_at c.width 1 read) (line_at c.width 2 read) x
          (read_is 0 (omega (arith, three))) (read_is 1 (omega (arith, three))) (read_is 2 (omega (arith, three))) both.0,
      λ e. subst (λ z. slice_index z x < 2 ^ c.depth) (read_is 3 (fourth_in e)) (both.1 e),
    )

    pub colours_missing : (x : ℕ) → IsFirstWithout (colouring_of c) read x → IsColourless c lines x
    colours_missing x without = record {
      rct = yes;
      inside = without.inside;
      before = λ z h. has_place z (without.before z h);
      none = λ has. without.none (has_both x has);
    }

    -- the lines that were made, of the bytes of all
    module _ (out : List ℕ) (long : length out ≡ count * width_bytes c) (bytes : AreBelow 256 out) where
      whole : length out ≡ sample_bytes c.depth * (count * c.width)
      whole = long ∙ (let turned : count * width_bytes c ≡ sample_bytes c.depth * (count * c.width) = omega arith in turned)

      samples_long : length (samples_of c.depth out) ≡ count * c.width
      samples_long = length_samples c.depth (count * c.width) out whole

      out_is : (i : ℕ) → i < count → get_or (map (λ i. line_at c.width i (samples_of c.depth out)) (range_with_len 0 count)) i [] ≡ line_at c.width i (samples_of c.depth out)
      out_is i h = get_or-map-range_with_len (λ i. line_at c.width i (samples_of c.depth out)) 0 count i i [] h (let same : 0 + i ≡ i = omega arith in same)

      outs_stand : (i : ℕ) → i < count → get_or (map (bytes_of c.depth) (map (λ i. line_at c.width i (samples_of c.depth out)) (range_with_len 0 count))) i [] ≡ window (i * width_bytes c) (line_bytes c (first + i)) out
      outs_stand i h =
          let fits = part_apart i count c.width h in
          let room = mul-le-mul_left {m = i * c.width + c.width} {n = count * c.width} (sample_bytes c.depth) fits in
          let turned : sample_bytes c.depth * (i * c.width) ≡ i * width_bytes c = omega arith in
          get_or_bytes c.depth i (map (λ i. line_at c.width i (samples_of c.depth out)) (range_with_len 0 count))
          ∙ ap (bytes_of c.depth) (out_is i h)
          ∙ window_bytes c.depth (i * c.width) c.width out bytes (omega (arith, whole, room))
          ∙ ap (λ n. window n (width_bytes c) out) turned
          ∙ ap (λ n. window (i * width_bytes c) (sample_bytes c.depth * n) out) (sym (wide_none c (first + i) narrow))

      made_by : AreMade (colouring_of c) read (samples_of c.depth out) → FinishesBy true c lines (map (λ i. line_at c.width i (samples_of c.depth out)) (range_with_len 0 count))
      made_by made =
          let lines_long : length lines ≡ count = length-map-range_with_len (coded_line c s y) first count in
          let outs_long : length (map (λ i. line_at c.width i (samples_of c.depth out)) (range_with_len 0 count)) ≡ count = length-map-range_with_len (λ i. line_at c.width i (samples_of c.depth out)) 0 count in
          let many = three in
          let green : green_of c < count = omega (arith, many, green_few c) in
          let blue : blue_of c < count = omega (arith, many, blue_few c) in (
            outs_long ∙ sym lines_long,
            λ i h.
                let few : i < count = omega (arith, h, lines_long) in
                let fits = part_apart i count c.width few in
                ap (λ (z : List ℕ). length z) (out_is i few) ∙ window_long (i * c.width) c.width (samples_of c.depth out) (omega (arith, fits, samples_long)),
            colours_at c.depth c.width (line_at c.width 0 read) (line_at c.width 1 read) (line_at c.width 2 read)
                (line_at c.width 0 (samples_of c.depth out)) (line_at c.width (green_of c) (samples_of c.depth out)) (line_at c.width (blue_of c) (samples_of c.depth out))
                (get_or lines 0 []) (get_or lines 1 []) (get_or lines 2 []) _ _ _
                (sym (read_is 0 (omega (arith, many)))) (sym (read_is 1 (omega (arith, many)))) (sym (read_is 2 (omega (arith, many))))
                (sym (out_is 0 (omega (arith, many)))) (sym (out_is (green_of c) green)) (sym (out_is (blue_of c) blue)) made.colours,
            λ e.
                let alpha = made.transparency e in
                let few = fourth_in e in
                (out_is 3 few ∙ alpha.0 ∙ sym (read_is 3 few), λ x h. subst (λ z. slice_index z x < 2 ^ c.depth) (sym (read_is 3 few)) (alpha.1 x h)),
          )

      pub colours_finished : AreMade (colouring_of c) read (samples_of c.depth out) → Finished c first count y out s
      colours_finished made = record {
        lines = map (bytes_of c.depth) (map (λ i. line_at c.width i (samples_of c.depth out)) (range_with_len 0 count));
        finishes = record {
          made = map (λ i. line_at c.width i (samples_of c.depth out)) (range_with_len 0 count);
          by = subst (λ b. FinishesBy b c lines (map (λ i. line_at c.width i (samples_of c.depth out)) (range_with_len 0 count))) (sym yes) (made_by made);
          bytes = refl;
        };
        stands = outs_stand;
      }
