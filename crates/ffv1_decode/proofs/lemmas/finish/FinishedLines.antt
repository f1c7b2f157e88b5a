-- Lines that stand one after the other, and what is made of them.
use Rattle.std.proofs.Common.{◌≡◌, refl, ℕ, zero, suc, ◌+◌, ◌*◌, ◌^◌, ◌<◌, ◌≤◌, true, false, List}
use Rattle.std.specs.Prelude.{Bool, if◌then◌else◌}
use Rattle.std.proofs.Common.{◌++◌, length, slice_index, take, drop, ap, sym, subst, ◌∙◌, arith}
use Rattle.std.proofs.Common.{length-drop}
use Rattle.std.proofs.Math.Seq.{drop-append-add, take-append_seam, take-length}
use Rattle.std.proofs.lemmas.List.{take-append-drop, take-append-le, drop-append-le}
use Rattle.ffv1_rct.specs.Lines.{AreOnlyColoursIn, HasColourAtIn}
use Rattle.ffv1_frame.specs.Windows.{window}
use Rattle.ffv1_decode.specs.Internal.Finished.{line_at, Colouring, AreMade, AreInOrder, HasBoth}
use Rattle.ffv1_decode.specs.Internal.Finished.{IsFirstWithout}

pub window_front : (at n : ℕ) (xs ys : List ℕ) → at + n ≤ length xs → window at n (xs ++ ys) ≡
    window at n xs
window_front at n xs ys fits =
    let d = length-drop at xs in
    ap (take n) (drop-append-le at xs ys (omega (arith, fits))) ∙ take-append-le n (drop at xs) ys
    (omega (arith, d, fits))

pub window_back : (at n : ℕ) (xs ys : List ℕ) → at ≡ length xs → n ≡ length ys → window at n
    (xs ++ ys) ≡ ys
window_back at n xs ys at_is n_is =
    let begins : at ≡ length xs + 0 = omega (arith, at_is) in
    ap (λ k. take n (drop k (xs ++ ys))) begins ∙ ap (take n) (drop-append-add xs ys 0) ∙
    ap (λ k. take k ys) n_is ∙ take-length ys

module _ (w : ℕ) (a b c : List ℕ) (first : length a ≡ w) (second : length b ≡ w)
    (third : length c ≡ w) where
  pub line_0 : line_at w 0 (a ++ (b ++ c)) ≡ a
  line_0 =
      let at : 0 * w ≡ 0 = omega arith in
      ap (λ k. window k w (a ++ (b ++ c))) at ∙ ap (λ k. take k (a ++ (b ++ c))) (sym first) ∙
      take-append_seam a (b ++ c)

  pub line_1 : line_at w 1 (a ++ (b ++ c)) ≡ b
  line_1 =
      let begins : 1 * w ≡ length a + 0 = omega (arith, first) in
      ap (λ k. take w (drop k (a ++ (b ++ c)))) begins ∙ ap (take w) (drop-append-add a (b ++ c) 0)
      ∙ ap (λ k. take k (b ++ c)) (sym second) ∙ take-append_seam b c

  pub line_2 : line_at w 2 (a ++ (b ++ c)) ≡ c
  line_2 =
      let begins : 2 * w ≡ length a + (length b + 0) = omega (arith, first, second) in
      ap (λ k. take w (drop k (a ++ (b ++ c)))) begins ∙ ap (take w)
      (drop-append-add a (b ++ c) (length b + 0) ∙ drop-append-add b c 0) ∙ ap (λ k. take k c)
      (sym third) ∙ take-length c

module _ (depth : ℕ) where
  pub colours_at : (w : ℕ) (y cb cr r g b : List ℕ) (y2 cb2 cr2 r2 g2 b2 : List ℕ) → y ≡ y2 → cb ≡
      cb2 → cr ≡ cr2 → r ≡ r2 → g ≡ g2 → b ≡ b2 → AreOnlyColoursIn depth w y cb cr r g b →
      AreOnlyColoursIn depth w y2 cb2 cr2 r2 g2 b2
  colours_at w y cb cr r g b y2 cb2 cr2 r2 g2 b2 ey ecb ecr er eg eb h =
      let h = subst (λ z. AreOnlyColoursIn depth w z cb cr r g b) ey h in
      let h = subst (λ z. AreOnlyColoursIn depth w y2 z cr r g b) ecb h in
      let h = subst (λ z. AreOnlyColoursIn depth w y2 cb2 z r g b) ecr h in
      let h = subst (λ z. AreOnlyColoursIn depth w y2 cb2 cr2 z g b) er h in
      let h = subst (λ z. AreOnlyColoursIn depth w y2 cb2 cr2 r2 z b) eg h in
      subst (λ z. AreOnlyColoursIn depth w y2 cb2 cr2 r2 g2 z) eb h

  pub has_at : (y cb cr y2 cb2 cr2 : List ℕ) (x : ℕ) → y ≡ y2 → cb ≡ cb2 → cr ≡ cr2 → HasColourAtIn
      depth y cb cr x → HasColourAtIn depth y2 cb2 cr2 x
  has_at y cb cr y2 cb2 cr2 x ey ecb ecr h =
      let h = subst (λ z. HasColourAtIn depth z cb cr x) ey h in
      let h = subst (λ z. HasColourAtIn depth y2 z cr x) ecb h in
      subst (λ z. HasColourAtIn depth y2 cb2 z x) ecr h

-- without transparency, and with it
abbrev pub plain : ℕ → ℕ → ℕ → ℕ → Colouring
plain depth w green blue = record {
  depth = depth;
  width = w;
  green = green;
  blue = blue;
  extra = false;
}

abbrev pub full : ℕ → ℕ → ℕ → ℕ → Colouring
full depth w green blue = record {
  depth = depth;
  width = w;
  green = green;
  blue = blue;
  extra = true;
}

-- a list is the parts that it was split into
pub two_parts : (n : ℕ) (xs front rest : List ℕ) → front ≡ take n xs → rest ≡ drop n xs → xs ≡ front
    ++ rest
two_parts n xs front rest a b = sym (take-append-drop n xs) ∙ ap (λ z. z ++ drop n xs) (sym a) ∙
    ap (λ z. front ++ z) (sym b)

pub three_parts : (w : ℕ) (xs front rest middle last : List ℕ) → front ≡ take w xs → rest ≡ drop w
    xs → middle ≡ take w rest → last ≡ drop w rest → xs ≡ front ++ (middle ++ last)
three_parts w xs front rest middle last a b c d =
    two_parts w xs front rest a b ∙ ap (λ z. front ++ z) (two_parts w rest middle last c d)

module _ (w : ℕ) (read y cb cr : List ℕ) (is : read ≡ y ++ (cb ++ cr)) (y_long : length y ≡ w)
    (cb_long : length cb ≡ w) (cr_long : length cr ≡ w) where
  read_0 : y ≡ line_at w 0 read
  read_0 = sym (ap (line_at w 0) is ∙ line_0 w y cb cr y_long cb_long cr_long)

  read_1 : cb ≡ line_at w 1 read
  read_1 = sym (ap (line_at w 1) is ∙ line_1 w y cb cr y_long cb_long cr_long)

  read_2 : cr ≡ line_at w 2 read
  read_2 = sym (ap (line_at w 2) is ∙ line_2 w y cb cr y_long cb_long cr_long)

  module _ (depth green blue : ℕ) where
    pub colours_made : (made r g b : List ℕ) → line_at w 0 made ≡ r → line_at w green made ≡ g →
        line_at w blue made ≡ b → AreOnlyColoursIn depth (length y) y cb cr r g b → AreMade
        (plain depth w green blue) read made
    colours_made made r g b r_is g_is b_is colours = record {
      colours = colours_at depth w y cb cr r g b (line_at w 0 read) (line_at w 1 read)
          (line_at w 2 read) (line_at w 0 made) (line_at w green made) (line_at w blue made)
          read_0 read_1 read_2 (sym r_is) (sym g_is) (sym b_is)
          (subst (λ n. AreOnlyColoursIn depth n y cb cr r g b) y_long colours);
      transparency = λ e. absurd (let no : false ≡ true = e in cc);
    }

    pub colours_end : (r g b : List ℕ) (x : ℕ) → x < length y → AreOnlyColoursIn depth x y cb cr r g
        b → (HasColourAtIn depth y cb cr x → ⊥) → IsFirstWithout (plain depth w green blue) read x
    colours_end r g b x inside filled none = record {
      inside = omega (arith, inside, y_long);
      before = λ z h.
          let only = filled z h in (
            has_at depth y cb cr (line_at w 0 read) (line_at w 1 read) (line_at w 2 read) z read_0
                read_1 read_2 (slice_index r z, slice_index g z, slice_index b z, only.colour),
            λ e. absurd (let no : false ≡ true = e in cc),
          );
      none = λ both. none (has_at depth (line_at w 0 read) (line_at w 1 read) (line_at w 2 read) y
          cb cr x (sym read_0) (sym read_1) (sym read_2) both.0);
    }

-- where green and blue stand in an order
abbrev pub green_at : Bool → ℕ
green_at swapped = if swapped then 2 else 1

abbrev pub blue_at : Bool → ℕ
blue_at swapped = if swapped then 1 else 2

pub green_few : (swapped : Bool) → green_at swapped < 3
green_few true = omega arith
green_few false = omega arith

pub blue_few : (swapped : Bool) → blue_at swapped < 3
blue_few true = omega arith
blue_few false = omega arith

pub in_order : (swapped : Bool) (depth w : ℕ) (read y cb cr r s t : List ℕ) → read ≡ y ++ (cb ++ cr)
    → length y ≡ w → length cb ≡ w → length cr ≡ w → length r ≡ w → length s ≡ w → length t ≡ w →
    AreInOrder swapped depth (length y) y cb cr r s t →
    AreMade (plain depth w (green_at swapped) (blue_at swapped)) read (r ++ (s ++ t))
in_order true depth w read y cb cr r s t is y_long cb_long cr_long r_long s_long t_long made =
    colours_made w read y cb cr is y_long cb_long cr_long depth 2 1 (r ++ (s ++ t)) r t s
    (line_0 w r s t r_long s_long t_long) (line_2 w r s t r_long s_long t_long)
    (line_1 w r s t r_long s_long t_long) made
in_order false depth w read y cb cr r s t is y_long cb_long cr_long r_long s_long t_long made =
    colours_made w read y cb cr is y_long cb_long cr_long depth 1 2 (r ++ (s ++ t)) r s t
    (line_0 w r s t r_long s_long t_long) (line_1 w r s t r_long s_long t_long)
    (line_2 w r s t r_long s_long t_long) made

-- a line among four
line_fits : (w n i : ℕ) → n ≡ 3 * w → i < 3 → i * w + w ≤ n
line_fits w n zero is h = omega (arith, is)
line_fits w n (suc zero) is h = omega (arith, is)
line_fits w n (suc (suc zero)) is h = omega (arith, is)
line_fits w n (suc (suc (suc i))) is h = absurd (omega (arith, h))

-- a fourth line
module _ (w : ℕ) (read coded alpha : List ℕ) (is : read ≡ coded ++ alpha)
    (coded_long : length coded ≡ 3 * w) (alpha_long : length alpha ≡ w) where
  front : (i : ℕ) → i < 3 → line_at w i coded ≡ line_at w i read
  front i less = sym (ap (line_at w i) is ∙ window_front (i * w) w coded alpha
      (line_fits w (length coded) i coded_long less))

  fourth : alpha ≡ line_at w 3 read
  fourth = sym (ap (line_at w 3) is ∙ window_back (3 * w) w coded alpha (sym coded_long)
      (sym alpha_long))

  same_fourth : (x : ℕ) → slice_index alpha x ≡ slice_index (line_at w 3 read) x
  same_fourth x = ap (λ z. slice_index z x) fourth

  module _ (depth green blue : ℕ) where
    has_front : (x : ℕ) → HasBoth (plain depth w green blue) coded x → HasColourAtIn depth
        (line_at w 0 read) (line_at w 1 read) (line_at w 2 read) x
    has_front x both = has_at depth (line_at w 0 coded) (line_at w 1 coded) (line_at w 2 coded)
        (line_at w 0 read) (line_at w 1 read) (line_at w 2 read) x (front 0 (omega arith))
        (front 1 (omega arith)) (front 2 (omega arith)) both.0

    has_back : (x : ℕ) → HasBoth (full depth w green blue) read x → HasBoth
        (plain depth w green blue) coded x
    has_back x both = (
      has_at depth (line_at w 0 read) (line_at w 1 read) (line_at w 2 read) (line_at w 0 coded)
          (line_at w 1 coded) (line_at w 2 coded) x (sym (front 0 (omega arith)))
          (sym (front 1 (omega arith))) (sym (front 2 (omega arith))) both.0,
      λ e. absurd (let no : false ≡ true = e in cc),
    )

    pub both_made : green < 3 → blue < 3 → (three out : List ℕ) → length three ≡ 3 * w → AreMade
        (plain depth w green blue) coded three → out ≡ alpha →
        ((x : ℕ) → slice_index alpha x < 2 ^ depth) →
        AreMade (full depth w green blue) read (three ++ out)
    both_made green_few blue_few three out three_long made out_is small = record {
      colours = colours_at depth w (line_at w 0 coded) (line_at w 1 coded) (line_at w 2 coded)
          (line_at w 0 three) (line_at w green three) (line_at w blue three)
          (line_at w 0 read) (line_at w 1 read) (line_at w 2 read) (line_at w 0 (three ++ out))
          (line_at w green (three ++ out)) (line_at w blue (three ++ out))
          (front 0 (omega arith)) (front 1 (omega arith)) (front 2 (omega arith))
          (sym (window_front (0 * w) w three out
          (line_fits w (length three) 0 three_long (omega arith))))
          (sym (window_front (green * w) w three out
          (line_fits w (length three) green three_long green_few)))
          (sym (window_front (blue * w) w three out
          (line_fits w (length three) blue three_long blue_few))) made.colours;
      transparency = λ e.
          let long : length out ≡ w = ap (λ (z : List ℕ). length z) out_is ∙ alpha_long in (
            window_back (3 * w) w three out (sym three_long) (sym long) ∙ out_is ∙ fourth,
            λ x h. subst (λ z. z < 2 ^ depth) (same_fourth x) (small x),
          );
    }

    -- colours everywhere, and a sample without transparency
    pub alpha_end : (three : List ℕ) (x : ℕ) → AreMade (plain depth w green blue) coded three → x <
        length alpha → ((y : ℕ) → y < x → slice_index alpha y < 2 ^ depth) → 2 ^ depth ≤ slice_index
        alpha x →
        IsFirstWithout (full depth w green blue) read x
    alpha_end three x made inside before above = record {
      inside = omega (arith, inside, alpha_long);
      before = λ y h.
          let here : y < w = omega (arith, h, inside, alpha_long) in
          let only = made.colours y here in (
            has_front y (
              (
                slice_index (line_at w 0 three) y,
                slice_index (line_at w green three) y,
                slice_index (line_at w blue three) y,
                only.colour,
              ),
              λ e. absurd (let no : false ≡ true = e in cc),
            ),
            λ e. subst (λ z. z < 2 ^ depth) (same_fourth y) (before y h),
          );
      none = λ both. let less = both.1 refl in let same = same_fourth x in
          absurd (omega (arith, less, same, above));
    }

    -- a sample without colours, and transparency before it
    pub colour_end : (x : ℕ) → IsFirstWithout (plain depth w green blue) coded x →
        ((y : ℕ) → y < x → slice_index alpha y < 2 ^ depth) → IsFirstWithout
        (full depth w green blue) read x
    colour_end x end before = record {
      inside = end.inside;
      before = λ y h. (
        has_front y (end.before y h),
        λ e. subst (λ z. z < 2 ^ depth) (same_fourth y) (before y h),
      );
      none = λ both. end.none (has_back x both);
    }

    -- a sample without transparency before one without colours
    pub sooner_end : (x y : ℕ) → IsFirstWithout (plain depth w green blue) coded x → y < x →
        ((z : ℕ) → z < y → slice_index alpha z < 2 ^ depth) → 2 ^ depth ≤ slice_index alpha y →
        IsFirstWithout (full depth w green blue) read y
    sooner_end x y end less before above = record {
      inside = omega (arith, less, end.inside);
      before = λ z h. (
        has_front z (end.before z (omega (arith, h, less))),
        λ e. subst (λ v. v < 2 ^ depth) (same_fourth z) (before z h),
      );
      none = λ both. let few = both.1 refl in let same = same_fourth y in
          absurd (omega (arith, few, same, above));
    }
