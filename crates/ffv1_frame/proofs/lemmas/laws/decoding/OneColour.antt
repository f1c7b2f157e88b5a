-- The lines that are made of lines that were read are one, or there is a first place without a
-- colour.
use Rattle.std.proofs.Common.{◌≡◌, refl, ℕ, zero, suc, ◌<◌, ◌≤◌, ◌⊎◌, Bool, true, false, List, [], map, length, get_or, inl, inr, ap, sym, subst, ◌∙◌, arith}
use Rattle.std.proofs.lemmas.Bool.{cases_lt}
use Rattle.std.proofs.lemmas.List.{ext_get_or}
use Rattle.ffv1_samples.specs.Samples.{bytes_of}
use Rattle.ffv1_rct.specs.Lines.{AreOnlyColoursIn}
use Rattle.ffv1_record.specs.Configuration.{Configuration, is_rct}
use Rattle.ffv1_frame.specs.Picture.{green_of, blue_of}
use Rattle.ffv1_frame.specs.Decoding.{Finishes, FinishesBy, HasPlace, IsColourless}
use Rattle.ffv1_frame.proofs.lemmas.picture.Words.{green_blue, green_few, blue_few}

-- there are three planes, or four with transparency
abbrev pub AreFew : Configuration → ℕ → Type 0
AreFew c count = (count ≡ 3) ⊎ ((count ≡ 4) × (c.extra_plane ≡ true))

module _ (c : Configuration) (read : List (List ℕ)) where
  -- red, green and blue are one
  one_colour : (n : ℕ) (y cb cr r g b s h d : List ℕ) → length r ≡ n → length g ≡ n → length b ≡ n → length s ≡ n → length h ≡ n → length d ≡ n →
      AreOnlyColoursIn c.depth n y cb cr r g b → AreOnlyColoursIn c.depth n y cb cr s h d → (r ≡ s) × (g ≡ h) × (b ≡ d)
  one_colour n y cb cr r g b s h d rl gl bl sl hl dl this other =
      let red : (x : ℕ) → x < n → get_or r x 0 ≡ get_or s x 0 = λ x i. sym ((this x i).only _ _ _ (other x i).colour.coded).0 in
      let green : (x : ℕ) → x < n → get_or g x 0 ≡ get_or h x 0 = λ x i. sym ((this x i).only _ _ _ (other x i).colour.coded).1 in
      let blue : (x : ℕ) → x < n → get_or b x 0 ≡ get_or d x 0 = λ x i. sym ((this x i).only _ _ _ (other x i).colour.coded).2 in (
        ext_get_or 0 r s (rl ∙ sym sl) (λ x i. red x (omega (arith, i, rl))),
        ext_get_or 0 g h (gl ∙ sym hl) (λ x i. green x (omega (arith, i, gl))),
        ext_get_or 0 b d (bl ∙ sym dl) (λ x i. blue x (omega (arith, i, bl))),
      )

  -- the lines by their numbers
  one_line_of : (out other : List (List ℕ)) → 3 ≤ length read → FinishesBy true c read out → FinishesBy true c read other →
      (get_or out 0 [] ≡ get_or other 0 []) × (get_or out (green_of c) [] ≡ get_or other (green_of c) []) × (get_or out (blue_of c) [] ≡ get_or other (blue_of c) [])
  one_line_of out other many f g =
      let green : green_of c < length read = omega (arith, many, green_few c) in
      let blue : blue_of c < length read = omega (arith, many, blue_few c) in
      one_colour c.width _ _ _ _ _ _ _ _ _
      (f.1 0 (omega (arith, many))) (f.1 (green_of c) green) (f.1 (blue_of c) blue)
      (g.1 0 (omega (arith, many))) (g.1 (green_of c) green) (g.1 (blue_of c) blue) f.2 g.2

  one_second : (out other : List (List ℕ)) → 3 ≤ length read → FinishesBy true c read out → FinishesBy true c read other → get_or out 1 [] ≡ get_or other 1 []
  one_second out other many f g =
      let same = one_line_of out other many f g in
      elim (green_blue c) [
        | inl is ↦ subst (λ n. get_or out n [] ≡ get_or other n []) is.0 same.1
        | inr is ↦ subst (λ n. get_or out n [] ≡ get_or other n []) is.1 same.2
      ]

  one_third : (out other : List (List ℕ)) → 3 ≤ length read → FinishesBy true c read out → FinishesBy true c read other → get_or out 2 [] ≡ get_or other 2 []
  one_third out other many f g =
      let same = one_line_of out other many f g in
      elim (green_blue c) [
        | inl is ↦ subst (λ n. get_or out n [] ≡ get_or other n []) is.1 same.2
        | inr is ↦ subst (λ n. get_or out n [] ≡ get_or other n []) is.0 same.1
      ]

  one_fourth : (out other : List (List ℕ)) → c.extra_plane ≡ true → FinishesBy true c read out → FinishesBy true c read other → get_or out 3 [] ≡ get_or other 3 []
  one_fourth out other extra f g = (f.3 extra).0 ∙ sym (g.3 extra).0

  of_three : (out other : List (List ℕ)) → length read ≡ 3 → FinishesBy true c read out → FinishesBy true c read other → (i : ℕ) → i < 3 → get_or out i [] ≡ get_or other i []
  of_three out other many f g zero inside = (one_line_of out other (omega (arith, many)) f g).0
  of_three out other many f g (suc zero) inside = one_second out other (omega (arith, many)) f g
  of_three out other many f g (suc (suc zero)) inside = one_third out other (omega (arith, many)) f g
  of_three out other many f g (suc (suc (suc i))) inside = absurd (omega (arith, inside))

  of_four : (out other : List (List ℕ)) → length read ≡ 4 → c.extra_plane ≡ true → FinishesBy true c read out → FinishesBy true c read other → (i : ℕ) → i < 4 → get_or out i [] ≡ get_or other i []
  of_four out other many extra f g zero inside = (one_line_of out other (omega (arith, many)) f g).0
  of_four out other many extra f g (suc zero) inside = one_second out other (omega (arith, many)) f g
  of_four out other many extra f g (suc (suc zero)) inside = one_third out other (omega (arith, many)) f g
  of_four out other many extra f g (suc (suc (suc zero))) inside = one_fourth out other extra f g
  of_four out other many extra f g (suc (suc (suc (suc i)))) inside = absurd (omega (arith, inside))

  coloured_same : AreFew c (length read) → (out other : List (List ℕ)) → FinishesBy true c read out → FinishesBy true c read other → out ≡ other
  coloured_same few out other f g = elim few [
    | inl three ↦ ext_get_or {A = List ℕ} [] out other (f.0 ∙ sym g.0) (λ i h. of_three out other three f g i (omega (arith, h, f.0, three)))
    | inr four ↦ ext_get_or {A = List ℕ} [] out other (f.0 ∙ sym g.0) (λ i h. of_four out other four.0 four.1 f g i (omega (arith, h, f.0, four.0)))
  ]

  finished_by : (rct : Bool) → (rct ≡ true → AreFew c (length read)) → (out other : List (List ℕ)) → FinishesBy rct c read out → FinishesBy rct c read other → out ≡ other
  finished_by true few out other f g = coloured_same (few refl) out other f g
  finished_by false few out other f g = f ∙ sym g

  -- what is made is one
  pub one_finish : (is_rct c.colour ≡ true → AreFew c (length read)) → (out other : List (List ℕ)) → Finishes c read out → Finishes c read other → out ≡ other
  one_finish few out other f g = f.bytes ∙ ap (map (bytes_of c.depth)) (finished_by (is_rct c.colour) few f.made g.made f.by g.by) ∙ sym g.bytes

  -- each place of what is made has a colour
  has_place : (x : ℕ) (out : List (List ℕ)) → x < c.width → FinishesBy true c read out → HasPlace c read x
  has_place x out inside f = ((_, _, _, (f.2 x inside).colour), λ extra. (f.3 extra).1 x inside)

  pub finish_or_colourless : (x : ℕ) (out : List (List ℕ)) → Finishes c read out → IsColourless c read x → ⊥
  finish_or_colourless x out f none = none.none (has_place x f.made none.inside (subst (λ rct. FinishesBy rct c read f.made) none.rct f.by))

  -- there is one first place without a colour
  pub one_colourless : (x y : ℕ) → IsColourless c read x → IsColourless c read y → x ≡ y
  one_colourless x y f g = elim (cases_lt x y) [
    | inl sooner ↦ absurd (f.none (g.before x sooner))
    | inr here ↦ elim (cases_lt y x) [
      | inl later ↦ absurd (g.none (f.before y later))
      | inr there ↦ omega (arith, here, there)
    ]
  ]
