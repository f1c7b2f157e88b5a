-- The transform of a sample by the rules of 16 bits.
use Rattle.std.proofs.Common.{◌≡◌, refl, ap, ◌∙◌, sym, ℕ, ◌+◌, ◌-◌, ◌*◌, ◌/◌, ◌%◌, ◌^◌, ◌<◌, arith}
use Rattle.ffv1_rct.specs.Transform.{IsCoded, IsOnlyColour}
use Rattle.ffv1_rct.proofs.Places.{coded_if_summed, only_colour}

-- sum and difference of two lanes
abbrev pub plus : ℕ → ℕ → ℕ
plus x y = (x + y) % 65536

abbrev pub minus : ℕ → ℕ → ℕ
minus x y = (x + (65536 - y)) % 65536

abbrev pub right : ℕ → ℕ → ℕ
right x places = x / 2 ^ places

pub coded_rounded : (r g b : ℕ) → r < 256 → g < 256 → b < 256 → IsCoded r g b (right (plus (plus r (plus g g)) b) 2) (plus b (minus 256 g)) (plus r (minus 256 g))
coded_rounded r g b lr lg lb = coded_if_summed 8 r g b _ _ _ record { luma = omega arith; blue = omega arith; red = omega arith }

abbrev pub green_of : ℕ → ℕ → ℕ → ℕ
green_of y cb cr = minus (plus y 128) (right (plus cb cr) 2)

abbrev pub other_of : ℕ → ℕ → ℕ → ℕ → ℕ
other_of c y cb cr = plus c (minus (green_of y cb cr) 256)

summed_rounded : (y cb cr r g b : ℕ) → y < 65536 → cb < 65536 → cr < 65536 → g ≡ green_of y cb cr → r ≡ other_of cr y cb cr → b ≡ other_of cb y cb cr → r < 256 → g < 256 → b < 256
    → (cb + g ≡ b + 256) × (cr + g ≡ r + 256)
summed_rounded y cb cr r g b ly lb lr eg er eb sr sg sb =
    let red : r ≡ plus cr (minus g 256) = er ∙ ap (λ v. plus cr (minus v 256)) (sym eg) in
    let blue : b ≡ plus cb (minus g 256) = eb ∙ ap (λ v. plus cb (minus v 256)) (sym eg) in
    (omega (arith, blue, sg, sb, lb), omega (arith, red, sg, sr, lr))

luma_rounded : (y cb cr r g b : ℕ) → y < 65536 → g ≡ green_of y cb cr → cb + g ≡ b + 256 → cr + g ≡ r + 256 → r < 256 → g < 256 → b < 256 → y ≡ (r + 2 * g + b) / 4
luma_rounded y cb cr r g b ly eg eb er sr sg sb =
    let sum : plus cb cr ≡ cb + cr = omega arith in
    let green : g ≡ minus (plus y 128) ((cb + cr) / 4) = eg ∙ ap (λ s. minus (plus y 128) (s / 4)) sum in
    let q : (r + 2 * g + b) / 4 + 128 ≡ (cb + cr) / 4 + g = omega (arith, eb, er) in
    omega (arith, green, q, ly, sr, sg, sb, eb, er)

-- where what comes out lies from 0 to 255, it is the colour
pub colour_rounded : (y cb cr : ℕ) → y < 65536 → cb < 65536 → cr < 65536 → other_of cr y cb cr < 256 → green_of y cb cr < 256 → other_of cb y cb cr < 256
    → IsOnlyColour y cb cr (other_of cr y cb cr) (green_of y cb cr) (other_of cb y cb cr)
colour_rounded y cb cr ly lb lr sr sg sb =
    let r = other_of cr y cb cr in
    let g = green_of y cb cr in
    let b = other_of cb y cb cr in
    let sums = summed_rounded y cb cr r g b ly lb lr refl refl refl sr sg sb in
    let luma = luma_rounded y cb cr r g b ly refl sums.0 sums.1 sr sg sb in
    let coded = coded_if_summed 8 r g b y cb cr record { luma = luma; blue = sums.0; red = sums.1 } in
    record {
      colour = record { red = sr; green = sg; blue = sb; coded = coded };
      only = λ s h d is. only_colour 8 r g b s h d y cb cr coded is;
    }
