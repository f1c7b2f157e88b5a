-- The head and the pictures of a text that is a video.
use Rattle.std.proofs.Common.{◌≡◌, refl, ℕ, zero, suc, ◌*◌, ◌≤◌, ◌==◌, Bool, true, false, List, [], ◌∷◌, ◌++◌, length, map, flat_map, sym, subst, ap, ap₂, ◌∙◌, arith, if◌then◌else◌}
use Rattle.std.proofs.lemmas.Bool.Decides.{nat_tests}
use Rattle.ffv1_range.specs.Codes.{AreBytes}
use Rattle.ffv1_slice.specs.Head.{is_aspect}
use Rattle.ffv1_codec.specs.Frame.{IsSaid}
use Rattle.ffv1_codec.specs.Picture.{AreSamples, IsPicture, Planes}
use Rattle.ffv1_y4m.specs.HeaderLine.{IsHeaderLine}
use Rattle.ffv1_y4m.specs.Images.{AllColours, AreColours, AreSpelled, samples_text}
use Rattle.ffv1_y4m.specs.Pictures.{frame_line, picture_text}
use Rattle.ffv1_y4m.specs.Ppm.{bytes_for, bytes_of_pairs, in_turn, interleaved, pairs_of, turned}
use Rattle.ffv1_y4m.specs.Text.{AllFit}
use Rattle.ffv1_y4m.specs.VideoHead.{AreInDepth, Fits as VideoFits, IsHead, IsNamed, IsRatio, colour_head, plane_bytes, reduced}
use Rattle.ffv1_video.specs.Video.{SaidHead}
use Rattle.ffv1_y4m.specs.declared.head.VideoHead.{VideoHead}
use Rattle.ffv1_words.specs.declared.order.Choice.{Choice}
use Rattle.ffv1_pack.specs.Packing.{configuration_for, said_for}
use Rattle.ffv1_video.specs.Video.{IsReadVideoBy}
use Rattle.ffv1_pack.specs.VideoReads.{IsHeadBy}
use Rattle.ffv1_engine.proofs.ByteLists.{bytes_behind, bytes_front, bytes_pushed, no_bytes}
use Rattle.ffv1_pack.proofs.VideoFits.{fits}

-- its head is one that readers give
pub head_given : ((most : ℕ) (line : List ℕ) (depth : ℕ) (h : VideoHead) → IsHeaderLine most line depth h → IsHead h) → (most : ℕ) (ppm : Bool) (text : List ℕ) (h : SaidHead) (ps : List Planes) → IsReadVideoBy most ppm text h ps → IsHeadBy ppm h.head
head_given said most true text h ps v = (record { some_wide = v.1.sized.some_wide; wide = v.1.sized.wide; some_high = v.1.sized.some_high; high = v.1.sized.high }, v.0)
head_given said most false text h ps v = said most v.line h.depth h.head v.said

-- and its chroma has a name at its depth
pub name_given : ((most : ℕ) (line : List ℕ) (depth : ℕ) (h : VideoHead) → IsHeaderLine most line depth h → IsNamed depth h) → (most : ℕ) (ppm : Bool) (text : List ℕ) (h : SaidHead) (ps : List Planes) → IsReadVideoBy most ppm text h ps → IsNamed h.depth h.head
name_given named most true text h ps v = subst (λ k. IsNamed h.depth k) (sym v.0) v.1.named
name_given named most false text h ps v = named most v.line h.depth h.head v.said

-- what frames say of its pictures
aspect_by : (a b : Bool) (n d : ℕ) → (n == 0) ≡ a → (d == 0) ≡ b → a ≡ b → n ≤ 65535 → d ≤ 65535 → is_aspect n d ≡ true
aspect_by true true n d p q e f g = grind (arith, nat_tests)
aspect_by true false n d p q e f g = absurd (cc)
aspect_by false true n d p q e f g = absurd (cc)
aspect_by false false n d p q e f g = grind (arith, nat_tests)

aspect : (n d : ℕ) → IsRatio 65535 n d → is_aspect n d ≡ true
aspect n d r = aspect_by (n == 0) (d == 0) n d refl refl r.both r.first r.second

pub said_given : (ppm : Bool) (h : SaidHead) → IsHeadBy ppm h.head → IsSaid (said_for h)
said_given true h is = subst (λ (k : VideoHead). IsSaid (said_for (record { head = k; depth = h.depth }))) (sym is.1) (record { structure = omega arith; aspect = refl })
said_given false h is = let few = is.structure in record { structure = omega (arith, few); aspect = aspect h.head.sar_num h.head.sar_den is.aspect }

-- the samples of its pictures are bytes
samples_pushed : (q : List ℕ) (qs : Planes) → AreBytes q → AreSamples qs → AreSamples (q ∷ qs)
samples_pushed q qs first rest zero i = first i
samples_pushed q qs first rest (suc p) i = rest p i

samples_of : (planes : Planes) → AreBytes (flat_map (λ plane. plane) planes) → AreSamples planes
samples_of [] are = λ p i. omega arith
samples_of (q ∷ qs) are =
    samples_pushed q qs (bytes_front q (flat_map (λ plane. plane) qs) are) (samples_of qs (bytes_behind q (flat_map (λ plane. plane) qs) are))

-- pictures of a head, of bytes, with samples below 2 ^ depth
pub record Fitting (h : SaidHead) (planes : Planes) : Type 0 where
  pub fits : VideoFits h.depth h.head planes
  pub small : AreInDepth h.depth planes
  pub bytes : AreSamples planes

abbrev pub AllFitting : SaidHead → List Planes → Type 0
AllFitting h [] = Unit {0}
AllFitting h (p ∷ ps) = Fitting h p × AllFitting h ps

all_fitting : (h : SaidHead) (ps : List Planes) → AllFit h.depth h.head ps → AreBytes (flat_map picture_text ps) → AllFitting h ps
all_fitting h [] fit are = tt
all_fitting h (p ∷ ps) fit are =
    let one = bytes_front (picture_text p) (flat_map picture_text ps) are in
    let more = bytes_behind (picture_text p) (flat_map picture_text ps) are in (
      record { fits = fit.0.0; small = fit.0.1; bytes = samples_of p (bytes_behind frame_line (flat_map (λ plane. plane) p) one) },
      all_fitting h ps fit.1 more,
    )

-- three planes, sample by sample
record Three (red green blue : List ℕ) : Type 0 where
  reds : AreBytes red
  greens : AreBytes green
  blues : AreBytes blue

three : (red green blue : List ℕ) → length green ≡ length red → length blue ≡ length red → AreBytes (in_turn red green blue) → Three red green blue
three [] [] [] e f are = record { reds = no_bytes; greens = no_bytes; blues = no_bytes }
three [] [] (b ∷ bs) e f are = absurd (omega (arith, f))
three [] (g ∷ gs) bs e f are = absurd (omega (arith, e))
three (r ∷ rs) [] bs e f are = absurd (omega (arith, e))
three (r ∷ rs) (g ∷ gs) [] e f are = absurd (omega (arith, f))
three (r ∷ rs) (g ∷ gs) (b ∷ bs) e f are =
    let rest = three rs gs bs (omega (arith, e)) (omega (arith, f)) (λ k. are (suc (suc (suc k)))) in record {
      reds = bytes_pushed r rs (are 0) rest.reds;
      greens = bytes_pushed g gs (are 1) rest.greens;
      blues = bytes_pushed b bs (are 2) rest.blues;
    }

three_samples : (red green blue : List ℕ) → Three red green blue → AreSamples (red ∷ green ∷ blue ∷ [])
three_samples red green blue are =
    samples_pushed red (green ∷ blue ∷ []) are.reds (samples_pushed green (blue ∷ []) are.greens (samples_pushed blue [] are.blues (samples_of [] no_bytes)))

-- the same of samples of two bytes each
pairs : (n : ℕ) (red green blue : List ℕ) → length red ≡ 2 * n → length green ≡ 2 * n → length blue ≡ 2 * n → AreBytes (bytes_of_pairs (turned (in_turn (pairs_of red) (pairs_of green) (pairs_of blue)))) → Three red green blue
pairs zero [] [] [] e f g are = record { reds = no_bytes; greens = no_bytes; blues = no_bytes }
pairs (suc n) (r ∷ s ∷ rs) (x ∷ y ∷ xs) (b ∷ c ∷ bs) e f g are =
    let rest = pairs n rs xs bs (omega (arith, e)) (omega (arith, f)) (omega (arith, g)) (λ k. are (suc (suc (suc (suc (suc (suc k))))))) in record {
      reds = bytes_pushed r (s ∷ rs) (are 1) (bytes_pushed s rs (are 0) rest.reds);
      greens = bytes_pushed x (y ∷ xs) (are 3) (bytes_pushed y xs (are 2) rest.greens);
      blues = bytes_pushed b (c ∷ bs) (are 5) (bytes_pushed c bs (are 4) rest.blues);
    }
pairs zero [] [] (b ∷ bs) e f g are = absurd (omega (arith, g))
pairs zero [] (x ∷ xs) bs e f g are = absurd (omega (arith, f))
pairs zero (r ∷ rs) xs bs e f g are = absurd (omega (arith, e))
pairs (suc n) [] xs bs e f g are = absurd (omega (arith, e))
pairs (suc n) (r ∷ []) xs bs e f g are = absurd (omega (arith, e))
pairs (suc n) (r ∷ s ∷ rs) [] bs e f g are = absurd (omega (arith, f))
pairs (suc n) (r ∷ s ∷ rs) (x ∷ []) bs e f g are = absurd (omega (arith, f))
pairs (suc n) (r ∷ s ∷ rs) (x ∷ y ∷ xs) [] e f g are = absurd (omega (arith, g))
pairs (suc n) (r ∷ s ∷ rs) (x ∷ y ∷ xs) (b ∷ []) e f g are = absurd (omega (arith, g))

three_by : (one : Bool) (n : ℕ) (red green blue : List ℕ) → length red ≡ (if one then n else 2 * n) → length green ≡ (if one then n else 2 * n) → length blue ≡ (if one then n else 2 * n) →
    AreBytes (if one then in_turn red green blue else bytes_of_pairs (turned (in_turn (pairs_of red) (pairs_of green) (pairs_of blue)))) → Three red green blue
three_by true n red green blue e f g are = three red green blue (f ∙ sym e) (g ∙ sym e) are
three_by false n red green blue e f g are = pairs n red green blue e f g are

-- the sizes of images
sized_by : (one : Bool) (n m : ℕ) → n ≡ m → (if one then n ∷ m ∷ m ∷ [] else map (λ size. 2 * size) (n ∷ m ∷ m ∷ [])) ≡ (if one then n else 2 * n) ∷ (if one then n else 2 * n) ∷ (if one then n else 2 * n) ∷ []
sized_by true n m e = ap (λ k. n ∷ k ∷ k ∷ []) (sym e)
sized_by false n m e = ap (λ k. (2 * n) ∷ (2 * k) ∷ (2 * k) ∷ []) (sym e)

colour_sizes : (depth w h : ℕ) → plane_bytes depth (colour_head w h) ≡ bytes_for depth (w * h) ∷ bytes_for depth (w * h) ∷ bytes_for depth (w * h) ∷ []
colour_sizes depth w h =
    let wide : reduced 0 w ≡ w = omega arith in
    let high : reduced 0 h ≡ h = omega arith in
    sized_by (depth == 8) (w * h) (reduced 0 w * reduced 0 h) (sym (ap₂ (λ x y. x * y) wide high))

colour_fits : (depth w h : ℕ) (p : Planes) → AreColours (bytes_for depth (w * h)) p → VideoFits depth (colour_head w h) p
colour_fits depth w h p c =
    let n = bytes_for depth (w * h) in
    let long : map (λ q. length q) p ≡ n ∷ n ∷ n ∷ [] = rw (c.planes_are, c.red_long, c.green_long, c.blue_long) refl in
    long ∙ sym (colour_sizes depth w h)

colour_samples : (depth n : ℕ) (p : Planes) → AreColours (bytes_for depth n) p → AreBytes (samples_text depth p) → AreSamples p
colour_samples depth n p c are =
    let bytes : AreBytes (interleaved depth c.red c.green c.blue) = subst (λ q. AreBytes (samples_text depth q)) c.planes_are are in
    subst AreSamples (sym c.planes_are) (three_samples c.red c.green c.blue (three_by (depth == 8) n c.red c.green c.blue c.red_long c.green_long c.blue_long bytes))

all_colours : (most depth w h : ℕ) (text : List ℕ) (ps : List Planes) → AllColours depth (bytes_for depth (w * h)) ps → AreSpelled most depth w h text ps → AreBytes text → AllFitting (record { head = colour_head w h; depth = depth }) ps
all_colours most depth w h text [] colours spelled are = tt
all_colours most depth w h text (p ∷ ps) colours (header, rest, is, whole, spelled) are =
    let behind = bytes_behind header (samples_text depth p ++ rest) (subst AreBytes whole are) in (
      record {
        fits = colour_fits depth w h p colours.0.0;
        small = colours.0.1;
        bytes = colour_samples depth (w * h) p colours.0.0 (bytes_front (samples_text depth p) rest behind);
      },
      all_colours most depth w h rest ps colours.1 spelled (bytes_behind (samples_text depth p) rest behind),
    )

pub pictures_given : (most : ℕ) (ppm : Bool) (text : List ℕ) (h : SaidHead) (ps : List Planes) → IsReadVideoBy most ppm text h ps → AreBytes text → AllFitting h ps
pictures_given most true text h ps v are =
    subst (λ (k : VideoHead). AllFitting (record { head = k; depth = h.depth }) ps) (sym v.0) (all_colours most h.depth h.head.width h.head.height text ps v.1.fit v.1.spelled are)
pictures_given most false text h ps v are =
    let whole : AreBytes (v.line ++ 10 ∷ flat_map picture_text ps) = subst AreBytes v.whole are in
    all_fitting h ps v.fit (bytes_behind (10 ∷ []) (flat_map picture_text ps) (bytes_behind v.line (10 ∷ flat_map picture_text ps) whole))

pub picture_given : (choice : Choice) (ppm : Bool) (h : SaidHead) (p : Planes) → IsHeadBy ppm h.head → Fitting h p → IsPicture (configuration_for choice ppm h) p
picture_given choice ppm h p is f = record { fits = fits choice ppm h p is f.fits f.small; bytes = f.bytes }
