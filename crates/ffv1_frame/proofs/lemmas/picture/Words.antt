-- Samples of any depth and their bytes: windows of them, and the planes of a picture.
use Rattle.std.proofs.Common.{◌≡◌, refl, ℕ, zero, suc, ◌+◌, ◌*◌, ◌^◌, ◌<◌, ◌≤◌, ◌⊎◌, ◌==◌, ◌&&◌, not, nat_lt, Bool, true, false, if◌then◌else◌, List, [], ◌∷◌, ◌++◌, map, length, get_or, set, take, drop, inl, inr, ap, sym, subst, ◌∙◌, arith}
use Rattle.std.proofs.Math.Nat.{mul-le-mul_left, lt_of_lt_of_le}
use Rattle.std.proofs.Math.Pow.{pow_mono}
use Rattle.std.proofs.lemmas.Bool.{cases_eq, eq-eqb, ne_eqb}
use Rattle.std.proofs.Math.Seq.{take-suc, take-suc-set}
use Rattle.std.proofs.lemmas.List.{get_or-drop, take_all}
use Rattle.ffv1_samples.specs.Samples.{AreBelow, bytes_of, pairs_of_numbers, numbers_of_pairs, sample_bytes, samples_of}
use Rattle.ffv1_samples.proofs.Depths.{bytes_back, bytes_small, length_samples, samples_append, samples_first, samples_rest}
use Rattle.ffv1_samples.proofs.Pairs.{length_numbers, number_at}
use Rattle.ffv1_record.specs.Configuration.{Configuration}
use Rattle.ffv1_frame.specs.Picture.{Planes, IsPicture, plane, plane_count, plane_width, plane_height, plane_samples, line_bytes, swaps, green_of, blue_of}
use Rattle.ffv1_frame.specs.Decoding.{row_in}
use Rattle.ffv1_frame.specs.Windows.{window}
use Rattle.ffv1_frame.proofs.lemmas.WrittenParts.{window_long}
use Rattle.ffv1_frame.proofs.lemmas.JoinedLines.{take_small}

pub window_small : (bound at n : ℕ) (xs : List ℕ) → AreBelow bound xs → AreBelow bound (window at n xs)
window_small bound at n xs all = λ i.
    let any : 0 < bound = omega (arith, all 0) in
    take_small bound any n (drop at xs) (λ j. rw (get_or-drop at xs j 0) (all (at + j))) i

-- the samples of a part of bytes
pub window_samples : (depth at n : ℕ) (bytes : List ℕ) → samples_of depth (window (sample_bytes depth * at) (sample_bytes depth * n) bytes) ≡ window at n (samples_of depth bytes)
window_samples depth at n bytes = samples_first depth n (drop (sample_bytes depth * at) bytes) ∙ ap (take n) (samples_rest depth at bytes)

spread : (b at n long : ℕ) → b * (at + n) ≤ long → b * at + b * n ≤ long
spread b at n long fits = omega (arith, fits)

-- the bytes of a part of samples
pub window_bytes : (depth at n : ℕ) (bytes : List ℕ) → AreBelow 256 bytes → sample_bytes depth * (at + n) ≤ length bytes →
    bytes_of depth (window at n (samples_of depth bytes)) ≡ window (sample_bytes depth * at) (sample_bytes depth * n) bytes
window_bytes depth at n bytes below fits =
    let part = window (sample_bytes depth * at) (sample_bytes depth * n) bytes in
    let long : length part ≡ sample_bytes depth * n = window_long (sample_bytes depth * at) (sample_bytes depth * n) bytes (spread (sample_bytes depth) at n (length bytes) fits) in
    ap (bytes_of depth) (sym (window_samples depth at n bytes)) ∙ bytes_back depth n part (window_small 256 (sample_bytes depth * at) (sample_bytes depth * n) bytes below) long

none_bytes : (depth : ℕ) → bytes_of depth [] ≡ []
none_bytes depth = cases (depth == 8)
  where
    cases : (one : Bool) → (if one then [] else pairs_of_numbers []) ≡ []
    cases true = refl
    cases false = refl

pub none_samples : (depth : ℕ) → samples_of depth [] ≡ []
none_samples depth = cases (depth == 8)
  where
    cases : (one : Bool) → (if one then [] else numbers_of_pairs []) ≡ []
    cases true = refl
    cases false = refl

-- one of several lines in bytes
pub get_or_bytes : (depth i : ℕ) (made : List (List ℕ)) → get_or (map (bytes_of depth) made) i [] ≡ bytes_of depth (get_or made i [])
get_or_bytes depth i [] = sym (none_bytes depth)
get_or_bytes depth zero (x ∷ made) = refl
get_or_bytes depth (suc i) (x ∷ made) = get_or_bytes depth i made

-- a sample has room in its bytes
depth_fits : (depth : ℕ) → depth ≤ 16 → depth ≤ 8 * sample_bytes depth
depth_fits depth most = elim (cases_eq depth 8) [
  | inl is ↦ subst (λ (b : Bool). depth ≤ 8 * (if b then 1 else 2)) (sym (eq-eqb depth 8 is)) (omega (arith, is))
  | inr other ↦ subst (λ (b : Bool). depth ≤ 8 * (if b then 1 else 2)) (sym (ne_eqb depth 8 other)) (omega (arith, most))
]

pub bytes_below : (depth : ℕ) (samples : List ℕ) → depth ≤ 16 → AreBelow (2 ^ depth) samples → AreBelow 256 (bytes_of depth samples)
bytes_below depth samples most below = bytes_small depth samples (λ i. lt_of_lt_of_le (below i) (pow_mono (depth_fits depth most)))

-- the samples of a picture
pub picture_small : (c : Configuration) (planes : Planes) → IsPicture c planes → (p : ℕ) → AreBelow (2 ^ c.depth) (plane_samples c planes p)
picture_small c planes picture p = elim (cases_eq c.depth 8) [
  | inl is ↦ λ i. subst (λ d. get_or (samples_of d (plane planes p)) i 0 < 2 ^ d) (sym is) (picture.bytes p i)
  | inr other ↦ picture.fits.small other p
]

-- a line of a plane, in samples
abbrev pub sample_row : Configuration → Planes → ℕ → ℕ → List ℕ
sample_row c planes y p = row_in (plane_width c p) y (plane_samples c planes p)

turned : (b y w : ℕ) → b * (y * w) ≡ y * (b * w)
turned b y w = omega arith

-- the samples of its bytes
pub row_samples : (c : Configuration) (planes : Planes) (y p : ℕ) → samples_of c.depth (row_in (line_bytes c p) y (plane planes p)) ≡ sample_row c planes y p
row_samples c planes y p =
    let w = plane_width c p in
    ap (λ n. samples_of c.depth (window n (sample_bytes c.depth * w) (plane planes p))) (sym (turned (sample_bytes c.depth) y w))
    ∙ window_samples c.depth (y * w) w (plane planes p)

row_inside : (b w h y : ℕ) → y < h → b * (y * w + w) ≤ b * (w * h)
row_inside b w h y below =
    let rows = mul-le-mul_left {m = suc y} {n = h} w below in
    mul-le-mul_left {m = y * w + w} {n = w * h} b (omega (arith, rows))

-- and the bytes of its samples
pub row_bytes : (c : Configuration) (planes : Planes) (y p : ℕ) → IsPicture c planes → p < plane_count c → y < plane_height c p →
    bytes_of c.depth (sample_row c planes y p) ≡ row_in (line_bytes c p) y (plane planes p)
row_bytes c planes y p picture inside below =
    let w = plane_width c p in
    let size = picture.fits.are.sizes p inside in
    let room = row_inside (sample_bytes c.depth) w (plane_height c p) y below in
    window_bytes c.depth (y * w) w (plane planes p) (picture.bytes p) (omega (arith, size, room))
    ∙ ap (λ n. window n (sample_bytes c.depth * w) (plane planes p)) (turned (sample_bytes c.depth) y w)

-- the planes that are taken for green and blue are 1 and 2
abbrev one_or_two : Bool → ℕ
one_or_two b = if b then 2 else 1

abbrev two_or_one : Bool → ℕ
two_or_one b = if b then 1 else 2

green_and_blue : (b : Bool) → ((one_or_two b ≡ 1) × (two_or_one b ≡ 2)) ⊎ ((one_or_two b ≡ 2) × (two_or_one b ≡ 1))
green_and_blue true = inr (refl, refl)
green_and_blue false = inl (refl, refl)

pub green_blue : (c : Configuration) → ((green_of c ≡ 1) × (blue_of c ≡ 2)) ⊎ ((green_of c ≡ 2) × (blue_of c ≡ 1))
green_blue c = green_and_blue (swaps c)

pub green_few : (c : Configuration) → green_of c < 3
green_few c = elim (green_blue c) [ inl is ↦ omega (arith, is.0) | inr is ↦ omega (arith, is.0) ]

pub blue_few : (c : Configuration) → blue_of c < 3
blue_few c = elim (green_blue c) [ inl is ↦ omega (arith, is.1) | inr is ↦ omega (arith, is.1) ]

-- above 8 bits a sample has two bytes
pub two_bytes : (depth : ℕ) → 8 < depth → sample_bytes depth ≡ 2
two_bytes depth deep = ap (λ (b : Bool). if b then 1 else 2) (ne_eqb depth 8 (λ e. absurd (omega (arith, e, deep))))

module _ (depth w : ℕ) (deep : 8 < depth) where
  in_bytes : (xs : List ℕ) → length xs ≡ 2 * w → length xs ≡ sample_bytes depth * w
  in_bytes xs long = long ∙ ap (λ n. n * w) (sym (two_bytes depth deep))

  pub words_long : (xs : List ℕ) → length xs ≡ 2 * w → length (samples_of depth xs) ≡ w
  words_long xs long = length_samples depth w xs (in_bytes xs long)

  pub words_append : (xs ys : List ℕ) → length xs ≡ 2 * w → samples_of depth (xs ++ ys) ≡ samples_of depth xs ++ samples_of depth ys
  words_append xs ys long = samples_append depth w xs ys (in_bytes xs long)

-- the samples of three lines
pub three_samples : (depth w : ℕ) → 8 < depth → (xs ys zs : List ℕ) → length xs ≡ 2 * w → length ys ≡ 2 * w → samples_of depth (xs ++ (ys ++ zs)) ≡ samples_of depth xs ++ (samples_of depth ys ++ samples_of depth zs)
three_samples depth w deep xs ys zs x_long y_long =
    words_append depth w deep xs (ys ++ zs) x_long ∙ ap (λ z. samples_of depth xs ++ z) (words_append depth w deep ys zs y_long)

-- at 8 bits green and blue stand in their places
pub green_byte : (c : Configuration) → c.depth ≡ 8 → green_of c ≡ 1
green_byte c is = ap (λ d. if nat_lt 8 d && (nat_lt d 16 && not c.extra_plane) then 2 else 1) is

pub blue_byte : (c : Configuration) → c.depth ≡ 8 → blue_of c ≡ 2
blue_byte c is = ap (λ d. if nat_lt 8 d && (nat_lt d 16 && not c.extra_plane) then 1 else 2) is

-- one number of pairs of bytes more
pub more_pairs : (row bytes : List ℕ) (x value : ℕ) → length bytes ≡ 2 * length row → x < length row → value ≡ get_or bytes (2 * x) 0 + 256 * get_or bytes (2 * x + 1) 0 →
    take x row ≡ take x (numbers_of_pairs bytes) → take (suc x) (set row x value) ≡ take (suc x) (numbers_of_pairs bytes)
more_pairs row bytes x value long inside is before =
    let place : 2 * x + 1 < length bytes = omega (arith, long, inside) in
    let few : length (numbers_of_pairs bytes) ≡ length row = length_numbers (length row) bytes long in
    take-suc-set row x value inside ∙ ap (λ xs. xs ++ (value ∷ [])) before
    ∙ ap (λ n. take x (numbers_of_pairs bytes) ++ (n ∷ [])) (is ∙ sym (number_at x bytes place))
    ∙ sym (take-suc (numbers_of_pairs bytes) x 0 (omega (arith, few, inside)))

-- all of them
pub all_pairs : (row bytes : List ℕ) (x : ℕ) → length bytes ≡ 2 * length row → length row ≤ x → take x row ≡ take x (numbers_of_pairs bytes) → row ≡ numbers_of_pairs bytes
all_pairs row bytes x long past same =
    let few : length (numbers_of_pairs bytes) ≡ length row = length_numbers (length row) bytes long in
    sym (take_all x row past) ∙ same ∙ take_all x (numbers_of_pairs bytes) (omega (arith, few, past))

-- one number more is that of another list, and all of them
pub more_same : (row xs : List ℕ) (x value : ℕ) → length xs ≡ length row → x < length row → value ≡ get_or xs x 0 → take x row ≡ take x xs → take (suc x) (set row x value) ≡ take (suc x) xs
more_same row xs x value long inside is before =
    take-suc-set row x value inside ∙ ap (λ ys. ys ++ (value ∷ [])) before ∙ ap (λ n. take x xs ++ (n ∷ [])) is
    ∙ sym (take-suc xs x 0 (omega (arith, long, inside)))

pub all_same : (row xs : List ℕ) (x : ℕ) → length xs ≡ length row → length row ≤ x → take x row ≡ take x xs → row ≡ xs
all_same row xs x long past same = sym (take_all x row past) ∙ same ∙ take_all x xs (omega (arith, long, past))
