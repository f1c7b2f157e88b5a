-- Lines of cells in their planes.
use Rattle.std.proofs.Common.{◌≡◌, ℕ, suc, ◌+◌, ◌*◌, ◌/◌, ◌%◌, ◌^◌, ◌<◌, ◌≤◌, List, length, get_or, take, drop, sym, ◌∙◌, ap, arith, subst}
use Rattle.std.proofs.Math.Nat.{mul-le-mul_left}
use Rattle.std.proofs.lemmas.List.{get_or-take, get_or-drop, length-map}
use Rattle.std.specs.declared.vec.Vec.{Vec}
use Rattle.ffv1_samples.specs.Samples.{AreBelow, sample_bytes, samples_of}
use Rattle.ffv1_record.specs.Configuration.{Configuration}
use Rattle.ffv1_slice.specs.Grid.{Division, IsDivision, slices_in, first_of, coded_of, whole_of, division_of, across, down}
use Rattle.ffv1_frame.specs.Picture.{Planes, planes_of, plane, AreOf, IsPicture}
use Rattle.ffv1_encode.specs.Internal.CellRows.{IsLine}
use Rattle.ffv1_frame.specs.Windows.{window}
use Rattle.ffv1_frame.proofs.lemmas.WrittenParts.{window_long}
use Rattle.ffv1_frame.proofs.lemmas.picture.Words.{window_samples, window_small, picture_small}
use Rattle.ffv1_frame.proofs.lemmas.picture.Lines.{Sides, column_inside, plane_of, row_inside}

-- a line of a rectangle ends inside a plane
pub line_inside : (top y width left wide height : ℕ) → top + y < height → left + wide ≤ width → (top + y) * width + left + wide ≤ width * height
line_inside top y width left wide height high across =
    let more = mul-le-mul_left {m = suc (top + y)} {n = height} width high in
    omega (arith, more, across)

-- so many samples of bytes from a position on
part_long : (b start wide long : ℕ) → b * (start + wide) ≤ long → b * start + b * wide ≤ long
part_long b start wide long fits = omega (arith, fits)

pub is_line : (c : Configuration) (planes : Planes) (n p y : ℕ) (samples line : List ℕ) → samples ≡ plane planes p →
    (let d = division_of c in let s = across d p in let k = n % c.columns in let begin = (first_of (down d p) (n / c.columns) + y) * whole_of s + first_of s k in
    (sample_bytes c.depth * (begin + coded_of s k) ≤ length samples) → line ≡ take (sample_bytes c.depth * coded_of s k) (drop (sample_bytes c.depth * begin) samples) → IsLine c planes n p y line)
is_line c planes n p y samples line is inside same =
    let s = across (division_of c) p in
    let k = n % c.columns in
    let wide : ℕ = coded_of s k in
    let start : ℕ = (first_of (down (division_of c) p) (n / c.columns) + y) * whole_of s + first_of s k in
    let room = part_long (sample_bytes c.depth) start wide (length samples) inside in
    record {
      wide = ap length same ∙ window_long (sample_bytes c.depth * start) (sample_bytes c.depth * wide) samples room;
      each = λ x here.
          let place : start + x ≡ (first_of (down (division_of c) p) (n / c.columns) + y) * whole_of s + (first_of s k + x) = omega arith in
          ap (λ (l : List ℕ). get_or (samples_of c.depth l) x 0) same
          ∙ ap (λ (l : List ℕ). get_or l x 0) (window_samples c.depth start wide samples)
          ∙ get_or-take wide (drop start (samples_of c.depth samples)) x 0 here ∙ get_or-drop start (samples_of c.depth samples) x 0
          ∙ ap (λ (l : List ℕ). get_or (samples_of c.depth l) (start + x) 0) is ∙ ap (λ m. get_or (samples_of c.depth (plane planes p)) m 0) place;
    }

-- a line of a cell ends inside its plane
pub cell_inside : (d : Division) (n p y : ℕ) → Sides → IsDivision d → n < slices_in d → y < coded_of (down d p) (n / d.columns) →
    (first_of (down d p) (n / d.columns) + y) * whole_of (across d p) + first_of (across d p) (n % d.columns) + coded_of (across d p) (n % d.columns) ≤ whole_of (across d p) * whole_of (down d p)
cell_inside d n p y laws is inside high =
    let column = column_inside n d.columns d.rows is.some_columns in
    let row = row_inside n d.columns d.rows is.some_columns inside in
    let wide = laws.across d p is in
    let tall = laws.down d p is in
    let right = laws.ends (across d p) (n % d.columns) wide column in
    let low = laws.ends (down d p) (n / d.columns) tall row in
    line_inside (first_of (down d p) (n / d.columns)) y (whole_of (across d p)) (first_of (across d p) (n % d.columns)) (coded_of (across d p) (n % d.columns)) (whole_of (down d p))
    (omega (arith, high, low)) right

-- where a cell lies, by a division that is a configuration's
pub record Lay (e : Division) (n p left top wide whole : ℕ) : Type 0 where
  pub left_is : left ≡ first_of (across e p) (n % e.columns)
  pub top_is : top ≡ first_of (down e p) (n / e.columns)
  pub wide_is : wide ≡ coded_of (across e p) (n % e.columns)
  pub whole_is : whole ≡ whole_of (across e p)

-- its line ends inside its plane
pub lay_inside : (c : Configuration) (planes : Planes) (e : Division) (n p y left top wide whole : ℕ) (samples : List ℕ) → Sides → IsDivision e → e ≡ division_of c → Lay e n p left top wide whole →
    n < c.columns * c.rows → y < coded_of (down (division_of c) p) (n / c.columns) → length (plane planes p) ≡ sample_bytes c.depth * (whole_of (across (division_of c) p) * whole_of (down (division_of c) p)) → samples ≡ plane planes p →
    sample_bytes c.depth * ((top + y) * whole + left + wide) ≤ length samples
lay_inside c planes e n p y left top wide whole samples laws is same lay inside high size samples_are =
    let d : Division = division_of c in
    let lay : Lay d n p left top wide whole = subst (λ f. Lay f n p left top wide whole) same lay in
    let fits = cell_inside d n p y laws (subst IsDivision same is) inside high in
    let all = mul-le-mul_left (sample_bytes c.depth) fits in
    rw (lay.left_is, lay.top_is, lay.wide_is, lay.whole_is, samples_are, size) all

-- and is its line
pub lay_line : (c : Configuration) (planes : Planes) (e : Division) (n p y left top wide whole : ℕ) (samples line : List ℕ) → e ≡ division_of c → Lay e n p left top wide whole → samples ≡ plane planes p →
    sample_bytes c.depth * ((top + y) * whole + left + wide) ≤ length samples → line ≡ take (sample_bytes c.depth * wide) (drop (sample_bytes c.depth * ((top + y) * whole + left)) samples) → IsLine c planes n p y line
lay_line c planes e n p y left top wide whole samples line same lay samples_are inside line_is =
    let d : Division = division_of c in
    let lay : Lay d n p left top wide whole = subst (λ f. Lay f n p left top wide whole) same lay in
    is_line c planes n p y samples line samples_are
    (rw (lay.left_is, lay.top_is, lay.wide_is, lay.whole_is) at inside) (rw (lay.left_is, lay.top_is, lay.wide_is, lay.whole_is) at line_is)

-- the samples of a plane that was lent
pub lent : {A : Type 0} (planes : Planes) (vs : List (Vec ℕ A)) (p : ℕ) (v : Vec ℕ A) (d : Division) (samples : List ℕ) → planes ≡ planes_of vs → AreOf d planes → p < d.planes → v ≡ get_or vs p v → samples ≡ v.items →
    samples ≡ plane planes p
lent planes vs p v d samples is are inside v_is samples_is =
    let count : length vs ≡ length (planes_of vs) = sym (length-map _ _) in
    let inside : p < length vs = omega (arith, inside, count, ap length is, are.count) in
    samples_is ∙ sym (plane_of vs p v inside v_is) ∙ ap (λ ps. plane ps p) (sym is)

-- the samples of a line of a picture have no more bits than its depth
pub line_small : (c : Configuration) (planes : Planes) (p b start wide : ℕ) (samples line : List ℕ) → IsPicture c planes → b ≡ sample_bytes c.depth → samples ≡ plane planes p →
    line ≡ take (b * wide) (drop (b * start) samples) → AreBelow (2 ^ c.depth) (samples_of c.depth line)
line_small c planes p b start wide samples line picture b_is is same =
    let size = sample_bytes c.depth in
    let whole = plane planes p in
    let part : line ≡ window (size * start) (size * wide) whole = same ∙ ap (λ k. take (k * wide) (drop (k * start) samples)) b_is ∙ ap (λ xs. take (size * wide) (drop (size * start) xs)) is in
    subst (λ xs. AreBelow (2 ^ c.depth) (samples_of c.depth xs)) (sym part)
    (subst (AreBelow (2 ^ c.depth)) (sym (window_samples c.depth start wide whole)) (window_small (2 ^ c.depth) start wide (samples_of c.depth whole) (picture_small c planes picture p)))
