-- Planes of a video are those of its configuration.
use Rattle.std.specs.Prelude.{◌≡◌, ℕ, ◌<◌, ◌*◌, ◌^◌, ◌==◌, ◌&&◌, nat_lt, if◌then◌else◌, Bool, true, false, List, [], ◌∷◌, length, map, take, ◌≤◌}
use Rattle.ffv1_record.specs.Configuration.{Configuration}
use Rattle.std.specs.Prelude.{Option, Some, None, IsSome, IsNone}
use Rattle.std.proofs.Common.{subst, arith, refl, sym, ◌∙◌, ap, ap₂, zero, suc, get_or}
use Rattle.std.proofs.lemmas.Nat.{pow_pos}
use Rattle.std.proofs.lemmas.Bool.{ltb-true, ne_eqb}
use Rattle.ffv1_slice.specs.Grid.{Division, division_of, across, down, whole_of, planes_in}
use Rattle.ffv1_slice.specs.Grid as grid
use Rattle.ffv1_codec.specs.Picture.{AreOf, Fits, Planes, plane}
use Rattle.ffv1_samples.specs.Samples.{AreBelow, all_below, are_in_depth, numbers_of_pairs, sample_bytes, samples_of}
use Rattle.ffv1_y4m.specs.VideoHead.{AreInDepth, Fits as VideoFits, plane_sizes, is_chroma, reduced}
use Rattle.ffv1_video.specs.Video.{SaidHead}
use Rattle.ffv1_y4m.specs.declared.head.VideoHead.{VideoHead}
use Rattle.ffv1_words.specs.declared.order.Choice.{Choice}
use Rattle.ffv1_pack.specs.Packing.{configuration_for}
use Rattle.ffv1_pack.specs.VideoReads.{IsHeadBy}

-- planes of so many samples each
long : (planes : Planes) (sizes : List ℕ) → map (λ p. length p) planes ≡ sizes → length planes ≡ length sizes
long [] [] e = refl
long [] (n ∷ ns) e = absurd (cc)
long (p ∷ ps) [] e = absurd (cc)
long (p ∷ ps) (n ∷ ns) e =
    let more : map (λ p. length p) ps ≡ ns = cc in
    ap suc (long ps ns more)

sized : (planes : Planes) (sizes : List ℕ) → map (λ p. length p) planes ≡ sizes → (p : ℕ) → p < length sizes → length (plane planes p) ≡ get_or sizes p 0
sized [] [] e p inside = absurd (omega (arith, inside))
sized [] (n ∷ ns) e p inside = absurd (cc)
sized (q ∷ qs) [] e p inside = absurd (cc)
sized (q ∷ qs) (n ∷ ns) e zero inside = cc
sized (q ∷ qs) (n ∷ ns) e (suc p) inside =
    let more : map (λ p. length p) qs ≡ ns = cc in
    sized qs ns more p (omega (arith, inside))

-- a size over no factor, and over one
whole : (n : ℕ) → grid.reduced 0 n ≡ n
unfolding grid.reduced
whole n = omega (arith)

over : (log2 n : ℕ) → grid.reduced log2 n ≡ reduced log2 n
unfolding grid.reduced
over log2 n = refl

picture : (d : Division) → d.width * d.height ≡ grid.reduced 0 d.width * grid.reduced 0 d.height
picture d = sym (ap₂ (λ x y. x * y) (whole d.width) (whole d.height))

chroma : (d : Division) → reduced d.log2_h d.width * reduced d.log2_v d.height ≡ grid.reduced d.log2_h d.width * grid.reduced d.log2_v d.height
chroma d = sym (ap₂ (λ x y. x * y) (over d.log2_h d.width) (over d.log2_v d.height))

-- the sizes of all planes of a division, of which there may be fewer
abbrev pub all_sizes : Division → List ℕ
all_sizes d = (d.width * d.height) ∷ (reduced d.log2_h d.width * reduced d.log2_v d.height) ∷ (reduced d.log2_h d.width * reduced d.log2_v d.height) ∷ (d.width * d.height) ∷ []

each : (d : Division) (p : ℕ) → p < 4 → get_or (all_sizes d) p 0 ≡ whole_of (across d p) * whole_of (down d p)
each d zero inside = picture d
each d (suc zero) inside = chroma d
each d (suc (suc zero)) inside = chroma d
each d (suc (suc (suc zero))) inside = picture d
each d (suc (suc (suc (suc p)))) inside = absurd (omega (arith, inside))

first : (xs : List ℕ) (n p : ℕ) → p < n → get_or (take n xs) p 0 ≡ get_or xs p 0
first [] zero p inside = refl
first [] (suc n) p inside = refl
first (x ∷ xs) zero p inside = absurd (omega (arith, inside))
first (x ∷ xs) (suc n) zero inside = refl
first (x ∷ xs) (suc n) (suc p) inside = first xs n p (omega (arith, inside))

few : (xs : List ℕ) (n : ℕ) → n ≤ length xs → length (take n xs) ≡ n
few xs zero h = refl
few [] (suc n) h = absurd (omega (arith, h))
few (x ∷ xs) (suc n) h = ap suc (few xs n (omega (arith, h)))

-- sizes in bytes
mapped_long : (k : ℕ) (xs : List ℕ) → length (map (λ n. k * n) xs) ≡ length xs
mapped_long k [] = refl
mapped_long k (x ∷ xs) = ap suc (mapped_long k xs)

scaled : (k : ℕ) (xs : List ℕ) (p : ℕ) → get_or (map (λ n. k * n) xs) p 0 ≡ k * get_or xs p 0
scaled k [] p = let none : 0 ≡ k * 0 = omega arith in none
scaled k (x ∷ xs) zero = refl
scaled k (x ∷ xs) (suc p) = scaled k xs p

once : (xs : List ℕ) → xs ≡ map (λ n. 1 * n) xs
once [] = refl
once (x ∷ xs) = let one : x ≡ 1 * x = omega arith in ap₂ (λ y ys. y ∷ ys) one (once xs)

bytes_by : (b : Bool) (xs : List ℕ) → (if b then xs else map (λ size. 2 * size) xs) ≡ map (λ n. (if b then 1 else 2) * n) xs
bytes_by true xs = once xs
bytes_by false xs = refl

divided : (d : Division) (planes : Planes) → d.planes ≤ 4 → map (λ p. length p) planes ≡ map (λ n. sample_bytes d.depth * n) (take d.planes (all_sizes d)) → AreOf d planes
divided d planes most e =
    let count = few (all_sizes d) d.planes most in
    let many = mapped_long (sample_bytes d.depth) (take d.planes (all_sizes d)) in record {
      count = long planes _ e ∙ many ∙ count;
      sizes = λ p inside.
          sized planes _ e p (omega (arith, inside, count, many)) ∙ scaled (sample_bytes d.depth) (take d.planes (all_sizes d)) p
          ∙ ap (λ n. sample_bytes d.depth * n) (first (all_sizes d) d.planes p inside ∙ each d p (omega (arith, inside, most)));
    }

-- samples of more than 8 bits that lie below 2 ^ depth
pub both : (a b : Bool) → (a && b) ≡ true → (a ≡ true) × (b ≡ true)
both true b h = (refl, h)
both false b h = absurd (cc)

below : (most : ℕ) (ns : List ℕ) → 0 < most → all_below most ns ≡ true → AreBelow most ns
below most [] some h i = some
below most (n ∷ ns) some h zero = ltb-true n most (both (nat_lt n most) (all_below most ns) h).0
below most (n ∷ ns) some h (suc i) = below most ns some (both (nat_lt n most) (all_below most ns) h).1 i

deep_plane : (depth : ℕ) (q : List ℕ) → (depth == 8) ≡ false → are_in_depth depth q ≡ true → AreBelow (2 ^ depth) (samples_of depth q)
deep_plane depth q two are =
    let tested : all_below (2 ^ depth) (numbers_of_pairs q) ≡ true = rw two at are in
    let same : samples_of depth q ≡ numbers_of_pairs q = rw two refl in
    subst (AreBelow (2 ^ depth)) (sym same) (below (2 ^ depth) (numbers_of_pairs q) (pow_pos depth) tested)

none_by : (b : Bool) → (if b then [] else numbers_of_pairs []) ≡ []
none_by true = refl
none_by false = refl

deep_planes : (depth : ℕ) (ps : Planes) → (depth == 8) ≡ false → AreInDepth depth ps → (p : ℕ) → AreBelow (2 ^ depth) (samples_of depth (plane ps p))
deep_planes depth [] two are p = subst (AreBelow (2 ^ depth)) (sym (none_by (depth == 8))) (λ i. pow_pos depth)
deep_planes depth (q ∷ qs) two are zero = deep_plane depth q two are.0
deep_planes depth (q ∷ qs) two are (suc p) = deep_planes depth qs two are.1 p

-- transparency comes with chroma alone
alone : (planes : Bool) (log2_h log2_v : ℕ) (extra : Bool) → is_chroma planes log2_h log2_v extra ≡ true → planes ≡ false → extra ≡ false
alone true log2_h log2_v extra e f = absurd (cc)
alone false log2_h log2_v false e f = refl
alone false zero zero true e f = absurd (cc)
alone false zero (suc n) true e f = absurd (cc)
alone false (suc m) n true e f = absurd (cc)

head_alone : (ppm : Bool) (h : VideoHead) → IsHeadBy ppm h → h.chroma_planes ≡ false → h.extra_plane ≡ false
head_alone true h is f = rw is.1 refl
head_alone false h is f = alone h.chroma_planes h.log2_h h.log2_v h.extra_plane is.chroma f

few_planes : (chroma extra : Bool) → planes_in chroma extra ≤ 4
few_planes chroma true = omega (arith)
few_planes true false = omega (arith)
few_planes false false = omega (arith)

sizes_by : (b e : Bool) (h : VideoHead) (d : Division) → h.chroma_planes ≡ b → h.extra_plane ≡ e → (b ≡ false → e ≡ false) → d.width ≡ h.width → d.height ≡ h.height → d.log2_h ≡ h.log2_h → d.log2_v ≡ h.log2_v → plane_sizes h ≡ take (planes_in b e) (all_sizes d)
sizes_by true true h d b e o x y z w = rw (b, e, x, y, z, w) refl
sizes_by true false h d b e o x y z w = rw (b, e, x, y, z, w) refl
sizes_by false true h d b e o x y z w = absurd (let wrong : true ≡ false = o refl in cc)
sizes_by false false h d b e o x y z w = rw (b, x, y) refl

pub fits : (choice : Choice) (ppm : Bool) (h : SaidHead) (planes : Planes) → IsHeadBy ppm h.head → VideoFits h.depth h.head planes → AreInDepth h.depth planes → Fits (configuration_for choice ppm h) planes
fits choice ppm h planes is f small =
    let d = division_of (configuration_for choice ppm h) in
    let sizes : map (λ p. length p) planes ≡ map (λ n. sample_bytes h.depth * n) (plane_sizes h.head) = f ∙ bytes_by (h.depth == 8) (plane_sizes h.head) in record {
      are = divided d planes (few_planes h.head.chroma_planes h.head.extra_plane)
          (sizes ∙ ap (λ xs. map (λ n. sample_bytes h.depth * n) xs) (sizes_by h.head.chroma_planes h.head.extra_plane h.head d refl refl (head_alone ppm h.head is) refl refl refl refl));
      small = λ deep. deep_planes h.depth planes (ne_eqb h.depth 8 deep) small;
    }

-- so a picture of them is made
pub is_made : {X : Type 0} (choice : Choice) (ppm : Bool) (h : SaidHead) (c : Configuration) (planes lent : Planes) (made : Option X) → IsHeadBy ppm h.head → c ≡ configuration_for choice ppm h → lent ≡ planes →
    VideoFits h.depth h.head planes → AreInDepth h.depth planes → (IsNone made → Fits c lent → ⊥) → IsSome made
is_made choice ppm h c planes lent (Some x) is e same f small none = refl
is_made choice ppm h c planes lent None is e same f small none =
    absurd (none refl (subst (λ k. Fits k lent) (sym e) (subst (λ l. Fits (configuration_for choice ppm h) l) (sym same) (fits choice ppm h planes is f small))))
