-- Whether configurations are equal, value by value, and that these tests decide it.
use Rattle.std.specs.Prelude.{◌≡◌, ℕ, Bool, true, false, ◌&&◌, ◌==◌, nat_eq, List, ℤ}
use Rattle.std.specs.Ordering.{int_eq}
use mathlib.Core.Path.{refl, sym, ap, ◌∙◌}
use mathlib.Core.Bool.{true≢false}
use lib.Pointwise.{pointwise, pointwise_decides}
use Rattle.std.specs.Cmp.{unsigned_Decides, signed_Decides, decided, IsEquivalence}
use Rattle.std.proofs.Common.{Decides}
use Rattle.std.proofs.lemmas.Bool.Decides.{Decides-and, Decides-like}
use Rattle.ffv1_plane.specs.Quantisation.{Set}
use Rattle.ffv1_record.specs.declared.config.Coder.{Coder}
use Rattle.ffv1_record.specs.declared.config.Coder.TheVariants as coder
use Rattle.ffv1_record.specs.Accepted.{is_rice}
use Rattle.ffv1_record.specs.declared.config.Colour.{Colour}
use Rattle.ffv1_record.specs.declared.config.Colour.TheVariants as colour
use Rattle.ffv1_record.specs.declared.config.Profile.{Profile}
use Rattle.ffv1_record.specs.declared.config.Profile.TheVariants as profile
use Rattle.ffv1_record.specs.Accepted.{Accepted}
use Rattle.ffv1_record.specs.Configuration.{Configuration, is_rct}

abbrev pub is_same_truth : Bool → Bool → Bool
is_same_truth true true = true
is_same_truth true false = false
is_same_truth false true = false
is_same_truth false false = true

abbrev pub is_same_colour : Colour → Colour → Bool
is_same_colour colour.YCbCr colour.YCbCr = true
is_same_colour colour.YCbCr colour.Rct = false
is_same_colour colour.Rct colour.YCbCr = false
is_same_colour colour.Rct colour.Rct = true

abbrev pub is_same_profile : Profile → Profile → Bool
is_same_profile profile.Strict profile.Strict = true
is_same_profile profile.Strict profile.Wide = false
is_same_profile profile.Wide profile.Strict = false
is_same_profile profile.Wide profile.Wide = true

abbrev pub is_same_coder : Coder → Coder → Bool
is_same_coder coder.Rice coder.Rice = true
is_same_coder coder.Rice coder.One = false
is_same_coder coder.Rice (coder.Two ds) = false
is_same_coder coder.One coder.Rice = false
is_same_coder coder.One coder.One = true
is_same_coder coder.One (coder.Two ds) = false
is_same_coder (coder.Two ds) coder.Rice = false
is_same_coder (coder.Two ds) coder.One = false
is_same_coder (coder.Two ds) (coder.Two es) = pointwise int_eq ds es

-- the same runs of the same tables, one set after the other
abbrev pub are_same_sets : List Set → List Set → Bool
are_same_sets = pointwise (pointwise (pointwise nat_eq))

-- the size of the pictures and the slices
abbrev pub is_same_grid : Configuration → Configuration → Bool
is_same_grid c d =
    c.width == d.width && (c.height == d.height && (c.columns == d.columns && c.rows == d.rows))

-- colour and chroma
abbrev pub are_same_planes : Configuration → Configuration → Bool
are_same_planes c d =
    is_same_colour c.colour d.colour
    && (is_same_truth c.chroma_planes d.chroma_planes
    && (is_same_truth c.extra_plane d.extra_plane
    && (c.log2_h == d.log2_h && c.log2_v == d.log2_v)))

-- the state transition table, the sets and the two flags
abbrev pub is_same_coding : Configuration → Configuration → Bool
is_same_coding c d =
    is_same_coder c.coder d.coder
    && (are_same_sets c.sets d.sets && (is_same_truth c.ec d.ec && is_same_truth c.intra d.intra))

abbrev pub is_same : Configuration → Configuration → Bool
is_same c d =
    c.depth == d.depth && (is_same_grid c d && (are_same_planes c d && is_same_coding c d))

-- a profile and a configuration, which determine what was checked
abbrev pub profiled_of : Accepted → Profile × Configuration
profiled_of a = (a.profile, a.configuration)

abbrev pub is_same_profiled : Profile × Configuration → Profile × Configuration → Bool
is_same_profiled x y = is_same_profile x.0 y.0 && is_same x.1 y.1

abbrev pub is_same_checked : Accepted → Accepted → Bool
is_same_checked a b = is_same_profiled (profiled_of a) (profiled_of b)

-- ---- each decides whether two values are equal

pub same_truth : (a b : Bool) → Decides (is_same_truth a b) (a ≡ b)
same_truth true true = (λ e. refl, λ e. refl)
same_truth true false = (λ e. sym e, λ e. sym e)
same_truth false true = (λ e. e, λ e. e)
same_truth false false = (λ e. refl, λ e. refl)

pub same_colour : (a b : Colour) → Decides (is_same_colour a b) (a ≡ b)
same_colour colour.YCbCr colour.YCbCr = (λ e. refl, λ e. refl)
same_colour colour.YCbCr colour.Rct = (λ e. absurd (true≢false (sym e)), λ e. ap is_rct e)
same_colour colour.Rct colour.YCbCr = (λ e. absurd (true≢false (sym e)), λ e. sym (ap is_rct e))
same_colour colour.Rct colour.Rct = (λ e. refl, λ e. refl)

is_wide : Profile → Bool
is_wide profile.Strict = false
is_wide profile.Wide = true

pub same_profile : (a b : Profile) → Decides (is_same_profile a b) (a ≡ b)
unfolding is_wide
same_profile profile.Strict profile.Strict = (λ e. refl, λ e. refl)
same_profile profile.Strict profile.Wide = (λ e. absurd (true≢false (sym e)), λ e. ap is_wide e)
same_profile profile.Wide profile.Strict =
    (λ e. absurd (true≢false (sym e)), λ e. sym (ap is_wide e))
same_profile profile.Wide profile.Wide = (λ e. refl, λ e. refl)

deltas_in : List ℤ → Coder → List ℤ
deltas_in none coder.Rice = none
deltas_in none coder.One = none
deltas_in none (coder.Two ds) = ds

has_deltas : Coder → Bool
has_deltas coder.Rice = false
has_deltas coder.One = false
has_deltas (coder.Two ds) = true

pub same_coder : (a b : Coder) → Decides (is_same_coder a b) (a ≡ b)
unfolding deltas_in has_deltas
same_coder coder.Rice coder.Rice = (λ e. refl, λ e. refl)
same_coder coder.Rice coder.One = (λ e. absurd (true≢false (sym e)), λ e. sym (ap is_rice e))
same_coder coder.Rice (coder.Two es) = (λ e. absurd (true≢false (sym e)), λ e. ap has_deltas e)
same_coder coder.One coder.Rice = (λ e. absurd (true≢false (sym e)), λ e. ap is_rice e)
same_coder coder.One coder.One = (λ e. refl, λ e. refl)
same_coder coder.One (coder.Two es) = (λ e. absurd (true≢false (sym e)), λ e. ap has_deltas e)
same_coder (coder.Two ds) coder.Rice =
    (λ e. absurd (true≢false (sym e)), λ e. sym (ap has_deltas e))
same_coder (coder.Two ds) coder.One = (λ e. absurd (true≢false (sym e)), λ e. sym (ap has_deltas e))
same_coder (coder.Two ds) (coder.Two es) =
    Decides-like (pointwise int_eq ds es) (λ e. ap coder.Two e)
    (λ e. ap (deltas_in ds) e) (pointwise_decides signed_Decides ds es)

pub same_sets : (ss zs : List Set) → Decides (are_same_sets ss zs) (ss ≡ zs)
same_sets = pointwise_decides (pointwise_decides (pointwise_decides unsigned_Decides))

-- a configuration of its values
whole : ℕ → ℕ → Coder → Colour → Bool → Bool → ℕ → ℕ → ℕ → ℕ → List Set → Bool → Bool → ℕ →
    Configuration
whole x0 x1 x2 x3 x4 x5 x6 x7 x8 x9 x10 x11 x12 x13 =
    record {
      width = x0;
      height = x1;
      coder = x2;
      colour = x3;
      chroma_planes = x4;
      extra_plane =
          x5;
      log2_h = x6;
      log2_v = x7;
      columns = x8;
      rows = x9;
      sets = x10;
      ec = x11;
      intra = x12;
      depth = x13;
    }

all_same : (c d : Configuration) → c.width ≡ d.width → c.height ≡ d.height → c.coder ≡ d.coder →
    c.colour ≡ d.colour → c.chroma_planes ≡ d.chroma_planes → c.extra_plane ≡ d.extra_plane →
    c.log2_h ≡ d.log2_h → c.log2_v ≡ d.log2_v → c.columns ≡ d.columns → c.rows ≡ d.rows →
    c.sets ≡ d.sets → c.ec ≡ d.ec → c.intra ≡ d.intra → c.depth ≡ d.depth → c ≡ d
unfolding whole
all_same c d e0 e1 e2 e3 e4 e5 e6 e7 e8 e9 e10 e11 e12 e13 =
    ap (λ (z : ℕ). whole z c.height c.coder c.colour c.chroma_planes c.extra_plane c.log2_h
    c.log2_v c.columns c.rows c.sets c.ec c.intra c.depth) e0
    ∙ ap (λ (z : ℕ). whole d.width z c.coder c.colour c.chroma_planes c.extra_plane c.log2_h
    c.log2_v c.columns c.rows c.sets c.ec c.intra c.depth) e1
    ∙ ap (λ (z : Coder). whole d.width d.height z c.colour c.chroma_planes c.extra_plane c.log2_h
    c.log2_v c.columns c.rows c.sets c.ec c.intra c.depth) e2
    ∙ ap (λ (z : Colour). whole d.width d.height d.coder z c.chroma_planes c.extra_plane c.log2_h
    c.log2_v c.columns c.rows c.sets c.ec c.intra c.depth) e3
    ∙ ap (λ (z : Bool). whole d.width d.height d.coder d.colour z c.extra_plane c.log2_h c.log2_v
    c.columns c.rows c.sets c.ec c.intra c.depth) e4
    ∙ ap (λ (z : Bool). whole d.width d.height d.coder d.colour d.chroma_planes z c.log2_h c.log2_v
    c.columns c.rows c.sets c.ec c.intra c.depth) e5
    ∙ ap (λ (z : ℕ). whole d.width d.height d.coder d.colour d.chroma_planes d.extra_plane z
    c.log2_v c.columns c.rows c.sets c.ec c.intra c.depth) e6
    ∙ ap (λ (z : ℕ). whole d.width d.height d.coder d.colour d.chroma_planes d.extra_plane d.log2_h
    z c.columns c.rows c.sets c.ec c.intra c.depth) e7
    ∙ ap (λ (z : ℕ). whole d.width d.height d.coder d.colour d.chroma_planes d.extra_plane d.log2_h
    d.log2_v z c.rows c.sets c.ec c.intra c.depth) e8
    ∙ ap (λ (z : ℕ). whole d.width d.height d.coder d.colour d.chroma_planes d.extra_plane d.log2_h
    d.log2_v d.columns z c.sets c.ec c.intra c.depth) e9
    ∙ ap (λ (z : List Set). whole d.width d.height d.coder d.colour d.chroma_planes d.extra_plane
    d.log2_h d.log2_v d.columns d.rows z c.ec c.intra c.depth) e10
    ∙ ap (λ (z : Bool). whole d.width d.height d.coder d.colour d.chroma_planes d.extra_plane
    d.log2_h d.log2_v d.columns d.rows d.sets z c.intra c.depth) e11
    ∙ ap (λ (z : Bool). whole d.width d.height d.coder d.colour d.chroma_planes d.extra_plane
    d.log2_h d.log2_v d.columns d.rows d.sets d.ec z c.depth) e12
    ∙ ap (λ (z : ℕ). whole d.width d.height d.coder d.colour d.chroma_planes d.extra_plane d.log2_h
    d.log2_v d.columns d.rows d.sets d.ec d.intra z) e13

pub same_configuration : (c d : Configuration) → Decides (is_same c d) (c ≡ d)
same_configuration c d =
    let grid = Decides-and (c.width == d.width) (c.height == d.height
    && (c.columns == d.columns && c.rows == d.rows)) (unsigned_Decides c.width d.width)
    (Decides-and (c.height == d.height) (c.columns == d.columns
    && c.rows == d.rows) (unsigned_Decides c.height d.height)
    (Decides-and (c.columns == d.columns) (c.rows == d.rows) (unsigned_Decides c.columns d.columns)
    (unsigned_Decides c.rows d.rows))) in
    let factors = Decides-and (c.log2_h == d.log2_h) (c.log2_v == d.log2_v) (unsigned_Decides
    c.log2_h d.log2_h) (unsigned_Decides c.log2_v d.log2_v) in
    let extra = Decides-and (is_same_truth c.extra_plane d.extra_plane) (c.log2_h == d.log2_h
    && c.log2_v == d.log2_v) (same_truth c.extra_plane d.extra_plane) factors in
    let chroma = Decides-and (is_same_truth c.chroma_planes d.chroma_planes) (is_same_truth
    c.extra_plane d.extra_plane
    && (c.log2_h == d.log2_h && c.log2_v == d.log2_v)) (same_truth c.chroma_planes
    d.chroma_planes) extra in
    let planes = Decides-and (is_same_colour c.colour d.colour) (is_same_truth c.chroma_planes
    d.chroma_planes && (is_same_truth c.extra_plane d.extra_plane
    && (c.log2_h == d.log2_h && c.log2_v == d.log2_v))) (same_colour c.colour d.colour) chroma
    in
    let flags = Decides-and (is_same_truth c.ec d.ec) (is_same_truth c.intra d.intra) (same_truth
    c.ec d.ec) (same_truth c.intra d.intra) in
    let sets = Decides-and (are_same_sets c.sets d.sets) (is_same_truth c.ec d.ec
    && is_same_truth c.intra d.intra) (same_sets c.sets d.sets) flags in
    let coding = Decides-and (is_same_coder c.coder d.coder) (are_same_sets c.sets d.sets
    && (is_same_truth c.ec d.ec
    && is_same_truth c.intra d.intra)) (same_coder c.coder d.coder) sets in
    let all = Decides-and (c.depth == d.depth) (is_same_grid c d
    && (are_same_planes c d && is_same_coding c d)) (unsigned_Decides c.depth d.depth) (Decides-and
    (is_same_grid c d) (are_same_planes c d
    && is_same_coding c d) grid (Decides-and (are_same_planes c d) (is_same_coding c d) planes
    coding)) in
    Decides-like (is_same c d)
    (λ h. all_same c d h.1.0.0 h.1.0.1.0 h.1.1.1.0 h.1.1.0.0 h.1.1.0.1.0 h.1.1.0.1.1.0
    h.1.1.0.1.1.1.0 h.1.1.0.1.1.1.1 h.1.0.1.1.0 h.1.0.1.1.1 h.1.1.1.1.0 h.1.1.1.1.1.0
    h.1.1.1.1.1.1 h.0)
    (λ e. (
      ap (λ (z : Configuration). z.depth) e,
      (
        (
          ap (λ (z : Configuration). z.width) e,
          (
            ap (λ (z : Configuration). z.height) e,
            (ap (λ (z : Configuration). z.columns) e, ap (λ (z : Configuration). z.rows) e),
          ),
        ),
        (
          (
            ap (λ (z : Configuration). z.colour) e,
            (
              ap (λ (z : Configuration). z.chroma_planes) e,
              (
                ap (λ (z : Configuration). z.extra_plane) e,
                (ap (λ (z : Configuration). z.log2_h) e, ap (λ (z : Configuration). z.log2_v) e),
              ),
            ),
          ),
          (
            ap (λ (z : Configuration). z.coder) e,
            (
              ap (λ (z : Configuration). z.sets) e,
              (ap (λ (z : Configuration). z.ec) e, ap (λ (z : Configuration). z.intra) e),
            ),
          ),
        ),
      ),
    ))
    all

pub same_profiled : (x y : Profile × Configuration) → Decides (is_same_profiled x y) (x ≡ y)
same_profiled x y =
    Decides-like (is_same_profiled x y)
    (λ h. ap (λ (p : Profile). (p, x.1)) h.0 ∙ ap (λ (c : Configuration). (y.0, c)) h.1)
    (λ e. (
      ap (λ (z : Profile × Configuration). z.0) e,
      ap (λ (z : Profile × Configuration). z.1) e,
    ))
    (Decides-and (is_same_profile x.0 y.0) (is_same x.1 y.1) (same_profile x.0 y.0)
    (same_configuration x.1 y.1))

-- so each comparison is an equivalence
pub profile_equivalence : IsEquivalence is_same_profile
profile_equivalence = decided is_same_profile same_profile

pub profiled_equivalence : IsEquivalence is_same_profiled
profiled_equivalence = decided is_same_profiled same_profiled

pub coder_equivalence : IsEquivalence is_same_coder
coder_equivalence = decided is_same_coder same_coder

pub colour_equivalence : IsEquivalence is_same_colour
colour_equivalence = decided is_same_colour same_colour

pub sets_equivalence : IsEquivalence are_same_sets
sets_equivalence = decided are_same_sets same_sets

pub configuration_equivalence : IsEquivalence is_same
configuration_equivalence = decided is_same same_configuration
