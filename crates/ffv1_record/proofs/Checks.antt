-- What the checks of a configuration say of its numbers.
use Rattle.std.proofs.Common.{◌≡◌, refl, sym, subst, ◌⊎◌, ℕ, zero, suc, ◌<◌, ◌≤◌, inl, inr, Bool, true, false, ◌&&◌, ◌||◌, not, ◌==◌, nat_le, IsTrue, IsFalse, rules, arith, List, ap, ◌^◌, ℤ, pos, negsuc}
use Rattle.std.specs.Int.{w32}
use mir.Val.{SFits}
use Rattle.std.proofs.Math.IntN.{nat_abs}
use Rattle.std.proofs.lemmas.Int.{ints}
use Rattle.std.proofs.lemmas.Bool.{le-leb, leb-true, eqb-true, cases_eq}
use Rattle.std.proofs.lemmas.Bool.Decides.{nat_tests}
use Rattle.ffv1_range.specs.Table.{Table}
use Rattle.ffv1_range.specs.Deltas.{IsTableOf, HaveNoTable}
use Rattle.ffv1_record.specs.Configuration.{Configuration, is_rct}
use Rattle.ffv1_record.specs.Record.{depth_of}
use Rattle.ffv1_record.specs.Accepted.{is_sized, is_depth, deepest, is_subsampled, is_divided}
use Rattle.ffv1_record.specs.Accepted.{has_depth, IsFirstUpTo, IsFirstWhere, PassesAll, checks}
use Rattle.ffv1_record.specs.Accepted.{type_of, least_coder, suits_depth, has_coder}
use Rattle.ffv1_record.specs.declared.config.Coder.{Coder}
use Rattle.ffv1_record.specs.declared.config.Coder.TheVariants as coder
use Rattle.ffv1_record.specs.declared.fault.RecordFault.TheVariants as fault
use Rattle.ffv1_record.specs.declared.config.Profile.{Profile}
use Rattle.ffv1_record.specs.declared.config.Profile.TheVariants as profile

pub both : (a b : Bool) → IsTrue (a && b) → IsTrue a × IsTrue b
both true b h = (refl, h)
both false b h = absurd (search rules)

pub not_true : (b : Bool) → IsFalse b → IsTrue b → ⊥
not_true true f t = search rules
not_true false f t = search rules

-- sizes are at most 8192
pub record Sized (c : Configuration) : Type 0 where
  pub some_wide : 1 ≤ c.width
  pub wide : c.width ≤ 8192
  pub some_high : 1 ≤ c.height
  pub high : c.height ≤ 8192

pub sized : (c : Configuration) → IsTrue (is_sized c) → Sized c
sized c h =
    let halves = both (nat_le 1 c.width && nat_le c.width 8192) (nat_le 1 c.height && nat_le c.height 8192) h in
    let wide = both (nat_le 1 c.width) (nat_le c.width 8192) halves.0 in
    let high = both (nat_le 1 c.height) (nat_le c.height 8192) halves.1 in
    record {
      some_wide = leb-true 1 c.width wide.0;
      wide = leb-true c.width 8192 wide.1;
      some_high = leb-true 1 c.height high.0;
      high = leb-true c.height 8192 high.1;
    }

-- a depth is from 8 to 16, and 16 is without RCT
pub depth_bounds : (most : ℕ) (n : ℕ) → IsTrue (is_depth most n) → (8 ≤ n) × (n ≤ 16) × (n ≤ most)
depth_bounds most n h =
    let parts = both (nat_le n most) ((n == 8) || (n == 9) || (n == 10) || (n == 12) || (n == 14) || (n == 16)) h in
    (least n parts.1, greatest n parts.1, leb-true n most parts.0)
  where
    least : (n : ℕ) → IsTrue ((n == 8) || (n == 9) || (n == 10) || (n == 12) || (n == 14) || (n == 16)) → 8 ≤ n
    least n h = grind (arith, nat_tests)

    greatest : (n : ℕ) → IsTrue ((n == 8) || (n == 9) || (n == 10) || (n == 12) || (n == 14) || (n == 16)) → n ≤ 16
    greatest n h = grind (arith, nat_tests)

-- a depth is one up to each greatest one that it does not pass
pub depth_up_to : (most other : ℕ) (n : ℕ) → IsTrue (is_depth most n) → n ≤ other → IsTrue (is_depth other n)
depth_up_to most other n h low = rw (le-leb n other low) (both (nat_le n most) ((n == 8) || (n == 9) || (n == 10) || (n == 12) || (n == 14) || (n == 16)) h).1

-- a depth of a profile is at most the greatest one that the profile has
pub deepest_few : (p : Profile) (most : ℕ) (n : ℕ) → IsTrue (is_depth (deepest p most) n) → n ≤ deepest p 16
deepest_few profile.Strict most n h = (depth_bounds 8 n h).2
deepest_few profile.Wide most n h = (depth_bounds most n h).1

-- the bits of a depth, and the depth of bits
pub depth_known : (bits depth : ℕ) → depth_of bits ≡ depth → (bits ≡ depth) ⊎ ((bits ≡ 0) × (depth ≡ 8))
depth_known zero depth is = inr (refl, sym is)
depth_known (suc n) depth is = inl is

pub known_depth : (bits depth : ℕ) → (bits ≡ depth) ⊎ ((bits ≡ 0) × (depth ≡ 8)) → 8 ≤ depth → depth_of bits ≡ depth
known_depth zero depth known deep = elim known [
  | inl none ↦ absurd (omega arith)
  | inr eight ↦ sym eight.1
]
known_depth (suc n) depth known deep = elim known [
  | inl is ↦ is
  | inr none ↦ absurd (omega (arith, none.0))
]

-- bits that stand for a depth are at most that depth
pub bits_few : (bits : ℕ) → bits ≤ depth_of bits
bits_few zero = omega arith
bits_few (suc n) = omega arith

-- columns and rows are from 1 to 32
pub record Divided (c : Configuration) : Type 0 where
  pub some_columns : 1 ≤ c.columns
  pub columns : c.columns ≤ 32
  pub some_rows : 1 ≤ c.rows
  pub rows : c.rows ≤ 32

pub divided : (c : Configuration) → IsTrue (is_divided c) → Divided c
divided c h =
    let halves = both (nat_le 1 c.columns && (nat_le c.columns 32 && nat_le c.columns c.width)) (nat_le 1 c.rows && (nat_le c.rows 32 && nat_le c.rows c.height)) h in
    let columns = both (nat_le 1 c.columns) (nat_le c.columns 32 && nat_le c.columns c.width) halves.0 in
    let rows = both (nat_le 1 c.rows) (nat_le c.rows 32 && nat_le c.rows c.height) halves.1 in
    record {
      some_columns = leb-true 1 c.columns columns.0;
      columns = leb-true c.columns 32 (both (nat_le c.columns 32) (nat_le c.columns c.width) columns.1).0;
      some_rows = leb-true 1 c.rows rows.0;
      rows = leb-true c.rows 32 (both (nat_le c.rows 32) (nat_le c.rows c.height) rows.1).0;
    }

-- factors are at most 4
pub record Subsampled (c : Configuration) : Type 0 where
  pub log2_h : c.log2_h ≤ 2
  pub log2_v : c.log2_v ≤ 2

pub subsampled : (c : Configuration) → IsTrue (is_subsampled c) → Subsampled c
subsampled c h =
    let few = both (nat_le c.log2_h 2 && nat_le c.log2_v 2) ((c.chroma_planes || not (is_rct c.colour)) && ((c.chroma_planes && not (is_rct c.colour)) || (c.log2_h == 0 && c.log2_v == 0))) h in
    let each = both (nat_le c.log2_h 2) (nat_le c.log2_v 2) few.0 in
    record { log2_h = leb-true c.log2_h 2 each.0; log2_v = leb-true c.log2_v 2 each.1 }

-- deltas that make no table make none
pub no_table : (deltas : List ℤ) (t : Table) → HaveNoTable deltas → IsTableOf deltas t → ⊥
no_table deltas t none is = elim none [
  | inl least ↦ is.sound least.0 least.1.0 least.1.1
  | inr none ↦ none t.floor is.floor
]

-- a number of 32 bits that is not the least has a symbol
pub small_delta : (d : ℤ) → SFits w32 d → (d ≡ negsuc 2147483647 → ⊥) → nat_abs d < 2 ^ 31
small_delta (pos n) fits other = omega (arith, ints, fits)
small_delta (negsuc n) fits other = elim (cases_eq n 2147483647) [
  | inl same ↦ absurd (other (ap negsuc same))
  | inr apart ↦ omega (arith, ints, fits)
]

-- parts are at most as many as there are samples
pub fits_grid : (c : Configuration) → IsTrue (is_divided c) → (c.columns ≤ c.width) × (c.rows ≤ c.height)
fits_grid c h =
    let halves = both (nat_le 1 c.columns && (nat_le c.columns 32 && nat_le c.columns c.width)) (nat_le 1 c.rows && (nat_le c.rows 32 && nat_le c.rows c.height)) h in
    let columns = both (nat_le 1 c.columns) (nat_le c.columns 32 && nat_le c.columns c.width) halves.0 in
    let rows = both (nat_le 1 c.rows) (nat_le c.rows 32 && nat_le c.rows c.height) halves.1 in
    (leb-true c.columns c.width (both (nat_le c.columns 32) (nat_le c.columns c.width) columns.1).1, leb-true c.rows c.height (both (nat_le c.rows 32) (nat_le c.rows c.height) rows.1).1)

pub counted : (n : ℕ) → IsTrue (nat_le 1 n && nat_le n 8) → (1 ≤ n) × (n ≤ 8)
counted n h =
    let parts = both (nat_le 1 n) (nat_le n 8) h in
    (leb-true 1 n parts.0, leb-true n 8 parts.1)

-- a size that is not accepted is the first fault, and then a depth
pub first_size : (p : Profile) (most : ℕ) (c : Configuration) → IsFalse (is_sized c) → IsFirstUpTo p most c fault.Size
first_size p most c none = by (has_depth most c)
  where
    by : (b : Bool) → IsFirstWhere p b c fault.Size
    by true = inl (not_true (is_sized c) none, refl)
    by false = inl (not_true (is_sized c) none, refl)

pub first_depth : (p : Profile) (most : ℕ) (c : Configuration) → IsTrue (is_sized c) → IsFalse (has_depth most c) → IsFirstUpTo p most c fault.Depth
first_depth p most c size none = subst (λ b. IsFirstWhere p b c fault.Depth) (sym none) (inr (size, refl))

-- a profile has no coder below its least one, and Golomb-Rice coded samples have 8 bits
pub kind_allowed : (p : Profile) (c : Configuration) → IsTrue (has_coder p c) → least_coder p ≤ type_of c.coder
kind_allowed p c h = leb-true (least_coder p) (type_of c.coder) (both (nat_le (least_coder p) (type_of c.coder)) (suits_depth c.coder c.depth) h).0

pub passed_coder : (p : Profile) (c : Configuration) → PassesAll p checks c → IsTrue (has_coder p c)
passed_coder p c passes = passes.1.1.1.1.1.1.1.0

pub rice_shallow : (p : Profile) (c : Configuration) → IsTrue (has_coder p c) → c.coder ≡ coder.Rice → c.depth ≡ 8
rice_shallow p c h is =
    let suits = (both (nat_le (least_coder p) (type_of c.coder)) (suits_depth c.coder c.depth) h).1 in
    eqb-true c.depth 8 (subst (λ (z : Coder). IsTrue (suits_depth z c.depth)) is suits)

pub never_strict : (c : Configuration) → IsTrue (has_coder profile.Strict c) → c.coder ≡ coder.Rice → ⊥
never_strict c h is =
    let least = kind_allowed profile.Strict c h in
    let none : type_of c.coder ≡ 0 = ap type_of is in
    omega (arith, least, none)

-- a coder of `Strict` is one of `Wide`
pub coder_wide : (c : Configuration) → IsTrue (has_coder profile.Strict c) → IsTrue (has_coder profile.Wide c)
coder_wide c h =
    let suits = (both (nat_le 1 (type_of c.coder)) (suits_depth c.coder c.depth) h).1 in
    rw (le-leb 0 (type_of c.coder) (omega arith)) suits

pub least_few : (p : Profile) → least_coder p ≤ 2
least_few profile.Strict = omega arith
least_few profile.Wide = omega arith
