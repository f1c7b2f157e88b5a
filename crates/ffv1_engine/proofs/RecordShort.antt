-- The record of a configuration that is packed is short, and of bytes.
use Rattle.std.proofs.Common.{◌≡◌, refl, ℕ, zero, suc, ◌+◌, ◌-◌, ◌*◌, ◌^◌, ◌<◌, ◌≤◌, inl, inr, Bool, true, false, if◌then◌else◌, ◌&&◌, nat_le, nat_lt, List, [], ◌∷◌, ◌++◌, length, replicate, pos, ap, arith, length-append}
use Rattle.std.proofs.Math.Pow.{pow_mono}
use Rattle.std.proofs.lemmas.Bool.{cases_lt, leb-true}
use Rattle.ffv1_range.specs.Interval.{Interval, Decision, narrow, narrowed, interval_of, start, part}
use Rattle.ffv1_range.specs.Symbols.{Step, exponent, shifted, unsigned_steps}
use Rattle.ffv1_range.specs.History.{decisions_after}
use Rattle.ffv1_range.specs.Standard.{standard}
use Rattle.ffv1_range.specs.Table.{Table}
use Rattle.ffv1_range.specs.Codes.{AreBytes, digits}
use Rattle.ffv1_range.specs.Weight.{one_if}
use Rattle.ffv1_range.proofs.EndingCodes.{bytes-digits}
use Rattle.ffv1_range.proofs.Values.{length-digits}
use Rattle.ffv1_plane.specs.Quantisation.{Set, small_set, large_set}
use Rattle.ffv1_record.specs.Accepted.{IsAccepted}
use Rattle.ffv1_record.specs.Configuration.{Configuration, is_rct}
use Rattle.ffv1_record.specs.Parity.{parity_of}
use Rattle.ffv1_record.specs.Record.{number_steps, truth_steps, deltas_steps, coder_steps, runs_steps, set_steps, sets_steps, opening_steps, planes_steps, grid_steps, tables_steps, closing_steps, record_steps, record_decisions, coded_of, record_of}
use Rattle.ffv1_reads.specs.Head.{limit}
use Rattle.ffv1_video.specs.Video.{SaidHead}
use Rattle.ffv1_words.specs.declared.order.Choice.{Choice}
use Rattle.ffv1_words.specs.declared.order.CoderChoice.{CoderChoice}
use Rattle.ffv1_words.specs.declared.order.CoderChoice.TheVariants as coder_choice
use Rattle.ffv1_pack.specs.Packing.{coder_for, configuration_for, set_for}
use Rattle.ffv1_engine.proofs.ByteLists.{bytes_joined}
use Rattle.ffv1_pack.proofs.VideoFits.{both}

-- how many decisions symbols take
pub record SymbolLaws : Type 0 where
  pub none : length (unsigned_steps 0) ≡ 1
  pub some : (n : ℕ) → length (unsigned_steps (suc n)) ≡ 2 * exponent (suc n) + 2
  pub least : (n : ℕ) → 0 < n → 2 ^ exponent n ≤ n
  pub same : (base : ℕ) (steps : List Step) → length (shifted base steps) ≡ length steps

record Few (steps : List Step) (most : ℕ) : Type 0 where
  few : length steps ≤ most

joined : {xs ys : List Step} {m n : ℕ} → Few xs m → Few ys n → Few (xs ++ ys) (m + n)
joined {xs = xs} {ys = ys} p q = record { few = let long = length-append xs ys in omega (arith, long, p.few, q.few) }

none_few : Few [] 0
none_few = record { few = omega arith }

truth_few : (b : Bool) → Few (truth_steps b) 1
truth_few b = record { few = omega arith }

deltas_long : (n : ℕ) → length (deltas_steps (replicate n (pos 0))) ≡ n
deltas_long zero = refl
deltas_long (suc n) = ap suc (deltas_long n)

-- how many runs a set has
runs_in : Set → ℕ
runs_in [] = 0
runs_in (runs ∷ more) = length runs + runs_in more

-- the numbers of a record are at most 8192
are_low : List ℕ → Bool
are_low [] = true
are_low (r ∷ rs) = nat_le (r - 1) 8192 && are_low rs

are_low_in : Set → Bool
are_low_in [] = true
are_low_in (runs ∷ more) = are_low runs && are_low_in more

pub record HasLowNumbers (c : Configuration) : Type 0 where
  pub depth : c.depth ≤ 8192
  pub log2_h : c.log2_h ≤ 8192
  pub log2_v : c.log2_v ≤ 8192
  pub columns : c.columns ≤ 8192
  pub rows : c.rows ≤ 8192

low_truth : (b : Bool) → one_if b ≤ 8192
low_truth true = omega arith
low_truth false = omega arith

-- what is known of an accepted configuration's numbers
pub record NumberLaws : Type 0 where
  pub depth : (c : Configuration) (t : Table) → IsAccepted c t → (8 ≤ c.depth) × (c.depth ≤ 16)
  pub factors : (c : Configuration) (t : Table) → IsAccepted c t → (c.log2_h ≤ 2) × (c.log2_v ≤ 2)
  pub columns : (c : Configuration) (t : Table) → IsAccepted c t → (1 ≤ c.columns) × (c.columns ≤ 32) × (c.columns ≤ c.width)
  pub rows : (c : Configuration) (t : Table) → IsAccepted c t → (1 ≤ c.rows) × (c.rows ≤ 32) × (c.rows ≤ c.height)

pub low_numbers : NumberLaws → (c : Configuration) (t : Table) → IsAccepted c t → HasLowNumbers c
low_numbers laws c t is = record {
  depth = let few = (laws.depth c t is).1 in omega (arith, few);
  log2_h = let few = (laws.factors c t is).0 in omega (arith, few);
  log2_v = let few = (laws.factors c t is).1 in omega (arith, few);
  columns = let few = (laws.columns c t is).1 in omega (arith, few);
  rows = let few = (laws.rows c t is).1 in omega (arith, few);
}

module _ (laws : SymbolLaws) where
  -- so their exponents are
  low_exponent : (n : ℕ) → suc n ≤ 8192 → exponent (suc n) ≤ 13
  low_exponent n low = elim (cases_lt (exponent (suc n)) 14) [
    | inl less ↦ omega (arith, less)
    | inr over ↦
        let some : 0 < suc n = omega arith in
        let least = laws.least (suc n) some in
        let power : 2 ^ 14 ≤ 2 ^ exponent (suc n) = pow_mono {i = 14} {j = exponent (suc n)} over in
        absurd (omega (arith, low, least, power))
  ]

  number_long : (n : ℕ) → n ≤ 8192 → length (unsigned_steps n) ≤ 64
  number_long zero low = let one = laws.none in omega (arith, one)
  number_long (suc n) low = let few = laws.some n in let most = low_exponent n low in omega (arith, few, most)

  number_few : (base n : ℕ) → n ≤ 8192 → Few (number_steps base n) 64
  number_few base n low = record { few = let long = laws.same base (unsigned_steps n) in let most = number_long n low in omega (arith, long, most) }

  deltas_few : (n : ℕ) → Few (deltas_steps (replicate n (pos 0))) n
  deltas_few n = record { few = let long = deltas_long n in omega (arith, long) }

  coder_few : (k : CoderChoice) → Few (coder_steps (coder_for k)) 319
  coder_few coder_choice.Standard = record { few = let one = (number_few 0 1 (omega arith)).few in omega (arith, one) }
  coder_few coder_choice.Carried = joined (number_few 0 2 (omega arith)) (deltas_few 255)

  runs_few : (base : ℕ) (runs : List ℕ) → are_low runs ≡ true → Few (runs_steps base runs) (64 * length runs)
  unfolding are_low
  runs_few base [] low = none_few
  runs_few base (r ∷ rs) low =
      let parts = both (nat_le (r - 1) 8192) (are_low rs) low in
      record { few = let all = (joined (number_few base (r - 1) (leb-true (r - 1) 8192 parts.0)) (runs_few base rs parts.1)).few in omega (arith, all) }

  set_few : (base : ℕ) (set : Set) → are_low_in set ≡ true → Few (set_steps base set) (64 * runs_in set)
  unfolding runs_in are_low_in
  set_few base [] low = none_few
  set_few base (runs ∷ more) low =
      let parts = both (are_low runs) (are_low_in more) low in
      record { few = let all = (joined (runs_few base runs parts.0) (set_few (base + 32) more parts.1)).few in omega (arith, all) }

  one_set : (large : Bool) → Few (set_steps 32 (set_for large)) 1536
  unfolding runs_in are_low are_low_in
  one_set true = set_few 32 large_set refl
  one_set false = record { few = let all = (set_few 32 small_set refl).few in omega (arith, all) }

  sets_few : (large : Bool) → Few (sets_steps 32 (set_for large ∷ [])) 1536
  sets_few large = joined (one_set large) none_few

  module _ (choice : Choice) (ppm : Bool) (h : SaidHead) (low : HasLowNumbers (configuration_for choice ppm h)) where
    c : Configuration
    c = configuration_for choice ppm h

    opening_few : Few (opening_steps c) 447
    unfolding c
    opening_few = joined (joined (number_few 0 3 (omega arith)) (number_few 0 4 (omega arith))) (coder_few choice.coder)

    planes_few : Few (planes_steps c.depth c) 258
    unfolding c
    planes_few = joined (joined (joined (joined (joined (number_few 0 (one_if (is_rct c.colour)) (low_truth (is_rct c.colour))) (number_few 0 c.depth low.depth)) (truth_few c.chroma_planes)) (number_few 0 c.log2_h low.log2_h)) (number_few 0 c.log2_v low.log2_v)) (truth_few c.extra_plane)

    grid_few : Few (grid_steps c) 128
    unfolding c
    grid_few =
        let columns : c.columns - 1 ≤ 8192 = let most = low.columns in omega (arith, most) in
        let rows : c.rows - 1 ≤ 8192 = let most = low.rows in omega (arith, most) in
        joined (number_few 0 (c.columns - 1) columns) (number_few 0 (c.rows - 1) rows)

    tables_few : Few (tables_steps c) 1601
    unfolding c
    tables_few = joined (joined (number_few 0 1 (omega arith)) (sets_few choice.large)) (joined (truth_few false) none_few)

    closing_few : Few (closing_steps c) 128
    closing_few = joined (number_few 0 (one_if c.ec) (low_truth c.ec)) (number_few 0 (one_if c.intra) (low_truth c.intra))

    record_few : Few (record_steps c.depth c) 2562
    record_few = joined (joined (joined (joined opening_few planes_few) grid_few) tables_few) closing_few

-- each decision makes one renormalisation at most
one_more : (i : Interval) (b : Bool) → (let r : Interval = if b then record { low = 256 * i.low; width = 256 * i.width; count = suc i.count } else i in r.count ≤ i.count + 1)
one_more i true = omega arith
one_more i false = omega arith

narrow_most : (i : Interval) (state : ℕ) (bit : Bool) → (narrow i state bit).count ≤ i.count + 1
narrow_most i state true = one_more (part i state true) (nat_lt (part i state true).width 256)
narrow_most i state false = one_more (part i state false) (nat_lt (part i state false).width 256)

narrowed_most : (i : Interval) (ds : List Decision) → (narrowed i ds).count ≤ i.count + length ds
narrowed_most i [] = omega arith
narrowed_most i (d ∷ ds) = let rest = narrowed_most (narrow i d.state d.bit) ds in let first = narrow_most i d.state d.bit in omega (arith, rest, first)

decisions_long : (t : Table) (past steps : List Step) → length (decisions_after t past steps) ≡ length steps
decisions_long t past [] = refl
decisions_long t past (s ∷ ss) = ap suc (decisions_long t (past ++ (s ∷ [])) ss)

stored_long : (c : Configuration) → length (record_of c) ≤ 6 + length (record_steps c.depth c)
stored_long c =
    let ds = record_decisions c.depth c in
    let all = length-append (coded_of c) (digits 4 (parity_of (coded_of c))) in
    let front = length-digits (interval_of ds).count (interval_of ds).low in
    let tail = length-digits 4 (parity_of (coded_of c)) in
    let most = narrowed_most start ds in
    let many = decisions_long standard [] (record_steps c.depth c) in
    omega (arith, all, front, tail, most, many)

pub record_most : SymbolLaws → (choice : Choice) (ppm : Bool) (h : SaidHead) → HasLowNumbers (configuration_for choice ppm h) → length (record_of (configuration_for choice ppm h)) ≤ 2568
unfolding c
record_most laws choice ppm h low =
    let long : length (record_of (configuration_for choice ppm h)) ≤ 6 + length (record_steps h.depth (configuration_for choice ppm h)) = stored_long (configuration_for choice ppm h) in
    let few = (record_few laws choice ppm h low).few in
    omega (arith, long, few)

pub record_short : SymbolLaws → (choice : Choice) (ppm : Bool) (h : SaidHead) → HasLowNumbers (configuration_for choice ppm h) → 40 + length (record_of (configuration_for choice ppm h)) ≤ limit
record_short laws choice ppm h low = let most = record_most laws choice ppm h low in omega (arith, most)

pub record_are_bytes : (c : Configuration) → AreBytes (record_of c)
record_are_bytes c =
    let i = interval_of (record_decisions c.depth c) in
    bytes_joined (coded_of c) (digits 4 (parity_of (coded_of c))) (bytes-digits i.count i.low) (bytes-digits 4 (parity_of (coded_of c)))
