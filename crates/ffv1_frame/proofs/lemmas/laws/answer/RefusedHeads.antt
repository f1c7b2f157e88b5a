-- How many decisions numbers take in the place of a head, up to the first that is refused.
use Rattle.std.proofs.Common.{◌≡◌, ℕ, ◌+◌, ◌*◌, ◌/◌, ◌%◌, ◌^◌, ◌<◌, ◌≤◌, Bool, true, false, List, [], ◌∷◌, ◌++◌, length, ap, subst, sym, ◌∙◌, arith, inl, inr, length-append}
use Rattle.std.proofs.lemmas.Nat.{mod_below, div_below}
use Rattle.std.proofs.lemmas.Bool.{eqb-true, ltb-true}
use Rattle.ffv1_range.specs.Symbols.{Step, unsigned_steps}
use Rattle.ffv1_range.proofs.Counting.{too_long_length}
use Rattle.ffv1_record.specs.declared.config.Profile.{Profile}
use Rattle.ffv1_record.specs.Configuration.{Configuration}
use Rattle.ffv1_slice.specs.declared.fault.SliceFault.{SliceFault}
use Rattle.ffv1_slice.specs.Head.{Rule, Stops, placed, indexed, structured, unjudged, proportioned, head_rules, index_rules, info_rules}
use Rattle.ffv1_slice.proofs.Lengths.{short, symbol_most, stops_most}

-- numbers that are refused by these rules take at most so many, whatever was before
pub record AreFew (rules : List Rule) (most : ℕ) : Type 0 where
  pub each : (before : ℕ) (f : SliceFault) (steps : List Step) → Stops rules before f steps → length steps ≤ most

-- a value that meets a rule takes at most so many
pub record IsShort (r : Rule) (most : ℕ) : Type 0 where
  pub value : (before v : ℕ) → v < 2 ^ 31 → r.passes before v ≡ true → length (unsigned_steps v) ≤ most

-- the same holds of one more rule
one_more : (r : Rule) (rs : List Rule) (m b : ℕ) → IsShort r m → AreFew rs b → 62 ≤ b → AreFew (r ∷ rs) (m + b)
unfolding Stops
one_more r rs m b here rest least = record {
  each = λ before f steps p. elim p [
    | inl e ↦ let long = ap length e.1 ∙ too_long_length in omega (arith, long, least)
    | inr d ↦ elim d [
      | inl e ↦
          let long = ap length e.4 in
          let most = symbol_most e.0 e.1 in
          omega (arith, long, most, least)
      | inr e ↦
          let long = ap length e.5 ∙ length-append (unsigned_steps e.0) e.1 in
          let most = here.value before e.0 e.2 e.3 in
          let later = rest.each e.0 f e.1 e.4 in
          omega (arith, long, most, later)
    ]
  ];
}

last_few : (r : Rule) → AreFew (r ∷ []) 62
last_few r = record { each = λ before f steps p. let most = stops_most (r ∷ []) before f steps p in omega (arith, most) }

place_short : (k : ℕ) → k < 32 → IsShort (placed k) 10
place_short k few = record {
  value = λ before v small passes.
      let same = eqb-true v k passes in
      let most = short 4 k (omega (arith, few)) in
      subst (λ n. length (unsigned_steps n) ≤ 10) (sym same) (omega (arith, most));
}

nothing_short : IsShort (placed 0) 1
nothing_short = record {
  value = λ before v small passes.
      let same = eqb-true v 0 passes in
      subst (λ n. length (unsigned_steps n) ≤ 1) (sym same) (omega arith);
}

index_short : (count : ℕ) → count ≤ 8 → IsShort (indexed count) 6
index_short count few = record {
  value = λ before v small passes.
      let below = ltb-true v count passes in
      let most = short 2 v (omega (arith, few, below)) in
      omega (arith, most);
}

structure_short : IsShort structured 4
structure_short = record {
  value = λ before v small passes.
      let below = ltb-true v 4 passes in
      let most = short 1 v (omega (arith, below)) in
      omega (arith, most);
}

any_short : (r : Rule) → IsShort r 62
any_short r = record { value = λ before v small passes. symbol_most v small }

info_few : (pr : Profile) → AreFew (info_rules pr) 128
info_few pr =
    one_more structured (unjudged ∷ proportioned pr ∷ []) 4 124 structure_short (one_more unjudged (proportioned pr ∷ []) 62 62 (any_short unjudged) (last_few (proportioned pr)) (omega arith)) (omega arith)

-- at most so many of some
more_few : (rs : List Rule) (m b : ℕ) → m ≤ b → AreFew rs m → AreFew rs b
more_few rs m b fits few = record { each = λ before f steps p. let most = few.each before f steps p in omega (arith, most, fits) }

indexes_few : (pr : Profile) (extra : Bool) (count : ℕ) → count ≤ 8 → AreFew (index_rules extra count ++ info_rules pr) 146
indexes_few pr false count few =
    let one = index_short count few in
    more_few (indexed count ∷ indexed count ∷ info_rules pr) 140 146 (omega arith)
    (one_more (indexed count) (indexed count ∷ info_rules pr) 6 134 one (one_more (indexed count) (info_rules pr) 6 128 one (info_few pr) (omega arith)) (omega arith))
indexes_few pr true count few =
    let one = index_short count few in
    one_more (indexed count) (indexed count ∷ indexed count ∷ info_rules pr) 6 140 one
    (one_more (indexed count) (indexed count ∷ info_rules pr) 6 134 one (one_more (indexed count) (info_rules pr) 6 128 one (info_few pr) (omega arith)) (omega arith)) (omega arith)

pub refused_short : (pr : Profile) (c : Configuration) (n before : ℕ) (f : SliceFault) (steps : List Step) → length c.sets ≤ 8 → 0 < c.columns → c.columns ≤ 32 → c.rows ≤ 32 → n < c.columns * c.rows →
    Stops (head_rules pr c n) before f steps → length steps ≤ 168
refused_short pr c n before f steps few some wide high below p =
    let column = mod_below n c.columns some in
    let turned : n < c.rows * c.columns = omega (arith, below) in
    let row = div_below n c.columns c.rows some turned in
    let rest = index_rules c.extra_plane (length c.sets) ++ info_rules pr in
    let zeros = one_more (placed 0) (placed 0 ∷ rest) 1 147 nothing_short (one_more (placed 0) rest 1 146 nothing_short (indexes_few pr c.extra_plane (length c.sets) few) (omega arith)) (omega arith) in
    let rows = one_more (placed (n / c.columns)) (placed 0 ∷ placed 0 ∷ rest) 10 148 (place_short (n / c.columns) (omega (arith, row, high))) zeros (omega arith) in
    let all = one_more (placed (n % c.columns)) (placed (n / c.columns) ∷ placed 0 ∷ placed 0 ∷ rest) 10 158 (place_short (n % c.columns) (omega (arith, column, wide))) rows (omega arith) in
    all.each before f steps p
