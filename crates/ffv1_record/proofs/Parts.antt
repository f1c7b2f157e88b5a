-- What holds of the planes and sets of a configuration that was checked.
use Rattle.std.proofs.Common.{◌≡◌, ◌⊎◌, inl, inr, refl, ℕ, zero, suc, ◌<◌, ◌≤◌, Bool, true, false, not, nat_le, ◌&&◌, ◌||◌, ◌==◌, IsTrue, List, [], ◌∷◌, length, get_or, rules, arith}
use Rattle.std.proofs.lemmas.Bool.{eqb-true, cases_eq}
use Rattle.std.proofs.lemmas.Bool.Decides.{nat_tests}
use Rattle.ffv1_plane.specs.Quantisation.{Set, IsSet}
use Rattle.ffv1_record.specs.declared.config.Colour.{Colour}
use Rattle.ffv1_record.specs.declared.config.Colour.TheVariants as colour
use Rattle.ffv1_record.specs.Configuration.{is_rct}
use Rattle.ffv1_record.specs.Accepted.{is_depth}
use Rattle.ffv1_record.specs.Sets.{AreSets, most_contexts}
use Rattle.ffv1_record.proofs.Checks.{both}

-- chroma's factors, by whether there is chroma and whether the colour is RCT
abbrev pub suits : ℕ → ℕ → Bool → Bool → Bool
suits h v chroma rct = (nat_le h 2 && nat_le v 2) && ((chroma || not rct) && ((chroma && not rct) || (h == 0 && v == 0)))

zeros : (h v : ℕ) → IsTrue (h == 0 && v == 0) → (h ≡ 0) × (v ≡ 0)
zeros h v test =
    let each = both (h == 0) (v == 0) test in
    (eqb-true h 0 each.0, eqb-true v 0 each.1)

with_rct : (h v : ℕ) (chroma : Bool) → IsTrue (suits h v chroma true) → (chroma ≡ true) × (h ≡ 0) × (v ≡ 0)
with_rct h v true test =
    let rest = (both (nat_le h 2 && nat_le v 2) (true && (false || (h == 0 && v == 0))) test).1 in
    let none = zeros h v rest in
    (refl, none.0, none.1)
with_rct h v false test = absurd (search ((both (nat_le h 2 && nat_le v 2) (false && (false || (h == 0 && v == 0))) test).1, rules))

pub rct_parts : (h v : ℕ) (chroma : Bool) (c : Colour) → IsTrue (suits h v chroma (is_rct c)) → c ≡ colour.Rct → (chroma ≡ true) × (h ≡ 0) × (v ≡ 0)
rct_parts h v chroma colour.Rct test is = with_rct h v chroma test
rct_parts h v chroma colour.YCbCr test is = absurd (search rules)

-- there is no depth of 15 bits
pub shallow_or_full : (most n : ℕ) → IsTrue (is_depth most n) → (n ≤ 14) ⊎ (n ≡ 16)
shallow_or_full most n test =
    elim (cases_eq n 16) [
      | inl full ↦ inr full
      | inr other ↦ inl (grind (arith, nat_tests))
    ]

with_luma : (h v : ℕ) (c : Colour) → IsTrue (suits h v false (is_rct c)) → (c ≡ colour.YCbCr) × (h ≡ 0) × (v ≡ 0)
with_luma h v colour.YCbCr test =
    let none = zeros h v (both (nat_le h 2 && nat_le v 2) (true && (false || (h == 0 && v == 0))) test).1 in
    (refl, none.0, none.1)
with_luma h v colour.Rct test = absurd (search ((both (nat_le h 2 && nat_le v 2) (false && (false || (h == 0 && v == 0))) test).1, rules))

pub luma_parts : (h v : ℕ) (chroma extra : Bool) (c : Colour) → IsTrue (suits h v chroma (is_rct c)) → IsTrue (chroma || not extra) → chroma ≡ false → (c ≡ colour.YCbCr) × (h ≡ 0) × (v ≡ 0) × (extra ≡ false)
luma_parts h v true extra c test suited is = absurd (search rules)
luma_parts h v false true c test suited is = absurd (search rules)
luma_parts h v false false c test suited is =
    let parts = with_luma h v c test in
    (parts.0, parts.1, parts.2, refl)

pub set_at : (ss : List Set) (k : ℕ) → AreSets ss → k < length ss → IsSet (get_or ss k [])
set_at [] k are inside = absurd (omega arith)
set_at (s ∷ ss) zero are inside = are.0
set_at (s ∷ ss) (suc k) are inside = set_at ss k are.1 (omega arith)

pub most_few : (ss : List Set) → AreSets ss → most_contexts ss ≤ 32768
most_few [] are = omega arith
most_few (s ∷ ss) are =
    let rest = most_few ss are.1 in
    let here = are.0.few in
    omega (arith, here, rest)
