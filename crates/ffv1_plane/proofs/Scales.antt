-- The scales of a set's tables.
use Rattle.std.proofs.Common.{◌≡◌, refl, ap, ◌∙◌, sym, ℕ, zero, suc, ◌+◌, ◌-◌, ◌*◌, ◌/◌, ◌<◌, ◌≤◌, true, List, [], ◌∷◌, length, arith}
use Rattle.std.proofs.Math.Nat.{mul-le-mul_left}
use Rattle.std.proofs.lemmas.Bool.{and_parts}
use Rattle.ffv1_plane.specs.Quantisation.{is_filled, are_filled, scale_behind}
use Rattle.ffv1_plane.specs.Raised.{RaisedTable, AreRaised, table_of, half_of}
use Rattle.ffv1_plane.proofs.Levels.{filled_from}

-- a table's scale and the one after it
pub scale_more : (s n : ℕ) → 0 < n → s * (2 * n - 1) ≡ s + 2 * (s * (n - 1))
scale_more s zero some = absurd (omega arith)
scale_more s (suc m) some =
    let e : 2 * suc m - 1 ≡ 2 * m + 1 = omega arith in
    let f : suc m - 1 ≡ m = omega arith in
    rw (e, f) (omega arith)

pub scale_most : (s n : ℕ) → n ≤ 128 → s * (2 * n - 1) ≤ 255 * s
scale_most s n few =
    let below = mul-le-mul_left {m = 2 * n - 1} {n = 255} s (omega arith) in
    omega arith

chained : (a b c d e s2 s3 s4 s5 s6 : ℕ) → s2 ≡ 1 * a → s3 ≡ s2 * b → s4 ≡ s3 * c → s5 ≡ s4 * d → s6 ≡ s5 * e → s6 ≡ 1 * a * b * c * d * e
chained a b c d e s2 s3 s4 s5 s6 p q r s t = rw (t, s, r, q, p) refl

-- the last scale is that after the five tables
pub scale_is : (a b c d e : List ℕ) (s2 s3 s4 s5 s6 : ℕ) →
    s2 ≡ 1 * (2 * length a - 1) → s3 ≡ s2 * (2 * length b - 1) → s4 ≡ s3 * (2 * length c - 1) → s5 ≡ s4 * (2 * length d - 1) → s6 ≡ s5 * (2 * length e - 1) →
    s6 ≡ scale_behind 1 (a ∷ b ∷ c ∷ d ∷ e ∷ [])
scale_is a b c d e s2 s3 s4 s5 s6 p q r s t = chained (2 * length a - 1) (2 * length b - 1) (2 * length c - 1) (2 * length d - 1) (2 * length e - 1) s2 s3 s4 s5 s6 p q r s t

all_filled : (a b c d e : List ℕ) → is_filled a ≡ true → is_filled b ≡ true → is_filled c ≡ true → is_filled d ≡ true → is_filled e ≡ true → are_filled (a ∷ b ∷ c ∷ d ∷ e ∷ []) ≡ true
all_filled a b c d e p q r s t = rw (p, q, r, s, t) refl

telescoped : (h1 h2 h3 h4 h5 s2 s3 s4 s5 s6 : ℕ) → s2 ≡ 1 + 2 * h1 → s3 ≡ s2 + 2 * h2 → s4 ≡ s3 + 2 * h3 → s5 ≡ s4 + 2 * h4 → s6 ≡ s5 + 2 * h5 → s6 ≡ 1 + 2 * (h1 + h2 + h3 + h4 + h5)
telescoped h1 h2 h3 h4 h5 s2 s3 s4 s5 s6 p q r s t = omega arith

-- the scale after all tables is one more than twice the sum of their greatest entries
pub half_is : (a b c d e : List ℕ) (s2 s3 s4 s5 s6 : ℕ) → is_filled a ≡ true → is_filled b ≡ true → is_filled c ≡ true → is_filled d ≡ true → is_filled e ≡ true →
    s2 ≡ 1 * (2 * length a - 1) → s3 ≡ s2 * (2 * length b - 1) → s4 ≡ s3 * (2 * length c - 1) → s5 ≡ s4 * (2 * length d - 1) → s6 ≡ s5 * (2 * length e - 1) →
    s6 ≡ 1 + 2 * (1 * (length a - 1) + s2 * (length b - 1) + s3 * (length c - 1) + s4 * (length d - 1) + s5 * (length e - 1))
half_is a b c d e s2 s3 s4 s5 s6 fa fb fc fd fe p q r s t =
    let m1 = p ∙ scale_more 1 (length a) (filled_from a fa).some in
    let m2 = q ∙ scale_more s2 (length b) (filled_from b fb).some in
    let m3 = r ∙ scale_more s3 (length c) (filled_from c fc).some in
    let m4 = s ∙ scale_more s4 (length d) (filled_from d fd).some in
    let m5 = t ∙ scale_more s5 (length e) (filled_from e fe).some in
    telescoped (1 * (length a - 1)) (s2 * (length b - 1)) (s3 * (length c - 1)) (s4 * (length d - 1)) (s5 * (length e - 1)) s2 s3 s4 s5 s6 m1 m2 m3 m4 m5

count_is : (s h : ℕ) → s ≡ 1 + 2 * h → ((s + 1) / 2 ≡ (s - 1) / 2 + 1) × (h ≡ (s - 1) / 2)
count_is s h e = (omega arith, omega arith)

pub scaled : (a b c d e : List ℕ) (s2 s3 s4 s5 s6 : ℕ) → is_filled a ≡ true → is_filled b ≡ true → is_filled c ≡ true → is_filled d ≡ true → is_filled e ≡ true →
    s2 ≡ 1 * (2 * length a - 1) → s3 ≡ s2 * (2 * length b - 1) → s4 ≡ s3 * (2 * length c - 1) → s5 ≡ s4 * (2 * length d - 1) → s6 ≡ s5 * (2 * length e - 1) → s6 ≤ 65536 →
    AreRaised (table_of a 1) (table_of b s2) (table_of c s3) (table_of d s4) (table_of e s5) ((s6 - 1) / 2)
scaled a b c d e s2 s3 s4 s5 s6 fa fb fc fd fe p q r s t few =
    let whole = scale_is a b c d e s2 s3 s4 s5 s6 p q r s t in
    let odd = half_is a b c d e s2 s3 s4 s5 s6 fa fb fc fd fe p q r s t in
    let count = count_is s6 _ odd in
    record {
      set = record { five = refl; filled = all_filled a b c d e fa fb fc fd fe; few = rw (← whole) (omega arith) };
      first_scale = refl;
      second_scale = p;
      third_scale = rw (q, p) refl;
      fourth_scale = rw (r, q, p) refl;
      fifth_scale = rw (s, r, q, p) refl;
      contexts = rw (← whole) count.0;
      halves = count.1;
    }

-- five tables, each filled
pub record AreEach (a b c d e : List ℕ) : Type 0 where
  pub first : is_filled a ≡ true
  pub second : is_filled b ≡ true
  pub third : is_filled c ≡ true
  pub fourth : is_filled d ≡ true
  pub fifth : is_filled e ≡ true

pub each_filled : (a b c d e : List ℕ) → are_filled (a ∷ b ∷ c ∷ d ∷ e ∷ []) ≡ true → AreEach a b c d e
each_filled a b c d e h =
    let one = and_parts (is_filled a) (are_filled (b ∷ c ∷ d ∷ e ∷ [])) h in
    let two = and_parts (is_filled b) (are_filled (c ∷ d ∷ e ∷ [])) one.1 in
    let three = and_parts (is_filled c) (are_filled (d ∷ e ∷ [])) two.1 in
    let four = and_parts (is_filled d) (are_filled (e ∷ [])) three.1 in
    let five = and_parts (is_filled e) (are_filled []) four.1 in
    record { first = one.0; second = two.0; third = three.0; fourth = four.0; fifth = five.0 }

-- the room of five tables
pub record Rooms (first second third fourth fifth : RaisedTable) : Type 0 where
  pub filled : AreEach first.runs second.runs third.runs fourth.runs fifth.runs
  pub first_room : first.scale * (2 * length first.runs - 1) < 65536
  pub second_room : second.scale * (2 * length second.runs - 1) < 65536
  pub third_room : third.scale * (2 * length third.runs - 1) < 65536
  pub fourth_room : fourth.scale * (2 * length fourth.runs - 1) < 65536
  pub fifth_room : fifth.scale * (2 * length fifth.runs - 1) < 65536

growing : (s1 s2 s3 s4 s5 s6 h1 h2 h3 h4 h5 half : ℕ) → s2 ≡ s1 + 2 * h1 → s3 ≡ s2 + 2 * h2 → s4 ≡ s3 + 2 * h3 → s5 ≡ s4 + 2 * h4 → s6 ≡ s5 + 2 * h5 → s1 ≡ 1 → h1 + h2 + h3 + h4 + h5 ≡ half → half + 1 ≤ 32768 →
    (s2 < 65536) × (s3 < 65536) × (s4 < 65536) × (s5 < 65536) × (s6 < 65536)
growing s1 s2 s3 s4 s5 s6 h1 h2 h3 h4 h5 half p q r s t first sum few = (omega arith, omega arith, omega arith, omega arith, omega arith)

pub rooms : (first second third fourth fifth : RaisedTable) (half : ℕ) → AreRaised first second third fourth fifth half → Rooms first second third fourth fifth
rooms first second third fourth fifth half is =
    let each = each_filled first.runs second.runs third.runs fourth.runs fifth.runs is.set.filled in
    let p : second.scale ≡ first.scale * (2 * length first.runs - 1) = is.second_scale ∙ ap (λ k. k * (2 * length first.runs - 1)) (sym is.first_scale) in
    let q : third.scale ≡ second.scale * (2 * length second.runs - 1) = is.third_scale ∙ ap (λ k. k * (2 * length second.runs - 1)) (sym is.second_scale) in
    let r : fourth.scale ≡ third.scale * (2 * length third.runs - 1) = is.fourth_scale ∙ ap (λ k. k * (2 * length third.runs - 1)) (sym is.third_scale) in
    let s : fifth.scale ≡ fourth.scale * (2 * length fourth.runs - 1) = is.fifth_scale ∙ ap (λ k. k * (2 * length fourth.runs - 1)) (sym is.fourth_scale) in
    let few : half + 1 ≤ 32768 = rw is.contexts at is.set.few in
    let all = growing first.scale second.scale third.scale fourth.scale fifth.scale (fifth.scale * (2 * length fifth.runs - 1)) (half_of first) (half_of second) (half_of third) (half_of fourth) (half_of fifth) half
    (p ∙ scale_more first.scale (length first.runs) (filled_from first.runs each.first).some)
    (q ∙ scale_more second.scale (length second.runs) (filled_from second.runs each.second).some)
    (r ∙ scale_more third.scale (length third.runs) (filled_from third.runs each.third).some)
    (s ∙ scale_more fourth.scale (length fourth.runs) (filled_from fourth.runs each.fourth).some)
    (scale_more fifth.scale (length fifth.runs) (filled_from fifth.runs each.fifth).some)
    is.first_scale is.halves few in
    record {
      filled = each;
      first_room = rw p at all.0;
      second_room = rw q at all.1;
      third_room = rw r at all.2;
      fourth_room = rw s at all.3;
      fifth_room = all.4;
    }
