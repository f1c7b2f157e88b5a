-- Sixteen places of a block at once.
use Rattle.std.proofs.Common.{◌≡◌, refl, ap, ◌∙◌, sym, ℕ, zero, suc, ◌+◌, ◌-◌, ◌*◌, ◌%◌, ◌^◌, ◌<◌, ◌≤◌, ◌⊎◌, inl, inr, List, length, slice_index, map, min, arith, ℤ, pos, negsuc, unsigned_abs, ◌≤ℤ◌, ◌<ℤ◌, ◌-ℤ◌, ◌+ℤ◌, pow_mono, subst}
use Rattle.std.proofs.lemmas.Int.{ints}
use Rattle.std.proofs.lemmas.Bool.{cases_lt, lt-ltb, le-ltb}
use Rattle.std.proofs.lemmas.Simd.{get_or-put_chunk_below}
use Rattle.std.specs.List.{range_with_len}
use Rattle.std.specs.Int.{w32}
use mir.Val.{SFits, to_z}
use Rattle.std.specs.Simd.Lanes.{chunk, put_chunk}
use Rattle.ffv1_range.specs.Listed.{of_nine_bits}
use Rattle.ffv1_plane.specs.declared.prediction.Around.{Around}
use Rattle.ffv1_plane.specs.declared.lanes.AroundLanes.{AroundLanes}
use Rattle.ffv1_plane.specs.Quantisation.{contexts_of}
use Rattle.ffv1_plane.specs.Context.{size_of, flip_of}
use Rattle.ffv1_plane.specs.Prediction.{predicted_in}
use Rattle.ffv1_plane.specs.Residual.{IsFolded}
use Rattle.ffv1_plane.specs.Lanes.{AreSamples, AreAround, modulo_512, raised_residual}
use Rattle.ffv1_plane.proofs.Remainders.{rem_is, divided}
use Rattle.ffv1_plane.proofs.Folding.{chosen_folded}
use Rattle.ffv1_plane.proofs.LaneValues.{loaded, stored}
use Rattle.ffv1_line.specs.Beside.{before, two_before, beside, chosen_beside}
use Rattle.ffv1_line.specs.Internal.Along.{AreUnsigned}
use Rattle.ffv1_line.specs.Internal.Parts.{ArePrepared, residual_by, residual_limit, kept_of}
use Rattle.ffv1_line.specs.declared.encode.part.Part.{Part}

-- ---- loads

before_is : (above row : List ℕ) (x j : ℕ) → 1 ≤ x → slice_index row (x - 1 + j) ≡ before above row (x + j)
before_is above row zero j some = absurd (omega arith)
before_is above row (suc x) j some =
    let e : suc x - 1 + j ≡ x + j = omega arith in
    let f : suc x + j ≡ suc (x + j) = omega arith in
    rw (e, f) refl

two_before_is : (above row : List ℕ) (x j : ℕ) → 2 ≤ x → slice_index row (x - 2 + j) ≡ two_before above row (x + j)
two_before_is above row zero j some = absurd (omega arith)
two_before_is above row (suc zero) j some = absurd (omega arith)
two_before_is above row (suc (suc x)) j some =
    let e : suc (suc x) - 2 + j ≡ x + j = omega arith in
    let f : suc (suc x) + j ≡ suc (suc (x + j)) = omega arith in
    rw (e, f) refl

right_is : (one : List ℕ) (x j : ℕ) → j < 16 → x + 17 ≤ length one → slice_index one (x + 1 + j) ≡ slice_index one (min (x + j + 1) (length one - 1))
right_is one x j below within =
    let e : min (x + j + 1) (length one - 1) ≡ x + 1 + j = omega (arith, below, within) in
    ap (slice_index one) (sym e)

-- samples of 16 bits
abbrev pub AreShort : List ℕ → Type 0
AreShort row = (x : ℕ) → slice_index row x < 2 ^ 16

before_short : (above row : List ℕ) (x : ℕ) → AreShort above → AreShort row → before above row x < 2 ^ 16
before_short above row zero a r = a 0
before_short above row (suc x) a r = r x

two_before_short : (above row : List ℕ) (x : ℕ) → AreShort above → AreShort row → two_before above row x < 2 ^ 16
two_before_short above row zero a r = omega arith
two_before_short above row (suc x) a r = before_short above row x a r

short_beside : (two one cur : List ℕ) → AreShort two → AreShort one → AreShort cur → (x : ℕ) → AreSamples (beside two one cur x)
short_beside two one cur s t u x = record {
  l = before_short one cur x t u;
  t = t x;
  tl = before_short two one x s t;
  tr = t (min (x + 1) (length one - 1));
  ll = two_before_short one cur x t u;
  tt = s x;
}

pub around_lanes : (two one cur : List ℕ) (x : ℕ) → 2 ≤ x → x + 17 ≤ length cur → length two ≡ length cur → length one ≡ length cur → AreShort two → AreShort one → AreShort cur →
    (lanes : AroundLanes) → lanes.l ≡ chunk (x - 1) 16 cur → lanes.t ≡ chunk x 16 one → lanes.tl ≡ chunk (x - 1) 16 one → lanes.tr ≡ chunk (x + 1) 16 one → lanes.ll ≡ chunk (x - 2) 16 cur →
    lanes.tt ≡ chunk x 16 two → AreAround lanes (range_with_len x 16) (beside two one cur)
around_lanes two one cur x inside within long long' s t u lanes l t' tl tr ll tt = record {
  samples = short_beside two one cur s t u;
  l = l ∙ loaded x (x - 1) 16 cur (λ k. (beside two one cur k).l) (omega (arith, inside, within)) (λ j below. before_is one cur x j (omega (arith, inside)));
  t = t' ∙ loaded x x 16 one (λ k. (beside two one cur k).t) (omega (arith, within, long')) (λ j below. refl);
  tl = tl ∙ loaded x (x - 1) 16 one (λ k. (beside two one cur k).tl) (omega (arith, inside, within, long')) (λ j below. before_is two one x j (omega (arith, inside)));
  tr = tr ∙ loaded x (x + 1) 16 one (λ k. (beside two one cur k).tr) (omega (arith, within, long')) (λ j below. right_is one x j below (omega (arith, within, long')));
  ll = ll ∙ loaded x (x - 2) 16 cur (λ k. (beside two one cur k).ll) (omega (arith, inside, within)) (λ j below. two_before_is one cur x j inside);
  tt = tt ∙ loaded x x 16 two (λ k. (beside two one cur k).tt) (omega (arith, within, long)) (λ j below. refl);
}

-- ---- residuals

-- a residual of nine bits comes back from itself modulo 512
nine_back : (v : ℤ) → (pos 0 -ℤ pos 256) ≤ℤ v → v <ℤ pos 256 → of_nine_bits (modulo_512 v) ≡ v
nine_back (pos n) least most =
    let below : n < 256 = omega (arith, ints, most) in
    let is = ap unsigned_abs (rem_is 512 (pos n) n (omega (arith, below)) (record { down = 0; up = 0; same = refl })) in
    rw (is, lt-ltb n 256 below) refl
nine_back (negsuc n) least most =
    let below : n < 256 = omega (arith, ints, least) in
    let is = ap unsigned_abs (rem_is 512 (negsuc n) (511 - n) (omega arith) (record { down = 1; up = 0; same = omega (arith, ints, below) })) in
    let back : 511 - (511 - n) ≡ n = omega (arith, below) in
    rw (is, le-ltb (511 - n) 256 (omega (arith, below)), back) refl

nine_small : (v : ℤ) → modulo_512 v < 512
nine_small v = let d = divided 512 v (omega arith) in rw d.is d.small

folded_nine : (bits : ℕ) (v : ℤ) → (bits ≡ 8) ⊎ (bits ≡ 9) → IsFolded bits v → of_nine_bits (modulo_512 v) ≡ v
folded_nine bits v (inl is) folded = let f = rw is at folded in let least = f.least in let most = f.most in nine_back v (omega (arith, ints, least)) (omega (arith, ints, most))
folded_nine bits v (inr is) folded = let f = rw is at folded in nine_back v f.least f.most

pub nine_or : (bits : ℕ) → 8 ≤ bits → bits < 10 → (bits ≡ 8) ⊎ (bits ≡ 9)
nine_or bits least most = elim (cases_lt bits 9) [
  | inl less ↦ inl (omega (arith, less))
  | inr more ↦ inr (omega (arith, more))
]

raised_back : (half : ℕ) (v : ℤ) → (pos 0 -ℤ pos half) ≤ℤ v → pos (unsigned_abs (v +ℤ pos half)) -ℤ pos half ≡ v
raised_back half v least = omega (arith, ints)

raised_small : (half : ℕ) (v : ℤ) → half ≤ 16384 → (pos 0 -ℤ pos half) ≤ℤ v → v <ℤ pos half → unsigned_abs (v +ℤ pos half) < 65536
raised_small half v small least most = omega (arith, ints)

-- a residual comes back from the number that a block has of it
pub kept_back : (bits : ℕ) (v : ℤ) → AreUnsigned bits → IsFolded bits v → residual_by bits (kept_of bits v) ≡ v
kept_back bits v are folded = elim (cases_lt bits 10) [
  | inl less ↦ rw (lt-ltb bits 10 less) (folded_nine bits v (nine_or bits are.least less) folded)
  | inr more ↦ rw (le-ltb bits 10 more) (raised_back (2 ^ (bits - 1)) v folded.least)
]

pub kept_small : (bits : ℕ) (v : ℤ) → AreUnsigned bits → IsFolded bits v → kept_of bits v < residual_limit bits
kept_small bits v are folded = elim (cases_lt bits 10) [
  | inl less ↦ rw (lt-ltb bits 10 less) (nine_small v)
  | inr more ↦
      let most = are.most in
      let half = pow_mono {i = bits - 1} {j = 14} (omega arith) in
      rw (le-ltb bits 10 more) (raised_small (2 ^ (bits - 1)) v half folded.least folded.most)
]

small_word : (n : ℕ) → n < 2147483648 → to_z w32 n ≡ pos n
small_word n small = omega (arith, ints)

-- half of 2^bits as a word, and a residual that is raised by it
pub half_word : (bits : ℕ) → bits ≤ 15 → to_z w32 (1 * 2 ^ (bits - 1) % 4294967296) ≡ pos (2 ^ (bits - 1))
half_word bits few =
    let most = pow_mono {i = bits - 1} {j = 14} (omega arith) in
    let same : 1 * 2 ^ (bits - 1) % 4294967296 ≡ 2 ^ (bits - 1) = omega (arith, most) in
    rw same (small_word (2 ^ (bits - 1)) (omega (arith, most)))

pub raised_fits : (bits : ℕ) (v : ℤ) → AreUnsigned bits → IsFolded bits v → SFits w32 (v +ℤ pos (2 ^ (bits - 1)))
raised_fits bits v are folded =
    let few = are.most in
    let half = pow_mono {i = bits - 1} {j = 14} (omega arith) in
    let small = raised_small (2 ^ (bits - 1)) v half folded.least folded.most in
    let least = folded.least in
    let is : v +ℤ pos (2 ^ (bits - 1)) ≡ pos (unsigned_abs (v +ℤ pos (2 ^ (bits - 1)))) = omega (arith, ints) in
    subst (SFits w32) (sym is) (record { sfits = omega (arith, small) })

-- of 8 and 9 bits a block has it modulo 512
pub nine_by : (bits n : ℕ) → bits < 10 → residual_by bits n ≡ of_nine_bits n
nine_by bits n less = rw (lt-ltb bits 10 less) refl

pub nine_limit : (bits : ℕ) → bits < 10 → residual_limit bits ≡ 512
nine_limit bits less = rw (lt-ltb bits 10 less) refl

pub kept_nine : (bits : ℕ) (v : ℤ) → bits < 10 → modulo_512 v ≡ kept_of bits v
kept_nine bits v less = rw (lt-ltb bits 10 less) refl

pub kept_deep : (bits : ℕ) (v : ℤ) → 10 ≤ bits → raised_residual bits v ≡ kept_of bits v
kept_deep bits v more = rw (le-ltb bits 10 more) refl

-- ---- blocks

pub block_lanes : {A : Type 0} (p : Part A) (at : ℕ) (contexts residuals sizes chosen : List ℕ) → AreUnsigned p.bits → at + 16 ≤ length contexts → at + 16 ≤ length residuals →
    ((a : Around) → size_of p.set.now a < contexts_of p.set.now) → ArePrepared p at contexts residuals → sizes ≡ map (λ x. size_of p.set.now (beside p.two.now p.one.now p.cur.now x)) (range_with_len (p.from + at) 16) →
    chosen ≡ map (λ x. kept_of p.bits (chosen_beside p.set.now p.bits p.two.now p.one.now p.cur.now x)) (range_with_len (p.from + at) 16) →
    ArePrepared p (at + 16) (put_chunk at contexts sizes) (put_chunk at residuals chosen)
block_lanes p at contexts residuals sizes chosen depth room room' below is are are' =
    let place : (k : ℕ) → at ≤ k → p.from + at + (k - at) ≡ p.from + k = λ k more. omega (arith, more) in
    let size : (k : ℕ) → at ≤ k → k < at + 16 → slice_index (put_chunk at contexts sizes) k ≡ size_of p.set.now (beside p.two.now p.one.now p.cur.now (p.from + k)) =
    λ k more less. stored (p.from + at) at 16 contexts sizes (λ x. size_of p.set.now (beside p.two.now p.one.now p.cur.now x)) k are room more less ∙ ap (λ x. size_of p.set.now (beside p.two.now p.one.now p.cur.now x)) (place k more) in
    let residual : (k : ℕ) → at ≤ k → k < at + 16 → slice_index (put_chunk at residuals chosen) k ≡ kept_of p.bits (chosen_beside p.set.now p.bits p.two.now p.one.now p.cur.now (p.from + k)) =
    λ k more less. stored (p.from + at) at 16 residuals chosen (λ x. kept_of p.bits (chosen_beside p.set.now p.bits p.two.now p.one.now p.cur.now x)) k are' room' more less ∙ ap (λ x. kept_of p.bits (chosen_beside p.set.now p.bits p.two.now p.one.now p.cur.now x)) (place k more) in
    let some : 0 < p.bits = omega (arith, depth.least) in
    let folded : (k : ℕ) → IsFolded p.bits (chosen_beside p.set.now p.bits p.two.now p.one.now p.cur.now (p.from + k)) = λ k. chosen_folded p.bits (predicted_in p.bits (beside p.two.now p.one.now p.cur.now (p.from + k))) (flip_of p.set.now (beside p.two.now p.one.now p.cur.now (p.from + k))) (slice_index p.cur.now (p.from + k)) some in
    record {
      context = λ k less. elim (cases_lt k at) [
        | inl early ↦ get_or-put_chunk_below at contexts sizes k 0 early ∙ is.context k early
        | inr more ↦ size k more less
      ];
      few = λ k less. elim (cases_lt k at) [
        | inl early ↦ rw (get_or-put_chunk_below at contexts sizes k 0 early) (is.few k early)
        | inr more ↦ rw (size k more less) (below (beside p.two.now p.one.now p.cur.now (p.from + k)))
      ];
      residual = λ k less. elim (cases_lt k at) [
        | inl early ↦ rw (get_or-put_chunk_below at residuals chosen k 0 early) (is.residual k early)
        | inr more ↦ rw (residual k more less) (kept_back p.bits _ depth (folded k))
      ];
      small = λ k less. elim (cases_lt k at) [
        | inl early ↦ rw (get_or-put_chunk_below at residuals chosen k 0 early) (is.small k early)
        | inr more ↦ rw (residual k more less) (kept_small p.bits _ depth (folded k))
      ];
    }
