-- One place more of a line.
use Rattle.std.proofs.Common.{◌≡◌, ◌∙◌, ℕ, ◌+◌, ◌<◌, ◌≤◌, List, length, slice_index, slice_set, arith, inl, inr}
use Rattle.std.proofs.lemmas.Grind.{common_steps}
use Rattle.std.proofs.lemmas.Bool.{cases_lt}
use Rattle.std.specs.Simd.Lanes.{put_chunk}
use Rattle.ffv1_rct.proofs.Vectors.{AreLanes, stored_below, stored_at}
use Rattle.ffv1_rct.specs.Transform.{IsCodedIn, IsOnlyColourIn}
use Rattle.ffv1_rct.specs.Lines.{AreCodedIn, AreOnlyColoursIn, IsKeptFrom}

pub set_same : (xs : List ℕ) (x v k : ℕ) → x < length xs → k ≡ x → slice_index (slice_set xs x v) k ≡ v
set_same xs x v k lt e = grind (arith, common_steps)

pub set_below : (xs : List ℕ) (x v k : ℕ) → k < x → slice_index (slice_set xs x v) k ≡ slice_index xs k
set_below xs x v k lt = grind (arith, common_steps)

pub set_above : (xs : List ℕ) (x v k : ℕ) → x < k → slice_index (slice_set xs x v) k ≡ slice_index xs k
set_above xs x v k lt = grind (arith, common_steps)

pub coded_more : (depth : ℕ) (r g b y cb cr : List ℕ) (x v u w : ℕ) → x < length y → x < length cb → x < length cr → AreCodedIn depth x r g b y cb cr
    → IsCodedIn depth (slice_index r x) (slice_index g x) (slice_index b x) v u w → AreCodedIn depth (x + 1) r g b (slice_set y x v) (slice_set cb x u) (slice_set cr x w)
coded_more depth r g b y cb cr x v u w ly lb lr old is = λ k lt. elim (cases_lt k x) [
  | inl low ↦ rw (set_below y x v k low, set_below cb x u k low, set_below cr x w k low) (old k low)
  | inr high ↦
      let same : k ≡ x = omega arith in
      rw (set_same y x v k ly same, set_same cb x u k lb same, set_same cr x w k lr same, same) is
]

pub colours_more : (depth : ℕ) (y cb cr r g b : List ℕ) (x v u w : ℕ) → x < length r → x < length g → x < length b → AreOnlyColoursIn depth x y cb cr r g b
    → IsOnlyColourIn depth (slice_index y x) (slice_index cb x) (slice_index cr x) v u w → AreOnlyColoursIn depth (x + 1) y cb cr (slice_set r x v) (slice_set g x u) (slice_set b x w)
colours_more depth y cb cr r g b x v u w lr lg lb old is = λ k lt. elim (cases_lt k x) [
  | inl low ↦ rw (set_below r x v k low, set_below g x u k low, set_below b x w k low) (old k low)
  | inr high ↦
      let same : k ≡ x = omega arith in
      rw (set_same r x v k lr same, set_same g x u k lg same, set_same b x w k lb same, same) is
]

pub kept_more : (old new : List ℕ) (x v : ℕ) → IsKeptFrom x old new → IsKeptFrom (x + 1) old (slice_set new x v)
kept_more old new x v kept = λ k le. set_above new x v k (omega arith) ∙ kept k (omega arith)

-- a block of places, stored
pub coded_block : (depth : ℕ) (r g b y cb cr : List ℕ) (at n : ℕ) (ys us vs : List ℕ) (f p q : ℕ → ℕ) → at + n ≤ length y → at + n ≤ length cb → at + n ≤ length cr
    → AreCodedIn depth at r g b y cb cr → AreLanes at n ys f → AreLanes at n us p → AreLanes at n vs q
    → ((k : ℕ) → IsCodedIn depth (slice_index r k) (slice_index g k) (slice_index b k) (f k) (p k) (q k))
    → AreCodedIn depth (at + n) r g b (put_chunk at y ys) (put_chunk at cb us) (put_chunk at cr vs)
coded_block depth r g b y cb cr at n ys us vs f p q ly lb lr old isy isu isv each = λ k lt. elim (cases_lt k at) [
  | inl low ↦ rw (stored_below at y ys k low, stored_below at cb us k low, stored_below at cr vs k low) (old k low)
  | inr high ↦ rw (stored_at at n y ys f k isy ly high lt, stored_at at n cb us p k isu lb high lt, stored_at at n cr vs q k isv lr high lt) (each k)
]

pub colours_block : (depth : ℕ) (y cb cr r g b : List ℕ) (at n : ℕ) (rs gs bs : List ℕ) (f p q : ℕ → ℕ) → at + n ≤ length r → at + n ≤ length g → at + n ≤ length b
    → AreOnlyColoursIn depth at y cb cr r g b → AreLanes at n rs f → AreLanes at n gs p → AreLanes at n bs q
    → ((k : ℕ) → at ≤ k → k < at + n → IsOnlyColourIn depth (slice_index y k) (slice_index cb k) (slice_index cr k) (f k) (p k) (q k))
    → AreOnlyColoursIn depth (at + n) y cb cr (put_chunk at r rs) (put_chunk at g gs) (put_chunk at b bs)
colours_block depth y cb cr r g b at n rs gs bs f p q lr lg lb old isr isg isb each = λ k lt. elim (cases_lt k at) [
  | inl low ↦ rw (stored_below at r rs k low, stored_below at g gs k low, stored_below at b bs k low) (old k low)
  | inr high ↦ rw (stored_at at n r rs f k isr lr high lt, stored_at at n g gs p k isg lg high lt, stored_at at n b bs q k isb lb high lt) (each k high lt)
]

pub narrow_block : (a out : List ℕ) (at n : ℕ) (lanes : List ℕ) → at + n ≤ length out → ((k : ℕ) → k < at → slice_index out k ≡ slice_index a k) → AreLanes at n lanes (λ x. slice_index a x)
    → (k : ℕ) → k < at + n → slice_index (put_chunk at out lanes) k ≡ slice_index a k
narrow_block a out at n lanes room old is = λ k lt. elim (cases_lt k at) [
  | inl low ↦ stored_below at out lanes k low ∙ old k low
  | inr high ↦ stored_at at n out lanes (λ x. slice_index a x) k is room high lt
]
