-- How many bytes frames have, frame by frame.
use Rattle.std.specs.Prelude.{◌≡◌, ℕ, ◌+◌, ◌≤◌, ◌<◌, ◌==◌, Bool, true, List, [], ◌∷◌, length, map, sum, take}
use Rattle.std.proofs.Common.{arith, refl, ◌∙◌, ap, zero, suc, get_or}
use Rattle.std.proofs.lemmas.Grind.{common_steps}
use Rattle.std.specs.declared.vec.Vec.{Vec}
use Rattle.std.specs.Vec.{vec_len}
use Rattle.std.specs.List.{sum_by}
use Rattle.std.proofs.lemmas.List.Sums.{sum_by_from}
use Rattle.ffv1_reads.specs.Head.{Head}
use Rattle.ffv1_avi.specs.Padding.{padded}
use Rattle.ffv1_avi.specs.Written.{frame_size, frames_of, most, riff_size}
use Rattle.ffv1_pack.specs.Packing.{bytes_in}

plus : (a b c d : ℕ) → b ≡ c + d → a + b ≡ (a + c) + d
plus a b c d e = omega (arith, e)

more_than : (a b c : ℕ) → b ≤ c → a + b ≤ a + c
more_than a b c e = omega (arith, e)

-- one frame more
pub bytes_more : {A : Type 0} (frames : List (Vec ℕ A)) (k : ℕ) (frame : Vec ℕ A) → k < length frames → frame ≡ get_or frames k frame → bytes_in (take (suc k) (frames_of frames)) ≡ bytes_in (take k (frames_of frames)) + length frame.items
bytes_more [] k frame inside e = absurd (omega (arith, inside))
bytes_more (f ∷ fs) zero frame inside e = rw e (omega (arith))
bytes_more (f ∷ fs) (suc k) frame inside e =
    plus (length f.items) _ _ _ (bytes_more fs k frame (omega (arith, inside)) e)

pub bytes_most : (frames : List (List ℕ)) (k : ℕ) → bytes_in (take k frames) ≤ bytes_in frames
bytes_most [] zero = omega (arith)
bytes_most [] (suc k) = omega (arith)
bytes_most (f ∷ fs) zero = omega (arith)
bytes_most (f ∷ fs) (suc k) = more_than (length f) _ _ (bytes_most fs k)

-- a file has more bytes than its frames
framed : (n : ℕ) → n ≤ 8 + padded n
framed n = omega (arith)

total : (a b c s rest all : ℕ) → all ≡ (0 + c) + rest → s ≡ 0 + rest → a ≤ c → b ≤ s → a + b ≤ all
total a b c s rest all e f g h = omega (arith, e, f, g, h)

bytes_framed : (frames : List (List ℕ)) → bytes_in frames ≤ sum (map frame_size frames)
bytes_framed [] = omega (arith)
bytes_framed (f ∷ fs) =
    total (length f) (bytes_in fs) (frame_size f) (sum (map frame_size fs)) (sum_by (λ x. x) (map frame_size fs)) _ (sum_by_from (λ x. x) (0 + frame_size f) (map frame_size fs)) (sum_by_from (λ x. x) 0 (map frame_size fs)) (framed (length f)) (bytes_framed fs)

within : (a b c d n : ℕ) → a ≤ b → 172 + c + (4 + b) ≤ n → a ≤ n
within a b c d n e f = omega (arith, e, f)

pub few_bytes : (head : Head) (frames : List (List ℕ)) → riff_size head frames ≤ most → bytes_in frames ≤ most
few_bytes head frames e = within (bytes_in frames) (sum (map frame_size frames)) _ 0 most (bytes_framed frames) e

pub empty_of : {A B : Type 0} (v : Vec B A) (b : Bool) → b ≡ (vec_len v == 0) → b ≡ true → length v.items ≡ 0
empty_of v b e t = grind (arith, common_steps, e, t)

many : {A : Type 0} (items : List (Vec ℕ A)) (n : ℕ) → n ≡ length items → n ≡ length (frames_of items)
many [] n e = e
many (f ∷ fs) n e = e ∙ ap suc (many fs (length fs) refl)

pub many_frames : {A : Type 0} (v : Vec (Vec ℕ A) A) → vec_len v ≡ length (frames_of v.items)
many_frames v = many v.items (vec_len v) v.ok.0
