-- Chunks are looked for, one after the other.
use Rattle.std.proofs.Common.{◌≡◌, ◌<◌, ◌≤◌, ◌∙◌, ℕ, zero, suc, List, [], Some, None, true, false, length, refl, ap, arith}
use Rattle.ffv1_avi.specs.Walk.{is_name}
use Rattle.ffv1_outline.specs.AviOutline.{Chunk, chunk_or_on, chunk_up_to, first_chunk}

pub chunk_none : (n : ℕ) (name xs : List ℕ) → first_chunk xs ≡ None → chunk_up_to n name xs ≡ []
unfolding chunk_up_to
chunk_none zero name xs is = refl
chunk_none (suc n) name xs is = ap (chunk_or_on name (chunk_up_to n name)) is

pub chunk_here : (n : ℕ) (name xs : List ℕ) (c : Chunk) → length xs ≤ n → first_chunk xs ≡ Some c → length c.rest < length xs → is_name c.name name ≡ true → chunk_up_to n name xs ≡ c.content
unfolding chunk_up_to
chunk_here zero name xs c few is less same = absurd (omega (arith, few, less))
chunk_here (suc n) name xs c few is less same = ap (chunk_or_on name (chunk_up_to n name)) is ∙ rw same refl

pub chunk_on : (n : ℕ) (name xs : List ℕ) (c : Chunk) → length xs ≤ n → first_chunk xs ≡ Some c → length c.rest < length xs → is_name c.name name ≡ false → (m : ℕ) × (length c.rest ≤ m) × (chunk_up_to n name xs ≡ chunk_up_to m name c.rest)
unfolding chunk_up_to
chunk_on zero name xs c few is less other = absurd (omega (arith, few, less))
chunk_on (suc n) name xs c few is less other =
    (n, omega (arith, few, less), ap (chunk_or_on name (chunk_up_to n name)) is ∙ rw other refl)
