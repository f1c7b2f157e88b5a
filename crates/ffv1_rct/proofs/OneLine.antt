-- Lines that are equal at each place.
use Rattle.std.proofs.Common.{◌≡◌, ◌∙◌, sym, ℕ, ◌<◌, List, length, slice_index, arith}
use Rattle.std.proofs.lemmas.List.{ext_get_or}
use Rattle.ffv1_rct.specs.Lines.{AreCodedIn}
use Rattle.ffv1_rct.proofs.Places.{only_colour, only_coded}

same : (n : ℕ) (xs ys : List ℕ) → length xs ≡ n → length ys ≡ n → ((x : ℕ) → x < n → slice_index ys x ≡ slice_index xs x) → ys ≡ xs
same n xs ys l m each = ext_get_or 0 ys xs (m ∙ sym l) (λ x lt. each x (omega arith))

pub one_colour : (depth n : ℕ) (r g b s h d y cb cr : List ℕ) → length r ≡ n → length g ≡ n → length b ≡ n → length s ≡ n → length h ≡ n → length d ≡ n
    → AreCodedIn depth n r g b y cb cr → AreCodedIn depth n s h d y cb cr → (s ≡ r) × (h ≡ g) × (d ≡ b)
one_colour depth n r g b s h d y cb cr lr lg lb ls lh ld is other =
    let each = λ (x : ℕ) (lt : x < n).
    only_colour depth (slice_index r x) (slice_index g x) (slice_index b x) (slice_index s x) (slice_index h x) (slice_index d x) (slice_index y x) (slice_index cb x) (slice_index cr x)
    (is x lt) (other x lt) in
    (same n r s lr ls (λ x lt. (each x lt).0), same n g h lg lh (λ x lt. (each x lt).1), same n b d lb ld (λ x lt. (each x lt).2))

pub one_coded : (depth n : ℕ) (r g b y cb cr z db dr : List ℕ) → length y ≡ n → length cb ≡ n → length cr ≡ n → length z ≡ n → length db ≡ n → length dr ≡ n
    → AreCodedIn depth n r g b y cb cr → AreCodedIn depth n r g b z db dr → (z ≡ y) × (db ≡ cb) × (dr ≡ cr)
one_coded depth n r g b y cb cr z db dr ly lb lr lz ldb ldr is other =
    let each = λ (x : ℕ) (lt : x < n).
    only_coded depth (slice_index r x) (slice_index g x) (slice_index b x) (slice_index y x) (slice_index cb x) (slice_index cr x) (slice_index z x) (slice_index db x) (slice_index dr x)
    (is x lt) (other x lt) in
    (same n y z ly lz (λ x lt. (each x lt).0), same n cb db lb ldb (λ x lt. (each x lt).1), same n cr dr lr ldr (λ x lt. (each x lt).2))
