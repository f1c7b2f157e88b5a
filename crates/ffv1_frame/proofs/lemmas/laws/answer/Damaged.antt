-- A payload that was damaged within one slice is refused by the parity of that slice.
use Rattle.std.proofs.Common.{◌≡◌, ◌≢◌, refl, ℕ, zero, suc, ◌+◌, ◌-◌, ◌*◌, ◌^◌, ◌<◌, ◌≤◌, List, length, get_or, drop, inl, inr, ap, sym, subst, ◌∙◌, arith}
use Rattle.std.specs.Prelude.{bit_xor}
use Rattle.std.proofs.lemmas.Bool.{cases_lt, cases_eq}
use Rattle.std.proofs.lemmas.List.{ext_get_or, get_or-take, get_or-drop, length-take-le, length-drop}
use Rattle.ffv1_range.specs.Codes.{AreBytes, value}
use Rattle.ffv1_record.specs.Configuration.{Configuration}
use Rattle.ffv1_record.specs.Parity.{remainder_of}
use Rattle.ffv1_slice.specs.Footer.{foot_length}
use Rattle.ffv1_slice.specs.Cutting.{Cuts, IsCutting, IsSound, IsWhole, IsRefused, IsDamaged, size_before, slice_of}
use Rattle.ffv1_slice.specs.declared.fault.SliceFault.TheVariants as fault
use Rattle.ffv1_frame.specs.Damage.{IsBurst}
use Rattle.ffv1_frame.proofs.lemmas.JoinedLines.{take_small}

abbrev pub Burst : Type 0
Burst = (xs ys : List ℕ) (bits place : ℕ) → AreBytes xs → AreBytes ys → length xs ≡ length ys → 0 < bits → bits < 2 ^ 32 →
    bit_xor (value xs (length xs)) (value ys (length ys)) ≡ bits * 2 ^ place → remainder_of xs ≡ remainder_of ys → ⊥

slice_bytes_are : (payload : List ℕ) (spans : ℕ → ℕ) (s : ℕ) → AreBytes payload → AreBytes (slice_of payload spans s)
slice_bytes_are payload spans s are k =
    take_small 256 (omega arith) (spans (suc s) - spans s) (drop (spans s) payload) (λ j. rw (get_or-drop (spans s) payload j 0) (are (spans s + j))) k

module _ (c : Configuration) (sent payload : List ℕ) (spans : ℕ → ℕ) (s : ℕ) (damage : IsBurst c sent payload spans s) (cut : IsCutting sent 8 (c.columns * c.rows) spans) where
  rises : (k more : ℕ) → k + more ≤ c.columns * c.rows → spans k ≤ spans (k + more)
  rises k zero fits = rw (let same : k + 0 ≡ k = omega arith in same) (omega arith)
  rises k (suc more) fits =
      let rest = rises k more (omega (arith, fits)) in
      let next = cut.each (k + more) (omega (arith, fits)) in
      let place : spans (suc (k + more)) ≡ spans (k + suc more) = ap spans (let same : suc (k + more) ≡ k + suc more = omega arith in same) in
      omega (arith, rest, next, place)

  risen : (k j : ℕ) → k ≤ j → j ≤ c.columns * c.rows → spans k ≤ spans j
  risen k j less fits = subst (λ n. spans k ≤ spans n) (let same : k + (j - k) ≡ j = omega (arith, less) in same) (rises k (j - k) (omega (arith, less, fits)))

  -- the slices beside are as they were
  outside : (k i : ℕ) → k ≢ s → k < c.columns * c.rows → spans k ≤ i → i < spans (suc k) → get_or payload i 0 ≡ get_or sent i 0
  outside k i other inside least most = elim (cases_lt k s) [
    | inl below ↦
        let up = risen (suc k) s below (omega (arith, damage.inside)) in
        damage.others i (inl (omega (arith, most, up)))
    | inr above ↦
        let up = risen (suc s) k (omega (arith, above, other)) (omega (arith, inside)) in
        damage.others i (inr (omega (arith, least, up)))
  ]

  same_size : (k : ℕ) → k < c.columns * c.rows → size_before payload 8 (spans (suc k)) ≡ size_before sent 8 (spans (suc k))
  same_size k inside = elim (cases_eq k s) [
    | inl same ↦ subst (λ n. size_before payload 8 (spans (suc n)) ≡ size_before sent 8 (spans (suc n))) (sym same) damage.size
    | inr other ↦
        let sized = cut.each k inside in
        let high = outside k (spans (suc k) - 8) other inside (omega (arith, sized)) (omega (arith, sized)) in
        let middle = outside k (spans (suc k) - 8 + 1) other inside (omega (arith, sized)) (omega (arith, sized)) in
        let low = outside k (spans (suc k) - 8 + 2) other inside (omega (arith, sized)) (omega (arith, sized)) in
        omega (arith, high, middle, low)
  ]

  same_cutting : IsCutting payload 8 (c.columns * c.rows) spans
  same_cutting = record {
    first = cut.first;
    last = cut.last ∙ sym damage.long;
    each = λ k inside. let same = same_size k inside in let sized = cut.each k inside in omega (arith, same, sized);
  }

  slice_long : (bytes : List ℕ) (k : ℕ) → length bytes ≡ length sent → k < c.columns * c.rows → length (slice_of bytes spans k) ≡ spans (suc k) - spans k
  slice_long bytes k long inside =
      let up = risen (suc k) (c.columns * c.rows) inside (omega arith) in
      let last = cut.last in
      length-take-le (spans (suc k) - spans k) (drop (spans k) bytes) (rw (length-drop (spans k) bytes) (omega (arith, up, last, long)))

  same_slice : (k : ℕ) → k ≢ s → k < c.columns * c.rows → slice_of payload spans k ≡ slice_of sent spans k
  same_slice k other inside =
      let mine = slice_long payload k damage.long inside in
      let theirs = slice_long sent k refl inside in
      ext_get_or 0 (slice_of payload spans k) (slice_of sent spans k) (mine ∙ sym theirs) (λ i h.
      let here : i < spans (suc k) - spans k = omega (arith, h, mine) in
      get_or-take (spans (suc k) - spans k) (drop (spans k) payload) i 0 here ∙ get_or-drop (spans k) payload i 0
      ∙ outside k (spans k + i) other inside (omega arith) (omega (arith, here))
      ∙ sym (get_or-take (spans (suc k) - spans k) (drop (spans k) sent) i 0 here ∙ get_or-drop (spans k) sent i 0))

  still_whole : (k : ℕ) → k < s → IsWhole sent spans k → IsWhole payload spans k
  still_whole k below whole =
      let other : k ≢ s = omega (arith, below) in
      let inside : k < c.columns * c.rows = omega (arith, below, damage.inside) in
      let sized = cut.each k inside in
      record {
        parity = ap remainder_of (same_slice k other inside) ∙ whole.parity;
        status = outside k (spans (suc k) - 5) other inside (omega (arith, sized)) (omega (arith, sized)) ∙ whole.status;
      }

  pub is_refused : AreBytes sent → AreBytes payload → Burst → ((k : ℕ) → k < c.columns * c.rows → IsWhole sent spans k) → IsDamaged c payload s fault.SliceParity
  is_refused sent_are are burst whole = record {
    guarded = damage.guarded;
    inside = damage.inside;
    spans = spans;
    cutting = same_cutting;
    before = λ k below. still_whole k below (whole k (omega (arith, below, damage.inside)));
    damage = inl (
      refl,
      λ same.
          burst (slice_of sent spans s) (slice_of payload spans s) damage.bits damage.place (slice_bytes_are sent spans s sent_are) (slice_bytes_are payload spans s are)
          (slice_long sent s refl damage.inside ∙ sym (slice_long payload s damage.long damage.inside)) damage.some damage.few damage.differs
          ((whole s damage.inside).parity ∙ sym same),
    );
  }

pub is_damaged : (c : Configuration) (sent payload : List ℕ) (spans : ℕ → ℕ) (s : ℕ) → AreBytes sent → AreBytes payload → Burst → Cuts c sent spans → IsBurst c sent payload spans s →
    IsRefused c payload (record { fault = fault.SliceParity; slice = s })
is_damaged c sent payload spans s sent_are are burst cuts damage =
    let cut : IsCutting sent 8 (c.columns * c.rows) spans = subst (λ ec. IsCutting sent (foot_length ec) (c.columns * c.rows) spans) damage.guarded cuts.cutting in
    let whole : (k : ℕ) → k < c.columns * c.rows → IsWhole sent spans k = λ k inside. subst (λ ec. IsSound ec sent spans k) damage.guarded (cuts.sound k inside) in
    inr (inr (is_refused c sent payload spans s damage cut sent_are are burst whole))
