-- The transform of a line as lists.
use Rattle.std.proofs.Common.{◌≡◌, refl, ap, ◌∙◌, sym, ℕ, zero, suc, ◌<◌, ◌^◌, List, [], ◌∷◌, length, slice_index, arith, pos}
use Rattle.std.specs.Prelude.{unsigned_abs}
use Rattle.std.proofs.lemmas.List.{ext_get_or}
use Rattle.ffv1_rct.specs.Transform.{luma_of, chroma_in}
use Rattle.ffv1_rct.specs.Lines.{AreCodedIn, lumas, chromas_in}
use Rattle.ffv1_rct.proofs.Places.{coded_of_samples}

pub luma_long : (rs gs bs : List ℕ) → length gs ≡ length rs → length bs ≡ length rs → length (lumas rs gs bs) ≡ length rs
luma_long [] gs bs h k = refl
luma_long (r ∷ rs) [] bs h k = absurd (omega (arith, h))
luma_long (r ∷ rs) (g ∷ gs) [] h k = absurd (omega (arith, k))
luma_long (r ∷ rs) (g ∷ gs) (b ∷ bs) h k = ap suc (luma_long rs gs bs (omega (arith, h)) (omega (arith, k)))

pub chroma_long : (depth : ℕ) (vs gs : List ℕ) → length gs ≡ length vs → length (chromas_in depth vs gs) ≡ length vs
chroma_long depth [] gs h = refl
chroma_long depth (v ∷ vs) [] h = absurd (omega (arith, h))
chroma_long depth (v ∷ vs) (g ∷ gs) h = ap suc (chroma_long depth vs gs (omega (arith, h)))

luma_at : (rs gs bs : List ℕ) (x : ℕ) → length gs ≡ length rs → length bs ≡ length rs → x < length rs
    → slice_index (lumas rs gs bs) x ≡ unsigned_abs (luma_of (slice_index rs x) (slice_index gs x) (slice_index bs x))
luma_at [] gs bs x h k lt = absurd (omega (arith, lt))
luma_at (r ∷ rs) [] bs x h k lt = absurd (omega (arith, h))
luma_at (r ∷ rs) (g ∷ gs) [] x h k lt = absurd (omega (arith, k))
luma_at (r ∷ rs) (g ∷ gs) (b ∷ bs) zero h k lt = refl
luma_at (r ∷ rs) (g ∷ gs) (b ∷ bs) (suc x) h k lt = luma_at rs gs bs x (omega (arith, h)) (omega (arith, k)) (omega (arith, lt))

chroma_at : (depth : ℕ) (vs gs : List ℕ) (x : ℕ) → length gs ≡ length vs → x < length vs → slice_index (chromas_in depth vs gs) x ≡ unsigned_abs (chroma_in depth (slice_index vs x) (slice_index gs x))
chroma_at depth [] gs x h lt = absurd (omega (arith, lt))
chroma_at depth (v ∷ vs) [] x h lt = absurd (omega (arith, h))
chroma_at depth (v ∷ vs) (g ∷ gs) zero h lt = refl
chroma_at depth (v ∷ vs) (g ∷ gs) (suc x) h lt = chroma_at depth vs gs x (omega (arith, h)) (omega (arith, lt))

same_lumas : (n : ℕ) (r g b y : List ℕ) → length r ≡ n → length g ≡ n → length b ≡ n → length y ≡ n
    → ((x : ℕ) → x < n → pos (slice_index y x) ≡ luma_of (slice_index r x) (slice_index g x) (slice_index b x)) → y ≡ lumas r g b
same_lumas n r g b y lr lg lb ly each = ext_get_or 0 y (lumas r g b) (ly ∙ sym lr ∙ sym (luma_long r g b (lg ∙ sym lr) (lb ∙ sym lr)))
    (λ x lt. ap unsigned_abs (each x (omega (arith, lt, ly))) ∙ sym (luma_at r g b x (lg ∙ sym lr) (lb ∙ sym lr) (omega (arith, lt, ly, lr))))

same_chromas : (depth n : ℕ) (v g c : List ℕ) → length v ≡ n → length g ≡ n → length c ≡ n
    → ((x : ℕ) → x < n → pos (slice_index c x) ≡ chroma_in depth (slice_index v x) (slice_index g x)) → c ≡ chromas_in depth v g
same_chromas depth n v g c lv lg lc each = ext_get_or 0 c (chromas_in depth v g) (lc ∙ sym lv ∙ sym (chroma_long depth v g (lg ∙ sym lv)))
    (λ x lt. ap unsigned_abs (each x (omega (arith, lt, lc))) ∙ sym (chroma_at depth v g x (lg ∙ sym lv) (omega (arith, lt, lc, lv))))

pub lists_if_coded : (depth n : ℕ) (r g b y cb cr : List ℕ) → length r ≡ n → length g ≡ n → length b ≡ n → length y ≡ n → length cb ≡ n → length cr ≡ n
    → AreCodedIn depth n r g b y cb cr → (y ≡ lumas r g b) × (cb ≡ chromas_in depth b g) × (cr ≡ chromas_in depth r g)
lists_if_coded depth n r g b y cb cr lr lg lb ly lu lv is = (
  same_lumas n r g b y lr lg lb ly (λ x lt. (is x lt).luma),
  same_chromas depth n b g cb lb lg lu (λ x lt. (is x lt).blue),
  same_chromas depth n r g cr lr lg lv (λ x lt. (is x lt).red),
)

pub coded_lists : (depth n : ℕ) (r g b : List ℕ) → length r ≡ n → length g ≡ n → length b ≡ n
    → ((x : ℕ) → slice_index r x < 2 ^ depth) → ((x : ℕ) → slice_index g x < 2 ^ depth) → ((x : ℕ) → slice_index b x < 2 ^ depth) → AreCodedIn depth n r g b (lumas r g b) (chromas_in depth b g) (chromas_in depth r g)
coded_lists depth n r g b lr lg lb sr sg sb = λ x lt.
    let y = luma_at r g b x (lg ∙ sym lr) (lb ∙ sym lr) (omega (arith, lt, lr)) in
    let cb = chroma_at depth b g x (lg ∙ sym lb) (omega (arith, lt, lb)) in
    let cr = chroma_at depth r g x (lg ∙ sym lr) (omega (arith, lt, lr)) in
    rw (y, cb, cr) (coded_of_samples depth (slice_index r x) (slice_index g x) (slice_index b x) (sr x) (sg x) (sb x))
