-- The first fault of an image of PPM is the one that reading it meets.
use Rattle.std.proofs.Common.{◌≡◌, ◌⊎◌, ℕ, ◌*◌, ◌≤◌, nat_lt, Bool, true, false, cond, Option, Some, List, [], ◌∷◌, ◌++◌, length, take, drop, Ok, Err, inl, inr, refl, ap, ◌∙◌, sym, subst, take-append-drop, length-take, length-append, arith}
use Rattle.std.proofs.lemmas.Bool.{le-ltb, lt-ltb, ltb-false, ltb-true, true≢false, false≢true}
use Rattle.std.proofs.Math.Seq.{take-append_seam, drop-append_seam}
use Rattle.ffv1_y4m.specs.declared.fault.Fault.{Fault}
use Rattle.ffv1_y4m.specs.declared.fault.Fault.TheVariants as fault
use Rattle.ffv1_y4m.specs.declared.head.DeepHead.{DeepHead}
use Rattle.ffv1_y4m.specs.Ppm.{GrowsInImage, all_in_depth, colours_read, image_begun, image_bytes, image_header, image_read, image_rest, judged_planes, parted, same_format}
use Rattle.ffv1_y4m.specs.Reads.{Nowhere, Refused}
use Rattle.ffv1_y4m.specs.Sequence.{Outcome, ◌>>=◌, give, refuse}
use Rattle.ffv1_y4m.specs.FirstFaults.{is_there}
use Rattle.ffv1_y4m.specs.VideoHead.{colour_head}
use Rattle.ffv1_y4m.specs.ImageFaults.{HasImageHeader, ImageFault, ImageHeaderFault, SamplesFault, has_format}
use Rattle.ffv1_y4m.proofs.AnswerParts.{is_fault, rest_in, value_in}
use Rattle.ffv1_y4m.proofs.FirstFaults.{not_memory, refused_as}
use Rattle.ffv1_y4m.proofs.HeaderFaults.{same_fault}
use Rattle.ffv1_y4m.proofs.HeaderParts.{image_header_empty, image_header_known, image_header_only, image_header_refused}
use Rattle.ffv1_y4m.proofs.ImagesRead.{header_read}
use Rattle.ffv1_y4m.proofs.ImageTexts.{depth_said, image_header_found}
use Rattle.ffv1_y4m.proofs.PictureFaults.{given_fault, not_both}

-- ---- samples

judged_by : (b : Bool) (planes : List (List ℕ)) (rest : List ℕ) (f : Fault) (left : List ℕ) → cond {A = Outcome (List (List ℕ))} b (Ok (planes, rest)) (Err (fault.SampleTooLarge, rest)) ≡ Err (f, left) → (b ≡ false) × (f ≡ fault.SampleTooLarge)
judged_by true planes rest f left e = absurd (false≢true (ap is_fault e))
judged_by false planes rest f left e = (refl, sym (same_fault fault.SampleTooLarge f rest left e).0)

samples_by : (b : Bool) (depth size : ℕ) (text : List ℕ) (f : Fault) (rest : List ℕ) → nat_lt (length text) (3 * size) ≡ b → cond b (Err (fault.FrameTruncated, [])) (judged_planes depth (parted depth (take (3 * size) text)) (drop (3 * size) text)) ≡ Err (f, rest) → SamplesFault depth size text f
samples_by true depth size text f rest p e = inl (ltb-true (length text) (3 * size) p, sym (same_fault fault.FrameTruncated f [] rest e).0)
samples_by false depth size text f rest p e =
    let enough : 3 * size ≤ length text = ltb-false (length text) (3 * size) p in
    let k = judged_by (all_in_depth depth (parted depth (take (3 * size) text))) (parted depth (take (3 * size) text)) (drop (3 * size) text) f rest e in
    inr (take (3 * size) text, drop (3 * size) text, length-take (3 * size) text ∙ (omega (arith, enough)), sym (take-append-drop (3 * size) text), k.0, k.1)

pub samples_known : (depth size : ℕ) (text : List ℕ) (f : Fault) (rest : List ℕ) → colours_read depth size text ≡ Err (f, rest) → SamplesFault depth size text f
samples_known depth size text f rest e = samples_by (nat_lt (length text) (3 * size)) depth size text f rest refl e

large_found : (depth size : ℕ) (samples rest : List ℕ) → length samples ≡ 3 * size → all_in_depth depth (parted depth samples) ≡ false → colours_read depth size (samples ++ rest) ≡ Err (fault.SampleTooLarge, rest)
large_found depth size samples rest long large =
    let enough : nat_lt (length (samples ++ rest)) (3 * size) ≡ false = le-ltb _ _ (omega (arith, length-append samples rest, long)) in
    rw (enough, ← long, take-append_seam samples rest, drop-append_seam samples rest, large) refl

pub samples_refused : (depth size : ℕ) (text : List ℕ) (f : Fault) → SamplesFault depth size text f → (rest : List ℕ) × (colours_read depth size text ≡ Err (f, rest))
samples_refused depth size text f (inl (short, why)) =
    let ends : nat_lt (length text) (3 * size) ≡ true = lt-ltb _ _ short in
    ([], rw (ends, why) refl)
samples_refused depth size text f (inr (samples, rest, long, is, large, why)) = (rest, rw (is, why) (large_found depth size samples rest long large))

pub samples_only : (depth size : ℕ) (text : List ℕ) (f g : Fault) → SamplesFault depth size text f → SamplesFault depth size text g → f ≡ g
samples_only depth size text f g a b =
    let one = samples_refused depth size text f a in
    let other = samples_refused depth size text g b in
    (same_fault f g one.0 other.0 (sym one.1 ∙ other.1)).0

-- ---- a later image

pub header_there : (most : ℕ) (text : List ℕ) (next : DeepHead) (rest : List ℕ) → image_header most text ≡ Ok (next, rest) → (header : List ℕ) × HasImageHeader most text next.depth next.head.width next.head.height header rest
header_there most text next rest is =
    let t = header_read most text next rest is in
    (t.header, record { sized = t.sized; named = t.named; small = t.most_is; is = t.is; whole = t.whole })

pub header_is : (most : ℕ) (text : List ℕ) (depth width height : ℕ) (header rest : List ℕ) → HasImageHeader most text depth width height header rest → image_header most text ≡ Ok (record { head = colour_head width height; depth = depth }, rest)
header_is most text depth width height header rest h =
    ap (image_header most) h.whole ∙ image_header_found most depth width height header rest (record { sized = h.sized; few = h.named.most; says = depth_said most depth width height h.named h.small }) h.is

format_by : (b : Bool) (text : List ℕ) (f : Fault) (rest : List ℕ) → cond b (give true) (refuse fault.FormatChanged) text ≡ Err (f, rest) → (b ≡ false) × (f ≡ fault.FormatChanged)
format_by true text f rest e = absurd (false≢true (ap is_fault e))
format_by false text f rest e = (refl, sym (same_fault fault.FormatChanged f text rest e).0)

abbrev bool_in : Outcome Bool → Bool
bool_in (Ok p) = p.0
bool_in (Err f) = false

format_is : (b : Bool) (text rest : List ℕ) → cond b (give true) (refuse fault.FormatChanged) text ≡ Ok (true, rest) → (b ≡ true) × (text ≡ rest)
format_is true text rest e = (refl, ap rest_in e)
format_is false text rest e = absurd (true≢false (ap is_fault e))

no_end : (b : Bool) (text rest : List ℕ) → cond b (give true) (refuse fault.FormatChanged) text ≡ Ok (false, rest) → ⊥
no_end true text rest e = true≢false (ap bool_in e)
no_end false text rest e = true≢false (ap is_fault e)

-- what comes after a header
begun_known : (most : ℕ) (said : DeepHead) (text : List ℕ) (f : Fault) (rest : List ℕ) (o : Outcome DeepHead) → is_there text ≡ true → image_header most text ≡ o → (o >>= λ p. same_format said p.0 p.1) ≡ Err (f, rest) → (n : ℕ) × ImageFault most said text f n
begun_known most said text f rest (Err (g, left)) there is e =
    let k = image_header_known most text f left (is ∙ ap (λ z. Err (z, left)) (same_fault g f left rest e).0) in
    (k.0, inl (there, k.1))
begun_known most said text f rest (Ok (next, left)) there is e =
    let t = header_there most text next left is in
    let k = format_by (has_format said next.depth next.head.width next.head.height) left f rest e in
    (0, inr (next.depth, next.head.width, next.head.height, t.0, left, t.1, inl (k.0, k.1, refl)))

samples_after : (most : ℕ) (said : DeepHead) (text left : List ℕ) (f : Fault) (rest : List ℕ) (o : Outcome DeepHead) → image_header most text ≡ o → (o >>= λ p. same_format said p.0 p.1) ≡ Ok (true, left) → colours_read said.depth (image_bytes said) left ≡ Err (f, rest) → (n : ℕ) × ImageFault most said text f n
samples_after most said text left f rest (Err e) is begun fails = absurd (true≢false (ap is_fault begun))
samples_after most said text left f rest (Ok (next, mid)) is begun fails =
    let t = header_there most text next mid is in
    let k = format_is (has_format said next.depth next.head.width next.head.height) mid left begun in
    let s = samples_known said.depth (image_bytes said) left f rest fails in
    (length t.0, inr (next.depth, next.head.width, next.head.height, t.0, mid, t.1, inr (k.0, subst (λ z. SamplesFault said.depth (image_bytes said) z f) (sym k.1) s, refl)))

begun_by : (most : ℕ) (said : DeepHead) (text : List ℕ) (f : Fault) (rest : List ℕ) (o : Outcome Bool) → is_there text ≡ true → (image_header most text >>= λ p. same_format said p.0 p.1) ≡ o → (o >>= λ p. image_rest said p.0 p.1) ≡ Err (f, rest) → (n : ℕ) × ImageFault most said text f n
begun_by most said text f rest (Err (g, left)) there is e = begun_known most said text f left (image_header most text) there refl (is ∙ ap (λ z. Err (z, left)) (same_fault g f left rest e).0)
begun_by most said text f rest (Ok (false, left)) there is e = absurd (false≢true (ap is_fault e))
begun_by most said text f rest (Ok (true, left)) there is e = samples_after most said text left f rest (image_header most text) refl is (given_fault (colours_read said.depth (image_bytes said) left) f rest e)

pub image_known : (most : ℕ) (said : DeepHead) (text : List ℕ) (f : Fault) (rest : List ℕ) → image_read most said false text ≡ Err (f, rest) → (n : ℕ) × ImageFault most said text f n
image_known most said [] f rest e = absurd (false≢true (ap is_fault e))
image_known most said (c ∷ cs) f rest e = begun_by most said (c ∷ cs) f rest (image_begun most said (c ∷ cs)) refl refl e

begun_there : (most : ℕ) (said : DeepHead) (text : List ℕ) → is_there text ≡ true → image_begun most said text ≡ (image_header most text >>= λ p. same_format said p.0 p.1)
begun_there most said [] there = absurd (false≢true there)
begun_there most said (c ∷ cs) there = refl

none_has : (most depth width height : ℕ) (header rest : List ℕ) → HasImageHeader most [] depth width height header rest → ⊥
none_has most depth width height header rest h =
    let read = header_is most [] depth width height header rest h in
    let k = image_header_empty most in
    not_both (record { head = colour_head width height; depth = depth }) rest k.0 fault.Header (image_header most []) read k.1

has_there : (most : ℕ) (text : List ℕ) (depth width height : ℕ) (header rest : List ℕ) → HasImageHeader most text depth width height header rest → is_there text ≡ true
has_there most [] depth width height header rest h = absurd (none_has most depth width height header rest h)
has_there most (c ∷ cs) depth width height header rest h = refl

pub image_refused : (most : ℕ) (said : DeepHead) (text : List ℕ) (f : Fault) (n : ℕ) → ImageFault most said text f n → (rest : List ℕ) × (image_read most said false text ≡ Err (f, rest))
image_refused most said text f n (inl (there, h)) =
    let k = image_header_refused most text f n h in
    (k.0, rw (begun_there most said text there, k.1) refl)
image_refused most said text f n (inr (depth, width, height, header, rest, h, inl (other, why, at))) =
    (rest, rw (begun_there most said text (has_there most text depth width height header rest h), header_is most text depth width height header rest h, other, why) refl)
image_refused most said text f n (inr (depth, width, height, header, rest, h, inr (same, fails, at))) =
    let k = samples_refused said.depth (image_bytes said) rest f fails in
    (k.0, rw (begun_there most said text (has_there most text depth width height header rest h), header_is most text depth width height header rest h, same, k.1) refl)

-- ---- there is one

pub header_apart : (most : ℕ) (text : List ℕ) (f : Fault) (n depth width height : ℕ) (header rest : List ℕ) → ImageHeaderFault most text f n → HasImageHeader most text depth width height header rest → ⊥
header_apart most text f n depth width height header rest fails h =
    let k = image_header_refused most text f n fails in
    not_both (record { head = colour_head width height; depth = depth }) rest k.0 f (image_header most text) (header_is most text depth width height header rest h) k.1

pub record Same (depth width height other wide high : ℕ) (header begun rest left : List ℕ) : Type 0 where
  pub deep : depth ≡ other
  pub across : width ≡ wide
  pub down : height ≡ high
  pub tail : rest ≡ left
  pub long : length header ≡ length begun

pub one_header : (most : ℕ) (text : List ℕ) (depth width height other wide high : ℕ) (header begun rest left : List ℕ) → HasImageHeader most text depth width height header rest → HasImageHeader most text other wide high begun left → Same depth width height other wide high header begun rest left
one_header most text depth width height other wide high header begun rest left a b =
    let both : ◌≡◌ {A = Outcome DeepHead} (Ok (record { head = colour_head width height; depth = depth }, rest)) (Ok (record { head = colour_head wide high; depth = other }, left)) = sym (header_is most text depth width height header rest a) ∙ header_is most text other wide high begun left b in
    let said : ◌≡◌ {A = DeepHead} (record { head = colour_head width height; depth = depth }) (record { head = colour_head wide high; depth = other }) = ap (value_in (record { head = colour_head width height; depth = depth })) both in
    let tails : rest ≡ left = ap rest_in both in
    let sizes : length (header ++ rest) ≡ length (begun ++ left) = ap (λ z. length z) (sym a.whole ∙ b.whole) in
    let ends : length rest ≡ length left = ap (λ z. length z) tails in
    record {
      deep = ap (λ (z : DeepHead). z.depth) said;
      across = ap (λ (z : DeepHead). z.head.width) said;
      down = ap (λ (z : DeepHead). z.head.height) said;
      tail = tails;
      long = omega (arith, sizes, ends, length-append header rest, length-append begun left);
    }

-- what may be wrong with an image after its header
abbrev After : DeepHead → ℕ → ℕ → ℕ → List ℕ → List ℕ → Fault → ℕ → Type 0
After said depth width height header rest f n =
    ((has_format said depth width height ≡ false) × (f ≡ fault.FormatChanged) × (n ≡ 0))
    ⊎ ((has_format said depth width height ≡ true) × SamplesFault said.depth (image_bytes said) rest f × (n ≡ length header))

one_after : (said : DeepHead) (depth width height : ℕ) (header begun rest : List ℕ) (f g : Fault) (m n : ℕ) → length header ≡ length begun → After said depth width height header rest f m → After said depth width height begun rest g n → (f ≡ g) × (m ≡ n)
one_after said depth width height header begun rest f g m n long (inl (other, why, at)) (inl (too, because, there)) = (why ∙ sym because, at ∙ sym there)
one_after said depth width height header begun rest f g m n long (inl (other, why, at)) (inr (same, fails, there)) = absurd (false≢true (sym other ∙ same))
one_after said depth width height header begun rest f g m n long (inr (same, fails, at)) (inl (other, why, there)) = absurd (false≢true (sym other ∙ same))
one_after said depth width height header begun rest f g m n long (inr (same, fails, at)) (inr (too, lacks, there)) = (samples_only said.depth (image_bytes said) rest f g fails lacks, at ∙ (long ∙ sym there))

pub image_only : (most : ℕ) (said : DeepHead) (text : List ℕ) (f g : Fault) (m n : ℕ) → ImageFault most said text f m → ImageFault most said text g n → (f ≡ g) × (m ≡ n)
image_only most said text f g m n (inl (there, a)) (inl (too, b)) = image_header_only most text f g m n a b
image_only most said text f g m n (inl (there, a)) (inr k) = absurd (header_apart most text f m k.0 k.1 k.2 k.3 k.4 a k.5)
image_only most said text f g m n (inr k) (inl (there, b)) = absurd (header_apart most text g n k.0 k.1 k.2 k.3 k.4 b k.5)
image_only most said text f g m n (inr (depth, width, height, header, rest, a, after)) (inr (other, wide, high, begun, left, b, behind)) =
    let s = one_header most text depth width height other wide high header begun rest left a b in
    let moved : After said other wide high header left f m = subst (λ z. After said z wide high header left f m) s.deep (subst (λ z. After said depth z high header left f m) s.across (subst (λ z. After said depth width z header left f m) s.down (subst (λ z. After said depth width height header z f m) s.tail after))) in
    one_after said other wide high header begun left f g m n s.long moved behind

-- ---- the fault that a call answers

pub image_answered : (most : ℕ) (said : DeepHead) (text : List ℕ) (new : Option (List ℕ)) (before after : ℕ) (f : Fault) → Refused (image_read most said false) (GrowsInImage most said false) (record { old = Some text; new = new; before = before; after = after }) f →
    (f ≡ fault.Read → ⊥) → (f ≡ fault.OutOfMemory → ⊥) → (n : ℕ) × ImageFault most said text f n
image_answered most said text new before after f why a b =
    let k = refused_as (image_read most said false) (GrowsInImage most said false) text new before after f why a b in
    image_known most said text f k.0 k.1

pub first_image_answered : (most : ℕ) (said : DeepHead) (text : List ℕ) (new : Option (List ℕ)) (before after : ℕ) (f : Fault) → Refused (image_read most said true) (GrowsInImage most said true) (record { old = Some text; new = new; before = before; after = after }) f →
    (f ≡ fault.Read → ⊥) → (f ≡ fault.OutOfMemory → ⊥) → SamplesFault said.depth (image_bytes said) text f
first_image_answered most said text new before after f why a b =
    let k = refused_as (image_read most said true) (GrowsInImage most said true) text new before after f why a b in
    samples_known said.depth (image_bytes said) text f k.0 (given_fault (colours_read said.depth (image_bytes said) text) f k.0 k.1)

pub image_header_answered : (most : ℕ) (text : List ℕ) (new : Option (List ℕ)) (before after : ℕ) (f : Fault) → Refused (image_header most) Nowhere (record { old = Some text; new = new; before = before; after = after }) f → (f ≡ fault.Read → ⊥) → (n : ℕ) × ImageHeaderFault most text f n
image_header_answered most text new before after f why a =
    let k = refused_as (image_header most) Nowhere text new before after f why a (not_memory (image_header most) (record { old = Some text; new = new; before = before; after = after }) f why) in
    image_header_known most text f k.0 k.1
