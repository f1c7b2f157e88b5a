-- The first fault of a text of YUV4MPEG2 is the one that reading it meets.
use Rattle.std.proofs.Common.{◌≡◌, ℕ, ◌+◌, ◌≤◌, ◌==◌, nat_lt, Bool, true, false, cond, Some, List, [], ◌∷◌, ◌++◌, length, take, drop, Ok, Err, inl, inr, refl, ap, ◌∙◌, sym, subst, take-append-drop, length-take, arith}
use Rattle.std.proofs.Math.Seq.{take-append_seam, drop-append_seam}
use Rattle.std.proofs.lemmas.Grind.{common_steps}
use Rattle.std.proofs.lemmas.Bool.{eqb-true, le-ltb, lt-ltb, ltb-false, ltb-true, false≢true}
use Rattle.ffv1_samples.specs.Samples.{are_in_depth}
use Rattle.ffv1_y4m.specs.declared.fault.Fault.{Fault}
use Rattle.ffv1_y4m.specs.declared.fault.Fault.TheVariants as fault
use Rattle.ffv1_y4m.specs.declared.head.VideoHead.{VideoHead}
use Rattle.ffv1_y4m.specs.Sequence.{Outcome, ◌>>=◌, ◌then◌, give, where_begun}
use Rattle.ffv1_y4m.specs.Pictures.{begun_with, bytes_read, frame_begun, frame_line, picture_read, plane_read, planes_read}
use Rattle.ffv1_y4m.specs.VideoHead.{plane_bytes}
use Rattle.ffv1_y4m.specs.FirstFaults.{FrameLineFault, HasPlane, PictureFault, PlaneFault, PlanesFault, is_there}
use Rattle.ffv1_y4m.proofs.AnswerParts.{is_fault, rest_in}
use Rattle.ffv1_y4m.proofs.Frames.{bytes_behind, bytes_end, frame_found, frame_only}
use Rattle.ffv1_y4m.proofs.HeaderFaults.{same_fault}
use Rattle.ffv1_y4m.proofs.Texts.{plane_found, plane_only}

pub not_both : {X : Type 0} (x : X) (u v : List ℕ) (f : Fault) (o : Outcome X) → o ≡ Ok (x, u) → o ≡ Err (f, v) → ⊥
not_both x u v f o a b = false≢true (ap is_fault (sym a ∙ b))

-- ---- the line that begins a picture

bytes_by : (b : Bool) (x : ℕ) (line : List ℕ) (c : ℕ) (cs : List ℕ) (f : Fault) (rest : List ℕ) → (c == x) ≡ b → (bytes_read line cs ≡ Err (f, rest) → FrameLineFault line cs f) → cond b (bytes_read line cs) (Err (fault.FrameLine, cs)) ≡ Err (f, rest) → FrameLineFault (x ∷ line) (c ∷ cs) f
bytes_by false x line c cs f rest test more e = ([], line, x, refl, inl (c, cs, refl, test, sym (same_fault fault.FrameLine f cs rest e).0))
bytes_by true x line c cs f rest test more e = longer (more e)
  where
    same : c ≡ x
    same = eqb-true c x test

    longer : FrameLineFault line cs f → FrameLineFault (x ∷ line) (c ∷ cs) f
    longer (begun, after, next, is, inl (d, left, text, other, why)) = (x ∷ begun, after, next, ap (λ z. x ∷ z) is, inl (d, left, rw same (ap (λ z. x ∷ z) text), other, why))
    longer (begun, after, next, is, inr (text, why)) = (x ∷ begun, after, next, ap (λ z. x ∷ z) is, inr (rw same (ap (λ z. x ∷ z) text), why))

bytes_known : (line text : List ℕ) (f : Fault) (rest : List ℕ) → bytes_read line text ≡ Err (f, rest) → FrameLineFault line text f
bytes_known [] text f rest e = absurd (false≢true (ap is_fault e))
bytes_known (x ∷ line) [] f rest e = ([], line, x, refl, inr (refl, sym (same_fault fault.FrameTruncated f [] rest e).0))
bytes_known (x ∷ line) (c ∷ cs) f rest e = bytes_by (c == x) x line c cs f rest refl (λ h. bytes_known line cs f rest h) e

bytes_refused : (line text : List ℕ) (f : Fault) → FrameLineFault line text f → (rest : List ℕ) × (bytes_read line text ≡ Err (f, rest))
bytes_refused line text f (begun, more, next, is, inl (c, rest, text_is, other, why)) = (rest, rw (is, text_is, why, bytes_behind begun (next ∷ more) (c ∷ rest), other) refl)
bytes_refused line text f (begun, more, next, is, inr (text_is, why)) = ([], rw (is, text_is, why) (bytes_end begun more next))

-- a text that has begun
begun_known : (line text : List ℕ) (f : Fault) (rest : List ℕ) → begun_with line text ≡ Err (f, rest) → (is_there text ≡ true) × FrameLineFault line text f
begun_known line [] f rest e = absurd (false≢true (ap is_fault e))
begun_known line (c ∷ cs) f rest e = (refl, bytes_known line (c ∷ cs) f rest e)

begun_refused : (line text : List ℕ) (f : Fault) → is_there text ≡ true → FrameLineFault line text f → (rest : List ℕ) × (begun_with line text ≡ Err (f, rest))
begun_refused line [] f there h = absurd (false≢true there)
begun_refused line (c ∷ cs) f there h = bytes_refused line (c ∷ cs) f h

frame_known : (text : List ℕ) (f : Fault) (rest : List ℕ) → frame_begun text ≡ Err (f, rest) → (is_there text ≡ true) × FrameLineFault frame_line text f
unfolding frame_begun
frame_known text f rest e = begun_known frame_line text f rest e

frame_refused : (text : List ℕ) (f : Fault) → is_there text ≡ true → FrameLineFault frame_line text f → (rest : List ℕ) × (frame_begun text ≡ Err (f, rest))
unfolding frame_begun
frame_refused text f there h = begun_refused frame_line text f there h

-- ---- planes

plane_by : (b c : Bool) (depth size : ℕ) (text : List ℕ) (f : Fault) (rest : List ℕ) → nat_lt (length text) size ≡ b → are_in_depth depth (take size text) ≡ c →
    cond {A = Outcome (List ℕ)} b (Err (fault.FrameTruncated, [])) (cond c (Ok (take size text, drop size text)) (Err (fault.SampleTooLarge, drop size text))) ≡ Err (f, rest) → PlaneFault depth size text f
plane_by true c depth size text f rest p q e = inl (ltb-true (length text) size p, sym (same_fault fault.FrameTruncated f [] rest e).0)
plane_by false true depth size text f rest p q e = absurd (false≢true (ap is_fault e))
plane_by false false depth size text f rest p q e =
    let enough : size ≤ length text = ltb-false (length text) size p in
    inr (take size text, drop size text, record { long = length-take size text ∙ (omega (arith, enough)); judged = q; whole = sym (take-append-drop size text) }, sym (same_fault fault.SampleTooLarge f (drop size text) rest e).0)

plane_known : (depth size : ℕ) (text : List ℕ) (f : Fault) (rest : List ℕ) → plane_read depth size text ≡ Err (f, rest) → PlaneFault depth size text f
plane_known depth size text f rest e = plane_by (nat_lt (length text) size) (are_in_depth depth (take size text)) depth size text f rest refl refl e

large_found : (depth : ℕ) (p rest : List ℕ) → are_in_depth depth p ≡ false → plane_read depth (length p) (p ++ rest) ≡ Err (fault.SampleTooLarge, rest)
large_found depth p rest large =
    let enough : nat_lt (length (p ++ rest)) (length p) ≡ false = le-ltb _ _ (grind (arith, common_steps)) in
    rw (enough, take-append_seam p rest, drop-append_seam p rest, large) refl

plane_refused : (depth size : ℕ) (text : List ℕ) (f : Fault) → PlaneFault depth size text f → (rest : List ℕ) × (plane_read depth size text ≡ Err (f, rest))
plane_refused depth size text f (inl (short, why)) =
    let ends : nat_lt (length text) size ≡ true = lt-ltb _ _ short in
    ([], rw (ends, why) refl)
plane_refused depth size text f (inr (plane, rest, p, why)) = (rest, rw (p.whole, ← p.long, why) (large_found depth plane rest p.judged))

plane_is : (depth size : ℕ) (text plane rest : List ℕ) → HasPlane depth size true text plane rest → plane_read depth size text ≡ Ok (plane, rest)
plane_is depth size text plane rest p = rw (p.whole, ← p.long) (plane_found depth plane rest p.judged)

has_plane : (depth size : ℕ) (text plane rest : List ℕ) → plane_read depth size text ≡ Ok (plane, rest) → HasPlane depth size true text plane rest
has_plane depth size text plane rest e =
    let t = plane_only depth size text plane rest e in
    record { long = t.long; judged = t.small; whole = t.whole }

one_plane : (depth size : ℕ) (text p q u v : List ℕ) → HasPlane depth size true text p u → HasPlane depth size true text q v → u ≡ v
one_plane depth size text p q u v a b = ap rest_in (sym (plane_is depth size text p u a) ∙ plane_is depth size text q v b)

planes_by : (depth size : ℕ) (sizes text : List ℕ) (f : Fault) (rest : List ℕ) (o : Outcome (List ℕ)) → plane_read depth size text ≡ o → ((left : List ℕ) (gone : List ℕ) → planes_read depth sizes left ≡ Err (f, gone) → (n : ℕ) × PlanesFault depth sizes left f n) →
    (o >>= λ p. (planes_read depth sizes then λ ps. give (p.0 ∷ ps)) p.1) ≡ Err (f, rest) → (n : ℕ) × PlanesFault depth (size ∷ sizes) text f n
planes_by depth size sizes text f rest (Err (g, left)) is more e = (0, inl (subst (λ z. PlaneFault depth size text z) (same_fault g f left rest e).0 (plane_known depth size text g left is), refl))
planes_by depth size sizes text f rest (Ok (plane, left)) is more e = on (planes_read depth sizes left) refl e
  where
    on : (o : Outcome (List (List ℕ))) → planes_read depth sizes left ≡ o → (o >>= λ p. give (plane ∷ p.0) p.1) ≡ Err (f, rest) → (n : ℕ) × PlanesFault depth (size ∷ sizes) text f n
    on (Ok p) it h = absurd (false≢true (ap is_fault h))
    on (Err (g, gone)) it h =
        let m = more left gone (it ∙ ap (λ z. Err (z, gone)) (same_fault g f gone rest h).0) in
        (size + m.0, inr (plane, left, has_plane depth size text plane left is, m.0, m.1, refl))

planes_known : (depth : ℕ) (sizes text : List ℕ) (f : Fault) (rest : List ℕ) → planes_read depth sizes text ≡ Err (f, rest) → (n : ℕ) × PlanesFault depth sizes text f n
planes_known depth [] text f rest e = absurd (false≢true (ap is_fault e))
planes_known depth (size ∷ sizes) text f rest e = planes_by depth size sizes text f rest (plane_read depth size text) refl (λ left gone h. planes_known depth sizes left f gone h) e

planes_refused : (depth : ℕ) (sizes text : List ℕ) (f : Fault) (n : ℕ) → PlanesFault depth sizes text f n → (rest : List ℕ) × (planes_read depth sizes text ≡ Err (f, rest))
planes_refused depth [] text f n h = absurd h
planes_refused depth (size ∷ sizes) text f n (inl (h, at)) =
    let k = plane_refused depth size text f h in
    (k.0, rw k.1 refl)
planes_refused depth (size ∷ sizes) text f n (inr (plane, rest, p, m, h, at)) =
    let k = planes_refused depth sizes rest f m h in
    (k.0, rw (plane_is depth size text plane rest p) (rw k.1 refl))

plane_both : (depth size : ℕ) (text plane rest : List ℕ) (f : Fault) → HasPlane depth size true text plane rest → PlaneFault depth size text f → ⊥
plane_both depth size text plane rest f p h =
    let k = plane_refused depth size text f h in
    not_both plane rest k.0 f (plane_read depth size text) (plane_is depth size text plane rest p) k.1

planes_only : (depth : ℕ) (sizes text : List ℕ) (f g : Fault) (m n : ℕ) → PlanesFault depth sizes text f m → PlanesFault depth sizes text g n → (f ≡ g) × (m ≡ n)
planes_only depth [] text f g m n h k = absurd h
planes_only depth (size ∷ sizes) text f g m n (inl (h, at)) (inl (k, there)) =
    let a = plane_refused depth size text f h in
    let b = plane_refused depth size text g k in
    ((same_fault f g a.0 b.0 (sym a.1 ∙ b.1)).0, at ∙ sym there)
planes_only depth (size ∷ sizes) text f g m n (inl (h, at)) (inr k) = absurd (plane_both depth size text k.0 k.1 f k.2 h)
planes_only depth (size ∷ sizes) text f g m n (inr k) (inl (h, at)) = absurd (plane_both depth size text k.0 k.1 g k.2 h)
planes_only depth (size ∷ sizes) text f g m n (inr (plane, rest, p, i, h, at)) (inr (other, left, q, j, k, there)) =
    let same : rest ≡ left = one_plane depth size text plane other rest left p q in
    let both = planes_only depth sizes left f g i j (subst (λ z. PlanesFault depth sizes z f i) same h) k in
    (both.0, at ∙ (ap (λ z. size + z) both.1 ∙ sym there))

-- ---- a picture

pub given_fault : {X : Type 0} (o : Outcome X) (f : Fault) (rest : List ℕ) → (o >>= λ p. give (Some p.0) p.1) ≡ Err (f, rest) → o ≡ Err (f, rest)
given_fault (Ok p) f rest e = absurd (false≢true (ap is_fault e))
given_fault (Err (g, left)) f rest e = (let both = same_fault g f left rest e in rw (both.0, both.1) refl)

picture_by : (depth : ℕ) (h : VideoHead) (text : List ℕ) (f : Fault) (rest : List ℕ) (o : Outcome Bool) → frame_begun text ≡ o → (o >>= λ p. where_begun (planes_read depth (plane_bytes depth h)) p.0 p.1) ≡ Err (f, rest) → (n : ℕ) × PictureFault depth h text f n
picture_by depth h text f rest (Err (g, left)) is e =
    let k = frame_known text f left (is ∙ ap (λ z. Err (z, left)) (same_fault g f left rest e).0) in
    (0, inl (k.0, k.1, refl))
picture_by depth h text f rest (Ok (false, left)) is e = absurd (false≢true (ap is_fault e))
picture_by depth h text f rest (Ok (true, left)) is e =
    let k = planes_known depth (plane_bytes depth h) left f rest (given_fault (planes_read depth (plane_bytes depth h) left) f rest e) in
    (6 + k.0, inr (left, frame_only text left is, k.0, k.1, refl))

pub picture_known : (depth : ℕ) (h : VideoHead) (text : List ℕ) (f : Fault) (rest : List ℕ) → picture_read depth h text ≡ Err (f, rest) → (n : ℕ) × PictureFault depth h text f n
picture_known depth h text f rest e = picture_by depth h text f rest (frame_begun text) refl e

frame_is : (text rest : List ℕ) → text ≡ frame_line ++ rest → frame_begun text ≡ Ok (true, rest)
frame_is text rest e = rw e (frame_found rest)

pub picture_refused : (depth : ℕ) (h : VideoHead) (text : List ℕ) (f : Fault) (n : ℕ) → PictureFault depth h text f n → (rest : List ℕ) × (picture_read depth h text ≡ Err (f, rest))
picture_refused depth h text f n (inl (there, fails, at)) =
    let k = frame_refused text f there fails in
    (k.0, rw k.1 refl)
picture_refused depth h text f n (inr (rest, is, m, fails, at)) =
    let k = planes_refused depth (plane_bytes depth h) rest f m fails in
    (k.0, rw (frame_is text rest is) (rw k.1 refl))

frame_both : (text rest : List ℕ) (f : Fault) → is_there text ≡ true → FrameLineFault frame_line text f → text ≡ frame_line ++ rest → ⊥
frame_both text rest f there h is =
    let k = frame_refused text f there h in
    not_both true rest k.0 f (frame_begun text) (frame_is text rest is) k.1

pub picture_only : (depth : ℕ) (h : VideoHead) (text : List ℕ) (f g : Fault) (m n : ℕ) → PictureFault depth h text f m → PictureFault depth h text g n → (f ≡ g) × (m ≡ n)
picture_only depth h text f g m n (inl (there, a, at)) (inl (too, b, spot)) =
    let x = frame_refused text f there a in
    let y = frame_refused text g too b in
    ((same_fault f g x.0 y.0 (sym x.1 ∙ y.1)).0, at ∙ sym spot)
picture_only depth h text f g m n (inl (there, a, at)) (inr k) = absurd (frame_both text k.0 f there a k.1)
picture_only depth h text f g m n (inr k) (inl (there, b, spot)) = absurd (frame_both text k.0 g there b k.1)
picture_only depth h text f g m n (inr (rest, is, i, a, at)) (inr (left, too, j, b, spot)) =
    let same : rest ≡ left = ap rest_in (sym (frame_is text rest is) ∙ frame_is text left too) in
    let both = planes_only depth (plane_bytes depth h) left f g i j (subst (λ z. PlanesFault depth (plane_bytes depth h) z f i) same a) b in
    (both.0, at ∙ (ap (λ z. 6 + z) both.1 ∙ sym spot))
