-- The writer of frames is the writer of those and one more once that is written.
use Rattle.std.proofs.Common.{◌≡◌, ◌≤◌, ◌<◌, ◌+◌, ◌-◌, ◌*◌, ◌^◌, ◌∙◌, ◌++◌, ℕ, suc, List, [], ◌∷◌, false, length, refl, sym, ap, arith, append_assoc, append-nil, length-append, inl, inr}
use Rattle.std.proofs.lemmas.Bool.{cases_eq, cases_lt, eq-eqb, ne_eqb}
use Rattle.std.proofs.lemmas.Nat.{mul-le}
use Rattle.ffv1_reads.specs.Head.{Head}
use Rattle.ffv1_matroska.specs.Internal.Keeping.{Kept, stride_after, with_place}
use Rattle.ffv1_matroska.specs.Written.{cluster_element, clusters_from, end_place, first_place}
use Rattle.ffv1_matroska.specs.WrittenPlaces.{every, every_after, places_from, stride_from, stride_of}
use Rattle.ffv1_matroska.specs.Internal.Keeping.{Keeping}
use Rattle.ffv1_matroska.specs.Writers.{Grows, Writing, writing_of}
use Rattle.ffv1_matroska.specs.declared.track_entry.TrackEntry.{TrackEntry}
use Rattle.ffv1_matroska.proofs.PlaceSteps.{every_count, every_next, every_other, every_second, left_after, seconds_count}
use Rattle.ffv1_matroska.proofs.StrideSteps.{stride_doubles, stride_stays}
use Rattle.ffv1_matroska.proofs.WrittenLengths.{cluster_long}

-- a Cluster after others
pub clusters_snoc : (n : ℕ) (frames : List (List ℕ)) (frame : List ℕ) → clusters_from n (frames ++ frame ∷ []) ≡ clusters_from n frames ++ cluster_element (n + length frames) frame
unfolding clusters_from
clusters_snoc n [] frame = let none : n + 0 ≡ n = omega arith in rw none (append-nil (cluster_element n frame))
clusters_snoc n (f ∷ fs) frame =
    let one : suc n + length fs ≡ n + length (f ∷ fs) = omega arith in
    ap (λ z. cluster_element n f ++ z) (clusters_snoc (suc n) fs frame ∙ ap (λ k. clusters_from (suc n) fs ++ cluster_element k frame) one)
    ∙ sym (append_assoc (cluster_element n f) (clusters_from (suc n) fs) (cluster_element (n + length (f ∷ fs)) frame))

pub places_count : (place : ℕ) (frames : List (List ℕ)) → length (places_from place frames) ≡ length frames
unfolding places_from
places_count place [] = refl
places_count place (f ∷ fs) = ap suc (places_count (place + 41 + length f) fs)

-- where the next Cluster begins
pub places_snoc : (place n : ℕ) (frames : List (List ℕ)) (frame : List ℕ) → places_from place (frames ++ frame ∷ []) ≡ places_from place frames ++ (place + length (clusters_from n frames)) ∷ []
unfolding places_from clusters_from
places_snoc place n [] frame = let none : place + 0 ≡ place = omega arith in rw none refl
places_snoc place n (f ∷ fs) frame =
    let one = cluster_element n f in
    let all = clusters_from (suc n) fs in
    let same : place + 41 + length f + length all ≡ place + length (one ++ all) = omega (arith, length-append one all, cluster_long n f) in
    ap (λ z. place ∷ z) (places_snoc (place + 41 + length f) (suc n) fs frame ∙ ap (λ k. places_from (place + 41 + length f) fs ++ k ∷ []) same)

pub end_more : (head : Head) (details : TrackEntry) (frames : List (List ℕ)) (frame : List ℕ) → end_place head details (frames ++ frame ∷ []) ≡ end_place head details frames + 41 + length frame
end_more head details frames frame =
    let all = clusters_from 0 frames in
    let one = cluster_element (0 + length frames) frame in
    let long = ap length (clusters_snoc 0 frames frame) ∙ length-append all one in
    omega (arith, long, cluster_long (0 + length frames) frame)

pub count_more : (frames : List (List ℕ)) (frame : List ℕ) → length (frames ++ frame ∷ []) ≡ length frames + 1
count_more frames frame = length-append frames (frame ∷ [])

-- the places and the stride of a list, and of one that has one place more
pub record Next (n s place : ℕ) (ps : List ℕ) : Type 0 where
  pub stride : stride_after n s (every s ps) ≡ stride_of (n + 1)
  pub places : with_place n s place (every s ps) ≡ every (stride_of (n + 1)) (ps ++ place ∷ [])

next_other : (n s place : ℕ) (ps : List ℕ) → n < 2 ^ 56 → Kept n s (every s ps) → s ≡ stride_of n → n ≡ length ps → (n ≡ s * length (every s ps) → ⊥) → Next n s place ps
next_other n s place ps few kept stride_is long apart =
    let count = every_count 0 s ps kept.some in
    let left : 0 < left_after 0 s ps = elim (cases_lt 0 (left_after 0 s ps)) [
      | inl some ↦ some
      | inr none ↦ absurd (apart (omega (arith, long, count, none)))
    ] in
    let room : n + 1 ≤ 8192 * stride_of n = rw (← stride_is) (let most : s * length (every s ps) ≤ s * 8192 = mul-le s (length (every s ps)) s 8192 (omega arith) kept.few in omega (arith, count, left, long, most)) in
    let stays : stride_of (n + 1) ≡ s = stride_stays 64 1 n room ∙ sym stride_is in
    let test = ne_eqb n (s * length (every s ps)) apart in
    record {
      stride = rw (test, stays) refl;
      places = rw (test, stays) (sym (every_other 0 s ps place left));
    }

next_one : (n s place : ℕ) (ps : List ℕ) → n < 2 ^ 56 → Kept n s (every s ps) → s ≡ stride_of n → n ≡ length ps → n ≡ s * length (every s ps) → (length (every s ps) ≡ 8192 → ⊥) → Next n s place ps
next_one n s place ps few kept stride_is long whole apart =
    let count = every_count 0 s ps kept.some in
    let none : left_after 0 s ps ≡ 0 = omega (arith, count, long, whole) in
    let fewer : length (every s ps) ≤ 8191 = omega (arith, kept.few, apart) in
    let room : n + 1 ≤ 8192 * stride_of n = rw (← stride_is) (let most : s * length (every s ps) ≤ s * 8191 = mul-le s (length (every s ps)) s 8191 (omega arith) fewer in omega (arith, whole, most, kept.some)) in
    let stays : stride_of (n + 1) ≡ s = stride_stays 64 1 n room ∙ sym stride_is in
    let test = eq-eqb n (s * length (every s ps)) whole in
    let full = ne_eqb (length (every s ps)) 8192 apart in
    record {
      stride = rw (test, full, stays) refl;
      places = rw (test, full, stays) (sym (every_next 0 s ps place none));
    }

next_full : (n s place : ℕ) (ps : List ℕ) → n < 2 ^ 56 → Kept n s (every s ps) → s ≡ stride_of n → n ≡ length ps → n ≡ s * length (every s ps) → length (every s ps) ≡ 8192 → Next n s place ps
next_full n s place ps few kept stride_is long whole full =
    let is : n ≡ s * 8192 = whole ∙ ap (λ k. s * k) full in
    let second = (every_second 0 s ps kept.some).first in
    let half : length (every (2 * s) ps) ≡ 4096 = ap length (sym second) ∙ seconds_count (every s ps) ∙ (omega (arith, full)) in
    let count = every_count 0 (2 * s) ps (omega (arith, kept.some)) in
    let product : 2 * s * length (every (2 * s) ps) ≡ 2 * s * 4096 = ap (λ k. 2 * s * k) half in
    let none : left_after 0 (2 * s) ps ≡ 0 = omega (arith, count, long, is, product) in
    let small : n + 1 ≤ 8192 * (2 ^ 64 * 1) = omega (arith, few) in
    let over : 8192 * stride_of n ≤ n = rw (← stride_is) (omega (arith, is)) in
    let doubles : stride_of (n + 1) ≡ 2 * s = stride_doubles 64 1 n (omega arith) small over ∙ ap (λ k. 2 * k) (sym stride_is) in
    let test = eq-eqb n (s * length (every s ps)) whole in
    let most = eq-eqb (length (every s ps)) 8192 full in
    record {
      stride = rw (test, most, doubles) refl;
      places = rw (test, most, doubles) (ap (λ z. z ++ place ∷ []) second ∙ sym (every_next 0 (2 * s) ps place none));
    }

pub next_of : (n s place : ℕ) (ps : List ℕ) → n < 2 ^ 56 → Kept n s (every s ps) → s ≡ stride_of n → n ≡ length ps → Next n s place ps
next_of n s place ps few kept stride_is long = elim (cases_eq n (s * length (every s ps))) [
  | inl whole ↦ elim (cases_eq (length (every s ps)) 8192) [
    | inl full ↦ next_full n s place ps few kept stride_is long whole full
    | inr apart ↦ next_one n s place ps few kept stride_is long whole apart
  ]
  | inr apart ↦ next_other n s place ps few kept stride_is long apart
]

-- a writer of these parts, of which no write has failed
abbrev pub writing : Head → TrackEntry → ℕ → ℕ → ℕ → List ℕ → Writing
writing head details count at stride places = record { head = head; details = details; count = count; at = at; stride = stride; places = places; failed = false }

same_writing : (head : Head) (details : TrackEntry) (a b c d e f : ℕ) (xs ys : List ℕ) → a ≡ b → c ≡ d → e ≡ f → xs ≡ ys → writing head details a c e xs ≡ writing head details b d f ys
same_writing head details a b c d e f xs ys p q r s = rw (p, q, r, s) refl

same_kept : (a b c d : ℕ) (xs ys : List ℕ) → a ≡ b → c ≡ d → xs ≡ ys → Kept a c xs → Kept b d ys
same_kept a b c d xs ys p q r k = rw (← p, ← q, ← r) k

same_stride : (a b c d : ℕ) (xs ys : List ℕ) → a ≡ b → c ≡ d → xs ≡ ys → stride_after a c xs ≡ stride_after b d ys
same_stride a b c d xs ys p q r = rw (p, q, r) refl

same_places : (a b c d e f : ℕ) (xs ys : List ℕ) → a ≡ b → c ≡ d → e ≡ f → xs ≡ ys → with_place a c e xs ≡ with_place b d f ys
same_places a b c d e f xs ys p q r s = rw (p, q, r, s) refl

pub grown_by : (head : Head) (details : TrackEntry) (frames : List (List ℕ)) (frame : List ℕ) (count at stride next : ℕ) (places more : List ℕ) →
    count ≡ length frames → at ≡ end_place head details frames → stride ≡ stride_of (length frames) → places ≡ every (stride_of (length frames)) (places_from (first_place head details) frames) →
    count < 2 ^ 56 → Kept count stride places → next ≡ stride_after count stride places → more ≡ with_place count stride at places →
    writing head details (count + 1) (at + (41 + length frame)) next more ≡ writing_of head details (frames ++ frame ∷ [])
grown_by head details frames frame count at stride next places more count_is at_is stride_is places_is few kept next_is more_is =
    let n = length frames in
    let s = stride_of n in
    let first = first_place head details in
    let ps = places_from first frames in
    let here = end_place head details frames in
    let k = same_kept count n stride s places (every s ps) count_is stride_is places_is kept in
    let small : n < 2 ^ 56 = omega (arith, count_is, few) in
    let step = next_of n s here ps small k refl (sym (places_count first frames)) in
    let long = count_more frames frame in
    let all : ps ++ here ∷ [] ≡ places_from first (frames ++ frame ∷ []) = sym (places_snoc first 0 frames frame) in
    let a : count + 1 ≡ length (frames ++ frame ∷ []) = omega (arith, count_is, long) in
    let b : at + (41 + length frame) ≡ end_place head details (frames ++ frame ∷ []) = omega (arith, at_is, end_more head details frames frame) in
    let c : next ≡ stride_of (length (frames ++ frame ∷ [])) = next_is ∙ same_stride count n stride s places (every s ps) count_is stride_is places_is ∙ step.stride ∙ ap stride_of (sym long) in
    let d : more ≡ every (stride_of (length (frames ++ frame ∷ []))) (places_from first (frames ++ frame ∷ [])) = more_is ∙ same_places count n stride s at here places (every s ps) count_is stride_is at_is places_is ∙ step.places ∙ same_every (n + 1) (length (frames ++ frame ∷ [])) (ps ++ here ∷ []) (places_from first (frames ++ frame ∷ [])) (sym long) all in
    same_writing head details _ _ _ _ _ _ _ _ a b c d
  where
    same_every : (a b : ℕ) (xs ys : List ℕ) → a ≡ b → xs ≡ ys → every (stride_of a) xs ≡ every (stride_of b) ys
    same_every a b xs ys p q = rw (p, q) refl

-- what a writer keeps once a frame more was written
pub keeping_more : (head : Head) (details : TrackEntry) (count at stride next room copy size : ℕ) (places more : List ℕ) → Keeping (writing head details count at stride places) room copy → Kept (count + 1) next more → at + 41 + size ≤ 2 ^ 56 - 2 ^ 20 →
    Keeping (writing head details (count + 1) (at + (41 + size)) next more) 8192 copy
keeping_more head details count at stride next room copy size places more keeping kept near =
    let counted = keeping.counted in
    let begins = keeping.begins in
    record {
      kept = kept;
      room_is = refl;
      copy_is = keeping.copy_is;
      counted = omega (arith, counted);
      begins = omega (arith, begins);
      fits = omega (arith, near);
      ends = λ some. (omega (arith, near));
      first = λ none. absurd (omega (arith, none));
    }

-- how many Clusters there are
pub few_of : (head : Head) (details : TrackEntry) (count at stride room copy : ℕ) (places : List ℕ) → Keeping (writing head details count at stride places) room copy → count < 2 ^ 56
few_of head details count at stride room copy places keeping = elim (cases_lt 0 count) [
  | inl some ↦ let counted = keeping.counted in let ends : at ≤ 2 ^ 56 - 2 ^ 20 = keeping.ends some in omega (arith, counted, ends)
  | inr none ↦ omega (arith, none)
]

-- the writer that has one frame more
pub grows_by : (head : Head) (details : TrackEntry) (frame : List ℕ) (count at stride next room copy : ℕ) (places more : List ℕ) →
    Keeping (writing head details count at stride places) room copy → next ≡ stride_after count stride places → more ≡ with_place count stride at places →
    Grows (writing head details count at stride places) frame (writing head details (count + 1) (at + (41 + length frame)) next more)
grows_by head details frame count at stride next room copy places more keeping next_is more_is =
    let few = few_of head details count at stride room copy places keeping in
    record {
      head_is = refl;
      details_is = refl;
      counted = refl;
      ends = omega arith;
      lives = refl;
      grown = λ frames is. grown_by head details frames frame count at stride next places more
          (ap (λ (w : Writing). w.count) is) (ap (λ (w : Writing). w.at) is) (ap (λ (w : Writing). w.stride) is) (ap (λ (w : Writing). w.places) is)
          few keeping.kept next_is more_is;
    }

-- a new writer
pub new_by : (head kept : Head) (details : TrackEntry) (at : ℕ) (places : List ℕ) → kept ≡ head → at ≡ first_place head details → places ≡ [] → writing kept details 0 at 1 places ≡ writing_of head details []
unfolding clusters_from every_after places_from stride_from
new_by head kept details at places kept_is at_is places_is =
    let none : first_place head details + 0 ≡ first_place head details = omega arith in
    rw (kept_is, at_is, places_is, none) refl

pub keeping_new : (head kept : Head) (details : TrackEntry) (at copy : ℕ) (places : List ℕ) → kept ≡ head → at ≡ first_place head details → at < 2 ^ 63 + 2 ^ 20 → copy ≡ length kept.config_record → places ≡ [] → Keeping (writing kept details 0 at 1 places) 8192 copy
keeping_new head kept details at copy places kept_is at_is fits copy_is places_is =
    let none : length places ≡ 0 = ap length places_is in
    record {
      kept = record { some = omega arith; few = omega (arith, none); reach = omega arith; near = omega (arith, none); low = omega arith };
      room_is = refl;
      copy_is = copy_is;
      counted = omega arith;
      begins = omega (arith, at_is);
      fits = fits;
      ends = λ some. absurd (omega (arith, some));
      first = λ _. rw kept_is at_is;
    }
