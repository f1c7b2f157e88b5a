-- Where the elements of a written file stand.
use Rattle.std.proofs.Common.{◌≡◌, ◌⊎◌, ◌≤◌, ◌<◌, ◌+◌, ◌-◌, ◌*◌, ◌^◌, ◌∙◌, ◌++◌, ℕ, suc, zero, List, [], ◌∷◌, true, false, Some, nat_le, length, take, drop, get_or, refl, sym, ap, arith, inl, inr, append_assoc, append-nil, length-append, length-drop}
use Rattle.std.proofs.Math.Nat.{pow-succ'}
use Rattle.std.proofs.lemmas.Bool.{cases_lt, le-leb, lt-leb}
use Rattle.std.proofs.lemmas.Grind.{common_steps}
use Rattle.ffv1_reads.specs.Head.{Head}
use Rattle.ffv1_ebml.specs.Spelled.{ident_bytes, ident_length, long, short}
use Rattle.ffv1_matroska.specs.Opened.{tracks}
use Rattle.ffv1_matroska.specs.Opening.{segment}
use Rattle.ffv1_matroska.specs.WrittenFiles.{StandsAt}
use Rattle.ffv1_matroska.specs.Written.{cue_places}
use Rattle.ffv1_matroska.specs.WrittenIdents.{cues, info, seek_head}
use Rattle.ffv1_matroska.specs.WrittenPlaces.{every, every_after, places_from, stride_from, stride_of}
use Rattle.ffv1_matroska.specs.Written.{checked, cluster_element, clusters_from, crc_element, cue_element, cues_element, cues_from, cues_of, ebml_header, finish_of, finished_of, first_place, info_content, opening, seek_element, seeks, short_element, tracks_element}
use Rattle.ffv1_matroska.specs.declared.track_entry.TrackEntry.{TrackEntry}
use Rattle.ffv1_matroska.specs.declared.write.opening.Finish.{Finish}
use Rattle.ffv1_matroska.proofs.OpeningLength.{opening_long}
use Rattle.ffv1_matroska.proofs.PieceByPiece.{file_parts}
use Rattle.ffv1_matroska.proofs.Growing.{places_count}
use Rattle.ffv1_matroska.proofs.StrideSteps.{stride_some}
use Rattle.ffv1_matroska.proofs.WrittenLengths.{cluster_long, cue_long, cues_long}

stands_in : (xs bs zs : List ℕ) → StandsAt (xs ++ (bs ++ zs)) (length xs) bs
stands_in xs bs zs =
    let behind : drop (length xs) (xs ++ (bs ++ zs)) ≡ bs ++ zs = grind (arith, common_steps) in
    let front : take (length bs) (bs ++ zs) ≡ bs = grind (arith, common_steps) in
    rw behind front

pub stands_by : (file xs bs zs : List ℕ) (place : ℕ) → file ≡ xs ++ (bs ++ zs) → length xs ≡ place → StandsAt file place bs
stands_by file xs bs zs place e p = rw (e, ← p) (stands_in xs bs zs)

-- ---- the opening

seeks_at : (h s i c k b x : List ℕ) → (((h ++ s) ++ (i ++ (c ++ k))) ++ b) ++ x ≡ (((h ++ s) ++ i) ++ c) ++ (k ++ (b ++ x))
seeks_at h s i c k b x = simp append_assoc

info_at : (h s a b x : List ℕ) → (((h ++ s) ++ a) ++ b) ++ x ≡ ((h ++ s) ++ a) ++ (b ++ x)
info_at h s a b x = simp append_assoc

size_at : (h s a b x : List ℕ) → (((h ++ s) ++ a) ++ b) ++ x ≡ h ++ (s ++ ((a ++ b) ++ x))
size_at h s a b x = simp append_assoc

abbrev size_of_segment : Finish → List ℕ
size_of_segment f = ident_bytes segment ++ long f.size

abbrev seek_header : Finish → List ℕ
seek_header f = ident_bytes seek_head ++ short (length (checked (seeks (Some f))))

header_long : length ebml_header ≡ 40
unfolding ebml_header ident_length
header_long = refl

before_seeks : (f : Finish) → length (((ebml_header ++ size_of_segment f) ++ seek_header f) ++ crc_element (seeks (Some f))) ≡ 63
unfolding ebml_header ident_length long crc_element
before_seeks f = refl

before_info : (f : Finish) → length ((ebml_header ++ size_of_segment f) ++ short_element seek_head (checked (seeks (Some f)))) ≡ 126
unfolding ebml_header ident_length long crc_element seeks seek_element
before_info f = refl

pub seeks_stand : (head : Head) (f : Finish) (x : List ℕ) → StandsAt (opening head (Some f) ++ x) 63 (seeks (Some f))
unfolding opening
seeks_stand head f x =
    let b = short_element info (checked (info_content head (Some f))) in
    stands_by _ (((ebml_header ++ size_of_segment f) ++ seek_header f) ++ crc_element (seeks (Some f))) (seeks (Some f)) (b ++ x) 63 (seeks_at ebml_header (size_of_segment f) (seek_header f) (crc_element (seeks (Some f))) (seeks (Some f)) b x) (before_seeks f)

pub info_stands : (head : Head) (f : Finish) (x : List ℕ) → StandsAt (opening head (Some f) ++ x) 126 (short_element info (checked (info_content head (Some f))))
unfolding opening
info_stands head f x =
    let a = short_element seek_head (checked (seeks (Some f))) in
    let b = short_element info (checked (info_content head (Some f))) in
    stands_by _ ((ebml_header ++ size_of_segment f) ++ a) b x 126 (info_at ebml_header (size_of_segment f) a b x) (before_info f)

pub size_stands : (head : Head) (f : Finish) (x : List ℕ) → StandsAt (opening head (Some f) ++ x) 40 (ident_bytes segment ++ long f.size)
unfolding opening
size_stands head f x =
    let a = short_element seek_head (checked (seeks (Some f))) in
    let b = short_element info (checked (info_content head (Some f))) in
    stands_by _ ebml_header (size_of_segment f) ((a ++ b) ++ x) 40 (size_at ebml_header (size_of_segment f) a b x) header_long

-- ---- Clusters

record Cut (n : ℕ) (frames : List (List ℕ)) (i : ℕ) : Type 0 where
  before : List ℕ
  after : List ℕ
  is : clusters_from n frames ≡ before ++ (cluster_element (n + i) (get_or frames i []) ++ after)
  place : (p : ℕ) → get_or (places_from p frames) i 0 ≡ p + length before

cluster_cut : (n : ℕ) (frames : List (List ℕ)) (i : ℕ) → i < length frames → Cut n frames i
unfolding clusters_from places_from
cluster_cut n [] i inside = absurd (omega (arith, inside))
cluster_cut n (f ∷ fs) zero inside =
    let same : n + 0 ≡ n = omega arith in
    record { before = []; after = clusters_from (suc n) fs; is = ap (λ k. cluster_element k f ++ clusters_from (suc n) fs) (sym same); place = λ p. (omega arith) }
cluster_cut n (f ∷ fs) (suc i) inside =
    let more = cluster_cut (suc n) fs i (omega (arith, inside)) in
    let one = cluster_element n f in
    let same : suc n + i ≡ n + suc i = omega arith in
    record {
      before = one ++ more.before;
      after = more.after;
      is = ap (λ z. one ++ z) (more.is ∙ ap (λ k. more.before ++ (cluster_element k (get_or fs i []) ++ more.after)) same) ∙ sym (append_assoc one more.before (cluster_element (n + suc i) (get_or fs i []) ++ more.after));
      place = λ p. more.place (p + 41 + length f) ∙ (omega (arith, length-append one more.before, cluster_long n f));
    }

-- ---- cues

record CueCut (n s : ℕ) (places : List ℕ) (k : ℕ) : Type 0 where
  before : List ℕ
  after : List ℕ
  is : cues_from n s places ≡ before ++ (cue_element (n + k * s) (get_or places k 0) ++ after)
  long_is : length before ≡ 27 * k

cue_cut : (n s : ℕ) (places : List ℕ) (k : ℕ) → k < length places → CueCut n s places k
unfolding cues_from
cue_cut n s [] k inside = absurd (omega (arith, inside))
cue_cut n s (p ∷ ps) zero inside =
    let same : n + 0 * s ≡ n = omega arith in
    record { before = []; after = cues_from (n + s) s ps; is = ap (λ k. cue_element k p ++ cues_from (n + s) s ps) (sym same); long_is = refl }
cue_cut n s (p ∷ ps) (suc k) inside =
    let more = cue_cut (n + s) s ps k (omega (arith, inside)) in
    let one = cue_element n p in
    let same : n + s + k * s ≡ n + suc k * s = grind arith in
    let long_of = more.long_is in
    record {
      before = one ++ more.before;
      after = more.after;
      is = ap (λ z. one ++ z) (more.is ∙ ap (λ j. more.before ++ (cue_element j (get_or ps k 0) ++ more.after)) same) ∙ sym (append_assoc one more.before (cue_element (n + suc k * s) (get_or ps k 0) ++ more.after));
      long_is = omega (arith, length-append one more.before, cue_long n p, long_of);
    }

cues_front_long : (s : ℕ) (places : List ℕ) → length ((ident_bytes cues ++ long (length (checked (cues_from 0 s places)))) ++ crc_element (cues_from 0 s places)) ≡ 18
unfolding ident_length long crc_element
cues_front_long s places = refl

regrouped : (a b c d : List ℕ) → ((a ++ b) ++ c) ++ d ≡ a ++ (b ++ (c ++ d))
regrouped a b c d = simp append_assoc

grouped : (a b c d : List ℕ) → a ++ (b ++ (c ++ d)) ≡ ((a ++ b) ++ c) ++ d
grouped a b c d = sym (regrouped a b c d)

pub cue_stands : (s : ℕ) (places : List ℕ) (k : ℕ) → k < length places → StandsAt (cues_element s places) (18 + 27 * k) (cue_element (k * s) (get_or places k 0))
unfolding cues_element
cue_stands s places k inside =
    let cut = cue_cut 0 s places k inside in
    let header = ident_bytes cues ++ long (length (checked (cues_from 0 s places))) in
    let sum = crc_element (cues_from 0 s places) in
    let none : 0 + k * s ≡ k * s = omega arith in
    let cue = cue_element (k * s) (get_or places k 0) in
    let parts : cues_from 0 s places ≡ cut.before ++ (cue ++ cut.after) = cut.is ∙ ap (λ j. cut.before ++ (cue_element j (get_or places k 0) ++ cut.after)) none in
    let long_of = cut.long_is in
    stands_by _ ((header ++ sum) ++ cut.before) cue cut.after (18 + 27 * k)
    (ap (λ z. header ++ (sum ++ z)) parts ∙ grouped header sum cut.before (cue ++ cut.after))
    (omega (arith, length-append (header ++ sum) cut.before, cues_front_long s places, long_of))

-- which places have one
record At (j s : ℕ) (ps : List ℕ) (k : ℕ) : Type 0 where
  inside : j + k * s < length ps
  is : get_or (every_after j s ps) k 0 ≡ get_or ps (j + k * s) 0

every_at : (j s : ℕ) (ps : List ℕ) (k : ℕ) → 0 < s → k < length (every_after j s ps) → At j s ps k
unfolding every_after
every_at j s [] k some within = absurd (omega (arith, within))
every_at zero s (p ∷ ps) zero some within =
    let none : 0 + 0 * s ≡ 0 = omega arith in
    record { inside = omega arith; is = ap (λ i. get_or (p ∷ ps) i 0) (sym none) }
every_at zero s (p ∷ ps) (suc k) some within =
    let more = every_at (s - 1) s ps k some (omega (arith, within)) in
    let next : suc (s - 1 + k * s) ≡ 0 + suc k * s = grind (arith, some) in
    let low = more.inside in
    record { inside = omega (arith, low, next); is = more.is ∙ ap (λ i. get_or (p ∷ ps) i 0) next }
every_at (suc j) s (p ∷ ps) k some within =
    let more = every_at j s ps k some within in
    let next : suc (j + k * s) ≡ suc j + k * s = omega arith in
    let low = more.inside in
    record { inside = omega (arith, low, next); is = more.is ∙ ap (λ i. get_or (p ∷ ps) i 0) next }

-- ---- the whole file

abbrev whole : Head → TrackEntry → List (List ℕ) → List ℕ
whole head details frames = opening head (Some (finish_of head details frames)) ++ (tracks_element head details ++ (clusters_from 0 frames ++ cues_of head details frames))

in_file : (head : Head) (details : TrackEntry) (frames : List (List ℕ)) (place : ℕ) (bytes : List ℕ) → StandsAt (whole head details frames) place bytes → StandsAt (finished_of head details frames) place bytes
in_file head details frames place bytes h = rw (file_parts (Some (finish_of head details frames)) head details frames) h

pub segment_placed : (head : Head) (details : TrackEntry) (frames : List (List ℕ)) → StandsAt (finished_of head details frames) 40 (ident_bytes segment ++ long (finish_of head details frames).size)
segment_placed head details frames = in_file head details frames 40 _ (size_stands head (finish_of head details frames) (tracks_element head details ++ (clusters_from 0 frames ++ cues_of head details frames)))

pub segment_sized : (head : Head) (details : TrackEntry) (frames : List (List ℕ)) → length (drop 52 (finished_of head details frames)) ≡ (finish_of head details frames).size
segment_sized head details frames =
    let f = finish_of head details frames in
    let a = opening head (Some f) in
    let b = tracks_element head details in
    let c = clusters_from 0 frames in
    let d = cues_of head details frames in
    let long_of : length (finished_of head details frames) ≡ 200 + length b + length c + length d = omega (arith, length-append ((a ++ b) ++ c) d, length-append (a ++ b) c, length-append a b, opening_long head (Some f)) in
    let dropped : length (drop 52 (finished_of head details frames)) ≡ length (finished_of head details frames) - 52 = length-drop 52 (finished_of head details frames) in
    omega (arith, dropped, long_of)

pub seeks_placed : (head : Head) (details : TrackEntry) (frames : List (List ℕ)) → StandsAt (finished_of head details frames) 63 (seek_element info 74 ++ seek_element tracks 148 ++ seek_element cues (finish_of head details frames).cues)
unfolding seeks
seeks_placed head details frames = in_file head details frames 63 _ (seeks_stand head (finish_of head details frames) (tracks_element head details ++ (clusters_from 0 frames ++ cues_of head details frames)))

pub info_placed : (head : Head) (details : TrackEntry) (frames : List (List ℕ)) → StandsAt (finished_of head details frames) 126 (short_element info (checked (info_content head (Some (finish_of head details frames)))))
info_placed head details frames = in_file head details frames 126 _ (info_stands head (finish_of head details frames) (tracks_element head details ++ (clusters_from 0 frames ++ cues_of head details frames)))

pub tracks_placed : (head : Head) (details : TrackEntry) (frames : List (List ℕ)) → StandsAt (finished_of head details frames) 200 (tracks_element head details)
tracks_placed head details frames = in_file head details frames 200 _ (stands_by _ (opening head (Some (finish_of head details frames))) (tracks_element head details) (clusters_from 0 frames ++ cues_of head details frames) 200 refl (opening_long head (Some (finish_of head details frames))))

pub cues_placed : (head : Head) (details : TrackEntry) (frames : List (List ℕ)) → StandsAt (finished_of head details frames) (52 + (finish_of head details frames).cues) (cues_of head details frames)
cues_placed head details frames =
    let a = opening head (Some (finish_of head details frames)) in
    let b = tracks_element head details in
    let c = clusters_from 0 frames in
    let d = cues_of head details frames in
    let place : length ((a ++ b) ++ c) ≡ 52 + (finish_of head details frames).cues = omega (arith, length-append (a ++ b) c, length-append a b, opening_long head (Some (finish_of head details frames))) in
    stands_by _ ((a ++ b) ++ c) d [] (52 + (finish_of head details frames).cues) (ap (λ z. ((a ++ b) ++ c) ++ z) (sym (append-nil d))) place

pub cluster_placed : (head : Head) (details : TrackEntry) (frames : List (List ℕ)) (i : ℕ) → i < length frames → StandsAt (finished_of head details frames) (52 + get_or (places_from (first_place head details) frames) i 0) (cluster_element i (get_or frames i []))
cluster_placed head details frames i inside =
    let a = opening head (Some (finish_of head details frames)) in
    let b = tracks_element head details in
    let d = cues_of head details frames in
    let cut = cluster_cut 0 frames i inside in
    let none : 0 + i ≡ i = omega arith in
    let one = cluster_element i (get_or frames i []) in
    let parts : clusters_from 0 frames ≡ cut.before ++ (one ++ cut.after) = cut.is ∙ ap (λ j. cut.before ++ (cluster_element j (get_or frames i []) ++ cut.after)) none in
    let at = cut.place (first_place head details) in
    let place : length ((a ++ b) ++ cut.before) ≡ 52 + get_or (places_from (first_place head details) frames) i 0 = omega (arith, length-append (a ++ b) cut.before, length-append a b, opening_long head (Some (finish_of head details frames)), at) in
    stands_by _ ((a ++ b) ++ cut.before) one (cut.after ++ d) (52 + get_or (places_from (first_place head details) frames) i 0)
    (ap (λ z. ((a ++ b) ++ z) ++ d) parts ∙ around (a ++ b) cut.before one cut.after d) place
  where
    around : (f p o q d : List ℕ) → (f ++ (p ++ (o ++ q))) ++ d ≡ (f ++ p) ++ (o ++ (q ++ d))
    around f p o q d = simp append_assoc

drop_twice : (i j : ℕ) (xs : List ℕ) → drop (i + j) xs ≡ drop j (drop i xs)
drop_twice i j xs = grind (arith, common_steps)

shorter : (n m : ℕ) (xs : List ℕ) → n ≤ m → take n xs ≡ take n (take m xs)
shorter zero m xs fits = refl
shorter (suc n) zero xs fits = absurd (omega (arith, fits))
shorter (suc n) (suc m) [] fits = refl
shorter (suc n) (suc m) (x ∷ xs) fits = ap (λ z. x ∷ z) (shorter n m xs (omega (arith, fits)))

taken : (i n m : ℕ) (xs : List ℕ) → i + n ≤ m → take n (drop i xs) ≡ take n (drop i (take m xs))
taken zero n m xs fits = shorter n m xs (omega (arith, fits))
taken (suc i) n zero xs fits = absurd (omega (arith, fits))
taken (suc i) n (suc m) [] fits = refl
taken (suc i) n (suc m) (x ∷ xs) fits = taken i n m xs (omega (arith, fits))

cut_twice : (file : List ℕ) (place inner n m : ℕ) → inner + n ≤ m → take n (drop (place + inner) file) ≡ take n (drop inner (take m (drop place file)))
cut_twice file place inner n m fits = ap (take n) (drop_twice place inner file) ∙ taken inner n m (drop place file) fits

-- a part of what stands there
stands_within : (file xs bs : List ℕ) (place inner : ℕ) → StandsAt file place xs → inner + length bs ≤ length xs → StandsAt xs inner bs → StandsAt file (place + inner) bs
stands_within file xs bs place inner outer fits h = cut_twice file place inner (length bs) (length xs) fits ∙ ap (λ z. take (length bs) (drop inner z)) outer ∙ h

pub cue_placed : (head : Head) (details : TrackEntry) (frames : List (List ℕ)) (k : ℕ) → k < length (cue_places head details frames) →
    StandsAt (finished_of head details frames) (52 + (finish_of head details frames).cues + (18 + 27 * k)) (cue_element (k * stride_of (length frames)) (get_or (cue_places head details frames) k 0))
cue_placed head details frames k inside =
    let s = stride_of (length frames) in
    let ps = cue_places head details frames in
    let one = cue_element (k * s) (get_or ps k 0) in
    let fits : 18 + 27 * k + length one ≤ length (cues_element s ps) = omega (arith, cue_long (k * s) (get_or ps k 0), cues_long s ps, inside) in
    stands_within (finished_of head details frames) (cues_element s ps) one (52 + (finish_of head details frames).cues) (18 + 27 * k) (cues_placed head details frames) fits (cue_stands s ps k inside)

-- at the place of a cue the Cluster of its number stands
pub cued_placed : (head : Head) (details : TrackEntry) (frames : List (List ℕ)) (k : ℕ) → k < length (cue_places head details frames) →
    StandsAt (finished_of head details frames) (52 + get_or (cue_places head details frames) k 0) (cluster_element (k * stride_of (length frames)) (get_or frames (k * stride_of (length frames)) []))
cued_placed head details frames k inside =
    let s = stride_of (length frames) in
    let ps = places_from (first_place head details) frames in
    let at = every_at 0 s ps k (stride_some 64 1 (length frames) (omega arith)) inside in
    let none : 0 + k * s ≡ k * s = omega arith in
    let within = at.inside in
    let few : k * s < length frames = omega (arith, within, none, places_count (first_place head details) frames) in
    let same : get_or (every s ps) k 0 ≡ get_or ps (k * s) 0 = at.is ∙ ap (λ i. get_or ps i 0) none in
    rw same (cluster_placed head details frames (k * s) few)

-- the stride is the least power of two by which at most 8192 Clusters have a cue
pub stride_least : (others s n : ℕ) → (stride_from others s n ≡ s) ⊎ (8192 * stride_from others s n < 2 * n)
unfolding stride_from
stride_least zero s n = inl refl
stride_least (suc others) s n = elim (cases_lt (8192 * s) n) [
  | inl more ↦
      let now : nat_le n (8192 * s) ≡ false = lt-leb n (8192 * s) more in
      rw now (elim (stride_least others (2 * s) n) [
        | inl same ↦ inr (omega (arith, same, more))
        | inr less ↦ inr less
      ])
  | inr fewer ↦
      let now : nat_le n (8192 * s) ≡ true = le-leb n (8192 * s) (omega (arith, fewer)) in
      rw now (inl refl)
]

pub stride_power : (others s n : ℕ) → (k : ℕ) × (stride_from others s n ≡ 2 ^ k * s)
unfolding stride_from
stride_power zero s n = (0, omega arith)
stride_power (suc others) s n = elim (cases_lt (8192 * s) n) [
  | inl more ↦
      let now : nat_le n (8192 * s) ≡ false = lt-leb n (8192 * s) more in
      let next = stride_power others (2 * s) n in
      let same : 2 ^ next.0 * (2 * s) ≡ 2 ^ suc next.0 * s = (grind arith) ∙ sym (ap (λ k. k * s) (pow-succ' 2 next.0)) in
      rw now (suc next.0, next.1 ∙ same)
  | inr fewer ↦
      let now : nat_le n (8192 * s) ≡ true = le-leb n (8192 * s) (omega (arith, fewer)) in
      rw now (0, omega arith)
]
