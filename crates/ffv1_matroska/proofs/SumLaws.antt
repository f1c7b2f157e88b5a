-- A Cluster that is read to its end has the sum that it states.
use Rattle.ffv1_matroska.proofs.ListedElements.{crc_inside}
use Rattle.std.proofs.Common.{◌≡◌, ◌⊎◌, ◌≤◌, ◌<◌, ◌+◌, ◌*◌, ◌^◌, All, ◌==◌, ◌∙◌, ◌++◌, ◌∷◌, [], ℕ, suc, zero, List, Bool, true, false, Option, Some, None, Ok, Err, inl, inr, length, drop, fold, bit_xor, refl, sym, ap, subst, arith, append_assoc, append-nil, length-append, length-drop}
use Rattle.std.proofs.lemmas.Bool.{cases_lt, eqb-true}
use Rattle.std.proofs.lemmas.List.Sums.{fold-append}
use Rattle.ffv1_reads.specs.declared.fault.FileFault.TheVariants as fault
use Rattle.ffv1_reads.specs.Reads.{Met, Stop, read_on, ◌>>=◌}
use Rattle.ffv1_reads.proofs.Results.{ok_is, read_on_ok}
use Rattle.ffv1_reads.proofs.WantedBytes.{taken_complete}
use Rattle.ffv1_sum.specs.Sum.{byte_step, crc_of, number_of as low_number, turned}
use Rattle.ffv1_sum.proofs.Bursts.{different}
use Rattle.ffv1_ebml.specs.Elements.{crc_ident, is_crc}
use Rattle.ffv1_ebml.specs.Spelled.{SaysSize}
use Rattle.ffv1_ebml.specs.Sums.{is_met, summed}
use Rattle.ffv1_ebml.specs.Vints.{number_of}
use Rattle.ffv1_ebml.specs.declared.sum.Sum.{Sum}
use Rattle.ffv1_ebml.specs.declared.sum.Sum.TheVariants.{Begins, Awaits}
use Rattle.ffv1_ebml.proofs.ElementLaws.{summed_twice}
use Rattle.ffv1_matroska.specs.Given.{GivesTo, ReadsToEnd}
use Rattle.ffv1_matroska.specs.Elements.{SaysIdent, content_frames, content_text, leaf_frames, leaf_text}
use Rattle.ffv1_matroska.specs.Files.{frame_read}
use Rattle.ffv1_matroska.specs.Places.{cluster_at, cluster_entered, segment_at, group_at, is_sound}
use Rattle.ffv1_matroska.specs.Segments.{block_group, child_by, cluster_child, first_child, simple_block}
use Rattle.ffv1_matroska.specs.declared.place.Place.{Place}
use Rattle.ffv1_matroska.proofs.BlockLaws.{beside_kept, content_read}
use Rattle.ffv1_matroska.proofs.Fronts.{none_left, split_front}
use Rattle.ffv1_matroska.proofs.FrameTurns.{Turn, frame_turn, next_on, step_kept, turn_read}
use Rattle.ffv1_matroska.proofs.PieceLaws.{IsPast, by_past, known_header, past_summed}
use Rattle.ffv1_matroska.proofs.ReadBlocks.{content_sound}
use Rattle.ffv1_matroska.proofs.ReadClusters.{head_turn}
use Rattle.ffv1_matroska.proofs.ReadPieces.{leaf_sound}
use Rattle.ffv1_matroska.proofs.StepBounds.{err_is_no_ok}
use Rattle.ffv1_matroska.specs.Segments.{block_sought, is_beside}
use Rattle.ffv1_matroska.proofs.SoughtBlocks.{Sought, sought_cases}
use Rattle.ffv1_matroska.proofs.GroupTurns.{group_turn}
use Rattle.ffv1_matroska.specs.declared.track.TrackNumbers.{TrackNumbers}

-- a turn in a Cluster takes some of its bytes, which are summed
pub record Takes (place : Place) (text : List ℕ) (o : Turn) (rest : List ℕ) : Type 0 where
  frames : List (List ℕ)
  next : Place
  turn : o ≡ Some (frames, next)
  bytes : List ℕ
  text_is : text ≡ bytes ++ rest
  some : 1 ≤ length bytes
  counted : length bytes + (next.group + next.cluster) ≡ place.group + place.cluster
  segment : next.segment ≡ place.segment
  sum : next.sum ≡ summed place.sum bytes
  sound : is_sound next ≡ true

takes_group : (track : TrackNumbers) (place : Place) (text : List ℕ) (o : Turn) (rest : List ℕ) → 0 < place.group → turn_read track place text ≡ Ok (o, rest) → Takes place text o rest
takes_group track place text o rest some h =
    let l = leaf_sound track place place.group place.sum text o rest some h in
    let bytes = leaf_text l.leaf in
    record {
      frames = leaf_frames l.leaf;
      next = group_at place l.left (summed place.sum bytes);
      turn = l.turn;
      bytes = bytes;
      text_is = l.text_is;
      some = omega (arith, l.is.named.0, length-append (l.leaf.ident ++ l.leaf.size) (content_text l.leaf.content), length-append l.leaf.ident l.leaf.size);
      counted = omega (arith, l.fits);
      segment = refl;
      sum = refl;
      sound = l.sound;
    }

next_of : Place → Turn → Place
next_of place None = place
next_of place (Some p) = p.1

-- a BlockGroup up to its first Block
takes_sought : (most : ℕ) (track : TrackNumbers) (place : Place) (text : List ℕ) (o : Turn) (rest : List ℕ) → read_on (block_sought most track place text) step_kept ≡ Ok (o, rest) → Takes place text o rest
unfolding block_sought next_of
takes_sought zero track place text o rest h = absurd (cc (h))
takes_sought (suc most) track place text o rest h = on_case (sought_cases most track place text) (takes_sought most track)
  where
    Again : Type 0
    Again = (p : Place) (t : List ℕ) (o : Turn) (r : List ℕ) → read_on (block_sought most track p t) step_kept ≡ Ok (o, r) → Takes p t o r

    joined : (now : Place) (more : List ℕ) → Takes place text (Some ([], now)) more → Takes now more o rest → Takes place text o rest
    joined now more one two =
        let next : now ≡ one.next = ap (next_of now) one.turn in
        let group : one.next.group ≡ now.group = ap (λ (p : Place). p.group) (sym next) in
        let cluster : one.next.cluster ≡ now.cluster = ap (λ (p : Place). p.cluster) (sym next) in
        record {
          frames = two.frames;
          next = two.next;
          turn = two.turn;
          bytes = one.bytes ++ two.bytes;
          text_is = one.text_is ∙ ap (λ z. one.bytes ++ z) two.text_is ∙ sym (append_assoc one.bytes two.bytes rest);
          some = omega (arith, one.some, length-append one.bytes two.bytes);
          counted = omega (arith, one.counted, two.counted, group, cluster, length-append one.bytes two.bytes);
          segment = two.segment ∙ ap (λ (p : Place). p.segment) next ∙ one.segment;
          sum = two.sum ∙ ap (λ (p : Place). summed p.sum two.bytes) next ∙ ap (λ (s : Sum). summed s two.bytes) one.sum ∙ summed_twice place.sum one.bytes two.bytes;
          sound = two.sound;
        }

    on_case : Sought most track place text → Again → Takes place text o rest
    on_case (inl (why, is)) again = absurd (err_is_no_ok why (o, rest) (ap (λ z. read_on z step_kept) (sym is) ∙ h))
    on_case (inr (inl (some, is))) again = takes_group track place text o rest some (group_turn track place text some ∙ ap (λ z. read_on z step_kept) (sym is) ∙ h)
    on_case (inr (inr (now, more, some, read, is))) again =
        joined now more
        (takes_group track place text (Some ([], now)) more some (group_turn track place text some ∙ ap (λ z. read_on z step_kept) read))
        (again now more o rest (ap (λ z. read_on z step_kept) (sym is) ∙ h))

-- after a header
record TakesAfter (base : Place) (x : Sum) (n : ℕ) (text : List ℕ) (o : Turn) (rest : List ℕ) : Type 0 where
  frames : List (List ℕ)
  next : Place
  turn : o ≡ Some (frames, next)
  bytes : List ℕ
  text_is : text ≡ bytes ++ rest
  counted : length bytes + (next.group + next.cluster) ≡ n + base.cluster
  segment : next.segment ≡ base.segment
  sum : next.sum ≡ summed x bytes
  sound : is_sound next ≡ true

child_takes : (track : TrackNumbers) (number n : ℕ) (base : Place) (x : Sum) (text : List ℕ) (o : Turn) (rest : List ℕ) → (cluster_child track number n (group_at base 0 x) >>= step_kept) text ≡ Ok (o, rest) → TakesAfter base x n text o rest
unfolding cluster_child
child_takes track number n base x text o rest h = on_tests (number == simple_block) (number == block_group) refl refl h
  where
    single : (b : Bool) → content_read track b n (group_at base 0 x) text ≡ Ok (o, rest) → TakesAfter base x n text o rest
    single b h =
        let c = content_sound track b n (group_at base 0 x) text o rest h in
        let body = content_text c.content in
        record { frames = content_frames c.content; next = group_at base 0 (summed x body); turn = c.turn; bytes = body; text_is = c.text_is; counted = omega (arith, c.long); segment = refl; sum = refl; sound = c.sound }

    group : read_on (block_sought n track (group_at base n x) text) step_kept ≡ Ok (o, rest) → TakesAfter base x n text o rest
    group h =
        let t = takes_sought n track (group_at base n x) text o rest h in
        record { frames = t.frames; next = t.next; turn = t.turn; bytes = t.bytes; text_is = t.text_is; counted = t.counted; segment = t.segment; sum = t.sum; sound = t.sound }

    on_tests : (a b : Bool) → (number == simple_block) ≡ a → (number == block_group) ≡ b → (cluster_child track number n (group_at base 0 x) >>= step_kept) text ≡ Ok (o, rest) → TakesAfter base x n text o rest
    on_tests true b p q h = single true (rw p at h)
    on_tests false true p q h = group (rw (p, q) at h)
    on_tests false false p q h = on_beside (is_beside number n) refl
      where
        on_beside : (d : Bool) → is_beside number n ≡ d → TakesAfter base x n text o rest
        on_beside true r = single false (sym (beside_kept number n (group_at base 0 x) text) ∙ rw (p, q, r) at h)
        on_beside false r = absurd (cc (rw (p, q, r) at h))

takes_cluster : (track : TrackNumbers) (place : Place) (text : List ℕ) (o : Turn) (rest : List ℕ) → place.group ≡ 0 → 0 < place.cluster → IsPast place.sum → turn_read track place text ≡ Ok (o, rest) → Takes place text o rest
takes_cluster track place text o rest none some past h =
    let same : place ≡ cluster_at place place.cluster place.sum = ap (λ g. group_at place g place.sum) none in
    let P : Place → Type 0 = λ p. turn_read track p text ≡ Ok (o, rest) in
    let k = head_turn track place place.cluster place.sum text o rest some (subst P same h) in
    let head = k.ident ++ k.size in
    let x = summed place.sum head in
    let base : Place = cluster_at place k.left x in
    let read : (cluster_child track k.number k.n (group_at base 0 x) >>= step_kept) k.more ≡ Ok (o, rest) =
    ap (λ r. read_on (r k.more) step_kept) (sym (by_past track k.number k.n base x (past_summed place.sum head past))) ∙ k.read in
    let t = child_takes track k.number k.n base x k.more o rest read in
    record {
      frames = t.frames;
      next = t.next;
      turn = t.turn;
      bytes = head ++ t.bytes;
      text_is = k.text_is ∙ ap (λ z. head ++ z) t.text_is ∙ sym (append_assoc head t.bytes rest);
      some = omega (arith, k.is.named.0, length-append head t.bytes, length-append k.ident k.size);
      counted = omega (arith, k.fits, t.counted, length-append head t.bytes, none);
      segment = t.segment;
      sum = t.sum ∙ summed_twice place.sum head t.bytes;
      sound = t.sound;
    }

pub turn_takes : (track : TrackNumbers) (place : Place) (text : List ℕ) (o : Turn) (rest : List ℕ) → 0 < place.group + place.cluster → IsPast place.sum → turn_read track place text ≡ Ok (o, rest) → Takes place text o rest
turn_takes track place text o rest some past h = elim (cases_lt 0 place.group) [
  | inl group ↦ takes_group track place text o rest group h
  | inr no_group ↦ takes_cluster track place text o rest (omega (arith, no_group)) (omega (arith, some, no_group)) past h
]

-- a position in a Cluster after its CRC-32
pub record Inside (base : Place) (stated : ℕ) (content rest : List ℕ) (place : Place) (text : List ℕ) : Type 0 where
  pub seen : List ℕ
  pub left : List ℕ
  pub parts : content ≡ seen ++ left
  pub text_is : text ≡ left ++ rest
  pub segment : place.segment ≡ base.segment
  pub sum : place.sum ≡ Awaits stated (fold byte_step turned seen)
  pub counted : place.group + place.cluster ≡ length left
  pub sound : is_sound place ≡ true

inside_past : (base : Place) (stated : ℕ) (content rest : List ℕ) (place : Place) (text : List ℕ) → Inside base stated content rest place text → IsPast place.sum
inside_past base stated content rest place text h = let P : Sum → Type 0 = λ z. IsPast z in subst P (sym h.sum) tt

inside_takes : (base : Place) (stated : ℕ) (content rest : List ℕ) (place : Place) (text : List ℕ) (o : Turn) (more : List ℕ) → Inside base stated content rest place text → (t : Takes place text o more) → Inside base stated content rest t.next more
inside_takes base stated content rest place text o more h t =
    let split = split_front h.left rest t.bytes more (sym h.text_is ∙ t.text_is) (omega (arith, h.counted, t.counted)) in
    let n = length t.bytes in
    let so_far = fold byte_step turned h.seen in
    record {
      seen = h.seen ++ t.bytes;
      left = drop n h.left;
      parts = h.parts ∙ ap (λ z. h.seen ++ z) split.0 ∙ sym (append_assoc h.seen t.bytes (drop n h.left));
      text_is = split.1;
      segment = t.segment ∙ h.segment;
      sum = t.sum ∙ ap (λ (z : Sum). summed z t.bytes) h.sum ∙ ap (λ s. Awaits stated s) (sym (fold-append byte_step turned h.seen t.bytes));
      counted = omega (arith, h.counted, t.counted, length-drop n h.left);
      sound = t.sound;
    }

-- if nothing is left of it, its sum is right
inside_end : (base : Place) (stated : ℕ) (content rest : List ℕ) (place : Place) (text : List ℕ) → Inside base stated content rest place text → place.group ≡ 0 → place.cluster ≡ 0 → stated ≡ crc_of content
inside_end base stated content rest place text h no_group no_cluster =
    let empty : h.left ≡ [] = none_left h.left (omega (arith, h.counted, no_group, no_cluster)) in
    let all : content ≡ h.seen = h.parts ∙ ap (λ z. h.seen ++ z) empty ∙ append-nil h.seen in
    let met : is_met place.sum ≡ true = rw (no_group, no_cluster) at h.sound in
    let same : (stated == crc_of h.seen) ≡ true = ap is_met (sym h.sum) ∙ met in
    eqb-true _ _ same ∙ ap crc_of (sym all)

-- after a frame it stands in the Cluster, or the sum of that is right
abbrev Goes : Place → ℕ → List ℕ → List ℕ → Option (List ℕ × Place) → List ℕ → Type 0
Goes base stated content rest None more = stated ≡ crc_of content
Goes base stated content rest (Some p) more = Inside base stated content rest p.1 more ⊎ (stated ≡ crc_of content)

right_goes : (base : Place) (stated : ℕ) (content rest : List ℕ) (o : Option (List ℕ × Place)) (more : List ℕ) → stated ≡ crc_of content → Goes base stated content rest o more
right_goes base stated content rest None more h = h
right_goes base stated content rest (Some p) more h = inr h

inside_frame : (most : ℕ) (track : TrackNumbers) (base : Place) (stated : ℕ) (content rest : List ℕ) (place : Place) (text : List ℕ) (o : Option (List ℕ × Place)) (more : List ℕ) → place.group + place.cluster < most → Inside base stated content rest place text → frame_read track place text ≡ Ok (o, more) → Goes base stated content rest o more
inside_frame zero track base stated content rest place text o more fits h read = absurd (omega (arith, fits))
inside_frame (suc most) track base stated content rest place text o more fits h read = elim (cases_lt 0 (place.group + place.cluster)) [
  | inl some ↦ on_turn some (read_on_ok (turn_read track place text) (next_on track) (o, more) (sym (frame_turn track place text) ∙ read)) (λ p t is less r. inside_frame most track base stated content rest p t o more less is r)
  | inr none ↦ right_goes base stated content rest o more (inside_end base stated content rest place text h (omega (arith, none)) (omega (arith, none)))
]
  where
    Again : Type 0
    Again = (p : Place) (t : List ℕ) → Inside base stated content rest p t → p.group + p.cluster < most → frame_read track p t ≡ Ok (o, more) → Goes base stated content rest o more

    on_frames : Again → (fs : List (List ℕ)) (p : Place) (t : List ℕ) → Inside base stated content rest p t → p.group + p.cluster < most → next_on track (Some (fs, p)) t ≡ Ok (o, more) → Goes base stated content rest o more
    on_frames again [] p t is less r = again p t is less r
    on_frames again (f ∷ fs) p t is less r =
        let made : Option (List ℕ × Place) = Some (f, p) in
        let P : Option (List ℕ × Place) × List ℕ → Type 0 = λ z. Goes base stated content rest z.0 z.1 in
        subst P (ok_is (made, t) (o, more) r) (inl is)

    on_turn : 0 < place.group + place.cluster → (q : Turn × List ℕ) × (turn_read track place text ≡ Ok q) × (next_on track q.0 q.1 ≡ Ok (o, more)) → Again → Goes base stated content rest o more
    on_turn some (q, one, two) again =
        let t = turn_takes track place text q.0 q.1 some (inside_past base stated content rest place text h) one in
        let P : Turn → Type 0 = λ z. next_on track z q.1 ≡ Ok (o, more) in
        on_frames again t.frames t.next q.1 (inside_takes base stated content rest place text q.0 q.1 h t) (omega (arith, fits, t.counted, t.some)) (subst P t.turn two)

-- frames, one by one
inside_gives : (track : TrackNumbers) (base : Place) (stated : ℕ) (content rest : List ℕ) (place : Place) (text : List ℕ) (frames : List (List ℕ)) (after : Place) (left : List ℕ) → Inside base stated content rest place text → GivesTo track place text frames after left → Inside base stated content rest after left ⊎ (stated ≡ crc_of content)
inside_gives track base stated content rest place text [] after left h g =
    let P : Place → Type 0 = λ p. Inside base stated content rest p text in
    let Q : List ℕ → Type 0 = λ t. Inside base stated content rest after t in
    inl (subst Q g.1 (subst P g.0 h))
inside_gives track base stated content rest place text (f ∷ fs) after left h (next, more, read, on) = on_next (inside_frame (suc (place.group + place.cluster)) track base stated content rest place text (Some (f, next)) more (omega arith) h read) (λ i. inside_gives track base stated content rest next more fs after left i on)
  where
    on_next : Inside base stated content rest next more ⊎ (stated ≡ crc_of content) → (Inside base stated content rest next more → Inside base stated content rest after left ⊎ (stated ≡ crc_of content)) → Inside base stated content rest after left ⊎ (stated ≡ crc_of content)
    on_next (inl i) again = again i
    on_next (inr right) again = inr right

inside_done : (track : TrackNumbers) (base : Place) (stated : ℕ) (content rest : List ℕ) (after : Place) (left : List ℕ) → Inside base stated content rest after left ⊎ (stated ≡ crc_of content) → ReadsToEnd track base after left → stated ≡ crc_of content
inside_done track base stated content rest after left (inr right) end = right
inside_done track base stated content rest after left (inl h) (inl (no_cluster, no_group)) = inside_end base stated content rest after left h no_group no_cluster
inside_done track base stated content rest after left (inl h) (inr (inl less)) = absurd (omega (arith, less, h.segment))
inside_done track base stated content rest after left (inl h) (inr (inr (more, read))) = inside_frame (suc (after.group + after.cluster)) track base stated content rest after left None more (omega arith) h read

-- the CRC-32 was read, or is the fault
begun : (track : TrackNumbers) (place : Place) (ident size stated content rest : List ℕ) → SaysIdent ident crc_ident → SaysSize size (Some 4) → length stated ≡ 4 →
    (Inside place (low_number stated) content rest (cluster_at (segment_at place false place.segment) (length content) (Awaits (low_number stated) turned)) (content ++ rest)
    × (frame_read track (cluster_entered place (length ((ident ++ size) ++ (stated ++ content)))) (((ident ++ size) ++ (stated ++ content)) ++ rest) ≡ frame_read track (cluster_at (segment_at place false place.segment) (length content) (Awaits (low_number stated) turned)) (content ++ rest)))
    ⊎ ((why : Stop) × (frame_read track (cluster_entered place (length ((ident ++ size) ++ (stated ++ content)))) (((ident ++ size) ++ (stated ++ content)) ++ rest) ≡ Err why))
unfolding first_child
begun track place ident size stated content rest is says four = on_sound (is_sound now) refl
  where
    base : Place
    base = segment_at place false place.segment

    now : Place
    now = cluster_at base (length content) (Awaits (low_number stated) turned)

    head : List ℕ
    head = ident ++ size

    start : Place
    start = cluster_entered place (length (head ++ (stated ++ content)))

    text : List ℕ
    text = (head ++ (stated ++ content)) ++ rest

    crc : is_crc (number_of ident) 4 ≡ true
    crc = ap (λ n. is_crc n 4) is.2

    long : length (head ++ (stated ++ content)) ≡ length head + (4 + length content)
    long = omega (arith, four, length-append head (stated ++ content), length-append stated content)

    regrouped : (a b c d : List ℕ) → (a ++ (b ++ c)) ++ d ≡ a ++ (b ++ (c ++ d))
    regrouped a b c d = simp append_assoc

    turn : turn_read track start text ≡ (child_by track (number_of ident) 4 (cluster_at base (length content) Begins) Begins >>= step_kept) (stated ++ (content ++ rest))
    turn =
        ap (λ n. turn_read track (cluster_at base n Begins) text) long
        ∙ ap (turn_read track (cluster_at base (length head + (4 + length content)) Begins)) (regrouped head stated content rest)
        ∙ known_header track base ident size 4 (length content) Begins (stated ++ (content ++ rest)) is.0 is.1 says (crc_inside (number_of ident) is.2)

    on_sound : (b : Bool) → is_sound now ≡ b →
        (Inside place (low_number stated) content rest now (content ++ rest) × (frame_read track start text ≡ frame_read track now (content ++ rest)))
        ⊎ ((why : Stop) × (frame_read track start text ≡ Err why))
    on_sound true t = inl (
      record { seen = []; left = content; parts = refl; text_is = refl; segment = refl; sum = refl; counted = omega arith; sound = t },
      frame_turn track start text ∙ ap (λ z. read_on z (next_on track)) turn ∙ rw (crc, taken_complete 4 stated (content ++ rest) four, t) refl,
    )
    on_sound false t = inr (Met fault.Checksum (content ++ rest), frame_turn track start text ∙ ap (λ z. read_on z (next_on track)) turn ∙ rw (crc, taken_complete 4 stated (content ++ rest) four, t) refl)

pub cluster_summed : (track : TrackNumbers) (place after : Place) (ident size stated content rest left : List ℕ) (frames : List (List ℕ)) → SaysIdent ident crc_ident → SaysSize size (Some 4) → length stated ≡ 4 →
    GivesTo track (cluster_entered place (length ((ident ++ size) ++ (stated ++ content)))) (((ident ++ size) ++ (stated ++ content)) ++ rest) frames after left → ReadsToEnd track place after left → low_number stated ≡ crc_of content
cluster_summed track place after ident size stated content rest left frames is says four gives end = on_frames (begun track place ident size stated content rest is says four) frames gives
  where
    n : ℕ
    n = length ((ident ++ size) ++ (stated ++ content))

    start : Place
    start = cluster_entered place n

    text : List ℕ
    text = ((ident ++ size) ++ (stated ++ content)) ++ rest

    now : Place
    now = cluster_at (segment_at place false place.segment) (length content) (Awaits (low_number stated) turned)

    Right : Type 0
    Right = low_number stated ≡ crc_of content

    Start : Type 0
    Start = (Inside place (low_number stated) content rest now (content ++ rest) × (frame_read track start text ≡ frame_read track now (content ++ rest))) ⊎ ((why : Stop) × (frame_read track start text ≡ Err why))

    at_start : Start → ReadsToEnd track place start text → Right
    at_start b (inl (no_cluster, no_group)) = absurd (omega (arith, no_cluster, is.0.0, length-append (ident ++ size) (stated ++ content), length-append ident size))
    at_start b (inr (inl less)) = absurd (omega (arith, less))
    at_start (inl (h, same)) (inr (inr (more, read))) = inside_frame (suc (now.group + now.cluster)) track place (low_number stated) content rest now (content ++ rest) None more (omega arith) h (sym same ∙ read)
    at_start (inr (why, same)) (inr (inr (more, read))) = absurd (err_is_no_ok why (None, more) (sym same ∙ read))

    on_frames : Start → (frames : List (List ℕ)) → GivesTo track start text frames after left → Right
    on_frames b [] g =
        let P : Place → Type 0 = λ p. ReadsToEnd track place p left in
        let Q : List ℕ → Type 0 = λ t. ReadsToEnd track place start t in
        at_start b (subst Q (sym g.1) (subst P (sym g.0) end))
    on_frames (inl (h, same)) (f ∷ fs) (next, more, read, on) = inside_done track place (low_number stated) content rest after left (inside_gives track place (low_number stated) content rest now (content ++ rest) (f ∷ fs) after left h (next, more, sym same ∙ read, on)) end
    on_frames (inr (why, same)) (f ∷ fs) (next, more, read, on) = absurd (err_is_no_ok why (Some (f, next), more) (sym same ∙ read))

pub damage_told : (track : TrackNumbers) (place after : Place) (ident size stated content changed rest left : List ℕ) (frames : List (List ℕ)) (bits at : ℕ) → SaysIdent ident crc_ident → SaysSize size (Some 4) → length stated ≡ 4 → low_number stated ≡ crc_of content →
    All (λ b. b < 256) content → All (λ b. b < 256) changed → length content ≡ length changed → 0 < bits → bits < 2 ^ 32 → bit_xor (low_number content) (low_number changed) ≡ bits * 2 ^ at →
    GivesTo track (cluster_entered place (length ((ident ++ size) ++ (stated ++ changed)))) (((ident ++ size) ++ (stated ++ changed)) ++ rest) frames after left → ReadsToEnd track place after left → ⊥
damage_told track place after ident size stated content changed rest left frames bits at is says four right bytes also long some few apart gives end =
    different content changed bits at bytes also long some few apart (sym right ∙ cluster_summed track place after ident size stated changed rest left frames is says four gives end)
