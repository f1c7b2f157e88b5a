-- What is known beside the elements of a written Segment: of when frames come, and of Cues.
use Rattle.std.proofs.Common.{◌≡◌, ◌⊎◌, ◌<◌, ◌+◌, ◌-◌, ◌*◌, ◌^◌, ◌==◌, ◌||◌, ◌∙◌, ◌++◌, ℕ, suc, List, [], ◌∷◌, Bool, true, false, Option, Some, None, Result, Ok, length, min, nat_lt, refl, sym, ap, ap₂, subst, arith, inl, inr, append-nil, append_assoc, length-append}
use Rattle.std.proofs.Math.Nat.{min-eq_left}
use Rattle.std.proofs.lemmas.Bool.{le-ltb}
use Rattle.std.proofs.lemmas.Bool.Decides.{nat_tests}
use Rattle.ffv1_reads.specs.Reads.{Stop}
use Rattle.ffv1_reads.proofs.Results.{ok_is}
use Rattle.ffv1_ebml.specs.Spelled.{IsIdent, ident_bytes, long}
use Rattle.ffv1_ebml.specs.declared.sum.Sum.{Sum}
use Rattle.ffv1_ebml.specs.Elements.{first_read}
use Rattle.ffv1_ebml.proofs.SpelledLaws.{ident_spelled, long_spelled}
use Rattle.ffv1_matroska.specs.Cues.{cued_behind, cued_by}
use Rattle.ffv1_matroska.specs.Offsets.{element_taken}
use Rattle.ffv1_matroska.specs.Segments.{cluster, header_read, step_read}
use Rattle.ffv1_matroska.specs.Times.{first_moment, first_off, is_away, is_off, moment, timed_at, timed_behind, timed_by, timed_read, timed_with}
use Rattle.ffv1_matroska.specs.Written.{checked, cluster_content, cluster_element, clusters_from, long_element}
use Rattle.ffv1_matroska.specs.WrittenIdents.{cues}
use Rattle.ffv1_matroska.specs.declared.place.Place.{Place}
use Rattle.ffv1_matroska.specs.declared.place.Step.{Step}
use Rattle.ffv1_matroska.specs.declared.times.Times.{Times}
use Rattle.ffv1_matroska.proofs.CuesTold.{cued_cluster, cued_cues, told_inside, told_sized}
use Rattle.ffv1_matroska.proofs.WrittenClusters.{written_numbers}
use Rattle.ffv1_matroska.proofs.WrittenLengths.{checked_long}
use Rattle.ffv1_matroska.proofs.WrittenPhases.{IsFine, Phase, Before, Entered, Summed, Dated, comes, content_some, frame_of, goes_on, next_of, place_of, step_by, step_of, tail_text, text_of, time_at}
use Rattle.ffv1_matroska.proofs.WrittenSteps.{at, block_some, content_small}

-- ---- of one frame

-- it comes as many durations after the first one as there were frames before it
never_away : (tick count : ℕ) → is_away tick tick 32768 count (count + 32768) ≡ false
never_away tick count =
    let early : nat_lt (32768 * tick + count * tick + (tick + count)) ((count + 32768) * tick) ≡ false = le-ltb _ _ (omega arith) in
    let late : nat_lt ((count + 32768) * tick + (tick + count)) (32768 * tick + count * tick) ≡ false = le-ltb _ _ (omega arith) in
    rw (early, late) refl

or_true : (b : Bool) → (b || true) ≡ true
or_true true = refl
or_true false = refl

-- with no duration no frame is judged
never_off : (tick duration count : ℕ) → (duration ≡ 0) ⊎ (tick ≡ duration) → is_off tick duration 32768 count (count + 32768) ≡ false
never_off tick duration count (inl none) =
    let same : (tick == 0 || duration == 0) ≡ true = ap (λ k. tick == 0 || k == 0) none ∙ or_true (tick == 0) in
    rw same refl
never_off tick duration count (inr is) = ap (λ k. is_off k duration 32768 count (count + 32768)) is ∙ on_none (duration == 0 || duration == 0) refl
  where
    on_none : (b : Bool) → (duration == 0 || duration == 0) ≡ b → is_off duration duration 32768 count (count + 32768) ≡ false
    on_none true none = rw none refl
    on_none false some = rw some (never_away duration count)

-- ---- of times

abbrev frame_number : Phase → ℕ
frame_number (Before number frames tail s) = number
frame_number (Entered number frame frames tail) = number
frame_number (Summed number frame frames tail s) = number
frame_number (Dated number frame frames tail s) = number

abbrev IsDated : Phase → Times → Type 0
IsDated (Before number frames tail s) t = Unit {0}
IsDated (Entered number frame frames tail) t = Unit {0}
IsDated (Summed number frame frames tail s) t = Unit {0}
IsDated (Dated number frame frames tail s) t = t.cluster ≡ number

-- so many frames were read, and none of them was off
pub record InTime (tick number : ℕ) (t : Times) : Type 0 where
  pub ticks : t.tick ≡ tick
  pub none : t.off ≡ None
  pub counts : t.count ≡ number
  pub begins : (number ≡ 0) ⊎ (t.first ≡ 32768)

abbrev pub KnowsTimes : ℕ → Phase → Times → Type 0
KnowsTimes tick p t = InTime tick (frame_number p) t × IsDated p t

-- a frame more
frame_in_time : (tick duration number : ℕ) (t : Times) → (duration ≡ 0) ⊎ (tick ≡ duration) → number < 2 ^ 63 → InTime tick number t → t.cluster ≡ number → InTime tick (suc number) (timed_at duration (moment t.cluster 0) t)
frame_in_time tick duration number t same small h dated = record {
  ticks = h.ticks;
  none = none;
  counts = ap (λ (k : ℕ). min (k + 1) 18446744073709551615) h.counts ∙ min-eq_left (omega (arith, small)) ∙ (omega arith);
  begins = inr first;
}
  where
    now : moment t.cluster 0 ≡ number + 32768
    now = ap (λ (k : ℕ). min (k + 32768) 18446744073709551615) dated ∙ min-eq_left (omega (arith, small))

    on_first : (number ≡ 0) ⊎ (t.first ≡ 32768) → first_moment number t.first (number + 32768) ≡ 32768
    on_first (inl none) = ap (λ k. first_moment k t.first (k + 32768)) none
    on_first (inr is) = on_zero (number == 0) refl is
      where
        on_zero : (b : Bool) → (number == 0) ≡ b → t.first ≡ 32768 → first_moment number t.first (number + 32768) ≡ 32768
        on_zero true test is = let none : number ≡ 0 = grind (arith, nat_tests, test) in ap (λ k. first_moment k t.first (k + 32768)) none
        on_zero false some is = rw some is

    first : first_moment t.count t.first (moment t.cluster 0) ≡ 32768
    first = ap₂ (λ k l. first_moment k t.first l) h.counts now ∙ on_first h.begins

    off : is_off t.tick duration (first_moment t.count t.first (moment t.cluster 0)) t.count (moment t.cluster 0) ≡ false
    off = ap (λ k. is_off k duration (first_moment t.count t.first (moment t.cluster 0)) t.count (moment t.cluster 0)) h.ticks
        ∙ ap (λ k. is_off tick duration k t.count (moment t.cluster 0)) first
        ∙ ap₂ (λ k l. is_off tick duration 32768 k l) h.counts now
        ∙ never_off tick duration number same

    none : first_off t.off (is_off t.tick duration (first_moment t.count t.first (moment t.cluster 0)) t.count (moment t.cluster 0)) t.count ≡ None
    none = ap₂ (λ (o : Option ℕ) b. first_off o b t.count) h.none off

module _ (tick duration : ℕ) (same : (duration ≡ 0) ⊎ (tick ≡ duration)) where
  times_next : (p : Phase) (x : Sum) (t : Times) → IsFine p → KnowsTimes tick p t → KnowsTimes tick (next_of p x) (timed_with duration (frame_of p) (time_at p) t)
  times_next (Before number [] None s) x t fine h = h
  times_next (Before number [] (Some content) s) x t fine h = h
  times_next (Before number (frame ∷ frames) tail s) x t fine h = h
  times_next (Entered number frame frames tail) x t fine h = h
  times_next (Summed number frame frames tail s) x t fine h = (record { ticks = h.0.ticks; none = h.0.none; counts = h.0.counts; begins = h.0.begins }, refl)
  times_next (Dated number frame frames tail s) x t fine h = let small = fine.1.0 in (frame_in_time tick duration number t same (omega (arith, small)) h.0 h.1, tt)

  module _ (e : Bool) (spare : ℕ) (ends : (spare ≡ 0) ⊎ (e ≡ true)) where
    times_told : (p : Phase) (place : Place) (rest : List ℕ) (t : Times) → timed_read duration (Ok (step_of p place, rest)) t ≡ timed_with duration (frame_of p) (time_at p) t
    unfolding timed_by
    times_told (Before number [] None s) place rest t = refl
    times_told (Before number [] (Some content) s) place rest t = refl
    times_told (Before number (frame ∷ frames) tail s) place rest t = refl
    times_told (Entered number frame frames tail) place rest t = refl
    times_told (Summed number frame frames tail s) place rest t = refl
    times_told (Dated number frame frames tail s) place rest t = refl

    times_here : (p : Phase) (t : Times) → IsFine p → timed_behind (written_numbers duration) (place_of e spare p) (text_of p) t ≡ timed_with duration (frame_of p) (time_at p) t
    unfolding timed_behind
    times_here p t fine = let c = comes duration e spare ends p fine in ap (λ z. timed_read duration z t) c.read ∙ times_told p c.place c.rest t

    -- where a reader stands
    abbrev pub StandsTimed : Place → List ℕ → Times → Type 0
    StandsTimed place text t = (p : Phase) × (place ≡ place_of e spare p) × (text ≡ text_of p) × IsFine p × KnowsTimes tick p t

    pub times_go_on : (place to : Place) (text rest : List ℕ) (t : Times) → StandsTimed place text t → element_taken (written_numbers duration) place text ≡ Ok (to, rest) → StandsTimed to rest (timed_behind (written_numbers duration) place text t)
    times_go_on place to text rest t (p, here, there, fine, knows) is =
        let track = written_numbers duration in
        let next = goes_on duration e spare ends p to rest fine (ap₂ (element_taken track) (sym here) (sym there) ∙ is) in
        let told : timed_behind track place text t ≡ timed_with duration (frame_of p) (time_at p) t = ap₂ (λ (k : Place) l. timed_behind track k l t) here there ∙ times_here p t fine in
        let P : Times → Type 0 = λ z. KnowsTimes tick (next_of p next.0) z in
        (next_of p next.0, next.1, next.2, next.3, subst P (sym told) (times_next p next.0 t fine knows))

-- ---- of Cues

abbrev pub has : Option (List ℕ) → Bool
has None = false
has (Some content) = true

abbrev cued_of : Phase → Bool → Bool
cued_of (Before number [] None s) cued = cued
cued_of (Before number [] (Some content) s) cued = true
cued_of (Before number (frame ∷ frames) tail s) cued = false
cued_of (Entered number frame frames tail) cued = cued
cued_of (Summed number frame frames tail s) cued = cued
cued_of (Dated number frame frames tail s) cued = cued

-- at the end they came, or none are there
abbrev pub KnowsCued : Bool → Phase → Bool → Type 0
KnowsCued ended (Before number [] None s) cued = cued ≡ ended
KnowsCued ended (Before number [] (Some content) s) cued = (cued ≡ false) × (ended ≡ true)
KnowsCued ended (Before number (frame ∷ frames) tail s) cued = (cued ≡ false) × (ended ≡ has tail)
KnowsCued ended (Entered number frame frames tail) cued = (cued ≡ false) × (ended ≡ has tail)
KnowsCued ended (Summed number frame frames tail s) cued = (cued ≡ false) × (ended ≡ has tail)
KnowsCued ended (Dated number frame frames tail s) cued = (cued ≡ false) × (ended ≡ has tail)

cued_next : (ended : Bool) (p : Phase) (x : Sum) (cued : Bool) → KnowsCued ended p cued → KnowsCued ended (next_of p x) (cued_of p cued)
cued_next ended (Before number [] None s) x cued h = h
cued_next ended (Before number [] (Some content) s) x cued h = sym h.1
cued_next ended (Before number (frame ∷ frames) tail s) x cued h = (refl, h.1)
cued_next ended (Entered number frame frames tail) x cued h = h
cued_next ended (Summed number frame frames tail s) x cued h = h
cued_next ended (Dated number frame [] None s) x cued h = h.0 ∙ sym h.1
cued_next ended (Dated number frame [] (Some content) s) x cued h = h
cued_next ended (Dated number frame (other ∷ frames) tail s) x cued h = h

-- an element of the Segment that is spelled
cued_top : (e : Bool) (m ident : ℕ) (content rest : List ℕ) (s : Sum) (cued : Bool) → IsIdent ident → length content < 2 ^ 56 - 1 →
    cued_behind (at e (length (long_element ident content) + m) 0 s) (long_element ident content ++ rest) cued ≡ cued_by ident cued
unfolding cued_behind header_read
cued_top e m ident content rest s cued is small =
    let p = ident_spelled ident is in
    let size = long (length content) in
    let head = ident_bytes ident ++ size in
    let long_is : length (head ++ content) + m ≡ length head + (length content + m) = omega (arith, length-append head content) in
    ap (λ k. cued_behind (at e k 0 s) ((head ++ content) ++ rest) cued) long_is
    ∙ ap (λ z. cued_behind (at e (length head + (length content + m)) 0 s) z cued) (append_assoc head content rest)
    ∙ told_sized (at e 0 0 s) false cued (ident_bytes ident) size (content ++ rest) (length content) m p.is p.few (long_spelled (length content) small)
    ∙ ap (λ k. cued_by k cued) p.number

cluster_is : IsIdent cluster
cluster_is = inr (inr (inr (omega arith, omega arith)))

cues_is : IsIdent cues
cues_is = inr (inr (inr (omega arith, omega arith)))

cued_end : (e : Bool) (m : ℕ) (s : Sum) (cued : Bool) → (m ≡ 0) ⊎ (e ≡ true) → cued_behind (at e m 0 s) [] cued ≡ cued
unfolding cued_behind header_read first_read
cued_end e m s cued (inl none) = rw none refl
cued_end e m s cued (inr endless) = on_left (m == 0) refl
  where
    on_left : (b : Bool) → (m == 0) ≡ b → cued_behind (at e m 0 s) [] cued ≡ cued
    on_left true is = rw is refl
    on_left false is = rw (is, endless) refl

some_none : (s : Step) → ◌≡◌ {A = Option Step} (Some s) None → ⊥
some_none s h = absurd (cc)

module _ (e : Bool) (spare : ℕ) (ends : (spare ≡ 0) ⊎ (e ≡ true)) where
  cued_here : (p : Phase) (cued : Bool) → IsFine p → cued_behind (place_of e spare p) (text_of p) cued ≡ cued_of p cued
  unfolding clusters_from cluster_element
  cued_here (Before number [] None s) cued fine =
      let none : 0 + spare ≡ spare = omega arith in
      ap (λ k. cued_behind (at e k 0 s) [] cued) none ∙ cued_end e spare s cued ends
  cued_here (Before number [] (Some content) s) cued fine =
      let text = long_element cues (checked content) in
      ap (λ z. cued_behind (at e (length text + spare) 0 s) z cued) (sym (append-nil text)) ∙ cued_top e spare cues (checked content) [] s cued cues_is fine.2.1 ∙ cued_cues cued
  cued_here (Before number (frame ∷ frames) tail s) cued fine =
      let one = cluster_element number frame in
      let more = clusters_from (suc number) frames in
      let rest = more ++ tail_text tail in
      let long_is : length ((one ++ more) ++ tail_text tail) + spare ≡ length one + (length rest + spare) = omega (arith, ap length (append_assoc one more (tail_text tail)), length-append one rest) in
      ap (λ k. cued_behind (at e k 0 s) ((one ++ more) ++ tail_text tail) cued) long_is
      ∙ ap (λ z. cued_behind (at e (length one + (length rest + spare)) 0 s) z cued) (append_assoc one more (tail_text tail))
      ∙ cued_top e (length rest + spare) cluster (checked (cluster_content number frame)) rest s cued cluster_is (content_small number frame fine.1.0.1)
      ∙ cued_cluster cued
  cued_here (Entered number frame frames tail) cued fine =
      told_inside (place_of e spare (Entered number frame frames tail)) (text_of (Entered number frame frames tail)) cued (omega (arith, checked_long (cluster_content number frame)))
  cued_here (Summed number frame frames tail s) cued fine =
      told_inside (place_of e spare (Summed number frame frames tail s)) (text_of (Summed number frame frames tail s)) cued (let some = content_some number frame in omega (arith, some))
  cued_here (Dated number frame frames tail s) cued fine =
      told_inside (place_of e spare (Dated number frame frames tail s)) (text_of (Dated number frame frames tail s)) cued (let some = block_some frame in omega (arith, some))

  module _ (duration : ℕ) (ended : Bool) where
    abbrev pub StandsCued : Place → List ℕ → Bool → Type 0
    StandsCued place text cued = (p : Phase) × (place ≡ place_of e spare p) × (text ≡ text_of p) × IsFine p × KnowsCued ended p cued

    pub cued_go_on : (place to : Place) (text rest : List ℕ) (cued : Bool) → StandsCued place text cued → element_taken (written_numbers duration) place text ≡ Ok (to, rest) → StandsCued to rest (cued_behind place text cued)
    cued_go_on place to text rest cued (p, here, there, fine, knows) is =
        let track = written_numbers duration in
        let next = goes_on duration e spare ends p to rest fine (ap₂ (element_taken track) (sym here) (sym there) ∙ is) in
        let told : cued_behind place text cued ≡ cued_of p cued = ap₂ (λ (k : Place) l. cued_behind k l cued) here there ∙ cued_here p cued fine in
        let P : Bool → Type 0 = λ z. KnowsCued ended (next_of p next.0) z in
        (next_of p next.0, next.1, next.2, next.3, subst P (sym told) (cued_next ended p next.0 cued knows))

    -- where no further element comes
    at_end : (p : Phase) (place : Place) (rest left : List ℕ) (cued : Bool) → KnowsCued ended p cued → ◌≡◌ {A = Result (Option Step × List ℕ) Stop} (Ok (step_of p place, rest)) (Ok (None, left)) → (cued ≡ ended) × (text_of p ≡ [])
    unfolding clusters_from
    at_end (Before number [] None s) place rest left cued h is = (h, refl)
    at_end (Before number [] (Some content) s) place rest left cued h is = absurd (some_none (step_by (Before number [] (Some content) s) place) (ap (λ (z : Option Step × List ℕ). z.0) (ok_is (_, rest) (None, left) is)))
    at_end (Before number (frame ∷ frames) tail s) place rest left cued h is = absurd (some_none (step_by (Before number (frame ∷ frames) tail s) place) (ap (λ (z : Option Step × List ℕ). z.0) (ok_is (_, rest) (None, left) is)))
    at_end (Entered number frame frames tail) place rest left cued h is = absurd (some_none (step_by (Entered number frame frames tail) place) (ap (λ (z : Option Step × List ℕ). z.0) (ok_is (_, rest) (None, left) is)))
    at_end (Summed number frame frames tail s) place rest left cued h is = absurd (some_none (step_by (Summed number frame frames tail s) place) (ap (λ (z : Option Step × List ℕ). z.0) (ok_is (_, rest) (None, left) is)))
    at_end (Dated number frame frames tail s) place rest left cued h is = absurd (some_none (step_by (Dated number frame frames tail s) place) (ap (λ (z : Option Step × List ℕ). z.0) (ok_is (_, rest) (None, left) is)))

    pub ends_cued : (place : Place) (left : List ℕ) (cued : Bool) → StandsCued place left cued → step_read (written_numbers duration) place left ≡ Ok (None, left) → (cued ≡ ended) × (left ≡ [])
    ends_cued place left cued (p, here, there, fine, knows) none =
        let track = written_numbers duration in
        let c = comes duration e spare ends p fine in
        let last = at_end p c.place c.rest left cued knows (sym c.read ∙ ap₂ (step_read track) (sym here) (sym there) ∙ none) in
        (last.0, there ∙ last.1)
