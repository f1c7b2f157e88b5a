-- The first fault that is told is that of plain reading, at its byte.
use Rattle.std.proofs.Common.{◌≡◌, ◌⊎◌, ◌∙◌, ℕ, ◌+◌, ◌-◌, ◌^◌, ◌<◌, ◌≤◌, ◌==◌, suc, zero, nat_lt, Bool, true, false, List, [], ◌∷◌, ◌++◌, length, take, Option, Some, None, Result, Ok, Err, inl, inr, refl, sym, ap, subst, arith, append_assoc, length-append}
use Rattle.std.proofs.lemmas.Bool.{eqb-true}
use Rattle.ffv1_reads.proofs.Results.{ok_is, some_is}
use Rattle.ffv1_reads.specs.Offsets.{FaultAt, Leads, all_bytes, offset_after}
use Rattle.ffv1_reads.specs.Reads.{EndsEarly, Kept, Met, Short, Stop, Want, given, read_on}
use Rattle.ffv1_reads.specs.declared.fault.FileFault.{FileFault}
use Rattle.ffv1_reads.specs.declared.fault.FileFault.TheVariants as fault
use Rattle.ffv1_reads.specs.Items.{Given, GivesFrame, Tells}
use Rattle.ffv1_avi.specs.Damaged.{CountsInput, TellsAfter, plain_at}
use Rattle.ffv1_avi.specs.Edges.{FramesThen}
use Rattle.ffv1_avi.specs.Items.{frame_given, headed_by, item_after, item_read, item_up_to, over, told_on}
use Rattle.ffv1_avi.specs.Offsets.{chunk_taken}
use Rattle.ffv1_avi.specs.Opens.{Step}
use Rattle.ffv1_avi.specs.Padding.{content, padded}
use Rattle.ffv1_avi.specs.Places.{ended, is_open}
use Rattle.ffv1_avi.specs.Turns.{chunk_of, chunk_turn, count_to, heard_in, step_read, turn_read}
use Rattle.ffv1_avi.specs.declared.course.Course.{Course}
use Rattle.ffv1_avi.specs.declared.course.Pending.TheVariants as pending
use Rattle.ffv1_avi.specs.declared.course.Turn.TheVariants.{Frame, On}
use Rattle.ffv1_avi.specs.declared.place.Place.{Place}
use Rattle.ffv1_avi.proofs.Agreeing.{Came, fault_agrees, frame_agrees, short_agrees, step_shorter, told_as}
use Rattle.ffv1_avi.proofs.CountedChunks.{Takes, heard_takes}
use Rattle.ffv1_avi.proofs.HeardOpens.{chunk_heard}
use Rattle.ffv1_avi.proofs.PaddedFrames.{content_long, content_meets, content_short, content_there}
use Rattle.ffv1_avi.proofs.TakenSteps.{end_at, over_leads, step_taken, taken_by_step}

abbrev Taken : Type 0
Taken = Result (Place × List ℕ) Stop

abbrev Stepped : Type 0
Stepped = Result (Option Step × List ℕ) Stop

ok_no_err : (p : Place × List ℕ) (why : Stop) → ◌≡◌ {A = Taken} (Ok p) (Err why) → ⊥
ok_no_err p why e = absurd (cc)

same_stop : (s t : Stop) → ◌≡◌ {A = Taken} (Err s) (Err t) → s ≡ t
same_stop s t e = cc

no_met : (w : Want) (f : FileFault) (rest : List ℕ) → ◌≡◌ {A = Taken} (Err (Short w)) (Err (Met f rest)) → ⊥
no_met w f rest e = let s = same_stop (Short w) (Met f rest) e in absurd (cc)

no_short : (w : Want) (f : FileFault) (rest : List ℕ) → ◌≡◌ {A = Taken} (Err (Met f rest)) (Err (Short w)) → ⊥
no_short w f rest e = let s = same_stop (Met f rest) (Short w) e in absurd (cc)

same_fault : (f g : FileFault) (xs ys : List ℕ) → ◌≡◌ {A = Taken} (Err (Met f xs)) (Err (Met g ys)) → f ≡ g
same_fault f g xs ys e = let s = same_stop (Met f xs) (Met g ys) e in cc

same_place : (p q : Place) (xs ys : List ℕ) → ◌≡◌ {A = Taken} (Ok (p, xs)) (Ok (q, ys)) → (p ≡ q) × (xs ≡ ys)
same_place p q xs ys e = let both = ok_is (p, xs) (q, ys) e in (ap (λ (z : Place × List ℕ). z.0) both, ap (λ (z : Place × List ℕ). z.1) both)

-- ---- how many bytes a step takes

module _ (place : Place) (counts : CountsInput place) (text : List ℕ) (few : length text < 2 ^ 64 - 1) where
  turn_takes : Takes place (length text) (chunk_turn place text)
  turn_takes = subst (Takes place (length text)) (sym (chunk_heard place text)) (heard_takes place text counts (nat_lt 0 place.movi) (place.input == 0) (is_open place.open_in) (nat_lt 0 place.riff) refl refl refl refl)

  pub step_takes : (rest : List ℕ) (next : Place) → step_read place text ≡ Ok (Some (None, next), rest) → (length rest + count_to place next ≡ length text) × CountsInput next
  unfolding chunk_turn
  step_takes rest next is =
      let turned : chunk_turn place text ≡ Ok (Some (On (count_to place next) pending.Nothing next), rest) = rw is refl in
      let took = subst (Takes place (length text)) turned turn_takes in
      (omega (arith, took.0, took.1, few), took.2)

  frame_takes : (rest : List ℕ) (size : ℕ) (next : Place) → step_read place text ≡ Ok (Some (Some size, next), rest) → (length rest + 8 ≡ length text) × CountsInput next
  unfolding chunk_turn
  frame_takes rest size next is =
      let turned : chunk_turn place text ≡ Ok (Some (Frame 8 size next), rest) = rw is refl in
      subst (Takes place (length text)) turned turn_takes

  pub end_takes : (rest : List ℕ) → step_read place text ≡ Ok (None, rest) → place.movi ≡ 0
  unfolding chunk_turn
  end_takes rest is =
      let turned : chunk_turn place text ≡ Ok (None, rest) = rw is refl in
      subst (Takes place (length text)) turned turn_takes

module _ (f : FileFault) where
  -- a chunk has the fault, or the bytes end inside it
  abbrev HasFault : Taken → Type 0
  HasFault z = ((after : List ℕ) × (z ≡ Err (Met f after))) ⊎ ((w : Want) × (z ≡ Err (Short w)) × (f ≡ fault.Truncated))

  -- frames come, and then it is told at this offset
  abbrev ToldAfter : List (List ℕ) → Came → ℕ → Type 0
  ToldAfter [] y offset = (d : Course) × (more : List ℕ) × (y ≡ Ok (Some (Tells f offset, d), more))
  ToldAfter (x ∷ xs) y offset = (d : Course) × (more : List ℕ) × (y ≡ Ok (Some (GivesFrame x, d), more)) × (length more < 2 ^ 64 - 1) × ToldAfter xs (item_read d more) offset

  whole_faultless : (p : Place × List ℕ) → HasFault (Ok p) → ⊥
  whole_faultless p (inl (after, e)) = ok_no_err p (Met f after) e
  whole_faultless p (inr (w, e, truncated)) = ok_no_err p (Short w) e

  -- ---- the chunk at fault
  module _ (most : ℕ) (place : Place) (counts : CountsInput place) (begun at : ℕ) (text : List ℕ) (few : length text < 2 ^ 64 - 1) (held : at + length text ≤ 2 ^ 64 - 1) where
    abbrev here : Course
    here = plain_at place begun at

    frame_told : (size : ℕ) (next : Place) (rest : List ℕ) → length rest + 8 ≡ length text → HasFault (read_on (content Kept size rest) (λ bytes. given next)) → ToldAfter [] (frame_given here 8 size next rest) at
    frame_told size next rest long why = on_content (content Kept size rest) refl why
      where
        begins : headed_by here 8 ≡ at
        begins = omega (arith, long, held)

        on_content : (z : Result (List ℕ × List ℕ) Stop) → content Kept size rest ≡ z → HasFault (read_on z (λ bytes. given next)) → ToldAfter [] (frame_given here 8 size next rest) at
        on_content (Ok (bytes, more)) is why = absurd (whole_faultless (next, more) why)
        on_content (Err (Met g more)) is why = absurd (content_meets size rest more g is)
        on_content (Err (Short w)) is (inl (after, e)) = absurd (no_met w f after e)
        on_content (Err (Short w)) is (inr (v, e, truncated)) = rw truncated (over here, [], content_short here 8 size next rest w is ∙ ap (λ k. Ok (Some (Tells fault.Truncated k, over here), [])) begins)

    last_told : (z : Stepped) → step_read place text ≡ z → HasFault (read_on z (step_taken place)) → ToldAfter [] (item_after (item_up_to most) here (read_on (heard_in text z) (λ r. given (chunk_of place r)))) at
    last_told (Ok (None, rest)) is why = absurd (whole_faultless (end_at place, rest) why)
    last_told (Ok (Some (None, next), rest)) is why = absurd (whole_faultless (next, rest) why)
    last_told (Ok (Some (Some size, next), rest)) is why = frame_told size next rest (frame_takes place counts text few rest size next is).0 why
    last_told (Err (Short w)) is (inl (after, e)) = absurd (no_met w f after e)
    last_told (Err (Short w)) is (inr (v, e, truncated)) = rw truncated (over here, [], refl)
    last_told (Err (Met g rest)) is (inr (w, e, truncated)) = absurd (no_short w g rest e)
    last_told (Err (Met g rest)) is (inl (after, e)) =
        let told = told_as place g (take (length text - length rest) text) in
        rw (← same_fault g f rest after e) (told_on here told.0 told.1 told.2, rest, rw told.3 refl)

  -- ---- a chunk that is read whole, and what comes after it
  module _ (place : Place) (counts : CountsInput place) (begun at end : ℕ) (text left : List ℕ) (next : Place) (few : length text < 2 ^ 64 - 1) (held : at + length text ≤ 2 ^ 64 - 1) (fewer : length left < 2 ^ 64 - 1) where
    abbrev start : Course
    start = plain_at place begun at

    -- what comes from there on
    abbrev Again : Type 0
    Again = (most b a : ℕ) → CountsInput next → length left < most → a + length left ≡ at + length text → (frames : List (List ℕ)) × ToldAfter frames (item_up_to most (plain_at next b a) left) end

    -- where it was the last one there is no fault
    abbrev Faulty : Type 0
    Faulty = next.movi ≡ 0 → next.input ≡ 0 → ⊥

    frame_whole : Again → (size : ℕ) (after : Place) (r : List ℕ) → length r + 8 ≡ length text → CountsInput after → read_on (content Kept size r) (λ bytes. given after) ≡ Ok (next, left) → (frames : List (List ℕ)) × ToldAfter frames (frame_given start 8 size after r) end
    unfolding item_read
    frame_whole again size after r eight counted e = on_content (content Kept size r) refl e
      where
        b : ℕ
        b = headed_by start 8

        now : ℕ
        now = offset_after at (offset_after 8 (padded size))

        on_content : (c : Result (List ℕ × List ℕ) Stop) → content Kept size r ≡ c → read_on c (λ bytes. given after) ≡ Ok (next, left) → (frames : List (List ℕ)) × ToldAfter frames (frame_given start 8 size after r) end
        on_content (Err stop) got e = absurd (ok_no_err (next, left) stop (sym e))
        on_content (Ok (frame, behind)) got e =
            let same = ok_is (after, behind) (next, left) e in
            let took = content_long size r frame behind got in
            let sized : length behind ≡ length left = ap (λ (z : Place × List ℕ). length z.1) same in
            let on = again (2 ^ 64 - 1) b now (subst (λ (z : Place × List ℕ). CountsInput z.0) same counted) fewer (omega (arith, took, eight, sized, held)) in
            let made : frame_given start 8 size after r ≡ Ok (Some (GivesFrame frame, plain_at next b now), left) =
            content_there start 8 size after r frame behind got ∙ ap (λ (z : Place × List ℕ). Ok (Some (GivesFrame frame, plain_at z.0 b now), z.1)) same in
            (frame ∷ on.0, (plain_at next b now, left, made, fewer, on.1))

    whole_told : (most : ℕ) → length text < suc most → Again → Faulty → (z : Stepped) → step_read place text ≡ z → read_on z (step_taken place) ≡ Ok (next, left) → (frames : List (List ℕ)) × ToldAfter frames (item_after (item_up_to most) start (read_on (heard_in text z) (λ r. given (chunk_of place r)))) end
    whole_told most enough again faulty (Err stop) step e = absurd (ok_no_err (next, left) stop (sym e))
    whole_told most enough again faulty (Ok (None, r)) step e = absurd (at_end (place.input == 0) refl)
      where
        to_end : end_at place ≡ next
        to_end = ap (λ (z : Place × List ℕ). z.0) (ok_is (end_at place, r) (next, left) e)

        faultless : (p : Place) → p ≡ next → p.movi ≡ 0 → p.input ≡ 0 → ⊥
        faultless p same movi input = faulty (ap (λ (z : Place). z.movi) (sym same) ∙ movi) (ap (λ (z : Place). z.input) (sym same) ∙ input)

        at_end : (b : Bool) → (place.input == 0) ≡ b → ⊥
        at_end true input = faultless place (rw input at to_end) (end_takes place counts text few r step) (eqb-true place.input 0 input)
        at_end false input = faultless ended (rw input at to_end) refl refl
    whole_told most enough again faulty (Ok (Some (None, after), r)) step e =
        let same = ok_is (after, r) (next, left) e in
        let took = step_takes place counts text few r after step in
        let shorter = step_shorter place text r (None, after) step in
        let now : ℕ = offset_after at (count_to place after) in
        let sized : length r ≡ length left = ap (λ (z : Place × List ℕ). length z.1) same in
        let on = again most at now (subst (λ (z : Place × List ℕ). CountsInput z.0) same took.1) (omega (arith, shorter, enough, sized)) (omega (arith, took.0, sized, held)) in
        let P : Place × List ℕ → Type 0 = λ z. ToldAfter on.0 (item_up_to most (plain_at z.0 at now) z.1) end in
        (on.0, subst P (sym same) on.1)
    whole_told most enough again faulty (Ok (Some (Some size, after), r)) step e =
        let took = frame_takes place counts text few r size after step in
        frame_whole again size after r took.0 took.1 e

  -- ---- one chunk after the other
  told_at : (elements : List (List ℕ)) (most : ℕ) (place : Place) (begun at end : ℕ) (text rest : List ℕ) (to : Place) → CountsInput place → length text < most → length text < 2 ^ 64 - 1 → at + length text ≤ 2 ^ 64 - 1 → end ≡ at + length (all_bytes elements) →
      Leads chunk_taken place elements to → text ≡ all_bytes elements ++ rest → HasFault (chunk_taken to rest) → (frames : List (List ℕ)) × ToldAfter frames (item_up_to most (plain_at place begun at) text) end
  unfolding item_up_to turn_read chunk_turn
  told_at elements zero place begun at end text rest to counts enough few held ends leads is why = absurd (omega (arith, enough))
  told_at [] (suc most) place begun at end text rest to counts enough few held ends leads is why =
      let there : HasFault (chunk_taken place text) = rw (is, ← leads) why in
      let step : HasFault (read_on (step_read place text) (step_taken place)) = subst HasFault (taken_by_step place text) there in
      let same : at ≡ end = omega (arith, ends) in
      ([], subst (λ k. ToldAfter [] (item_up_to (suc most) (plain_at place begun at) text) k) same (last_told most place counts begun at text few held (step_read place text) refl step))
  told_at (bytes ∷ others) (suc most) place begun at end text rest to counts enough few held ends (next, reads, leads) is why =
      let left : List ℕ = all_bytes others ++ rest in
      let whole : text ≡ bytes ++ left = is ∙ append_assoc bytes (all_bytes others) rest in
      let read : chunk_taken place text ≡ Ok (next, left) = rw whole (reads left) in
      let long : length text ≡ length bytes + length left = ap length whole ∙ length-append bytes left in
      let all : length (all_bytes (bytes ∷ others)) ≡ length bytes + length (all_bytes others) = length-append bytes (all_bytes others) in
      let fewer : length left < 2 ^ 64 - 1 = omega (arith, long, few) in
      whole_told place counts begun at end text left next few held fewer most enough
      (λ k b a counted more same. told_at others k next b a end left rest to counted more fewer (omega (arith, same, held)) (omega (arith, same, ends, all, long)) leads refl why)
      (λ movi input. whole_faultless (to, rest) (subst HasFault (over_leads others next to rest movi input leads) why))
      (step_read place text) refl (sym (taken_by_step place text) ∙ read)

  -- ---- the frames are those of plain reading
  ok_given : (x y : Given) (c d : Course) (xs ys : List ℕ) → ◌≡◌ {A = Came} (Ok (Some (x, c), xs)) (Ok (Some (y, d), ys)) → (x ≡ y) × (c ≡ d) × (xs ≡ ys)
  ok_given x y c d xs ys e =
      let both = ok_is (Some (x, c), xs) (Some (y, d), ys) e in
      let pair = some_is (x, c) (y, d) (ap (λ (z : Option (Given × Course) × List ℕ). z.0) both) in
      (ap (λ (z : Given × Course). z.0) pair, ap (λ (z : Given × Course). z.1) pair, ap (λ (z : Option (Given × Course) × List ℕ). z.1) both)

  no_frame_told : (bytes : List ℕ) (g : FileFault) (o : ℕ) → GivesFrame bytes ≡ Tells g o → ⊥
  no_frame_told bytes g o e = absurd (cc)

  tells_after : (frames told : List (List ℕ)) (place : Place) (begun at : ℕ) (text : List ℕ) (why : Stop) (end : ℕ) → length text < 2 ^ 64 - 1 → FramesThen place text frames why → ToldAfter told (item_read (plain_at place begun at) text) end → TellsAfter (plain_at place begun at) text frames f end
  tells_after [] [] place begun at text why end few plain h = h
  tells_after [] (x ∷ xs) place begun at text (Met g rest) end few plain (d, more, is, fewer, h) =
      let told = fault_agrees place begun at text few g rest plain in
      absurd (no_frame_told x g told.0 (ok_given (GivesFrame x) (Tells g told.0) d told.1 more rest (sym is ∙ told.2)).0)
  tells_after [] (x ∷ xs) place begun at text (Short w) end few plain (d, more, is, fewer, h) =
      let told = short_agrees place begun at text few w plain in
      absurd (no_frame_told x fault.Truncated told.0 (ok_given (GivesFrame x) (Tells fault.Truncated told.0) d told.1 more [] (sym is ∙ told.2)).0)
  tells_after (x ∷ xs) [] place begun at text why end few (after, rest, read, plain) (d, more, is) =
      let given_so = frame_agrees place begun at text few x rest after read in
      absurd (no_frame_told x f end (ok_given (GivesFrame x) (Tells f end) (plain_at after given_so.0 given_so.1) d rest more (sym given_so.2 ∙ is)).0)
  tells_after (x ∷ xs) (y ∷ ys) place begun at text why end few (after, rest, read, plain) (d, more, is, fewer, h) =
      let given_so = frame_agrees place begun at text few x rest after read in
      let b = given_so.0 in
      let a = given_so.1 in
      let same = ok_given (GivesFrame y) (GivesFrame x) d (plain_at after b a) more rest (sym is ∙ given_so.2) in
      let P : Course → Type 0 = λ c. ToldAfter ys (item_read c rest) end in
      let Q : List ℕ → Type 0 = λ z. ToldAfter ys (item_read d z) end in
      let shorter : length rest < 2 ^ 64 - 1 = subst (λ (z : List ℕ). length z < 2 ^ 64 - 1) same.2 fewer in
      (plain_at after b a, rest, given_so.2, tells_after xs ys after b a rest why end shorter plain (subst P same.1 (subst Q same.2 h)))

  pub fault_told : (place : Place) (begun at : ℕ) (text : List ℕ) (frames : List (List ℕ)) (why : Stop) (count : ℕ) → CountsInput place → at + length text < 2 ^ 64 - 1 → FramesThen place text frames why → FaultAt chunk_taken place text f count → TellsAfter (plain_at place begun at) text frames f (at + count)
  unfolding item_read
  fault_told place begun at text frames why count counts held plain h =
      let few : length text < 2 ^ 64 - 1 = omega (arith, held) in
      let told = told_at h.elements (2 ^ 64 - 1) place begun at (at + count) text h.rest h.to counts few few (omega (arith, held)) (ap (λ n. at + n) (sym h.counted)) h.leads h.text_is (kind h.fault_is) in
      tells_after frames told.0 place begun at text why (at + count) few plain told.1
    where
      kind : ((after : List ℕ) × (chunk_taken h.to h.rest ≡ Err (Met f after))) ⊎ (EndsEarly (chunk_taken h.to) h.rest × (f ≡ fault.Truncated)) → HasFault (chunk_taken h.to h.rest)
      kind (inl met) = inl met
      kind (inr ((w, e), truncated)) = inr (w, e, truncated)
