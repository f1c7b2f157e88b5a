-- The first fault that is told is that of plain reading, at its byte.
use Rattle.std.proofs.Common.{◌≡◌, ◌⊎◌, ◌∙◌, ℕ, ◌+◌, ◌-◌, ◌^◌, ◌<◌, ◌≤◌, suc, zero, nat_lt, Bool, true, false, List, [], ◌∷◌, ◌++◌, length, map, take, drop, Option, Some, None, Result, Ok, Err, inl, inr, refl, sym, ap, subst, arith, append_assoc, length-append}
use Rattle.ffv1_reads.proofs.Results.{ok_is}
use Rattle.ffv1_reads.specs.Offsets.{FaultAt, Leads, all_bytes, offset_after}
use Rattle.ffv1_reads.specs.Reads.{EndsEarly, Kept, Met, Short, Stop, Want, read_on}
use Rattle.ffv1_reads.specs.declared.fault.FileFault.{FileFault}
use Rattle.ffv1_reads.specs.declared.fault.FileFault.TheVariants as fault
use Rattle.ffv1_ebml.specs.Sums.{summed}
use Rattle.ffv1_matroska.specs.Damaged.{IsPlain, ItemsTo, TellsAfter, TellsAt}
use Rattle.ffv1_reads.specs.Items.{GivesFrame, Tells}
use Rattle.ffv1_matroska.specs.Items.{begun_by, frame_given, item_read, item_up_to, moved, over}
use Rattle.ffv1_matroska.specs.Offsets.{element_taken, frame_taken, step_taken}
use Rattle.ffv1_matroska.specs.Places.{amount, closed, is_sound, summed_at}
use Rattle.ffv1_matroska.specs.Segments.{step_read}
use Rattle.ffv1_matroska.specs.declared.course.Course.{Course}
use Rattle.ffv1_matroska.specs.declared.course.Pending.TheVariants as pending
use Rattle.ffv1_matroska.specs.declared.place.Place.{Place}
use Rattle.ffv1_matroska.specs.declared.track.TrackNumbers.{TrackNumbers}
use Rattle.ffv1_matroska.proofs.ElementTaken.{element_taken_takes}
use Rattle.ffv1_matroska.proofs.Mirrored.{Stepped}
use Rattle.ffv1_matroska.proofs.Followed.{Counted, Follows, GoesOn, Itemed, counted_moved, told_next}
use Rattle.ffv1_matroska.proofs.FollowedFrames.{follow_step, plain_counted}
use Rattle.ffv1_matroska.proofs.StepBounds.{step_less}

abbrev pub Taken : Type 0
Taken = Result (Place × List ℕ) Stop

ok_no_err : (p : Place × List ℕ) (why : Stop) → ◌≡◌ {A = Taken} (Ok p) (Err why) → ⊥
ok_no_err p why e = absurd (cc)

same_stop : (s t : Stop) → ◌≡◌ {A = Taken} (Err s) (Err t) → s ≡ t
same_stop s t e = cc

no_met : (w : Want) (f : FileFault) (rest : List ℕ) → ◌≡◌ {A = Taken} (Err (Short w)) (Err (Met f rest)) → ⊥
no_met w f rest e = let s = same_stop (Short w) (Met f rest) e in absurd (cc)

no_short : (w : Want) (f : FileFault) (rest : List ℕ) → ◌≡◌ {A = Taken} (Err (Met f rest)) (Err (Short w)) → ⊥
no_short w f rest e = let s = same_stop (Met f rest) (Short w) e in absurd (cc)

pub same_fault : (f g : FileFault) (xs ys : List ℕ) → ◌≡◌ {A = Taken} (Err (Met f xs)) (Err (Met g ys)) → f ≡ g
same_fault f g xs ys e = let s = same_stop (Met f xs) (Met g ys) e in cc

module _ (track : TrackNumbers) (f : FileFault) where
  -- an element has the fault, or the bytes end inside it
  abbrev HasFault : Taken → Type 0
  HasFault z = ((after : List ℕ) × (z ≡ Err (Met f after))) ⊎ ((w : Want) × (z ≡ Err (Short w)) × (f ≡ fault.Truncated))

  -- frames come, and then it is told at this offset
  abbrev ToldAfter : List (List ℕ) → Itemed → ℕ → Type 0
  ToldAfter [] y offset =
      ((d : Course) × (more : List ℕ) × (y ≡ Ok (Some (Tells f offset, d), more)))
      ⊎ ((f ≡ fault.Checksum) × (frame : List ℕ) × (d : Course) × (rest : List ℕ) × (y ≡ Ok (Some (GivesFrame frame, d), rest)) × (e : Course) × (more : List ℕ) × (item_read track d rest ≡ Ok (Some (Tells f offset, e), more)))
  ToldAfter (x ∷ xs) y offset = (d : Course) × (more : List ℕ) × (y ≡ Ok (Some (GivesFrame x, d), more)) × ToldAfter xs (item_read track d more) offset

  module _ (a n : ℕ) (text : List ℕ) (c : Course) (y : Itemed) where
    -- the element at fault
    last_frame : (size : ℕ) (place : Place) (rest : List ℕ) (d : Course) → y ≡ frame_given d size place rest → begun_by d d.place d.pending ≡ c.at → HasFault (frame_taken place (Some size) rest) → ToldAfter [] y c.at
    unfolding item_read
    last_frame size place rest d is begun why = on_short (nat_lt (length rest) size) refl
      where
        frame : List ℕ
        frame = take size rest

        last : Place
        last = summed_at place (summed place.sum frame)

        on_early : HasFault (Err (Short Kept)) → nat_lt (length rest) size ≡ true → ToldAfter [] y c.at
        on_early (inl (after, e)) short = absurd (no_met Kept f after e)
        on_early (inr (w, e, truncated)) short = rw truncated (inl (over d, [], is ∙ (rw short (ap (λ k. Ok (Some (Tells fault.Truncated k, over d), [])) begun))))

        on_sum : HasFault (Err (Met fault.Checksum (drop size rest))) → nat_lt (length rest) size ≡ false → is_sound last ≡ false → ToldAfter [] y c.at
        on_sum (inr (w, e, truncated)) there unsound = absurd (no_short w fault.Checksum (drop size rest) e)
        on_sum (inl (after, e)) there unsound =
            let checksum : f ≡ fault.Checksum = sym (same_fault fault.Checksum f (drop size rest) after e) in
            let told = told_next track 0 0 [] (2 ^ 64 - 1) c.at (moved d pending.Nothing last) (drop size rest) refl unsound begun (omega arith) in
            inr (checksum, frame, moved d pending.Nothing last, drop size rest, is ∙ (rw there refl), told.0, told.1, rw checksum told.2)

        on_sound : nat_lt (length rest) size ≡ false → (b : Bool) → is_sound last ≡ b → HasFault (closed last last (drop size rest)) → ToldAfter [] y c.at
        on_sound there true whole (inl (after, e)) = absurd (ok_no_err (last, drop size rest) (Met f after) (rw whole at e))
        on_sound there true whole (inr (w, e, truncated)) = absurd (ok_no_err (last, drop size rest) (Short w) (rw whole at e))
        on_sound there false whole h = on_sum (rw whole at h) there whole

        on_short : (b : Bool) → nat_lt (length rest) size ≡ b → ToldAfter [] y c.at
        on_short true short = on_early (rw short at why) short
        on_short false there = on_sound there (is_sound last) refl (rw there at why)

    last_told : (x : Stepped) → Follows track a n text c.at x y → HasFault (read_on x (step_taken c.place)) → ToldAfter [] y c.at
    last_told (Ok (None, rest)) h (inl (after, e)) = absurd (ok_no_err (c.place, rest) (Met f after) e)
    last_told (Ok (None, rest)) h (inr (w, e, truncated)) = absurd (ok_no_err (c.place, rest) (Short w) e)
    last_told (Ok (Some s, rest)) h why = on_frame s.frame s.place h why
      where
        on_frame : (frame : Option ℕ) (place : Place) → GoesOn track a n text c.at frame place rest y → HasFault (frame_taken place frame rest) → ToldAfter [] y c.at
        on_frame None place h (inl (after, e)) = absurd (ok_no_err (place, rest) (Met f after) e)
        on_frame None place h (inr (w, e, truncated)) = absurd (ok_no_err (place, rest) (Short w) e)
        on_frame (Some size) place (d, is, begun, less, counts) why = last_frame size place rest d is begun why
    last_told (Err (Short w)) h (inl (after, e)) = absurd (no_met w f after e)
    last_told (Err (Short w)) h (inr (v, e, truncated)) = rw truncated (inl (h.0, [], h.1))
    last_told (Err (Met g rest)) h (inr (w, e, truncated)) = absurd (no_short w g rest e)
    last_told (Err (Met g rest)) h (inl (after, e)) = rw (← same_fault g f rest after e) (inl (h.0, h.1, h.2))

  same_place : (p q : Place) (xs ys : List ℕ) → ◌≡◌ {A = Taken} (Ok (p, xs)) (Ok (q, ys)) → (p ≡ q) × (xs ≡ ys)
  same_place p q xs ys e = let both = ok_is (p, xs) (q, ys) e in (ap (λ (z : Place × List ℕ). z.0) both, ap (λ (z : Place × List ℕ). z.1) both)

  -- an element that is read whole, and what comes after it
  module _ (a n offset : ℕ) (to : Place) (end : List ℕ) (next : Place) (rest : List ℕ) where
    -- what comes from there on
    abbrev Again : Type 0
    Again =
        (k : ℕ) (c : Course) → c.pending ≡ pending.Nothing → is_sound c.place ≡ true → amount c.place + 2 ≤ k → amount c.place + 2 ≤ 2 ^ 64 - 1 → Counted a n c → c.place ≡ next →
        (frames : List (List ℕ)) × ToldAfter frames (item_up_to k track c rest) offset

    module _ (k : ℕ) (c : Course) (text : List ℕ) (none : c.pending ≡ pending.Nothing) (sound : is_sound c.place ≡ true) (enough : amount c.place + 2 ≤ k) (few : amount c.place + 2 ≤ 2 ^ 64 - 1) (counts : Counted a n c) (again : Again) where
      y : Itemed
      y = item_up_to k track c text

      whole_frame : (size : ℕ) (place : Place) (left : List ℕ) (d : Course) → amount place < amount c.place → item_up_to k track c text ≡ frame_given d size place left → amount place ≤ amount d.place → Counted a n d → frame_taken place (Some size) left ≡ Ok (next, rest) →
          (frames : List (List ℕ)) × ToldAfter frames (item_up_to k track c text) offset
      unfolding item_read
      whole_frame size place left d fewer is less counted read = on_short (nat_lt (length left) size) refl
        where
          frame : List ℕ
          frame = take size left

          last : Place
          last = summed_at place (summed place.sum frame)

          now : Course
          now = moved d pending.Nothing last

          on_sound : nat_lt (length left) size ≡ false → (b : Bool) → is_sound last ≡ b → closed last last (drop size left) ≡ Ok (next, rest) → (frames : List (List ℕ)) × ToldAfter frames (item_up_to k track c text) offset
          on_sound there false unsound e = absurd (ok_no_err (next, rest) (Met fault.Checksum (drop size left)) (sym (rw unsound at e)))
          on_sound there true whole e =
              let same = same_place last next (drop size left) rest (rw whole at e) in
              let more = again (2 ^ 64 - 1) now refl whole (omega (arith, fewer, few)) (omega (arith, fewer, few)) (counted_moved a n d pending.Nothing last counted less refl refl) same.0 in
              (frame ∷ more.0, (now, rest, is ∙ (rw there (ap (λ r. Ok (Some (GivesFrame frame, now), r)) same.1)), more.1))

          on_short : (b : Bool) → nat_lt (length left) size ≡ b → (frames : List (List ℕ)) × ToldAfter frames (item_up_to k track c text) offset
          on_short true short = absurd (ok_no_err (next, rest) (Short Kept) (sym (rw short at read)))
          on_short false there = on_sound there (is_sound last) refl (rw there at read)

      whole_told : (x : Stepped) → step_read track c.place text ≡ x → Follows track a n text c.at x (item_up_to k track c text) → read_on x (step_taken c.place) ≡ Ok (next, rest) → (frames : List (List ℕ)) × ToldAfter frames (item_up_to k track c text) offset
      whole_told (Err why) step h read = absurd (ok_no_err (next, rest) why (sym read))
      whole_told (Ok (None, left)) step (is, stays) read =
          let same = same_place c.place next left rest read in
          let here : text ≡ rest = sym stays ∙ same.1 in
          rw here (again k c none sound enough few counts same.0)
      whole_told (Ok (Some s, left)) step h read = on_frame s.frame s.place ((step_less track c.place).only text left (Some s) step) h read
        where
          on_frame : (frame : Option ℕ) (place : Place) → amount place < amount c.place → GoesOn track a n text c.at frame place left (item_up_to k track c text) → frame_taken place frame left ≡ Ok (next, rest) → (frames : List (List ℕ)) × ToldAfter frames (item_up_to k track c text) offset
          on_frame (Some size) place fewer (d, is, begun, less, counted) read = whole_frame size place left d fewer is less counted read
          on_frame None place fewer (j, d, is, pend, same, whole, turns, counted) read =
              let there = same_place place next left rest read in
              let sound_now : is_sound d.place ≡ true = rw same whole in
              let turns_now : amount d.place + 2 ≤ j = rw same turns in
              let few_now : amount d.place + 2 ≤ 2 ^ 64 - 1 = rw same (omega (arith, fewer, few)) in
              let more = again j d pend sound_now turns_now few_now counted (same ∙ there.0) in
              rw (is, there.1) more

  told_at : (elements : List (List ℕ)) (a n k : ℕ) (c : Course) (text rest : List ℕ) (to : Place) → c.pending ≡ pending.Nothing → is_sound c.place ≡ true → amount c.place + 2 ≤ k → amount c.place + 2 ≤ 2 ^ 64 - 1 → Counted a n c →
      Leads (element_taken track) c.place elements to → text ≡ all_bytes elements ++ rest → HasFault (element_taken track to rest) → (frames : List (List ℕ)) × ToldAfter frames (item_up_to k track c text) (offset_after a (n - amount to))
  unfolding element_taken
  told_at elements a n zero c text rest to none sound enough few counts leads is why = absurd (omega (arith, enough))
  told_at [] a n (suc k) c text rest to none sound enough few counts leads is why =
      let step = follow_step track k c text none sound enough a n counts in
      let here : HasFault (element_taken track c.place text) = rw (is, ← leads) why in
      let offset : c.at ≡ offset_after a (n - amount to) = rw leads counts.at in
      ([], subst (λ o. ToldAfter [] (item_up_to (suc k) track c text) o) offset (last_told a n text c (item_up_to (suc k) track c text) (step_read track c.place text) step here))
  told_at (bytes ∷ others) a n (suc k) c text rest to none sound enough few counts (next, reads, leads) is why =
      let left : List ℕ = all_bytes others ++ rest in
      let whole : text ≡ bytes ++ left = is ∙ append_assoc bytes (all_bytes others) rest in
      let read : element_taken track c.place text ≡ Ok (next, left) = rw whole (reads left) in
      let step = follow_step track k c text none sound enough a n counts in
      whole_told a n (offset_after a (n - amount to)) to rest next left (suc k) c text none sound enough few counts
      (λ j d pend sound_now turns few_now counted same. told_at others a n j d left rest to pend sound_now turns few_now counted (subst (λ p. Leads (element_taken track) p others to) (sym same) leads) refl why)
      (step_read track c.place text) refl step read

  -- elements take the bytes that their parents have less of after them
  leads_take : (elements : List (List ℕ)) (from to : Place) → Leads (element_taken track) from elements to → length (all_bytes elements) + amount to ≡ amount from
  leads_take [] from to is = let same = ap amount is in omega (arith, same)
  leads_take (bytes ∷ others) from to (next, reads, leads) =
      let one = ((element_taken_takes track from).only (bytes ++ []) [] next (reads [])).1 in
      let more = leads_take others next to leads in
      omega (arith, one, more, length-append bytes [], length-append bytes (all_bytes others))

  tells : (frames : List (List ℕ)) (c : Course) (text : List ℕ) (offset : ℕ) → ToldAfter frames (item_read track c text) offset → (d : Course) × (rest : List ℕ) × ItemsTo track c text (map GivesFrame frames) d rest × TellsAt track d rest f offset
  tells [] c text offset h = (c, text, (refl, refl), h)
  tells (x ∷ xs) c text offset (d, more, is, h) = let r = tells xs d more offset h in (r.0, r.1, (d, more, is, r.2), r.3)

  pub fault_told : (c : Course) (text : List ℕ) (count : ℕ) → IsPlain c → FaultAt (element_taken track) c.place text f count → TellsAfter track c text f (offset_after c.at count)
  unfolding item_read
  fault_told c text count plain h =
      let took = leads_take h.elements c.place h.to h.leads in
      let same : amount c.place - amount h.to ≡ count = omega (arith, took, h.counted) in
      let told = told_at h.elements c.at (amount c.place) (2 ^ 64 - 1) c text h.rest h.to plain.pending plain.sound plain.few plain.few (plain_counted track c plain) h.leads h.text_is (kind h.fault_is) in
      let all = tells told.0 c text (offset_after c.at count) (subst (λ k. ToldAfter told.0 (item_up_to (2 ^ 64 - 1) track c text) (offset_after c.at k)) same told.1) in
      (told.0, all.0, all.1, all.2, all.3)
    where
      kind : ((after : List ℕ) × (element_taken track h.to h.rest ≡ Err (Met f after))) ⊎ (EndsEarly (element_taken track h.to) h.rest × (f ≡ fault.Truncated)) → HasFault (element_taken track h.to h.rest)
      kind (inl met) = inl met
      kind (inr ((w, e), truncated)) = inr (w, e, truncated)
