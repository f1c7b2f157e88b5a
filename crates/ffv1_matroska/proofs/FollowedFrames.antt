-- Frames, which items follow.
use Rattle.std.proofs.Common.{◌≡◌, ◌⊎◌, ◌==◌, ◌∙◌, ℕ, ◌+◌, ◌-◌, ◌^◌, min, ◌<◌, ◌≤◌, suc, zero, nat_lt, Bool, true, false, List, [], ◌∷◌, length, map, take, drop, Option, Some, None, Result, Ok, Err, inl, inr, refl, sym, ap, subst, arith}
use Rattle.std.proofs.lemmas.Bool.Decides.{nat_tests}
use Rattle.ffv1_reads.proofs.Results.{read_on_twice}
use Rattle.ffv1_reads.specs.Reads.{Met, Reading, Short, Stop, given, read_on, ◌>>=◌}
use Rattle.ffv1_reads.specs.declared.fault.FileFault.{FileFault}
use Rattle.ffv1_reads.specs.declared.fault.FileFault.TheVariants as fault
use Rattle.ffv1_ebml.specs.Elements.{element_read, first_read}
use Rattle.ffv1_ebml.specs.Sums.{summed}
use Rattle.ffv1_ebml.specs.declared.element.Element.{Element}
use Rattle.ffv1_ebml.specs.declared.sum.Sum.{Sum}
use Rattle.ffv1_ebml.specs.declared.sum.Sum.TheVariants.{Absent}
use Rattle.ffv1_matroska.specs.Damaged.{IsPlain, ItemsTo, TellsNext}
use Rattle.ffv1_matroska.specs.Files.{found_or_on, found_read, frame_found, frame_found_up_to, frame_or_on, frame_read}
use Rattle.ffv1_matroska.specs.Given.{GivesTo}
use Rattle.ffv1_reads.specs.Items.{GivesFrame, Tells}
use Rattle.ffv1_matroska.specs.Items.{begun_by, frame_given, item_after, item_read, item_up_to, left_by, moved, over, weight}
use Rattle.ffv1_matroska.specs.Places.{amount, closed, is_sound, segment_at, summed_at}
use Rattle.ffv1_matroska.specs.Segments.{cluster_read, group_read, header_read, segment_child, segment_read, segment_rest, step_read}
use Rattle.ffv1_matroska.specs.Turns.{some_turn, cluster_turn, element_turn, group_turn, open_turn, segment_turn, turn_or_end, turn_read}
use Rattle.ffv1_matroska.specs.declared.course.Course.{Course}
use Rattle.ffv1_matroska.specs.declared.course.Pending.TheVariants as pending
use Rattle.ffv1_matroska.specs.declared.course.Turn.{Turn}
use Rattle.ffv1_matroska.specs.declared.place.Place.{Place}
use Rattle.ffv1_matroska.specs.declared.place.Step.{Step}
use Rattle.ffv1_matroska.specs.declared.track.TrackNumbers.{TrackNumbers}
use Rattle.ffv1_matroska.proofs.Mirrored.{Stepped, groups}
use Rattle.ffv1_matroska.proofs.Followed.{Counted, EndTells, end_tells, Follows, GoesOn, HasTurns, Itemed, follow_entered, follow_mirror, in_cluster, some, told_next}
use Rattle.ffv1_matroska.proofs.FollowedSegments.{segments}
use Rattle.ffv1_matroska.proofs.StepBounds.{step_less}

held_is : (offset most : ℕ) → offset ≤ most → offset ≡ min (offset + 0) most
held_is offset most held = grind (arith, held)

at_most : (n most : ℕ) → min n most ≤ most
at_most n most = grind arith

module _ (track : TrackNumbers) where
  -- ---- a step
  module _ (k : ℕ) (c : Course) (text : List ℕ) (none : c.pending ≡ pending.Nothing) (sound : is_sound c.place ≡ true) (enough : amount c.place + 2 ≤ suc k) (a n : ℕ) (counts : Counted a n c) where
    abbrev place : Place
    place = c.place

    begun : begun_by c c.place c.pending ≡ c.at
    begun = ap (begun_by c c.place) none ∙ (rw sound refl)

    ends : EndTells c c.at
    ends = end_tells pending.Nothing c c.at none refl begun

    less : 0 < k
    less = omega (arith, enough)

    has_turns : (x : Stepped) → step_read track c.place text ≡ x → HasTurns track a n text k c x
    has_turns (Ok (None, rest)) is = tt
    has_turns (Ok (Some s, rest)) is = let fewer = (step_less track c.place).only text rest (Some s) is in (omega (arith, fewer, enough), omega (arith, fewer))
    has_turns (Err why) is = tt

    turn_is : turn_read track c.pending c.place text ≡ element_turn track c.place text
    unfolding turn_read
    turn_is = rw none refl

    abbrev child_of : Element × Sum → Reading (Option Step)
    child_of p = segment_child track p.0.ident (segment_at c.place c.place.loose p.0.left) p.0.size

    abbrev header : Reading (Option Element)
    header = element_read place.segment Absent >>= λ p. given (Some p.0)

    after_header : header_read place text ≡ header text → segment_read track place text ≡ (element_read place.segment Absent >>= child_of) text
    unfolding segment_read
    after_header is = ap (λ z. read_on z (segment_rest track place)) is ∙ read_on_twice (element_read place.segment Absent text) (λ p. given (Some p.0)) (segment_rest track place)

    sized_header : place.endless ≡ false → (place.segment == 0) ≡ false → header_read place text ≡ header text
    unfolding header_read
    sized_header endless more = rw (more, endless) refl

    endless_header : (b : ℕ) (bs : List ℕ) → text ≡ b ∷ bs → place.endless ≡ true → (place.segment == 0) ≡ false → header_read place text ≡ header text
    unfolding header_read first_read
    endless_header b bs is endless more = rw (is, more, endless) refl

    endless_end : text ≡ [] → place.endless ≡ true → (place.segment == 0) ≡ false → (segment_read track place text ≡ Ok (None, [])) × (open_turn track place text ≡ Ok (None, []))
    unfolding segment_read header_read first_read open_turn
    endless_end is endless more =
        let over_header : header_read place text ≡ Ok (None, []) = rw (is, more, endless) refl in
        (ap (λ z. read_on z (segment_rest track place)) over_header, rw (is, more, endless) refl)

    over_both : (place.segment == 0) ≡ true → (segment_read track place text ≡ Ok (None, text)) × (open_turn track place text ≡ Ok (None, text))
    unfolding segment_read header_read open_turn
    over_both end = (rw end refl, rw end refl)

    open_sized : place.endless ≡ false → (place.segment == 0) ≡ false → open_turn track place text ≡ some (segment_turn track place text)
    unfolding open_turn
    open_sized endless more =
        let turn : open_turn track place text ≡ some_turn (segment_turn track place) text = rw (more, endless) refl in turn

    open_endless : (b : ℕ) (bs : List ℕ) → text ≡ b ∷ bs → place.endless ≡ true → (place.segment == 0) ≡ false → open_turn track place text ≡ some (segment_turn track place text)
    unfolding open_turn
    open_endless b bs is endless more =
        let turn : open_turn track place text ≡ turn_or_end track place text = rw (more, endless) refl in
        turn ∙ ap (turn_or_end track place) is ∙ ap (λ t. some (segment_turn track place t)) (sym is)

    -- ---- all of them
    abbrev Whole : Type 0
    Whole = Follows track a n text c.at (step_read track c.place text) (item_up_to (suc k) track c text)

    item_is : (z : Result (Option Turn × List ℕ) Stop) → element_turn track c.place text ≡ z → item_up_to (suc k) track c text ≡ item_after (item_up_to k track) c z
    unfolding item_up_to
    item_is z is = ap (item_after (item_up_to k track) c) (turn_is ∙ is)

    in_group : nat_lt 0 place.group ≡ true → Whole
    unfolding step_read element_turn
    in_group inside =
        let step : step_read track place text ≡ group_read track place text = rw inside refl in
        let turn : element_turn track place text ≡ some (group_turn track pending.Nothing place text) = rw (sound, inside) refl in
        let all = follow_mirror track a n text k c.at c begun ends less counts (group_read track place text) (group_turn track pending.Nothing place text) (has_turns _ step) (groups track place text) in
        rw (step, item_is _ turn) all

    pub in_a_cluster : nat_lt 0 place.group ≡ false → nat_lt 0 place.cluster ≡ true → Whole
    unfolding step_read element_turn
    in_a_cluster outside inside =
        let empty : place.group ≡ 0 = grind (arith, nat_tests, outside) in
        let step : step_read track place text ≡ cluster_read track place text = rw (outside, inside) refl in
        let turn : element_turn track place text ≡ some (cluster_turn track place text) = rw (sound, outside, inside) refl in
        let all = follow_entered track a n text k c.at c begun ends counts (cluster_read track place text) (cluster_turn track place text) (has_turns _ step) enough less (in_cluster track place text empty) in
        rw (step, item_is _ turn) all

    in_segment : nat_lt 0 place.group ≡ false → nat_lt 0 place.cluster ≡ false → Whole
    unfolding step_read element_turn
    in_segment outside apart = on_end (place.segment == 0) refl
      where
        empty : place.group ≡ 0
        empty = grind (arith, nat_tests, outside)

        bare : place.cluster ≡ 0
        bare = grind (arith, nat_tests, apart)

        step : step_read track place text ≡ segment_read track place text
        step = rw (outside, apart) refl

        turn : element_turn track place text ≡ open_turn track place text
        turn = rw (sound, outside, apart) refl

        ended : (rest : List ℕ) → rest ≡ text → segment_read track place text ≡ Ok (None, rest) → open_turn track place text ≡ Ok (None, rest) → Whole
        ended rest stays one two = rw (step ∙ one, item_is (Ok (None, rest)) (turn ∙ two)) (refl, stays)

        read : (place.segment == 0) ≡ false → segment_read track place text ≡ (element_read place.segment Absent >>= child_of) text → open_turn track place text ≡ some (segment_turn track place text) → Whole
        read more one two =
            let left : 0 < place.segment = grind (arith, nat_tests, more) in
            let all = follow_entered track a n text k c.at c begun ends counts ((element_read place.segment Absent >>= child_of) text) (segment_turn track place text) (has_turns _ (step ∙ one)) enough less (segments track place text bare empty left) in
            rw (step ∙ one, item_is (some (segment_turn track place text)) (turn ∙ two)) all

        on_text : (place.segment == 0) ≡ false → place.endless ≡ true → (t : List ℕ) → text ≡ t → Whole
        on_text more endless [] is = let both = endless_end is endless more in ended [] (sym is) both.0 both.1
        on_text more endless (b ∷ bs) is = read more (after_header (endless_header b bs is endless more)) (open_endless b bs is endless more)

        on_endless : (place.segment == 0) ≡ false → (b : Bool) → place.endless ≡ b → Whole
        on_endless more true endless = on_text more endless text refl
        on_endless more false endless = read more (after_header (sized_header endless more)) (open_sized endless more)

        on_end : (b : Bool) → (place.segment == 0) ≡ b → Whole
        on_end true end = let both = over_both end in ended text refl both.0 both.1
        on_end false more = on_endless more place.endless refl

    pub follow_step : Whole
    follow_step = on_tests (nat_lt 0 place.group) refl (nat_lt 0 place.cluster) refl
      where
        on_tests : (a : Bool) → nat_lt 0 place.group ≡ a → (b : Bool) → nat_lt 0 place.cluster ≡ b → Whole
        on_tests true inside b cluster_is = in_group inside
        on_tests false outside true inside = in_a_cluster outside inside
        on_tests false outside false apart = in_segment outside apart

  -- ---- the next frame

  -- what an item is by the frame that is found
  abbrev FollowsFound : ℕ → Result (Option (ℕ × Place) × List ℕ) Stop → Itemed → Type 0
  FollowsFound n (Ok (None, rest)) y = y ≡ Ok (None, rest)
  FollowsFound n (Ok (Some p, rest)) y = (d : Course) × (y ≡ frame_given d p.0 p.1 rest) × (amount p.1 < n)
  FollowsFound n (Err (Short w)) y = (offset : ℕ) × (d : Course) × (y ≡ Ok (Some (Tells fault.Truncated offset, d), []))
  FollowsFound n (Err (Met f rest)) y = (offset : ℕ) × (d : Course) × (more : List ℕ) × (y ≡ Ok (Some (Tells f offset, d), more))

  found_within : (n m : ℕ) → n ≤ m → (x : Result (Option (ℕ × Place) × List ℕ) Stop) (y : Itemed) → FollowsFound n x y → FollowsFound m x y
  found_within n m fits (Ok (None, rest)) y h = h
  found_within n m fits (Ok (Some p, rest)) y (d, is, less) = (d, is, omega (arith, less, fits))
  found_within n m fits (Err (Short w)) y h = h
  found_within n m fits (Err (Met f rest)) y h = h

  follow_found : (most k : ℕ) (c : Course) (text : List ℕ) → c.pending ≡ pending.Nothing → is_sound c.place ≡ true → amount c.place < most → amount c.place + 2 ≤ k → (a n : ℕ) → Counted a n c → FollowsFound (amount c.place) (frame_found_up_to most track c.place text) (item_up_to k track c text)
  unfolding frame_found_up_to
  follow_found zero k c text none sound few enough a n counts = absurd (omega (arith, few))
  follow_found (suc most) zero c text none sound few enough a n counts = absurd (omega (arith, enough))
  follow_found (suc most) (suc k) c text none sound few enough a n counts = on_step (step_read track c.place text) refl (follow_step k c text none sound enough a n counts) (λ j d rest next whole less turns now. follow_found most j d rest next whole less turns a n now)
    where
      y : Itemed
      y = item_up_to (suc k) track c text

      Again : Type 0
      Again = (j : ℕ) (d : Course) (rest : List ℕ) → d.pending ≡ pending.Nothing → is_sound d.place ≡ true → amount d.place < most → amount d.place + 2 ≤ j → Counted a n d → FollowsFound (amount d.place) (frame_found_up_to most track d.place rest) (item_up_to j track d rest)

      on_frame : (frame : Option ℕ) (now : Place) (rest : List ℕ) → amount now < amount c.place → GoesOn track a n text c.at frame now rest y → Again → FollowsFound (amount c.place) (frame_or_on (frame_found_up_to most track) now frame rest) y
      on_frame (Some size) now rest less (d, is, begun, fewer, counted) again = (d, is, less)
      on_frame None now rest less (j, d, is, next, same, whole, turns, counted) again =
          let few_now : amount d.place < most = rw same (omega (arith, less, few)) in
          let enough_now : amount d.place + 2 ≤ j = rw same turns in
          let sound_now : is_sound d.place ≡ true = rw same whole in
          let there = subst (λ p. FollowsFound (amount p) (frame_found_up_to most track p rest) (item_up_to j track d rest)) same (again j d rest next sound_now few_now enough_now counted) in
          rw is (found_within (amount now) (amount c.place) (omega (arith, less)) (frame_found_up_to most track now rest) (item_up_to j track d rest) there)

      on_step : (x : Stepped) → step_read track c.place text ≡ x → Follows track a n text c.at x y → Again → FollowsFound (amount c.place) (read_on x (found_or_on (frame_found_up_to most track))) y
      on_step (Ok (None, rest)) is h again = h.0
      on_step (Ok (Some s, rest)) is h again = on_frame s.frame s.place rest ((step_less track c.place).only text rest (Some s) is) h again
      on_step (Err (Short w)) is h again = (c.at, h.0, h.1)
      on_step (Err (Met f rest)) is h again = (c.at, h.0, h.1, h.2)

  -- a frame that was found, and its bytes
  abbrev FollowsFrame : ℕ → Result (Option (List ℕ × Place) × List ℕ) Stop → Itemed → Type 0
  FollowsFrame n (Ok (None, rest)) y = y ≡ Ok (None, rest)
  FollowsFrame n (Ok (Some p, rest)) y = (d : Course) × (y ≡ Ok (Some (GivesFrame p.0, d), rest)) × (d.pending ≡ pending.Nothing) × (d.place ≡ p.1) × (is_sound p.1 ≡ true) × (amount p.1 < n) × (d.at ≤ 2 ^ 64 - 1)
  FollowsFrame n (Err (Short w)) y = (offset : ℕ) × (d : Course) × (y ≡ Ok (Some (Tells fault.Truncated offset, d), []))
  FollowsFrame n (Err (Met f rest)) y =
      ((offset : ℕ) × (d : Course) × (more : List ℕ) × (y ≡ Ok (Some (Tells f offset, d), more)))
      ⊎ ((f ≡ fault.Checksum) × (frame : List ℕ) × (d : Course) × (more : List ℕ) × (y ≡ Ok (Some (GivesFrame frame, d), more)) × (d.pending ≡ pending.Nothing) × (is_sound d.place ≡ false))

  moved_held : (d : Course) (place : Place) → (moved d pending.Nothing place).at ≤ 2 ^ 64 - 1
  moved_held d place = at_most (d.at + (weight d.place d.pending - left_by place pending.Nothing)) (2 ^ 64 - 1)

  frame_follows : (n : ℕ) (x : Result (Option (ℕ × Place) × List ℕ) Stop) (y : Itemed) → FollowsFound n x y → FollowsFrame n (read_on x found_read) y
  frame_follows n (Ok (None, rest)) y h = h
  frame_follows n (Err (Short w)) y h = h
  frame_follows n (Err (Met f rest)) y h = inl h
  frame_follows n (Ok (Some p, rest)) y (d, is, less) = on_short (nat_lt (length rest) p.0) refl
    where
      frame : List ℕ
      frame = take p.0 rest

      last : Place
      last = summed_at p.1 (summed p.1.sum frame)

      on_sound : nat_lt (length rest) p.0 ≡ false → (b : Bool) → is_sound last ≡ b → FollowsFrame n (closed (Some (frame, last)) last (drop p.0 rest)) y
      on_sound there true whole = rw whole (moved d pending.Nothing last, is ∙ (rw there refl), refl, refl, whole, less, moved_held d last)
      on_sound there false whole = rw whole (inr (refl, frame, moved d pending.Nothing last, drop p.0 rest, is ∙ (rw there refl), refl, whole))

      on_short : (b : Bool) → nat_lt (length rest) p.0 ≡ b → FollowsFrame n (read_on (Ok (Some p, rest)) found_read) y
      on_short true there = rw there (begun_by d d.place d.pending, over d, is ∙ (rw there refl))
      on_short false there = rw there (on_sound there (is_sound last) refl)

  pub follow_frame : (k : ℕ) (c : Course) (text : List ℕ) → c.pending ≡ pending.Nothing → is_sound c.place ≡ true → amount c.place + 2 ≤ k → (a n : ℕ) → Counted a n c → FollowsFrame (amount c.place) (frame_read track c.place text) (item_up_to k track c text)
  follow_frame k c text none sound enough a n counts = frame_follows (amount c.place) (frame_found track c.place text) (item_up_to k track c text) (follow_found (suc (amount c.place)) k c text none sound (omega arith) enough a n counts)

  -- ---- items, by plain reading
  pub plain_counted : (c : Course) → IsPlain c → Counted c.at (amount c.place) c
  plain_counted c plain =
      let none : amount c.place - amount c.place ≡ 0 = omega arith in
      record { at = rw none (held_is c.at (2 ^ 64 - 1) plain.held); within = omega arith; weigh = ap (λ p. weight c.place p) plain.pending }

  item_follows : (c : Course) (text : List ℕ) → IsPlain c → FollowsFrame (amount c.place) (frame_read track c.place text) (item_read track c text)
  unfolding item_read
  item_follows c text plain = follow_frame (2 ^ 64 - 1) c text plain.pending plain.sound plain.few c.at (amount c.place) (plain_counted c plain)

  pub item_frame : (c : Course) (text rest frame : List ℕ) (after : Place) → IsPlain c → frame_read track c.place text ≡ Ok (Some (frame, after), rest) → (d : Course) × (item_read track c text ≡ Ok (Some (GivesFrame frame, d), rest)) × (d.place ≡ after) × IsPlain d
  item_frame c text rest frame after plain is =
      let h = rw is at (item_follows c text plain) in
      (h.0, h.1, h.3, record { pending = h.2; sound = rw h.3 h.4; few = rw h.3 (omega (arith, h.5, plain.few)); held = h.6 })

  pub item_end : (c : Course) (text rest : List ℕ) → IsPlain c → frame_read track c.place text ≡ Ok (None, rest) → item_read track c text ≡ Ok (None, rest)
  item_end c text rest plain is = rw is at (item_follows c text plain)

  pub item_short : (c : Course) (text : List ℕ) (w : _) → IsPlain c → frame_read track c.place text ≡ Err (Short w) → TellsNext track c text fault.Truncated
  item_short c text w plain is = let h = rw is at (item_follows c text plain) in (h.0, inl (h.1, [], h.2))

  pub item_fault : (c : Course) (text rest : List ℕ) (f : FileFault) → IsPlain c → frame_read track c.place text ≡ Err (Met f rest) → TellsNext track c text f
  unfolding item_read
  item_fault c text rest f plain is = on_kind (rw is at (item_follows c text plain))
    where
      on_kind : FollowsFrame (amount c.place) (Err (Met f rest)) (item_read track c text) → TellsNext track c text f
      on_kind (inl told) = (told.0, inl (told.1, told.2, told.3))
      on_kind (inr (checksum, frame, d, more, read, next, unsound)) =
          let told = told_next track 0 0 [] (2 ^ 64 - 1) d.begun d more next unsound refl (omega arith) in
          (d.begun, inr (checksum, frame, d, more, read, told.0, told.1, rw checksum told.2))

  pub items_follow : (frames : List (List ℕ)) (c : Course) (text : List ℕ) (after : Place) (rest : List ℕ) → IsPlain c → GivesTo track c.place text frames after rest → (d : Course) × ItemsTo track c text (map GivesFrame frames) d rest × (d.place ≡ after) × IsPlain d
  items_follow [] c text after rest plain (is, same) = (c, (refl, same), is, plain)
  items_follow (f ∷ fs) c text after rest plain (next, more, read, others) =
      let one = item_frame c text more f next plain read in
      let all = items_follow fs one.0 more after rest one.3 (subst (λ p. GivesTo track p more fs after rest) (sym one.2) others) in
      (all.0, (one.0, more, one.1, all.1), all.2, all.3)
