-- Items follow plain reading, up to its fault.
use Rattle.std.proofs.Common.{◌≡◌, ◌⊎◌, ◌==◌, ◌∙◌, ℕ, ◌+◌, ◌-◌, ◌^◌, min, ◌<◌, ◌≤◌, suc, zero, nat_lt, Bool, true, false, if◌then◌else◌, List, [], length, take, drop, Option, Some, None, Result, Ok, Err, inl, inr, refl, ap, ap₂, arith}
use Rattle.std.proofs.lemmas.Bool.{eq-eqb, eqb-true}
use Rattle.ffv1_reads.proofs.OffsetLaws.{offset_then}
use Rattle.ffv1_reads.specs.Offsets.{offset_after}
use Rattle.ffv1_reads.specs.Reads.{Met, Reading, Short, Stop, given, read_on, ◌>>=◌}
use Rattle.ffv1_reads.specs.declared.fault.FileFault.{FileFault}
use Rattle.ffv1_reads.specs.declared.fault.FileFault.TheVariants as fault
use Rattle.ffv1_ebml.specs.Elements.{is_crc, none_outside}
use Rattle.ffv1_ebml.specs.Sums.{passed_summed, summed}
use Rattle.ffv1_ebml.specs.Tried.{header_tried}
use Rattle.ffv1_ebml.specs.declared.sum.Sum.{Sum}
use Rattle.ffv1_ebml.specs.declared.sum.Sum.TheVariants.{Absent, Begins, Awaits}
use Rattle.ffv1_ebml.specs.declared.tried.Header.TheVariants.{Whole}
use Rattle.ffv1_matroska.specs.Blocks.{block_read}
use Rattle.ffv1_reads.specs.Items.{Given, Tells}
use Rattle.ffv1_matroska.specs.Items.{begun_by, end_given, frame_given, item_after, item_up_to, left_by, moved, over, weight}
use Rattle.ffv1_matroska.specs.Places.{amount, cluster_at, group_at, is_sound, segment_at, summed_at}
use Rattle.ffv1_matroska.specs.Segments.{block, block_group, block_sought, child_by, cluster_child, cluster_read, cluster_rest, first_child, is_outside, known_child, sought_child, sought_rest}
use Rattle.ffv1_matroska.specs.Turns.{lost, segment_left, child_turn, cluster_headed, cluster_turn, element_turn, first_turn, group_headed, group_turn, grouped_turn, passed_turn, some_turn, turn_by, turn_read}
use Rattle.ffv1_matroska.specs.declared.course.Course.{Course}
use Rattle.ffv1_matroska.specs.declared.course.Pending.{Pending}
use Rattle.ffv1_matroska.specs.declared.course.Pending.TheVariants as pending
use Rattle.ffv1_matroska.specs.declared.course.Turn.{Turn}
use Rattle.ffv1_matroska.specs.declared.course.Turn.TheVariants.{On, Told}
use Rattle.ffv1_matroska.specs.declared.place.Place.{Place}
use Rattle.ffv1_matroska.specs.declared.place.Step.{Step}
use Rattle.ffv1_matroska.specs.declared.track.TrackNumbers.{TrackNumbers}
use Rattle.ffv1_matroska.proofs.Mirrored.{Mirrors, Stepped, Turned, blocks, children_by, header_like}
use Rattle.ffv1_matroska.proofs.StepBounds.{Gives, Within, block_within}

abbrev pub Itemed : Type 0
Itemed = Result (Option (Given × Course) × List ℕ) Stop

-- a turn, which is not the end
abbrev pub some : Turned → Result (Option Turn × List ℕ) Stop
some z = read_on z (λ turn. given (Some turn))

module _ (track : TrackNumbers) where
  -- ---- an element of a Cluster

  -- it is read as a turn; or a BlockGroup is entered
  abbrev pub EntersGroup : Place → Stepped → Turned → Type 0
  EntersGroup place x z = (n : ℕ) × (now : Place) × (rest : List ℕ) × (now.group ≡ n) × (amount now < amount place) × (x ≡ block_sought n track now rest) × (z ≡ Ok (On pending.Grouped now, rest))

  abbrev pub InCluster : Place → Stepped → Turned → Type 0
  InCluster place x z = Mirrors x z ⊎ EntersGroup place x z

  group_entered : (ident size : ℕ) (now : Place) (rest : List ℕ) → ident ≡ block_group → (cluster_child track ident size now rest ≡ block_sought size track (group_at now size now.sum) rest) × (child_turn track ident size now rest ≡ Ok (On pending.Grouped (group_at now size now.sum), rest))
  unfolding cluster_child child_turn
  group_entered ident size now rest is = rw is (refl, refl)

  pub enters : (place : Place) (ident size : ℕ) (now : Place) (rest : List ℕ) → ident ≡ block_group → amount (group_at now size now.sum) < amount place → EntersGroup place (cluster_child track ident size now rest) (child_turn track ident size now rest)
  enters place ident size now rest is less = let both = group_entered ident size now rest is in (size, group_at now size now.sum, rest, refl, less, both.0, both.1)

  enters_by : (place : Place) (ident size : ℕ) (now : Place) (sum : Sum) (rest : List ℕ) → ident ≡ block_group → amount (group_at now size now.sum) < amount place → EntersGroup place (child_by track ident size now sum rest) (turn_by track ident size now sum rest)
  unfolding first_child first_turn
  enters_by place ident size now Absent rest is less = enters place ident size now rest is less
  enters_by place ident size now (Awaits stated so_far) rest is less = enters place ident size now rest is less
  enters_by place ident size now Begins rest is less =
      let other : is_crc ident size ≡ false = rw is refl in
      rw other (enters place ident size (summed_at now Absent) rest is less)

  pub in_cluster : (place : Place) (text : List ℕ) → place.group ≡ 0 → InCluster place (cluster_read track place text) (cluster_turn track place text)
  unfolding cluster_read cluster_turn known_child
  in_cluster place text none =
      header_like (InCluster place) (λ f rest more next p. inl (inl (next, p, more, refl))) (λ w. inl refl) (cluster_rest track place) (cluster_headed track place) (λ f left bytes. (_, _, refl)) (λ ident left bytes. (_, _, refl)) (λ ident left sum bytes. refl) place.cluster
      (λ ident size left sum bytes less. child ident size left sum bytes less (ident == block_group) refl) is_outside place.sum text
    where
      child : (ident size left : ℕ) (sum : Sum) (rest : List ℕ) → size + left < place.cluster → (b : Bool) → (ident == block_group) ≡ b → InCluster place (child_by track ident size (cluster_at place left sum) sum rest) (turn_by track ident size (cluster_at place left sum) sum rest)
      child ident size left sum rest less true is = inr (enters_by place ident size (cluster_at place left sum) sum rest (eqb-true _ _ is) (omega (arith, less, none)))
      child ident size left sum rest less false is = inl (children_by track ident size (cluster_at place left sum) sum rest is)

-- an offset that began at another one, with so many bytes left then
pub record Counted (a n : ℕ) (d : Course) : Type 0 where
  pub at : d.at ≡ offset_after a (n - amount d.place)
  pub within : amount d.place ≤ n
  pub weigh : weight d.place d.pending ≡ amount d.place

pub counted_moved : (a n : ℕ) (d : Course) (next : Pending) (place : Place) → Counted a n d → amount place ≤ amount d.place → weight place next ≡ amount place → left_by place next ≡ amount place → Counted a n (moved d next place)
counted_moved a n d next place h less weigh left =
    let parts : (n - amount d.place) + (amount d.place - amount place) ≡ n - amount place = omega (arith, h.within, less) in
    record {
      at = ap (λ (k : ℕ). min (k + (weight d.place d.pending - left_by place next)) (2 ^ 64 - 1)) h.at
          ∙ ap₂ (λ (k l : ℕ). min (min (a + (n - amount d.place)) (2 ^ 64 - 1) + (k - l)) (2 ^ 64 - 1)) h.weigh left
          ∙ offset_then a (n - amount d.place) (amount d.place - amount place) (2 ^ 64 - 1)
          ∙ ap (λ (k : ℕ). min (a + k) (2 ^ 64 - 1)) parts;
      within = omega (arith, h.within, less);
      weigh = weigh;
    }

-- bytes that end in a turn are told
abbrev pub EndTells : Course → ℕ → Type 0
EndTells c o = end_given c.pending c ≡ Some (Tells fault.Truncated o, over c)

pub end_tells : (p : Pending) (c : Course) (o : ℕ) → c.pending ≡ p → end_given p c ≡ Some (Tells fault.Truncated (begun_by c c.place c.pending), over c) → begun_by c c.place c.pending ≡ o → EndTells c o
end_tells p c o is given begun = ap (λ p. end_given p c) is ∙ given ∙ ap (λ (k : ℕ). Some (Tells fault.Truncated k, over c)) begun

module _ (track : TrackNumbers) (a n : ℕ) (whole : List ℕ) where
  -- items go on from where a step ends, with as many turns as are needed there
  abbrev pub GoesOn : ℕ → Option ℕ → Place → List ℕ → Itemed → Type 0
  GoesOn o None place rest y =
      (k : ℕ) × (d : Course) × (y ≡ item_up_to k track d rest) × (d.pending ≡ pending.Nothing) × (d.place ≡ place) × (is_sound place ≡ true) × (amount place + 2 ≤ k) × Counted a n d
  GoesOn o (Some size) place rest y =
      (d : Course) × (y ≡ frame_given d size place rest) × (begun_by d d.place d.pending ≡ o) × (amount place ≤ amount d.place) × Counted a n d

  -- what an item is by a step of an element that begins at an offset
  abbrev pub Follows : ℕ → Stepped → Itemed → Type 0
  Follows o (Ok (None, rest)) y = (y ≡ Ok (None, rest)) × (rest ≡ whole)
  Follows o (Ok (Some s, rest)) y = GoesOn o s.frame s.place rest y
  Follows o (Err (Short w)) y = (d : Course) × (y ≡ Ok (Some (Tells fault.Truncated o, d), []))
  Follows o (Err (Met f rest)) y = (d : Course) × (more : List ℕ) × (y ≡ Ok (Some (Tells f o, d), more))

  -- there are turns for what a step leaves
  abbrev pub HasTurns : ℕ → Course → Stepped → Type 0
  HasTurns k c (Ok (Some s, rest)) = (amount s.place + 2 ≤ k) × (amount s.place ≤ amount c.place)
  HasTurns k c (Ok (None, rest)) = Unit {0}
  HasTurns k c (Err why) = Unit {0}

  abbrev tells : FileFault → Course → List ℕ → ℕ → Itemed
  tells f d rest offset = Ok (Some (Tells f offset, d), rest)

  told_is : (k o : ℕ) (d : Course) (text : List ℕ) → d.pending ≡ pending.Nothing → is_sound d.place ≡ false → d.begun ≡ o → item_up_to (suc k) track d text ≡ Ok (Some (Tells fault.Checksum o, moved d pending.Nothing (summed_at d.place Absent)), text)
  unfolding item_up_to turn_read element_turn
  told_is k o d text none unsound is =
      let turn : turn_read track d.pending d.place text ≡ Ok (Some (Told fault.Checksum pending.Nothing (summed_at d.place Absent)), text) = ap (λ p. turn_read track p d.place text) none ∙ (rw unsound refl) in
      let begun : begun_by d d.place d.pending ≡ o = ap (begun_by d d.place) none ∙ (rw unsound is) in
      ap (item_after (item_up_to k track) d) turn ∙ ap (tells fault.Checksum (moved d pending.Nothing (summed_at d.place Absent)) text) begun

  pub told_next : (k o : ℕ) (d : Course) (text : List ℕ) → d.pending ≡ pending.Nothing → is_sound d.place ≡ false → d.begun ≡ o → 0 < k → (e : Course) × (more : List ℕ) × (item_up_to k track d text ≡ Ok (Some (Tells fault.Checksum o, e), more))
  told_next zero o d text none unsound is less = absurd (omega (arith, less))
  told_next (suc k) o d text none unsound is less = (moved d pending.Nothing (summed_at d.place Absent), text, told_is k o d text none unsound is)

  has_turns : (r : Reading (Option Step)) (text : List ℕ) (k m : ℕ) (c : Course) → m + 2 ≤ k → m ≤ amount c.place → Gives (Within m) r → HasTurns k c (r text)
  has_turns r text k m c fits less h = on_step (r text) refl
    where
      on_step : (x : Stepped) → r text ≡ x → HasTurns k c x
      on_step (Ok (None, rest)) e = tt
      on_step (Ok (Some s, rest)) e = let most = h.only text rest (Some s) e in (omega (arith, most, fits), omega (arith, most, less))
      on_step (Err why) e = tt

  pub follow_mirror : (k o : ℕ) (c : Course) → begun_by c c.place c.pending ≡ o → EndTells c o → 0 < k → Counted a n c → (x : Stepped) (z : Turned) → HasTurns k c x → Mirrors x z → Follows o x (item_after (item_up_to k track) c (some z))
  follow_mirror k o c is ends less counts (Ok (None, rest)) z turns h = absurd h
  follow_mirror k o c is ends less counts (Ok (Some s, rest)) z turns h = on_frame s.frame s.place turns h
    where
      on_frame : (frame : Option ℕ) (place : Place) → (amount place + 2 ≤ k) × (amount place ≤ amount c.place) → Mirrors (Ok (Some (record { frame = frame; time = None; place = place }), rest)) z → GoesOn o frame place rest (item_after (item_up_to k track) c (some z))
      on_frame None place turns (sound, same) = rw same (k, moved c pending.Nothing place, refl, refl, refl, sound, turns.0, counted_moved a n c pending.Nothing place counts turns.1 refl refl)
      on_frame (Some size) place turns same = rw same (c, refl, is, turns.1, counts)
  follow_mirror k o c is ends less counts (Err (Short w)) z turns h = rw h (over c, ap (λ x. Ok (x, [])) ends)
  follow_mirror k o c is ends less counts (Err (Met f rest)) z turns (inl (next, place, more, same)) = rw same (moved c next place, more, ap (tells f (moved c next place) more) is)
  follow_mirror k o c is ends less counts (Err (Met f rest)) z turns (inr (inl (checksum, place, more, unsound, same))) = rw (same, checksum) (told_next k o (moved c pending.Nothing place) more refl unsound is less)
  follow_mirror k o c is ends less counts (Err (Met f rest)) z turns (inr (inr (truncated, w, same))) = rw (same, truncated) (over c, [], ap (λ x. Ok (x, [])) ends)

  some_if : (b : Bool) (r s : Reading Turn) (text : List ℕ) → some_turn (if b then r else s) text ≡ (if b then some_turn r text else some_turn s text)
  some_if true r s text = refl
  some_if false r s text = refl

  -- ---- a BlockGroup, up to its first Block
  grouped_is : (k : ℕ) (c : Course) (text : List ℕ) → c.pending ≡ pending.Grouped → (c.place.group == 0) ≡ false → item_up_to (suc k) track c text ≡ item_after (item_up_to k track) c (some (group_turn track pending.Grouped c.place text))
  unfolding item_up_to turn_read grouped_turn
  grouped_is k c text group more =
      let turn : turn_read track c.pending c.place text ≡ some (group_turn track pending.Grouped c.place text) = rw (group, more) refl in
      ap (item_after (item_up_to k track) c) turn

  grouped_ends : (k o : ℕ) (c : Course) (text : List ℕ) → c.pending ≡ pending.Grouped → c.begun ≡ o → (c.place.group == 0) ≡ true → (d : Course) × (more : List ℕ) × (item_up_to (suc k) track c text ≡ Ok (Some (Tells fault.BadElement o, d), more))
  unfolding item_up_to turn_read grouped_turn
  grouped_ends k o c text group is none =
      let d = moved c pending.Seeking (segment_at c.place false (segment_left 0 c.place)) in
      let begun : begun_by c c.place c.pending ≡ o = ap (begun_by c c.place) group ∙ is in
      let turn : turn_read track c.pending c.place text ≡ Ok (Some (lost fault.BadElement 0 c.place), text) = rw (group, none) refl in
      (d, text, ap (item_after (item_up_to k track) c) turn ∙ ap (tells fault.BadElement d text) begun)

  pub follow_group : (most k o : ℕ) (c : Course) (text : List ℕ) → c.pending ≡ pending.Grouped → c.begun ≡ o → c.place.group ≤ most → amount c.place + 2 ≤ k → Counted a n c → Follows o (block_sought most track c.place text) (item_up_to k track c text)
  unfolding block_sought passed_turn item_up_to group_turn header_tried
  follow_group most zero o c text group is few turns counts = absurd (omega (arith, turns))
  follow_group zero (suc k) o c text group is few turns counts = grouped_ends k o c text group is (eq-eqb _ _ (omega (arith, few)))
  follow_group (suc most) (suc k) o c text group is few turns counts = on_left (c.place.group == 0) refl (λ d rest. follow_group most k o d rest)
    where
      place : Place
      place = c.place

      Again : Type 0
      Again = (d : Course) (rest : List ℕ) → d.pending ≡ pending.Grouped → d.begun ≡ o → d.place.group ≤ most → amount d.place + 2 ≤ k → Counted a n d → Follows o (block_sought most track d.place rest) (item_up_to k track d rest)

      Like : Stepped → Turned → Type 0
      Like x z = Follows o x (item_after (item_up_to k track) c (some z))

      begun : begun_by c c.place c.pending ≡ o
      begun = ap (begun_by c c.place) group ∙ is

      ends : EndTells c o
      ends = end_tells pending.Grouped c o group refl begun

      now_at : ℕ → Sum → Place
      now_at left sum = group_at place left sum

      passed : Again → (size left : ℕ) (sum : Sum) (rest : List ℕ) → size + left < place.group → (b : Bool) → nat_lt (length rest) size ≡ b →
          Like ((passed_summed size sum >>= λ s. block_sought most track (summed_at (now_at left sum) s)) rest) (passed_turn size pending.Grouped (now_at left sum) rest)
      passed again size left sum rest less true short = rw short (over c, ap (λ x. Ok (x, [])) ends)
      passed again size left sum rest less false short =
          rw short (again (moved c pending.Grouped (summed_at (now_at left sum) (summed sum (take size rest)))) (drop size rest) refl begun (omega (arith, less, few)) (omega (arith, less, turns)) (counted_moved a n c pending.Grouped (summed_at (now_at left sum) (summed sum (take size rest))) counts (omega (arith, less)) refl refl))

      child : Again → (ident size left : ℕ) (sum : Sum) (rest : List ℕ) → size + left < place.group → (b : Bool) → (ident == block) ≡ b →
          Like (sought_child (block_sought most track) track ident (now_at left sum) (Some size) rest) (group_headed track pending.Grouped place (Whole ident size left sum) rest)
      child again ident size left sum rest less true is_block =
          rw is_block (follow_mirror k o c begun ends (omega (arith, turns, less)) counts _ _ (has_turns (block_read track size (now_at left sum)) rest k (amount (now_at left sum)) c (omega (arith, turns, less)) (omega (arith, less)) (block_within track size (now_at left sum))) (blocks track size (now_at left sum) rest))
      child again ident size left sum rest less false is_block = rw is_block (passed again size left sum rest less (nat_lt (length rest) size) refl)

      on_left : (b : Bool) → (place.group == 0) ≡ b → Again → Follows o (block_sought (suc most) track place text) (item_up_to (suc k) track c text)
      on_left true none again = rw none (grouped_ends k o c text group is none)
      on_left false some_left again =
          rw (some_left, grouped_is k c text group some_left) (header_like Like (λ f rest more next p. (moved c next p, more, ap (tells f (moved c next p) more) begun)) (λ w. (over c, ap (λ x. Ok (x, [])) ends))
          (sought_rest (block_sought most track) track place) (group_headed track pending.Grouped place) (λ f left bytes. (_, _, refl)) (λ ident left bytes. (_, _, refl)) (λ ident left sum bytes. refl) place.group
          (λ ident size left sum bytes less. child again ident size left sum bytes less (ident == block) refl) none_outside place.sum text)

  pub follow_entered : (k o : ℕ) (c : Course) → begun_by c c.place c.pending ≡ o → EndTells c o → Counted a n c → (x : Stepped) (z : Turned) → HasTurns k c x → amount c.place + 2 ≤ suc k → 0 < k → InCluster track c.place x z → Follows o x (item_after (item_up_to k track) c (some z))
  follow_entered k o c begun ends counts x z turns enough less (inl mirrors) = follow_mirror k o c begun ends less counts x z turns mirrors
  follow_entered k o c begun ends counts x z turns enough less (inr (m, now, rest, group, fewer, same, on)) =
      let few : now.group ≤ m = omega (arith, group) in
      rw (same, on) (follow_group m k o (moved c pending.Grouped now) rest refl begun few (omega (arith, fewer, enough)) (counted_moved a n c pending.Grouped now counts (omega (arith, fewer)) refl refl))
