-- Where plain reading ends, the course says at its end what a reader says there.
use Rattle.std.proofs.Common.{◌≡◌, ◌⊎◌, ◌∙◌, ◌+◌, ◌-◌, ◌^◌, ◌<◌, ◌≤◌, ◌==◌, ℕ, suc, zero, nat_lt, Bool, true, false, List, [], ◌∷◌, ◌++◌, length, take, drop, codes, Option, Some, None, Result, Ok, Err, inl, inr, refl, sym, ap, subst, arith, append-nil, length-append}
use Rattle.std.proofs.lemmas.Bool.{cases_lt, eqb-false, eqb-true, le-ltb, lt-ltb, ltb-false, ltb-true}
use Rattle.std.proofs.lemmas.List.{drop_all, length-take, take-append-drop}
use Rattle.ffv1_reads.specs.Behind.{begins_file}
use Rattle.ffv1_reads.specs.Ends.{ReadOrNone}
use Rattle.ffv1_reads.specs.Offsets.{offset_after}
use Rattle.ffv1_reads.specs.Reads.{Kept, Stop, given, read_on}
use Rattle.ffv1_reads.proofs.OffsetLaws.{reads_more, reads_none}
use Rattle.ffv1_reads.proofs.Results.{ok_is, read_on_ok}
use Rattle.ffv1_avi.specs.declared.chunk.Entry.{Entry}
use Rattle.ffv1_avi.specs.declared.course.Course.{Course}
use Rattle.ffv1_avi.specs.declared.course.Pending.TheVariants as pending
use Rattle.ffv1_avi.specs.declared.place.Extent.{Extent}
use Rattle.ffv1_avi.specs.declared.place.Extent.TheVariants.{FirstMovi, EveryRiff}
use Rattle.ffv1_avi.specs.declared.place.Open.{Open}
use Rattle.ffv1_avi.specs.declared.place.Open.TheVariants.{Sized, OpenRiff, OpenMovi}
use Rattle.ffv1_avi.specs.declared.place.Place.{Place}
use Rattle.ffv1_avi.specs.Behind.{EndsOpen, OverAt, StandAfter, begins_another, looked_past}
use Rattle.ffv1_avi.specs.Damaged.{CountsInput, SaysEnd, plain_at}
use Rattle.ffv1_avi.specs.Files.{found_read, frame_found, frame_read, riff_begun, stepped}
use Rattle.ffv1_avi.specs.Items.{ended_after, ended_by, ended_up_to, over_at, stands}
use Rattle.ffv1_avi.specs.Names.{rule_of}
use Rattle.ffv1_avi.specs.Offsets.{ReadsUpTo, chunk_taken}
use Rattle.ffv1_avi.specs.Opens.{Step, no_frame, open_found, visit_movi, visit_riff}
use Rattle.ffv1_avi.specs.Padding.{content}
use Rattle.ffv1_avi.specs.Places.{extent_of, is_open}
use Rattle.ffv1_avi.specs.Turns.{beyond_step, chunk_of, chunk_step, chunk_turn, count_to, heard_in, movi_step, riff_place, riff_step, step_read, turn_read}
use Rattle.ffv1_avi.specs.Walk.{entry_in, entry_read, is_name, plain}
use Rattle.ffv1_avi.proofs.Agreeing.{step_shorter}
use Rattle.ffv1_avi.proofs.BegunRiffs.{begun_sound, name_other, over_there}
use Rattle.ffv1_avi.proofs.BehindLaws.{open_behind}
use Rattle.ffv1_avi.proofs.FirstFrames.{first_input}
use Rattle.ffv1_avi.proofs.FollowedFaults.{end_takes, step_takes}
use Rattle.ffv1_avi.proofs.FrameSteps.{found_step}
use Rattle.ffv1_avi.proofs.ListWalks.{entry_none}
use Rattle.ffv1_avi.proofs.Moves.{begun_less, extent_every, step_input}
use Rattle.ffv1_avi.proofs.RiffReadings.{behind_then, counts_more_by, counts_still, reads_still}
use Rattle.ffv1_avi.proofs.StepBytes.{Taken, step_whole}

abbrev Stepped : Type 0
Stepped = Result (Option Step × List ℕ) Stop

-- what is made of a value is never nothing
given_some : {X Y : Type 0} (z : Result (Y × List ℕ) Stop) (f : Y → X) (rest : List ℕ) → read_on z (λ y. given (Some (f y))) ≡ Ok (None, rest) → ⊥
given_some {X = X} (Ok (y, more)) f rest is = no_some (ap (λ (z : Option X × List ℕ). z.0) (ok_is (Some (f y), more) (None, rest) is))
  where
    no_some : ◌≡◌ {A = Option X} (Some (f y)) None → ⊥
    no_some e = absurd (cc)
given_some (Err why) f rest is = absurd (cc)

-- ---- where a step has nothing

-- what stands there begins no RIFF, and no chunk of what has no size
abbrev EndAt : Place → List ℕ → List ℕ → Type 0
EndAt place text rest =
    ((place.open_in ≡ Sized) × (place.riff ≡ 0) × (riff_begun place text ≡ Ok (None, rest)))
    ⊎ ((is_open place.open_in ≡ true) × (open_found place text ≡ Ok (None, rest)))

module _ (place : Place) (some : place.input ≡ 0 → ⊥) (text rest : List ℕ) where
  riff_end : (mid : List ℕ) → text ≡ mid → riff_step place None mid ≡ Ok (None, rest) → riff_begun place text ≡ Ok (None, rest)
  riff_end mid same is = on_parts (read_on_ok (riff_begun place mid) no_frame (None, rest) is)
    where
      on_parts : (p : Option Place × List ℕ) × (riff_begun place mid ≡ Ok p) × (no_frame p.0 p.1 ≡ Ok (None, rest)) → riff_begun place text ≡ Ok (None, rest)
      on_parts ((None, more), one, two) =
          let left : more ≡ rest = ap (λ (z : Option Step × List ℕ). z.1) (ok_is (None, more) (None, rest) two) in
          ap (riff_begun place) same ∙ one ∙ ap (λ z. Ok (None, z)) left
      on_parts ((Some next, more), one, two) = absurd (given_some (Ok (next, more)) (λ n. (None, n)) rest two)

  sized_end : (mid : List ℕ) → text ≡ mid → place.open_in ≡ Sized → beyond_step Sized place mid ≡ Ok (None, rest) → EndAt place text rest
  sized_end mid same known is = on_parts (read_on_ok (entry_read place.riff mid) (riff_step place) (None, rest) is)
    where
      on_parts : (p : Option Entry × List ℕ) × (entry_read place.riff mid ≡ Ok p) × (riff_step place p.0 p.1 ≡ Ok (None, rest)) → EndAt place text rest
      on_parts ((Some e, more), one, two) = absurd (given_some (visit_riff place.names tt e more) (λ p. (None, riff_place place e.left p.1)) rest two)
      on_parts ((None, more), one, two) =
          let none = entry_none plain place.riff mid more one in
          inl (known, none.0, riff_end more (same ∙ none.1) two)

  by_open : (mid : List ℕ) → text ≡ mid → (o : Open) → place.open_in ≡ o → beyond_step o place mid ≡ Ok (None, rest) → EndAt place text rest
  by_open mid same Sized known is = sized_end mid same known is
  by_open mid same OpenRiff known is = inr (rw known refl, ap (open_found place) same ∙ is)
  by_open mid same OpenMovi known is = inr (rw known refl, ap (open_found place) same ∙ is)

  step_end : step_read place text ≡ Ok (None, rest) → EndAt place text rest
  unfolding step_read
  step_end is = on_parts (read_on_ok (entry_in (rule_of place.names) place.movi text) (chunk_step place) (None, rest) is)
    where
      on_input : (mid : List ℕ) → text ≡ mid → (b : Bool) → (place.input == 0) ≡ b → chunk_step place None mid ≡ Ok (None, rest) → EndAt place text rest
      on_input mid same true none is = absurd (some (eqb-true place.input 0 none))
      on_input mid same false more is = by_open mid same place.open_in refl (rw more at is)

      on_parts : (p : Option Entry × List ℕ) × (entry_in (rule_of place.names) place.movi text ≡ Ok p) × (chunk_step place p.0 p.1 ≡ Ok (None, rest)) → EndAt place text rest
      on_parts ((Some e, more), one, two) = absurd (given_some (visit_movi place.names tt e more) (λ p. movi_step place e.left p.1) rest two)
      on_parts ((None, more), one, two) = on_input more (entry_none (rule_of place.names) place.movi text more one).1 (place.input == 0) refl two

-- ---- as many RIFFs are read after a step

abbrev More : Stepped → Type 0
More (Ok (Some s, rest)) = 0 < s.1.input
More (Ok (None, rest)) = Unit {0}
More (Err why) = Unit {0}

module _ (place : Place) (some : 0 < place.input) where
  movi_more : (e : Entry) (z : Result ((Unit {0} × Option (ℕ × ℕ)) × List ℕ) Stop) → More (read_on z (λ p. given (Some (movi_step place e.left p.1))))
  movi_more e (Err why) = tt
  movi_more e (Ok ((t, None), rest)) = some
  movi_more e (Ok ((t, Some p), rest)) = some

  riff_more : (e : Entry) (z : Result ((Unit {0} × Option (ℕ × ℕ)) × List ℕ) Stop) → More (read_on z (λ p. given (Some (None, riff_place place e.left p.1))))
  riff_more e (Err why) = tt
  riff_more e (Ok ((t, None), rest)) = some
  riff_more e (Ok ((t, Some p), rest)) = some

  begun_more : (text : List ℕ) (z : Result (Option Place × List ℕ) Stop) → riff_begun place text ≡ z → More (read_on z no_frame)
  begun_more text (Err why) is = tt
  begun_more text (Ok (None, rest)) is = tt
  begun_more text (Ok (Some next, rest)) is = (begun_less place next text rest is).1

  sized_more : (z : Result (Option Entry × List ℕ) Stop) → More (read_on z (riff_step place))
  sized_more (Err why) = tt
  sized_more (Ok (None, rest)) = begun_more rest (riff_begun place rest) refl
  sized_more (Ok (Some e, rest)) = riff_more e (visit_riff place.names tt e rest)

  open_more : (text : List ℕ) (z : Stepped) → open_found place text ≡ z → More z
  open_more text (Err why) is = tt
  open_more text (Ok (None, rest)) is = tt
  open_more text (Ok (Some s, rest)) is = (step_input place text s rest is).1

  beyond_more : (o : Open) (text : List ℕ) → More (beyond_step o place text)
  beyond_more Sized text = sized_more (entry_read place.riff text)
  beyond_more OpenRiff text = open_more text (open_found place text) refl
  beyond_more OpenMovi text = open_more text (open_found place text) refl

  chunk_more : (text : List ℕ) (b : Bool) → (place.input == 0) ≡ b → More (chunk_step place None text)
  chunk_more text true none = rw none tt
  chunk_more text false more = rw more (beyond_more place.open_in text)

  entry_more : (z : Result (Option Entry × List ℕ) Stop) → More (read_on z (chunk_step place))
  entry_more (Err why) = tt
  entry_more (Ok (None, rest)) = chunk_more rest (place.input == 0) refl
  entry_more (Ok (Some e, rest)) = movi_more e (visit_movi place.names tt e rest)

  step_more : (text : List ℕ) → More (step_read place text)
  unfolding step_read
  step_more text = entry_more (entry_in (rule_of place.names) place.movi text)

-- ---- what is told there

-- the end, and the bytes that are looked at
record Ends (place : Place) (text rest : List ℕ) : Type 0 where
  over : OverAt place.open_in place (Some text) (Some rest)
  riff : place.open_in ≡ Sized → place.riff ≡ 0
  bytes : List ℕ
  text_is : text ≡ bytes ++ rest
  looked : 0 < length text → 0 < length bytes

-- an RIFF's end
module _ (place : Place) (text rest : List ℕ) (is : riff_begun place text ≡ Ok (None, rest)) where
  abbrev Over : Type 0
  Over = ReadOrNone (riff_begun place) (Some text) (Some rest) None × (bytes : List ℕ) × (text ≡ bytes ++ rest) × (0 < length text → 0 < length bytes)

  at_end : rest ≡ [] → Over
  at_end none =
      let whole : text ≡ text ++ rest = sym (append-nil text) ∙ ap (λ z. text ++ z) (sym none) in
      let read : riff_begun place text ≡ Ok (None, []) = is ∙ ap (λ z. Ok (None, z)) none in
      (inr ((record { bytes = text; consumed = whole; is = read }, none), refl), text, whole, λ some. some)

  before_other : place.owed ≡ 0 → is_name (take 4 text) (codes "RIFF") ≡ false → begins_file (take 4 text) ≡ false → rest ≡ drop 4 text → 4 ≤ length text → Over
  before_other none no_riff no_file left enough =
      let four : length (take 4 text) ≡ 4 = length-take 4 text ∙ omega (arith, enough) in
      let whole : text ≡ take 4 text ++ rest = sym (take-append-drop 4 text) ∙ ap (λ z. take 4 text ++ z) (sym left) in
      (inl (record { bytes = take 4 text; consumed = whole; is = again four }), take 4 text, whole, λ some. omega (arith, four))
    where
      again : length (take 4 text) ≡ 4 → (more : List ℕ) → riff_begun place (take 4 text ++ more) ≡ Ok (None, more)
      again four more =
          let other = name_other (take 4 text) more four no_riff no_file in
          over_there place (take 4 text ++ more) none other.0 ∙ ap (λ z. Ok (None, z)) other.1

  riff_over : Over
  riff_over = on_riff (is_name (take 4 text) (codes "RIFF")) refl
    where
      sound : (place.owed ≡ 0) × (begins_another text ≡ false) × (rest ≡ looked_past text)
      sound = begun_sound place text (None, rest) is

      on_riff : (b : Bool) → is_name (take 4 text) (codes "RIFF") ≡ b → Over
      on_riff true riff = at_end (sound.2 ∙ rw riff refl)
      on_riff false no_riff =
          let left : rest ≡ drop 4 text = sound.2 ∙ rw no_riff refl in
          let no_file : begins_file (take 4 text) ≡ false = rw no_riff at sound.1 in
          elim (cases_lt (length text) 4) [ inl few ↦ at_end (left ∙ drop_all 4 text (omega (arith, few))) | inr enough ↦ before_other sound.0 no_riff no_file left enough ]

ends_here : (place : Place) (text rest : List ℕ) → extent_of place ≡ EveryRiff → EndAt place text rest → Ends place text rest
ends_here place text rest every (inl (known, none, is)) =
    let over = riff_over place text rest is in
    let P : Open → Type 0 = λ o. OverAt o place (Some text) (Some rest) in
    record { over = subst P (sym known) over.0; riff = λ z. none; bytes = over.1; text_is = over.2; looked = over.3 }
ends_here place text rest every (inr (unknown, is)) =
    let none = open_behind place text rest unknown every (is_over place.open_in unknown) in
    let read : open_found place [] ≡ Ok (None, []) = ap (open_found place) (sym none.0) ∙ is ∙ ap (λ z. Ok (None, z)) none.1 in
    let whole : text ≡ [] ++ rest = none.0 ∙ sym none.1 in
    let halts : ReadOrNone (open_found place) (Some text) (Some rest) None = inr ((record { bytes = []; consumed = whole; is = read }, none.1), refl) in
    record { over = over_open place.open_in unknown halts; riff = λ sized. absurd (not_sized place.open_in sized unknown); bytes = []; text_is = whole; looked = λ some. omega (arith, some, ap length none.0) }
  where
    is_over : (o : Open) → is_open o ≡ true → Rattle.ffv1_avi.specs.Behind.IsOver o place text rest
    is_over Sized e = absurd (cc)
    is_over OpenRiff e = is
    is_over OpenMovi e = is

    over_open : (o : Open) → is_open o ≡ true → ReadOrNone (open_found place) (Some text) (Some rest) None → OverAt o place (Some text) (Some rest)
    over_open Sized e over = absurd (cc)
    over_open OpenRiff e over = over
    over_open OpenMovi e over = over

    not_sized : (o : Open) → o ≡ Sized → is_open o ≡ true → ⊥
    not_sized Sized sized e = absurd (cc)
    not_sized OpenRiff sized e = absurd (cc)
    not_sized OpenMovi sized e = absurd (cc)

told_there : (place : Place) (begun at : ℕ) (text rest : List ℕ) → 0 < place.input → Ends place text rest → StandAfter (Some text) (Some rest) at (over_at (plain_at place begun at) (stands pending.Nothing place text)).after
told_there place begun at text rest some ends = on_test (nat_lt 0 (length text)) refl
  where
    on_test : (b : Bool) → nat_lt 0 (length text) ≡ b → StandAfter (Some text) (Some rest) at (over_at (plain_at place begun at) (stands pending.Nothing place text)).after
    on_test true test = rw (lt-ltb 0 place.input some, test) (refl, (ends.bytes, ends.looked (ltb-true 0 (length text) test), ends.text_is))
    on_test false test =
        let long : length text ≡ length ends.bytes + length rest = ap length ends.text_is ∙ length-append ends.bytes rest in
        let none : text ≡ [] = empty text (omega (arith, ltb-false 0 (length text) test)) in
        let over : rest ≡ [] = empty rest (omega (arith, ltb-false 0 (length text) test, long)) in
        rw (lt-ltb 0 place.input some, test) (none ∙ sym over, over)
      where
        empty : (xs : List ℕ) → length xs ≡ 0 → xs ≡ []
        empty [] is = refl
        empty (x ∷ xs) is = absurd (omega (arith, is))

-- ---- turn by turn

-- a frame comes, and no end
frame_comes : (size : ℕ) (next : Place) (text rest : List ℕ) → found_read (Some (size, next)) text ≡ Ok (None, rest) → ⊥
frame_comes size next text rest is = given_some (content Kept size text) (λ bytes. (bytes, next)) rest is

-- a chunk without a frame leads on
chunk_leads : (place next : Place) (at count : ℕ) (text rest : List ℕ) → Taken (chunk_taken place) text next rest → length rest + count ≡ length text → ReadsUpTo place (Some text) (Some rest) next at (offset_after at count)
chunk_leads place next at count text rest taken long =
    let counted : count ≡ length taken.used = omega (arith, long, ap length taken.text_is, length-append taken.used rest) in (
      0 + length taken.used,
      reads_more (length taken.used) (reads_none chunk_taken place (Some text)) (record { bytes = taken.used; consumed = taken.text_is; is = taken.again }) refl,
      counts_more_by at at (offset_after at count) 0 (length taken.used) count counts_still refl counted,
    )

says_end : (most : ℕ) (place : Place) (begun at : ℕ) (text rest : List ℕ) → CountsInput place → 0 < place.input → length text < most → length text < 2 ^ 64 - 1 → at + length text ≤ 2 ^ 64 - 1 → frame_read place text ≡ Ok (None, rest) → SaysEnd place at text rest (ended_up_to most (plain_at place begun at) text)
unfolding ended_up_to turn_read chunk_turn
says_end zero place begun at text rest counts some enough few held is = absurd (omega (arith, enough))
says_end (suc most) place begun at text rest counts some enough few held is =
    on_step (λ next b a more counted here shorter fewer less read. says_end most next b a more rest counted here shorter fewer less read) (step_read place text) refl
    (sym (ap (λ z. read_on z found_read) (found_step place text)) ∙ is)
  where
    every : extent_of place ≡ EveryRiff
    every = extent_every place (λ e. omega (arith, e, some))

    on_step : ((next : Place) (b a : ℕ) (more : List ℕ) → CountsInput next → 0 < next.input → length more < most → length more < 2 ^ 64 - 1 → a + length more ≤ 2 ^ 64 - 1 → frame_read next more ≡ Ok (None, rest) → SaysEnd next a more rest (ended_up_to most (plain_at next b a) more)) →
        (z : Stepped) → step_read place text ≡ z → read_on (read_on z (stepped frame_found)) found_read ≡ Ok (None, rest) →
        SaysEnd place at text rest (ended_after (ended_up_to most) (plain_at place begun at) (stands pending.Nothing place text) (read_on (heard_in text z) (λ r. given (chunk_of place r))))
    on_step on (Err why) step is = absurd (cc)
    on_step on (Ok (None, r)) step is = open_too (stands pending.Nothing place text) refl
      where
        same : r ≡ rest
        same = ap (λ (z : Option (List ℕ × Place) × List ℕ). z.1) (ok_is (None, r) (None, rest) is)

        ends : Ends place text rest
        ends = ends_here place text rest every (step_end place (λ e. omega (arith, e, some)) text rest (step ∙ ap (λ z. Ok (None, z)) same))

        movi : place.movi ≡ 0
        movi = end_takes place counts text few r step

        open_too : (b : Bool) → stands pending.Nothing place text ≡ b → SaysEnd place at text rest (over_at (plain_at place begun at) (stands pending.Nothing place text))
        open_too b test = (record { to = place; between = Some text; end = at; chunks = reads_still; movi = movi; riff = ends.riff; every = every; over = ends.over; told = told_there place begun at text rest some ends }, by_test b test)
          where
            by_test : (b : Bool) → stands pending.Nothing place text ≡ b → (over_at (plain_at place begun at) (stands pending.Nothing place text)).open_ended ≡ is_open place.open_in
            by_test true test = rw test refl
            by_test false test = rw test refl
    on_step on (Ok (Some (None, next), r)) step is =
        let took = step_takes place counts text few r next step in
        let shorter = step_shorter place text r (None, next) step in
        let here : 0 < next.input = subst More step (step_more place some text) in
        let whole = step_whole place text next r step in
        behind_then (chunk_leads place next at (count_to place next) text r whole took.0)
        (on next at (offset_after at (count_to place next)) r took.1 here (omega (arith, shorter, enough)) (omega (arith, shorter, few)) (omega (arith, took.0, held)) is)
    on_step on (Ok (Some (Some size, next), r)) step is = absurd (frame_comes size next r rest is)

pub ends_said : (place : Place) (begun at : ℕ) (text rest : List ℕ) → CountsInput place → at + length text < 2 ^ 64 - 1 → extent_of place ≡ EveryRiff → frame_read place text ≡ Ok (None, rest) → SaysEnd place at text rest (ended_by (plain_at place begun at) text)
unfolding ended_by
ends_said place begun at text rest counts held every is =
    says_end (2 ^ 64 - 1) place begun at text rest counts (on_input (place.input == 0) refl) (omega (arith, held)) (omega (arith, held)) (omega (arith, held)) is
  where
    no_extent : ◌≡◌ {A = Extent} FirstMovi EveryRiff → ⊥
    no_extent e = absurd (cc)

    on_input : (b : Bool) → (place.input == 0) ≡ b → 0 < place.input
    on_input true none = absurd (no_extent (rw none at every))
    on_input false more = let some = eqb-false place.input 0 more in positive place.input some
      where
        positive : (n : ℕ) → (n ≡ 0 → ⊥) → 0 < n
        positive zero h = absurd (h refl)
        positive (suc n) h = omega arith

-- ---- if the first movi alone is read

abbrev Stays : Place → Stepped → Type 0
Stays place (Ok (Some s, rest)) = (s.1.input ≡ 0) × (s.1.open_in ≡ place.open_in)
Stays place (Ok (None, rest)) = Unit {0}
Stays place (Err why) = Unit {0}

module _ (place : Place) (none : place.input ≡ 0) where
  movi_stays : (e : Entry) (z : Result ((Unit {0} × Option (ℕ × ℕ)) × List ℕ) Stop) → Stays place (read_on z (λ p. given (Some (movi_step place e.left p.1))))
  movi_stays e (Err why) = tt
  movi_stays e (Ok ((t, None), rest)) = (none, refl)
  movi_stays e (Ok ((t, Some p), rest)) = (none, refl)

  entry_stays : (z : Result (Option Entry × List ℕ) Stop) → Stays place (read_on z (chunk_step place))
  entry_stays (Err why) = tt
  entry_stays (Ok (None, rest)) = rw none tt
  entry_stays (Ok (Some e, rest)) = movi_stays e (visit_movi place.names tt e rest)

  step_stays : (text : List ℕ) → Stays place (step_read place text)
  unfolding step_read
  step_stays text = entry_stays (entry_in (rule_of place.names) place.movi text)

abbrev FirstEnds : Place → Course → Type 0
FirstEnds place c = (c.after ≡ None) × (c.open_ended ≡ is_open place.open_in)

says_first : (most : ℕ) (place : Place) (begun at : ℕ) (text rest : List ℕ) → place.input ≡ 0 → frame_read place text ≡ Ok (None, rest) → FirstEnds place (ended_up_to most (plain_at place begun at) text)
unfolding ended_up_to turn_read chunk_turn
says_first zero place begun at text rest none is = (refl, refl)
says_first (suc most) place begun at text rest none is =
    on_step (λ next b a more here read. says_first most next b a more rest here read) (step_read place text) refl
    (sym (ap (λ z. read_on z found_read) (found_step place text)) ∙ is)
  where
    on_step : ((next : Place) (b a : ℕ) (more : List ℕ) → next.input ≡ 0 → frame_read next more ≡ Ok (None, rest) → FirstEnds next (ended_up_to most (plain_at next b a) more)) →
        (z : Stepped) → step_read place text ≡ z → read_on (read_on z (stepped frame_found)) found_read ≡ Ok (None, rest) →
        FirstEnds place (ended_after (ended_up_to most) (plain_at place begun at) (stands pending.Nothing place text) (read_on (heard_in text z) (λ r. given (chunk_of place r))))
    on_step on (Err why) step is = absurd (cc)
    on_step on (Ok (None, r)) step is = rw (le-ltb 0 place.input (omega (arith, none))) (refl, refl)
    on_step on (Ok (Some (None, next), r)) step is =
        let here = subst (Stays place) step (step_stays place none text) in
        let P : Open → Type 0 = λ o. (ended_up_to most (plain_at next at (offset_after at (count_to place next))) r).open_ended ≡ is_open o in
        let more = on next at (offset_after at (count_to place next)) r here.0 is in
        (more.0, subst P here.1 more.1)
    on_step on (Ok (Some (Some size, next), r)) step is = absurd (frame_comes size next r rest is)

pub first_said : (place : Place) (begun at : ℕ) (text rest : List ℕ) → extent_of place ≡ FirstMovi → frame_read place text ≡ Ok (None, rest) → FirstEnds place (ended_by (plain_at place begun at) text)
unfolding ended_by
first_said place begun at text rest first is = says_first (2 ^ 64 - 1) place begun at text rest (first_input place first) is
