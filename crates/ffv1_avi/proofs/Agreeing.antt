-- Where plain reading gives frames, the same frames are given.
use Rattle.std.proofs.Common.{◌≡◌, ◌⊎◌, ◌∙◌, ◌+◌, ◌-◌, ◌<◌, ◌==◌, ◌^◌, ℕ, suc, zero, nat_lt, Bool, true, false, List, [], length, take, drop, Option, Some, None, Result, Ok, Err, inl, inr, refl, sym, ap, subst, arith}
use Rattle.byteorder.specs.Endian.{little_number}
use Rattle.ffv1_reads.specs.Offsets.{offset_after}
use Rattle.ffv1_reads.specs.Reads.{Kept, Met, Short, Stop, Want, given, read_on}
use Rattle.ffv1_reads.specs.declared.fault.FileFault.{FileFault}
use Rattle.ffv1_reads.specs.declared.fault.FileFault.TheVariants as fault
use Rattle.ffv1_avi.specs.Damaged.{plain_at}
use Rattle.ffv1_avi.specs.Files.{found_read, frame_found, frame_read, stepped}
use Rattle.ffv1_reads.specs.Items.{Given, GivesFrame, Tells}
use Rattle.ffv1_avi.specs.Items.{frame_given, item_after, item_read, item_up_to, over, told_on}
use Rattle.ffv1_avi.specs.Opens.{Step}
use Rattle.ffv1_avi.specs.Padding.{content, padded}
use Rattle.ffv1_avi.specs.Places.{ended, is_open}
use Rattle.ffv1_avi.specs.Turns.{begins_frame, chunk_of, chunk_turn, count_to, fault_turn, heard_in, lost_at, passed_at, passed_of, seeks_in, step_read, turn_read}
use Rattle.ffv1_avi.specs.declared.course.Course.{Course}
use Rattle.ffv1_avi.specs.declared.course.Pending.{Pending}
use Rattle.ffv1_avi.specs.declared.course.Pending.TheVariants as pending
use Rattle.ffv1_avi.specs.declared.course.Turn.TheVariants.{Frame, On, Told}
use Rattle.ffv1_avi.specs.declared.place.Place.{Place}
use Rattle.ffv1_avi.proofs.FrameSteps.{found_step}
use Rattle.ffv1_avi.proofs.HeardOpens.{chunk_heard}
use Rattle.ffv1_avi.proofs.PaddedFrames.{content_meets, content_short, content_there}
use Rattle.ffv1_avi.proofs.ShorterTexts.{Less, heard_less}

-- what plain reading, and what that of a file that may be damaged came to
abbrev pub Plain : Type 0
Plain = Result (Option (List ℕ × Place) × List ℕ) Stop

abbrev pub Came : Type 0
Came = Result (Option (Given × Course) × List ℕ) Stop

abbrev pub Agrees : Plain → Came → Type 0
Agrees (Ok (None, rest)) z = z ≡ Ok (None, rest)
Agrees (Ok (Some p, rest)) z = (begun : ℕ) × (at : ℕ) × (z ≡ Ok (Some (GivesFrame p.0, plain_at p.1 begun at), rest))
Agrees (Err (Met f rest)) z = (offset : ℕ) × (d : Course) × (z ≡ Ok (Some (Tells f offset, d), rest))
Agrees (Err (Short w)) z = (offset : ℕ) × (d : Course) × (z ≡ Ok (Some (Tells fault.Truncated offset, d), []))

-- a fault is told as it is
pub told_as : (place : Place) (f : FileFault) (bytes : List ℕ) → (count : ℕ) × (next : Pending) × (to : Place) × (fault_turn place f bytes ≡ Told f count next to)
told_as place fault.Another bytes = (length bytes, pending.Nothing, ended, refl)
told_as place fault.NotAvi bytes = on_frame (begins_frame place.names bytes) refl
  where
    on_frame : (b : Bool) → begins_frame place.names bytes ≡ b → (count : ℕ) × (next : Pending) × (to : Place) × (fault_turn place fault.NotAvi bytes ≡ Told fault.NotAvi count next to)
    on_frame true test = (8, pending.Passing (padded (little_number 4 (drop 4 bytes))) false, passed_at place (8 + padded (little_number 4 (drop 4 bytes))), rw test refl)
    on_frame false test = (length bytes, seeks_in (drop (passed_of place.names bytes) bytes), lost_at place, rw test refl)
told_as place f bytes = (length bytes, seeks_in (drop (passed_of place.names bytes) bytes), lost_at place, refl)

-- a step takes bytes
pub step_shorter : (place : Place) (text rest : List ℕ) (s : Step) → step_read place text ≡ Ok (Some s, rest) → length rest < length text
unfolding chunk_turn
step_shorter place text rest (None, next) is =
    let turned : chunk_turn place text ≡ Ok (Some (On (count_to place next) pending.Nothing next), rest) = rw is refl in
    let less = heard_less place text (nat_lt 0 place.movi) (place.input == 0) (is_open place.open_in) (nat_lt 0 place.riff) refl refl refl refl in
    only (subst (Less text) (sym (chunk_heard place text) ∙ turned) less)
  where
    only : (false ≡ true) ⊎ (length rest < length text) → length rest < length text
    only (inl e) = absurd (cc (e))
    only (inr less) = less
step_shorter place text rest (Some size, next) is =
    let turned : chunk_turn place text ≡ Ok (Some (Frame 8 size next), rest) = rw is refl in
    let less = heard_less place text (nat_lt 0 place.movi) (place.input == 0) (is_open place.open_in) (nat_lt 0 place.riff) refl refl refl refl in
    only (subst (Less text) (sym (chunk_heard place text) ∙ turned) less)
  where
    only : (false ≡ true) ⊎ (length rest < length text) → length rest < length text
    only (inl e) = absurd (cc (e))
    only (inr less) = less

-- the bytes of a frame
content_agrees : (begun at size : ℕ) (place next : Place) (text : List ℕ) → Agrees (found_read (Some (size, next)) text) (frame_given (plain_at place begun at) 8 size next text)
content_agrees begun at size place next text = on_content (content Kept size text) refl
  where
    on_content : (z : Result (List ℕ × List ℕ) Stop) → content Kept size text ≡ z → Agrees (read_on z (λ bytes. given (Some (bytes, next)))) (frame_given (plain_at place begun at) 8 size next text)
    on_content (Ok (bytes, rest)) is = (_, _, content_there (plain_at place begun at) 8 size next text bytes rest is)
    on_content (Err (Short w)) is = (_, _, content_short (plain_at place begun at) 8 size next text w is)
    on_content (Err (Met f rest)) is = absurd (content_meets size text rest f is)

pub agrees : (most : ℕ) (place : Place) (begun at : ℕ) (text : List ℕ) → length text < most → Agrees (frame_read place text) (item_up_to most (plain_at place begun at) text)
unfolding item_up_to turn_read chunk_turn
agrees zero place begun at text few = absurd (omega (arith, few))
agrees (suc most) place begun at text few =
    let P : Result (Option (ℕ × Place) × List ℕ) Stop → Type 0 = λ z. Agrees (read_on z found_read) (item_up_to (suc most) (plain_at place begun at) text) in
    subst P (sym (found_step place text)) (on_step (λ next b a rest less. agrees most next b a rest less) (step_read place text) refl)
  where
    on_step : ((next : Place) (b a : ℕ) (rest : List ℕ) → length rest < most → Agrees (frame_read next rest) (item_up_to most (plain_at next b a) rest)) → (z : Result (Option Step × List ℕ) Stop) → step_read place text ≡ z → Agrees (read_on (read_on z (stepped frame_found)) found_read) (item_after (item_up_to most) (plain_at place begun at) (read_on (heard_in text z) (λ r. given (chunk_of place r))))
    on_step on (Err (Short w)) is = (at, over (plain_at place begun at), refl)
    on_step on (Err (Met f rest)) is =
        let told = told_as place f (take (length text - length rest) text) in
        (at, told_on (plain_at place begun at) told.0 told.1 told.2, rw told.3 refl)
    on_step on (Ok (None, rest)) is = refl
    on_step on (Ok (Some (None, next), rest)) is = on next at (offset_after at (count_to place next)) rest (omega (arith, few, step_shorter place text rest (None, next) is))
    on_step on (Ok (Some (Some size, next), rest)) is = content_agrees begun at size place next rest

-- a chunk at fault is told where it begins
told_here : (most : ℕ) (place : Place) (begun at : ℕ) (text rest : List ℕ) (f : FileFault) → step_read place text ≡ Err (Met f rest) → (d : Course) × (item_up_to (suc most) (plain_at place begun at) text ≡ Ok (Some (Tells f at, d), rest))
unfolding item_up_to turn_read chunk_turn
told_here most place begun at text rest f is =
    let told = told_as place f (take (length text - length rest) text) in
    (told_on (plain_at place begun at) told.0 told.1 told.2, rw (is, told.3) refl)

-- the next item
module _ (place : Place) (begun at : ℕ) (text : List ℕ) (few : length text < 2 ^ 64 - 1) where
  given_next : Agrees (frame_read place text) (item_read (plain_at place begun at) text)
  unfolding item_read
  given_next = agrees (2 ^ 64 - 1) place begun at text few

  pub frame_agrees : (bytes rest : List ℕ) (after : Place) → frame_read place text ≡ Ok (Some (bytes, after), rest) → (b : ℕ) × (a : ℕ) × (item_read (plain_at place begun at) text ≡ Ok (Some (GivesFrame bytes, plain_at after b a), rest))
  frame_agrees bytes rest after is = subst (λ (z : Plain). Agrees z (item_read (plain_at place begun at) text)) is given_next

  pub end_agrees : (rest : List ℕ) → frame_read place text ≡ Ok (None, rest) → item_read (plain_at place begun at) text ≡ Ok (None, rest)
  end_agrees rest is = subst (λ (z : Plain). Agrees z (item_read (plain_at place begun at) text)) is given_next

  pub fault_agrees : (f : FileFault) (rest : List ℕ) → frame_read place text ≡ Err (Met f rest) → (offset : ℕ) × (d : Course) × (item_read (plain_at place begun at) text ≡ Ok (Some (Tells f offset, d), rest))
  fault_agrees f rest is = subst (λ (z : Plain). Agrees z (item_read (plain_at place begun at) text)) is given_next

  pub short_agrees : (w : Want) → frame_read place text ≡ Err (Short w) → (offset : ℕ) × (d : Course) × (item_read (plain_at place begun at) text ≡ Ok (Some (Tells fault.Truncated offset, d), []))
  short_agrees w is = subst (λ (z : Plain). Agrees z (item_read (plain_at place begun at) text)) is given_next

  pub fault_here : (f : FileFault) (rest : List ℕ) → step_read place text ≡ Err (Met f rest) → (d : Course) × (item_read (plain_at place begun at) text ≡ Ok (Some (Tells f at, d), rest))
  unfolding item_read
  fault_here f rest is =
      let most : 2 ^ 64 - 1 ≡ suc (2 ^ 64 - 2) = omega arith in
      let told = told_here (2 ^ 64 - 2) place begun at text rest f is in
      (told.0, ap (λ n. item_up_to n (plain_at place begun at) text) most ∙ told.1)
