-- What comes of a look at the file of a path, by what opens files.
use Rattle.std.specs.Prelude.{◌≡◌, ◌⊎◌, ◌||◌, ℕ, Bool, true, false, not, List, Option}
use Rattle.std.specs.Prelude.{Some, None}
use Rattle.std.specs.Prelude.{Result, Ok, Err, option_to_list}
use Rattle.std.specs.Io.KnownBytes.{prepend_known}
use Rattle.ffv1_wire.specs.Failures.{one_more}
use Rattle.ffv1_wire.specs.Passage.{Passage, passage}
use Rattle.ffv1_wire.specs.Reads.{GivesByte}
use Rattle.ffv1_words.specs.declared.order.FrameRange.{FrameRange}
use Rattle.ffv1_video.specs.declared.fault.Fault.{Fault}
use Rattle.ffv1_video.specs.declared.fault.Fault.TheVariants as fault
use Rattle.ffv1.specs.Infos.{form_of}
use Rattle.ffv1_files.specs.declared.notes.Notes.{Notes}
use Rattle.ffv1_orders.specs.Looked.{Outcome, Printed}
use Rattle.ffv1_files.specs.Noted.{no_notes}
use Rattle.ffv1_orders.specs.Noted.{noted}
use Rattle.ffv1_orders.specs.Orders.{is_of_frames}
use Rattle.ffv1_orders.specs.Telling.{Untold}
use Rattle.ffv1.specs.Streams.{Checks, Informs, PrintsMd5s, Shows, Tries}
use Rattle.ffv1_orders.specs.declared.checking.Checking.{Checking}
use Rattle.ffv1_orders.specs.declared.hashing.Hashing.{Hashing}
use Rattle.ffv1_orders.specs.declared.informing.Informing.{Informing}
use Rattle.ffv1_orders.specs.declared.input.Again.{Again}
use Rattle.ffv1_orders.specs.declared.orders.Looking.{Looking}
use Rattle.ffv1_orders.specs.declared.orders.Looking.TheVariants as looking
use Rattle.ffv1_orders.specs.declared.refusal.Refusal.{Refusal}
use Rattle.ffv1_orders.specs.declared.refusal.Refusal.TheVariants as refusal
use Rattle.ffv1_orders.specs.declared.telling.Telling.{Telling}
use Rattle.ffv1_orders.specs.declared.telling.Telling.TheVariants as telling

-- what comes of it if a file cannot be opened or read
abbrev pub unread : {A : Type 0} → Result A Refusal
unread = Err (refusal.Fault fault.Read)

-- what came of it, without what is noted of the file
abbrev pub unnoted : Outcome → Printed
unnoted (Ok notes) = Ok tt
unnoted (Err r) = Err r

-- what comes of what was printed of a file, of which nothing is noted
abbrev pub without_notes : Printed → Outcome
without_notes (Ok done) = Ok no_notes
without_notes (Err r) = Err r

-- what comes of frames that were all judged, by the first fault and the notes of the file
abbrev pub first_judged : Bool → Option Fault → Notes → Outcome
first_judged as_faults None notes = noted as_faults (Ok notes)
first_judged as_faults (Some f) notes = Err (refusal.Judged f notes)

-- or why not all were
abbrev pub judged : Bool → Result (Option Fault × Notes) Fault → Outcome
judged as_faults (Ok answer) = first_judged as_faults answer.0 answer.1
judged as_faults (Err f) = Err (refusal.Fault f)

-- what a check answered, without what is noted of the file
abbrev pub verdict_of : Result (Option Fault × Notes) Fault → Result (Option Fault) Fault
verdict_of (Ok answer) = Ok answer.0
verdict_of (Err f) = Err f

-- that is printed of what was done, which then comes of it; or it is not, and why is what does
abbrev pub IfTold : {A : Type 0} → (Printed → Type 0) → Telling → Result A Refusal →
    Result A Refusal → Type 0
IfTold prints how done outcome = (prints (Ok tt) × (outcome ≡ done))
    ⊎ ((r : Refusal) × prints (Err r) × Untold how r × (outcome ≡ Err r))

-- what prints what a check answered, in which way, and what came of printing it
abbrev pub Verdicts : Type 1
Verdicts = Telling → Result (Option Fault) Fault → Printed → Type 0

-- the bytes of a reader of which the first one is given once more
abbrev pub again : {R : Type 0} → (R → Option (List ℕ)) → Again R → Option (List ℕ)
again bytes s = prepend_known (option_to_list s.first) (bytes s.inner)

-- by which readers are of the file that was opened, that it could not be, and what readers give
module _ {R : Type 0} (opens : R → Type 0) (misses : Type 0) (bytes : R → Option (List ℕ))
    (failures : R → ℕ) where
  -- a file was opened, and of its reader, as it was opened and as it was left, this is said; or it
  -- could not be opened, and then that is
  abbrev pub OfFile : (R → R → Type 0) → Type 0 → Type 0
  OfFile Says Shut =
      ((first : R) × (last : R) × opens first × Says first last) ⊎ (misses × Shut)

  -- its frames are checked
  abbrev pub ChecksFile : Bool → Bool → FrameRange → Passage →
      Result (Option Fault × Notes) Fault → Type 0
  ChecksFile all place range output answer =
      OfFile (λ first last. Checks all place range (passage bytes failures first last) output
      answer) (answer ≡ Err fault.Read)

  -- and what that answered is what comes of it; one line of the file says this answer, and if it is
  -- not printed, that is what comes of it
  pub record ChecksIn (tells : Verdicts) (checking : Checking) (outcome : Outcome) : Type 0 where
    pub answer : Result (Option Fault × Notes) Fault
    pub output : Passage
    pub place : Bool
    pub says_place : place ≡ (not (is_of_frames checking.told) || checking.place)
    pub checks : ChecksFile checking.all place checking.range output answer
    pub by_frames : is_of_frames checking.told ≡ true →
        outcome ≡ judged checking.notes_as_faults answer
    pub by_line : is_of_frames checking.told ≡ false →
        IfTold (tells checking.told (verdict_of answer)) checking.told
        (judged checking.notes_as_faults answer) outcome

  -- it is shown
  abbrev pub ShowsIn : Bool → Outcome → Type 0
  ShowsIn cost outcome =
      (output : Passage)
      × OfFile (λ first last. Shows cost (passage bytes failures first last) output outcome)
      (outcome ≡ unread)

  -- its facts are written
  abbrev pub FactsIn : Informing → Printed → Type 0
  FactsIn how outcome =
      (output : Passage)
      × (((first : R) × opens first
      × Informs (form_of how.json) how.count (bytes first) output outcome)
      ⊎ (misses × (outcome ≡ unread)))

  -- they stand in an object of JSON, whose end says what came of them, unless it is not printed
  abbrev pub ObjectIn : (Printed → Type 0) → (Printed → Printed → Type 0) → Informing → Printed →
      Type 0
  ObjectIn begins ends how outcome =
      ((r : Refusal) × begins (Err r) × Untold telling.Object r × (outcome ≡ Err r))
      ⊎ ((done : Printed) × begins (Ok tt) × FactsIn how done
      × IfTold (ends done) telling.Object done outcome)

  -- they are lines, or an object
  pub record InformsIn (begins : Printed → Type 0) (ends : Printed → Printed → Type 0)
      (how : Informing) (outcome : Outcome) : Type 0 where
    pub printed : Printed
    pub is : outcome ≡ without_notes printed
    pub lines : how.json ≡ false → FactsIn how printed
    pub object : how.json ≡ true → ObjectIn begins ends how printed

  -- its first picture is coded and decoded again
  abbrev pub TriesIn : Outcome → Type 0
  TriesIn outcome =
      (output : Passage) × (printed : Printed) × (outcome ≡ without_notes printed)
      × OfFile (λ first last. Tries (passage bytes failures first last) output printed)
      (printed ≡ unread)

  -- its first byte is read, and then all of it from that byte on
  pub record PrintsFrom (range : FrameRange) (start : R) (outcome : Outcome) : Type 0 where
    pub first : Option ℕ
    pub mid : R
    pub gives : GivesByte (bytes start) (bytes mid) first
    pub begin : Again R
    pub given : begin.first ≡ first
    pub rest : begin.inner ≡ mid
    pub last : Again R
    pub output : Passage
    pub prints : PrintsMd5s range first
        (passage (again bytes) (λ s. failures s.inner) begin last) output outcome

  -- the MD5s of its pictures are printed
  abbrev pub PrintsIn : Hashing → Outcome → Type 0
  PrintsIn how outcome =
      (done : Outcome) × (outcome ≡ noted how.notes_as_faults done)
      × OfFile (λ start last. PrintsFrom how.range start done
      ⊎ ((failures last ≡ one_more (failures start)) × (done ≡ unread))) (done ≡ unread)

  -- it is looked at in this way, and told by what prints a verdict, and an object's beginning and
  -- end
  abbrev pub LooksIn : Verdicts → (Printed → Type 0) → (Printed → Printed → Type 0) → Looking →
      Outcome → Type 0
  LooksIn tells begins ends (looking.Check checking) outcome = ChecksIn tells checking outcome
  LooksIn tells begins ends (looking.Show cost) outcome = ShowsIn cost outcome
  LooksIn tells begins ends (looking.Info how) outcome = InformsIn begins ends how outcome
  LooksIn tells begins ends (looking.FrameMd5 how) outcome = PrintsIn how outcome
  LooksIn tells begins ends looking.Trial outcome = TriesIn outcome
