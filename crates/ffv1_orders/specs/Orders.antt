-- What is done of an order, by what does it: which of its parts, on which files, and what its exit
-- status is.
use Rattle.std.specs.Prelude.{◌≡◌, ◌≢◌, ◌⊎◌, ℕ, Bool, true, false, not, List, [], ◌∷◌, length}
use Rattle.std.specs.Prelude.{Option, None, Some, Result, IfOk, OnErr, slice_get}
use Rattle.std.specs.Borrow.{Bor}
use Rattle.clap.specs.Words.{kind_of}
use Rattle.clap.specs.declared.error.Error.{Error}
use Rattle.clap.specs.declared.error.kind.ErrorKind.{ErrorKind}
use Rattle.clap.specs.declared.error.kind.ErrorKind.TheVariants as kind
use Rattle.ffv1_words.specs.CommandLine.{OnLine}
use Rattle.ffv1_words.specs.Order.{IsOrder, IsRefused}
use Rattle.ffv1_words.specs.Topic.{AsksTopic}
use Rattle.ffv1_words.specs.declared.topic.Topic.{Topic}
use Rattle.ffv1_words.specs.declared.order.Choice.{Choice}
use Rattle.ffv1_words.specs.declared.order.ContainerChoice.{ContainerChoice}
use Rattle.ffv1_words.specs.declared.order.FrameRange.{FrameRange}
use Rattle.ffv1_words.specs.declared.order.Order.{Order}
use Rattle.ffv1_words.specs.declared.order.Order.TheVariants as order
use Rattle.ffv1_orders.specs.Looked.{IsTold, Look, LooksAtEach, LooksNamed, Naming, Outcome}
use Rattle.ffv1_orders.specs.Looked.{StopsAt, paths_of, status_of_each}
use Rattle.ffv1_orders.specs.Statuses.{status_of}
use Rattle.ffv1_orders.specs.declared.checking.Checking.{Checking}
use Rattle.ffv1_orders.specs.declared.comparing.Comparing.{Comparing}
use Rattle.ffv1_orders.specs.declared.hashing.Hashing.{Hashing}
use Rattle.ffv1_orders.specs.declared.informing.Informing.{Informing}
use Rattle.ffv1_orders.specs.declared.making.Making.{Making}
use Rattle.ffv1_orders.specs.declared.orders.Looker.{Looker}
use Rattle.ffv1_orders.specs.declared.orders.Looking.{Looking}
use Rattle.ffv1_orders.specs.declared.orders.Looking.TheVariants as looking
use Rattle.ffv1_orders.specs.declared.unpacking.Unpacking.{Unpacking}
use Rattle.ffv1_orders.specs.declared.telling.Telling.{Telling}
use Rattle.ffv1_orders.specs.declared.telling.Telling.TheVariants as telling

-- each part: what does it before, what it is given, what came of it, and what does it after
abbrev pub Packing : Type 0 → Type 1
Packing D = D → Making → ContainerChoice → Choice → Outcome → D → Type 0

abbrev pub UnpackingOf : Type 0 → Type 1
UnpackingOf D = D → Making → Unpacking → Outcome → D → Type 0

abbrev pub ComparingOf : Type 0 → Type 1
ComparingOf D = D → Comparing → Outcome → D → Type 0

-- a line of a path, and whether it was printed
abbrev pub NamingOf : Type 0 → Type 1
NamingOf D = D → Looking → List ℕ → Bool → D → Type 0

-- a look at the file of a path
abbrev pub LookingAt : Type 0 → Type 1
LookingAt D = D → Looking → List ℕ → Outcome → D → Type 0

pub record Doing (D : Type 0) : Type 1 where
  pub packs : Packing D
  pub unpacks : UnpackingOf D
  pub compares : ComparingOf D
  pub names : NamingOf D
  pub looks : LookingAt D

-- the same of files that are looked at in one way
abbrev pub names_in : {D : Type 0} → NamingOf D → Naming (Looker D)
names_in names s path printed t =
    (t.looking ≡ s.looking) × names s.doer s.looking path printed t.doer

abbrev pub looks_in : {D : Type 0} → LookingAt D → Look (Looker D)
looks_in looks s path outcome t =
    (t.looking ≡ s.looking) × looks s.doer s.looking path outcome t.doer

-- files are looked at: one alone, or each of several after a line of its path; the exit status is
-- what came of that, unless standard error could not be written
pub record LooksOver {L E : Type 0} (names : Naming L) (looks : Look L) (s : L)
    (paths : List (List ℕ)) (status : Result ℕ E) (t : L) : Type 0 where
  pub one : (path : List ℕ) → paths ≡ path ∷ [] →
      (outcome : Outcome) × looks s path outcome t × IfOk status (λ n. n ≡ status_of outcome)
  pub each : length paths ≢ 1 → IfOk status (λ n. (outcomes : List Outcome)
      × LooksAtEach (LooksNamed names looks) s paths outcomes t × (n ≡ status_of_each outcomes))
  pub stopped : length paths ≢ 1 → OnErr status ((earlier : List Outcome) × (last : Outcome)
      × IsTold last × StopsAt (LooksNamed names looks) s paths earlier last t)

-- all of the files of an order are, in this way
pub record LooksAll {D E : Type 0} (does : Doing D) (s : D) (way : Looking)
    (paths : List (List ℕ)) (status : Result ℕ E) (t : D) : Type 0 where
  pub last : Looker D
  pub is : last.doer ≡ t
  pub looked : LooksOver (names_in does.names) (looks_in does.looks)
      (record { doer = s; looking = way }) paths status last

-- one part is done, and the exit status is what came of it
pub record Does {D E : Type 0} (part : Outcome → D → Type 0) (status : Result ℕ E) (t : D)
    : Type 0 where
  pub outcome : Outcome
  pub done : part outcome t
  pub told : IfOk status (λ n. n ≡ status_of outcome)

abbrev pub making : Bor (List ℕ) → Bor (List ℕ) → Bool → Bool → Making
making input output no_clobber progress = record {
  input = input;
  output = output;
  no_clobber = no_clobber;
  progress = progress;
}

-- the first file is compared with a list, if the order names one; else all files are looked at
abbrev pub ChecksBy : {D E : Type 0} → Doing D → D → Checking → Option (Bor (List ℕ)) →
    Option (Bor (List ℕ)) → List (Bor (List ℕ)) → Result ℕ E → D → Type 0
ChecksBy does s how None first inputs status t =
    LooksAll does s (looking.Check how) (paths_of inputs) status t
ChecksBy does s how (Some list) None inputs status t =
    LooksAll does s (looking.Check how) (paths_of inputs) status t
ChecksBy does s how (Some list) (Some input) inputs status t =
    Does (does.compares s (record {
      input = input;
      list = list;
      told = how.told;
      progress = how.progress;
      notes_as_faults = how.notes_as_faults;
    })) status t

abbrev pub ChecksAll : {D E : Type 0} → Doing D → D → Checking → Option (Bor (List ℕ)) →
    List (Bor (List ℕ)) → Result ℕ E → D → Type 0
ChecksAll does s how against inputs status t =
    ChecksBy does s how against (slice_get inputs 0) inputs status t

-- what check prints of a file: lines of its frames, one line, or an object of JSON on a line
abbrev pub telling_of : Bool → Bool → Telling
telling_of quiet true = telling.Object
telling_of true false = telling.Line
telling_of false false = telling.Frames

abbrev pub checking : Bool → Bool → Telling → Bool → FrameRange → Bool → Checking
checking all place told progress range notes_as_faults = record {
  all = all;
  place = place;
  told = told;
  progress = progress;
  range = range;
  notes_as_faults = notes_as_faults;
}

abbrev pub unpacking : FrameRange → Bool → Bool → Unpacking
unpacking range all notes_as_faults = record {
  range = range;
  all = all;
  notes_as_faults = notes_as_faults;
}

abbrev pub hashing : FrameRange → Bool → Hashing
hashing range notes_as_faults = record { range = range; notes_as_faults = notes_as_faults }

abbrev pub informing : Bool → Bool → Informing
informing count json = record { count = count; json = json }

-- whether it is by lines of its frames
abbrev pub is_of_frames : Telling → Bool
is_of_frames telling.Frames = true
is_of_frames telling.Line = false
is_of_frames telling.Object = false

-- whether a line of the path of each of several files is printed
abbrev pub names_files : Looking → Bool
names_files (looking.Check checking) = is_of_frames checking.told
names_files (looking.Info how) = not how.json
names_files way = true

-- whether an order looks at each of its files in one way
abbrev pub looks_at_files : Order → Bool
looks_at_files (order.Show inputs cost) = true
looks_at_files (order.Info inputs count json) = true
looks_at_files (order.FrameMd5 inputs range noted) = true
looks_at_files (order.Trial input) = true
looks_at_files o = false

-- what an order asks for is done
abbrev pub DoesOrder : {D E : Type 0} → Doing D → D → Order → Result ℕ E → D → Type 0
DoesOrder does s (order.Pack input output choice container no_clobber progress) status t =
    Does (does.packs s (making input output no_clobber progress) container choice) status t
DoesOrder does s (order.Unpack input output no_clobber progress range all noted) status t =
    Does (does.unpacks s (making input output no_clobber progress) (unpacking range all noted))
    status t
DoesOrder does s (order.Check inputs all place quiet json progress against range noted) status t =
    ChecksAll does s (checking all place (telling_of quiet json) progress range noted) against
    inputs.now status t
DoesOrder does s (order.Show inputs cost) status t =
    LooksAll does s (looking.Show cost) (paths_of inputs.now) status t
DoesOrder does s (order.Info inputs count json) status t =
    LooksAll does s (looking.Info (informing count json)) (paths_of inputs.now) status t
DoesOrder does s (order.FrameMd5 inputs range noted) status t =
    LooksAll does s (looking.FrameMd5 (hashing range noted)) (paths_of inputs.now) status t
DoesOrder does s (order.Trial input) status t =
    LooksAll does s looking.Trial (input.now ∷ []) status t

-- the exit status of a line that is refused: 0 if it asks for help or for the version, else 2
pub record IsLineStatus (of : ErrorKind) (status : ℕ) : Type 0 where
  pub asked : (of ≡ kind.DisplayHelp) ⊎ (of ≡ kind.DisplayVersion) → status ≡ 0
  pub refused : of ≢ kind.DisplayHelp → of ≢ kind.DisplayVersion → status ≡ 2

-- what the words of a command line ask for is done: they ask what is known of a fault, or they are
-- refused, and no part of an order is done; or they say this order
abbrev pub DoesLine : {D E : Type 0} → Doing D → D → List (List ℕ) → Result ℕ E → D → Type 0
DoesLine does s words status t =
    ((topic : Topic) × AsksTopic words topic × (t ≡ s))
    ⊎ ((e : Error) × OnLine (λ line. IsRefused line words e)
    × IfOk status (IsLineStatus (kind_of e)) × (t ≡ s))
    ⊎ ((asked : Order) × OnLine (λ line. IsOrder line words asked)
    × DoesOrder does s asked status t)
