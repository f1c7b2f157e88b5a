-- The command line that the program takes, in clap's terms.
use Rattle.std.specs.Prelude.{◌≡◌, ℕ, pos, true, codes, Some, List, [], ◌∷◌, map}
use Rattle.std.specs.Borrow.{Bor}
use Rattle.clap.specs.Words.{App, Rule, Text, new_app, new_rule, with_rule, with_subcommand}
use Rattle.clap.specs.declared.builder.action.ArgAction.TheVariants.{Append, SetTrue}
use Rattle.clap.specs.declared.builder.value_parser.ValueParser.TheVariants as parser
use Rattle.ffv1_words.specs.declared.command_line.OptionWords.{OptionWords}

-- a required positional
abbrev pub file_rule : Text → Rule
file_rule id = record (new_rule id) { required = true }

-- one that takes a file and more
abbrev pub files_rule : Text → Rule
files_rule id = record (file_rule id) { action = Some Append }

-- an option of a number from low to high, and its default
abbrev pub number_rule : Text → ℕ → ℕ → Text → Rule
number_rule name low high text = record (new_rule name) {
  long = Some name;
  parser = Some (parser.Signed (pos low) (pos high));
  defaults = text ∷ [];
}

-- the same without a default
abbrev pub count_rule : Text → ℕ → ℕ → Rule
count_rule name low high = record (new_rule name) {
  long = Some name;
  parser = Some (parser.Signed (pos low) (pos high));
}

-- words as clap holds them: references, of which it reads what they refer to
abbrev pub Words : Type 0
Words = Bor (List (Bor Text))

-- an option of one of these words, and its default
abbrev pub word_rule : Text → Words → Text → Rule
word_rule name words text = record (new_rule name) {
  long = Some name;
  parser = Some (parser.Names words);
  defaults = text ∷ [];
}

-- an option of a path, and no default
abbrev pub path_rule : Text → Rule
path_rule name = record (new_rule name) { long = Some name }

-- a flag
abbrev pub flag_rule : Text → Rule
flag_rule name = record (new_rule name) { long = Some name; action = Some SetTrue }

-- a command of one file
abbrev pub one_file : Text → App
one_file name = with_rule (new_app name) (file_rule (codes "IN"))

-- a command of two files
abbrev pub two_files : Text → App
two_files name = with_rule (one_file name) (file_rule (codes "OUT"))

-- a command of some files
abbrev pub some_files : Text → App
some_files name = with_rule (new_app name) (files_rule (codes "IN"))

-- what is coded: the state transition table and the quantisation set
abbrev pub with_model : Words → App → App
with_model words a = with_rule (with_rule a (number_rule (codes "coder") 1 2 (codes "1")))
    (word_rule (codes "contexts") words (codes "small"))

-- slices and their parity
abbrev pub with_slices : App → App
with_slices a = with_rule (with_rule (with_rule a
    (number_rule (codes "columns") 1 32 (codes "1")))
    (number_rule (codes "rows") 1 32 (codes "1")))
    (number_rule (codes "ec") 0 1 (codes "1"))

-- frames in time
abbrev pub with_pace : App → App
with_pace a = with_rule (with_rule a (number_rule (codes "rate") 1 4294967295 (codes "25")))
    (number_rule (codes "scale") 1 4294967295 (codes "1"))

-- what holds the frames
abbrev pub with_container : Words → App → App
with_container words a = with_rule a (word_rule (codes "container") words (codes "auto"))

-- what Matroska calls the codec
abbrev pub with_codec_id : Words → App → App
with_codec_id words a = with_rule a (word_rule (codes "codec-id") words (codes "native"))

-- each frame is decoded and compared
abbrev pub with_verify : App → App
with_verify a = with_rule a (flag_rule (codes "verify"))

-- the program says how much is read
abbrev pub with_progress : App → App
with_progress a = with_rule a (flag_rule (codes "progress"))

-- a note of a file is a fault
abbrev pub with_notes : App → App
with_notes a = with_rule a (flag_rule (codes "notes-as-faults"))

-- a file that is there is refused as OUT
abbrev pub with_no_clobber : App → App
with_no_clobber a = with_rule a (flag_rule (codes "no-clobber"))

-- some frames of a file
abbrev pub with_range : App → App
with_range a = with_rule (with_rule a (number_rule (codes "from") 0 4294967295 (codes "0")))
    (count_rule (codes "frames") 1 4294967295)

-- what Matroska says of colours
abbrev pub with_colour : OptionWords → App → App
with_colour words a = with_rule (with_rule (with_rule (with_rule (with_rule a
    (word_rule (codes "range") words.ranges (codes "auto")))
    (word_rule (codes "siting") words.sitings (codes "auto")))
    (number_rule (codes "primaries") 0 255 (codes "2")))
    (number_rule (codes "transfer") 0 255 (codes "2")))
    (number_rule (codes "matrix") 0 255 (codes "2"))

abbrev pub pack_app : OptionWords → App
pack_app words =
    with_progress (with_no_clobber (with_verify (with_colour words
    (with_codec_id words.codec_ids (with_container words.containers
    (with_pace (with_slices (with_model words.contexts (two_files (codes "pack"))))))))))

abbrev pub unpack_app : App
unpack_app = with_notes (with_progress (with_no_clobber (with_range
    (with_rule (two_files (codes "unpack")) (flag_rule (codes "all"))))))

abbrev pub check_app : App
check_app = with_notes (with_progress (with_range
    (with_rule (with_rule (with_rule (with_rule (with_rule (some_files (codes "check"))
    (flag_rule (codes "all"))) (flag_rule (codes "place"))) (flag_rule (codes "quiet")))
    (flag_rule (codes "json"))) (path_rule (codes "against")))))

abbrev pub framemd5_app : App
framemd5_app = with_notes (with_range (some_files (codes "framemd5")))

abbrev pub show_app : App
show_app = with_rule (some_files (codes "show")) (flag_rule (codes "cost"))

abbrev pub info_app : App
info_app = with_rule (with_rule (some_files (codes "info")) (flag_rule (codes "count")))
    (flag_rule (codes "json"))

-- the program, which has a version, wants a command, and answers with its help if there are no
-- words
abbrev pub top_app : App
top_app = record (new_app (codes "ffv1")) {
  top = record (new_app (codes "ffv1")).top {
    has_version = true;
    subcommand_required = true;
    arg_required_else_help = true;
  };
}

-- the program with the commands that make a file
abbrev pub files_app : OptionWords → App
files_app words =
    with_subcommand (with_subcommand top_app (pack_app words).top) unpack_app.top

-- and with those that look at some
abbrev pub looks_app : OptionWords → App
looks_app words =
    with_subcommand (with_subcommand (files_app words) check_app.top) show_app.top

-- and with those that tell what some are
abbrev pub tells_app : OptionWords → App
tells_app words =
    with_subcommand (with_subcommand (looks_app words) info_app.top) framemd5_app.top

-- the whole line, by the words that options take
abbrev pub line_app : OptionWords → App
line_app words = with_subcommand (tells_app words) (one_file (codes "trial")).top

-- the words that `--contexts` takes
abbrev pub AreContexts : Words → Type 0
AreContexts words = map (λ w. w.now) words.now ≡ codes "small" ∷ codes "large" ∷ []

-- the words that `--container` takes
abbrev pub AreContainers : Words → Type 0
AreContainers words =
    map (λ w. w.now) words.now ≡ codes "auto" ∷ codes "avi" ∷ codes "mkv" ∷ []

-- the words that `--codec-id` takes
abbrev pub AreCodecIds : Words → Type 0
AreCodecIds words = map (λ w. w.now) words.now ≡ codes "native" ∷ codes "vfw" ∷ []

-- the words that `--range` takes
abbrev pub AreRanges : Words → Type 0
AreRanges words =
    map (λ w. w.now) words.now ≡ codes "auto" ∷ codes "limited" ∷ codes "full" ∷ []

-- the words that `--siting` takes
abbrev pub AreSitings : Words → Type 0
AreSitings words = map (λ w. w.now) words.now
    ≡ codes "auto" ∷ codes "left" ∷ codes "centre" ∷ codes "topleft" ∷ []

-- the words that options take
pub record AreOptionWords (words : OptionWords) : Type 0 where
  pub contexts : AreContexts words.contexts
  pub containers : AreContainers words.containers
  pub codec_ids : AreCodecIds words.codec_ids
  pub ranges : AreRanges words.ranges
  pub sitings : AreSitings words.sitings

-- a fact of the whole line, wherever the words of its options lie
abbrev pub OnLine : (App → Type 0) → Type 0
OnLine P = (words : OptionWords) × AreOptionWords words × P (line_app words)
