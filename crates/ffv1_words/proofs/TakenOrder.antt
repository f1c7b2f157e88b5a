-- Which subcommand a line that passes enters, and what its level leaves.
use Rattle.std.proofs.Common.{◌≡◌, ◌&&◌, ◌||◌, not, is_some, ℕ, refl, sym, List, [], ◌∷◌, Bool, true, false, Option, Some, None, true≢false, if◌then◌else◌, fold, codes}
use Rattle.std.specs.Prelude.{find}
use Rattle.std.specs.List.{list_all, list_any}
use Rattle.std.specs.Str.{bytes_eq}
use Rattle.clap.specs.Facts.{explicit_source}
use Rattle.clap.specs.Walk.{Held, Names, Outcome, Row, Rule, Step, Text, Waiting, Walk, after_flag, after_step, answers_to, arg_by_index, arg_by_long, bundle, finished, long_met, long_or_other, nothing_held, plain_word, rows_after, short_or_plain, subcommand_met, subcommand_or_other, to_positional, walk, walk_from, walked, walked_from, word_met}
use Rattle.clap.specs.Walk.Outcome.{done, waits, plain, refused}
use Rattle.clap.specs.Walk.Step.{next, trailing, subcommand, value}
use Rattle.clap.specs.Walk.Waiting.{idle, option, positional}
use Rattle.clap.specs.Lexer.{long_of, short_of}
use Rattle.clap.specs.Simple.{App, Shape, argument_words, built, entered, is_simple, label_of, names_of, subcommand_of}
use Rattle.clap.specs.Takes.{built_takes, default_passes, entered_passes, is_given, is_valid, level_passes, other_passes, settle_passes, step_passes, takes, turn_passes, walk_passes, word_passes}
use Rattle.ffv1_words.proofs.TakenRows.{both}

-- a step, and a position where a walk stopped, that is no call for help
abbrev IsNoHelp : Step → Type 0
IsNoHelp (subcommand name) = bytes_eq name (codes "help") ≡ false
IsNoHelp _ = Unit {0}

abbrev pub StopsWithoutHelp : Option (Text × List Text) → Type 0
StopsWithoutHelp None = Unit {0}
StopsWithoutHelp (Some p) = bytes_eq p.0 (codes "help") ≡ false

plain_on : (c : List Rule) (w : Waiting) (word : Text) (h : Held) → IsNoHelp (plain_word c w word h).1
plain_on c (option name) word h = tt
plain_on c idle word h = tt
plain_on c positional word h = tt

after_on : (c : List Rule) (w : Waiting) (word : Text) (h : Held) (o : Outcome) → IsNoHelp (after_flag c w word h o).1
after_on c w word h done = tt
after_on c w word h (waits name) = tt
after_on c w word h plain = plain_on c w word h
after_on c w word h refused = plain_on c w word h

short_on : (c : List Rule) (o : Option Text) (w : Waiting) (word : Text) (h : Held) → IsNoHelp (short_or_plain c w word o h).1
short_on c None w word h = plain_on c w word h
short_on c (Some flags) w word h = after_on c w word (bundle c flags h).0 (bundle c flags h).1

other_on : (c : List Rule) (o : Option (Text × Option Text)) (w : Waiting) (word : Text) (h : Held) → IsNoHelp (long_or_other c w word o h).1
other_on c None w word h = short_on c (short_of word) w word h
other_on c (Some p) w word h = after_on c w word (long_met c (arg_by_long c p.0) p.1 h).0 (long_met c (arg_by_long c p.0) p.1 h).1

is_not : (b : Bool) → (not b || false) ≡ true → b ≡ false
is_not true e = absurd (true≢false (sym e))
is_not false e = refl

module _ (s : Shape) (names : Names) (helps : s.disable_help_subcommand ≡ false) where
  named_on : (o : Option Text) (w : Waiting) (position : ℕ) (word : Text) (h : Held) → other_passes s o word h ≡ true → IsNoHelp (subcommand_or_other s.rules o w position word h).1
  named_on (Some name) w position word h e = is_not (bytes_eq name (codes "help")) (rw helps at e)
  named_on None w position word h e = go (bytes_eq word (45 ∷ 45 ∷ []))
    where
      go : (t : Bool) → IsNoHelp (if t then (h, trailing position) else long_or_other s.rules w word (long_of word) h).1
      go true = tt
      go false = other_on s.rules (long_of word) w word h

  word_on : (t : Bool) (w : Waiting) (position : ℕ) (word : Text) (h : Held) → word_passes s names t w word h ≡ true → IsNoHelp (word_met s.rules names t w position word h).1
  word_on true w position word h e = tt
  word_on false w position word h e = named_on (subcommand_met names w word) w position word h e

  positional_stops : (o : Option Rule) (word : Text) (w : Walk) (h : Held) → StopsWithoutHelp w.stopped → StopsWithoutHelp (to_positional s.rules o word w h).stopped
  positional_stops None word w h f = f
  positional_stops (Some b) word w h f = tt

  step_stops : (word : Text) (w : Walk) (h : Held) (step : Step) → IsNoHelp step → StopsWithoutHelp w.stopped → StopsWithoutHelp (after_step s.rules word w h step).stopped
  step_stops word w h (next waiting) e f = f
  step_stops word w h (trailing position) e f = f
  step_stops word w h (subcommand name) e f = e
  step_stops word w h value e f = positional_stops (arg_by_index s.rules w.position) word w h f

  turn_stops : (o : Option (Text × List Text)) (w : Walk) (word : Text) → StopsWithoutHelp o → StopsWithoutHelp w.stopped
      → (is_some o || (word_passes s names w.is_trailing w.waiting word w.held
      && step_passes s w.position (word_met s.rules names w.is_trailing w.waiting w.position word w.held).0
      (word_met s.rules names w.is_trailing w.waiting w.position word w.held).1)) ≡ true
      → StopsWithoutHelp (walked_from s.rules names o w word).stopped
  turn_stops (Some p) w word f g e = f
  turn_stops None w word f g e =
      let met = word_met s.rules names w.is_trailing w.waiting w.position word w.held in
      let parts = both (word_passes s names w.is_trailing w.waiting word w.held) (step_passes s w.position met.0 met.1) e in
      step_stops word w met.0 met.1 (word_on w.is_trailing w.waiting w.position word w.held parts.0) g

  pub walk_stops : (w : Walk) (words : List Text) → StopsWithoutHelp w.stopped → walk_passes s names w words ≡ true → StopsWithoutHelp (fold (walked s.rules names) w words).stopped
  unfolding walk_passes walked
  walk_stops w [] f e = f
  walk_stops w (word ∷ rest) f e =
      let parts = both (turn_passes s names w word) (walk_passes s names (walked s.rules names w word) rest) e in
      walk_stops (walked s.rules names w word) rest (turn_stops w.stopped w word f f parts.0) parts.1

-- a walk that stops at a subcommand which is entered
record Enters (b : App) (stop : Option (Text × List Text)) : Type 0 where
  pub shape : Shape
  pub word : Text
  pub rest : List Text
  pub found : find (λ s. answers_to word (label_of s)) b.subs ≡ Some shape
  pub no_help : bytes_eq word (codes "help") ≡ false
  pub passes : level_passes shape [] nothing_held rest false ≡ true
  pub is : entered b stop ≡ Some (shape.name, rows_after shape.rules [] rest)

enters : (b : App) (stop : Option (Text × List Text)) → StopsWithoutHelp stop → entered_passes b stop ≡ true → is_some (entered b stop) ≡ true → Enters b stop
enters b None on passes some = absurd (true≢false (sym some))
enters b (Some q) on passes some = go (find (λ s. answers_to q.0 (label_of s)) b.subs) refl
  where
    go : (o : Option Shape) → find (λ s. answers_to q.0 (label_of s)) b.subs ≡ o → Enters b (Some q)
    go None is = absurd (true≢false (sym (rw is at some)))
    go (Some shape) is = record {
      shape = shape;
      word = q.0;
      rest = q.1;
      found = is;
      no_help = on;
      passes = rw is at passes;
      is = rw is refl;
    }

entered_required : (s : Shape) (rows : List Row) (has : Bool) → s.subcommand_required ≡ true → is_valid s rows has ≡ true → has ≡ true
entered_required s rows has needs e =
    let more : Bool = list_all (λ b. b.is_free) s.rules && ((s.subcommand_negates_reqs && has) || list_all (λ b. not b.required || is_given b.id rows) s.rules) in
    let first = both (not s.arg_required_else_help || (has || list_any (λ r. explicit_source r.source) rows)) ((not s.subcommand_required || has) && more) e in
    let second = (both (not s.subcommand_required || has) more first.1).0 in
    rw needs at second

-- what a line that passes names: a subcommand, by a word that is no call for help, whose level
-- passes
pub record NamesLevel (a : App) (words : List Text) : Type 0 where
  pub shape : Shape
  pub word : Text
  pub rest : List Text
  pub found : find (λ s. answers_to word (label_of s)) (built a).subs ≡ Some shape
  pub no_help : bytes_eq word (codes "help") ≡ false
  pub passes : level_passes shape [] nothing_held rest false ≡ true
  pub is : subcommand_of a words ≡ Some (shape.name, rows_after shape.rules [] rest)

pub taken_level : (a : App) (words : List Text) → (built a).top.disable_help_subcommand ≡ false → (built a).top.subcommand_required ≡ true
    → takes a words ≡ true → NamesLevel a words
taken_level a words helps needs e =
    let b = built a in
    let args = argument_words a words in
    let stop = (walk b.top.rules (names_of b) nothing_held args).stopped in
    let taken = (both (is_simple a) (built_takes b nothing_held args) e).1 in
    let parts = both (entered_passes b stop) (level_passes b.top (names_of b) nothing_held args (is_some (entered b stop))) taken in
    let end = (walk b.top.rules (names_of b) nothing_held args).held in
    let rows = finished b.top.rules end in
    let has = is_some (entered b stop) in
    let first = both (walk_passes b.top (names_of b) (walk_from nothing_held) args) (settle_passes b.top.rules b.top.args_override_self end && (list_all default_passes b.top.rules && is_valid b.top rows has)) parts.1 in
    let second = both (settle_passes b.top.rules b.top.args_override_self end) (list_all default_passes b.top.rules && is_valid b.top rows has) first.1 in
    let valid = (both (list_all default_passes b.top.rules) (is_valid b.top rows has) second.1).1 in
    let on = walk_stops b.top (names_of b) helps (walk_from nothing_held) args tt first.0 in
    let in_b = enters b stop on parts.0 (entered_required b.top rows has needs valid) in
    record {
      shape = in_b.shape;
      word = in_b.word;
      rest = in_b.rest;
      found = in_b.found;
      no_help = in_b.no_help;
      passes = in_b.passes;
      is = in_b.is;
    }
