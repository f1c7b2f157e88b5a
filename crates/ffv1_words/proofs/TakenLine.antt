-- A line that clap takes names an order.
use Rattle.std.proofs.Common.{◌≡◌, ◌∙◌, ◌⊎◌, inl, inr, subst, ℕ, refl, sym, ap, map, List, [], ◌∷◌, Bool, true, false, Option, Some, None, option_map, true≢false, codes}
use Rattle.std.specs.Prelude.{find}
use Rattle.std.specs.List.{slice_index_or}
use Rattle.std.specs.Str.{bytes_eq}
use Rattle.std.specs.Borrow.{Bor}
use Rattle.std.proofs.lemmas.Slice.Eq.{bytes_eq-Decides}
use Rattle.clap.proofs.OnLiterals.{clap_on_literals}
use Rattle.clap.specs.Walk.{Rule, Text, answers_to, first_of, nothing_held, rows_after}
use Rattle.clap.specs.Simple.{Shape, built, filled, label_of, new_rule, subcommand_of, with_index}
use Rattle.clap.specs.Takes.{level_passes, takes}
use Rattle.ffv1_words.specs.CommandLine.{AreOptionWords, count_rule, line_app, number_rule}
use Rattle.ffv1_words.specs.declared.command_line.OptionWords.{OptionWords}
use Rattle.ffv1_words.specs.Order.{Names, NamesChoice, NamesColour, NamesRange, is_given, names_no_grid, names_rate}
use Rattle.ffv1_words.specs.declared.order.Choice.{Choice}
use Rattle.ffv1_words.specs.declared.order.ColourChoice.{ColourChoice}
use Rattle.ffv1_words.specs.declared.order.FrameRange.{FrameRange}
use Rattle.ffv1_words.specs.declared.order.Order.{Order}
use Rattle.ffv1_words.specs.declared.order.Order.TheVariants as order
use Rattle.ffv1_words.proofs.TakenNames.{bit_named, codec_id_named, coder_named, container_named, contexts_named, flag_named, number_named, range_named, siting_named}
use Rattle.ffv1_words.proofs.TakenOrder.{taken_level}
use Rattle.ffv1_words.proofs.TakenRows.{HasValue, IsIn, either}
use Rattle.ffv1_words.proofs.UsualArguments.{are_usual, is_expected, optional_left, value_left}

-- one of a list of commands
abbrev IsOneOf : Shape → List Shape → Type 0
IsOneOf s [] = ⊥
IsOneOf s (x ∷ xs) = (x ≡ s) ⊎ IsOneOf s xs

found_in : (p : Shape → Bool) (xs : List Shape) (s : Shape) → find p xs ≡ Some s → IsOneOf s xs × (p s ≡ true)
found_in p [] s e = cc
found_in p (x ∷ xs) s e = go (p x) refl (found_in p xs s)
  where
    go : (t : Bool) → p x ≡ t → (find p xs ≡ Some s → IsOneOf s xs × (p s ≡ true)) → IsOneOf s (x ∷ xs) × (p s ≡ true)
    go true t more =
        let some : Some x ≡ Some s = rw t at e in
        let is : x ≡ s = cc in
        (inl is, subst (λ y. p y ≡ true) is t)
    go false t more = let rest = more (rw t at e) in (inr rest.0, rest.1)

-- a text as a path, wherever it lies
abbrev path : Text → Bor Text
path t = record { ref_ptr = (0, 0); now = t }

abbrev paths : List Text → Bor (List (Bor Text))
paths ts = record { ref_ptr = (0, 0); now = map path ts }

texts_of : (ts : List Text) → ts ≡ map (λ (p : Bor Text). p.now) (map path ts)
texts_of [] = refl
texts_of (t ∷ ts) = ap (λ z. t ∷ z) (texts_of ts)

text_of : (o : Option Text) → option_map (λ (p : Bor Text). p.now) (option_map path o) ≡ o
text_of None = refl
text_of (Some t) = refl

-- what passes as this command names an order
abbrev NamesOrder : Shape → Type 0
NamesOrder s = (rest : List Text) → level_passes s [] nothing_held rest false ≡ true → (o : Order) × Names o (Some (s.name, rows_after s.rules [] rest))

-- which frames a command's line names
frames_named : (s : Shape) (rest : List Text) → are_usual s.rules ≡ true → s.subcommand_negates_reqs ≡ false → IsIn (with_index 1 (filled (number_rule (codes "from") 0 4294967295 (codes "0")))) s.rules → IsIn (with_index 1 (filled (count_rule (codes "frames") 1 4294967295))) s.rules
    → level_passes s [] nothing_held rest false ≡ true → (r : FrameRange) × NamesRange (rows_after s.rules [] rest) r
unfolding clap_on_literals
frames_named s rest usual negates from_in frames_in e =
    let rows = rows_after s.rules [] rest in
    let from = value_left s rest (with_index 1 (filled (number_rule (codes "from") 0 4294967295 (codes "0")))) usual negates from_in refl e in
    let first = number_named rows (codes "from") 0 4294967295 from.text from.reads from.passes in
    elim (optional_left s rest (with_index 1 (filled (count_rule (codes "frames") 1 4294967295))) usual frames_in e) [
      | inl none ↦ (record { first = first.0; count = None }, record { first = first.1; count = none })
      | inr some ↦
          let count = number_named rows (codes "frames") 1 4294967295 some.text some.reads some.passes in
          (record { first = first.0; count = Some count.0 }, record { first = first.1; count = count.1 })
    ]

abbrev rule_at : Shape → ℕ → Rule
rule_at s k = slice_index_or s.rules k (new_rule [])

module _ (lists : OptionWords) (are : AreOptionWords lists) where
  abbrev command : ℕ → Shape
  command k = slice_index_or (built (line_app lists)).subs k (line_app lists).top

  -- ---- pack

  abbrev pack : Shape
  pack = command 0

  -- each argument of `pack` that is expected has a value, as in `value_left`
  pack_left : (rest : List Text) (a : Rule) → IsIn a pack.rules → is_expected a ≡ true → level_passes pack [] nothing_held rest false ≡ true → HasValue a.id a (rows_after pack.rules [] rest)
  unfolding clap_on_literals
  pack_left rest a here wanted e = value_left pack rest a refl refl here wanted e

  pack_colour : (rest : List Text) → level_passes pack [] nothing_held rest false ≡ true → (c : ColourChoice) × NamesColour (rows_after pack.rules [] rest) c
  unfolding clap_on_literals
  pack_colour rest e =
      let rows = rows_after pack.rules [] rest in
      let range = pack_left rest (rule_at pack 11) (inr (inr (inr (inr (inr (inr (inr (inr (inr (inr (inr (inl refl)))))))))))) refl e in
      let siting = pack_left rest (rule_at pack 12) (inr (inr (inr (inr (inr (inr (inr (inr (inr (inr (inr (inr (inl refl))))))))))))) refl e in
      let primaries = pack_left rest (rule_at pack 13) (inr (inr (inr (inr (inr (inr (inr (inr (inr (inr (inr (inr (inr (inl refl)))))))))))))) refl e in
      let transfer = pack_left rest (rule_at pack 14) (inr (inr (inr (inr (inr (inr (inr (inr (inr (inr (inr (inr (inr (inr (inl refl))))))))))))))) refl e in
      let matrix = pack_left rest (rule_at pack 15) (inr (inr (inr (inr (inr (inr (inr (inr (inr (inr (inr (inr (inr (inr (inr (inl refl)))))))))))))))) refl e in
      let range_is = range_named rows (codes "range") lists.ranges range.text are.ranges range.is range.passes in
      let siting_is = siting_named rows (codes "siting") lists.sitings siting.text are.sitings siting.is siting.passes in
      let primaries_is = number_named rows (codes "primaries") 0 255 primaries.text primaries.reads primaries.passes in
      let transfer_is = number_named rows (codes "transfer") 0 255 transfer.text transfer.reads transfer.passes in
      let matrix_is = number_named rows (codes "matrix") 0 255 matrix.text matrix.reads matrix.passes in (
        record { range = range_is.0; siting = siting_is.0; primaries = primaries_is.0; transfer = transfer_is.0; matrix = matrix_is.0 },
        record { range = range_is.1; siting = siting_is.1; primaries = primaries_is.1; transfer = transfer_is.1; matrix = matrix_is.1 },
      )

  pack_choice : (rest : List Text) → level_passes pack [] nothing_held rest false ≡ true → (c : Choice) × NamesChoice (rows_after pack.rules [] rest) c
  unfolding clap_on_literals
  pack_choice rest e =
      let rows = rows_after pack.rules [] rest in
      let coder = pack_left rest (rule_at pack 2) (inr (inr (inl refl))) refl e in
      let words = pack_left rest (rule_at pack 3) (inr (inr (inr (inl refl)))) refl e in
      let columns = pack_left rest (rule_at pack 4) (inr (inr (inr (inr (inl refl))))) refl e in
      let high = pack_left rest (rule_at pack 5) (inr (inr (inr (inr (inr (inl refl)))))) refl e in
      let ec = pack_left rest (rule_at pack 6) (inr (inr (inr (inr (inr (inr (inl refl))))))) refl e in
      let rate = pack_left rest (rule_at pack 7) (inr (inr (inr (inr (inr (inr (inr (inl refl)))))))) refl e in
      let scale = pack_left rest (rule_at pack 8) (inr (inr (inr (inr (inr (inr (inr (inr (inl refl))))))))) refl e in
      let called = pack_left rest (rule_at pack 10) (inr (inr (inr (inr (inr (inr (inr (inr (inr (inr (inl refl))))))))))) refl e in
      let compared = pack_left rest (rule_at pack 16) (inr (inr (inr (inr (inr (inr (inr (inr (inr (inr (inr (inr (inr (inr (inr (inr (inl refl))))))))))))))))) refl e in
      let colour = pack_colour rest e in
      let codec_id = codec_id_named rows (codes "codec-id") lists.codec_ids called.text are.codec_ids called.is called.passes in
      let verify = flag_named rows (codes "verify") compared.text compared.is compared.passes in
      let coder_is = number_named rows (codes "coder") 1 2 coder.text coder.reads coder.passes in
      let coder_of = coder_named rows (codes "coder") coder_is.0 coder_is.1 in
      let large = contexts_named rows (codes "contexts") lists.contexts words.text are.contexts words.is words.passes in
      let columns_is = number_named rows (codes "columns") 1 32 columns.text columns.reads columns.passes in
      let rows_is = number_named rows (codes "rows") 1 32 high.text high.reads high.passes in
      let ec_is = number_named rows (codes "ec") 0 1 ec.text ec.reads ec.passes in
      let ec_of = bit_named rows (codes "ec") ec_is.0 ec_is.1 in
      let rate_is = number_named rows (codes "rate") 1 4294967295 rate.text rate.reads rate.passes in
      let scale_is = number_named rows (codes "scale") 1 4294967295 scale.text scale.reads scale.passes in (
        record {
          coder = coder_of.0;
          large = large.0;
          columns = columns_is.0;
          rows = rows_is.0;
          default_grid = names_no_grid rows;
          ec = ec_of.0;
          rate = rate_is.0;
          scale = scale_is.0;
          verify = verify.0;
          codec_id = codec_id.0;
          codec_id_given = is_given rows (codes "codec-id");
          rate_given = names_rate rows;
          colour = colour.0;
        },
        record {
          coder = coder_of.1;
          contexts = large.1;
          columns = columns_is.1;
          slice_rows = rows_is.1;
          default_grid = refl;
          ec = ec_of.1;
          rate = rate_is.1;
          scale = scale_is.1;
          verify = verify.1;
          codec_id = codec_id.1;
          codec_id_given = refl;
          rate_given = refl;
          colour = colour.1;
        },
      )

  pack_named : NamesOrder pack
  unfolding clap_on_literals
  pack_named rest e =
      let input = pack_left rest (rule_at pack 0) (inl refl) refl e in
      let output = pack_left rest (rule_at pack 1) (inr (inl refl)) refl e in
      let choice = pack_choice rest e in
      let holder = pack_left rest (rule_at pack 9) (inr (inr (inr (inr (inr (inr (inr (inr (inr (inl refl)))))))))) refl e in
      let container = container_named (rows_after pack.rules [] rest) (codes "container") lists.containers holder.text are.containers holder.is holder.passes in
      let kept = pack_left rest (rule_at pack 17) (inr (inr (inr (inr (inr (inr (inr (inr (inr (inr (inr (inr (inr (inr (inr (inr (inr (inl refl)))))))))))))))))) refl e in
      let no_clobber = flag_named (rows_after pack.rules [] rest) (codes "no-clobber") kept.text kept.is kept.passes in
      let told = pack_left rest (rule_at pack 18) (inr (inr (inr (inr (inr (inr (inr (inr (inr (inr (inr (inr (inr (inr (inr (inr (inr (inr (inl refl))))))))))))))))))) refl e in
      let progress = flag_named (rows_after pack.rules [] rest) (codes "progress") told.text told.is told.passes in (
        order.Pack (path input.text) (path output.text) choice.0 container.0 no_clobber.0 progress.0,
        (refl, input.is, output.is, choice.1, container.1, no_clobber.1, progress.1),
      )

  -- ---- the others

  abbrev unpack : Shape
  unpack = command 1

  unpack_named : NamesOrder unpack
  unfolding clap_on_literals
  unpack_named rest e =
      let input = value_left unpack rest (rule_at unpack 0) refl refl (inl refl) refl e in
      let output = value_left unpack rest (rule_at unpack 1) refl refl (inr (inl refl)) refl e in
      let on = value_left unpack rest (rule_at unpack 2) refl refl (inr (inr (inl refl))) refl e in
      let all = flag_named (rows_after unpack.rules [] rest) (codes "all") on.text on.is on.passes in
      let range = frames_named unpack rest refl refl (inr (inr (inr (inl refl)))) (inr (inr (inr (inr (inl refl))))) e in
      let kept = value_left unpack rest (rule_at unpack 5) refl refl (inr (inr (inr (inr (inr (inl refl)))))) refl e in
      let no_clobber = flag_named (rows_after unpack.rules [] rest) (codes "no-clobber") kept.text kept.is kept.passes in
      let told = value_left unpack rest (rule_at unpack 6) refl refl (inr (inr (inr (inr (inr (inr (inl refl))))))) refl e in
      let progress = flag_named (rows_after unpack.rules [] rest) (codes "progress") told.text told.is told.passes in
      let noting = value_left unpack rest (rule_at unpack 7) refl refl (inr (inr (inr (inr (inr (inr (inr (inl refl)))))))) refl e in
      let noted = flag_named (rows_after unpack.rules [] rest) (codes "notes-as-faults") noting.text noting.is noting.passes in (
        order.Unpack (path input.text) (path output.text) no_clobber.0 progress.0 range.0 all.0 noted.0,
        (refl, input.is, output.is, no_clobber.1, progress.1, range.1, all.1, noted.1),
      )

  abbrev check : Shape
  check = command 2

  check_named : NamesOrder check
  unfolding clap_on_literals
  check_named rest e =
      let input = value_left check rest (rule_at check 0) refl refl (inl refl) refl e in
      let on = value_left check rest (rule_at check 1) refl refl (inr (inl refl)) refl e in
      let all = flag_named (rows_after check.rules [] rest) (codes "all") on.text on.is on.passes in
      let place = value_left check rest (rule_at check 2) refl refl (inr (inr (inl refl))) refl e in
      let flag = flag_named (rows_after check.rules [] rest) (codes "place") place.text place.is place.passes in
      let short = value_left check rest (rule_at check 3) refl refl (inr (inr (inr (inl refl)))) refl e in
      let quiet = flag_named (rows_after check.rules [] rest) (codes "quiet") short.text short.is short.passes in
      let object = value_left check rest (rule_at check 4) refl refl (inr (inr (inr (inr (inl refl))))) refl e in
      let json = flag_named (rows_after check.rules [] rest) (codes "json") object.text object.is object.passes in
      let range = frames_named check rest refl refl (inr (inr (inr (inr (inr (inr (inl refl))))))) (inr (inr (inr (inr (inr (inr (inr (inl refl)))))))) e in
      let told = value_left check rest (rule_at check 8) refl refl (inr (inr (inr (inr (inr (inr (inr (inr (inl refl))))))))) refl e in
      let progress = flag_named (rows_after check.rules [] rest) (codes "progress") told.text told.is told.passes in
      let noting = value_left check rest (rule_at check 9) refl refl (inr (inr (inr (inr (inr (inr (inr (inr (inr (inl refl)))))))))) refl e in
      let noted = flag_named (rows_after check.rules [] rest) (codes "notes-as-faults") noting.text noting.is noting.passes in
      let list = first_of (codes "against") (rows_after check.rules [] rest) in (
        order.Check (paths input.texts) all.0 flag.0 quiet.0 json.0 progress.0 (option_map path list) range.0 noted.0,
        (refl, input.all ∙ ap Some (texts_of input.texts), all.1, flag.1, quiet.1, json.1, progress.1, text_of list, range.1, noted.1),
      )

  abbrev show : Shape
  show = command 3

  show_named : NamesOrder show
  unfolding clap_on_literals
  show_named rest e =
      let input = value_left show rest (rule_at show 0) refl refl (inl refl) refl e in
      let cost = value_left show rest (rule_at show 1) refl refl (inr (inl refl)) refl e in
      let flag = flag_named (rows_after show.rules [] rest) (codes "cost") cost.text cost.is cost.passes in
      (order.Show (paths input.texts) flag.0, (refl, input.all ∙ ap Some (texts_of input.texts), flag.1))

  abbrev info : Shape
  info = command 4

  info_named : NamesOrder info
  unfolding clap_on_literals
  info_named rest e =
      let input = value_left info rest (rule_at info 0) refl refl (inl refl) refl e in
      let on = value_left info rest (rule_at info 1) refl refl (inr (inl refl)) refl e in
      let count = flag_named (rows_after info.rules [] rest) (codes "count") on.text on.is on.passes in
      let object = value_left info rest (rule_at info 2) refl refl (inr (inr (inl refl))) refl e in
      let json = flag_named (rows_after info.rules [] rest) (codes "json") object.text object.is object.passes in
      (order.Info (paths input.texts) count.0 json.0, (refl, input.all ∙ ap Some (texts_of input.texts), count.1, json.1))

  abbrev framemd5 : Shape
  framemd5 = command 5

  framemd5_named : NamesOrder framemd5
  unfolding clap_on_literals
  framemd5_named rest e =
      let input = value_left framemd5 rest (rule_at framemd5 0) refl refl (inl refl) refl e in
      let range = frames_named framemd5 rest refl refl (inr (inl refl)) (inr (inr (inl refl))) e in
      let noting = value_left framemd5 rest (rule_at framemd5 3) refl refl (inr (inr (inr (inl refl)))) refl e in
      let noted = flag_named (rows_after framemd5.rules [] rest) (codes "notes-as-faults") noting.text noting.is noting.passes in
      (order.FrameMd5 (paths input.texts) range.0 noted.0, (refl, input.all ∙ ap Some (texts_of input.texts), range.1, noted.1))

  abbrev trial : Shape
  trial = command 6

  trial_named : NamesOrder trial
  unfolding clap_on_literals
  trial_named rest e =
      let input = value_left trial rest (rule_at trial 0) refl refl (inl refl) refl e in
      (order.Trial (path input.text), (refl, input.is))

  -- ---- the line

  abbrev help : Shape
  help = command 7

  help_asked : (word : Text) → answers_to word (label_of help) ≡ true → bytes_eq word (codes "help") ≡ true
  unfolding clap_on_literals
  help_asked word e = elim (either (bytes_eq (codes "help") word) false e) [
    | inl is ↦ (bytes_eq-Decides word (codes "help")).1 (sym ((bytes_eq-Decides (codes "help") word).0 is))
    | inr none ↦ absurd (true≢false (sym none))
  ]

  named : (s : Shape) (word : Text) → IsOneOf s (built (line_app lists)).subs → answers_to word (label_of s) ≡ true → bytes_eq word (codes "help") ≡ false → NamesOrder s
  named s word (inl is) met no_help = subst NamesOrder is pack_named
  named s word (inr (inl is)) met no_help = subst NamesOrder is unpack_named
  named s word (inr (inr (inl is))) met no_help = subst NamesOrder is check_named
  named s word (inr (inr (inr (inl is)))) met no_help = subst NamesOrder is show_named
  named s word (inr (inr (inr (inr (inl is))))) met no_help = subst NamesOrder is info_named
  named s word (inr (inr (inr (inr (inr (inl is)))))) met no_help = subst NamesOrder is framemd5_named
  named s word (inr (inr (inr (inr (inr (inr (inl is))))))) met no_help = subst NamesOrder is trial_named
  named s word (inr (inr (inr (inr (inr (inr (inr (inl is)))))))) met no_help =
      absurd (true≢false (sym (help_asked word (subst (λ (x : Shape). answers_to word (label_of x) ≡ true) (sym is) met)) ∙ no_help))
  named s word (inr (inr (inr (inr (inr (inr (inr (inr none)))))))) met no_help = absurd none

  -- a line that clap takes names an order
  pub taken_names : (words : List Text) → takes (line_app lists) words ≡ true → (o : Order) × Names o (subcommand_of (line_app lists) words)
  unfolding clap_on_literals
  taken_names words e =
      let level = taken_level (line_app lists) words refl refl e in
      let met = found_in (λ s. answers_to level.word (label_of s)) (built (line_app lists)).subs level.shape level.found in
      let got = named level.shape level.word met.0 met.1 level.no_help level.rest level.passes in
      (got.0, subst (Names got.0) (sym level.is) got.1)
