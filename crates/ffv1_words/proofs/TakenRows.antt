-- What a level of a parse that passes leaves of an argument: a value, and each passes.
use Rattle.std.proofs.Common.{◌≡◌, ◌∙◌, ◌<◌, ◌+◌, ◌&&◌, ◌||◌, ◌⊎◌, not, inl, inr, is_some, subst, ℕ, zero, suc, refl, sym, ap, arith, List, [], ◌∷◌, ◌++◌, Bool, true, false, length, nat_le, drop, Option, Some, None, true≢false, if◌then◌else◌, fold}
use Rattle.std.specs.Prelude.{encode_utf8, slice_get, find}
use Rattle.std.specs.Option.{option_map_or, option_map}
use Rattle.std.specs.List.{list_all, list_any}
use Rattle.std.specs.Str.{bytes_eq, chars}
use Rattle.std.proofs.lemmas.List.Folds.{list_all-append}
use Rattle.std.proofs.lemmas.List.{length-append}
use Rattle.std.proofs.lemmas.Bool.{eqb-true, leb-true}
use Rattle.std.proofs.lemmas.Slice.Eq.{bytes_eq-Decides}
use Rattle.clap.specs.Values.{is_request, read_as}
use Rattle.clap.specs.Facts.{explicit_source, unwrap_or_range}
use Rattle.clap.specs.Walk.{Held, Names, Outcome, Row, Rule, Step, Text, Waiting, Walk, action_of, after_flag, after_step, arg_by_id, arg_by_index, arg_by_long, arg_by_short, at_row, attached_value, bundle, bundle_met, bundle_step, default_rows, finished, flag_met, has_row, first_of, is_empty, is_pending, all_of, long_met, long_or_other, more_values, most_values, nothing_held, option_met, option_word, plain_word, positional_held, reacted, reading_by, rows_after, settled, settled_rows, short_met, short_or_plain, subcommand_met, subcommand_or_other, takes_several, takes_values, to_positional, used, used_by_id, values_or_missing, walk, walk_from, walked, walked_from, with_default, with_values, without, word_met, one_of}
use Rattle.clap.specs.Walk.Outcome.{done, waits, plain, refused}
use Rattle.clap.specs.Walk.Step.{next, trailing, subcommand, value}
use Rattle.clap.specs.Walk.Waiting.{idle, option, positional}
use Rattle.clap.specs.Lexer.{long_of, short_of}
use Rattle.clap.specs.declared.builder.action.ArgAction.TheVariants.{Set, SetTrue, Help, Append}
use Rattle.clap.specs.declared.parser.matches.ValueSource.{ValueSource}
use Rattle.clap.specs.declared.parser.matches.ValueSource.TheVariants.{DefaultValue, CommandLine}
use Rattle.clap.specs.declared.builder.value_parser.Reading.{Reading}
use Rattle.clap.specs.Simple.{Shape}
use Rattle.clap.specs.Takes.{action_passes, bundle_passes, bundle_step_passes, default_passes, flag_word_passes, is_given, value_passes, flags_pass, is_valid, level_passes, long_passes, option_passes, other_passes, positional_passes, react_passes, set_passes, settle_passes, short_passes, step_passes, turn_passes, use_passes, values_pass, walk_passes, word_passes}

-- ---- tests

pub both : (a b : Bool) → (a && b) ≡ true → (a ≡ true) × (b ≡ true)
both true b e = (refl, e)
both false b e = absurd (true≢false (sym e))

pub either : (a b : Bool) → (a || b) ≡ true → (a ≡ true) ⊎ (b ≡ true)
either true b e = inl refl
either false b e = inr e

-- each of a list of arguments
abbrev pub Each : (Rule → Type 0) → List Rule → Type 0
Each P [] = Unit {0}
Each P (b ∷ bs) = P b × Each P bs

-- the argument is one of them
abbrev pub IsIn : Rule → List Rule → Type 0
IsIn a [] = ⊥
IsIn a (b ∷ bs) = (b ≡ a) ⊎ IsIn a bs

-- what is found of them
found_each : (P : Rule → Type 0) (p : Rule → Bool) (c : List Rule) (a : Rule) → Each P c → find p c ≡ Some a → P a
found_each P p [] a h e = cc
found_each P p (x ∷ xs) a h e = go (p x) refl (found_each P p xs a h.1)
  where
    go : (t : Bool) → p x ≡ t → (find p xs ≡ Some a → P a) → P a
    go true t more = let is : Some x ≡ Some a = rw t at e in subst P (cc) h.0
    go false t more = more (rw t at e)

-- ---- one argument, a, whose id is id

module _ (id : Text) (a : Rule) where
  -- a row of the argument has a value, each passes, and they are read as its parser says
  abbrev pub Fine : Row → Type 0
  Fine r = bytes_eq r.id id ≡ true → (0 < length r.values) × (values_pass a r.values ≡ true) × (r.reading ≡ reading_by a)

  abbrev pub AllFine : List Row → Type 0
  AllFine [] = Unit {0}
  AllFine (r ∷ rs) = Fine r × AllFine rs

  -- another argument has another id; a use of it that passes gives a value, or it asks for help
  pub record Usual (b : Rule) : Type 0 where
    pub own : bytes_eq b.id id ≡ true → b ≡ a
    pub kind : ((action_of b ≡ Set) × (0 < (unwrap_or_range b.range).start_inclusive))
        ⊎ ((action_of b ≡ SetTrue) × (0 < length b.missing)) ⊎ (action_of b ≡ Help)
        ⊎ ((action_of b ≡ Append) × (0 < (unwrap_or_range b.range).start_inclusive))

  all_more : (xs ys : List Row) → AllFine xs → AllFine ys → AllFine (xs ++ ys)
  all_more [] ys h k = k
  all_more (x ∷ xs) ys h k = (h.0, all_more xs ys h.1 k)

  at_row_fine : (name : Text) (change : Row → List Row) (missing rows : List Row) → ((r : Row) → bytes_eq r.id name ≡ true → Fine r → AllFine (change r))
      → AllFine missing → AllFine rows → AllFine (at_row name change missing rows)
  at_row_fine name change missing [] keeps new h = new
  at_row_fine name change missing (r ∷ rs) keeps new h = go (bytes_eq r.id name) refl (at_row_fine name change missing rs keeps new h.1)
    where
      go : (t : Bool) → bytes_eq r.id name ≡ t → AllFine (at_row name change missing rs) → AllFine (if t then change r ++ rs else r ∷ at_row name change missing rs)
      go true t more = all_more (change r) rs (keeps r t h.0) h.1
      go false t more = (h.0, more)

  without_fine : (name : Text) (rows : List Row) → AllFine rows → AllFine (without name rows)
  without_fine name rows h = at_row_fine name (λ _. []) [] rows (λ r e f. tt) tt h

  -- values of an argument and how they are read: where it is this one there are some, and they pass
  abbrev AreValues : Text → Reading → List Text → Type 0
  AreValues name how vs = bytes_eq name id ≡ true → (0 < length vs) × (values_pass a vs ≡ true) × (how ≡ reading_by a)

  values_fine : (name : Text) (how : Reading) (s : ValueSource) (vs : List Text) (rows : List Row) → AreValues name how vs → AllFine rows → AllFine (with_values name how s vs rows)
  values_fine name how s vs rows are h = at_row_fine name (more_values s vs) _ rows keeps (are, tt) h
    where
      keeps : (r : Row) → bytes_eq r.id name ≡ true → Fine r → AllFine (more_values s vs r)
      keeps r e f = (
        λ same.
            let name_is : r.id ≡ name = (bytes_eq-Decides r.id name).0 e in
            let old = f same in
            let new = are (subst (λ t. bytes_eq t id ≡ true) name_is same) in (
              (let len : length (r.values ++ vs) ≡ length r.values + length vs = length-append r.values vs in let some : 0 < length r.values = old.0 in omega arith),
              list_all-append _ r.values vs ∙ rw (old.1, new.1) refl,
              old.2,
            ),
        tt,
      )

  own_values : (b : Rule) (vs : List Text) → Usual b → 0 < length vs → values_pass b vs ≡ true → AreValues b.id (reading_by b) vs
  own_values b vs u some e = λ same. (some, subst (λ x. values_pass x vs ≡ true) (u.own same) e, ap reading_by (u.own same))

  set_fine : (again : Bool) (b : Rule) (vs : List Text) (rows : List Row) → Usual b → 0 < length vs → set_passes again b vs rows ≡ true
      → AllFine rows → AllFine (with_values b.id (reading_by b) CommandLine vs (without b.id rows))
  set_fine again b vs rows u some e h =
      values_fine b.id (reading_by b) CommandLine vs (without b.id rows) (own_values b vs u some (both _ _ e).1) (without_fine b.id rows h)

  given : (b : Rule) (vs : List Text) → 0 < length vs → values_or_missing b vs ≡ vs
  given b [] some = absurd (omega arith)
  given b (v ∷ vs) some = refl

  missing_some : (b : Rule) (vs : List Text) → 0 < length b.missing → 0 < length (values_or_missing b vs)
  missing_some b [] some = some
  missing_some b (v ∷ vs) some = omega arith

  enough : (n k : ℕ) → 0 < n → nat_le n k ≡ true → 0 < k
  enough n k some e = let least = leb-true n k e in omega arith

  -- a use that passes keeps the rows
  pub used_fine : (again : Bool) (b : Rule) (vs : List Text) (rows : List Row) → Usual b → use_passes again b vs rows ≡ true → AllFine rows → AllFine (used b vs rows)
  used_fine again b vs rows u e h =
      let parts = both (nat_le (unwrap_or_range b.range).start_inclusive (length vs))
      (nat_le (length vs) (most_values b) && action_passes (action_of b) again b (values_or_missing b vs) rows) e in
      let least = parts.0 in
      let action = (both (nat_le (length vs) (most_values b)) (action_passes (action_of b) again b (values_or_missing b vs) rows) parts.1).1 in
      elim u.kind [
        | inl k ↦
            let some = enough _ _ k.1 least in
            let here = rw k.0 at action in
            rw k.0 (set_fine again b (values_or_missing b vs) rows u (rw (given b vs some) some) here h)
        | inr (inl k) ↦
            let here = rw k.0 at action in
            rw k.0 (set_fine again b (values_or_missing b vs) rows u (missing_some b vs k.1) here h)
        | inr (inr (inl k)) ↦ rw k h
        | inr (inr (inr k)) ↦
            let some = enough _ _ k.1 least in
            let here = rw k.0 at action in
            rw k.0 (values_fine b.id (reading_by b) CommandLine (values_or_missing b vs) rows (own_values b (values_or_missing b vs) u (rw (given b vs some) some) here) h)
      ]

  -- ---- the walk

  module _ (c : List Rule) (again : Bool) (usual : Each Usual c) where
    found : (p : Rule → Bool) (b : Rule) → find p c ≡ Some b → Usual b
    found p b e = found_each Usual p c b usual e

    settled_by : (o : Option Rule) (vs : List Text) (rows : List Row) → ((b : Rule) → o ≡ Some b → Usual b)
        → option_map_or (λ b. use_passes again b vs rows) o true ≡ true → AllFine rows → AllFine (used_by_id o vs rows)
    settled_by None vs rows u e h = h
    settled_by (Some b) vs rows u e h = used_fine again b vs rows (u b refl) e h

    settled_rows_fine : (p : Option (Text × List Text)) (rows : List Row)
        → option_map_or (λ (q : Text × List Text). option_map_or (λ b. use_passes again b q.1 rows) (arg_by_id c q.0) true) p true ≡ true
        → AllFine rows → AllFine (settled_rows c p rows)
    settled_rows_fine None rows e h = h
    settled_rows_fine (Some q) rows e h = settled_by (arg_by_id c q.0) q.1 rows (λ b is. found _ b is) e h

    settled_fine : (h : Held) → settle_passes c again h ≡ true → AllFine h.rows → AllFine (settled c h).rows
    settled_fine h e f = settled_rows_fine h.pending h.rows e f

    reacted_fine : (b : Rule) (vs : List Text) (h : Held) → Usual b → react_passes c again b vs h ≡ true → AllFine h.rows → AllFine (reacted c b vs h).rows
    reacted_fine b vs h u e f =
        let parts = both _ _ e in
        used_fine again b vs (settled c h).rows u parts.1 (settled_fine h parts.0 f)

    option_fine : (b : Rule) (v : Option Text) (h : Held) → Usual b → option_passes c again b v h ≡ true → AllFine h.rows → AllFine (option_met c b v h).0.rows
    option_fine b (Some v) h u e f = reacted_fine b (v ∷ []) h u e f
    option_fine b None h u e f = settled_fine h e f

    flag_fine : (b : Rule) (v : Option Text) (h : Held) → Usual b → (not (is_some v) && react_passes c again b [] h) ≡ true → AllFine h.rows → AllFine (flag_met c b v h).0.rows
    flag_fine b (Some v) h u e f = f
    flag_fine b None h u e f = reacted_fine b [] h u e f

    long_fine : (o : Option Rule) (v : Option Text) (h : Held) → ((b : Rule) → o ≡ Some b → Usual b) → long_passes c again o v h ≡ true → AllFine h.rows → AllFine (long_met c o v h).0.rows
    long_fine None v h u e f = f
    long_fine (Some b) v h u e f = go (takes_values b) refl
      where
        go : (t : Bool) → takes_values b ≡ t → AllFine (if t then option_met c b v h else flag_met c b v h).0.rows
        go true t = option_fine b v h (u b refl) (rw t at e) f
        go false t = flag_fine b v h (u b refl) (rw t at e) f

    short_fine : (o : Option Rule) (rest : Text) (h : Held) (after : Held → Held × Outcome) (passes : Held → Bool) → ((b : Rule) → o ≡ Some b → Usual b)
        → ((g : Held) → passes g ≡ true → AllFine g.rows → AllFine (after g).0.rows)
        → short_passes c again o rest h passes ≡ true → AllFine h.rows → AllFine (short_met c o rest h after).0.rows
    short_fine None rest h after passes u keeps e f = f
    short_fine (Some b) rest h after passes u keeps e f = go (takes_values b) refl
      where
        go : (t : Bool) → takes_values b ≡ t → AllFine (if t then option_met c b (attached_value rest) h else after (reacted c b [] h)).0.rows
        go true t = option_fine b (attached_value rest) h (u b refl) (rw t at e) f
        go false t =
            let parts = both (react_passes c again b [] h) _ (rw t at e) in
            keeps (reacted c b [] h) parts.1 (reacted_fine b [] h (u b refl) parts.0 f)

    bundle_fine : (k : ℕ) (flags : Text) (skip : ℕ) (so_far : Outcome) (h : Held) → flags_pass c again k flags skip h ≡ true → AllFine h.rows → AllFine (bundle_met c k flags skip so_far h).0.rows
    unfolding flags_pass bundle_met
    bundle_fine zero flags skip so_far h e f = f
    bundle_fine (suc k) flags skip so_far h e f = step (slice_get (chars flags) 0) skip (bundle_fine k) e
      where
        step : (o : Option ℕ) (n : ℕ)
            → ((rest : Text) (m : ℕ) (before : Outcome) (g : Held) → flags_pass c again k rest m g ≡ true → AllFine g.rows → AllFine (bundle_met c k rest m before g).0.rows)
            → bundle_step_passes c again o flags n h (flags_pass c again k) ≡ true
            → AllFine (bundle_step c o flags n so_far h (bundle_met c k)).0.rows
        step None n more e = f
        step (Some x) zero more e =
            let rest = drop (length (encode_utf8 x)) flags in
            short_fine (arg_by_short c x) rest h (bundle_met c k rest 0 done) (flags_pass c again k rest 0) (λ b is. found _ b is)
            (λ g p fine. more rest 0 done g p fine) e f
        step (Some x) (suc n) more e = more (drop (length (encode_utf8 x)) flags) n so_far h e f

    option_word_fine : (o : Option Rule) (name word : Text) (h : Held) → AllFine h.rows → AllFine (option_word o name word h).0.rows
    option_word_fine None name word h f = f
    option_word_fine (Some b) name word h f = f

    plain_fine : (w : Waiting) (word : Text) (h : Held) → AllFine h.rows → AllFine (plain_word c w word h).0.rows
    plain_fine (option name) word h f = option_word_fine (arg_by_id c name) name word h f
    plain_fine idle word h f = f
    plain_fine positional word h f = f

    after_fine : (w : Waiting) (word : Text) (h : Held) (o : Outcome) → AllFine h.rows → AllFine (after_flag c w word h o).0.rows
    after_fine w word h done f = f
    after_fine w word h (waits name) f = f
    after_fine w word h plain f = plain_fine w word h f
    after_fine w word h refused f = plain_fine w word h f

    short_word_fine : (o : Option Text) (w : Waiting) (word : Text) (h : Held) → option_map_or (λ flags. bundle_passes c again flags h) o true ≡ true
        → AllFine h.rows → AllFine (short_or_plain c w word o h).0.rows
    short_word_fine None w word h e f = plain_fine w word h f
    short_word_fine (Some flags) w word h e f =
        after_fine w word (bundle c flags h).0 (bundle c flags h).1 (bundle_fine (length flags) flags h.skip plain (record h { skip = 0 }) e f)

    other_fine : (o : Option (Text × Option Text)) (w : Waiting) (word : Text) (h : Held) → flag_word_passes c again o word h ≡ true
        → AllFine h.rows → AllFine (long_or_other c w word o h).0.rows
    other_fine None w word h e f = short_word_fine (short_of word) w word h e f
    other_fine (Some p) w word h e f =
        after_fine w word (long_met c (arg_by_long c p.0) p.1 h).0 (long_met c (arg_by_long c p.0) p.1 h).1
        (long_fine (arg_by_long c p.0) p.1 h (λ b is. found _ b is) e f)

  module _ (s : Shape) (names : Names) (usual : Each Usual s.rules) where
    flags_fine : (w : Waiting) (position : ℕ) (word : Text) (h : Held) (t : Bool) → (t || flag_word_passes s.rules s.args_override_self (long_of word) word h) ≡ true
        → AllFine h.rows → AllFine (if t then (h, trailing position) else long_or_other s.rules w word (long_of word) h).0.rows
    flags_fine w position word h true e f = f
    flags_fine w position word h false e f = other_fine s.rules s.args_override_self usual (long_of word) w word h e f

    named_fine : (o : Option Text) (w : Waiting) (position : ℕ) (word : Text) (h : Held) → other_passes s o word h ≡ true
        → AllFine h.rows → AllFine (subcommand_or_other s.rules o w position word h).0.rows
    named_fine (Some name) w position word h e f = f
    named_fine None w position word h e f = flags_fine w position word h (bytes_eq word (45 ∷ 45 ∷ [])) e f

    word_fine : (t : Bool) (w : Waiting) (position : ℕ) (word : Text) (h : Held) → word_passes s names t w word h ≡ true
        → AllFine h.rows → AllFine (word_met s.rules names t w position word h).0.rows
    word_fine true w position word h e f = f
    word_fine false w position word h e f = named_fine (subcommand_met names w word) w position word h e f

    held_fine : (b : Rule) (word : Text) (h : Held) → positional_passes s.rules s.args_override_self b h ≡ true → AllFine h.rows
        → AllFine (positional_held s.rules b word h).rows
    held_fine b word h e f = go (is_pending b h.pending && takes_several b) e
      where
        go : (t : Bool) → (t || settle_passes s.rules s.args_override_self h) ≡ true → AllFine (if t then h else settled s.rules h).rows
        go true e = f
        go false e = settled_fine s.rules s.args_override_self usual h e f

    positional_fine : (o : Option Rule) (word : Text) (w : Walk) (h : Held) → option_map_or (λ b. positional_passes s.rules s.args_override_self b h) o false ≡ true
        → AllFine h.rows → AllFine (to_positional s.rules o word w h).held.rows
    positional_fine None word w h e f = f
    positional_fine (Some b) word w h e f = held_fine b word h e f

    step_fine : (word : Text) (w : Walk) (h : Held) (step : Step) → step_passes s w.position h step ≡ true → AllFine h.rows
        → AllFine (after_step s.rules word w h step).held.rows
    step_fine word w h (next waiting) e f = f
    step_fine word w h (trailing position) e f = f
    step_fine word w h (subcommand name) e f = f
    step_fine word w h value e f = positional_fine (arg_by_index s.rules w.position) word w h e f

    turn_fine : (o : Option (Text × List Text)) (w : Walk) (word : Text)
        → (is_some o || (word_passes s names w.is_trailing w.waiting word w.held
        && step_passes s w.position (word_met s.rules names w.is_trailing w.waiting w.position word w.held).0
        (word_met s.rules names w.is_trailing w.waiting w.position word w.held).1)) ≡ true
        → AllFine w.held.rows → AllFine (walked_from s.rules names o w word).held.rows
    turn_fine (Some p) w word e f = f
    turn_fine None w word e f =
        let met = word_met s.rules names w.is_trailing w.waiting w.position word w.held in
        let parts = both (word_passes s names w.is_trailing w.waiting word w.held) (step_passes s w.position met.0 met.1) e in
        step_fine word w met.0 met.1 parts.1 (word_fine w.is_trailing w.waiting w.position word w.held parts.0 f)

    pub walk_fine : (w : Walk) (words : List Text) → walk_passes s names w words ≡ true → AllFine w.held.rows → AllFine (fold (walked s.rules names) w words).held.rows
    unfolding walk_passes walked
    walk_fine w [] e f = f
    walk_fine w (word ∷ rest) e f =
        let parts = both (turn_passes s names w word) (walk_passes s names (walked s.rules names w word) rest) e in
        walk_fine (walked s.rules names w word) rest parts.1 (turn_fine w.stopped w word parts.0 f)

  -- ---- defaults

  default_values : (b : Rule) (v : Text) (vs : List Text) → v ∷ vs ≡ b.defaults → default_passes b ≡ true → values_pass b (v ∷ vs) ≡ true
  default_values b v vs is e =
      let here : (is_empty (v ∷ vs) || (not (is_request (action_of b)) && values_pass b (v ∷ vs))) ≡ true =
      ap (λ (ds : List Text). is_empty ds || (not (is_request (action_of b)) && values_pass b ds)) is ∙ e in
      elim (either (is_empty (v ∷ vs)) (not (is_request (action_of b)) && values_pass b (v ∷ vs)) here) [
        | inl none ↦ let bad = eqb-true (length (v ∷ vs)) 0 none in absurd (omega arith)
        | inr k ↦ (both (not (is_request (action_of b))) (values_pass b (v ∷ vs)) k).1
      ]

  default_fine : (b : Rule) (rows : List Row) → Usual b → default_passes b ≡ true → AllFine rows → AllFine (with_default rows b)
  default_fine b rows u e f = go (has_row b.id rows)
    where
      made : (vs : List Text) → vs ≡ b.defaults → AllFine (default_rows b.id (reading_by b) vs rows)
      made [] is = f
      made (v ∷ vs) is = values_fine b.id (reading_by b) DefaultValue (v ∷ vs) rows (own_values b (v ∷ vs) u (omega arith) (default_values b v vs is e)) f

      go : (t : Bool) → AllFine (if t then rows else default_rows b.id (reading_by b) b.defaults rows)
      go true = f
      go false = made b.defaults refl

  defaults_fine : (xs : List Rule) (rows : List Row) → Each Usual xs → list_all default_passes xs ≡ true → AllFine rows → AllFine (fold with_default rows xs)
  defaults_fine [] rows u e f = f
  defaults_fine (x ∷ xs) rows u e f =
      let parts = both (default_passes x) (list_all default_passes xs) e in
      defaults_fine xs (with_default rows x) u.1 parts.1 (default_fine x rows u.0 parts.0 f)

  -- ---- the value of the argument

  -- there is a row of the argument
  abbrev pub HasRow : List Row → Type 0
  HasRow rows = has_row id rows ≡ true

  -- its first value, as it was written and as it is read, which passes
  pub record HasValue (rows : List Row) : Type 0 where
    pub text : Text
    pub is : first_of id rows ≡ Some text
    pub reads : one_of id rows ≡ Some (read_as (reading_by a) text)
    pub passes : value_passes a text ≡ true
    pub texts : List Text
    pub all : all_of id rows ≡ Some texts

  first_value : (vs : List Text) → 0 < length vs → values_pass a vs ≡ true → (v : Text) × (slice_get vs 0 ≡ Some v) × (value_passes a v ≡ true)
  first_value [] some e = absurd (omega arith)
  first_value (v ∷ vs) some e = (v, refl, (both (value_passes a v) (values_pass a vs) e).0)

  pub has_value : (rows : List Row) → AllFine rows → HasRow rows → HasValue rows
  has_value [] f e = absurd (true≢false (sym e))
  has_value (r ∷ rs) f e = go (bytes_eq r.id id) refl (has_value rs f.1)
    where
      go : (t : Bool) → bytes_eq r.id id ≡ t → (HasRow rs → HasValue rs) → HasValue (r ∷ rs)
      go true t more =
          let fine = f.0 t in
          let v = first_value r.values fine.0 fine.1 in
          record {
            text = v.0;
            is = rw t v.1;
            reads = rw t (ap (option_map (read_as r.reading)) v.1 ∙ ap (λ how. Some (read_as how v.0)) fine.2);
            passes = v.2;
            texts = r.values;
            all = rw t refl;
          }
      go false t more =
          let rest = more (rw t at e) in
          record { text = rest.text; is = rw t rest.is; reads = rw t rest.reads; passes = rest.passes; texts = rest.texts; all = rw t rest.all }

  given_row : (rows : List Row) → is_given id rows ≡ true → HasRow rows
  given_row [] e = absurd (true≢false (sym e))
  given_row (r ∷ rs) e = go (bytes_eq r.id id) refl (given_row rs)
    where
      go : (t : Bool) → bytes_eq r.id id ≡ t → (is_given id rs ≡ true → HasRow rs) → HasRow (r ∷ rs)
      go true t more = rw t refl
      go false t more = rw t (more (rw t at e))

  -- a row stays where another is changed
  kept_row : (name : Text) (how : Reading) (s : ValueSource) (vs : List Text) (rows : List Row) → HasRow rows → HasRow (with_values name how s vs rows)
  kept_row name how s vs [] e = absurd (true≢false (sym e))
  kept_row name how s vs (r ∷ rs) e = go (bytes_eq r.id name) (kept_row name how s vs rs)
    where
      rest : (t : Bool) → (t || has_row id rs) ≡ true → (HasRow rs → HasRow (with_values name how s vs rs)) → (t || has_row id (with_values name how s vs rs)) ≡ true
      rest true e more = refl
      rest false e more = more e

      go : (t : Bool) → (HasRow rs → HasRow (with_values name how s vs rs)) → HasRow (if t then more_values s vs r ++ rs else r ∷ with_values name how s vs rs)
      go true more = e
      go false more = rest (bytes_eq r.id id) e more

  same_text : bytes_eq id id ≡ true
  same_text = (bytes_eq-Decides id id).1 refl

  made_row : (how : Reading) (s : ValueSource) (vs : List Text) (rows : List Row) → HasRow (with_values id how s vs rows)
  made_row how s vs [] = rw same_text refl
  made_row how s vs (r ∷ rs) = go (bytes_eq r.id id) refl (made_row how s vs rs)
    where
      go : (t : Bool) → bytes_eq r.id id ≡ t → HasRow (with_values id how s vs rs) → HasRow (if t then more_values s vs r ++ rs else r ∷ with_values id how s vs rs)
      go true t more = rw t refl
      go false t more = rw t more

  default_kept : (b : Rule) (rows : List Row) → HasRow rows → HasRow (with_default rows b)
  default_kept b rows e = go (has_row b.id rows)
    where
      kept : (vs : List Text) → HasRow (default_rows b.id (reading_by b) vs rows)
      kept [] = e
      kept (v ∷ vs) = kept_row b.id (reading_by b) DefaultValue (v ∷ vs) rows e

      go : (t : Bool) → HasRow (if t then rows else default_rows b.id (reading_by b) b.defaults rows)
      go true = e
      go false = kept b.defaults

  defaults_kept : (xs : List Rule) (rows : List Row) → HasRow rows → HasRow (fold with_default rows xs)
  defaults_kept [] rows e = e
  defaults_kept (x ∷ xs) rows e = defaults_kept xs (with_default rows x) (default_kept x rows e)

  default_made : (b : Rule) (rows : List Row) → b.id ≡ id → 0 < length b.defaults → HasRow (with_default rows b)
  default_made b rows own some = go (has_row b.id rows) refl
    where
      made : (vs : List Text) → 0 < length vs → HasRow (default_rows b.id (reading_by b) vs rows)
      made [] some = absurd (omega arith)
      made (v ∷ vs) some = subst (λ name. HasRow (with_values name (reading_by b) DefaultValue (v ∷ vs) rows)) (sym own) (made_row (reading_by b) DefaultValue (v ∷ vs) rows)

      go : (t : Bool) → has_row b.id rows ≡ t → HasRow (if t then rows else default_rows b.id (reading_by b) b.defaults rows)
      go true t = subst (λ name. has_row name rows ≡ true) own t
      go false t = made b.defaults some

  defaults_made : (xs : List Rule) (rows : List Row) → a.id ≡ id → IsIn a xs → 0 < length a.defaults → HasRow (fold with_default rows xs)
  defaults_made [] rows own here some = absurd here
  defaults_made (x ∷ xs) rows own (inl is) some = defaults_kept xs (with_default rows x) (default_made x rows (ap (λ (b : Rule). b.id) is ∙ own) (subst (λ (b : Rule). 0 < length b.defaults) (sym is) some))
  defaults_made (x ∷ xs) rows own (inr here) some = defaults_made xs (with_default rows x) own here some

  required_given : (xs : List Rule) (rows : List Row) → a.id ≡ id → IsIn a xs → a.required ≡ true → list_all (λ b. not b.required || is_given b.id rows) xs ≡ true → HasRow rows
  required_given [] rows own here needs e = absurd here
  required_given (x ∷ xs) rows own (inl is) needs e =
      let e2 : (not a.required || is_given a.id rows) ≡ true = subst (λ (b : Rule). (not b.required || is_given b.id rows) ≡ true) is (both (not x.required || is_given x.id rows) (list_all (λ b. not b.required || is_given b.id rows) xs) e).0 in
      given_row rows (subst (λ name. is_given name rows ≡ true) own (rw needs at e2))
  required_given (x ∷ xs) rows own (inr here) needs e =
      required_given xs rows own here needs (both (not x.required || is_given x.id rows) (list_all (λ b. not b.required || is_given b.id rows) xs) e).1

  -- the argument is required, or has a default
  abbrev pub IsExpected : Type 0
  IsExpected = (a.required ≡ true) ⊎ (0 < length a.defaults)

  -- the rules that a level's end asks for
  required_passes : (s : Shape) (rows : List Row) (has : Bool) → s.subcommand_negates_reqs ≡ false → is_valid s rows has ≡ true
      → list_all (λ b. not b.required || is_given b.id rows) s.rules ≡ true
  required_passes s rows has negates e =
      let each = list_all (λ b. not b.required || is_given b.id rows) s.rules in
      let free = list_all (λ b. b.is_free) s.rules in
      let last : Bool = (s.subcommand_negates_reqs && has) || each in
      let first = both (not s.arg_required_else_help || (has || list_any (λ r. explicit_source r.source) rows)) ((not s.subcommand_required || has) && (free && last)) e in
      let second = both (not s.subcommand_required || has) (free && last) first.1 in
      let third = (both free last second.1).1 in
      rw negates at third

  -- a level that passes leaves rows that are fine
  level_fine : (s : Shape) (names : Names) (words : List Text) (has : Bool) → Each Usual s.rules → level_passes s names nothing_held words has ≡ true → AllFine (rows_after s.rules names words)
  level_fine s names words has usual e =
      let end = (walk s.rules names nothing_held words).held in
      let rows = finished s.rules end in
      let first = both (walk_passes s names (walk_from nothing_held) words) (settle_passes s.rules s.args_override_self end && (list_all default_passes s.rules && is_valid s rows has)) e in
      let second = both (settle_passes s.rules s.args_override_self end) (list_all default_passes s.rules && is_valid s rows has) first.1 in
      let third = both (list_all default_passes s.rules) (is_valid s rows has) second.1 in
      let walked_fine = walk_fine s names usual (walk_from nothing_held) words first.0 tt in
      let settled_well = settled_fine s.rules s.args_override_self usual end second.0 walked_fine in
      defaults_fine s.rules (settled s.rules end).rows usual third.0 settled_well

  -- the argument a value
  pub level_value : (s : Shape) (names : Names) (words : List Text) (has : Bool) → Each Usual s.rules → a.id ≡ id → IsIn a s.rules → IsExpected → s.subcommand_negates_reqs ≡ false
      → level_passes s names nothing_held words has ≡ true → HasValue (rows_after s.rules names words)
  level_value s names words has usual own here expected negates e =
      let end = (walk s.rules names nothing_held words).held in
      let rows = finished s.rules end in
      let first = both (walk_passes s names (walk_from nothing_held) words) (settle_passes s.rules s.args_override_self end && (list_all default_passes s.rules && is_valid s rows has)) e in
      let second = both (settle_passes s.rules s.args_override_self end) (list_all default_passes s.rules && is_valid s rows has) first.1 in
      let third = both (list_all default_passes s.rules) (is_valid s rows has) second.1 in
      has_value rows (level_fine s names words has usual e) (elim expected [
        | inl needs ↦ required_given s.rules rows own here needs (required_passes s rows has negates third.1)
        | inr some ↦ defaults_made s.rules (settled s.rules end).rows own here some
      ])

  no_row : (rows : List Row) → has_row id rows ≡ false → first_of id rows ≡ None
  no_row [] e = refl
  no_row (r ∷ rs) e = go (bytes_eq r.id id) refl (no_row rs)
    where
      go : (t : Bool) → bytes_eq r.id id ≡ t → (has_row id rs ≡ false → first_of id rs ≡ None) → first_of id (r ∷ rs) ≡ None
      go true t more = absurd (true≢false (rw t at e))
      go false t more = rw t (more (rw t at e))

  -- or, if it is not expected, maybe none
  pub level_optional : (s : Shape) (names : Names) (words : List Text) (has : Bool) → Each Usual s.rules → level_passes s names nothing_held words has ≡ true
      → (first_of id (rows_after s.rules names words) ≡ None) ⊎ HasValue (rows_after s.rules names words)
  level_optional s names words has usual e = go (has_row id (rows_after s.rules names words)) refl
    where
      go : (t : Bool) → has_row id (rows_after s.rules names words) ≡ t → (first_of id (rows_after s.rules names words) ≡ None) ⊎ HasValue (rows_after s.rules names words)
      go true t = inr (has_value (rows_after s.rules names words) (level_fine s names words has usual e) t)
      go false t = inl (no_row (rows_after s.rules names words) t)
