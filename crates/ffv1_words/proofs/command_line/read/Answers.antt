-- `words`, by a line whose options take these words.
use Rattle.std.proofs.Common.{◌≡◌, ◌∙◌, ◌⊎◌, inl, inr, sym, ap, ap₂, subst, map, List, []}
use Rattle.std.proofs.Common.{option_map, Option, Some, None, refl, true, false}
use Rattle.std.proofs.lemmas.Result.{IfErr-weaker, IfOk-weaker, err_from_is_err_and}
use Rattle.clap.specs.Words.{HasKind, Row, Text, is_simple, is_simple_and_free, fault_of, kind_of}
use Rattle.clap.specs.Words.{takes, subcommand_of, rows_of, found_of}
use Rattle.clap.proofs.OnLiterals.{clap_on_literals}
use Rattle.ffv1_words.specs.CommandLine.{line_app}
use Rattle.ffv1_words.specs.declared.command_line.OptionWords.{OptionWords}
use Rattle.clap.specs.declared.error.Error.{Error}
use Rattle.clap.specs.declared.error.kind.ErrorKind.TheVariants as kind
use Rattle.ffv1_words.specs.Order.{IsOrder, IsRefused, IsRefusedIfTaken, Names, NamesNone}
use Rattle.ffv1_words.specs.Order.{is_in_conflict}
use Rattle.ffv1_words.specs.declared.order.Order.{Order}
use Rattle.ffv1_words.proofs.TakenLine.{taken_names}
use Rattle.ffv1_words.proofs.command_line.read.Goals as goal
use Rattle.ffv1_words.proofs.command_line.read.Goals.{in-Some+in_ok-inputs+in_default-order_of}
use Rattle.ffv1_words.proofs.command_line.read.Goals.{in_default}

simple : (lists : OptionWords) → is_simple (line_app lists) ≡ true
unfolding clap_on_literals
simple lists = refl

free : (lists : OptionWords) → is_simple_and_free (line_app lists) ≡ true
unfolding clap_on_literals
free lists = refl

-- a subcommand's name and its rows, which are answered one by one
both_told : {X : Type 0} (s : Option X) (f : X → Text × List Row) (t : Text) (rs : List Row) → Some
    t ≡ option_map (λ x. (f x).0) s → Some rs ≡ option_map (λ p. p.1) (option_map f s) → option_map
    f s ≡ Some (t, rs)
both_told None f t rs h k = absurd (cc)
both_told (Some x) f t rs h k =
    let a : t ≡ (f x).0 = cc in
    let b : rs ≡ (f x).1 = cc in
    ap Some (sym (ap₂ (λ y ys. (y, ys)) a b))

none_told : {X Y : Type 0} (f : X → Y) (o : Option X) → None ≡ option_map f o → o ≡ None
none_told f None e = refl
none_told f (Some x) e = absurd (cc)

pub returns-in_err-matches-clause-err : goal.returns-in_err-matches-clause-err
returns-in_err-matches-clause-err c =
    let p = err_from_is_err_and c.from_residual-in_err-matches.result
    c.from_residual-in_err-matches.ensures.1 in
    let texts : List Text = map (λ w. w.now) c.args.words.now in
    let app = c.in_ok-line_command.ensures.0 in
    rw (p.1, p.2) (inl (subst (λ a. HasKind (fault_of a texts) c.in_err-matches.field-0.0) app
    (c.in_err-matches.ensures.kinds (ap is_simple_and_free app ∙ free c.args.lists))))

pub returns-in_err-matches-clause-taken : goal.returns-in_err-matches-clause-taken
returns-in_err-matches-clause-taken c =
    let p = err_from_is_err_and c.from_residual-in_err-matches.result
    c.from_residual-in_err-matches.ensures.1 in
    let texts : List Text = map (λ w. w.now) c.args.words.now in
    rw (p.1, p.2) (λ taken. inl (c.in_err-matches.ensures.passes
    (ap (λ a. takes a texts) c.in_ok-line_command.ensures.0 ∙ taken)))

-- the order that was found is what the line names
named : (c : goal.Joined-matches-2) → Names c.in-Some-order_of.order
    (subcommand_of (line_app c.args.lists) (map (λ w. w.now) c.args.words.now))
named c =
    let app = c.in_ok-line_command.ensures.0 in
    let m = c.in_ok-matches.ensures.matches (ap is_simple app ∙ simple c.args.lists) in
    let texts : List Text = map (λ w. w.now) c.args.words.now in
    let told = both_told _ _ _ _ c.in-Some.ensures.name c.in-Some.ensures.rows in
    let line : ◌≡◌ {A = Option (Text × List Row)}
    (Some (c.in-Some.name.now, rows_of (found_of c.in-Some.rows.now)))
    (subcommand_of (line_app c.args.lists) texts) =
    sym told ∙ m.1 ∙ ap (λ a. subcommand_of a texts) app in
    subst (Names c.in-Some-order_of.order) line c.in-Some-order_of.ensures.some

pub returns-in-Some-order_of-clause-ok : goal.returns-in-Some-order_of-clause-ok
returns-in-Some-order_of-clause-ok c =
    let texts : List Text = map (λ w. w.now) c.args.words.now in
    IfOk-weaker c.without_conflict.result (λ o. (o ≡ c.in-Some-order_of.order) ×
    (is_in_conflict o ≡ false)) (IsOrder (line_app c.args.lists) texts)
    (λ o told. (
      subst (λ x. Names x (subcommand_of (line_app c.args.lists)
          texts)) (sym told.0) (named c),
      told.1,
    ))
    c.without_conflict.ensures.ok

-- clap refuses no such line
no_fault : (c : goal.Joined-matches-2) → fault_of (line_app c.args.lists)
    (map (λ w. w.now) c.args.words.now) ≡ []
no_fault c =
    let app = c.in_ok-line_command.ensures.0 in
    sym (ap (λ a. fault_of a (map (λ w. w.now) c.args.words.now)) app) ∙
    c.in_ok-matches.ensures.kinds (ap is_simple_and_free app ∙ free c.args.lists)

-- why it was refused
abbrev Refusal : Order → Error → Type 0
Refusal o e = (kind_of e ≡ kind.OutOfMemory) ⊎
    ((kind_of e ≡ kind.ArgumentConflict) × (is_in_conflict o ≡ true))

pub returns-in-Some-order_of-clause-err : goal.returns-in-Some-order_of-clause-err
returns-in-Some-order_of-clause-err c =
    let texts : List Text = map (λ w. w.now) c.args.words.now in
    IfErr-weaker c.without_conflict.result (Refusal c.in-Some-order_of.order)
    (IsRefused (line_app c.args.lists) texts)
    (λ e why. elim why [
      | inl memory ↦ inl (inl memory)
      | inr conflict ↦ inr (
        no_fault c,
        inr (
          conflict.0,
          c.in-Some-order_of.order,
          named c,
          conflict.1,
        ),
      )
    ])
    c.without_conflict.ensures.err

pub returns-in-Some-order_of-clause-taken : goal.returns-in-Some-order_of-clause-taken
returns-in-Some-order_of-clause-taken c =
    let texts : List Text = map (λ w. w.now) c.args.words.now in
    IfErr-weaker c.without_conflict.result (Refusal c.in-Some-order_of.order)
    (IsRefusedIfTaken (line_app c.args.lists) texts)
    (λ e why taken. elim why [
      | inl memory ↦ inl memory
      | inr conflict ↦ inr (conflict.0, c.in-Some-order_of.order, named c, conflict.1)
    ])
    c.without_conflict.ensures.err

-- where no order was found, the line names none
no_order : (c : goal.Joined-matches-4) → NamesNone
    (subcommand_of (line_app c.args.lists) (map (λ w. w.now) c.args.words.now))
no_order c =
    let app = c.in_ok-line_command.ensures.0 in
    let m = c.in_ok-matches.ensures.matches (ap is_simple app ∙ simple c.args.lists) in
    let texts : List Text = map (λ w. w.now) c.args.words.now in
    elim c.match-subcommand.branch [
      | in-Some+in_ok-inputs+in_default-order_of w ↦
          let told = both_told _ _ _ _ w.in-Some.ensures.name w.in-Some.ensures.rows in
          let line : ◌≡◌ {A = Option (Text × List Row)}
          (Some (w.in-Some.name.now, rows_of (found_of w.in-Some.rows.now)))
          (subcommand_of (line_app c.args.lists) texts) =
          sym told ∙ m.1 ∙ ap (λ a. subcommand_of a texts) app in
          subst NamesNone line (w.in_default-order_of.ensures.none refl)
      | in_default w ↦
          let line : ◌≡◌ {A = Option (Text × List Row)} None
          (subcommand_of (line_app c.args.lists) texts) =
          sym (none_told _ _ w.in_default.ensures.rows) ∙ m.1 ∙ ap (λ a. subcommand_of a texts)
          app in
          subst NamesNone line (λ o named. named)
    ]

pub returns-clause-err : goal.returns-clause-err
returns-clause-err c =
    let app = c.in_ok-line_command.ensures.0 in
    let none : fault_of (line_app c.args.lists)
    (map (λ w. w.now) c.args.words.now) ≡ [] =
    sym (ap (λ a. fault_of a (map (λ w. w.now) c.args.words.now)) app) ∙
    c.in_ok-matches.ensures.kinds (ap is_simple_and_free app ∙ free c.args.lists) in
    inr (none, inl (c.in_ok-refusal.ensures, no_order c))

pub returns-clause-taken : goal.returns-clause-taken
returns-clause-taken c = λ taken.
    let texts : List Text = map (λ w. w.now) c.args.words.now in
    let order = taken_names c.args.lists c.requires texts taken in
    absurd (no_order c order.0 order.1)
