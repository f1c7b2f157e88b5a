use Rattle.std.proofs.Common.{◌≡◌, ◌∙◌, inl, inr, sym, refl, arith, Option, Some, None}
use Rattle.clap.proofs.WalkLemmas.{one_text-rows}
use Rattle.clap.specs.Words.{Text, found_of, one_text}
use Rattle.ffv1_words.proofs.matched.number.Goals as goal

-- what is not nothing is something
told : (o : Option Text) → (o ≡ None → ⊥) → (t : Text) × (o ≡ Some t)
told None some = absurd (some refl)
told (Some t) some = (t, refl)

pub returns-in_err-n-clause-none : goal.returns-in_err-n-clause-none
returns-in_err-n-clause-none c = λ _ n named.
    let text = one_text-rows (found_of c.args.rows.now) c.args.id.now in
    let got = c.in_err-n.ensures.value named.0 (text ∙ named.1) in
    let wide = c.ranges.high.fits in
    let is = named.3 in
    let high = named.5 in
    got.1.0 (named.2, omega arith)

pub returns-then-n-high-clause-some : goal.returns-then-n-high-clause-some
returns-then-n-high-clause-some c =
    let text = told (one_text (found_of c.args.rows.now) c.args.id.now)
    (λ none. let bad : ◌≡◌ {A = Option _} (Some c.in_ok-n.n) None = c.in_ok-n.ensures.none
    none in cc) in
    let got = c.in_ok-n.ensures.value text.0 text.1 in (
      text.0,
      sym (one_text-rows (found_of c.args.rows.now) c.args.id.now) ∙ text.1,
      got.0.0.0,
      sym got.0.1,
      c.if-low-n.true,
      c.if-n-high.true,
    )

pub returns-else-low-n-clause-none : goal.returns-else-low-n-clause-none
returns-else-low-n-clause-none c = λ _ n named.
    let text = one_text-rows (found_of c.args.rows.now) c.args.id.now in
    let got = c.in_ok-n.ensures.value named.0 (text ∙ named.1) in
    let same = got.0.1 in
    let is = named.3 in
    let low = named.4 in
    let high = named.5 in
    elim c.else-low-n.either [
      | inl past ↦ let far = past.1 in omega arith
      | inr before ↦ omega arith
    ]
