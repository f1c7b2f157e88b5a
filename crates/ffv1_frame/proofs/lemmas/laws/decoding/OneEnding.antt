-- A slice that is cut short, or to which bytes are put, codes no slice of its number.
use Rattle.std.proofs.Common.{◌≡◌, refl, ℕ, ◌*◌, ◌<◌, false, List, [], ◌∷◌, ◌++◌, length, ap, sym, subst, ◌∙◌, arith, append-nil, append_assoc, length-append}
use Rattle.ffv1_range.specs.Interval.{interval_of}
use Rattle.ffv1_range.specs.Codes.{Codes}
use Rattle.ffv1_range.specs.Ending.{IsEnded}
use Rattle.ffv1_range.specs.Symbols.{Step}
use Rattle.ffv1_range.specs.History.{decisions_after}
use Rattle.ffv1_record.specs.declared.config.Profile.TheVariants as profile
use Rattle.ffv1_record.specs.Accepted.{Accepted}
use Rattle.ffv1_slice.specs.declared.head.SliceHead.{SliceHead}
use Rattle.ffv1_slice.specs.Head.{CodesHead, key_steps, head_steps}
use Rattle.ffv1_frame.specs.Picture.{Planes, cell_in}
use Rattle.ffv1_frame.specs.SliceList.{Said, IsBody, lines_in}
use Rattle.ffv1_frame.specs.CodedSlice.{CodesSlice}
use Rattle.ffv1_record.specs.Accepted.{is_rice}
use Rattle.ffv1_frame.specs.Sides.{Sides}
use Rattle.ffv1_frame.proofs.lemmas.laws.decoding.OnlyRead.{OnlyLaws, lines_same, rows_begun}
use Rattle.ffv1_frame.proofs.lemmas.laws.decoding.SlicesMade.{column_inside}

no_more : (xs ys : List ℕ) → length (xs ++ ys) ≡ length xs → ys ≡ []
no_more xs [] long = refl
no_more xs (y ∷ ys) long = let sum = length-append xs (y ∷ ys) in absurd (omega (arith, long, sum))

module _ (a : Accepted) (n : ℕ) (inside : n < a.configuration.columns * a.configuration.rows) where
  -- the decisions of a slice
  abbrev pub steps_of : {bytes : List ℕ} → {planes : Planes} → {info : Said} → CodesSlice bytes a planes info n → List Step
  steps_of slice = key_steps n ++ (head_steps a.configuration n slice.head ++ slice.body)

  module _ (bytes : List ℕ) (laws : OnlyLaws a bytes) (sides : Sides a.configuration)
      (one : (g h : SliceHead) → CodesHead bytes a.table a.profile a.configuration n g → CodesHead bytes a.table a.profile a.configuration n h → g ≡ h) where
    opening_of : (xs : List ℕ) (planes : Planes) (info : Said) (slice : CodesSlice xs a planes info n) → Codes bytes (decisions_after a.table [] (steps_of slice)) →
        CodesHead bytes a.table a.profile a.configuration n slice.head
    opening_of xs planes info slice codes =
        let c = a.configuration in
        record {
          head = slice.is_head;
          codes =
              laws.front (key_steps n ++ head_steps c n slice.head) slice.body
              (subst (λ (z : List Step). Codes bytes (decisions_after a.table [] z)) (sym (append_assoc (key_steps n) (head_steps c n slice.head) slice.body)) codes);
        }

    -- bytes that code the lists of two slices code one
    same_steps : is_rice a.configuration.coder ≡ false → (xs ys : List ℕ) (planes others : Planes) (info said : Said) (this : CodesSlice xs a planes info n) (that : CodesSlice ys a others said n) →
        Codes bytes (decisions_after a.table [] (steps_of this)) → Codes bytes (decisions_after a.table [] (steps_of that)) → steps_of this ≡ steps_of that
    same_steps is xs ys planes others info said this that codes other =
        let c = a.configuration in
        let k = column_inside n c.columns sides.columns in
        let head : this.head ≡ that.head = one this.head that.head (opening_of xs planes info this codes) (opening_of ys others said that other) in
        let opening = key_steps n ++ head_steps c n this.head in
        let those : IsBody c this.head (cell_in c others n) (lines_in c n) that.body = subst (λ h. IsBody c h (cell_in c others n) (lines_in c n) that.body) (sym head) (that.is_body.range is) in
        let this_is : steps_of this ≡ opening ++ this.body = sym (append_assoc (key_steps n) (head_steps c n this.head) this.body) in
        let that_is : steps_of that ≡ opening ++ that.body =
        ap (λ h. key_steps n ++ (head_steps c n h ++ that.body)) (sym head) ∙ sym (append_assoc (key_steps n) (head_steps c n this.head) that.body) in
        let same = lines_same a bytes laws c this.head (cell_in c planes n) (cell_in c others n) (λ p. (sides.columns_tile p).some _ k) (lines_in c n) opening this.body that.body (this.is_body.range is) those
        (λ p.
        let rows = rows_begun a (λ m. bytes) n laws sides (lines_in c n) [] (sym (append-nil (lines_in c n))) p in
        record { y = 0; count = rows.0; rows = rows.1; agree = record { wide = refl; each = λ x z small below. absurd (omega (arith, below)) } })
        (subst (λ (z : List Step). Codes bytes (decisions_after a.table [] z)) this_is codes)
        (subst (λ (z : List Step). Codes bytes (decisions_after a.table [] z)) that_is other) in
        this_is ∙ ap (λ z. opening ++ z) same.0 ∙ sym that_is

  module _ (xs ys : List ℕ) (laws : OnlyLaws a (xs ++ ys)) (sides : Sides a.configuration)
      (one : (g h : SliceHead) → CodesHead (xs ++ ys) a.table a.profile a.configuration n g → CodesHead (xs ++ ys) a.table a.profile a.configuration n h → g ≡ h)
      (begins : (steps : List Step) → IsEnded xs (interval_of (decisions_after a.table [] steps)) → Codes (xs ++ ys) (decisions_after a.table [] steps)) where
    pub nothing_follows : is_rice a.configuration.coder ≡ false → a.profile ≡ profile.Wide → (planes others : Planes) (info said : Said) → CodesSlice xs a planes info n → CodesSlice (xs ++ ys) a others said n → ys ≡ []
    nothing_follows is wide planes others info said this that =
        let ended = (this.ending.range is).ended wide in
        let codes = begins (steps_of this) ended in
        let same = same_steps (xs ++ ys) laws sides one is xs (xs ++ ys) planes others info said this that codes that.codes in
        let other : IsEnded (xs ++ ys) (interval_of (decisions_after a.table [] (steps_of this))) =
        subst (λ (z : List Step). IsEnded (xs ++ ys) (interval_of (decisions_after a.table [] z))) (sym same) ((that.ending.range is).ended wide) in
        no_more xs ys (let first = ended.whole in let second = other.whole in omega (arith, first, second))
