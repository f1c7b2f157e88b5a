-- A slice is opened in one way, or is not opened for one reason.
use Rattle.std.proofs.Common.{◌≡◌, ℕ, zero, suc, Bool, true, false, Option, List, [], ◌∷◌, ◌++◌, inl, inr, ap, sym, subst, ◌∙◌, arith}
use Rattle.ffv1_range.specs.Interval.{Decision}
use Rattle.ffv1_range.specs.Codes.{Codes, IsState, AreStates}
use Rattle.ffv1_range.specs.Symbols.{Step, shifted}
use Rattle.ffv1_range.specs.History.{decisions_after}
use Rattle.ffv1_record.specs.Accepted.{Accepted}
use Rattle.ffv1_slice.specs.declared.fault.SliceFault.{SliceFault}
use Rattle.ffv1_slice.specs.declared.head.SliceHead.{SliceHead}
use Rattle.ffv1_slice.specs.Head.{CodesHead, RefusesHead, RefusesKey, key_steps, head_steps, no_key}
use Rattle.ffv1_frame.specs.declared.fault.CodecFault.{CodecFault}
use Rattle.ffv1_frame.specs.declared.fault.CodecFault.TheVariants as fault
use Rattle.ffv1_frame.specs.SliceList.{Said, said_by}
use Rattle.ffv1_frame.specs.Decoding.{RefusesOpen, AgreesWith, of_slice}
use Rattle.ffv1_frame.specs.Overread.{IsWithin, IsOverread}
use Rattle.ffv1_frame.proofs.lemmas.laws.decoding.TooFar.{not_overread}

-- the laws of decisions and of heads, for the bytes of a slice
pub record HeadLaws (a : Accepted) (bytes : List ℕ) (n : ℕ) : Type 0 where
  pub named : (past steps : List Step) → AreStates (decisions_after a.table past steps)
  pub beginnings : (xs ys : List Decision) → AreStates ys → Codes bytes (xs ++ ys) → Codes bytes xs
  pub one_bit : (past xs ys : List Decision) (state : ℕ) (b c : Bool) → IsState state → AreStates xs → AreStates ys →
      Codes bytes (past ++ (record { state = state; bit = b } ∷ xs)) → Codes bytes (past ++ (record { state = state; bit = c } ∷ ys)) → b ≡ c
  pub head : (g h : SliceHead) → CodesHead bytes a.table a.profile a.configuration n g → CodesHead bytes a.table a.profile a.configuration n h → g ≡ h
  pub apart : (h : SliceHead) (f : SliceFault) (steps : List Step) → CodesHead bytes a.table a.profile a.configuration n h → RefusesHead bytes a.table a.profile a.configuration n f steps → ⊥
  pub refusal : (f g : SliceFault) (xs ys : List Step) → RefusesHead bytes a.table a.profile a.configuration n f xs → RefusesHead bytes a.table a.profile a.configuration n g ys → (f ≡ g) × (xs ≡ ys)

not_both : true ≡ false → ⊥
not_both e = cc

module _ (a : Accepted) (bytes : List ℕ) (n : ℕ) (laws : HeadLaws a bytes n) where
  starts : (steps : List Step) → Codes bytes (decisions_after a.table [] steps) → Codes bytes []
  starts steps codes = laws.beginnings [] (decisions_after a.table [] steps) (laws.named [] steps) codes

  -- the key is not both there and refused
  one_key : (more : List Step) → (m : ℕ) → m ≡ 0 → Codes bytes (decisions_after a.table [] (key_steps m ++ more)) → Codes bytes (decisions_after a.table [] no_key) → ⊥
  one_key more zero first codes other =
      let state : IsState 128 = record { least = omega arith; most = omega arith } in
      not_both (laws.one_bit [] (decisions_after a.table (record { slot = 0; bit = true } ∷ []) more) [] 128 true false state (laws.named (record { slot = 0; bit = true } ∷ []) more) tt codes other)
  one_key more (suc m) first codes other = absurd (omega (arith, first))

  -- no head is read too far that is not
  too_far : (h g : SliceHead) → CodesHead bytes a.table a.profile a.configuration n h → CodesHead bytes a.table a.profile a.configuration n g → IsWithin a bytes (key_steps n ++ head_steps a.configuration n h) →
      IsOverread a bytes (key_steps n ++ head_steps a.configuration n g) → ⊥
  too_far h g codes other within over =
      not_overread a bytes (key_steps n ++ head_steps a.configuration n g)
      (subst (λ z. IsWithin a bytes (key_steps n ++ head_steps a.configuration n z)) (laws.head h g codes other) within) over

  -- why a slice is not opened, seen from a head that the bytes code
  pub head_or_refusal : (info : Option Said) (h : SliceHead) (f : CodecFault) (steps : List Step) →
      CodesHead bytes a.table a.profile a.configuration n h → AgreesWith info (said_by a.profile h) → IsWithin a bytes (key_steps n ++ head_steps a.configuration n h) →
      RefusesOpen a (λ _. bytes) info n f steps → ⊥
  head_or_refusal info h f steps codes agrees within refuses = elim refuses [
    | inl bad ↦ bad.1 (starts (key_steps n ++ head_steps a.configuration n h) codes.codes)
    | inr more ↦ elim more [
      | inl key ↦ one_key (head_steps a.configuration n h) n key.1.first codes.codes key.1.codes
      | inr other ↦ elim other [
        | inl head ↦ laws.apart h head.0 head.1 codes head.2
        | inr last ↦ elim last [
          | inl differs ↦
              let same : h ≡ differs.0 = laws.head h differs.0 codes differs.2 in
              let agreed : said_by a.profile h ≡ differs.1 = subst (λ i. AgreesWith i (said_by a.profile h)) differs.3 agrees in
              differs.4 (ap (said_by a.profile) (sym same) ∙ agreed)
          | inr over ↦ too_far h over.0 codes over.1 within over.4
        ]
      ]
    ]
  ]

  abbrev pub Reason : Option Said → CodecFault → List Step → Type 0
  Reason info f steps = RefusesOpen a (λ _. bytes) info n f steps

  abbrev pub SameReason : CodecFault → CodecFault → List Step → List Step → Type 0
  SameReason f g xs ys = (f ≡ g) × (xs ≡ ys)

  -- bytes that do not start well are refused for that alone
  bad_start : (info : Option Said) (f g : CodecFault) (xs ys : List Step) → f ≡ fault.BadStart → (Codes bytes [] → ⊥) → xs ≡ [] → Reason info g ys → SameReason f g xs ys
  bad_start info f g xs ys is none long other = elim other [
    | inl bad ↦ (is ∙ sym bad.0, long ∙ sym bad.2)
    | inr more ↦ elim more [
      | inl key ↦ absurd (none (starts no_key key.1.codes))
      | inr later ↦ elim later [
        | inl head ↦ absurd (none (starts (key_steps n ++ shifted 1 head.1) head.2.codes))
        | inr last ↦ elim last [
          | inl differs ↦ absurd (none (starts (key_steps n ++ head_steps a.configuration n differs.0) differs.2.codes))
          | inr over ↦ absurd (none (starts (key_steps n ++ head_steps a.configuration n over.0) over.1.codes))
        ]
      ]
    ]
  ]

  -- a key of 0 is refused for that alone
  bad_key : (info : Option Said) (f g : CodecFault) (xs ys : List Step) → f ≡ fault.NotKey → RefusesKey bytes a.table n → xs ≡ no_key → Reason info g ys → SameReason f g xs ys
  bad_key info f g xs ys is refused long other = elim other [
    | inl bad ↦ absurd (bad.1 (starts no_key refused.codes))
    | inr more ↦ elim more [
      | inl key ↦ (is ∙ sym key.0, long ∙ sym key.2)
      | inr later ↦ elim later [
        | inl head ↦ absurd (one_key (shifted 1 head.1) n refused.first head.2.codes refused.codes)
        | inr last ↦ elim last [
          | inl differs ↦ absurd (one_key (head_steps a.configuration n differs.0) n refused.first differs.2.codes refused.codes)
          | inr over ↦ absurd (one_key (head_steps a.configuration n over.0) n refused.first over.1.codes refused.codes)
        ]
      ]
    ]
  ]

  bad_head : (info : Option Said) (f g : CodecFault) (xs ys more : List Step) (h : SliceFault) → RefusesHead bytes a.table a.profile a.configuration n h more → f ≡ of_slice h →
      xs ≡ key_steps n ++ shifted 1 more → Reason info g ys → SameReason f g xs ys
  bad_head info f g xs ys more h refused is long other = elim other [
    | inl bad ↦ absurd (bad.1 (starts (key_steps n ++ shifted 1 more) refused.codes))
    | inr rest ↦ elim rest [
      | inl key ↦ absurd (one_key (shifted 1 more) n key.1.first refused.codes key.1.codes)
      | inr later ↦ elim later [
        | inl head ↦
            let same = laws.refusal h head.0 more head.1 refused head.2 in
            (is ∙ ap of_slice same.0 ∙ sym head.3, long ∙ ap (λ steps. key_steps n ++ shifted 1 steps) same.1 ∙ sym head.4)
        | inr last ↦ elim last [
          | inl differs ↦ absurd (laws.apart differs.0 h more differs.2 refused)
          | inr over ↦ absurd (laws.apart over.0 h more over.1 refused)
        ]
      ]
    ]
  ]

  bad_info : (info : Option Said) (f g : CodecFault) (xs ys : List Step) (h : SliceHead) → CodesHead bytes a.table a.profile a.configuration n h → f ≡ fault.InfoDiffers →
      xs ≡ key_steps n ++ head_steps a.configuration n h → IsWithin a bytes (key_steps n ++ head_steps a.configuration n h) → Reason info g ys → SameReason f g xs ys
  bad_info info f g xs ys h codes is long within other = elim other [
    | inl bad ↦ absurd (bad.1 (starts (key_steps n ++ head_steps a.configuration n h) codes.codes))
    | inr rest ↦ elim rest [
      | inl key ↦ absurd (one_key (head_steps a.configuration n h) n key.1.first codes.codes key.1.codes)
      | inr later ↦ elim later [
        | inl head ↦ absurd (laws.apart h head.0 head.1 codes head.2)
        | inr last ↦ elim last [
          | inl differs ↦
              (is ∙ sym differs.5, long ∙ ap (λ z. key_steps n ++ head_steps a.configuration n z) (laws.head h differs.0 codes differs.2) ∙ sym differs.6)
          | inr over ↦ absurd (too_far h over.0 codes over.1 within over.4)
        ]
      ]
    ]
  ]

  bad_reach : (info : Option Said) (f g : CodecFault) (xs ys : List Step) (h : SliceHead) → CodesHead bytes a.table a.profile a.configuration n h → f ≡ fault.Overread →
      xs ≡ key_steps n ++ head_steps a.configuration n h → IsOverread a bytes (key_steps n ++ head_steps a.configuration n h) → Reason info g ys → SameReason f g xs ys
  bad_reach info f g xs ys h codes is long over other = elim other [
    | inl bad ↦ absurd (bad.1 (starts (key_steps n ++ head_steps a.configuration n h) codes.codes))
    | inr rest ↦ elim rest [
      | inl key ↦ absurd (one_key (head_steps a.configuration n h) n key.1.first codes.codes key.1.codes)
      | inr later ↦ elim later [
        | inl head ↦ absurd (laws.apart h head.0 head.1 codes head.2)
        | inr last ↦ elim last [
          | inl differs ↦ absurd (too_far differs.0 h differs.2 codes differs.7 over)
          | inr same ↦
              (is ∙ sym same.2, long ∙ ap (λ z. key_steps n ++ head_steps a.configuration n z) (laws.head h same.0 codes same.1) ∙ sym same.3)
        ]
      ]
    ]
  ]

  -- a slice is refused for one reason
  pub one_reason : (info : Option Said) (f g : CodecFault) (xs ys : List Step) → Reason info f xs → Reason info g ys → SameReason f g xs ys
  one_reason info f g xs ys this other = elim this [
    | inl bad ↦ bad_start info f g xs ys bad.0 bad.1 bad.2 other
    | inr more ↦ elim more [
      | inl key ↦ bad_key info f g xs ys key.0 key.1 key.2 other
      | inr later ↦ elim later [
        | inl head ↦ bad_head info f g xs ys head.1 head.0 head.2 head.3 head.4 other
        | inr last ↦ elim last [
          | inl differs ↦ bad_info info f g xs ys differs.0 differs.2 differs.5 differs.6 differs.7 other
          | inr over ↦ bad_reach info f g xs ys over.0 over.1 over.2 over.3 over.4 other
        ]
      ]
    ]
  ]
