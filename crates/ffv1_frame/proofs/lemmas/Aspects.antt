-- What the two numbers of an aspect say.
use Rattle.std.proofs.Common.{◌≡◌, ℕ, ◌<◌, Bool, true, false, refl, ap, sym, ◌∙◌, arith}
use mathlib.Core.Bool.{true≢false, beq, not}
use Rattle.std.proofs.lemmas.Bool.Decides.{nat_tests}
use Rattle.std.specs.Prelude.{is_some, Some, None, if◌then◌else◌, nat_lt, ◌&&◌, ◌==◌}
use Rattle.ffv1_record.specs.declared.config.Profile.{Profile}
use Rattle.ffv1_record.specs.declared.config.Profile.TheVariants as profile
use Rattle.ffv1_record.specs.Configuration.{Configuration}
use Rattle.ffv1_slice.specs.Head.{is_aspect, half_aspect, has_aspect}
use Rattle.ffv1_slice.specs.declared.head.SliceHead.{SliceHead}
use Rattle.ffv1_frame.specs.SliceList.{Said, aspect_or_unknown, said_aspect, said_by, chosen_head}

-- an aspect is one in each profile, and says itself
pub has_itself : (p : Profile) (num den : ℕ) → is_aspect num den ≡ true → has_aspect p num den ≡ true
has_itself p num den is = ap (λ (test : Bool). is_some {T = ℕ × ℕ} (if test then Some (num, den) else half_aspect p num den)) is

said_itself : (p : Profile) (num den : ℕ) → is_aspect num den ≡ true → said_aspect p num den ≡ (num, den)
unfolding said_aspect
said_itself p num den is = ap (λ (test : Bool). aspect_or_unknown (if test then Some (num, den) else half_aspect p num den)) is

-- numbers that are none say 0 and 0
said_half : (p : Profile) (num den : ℕ) → aspect_or_unknown (half_aspect p num den) ≡ (0, 0)
said_half profile.Strict num den = refl
said_half profile.Wide num den = by_test (nat_lt num 65536 && nat_lt den 65536)
  where
    by_test : (test : Bool) → aspect_or_unknown (if test then Some (0, 0) else None) ≡ (0, 0)
    by_test true = refl
    by_test false = refl

said_unknown : (p : Profile) (num den : ℕ) → is_aspect num den ≡ false → said_aspect p num den ≡ (0, 0)
unfolding said_aspect
said_unknown p num den is =
    ap (λ (test : Bool). aspect_or_unknown (if test then Some (num, den) else half_aspect p num den)) is ∙ said_half p num den

-- two numbers are an aspect by whether each is 0
whole_by : (a b : Bool) (num den : ℕ) → (num == 0) ≡ a → (den == 0) ≡ b → not (beq a b) ≡ false → num < 65536 → den < 65536 → is_aspect num den ≡ true
whole_by true true num den p q e f g = grind (arith, nat_tests)
whole_by true false num den p q e f g = absurd (true≢false e)
whole_by false true num den p q e f g = absurd (true≢false e)
whole_by false false num den p q e f g = grind (arith, nat_tests)

pub whole_aspect : (num den : ℕ) → not (beq (num == 0) (den == 0)) ≡ false → num < 65536 → den < 65536 → is_aspect num den ≡ true
whole_aspect num den e f g = whole_by (num == 0) (den == 0) num den refl refl e f g

none_by : (a b : Bool) (num den : ℕ) → (num == 0) ≡ a → (den == 0) ≡ b → not (beq a b) ≡ true → is_aspect num den ≡ false
none_by true true num den p q e = absurd (true≢false (sym e))
none_by true false num den p q e = grind (arith, nat_tests)
none_by false true num den p q e = grind (arith, nat_tests)
none_by false false num den p q e = absurd (true≢false (sym e))

pub no_aspect : (num den : ℕ) → not (beq (num == 0) (den == 0)) ≡ true → is_aspect num den ≡ false
no_aspect num den e = none_by (num == 0) (den == 0) num den refl refl e

-- so does a head
pub said_as : (p : Profile) (h : SliceHead) → is_aspect h.sar_num h.sar_den ≡ true → said_by p h ≡ record { structure = h.structure; sar_num = h.sar_num; sar_den = h.sar_den }
said_as p h is = ap (λ (z : ℕ × ℕ). made h.structure z) (said_itself p h.sar_num h.sar_den is)
  where
    made : ℕ → ℕ × ℕ → Said
    made s z = record { structure = s; sar_num = z.0; sar_den = z.1 }

pub said_none : (p : Profile) (h : SliceHead) → is_aspect h.sar_num h.sar_den ≡ false → said_by p h ≡ record { structure = h.structure; sar_num = 0; sar_den = 0 }
said_none p h is = ap (λ (z : ℕ × ℕ). made h.structure z) (said_unknown p h.sar_num h.sar_den is)
  where
    made : ℕ → ℕ × ℕ → Said
    made s z = record { structure = s; sar_num = z.0; sar_den = z.1 }

-- the head that an encoder takes says what it is to say
pub said_chosen : (p : Profile) (c : Configuration) (info : Said) → is_aspect info.sar_num info.sar_den ≡ true → said_by p (chosen_head c info) ≡ info
said_chosen p c info is = said_as p (chosen_head c info) is
