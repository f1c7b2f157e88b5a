-- Facts by how samples are coded.
use Rattle.std.proofs.Common.{◌≡◌, ◌⊎◌, ◌∙◌, ◌+◌, ℕ, inl, inr, refl, sym, arith, Bool, true, false}
use Rattle.std.proofs.Common.{if◌then◌else◌}
use Rattle.std.proofs.lemmas.Bool.{true≢false}
use Rattle.ffv1_record.specs.Configuration.{Configuration, is_rct}
use Rattle.ffv1_record.specs.Accepted.{is_rice}
use Rattle.ffv1_record.specs.declared.config.Coder.{Coder}
use Rattle.ffv1_record.specs.declared.config.Coder.TheVariants as coder
use Rattle.ffv1_frame.specs.SliceList.{bits_of}
use Rattle.ffv1_frame.specs.RiceLines.{ByCoder}

pub by_range : {b : Bool} {R G : Type 0} → b ≡ false → R → ByCoder b R G
by_range is x = record { range = λ same. x; rice = λ other. absurd (true≢false (sym other ∙ is)) }

pub by_rice : {b : Bool} {R G : Type 0} → b ≡ true → G → ByCoder b R G
by_rice is x = record { range = λ other. absurd (true≢false (sym is ∙ other)); rice = λ same. x }

pub not_both_coders : {b : Bool} → b ≡ true → b ≡ false → ⊥
not_both_coders is other = true≢false (sym is ∙ other)

rice_is : (k : Coder) → is_rice k ≡ true → k ≡ coder.Rice
rice_is coder.Rice e = refl
rice_is coder.One e = absurd (true≢false (sym e))
rice_is (coder.Two deltas) e = absurd (true≢false (sym e))

eight_or_nine : (rct : Bool) (depth : ℕ) → depth ≡ 8 →
    ((if rct then depth + 1 else depth) ≡ 8) ⊎ ((if rct then depth + 1 else depth) ≡ 9)
eight_or_nine true depth eight = inr (omega (arith, eight))
eight_or_nine false depth eight = inl eight

-- Golomb-Rice coded samples, which have 8 bits, are coded in 8 or in 9
pub rice_bits_are : (c : Configuration) → (c.coder ≡ coder.Rice → c.depth ≡ 8) →
    is_rice c.coder ≡ true → (bits_of c ≡ 8) ⊎ (bits_of c ≡ 9)
rice_bits_are c law is = eight_or_nine (is_rct c.colour) c.depth (law (rice_is c.coder is))
