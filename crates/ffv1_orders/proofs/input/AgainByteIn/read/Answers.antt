-- `read` of `ByteIn` for `Again`.
use Rattle.std.proofs.Common.{◌≡◌, ◌<◌, ℕ, refl, sym, subst, arith, length, take, slice_set, List}
use Rattle.std.proofs.Common.{[], ◌∷◌, Option, Some, None}
use Rattle.std.specs.Prelude.{option_to_list}
use Rattle.std.specs.Io.KnownBytes.{Consumes, prepend_known}
use Rattle.std.proofs.lemmas.Grind.{common_steps}
use Rattle.ffv1_orders.proofs.input.AgainByteIn.read.Goals as goal

-- the byte stands in front
first_set : (buf : List ℕ) (byte : ℕ) → 0 < length buf → take 1 (slice_set buf 0 byte) ≡ byte ∷ []
first_set [] byte some = absurd (omega (arith, some))
first_set (b ∷ bs) byte some = refl

-- it is consumed
gives : (rest : Option (List ℕ)) (byte : ℕ) → Consumes (prepend_known (byte ∷ []) rest)
    (prepend_known [] rest) (byte ∷ [])
gives None byte = tt
gives (Some xs) byte = refl

pub returns-clause-bytes : goal.returns-clause-bytes
returns-clause-bytes g c =
    let rest = g.R.ByteIn.remaining c.args.self.now.inner in
    let byte = c.in-Some.byte in
    let some : 0 < length c.args.buf.now = grind
    (arith, common_steps, c.is_empty.ensures, c.if-is_empty.false) in
    let given = subst (λ (o : Option ℕ). Consumes (prepend_known (option_to_list o) rest)
    (prepend_known [] rest) (byte ∷ [])) (sym c.in-Some.is) (gives rest byte) in (
      subst (Consumes (prepend_known (option_to_list c.args.self.now.first) rest)
          (prepend_known [] rest)) (sym (first_set c.args.buf.now byte some)) given,
      λ none more. absurd (omega (arith, none)),
    )
