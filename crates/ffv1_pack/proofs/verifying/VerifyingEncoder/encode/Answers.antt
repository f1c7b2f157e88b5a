-- The frame of a picture that fits the configuration.
use Rattle.std.proofs.Common.{IsTrue, sym, subst}
use Rattle.ffv1_record.specs.Accepted.{Accepted}
use Rattle.ffv1_pack.specs.Internal.Verifying.{IsBackFor}
use Rattle.ffv1_pack.proofs.verifying.VerifyingEncoder.encode.Goals as goal

pub invariant_of-self-2 : goal.invariant_of-self-2
invariant_of-self-2 g c =
    let came : IsTrue c.comes_back.result = search in
    subst (λ (a : Accepted). IsBackFor a c.comes_back.new.back) (sym c.encode.ensures.configuration)
    (c.comes_back.ensures.kept c.self.inside.encoder.accepted c.self.invariant came)
