-- Decodes frames of a file, and tells one line of it.
use Rattle.std.proofs.Common.{◌≡◌, None, true, false, inl, inr, refl, sym, subst, ◌∙◌}
use Rattle.std.proofs.lemmas.Result.{err_from_is_err_and}
use Rattle.ffv1_wire.specs.Passage.{at_rest}
use Rattle.ffv1_orders.specs.Statuses.{IsFault}
use Rattle.ffv1_orders.specs.Telling.{IsUntold}
use Rattle.ffv1_orders.specs.declared.refusal.Refusal.{Refusal}
use Rattle.ffv1_unpack.specs.Check.{IsCheckFault}
use Rattle.ffv1_video.specs.declared.profile.Profile.TheVariants as profile
use Rattle.ffv1.proofs.checking.run_verdict.Goals as goal

-- a line that cannot be printed, and memory of it that is refused, are faults of a check
untold_is_own : (r : Refusal) → IsUntold r → IsFault (IsCheckFault profile.Wide) r
untold_is_own r (inl is) = subst (IsFault (IsCheckFault profile.Wide)) (sym is) (inr (inl refl))
untold_is_own r (inr is) = subst (IsFault (IsCheckFault profile.Wide)) (sym is) (inl refl)

pub returns-in_err-tell-clause-own : goal.returns-in_err-tell-clause-own
returns-in_err-tell-clause-own g c first_alone unasked =
    let p = err_from_is_err_and c.from_residual.result c.from_residual.ensures.1 in
    rw (p.1, p.2) (untold_is_own _ c.in_err-tell.ensures.untold)

pub returns-in_err-tell-clause-checks : goal.returns-in_err-tell-clause-checks
returns-in_err-tell-clause-checks g c of_line =
    let p = err_from_is_err_and c.from_residual.result c.from_residual.ensures.1 in
    record {
      answer = c.write_check-answer.result;
      output = at_rest None 0;
      place = true;
      says_place = rw of_line refl;
      checks = c.write_check-answer.ensures.checks;
      by_frames = λ of_frames. absurd (let no : true ≡ false = sym of_frames ∙ of_line in cc);
      by_line = λ _. inr (rw (p.1, p.2)
          (_, rw c.verdict_of.ensures.value at c.in_err-tell.ensures.tells, c.in_err-tell.ensures.told of_line, refl));
    }

pub returns-clause-checks : goal.returns-clause-checks
returns-clause-checks g c of_line = record {
  answer = c.write_check-answer.result;
  output = at_rest None 0;
  place = true;
  says_place = rw of_line refl;
  checks = c.write_check-answer.ensures.checks;
  by_frames = λ of_frames. absurd (let no : true ≡ false = sym of_frames ∙ of_line in cc);
  by_line = λ _. inl (rw (← c.verdict_of.ensures.value) c.in_ok-tell.ensures.tells, c.outcome_of.ensures.value);
}
