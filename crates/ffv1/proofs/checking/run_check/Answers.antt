-- Decodes frames of a file, and prints what each took.
use Rattle.std.proofs.Common.{◌≡◌, true, false, refl, sym, ◌∙◌}
use Rattle.ffv1.proofs.checking.run_check.Goals as goal

pub returns-then-is_of_frames-clause-checks : goal.returns-then-is_of_frames-clause-checks
returns-then-is_of_frames-clause-checks g c =
    let of_frames = sym c.is_of_frames.ensures ∙ c.if-is_of_frames.true in
    record {
      answer = c.write_check-answer.result;
      output = _;
      place = c.args.checking.place;
      says_place = rw of_frames refl;
      checks = c.write_check-answer.ensures.checks;
      by_frames = λ _. c.outcome_of.ensures.value;
      by_line = λ of_line. absurd (let no : true ≡ false = sym of_frames ∙ of_line in cc);
    }

pub returns-clause-checks : goal.returns-clause-checks
returns-clause-checks g c =
    c.run_verdict.ensures.checks (sym c.is_of_frames.ensures ∙ c.if-is_of_frames.false)
