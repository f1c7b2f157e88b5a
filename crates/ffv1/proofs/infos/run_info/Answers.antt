-- Prints what a file is.
use Rattle.std.proofs.Common.{◌≡◌, true, false, sym, ◌∙◌}
use Rattle.ffv1.proofs.infos.run_info.Goals as goal

pub returns-then-how-clause-facts : goal.returns-then-how-clause-facts
returns-then-how-clause-facts g c = record {
  printed = c.print_object.result;
  is = c.without_notes.ensures.value;
  lines = λ of_lines. absurd (let no : true ≡ false = sym c.if-how.true ∙ of_lines in cc);
  object = λ _. c.print_object.ensures.facts;
}

pub returns-clause-facts : goal.returns-clause-facts
returns-clause-facts g c = record {
  printed = c.print_facts.result;
  is = c.without_notes-2.ensures.value;
  lines = λ _. c.print_facts.ensures.facts;
  object = λ of_object. absurd (let no : true ≡ false = sym of_object ∙ c.if-how.false in cc);
}
