-- An ID is spelled as a variable-size integer of at most four bytes, whose number it is with all
-- bits.
use Rattle.ffv1_ebml.proofs.SpelledLaws.{ident_spelled, idents_apart}
use Rattle.ffv1_ebml.proofs.laws.no_id_begins_another.Goals as goal

pub returns-clause-spelled : goal.returns-clause-spelled
returns-clause-spelled c = λ ident is. let p = ident_spelled ident is in (p.is, p.few, p.number)

pub returns-clause-apart : goal.returns-clause-apart
returns-clause-apart c = idents_apart
