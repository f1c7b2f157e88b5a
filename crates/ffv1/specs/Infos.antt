-- How the facts of a file are written.
use Rattle.std.specs.Prelude.{Bool, true, false}
use Rattle.ffv1_outline.specs.declared.facts.Form.{Form}
use Rattle.ffv1_outline.specs.declared.facts.Form.TheVariants as form

abbrev pub form_of : Bool → Form
form_of true = form.Json
form_of false = form.Text
