-- A command with one argument more.
use Rattle.std.proofs.Common.{◌≡◌, ◌∙◌, ◌||◌, ap₂, false}
use Rattle.std.specs.Prelude.{IfOk}
use Rattle.std.specs.declared.alloc.AllocError.{AllocError}
use Rattle.std.specs.declared.result.Result.{Result}
use Rattle.std.proofs.lemmas.Result.{IfOk-weaker}
use Rattle.clap.specs.Words.{AddsArg, App, Rule, app_of, rule_of, with_rule}
use Rattle.clap.specs.declared.builder.arg.Arg.{Arg}
use Rattle.clap.specs.declared.builder.command.Command.{Command}
use Rattle.clap.specs.declared.builder.command.Command.TheViews.{out-Command as fields_of}

-- what a command is in clap's terms, without an argument that is global
abbrev pub Is : App → Command → Type 0
Is s x = (app_of x ≡ s) × ((fields_of x).has_globals ≡ false)

pub added : (c x : Command) (a : Arg) (s : App) (r : Rule) → AddsArg c a x → Is s c → rule_of a ≡ r → a.global ≡ false → Is (with_rule s r) x
added c x a s r adds is rule own = (
  adds.shape own ∙ ap₂ with_rule is.0 rule,
  adds.globals ∙ ap₂ (λ b d. b || d) is.1 own,
)

-- the same of a call that adds it, unless memory is refused
pub added_last : (c : Command) (a : Arg) (s : App) (r : Rule) (answer : Result Command AllocError) → IfOk answer (AddsArg c a) → Is s c → rule_of a ≡ r → a.global ≡ false
    → IfOk answer (Is (with_rule s r))
added_last c a s r answer adds is rule own = IfOk-weaker answer (AddsArg c a) (Is (with_rule s r)) (λ x more. added c x a s r more is rule own) adds
