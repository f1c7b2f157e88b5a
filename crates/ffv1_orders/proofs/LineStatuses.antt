-- What comes of a line that is refused.
use Rattle.std.specs.Prelude.{◌≡◌, ◌≢◌, ◌⊎◌, ℕ, Result, Ok, Err, IfOk}
use Rattle.clap.specs.declared.error.kind.ErrorKind.{ErrorKind}
use Rattle.clap.specs.declared.error.kind.ErrorKind.TheVariants as kind
use Rattle.ffv1_orders.specs.Orders.{IsLineStatus}

pub line_status : {E : Type 0} (of : ErrorKind) (status : Result ℕ E) → IfOk status (λ n. (of ≡ kind.DisplayHelp) ⊎ (of ≡ kind.DisplayVersion) → n ≡ 0) → IfOk status (λ n. of ≢ kind.DisplayHelp → of ≢ kind.DisplayVersion → n ≡ 2) →
    IfOk status (IsLineStatus of)
line_status of (Ok n) asked refused = record { asked = asked; refused = refused }
line_status of (Err e) asked refused = tt
