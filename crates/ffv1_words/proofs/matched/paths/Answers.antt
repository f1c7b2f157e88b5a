-- The paths of an argument of several files.
use Rattle.std.proofs.Common.{◌∙◌, ap, map, Option, Some, List}
use Rattle.std.specs.Borrow.{Bor}
use Rattle.clap.proofs.WalkLemmas.{raw_values-rows}
use Rattle.clap.specs.Words.{Text, found_of}
use Rattle.ffv1_words.proofs.matched.paths.Goals as goal

pub returns-in_default : goal.returns-in_default
returns-in_default c = c.in_default.ensures ∙ raw_values-rows (found_of c.args.rows.now)
    c.args.id.now

pub returns : goal.returns
returns c =
    let texts : List (Bor Text) → Option (List Text) = λ ts. Some (map (λ v. v.now) ts) in
    ap texts (c.leak.ensures.value ∙ c.in_ok-kept.ensures.items) ∙ c.in-Some.ensures ∙
    raw_values-rows (found_of c.args.rows.now) c.args.id.now
