-- Whether the words give an option, and not its default alone.
use Rattle.std.proofs.Common.{◌≡◌, ◌∙◌, refl, sym, ap, Option, Some, None}
use Rattle.std.specs.Prelude.{find, option_and_then}
use Rattle.std.specs.Option.{option_map}
use Rattle.std.specs.Str.{bytes_eq}
use Rattle.clap.proofs.WalkLemmas.{find_row}
use Rattle.clap.specs.Facts.{Entry}
use Rattle.clap.specs.Walk.{Row, Text, row_of}
use Rattle.clap.specs.Words.{found_of, matched_of, rows_of}
use Rattle.clap.specs.declared.parser.matches.Found.{Found}
use Rattle.clap.specs.declared.parser.matches.MatchedArg.{MatchedArg}
use Rattle.ffv1_words.specs.Order.{is_of_words}
use Rattle.ffv1_words.proofs.matched.is_given.Goals as goal

-- where a value came from, by the rows
source_in : (f : Found) (id : Text) → option_and_then (λ (a : MatchedArg). a.source)
    (matched_of f id) ≡ option_and_then (λ (r : Row). r.source)
    (find (λ r. bytes_eq r.id id) (rows_of f))
source_in f id = go (find (λ e. bytes_eq e.0.now id) f.entries.items) ∙
    ap (option_and_then (λ (r : Row). r.source)) (sym (find_row f.entries.items id))
  where
    go : (o : Option Entry) → option_and_then (λ (a : MatchedArg). a.source)
        (option_map (λ e. e.1) o) ≡ option_and_then (λ (r : Row). r.source) (option_map row_of o)
    go None = refl
    go (Some e) = refl

pub returns-in-Some : goal.returns-in-Some
returns-in-Some c = c.is_of_words.ensures ∙ ap is_of_words
    (sym c.in-Some.is ∙ c.value_source.ensures ∙ source_in (found_of c.args.rows.now) c.args.id.now)

pub returns-in-None : goal.returns-in-None
returns-in-None c = ap is_of_words (sym c.in-None.is ∙ c.value_source.ensures ∙ source_in
    (found_of c.args.rows.now) c.args.id.now)
