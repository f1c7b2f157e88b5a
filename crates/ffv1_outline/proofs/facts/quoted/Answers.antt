-- A string of a file as JSON quotes it.
use Rattle.std.proofs.Common.{◌≡◌, ◌∙◌, ◌++◌, [], ◌∷◌, false, ap}
use Rattle.std.specs.Str.Lossy.{utf8_lossy}
use Rattle.json.specs.Print.{print, quoted}
use Rattle.json.specs.Token.{string}
use Rattle.ffv1_outline.specs.Facts.{string_value}
use Rattle.ffv1_outline.specs.Strings.{masked}
use Rattle.ffv1_outline.proofs.QuotedStrings.{one_string}
use Rattle.ffv1_outline.proofs.facts.quoted.Goals as goal

pub returns : goal.returns
unfolding string_value
returns g c =
    let before : c.string.new.self.before ≡ [] =
    c.in_ok-string-2.ensures.room.0 ∙ c.new-writer.ensures.before ∙ c.new.ensures.items in
    let tokens : c.string.new.self.tokens ≡ string c.as_str.result.now ∷ [] =
    c.in_ok-string-2.ensures.ok
    ∙ ap (λ z. z ++ string c.as_str.result.now ∷ []) c.new-writer.ensures.tokens in
    let text : c.as_str.result.now ≡ utf8_lossy (masked false c.args.string.now) =
    c.as_str.ensures.value ∙ c.in_ok-string.ensures.lossy
    ∙ ap utf8_lossy (c.as_slice.ensures.value ∙ c.in_ok-bytes.ensures) in
    c.into_inner.ensures.items ∙ ap (λ z. z ++ print c.string.new.self.tokens) before
    ∙ ap print tokens ∙ one_string c.as_str.result.now ∙ ap quoted text
