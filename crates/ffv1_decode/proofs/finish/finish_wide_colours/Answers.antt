-- The colours of a line for RCT of 16 bits a sample.
use Rattle.std.proofs.Common.{◌≡◌, ◌*◌, ◌∙◌, ap, subst, sym, OnOk, IfErr, false, arith}
use Rattle.ffv1_samples.specs.Samples.{sample_bytes, samples_of}
use Rattle.ffv1_record.specs.Configuration.{Configuration}
use Rattle.ffv1_frame.specs.Picture.{plane_count, width_bytes}
use Rattle.ffv1_decode.specs.Internal.Finished.{AreMade, Colouring, IsFirstWithout, colouring_of}
use Rattle.ffv1_decode.specs.Internal.Finished.{words_colouring}
use Rattle.ffv1_decode.proofs.lemmas.finish.WideColouring.{wide_colouring}
use Rattle.ffv1_decode.proofs.finish.finish_wide_colours.Given.{Over}
use Rattle.ffv1_decode.proofs.finish.finish_wide_colours.Goals.{After-config-config}
use Rattle.ffv1_decode.proofs.finish.finish_wide_colours.Goals as goal

-- the colouring is that of words of 16 bits
coloured : (g : Over) (c : After-config-config g) → colouring_of
    c.args.frame.now.checked.now.configuration ≡ words_colouring 16
    c.config-config.result.now.width false c.config-config.result.now.extra_plane
coloured g c = wide_colouring c.args.frame.now.checked.now.configuration c.requires.sixteen ∙
    ap (λ (z : Configuration). words_colouring 16 z.width false z.extra_plane)
    c.config-config.ensures.value

pub wide_colours-requires-clause-out : goal.wide_colours-requires-clause-out
wide_colours-requires-clause-out g c =
    let conf = c.args.frame.now.checked.now.configuration in
    let bytes : width_bytes conf ≡ 2 * conf.width = ap (λ d. sample_bytes d * conf.width)
    c.requires.sixteen in
    let twice : plane_count conf * (2 * conf.width) ≡ 2 * (plane_count conf * conf.width) =
    omega arith in
    c.requires.out ∙ ap (λ n. plane_count conf * n) bytes ∙ twice ∙ ap (λ n. 2 * n)
    (sym c.requires.samples)

pub returns-clause-ok : goal.returns-clause-ok
returns-clause-ok g c =
    let conf = c.args.frame.now.checked.now.configuration in
    let same = coloured g (goal.at.returns-clause-ok g c).After-config-config in
    subst (λ d. OnOk c.wide_colours.result (AreMade (colouring_of conf) c.args.samples.now
    (samples_of d c.wide_colours.new.out))) (sym c.requires.sixteen)
    (subst (λ (k : Colouring). OnOk c.wide_colours.result
    (AreMade k c.args.samples.now (samples_of 16 c.wide_colours.new.out))) (sym same)
    c.wide_colours.ensures.ok)

pub returns-clause-err : goal.returns-clause-err
returns-clause-err g c =
    let same = coloured g (goal.at.returns-clause-err g c).After-config-config in
    subst (λ (k : Colouring). IfErr c.wide_colours.result (IsFirstWithout k c.args.samples.now))
    (sym same) c.wide_colours.ensures.err
