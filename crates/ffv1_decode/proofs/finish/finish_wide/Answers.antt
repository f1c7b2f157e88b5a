-- Makes the colours of a line of RCT of 16 bits a sample.
use Rattle.std.proofs.Common.{◌≡◌, ◌*◌, ◌<◌, true, ◌∙◌, ap, subst, length, arith, refl}
use Rattle.ffv1_record.specs.Configuration.{is_rct}
use Rattle.ffv1_frame.specs.Order.{lines_down}
use Rattle.ffv1_frame.specs.Picture.{plane_count, plane_width, width_bytes}
use Rattle.ffv1_decode.proofs.lemmas.finish.LineFinished.{together_all, rct_is, colours_missing}
use Rattle.ffv1_frame.proofs.lemmas.picture.PlaneWidths.{wide_none}
use Rattle.ffv1_decode.proofs.lemmas.finish.LineFinished.{colours_finished}
use Rattle.ffv1_frame.proofs.lemmas.picture.WideLines.{wide_is}
use Rattle.ffv1_decode.proofs.finish.finish_wide.Given.{Over}
use Rattle.ffv1_decode.proofs.finish.finish_wide.Goals.{After-accepted_configuration_has_sound_parts}
use Rattle.ffv1_decode.proofs.finish.finish_wide.Goals as goal

-- coded samples of 17 bits are those of RCT of 16
module _ (g : Over) (c : After-accepted_configuration_has_sound_parts g) where
  wide : (is_rct c.args.frame.now.checked.now.configuration.colour ≡ true) ×
      (c.args.frame.now.checked.now.configuration.depth ≡ 16)
  wide =
      let a = c.args.frame.now.checked.now in
      wide_is a.configuration c.requires.bits (c.accepted_configuration_is_in_range.ensures.depth
      a.configuration a.table c.requires.frame.accepted).1

  all : (c.args.line.now.first ≡ 0) × (c.args.line.now.count ≡ plane_count
      c.args.frame.now.checked.now.configuration)
  all = together_all c.args.frame.now.checked.now.configuration c.args.line.now.first
      c.args.line.now.count wide.0 c.requires.together

  flat : (c.args.frame.now.checked.now.configuration.chroma_planes ≡ true) ×
      (c.args.frame.now.checked.now.configuration.log2_h ≡ 0) ×
      (c.args.frame.now.checked.now.configuration.log2_v ≡ 0)
  flat = c.accepted_configuration_has_sound_parts.ensures.rct _ _ c.requires.frame.accepted
      (rct_is _ wide.0)

pub finish_wide_colours-requires-clause-rct : goal.finish_wide_colours-requires-clause-rct
finish_wide_colours-requires-clause-rct g c = (wide g
    (goal.at.finish_wide_colours-requires-clause-rct g
    c).After-accepted_configuration_has_sound_parts).0

pub finish_wide_colours-requires-clause-sixteen : goal.finish_wide_colours-requires-clause-sixteen
finish_wide_colours-requires-clause-sixteen g c =
    (wide g (goal.at.finish_wide_colours-requires-clause-sixteen g
    c).After-accepted_configuration_has_sound_parts).1

pub finish_wide_colours-requires-clause-samples : goal.finish_wide_colours-requires-clause-samples
finish_wide_colours-requires-clause-samples g c =
    let conf = c.args.frame.now.checked.now.configuration in
    let all = all g (goal.at.finish_wide_colours-requires-clause-samples g
    c).After-accepted_configuration_has_sound_parts in
    c.requires.samples ∙ ap (λ n. n * conf.width) all.1

pub finish_wide_colours-requires-clause-out : goal.finish_wide_colours-requires-clause-out
finish_wide_colours-requires-clause-out g c =
    let conf = c.args.frame.now.checked.now.configuration in
    let all = all g (goal.at.finish_wide_colours-requires-clause-out g
    c).After-accepted_configuration_has_sound_parts in
    c.requires.out ∙ ap (λ n. n * width_bytes conf) all.1

pub colourless-requires-clause-y : goal.colourless-requires-clause-y
colourless-requires-clause-y g c =
    let conf = c.args.frame.now.checked.now.configuration in
    let all = all g (goal.at.colourless-requires-clause-y g
    c).After-accepted_configuration_has_sound_parts in
    subst (λ p. c.args.line.now.y < lines_down conf p c.args.line.now.row) all.0 c.requires.y

pub colourless-requires-clause-x : goal.colourless-requires-clause-x
colourless-requires-clause-x g c =
    let a = c.args.frame.now.checked.now in
    let conf = a.configuration in
    let here = (goal.at.colourless-requires-clause-x g
    c).After-accepted_configuration_has_sound_parts in
    let wide : plane_width conf 0 ≡ conf.width = wide_none conf 0 (flat g here).1 in
    let end = c.in-Err.ensures.err in
    omega (arith, wide, end.inside)

pub returns-in-Ok-clause-exact : goal.returns-in-Ok-clause-exact
returns-in-Ok-clause-exact g c = λ coded s stand.
    let a = c.args.frame.now.checked.now in
    let conf = a.configuration in
    let line = c.args.line.now in
    let here = (goal.at.returns-in-Ok-clause-exact g
    c).After-accepted_configuration_has_sound_parts in
    let long : length c.finish_wide_colours.new.out ≡ line.count * width_bytes conf =
    c.finish_wide_colours.auto.out ∙ c.requires.out in
    colours_finished conf line.first line.count line.y c.args.samples.now s stand (wide g here).0
    (flat g here).1 (all g here).0
    (all g here).1 (flat g here).0 c.finish_wide_colours.new.out long c.are_bytes.ensures
    c.in-Ok.ensures.ok

pub returns-in-Err-clause-exact : goal.returns-in-Err-clause-exact
returns-in-Err-clause-exact g c = λ coded s stand.
    let a = c.args.frame.now.checked.now in
    let conf = a.configuration in
    let line = c.args.line.now in
    let here = (goal.at.returns-in-Err-clause-exact g
    c).After-accepted_configuration_has_sound_parts in
    let missing = colours_missing conf line.first line.count line.y c.args.samples.now s stand
    (wide g here).0
    (flat g here).1 (all g here).0 (all g here).1 (flat g here).0 c.in-Err.x c.in-Err.ensures.err in
    let f = c.colourless.ensures.fault in
    (c.in-Err.x, f.0, missing, f.1, f.2, refl)
