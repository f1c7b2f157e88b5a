-- Appends what an AVI says, by the chunks of its RIFF.
use Rattle.std.proofs.Common.{◌∙◌, ◌++◌, ap}
use Rattle.std.specs.Prelude.{codes}
use Rattle.ffv1_outline.specs.AviOutline.{found_chunk, software_in}
use Rattle.ffv1_outline.specs.Facts.{closing, opening}
use Rattle.ffv1_outline.specs.Outline.{avi_facts, streams_facts}
use Rattle.ffv1_outline.proofs.FactChains.{fact_then}
use Rattle.ffv1_outline.proofs.outline.push_avi.Goals as goal

pub returns : goal.returns
unfolding avi_facts
returns g c =
    let form = c.args.form in
    let riff = c.args.riff.now in
    fact_then c.args.text.now.items (opening form (codes "application")) (software_in form riff)
    (closing form) (streams_facts form (found_chunk (codes "hdrl") riff)) _ _ _ _
    c.in_ok-push_opening.ensures c.in_ok-push_software.ensures
    (c.in_ok-extend_from_slice.ensures.items
    ∙ ap (λ z. c.push_software.new.text.items ++ z) c.closing.ensures)
    (c.in_ok-push_streams.ensures ∙ ap (λ z. c.extend_from_slice.new.self.items
    ++ streams_facts form z) c.found_chunk.ensures)
