-- Writes the picture of a payload as PPM.
use Rattle.std.proofs.Common.{◌≡◌, List, [], ◌∷◌, ◌++◌, length, ℕ, ◌+◌, ap, inl, inr, refl, sym, subst, get_or, ◌∙◌}
use Rattle.std.specs.Prelude.{slice_index}
use Rattle.std.specs.Io.KnownBytes.{Appends}
use Rattle.ffv1_wire.specs.Passage.{passage}
use Rattle.ffv1_record.specs.Accepted.{Accepted, IsAccepted}
use Rattle.ffv1_record.specs.Configuration.{is_rct}
use Rattle.ffv1_slice.specs.Cutting.{coded_of}
use Rattle.ffv1_slice.specs.Footer.{foot_length}
use Rattle.ffv1_codec.specs.Decoding.{top_of}
use Rattle.ffv1_codec.specs.Frame.{CodesPicture}
use Rattle.ffv1_codec.specs.Lines.{lines_of, places_of}
use Rattle.ffv1_codec.specs.Outcome.{OffersLine, lines_before}
use Rattle.ffv1_y4m.specs.Images.{image_places, image_text}
use Rattle.ffv1_y4m.specs.Sink.{Refuses, Takes}
use Rattle.ffv1_video.specs.Output.{WritesUpTo}
use Rattle.ffv1_unpack.specs.Internal.ImagesOut.{IsSinkFor, rows_so_far}
use Rattle.ffv1_unpack.specs.Unpacked.{HasTextBy}
use Rattle.ffv1_unpack.proofs.ImageLines.{colour_of, image_of}
use Rattle.ffv1_unpack.proofs.ImagesWritten.{counted, either, image_written, line_long, next_line, row_written}
use Rattle.ffv1_unpack.proofs.PicturesPut.{image_cut, image_put}
use Rattle.ffv1_unpack.proofs.picture_out.PpmWriterPictureOut.put.Goals as goal

pub returns-in-Ok-clause-answer : goal.returns-in-Ok-clause-answer
returns-in-Ok-clause-answer g c = λ s fs f same is text ready fits frame of.
    let a = c.args.decoder.now.accepted in
    let k = a.configuration in
    let old = c.args.self.now in
    let new = c.decode.new.sink in
    let accepted = subst (λ (z : Accepted). IsAccepted z.configuration z.table) same is in
    let codes : CodesPicture a c.args.payload.now f.planes f.said =
    subst (λ (p : List ℕ). CodesPicture a p f.planes f.said) of
    (subst (λ (z : Accepted). CodesPicture z f.payload f.planes f.said) same frame.codes) in
    let only = c.in-Ok.ensures.headline.only f.planes f.said codes in
    let rct = ap (λ (z : Accepted). is_rct z.configuration.colour) (sym same) ∙ ready.colours in
    let opaque = ap (λ (z : Accepted). z.configuration.extra_plane) (sym same)
    ∙ subst (λ b. HasTextBy b s.accepted.configuration) ready.colours text in
    let image = image_of k (λ p. c.rct_planes_have_the_picture_size.ensures.wide a p accepted rct)
    (λ p. c.rct_planes_have_the_picture_size.ensures.high a p accepted rct)
    (c.lines_are_handed_in_turn.ensures.colours a accepted rct opaque) f.planes
    (c.lines_are_handed_in_turn.ensures.lines a f.planes) codes.picture.fits
    (c.accepted_configuration_has_sound_parts.ensures.rct k a.table accepted
    (colour_of k.colour rct)).0 opaque in
    let sink = subst (λ (z : Accepted). IsSinkFor z.configuration old) same ready.takes in
    let written = image_written g.W.ByteOut.contents g.W.ByteOut.failures k old new f.planes sink
    image (c.accepted_configuration_is_in_range.ensures.sizes k a.table accepted).2
    c.image_is_written_after_the_others.ensures.image only.1 in
    let writing = passage g.W.ByteOut.contents g.W.ByteOut.failures old.out new.out in
    image_put s fs f old new ready writing
    (subst (λ (z : Accepted). IsSinkFor z.configuration new) (sym same) written.1)
    (c.sink_takes_the_next_line.ensures.taken old new (lines_of k f.planes) only.1)
    (subst (λ (z : Accepted). Appends (g.W.ByteOut.contents old.out) (g.W.ByteOut.contents new.out)
    (image_text z.configuration.depth z.configuration.width z.configuration.height f.planes))
    (sym same) written.0)

pub returns-in-Err-clause-answer : goal.returns-in-Err-clause-answer
returns-in-Err-clause-answer g c = λ s fs f same is text ready fits frame of.
    let a = c.args.decoder.now.accepted in
    let k = a.configuration in
    let contents = g.W.ByteOut.contents in
    let failed = g.W.ByteOut.failures in
    let payload = c.args.payload.now in
    let tally = c.decode.new.self.tally in
    let e = c.in-Err._fault in
    let old = c.args.self.now in
    let new = c.decode.new.sink in
    let accepted = subst (λ (z : Accepted). IsAccepted z.configuration z.table) same is in
    let codes : CodesPicture a payload f.planes f.said =
    subst (λ (p : List ℕ). CodesPicture a p f.planes f.said) of
    (subst (λ (z : Accepted). CodesPicture z f.payload f.planes f.said) same frame.codes) in
    let only = c.in-Err.ensures.headline.only f.planes f.said codes in
    let rct = ap (λ (z : Accepted). is_rct z.configuration.colour) (sym same) ∙ ready.colours in
    let opaque = ap (λ (z : Accepted). z.configuration.extra_plane) (sym same)
    ∙ subst (λ b. HasTextBy b s.accepted.configuration) ready.colours text in
    let sink = subst (λ (z : Accepted). IsSinkFor z.configuration old) same ready.takes in
    let at = sink.at in
    let order : places_of k ≡ image_places old.height = c.lines_are_handed_in_turn.ensures.colours a
    accepted rct opaque ∙ ap image_places (sym sink.height) in
    let writing = passage contents failed old.out new.out in
    elim (either (Takes contents failed) (Refuses contents failed) a payload old new tally e
    c.in-Err.ensures.exact) [
      | inl faulty ↦
          let h = c.sink_fault_is_a_refused_line.ensures.sink a payload old new tally e accepted
          c.in-Err.ensures.exact only.0 in
          let long = line_long contents failed k old e.plane e.line h.samples sink
          (c.rct_planes_have_the_picture_size.ensures.wide a e.plane accepted rct) h.line in
          let cut = c.sink_takes_the_next_line.ensures.refused old h.between new h.lines e.plane
          e.line h.samples h.rest at h.grows (h.turn ∙ order) long h.last in
          absurd
          (counted (failed old.out) (failed h.between.out) (failed new.out) cut.1
          (c.sink_takes_the_next_line.ensures.taken old h.between h.lines h.grows)
          (c.sink_takes_the_next_line.ensures.taken old new (lines_before faulty.faulty)
          faulty.grows))
      | inr r ↦
          let coded = coded_of payload (foot_length k.ec) (slice_index r.offsets) in
          let next = r.sink in
          let samples = get_or next.state.out next.number [] in
          let y = top_of k next.plane next.row + next.line in
          let placed = c.lines_are_handed_in_turn.ensures.offered a coded next.row next.number
          next.plane next.line next.state next.offers in
          let line = c.offered_lines_fit_the_configuration.ensures a coded next.row next.number
          next.plane next.line next.state accepted next.offers in
          let long = line_long contents failed k old next.plane y samples sink
          (c.rct_planes_have_the_picture_size.ensures.wide a next.plane accepted rct) line in
          let cut = c.sink_takes_the_next_line.ensures.refused old next.between new
          next.state.lines next.plane y samples placed.0 at next.grows (placed.1 ∙ order) long
          next.last in
          let row = row_written contents failed a payload old new tally e sink r
          (c.sink_writes_the_lines_it_took.ensures.taken old next.between next.state.lines
          next.grows) (c.sink_takes_the_next_line.ensures.taken old next.between
          next.state.lines next.grows) cut.0 cut.1 in
          let line_next = next_line contents failed a payload old new tally e sink r in (
            refl,
            row.1,
            image_cut s fs f old new ready writing next.state.lines line_next
                (subst (λ (z : Accepted). OffersLine z f.payload next.state.lines line_next)
                (sym same)
                (subst (λ (p : List ℕ). OffersLine a p next.state.lines line_next) (sym of) row.0))
                (subst (λ (z : Accepted). WritesUpTo (contents old.out) (contents new.out)
                (length (rows_so_far z.configuration next.state.lines))
                (rows_so_far z.configuration (next.state.lines ++ (line_next ∷ [])))) (sym same)
                row.2),
          )
    ]
