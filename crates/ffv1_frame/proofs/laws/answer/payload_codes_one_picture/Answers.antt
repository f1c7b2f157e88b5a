-- A payload codes one picture at most, with one structure and aspect.
use Rattle.std.proofs.Common.{◌≡◌, ℕ, ◌*◌, ◌≤◌, Some, refl, ap, sym, ◌∙◌}
use Rattle.ffv1_slice.specs.Footer.{foot_length}
use Rattle.ffv1_slice.specs.Cutting.{coded_of}
use Rattle.ffv1_frame.specs.SliceList.{Said}
use Rattle.ffv1_frame.specs.Decoding.{State}
use Rattle.ffv1_frame.proofs.lemmas.laws.decoding.FromCoded.{coded_bytes}
use Rattle.ffv1_frame.proofs.laws.answer.payload_codes_one_picture.Goals as goal

same_said : (a b : Said) → Some a ≡ Some b → a ≡ b
same_said a b e = cc

pub returns : goal.returns
returns c = λ a payload planes others info other is bytes f g.
    let conf = a.configuration in
    let foot = foot_length conf.ec in
    let spans : (n : ℕ) → n ≤ conf.columns * conf.rows → f.spans n ≡ g.spans n = λ n few.
    c.payload_has_one_cutting.ensures payload foot (conf.columns * conf.rows) f.spans g.spans
    f.cuts.cutting g.cuts.cutting n few in
    let this = c.coded_picture_is_decoded.ensures a payload planes info f f.spans is bytes
    (λ n few. refl) in
    let that = c.coded_picture_is_decoded.ensures a payload others other g f.spans is bytes spans in
    let same = c.decoding_has_one_end.ensures.end a (coded_of payload foot f.spans) this.0 that.0 is
    (λ n. coded_bytes payload foot f.spans n bytes) this.1 that.1 in (
      c.each_line_stands_once.ensures.planes a planes others is f.picture.fits g.picture.fits
          (sym this.3 ∙ ap (λ (s : State). s.lines) same ∙ that.3),
      same_said info other (sym this.2 ∙ ap (λ (s : State). s.info) same ∙ that.2),
    )
