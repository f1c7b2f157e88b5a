-- A payload that codes a picture is decoded to its end: its lines are handed over, and its slices
-- say what the picture's do, if it is cut as it has to be.
use Rattle.std.proofs.Common.{ℕ, ◌*◌, ◌<◌, List, [], ◌++◌, subst}
use Rattle.ffv1_range.specs.Codes.{Codes, AreBytes}
use Rattle.ffv1_range.specs.History.{decisions_after}
use Rattle.ffv1_record.specs.Accepted.{Accepted, IsAccepted}
use Rattle.ffv1_slice.specs.Footer.{foot_length}
use Rattle.ffv1_slice.specs.Cutting.{coded_of}
use Rattle.ffv1_frame.specs.CodedSlice.{CodesSlice}
use Rattle.ffv1_frame.proofs.lemmas.laws.decoding.PictureLines.{ColourLaws}
use Rattle.ffv1_frame.proofs.lemmas.laws.decoding.PictureMade.{PictureLaws}
use Rattle.ffv1_frame.proofs.lemmas.laws.decoding.SlicesRead.{FrontLaws}
use Rattle.ffv1_frame.proofs.lemmas.laws.decoding.FromCoded.{picture_laws, coded_bytes, same_coded, goes_of}
use Rattle.ffv1_frame.proofs.laws.decoding.coded_picture_is_decoded.Goals as goal

laws : (c : goal.After-planes_are_divided_part_by_part) (a : Accepted) → IsAccepted a.configuration
    a.table → PictureLaws a
laws c a is =
    picture_laws a (c.planes_are_divided_part_by_part.ensures a.configuration a.table is)
    (record {
      steps = c.agreeing_cells_code_rows_alike.ensures.steps;
      suits =
          c.agreeing_cells_code_rows_alike.ensures.suits;
    })
    c.suiting_residuals_have_symbols.ensures.below

colours : (c : goal.After-planes_are_divided_part_by_part) → ColourLaws
colours c = record {
  small = record {
    coded = c.line_transform_is_lists_at_depth.ensures.coded;
    luma =
        c.transform_stays_in_range_at_depth.ensures.luma;
    blue =
        c.transform_stays_in_range_at_depth.ensures.blue;
    red =
        c.transform_stays_in_range_at_depth.ensures.red;
  };
  only = c.transform_is_one_to_one_at_depth.ensures.colour;
}

front : (c : goal.After-planes_are_divided_part_by_part) (a : Accepted) (bytes : List ℕ) →
    IsAccepted a.configuration a.table → AreBytes bytes → FrontLaws a bytes
front c a bytes is are = record {
  front = λ xs ys codes.
      c.bytes_code_each_beginning.ensures bytes (decisions_after a.table [] xs)
      (decisions_after a.table ([] ++ xs) ys) are
      (c.each_decision_has_a_state.ensures.named a.table ([] ++ xs) ys is.closed)
      (subst (Codes bytes) (c.decisions_of_two_parts_join.ensures.history a.table [] xs ys) codes);
}

pub returns : goal.returns
returns c = λ a payload planes info codes spans is bytes same.
    let conf = a.configuration in
    let foot = foot_length conf.ec in
    let coded = coded_of payload foot spans in
    let slices : (n : ℕ) → n < conf.columns * conf.rows → CodesSlice (coded n) a planes info n =
    λ n inside.
    subst (λ bs. CodesSlice bs a planes info n)
    (same_coded payload foot spans codes.spans n (conf.columns * conf.rows) inside same)
    (codes.slices n inside) in
    let goes = goes_of a planes info coded (laws c a is)
    (c.planes_are_divided_part_by_part.ensures conf a.table is).part (colours c)
    (λ n. front c a (coded n) is (coded_bytes payload foot spans n bytes)) slices
    codes.picture (λ p x y. c.coded_samples_fit_their_bits.ensures a planes p x y codes.picture) in
    (goes.end, goes.decodes, goes.says, goes.lines)
