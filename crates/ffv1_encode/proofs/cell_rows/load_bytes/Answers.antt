-- Row y of Y, Cb and Cr in RCT, of samples of 8 bits.
use Rattle.std.proofs.Common.{◌≡◌, ◌*◌, ◌∙◌, ℕ, ap, sym, subst, length, arith}
use Rattle.ffv1_samples.specs.Samples.{sample_bytes, samples_of}
use Rattle.ffv1_rct.specs.Lines.{AreCoded, AreCodedIn}
use Rattle.ffv1_frame.specs.Picture.{cell_in}
use Rattle.ffv1_encode.specs.Internal.CellRows.{IsLine}
use Rattle.ffv1_encode.proofs.lemmas.cell_rows.RowsShown.{Transformed, is_colour, same_width, luma_shows, blue_shows}
use Rattle.ffv1_encode.proofs.lemmas.cell_rows.RowsShown.{red_shows}
use Rattle.ffv1_frame.proofs.lemmas.picture.Words.{green_byte, blue_byte}
use Rattle.ffv1_encode.proofs.cell_rows.load_bytes.Goals as goal

one_byte : (depth n long : ℕ) → depth ≡ 8 → long ≡ sample_bytes depth * n → long ≡ n
one_byte depth n long is e = e ∙ ap (λ d. sample_bytes d * n) is ∙
    (let once : 1 * n ≡ n = omega arith in once)

pub returns-clause-loaded : goal.returns-clause-loaded
returns-clause-loaded g c =
    let slice = c.args.slice.now in
    let conf = slice.checked.now.configuration in
    let planes = slice.picture.now in
    let n = slice.number in
    let is = c.requires.depth in
    let width = (cell_in conf planes n 0).width in
    let flat = c.accepted_configuration_has_sound_parts.ensures.rct conf slice.checked.now.table
    c.config-config.ensures.accepted (is_colour conf.colour c.requires.rct) in
    let r = c.line.result.now in
    let h = c.line-2.result.now in
    let b = c.line-3.result.now in
    let luma = c.transform.new.y.items in
    let blue = c.transform.new.cb.items in
    let red = c.transform.new.cr.items in
    let long : length r ≡ width = one_byte conf.depth width (length r) is
    c.line.ensures.line.wide in
    let coded : AreCodedIn conf.depth width (samples_of conf.depth r) (samples_of conf.depth h)
    (samples_of conf.depth b) luma blue red =
    subst (λ d. AreCodedIn d width (samples_of d r) (samples_of d h) (samples_of d b) luma blue red)
    (sym is) (subst (λ m. AreCoded m r h b luma blue red) long c.transform.ensures.coded) in
    let t : Transformed conf planes n c.args.y r h b luma blue red = record {
      rct = c.requires.rct;
      flat_h = flat.1;
      flat_v = flat.2;
      first = c.line.ensures.line;
      second = subst (λ p. IsLine conf planes n p c.args.y h) (sym (green_byte conf is))
          c.line-2.ensures.line;
      third = subst (λ p. IsLine conf planes n p c.args.y b) (sym (blue_byte conf is))
          c.line-3.ensures.line;
      coded = coded;
    } in
    record {
      luma = record {
        above = c.requires.rolled.luma.above;
        two_long = c.requires.rolled.luma.two_long;
        cur_long = c.transform.ensures.y ∙ long;
        shows = luma_shows conf planes n c.args.y r h b luma blue red t;
      };
      blue = record {
        above = c.requires.rolled.blue.above;
        two_long = c.requires.rolled.blue.two_long;
        cur_long = c.transform.ensures.cb ∙ long ∙ sym (same_width conf planes n 1 flat.1);
        shows = blue_shows conf planes n c.args.y r h b luma blue red t;
      };
      red = record {
        above = c.requires.rolled.red.above;
        two_long = c.requires.rolled.red.two_long;
        cur_long = c.transform.ensures.cr ∙ long ∙ sym (same_width conf planes n 2 flat.1);
        shows = red_shows conf planes n c.args.y r h b luma blue red t;
      };
    }
