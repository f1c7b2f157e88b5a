-- `load_words`: the same of samples of more than 8 bits.
use Rattle.std.proofs.Common.{◌≡◌, refl, zero, suc, ◌+◌, ◌*◌, ◌/◌, ◌<◌, ◌∙◌, ℕ, List, ap, sym}
use Rattle.std.proofs.Common.{subst, length, true, arith}
use Rattle.std.proofs.lemmas.Grind.{common_steps, elements}
use Rattle.ffv1_samples.specs.Samples.{sample_bytes, samples_of}
use Rattle.ffv1_samples.proofs.Depths.{length_samples}
use Rattle.ffv1_rct.specs.Lines.{AreCodedIn}
use Rattle.ffv1_record.specs.Configuration.{Configuration}
use Rattle.ffv1_slice.specs.Grid.{coded_of}
use Rattle.ffv1_frame.specs.Picture.{Planes, cell_in, cell_height, green_of, blue_of}
use Rattle.ffv1_encode.specs.Internal.CellRows.{IsLine}
use Rattle.ffv1_encode.proofs.lemmas.cell_rows.RowsShown.{Transformed, is_colour, same_width, luma_shows, blue_shows}
use Rattle.ffv1_encode.proofs.lemmas.cell_rows.RowsShown.{red_shows}
use Rattle.ffv1_frame.proofs.lemmas.picture.WideLines.{rct_bits}
use Rattle.ffv1_encode.proofs.cell_rows.load_words.Given.{Over}
use Rattle.ffv1_encode.proofs.cell_rows.load_words.Goals.{After-depth-depth}
use Rattle.ffv1_encode.proofs.cell_rows.load_words.Goals as goal

-- RCT has planes of one size
flat : (g : Over) (c : After-depth-depth g) →
    (c.args.slice.now.checked.now.configuration.chroma_planes ≡ true)
    × (c.args.slice.now.checked.now.configuration.log2_h ≡ 0)
    × (c.args.slice.now.checked.now.configuration.log2_v ≡ 0)
flat g c =
    let a = c.args.slice.now.checked.now in
    c.accepted_configuration_has_sound_parts.ensures.rct a.configuration a.table
    c.config-config.ensures.accepted (is_colour a.configuration.colour c.requires.rct)

-- a row of a line's samples is as long as the first plane's cell is wide
filled : (c : Configuration) (planes : Planes) (n p y : ℕ) (line row : List ℕ) → c.log2_h ≡ 0 →
    IsLine c planes n p y line → row ≡ samples_of c.depth line → length row ≡
    (cell_in c planes n 0).width
filled c planes n p y line row flat is same = ap length same ∙ length_samples c.depth
    (cell_in c planes n p).width line is.wide ∙ same_width c planes n p flat

-- a cell of another plane is as high as the first plane's
same_height : (c : Configuration) (n p : ℕ) → c.log2_v ≡ 0 → cell_height c n p ≡ cell_height c n 0
same_height c n zero flat = refl
same_height c n (suc zero) flat = ap (λ k. coded_of
    (record { size = c.height; count = c.rows; log2 = k }) (n / c.columns)) flat
same_height c n (suc (suc zero)) flat = ap (λ k. coded_of
    (record { size = c.height; count = c.rows; log2 = k }) (n / c.columns)) flat
same_height c n (suc (suc (suc p))) flat = refl

pub fill-requires-2 : goal.fill-requires-2
fill-requires-2 g c =
    let slice = c.args.slice.now in
    let conf = slice.checked.now.configuration in
    let planes = slice.picture.now in
    let n = slice.number in
    let flat = flat g (goal.at.fill-requires-2 g c).After-depth-depth in
    let p = c.green_of-green.result in
    let wide : (cell_in conf planes n p).width ≡ length c.args.second.now.cur.items =
    same_width conf planes n p flat.1 ∙ sym (same_width conf planes n 1 flat.1) ∙
    sym c.requires.rolled.blue.cur_long ∙ g.met.W.Word.lengths c.args.second.now.cur.items in
    c.line-2.ensures.line.wide ∙ ap (λ d. sample_bytes d * (cell_in conf planes n p).width)
    (sym c.depth-depth.ensures.value) ∙ ap (λ k. sample_bytes c.depth-depth.result * k) wide

pub line-requires-3-clause-inside : goal.line-requires-3-clause-inside
line-requires-3-clause-inside g c =
    let slice = c.args.slice.now in
    let conf = slice.checked.now.configuration in
    let n = slice.number in
    let flat = flat g (goal.at.line-requires-3-clause-inside g c).After-depth-depth in
    subst (λ h. c.args.y < h) (sym (same_height conf n c.blue_of-blue.result flat.2))
    c.requires.inside

pub fill-requires-3 : goal.fill-requires-3
fill-requires-3 g c =
    let slice = c.args.slice.now in
    let conf = slice.checked.now.configuration in
    let planes = slice.picture.now in
    let n = slice.number in
    let flat = flat g (goal.at.fill-requires-3 g c).After-depth-depth in
    let p = c.blue_of-blue.result in
    let wide : (cell_in conf planes n p).width ≡ length c.args.third.now.cur.items =
    same_width conf planes n p flat.1 ∙ sym (same_width conf planes n 2 flat.1) ∙
    sym c.requires.rolled.red.cur_long ∙ g.met.W.Word.lengths c.args.third.now.cur.items in
    c.line-3.ensures.line.wide ∙ ap (λ d. sample_bytes d * (cell_in conf planes n p).width)
    (sym c.depth-depth.ensures.value) ∙ ap (λ k. sample_bytes c.depth-depth.result * k) wide

pub transform_words-requires-clause-bits : goal.transform_words-requires-clause-bits
transform_words-requires-clause-bits g c =
    let conf = c.args.slice.now.checked.now.configuration in
    subst g.W.LineWord.holds (rct_bits conf c.requires.rct ∙ ap (λ d. d + 1)
    (sym c.depth-depth.ensures.value)) c.requires.bits

pub transform_words-requires-clause-second : goal.transform_words-requires-clause-second
transform_words-requires-clause-second g c =
    let slice = c.args.slice.now in
    let samples = g.W.Word.samples in
    let r_row = samples c.fill.new.row.items in
    let h_row = samples c.fill-2.new.row.items in
    let conf = slice.checked.now.configuration in
    let planes = slice.picture.now in
    let is : c.depth-depth.result ≡ conf.depth = c.depth-depth.ensures.value in
    let flat = flat g (goal.at.transform_words-requires-clause-second g c).After-depth-depth in
    filled conf planes slice.number c.green_of-green.result c.args.y c.line-2.result.now h_row
    flat.1 c.line-2.ensures.line (c.fill-2.ensures.filled ∙
    ap (λ k. samples_of k c.line-2.result.now) is)
    ∙ sym (filled conf planes slice.number 0 c.args.y c.line.result.now r_row flat.1
    c.line.ensures.line (c.fill.ensures.filled ∙ ap (λ k. samples_of k c.line.result.now) is))

pub transform_words-requires-clause-third : goal.transform_words-requires-clause-third
transform_words-requires-clause-third g c =
    let slice = c.args.slice.now in
    let samples = g.W.Word.samples in
    let r_row = samples c.fill.new.row.items in
    let b_row = samples c.fill-3.new.row.items in
    let conf = slice.checked.now.configuration in
    let planes = slice.picture.now in
    let is : c.depth-depth.result ≡ conf.depth = c.depth-depth.ensures.value in
    let flat = flat g (goal.at.transform_words-requires-clause-third g c).After-depth-depth in
    filled conf planes slice.number c.blue_of-blue.result c.args.y c.line-3.result.now b_row flat.1
    c.line-3.ensures.line (c.fill-3.ensures.filled ∙ ap (λ k. samples_of k c.line-3.result.now)
    is)
    ∙ sym (filled conf planes slice.number 0 c.args.y c.line.result.now r_row flat.1
    c.line.ensures.line (c.fill.ensures.filled ∙ ap (λ k. samples_of k c.line.result.now) is))

pub returns-clause-loaded : goal.returns-clause-loaded
returns-clause-loaded g c =
    let slice = c.args.slice.now in
    let samples = g.W.Word.samples in
    let r_row = samples c.fill.new.row.items in
    let h_row = samples c.fill-2.new.row.items in
    let b_row = samples c.fill-3.new.row.items in
    let conf = slice.checked.now.configuration in
    let planes = slice.picture.now in
    let n = slice.number in
    let y = c.args.y in
    let d = c.depth-depth.result in
    let is : d ≡ conf.depth = c.depth-depth.ensures.value in
    let width = (cell_in conf planes n 0).width in
    let flat = flat g (goal.at.returns-clause-loaded g c).After-depth-depth in
    let r = c.line.result.now in
    let h = c.line-2.result.now in
    let b = c.line-3.result.now in
    let luma = samples c.transform_words.new.first.items in
    let blue = samples c.transform_words.new.second.items in
    let red = samples c.transform_words.new.third.items in
    let first : IsLine conf planes n 0 y r = c.line.ensures.line in
    let second : IsLine conf planes n (green_of conf) y h = subst (λ p. IsLine conf planes n p y h)
    c.green_of-green.ensures.value c.line-2.ensures.line in
    let third : IsLine conf planes n (blue_of conf) y b = subst (λ p. IsLine conf planes n p y b)
    c.blue_of-blue.ensures.value c.line-3.ensures.line in
    let r_is : r_row ≡ samples_of conf.depth r = c.fill.ensures.filled ∙ ap (λ k. samples_of k r)
    is in
    let h_is : h_row ≡ samples_of conf.depth h = c.fill-2.ensures.filled ∙ ap (λ k. samples_of k h)
    is in
    let b_is : b_row ≡ samples_of conf.depth b = c.fill-3.ensures.filled ∙ ap (λ k. samples_of k b)
    is in
    let long : length r_row ≡ width = ap length r_is ∙ length_samples conf.depth width r
    first.wide in
    let coded = c.transform_words.ensures.coded in
    let coded : AreCodedIn conf.depth width (samples_of conf.depth r) (samples_of conf.depth h)
    (samples_of conf.depth b) luma blue red =
    subst (λ xs. AreCodedIn conf.depth width xs (samples_of conf.depth h) (samples_of conf.depth b)
    luma blue red) r_is
    (subst (λ xs. AreCodedIn conf.depth width r_row xs (samples_of conf.depth b) luma blue red) h_is
    (subst (λ xs. AreCodedIn conf.depth width r_row h_row xs luma blue red) b_is
    (subst (λ k. AreCodedIn k width r_row h_row b_row luma blue red) is
    (subst (λ m. AreCodedIn d m r_row h_row b_row luma blue red) long coded)))) in
    let t : Transformed conf planes n y r h b luma blue red = record {
      rct = c.requires.rct;
      flat_h = flat.1;
      flat_v = flat.2;
      first = first;
      second = second;
      third = third;
      coded = coded;
    } in
    record {
      luma = record {
        above = c.requires.rolled.luma.above;
        two_long = c.requires.rolled.luma.two_long;
        cur_long = c.transform_words.ensures.y ∙ long;
        shows = luma_shows conf planes n y r h b luma blue red t;
      };
      blue = record {
        above = c.requires.rolled.blue.above;
        two_long = c.requires.rolled.blue.two_long;
        cur_long = c.transform_words.ensures.cb ∙ long ∙ sym (same_width conf planes n 1 flat.1);
        shows = blue_shows conf planes n y r h b luma blue red t;
      };
      red = record {
        above = c.requires.rolled.red.above;
        two_long = c.requires.rolled.red.two_long;
        cur_long = c.transform_words.ensures.cr ∙ long ∙ sym (same_width conf planes n 2 flat.1);
        shows = red_shows conf planes n y r h b luma blue red t;
      };
    }

pub transform_words-requires-clause-red : goal.transform_words-requires-clause-red
transform_words-requires-clause-red g c = grind (arith, common_steps)

pub transform_words-requires-clause-green : goal.transform_words-requires-clause-green
transform_words-requires-clause-green g c = grind (arith, common_steps)

pub transform_words-requires-clause-blue : goal.transform_words-requires-clause-blue
transform_words-requires-clause-blue g c = grind (arith, common_steps)

pub line-requires-2-clause-inside : goal.line-requires-2-clause-inside
line-requires-2-clause-inside g c = grind (arith, elements)
