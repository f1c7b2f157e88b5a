-- Writes the line of the picture of these planes, which says this, and before the first one the
-- head.
use Rattle.std.proofs.Common.{rules, ◌≡◌, ℕ, Bool, true, List, ap, sym, subst, ◌∙◌, Ok}
use Rattle.std.specs.Io.KnownBytes.{Appends}
use Rattle.ffv1_wire.specs.Passage.{passage}
use Rattle.ffv1_record.specs.Configuration.{Configuration, is_rct}
use Rattle.ffv1_codec.specs.Picture.{Planes, planes_of}
use Rattle.ffv1_y4m.specs.declared.head.VideoHead.{VideoHead}
use Rattle.ffv1_unpack.specs.Internal.FrameMd5.{headed_md5}
use Rattle.ffv1_unpack.specs.Internal.PicturesOut.{head_saying}
use Rattle.ffv1_unpack.specs.Internal.Told.{WritesFrame}
use Rattle.ffv1_video.proofs.EvenPlanes.{even_planes}
use Rattle.ffv1_unpack.proofs.ImageLines.{colour_of}
use Rattle.ffv1_unpack.proofs.hashing.write_picture.Goals as goal

pub put_line-requires : goal.put_line-requires
put_line-requires g c = λ given.
    let a = c.args.checked.now in
    let is : is_rct a.configuration.colour ≡ true = ap (λ (k : Configuration). is_rct k.colour)
    c.config.ensures.value ∙ sym c.is_rct-rct.ensures ∙ given in
    let ok = c.config.ensures.accepted in
    let parts = c.accepted_configuration_has_sound_parts.ensures.rct a.configuration a.table ok
    (colour_of a.configuration.colour is) in
    even_planes a.configuration (planes_of c.args.planes.now) parts.0
    (λ p. c.rct_planes_have_the_picture_size.ensures.wide a p ok is)
    (λ p. c.rct_planes_have_the_picture_size.ensures.high a p ok is) c.requires

pub returns-clause-answer : goal.returns-clause-answer
returns-clause-answer g c =
    let a = c.args.checked.now in
    let h = head_saying c.args.lines.now.head c.args.info in
    let n = c.args.place.number in
    let rct : c.is_rct-rct.result ≡ is_rct a.configuration.colour = c.is_rct-rct.ensures ∙
    sym (ap (λ (k : Configuration). is_rct k.colour) c.config.ensures.value) in
    let depth : c.depth-depth.result ≡ a.configuration.depth = c.depth-depth.ensures.value in
    let l = c.args.lines.now.head in
    let shown = planes_of c.args.planes.now in
    let by : Bool → ℕ → VideoHead → Planes → List ℕ = λ b d v z. headed_md5 b d v c.args.place.first n z in
    let said : ℕ → ℕ → ℕ → VideoHead = λ x y z. record l
    { structure = x; sar_num = y; sar_den = z } in
    let head : said c.structure.result c.sar_num.result c.sar_den.result ≡ h =
    ap (λ x. said x c.sar_num.result c.sar_den.result) c.structure.ensures.value
    ∙ ap (λ y. said c.args.info.structure y c.sar_den.result) c.sar_num.ensures ∙
    ap (λ z. said c.args.info.structure c.args.info.sar_num z) c.sar_den.ensures in
    let text : c.put_line.new.text.items ≡ by (is_rct a.configuration.colour)
    a.configuration.depth h shown =
    c.in_ok-put_line.ensures ∙ ap (λ v. by c.is_rct-rct.result c.depth-depth.result v shown) head
    ∙ ap (λ b. by b c.depth-depth.result h shown) rct
    ∙ ap (λ d. by (is_rct a.configuration.colour) d h shown) depth in
    let wrote : (g.W.ByteOut.failures c.write_all.new.out ≡ g.W.ByteOut.failures c.args.output.now)
    × Appends (g.W.ByteOut.contents c.args.output.now) (g.W.ByteOut.contents c.write_all.new.out)
    c.put_line.new.text.items = search rules in
    let output = passage g.W.ByteOut.contents g.W.ByteOut.failures c.args.output.now
    c.write_all.new.out in
    subst (λ t. WritesFrame t output (Ok tt)) text wrote
