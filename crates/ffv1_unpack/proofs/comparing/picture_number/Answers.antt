-- The MD5 of the picture of these planes, as a number whose first byte is the highest.
use Rattle.std.proofs.Common.{◌≡◌, true, ap, sym, ◌∙◌}
use Rattle.std.specs.Int.{from_be_bytes, w128}
use Rattle.md5.specs.Md5.{md5}
use Rattle.ffv1_record.specs.Configuration.{Configuration, is_rct}
use Rattle.ffv1_codec.specs.Picture.{planes_of}
use Rattle.ffv1_video.specs.RawPicture.{raw_bytes}
use Rattle.ffv1_video.proofs.EvenPlanes.{even_planes}
use Rattle.ffv1_unpack.proofs.ImageLines.{colour_of}
use Rattle.ffv1_unpack.proofs.comparing.picture_number.Goals as goal

pub picture_md5-requires : goal.picture_md5-requires
picture_md5-requires g c = λ given.
    let a = c.args.checked.now in
    let is : is_rct a.configuration.colour ≡ true = ap (λ (k : Configuration). is_rct k.colour)
    c.config.ensures.value ∙ sym c.is_rct-rct.ensures ∙ given in
    let ok = c.config.ensures.accepted in
    let parts = c.accepted_configuration_has_sound_parts.ensures.rct a.configuration a.table ok
    (colour_of a.configuration.colour is) in
    even_planes a.configuration (planes_of c.args.planes.now) parts.0
    (λ p. c.rct_planes_have_the_picture_size.ensures.wide a p ok is)
    (λ p. c.rct_planes_have_the_picture_size.ensures.high a p ok is) c.requires

pub returns : goal.returns
returns g c =
    let a = c.args.checked.now in
    let shown = planes_of c.args.planes.now in
    let rct : c.is_rct-rct.result ≡ is_rct a.configuration.colour = c.is_rct-rct.ensures ∙
    sym (ap (λ (k : Configuration). is_rct k.colour) c.config.ensures.value) in
    let depth : c.depth-depth.result ≡ a.configuration.depth = c.depth-depth.ensures.value in
    c.from_be_bytes.ensures ∙ ap (from_be_bytes w128) (c.picture_md5.ensures.hash
    ∙ ap (λ b. md5 (raw_bytes b c.depth-depth.result shown)) rct
    ∙ ap (λ d. md5 (raw_bytes (is_rct a.configuration.colour) d shown)) depth)
