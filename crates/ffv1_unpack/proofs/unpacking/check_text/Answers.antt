-- Whether pictures of a configuration have a text: YUV4MPEG2 names six kinds of chroma of 8 bits,
-- and fewer of other depths, as `has_chroma_name_at` has them, and PPM has no transparency.
use Rattle.std.proofs.Common.{◌≡◌, true, false, ◌∙◌, ap, refl, subst, sym}
use Rattle.ffv1_record.specs.Configuration.{Configuration, is_rct}
use Rattle.ffv1_y4m.specs.VideoHead.{is_named}
use Rattle.ffv1_y4m.specs.declared.head.VideoHead.{VideoHead}
use Rattle.ffv1_codec.specs.SliceList.{Said}
use Rattle.ffv1_video.specs.declared.fault.Fault.TheVariants as fault
use Rattle.ffv1_unpack.specs.Unpacked.{HasTextBy, LacksTextBy}
use Rattle.ffv1_unpack.proofs.ImageLines.{other_colour}
use Rattle.ffv1_unpack.proofs.unpacking.check_text.Goals as goal

pub returns-then-not-has_chroma_name_at-clause-err :
    goal.returns-then-not-has_chroma_name_at-clause-err
returns-then-not-has_chroma_name_at-clause-err g c =
    let k = c.args.checked.now.configuration in
    let said : Said = record { structure = 0; sar_num = 0; sar_den = 0 } in
    let ycbcr : is_rct k.colour ≡ false = ap (λ (z : Configuration). is_rct z.colour)
    c.config-config.ensures.value ∙ other_colour _ c.eq.result c.eq.ensures.value
    c.if-eq.false in
    let unnamed : c.has_chroma_name_at.result ≡ false = search in
    let named = ap (λ (v : VideoHead). is_named c.depth.result v.chroma_planes v.log2_h v.log2_v
    v.extra_plane) (c.text_head.ensures said) ∙
    ap (λ n. is_named n k.chroma_planes k.log2_h k.log2_v k.extra_plane)
    c.depth.ensures.value in
    subst (λ b. LacksTextBy b k fault.NoY4mName) (sym ycbcr)
    (sym named ∙ sym c.has_chroma_name_at.ensures.named ∙ unnamed, refl)

pub returns-clause-ok : goal.returns-clause-ok
returns-clause-ok g c =
    let k = c.args.checked.now.configuration in
    let said : Said = record { structure = 0; sar_num = 0; sar_den = 0 } in
    let ycbcr : is_rct k.colour ≡ false = ap (λ (z : Configuration). is_rct z.colour)
    c.config-config.ensures.value ∙ other_colour _ c.eq.result c.eq.ensures.value
    c.if-eq.false in
    let yes : c.has_chroma_name_at.result ≡ true = search in
    let named = ap (λ (v : VideoHead). is_named c.depth.result v.chroma_planes v.log2_h v.log2_v
    v.extra_plane) (c.text_head.ensures said) ∙
    ap (λ n. is_named n k.chroma_planes k.log2_h k.log2_v k.extra_plane)
    c.depth.ensures.value in
    subst (λ b. HasTextBy b k) (sym ycbcr) (sym named ∙ sym c.has_chroma_name_at.ensures.named ∙
    yes)
