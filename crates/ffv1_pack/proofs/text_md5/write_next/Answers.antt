-- Reads the next picture, and writes its line.
use Rattle.std.proofs.Common.{◌≡◌, ◌∙◌, true, ap, sym, subst}
use Rattle.ffv1_codec.specs.Picture.{planes_of}
use Rattle.ffv1_y4m.specs.State.{samples_of}
use Rattle.ffv1_y4m.specs.VideoHead.{Fits}
use Rattle.ffv1_video.specs.RawPicture.{AreEven}
use Rattle.ffv1_video.specs.Video.{SaidHead}
use Rattle.ffv1_pack.specs.VideoReads.{IsHeadBy}
use Rattle.ffv1_pack.specs.Internal.VideoReads.{reading_of}
use Rattle.ffv1_video.proofs.EvenPlanes.{even_images}
use Rattle.ffv1_pack.proofs.text_md5.write_next.Goals as goal

pub put_picture-requires : goal.put_picture-requires
put_picture-requires g c = λ given.
    let more : c.in_ok-next.field-0 ≡ true = search in
    let s = reading_of c.next.new.self in
    let read = c.in_ok-next.ensures.ok in
    let is : IsHeadBy true s.head.head = subst (λ b. IsHeadBy b s.head.head)
    (sym c.is_ppm.ensures ∙ given) c.head-head.ensures.head in
    let planes = samples_of c.next.new.planes.items in
    let fits : Fits s.head.depth s.head.head planes =
    subst (λ (k : SaidHead). Fits k.depth k.head planes) (sym read.head)
    (c.in_ok-next.ensures.fits more) in
    subst AreEven (ap planes_of (sym c.deref.ensures.value))
    (even_images s.head.depth s.head.head planes is.1 fits)
