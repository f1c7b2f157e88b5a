-- The text of a stream: YUV4MPEG2 if its pictures are YCbCr, and images of PPM if they are
-- RCT.
use Rattle.std.specs.Prelude.{◌≡◌, ℕ, Bool, true, false, List, [], ◌∷◌, map, flat_map}
use Rattle.ffv1_wire.specs.Runs.{Line}
use Rattle.ffv1_record.specs.Configuration.{Configuration, is_rct}
use Rattle.ffv1_codec.specs.Picture.{Planes}
use Rattle.ffv1_codec.specs.SliceList.{Said}
use Rattle.ffv1_y4m.specs.Canonical.{canonical_text}
use Rattle.ffv1_y4m.specs.Images.{image_text, text_of_lines}
use Rattle.ffv1_y4m.specs.VideoHead.{is_named}
use Rattle.ffv1_y4m.specs.declared.head.VideoHead.{VideoHead}
use Rattle.ffv1_video.specs.declared.fault.Fault.{Fault}
use Rattle.ffv1_video.specs.declared.fault.Fault.TheVariants as fault
use Rattle.ffv1_video.specs.Colours.{range_named, siting_in}
use Rattle.ffv1_unpack.specs.Stream.{CodedFrame, Frame, Stream, shown_frames}

-- whether the pictures of a stream are written as PPM
abbrev pub is_ppm_stream : Stream → Bool
is_ppm_stream s = is_rct s.accepted.configuration.colour

-- the head of YUV4MPEG2 for pictures that say this
abbrev pub video_of : Stream → Said → VideoHead
video_of s said = record {
  width = s.accepted.configuration.width;
  height = s.accepted.configuration.height;
  rate = s.head.rate;
  scale = s.head.scale;
  structure = said.structure;
  sar_num = said.sar_num;
  sar_den = said.sar_den;
  chroma_planes = s.accepted.configuration.chroma_planes;
  log2_h = s.accepted.configuration.log2_h;
  log2_v = s.accepted.configuration.log2_v;
  extra_plane = s.accepted.configuration.extra_plane;
  siting = siting_in s.accepted.configuration s.head.colour;
  range = range_named s.head.colour.range;
}

-- the pictures that frames code
abbrev pub pictures : List CodedFrame → List Planes
pictures frames = map (λ (f : CodedFrame). f.planes) frames

-- the canonical text of frames, of which the first says what the header says
abbrev pub y4m_text : Stream → List CodedFrame → List ℕ
y4m_text s [] = []
y4m_text s (f ∷ fs) =
    canonical_text s.accepted.configuration.depth (video_of s f.said) (pictures (f ∷ fs))

-- an image for each frame
abbrev pub ppm_text : Stream → List CodedFrame → List ℕ
ppm_text s frames =
    let c = s.accepted.configuration in
    flat_map (image_text c.depth c.width c.height) (pictures frames)

abbrev pub text_by : Bool → Stream → List CodedFrame → List ℕ
text_by false s frames = y4m_text s frames
text_by true s frames = ppm_text s frames

-- the text of frames
abbrev pub text_of : Stream → List CodedFrame → List ℕ
text_of s frames = text_by (is_ppm_stream s) s frames

-- of frames of which some repeat the one before: each of those shows that one once more
abbrev pub shown_text : Stream → List Frame → List ℕ
shown_text s frames = text_of s (shown_frames frames)

-- each frame says this of its picture
abbrev pub AllSay : Said → List CodedFrame → Type 0
AllSay said [] = Unit {0}
AllSay said (f ∷ fs) = (f.said ≡ said) × AllSay said fs

-- each says what the first says, if a header says it once for all
abbrev pub AlikeBy : Bool → List CodedFrame → Type 0
AlikeBy true frames = Unit {0}
AlikeBy false [] = Unit {0}
AlikeBy false (f ∷ fs) = AllSay f.said fs

abbrev pub AreAlike : Stream → List CodedFrame → Type 0
AreAlike s frames = AlikeBy (is_ppm_stream s) frames

-- the stream has a text: its chroma has a name at its depth; PPM has no transparency
abbrev pub HasTextBy : Bool → Configuration → Type 0
HasTextBy false c = is_named c.depth c.chroma_planes c.log2_h c.log2_v c.extra_plane ≡ true
HasTextBy true c = c.extra_plane ≡ false

abbrev pub HasText : Stream → Type 0
HasText s = HasTextBy (is_ppm_stream s) s.accepted.configuration

-- or it has none, which has this fault
abbrev pub LacksTextBy : Bool → Configuration → Fault → Type 0
LacksTextBy false c f =
    (is_named c.depth c.chroma_planes c.log2_h c.log2_v c.extra_plane ≡ false)
    × (f ≡ fault.NoY4mName)
LacksTextBy true c f = (c.extra_plane ≡ true) × (f ≡ fault.NoPpm)

abbrev pub LacksText : Stream → Fault → Type 0
LacksText s f = LacksTextBy (is_ppm_stream s) s.accepted.configuration f

-- what is written of a frame before its first fault: of an image the rows that were handed over
abbrev pub rows_by : Bool → Stream → List Line → List ℕ
rows_by false s lines = []
rows_by true s lines =
    let c = s.accepted.configuration in text_of_lines c.depth c.width c.height [] 0 lines

abbrev pub rows_of : Stream → List Line → List ℕ
rows_of s lines = rows_by (is_ppm_stream s) s lines
