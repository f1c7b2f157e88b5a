-- Heads of a video as readers give them, and when its text is refused or wants more.
use Rattle.std.specs.Prelude.{◌≡◌, ◌⊎◌, ℕ, ◌++◌, Bool, true, false, List, Option, Some}
use Rattle.std.specs.Prelude.{Ok, Err}
use Rattle.ffv1_y4m.specs.Pictures.{GrowsInPicture}
use Rattle.ffv1_y4m.specs.Ppm.{GrowsInImage}
use Rattle.ffv1_y4m.specs.Reads.{Wants}
use Rattle.ffv1_y4m.specs.VideoHead.{IsHead, IsSized, colour_head}
use Rattle.ffv1_y4m.specs.declared.fault.Fault.{Fault as Y4mFault}
use Rattle.ffv1_video.specs.Video.{SaidHead}
use Rattle.ffv1_y4m.specs.declared.head.VideoHead.{VideoHead}
use Rattle.ffv1_codec.specs.Picture.{Planes}
use Rattle.ffv1_reads.specs.Known.{Known}
use Rattle.ffv1_video.specs.declared.fault.Fault.{Fault}
use Rattle.ffv1_video.specs.Faults.{of_y4m}
use Rattle.ffv1_video.specs.Video.{at_first, picture_next, video_head}

-- the head as readers give it
abbrev pub IsHeadBy : Bool → VideoHead → Type 0
IsHeadBy true h = IsSized h × (h ≡ colour_head h.width h.height)
IsHeadBy false h = IsHead h

-- if the text is known, it has no head, by this fault
abbrev pub LacksKnown : ℕ → Option (List ℕ) → Option (List ℕ) → Fault → Type 0
LacksKnown most old new f = Known old new (λ text rest.
    (g : Y4mFault) × (video_head most text ≡ Err (g, rest)) × (f ≡ of_y4m g))

-- such bytes of a text were taken, up to what is left
abbrev pub Taken : (List ℕ → Type 0) → List ℕ → List ℕ → Type 0
Taken are text rest = (bytes : List ℕ) × (text ≡ bytes ++ rest) × are bytes

-- when memory may be refused for the next picture
abbrev pub GrowsInNext : Bool → ℕ → SaidHead → Bool → List ℕ → Type 0
GrowsInNext true most h first =
    GrowsInImage most (record { head = h.head; depth = h.depth }) first
GrowsInNext false most h first = GrowsInPicture h.depth h.head

-- after pictures one more byte of the next one was to be read
abbrev pub PictureWants : Bool → ℕ → SaidHead → List Planes → List ℕ → List ℕ → Type 0
PictureWants ppm most h pictures left rest =
    Taken (Wants (picture_next ppm most h (at_first pictures))) left rest

-- after pictures memory was refused: for the next one, if it grows; or for what is made of it,
-- once it was read
abbrev pub PictureLacks : Bool → ℕ → SaidHead → List Planes → List ℕ → List ℕ → Type 0
PictureLacks ppm most h pictures left rest =
    Taken (GrowsInNext ppm most h (at_first pictures)) left rest
    ⊎ ((p : Planes) × (picture_next ppm most h (at_first pictures) left ≡ Ok (Some p, rest)))
