-- The canonical text of a video is one of the same video, as it is read.
use Rattle.std.proofs.Common.{◌≡◌, refl, ℕ, ◌<◌, ◌≤◌, Bool, true, false, None, Ok, List, [], ◌∷◌, ap, sym, subst, arith}
use Rattle.ffv1_codec.specs.Picture.{Planes}
use Rattle.ffv1_files.specs.declared.container.Scope.TheVariants.{FirstMovi, Whole}
use Rattle.ffv1_files.specs.Whole.{IsWhole}
use Rattle.ffv1_files.specs.Noted.{IsNotedOf}
use Rattle.ffv1_files.specs.declared.notes.Notes.{Notes}
use Rattle.ffv1_files.specs.Places.{Place, extent_in}
use Rattle.ffv1_avi.specs.Chunks.{AviFile, IsWritable}
use Rattle.ffv1_files.specs.Files.{file_read, frame_read, frames_read, more_frames}
use Rattle.ffv1_reads.specs.Head.{Head, without_colour}
use Rattle.ffv1_reads.specs.Reads as avi
use Rattle.ffv1_avi.specs.Written.{file_of}
use Rattle.ffv1_y4m.specs.Canonical.{as_said, canonical_text}
use Rattle.ffv1_y4m.specs.HeaderLine.{IsHeaderLine}
use Rattle.ffv1_y4m.specs.Images.{IsImages, IsImagesIn}
use Rattle.ffv1_y4m.specs.Text.{AllFit, IsText}
use Rattle.ffv1_y4m.specs.VideoHead.{IsHead, IsNamed, SaysNeither}
use Rattle.ffv1_video.specs.Video.{SaidHead}
use Rattle.ffv1_y4m.specs.declared.head.VideoHead.{VideoHead}
use Rattle.ffv1_video.specs.declared.profile.Profile.{Profile}
use Rattle.ffv1_video.specs.Profiles.{scope_in}
use Rattle.ffv1_engine.specs.RoundTrip.{IsFileIn, canonical_by, said_again}
use Rattle.ffv1_video.specs.Video.{IsReadVideoBy, IsVideoBy}
use Rattle.ffv1_words.specs.declared.order.ColourChoice.{ColourChoice}
use Rattle.ffv1_video.specs.Colours.{plain_head, shown_head}
use Rattle.ffv1_engine.proofs.ColourNumbers.{plain_head_by, plain_is, plain_named, shown_head_by, shown_named, shown_ppm}

-- what is known of files and of texts
pub record FileLaws (profile : Profile) : Type 0 where
  pub file : (head : Head) (frames : List (List ℕ)) → IsWritable (extent_in (scope_in profile)) head frames → IsFileIn profile (file_of head frames) (without_colour head) frames
  pub read : (head : Head) (frames : List (List ℕ)) → IsWritable (extent_in (scope_in profile)) head frames → file_read (scope_in profile) (file_of head frames) ≡ Ok ((without_colour head, frames), [])
  pub none : (head : Head) (frames : List (List ℕ)) (rest : List ℕ) (notes : Notes) → IsWritable (extent_in (scope_in profile)) head frames → IsNotedOf (scope_in profile) (file_of head frames) rest notes → notes.after ≡ None
  pub is_read : (file : List ℕ) (head : Head) (frames : List (List ℕ)) (is : AviFile file head frames) → file_read FirstMovi file ≡ Ok ((head, frames), is.rest)
  pub is_whole : (file : List ℕ) (head : Head) (frames : List (List ℕ)) (rest : List ℕ) → IsWhole file head frames rest → file_read Whole file ≡ Ok ((head, frames), rest)
  pub next : (place : Place) (text : List ℕ) → frames_read place text ≡ avi.read_on (frame_read place text) (more_frames frames_read)
  pub said : (most : ℕ) (line : List ℕ) (depth : ℕ) (h : VideoHead) → IsHeaderLine most line depth h → IsHead h
  pub named : (most : ℕ) (line : List ℕ) (depth : ℕ) (h : VideoHead) → IsHeaderLine most line depth h → IsNamed depth h
  pub neither : (most : ℕ) (line : List ℕ) (depth : ℕ) (h : VideoHead) → IsHeaderLine most line depth h → most ≤ 8 → SaysNeither h
  pub canonical : (most depth : ℕ) (h : VideoHead) (ps : List Planes) → IsHead h → IsNamed depth h → AllFit depth h ps → IsText most (canonical_text depth h ps) depth (as_said most depth h) ps
  pub strict : (most depth : ℕ) (h : VideoHead) (ps : List Planes) → IsHead h → IsNamed depth h → h.siting ≡ None → h.range ≡ None → most ≤ 8 → AllFit depth h ps → IsText most (canonical_text depth h ps) depth h ps

-- pictures that fit a head fit it without range and siting
fit_plain : (depth : ℕ) (h : VideoHead) (ps : List Planes) → AllFit depth h ps → AllFit depth (record h { siting = None; range = None }) ps
fit_plain depth h [] fit = tt
fit_plain depth h (p ∷ ps) fit = (fit.0, fit_plain depth h ps fit.1)

-- the canonical text of a video without them is one of the same video
pub same_by : {profile : Profile} → FileLaws profile → (most : ℕ) (ppm : Bool) (text : List ℕ) (h : SaidHead) (ps : List Planes) → IsReadVideoBy most ppm text h ps → IsVideoBy ppm (canonical_by ppm (plain_head h) ps) (plain_head h) ps
same_by laws deepest true text h ps v = (ap (λ (k : VideoHead). record k { siting = None; range = None }) v.0, record { sized = v.1.sized; named = v.1.named; whole = refl; fit = v.1.fit })
same_by laws deepest false text h ps v =
    laws.strict 8 h.depth (plain_head h).head ps (plain_head_by false h.head (laws.said deepest v.line h.depth h.head v.said)) (plain_named h.depth h.head (laws.named deepest v.line h.depth h.head v.said)) refl refl (omega arith)
    (fit_plain h.depth h.head ps v.fit)

-- pictures that fit a head fit it with what a choice says
fit_shown : (c : ColourChoice) (h : SaidHead) (ps : List Planes) → AllFit h.depth h.head ps → AllFit h.depth (shown_head c false h).head ps
fit_shown c h [] fit = tt
fit_shown c h (p ∷ ps) fit = (fit.0, fit_shown c h ps fit.1)

-- and with them, and what a choice says, as it is read
pub again_by : {profile : Profile} → FileLaws profile → ((text : List ℕ) (most depth width height : ℕ) (images : List Planes) → IsImages text depth width height images → IsImagesIn most text depth width height images) →
    (c : ColourChoice) (most : ℕ) (ppm : Bool) (text : List ℕ) (h : SaidHead) (ps : List Planes) → IsReadVideoBy most ppm text h ps →
    IsReadVideoBy 16 ppm (canonical_by ppm (shown_head c ppm h) ps) (said_again 16 ppm (shown_head c ppm h)) ps
again_by laws same c most true text h ps v =
    subst (λ k. IsReadVideoBy 16 true (canonical_by true k ps) k ps) (sym (shown_ppm c h))
    (v.0, same (canonical_by true h ps) 16 h.depth h.head.width h.head.height ps (record { sized = v.1.sized; named = v.1.named; whole = refl; fit = v.1.fit }))
again_by laws same c most false text h ps v =
    laws.canonical 16 h.depth (shown_head c false h).head ps (shown_head_by c h (laws.said most v.line h.depth h.head v.said)) (shown_named c h (laws.named most v.line h.depth h.head v.said)) (fit_shown c h ps v.fit)

-- whose canonical text is that of the first one
pub again_text : {profile : Profile} → FileLaws profile → ((most depth : ℕ) (h : VideoHead) (ps : List Planes) → IsNamed depth h → 8 < most → canonical_text depth (as_said most depth h) ps ≡ canonical_text depth h ps) →
    (c : ColourChoice) (most : ℕ) (ppm : Bool) (text : List ℕ) (h : SaidHead) (ps : List Planes) → IsReadVideoBy most ppm text h ps →
    canonical_by ppm (said_again 16 ppm (shown_head c ppm h)) ps ≡ canonical_by ppm (shown_head c ppm h) ps
again_text laws same c most true text h ps v = refl
again_text laws same c most false text h ps v = same 16 h.depth (shown_head c false h).head ps (shown_named c h (laws.named most v.line h.depth h.head v.said)) (omega arith)

pub ppm_by : (ppm : Bool) (text : List ℕ) (h : SaidHead) (ps : List Planes) → IsVideoBy ppm text h ps → ppm ≡ true → canonical_by ppm h ps ≡ text
ppm_by true text h ps v is = sym v.1.whole
ppm_by false text h ps v is = absurd (cc)

pub ppm_shown : (c : ColourChoice) (ppm : Bool) (text : List ℕ) (h : SaidHead) (ps : List Planes) → IsVideoBy ppm text h ps → ppm ≡ true → canonical_by ppm (shown_head c ppm h) ps ≡ text
ppm_shown c true text h ps v is = sym v.1.whole
ppm_shown c false text h ps v is = absurd (cc)

-- headers of PPM are three lines if depths up to 8 are read
pub lined_by : (lined : (text : List ℕ) (most depth width height : ℕ) (images : List Planes) → most ≤ 8 → IsImagesIn most text depth width height images → IsImages text depth width height images) →
    (ppm : Bool) (text : List ℕ) (h : SaidHead) (ps : List Planes) → IsReadVideoBy 8 ppm text h ps → IsVideoBy ppm text h ps
lined_by lined true text h ps v = (v.0, lined text 8 h.depth h.head.width h.head.height ps (omega arith) v.1)
lined_by lined false text h ps v = v

-- at `Strict` a video says neither range nor siting
pub strict_by : {profile : Profile} → FileLaws profile → (ppm : Bool) (text : List ℕ) (h : SaidHead) (ps : List Planes) → IsVideoBy ppm text h ps → IsVideoBy ppm text (plain_head h) ps
strict_by laws true text h ps v = (ap (λ (k : VideoHead). record k { siting = None; range = None }) v.0, v.1)
strict_by laws false text h ps v = subst (λ k. IsVideoBy false text k ps) (sym (plain_is h (laws.neither 8 v.line h.depth h.head v.said (omega arith)))) v
