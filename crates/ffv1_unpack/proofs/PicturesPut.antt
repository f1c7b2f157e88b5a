-- A picture is written after others.
use Rattle.std.proofs.Common.{◌≡◌, refl, ℕ, Option, Some, None, Result, Ok, Err, List, [], ◌∷◌, ◌++◌, length, ap, sym, subst, ◌∙◌, append-nil}
use Rattle.std.specs.Io.KnownBytes.{Appends, Keeps}
use Rattle.std.proofs.KnownBytes.{Appends-nil}
use Rattle.ffv1_wire.specs.Passage.{Passage, between, passage}
use Rattle.ffv1_wire.specs.Runs.{Line}
use Rattle.ffv1_video.specs.Output.{Silent, WritesUpTo}
use Rattle.ffv1_video.proofs.Output.{silent}
use Rattle.ffv1_record.specs.Accepted.{Accepted}
use Rattle.ffv1_codec.specs.Kept.{Kept}
use Rattle.ffv1_codec.specs.SliceList.{Said}
use Rattle.ffv1_codec.specs.Outcome.{OffersLine}
use Rattle.ffv1_y4m.specs.Images.{image_text}
use Rattle.ffv1_y4m.specs.Sink.{PpmSink}
use Rattle.ffv1_y4m.specs.declared.head.VideoHead.{VideoHead}
use Rattle.ffv1_video.specs.KeptLines.{IsKeptFor}
use Rattle.ffv1_video.specs.declared.fault.Fault.{Fault}
use Rattle.ffv1_unpack.specs.Internal.ImagesOut.{IsSinkFor, rows_so_far}
use Rattle.ffv1_unpack.specs.Internal.PicturesOut.{Begun, IsBegun, begun_behind, said_in, text_behind}
use Rattle.ffv1_unpack.specs.Internal.Salvage.{ContinuesText, CutBy, FitsKept, IsImagesOf, IsTextOf, PutsPictures, begun_with}
use Rattle.ffv1_unpack.specs.Stream.{CodedFrame, Stream}
use Rattle.ffv1_unpack.specs.Unpacked.{is_ppm_stream, text_by, text_of}
use Rattle.ffv1_unpack.proofs.ImagesSoFar.{text_more as image_more}
use Rattle.ffv1_unpack.proofs.PicturesWritten.{is_begun, text_more}

-- ---- nothing is written

pub puts_none : {P : Type 0} (ready : Stream → List CodedFrame → P → Type 0) (s : Stream) (fs : List CodedFrame) (o : Option (List ℕ)) (n : ℕ) (out : P) → ready s fs out → PutsPictures ready s fs [] (between o o n n) out (Ok tt)
puts_none ready s fs o n out is = (
  subst (λ z. ready s z out) (sym (append-nil fs)) is,
  refl,
  [],
  ap (text_of s) (append-nil fs) ∙ sym (append-nil (text_of s fs)),
  Appends-nil o,
)

-- between these
pub still : (o p : Option (List ℕ)) (m n : ℕ) → p ≡ o → n ≡ m → Silent (between o p m n)
still o p m n bytes count = record { kept = subst (λ z. Keeps o z) (sym bytes) (silent o m).kept; same = count }

-- pictures are written, where before that nothing was
pub puts_from : {P : Type 0} (contents : P → Option (List ℕ)) (failed : P → ℕ) (ready : Stream → List CodedFrame → P → Type 0) (s : Stream) (fs gs : List CodedFrame) (old mid new : P) (answer : Result (Unit {0}) Fault) →
    contents mid ≡ contents old → failed mid ≡ failed old → PutsPictures ready s fs gs (passage contents failed mid new) new answer → PutsPictures ready s fs gs (passage contents failed old new) new answer
puts_from contents failed ready s fs gs old mid new answer bytes count puts =
    subst (λ z. PutsPictures ready s fs gs (between z (contents new) (failed old) (failed new)) new answer) bytes
    (subst (λ z. PutsPictures ready s fs gs (between (contents mid) (contents new) z (failed new)) new answer) count puts)

-- ---- a text of YUV4MPEG2

begun_grows : (depth : ℕ) (h : VideoHead) (fs : List CodedFrame) (f : CodedFrame) → begun_with depth h (begun_behind depth h fs) f.said ≡ begun_behind depth h (fs ++ (f ∷ []))
begun_grows depth h [] f = refl
begun_grows depth h (g ∷ gs) f = refl

-- what is remembered stays so, if the picture that is kept does where one is
pub fits_stay : (a : Accepted) (other : List ℕ) (held : Option Said) (old new : Kept) → ((info : Said) → held ≡ Some info → new ≡ old) → FitsKept a other held old.planes → FitsKept a other held new.planes
fits_stay a other None old new stays fits = tt
fits_stay a other (Some said) old new stays fits = subst (λ (k : Kept). FitsKept a other (Some said) k.planes) (sym (stays said refl)) fits

-- another picture is kept
pub text_ready : (s : Stream) (fs : List CodedFrame) (depth : ℕ) (h : VideoHead) (begun : Begun) (kept : Kept) → IsTextOf depth h begun kept s fs → (kept_new : Kept) → IsKeptFor s.accepted kept_new → IsTextOf depth h begun kept_new s fs
text_ready s fs depth h begun kept is kept_new keeps = record { plain = is.plain; deep = is.deep; heads = is.heads; keeps = keeps; is = is.is }

module _ (s : Stream) (fs : List CodedFrame) (f : CodedFrame) (depth : ℕ) (h : VideoHead) (begun : Begun) (kept : Kept) (is : IsTextOf depth h begun kept s fs) where
  abbrev piece : List ℕ
  piece = text_behind depth h (said_in begun) f.said f.planes

  pub begun_is : IsBegun depth h begun
  begun_is = subst (IsBegun depth h) (sym (is.is ∙ ap (λ d. begun_behind d h fs) (sym is.deep))) (is_begun depth h fs)

  text_grows : text_of s (fs ++ (f ∷ [])) ≡ text_of s fs ++ piece
  text_grows =
      let d = s.accepted.configuration.depth in
      let last = text_behind d h (said_in (begun_behind d h fs)) f.said f.planes in
      ap (λ b. text_by b s (fs ++ (f ∷ []))) is.plain ∙ text_more s h fs f is.heads ∙ ap (λ z. z ++ last) (sym (ap (λ b. text_by b s fs) is.plain))
      ∙ ap (λ z. text_of s fs ++ text_behind d h (said_in z) f.said f.planes) (sym is.is) ∙ ap (λ n. text_of s fs ++ text_behind n h (said_in begun) f.said f.planes) (sym is.deep)

  pub text_put : (kept_new : Kept) (begun_new : Begun) (p : Passage) → IsKeptFor s.accepted kept_new → ContinuesText depth h begun f.said f.planes p begun_new (Ok tt) →
      IsTextOf depth h begun_new kept_new s (fs ++ (f ∷ [])) × (p.after ≡ p.before) × (piece : List ℕ) × (text_of s (fs ++ (f ∷ [])) ≡ text_of s fs ++ piece) × Appends p.old p.new piece
  text_put kept_new begun_new p keeps answer = (
    record {
      plain = is.plain;
      deep = is.deep;
      heads = is.heads;
      keeps = keeps;
      is = answer.2 ∙ ap (λ n. begun_with n h begun f.said) is.deep ∙ ap (λ z. begun_with s.accepted.configuration.depth h z f.said) is.is ∙ begun_grows s.accepted.configuration.depth h fs f;
    },
    answer.0,
    piece,
    text_grows,
    answer.1,
  )

  pub text_cut : (begun_new : Begun) (p : Passage) (e : Fault) → ContinuesText depth h begun f.said f.planes p begun_new (Err e) → CutBy (is_ppm_stream s) s fs (f ∷ []) p
  text_cut begun_new p e answer = subst (λ b. CutBy b s fs (f ∷ []) p) (sym is.plain) (piece, text_grows, answer.2)

-- ---- images

module _ {W : Type 0} (s : Stream) (fs : List CodedFrame) (f : CodedFrame) (old new : PpmSink W) (is : IsImagesOf old s fs) where
  abbrev image : List ℕ
  image = image_text s.accepted.configuration.depth s.accepted.configuration.width s.accepted.configuration.height f.planes

  pub image_put : (p : Passage) → IsSinkFor s.accepted.configuration new → p.after ≡ p.before → Appends p.old p.new image →
      IsImagesOf new s (fs ++ (f ∷ [])) × (p.after ≡ p.before) × (piece : List ℕ) × (text_of s (fs ++ (f ∷ [])) ≡ text_of s fs ++ piece) × Appends p.old p.new piece
  image_put p sink same writes = (
    record { colours = is.colours; takes = sink },
    same,
    image,
    ap (λ b. text_by b s (fs ++ (f ∷ []))) is.colours ∙ image_more s fs f ∙ ap (λ z. z ++ image) (sym (ap (λ b. text_by b s fs) is.colours)),
    writes,
  )

  pub image_cut : (p : Passage) (ls : List Line) (next : Line) → OffersLine s.accepted f.payload ls next → WritesUpTo p.old p.new (length (rows_so_far s.accepted.configuration ls)) (rows_so_far s.accepted.configuration (ls ++ (next ∷ []))) →
      CutBy (is_ppm_stream s) s fs (f ∷ []) p
  image_cut p ls next offers up = subst (λ b. CutBy b s fs (f ∷ []) p) (sym is.colours) (f, refl, ls, next, offers, up)
