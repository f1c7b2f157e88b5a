-- What was read of a file that was opened.
use Rattle.std.proofs.Common.{◌≡◌, refl, ℕ, ◌<◌, Option, Some, None, Ok, List, [], ◌∷◌, length, ap, subst, ◌∙◌, arith}
use Rattle.ffv1_files.specs.declared.container.Scope.TheVariants.{FirstMovi, Whole}
use Rattle.ffv1_files.specs.Places.{Place}
use Rattle.ffv1_files.specs.declared.notes.Notes.{Notes}
use Rattle.ffv1_avi.specs.Chunks.{AviFile}
use Rattle.ffv1_files.specs.Whole.{IsWhole}
use Rattle.ffv1_files.specs.Files.{file_read, frame_read, frames_read, more_frames, open_read}
use Rattle.ffv1_reads.specs.Head.{Head}
use Rattle.ffv1_reads.specs.Reads as avi
use Rattle.ffv1_video.specs.declared.profile.Profile.{Profile}
use Rattle.ffv1_video.specs.Profiles.{scope_in}
use Rattle.ffv1_video.specs.declared.profile.Profile.TheVariants.{Strict, Wide}
use Rattle.ffv1_reads.specs.Known.{Known}
use Rattle.ffv1_unpack.specs.Opens.{OpensKnown}
use Rattle.ffv1_unpack.specs.Plays.{FileThen, HasThen, HoldsNoted, NextOver, ReadsFile}
use Rattle.ffv1_unpack.specs.Stream.{Frame, HoldsPayloads, ReadsFrames, Stream, payloads}

pub no_items : {X : Type 0} (xs : List X) → length xs ≡ 0 → xs ≡ []
no_items [] e = refl
no_items (x ∷ xs) e = absurd (omega (arith, e))

pub positive : {X : Type 0} (xs : List X) → (length xs ≡ 0 → ⊥) → 0 < length xs
positive [] none = absurd (none refl)
positive (x ∷ xs) none = omega arith

-- a file that is read to its end, and of which that is noted
pub holds_noted :
    ((profile : Profile) (file behind rest : List ℕ) (head : Head) (from to : Place) (at : List ℕ) (held : List (List ℕ)) → open_read (scope_in profile) file ≡ Ok ((head, from), behind) →
    ReadsFrames from behind held to at → frame_read to at ≡ Ok (None, rest) → HoldsPayloads profile file rest head held) →
    (profile : Profile) (notes : Notes) (head : Head) (held : List (List ℕ)) (file rest : List ℕ) → FileThen profile head held (NextOver notes) file rest → HoldsNoted profile notes head held file rest
holds_noted holds profile notes head held file rest p =
    let has = p.3 in
    let end = has.3 in
    (end.0, holds profile file p.1 end.0 head p.0 has.0 has.1 held p.2 has.2 end.1.0, (p.0, p.1, p.2, (has.0, has.1, has.2, end.1)))

module _ (next : (place : Place) (text : List ℕ) → frames_read place text ≡ avi.read_on (frame_read place text) (more_frames frames_read))
    (is_file : (file : List ℕ) (head : Head) (frames : List (List ℕ)) (rest : List ℕ) → file_read FirstMovi file ≡ Ok ((head, frames), rest) → (is : AviFile file head frames) × (rest ≡ is.rest))
    (whole : (file : List ℕ) (head : Head) (frames : List (List ℕ)) (rest : List ℕ) → file_read Whole file ≡ Ok ((head, frames), rest) → IsWhole file head frames rest) where
  all_read : (from : Place) (text : List ℕ) (held : List (List ℕ)) (to : Place) (at rest : List ℕ) → ReadsFrames from text held to at → frame_read to at ≡ Ok (None, rest) →
      frames_read from text ≡ Ok (held, rest)
  all_read from text [] to at rest h over =
      let here : frame_read from text ≡ Ok (None, rest) = subst (λ l. frame_read l text ≡ Ok (None, rest)) h.0 (subst (λ t. frame_read to t ≡ Ok (None, rest)) h.1 over) in
      next from text ∙ ap (λ z. avi.read_on z (more_frames frames_read)) here
  all_read from text (f ∷ fs) to at rest h over =
      next from text ∙ ap (λ z. avi.read_on z (more_frames frames_read)) h.2
      ∙ ap (λ z. avi.read_on z (λ frames. avi.given (f ∷ frames))) (all_read h.0 h.1 fs to at rest h.3 over)

  whole_read : (profile : Profile) (file rest : List ℕ) (head : Head) (held : List (List ℕ)) → file_read (scope_in profile) file ≡ Ok ((head, held), rest) → HoldsPayloads profile file rest head held
  whole_read Strict file rest head held read = is_file file head held rest read
  whole_read Wide file rest head held read = whole file head held rest read

  -- a file that is opened, and whose payloads are read to its end
  pub holds_payloads : (profile : Profile) (file behind rest : List ℕ) (head : Head) (from to : Place) (at : List ℕ) (held : List (List ℕ)) → open_read (scope_in profile) file ≡ Ok ((head, from), behind) →
      ReadsFrames from behind held to at → frame_read to at ≡ Ok (None, rest) → HoldsPayloads profile file rest head held
  holds_payloads profile file behind rest head from to at held opens reads over =
      let frames_are = all_read from behind held to at rest reads over in
      whole_read profile file rest head held
      (ap (λ z. avi.read_on z (λ (p : Head × Place) (text : List ℕ). avi.read_on (frames_read p.1 text) (λ frames. avi.given (p.0, frames)))) opens
      ∙ ap (λ z. avi.read_on z (λ frames. avi.given (head, frames))) frames_are)

  pub reads_file : (profile : Profile) (notes : Notes) (old mid new : Option (List ℕ)) (s : Stream) (from : Place) (frames : List Frame) → OpensKnown profile old mid s.head from →
      Known mid new (HasThen from (payloads frames) (NextOver notes)) → ReadsFile profile notes old new s frames
  reads_file profile notes None mid new s from frames opens ends = tt
  reads_file profile notes (Some file) None new s from frames opens ends = absurd opens
  reads_file profile notes (Some file) (Some behind) None s from frames opens ends = absurd ends
  reads_file profile notes (Some file) (Some behind) (Some rest) s from frames opens ends =
      holds_noted holds_payloads profile notes s.head (payloads frames) file rest (from, behind, opens, ends)
