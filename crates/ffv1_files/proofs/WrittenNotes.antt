-- Of an AVI that was written no bytes after it are noted.
use Rattle.std.proofs.Common.{◌≡◌, ◌∙◌, ℕ, false, nat_lt, Err, Option, Some, None, List, [], ◌∷◌, length, ap, inl, inr, refl, sym, arith}
use Rattle.std.proofs.lemmas.Bool.Decides.{nat_tests}
use Rattle.std.proofs.lemmas.Grind.{common_steps}
use Rattle.ffv1_reads.specs.Head.{Head, without_colour}
use Rattle.ffv1_reads.specs.Reads.{Met}
use Rattle.ffv1_reads.specs.declared.fault.FileFault.TheVariants as fault
use Rattle.ffv1_avi.specs.Chunks.{IsWritable}
use Rattle.ffv1_avi.specs.Riffs.{RiffFile}
use Rattle.ffv1_avi.specs.Written.{file_of}
use Rattle.ffv1_avi.specs.Offsets.{BeforeFrames, Start, chunk_taken, spot_taken}
use Rattle.ffv1_avi.specs.declared.place.Extent.TheVariants.{EveryRiff}
use Rattle.ffv1_avi.specs.declared.place.Open.{Open}
use Rattle.ffv1_avi.specs.declared.place.Open.TheVariants.{Sized}
use Rattle.ffv1_avi.specs.declared.place.Place.{Place as AviPlace}
use Rattle.ffv1_avi.specs.Places.{is_open}
use Rattle.ffv1_reads.specs.Offsets.{ReadsWhole}
use Rattle.ffv1_matroska.specs.Late.{again_read}
use Rattle.ffv1_matroska.specs.Opened.{ebml_read, open_read}
use Rattle.ffv1_matroska.specs.Opening.{ident_read}
use Rattle.ffv1_files.specs.Places.{extent_in}
use Rattle.ffv1_files.specs.Noted.{IsNotedOf, SegmentEnds, stands_after}
use Rattle.ffv1_files.specs.declared.container.Scope.{Scope}
use Rattle.ffv1_files.specs.declared.container.Scope.TheVariants as scope
use Rattle.ffv1_files.specs.declared.notes.Notes.{Notes}

-- an AVI is no Matroska file
refused_first : (text : List ℕ) → again_read (82 ∷ 73 ∷ 70 ∷ 70 ∷ text) ≡ Err (Met fault.NotMatroska text)
unfolding again_read open_read ebml_read ident_read
refused_first text =
    let file : List ℕ = 82 ∷ 73 ∷ 70 ∷ 70 ∷ text in
    let enough : nat_lt (length file) 4 ≡ false = grind (arith, nat_tests, common_steps) in
    rw enough refl

refused_there : (file : List ℕ) (head : Head) (frames : List (List ℕ)) → RiffFile file head frames → (rest : List ℕ) × (again_read file ≡ Err (Met fault.NotMatroska rest))
refused_there file head frames is = (_, ap again_read is.bytes ∙ refused_first _)

no_segment : (file : List ℕ) (head : Head) (frames : List (List ℕ)) → RiffFile file head frames → (rest : List ℕ) (notes : Notes) → SegmentEnds file rest notes → ⊥
no_segment file head frames is rest notes ends =
    let refused = refused_there file head frames is in
    absurd (cc (sym refused.1 ∙ ends.read.opens))

-- what is known of each file that was written
pub record WrittenLaws : Type 0 where
  pub nothing : (head : Head) (frames : List (List ℕ)) → IsWritable EveryRiff head frames → (other : Head) (first to : AviPlace) (between : Option (List ℕ)) (behind : List ℕ) (before after : ℕ) →
      ReadsWhole (spot_taken EveryRiff) Start (Some (file_of head frames)) between (BeforeFrames other first) before → ReadsWhole chunk_taken first between (Some behind) to after → to.movi ≡ 0 → (behind ≡ []) × (to.open_in ≡ Sized)
  pub riff : (head : Head) (frames : List (List ℕ)) → IsWritable EveryRiff head frames → RiffFile (file_of head frames) (without_colour head) frames

pub none_after : WrittenLaws → (extent : Scope) (head : Head) (frames : List (List ℕ)) (rest : List ℕ) (notes : Notes) → IsWritable (extent_in extent) head frames → IsNotedOf extent (file_of head frames) rest notes → notes.after ≡ None
none_after laws scope.FirstMovi head frames rest notes is noted = ap (λ (z : Notes). z.after) noted
none_after laws scope.Whole head frames rest notes is (inl ends) =
    let chunks = ends.chunks in
    let none = laws.nothing head frames is ends.head chunks.first ends.to chunks.between ends.behind chunks.before chunks.after chunks.opened chunks.framed ends.movi in
    ap (λ (z : Notes). z.after) ends.notes_are ∙ ap (stands_after (file_of head frames)) none.0
none_after laws scope.Whole head frames rest notes is (inr ends) = absurd (no_segment (file_of head frames) (without_colour head) frames (laws.riff head frames is) rest notes ends)

-- nor that it was left open
pub never_open : WrittenLaws → (extent : Scope) (head : Head) (frames : List (List ℕ)) (rest : List ℕ) (notes : Notes) → IsWritable (extent_in extent) head frames → IsNotedOf extent (file_of head frames) rest notes → notes.is_open ≡ false
never_open laws scope.FirstMovi head frames rest notes is noted = ap (λ (z : Notes). z.is_open) noted
never_open laws scope.Whole head frames rest notes is (inl ends) =
    let chunks = ends.chunks in
    let none = laws.nothing head frames is ends.head chunks.first ends.to chunks.between ends.behind chunks.before chunks.after chunks.opened chunks.framed ends.movi in
    ap (λ (z : Notes). z.is_open) ends.notes_are ∙ ap (λ (o : Open). is_open o) none.1
never_open laws scope.Whole head frames rest notes is (inr ends) = absurd (no_segment (file_of head frames) (without_colour head) frames (laws.riff head frames is) rest notes ends)
