-- Steps in a Segment, one reading after the other.
use Rattle.std.proofs.Common.{◌≡◌, ◌==◌, ◌<◌, ◌≤◌, ◌+◌, IfOk, IfSome, arith, ℕ, suc, zero, List, Option, Some, None, Result, Ok, Err, Bool, true, false, if◌then◌else◌, refl}
use Rattle.ffv1_reads.specs.declared.fault.FileFault.{FileFault}
use Rattle.ffv1_reads.specs.declared.fault.FileFault.TheVariants as fault
use Rattle.ffv1_reads.specs.Reads.{Answers, Reading, given, refused, ◌>>=◌}
use Rattle.ffv1_reads.proofs.Reading.{Goes, faults_here, goes_fault, goes_given, goes_same}
use Rattle.ffv1_ebml.specs.Elements.{IsWithin}
use Rattle.ffv1_ebml.specs.declared.element.Element.{Element}
use Rattle.ffv1_matroska.specs.Internal.{bytes_of}
use Rattle.std.proofs.lemmas.Bool.{ne_eqb}
use Rattle.ffv1_ebml.specs.Elements.{element_read}
use Rattle.ffv1_matroska.specs.Segments.{block_sought, sought_rest}
use Rattle.ffv1_matroska.specs.declared.track.TrackNumbers.{TrackNumbers}
use Rattle.ffv1_matroska.proofs.SoughtBlocks.{none_sought}
use Rattle.ffv1_matroska.specs.Places.{amount, closed, is_sound, step_to}
use Rattle.ffv1_matroska.specs.declared.place.Place.{Place}
use Rattle.ffv1_matroska.specs.declared.place.Step.{Step}

-- a Cluster that has nothing left is judged
pub goes_closed : {whole : Reading (Option Step)} {old now : Option (List ℕ)} {before after : ℕ} (place : Place) (result : Result (Option Step) FileFault) → Goes whole old before (closed (Some (step_to place)) place) now after →
    result ≡ (if is_sound place then Ok (Some (step_to place)) else Err fault.Checksum) → Answers (λ (s : Option Step). s) whole (record { old = old; new = now; before = before; after = after }) result
goes_closed {whole = whole} {old = old} {now = now} {before = before} {after = after} place result h is = on_test (is_sound place) refl
  where
    on_test : (b : Bool) → is_sound place ≡ b → Answers (λ (s : Option Step). s) whole (record { old = old; new = now; before = before; after = after }) result
    on_test true t = rw (is, t) (goes_given (Some (step_to place)) (goes_same _ (given (Some (step_to place))) (λ text. rw t refl) h))
    on_test false t = rw (is, t) (goes_fault fault.Checksum (goes_same _ (refused fault.Checksum) (λ text. rw t refl) h) (refl, faults_here (Option Step) fault.Checksum _))

-- what an element has, and what is left after it, are within what was left
pub within_bytes : (e : Element) (most : ℕ) (size : Option ℕ) → e.size ≡ size → IsWithin e most → bytes_of e.size + e.left ≤ most
within_bytes e most None is within = rw is (omega (arith, within.0))
within_bytes e most (Some n) is within = let fits = rw is at within.1 in rw is fits

-- a step leaves less
pub steps_less : (result : Result (Option Step) FileFault) (n m : ℕ) → n < m → IfOk result (λ o. IfSome o (λ s. amount s.place ≤ n)) → IfOk result (λ o. IfSome o (λ s. amount s.place < m))
steps_less (Ok (Some s)) n m less h = omega (arith, less, h)
steps_less (Ok None) n m less h = tt
steps_less (Err f) n m less h = tt

pub steps_most : (result : Result (Option Step) FileFault) (n m : ℕ) → n ≤ m → IfOk result (λ o. IfSome o (λ s. amount s.place ≡ n)) → IfOk result (λ o. IfSome o (λ s. amount s.place ≤ m))
steps_most (Ok (Some s)) n m most h = omega (arith, most, h)
steps_most (Ok None) n m most h = tt
steps_most (Err f) n m most h = tt

-- if less is left, fewer steps are to come
pub fewer : (k n m : ℕ) → m ≤ k → n < m → (j : ℕ) × (n ≤ j) × (k ≡ suc j)
fewer zero n m most less = absurd (omega (arith, most, less))
fewer (suc j) n m most less = (j, omega (arith, most, less), refl)

-- a BlockGroup that has bytes left has an element next
pub goes_sought : {whole : Reading (Option Step)} {old now : Option (List ℕ)} {before after : ℕ} (k : ℕ) (track : TrackNumbers) (place : Place) → place.group ≤ k → 0 < place.group → Goes whole old before (block_sought k track place) now after →
    (j : ℕ) × (k ≡ suc j) × Goes whole old before (element_read place.group place.sum >>= sought_rest (block_sought j track) track place) now after
unfolding block_sought
goes_sought zero track place fits some h = absurd (omega (arith, fits, some))
goes_sought (suc j) track place fits some h =
    let left : (place.group == 0) ≡ false = ne_eqb _ _ (λ e. omega (arith, e, some)) in
    (j, refl, goes_same (block_sought (suc j) track place) _ (λ text. rw left refl) h)

-- one that has none has no Block
pub goes_unsought : {whole : Reading (Option Step)} {old now : Option (List ℕ)} {before after : ℕ} (k : ℕ) (track : TrackNumbers) (place : Place) → place.group ≡ 0 → Goes whole old before (block_sought k track place) now after → Goes whole old before (refused {X = Option Step} fault.BadElement) now after
goes_unsought k track place none h = goes_same (block_sought k track place) (refused fault.BadElement) (λ text. none_sought k track place text none) h
