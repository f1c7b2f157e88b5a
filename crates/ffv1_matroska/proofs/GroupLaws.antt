-- A BlockGroup without a Block is refused.
use Rattle.std.proofs.Common.{◌≡◌, ◌≤◌, ◌<◌, ◌+◌, ◌-◌, ◌∙◌, ◌++◌, ℕ, List, [], Some, Err, true, length, ap, arith, length-append}
use Rattle.std.proofs.lemmas.Bool.{lt-ltb}
use Rattle.ffv1_reads.specs.declared.fault.FileFault.TheVariants as fault
use Rattle.ffv1_reads.specs.Reads.{Met, read_on}
use Rattle.ffv1_ebml.specs.Spelled.{SaysSize}
use Rattle.ffv1_ebml.specs.Sums.{summed}
use Rattle.ffv1_ebml.specs.Vints.{number_of}
use Rattle.ffv1_ebml.specs.declared.sum.Sum.{Sum}
use Rattle.ffv1_ebml.specs.declared.sum.Sum.TheVariants.{Absent, Begins, Awaits}
use Rattle.ffv1_matroska.specs.Begun.{ClusterBegins, GroupBegins}
use Rattle.ffv1_matroska.specs.Elements.{AreLeaves, Group, HasIdent, IsPiece, Leaf, SaysIdent, leaves_text, parts_frames, pieces_frames}
use Rattle.ffv1_matroska.specs.Given.{GivesThen}
use Rattle.ffv1_matroska.specs.Offsets.{element_taken, step_taken}
use Rattle.ffv1_matroska.specs.Places.{cluster_at, segment_at}
use Rattle.ffv1_matroska.specs.Segments.{block, block_group, child_by, cluster_child, cluster_read, cluster_rest, first_child, is_outside, known_child, segment_child, segment_read, segment_rest, step_read}
use Rattle.ffv1_matroska.specs.Tracks.{Track}
use Rattle.ffv1_matroska.specs.declared.place.Place.{Place}
use Rattle.ffv1_matroska.specs.declared.track.TrackNumbers.{TrackNumbers}
use Rattle.ffv1_matroska.proofs.FrameTurns.{run, run_on, run_turn, step_kept}
use Rattle.ffv1_matroska.proofs.GivenLaws.{refused_there}
use Rattle.ffv1_matroska.proofs.HeaderLaws.{IsHeader, header_inside}
use Rattle.ffv1_matroska.proofs.ListedElements.{group_inside}
use Rattle.ffv1_matroska.proofs.LongLaws.{cluster_reached, group_loose}
use Rattle.ffv1_matroska.proofs.PartLaws.{header_is_read}
use Rattle.ffv1_matroska.proofs.PieceLaws.{header_some, sought_none}
use Rattle.ffv1_matroska.proofs.SegmentLaws.{loose_child}

pub group_has : (track : TrackNumbers) (ident size : List ℕ) (leaves : List Leaf) → IsPiece track (Group ident size leaves) → HasIdent block leaves
group_has track ident size leaves is = is.3

-- after its header
child_refused : (track : TrackNumbers) (base : Place) (m : ℕ) (x : Sum) (ls : List Leaf) (rest : List ℕ) → AreLeaves block track ls → (HasIdent block ls → ⊥) →
    child_by track block_group (length (leaves_text ls)) (cluster_at base m x) x (leaves_text ls ++ rest) ≡ Err (Met fault.BadElement rest)
unfolding first_child cluster_child
child_refused track base m Absent ls rest are none = sought_none (length (leaves_text ls)) track (cluster_at base m Absent) ls Absent rest (omega arith) are none
child_refused track base m Begins ls rest are none = sought_none (length (leaves_text ls)) track (cluster_at base m Absent) ls Absent rest (omega arith) are none
child_refused track base m (Awaits stated so_far) ls rest are none = sought_none (length (leaves_text ls)) track (cluster_at base m (Awaits stated so_far)) ls (Awaits stated so_far) rest (omega arith) are none

-- from its first byte on, in a Cluster of known size
cluster_step : (track : TrackNumbers) (base : Place) (m : ℕ) (s : Sum) (ident size : List ℕ) (ls : List Leaf) (rest : List ℕ) → SaysIdent ident block_group → SaysSize size (Some (length (leaves_text ls))) → AreLeaves block track ls → (HasIdent block ls → ⊥) →
    step_read track (cluster_at base (length (ident ++ size) + (length (leaves_text ls) + m)) s) ((ident ++ size) ++ (leaves_text ls ++ rest)) ≡ Err (Met fault.BadElement rest)
unfolding step_read cluster_read known_child
cluster_step track base m s ident size ls rest is says are none =
    let head = ident ++ size in
    let k = length (leaves_text ls) in
    let n = length head + (k + m) in
    let text = leaves_text ls ++ rest in
    let x = summed s head in
    let some : 0 < n = omega (arith, header_some ident size [] is.0, length-append head []) in
    let header : IsHeader n ident size (Some k) = record { named = is.0; few = is.1; sized = says; fits = omega arith } in
    let left : n - length head - k ≡ m = omega arith in
    rw (lt-ltb 0 n some) (
    ap (λ z. read_on z (cluster_rest track (cluster_at base n s))) (header_inside is_outside n s ident size text (Some k) header (group_inside (number_of ident) is.2))
    ∙ ap (λ j. child_by track (number_of ident) k (cluster_at base j x) x text) left
    ∙ ap (λ i. child_by track i k (cluster_at base m x) x text) is.2
    ∙ child_refused track base m x ls rest are none)

pub cluster_group_refused : (track : TrackNumbers) (base : Place) (left : ℕ) (sum : Sum) (ident size : List ℕ) (leaves : List Leaf) (rest : List ℕ) → SaysIdent ident block_group → SaysSize size (Some (length (leaves_text leaves))) → length (ident ++ size) + length (leaves_text leaves) ≤ left →
    AreLeaves block track leaves → (HasIdent block leaves → ⊥) → element_taken track (cluster_at base left sum) ((ident ++ size) ++ (leaves_text leaves ++ rest)) ≡ Err (Met fault.BadElement rest)
unfolding element_taken
cluster_group_refused track base left sum ident size leaves rest is says fits are none =
    let m = left - (length (ident ++ size) + length (leaves_text leaves)) in
    let whole : left ≡ length (ident ++ size) + (length (leaves_text leaves) + m) = omega (arith, fits) in
    let text = (ident ++ size) ++ (leaves_text leaves ++ rest) in
    ap (λ n. element_taken track (cluster_at base n sum) text) whole
    ∙ ap (λ z. read_on z (step_taken (cluster_at base (length (ident ++ size) + (length (leaves_text leaves) + m)) sum))) (cluster_step track base m sum ident size leaves rest is says are none)

-- and in one of unknown size
loose_step : (track : TrackNumbers) (base : Place) (m : ℕ) (ident size : List ℕ) (ls : List Leaf) (rest : List ℕ) → SaysIdent ident block_group → SaysSize size (Some (length (leaves_text ls))) → AreLeaves block track ls → (HasIdent block ls → ⊥) →
    step_read track (segment_at base true (length (ident ++ size) + (length (leaves_text ls) + m))) ((ident ++ size) ++ (leaves_text ls ++ rest)) ≡ Err (Met fault.BadElement rest)
unfolding step_read segment_read cluster_child
loose_step track base m ident size ls rest is says are none =
    let head = ident ++ size in
    let k = length (leaves_text ls) in
    let n = length head + (k + m) in
    let text = leaves_text ls ++ rest in
    ap (λ z. read_on z (segment_rest track (segment_at base true n))) (header_is_read base true ident size (Some k) m text is.0 is.1 says)
    ∙ ap (λ i. segment_child track i (segment_at base true m) (Some k) text) is.2
    ∙ ap (λ r. r text) (loose_child track block_group k m base group_loose)
    ∙ sought_none k track (segment_at base true m) ls Absent rest (omega arith) are none

pub loose_group_refused : (track : TrackNumbers) (base : Place) (left : ℕ) (ident size : List ℕ) (leaves : List Leaf) (rest : List ℕ) → SaysIdent ident block_group → SaysSize size (Some (length (leaves_text leaves))) → length (ident ++ size) + length (leaves_text leaves) ≤ left →
    AreLeaves block track leaves → (HasIdent block leaves → ⊥) → element_taken track (segment_at base true left) ((ident ++ size) ++ (leaves_text leaves ++ rest)) ≡ Err (Met fault.BadElement rest)
unfolding element_taken
loose_group_refused track base left ident size leaves rest is says fits are none =
    let m = left - (length (ident ++ size) + length (leaves_text leaves)) in
    let whole : left ≡ length (ident ++ size) + (length (leaves_text leaves) + m) = omega (arith, fits) in
    let text = (ident ++ size) ++ (leaves_text leaves ++ rest) in
    ap (λ n. element_taken track (segment_at base true n) text) whole
    ∙ ap (λ z. read_on z (step_taken (segment_at base true (length (ident ++ size) + (length (leaves_text leaves) + m))))) (loose_step track base m ident size leaves rest is says are none)

-- a file is read up to it
pub group_given : (file text : List ℕ) (track : Track) (left : ℕ) (rest : List ℕ) (b : ClusterBegins file track left text) (g : GroupBegins text track.numbers left 0 rest) → (HasIdent block g.leaves → ⊥) →
    GivesThen file track.head (parts_frames b.segment.parts ++ pieces_frames b.pieces) (Met fault.BadElement rest)
group_given file text track left rest b g none =
    let head = g.ident ++ g.size in
    let k = length (leaves_text g.leaves) in
    let m = left - (length head + k) in
    let whole : left ≡ length head + (k + m) = omega (arith, g.fits) in
    let some : 0 < left = omega (arith, g.fits, header_some g.ident g.size [] g.named.0, length-append head []) in
    let nothing : k + 0 ≡ k = omega arith in
    let says : SaysSize g.size (Some k) = rw nothing at g.sized in
    let r = cluster_reached file track left text some b in
    let place : Place = cluster_at r.base (length head + (k + m)) r.s in
    let there = head ++ (leaves_text g.leaves ++ rest) in
    refused_there file track (parts_frames b.segment.parts ++ pieces_frames b.pieces) (cluster_at r.base left r.s) text (Met fault.BadElement rest) r.at
    (ap (run track.numbers (cluster_at r.base left r.s)) g.bytes
    ∙ ap (λ n. run track.numbers (cluster_at r.base n r.s) there) whole
    ∙ run_turn track.numbers place there
    ∙ ap (λ z. run_on track.numbers (read_on z step_kept)) (cluster_step track.numbers r.base m r.s g.ident g.size g.leaves rest g.named says g.are none))
