-- Elements that pass what they stand in.
use Rattle.ffv1_matroska.proofs.ListedElements.{group_inside}
use Rattle.std.proofs.Common.{inr, ◌≡◌, ◌≤◌, ◌<◌, ◌+◌, ◌-◌, ◌==◌, ◌||◌, ◌∙◌, ◌++◌, [], ℕ, suc, zero, List, Bool, true, false, nat_lt, Some, None, Result, Ok, Err, inl, length, refl, sym, ap, subst, arith, append-nil, length-append, Option}
use Rattle.std.proofs.lemmas.Bool.{eq-eqb, lt-ltb, ne_eqb}
use Rattle.ffv1_reads.specs.declared.fault.FileFault.TheVariants as fault
use Rattle.ffv1_reads.specs.Reads.{Met, Stop, read_on, ◌>>=◌}
use Rattle.ffv1_ebml.specs.Spelled.{SaysSize}
use Rattle.ffv1_ebml.specs.Sums.{summed}
use Rattle.ffv1_ebml.specs.Vints.{number_of}
use Rattle.ffv1_ebml.specs.declared.sum.Sum.{Sum}
use Rattle.ffv1_ebml.specs.declared.sum.Sum.TheVariants.{Absent, Begins, Awaits}
use Rattle.ffv1_matroska.specs.Begun.{ClusterBegins, GroupBegins, LooseBegins, Passes, SegmentBegins, room}
use Rattle.ffv1_matroska.specs.Elements.{AreLeaves, Leaf, SaysIdent, TopLevel, leaves_frames, leaves_text, parts_frames, parts_text, pieces_frames, pieces_text, top_text, tops_text}
use Rattle.ffv1_matroska.specs.Given.{GivesThen}
use Rattle.ffv1_matroska.specs.MatroskaFiles.{IsTracks}
use Rattle.ffv1_matroska.specs.Opened.{begin_up_to}
use Rattle.ffv1_matroska.specs.Places.{cluster_at, cluster_entered, group_at, segment_at}
use Rattle.ffv1_matroska.specs.Segments.{block, block_group, block_sought, child_by, cluster, cluster_child, cluster_read, first_child, group_read, is_filler, is_of_cluster, segment_child, segment_read, segment_rest, step_read, is_outside}
use Rattle.ffv1_matroska.specs.Tracks.{Track}
use Rattle.ffv1_matroska.specs.declared.place.Place.{Place}
use Rattle.ffv1_matroska.proofs.FrameTurns.{added, run, run_on, run_turn, step_kept, turn_added, turn_read}
use Rattle.ffv1_matroska.proofs.GivenLaws.{BegunRun, Reaches, begun_as, begun_run, reaches_on, refused_there}
use Rattle.ffv1_matroska.proofs.OpenedLaws.{Same, begins_complete, tops_begun, tracks_begun}
use Rattle.ffv1_matroska.proofs.PartLaws.{first_part, segment_header}
use Rattle.ffv1_matroska.proofs.PieceLaws.{Agrees, header_some, known_header, leaves_part, sought_agrees, sound_group}
use Rattle.ffv1_matroska.proofs.SegmentLaws.{loose_child, loose_complete, parts_run}
use Rattle.ffv1_matroska.proofs.TrackLaws.{HasStart, header_passes, header_refused, segment_start, passes_inside}
use Rattle.ffv1_matroska.specs.declared.track.TrackNumbers.{TrackNumbers}

-- the bytes that a header has
passes_some : (left : ℕ) (ident size : List ℕ) → Passes left ident size → 0 < left
passes_some left ident size p = omega (arith, p.header, header_some ident size [] p.named, length-append (ident ++ size) [])

-- an element that passes the Segment, a Cluster or a BlockGroup
segment_refused : (track : TrackNumbers) (base : Place) (loose : Bool) (left : ℕ) (ident size rest : List ℕ) → Passes left ident size → run track (segment_at base loose left) ((ident ++ size) ++ rest) ≡ ([], Err (Met fault.Truncated rest))
unfolding step_read segment_read
segment_refused track base loose left ident size rest p =
    run_turn track (segment_at base loose left) ((ident ++ size) ++ rest)
    ∙ ap (λ z. run_on track (read_on (read_on z (segment_rest track (segment_at base loose left))) step_kept)) (header_refused base loose left ident size rest p)

cluster_refused : (track : TrackNumbers) (base : Place) (left : ℕ) (s : Sum) (ident size rest : List ℕ) → Passes left ident size → is_outside (number_of ident) ≡ false → run track (cluster_at base left s) ((ident ++ size) ++ rest) ≡ ([], Err (Met fault.Truncated rest))
unfolding step_read cluster_read
cluster_refused track base left s ident size rest p inside =
    let test : nat_lt 0 left ≡ true = lt-ltb _ _ (passes_some left ident size p) in
    run_turn track (cluster_at base left s) ((ident ++ size) ++ rest) ∙ rw (test, passes_inside is_outside left s ident size rest p inside) refl

group_refused : (track : TrackNumbers) (base : Place) (left : ℕ) (s : Sum) (ident size rest : List ℕ) → Passes left ident size → run track (group_at base left s) ((ident ++ size) ++ rest) ≡ ([], Err (Met fault.Truncated rest))
unfolding step_read group_read
group_refused track base left s ident size rest p =
    let test : nat_lt 0 left ≡ true = lt-ltb _ _ (passes_some left ident size p) in
    run_turn track (group_at base left s) ((ident ++ size) ++ rest) ∙ rw (test, header_passes left s ident size rest p) refl

-- a file is read up to a position in its Segment
pub record ReachesSegment (file : List ℕ) (track : Track) (frames : List (List ℕ)) (left : ℕ) (rest : List ℕ) (size : Option ℕ) : Type 0 where
  pub base : Place
  pub base_is : base ≡ (segment_start size).base
  pub loose : Bool
  pub at : Reaches file track frames (segment_at base loose left) rest

begun_there : (most : ℕ) (base : Place) (b : TopLevel) (track : Track) (n : ℕ) (rest : List ℕ) → IsTracks b track → length (top_text b) + n < most → BegunRun track (begin_up_to most None (segment_at base false (length (top_text b) + n)) (top_text b ++ rest)) (run track.numbers (segment_at base false n) rest)
begun_there zero base b track n rest is fits = absurd (omega (arith, fits))
begun_there (suc most) base b track n rest is fits =
    let some : 1 ≤ length (top_text b) = omega (arith, is.named.0, length-append (b.ident ++ b.size) b.content, length-append b.ident b.size) in
    begun_as track (begin_up_to (suc most) None (segment_at base false (length (top_text b) + n)) (top_text b ++ rest)) (begin_up_to most (Some track) (segment_at base false n) rest) (run track.numbers (segment_at base false n) rest) (run track.numbers (segment_at base false n) rest)
    (tracks_begun most base b track n rest is) refl (begun_run most track base n rest (omega (arith, fits, some)))

pub segment_reached : (file : List ℕ) (track : Track) (left : ℕ) (rest : List ℕ) (b : SegmentBegins file track left rest) → ReachesSegment file track (parts_frames b.parts) left rest b.size
segment_reached file track left rest b =
    record {
      base = start.base;
      base_is = refl;
      loose = all.0;
      at = record { size = b.size; begun = begun; opened = begins_complete file content b.size b.begins ∙ start.opened content; is = begun_as track begun at_tracks (added (parts_frames b.parts) (run track.numbers (segment_at start.base all.0 left) rest)) (run track.numbers (segment_at start.base false here) (parts_text b.parts ++ rest)) same (sym all.1) (begun_there one.0 start.base b.tracks track here (parts_text b.parts ++ rest) b.tracks_is one.1) };
    }
  where
    start : HasStart b.size
    start = segment_start b.size

    content : List ℕ
    content = tops_text b.before ++ (top_text b.tracks ++ (parts_text b.parts ++ rest))

    here : ℕ
    here = length (parts_text b.parts) + left

    there : ℕ
    there = length (top_text b.tracks) + here

    whole : room b.size ≡ length (tops_text b.before) + there
    whole = omega (arith, b.counted, length-append (tops_text b.before) (top_text b.tracks ++ parts_text b.parts), length-append (top_text b.tracks) (parts_text b.parts))

    one : (less : ℕ) × (there < less) × Same start.most less None None (segment_at start.base false (length (tops_text b.before) + there)) (segment_at start.base false there) content (top_text b.tracks ++ (parts_text b.parts ++ rest))
    one = tops_begun start.most start.base b.before there (top_text b.tracks ++ (parts_text b.parts ++ rest)) b.before_are b.first (omega (arith, whole, start.fits))

    Z : Type 0
    Z = Result ((Track × Place) × List ℕ) Stop

    begun : Z
    begun = begin_up_to start.most None (segment_at start.base false (room b.size)) content

    at_tracks : Z
    at_tracks = begin_up_to one.0 None (segment_at start.base false there) (top_text b.tracks ++ (parts_text b.parts ++ rest))

    same : begun ≡ at_tracks
    same = ap (λ k. begin_up_to start.most None (segment_at start.base false k) content) whole ∙ one.2

    all : (l : Bool) × (run track.numbers (segment_at start.base false here) (parts_text b.parts ++ rest) ≡ added (parts_frames b.parts) (run track.numbers (segment_at start.base l left) rest))
    all = parts_run track.numbers start.base false b.parts left rest b.parts_are

pub segment_passes : (file : List ℕ) (track : Track) (left : ℕ) (ident said rest : List ℕ) (b : SegmentBegins file track left ((ident ++ said) ++ rest)) → Passes left ident said → GivesThen file track.head (parts_frames b.parts) (Met fault.Truncated rest)
segment_passes file track left ident said rest b p =
    let r = segment_reached file track left ((ident ++ said) ++ rest) b in
    refused_there file track (parts_frames b.parts) (segment_at r.base r.loose left) ((ident ++ said) ++ rest) (Met fault.Truncated rest) r.at (segment_refused track.numbers r.base r.loose left ident said rest p)

-- a Cluster of known size
pub record ReachesCluster (file : List ℕ) (track : Track) (frames : List (List ℕ)) (left : ℕ) (rest : List ℕ) : Type 0 where
  pub base : Place
  pub s : Sum
  pub at : Reaches file track frames (cluster_at base left s) rest

no_more : (xs ys : List (List ℕ)) → (xs ++ []) ++ ys ≡ xs ++ ys
no_more xs ys = ap (λ z. z ++ ys) (append-nil xs)

pub cluster_reached : (file : List ℕ) (track : Track) (left : ℕ) (rest : List ℕ) → 0 < left → (b : ClusterBegins file track left rest) → ReachesCluster file track (parts_frames b.segment.parts ++ pieces_frames b.pieces) left rest
unfolding segment_child
cluster_reached file track left rest some b =
    let head = b.ident ++ b.size in
    let body = pieces_text b.pieces in
    let k = length body + left in
    let before = parts_frames b.segment.parts in
    let r = segment_reached file track (length head + (k + b.after)) (head ++ (body ++ rest)) b.segment in
    let place : Place = segment_at r.base r.loose b.after in
    let there : (number_of b.ident == cluster) ≡ true = eq-eqb _ _ b.named.2 in
    let turn : turn_read track.numbers (segment_at r.base r.loose (length head + (k + b.after))) (head ++ (body ++ rest)) ≡ Ok (Some ([], cluster_entered place k), body ++ rest) =
    segment_header track.numbers r.base r.loose b.ident b.size (Some k) b.after (body ++ rest) b.named.0 b.named.1 b.sized ∙ rw there refl in
    let entered = reaches_on file track before [] (segment_at r.base r.loose (length head + (k + b.after))) (cluster_entered place k) (head ++ (body ++ rest)) (body ++ rest) r.at
    (turn_added track.numbers (segment_at r.base r.loose (length head + (k + b.after))) (cluster_entered place k) (head ++ (body ++ rest)) (body ++ rest) [] turn) in
    let now : Place = segment_at place false place.segment in
    let part = first_part track.numbers now b.pieces left rest b.are (inl some) in
    let P : List (List ℕ) → Type 0 = λ fs. Reaches file track fs (cluster_at now left part.0) rest in
    record { base = now; s = part.0; at = subst P (no_more before (pieces_frames b.pieces)) (reaches_on file track (before ++ []) (pieces_frames b.pieces) (cluster_entered place k) (cluster_at now left part.0) (body ++ rest) rest entered part.1) }

pub cluster_passes : (file : List ℕ) (track : Track) (left : ℕ) (ident said rest : List ℕ) (b : ClusterBegins file track left ((ident ++ said) ++ rest)) → Passes left ident said → is_outside (number_of ident) ≡ false → GivesThen file track.head (parts_frames b.segment.parts ++ pieces_frames b.pieces) (Met fault.Truncated rest)
cluster_passes file track left ident said rest b p inside =
    let r = cluster_reached file track left ((ident ++ said) ++ rest) (passes_some left ident said p) b in
    refused_there file track (parts_frames b.segment.parts ++ pieces_frames b.pieces) (cluster_at r.base left r.s) ((ident ++ said) ++ rest) (Met fault.Truncated rest) r.at (cluster_refused track.numbers r.base left r.s ident said rest p inside)

-- a BlockGroup of so many bytes is read as its elements are
abbrev Opens : TrackNumbers → ℕ → List ℕ → Type 0
Opens track k rest = (base : Place) (x : Sum) → run_on track (read_on (block_sought k track (group_at base k x) rest) step_kept) ≡ run track (group_at base k x) rest

-- one of which an element passes it is so
pass_agrees : (track : TrackNumbers) (base : Place) (more : ℕ) (ident said rest : List ℕ) → Passes more ident said → Agrees track base more ((ident ++ said) ++ rest)
unfolding block_sought
pass_agrees track base more ident said rest p zero x fits = absurd (omega (arith, fits, passes_some more ident said p))
pass_agrees track base more ident said rest p (suc k) x fits =
    let some : (more == 0) ≡ false = ne_eqb more 0 (λ e. omega (arith, e, passes_some more ident said p)) in
    rw (some, header_passes more x ident said rest p) refl ∙ sym (group_refused track base more x ident said rest p)

group_opens : (track : TrackNumbers) (ls : List Leaf) (more : ℕ) (ident said rest : List ℕ) → AreLeaves block track ls → Passes more ident said → Opens track (length (leaves_text ls) + more) (leaves_text ls ++ ((ident ++ said) ++ rest))
group_opens track ls more ident said rest are p base x =
    sought_agrees (length (leaves_text ls) + more) track base ls more x ((ident ++ said) ++ rest) (omega arith) are (sound_group base more (summed x (leaves_text ls)) (passes_some more ident said p)) (inr (pass_agrees track base more ident said rest p))

-- a BlockGroup is entered, in a Cluster of known size
opened_by : (track : TrackNumbers) (base : Place) (k m : ℕ) (rest : List ℕ) → Opens track k rest → (x : Sum) → (s : Sum) × (run_on track ((child_by track block_group k (cluster_at base m x) x >>= step_kept) rest) ≡ run track (group_at (cluster_at base m s) k s) rest)
unfolding first_child cluster_child
opened_by track base k m rest opens Absent = (Absent, opens (cluster_at base m Absent) Absent)
opened_by track base k m rest opens Begins = (Absent, opens (cluster_at base m Absent) Absent)
opened_by track base k m rest opens (Awaits stated so_far) = (Awaits stated so_far, opens (cluster_at base m (Awaits stated so_far)) (Awaits stated so_far))

group_opened : (track : TrackNumbers) (base : Place) (ident size : List ℕ) (k m : ℕ) (s : Sum) (rest : List ℕ) → Opens track k rest → SaysIdent ident block_group → SaysSize size (Some k) →
    (x : Sum) × (run track (cluster_at base (length (ident ++ size) + (k + m)) s) ((ident ++ size) ++ rest) ≡ run track (group_at (cluster_at base m x) k x) rest)
group_opened track base ident size k m s rest opens is says =
    let x = summed s (ident ++ size) in
    let on = opened_by track base k m rest opens x in (
      on.0,
      run_turn track (cluster_at base (length (ident ++ size) + (k + m)) s) ((ident ++ size) ++ rest)
          ∙ ap (run_on track) (known_header track base ident size k m s rest is.0 is.1 says (group_inside (number_of ident) is.2))
          ∙ ap (λ n. run_on track ((child_by track n k (cluster_at base m x) x >>= step_kept) rest)) is.2
          ∙ on.1,
    )

-- elements of it, and then one that passes it
in_group : (track : TrackNumbers) (base : Place) (ls : List Leaf) (more : ℕ) (s : Sum) (ident said rest : List ℕ) → AreLeaves block track ls → Passes more ident said →
    run track (group_at base (length (leaves_text ls) + more) s) (leaves_text ls ++ ((ident ++ said) ++ rest)) ≡ added (leaves_frames ls) (run track (group_at base more (summed s (leaves_text ls))) ((ident ++ said) ++ rest))
in_group track base ls more s ident said rest are p = leaves_part track base ls more s ((ident ++ said) ++ rest) are (sound_group base more (summed s (leaves_text ls)) (passes_some more ident said p))

pub group_passes : (file text : List ℕ) (track : Track) (left more : ℕ) (ident said rest : List ℕ) (b : ClusterBegins file track left text) (g : GroupBegins text track.numbers left more ((ident ++ said) ++ rest)) → Passes more ident said →
    GivesThen file track.head ((parts_frames b.segment.parts ++ pieces_frames b.pieces) ++ leaves_frames g.leaves) (Met fault.Truncated rest)
group_passes file text track left more ident said rest b g p =
    let head = g.ident ++ g.size in
    let k = length (leaves_text g.leaves) + more in
    let some : 0 < k = omega (arith, passes_some more ident said p) in
    let here : 0 < left = omega (arith, g.fits, some) in
    let r = cluster_reached file track left text here b in
    let m = left - (length head + k) in
    let whole : left ≡ length head + (k + m) = omega (arith, g.fits) in
    let bad = (ident ++ said) ++ rest in
    let inner = leaves_text g.leaves ++ bad in
    let on = group_opened track.numbers r.base g.ident g.size k m r.s inner (group_opens track.numbers g.leaves more ident said rest g.are p) g.named g.sized in
    let base : Place = cluster_at r.base m on.0 in
    let s = summed on.0 (leaves_text g.leaves) in
    let before = parts_frames b.segment.parts ++ pieces_frames b.pieces in
    refused_there file track (before ++ leaves_frames g.leaves) (group_at base more s) bad (Met fault.Truncated rest)
    (reaches_on file track before (leaves_frames g.leaves) (cluster_at r.base left r.s) (group_at base more s) text bad r.at
    (ap (run track.numbers (cluster_at r.base left r.s)) g.bytes
    ∙ ap (λ n. run track.numbers (cluster_at r.base n r.s) (head ++ inner)) whole
    ∙ on.1
    ∙ in_group track.numbers base g.leaves more on.0 ident said rest g.are p))
    (group_refused track.numbers base more s ident said rest p)

-- in a Cluster of unknown size
pub group_loose : (is_of_cluster block_group || is_filler block_group) ≡ true
unfolding is_of_cluster
group_loose = refl

loose_opened : (track : TrackNumbers) (base : Place) (ident size : List ℕ) (k m : ℕ) (rest : List ℕ) → Opens track k rest → SaysIdent ident block_group → SaysSize size (Some k) →
    run track (segment_at base true (length (ident ++ size) + (k + m))) ((ident ++ size) ++ rest) ≡ run track (group_at (segment_at base true m) k Absent) rest
unfolding cluster_child
loose_opened track base ident size k m rest opens is says =
    run_turn track (segment_at base true (length (ident ++ size) + (k + m))) ((ident ++ size) ++ rest)
    ∙ ap (run_on track) (segment_header track base true ident size (Some k) m rest is.0 is.1 says)
    ∙ ap (λ n. run_on track (read_on (segment_child track n (segment_at base true m) (Some k) rest) step_kept)) is.2
    ∙ ap (λ r. run_on track (read_on (r rest) step_kept)) (loose_child track block_group k m base group_loose)
    ∙ opens (segment_at base true m) Absent

pub loose_group_passes : (file text : List ℕ) (track : Track) (left more : ℕ) (ident said rest : List ℕ) (b : LooseBegins file track left text) (g : GroupBegins text track.numbers left more ((ident ++ said) ++ rest)) → Passes more ident said →
    GivesThen file track.head ((parts_frames b.segment.parts ++ pieces_frames b.pieces) ++ leaves_frames g.leaves) (Met fault.Truncated rest)
unfolding segment_child
loose_group_passes file text track left more ident said rest b g p =
    let head = b.ident ++ b.size in
    let body = pieces_text b.pieces in
    let before = parts_frames b.segment.parts in
    let r = segment_reached file track (length head + (length body + left)) (head ++ (body ++ text)) b.segment in
    let there : (number_of b.ident == cluster) ≡ true = eq-eqb _ _ b.named.2 in
    let none : length head + (length body + left) ≡ length head + (0 + (length body + left)) = omega arith in
    let turn : turn_read track.numbers (segment_at r.base r.loose (length head + (length body + left))) (head ++ (body ++ text)) ≡ Ok (Some ([], segment_at r.base true (length body + left)), body ++ text) =
    ap (λ n. turn_read track.numbers (segment_at r.base r.loose n) (head ++ (body ++ text))) none
    ∙ segment_header track.numbers r.base r.loose b.ident b.size None (length body + left) (body ++ text) b.named.0 b.named.1 b.unsized ∙ rw there refl in
    let entered = reaches_on file track before [] (segment_at r.base r.loose (length head + (length body + left))) (segment_at r.base true (length body + left)) (head ++ (body ++ text)) (body ++ text) r.at
    (turn_added track.numbers (segment_at r.base r.loose (length head + (length body + left))) (segment_at r.base true (length body + left)) (head ++ (body ++ text)) (body ++ text) [] turn) in
    let P : List (List ℕ) → Type 0 = λ fs. Reaches file track fs (segment_at r.base true left) text in
    let at = subst P (no_more before (pieces_frames b.pieces)) (reaches_on file track (before ++ []) (pieces_frames b.pieces) (segment_at r.base true (length body + left)) (segment_at r.base true left) (body ++ text) text entered (loose_complete track.numbers r.base b.pieces left text b.are b.loose)) in
    let front = g.ident ++ g.size in
    let k = length (leaves_text g.leaves) + more in
    let m = left - (length front + k) in
    let whole : left ≡ length front + (k + m) = omega (arith, g.fits) in
    let bad = (ident ++ said) ++ rest in
    let inner = leaves_text g.leaves ++ bad in
    let base : Place = segment_at r.base true m in
    let s = summed Absent (leaves_text g.leaves) in
    refused_there file track ((before ++ pieces_frames b.pieces) ++ leaves_frames g.leaves) (group_at base more s) bad (Met fault.Truncated rest)
    (reaches_on file track (before ++ pieces_frames b.pieces) (leaves_frames g.leaves) (segment_at r.base true left) (group_at base more s) text bad at
    (ap (run track.numbers (segment_at r.base true left)) g.bytes
    ∙ ap (λ n. run track.numbers (segment_at r.base true n) (front ++ inner)) whole
    ∙ loose_opened track.numbers r.base g.ident g.size k m inner (group_opens track.numbers g.leaves more ident said rest g.are p) g.named g.sized
    ∙ in_group track.numbers base g.leaves more Absent ident said rest g.are p))
    (group_refused track.numbers base more s ident said rest p)
