-- Elements before the frames, by the calls of which the reading of each is made.
use Rattle.std.proofs.Common.{◌≡◌, ◌≤◌, ◌+◌, ◌-◌, ◌==◌, ◌^◌, if◌then◌else◌, min, ℕ, suc, zero, List, Option, Some, None, Result, Ok, Err, IfOk, true, false, nat_lt, length, slice_index, [], ◌∷◌, subst, inl, inr, refl, ◌∙◌, arith}
use Rattle.std.proofs.lemmas.Bool.{eq-eqb, ne_eqb}
use Rattle.std.proofs.Common.{◌++◌, ap, append_assoc, length-append}
use Rattle.std.specs.Io.KnownBytes.{Consumes}
use Rattle.ffv1_wire.proofs.Bytes.{consumes_then}
use Rattle.ffv1_wire.specs.Passage.{Passage}
use Rattle.ffv1_reads.specs.declared.fault.FileFault.{FileFault}
use Rattle.ffv1_reads.specs.declared.fault.FileFault.TheVariants as fault
use Rattle.ffv1_reads.specs.Ends.{ReadOrNone, RefusedOrFaults, RefusedOrNone}
use Rattle.ffv1_reads.specs.Offsets.{ReadsCounted, ReadsOn, ReadsWhole, offset_after}
use Rattle.ffv1_reads.specs.Reads.{Kept, Looked, Read, Reading, Refused, given, passed, read_on, refused, taken, wanted, ◌>>=◌}
use Rattle.ffv1_reads.proofs.EndFaults.{Closes, closes_fault, closes_refused, faults_refused}
use Rattle.ffv1_reads.proofs.OffsetLaws.{counted_given, counted_same, counted_then, counts_more, offset_then, reads_counted, reads_none, reads_then}
use Rattle.ffv1_reads.proofs.Reading.{consumes_none, faults_here, goes_fault, goes_none, goes_read, goes_same}
use Rattle.ffv1_reads.proofs.Taking.{Any, Takes, takes_given, takes_if, takes_passed, takes_read, takes_refused, takes_same, takes_then, takes_wanted}
use Rattle.ffv1_ebml.specs.Elements.{content_passed}
use Rattle.ffv1_ebml.specs.Vints.{number_of}
use Rattle.ffv1_ebml.specs.declared.element.Element.{Element}
use Rattle.ffv1_reads.specs.Head.{limit}
use Rattle.ffv1_matroska.specs.Internal.{bytes_of}
use Rattle.ffv1_matroska.specs.Offsets.{BeforeFrames, BeforeSegment, BeginsFrom, FramesBegin, InSegment, OpeningStops, Spot, Start, beginning_taken, spot_behind, spot_taken}
use Rattle.ffv1_matroska.specs.Opened.{begun_at, ebml_read, element_passed, in_cluster, told, tracks, tracks_or_passed, tracks_read}
use Rattle.ffv1_matroska.specs.Opening.{content_kept, ident_read, most_elements, root_read, segment, segment_after, segment_begun, top_size, void, void_or_segment, void_read, void_sized}
use Rattle.ffv1_matroska.specs.Places.{amount, ended, segment_at}
use Rattle.ffv1_matroska.specs.Segments.{cluster, header_read, is_filler, is_section}
use Rattle.ffv1_matroska.specs.Tracks.{Track, track_in}
use Rattle.ffv1_matroska.specs.declared.place.Place.{Place}
use Rattle.ffv1_matroska.specs.declared.track.Numbers.{Numbers}
use Rattle.ffv1_matroska.proofs.Beginnings.{no_tracks}
use Rattle.ffv1_matroska.proofs.ElementTaken.{content_takes, header_takes}

-- an ID at the top
ident_takes : (ident : ℕ) → Takes Any 4 (λ _. 0) (ident_read ident)
unfolding ident_read
ident_takes ident = takes_then (taken 4) _ (takes_same _ _ (taken 4) (omega arith) (takes_wanted Looked 4 0)) (λ bytes _. takes_if (number_of bytes == ident) (given tt) (refused fault.NotMatroska) (λ _. takes_given tt tt refl) (λ _. takes_refused fault.NotMatroska))

pub ident_counted : (ident : ℕ) {a b : Option (List ℕ)} → Read (ident_read ident) a b tt → ReadsCounted (ident_read ident) a b tt 4
ident_counted ident read = reads_counted 4 (ident_takes ident) refl read

-- a Void after its ID
pub void_counted : (size : ℕ) (a b c : Option (List ℕ)) (first mid last : ℕ) → ReadsOn top_size a b (Some size) first mid → Read (passed size) b c tt → last ≡ offset_after mid size → ReadsOn void_read a c tt first last
unfolding void_read
void_counted size a b c first mid last sized read more =
    (sized.0 + size, counted_then top_size void_sized sized.1 (reads_counted size (takes_passed size 0) refl read), more ∙ rw sized.2 (offset_then first sized.0 size (2 ^ 64 - 1)))

-- the header of the Segment after the first byte of its ID
pub segment_counted : (byte : ℕ) (others : List ℕ) (r : Result (Option ℕ) FileFault) (a b c : Option (List ℕ)) (first mid last : ℕ) → Read (taken 3) a b others → number_of (byte ∷ others) ≡ segment → mid ≡ offset_after first 3 → IfOk r (λ s. ReadsOn top_size b c s mid last) →
    IfOk r (λ s. ReadsOn (segment_after byte) a c s first last)
unfolding segment_after
segment_counted byte others (Ok s) a b c first mid last read is three h =
    let sized = counted_same top_size (if number_of (byte ∷ others) == segment then top_size else refused fault.NotMatroska) (λ text. rw (eq-eqb _ _ is) refl) h.1 in
    (3 + h.0, counted_then (taken 3) _ (reads_counted 3 (takes_wanted Looked 3 0) refl read) sized, h.2 ∙ rw three (offset_then first 3 h.0 (2 ^ 64 - 1)))
segment_counted byte others (Err f) a b c first mid last read is three h = tt

-- either of them
offset_next : (first n most : ℕ) → min (min (first + 1) most + n) most ≡ min (first + (1 + (n + 0))) most
offset_next first n most = grind arith

module _ (bytes : List ℕ) (a b c : Option (List ℕ)) (first mid last : ℕ) (read : Read (taken 1) a b bytes) (one : mid ≡ offset_after first 1) where
  by_byte : (z : Option (Option ℕ)) (n : ℕ) → ReadsCounted (void_or_segment (slice_index bytes 0)) b c z (n + 0) → last ≡ offset_after mid n → ReadsOn root_read a c z first last
  unfolding root_read
  by_byte z n h more = (1 + (n + 0), counted_then (taken 1) (λ bytes. void_or_segment (slice_index bytes 0)) (reads_counted 1 (takes_wanted Looked 1 0) refl read) h, more ∙ rw one (offset_next first n (2 ^ 64 - 1)))

  pub root_void : slice_index bytes 0 ≡ void → ReadsOn void_read b c tt mid last → ReadsOn root_read a c None first last
  root_void is h =
      by_byte None h.0 (counted_same (void_read >>= λ _. given None) _ (λ text. rw (eq-eqb _ _ is) refl)
      (counted_then void_read (λ _. given None) h.1 (counted_given None c))) h.2

  pub root_segment : (size : Option ℕ) → (slice_index bytes 0 ≡ void → ⊥) → ReadsOn (segment_after (slice_index bytes 0)) b c size mid last → ReadsOn root_read a c (Some size) first last
  root_segment size other h =
      by_byte (Some size) h.0 (counted_same (segment_after (slice_index bytes 0) >>= λ size. given (Some size)) _ (λ text. rw (ne_eqb _ _ other) refl)
      (counted_then (segment_after (slice_index bytes 0)) (λ size. given (Some size)) h.1 (counted_given (Some size) c))) h.2

-- content that is kept
pub kept_takes : (size : Option ℕ) → Takes (λ (bytes : List ℕ). length bytes ≡ bytes_of size) (bytes_of size) (λ _. 0) (content_kept size)
unfolding content_kept
kept_takes None = takes_refused fault.BadElement
kept_takes (Some n) = takes_if (nat_lt limit n) (refused fault.ChunkTooLong) (wanted Kept n) (λ _. takes_refused fault.ChunkTooLong) (λ _. takes_same _ _ (wanted Kept n) (omega arith) (takes_wanted Kept n 0))

pub kept_counted : (size : Option ℕ) {a b : Option (List ℕ)} {bytes : List ℕ} → Read (content_kept size) a b bytes → ReadsCounted (content_kept size) a b bytes (length bytes)
kept_counted size {bytes = bytes} read = reads_counted (length bytes) (kept_takes size) (let long = ((kept_takes size).only _ _ _ (read.is [])).0 in omega (arith, long)) read

-- an element of the Segment
pub passed_takes : (ident : ℕ) (size : Option ℕ) → Takes Any (bytes_of size) (λ _. 0) (element_passed ident size)
unfolding element_passed
passed_takes ident None = takes_refused fault.BadElement
passed_takes ident (Some n) =
    takes_if (is_section ident) (content_passed n) _ (λ _. content_takes n)
    (λ _. takes_if (is_filler ident) (passed n) (refused fault.BadElement) (λ _. takes_same _ _ (passed n) (omega arith) (takes_passed n 0)) (λ _. takes_refused fault.BadElement))

pub told_takes : {X : Type 0} (r : Result X FileFault) → Takes Any 0 (λ _. 0) (told r)
told_takes (Ok x) = takes_given x tt refl
told_takes (Err f) = takes_refused f

pub tracks_takes : (size : Option ℕ) → Takes Any (bytes_of size) (λ _. 0) (tracks_read size)
unfolding tracks_read
tracks_takes size = takes_then (content_kept size) _ (kept_takes size) (λ content _. told_takes (track_in content))

pub section_takes : (found : Option Track) (ident : ℕ) (size : Option ℕ) → Takes Any (bytes_of size) (λ _. 0) (tracks_or_passed found ident size)
section_takes None ident size =
    takes_if (ident == tracks) _ _ (λ _. takes_then (tracks_read size) _ (tracks_takes size) (λ track _. takes_given (Some track) tt refl))
    (λ _. takes_then (element_passed ident size) _ (passed_takes ident size) (λ _ _. takes_given None tt refl))
section_takes (Some track) ident size = takes_then (element_passed ident size) _ (passed_takes ident size) (λ _ _. takes_given (Some track) tt refl)

-- how many bytes a header has
pub header_bytes : Place → Element → ℕ
header_bytes here e = here.segment - (bytes_of e.size + e.left)

pub header_left : (here : Place) (e : Element) {a b : Option (List ℕ)} → Read (header_read here) a b (Some e) → header_bytes here e + (bytes_of e.size + e.left) ≡ here.segment
unfolding header_bytes
header_left here e read = let all = takes_read (header_takes here) read in omega (arith, all)

pub header_counted : (here : Place) (e : Element) {a b : Option (List ℕ)} → Read (header_read here) a b (Some e) → ReadsCounted (header_read here) a b (Some e) (header_bytes here e)
header_counted here e read = reads_counted (header_bytes here e) (header_takes here) (header_left here e read) read

pub spot_read : (found now : Option Track) (here : Place) (e : Element) {a b c : Option (List ℕ)} → (e.ident == cluster) ≡ false → Read (header_read here) a b (Some e) → Read (tracks_or_passed found e.ident e.size) b c now →
    ReadsCounted (spot_taken (InSegment found here)) a c (InSegment now (segment_at here false e.left)) (header_bytes here e + (bytes_of e.size + 0))
unfolding spot_taken
spot_read found now here e {c = c} other header read =
    counted_then (header_read here) (beginning_taken found here) (header_counted here e header)
    (counted_same (tracks_or_passed found e.ident e.size >>= λ z. given (InSegment z (segment_at here false e.left))) _ (λ text. rw other refl)
    (counted_then (tracks_or_passed found e.ident e.size) _ (reads_counted (bytes_of e.size) (section_takes found e.ident e.size) (omega arith) read) (counted_given (InSegment now (segment_at here false e.left)) c)))

pub spot_begins : (track : Track) (here : Place) (e : Element) {a b : Option (List ℕ)} → (e.ident == cluster) ≡ true → Read (header_read here) a b (Some e) →
    ReadsCounted (spot_taken (InSegment (Some track) here)) a b (BeforeFrames track (in_cluster (segment_at here false e.left) e.size)) (header_bytes here e + 0)
unfolding spot_taken begun_at
spot_begins track here e {b = b} is header =
    counted_then (header_read here) (beginning_taken (Some track) here) (header_counted here e header)
    (counted_same (given (BeforeFrames track (in_cluster (segment_at here false e.left) e.size))) _ (λ text. rw is refl) (counted_given _ b))

-- readings that have come to the rest, after so many bytes
pub record Counted {X : Type 0} (whole : Reading X) (old : Option (List ℕ)) (rest : Reading X) (now : Option (List ℕ)) (count : ℕ) : Type 0 where
  pub bytes : List ℕ
  pub consumed : Consumes old now bytes
  pub counted : length bytes ≡ count
  pub leads : (more : List ℕ) → whole (bytes ++ more) ≡ rest more

pub counted_none : {X : Type 0} (whole : Reading X) (old : Option (List ℕ)) → Counted whole old whole old 0
counted_none whole old = record { bytes = []; consumed = consumes_none old; counted = refl; leads = λ more. refl }

pub counted_read : {X Y : Type 0} {whole : Reading X} {old now new : Option (List ℕ)} {y : Y} {m n : ℕ} (r : Reading Y) (k : Y → Reading X) → Counted whole old (r >>= k) now m → ReadsCounted r now new y n → Counted whole old (k y) new (m + (n + 0))
counted_read {whole = whole} {old = old} {now = now} {new = new} r k h read =
    record {
      bytes = h.bytes ++ read.bytes;
      consumed = consumes_then old now new h.bytes read.bytes h.consumed read.consumed;
      counted = omega (arith, length-append h.bytes read.bytes, h.counted, read.counted);
      leads = λ more. ap whole (append_assoc h.bytes read.bytes more) ∙ h.leads (read.bytes ++ more) ∙ ap (λ z. read_on z k) (read.is more);
    }

pub counted_all : {X : Type 0} {whole : Reading X} {old now : Option (List ℕ)} {n : ℕ} (x : X) → Counted whole old (given x) now n → ReadsCounted whole old now x n
counted_all x h = record { bytes = h.bytes; consumed = h.consumed; is = h.leads; counted = h.counted }

-- that was refused
abbrev pub Ended : Spot → Type 0
Ended s = Unit {0}

abbrev pub Lacks : Spot → Option (List ℕ) → Option (List ℕ) → ℕ → ℕ → FileFault → Type 0
Lacks s old new before after f = RefusedOrFaults fault.NoTracks Ended (spot_taken s) old new before after f

closes : (found : Option Track) (here : Place) → Closes fault.NoTracks Ended (beginning_taken found here)
unfolding begun_at
closes None here = inr (λ text. refl)
closes (Some track) here = inl (BeforeFrames track ended, (tt, (λ text. refl)))

pub header_refused : (found : Option Track) (here : Place) (old new : Option (List ℕ)) (before after : ℕ) (f : FileFault) → RefusedOrNone (header_read here) old new before after f → Lacks (InSegment found here) old new before after f
unfolding spot_taken
header_refused found here old new before after f why = closes_refused fault.NoTracks Ended (header_read here) (beginning_taken found here) new after f (closes found here) (goes_none (spot_taken (InSegment found here)) old before) why

pub section_refused : (found : Option Track) (here : Place) (e : Element) (old mid new : Option (List ℕ)) (before last after : ℕ) (f : FileFault) → (e.ident == cluster) ≡ false → (last ≡ before) × Read (header_read here) old mid (Some e) → Refused (tracks_or_passed found e.ident e.size) mid new last after f →
    Lacks (InSegment found here) old new before after f
unfolding spot_taken
section_refused found here e old mid new before last after f other header why =
    faults_refused fault.NoTracks Ended (tracks_or_passed found e.ident e.size) (λ z. given (InSegment z (segment_at here false e.left))) new after f
    (goes_same _ (tracks_or_passed found e.ident e.size >>= λ z. given (InSegment z (segment_at here false e.left))) (λ text. rw other refl)
    (goes_read (header_read here) (beginning_taken found here) mid last (Some e) (goes_none (spot_taken (InSegment found here)) old before) header)) why

pub cluster_refused : (here : Place) (e : Element) (old new : Option (List ℕ)) (before after : ℕ) → (e.ident == cluster) ≡ true → (after ≡ before) × Read (header_read here) old new (Some e) → Lacks (InSegment None here) old new before after fault.NoTracks
unfolding spot_taken begun_at
cluster_refused here e old new before after is header =
    inl (goes_fault fault.NoTracks (goes_same _ (refused fault.NoTracks) (λ text. rw is refl)
    (goes_read (header_read here) (beginning_taken None here) new after (Some e) (goes_none (spot_taken (InSegment None here)) old before) header)) (refl, faults_here Spot fault.NoTracks _))

pub end_refused : (here : Place) (old new : Option (List ℕ)) (before after : ℕ) → (after ≡ before) × ReadOrNone (header_read here) old new None → Lacks (InSegment None here) old new before after fault.NoTracks
unfolding spot_taken begun_at
end_refused here old new before after header = no_tracks Ended (closes_fault (header_read here) (beginning_taken None here) new after fault.NoTracks (λ text. refl) (goes_none (spot_taken (InSegment None here)) old before) header)

-- the opening stops there
pub opening_stops : {from to : Spot} {old between new : Option (List ℕ)} {count before now : ℕ} (last : ℕ) (f : FileFault) → now ≡ before → ReadsWhole spot_taken from old between to count → Lacks to between new now last f →
    OpeningStops from (record { old = old; new = new; before = before; after = last }) f to count
opening_stops {to = to} {between = between} {new = new} last f same h why = record { between = between; before = h; refused = subst (λ n. Lacks to between new n last f) same why }

pub counts_on : (k n more most : ℕ) → min (min (0 + (k + n)) most + more) most ≡ min (0 + (k + (n + (more + 0)))) most
counts_on k n more most = grind arith

-- what is left at the first Cluster
pub entered_amount : (here : Place) (left : ℕ) (size : Option ℕ) → amount (in_cluster (segment_at here false left) size) ≡ bytes_of size + left
entered_amount here left None = omega arith
entered_amount here left (Some n) = omega arith

-- the header of EBML, and that of the Segment
pub ebml_refused : (old new : Option (List ℕ)) (before after : ℕ) (f : FileFault) → Refused ebml_read old new before after f → Lacks Start old new before after f
unfolding spot_taken
ebml_refused old new before after f why = faults_refused fault.NoTracks Ended ebml_read (λ _. given (BeforeSegment most_elements)) new after f (goes_none (spot_taken Start) old before) why

pub ebml_whole : {a b : Option (List ℕ)} {n : ℕ} → ReadsCounted ebml_read a b tt n → ReadsWhole spot_taken Start a b (BeforeSegment most_elements) (0 + (n + 0))
unfolding spot_taken
ebml_whole {a = a} {b = b} read = counts_more (reads_none spot_taken Start a) (counted_then ebml_read (λ _. given (BeforeSegment most_elements)) read (counted_given (BeforeSegment most_elements) b))

pub root_refused : (most : ℕ) (old new : Option (List ℕ)) (before after : ℕ) (f : FileFault) → Refused root_read old new before after f → Lacks (BeforeSegment (suc most)) old new before after f
unfolding spot_taken
root_refused most old new before after f why = faults_refused fault.NoTracks Ended root_read (λ root. given (spot_behind most root)) new after f (goes_none (spot_taken (BeforeSegment (suc most))) old before) why

pub none_left : (old : Option (List ℕ)) (before : ℕ) → Lacks (BeforeSegment zero) old old before before fault.NotMatroska
unfolding spot_taken
none_left old before = inl (refl, faults_here Spot fault.NotMatroska old)

pub root_whole : (most : ℕ) (root : Option (Option ℕ)) {from : Spot} {a b c : Option (List ℕ)} {m n : ℕ} → ReadsWhole spot_taken from a b (BeforeSegment (suc most)) m → ReadsCounted root_read b c root n → ReadsWhole spot_taken from a c (spot_behind most root) (m + (n + 0))
unfolding spot_taken
root_whole most root {c = c} before read = counts_more before (counted_then root_read (λ root. given (spot_behind most root)) read (counted_given (spot_behind most root) c))

pub begun_flat : (size : Option ℕ) → (segment_begun size).cluster + (segment_begun size).group ≡ 0
begun_flat None = refl
begun_flat (Some n) = refl

pub first_offset : (n most : ℕ) → min (0 + n) most ≡ min (0 + (0 + (n + 0))) most
first_offset n most = grind arith

pub begins_within : (known : Option Track) (place : Place) (p : Passage) (bytes : List ℕ) (r : Result (Numbers × Place) FileFault) (here : Place) → place.cluster + place.group ≡ 0 → BeginsFrom known place p bytes r here → amount here ≤ amount place
begins_within known place p bytes (Ok n) here flat from = let all = from.2 flat in omega (arith, all)
begins_within known place p bytes (Err f) here flat from = let all = from.3 flat in omega (arith, all)

pub entered_offset : (m n most : ℕ) → min (0 + (m + n)) most ≡ min (0 + (0 + (m + 0) + n)) most
entered_offset m n most = grind arith

pub last_offset : (m n count before after most : ℕ) → count + after ≡ before → min (min (0 + (m + n)) most + min (before - after) most) most ≡ min (0 + (0 + (m + 0) + n + count)) most
last_offset m n count before after most is = grind (arith, is)

-- what stops there, of the whole
pub opening_from : {from between to : Spot} {a b c : Option (List ℕ)} {m n before mid last : ℕ} {f : FileFault} → mid ≡ before → ReadsWhole spot_taken from a b between m → OpeningStops between (record { old = b; new = c; before = mid; after = last }) f to n →
    OpeningStops from (record { old = a; new = c; before = before; after = last }) f to (m + n)
opening_from {to = to} {c = c} {last = last} {f = f} same h stops =
    record { between = stops.between; before = reads_then h stops.before; refused = subst (λ k. Lacks to stops.between c k last f) same stops.refused }

pub frames_from : {from between : Spot} {a b c : Option (List ℕ)} {m n : ℕ} (before mid last : ℕ) (track : Track) (place : Place) → ReadsWhole spot_taken from a b between m → FramesBegin between (record { old = b; new = c; before = mid; after = last }) track place n →
    FramesBegin from (record { old = a; new = c; before = before; after = last }) track place (m + n)
frames_from before mid last track place h (inl whole) = inl (reads_then h whole)
frames_from before mid last track place h (inr (is, ends)) = inr (is, record { here = ends.here; between = ends.between; before = reads_then h ends.before; none = ends.none })
