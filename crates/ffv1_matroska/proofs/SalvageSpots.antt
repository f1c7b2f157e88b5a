-- Elements that are read with what is told of them, before the frames, by the calls of which the
-- reading of each is made.
use Rattle.std.proofs.Common.{◌≡◌, ◌+◌, ◌==◌, ◌++◌, [], ◌∷◌, ℕ, List, Option, Some, None, Ok, true, false, inl, inr, refl, ◌∙◌, ap, append_assoc, arith}
use Rattle.ffv1_wire.proofs.Bytes.{consumes_then}
use Rattle.ffv1_reads.specs.declared.fault.FileFault.{FileFault}
use Rattle.ffv1_reads.specs.declared.fault.FileFault.TheVariants as fault
use Rattle.ffv1_reads.specs.Ends.{ReadOrNone, RefusedOrFaults, RefusedOrNone}
use Rattle.ffv1_reads.specs.Offsets.{Leads, ReadsCounted, ReadsWhole}
use Rattle.ffv1_reads.specs.Reads.{Read, Refused, given, read_on, refused, ◌>>=◌}
use Rattle.ffv1_reads.proofs.EndFaults.{Closes, closes_fault, closes_refused, faults_refused}
use Rattle.ffv1_reads.proofs.OffsetLaws.{counted_given, counted_same, counted_then, counts_more, reads_counted, reads_none, reads_then}
use Rattle.ffv1_reads.proofs.Reading.{faults_here, goes_fault, goes_none, goes_read, goes_same}
use Rattle.ffv1_reads.proofs.Results.{read_on_ok}
use Rattle.ffv1_ebml.specs.declared.element.Element.{Element}
use Rattle.ffv1_wire.specs.Passage.{Passage}
use Rattle.ffv1_matroska.specs.Internal.{bytes_of}
use Rattle.ffv1_matroska.specs.Offsets.{BeforeFrames, BeforeSegment, InSegment, OpeningStops, Spot, Start, beginning_taken, spot_taken}
use Rattle.ffv1_matroska.specs.Opened.{begun_at, ebml_read, tracks_or_passed}
use Rattle.ffv1_matroska.specs.Opening.{most_elements}
use Rattle.ffv1_matroska.specs.Places.{ended, segment_at}
use Rattle.ffv1_matroska.specs.SalvageStops.{SalvageStops, StopsThere, beginning_salvaged, beginning_told, salvaged_taken, spot_told}
use Rattle.ffv1_matroska.specs.Salvaged.{ebml_salvaged, tracks_or_salvaged}
use Rattle.ffv1_matroska.specs.Segments.{cluster, header_read}
use Rattle.ffv1_matroska.specs.Tracks.{Track}
use Rattle.ffv1_matroska.specs.declared.place.Place.{Place}
use Rattle.ffv1_matroska.proofs.Beginnings.{no_tracks}
use Rattle.ffv1_matroska.proofs.SalvageLaws.{ebml_same, visit_same}
use Rattle.ffv1_matroska.proofs.SalvageTakes.{visit_all}
use Rattle.ffv1_matroska.proofs.SpotReadings.{Ended, header_bytes, header_counted}

-- ---- elements that are read whole

pub section_whole : (found now : Option Track) (o : Option FileFault) (here : Place) (e : Element) {a b c : Option (List ℕ)} → (e.ident == cluster) ≡ false → Read (header_read here) a b (Some e) → Read (tracks_or_salvaged found e.ident e.size) b c (now, o) →
    ReadsCounted (salvaged_taken (InSegment found here)) a c (InSegment now (segment_at here false e.left)) (header_bytes here e + (bytes_of e.size + 0))
unfolding salvaged_taken
section_whole found now o here e {c = c} other header read =
    counted_then (header_read here) (beginning_salvaged found here) (header_counted here e header)
    (counted_same (tracks_or_salvaged found e.ident e.size >>= λ p. given (InSegment p.0 (segment_at here false e.left))) _ (λ text. rw other refl)
    (counted_then (tracks_or_salvaged found e.ident e.size) _ (reads_counted (bytes_of e.size) (visit_all found e.ident e.size) (omega arith) read) (counted_given (InSegment now (segment_at here false e.left)) c)))

pub ebml_whole : {a b : Option (List ℕ)} {o : Option FileFault} {n : ℕ} → ReadsCounted ebml_salvaged a b o n → ReadsWhole salvaged_taken Start a b (BeforeSegment most_elements) (0 + (n + 0))
unfolding salvaged_taken
ebml_whole {a = a} {b = b} read = counts_more (reads_none salvaged_taken Start a) (counted_then ebml_salvaged (λ _. given (BeforeSegment most_elements)) read (counted_given (BeforeSegment most_elements) b))

-- what is read plainly is read so, too
taken_same : (from next : Spot) (text rest : List ℕ) → spot_taken from text ≡ Ok (next, rest) → salvaged_taken from text ≡ Ok (next, rest)
unfolding spot_taken salvaged_taken
taken_same Start next text rest is =
    let one = read_on_ok (ebml_read text) (λ _. given (BeforeSegment most_elements)) (next, rest) is in
    ap (λ z. read_on z (λ _. given (BeforeSegment most_elements))) (ebml_same text one.0.1 one.1) ∙ one.2
taken_same (BeforeSegment most) next text rest is = is
taken_same (BeforeFrames track place) next text rest is = is
taken_same (InSegment found here) next text rest is =
    let one = read_on_ok (header_read here text) (beginning_taken found here) (next, rest) is in
    ap (λ z. read_on z (beginning_salvaged found here)) one.1 ∙ on_element one.0.0 one.0.1 one.2
  where
    on_element : (o : Option Element) (more : List ℕ) → beginning_taken found here o more ≡ Ok (next, rest) → beginning_salvaged found here o more ≡ Ok (next, rest)
    on_element None more h = h
    on_element (Some e) more h = on_cluster (e.ident == cluster) refl
      where
        on_cluster : (b : _) → (e.ident == cluster) ≡ b → beginning_salvaged found here (Some e) more ≡ Ok (next, rest)
        on_cluster true test = rw test (rw test at h)
        on_cluster false test =
            let two = read_on_ok (tracks_or_passed found e.ident e.size more) (λ now. given (InSegment now (segment_at here false e.left))) (next, rest) (rw test at h) in
            rw (test, visit_same found two.0.0 e.ident e.size more two.0.1 two.1) two.2

leads_same : (from : Spot) (elements : List (List ℕ)) (to : Spot) → Leads spot_taken from elements to → Leads salvaged_taken from elements to
leads_same from [] to same = same
leads_same from (b ∷ bs) to (next, one, others) = (next, (λ rest. taken_same from next (b ++ rest) rest (one rest)), leads_same next bs to others)

pub whole_same : {from to : Spot} {a b : Option (List ℕ)} {n : ℕ} → ReadsWhole spot_taken from a b to n → ReadsWhole salvaged_taken from a b to n
whole_same {from = from} {to = to} h = record { elements = h.elements; leads = leads_same from h.elements to h.leads; consumed = h.consumed; counted = h.counted }

-- ---- the one that ends it

closes : (found : Option Track) (here : Place) → Closes fault.NoTracks Ended (beginning_salvaged found here)
unfolding begun_at
closes None here = inr (λ text. refl)
closes (Some track) here = inl (BeforeFrames track ended, (tt, (λ text. refl)))

abbrev Lacks : Spot → Option (List ℕ) → Option (List ℕ) → ℕ → ℕ → FileFault → Type 0
Lacks s old new before after f = RefusedOrFaults fault.NoTracks Ended (salvaged_taken s) old new before after f

pub header_stops : (found : Option Track) (here : Place) (old new : Option (List ℕ)) (before after : ℕ) (f : FileFault) → RefusedOrNone (header_read here) old new before after f → StopsThere (InSegment found here) old new f
unfolding salvaged_taken
header_stops found here old new before after f why = inl (before, after, closes_refused fault.NoTracks Ended (header_read here) (beginning_salvaged found here) new after f (closes found here) (goes_none (salvaged_taken (InSegment found here)) old before) why)

pub section_stops : (found : Option Track) (here : Place) (e : Element) (old mid new : Option (List ℕ)) (before last after : ℕ) (f : FileFault) → (e.ident == cluster) ≡ false → (last ≡ before) × Read (header_read here) old mid (Some e) → Refused (tracks_or_salvaged found e.ident e.size) mid new last after f →
    StopsThere (InSegment found here) old new f
unfolding salvaged_taken
section_stops found here e old mid new before last after f other header why =
    inl (
      before,
      after,
      faults_refused fault.NoTracks Ended (tracks_or_salvaged found e.ident e.size) (λ p. given (InSegment p.0 (segment_at here false e.left))) new after f
          (goes_same _ (tracks_or_salvaged found e.ident e.size >>= λ p. given (InSegment p.0 (segment_at here false e.left))) (λ text. rw other refl)
          (goes_read (header_read here) (beginning_salvaged found here) mid last (Some e) (goes_none (salvaged_taken (InSegment found here)) old before) header)) why,
    )

pub cluster_stops : (here : Place) (e : Element) (old new : Option (List ℕ)) (before after : ℕ) → (e.ident == cluster) ≡ true → (after ≡ before) × Read (header_read here) old new (Some e) → StopsThere (InSegment None here) old new fault.NoTracks
unfolding salvaged_taken begun_at
cluster_stops here e old new before after is header =
    inl (
      before,
      after,
      inl (goes_fault fault.NoTracks (goes_same _ (refused fault.NoTracks) (λ text. rw is refl)
          (goes_read (header_read here) (beginning_salvaged None here) new after (Some e) (goes_none (salvaged_taken (InSegment None here)) old before) header)) (refl, faults_here Spot fault.NoTracks _)),
    )

pub end_stops : (here : Place) (old new : Option (List ℕ)) (before after : ℕ) → (after ≡ before) × ReadOrNone (header_read here) old new None → StopsThere (InSegment None here) old new fault.NoTracks
unfolding salvaged_taken begun_at
end_stops here old new before after header = inl (before, after, no_tracks Ended (closes_fault (header_read here) (beginning_salvaged None here) new after fault.NoTracks (λ text. refl) (goes_none (salvaged_taken (InSegment None here)) old before) header))

-- it is read, and one more is not told
pub told_stops_there : (found now : Option Track) (f : FileFault) (here : Place) (e : Element) {a b c : Option (List ℕ)} → (e.ident == cluster) ≡ false → Read (header_read here) a b (Some e) → Read (tracks_or_salvaged found e.ident e.size) b c (now, Some f) → StopsThere (InSegment found here) a c f
unfolding spot_told
told_stops_there found now f here e {a = a} {b = b} {c = c} other header visit =
    inr (record {
      bytes = header.bytes ++ visit.bytes;
      consumed = consumes_then a b c header.bytes visit.bytes header.consumed visit.consumed;
      is = λ rest. ap (header_read here >>= beginning_told found here) (append_assoc header.bytes visit.bytes rest) ∙ rw (header.is (visit.bytes ++ rest), other, visit.is rest) refl;
    })

-- ---- before the Segment

pub ebml_stops_there : (old new : Option (List ℕ)) (before after : ℕ) (f : FileFault) → Refused ebml_salvaged old new before after f → StopsThere Start old new f
unfolding salvaged_taken
ebml_stops_there old new before after f why = inl (before, after, faults_refused fault.NoTracks Ended ebml_salvaged (λ _. given (BeforeSegment most_elements)) new after f (goes_none (salvaged_taken Start) old before) why)

pub opening_same : {from : Spot} {p : Passage} {f : FileFault} {most count : ℕ} → OpeningStops from p f (BeforeSegment most) count → SalvageStops from p.old p.new f (BeforeSegment most) count
unfolding salvaged_taken
opening_same {p = p} h = record { between = h.between; before = whole_same h.before; stops = inl (p.before, p.after, h.refused) }

-- what ends it, of the whole
pub stops_then : {from between to : Spot} {a b c : Option (List ℕ)} {m n : ℕ} {f : FileFault} → ReadsWhole salvaged_taken from a b between m → SalvageStops between b c f to n → SalvageStops from a c f to (m + n)
stops_then h stops = record { between = stops.between; before = reads_then h stops.before; stops = stops.stops }
