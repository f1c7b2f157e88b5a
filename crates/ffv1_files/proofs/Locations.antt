-- Where in a file a call has come, or was refused.
use Rattle.std.proofs.Common.{◌≡◌, ◌+◌, ◌-◌, ◌^◌, min, ℕ, Bool, true, false, Option, Some, None, Result, Ok, Err, List, [], inl, inr, refl, sym, ◌∙◌, subst, arith}
use Rattle.std.specs.Io.KnownBytes.{Consumes, Keeps}
use Rattle.ffv1_wire.specs.Failures.{one_more}
use Rattle.ffv1_wire.specs.Passage.{Passage}
use Rattle.ffv1_wire.specs.Reads.{GivesByte}
use Rattle.ffv1_reads.specs.Ends.{RefusedOrEnds, RefusedOrFaults}
use Rattle.ffv1_reads.specs.First.{bytes_with}
use Rattle.ffv1_reads.specs.Offsets.{ReadsWhole, StopsAfter, all_bytes, offset_after}
use Rattle.ffv1_reads.specs.Reads.{Looked, Reading}
use Rattle.ffv1_reads.specs.declared.fault.FileFault.{FileFault}
use Rattle.ffv1_reads.specs.declared.fault.FileFault.TheVariants as fault
use Rattle.ffv1_reads.proofs.OffsetLaws.{offset_same, reads_none, reads_then}
use Rattle.ffv1_avi.specs.Offsets as avi
use Rattle.ffv1_avi.specs.Offsets.{Counts}
use Rattle.ffv1_avi.specs.Readers as avi_reader
use Rattle.ffv1_avi.specs.declared.place.Extent.{Extent}
use Rattle.ffv1_avi.specs.declared.place.Extent.TheVariants.{FirstMovi, EveryRiff}
use Rattle.ffv1_matroska.specs.Offsets as matroska
use Rattle.ffv1_matroska.specs.Places.{ended}
use Rattle.ffv1_matroska.specs.Readers as matroska_reader
use Rattle.ffv1_matroska.specs.Tracks.{Track}
use Rattle.ffv1_matroska.specs.declared.place.Place.{Place as MatroskaPlace}
use Rattle.ffv1_matroska.specs.Times.{times_begun}
use Rattle.ffv1_files.specs.declared.container.Scope.{Scope}
use Rattle.ffv1_files.specs.declared.container.Scope.TheVariants as scope
use Rattle.ffv1_files.specs.Offsets.{AviReached, AviStops, Layout, LocatedNext, MatroskaReached, MatroskaStops, Reached, ReadsKnown, ReadsThrough, StopsAt, StopsOnce, StopsThrough}
use Rattle.ffv1_files.specs.Places.{InAvi, InMatroska}
use Rattle.ffv1_files.specs.Readers.{Standing}
use Rattle.ffv1_files.proofs.OpenedRooms.{consumed_with}

-- a file of which the first byte was looked at
pub whole_with : {S : Type 0} {element : S → Reading S} {from to : S} {count : ℕ} (first : Option ℕ) (old mid new : Option (List ℕ)) → GivesByte old mid first → ReadsWhole element from (bytes_with first mid) new to count → ReadsWhole element from old new to count
whole_with first old mid new gives h = record { elements = h.elements; leads = h.leads; consumed = consumed_with first old mid new (all_bytes h.elements) gives h.consumed; counted = h.counted }

stops_with : {S : Type 0} {element : S → Reading S} {from to : S} {count : ℕ} (first : Option ℕ) (old mid new : Option (List ℕ)) (before now after : ℕ) (f : FileFault) → now ≡ before → GivesByte old mid first → StopsAfter element from (record { old = bytes_with first mid; new = new; before = now; after = after }) f to count →
    StopsAfter element from (record { old = old; new = new; before = before; after = after }) f to count
stops_with {element = element} {to = to} first old mid new before now after f same gives h =
    record { between = h.between; before = whole_with first old mid h.between gives h.before; refused = subst (λ n. RefusedOrEnds (element to) h.between new n after f) same h.refused }

opening_with : {from to : matroska.Spot} {count : ℕ} (first : Option ℕ) (old mid new : Option (List ℕ)) (before now after : ℕ) (f : FileFault) → now ≡ before → GivesByte old mid first → matroska.OpeningStops from (record { old = bytes_with first mid; new = new; before = now; after = after }) f to count →
    matroska.OpeningStops from (record { old = old; new = new; before = before; after = after }) f to count
opening_with {to = to} first old mid new before now after f same gives h =
    record { between = h.between; before = whole_with first old mid h.between gives h.before; refused = subst (λ n. RefusedOrFaults fault.NoTracks (λ _. Unit {0}) (matroska.spot_taken to) h.between new n after f) same h.refused }

-- readers of their containers
abbrev pub in_avi : avi_reader.Standing → Standing
in_avi r = record { head = r.head; place = InAvi r.place; offset = r.offset; fault = r.fault; room = r.room; end = 0; cued = false; after = r.after; repeated = r.repeated; others = r.others; times = times_begun 0; open_ended = r.open_ended }

abbrev pub in_matroska : matroska_reader.Standing → Standing
in_matroska r = record { head = r.track.head; place = InMatroska r.segment r.track.numbers r.place; offset = r.offset; fault = r.fault; room = r.room; end = r.end; cued = r.cued; after = None; repeated = 0; others = 0; times = r.times; open_ended = false }

-- that were opened
avi_begins : (extent : Extent) (text left : Option (List ℕ)) (r : avi_reader.Standing) (count : ℕ) → ReadsWhole (avi.spot_taken extent) avi.Start text left (avi.BeforeFrames r.head r.place) count → r.offset ≡ offset_after 0 count → AviReached extent text left r.head r.place r.offset
avi_begins extent text left r count whole is =
    record { first = r.place; between = left; before = count; after = 0; opened = whole; framed = reads_none avi.chunk_taken r.place left; offset_is = is ∙ offset_same 0 count (2 ^ 64 - 1) }

pub movi_reached : (p : Passage) (r : avi_reader.Standing) (offset : ℕ) → avi.OffsetOpened FirstMovi p (Ok r) offset → Reached scope.FirstMovi p.old p.new (in_avi r)
movi_reached p r offset h = record { whole = avi_begins FirstMovi p.old p.new r h.0 h.1 h.2 }

pub movi_stopped : (p : Passage) (f : FileFault) (offset : ℕ) → avi.OffsetOpened FirstMovi p (Err f) offset → StopsAt scope.FirstMovi p f offset
movi_stopped p f offset h = record { whole = inl h }

module _ (first : Option ℕ) (old mid new : Option (List ℕ)) (before now after : ℕ) (same : now ≡ before) (gives : GivesByte old mid first) where
  abbrev handed : Passage
  handed = record { old = bytes_with first mid; new = new; before = now; after = after }

  abbrev all : Passage
  all = record { old = old; new = new; before = before; after = after }

  pub avi_reached : (r : avi_reader.Standing) (offset : ℕ) → avi.OffsetOpened EveryRiff handed (Ok r) offset → Reached scope.Whole old new (in_avi r)
  avi_reached r offset h = record { whole = avi_begins EveryRiff old new r h.0 (whole_with first old mid new gives h.1) h.2 }

  pub avi_stopped : (f : FileFault) (offset : ℕ) → avi.OffsetOpened EveryRiff handed (Err f) offset → StopsAt scope.Whole all f offset
  avi_stopped f offset h = record { whole = inl (inl (h.0, h.1, stops_with first old mid new before now after f same gives h.2, h.3)) }

  pub matroska_reached : (r : matroska_reader.Standing) (offset : ℕ) → matroska.OffsetOpened handed (Ok r) offset → Reached scope.Whole old new (in_matroska r)
  matroska_reached r offset (count, inl whole, is) =
      record { whole = inl (r.track.head, record { first = r.place; between = new; before = count; after = 0; opened = whole_with first old mid new gives whole; framed = reads_none (matroska.element_taken r.track.numbers) r.place new; offset_is = is ∙ offset_same 0 count (2 ^ 64 - 1) }) }
  matroska_reached r offset (count, inr (over, ends), is) =
      record { whole = inr (inl (over, r.track.head, (count, record { here = ends.here; between = ends.between; before = whole_with first old mid ends.between gives ends.before; none = ends.none }, is))) }

  pub once_stopped : (f : FileFault) (offset : ℕ) → matroska.OffsetOpened handed (Err f) offset → StopsOnce all f offset
  once_stopped f offset h = (h.0, h.1, opening_with first old mid new before now after f same gives h.2, h.3)

  pub matroska_stopped : (f : FileFault) (offset : ℕ) → matroska.OffsetOpened handed (Err f) offset → StopsAt scope.Whole all f offset
  matroska_stopped f offset h = record { whole = inr (inl (once_stopped f offset h)) }

-- a file of which the first byte could not be read
pub first_stopped : (old new : Option (List ℕ)) (before after : ℕ) → Keeps old new → after ≡ one_more before → StopsAt scope.Whole (record { old = old; new = new; before = before; after = after }) fault.Read 0
unfolding avi.spot_taken
first_stopped old new before after kept counted =
    record { whole = inl (inl (avi.Start, 0, record { between = old; before = reads_none (avi.spot_taken EveryRiff) avi.Start old; refused = (counted, inl (Looked, record { bytes = []; consumed = unread old new kept; is = refl })) }, none (2 ^ 64 - 1))) }
  where
    unread : (a b : Option (List ℕ)) → Keeps a b → Consumes a b []
    unread None b kept = tt
    unread (Some xs) None kept = absurd kept
    unread (Some xs) (Some ys) kept = sym kept

    none : (most : ℕ) → 0 ≡ min (0 + 0) most
    none most = grind arith

-- an offset goes on
goes_on : (before after more most : ℕ) → min (min (0 + (before + after)) most + more) most ≡ min (0 + (before + (after + more))) most
goes_on before after more most = grind arith

pub counts_on : {old new : ℕ} (before after more : ℕ) → old ≡ offset_after 0 (before + after) → Counts old new more → new ≡ offset_after 0 (before + (after + more))
counts_on before after more is counts = counts (before + after) (is ∙ zero (before + after) (2 ^ 64 - 1)) ∙ all (2 ^ 64 - 1)
  where
    zero : (n most : ℕ) → min (0 + n) most ≡ min n most
    zero n most = grind arith

    all : (most : ℕ) → min (before + after + more) most ≡ min (0 + (before + (after + more))) most
    all most = grind arith

-- elements more, and the one that comes next was refused
module _ {S T : Type 0} {layout : Layout S T} where
  pub through_on : {text left new : Option (List ℕ)} {place next : T} {offset last : ℕ} (more : ℕ) (h : ReadsThrough layout text left place offset) → ReadsWhole layout.frames place left new next more → last ≡ offset_after 0 (h.before + (h.after + more)) → ReadsThrough layout text new next last
  through_on more h whole is = record { first = h.first; between = h.between; before = h.before; after = h.after + more; opened = h.opened; framed = reads_then h.framed whole; offset_is = is }

  stops_on : {text : Option (List ℕ)} {place to : T} {offset last : ℕ} (p : Passage) (f : FileFault) (more : ℕ) (h : ReadsThrough layout text p.old place offset) → StopsAfter layout.frames place p f to more → last ≡ offset_after 0 (h.before + (h.after + more)) → StopsThrough layout (record p { old = text }) f last
  stops_on {to = to} p f more h stops is =
      record { first = h.first; between = h.between; before = h.before; to = to; after = h.after + more; opened = h.opened; stops = record { between = stops.between; before = reads_then h.framed stops.before; refused = stops.refused }; offset_is = is }

-- the next frame of an AVI
avi_on : (extent : Extent) (text : Option (List ℕ)) (old new : avi_reader.Standing) (p : Passage) → new.head ≡ old.head → avi.OffsetAfter old p (Ok true) new → AviReached extent text p.old old.head old.place old.offset → AviReached extent text p.new new.head new.place new.offset
avi_on extent text old new p same (n, whole, counts) h = subst (λ d. AviReached extent text p.new d new.place new.offset) (sym same) (through_on n h whole (counts_on h.before h.after n h.offset_is counts))

avi_stops_on : (extent : Extent) (text : Option (List ℕ)) (old new : avi_reader.Standing) (p : Passage) (f : FileFault) → avi.OffsetAfter old p (Err f) new → AviReached extent text p.old old.head old.place old.offset → AviStops extent (record p { old = text }) f new.offset
avi_stops_on extent text old new p f (to, n, stops, counts) h = inr (old.head, stops_on p f n h stops (counts_on h.before h.after n h.offset_is counts))

pub avi_located : (s : Scope) (text : Option (List ℕ)) (old new : avi_reader.Standing) (p : Passage) (r : Result Bool FileFault) → avi_reader.StandsAfter old r new → avi.OffsetAfter old p r new → Reached s text p.old (in_avi old) → LocatedNext s text p r (in_avi new)
avi_located scope.FirstMovi text old new p (Ok true) stands h reached = record { whole = avi_on FirstMovi text old new p stands.2 h reached.whole }
avi_located scope.Whole text old new p (Ok true) stands h reached = record { whole = avi_on EveryRiff text old new p stands.2 h reached.whole }
avi_located s text old new p (Ok false) stands h reached = tt
avi_located scope.FirstMovi text old new p (Err f) stands h reached = record { whole = avi_stops_on FirstMovi text old new p f h reached.whole }
avi_located scope.Whole text old new p (Err f) stands h reached = record { whole = inl (avi_stops_on EveryRiff text old new p f h reached.whole) }

-- of a Segment
abbrev Over : matroska_reader.Standing → Result Bool FileFault → Type 0
Over old r = old.place ≡ ended → r ≡ Ok false

not_false : ◌≡◌ {A = Result Bool FileFault} (Ok true) (Ok false) → ⊥
not_false e = cc

not_over : (f : FileFault) → ◌≡◌ {A = Result Bool FileFault} (Err f) (Ok false) → ⊥
not_over f e = cc

-- after a file was begun again
known_goes : (before count after more most : ℕ) → min (min (0 + (before + (count + after))) most + more) most ≡ min (0 + (before + (count + (after + more)))) most
known_goes before count after more most = grind arith

known_on : {text left new : Option (List ℕ)} {track : Track} {place next : MatroskaPlace} {offset last : ℕ} (more : ℕ) → ReadsKnown text left track place offset → ReadsWhole (matroska.element_taken track.numbers) place left new next more → last ≡ offset_after offset more → ReadsKnown text new track next last
known_on more h whole is =
    record { size = h.size; known = h.known; first = h.first; between = h.between; begun = h.begun; before = h.before; count = h.count; after = h.after + more; entered = h.entered; opened = h.opened; framed = reads_then h.framed whole; offset_is = is ∙ rw h.offset_is (known_goes h.before h.count h.after more (2 ^ 64 - 1)) }

matroska_on : (text : Option (List ℕ)) (old new : matroska_reader.Standing) (p : Passage) → new.track ≡ old.track → Over old (Ok true) → matroska.OffsetAfter old p (Ok true) new → MatroskaReached text p.old old.track.numbers old.place old.offset → MatroskaReached text p.new new.track.numbers new.place new.offset
matroska_on text old new p same over h (inr (inl ends)) = absurd (not_false (over ends.0))
matroska_on text old new p same over h (inr (inr (inr ends))) = absurd (not_false (over ends.0))
matroska_on text old new p same over (n, whole, is) (inr (inr (inl (head, h)))) =
    subst (λ (t : Track). MatroskaReached text p.new t.numbers new.place new.offset) (sym same)
    (inr (inr (inl (head, known_on n h whole is))))
matroska_on text old new p same over (n, whole, is) (inl (head, h)) =
    subst (λ (t : Track). MatroskaReached text p.new t.numbers new.place new.offset) (sym same)
    (inl (head, through_on n h whole (is ∙ rw h.offset_is (goes_on h.before h.after n (2 ^ 64 - 1)))))

matroska_stops_on : (text : Option (List ℕ)) (old new : matroska_reader.Standing) (p : Passage) (f : FileFault) → Over old (Err f) → matroska.OffsetAfter old p (Err f) new → MatroskaReached text p.old old.track.numbers old.place old.offset → MatroskaStops (record p { old = text }) f new.offset
matroska_stops_on text old new p f over h (inr (inl ends)) = absurd (not_over f (over ends.0))
matroska_stops_on text old new p f over h (inr (inr (inr ends))) = absurd (not_over f (over ends.0))
matroska_stops_on text old new p f over (to, n, stops, is) (inr (inr (inl (head, h)))) =
    inr (inr (inr (inl (record { track = record { numbers = old.track.numbers; head = head }; between = p.old; place = old.place; before = old.offset; reads = h; to = to; after = n; stops = stops; offset_is = is }))))
matroska_stops_on text old new p f over (to, n, stops, is) (inl (head, h)) = inr (inl (record { numbers = old.track.numbers; head = head }, stops_on p f n h stops (is ∙ rw h.offset_is (goes_on h.before h.after n (2 ^ 64 - 1)))))

pub matroska_located : (s : Scope) (text : Option (List ℕ)) (old new : matroska_reader.Standing) (p : Passage) (r : Result Bool FileFault) → matroska_reader.StandsAfter old r new → matroska.OffsetAfter old p r new → Over old r → Reached s text p.old (in_matroska old) → LocatedNext s text p r (in_matroska new)
matroska_located scope.FirstMovi text old new p r stands h over reached = absurd reached.whole
matroska_located scope.Whole text old new p (Ok true) stands h over reached = record { whole = matroska_on text old new p stands.2 over h reached.whole }
matroska_located scope.Whole text old new p (Ok false) stands h over reached = tt
matroska_located scope.Whole text old new p (Err f) stands h over reached = record { whole = inr (matroska_stops_on text old new p f over h reached.whole) }
