-- What stands after the end of a file, as notes.
use Rattle.std.proofs.Common.{◌≡◌, if◌then◌else◌, Bool, false, ℕ, List, [], ◌++◌, Option, Some, None, Result, Ok, Err, IfOk, true, refl, ap, sym, subst, ◌∙◌, inl, inr, length, take, drop, nat_lt}
use Rattle.ffv1_reads.specs.Behind.{begins_file, behind_read}
use Rattle.ffv1_reads.proofs.Results.{ok_is, read_on_ok}
use Rattle.ffv1_avi.specs.Behind.{BehindEnd, EndsBehind}
use Rattle.ffv1_avi.specs.Offsets.{ReadsUpTo}
use Rattle.ffv1_avi.specs.Places.{extent_of}
use Rattle.ffv1_avi.specs.declared.place.Extent.{Extent}
use Rattle.ffv1_avi.specs.declared.place.Extent.TheVariants.{EveryRiff}
use Rattle.ffv1_matroska.specs.declared.place.Place.{Place as MatroskaPlace}
use Rattle.ffv1_matroska.specs.declared.track.TrackNumbers.{TrackNumbers}
use Rattle.ffv1_wire.specs.Passage.{Passage}
use Rattle.ffv1_reads.specs.Ends.{AnswersOrEnds, RefusedOrEnds}
use Rattle.ffv1_reads.specs.declared.fault.FileFault.{FileFault}
use Rattle.ffv1_reads.specs.declared.fault.FileFault.TheVariants as fault
use Rattle.ffv1_matroska.specs.Readers as matroska
use Rattle.ffv1_matroska.specs.Readers.{segment_behind}
use Rattle.ffv1_reads.specs.Known.{Known}
use Rattle.ffv1_reads.specs.Reads.{Faults, Met, Short, Stop, Want, given, refused}
use Rattle.ffv1_avi.specs.declared.place.Open.TheVariants.{Sized}
use Rattle.ffv1_avi.specs.declared.place.Place.{Place as AviPlace}
use Rattle.ffv1_files.specs.Answers.{ReadsAs, StopsReading}
use Rattle.ffv1_files.specs.Behind.{any_value, behind_after, is_behind_fault, noted, notes_of, notes_read, notes_told}
use Rattle.ffv1_files.specs.Places.{InAvi, InMatroska, Place}
use Rattle.ffv1_files.specs.Readers.{Standing}
use Rattle.ffv1_files.specs.declared.notes.Notes.{Notes}
use Rattle.ffv1_files.proofs.Answering.{ends_known, ends_stops, made_reads, made_stops}

-- an AVI tells where they stand
pub lists_noted : (times : Option ℕ) (place : AviPlace) (end : ℕ) (cued : Bool) (after : Option ℕ) (repeated others : ℕ) (open_ended : Bool) (p : Passage) → p.new ≡ p.old → p.after ≡ p.before → ReadsAs (notes_told times (InAvi place) end cued after repeated others open_ended) p (record { is_open = open_ended; others = others; times = None; repeated = repeated; after = after })
unfolding notes_told
lists_noted times place end cued after repeated others open_ended p same counted = (counted, rw same (itself p.old))
  where
    told : Notes
    told = record { is_open = open_ended; others = others; times = None; repeated = repeated; after = after }

    itself : (text : Option (List ℕ)) → Known text text (λ text rest. given told text ≡ Ok (told, rest))
    itself None = tt
    itself (Some bytes) = refl

pub lists_end : (r : Result Bool FileFault) → IfOk r (λ more. more ≡ true → Unit {0})
lists_end (Ok more) = λ is. tt
lists_end (Err f) = tt

pub segment_noted : (r : matroska.Standing) (times : Option ℕ) (cued : Bool) (p : Passage) (some : Bool) → AnswersOrEnds (λ (b : Bool). b) (segment_behind r.segment) p (Ok some) → ReadsAs (notes_told times (InMatroska r.segment r.track.numbers r.place) r.end cued None 0 0 false) p (noted times r.track.numbers.others r.segment cued r.end some)
unfolding notes_told
segment_noted r times cued p some h = made_reads (segment_behind r.segment) (noted times r.track.numbers.others r.segment cued r.end) p some (h.0, ends_known (segment_behind r.segment) p some h.1)

pub segment_refused : (r : matroska.Standing) (times : Option ℕ) (cued : Bool) (p : Passage) (f : FileFault) → AnswersOrEnds (λ (b : Bool). b) (segment_behind r.segment) p (Err f) → StopsReading any_value (notes_told times (InMatroska r.segment r.track.numbers r.place) r.end cued None 0 0 false) p f
unfolding notes_told
segment_refused r times cued p f h = made_stops (segment_behind r.segment) (noted times r.track.numbers.others r.segment cued r.end) p any_value any_value (λ x over. tt) (λ e over. over) f (ends_stops (segment_behind r.segment) p f h)

-- if no bytes are noted, none stand there
pub lists_bare : ((from : AviPlace) (text : List ℕ) (new : Option (List ℕ)) (before : ℕ) → EndsBehind from (Some text) new before None → (new ≡ Some []) × (to : AviPlace) × (end : ℕ) × (to.movi ≡ 0) × (to.open_in ≡ Sized → to.riff ≡ 0) × ReadsUpTo from (Some text) (Some []) to before end) →
    (from : AviPlace) (text : List ℕ) (new : Option (List ℕ)) (before failed : ℕ) (was : Option ℕ) → extent_of from ≡ EveryRiff → behind_after (InAvi from) before was (record { old = Some text; new = new; before = failed; after = failed }) (Ok false) None → new ≡ Some []
lists_bare told from text new before failed was every h =
    let P : Extent → Type 0 = λ z. BehindEnd z from before was (record { old = Some text; new = new; before = failed; after = failed }) None in
    (told from text new before (subst P every h)).0

no_some : {X : Type 0} (x : X) → ◌≡◌ {A = Option X} (Some x) None → ⊥
no_some x e = absurd (cc)

pub segment_bare : ((text rest : List ℕ) → behind_read text ≡ Ok (false, rest) → text ≡ []) →
    (size end : ℕ) (track : TrackNumbers) (place : MatroskaPlace) (cued : Bool) (text rest : List ℕ) (notes : Notes) → notes_read (InMatroska (Some size) track place) end cued None 0 0 false text ≡ Ok (notes, rest) → notes.after ≡ None → text ≡ []
unfolding notes_read notes_told segment_behind
segment_bare nothing size end track place cued text rest notes h none =
    let first = read_on_ok (behind_read text) (λ some. given (noted None track.others (Some size) cued end some)) (notes, rest) h in
    on_some first.0.0 first.0.1 first.1 first.2
  where
    on_some : (some : Bool) (more : List ℕ) → behind_read text ≡ Ok (some, more) → ◌≡◌ {A = Result (Notes × List ℕ) Stop} (Ok (noted None track.others (Some size) cued end some, more)) (Ok (notes, rest)) → text ≡ []
    on_some false more is k = nothing text more is
    on_some true more is k = absurd (no_some end (ap (λ (z : Notes × List ℕ). z.0.after) (ok_is (noted None track.others (Some size) cued end true, more) (notes, rest) k) ∙ none))

-- ---- which faults it has

abbrev met_of : Result (Bool × List ℕ) Stop → FileFault
met_of (Ok p) = fault.Another
met_of (Err (Short w)) = fault.Another
met_of (Err (Met f rest)) = f

-- no fault but that of another file is met
another_met : (segment : Option ℕ) (bytes rest : List ℕ) (f : FileFault) → segment_behind segment bytes ≡ Err (Met f rest) → f ≡ fault.Another
unfolding segment_behind behind_read
another_met None bytes rest f is = sym (ap met_of is)
another_met (Some size) bytes rest f is = on (begins_file (take 4 bytes)) is
  where
    on : (another : Bool) → (if another then refused fault.Another else given (nat_lt 0 (length (take 4 bytes)))) (drop 4 bytes) ≡ Err (Met f rest) → f ≡ fault.Another
    on true h = sym (ap met_of h)
    on false h = sym (ap met_of h)

abbrev is_short : Result (Bool × List ℕ) Stop → Bool
is_short (Ok p) = false
is_short (Err (Short w)) = true
is_short (Err (Met f rest)) = false

-- and no more bytes are wanted
never_short : (segment : Option ℕ) (bytes : List ℕ) (w : Want) → segment_behind segment bytes ≡ Err (Short w) → ⊥
unfolding segment_behind behind_read
never_short None bytes w is = (let no : false ≡ true = ap is_short is in cc)
never_short (Some size) bytes w is = on (begins_file (take 4 bytes)) is
  where
    on : (another : Bool) → (if another then refused fault.Another else given (nat_lt 0 (length (take 4 bytes)))) (drop 4 bytes) ≡ Err (Short w) → ⊥
    on true h = (let no : false ≡ true = ap is_short h in cc)
    on false h = (let no : false ≡ true = ap is_short h in cc)

module _ (r : matroska.Standing) (p : Passage) where
  abbrev is_own : FileFault → Type 0
  is_own f = is_behind_fault (InMatroska r.segment r.track.numbers r.place) f ≡ true

  met_own : (f : FileFault) → Faults (segment_behind r.segment) p.old p.new f → is_own f
  met_own f h = subst is_own (sym (another_met r.segment (h.bytes ++ []) [] f (h.is []))) refl

  pub segment_own : (f : FileFault) → RefusedOrEnds (segment_behind r.segment) p.old p.new p.before p.after f → is_own f
  segment_own fault.OutOfMemory h = absurd (never_short r.segment h.1.bytes _ h.1.is)
  segment_own fault.NotAvi h = met_own fault.NotAvi h.1
  segment_own fault.NoFfv1 h = met_own fault.NoFfv1 h.1
  segment_own fault.Truncated (same, inl ends) = absurd (never_short r.segment ends.0.1.bytes ends.0.0 ends.0.1.is)
  segment_own fault.Truncated (same, inr met) = met_own fault.Truncated met
  segment_own fault.ChunkTooLong h = met_own fault.ChunkTooLong h.1
  segment_own fault.EmptyFrame h = met_own fault.EmptyFrame h.1
  segment_own fault.TooLarge h = absurd h
  segment_own fault.Read h = refl
  segment_own fault.Write h = absurd h
  segment_own fault.NotMatroska h = met_own fault.NotMatroska h.1
  segment_own fault.BadElement h = met_own fault.BadElement h.1
  segment_own fault.NoTracks h = met_own fault.NoTracks h.1
  segment_own fault.Encoded h = met_own fault.Encoded h.1
  segment_own fault.Laced h = met_own fault.Laced h.1
  segment_own fault.Checksum h = met_own fault.Checksum h.1
  segment_own fault.Rate h = absurd h
  segment_own fault.Another h = refl

-- ---- where nothing stands after

nothing_at : (times : Option ℕ) (place : Place) (end : ℕ) (cued : Bool) (after : Option ℕ) (repeated others : ℕ) (open_ended : Bool) → (notes : Notes) × (notes_told times place end cued after repeated others open_ended [] ≡ Ok (notes, [])) × (after ≡ None → notes.after ≡ None)
unfolding notes_told segment_behind behind_read begins_file
nothing_at times (InAvi place) end cued after repeated others open_ended = (record { is_open = open_ended; others = others; times = None; repeated = repeated; after = after }, refl, λ none. none)
nothing_at times (InMatroska None track place) end cued after repeated others open_ended = (noted times track.others None cued end false, refl, λ none. refl)
nothing_at times (InMatroska (Some size) track place) end cued after repeated others open_ended = (noted times track.others (Some size) cued end false, refl, λ none. refl)

-- nothing is met, and no bytes are noted
pub nothing_behind : (r : Standing) → (notes : Notes) × (notes_of r [] ≡ Ok (notes, [])) × (r.after ≡ None → notes.after ≡ None)
nothing_behind r = nothing_at r.times.off r.place r.end r.cued r.after r.repeated r.others r.open_ended
