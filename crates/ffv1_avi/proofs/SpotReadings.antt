-- The first twelve bytes of a file, and chunks of RIFF up to the first movi, by the calls of which the reading of each is made.
use Rattle.std.proofs.Common.{◌≡◌, ◌+◌, ◌-◌, ◌^◌, ◌≤◌, ◌==◌, ◌∙◌, sym, min, ℕ, Bool, true, false, Option, Some, None, Result, Ok, Err, List, [], ◌++◌, length, drop, codes, refl, ap, arith}
use Rattle.std.proofs.lemmas.List.{length-append}
use Rattle.byteorder.specs.Endian.{little_number}
use Rattle.ffv1_reads.specs.declared.fault.FileFault.{FileFault}
use Rattle.ffv1_reads.specs.declared.fault.FileFault.TheVariants as fault
use Rattle.ffv1_reads.specs.Ends.{RefusedOrEnds}
use Rattle.ffv1_reads.specs.Offsets.{ReadsCounted, offset_after}
use Rattle.ffv1_reads.specs.Reads.{Looked, Read, Refused, given, refused, taken}
use Rattle.ffv1_reads.specs.Head.{Head}
use Rattle.ffv1_reads.proofs.EndRefusals.{ends_refused, refused_ends}
use Rattle.ffv1_reads.proofs.OffsetLaws.{counted_given, counted_same, counted_then, counts_more, reads_counted, reads_none}
use Rattle.ffv1_reads.proofs.Reading.{faults_here, goes_fault, goes_none, goes_read, goes_same}
use Rattle.ffv1_reads.proofs.Taking.{takes_same, takes_wanted}
use Rattle.ffv1_avi.specs.declared.chunk.Entry.{Entry}
use Rattle.ffv1_avi.specs.declared.place.Extent.{Extent}
use Rattle.ffv1_avi.specs.declared.place.Place.{Place}
use Rattle.ffv1_avi.specs.declared.stream.Sizes.{Sizes}
use Rattle.ffv1_avi.specs.Files.{Headers, begins, place_in, visit_top}
use Rattle.ffv1_avi.specs.Names.{riff_rule}
use Rattle.std.proofs.lemmas.Bool.{eqb-false, eqb-true}
use Rattle.ffv1_avi.specs.Offsets.{BeforeFrames, Counts, InRiff, ReadsTo, Spot, Start, riff_at_size, riff_begins, spot_taken, top_left, top_taken}
use Rattle.ffv1_avi.specs.Internal.Offsets.{OpensFrom, TopFrom}
use Rattle.ffv1_avi.specs.Padding.{padded}
use Rattle.ffv1_avi.specs.Walk.{Rule, entry_in, is_name}
use Rattle.ffv1_avi.proofs.ChunkReadings.{entry_counted}
use Rattle.ffv1_avi.proofs.ListWalks.{IsListed}
use Rattle.ffv1_avi.proofs.RiffReadings.{counts_more_by, stops_then, up_to_then}
use Rattle.ffv1_avi.proofs.TopLaws.{top_sound, top_stays, top_stop}

-- a chunk of RIFF; a list without size is a movi
abbrev pub IsRoomy : Entry → Type 0
IsRoomy e = is_name e.name (codes "LIST") ≡ true → (e.size ≡ 0 → ⊥) → 4 ≤ e.size

-- how many bytes a visit reads
abbrev pub spot_long : Entry → Headers × Option (Head × Place) → ℕ
spot_long e (t, None) = padded e.size
spot_long e (t, Some y) = 4

visit_long : (extent : Extent) (found : Headers) (e : Entry) → IsRoomy e → (text rest : List ℕ) (v : Headers × Option (Head × Place)) → visit_top extent found e text ≡ Ok (v, rest) → length text ≡ length rest + spot_long e v
visit_long extent found e roomy text rest v h = on_size (e.size == 0) (is_name e.name (codes "LIST")) refl refl v h
  where
    on_passed : IsListed e → (t : Headers) → visit_top extent found e text ≡ Ok ((t, None), rest) → length text ≡ length rest + padded e.size
    on_passed listed t h =
        let is = top_sound extent found e text t rest listed h in
        let long : length text ≡ length ((is.bytes ++ is.padding) ++ rest) = ap (λ z. length z) is.text_is in
        omega (arith, long, length-append (is.bytes ++ is.padding) rest, length-append is.bytes is.padding, is.long, is.padded_by)

    on_stop : (t : Headers) (y : Head × Place) → visit_top extent found e text ≡ Ok ((t, Some y), rest) → length text ≡ length rest + 4
    on_stop t y h =
        let is = top_stop extent found e text t y rest h in
        let long : length text ≡ length (codes "movi" ++ rest) = ap (λ z. length z) is.text_is in
        let four : length (codes "movi") ≡ 4 = refl in
        omega (arith, long, length-append (codes "movi") rest, four)

    on_size : (a b : Bool) → (e.size == 0) ≡ a → is_name e.name (codes "LIST") ≡ b → (v : Headers × Option (Head × Place)) → visit_top extent found e text ≡ Ok (v, rest) → length text ≡ length rest + spot_long e v
    on_size a b p q (t, Some y) h = on_stop t y h
    on_size a false p q (t, None) h = on_passed (λ l. absurd (let no : true ≡ false = sym l ∙ q in cc)) t h
    on_size false true p q (t, None) h = on_passed (λ l. roomy l (eqb-false e.size 0 p)) t h
    on_size true true p q (t, None) h = absurd (top_stays extent found e text t rest (eqb-true e.size 0 p) q h)

visit_counted : (extent : Extent) (found : Headers) (e : Entry) (v : Headers × Option (Head × Place)) {b c : Option (List ℕ)} → IsRoomy e → Read (visit_top extent found e) b c v → ReadsCounted (visit_top extent found e) b c v (spot_long e v)
visit_counted extent found e v roomy read =
    let long = visit_long extent found e roomy (read.bytes ++ []) [] v (read.is []) in
    record { bytes = read.bytes; consumed = read.consumed; is = read.is; counted = omega (arith, long, length-append read.bytes [], none) }
  where
    none : length {A = ℕ} [] ≡ 0
    none = refl

module _ (extent : Extent) (said : ℕ) (found : Headers) (left : ℕ) where
  abbrev here : Spot
  here = InRiff said found left

  abbrev rule : Rule
  rule = riff_rule extent

  spot_passed : (e : Entry) (more : Headers) {a b c : Option (List ℕ)} → IsRoomy e → Read (entry_in rule left) a b (Some e) → Read (visit_top extent found e) b c (more, None) → ReadsCounted (spot_taken extent here) a c (InRiff said more e.left) (8 + (padded e.size + 0))
  unfolding spot_taken
  spot_passed e more {c = c} roomy header visit =
      counted_then (entry_in rule left) (top_taken extent said found) (entry_counted rule left e header)
      (counted_then (visit_top extent found e) (top_left extent said e.left) (visit_counted extent found e (more, None) roomy visit) (counted_given (InRiff said more e.left) c))

  spot_movi : (e : Entry) (more : Headers) (y : Head × Place) {a b c : Option (List ℕ)} → IsRoomy e → Read (entry_in rule left) a b (Some e) → Read (visit_top extent found e) b c (more, Some y) → ReadsCounted (spot_taken extent here) a c (BeforeFrames y.0 (place_in extent said y.1)) (8 + (4 + 0))
  unfolding spot_taken
  spot_movi e more y {c = c} roomy header visit =
      counted_then (entry_in rule left) (top_taken extent said found) (entry_counted rule left e header)
      (counted_then (visit_top extent found e) (top_left extent said e.left) (visit_counted extent found e (more, Some y) roomy visit) (counted_given (BeforeFrames y.0 (place_in extent said y.1)) c))

  pub header_refused : (old new : Option (List ℕ)) (before after : ℕ) (f : FileFault) → Refused (entry_in rule left) old new before after f → RefusedOrEnds (spot_taken extent here) old new before after f
  unfolding spot_taken
  header_refused old new before after f why = ends_refused (entry_in rule left) (top_taken extent said found) new after f (goes_none (spot_taken extent here) old before) why

  pub visit_refused : (e : Entry) (old mid new : Option (List ℕ)) (before between after : ℕ) (f : FileFault) → (between ≡ before) × Read (entry_in rule left) old mid (Some e) → Refused (visit_top extent found e) mid new between after f → RefusedOrEnds (spot_taken extent here) old new before after f
  unfolding spot_taken
  visit_refused e old mid new before between after f header why =
      ends_refused (visit_top extent found e) (top_left extent said e.left) new after f (goes_read (entry_in rule left) (top_taken extent said found) mid between (Some e) (goes_none (spot_taken extent here) old before) header) why

  pub end_refused : (old new : Option (List ℕ)) (before after : ℕ) → (after ≡ before) × Read (entry_in rule left) old new None → RefusedOrEnds (spot_taken extent here) old new before after fault.NotAvi
  unfolding spot_taken
  end_refused old new before after header =
      refused_ends (spot_taken extent here) old new before after fault.NotAvi
      (goes_fault fault.NotAvi (goes_read (entry_in rule left) (top_taken extent said found) new after None (goes_none (spot_taken extent here) old before) header) (refl, faults_here Spot fault.NotAvi _))

  pub spot_next : {from : Spot} {a b c d : Option (List ℕ)} {first mid after : ℕ} (e : Entry) (more : Headers) → IsRoomy e → ReadsTo (spot_taken extent) from a b here first mid → Read (entry_in rule left) b c (Some e) → Read (visit_top extent found e) c d (more, None) → after ≡ min (mid + (8 + padded e.size)) (2 ^ 64 - 1) →
      ReadsTo (spot_taken extent) from a d (InRiff said more e.left) first after
  spot_next {first = first} {mid = mid} {after = after} e more roomy h header visit is =
      (h.0 + (8 + (padded e.size + 0)), counts_more h.1 (spot_passed e more roomy header visit), counts_more_by first mid after h.0 (8 + (padded e.size + 0)) (8 + padded e.size) h.2 is (omega arith))

  pub movi_begins : {from : Spot} {a b c d : Option (List ℕ)} {first mid after : ℕ} (e : Entry) (more : Headers) (y : Head × Place) → IsRoomy e → ReadsTo (spot_taken extent) from a b here first mid → Read (entry_in rule left) b c (Some e) → Read (visit_top extent found e) c d (more, Some y) → after ≡ min (mid + 12) (2 ^ 64 - 1) →
      ReadsTo (spot_taken extent) from a d (BeforeFrames y.0 (place_in extent said y.1)) first after
  movi_begins {first = first} {mid = mid} {after = after} e more y roomy h header visit is = (h.0 + (8 + (4 + 0)), counts_more h.1 (spot_movi e more y roomy header visit), counts_more_by first mid after h.0 (8 + (4 + 0)) 12 h.2 is refl)

-- the first twelve bytes
abbrev spot_of : Extent → List ℕ → Spot
spot_of extent bytes = riff_at_size extent (little_number 4 (drop 4 bytes))

start_counted : (extent : Extent) (bytes : List ℕ) {a b : Option (List ℕ)} → begins extent bytes ≡ true → Read (taken 12) a b bytes → ReadsCounted (spot_taken extent Start) a b (spot_of extent bytes) (12 + 0)
unfolding spot_taken
start_counted extent bytes {b = b} is read =
    counted_then (taken 12) (riff_begins extent) (reads_counted {before = 12} 12 (takes_same (12 + 0) 12 (taken 12) refl (takes_wanted Looked 12 0)) refl read)
    (counted_same (given (spot_of extent bytes)) _ (λ text. rw is refl) (counted_given (spot_of extent bytes) b))

pub start_read : (extent : Extent) (bytes : List ℕ) {a b : Option (List ℕ)} → begins extent bytes ≡ true → Read (taken 12) a b bytes → ReadsTo (spot_taken extent) Start a b (spot_of extent bytes) 0 12
start_read extent bytes {a = a} is read = (0 + (12 + 0), counts_more (reads_none (spot_taken extent) Start a) (start_counted extent bytes is read), counts)
  where
    twelve : (n most : ℕ) → 12 ≤ most → 0 ≡ min n most → 12 ≡ min (n + (0 + (12 + 0))) most
    twelve n most more none = grind (arith, more, none)

    counts : Counts 0 12 (0 + (12 + 0))
    counts n none = twelve n (2 ^ 64 - 1) (omega arith) none

pub start_refused : (extent : Extent) (old new : Option (List ℕ)) (before after : ℕ) (f : FileFault) → Refused (taken 12) old new before after f → RefusedOrEnds (spot_taken extent Start) old new before after f
unfolding spot_taken
start_refused extent old new before after f why = ends_refused (taken 12) (riff_begins extent) new after f (goes_none (spot_taken extent Start) old before) why

pub start_differs : (extent : Extent) (bytes : List ℕ) (old new : Option (List ℕ)) (before after : ℕ) → begins extent bytes ≡ false → (after ≡ before) × Read (taken 12) old new bytes → RefusedOrEnds (spot_taken extent Start) old new before after fault.NotAvi
unfolding spot_taken
start_differs extent bytes old new before after other read =
    refused_ends (spot_taken extent Start) old new before after fault.NotAvi
    (goes_fault fault.NotAvi (goes_same _ (refused fault.NotAvi) (λ text. rw other refl) (goes_read (taken 12) (riff_begins extent) new after bytes (goes_none (spot_taken extent Start) old before) read)) (refl, faults_here Spot fault.NotAvi _))

-- a file up to its first movi
pub opens_then : {a b : Option (List ℕ)} {mid before now : ℕ} (c : Option (List ℕ)) (last after : ℕ) (extent : Extent) (said : ℕ) (bytes : List ℕ) (result : Result (Sizes × Place) FileFault) → now ≡ before → ReadsTo (spot_taken extent) Start a b (riff_at_size extent said) 0 mid →
    TopFrom extent said (record { old = b; new = c; before = now; after = after }) bytes result mid last → OpensFrom extent (record { old = a; new = c; before = before; after = after }) bytes result last
opens_then c last after extent said bytes (Ok n) same h g = up_to_then h g
opens_then c last after extent said bytes (Err f) same h g = stops_then f same h g

pub from_zero : (after count : ℕ) → Counts 0 after count → after ≡ offset_after 0 count
from_zero after count h = h 0 (none (2 ^ 64 - 1))
  where
    none : (most : ℕ) → 0 ≡ min 0 most
    none most = grind arith
