-- Chunks of RIFF after movi, and the next RIFF, by the calls of which the reading of each is made.
use Rattle.std.proofs.Common.{◌≡◌, ◌⊎◌, Bool, ◌+◌, ◌-◌, ◌%◌, ◌^◌, ◌==◌, ◌<◌, ◌≤◌, min, ℕ, true, false, Option, Some, None, Result, Ok, Err, IfOk, List, [], ◌++◌, length, length-append, codes, refl, sym, ap, ◌∙◌, subst, inl, inr, arith}
use Rattle.std.proofs.lemmas.Bool.{ne_eqb}
use Rattle.ffv1_reads.specs.declared.fault.FileFault.{FileFault}
use Rattle.ffv1_reads.specs.declared.fault.FileFault.TheVariants as fault
use Rattle.ffv1_reads.specs.Ends.{RefusedOrEnds}
use Rattle.ffv1_reads.specs.Ends.{RefusedOrNone as RefusedOrOver}
use Rattle.ffv1_reads.specs.Offsets.{ReadsCounted}
use Rattle.ffv1_reads.specs.Reads.{Kept, Looked, Read, Reading, Refused, given, read_on, passed, refused, taken, wanted, ◌>>=◌}
use Rattle.ffv1_reads.proofs.EndRefusals.{ends_refused, ends_refused_none}
use Rattle.ffv1_reads.proofs.OffsetLaws.{counted_given, counted_same, counted_then, counts_more, reads_counted, reads_none, reads_then, stops_after}
use Rattle.ffv1_reads.proofs.Reading.{Goes, goes_none, goes_read, goes_same}
use Rattle.ffv1_reads.proofs.Taking.{Takes, takes_given, takes_if, takes_passed, takes_refused, takes_same, takes_then, takes_wanted}
use Rattle.ffv1_avi.specs.declared.chunk.Entry.{Entry}
use Rattle.ffv1_avi.specs.declared.place.Extent.{Extent}
use Rattle.ffv1_avi.specs.declared.place.Extent.TheVariants.{FirstMovi, EveryRiff}
use Rattle.ffv1_avi.specs.declared.place.Names.{Names}
use Rattle.ffv1_avi.specs.declared.place.Place.{Place}
use Rattle.ffv1_avi.specs.Behind.{EndsOpen, OverAt, Stand, StandAfter}
use Rattle.ffv1_avi.specs.declared.place.Open.{Open}
use Rattle.ffv1_avi.specs.declared.place.Open.TheVariants.{Sized, OpenRiff, OpenMovi}
use Rattle.ffv1_avi.specs.Files.{riff_begun}
use Rattle.ffv1_avi.specs.Opens.{open_found, riff_list, visit_riff}
use Rattle.ffv1_avi.specs.Internal.Ending.{AnswersOrNone, ReadOrNone, RefusedOrNone}
use Rattle.ffv1_avi.specs.Offsets.{Counts, ReadsTo, ReadsUpTo, StopsIn, beyond_taken, chunk_taken, movi_entered, riff_left, riff_next, riff_taken}
use Rattle.ffv1_avi.specs.Internal.Offsets.{FrameStarts, MovesTo, TellsBehind}
use Rattle.ffv1_avi.specs.Names.{is_frame}
use Rattle.ffv1_avi.specs.Padding.{padded}
use Rattle.ffv1_avi.specs.Places.{ended, extent_of, is_open, movi_at}
use Rattle.ffv1_avi.specs.Walk.{plain, entry_in, entry_read, is_name}
use Rattle.ffv1_avi.proofs.BegunRiffs.{FoundOpen, FoundRiff, begun_sound}
use Rattle.ffv1_avi.proofs.ChunkReadings.{chunk_started, entry_counted}
use Rattle.ffv1_avi.proofs.Moves.{extent_every}

-- if movi has nothing left, and more RIFFs are read, a chunk of RIFF comes next
riff_chunk : (place : Place) (left : ℕ) → place.open_in ≡ Sized → 0 < place.input → (text : List ℕ) → chunk_taken (riff_left place left) text ≡ (entry_read left >>= riff_taken (riff_left place left)) text
unfolding chunk_taken entry_in
riff_chunk place left known more text =
    let some : (place.input == 0) ≡ false = ne_eqb place.input 0 (λ e. omega (arith, e, more)) in
    rw some (ap (λ (o : Open). beyond_taken o (riff_left place left) text) known)

-- a chunk of RIFF
abbrev Listed : Entry → Type 0
Listed e = is_name e.name (codes "LIST") ≡ true → 4 ≤ e.size

abbrev visit_left : Entry → Unit {0} × Option (ℕ × ℕ) → ℕ
visit_left e (u, None) = 0
visit_left e (u, Some p) = padded e.size - 4

abbrev Roomy : Entry → Unit {0} × Option (ℕ × ℕ) → Type 0
Roomy e (u, None) = Unit {0}
Roomy e (u, Some p) = 4 ≤ e.size

pub riff_takes : (names : Names) (e : Entry) → Listed e → Takes (Roomy e) (padded e.size) (visit_left e) (visit_riff names tt e)
unfolding visit_riff
riff_takes names e listed =
    takes_if (is_name e.name (codes "LIST")) (taken 4 >>= riff_list e.left e.size) _
    (λ list. (let four : 4 ≤ e.size = listed list in
    takes_then (taken 4) _ (takes_same _ _ (taken 4) (omega (arith, four)) (takes_wanted Looked 4 (padded e.size - 4))) (λ own _.
    takes_if (is_name own (codes "movi")) (given (tt, Some (e.size - 4, e.left))) _ (λ _. takes_given _ four refl)
    (λ _. takes_then (passed (padded e.size - 4)) _ (takes_same _ _ (passed (padded e.size - 4)) (omega arith) (takes_passed (padded e.size - 4) 0)) (λ _ _. takes_given _ tt refl)))))
    (λ _. takes_if (is_frame names e.name) (refused fault.NotAvi) _ (λ _. takes_refused fault.NotAvi)
    (λ _. takes_then (passed (padded e.size)) _ (takes_same _ _ (passed (padded e.size)) (omega arith) (takes_passed (padded e.size) 0)) (λ _ _. takes_given _ tt refl)))

module _ (place : Place) (left : ℕ) (known : place.open_in ≡ Sized) (more : 0 < place.input) where
  abbrev here : Place
  here = riff_left place left

  pub riff_passed : (e : Entry) {a b c : Option (List ℕ)} → Listed e → Read (entry_read left) a b (Some e) → Read (visit_riff place.names tt e) b c (tt, None) → ReadsCounted (chunk_taken here) a c (riff_left place e.left) (8 + (padded e.size + 0))
  riff_passed e {c = c} listed header visit =
      counted_same (entry_read left >>= riff_taken here) _ (λ text. sym (riff_chunk place left known more text))
      (counted_then (entry_read left) (riff_taken here) (entry_counted plain left e header)
      (counted_then (visit_riff place.names tt e) (λ p. movi_entered here e.left p.1) (reads_counted (padded e.size) (riff_takes place.names e listed) (omega arith) visit) (counted_given (riff_left place e.left) c)))

  pub riff_movi : (e : Entry) (movi : ℕ × ℕ) {a b c : Option (List ℕ)} → Listed e → Read (entry_read left) a b (Some e) → Read (visit_riff place.names tt e) b c (tt, Some movi) → ReadsCounted (chunk_taken here) a c (movi_at place movi) (8 + (4 + 0))
  riff_movi e movi {c = c} listed header visit =
      let four : 4 ≤ e.size = ((riff_takes place.names e listed).only _ _ _ (visit.is [])).0 in
      counted_same (entry_read left >>= riff_taken here) _ (λ text. sym (riff_chunk place left known more text))
      (counted_then (entry_read left) (riff_taken here) (entry_counted plain left e header)
      (counted_then (visit_riff place.names tt e) (λ p. movi_entered here e.left p.1) (reads_counted {x = (tt {0}, Some movi)} 4 (riff_takes place.names e listed) (omega (arith, four)) visit) (counted_given (movi_at place movi) c)))

  reached : (old : Option (List ℕ)) (before : ℕ) → Goes (chunk_taken here) old before (entry_read left >>= riff_taken here) old before
  reached old before = goes_same (chunk_taken here) (entry_read left >>= riff_taken here) (riff_chunk place left known more) (goes_none (chunk_taken here) old before)

  pub riff_entry_refused : (old new : Option (List ℕ)) (before after : ℕ) (f : FileFault) → Refused (entry_read left) old new before after f → RefusedOrEnds (chunk_taken here) old new before after f
  riff_entry_refused old new before after f why = ends_refused (entry_read left) (riff_taken here) new after f (reached old before) why

  pub riff_visit_refused : (e : Entry) (old mid new : Option (List ℕ)) (before between after : ℕ) (f : FileFault) → (between ≡ before) × Read (entry_read left) old mid (Some e) → Refused (visit_riff place.names tt e) mid new between after f → RefusedOrEnds (chunk_taken here) old new before after f
  riff_visit_refused e old mid new before between after f header why =
      ends_refused (visit_riff place.names tt e) (λ p. movi_entered here e.left p.1) new after f (goes_read (entry_read left) (riff_taken here) mid between (Some e) (reached old before) header) why

-- the next RIFF
begun_same : (place : Place) (text : List ℕ) → riff_begun (riff_left place 0) text ≡ riff_begun place text
unfolding riff_begun
begun_same place text = refl

riff_next_chunk : (place : Place) → place.open_in ≡ Sized → 0 < place.input → (text : List ℕ) → chunk_taken (riff_left place 0) text ≡ (riff_begun place >>= riff_next) text
unfolding entry_in
riff_next_chunk place known more text = riff_chunk place 0 known more text ∙ ap (λ z. read_on z riff_next) (begun_same place text)

begun_counted : (place next : Place) {a b : Option (List ℕ)} → Read (riff_begun place) a b (Some next) → ReadsCounted (riff_begun place) a b (Some next) 12
begun_counted place next read =
    let count : length read.bytes ≡ 12 = on_found (begun_sound place (read.bytes ++ []) (Some next, []) (read.is [])) in
    record { bytes = read.bytes; consumed = read.consumed; is = read.is; counted = count }
  where
    spelled : (length (codes "RIFF") ≡ 4) × (length (codes "AVIX") ≡ 4)
    spelled = (refl, refl)

    twelve : (size : List ℕ) → length size ≡ 4 → read.bytes ++ [] ≡ (codes "RIFF" ++ size ++ codes "AVIX") ++ [] → length read.bytes ≡ 12
    twelve size sized whole =
        let front = codes "RIFF" ++ size ++ codes "AVIX" in
        let long : length front ≡ 12 = length-append (codes "RIFF" ++ size) (codes "AVIX") ∙ ap (λ n. n + length (codes "AVIX")) (length-append (codes "RIFF") size) ∙ (omega (arith, sized, spelled)) in
        omega (arith, ap length whole, length-append read.bytes [], length-append front [], long)

    on_found : FoundRiff place (read.bytes ++ []) next [] ⊎ FoundOpen place (read.bytes ++ []) next [] → length read.bytes ≡ 12
    on_found (inl found) = twelve found.size found.sized found.text_is
    on_found (inr found) = twelve found.size found.sized found.text_is

next_counted : (place next : Place) {a b : Option (List ℕ)} → place.open_in ≡ Sized → 0 < place.input → Read (riff_begun place) a b (Some next) → ReadsCounted (chunk_taken (riff_left place 0)) a b next (12 + 0)
next_counted place next {b = b} known more read =
    counted_same (riff_begun place >>= riff_next) _ (λ text. sym (riff_next_chunk place known more text))
    (counted_then (riff_begun place) riff_next (begun_counted place next read) (counted_given next b))

pub next_reached : (place next : Place) {a b : Option (List ℕ)} {before after : ℕ} → place.open_in ≡ Sized → 0 < place.input → Read (riff_begun place) a b (Some next) → after ≡ min (before + 12) (2 ^ 64 - 1) → ReadsUpTo (riff_left place 0) a b next before after
next_reached place next {a = a} {before = before} {after = after} known more read is =
    (0 + (12 + 0), counts_more (reads_none chunk_taken (riff_left place 0) a) (next_counted place next known more read), counts)
  where
    twice : (n most : ℕ) → min (min n most + 12) most ≡ min (n + (0 + (12 + 0))) most
    twice n most = grind arith

    counts : Counts before after (0 + (12 + 0))
    counts n same = is ∙ rw same (twice n (2 ^ 64 - 1))

-- a refusal if the end of the input may be an answer
pub over : {X : Type 0} (extent : Extent) (reading : Reading (Option X)) (old new : Option (List ℕ)) (before after : ℕ) (f : FileFault) → RefusedOrNone extent reading old new before after f → RefusedOrOver reading old new before after f
over FirstMovi reading old new before after fault.Read (counted, inl wants) = (counted, inl wants)
over FirstMovi reading old new before after fault.Read (counted, inr halts) = absurd halts
over EveryRiff reading old new before after fault.Read why = why
over extent reading old new before after f why = why

pub next_refused : (place : Place) (old new : Option (List ℕ)) (before after : ℕ) (f : FileFault) → place.open_in ≡ Sized → 0 < place.input → RefusedOrNone EveryRiff (riff_begun place) old new before after f → RefusedOrEnds (chunk_taken (riff_left place 0)) old new before after f
next_refused place old new before after f known more why =
    ends_refused_none (riff_begun place) riff_next ended new after f (λ text. refl)
    (goes_same (chunk_taken (riff_left place 0)) (riff_begun place >>= riff_next) (riff_next_chunk place known more) (goes_none (chunk_taken (riff_left place 0)) old before))
    (over EveryRiff (riff_begun place) old new before after f why)

-- up to a position, and on from there
pub counts_on : (before between after m n : ℕ) → Counts before between m → Counts between after n → Counts before after (m + n)
counts_on before between after m n one two k is = two (k + m) (one k is) ∙ more k (2 ^ 64 - 1)
  where
    more : (k most : ℕ) → min (k + m + n) most ≡ min (k + (m + n)) most
    more k most = grind arith

pub up_to_then : {S : Type 0} {chunk : S → Reading S} {from between to : S} {a b c : Option (List ℕ)} {first mid last : ℕ} → ReadsTo chunk from a b between first mid → ReadsTo chunk between b c to mid last → ReadsTo chunk from a c to first last
up_to_then {first = first} {mid = mid} {last = last} h g = (h.0 + g.0, reads_then h.1 g.1, counts_on first mid last h.0 g.0 h.2 g.2)

pub stops_then : {S : Type 0} {chunk : S → Reading S} {from between : S} {a b c : Option (List ℕ)} {first mid last before now after : ℕ} (f : FileFault) → now ≡ before → ReadsTo chunk from a b between first mid → StopsIn chunk between (record { old = b; new = c; before = now; after = after }) f mid last →
    StopsIn chunk from (record { old = a; new = c; before = before; after = after }) f first last
stops_then {chunk = chunk} {c = c} {first = first} {mid = mid} {last = last} {after = after} f same h g =
    (g.0, h.0 + g.1, record { between = g.2.between; before = reads_then h.1 g.2.before; refused = subst (λ k. RefusedOrEnds (chunk g.0) g.2.between c k after f) same g.2.refused }, counts_on first mid last h.0 g.1 h.2 g.3)

pub moves_then : {from between : Place} {a b : Option (List ℕ)} {first mid before now : ℕ} (c : Option (List ℕ)) (last after : ℕ) (result : Result (Option Place) FileFault) → now ≡ before → ReadsUpTo from a b between first mid → MovesTo between (record { old = b; new = c; before = now; after = after }) result mid last →
    MovesTo from (record { old = a; new = c; before = before; after = after }) result first last
moves_then c last after (Ok None) same h g = tt
moves_then c last after (Ok (Some next)) same h g = up_to_then h g
moves_then c last after (Err f) same h g = stops_then f same h g

-- nothing was read before it
pub counts_still : {n : ℕ} → Counts n n 0
counts_still {n = n} k is = is ∙ same k (2 ^ 64 - 1)
  where
    same : (k most : ℕ) → min k most ≡ min (k + 0) most
    same k most = grind arith

pub stops_here : {S : Type 0} {chunk : S → Reading S} {place : S} {old new : Option (List ℕ)} {offset before after : ℕ} (f : FileFault) → RefusedOrEnds (chunk place) old new before after f → StopsIn chunk place (record { old = old; new = new; before = before; after = after }) f offset offset
stops_here {chunk = chunk} {place = place} {old = old} {after = after} f why = (place, 0, stops_after after f refl (reads_none chunk place old) why, counts_still)

pub reads_still : {S : Type 0} {chunk : S → Reading S} {place : S} {a : Option (List ℕ)} {offset : ℕ} → ReadsTo chunk place a a place offset offset
reads_still {chunk = chunk} {place = place} {a = a} = (0, reads_none chunk place a, counts_still)

-- one chunk of RIFF more
pub counts_more_by : (before mid after m n more : ℕ) → Counts before mid m → after ≡ min (mid + more) (2 ^ 64 - 1) → more ≡ n → Counts before after (m + n)
counts_more_by before mid after m n more one is same k first = is ∙ rw (one k first) (all k (2 ^ 64 - 1))
  where
    all : (k most : ℕ) → min (min (k + m) most + more) most ≡ min (k + (m + n)) most
    all k most = grind (arith, same)

pub passed_next : {from : Place} {a b c d : Option (List ℕ)} {first mid after : ℕ} (place : Place) (left : ℕ) (e : Entry) (known : place.open_in ≡ Sized) (more : 0 < place.input) → Listed e → ReadsUpTo from a b (riff_left place left) first mid → Read (entry_read left) b c (Some e) → Read (visit_riff place.names tt e) c d (tt, None) → after ≡ min (mid + (8 + padded e.size)) (2 ^ 64 - 1) →
    ReadsUpTo from a d (riff_left place e.left) first after
passed_next {first = first} {mid = mid} {after = after} place left e known more listed h header visit is = (h.0 + (8 + (padded e.size + 0)), counts_more h.1 (riff_passed place left known more e listed header visit), counts_more_by first mid after h.0 (8 + (padded e.size + 0)) (8 + padded e.size) h.2 is (omega arith))

pub movi_next : {from : Place} {a b c d : Option (List ℕ)} {first mid after : ℕ} (place : Place) (left : ℕ) (e : Entry) (movi : ℕ × ℕ) (known : place.open_in ≡ Sized) (more : 0 < place.input) → Listed e → ReadsUpTo from a b (riff_left place left) first mid → Read (entry_read left) b c (Some e) → Read (visit_riff place.names tt e) c d (tt, Some movi) → after ≡ min (mid + 12) (2 ^ 64 - 1) →
    ReadsUpTo from a d (movi_at place movi) first after
movi_next {first = first} {mid = mid} {after = after} place left e movi known more listed h header visit is = (h.0 + (8 + (4 + 0)), counts_more h.1 (riff_movi place left known more e movi listed header visit), counts_more_by first mid after h.0 (8 + (4 + 0)) 12 h.2 is refl)

-- a frame more
pub frame_next : {from : Place} {a b c d e : Option (List ℕ)} {first mid last : ℕ} (to : Place) (size : ℕ) (next : Place) (bytes : List ℕ) → ReadsUpTo from a b to first mid → FrameStarts to b c size next → Read (wanted Kept size) c d bytes → Read (passed (size % 2)) d e tt → last ≡ min (mid + (8 + padded size)) (2 ^ 64 - 1) →
    ReadsUpTo from a e next first last
frame_next {first = first} {mid = mid} {last = last} to size next bytes h found read pad is =
    (h.0 + (8 + (size + (size % 2 + 0) + 0)), counts_more h.1 (chunk_started to size next bytes found read pad), counts_more_by first mid last h.0 (8 + (size + (size % 2 + 0) + 0)) (8 + padded size) h.2 is (omega arith))

-- the frames end with an RIFF, after chunks that were read whole
pub ends_behind : {from : Place} {a b c : Option (List ℕ)} {first mid : ℕ} {after : Option ℕ} (place : Place) → place.open_in ≡ Sized → 0 < place.input → ReadsUpTo from a b (riff_left place 0) first mid → ReadOrNone EveryRiff (riff_begun place) b c None → StandAfter b c mid after → EndsOpen from a c first after false
unfolding riff_begun
ends_behind {b = b} {c = c} {mid = mid} place known some chunks over told =
    let to = riff_left place 0 in
    let P : Open → Type 0 = λ o. OverAt o to b c in
    let Q : Open → Type 0 = λ o. false ≡ is_open o in
    (record { to = to; between = b; end = mid; chunks = chunks; movi = refl; riff = λ _. refl; every = extent_every to (λ e. omega (arith, e, some)); over = subst P (sym known) over; told = told }, subst Q (sym known) refl)

-- or in an RIFF or a movi without size
pub ends_open : {from : Place} {a b c : Option (List ℕ)} {first mid : ℕ} (to : Place) → is_open to.open_in ≡ true → 0 < to.input → to.movi ≡ 0 → ReadsUpTo from a b to first mid → ReadOrNone EveryRiff (open_found to) b c None → Stand b c false → EndsOpen from a c first None true
ends_open {b = b} {c = c} {mid = mid} to unknown some movi chunks over stand =
    (record { to = to; between = b; end = mid; chunks = chunks; movi = movi; riff = λ sized. absurd (not_sized to.open_in sized unknown); every = extent_every to (λ e. omega (arith, e, some)); over = over_open to.open_in unknown; told = stand }, sym unknown)
  where
    over_open : (o : Open) → is_open o ≡ true → OverAt o to b c
    over_open Sized e = absurd (cc)
    over_open OpenRiff e = over
    over_open OpenMovi e = over

    not_sized : (o : Open) → o ≡ Sized → is_open o ≡ true → ⊥
    not_sized Sized sized e = absurd (cc)
    not_sized OpenRiff sized e = absurd (cc)
    not_sized OpenMovi sized e = absurd (cc)

pub behind_then : {from place : Place} {a b c : Option (List ℕ)} {first mid : ℕ} {after : Option ℕ} {open_ended : Bool} → ReadsUpTo from a b place first mid → EndsOpen place b c mid after open_ended → EndsOpen from a c first after open_ended
behind_then chunks (h, is) = (record { to = h.to; between = h.between; end = h.end; chunks = up_to_then chunks h.chunks; movi = h.movi; riff = h.riff; every = h.every; over = h.over; told = h.told }, is)

pub tells_then : {from place : Place} {a b : Option (List ℕ)} {first mid : ℕ} (c : Option (List ℕ)) (after : Option ℕ) (open_ended : Bool) (extent : Extent) → ReadsUpTo from a b place first mid → TellsBehind extent place b c mid after open_ended → TellsBehind extent from a c first after open_ended
tells_then c after open_ended FirstMovi chunks h = h
tells_then c after open_ended EveryRiff chunks h = behind_then chunks h

-- the same of an extent that is equal
pub tells_same : (from : Place) (a b : Option (List ℕ)) (first : ℕ) (after : Option ℕ) (open_ended : Bool) (d e : Extent) → d ≡ e → TellsBehind d from a b first after open_ended → TellsBehind e from a b first after open_ended
tells_same from a b first after open_ended d e same h = let P : Extent → Type 0 = λ z. TellsBehind z from a b first after open_ended in subst P same h

-- after the end of a movi
pub moves_behind : {a b : Option (List ℕ)} {first mid : ℕ} (c : Option (List ℕ)) (before last : ℕ) (after : Option ℕ) (place : Place) (result : Result (Option Place) FileFault) → place.open_in ≡ Sized → 0 < place.input → ReadsUpTo (riff_left place place.riff) a b (riff_left place 0) first mid →
    AnswersOrNone EveryRiff (λ (q : Option Place). q) (riff_begun place) (record { old = b; new = c; before = before; after = last }) result → IfOk result (λ o. o ≡ None → StandAfter b c mid after) →
    IfOk result (λ o. o ≡ None → TellsBehind (extent_of place) (riff_left place place.riff) a c first after false)
moves_behind c before last after place (Ok None) known some chunks answer told = λ none. rw (extent_every place (λ e. omega (arith, e, some))) (ends_behind place known some chunks answer.1 (told refl))
moves_behind c before last after place (Ok (Some next)) known some chunks answer told = λ none. absurd (cc)
moves_behind c before last after place (Err f) known some chunks answer told = tt
