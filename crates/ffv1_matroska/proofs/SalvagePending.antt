-- What was told of a file that is refused before its frames begin, by the calls of which its reading
-- is made: each by the bytes that it has read.
use Rattle.std.proofs.Common.{◌≡◌, ◌∙◌, ◌+◌, ◌-◌, ◌==◌, ◌++◌, [], ℕ, suc, List, true, false, length, Option, Some, None, Ok, Err, inl, inr, refl, ap, sym, arith, append-nil, append_assoc, length-append}
use Rattle.std.specs.Io.KnownBytes.{Consumes}
use Rattle.ffv1_wire.proofs.Bytes.{consumes_then}
use Rattle.ffv1_reads.specs.Ends.{ReadOrNone, RefusedOrNone}
use Rattle.ffv1_reads.specs.Offsets.{ReadsCounted, offset_after}
use Rattle.ffv1_reads.specs.Reads.{Faults, Lacks, Met, Read, Reading, Refused, Short, Stop, Want, read_on, ◌>>=◌}
use Rattle.ffv1_reads.specs.declared.fault.FileFault.{FileFault}
use Rattle.ffv1_reads.specs.declared.fault.FileFault.TheVariants as fault
use Rattle.ffv1_reads.proofs.Reading.{consumes_none}
use Rattle.ffv1_ebml.specs.declared.element.Element.{Element}
use Rattle.ffv1_matroska.specs.Opening.{segment_begun, segment_entered}
use Rattle.ffv1_matroska.specs.Places.{segment_at}
use Rattle.ffv1_matroska.specs.SalvageTold.{StopsWith, TellsRead, ToldBy, ebml_kept, element_fault, kept_fault, read_or, segment_told, told_before, told_from, told_too, told_up_to, visited_told}
use Rattle.ffv1_matroska.specs.Salvaged.{data_at, ebml_salvaged, position_at, told_more, tracks_or_salvaged}
use Rattle.ffv1_matroska.specs.Segments.{cluster, header_read}
use Rattle.ffv1_matroska.specs.Tracks.{Track}
use Rattle.ffv1_matroska.specs.declared.place.Place.{Place}
use Rattle.ffv1_matroska.specs.declared.told.ToldFault.{ToldFault}

-- ---- a call that was refused, by its bytes

module _ {X Y : Type 0} (r : Reading X) (known : List ℕ → Y) (old new : Option (List ℕ)) (y : Y) (says : (bytes : List ℕ) (why : Stop) → r bytes ≡ Err why → y ≡ known bytes) where
  short_with : {w : Want} → Lacks r old new w → StopsWith r known old new y
  short_with {w = w} h = record { bytes = h.bytes; consumed = h.consumed; why = Short w; refused = h.is; is = says h.bytes (Short w) h.is }

  fault_with : {f : FileFault} → Faults r old new f → StopsWith r known old new y
  fault_with {f = f} h =
      let is : r h.bytes ≡ Err (Met f []) = ap r (sym (append-nil h.bytes)) ∙ h.is [] in
      record { bytes = h.bytes; consumed = h.consumed; why = Met f []; refused = is; is = says h.bytes (Met f []) is }

  pub refused_with : (before after : ℕ) (f : FileFault) → Refused r old new before after f → StopsWith r known old new y
  refused_with before after fault.Read (counted, (w, lacks)) = short_with lacks
  refused_with before after fault.OutOfMemory (same, lacks) = short_with lacks
  refused_with before after fault.Truncated (same, inl ((w, lacks), ended)) = short_with lacks
  refused_with before after fault.Truncated (same, inr faults) = fault_with faults
  refused_with before after fault.TooLarge why = absurd why
  refused_with before after fault.Write why = absurd why
  refused_with before after fault.Rate why = absurd why
  refused_with before after f (same, faults) = fault_with faults

-- another reading is refused of the same bytes
pub stops_as : {X Y V W : Type 0} {r : Reading X} {known : List ℕ → V} {old new : Option (List ℕ)} {v : V} (s : Reading Y) (knows : List ℕ → W) (w : W) → ((bytes : List ℕ) (why : Stop) → r bytes ≡ Err why → v ≡ known bytes → (s bytes ≡ Err why) × (w ≡ knows bytes)) → StopsWith r known old new v → StopsWith s knows old new w
stops_as s knows w so h =
    let both = so h.bytes h.why h.refused h.is in
    record { bytes = h.bytes; consumed = h.consumed; why = h.why; refused = both.0; is = both.1 }

-- after bytes that were read
pub stops_read : {X Y W : Type 0} {r : Reading X} {old new : Option (List ℕ)} {x : X} (s : Reading Y) (knows : List ℕ → W) (w : W) (why : Stop) → ((bytes : List ℕ) → r bytes ≡ Ok (x, []) → (s bytes ≡ Err why) × (w ≡ knows bytes)) → Read r old new x → StopsWith s knows old new w
stops_read {r = r} s knows w why so h =
    let both = so h.bytes (ap r (sym (append-nil h.bytes)) ∙ h.is []) in
    record { bytes = h.bytes; consumed = h.consumed; why = why; refused = both.0; is = both.1 }

-- ---- the Segment

-- how far the elements have come
pub record ToldSoFar (whole on : List ℕ → List ToldFault) (old now : Option (List ℕ)) : Type 0 where
  pub bytes : List ℕ
  pub consumed : Consumes old now bytes
  pub leads : (more : List ℕ) → whole (bytes ++ more) ≡ on more

pub told_begins : (whole : List ℕ → List ToldFault) (text : Option (List ℕ)) → ToldSoFar whole whole text text
told_begins whole text = record { bytes = []; consumed = consumes_none text; leads = λ more. refl }

pub told_on : {whole on next : List ℕ → List ToldFault} {old now new : Option (List ℕ)} → ToldSoFar whole on old now → ToldSoFar on next now new → ToldSoFar whole next old new
told_on {whole = whole} {old = old} {now = now} {new = new} h k =
    record {
      bytes = h.bytes ++ k.bytes;
      consumed = consumes_then old now new h.bytes k.bytes h.consumed k.consumed;
      leads = λ more. ap whole (append_assoc h.bytes k.bytes more) ∙ h.leads (k.bytes ++ more) ∙ k.leads more;
    }

pub told_stops : {whole on : List ℕ → List ToldFault} {old now new : Option (List ℕ)} {faults : List ToldFault} → ToldSoFar whole on old now → ToldBy on now new faults → ToldBy whole old new faults
told_stops {old = old} {now = now} {new = new} h k =
    record {
      bytes = h.bytes ++ k.bytes;
      consumed = consumes_then old now new h.bytes k.bytes h.consumed k.consumed;
      is = k.is ∙ sym (h.leads k.bytes);
    }

module _ (k : ℕ) (begin : Place) (found : Option Track) (here : Place) (faults : List ToldFault) where
  abbrev pub on_from : List ℕ → List ToldFault
  on_from text = told_up_to (suc k) begin found here faults text

  -- nothing more is told of these bytes
  header_stops : (bytes : List ℕ) (why : Stop) → header_read here bytes ≡ Err why → faults ≡ on_from bytes
  unfolding told_up_to
  header_stops bytes why is = rw is refl

  header_ends : (bytes rest : List ℕ) → header_read here bytes ≡ Ok (None, rest) → faults ≡ on_from bytes
  unfolding told_up_to
  header_ends bytes rest is = rw is refl

  -- the header of an element is refused
  pub header_tells : (now new : Option (List ℕ)) (before after : ℕ) (f : FileFault) → RefusedOrNone (header_read here) now new before after f → ToldBy on_from now new faults
  header_tells now new before after f why = by_fault f why
    where
      told_of : StopsWith (header_read here) on_from now new faults → ToldBy on_from now new faults
      told_of h = record { bytes = h.bytes; consumed = h.consumed; is = h.is }

      other : (f : FileFault) → Refused (header_read here) now new before after f → ToldBy on_from now new faults
      other f why = told_of (refused_with (header_read here) on_from now new faults header_stops before after f why)

      by_fault : (f : FileFault) → RefusedOrNone (header_read here) now new before after f → ToldBy on_from now new faults
      by_fault fault.Read (counted, inl wants) = other fault.Read (counted, wants)
      by_fault fault.Read (counted, inr halts) = record { bytes = halts.bytes; consumed = halts.consumed; is = header_ends halts.bytes [] halts.is }
      by_fault f why = other f why

  -- there is none
  pub end_tells : (now new : Option (List ℕ)) → ReadOrNone (header_read here) now new None → ToldBy on_from now new faults
  end_tells now new (inl read) = record { bytes = read.bytes; consumed = read.consumed; is = header_ends read.bytes [] (ap (header_read here) (sym (append-nil read.bytes)) ∙ read.is []) }
  end_tells now new (inr ((halts, ended), none)) = record { bytes = halts.bytes; consumed = halts.consumed; is = header_ends halts.bytes [] halts.is }

  module _ (e : Element) where
    abbrev pub after : Place
    after = segment_at here false e.left

    abbrev pub position : Option ℕ
    position = Some (position_at begin here)

    -- it is a Cluster
    pub cluster_tells : (now new : Option (List ℕ)) → (e.ident == cluster) ≡ true → Read (header_read here) now new (Some e) → ToldBy on_from now new faults
    unfolding told_up_to
    cluster_tells now new test read = record { bytes = read.bytes; consumed = read.consumed; is = there read.bytes (ap (header_read here) (sym (append-nil read.bytes)) ∙ read.is []) }
      where
        there : (bytes : List ℕ) → header_read here bytes ≡ Ok (Some e, []) → faults ≡ on_from bytes
        there bytes is = rw (is, test) refl

    module _ (test : (e.ident == cluster) ≡ false) where
      from_element : (at mid : List ℕ) → header_read here at ≡ Ok (Some e, mid) →
          on_from at ≡ read_or (told_too faults (element_fault found e.ident e.size mid) position) (visited_told (told_up_to k begin) after (position_at begin here) faults) (tracks_or_salvaged found e.ident e.size mid)
      unfolding told_up_to
      from_element at mid is = rw (is, test) refl

      -- it is refused
      pub visit_tells : (now between new : Option (List ℕ)) (other : Option FileFault) (behind : List ToldFault) → Read (header_read here) now between (Some e) → StopsWith (tracks_or_salvaged found e.ident e.size) (element_fault found e.ident e.size) between new other → behind ≡ told_too faults other position → ToldBy on_from now new behind
      visit_tells now between new other behind header stops tells =
          record {
            bytes = header.bytes ++ stops.bytes;
            consumed = consumes_then now between new header.bytes stops.bytes header.consumed stops.consumed;
            is = tells ∙ ap (λ z. told_too faults z position) stops.is ∙ sym (from_element (header.bytes ++ stops.bytes) stops.bytes (header.is stops.bytes) ∙ rw stops.refused refl);
          }

      -- it is read, and as many are told as may be
      pub more_tells : (now between new : Option (List ℕ)) (found_now : Option Track) (o : Option FileFault) (g : FileFault) (behind : List ToldFault) → Read (header_read here) now between (Some e) → Read (tracks_or_salvaged found e.ident e.size) between new (found_now, o) →
          told_more faults o position ≡ Err g → behind ≡ told_too faults o position → ToldBy on_from now new behind
      more_tells now between new found_now o g behind header visit most tells =
          let whole = ap (tracks_or_salvaged found e.ident e.size) (sym (append-nil visit.bytes)) ∙ visit.is [] in
          let none : behind ≡ faults = tells ∙ rw most refl in
          record {
            bytes = header.bytes ++ visit.bytes;
            consumed = consumes_then now between new header.bytes visit.bytes header.consumed visit.consumed;
            is = none ∙ sym (from_element (header.bytes ++ visit.bytes) visit.bytes (header.is visit.bytes) ∙ rw whole (rw most refl));
          }

      -- it is read, and those after it are
      pub element_on : (now between new : Option (List ℕ)) (found_now : Option Track) (o : Option FileFault) (behind : List ToldFault) → Read (header_read here) now between (Some e) → Read (tracks_or_salvaged found e.ident e.size) between new (found_now, o) →
          told_more faults o position ≡ Ok behind → ToldSoFar on_from (told_up_to k begin found_now after behind) now new
      element_on now between new found_now o behind header visit more =
          record {
            bytes = header.bytes ++ visit.bytes;
            consumed = consumes_then now between new header.bytes visit.bytes header.consumed visit.consumed;
            leads = λ rest. (let at : header_read here ((header.bytes ++ visit.bytes) ++ rest) ≡ Ok (Some e, visit.bytes ++ rest) = ap (header_read here) (append_assoc header.bytes visit.bytes rest) ∙ header.is (visit.bytes ++ rest) in
                from_element ((header.bytes ++ visit.bytes) ++ rest) (visit.bytes ++ rest) at ∙ rw (visit.is rest) (rw more refl));
          }

-- ---- a file

-- the Segment was not entered
pub no_data : (bytes : List ℕ) (why : Stop) → (ebml_salvaged >>= λ _. segment_entered) bytes ≡ Err why → data_at bytes ≡ 0
unfolding data_at
no_data bytes why is = rw is refl

pub some_data : (bytes rest : List ℕ) (size : Option ℕ) → (ebml_salvaged >>= λ _. segment_entered) bytes ≡ Ok (size, rest) → data_at bytes ≡ length bytes - length rest
unfolding data_at
some_data bytes rest size is = rw is refl

-- the header of EBML is refused
pub ebml_tells : (old new : Option (List ℕ)) (other : Option FileFault) (behind : List ToldFault) → StopsWith ebml_salvaged (λ text. kept_fault (ebml_kept text)) old new other → behind ≡ told_too [] other None → TellsRead old new 0 behind
unfolding told_before
ebml_tells old new other behind h tells =
    record {
      bytes = h.bytes;
      consumed = h.consumed;
      is = tells ∙ ap (λ z. told_too [] z None) h.is ∙ sym (there h.bytes h.why h.refused);
      start_is = sym (ap (λ n. offset_after 0 n) (no_data h.bytes h.why (ap (λ z. read_on z (λ _. segment_entered)) h.refused)));
    }
  where
    there : (bytes : List ℕ) (why : Stop) → ebml_salvaged bytes ≡ Err why → told_before bytes ≡ told_too [] (kept_fault (ebml_kept bytes)) None
    there bytes why is = rw is refl

-- it is read, and what is told of it is told
pub never_most : {P : Type 0} (o : Option FileFault) (position : Option ℕ) (g : FileFault) → told_more [] o position ≡ Err g → P
never_most None position g e = absurd (cc)
never_most (Some f) position g e = absurd (cc)

module _ (o : Option FileFault) (faults : List ToldFault) (kept : told_more [] o None ≡ Ok faults) where
  from_ebml : (bytes mid : List ℕ) → ebml_salvaged bytes ≡ Ok (o, mid) → told_before bytes ≡ segment_told faults mid
  unfolding told_before
  from_ebml bytes mid is = rw (is, kept) refl

  -- what comes up to the Segment is refused
  pub entered_tells : (old between new : Option (List ℕ)) (before after : ℕ) (f : FileFault) → Read ebml_salvaged old between o → Refused segment_entered between new before after f → TellsRead old new 0 faults
  entered_tells old between new before after f ebml why =
      let stops = refused_with segment_entered (λ bytes. faults) between new faults (λ bytes why is. refl) before after f why in
      let at = ebml.is stops.bytes in
      record {
        bytes = ebml.bytes ++ stops.bytes;
        consumed = consumes_then old between new ebml.bytes stops.bytes ebml.consumed stops.consumed;
        is = sym (from_ebml (ebml.bytes ++ stops.bytes) stops.bytes at ∙ ap (λ z. read_or faults (λ size more. told_from (segment_begun size) faults more) z) stops.refused);
        start_is = sym (ap (λ n. offset_after 0 n) (no_data (ebml.bytes ++ stops.bytes) stops.why (ap (λ z. read_on z (λ _. segment_entered)) at ∙ stops.refused)));
      }

  -- the Segment is
  pub segment_tells : (old between now new : Option (List ℕ)) (size : Option ℕ) (m n start : ℕ) (behind : List ToldFault) → ReadsCounted ebml_salvaged old between o m → ReadsCounted segment_entered between now size n → start ≡ offset_after 0 (m + n) →
      ToldBy (told_from (segment_begun size) faults) now new behind → TellsRead old new start behind
  segment_tells old between now new size m n start behind ebml entered counted told =
      let later = entered.bytes ++ told.bytes in
      let all = ebml.bytes ++ later in
      let at = ebml.is later in
      let two = entered.is told.bytes in
      let long : length all - length told.bytes ≡ m + n = omega (arith, length-append ebml.bytes later, length-append entered.bytes told.bytes, ebml.counted, entered.counted) in
      record {
        bytes = all;
        consumed = consumes_then old between new ebml.bytes later ebml.consumed (consumes_then between now new entered.bytes told.bytes entered.consumed told.consumed);
        is = told.is ∙ sym (from_ebml all later at ∙ ap (λ z. read_or faults (λ size more. told_from (segment_begun size) faults more) z) two);
        start_is = counted ∙ sym (ap (λ n. offset_after 0 n) (some_data all told.bytes size (ap (λ z. read_on z (λ _. segment_entered)) at ∙ two) ∙ long));
      }
