-- What plain reading says of an element of which nothing is told, by the same bytes.
use Rattle.std.proofs.Common.{◌≡◌, ◌∙◌, ◌==◌, ◌++◌, [], ℕ, List, true, false, Option, Some, None, Result, Ok, Err, IfErr, inl, inr, refl, ap, sym}
use Rattle.std.proofs.lemmas.Bool.{cases_eq, ne_eqb}
use Rattle.std.specs.Prelude.{is_some}
use Rattle.ffv1_reads.specs.Offsets.{ReadsCounted}
use Rattle.ffv1_reads.specs.Reads.{Faults, Met, Read, Reading, Refused, Stop, given, passed, read_on, ◌>>=◌}
use Rattle.ffv1_reads.specs.declared.fault.FileFault.{FileFault}
use Rattle.ffv1_reads.specs.declared.fault.FileFault.TheVariants as fault
use Rattle.ffv1_reads.proofs.Answered.{answers_fault, answers_last, answers_same}
use Rattle.ffv1_reads.proofs.Reading.{goes_none, goes_refused}
use Rattle.ffv1_ebml.specs.Contents.{content_told}
use Rattle.ffv1_ebml.specs.Elements.{content_passed}
use Rattle.ffv1_matroska.specs.Internal.{found_kept, track_kept}
use Rattle.ffv1_matroska.specs.declared.track.Numbers.{Numbers}
use Rattle.ffv1_matroska.specs.Opened.{ebml_read, element_passed, told, tracks, tracks_or_passed}
use Rattle.ffv1_matroska.specs.Opening.{content_kept, header_in, ident_read, top_size}
use Rattle.ffv1_matroska.specs.SalvageTold.{StopsWith, ebml_kept, element_fault, kept_fault, place_fault}
use Rattle.ffv1_matroska.specs.Salvaged.{content_salvaged, ebml_salvaged, element_salvaged, sound_part, sum_fault, sum_told, tracks_or_salvaged, tracks_salvaged}
use Rattle.ffv1_matroska.specs.Opened.{tracks_read}
use Rattle.ffv1_matroska.specs.Scales.{scale_with}
use Rattle.ffv1_matroska.specs.Segments.{is_filler, is_section}
use Rattle.ffv1_matroska.specs.Tracks.{Track, track_in}
use Rattle.ffv1_matroska.specs.WrittenIdents.{info}
use Rattle.ffv1_matroska.proofs.SalvageLaws.{no_ok, same_ok}
use Rattle.ffv1_matroska.proofs.SalvagePending.{refused_with, stops_as, stops_read}
use Rattle.ffv1_matroska.proofs.SalvagedReadings.{tried_refused}
use Rattle.ffv1_matroska.proofs.SalvagedTold.{Alike, Goes, Pends, Sound, Visited, alone, ebml_visited, visit_visited, with_found}

-- what is said of a fault
pub err_so : {X : Type 0} (r : Result X FileFault) (P Q : FileFault → Type 0) → ((f : FileFault) → P f → Q f) → IfErr r P → IfErr r Q
err_so (Ok x) P Q so h = tt
err_so (Err f) P Q so h = so f h

-- another reading of the same bytes
pub read_as : {X : Type 0} (r s : Reading X) {old new : Option (List ℕ)} {x : X} → ((text : List ℕ) → r text ≡ s text) → Read r old new x → Read s old new x
read_as r s same h = record { bytes = h.bytes; consumed = h.consumed; is = λ rest. sym (same (h.bytes ++ rest)) ∙ h.is rest }

pub fault_as : {X : Type 0} (r s : Reading X) {old new : Option (List ℕ)} {f : FileFault} → ((text : List ℕ) → r text ≡ s text) → Faults r old new f → Faults s old new f
fault_as r s same h = record { bytes = h.bytes; consumed = h.consumed; is = λ rest. sym (same (h.bytes ++ rest)) ∙ h.is rest }

pub refused_as : {X : Type 0} (r s : Reading X) (old new : Option (List ℕ)) (before after : ℕ) (f : FileFault) → ((text : List ℕ) → r text ≡ s text) → Refused r old new before after f → Refused s old new before after f
refused_as r s old new before after f same why = answers_fault f s (answers_same (λ text. sym (same text)) (answers_last r why))

-- ---- content that is passed

pub section_passed : (ident size : ℕ) → is_section ident ≡ true → (text : List ℕ) → element_passed ident (Some size) text ≡ content_passed size text
unfolding element_passed
section_passed ident size section text = rw section refl

module _ (size : ℕ) (old new : Option (List ℕ)) where
  pub content_none : Read (content_passed size) old new tt → Read (content_salvaged size) old new None
  unfolding content_salvaged
  content_none h = record { bytes = h.bytes; consumed = h.consumed; is = λ rest. rw (h.is rest) refl }

  pub content_sum : Faults (content_passed size) old new fault.Checksum → Read (content_salvaged size) old new (Some fault.Checksum)
  unfolding content_salvaged
  content_sum h = record { bytes = h.bytes; consumed = h.consumed; is = λ rest. rw (h.is rest) refl }

  pub content_refused : (before after : ℕ) (f : FileFault) → (f ≡ fault.Checksum → ⊥) → Refused (content_passed size) old new before after f → Refused (content_salvaged size) old new before after f
  unfolding content_salvaged
  content_refused before after f other why = tried_refused (content_passed size) (λ r. told (sum_told r)) old new before after f (again f other) why
    where
      again : (f : FileFault) → (f ≡ fault.Checksum → ⊥) → (text : List ℕ) → told (sum_told (Err f)) text ≡ Err (Met f text)
      again fault.Checksum other text = absurd (other refl)
      again f other text = refl

-- ---- content that is kept

pub no_sum : (content : List ℕ) → sum_fault content ≡ None → sound_part content ≡ content
unfolding sound_part sum_fault
no_sum content none = on_sum (content_told content) refl none
  where
    no_fault : {P : Type 0} (f : FileFault) → ◌≡◌ {A = Option FileFault} (Some f) None → P
    no_fault f e = absurd (cc)

    on_sum : (r : Result (Unit {0}) FileFault) → content_told content ≡ r → sum_fault content ≡ None → sound_part content ≡ content
    on_sum (Ok u) is none = rw is refl
    on_sum (Err fault.Checksum) is none = no_fault fault.Checksum (rw is at none)
    on_sum (Err f) is none = rw is refl

-- the header of EBML, after its content
abbrev pub ebml_behind : List ℕ → Reading (Option FileFault)
ebml_behind content = told (header_in (sound_part content)) >>= λ _. given (sum_fault content)

pub ebml_parts : (text : List ℕ) → ebml_salvaged text ≡ read_on (ebml_kept text) ebml_behind
unfolding ebml_salvaged ebml_kept
ebml_parts text = on_ident (ident_read _ text)
  where
    on_size : (z : Result (Option ℕ × List ℕ) Stop) → read_on z (λ size. content_kept size >>= ebml_behind) ≡ read_on (read_on z content_kept) ebml_behind
    on_size (Ok p) = refl
    on_size (Err why) = refl

    on_ident : (z : Result (Unit {0} × List ℕ) Stop) → read_on z (λ _. top_size >>= λ size. (content_kept size >>= ebml_behind)) ≡ read_on (read_on z (λ _. top_size >>= content_kept)) ebml_behind
    on_ident (Ok p) = on_size (top_size p.1)
    on_ident (Err why) = refl

pub ebml_short : (bytes : List ℕ) (why : Stop) → ebml_kept bytes ≡ Err why → (ebml_salvaged bytes ≡ Err why) × (None ≡ kept_fault (ebml_kept bytes))
ebml_short bytes why is = (ebml_parts bytes ∙ ap (λ z. read_on z ebml_behind) is, sym (ap kept_fault is))

pub ebml_judged : (content : List ℕ) (f : FileFault) → header_in (sound_part content) ≡ Err f → (bytes : List ℕ) → ebml_kept bytes ≡ Ok (content, []) → (ebml_salvaged bytes ≡ Err (Met f [])) × (sum_fault content ≡ kept_fault (ebml_kept bytes))
ebml_judged content f why bytes is = (ebml_parts bytes ∙ ap (λ z. read_on z ebml_behind) is ∙ rw why refl, sym (ap kept_fault is))

-- Tracks
pub tracks_short : (size : Option ℕ) (bytes : List ℕ) (why : Stop) → content_kept size bytes ≡ Err why → (tracks_salvaged size bytes ≡ Err why) × (None ≡ kept_fault (content_kept size bytes))
unfolding tracks_salvaged
tracks_short size bytes why is = (rw is refl, sym (ap kept_fault is))

pub tracks_judged : (size : Option ℕ) (content : List ℕ) (f : FileFault) → track_in (sound_part content) ≡ Err f → (bytes : List ℕ) → content_kept size bytes ≡ Ok (content, []) → (tracks_salvaged size bytes ≡ Err (Met f [])) × (sum_fault content ≡ kept_fault (content_kept size bytes))
unfolding tracks_salvaged
tracks_judged size content f why bytes is = (rw (is, why) refl, sym (ap kept_fault is))

module _ (old new : Option (List ℕ)) (before after : ℕ) (f : FileFault) where
  pub ebml_stops : Refused ebml_kept old new before after f → StopsWith ebml_salvaged (λ text. kept_fault (ebml_kept text)) old new None
  ebml_stops why = stops_as ebml_salvaged (λ text. kept_fault (ebml_kept text)) None (λ bytes stop is same. ebml_short bytes stop is) (refused_with {Y = ℕ} ebml_kept (λ bytes. 0) old new 0 (λ bytes stop is. refl) before after f why)

  pub tracks_stops : (size : Option ℕ) → Refused (content_kept size) old new before after f → StopsWith (tracks_salvaged size) (λ text. kept_fault (content_kept size text)) old new None
  tracks_stops size why = stops_as (tracks_salvaged size) (λ text. kept_fault (content_kept size text)) None (λ bytes stop is same. tracks_short size bytes stop is) (refused_with {Y = ℕ} (content_kept size) (λ bytes. 0) old new 0 (λ bytes stop is. refl) before after f why)

module _ (old new : Option (List ℕ)) (content : List ℕ) (f : FileFault) where
  pub ebml_stops_judged : header_in (sound_part content) ≡ Err f → Read ebml_kept old new content → StopsWith ebml_salvaged (λ text. kept_fault (ebml_kept text)) old new (sum_fault content)
  ebml_stops_judged why read = stops_read ebml_salvaged (λ text. kept_fault (ebml_kept text)) (sum_fault content) (Met f []) (λ bytes is. ebml_judged content f why bytes is) read

  pub tracks_stops_judged : (size : Option ℕ) → track_in (sound_part content) ≡ Err f → Read (content_kept size) old new content → StopsWith (tracks_salvaged size) (λ text. kept_fault (content_kept size text)) old new (sum_fault content)
  tracks_stops_judged size why read = stops_read (tracks_salvaged size) (λ text. kept_fault (content_kept size text)) (sum_fault content) (Met f []) (λ bytes is. tracks_judged size content f why bytes is) read

-- ---- elements

no_fault : {P : Type 0} (f : FileFault) → ◌≡◌ {A = Option FileFault} (Some f) None → P
no_fault f e = absurd (cc)

pub ebml_plain : (text rest : List ℕ) → ebml_salvaged text ≡ Ok (None, rest) → ebml_read text ≡ Ok (tt, rest)
ebml_plain text rest is = on (kept_fault (ebml_kept text)) (ebml_read text) (ebml_salvaged text) is (ebml_visited text)
  where
    on : (pending : Option FileFault) (plain : Result (Unit {0} × List ℕ) Stop) (salvaged : Result (Option FileFault × List ℕ) Stop) → salvaged ≡ Ok (None, rest) → Visited alone pending plain salvaged → plain ≡ Ok (tt, rest)
    on pending plain salvaged is (Sound u left p s) = p ∙ ap (λ z. Ok (u, z)) (same_ok {X = Option FileFault} None None left rest (sym s ∙ is)).1
    on pending plain salvaged is (Goes f u r left p s may) = no_fault f (same_ok {X = Option FileFault} (Some f) None left rest (sym s ∙ is)).0
    on pending plain salvaged is (Pends f r why p s pend may) = no_ok (None, rest) why (sym s ∙ is)
    on pending plain salvaged is (Alike why p s pend) = no_ok (None, rest) why (sym s ∙ is)

pub visit_plain : (found now : Option Track) (ident : ℕ) (size : Option ℕ) (text rest : List ℕ) → tracks_or_salvaged found ident size text ≡ Ok ((now, None), rest) → tracks_or_passed found ident size text ≡ Ok (now, rest)
visit_plain found now ident size text rest is = on (element_fault found ident size text) (tracks_or_passed found ident size text) (tracks_or_salvaged found ident size text) is (visit_visited found ident size text)
  where
    Both : Type 0
    Both = Option Track × Option FileFault

    on : (pending : Option FileFault) (plain : Result (Option Track × List ℕ) Stop) (salvaged : Result (Both × List ℕ) Stop) → salvaged ≡ Ok ((now, None), rest) → Visited with_found pending plain salvaged → plain ≡ Ok (now, rest)
    on pending plain salvaged is (Sound x left p s) =
        let same = same_ok {X = Both} (x, None) (now, None) left rest (sym s ∙ is) in
        let one : x ≡ now = ap (λ (z : Both). z.0) same.0 in
        p ∙ rw (one, same.1) refl
    on pending plain salvaged is (Goes f x r left p s may) = no_fault f (ap (λ (z : Both). z.1) (same_ok {X = Both} (x, Some f) (now, None) left rest (sym s ∙ is)).0)
    on pending plain salvaged is (Pends f r why p s pend may) = no_ok {X = Both × List ℕ} ((now, None), rest) why (sym s ∙ is)
    on pending plain salvaged is (Alike why p s pend) = no_ok {X = Both × List ℕ} ((now, None), rest) why (sym s ∙ is)

-- the same of bytes that were read
pub ebml_sound : {old new : Option (List ℕ)} → Read ebml_salvaged old new None → Read ebml_read old new tt
ebml_sound h = record { bytes = h.bytes; consumed = h.consumed; is = λ rest. ebml_plain (h.bytes ++ rest) rest (h.is rest) }

pub ebml_counted : {old new : Option (List ℕ)} {n : ℕ} → ReadsCounted ebml_salvaged old new None n → ReadsCounted ebml_read old new tt n
ebml_counted h = record { bytes = h.bytes; consumed = h.consumed; is = λ rest. ebml_plain (h.bytes ++ rest) rest (h.is rest); counted = h.counted }

pub visit_sound : (found now : Option Track) (ident : ℕ) (size : Option ℕ) {old new : Option (List ℕ)} → Read (tracks_or_salvaged found ident size) old new (now, None) → Read (tracks_or_passed found ident size) old new now
visit_sound found now ident size h = record { bytes = h.bytes; consumed = h.consumed; is = λ rest. visit_plain found now ident size (h.bytes ++ rest) rest (h.is rest) }

abbrev none_with : Option Track → Option FileFault → Reading (Option Track × Option FileFault)
none_with found f = given (found, f)

-- an element that is refused, and of which nothing is told
module _ (ident : ℕ) (size : Option ℕ) (old new : Option (List ℕ)) (before after : ℕ) (f : FileFault) where
  pub tracks_plain : (found : Option Track) → found ≡ None → (ident == tracks) ≡ true → Refused (tracks_read size) old new before after f → Refused (tracks_or_passed found ident size) old new before after f
  tracks_plain found none is why = rw (none, is) (goes_refused (tracks_read size) (λ track. given (Some track)) new after f (goes_none (tracks_read size >>= λ track. given (Some track)) old before) why)

  pub element_plain : (found : Option Track) → (found ≡ None → (ident == tracks) ≡ false) → Refused (element_passed ident size) old new before after f → Refused (tracks_or_passed found ident size) old new before after f
  element_plain None other why = rw (other refl) (goes_refused (element_passed ident size) (λ _. given None) new after f (goes_none (element_passed ident size >>= λ _. given None) old before) why)
  element_plain (Some track) other why = goes_refused (element_passed ident size) (λ _. given (Some track)) new after f (goes_none (element_passed ident size >>= λ _. given (Some track)) old before) why

  -- and of which something may be
  pub element_refused : (found : Option Track) → (found ≡ None → (ident == tracks) ≡ false) → Refused (element_salvaged ident size) old new before after f → Refused (tracks_or_salvaged found ident size) old new before after f
  element_refused None other why = rw (other refl) (goes_refused (element_salvaged ident size) (none_with None) new after f (goes_none (element_salvaged ident size >>= none_with None) old before) why)
  element_refused (Some track) other why = goes_refused (element_salvaged ident size) (none_with (Some track)) new after f (goes_none (element_salvaged ident size >>= none_with (Some track)) old before) why

  pub element_stops : (found : Option Track) (o : Option FileFault) → (found ≡ None → (ident == tracks) ≡ false) → o ≡ place_fault ident size → Refused (element_salvaged ident size) old new before after f → StopsWith (tracks_or_salvaged found ident size) (element_fault found ident size) old new o
  element_stops found o other same why = refused_with (tracks_or_salvaged found ident size) (element_fault found ident size) old new o (λ bytes stop is. same ∙ sym (placed found other bytes)) before after f (element_refused found other why)
    where
      placed : (found : Option Track) → (found ≡ None → (ident == tracks) ≡ false) → (text : List ℕ) → element_fault found ident size text ≡ place_fault ident size
      placed None other text = rw (other refl) refl
      placed (Some track) other text = refl

pub tracks_stop : (found : Option Track) (ident : ℕ) (size : Option ℕ) (o : Option FileFault) → found ≡ None → (ident == tracks) ≡ true → {old new : Option (List ℕ)} → StopsWith (tracks_salvaged size) (λ text. kept_fault (content_kept size text)) old new o → StopsWith (tracks_or_salvaged found ident size) (element_fault found ident size) old new o
tracks_stop found ident size o none is h = stops_as (tracks_or_salvaged found ident size) (element_fault found ident size) o there h
  where
    there : (bytes : List ℕ) (why : Stop) → tracks_salvaged size bytes ≡ Err why → o ≡ kept_fault (content_kept size bytes) → (tracks_or_salvaged found ident size bytes ≡ Err why) × (o ≡ element_fault found ident size bytes)
    there bytes why stops same = (rw (none, is, stops) refl, rw (none, is) same)

-- there are Tracks
pub kept_some : (found : Option Numbers) (bytes : List ℕ) → is_some found ≡ true → found_kept found bytes ≡ None → ⊥
kept_some None bytes some none = absurd (cc)
kept_some (Some n) bytes some none = no_some (track_kept n bytes) none
  where
    no_some : (track : Track) → ◌≡◌ {A = Option Track} (Some track) None → ⊥
    no_some track e = absurd (cc)

-- what a tick has is as it was after what is no Info
pub other_scale : (ident size scale : ℕ) (text : List ℕ) → is_section ident ≡ false → scale_with ident (Some size) scale text ≡ scale
unfolding is_section
other_scale ident size scale text section = elim (cases_eq ident info) [ inl is ↦ absurd (no_info is) | inr not_info ↦ rw (ne_eqb _ _ not_info) refl ]
  where
    no_info : ident ≡ info → ⊥
    no_info is = let none : is_section info ≡ false = rw is at section in absurd (cc)

pub filler_passed : (ident size : ℕ) → is_section ident ≡ false → is_filler ident ≡ true → (text : List ℕ) → element_passed ident (Some size) text ≡ passed size text
unfolding element_passed
filler_passed ident size section filler text = rw (section, filler) refl
