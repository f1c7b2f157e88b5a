-- What is told of a file up to where its frames begin says what plain reading comes to.
use Rattle.std.proofs.Common.{◌≡◌, ◌∙◌, ◌==◌, ◌++◌, ◌∷◌, [], ℕ, suc, zero, List, Bool, true, false, nat_lt, length, Option, Some, None, Result, Ok, Err, refl, ap, sym, append_assoc, append-nil}
use Rattle.ffv1_reads.specs.Reads.{Met, Reading, Short, Stop, given, passed, read_on, refused, ◌>>=◌}
use Rattle.ffv1_reads.proofs.Results.{ok_is, read_on_ok}
use Rattle.ffv1_reads.specs.declared.fault.FileFault.{FileFault}
use Rattle.ffv1_reads.specs.declared.fault.FileFault.TheVariants as fault
use Rattle.ffv1_ebml.specs.Contents.{content_told}
use Rattle.ffv1_ebml.specs.Elements.{content_passed}
use Rattle.ffv1_ebml.specs.Tried.{outcome}
use Rattle.ffv1_ebml.specs.declared.element.Element.{Element}
use Rattle.ffv1_matroska.specs.Opened.{Opened, begin_up_to, begun_at, ebml, ebml_read, element_or_begun, element_passed, in_cluster, open_read, segment_opened, told, tracks, tracks_or_passed, tracks_read}
use Rattle.ffv1_matroska.specs.Opening.{content_kept, header_in, ident_read, segment_begun, segment_entered, top_size}
use Rattle.ffv1_matroska.specs.Places.{amount, ended, segment_at}
use Rattle.ffv1_matroska.specs.SalvageTold.{ebml_kept, element_fault, element_told, kept_fault, more_or, place_fault, plainly, read_or, segment_told, told_before, told_too, told_up_to, visited_told}
use Rattle.ffv1_matroska.specs.Salvaged.{Begun, Salvaged, content_salvaged, ebml_salvaged, element_salvaged, may_be_told, position_at, salvage_begun, salvage_or_begun, salvage_read, salvage_up_to, salvaged_as, segment_salvaged, sound_part, sum_fault, sum_told, told_more, told_then, tracks_or_salvaged, tracks_salvaged}
use Rattle.ffv1_matroska.specs.Segments.{cluster, header_read, is_filler, is_section}
use Rattle.ffv1_matroska.specs.Tracks.{Track, track_in, ◌>>?◌}
use Rattle.ffv1_matroska.specs.declared.place.Place.{Place}
use Rattle.ffv1_matroska.specs.declared.told.ToldFault.{ToldFault}
use Rattle.ffv1_matroska.proofs.SalvageLaws.{BeginsWithSum, header_begins, no_ok, track_begins}

-- ---- one element

-- read plainly, and as one of which a fault is told: sound; with a fault that is told; refused for
-- another one, with a fault that is told; or refused alike
pub data Visited {X Y : Type 0} (pair : X → Option FileFault → Y) (pending : Option FileFault) (plain : Result (X × List ℕ) Stop) (salvaged : Result (Y × List ℕ) Stop) : Type 0 where
  Sound : (x : X) (rest : List ℕ) → plain ≡ Ok (x, rest) → salvaged ≡ Ok (pair x None, rest) → Visited pair pending plain salvaged
  Goes : (f : FileFault) (x : X) (rest left : List ℕ) → plain ≡ Err (Met f rest) → salvaged ≡ Ok (pair x (Some f), left) → may_be_told f ≡ true → Visited pair pending plain salvaged
  Pends : (f : FileFault) (rest : List ℕ) (why : Stop) → plain ≡ Err (Met f rest) → salvaged ≡ Err why → pending ≡ Some f → may_be_told f ≡ true → Visited pair pending plain salvaged
  Alike : (why : Stop) → plain ≡ Err why → salvaged ≡ Err why → pending ≡ None → Visited pair pending plain salvaged

-- what is made of its value
mapped : {X Y V W : Type 0} {pair : X → Option FileFault → Y} {pending : Option FileFault} {plain : Result (X × List ℕ) Stop} {salvaged : Result (Y × List ℕ) Stop} (other : V → Option FileFault → W) (g : X → V) (h : Y → W) → ((x : X) (o : Option FileFault) → h (pair x o) ≡ other (g x) o) → Visited pair pending plain salvaged →
    Visited other pending (read_on plain (λ x. given (g x))) (read_on salvaged (λ y. given (h y)))
mapped other g h same (Sound x rest p s) = Sound (g x) rest (ap (λ z. read_on z (λ x. given (g x))) p) (ap (λ z. read_on z (λ y. given (h y))) s ∙ ap (λ z. Ok (z, rest)) (same x None))
mapped other g h same (Goes f x rest left p s may) = Goes f (g x) rest left (ap (λ z. read_on z (λ x. given (g x))) p) (ap (λ z. read_on z (λ y. given (h y))) s ∙ ap (λ z. Ok (z, left)) (same x (Some f))) may
mapped other g h same (Pends f rest why p s pend may) = Pends f rest why (ap (λ z. read_on z (λ x. given (g x))) p) (ap (λ z. read_on z (λ y. given (h y))) s) pend may
mapped other g h same (Alike why p s pend) = Alike why (ap (λ z. read_on z (λ x. given (g x))) p) (ap (λ z. read_on z (λ y. given (h y))) s) pend

-- content that was kept
module _ {X Y : Type 0} (pair : X → Option FileFault → Y) (says : List ℕ → Result X FileFault) (begins : BeginsWithSum says) where
  abbrev plain_of : List ℕ → Reading X
  plain_of content = told (says content)

  abbrev salvaged_of : List ℕ → Reading Y
  salvaged_of content = told (says (sound_part content)) >>= λ x. given (pair x (sum_fault content))

  judged : (content more : List ℕ) → Visited pair (sum_fault content) (plain_of content more) (salvaged_of content more)
  unfolding sound_part sum_fault
  judged content more = on_sum (content_told content) refl
    where
      on_sound : (r : Result X FileFault) → says content ≡ r → Visited pair None (told (says content) more) (read_on (told (says content) more) (λ x. given (pair x None)))
      on_sound (Ok x) is = Sound x more (rw is refl) (rw is refl)
      on_sound (Err f) is = Alike (Met f more) (rw is refl) (rw is refl) refl

      on_rest : says content ≡ Err fault.Checksum → (part : List ℕ) (r : Result X FileFault) → says part ≡ r → Visited pair (Some fault.Checksum) (told (says content) more) (read_on (told (says part) more) (λ x. given (pair x (Some fault.Checksum))))
      on_rest fails part (Ok x) is = Goes fault.Checksum x more more (rw fails refl) (rw is refl) refl
      on_rest fails part (Err g) is = Pends fault.Checksum more (Met g more) (rw fails refl) (rw is refl) refl refl

      on_sum : (r : Result (Unit {0}) FileFault) → content_told content ≡ r → Visited pair (sum_fault content) (plain_of content more) (salvaged_of content more)
      on_sum (Ok tt) is = rw is (on_sound (says content) refl)
      on_sum (Err fault.Checksum) is =
          let fails : says content ≡ Err fault.Checksum = (begins content).1 ∙ ap (λ z. z >>? (begins content).0) is in
          rw is (on_rest fails _ _ refl)
      on_sum (Err g) is = rw is (on_sound (says content) refl)

  kept : (z : Result (List ℕ × List ℕ) Stop) → Visited pair (kept_fault z) (read_on z plain_of) (read_on z salvaged_of)
  kept (Ok (content, more)) = judged content more
  kept (Err why) = Alike why refl refl refl

-- the header of EBML
abbrev pub alone : Unit {0} → Option FileFault → Option FileFault
alone u f = f

abbrev plain_sized : Option ℕ → Reading (Unit {0})
plain_sized size = content_kept size >>= plain_of alone header_in header_begins

abbrev salvaged_sized : Option ℕ → Reading (Option FileFault)
salvaged_sized size = content_kept size >>= salvaged_of alone header_in header_begins

pub ebml_visited : (text : List ℕ) → Visited alone (kept_fault (ebml_kept text)) (ebml_read text) (ebml_salvaged text)
unfolding ebml_kept ebml_read ebml_salvaged
ebml_visited text = on_ident (ident_read ebml text)
  where
    on_size : (z : Result (Option ℕ × List ℕ) Stop) → Visited alone (kept_fault (read_on z content_kept)) (read_on z plain_sized) (read_on z salvaged_sized)
    on_size (Ok (size, more)) = kept alone header_in header_begins (content_kept size more)
    on_size (Err why) = Alike why refl refl refl

    on_ident : (z : Result (Unit {0} × List ℕ) Stop) → Visited alone (kept_fault (read_on z (λ _. top_size >>= content_kept))) (read_on z (λ _. top_size >>= plain_sized)) (read_on z (λ _. top_size >>= salvaged_sized))
    on_ident (Ok (u, more)) = on_size (top_size more)
    on_ident (Err why) = Alike why refl refl refl

-- Tracks
abbrev with_track : Track → Option FileFault → Track × Option FileFault
with_track track f = (track, f)

tracks_visited : (size : Option ℕ) (text : List ℕ) → Visited with_track (kept_fault (content_kept size text)) (tracks_read size text) (tracks_salvaged size text)
unfolding tracks_read tracks_salvaged
tracks_visited size text = kept with_track track_in track_begins (content_kept size text)

-- another element
element_visited : (ident : ℕ) (size : Option ℕ) (text : List ℕ) → Visited alone (place_fault ident size) (element_passed ident size text) (element_salvaged ident size text)
unfolding element_passed element_salvaged content_salvaged
element_visited ident None text = Alike (Met fault.BadElement text) refl refl refl
element_visited ident (Some size) text = on_section (is_section ident) (is_filler ident) refl refl
  where
    on_content : (z : Result (Unit {0} × List ℕ) Stop) → Visited alone None z (read_on (outcome z) (λ r. told (sum_told r)))
    on_content (Ok (u, rest)) = Sound u rest refl refl
    on_content (Err (Met fault.Checksum rest)) = Goes fault.Checksum tt rest rest refl refl refl
    on_content (Err (Met g rest)) = Alike (Met g rest) refl refl refl
    on_content (Err (Short w)) = Alike (Short w) refl refl refl

    on_filler : (z : Result (Unit {0} × List ℕ) Stop) → Visited alone None z (read_on z (λ _. given None))
    on_filler (Ok (u, rest)) = Sound u rest refl refl
    on_filler (Err why) = Alike why refl refl refl

    on_other : (z : Result (Unit {0} × List ℕ) Stop) → Visited alone (Some fault.BadElement) (refused {X = Unit {0}} fault.BadElement text) (read_on z (λ _. given (Some fault.BadElement)))
    on_other (Ok (u, rest)) = Goes fault.BadElement u text rest refl refl refl
    on_other (Err why) = Pends fault.BadElement text why refl refl refl refl

    on_section : (b c : Bool) → is_section ident ≡ b → is_filler ident ≡ c → Visited alone (place_fault ident (Some size)) (element_passed ident (Some size) text) (element_salvaged ident (Some size) text)
    on_section true c p q = rw p (on_content (content_passed size text))
    on_section false true p q = rw (p, q) (on_filler (passed size text))
    on_section false false p q = rw (p, q) (on_other (passed size text))

-- an element of the Segment
abbrev pub with_found : Option Track → Option FileFault → Option Track × Option FileFault
with_found found f = (found, f)

pub visit_visited : (found : Option Track) (ident : ℕ) (size : Option ℕ) (text : List ℕ) → Visited with_found (element_fault found ident size text) (tracks_or_passed found ident size text) (tracks_or_salvaged found ident size text)
visit_visited (Some track) ident size text = mapped with_found (λ u. Some track) (λ f. (Some track, f)) (λ u o. refl) (element_visited ident size text)
visit_visited None ident size text = on_tracks (ident == tracks) refl
  where
    on_tracks : (b : Bool) → (ident == tracks) ≡ b → Visited with_found (element_fault None ident size text) (tracks_or_passed None ident size text) (tracks_or_salvaged None ident size text)
    on_tracks true p = rw p (mapped with_found (λ track. Some track) (λ (q : Track × Option FileFault). (Some q.0, q.1)) (λ track o. refl) (tracks_visited size text))
    on_tracks false p = rw p (mapped with_found (λ u. None) (λ f. (None, f)) (λ u o. refl) (element_visited ident size text))

-- ---- the Segment

-- more is told behind what was told before
grows_by : (faults : List ToldFault) (o : Option FileFault) (position : Option ℕ) (on : List ToldFault → List ToldFault) → ((now : List ToldFault) → (more : List ToldFault) × (on now ≡ now ++ more)) → (more : List ToldFault) × (more_or faults on (told_more faults o position) ≡ faults ++ more)
grows_by faults None position on grows = grows faults
grows_by faults (Some f) position on grows = on_test (nat_lt (length faults) 16) refl
  where
    one : List ToldFault
    one = record { fault = f; position = position } ∷ []

    on_test : (b : Bool) → nat_lt (length faults) 16 ≡ b → (more : List ToldFault) × (more_or faults on (told_more faults (Some f) position) ≡ faults ++ more)
    on_test true test = let later = grows (faults ++ one) in (one ++ later.0, rw test (later.1 ∙ append_assoc faults one later.0))
    on_test false test = ([], rw test (sym (append-nil faults)))

pub told_grows : (k : ℕ) (begin : Place) (found : Option Track) (here : Place) (faults : List ToldFault) (text : List ℕ) → (more : List ToldFault) × (told_up_to k begin found here faults text ≡ faults ++ more)
unfolding told_up_to
told_grows zero begin found here faults text = ([], sym (append-nil faults))
told_grows (suc k) begin found here faults text = on_header (λ now at before more. told_grows k begin now at before more) (header_read here text)
  where
    Again : Type 0
    Again = (now : Option Track) (at : Place) (before : List ToldFault) (more : List ℕ) → (others : List ToldFault) × (told_up_to k begin now at before more ≡ before ++ others)

    position : Place → Option ℕ
    position at = Some (position_at begin at)

    on_visit : Again → (after : Place) (pending : Option FileFault) (z : Result ((Option Track × Option FileFault) × List ℕ) Stop) →
        (others : List ToldFault) × (read_or (told_too faults pending (position here)) (visited_told (told_up_to k begin) after (position_at begin here) faults) z ≡ faults ++ others)
    on_visit again after pending (Ok (p, more)) = grows_by faults p.1 (position here) (λ now. told_up_to k begin p.0 after now more) (λ now. again p.0 after now more)
    on_visit again after pending (Err why) = grows_by faults pending (position here) (λ now. now) (λ now. ([], sym (append-nil now)))

    on_cluster : Again → (e : Element) (more : List ℕ) (b : Bool) → (e.ident == cluster) ≡ b → (others : List ToldFault) × (element_told (told_up_to k begin) begin found here faults (Some e) more ≡ faults ++ others)
    on_cluster again e more true test = ([], rw test (sym (append-nil faults)))
    on_cluster again e more false test = let later = on_visit again (segment_at here false e.left) (element_fault found e.ident e.size more) (tracks_or_salvaged found e.ident e.size more) in (later.0, rw test later.1)

    on_header : Again → (z : Result (Option Element × List ℕ) Stop) → (others : List ToldFault) × (read_or faults (element_told (told_up_to k begin) begin found here faults) z ≡ faults ++ others)
    on_header again (Err why) = ([], sym (append-nil faults))
    on_header again (Ok (None, more)) = ([], sym (append-nil faults))
    on_header again (Ok (Some e, more)) = on_cluster again e more (e.ident == cluster) refl

-- ---- what plain reading comes to

abbrev viewed : {X Y : Type 0} → (Y → X) → Result (Y × List ℕ) Stop → Result (X × List ℕ) Stop
viewed view (Ok p) = Ok (view p.0, p.1)
viewed view (Err why) = Err why

-- the same, if nothing is told; or the first fault that is
data Follows {X Y : Type 0} (view : Y → X) (faults : List ToldFault) (plain : Result (X × List ℕ) Stop) (salvaged : Result (Y × List ℕ) Stop) : Type 0 where
  Nothing : faults ≡ [] → plain ≡ viewed view salvaged → Follows view faults plain salvaged
  First : (t : ToldFault) (others : List ToldFault) (rest : List ℕ) → faults ≡ t ∷ others → plain ≡ Err (Met t.fault rest) → may_be_told t.fault ≡ true → Follows view faults plain salvaged

abbrev begun_view : Begun → Track × Place
begun_view b = (b.track, b.place)

begun_follows : (found : Option Track) (place at : Place) (text : List ℕ) → Follows begun_view [] (begun_at found place text) (salvage_begun found place at [] text)
unfolding begun_at salvage_begun
begun_follows None place at text = Nothing refl refl
begun_follows (Some track) place at text = Nothing refl refl

segment_follows : (k : ℕ) (begin : Place) (found : Option Track) (here : Place) (text : List ℕ) → Follows begun_view (told_up_to k begin found here [] text) (begin_up_to k found here text) (salvage_up_to k begin found here [] text)
unfolding told_up_to begin_up_to salvage_up_to
segment_follows zero begin found here text = Nothing refl refl
segment_follows (suc k) begin found here text = on_header (λ now at more. segment_follows k begin now at more) (header_read here text)
  where
    Again : Type 0
    Again = (now : Option Track) (at : Place) (more : List ℕ) → Follows begun_view (told_up_to k begin now at [] more) (begin_up_to k now at more) (salvage_up_to k begin now at [] more)

    position : Option ℕ
    position = Some (position_at begin here)

    on_visit : Again → (after : Place) (pending : Option FileFault) (plain : Result (Option Track × List ℕ) Stop) (salvaged : Result ((Option Track × Option FileFault) × List ℕ) Stop) → Visited with_found pending plain salvaged →
        Follows begun_view (read_or (told_too [] pending position) (visited_told (told_up_to k begin) after (position_at begin here) []) salvaged)
        (read_on plain (λ now. begin_up_to k now after)) (read_on salvaged (told_then (salvage_up_to k begin) after (position_at begin here) []))
    on_visit again after pending plain salvaged (Sound now rest p s) = rw (p, s) (again now after rest)
    on_visit again after pending plain salvaged (Goes f now rest left p s may) =
        let one : ToldFault = record { fault = f; position = position } in
        let grows = told_grows k begin now after (one ∷ []) left in
        rw (p, s) (First one grows.0 rest grows.1 refl may)
    on_visit again after pending plain salvaged (Pends f rest why p s pend may) = rw (p, s, pend) (First (record { fault = f; position = position }) [] rest refl refl may)
    on_visit again after pending plain salvaged (Alike why p s pend) = rw (p, s, pend) (Nothing refl refl)

    on_cluster : Again → (e : Element) (more : List ℕ) (b : Bool) → (e.ident == cluster) ≡ b →
        Follows begun_view (element_told (told_up_to k begin) begin found here [] (Some e) more) (element_or_begun (begin_up_to k) found here (Some e) more) (salvage_or_begun (salvage_up_to k begin) begin found here [] (Some e) more)
    on_cluster again e more true test = let at = in_cluster (segment_at here false e.left) e.size in rw test (begun_follows found at at more)
    on_cluster again e more false test =
        rw test (on_visit again (segment_at here false e.left) (element_fault found e.ident e.size more) (tracks_or_passed found e.ident e.size more) (tracks_or_salvaged found e.ident e.size more) (visit_visited found e.ident e.size more))

    on_header : Again → (z : Result (Option Element × List ℕ) Stop) →
        Follows begun_view (read_or [] (element_told (told_up_to k begin) begin found here []) z) (read_on z (element_or_begun (begin_up_to k) found here)) (read_on z (salvage_or_begun (salvage_up_to k begin) begin found here []))
    on_header again (Err why) = Nothing refl refl
    on_header again (Ok (None, more)) = begun_follows found ended here more
    on_header again (Ok (Some e, more)) = on_cluster again e more (e.ident == cluster) refl

abbrev opened_view : Salvaged → Opened
opened_view s = s.opened

opened_follows : (size : Option ℕ) (faults : List ToldFault) (plain : Result ((Track × Place) × List ℕ) Stop) (salvaged : Result (Begun × List ℕ) Stop) → Follows begun_view faults plain salvaged →
    Follows opened_view faults (read_on plain (λ p. given (record { track = p.0; segment = size; place = p.1 }))) (read_on salvaged (λ b. given (salvaged_as size b)))
opened_follows size faults plain (Ok (b, rest)) (Nothing none p) = Nothing none (rw p refl)
opened_follows size faults plain (Err why) (Nothing none p) = Nothing none (rw p refl)
opened_follows size faults plain salvaged (First t others rest is p may) = First t others rest is (rw p refl) may

entered_follows : (z : Result (Option ℕ × List ℕ) Stop) → Follows opened_view (read_or [] (λ size more. told_up_to (suc (amount (segment_begun size))) (segment_begun size) None (segment_begun size) [] more) z) (read_on z segment_opened) (read_on z (segment_salvaged []))
entered_follows (Err why) = Nothing refl refl
entered_follows (Ok (size, more)) =
    let begin = segment_begun size in
    opened_follows size _ _ _ (segment_follows (suc (amount begin)) begin None begin more)

-- of a file
abbrev Opens : List ToldFault → Result (Opened × List ℕ) Stop → Result (Salvaged × List ℕ) Stop → Type 0
Opens faults plain salvaged = Follows opened_view faults plain salvaged

pub segment_grows : (faults : List ToldFault) (z : Result (Option ℕ × List ℕ) Stop) → (more : List ToldFault) × (read_or faults (λ size left. told_up_to (suc (amount (segment_begun size))) (segment_begun size) None (segment_begun size) faults left) z ≡ faults ++ more)
segment_grows faults (Err why) = ([], sym (append-nil faults))
segment_grows faults (Ok (size, left)) = told_grows (suc (amount (segment_begun size))) (segment_begun size) None (segment_begun size) faults left

file_follows : (text : List ℕ) → Opens (told_before text) (open_read text) (salvage_read text)
unfolding told_before open_read salvage_read
file_follows text = on_ebml (kept_fault (ebml_kept text)) (ebml_read text) (ebml_salvaged text) (ebml_visited text)
  where
    on_ebml : (pending : Option FileFault) (plain : Result (Unit {0} × List ℕ) Stop) (salvaged : Result (Option FileFault × List ℕ) Stop) → Visited alone pending plain salvaged →
        Opens (read_or (told_too [] pending None) (λ f more. more_or [] (λ faults. segment_told faults more) (told_more [] f None)) salvaged)
        (read_on plain (λ _. segment_entered >>= segment_opened)) (read_on salvaged (λ f. told (told_more [] f None) >>= λ faults. (segment_entered >>= segment_salvaged faults)))
    on_ebml pending plain salvaged (Sound u rest p s) = rw (p, s) (entered_follows (segment_entered rest))
    on_ebml pending plain salvaged (Goes f u rest left p s may) =
        let one : ToldFault = record { fault = f; position = None } in
        let grows = segment_grows (one ∷ []) (segment_entered left) in
        rw (p, s) (First one grows.0 rest grows.1 refl may)
    on_ebml pending plain salvaged (Pends f rest why p s pend may) = rw (p, s, pend) (First (record { fault = f; position = None }) [] rest refl refl may)
    on_ebml pending plain salvaged (Alike why p s pend) = rw (p, s, pend) (Nothing refl refl)

no_cons : {P : Type 0} (t : ToldFault) (others : List ToldFault) → ◌≡◌ {A = List ToldFault} (t ∷ others) [] → P
no_cons t others e = absurd (cc)

pub none_told : (text : List ℕ) → told_before text ≡ [] → open_read text ≡ plainly (salvage_read text)
none_told text none = on_case (told_before text) (open_read text) (salvage_read text) none (file_follows text)
  where
    same : (z : Result (Salvaged × List ℕ) Stop) → viewed opened_view z ≡ plainly z
    same (Ok p) = refl
    same (Err why) = refl

    on_case : (faults : List ToldFault) (plain : Result (Opened × List ℕ) Stop) (salvaged : Result (Salvaged × List ℕ) Stop) → faults ≡ [] → Opens faults plain salvaged → plain ≡ plainly salvaged
    on_case faults plain salvaged none (Nothing is p) = p ∙ same salvaged
    on_case faults plain salvaged none (First t others rest is p may) = no_cons t others (sym is ∙ none)

pub first_told : (text : List ℕ) (t : ToldFault) (others : List ToldFault) → told_before text ≡ t ∷ others → (rest : List ℕ) × (open_read text ≡ Err (Met t.fault rest)) × (may_be_told t.fault ≡ true)
first_told text t others told = on_case (told_before text) (open_read text) (salvage_read text) told (file_follows text)
  where
    on_case : (faults : List ToldFault) (plain : Result (Opened × List ℕ) Stop) (salvaged : Result (Salvaged × List ℕ) Stop) → faults ≡ t ∷ others → Opens faults plain salvaged → (rest : List ℕ) × (plain ≡ Err (Met t.fault rest)) × (may_be_told t.fault ≡ true)
    on_case faults plain salvaged told (Nothing is p) = no_cons t others (sym told ∙ is)
    on_case faults plain salvaged told (First u more rest is p may) =
        let lists : ◌≡◌ {A = List ToldFault} (u ∷ more) (t ∷ others) = sym is ∙ told in
        let same : u ≡ t = cc (lists) in
        (rest, p ∙ ap (λ (z : ToldFault). Err (Met z.fault rest)) same, ap (λ (z : ToldFault). may_be_told z.fault) (sym same) ∙ may)

-- ---- if its frames begin, all that is told

begun_told : (found : Option Track) (place at : Place) (faults : List ToldFault) (text rest : List ℕ) (b : Begun) → salvage_begun found place at faults text ≡ Ok (b, rest) → faults ≡ b.told
unfolding salvage_begun
begun_told None place at faults text rest b is = no_ok (b, rest) (Met fault.NoTracks text) is
begun_told (Some track) place at faults text rest b is = ap (λ (z : Begun × List ℕ). z.0.told) (ok_is (record { track = track; place = place; here = at; told = faults }, text) (b, rest) is)

all_told : (k : ℕ) (begin : Place) (found : Option Track) (here : Place) (faults : List ToldFault) (text rest : List ℕ) (b : Begun) → salvage_up_to k begin found here faults text ≡ Ok (b, rest) → told_up_to k begin found here faults text ≡ b.told
unfolding told_up_to salvage_up_to
all_told zero begin found here faults text rest b is = no_ok (b, rest) (Met fault.NoTracks text) is
all_told (suc k) begin found here faults text rest b is = on_header (λ now at before more h. all_told k begin now at before more rest b h) (header_read here text) is
  where
    Again : Type 0
    Again = (now : Option Track) (at : Place) (before : List ToldFault) (more : List ℕ) → salvage_up_to k begin now at before more ≡ Ok (b, rest) → told_up_to k begin now at before more ≡ b.told

    on_more : Again → (now : Option Track) (after : Place) (more : List ℕ) (r : Result (List ToldFault) FileFault) → read_on (told r more) (λ before. salvage_up_to k begin now after before) ≡ Ok (b, rest) → more_or faults (λ before. told_up_to k begin now after before more) r ≡ b.told
    on_more again now after more (Ok before) is = again now after before more is
    on_more again now after more (Err f) is = no_ok (b, rest) (Met f more) is

    on_visit : Again → (after : Place) (pending : Option FileFault) (z : Result ((Option Track × Option FileFault) × List ℕ) Stop) → read_on z (told_then (salvage_up_to k begin) after (position_at begin here) faults) ≡ Ok (b, rest) →
        read_or (told_too faults pending (Some (position_at begin here))) (visited_told (told_up_to k begin) after (position_at begin here) faults) z ≡ b.told
    on_visit again after pending (Ok (p, more)) is = on_more again p.0 after more (told_more faults p.1 (Some (position_at begin here))) is
    on_visit again after pending (Err why) is = no_ok (b, rest) why is

    on_cluster : Again → (e : Element) (more : List ℕ) (c : Bool) → (e.ident == cluster) ≡ c → salvage_or_begun (salvage_up_to k begin) begin found here faults (Some e) more ≡ Ok (b, rest) → element_told (told_up_to k begin) begin found here faults (Some e) more ≡ b.told
    on_cluster again e more true test is = let at = in_cluster (segment_at here false e.left) e.size in rw test (begun_told found at at faults more rest b (rw test at is))
    on_cluster again e more false test is = rw test (on_visit again (segment_at here false e.left) (element_fault found e.ident e.size more) (tracks_or_salvaged found e.ident e.size more) (rw test at is))

    on_header : Again → (z : Result (Option Element × List ℕ) Stop) → read_on z (salvage_or_begun (salvage_up_to k begin) begin found here faults) ≡ Ok (b, rest) → read_or faults (element_told (told_up_to k begin) begin found here faults) z ≡ b.told
    on_header again (Err why) is = no_ok (b, rest) why is
    on_header again (Ok (None, more)) is = begun_told found ended here faults more rest b is
    on_header again (Ok (Some e, more)) is = on_cluster again e more (e.ident == cluster) refl is

pub opened_told : (text rest : List ℕ) (s : Salvaged) → salvage_read text ≡ Ok (s, rest) → told_before text ≡ s.told
unfolding told_before salvage_read
opened_told text rest s is = on_ebml (ebml_salvaged text) is
  where
    on_segment : (size : Option ℕ) (faults : List ToldFault) (more : List ℕ) → segment_salvaged faults size more ≡ Ok (s, rest) → told_up_to (suc (amount (segment_begun size))) (segment_begun size) None (segment_begun size) faults more ≡ s.told
    on_segment size faults more is =
        let begin = segment_begun size in
        let one = read_on_ok (salvage_up_to (suc (amount begin)) begin None begin faults more) (λ b. given (salvaged_as size b)) (s, rest) is in
        all_told (suc (amount begin)) begin None begin faults more one.0.1 one.0.0 one.1
        ∙ ap (λ (z : Salvaged × List ℕ). z.0.told) (ok_is (salvaged_as size one.0.0, one.0.1) (s, rest) one.2)

    on_entered : (faults : List ToldFault) (z : Result (Option ℕ × List ℕ) Stop) → read_on z (segment_salvaged faults) ≡ Ok (s, rest) → read_or faults (λ size more. told_up_to (suc (amount (segment_begun size))) (segment_begun size) None (segment_begun size) faults more) z ≡ s.told
    on_entered faults (Err why) is = no_ok (s, rest) why is
    on_entered faults (Ok (size, more)) is = on_segment size faults more is

    on_more : (more : List ℕ) (r : Result (List ToldFault) FileFault) → read_on (told r more) (λ faults. segment_entered >>= segment_salvaged faults) ≡ Ok (s, rest) → more_or [] (λ faults. segment_told faults more) r ≡ s.told
    on_more more (Ok faults) is = on_entered faults (segment_entered more) is
    on_more more (Err f) is = no_ok (s, rest) (Met f more) is

    on_ebml : (z : Result (Option FileFault × List ℕ) Stop) → read_on z (λ f. told (told_more [] f None) >>= λ faults. (segment_entered >>= segment_salvaged faults)) ≡ Ok (s, rest) →
        read_or (told_too [] (kept_fault (ebml_kept text)) None) (λ f more. more_or [] (λ faults. segment_told faults more) (told_more [] f None)) z ≡ s.told
    on_ebml (Ok (f, more)) is = on_more more (told_more [] f None) is
    on_ebml (Err why) is = no_ok (s, rest) why is
