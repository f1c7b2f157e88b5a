-- What plain reading finds of Tracks that stand behind Clusters is found if a file may be damaged.
use Rattle.std.proofs.Common.{◌≡◌, ◌⊎◌, ◌∙◌, ◌==◌, ◌&&◌, ℕ, suc, zero, List, [], Bool, true, false, if◌then◌else◌, Option, Some, None, Result, Ok, Err, inl, inr, refl, ap, subst, sym}
use Rattle.ffv1_reads.specs.Reads.{Met, Reading, Short, Stop, Want, given, passed, read_on, ◌>>=◌}
use Rattle.ffv1_reads.specs.declared.fault.FileFault.{FileFault}
use Rattle.ffv1_reads.specs.declared.fault.FileFault.TheVariants as fault
use Rattle.ffv1_reads.proofs.Results.{read_on_ok}
use Rattle.ffv1_ebml.specs.Contents.{content_told}
use Rattle.ffv1_ebml.specs.Elements.{content_passed}
use Rattle.ffv1_ebml.specs.Tried.{outcome}
use Rattle.ffv1_ebml.specs.declared.element.Element.{Element}
use Rattle.ffv1_matroska.specs.Late.{cluster_passed, late_read, loose_passed, opened_with, passed_over, segment_reopened, sought_up_to, reopened, track_read, tracks_or_on}
use Rattle.ffv1_matroska.specs.Opened.{Opened, begin_up_to, ebml, ebml_read, element_passed, told, tracks, tracks_read}
use Rattle.ffv1_matroska.specs.Opening.{content_kept, header_in, ident_read, segment_begun, segment_entered, top_size}
use Rattle.ffv1_matroska.specs.Places.{amount, segment_at}
use Rattle.ffv1_matroska.specs.Salvaged.{Begun, content_salvaged, ebml_salvaged, element_salvaged, may_be_told, position_at, salvaged_as, sound_part, sum_fault, sum_told, tracks_salvaged}
use Rattle.ffv1_matroska.specs.SalvagedLate.{known_from, late_salvaged, salvage_known, salvage_sought_up_to, salvage_track, salvaged_or_on, salvaged_over, salvaged_with}
use Rattle.ffv1_matroska.specs.Segments.{cluster, header_read, is_filler, is_of_cluster, is_section}
use Rattle.ffv1_matroska.specs.Tracks.{Track, track_in, ◌>>?◌}
use Rattle.ffv1_matroska.specs.declared.place.Place.{Place}
use Rattle.ffv1_matroska.proofs.SalvageLaws.{BeginsWithSum, begin_same, ebml_same, header_begins, moved_open, no_ok, same_ok, track_begins}

-- what plain reading comes to, if it is not a fault that is told
abbrev Kept : {X : Type 0} → Result (X × List ℕ) Stop → Type 0
Kept (Ok p) = Unit {0}
Kept (Err (Short w)) = Unit {0}
Kept (Err (Met f rest)) = may_be_told f ≡ false

-- is come to as well
abbrev Alike : {X Y : Type 0} → (X → Y) → Result (X × List ℕ) Stop → Result (Y × List ℕ) Stop → Type 0
Alike view (Ok p) z = z ≡ Ok (view p.0, p.1)
Alike view (Err why) z = z ≡ Err why

abbrev Follows : {X Y : Type 0} → (X → Y) → Result (X × List ℕ) Stop → Result (Y × List ℕ) Stop → Type 0
Follows view x z = Kept x → Alike view x z

follows_same : {X : Type 0} (x : Result (X × List ℕ) Stop) → Follows (λ (a : X). a) x x
follows_same (Ok p) kept = refl
follows_same (Err why) kept = refl

-- readings in a row
follows_on : {X Y V W : Type 0} (view : X → Y) (seen : V → W) (k : X → Reading V) (h : Y → Reading W) (x : Result (X × List ℕ) Stop) (z : Result (Y × List ℕ) Stop) → Follows view x z → ((a : X) (rest : List ℕ) → Follows seen (k a rest) (h (view a) rest)) → Follows seen (read_on x k) (read_on z h)
follows_on {V = V} {W = W} view seen k h (Ok p) z first next kept =
    let P : Result (W × List ℕ) Stop → Type 0 = λ y. Alike seen (k p.0 p.1) y in
    subst P (ap (λ y. read_on y h) (sym (first tt))) (next p.0 p.1 kept)
follows_on view seen k h (Err (Short w)) z first next kept = ap (λ y. read_on y h) (first tt)
follows_on view seen k h (Err (Met f rest)) z first next kept = ap (λ y. read_on y h) (first kept)

never : {P : Type 0} → ◌≡◌ {A = Bool} true false → P
never e = absurd (cc)

-- ---- content in memory

sum_or : (content : List ℕ) → ((sound_part content ≡ content) × (sum_fault content ≡ None)) ⊎ (content_told content ≡ Err fault.Checksum)
unfolding sound_part sum_fault
sum_or content = on_sum (content_told content) refl
  where
    on_sum : (r : Result (Unit {0}) FileFault) → content_told content ≡ r → ((sound_part content ≡ content) × (sum_fault content ≡ None)) ⊎ (content_told content ≡ Err fault.Checksum)
    on_sum (Ok u) is = inl (rw is refl, rw is refl)
    on_sum (Err fault.Checksum) is = inr is
    on_sum (Err f) is = inl (rw is refl, rw is refl)

-- that says something, or has a fault
judged : {X Y : Type 0} (says : List ℕ → Result X FileFault) → BeginsWithSum says → (made : X → Option FileFault → Y) (content rest : List ℕ) → Follows (λ x. made x None) (told (says content) rest) (read_on (told (says (sound_part content)) rest) (λ x. given (made x (sum_fault content))))
judged {X = X} {Y = Y} says begins made content rest = on_sum (sum_or content)
  where
    after : Option FileFault → X → Reading Y
    after o x = given (made x o)

    plainly : (r : Result X FileFault) → Follows (λ x. made x None) (told r rest) (read_on (told r rest) (after None))
    plainly (Ok x) kept = refl
    plainly (Err f) kept = refl

    on_sum : ((sound_part content ≡ content) × (sum_fault content ≡ None)) ⊎ (content_told content ≡ Err fault.Checksum) → Follows (λ x. made x None) (told (says content) rest) (read_on (told (says (sound_part content)) rest) (λ x. given (made x (sum_fault content))))
    on_sum (inl (sound, none)) = rw (sound, none) (plainly (says content))
    on_sum (inr wrong) =
        let first : says content ≡ Err fault.Checksum = (begins content).1 ∙ ap (λ r. r >>? (begins content).0) wrong in
        let P : Result X FileFault → Type 0 = λ r. Follows (λ x. made x None) (told r rest) (read_on (told (says (sound_part content)) rest) (λ x. given (made x (sum_fault content)))) in
        subst P (sym first) (λ kept. never kept)

-- ---- elements

abbrev with_sum : Track → Option FileFault → Track × Option FileFault
with_sum track o = (track, o)

abbrev sum_alone : Unit {0} → Option FileFault → Option FileFault
sum_alone u o = o

ebml_follows : (text : List ℕ) → Follows (λ (u : Unit {0}). None) (ebml_read text) (ebml_salvaged text)
unfolding ebml_read ebml_salvaged
ebml_follows text =
    follows_on (λ (u : Unit {0}). u) (λ (u : Unit {0}). None) _ _ (ident_read ebml text) (ident_read ebml text) (follows_same (ident_read ebml text))
    (λ u more. follows_on (λ (n : Option ℕ). n) (λ (u : Unit {0}). None) _ _ (top_size more) (top_size more) (follows_same (top_size more))
    (λ size left. follows_on (λ (c : List ℕ). c) (λ (u : Unit {0}). None) _ _ (content_kept size left) (content_kept size left) (follows_same (content_kept size left))
    (λ content rest. judged header_in header_begins sum_alone content rest)))

tracks_follow : (size : Option ℕ) (text : List ℕ) → Follows (λ (t : Track). t) (tracks_read size text) ((tracks_salvaged size >>= λ p. given p.0) text)
unfolding tracks_read tracks_salvaged
tracks_follow size text =
    let whole : Follows (λ (t : Track). with_sum t None) (tracks_read size text) (tracks_salvaged size text) =
    follows_on (λ (c : List ℕ). c) (λ (t : Track). with_sum t None) _ _ (content_kept size text) (content_kept size text) (follows_same (content_kept size text))
    (λ content rest. judged track_in track_begins with_sum content rest) in
    taken (tracks_read size text) (tracks_salvaged size text) whole
  where
    taken : (x : Result (Track × List ℕ) Stop) (z : Result ((Track × Option FileFault) × List ℕ) Stop) → Follows (λ (t : Track). with_sum t None) x z → Follows (λ (t : Track). t) x (read_on z (λ p. given p.0))
    taken (Ok p) z h kept = ap (λ y. read_on {X = Track × Option FileFault} y (λ q. given q.0)) (h kept)
    taken (Err why) z h kept = ap (λ y. read_on {X = Track × Option FileFault} y (λ q. given q.0)) (h kept)

element_follows : (ident : ℕ) (size : Option ℕ) (text : List ℕ) → Follows {Y = Option FileFault} (λ (u : Unit {0}). None) (element_passed ident size text) (element_salvaged ident size text)
unfolding element_passed element_salvaged content_salvaged
element_follows ident None text = λ kept. refl
element_follows ident (Some size) text = on_section (is_section ident) (is_filler ident)
  where
    on_content : (x : Result (Unit {0} × List ℕ) Stop) → Follows {Y = Option FileFault} (λ (u : Unit {0}). None) x (read_on (outcome x) (λ r. told (sum_told r)))
    on_content (Ok p) kept = refl
    on_content (Err (Short w)) kept = refl
    on_content (Err (Met fault.Checksum rest)) kept = never kept
    on_content (Err (Met f rest)) kept = refl

    on_passed : (x : Result (Unit {0} × List ℕ) Stop) → Follows {Y = Option FileFault} (λ (u : Unit {0}). None) x (read_on x (λ _. given None))
    on_passed (Ok p) kept = refl
    on_passed (Err why) kept = refl

    on_section : (b c : Bool) → Follows {Y = Option FileFault} (λ (u : Unit {0}). None) ((if b then content_passed size else if c then passed size else (λ t. Err (Met fault.BadElement t))) text)
        ((if b then (λ t. read_on (outcome (content_passed size t)) (λ r. told (sum_told r))) else (passed size >>= λ _. given (if c then None else Some fault.BadElement))) text)
    on_section true c = on_content (content_passed size text)
    on_section false true = on_passed (passed size text)
    on_section false false = λ kept. never kept

over_follows : (loose : Bool) (ident : ℕ) (size : Option ℕ) (text : List ℕ) → Follows (λ (b : Bool). b) (passed_over loose ident size text) (salvaged_over loose ident size text)
unfolding passed_over salvaged_over
over_follows loose ident size text = on_tests (ident == cluster) (loose && is_of_cluster ident)
  where
    on_tests : (a b : Bool) → Follows (λ (b : Bool). b) ((if a then cluster_passed size else if b then loose_passed size else (element_passed ident size >>= λ _. given (loose && is_filler ident))) text)
        ((if a then cluster_passed size else if b then loose_passed size else (element_salvaged ident size >>= λ _. given (loose && is_filler ident))) text)
    on_tests true b = follows_same (cluster_passed size text)
    on_tests false true = follows_same (loose_passed size text)
    on_tests false false = follows_on (λ (u : Unit {0}). None) (λ (b : Bool). b) _ _ (element_passed ident size text) (element_salvaged ident size text) (element_follows ident size text) (λ u rest kept. refl)

-- ---- up to the first Tracks

sought_follows : (most : ℕ) (place : Place) (text : List ℕ) → Follows (λ (t : Track). t) (sought_up_to most place text) (salvage_sought_up_to most place text)
unfolding sought_up_to salvage_sought_up_to
sought_follows zero place text = λ kept. refl
sought_follows (suc most) place text =
    follows_on (λ (o : Option Element). o) (λ (t : Track). t) (tracks_or_on (sought_up_to most) place) (salvaged_or_on (salvage_sought_up_to most) place) (header_read place text) (header_read place text) (follows_same (header_read place text)) (λ o rest. on_element (λ at more. sought_follows most at more) o rest)
  where
    Again : Type 0
    Again = (at : Place) (more : List ℕ) → Follows (λ (t : Track). t) (sought_up_to most at more) (salvage_sought_up_to most at more)

    on_element : Again → (o : Option Element) (rest : List ℕ) → Follows (λ (t : Track). t) (tracks_or_on (sought_up_to most) place o rest) (salvaged_or_on (salvage_sought_up_to most) place o rest)
    on_element again None rest = λ kept. refl
    on_element again (Some e) rest = on_tracks (e.ident == tracks)
      where
        on_tracks : (b : Bool) → Follows (λ (t : Track). t) ((if b then tracks_read e.size else (passed_over place.loose e.ident e.size >>= λ loose. sought_up_to most (segment_at place loose e.left))) rest)
            ((if b then (tracks_salvaged e.size >>= λ p. given p.0) else (salvaged_over place.loose e.ident e.size >>= λ loose. salvage_sought_up_to most (segment_at place loose e.left))) rest)
        on_tracks true = tracks_follow e.size rest
        on_tracks false = follows_on (λ (b : Bool). b) (λ (t : Track). t) _ _ (passed_over place.loose e.ident e.size rest) (salvaged_over place.loose e.ident e.size rest) (over_follows place.loose e.ident e.size rest) (λ loose more. again (segment_at place loose e.left) more)

track_follows : (text : List ℕ) → Follows (λ (t : Track). t) (track_read text) (salvage_track text)
unfolding track_read salvage_track
track_follows text =
    follows_on (λ (u : Unit {0}). None) (λ (t : Track). t) _ _ (ebml_read text) (ebml_salvaged text) (ebml_follows text)
    (λ u more. follows_on (λ (n : Option ℕ). n) (λ (t : Track). t) _ _ (segment_entered more) (segment_entered more) (follows_same (segment_entered more))
    (λ size rest. sought_follows (suc (amount (segment_begun size))) (segment_begun size) rest))

pub track_found : (text rest : List ℕ) (track : Track) → track_read text ≡ Ok (track, rest) → salvage_track text ≡ Ok (track, rest)
track_found text rest track is =
    let P : Result (Track × List ℕ) Stop → Type 0 = λ x. Follows (λ (t : Track). t) x (salvage_track text) in
    subst P is (track_follows text) tt

pub track_short : (text : List ℕ) (w : Want) → track_read text ≡ Err (Short w) → salvage_track text ≡ Err (Short w)
track_short text w is =
    let P : Result (Track × List ℕ) Stop → Type 0 = λ x. Follows (λ (t : Track). t) x (salvage_track text) in
    subst P is (track_follows text) tt

pub track_refused : (text rest : List ℕ) (f : FileFault) → track_read text ≡ Err (Met f rest) → may_be_told f ≡ false → salvage_track text ≡ Err (Met f rest)
track_refused text rest f is kept =
    let P : Result (Track × List ℕ) Stop → Type 0 = λ x. Follows (λ (t : Track). t) x (salvage_track text) in
    subst P is (track_follows text) kept

-- ---- with their track

known_by : (track : Track) (text mid left rest : List ℕ) (size : Option ℕ) (b : Begun) → ebml_salvaged text ≡ Ok (None, mid) → segment_entered mid ≡ Ok (size, left) → known_from track (segment_begun size) [] left ≡ Ok (b, rest) → salvage_known track text ≡ Ok (salvaged_as size b, rest)
unfolding salvage_known
known_by track text mid left rest size b one two three = rw (one, two, three) refl

known_same : (track : Track) (text rest : List ℕ) (o : Opened) → reopened track text ≡ Ok (o, rest) → (begun : ℕ) × (salvage_known track text ≡ Ok (record { opened = o; begun = begun; told = [] }, rest))
unfolding reopened
known_same track text rest o is =
    let one = read_on_ok (ebml_read text) (λ _. segment_entered >>= segment_reopened track) (o, rest) is in
    let two = read_on_ok (segment_entered one.0.1) (segment_reopened track) (o, rest) one.2 in
    let size = two.0.0 in
    let begin = segment_begun size in
    let three = read_on_ok (begin_up_to (suc (amount begin)) (Some track) begin two.0.1) (λ p. given (record { track = p.0; segment = size; place = p.1 })) (o, rest) two.2 in
    let same = same_ok (record { track = three.0.0.0; segment = size; place = three.0.0.1 }) o three.0.1 rest three.2 in
    let begun = begin_same (suc (amount begin)) begin (Some track) begin [] two.0.1 three.0.1 three.0.0 three.1 in
    let opens = known_by track text one.0.1 two.0.1 three.0.1 size _ (ebml_same text one.0.1 one.1) two.1 begun.1 in
    (position_at begin begun.0, moved_open (salvage_known track text) _ o (position_at begin begun.0) three.0.1 rest same opens)

pub late_same : (text rest : List ℕ) (o : Opened) → late_read text ≡ Ok (o, rest) → (begun : ℕ) × (late_salvaged text ≡ Ok (record { opened = o; begun = begun; told = [] }, rest))
late_same text rest o is = on_track (track_read text) refl is
  where
    on_track : (x : Result (Track × List ℕ) Stop) → track_read text ≡ x → opened_with text x ≡ Ok (o, rest) → (begun : ℕ) × (late_salvaged text ≡ Ok (record { opened = o; begun = begun; told = [] }, rest))
    on_track (Ok p) found h =
        let known = known_same p.0 text rest o h in
        (known.0, ap (salvaged_with text) (track_found text p.1 p.0 found) ∙ known.1)
    on_track (Err why) found h = no_ok (o, rest) why h
