-- What a file that may be damaged opens as, and what plain reading says of the same bytes.
use Rattle.std.proofs.Common.{◌≡◌, ◌⊎◌, inl, inr, ◌∙◌, ◌==◌, ◌++◌, ◌∷◌, [], ℕ, suc, zero, List, Bool, true, false, if◌then◌else◌, nat_lt, length, drop, Option, Some, None, Result, Ok, Err, refl, ap, sym, append_assoc, append-nil}
use Rattle.ffv1_reads.specs.Reads.{Looked, Met, Reading, Short, Stop, given, passed, read_on, ◌>>=◌}
use Rattle.ffv1_reads.proofs.Results.{ok_is, read_on_ok}
use Rattle.ffv1_reads.specs.declared.fault.FileFault.{FileFault}
use Rattle.ffv1_reads.specs.declared.fault.FileFault.TheVariants as fault
use Rattle.ffv1_ebml.specs.Contents.{content_told}
use Rattle.ffv1_ebml.specs.Elements.{content_passed}
use Rattle.ffv1_ebml.specs.Tried.{outcome}
use Rattle.ffv1_ebml.specs.declared.element.Element.{Element}
use Rattle.ffv1_matroska.specs.Opened.{Opened, begin_up_to, begun_at, ebml, ebml_read, element_or_begun, element_passed, in_cluster, open_read, segment_opened, told, tracks, tracks_or_passed, tracks_read}
use Rattle.ffv1_matroska.specs.Opening.{content_kept, header_in, ident_read, segment_begun, segment_entered, top_size}
use Rattle.ffv1_matroska.specs.Places.{amount, ended, segment_at}
use Rattle.ffv1_matroska.specs.Salvaged.{Begun, Salvaged, content_salvaged, ebml_salvaged, element_salvaged, may_be_told, position_at, salvage_begun, salvage_or_begun, salvage_read, salvage_up_to, salvaged_as, segment_salvaged, sound_part, sum_fault, sum_told, told_more, told_then, tracks_or_salvaged, tracks_salvaged}
use Rattle.ffv1_matroska.specs.Segments.{cluster, header_read, is_filler, is_section}
use Rattle.ffv1_matroska.specs.Tracks.{Track, first_track, known_in, others_in, track_among, track_in, track_up_to, ◌>>?◌}
use Rattle.ffv1_matroska.specs.declared.place.Place.{Place}
use Rattle.ffv1_matroska.specs.declared.told.ToldFault.{ToldFault}

pub no_err : {X Y P : Type 0} (x : X) (why : Y) → ◌≡◌ {A = Result X Y} (Ok x) (Err why) → P
no_err x why e = absurd (cc)

pub no_ok : {X Y P : Type 0} (x : X) (why : Y) → ◌≡◌ {A = Result X Y} (Err why) (Ok x) → P
no_ok x why e = absurd (cc)

pub same_ok : {X : Type 0} (x y : X) (a b : List ℕ) → ◌≡◌ {A = Result (X × List ℕ) Stop} (Ok (x, a)) (Ok (y, b)) → (x ≡ y) × (a ≡ b)
same_ok {X = X} x y a b e = let same = ok_is (x, a) (y, b) e in (ap (λ (z : X × List ℕ). z.0) same, ap (λ (z : X × List ℕ). z.1) same)

pub same_met : {X : Type 0} (f g : FileFault) (a b : List ℕ) → ◌≡◌ {A = Result X Stop} (Err (Met f a)) (Err (Met g b)) → f ≡ g
same_met {X = X} f g a b e = let met : ◌≡◌ {A = Stop} (Met f a) (Met g b) = cc in cc

pub short_met : {X P : Type 0} (w : _) (f : FileFault) (a : List ℕ) → ◌≡◌ {A = Result X Stop} (Err (Short w)) (Err (Met f a)) → P
short_met {X = X} w f a e = absurd (let met : ◌≡◌ {A = Stop} (Short w) (Met f a) = cc in cc)

-- what readings in a row meet: the first one does, or the next one after a value
pub read_on_met : {X Y : Type 0} (z : Result (X × List ℕ) Stop) (k : X → Reading Y) (f : FileFault) (rest : List ℕ) → read_on z k ≡ Err (Met f rest) → (z ≡ Err (Met f rest)) ⊎ ((p : X × List ℕ) × (z ≡ Ok p) × (k p.0 p.1 ≡ Err (Met f rest)))
read_on_met (Ok p) k f rest h = inr (p, refl, h)
read_on_met {X = X} {Y = Y} (Err why) k f rest h = inl (let same : ◌≡◌ {A = Stop} why (Met f rest) = cc in ap (λ z. Err z) same)

-- ---- content in memory

first_ok : {X : Type 0} (r : Result (Unit {0}) FileFault) (k : Unit {0} → Result X FileFault) (x : X) → (r >>? k) ≡ Ok x → r ≡ Ok tt
first_ok (Ok tt) k x h = refl
first_ok (Err f) k x h = no_ok x f h

sum_right : (content : List ℕ) → content_told content ≡ Ok tt → (sound_part content ≡ content) × (sum_fault content ≡ None)
unfolding sound_part sum_fault
sum_right content is = rw is (refl, refl)

-- what it says begins with its sum: if it says something, nothing is told
abbrev pub BeginsWithSum : {X : Type 0} → (List ℕ → Result X FileFault) → Type 0
BeginsWithSum {X = X} says = (content : List ℕ) → (k : Unit {0} → Result X FileFault) × (says content ≡ (content_told content >>? k))

said : {X : Type 0} (says : List ℕ → Result X FileFault) → BeginsWithSum says → (content : List ℕ) (x : X) → says content ≡ Ok x → (sound_part content ≡ content) × (sum_fault content ≡ None)
said says begins content x is = let b = begins content in sum_right content (first_ok (content_told content) b.0 x (sym b.1 ∙ is))

-- if it has a fault, and says something without its sum, that is the fault
unsaid : {X : Type 0} (says : List ℕ → Result X FileFault) → BeginsWithSum says → (content : List ℕ) (f : FileFault) (x : X) → says content ≡ Err f → says (sound_part content) ≡ Ok x → (sum_fault content ≡ Some f) × (may_be_told f ≡ true)
unfolding sound_part sum_fault
unsaid {X = X} says begins content f x fails ok = on_sum (content_told content) refl
  where
    same_err : (g : FileFault) → content_told content ≡ Err g → g ≡ f
    same_err g is =
        let both : ◌≡◌ {A = Result X FileFault} (Err g) (Err f) = sym (ap (λ z. z >>? (begins content).0) is) ∙ sym (begins content).1 ∙ fails in
        cc

    on_sum : (r : Result (Unit {0}) FileFault) → content_told content ≡ r → (sum_fault content ≡ Some f) × (may_be_told f ≡ true)
    on_sum (Ok tt) is = no_err x f (sym (rw is at ok) ∙ fails)
    on_sum (Err fault.Checksum) is = let same = same_err fault.Checksum is in rw (is, ← same) (refl, refl)
    on_sum (Err g) is = no_err x f (sym (rw is at ok) ∙ fails)

pub header_begins : BeginsWithSum header_in
unfolding header_in
header_begins content = (_, refl)

pub track_begins : BeginsWithSum track_in
unfolding track_in first_track
track_begins content = (λ _. track_up_to (length content) content >>? λ track. Ok (track_among (known_in content) (others_in content) track), on_sum (content_told content))
  where
    on_sum : (r : Result (Unit {0}) FileFault) → ((r >>? λ _. track_up_to (length content) content) >>? λ track. Ok (track_among (known_in content) (others_in content) track))
        ≡ (r >>? λ _. (track_up_to (length content) content >>? λ track. Ok (track_among (known_in content) (others_in content) track)))
    on_sum (Ok u) = refl
    on_sum (Err f) = refl

-- ---- elements that are read plainly

abbrev sum_with : List ℕ → Track → Reading (Track × Option FileFault)
sum_with content track = given (track, sum_fault content)

abbrev found_with : Track × Option FileFault → Reading (Option Track × Option FileFault)
found_with p = given (Some p.0, p.1)

abbrev none_with : Option FileFault → Reading (Option Track × Option FileFault)
none_with f = given (None, f)

pub ebml_same : (text rest : List ℕ) → ebml_read text ≡ Ok (tt, rest) → ebml_salvaged text ≡ Ok (None, rest)
unfolding ebml_read ebml_salvaged
ebml_same text rest is =
    let one = read_on_ok (ident_read ebml text) (λ _. top_size >>= λ size. (content_kept size >>= λ content. told (header_in content))) (tt, rest) is in
    let two = read_on_ok (top_size one.0.1) (λ size. content_kept size >>= λ content. told (header_in content)) (tt, rest) one.2 in
    let three = read_on_ok (content_kept two.0.0 two.0.1) (λ content. told (header_in content)) (tt, rest) two.2 in
    rw (one.1, two.1, three.1) (on_said three.0.0 three.0.1 (header_in three.0.0) refl three.2)
  where
    on_said : (content more : List ℕ) (r : Result (Unit {0}) FileFault) → header_in content ≡ r → told r more ≡ Ok (tt, rest) → (told (header_in (sound_part content)) >>= λ _. given (sum_fault content)) more ≡ Ok (None, rest)
    on_said content more (Ok tt) says h =
        let right = said header_in header_begins content tt says in
        let same : more ≡ rest = (same_ok tt tt more rest h).1 in
        rw (right.0, right.1, says, same) refl
    on_said content more (Err f) says h = no_ok (tt, rest) (Met f more) h

tracks_same : (size : Option ℕ) (text rest : List ℕ) (track : Track) → tracks_read size text ≡ Ok (track, rest) → tracks_salvaged size text ≡ Ok ((track, None), rest)
unfolding tracks_read tracks_salvaged
tracks_same size text rest track is =
    let one = read_on_ok (content_kept size text) (λ content. told (track_in content)) (track, rest) is in
    rw one.1 (on_said one.0.0 one.0.1 (track_in one.0.0) refl one.2)
  where
    on_said : (content more : List ℕ) (r : Result Track FileFault) → track_in content ≡ r → told r more ≡ Ok (track, rest) → (told (track_in (sound_part content)) >>= sum_with content) more ≡ Ok ((track, None), rest)
    on_said content more (Ok t) says h =
        let right = said track_in track_begins content t says in
        let same = same_ok t track more rest h in
        rw (right.0, says, right.1, same.0, same.1) refl
    on_said content more (Err f) says h = no_ok (track, rest) (Met f more) h

element_same : (ident : ℕ) (size : Option ℕ) (text rest : List ℕ) → element_passed ident size text ≡ Ok (tt, rest) → element_salvaged ident size text ≡ Ok (None, rest)
unfolding element_passed element_salvaged content_salvaged
element_same ident None text rest is = no_ok (tt, rest) (Met fault.BadElement text) is
element_same ident (Some size) text rest is = on_section (is_section ident) (is_filler ident) is
  where
    on_section : (b c : Bool) → (if b then content_passed size else if c then passed size else (λ t. Err (Met fault.BadElement t))) text ≡ Ok (tt, rest) →
        (if b then (λ t. read_on (outcome (content_passed size t)) (λ r. told (sum_told r))) else (passed size >>= λ _. given (if c then None else Some fault.BadElement))) text ≡ Ok (None, rest)
    on_section true c h = rw h refl
    on_section false true h = rw h refl
    on_section false false h = no_ok (tt, rest) (Met fault.BadElement text) h

moved : (r : Result ((Option Track × Option FileFault) × List ℕ) Stop) (a b : Option Track) (x y : List ℕ) → (a ≡ b) × (x ≡ y) → r ≡ Ok ((a, None), x) → r ≡ Ok ((b, None), y)
moved r a b x y same h = rw (← same.0, ← same.1) h

pub visit_same : (found now : Option Track) (ident : ℕ) (size : Option ℕ) (text rest : List ℕ) → tracks_or_passed found ident size text ≡ Ok (now, rest) → tracks_or_salvaged found ident size text ≡ Ok ((now, None), rest)
visit_same (Some track) now ident size text rest is =
    let one = read_on_ok (element_passed ident size text) (λ _. given (Some track)) (now, rest) is in
    let same = same_ok (Some track) now one.0.1 rest one.2 in
    moved (tracks_or_salvaged (Some track) ident size text) (Some track) now one.0.1 rest same (rw (element_same ident size text one.0.1 one.1) refl)
visit_same None now ident size text rest is = on_tracks (ident == tracks) is
  where
    on_tracks : (b : Bool) → (if b then (tracks_read size >>= λ track. given (Some track)) else (element_passed ident size >>= λ _. given None)) text ≡ Ok (now, rest) →
        (if b then (tracks_salvaged size >>= found_with) else (element_salvaged ident size >>= none_with)) text ≡ Ok ((now, None), rest)
    on_tracks true h =
        let one = read_on_ok (tracks_read size text) (λ track. given (Some track)) (now, rest) h in
        let same = same_ok (Some one.0.0) now one.0.1 rest one.2 in
        moved ((tracks_salvaged size >>= found_with) text) (Some one.0.0) now one.0.1 rest same (rw (tracks_same size text one.0.1 one.0.0 one.1) refl)
    on_tracks false h =
        let one = read_on_ok (element_passed ident size text) (λ _. given None) (now, rest) h in
        let same = same_ok None now one.0.1 rest one.2 in
        moved ((element_salvaged ident size >>= none_with) text) None now one.0.1 rest same (rw (element_same ident size text one.0.1 one.1) refl)

-- a Segment that is read plainly
abbrev pub SameBegun : ℕ → Place → Option Track → Place → List ToldFault → List ℕ → Track × Place → List ℕ → Type 0
SameBegun k begin found here faults text p rest = (at : Place) × (salvage_up_to k begin found here faults text ≡ Ok (record { track = p.0; place = p.1; here = at; told = faults }, rest))

begun_same : (found : Option Track) (place at : Place) (faults : List ToldFault) (text rest : List ℕ) (p : Track × Place) → begun_at found place text ≡ Ok (p, rest) →
    salvage_begun found place at faults text ≡ Ok (record { track = p.0; place = p.1; here = at; told = faults }, rest)
unfolding begun_at salvage_begun
begun_same None place at faults text rest p is = no_ok (p, rest) (Met fault.NoTracks text) is
begun_same (Some track) place at faults text rest p is = let same = same_ok (track, place) p text rest is in rw (← same.0, same.1) refl

pub begin_same : (k : ℕ) (begin : Place) (found : Option Track) (here : Place) (faults : List ToldFault) (text rest : List ℕ) (p : Track × Place) → begin_up_to k found here text ≡ Ok (p, rest) → SameBegun k begin found here faults text p rest
unfolding begin_up_to salvage_up_to
begin_same zero begin found here faults text rest p is = no_ok (p, rest) (Met fault.NoTracks text) is
begin_same (suc k) begin found here faults text rest p is =
    let one = read_on_ok (header_read here text) (element_or_begun (begin_up_to k) found here) (p, rest) is in
    let next = on_element (λ now at more h. begin_same k begin now at faults more rest p h) one.0.0 one.0.1 one.2 in
    (next.0, ap (λ z. read_on z (salvage_or_begun (salvage_up_to k begin) begin found here faults)) one.1 ∙ next.1)
  where
    After : Option Element → List ℕ → Type 0
    After o more = (at : Place) × (salvage_or_begun (salvage_up_to k begin) begin found here faults o more ≡ Ok (record { track = p.0; place = p.1; here = at; told = faults }, rest))

    Again : Type 0
    Again = (now : Option Track) (at : Place) (more : List ℕ) → begin_up_to k now at more ≡ Ok (p, rest) → SameBegun k begin now at faults more p rest

    on_element : Again → (o : Option Element) (more : List ℕ) → element_or_begun (begin_up_to k) found here o more ≡ Ok (p, rest) → After o more
    on_element again None more h = (here, begun_same found ended here faults more rest p h)
    on_element again (Some e) more h = on_cluster (e.ident == cluster) refl
      where
        after : Place
        after = segment_at here false e.left

        on_cluster : (b : Bool) → (e.ident == cluster) ≡ b → After (Some e) more
        on_cluster true test = (in_cluster after e.size, rw test (begun_same found (in_cluster after e.size) (in_cluster after e.size) faults more rest p (rw test at h)))
        on_cluster false test =
            let visited = read_on_ok (tracks_or_passed found e.ident e.size more) (λ now. begin_up_to k now after) (p, rest) (rw test at h) in
            let later = again visited.0.0 after visited.0.1 visited.2 in
            (later.0, rw (test, visit_same found visited.0.0 e.ident e.size more visited.0.1 visited.1) later.1)

open_by : (text mid left rest : List ℕ) (size : Option ℕ) (b : Begun) → ebml_salvaged text ≡ Ok (None, mid) → segment_entered mid ≡ Ok (size, left) →
    salvage_up_to (suc (amount (segment_begun size))) (segment_begun size) None (segment_begun size) [] left ≡ Ok (b, rest) → salvage_read text ≡ Ok (salvaged_as size b, rest)
unfolding salvage_read
open_by text mid left rest size b one two three = rw (one, two, three) refl

pub moved_open : (r : Result (Salvaged × List ℕ) Stop) (a b : Opened) (begun : ℕ) (x y : List ℕ) → (a ≡ b) × (x ≡ y) → r ≡ Ok (record { opened = a; begun = begun; told = [] }, x) → r ≡ Ok (record { opened = b; begun = begun; told = [] }, y)
moved_open r a b begun x y same h = rw (← same.0, ← same.1) h

pub open_same : (text rest : List ℕ) (o : Opened) → open_read text ≡ Ok (o, rest) → (begun : ℕ) × (salvage_read text ≡ Ok (record { opened = o; begun = begun; told = [] }, rest))
unfolding open_read
open_same text rest o is =
    let one = read_on_ok (ebml_read text) (λ _. segment_entered >>= segment_opened) (o, rest) is in
    let two = read_on_ok (segment_entered one.0.1) segment_opened (o, rest) one.2 in
    let size = two.0.0 in
    let begin = segment_begun size in
    let three = read_on_ok (begin_up_to (suc (amount begin)) None begin two.0.1) (λ p. given (record { track = p.0; segment = size; place = p.1 })) (o, rest) two.2 in
    let same = same_ok (record { track = three.0.0.0; segment = size; place = three.0.0.1 }) o three.0.1 rest three.2 in
    let begun = begin_same (suc (amount begin)) begin None begin [] two.0.1 three.0.1 three.0.0 three.1 in
    let opens = open_by text one.0.1 two.0.1 three.0.1 size _ (ebml_same text one.0.1 one.1) two.1 begun.1 in
    (position_at begin begun.0, moved_open (salvage_read text) _ o (position_at begin begun.0) three.0.1 rest same opens)

-- ---- elements that have a fault plainly

told_met : {X : Type 0} (r : Result X FileFault) (text rest : List ℕ) (f : FileFault) → told r text ≡ Err (Met f rest) → r ≡ Err f
told_met (Ok x) text rest f h = no_err (x, text) (Met f rest) h
told_met {X = X} (Err g) text rest f h = ap (λ z. Err z) (same_met {X = X × List ℕ} g f text rest h)

told_read : {X : Type 0} (r : Result X FileFault) (x : X) (text rest : List ℕ) → told r text ≡ Ok (x, rest) → r ≡ Ok x
told_read (Ok y) x text rest h = ap (λ z. Ok z) (same_ok y x text rest h).0
told_read (Err g) x text rest h = no_ok (x, rest) (Met g text) h

told_left : {X : Type 0} (r : Result X FileFault) (x : X) (text rest : List ℕ) → told r text ≡ Ok (x, rest) → text ≡ rest
told_left (Ok y) x text rest h = (same_ok y x text rest h).1
told_left (Err g) x text rest h = no_ok (x, rest) (Met g text) h

-- the fault that is told of an element
abbrev IsTold : FileFault → Option FileFault → Type 0
IsTold f o = (o ≡ Some f) × (may_be_told f ≡ true)

ebml_fault : (text rest left : List ℕ) (f : FileFault) (o : Option FileFault) → ebml_read text ≡ Err (Met f rest) → ebml_salvaged text ≡ Ok (o, left) → IsTold f o
unfolding ebml_read ebml_salvaged
ebml_fault text rest left f o fails ok =
    let one = read_on_ok (ident_read ebml text) (λ _. top_size >>= λ size. (content_kept size >>= λ content. (told (header_in (sound_part content)) >>= λ _. given (sum_fault content)))) (o, left) ok in
    let two = read_on_ok (top_size one.0.1) (λ size. content_kept size >>= λ content. (told (header_in (sound_part content)) >>= λ _. given (sum_fault content))) (o, left) one.2 in
    let three = read_on_ok (content_kept two.0.0 two.0.1) (λ content. told (header_in (sound_part content)) >>= λ _. given (sum_fault content)) (o, left) two.2 in
    let four = read_on_ok (told (header_in (sound_part three.0.0)) three.0.1) (λ _. given (sum_fault three.0.0)) (o, left) three.2 in
    let same = same_ok (sum_fault three.0.0) o four.0.1 left four.2 in
    let here : told (header_in three.0.0) three.0.1 ≡ Err (Met f rest) =
    sym (ap (λ z. read_on z (λ _. top_size >>= λ size. (content_kept size >>= λ content. told (header_in content)))) one.1
    ∙ ap (λ z. read_on z (λ size. content_kept size >>= λ content. told (header_in content))) two.1
    ∙ ap (λ z. read_on z (λ content. told (header_in content))) three.1) ∙ fails in
    let why = told_met (header_in three.0.0) three.0.1 rest f here in
    let is = told_read (header_in (sound_part three.0.0)) four.0.0 three.0.1 four.0.1 four.1 in
    let first = unsaid header_in header_begins three.0.0 f four.0.0 why is in
    (sym same.0 ∙ first.0, first.1)

tracks_fault : (size : Option ℕ) (text rest left : List ℕ) (f : FileFault) (track : Track) (o : Option FileFault) → tracks_read size text ≡ Err (Met f rest) → tracks_salvaged size text ≡ Ok ((track, o), left) → IsTold f o
unfolding tracks_read tracks_salvaged
tracks_fault size text rest left f track o fails ok =
    let one = read_on_ok (content_kept size text) (λ content. told (track_in (sound_part content)) >>= sum_with content) ((track, o), left) ok in
    let two = read_on_ok (told (track_in (sound_part one.0.0)) one.0.1) (sum_with one.0.0) ((track, o), left) one.2 in
    let same = same_ok {X = Track × Option FileFault} (two.0.0, sum_fault one.0.0) (track, o) two.0.1 left two.2 in
    let sum : sum_fault one.0.0 ≡ o = ap (λ (z : Track × Option FileFault). z.1) same.0 in
    let here : told (track_in one.0.0) one.0.1 ≡ Err (Met f rest) = sym (ap (λ z. read_on z (λ content. told (track_in content))) one.1) ∙ fails in
    let why = told_met (track_in one.0.0) one.0.1 rest f here in
    let is = told_read (track_in (sound_part one.0.0)) two.0.0 one.0.1 two.0.1 two.1 in
    let first = unsaid track_in track_begins one.0.0 f two.0.0 why is in
    (sym sum ∙ first.0, first.1)

sum_met : (f : FileFault) (text left : List ℕ) (o : Option FileFault) → told (sum_told (Err f)) text ≡ Ok (o, left) → IsTold f o
sum_met fault.Checksum text left o h = (sym (same_ok (Some fault.Checksum) o text left h).0, refl)
sum_met f text left o h = no_ok (o, left) (Met f text) h

abbrev passed_by : Bool → ℕ → List ℕ → Result (Unit {0} × List ℕ) Stop
passed_by b n text = if b then Err (Short Looked) else Ok (tt, drop n text)

passed_none : {P : Type 0} (n : ℕ) (text rest : List ℕ) (f : FileFault) → passed n text ≡ Err (Met f rest) → P
passed_none {P = P} n text rest f h = on_test (nat_lt (length text) n) h
  where
    on_test : (b : Bool) → passed_by b n text ≡ Err (Met f rest) → P
    on_test true k = short_met {X = Unit {0} × List ℕ} Looked f rest k
    on_test false k = no_err (tt, drop n text) (Met f rest) k

element_fault : (ident : ℕ) (size : Option ℕ) (text rest left : List ℕ) (f : FileFault) (o : Option FileFault) → element_passed ident size text ≡ Err (Met f rest) → element_salvaged ident size text ≡ Ok (o, left) → IsTold f o
unfolding element_passed element_salvaged content_salvaged
element_fault ident None text rest left f o fails ok = no_ok (o, left) (Met fault.BadElement text) ok
element_fault ident (Some size) text rest left f o fails ok = on_section (is_section ident) (is_filler ident) fails ok
  where
    on_section : (b c : Bool) → (if b then content_passed size else if c then passed size else (λ t. Err (Met fault.BadElement t))) text ≡ Err (Met f rest) →
        (if b then (λ t. read_on (outcome (content_passed size t)) (λ r. told (sum_told r))) else (passed size >>= λ _. given (if c then None else Some fault.BadElement))) text ≡ Ok (o, left) → IsTold f o
    on_section true c h k = sum_met f rest left o (sym (ap (λ z. read_on (outcome z) (λ r. told (sum_told r))) h) ∙ k)
    on_section false true h k = passed_none size text rest f h
    on_section false false h k =
        let same : fault.BadElement ≡ f = same_met {X = Unit {0} × List ℕ} fault.BadElement f text rest h in
        let one = read_on_ok (passed size text) (λ _. given (Some fault.BadElement)) (o, left) k in
        (sym (same_ok (Some fault.BadElement) o one.0.1 left one.2).0 ∙ ap (λ z. Some z) same, rw (← same) refl)

made_met : {X Y : Type 0} (z : Result (X × List ℕ) Stop) (g : X → Y) (f : FileFault) (rest : List ℕ) → read_on z (λ x. given (g x)) ≡ Err (Met f rest) → z ≡ Err (Met f rest)
made_met (Ok p) g f rest h = no_err (g p.0, p.1) (Met f rest) h
made_met {X = X} {Y = Y} (Err why) g f rest h = let same : ◌≡◌ {A = Stop} why (Met f rest) = cc in ap (λ z. Err z) same

passed_fault : (found now : Option Track) (ident : ℕ) (size : Option ℕ) (text rest left : List ℕ) (f : FileFault) (o : Option FileFault) → (element_passed ident size >>= λ _. given found) text ≡ Err (Met f rest) → (element_salvaged ident size >>= λ g. given {X = Option Track × Option FileFault} (found, g)) text ≡ Ok ((now, o), left) → IsTold f o
passed_fault found now ident size text rest left f o fails ok =
    let one = read_on_ok (element_salvaged ident size text) (λ g. given {X = Option Track × Option FileFault} (found, g)) ((now, o), left) ok in
    let same = same_ok {X = Option Track × Option FileFault} (found, one.0.0) (now, o) one.0.1 left one.2 in
    let first = element_fault ident size text rest one.0.1 f one.0.0 (made_met (element_passed ident size text) (λ _. found) f rest fails) one.1 in
    (sym (ap (λ (z : Option Track × Option FileFault). z.1) same.0) ∙ first.0, first.1)

visit_fault : (found now : Option Track) (ident : ℕ) (size : Option ℕ) (text rest left : List ℕ) (f : FileFault) (o : Option FileFault) → tracks_or_passed found ident size text ≡ Err (Met f rest) → tracks_or_salvaged found ident size text ≡ Ok ((now, o), left) → IsTold f o
visit_fault (Some track) now ident size text rest left f o fails ok = passed_fault (Some track) now ident size text rest left f o fails ok
visit_fault None now ident size text rest left f o fails ok = on_tracks (ident == tracks) fails ok
  where
    on_tracks : (b : Bool) → (if b then (tracks_read size >>= λ track. given (Some track)) else (element_passed ident size >>= λ _. given None)) text ≡ Err (Met f rest) →
        (if b then (tracks_salvaged size >>= found_with) else (element_salvaged ident size >>= none_with)) text ≡ Ok ((now, o), left) → IsTold f o
    on_tracks true h k =
        let one = read_on_ok (tracks_salvaged size text) found_with ((now, o), left) k in
        let same = same_ok {X = Option Track × Option FileFault} (Some one.0.0.0, one.0.0.1) (now, o) one.0.1 left one.2 in
        let first = tracks_fault size text rest one.0.1 f one.0.0.0 one.0.0.1 (made_met (tracks_read size text) (λ track. Some track) f rest h) one.1 in
        (sym (ap (λ (z : Option Track × Option FileFault). z.1) same.0) ∙ first.0, first.1)
    on_tracks false h k = passed_fault None now ident size text rest left f o h k

-- ---- what is told comes after what was told before

more_given : (found : Option Track) (place at : Place) (faults : List ToldFault) (text rest : List ℕ) (b : Begun) → salvage_begun found place at faults text ≡ Ok (b, rest) → b.told ≡ faults
unfolding salvage_begun
more_given None place at faults text rest b is = no_ok (b, rest) (Met fault.NoTracks text) is
more_given (Some track) place at faults text rest b is = ap (λ (z : Begun). z.told) (sym (same_ok (record { track = track; place = place; here = at; told = faults }) b text rest is).0)

more_one : (faults now : List ToldFault) (o : Option FileFault) (position : Option ℕ) → told_more faults o position ≡ Ok now → (more : List ToldFault) × (now ≡ faults ++ more)
more_one faults now None position is = ([], (let same : faults ≡ now = cc in sym same) ∙ sym (append-nil faults))
more_one faults now (Some f) position is = on_test (nat_lt (length faults) 16) is
  where
    on_test : (b : Bool) → (if b then Ok (faults ++ (record { fault = f; position = position } ∷ [])) else Err f) ≡ Ok now → (more : List ToldFault) × (now ≡ faults ++ more)
    on_test true h = (record { fault = f; position = position } ∷ [], (let same : faults ++ (record { fault = f; position = position } ∷ []) ≡ now = cc in sym same))
    on_test false h = no_ok now f h

more_told : (k : ℕ) (begin : Place) (found : Option Track) (here : Place) (faults : List ToldFault) (text rest : List ℕ) (b : Begun) → salvage_up_to k begin found here faults text ≡ Ok (b, rest) → (more : List ToldFault) × (b.told ≡ faults ++ more)
unfolding salvage_up_to
more_told zero begin found here faults text rest b is = no_ok (b, rest) (Met fault.NoTracks text) is
more_told (suc k) begin found here faults text rest b is =
    let one = read_on_ok (header_read here text) (salvage_or_begun (salvage_up_to k begin) begin found here faults) (b, rest) is in
    on_element (λ now at told more h. more_told k begin now at told more rest b h) one.0.0 one.0.1 one.2
  where
    Again : Type 0
    Again = (now : Option Track) (at : Place) (told : List ToldFault) (more : List ℕ) → salvage_up_to k begin now at told more ≡ Ok (b, rest) → (others : List ToldFault) × (b.told ≡ told ++ others)

    on_element : Again → (o : Option Element) (more : List ℕ) → salvage_or_begun (salvage_up_to k begin) begin found here faults o more ≡ Ok (b, rest) → (others : List ToldFault) × (b.told ≡ faults ++ others)
    on_element again None more h = ([], more_given found ended here faults more rest b h ∙ sym (append-nil faults))
    on_element again (Some e) more h = on_cluster (e.ident == cluster) refl
      where
        after : Place
        after = segment_at here false e.left

        on_cluster : (c : Bool) → (e.ident == cluster) ≡ c → (others : List ToldFault) × (b.told ≡ faults ++ others)
        on_cluster true test = ([], more_given found (in_cluster after e.size) (in_cluster after e.size) faults more rest b (rw test at h) ∙ sym (append-nil faults))
        on_cluster false test =
            let visited = read_on_ok (tracks_or_salvaged found e.ident e.size more) (told_then (salvage_up_to k begin) after (position_at begin here) faults) (b, rest) (rw test at h) in
            let kept = read_on_ok (told (told_more faults visited.0.0.1 (Some (position_at begin here))) visited.0.1) (λ now. salvage_up_to k begin visited.0.0.0 after now) (b, rest) visited.2 in
            let one = more_one faults kept.0.0 visited.0.0.1 (Some (position_at begin here)) (told_read (told_more faults visited.0.0.1 (Some (position_at begin here))) kept.0.0 visited.0.1 kept.0.1 kept.1) in
            let later = again visited.0.0.0 after kept.0.0 kept.0.1 kept.2 in
            (one.0 ++ later.0, later.1 ∙ ap (λ z. z ++ later.0) one.1 ∙ append_assoc faults one.0 later.0)

-- ---- the first fault

-- this is the first that is told after these
pub record FirstTold (f : FileFault) (faults all : List ToldFault) : Type 0 where
  pub position : Option ℕ
  pub others : List ToldFault
  pub told : all ≡ faults ++ (record { fault = f; position = position } ∷ others)
  pub may : may_be_told f ≡ true

told_next : (faults now : List ToldFault) (f : FileFault) (position : Option ℕ) → told_more faults (Some f) position ≡ Ok now → now ≡ faults ++ (record { fault = f; position = position } ∷ [])
told_next faults now f position is = on_test (nat_lt (length faults) 16) is
  where
    on_test : (b : Bool) → (if b then Ok (faults ++ (record { fault = f; position = position } ∷ [])) else Err f) ≡ Ok now → now ≡ faults ++ (record { fault = f; position = position } ∷ [])
    on_test true h = let same : faults ++ (record { fault = f; position = position } ∷ []) ≡ now = cc in sym same
    on_test false h = no_ok now f h

given_fault : {P : Type 0} (found : Option Track) (place at : Place) (faults : List ToldFault) (text rest left : List ℕ) (f : FileFault) (b : Begun) → begun_at found place text ≡ Err (Met f rest) → salvage_begun found place at faults text ≡ Ok (b, left) → P
unfolding begun_at salvage_begun
given_fault None place at faults text rest left f b fails ok = no_ok (b, left) (Met fault.NoTracks text) ok
given_fault (Some track) place at faults text rest left f b fails ok = no_err ((track, place), text) (Met f rest) fails

begin_fault : (k : ℕ) (begin : Place) (found : Option Track) (here : Place) (faults : List ToldFault) (text rest left : List ℕ) (f : FileFault) (b : Begun) → begin_up_to k found here text ≡ Err (Met f rest) → salvage_up_to k begin found here faults text ≡ Ok (b, left) → FirstTold f faults b.told
unfolding begin_up_to salvage_up_to
begin_fault zero begin found here faults text rest left f b fails ok = no_ok (b, left) (Met fault.NoTracks text) ok
begin_fault (suc k) begin found here faults text rest left f b fails ok =
    let one = read_on_ok (header_read here text) (salvage_or_begun (salvage_up_to k begin) begin found here faults) (b, left) ok in
    on_element (λ now at more h. begin_fault k begin now at faults more rest left f b h) one.0.0 one.0.1 (sym (ap (λ z. read_on z (element_or_begun (begin_up_to k) found here)) one.1) ∙ fails) one.2
  where
    Again : Type 0
    Again = (now : Option Track) (at : Place) (more : List ℕ) → begin_up_to k now at more ≡ Err (Met f rest) → salvage_up_to k begin now at faults more ≡ Ok (b, left) → FirstTold f faults b.told

    on_element : Again → (o : Option Element) (more : List ℕ) → element_or_begun (begin_up_to k) found here o more ≡ Err (Met f rest) → salvage_or_begun (salvage_up_to k begin) begin found here faults o more ≡ Ok (b, left) → FirstTold f faults b.told
    on_element again None more h j = given_fault found ended here faults more rest left f b h j
    on_element again (Some e) more h j = on_cluster (e.ident == cluster) refl
      where
        after : Place
        after = segment_at here false e.left

        position : Option ℕ
        position = Some (position_at begin here)

        on_visit : (visited : (Option Track × Option FileFault) × List ℕ) → tracks_or_salvaged found e.ident e.size more ≡ Ok visited → (kept : List ToldFault × List ℕ) → told (told_more faults visited.0.1 position) visited.1 ≡ Ok kept → salvage_up_to k begin visited.0.0 after kept.0 kept.1 ≡ Ok (b, left) →
            (z : Result (Option Track × List ℕ) Stop) → tracks_or_passed found e.ident e.size more ≡ z → read_on z (λ now. begin_up_to k now after) ≡ Err (Met f rest) → FirstTold f faults b.told
        on_visit visited is kept told_is goes (Ok p) plain again_fails =
            let same = same_ok {X = Option Track × Option FileFault} (p.0, None) visited.0 p.1 visited.1 (sym (visit_same found p.0 e.ident e.size more p.1 plain) ∙ is) in
            let none : None ≡ visited.0.1 = ap (λ (z : Option Track × Option FileFault). z.1) same.0 in
            let found_is : p.0 ≡ visited.0.0 = ap (λ (z : Option Track × Option FileFault). z.0) same.0 in
            let kept_is = told_read (told_more faults visited.0.1 position) kept.0 visited.1 kept.1 told_is in
            let faults_are : ◌≡◌ {A = Result (List ToldFault) FileFault} (Ok faults) (Ok kept.0) = ap (λ z. told_more faults z position) none ∙ kept_is in
            let faults_is : faults ≡ kept.0 = cc in
            let bytes_is : visited.1 ≡ kept.1 = told_left (told_more faults visited.0.1 position) kept.0 visited.1 kept.1 told_is in
            again p.0 after p.1 again_fails (rw (found_is, same.1, bytes_is, faults_is) goes)
        on_visit visited is kept told_is goes (Err (Met g more_left)) plain again_fails =
            let why : g ≡ f = same_met {X = (Track × Place) × List ℕ} g f more_left rest again_fails in
            let first = visit_fault found visited.0.0 e.ident e.size more more_left visited.1 g visited.0.1 plain is in
            let kept_is = told_read (told_more faults visited.0.1 position) kept.0 visited.1 kept.1 told_is in
            let one = told_next faults kept.0 g position (sym (ap (λ z. told_more faults z position) first.0) ∙ kept_is) in
            let later = more_told k begin visited.0.0 after kept.0 kept.1 left b goes in
            record {
              position = position;
              others = later.0;
              told = later.1 ∙ ap (λ z. z ++ later.0) one ∙ append_assoc faults (record { fault = g; position = position } ∷ []) later.0 ∙ ap (λ z. faults ++ (record { fault = z; position = position } ∷ later.0)) why;
              may = rw (← why) first.1;
            }
        on_visit visited is kept told_is goes (Err (Short w)) plain again_fails = short_met {X = (Track × Place) × List ℕ} w f rest again_fails

        on_cluster : (c : Bool) → (e.ident == cluster) ≡ c → FirstTold f faults b.told
        on_cluster true test = given_fault found (in_cluster after e.size) (in_cluster after e.size) faults more rest left f b (rw test at h) (rw test at j)
        on_cluster false test =
            let visited = read_on_ok (tracks_or_salvaged found e.ident e.size more) (told_then (salvage_up_to k begin) after (position_at begin here) faults) (b, left) (rw test at j) in
            let kept = read_on_ok (told (told_more faults visited.0.0.1 position) visited.0.1) (λ now. salvage_up_to k begin visited.0.0.0 after now) (b, left) visited.2 in
            on_visit visited.0 visited.1 kept.0 kept.1 kept.2 (tracks_or_passed found e.ident e.size more) refl (rw test at h)

pub open_fault : (text rest left : List ℕ) (f : FileFault) (s : Salvaged) → open_read text ≡ Err (Met f rest) → salvage_read text ≡ Ok (s, left) → FirstTold f [] s.told
unfolding open_read salvage_read
open_fault text rest left f s fails ok =
    let one = read_on_ok (ebml_salvaged text) (λ o. told (told_more [] o None) >>= λ faults. (segment_entered >>= segment_salvaged faults)) (s, left) ok in
    let two = read_on_ok (told (told_more [] one.0.0 None) one.0.1) (λ faults. segment_entered >>= segment_salvaged faults) (s, left) one.2 in
    let three = read_on_ok (segment_entered two.0.1) (segment_salvaged two.0.0) (s, left) two.2 in
    let begin = segment_begun three.0.0 in
    let four = read_on_ok (salvage_up_to (suc (amount begin)) begin None begin two.0.0 three.0.1) (λ b. given (salvaged_as three.0.0 b)) (s, left) three.2 in
    let same = (same_ok (salvaged_as three.0.0 four.0.0) s four.0.1 left four.2).0 in
    let kept = told_read (told_more [] one.0.0 None) two.0.0 one.0.1 two.0.1 two.1 in
    let bytes = told_left (told_more [] one.0.0 None) two.0.0 one.0.1 two.0.1 two.1 in
    on_ebml one.0.0 one.0.1 one.1 two.0.0 two.0.1 kept bytes three.0.0 three.0.1 three.1 four.0.0 four.0.1 four.1 (ap (λ (z : Salvaged). z.told) same) (ebml_read text) refl fails
  where
    on_ebml : (o : Option FileFault) (mid : List ℕ) → ebml_salvaged text ≡ Ok (o, mid) → (faults : List ToldFault) (next : List ℕ) → told_more [] o None ≡ Ok faults → mid ≡ next → (size : Option ℕ) (more : List ℕ) → segment_entered next ≡ Ok (size, more) →
        (b : Begun) (end : List ℕ) → salvage_up_to (suc (amount (segment_begun size))) (segment_begun size) None (segment_begun size) faults more ≡ Ok (b, end) → b.told ≡ s.told →
        (z : Result (Unit {0} × List ℕ) Stop) → ebml_read text ≡ z → read_on z (λ _. segment_entered >>= segment_opened) ≡ Err (Met f rest) → FirstTold f [] s.told
    on_ebml o mid is faults next kept bytes size more entered b end goes all (Ok p) plain h =
        let same = same_ok None o p.1 mid (sym (ebml_same text p.1 plain) ∙ is) in
        let none : ◌≡◌ {A = Result (List ToldFault) FileFault} (Ok []) (Ok faults) = ap (λ z. told_more [] z None) same.0 ∙ kept in
        let faults_is : [] ≡ faults = cc in
        let opened : segment_opened size more ≡ Err (Met f rest) = sym (ap (λ z. read_on z segment_opened) (ap segment_entered (same.1 ∙ bytes) ∙ entered)) ∙ h in
        let begins = made_met (begin_up_to (suc (amount (segment_begun size))) None (segment_begun size) more) (λ q. record { track = q.0; segment = size; place = q.1 }) f rest opened in
        let first = begin_fault (suc (amount (segment_begun size))) (segment_begun size) None (segment_begun size) faults more rest end f b begins goes in
        record { position = first.position; others = first.others; told = sym all ∙ first.told ∙ ap (λ z. z ++ (record { fault = f; position = first.position } ∷ first.others)) (sym faults_is); may = first.may }
    on_ebml o mid is faults next kept bytes size more entered b end goes all (Err (Met g ebml_left)) plain h =
        let why : g ≡ f = same_met {X = Opened × List ℕ} g f ebml_left rest h in
        let first = ebml_fault text ebml_left mid g o plain is in
        let one = told_next [] faults g None (sym (ap (λ z. told_more [] z None) first.0) ∙ kept) in
        let later = more_told (suc (amount (segment_begun size))) (segment_begun size) None (segment_begun size) faults more end b goes in
        record {
          position = None;
          others = later.0;
          told = sym all ∙ later.1 ∙ ap (λ z. z ++ later.0) one ∙ ap (λ z. record { fault = z; position = None } ∷ later.0) why;
          may = rw (← why) first.1;
        }
    on_ebml o mid is faults next kept bytes size more entered b end goes all (Err (Short w)) plain h = short_met {X = Opened × List ℕ} w f rest h
