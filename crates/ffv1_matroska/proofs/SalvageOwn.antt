-- The faults with which a file that may be damaged is refused, whatever the file.
use Rattle.std.proofs.Common.{◌≡◌, ◌⊎◌, ◌==◌, ◌++◌, ◌∷◌, [], ℕ, suc, zero, List, Bool, true, false, if◌then◌else◌, nat_lt, length, Option, Some, None, Result, Ok, Err, IfSome, inl, inr, refl, subst}
use Rattle.ffv1_reads.specs.Ends.{RefusedOrFaults}
use Rattle.ffv1_reads.specs.Reads.{Met, Reading, Short, Stop, given, passed, read_on, refused, ◌>>=◌}
use Rattle.ffv1_reads.specs.declared.fault.FileFault.{FileFault}
use Rattle.ffv1_reads.specs.declared.fault.FileFault.TheVariants as fault
use Rattle.ffv1_reads.proofs.Made.{Made, made_meets, made_passed}
use Rattle.ffv1_reads.proofs.Results.{read_on_ok}
use Rattle.ffv1_ebml.specs.Contents.{content_told}
use Rattle.ffv1_ebml.specs.Elements.{content_passed}
use Rattle.ffv1_ebml.specs.Tried.{outcome}
use Rattle.ffv1_ebml.specs.declared.element.Element.{Element}
use Rattle.ffv1_ebml.proofs.MadeElements.{of_content}
use Rattle.ffv1_matroska.specs.Opened.{ebml, in_cluster, told, tracks}
use Rattle.ffv1_matroska.specs.Opening.{content_kept, header_in, ident_read, segment_begun, segment_entered, top_size}
use Rattle.ffv1_matroska.specs.Places.{amount, ended, segment_at}
use Rattle.ffv1_matroska.specs.Readers.{is_opening_fault}
use Rattle.ffv1_matroska.specs.Salvaged.{NeverBegins, content_salvaged, ebml_salvaged, element_salvaged, may_be_told, position_at, salvage_begun, salvage_or_begun, salvage_read, salvage_up_to, salvaged_as, segment_salvaged, sound_part, sum_fault, sum_told, told_more, told_then, tracks_or_salvaged, tracks_salvaged}
use Rattle.ffv1_matroska.specs.Segments.{cluster, header_read, is_filler, is_section}
use Rattle.ffv1_matroska.specs.Tracks.{Track, track_in}
use Rattle.ffv1_matroska.specs.declared.place.Place.{Place}
use Rattle.ffv1_matroska.specs.declared.told.ToldFault.{ToldFault}
use Rattle.ffv1_matroska.proofs.MemoryFaults.{told_header, told_track}
use Rattle.ffv1_matroska.proofs.OpeningFaults.{basic, met_are_own, of_entered, of_ident, of_kept, of_size, of_told}
use Rattle.ffv1_matroska.proofs.ReadingFaults.{of_header}
use Rattle.ffv1_matroska.proofs.SalvageLaws.{no_err, no_ok, read_on_met, same_met, same_ok, short_met}

-- a reading meets these alone, and what it gives has this property
pub record Owns {X : Type 0} (Q : X → Type 0) (r : Reading X) : Type 0 where
  pub meets : (text rest : List ℕ) (f : FileFault) → r text ≡ Err (Met f rest) → is_opening_fault f ≡ true
  pub gives : (text rest : List ℕ) (x : X) → r text ≡ Ok (x, rest) → Q x

abbrev pub Whatever : {X : Type 0} → X → Type 0
Whatever x = Unit {0}

pub owns_made : {X : Type 0} {r : Reading X} → Made is_opening_fault true r → Owns Whatever r
owns_made made = record { meets = λ text rest f is. made_meets made text rest f is; gives = λ text rest x is. tt }

pub owns_given : {X : Type 0} {Q : X → Type 0} (x : X) → Q x → Owns Q (given x)
owns_given {X = X} {Q = Q} x h = record {
  meets = λ text rest f is. no_err (x, text) (Met f rest) is;
  gives = λ text rest y is. subst Q (same_ok x y text rest is).0 h;
}

pub owns_refused : {X : Type 0} {Q : X → Type 0} (f : FileFault) → is_opening_fault f ≡ true → Owns Q (refused {X = X} f)
owns_refused {X = X} f own = record {
  meets = λ text rest g is. subst (λ z. is_opening_fault z ≡ true) (same_met {X = X × List ℕ} f g text rest is) own;
  gives = λ text rest y is. no_ok (y, rest) (Met f text) is;
}

pub owns_then : {X Y : Type 0} {Q : X → Type 0} {P : Y → Type 0} (r : Reading X) (k : X → Reading Y) → Owns Q r → ((x : X) → Q x → Owns P (k x)) → Owns P (r >>= k)
owns_then {X = X} {Y = Y} {P = P} r k first next = record { meets = λ text rest f is. on_first text rest f (read_on_met (r text) k f rest is); gives = λ text rest y is. on_ok text rest y (read_on_ok (r text) k (y, rest) is) }
  where
    on_first : (text rest : List ℕ) (f : FileFault) → (r text ≡ Err (Met f rest)) ⊎ ((p : X × List ℕ) × (r text ≡ Ok p) × (k p.0 p.1 ≡ Err (Met f rest))) → is_opening_fault f ≡ true
    on_first text rest f (inl met) = first.meets text rest f met
    on_first text rest f (inr (p, one, two)) = (next p.0 (first.gives text p.1 p.0 one)).meets p.1 rest f two

    on_ok : (text rest : List ℕ) (y : Y) → (p : X × List ℕ) × (r text ≡ Ok p) × (k p.0 p.1 ≡ Ok (y, rest)) → P y
    on_ok text rest y (p, one, two) = (next p.0 (first.gives text p.1 p.0 one)).gives p.1 rest y two

pub owns_if : {X : Type 0} {Q : X → Type 0} (b : Bool) (r s : Reading X) → Owns Q r → Owns Q s → Owns Q (if b then r else s)
owns_if true r s one two = one
owns_if false r s one two = two

-- ---- what may be told

abbrev pub MayTell : Option FileFault → Type 0
MayTell o = IfSome o (λ f. may_be_told f ≡ true)

told_own : (f : FileFault) → may_be_told f ≡ true → is_opening_fault f ≡ true
told_own fault.Checksum may = refl
told_own fault.BadElement may = refl
told_own f may = absurd (cc)

sum_may : (content : List ℕ) → MayTell (sum_fault content)
unfolding sum_fault
sum_may content = on_sum (content_told content) refl
  where
    on_sum : (r : Result (Unit {0}) FileFault) → content_told content ≡ r → MayTell (sum_fault content)
    on_sum (Ok u) is = rw is tt
    on_sum (Err fault.Checksum) is = rw is refl
    on_sum (Err f) is = rw is tt

pub more_owns : (faults : List ToldFault) (o : Option FileFault) (position : Option ℕ) → MayTell o → Owns Whatever (told (told_more faults o position))
more_owns faults None position may = owns_given faults tt
more_owns faults (Some f) position may = on_test (nat_lt (length faults) 16) refl
  where
    on_test : (b : Bool) → nat_lt (length faults) 16 ≡ b → Owns Whatever (told (told_more faults (Some f) position))
    on_test true test = rw test (owns_given (faults ++ (record { fault = f; position = position } ∷ [])) tt)
    on_test false test = rw test (owns_refused f (told_own f may))

-- ---- elements

pub ebml_owns : Owns MayTell ebml_salvaged
unfolding ebml_salvaged
ebml_owns =
    owns_then (ident_read ebml) _ (owns_made (of_ident ebml)) (λ u _. owns_then top_size _ (owns_made of_size) (λ size _. owns_then (content_kept size) _ (owns_made (of_kept size)) (λ content _.
    owns_then (told (header_in (sound_part content))) _ (owns_made (of_told (header_in (sound_part content)) (told_header (sound_part content)))) (λ v _. owns_given (sum_fault content) (sum_may content)))))

pub tracks_owns : (size : Option ℕ) → Owns (λ (p : Track × Option FileFault). MayTell p.1) (tracks_salvaged size)
unfolding tracks_salvaged
tracks_owns size =
    owns_then (content_kept size) _ (owns_made (of_kept size)) (λ content _.
    owns_then (told (track_in (sound_part content))) _ (owns_made (of_told (track_in (sound_part content)) (told_track (sound_part content)))) (λ track _. owns_given (track, sum_fault content) (sum_may content)))

content_owns : (size : ℕ) → Owns MayTell (content_salvaged size)
unfolding content_salvaged
content_owns size = record { meets = λ text rest f is. on_met text rest f (content_passed size text) refl is; gives = λ text rest o is. on_ok text rest o (content_passed size text) is }
  where
    own : (text rest : List ℕ) (f : FileFault) → content_passed size text ≡ Err (Met f rest) → is_opening_fault f ≡ true
    own text rest f is = made_meets (of_content {ends = true} basic size) text rest f is

    on_met : (text rest : List ℕ) (f : FileFault) (z : Result (Unit {0} × List ℕ) Stop) → content_passed size text ≡ z → read_on (outcome z) (λ r. told (sum_told r)) ≡ Err (Met f rest) → is_opening_fault f ≡ true
    on_met text rest f (Ok (u, left)) passed h = no_err {X = Option FileFault × List ℕ} (None, left) (Met f rest) h
    on_met text rest f (Err (Met fault.Checksum left)) passed h = no_err {X = Option FileFault × List ℕ} (Some fault.Checksum, left) (Met f rest) h
    on_met text rest f (Err (Met g left)) passed h = subst (λ z. is_opening_fault z ≡ true) (same_met {X = Option FileFault × List ℕ} g f left rest h) (own text left g passed)
    on_met text rest f (Err (Short w)) passed h = short_met {X = Option FileFault × List ℕ} w f rest h

    on_ok : (text rest : List ℕ) (o : Option FileFault) (z : Result (Unit {0} × List ℕ) Stop) → read_on (outcome z) (λ r. told (sum_told r)) ≡ Ok (o, rest) → MayTell o
    on_ok text rest o (Ok (u, left)) h = subst MayTell (same_ok None o left rest h).0 tt
    on_ok text rest o (Err (Met fault.Checksum left)) h = subst MayTell (same_ok (Some fault.Checksum) o left rest h).0 refl
    on_ok text rest o (Err (Met g left)) h = no_ok (o, rest) (Met g left) h
    on_ok text rest o (Err (Short w)) h = no_ok (o, rest) (Short w) h

place_may : (b : Bool) → MayTell (if b then None else Some fault.BadElement)
place_may true = tt
place_may false = refl

pub element_owns : (ident : ℕ) (size : Option ℕ) → Owns MayTell (element_salvaged ident size)
unfolding element_salvaged
element_owns ident None = owns_refused fault.BadElement refl
element_owns ident (Some size) =
    owns_if (is_section ident) (content_salvaged size) _ (content_owns size)
    (owns_then (passed size) _ (owns_made (made_passed size)) (λ u _. owns_given (if is_filler ident then None else Some fault.BadElement) (place_may (is_filler ident))))

abbrev MayTellToo : Option Track × Option FileFault → Type 0
MayTellToo p = MayTell p.1

visit_owns : (found : Option Track) (ident : ℕ) (size : Option ℕ) → Owns MayTellToo (tracks_or_salvaged found ident size)
visit_owns None ident size =
    owns_if (ident == tracks) _ _ (owns_then (tracks_salvaged size) _ (tracks_owns size) (λ p may. owns_given (Some p.0, p.1) may))
    (owns_then (element_salvaged ident size) _ (element_owns ident size) (λ f may. owns_given (None, f) may))
visit_owns (Some track) ident size = owns_then (element_salvaged ident size) _ (element_owns ident size) (λ f may. owns_given (Some track, f) may)

-- ---- the Segment

begun_owns : (found : Option Track) (place here : Place) (faults : List ToldFault) → Owns Whatever (salvage_begun found place here faults)
unfolding salvage_begun
begun_owns None place here faults = owns_refused fault.NoTracks refl
begun_owns (Some track) place here faults = owns_given _ tt

pub up_to_owns : (k : ℕ) (begin : Place) (found : Option Track) (here : Place) (faults : List ToldFault) → Owns Whatever (salvage_up_to k begin found here faults)
unfolding salvage_up_to
up_to_owns zero begin found here faults = owns_refused fault.NoTracks refl
up_to_owns (suc k) begin found here faults = owns_then (header_read here) (salvage_or_begun (salvage_up_to k begin) begin found here faults) (owns_made (of_header basic here)) (λ o _. on_header (λ now at more. up_to_owns k begin now at more) o)
  where
    on_header : ((now : Option Track) (at : Place) (more : List ToldFault) → Owns Whatever (salvage_up_to k begin now at more)) → (o : Option Element) → Owns Whatever (salvage_or_begun (salvage_up_to k begin) begin found here faults o)
    on_header again None = begun_owns found ended here faults
    on_header again (Some e) =
        owns_if (e.ident == cluster) _ _ (begun_owns found (in_cluster (segment_at here false e.left) e.size) (in_cluster (segment_at here false e.left) e.size) faults)
        (owns_then (tracks_or_salvaged found e.ident e.size) (told_then (salvage_up_to k begin) (segment_at here false e.left) (position_at begin here) faults) (visit_owns found e.ident e.size)
        (λ p may. owns_then (told (told_more faults p.1 (Some (position_at begin here)))) _ (more_owns faults p.1 (Some (position_at begin here)) may) (λ now _. again p.0 (segment_at here false e.left) now)))

-- ---- a file

file_owns : Owns Whatever salvage_read
unfolding salvage_read
file_owns =
    owns_then ebml_salvaged _ ebml_owns (λ f may. owns_then (told (told_more [] f None)) _ (more_owns [] f None may) (λ faults _. owns_then segment_entered (segment_salvaged faults) (owns_made of_entered) (λ size _.
    owns_then (salvage_up_to (suc (amount (segment_begun size))) (segment_begun size) None (segment_begun size) faults) _ (up_to_owns (suc (amount (segment_begun size))) (segment_begun size) None (segment_begun size) faults) (λ b _. owns_given (salvaged_as size b) tt))))

pub salvage_own : (old new : Option (List ℕ)) (before after : ℕ) (f : FileFault) → RefusedOrFaults fault.NoTracks NeverBegins salvage_read old new before after f → is_opening_fault f ≡ true
salvage_own old new before after f why = met_are_own NeverBegins (λ text rest g is. file_owns.meets text rest g is) old new before after f why
