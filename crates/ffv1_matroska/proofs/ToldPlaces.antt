-- The first fault that is told is that of the element at which plain reading is refused.
use Rattle.std.proofs.Common.{◌≡◌, ◌∙◌, ◌+◌, ◌-◌, ◌^◌, ◌≤◌, ◌<◌, ◌==◌, ◌++◌, ◌∷◌, [], ℕ, suc, zero, min, List, Bool, true, false, length, Option, Some, None, Result, Ok, Err, inl, refl, ap, sym, subst, arith, append_assoc, length-append}
use Rattle.ffv1_reads.specs.Offsets.{FaultAt, all_bytes}
use Rattle.ffv1_reads.specs.Reads.{Met, Read, Reading, Stop, given, read_on}
use Rattle.ffv1_reads.proofs.Made.{Uses, made_local}
use Rattle.ffv1_reads.proofs.Results.{ok_is, read_on_ok}
use Rattle.ffv1_reads.specs.declared.fault.FileFault.{FileFault}
use Rattle.ffv1_ebml.specs.declared.element.Element.{Element}
use Rattle.ffv1_matroska.specs.Offsets.{BeforeSegment, InSegment, Start, spot_behind, spot_taken}
use Rattle.ffv1_matroska.specs.Opened.{ebml_read, tracks_or_passed}
use Rattle.ffv1_matroska.specs.Opening.{most_elements, root_or_on, root_read, segment_begun, segment_entered, segment_up_to}
use Rattle.ffv1_matroska.specs.Places.{amount, segment_at}
use Rattle.ffv1_matroska.specs.SalvageTold.{StandsAfter, ebml_kept, element_fault, element_told, kept_fault, more_or, read_or, segment_told, told_before, told_too, told_up_to, visited_told}
use Rattle.ffv1_matroska.specs.Salvaged.{data_at, ebml_salvaged, position_at, told_more, tracks_or_salvaged}
use Rattle.ffv1_matroska.specs.Segments.{cluster, header_read}
use Rattle.ffv1_matroska.specs.Tracks.{Track}
use Rattle.ffv1_matroska.specs.declared.place.Place.{Place}
use Rattle.ffv1_matroska.specs.declared.told.ToldFault.{ToldFault}
use Rattle.ffv1_matroska.proofs.OpeningFaults.{basic, of_ebml, of_root, of_visit}
use Rattle.ffv1_matroska.proofs.SalvagedTold.{Alike, Goes, Pends, Sound, Visited, alone, ebml_visited, segment_grows, told_grows, visit_visited, with_found}
use Rattle.ffv1_matroska.proofs.ElementTaken.{header_takes}
use Rattle.ffv1_matroska.proofs.PartLaws.{header_there}
use Rattle.ffv1_matroska.proofs.StepBounds.{header_leaves}
use Rattle.ffv1_matroska.proofs.SpotReadings.{begun_flat, header_left, spot_read}
use Rattle.ffv1_ebml.proofs.MadeElements.{of_some_element}

-- ---- elements of given bytes

module _ {S : Type 0} (element : S → Reading S) where
  -- the next one has the fault
  pub fault_now : (from : S) (text after : List ℕ) (f : FileFault) → element from text ≡ Err (Met f after) → FaultAt element from text f 0
  fault_now from text after f is = record { elements = []; rest = text; to = from; leads = refl; text_is = refl; counted = refl; fault_is = inl (after, is) }

  -- one is read whole before it
  pub fault_after : (from next : S) (bytes text left : List ℕ) (f : FileFault) (count : ℕ) → text ≡ bytes ++ left → ((more : List ℕ) → element from (bytes ++ more) ≡ Ok (next, more)) → FaultAt element next left f count → FaultAt element from text f (length bytes + count)
  fault_after from next bytes text left f count is whole h =
      record {
        elements = bytes ∷ h.elements;
        rest = h.rest;
        to = h.to;
        leads = (next, whole, h.leads);
        text_is = is ∙ ap (λ z. bytes ++ z) h.text_is ∙ sym (append_assoc bytes (all_bytes h.elements) h.rest);
        counted = length-append bytes (all_bytes h.elements) ∙ ap (λ n. length bytes + n) h.counted;
        fault_is = h.fault_is;
      }

-- what was read of given bytes
read_used : {X : Type 0} (r : Reading X) (text rest : List ℕ) (x : X) (u : Uses r text x rest) → Read r (Some text) (Some rest) x
read_used r text rest x u = record { bytes = u.used; consumed = u.text_is; is = u.again }

-- ---- the header of an element

header_local : (here : Place) (e : Element) (text rest : List ℕ) → header_read here text ≡ Ok (Some e, rest) → Read (header_read here) (Some text) (Some rest) (Some e)
header_local here e text rest is =
    let took = (header_takes here).only text rest (Some e) is in
    let less = (header_leaves here).only text rest (Some e) is in
    let some : 0 < here.segment = omega (arith, less) in
    let there : 0 < length text = omega (arith, took.1, less) in
    let u = made_local (of_some_element basic here.segment) text (Some e) rest (sym (header_there here text some there) ∙ is) in
    let long : length text ≡ length u.used + length rest = ap length u.text_is ∙ length-append u.used rest in
    let used : 0 < length u.used = omega (arith, long, took.1, less) in
    record { bytes = u.used; consumed = u.text_is; is = λ more. (let more_there : 0 < length (u.used ++ more) = omega (arith, used, length-append u.used more) in header_there here (u.used ++ more) some more_there ∙ u.again more) }

-- ---- the Segment

-- no Cluster is entered
abbrev Flat : Place → Type 0
Flat here = here.cluster + here.group ≡ 0

abbrev Stops : Option Track → Place → List ℕ → ToldFault → ℕ → Type 0
Stops found here text t count = FaultAt spot_taken (InSegment found here) text t.fault count

-- from the beginning of the Segment on
abbrev StopsAfter : Place → Option Track → Place → List ℕ → ToldFault → Type 0
StopsAfter begin found here text t = (count : ℕ) × Stops found here text t count × (t.position ≡ Some (min (amount begin - amount here + count) (2 ^ 64 - 1)))

module _ (begin : Place) (found : Option Track) (here : Place) (text : List ℕ) (e : Element) (mid : List ℕ) (header : header_read here text ≡ Ok (Some e, mid)) (test : (e.ident == cluster) ≡ false) where
  abbrev after : Place
  after = segment_at here false e.left

  -- an element that is read whole
  stops_after : (now : Option Track) (rest : List ℕ) (t : ToldFault) → Flat here → amount here ≤ amount begin → tracks_or_passed found e.ident e.size mid ≡ Ok (now, rest) → (amount after ≤ amount begin → StopsAfter begin now after rest t) → StopsAfter begin found here text t
  stops_after now rest t flat within visit again =
      let one = header_local here e text mid header in
      let two = read_used (tracks_or_passed found e.ident e.size) mid rest now (made_local (of_visit found e.ident e.size) mid now rest visit) in
      let both = spot_read found now here e test one two in
      let left = header_left here e one in
      let later = again (omega (arith, left, within, flat)) in
      let same : amount begin - amount after + later.0 ≡ amount begin - amount here + (length both.bytes + later.0) = omega (arith, both.counted, left, within, flat) in (
        length both.bytes + later.0,
        fault_after spot_taken (InSegment found here) (InSegment now after) both.bytes text rest t.fault later.0 both.consumed both.is later.1,
        later.2 ∙ ap (λ n. Some (min n (2 ^ 64 - 1))) same,
      )

  -- one that plain reading refuses
  stops_now : (f : FileFault) (rest : List ℕ) → tracks_or_passed found e.ident e.size mid ≡ Err (Met f rest) → StopsAfter begin found here text (record { fault = f; position = Some (position_at begin here) })
  unfolding spot_taken
  stops_now f rest visit =
      let refused : spot_taken (InSegment found here) text ≡ Err (Met f rest) = rw (header, test, visit) refl in
      let same : amount begin - amount here ≡ amount begin - amount here + 0 = omega arith in
      (0, fault_now spot_taken (InSegment found here) text rest f refused, ap (λ n. Some (min n (2 ^ 64 - 1))) same)

no_told : {P : Type 0} (t : ToldFault) (others : List ToldFault) → ◌≡◌ {A = List ToldFault} [] (t ∷ others) → P
no_told t others e = absurd (cc)

head_told : (s t : ToldFault) (xs ys : List ToldFault) → ◌≡◌ {A = List ToldFault} (s ∷ xs) (t ∷ ys) → s ≡ t
head_told s t xs ys e = cc

segment_stops : (k : ℕ) (begin : Place) (found : Option Track) (here : Place) (text : List ℕ) (t : ToldFault) (others : List ToldFault) → Flat here → amount here ≤ amount begin → told_up_to k begin found here [] text ≡ t ∷ others → StopsAfter begin found here text t
unfolding told_up_to
segment_stops zero begin found here text t others flat within told = no_told t others told
segment_stops (suc k) begin found here text t others flat within told = on_header (λ now at more f w h. segment_stops k begin now at more t others f w h) (header_read here text) refl told
  where
    Again : Type 0
    Again = (now : Option Track) (at : Place) (more : List ℕ) → Flat at → amount at ≤ amount begin → told_up_to k begin now at [] more ≡ t ∷ others → StopsAfter begin now at more t

    on_visit : Again → (e : Element) (mid : List ℕ) → header_read here text ≡ Ok (Some e, mid) → (e.ident == cluster) ≡ false → (pending : Option FileFault) (plain : Result (Option Track × List ℕ) Stop) (salvaged : Result ((Option Track × Option FileFault) × List ℕ) Stop) → tracks_or_passed found e.ident e.size mid ≡ plain → Visited with_found pending plain salvaged →
        read_or (told_too [] pending (Some (position_at begin here))) (visited_told (told_up_to k begin) (segment_at here false e.left) (position_at begin here) []) salvaged ≡ t ∷ others → StopsAfter begin found here text t
    on_visit again e mid header test pending plain salvaged visit (Sound now rest p s) h =
        stops_after begin found here text e mid header test now rest t flat within (visit ∙ p) (λ less. again now (segment_at here false e.left) rest refl less (rw s at h))
    on_visit again e mid header test pending plain salvaged visit (Goes f now rest left p s may) h =
        let one : ToldFault = record { fault = f; position = Some (position_at begin here) } in
        let grows = told_grows k begin now (segment_at here false e.left) (one ∷ []) left in
        let same : one ≡ t = head_told one t grows.0 others (sym grows.1 ∙ (rw s at h)) in
        subst (StopsAfter begin found here text) same (stops_now begin found here text e mid header test f rest (visit ∙ p))
    on_visit again e mid header test pending plain salvaged visit (Pends f rest why p s pend may) h =
        let one : ToldFault = record { fault = f; position = Some (position_at begin here) } in
        let same : one ≡ t = head_told one t [] others (rw (s, pend) at h) in
        subst (StopsAfter begin found here text) same (stops_now begin found here text e mid header test f rest (visit ∙ p))
    on_visit again e mid header test pending plain salvaged visit (Alike why p s pend) h = no_told t others (rw (s, pend) at h)

    on_cluster : Again → (e : Element) (mid : List ℕ) → header_read here text ≡ Ok (Some e, mid) → (c : Bool) → (e.ident == cluster) ≡ c → element_told (told_up_to k begin) begin found here [] (Some e) mid ≡ t ∷ others → StopsAfter begin found here text t
    on_cluster again e mid header true test h = no_told t others (rw test at h)
    on_cluster again e mid header false test h =
        on_visit again e mid header test (element_fault found e.ident e.size mid) (tracks_or_passed found e.ident e.size mid) (tracks_or_salvaged found e.ident e.size mid) refl (visit_visited found e.ident e.size mid) (rw test at h)

    on_header : Again → (z : Result (Option Element × List ℕ) Stop) → header_read here text ≡ z → read_or [] (element_told (told_up_to k begin) begin found here []) z ≡ t ∷ others → StopsAfter begin found here text t
    on_header again (Err why) header h = no_told t others h
    on_header again (Ok (None, mid)) header h = no_told t others h
    on_header again (Ok (Some e, mid)) header h = on_cluster again e mid header (e.ident == cluster) refl h

-- ---- what comes before the Segment

root_whole : (most : ℕ) (text mid : List ℕ) (root : Option (Option ℕ)) (u : Uses root_read text root mid) → (rest : List ℕ) → spot_taken (BeforeSegment (suc most)) (u.used ++ rest) ≡ Ok (spot_behind most root, rest)
unfolding spot_taken
root_whole most text mid root u rest = ap (λ z. read_on z (λ r. given (spot_behind most r))) (u.again rest)

roots_stop : (most : ℕ) (text more : List ℕ) (size : Option ℕ) (f : FileFault) (count : ℕ) → segment_up_to most text ≡ Ok (size, more) → FaultAt spot_taken (InSegment None (segment_begun size)) more f count →
    (before : ℕ) × (before + length more ≡ length text) × FaultAt spot_taken (BeforeSegment most) text f (before + count)
unfolding segment_up_to
roots_stop zero text more size f count is h = absurd (cc (is))
roots_stop (suc most) text more size f count is h =
    let one = read_on_ok (root_read text) (root_or_on (segment_up_to most)) (size, more) is in
    on_root (λ mid k. roots_stop most mid more size f count k h) one.0.0 one.0.1 one.1 one.2
  where
    Again : Type 0
    Again = (mid : List ℕ) → segment_up_to most mid ≡ Ok (size, more) → (before : ℕ) × (before + length more ≡ length mid) × FaultAt spot_taken (BeforeSegment most) mid f (before + count)

    Goal : Type 0
    Goal = (before : ℕ) × (before + length more ≡ length text) × FaultAt spot_taken (BeforeSegment (suc most)) text f (before + count)

    behind : (root : Option (Option ℕ)) (mid : List ℕ) (n : ℕ) → root_read text ≡ Ok (root, mid) → n + length more ≡ length mid → FaultAt spot_taken (spot_behind most root) mid f (n + count) → Goal
    behind root mid n read long there =
        let u = made_local of_root text root mid read in
        let all = fault_after spot_taken (BeforeSegment (suc most)) (spot_behind most root) u.used text mid f (n + count) u.text_is (root_whole most text mid root u) there in
        let same : length u.used + (n + count) ≡ length u.used + n + count = omega arith in
        (length u.used + n, omega (arith, long, ap length u.text_is, length-append u.used mid), subst (FaultAt spot_taken (BeforeSegment (suc most)) text f) same all)

    on_root : Again → (root : Option (Option ℕ)) (mid : List ℕ) → root_read text ≡ Ok (root, mid) → root_or_on (segment_up_to most) root mid ≡ Ok (size, more) → Goal
    on_root again None mid read k = let later = again mid k in behind None mid later.0 read later.1 later.2
    on_root again (Some s) mid read k =
        let both = ok_is (s, mid) (size, more) k in
        let named : s ≡ size = ap (λ (z : Option ℕ × List ℕ). z.0) both in
        let left : mid ≡ more = ap (λ (z : Option ℕ × List ℕ). z.1) both in
        let here : FaultAt spot_taken (InSegment None (segment_begun s)) mid f count = rw (named, left) h in
        let long : 0 + length more ≡ length mid = omega (arith, ap length left) in
        let counted : count ≡ 0 + count = omega arith in
        behind (Some s) mid 0 read long (subst (FaultAt spot_taken (spot_behind most (Some s)) mid f) counted here)

-- ---- a file

abbrev Stands : List ℕ → ToldFault → Type 0
Stands text t = (count : ℕ) × FaultAt spot_taken Start text t.fault count × StandsAfter text t.position count

ebml_stands : (text : List ℕ) (f : FileFault) (rest : List ℕ) → ebml_read text ≡ Err (Met f rest) → Stands text (record { fault = f; position = None })
unfolding spot_taken
ebml_stands text f rest is = let refused : spot_taken Start text ≡ Err (Met f rest) = rw is refl in (0, fault_now spot_taken Start text rest f refused, refl)

start_whole : (text mid : List ℕ) (u : Unit {0}) (used : Uses ebml_read text u mid) → (rest : List ℕ) → spot_taken Start (used.used ++ rest) ≡ Ok (BeforeSegment most_elements, rest)
unfolding spot_taken
start_whole text mid u used rest = ap (λ z. read_on z (λ _. given (BeforeSegment most_elements))) (used.again rest)

entered_roots : (mid more : List ℕ) (size : Option ℕ) → segment_entered mid ≡ Ok (size, more) → segment_up_to most_elements mid ≡ Ok (size, more)
unfolding segment_entered
entered_roots mid more size is = is

data_is : (text mid more : List ℕ) (size : Option ℕ) → ebml_salvaged text ≡ Ok (None, mid) → segment_entered mid ≡ Ok (size, more) → data_at text ≡ length text - length more
unfolding data_at
data_is text mid more size salvaged entered = rw (salvaged, entered) refl

segment_stands : (text : List ℕ) (t : ToldFault) (u : Unit {0}) (mid : List ℕ) → ebml_read text ≡ Ok (u, mid) → ebml_salvaged text ≡ Ok (None, mid) → (size : Option ℕ) (more : List ℕ) → segment_entered mid ≡ Ok (size, more) → StopsAfter (segment_begun size) None (segment_begun size) more t → Stands text t
segment_stands text t u mid plain salvaged size more entered (count, stops, position) =
    let begin = segment_begun size in
    let used = made_local of_ebml text u mid plain in
    let roots = roots_stop most_elements mid more size t.fault count (entered_roots mid more size entered) stops in
    let all = fault_after spot_taken Start (BeforeSegment most_elements) used.used text mid t.fault (roots.0 + count) used.text_is (start_whole text mid u used) roots.2 in
    let long : length text ≡ length used.used + length mid = ap length used.text_is ∙ length-append used.used mid in
    let first : data_at text ≡ length text - length more = data_is text mid more size salvaged entered in
    let same : length used.used + (roots.0 + count) ≡ data_at text + count = omega (arith, first, long, roots.1) in
    let none : amount begin - amount begin + count ≡ count = omega arith in
    (length used.used + (roots.0 + count), all, subst (λ z. StandsAfter text z (length used.used + (roots.0 + count))) (sym position) (count, same, ap (λ n. min n (2 ^ 64 - 1)) none))

pub told_stands : (text : List ℕ) (t : ToldFault) (others : List ToldFault) → told_before text ≡ t ∷ others → Stands text t
unfolding told_before
told_stands text t others told = on_ebml (kept_fault (ebml_kept text)) (ebml_read text) (ebml_salvaged text) refl refl (ebml_visited text) told
  where
    on_entered : (u : Unit {0}) (mid : List ℕ) → ebml_read text ≡ Ok (u, mid) → ebml_salvaged text ≡ Ok (None, mid) → (z : Result (Option ℕ × List ℕ) Stop) → segment_entered mid ≡ z → read_or [] (λ size more. told_up_to (suc (amount (segment_begun size))) (segment_begun size) None (segment_begun size) [] more) z ≡ t ∷ others → Stands text t
    on_entered u mid plain salvaged (Err why) entered h = no_told t others h
    on_entered u mid plain salvaged (Ok (size, more)) entered h =
        let begin = segment_begun size in
        segment_stands text t u mid plain salvaged size more entered (segment_stops (suc (amount begin)) begin None begin more t others (begun_flat size) (omega arith) h)

    on_ebml : (pending : Option FileFault) (plain : Result (Unit {0} × List ℕ) Stop) (salvaged : Result (Option FileFault × List ℕ) Stop) → ebml_read text ≡ plain → ebml_salvaged text ≡ salvaged → Visited alone pending plain salvaged →
        read_or (told_too [] pending None) (λ f more. more_or [] (λ faults. segment_told faults more) (told_more [] f None)) salvaged ≡ t ∷ others → Stands text t
    on_ebml pending plain salvaged a b (Sound u rest p s) h = on_entered u rest (a ∙ p) (b ∙ s) (segment_entered rest) refl (rw s at h)
    on_ebml pending plain salvaged a b (Goes f u rest left p s may) h =
        let one : ToldFault = record { fault = f; position = None } in
        let grows = segment_grows (one ∷ []) (segment_entered left) in
        let same : one ≡ t = head_told one t grows.0 others (sym grows.1 ∙ (rw s at h)) in
        subst (Stands text) same (ebml_stands text f rest (a ∙ p))
    on_ebml pending plain salvaged a b (Pends f rest why p s pend may) h =
        let one : ToldFault = record { fault = f; position = None } in
        let same : one ≡ t = head_told one t [] others (rw (s, pend) at h) in
        subst (Stands text) same (ebml_stands text f rest (a ∙ p))
    on_ebml pending plain salvaged a b (Alike why p s pend) h = no_told t others (rw (s, pend) at h)
