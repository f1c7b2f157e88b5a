-- A Matroska file that may be damaged before its first frame is judged: what is told there comes first.
use Rattle.std.proofs.Common.{◌≡◌, refl, ℕ, ◌+◌, ◌-◌, ◌^◌, min, Bool, false, Option, Some, None, Ok, Err, List, [], ◌∷◌, ◌++◌, length, length-append, map, slice_get, take, inl, inr, ap, sym, subst, ◌∙◌, arith}
use Rattle.std.proofs.lemmas.List.{length-map}
use Rattle.std.specs.Io.KnownBytes.{Appends}
use Rattle.std.proofs.KnownBytes.{Appends-trans}
use Rattle.ffv1_wire.specs.Failures.{one_more}
use Rattle.ffv1_wire.specs.Passage.{Passage, between}
use Rattle.ffv1_record.specs.Accepted.{Accepted}
use Rattle.ffv1_reads.specs.Known.{Known}
use Rattle.ffv1_matroska.specs.CuedItems.{CuedBy}
use Rattle.ffv1_reads.specs.Items.{Given}
use Rattle.ffv1_matroska.specs.declared.told.ToldFault.{ToldFault}
use Rattle.ffv1_files.specs.Behind.{items_noted}
use Rattle.ffv1_files.specs.Items.{course_of}
use Rattle.ffv1_files.specs.Readers.{Standing}
use Rattle.ffv1_files.specs.Salvaged.{IsSalvaged, given_told}
use Rattle.ffv1_video.specs.declared.profile.Profile.{Profile}
use Rattle.ffv1_video.specs.declared.fault.Fault.{Fault}
use Rattle.ffv1_video.specs.Faults.{Cause, cause_of}
use Rattle.ffv1_video.specs.Faults.Cause.{Reading, Writing, Memory, Content}
use Rattle.ffv1_video.specs.Output.{WritesUpTo}
use Rattle.ffv1_video.proofs.KnownTexts.{known_map, known_then}
use Rattle.ffv1_video.proofs.Output.{take_past}
use Rattle.ffv1_unpack.specs.AllItems.{CameBy, DoneBy, EndedBy, StopsBy}
use Rattle.ffv1_unpack.specs.Behind.{Looks}
use Rattle.ffv1_unpack.specs.ItemsEnd.{cued_left}
use Rattle.ffv1_unpack.specs.JudgedItems.{ItemsAll, ItemsFrom, ItemsGo, ItemsLack, ItemsNext, ItemsOver, ItemsStay, ItemsStopBy, ItemsWant, ItemsWritten, JudgedItem, faults_of, given_as, item_lines}
use Rattle.ffv1_unpack.specs.Play.{but_last}
use Rattle.ffv1_unpack.specs.ToldItems.{LinesFailBy, ToldFailsBy, ToldItemsEnd, ToldItemsThen, ToldOpens, told_items, told_lines}
use Rattle.ffv1_unpack.specs.declared.judging.JudgedCounts.{JudgedCounts}
use Rattle.ffv1_unpack.specs.Internal.JudgedItems.{AreItemCounts}
use Rattle.ffv1_unpack.specs.Internal.Opens.{stream_of}
use Rattle.ffv1_unpack.specs.Internal.OpensTold.{OpensTold, first_told}
use Rattle.ffv1_unpack.specs.Internal.Told.{WritesFrame}
use Rattle.ffv1_unpack.specs.Internal.ItemsEnd.{BehindAnswers, BehindFailsBy}
use Rattle.ffv1_unpack.specs.Judged.{counts_line}
use Rattle.ffv1_files.specs.declared.course.Course.{Course}
use Rattle.ffv1_files.specs.declared.notes.Notes.{Notes}
use Rattle.ffv1_video.specs.declared.fault.Fault.TheVariants as fault
use Rattle.ffv1_unpack.proofs.ItemsCourse.{Goes, looks_there}
use Rattle.ffv1_unpack.proofs.ItemsEnding.{ToldBehind, all_done, count_stops, end_fails_by, ended, none_judged, told_behind}
use Rattle.ffv1_unpack.proofs.ToldFirst.{are_told, but_last_told, frames_told, given_first, lines_told}

-- ---- how many there are

faults_long : (start : ℕ) (ts : List ToldFault) (xs : List JudgedItem) → length (faults_of (told_items start ts ++ xs)) ≡ length ts + length (faults_of xs)
faults_long start [] xs =
    let same : length (faults_of xs) ≡ 0 + length (faults_of xs) = omega arith in
    same
faults_long start (t ∷ ts) xs =
    let more = faults_long start ts xs in
    omega (arith, more)

first_fault : (start : ℕ) (ts : List ToldFault) (xs : List JudgedItem) (o : Option Fault) → o ≡ slice_get (faults_of xs) 0 → first_told ts o ≡ slice_get (faults_of (told_items start ts ++ xs)) 0
first_fault start [] xs o is = is
first_fault start (t ∷ ts) xs o is = refl

pub told_counts : (start : ℕ) (ts : List ToldFault) (c r : JudgedCounts) (xs : List JudgedItem) → r.frames ≡ c.frames → r.faults ≡ min (c.faults + length ts) (2 ^ 64 - 1) → r.first ≡ first_told ts c.first → AreItemCounts c xs → AreItemCounts r (told_items start ts ++ xs)
told_counts start ts c r xs frames faults first h = record {
  frames = rw (frames_told start ts xs) (frames ∙ h.frames);
  faults = (let long = faults_long start ts xs in let is = h.faults in omega (arith, long, is, faults));
  first = first ∙ first_fault start ts xs c.first h.first;
}

-- ---- what a file has after what is told

module _ (profile : Profile) (i0 i1 i2 : Option (List ℕ)) (ib im ia : ℕ) (r : Standing) (a : Accepted) (start : ℕ) (ts : List ToldFault) (opens : OpensTold profile (between i0 i1 ib im) start ts r a) where
  abbrev told : List Given
  told = map (given_told start) ts

  pub has_told : (is : List Given) (Next : ItemsNext) → Known i1 i2 (ItemsFrom r.place (course_of r) is Next) → Known i0 i2 (ToldItemsThen r.head (told ++ is) Next)
  has_told is Next has =
      known_map i0 i2 (λ file rest. (left : List ℕ) × IsSalvaged file left r.head r.place r.offset told × ItemsFrom r.place (course_of r) is Next left rest) (ToldItemsThen r.head (told ++ is) Next)
      (λ file rest p. (told, is, refl, r.place, r.offset, p.0, p.1, p.2))
      (known_then i0 i1 i2 (λ file rest. IsSalvaged file rest r.head r.place r.offset told) (ItemsFrom r.place (course_of r) is Next) opens.known has)

  module _ (place : Bool) (o0 o1 o2 : Option (List ℕ)) (ob om oa : ℕ) (wrote : om ≡ ob) (writes : Appends o0 o1 (told_lines start ts)) where
    abbrev Rest : List Given → ItemsNext → List ℕ → List ℕ → Type 0
    Rest = ItemsFrom r.place (course_of r)

    abbrev lines : List JudgedItem → List ℕ
    lines xs = item_lines place a.configuration xs

    both : (xs : List JudgedItem) → lines (told_items start ts ++ xs) ≡ told_lines start ts ++ lines xs
    both xs = lines_told start place a.configuration 0 ts xs

    go_told : (xs : List JudgedItem) (Next : ItemsNext) → ItemsGo Rest a place (between i1 i2 im ia) (between o1 o2 om oa) xs Next →
        ItemsGo (ToldItemsThen r.head) a place (between i0 i2 ib ia) (between o0 o2 ob oa) (told_items start ts ++ xs) Next
    go_told xs Next go = record {
      are = are_told start a ts xs go.are;
      has = subst (λ z. Known i0 i2 (ToldItemsThen r.head z Next)) (sym (given_first start ts xs)) (has_told (map given_as xs) Next go.has);
    }

    pub writes_told : (xs : List JudgedItem) → Appends o1 o2 (lines xs) → Appends o0 o2 (lines (told_items start ts ++ xs))
    writes_told xs next = subst (Appends o0 o2) (sym (both xs)) (Appends-trans o0 o1 o2 (told_lines start ts) (lines xs) writes next)

    wrote_told : (xs : List JudgedItem) → ItemsWritten Rest a place (between i1 i2 im ia) (between o1 o2 om oa) xs →
        ItemsWritten (ToldItemsThen r.head) a place (between i0 i2 ib ia) (between o0 o2 ob oa) (told_items start ts ++ xs)
    wrote_told xs h = record { written = h.written ∙ wrote; writes = writes_told xs h.writes }

    up_told : (xs : List JudgedItem) → WritesUpTo o1 o2 (length (lines (but_last xs))) (lines xs) → WritesUpTo o0 o2 (length (lines (but_last (told_items start ts ++ xs)))) (lines (told_items start ts ++ xs))
    up_told [] h = absurd (let short = h.short in omega (arith, short))
    up_told (x ∷ xs) h =
        let first = told_lines start ts in
        let least = ap (λ ys. length (lines ys)) (but_last_told start ts x xs) ∙ ap length (both (but_last (x ∷ xs))) ∙ length-append first (lines (but_last (x ∷ xs))) in
        let long = ap length (both (x ∷ xs)) ∙ length-append first (lines (x ∷ xs)) in
        let enough = h.enough in
        let short = h.short in
        record {
          count = length first + h.count;
          enough = omega (arith, least, enough);
          short = omega (arith, long, short);
          writes = subst (λ z. Appends o0 o2 (take (length first + h.count) z)) (sym (both (x ∷ xs)))
              (subst (Appends o0 o2) (sym (take_past first (lines (x ∷ xs)) h.count)) (Appends-trans o0 o1 o2 first (take h.count (lines (x ∷ xs))) writes h.writes));
        }

    stops_told : (why : Cause) → ItemsStopBy Rest a place (between i1 i2 im ia) (between o1 o2 om oa) why → ItemsStopBy (ToldItemsThen r.head) a place (between i0 i2 ib ia) (between o0 o2 ob oa) why
    stops_told Writing (xs, go, same, failed, up) = (told_items start ts ++ xs, go_told xs ItemsStay go, same ∙ opens.kept, failed ∙ ap one_more wrote, up_told xs up)
    stops_told Reading (xs, go, failed, h) = (told_items start ts ++ xs, go_told xs ItemsWant go, failed ∙ ap one_more opens.kept, wrote_told xs h)
    stops_told Memory (xs, go, same, h) = (told_items start ts ++ xs, go_told xs (ItemsLack a) go, same ∙ opens.kept, wrote_told xs h)
    stops_told Content h = absurd h

    pub items_stop_told : (f : Fault) → ItemsStopBy Rest a place (between i1 i2 im ia) (between o1 o2 om oa) (cause_of f) → StopsBy ToldItemsThen ToldItemsEnd profile place (between i0 i2 ib ia) (between o0 o2 ob oa) f
    items_stop_told f h = inl (record { stream = stream_of r a; is = opens.stream; stops = stops_told (cause_of f) h })

-- the lines of what is told are not written
pub lines_fail_by : (start : ℕ) (ts : List ToldFault) (output : Passage) (f : Fault) → WritesFrame (told_lines start ts) output (Err f) → LinesFailBy output start ts (cause_of f)
lines_fail_by start ts output f h = elim h [
  | inl write ↦ subst (λ z. LinesFailBy output start ts (cause_of z)) (sym write.0) (write.1, record { count = write.2.0; enough = omega arith; short = write.2.1; writes = write.2.2 })
  | inr none ↦ subst (λ z. LinesFailBy output start ts (cause_of z)) (sym none.0) (record { same = none.1; kept = none.2 })
]

module _ (profile : Profile) (i0 i1 : Option (List ℕ)) (ib im : ℕ) (r : Standing) (a : Accepted) (start : ℕ) (ts : List ToldFault) (opens : OpensTold profile (between i0 i1 ib im) start ts r a) (output : Passage) where
  told_opens : ToldOpens profile (between i0 i1 ib im) (stream_of r a) start ts
  told_opens = record { is = opens.stream; from = r.place; offset = r.offset; known = opens.known; kept = opens.kept }

  pub lines_fail : (f : Fault) → WritesFrame (told_lines start ts) output (Err f) → ToldFailsBy profile (between i0 i1 ib im) output (cause_of f)
  lines_fail f h = (stream_of r a, start, ts, told_opens, lines_fail_by start ts output f h)

-- ---- what comes after its end

module _ (profile : Profile) (place : Bool) (i0 i1 i2 i3 : Option (List ℕ)) (ib im ia ic : ℕ) (r : Standing) (a : Accepted) (start : ℕ) (ts : List ToldFault) (opens : OpensTold profile (between i0 i1 ib im) start ts r a) (course : Course) (cued : Bool)
    (cues : CuedBy (cued_left r.place (course_of r) false) i1 i2 cued) (goes : Goes r i1 i2 course) where
  pub end_told : (is : List Given) (Looked : ℕ → Looks) (o0 o1 o2 o3 : Option (List ℕ)) → Known o0 o1 (λ file rest. IsSalvaged file rest r.head r.place r.offset (map (given_told start) ts)) →
      CuedBy (cued_left r.place (course_of r) false) o1 o2 cued → Goes r o1 o2 course → Known o1 o2 (ItemsFrom r.place (course_of r) is (ItemsOver (length is))) → Known o2 o3 (λ text rest. Looked r.end (items_noted r course cued) text rest) → Known o0 o3 (ToldItemsEnd r.head (map (given_told start) ts ++ is) Looked)
  end_told is Looked None o1 o2 o3 known same to has looked = tt
  end_told is Looked (Some file) None o2 o3 known same to has looked = absurd known
  end_told is Looked (Some file) (Some at) None o3 known same to has looked = absurd has
  end_told is Looked (Some file) (Some at) (Some left) None known same to has looked = absurd looked
  end_told is Looked (Some file) (Some at) (Some left) (Some rest) known same to has looked = (map (given_told start) ts, is, refl, r, at, left, known, opens.ends, has, looks_there r course cued Looked at left rest same to looked)

  pub came_told : (o0 o1 : Option (List ℕ)) (ob om : ℕ) (xs : List JudgedItem) → ItemsAll (ItemsFrom r.place (course_of r)) a place (between i1 i2 im ia) (between o0 o1 ob om) xs → (o oz : Option (List ℕ)) (n nz : ℕ) (Looked : ℕ → Looks) → Known i2 i3 (λ text rest. Looked r.end (items_noted r course cued) text rest) →
      CameBy ToldItemsThen ToldItemsEnd profile place (between i0 i3 ib ic) (between oz o nz n) (stream_of r a) (told_items start ts ++ xs) Looked
  came_told o0 o1 ob om xs all o oz n nz Looked looked = record {
    is = opens.stream;
    are = are_told start a ts xs all.go.are;
    ends = subst (λ z. Known i0 i3 (ToldItemsEnd r.head z Looked)) (sym (given_first start ts xs))
        (end_told (map given_as xs) Looked i0 i1 i2 i3 opens.known cues goes
        (subst (λ n. Known i1 i2 (ItemsFrom r.place (course_of r) (map given_as xs) (ItemsOver n))) (sym (length-map xs given_as)) all.go.has) looked);
  }

-- ---- all of it

module _ (profile : Profile) (place : Bool) (i0 i1 i2 i3 : Option (List ℕ)) (ib im ia ic : ℕ) (r : Standing) (a : Accepted) (start : ℕ) (ts : List ToldFault) (opens : OpensTold profile (between i0 i1 ib im) start ts r a) (course : Course) (cued : Bool)
    (cues : CuedBy (cued_left r.place (course_of r) false) i1 i2 cued) (goes : Goes r i1 i2 course) (o0 o1 o2 o3 : Option (List ℕ)) (ob om oa oc : ℕ) (first : (om ≡ ob) × Appends o0 o1 (told_lines start ts)) (xs : List JudgedItem)
    (all : ItemsAll (ItemsFrom r.place (course_of r)) a place (between i1 i2 im ia) (between o1 o2 om oa) xs) (counts : JudgedCounts) (were : AreItemCounts counts (told_items start ts ++ xs)) where
  abbrev items : List JudgedItem
  items = told_items start ts ++ xs

  pub came_here : (o : Option (List ℕ)) (n : ℕ) (Looked : ℕ → Looks) → Known i2 i3 (λ text rest. Looked r.end (items_noted r course cued) text rest) → CameBy ToldItemsThen ToldItemsEnd profile place (between i0 i3 ib ic) (between o0 o ob n) (stream_of r a) items Looked
  came_here o n Looked looked = came_told profile place i0 i1 i2 i3 ib im ia ic r a start ts opens course cued cues goes o1 o2 om oa xs all o o0 n ob Looked looked

  pub writes_here : Appends o0 o2 (item_lines place a.configuration items)
  writes_here = writes_told profile i0 i1 i2 ib im ia r a start ts opens place o0 o1 o2 ob om oa first.0 first.1 xs all.wrote.writes

  abbrev pub Behind : JudgedCounts → Notes → Type 0
  Behind = ToldBehind ToldItemsThen ToldItemsEnd profile place i0 i2 i3 ib ia ic r a course cued o0 o2 o3 ob oa oc items counts were came_here writes_here (all.wrote.written ∙ first.0) (all.kept ∙ opens.kept)

  pub behind_here : (new : JudgedCounts) (notes : Notes) → BehindAnswers r course cued (between i2 i3 ia ic) (between o2 o3 oa oc) counts new (Ok notes) → Behind new notes
  behind_here new notes h = told_behind ToldItemsThen ToldItemsEnd profile place i0 i2 i3 ib ia ic r a course cued o0 o2 o3 ob oa oc items counts were came_here writes_here (all.wrote.written ∙ first.0) (all.kept ∙ opens.kept) new notes h

  pub ended_here : (new : JudgedCounts) (notes : Notes) (told : Behind new notes) (o : Option (List ℕ)) (n : ℕ) → EndedBy ToldItemsThen ToldItemsEnd profile place (between i0 i3 ib ic) (between o0 o ob n) (stream_of r a) items told.behind notes
  ended_here new notes told o n = ended ToldItemsThen ToldItemsEnd profile place i0 i2 i3 ib ia ic r a course cued o0 o2 o3 ob oa oc items counts were came_here writes_here (all.wrote.written ∙ first.0) (all.kept ∙ opens.kept) new notes told o n

  pub end_stops_here : (f : Fault) → BehindFailsBy r course cued (between i2 i3 ia ic) (between o2 o3 oa oc) (cause_of f) → StopsBy ToldItemsThen ToldItemsEnd profile place (between i0 i3 ib ic) (between o0 o3 ob oc) f
  end_stops_here f h = inr (inl (end_fails_by ToldItemsThen ToldItemsEnd profile place i0 i2 i3 ib ia ic r a course cued o0 o2 o3 ob oa oc items counts were came_here writes_here (all.wrote.written ∙ first.0) (all.kept ∙ opens.kept) (cause_of f) h))

  module _ (new : JudgedCounts) (notes : Notes) (answer : BehindAnswers r course cued (between i2 i3 ia ic) (between o2 o3 oa oc) counts new (Ok notes)) where
    there : Behind new notes
    there = behind_here new notes answer

    pub none_here : new.frames ≡ 0 → new.faults ≡ 0 → StopsBy ToldItemsThen ToldItemsEnd profile place (between i0 i3 ib ic) (between o0 o3 ob oc) fault.NoFrames
    none_here frames faults = none_judged ToldItemsThen ToldItemsEnd profile place (between i0 i3 ib ic) o0 o3 ob oc (stream_of r a) items there.behind notes new (ended_here new notes there) there.counted (there.written ∙ (all.wrote.written ∙ first.0)) there.writes frames faults

    module _ (o4 : Option (List ℕ)) (od : ℕ) where
      pub count_stops_here : (f : Fault) → WritesFrame (counts_line new.frames new.faults) (between o3 o4 oc od) (Err f) → StopsBy ToldItemsThen ToldItemsEnd profile place (between i0 i3 ib ic) (between o0 o4 ob od) f
      count_stops_here f h = count_stops ToldItemsThen ToldItemsEnd profile place (between i0 i3 ib ic) o0 o3 ob oc (stream_of r a) items there.behind notes new (ended_here new notes there) there.counted (there.written ∙ (all.wrote.written ∙ first.0)) there.writes o4 od f h

      pub done_here : (new.frames ≡ 0 → new.faults ≡ 0 → ⊥) → od ≡ oc → Appends o3 o4 (counts_line new.frames new.faults) → DoneBy ToldItemsThen ToldItemsEnd profile place (between i0 i3 ib ic) (between o0 o4 ob od) new.first notes
      done_here some same line = all_done ToldItemsThen ToldItemsEnd profile place (between i0 i3 ib ic) o0 o3 ob oc (stream_of r a) items there.behind notes new (ended_here new notes there) there.counted (there.written ∙ (all.wrote.written ∙ first.0)) there.writes o4 od some same line
