-- A Matroska file that may be damaged before its first frame is unpacked: what is told there comes first.
use Rattle.std.proofs.Common.{◌≡◌, ◌⊎◌, refl, ℕ, ◌+◌, Bool, true, false, Option, Ok, Err, List, [], ◌∷◌, ◌++◌, length, length-append, map, inl, inr, ap, sym, subst, ◌∙◌, append-nil, append_assoc}
use Rattle.std.proofs.lemmas.List.{length-map}
use Rattle.std.specs.Io.KnownBytes.{Appends}
use Rattle.std.proofs.KnownBytes.{Appends-trans}
use Rattle.ffv1_wire.specs.Failures.{one_more}
use Rattle.ffv1_wire.specs.Passage.{Passage, between}
use Rattle.ffv1_record.specs.Accepted.{Accepted}
use Rattle.ffv1_reads.specs.Known.{Known}
use Rattle.ffv1_matroska.specs.CuedItems.{CuedBy}
use Rattle.ffv1_reads.specs.Items.{Given}
use Rattle.ffv1_matroska.specs.declared.told.ToldFault.{ToldFault}
use Rattle.ffv1_files.specs.Behind.{items_noted}
use Rattle.ffv1_files.specs.Items.{course_of}
use Rattle.ffv1_files.specs.Readers.{Standing}
use Rattle.ffv1_files.specs.Salvaged.{IsSalvaged, given_told}
use Rattle.ffv1_files.specs.declared.course.Course.{Course}
use Rattle.ffv1_files.specs.declared.notes.Notes.{Notes}
use Rattle.ffv1_video.specs.declared.profile.Profile.{Profile}
use Rattle.ffv1_video.specs.declared.fault.Fault.{Fault}
use Rattle.ffv1_video.specs.declared.fault.Fault.TheVariants as fault
use Rattle.ffv1_video.specs.Faults.{Cause, cause_of}
use Rattle.ffv1_video.specs.Faults.Cause.{Reading, Writing, Memory, Content}
use Rattle.ffv1_video.specs.Output.{Silent, WritesUpTo}
use Rattle.ffv1_video.proofs.KnownTexts.{known_map, known_then}
use Rattle.ffv1_unpack.specs.Behind.{Looks}
use Rattle.ffv1_unpack.specs.ItemsEnd.{BeginsAnother, EndTold, cued_left}
use Rattle.ffv1_unpack.specs.JudgedItems.{ItemIs, ItemsFrom, ItemsNext, ItemsOver, ItemsStay, JudgedItem, given_as}
use Rattle.ffv1_unpack.specs.Salvaged.{salvage_lines, shown}
use Rattle.ffv1_unpack.specs.Stream.{Stream}
use Rattle.ffv1_unpack.specs.Told.{is_telling_fault}
use Rattle.ffv1_unpack.specs.ToldItems.{ToldItemsEnd, ToldItemsThen, ToldOpens, told_items, told_lines}
use Rattle.ffv1_unpack.specs.Unpack.{IsUnpackFault}
use Rattle.ffv1_unpack.specs.UnpackAll.{AgainRefused, AreSalvageCounts, FaultNext, LacksNext, LineCut, LinesTold, PictureCut, PictureWritten, PicturesShown, ReadFailsNext, SalvageDoneBy, SalvageGoes, SalvageStopsBy, SalvagedThen, SalvagesAll, ToldLacksBy, ToldLacksText}
use Rattle.ffv1_unpack.specs.Unpacked.{HasText, LacksTextBy, is_ppm_stream, rows_by, text_of}
use Rattle.ffv1_unpack.specs.declared.judging.JudgedCounts.{JudgedCounts}
use Rattle.ffv1_unpack.specs.Internal.ItemsEnd.{BehindAnswers, BehindFailsBy}
use Rattle.ffv1_unpack.specs.Internal.Opens.{stream_of}
use Rattle.ffv1_unpack.specs.Internal.OpensTold.{OpensTold}
use Rattle.ffv1_unpack.specs.Internal.Told.{WritesFrame}
use Rattle.ffv1_unpack.proofs.FaultsLocated.{none_appended}
use Rattle.ffv1_unpack.proofs.FileUnpacked.{text_own}
use Rattle.ffv1_unpack.proofs.ItemsCourse.{Goes}
use Rattle.ffv1_unpack.proofs.SalvageEnding.{ItemsKept, SalvageTold, end_done, end_fails, end_none, salvage_told}
use Rattle.ffv1_unpack.proofs.SalvageSteps.{text_none}
use Rattle.ffv1_unpack.proofs.SalvageTold.{alike_first, picture_alike, salvage_first, shown_told, up_past}
use Rattle.ffv1_unpack.proofs.ToldAgain.{end_told, has_told, lines_fail}
use Rattle.ffv1_unpack.proofs.ToldFirst.{are_told, given_first}

-- ---- how far it goes

module _ (profile : Profile) (i0 i1 i2 : Option (List ℕ)) (ib im ia : ℕ) (r : Standing) (a : Accepted) (start : ℕ) (ts : List ToldFault) (opens : OpensTold profile (between i0 i1 ib im) start ts r a) (text : HasText (stream_of r a)) (l0 l1 l2 : Option (List ℕ)) (lb lm la : ℕ)
    (first : (lm ≡ lb) × Appends l0 l1 (told_lines start ts)) (output : Passage) where
  abbrev s : Stream
  s = stream_of r a

  abbrev ppm : Bool
  ppm = is_ppm_stream s

  abbrev Here : List Given → ItemsNext → List ℕ → List ℕ → Type 0
  Here = ItemsFrom r.place (course_of r)

  abbrev File : List Given → ItemsNext → List ℕ → List ℕ → Type 0
  File = ToldItemsThen r.head

  abbrev Rest : Passage
  Rest = between i1 i2 im ia

  abbrev Whole : Passage
  Whole = between i0 i2 ib ia

  abbrev Later : Passage
  Later = between l1 l2 lm la

  abbrev Lines : Passage
  Lines = between l0 l2 lb la

  abbrev with : List JudgedItem → List JudgedItem
  with xs = told_items start ts ++ xs

  goes_told : (xs : List JudgedItem) (Next : ItemsNext) → SalvageGoes Here s Rest Later output xs Next → SalvageGoes File s Whole Lines output (with xs) Next
  goes_told xs Next go = record {
    are = are_told start a ts xs go.are;
    has = subst (λ z. Known i0 i2 (ToldItemsThen r.head z Next)) (sym (given_first start ts xs)) (has_told profile i0 i1 i2 ib im ia r a start ts opens (map given_as xs) Next go.has);
  }

  pub lines_told : (xs : List JudgedItem) → LinesTold Here s Rest Later output xs → LinesTold File s Whole Lines output (with xs)
  lines_told xs h = record {
    written = h.written ∙ first.0;
    writes = subst (Appends l0 l2) (sym (salvage_first ppm start ts xs)) (Appends-trans l0 l1 l2 (told_lines start ts) (salvage_lines ppm xs) first.1 h.writes);
  }

  pub pictures_told : (xs : List JudgedItem) → PicturesShown Here s Rest Later output xs → PicturesShown File s Whole Lines output (with xs)
  pictures_told xs h = record { written = h.written; writes = subst (λ z. Appends output.old output.new (text_of s z)) (sym (shown_told start ts xs)) h.writes }

  then_told : (xs : List JudgedItem) (Next : ItemsNext) → SalvagedThen Here s Rest Later output xs Next → SalvagedThen File s Whole Lines output (with xs) Next
  then_told xs Next h = record { goes = goes_told xs Next h.goes; told = lines_told xs h.told; showed = pictures_told xs h.showed }

  line_told : (xs : List JudgedItem) (x : JudgedItem) → LineCut Here s Rest Later output xs x → LineCut File s Whole Lines output (with xs) x
  line_told xs x h =
      let more = ap (salvage_lines ppm) (append_assoc (told_items start ts) xs (x ∷ [])) ∙ salvage_first ppm start ts (xs ++ (x ∷ [])) in
      let least = ap length (salvage_first ppm start ts xs) ∙ length-append (told_lines start ts) (salvage_lines ppm xs) in
      record {
        written = h.written ∙ ap one_more first.0;
        writes = subst (λ n. WritesUpTo l0 l2 n (salvage_lines ppm (with xs ++ (x ∷ [])))) (sym least)
            (subst (WritesUpTo l0 l2 (length (told_lines start ts) + length (salvage_lines ppm xs))) (sym more)
            (up_past l0 l1 l2 (told_lines start ts) (length (salvage_lines ppm xs)) (salvage_lines ppm (xs ++ (x ∷ []))) first.1 h.writes));
        showed = pictures_told xs h.showed;
      }

  written_told : (b : Bool) (xs : List JudgedItem) (x : JudgedItem) → PictureWritten Here s Rest Later output b xs x → PictureWritten File s Whole Lines output b (with xs) x
  written_told false xs x h =
      let more = ap shown (append_assoc (told_items start ts) xs (x ∷ [])) ∙ shown_told start ts (xs ++ (x ∷ [])) in
      subst (λ z. WritesUpTo output.old output.new (length (text_of s z)) (text_of s (shown (with xs ++ (x ∷ []))))) (sym (shown_told start ts xs))
      (subst (λ z. WritesUpTo output.old output.new (length (text_of s (shown xs))) (text_of s z)) (sym more) h)
  written_told true xs x (f, is, ls, next, offers, up) = (
    f,
    picture_alike (with xs) xs x (alike_first start ts xs) ∙ is,
    ls,
    next,
    offers,
    subst (λ z. WritesUpTo output.old output.new (length (text_of s z ++ rows_by true s ls)) (text_of s z ++ rows_by true s (ls ++ (next ∷ [])))) (sym (shown_told start ts xs)) up,
  )

  picture_told : (xs : List JudgedItem) (x : JudgedItem) → PictureCut Here s Rest Later output xs x → PictureCut File s Whole Lines output (with xs) x
  picture_told xs x h = record {
    told = subst (LinesTold File s Whole Lines output) (sym (append_assoc (told_items start ts) xs (x ∷ []))) (lines_told (xs ++ (x ∷ [])) h.told);
    written = h.written;
    writes = written_told ppm xs x h.writes;
  }

  -- memory is refused before the first item
  opens_on : Known i1 i2 (Here [] ItemsStay) → ia ≡ im → ToldOpens profile Whole s start ts
  opens_on stays same = record {
    is = opens.stream;
    from = r.place;
    offset = r.offset;
    known = known_map i0 i2 (λ file rest. (left : List ℕ) × IsSalvaged file left r.head r.place r.offset (map (given_told start) ts) × Here [] ItemsStay left rest)
        (λ file rest. IsSalvaged file rest r.head r.place r.offset (map (given_told start) ts))
        (λ file rest (left, salvaged, (to, d, at, (none, alike, read), stay)). subst (λ z. IsSalvaged file z r.head r.place r.offset (map (given_told start) ts)) (sym (stay ∙ read)) salvaged)
        (known_then i0 i1 i2 (λ file rest. IsSalvaged file rest r.head r.place r.offset (map (given_told start) ts)) (Here [] ItemsStay) opens.known stays);
    kept = same ∙ opens.kept;
  }

  lacks_told : ia ≡ im → SalvagedThen Here s Rest Later output [] ItemsStay → ToldLacksBy profile Whole Lines output Memory
  lacks_told same h = (
    s,
    start,
    ts,
    opens_on h.goes.has same,
    text,
    h.told.written ∙ first.0,
    subst (Appends l0 l2) (append-nil (told_lines start ts)) (Appends-trans l0 l1 l2 (told_lines start ts) [] first.1 h.told.writes),
    record { kept = none_appended output.old output.new (subst (Appends output.old output.new) (text_none s) h.showed.writes); same = h.showed.written },
  )

  stops_told : (f : Fault) (why : Cause) → SalvageStopsBy Here s Rest Later output f why → SalvageStopsBy File s Whole Lines output f why ⊎ ToldLacksBy profile Whole Lines output why
  stops_told f Writing (xs, x, is, go, same, how) = inl (
    with xs,
    x,
    is,
    goes_told xs (ItemIs (given_as x)) go,
    same ∙ opens.kept,
    elim how [
      | inl line ↦ inl (line_told xs x line)
      | inr picture ↦ inr (picture_told xs x picture)
    ],
  )
  stops_told f Reading (xs, h, failed) = inl (with xs, then_told xs ReadFailsNext h, failed ∙ ap one_more opens.kept)
  stops_told f Memory (same, how) = elim how [
    | inl next ↦ inl (same ∙ opens.kept, inl (with next.0, then_told next.0 LacksNext next.1))
    | inr more ↦ elim more [
      | inl line ↦ inl (same ∙ opens.kept, inr (inl (with line.0, line.1, line.2, then_told line.0 (ItemIs (given_as line.1)) line.3)))
      | inr none ↦ inr (lacks_told same none)
    ]
  ]
  stops_told f Content (xs, h, same) = inl (with xs, then_told xs (FaultNext f) h, same ∙ opens.kept)

  pub told_stops : (f : Fault) → SalvageStopsBy Here s Rest Later output f (cause_of f) → AgainRefused profile Whole Lines output f
  told_stops f h = elim (stops_told f (cause_of f) h) [
    | inl stops ↦ inl (inl (record { stream = s; is = opens.stream; text = text; stops = stops }))
    | inr lacks ↦ inr (inl lacks)
  ]

-- the lines of what is told are not written
pub told_unwritten : (profile : Profile) (i0 i1 : Option (List ℕ)) (ib im : ℕ) (r : Standing) (a : Accepted) (start : ℕ) (ts : List ToldFault) → OpensTold profile (between i0 i1 ib im) start ts r a → (lines output : Passage) (f : Fault) → Silent output → WritesFrame (told_lines start ts) lines (Err f) → AgainRefused profile (between i0 i1 ib im) lines output f
told_unwritten profile i0 i1 ib im r a start ts opens lines output f silent h = inr (inr (inl (lines_fail profile i0 i1 ib im r a start ts opens lines f h, silent)))

-- ---- what comes after its end

module _ (profile : Profile) (i0 i1 i2 i3 : Option (List ℕ)) (ib im ia ic : ℕ) (r : Standing) (a : Accepted) (start : ℕ) (ts : List ToldFault) (opens : OpensTold profile (between i0 i1 ib im) start ts r a) (course : Course) (cued : Bool) (cues : CuedBy (cued_left r.place (course_of r) false) i1 i2 cued) (goes : Goes r i1 i2 course)
    (text : HasText (stream_of r a)) (l0 l1 l2 l3 : Option (List ℕ)) (lb lm la lc : ℕ) (first : (lm ≡ lb) × Appends l0 l1 (told_lines start ts)) (output : Passage) (xs : List JudgedItem)
    (all : SalvagesAll (ItemsFrom r.place (course_of r)) (stream_of r a) (between i1 i2 im ia) (between l1 l2 lm la) output xs) (counts : JudgedCounts) (were : AreSalvageCounts (is_ppm_stream (stream_of r a)) counts (told_items start ts ++ xs)) where
  abbrev stream : Stream
  stream = stream_of r a

  abbrev items : List JudgedItem
  items = told_items start ts ++ xs

  items_kept : ItemsKept profile stream items counts l0 l2 lb la output
  items_kept =
      let told = lines_told profile i0 i1 i2 ib im ia r a start ts opens text l0 l1 l2 lb lm la first output xs all.told in
      let pictures = pictures_told profile i0 i1 i2 ib im ia r a start ts opens text l0 l1 l2 lb lm la first output xs all.showed in
      record {
        is = opens.stream;
        text = text;
        are = are_told start a ts xs all.goes.are;
        counted = were;
        told = told.written;
        lines = told.writes;
        showed = pictures.written;
        pictures = pictures.writes;
      }

  ends : (Looked : ℕ → Looks) → Known i2 i3 (λ text rest. Looked r.end (items_noted r course cued) text rest) → Known i0 i3 (ToldItemsEnd r.head (map given_as items) Looked)
  ends Looked looked =
      subst (λ z. Known i0 i3 (ToldItemsEnd r.head z Looked)) (sym (given_first start ts xs))
      (end_told profile true i0 i1 i2 i3 ib im ia ic r a start ts opens course cued cues goes (map given_as xs) Looked i0 i1 i2 i3 opens.known cues goes
      (subst (λ n. Known i1 i2 (ItemsFrom r.place (course_of r) (map given_as xs) (ItemsOver n))) (sym (length-map xs given_as)) all.goes.has) looked)

  ends_told : (told : List JudgedItem) (notes : Notes) → Known i2 i3 (λ text rest. EndTold told notes r.end (items_noted r course cued) text rest) → Known i0 i3 (ToldItemsEnd r.head (map given_as items) (EndTold told notes))
  ends_told told notes looked = ends (EndTold told notes) looked

  ends_so : (Looked : Looks) → Known i2 i3 (Looked (items_noted r course cued)) → Known i0 i3 (ToldItemsEnd r.head (map given_as items) (λ at. Looked))
  ends_so Looked looked = ends (λ at. Looked) looked

  ends_another : Known i2 i3 (BeginsAnother (items_noted r course cued)) → Known i0 i3 (ToldItemsEnd r.head (map given_as items) (λ at reading text rest. (at ≡ r.end) × BeginsAnother reading text rest))
  ends_another looked =
      ends (λ at reading text rest. (at ≡ r.end) × BeginsAnother reading text rest)
      (known_map i2 i3 (BeginsAnother (items_noted r course cued)) (λ text rest. (r.end ≡ r.end) × BeginsAnother (items_noted r course cued) text rest) (λ text rest is. (refl, is)) looked)

  abbrev Told : JudgedCounts → Notes → Type 0
  Told = SalvageTold ToldItemsThen ToldItemsEnd profile i0 i2 i3 ib ia ic stream r course cued l0 l2 l3 lb la lc output items counts items_kept (all.kept ∙ opens.kept) ends_told ends_so ends_another

  end_here : (new : JudgedCounts) (notes : Notes) → BehindAnswers r course cued (between i2 i3 ia ic) (between l2 l3 la lc) counts new (Ok notes) → Told new notes
  end_here = salvage_told ToldItemsThen ToldItemsEnd profile i0 i2 i3 ib ia ic stream r course cued l0 l2 l3 lb la lc output items counts items_kept (all.kept ∙ opens.kept) ends_told ends_so ends_another

  pub end_untold : (f : Fault) → BehindFailsBy r course cued (between i2 i3 ia ic) (between l2 l3 la lc) (cause_of f) → AgainRefused profile (between i0 i3 ib ic) (between l0 l3 lb lc) output f
  end_untold f h = inl (end_fails ToldItemsThen ToldItemsEnd profile i0 i2 i3 ib ia ic stream r course cued l0 l2 l3 lb la lc output items counts items_kept (all.kept ∙ opens.kept) ends_told ends_so ends_another f h)

  pub none_told : (new : JudgedCounts) (notes : Notes) → BehindAnswers r course cued (between i2 i3 ia ic) (between l2 l3 la lc) counts new (Ok notes) → new.frames ≡ 0 → new.faults ≡ 0 → AgainRefused profile (between i0 i3 ib ic) (between l0 l3 lb lc) output fault.NoFrames
  none_told new notes h frames faults =
      inl (end_none ToldItemsThen ToldItemsEnd profile i0 i2 i3 ib ia ic stream r course cued l0 l2 l3 lb la lc output items counts items_kept (all.kept ∙ opens.kept) ends_told ends_so ends_another new notes (end_here new notes h) frames faults)

  pub all_told : (new : JudgedCounts) (notes : Notes) → BehindAnswers r course cued (between i2 i3 ia ic) (between l2 l3 la lc) counts new (Ok notes) → (new.frames ≡ 0 → new.faults ≡ 0 → ⊥) →
      SalvageDoneBy ToldItemsThen ToldItemsEnd profile (between i0 i3 ib ic) (between l0 l3 lb lc) output new notes
  all_told new notes h some = end_done ToldItemsThen ToldItemsEnd profile i0 i2 i3 ib ia ic stream r course cued l0 l2 l3 lb la lc output items counts items_kept (all.kept ∙ opens.kept) ends_told ends_so ends_another new notes (end_here new notes h) some

-- its pictures have no text
pub told_lacks : (profile : Profile) (p : Passage) (r : Standing) (a : Accepted) (start : ℕ) (ts : List ToldFault) → OpensTold profile p start ts r a → (f : Fault) → LacksTextBy (is_ppm_stream (stream_of r a)) a.configuration f → ToldLacksText profile p f
told_lacks profile p r a start ts opens f lacks = record {
  stream = stream_of r a;
  start = start;
  faults = ts;
  opens = record { is = opens.stream; from = r.place; offset = r.offset; known = opens.known; kept = opens.kept };
  lacks = lacks;
}
