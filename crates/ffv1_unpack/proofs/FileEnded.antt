-- What stands behind the items of a file is told.
use Rattle.std.proofs.Common.{◌≡◌, ℕ, Bool, false, Option, Some, None, Ok, Err, List, length, map, inl, inr, sym, subst, ◌∙◌}
use Rattle.std.proofs.lemmas.List.{length-map}
use Rattle.std.specs.Io.KnownBytes.{Appends}
use Rattle.ffv1_wire.specs.Passage.{between}
use Rattle.ffv1_record.specs.Accepted.{Accepted}
use Rattle.ffv1_reads.specs.Known.{Known}
use Rattle.ffv1_matroska.specs.CuedItems.{CuedBy}
use Rattle.ffv1_reads.specs.Items.{Given}
use Rattle.ffv1_files.specs.Behind.{EndsThere, items_noted}
use Rattle.ffv1_files.specs.Files.{open_read}
use Rattle.ffv1_files.specs.Items.{course_of}
use Rattle.ffv1_files.specs.Noted.{notes_reached, streams_reached}
use Rattle.ffv1_files.specs.Offsets.{PlaceReached}
use Rattle.ffv1_files.specs.Readers.{Standing}
use Rattle.ffv1_files.specs.declared.course.Course.{Course}
use Rattle.ffv1_files.specs.declared.notes.Notes.{Notes}
use Rattle.ffv1_video.specs.declared.profile.Profile.{Profile}
use Rattle.ffv1_video.specs.declared.fault.Fault.{Fault}
use Rattle.ffv1_video.specs.declared.fault.Fault.TheVariants as fault
use Rattle.ffv1_video.specs.Faults.{cause_of}
use Rattle.ffv1_video.specs.Profiles.{scope_in}
use Rattle.ffv1_unpack.specs.AllItems.{ItemsCame, ItemsDone, ItemsEnded, ItemsFault}
use Rattle.ffv1_unpack.specs.Judged.{counts_line}
use Rattle.ffv1_unpack.specs.Internal.Told.{WritesFrame}
use Rattle.ffv1_unpack.proofs.FileItems.{count_fails, items_done, no_items}
use Rattle.ffv1_unpack.proofs.ItemsCourse.{Goes, looks_there, others_here}
use Rattle.ffv1_unpack.proofs.ItemsEnding.{ToldBehind, end_fails_by, ended, told_behind}
use Rattle.ffv1_unpack.specs.Behind.{Looks}
use Rattle.ffv1_unpack.specs.ItemsEnd.{ItemsEnd, OpensAt, cued_left}
use Rattle.ffv1_unpack.specs.JudgedItems.{ItemsAll, ItemsFrom, ItemsOver, ItemsThen, JudgedItem, given_as, item_lines}
use Rattle.ffv1_unpack.specs.Located.{Stands}
use Rattle.ffv1_unpack.specs.declared.judging.JudgedCounts.{JudgedCounts}
use Rattle.ffv1_unpack.specs.Internal.ItemsEnd.{BehindAnswers, BehindFailsBy}
use Rattle.ffv1_unpack.specs.Internal.JudgedItems.{AreItemCounts}
use Rattle.ffv1_unpack.specs.Internal.Opens.{OpensStream, stream_of}

-- how a file was opened, if its bytes are known
pub opened_known : (profile : Profile) (r : Standing) (file at : List ℕ) → open_read (scope_in profile) file ≡ Ok ((r.head, r.place), at) → PlaceReached (scope_in profile) (Some file) (Some at) r.head r.place r.offset → EndsThere r → streams_reached (scope_in profile) r.place r.others file →
    notes_reached (scope_in profile) r.place r.end r.cued r.after r.open_ended file at → OpensAt profile r.head r file at
opened_known profile r file at known reached ends streams kinds = record {
  opens = known;
  reached = reached;
  ends = ends;
  others = others_here (scope_in profile) r.place r.offset r.others r.end r.cued r.after r.open_ended file at streams kinds;
}

module _ (profile : Profile) (i0 i1 i2 i3 : Option (List ℕ)) (ib im ia ic : ℕ) (r : Standing) (a : Accepted) (opens : OpensStream profile r a (between i0 i1 ib im)) (stands : Stands (scope_in profile) i0 i1 r) (course : Course) (cued : Bool)
    (cues : CuedBy (cued_left r.place (course_of r) false) i1 i2 cued) (goes : Goes r i1 i2 course) where
  end_read : (is : List Given) (Looked : ℕ → Looks) (o0 o1 o2 o3 : Option (List ℕ)) → Known o0 o1 (λ file rest. open_read (scope_in profile) file ≡ Ok ((r.head, r.place), rest)) → PlaceReached (scope_in profile) o0 o1 r.head r.place r.offset →
      Known o0 o1 (λ file rest. streams_reached (scope_in profile) r.place r.others file) → Known o0 o1 (notes_reached (scope_in profile) r.place r.end r.cued r.after r.open_ended) →
      CuedBy (cued_left r.place (course_of r) false) o1 o2 cued → Goes r o1 o2 course → Known o1 o2 (ItemsFrom r.place (course_of r) is (ItemsOver (length is))) → Known o2 o3 (λ text rest. Looked r.end (items_noted r course cued) text rest) → Known o0 o3 (ItemsEnd profile r.head is Looked)
  end_read is Looked None o1 o2 o3 known reached streams kinds same to has looked = tt
  end_read is Looked (Some file) None o2 o3 known reached streams kinds same to has looked = absurd known
  end_read is Looked (Some file) (Some at) None o3 known reached streams kinds same to has looked = absurd has
  end_read is Looked (Some file) (Some at) (Some left) None known reached streams kinds same to has looked = absurd looked
  end_read is Looked (Some file) (Some at) (Some left) (Some rest) known reached streams kinds same to has looked = (r, at, left, opened_known profile r file at known reached stands.ends streams kinds, has, looks_there r course cued Looked at left rest same to looked)

  pub end_known : (is : List Given) (Looked : ℕ → Looks) → Known i1 i2 (ItemsFrom r.place (course_of r) is (ItemsOver (length is))) → Known i2 i3 (λ text rest. Looked r.end (items_noted r course cued) text rest) → Known i0 i3 (ItemsEnd profile r.head is Looked)
  end_known is Looked has looked = end_read is Looked i0 i1 i2 i3 opens.known stands.reached.whole stands.noted.streams stands.noted.known cues goes has looked

  module _ (place : Bool) (o0 o1 o2 : Option (List ℕ)) (ob om oa : ℕ) (xs : List JudgedItem) (counts : JudgedCounts) (were : AreItemCounts counts xs) (all : ItemsAll (ItemsFrom r.place (course_of r)) a place (between i1 i2 im ia) (between o0 o1 ob om) xs) where
    abbrev lines : List JudgedItem → List ℕ
    lines ys = item_lines place a.configuration ys

    pub came : (o : Option (List ℕ)) (n : ℕ) (Looked : ℕ → Looks) → Known i2 i3 (λ text rest. Looked r.end (items_noted r course cued) text rest) → ItemsCame profile place (between i0 i3 ib ic) (between o0 o ob n) (stream_of r a) xs Looked
    came o n Looked looked = record {
      is = opens.stream;
      are = all.go.are;
      ends = end_known (map given_as xs) Looked
          (subst (λ n. Known i1 i2 (ItemsFrom r.place (course_of r) (map given_as xs) (ItemsOver n))) (sym (length-map xs given_as)) all.go.has) looked;
    }

    -- what was told
    abbrev Told : JudgedCounts → Notes → Type 0
    Told = ToldBehind (ItemsThen profile) (ItemsEnd profile) profile place i0 i2 i3 ib ia ic r a course cued o0 o1 o2 ob om oa xs counts were came all.wrote.writes all.wrote.written (all.kept ∙ opens.kept)

    pub behind_told : (new : JudgedCounts) (notes : Notes) → BehindAnswers r course cued (between i2 i3 ia ic) (between o1 o2 om oa) counts new (Ok notes) → Told new notes
    behind_told new notes h = told_behind (ItemsThen profile) (ItemsEnd profile) profile place i0 i2 i3 ib ia ic r a course cued o0 o1 o2 ob om oa xs counts were came all.wrote.writes all.wrote.written (all.kept ∙ opens.kept) new notes h

    pub all_ended : (new : JudgedCounts) (notes : Notes) (told : Told new notes) (o : Option (List ℕ)) (n : ℕ) → ItemsEnded profile place (between i0 i3 ib ic) (between o0 o ob n) (stream_of r a) xs told.behind notes
    all_ended new notes told o n = ended (ItemsThen profile) (ItemsEnd profile) profile place i0 i2 i3 ib ia ic r a course cued o0 o1 o2 ob om oa xs counts were came all.wrote.writes all.wrote.written (all.kept ∙ opens.kept) new notes told o n

    -- what stands there was not told
    pub behind_fails : (f : Fault) → BehindFailsBy r course cued (between i2 i3 ia ic) (between o1 o2 om oa) (cause_of f) → ItemsFault profile place (between i0 i3 ib ic) (between o0 o2 ob oa) f
    behind_fails f h = inr (inr (inl (end_fails_by (ItemsThen profile) (ItemsEnd profile) profile place i0 i2 i3 ib ia ic r a course cued o0 o1 o2 ob om oa xs counts were came all.wrote.writes all.wrote.written (all.kept ∙ opens.kept) (cause_of f) h)))

    module _ (new : JudgedCounts) (notes : Notes) (answer : BehindAnswers r course cued (between i2 i3 ia ic) (between o1 o2 om oa) counts new (Ok notes)) where
      there : Told new notes
      there = behind_told new notes answer

      -- there is neither an item nor another file
      pub none_on : new.frames ≡ 0 → new.faults ≡ 0 → ItemsFault profile place (between i0 i3 ib ic) (between o0 o2 ob oa) fault.NoFrames
      none_on frames faults = no_items profile place (between i0 i3 ib ic) o0 o2 ob oa (stream_of r a) xs there.behind notes new (all_ended new notes there) there.counted (there.written ∙ all.wrote.written) there.writes frames faults

      module _ (o3 : Option (List ℕ)) (oc : ℕ) where
        -- the last line is not written
        pub uncounted_on : (f : Fault) → WritesFrame (counts_line new.frames new.faults) (between o2 o3 oa oc) (Err f) → ItemsFault profile place (between i0 i3 ib ic) (between o0 o3 ob oc) f
        uncounted_on f h = count_fails profile place (between i0 i3 ib ic) o0 o2 ob oa (stream_of r a) xs there.behind notes new (all_ended new notes there) there.counted (there.written ∙ all.wrote.written) there.writes o3 oc f h

        pub done_on : (new.frames ≡ 0 → new.faults ≡ 0 → ⊥) → oc ≡ oa → Appends o2 o3 (counts_line new.frames new.faults) → ItemsDone profile place (between i0 i3 ib ic) (between o0 o3 ob oc) new.first notes
        done_on some same line = items_done profile place (between i0 i3 ib ic) o0 o2 ob oa (stream_of r a) xs there.behind notes new (all_ended new notes there) there.counted (there.written ∙ all.wrote.written) there.writes o3 oc some same line
