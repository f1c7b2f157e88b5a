-- All items of a file are judged.
use Rattle.std.proofs.Common.{◌≡◌, ℕ, Bool, Option, Some, None, Ok, Err, List, [], ◌++◌, inl, inr, ap, ◌∙◌}
use Rattle.std.specs.Io.KnownBytes.{Appends}
use Rattle.ffv1_wire.specs.Failures.{one_more}
use Rattle.ffv1_wire.specs.Passage.{Passage, between}
use Rattle.ffv1_record.specs.Accepted.{Accepted}
use Rattle.ffv1_reads.specs.Known.{Known}
use Rattle.ffv1_reads.specs.Items.{Given}
use Rattle.ffv1_files.specs.Files.{open_read}
use Rattle.ffv1_files.specs.Items.{course_of}
use Rattle.ffv1_files.specs.Offsets.{PlaceReached, Reached}
use Rattle.ffv1_files.specs.Readers.{Standing}
use Rattle.ffv1_video.specs.declared.profile.Profile.{Profile}
use Rattle.ffv1_video.specs.declared.fault.Fault.{Fault}
use Rattle.ffv1_video.specs.declared.fault.Fault.TheVariants as fault
use Rattle.ffv1_video.specs.Faults.{Cause, cause_of}
use Rattle.ffv1_video.specs.Faults.Cause.{Reading, Writing, Memory, Content}
use Rattle.ffv1_video.specs.Profiles.{byte_told, scope_in}
use Rattle.ffv1_video.proofs.KnownTexts.{known_map, known_then}
use Rattle.ffv1_files.specs.declared.notes.Notes.{Notes}
use Rattle.ffv1_unpack.specs.declared.judging.JudgedCounts.{JudgedCounts}
use Rattle.ffv1_unpack.specs.Judged.{counts_line}
use Rattle.ffv1_unpack.specs.AllItems.{ItemsDone, ItemsEnded, ItemsFault}
use Rattle.ffv1_unpack.specs.ItemsEnd.{ItemsEnd}
use Rattle.ffv1_unpack.proofs.ItemsEnding.{all_done, count_stops, none_judged}
use Rattle.ffv1_unpack.specs.JudgedItems.{ItemsFrom, ItemsGo, ItemsLack, ItemsNext, ItemsStay, ItemsStopBy, ItemsThen, ItemsWant, ItemsWritten, JudgedItem, item_lines}
use Rattle.ffv1_unpack.specs.Located.{LocatedFault, WritesLine, located_text}
use Rattle.ffv1_unpack.specs.Opens.{LacksOpening}
use Rattle.ffv1_unpack.specs.Internal.JudgedItems.{AreItemCounts}
use Rattle.ffv1_unpack.specs.Internal.Opens.{OpensStream, stream_of}
use Rattle.ffv1_unpack.specs.Internal.Told.{WritesFrame}
use Rattle.ffv1_unpack.specs.Stream.{Stream}

module _ (profile : Profile) (i0 i1 i2 : Option (List ℕ)) (ib im ia : ℕ) (r : Standing) (a : Accepted) (opens : OpensStream profile r a (between i0 i1 ib im)) (reached : Reached (scope_in profile) i0 i1 r) where
  abbrev Begins : List ℕ → List ℕ → Type 0
  Begins file rest = (open_read (scope_in profile) file ≡ Ok ((r.head, r.place), rest)) × PlaceReached (scope_in profile) (Some file) (Some rest) r.head r.place r.offset

  begins : (old mid : Option (List ℕ)) → Known old mid (λ file rest. open_read (scope_in profile) file ≡ Ok ((r.head, r.place), rest)) → PlaceReached (scope_in profile) old mid r.head r.place r.offset → Known old mid Begins
  begins None mid known whole = tt
  begins (Some file) None known whole = absurd known
  begins (Some file) (Some rest) known whole = (known, whole)

  -- what a file has after its head is what the file has
  pub has_file : (is : List Given) (Next : ItemsNext) → Known i1 i2 (ItemsFrom r.place (course_of r) is Next) → Known i0 i2 (ItemsThen profile r.head is Next)
  has_file is Next has =
      known_map i0 i2 (λ file rest. (left : List ℕ) × Begins file left × ItemsFrom r.place (course_of r) is Next left rest) (ItemsThen profile r.head is Next)
      (λ file rest p. (r.place, r.offset, p.0, p.1.0, p.1.1, p.2))
      (known_then i0 i1 i2 Begins (ItemsFrom r.place (course_of r) is Next) (begins i0 i1 opens.known reached.whole) has)

  module _ (place : Bool) (o0 o1 : Option (List ℕ)) (ob om : ℕ) where
    go_file : (xs : List JudgedItem) (Next : ItemsNext) → ItemsGo (ItemsFrom r.place (course_of r)) a place (between i1 i2 im ia) (between o0 o1 ob om) xs Next →
        ItemsGo (ItemsThen profile r.head) a place (between i0 i2 ib ia) (between o0 o1 ob om) xs Next
    go_file xs Next go = record { are = go.are; has = has_file _ Next go.has }

    wrote_file : (xs : List JudgedItem) → ItemsWritten (ItemsFrom r.place (course_of r)) a place (between i1 i2 im ia) (between o0 o1 ob om) xs →
        ItemsWritten (ItemsThen profile r.head) a place (between i0 i2 ib ia) (between o0 o1 ob om) xs
    wrote_file xs wrote = record { written = wrote.written; writes = wrote.writes }

    stops_file : (why : Cause) → ItemsStopBy (ItemsFrom r.place (course_of r)) a place (between i1 i2 im ia) (between o0 o1 ob om) why →
        ItemsStopBy (ItemsThen profile r.head) a place (between i0 i2 ib ia) (between o0 o1 ob om) why
    stops_file Writing (xs, go, same, failed, writes) = (xs, go_file xs ItemsStay go, same ∙ opens.kept, failed, writes)
    stops_file Reading (xs, go, failed, wrote) = (xs, go_file xs ItemsWant go, failed ∙ ap one_more opens.kept, wrote_file xs wrote)
    stops_file Memory (xs, go, same, wrote) = (xs, go_file xs (ItemsLack a) go, same ∙ opens.kept, wrote_file xs wrote)
    stops_file Content h = absurd h

    pub items_stop : (f : Fault) → ItemsStopBy (ItemsFrom r.place (course_of r)) a place (between i1 i2 im ia) (between o0 o1 ob om) (cause_of f) →
        ItemsFault profile place (between i0 i2 ib ia) (between o0 o1 ob om) f
    items_stop f h = inr (inl (record { stream = stream_of r a; is = opens.stream; stops = stops_file (cause_of f) h }))

-- all came, and what stands behind them was told
module _ (profile : Profile) (place : Bool) (input : Passage) (o0 o2 : Option (List ℕ)) (ob oa : ℕ) (s : Stream) (xs behind : List JudgedItem) (notes : Notes) (counts : JudgedCounts)
    (ended : (o : Option (List ℕ)) (n : ℕ) → ItemsEnded profile place input (between o0 o ob n) s xs behind notes) (counted : AreItemCounts counts (xs ++ behind)) (written : oa ≡ ob) (writes : Appends o0 o2 (item_lines place s.accepted.configuration (xs ++ behind))) where
  pub no_items : counts.frames ≡ 0 → counts.faults ≡ 0 → ItemsFault profile place input (between o0 o2 ob oa) fault.NoFrames
  no_items no_frame no_fault = inr (none_judged (ItemsThen profile) (ItemsEnd profile) profile place input o0 o2 ob oa s xs behind notes counts ended counted written writes no_frame no_fault)

  module _ (o3 : Option (List ℕ)) (oc : ℕ) where
    pub count_fails : (f : Fault) → WritesFrame (counts_line counts.frames counts.faults) (between o2 o3 oa oc) (Err f) → ItemsFault profile place input (between o0 o3 ob oc) f
    count_fails f h = inr (count_stops (ItemsThen profile) (ItemsEnd profile) profile place input o0 o2 ob oa s xs behind notes counts ended counted written writes o3 oc f h)

    pub items_done : (counts.frames ≡ 0 → counts.faults ≡ 0 → ⊥) → oc ≡ oa → Appends o2 o3 (counts_line counts.frames counts.faults) → ItemsDone profile place input (between o0 o3 ob oc) counts.first notes
    items_done some same line = all_done (ItemsThen profile) (ItemsEnd profile) profile place input o0 o2 ob oa s xs behind notes counts ended counted written writes o3 oc some same line

-- a file that is not opened
module _ (profile : Profile) (place : Bool) (i0 i1 o0 o1 : Option (List ℕ)) (ib im ob om : ℕ) where
  pub items_unopened : (f : Fault) (offset : ℕ) → LacksOpening profile (between i0 i1 ib im) f → LocatedFault (scope_in profile) (between i0 i1 ib im) f offset →
      WritesLine [] (located_text (byte_told profile place) 0 f offset) (between o0 o1 ob om) → ItemsFault profile place (between i0 i1 ib im) (between o0 o1 ob om) f
  items_unopened f offset h stops writes = inl (record { offset = offset; stops = stops; writes = writes }, h)
