-- What stands behind the items of a file is told, and the last line is written, however it was opened.
use Rattle.std.proofs.Common.{◌≡◌, refl, ℕ, Bool, Option, Ok, Err, List, [], ◌∷◌, ◌++◌, length, inl, inr, ap, sym, subst, ◌∙◌, append-nil, arith}
use Rattle.std.specs.Io.KnownBytes.{Appends}
use Rattle.std.proofs.KnownBytes.{Appends-trans, Appends-kept}
use Rattle.ffv1_range.specs.Counts.{saturated}
use Rattle.ffv1_wire.specs.Failures.{one_more}
use Rattle.ffv1_wire.specs.Passage.{Passage, between}
use Rattle.ffv1_record.specs.Accepted.{Accepted}
use Rattle.ffv1_reads.specs.Head.{Head}
use Rattle.ffv1_reads.specs.Known.{Known}
use Rattle.ffv1_reads.specs.declared.fault.FileFault.TheVariants as file_fault
use Rattle.ffv1_reads.specs.Items.{Given}
use Rattle.ffv1_files.specs.Behind.{items_noted}
use Rattle.ffv1_files.specs.Readers.{Standing}
use Rattle.ffv1_files.specs.declared.course.Course.{Course}
use Rattle.ffv1_files.specs.declared.notes.Notes.{Notes}
use Rattle.ffv1_video.specs.declared.profile.Profile.{Profile}
use Rattle.ffv1_video.specs.declared.fault.Fault.{Fault}
use Rattle.ffv1_video.specs.declared.fault.Fault.TheVariants as fault
use Rattle.ffv1_video.specs.Faults.{Cause, cause_of}
use Rattle.ffv1_video.specs.Faults.Cause.{Reading, Writing, Memory, Content}
use Rattle.ffv1_video.proofs.KnownTexts.{known_map}
use Rattle.ffv1_unpack.specs.AllItems.{CameBy, CountFailBy, DoneBy, EndFailBy, EndedBy, StopsBy}
use Rattle.ffv1_unpack.specs.Behind.{Looks}
use Rattle.ffv1_unpack.specs.ItemsEnd.{BeginsAnother, EndTold}
use Rattle.ffv1_unpack.specs.Judged.{counts_line}
use Rattle.ffv1_unpack.specs.JudgedItems.{ItemsNext, JudgedItem, OfFrame, ToldAt, faults_of, frames_of, item_count, item_lines, told_line}
use Rattle.ffv1_unpack.specs.Plays.{BehindReadFails}
use Rattle.ffv1_unpack.specs.Stream.{Stream}
use Rattle.ffv1_unpack.specs.declared.judging.JudgedCounts.{JudgedCounts}
use Rattle.ffv1_unpack.specs.Internal.ItemsEnd.{BehindAnswers, BehindFailsBy}
use Rattle.ffv1_unpack.specs.Internal.JudgedItems.{AreItemCounts}
use Rattle.ffv1_unpack.specs.Internal.Opens.{stream_of}
use Rattle.ffv1_unpack.specs.Internal.Told.{WritesFrame}
use Rattle.ffv1_unpack.proofs.FaultsLocated.{none_appended}
use Rattle.ffv1_unpack.proofs.FileRead.{no_items as nothing_in, positive}
use Rattle.ffv1_unpack.proofs.ItemsJudged.{counts_more, lines_more, up_to}

-- neither a frame nor a fault: no item
none_came : (xs : List JudgedItem) → length (frames_of xs) ≡ 0 → length (faults_of xs) ≡ 0 → xs ≡ []
none_came [] no_frame no_fault = refl
none_came (OfFrame j ∷ xs) no_frame no_fault = absurd (omega (arith, no_frame))
none_came (ToldAt f offset ∷ xs) no_frame no_fault = absurd (omega (arith, no_fault))

pub none_each : (xs ys : List JudgedItem) → xs ++ ys ≡ [] → (xs ≡ []) × (ys ≡ [])
none_each [] ys none = (refl, none)
none_each (x ∷ xs) ys none = absurd (cc (none))

module _ (Then : Head → List Given → ItemsNext → List ℕ → List ℕ → Type 0) (End : Head → List Given → (ℕ → Looks) → List ℕ → List ℕ → Type 0) (profile : Profile) (place : Bool) where
  module _ (i0 i2 i3 : Option (List ℕ)) (ib ia ic : ℕ) (r : Standing) (a : Accepted) (course : Course) (cued : Bool) (o0 o1 o2 : Option (List ℕ)) (ob om oa : ℕ) (xs : List JudgedItem) (counts : JudgedCounts) (were : AreItemCounts counts xs)
      (came : (o : Option (List ℕ)) (n : ℕ) (Looked : ℕ → Looks) → Known i2 i3 (λ text rest. Looked r.end (items_noted r course cued) text rest) → CameBy Then End profile place (between i0 i3 ib ic) (between o0 o ob n) (stream_of r a) xs Looked)
      (writes_items : Appends o0 o1 (item_lines place a.configuration xs)) (items_written : om ≡ ob) (items_kept : ia ≡ ib) where
    abbrev lines : List JudgedItem → List ℕ
    lines ys = item_lines place a.configuration ys

    -- what was told
    pub record ToldBehind (new : JudgedCounts) (notes : Notes) : Type 0 where
      pub behind : List JudgedItem
      pub looked : Known i2 i3 (λ text rest. EndTold behind notes r.end (items_noted r course cued) text rest)
      pub kept : ic ≡ ia
      pub counted : AreItemCounts new (xs ++ behind)
      pub written : oa ≡ om
      pub writes : Appends o0 o2 (lines (xs ++ behind))

    pub told_behind : (new : JudgedCounts) (notes : Notes) → BehindAnswers r course cued (between i2 i3 ia ic) (between o1 o2 om oa) counts new (Ok notes) → ToldBehind new notes
    told_behind new notes (inl (read, none, same)) = record {
      behind = [];
      looked = known_map i2 i3 _ (λ text rest. EndTold [] notes r.end (items_noted r course cued) text rest) (λ text rest is. inl (refl, is)) read.1;
      kept = read.0;
      counted = rw same (subst (AreItemCounts counts) (sym (append-nil xs)) were);
      written = none.same;
      writes = subst (λ ys. Appends o0 o2 (lines ys)) (sym (append-nil xs)) (Appends-kept o0 o1 o2 (lines xs) writes_items none.kept);
    }
    told_behind new notes (inr (another, none, same, writes, is)) = record {
      behind = ToldAt file_fault.Another r.end ∷ [];
      looked = known_map i2 i3 _ (λ text rest. EndTold (ToldAt file_fault.Another r.end ∷ []) notes r.end (items_noted r course cued) text rest) (λ text rest is. inr (refl, none, is)) another.is;
      kept = another.kept;
      counted = rw is (counts_more counts xs (ToldAt file_fault.Another r.end) were);
      written = same;
      writes = subst (Appends o0 o2) (sym (lines_more place a.configuration xs counts.frames were.frames (ToldAt file_fault.Another r.end)))
          (Appends-trans o0 o1 o2 (lines xs) (told_line r.end file_fault.Another) writes_items writes);
    }

    pub ended : (new : JudgedCounts) (notes : Notes) (told : ToldBehind new notes) (o : Option (List ℕ)) (n : ℕ) → EndedBy Then End profile place (between i0 i3 ib ic) (between o0 o ob n) (stream_of r a) xs told.behind notes
    ended new notes told o n = record { came = came o n (EndTold told.behind notes) told.looked; kept = told.kept ∙ items_kept }

    -- what stands there was not told
    pub end_fails_by : (why : Cause) → BehindFailsBy r course cued (between i2 i3 ia ic) (between o1 o2 om oa) why → EndFailBy Then End profile place (between i0 i3 ib ic) (between o0 o2 ob oa) why
    end_fails_by Writing (another, failed, (k, short, writes)) = (
      stream_of r a,
      xs,
      r.end,
      came o2 oa (λ at reading text rest. (at ≡ r.end) × BeginsAnother reading text rest) (known_map i2 i3 _ (λ text rest. (r.end ≡ r.end) × BeginsAnother (items_noted r course cued) text rest) (λ text rest is. (refl, is)) another.is),
      another.kept ∙ items_kept,
      failed ∙ ap one_more items_written,
      up_to o0 o1 o2 (length (lines xs)) (lines xs) (told_line r.end file_fault.Another) (lines (xs ++ (ToldAt file_fault.Another r.end ∷ []))) refl
          (lines_more place a.configuration xs counts.frames were.frames (ToldAt file_fault.Another r.end)) writes_items k short writes,
    )
    end_fails_by Reading (none, failed, wants) = (
      stream_of r a,
      xs,
      came o2 oa (λ at. BehindReadFails) wants,
      failed ∙ ap one_more items_kept,
      record { written = none.same ∙ items_written; writes = Appends-kept o0 o1 o2 (lines xs) writes_items none.kept },
    )
    end_fails_by Memory (none, another) = (
      stream_of r a,
      xs,
      came o2 oa (λ at. BeginsAnother) another.is,
      another.kept ∙ items_kept,
      record { written = none.same ∙ items_written; writes = Appends-kept o0 o1 o2 (lines xs) writes_items none.kept },
    )
    end_fails_by Content h = absurd h

  -- all came, and what stands behind them was told
  module _ (input : Passage) (o0 o2 : Option (List ℕ)) (ob oa : ℕ) (s : Stream) (xs behind : List JudgedItem) (notes : Notes) (counts : JudgedCounts)
      (ends : (o : Option (List ℕ)) (n : ℕ) → EndedBy Then End profile place input (between o0 o ob n) s xs behind notes) (counted : AreItemCounts counts (xs ++ behind)) (written : oa ≡ ob) (writes : Appends o0 o2 (item_lines place s.accepted.configuration (xs ++ behind))) where
    abbrev all : List JudgedItem
    all = xs ++ behind

    abbrev all_lines : List ℕ
    all_lines = item_lines place s.accepted.configuration all

    nothing_came : counts.frames ≡ 0 → counts.faults ≡ 0 → all ≡ []
    nothing_came no_frame no_fault =
        let frames = counted.frames in
        let faults = counted.faults in
        none_came all (omega (arith, frames, no_frame)) (omega (arith, faults, no_fault))

    pub none_judged : counts.frames ≡ 0 → counts.faults ≡ 0 → StopsBy Then End profile place input (between o0 o2 ob oa) fault.NoFrames
    none_judged no_frame no_fault =
        let empty = nothing_came no_frame no_fault in
        let neither = none_each xs behind empty in
        inr (inr (
          refl,
          s,
          notes,
          subst (λ z. EndedBy Then End profile place input (between o0 o2 ob oa) s z [] notes) neither.0 (subst (λ z. EndedBy Then End profile place input (between o0 o2 ob oa) s xs z notes) neither.1 (ends o2 oa)),
          record { same = written; kept = none_appended o0 o2 (subst (λ z. Appends o0 o2 (item_lines place s.accepted.configuration z)) empty writes) },
        ))

    module _ (o3 : Option (List ℕ)) (oc : ℕ) where
      fails_by : (f : Fault) (why : Cause) → CountFailBy Then End profile place input (between o0 o3 ob oc) f why → cause_of f ≡ why → StopsBy Then End profile place input (between o0 o3 ob oc) f
      fails_by f why h is = inr (inr (subst (CountFailBy Then End profile place input (between o0 o3 ob oc) f) (sym is) h))

      counted_line : WritesFrame (counts_line counts.frames counts.faults) (between o2 o3 oa oc) (Ok tt) → Appends o2 o3 (item_count all)
      counted_line h =
          subst (λ n. Appends o2 o3 (counts_line (saturated (length (frames_of all))) n)) counted.faults
          (subst (λ n. Appends o2 o3 (counts_line n counts.faults)) counted.frames h.1)

      pub count_stops : (f : Fault) → WritesFrame (counts_line counts.frames counts.faults) (between o2 o3 oa oc) (Err f) → StopsBy Then End profile place input (between o0 o3 ob oc) f
      count_stops f h =
          elim (subst (λ n. WritesFrame (counts_line (saturated (length (frames_of all))) n) (between o2 o3 oa oc) (Err f)) counted.faults
          (subst (λ n. WritesFrame (counts_line n counts.faults) (between o2 o3 oa oc) (Err f)) counted.frames h)) [
            | inl write ↦
                fails_by f Writing (
                  s,
                  xs,
                  behind,
                  notes,
                  ends o3 oc,
                  write.1 ∙ ap one_more written,
                  up_to o0 o2 o3 (length all_lines) all_lines (item_count all) (all_lines ++ item_count all) refl refl writes write.2.0 write.2.1 write.2.2,
                ) (ap cause_of write.0)
            | inr none ↦
                fails_by f Memory (
                  s,
                  xs,
                  behind,
                  notes,
                  ends o3 oc,
                  record { written = none.1 ∙ written; writes = Appends-kept o0 o2 o3 all_lines writes none.2 },
                ) (ap cause_of none.0)
          ]

      pub all_done : (counts.frames ≡ 0 → counts.faults ≡ 0 → ⊥) → oc ≡ oa → Appends o2 o3 (counts_line counts.frames counts.faults) → DoneBy Then End profile place input (between o0 o3 ob oc) counts.first notes
      all_done some same line = record {
        stream = s;
        xs = xs;
        behind = behind;
        some = positive all (λ none. nothing none);
        ended = ends o3 oc;
        written = same ∙ written;
        writes = Appends-trans o0 o2 o3 all_lines (item_count all) writes (counted_line (same, line));
        told = counted.first;
      }
        where
          nothing : length all ≡ 0 → ⊥
          nothing none =
              let empty : all ≡ [] = nothing_in all none in
              let frames : counts.frames ≡ 0 = counted.frames ∙ ap (λ z. saturated (length (frames_of z))) empty in
              let faults : counts.faults ≡ 0 = counted.faults ∙ ap (λ z. saturated (length (faults_of z))) empty in
              some frames faults
