-- What stands behind the items of a file that are unpacked is told, however it was opened.
use Rattle.std.proofs.Common.{◌≡◌, refl, ℕ, Bool, Option, Ok, List, [], ◌∷◌, ◌++◌, length, map, inl, inr, ap, sym, subst, ◌∙◌, append-nil, arith}
use Rattle.std.specs.Io.KnownBytes.{Appends}
use Rattle.std.proofs.KnownBytes.{Appends-trans, Appends-kept}
use Rattle.ffv1_range.specs.Counts.{saturated}
use Rattle.ffv1_wire.specs.Failures.{one_more}
use Rattle.ffv1_wire.specs.Passage.{Passage, between}
use Rattle.ffv1_reads.specs.Head.{Head}
use Rattle.ffv1_reads.specs.Known.{Known}
use Rattle.ffv1_reads.specs.declared.fault.FileFault.TheVariants as file_fault
use Rattle.ffv1_reads.specs.Items.{Given}
use Rattle.ffv1_files.specs.Behind.{items_noted}
use Rattle.ffv1_files.specs.Readers.{Standing}
use Rattle.ffv1_files.specs.declared.course.Course.{Course}
use Rattle.ffv1_files.specs.declared.notes.Notes.{Notes}
use Rattle.ffv1_video.specs.declared.profile.Profile.{Profile}
use Rattle.ffv1_video.specs.declared.fault.Fault.{Fault}
use Rattle.ffv1_video.specs.declared.fault.Fault.TheVariants as fault
use Rattle.ffv1_video.specs.Faults.{Cause, cause_of}
use Rattle.ffv1_video.specs.Faults.Cause.{Reading, Writing, Memory, Content}
use Rattle.ffv1_video.proofs.KnownTexts.{known_map}
use Rattle.ffv1_unpack.specs.Behind.{Looks}
use Rattle.ffv1_unpack.specs.ItemsEnd.{BeginsAnother, EndTold}
use Rattle.ffv1_unpack.specs.JudgedItems.{IsJudgedItem, ItemsNext, JudgedItem, ToldAt, frames_of, given_as, told_line}
use Rattle.ffv1_unpack.specs.declared.judging.JudgedCounts.{JudgedCounts}
use Rattle.ffv1_unpack.specs.Internal.ItemsEnd.{BehindAnswers, BehindFailsBy}
use Rattle.ffv1_unpack.specs.Stream.{AreAll, IsStream, Stream}
use Rattle.ffv1_unpack.specs.Salvaged.{salvage_faults, salvage_lines, shown}
use Rattle.ffv1_unpack.specs.UnpackAll.{AreSalvageCounts, LinesTold, SalvageDoneBy, SalvageEndFailsBy, SalvageRefused, SalvagedBy}
use Rattle.ffv1_unpack.specs.Unpacked.{HasText, is_ppm_stream, text_of}
use Rattle.ffv1_unpack.proofs.ItemsEnding.{none_each}
use Rattle.ffv1_unpack.proofs.FileRead.{no_items, positive}
use Rattle.ffv1_unpack.proofs.FileSalvaged.{none_came}
use Rattle.ffv1_unpack.specs.Plays.{BehindReadFails}
use Rattle.ffv1_unpack.proofs.ItemsJudged.{up_to}
use Rattle.ffv1_unpack.proofs.SalvageLists.{counted_told, lines_more}

-- the items of a stream, of which the lines and the pictures were written
pub record ItemsKept (profile : Profile) (s : Stream) (xs : List JudgedItem) (counts : JudgedCounts) (l0 l1 : Option (List ℕ)) (lb lm : ℕ) (output : Passage) : Type 0 where
  pub is : IsStream profile s
  pub text : HasText s
  pub are : AreAll (IsJudgedItem s.accepted) xs
  pub counted : AreSalvageCounts (is_ppm_stream s) counts xs
  pub told : lm ≡ lb
  pub lines : Appends l0 l1 (salvage_lines (is_ppm_stream s) xs)
  pub showed : output.after ≡ output.before
  pub pictures : Appends output.old output.new (text_of s (shown xs))

module _ (Then : Head → List Given → ItemsNext → List ℕ → List ℕ → Type 0) (End : Head → List Given → (ℕ → Looks) → List ℕ → List ℕ → Type 0) (profile : Profile) (i0 i2 i3 : Option (List ℕ)) (ib ia ic : ℕ) (s : Stream) (last : Standing) (course : Course) (cued : Bool)
    (l0 l1 l2 : Option (List ℕ)) (lb lm la : ℕ) (output : Passage) (xs : List JudgedItem) (counts : JudgedCounts) (all : ItemsKept profile s xs counts l0 l1 lb lm output) (kept : ia ≡ ib)
    (ends_told : (told : List JudgedItem) (notes : Notes) → Known i2 i3 (λ text rest. EndTold told notes last.end (items_noted last course cued) text rest) → Known i0 i3 (End s.head (map given_as xs) (EndTold told notes)))
    (ends_so : (Looked : Looks) → Known i2 i3 (Looked (items_noted last course cued)) → Known i0 i3 (End s.head (map given_as xs) (λ at. Looked)))
    (ends_another : Known i2 i3 (BeginsAnother (items_noted last course cued)) → Known i0 i3 (End s.head (map given_as xs) (λ at reading text rest. (at ≡ last.end) × BeginsAnother reading text rest))) where
  abbrev ppm : Bool
  ppm = is_ppm_stream s

  abbrev Whole : Passage
  Whole = between i0 i3 ib ic

  abbrev Lines : Passage
  Lines = between l0 l2 lb la

  salvaged : (Looked : ℕ → Looks) → Known i0 i3 (End s.head (map given_as xs) Looked) → SalvagedBy Then End profile Whole Lines output s xs Looked
  salvaged Looked ends = record { is = all.is; text = all.text; are = all.are; ends = ends; showed = record { written = all.showed; writes = all.pictures } }

  -- what was told
  pub record SalvageTold (new : JudgedCounts) (notes : Notes) : Type 0 where
    pub behind : List JudgedItem
    pub looked : Known i2 i3 (λ text rest. EndTold behind notes last.end (items_noted last course cued) text rest)
    pub kept_on : ic ≡ ia
    pub counted : AreSalvageCounts ppm new (xs ++ behind)
    pub written : la ≡ lb
    pub writes : Appends l0 l2 (salvage_lines ppm (xs ++ behind))

  pub salvage_told : (new : JudgedCounts) (notes : Notes) → BehindAnswers last course cued (between i2 i3 ia ic) (between l1 l2 lm la) counts new (Ok notes) → SalvageTold new notes
  salvage_told new notes (inl (read, none, same)) = record {
    behind = [];
    looked = known_map i2 i3 _ (λ text rest. EndTold [] notes last.end (items_noted last course cued) text rest) (λ text rest is. inl (refl, is)) read.1;
    kept_on = read.0;
    counted = rw same (subst (AreSalvageCounts ppm counts) (sym (append-nil xs)) all.counted);
    written = none.same ∙ all.told;
    writes = subst (λ ys. Appends l0 l2 (salvage_lines ppm ys)) (sym (append-nil xs)) (Appends-kept l0 l1 l2 (salvage_lines ppm xs) all.lines none.kept);
  }
  salvage_told new notes (inr (another, none, same, writes, is)) = record {
    behind = ToldAt file_fault.Another last.end ∷ [];
    looked = known_map i2 i3 _ (λ text rest. EndTold (ToldAt file_fault.Another last.end ∷ []) notes last.end (items_noted last course cued) text rest) (λ text rest is. inr (refl, none, is)) another.is;
    kept_on = another.kept;
    counted = counted_told ppm xs counts new all.counted file_fault.Another last.end is;
    written = same ∙ all.told;
    writes = subst (Appends l0 l2) (sym (lines_more ppm xs (ToldAt file_fault.Another last.end))) (Appends-trans l0 l1 l2 (salvage_lines ppm xs) (told_line last.end file_fault.Another) all.lines writes);
  }

  -- what stands there was not told
  fails_by : (why : Cause) → BehindFailsBy last course cued (between i2 i3 ia ic) (between l1 l2 lm la) why → SalvageEndFailsBy Then End profile Whole Lines output why
  fails_by Writing (another, failed, (k, short, writes)) = (
    s,
    xs,
    last.end,
    salvaged (λ at reading text rest. (at ≡ last.end) × BeginsAnother reading text rest) (ends_another another.is),
    another.kept ∙ kept,
    failed ∙ ap one_more all.told,
    up_to l0 l1 l2 (length (salvage_lines ppm xs)) (salvage_lines ppm xs) (told_line last.end file_fault.Another) (salvage_lines ppm (xs ++ (ToldAt file_fault.Another last.end ∷ []))) refl (lines_more ppm xs (ToldAt file_fault.Another last.end)) all.lines k short writes,
  )
  fails_by Reading (none, failed, wants) = (
    s,
    xs,
    salvaged (λ at. BehindReadFails) (ends_so BehindReadFails wants),
    failed ∙ ap one_more kept,
    record { written = none.same ∙ all.told; writes = Appends-kept l0 l1 l2 (salvage_lines ppm xs) all.lines none.kept },
  )
  fails_by Memory (none, another) = (
    s,
    xs,
    salvaged (λ at. BeginsAnother) (ends_so BeginsAnother another.is),
    another.kept ∙ kept,
    record { written = none.same ∙ all.told; writes = Appends-kept l0 l1 l2 (salvage_lines ppm xs) all.lines none.kept },
  )
  fails_by Content h = absurd h

  pub end_fails : (f : Fault) → BehindFailsBy last course cued (between i2 i3 ia ic) (between l1 l2 lm la) (cause_of f) → SalvageRefused Then End profile Whole Lines output f
  end_fails f h = inr (inl (fails_by (cause_of f) h))

  module _ (new : JudgedCounts) (notes : Notes) (end : SalvageTold new notes) where
    lines_are : LinesTold (Then s.head) s Whole Lines output (xs ++ end.behind)
    lines_are = record { written = end.written; writes = end.writes }

    empty : new.frames ≡ 0 → new.faults ≡ 0 → (xs ++ end.behind) ≡ []
    empty no_frame no_fault =
        let frames = end.counted.frames in
        let faults = end.counted.faults in
        none_came ppm (xs ++ end.behind) (omega (arith, frames, no_frame)) (omega (arith, faults, no_fault))

    pub end_none : new.frames ≡ 0 → new.faults ≡ 0 → SalvageRefused Then End profile Whole Lines output fault.NoFrames
    end_none no_frame no_fault =
        let none = empty no_frame no_fault in
        let each = none_each xs end.behind none in
        inr (inr (
          refl,
          record {
            stream = s;
            notes = notes;
            all = subst (λ z. SalvagedBy Then End profile Whole Lines output s z (EndTold [] notes)) each.0
                (subst (λ z. SalvagedBy Then End profile Whole Lines output s xs (EndTold z notes)) each.1 (salvaged (EndTold end.behind notes) (ends_told end.behind notes end.looked)));
            told = subst (LinesTold (Then s.head) s Whole Lines output) none lines_are;
            kept = end.kept_on ∙ kept;
          },
        ))

    pub end_done : (new.frames ≡ 0 → new.faults ≡ 0 → ⊥) → SalvageDoneBy Then End profile Whole Lines output new notes
    end_done some = record {
      stream = s;
      xs = xs;
      behind = end.behind;
      some = positive (xs ++ end.behind) (λ none. nothing none);
      all = salvaged (EndTold end.behind notes) (ends_told end.behind notes end.looked);
      told = lines_are;
      kept = end.kept_on ∙ kept;
      counted = end.counted;
    }
      where
        nothing : length (xs ++ end.behind) ≡ 0 → ⊥
        nothing none =
            let bare : (xs ++ end.behind) ≡ [] = no_items (xs ++ end.behind) none in
            some (end.counted.frames ∙ ap (λ z. saturated (length (frames_of z))) bare) (end.counted.faults ∙ ap (λ z. saturated (length (salvage_faults ppm z))) bare)

    pub end_items : (some : new.frames ≡ 0 → new.faults ≡ 0 → ⊥) → (end_done some).xs ≡ xs
    unfolding end_done
    end_items some = refl
