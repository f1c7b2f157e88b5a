-- All items of a file are salvaged, and what stands behind them is told.
use Rattle.std.proofs.Common.{◌≡◌, ◌⊎◌, ◌-◌, ◌^◌, refl, ℕ, Bool, true, false, Option, Some, None, Ok, List, length, map, inl, inr, ap, sym, subst, ◌∙◌}
use Rattle.std.proofs.lemmas.List.{length-map}
use Rattle.ffv1_wire.specs.Passage.{Passage, between}
use Rattle.ffv1_record.specs.Accepted.{Accepted}
use Rattle.ffv1_reads.specs.Known.{Known}
use Rattle.ffv1_reads.specs.declared.fault.FileFault.TheVariants as file_fault
use Rattle.ffv1_matroska.specs.CuedItems.{CuedBy}
use Rattle.ffv1_reads.specs.Items.{Given}
use Rattle.ffv1_files.specs.Behind.{ends_there, items_noted, notes_read, notes_told}
use Rattle.ffv1_files.specs.Files.{open_read}
use Rattle.ffv1_files.specs.Items.{course_of}
use Rattle.ffv1_files.specs.Noted.{notes_reached}
use Rattle.ffv1_files.specs.Offsets.{PlaceReached}
use Rattle.ffv1_files.specs.Places.{InAvi, InMatroska, Place, container_of}
use Rattle.ffv1_files.specs.Readers.{Standing}
use Rattle.ffv1_files.specs.declared.container.Container.TheVariants as container
use Rattle.ffv1_files.specs.declared.course.Course.{Course}
use Rattle.ffv1_files.specs.declared.course.Course.TheVariants as course_variants
use Rattle.ffv1_files.specs.declared.notes.Notes.{Notes}
use Rattle.ffv1_video.specs.declared.profile.Profile.{Profile}
use Rattle.ffv1_video.specs.declared.profile.Profile.TheVariants.{Strict, Wide}
use Rattle.ffv1_video.specs.declared.fault.Fault.{Fault}
use Rattle.ffv1_video.specs.declared.fault.Fault.TheVariants as fault
use Rattle.ffv1_video.specs.Faults.{cause_of}
use Rattle.ffv1_video.specs.Profiles.{scope_in}
use Rattle.ffv1_video.proofs.KnownTexts.{known_map}
use Rattle.ffv1_unpack.specs.Behind.{Looks, NotedIn}
use Rattle.ffv1_unpack.specs.Containers.{IsReadOn}
use Rattle.ffv1_unpack.specs.ItemsEnd.{BeginsAnother, EndTold, ItemsEnd, course_left, cued_left}
use Rattle.ffv1_unpack.specs.JudgedItems.{ItemsFrom, ItemsOver, ItemsThen, JudgedItem, given_as}
use Rattle.ffv1_unpack.specs.Located.{Stands}
use Rattle.ffv1_unpack.specs.declared.judging.JudgedCounts.{JudgedCounts}
use Rattle.ffv1_unpack.specs.Internal.Plainly.{is_plain}
use Rattle.ffv1_unpack.specs.Internal.ItemsEnd.{BehindAnswers, BehindFailsBy}
use Rattle.ffv1_unpack.specs.Internal.Opens.{OpensStream, stream_of}
use Rattle.ffv1_unpack.specs.Stream.{Stream}
use Rattle.ffv1_unpack.specs.UnpackAll.{AreSalvageCounts, SalvageRefused, SalvagesAll, UnpackedPlainly}
use Rattle.ffv1_unpack.proofs.SalvageEnding as salvage_ending
use Rattle.ffv1_unpack.proofs.SalvageEnding.{ItemsKept, SalvageTold}
use Rattle.ffv1_unpack.specs.Unpacked.{HasText, is_ppm_stream}
use Rattle.ffv1_unpack.proofs.FileEnded.{end_known}
use Rattle.ffv1_unpack.proofs.ItemsCourse.{Goes, first_others, first_plain, plain_avi, plain_is}

-- of an AVI the place says nothing of what is noted
avi_noted_alike : (place from : Place) (end : ℕ) (now was : Bool) (after : Option ℕ) (repeated others : ℕ) (open_ended : Bool) → container_of place ≡ container.Avi → container_of from ≡ container.Avi → notes_read place end now after repeated others open_ended ≡ notes_read from end was after repeated others open_ended
unfolding notes_read notes_told
avi_noted_alike (InAvi p) (InAvi q) end now was after repeated others open_ended avi also = refl
avi_noted_alike (InAvi p) (InMatroska size track q) end now was after repeated others open_ended avi also = absurd (cc (also))
avi_noted_alike (InMatroska size track p) from end now was after repeated others open_ended avi also = absurd (cc (avi))

-- nor does it end at a place that was known before
avi_ends : (place : Place) (offset end : ℕ) → container_of place ≡ container.Avi → ends_there place offset end
avi_ends (InAvi p) offset end avi = tt
avi_ends (InMatroska size track p) offset end avi = absurd (cc (avi))

bool_either : (b : Bool) → (b ≡ true) ⊎ (b ≡ false)
bool_either true = inl refl
bool_either false = inr refl

module _ (profile : Profile) (i0 i1 i2 i3 : Option (List ℕ)) (ib im ia ic : ℕ) (r last : Standing) (a : Accepted) (opens : OpensStream profile r a (between i0 i1 ib im)) (stands : Stands (scope_in profile) i0 i1 r) (course : Course) (cued : Bool)
    (cues : CuedBy (cued_left r.place (course_of r) false) i1 i2 cued) (goes : Goes r i1 i2 course) (same : container_of last.place ≡ container_of r.place) (kind : is_plain course ≡ is_plain (course_of r)) (stays : is_plain (course_of r) ≡ false → last ≡ r) where
  -- what plain reading has come to, by where it began
  abbrev read_to : Standing
  read_to = record r { end = last.end; after = last.after; repeated = last.repeated; others = last.others; open_ended = last.open_ended }

  module _ (Looked : ℕ → Looks) (plain : is_plain (course_of r) ≡ true) where
    avi : container_of r.place ≡ container.Avi
    avi = plain_avi r.place r.offset plain

    noted_plainly : (c : Course) (was : Bool) → course ≡ c → items_noted last course cued ≡ items_noted read_to c was
    noted_plainly c was is =
        let bare : course ≡ course_variants.Plain = plain_is course (kind ∙ plain) in
        ap (λ z. items_noted last z cued) bare ∙ avi_noted_alike last.place r.place last.end cued was last.after last.repeated last.others last.open_ended (same ∙ avi) avi ∙ sym (ap (λ z. items_noted read_to z was) (sym is ∙ bare))

    plain_read : (is : List Given) (o0 o1 o2 o3 : Option (List ℕ)) → Known o0 o1 (λ file rest. open_read (scope_in profile) file ≡ Ok ((r.head, r.place), rest)) → PlaceReached (scope_in profile) o0 o1 r.head r.place r.offset → Goes r o1 o2 course →
        Known o1 o2 (ItemsFrom r.place (course_of r) is (ItemsOver (length is))) → Known o2 o3 (λ text rest. Looked last.end (items_noted last course cued) text rest) → Known o0 o3 (ItemsEnd profile r.head is Looked)
    plain_read is None o1 o2 o3 known reached to has looked = tt
    plain_read is (Some file) None o2 o3 known reached to has looked = absurd known
    plain_read is (Some file) (Some at) None o3 known reached to has looked = absurd has
    plain_read is (Some file) (Some at) (Some left) None known reached to has looked = absurd looked
    plain_read is (Some file) (Some at) (Some left) (Some rest) known reached to has looked = (
      read_to,
      at,
      left,
      record { opens = known; reached = reached; ends = avi_ends r.place r.offset last.end avi; others = first_others (course_of r) last.others file plain },
      has,
      subst (λ z. Looked last.end z left rest) (noted_plainly (course_left r.place (course_of r) at) (cued_left r.place (course_of r) false at) (to avi)) looked,
    )

  pub end_either : (Looked : ℕ → Looks) (is : List Given) → Known i1 i2 (ItemsFrom r.place (course_of r) is (ItemsOver (length is))) → Known i2 i3 (λ text rest. Looked last.end (items_noted last course cued) text rest) → Known i0 i3 (ItemsEnd profile r.head is Looked)
  end_either Looked is has looked = elim (bool_either (is_plain (course_of r))) [
    | inl plain ↦ plain_read Looked plain is i0 i1 i2 i3 opens.known stands.reached.whole goes has looked
    | inr reads ↦
        end_known profile i0 i1 i2 i3 ib im ia ic r a opens stands course cued cues goes is Looked has
        (subst (λ z. Known i2 i3 (λ text rest. Looked z.end (items_noted z course cued) text rest)) (stays reads) looked)
  ]

  module _ (text : HasText (stream_of r a)) (l0 l1 l2 : Option (List ℕ)) (lb lm la : ℕ) (output : Passage) (xs : List JudgedItem) (counts : JudgedCounts) (were : AreSalvageCounts (is_ppm_stream (stream_of r a)) counts xs)
      (all : SalvagesAll (ItemsFrom r.place (course_of r)) (stream_of r a) (between i1 i2 im ia) (between l0 l1 lb lm) output xs) where
    abbrev s : Stream
    s = stream_of r a

    pub items_kept : ItemsKept profile s xs counts l0 l1 lb lm output
    items_kept = record { is = opens.stream; text = text; are = all.goes.are; counted = were; told = all.told.written; lines = all.told.writes; showed = all.showed.written; pictures = all.showed.writes }

    over : Known i1 i2 (ItemsFrom r.place (course_of r) (map given_as xs) (ItemsOver (length (map given_as xs))))
    over = subst (λ n. Known i1 i2 (ItemsFrom r.place (course_of r) (map given_as xs) (ItemsOver n))) (sym (length-map xs given_as)) all.goes.has

    pub told_there : (told : List JudgedItem) (notes : Notes) → Known i2 i3 (λ text rest. EndTold told notes last.end (items_noted last course cued) text rest) → Known i0 i3 (ItemsEnd profile r.head (map given_as xs) (EndTold told notes))
    told_there told notes looked = end_either (EndTold told notes) (map given_as xs) over looked

    pub plainly : (Looked : Looks) → Known i2 i3 (Looked (items_noted last course cued)) → Known i0 i3 (ItemsEnd profile r.head (map given_as xs) (λ at. Looked))
    plainly Looked looked = end_either (λ at. Looked) (map given_as xs) over looked

    pub another_at : Known i2 i3 (BeginsAnother (items_noted last course cued)) → Known i0 i3 (ItemsEnd profile r.head (map given_as xs) (λ at reading text rest. (at ≡ last.end) × BeginsAnother reading text rest))
    another_at looked =
        end_either (λ at reading text rest. (at ≡ last.end) × BeginsAnother reading text rest) (map given_as xs) over
        (known_map i2 i3 (BeginsAnother (items_noted last course cued)) (λ text rest. (last.end ≡ last.end) × BeginsAnother (items_noted last course cued) text rest) (λ text rest is. (refl, is)) looked)

    abbrev Told : JudgedCounts → Notes → Type 0
    Told = SalvageTold (ItemsThen profile) (ItemsEnd profile) profile i0 i2 i3 ib ia ic s last course cued l0 l1 l2 lb lm la output xs counts items_kept (all.kept ∙ opens.kept) told_there plainly another_at

    pub salvage_told : (new : JudgedCounts) (notes : Notes) → BehindAnswers last course cued (between i2 i3 ia ic) (between l1 l2 lm la) counts new (Ok notes) → Told new notes
    salvage_told = salvage_ending.salvage_told (ItemsThen profile) (ItemsEnd profile) profile i0 i2 i3 ib ia ic s last course cued l0 l1 l2 lb lm la output xs counts items_kept (all.kept ∙ opens.kept) told_there plainly another_at

    pub end_fails : (f : Fault) → BehindFailsBy last course cued (between i2 i3 ia ic) (between l1 l2 lm la) (cause_of f) → SalvageRefused (ItemsThen profile) (ItemsEnd profile) profile (between i0 i3 ib ic) (between l0 l2 lb la) output f
    end_fails = salvage_ending.end_fails (ItemsThen profile) (ItemsEnd profile) profile i0 i2 i3 ib ia ic s last course cued l0 l1 l2 lb lm la output xs counts items_kept (all.kept ∙ opens.kept) told_there plainly another_at

    pub end_none : (new : JudgedCounts) (notes : Notes) → Told new notes → new.frames ≡ 0 → new.faults ≡ 0 → SalvageRefused (ItemsThen profile) (ItemsEnd profile) profile (between i0 i3 ib ic) (between l0 l2 lb la) output fault.NoFrames
    end_none = salvage_ending.end_none (ItemsThen profile) (ItemsEnd profile) profile i0 i2 i3 ib ia ic s last course cued l0 l1 l2 lb lm la output xs counts items_kept (all.kept ∙ opens.kept) told_there plainly another_at

    pub end_done : (new : JudgedCounts) (notes : Notes) → Told new notes → (new.frames ≡ 0 → new.faults ≡ 0 → ⊥) → (IsReadOn false profile i0 → NotedIn profile (between i0 i3 ib ic) notes ⊎ (length xs ≡ 2 ^ 64 - 1)) →
        UnpackedPlainly profile (between i0 i3 ib ic) (between l0 l2 lb la) output new notes
    end_done new notes end some noted = (
      salvage_ending.end_done (ItemsThen profile) (ItemsEnd profile) profile i0 i2 i3 ib ia ic s last course cued l0 l1 l2 lb lm la output xs counts items_kept (all.kept ∙ opens.kept) told_there plainly another_at new notes end some,
      λ read. subst (λ ys. NotedIn profile (between i0 i3 ib ic) notes ⊎ (length ys ≡ 2 ^ 64 - 1))
          (sym (salvage_ending.end_items (ItemsThen profile) (ItemsEnd profile) profile i0 i2 i3 ib ia ic s last course cued l0 l1 l2 lb lm la output xs counts items_kept (all.kept ∙ opens.kept) told_there plainly another_at new notes end some)) (noted read),
    )

-- what is noted where the first movi alone is read
plain_first : (profile : Profile) (i0 i1 : Option (List ℕ)) (r : Standing) (P : Type 0) → Known i0 i1 (notes_reached (scope_in profile) r.place r.end r.cued r.after r.open_ended) → (is_plain (course_of r) ≡ true → P) → (i0 ≡ None → P) → IsReadOn false profile i0 → P
plain_first profile None i1 r P known plain unknown read = unknown refl
plain_first profile (Some file) None r P known plain unknown read = absurd known
plain_first Strict (Some file) (Some at) r P known plain unknown read = plain (first_plain r.place r.offset r.end r.cued r.after r.open_ended file at known)
plain_first Wide (Some file) (Some at) r P known plain unknown read = absurd (let no : true ≡ false = read in cc)

pub first_noted : (profile : Profile) (i0 i1 i3 : Option (List ℕ)) (ib ic : ℕ) (r : Standing) (notes : Notes) (Full : Type 0) → Stands (scope_in profile) i0 i1 r → (is_plain (course_of r) ≡ true → NotedIn profile (between i0 i3 ib ic) notes ⊎ Full) → IsReadOn false profile i0 → NotedIn profile (between i0 i3 ib ic) notes ⊎ Full
first_noted profile i0 i1 i3 ib ic r notes Full stands plain read =
    plain_first profile i0 i1 r (NotedIn profile (between i0 i3 ib ic) notes ⊎ Full) stands.noted.known plain (λ none. subst (λ o. NotedIn profile (between o i3 ib ic) notes ⊎ Full) (sym none) (inl tt)) read
