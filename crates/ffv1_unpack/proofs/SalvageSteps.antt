-- Items are salvaged one after the other.
use Rattle.std.proofs.Common.{◌≡◌, refl, ℕ, ◌-◌, ◌^◌, ◌<◌, Bool, true, false, Option, Some, None, Result, Ok, Err, List, [], ◌∷◌, ◌++◌, length, map, take, length-append, ◌+◌, ◌⊎◌, inl, inr, ap, sym, subst, ◌∙◌, arith}
use Rattle.std.specs.Io.KnownBytes.{Appends}
use Rattle.std.proofs.KnownBytes.{Appends-nil, Appends-trans, Appends-kept}
use Rattle.ffv1_wire.specs.Failures.{one_more}
use Rattle.ffv1_wire.specs.Passage.{Passage, between}
use Rattle.ffv1_codec.specs.SliceList.{Said}
use Rattle.ffv1_reads.specs.Known.{Known}
use Rattle.ffv1_reads.specs.Items.{Given, GivesFrame}
use Rattle.ffv1_files.specs.declared.course.Course.{Course}
use Rattle.ffv1_files.specs.declared.course.Course.TheVariants as course
use Rattle.ffv1_reads.specs.declared.item.Item.TheVariants as item
use Rattle.ffv1_reads.specs.declared.fault.FileFault.{FileFault}
use Rattle.ffv1_reads.specs.declared.fault.FileFault.TheVariants as file_fault
use Rattle.ffv1_files.specs.Answers.{ReadsAs}
use Rattle.ffv1_files.specs.Endings.{endings_from}
use Rattle.ffv1_files.specs.Files.{frame_read}
use Rattle.ffv1_reads.specs.Reads.{Stop, given, read_on}
use Rattle.ffv1_avi.specs.Files as avi
use Rattle.ffv1_avi.specs.declared.place.Place.{Place as AviPlace}
use Rattle.ffv1_files.specs.Files.{avi_place}
use Rattle.ffv1_files.specs.Items.{ItemSoFar, Next, StopsCourse, StopsItem, item_of, item_read, plain_item}
use Rattle.ffv1_files.specs.Places.{InAvi, InMatroska, Place, container_of}
use Rattle.ffv1_files.specs.declared.container.Container.TheVariants as container
use Rattle.ffv1_video.specs.declared.fault.Fault.{Fault}
use Rattle.ffv1_video.specs.declared.fault.Fault.TheVariants as fault
use Rattle.ffv1_video.specs.Faults.{Cause, cause_of, of_avi}
use Rattle.ffv1_video.specs.Faults.Cause.{Reading, Writing, Memory, Content}
use Rattle.ffv1_video.specs.Output.{Silent}
use Rattle.ffv1_video.proofs.KnownTexts.{known_map}
use Rattle.ffv1_video.proofs.Output.{take_past}
use Rattle.ffv1_unpack.specs.Internal.Salvage.{CutBy, ItemSalvaged, ItemShown, NoneGivenBy, SalvageComes, StandsAfter}
use Rattle.ffv1_unpack.specs.Internal.Told.{FileStops, FileStopsBy}
use Rattle.ffv1_unpack.specs.Internal.Plainly.{is_plain}
use Rattle.ffv1_unpack.specs.declared.judging.JudgedCounts.{JudgedCounts}
use Rattle.ffv1_unpack.specs.Judged.{Judged, payload_of}
use Rattle.ffv1_unpack.specs.JudgedItems.{IsJudgedItem, ItemIs, ItemsFrom, ItemsNext, ItemsOver, JudgedItem, OfFrame, ReadsItems, ToldAt, given_as}
use Rattle.ffv1_unpack.specs.Salvaged.{line_for, picture_for, salvage_lines, shown}
use Rattle.ffv1_unpack.specs.Stream.{AreAll, CodedFrame, Stream}
use Rattle.ffv1_unpack.specs.UnpackAll.{FaultNext, LacksNext, LineCut, LinesTold, PictureCut, PicturesShown, ReadFailsNext, SalvageGoes, PictureWritten, SalvageStopsBy, SalvagesAll}
use Rattle.ffv1_unpack.specs.Unpacked.{is_ppm_stream, rows_by, text_by, text_of}
use Rattle.ffv1_unpack.proofs.FramesInTurn.{all_more}
use Rattle.ffv1_unpack.proofs.ItemsJudged.{has_many, has_stays, has_then, items_none, reads_more, stops_on, up_to}
use Rattle.ffv1_unpack.proofs.SalvageLists.{lines_more, shown_more}

-- ---- so far

-- these were salvaged, up to this place and this course
pub record SalvagedSo (s : Stream) (from : Place) (c : Course) (input lines output : Passage) (xs : List JudgedItem) (to : Place) (d : Course) : Type 0 where
  pub are : AreAll (IsJudgedItem s.accepted) xs
  pub read : Known input.old input.new (λ bytes rest. ReadsItems from c bytes (map given_as xs) to d rest)
  pub kept : input.after ≡ input.before
  pub told : LinesTold (ItemsFrom from c) s input lines output xs
  pub showed : PicturesShown (ItemsFrom from c) s input lines output xs

-- nothing yet
pub salvaged_none : (s : Stream) (from : Place) (c : Course) (i l o : Option (List ℕ)) (ib lb ob : ℕ) → text_of s [] ≡ [] → SalvagedSo s from c (between i i ib ib) (between l l lb lb) (between o o ob ob) [] from c
salvaged_none s from c i l o ib lb ob empty = record {
  are = tt;
  read = items_none from c i;
  kept = refl;
  told = record { written = refl; writes = Appends-nil l };
  showed = record { written = refl; writes = subst (Appends o o) (sym empty) (Appends-nil o) };
}

module _ (s : Stream) (from to last : Place) (c d e : Course) (i0 i1 i2 l0 l1 l2 o0 o1 o2 : Option (List ℕ)) (ib im ia lb lm la ob om oa : ℕ) (xs : List JudgedItem)
    (so : SalvagedSo s from c (between i0 i1 ib im) (between l0 l1 lb lm) (between o0 o1 ob om) xs to d) where
  abbrev ppm : Bool
  ppm = is_ppm_stream s

  abbrev Has : List Given → ItemsNext → List ℕ → List ℕ → Type 0
  Has = ItemsFrom from c

  abbrev In : Passage
  In = between i0 i2 ib ia

  abbrev Told : Passage
  Told = between l0 l2 lb la

  abbrev Out : Passage
  Out = between o0 o2 ob oa

  -- and then this
  goes_on : (Next : ItemsNext) → Known i1 i2 (Next to d) → SalvageGoes Has s In Told Out xs Next
  goes_on Next next = record { are = so.are; has = has_then from to c d i0 (map given_as xs) i1 i2 Next so.read next }

  lines_kept : Silent (between l1 l2 lm la) → LinesTold Has s In Told Out xs
  lines_kept none = record { written = none.same ∙ so.told.written; writes = Appends-kept l0 l1 l2 (salvage_lines ppm xs) so.told.writes none.kept }

  pictures_kept : Silent (between o1 o2 om oa) → PicturesShown Has s In Told Out xs
  pictures_kept none = record { written = none.same ∙ so.showed.written; writes = Appends-kept o0 o1 o2 (text_of s (shown xs)) so.showed.writes none.kept }

  lines_grown : (x : JudgedItem) → la ≡ lm → Appends l1 l2 (line_for ppm xs x) → LinesTold Has s In Told Out (xs ++ (x ∷ []))
  lines_grown x same writes = record {
    written = same ∙ so.told.written;
    writes = subst (Appends l0 l2) (sym (lines_more ppm xs x)) (Appends-trans l0 l1 l2 (salvage_lines ppm xs) (line_for ppm xs x) so.told.writes writes);
  }

  text_more : (x : JudgedItem) (piece : List ℕ) → text_of s (shown xs ++ picture_for xs x) ≡ text_of s (shown xs) ++ piece → text_of s (shown (xs ++ (x ∷ []))) ≡ text_of s (shown xs) ++ piece
  text_more x piece is = ap (text_of s) (shown_more xs x) ∙ is

  pictures_grown : (x : JudgedItem) (piece : List ℕ) → text_of s (shown xs ++ picture_for xs x) ≡ text_of s (shown xs) ++ piece → oa ≡ om → Appends o1 o2 piece → PicturesShown Has s In Told Out (xs ++ (x ∷ []))
  pictures_grown x piece is same writes = record {
    written = same ∙ so.showed.written;
    writes = subst (Appends o0 o2) (sym (text_more x piece is)) (Appends-trans o0 o1 o2 (text_of s (shown xs)) piece so.showed.writes writes);
  }

  abbrev Comes : JudgedItem → Type 0
  Comes x = SalvageComes s to last d e (between i1 i2 im ia) x

  comes_next : (x : JudgedItem) → Comes x → SalvageGoes Has s In Told Out xs (ItemIs (given_as x))
  comes_next x here = goes_on (ItemIs (given_as x)) (known_map i1 i2 (λ text rest. item_read to d text ≡ Ok (Some (given_as x, last, e), rest)) (ItemIs (given_as x) to d) (λ text rest is. (last, e, is)) here.next)

  module _ {P : Type 0} (ready : Stream → List CodedFrame → P → Type 0) (new : P) where
    abbrev Shows : JudgedItem → Result (Unit {0}) Fault → Type 0
    Shows x answer = ItemShown ready s xs (between l1 l2 lm la) (between o1 o2 om oa) new x answer

    -- one more
    pub salvaged_more : (x : JudgedItem) → Comes x → Shows x (Ok tt) → SalvagedSo s from c In Told Out (xs ++ (x ∷ [])) last e
    salvaged_more x here (same, line, (is, kept, piece, text, writes)) = record {
      are = all_more (IsJudgedItem s.accepted) xs x so.are here.is;
      read = reads_more from to last c d e i0 i1 i2 xs x so.read here.next;
      kept = here.kept ∙ so.kept;
      told = lines_grown x same line;
      showed = pictures_grown x piece text kept writes;
    }

    pub ready_more : (x : JudgedItem) → Shows x (Ok tt) → ready s (shown (xs ++ (x ∷ []))) new
    ready_more x (same, line, (is, kept, piece, text, writes)) = subst (λ z. ready s z new) (sym (shown_more xs x)) is

    -- why it goes no further
    none_stops : (f : Fault) (why : Cause) → NoneGivenBy to d (between i1 i2 im ia) f why → Silent (between l1 l2 lm la) → Silent (between o1 o2 om oa) → SalvageStopsBy Has s In Told Out f why
    none_stops f Reading h quiet none = (xs, record { goes = goes_on ReadFailsNext h.1; told = lines_kept quiet; showed = pictures_kept none }, h.0 ∙ ap one_more so.kept)
    none_stops f Writing h quiet none = absurd h
    none_stops f Memory h quiet none = (h.0 ∙ so.kept, inl (xs, record { goes = goes_on LacksNext h.1; told = lines_kept quiet; showed = pictures_kept none }))
    none_stops f Content h quiet none = (xs, record { goes = goes_on (FaultNext f) h.1; told = lines_kept quiet; showed = pictures_kept none }, h.0 ∙ so.kept)

    cut : (x : JudgedItem) → Comes x → LineCut Has s In Told Out xs x ⊎ PictureCut Has s In Told Out xs x → SalvageStopsBy Has s In Told Out fault.Write Writing
    cut x here how = (xs, x, here.is, comes_next x here, here.kept ∙ so.kept, how)

    line_cut : (x : JudgedItem) → Silent (between o1 o2 om oa) → la ≡ one_more lm → (k : ℕ) → k < length (line_for ppm xs x) → Appends l1 l2 (take k (line_for ppm xs x)) → LineCut Has s In Told Out xs x
    line_cut x none counted k short writes = record {
      written = counted ∙ ap one_more so.told.written;
      writes = up_to l0 l1 l2 (length (salvage_lines ppm xs)) (salvage_lines ppm xs) (line_for ppm xs x) (salvage_lines ppm (xs ++ (x ∷ []))) refl (lines_more ppm xs x) so.told.writes k short writes;
      showed = pictures_kept none;
    }

    picture_written : (b : Bool) (x : JudgedItem) → CutBy b s (shown xs) (picture_for xs x) (between o1 o2 om oa) → PictureWritten Has s In Told Out b xs x
    picture_written false x (piece, text, (k, short, writes)) =
        up_to o0 o1 o2 (length (text_of s (shown xs))) (text_of s (shown xs)) piece (text_of s (shown (xs ++ (x ∷ [])))) refl (text_more x piece text) so.showed.writes k short writes
    picture_written true x (f, is, ls, next, offers, up) =
        let text = text_of s (shown xs) in
        let before = rows_by true s ls in
        let all = rows_by true s (ls ++ (next ∷ [])) in
        let least_long : length (text ++ before) ≡ length text + length before = length-append text before in
        let all_long : length (text ++ all) ≡ length text + length all = length-append text all in (
          f,
          is,
          ls,
          next,
          offers,
          record {
            count = length text + up.count;
            enough = omega (arith, least_long, up.enough);
            short = omega (arith, all_long, up.short);
            writes = subst (Appends o0 o2) (sym (take_past text all up.count)) (Appends-trans o0 o1 o2 text (take up.count all) so.showed.writes up.writes);
          },
        )

    picture_cut : (x : JudgedItem) → la ≡ lm → Appends l1 l2 (line_for ppm xs x) → oa ≡ one_more om → CutBy ppm s (shown xs) (picture_for xs x) (between o1 o2 om oa) → PictureCut Has s In Told Out xs x
    picture_cut x same line counted how = record {
      told = lines_grown x same line;
      written = counted ∙ ap one_more so.showed.written;
      writes = picture_written ppm x how;
    }

    item_stops : (f : Fault) (x : JudgedItem) → Comes x → Shows x (Err f) → SalvageStopsBy Has s In Told Out f (cause_of f)
    item_stops f x here (inl (line, none)) = elim line [
      | inl write ↦
          subst (λ z. SalvageStopsBy Has s In Told Out z (cause_of z)) (sym write.0)
          (cut x here (inl (line_cut x none write.1 write.2.0 write.2.1 write.2.2)))
      | inr lacks ↦
          subst (λ z. SalvageStopsBy Has s In Told Out z (cause_of z)) (sym lacks.0) (
            here.kept ∙ so.kept,
            inr (inl (xs, x, here.is, record { goes = comes_next x here; told = lines_kept (record { kept = lacks.2; same = lacks.1 }); showed = pictures_kept none })),
          )
    ]
    item_stops f x here (inr (same, line, (is, counted, how))) =
        subst (λ z. SalvageStopsBy Has s In Told Out z (cause_of z)) (sym is) (cut x here (inr (picture_cut x same line counted how)))

    pub salvage_stops : (f : Fault) (counts : JudgedCounts) (header : Option Said) (payload : List ℕ) →
        ItemSalvaged s to last d e (between i1 i2 im ia) ready xs (between l1 l2 lm la) (between o1 o2 om oa) new counts header payload (Err f) → SalvageStopsBy Has s In Told Out f (cause_of f)
    salvage_stops f counts header payload (inl (none, quiet, still)) = none_stops f (cause_of f) none quiet still
    salvage_stops f counts header payload (inr (x, here, shows)) = item_stops f x here shows

    -- there is none
    pub salvaged_over : ia ≡ im → Known i1 i2 (λ text rest. item_read to d text ≡ Ok (None, rest)) → Silent (between l1 l2 lm la) → Silent (between o1 o2 om oa) → SalvagesAll Has s In Told Out xs
    salvaged_over same over quiet none = record {
      goes = goes_on (ItemsOver (length xs)) (known_map i1 i2 (λ text rest. item_read to d text ≡ Ok (None, rest)) (ItemsOver (length xs) to d) (λ text rest is. inl is) over);
      told = lines_kept quiet;
      showed = pictures_kept none;
      kept = same ∙ so.kept;
    }

-- so many that no further one is read
pub salvaged_many : (s : Stream) (from to : Place) (c d : Course) (input lines output : Passage) (xs : List JudgedItem) → SalvagedSo s from c input lines output xs to d → length xs ≡ 2 ^ 64 - 1 → SalvagesAll (ItemsFrom from c) s input lines output xs
salvaged_many s from to c d input lines output xs so full = record {
  goes = record { are = so.are; has = has_many from to c d input.old (map given_as xs) input.new (length xs) full so.read };
  told = so.told;
  showed = so.showed;
  kept = so.kept;
}

-- memory was refused before the first one
pub wants_memory : (s : Stream) (from : Place) (c : Course) (i l o : Option (List ℕ)) (ib lb ob : ℕ) (f : Fault) → text_of s [] ≡ [] → f ≡ fault.OutOfMemory → SalvageStopsBy (ItemsFrom from c) s (between i i ib ib) (between l l lb lb) (between o o ob ob) f (cause_of f)
wants_memory s from c i l o ib lb ob f empty is =
    let so = salvaged_none s from c i l o ib lb ob empty in
    subst (λ z. SalvageStopsBy (ItemsFrom from c) s (between i i ib ib) (between l l lb lb) (between o o ob ob) z (cause_of z)) (sym is) (
      refl,
      inr (inr (record { goes = record { are = tt; has = has_stays from from c c i [] i so.read }; told = so.told; showed = so.showed })),
    )

-- ---- a loop over items

text_by_none : (b : Bool) (s : Stream) → text_by b s [] ≡ []
text_by_none true s = refl
text_by_none false s = refl

pub text_none : (s : Stream) → text_of s [] ≡ []
text_none s = text_by_none (is_ppm_stream s) s

-- so many were salvaged, and this is known then
pub record SalvagedTo {P : Type 0} (ready : Stream → List CodedFrame → P → Type 0) (out : P) (s : Stream) (from : Place) (c : Course) (input lines output : Passage) (n : ℕ) (counts : JudgedCounts) (header : Option Said) (payload : List ℕ)
    (to : Place) (d : Course) : Type 0 where
  pub xs : List JudgedItem
  pub many : length xs ≡ n
  pub so : SalvagedSo s from c input lines output xs to d
  pub stands : StandsAfter s xs counts header payload
  pub ready_is : ready s (shown xs) out

no_last : (f : CodedFrame) → None ≡ Some f → ⊥
no_last f e = cc

pub none_yet : {P : Type 0} (ready : Stream → List CodedFrame → P → Type 0) (out : P) (s : Stream) (from : Place) (c : Course) (i l o : Option (List ℕ)) (ib lb ob : ℕ) (counts : JudgedCounts) (payload : List ℕ) →
    counts.frames ≡ 0 → counts.faults ≡ 0 → counts.first ≡ None → ready s [] out → SalvagedTo ready out s from c (between i i ib ib) (between l l lb lb) (between o o ob ob) 0 counts None payload from c
none_yet ready out s from c i l o ib lb ob counts payload frames faults first is = record {
  xs = [];
  many = refl;
  so = salvaged_none s from c i l o ib lb ob (text_none s);
  stands = record {
    counted = record { frames = omega (arith, frames); faults = omega (arith, faults); first = first };
    first = refl;
    last = λ f e. absurd (no_last f e);
  };
  ready_is = is;
}

-- ---- the next item of a file

module _ (to : Place) (c d : Course) (bytes : List ℕ) (p : Passage) where
  pub frame_given : (s : Stream) (from : Place) → ReadsAs (item_read from c) p (item_of item.Frame bytes to d) → (j : Judged) → IsJudgedItem s.accepted (OfFrame j) → payload_of j ≡ bytes → SalvageComes s from to c d p (OfFrame j)
  frame_given s from read j is same = record {
    is = is;
    kept = read.0;
    next = subst (λ z. Known p.old p.new (λ text rest. item_read from c text ≡ Ok (Some (GivesFrame z, to, d), rest))) (sym same) read.1;
  }

  pub told_given : (s : Stream) (from : Place) (f : FileFault) (offset : ℕ) → ReadsAs (item_read from c) p (item_of (item.Told f offset) bytes to d) → SalvageComes s from to c d p (ToldAt f offset)
  told_given s from f offset read = record { is = tt; kept = read.0; next = read.1 }

-- what a frame is as an item, by plain reading
abbrev item_by : Result (Option (List ℕ × Place) × List ℕ) Stop → Result (Next × List ℕ) Stop
item_by (Ok (None, rest)) = Ok (None, rest)
item_by (Ok (Some (bytes, to), rest)) = Ok (Some (GivesFrame bytes, to, course.Plain), rest)
item_by (Err stop) = Err stop

item_is : (r : Result (Option (List ℕ × AviPlace) × List ℕ) Stop) → read_on r (λ o. given (plain_item o)) ≡ item_by (read_on r (λ o. given (avi_place o)))
item_is (Ok (None, rest)) = refl
item_is (Ok (Some (bytes, to), rest)) = refl
item_is (Err stop) = refl

by_frame : (place : AviPlace) (text : List ℕ) → item_read (InAvi place) course.Plain text ≡ item_by (frame_read (InAvi place) text)
unfolding item_read frame_read
by_frame place text = item_is (avi.frame_read place text)

avi_not : (size : Option ℕ) → container.Avi ≡ container.Matroska size → ⊥
avi_not size e = cc

module _ (p : Passage) where
  frame_plain : (from to : Place) (bytes : List ℕ) → container_of from ≡ container.Avi → ReadsAs (frame_read from) p (Some (bytes, to)) → ReadsAs (item_read from course.Plain) p (Some (GivesFrame bytes, to, course.Plain))
  frame_plain (InAvi place) to bytes avi read = (
    read.0,
    known_map p.old p.new (λ text rest. frame_read (InAvi place) text ≡ Ok (Some (bytes, to), rest)) (λ text rest. item_read (InAvi place) course.Plain text ≡ Ok (Some (GivesFrame bytes, to, course.Plain), rest))
        (λ text rest is. by_frame place text ∙ ap item_by is) read.1,
  )
  frame_plain (InMatroska segment track place) to bytes avi read = absurd (avi_not segment (sym avi))

  end_plain : (from : Place) → container_of from ≡ container.Avi → ReadsAs (frame_read from) p None → ReadsAs (item_read from course.Plain) p None
  end_plain (InAvi place) avi read = (
    read.0,
    known_map p.old p.new (λ text rest. frame_read (InAvi place) text ≡ Ok (None, rest)) (λ text rest. item_read (InAvi place) course.Plain text ≡ Ok (None, rest)) (λ text rest is. by_frame place text ∙ ap item_by is) read.1,
  )
  end_plain (InMatroska segment track place) avi read = absurd (avi_not segment (sym avi))

  -- why none comes, as a frame is not read
  stops_plain : (from : Place) (f : Fault) (why : Cause) → FileStopsBy (endings_from from) (frame_read from) p f why → NoneGivenBy from course.Plain p f why
  stops_plain from f Reading h = h
  stops_plain from f Writing h = absurd h
  stops_plain from f Memory h = h
  stops_plain from f Content h = h

module _ (c : Course) (p : Passage) (from : Place) (plain : c ≡ course.Plain) where
  pub avi_frame : (to : Place) (bytes : List ℕ) → container_of from ≡ container.Avi → ReadsAs (frame_read from) p (Some (bytes, to)) → ReadsAs (item_read from c) p (Some (GivesFrame bytes, to, c))
  avi_frame to bytes avi read = subst (λ z. ReadsAs (item_read from z) p (Some (GivesFrame bytes, to, z))) (sym plain) (frame_plain p from to bytes avi read)

  pub avi_end : container_of from ≡ container.Avi → ReadsAs (frame_read from) p None → ReadsAs (item_read from c) p None
  avi_end avi read = subst (λ z. ReadsAs (item_read from z) p None) (sym plain) (end_plain p from avi read)

  pub avi_none : (f : Fault) → FileStops (endings_from from) (frame_read from) p f → NoneGivenBy from c p f (cause_of f)
  avi_none f h = subst (λ z. NoneGivenBy from z p f (cause_of f)) (sym plain) (stops_plain p from f (cause_of f) h)

-- by a course that reads on
reads_next : (from : Place) (c : Course) → is_plain c ≡ false → (at rest : List ℕ) → ItemSoFar (item_read from c) at rest → ReadFailsNext from c at rest
reads_next from course.Plain reads at rest h = absurd (let no : true ≡ false = reads in cc)
reads_next from (course.Avi c repeated) reads at rest h = h
reads_next from (course.Matroska c) reads at rest h = h

lacks_next : (from : Place) (c : Course) → is_plain c ≡ false → (at rest : List ℕ) → ItemSoFar (item_read from c) at rest → LacksNext from c at rest
lacks_next from course.Plain reads at rest h = absurd (let no : true ≡ false = reads in cc)
lacks_next from (course.Avi c repeated) reads at rest h = h
lacks_next from (course.Matroska c) reads at rest h = h

module _ (c : Course) (p : Passage) (from : Place) (reads : is_plain c ≡ false) where
  none_on : (f : FileFault) → StopsCourse (item_read from c) p f → NoneGivenBy from c p (of_avi f) (cause_of (of_avi f))
  none_on file_fault.Read h = (h.0, known_map p.old p.new (ItemSoFar (item_read from c)) (ReadFailsNext from c) (reads_next from c reads) h.1)
  none_on file_fault.OutOfMemory h = (h.0, known_map p.old p.new (ItemSoFar (item_read from c)) (LacksNext from c) (lacks_next from c reads) h.1)
  none_on f h = absurd h

  pub given_none : (f : FileFault) → StopsItem from c (item_read from c) p f → NoneGivenBy from c p (of_avi f) (cause_of (of_avi f))
  given_none f h = none_on f (stops_on from c reads (item_read from c) p f h)
