-- What is told before the frames, among the lines and the pictures that are unpacked.
use Rattle.std.proofs.Common.{◌≡◌, refl, ℕ, ◌+◌, ◌-◌, ◌^◌, min, Bool, Option, List, [], ◌∷◌, ◌++◌, length, length-append, slice_get, ap, sym, subst, ◌∙◌, arith, append-nil, append_assoc}
use Rattle.std.specs.Io.KnownBytes.{Appends}
use Rattle.std.proofs.KnownBytes.{Appends-trans}
use Rattle.std.proofs.Common.{take}
use Rattle.ffv1_range.specs.Counts.{saturated}
use Rattle.ffv1_matroska.specs.declared.told.ToldFault.{ToldFault}
use Rattle.ffv1_files.specs.Salvaged.{told_offset}
use Rattle.ffv1_video.specs.declared.fault.Fault.{Fault}
use Rattle.ffv1_video.specs.Output.{WritesUpTo}
use Rattle.ffv1_video.proofs.Output.{take_past}
use Rattle.ffv1_unpack.specs.declared.judging.JudgedCounts.{JudgedCounts}
use Rattle.ffv1_unpack.specs.Internal.OpensTold.{first_told}
use Rattle.ffv1_unpack.specs.Judged.{Decoded, Refused, Repeats, refused_line}
use Rattle.ffv1_unpack.specs.JudgedItems.{JudgedItem, OfFrame, ToldAt, frames_of, told_line}
use Rattle.ffv1_unpack.specs.Salvaged.{changed_fault, changed_text, differs, each, each_from, fault_for, good_frames, good_of, line_for, picture_for, said_of, salvage_faults, salvage_lines, shown}
use Rattle.ffv1_unpack.specs.Stream.{last_of, those}
use Rattle.ffv1_unpack.specs.ToldItems.{told_as, told_items, told_lines}
use Rattle.ffv1_unpack.specs.UnpackAll.{AreSalvageCounts}
use Rattle.ffv1_unpack.proofs.ItemsJudged.{frames_more}
use Rattle.ffv1_unpack.proofs.SalvageLists.{good_more}
use Rattle.ffv1_unpack.proofs.ToldFirst.{frames_told}

-- ---- items before which the same frames came

pub record Alike (before other : List JudgedItem) : Type 0 where
  pub frames : frames_of before ≡ frames_of other
  pub goods : good_frames before ≡ good_frames other

alike_more : (before other : List JudgedItem) (x : JudgedItem) → Alike before other → Alike (before ++ (x ∷ [])) (other ++ (x ∷ []))
alike_more before other x h = record {
  frames = frames_more before x ∙ (ap (λ z. z ++ frames_of (x ∷ [])) h.frames ∙ sym (frames_more other x));
  goods = good_more before x ∙ (ap (λ z. z ++ good_of x) h.goods ∙ sym (good_more other x));
}

alike_told : (before : List JudgedItem) (start : ℕ) (t : ToldFault) → Alike (before ++ (told_as start t ∷ [])) before
alike_told before start t = record {
  frames = frames_more before (told_as start t) ∙ append-nil (frames_of before);
  goods = good_more before (told_as start t) ∙ append-nil (good_frames before);
}

goods_told : (start : ℕ) (ts : List ToldFault) (xs : List JudgedItem) → good_frames (told_items start ts ++ xs) ≡ good_frames xs
goods_told start [] xs = refl
goods_told start (t ∷ ts) xs = goods_told start ts xs

pub alike_first : (start : ℕ) (ts : List ToldFault) (xs : List JudgedItem) → Alike (told_items start ts ++ xs) xs
alike_first start ts xs = record { frames = frames_told start ts xs; goods = goods_told start ts xs }

-- ---- what each of them gives

module _ {Y : Type 0} (gives : List JudgedItem → JudgedItem → List Y) (same : (before other : List JudgedItem) (x : JudgedItem) → Alike before other → gives before x ≡ gives other x) where
  from_alike : (before other xs : List JudgedItem) → Alike before other → each_from gives before xs ≡ each_from gives other xs
  from_alike before other [] h = refl
  from_alike before other (x ∷ xs) h =
      ap (λ z. z ++ each_from gives (before ++ (x ∷ [])) xs) (same before other x h)
      ∙ ap (λ z. gives other x ++ z) (from_alike (before ++ (x ∷ [])) (other ++ (x ∷ [])) xs (alike_more before other x h))

  from_told : (start : ℕ) (before : List JudgedItem) (ts : List ToldFault) (xs : List JudgedItem) → each_from gives before (told_items start ts ++ xs) ≡ each_from gives before (told_items start ts) ++ each_from gives before xs
  from_told start before [] xs = refl
  from_told start before (t ∷ ts) xs =
      let x = told_as start t in
      let next = before ++ (x ∷ []) in
      let here = gives before x in
      let others = each_from gives next (told_items start ts) in
      ap (λ z. here ++ z) (from_told start next ts xs ∙ ap (λ z. others ++ z) (from_alike next before xs (alike_told before start t)))
      ∙ sym (append_assoc here others (each_from gives before xs))

  pub each_told : (start : ℕ) (ts : List ToldFault) (xs : List JudgedItem) → each gives (told_items start ts ++ xs) ≡ each gives (told_items start ts) ++ each gives xs
  each_told start ts xs = from_told start [] ts xs

line_alike : (ppm : Bool) (before other : List JudgedItem) (x : JudgedItem) → Alike before other → line_for ppm before x ≡ line_for ppm other x
line_alike ppm before other (OfFrame (Decoded f)) h =
    ap (λ z. changed_text (saturated (length z)) (differs ppm (said_of (good_frames before)) f.said)) h.frames
    ∙ ap (λ z. changed_text (saturated (length (frames_of other))) (differs ppm (said_of z) f.said)) h.goods
line_alike ppm before other (OfFrame (Refused payload f tally)) h = ap (λ z. refused_line (saturated (length z)) f.fault) h.frames
line_alike ppm before other (OfFrame Repeats) h = refl
line_alike ppm before other (ToldAt f offset) h = refl

fault_alike : (ppm : Bool) (before other : List JudgedItem) (x : JudgedItem) → Alike before other → those (fault_for ppm before x) ≡ those (fault_for ppm other x)
fault_alike ppm before other (OfFrame (Decoded f)) h = ap (λ z. those (changed_fault (differs ppm (said_of z) f.said))) h.goods
fault_alike ppm before other (OfFrame (Refused payload f tally)) h = refl
fault_alike ppm before other (OfFrame Repeats) h = refl
fault_alike ppm before other (ToldAt f offset) h = refl

pub picture_alike : (before other : List JudgedItem) (x : JudgedItem) → Alike before other → picture_for before x ≡ picture_for other x
picture_alike before other (OfFrame (Decoded f)) h = refl
picture_alike before other (OfFrame (Refused payload f tally)) h = ap (λ z. those (last_of z)) h.goods
picture_alike before other (OfFrame Repeats) h = ap (λ z. those (last_of z)) h.goods
picture_alike before other (ToldAt f offset) h = refl

-- ---- what is told gives lines, and no picture

lines_alone : (ppm : Bool) (start : ℕ) (before : List JudgedItem) (ts : List ToldFault) → each_from (line_for ppm) before (told_items start ts) ≡ told_lines start ts
lines_alone ppm start before [] = refl
lines_alone ppm start before (t ∷ ts) = ap (λ z. told_line (told_offset start t.position) t.fault ++ z) (lines_alone ppm start (before ++ (told_as start t ∷ [])) ts)

none_shown : (start : ℕ) (before : List JudgedItem) (ts : List ToldFault) → each_from picture_for before (told_items start ts) ≡ []
none_shown start before [] = refl
none_shown start before (t ∷ ts) = none_shown start (before ++ (told_as start t ∷ [])) ts

abbrev fault_of_each : Bool → List JudgedItem → JudgedItem → List Fault
fault_of_each ppm before x = those (fault_for ppm before x)

faults_alone : (ppm : Bool) (start : ℕ) (before : List JudgedItem) (ts : List ToldFault) → length (each_from (fault_of_each ppm) before (told_items start ts)) ≡ length ts
faults_alone ppm start before [] = refl
faults_alone ppm start before (t ∷ ts) =
    let more = faults_alone ppm start (before ++ (told_as start t ∷ [])) ts in
    omega (arith, more)

pub salvage_first : (ppm : Bool) (start : ℕ) (ts : List ToldFault) (xs : List JudgedItem) → salvage_lines ppm (told_items start ts ++ xs) ≡ told_lines start ts ++ salvage_lines ppm xs
salvage_first ppm start ts xs = each_told (line_for ppm) (line_alike ppm) start ts xs ∙ ap (λ z. z ++ salvage_lines ppm xs) (lines_alone ppm start [] ts)

pub shown_told : (start : ℕ) (ts : List ToldFault) (xs : List JudgedItem) → shown (told_items start ts ++ xs) ≡ shown xs
shown_told start ts xs = each_told picture_for picture_alike start ts xs ∙ ap (λ z. z ++ shown xs) (none_shown start [] ts)

-- ---- how many there are

faults_long : (ppm : Bool) (start : ℕ) (ts : List ToldFault) (xs : List JudgedItem) → length (salvage_faults ppm (told_items start ts ++ xs)) ≡ length ts + length (salvage_faults ppm xs)
faults_long ppm start ts xs =
    let both = ap length (each_told (fault_of_each ppm) (fault_alike ppm) start ts xs)
    ∙ length-append (salvage_faults ppm (told_items start ts)) (salvage_faults ppm xs) in
    let alone = faults_alone ppm start [] ts in
    omega (arith, both, alone)

first_fault : (ppm : Bool) (start : ℕ) (ts : List ToldFault) (xs : List JudgedItem) (o : Option Fault) → o ≡ slice_get (salvage_faults ppm xs) 0 → first_told ts o ≡ slice_get (salvage_faults ppm (told_items start ts ++ xs)) 0
first_fault ppm start [] xs o is = is
first_fault ppm start (t ∷ ts) xs o is = refl

pub salvage_counts : (start : ℕ) (ts : List ToldFault) (c r : JudgedCounts) (ppm : Bool) (xs : List JudgedItem) → r.frames ≡ c.frames → r.faults ≡ min (c.faults + length ts) (2 ^ 64 - 1) → r.first ≡ first_told ts c.first → AreSalvageCounts ppm c xs → AreSalvageCounts ppm r (told_items start ts ++ xs)
salvage_counts start ts c r ppm xs frames faults first h = record {
  frames = rw (frames_told start ts xs) (frames ∙ h.frames);
  faults = (let long = faults_long ppm start ts xs in let is = h.faults in omega (arith, long, is, faults));
  first = first ∙ first_fault ppm start ts xs c.first h.first;
}

-- ---- a beginning of what comes after known bytes

pub up_past : (o0 o1 o2 : Option (List ℕ)) (first : List ℕ) (least : ℕ) (bytes : List ℕ) → Appends o0 o1 first → WritesUpTo o1 o2 least bytes → WritesUpTo o0 o2 (length first + least) (first ++ bytes)
up_past o0 o1 o2 first least bytes writes h =
    let long = length-append first bytes in
    let enough = h.enough in
    let short = h.short in
    record {
      count = length first + h.count;
      enough = omega (arith, enough);
      short = omega (arith, long, short);
      writes = subst (Appends o0 o2) (sym (take_past first bytes h.count)) (Appends-trans o0 o1 o2 first (take h.count bytes) writes h.writes);
    }
