-- Each frame has a picture, from the first good one on; and a file without faults has its own.
use Rattle.std.proofs.Common.{◌≡◌, refl, suc, ◌+◌, Bool, true, false, Option, Some, None, List, [], ◌∷◌, ◌++◌, length, map, ap, sym, subst, ◌∙◌, arith, append-nil}
use Rattle.ffv1_record.specs.Accepted.{Accepted}
use Rattle.ffv1_codec.specs.SliceList.{Said}
use Rattle.ffv1_video.specs.declared.fault.Fault.{Fault}
use Rattle.ffv1_unpack.specs.Judged.{Decoded, Refused, Repeats}
use Rattle.ffv1_unpack.specs.JudgedItems.{IsJudgedItem, JudgedItem, OfFrame, ToldAt, frames_of}
use Rattle.ffv1_range.specs.Counts.{saturated}
use Rattle.ffv1_unpack.specs.Salvaged.{changed_fault, changed_text, differs, each_from, fault_for, good_frames, is_changed, leading, line_for, of_sound, picture_for, said_of, salvage_faults, salvage_lines, shown}
use Rattle.ffv1_unpack.specs.Unpacked.{AlikeBy, AllSay}
use Rattle.ffv1_unpack.specs.Stream.{Again, AreAll, Coded, CodedFrame, Frame, IsCoded, last_of, shown_after, shown_frames, those}
use Rattle.ffv1_unpack.proofs.FramesShown.{last_is}
use Rattle.ffv1_unpack.proofs.SalvageLists.{good_more, same_said}

abbrev after : List JudgedItem → JudgedItem → List JudgedItem
after before x = before ++ (x ∷ [])

abbrev rest : List JudgedItem → List JudgedItem → List CodedFrame
rest before xs = each_from picture_for before xs

good_last : (before : List JudgedItem) (f : CodedFrame) → last_of (good_frames (after before (OfFrame (Decoded f)))) ≡ Some f
good_last before f = ap last_of (good_more before (OfFrame (Decoded f))) ∙ last_is (good_frames before) f

-- ---- as many pictures as frames

-- after a good one
as_many : (before xs : List JudgedItem) (f : CodedFrame) → last_of (good_frames before) ≡ Some f → length (rest before xs) ≡ length (frames_of xs)
as_many before [] f e = refl
as_many before (OfFrame (Decoded g) ∷ xs) f e = ap suc (as_many (after before (OfFrame (Decoded g))) xs g (good_last before g))
as_many before (OfFrame (Refused payload h tally) ∷ xs) f e =
    let x = OfFrame (Refused payload h tally) in
    let same : good_frames (after before x) ≡ good_frames before = good_more before x ∙ append-nil (good_frames before) in
    ap (λ o. length (those o ++ rest (after before x) xs)) e ∙ ap suc (as_many (after before x) xs f (ap last_of same ∙ e))
as_many before (OfFrame Repeats ∷ xs) f e =
    let x = OfFrame Repeats in
    let same : good_frames (after before x) ≡ good_frames before = good_more before x ∙ append-nil (good_frames before) in
    ap (λ o. length (those o ++ rest (after before x) xs)) e ∙ ap suc (as_many (after before x) xs f (ap last_of same ∙ e))
as_many before (ToldAt h offset ∷ xs) f e =
    let x = ToldAt h offset in
    let same : good_frames (after before x) ≡ good_frames before = good_more before x ∙ append-nil (good_frames before) in
    as_many (after before x) xs f (ap last_of same ∙ e)

-- before the first good one
but_leading : (before xs : List JudgedItem) → good_frames before ≡ [] → length (rest before xs) + leading xs ≡ length (frames_of xs)
but_leading before [] e = refl
but_leading before (OfFrame (Decoded g) ∷ xs) e =
    let many = as_many (after before (OfFrame (Decoded g))) xs g (good_last before g) in
    let next : suc (length (rest (after before (OfFrame (Decoded g))) xs)) + 0 ≡ suc (length (frames_of xs)) = omega (arith, many) in
    next
but_leading before (OfFrame (Refused payload h tally) ∷ xs) e =
    let x = OfFrame (Refused payload h tally) in
    let same : good_frames (after before x) ≡ [] = good_more before x ∙ append-nil (good_frames before) ∙ e in
    let many = but_leading (after before x) xs same in
    let none : length (those (last_of (good_frames before)) ++ rest (after before x) xs) ≡ length (rest (after before x) xs) = ap (λ z. length (those (last_of z) ++ rest (after before x) xs)) e in
    let next : length (those (last_of (good_frames before)) ++ rest (after before x) xs) + suc (leading xs) ≡ suc (length (frames_of xs)) = omega (arith, none, many) in
    next
but_leading before (OfFrame Repeats ∷ xs) e =
    let x = OfFrame Repeats in
    let same : good_frames (after before x) ≡ [] = good_more before x ∙ append-nil (good_frames before) ∙ e in
    let many = but_leading (after before x) xs same in
    let none : length (those (last_of (good_frames before)) ++ rest (after before x) xs) ≡ length (rest (after before x) xs) = ap (λ z. length (those (last_of z) ++ rest (after before x) xs)) e in
    let next : length (those (last_of (good_frames before)) ++ rest (after before x) xs) + suc (leading xs) ≡ suc (length (frames_of xs)) = omega (arith, none, many) in
    next
but_leading before (ToldAt h offset ∷ xs) e =
    let x = ToldAt h offset in
    but_leading (after before x) xs (good_more before x ∙ append-nil (good_frames before) ∙ e)

pub as_many_pictures : (xs : List JudgedItem) → length (shown xs) + leading xs ≡ length (frames_of xs)
as_many_pictures xs = but_leading [] xs refl

-- ---- each is of a frame that decodes

module _ (a : Accepted) where
  are_more : (before : List JudgedItem) (x : JudgedItem) → AreAll (IsCoded a) (good_frames before) → IsJudgedItem a x → AreAll (IsCoded a) (good_frames (after before x))
  are_more before (OfFrame (Decoded f)) are is = subst (AreAll (IsCoded a)) (sym (good_more before (OfFrame (Decoded f)))) (all_after (good_frames before) are is)
    where
      all_after : (fs : List CodedFrame) → AreAll (IsCoded a) fs → IsCoded a f → AreAll (IsCoded a) (fs ++ (f ∷ []))
      all_after [] are is = (is, tt)
      all_after (g ∷ gs) are is = (are.0, all_after gs are.1 is)
  are_more before (OfFrame (Refused payload h tally)) are is =
      let x = OfFrame (Refused payload h tally) in
      subst (AreAll (IsCoded a)) (sym (good_more before x ∙ append-nil (good_frames before))) are
  are_more before (OfFrame Repeats) are is =
      let x = OfFrame Repeats in
      subst (AreAll (IsCoded a)) (sym (good_more before x ∙ append-nil (good_frames before))) are
  are_more before (ToldAt h offset) are is =
      let x = ToldAt h offset in
      subst (AreAll (IsCoded a)) (sym (good_more before x ∙ append-nil (good_frames before))) are

  last_and : (fs : List CodedFrame) (gs : List CodedFrame) → AreAll (IsCoded a) fs → AreAll (IsCoded a) gs → AreAll (IsCoded a) (those (last_of fs) ++ gs)
  last_and [] gs are more = more
  last_and (f ∷ []) gs are more = (are.0, more)
  last_and (f ∷ g ∷ fs) gs are more = last_and (g ∷ fs) gs are.1 more

  are_shown : (before xs : List JudgedItem) → AreAll (IsCoded a) (good_frames before) → AreAll (IsJudgedItem a) xs → AreAll (IsCoded a) (rest before xs)
  are_shown before [] are all = tt
  are_shown before (OfFrame (Decoded f) ∷ xs) are all = (all.0, are_shown (after before (OfFrame (Decoded f))) xs (are_more before (OfFrame (Decoded f)) are all.0) all.1)
  are_shown before (OfFrame (Refused payload h tally) ∷ xs) are all =
      let x = OfFrame (Refused payload h tally) in
      last_and (good_frames before) (rest (after before x) xs) are (are_shown (after before x) xs (are_more before x are all.0) all.1)
  are_shown before (OfFrame Repeats ∷ xs) are all =
      let x = OfFrame Repeats in
      last_and (good_frames before) (rest (after before x) xs) are (are_shown (after before x) xs (are_more before x are all.0) all.1)
  are_shown before (ToldAt h offset ∷ xs) are all = are_shown (after before (ToldAt h offset)) xs (are_more before (ToldAt h offset) are all.0) all.1

  pub shown_decode : (xs : List JudgedItem) → AreAll (IsJudgedItem a) xs → AreAll (IsCoded a) (shown xs)
  shown_decode xs all = are_shown [] xs tt all

-- ---- a file without faults

no_fault : (f : Fault) (fs : List Fault) → (f ∷ fs) ≡ [] → ⊥
no_fault f fs e = cc

-- frames say what the header says, if there is one, or what the first of them says
abbrev SayBy : Bool → Option Said → List CodedFrame → Type 0
SayBy true header fs = Unit {0}
SayBy false None fs = AlikeBy false fs
SayBy false (Some said) fs = AllSay said fs

says_on : (ppm : Bool) (fs : List CodedFrame) (f : CodedFrame) (more : List CodedFrame) → differs ppm (said_of fs) f.said ≡ false → SayBy ppm (said_of (fs ++ (f ∷ []))) more → SayBy ppm (said_of fs) (f ∷ more)
says_on true fs f more is say = tt
says_on false [] f more is say = say
says_on false (g ∷ gs) f more is say = (same_said f.said g.said is, say)

says_nothing : (ppm : Bool) (header : Option Said) → SayBy ppm header []
says_nothing true header = tt
says_nothing false None = tt
says_nothing false (Some said) = tt

says_none : (ppm : Bool) (fs : List CodedFrame) → SayBy ppm None fs → AlikeBy ppm fs
says_none true fs say = tt
says_none false fs say = say

-- the last of those that say the same may be shown once more
says_last : (said : Said) (g : CodedFrame) (gs more : List CodedFrame) → g.said ≡ said → AllSay said gs → AllSay said more → AllSay said (those (last_of (g ∷ gs)) ++ more)
says_last said g [] more same all say = (same, say)
says_last said g (x ∷ xs) more same all say = says_last said x xs more all.0 all.1 say

says_again : (ppm : Bool) (fs more : List CodedFrame) → AlikeBy ppm fs → SayBy ppm (said_of fs) more → SayBy ppm (said_of fs) (those (last_of fs) ++ more)
says_again true fs more alike say = tt
says_again false [] more alike say = say
says_again false (g ∷ gs) more alike say = says_last g.said g gs more refl alike say

say_more : (said : Said) (fs : List CodedFrame) (f : CodedFrame) → AllSay said fs → f.said ≡ said → AllSay said (fs ++ (f ∷ []))
say_more said [] f all same = (same, tt)
say_more said (g ∷ gs) f all same = (all.0, say_more said gs f all.1 same)

alike_next : (ppm : Bool) (fs : List CodedFrame) (f : CodedFrame) → AlikeBy ppm fs → differs ppm (said_of fs) f.said ≡ false → AlikeBy ppm (fs ++ (f ∷ []))
alike_next true fs f alike is = tt
alike_next false [] f alike is = tt
alike_next false (g ∷ gs) f alike is = say_more g.said gs f alike (same_said f.said g.said is)

none_alike : (ppm : Bool) → AlikeBy ppm []
none_alike true = tt
none_alike false = tt

-- after these
module _ (ppm : Bool) where
  -- the frames of items without faults, after good ones
  record Sound (before xs : List JudgedItem) : Type 0 where
    frames : List Frame
    are : xs ≡ map of_sound frames
    pictures : rest before xs ≡ shown_after (last_of (good_frames before)) frames
    lines : each_from (line_for ppm) before xs ≡ []
    say : SayBy ppm (said_of (good_frames before)) (shown_after (last_of (good_frames before)) frames)

  sound_from : (before xs : List JudgedItem) → AlikeBy ppm (good_frames before) → each_from (λ b x. those (fault_for ppm b x)) before xs ≡ [] → Sound before xs
  sound_from before [] alike e = record { frames = []; are = refl; pictures = refl; lines = refl; say = says_nothing ppm (said_of (good_frames before)) }
  sound_from before (OfFrame (Decoded f) ∷ xs) alike e = by_change (sound_from (after before (OfFrame (Decoded f))) xs) (is_changed ppm before f) refl
    where
      by_change : (AlikeBy ppm (good_frames (after before (OfFrame (Decoded f)))) → each_from (λ b x. those (fault_for ppm b x)) (after before (OfFrame (Decoded f))) xs ≡ [] → Sound (after before (OfFrame (Decoded f))) xs) → (changed : Bool) → is_changed ppm before f ≡ changed → Sound before (OfFrame (Decoded f) ∷ xs)
      by_change sound true is = absurd (no_fault _ _ (subst (λ b. those (changed_fault b) ++ each_from (λ b x. those (fault_for ppm b x)) (after before (OfFrame (Decoded f))) xs ≡ []) is e))
      by_change sound false is =
          let next = subst (AlikeBy ppm) (sym (good_more before (OfFrame (Decoded f)))) (alike_next ppm (good_frames before) f alike is) in
          let more = sound next (subst (λ b. those (changed_fault b) ++ each_from (λ b x. those (fault_for ppm b x)) (after before (OfFrame (Decoded f))) xs ≡ []) is e) in
          let last = good_last before f in
          record {
            frames = Coded f ∷ more.frames;
            are = ap (λ z. of_sound (Coded f) ∷ z) more.are;
            pictures = ap (λ z. f ∷ z) (more.pictures ∙ ap (λ o. shown_after o more.frames) last);
            lines = ap (λ b. changed_text (saturated (length (frames_of before))) b ++ each_from (line_for ppm) (after before (OfFrame (Decoded f))) xs) is ∙ more.lines;
            say = says_on ppm (good_frames before) f (shown_after (Some f) more.frames) is
                (subst (λ o. SayBy ppm (said_of (good_frames before ++ (f ∷ []))) (shown_after o more.frames)) last
                (subst (λ z. SayBy ppm (said_of z) (shown_after (last_of (good_frames (after before (OfFrame (Decoded f))))) more.frames)) (good_more before (OfFrame (Decoded f))) more.say));
          }
  sound_from before (OfFrame (Refused payload h tally) ∷ xs) alike e = absurd (no_fault _ _ e)
  sound_from before (OfFrame Repeats ∷ xs) alike e =
      let x = OfFrame Repeats in
      let same : good_frames (after before x) ≡ good_frames before = good_more before x ∙ append-nil (good_frames before) in
      let more = sound_from (after before x) xs (subst (AlikeBy ppm) (sym same) alike) e in
      let shown = shown_after (last_of (good_frames before)) more.frames in
      record {
        frames = Again ∷ more.frames;
        are = ap (λ z. of_sound Again ∷ z) more.are;
        pictures = ap (λ z. those (last_of (good_frames before)) ++ z) (more.pictures ∙ ap (λ z. shown_after (last_of z) more.frames) same);
        lines = more.lines;
        say = says_again ppm (good_frames before) shown alike (subst (λ z. SayBy ppm (said_of z) (shown_after (last_of z) more.frames)) same more.say);
      }
  sound_from before (ToldAt h offset ∷ xs) alike e = absurd (no_fault _ _ e)

  pub sound_alike : (xs : List JudgedItem) → salvage_faults ppm xs ≡ [] → (frames : List Frame) × (xs ≡ map of_sound frames) × (shown xs ≡ shown_frames frames) × (salvage_lines ppm xs ≡ []) × AlikeBy ppm (shown_frames frames)
  sound_alike xs e =
      let sound = sound_from [] xs (none_alike ppm) e in
      (sound.frames, sound.are, sound.pictures, sound.lines, says_none ppm (shown_frames sound.frames) sound.say)
