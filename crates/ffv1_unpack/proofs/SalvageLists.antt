-- What is written and told of items, as they come.
use Rattle.std.proofs.Common.{◌≡◌, refl, ℕ, Bool, true, false, Option, Some, None, List, [], ◌∷◌, ◌++◌, length, ap, sym, subst, ◌∙◌, arith, append-nil, append_assoc}
use Rattle.std.specs.Prelude.{slice_get, not, ◌&&◌, ◌==◌}
use Rattle.std.proofs.lemmas.Bool.{eq-eqb, eqb-true}
use Rattle.ffv1_range.specs.Counts.{saturated}
use Rattle.ffv1_record.specs.Accepted.{Accepted}
use Rattle.ffv1_range.specs.declared.tally.Tally.{Tally}
use Rattle.ffv1_codec.specs.SliceList.{Said}
use Rattle.ffv1_frame.specs.declared.fault.FrameFault.{FrameFault}
use Rattle.ffv1_reads.specs.declared.fault.FileFault.{FileFault}
use Rattle.ffv1_video.specs.declared.fault.Fault.{Fault}
use Rattle.ffv1_video.specs.Faults.{of_avi, of_codec}
use Rattle.ffv1_unpack.specs.declared.judging.JudgedCounts.{JudgedCounts}
use Rattle.ffv1_unpack.specs.Internal.Judged.{first_of, one_counted}
use Rattle.ffv1_unpack.specs.Internal.JudgedItems.{told_counted}
use Rattle.ffv1_unpack.specs.Internal.Salvage.{StandsAfter}
use Rattle.ffv1_unpack.specs.Judged.{Decoded, Judged, Refused, Repeats, refused_line}
use Rattle.ffv1_unpack.specs.JudgedItems.{IsJudgedItem, JudgedItem, OfFrame, ToldAt, frames_of, with_frame}
use Rattle.ffv1_unpack.specs.Salvaged.{changed_fault, changed_text, differs, each, each_from, fault_for, good_frames, good_of, line_for, picture_for, said_of, salvage_faults, salvage_lines, says_same, shown}
use Rattle.ffv1_unpack.specs.Stream.{AreAll, CodedFrame, IsCoded, Stream, last_of, those}
use Rattle.ffv1_unpack.specs.UnpackAll.{AreSalvageCounts}
use Rattle.ffv1_unpack.specs.Unpacked.{is_ppm_stream}
use Rattle.ffv1_unpack.proofs.FramesInTurn.{counted_more}
use Rattle.ffv1_unpack.proofs.FramesJudged.{first_more}
use Rattle.ffv1_unpack.proofs.FramesShown.{last_is}
use Rattle.ffv1_unpack.proofs.ItemsJudged.{frames_more}

-- ---- lists that grow

module _ {X Y : Type 0} (gives : List X → X → List Y) where
  from_more : (before xs : List X) (x : X) → each_from gives before (xs ++ (x ∷ [])) ≡ each_from gives before xs ++ gives (before ++ xs) x
  from_more before [] x = append-nil (gives before x) ∙ ap (λ b. gives b x) (sym (append-nil before))
  from_more before (y ∷ ys) x =
      let here = gives before y in
      let others = each_from gives (before ++ (y ∷ [])) ys in
      ap (λ z. here ++ z) (from_more (before ++ (y ∷ [])) ys x)
      ∙ sym (append_assoc here others (gives ((before ++ (y ∷ [])) ++ ys) x))
      ∙ ap (λ b. (here ++ others) ++ gives b x) (append_assoc before (y ∷ []) ys)

  pub each_more : (xs : List X) (x : X) → each gives (xs ++ (x ∷ [])) ≡ each gives xs ++ gives xs x
  each_more xs x = from_more [] xs x

pub good_more : (xs : List JudgedItem) (x : JudgedItem) → good_frames (xs ++ (x ∷ [])) ≡ good_frames xs ++ good_of x
good_more [] x = append-nil (good_of x)
good_more (y ∷ ys) x = ap (λ z. good_of y ++ z) (good_more ys x) ∙ sym (append_assoc (good_of y) (good_frames ys) (good_of x))

pub shown_more : (xs : List JudgedItem) (x : JudgedItem) → shown (xs ++ (x ∷ [])) ≡ shown xs ++ picture_for xs x
shown_more xs x = each_more picture_for xs x

pub lines_more : (ppm : Bool) (xs : List JudgedItem) (x : JudgedItem) → salvage_lines ppm (xs ++ (x ∷ [])) ≡ salvage_lines ppm xs ++ line_for ppm xs x
lines_more ppm xs x = each_more (line_for ppm) xs x

faults_more : (ppm : Bool) (xs : List JudgedItem) (x : JudgedItem) → salvage_faults ppm (xs ++ (x ∷ [])) ≡ salvage_faults ppm xs ++ those (fault_for ppm xs x)
faults_more ppm xs x = each_more (λ before y. those (fault_for ppm before y)) xs x

-- the picture for a frame is that of the last good one up to it
pub picture_last : (xs : List JudgedItem) (j : Judged) → those (last_of (good_frames (xs ++ (OfFrame j ∷ [])))) ≡ picture_for xs (OfFrame j)
picture_last xs (Decoded f) = ap (λ z. those (last_of z)) (good_more xs (OfFrame (Decoded f))) ∙ ap those (last_is (good_frames xs) f)
picture_last xs (Refused payload f tally) = ap (λ z. those (last_of z)) (good_more xs (OfFrame (Refused payload f tally)) ∙ append-nil (good_frames xs))
picture_last xs Repeats = ap (λ z. those (last_of z)) (good_more xs (OfFrame Repeats) ∙ append-nil (good_frames xs))

-- ---- what frames say

three : (a b c : Bool) → not (a && (b && c)) ≡ false → (a ≡ true) × (b ≡ true) × (c ≡ true)
three true true true e = (refl, refl, refl)
three true true false e = absurd (let no : true ≡ false = e in cc)
three true false c e = absurd (let no : true ≡ false = e in cc)
three false b c e = absurd (let no : true ≡ false = e in cc)

said : ℕ → ℕ → ℕ → Said
said a b c = record { structure = a; sar_num = b; sar_den = c }

pub same_said : (s t : Said) → not (says_same s t) ≡ false → s ≡ t
unfolding said
same_said s t e =
    let all = three (s.structure == t.structure) (s.sar_num == t.sar_num) (s.sar_den == t.sar_den) e in
    ap (λ n. said n s.sar_num s.sar_den) (eqb-true s.structure t.structure all.0) ∙ ap (λ n. said t.structure n s.sar_den) (eqb-true s.sar_num t.sar_num all.1)
    ∙ ap (λ n. said t.structure t.sar_num n) (eqb-true s.sar_den t.sar_den all.2)

same_says : (s : Said) → says_same s s ≡ true
same_says s = rw (eq-eqb s.structure s.structure refl, eq-eqb s.sar_num s.sar_num refl, eq-eqb s.sar_den s.sar_den refl) refl

-- whether they differ, by whether they are the same
pub differ_no : (s t : Said) → s ≡ t → not (says_same s t) ≡ false
differ_no s t e = ap (λ z. not (says_same s z)) (sym e) ∙ ap not (same_says s)

pub differ_yes : (s t : Said) → (s ≡ t → ⊥) → not (says_same s t) ≡ true
differ_yes s t apart = by (not (says_same s t)) refl
  where
    by : (b : Bool) → not (says_same s t) ≡ b → not (says_same s t) ≡ true
    by true e = e
    by false e = absurd (apart (same_said s t e))

-- ---- good frames

some_same : (f g : CodedFrame) → Some f ≡ Some g → f ≡ g
some_same f g e = cc

some_is : (f : CodedFrame) → None ≡ Some f → ⊥
some_is f e = cc

module _ (a : Accepted) where
  goods : (xs : List JudgedItem) → AreAll (IsJudgedItem a) xs → AreAll (IsCoded a) (good_frames xs)
  goods [] are = tt
  goods (OfFrame (Decoded f) ∷ xs) are = (are.0, goods xs are.1)
  goods (OfFrame (Refused payload f tally) ∷ xs) are = goods xs are.1
  goods (OfFrame Repeats ∷ xs) are = goods xs are.1
  goods (ToldAt f offset ∷ xs) are = goods xs are.1

  last_in : (fs : List CodedFrame) (f : CodedFrame) → AreAll (IsCoded a) fs → last_of fs ≡ Some f → IsCoded a f
  last_in [] f are e = absurd (some_is f e)
  last_in (g ∷ []) f are e = subst (IsCoded a) (some_same g f e) are.0
  last_in (g ∷ h ∷ fs) f are e = last_in (h ∷ fs) f are.1 e

  pub last_good : (xs : List JudgedItem) (f : CodedFrame) → AreAll (IsJudgedItem a) xs → last_of (good_frames xs) ≡ Some f → IsCoded a f
  last_good xs f are e = last_in (good_frames xs) f (goods xs are) e

-- a list of frames has a last one if its first one says something
pub said_last : (fs : List CodedFrame) (said : Said) → said_of fs ≡ Some said → (f : CodedFrame) × (last_of fs ≡ Some f)
said_last [] said e = absurd (no said e)
  where
    no : (said : Said) → None ≡ Some said → ⊥
    no said e = cc
said_last (f ∷ []) said e = (f, refl)
said_last (f ∷ g ∷ fs) said e = said_last (g ∷ fs) g.said refl

pub none_said : (fs : List CodedFrame) → said_of fs ≡ None → fs ≡ []
none_said [] e = refl
none_said (f ∷ fs) e = absurd (no f.said e)
  where
    no : (said : Said) → Some said ≡ None → ⊥
    no said e = cc

-- ---- counts

record Counts (c : JudgedCounts) (js : List Judged) (fs : List Fault) : Type 0 where
  frames : c.frames ≡ saturated (length js)
  faults : c.faults ≡ saturated (length fs)
  first : c.first ≡ slice_get fs 0

counts_frame : (c : JudgedCounts) (js : List Judged) (fs : List Fault) (j : Judged) (o : Option Fault) → Counts c js fs → Counts (one_counted c o) (js ++ (j ∷ [])) (fs ++ those o)
counts_frame c js fs j None h = record {
  frames = (let long = counted_more js j in let is = h.frames in omega (arith, long, is));
  faults = subst (λ z. c.faults ≡ saturated (length z)) (sym (append-nil fs)) h.faults;
  first = subst (λ z. c.first ≡ slice_get z 0) (sym (append-nil fs)) h.first;
}
counts_frame c js fs j (Some f) h = record {
  frames = (let long = counted_more js j in let is = h.frames in omega (arith, long, is));
  faults = (let long = counted_more fs f in let is = h.faults in omega (arith, long, is));
  first = ap (λ z. first_of z f) h.first ∙ sym (first_more fs f);
}

counts_told : (c : JudgedCounts) (js : List Judged) (fs : List Fault) (f : Fault) → Counts c js fs → Counts (told_counted c f) js (fs ++ (f ∷ []))
counts_told c js fs f h = record {
  frames = h.frames;
  faults = (let long = counted_more fs f in let is = h.faults in omega (arith, long, is));
  first = ap (λ z. first_of z f) h.first ∙ sym (first_more fs f);
}

module _ (ppm : Bool) (xs : List JudgedItem) (c new : JudgedCounts) (h : AreSalvageCounts ppm c xs) where
  counts : Counts c (frames_of xs) (salvage_faults ppm xs)
  counts = record { frames = h.frames; faults = h.faults; first = h.first }

  counted_by : (x : JudgedItem) → Counts new (frames_of xs ++ with_frame x []) (salvage_faults ppm xs ++ those (fault_for ppm xs x)) → AreSalvageCounts ppm new (xs ++ (x ∷ []))
  counted_by x k =
      let frames = sym (frames_more xs x) in
      let faults = sym (faults_more ppm xs x) in
      record {
        frames = subst (λ z. new.frames ≡ saturated (length z)) frames k.frames;
        faults = subst (λ z. new.faults ≡ saturated (length z)) faults k.faults;
        first = subst (λ z. new.first ≡ slice_get z 0) faults k.first;
      }

  counted_frame : (j : Judged) → new ≡ one_counted c (fault_for ppm xs (OfFrame j)) → AreSalvageCounts ppm new (xs ++ (OfFrame j ∷ []))
  counted_frame j is =
      counted_by (OfFrame j)
      (subst (λ z. Counts z (frames_of xs ++ (j ∷ [])) (salvage_faults ppm xs ++ those (fault_for ppm xs (OfFrame j)))) (sym is)
      (counts_frame c (frames_of xs) (salvage_faults ppm xs) j (fault_for ppm xs (OfFrame j)) counts))

  pub counted_told : (f : FileFault) (offset : ℕ) → new ≡ told_counted c (of_avi f) → AreSalvageCounts ppm new (xs ++ (ToldAt f offset ∷ []))
  counted_told f offset is =
      counted_by (ToldAt f offset)
      (subst (λ z. Counts z (frames_of xs ++ []) (salvage_faults ppm xs ++ (of_avi f ∷ []))) (sym is)
      (subst (λ z. Counts (told_counted c (of_avi f)) z (salvage_faults ppm xs ++ (of_avi f ∷ []))) (sym (append-nil (frames_of xs)))
      (counts_told c (frames_of xs) (salvage_faults ppm xs) (of_avi f) counts)))

-- ---- the lines of a frame

module _ (s : Stream) (before : List JudgedItem) (c : JudgedCounts) (header : Option Said) (last : List ℕ) (h : StandsAfter s before c header last) where
  abbrev number : ℕ
  number = saturated (length (frames_of before))

  pub good_line : (ppm : Bool) (info : Said) (f : CodedFrame) → ppm ≡ is_ppm_stream s → f.said ≡ info → changed_text c.frames (differs ppm header info) ≡ line_for (is_ppm_stream s) before (OfFrame (Decoded f))
  good_line ppm info f kind said =
      ap (λ n. changed_text n (differs ppm header info)) h.counted.frames ∙ ap (λ b. changed_text number (differs b header info)) kind ∙ ap (λ z. changed_text number (differs (is_ppm_stream s) z info)) h.first
      ∙ ap (λ z. changed_text number (differs (is_ppm_stream s) (said_of (good_frames before)) z)) (sym said)

  pub bad_line : (payload : List ℕ) (f : FrameFault) (tally : Tally) → refused_line c.frames f.fault ≡ line_for (is_ppm_stream s) before (OfFrame (Refused payload f tally))
  bad_line payload f tally = ap (λ n. refused_line n f.fault) h.counted.frames

  pub good_counts : (ppm : Bool) (info : Said) (f : CodedFrame) (new : JudgedCounts) → ppm ≡ is_ppm_stream s → f.said ≡ info → new ≡ one_counted c (changed_fault (differs ppm header info)) → new ≡ one_counted c (changed_fault (differs (is_ppm_stream s) header f.said))
  good_counts ppm info f new kind said is =
      is ∙ ap (λ b. one_counted c (changed_fault (differs b header info))) kind ∙ ap (λ z. one_counted c (changed_fault (differs (is_ppm_stream s) header z))) (sym said)

-- ---- what stands after one more

module _ (s : Stream) (xs : List JudgedItem) (c new : JudgedCounts) (header : Option Said) (last : List ℕ) (h : StandsAfter s xs c header last) where
  abbrev ppm : Bool
  ppm = is_ppm_stream s

  said_more : (fs : List CodedFrame) (f : CodedFrame) (then : Option Said) → header ≡ said_of fs → (header ≡ None → then ≡ Some f.said) → ((said : Said) → header ≡ Some said → then ≡ Some said) → then ≡ said_of (fs ++ (f ∷ []))
  said_more [] f then is first again = first is
  said_more (g ∷ gs) f then is first again = again g.said is

  pub stands_good : (f : CodedFrame) (then : Option Said) (payload : List ℕ) → new ≡ one_counted c (changed_fault (differs ppm header f.said)) → (header ≡ None → then ≡ Some f.said) →
      ((said : Said) → header ≡ Some said → then ≡ Some said) → payload ≡ f.payload → StandsAfter s (xs ++ (OfFrame (Decoded f) ∷ [])) new then payload
  stands_good f then payload is first again of =
      let x = OfFrame (Decoded f) in
      record {
        counted = counted_frame ppm xs c new h.counted (Decoded f) (subst (λ z. new ≡ one_counted c (changed_fault (differs ppm z f.said))) h.first is);
        first = said_more (good_frames xs) f then h.first first again ∙ ap said_of (sym (good_more xs x));
        last = λ g e. of ∙ ap (λ (z : CodedFrame). z.payload) (some_same f g (sym (ap last_of (good_more xs x) ∙ last_is (good_frames xs) f) ∙ e));
      }

  pub stands_bad : (payload : List ℕ) (f : FrameFault) (tally : Tally) → new ≡ one_counted c (Some (of_codec f.fault)) → StandsAfter s (xs ++ (OfFrame (Refused payload f tally) ∷ [])) new header last
  stands_bad payload f tally is =
      let x = OfFrame (Refused payload f tally) in
      let same : good_frames (xs ++ (x ∷ [])) ≡ good_frames xs = good_more xs x ∙ append-nil (good_frames xs) in
      record {
        counted = counted_frame ppm xs c new h.counted (Refused payload f tally) is;
        first = h.first ∙ ap said_of (sym same);
        last = λ g e. h.last g (sym (ap last_of same) ∙ e);
      }

  pub stands_again : new ≡ one_counted c None → StandsAfter s (xs ++ (OfFrame Repeats ∷ [])) new header last
  stands_again is =
      let x = OfFrame Repeats in
      let same : good_frames (xs ++ (x ∷ [])) ≡ good_frames xs = good_more xs x ∙ append-nil (good_frames xs) in
      record {
        counted = counted_frame ppm xs c new h.counted Repeats is;
        first = h.first ∙ ap said_of (sym same);
        last = λ g e. h.last g (sym (ap last_of same) ∙ e);
      }

  pub stands_told : (f : FileFault) (offset : ℕ) → new ≡ told_counted c (of_avi f) → StandsAfter s (xs ++ (ToldAt f offset ∷ [])) new header last
  stands_told f offset is =
      let x = ToldAt f offset in
      let same : good_frames (xs ++ (x ∷ [])) ≡ good_frames xs = good_more xs x ∙ append-nil (good_frames xs) in
      record {
        counted = counted_told ppm xs c new h.counted f offset is;
        first = h.first ∙ ap said_of (sym same);
        last = λ g e. h.last g (sym (ap last_of same) ∙ e);
      }
