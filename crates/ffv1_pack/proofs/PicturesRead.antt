-- Pictures of a text that are read one after the other.
use Rattle.std.specs.Prelude.{◌≡◌, ◌⊎◌, ℕ, ◌≤◌, length, Bool, true, false, List, [], ◌∷◌, ◌++◌, Option, Some, None, Ok, Err}
use Rattle.std.proofs.Common.{refl, sym, ◌∙◌, ap, subst, inl, inr}
use Rattle.ffv1_wire.specs.Passage.{Passage}
use Rattle.ffv1_codec.specs.Picture.{Planes}
use Rattle.ffv1_reads.specs.Known.{Known}
use Rattle.ffv1_y4m.specs.Reads.{Wants}
use Rattle.ffv1_y4m.specs.Sequence.{left}
use Rattle.ffv1_y4m.specs.declared.fault.Fault.{Fault as Y4mFault}
use Rattle.ffv1_video.specs.declared.fault.Fault.{Fault}
use Rattle.ffv1_pack.specs.Internal.Encoding.{AllKnown, PicturesKnown, ReadsOne}
use Rattle.ffv1_video.specs.Faults.{of_y4m}
use Rattle.ffv1_video.specs.Faults.Cause.{Reading, Memory}
use Rattle.ffv1_video.specs.Video.{ReadsPictures, SaidHead, at_first, picture_next}
use Rattle.ffv1_pack.specs.VideoReads.{GrowsInNext, PictureLacks, PictureWants, Taken}
use Rattle.ffv1_pack.specs.Internal.VideoReads.{NextKnown, NextRead, NextRefusedBy, StopsKnown, VideoReading}
use Rattle.ffv1_video.proofs.KnownTexts.{known_map, known_then}
use Rattle.ffv1_pack.proofs.KnownTaken.{known_taken}

-- a call after another one
abbrev pub joined : Passage → Passage → Passage
joined p q = record { old = p.old; new = q.new; before = p.before; after = q.after }

-- whether the next picture is the first, after some of a text of which it was so
abbrev behind : Bool → List Planes → Bool
behind first [] = first
behind first (p ∷ ps) = false

at_first-behind : (ps : List Planes) → at_first ps ≡ behind true ps
at_first-behind [] = refl
at_first-behind (p ∷ ps) = refl

behind-false : (ps : List Planes) → behind false ps ≡ false
behind-false [] = refl
behind-false (p ∷ ps) = refl

reads_more : (ppm : Bool) (most : ℕ) (h : SaidHead) (first : Bool) (text : List ℕ) (ps : List Planes) (q : Planes) (mid rest : List ℕ) → ReadsPictures ppm most h first text ps mid → picture_next ppm most h (behind first ps) mid ≡ Ok (Some q, rest) → ReadsPictures ppm most h first text (ps ++ (q ∷ [])) rest
reads_more ppm most h first text [] q mid rest e n = (rest, subst (λ t. picture_next ppm most h first t ≡ Ok (Some q, rest)) e n, refl)
reads_more ppm most h first text (p ∷ ps) q mid rest (next, e, more) n =
    (next, e, reads_more ppm most h false next ps q mid rest more (subst (λ b. picture_next ppm most h b mid ≡ Ok (Some q, rest)) (sym (behind-false ps)) n))

-- YUV4MPEG2 does not ask whether it is the first
same_next : (ppm : Bool) (most : ℕ) (begun first : Bool) (h : SaidHead) → (ppm ≡ true → begun ≡ first) → (text : List ℕ) → picture_next ppm most h begun text ≡ picture_next ppm most h first text
same_next true most begun first h e text = ap (λ b. picture_next true most h b text) (e refl)
same_next false most begun first h e text = refl

-- what is known of a text, once more of it was read
known_more : (old mid new : Option (List ℕ)) (r s : VideoReading) (ps : List Planes) (q : Planes) → ((text : List ℕ) → picture_next s.ppm s.most s.head s.begun text ≡ picture_next r.ppm r.most r.head (at_first ps) text) → PicturesKnown old mid r ps → NextKnown mid new s (Some q) → PicturesKnown old new r (ps ++ (q ∷ []))
known_more None mid new r s ps q same k n = tt
known_more (Some text) None new r s ps q same k n = absurd k
known_more (Some text) (Some left) None r s ps q same k n = n
known_more (Some text) (Some left) (Some rest) r s ps q same k n =
    reads_more r.ppm r.most r.head true text ps q left rest k (subst (λ b. picture_next r.ppm r.most r.head b left ≡ Ok (Some q, rest)) (at_first-behind ps) (sym (same left) ∙ n))

known_all : (old mid new : Option (List ℕ)) (r s : VideoReading) (ps : List Planes) → ((text : List ℕ) → picture_next s.ppm s.most s.head s.begun text ≡ picture_next r.ppm r.most r.head (at_first ps) text) → PicturesKnown old mid r ps → NextKnown mid new s None → AllKnown old new r ps
known_all None mid new r s ps same k n = tt
known_all (Some text) None new r s ps same k n = absurd k
known_all (Some text) (Some left) None r s ps same k n = n
known_all (Some text) (Some left) (Some rest) r s ps same k n = (left, k, sym (same left) ∙ n)

known_stops : (old mid new : Option (List ℕ)) (r s : VideoReading) (ps : List Planes) (f : Fault) → ((text : List ℕ) → picture_next s.ppm s.most s.head s.begun text ≡ picture_next r.ppm r.most r.head (at_first ps) text) → PicturesKnown old mid r ps → StopsKnown mid new s f →
    Known old new (λ text rest. (left : List ℕ) × ReadsPictures r.ppm r.most r.head true text ps left × ((g : Y4mFault) × (picture_next r.ppm r.most r.head (at_first ps) left ≡ Err (g, rest)) × (f ≡ of_y4m g)))
known_stops None mid new r s ps f same k n = tt
known_stops (Some text) None new r s ps f same k n = absurd k
known_stops (Some text) (Some left) None r s ps f same k n = n
known_stops (Some text) (Some left) (Some rest) r s ps f same k n = (left, k, (n.0, sym (same left) ∙ n.1, n.2))

known_here : (old mid new : Option (List ℕ)) (r s : VideoReading) (ps : List Planes) (q : Planes) → ((text : List ℕ) → picture_next s.ppm s.most s.head s.begun text ≡ picture_next r.ppm r.most r.head (at_first ps) text) → PicturesKnown old mid r ps → NextKnown mid new s (Some q) →
    Known old new (λ text rest. (left : List ℕ) × ReadsPictures r.ppm r.most r.head true text ps left × (picture_next r.ppm r.most r.head (at_first ps) left ≡ Ok (Some q, rest)))
known_here None mid new r s ps q same k n = tt
known_here (Some text) None new r s ps q same k n = absurd k
known_here (Some text) (Some left) None r s ps q same k n = n
known_here (Some text) (Some left) (Some rest) r s ps q same k n = (left, k, sym (same left) ∙ n)

first_behind : (ps : List Planes) (q : Planes) → at_first (ps ++ (q ∷ [])) ≡ false
first_behind [] q = refl
first_behind (p ∷ ps) q = refl

-- memory that was refused is no failure
pub memory_kept : (p : Passage) (r : VideoReading) (f : Fault) → NextRefusedBy Memory p r f ⊎ ReadsOne p r → p.after ≡ p.before
memory_kept p r f (inl n) = n.0
memory_kept p r f (inr (planes, s, read)) = read.kept

same_grows : (ppm : Bool) (most : ℕ) (begun first : Bool) (h : SaidHead) (bytes : List ℕ) → (ppm ≡ true → begun ≡ first) → GrowsInNext ppm most h begun bytes → GrowsInNext ppm most h first bytes
same_grows true most begun first h bytes e grows = subst (λ b. GrowsInNext true most h b bytes) (e refl) grows
same_grows false most begun first h bytes e grows = grows

-- these pictures were read so far, and the reader has become s
pub record ReadSo (p : Passage) (r s : VideoReading) (pictures : List Planes) : Type 0 where
  pub known : PicturesKnown p.old p.new r pictures
  pub kept : p.after ≡ p.before
  pub ppm : s.ppm ≡ r.ppm
  pub head : s.head ≡ r.head
  pub failed : s.failed ≡ None
  pub begun : s.ppm ≡ true → s.begun ≡ at_first pictures
  pub most : s.most ≡ r.most

known_none : (o : Option (List ℕ)) (r : VideoReading) → PicturesKnown o o r []
known_none None r = tt
known_none (Some text) r = refl

pub read_none : (o : Option (List ℕ)) (n : ℕ) (r : VideoReading) → r.failed ≡ None → r.begun ≡ true → ReadSo (record { old = o; new = o; before = n; after = n }) r r []
read_none o n r working begun = record {
  known = known_none o r;
  kept = refl;
  ppm = refl;
  head = refl;
  failed = working;
  begun = λ is. begun;
  most = refl;
}

-- p leads to where the reader is s after these pictures; a call q follows it
module _ (p q : Passage) (r s : VideoReading) (pictures : List Planes) (e : ReadSo p r s pictures)
    (joins : q.old ≡ p.new) (counts : q.before ≡ p.after) where
  pub same : (text : List ℕ) → picture_next s.ppm s.most s.head s.begun text ≡ picture_next r.ppm r.most r.head (at_first pictures) text
  same text =
      same_next s.ppm s.most s.begun (at_first pictures) s.head e.begun text ∙ ap (λ b. picture_next b s.most s.head (at_first pictures) text) e.ppm
      ∙ ap (λ n. picture_next r.ppm n s.head (at_first pictures) text) e.most ∙ ap (λ h. picture_next r.ppm r.most h (at_first pictures) text) e.head

  -- the next picture was read, if the text is known
  pub known_next : (t : VideoReading) (planes : Planes) → NextRead q s (Some planes) t → PicturesKnown p.old q.new r (pictures ++ (planes ∷ []))
  known_next t planes n = known_more p.old p.new q.new r s pictures planes same e.known (subst (λ o. NextKnown o q.new s (Some planes)) joins n.known)

  pub known_after : (t : VideoReading) (planes : Planes) → NextRead q s (Some planes) t →
      Known p.old q.new (λ text rest. (left : List ℕ) × ReadsPictures r.ppm r.most r.head true text pictures left × (picture_next r.ppm r.most r.head (at_first pictures) left ≡ Ok (Some planes, rest)))
  known_after t planes n = known_here p.old p.new q.new r s pictures planes same e.known (subst (λ o. NextKnown o q.new s (Some planes)) joins n.known)

  pub read_more : (t : VideoReading) (planes : Planes) → NextRead q s (Some planes) t → ReadSo (joined p q) r t (pictures ++ (planes ∷ []))
  read_more t planes n = record {
    known = known_next t planes n;
    kept = n.kept ∙ (counts ∙ e.kept);
    ppm = n.ppm ∙ e.ppm;
    head = n.head ∙ e.head;
    failed = n.failed;
    begun = λ is. n.begun is ∙ sym (first_behind pictures planes);
    most = n.most ∙ e.most;
  }

  -- there is no further one
  pub read_all : (t : VideoReading) → NextRead q s None t → AllKnown p.old q.new r pictures
  read_all t n = known_all p.old p.new q.new r s pictures same e.known (subst (λ o. NextKnown o q.new s None) joins n.known)

  -- or it has a fault
  pub stops_after : (f : Fault) → StopsKnown q.old q.new s f →
      Known p.old q.new (λ text rest. (left : List ℕ) × ReadsPictures r.ppm r.most r.head true text pictures left × ((g : Y4mFault) × (picture_next r.ppm r.most r.head (at_first pictures) left ≡ Err (g, rest)) × (f ≡ of_y4m g)))
  stops_after f n = known_stops p.old p.new q.new r s pictures f same e.known (subst (λ o. StopsKnown o q.new s f) joins n)

  -- a read of the next picture failed, or memory was refused for it
  wants : (bytes : List ℕ) → Wants (picture_next s.ppm s.most s.head s.begun) bytes → Wants (picture_next r.ppm r.most r.head (at_first pictures)) bytes
  wants bytes takes next behind = subst (λ o. length (left o) ≤ length behind) (same (bytes ++ (next ∷ behind))) (takes next behind)

  grows : (bytes : List ℕ) → GrowsInNext s.ppm s.most s.head s.begun bytes → GrowsInNext r.ppm r.most r.head (at_first pictures) bytes
  grows bytes lacks =
      subst (λ h. GrowsInNext r.ppm r.most h (at_first pictures) bytes) e.head
      (subst (λ n. GrowsInNext r.ppm n s.head (at_first pictures) bytes) e.most
      (subst (λ b. GrowsInNext b s.most s.head (at_first pictures) bytes) e.ppm (same_grows s.ppm s.most s.begun (at_first pictures) s.head bytes e.begun lacks)))

  lacks : (f : Fault) → NextRefusedBy Memory q s f ⊎ ReadsOne q s → Known p.new q.new (PictureLacks r.ppm r.most r.head pictures)
  lacks f (inl n) =
      known_map p.new q.new (Taken (GrowsInNext r.ppm r.most r.head (at_first pictures))) (PictureLacks r.ppm r.most r.head pictures) (λ text rest taken. inl taken)
      (subst (λ o. Known o q.new (Taken (GrowsInNext r.ppm r.most r.head (at_first pictures)))) joins (known_taken q.old q.new (GrowsInNext s.ppm s.most s.head s.begun) (GrowsInNext r.ppm r.most r.head (at_first pictures)) grows n.1))
  lacks f (inr (planes, t, read)) =
      known_map p.new q.new (λ text rest. picture_next s.ppm s.most s.head s.begun text ≡ Ok (Some planes, rest)) (PictureLacks r.ppm r.most r.head pictures) (λ text rest is. inr (planes, sym (same text) ∙ is))
      (subst (λ o. NextKnown o q.new s (Some planes)) joins read.known)

  abbrev Reads : List ℕ → List ℕ → Type 0
  Reads text left = ReadsPictures r.ppm r.most r.head true text pictures left

  pub wants_after : (f : Fault) → NextRefusedBy Reading q s f → Known p.old q.new (λ text rest. (left : List ℕ) × ReadsPictures r.ppm r.most r.head true text pictures left × PictureWants r.ppm r.most r.head pictures left rest)
  wants_after f n =
      known_then p.old p.new q.new Reads (PictureWants r.ppm r.most r.head pictures) e.known
      (subst (λ o. Known o q.new (PictureWants r.ppm r.most r.head pictures)) joins (known_taken q.old q.new (Wants (picture_next s.ppm s.most s.head s.begun)) (Wants (picture_next r.ppm r.most r.head (at_first pictures))) wants n.1))

  pub lacks_after : (f : Fault) → NextRefusedBy Memory q s f ⊎ ReadsOne q s → Known p.old q.new (λ text rest. (left : List ℕ) × ReadsPictures r.ppm r.most r.head true text pictures left × PictureLacks r.ppm r.most r.head pictures left rest)
  lacks_after f n = known_then p.old p.new q.new Reads (PictureLacks r.ppm r.most r.head pictures) e.known (lacks f n)
