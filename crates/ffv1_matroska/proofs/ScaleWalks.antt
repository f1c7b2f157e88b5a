-- How many nanoseconds a tick has, element by element of a Segment, up to its first Cluster.
use Rattle.std.proofs.Common.{◌≡◌, ◌==◌, ◌∙◌, ◌++◌, ℕ, suc, true, false, List, Option, Some, None, Ok, length, drop, inl, inr, refl, sym, ap, arith, append-nil}
use Rattle.ffv1_reads.specs.Ends.{ReadOrNone}
use Rattle.ffv1_reads.specs.Known.{Known}
use Rattle.ffv1_reads.specs.Reads.{Read, Reading, refused}
use Rattle.ffv1_reads.proofs.Results.{cut_back}
use Rattle.ffv1_reads.proofs.Taking.{takes_read}
use Rattle.ffv1_ebml.specs.declared.element.Element.{Element}
use Rattle.ffv1_matroska.specs.Internal.{bytes_of}
use Rattle.ffv1_ebml.specs.Elements.{content_passed}
use Rattle.ffv1_matroska.specs.Opened.{ebml_read, element_passed, tracks_or_passed}
use Rattle.ffv1_matroska.specs.Opening.{segment_begun, segment_entered}
use Rattle.ffv1_matroska.specs.Places.{segment_at}
use Rattle.ffv1_matroska.specs.Scales.{scale_from, scale_up_to, scale_with, tick_in}
use Rattle.ffv1_matroska.specs.Segments.{cluster, header_read, is_section}
use Rattle.ffv1_matroska.specs.Tracks.{Track}
use Rattle.ffv1_matroska.specs.WrittenIdents.{info}
use Rattle.ffv1_matroska.specs.declared.place.Place.{Place}
use Rattle.ffv1_reads.specs.declared.fault.FileFault.TheVariants as fault
use Rattle.ffv1_matroska.proofs.ScaleReadings.{known_both, read_known}
use Rattle.ffv1_matroska.proofs.SpotReadings.{section_takes}

-- nothing was read
pub known_none : (old : Option (List ℕ)) (P : List ℕ → List ℕ → Type 0) → ((text : List ℕ) → P text text) → Known old old P
known_none None P is = tt
known_none (Some text) P is = is text

-- at the end
end_known : (r : Reading (Option Element)) (old new : Option (List ℕ)) → ReadOrNone r old new None → Known old new (λ text rest. r text ≡ Ok (None, rest))
end_known r None new h = tt
end_known r (Some text) None (inl read) = absurd read.consumed
end_known r (Some text) None (inr ((halts, ended), none)) = absurd halts.consumed
end_known r (Some text) (Some rest) (inl read) = ap r read.consumed ∙ read.is rest
end_known r (Some text) (Some rest) (inr ((halts, ended), none)) =
    ap r (halts.consumed ∙ ap (λ z. halts.bytes ++ z) ended ∙ append-nil halts.bytes) ∙ halts.is ∙ ap (λ z. Ok (None, z)) (sym ended)

-- the content of an element that was read
section_left : (found now : Option Track) (ident : ℕ) (size : Option ℕ) (old new : Option (List ℕ)) → Read (tracks_or_passed found ident size) old new now → Known old new (λ text rest. rest ≡ drop (bytes_of size) text)
section_left found now ident size None new h = tt
section_left found now ident size (Some text) None h = absurd h.consumed
section_left found now ident size (Some text) (Some rest) h =
    let long : length h.bytes ≡ bytes_of size = (let all = takes_read (section_takes found ident size) h in omega (arith, all)) in
    sym (cut_back (bytes_of size) h.bytes rest long) ∙ ap (λ z. drop (bytes_of size) z) (sym h.consumed)

-- one more element, which is no Cluster
module _ (k scale now : ℕ) (here : Place) (e : Element) (other : (e.ident == cluster) ≡ false) where
  scale_next : (text left rest : List ℕ) → header_read here text ≡ Ok (Some e, left) → now ≡ scale_with e.ident e.size scale left → rest ≡ drop (bytes_of e.size) left → scale_up_to (suc k) scale here text ≡ scale_up_to k now (segment_at here false e.left) rest
  unfolding scale_up_to
  scale_next text left rest header is after = rw (header, other, is, after) refl

  pub scale_goes : (found next : Option Track) (first old mid new : Option (List ℕ)) (whole : List ℕ → ℕ) → Known first old (λ text rest. whole text ≡ scale_up_to (suc k) scale here rest) → Read (header_read here) old mid (Some e) → Read (tracks_or_passed found e.ident e.size) mid new next →
      Known mid new (λ text rest. now ≡ scale_with e.ident e.size scale text) → Known first new (λ text rest. whole text ≡ scale_up_to k now (segment_at here false e.left) rest)
  scale_goes found next first old mid new whole before header section told =
      let left = section_left found next e.ident e.size mid new section in
      let both = known_both_same mid new (λ text rest. now ≡ scale_with e.ident e.size scale text) (λ text rest. rest ≡ drop (bytes_of e.size) text) told left in
      let there = known_both old mid new (λ text rest. header_read here text ≡ Ok (Some e, rest)) (λ text rest. (now ≡ scale_with e.ident e.size scale text) × (rest ≡ drop (bytes_of e.size) text)) (λ text rest. scale_up_to (suc k) scale here text ≡ scale_up_to k now (segment_at here false e.left) rest) (λ text left rest is after. scale_next text left rest is after.0 after.1) (read_known (header_read here) old mid (Some e) header) both in
      known_both first old new (λ text rest. whole text ≡ scale_up_to (suc k) scale here rest) (λ text rest. scale_up_to (suc k) scale here text ≡ scale_up_to k now (segment_at here false e.left) rest) (λ text rest. whole text ≡ scale_up_to k now (segment_at here false e.left) rest) (λ text left rest one two. one ∙ two) before there
    where
      known_both_same : (a b : Option (List ℕ)) (P Q : List ℕ → List ℕ → Type 0) → Known a b P → Known a b Q → Known a b (λ text rest. P text rest × Q text rest)
      known_both_same None b P Q h k = tt
      known_both_same (Some text) None P Q h k = absurd h
      known_both_same (Some text) (Some rest) P Q h k = (h, k)

-- a Cluster, or the end
module _ (k scale : ℕ) (here : Place) (first old new : Option (List ℕ)) (whole : List ℕ → ℕ) (before : Known first old (λ text rest. whole text ≡ scale_up_to (suc k) scale here rest)) where
  pub scale_stops : (e : Element) → (e.ident == cluster) ≡ true → Read (header_read here) old new (Some e) → Known first new (λ text rest. whole text ≡ scale)
  unfolding scale_up_to
  scale_stops e is header = known_both first old new (λ text rest. whole text ≡ scale_up_to (suc k) scale here rest) (λ text rest. header_read here text ≡ Ok (Some e, rest)) (λ text rest. whole text ≡ scale) (λ text left rest one two. one ∙ rw (two, is) refl) before (read_known (header_read here) old new (Some e) header)

  pub scale_ends : ReadOrNone (header_read here) old new None → Known first new (λ text rest. whole text ≡ scale)
  unfolding scale_up_to
  scale_ends none = known_both first old new (λ text rest. whole text ≡ scale_up_to (suc k) scale here rest) (λ text rest. header_read here text ≡ Ok (None, rest)) (λ text rest. whole text ≡ scale) (λ text left rest one two. one ∙ rw two refl) before (end_known (header_read here) old new none)

-- of a file
pub tick_known : (size : Option ℕ) (tick : ℕ) (a b c d : Option (List ℕ)) → Read ebml_read a b tt → Read segment_entered b c size → Known c d (λ text rest. scale_from 0 (segment_begun size) text ≡ tick) → Known a d (λ text rest. tick ≡ tick_in text)
unfolding tick_in
tick_known size tick a b c d ebml entered scale =
    known_both a b d (λ text rest. ebml_read text ≡ Ok (tt, rest)) (λ text rest. (left : List ℕ) × (segment_entered text ≡ Ok (size, left)) × (scale_from 0 (segment_begun size) left ≡ tick)) (λ text rest. tick ≡ tick_in text) told (read_known ebml_read a b tt ebml)
    (known_both b c d (λ text rest. segment_entered text ≡ Ok (size, rest)) (λ text rest. scale_from 0 (segment_begun size) text ≡ tick) (λ text rest. (left : List ℕ) × (segment_entered text ≡ Ok (size, left)) × (scale_from 0 (segment_begun size) left ≡ tick)) (λ text left rest one two. (left, one, two)) (read_known segment_entered b c size entered) scale)
  where
    told : (text left rest : List ℕ) → ebml_read text ≡ Ok (tt, left) → (after : List ℕ) × (segment_entered left ≡ Ok (size, after)) × (scale_from 0 (segment_begun size) after ≡ tick) → tick ≡ tick_in text
    told text left rest one (after, two, is) = rw (one, two) (sym is)

-- Info after its header
pub info_passed : (ident count : ℕ) (size : Option ℕ) → ident ≡ info → size ≡ Some count → (text : List ℕ) → element_passed ident size text ≡ content_passed count text
unfolding element_passed is_section
info_passed ident count size is sized text = rw (is, sized) refl

pub info_unsized : (ident : ℕ) (size : Option ℕ) → size ≡ None → (text : List ℕ) → element_passed ident size text ≡ refused fault.BadElement text
unfolding element_passed
info_unsized ident size none text = rw none refl
