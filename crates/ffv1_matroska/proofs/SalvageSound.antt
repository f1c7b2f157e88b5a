-- What plain reading says of the elements of a Segment, as long as nothing is told.
use Rattle.std.proofs.Common.{◌≡◌, ◌∙◌, sym, ◌+◌, ◌==◌, ◌++◌, [], ◌∷◌, ℕ, suc, List, Bool, Option, Some, None, Result, Ok, Err, true, false, if◌then◌else◌, nat_lt, length, refl}
use Rattle.ffv1_reads.specs.declared.fault.FileFault.{FileFault}
use Rattle.ffv1_reads.specs.Known.{Known}
use Rattle.ffv1_reads.specs.Offsets.{ReadsWhole}
use Rattle.ffv1_reads.specs.Reads.{Read, ◌>>=◌}
use Rattle.ffv1_reads.proofs.OffsetLaws.{counts_more, reads_none}
use Rattle.ffv1_reads.proofs.Reading.{Goes, goes_none, goes_read, goes_same}
use Rattle.ffv1_ebml.specs.declared.element.Element.{Element}
use Rattle.ffv1_matroska.specs.Internal.{bytes_of}
use Rattle.ffv1_matroska.specs.Offsets.{InSegment, spot_taken}
use Rattle.ffv1_matroska.specs.Opened.{begin_read, begin_up_to, element_or_begun, tracks_or_passed}
use Rattle.ffv1_matroska.specs.Places.{amount, segment_at}
use Rattle.ffv1_matroska.specs.SalvageTold.{told_too}
use Rattle.ffv1_matroska.specs.Salvaged.{told_more}
use Rattle.ffv1_matroska.specs.Scales.{scale_from, scale_up_to, scale_with}
use Rattle.ffv1_matroska.specs.Segments.{cluster, header_read}
use Rattle.ffv1_matroska.specs.Tracks.{Track}
use Rattle.ffv1_matroska.specs.declared.place.Place.{Place}
use Rattle.ffv1_matroska.specs.declared.told.ToldFault.{ToldFault}
use Rattle.ffv1_matroska.proofs.Beginnings.{other_element}
use Rattle.ffv1_matroska.proofs.ScaleWalks.{known_none, scale_goes}
use Rattle.ffv1_matroska.proofs.SpotReadings.{header_bytes, spot_read}

-- ---- nothing is told

no_cons : {P : Type 0} (t : ToldFault) (xs : List ToldFault) → ◌≡◌ {A = List ToldFault} (t ∷ xs) [] → P
no_cons t xs e = absurd (cc)

no_more : {P : Type 0} (xs : List ToldFault) (t : ToldFault) → xs ++ (t ∷ []) ≡ [] → P
no_more [] t e = no_cons t [] e
no_more (x ∷ xs) t e = no_cons x (xs ++ (t ∷ [])) e

no_err : {X Y P : Type 0} (x : X) (y : Y) → ◌≡◌ {A = Result X Y} (Err y) (Ok x) → P
no_err x y e = absurd (cc)

-- after one more that was told
pub none_more : (faults now : List ToldFault) (o : Option FileFault) (position : Option ℕ) → told_more faults o position ≡ Ok now → now ≡ [] → (faults ≡ []) × (o ≡ None)
none_more faults now None position is none = ((let same : faults ≡ now = cc in same ∙ none), refl)
none_more faults now (Some f) position is none = on_test (nat_lt (length faults) 16) is
  where
    one : ToldFault
    one = record { fault = f; position = position }

    on_test : (b : Bool) → (if b then Ok (faults ++ (one ∷ [])) else Err f) ≡ Ok now → (faults ≡ []) × (Some f ≡ None)
    on_test true h = no_more faults one ((let same : faults ++ (one ∷ []) ≡ now = cc in same) ∙ none)
    on_test false h = no_err now f h

-- and if as many were told as may be
pub none_too : (faults : List ToldFault) (o : Option FileFault) (position : Option ℕ) → told_too faults o position ≡ [] → (faults ≡ []) × (o ≡ None)
none_too faults None position is = (is, refl)
none_too [] (Some f) position is = no_cons (record { fault = f; position = position }) [] is
none_too (x ∷ xs) (Some f) position is = on_test (nat_lt (length (x ∷ xs)) 16) refl
  where
    one : ToldFault
    one = record { fault = f; position = position }

    on_test : (b : Bool) → nat_lt (length (x ∷ xs)) 16 ≡ b → (x ∷ xs ≡ []) × (Some f ≡ None)
    on_test true test = no_cons x (xs ++ (one ∷ [])) (rw test at is)
    on_test false test = no_cons x xs (rw test at is)

-- one more is refused only if some are told
pub none_full : {P : Type 0} (faults : List ToldFault) (o : Option FileFault) (position : Option ℕ) (f : FileFault) (behind : List ToldFault) → told_more faults o position ≡ Err f → behind ≡ told_too faults o position → behind ≡ [] → P
none_full faults o position f behind most tells none =
    let both = none_too faults o position (sym tells ∙ none) in
    no_err {X = FileFault} {Y = List ToldFault} f [] (ap_swap both.0 both.1)
  where
    ap_swap : faults ≡ [] → o ≡ None → ◌≡◌ {A = Result FileFault (List ToldFault)} (Err []) (Ok f)
    ap_swap empty nothing = absurd (let e : ◌≡◌ {A = Result (List ToldFault) FileFault} (Ok []) (Err f) = rw (empty, nothing) at most in cc)

-- ---- how far plain reading has come

pub record PlainSoFar (begin : Place) (most : ℕ) (found : Option Track) (here : Place) (first tick : ℕ) (old now : Option (List ℕ)) (before after count : ℕ) : Type 0 where
  pub goes : Goes (begin_read begin) old before (begin_up_to most found here) now after
  pub whole : ReadsWhole spot_taken (InSegment None begin) old now (InSegment found here) count
  pub scale : Known old now (λ text rest. scale_from first begin text ≡ scale_up_to most tick here rest)

pub plain_begins : (begin : Place) (tick : ℕ) (old : Option (List ℕ)) (before : ℕ) → PlainSoFar begin (suc (amount begin)) None begin tick tick old old before before 0
plain_begins begin tick old before =
    record {
      goes = goes_none (begin_read begin) old before;
      whole = reads_none spot_taken (InSegment None begin) old;
      scale = known_none old (λ text rest. scale_from tick begin text ≡ scale_from tick begin rest) (λ text. refl);
    }

-- one element more
module _ {begin : Place} {most : ℕ} {found : Option Track} {here : Place} {first tick : ℕ} {old now : Option (List ℕ)} {before after count : ℕ} (so_far : PlainSoFar begin (suc most) found here first tick old now before after count) where
  pub plain_more : (e : Element) (next : Option Track) (mid new : Option (List ℕ)) (tock last : ℕ) → (e.ident == cluster) ≡ false → Read (header_read here) now mid (Some e) → last ≡ after → Read (tracks_or_passed found e.ident e.size) mid new next → Known mid new (λ text rest. tock ≡ scale_with e.ident e.size tick text) →
      PlainSoFar begin most next (segment_at here false e.left) first tock old new before last (count + (header_bytes here e + (bytes_of e.size + 0)))
  unfolding begin_up_to
  plain_more e next mid new tock last other header same visit told =
      record {
        goes = goes_read (tracks_or_passed found e.ident e.size) (λ z. begin_up_to most z (segment_at here false e.left)) new last next
            (goes_same _ (tracks_or_passed found e.ident e.size >>= λ z. begin_up_to most z (segment_at here false e.left)) (other_element (begin_up_to most) found here e other)
            (goes_read (header_read here) (element_or_begun (begin_up_to most) found here) mid after (Some e) so_far.goes (refl, header))) (same, visit);
        whole = counts_more so_far.whole (spot_read found next here e other header visit);
        scale = scale_goes most tick tock here e other found next old now mid new (λ text. scale_from first begin text) so_far.scale header visit told;
      }
