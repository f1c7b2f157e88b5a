-- Groups of facts that are written after others.
use Rattle.std.proofs.Common.{◌≡◌, refl, ℕ, ◌+◌, ◌<◌, ◌≤◌, true, Err, Ok, Option, List, [], ◌++◌, length, take, inl, inr, ap, sym, subst, ◌∙◌, arith, append_assoc, append-nil, length-append}
use Rattle.std.specs.Io.KnownBytes.{Appends}
use Rattle.std.proofs.KnownBytes.{Appends-kept, Appends-nil, Appends-trans}
use Rattle.ffv1_wire.specs.Failures.{one_more}
use Rattle.ffv1_wire.specs.Passage.{Passage, between}
use Rattle.ffv1_video.specs.Output.{WritesUpTo}
use Rattle.ffv1_video.specs.declared.fault.Fault.{Fault}
use Rattle.ffv1_video.proofs.Output.{take_past}
use Rattle.ffv1_unpack.specs.Internal.Told.{WritesFrame}
use Rattle.ffv1_unpack.specs.Told.{is_telling_fault}
use Rattle.ffv1_info.specs.StreamInfo.{GroupStops, Wrote}

-- nothing was written
pub wrote_none : (o : Option (List ℕ)) (n : ℕ) → Wrote [] (between o o n n)
wrote_none o n = record { written = refl; writes = Appends-nil o }

module _ (text : List ℕ) (o0 o1 o2 : Option (List ℕ)) (ob om oa : ℕ) (before : Wrote text (between o0 o1 ob om)) where
  -- a group was written after a text
  pub wrote_behind : (facts : List ℕ) → Wrote facts (between o1 o2 om oa) → Wrote (text ++ facts) (between o0 o2 ob oa)
  wrote_behind facts h = record { written = h.written ∙ before.written; writes = Appends-trans o0 o1 o2 text facts before.writes h.writes }

  -- nothing more was
  pub wrote_still : Wrote [] (between o1 o2 om oa) → Wrote text (between o0 o2 ob oa)
  wrote_still h = subst (λ z. Wrote z (between o0 o2 ob oa)) (append-nil text) (wrote_behind [] h)

  beginning_behind : (t facts : List ℕ) → WritesUpTo o1 o2 (length t) (t ++ facts) → WritesUpTo o0 o2 (length (text ++ t)) ((text ++ t) ++ facts)
  beginning_behind t facts h =
      let k = h.count in
      let first : length (text ++ t) ≡ length text + length t = length-append text t in
      let whole : length ((text ++ t) ++ facts) ≡ length (text ++ t) + length facts = length-append (text ++ t) facts in
      let rest : length (t ++ facts) ≡ length t + length facts = length-append t facts in
      let enough : length t ≤ k = h.enough in
      let short : k < length (t ++ facts) = h.short in
      let same : take (length text + k) ((text ++ t) ++ facts) ≡ text ++ take k (t ++ facts) = ap (take (length text + k)) (append_assoc text t facts) ∙ take_past text (t ++ facts) k in
      record {
        count = length text + k;
        enough = omega (arith, first, enough);
        short = omega (arith, first, whole, rest, short);
        writes = subst (Appends o0 o2) (sym same) (Appends-trans o0 o1 o2 text (take k (t ++ facts)) before.writes h.writes);
      }

  -- a group that stops after another text stops after both
  pub stops_behind : (t facts : List ℕ) (f : Fault) → GroupStops t facts (between o1 o2 om oa) f → GroupStops (text ++ t) facts (between o0 o2 ob oa) f
  stops_behind t facts f h = elim h [
    | inl write ↦ inl (write.0, write.1 ∙ ap one_more before.written, beginning_behind t facts write.2)
    | inr none ↦ inr (none.0, wrote_behind t none.1)
  ]

  pub stops_after : (facts : List ℕ) (f : Fault) → GroupStops [] facts (between o1 o2 om oa) f → GroupStops text facts (between o0 o2 ob oa) f
  stops_after facts f h = subst (λ z. GroupStops z facts (between o0 o2 ob oa) f) (append-nil text) (stops_behind [] facts f h)

-- why a group was not written whole
pub group_tells : (facts : List ℕ) (p : Passage) (f : Fault) → WritesFrame facts p (Err f) → is_telling_fault f ≡ true
group_tells facts p f h = elim h [
  | inl write ↦ subst (λ z. is_telling_fault z ≡ true) (sym write.0) refl
  | inr none ↦ subst (λ z. is_telling_fault z ≡ true) (sym none.0) refl
]

-- a group that was written
pub group_wrote : (facts : List ℕ) (o0 o1 : Option (List ℕ)) (ob om : ℕ) (done : Unit {0}) → WritesFrame facts (between o0 o1 ob om) (Ok done) → Wrote facts (between o0 o1 ob om)
group_wrote facts o0 o1 ob om done h = record { written = h.0; writes = h.1 }

-- a group that was not written whole
pub group_stops : (facts : List ℕ) (o0 o1 : Option (List ℕ)) (ob om : ℕ) (f : Fault) → WritesFrame facts (between o0 o1 ob om) (Err f) → GroupStops [] facts (between o0 o1 ob om) f
group_stops facts o0 o1 ob om f h = elim h [
  | inl write ↦ inl (write.0, write.1, let least : 0 ≤ write.2.0 = omega arith in record { count = write.2.0; enough = least; short = write.2.1; writes = write.2.2 })
  | inr none ↦ inr (none.0, record { written = none.1; writes = Appends-kept o0 o0 o1 [] (Appends-nil o0) none.2 })
]
