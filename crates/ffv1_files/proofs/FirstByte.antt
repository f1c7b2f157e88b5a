-- A file of which the first byte was looked at.
use Rattle.std.proofs.Common.{◌≡◌, ◌⊎◌, refl, ℕ, Bool, true, false, Option, Some, None, Result, Ok, Err, List, [], ◌∷◌, ◌++◌, inl, inr, ap, sym, subst, ◌∙◌, nat_eq}
use Rattle.std.specs.Option.{option_eq}
use Rattle.std.proofs.lemmas.Bool.{eq-eqb, eqb-true}
use Rattle.std.specs.Io.KnownBytes.{Keeps}
use Rattle.ffv1_wire.specs.Passage.{between}
use Rattle.ffv1_wire.specs.Reads.{GivesByte}
use Rattle.ffv1_reads.specs.First.{bytes_with}
use Rattle.ffv1_reads.specs.Known.{Known}
use Rattle.ffv1_reads.specs.Reads.{Kept, Met, Reading, Short, Stop, Want}
use Rattle.ffv1_reads.specs.declared.fault.FileFault.{FileFault}
use Rattle.ffv1_reads.specs.declared.fault.FileFault.TheVariants as fault
use Rattle.ffv1_files.specs.Answers.{Endings, FaultsRead, ReadFails, ReadsAs, SoFar, StopsReading}
use Rattle.ffv1_files.proofs.Answering.{known_map}

-- bytes that begin with this one, or are none
abbrev pub Begun : Option ℕ → List ℕ → Type 0
Begun None text = text ≡ []
Begun (Some b) text = (more : List ℕ) × (text ≡ b ∷ more)

-- those that were read of them are none, or begin so
part_begun : (first : Option ℕ) (text bytes rest : List ℕ) → Begun first text → text ≡ bytes ++ rest → (bytes ≡ []) ⊎ Begun first bytes
part_begun first text [] rest begun is = inl refl
part_begun None text (c ∷ cs) rest begun is = absurd (let other : [] ≡ (c ∷ cs) ++ rest = sym begun ∙ is in cc)
part_begun (Some b) text (c ∷ cs) rest (more, begun) is =
    let same : b ∷ more ≡ (c ∷ cs) ++ rest = sym begun ∙ is in
    let first : c ≡ b = cc in
    inr (cs, ap (λ z. z ∷ cs) first)

pub known_first : (first : Option ℕ) (old mid new : Option (List ℕ)) (P : List ℕ → List ℕ → Type 0) → GivesByte old mid first → Known (bytes_with first mid) new P → Known old new (λ text rest. Begun first text × P text rest)
known_first first None mid new P gives h = tt
known_first None (Some text) None new P gives h = absurd gives.0
known_first None (Some text) (Some left) None P gives h = absurd h
known_first None (Some text) (Some left) (Some rest) P gives h =
    let kept : text ≡ left = sym gives.0 in
    (kept ∙ gives.1, subst (λ z. P z rest) (sym kept) h)
known_first (Some b) (Some text) None new P gives h = absurd gives
known_first (Some b) (Some text) (Some left) None P gives h = absurd h
known_first (Some b) (Some text) (Some left) (Some rest) P gives h = ((left, gives), subst (λ z. P z rest) (sym gives) h)

-- a reading that is another one of such bytes
module _ {X : Type 0} (first : Option ℕ) (reading whole : Reading X) (same : (text : List ℕ) → Begun first text → whole text ≡ reading text) (none : whole [] ≡ reading []) where
  so_far : (r : Result (X × List ℕ) Stop) (text rest : List ℕ) → Begun first text × SoFar reading r text rest → SoFar whole r text rest
  so_far r text rest (begun, (bytes, is, reads)) = elim (part_begun first text bytes rest begun is) [
    | inl empty ↦ (bytes, is, subst (λ z. whole z ≡ reading z) (sym empty) none ∙ reads)
    | inr some ↦ (bytes, is, same bytes some ∙ reads)
  ]

  fails : (ends : Endings X) (text rest : List ℕ) → Begun first text × ReadFails ends reading text rest → ReadFails ends whole text rest
  fails ends text rest (begun, inl (w, h)) = inl (w, so_far (Err (Short w)) text rest (begun, h))
  fails ends text rest (begun, inr (inl (x, over, h))) = inr (inl (x, over, so_far (Ok (x, [])) text rest (begun, h)))
  fails ends text rest (begun, inr (inr (f, over, h))) = inr (inr (f, over, so_far (Err (Met f [])) text rest (begun, h)))

  faults : (f : FileFault) (text rest : List ℕ) → Begun first text × FaultsRead reading text rest f → FaultsRead whole text rest f
  faults f text rest (begun, inl (w, h, over, is)) = inl (w, same text begun ∙ h, over, is)
  faults f text rest (begun, inr h) = inr (same text begun ∙ h)

  module _ (old mid new : Option (List ℕ)) (before after : ℕ) (gives : GivesByte old mid first) where
    on : (P Q : List ℕ → List ℕ → Type 0) → ((text rest : List ℕ) → Begun first text × P text rest → Q text rest) → Known (bytes_with first mid) new P → Known old new Q
    on P Q f h = known_map old new (λ text rest. Begun first text × P text rest) Q f (known_first first old mid new P gives h)

    pub first_reads : (x : X) → ReadsAs reading (between (bytes_with first mid) new before after) x → ReadsAs whole (between old new before after) x
    first_reads x h = (h.0, on _ _ (λ text rest z. same text z.0 ∙ z.1) h.1)

    pub first_stops : (ends : Endings X) (f : FileFault) → StopsReading ends reading (between (bytes_with first mid) new before after) f → StopsReading ends whole (between old new before after) f
    first_stops ends fault.OutOfMemory h = (h.0, on _ _ (so_far (Err (Short Kept))) h.1)
    first_stops ends fault.TooLarge h = absurd h
    first_stops ends fault.Read h = (h.0, on _ _ (fails ends) h.1)
    first_stops ends fault.Write h = absurd h
    first_stops ends fault.Rate h = absurd h
    first_stops ends f h = (h.0, on _ _ (faults f) h.1)

-- a byte that was compared with another one
pub other_first : (first : Option ℕ) (b : ℕ) (same : Bool) → same ≡ option_eq nat_eq first (Some b) → same ≡ false → first ≡ Some b → ⊥
other_first None b same e f is = cc
other_first (Some a) b same e f is =
    let equal : a ≡ b = cc in
    absurd (let no : true ≡ false = sym (eq-eqb a b equal) ∙ sym e ∙ f in cc)

pub same_first : (first : Option ℕ) (b : ℕ) (same : Bool) → same ≡ option_eq nat_eq first (Some b) → same ≡ true → first ≡ Some b
same_first None b same e f = cc
same_first (Some a) b same e f = ap Some (eqb-true a b (sym e ∙ f))

-- a read that failed at once, of which nothing was taken
pub nothing_read : {X : Type 0} (ends : Endings X) (whole : Reading X) (w : Want) (old new : Option (List ℕ)) → whole [] ≡ Err (Short w) → Keeps old new → Known old new (ReadFails ends whole)
nothing_read ends whole w None new none kept = tt
nothing_read ends whole w (Some text) None none kept = absurd kept
nothing_read ends whole w (Some text) (Some rest) none kept = inl (w, ([], sym kept, none))
