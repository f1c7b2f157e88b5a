-- A payload is cut in one way, which is what is found from its end.
use Rattle.std.proofs.Common.{◌≡◌, refl, ℕ, ◌*◌, ◌≤◌, Result, Ok, Err, List, slice_index, ap, sym, ◌∙◌, arith}
use Rattle.std.proofs.lemmas.Grind.{same_number_lists}
use Rattle.ffv1_record.specs.Configuration.{Configuration}
use Rattle.ffv1_slice.specs.declared.cutting.CutFault.{CutFault}
use Rattle.ffv1_slice.specs.Cutting.{Cuts, CutsTo, IsRefused}
use Rattle.ffv1_slice.specs.Internal.Walk.{cut_of}
use Rattle.ffv1_slice.proofs.Cuttings.{cut_found, cut_only, cut_refused}
use Rattle.ffv1_slice.proofs.Refusals.{because, why}

pub is_cut : (c : Configuration) (payload : List ℕ) (r : Result (List ℕ) CutFault) → cut_of c payload ≡ r → CutsTo c payload r
is_cut c payload (Ok os) h = cut_found c payload os h
is_cut c payload (Err f) h = why c payload f h

pub cut_is : (c : Configuration) (payload : List ℕ) (r : Result (List ℕ) CutFault) → CutsTo c payload r → cut_of c payload ≡ r
cut_is c payload (Ok os) h =
    let cut = cut_only c payload (slice_index os) h.1 in
    let long = cut.2 in
    cut.1 ∙ ap Ok (same_number_lists cut.0 os (long ∙ sym h.0) (λ k inside. cut.3 k (omega (arith, inside, long))))
cut_is c payload (Err f) h = because c payload f h

pub some_way : (c : Configuration) (payload : List ℕ) → (r : Result (List ℕ) CutFault) × CutsTo c payload r
some_way c payload = (cut_of c payload, is_cut c payload (cut_of c payload) refl)

pub one_way : (c : Configuration) (payload : List ℕ) (r s : Result (List ℕ) CutFault) → CutsTo c payload r → CutsTo c payload s → r ≡ s
one_way c payload r s first second = sym (cut_is c payload r first) ∙ cut_is c payload s second

pub its_offsets : (c : Configuration) (payload : List ℕ) (spans : ℕ → ℕ) → Cuts c payload spans →
    (os : List ℕ) × CutsTo c payload (Ok os) × ((s : ℕ) → s ≤ c.columns * c.rows → slice_index os s ≡ spans s)
its_offsets c payload spans cuts =
    let cut = cut_only c payload spans cuts in
    (cut.0, cut_found c payload cut.0 cut.1, cut.3)

pub not_refused : (c : Configuration) (payload : List ℕ) (spans : ℕ → ℕ) (f : CutFault) → IsRefused c payload f → Cuts c payload spans → ⊥
not_refused c payload spans f refused cuts = cut_refused c payload spans f (because c payload f refused) cuts
