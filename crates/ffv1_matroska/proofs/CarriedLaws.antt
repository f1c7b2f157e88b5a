-- What holds beside elements that are read one after the other, if it goes on with each of them.
use Rattle.std.proofs.Common.{◌≡◌, ◌++◌, ℕ, List, [], ◌∷◌, Some, Ok, sym, subst, append_assoc}
use Rattle.ffv1_reads.specs.Offsets.{Leads, ReadsWhole, all_bytes}
use Rattle.ffv1_reads.specs.Reads.{given}
use Rattle.ffv1_reads.proofs.Results.{ok_is, read_on_ok}
use Rattle.ffv1_matroska.specs.Carried.{carried}
use Rattle.ffv1_matroska.specs.Offsets.{element_taken}
use Rattle.ffv1_matroska.specs.declared.place.Place.{Place}
use Rattle.ffv1_matroska.specs.declared.track.TrackNumbers.{TrackNumbers}

module _ {X : Type 0} (behind : Place → List ℕ → X → X) (track : TrackNumbers) (Holds : Place → List ℕ → X → Type 0)
    (goes : (place to : Place) (text rest : List ℕ) (x : X) → Holds place text x → element_taken track place text ≡ Ok (to, rest) → Holds to rest (behind place text x)) where
  one_more : (from to : Place × X) (text rest : List ℕ) → Holds from.0 text from.1 → carried behind track from text ≡ Ok (to, rest) → Holds to.0 rest to.1
  one_more from to text rest h is =
      let one = read_on_ok (element_taken track from.0 text) (λ place. given (place, behind from.0 text from.1)) (to, rest) is in
      let same = ok_is ((one.0.0, behind from.0 text from.1), one.0.1) (to, rest) one.2 in
      let P : (Place × X) × List ℕ → Type 0 = λ z. Holds z.0.0 z.1 z.0.1 in
      subst P same (goes from.0 one.0.0 text one.0.1 from.1 h one.1)

  leads_holds : (elements : List (List ℕ)) (from to : Place × X) (rest : List ℕ) → Leads (carried behind track) from elements to → Holds from.0 (all_bytes elements ++ rest) from.1 → Holds to.0 rest to.1
  leads_holds [] from to rest leads h = let P : Place × X → Type 0 = λ z. Holds z.0 rest z.1 in subst P (sym leads) h
  leads_holds (bytes ∷ others) from to rest (next, step, more) h =
      let text = all_bytes others ++ rest in
      let P : List ℕ → Type 0 = λ z. Holds from.0 z from.1 in
      let here = subst P (append_assoc bytes (all_bytes others) rest) h in
      leads_holds others next to rest more (one_more from next (bytes ++ text) text here (step text))

  pub carried_holds : (from to : Place × X) (begun left : List ℕ) (count : ℕ) → ReadsWhole (carried behind track) from (Some begun) (Some left) to count → Holds from.0 begun from.1 → Holds to.0 left to.1
  carried_holds from to begun left count reads h =
      let P : List ℕ → Type 0 = λ z. Holds from.0 z from.1 in
      leads_holds reads.elements from to left reads.leads (subst P reads.consumed h)
