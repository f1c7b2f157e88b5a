-- What the decisions of a frame cost, by its tally.
use Rattle.std.specs.Prelude.{◌≡◌, ◌⊎◌, ℕ, ◌+◌, ◌*◌, ◌^◌, ◌≤◌, List, [], ◌∷◌, length}
use Rattle.std.specs.List.{All}
use Rattle.ffv1_range.specs.declared.tally.Tally.{Tally}
use Rattle.ffv1_range.specs.Table.{Table}
use Rattle.ffv1_range.specs.History.{decisions_after}
use Rattle.ffv1_range.specs.Weight.{AreHeldBy, weight}
use Rattle.ffv1_record.specs.Accepted.{Accepted}
use Rattle.ffv1_frame.specs.Decoding.{State, Slice}
use Rattle.ffv1_frame.specs.Answer.{HasDecided, no_tally, slices_in}

-- the product of the shares of all decisions of some slices
abbrev pub weight_in : Table → List Slice → ℕ
weight_in t [] = 1
weight_in t (q ∷ qs) = weight (decisions_after t [] q.past) * weight_in t qs

-- each decision of these slices has a state that the table holds. Their bytes, of which a tally
-- shows the renormalisations, are little more than their weight asks for, a factor of at most
-- (floor + 1) / floor for each 1, and little fewer, by such a factor for each 0, and one of 255 a
-- slice
pub record Costs (t : Table) (slices : List Slice) (tally : Tally) : Type 0 where
  pub held : All (λ q. AreHeldBy t.floor (decisions_after t [] q.past)) slices
  pub most : t.floor ^ tally.ones * 256 ^ tally.renormalisations * weight_in t slices
      ≤ (256 * (t.floor + 1)) ^ tally.ones * 256 ^ tally.zeros
  pub least : 256 ^ tally.ones * (256 * t.floor) ^ tally.zeros
      ≤ 255 ^ length slices * 256 ^ tally.renormalisations * (t.floor + 1) ^ tally.zeros
      * weight_in t slices

-- the decisions that a tally shows cost so much, if a payload was cut; else nothing was decided
abbrev pub HasCost : Accepted → Tally → Type 0
HasCost a tally =
    (tally ≡ no_tally)
    ⊎ ((s : State) × HasDecided a.table s tally × Costs a.table (slices_in s) tally)
