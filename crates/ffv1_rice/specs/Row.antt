-- The bits of a row (RFC 9043, 3.8.2.2 and 3.8.2.3).
use Rattle.std.specs.Prelude.{ℕ, ◌≡◌, ◌<◌, ◌+◌, ◌-◌, ◌^◌, ◌==◌, if◌then◌else◌, Bool, true, false}
use Rattle.std.specs.Prelude.{List, []}
use Rattle.std.specs.Prelude.{◌∷◌, ◌++◌, Option, Some, None, ℤ, pos, negsuc}
use Rattle.std.proofs.Common.{zero, suc}
use Rattle.ffv1_plane.specs.Quantisation.{Set}
use Rattle.ffv1_plane.specs.Context.{size_of}
use Rattle.ffv1_plane.specs.Residual.{IsFolded}
use Rattle.ffv1_line.specs.Beside.{beside, chosen_beside}
use Rattle.ffv1_rice.specs.declared.state.State.{State}
use Rattle.ffv1_rice.specs.Bits.{binary}
use Rattle.ffv1_rice.specs.Run.{run_log}
use Rattle.ffv1_rice.specs.Scalar.{scalar_bits, scalar_after}

-- a place of a row: the number of its context, and its difference, flipped where the context is
pub record Place : Type 0 where
  pub context : ℕ
  pub difference : ℤ

-- what a row is coded by: the states of the contexts, the index of its runs, and how many
-- differences there are of a run that goes on
pub record Coder : Type 0 where
  pub states : ℕ → State
  pub index : ℕ
  pub run : Option ℕ

-- the states with another one of a context
abbrev pub with_state : (ℕ → State) → ℕ → State → ℕ → State
with_state states context s k = if k == context then s else states k

-- the run at a place: if none goes on, one begins at context 0
abbrev pub begun : Option ℕ → ℕ → Option ℕ
begun (Some n) context = Some n
begun None context = if context == 0 then Some 0 else None

-- after a run no difference is 0, so that a positive one counts one less
abbrev pub shortened : ℤ → ℤ
shortened (pos zero) = pos zero
shortened (pos (suc n)) = pos n
shortened (negsuc n) = negsuc n

-- what is written of a difference, after a run or not
abbrev pub coded : Bool → ℤ → ℤ
coded false d = d
coded true d = shortened d

abbrev pub is_zero : ℤ → Bool
is_zero (pos zero) = true
is_zero (pos (suc n)) = false
is_zero (negsuc n) = false

-- the bits that a place in a run adds, after n differences of it: a 1 once it is whole, and where
-- it is broken a 0, how many they are, and the difference
abbrev pub run_bits : ℕ → Coder → Place → ℕ → List Bool
run_bits depth c p n =
    if is_zero p.difference
    then (if suc n == 2 ^ run_log c.index then true ∷ [] else [])
    else false ∷ (binary (run_log c.index) n ++ scalar_bits depth (c.states p.context)
    (shortened p.difference))

-- those of any place
abbrev pub bits_in : ℕ → Coder → Place → Option ℕ → List Bool
bits_in depth c p None = scalar_bits depth (c.states p.context) p.difference
bits_in depth c p (Some n) = run_bits depth c p n

abbrev pub place_bits : ℕ → Coder → Place → List Bool
place_bits depth c p = bits_in depth c p (begun c.run p.context)

-- what the next place is coded by
abbrev pub run_after : ℕ → Coder → Place → ℕ → Coder
run_after depth c p n =
    if is_zero p.difference
    then (if suc n == 2 ^ run_log c.index
    then record { states = c.states; index = c.index + 1; run = Some 0 }
    else record { states = c.states; index = c.index; run = Some (suc n) })
    else record {
      states = with_state c.states p.context (scalar_after depth (c.states p.context)
          (shortened p.difference));
      index = c.index - 1;
      run = None;
    }

abbrev pub after_in : ℕ → Coder → Place → Option ℕ → Coder
after_in depth c p None = record {
  states = with_state c.states p.context (scalar_after depth (c.states p.context) p.difference);
  index = c.index;
  run = None;
}
after_in depth c p (Some n) = run_after depth c p n

abbrev pub place_after : ℕ → Coder → Place → Coder
place_after depth c p = after_in depth c p (begun c.run p.context)

-- the bits of some places one after the other, and what the next is coded by
unfoldable pub places_bits : ℕ → Coder → List Place → List Bool
places_bits depth c [] = []
places_bits depth c (p ∷ ps) = place_bits depth c p ++ places_bits depth (place_after depth c p) ps

unfoldable pub places_after : ℕ → Coder → List Place → Coder
places_after depth c [] = c
places_after depth c (p ∷ ps) = places_after depth (place_after depth c p) ps

-- the end of a row ends a run: a 1, if it is not whole
abbrev pub end_bits : Option ℕ → List Bool
end_bits None = []
end_bits (Some zero) = []
end_bits (Some (suc n)) = true ∷ []

-- the bits of a row
abbrev pub row_bits : ℕ → Coder → List Place → List Bool
row_bits depth c ps = places_bits depth c ps ++ end_bits (places_after depth c ps).run

-- a row begins with no run on
abbrev pub begins : (ℕ → State) → ℕ → Coder
begins states index = record { states = states; index = index; run = None }

-- place x of a row below two others
abbrev pub place_at : Set → ℕ → List ℕ → List ℕ → List ℕ → ℕ → Place
place_at set depth two one row x = record {
  context = size_of set (beside two one row x);
  difference = chosen_beside set depth two one row x;
}

-- its first n places
unfoldable pub places_of : Set → ℕ → List ℕ → List ℕ → List ℕ → ℕ → List Place
places_of set depth two one row zero = []
places_of set depth two one row (suc n) =
    places_of set depth two one row n ++ (place_at set depth two one row n ∷ [])

-- the places of two rows of one length have the same contexts as long as their differences agree
abbrev pub AreAlike : List Place → List Place → Type 0
AreAlike [] [] = Unit {0}
AreAlike [] (q ∷ qs) = ⊥
AreAlike (p ∷ ps) [] = ⊥
AreAlike (p ∷ ps) (q ∷ qs) =
    (p.context ≡ q.context) × (p.difference ≡ q.difference → AreAlike ps qs)

-- each difference is folded
abbrev pub AreFolded : ℕ → List Place → Type 0
AreFolded depth [] = Unit {0}
AreFolded depth (p ∷ ps) = IsFolded depth p.difference × AreFolded depth ps

-- each context is one of so many
abbrev pub AreContexts : ℕ → List Place → Type 0
AreContexts contexts [] = Unit {0}
AreContexts contexts (p ∷ ps) = (p.context < contexts) × AreContexts contexts ps

-- a run that goes on is not yet whole
abbrev pub IsRunning : ℕ → Option ℕ → Type 0
IsRunning index run = (n : ℕ) → run ≡ Some n → n < 2 ^ run_log index

-- two coders know the same: of so many contexts, of the index and of the run
pub record KnowSame (contexts : ℕ) (c d : Coder) : Type 0 where
  pub states : (k : ℕ) → k < contexts → c.states k ≡ d.states k
  pub index : c.index ≡ d.index
  pub run : c.run ≡ d.run
