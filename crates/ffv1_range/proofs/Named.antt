-- Every decision has a state, where the table keeps states held.
use Rattle.std.proofs.Common.{ℕ, ◌+◌, ◌-◌, ◌<◌, ◌≤◌, Bool, true, false, List, [], ◌∷◌, ◌++◌, get_or, replicate, sym, subst, arith}
use Rattle.std.proofs.lemmas.List.{get_or-replicate, length-replicate}
use Rattle.ffv1_range.specs.Table.{Table, Holds, moved, IsTable}
use Rattle.ffv1_range.specs.Codes.{AreStates}
use Rattle.ffv1_range.specs.Symbols.{Step, AreHeld, AllHeld}
use Rattle.ffv1_range.specs.History.{bits_at, moved_along, state_of, decisions_after}

holds_within : (t : Table) (n : ℕ) → 0 < t.floor → t.floor ≤ n → n + t.floor ≤ 256 → Holds t n
holds_within t n p l m = record { positive = omega (arith, p, l); small = omega (arith, p, m); least = l; most = m }

module _ (t : Table) (table : IsTable t.floor t.one) where
  pub moved_held : (state : ℕ) (bit : Bool) → Holds t state → Holds t (moved t state bit)
  moved_held state true h =
      holds_within t (get_or t.one state 0) table.positive (table.least state h.least h.most) (table.most state h.least h.most)
  moved_held state false h =
      let low : t.floor ≤ 256 - state = omega (arith, h.least, h.most) in
      let high : 256 - state + t.floor ≤ 256 = omega (arith, h.least, h.small) in
      let least = table.least (256 - state) low high in
      let most = table.most (256 - state) low high in
      holds_within t (256 - get_or t.one (256 - state) 0) table.positive (omega (arith, least, most)) (omega (arith, least, most))

  along_held : (state : ℕ) (bits : List Bool) → Holds t state → Holds t (moved_along t state bits)
  along_held state [] h = h
  along_held state (b ∷ bs) h = along_held (moved t state b) bs (moved_held state b h)

  fresh : Holds t 128
  fresh = holds_within t 128 table.positive table.middle (omega (arith, table.middle))

  pub state_held : (slot : ℕ) (past : List Step) → Holds t (state_of t slot past)
  state_held slot past = along_held 128 (bits_at slot past) fresh

  pub named : (past ss : List Step) → AreStates (decisions_after t past ss)
  named past [] = tt
  named past (s ∷ ss) =
      let held = state_held s.slot past in
      (record { least = held.positive; most = held.small }, named (past ++ (s ∷ [])) ss)

  pub fresh_held : AreHeld t (replicate 32 128)
  fresh_held = record {
    count = length-replicate {A = ℕ} 32 128;
    held = λ slot below. subst (Holds t) (sym (get_or-replicate {A = ℕ} 32 slot 128 0 below)) fresh;
  }

  pub all_fresh_held : (count : ℕ) → AllHeld t (replicate count 128)
  all_fresh_held count = record {
    held = λ slot below. subst (Holds t) (sym (get_or-replicate {A = ℕ} count slot 128 0 (omega (arith, length-replicate {A = ℕ} count 128)))) fresh;
  }
