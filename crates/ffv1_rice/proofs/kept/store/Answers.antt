-- Keeps the state of a context.
use Rattle.std.proofs.Common.{refl, ◌+◌, ◌*◌, ◌/◌, ◌%◌, ◌≤◌, ◌⊎◌, inl, inr, arith, pos, ◌+ℤ◌, ◌-ℤ◌}
use Rattle.std.proofs.Common.{to_z, of_z, w32, unsigned_abs}
use Rattle.std.proofs.lemmas.Int.{ints}
use Rattle.std.proofs.lemmas.Bool.{cases_lt}
use Rattle.ffv1_rice.proofs.Stored.{stored_state, other_state}
use Rattle.ffv1_rice.proofs.kept.store.Goals as goal

pub returns-clause-own : goal.returns-clause-own
returns-clause-own c =
    let s = c.args.state.now in
    let above = c.requires.state.above in
    let below = c.requires.state.below in
    let few = c.requires.state.few in
    let least = c.requires.state.least in
    let most = c.requires.state.most in
    let inside = c.requires.inside in
    stored_state c.args.states.now (32 * c.args.context)
    (unsigned_abs (to_z w32 (of_z w32 (pos 0 -ℤ to_z w32 (of_z w32 s.drift)))))
    (s.error_sum % 256) (s.error_sum / 256)
    (unsigned_abs (to_z w32 (of_z w32 (to_z w32 (of_z w32 s.bias) +ℤ pos 128)))) s.count s
    (omega (arith, inside)) (omega (arith, ints, above, below, few)) (omega arith)
    (omega (arith, ints, least, most)) refl

pub returns-clause-others : goal.returns-clause-others
returns-clause-others c = λ other apart.
    let s = c.args.state.now in
    let places : (32 * other + 5 ≤ 32 * c.args.context) ⊎ (32 * c.args.context + 5 ≤ 32 * other) =
    elim (cases_lt other c.args.context) [
      | inl less ↦ inl (omega (arith, less))
      | inr more ↦ inr (omega (arith, more, apart))
    ] in
    other_state c.args.states.now (32 * c.args.context)
    (unsigned_abs (to_z w32 (of_z w32 (pos 0 -ℤ to_z w32 (of_z w32 s.drift)))))
    (s.error_sum % 256) (s.error_sum / 256)
    (unsigned_abs (to_z w32 (of_z w32 (to_z w32 (of_z w32 s.bias) +ℤ pos 128)))) s.count
    (32 * other) places
