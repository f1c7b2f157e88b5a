-- A call on the states of one class, seen by all states of a slice.
use Rattle.std.proofs.Common.{◌≡◌, ℕ, suc, ◌+◌, ◌-◌, ◌*◌, ◌<◌, ◌≤◌, List, [], ◌++◌, length, get_or, take, drop, sym, ◌∙◌, ap, arith, subst, length-drop, length-append, inl, inr}
use Rattle.std.proofs.lemmas.Bool.{cases_lt}
use Rattle.std.proofs.lemmas.List.{length-take-le, get_or-take, get_or-drop, get_or_append_left, get_or-append-add}
use Rattle.ffv1_range.specs.Interval.{Interval, Decision, narrowed, interval_of, start}
use Rattle.ffv1_range.specs.Table.{Table, Holds}
use Rattle.ffv1_range.specs.Symbols.{Step, shifted, decided, moved_by, AllHeld}
use Rattle.ffv1_range.specs.History.{decisions_after, AreBelow, HasStates}
use Rattle.ffv1_range.specs.Writing.{Writing}
use Rattle.ffv1_range.specs.Counts.{Counts, Counted}
use Rattle.ffv1_range.specs.Puts.{Puts}
use Rattle.std.specs.Prelude.{ℤ}
use Rattle.ffv1_plane.specs.Quantisation.{Set, contexts_of}
use Rattle.ffv1_line.specs.Cell.{Cell, Above, Shows}
use Rattle.ffv1_line.specs.Row.{row_steps, chosen_row}
use Rattle.ffv1_line.specs.Encoded.{Written}
use Rattle.ffv1_encode.specs.Internal.HasPut.{PutsAfter}
use Rattle.ffv1_line.specs.Coding.{coding_by}
use Rattle.ffv1_line.specs.Coder.{encoder_by}
use Rattle.ffv1_line.specs.Above.{rows_above}

-- the laws of states that are kept
pub record Kept : Type 0 where
  pub decided : (t : Table) (states : List ℕ) (base : ℕ) (past steps : List Step) → AreBelow steps (length states) → HasStates t states base past → decided t states steps ≡ decisions_after t past (shifted base steps)
  pub moved : (t : Table) (states : List ℕ) (base : ℕ) (past steps : List Step) → AreBelow steps (length states) → HasStates t states base past → HasStates t (moved_by t states steps) base (past ++ shifted base steps)
  pub part : (t : Table) (states : List ℕ) (base at count : ℕ) (past : List Step) → at + count ≤ length states → HasStates t states base past → HasStates t (take count (drop at states)) (base + at) past
  pub put : (t : Table) (states ys : List ℕ) (base at count : ℕ) (past ss : List Step) → at + count ≤ length states → length ys ≡ count → AreBelow ss count →
      HasStates t states base past → HasStates t ys (base + at) (past ++ shifted (base + at) ss) → HasStates t (take at states ++ (ys ++ drop count (drop at states))) base (past ++ shifted (base + at) ss)
  pub interval : (i : Interval) (xs ys : List Decision) → narrowed i (xs ++ ys) ≡ narrowed (narrowed i xs) ys
  pub history : (t : Table) (past xs ys : List Step) → decisions_after t past (xs ++ ys) ≡ decisions_after t past xs ++ decisions_after t (past ++ xs) ys
  pub counts : (a b c : Counts) (xs ys : List Step) → Counted a xs b → Counted b ys c → Counted a (xs ++ ys) c
  pub counts_shifted : (a b : Counts) (base : ℕ) (steps : List Step) → Counted a steps b → Counted a (shifted base steps) b

pub window_long : (states : List ℕ) (at count : ℕ) → at + count ≤ length states → length (take count (drop at states)) ≡ count
window_long states at count fits = length-take-le count (drop at states) (let all = length-drop at states in omega (arith, all, fits))

-- a put on a part of the states
pub part_puts : (t : Table) (old new : Writing) (states ys : List ℕ) (at count : ℕ) (steps : List Step) → Kept → at + count ≤ length states → length ys ≡ count → AreBelow steps count →
    Puts t old (take count (drop at states)) new ys steps → PutsAfter t old states new (take at states ++ (ys ++ drop count (drop at states))) (shifted (33 + at) steps)
part_puts t old new states ys at count steps laws fits long below puts = record {
  behind = λ past behind.
      let part = take count (drop at states) in
      let more = shifted (33 + at) steps in
      let has : HasStates t part (33 + at) past = laws.part t states 33 at count past fits behind.has in
      let inside : AreBelow steps (length part) = subst (AreBelow steps) (sym (window_long states at count fits)) below in
      let after : HasStates t ys (33 + at) (past ++ more) = subst (λ zs. HasStates t zs (33 + at) (past ++ more)) (sym puts.moves) (laws.moved t part (33 + at) past steps inside has) in
      record {
        interval = puts.interval ∙ ap (λ i. narrowed i (decided t part steps)) behind.interval ∙ ap (narrowed (interval_of (decisions_after t [] past))) (laws.decided t part (33 + at) past steps inside has)
            ∙ sym (laws.interval start (decisions_after t [] past) (decisions_after t past more)) ∙ ap interval_of (sym (laws.history t [] past more));
        has = laws.put t states ys 33 at count past steps fits long below behind.has after;
        counts = laws.counts _ _ _ _ _ behind.counts (laws.counts_shifted _ _ (33 + at) steps puts.counts);
      };
}

-- a part of states that are held
pub part_held : (t : Table) (states : List ℕ) (at count : ℕ) → at + count ≤ length states → AllHeld t states → AllHeld t (take count (drop at states))
part_held t states at count fits held = record {
  held = λ i inside.
      let inside : i < count = let long = window_long states at count fits in omega (arith, long, inside) in
      subst (Holds t) (sym (get_or-take count (drop at states) i 0 inside ∙ get_or-drop at states i 0)) (held.held (at + i) (omega (arith, inside, fits)));
}

append_held : (t : Table) (xs ys : List ℕ) → AllHeld t xs → AllHeld t ys → AllHeld t (xs ++ ys)
append_held t xs ys first second = record {
  held = λ i inside. elim (cases_lt i (length xs)) [
    | inl here ↦ subst (Holds t) (sym (get_or_append_left xs ys 0 i here)) (first.held i here)
    | inr later ↦
        let k : ℕ = i - length xs in
        let place : i ≡ length xs + k = omega (arith, later) in
        let inside : k < length ys = let long = length-append xs ys in omega (arith, long, inside, later) in
        subst (Holds t) (sym (ap (λ m. get_or (xs ++ ys) m 0) place ∙ get_or-append-add xs ys k 0)) (second.held k inside)
  ];
}

drop_held : (t : Table) (states : List ℕ) (at : ℕ) → AllHeld t states → AllHeld t (drop at states)
drop_held t states at held = record {
  held = λ i inside. subst (Holds t) (sym (get_or-drop at states i 0)) (held.held (at + i) (let long = length-drop at states in omega (arith, long, inside)));
}

take_held : (t : Table) (states : List ℕ) (at : ℕ) → at ≤ length states → AllHeld t states → AllHeld t (take at states)
take_held t states at fits held = record {
  held = λ i inside.
      let inside : i < at = let long = length-take-le at states fits in omega (arith, long, inside) in
      subst (Holds t) (sym (get_or-take at states i 0 inside)) (held.held i (omega (arith, inside, fits)));
}

-- the states with another part
pub put_held : (t : Table) (states ys : List ℕ) (at count : ℕ) → at + count ≤ length states → AllHeld t states → AllHeld t ys → AllHeld t (take at states ++ (ys ++ drop count (drop at states)))
put_held t states ys at count fits held part =
    append_held t (take at states) (ys ++ drop count (drop at states)) (take_held t states at (omega (arith, fits)) held)
    (append_held t ys (drop count (drop at states)) part (drop_held t (drop at states) count (drop_held t states at held)))

pub put_long : (states ys : List ℕ) (at count : ℕ) → at + count ≤ length states → length ys ≡ count → length (take at states ++ (ys ++ drop count (drop at states))) ≡ length states
put_long states ys at count fits long =
    let first = length-append (take at states) (ys ++ drop count (drop at states)) in
    let second = length-append ys (drop count (drop at states)) in
    let a = length-take-le at states (omega (arith, fits)) in
    let b = length-drop at states in
    let d = length-drop count (drop at states) in
    omega (arith, first, second, a, b, d, long, fits)

-- a row that was written by the states of its class
pub row_puts : (t : Table) (set : Set) (old new : Writing) (states ys two one cur : List ℕ) (at wide bits : ℕ) → Kept →
    ((c : Cell) (y x : ℕ) (qs : List ℤ) → AreBelow (row_steps set c y x qs) (contexts_of set * 32)) →
    wide ≡ contexts_of set * 32 → at + contexts_of set * 32 ≤ length states → length ys ≡ length (take wide (drop at states)) →
    Written (coding_by t set bits) (encoder_by old (take wide (drop at states))) (encoder_by new ys) (rows_above two one) cur (length cur) →
    (cell : Cell) (y : ℕ) → Above cell y two one → length cur ≡ cell.width → Shows cell (suc (suc y)) cur cell.width →
    PutsAfter t old states new (take at states ++ (ys ++ drop wide (drop at states))) (shifted (33 + at) (row_steps set cell y 0 (chosen_row set bits cell y cell.width)))
row_puts t set old new states ys two one cur at wide bits laws below is fits long written cell y above cur_long shows =
    let fits : at + wide ≤ length states = omega (arith, fits, is) in
    let steps : List Step = row_steps set cell y 0 (chosen_row set bits cell y cell.width) in
    let inside : AreBelow steps wide = subst (AreBelow steps) (sym is) (below cell y 0 (chosen_row set bits cell y cell.width)) in
    let shows : Shows cell (suc (suc y)) cur (length cur) = subst (Shows cell (suc (suc y)) cur) (sym cur_long) shows in
    let puts : Puts t old (take wide (drop at states)) new ys steps =
    subst (λ n. Puts t old (take wide (drop at states)) new ys (row_steps set cell y 0 (chosen_row set bits cell y n))) cur_long (written.puts cell y above shows) in
    part_puts t old new states ys at wide steps laws fits (long ∙ window_long states at wide fits) inside puts
