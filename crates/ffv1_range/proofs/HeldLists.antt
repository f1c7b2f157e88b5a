-- States that a table holds make lists that it holds.
use Rattle.std.proofs.Common.{ℕ, ◌<◌, List, [], ◌∷◌, length, get_or, arith, sym, subst, inl, inr, length-set, get_or-set_same, get_or-set_other}
use Rattle.std.proofs.lemmas.Bool.{cases_eq}
use Rattle.ffv1_range.specs.Table.{Table, Holds, moved, IsTable}
use Rattle.ffv1_range.specs.Symbols.{Step, stepped, decided, AllHeld}
use Rattle.ffv1_range.specs.History.{AreBelow}
use Rattle.ffv1_range.specs.Weight.{AreHeldBy}
use Rattle.ffv1_range.proofs.Named.{moved_held}

stepped_held : (t : Table) → IsTable t.floor t.one → (states : List ℕ) (s : Step) → s.slot < length states → AllHeld t states → AllHeld t (stepped t states s)
stepped_held t table states s below all = record {
  held = λ slot inside. elim (cases_eq slot s.slot) [
    | inl same ↦
        let now = get_or-set_same states s.slot (moved t (get_or states s.slot 0) s.bit) 0 below in
        rw same (subst (Holds t) (sym now) (moved_held t table (get_or states s.slot 0) s.bit (all.held s.slot below)))
    | inr other ↦
        let now = get_or-set_other states s.slot slot (moved t (get_or states s.slot 0) s.bit) 0 other in
        subst (Holds t) (sym now) (all.held slot (omega (arith, length-set states s.slot (moved t (get_or states s.slot 0) s.bit))))
  ];
}

pub decided_held : (t : Table) → IsTable t.floor t.one → (states : List ℕ) (ss : List Step) → AreBelow ss (length states) → AllHeld t states →
    AreHeldBy t.floor (decided t states ss)
decided_held t table states [] below all = tt
decided_held t table states (s ∷ ss) below all =
    let here = all.held s.slot below.0 in (
      record { least = here.least; most = here.most },
      decided_held t table (stepped t states s) ss (subst (AreBelow ss) (sym (length-set states s.slot (moved t (get_or states s.slot 0) s.bit))) below.1)
          (stepped_held t table states s below.0 all),
    )
