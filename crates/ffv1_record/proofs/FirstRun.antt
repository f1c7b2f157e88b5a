-- The first run of the first table that is read.
use Rattle.std.proofs.Common.{◌≡◌, refl, ℕ, suc, ◌+◌, ◌-◌, inl, inr, List, [], replicate, ◌⊎◌, arith, Ok, subst, Bool, true, false, ap, sym, ◌∙◌, rules}
use Rattle.ffv1_record.specs.declared.fault.RecordFault.{RecordFault}
use Rattle.ffv1_record.specs.declared.fault.RecordFault.TheVariants as fault
use Rattle.ffv1_record.specs.Reader.{Spot, next_table, number_within}
use Rattle.ffv1_record.specs.Reading.{runs_onto, table, set, first_run}
use Rattle.ffv1_record.specs.Internal.Given.{Source, Stands, StandsIn, Gives, GivesIn, IsRead}
use Rattle.ffv1_record.proofs.CallsGive.{read_one, read_front}
use Rattle.ffv1_record.proofs.DecoderSpots.{stands_fresh}
use Rattle.ffv1_record.proofs.ReadIsCoded.{bind_ok}

-- nothing of a table was read
pub record IsFresh (left : ℕ) (a c : Source) (states : List ℕ) : Type 0 where
  pub all : left ≡ 128
  pub stands : (b : List ℕ) (s : Spot) → Stands a b s → StandsIn c states b s.fresh (record { past = s.past; fresh = s.fresh + 32 })

-- nothing was read of it, or its first run was
abbrev pub HasBegun : ℕ → Source → Source → List ℕ → Type 0
HasBegun left a c states = IsFresh left a c states ⊎ IsRead first_run a

pub none_begun : (a : Source) → HasBegun 128 a a (replicate 32 128)
none_begun a = inl (record { all = refl; stands = λ b s st. stands_fresh a b s st })

-- one run more
pub run_begins : (left n : ℕ) (a c d : Source) (states after : List ℕ) → HasBegun left a c states →
    GivesIn (λ base. number_within base 0 (left - 1) fault.Runs) c states d after (Ok n) → IsRead first_run a
unfolding next_table
run_begins left n a c d states after begun one = elim begun [
  | inl fresh ↦
      let last : left - 1 ≡ 127 = omega (arith, fresh.all) in
      let run = rw last at one in
      record {
        read = λ b s st.
            let on = run.gives b s.fresh (record { past = s.past; fresh = s.fresh + 32 }) (fresh.stands b s st) in
            (n, on.0, record { either = inl (s.fresh, record { past = s.past; fresh = s.fresh + 32 }, refl, on.1) });
      }
  | inr read ↦ read
]

-- of a table that is read
first_of_runs : (base steps left : ℕ) (runs b : List ℕ) (t : Spot) (x : List ℕ) (u : Spot) → runs_onto base (suc steps) (suc left) runs b t (Ok (x, u)) →
    (n : ℕ) × (w : Spot) × number_within base 0 left fault.Runs b t (Ok (n, w))
unfolding runs_onto
first_of_runs base steps left runs b t x u h =
    let parts = bind_ok (number_within base 0 left fault.Runs) _ b t x u h in
    (parts.0, parts.1, parts.2)

first_of_table : (a : Source) → IsRead table a → IsRead first_run a
first_of_table a whole = record {
  read = λ b s st.
      let all = whole.read b s st in
      let parts = bind_ok next_table _ b s all.0 all.1 all.2 in
      let run = first_of_runs parts.0 127 127 [] b parts.1 all.0 all.1 parts.3 in
      (run.0, run.1, record { either = inl (parts.0, parts.1, parts.2, run.2) });
}

pub table_begun : {V : Type 0} {view : V → List ℕ} {a b : Source} {v : V} → Gives view table a b (Ok v) → IsRead first_run a
table_begun {a = a} one = first_of_table a (read_one one)

-- of a set that is read
pub set_begun : {V : Type 0} {view : V → List (List ℕ)} {a b : Source} {v : V} → Gives view set a b (Ok v) → IsRead first_run a
set_begun {a = a} one = first_of_table a (read_front (read_one one))

-- of sets that are read one by one
pub either_begun : (a c : Source) → (c ≡ a) ⊎ IsRead first_run a → IsRead first_run c → IsRead first_run a
either_begun a c begun here = elim begun [
  | inl same ↦ subst (IsRead first_run) same here
  | inr read ↦ read
]

-- whether a fault tells of memory
abbrev pub wants_memory : RecordFault → Bool
wants_memory fault.OutOfMemory = true
wants_memory f = false

-- a number that is refused by its own fault wants no memory
pub own_told : (own f : RecordFault) → wants_memory own ≡ false → (f ≡ own) ⊎ (f ≡ fault.SymbolTooLong) → f ≡ fault.OutOfMemory → ⊥
own_told own f other refused memory = elim refused [
  | inl e ↦ let same : true ≡ false = ap wants_memory (sym memory ∙ e) ∙ other in search rules
  | inr e ↦ let same : true ≡ false = ap wants_memory (sym memory ∙ e) in search rules
]
