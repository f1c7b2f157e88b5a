-- Zeros of a block that were read by a state that is kept apart.
use Rattle.std.proofs.Common.{◌≡◌, ℕ, ◌+◌, ◌*◌, ◌<◌, List, length, arith, slice_set, sym, ap, subst}
use Rattle.std.proofs.Common.{◌∙◌, inl, inr, length-set, get_or-set_same, get_or-set_other}
use Rattle.std.proofs.lemmas.Bool.{cases_eq}
use Rattle.std.proofs.lemmas.List.{set-get_or}
use Rattle.ffv1_range.specs.Table.{Table, Holds}
use Rattle.ffv1_range.specs.Symbols.{AllHeld}
use Rattle.ffv1_range.specs.Reading.{summed}
use Rattle.ffv1_range.specs.Among.{sums_among}
use Rattle.ffv1_line.specs.declared.decode.places.Places.{Places}
use Rattle.ffv1_line.specs.Internal.Places.{ReadOn, ReadZeros, ReadZerosBy, KeptApart}
use Rattle.ffv1_line.specs.Coder.{decoder_by, Decoder}

-- nothing was read yet
pub read_nothing : {B : Type 0} (p : Places B) (x : ℕ) (r : Decoder) (cur : List ℕ) → ReadOn p x r
    cur x r cur
read_nothing p x r cur = record { on = λ before on. on; lined = λ first lined. lined }

-- it was read on and on
pub read_further : {B : Type 0} (p : Places B) (x y z : ℕ) (a b c : Decoder)
    (cur row next : List ℕ) → ReadOn p x a cur y b row → ReadOn p y b row z c next → ReadOn p x a
    cur z c next
read_further p x y z a b c cur row next first second = record {
  on = λ before on. second.on before (first.on before on);
  lined = λ d lined. second.lined d (first.lined d lined);
}

pub zeros_none : {B : Type 0} (p : Places B) (i : ℕ) (r : Decoder) (cur : List ℕ) → ReadZeros p i r
    cur i r cur
zeros_none p i r cur = record {
  least = omega arith;
  read = λ nonzeros few. read_nothing p (p.from + i)
      (decoder_by (summed r.reading (sums_among i nonzeros)) r.states) cur;
}

pub zeros_by_none : {B : Type 0} (p : Places B) (size i : ℕ) (r : KeptApart) → ReadZerosBy p size i
    r i r
zeros_by_none p size i r = record {
  by = λ states fits is.
      let same : slice_set states (size * 32) r.state ≡ states =
      ap (λ s. slice_set states (size * 32) s) (sym is) ∙ set-get_or states (size * 32) 0 in
      subst (λ after. ReadZeros p i (decoder_by r.reading states) r.row i
      (decoder_by r.reading after) r.row) (sym same)
      (zeros_none p i (decoder_by r.reading states) r.row);
}

-- the state that was kept apart is one of the others again
pub held_with : (t : Table) (states : List ℕ) (k state : ℕ) → k < length states → AllHeld t states →
    Holds t state → AllHeld t (slice_set states k state)
held_with t states k state below all holds = record {
  held = λ slot inside. elim (cases_eq slot k) [
    | inl same ↦ rw same (subst (Holds t) (sym (get_or-set_same states k state 0 below)) holds)
    | inr other ↦ subst (Holds t) (sym (get_or-set_other states k slot state 0 other))
        (all.held slot (omega (arith, length-set states k state)))
  ];
}
