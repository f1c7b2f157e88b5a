-- What a reading that tells a fault has read, symbol by symbol.
use Rattle.std.proofs.Common.{◌≡◌, refl, ℕ, zero, suc, ◌^◌, ◌<◌, ◌≤◌, ◌⊎◌, inl, inr, Bool, true, false, IsFalse, nat_le, ◌&&◌, List, [], ◌∷◌, ◌++◌, length, append_assoc, ap, sym, subst, ◌∙◌, arith, ℤ, Result, Ok, Err}
use Rattle.std.proofs.Math.IntN.{nat_abs}
use Rattle.std.proofs.lemmas.Bool.{le-leb, leb-true, true≢false}
use Rattle.ffv1_range.specs.Symbols.{Step, shifted, too_long}
use Rattle.ffv1_range.specs.Table.{Table}
use Rattle.ffv1_range.specs.Standard.{standard}
use Rattle.ffv1_range.specs.Deltas.{IsTableOf}
use Rattle.ffv1_record.specs.declared.fault.RecordFault.{RecordFault}
use Rattle.ffv1_record.specs.declared.fault.RecordFault.TheVariants as fault
use Rattle.ffv1_record.specs.declared.config.Coder.{Coder}
use Rattle.ffv1_record.specs.declared.config.Coder.TheVariants as coder
use Rattle.ffv1_record.specs.Accepted.{IsTableFor, type_of}
use Rattle.ffv1_record.specs.Writable.{AreDeltas, IsWritable}
use Rattle.ffv1_record.specs.Record.{IsCoded, number_steps, signed_number_steps, truth_steps, deltas_steps}
use Rattle.ffv1_record.specs.Reader.{Reader, Spot, behind, Then, ◌>>=◌, done, require, number, signed_number, truth, number_within, makes_table}
use Rattle.ffv1_record.specs.Reading.{deltas_onto, coder_of}
use Rattle.ffv1_record.specs.Order.{IsBadNumber, AreBadDeltas}
use Rattle.ffv1_record.proofs.Checks.{both}
use Rattle.ffv1_record.proofs.ReadIsCoded.{bind_ok, deltas_ok, done_ok, not_both, ok_same, required_ok}

-- ---- readings, taken apart

pub err_same : {X : Type 0} (f g : RecordFault) → ◌≡◌ {A = Result X RecordFault} (Err f) (Err g) → f ≡ g
err_same f g e = cc

pub not_done : {X : Type 0} (x : X) (b : List ℕ) (s : Spot) (f : RecordFault) → done x b s (Err f) → ⊥
unfolding done
not_done x b s f h = not_both (x, s) f (sym h)

pub bind_err : {X Y : Type 0} (first : Reader X) (next : X → Reader Y) (b : List ℕ) (s : Spot) (f : RecordFault) → Then first next b s (Err f) →
    ((x : X) × (t : Spot) × first b s (Ok (x, t)) × next x b t (Err f)) ⊎ first b s (Err f)
bind_err {Y = Y} first next b s f h = elim h.either [
  | inl e ↦ inl (e.0, e.1, e.2, e.3)
  | inr e ↦ inr (subst (λ z. first b s (Err z)) (sym (err_same {X = Y × Spot} f e.0 e.2)) e.1)
]

pub required_err : (test : Bool) (f : RecordFault) (b : List ℕ) (s : Spot) (g : RecordFault) → require test f b s (Err g) → IsFalse test × (g ≡ f)
unfolding require
required_err true f b s g h = absurd (not_both (true, s) g (sym h))
required_err false f b s g h = (refl, err_same {X = Bool × Spot} g f h)

pub not_within : (least most n : ℕ) → IsFalse (nat_le least n && nat_le n most) → (least ≤ n) × (n ≤ most) → ⊥
not_within least most n bad g =
    let low : nat_le least n ≡ true = le-leb least n g.0 in
    let high : nat_le n most ≡ true = le-leb n most g.1 in
    true≢false (rw (low, high) at bad)

pub regroup : (p x y z : List Step) → p ++ (x ++ y ++ z) ≡ p ++ x ++ (y ++ z)
regroup p x y z = ap (λ q. p ++ q) (append_assoc x y z) ∙ sym (append_assoc p x (y ++ z))

module _ (b : List ℕ) where
  -- ---- single symbols

  pub number_err : (base : ℕ) (s : Spot) (f : RecordFault) → number base b s (Err f) → IsCoded b (s.past ++ shifted base too_long) × (f ≡ fault.SymbolTooLong)
  unfolding number
  number_err base s f h = elim h [
    | inl e ↦ absurd (not_both (e.0, behind s (number_steps base e.0)) f (sym e.3))
    | inr e ↦ (e.0, err_same {X = ℕ × Spot} f fault.SymbolTooLong e.1)
  ]

  pub record Value (base : ℕ) (s : Spot) (n : ℕ) (t : Spot) : Type 0 where
    pub small : n < 2 ^ 31
    pub coded : IsCoded b (s.past ++ number_steps base n)
    pub there : t ≡ behind s (number_steps base n)

  pub number_value : (base : ℕ) (s : Spot) (n : ℕ) (t : Spot) → number base b s (Ok (n, t)) → Value base s n t
  unfolding number
  number_value base s n t h = elim h [
    | inl e ↦
        let same = ok_same (n, t) (e.0, behind s (number_steps base e.0)) e.3 in
        let is : e.0 ≡ n = sym (ap (λ p. p.0) same) in
        record {
          small = subst (λ k. k < 2 ^ 31) is e.1;
          coded = subst (λ k. IsCoded b (s.past ++ number_steps base k)) is e.2;
          there = ap (λ p. p.1) same ∙ ap (λ k. behind s (number_steps base k)) is;
        }
    | inr e ↦ absurd (not_both (n, t) fault.SymbolTooLong e.1)
  ]

  -- symbols in the place of a parameter that are a fault
  abbrev pub Symbols : Spot → (List Step → Type 0) → Type 0
  Symbols s Fails = (steps : List Step) × Fails steps × IsCoded b (s.past ++ steps)

  pub within_err : (base least most : ℕ) (wrong : RecordFault) (s : Spot) (f : RecordFault) → number_within base least most wrong b s (Err f) → Symbols s (λ steps. IsBadNumber base (λ n. (least ≤ n) × (n ≤ most)) wrong steps f)
  within_err base least most wrong s f h = elim (bind_err (number base) _ b s f h) [
    | inr e ↦ let k = number_err base s f e in (shifted base too_long, inr (refl, k.1), k.0)
    | inl e ↦
        let n = e.0 in
        let v = number_value base s e.0 e.1 e.2 in
        elim (bind_err (require (nat_le least e.0 && nat_le e.0 most) wrong) _ b e.1 f e.3) [
          | inl d ↦ absurd (not_done e.0 b d.1 f d.3)
          | inr d ↦
              let k = required_err (nat_le least e.0 && nat_le e.0 most) wrong b e.1 f d in
              (number_steps base e.0, inl (n, v.small, not_within least most e.0 k.0, refl, k.1), v.coded)
        ]
  ]

  -- a number within bounds
  pub record Good (base least most : ℕ) (s : Spot) (n : ℕ) (t : Spot) : Type 0 where
    pub low : least ≤ n
    pub high : n ≤ most
    pub small : n < 2 ^ 31
    pub coded : IsCoded b (s.past ++ number_steps base n)
    pub there : t ≡ behind s (number_steps base n)

  pub within_value : (base least most : ℕ) (wrong : RecordFault) (s : Spot) (n : ℕ) (t : Spot) → number_within base least most wrong b s (Ok (n, t)) → Good base least most s n t
  within_value base least most wrong s n t h =
      let one = bind_ok (number base) (λ n. require (nat_le least n && nat_le n most) wrong >>= λ _. done n) b s n t h in
      let two = bind_ok (require (nat_le least one.0 && nat_le one.0 most) wrong) (λ _. done one.0) b one.1 n t one.3 in
      let good = required_ok (nat_le least one.0 && nat_le one.0 most) wrong b one.1 two.0 two.1 two.2 in
      let end = done_ok one.0 b two.1 n t two.3 in
      let parts = both (nat_le least one.0) (nat_le one.0 most) good.0 in
      let v = number_value base s one.0 one.1 one.2 in
      let is : one.0 ≡ n = sym end.0 in
      record {
        low = subst (λ k. least ≤ k) is (leb-true least one.0 parts.0);
        high = subst (λ k. k ≤ most) is (leb-true one.0 most parts.1);
        small = subst (λ k. k < 2 ^ 31) is v.small;
        coded = subst (λ k. IsCoded b (s.past ++ number_steps base k)) is v.coded;
        there = end.1 ∙ (good.1 ∙ (v.there ∙ ap (λ k. behind s (number_steps base k)) is));
      }

  pub signed_err : (s : Spot) (f : RecordFault) → signed_number b s (Err f) → IsCoded b (s.past ++ shifted 0 too_long) × (f ≡ fault.SymbolTooLong)
  unfolding signed_number
  signed_err s f h = elim h [
    | inl e ↦ absurd (not_both (e.0, behind s (signed_number_steps e.0)) f (sym e.3))
    | inr e ↦ (e.0, err_same {X = ℤ × Spot} f fault.SymbolTooLong e.1)
  ]

  pub record Signed (s : Spot) (v : ℤ) (t : Spot) : Type 0 where
    pub small : nat_abs v < 2 ^ 31
    pub coded : IsCoded b (s.past ++ signed_number_steps v)
    pub there : t ≡ behind s (signed_number_steps v)

  pub signed_value : (s : Spot) (v : ℤ) (t : Spot) → signed_number b s (Ok (v, t)) → Signed s v t
  unfolding signed_number
  signed_value s v t h = elim h [
    | inl e ↦
        let same = ok_same (v, t) (e.0, behind s (signed_number_steps e.0)) e.3 in
        let is : e.0 ≡ v = sym (ap (λ p. p.0) same) in
        record {
          small = subst (λ (k : ℤ). nat_abs k < 2 ^ 31) is e.1;
          coded = subst (λ (k : ℤ). IsCoded b (s.past ++ signed_number_steps k)) is e.2;
          there = ap (λ p. p.1) same ∙ ap (λ (k : ℤ). behind s (signed_number_steps k)) is;
        }
    | inr e ↦ absurd (not_both (v, t) fault.SymbolTooLong e.1)
  ]

  pub truth_err : (s : Spot) (f : RecordFault) → truth b s (Err f) → ⊥
  unfolding truth
  truth_err s f h = not_both (h.0, behind s (truth_steps h.0)) f (sym h.2)

  pub record Truth (s : Spot) (x : Bool) (t : Spot) : Type 0 where
    pub coded : IsCoded b (s.past ++ truth_steps x)
    pub there : t ≡ behind s (truth_steps x)

  pub truth_value : (s : Spot) (x : Bool) (t : Spot) → truth b s (Ok (x, t)) → Truth s x t
  unfolding truth
  truth_value s x t h =
      let same = ok_same (x, t) (h.0, behind s (truth_steps h.0)) h.2 in
      let is : h.0 ≡ x = sym (ap (λ p. p.0) same) in
      record { coded = subst (λ (k : Bool). IsCoded b (s.past ++ truth_steps k)) is h.1; there = ap (λ p. p.1) same ∙ ap (λ (k : Bool). behind s (truth_steps k)) is }

  -- ---- the coder

  pub deltas_err : (k : ℕ) (acc : List ℤ) (s : Spot) (f : RecordFault) → deltas_onto k acc b s (Err f) → (ds : List ℤ) × AreDeltas ds × (length ds < k) × IsCoded b (s.past ++ (deltas_steps ds ++ shifted 0 too_long)) × (f ≡ fault.SymbolTooLong)
  unfolding deltas_onto
  deltas_err zero acc s f h = absurd (not_done acc b s f h)
  deltas_err (suc k) acc s f h = elim (bind_err signed_number (λ d. deltas_onto k (acc ++ (d ∷ []))) b s f h) [
    | inr e ↦ let d = signed_err s f e in ([], tt, omega arith, d.0, d.1)
    | inl e ↦
        let v = signed_value s e.0 e.1 e.2 in
        let r = deltas_err k (acc ++ (e.0 ∷ [])) e.1 f e.3 in
        let there : IsCoded b (s.past ++ signed_number_steps e.0 ++ (deltas_steps r.0 ++ shifted 0 too_long)) = subst (λ (z : Spot). IsCoded b (z.past ++ (deltas_steps r.0 ++ shifted 0 too_long))) v.there r.3 in
        (e.0 ∷ r.0, (v.small, r.1), omega (arith, r.2), subst (IsCoded b) (sym (regroup s.past (signed_number_steps e.0) (deltas_steps r.0) (shifted 0 too_long))) there, r.4)
  ]

  pub deltas_coded : (k : ℕ) (acc : List ℤ) (s : Spot) (ds : List ℤ) (t : Spot) → IsCoded b s.past → deltas_onto k acc b s (Ok (ds, t)) → IsCoded b t.past
  unfolding deltas_onto
  deltas_coded zero acc s ds t coded h = subst (λ (z : Spot). IsCoded b z.past) (sym (done_ok acc b s ds t h).1) coded
  deltas_coded (suc k) acc s ds t coded h =
      let one = bind_ok signed_number (λ d. deltas_onto k (acc ++ (d ∷ []))) b s ds t h in
      let v = signed_value s one.0 one.1 one.2 in
      deltas_coded k (acc ++ (one.0 ∷ [])) one.1 ds t (subst (λ (z : Spot). IsCoded b z.past) (sym v.there) v.coded) one.3

  pub makes_err : (ds : List ℤ) (s : Spot) (f : RecordFault) → makes_table ds b s (Err f) → ((t : Table) → IsTableOf ds t → ⊥) × (f ≡ fault.StateTable)
  unfolding makes_table
  makes_err ds s f h = elim h [
    | inl e ↦ absurd (not_both (true, s) f (sym e.1))
    | inr e ↦ (e.0, err_same {X = Bool × Spot} f fault.StateTable e.1)
  ]

  pub makes_value : (ds : List ℤ) (s : Spot) (x : Bool) (t : Spot) → makes_table ds b s (Ok (x, t)) → (u : Table) × IsTableOf ds u
  unfolding makes_table
  makes_value ds s x t h = elim h [
    | inl e ↦ e.0
    | inr e ↦ absurd (not_both (x, t) fault.StateTable e.1)
  ]

  abbrev pub CoderFails : ℕ → List Step → RecordFault → Type 0
  CoderFails least steps f = IsBadNumber 0 (λ n. (least ≤ n) × (n ≤ 2)) fault.Coder steps f ⊎ AreBadDeltas steps f

  pub two_err : (least : ℕ) (s t : Spot) (f : RecordFault) → Good 0 least 2 s 2 t → coder_of 2 b t (Err f) → Symbols s (λ steps. CoderFails least steps f)
  two_err least s t f g h = elim (bind_err (deltas_onto 255 []) (λ ds. makes_table ds >>= λ _. done (coder.Two ds)) b t f h) [
    | inr e ↦
        let d = deltas_err 255 [] t f e in
        let there : IsCoded b (s.past ++ number_steps 0 2 ++ (deltas_steps d.0 ++ shifted 0 too_long)) = subst (λ (z : Spot). IsCoded b (z.past ++ (deltas_steps d.0 ++ shifted 0 too_long))) g.there d.3 in
        (number_steps 0 2 ++ (deltas_steps d.0 ++ shifted 0 too_long), inr (d.0, d.1, inl (d.2, refl, d.4)), subst (IsCoded b) (append_assoc s.past (number_steps 0 2) (deltas_steps d.0 ++ shifted 0 too_long)) there)
    | inl e ↦
        let d = deltas_ok 255 [] b t e.0 e.1 e.2 in
        elim (bind_err (makes_table e.0) (λ _. done (coder.Two e.0)) b e.1 f e.3) [
          | inl x ↦ absurd (not_done (coder.Two e.0) b x.1 f x.3)
          | inr x ↦
              let m = makes_err e.0 e.1 f x in
              let front : IsCoded b t.past = subst (λ (z : Spot). IsCoded b z.past) (sym g.there) g.coded in
              let coded : IsCoded b e.1.past = deltas_coded 255 [] t e.0 e.1 front e.2 in
              let past : e.1.past ≡ s.past ++ (number_steps 0 2 ++ deltas_steps d.0) = d.4.past ∙ (ap (λ (z : Spot). z.past ++ deltas_steps d.0) g.there ∙ append_assoc s.past (number_steps 0 2) (deltas_steps d.0)) in
              let none : (u : Table) → IsTableOf d.0 u → ⊥ = subst (λ (z : List ℤ). (u : Table) → IsTableOf z u → ⊥) d.1 m.0 in
              (number_steps 0 2 ++ deltas_steps d.0, inr (d.0, d.3, inr (d.2, none, refl, m.1)), subst (IsCoded b) past coded)
        ]
  ]

  pub kind_err : (least kind : ℕ) (s t : Spot) (f : RecordFault) → Good 0 least 2 s kind t → coder_of kind b t (Err f) → Symbols s (λ steps. CoderFails least steps f)
  kind_err least zero s t f g h = absurd (not_done coder.Rice b t f h)
  kind_err least (suc zero) s t f g h = absurd (not_done coder.One b t f h)
  kind_err least (suc (suc zero)) s t f g h = two_err least s t f g h
  kind_err least (suc (suc (suc kind))) s t f g h = absurd (let high = g.high in omega (arith, high))

  pub coder_err : (least : ℕ) (s : Spot) (f : RecordFault) → (number_within 0 least 2 fault.Coder >>= coder_of) b s (Err f) → Symbols s (λ steps. CoderFails least steps f)
  coder_err least s f h = elim (bind_err (number_within 0 least 2 fault.Coder) coder_of b s f h) [
    | inr e ↦ let k = within_err 0 least 2 fault.Coder s f e in (k.0, inl k.1, k.2)
    | inl e ↦ kind_err least e.0 s e.1 f (within_value 0 least 2 fault.Coder s e.0 e.1 e.2) e.3
  ]

  abbrev pub IsCoder : ℕ → Coder → Type 0
  IsCoder least c = ((t : Table) × IsTableFor c t) × IsWritable c × (least ≤ type_of c)

  pub kind_good : (least kind : ℕ) (s t : Spot) (c : Coder) (u : Spot) → Good 0 least 2 s kind t → coder_of kind b t (Ok (c, u)) → IsCoder least c
  kind_good least zero s t c u g h = subst (IsCoder least) (sym (done_ok coder.Rice b t c u h).0) ((standard, refl), tt, g.low)
  kind_good least (suc zero) s t c u g h = subst (IsCoder least) (sym (done_ok coder.One b t c u h).0) ((standard, refl), tt, g.low)
  kind_good least (suc (suc zero)) s t c u g h =
      let one = bind_ok (deltas_onto 255 []) (λ ds. makes_table ds >>= λ _. done (coder.Two ds)) b t c u h in
      let two = bind_ok (makes_table one.0) (λ _. done (coder.Two one.0)) b one.1 c u one.3 in
      let d = deltas_ok 255 [] b t one.0 one.1 one.2 in
      let m = makes_value one.0 one.1 two.0 two.1 two.2 in
      let end = done_ok (coder.Two one.0) b two.1 c u two.3 in
      let made : (v : Table) × IsTableOf d.0 v = subst (λ (z : List ℤ). (v : Table) × IsTableOf z v) d.1 m in
      subst (IsCoder least) (sym (end.0 ∙ ap coder.Two d.1)) (made, (d.2, d.3), g.low)
  kind_good least (suc (suc (suc kind))) s t c u g h = absurd (let high = g.high in omega (arith, high))
