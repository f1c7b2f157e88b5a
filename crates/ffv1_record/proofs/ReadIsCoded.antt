-- What was read without a fault was coded so.
use Rattle.std.proofs.Common.{◌≡◌, refl, ℕ, zero, suc, ◌+◌, ◌-◌, ◌^◌, ◌<◌, ◌≤◌, ◌⊎◌, inl, inr, Bool, true, false, not, IsTrue, nat_le, ◌&&◌, ◌||◌, ◌==◌, List, [], ◌∷◌, ◌++◌, length, append_assoc, append-nil, ap, sym, subst, ◌∙◌, arith, ℤ, Result, Ok, Err, rules}
use Rattle.std.proofs.Math.IntN.{nat_abs}
use Rattle.std.proofs.lemmas.Bool.{leb-true}
use Rattle.ffv1_range.specs.Symbols.{Step}
use Rattle.ffv1_range.specs.Weight.{one_if}
use Rattle.ffv1_plane.specs.Quantisation.{Set, contexts_of}
use Rattle.ffv1_record.specs.declared.fault.RecordFault.{RecordFault}
use Rattle.ffv1_record.specs.declared.fault.RecordFault.TheVariants as fault
use Rattle.ffv1_record.specs.declared.config.Coder.{Coder}
use Rattle.ffv1_record.specs.declared.config.Coder.TheVariants as coder
use Rattle.ffv1_record.specs.declared.planes.Planes.{Planes}
use Rattle.ffv1_record.specs.Configuration.{Configuration, is_rct}
use Rattle.ffv1_record.specs.Record.{number_steps, signed_number_steps, truth_steps, deltas_steps, coder_steps, runs_steps, set_steps, sets_steps, uncoded_steps, opening_steps, planes_steps, grid_steps, tables_steps, closing_steps, record_steps, depth_of}
use Rattle.ffv1_record.specs.Writable.{AreDeltas}
use Rattle.ffv1_record.specs.Reader.{Reader, Spot, behind, Then, ◌>>=◌, done, require, next_table, number, signed_number, truth, number_within, makes_table}
use Rattle.ffv1_record.specs.Reading.{deltas_onto, coder_of, opening, colour_of, depth, planes, count_of, runs_onto, table, set, sets_onto, uncoded, tables, flag, parameters}
use Rattle.ffv1_record.specs.Accepted.{is_depth, has_depth}
use Rattle.ffv1_record.proofs.Checks.{both, depth_known}

unpack : {X : Type 0} → X → Result X RecordFault → X
unpack d (Ok x) = x
unpack d (Err e) = d

pub ok_same : {X : Type 0} (x y : X) → ◌≡◌ {A = Result X RecordFault} (Ok x) (Ok y) → x ≡ y
unfolding unpack
ok_same x y e = ap (unpack x) e

is_read : {X : Type 0} → Result X RecordFault → Bool
is_read (Ok x) = true
is_read (Err e) = false

pub not_both : {X : Type 0} (x : X) (f : RecordFault) → Ok x ≡ Err f → ⊥
unfolding is_read
not_both x f e =
    let same : true ≡ false = ap is_read e in
    search rules

pub bind_ok : {X Y : Type 0} (first : Reader X) (next : X → Reader Y) (b : List ℕ) (s : Spot) (y : Y) (u : Spot) → Then first next b s (Ok (y, u)) →
    (x : X) × (t : Spot) × first b s (Ok (x, t)) × next x b t (Ok (y, u))
bind_ok first next b s y u h = elim h.either [
  | inl e ↦ (e.0, e.1, e.2, e.3)
  | inr e ↦ absurd (not_both (y, u) e.0 e.2)
]

-- some steps after a spot, and the slots of as many more tables
pub record After (s : Spot) (steps : List Step) (t : Spot) (grown : ℕ) : Type 0 where
  pub past : t.past ≡ s.past ++ steps
  pub fresh : t.fresh ≡ s.fresh + grown

pub after_then : (s t u : Spot) (xs ys : List Step) (g h : ℕ) → After s xs t g → After t ys u h → After s (xs ++ ys) u (g + h)
after_then s t u xs ys g h one two = record {
  past = two.past ∙ ap (λ p. p ++ ys) one.past ∙ append_assoc s.past xs ys;
  fresh = omega (arith, one.fresh, two.fresh);
}

pub after_none : (s t : Spot) → t ≡ s → After s [] t 0
after_none s t e = record { past = ap (λ (z : Spot). z.past) e ∙ sym (append-nil s.past); fresh = ap (λ (z : Spot). z.fresh) e ∙ omega arith }

pub after_steps : (s t : Spot) (steps : List Step) → t ≡ behind s steps → After s steps t 0
after_steps s t steps e = record { past = ap (λ (z : Spot). z.past) e; fresh = ap (λ (z : Spot). z.fresh) e ∙ omega arith }

pub done_ok : {X : Type 0} (x : X) (b : List ℕ) (s : Spot) (y : X) (t : Spot) → done x b s (Ok (y, t)) → (y ≡ x) × (t ≡ s)
unfolding done
done_ok x b s y t h =
    let same = ok_same (y, t) (x, s) h in
    (ap (λ p. p.0) same, ap (λ p. p.1) same)

pub required_ok : (test : Bool) (f : RecordFault) (b : List ℕ) (s : Spot) (x : Bool) (t : Spot) → require test f b s (Ok (x, t)) → IsTrue test × (t ≡ s)
unfolding require
required_ok true f b s x t h = (refl, ap (λ p. p.1) (ok_same (x, t) (true, s) h))
required_ok false f b s x t h = absurd (not_both (x, t) f h)

pub number_ok : (base : ℕ) (b : List ℕ) (s : Spot) (n : ℕ) (t : Spot) → number base b s (Ok (n, t)) → After s (number_steps base n) t 0
unfolding number
number_ok base b s n t h = elim h [
  | inl e ↦
      let same = ok_same (n, t) (e.0, behind s (number_steps base e.0)) e.3 in
      after_steps s t (number_steps base n) (ap (λ p. p.1) same ∙ ap (λ k. behind s (number_steps base k)) (sym (ap (λ p. p.0) same)))
  | inr e ↦ absurd (not_both (n, t) fault.SymbolTooLong e.1)
]

pub signed_ok : (b : List ℕ) (s : Spot) (v : ℤ) (t : Spot) → signed_number b s (Ok (v, t)) → (nat_abs v < 2 ^ 31) × After s (signed_number_steps v) t 0
unfolding signed_number
signed_ok b s v t h = elim h [
  | inl e ↦
      let same = ok_same (v, t) (e.0, behind s (signed_number_steps e.0)) e.3 in
      let is = ap (λ p. p.0) same in
      (subst (λ (w : ℤ). nat_abs w < 2 ^ 31) (sym is) e.1, after_steps s t (signed_number_steps v) (ap (λ p. p.1) same ∙ ap (λ (k : ℤ). behind s (signed_number_steps k)) (sym is)))
  | inr e ↦ absurd (not_both (v, t) fault.SymbolTooLong e.1)
]

pub truth_ok : (b : List ℕ) (s : Spot) (x : Bool) (t : Spot) → truth b s (Ok (x, t)) → After s (truth_steps x) t 0
unfolding truth
truth_ok b s x t h =
    let same = ok_same (x, t) (h.0, behind s (truth_steps h.0)) h.2 in
    after_steps s t (truth_steps x) (ap (λ p. p.1) same ∙ ap (λ (k : Bool). behind s (truth_steps k)) (sym (ap (λ p. p.0) same)))

-- the same at a spot that equals another
after_same : (s t u : Spot) (steps : List Step) (g : ℕ) → After s steps t g → u ≡ t → After s steps u g
after_same s t u steps g h e = subst (λ z. After s steps z g) (sym e) h

pub record Within (s : Spot) (base low high n : ℕ) (t : Spot) : Type 0 where
  pub after : After s (number_steps base n) t 0
  pub least : low ≤ n
  pub most : n ≤ high

pub within_ok : (base least most : ℕ) (f : RecordFault) (b : List ℕ) (s : Spot) (n : ℕ) (t : Spot) → number_within base least most f b s (Ok (n, t)) → Within s base least most n t
within_ok base least most f b s n t h =
    let one = bind_ok (number base) (λ n. require (nat_le least n && nat_le n most) f >>= λ _. done n) b s n t h in
    let two = bind_ok (require (nat_le least one.0 && nat_le one.0 most) f) (λ _. done one.0) b one.1 n t one.3 in
    let good = required_ok (nat_le least one.0 && nat_le one.0 most) f b one.1 two.0 two.1 two.2 in
    let end = done_ok one.0 b two.1 n t two.3 in
    let parts = both (nat_le least one.0) (nat_le one.0 most) good.0 in
    let read = after_same s one.1 t (number_steps base one.0) 0 (number_ok base b s one.0 one.1 one.2) (end.1 ∙ good.1) in
    record {
      after = subst (λ k. After s (number_steps base k) t 0) (sym end.0) read;
      least = subst (λ k. least ≤ k) (sym end.0) (leb-true least one.0 parts.0);
      most = subst (λ k. k ≤ most) (sym end.0) (leb-true one.0 most parts.1);
    }

pub deltas_ok : (k : ℕ) (acc : List ℤ) (b : List ℕ) (s : Spot) (ds : List ℤ) (t : Spot) → deltas_onto k acc b s (Ok (ds, t)) →
    (more : List ℤ) × (ds ≡ acc ++ more) × (length more ≡ k) × AreDeltas more × After s (deltas_steps more) t 0
unfolding deltas_onto
deltas_ok zero acc b s ds t h =
    let end = done_ok acc b s ds t h in
    ([], end.0 ∙ sym (append-nil acc), refl, tt, after_none s t end.1)
deltas_ok (suc k) acc b s ds t h =
    let one = bind_ok signed_number (λ d. deltas_onto k (acc ++ (d ∷ []))) b s ds t h in
    let first = signed_ok b s one.0 one.1 one.2 in
    let rest = deltas_ok k (acc ++ (one.0 ∷ [])) b one.1 ds t one.3 in (
      one.0 ∷ rest.0,
      rest.1 ∙ append_assoc acc (one.0 ∷ []) rest.0,
      ap suc rest.2,
      (first.0, rest.3),
      after_then s one.1 t (signed_number_steps one.0) (deltas_steps rest.0) 0 0 first.1 rest.4,
    )

makes_ok : (ds : List ℤ) (b : List ℕ) (s : Spot) (x : Bool) (t : Spot) → makes_table ds b s (Ok (x, t)) → t ≡ s
unfolding makes_table
makes_ok ds b s x t h = elim h [
  | inl e ↦ ap (λ p. p.1) (ok_same (x, t) (true, s) e.1)
  | inr e ↦ absurd (not_both (x, t) fault.StateTable e.1)
]

pub coder_ok : (kind : ℕ) (b : List ℕ) (r s : Spot) (c : Coder) (t : Spot) → kind ≤ 2 → After r (number_steps 0 kind) s 0 → coder_of kind b s (Ok (c, t)) → After r (coder_steps c) t 0
coder_ok zero b r s c t most before h =
    let end = done_ok coder.Rice b s c t h in
    subst (λ (z : Coder). After r (coder_steps z) t 0) (sym end.0) (after_same r s t (number_steps 0 0) 0 before end.1)
coder_ok (suc zero) b r s c t most before h =
    let end = done_ok coder.One b s c t h in
    subst (λ (z : Coder). After r (coder_steps z) t 0) (sym end.0) (after_same r s t (number_steps 0 1) 0 before end.1)
coder_ok (suc (suc zero)) b r s c t most before h =
    let one = bind_ok (deltas_onto 255 []) (λ ds. makes_table ds >>= λ _. done (coder.Two ds)) b s c t h in
    let two = bind_ok (makes_table one.0) (λ _. done (coder.Two one.0)) b one.1 c t one.3 in
    let same = makes_ok one.0 b one.1 two.0 two.1 two.2 in
    let end = done_ok (coder.Two one.0) b two.1 c t two.3 in
    let deltas = deltas_ok 255 [] b s one.0 one.1 one.2 in
    let all = after_then r s one.1 (number_steps 0 2) (deltas_steps deltas.0) 0 0 before deltas.4 in
    subst (λ (z : Coder). After r (coder_steps z) t 0) (sym (end.0 ∙ ap coder.Two deltas.1)) (after_same r one.1 t (number_steps 0 2 ++ deltas_steps deltas.0) 0 all (end.1 ∙ same))
coder_ok (suc (suc (suc kind))) b r s c t most before h = absurd (omega arith)

pub opening_ok : (least : ℕ) (b : List ℕ) (s : Spot) (c : Coder) (t : Spot) → opening least b s (Ok (c, t)) → After s (number_steps 0 3 ++ number_steps 0 4 ++ coder_steps c) t 0
opening_ok least b s c t h =
    let one = bind_ok (number_within 0 3 3 fault.Version) (λ _. number_within 0 4 4 fault.MicroVersion >>= λ _. number_within 0 least 2 fault.Coder >>= coder_of) b s c t h in
    let two = bind_ok (number_within 0 4 4 fault.MicroVersion) (λ _. number_within 0 least 2 fault.Coder >>= coder_of) b one.1 c t one.3 in
    let three = bind_ok (number_within 0 least 2 fault.Coder) coder_of b two.1 c t two.3 in
    let version = within_ok 0 3 3 fault.Version b s one.0 one.1 one.2 in
    let micro = within_ok 0 4 4 fault.MicroVersion b one.1 two.0 two.1 two.2 in
    let kind = within_ok 0 least 2 fault.Coder b two.1 three.0 three.1 three.2 in
    let is_three : one.0 ≡ 3 = omega (arith, version.least, version.most) in
    let is_four : two.0 ≡ 4 = omega (arith, micro.least, micro.most) in
    let code = coder_ok three.0 b two.1 three.1 c t kind.most kind.after three.3 in
    after_then s two.1 t (number_steps 0 3 ++ number_steps 0 4) (coder_steps c) 0 0
    (after_then s one.1 two.1 (number_steps 0 3) (number_steps 0 4) 0 0 (rw is_three at version.after) (rw is_four at micro.after)) code

one_of_colour : (kind : ℕ) → kind ≤ 1 → one_if (is_rct (colour_of kind)) ≡ kind
one_of_colour zero few = refl
one_of_colour (suc zero) few = refl
one_of_colour (suc (suc kind)) few = absurd (omega arith)

-- bits_per_raw_sample is of a depth
pub record Deep (most : ℕ) (s : Spot) (n : ℕ) (t : Spot) : Type 0 where
  pub bits : ℕ
  pub known : depth_of bits ≡ n
  pub deep : IsTrue (is_depth most n)
  pub after : After s (number_steps 0 bits) t 0

depth_ok : (most : ℕ) (b : List ℕ) (s : Spot) (n : ℕ) (t : Spot) → depth most b s (Ok (n, t)) → Deep most s n t
depth_ok most b s n t h =
    let one = bind_ok (number 0) (λ n. require (is_depth most (depth_of n)) fault.Depth >>= λ _. done (depth_of n)) b s n t h in
    let two = bind_ok (require (is_depth most (depth_of one.0)) fault.Depth) (λ _. done (depth_of one.0)) b one.1 n t one.3 in
    let good = required_ok (is_depth most (depth_of one.0)) fault.Depth b one.1 two.0 two.1 two.2 in
    let end = done_ok (depth_of one.0) b two.1 n t two.3 in
    record {
      bits = one.0;
      known = sym end.0;
      deep = subst (λ k. IsTrue (is_depth most k)) (sym end.0) good.0;
      after = after_same s one.1 t (number_steps 0 one.0) 0 (number_ok 0 b s one.0 one.1 one.2) (end.1 ∙ good.1);
    }

-- the steps of planes
abbrev pub planes_read : ℕ → Planes → List Step
planes_read bits p =
    number_steps 0 (one_if (is_rct p.colour)) ++ number_steps 0 bits ++ truth_steps p.chroma_planes ++ number_steps 0 p.log2_h ++ number_steps 0 p.log2_v ++ truth_steps p.extra_plane

pub record Seen (most : ℕ) (s : Spot) (p : Planes) (t : Spot) : Type 0 where
  pub bits : ℕ
  pub known : depth_of bits ≡ p.depth
  pub deep : IsTrue (is_depth most p.depth)
  pub after : After s (planes_read bits p) t 0

pub planes_ok : (most : ℕ) (b : List ℕ) (s : Spot) (p : Planes) (t : Spot) → planes most b s (Ok (p, t)) → Seen most s p t
planes_ok most b s p t h =
    let one = bind_ok (number_within 0 0 1 fault.ColourSpace) _ b s p t h in
    let two = bind_ok (depth most) _ b one.1 p t one.3 in
    let three = bind_ok truth _ b two.1 p t two.3 in
    let four = bind_ok (number 0) _ b three.1 p t three.3 in
    let five = bind_ok (number 0) _ b four.1 p t four.3 in
    let six = bind_ok truth _ b five.1 p t five.3 in
    let seven = bind_ok (require (three.0 || not six.0) fault.ExtraPlane) _ b six.1 p t six.3 in
    let good = required_ok (three.0 || not six.0) fault.ExtraPlane b six.1 seven.0 seven.1 seven.2 in
    let read : Planes = record { colour = colour_of one.0; depth = two.0; chroma_planes = three.0; extra_plane = six.0; log2_h = four.0; log2_v = five.0 } in
    let end = done_ok read b seven.1 p t seven.3 in
    let kind = within_ok 0 0 1 fault.ColourSpace b s one.0 one.1 one.2 in
    let deep = depth_ok most b one.1 two.0 two.1 two.2 in
    let colour = one_of_colour one.0 kind.most in
    let a = after_then s one.1 two.1 (number_steps 0 one.0) (number_steps 0 deep.bits) 0 0 kind.after deep.after in
    let c = after_then s two.1 three.1 (number_steps 0 one.0 ++ number_steps 0 deep.bits) (truth_steps three.0) 0 0 a (truth_ok b two.1 three.0 three.1 three.2) in
    let d = after_then s three.1 four.1 (number_steps 0 one.0 ++ number_steps 0 deep.bits ++ truth_steps three.0) (number_steps 0 four.0) 0 0 c (number_ok 0 b three.1 four.0 four.1 four.2) in
    let e = after_then s four.1 five.1 (number_steps 0 one.0 ++ number_steps 0 deep.bits ++ truth_steps three.0 ++ number_steps 0 four.0) (number_steps 0 five.0) 0 0 d (number_ok 0 b four.1 five.0 five.1 five.2) in
    let f = after_then s five.1 six.1 (number_steps 0 one.0 ++ number_steps 0 deep.bits ++ truth_steps three.0 ++ number_steps 0 four.0 ++ number_steps 0 five.0) (truth_steps six.0) 0 0 e (truth_ok b five.1 six.0 six.1 six.2) in
    let whole = after_same s six.1 t (number_steps 0 one.0 ++ number_steps 0 deep.bits ++ truth_steps three.0 ++ number_steps 0 four.0 ++ number_steps 0 five.0 ++ truth_steps six.0) 0 f (end.1 ∙ good.1) in
    record {
      bits = deep.bits;
      known = deep.known ∙ ap (λ (q : Planes). q.depth) (sym end.0);
      deep = subst (λ (q : Planes). IsTrue (is_depth most q.depth)) (sym end.0) deep.deep;
      after = subst (λ (q : Planes). After s (planes_read deep.bits q) t 0) (sym end.0) (subst (λ k. After s (number_steps 0 k ++ number_steps 0 deep.bits ++ truth_steps three.0 ++ number_steps 0 four.0 ++ number_steps 0 five.0 ++ truth_steps six.0) t 0) (sym colour) whole);
    }

count_ok : (b : List ℕ) (s : Spot) (n : ℕ) (t : Spot) → count_of b s (Ok (n, t)) → After s (number_steps 0 (n - 1)) t 0
count_ok b s n t h =
    let one = bind_ok (number 0) (λ n. done (n + 1)) b s n t h in
    let end = done_ok (one.0 + 1) b one.1 n t one.3 in
    let is : one.0 ≡ n - 1 = omega (arith, end.0) in
    rw is at (after_same s one.1 t (number_steps 0 one.0) 0 (number_ok 0 b s one.0 one.1 one.2) end.1)

runs_ok : (base steps left : ℕ) (acc b : List ℕ) (s : Spot) (runs : List ℕ) (t : Spot) → runs_onto base steps left acc b s (Ok (runs, t)) →
    (more : List ℕ) × (runs ≡ acc ++ more) × After s (runs_steps base more) t 0
unfolding runs_onto
runs_ok base steps zero acc b s runs t h =
    let end = done_ok acc b s runs t h in
    ([], end.0 ∙ sym (append-nil acc), after_none s t end.1)
runs_ok base zero (suc left) acc b s runs t h =
    let end = done_ok acc b s runs t h in
    ([], end.0 ∙ sym (append-nil acc), after_none s t end.1)
runs_ok base (suc steps) (suc left) acc b s runs t h =
    let one = bind_ok (number_within base 0 left fault.Runs) (λ n. runs_onto base steps (left - n) (acc ++ ((n + 1) ∷ []))) b s runs t h in
    let first = within_ok base 0 left fault.Runs b s one.0 one.1 one.2 in
    let rest = runs_ok base steps (left - one.0) (acc ++ ((one.0 + 1) ∷ [])) b one.1 runs t one.3 in
    let back : one.0 ≡ one.0 + 1 - 1 = omega arith in
    let here = subst (λ k. After s (number_steps base k) one.1 0) back first.after in
    ((one.0 + 1) ∷ rest.0, rest.1 ∙ append_assoc acc ((one.0 + 1) ∷ []) rest.0, after_then s one.1 t (number_steps base (one.0 + 1 - 1)) (runs_steps base rest.0) 0 0 here rest.2)

next_ok : (b : List ℕ) (s : Spot) (base : ℕ) (t : Spot) → next_table b s (Ok (base, t)) → (base ≡ s.fresh) × After s [] t 32
unfolding next_table
next_ok b s base t h =
    let same = ok_same (base, t) (s.fresh, record { past = s.past; fresh = s.fresh + 32 }) h in
    let there = ap (λ p. p.1) same in
    (ap (λ p. p.0) same, record { past = ap (λ (z : Spot). z.past) there ∙ sym (append-nil s.past); fresh = ap (λ (z : Spot). z.fresh) there })

pub table_ok : (b : List ℕ) (s : Spot) (runs : List ℕ) (t : Spot) → table b s (Ok (runs, t)) → After s (runs_steps s.fresh runs) t 32
table_ok b s runs t h =
    let one = bind_ok next_table (λ base. runs_onto base 128 128 []) b s runs t h in
    let next = next_ok b s one.0 one.1 one.2 in
    let rest = runs_ok one.0 128 128 [] b one.1 runs t one.3 in
    let whole = after_then s one.1 t [] (runs_steps one.0 rest.0) 32 0 next.1 rest.2 in
    subst (λ (rs : List ℕ). After s (runs_steps s.fresh rs) t 32) (sym rest.1) (subst (λ k. After s (runs_steps k rest.0) t 32) next.0 whole)

-- a table, and those after it
table_then : (b : List ℕ) (s t u : Spot) (runs : List ℕ) (more : Set) (g : ℕ) → table b s (Ok (runs, t)) → After t (set_steps t.fresh more) u g → After s (set_steps s.fresh (runs ∷ more)) u (32 + g)
table_then b s t u runs more g h rest =
    let one = table_ok b s runs t h in
    after_then s t u (runs_steps s.fresh runs) (set_steps (s.fresh + 32) more) 32 g one (subst (λ k. After t (set_steps k more) u g) one.fresh rest)

pub set_ok : (b : List ℕ) (s : Spot) (x : Set) (t : Spot) → set b s (Ok (x, t)) → (length x ≡ 5) × After s (set_steps s.fresh x) t 160
set_ok b s x t h =
    let one = bind_ok table _ b s x t h in
    let two = bind_ok table _ b one.1 x t one.3 in
    let three = bind_ok table _ b two.1 x t two.3 in
    let four = bind_ok table _ b three.1 x t three.3 in
    let five = bind_ok table _ b four.1 x t four.3 in
    let all : Set = one.0 ∷ two.0 ∷ three.0 ∷ four.0 ∷ five.0 ∷ [] in
    let six = bind_ok (require (nat_le (contexts_of all) 32768) fault.Contexts) _ b five.1 x t five.3 in
    let good = required_ok (nat_le (contexts_of all) 32768) fault.Contexts b five.1 six.0 six.1 six.2 in
    let end = done_ok all b six.1 x t six.3 in
    let last = after_none five.1 t (end.1 ∙ good.1) in
    let whole = table_then b s one.1 t one.0 (two.0 ∷ three.0 ∷ four.0 ∷ five.0 ∷ []) 128 one.2
    (table_then b one.1 two.1 t two.0 (three.0 ∷ four.0 ∷ five.0 ∷ []) 96 two.2
    (table_then b two.1 three.1 t three.0 (four.0 ∷ five.0 ∷ []) 64 three.2 (table_then b three.1 four.1 t four.0 (five.0 ∷ []) 32 four.2 (table_then b four.1 five.1 t five.0 [] 0 five.2 last)))) in
    (ap (λ (z : Set). length z) end.0, subst (λ (z : Set). After s (set_steps s.fresh z) t 160) (sym end.0) whole)

pub sets_ok : (k : ℕ) (acc : List Set) (b : List ℕ) (s : Spot) (ss : List Set) (t : Spot) → sets_onto k acc b s (Ok (ss, t)) →
    (more : List Set) × (ss ≡ acc ++ more) × (length more ≡ k) × (grown : ℕ) × After s (sets_steps s.fresh more) t grown
unfolding sets_onto
sets_ok zero acc b s ss t h =
    let end = done_ok acc b s ss t h in
    ([], end.0 ∙ sym (append-nil acc), refl, 0, after_none s t end.1)
sets_ok (suc k) acc b s ss t h =
    let one = bind_ok set (λ x. sets_onto k (acc ++ (x ∷ []))) b s ss t h in
    let first = set_ok b s one.0 one.1 one.2 in
    let rest = sets_ok k (acc ++ (one.0 ∷ [])) b one.1 ss t one.3 in (
      one.0 ∷ rest.0,
      rest.1 ∙ append_assoc acc (one.0 ∷ []) rest.0,
      ap suc rest.2,
      160 + rest.3,
      after_then s one.1 t (set_steps s.fresh one.0) (sets_steps (s.fresh + 160) rest.0) 160 rest.3 first.1 (subst (λ k. After one.1 (sets_steps k rest.0) t rest.3) first.1.fresh rest.4),
    )

pub uncoded_ok : (k : ℕ) (b : List ℕ) (s : Spot) (x : Bool) (t : Spot) → uncoded k b s (Ok (x, t)) → After s (uncoded_steps k) t 0
unfolding uncoded
uncoded_ok zero b s x t h = after_none s t (done_ok true b s x t h).1
uncoded_ok (suc k) b s x t h =
    let one = bind_ok truth (λ b. require (not b) fault.CodedStates >>= λ _. uncoded k) b s x t h in
    let two = bind_ok (require (not one.0) fault.CodedStates) (λ _. uncoded k) b one.1 x t one.3 in
    let good = required_ok (not one.0) fault.CodedStates b one.1 two.0 two.1 two.2 in
    let rest = uncoded_ok k b two.1 x t two.3 in
    let first = subst (λ (z : Bool). After s (truth_steps z) one.1 0) (is_false one.0 good.0) (truth_ok b s one.0 one.1 one.2) in
    after_then s two.1 t (truth_steps false) (uncoded_steps k) 0 0 (after_same s one.1 two.1 (truth_steps false) 0 first good.1) rest
  where
    is_false : (b : Bool) → IsTrue (not b) → b ≡ false
    is_false true h = absurd (search rules)
    is_false false h = refl

tables_ok : (b : List ℕ) (s : Spot) (ss : List Set) (t : Spot) → tables b s (Ok (ss, t)) → (grown : ℕ) × After s (number_steps 0 (length ss) ++ sets_steps s.fresh ss ++ uncoded_steps (length ss)) t grown
tables_ok b s ss t h =
    let one = bind_ok (number_within 0 1 8 fault.Sets) _ b s ss t h in
    let two = bind_ok (sets_onto one.0 []) _ b one.1 ss t one.3 in
    let three = bind_ok (uncoded one.0) _ b two.1 ss t two.3 in
    let end = done_ok two.0 b three.1 ss t three.3 in
    let count = within_ok 0 1 8 fault.Sets b s one.0 one.1 one.2 in
    let sets = sets_ok one.0 [] b one.1 two.0 two.1 two.2 in
    let free = uncoded_ok one.0 b two.1 three.0 three.1 three.2 in
    let fresh : one.1.fresh ≡ s.fresh = omega (arith, count.after.fresh) in
    let here = subst (λ k. After one.1 (sets_steps k sets.0) two.1 sets.3) fresh sets.4 in
    let whole = after_then s two.1 three.1 (number_steps 0 one.0 ++ sets_steps s.fresh sets.0) (uncoded_steps one.0) (0 + sets.3) 0 (after_then s one.1 two.1 (number_steps 0 one.0) (sets_steps s.fresh sets.0) 0 sets.3 count.after here) free in
    let is : ss ≡ sets.0 = end.0 ∙ sets.1 in
    let long : one.0 ≡ length ss = sym sets.2 ∙ ap (λ (z : List Set). length z) (sym is) in
    let same = after_same s three.1 t (number_steps 0 one.0 ++ sets_steps s.fresh sets.0 ++ uncoded_steps one.0) (0 + sets.3 + 0) whole end.1 in (
      0 + sets.3 + 0,
      subst (λ k. After s (number_steps 0 k ++ sets_steps s.fresh ss ++ uncoded_steps k) t (0 + sets.3 + 0)) long
          (subst (λ (z : List Set). After s (number_steps 0 one.0 ++ sets_steps s.fresh z ++ uncoded_steps one.0) t (0 + sets.3 + 0)) (sym is) same),
    )

pub flag_ok : (f : RecordFault) (b : List ℕ) (s : Spot) (x : Bool) (t : Spot) → flag f b s (Ok (x, t)) → After s (number_steps 0 (one_if x)) t 0
flag_ok f b s x t h =
    let one = bind_ok (number_within 0 0 1 f) (λ n. done (n == 1)) b s x t h in
    let end = done_ok (one.0 == 1) b one.1 x t one.3 in
    let read = within_ok 0 0 1 f b s one.0 one.1 one.2 in
    let is : one.0 ≡ one_if x = few one.0 read.most ∙ ap one_if (sym end.0) in
    rw is at (after_same s one.1 t (number_steps 0 one.0) 0 read.after end.1)
  where
    few : (n : ℕ) → n ≤ 1 → n ≡ one_if (n == 1)
    few zero h = refl
    few (suc zero) h = refl
    few (suc (suc n)) h = absurd (omega arith)

-- all parameters were coded so
pub record Read (most width height : ℕ) (s : Spot) (c : Configuration) (t : Spot) : Type 0 where
  pub wide : c.width ≡ width
  pub high : c.height ≡ height
  pub bits : ℕ
  pub known : (bits ≡ c.depth) ⊎ ((bits ≡ 0) × (c.depth ≡ 8))
  pub deep : IsTrue (has_depth most c)
  pub past : t.past ≡ s.past ++ record_steps bits c

pub parameters_ok : (least most width height : ℕ) (b : List ℕ) (s : Spot) (c : Configuration) (t : Spot) → s.fresh ≡ 32 → parameters least most width height b s (Ok (c, t)) → Read most width height s c t
parameters_ok least most width height b s c t fresh h =
    let one = bind_ok (opening least) _ b s c t h in
    let two = bind_ok (planes most) _ b one.1 c t one.3 in
    let three = bind_ok count_of _ b two.1 c t two.3 in
    let four = bind_ok count_of _ b three.1 c t three.3 in
    let five = bind_ok tables _ b four.1 c t four.3 in
    let six = bind_ok (flag fault.Ec) _ b five.1 c t five.3 in
    let seven = bind_ok (flag fault.Intra) _ b six.1 c t six.3 in
    let p = two.0 in
    let read : Configuration = record {
      width = width;
      height = height;
      depth = p.depth;
      coder = one.0;
      colour = p.colour;
      chroma_planes = p.chroma_planes;
      extra_plane = p.extra_plane;
      log2_h = p.log2_h;
      log2_v = p.log2_v;
      columns = three.0;
      rows = four.0;
      sets = five.0;
      ec = six.0;
      intra = seven.0;
    } in
    let end = done_ok read b seven.1 c t seven.3 in
    let seen = planes_ok most b one.1 two.0 two.1 two.2 in
    let opened = opening_ok least b s one.0 one.1 one.2 in
    let columns = count_ok b two.1 three.0 three.1 three.2 in
    let rows = count_ok b three.1 four.0 four.1 four.2 in
    let sets = tables_ok b four.1 five.0 five.1 five.2 in
    let here : four.1.fresh ≡ 32 = omega (arith, opened.fresh, seen.after.fresh, columns.fresh, rows.fresh) in
    let tables = subst (λ k. After four.1 (number_steps 0 (length five.0) ++ sets_steps k five.0 ++ uncoded_steps (length five.0)) five.1 sets.0) here sets.1 in
    let ec = flag_ok fault.Ec b five.1 six.0 six.1 six.2 in
    let intra = flag_ok fault.Intra b six.1 seven.0 seven.1 seven.2 in
    let a = after_then s one.1 two.1 (opening_steps read) (planes_steps seen.bits read) 0 0 opened seen.after in
    let grid = after_then two.1 three.1 four.1 (number_steps 0 (three.0 - 1)) (number_steps 0 (four.0 - 1)) 0 0 columns rows in
    let d = after_then s two.1 four.1 (opening_steps read ++ planes_steps seen.bits read) (grid_steps read) 0 0 a grid in
    let e = after_then s four.1 five.1 (opening_steps read ++ planes_steps seen.bits read ++ grid_steps read) (tables_steps read) 0 sets.0 d tables in
    let last = after_then five.1 six.1 seven.1 (number_steps 0 (one_if six.0)) (number_steps 0 (one_if seven.0)) 0 0 ec intra in
    let whole = after_then s five.1 seven.1 (opening_steps read ++ planes_steps seen.bits read ++ grid_steps read ++ tables_steps read) (closing_steps read) (0 + sets.0) 0 e last in
    record {
      wide = ap (λ (z : Configuration). z.width) end.0;
      high = ap (λ (z : Configuration). z.height) end.0;
      bits = seen.bits;
      known = depth_known seen.bits c.depth (seen.known ∙ ap (λ (z : Configuration). z.depth) (sym end.0));
      deep = subst (λ (z : Configuration). IsTrue (has_depth most z)) (sym end.0) seen.deep;
      past = ap (λ (z : Spot). z.past) end.1 ∙ whole.past ∙ ap (λ (z : Configuration). s.past ++ record_steps seen.bits z) (sym end.0);
    }
