-- What calls give one after the other.
use Rattle.std.proofs.Common.{◌≡◌, IfErr, refl, ℕ, ◌^◌, ◌<◌, ◌≤◌, inl, inr, Bool, true, false, IsTrue, IsFalse, List, [], ◌∷◌, length, arith, ℤ, Result, Ok, Err, rules, nat_le, ◌&&◌}
use Rattle.std.specs.Result.{IsErrAnd}
use Rattle.std.proofs.lemmas.Result.{err_from_is_err_and}
use Rattle.std.proofs.lemmas.Bool.{le-leb}
use Rattle.std.proofs.lemmas.Bool.Decides.{nat_tests}
use Rattle.std.proofs.Math.IntN.{nat_abs}
use Rattle.ffv1_range.specs.Reading.{Reading}
use Rattle.ffv1_range.specs.Symbols.{shifted, unsigned_steps, signed_steps, too_long}
use Rattle.ffv1_range.specs.Standard.{standard}
use Rattle.ffv1_range.specs.Follows.{Follows}
use Rattle.ffv1_range.proofs.Windows.{signed_below, too_long_below}
use Rattle.ffv1_range.proofs.Unsigned.{unsigned_below}
use Rattle.ffv1_record.specs.declared.fault.RecordFault.{RecordFault}
use Rattle.ffv1_record.specs.declared.fault.RecordFault.TheVariants as fault
use Rattle.ffv1_record.specs.Reader.{Reader, behind, ◌>>=◌, done, require, number, signed_number, truth, number_within, makes_table}
use Rattle.ffv1_record.specs.Accepted.{is_depth}
use Rattle.ffv1_record.specs.Record.{depth_of}
use Rattle.ffv1_record.specs.Reading.{depth, coder_of, deltas_onto}
use Rattle.ffv1_range.specs.Table.{Table}
use Rattle.ffv1_range.specs.Deltas.{IsTableOf, HaveNoTable}
use Rattle.ffv1_record.specs.declared.config.Coder.{Coder}
use Rattle.ffv1_record.specs.declared.config.Coder.TheVariants as coder
use Rattle.ffv1_record.proofs.Checks.{no_table}
use Rattle.ffv1_record.specs.Internal.Given.{Source, Gives, GivesIn, IsRead}
use Rattle.ffv1_record.proofs.ReadIsCoded.{not_both, bind_ok}
use Rattle.ffv1_record.proofs.DecoderSpots.{stands_on, stands_in}

-- one value was read, and then the rest
pub gives_next : {X Y V W : Type 0} (first : Reader X) (next : X → Reader Y) (view : V → X) (seen : W → Y) (a b c : Source) (v : V) (out : Result W RecordFault) →
    Gives view first a b (Ok v) → Gives seen (next (view v)) b c out → Gives seen (first >>= next) a c out
gives_next first next view seen a b c v (Ok w) one two = record {
  gives = λ bytes s st.
      let here = one.gives bytes s st in
      let there = two.gives bytes here.0 here.2 in
      (there.0, record { either = inl (view v, here.0, here.1, there.1) }, there.2);
}
gives_next first next view seen a b c v (Err f) one two = record {
  gives = λ bytes s st.
      let here = one.gives bytes s st in
      elim (two.gives bytes here.0 here.2) [
        | inl memory ↦ inl memory
        | inr refused ↦ inr (record { either = inl (view v, here.0, here.1, refused) })
      ];
}

-- the first value was refused
pub gives_stop : {X Y V W : Type 0} (first : Reader X) (next : X → Reader Y) (view : V → X) (seen : W → Y) (a b c : Source) (f : RecordFault) →
    Gives {Y = V} view first a b (Err f) → Gives {Y = W} seen (first >>= next) a c (Err f)
gives_stop first next view seen a b c f one = record {
  gives = λ bytes s st. elim (one.gives bytes s st) [
    | inl memory ↦ inl memory
    | inr refused ↦ inr (record { either = inr (f, refused, refl) })
  ];
}

pub gives_done : {X V : Type 0} (view : V → X) (a : Source) (v : V) → Gives view (done (view v)) a a (Ok v)
unfolding done
gives_done view a v = record { gives = λ bytes s st. (s, refl, st) }

pub gives_memory : {X V : Type 0} (view : V → X) (r : Reader X) (a b : Source) (f : RecordFault) → f ≡ fault.OutOfMemory → Gives view r a b (Err f)
gives_memory view r a b f memory = record { gives = λ bytes s st. inl memory }

pub gives_required : {X Y : Type 0} (test : Bool) (f : RecordFault) (next : Bool → Reader Y) (seen : X → Y) (a b : Source) (out : Result X RecordFault) →
    IsTrue test → Gives seen (next true) a b out → Gives seen (require test f >>= next) a b out
unfolding require
gives_required true f next seen a b out holds rest = gives_next (require true f) next (λ x. x) seen a a b true out (record { gives = λ bytes s st. (s, refl, st) }) rest
gives_required false f next seen a b out holds rest = absurd (search rules)

pub gives_refused : {X Y : Type 0} (test : Bool) (f : RecordFault) (next : Bool → Reader Y) (seen : X → Y) (a b : Source) → IsFalse test → Gives {Y = X} seen (require test f >>= next) a b (Err f)
unfolding require
gives_refused true f next seen a b fails = absurd (search rules)
gives_refused false f next seen a b fails = gives_stop (require false f) next (λ (x : Bool). x) seen a a b f (record { gives = λ bytes s st. inr refl })

-- symbols among the parameters
pub gives_number : (old new : Reading) (states after : List ℕ) (n : ℕ) → length states ≡ 32 → n < 2 ^ 31 → Follows standard old states new after (unsigned_steps n) →
    Gives (λ x. x) (number 0) (record { reading = old; states = states }) (record { reading = new; states = after }) (Ok n)
unfolding number
gives_number old new states after n long small follows = record {
  gives = λ bytes s st.
      let on = stands_on old new states after bytes s (unsigned_steps n) long (unsigned_below n) st follows in
      (behind s (shifted 0 (unsigned_steps n)), inl (n, small, on.0, refl), on.1);
}

pub refuses_number : (old new : Reading) (states after : List ℕ) → length states ≡ 32 → Follows standard old states new after too_long →
    Gives (λ x. x) (number 0) (record { reading = old; states = states }) (record { reading = new; states = after }) (Err fault.SymbolTooLong)
unfolding number
refuses_number old new states after long follows = record {
  gives = λ bytes s st.
      let on = stands_on old new states after bytes s too_long long too_long_below st follows in
      inr (inr (on.0, refl));
}

pub gives_signed : (old new : Reading) (states after : List ℕ) (v : ℤ) → length states ≡ 32 → nat_abs v < 2 ^ 31 → Follows standard old states new after (signed_steps v) →
    Gives (λ x. x) signed_number (record { reading = old; states = states }) (record { reading = new; states = after }) (Ok v)
unfolding signed_number
gives_signed old new states after v long small follows = record {
  gives = λ bytes s st.
      let on = stands_on old new states after bytes s (signed_steps v) long (signed_below v) st follows in
      (behind s (shifted 0 (signed_steps v)), inl (v, small, on.0, refl), on.1);
}

pub refuses_signed : (old new : Reading) (states after : List ℕ) → length states ≡ 32 → Follows standard old states new after too_long →
    Gives (λ x. x) signed_number (record { reading = old; states = states }) (record { reading = new; states = after }) (Err fault.SymbolTooLong)
unfolding signed_number
refuses_signed old new states after long follows = record {
  gives = λ bytes s st.
      let on = stands_on old new states after bytes s too_long long too_long_below st follows in
      inr (inr (on.0, refl));
}

pub gives_truth : (old new : Reading) (states after : List ℕ) (bit : Bool) → length states ≡ 32 → Follows standard old states new after (record { slot = 0; bit = bit } ∷ []) →
    Gives (λ x. x) truth (record { reading = old; states = states }) (record { reading = new; states = after }) (Ok bit)
unfolding truth
gives_truth old new states after bit long follows = record {
  gives = λ bytes s st.
      let on = stands_on old new states after bytes s (record { slot = 0; bit = bit } ∷ []) long (omega arith, tt) st follows in
      (behind s (shifted 0 (record { slot = 0; bit = bit } ∷ [])), (bit, on.0, refl), on.1);
}

-- by the states of a table
pub gives_number_in : (old new : Reading) (row states after : List ℕ) (n : ℕ) → length row ≡ 32 → length states ≡ 32 → n < 2 ^ 31 → Follows standard old states new after (unsigned_steps n) →
    GivesIn number (record { reading = old; states = row }) states (record { reading = new; states = row }) after (Ok n)
unfolding number
gives_number_in old new row states after n row_long long small follows = record {
  gives = λ bytes base s st.
      let on = stands_in old new row states after bytes base s (unsigned_steps n) row_long long (unsigned_below n) st follows in
      (behind s (shifted base (unsigned_steps n)), inl (n, small, on.0, refl), on.1);
}

pub refuses_number_in : (old new : Reading) (row states after : List ℕ) → length row ≡ 32 → length states ≡ 32 → Follows standard old states new after too_long →
    GivesIn number (record { reading = old; states = row }) states (record { reading = new; states = row }) after (Err fault.SymbolTooLong)
unfolding number
refuses_number_in old new row states after row_long long follows = record {
  gives = λ bytes base s st.
      let on = stands_in old new row states after bytes base s too_long row_long long too_long_below st follows in
      inr (on.0, refl);
}

-- a fault that is handed on
pub stopped : {X Y V W : Type 0} {first : Reader X} {next : X → Reader Y} {view : V → X} {seen : W → Y} {a b c : Source} {f : RecordFault} (result : Result W RecordFault) →
    IsErrAnd result (λ g. g ≡ f) → Gives {Y = V} view first a b (Err f) → Gives seen (first >>= next) a c result
stopped {first = first} {next = next} {view = view} {seen = seen} {a = a} {b = b} {c = c} {f = f} result err one =
    let p = err_from_is_err_and result err in
    rw (p.1, p.2) (gives_stop first next view seen a b c f one)

pub and_then : {X Y V W : Type 0} {first : Reader X} {next : X → Reader Y} {view : V → X} {seen : W → Y} {a b c : Source} {v : V} {out : Result W RecordFault} →
    Gives view first a b (Ok v) → Gives seen (next (view v)) b c out → Gives seen (first >>= next) a c out
and_then {first = first} {next = next} {view = view} {seen = seen} {a = a} {b = b} {c = c} {v = v} {out = out} one two = gives_next first next view seen a b c v out one two

-- a number within its bounds, and one that is not
pub within_bounds : (n least most : ℕ) → least ≤ n → n ≤ most → IsTrue (nat_le least n && nat_le n most)
within_bounds n least most low high = rw (le-leb least n low, le-leb n most high) refl

pub above_bounds : (n least most : ℕ) → most < n → IsFalse (nat_le least n && nat_le n most)
above_bounds n least most high = grind (arith, nat_tests)

pub below_bounds : (n least most : ℕ) → n < least → IsFalse (nat_le least n && nat_le n most)
below_bounds n least most low = grind (arith, nat_tests)

pub gives_within : (a b : Source) (base n least most : ℕ) (f : RecordFault) → Gives (λ x. x) (number base) a b (Ok n) → IsTrue (nat_le least n && nat_le n most) →
    Gives (λ x. x) (number_within base least most f) a b (Ok n)
gives_within a b base n least most f one within =
    and_then one (gives_required (nat_le least n && nat_le n most) f (λ _. done n) (λ x. x) b b (Ok n) within (gives_done (λ x. x) b n))

pub refuses_within : (a b : Source) (base n least most : ℕ) (f : RecordFault) → Gives (λ x. x) (number base) a b (Ok n) → IsFalse (nat_le least n && nat_le n most) →
    Gives {Y = ℕ} (λ x. x) (number_within base least most f) a b (Err f)
refuses_within a b base n least most f one outside =
    and_then one (gives_refused (nat_le least n && nat_le n most) f (λ _. done n) (λ x. x) b b outside)

-- the same from one fault to another form of it
pub handed : {X W : Type 0} {r : Reader X} {seen : W → X} {a c : Source} {f : RecordFault} (result : Result W RecordFault) → IsErrAnd result (λ g. g ≡ f) → Gives seen r a c (Err f) → Gives seen r a c result
handed {r = r} {seen = seen} {a = a} {c = c} {f = f} result err one =
    let p = err_from_is_err_and result err in
    rw (p.1, p.2) one

pub stop : {X Y V W : Type 0} {first : Reader X} {next : X → Reader Y} {view : V → X} {seen : W → Y} {a b c : Source} {f : RecordFault} →
    Gives {Y = V} view first a b (Err f) → Gives {Y = W} seen (first >>= next) a c (Err f)
stop {first = first} {next = next} {view = view} {seen = seen} {a = a} {b = b} {c = c} {f = f} one = gives_stop first next view seen a b c f one

-- bits_per_raw_sample
pub gives_depth : (most : ℕ) (a b : Source) (n : ℕ) → Gives (λ x. x) (number 0) a b (Ok n) → IsTrue (is_depth most (depth_of n)) → Gives (λ x. x) (depth most) a b (Ok (depth_of n))
gives_depth most a b n one good = and_then one (gives_required (is_depth most (depth_of n)) fault.Depth (λ _. done (depth_of n)) (λ x. x) b b (Ok (depth_of n)) good (gives_done (λ x. x) b (depth_of n)))

pub refuses_depth : (most : ℕ) (a b : Source) (n : ℕ) → Gives (λ x. x) (number 0) a b (Ok n) → IsFalse (is_depth most (depth_of n)) → Gives {Y = ℕ} (λ x. x) (depth most) a b (Err fault.Depth)
refuses_depth most a b n one bad = and_then one (gives_refused (is_depth most (depth_of n)) fault.Depth (λ _. done (depth_of n)) (λ x. x) b b bad)

-- a run of a table
pub gives_run : (a b : Source) (states after : List ℕ) (n most : ℕ) → GivesIn number a states b after (Ok n) → n ≤ most → GivesIn (λ base. number_within base 0 most fault.Runs) a states b after (Ok n)
unfolding require done
gives_run a b states after n most one few = record {
  gives = λ bytes base s st.
      let on = one.gives bytes base s st in
      let within = within_bounds n 0 most (omega arith) few in
      (on.0, record { either = inl (n, on.0, on.1, record { either = inl (true, on.0, rw within refl, refl) }) }, on.2);
}

pub refuses_run : (a b : Source) (states after : List ℕ) (n most : ℕ) → GivesIn number a states b after (Ok n) → most < n → GivesIn (λ base. number_within base 0 most fault.Runs) a states b after (Err fault.Runs)
unfolding require done
refuses_run a b states after n most one many = record {
  gives = λ bytes base s st.
      let on = one.gives bytes base s st in
      let outside = above_bounds n 0 most many in
      record { either = inl (n, on.0, on.1, record { either = inr (fault.Runs, rw outside refl, refl) }) };
}

-- coder_type
pub rice_coder : (kind : ℕ) (a : Source) → kind ≡ 0 → Gives (λ c. c) (coder_of kind) a a (Ok coder.Rice)
rice_coder kind a none = rw none (gives_done (λ c. c) a coder.Rice)

pub one_coder : (kind : ℕ) (a : Source) → kind ≡ 1 → Gives (λ c. c) (coder_of kind) a a (Ok coder.One)
one_coder kind a one = rw one (gives_done (λ c. c) a coder.One)

pub two_kind : (kind : ℕ) → kind ≤ 2 → (kind ≡ 0 → ⊥) → (kind ≡ 1 → ⊥) → kind ≡ 2
two_kind kind most none other = omega arith

pub two_coder : (kind : ℕ) (a b : Source) (deltas : List ℤ) (t : Table) → kind ≡ 2 → Gives (λ ds. ds) (deltas_onto 255 []) a b (Ok deltas) → IsTableOf deltas t → Gives (λ c. c) (coder_of kind) a b (Ok (coder.Two deltas))
unfolding makes_table
two_coder kind a b deltas t two read makes =
    let judged : Gives (λ (x : Bool). x) (makes_table deltas) b b (Ok true) = record { gives = λ bytes s st. (s, inl ((t, makes), refl), st) } in
    rw two (and_then read (and_then judged (gives_done (λ c. c) b (coder.Two deltas))))

pub no_coder : (kind : ℕ) (a b : Source) (deltas : List ℤ) → kind ≡ 2 → Gives (λ ds. ds) (deltas_onto 255 []) a b (Ok deltas) → HaveNoTable deltas → Gives {Y = Coder} (λ c. c) (coder_of kind) a b (Err fault.StateTable)
unfolding makes_table
no_coder kind a b deltas two read none =
    let judged : Gives {Y = Bool} (λ (x : Bool). x) (makes_table deltas) b b (Err fault.StateTable) = record { gives = λ bytes s st. inr (inr (λ t is. no_table deltas t none is, refl)) } in
    rw two (and_then read (stop judged))

pub stopped_coder : (kind : ℕ) (a b : Source) (f : RecordFault) → kind ≡ 2 → Gives {Y = List ℤ} (λ ds. ds) (deltas_onto 255 []) a b (Err f) → Gives {Y = Coder} (λ c. c) (coder_of kind) a b (Err f)
stopped_coder kind a b f two read = rw two (stop read)

-- a value was read, and what follows reads one
pub read_one : {X V : Type 0} {r : Reader X} {view : V → X} {a b : Source} {v : V} → Gives view r a b (Ok v) → IsRead r a
read_one {view = view} {v = v} one = record {
  read = λ bytes s st.
      let here = one.gives bytes s st in
      (view v, here.0, here.1);
}

pub read_then : {X Y V : Type 0} {first : Reader X} {next : X → Reader Y} {view : V → X} {a b : Source} {v : V} → Gives view first a b (Ok v) → IsRead (next (view v)) b → IsRead (first >>= next) a
read_then {view = view} {v = v} one two = record {
  read = λ bytes s st.
      let here = one.gives bytes s st in
      let there = two.read bytes here.0 here.2 in
      (there.0, there.1, record { either = inl (view v, here.0, here.1, there.2) });
}

-- a number among the parameters that was read within its bounds, and what followed
pub read_first : {X Y V : Type 0} {first : Reader X} {next : X → Reader Y} {view : V → Y} {a b : Source} {v : V} → Gives view (first >>= next) a b (Ok v) → IsRead first a
read_first {view = view} {v = v} whole = record {
  read = λ bytes s st.
      let there = whole.gives bytes s st in
      elim there.1.either [
        | inl e ↦ (e.0, e.1, e.2)
        | inr e ↦ absurd (not_both (view v, there.0) e.0 e.2)
      ];
}

-- what is read first, of what is read
pub read_front : {X Y : Type 0} {first : Reader X} {next : X → Reader Y} {a : Source} → IsRead (first >>= next) a → IsRead first a
read_front {first = first} {next = next} whole = record {
  read = λ bytes s st.
      let all = whole.read bytes s st in
      let parts = bind_ok first next bytes s all.0 all.1 all.2 in
      (parts.0, parts.1, parts.2);
}

-- what holds of a fault holds of it handed on
pub told : {W : Type 0} {f : RecordFault} (P : RecordFault → Type 0) (result : Result W RecordFault) → IsErrAnd result (λ g. g ≡ f) → P f → IfErr result P
told P result err holds =
    let p = err_from_is_err_and result err in
    rw (p.1, p.2) holds
