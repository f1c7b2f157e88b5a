-- The same of all parameters.
use Rattle.std.proofs.Common.{◌≡◌, refl, ℕ, zero, suc, ◌+◌, ◌-◌, ◌*◌, ◌^◌, ◌<◌, ◌≤◌, Bool, true, false, not, IsTrue, nat_lt, nat_le, ◌&&◌, ◌||◌, ◌==◌, List, [], ◌∷◌, ◌++◌, length, sum, append_assoc, append-nil, ap, sym, subst, ◌∙◌, arith, ℤ, rules}
use Rattle.std.specs.List.{list_all, fold}
use Rattle.std.proofs.lemmas.Bool.{le-leb, leb-true, eqb-true}
use Rattle.ffv1_range.specs.Codes.{AreBytes}
use Rattle.ffv1_range.specs.Symbols.{Step}
use Rattle.ffv1_range.specs.Table.{Table}
use Rattle.ffv1_range.specs.Weight.{one_if}
use Rattle.ffv1_plane.specs.Quantisation.{Set, IsSet, is_filled, contexts_of}
use Rattle.ffv1_record.specs.declared.fault.RecordFault.{RecordFault}
use Rattle.ffv1_record.specs.declared.fault.RecordFault.TheVariants as fault
use Rattle.ffv1_record.specs.declared.config.Coder.{Coder}
use Rattle.ffv1_record.specs.declared.config.Coder.TheVariants as coder
use Rattle.ffv1_record.specs.declared.config.Colour.{Colour}
use Rattle.ffv1_record.specs.declared.config.Colour.TheVariants as colour
use Rattle.ffv1_record.specs.declared.planes.Planes.{Planes}
use Rattle.ffv1_record.specs.Configuration.{Configuration, is_rct}
use Rattle.ffv1_record.specs.Sets.{AreSets}
use Rattle.ffv1_record.specs.Accepted.{IsTableFor, IsAccepted, is_depth, has_depth, type_of}
use Rattle.ffv1_record.specs.Record.{number_steps, signed_number_steps, truth_steps, deltas_steps, coder_steps, runs_steps, set_steps, sets_steps, uncoded_steps, opening_steps, planes_steps, tables_steps, record_steps, depth_of}
use Rattle.ffv1_record.specs.Writable.{AreDeltas, IsWritable}
use Rattle.ffv1_record.specs.Reader.{Spot, behind, ◌>>=◌, done, require, next_table, number, signed_number, truth, number_within, makes_table}
use Rattle.ffv1_record.specs.Reading.{deltas_onto, coder_of, opening, colour_of, depth, planes, count_of, runs_onto, table, set, sets_onto, uncoded, tables, flag, parameters, beginning}
use Rattle.ffv1_record.proofs.Checks.{both, divided, subsampled, depth_bounds, depth_up_to, bits_few}
use Rattle.ffv1_record.proofs.CodedIsRead.{Forces, forced_then, forced_as, forced_done, forced_require, forced_number, forced_signed, forced_truth, forced_next, forced_makes, forced_within, same_spot, spot_of}

-- steps in two parts, and then more
spot_append : (p xs ys : List Step) (n : ℕ) → spot_of (p ++ xs ++ ys) n ≡ spot_of (p ++ (xs ++ ys)) n
spot_append p xs ys n = ap (λ q. spot_of q n) (append_assoc p xs ys)

module _ (b : List ℕ) (are : AreBytes b) where
  pub forced_deltas : (ds acc : List ℤ) (s : Spot) → AreDeltas ds → Forces (deltas_onto (length ds) acc) b s (acc ++ ds) (behind s (deltas_steps ds))
  unfolding deltas_onto
  forced_deltas [] acc s writable = forced_as (done acc) b s s (behind s []) acc (acc ++ []) (forced_done b s acc) (sym (append-nil acc)) (sym (same_spot s))
  forced_deltas (d ∷ ds) acc s writable =
      let t = behind s (signed_number_steps d) in
      let rest = forced_deltas ds (acc ++ (d ∷ [])) t writable.1 in
      forced_as (signed_number >>= λ d. deltas_onto (length ds) (acc ++ (d ∷ []))) b s (behind t (deltas_steps ds)) (behind s (deltas_steps (d ∷ ds))) (acc ++ (d ∷ []) ++ ds) (acc ++ (d ∷ ds))
      (forced_then b are signed_number (λ d. deltas_onto (length ds) (acc ++ (d ∷ []))) s t (behind t (deltas_steps ds)) d (acc ++ (d ∷ []) ++ ds) (deltas_steps ds) refl (forced_signed b are s d writable.0) rest)
      (append_assoc acc (d ∷ []) ds) (spot_append s.past (signed_number_steps d) (deltas_steps ds) s.fresh)

  -- the kind of a coder, and what follows it
  pub forced_kind : (least : ℕ) (s : Spot) (c : Coder) (t : Table) → IsTableFor c t → IsWritable c → least ≤ type_of c → Forces (number_within 0 least 2 fault.Coder >>= coder_of) b s c (behind s (coder_steps c))
  forced_kind least s coder.Rice t is writable allowed =
      let u = behind s (number_steps 0 0) in
      forced_then b are (number_within 0 least 2 fault.Coder) coder_of s u u 0 coder.Rice [] (sym (append-nil u.past)) (forced_within b are 0 least 2 fault.Coder s 0 (omega arith) allowed (omega arith)) (forced_done b u coder.Rice)
  forced_kind least s coder.One t is writable allowed =
      let u = behind s (number_steps 0 1) in
      forced_then b are (number_within 0 least 2 fault.Coder) coder_of s u u 1 coder.One [] (sym (append-nil u.past)) (forced_within b are 0 least 2 fault.Coder s 1 (omega arith) allowed (omega arith)) (forced_done b u coder.One)
  forced_kind least s (coder.Two ds) t is writable allowed =
      let u = behind s (number_steps 0 2) in
      let v = behind u (deltas_steps ds) in
      let read = rw writable.0 at (forced_deltas ds [] u writable.1) in
      forced_as (number_within 0 least 2 fault.Coder >>= coder_of) b s v (behind s (number_steps 0 2 ++ deltas_steps ds)) (coder.Two ds) (coder.Two ds)
      (forced_then b are (number_within 0 least 2 fault.Coder) coder_of s u v 2 (coder.Two ds) (deltas_steps ds) refl (forced_within b are 0 least 2 fault.Coder s 2 (omega arith) allowed (omega arith))
      (forced_then b are (deltas_onto 255 []) (λ ds. makes_table ds >>= λ _. done (coder.Two ds)) u v v ds (coder.Two ds) [] (sym (append-nil v.past)) read
      (forced_then b are (makes_table ds) (λ _. done (coder.Two ds)) v v v true (coder.Two ds) [] (sym (append-nil v.past)) (forced_makes b v ds t is) (forced_done b v (coder.Two ds)))))
      refl (spot_append s.past (number_steps 0 2) (deltas_steps ds) s.fresh)

  pub forced_opening : (least : ℕ) (s : Spot) (c : Coder) (t : Table) → IsTableFor c t → IsWritable c → least ≤ type_of c → Forces (opening least) b s c (behind s (number_steps 0 3 ++ number_steps 0 4 ++ coder_steps c))
  forced_opening least s c t is writable allowed =
      let u = behind s (number_steps 0 3) in
      let v = behind u (number_steps 0 4) in
      let w = behind v (coder_steps c) in
      forced_as (opening least) b s w (behind s (number_steps 0 3 ++ number_steps 0 4 ++ coder_steps c)) c c
      (forced_then b are (number_within 0 3 3 fault.Version) (λ _. number_within 0 4 4 fault.MicroVersion >>= λ _. number_within 0 least 2 fault.Coder >>= coder_of) s u w 3 c (number_steps 0 4 ++ coder_steps c)
      (append_assoc u.past (number_steps 0 4) (coder_steps c)) (forced_within b are 0 3 3 fault.Version s 3 (omega arith) (omega arith) (omega arith))
      (forced_then b are (number_within 0 4 4 fault.MicroVersion) (λ _. number_within 0 least 2 fault.Coder >>= coder_of) u v w 4 c (coder_steps c) refl (forced_within b are 0 4 4 fault.MicroVersion u 4 (omega arith) (omega arith) (omega arith))
      (forced_kind least v c t is writable allowed)))
      refl (ap (λ p. spot_of p s.fresh) (append_assoc (s.past ++ number_steps 0 3) (number_steps 0 4) (coder_steps c) ∙ append_assoc s.past (number_steps 0 3) (number_steps 0 4 ++ coder_steps c) ∙ ap (λ q. s.past ++ q) (sym (append_assoc (number_steps 0 3) (number_steps 0 4) (coder_steps c)))))

  pub forced_depth : (most : ℕ) (s : Spot) (bits : ℕ) → IsTrue (is_depth most (depth_of bits)) → Forces (depth most) b s (depth_of bits) (behind s (number_steps 0 bits))
  forced_depth most s bits deep =
      let t = behind s (number_steps 0 bits) in
      let bounds = (depth_bounds most (depth_of bits) deep).1 in
      let few = bits_few bits in
      let small : bits < 2 ^ 31 = omega (arith, few, bounds) in
      forced_then b are (number 0) (λ n. require (is_depth most (depth_of n)) fault.Depth >>= λ _. done (depth_of n)) s t t bits (depth_of bits) [] (sym (append-nil t.past)) (forced_number b are 0 s bits small)
      (forced_then b are (require (is_depth most (depth_of bits)) fault.Depth) (λ _. done (depth_of bits)) t t t true (depth_of bits) [] (sym (append-nil t.past)) (forced_require b t (is_depth most (depth_of bits)) fault.Depth deep) (forced_done b t (depth_of bits)))

  forced_count : (s : Spot) (n : ℕ) → 1 ≤ n → n ≤ 32 → Forces count_of b s n (behind s (number_steps 0 (n - 1)))
  forced_count s n some few =
      let t = behind s (number_steps 0 (n - 1)) in
      let small : n - 1 < 2 ^ 31 = omega arith in
      let back : n - 1 + 1 ≡ n = omega arith in
      forced_as count_of b s t t (n - 1 + 1) n
      (forced_then b are (number 0) (λ n. done (n + 1)) s t t (n - 1) (n - 1 + 1) [] (sym (append-nil t.past)) (forced_number b are 0 s (n - 1) small) (forced_done b t (n - 1 + 1))) back refl

  pub forced_flag : (f : RecordFault) (s : Spot) (x : Bool) → Forces (flag f) b s x (behind s (number_steps 0 (one_if x)))
  forced_flag f s true =
      let t = behind s (number_steps 0 1) in
      forced_then b are (number_within 0 0 1 f) (λ n. done (n == 1)) s t t 1 true [] (sym (append-nil t.past)) (forced_within b are 0 0 1 f s 1 (omega arith) (omega arith) (omega arith)) (forced_done b t true)
  forced_flag f s false =
      let t = behind s (number_steps 0 0) in
      forced_then b are (number_within 0 0 1 f) (λ n. done (n == 1)) s t t 0 false [] (sym (append-nil t.past)) (forced_within b are 0 0 1 f s 0 (omega arith) (omega arith) (omega arith)) (forced_done b t false)

  pub forced_uncoded : (k : ℕ) (s : Spot) → Forces (uncoded k) b s true (behind s (uncoded_steps k))
  unfolding uncoded
  forced_uncoded zero s = forced_as (done true) b s s (behind s []) true true (forced_done b s true) refl (sym (same_spot s))
  forced_uncoded (suc k) s =
      let t = behind s (truth_steps false) in
      let u = behind t (uncoded_steps k) in
      forced_as (truth >>= λ b. require (not b) fault.CodedStates >>= λ _. uncoded k) b s u (behind s (uncoded_steps (suc k))) true true
      (forced_then b are truth (λ b. require (not b) fault.CodedStates >>= λ _. uncoded k) s t u false true (uncoded_steps k) refl (forced_truth b are s false)
      (forced_then b are (require true fault.CodedStates) (λ _. uncoded k) t t u true true (uncoded_steps k) refl (forced_require b t true fault.CodedStates refl) (forced_uncoded k t)))
      refl (spot_append s.past (truth_steps false) (uncoded_steps k) s.fresh)

sum_from : (a : ℕ) (rs : List ℕ) → fold ◌+◌ a rs ≡ a + sum rs
sum_from a [] = omega arith
sum_from a (r ∷ rs) =
    let one = sum_from (a + r) rs in
    let two = sum_from (0 + r) rs in
    first a r (sum rs) (fold ◌+◌ (a + r) rs) (fold ◌+◌ (0 + r) rs) one two
  where
    first : (a r n x y : ℕ) → x ≡ a + r + n → y ≡ 0 + r + n → x ≡ a + y
    first a r n x y p q = omega arith

pub sum_cons : (r : ℕ) (rs : List ℕ) → sum (r ∷ rs) ≡ r + sum rs
sum_cons r rs = sum_from (0 + r) rs ∙ ap (λ n. n + sum rs) zero_more
  where
    zero_more : 0 + r ≡ r
    zero_more = omega arith

module _ (b : List ℕ) (are : AreBytes b) (base : ℕ) where
  pub forced_runs : (steps : ℕ) (rs acc : List ℕ) (left : ℕ) (s : Spot) → sum rs ≡ left → left ≤ steps → left ≤ 128 → IsTrue (list_all (λ r. nat_lt 0 r) rs) → Forces (runs_onto base steps left acc) b s (acc ++ rs) (behind s (runs_steps base rs))
  unfolding runs_onto
  forced_runs steps [] acc zero s all few small each = forced_as (done acc) b s s (behind s []) acc (acc ++ []) (forced_done b s acc) (sym (append-nil acc)) (sym (same_spot s))
  forced_runs steps [] acc (suc left) s all few small each = absurd (omega arith)
  forced_runs steps (zero ∷ rs) acc left s all few small each = absurd (search rules)
  forced_runs steps (suc r ∷ rs) acc zero s all few small each =
      let cons = sum_cons (suc r) rs in
      absurd (omega arith)
  forced_runs zero (suc r ∷ rs) acc (suc left) s all few small each = absurd (omega arith)
  forced_runs (suc steps) (suc r ∷ rs) acc (suc left) s all few small each =
      let cons = sum_cons (suc r) rs in
      let low : r ≤ left = omega arith in
      let tiny : r < 2 ^ 31 = omega arith in
      let rest : sum rs ≡ left - r = omega arith in
      let enough : left - r ≤ steps = omega arith in
      let least : left - r ≤ 128 = omega arith in
      let t = behind s (number_steps base r) in
      let u = behind t (runs_steps base rs) in
      let back : suc r - 1 ≡ r = omega arith in
      let up : r + 1 ≡ suc r = omega arith in
      let more = forced_runs steps rs (acc ++ ((r + 1) ∷ [])) (left - r) t rest enough least (both (nat_lt 0 (suc r)) (list_all (λ r. nat_lt 0 r) rs) each).1 in
      forced_as (number_within base 0 left fault.Runs >>= λ n. runs_onto base steps (left - n) (acc ++ ((n + 1) ∷ []))) b s u (behind s (runs_steps base (suc r ∷ rs))) (acc ++ ((r + 1) ∷ []) ++ rs) (acc ++ (suc r ∷ rs))
      (forced_then b are (number_within base 0 left fault.Runs) (λ n. runs_onto base steps (left - n) (acc ++ ((n + 1) ∷ []))) s t u r (acc ++ ((r + 1) ∷ []) ++ rs) (runs_steps base rs) refl
      (forced_within b are base 0 left fault.Runs s r tiny (omega arith) low) more)
      (append_assoc acc ((r + 1) ∷ []) rs ∙ ap (λ n. acc ++ (n ∷ rs)) up)
      (spot_append s.past (number_steps base r) (runs_steps base rs) s.fresh ∙ ap (λ n. spot_of (s.past ++ (number_steps base n ++ runs_steps base rs)) s.fresh) (sym back))

-- a table that is filled
filled_sum : (rs : List ℕ) → IsTrue (is_filled rs) → IsTrue (list_all (λ r. nat_lt 0 r) rs) × (sum rs ≡ 128)
filled_sum rs h =
    let parts = both (list_all (λ r. nat_lt 0 r) rs) (sum rs == 128) h in
    (parts.0, eqb-true (sum rs) 128 parts.1)

-- a position after a table
abbrev pub behind_table : Spot → List Step → Spot
behind_table s steps = record { past = s.past ++ steps; fresh = s.fresh + 32 }

module _ (b : List ℕ) (are : AreBytes b) where
  pub forced_table : (s : Spot) (rs : List ℕ) → IsTrue (is_filled rs) → Forces table b s rs (behind_table s (runs_steps s.fresh rs))
  forced_table s rs filled =
      let t : Spot = record { past = s.past; fresh = s.fresh + 32 } in
      let parts = filled_sum rs filled in
      forced_then b are next_table (λ base. runs_onto base 128 128 []) s t (behind_table s (runs_steps s.fresh rs)) s.fresh rs (runs_steps s.fresh rs) refl (forced_next b s)
      (forced_runs b are s.fresh 128 rs [] 128 t parts.1 (omega arith) (omega arith) parts.0)

-- lists one after the other, in other groups
five_parts : (p a b c d e : List Step) → p ++ a ++ b ++ c ++ d ++ e ≡ p ++ (a ++ (b ++ (c ++ (d ++ (e ++ [])))))
five_parts p a b c d e = simp (append_assoc, append-nil) refl

three_tail : (q x y z : List Step) → q ++ x ++ y ++ z ≡ q ++ (x ++ y ++ z)
three_tail q x y z = simp append_assoc refl

four_tail : (q x y z w : List Step) → q ++ x ++ y ++ z ++ w ≡ q ++ (x ++ y ++ z ++ w)
four_tail q x y z w = simp append_assoc refl

five_tail : (q x y z w v : List Step) → q ++ x ++ y ++ z ++ w ++ v ≡ q ++ (x ++ y ++ z ++ w ++ v)
five_tail q x y z w v = simp append_assoc refl

six_tail : (q x y z w v u : List Step) → q ++ x ++ y ++ z ++ w ++ v ++ u ≡ q ++ (x ++ y ++ z ++ w ++ v ++ u)
six_tail q x y z w v u = simp append_assoc refl

module _ (b : List ℕ) (are : AreBytes b) where
  forced_five : (s : Spot) (v w x y z : List ℕ) → IsTrue (is_filled v) → IsTrue (is_filled w) → IsTrue (is_filled x) → IsTrue (is_filled y) → IsTrue (is_filled z) → contexts_of (v ∷ w ∷ x ∷ y ∷ z ∷ []) ≤ 32768 →
      Forces set b s (v ∷ w ∷ x ∷ y ∷ z ∷ []) (record { past = s.past ++ set_steps s.fresh (v ∷ w ∷ x ∷ y ∷ z ∷ []); fresh = s.fresh + 160 })
  forced_five s v w x y z fv fw fx fy fz few =
      let all : Set = v ∷ w ∷ x ∷ y ∷ z ∷ [] in
      let v_steps = runs_steps s.fresh v in
      let w_steps = runs_steps (s.fresh + 32) w in
      let x_steps = runs_steps (s.fresh + 32 + 32) x in
      let y_steps = runs_steps (s.fresh + 32 + 32 + 32) y in
      let z_steps = runs_steps (s.fresh + 32 + 32 + 32 + 32) z in
      let one = behind_table s v_steps in
      let two = behind_table one w_steps in
      let three = behind_table two x_steps in
      let four = behind_table three y_steps in
      let five = behind_table four z_steps in
      let grown : s.fresh + 32 + 32 + 32 + 32 + 32 ≡ s.fresh + 160 = omega arith in
      forced_as set b s five (record { past = s.past ++ set_steps s.fresh all; fresh = s.fresh + 160 }) all all
      (forced_then b are table _ s one five v all (w_steps ++ x_steps ++ y_steps ++ z_steps) (four_tail one.past w_steps x_steps y_steps z_steps) (forced_table b are s v fv)
      (forced_then b are table _ one two five w all (x_steps ++ y_steps ++ z_steps) (three_tail two.past x_steps y_steps z_steps) (forced_table b are one w fw)
      (forced_then b are table _ two three five x all (y_steps ++ z_steps) (append_assoc three.past y_steps z_steps) (forced_table b are two x fx)
      (forced_then b are table _ three four five y all z_steps refl (forced_table b are three y fy)
      (forced_then b are table _ four five five z all [] (sym (append-nil five.past)) (forced_table b are four z fz)
      (forced_then b are (require (nat_le (contexts_of all) 32768) fault.Contexts) (λ _. done all) five five five true all [] (sym (append-nil five.past))
      (forced_require b five (nat_le (contexts_of all) 32768) fault.Contexts (le-leb (contexts_of all) 32768 few)) (forced_done b five all)))))))
      refl (ap (λ n. spot_of (s.past ++ v_steps ++ w_steps ++ x_steps ++ y_steps ++ z_steps) n) grown ∙ ap (λ p. spot_of p (s.fresh + 160)) (five_parts s.past v_steps w_steps x_steps y_steps z_steps))

  pub forced_set : (s : Spot) (x : Set) → IsSet x → Forces set b s x (record { past = s.past ++ set_steps s.fresh x; fresh = s.fresh + 160 })
  forced_set s [] is = absurd (omega (arith, is.five))
  forced_set s (v ∷ []) is = absurd (omega (arith, is.five))
  forced_set s (v ∷ w ∷ []) is = absurd (omega (arith, is.five))
  forced_set s (v ∷ w ∷ x ∷ []) is = absurd (omega (arith, is.five))
  forced_set s (v ∷ w ∷ x ∷ y ∷ []) is = absurd (omega (arith, is.five))
  forced_set s (v ∷ w ∷ x ∷ y ∷ z ∷ []) is =
      let one = both (is_filled v) (is_filled w && (is_filled x && (is_filled y && (is_filled z && true)))) is.filled in
      let two = both (is_filled w) (is_filled x && (is_filled y && (is_filled z && true))) one.1 in
      let three = both (is_filled x) (is_filled y && (is_filled z && true)) two.1 in
      let four = both (is_filled y) (is_filled z && true) three.1 in
      let five = both (is_filled z) true four.1 in
      forced_five s v w x y z one.0 two.0 three.0 four.0 five.0 is.few
  forced_set s (u ∷ v ∷ w ∷ x ∷ y ∷ z ∷ more) is = absurd (omega (arith, is.five))

  pub forced_sets : (ss acc : List Set) (s : Spot) → AreSets ss → Forces (sets_onto (length ss) acc) b s (acc ++ ss) (record { past = s.past ++ sets_steps s.fresh ss; fresh = s.fresh + 160 * length ss })
  unfolding sets_onto
  forced_sets [] acc s are_sets =
      let none : s.fresh ≡ s.fresh + 160 * 0 = omega arith in
      forced_as (done acc) b s s (record { past = s.past ++ []; fresh = s.fresh + 160 * 0 }) acc (acc ++ []) (forced_done b s acc) (sym (append-nil acc))
      (ap (λ p. spot_of p s.fresh) (sym (append-nil s.past)) ∙ ap (λ n. spot_of (s.past ++ []) n) none)
  forced_sets (x ∷ ss) acc s are_sets =
      let t : Spot = record { past = s.past ++ set_steps s.fresh x; fresh = s.fresh + 160 } in
      let u : Spot = record { past = t.past ++ sets_steps t.fresh ss; fresh = t.fresh + 160 * length ss } in
      let grown : s.fresh + 160 + 160 * length ss ≡ s.fresh + 160 * suc (length ss) = omega arith in
      forced_as (set >>= λ x. sets_onto (length ss) (acc ++ (x ∷ []))) b s u (record { past = s.past ++ sets_steps s.fresh (x ∷ ss); fresh = s.fresh + 160 * length (x ∷ ss) }) (acc ++ (x ∷ []) ++ ss) (acc ++ (x ∷ ss))
      (forced_then b are set (λ x. sets_onto (length ss) (acc ++ (x ∷ []))) s t u x (acc ++ (x ∷ []) ++ ss) (sets_steps t.fresh ss) refl (forced_set s x are_sets.0) (forced_sets ss (acc ++ (x ∷ [])) t are_sets.1))
      (append_assoc acc (x ∷ []) ss)
      (ap (λ p. spot_of p (s.fresh + 160 + 160 * length ss)) (append_assoc s.past (set_steps s.fresh x) (sets_steps (s.fresh + 160) ss)) ∙ ap (λ n. spot_of (s.past ++ (set_steps s.fresh x ++ sets_steps (s.fresh + 160) ss)) n) grown)

  pub forced_tables : (s : Spot) (ss : List Set) → AreSets ss → 1 ≤ length ss → length ss ≤ 8 →
      Forces tables b s ss (record { past = s.past ++ (number_steps 0 (length ss) ++ sets_steps s.fresh ss ++ uncoded_steps (length ss)); fresh = s.fresh + 160 * length ss })
  forced_tables s ss are_sets some few =
      let small : length ss < 2 ^ 31 = omega arith in
      let count = number_steps 0 (length ss) in
      let free = uncoded_steps (length ss) in
      let t = behind s count in
      let u : Spot = record { past = t.past ++ sets_steps s.fresh ss; fresh = s.fresh + 160 * length ss } in
      let v = behind u free in
      forced_as tables b s v (record { past = s.past ++ (count ++ sets_steps s.fresh ss ++ free); fresh = s.fresh + 160 * length ss }) ss ss
      (forced_then b are (number_within 0 1 8 fault.Sets) (λ count. sets_onto count [] >>= λ ss. uncoded count >>= λ _. done ss) s t v (length ss) ss (sets_steps s.fresh ss ++ free) (append_assoc t.past (sets_steps s.fresh ss) free)
      (forced_within b are 0 1 8 fault.Sets s (length ss) small some few)
      (forced_then b are (sets_onto (length ss) []) (λ zs. uncoded (length ss) >>= λ _. done zs) t u v ss ss free refl (forced_sets ss [] t are_sets)
      (forced_then b are (uncoded (length ss)) (λ _. done ss) u v v true ss [] (sym (append-nil v.past)) (forced_uncoded b are (length ss) u) (forced_done b v ss))))
      refl (ap (λ p. spot_of p (s.fresh + 160 * length ss)) (three_tail s.past count (sets_steps s.fresh ss) free))

pub colour_back : (c : Colour) → colour_of (one_if (is_rct c)) ≡ c
colour_back colour.YCbCr = refl
colour_back colour.Rct = refl

pub colour_few : (c : Colour) → one_if (is_rct c) ≤ 1
colour_few colour.YCbCr = omega arith
colour_few colour.Rct = omega arith

abbrev planes_in : Configuration → Planes
planes_in c = record { colour = c.colour; depth = c.depth; chroma_planes = c.chroma_planes; extra_plane = c.extra_plane; log2_h = c.log2_h; log2_v = c.log2_v }

module _ (b : List ℕ) (are : AreBytes b) where
  forced_planes : (most : ℕ) (s : Spot) (bits : ℕ) (c : Configuration) → depth_of bits ≡ c.depth → IsTrue (has_depth most c) → c.log2_h ≤ 2 → c.log2_v ≤ 2 → IsTrue (c.chroma_planes || not c.extra_plane) → Forces (planes most) b s (planes_in c) (behind s (planes_steps bits c))
  forced_planes most s bits c known deep low_h low_v suits =
      let kind = one_if (is_rct c.colour) in
      let tiny = colour_few c.colour in
      let kind_small : kind < 2 ^ 31 = omega (arith, tiny) in
      let h_small : c.log2_h < 2 ^ 31 = omega arith in
      let v_small : c.log2_v < 2 ^ 31 = omega arith in
      let k_steps = number_steps 0 kind in
      let d_steps = number_steps 0 bits in
      let c_steps = truth_steps c.chroma_planes in
      let h_steps = number_steps 0 c.log2_h in
      let v_steps = number_steps 0 c.log2_v in
      let e_steps = truth_steps c.extra_plane in
      let one = behind s k_steps in
      let two = behind one d_steps in
      let three = behind two c_steps in
      let four = behind three h_steps in
      let five = behind four v_steps in
      let six = behind five e_steps in
      let here : IsTrue (is_depth most (depth_of bits)) = subst (λ n. IsTrue (is_depth most n)) (sym known) deep in
      let read : Planes = record { colour = colour_of kind; depth = depth_of bits; chroma_planes = c.chroma_planes; extra_plane = c.extra_plane; log2_h = c.log2_h; log2_v = c.log2_v } in
      forced_as (planes most) b s six (behind s (planes_steps bits c)) read (planes_in c)
      (forced_then b are (number_within 0 0 1 fault.ColourSpace) _ s one six kind read (d_steps ++ c_steps ++ h_steps ++ v_steps ++ e_steps) (five_tail one.past d_steps c_steps h_steps v_steps e_steps)
      (forced_within b are 0 0 1 fault.ColourSpace s kind kind_small (omega arith) tiny)
      (forced_then b are (depth most) _ one two six (depth_of bits) read (c_steps ++ h_steps ++ v_steps ++ e_steps) (four_tail two.past c_steps h_steps v_steps e_steps) (forced_depth b are most one bits here)
      (forced_then b are truth _ two three six c.chroma_planes read (h_steps ++ v_steps ++ e_steps) (three_tail three.past h_steps v_steps e_steps) (forced_truth b are two c.chroma_planes)
      (forced_then b are (number 0) _ three four six c.log2_h read (v_steps ++ e_steps) (append_assoc four.past v_steps e_steps) (forced_number b are 0 three c.log2_h h_small)
      (forced_then b are (number 0) _ four five six c.log2_v read e_steps refl (forced_number b are 0 four c.log2_v v_small)
      (forced_then b are truth _ five six six c.extra_plane read [] (sym (append-nil six.past)) (forced_truth b are five c.extra_plane)
      (forced_then b are (require (c.chroma_planes || not c.extra_plane) fault.ExtraPlane) (λ _. done read) six six six true read [] (sym (append-nil six.past))
      (forced_require b six (c.chroma_planes || not c.extra_plane) fault.ExtraPlane suits) (forced_done b six read))))))))
      (ap (λ (z : Colour). read_with z (depth_of bits)) (colour_back c.colour) ∙ ap (read_with c.colour) known) (ap (λ p. spot_of p s.fresh) (six_tail s.past k_steps d_steps c_steps h_steps v_steps e_steps))
    where
      read_with : Colour → ℕ → Planes
      read_with z n = record { colour = z; depth = n; chroma_planes = c.chroma_planes; extra_plane = c.extra_plane; log2_h = c.log2_h; log2_v = c.log2_v }

whole_parts : (o q c r t e i : List Step) → o ++ q ++ c ++ r ++ t ++ e ++ i ≡ o ++ q ++ (c ++ r) ++ t ++ (e ++ i)
whole_parts o q c r t e i = simp append_assoc refl

whole_tail : (p q c r t e i : List Step) → p ++ q ++ c ++ r ++ t ++ e ++ i ≡ p ++ (q ++ c ++ r ++ t ++ e ++ i)
whole_tail p q c r t e i = simp append_assoc refl

-- where the reading of a configuration ends
pub ending_of : ℕ → Configuration → Spot
ending_of bits c = record {
  past = opening_steps c ++ planes_steps bits c ++ number_steps 0 (c.columns - 1) ++ number_steps 0 (c.rows - 1) ++ tables_steps c ++ number_steps 0 (one_if c.ec) ++ number_steps 0 (one_if c.intra);
  fresh = 32 + 160 * length c.sets;
}

pub ending_past : (bits : ℕ) (c : Configuration) → (ending_of bits c).past ≡ record_steps bits c
unfolding ending_of
ending_past bits c = whole_parts (opening_steps c) (planes_steps bits c) (number_steps 0 (c.columns - 1)) (number_steps 0 (c.rows - 1)) (tables_steps c) (number_steps 0 (one_if c.ec)) (number_steps 0 (one_if c.intra))

counted : (n : ℕ) → IsTrue (nat_le 1 n && nat_le n 8) → (1 ≤ n) × (n ≤ 8)
counted n h =
    let parts = both (nat_le 1 n) (nat_le n 8) h in
    (leb-true 1 n parts.0, leb-true n 8 parts.1)

module _ (b : List ℕ) (are : AreBytes b) where
  pub forced_parameters : (least most : ℕ) (bits : ℕ) (c : Configuration) (t : Table) → depth_of bits ≡ c.depth → c.depth ≤ most → IsAccepted c t → IsWritable c.coder → least ≤ type_of c.coder → Forces (parameters least most c.width c.height) b beginning c (ending_of bits c)
  unfolding ending_of
  forced_parameters least most bits c t known low is writable allowed =
      let passes = is.passes in
      let factors = subsampled c passes.1.0 in
      let grid = divided c passes.1.1.1.1.1.0 in
      let some = counted (length c.sets) passes.1.1.1.0 in
      let o = opening_steps c in
      let q = planes_steps bits c in
      let l = number_steps 0 (c.columns - 1) in
      let r = number_steps 0 (c.rows - 1) in
      let x = tables_steps c in
      let e = number_steps 0 (one_if c.ec) in
      let i = number_steps 0 (one_if c.intra) in
      let one = behind beginning o in
      let two = behind one q in
      let three = behind two l in
      let four = behind three r in
      let five : Spot = record { past = four.past ++ x; fresh = 32 + 160 * length c.sets } in
      let six = behind five e in
      let seven = behind six i in
      forced_then b are (opening least) _ beginning one seven c.coder c (q ++ l ++ r ++ x ++ e ++ i) (whole_tail o q l r x e i) (forced_opening b are least beginning c.coder t is.table writable allowed)
      (forced_then b are (planes most) _ one two seven (planes_in c) c (l ++ r ++ x ++ e ++ i) (five_tail two.past l r x e i) (forced_planes b are most one bits c known (depth_up_to 16 most c.depth is.depth low) factors.log2_h factors.log2_v passes.1.1.0)
      (forced_then b are count_of _ two three seven c.columns c (r ++ x ++ e ++ i) (four_tail three.past r x e i) (forced_count b are two c.columns grid.some_columns grid.columns)
      (forced_then b are count_of _ three four seven c.rows c (x ++ e ++ i) (three_tail four.past x e i) (forced_count b are three c.rows grid.some_rows grid.rows)
      (forced_then b are tables _ four five seven c.sets c (e ++ i) (append_assoc five.past e i) (forced_tables b are four c.sets is.sets some.0 some.1)
      (forced_then b are (flag fault.Ec) _ five six seven c.ec c i refl (forced_flag b are fault.Ec five c.ec)
      (forced_then b are (flag fault.Intra) _ six seven seven c.intra c [] (sym (append-nil seven.past)) (forced_flag b are fault.Intra six c.intra) (forced_done b seven c)))))))
