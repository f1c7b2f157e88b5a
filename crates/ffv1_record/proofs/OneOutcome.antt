-- Each reading has one outcome.
use Rattle.std.proofs.Common.{◌≡◌, refl, ℕ, zero, suc, ◌+◌, ◌-◌, ◌<◌, ◌≤◌, inl, inr, Bool, true, false, not, nat_le, ◌&&◌, ◌||◌, ◌==◌, List, [], ◌∷◌, ◌++◌, ap, sym, subst, ◌∙◌, arith, ℤ, Result, Ok, Err}
use Rattle.ffv1_range.specs.Codes.{AreBytes, value}
use Rattle.ffv1_range.specs.Symbols.{Step, shifted, too_long}
use Rattle.ffv1_range.specs.Table.{Table}
use Rattle.ffv1_plane.specs.Quantisation.{Set, contexts_of}
use Rattle.ffv1_record.specs.declared.fault.RecordFault.{RecordFault}
use Rattle.ffv1_record.specs.declared.fault.RecordFault.TheVariants as fault
use Rattle.ffv1_record.specs.declared.config.Coder.{Coder}
use Rattle.ffv1_record.specs.declared.config.Coder.TheVariants as coder
use Rattle.ffv1_record.specs.Configuration.{Configuration}
use Rattle.ffv1_record.specs.declared.config.Profile.{Profile}
use Rattle.ffv1_record.specs.Accepted.{IsFirstIn, PassesAll, IsAccepted, is_depth, checks, least_coder, type_of}
use Rattle.ffv1_record.specs.Record.{IsCoded, IsRecord, body_of, depth_of, number_steps}
use Rattle.ffv1_record.specs.Reader.{Reader, Spot, ◌>>=◌, done, require, next_table, number, signed_number, truth, number_within, makes_table}
use Rattle.ffv1_record.specs.Reading.{deltas_onto, coder_of, opening, depth, planes, count_of, runs_onto, table, set, sets_onto, uncoded, tables, flag, before_sets, parameters, beginning, IsMet, IsRefused}
use Rattle.ffv1_record.proofs.ReadIsCoded.{ok_same, not_both}
use Rattle.ffv1_record.proofs.CodedIsRead.{coded_front, forced_number, forced_signed, forced_truth}
use Rattle.ffv1_record.proofs.Checks.{kind_allowed, passed_coder}
use Rattle.ffv1_record.proofs.RecordIsRead.{none_stands, good_start, read_so}
use Rattle.ffv1_record.proofs.CodedRecordIsRead.{ending_of}

pub record Decides {X : Type 0} (b : List ℕ) (r : Reader X) : Type 0 where
  pub decides : (s : Spot) (x y : Result (X × Spot) RecordFault) → r b s x → r b s y → x ≡ y

fault_of : {X : Type 0} → RecordFault → Result X RecordFault → RecordFault
fault_of d (Ok x) = d
fault_of d (Err f) = f

pub err_same : {X : Type 0} (f g : RecordFault) → ◌≡◌ {A = Result X RecordFault} (Err f) (Err g) → f ≡ g
unfolding fault_of
err_same f g e = ap (fault_of f) e

-- the same fault of another type
pub err_is : {Y : Type 0} (f g : RecordFault) → f ≡ g → ◌≡◌ {A = Result Y RecordFault} (Err f) (Err g)
err_is f g e = ap (λ z. Err z) e

decides_done : {X : Type 0} (b : List ℕ) (x : X) → Decides b (done x)
unfolding done
decides_done b x = record { decides = λ s u v p q. p ∙ sym q }

decides_require : (b : List ℕ) (test : Bool) (f : RecordFault) → Decides b (require test f)
unfolding require
decides_require b true f = record { decides = λ s u v p q. p ∙ sym q }
decides_require b false f = record { decides = λ s u v p q. p ∙ sym q }

decides_next : (b : List ℕ) → Decides b next_table
unfolding next_table
decides_next b = record { decides = λ s u v p q. p ∙ sym q }

decides_makes : (b : List ℕ) (ds : List ℤ) → Decides b (makes_table ds)
unfolding makes_table
decides_makes b ds = record {
  decides = λ s u v p q. elim p [
    | inl e ↦ elim q [ inl f ↦ e.1 ∙ sym f.1 | inr f ↦ absurd (f.0 e.0.0 e.0.1) ]
    | inr e ↦ elim q [ inl f ↦ absurd (e.0 f.0.0 f.0.1) | inr f ↦ e.1 ∙ sym f.1 ]
  ];
}

decides_then : {X Y : Type 0} (b : List ℕ) (first : Reader X) (next : X → Reader Y) → Decides b first → ((x : X) → Decides b (next x)) → Decides b (first >>= next)
decides_then {X = X} b first next one rest = record {
  decides = λ s u v p q. elim p.either [
    | inl e ↦ elim q.either [
      | inl f ↦
          let same = ok_same (f.0, f.1) (e.0, e.1) (one.decides s (Ok (f.0, f.1)) (Ok (e.0, e.1)) f.2 e.2) in
          (rest e.0).decides e.1 u v e.3 (subst (λ (z : X × Spot). next z.0 b z.1 v) same f.3)
      | inr f ↦ absurd (not_both (e.0, e.1) f.0 (one.decides s (Ok (e.0, e.1)) (Err f.0) e.2 f.1))
    ]
    | inr e ↦ elim q.either [
      | inl f ↦ absurd (not_both (f.0, f.1) e.0 (one.decides s (Ok (f.0, f.1)) (Err e.0) f.2 e.1))
      | inr f ↦ e.2 ∙ err_is e.0 f.0 (err_same {X = X × Spot} e.0 f.0 (one.decides s (Err e.0) (Err f.0) e.1 f.1)) ∙ sym f.2
    ]
  ];
}

module _ (b : List ℕ) (are : AreBytes b) where
  decides_number : (base : ℕ) → Decides b (number base)
  unfolding number
  decides_number base = record {
    decides = λ s u v p q. elim p [
      | inl e ↦ e.3 ∙ sym ((forced_number b are base s e.0 e.1).forces e.2 v q)
      | inr e ↦ elim q [ inl f ↦ (forced_number b are base s f.0 f.1).forces f.2 u (inr e) ∙ sym f.3 | inr f ↦ e.1 ∙ sym f.1 ]
    ];
  }

  decides_signed : Decides b signed_number
  unfolding signed_number
  decides_signed = record {
    decides = λ s u v p q. elim p [
      | inl e ↦ e.3 ∙ sym ((forced_signed b are s e.0 e.1).forces e.2 v q)
      | inr e ↦ elim q [ inl f ↦ (forced_signed b are s f.0 f.1).forces f.2 u (inr e) ∙ sym f.3 | inr f ↦ e.1 ∙ sym f.1 ]
    ];
  }

  decides_truth : Decides b truth
  unfolding truth
  decides_truth = record { decides = λ s u v p q. p.2 ∙ sym ((forced_truth b are s p.0).forces p.1 v q) }

  decides_within : (base least most : ℕ) (f : RecordFault) → Decides b (number_within base least most f)
  decides_within base least most f =
      decides_then b (number base) _ (decides_number base) (λ n. decides_then b (require (nat_le least n && nat_le n most) f) _ (decides_require b (nat_le least n && nat_le n most) f) (λ _. decides_done b n))

  decides_deltas : (k : ℕ) (ds : List ℤ) → Decides b (deltas_onto k ds)
  unfolding deltas_onto
  decides_deltas zero ds = decides_done b ds
  decides_deltas (suc k) ds = decides_then b signed_number _ decides_signed (λ d. decides_deltas k (ds ++ (d ∷ [])))

  decides_coder : (kind : ℕ) → Decides b (coder_of kind)
  decides_coder (suc zero) = decides_done b coder.One
  decides_coder zero = decides_done b coder.Rice
  decides_coder (suc (suc kind)) = decides_then b (deltas_onto 255 []) _ (decides_deltas 255 []) (λ ds. decides_then b (makes_table ds) _ (decides_makes b ds) (λ _. decides_done b (coder.Two ds)))

  decides_opening : (least : ℕ) → Decides b (opening least)
  decides_opening least =
      decides_then b (number_within 0 3 3 fault.Version) _ (decides_within 0 3 3 fault.Version) (λ _.
      decides_then b (number_within 0 4 4 fault.MicroVersion) _ (decides_within 0 4 4 fault.MicroVersion) (λ _.
      decides_then b (number_within 0 least 2 fault.Coder) coder_of (decides_within 0 least 2 fault.Coder) decides_coder))

  decides_depth : (most : ℕ) → Decides b (depth most)
  decides_depth most = decides_then b (number 0) _ (decides_number 0) (λ n. decides_then b (require (is_depth most (depth_of n)) fault.Depth) _ (decides_require b (is_depth most (depth_of n)) fault.Depth) (λ _. decides_done b (depth_of n)))

  decides_planes : (most : ℕ) → Decides b (planes most)
  decides_planes most =
      decides_then b (number_within 0 0 1 fault.ColourSpace) _ (decides_within 0 0 1 fault.ColourSpace) (λ kind.
      decides_then b (depth most) _ (decides_depth most) (λ _.
      decides_then b truth _ decides_truth (λ chroma.
      decides_then b (number 0) _ (decides_number 0) (λ log2_h.
      decides_then b (number 0) _ (decides_number 0) (λ log2_v.
      decides_then b truth _ decides_truth (λ extra.
      decides_then b (require (chroma || not extra) fault.ExtraPlane) _ (decides_require b (chroma || not extra) fault.ExtraPlane) (λ _. decides_done b _)))))))

  decides_runs : (base steps left : ℕ) (runs : List ℕ) → Decides b (runs_onto base steps left runs)
  unfolding runs_onto
  decides_runs base steps zero runs = decides_done b runs
  decides_runs base zero (suc left) runs = decides_done b runs
  decides_runs base (suc steps) (suc left) runs = decides_then b (number_within base 0 left fault.Runs) _ (decides_within base 0 left fault.Runs) (λ n. decides_runs base steps (left - n) (runs ++ ((n + 1) ∷ [])))

  decides_table : Decides b table
  decides_table = decides_then b next_table _ (decides_next b) (λ base. decides_runs base 128 128 [])

  decides_set : Decides b set
  decides_set =
      decides_then b table _ decides_table (λ first. decides_then b table _ decides_table (λ second. decides_then b table _ decides_table (λ third.
      decides_then b table _ decides_table (λ fourth. decides_then b table _ decides_table (λ fifth.
      decides_then b (require (nat_le (contexts_of (first ∷ second ∷ third ∷ fourth ∷ fifth ∷ [])) 32768) fault.Contexts) _
      (decides_require b (nat_le (contexts_of (first ∷ second ∷ third ∷ fourth ∷ fifth ∷ [])) 32768) fault.Contexts) (λ _. decides_done b _))))))

  decides_sets : (k : ℕ) (ss : List Set) → Decides b (sets_onto k ss)
  unfolding sets_onto
  decides_sets zero ss = decides_done b ss
  decides_sets (suc k) ss = decides_then b set _ decides_set (λ x. decides_sets k (ss ++ (x ∷ [])))

  decides_uncoded : (k : ℕ) → Decides b (uncoded k)
  unfolding uncoded
  decides_uncoded zero = decides_done b true
  decides_uncoded (suc k) = decides_then b truth _ decides_truth (λ x. decides_then b (require (not x) fault.CodedStates) _ (decides_require b (not x) fault.CodedStates) (λ _. decides_uncoded k))

  decides_tables : Decides b tables
  decides_tables = decides_then b (number_within 0 1 8 fault.Sets) _ (decides_within 0 1 8 fault.Sets) (λ count. decides_then b (sets_onto count []) _ (decides_sets count []) (λ ss. decides_then b (uncoded count) _ (decides_uncoded count) (λ _. decides_done b ss)))

  decides_count : Decides b count_of
  decides_count = decides_then b (number 0) _ (decides_number 0) (λ n. decides_done b (n + 1))

  pub decides_before_sets : (least most : ℕ) → Decides b (before_sets least most)
  decides_before_sets least most = decides_then b (opening least) _ (decides_opening least) (λ c. decides_then b (planes most) _ (decides_planes most) (λ p. decides_then b count_of _ decides_count (λ columns. decides_then b count_of _ decides_count (λ rows. decides_within 0 1 8 fault.Sets))))

  decides_flag : (f : RecordFault) → Decides b (flag f)
  decides_flag f = decides_then b (number_within 0 0 1 f) _ (decides_within 0 0 1 f) (λ n. decides_done b (n == 1))

  pub decides_parameters : (least most width height : ℕ) → Decides b (parameters least most width height)
  decides_parameters least most width height =
      decides_then b (opening least) _ (decides_opening least) (λ c. decides_then b (planes most) _ (decides_planes most) (λ p. decides_then b count_of _ decides_count (λ columns. decides_then b count_of _ decides_count (λ rows.
      decides_then b tables _ decides_tables (λ ss. decides_then b (flag fault.Ec) _ (decides_flag fault.Ec) (λ ec. decides_then b (flag fault.Intra) _ (decides_flag fault.Intra) (λ intra. decides_done b _)))))))

  -- a reading begins by a good start
  good_number : (s : Spot) (out : Result (ℕ × Spot) RecordFault) → s.past ≡ [] → number 0 b s out → value b 2 < 65280
  unfolding number
  good_number s out past h = elim h [
    | inl e ↦ started (s.past ++ number_steps 0 e.0) e.2
    | inr e ↦ started (s.past ++ shifted 0 too_long) e.0
  ]
    where
      started : (steps : List Step) → IsCoded b steps → value b 2 < 65280
      started steps coded =
          let below = (coded_front b are [] steps coded).below in
          omega arith

  good_within : (s : Spot) (out : Result (ℕ × Spot) RecordFault) → s.past ≡ [] → number_within 0 3 3 fault.Version b s out → value b 2 < 65280
  good_within s out past h = elim h.either [
    | inl e ↦ good_number s (Ok (e.0, e.1)) past e.2
    | inr e ↦ good_number s (Err e.0) past e.1
  ]

  good_opening : (least : ℕ) (s : Spot) (out : Result (Coder × Spot) RecordFault) → s.past ≡ [] → opening least b s out → value b 2 < 65280
  good_opening least s out past h = elim h.either [
    | inl e ↦ good_within s (Ok (e.0, e.1)) past e.2
    | inr e ↦ good_within s (Err e.0) past e.1
  ]

  pub good_parameters : (least most width height : ℕ) (out : Result (Configuration × Spot) RecordFault) → parameters least most width height b beginning out → value b 2 < 65280
  good_parameters least most width height out h = elim h.either [
    | inl e ↦ good_opening least beginning (Ok (e.0, e.1)) refl e.2
    | inr e ↦ good_opening least beginning (Err e.0) refl e.1
  ]

-- of the faults in an order one is the first
one_first : (p : Profile) (fs : List RecordFault) (c : Configuration) (f g : RecordFault) → IsFirstIn p fs c f → IsFirstIn p fs c g → f ≡ g
one_first k [] c f g p q = absurd p
one_first k (x ∷ fs) c f g p q = elim p [
  | inl e ↦ elim q [ inl d ↦ e.1 ∙ sym d.1 | inr d ↦ absurd (e.0 d.0) ]
  | inr e ↦ elim q [ inl d ↦ absurd (d.0 e.0) | inr d ↦ one_first k fs c f g e.1 d.1 ]
]

module _ (k : Profile) (most : ℕ) (bytes : List ℕ) (are : AreBytes (body_of bytes)) (width height : ℕ) where
  one_met : (f g : RecordFault) → IsMet k most bytes width height f → IsMet k most bytes width height g → f ≡ g
  one_met f g p q =
      let b = body_of bytes in
      let read = decides_parameters b are (least_coder k) most width height in
      let good = good_parameters b are (least_coder k) most width height in
      elim p [
        | inl e ↦ elim q [
          | inl d ↦ e.1 ∙ sym d.1
          | inr d ↦ elim d [
            | inl x ↦ absurd (not_low e.0 (good (Err g) x))
            | inr x ↦ absurd (not_low e.0 (good (Ok (x.0, x.1)) x.2))
          ]
        ]
        | inr e ↦ elim e [
          | inl y ↦ elim q [
            | inl d ↦ absurd (not_low d.0 (good (Err f) y))
            | inr d ↦ elim d [
              | inl x ↦ err_same {X = Configuration × Spot} f g (read.decides beginning (Err f) (Err g) y x)
              | inr x ↦ absurd (not_both (x.0, x.1) f (read.decides beginning (Ok (x.0, x.1)) (Err f) x.2 y))
            ]
          ]
          | inr y ↦ elim q [
            | inl d ↦ absurd (not_low d.0 (good (Ok (y.0, y.1)) y.2))
            | inr d ↦ elim d [
              | inl x ↦ absurd (not_both (y.0, y.1) g (read.decides beginning (Ok (y.0, y.1)) (Err g) y.2 x))
              | inr x ↦
                  let same = ok_same (x.0, x.1) (y.0, y.1) (read.decides beginning (Ok (x.0, x.1)) (Ok (y.0, y.1)) x.2 y.2) in
                  one_first k checks y.0 f g y.3 (subst (λ (z : Configuration). IsFirstIn k checks z g) (ap (λ (z : Configuration × Spot). z.0) same) x.3)
            ]
          ]
        ]
      ]
    where
      not_low : {n : ℕ} → 65280 ≤ n → n < 65280 → ⊥
      not_low high low = omega arith

  pub one_refusal : (f g : RecordFault) → IsRefused k most bytes width height f → IsRefused k most bytes width height g → f ≡ g
  one_refusal f g p q = elim p [
    | inl e ↦ elim q [
      | inl d ↦ e.1 ∙ sym d.1
      | inr d ↦ elim d [ inl x ↦ absurd (not_short e.0 x.0) | inr x ↦ absurd (not_short e.0 x.0) ]
    ]
    | inr e ↦ elim e [
      | inl y ↦ elim q [
        | inl d ↦ absurd (not_short d.0 y.0)
        | inr d ↦ elim d [ inl x ↦ y.2 ∙ sym x.2 | inr x ↦ absurd (y.1 x.1) ]
      ]
      | inr y ↦ elim q [
        | inl d ↦ absurd (not_short d.0 y.0)
        | inr d ↦ elim d [ inl x ↦ absurd (x.1 y.1) | inr x ↦ one_met f g y.2 x.2 ]
      ]
    ]
  ]
    where
      not_short : {n : ℕ} → n < 5 → 5 ≤ n → ⊥
      not_short short long = omega arith

-- no record of a configuration is refused
pub no_refusal : (k : Profile) (most : ℕ) (bytes : List ℕ) → AreBytes (body_of bytes) → (c : Configuration) (t : Table) (f : RecordFault) → IsAccepted c t → PassesAll k checks c → c.depth ≤ most → IsRecord bytes c → IsRefused k most bytes c.width c.height f → ⊥
no_refusal k most bytes are c t f is passes below stored refused = elim refused [
  | inl e ↦ short e.0 stored.long
  | inr e ↦ elim e [
    | inl y ↦ y.1 stored.whole
    | inr y ↦ elim y.2 [
      | inl low ↦ good_start bytes are c t is stored most below (least_coder k) allowed low.0
      | inr met ↦ elim met [
        | inl x ↦ not_both (c, ending_of stored.bits c) f (sym (read_so bytes are c t is stored most below (least_coder k) allowed (Err f) x))
        | inr x ↦
            let same = ok_same (x.0, x.1) (c, ending_of stored.bits c) (read_so bytes are c t is stored most below (least_coder k) allowed (Ok (x.0, x.1)) x.2) in
            none_stands k checks c f passes (subst (λ (z : Configuration). IsFirstIn k checks z f) (ap (λ (z : Configuration × Spot). z.0) same) x.3)
      ]
    ]
  ]
]
  where
    allowed : least_coder k ≤ type_of c.coder
    allowed = kind_allowed k c (passed_coder k c passes)

    short : {n : ℕ} → n < 5 → 5 ≤ n → ⊥
    short low high = omega arith
