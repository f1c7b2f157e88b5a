-- Slices are opened.
use Rattle.std.proofs.Common.{◌≡◌, ◌≢◌, refl, ℕ, zero, suc, ◌+◌, ◌-◌, ◌*◌, ◌<◌, ◌≤◌, inl, inr, Bool, true, false, if◌then◌else◌, Option, Some, None, List, [], ◌∷◌, ◌++◌, length, replicate, slice_index, ap, sym, subst, ◌∙◌, arith}
use Rattle.std.proofs.lemmas.Bool.{lt-ltb}
use Rattle.ffv1_range.specs.Table.{Table}
use Rattle.ffv1_range.specs.Codes.{Codes}
use Rattle.ffv1_range.specs.Interval.{interval_of, start}
use Rattle.ffv1_range.specs.Reading.{Reading, At, paused, resumed}
use Rattle.ffv1_range.specs.Symbols.{Step, shifted, unsigned_steps}
use Rattle.ffv1_range.specs.History.{AreBelow, AreOutside, decisions_after, HasStates}
use Rattle.ffv1_range.specs.Counts.{Counts, Counted, uncounted}
use Rattle.ffv1_record.specs.Configuration.{Configuration}
use Rattle.ffv1_record.specs.Accepted.{Accepted}
use Rattle.ffv1_slice.specs.Footer.{foot_length}
use Rattle.ffv1_slice.specs.Cutting.{Cut, IsCutting, span_of}
use Rattle.ffv1_slice.specs.declared.head.SliceHead.{SliceHead}
use Rattle.ffv1_slice.specs.declared.fault.SliceFault.{SliceFault}
use Rattle.ffv1_slice.specs.declared.fault.SliceFault.TheVariants as slice
use Rattle.ffv1_slice.specs.Head.{CodesHead, RefusesHead, RefusesKey, IsThird, key_steps, head_steps, head_values, values_steps, no_key}
use Rattle.ffv1_slice.specs.Coding.{ReadsAt, FindsHead, StopsInHead}
use Rattle.ffv1_decode.specs.declared.column.Column.{Column}
use Rattle.ffv1_frame.specs.declared.fault.CodecFault.{CodecFault}
use Rattle.ffv1_frame.specs.declared.fault.CodecFault.TheVariants as fault
use Rattle.ffv1_frame.specs.SliceList.{Said, said_by}
use Rattle.ffv1_frame.specs.Decoding.{AgreesWith, of_slice}
use Rattle.ffv1_decode.specs.Internal.Stands.{Stands, told_by, tally_after}
use Rattle.ffv1_frame.specs.Windows.{window}
use Rattle.ffv1_decode.specs.Internal.Opened.{Begun, HeadRead, HeadRefused, IsCutOf, ColumnOpened, ColumnRefused, coded_by}
use Rattle.ffv1_decode.proofs.lemmas.segment.SegmentReads.{Telling, tells}
use Rattle.ffv1_frame.specs.Overread.{IsWithin, IsOverread}

pub key_outside : (n : ℕ) → AreOutside (key_steps n) 1 32
key_outside zero = (inl (omega arith), tt)
key_outside (suc n) = tt

key_below : (n : ℕ) → AreBelow (key_steps n) 33
key_below zero = (omega arith, tt)
key_below (suc n) = tt

module _ (a : Accepted) (n : ℕ) (old new : Reading) (begins : At old start) (counts : old.counts ≡ uncounted) where
  pub begun_first : (count : ℕ) (steps : List Step) → ReadsAt a.table 0 count old new steps → Begun a old new steps
  begun_first count steps reads = record {
    bytes = reads.bytes;
    at = reads.at [] tt begins;
    counted = subst (λ z. Counted z steps new.counts) counts reads.counts;
  }

  pub key_refused : (f : SliceFault) (g : CodecFault) → f ≡ slice.NotKey → g ≡ of_slice f → ReadsAt a.table 0 1 old new no_key → (At old start → RefusesKey old.bytes a.table n) → HeadRefused a n old new g
  key_refused f g f_is g_is reads why = record {
    steps = no_key;
    why = inl (g_is ∙ ap of_slice f_is, why begins, refl);
    begun = begun_first 1 no_key reads;
  }

module _ (a : Accepted) (n : ℕ) (old mid new : Reading) (begins : At old start) (counts : old.counts ≡ uncounted) (append : (a b c : Counts) (xs ys : List Step) → Counted a xs b → Counted b ys c → Counted a (xs ++ ys) c)
    (key : ReadsAt a.table 0 1 old mid (key_steps n)) where
  first : Begun a old mid (key_steps n)
  first = begun_first a n old mid begins counts 1 (key_steps n) key

  begun_more : (steps : List Step) → ReadsAt a.table 1 32 mid new steps → Begun a old new (key_steps n ++ steps)
  begun_more steps reads = record {
    bytes = reads.bytes ∙ first.bytes;
    at = reads.at (key_steps n) (key_outside n) first.at;
    counted = append uncounted mid.counts new.counts (key_steps n) steps first.counted reads.counts;
  }

  pub head_read : (h : SliceHead) → ReadsAt a.table 1 32 mid new (head_steps a.configuration n h) → FindsHead a n mid h → HeadRead a n old new h
  head_read h reads finds = record {
    codes = subst (λ b. CodesHead b a.table a.profile a.configuration n h) first.bytes (finds first.at);
    begun = begun_more (head_steps a.configuration n h) reads;
  }

  pub head_refused : (f : SliceFault) (g : CodecFault) → g ≡ of_slice f → StopsInHead a n mid new f → HeadRefused a n old new g
  head_refused f g is stops =
      let steps = stops.0 in
      let begun = begun_more (shifted 1 steps) stops.2 in
      let codes : Codes old.bytes (decisions_after a.table [] (key_steps n ++ shifted 1 steps)) =
      subst (λ b. Codes b (decisions_after a.table [] (key_steps n ++ shifted 1 steps))) begun.bytes begun.at.inside in
      record {
        steps = key_steps n ++ shifted 1 steps;
        why = inr (f, steps, record { stops = stops.1; codes = codes }, is, refl);
        begun = begun;
      }

-- the slots of a head
module _ (both : (xs ys : List Step) (count : ℕ) → AreBelow xs count → AreBelow ys count → AreBelow (xs ++ ys) count) (symbol : (n : ℕ) → AreBelow (unsigned_steps n) 32) where
  values_below : (vs : List ℕ) → AreBelow (values_steps vs) 32
  values_below [] = tt
  values_below (v ∷ vs) = both (unsigned_steps v) (values_steps vs) 32 (symbol v) (values_below vs)

  pub opening_below : ((base count : ℕ) (steps : List Step) → AreBelow steps count → AreBelow (shifted base steps) (base + count)) → (c : Configuration) (n : ℕ) (h : SliceHead) →
      AreBelow (key_steps n ++ head_steps c n h) 33
  opening_below shift c n h = both (key_steps n) (head_steps c n h) 33 (key_below n) (shift 1 32 (values_steps (head_values c n h)) (values_below (head_values c n h)))

outside_below : (steps : List Step) (base count : ℕ) → AreBelow steps base → AreOutside steps base count
outside_below [] base count below = tt
outside_below (s ∷ ss) base count below = (inl below.0, outside_below ss base count below.1)

pub fresh_has : ((t : Table) (count base : ℕ) → HasStates t (replicate count 128) base []) →
    ((t : Table) (states : List ℕ) (base : ℕ) (past steps : List Step) → AreOutside steps base (length states) → HasStates t states base past → HasStates t states base (past ++ steps)) →
    (t : Table) (steps : List Step) (slots : ℕ) → AreBelow steps 33 → HasStates t (replicate slots 128) 33 steps
fresh_has fresh others t steps slots below =
    others t (replicate slots 128) 33 [] steps (outside_below steps 33 (length (replicate slots 128)) below) (fresh t slots 33)

-- where a slice ends in its payload
module _ (payload : List ℕ) (foot count : ℕ) (spans : ℕ → ℕ) (cutting : IsCutting payload foot count spans) where
  spans_by : (d s : ℕ) → s + d ≡ count → spans s ≤ length payload
  spans_by zero s is = let same : s ≡ count = omega (arith, is) in let last = ap spans same ∙ cutting.last in omega (arith, last)
  spans_by (suc d) s is =
      let rest = spans_by d (suc s) (omega (arith, is)) in
      let each = cutting.each s (omega (arith, is)) in
      omega (arith, rest, each)

  pub span_inside : (s : ℕ) → s ≤ count → spans s ≤ length payload
  span_inside s h = spans_by (count - s) s (omega (arith, h))

  pub span_rises : (s : ℕ) → s < count → spans s ≤ spans (suc s) - foot
  span_rises s h = let each = cutting.each s h in omega (arith, each)

same_pair : (p q : ℕ × ℕ) → Some p ≡ Some q → p ≡ q
same_pair p q e = cc

pub span_known : (cut : Cut) (n : ℕ) (p : ℕ × ℕ) → n + 1 < length cut.offsets → span_of cut n ≡ Some p → (p.0 ≡ slice_index cut.offsets n) × (p.1 ≡ slice_index cut.offsets (n + 1) - cut.foot)
span_known cut n p less is =
    let pair : ℕ × ℕ = (slice_index cut.offsets n, slice_index cut.offsets (n + 1) - cut.foot) in
    let found : span_of cut n ≡ Some pair = ap (λ (b : Bool). if b then Some pair else None) (lt-ltb (n + 1) (length cut.offsets) less) in
    let same : p ≡ pair = same_pair p pair (sym is ∙ found) in
    (ap (λ (z : ℕ × ℕ). z.0) same, ap (λ (z : ℕ × ℕ). z.1) same)

-- the sets that a head names
pub indexes_few : (extra : Bool) (count : ℕ) (xs : List ℕ) → 0 < count → slice_index xs 0 < count → slice_index xs 1 < count → IsThird extra (slice_index xs 2) count → (class : ℕ) → class < 3 → slice_index xs class < count
indexes_few extra count xs some a b c zero h = a
indexes_few extra count xs some a b c (suc zero) h = b
indexes_few false count xs some a b c (suc (suc zero)) h = omega (arith, c, some)
indexes_few true count xs some a b c (suc (suc zero)) h = c
indexes_few extra count xs some a b c (suc (suc (suc k))) h = absurd (omega (arith, h))

module _ (a : Accepted) (payload : List ℕ) (cut : Cut) (n begin end : ℕ) (is_cut : IsCutOf a payload cut) (begin_is : begin ≡ slice_index cut.offsets n) (end_is : end ≡ slice_index cut.offsets (n + 1) - cut.foot) where
  abbrev bytes : List ℕ
  bytes = window begin (end - begin) payload

  pub bytes_are : bytes ≡ coded_by a payload cut n
  bytes_are =
      let next : n + 1 ≡ suc n = omega arith in
      let end_is : end ≡ slice_index cut.offsets (suc n) - foot_length a.configuration.ec = end_is ∙ ap (λ k. slice_index cut.offsets k - cut.foot) next ∙ ap (λ k. slice_index cut.offsets (suc n) - k) is_cut.foot in
      ap (λ k. window k (end - k) payload) begin_is ∙ ap (λ k. window (slice_index cut.offsets n) (k - slice_index cut.offsets n) payload) end_is

  pub begins_before : n < a.configuration.columns * a.configuration.rows → begin ≤ end
  begins_before h =
      let next : n + 1 ≡ suc n = omega arith in
      let r = span_rises payload (foot_length a.configuration.ec) (a.configuration.columns * a.configuration.rows) (slice_index cut.offsets) is_cut.cuts.cutting n h in
      let end_is : end ≡ slice_index cut.offsets (suc n) - foot_length a.configuration.ec = end_is ∙ ap (λ k. slice_index cut.offsets k - cut.foot) next ∙ ap (λ k. slice_index cut.offsets (suc n) - k) is_cut.foot in
      subst (λ k. begin ≤ k) (sym end_is) (subst (λ k. k ≤ slice_index cut.offsets (suc n) - foot_length a.configuration.ec) (sym begin_is) r)

  pub ends_inside : n < a.configuration.columns * a.configuration.rows → end ≤ length payload
  ends_inside h =
      let next : n + 1 ≡ suc n = omega arith in
      let r = span_inside payload (foot_length a.configuration.ec) (a.configuration.columns * a.configuration.rows) (slice_index cut.offsets) is_cut.cuts.cutting (suc n) (omega (arith, h)) in
      let end_is : end ≡ slice_index cut.offsets (suc n) - cut.foot = end_is ∙ ap (λ k. slice_index cut.offsets k - cut.foot) next in
      omega (arith, r, end_is)

  module _ (old new : Reading) (old_is : old.bytes ≡ bytes) where
    coded_is : old.bytes ≡ coded_by a payload cut n
    coded_is = old_is ∙ bytes_are

    stands_after : (steps : List Step) → Begun a old new steps → ((slots : ℕ) → HasStates a.table (replicate slots 128) 33 steps) → (slots : ℕ) → Stands (coded_by a payload cut n) a.table 33 (Some (paused new)) (replicate slots 128) steps
    stands_after steps begun has slots = record {
      decoder = record {
        pause = paused new;
        is = refl;
        at = subst (λ b. At (resumed (paused new) b) (interval_of (decisions_after a.table [] steps))) (begun.bytes ∙ coded_is) begun.at;
        counted = begun.counted;
      };
      has = has slots;
    }

    told_after : Telling → (steps : List Step) → Begun a old new steps → told_by (Some (paused new)) ≡ tally_after a.table steps
    told_after telling steps begun =
        tells telling (coded_by a payload cut n) a.table (paused new) steps (subst (λ b. At (resumed (paused new) b) (interval_of (decisions_after a.table [] steps))) (begun.bytes ∙ coded_is) begun.at) begun.counted

    pub column_opened : (indexes : List ℕ) (h : SliceHead) (before after : Option Said) → indexes ≡ h.indexes → HeadRead a n old new h → AgreesWith before (said_by a.profile h) → after ≡ Some (said_by a.profile h) →
        IsWithin a bytes (key_steps n ++ head_steps a.configuration n h) → ((slots : ℕ) → HasStates a.table (replicate slots 128) 33 (key_steps n ++ head_steps a.configuration n h)) →
        ColumnOpened a (coded_by a payload cut) payload n (record { parked = Some (paused new); bits = None; index = 0; first = begin; last = end; indexes = indexes }) before after
    column_opened indexes h before after indexes_are read agrees says within has = record {
      head = h;
      codes = subst (λ b. CodesHead b a.table a.profile a.configuration n h) coded_is read.codes;
      within = subst (λ b. IsWithin a b (key_steps n ++ head_steps a.configuration n h)) bytes_are within;
      agrees = agrees;
      says = says;
      bytes_are = bytes_are;
      indexes = indexes_are;
      stands = stands_after (key_steps n ++ head_steps a.configuration n h) read.begun has;
      bits = refl;
      index = refl;
    }

    pub column_differs : Telling → (column : Column) (h : SliceHead) (before : Option Said) (s : Said) → column.parked ≡ Some (paused new) → HeadRead a n old new h → before ≡ Some s → said_by a.profile h ≢ s →
        IsWithin a bytes (key_steps n ++ head_steps a.configuration n h) →
        ColumnRefused a (coded_by a payload cut) n column before fault.InfoDiffers
    column_differs telling column h before s parked read was differs within = record {
      steps = key_steps n ++ head_steps a.configuration n h;
      refuses = inr (inr (inr (inl (
        h,
        s,
        subst (λ b. CodesHead b a.table a.profile a.configuration n h) coded_is read.codes,
        was,
        differs,
        refl,
        refl,
        subst (λ b. IsWithin a b (key_steps n ++ head_steps a.configuration n h)) bytes_are within,
      ))));
      told = ap told_by parked ∙ told_after telling (key_steps n ++ head_steps a.configuration n h) read.begun;
    }

    pub head_told : Telling → (h : SliceHead) → HeadRead a n old new h → told_by (Some (paused new)) ≡ tally_after a.table (key_steps n ++ head_steps a.configuration n h)
    head_told telling h read = told_after telling (key_steps n ++ head_steps a.configuration n h) read.begun

    pub column_overread : Telling → (column : Column) (h : SliceHead) (before : Option Said) → column.parked ≡ Some (paused new) → HeadRead a n old new h → IsOverread a bytes (key_steps n ++ head_steps a.configuration n h) →
        ColumnRefused a (coded_by a payload cut) n column before fault.Overread
    column_overread telling column h before parked read over = record {
      steps = key_steps n ++ head_steps a.configuration n h;
      refuses = inr (inr (inr (inr (
        h,
        subst (λ b. CodesHead b a.table a.profile a.configuration n h) coded_is read.codes,
        refl,
        refl,
        subst (λ b. IsOverread a b (key_steps n ++ head_steps a.configuration n h)) bytes_are over,
      ))));
      told = ap told_by parked ∙ head_told telling h read;
    }

    pub column_stopped : Telling → (column : Column) (before : Option Said) (f : CodecFault) → column.parked ≡ Some (paused new) → HeadRefused a n old new f → ColumnRefused a (coded_by a payload cut) n column before f
    column_stopped telling column before f parked refused = record {
      steps = refused.steps;
      refuses = elim refused.why [
        | inl key ↦ inr (inl (key.0, subst (λ b. RefusesKey b a.table n) coded_is key.1, key.2))
        | inr head ↦ inr (inr (inl (head.0, head.1, subst (λ b. RefusesHead b a.table a.profile a.configuration n head.0 head.1) coded_is head.2, head.3, head.4)))
      ];
      told = ap told_by parked ∙ told_after telling refused.steps refused.begun;
    }

  pub column_bad : (column : Column) (before : Option Said) → column.parked ≡ None → (Codes bytes [] → ⊥) → ColumnRefused a (coded_by a payload cut) n column before fault.BadStart
  column_bad column before parked none = record {
    steps = [];
    refuses = inl (refl, subst (λ b. Codes b [] → ⊥) bytes_are none, refl);
    told = ap told_by parked;
  }
