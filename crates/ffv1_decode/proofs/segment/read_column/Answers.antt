-- Reads a segment of a plane, by the states of its slice.
use Rattle.std.proofs.Common.{rules, ◌≡◌, ◌≤◌, ◌+◌, ◌-◌, ◌*◌, ◌∙◌, ap, sym, subst, [], length}
use Rattle.std.proofs.Common.{slice_index, get_or, arith, refl, ℕ}
use Rattle.ffv1_plane.specs.Quantisation.{contexts_of}
use Rattle.ffv1_record.specs.Configuration.{Configuration}
use Rattle.ffv1_record.specs.Sets.{most_contexts}
use Rattle.ffv1_frame.specs.SliceList.{class_of, base_of, bits_of, set_at}
use Rattle.ffv1_decode.specs.declared.column.Column.{Column}
use Rattle.ffv1_decode.specs.Internal.LeftBits.{AreLeft}
use Rattle.ffv1_decode.specs.Internal.Stands.{IsParked}
use Rattle.ffv1_decode.specs.Internal.Tied.{IsOpen, bytes_in}
use Rattle.ffv1_frame.proofs.lemmas.picture.ByNumber.{set_is}
use Rattle.ffv1_frame.proofs.lemmas.Coders.{by_range, by_rice, not_both_coders, rice_bits_are}
use Rattle.ffv1_frame.proofs.lemmas.WrittenParts.{put_held, part_held, part_long, window_long}
use Rattle.ffv1_decode.proofs.lemmas.left_bits.BitsTied.{ContextLaws, line_outcome}
use Rattle.ffv1_decode.proofs.lemmas.segment.ClassRoom.{class_few, contexts_few, room, base_here}
use Rattle.ffv1_decode.proofs.lemmas.states.LeftStates.{all_of, of_all, part_all, put_all}
use Rattle.ffv1_decode.proofs.lemmas.segment.SegmentReads.{class_stands, all_read, all_refused}
use Rattle.ffv1_decode.proofs.segment.read_column.Given.{Over}
use Rattle.ffv1_decode.proofs.segment.read_column.Goals.{After-contexts, After-read_segment}
use Rattle.ffv1_decode.proofs.segment.read_column.Goals.{After-read_bits}
use Rattle.ffv1_decode.proofs.segment.read_column.Goals as goal

-- the set was got
module _ (g : Over) (c : After-contexts g) where
  sets_are : c.args.frame.now.checked.now.configuration.sets ≡ c.config-config.result.now.sets
  sets_are = ap (λ (z : Configuration). z.sets) c.config-config.ensures.value

  got : c.get-set.result.now ≡ get_or c.config-config.result.now.sets
      (slice_index c.args.column.now.indexes c.class_of-class.result) []
  got =
      let index = slice_index c.args.column.now.indexes c.class_of-class.result in
      c.get-set.ensures ∙ ap (λ z. get_or c.config-config.result.now.sets z [])
      (let same : c.from.result ≡ index = search rules in same)

  -- it is that of the class
  set_of_class : c.get-set.result.now ≡ set_at c.args.frame.now.checked.now.configuration.sets
      (slice_index c.args.column.now.indexes (class_of c.args.segment.now.plane))
  set_of_class =
      let sets = c.args.frame.now.checked.now.configuration.sets in
      let indexes = c.args.column.now.indexes in
      let index = slice_index indexes c.class_of-class.result in
      got ∙ ap (λ z. get_or z index []) (sym sets_are) ∙ sym (set_is sets index)
      ∙ ap (λ z. set_at sets (slice_index indexes z)) c.class_of-class.ensures.value

  -- the states of the class lie in those of the slice
  fits : c.class_of-class.result * c.args.frame.now.most * 32 + c.contexts.result * 32
      ≤ length c.args.states.now
  fits =
      let conf = c.args.frame.now.checked.now.configuration in
      let class = c.class_of-class.result in
      let fits = room conf c.args.segment.now.plane class c.args.frame.now.most
      (slice_index c.args.column.now.indexes class) c.config-config.result.now.sets
      c.get-set.result.now c.contexts.result c.requires.plane c.class_of-class.ensures.value
      c.requires.frame.most (c.requires.open.index class c.class_of-class.ensures.few) sets_are got
      c.contexts.ensures.value in
      omega (arith, fits, c.requires.rows)

  -- and begin where its contexts do
  at_is : c.class_of-class.result * c.args.frame.now.most * 32
      ≡ 32 * (class_of c.args.segment.now.plane
      * most_contexts c.args.frame.now.checked.now.configuration.sets)
  at_is =
      let first = ap (λ z. z * c.args.frame.now.most) c.class_of-class.ensures.value in
      let second = ap (λ z. class_of c.args.segment.now.plane * z) c.requires.frame.most in
      omega (arith, first, second)

  -- a state of a class has its bytes
  bytes_long : length (bytes_in c.args.frame.now.payload.now c.args.column.now)
      ≡ c.args.column.now.last - c.args.column.now.first
  bytes_long = window_long c.args.column.now.first
      (c.args.column.now.last - c.args.column.now.first) c.args.frame.now.payload.now
      (omega (arith, c.requires.open.rises, c.requires.open.inside))

-- the states that were read are as many as those of the class
states_long : (g : Over) (c : After-read_segment g) →
    c.class_of-class.result * c.args.frame.now.most * 32 + c.contexts.result * 32
    ≤ length c.args.states.now → length c.read_segment.new.states ≡ c.contexts.result * 32
states_long g c fits =
    let at = c.class_of-class.result * c.args.frame.now.most * 32 in
    let count = c.contexts.result * 32 in
    c.read_segment.auto.states ∙ part_long at count (at + count - at) c.args.states.now
    (omega arith) fits

bits_long : (g : Over) (c : After-read_bits g) →
    c.class_of-class.result * c.args.frame.now.most * 32 + c.contexts.result * 32
    ≤ length c.args.states.now → length c.read_bits.new.states ≡ c.contexts.result * 32
bits_long g c fits =
    let at = c.class_of-class.result * c.args.frame.now.most * 32 in
    let count = c.contexts.result * 32 in
    c.read_bits.auto.states ∙ part_long at count (at + count - at) c.args.states.now
    (omega arith) fits

pub slice_bounds-read_bits-end : goal.slice_bounds-read_bits-end
slice_bounds-read_bits-end g c = fits g (goal.at.slice_bounds-read_bits-end g c).After-contexts

pub read_bits-requires-clause-bits : goal.read_bits-requires-clause-bits
read_bits-requires-clause-bits g c =
    let conf = c.args.frame.now.checked.now.configuration in
    rw c.bits_of.ensures.value (rice_bits_are conf
    (c.accepted_configuration_has_sound_parts.ensures.rice conf
    c.args.frame.now.checked.now.table c.requires.frame.accepted) (sym c.if-is_rice.ensures))

pub read_bits-requires-clause-index : goal.read_bits-requires-clause-index
read_bits-requires-clause-index g c =
    omega (arith, c.index_at-column.ensures.most, c.requires.open.run)

pub read_bits-requires-clause-left : goal.read_bits-requires-clause-left
read_bits-requires-clause-left g c = λ n is.
    let long = bytes_long g (goal.at.read_bits-requires-clause-left g c).After-contexts in
    let few = c.requires.open.left n is in
    omega (arith, long, few)

pub read_bits-requires-clause-states : goal.read_bits-requires-clause-states
read_bits-requires-clause-states g c =
    let here = (goal.at.read_bits-requires-clause-states g c).After-contexts in
    let at = c.class_of-class.result * c.args.frame.now.most * 32 in
    let count = c.contexts.result * 32 in
    let wide : at + count - at ≡ count = omega arith in
    let fits = fits g here in
    let bits = bits_of c.args.frame.now.checked.now.configuration in
    let states = c.args.states.now in
    let start : at ≡ 32 * (c.class_of-class.result * c.args.frame.now.most) = omega arith in
    let all = part_all bits at count _ states start fits
    (c.requires.kept.rice (sym c.if-is_rice.ensures)) in
    rw (c.bits_of.ensures.value, wide) (of_all bits (contexts_of c.get-set.result.now) _
    (window_long at count states fits ∙ ap (λ z. z * 32) c.contexts.ensures.value) all)

pub returns-then-is_rice-clause-exact : goal.returns-then-is_rice-clause-exact
returns-then-is_rice-clause-exact g c = λ range.
    absurd (not_both_coders (sym c.if-is_rice.ensures) range)

pub returns-then-is_rice-clause-bits : goal.returns-then-is_rice-clause-bits
returns-then-is_rice-clause-bits g c = λ is coded n q bytes_are indexes parked kept rolls.
    let a = c.args.frame.now.checked.now in
    let conf = a.configuration in
    let p : ℕ = c.args.segment.now.plane in
    let y = c.args.segment.now.y in
    let samples = g.W.Word.samples in
    let two = c.args.above.now.two in
    let one = c.args.above.now.one in
    let row = samples c.read_bits.new.cur in
    let column = c.args.column.now in
    let states = c.args.states.now in
    let at = c.class_of-class.result * c.args.frame.now.most * 32 in
    let count = c.contexts.result * 32 in
    let wide : at + count - at ≡ count = omega arith in
    let here = goal.at.returns-then-is_rice-clause-bits g c in
    let fits = fits g here.After-contexts in
    let at_is = at_is g here.After-contexts in
    let count_is : count ≡ contexts_of c.get-set.result.now * 32 =
    ap (λ z. z * 32) c.contexts.ensures.value in
    let set = set_of_class g here.After-contexts
    ∙ ap (λ z. set_at conf.sets (slice_index z (class_of p))) indexes in
    let long = bits_long g here.After-read_bits fits in
    let laws : ContextLaws = record {
      contexts = c.a_row_needs_its_contexts_alone.ensures.contexts;
      bits = c.a_row_needs_its_contexts_alone.ensures.bits;
      after = c.a_row_needs_its_contexts_alone.ensures.after;
      codes = c.a_row_needs_its_contexts_alone.ensures.codes;
      refused = c.a_row_needs_its_contexts_alone.ensures.refused;
    } in
    let less = class_few conf.chroma_planes conf.extra_plane p c.requires.plane in
    let few = contexts_few conf q.head column.indexes indexes c.requires.open.index in
    line_outcome laws a coded n p y at count c.bits_of.result c.get-set.result.now q column
    c.read_bits.new.column states c.read_bits.new.states two one row c.is_a_bounded_set.ensures.set
    set c.bits_of.ensures.value at_is count_is less few fits long is kept rolls
    (bytes_in c.args.frame.now.payload.now column) bytes_are c.index_at-column.result
    (at + count - at) c.index_at-column.ensures.value wide c.read_bits.result
    (c.read_bits.ensures.exact a q.past q.bits
    (subst (λ b. IsParked b a.table column.parked q.past) (sym bytes_are) parked)
    (subst (λ b. AreLeft a b q.past q.bits column.bits) (sym bytes_are) kept.left))

pub returns-then-is_rice-clause-small : goal.returns-then-is_rice-clause-small
returns-then-is_rice-clause-small g c = rw (sym c.bits_of.ensures.value) c.read_bits.ensures.small

pub returns-then-is_rice-clause-open : goal.returns-then-is_rice-clause-open
returns-then-is_rice-clause-open g c =
    let long = bytes_long g (goal.at.returns-then-is_rice-clause-open g c).After-contexts in
    let conf = c.args.frame.now.checked.now.configuration in
    subst (IsOpen c.args.frame.now.payload.now conf.sets) (sym c.read_bits.ensures.same) (record {
      parked = c.requires.open.parked;
      rises = c.requires.open.rises;
      inside = c.requires.open.inside;
      index = c.requires.open.index;
      left = λ n is. let few = c.read_bits.ensures.left n is in omega (arith, long, few);
      run = c.read_bits.ensures.index;
    })

pub returns-then-is_rice-clause-same : goal.returns-then-is_rice-clause-same
returns-then-is_rice-clause-same g c =
    let column = c.args.column.now in
    let new = c.read_bits.new.column in
    let parked : new.parked ≡ column.parked =
    ap (λ (z : Column). z.parked) c.read_bits.ensures.same in
    c.read_bits.ensures.same ∙ ap (λ z. record column {
      parked = z;
      bits = new.bits;
      index = new.index;
    }) (sym parked)

pub returns-then-is_rice-clause-parked : goal.returns-then-is_rice-clause-parked
returns-then-is_rice-clause-parked g c = λ is.
    ap (λ (z : Column). z.parked) c.read_bits.ensures.same

pub returns-then-is_rice-clause-kept : goal.returns-then-is_rice-clause-kept
returns-then-is_rice-clause-kept g c =
    let here = goal.at.returns-then-is_rice-clause-kept g c in
    let conf = c.args.frame.now.checked.now.configuration in
    let at = c.class_of-class.result * c.args.frame.now.most * 32 in
    let count = c.contexts.result * 32 in
    let wide : at + count - at ≡ count = omega arith in
    let fits = fits g here.After-contexts in
    let long = bits_long g here.After-read_bits fits in
    let states = c.args.states.now in
    let is = sym c.if-is_rice.ensures in
    let start : at ≡ 32 * (c.class_of-class.result * c.args.frame.now.most) = omega arith in
    let thick : count ≡ 32 * c.contexts.result = omega arith in
    let read = rw c.bits_of.ensures.value at c.read_bits.ensures.states in
    let all = all_of (bits_of conf) _ c.read_bits.new.states
    (long ∙ ap (λ z. z * 32) c.contexts.ensures.value) read in
    rw wide (by_rice is (put_all states c.read_bits.new.states at count fits long (bits_of conf) _ _
    start thick (c.requires.kept.rice is) all))

pub slice_bounds-read_segment-end : goal.slice_bounds-read_segment-end
slice_bounds-read_segment-end g c = fits g (goal.at.slice_bounds-read_segment-end g
    c).After-contexts

pub read_segment-requires-clause-held : goal.read_segment-requires-clause-held
read_segment-requires-clause-held g c =
    let class = c.class_of-class.result in
    let at = class * c.args.frame.now.most * 32 in
    let count = c.contexts.result * 32 in
    let wide : at + count - at ≡ count = omega arith in
    let fits = fits g (goal.at.read_segment-requires-clause-held g c).After-contexts in
    rw (c.table.ensures.value, wide) (part_held c.args.frame.now.checked.now.table c.args.states.now
    at count fits (c.requires.kept.range (sym c.if-is_rice.ensures)))

pub returns-in-Ok-clause-exact : goal.returns-in-Ok-clause-exact
returns-in-Ok-clause-exact g c = λ range past samples y stands rolls.
    let conf = c.args.frame.now.checked.now.configuration in
    let class = c.class_of-class.result in
    let index = slice_index c.args.column.now.indexes class in
    let at = class * c.args.frame.now.most * 32 in
    let count = c.contexts.result * 32 in
    let wide : at + count - at ≡ count = omega arith in
    let here = goal.at.returns-in-Ok-clause-exact g c in
    let sets_are = sets_are g here.After-contexts in
    let got = got g here.After-contexts in
    let fits = fits g here.After-contexts in
    let t = c.args.frame.now.checked.now.table in
    let bytes = bytes_in c.args.frame.now.payload.now c.args.column.now in
    let p = c.args.segment.now.plane in
    let base : base_of conf p ≡ 33 + at =
    base_here conf p class c.args.frame.now.most index c.config-config.result.now.sets
    c.get-set.result.now c.contexts.result c.requires.plane c.class_of-class.ensures.value
    c.requires.frame.most
    (c.requires.open.index class c.class_of-class.ensures.few) sets_are got
    c.contexts.ensures.value in
    let set = set_of_class g here.After-contexts in
    let bits : c.bits_of.result ≡ bits_of conf = c.bits_of.ensures.value in
    let counts : count ≡ contexts_of c.get-set.result.now * 32 = ap (λ z. z * 32)
    c.contexts.ensures.value in
    let row = g.W.Word.samples c.read_segment.new.cur in
    let stands_here = class_stands bytes t (base_of conf p) c.get-set.result.now
    c.bits_of.result past samples (length row) y c.args.states.now at count
    c.args.column.now.parked base counts fits stands
    c.array_states_follow_the_history.ensures.part in
    let read = rw (c.table.ensures.value, wide) at c.in-Ok.ensures.exact in
    let read = read past (base_of conf p) samples y stands_here rolls in
    let long = states_long g here.After-read_segment fits in
    rw (sym set, sym bits, wide) (all_read bytes t (base_of conf p) c.get-set.result.now
    c.bits_of.result past samples (length row) y
    c.args.states.now at count c.args.column.now.parked
    base counts fits stands c.array_states_follow_the_history.ensures.put c.read_segment.new.parked
    c.read_segment.new.states row long read)

pub returns-in-Ok-clause-bits : goal.returns-in-Ok-clause-bits
returns-in-Ok-clause-bits g c = λ rice. absurd (not_both_coders rice (sym c.if-is_rice.ensures))

pub returns-in-Ok-clause-parked : goal.returns-in-Ok-clause-parked
returns-in-Ok-clause-parked g c = λ rice. absurd (not_both_coders rice (sym c.if-is_rice.ensures))

pub returns-in-Ok-clause-kept : goal.returns-in-Ok-clause-kept
returns-in-Ok-clause-kept g c =
    let class = c.class_of-class.result in
    let at = class * c.args.frame.now.most * 32 in
    let count = c.contexts.result * 32 in
    let wide : at + count - at ≡ count = omega arith in
    let here = goal.at.returns-in-Ok-clause-kept g c in
    let fits = fits g here.After-contexts in
    let long = states_long g here.After-read_segment fits in
    let is = sym c.if-is_rice.ensures in
    let held = rw c.table.ensures.value at c.in-Ok.ensures.held in
    rw wide (by_range is (put_held c.args.states.now c.read_segment.new.states at count fits long
    c.args.frame.now.checked.now.table (c.requires.kept.range is) held))

pub returns-in-Err-clause-exact : goal.returns-in-Err-clause-exact
returns-in-Err-clause-exact g c = λ range past samples y stands rolls.
    let conf = c.args.frame.now.checked.now.configuration in
    let class = c.class_of-class.result in
    let index = slice_index c.args.column.now.indexes class in
    let at = class * c.args.frame.now.most * 32 in
    let count = c.contexts.result * 32 in
    let wide : at + count - at ≡ count = omega arith in
    let here = goal.at.returns-in-Err-clause-exact g c in
    let sets_are = sets_are g here.After-contexts in
    let got = got g here.After-contexts in
    let fits = fits g here.After-contexts in
    let t = c.args.frame.now.checked.now.table in
    let bytes = bytes_in c.args.frame.now.payload.now c.args.column.now in
    let p = c.args.segment.now.plane in
    let base : base_of conf p ≡ 33 + at =
    base_here conf p class c.args.frame.now.most index c.config-config.result.now.sets
    c.get-set.result.now c.contexts.result c.requires.plane c.class_of-class.ensures.value
    c.requires.frame.most
    (c.requires.open.index class c.class_of-class.ensures.few) sets_are got
    c.contexts.ensures.value in
    let set = set_of_class g here.After-contexts in
    let bits : c.bits_of.result ≡ bits_of conf = c.bits_of.ensures.value in
    let counts : count ≡ contexts_of c.get-set.result.now * 32 = ap (λ z. z * 32)
    c.contexts.ensures.value in
    let row = g.W.Word.samples c.read_segment.new.cur in
    let stands_here = class_stands bytes t (base_of conf p) c.get-set.result.now
    c.bits_of.result past samples (length row) y c.args.states.now at count
    c.args.column.now.parked base counts fits stands
    c.array_states_follow_the_history.ensures.part in
    let read = rw (c.table.ensures.value, wide) at c.in-Err.ensures.exact in
    let read = read past (base_of conf p) samples y stands_here rolls in
    rw (sym set, sym bits) (
      all_refused bytes t (base_of conf p) (base_of conf p) 33
          c.get-set.result.now c.bits_of.result past samples (length row) y
          c.read_segment.new.parked _ _ read,
      refl,
    )

pub returns-in-Err-clause-bits : goal.returns-in-Err-clause-bits
returns-in-Err-clause-bits g c = λ rice. absurd (not_both_coders rice (sym c.if-is_rice.ensures))

pub returns-in-Err-clause-parked : goal.returns-in-Err-clause-parked
returns-in-Err-clause-parked g c = λ rice. absurd (not_both_coders rice (sym c.if-is_rice.ensures))

pub returns-in-Err-clause-kept : goal.returns-in-Err-clause-kept
returns-in-Err-clause-kept g c =
    let class = c.class_of-class.result in
    let at = class * c.args.frame.now.most * 32 in
    let count = c.contexts.result * 32 in
    let wide : at + count - at ≡ count = omega arith in
    let here = goal.at.returns-in-Err-clause-kept g c in
    let fits = fits g here.After-contexts in
    let long = states_long g here.After-read_segment fits in
    let is = sym c.if-is_rice.ensures in
    let held = rw c.table.ensures.value at c.in-Err.ensures.held in
    rw wide (by_range is (put_held c.args.states.now c.read_segment.new.states at count fits long
    c.args.frame.now.checked.now.table (c.requires.kept.range is) held))
