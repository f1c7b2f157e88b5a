-- What the decisions of all slices cost, from what those of each do.
use Rattle.std.proofs.Common.{◌≡◌, refl, ℕ, suc, ◌+◌, ◌-◌, ◌*◌, ◌^◌, ◌<◌, ◌≤◌, Bool, true, false, if◌then◌else◌, nat_lt, List, [], ◌∷◌, ◌++◌, length, ap, sym, subst, ◌∙◌, arith, inl, inr, Result, Ok, Err, slice_index}
use Rattle.std.specs.List.{All, sum_by, range_with_len}
use Rattle.std.proofs.lemmas.List.Elements.{All-nil, All-cons}
use Rattle.std.proofs.lemmas.Nat.{pow-add}
use Rattle.std.proofs.Math.Nat.{div-le_self, mul-le-mul_left, pow-succ', pow-zero}
use Rattle.ffv1_range.specs.declared.tally.Tally.{Tally}
use Rattle.ffv1_range.specs.Interval.{Decision, Interval, interval_of, narrow, narrowed, part, renormalised, start}
use Rattle.ffv1_range.specs.Table.{Table, IsTable}
use Rattle.ffv1_range.specs.Symbols.{Step}
use Rattle.ffv1_range.specs.History.{decisions_after}
use Rattle.ffv1_range.specs.Counts.{ones_in, zeros_in, saturated}
use Rattle.ffv1_range.specs.Weight.{AreHeldBy, one_if, ones, weight, zeros}
use Rattle.ffv1_range.proofs.Counting.{steps_counted}
use Rattle.ffv1_range.proofs.FewDecisions.{after_held}
use Rattle.ffv1_frame.specs.Decoding.{Slice, State}
use Rattle.ffv1_frame.specs.Answer.{HasDecided, decisions_in, renormalisations_in, slices_in, tally_of}
use Rattle.ffv1_wire.specs.Runs.{LineStep}
use Rattle.ffv1_record.specs.Accepted.{Accepted, edge}
use Rattle.ffv1_record.specs.Configuration.{Configuration}
use Rattle.ffv1_slice.specs.Cutting.{coded_of}
use Rattle.ffv1_slice.specs.Footer.{foot_length}
use Rattle.ffv1_slice.specs.Grid.{Side, across, down, coded_of as length_in, division_of, planes_in}
use Rattle.ffv1_slice.specs.declared.cutting.CutFault.{CutFault}
use Rattle.ffv1_frame.specs.declared.fault.FrameFault.{FrameFault}
use Rattle.ffv1_frame.specs.SliceList.{Said}
use Rattle.ffv1_frame.specs.Picture.{plane_count}
use Rattle.ffv1_frame.specs.Bounds.{most_decisions, coded_samples}
use Rattle.ffv1_frame.specs.Decoding as decoding
use Rattle.ffv1_frame.specs.Decoding.{Decodes, Offers}
use Rattle.ffv1_frame.specs.Answer.{AnswersCut}
use Rattle.ffv1_frame.specs.Cost.{Costs, HasCost, weight_in}
use Rattle.ffv1_frame.proofs.lemmas.laws.answer.FewByBytes.{reduced_less}
use Rattle.ffv1_frame.proofs.lemmas.Totals.{total, total_each, total_is, total_most}

-- the decisions of some steps are as many ones and zeros
ones_same : (t : Table) (past ss : List Step) → ones (decisions_after t past ss) ≡ ones_in ss
ones_same t past [] = refl
ones_same t past (s ∷ ss) = ap (λ n. one_if s.bit + n) (ones_same t (past ++ (s ∷ [])) ss)

zeros_same : (t : Table) (past ss : List Step) → zeros (decisions_after t past ss) ≡ zeros_in ss
zeros_same t past [] = refl
zeros_same t past (s ∷ ss) = ap (λ n. (1 - one_if s.bit) + n) (zeros_same t (past ++ (s ∷ [])) ss)

after_many : (t : Table) (past ss : List Step) → length (decisions_after t past ss) ≡ length ss
after_many t past [] = refl
after_many t past (s ∷ ss) = ap suc (after_many t (past ++ (s ∷ [])) ss)

-- a decision renormalises once at most
part_keeps : (i : Interval) (state : ℕ) (bit : Bool) → (part i state bit).count ≡ i.count
part_keeps i state true = refl
part_keeps i state false = refl

by_width : (i : Interval) (b : Bool) → nat_lt i.width 256 ≡ b → (if b then record { low = 256 * i.low; width = 256 * i.width; count = suc i.count } else i).count ≤ i.count + 1
by_width i true e = omega arith
by_width i false e = omega arith

one_more : (i : Interval) → (renormalised i).count ≤ i.count + 1
one_more i = by_width i (nat_lt i.width 256) refl

once_each : (i : Interval) (ds : List Decision) → (narrowed i ds).count ≤ i.count + length ds
once_each i [] = omega arith
once_each i (d ∷ ds) =
    let rest = once_each (narrow i d.state d.bit) ds in
    let here = one_more (part i d.state d.bit) in
    let same = part_keeps i d.state d.bit in
    omega (arith, rest, here, same)

few_renormalisations : (t : Table) (q : Slice) → renormalisations_in t q ≤ length q.past
few_renormalisations t q =
    let all = once_each start (decisions_after t [] q.past) in
    let many = after_many t [] q.past in
    omega (arith, all, many)

-- products of bounds
both : (a b c d : ℕ) → a ≤ b → c ≤ d → a * c ≤ b * d
both a b c d h k =
    let one = mul-le-mul_left {m = c} {n = d} a k in
    let two = mul-le-mul_left {m = a} {n = b} d h in
    omega (arith, one, two)

both_most : (f g w x y F G W X Y : ℕ) → f * g * w ≤ x * y → F * G * W ≤ X * Y → (f * F) * (g * G) * (w * W) ≤ (x * X) * (y * Y)
both_most f g w x y F G W X Y h k =
    let all = both (f * g * w) (x * y) (F * G * W) (X * Y) h k in
    omega (arith, all)

both_least : (x y g z w X Y E G Z W : ℕ) → x * y ≤ 255 * g * z * w → X * Y ≤ E * G * Z * W → (x * X) * (y * Y) ≤ (255 * E) * (g * G) * (z * Z) * (w * W)
both_least x y g z w X Y E G Z W h k =
    let all = both (x * y) (255 * g * z * w) (X * Y) (E * G * Z * W) h k in
    omega (arith, all)

abbrev ones_of : List Slice → ℕ
ones_of qs = total (λ (q : Slice). ones_in q.past) qs

abbrev zeros_of : List Slice → ℕ
zeros_of qs = total (λ (q : Slice). zeros_in q.past) qs

total_less : {X : Type 0} (f g : X → ℕ) (xs : List X) → ((x : X) → f x ≤ g x) → total f xs ≤ total g xs
total_less f g [] less = omega arith
total_less f g (x ∷ xs) less = let here = less x in let rest = total_less f g xs less in omega (arith, here, rest)

abbrev tally_with : ℕ → ℕ → ℕ → Tally
tally_with u z r = record { ones = u; zeros = z; renormalisations = r }

saturated_small : (n : ℕ) → n < 2 ^ 64 → saturated n ≡ n
saturated_small n less = omega (arith, less)

module _ (t : Table) (is : IsTable t.floor t.one)
    (most : (ds : List Decision) → AreHeldBy t.floor ds → t.floor ^ ones ds * 256 ^ ((interval_of ds).count - 2) * weight ds ≤ (256 * (t.floor + 1)) ^ ones ds * 256 ^ zeros ds)
    (least : (ds : List Decision) → AreHeldBy t.floor ds → 256 ^ ones ds * (256 * t.floor) ^ zeros ds ≤ 255 * 256 ^ ((interval_of ds).count - 2) * (t.floor + 1) ^ zeros ds * weight ds) where
  abbrev renormalisations_of : List Slice → ℕ
  renormalisations_of qs = total (renormalisations_in t) qs

  pub all_held : (qs : List Slice) → All (λ (q : Slice). AreHeldBy t.floor (decisions_after t [] q.past)) qs
  all_held [] = All-nil (λ (q : Slice). AreHeldBy t.floor (decisions_after t [] q.past))
  all_held (q ∷ qs) = All-cons (λ (q : Slice). AreHeldBy t.floor (decisions_after t [] q.past)) q qs (after_held t is [] q.past) (all_held qs)

  one_most : (q : Slice) → t.floor ^ ones_in q.past * 256 ^ renormalisations_in t q * weight (decisions_after t [] q.past) ≤ (256 * (t.floor + 1)) ^ ones_in q.past * 256 ^ zeros_in q.past
  one_most q = rw (← ones_same t [] q.past, ← zeros_same t [] q.past) (most (decisions_after t [] q.past) (after_held t is [] q.past))

  one_least : (q : Slice) → 256 ^ ones_in q.past * (256 * t.floor) ^ zeros_in q.past ≤ 255 * 256 ^ renormalisations_in t q * (t.floor + 1) ^ zeros_in q.past * weight (decisions_after t [] q.past)
  one_least q = rw (← ones_same t [] q.past, ← zeros_same t [] q.past) (least (decisions_after t [] q.past) (after_held t is [] q.past))

  all_most : (qs : List Slice) → t.floor ^ ones_of qs * 256 ^ renormalisations_of qs * weight_in t qs ≤ (256 * (t.floor + 1)) ^ ones_of qs * 256 ^ zeros_of qs
  all_most [] = rw (pow-zero t.floor, pow-zero 256, pow-zero (256 * (t.floor + 1))) (omega arith)
  all_most (q ∷ qs) =
      rw (pow-add t.floor (ones_in q.past) (ones_of qs), pow-add 256 (renormalisations_in t q) (renormalisations_of qs), pow-add (256 * (t.floor + 1)) (ones_in q.past) (ones_of qs), pow-add 256 (zeros_in q.past) (zeros_of qs))
      (both_most _ _ _ _ _ _ _ _ _ _ (one_most q) (all_most qs))

  all_least : (qs : List Slice) → 256 ^ ones_of qs * (256 * t.floor) ^ zeros_of qs ≤ 255 ^ length qs * 256 ^ renormalisations_of qs * (t.floor + 1) ^ zeros_of qs * weight_in t qs
  all_least [] = rw (pow-zero 256, pow-zero (256 * t.floor), pow-zero 255, pow-zero (t.floor + 1)) (omega arith)
  all_least (q ∷ qs) =
      let slices : 255 ^ length (q ∷ qs) ≡ 255 * 255 ^ length qs = pow-succ' 255 (length qs) in
      rw (slices, pow-add 256 (ones_in q.past) (ones_of qs), pow-add (256 * t.floor) (zeros_in q.past) (zeros_of qs), pow-add 256 (renormalisations_in t q) (renormalisations_of qs), pow-add (t.floor + 1) (zeros_in q.past) (zeros_of qs))
      (both_least _ _ _ _ _ _ _ _ _ _ _ (one_least q) (all_least qs))

  module _ (s : State) (few : decisions_in s < 2 ^ 64) where
    many : total (λ (q : Slice). length q.past) (slices_in s) < 2 ^ 64
    many = rw (total_is (λ (q : Slice). length q.past) (slices_in s)) few

    few_ones : ones_of (slices_in s) < 2 ^ 64
    few_ones =
        let less = total_less (λ (q : Slice). ones_in q.past) (λ (q : Slice). length q.past) (slices_in s) (λ q. let all = steps_counted q.past in omega (arith, all)) in
        let all = many in
        omega (arith, less, all)

    few_zeros : zeros_of (slices_in s) < 2 ^ 64
    few_zeros =
        let less = total_less (λ (q : Slice). zeros_in q.past) (λ (q : Slice). length q.past) (slices_in s) (λ q. let all = steps_counted q.past in omega (arith, all)) in
        let all = many in
        omega (arith, less, all)

    few_bytes : renormalisations_of (slices_in s) < 2 ^ 64
    few_bytes =
        let less = total_less (renormalisations_in t) (λ (q : Slice). length q.past) (slices_in s) (few_renormalisations t) in
        let all = many in
        omega (arith, less, all)

    shown : (f : Slice → ℕ) → total f (slices_in s) < 2 ^ 64 → saturated (sum_by f (slices_in s)) ≡ total f (slices_in s)
    shown f less = ap saturated (sym (total_is f (slices_in s))) ∙ saturated_small (total f (slices_in s)) less

    tally_shown : tally_of t s ≡ tally_with (ones_of (slices_in s)) (zeros_of (slices_in s)) (renormalisations_of (slices_in s))
    tally_shown =
        let z = saturated (sum_by (λ (q : Slice). zeros_in q.past) (slices_in s)) in
        let r = saturated (sum_by (renormalisations_in t) (slices_in s)) in
        ap (λ n. tally_with n z r) (shown (λ (q : Slice). ones_in q.past) few_ones)
        ∙ ap (λ n. tally_with (ones_of (slices_in s)) n r) (shown (λ (q : Slice). zeros_in q.past) few_zeros)
        ∙ ap (λ n. tally_with (ones_of (slices_in s)) (zeros_of (slices_in s)) n) (shown (renormalisations_in t) few_bytes)

    -- the counts that are shown are those of all slices
    pub costs : (tally : Tally) → HasDecided t s tally → Costs t (slices_in s) tally
    costs tally decided =
        subst (Costs t (slices_in s)) (sym (decided.by_kind ∙ tally_shown))
        (record { held = all_held (slices_in s); most = all_most (slices_in s); least = all_least (slices_in s) })

-- decoding makes fewer than 2^64 decisions
four_planes : (chroma extra : Bool) → planes_in chroma extra ≤ 4
four_planes chroma true = omega arith
four_planes true false = omega arith
four_planes false false = omega arith

-- no cell is wider than its last edge says, and there are few
coded_few : (s : Side) (m n k : ℕ) → s.size ≤ m → suc k ≤ n → length_in s k ≤ n * m
coded_few s m n k size inside =
    let less = reduced_less s.log2 (edge (suc k) s.size s.count - edge k s.size s.count) in
    let end = div-le_self (suc k * s.size) s.count in
    let most = both (suc k) n s.size m inside size in
    omega (arith, less, end, most)

side_few : (s : Side) (m n : ℕ) → s.size ≤ m → s.count ≤ n → sum_by (length_in s) (range_with_len 0 s.count) ≤ n * m * n
side_few s m n size count =
    let each = total_most (length_in s) (λ k. n * m) 0 s.count (λ k least most. coded_few s m n k size (omega (arith, most, count))) in
    let all = total_each (n * m) 0 s.count in
    let is = total_is (length_in s) (range_with_len 0 s.count) in
    let many = mul-le-mul_left {m = s.count} {n = n} (n * m) count in
    omega (arith, each, all, is, many)

planes_small : (c : Configuration) (m n : ℕ) → c.width ≤ m → c.height ≤ m → c.columns ≤ n → c.rows ≤ n → coded_samples c ≤ (n * m * n) * (n * m * n) * 4
planes_small c m n wide high columns rows =
    let most : ℕ = n * m * n in
    let size : ℕ → ℕ = λ p. sum_by (length_in (across (division_of c) p)) (range_with_len 0 c.columns) * sum_by (length_in (down (division_of c) p)) (range_with_len 0 c.rows) in
    let each = total_most size (λ p. most * most) 0 (plane_count c) (λ p least inside. both _ most _ most (side_few (across (division_of c) p) m n wide columns) (side_few (down (division_of c) p) m n high rows)) in
    let all = total_each (most * most) 0 (plane_count c) in
    let sum = total_is size (range_with_len 0 (plane_count c)) in
    let planes = mul-le-mul_left {m = plane_count c} {n = 4} (most * most) (four_planes c.chroma_planes c.extra_plane) in
    omega (arith, each, all, sum, planes)

extra_small : (extra : Bool) → 559 + (if extra then 62 else 0) ≤ 621
extra_small true = omega arith
extra_small false = omega arith

pub most_small : (c : Configuration) → c.width ≤ 8192 → c.height ≤ 8192 → c.columns ≤ 32 → c.rows ≤ 32 → most_decisions c < 2 ^ 64
most_small c wide high across down =
    let samples = planes_small c 8192 32 wide high across down in
    let grid = both c.columns 32 c.rows 32 across down in
    let heads = both (559 + (if c.extra_plane then 62 else 0)) 621 (c.columns * c.rows) (32 * 32) (extra_small c.extra_plane) grid in
    omega (arith, samples, heads)

pub has_cost : {S : Type 0} (takes refuses : LineStep S) (a : Accepted) (payload : List ℕ) (old new : S) (tally : Tally) (most : ℕ) (result : Result Said FrameFault) (cut : Result (List ℕ) CutFault) →
    ((coded : ℕ → List ℕ) (s : State) → Decodes a coded s → decisions_in s ≤ most) →
    ((coded : ℕ → List ℕ) (f : FrameFault) (s : State) → decoding.Refuses a coded f s → decisions_in s ≤ most) →
    ((coded : ℕ → List ℕ) (r i p y : ℕ) (s : State) → Offers a coded r i p y s → decisions_in s ≤ most) →
    ((s : State) → decisions_in s ≤ most → HasDecided a.table s tally → Costs a.table (slices_in s) tally) →
    AnswersCut takes refuses a payload old new tally result cut → HasCost a tally
has_cost takes refuses a payload old new tally most result (Err f) end fault offered cost answer = inl answer.1
has_cost takes refuses a payload old new tally most (Ok said) (Ok os) end fault offered cost answer =
    inr (answer.state, answer.decided, cost answer.state (end (coded_of payload (foot_length a.configuration.ec) (slice_index os)) answer.state answer.decodes) answer.decided)
has_cost takes refuses a payload old new tally most (Err f) (Ok os) end fault offered cost answer =
    let coded = coded_of payload (foot_length a.configuration.ec) (slice_index os) in
    elim answer [
      | inl faults ↦ inr (faults.state, faults.decided, cost faults.state (fault coded f faults.state faults.refused) faults.decided)
      | inr sink ↦ inr (sink.state, sink.decided, cost sink.state (offered coded sink.row sink.number sink.plane sink.line sink.state sink.offers) sink.decided)
    ]
