-- Samples of red, green and blue that are read block by block.
use Rattle.std.proofs.Common.{◌≡◌, ℕ, ◌+◌, ◌*◌, ◌≤◌, ◌&&◌, nat_lt, Bool, true, false, cond, Option, List, [], ◌∷◌, ◌++◌, length, get_or, take, drop, Ok, Err, refl, ap, ◌∙◌, sym, subst, arith, length-append, suc, inl, inr}
use Rattle.std.proofs.lemmas.Bool.{false≢true, ltb-false, true≢false}
use Rattle.std.proofs.lemmas.Grind.{common_steps}
use Rattle.ffv1_y4m.specs.declared.fault.Fault.{Fault}
use Rattle.ffv1_y4m.specs.declared.fault.Fault.TheVariants as fault
use Rattle.ffv1_y4m.specs.Ppm.{all_in_depth, colours_read, half_of, parted}
use Rattle.std.specs.Io.KnownBytes.{Consumes}
use Rattle.ffv1_wire.specs.Failures.{one_more}
use Rattle.ffv1_y4m.specs.Reads.{Gathers, IsNone, Stands, Stops, Wants}
use Rattle.ffv1_y4m.specs.Sequence.{Outcome, Reading, left}
use Rattle.ffv1_y4m.proofs.Sequences.{consumes_none, consumes_then, moved}
use Rattle.ffv1_y4m.specs.VideoHead.{AreInDepth}
use Rattle.ffv1_samples.specs.Samples.{are_in_depth}
use Rattle.ffv1_y4m.proofs.DeepThirds.{third-append, colours_large, colours_of, colours_short}

abbrev planes_in : Outcome (List (List ℕ)) → List (List ℕ)
planes_in (Ok p) = p.0
planes_in (Err f) = []

abbrev left_in : Outcome (List (List ℕ)) → List ℕ
left_in (Ok p) = p.1
left_in (Err f) = []

abbrev is_short : Outcome (List (List ℕ)) → Bool
is_short (Ok p) = false
is_short (Err f) = true

-- planes that are in depth
and_by : (a b : Bool) → (a && b) ≡ true → (a ≡ true) × (b ≡ true)
and_by false b h = absurd (false≢true h)
and_by true b h = (refl, h)

pub in_depth : (depth : ℕ) (planes : List (List ℕ)) → all_in_depth depth planes ≡ true → AreInDepth depth planes
in_depth depth [] h = tt
in_depth depth (p ∷ ps) h =
    let both = and_by (are_in_depth depth p) (all_in_depth depth ps) h in
    (both.0, in_depth depth ps both.1)

both_true : (a b : Bool) → a ≡ true → b ≡ true → (a && b) ≡ true
both_true a b p q = rw (p, q) refl

pub depth_in : (depth : ℕ) (planes : List (List ℕ)) → AreInDepth depth planes → all_in_depth depth planes ≡ true
depth_in depth [] h = refl
depth_in depth (p ∷ ps) h = both_true (are_in_depth depth p) (all_in_depth depth ps) h.0 (depth_in depth ps h.1)

-- what was read, by what was answered
pub record Told (depth k : ℕ) (rest : List ℕ) (planes : List (List ℕ)) (more : List ℕ) : Type 0 where
  pub enough : 3 * k ≤ length rest
  pub parts : parted depth (take (3 * k) rest) ≡ planes
  pub left : drop (3 * k) rest ≡ more
  pub small : AreInDepth depth planes

told_by : (b c : Bool) (depth k : ℕ) (rest : List ℕ) (planes : List (List ℕ)) (more : List ℕ) → nat_lt (length rest) (3 * k) ≡ b → all_in_depth depth (parted depth (take (3 * k) rest)) ≡ c →
    cond {A = Outcome (List (List ℕ))} b (Err (fault.FrameTruncated, [])) (cond c (Ok (parted depth (take (3 * k) rest), drop (3 * k) rest)) (Err (fault.SampleTooLarge, drop (3 * k) rest))) ≡ Ok (planes, more) → Told depth k rest planes more
told_by true c depth k rest planes more test small h = absurd (true≢false (ap is_short h))
told_by false false depth k rest planes more test small h = absurd (true≢false (ap is_short h))
told_by false true depth k rest planes more test small h =
    let parts : parted depth (take (3 * k) rest) ≡ planes = ap planes_in h in
    record { enough = ltb-false _ _ test; parts = parts; left = ap left_in h; small = subst (AreInDepth depth) parts (in_depth depth (parted depth (take (3 * k) rest)) small) }

pub told : (depth k : ℕ) (rest : List ℕ) (planes : List (List ℕ)) (more : List ℕ) → colours_read depth k rest ≡ Ok (planes, more) → Told depth k rest planes more
told depth k rest planes more h = told_by (nat_lt (length rest) (3 * k)) (all_in_depth depth (parted depth (take (3 * k) rest))) depth k rest planes more refl refl h

-- a block more
parted-append : (depth n : ℕ) (bs cs : List ℕ) (one two three more-one more-two more-three : List ℕ) → length bs ≡ 3 * n → half_of depth n ≡ 0 → one ∷ two ∷ three ∷ [] ≡ parted depth bs → more-one ∷ more-two ∷ more-three ∷ [] ≡ parted depth cs →
    (one ++ more-one) ∷ (two ++ more-two) ∷ (three ++ more-three) ∷ [] ≡ parted depth (bs ++ cs)
parted-append depth n bs cs one two three more-one more-two more-three long whole h k =
    rw (third-append depth n 0 bs cs long whole (omega arith), third-append depth n 1 bs cs long whole (omega arith), third-append depth n 2 bs cs long whole (omega arith))
    (rw (ap (λ l. get_or l 0 []) h, ap (λ l. get_or l 1 []) h, ap (λ l. get_or l 2 []) h, ap (λ l. get_or l 0 []) k, ap (λ l. get_or l 1 []) k, ap (λ l. get_or l 2 []) k) refl)

-- planes of n bytes are read
abbrev pub Colours : ℕ → Option (List ℕ) → Option (List ℕ) → ℕ → List (List ℕ) → Type 0
Colours depth old new n planes = (bs : List ℕ) × (length bs ≡ 3 * n) × Consumes old new bs × (planes ≡ parted depth bs)

no_third : (b : Bool) → cond {A = List ℕ} b [] [] ≡ []
no_third true = refl
no_third false = refl

pub colours_more : (depth : ℕ) (old mid new : Option (List ℕ)) (n k size : ℕ) (one two three more-one more-two more-three : List ℕ) → size ≡ 3 * k → half_of depth n ≡ 0 →
    Colours depth old mid n (one ∷ two ∷ three ∷ []) → (bytes : List ℕ) → Consumes mid new bytes → length bytes ≡ size → more-one ∷ more-two ∷ more-three ∷ [] ≡ parted depth bytes →
    Colours depth old new (n + k) ((one ++ more-one) ∷ (two ++ more-two) ∷ (three ++ more-three) ∷ [])
colours_more depth old mid new n k size one two three more-one more-two more-three is whole h bytes taken sized same =
    let long : length (h.0 ++ bytes) ≡ 3 * (n + k) = omega (arith, length-append h.0 bytes, h.1, sized, is) in
    (h.0 ++ bytes, long, consumes_then old mid new h.0 bytes h.2 taken, parted-append depth n h.0 bytes one two three more-one more-two more-three h.1 whole h.3 same)

-- a block stops, and so do all
pub colours_stop : (depth : ℕ) (old mid new : Option (List ℕ)) (n size all before between after : ℕ) (planes : List (List ℕ)) (f : Fault) → 3 * n + size ≤ all → Colours depth old mid n planes → between ≡ before →
    Stops size (moved mid new between after) f → Stops all (moved old new before after) f
colours_stop depth old mid new n size all before between after planes fault.Read within h same g =
    (g.0 ∙ ap one_more same, (h.0 ++ g.1.0, consumes_then old mid new h.0 g.1.0 h.2 g.1.1, omega (arith, length-append h.0 g.1.0, h.1, g.1.2, within)))
colours_stop depth old mid new n size all before between after planes fault.FrameTruncated within h same g =
    (g.0 ∙ same, (h.0 ++ g.1.0, consumes_then old mid new h.0 g.1.0 h.2 g.1.1, omega (arith, length-append h.0 g.1.0, h.1, g.1.2, within)), g.2)
colours_stop depth old mid new n size all before between after planes f within h same g = absurd g

pub colours_end : {Y : Type 0} (are : Y → List ℕ → Type 0) (depth : ℕ) (old new : Option (List ℕ)) (n size before after : ℕ) (planes : List (List ℕ)) (y : Y) → size ≡ 3 * n → Colours depth old new n planes → after ≡ before → ((bytes : List ℕ) → planes ≡ parted depth bytes → are y bytes) →
    Gathers size are (moved old new before after) (Ok y)
colours_end are depth old new n size before after planes y is h same to = (same, (h.0, h.2, (h.1 ∙ sym is, to h.0 h.3)))

-- an image of too few samples, or too large ones
short_left : (b c : Bool) (planes : List (List ℕ)) (size : ℕ) (text : List ℕ) (n : ℕ) → length text ≤ size + n →
    length (left (cond {A = Outcome (List (List ℕ))} b (Err (fault.FrameTruncated, [])) (cond c (Ok (planes, drop size text)) (Err (fault.SampleTooLarge, drop size text))))) ≤ n
short_left true c planes size text n h = omega arith
short_left false true planes size text n h = grind (arith, common_steps, h)
short_left false false planes size text n h = grind (arith, common_steps, h)

colours_left : (depth n : ℕ) (text : List ℕ) (k : ℕ) → length text ≤ 3 * n + k → length (left (colours_read depth n text)) ≤ k
colours_left depth n text k h = short_left (nat_lt (length text) (3 * n)) (all_in_depth depth (parted depth (take (3 * n) text))) (parted depth (take (3 * n) text)) (3 * n) text k h

pub colours_wants : (depth n : ℕ) (bytes : List ℕ) → suc (length bytes) ≤ 3 * n → Wants (colours_read depth n) bytes
colours_wants depth n bytes few = λ b behind. colours_left depth n (bytes ++ b ∷ behind) (length behind) (omega (arith, length-append bytes (b ∷ behind), few))

pub colours_shorten : (depth n : ℕ) (text : List ℕ) → length (left (colours_read depth n text)) ≤ length text
colours_shorten depth n text = colours_left depth n text (length text) (omega arith)

pub stands_colours : (depth n size before after : ℕ) (old new : Option (List ℕ)) (f : Fault) → size ≡ 3 * n → Stops size (moved old new before after) f → Stands (colours_read depth n) IsNone (moved old new before after) (Err f)
stands_colours depth n size before after old new fault.Read is g = record { bytes = g.1.0; taken = g.1.1; said = (g.0, colours_wants depth n g.1.0 (omega (arith, g.1.2, is))) }
stands_colours depth n size before after old new fault.FrameTruncated is g = record { bytes = g.1.0; taken = g.1.1; said = (g.0, inr (g.2, colours_short depth n g.1.0 (omega (arith, g.1.2, is)))) }
stands_colours depth n size before after old new f is g = absurd g

pub stands_parted : (depth n size before after : ℕ) (old new : Option (List ℕ)) (all : List (List ℕ)) (taken : List ℕ) → size ≡ 3 * n → after ≡ before → Consumes old new taken → length taken ≡ size → all ≡ parted depth taken → all_in_depth depth all ≡ true →
    Stands (colours_read depth n) IsNone (moved old new before after) (Ok all)
stands_parted depth n size before after old new all taken is same h long parts small =
    record { bytes = taken; taken = h; said = (same, inl (λ behind. rw parts (colours_of depth n taken behind (long ∙ is) (rw parts at small)))) }

pub stands_large : (depth n size before after : ℕ) (old new : Option (List ℕ)) (all : List (List ℕ)) (taken : List ℕ) → size ≡ 3 * n → after ≡ before → Consumes old new taken → length taken ≡ size → all ≡ parted depth taken → all_in_depth depth all ≡ false →
    Stands (colours_read depth n) IsNone (moved old new before after) (Err fault.SampleTooLarge)
stands_large depth n size before after old new all taken is same h long parts large =
    record { bytes = taken; taken = h; said = (same, inl (λ behind. colours_large depth n taken behind (long ∙ is) (rw parts at large))) }

-- a growth before any byte was refused
pub stands_full : {X : Type 0} (r : Reading X) (old : Option (List ℕ)) (n : ℕ) → Stands r IsNone (moved old old n n) (Err fault.OutOfMemory)
stands_full r old n = record { bytes = []; taken = consumes_none old; said = (refl, refl) }
