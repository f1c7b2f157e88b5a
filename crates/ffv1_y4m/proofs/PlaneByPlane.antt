-- Planes that are read one after the other.
use Rattle.std.proofs.Common.{◌≡◌, ℕ, ◌+◌, ◌<◌, ◌≤◌, nat_lt, Bool, true, false, cond, Option, List, [], ◌∷◌, ◌++◌, length, take, drop, get_or, map, flat_map, Ok, Err, inl, inr, refl, ap, ◌∙◌, sym, subst, append_assoc, append-nil, arith, add-one, drop-cons, length-append, length-take, take-append-drop}
use Rattle.std.proofs.Math.ListN.{set}
use Rattle.std.proofs.Math.Seq.{take-suc, take-append_seam, drop-append_seam}
use Rattle.std.proofs.lemmas.Bool.{lt-ltb, le-ltb}
use Rattle.std.proofs.lemmas.Grind.{common_steps, flat_map-append}
use Rattle.std.proofs.lemmas.List.{take_all, take_more_set, map-append}
use Rattle.std.specs.Io.KnownBytes.{Consumes}
use Rattle.ffv1_samples.specs.Samples.{are_in_depth}
use Rattle.ffv1_wire.specs.Failures.{one_more}
use Rattle.ffv1_wire.specs.Reads.{Fills, FillsBeginning}
use Rattle.ffv1_y4m.specs.declared.fault.Fault.{Fault}
use Rattle.ffv1_y4m.specs.declared.fault.Fault.TheVariants as fault
use Rattle.ffv1_y4m.specs.Pictures.{GrowsBeforePlane, plane_read, planes_read}
use Rattle.ffv1_y4m.specs.VideoHead.{AreInDepth}
use Rattle.ffv1_y4m.specs.Reads.{Decides, IsNone, Says, Stands, Wants}
use Rattle.ffv1_y4m.specs.Sequence.{Outcome, Reading, ◌>>=◌, ◌then◌, give, left}
use Rattle.ffv1_y4m.proofs.Sequences.{consumes_then, moved, shortens_then, stands_first}
use Rattle.ffv1_y4m.proofs.Texts.{plane_found, plane_only, planes_found}

-- the planes that were read, and those after them
abbrev pub onto : List (List ℕ) → Outcome (List (List ℕ)) → Outcome (List (List ℕ))
onto done (Ok p) = Ok (done ++ p.0, p.1)
onto done (Err f) = Err f

onto_none : (r : Outcome (List (List ℕ))) → r ≡ onto [] r
onto_none (Ok p) = refl
onto_none (Err f) = refl

onto_more : (plane : List ℕ) (done : List (List ℕ)) (r : Outcome (List (List ℕ))) → (onto done r >>= λ p. Ok (plane ∷ p.0, p.1)) ≡ onto (plane ∷ done) r
onto_more plane done (Ok p) = refl
onto_more plane done (Err f) = refl

onto_left : (done : List (List ℕ)) (r : Outcome (List (List ℕ))) → left (onto done r) ≡ left r
onto_left done (Ok p) = refl
onto_left done (Err f) = refl

-- planes, and what is read after them
planes_front : (depth : ℕ) (done : List (List ℕ)) (sizes behind : List ℕ) → AreInDepth depth done → planes_read depth (map (λ p. length p) done ++ sizes) (flat_map (λ p. p) done ++ behind) ≡ onto done (planes_read depth sizes behind)
planes_front depth [] sizes behind small = onto_none (planes_read depth sizes behind)
planes_front depth (p ∷ done) sizes behind small =
    rw (append_assoc p (flat_map (λ q. q) done) behind, plane_found depth p (flat_map (λ q. q) done ++ behind) small.0, planes_front depth done sizes behind small.1) (onto_more p done (planes_read depth sizes behind))

-- the first n planes are read, of these sizes
abbrev pub Partway : ℕ → List ℕ → Option (List ℕ) → Option (List ℕ) → ℕ → List (List ℕ) → Type 0
Partway depth sizes old new n planes = (map (λ plane. length plane) (take n planes) ≡ take n sizes) × Consumes old new (flat_map (λ plane. plane) (take n planes)) × AreInDepth depth (take n planes)

-- planes in depth, and one more
in_depth_more : (depth : ℕ) (planes : List (List ℕ)) (p : List ℕ) → AreInDepth depth planes → are_in_depth depth p ≡ true → AreInDepth depth (planes ++ p ∷ [])
in_depth_more depth [] p small new = (new, tt)
in_depth_more depth (q ∷ planes) p small new = (small.0, in_depth_more depth planes p small.1 new)

-- a plane of too few samples, or too large ones
short_left : (b c : Bool) (size : ℕ) (text : List ℕ) (n : ℕ) → length text ≤ size + n →
    length (left (cond {A = Outcome (List ℕ)} b (Err (fault.FrameTruncated, [])) (cond c (Ok (take size text, drop size text)) (Err (fault.SampleTooLarge, drop size text))))) ≤ n
short_left true c size text n h = omega arith
short_left false true size text n h = grind (arith, common_steps, h)
short_left false false size text n h = grind (arith, common_steps, h)

-- the answers of a read that is to fill a plane
pub plane_failed : (depth size before after : ℕ) (old new : Option (List ℕ)) (plane : List ℕ) → length plane ≡ size → FillsBeginning old new plane → after ≡ one_more before →
    Stands (plane_read depth size) IsNone (moved old new before after) (Err fault.Read)
plane_failed depth size before after old new plane long read same =
    let bytes : List ℕ = take read.0 plane in
    let few : length (take read.0 plane) < size = omega (arith, length-take read.0 plane, read.1, long) in
    record {
      bytes = bytes;
      taken = read.2;
      said = (same, λ b behind. short_left (nat_lt (length (bytes ++ b ∷ behind)) size) (are_in_depth depth (take size (bytes ++ b ∷ behind))) size (bytes ++ b ∷ behind) (length behind) (omega (arith, length-append bytes (b ∷ behind), few)));
    }

pub plane_short : (depth size n before after : ℕ) (old new : Option (List ℕ)) (plane : List ℕ) → length plane ≡ size → n < size → Fills old new n plane → after ≡ before →
    Stands (plane_read depth size) IsNone (moved old new before after) (Err fault.FrameTruncated)
plane_short depth size n before after old new plane long few read same =
    let short : nat_lt (length (take n plane)) size ≡ true = lt-ltb _ _ (omega (arith, length-take n plane, few)) in
    record { bytes = take n plane; taken = read.0; said = (same, inr (read.1 (omega (arith, few, long)), rw short refl)) }

pub plane_full : (depth size n before after : ℕ) (old new : Option (List ℕ)) (plane : List ℕ) → length plane ≡ size → size ≤ n → Fills old new n plane → after ≡ before → are_in_depth depth plane ≡ true →
    Stands (plane_read depth size) IsNone (moved old new before after) (Ok plane)
plane_full depth size n before after old new plane long all read same small =
    let whole : take n plane ≡ plane = take_all n plane (omega (arith, all, long)) in
    record { bytes = plane; taken = rw whole at read.0; said = (same, inl (λ behind. rw (← long) (plane_found depth plane behind small))) }

too_large : (depth : ℕ) (p rest : List ℕ) → are_in_depth depth p ≡ false → plane_read depth (length p) (p ++ rest) ≡ Err (fault.SampleTooLarge, rest)
too_large depth p rest large =
    let enough : nat_lt (length (p ++ rest)) (length p) ≡ false = le-ltb _ _ (grind (arith, common_steps)) in
    rw (enough, take-append_seam p rest, drop-append_seam p rest, large) refl

-- a plane that was read is what was taken
record IsTaken (depth size : ℕ) (bytes plane : List ℕ) : Type 0 where
  whole : bytes ≡ plane
  long : length plane ≡ size
  small : are_in_depth depth plane ≡ true

plane_local : (depth size : ℕ) (bytes plane : List ℕ) (new : Option (List ℕ)) → Decides (plane_read depth size) bytes new (Ok plane) → IsTaken depth size bytes plane
plane_local depth size bytes plane new (inl k) =
    let t = plane_only depth size (bytes ++ []) plane [] (k []) in
    record { whole = sym (append-nil bytes) ∙ (t.whole ∙ append-nil plane); long = t.long; small = t.small }
plane_local depth size bytes plane new (inr k) =
    let t = plane_only depth size bytes plane [] k.1 in
    record { whole = t.whole ∙ append-nil plane; long = t.long; small = t.small }

parts_at : (sizes : List ℕ) (n : ℕ) → n < length sizes → drop n sizes ≡ get_or sizes n 0 ∷ drop (n + 1) sizes
parts_at sizes n inside = rw add-one (drop-cons sizes n 0 inside)

pub partway_step : (depth : ℕ) (sizes : List ℕ) (old mid new : Option (List ℕ)) (n m k : ℕ) (planes : List (List ℕ)) (plane : List ℕ) → n < length sizes → length planes ≡ length sizes →
    Partway depth sizes old mid n planes → Stands (plane_read depth (get_or sizes n 0)) IsNone (moved mid new m k) (Ok plane) → Partway depth sizes old new (n + 1) (set planes n plane)
partway_step depth sizes old mid new n m k planes plane inside many h read =
    let was = plane_local depth (get_or sizes n 0) read.bytes plane new read.said.1 in
    let P : List ℕ → Type 0 = λ z. Consumes mid new z in
    let taken : Consumes mid new plane = subst P was.whole read.taken in
    let more : take (n + 1) (set planes n plane) ≡ take n planes ++ plane ∷ [] = take_more_set planes n plane (omega (arith, inside, many)) in
    let size : take (n + 1) sizes ≡ take n sizes ++ get_or sizes n 0 ∷ [] = rw (add-one n) (take-suc sizes n 0 inside) in
    let lengths : map (λ p. length p) (take n planes ++ plane ∷ []) ≡ take n sizes ++ get_or sizes n 0 ∷ [] = map-append (λ p. length p) (take n planes) (plane ∷ []) ∙ (rw (h.0, was.long) refl) in
    let flat : flat_map (λ p. p) (take n planes ++ plane ∷ []) ≡ flat_map (λ p. p) (take n planes) ++ plane = flat_map-append (λ p. p) (take n planes) (plane ∷ []) ∙ ap (λ z. flat_map (λ p. p) (take n planes) ++ z) (append-nil plane) in
    let Q : List ℕ → Type 0 = λ z. Consumes old new z in
    (rw (more, size) lengths, rw more (subst Q (sym flat) (consumes_then old mid new (flat_map (λ p. p) (take n planes)) plane h.1 taken)), rw more (in_depth_more depth (take n planes) plane h.2 was.small))

-- what is read after other bytes, in a turn that leaves faults as they are
says_behind : {X Y : Type 0} (r : Reading X) (q : Reading Y) (turn : Outcome X → Outcome Y) (g more : List ℕ → Type 0) (old mid new : Option (List ℕ)) (n m k : ℕ) (front bytes : List ℕ) (f : Fault) →
    m ≡ n → ((o : Outcome X) → left (turn o) ≡ left o) → ((e : Fault × List ℕ) → turn (Err e) ≡ Err e) → ((text : List ℕ) → q (front ++ text) ≡ turn (r text)) → (g bytes → more (front ++ bytes)) →
    Says r g bytes (moved mid new m k) (Err f) → Says q more (front ++ bytes) (moved old new n k) (Err f)
says_behind {X = X} r q turn g more old mid new n m k front bytes f same lefts errs turns to = by f
  where
    wants : Wants r bytes → Wants q (front ++ bytes)
    wants h = λ b behind. rw (append_assoc front bytes (b ∷ behind), turns (bytes ++ b ∷ behind), lefts (r (bytes ++ b ∷ behind))) (h b behind)

    decides : (e : Fault) → Decides r bytes new (Err e) → Decides q (front ++ bytes) new (Err e)
    decides e (inl h) = inl (λ behind. rw (append_assoc front bytes behind, turns (bytes ++ behind), h behind) (errs (e, behind)))
    decides e (inr h) = inr (h.0, rw (turns bytes, h.1) (errs (e, [])))

    by : (e : Fault) → Says r g bytes (moved mid new m k) (Err e) → Says q more (front ++ bytes) (moved old new n k) (Err e)
    by fault.Read s = (s.0 ∙ ap one_more same, wants s.1)
    by fault.OutOfMemory s = (s.0 ∙ same, to s.1)
    by fault.Write s = absurd s
    by f s = (s.0 ∙ same, decides f s.1)

planes_shorten : (depth : ℕ) (sizes text : List ℕ) → length (left (planes_read depth sizes text)) ≤ length text
planes_shorten depth [] text = omega arith
planes_shorten depth (size ∷ sizes) text =
    shortens_then (plane_read depth size) (λ plane. planes_read depth sizes then λ planes. give (plane ∷ planes)) text (short_left (nat_lt (length text) size) (are_in_depth depth (take size text)) size text (length text) (omega arith))
    (λ plane rest. shortens_then (planes_read depth sizes) (λ planes. give (plane ∷ planes)) rest (planes_shorten depth sizes rest) (λ planes last. omega arith))

pub planes_behind : (depth : ℕ) (sizes : List ℕ) (plane text : List ℕ) → length (left ((planes_read depth sizes then λ planes. give (plane ∷ planes)) text)) ≤ length text
planes_behind depth sizes plane text = shortens_then (planes_read depth sizes) (λ planes. give (plane ∷ planes)) text (planes_shorten depth sizes text) (λ planes last. omega arith)

pub planes_begun_shorten : (depth : ℕ) (sizes text : List ℕ) → length (left (planes_read depth sizes text)) ≤ length text
planes_begun_shorten depth sizes text = planes_shorten depth sizes text

turned : (depth : ℕ) (sizes : List ℕ) (n : ℕ) (planes : List (List ℕ)) → n < length sizes → map (λ plane. length plane) (take n planes) ≡ take n sizes → AreInDepth depth (take n planes) → (text : List ℕ) →
    planes_read depth sizes (flat_map (λ plane. plane) (take n planes) ++ text) ≡ onto (take n planes) ((plane_read depth (get_or sizes n 0) then λ plane. planes_read depth (drop (n + 1) sizes) then λ ps. give (plane ∷ ps)) text)
turned depth sizes n planes inside lengths small text =
    let whole : sizes ≡ map (λ plane. length plane) (take n planes) ++ (get_or sizes n 0 ∷ drop (n + 1) sizes) = sym (take-append-drop n sizes) ∙ (rw (lengths, parts_at sizes n inside) refl) in
    ap (λ z. planes_read depth z (flat_map (λ plane. plane) (take n planes) ++ text)) whole ∙ planes_front depth (take n planes) (get_or sizes n 0 ∷ drop (n + 1) sizes) text small

pub partway_stop : (depth : ℕ) (sizes : List ℕ) (old mid new : Option (List ℕ)) (n before between after : ℕ) (planes : List (List ℕ)) (f : Fault) → n < length sizes → length planes ≡ length sizes →
    Partway depth sizes old mid n planes → between ≡ before → Stands (plane_read depth (get_or sizes n 0)) IsNone (moved mid new between after) (Err f) → Stands (planes_read depth sizes) (GrowsBeforePlane depth sizes) (moved old new before after) (Err f)
partway_stop depth sizes old mid new n before between after planes f inside many h same read =
    let front : List ℕ = flat_map (λ plane. plane) (take n planes) in
    let first : Stands (plane_read depth (get_or sizes n 0) then λ plane. planes_read depth (drop (n + 1) sizes) then λ ps. give (plane ∷ ps)) IsNone (moved mid new between after) (Err f) =
    stands_first (plane_read depth (get_or sizes n 0)) (λ plane. planes_read depth (drop (n + 1) sizes) then λ ps. give (plane ∷ ps)) IsNone IsNone (moved mid new between after) f (λ plane text. planes_behind depth (drop (n + 1) sizes) plane text) (λ xs e. e) read in
    let long : length (take n planes) ≡ n = length-take n planes ∙ (omega (arith, inside, many)) in
    record {
      bytes = front ++ first.bytes;
      taken = consumes_then old mid new front first.bytes h.1 first.taken;
      said = says_behind _ (planes_read depth sizes) (onto (take n planes)) IsNone (GrowsBeforePlane depth sizes) old mid new before between after front first.bytes f same (onto_left (take n planes)) (λ e. refl) (turned depth sizes n planes inside h.0 h.2)
          (λ none. (take n planes, rw none (append-nil front), omega (arith, long, inside), rw long h.0, h.2)) first.said;
    }

pub partway_end : (depth : ℕ) (sizes : List ℕ) (old new : Option (List ℕ)) (n before after : ℕ) (planes : List (List ℕ)) → length sizes ≤ n → length planes ≡ length sizes → Partway depth sizes old new n planes → after ≡ before →
    Stands (planes_read depth sizes) (GrowsBeforePlane depth sizes) (moved old new before after) (Ok planes) × (map (λ plane. length plane) planes ≡ sizes) × AreInDepth depth planes
partway_end depth sizes old new n before after planes all many h same =
    let every : take n planes ≡ planes = take_all n planes (omega (arith, all, many)) in
    let lengths : map (λ plane. length plane) planes ≡ sizes = rw (every, take_all n sizes all) at h.0 in
    let small : AreInDepth depth planes = subst (AreInDepth depth) every h.2 in
    (record { bytes = flat_map (λ plane. plane) planes; taken = rw every at h.1; said = (same, inl (λ behind. rw (← lengths) (planes_found depth planes behind small))) }, lengths, small)
