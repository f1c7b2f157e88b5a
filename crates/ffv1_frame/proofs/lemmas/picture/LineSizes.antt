-- The lines that were made are as long as their planes are wide, and hold bytes of samples of the
-- depth.
use Rattle.std.proofs.Common.{◌≡◌, refl, ℕ, zero, suc, ◌+◌, ◌*◌, ◌^◌, ◌<◌, ◌≤◌, Bool, true, false, if◌then◌else◌, List, [], ◌∷◌, ◌++◌, map, length, get_or, inl, inr, ap, sym, subst, ◌∙◌, arith, length-append, get_or-append-add, append_assoc}
use Rattle.std.specs.List.{flat_map, range_with_len}
use Rattle.std.proofs.lemmas.Bool.{cases_lt}
use Rattle.std.proofs.lemmas.Nat.{pow_pos}
use Rattle.std.proofs.lemmas.List.{length-map, get_or_past}
use Rattle.std.proofs.lemmas.List.FromFn.{length-range_with_len}
use Rattle.ffv1_wire.specs.Runs as wire
use Rattle.ffv1_samples.specs.Samples.{AreBelow, bytes_of, sample_bytes, samples_of}
use Rattle.ffv1_samples.proofs.Depths.{length_bytes, samples_back}
use Rattle.ffv1_record.specs.Configuration.{Configuration, is_rct}
use Rattle.ffv1_slice.specs.Grid.{across, division_of}
use Rattle.ffv1_frame.specs.Sides.{Tiles}
use Rattle.ffv1_frame.specs.Picture.{plane, plane_count, plane_width, line_bytes}
use Rattle.ffv1_frame.specs.SliceList.{Line, bits_of}
use Rattle.ffv1_frame.specs.Order.{numbered, new_planes}
use Rattle.ffv1_frame.specs.Decoding.{Slice, FinishesBy, width_in, own_row, top_of}
use Rattle.ffv1_frame.proofs.lemmas.laws.decoding.Machines.{each_left, each_right, Each, each_append}
use Rattle.ffv1_frame.proofs.lemmas.laws.decoding.OneColour.{AreFew}
use Rattle.ffv1_frame.proofs.lemmas.laws.decoding.NewPlanes.{each_new}
use Rattle.ffv1_frame.proofs.lemmas.laws.decoding.Groups.{Group, IsGroup, group_lines}
use Rattle.ffv1_frame.proofs.lemmas.laws.decoding.LinesRead.{lines_at}
use Rattle.ffv1_frame.proofs.lemmas.laws.decoding.LinesMade.{MadeOf, handed, joined_line}
use Rattle.ffv1_frame.proofs.lemmas.JoinedLines.{tiled_long, flat_small, own_long, own_small}
use Rattle.ffv1_frame.proofs.lemmas.picture.Words.{bytes_below, get_or_bytes, green_blue}

pub each_of : {A B : Type 0} (P : B → Type 0) (f : A → B) (xs : List A) → Each (λ x. P (f x)) xs → Each P (map f xs)
each_of P f [] all = tt
each_of P f (x ∷ xs) all = (all.0, each_of P f xs all.1)

pub each_back : {A B : Type 0} (P : B → Type 0) (f : A → B) (xs : List A) → Each P (map f xs) → Each (λ x. P (f x)) xs
each_back P f [] all = tt
each_back P f (x ∷ xs) all = (all.0, each_back P f xs all.1)

-- by their numbers, lines that are given by their planes
pub by_number : (f : ℕ → List ℕ) (pre : List (List ℕ)) (ps : List ℕ) → Each (λ (ip : ℕ × ℕ). get_or (pre ++ map f ps) ip.0 [] ≡ f ip.1) (numbered (length pre) ps)
by_number f pre [] = tt
by_number f pre (p ∷ ps) =
    let rest = by_number f (pre ++ (f p ∷ [])) ps in
    let longer : length (pre ++ (f p ∷ [])) ≡ suc (length pre) = length-append pre (f p ∷ []) ∙ omega arith in
    let here : length pre + 0 ≡ length pre = omega arith in (
      ap (λ i. get_or (pre ++ (f p ∷ map f ps)) i []) (sym here) ∙ get_or-append-add {A = List ℕ} pre (f p ∷ map f ps) 0 [],
      subst (λ xs. Each (λ (ip : ℕ × ℕ). get_or xs ip.0 [] ≡ f ip.1) (numbered (suc (length pre)) ps)) (append_assoc pre (f p ∷ []) (map f ps))
          (subst (λ n. Each (λ (ip : ℕ × ℕ). get_or ((pre ++ (f p ∷ [])) ++ map f ps) ip.0 [] ≡ f ip.1) (numbered n ps)) longer rest),
    )

-- numbers are their own numbers
pub numbered_range : (from count total : ℕ) → from + count ≤ total → Each (λ (ip : ℕ × ℕ). (ip.0 ≡ ip.1) × (ip.1 < total)) (numbered from (range_with_len from count))
numbered_range from zero total fits = tt
numbered_range from (suc count) total fits =
    let next : from + 1 ≡ suc from = omega arith in (
      (refl, omega (arith, fits)),
      subst (λ n. Each (λ (ip : ℕ × ℕ). (ip.0 ≡ ip.1) × (ip.1 < total)) (numbered n (range_with_len (from + 1) count))) next
          (numbered_range (from + 1) count total (omega (arith, fits))),
    )

-- samples of a line of a plane
pub record IsMade (c : Configuration) (p : ℕ) (xs : List ℕ) : Type 0 where
  pub long : length xs ≡ plane_width c p
  pub small : AreBelow (2 ^ c.depth) xs

-- what is made of lines in RCT are samples of the depth
module _ (c : Configuration) (read made : List (List ℕ)) (f : FinishesBy true c read made) where
  colour_at : AreFew c (length read) → (p : ℕ) → p < length read → (x : ℕ) → x < c.width → get_or (get_or made p []) x 0 < 2 ^ c.depth
  colour_at few zero here x inside = (f.2 x inside).colour.red
  colour_at few (suc zero) here x inside = elim (green_blue c) [
    | inl is ↦ subst (λ n. get_or (get_or made n []) x 0 < 2 ^ c.depth) is.0 (f.2 x inside).colour.green
    | inr is ↦ subst (λ n. get_or (get_or made n []) x 0 < 2 ^ c.depth) is.1 (f.2 x inside).colour.blue
  ]
  colour_at few (suc (suc zero)) here x inside = elim (green_blue c) [
    | inl is ↦ subst (λ n. get_or (get_or made n []) x 0 < 2 ^ c.depth) is.1 (f.2 x inside).colour.blue
    | inr is ↦ subst (λ n. get_or (get_or made n []) x 0 < 2 ^ c.depth) is.0 (f.2 x inside).colour.green
  ]
  colour_at few (suc (suc (suc zero))) here x inside = elim few [
    | inl three ↦ absurd (omega (arith, here, three))
    | inr four ↦ let fourth = f.3 four.1 in subst (λ xs. get_or xs x 0 < 2 ^ c.depth) (sym fourth.0) (fourth.1 x inside)
  ]
  colour_at few (suc (suc (suc (suc p)))) here x inside = elim few [
    | inl three ↦ absurd (omega (arith, here, three))
    | inr four ↦ absurd (omega (arith, here, four.0))
  ]

  pub colour_small : AreFew c (length read) → (p : ℕ) → p < length read → AreBelow (2 ^ c.depth) (get_or made p [])
  colour_small few p here x = elim (cases_lt x c.width) [
    | inl inside ↦ colour_at few p here x inside
    | inr past ↦
        let none : get_or (get_or made p []) x 0 ≡ 0 = get_or_past {X = ℕ} (get_or made p []) x 0 (rw (f.1 p here) (omega (arith, past))) in
        rw none (pow_pos c.depth)
  ]

-- a line as it should be, in bytes
pub record IsSized (c : Configuration) (l : wire.Line) : Type 0 where
  pub long : length l.samples ≡ line_bytes c l.plane
  pub bytes : AreBelow 256 l.samples
  pub small : AreBelow (2 ^ c.depth) (samples_of c.depth l.samples)

-- the bytes of samples that are so
pub sized_made : (c : Configuration) (p y : ℕ) (xs : List ℕ) → c.depth ≤ 16 → IsMade c p xs → IsSized c (record { plane = p; row = y; samples = bytes_of c.depth xs })
sized_made c p y xs most is = record {
  long = length_bytes c.depth xs ∙ ap (λ n. sample_bytes c.depth * n) is.long;
  bytes = bytes_below c.depth xs most is.small;
  small = subst (AreBelow (2 ^ c.depth)) (sym (samples_back c.depth xs)) is.small;
}

module _ (c : Configuration) (slice : ℕ → Slice) (tiles : (p : ℕ) → Tiles (across (division_of c) p)) (wide : is_rct c.colour ≡ true → (p : ℕ) → plane_width c p ≡ c.width)
    (few : is_rct c.colour ≡ true → AreFew c (plane_count c)) (r : ℕ) where
  -- of each slice the row was read
  abbrev pub IsThere : Line → Type 0
  IsThere l = (k : ℕ) → k < c.columns → suc l.y * width_in c l.plane k ≤ length (plane (slice k).cells l.plane)

  pub joined_long : (y p : ℕ) → IsThere (record { plane = p; y = y }) → length (joined_line c slice y p) ≡ plane_width c p
  joined_long y p there =
      tiled_long (across (division_of c) p) (tiles p) (λ k. own_row c p k y (plane (slice k).cells p))
      (λ k inside. own_long c p k y (plane (slice k).cells p) ((tiles p).begins k inside) (there k inside))

  module _ (small : (k p i : ℕ) → k < c.columns → get_or (plane (slice k).cells p) i 0 < 2 ^ bits_of c) (most : c.depth ≤ 16) where
    joined_depth : (y p : ℕ) → is_rct c.colour ≡ false → AreBelow (2 ^ c.depth) (joined_line c slice y p)
    joined_depth y p rct x =
        flat_small (2 ^ c.depth) (pow_pos c.depth) (λ k. own_row c p k y (plane (slice k).cells p)) 0 c.columns
        (λ k i less.
        let inside : k < c.columns = omega (arith, less) in
        own_small (2 ^ c.depth) c p k y (plane (slice k).cells p)
        (λ j. subst (λ b. get_or (plane (slice k).cells p) j 0 < 2 ^ (if b then c.depth + 1 else c.depth)) rct (small k p j inside)) i)
        x

    -- lines of their numbers that are made
    abbrev AreMade : List (List ℕ) → ℕ × ℕ → Type 0
    AreMade made ip = IsMade c ip.1 (get_or made ip.0 [])

    sized_lines : (y : ℕ) (made : List (List ℕ)) (ips : List (ℕ × ℕ)) → Each (AreMade made) ips → Each (IsSized c) (map (handed c r y (map (bytes_of c.depth) made)) ips)
    sized_lines y made [] all = tt
    sized_lines y made (ip ∷ ips) all = (
      subst (λ xs. IsSized c (record { plane = ip.1; row = top_of c ip.1 r + y; samples = xs })) (sym (get_or_bytes c.depth ip.0 made))
          (sized_made c ip.1 (top_of c ip.1 r + y) (get_or made ip.0 []) most all.0),
      sized_lines y made ips all.1,
    )

    made_plain : (y : ℕ) (planes : List ℕ) (made : List (List ℕ)) (i : ℕ) → is_rct c.colour ≡ false → Each IsThere (lines_at planes y) →
        Each (λ (ip : ℕ × ℕ). get_or made ip.0 [] ≡ joined_line c slice y ip.1) (numbered i planes) → Each (AreMade made) (numbered i planes)
    made_plain y [] made i rct there same = tt
    made_plain y (p ∷ planes) made i rct there same = (
      subst (IsMade c p) (sym same.0) (record { long = joined_long y p there.0; small = joined_depth y p rct }),
      made_plain y planes made (suc i) rct there.1 same.1,
    )

    made_colours : (made : List (List ℕ)) (read : List (List ℕ)) (planes : List ℕ) (i : ℕ) → is_rct c.colour ≡ true → length read ≡ plane_count c → FinishesBy true c read made →
        Each (λ (ip : ℕ × ℕ). (ip.0 ≡ ip.1) × (ip.1 < plane_count c)) (numbered i planes) → Each (AreMade made) (numbered i planes)
    made_colours made read [] i rct many f own = tt
    made_colours made read (p ∷ planes) i rct many f own =
        let here : i < length read = rw (many, own.0.0) own.0.1 in (
          record {
            long = f.1 i here ∙ sym (wide rct p);
            small = colour_small c read made f (subst (AreFew c) (sym many) (few rct)) i here;
          },
          made_colours made read planes (suc i) rct many f own.1,
        )

    made_by : (rct : Bool) → is_rct c.colour ≡ rct → (y : ℕ) (planes : List ℕ) (made : List (List ℕ)) → (is_rct c.colour ≡ true → planes ≡ range_with_len 0 (plane_count c)) →
        Each IsThere (lines_at planes y) → FinishesBy rct c (map (joined_line c slice y) planes) made → Each (AreMade made) (numbered 0 planes)
    made_by true e y planes made all there f =
        let many : length (map (joined_line c slice y) planes) ≡ plane_count c =
        length-map planes (joined_line c slice y) ∙ ap (λ (ps : List ℕ). length ps) (all e) ∙ length-range_with_len 0 (plane_count c) in
        made_colours made (map (joined_line c slice y) planes) planes 0 e many f
        (subst (λ ps. Each (λ (ip : ℕ × ℕ). (ip.0 ≡ ip.1) × (ip.1 < plane_count c)) (numbered 0 ps)) (sym (all e)) (numbered_range 0 (plane_count c) (plane_count c) (omega arith)))
    made_by false e y planes made all there f =
        made_plain y planes made 0 e there
        (subst (λ xs. Each (λ (ip : ℕ × ℕ). get_or xs ip.0 [] ≡ joined_line c slice y ip.1) (numbered 0 planes)) (sym f) (by_number (joined_line c slice y) [] planes))

    pub sized_groups : (gs : List Group) (ls : List wire.Line) → Each (IsGroup c r) gs → Each IsThere (flat_map group_lines gs) → MadeOf c r slice gs ls → Each (IsSized c) ls
    sized_groups [] ls are there made = subst (Each (IsSized c)) (sym made) tt
    sized_groups (g ∷ gs) ls are there made =
        let new = numbered 0 (new_planes c r g.planes g.y) in
        let here = map (handed c r g.y made.0) new in
        let f = made.2 in
        subst (Each (IsSized c)) (sym made.4)
        (each_append (IsSized c) here made.1
        (subst (λ out. Each (IsSized c) (map (handed c r g.y out) new)) (sym f.bytes)
        (sized_lines g.y f.made new (each_new (AreMade f.made) c r g.planes g.y (made_by (is_rct c.colour) refl g.y g.planes f.made are.0.rct (each_left IsThere (group_lines g) (flat_map group_lines gs) there) f.by))))
        (sized_groups gs made.1 are.1 (each_right IsThere (group_lines g) (flat_map group_lines gs) there) made.3))
