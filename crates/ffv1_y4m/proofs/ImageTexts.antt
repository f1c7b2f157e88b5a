-- Images and what they read as.
use Rattle.std.proofs.Common.{◌≡◌, ℕ, ◌+◌, ◌-◌, ◌*◌, ◌^◌, ◌<◌, ◌≤◌, ◌==◌, ◌&&◌, ◌||◌, not, cond, nat_le, nat_lt, suc, Bool, true, false, Some, List, [], ◌∷◌, ◌++◌, length, drop, flat_map, codes, decimal, Ok, inl, inr, refl, ap, ◌∙◌, sym, subst, append_assoc, append-nil, arith, length-append, pow_mono}
use Rattle.std.proofs.lemmas.Fmt.{length-decimal-le}
use Rattle.std.proofs.Math.Seq.{take-append_seam, drop-append-add}
use Rattle.std.proofs.lemmas.Bool.{cases_lt, eqb-true, false≢true, le-leb, leb-true}
use Rattle.std.specs.List.{position}
use Rattle.ffv1_y4m.specs.declared.head.DeepHead.{DeepHead}
use Rattle.ffv1_y4m.specs.Header.{line_end, line_read}
use Rattle.ffv1_y4m.specs.Ppm.{all_in_depth, bytes_for, colours_read, depth_of_line, half_of, image_begun, image_head, image_header, image_header_text, image_read, interleaved, lined_header, maximum_depth, maximum_read, maximum_room, parted, same_format, sizes_of}
use Rattle.ffv1_y4m.specs.Images.{AreColours, AllColours, AreSpelled, samples_text, image_text, IsHeader, IsImages, IsImagesIn, IsSpacedHeader, ReadsImages, ReadsFrom}
use Rattle.ffv1_y4m.specs.Spaces.{IsGap, blank_room, is_blank, is_white}
use Rattle.ffv1_y4m.proofs.PpmSteps.{header_is_lined, header_is_spaced, room_six}
use Rattle.ffv1_y4m.proofs.SpacedHeaders.{spaced_is_read}
use Rattle.ffv1_y4m.specs.VideoHead.{AreInDepth, IsNamed, IsSized, colour_head, has_depth_name}
use Rattle.ffv1_y4m.specs.HeaderLine.{Without}
use Rattle.ffv1_y4m.proofs.Lines.{position_found, taken_to}
use Rattle.ffv1_y4m.proofs.Colours.{depth_in}
use Rattle.ffv1_y4m.proofs.DeepThirds.{colours_of, length-interleaved, parted-interleaved, whole_samples}
use Rattle.ffv1_y4m.proofs.Maxima.{spelled_8, spelled_9, spelled_10, spelled_12, spelled_14, spelled_16}
use Rattle.ffv1_y4m.proofs.CanonicalLine.{size_back, digits_without, without_both}

-- the samples of an image
pub samples_found : (depth n : ℕ) (p : List (List ℕ)) (rest : List ℕ) → half_of depth n ≡ 0 → AreColours n p → AreInDepth depth p → colours_read depth n (samples_text depth p ++ rest) ≡ Ok (p, rest)
samples_found depth n p rest whole c small =
    let long : length (interleaved depth c.red c.green c.blue) ≡ 3 * n = length-interleaved depth n c.red c.green c.blue c.red_long c.green_long c.blue_long whole in
    let parts : parted depth (interleaved depth c.red c.green c.blue) ≡ c.red ∷ c.green ∷ c.blue ∷ [] = parted-interleaved depth n c.red c.green c.blue c.red_long c.green_long c.blue_long whole in
    let fits : all_in_depth depth (parted depth (interleaved depth c.red c.green c.blue)) ≡ true = ap (all_in_depth depth) (parts ∙ sym c.planes_are) ∙ depth_in depth p small in
    rw c.planes_are (colours_of depth n (interleaved depth c.red c.green c.blue) rest long fits ∙ ap (λ z. Ok (z, rest)) parts)

-- a line of a header
line_found : (most : ℕ) (line rest : List ℕ) → length line < most → line_end most (line ++ 10 ∷ rest) ≡ Some (length line) → line_read most (line ++ 10 ∷ rest) ≡ Ok (line, rest)
line_found most line rest short found =
    let behind : drop (length line + 1) (line ++ 10 ∷ rest) ≡ rest = drop-append-add line (10 ∷ rest) 1 in
    rw (found, take-append_seam line (10 ∷ rest), behind) refl

sizes_line : ℕ → ℕ → List ℕ
sizes_line w h = decimal w ++ 32 ∷ decimal h

pub sizes_found : (w h : ℕ) → IsSized (colour_head w h) → sizes_of (decimal w ++ 32 ∷ decimal h) ≡ Some (w, h)
sizes_found w h s =
    let space : position (λ c. c == 32) (decimal w ++ 32 ∷ decimal h) ≡ Some (length (decimal w)) = position_found 32 (decimal w) (decimal h) (digits_without 32 w (omega arith) (omega (arith, s.wide))) in
    let behind : drop (length (decimal w) + 1) (decimal w ++ 32 ∷ decimal h) ≡ decimal h = drop-append-add (decimal w) (32 ∷ decimal h) 1 in
    rw (space, take-append_seam (decimal w) (32 ∷ decimal h), behind, size_back w s.some_wide s.wide, size_back h s.some_high s.high) refl

head_found : (depth w h : ℕ) → IsSized (colour_head w h) → image_head (codes "P6") (decimal w ++ 32 ∷ decimal h) (Some depth) ≡ Some (record { head = colour_head w h; depth = depth })
unfolding image_head
head_found depth w h s = rw (sizes_found w h s) refl

sizes_short : (w h : ℕ) → IsSized (colour_head w h) → length (decimal w ++ 32 ∷ decimal h) ≤ 9
sizes_short w h s =
    let wide : length (decimal w) ≤ 4 = length-decimal-le 4 w (omega arith) (omega (arith, s.wide)) (omega (arith, s.wide)) in
    let high : length (decimal h) ≤ 4 = length-decimal-le 4 h (omega arith) (omega (arith, s.high)) (omega (arith, s.high)) in
    omega (arith, length-append (decimal w) (32 ∷ decimal h), wide, high)

sizes_single : (w h : ℕ) → IsSized (colour_head w h) → Without 10 (decimal w ++ 32 ∷ decimal h)
sizes_single w h s = without_both 10 (decimal w) (32 ∷ decimal h) (digits_without 10 w (omega arith) (omega (arith, s.wide))) (refl, digits_without 10 h (omega arith) (omega (arith, s.high)))

pub second_found : (w h : ℕ) (rest : List ℕ) → IsSized (colour_head w h) → line_read 10 ((decimal w ++ 32 ∷ decimal h) ++ 10 ∷ rest) ≡ Ok (decimal w ++ 32 ∷ decimal h, rest)
second_found w h rest s =
    let line = decimal w ++ 32 ∷ decimal h in
    let short = sizes_short w h s in
    let far : 10 ≡ length (decimal w ++ 32 ∷ decimal h) + suc (9 - length (decimal w ++ 32 ∷ decimal h)) = omega (arith, short) in
    line_found 10 line rest (omega (arith, short)) (taken_to line rest 10 (9 - length line) far (sizes_single w h s))

-- the line of the greatest sample
pub record IsMaximum (most depth : ℕ) (text : List ℕ) : Type 0 where
  pub single : Without 10 text
  pub short : length text < maximum_room most
  pub is : depth_of_line most text ≡ Some depth

room_by : (b : Bool) (n : ℕ) → n < 4 → n < cond b 4 6
room_by true n h = h
room_by false n h = omega (arith, h)

deep_room : (b : Bool) (most n : ℕ) → nat_le most 8 ≡ b → n < 6 → 9 ≤ most → n < cond b 4 6
deep_room true most n test h deep = absurd (let few = leb-true _ _ test in omega (arith, few, deep))
deep_room false most n test h deep = h

line_by : (a b : Bool) (most depth : ℕ) (text : List ℕ) → nat_le 8 depth ≡ a → nat_le depth most ≡ b → 8 ≤ depth → depth ≤ most → maximum_depth text ≡ Some depth → depth_of_line most text ≡ Some depth
unfolding depth_of_line
line_by a b most depth text p q least within is =
    let one : nat_le 8 depth ≡ true = le-leb _ _ least in
    let two : nat_le depth most ≡ true = le-leb _ _ within in
    rw is (rw (one, two) refl)

line_of : (most depth : ℕ) (text : List ℕ) → 8 ≤ depth → depth ≤ most → maximum_depth text ≡ Some depth → depth_of_line most text ≡ Some depth
line_of most depth text least within is = line_by (nat_le 8 depth) (nat_le depth most) most depth text refl refl least within is

-- the six depths, one by one
abbrev pub Says : ℕ → ℕ → Type 0
Says most depth = IsMaximum most depth (decimal (2 ^ depth - 1))

said_so : (most depth : ℕ) (text : List ℕ) → decimal (2 ^ depth - 1) ≡ text → IsMaximum most depth text → Says most depth
said_so most depth text spelled h = subst (IsMaximum most depth) (sym spelled) h

at_eight : (most : ℕ) → 8 ≤ most → Says most 8
at_eight most h = said_so most 8 (codes "255") spelled_8 (record { single = (refl, (refl, (refl, tt))); short = room_by (nat_le most 8) 3 (omega arith); is = line_of most 8 (codes "255") (omega arith) h refl })

deep_says : (most depth : ℕ) (text : List ℕ) → decimal (2 ^ depth - 1) ≡ text → 9 ≤ depth → depth ≤ most → Without 10 text → length text < 6 → maximum_depth text ≡ Some depth → Says most depth
deep_says most depth text spelled least within single short is =
    said_so most depth text spelled (record { single = single; short = deep_room (nat_le most 8) most (length text) refl short (omega (arith, least, within)); is = line_of most depth text (omega (arith, least)) within is })

says_at : (most : ℕ) (depth n : ℕ) → depth ≡ n → depth ≤ most → (n ≤ most → Says most n) → Says most depth
says_at most depth n is within h = subst (Says most) (sym is) (h (subst (λ k. k ≤ most) is within))

says_by : (a b c d e f : Bool) (most depth : ℕ) → (depth == 8) ≡ a → (depth == 9) ≡ b → (depth == 10) ≡ c → (depth == 12) ≡ d → (depth == 16) ≡ e → (depth == 14) ≡ f →
    ((a || (b || (c || (d || (e || (true && f)))))) && true) ≡ true → depth ≤ most → Says most depth
says_by true b c d e f most depth p q r s t u name within = says_at most depth 8 (eqb-true depth 8 p) within (at_eight most)
says_by false true c d e f most depth p q r s t u name within = says_at most depth 9 (eqb-true depth 9 q) within (λ h. deep_says most 9 (codes "511") spelled_9 (omega arith) h (refl, (refl, (refl, tt))) (omega arith) refl)
says_by false false true d e f most depth p q r s t u name within = says_at most depth 10 (eqb-true depth 10 r) within (λ h. deep_says most 10 (codes "1023") spelled_10 (omega arith) h (refl, (refl, (refl, (refl, tt)))) (omega arith) refl)
says_by false false false true e f most depth p q r s t u name within = says_at most depth 12 (eqb-true depth 12 s) within (λ h. deep_says most 12 (codes "4095") spelled_12 (omega arith) h (refl, (refl, (refl, (refl, tt)))) (omega arith) refl)
says_by false false false false true f most depth p q r s t u name within = says_at most depth 16 (eqb-true depth 16 t) within (λ h. deep_says most 16 (codes "65535") spelled_16 (omega arith) h (refl, (refl, (refl, (refl, (refl, tt))))) (omega arith) refl)
says_by false false false false false true most depth p q r s t u name within = says_at most depth 14 (eqb-true depth 14 u) within (λ h. deep_says most 14 (codes "16383") spelled_14 (omega arith) h (refl, (refl, (refl, (refl, (refl, tt))))) (omega arith) refl)
says_by false false false false false false most depth p q r s t u name within = absurd (false≢true name)

-- the name of a head of colours
named_by : (a b : Bool) → (true && (a || (b && (not false && nat_lt 0 2)))) ≡ true → ((a || b) && true) ≡ true
named_by true b h = refl
named_by false true h = refl
named_by false false h = h

pub depth_said : (most depth w h : ℕ) → IsNamed depth (colour_head w h) → depth ≤ most → Says most depth
depth_said most depth w h n within = says_by (depth == 8) (depth == 9) (depth == 10) (depth == 12) (depth == 16) (depth == 14) most depth refl refl refl refl refl refl (named_by (depth == 8) (has_depth_name true depth) n.name) within

pub third_found : (most depth : ℕ) (rest : List ℕ) → Says most depth → maximum_read most (decimal (2 ^ depth - 1) ++ 10 ∷ rest) ≡ Ok (Some depth, rest)
third_found most depth rest s =
    let line = decimal (2 ^ depth - 1) in
    let far : maximum_room most ≡ length (decimal (2 ^ depth - 1)) + suc (maximum_room most - suc (length (decimal (2 ^ depth - 1)))) = omega (arith, s.short) in
    let read : line_read (maximum_room most) (decimal (2 ^ depth - 1) ++ 10 ∷ rest) ≡ Ok (decimal (2 ^ depth - 1), rest) = line_found (maximum_room most) line rest s.short (taken_to line rest (maximum_room most) (maximum_room most - suc (length line)) far s.single) in
    rw (read, s.is) refl

header_by : (most depth w h : ℕ) (line rest : List ℕ) → line_read 10 (line ++ 10 ∷ (decimal (2 ^ depth - 1) ++ 10 ∷ rest)) ≡ Ok (line, decimal (2 ^ depth - 1) ++ 10 ∷ rest) → maximum_read most (decimal (2 ^ depth - 1) ++ 10 ∷ rest) ≡ Ok (Some depth, rest) →
    image_head (codes "P6") line (Some depth) ≡ Some (record { head = colour_head w h; depth = depth }) → lined_header most (codes "P6\n" ++ (line ++ 10 ∷ (decimal (2 ^ depth - 1) ++ 10 ∷ rest))) ≡ Ok (record { head = colour_head w h; depth = depth }, rest)
header_by most depth w h line rest second third head = rw second (rw third (rw head refl))

pub header_parts : (depth w h : ℕ) (rest : List ℕ) → image_header_text depth w h ++ rest ≡ codes "P6\n" ++ ((decimal w ++ 32 ∷ decimal h) ++ 10 ∷ (decimal (2 ^ depth - 1) ++ 10 ∷ rest))
unfolding image_header_text
header_parts depth w h rest =
    let a = decimal w in
    let b = decimal h in
    let c = decimal (2 ^ depth - 1) in
    ap (λ z. 80 ∷ 54 ∷ 10 ∷ z) (append_assoc ((((a ++ 32 ∷ []) ++ b) ++ 10 ∷ []) ++ c) (10 ∷ []) rest ∙ (append_assoc (((a ++ 32 ∷ []) ++ b) ++ 10 ∷ []) c (10 ∷ rest)
    ∙ (append_assoc ((a ++ 32 ∷ []) ++ b) (10 ∷ []) (c ++ 10 ∷ rest) ∙ ap (λ z. z ++ 10 ∷ (c ++ 10 ∷ rest)) (append_assoc a (32 ∷ []) b))))

-- at 8 bits
pub header_of_bytes : (w h : ℕ) → image_header_text 8 w h ≡ codes "P6\n" ++ decimal w ++ codes " " ++ decimal h ++ codes "\n255\n"
unfolding image_header_text
header_of_bytes w h =
    let front : List ℕ = codes "P6\n" ++ decimal w ++ codes " " ++ decimal h in
    ap (λ z. ((front ++ 10 ∷ []) ++ z) ++ 10 ∷ []) spelled_8 ∙ (append_assoc (front ++ 10 ∷ []) (codes "255") (10 ∷ []) ∙ append_assoc front (10 ∷ []) (codes "255\n"))

header_line_found : (most depth w h : ℕ) (rest : List ℕ) → IsSized (colour_head w h) → Says most depth → lined_header most (codes "P6\n" ++ ((decimal w ++ 32 ∷ decimal h) ++ 10 ∷ (decimal (2 ^ depth - 1) ++ 10 ∷ rest))) ≡ Ok (record { head = colour_head w h; depth = depth }, rest)
header_line_found most depth w h rest s m = header_by most depth w h (decimal w ++ 32 ∷ decimal h) rest (second_found w h (decimal (2 ^ depth - 1) ++ 10 ∷ rest) s) (third_found most depth rest m) (head_found depth w h s)

lined_found : (most depth w h : ℕ) (rest : List ℕ) → IsSized (colour_head w h) → Says most depth → lined_header most (image_header_text depth w h ++ rest) ≡ Ok (record { head = colour_head w h; depth = depth }, rest)
lined_found most depth w h rest s m =
    rw (header_parts depth w h rest) (header_line_found most depth w h rest s m)

-- what is known of a header's sizes and of its depth
pub record IsSaid (most depth w h : ℕ) : Type 0 where
  pub sized : IsSized (colour_head w h)
  pub few : depth ≤ 16
  pub says : Says most depth

pub small_top : (depth : ℕ) → depth ≤ 16 → 2 ^ depth - 1 < 2 ^ 32
small_top depth few =
    let top : 2 ^ depth ≤ 2 ^ 16 = pow_mono {i = depth} {j = 16} few in
    omega (arith, top)

pub image_header_found : (most depth w h : ℕ) (header rest : List ℕ) → IsSaid most depth w h → IsHeader most depth w h header → image_header most (header ++ rest) ≡ Ok (record { head = colour_head w h; depth = depth }, rest)
image_header_found most depth w h header rest s is = elim (cases_lt 8 most) [
  | inl deep ↦
      let short : length (decimal (2 ^ depth - 1)) < 6 = rw (sym (room_six most (omega (arith, deep)))) s.says.short in
      header_is_spaced most (header ++ rest) deep ∙ spaced_is_read most depth w h header rest (is.spaced deep) s.sized s.few s.says.is (omega (arith, short)) (small_top depth s.few)
  | inr few ↦
      let line : header ≡ image_header_text depth w h = is.lined few in
      header_is_lined most (header ++ rest) few ∙ (rw line (lined_found most depth w h rest s.sized s.says))
]

-- a header that is so written has a byte at least
lined_some : (depth w h : ℕ) → 0 < length (image_header_text depth w h)
lined_some depth w h =
    let long = ap length (sym (append-nil (image_header_text depth w h)) ∙ header_parts depth w h []) in
    omega (arith, long)

pub header_some : (most depth w h : ℕ) (header : List ℕ) → IsHeader most depth w h header → 0 < length header
header_some most depth w h header is = elim (cases_lt 8 most) [
  | inl deep ↦ let long = ap length (is.spaced deep).whole in omega (arith, long)
  | inr few ↦ let long = ap length (is.lined few) in omega (arith, long, lined_some depth w h)
]

same_found : (depth w h : ℕ) (rest : List ℕ) → same_format (record { head = colour_head w h; depth = depth }) (record { head = colour_head w h; depth = depth }) rest ≡ Ok (true, rest)
same_found depth w h rest =
    let wide : (w == w) ≡ true = grind arith in
    let high : (h == h) ≡ true = grind arith in
    let deep : (depth == depth) ≡ true = grind arith in
    rw (wide, high, deep) refl

-- a later image begins
later_by : (most : ℕ) (said : DeepHead) (text rest : List ℕ) → 0 < length text → image_header most text ≡ Ok (said, rest) → same_format said said rest ≡ Ok (true, rest) → image_begun most said text ≡ Ok (true, rest)
later_by most said [] rest some h same = absurd (omega (arith, some))
later_by most said (c ∷ cs) rest some h same = rw h same

some_header : (header rest : List ℕ) → 0 < length header → 0 < length (header ++ rest)
some_header header rest some = omega (arith, length-append header rest, some)

begun_found : (most depth w h : ℕ) (header rest : List ℕ) → IsSaid most depth w h → IsHeader most depth w h header → image_begun most (record { head = colour_head w h; depth = depth }) (header ++ rest) ≡ Ok (true, rest)
begun_found most depth w h header rest s is =
    later_by most (record { head = colour_head w h; depth = depth }) (header ++ rest) rest (some_header header rest (header_some most depth w h header is)) (image_header_found most depth w h header rest s is) (same_found depth w h rest)

-- the head of an image's header
pub record IsColourHead (said : DeepHead) : Type 0 where
  pub sized : IsSized said.head
  pub colour : said.head ≡ colour_head said.head.width said.head.height
  pub named : IsNamed said.depth said.head

same_begun : (most : ℕ) (said : DeepHead) (text : List ℕ) → image_begun most said text ≡ image_begun most (record { head = colour_head said.head.width said.head.height; depth = said.depth }) text
same_begun most said [] = refl
same_begun most said (c ∷ cs) = refl

pub begun_again : (most : ℕ) (said : DeepHead) (header rest : List ℕ) → IsColourHead said → said.depth ≤ most → IsHeader most said.depth said.head.width said.head.height header → image_begun most said (header ++ rest) ≡ Ok (true, rest)
begun_again most said header rest is within spelled =
    let w = said.head.width in
    let h = said.head.height in
    let sized : IsSized (colour_head said.head.width said.head.height) = record { some_wide = is.sized.some_wide; wide = is.sized.wide; some_high = is.sized.some_high; high = is.sized.high } in
    let named : IsNamed said.depth (colour_head said.head.width said.head.height) = subst (IsNamed said.depth) is.colour is.named in
    same_begun most said (header ++ rest) ∙ begun_found most said.depth w h header rest (record { sized = sized; few = named.most; says = depth_said most said.depth w h named within }) spelled

pub first_found : (most depth w h : ℕ) (p : List (List ℕ)) (rest : List ℕ) → AreColours (bytes_for depth (w * h)) p → AreInDepth depth p → image_read most (record { head = colour_head w h; depth = depth }) true (samples_text depth p ++ rest) ≡ Ok (Some p, rest)
first_found most depth w h p rest c small = rw (samples_found depth (bytes_for depth (w * h)) p rest (whole_samples depth (w * h)) c small) refl

pub later_found : (most depth w h : ℕ) (header : List ℕ) (p : List (List ℕ)) (rest : List ℕ) → IsSaid most depth w h → IsHeader most depth w h header → AreColours (bytes_for depth (w * h)) p → AreInDepth depth p → image_read most (record { head = colour_head w h; depth = depth }) false (header ++ (samples_text depth p ++ rest)) ≡ Ok (Some p, rest)
later_found most depth w h header p rest s is c small =
    rw (begun_found most depth w h header (samples_text depth p ++ rest) s is) (rw (samples_found depth (bytes_for depth (w * h)) p rest (whole_samples depth (w * h)) c small) refl)

images_found : (most depth w h : ℕ) (text : List ℕ) (ps : List (List (List ℕ))) → IsSaid most depth w h → AreSpelled most depth w h text ps → AllColours depth (bytes_for depth (w * h)) ps → ReadsImages most (record { head = colour_head w h; depth = depth }) text ps
images_found most depth w h text [] s spelled fit = rw spelled refl
images_found most depth w h text (p ∷ ps) s (header, rest, is, whole, more) fit =
    (rest, rw whole (later_found most depth w h header p rest s is fit.0.0 fit.0.1), images_found most depth w h rest ps s more fit.1)

pub all_spelled_found : (text : List ℕ) (most depth w h : ℕ) (p : List (List ℕ)) (ps : List (List (List ℕ))) → IsImagesIn most text depth w h (p ∷ ps) → depth ≤ most →
    (rest : List ℕ) × (image_header most text ≡ Ok (record { head = colour_head w h; depth = depth }, rest)) × ReadsFrom most (record { head = colour_head w h; depth = depth }) rest p ps
all_spelled_found text most depth w h p ps t within =
    by t.spelled
  where
    said : IsSaid most depth w h
    said = record { sized = t.sized; few = t.named.most; says = depth_said most depth w h t.named within }

    by : AreSpelled most depth w h text (p ∷ ps) → (rest : List ℕ) × (image_header most text ≡ Ok (record { head = colour_head w h; depth = depth }, rest)) × ReadsFrom most (record { head = colour_head w h; depth = depth }) rest p ps
    by (header, rest, is, whole, more) =
        (samples_text depth p ++ rest, rw whole (image_header_found most depth w h header (samples_text depth p ++ rest) said is), (rest, first_found most depth w h p rest t.fit.0.0 t.fit.0.1, images_found most depth w h rest ps said more t.fit.1))

-- ---- a text of headers of three lines

gap_of : (c : ℕ) → is_white c ≡ true → IsGap (c ∷ [])
unfolding is_blank blank_room
gap_of c white = record { first = c; more = []; is = refl; white = white; blank = refl; short = omega arith }

lined_is_spaced : (depth w h : ℕ) → IsSpacedHeader depth w h (image_header_text depth w h)
lined_is_spaced depth w h = record {
  before_width = 10 ∷ [];
  before_height = 32 ∷ [];
  before_greatest = 10 ∷ [];
  last = 10;
  first = gap_of 10 refl;
  second = gap_of 32 refl;
  third = gap_of 10 refl;
  white = refl;
  whole = sym (append-nil (image_header_text depth w h)) ∙ (header_parts depth w h [] ∙ ap (λ z. codes "P6\n" ++ z) (append_assoc (decimal w) (32 ∷ decimal h) (10 ∷ (decimal (2 ^ depth - 1) ++ 10 ∷ []))));
}

lined_header_is : (most depth w h : ℕ) → IsHeader most depth w h (image_header_text depth w h)
lined_header_is most depth w h = record { lined = λ few. refl; spaced = λ deep. lined_is_spaced depth w h }

lined_spelled : (most depth w h : ℕ) (ps : List (List (List ℕ))) → AreSpelled most depth w h (flat_map (image_text depth w h) ps) ps
lined_spelled most depth w h [] = refl
lined_spelled most depth w h (p ∷ ps) =
    (image_header_text depth w h, flat_map (image_text depth w h) ps, lined_header_is most depth w h, append_assoc (image_header_text depth w h) (samples_text depth p) (flat_map (image_text depth w h) ps), lined_spelled most depth w h ps)

pub lined_images : (text : List ℕ) (most depth w h : ℕ) (ps : List (List (List ℕ))) → IsImages text depth w h ps → IsImagesIn most text depth w h ps
lined_images text most depth w h ps t = record { sized = t.sized; named = t.named; spelled = rw t.whole (lined_spelled most depth w h ps); fit = t.fit }

pub all_images_found : (text : List ℕ) (most depth w h : ℕ) (p : List (List ℕ)) (ps : List (List (List ℕ))) → IsImages text depth w h (p ∷ ps) → depth ≤ most →
    (rest : List ℕ) × (image_header most text ≡ Ok (record { head = colour_head w h; depth = depth }, rest)) × ReadsFrom most (record { head = colour_head w h; depth = depth }) rest p ps
all_images_found text most depth w h p ps t within = all_spelled_found text most depth w h p ps (lined_images text most depth w h (p ∷ ps) t) within

-- if depths up to 8 are read, that is all
spelled_lined : (most depth w h : ℕ) (text : List ℕ) (ps : List (List (List ℕ))) → most ≤ 8 → AreSpelled most depth w h text ps → text ≡ flat_map (image_text depth w h) ps
spelled_lined most depth w h text [] few spelled = spelled
spelled_lined most depth w h text (p ∷ ps) few (header, rest, is, whole, more) =
    whole ∙ (rw (is.lined few, spelled_lined most depth w h rest ps few more) (sym (append_assoc (image_header_text depth w h) (samples_text depth p) (flat_map (image_text depth w h) ps))))

pub images_lined : (text : List ℕ) (most depth w h : ℕ) (ps : List (List (List ℕ))) → most ≤ 8 → IsImagesIn most text depth w h ps → IsImages text depth w h ps
images_lined text most depth w h ps few t = record { sized = t.sized; named = t.named; whole = spelled_lined most depth w h text ps few t.spelled; fit = t.fit }
