-- Samples of two bytes that are parted and interleaved, one place more.
use Rattle.std.proofs.Common.{◌≡◌, ℕ, ◌+◌, ◌*◌, ◌/◌, ◌%◌, ◌<◌, ◌≤◌, List, [], ◌∷◌, ◌++◌, length, take, get_or, refl, ap, ◌∙◌, sym, append_assoc, arith, add-one}
use Rattle.std.proofs.Math.Seq.{take-suc}
use Rattle.std.proofs.lemmas.List.{take_all}
use Rattle.std.proofs.lemmas.Grind.{common_steps}
use Rattle.ffv1_y4m.specs.Ppm.{bytes_of_pairs, each_third, in_turn, pairs_of, turned}
use Rattle.ffv1_y4m.proofs.ColourThirds.{get_or-each_third, in_turn_more, third_long}
use Rattle.ffv1_y4m.proofs.TurnedPairs.{bytes_append, length-pairs, length-turned, pair_at, turned_append, turned_at}

-- a pair of a text by its place, and of a third of it
text_pair : (text : List ℕ) (j : ℕ) → 2 * j + 1 < length text → j < length (pairs_of text) → get_or (turned (pairs_of text)) j (0, 0) ≡ (get_or text (2 * j + 1) 0, get_or text (2 * j) 0)
text_pair text j inside within =
    turned_at j (pairs_of text) within ∙ ap (λ (p : ℕ × ℕ). (p.1, p.0)) (pair_at j text inside)

third_pair : (text : List ℕ) (first i n : ℕ) → first ≤ 2 → length text ≡ 6 * n → i < n →
    get_or (each_third first (turned (pairs_of text))) i (0, 0) ≡ (get_or text (6 * i + 2 * first + 1) 0, get_or text (6 * i + 2 * first) 0)
third_pair text first i n few long inside =
    let count : length (pairs_of text) ≡ 3 * n = length-pairs (3 * n) text (omega (arith, long)) in
    let one : 2 * (3 * i + first) + 1 ≡ 6 * i + 2 * first + 1 = omega arith in
    let two : 2 * (3 * i + first) ≡ 6 * i + 2 * first = omega arith in
    get_or-each_third (0, 0) (turned (pairs_of text)) first i
    ∙ (text_pair text (3 * i + first) (omega (arith, long, few, inside)) (omega (arith, count, few, inside)) ∙ ap (λ k. (get_or text k 0, get_or text (2 * (3 * i + first)) 0)) one ∙ ap (λ k. (get_or text (6 * i + 2 * first + 1) 0, get_or text k 0)) two)

thirds_long : (text : List ℕ) (first n : ℕ) → first ≤ 2 → length text ≡ 6 * n → length (each_third first (turned (pairs_of text))) ≡ n
thirds_long text first n few long =
    third_long n first (turned (pairs_of text)) few (length-turned (pairs_of text) ∙ length-pairs (3 * n) text (omega (arith, long)))

pub part_step : (text plane new : List ℕ) (first i : ℕ) → first ≤ 2 → length text ≡ 3 * length plane → length plane % 2 ≡ 0 → i < length plane / 2 →
    take (2 * i) plane ≡ bytes_of_pairs (take i (each_third first (turned (pairs_of text)))) →
    take (2 * i + 2) new ≡ take (2 * i) plane ++ (get_or text (6 * i + 2 * first + 1) 0 ∷ get_or text (6 * i + 2 * first) 0 ∷ []) →
    take (2 * (i + 1)) new ≡ bytes_of_pairs (take (i + 1) (each_third first (turned (pairs_of text))))
part_step text plane new first i few long whole inside done stored =
    let n = length plane / 2 in
    let all : length text ≡ 6 * (length plane / 2) = omega (arith, long, whole) in
    let third : List (ℕ × ℕ) = each_third first (turned (pairs_of text)) in
    let within : i < length (each_third first (turned (pairs_of text))) = omega (arith, thirds_long text first n few all, inside) in
    let more : take (i + 1) (each_third first (turned (pairs_of text))) ≡ take i (each_third first (turned (pairs_of text))) ++ (get_or text (6 * i + 2 * first + 1) 0, get_or text (6 * i + 2 * first) 0) ∷ [] =
    rw (add-one i) (take-suc third i (0, 0) within) ∙ ap (λ p. take i third ++ p ∷ []) (third_pair text first i n few all inside) in
    let place : 2 * (i + 1) ≡ 2 * i + 2 = omega arith in
    rw (place, more) (stored ∙ (ap (λ z. z ++ (get_or text (6 * i + 2 * first + 1) 0 ∷ get_or text (6 * i + 2 * first) 0 ∷ [])) done ∙ sym (bytes_append (take i third) ((get_or text (6 * i + 2 * first + 1) 0, get_or text (6 * i + 2 * first) 0) ∷ []))))

pub part_end : (text plane : List ℕ) (first i : ℕ) → first ≤ 2 → length text ≡ 3 * length plane → length plane % 2 ≡ 0 → length plane / 2 ≤ i →
    take (2 * i) plane ≡ bytes_of_pairs (take i (each_third first (turned (pairs_of text)))) → plane ≡ bytes_of_pairs (each_third first (turned (pairs_of text)))
part_end text plane first i few long whole past done =
    let n = length plane / 2 in
    let all : length text ≡ 6 * (length plane / 2) = omega (arith, long, whole) in
    let third : List (ℕ × ℕ) = each_third first (turned (pairs_of text)) in
    let count : length (each_third first (turned (pairs_of text))) ≤ i = omega (arith, thirds_long text first n few all, past) in
    sym (take_all (2 * i) plane (omega (arith, past, whole))) ∙ (done ∙ ap bytes_of_pairs (take_all i third count))

-- a line by its places
line_more : (line : List ℕ) (i : ℕ) → length line % 2 ≡ 0 → i < length line / 2 → take (i + 1) (pairs_of line) ≡ take i (pairs_of line) ++ (get_or line (2 * i) 0, get_or line (2 * i + 1) 0) ∷ []
line_more line i whole inside =
    let count : length (pairs_of line) ≡ length line / 2 = length-pairs (length line / 2) line (omega (arith, whole)) in
    rw (add-one i) (take-suc (pairs_of line) i (0, 0) (omega (arith, count, inside))) ∙ ap (λ p. take i (pairs_of line) ++ p ∷ []) (pair_at i line (omega (arith, whole, inside)))

front_long : (line : List ℕ) (i n : ℕ) → length line ≡ n → n % 2 ≡ 0 → i < n / 2 → length (take i (pairs_of line)) ≡ i
front_long line i n long whole inside =
    let count : length (pairs_of line) ≡ n / 2 = length-pairs (n / 2) line (omega (arith, long, whole)) in
    grind (arith, common_steps, count, inside)

abbrev pub rows_to : ℕ → List ℕ → List ℕ → List ℕ → List ℕ
rows_to i red green blue = bytes_of_pairs (turned (in_turn (take i (pairs_of red)) (take i (pairs_of green)) (take i (pairs_of blue))))

pub row_step : (red green blue old one two new : List ℕ) (i : ℕ) → length red % 2 ≡ 0 → length green ≡ length red → length blue ≡ length red → i < length red / 2 →
    take (6 * i) old ≡ rows_to i red green blue →
    take (6 * i + 2) one ≡ take (6 * i) old ++ (get_or red (2 * i + 1) 0 ∷ get_or red (2 * i) 0 ∷ []) →
    take (6 * i + 2 + 2) two ≡ take (6 * i + 2) one ++ (get_or green (2 * i + 1) 0 ∷ get_or green (2 * i) 0 ∷ []) →
    take (6 * i + 4 + 2) new ≡ take (6 * i + 4) two ++ (get_or blue (2 * i + 1) 0 ∷ get_or blue (2 * i) 0 ∷ []) →
    take (6 * (i + 1)) new ≡ rows_to (i + 1) red green blue
row_step red green blue old one two new i whole same also inside done first second third =
    let R = take i (pairs_of red) in
    let G = take i (pairs_of green) in
    let B = take i (pairs_of blue) in
    let r : ℕ × ℕ = (get_or red (2 * i) 0, get_or red (2 * i + 1) 0) in
    let g : ℕ × ℕ = (get_or green (2 * i) 0, get_or green (2 * i + 1) 0) in
    let b : ℕ × ℕ = (get_or blue (2 * i) 0, get_or blue (2 * i + 1) 0) in
    let six : List ℕ = r.1 ∷ r.0 ∷ g.1 ∷ g.0 ∷ b.1 ∷ b.0 ∷ [] in
    let reds = line_more red i whole inside in
    let greens = line_more green i (rw same whole) (rw same inside) in
    let blues = line_more blue i (rw also whole) (rw also inside) in
    let n = length red in
    let red_long = front_long red i n refl whole inside in
    let green_long = front_long green i n same whole inside in
    let blue_long = front_long blue i n also whole inside in
    let rows : in_turn (take (i + 1) (pairs_of red)) (take (i + 1) (pairs_of green)) (take (i + 1) (pairs_of blue)) ≡ in_turn R G B ++ (r ∷ g ∷ b ∷ []) =
    rw (reds, greens, blues) (in_turn_more R G B r g b (green_long ∙ sym red_long) (blue_long ∙ sym red_long)) in
    let text : rows_to (i + 1) red green blue ≡ rows_to i red green blue ++ six =
    ap (λ z. bytes_of_pairs (turned z)) rows ∙ (ap bytes_of_pairs (turned_append (in_turn R G B) (r ∷ g ∷ b ∷ [])) ∙ bytes_append (turned (in_turn R G B)) (turned (r ∷ g ∷ b ∷ []))) in
    let place : 6 * (i + 1) ≡ 6 * i + 4 + 2 = omega arith in
    let mid : 6 * i + 4 ≡ 6 * i + 2 + 2 = omega arith in
    let halfway : take (6 * i + 4) two ≡ (take (6 * i) old ++ (r.1 ∷ r.0 ∷ [])) ++ (g.1 ∷ g.0 ∷ []) = rw mid (second ∙ ap (λ z. z ++ (g.1 ∷ g.0 ∷ [])) first) in
    let all : take (6 * i + 4 + 2) new ≡ take (6 * i) old ++ six =
    third ∙ (ap (λ z. z ++ (b.1 ∷ b.0 ∷ [])) halfway ∙ (append_assoc (take (6 * i) old ++ (r.1 ∷ r.0 ∷ [])) (g.1 ∷ g.0 ∷ []) (b.1 ∷ b.0 ∷ []) ∙ append_assoc (take (6 * i) old) (r.1 ∷ r.0 ∷ []) (g.1 ∷ g.0 ∷ b.1 ∷ b.0 ∷ []))) in
    rw place (all ∙ (ap (λ z. z ++ six) done ∙ sym text))

pub row_end : (red green blue text : List ℕ) (i : ℕ) → length red % 2 ≡ 0 → length green ≡ length red → length blue ≡ length red → length text ≡ 3 * length red → length red / 2 ≤ i →
    take (6 * i) text ≡ rows_to i red green blue → text ≡ bytes_of_pairs (turned (in_turn (pairs_of red) (pairs_of green) (pairs_of blue)))
row_end red green blue text i whole same also long past done =
    let n = length red / 2 in
    let reds : length (pairs_of red) ≡ length red / 2 = length-pairs n red (omega (arith, whole)) in
    let greens : length (pairs_of green) ≡ length red / 2 = length-pairs n green (omega (arith, whole, same)) in
    let blues : length (pairs_of blue) ≡ length red / 2 = length-pairs n blue (omega (arith, whole, also)) in
    let R : take i (pairs_of red) ≡ pairs_of red = take_all i (pairs_of red) (omega (arith, reds, past)) in
    let G : take i (pairs_of green) ≡ pairs_of green = take_all i (pairs_of green) (omega (arith, greens, past)) in
    let B : take i (pairs_of blue) ≡ pairs_of blue = take_all i (pairs_of blue) (omega (arith, blues, past)) in
    sym (take_all (6 * i) text (omega (arith, long, past, whole))) ∙ (done ∙ (rw (R, G, B) refl))
