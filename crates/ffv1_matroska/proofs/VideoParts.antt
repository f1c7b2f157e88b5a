-- The content of Video that is written, part by part, and the colours that it says.
use Rattle.std.proofs.Common.{◌≡◌, ◌<◌, ◌==◌, ◌||◌, ◌∙◌, ◌++◌, ◌∷◌, ℕ, Bool, true, false, List, [], cond, Some, length, refl, sym, ap, arith, inl, inr, append_assoc, append-nil, ◌*◌}
use Rattle.std.proofs.lemmas.Bool.{cases_eq, eq-eqb, ne_eqb}
use Rattle.std.specs.Int.{bytes_high_first}
use Rattle.ffv1_reads.specs.Colour.{IsColour}
use Rattle.ffv1_reads.specs.Head.{Head}
use Rattle.ffv1_reads.specs.declared.colour.Colour.{Colour}
use Rattle.ffv1_ebml.specs.Contents.{first_part, found}
use Rattle.ffv1_ebml.specs.Spelled.{IsIdent, SaysSize, number_element, short}
use Rattle.ffv1_ebml.proofs.ElementLaws.{found_first, found_past}
use Rattle.ffv1_ebml.proofs.FoundParts.{found_none}
use Rattle.ffv1_ebml.proofs.Numbers.{length_high}
use Rattle.ffv1_ebml.proofs.SpelledLaws.{short_spelled}
use Rattle.ffv1_matroska.specs.Colours.{bytes_found, colour, colour_in, colour_of}
use Rattle.ffv1_matroska.specs.Tracks.{pixel_height, pixel_width}
use Rattle.ffv1_matroska.specs.Written.{colour_content, colour_element, display, interlaced_of, order_element, short_element, video_content}
use Rattle.ffv1_matroska.specs.WrittenIdents.{display_height, display_unit, display_width, field_order, flag_interlaced}
use Rattle.ffv1_matroska.specs.declared.track_entry.TrackEntry.{TrackEntry}
use Rattle.ffv1_matroska.proofs.ColourFields.{colour_back}
use Rattle.ffv1_matroska.proofs.WrittenBytes.{colours_few}

-- what comes after its width and height
abbrev pub beside_size : Head → TrackEntry → List ℕ
beside_size head details = number_element flag_interlaced 1 (interlaced_of details.structure) ++ (order_element details.structure ++ (display head details ++ colour_element head.colour))

pub video_parts : (head : Head) (details : TrackEntry) → video_content head details ≡ number_element pixel_width 4 head.width ++ (number_element pixel_height 4 head.height ++ beside_size head details)
unfolding video_content
video_parts head details = regrouped (number_element pixel_width 4 head.width) (number_element pixel_height 4 head.height) (number_element flag_interlaced 1 (interlaced_of details.structure)) (order_element details.structure) (display head details) (colour_element head.colour)
  where
    regrouped : (a b c d e f : List ℕ) → ((((a ++ b) ++ c) ++ d) ++ e) ++ f ≡ a ++ (b ++ (c ++ (d ++ (e ++ f))))
    regrouped a b c d e f = simp append_assoc

-- Colour is no number
past_number : (ident width number : ℕ) (rest : List ℕ) → IsIdent ident → width < 127 → (ident ≡ colour → ⊥) → found colour (number_element ident width number ++ rest) ≡ found colour rest
past_number ident width number rest is few differ = found_past colour ident (short width) (bytes_high_first width number) rest is (sized width number few) differ
  where
    sized : (width number : ℕ) → width < 127 → SaysSize (short width) (Some (length (bytes_high_first width number)))
    sized width number few = rw (length_high width number) (short_spelled width few)

past_order : (structure : ℕ) (rest : List ℕ) → found colour (order_element structure ++ rest) ≡ found colour rest
unfolding order_element
past_order structure rest = elim (cases_eq structure 1) [
  | inl first ↦ rw first (past_number field_order 1 9 rest (inl (omega arith, omega arith)) (omega arith) (λ same. omega (arith, same)))
  | inr other ↦ elim (cases_eq structure 2) [
    | inl second ↦ rw second (past_number field_order 1 14 rest (inl (omega arith, omega arith)) (omega arith) (λ same. omega (arith, same)))
    | inr neither ↦ rw (ne_eqb structure 1 other, ne_eqb structure 2 neither) refl
  ]
]

past_shown : (p : Bool) (a b : ℕ) (rest : List ℕ) → found colour (cond p [] (number_element display_width 8 a ++ number_element display_height 8 b ++ number_element display_unit 1 3) ++ rest) ≡ found colour rest
past_shown true a b rest = refl
past_shown false a b rest =
    let x = number_element display_width 8 a in
    let y = number_element display_height 8 b in
    let z = number_element display_unit 1 3 in
    ap (found colour) (apart x y z rest)
    ∙ past_number display_width 8 a (y ++ (z ++ rest)) (inr (inl (omega arith, omega arith))) (omega arith) (λ same. omega (arith, same))
    ∙ past_number display_height 8 b (z ++ rest) (inr (inl (omega arith, omega arith))) (omega arith) (λ same. omega (arith, same))
    ∙ past_number display_unit 1 3 rest (inr (inl (omega arith, omega arith))) (omega arith) (λ same. omega (arith, same))
  where
    apart : (x y z rest : List ℕ) → ((x ++ y) ++ z) ++ rest ≡ x ++ (y ++ (z ++ rest))
    apart x y z rest = simp append_assoc

past_display : (head : Head) (details : TrackEntry) (rest : List ℕ) → found colour (display head details ++ rest) ≡ found colour rest
unfolding display
past_display head details rest = past_shown (details.sar_num == 0 || details.sar_den == 0) (head.width * details.sar_num) (head.height * details.sar_den) rest

-- the content of Colour is found; where nothing is said there is none
colour_found : (c : Colour) → bytes_found (found colour (colour_element c)) ≡ colour_content c
unfolding colour_element first_part
colour_found c = elim (cases_eq (length (colour_content c)) 0) [
  | inl none ↦ rw (eq-eqb (length (colour_content c)) 0 none) (ap bytes_found (found_none 0 colour [] refl) ∙ sym (empty (colour_content c) none))
  | inr some ↦ rw (ne_eqb (length (colour_content c)) 0 some) (ap bytes_found (ap (found colour) (sym (append-nil (short_element colour (colour_content c)))) ∙ found_first colour (short (length (colour_content c))) (colour_content c) [] (inr (inl (omega arith, omega arith))) (short_spelled (length (colour_content c)) (omega (arith, colours_few c)))))
]
  where
    empty : (xs : List ℕ) → length xs ≡ 0 → xs ≡ []
    empty [] none = refl
    empty (x ∷ xs) none = absurd (omega (arith, none))

pub video_colour : (head : Head) (details : TrackEntry) → IsColour head.colour → colour_in (video_content head details) ≡ head.colour
unfolding colour_in
video_colour head details is =
    let rest = beside_size head details in
    let shown = display head details ++ colour_element head.colour in
    let past : found colour (video_content head details) ≡ found colour (colour_element head.colour) =
    ap (found colour) (video_parts head details)
    ∙ past_number pixel_width 4 head.width (number_element pixel_height 4 head.height ++ rest) (inl (omega arith, omega arith)) (omega arith) (λ same. omega (arith, same))
    ∙ past_number pixel_height 4 head.height rest (inl (omega arith, omega arith)) (omega arith) (λ same. omega (arith, same))
    ∙ past_number flag_interlaced 1 (interlaced_of details.structure) (order_element details.structure ++ shown) (inl (omega arith, omega arith)) (omega arith) (λ same. omega (arith, same))
    ∙ past_order details.structure shown
    ∙ past_display head details (colour_element head.colour) in
    ap (λ r. colour_of (bytes_found r)) past ∙ ap colour_of (colour_found head.colour) ∙ colour_back head.colour is
