-- A BlockGroup up to its first Block is read as its elements are, one by one; or it has none.
use Rattle.std.proofs.Common.{◌≡◌, ◌⊎◌, ◌<◌, ◌==◌, ◌∙◌, ℕ, suc, zero, List, Bool, true, false, Option, Some, None, Result, Ok, Err, inl, inr, refl, ap, arith}
use Rattle.std.proofs.lemmas.Bool.{ne_eqb}
use Rattle.std.proofs.lemmas.Bool.Decides.{nat_tests}
use Rattle.ffv1_reads.specs.declared.fault.FileFault.TheVariants as fault
use Rattle.ffv1_reads.specs.Reads.{Met, Reading, Stop, read_on, ◌>>=◌}
use Rattle.ffv1_ebml.specs.Elements.{element_read}
use Rattle.ffv1_ebml.specs.Sums.{passed_summed}
use Rattle.ffv1_ebml.specs.declared.element.Element.{Element}
use Rattle.ffv1_ebml.specs.declared.sum.Sum.{Sum}
use Rattle.ffv1_matroska.specs.Places.{group_at, is_sound, step_to, summed_at}
use Rattle.ffv1_matroska.specs.Blocks.{block_read, passed_on}
use Rattle.ffv1_matroska.specs.Segments.{block, block_sought, group_child, group_read, sought_child}
use Rattle.ffv1_matroska.specs.declared.place.Place.{Place}
use Rattle.ffv1_matroska.specs.declared.place.Step.{Step}
use Rattle.ffv1_matroska.specs.declared.track.TrackNumbers.{TrackNumbers}

-- a group that has ended has no Block
pub none_sought : (most : ℕ) (track : TrackNumbers) (place : Place) (text : List ℕ) → place.group ≡ 0 → block_sought most track place text ≡ Err (Met fault.BadElement text)
unfolding block_sought
none_sought zero track place text none = refl
none_sought (suc most) track place text none = let ended : (place.group == 0) ≡ true = ap (λ n. n == 0) none in rw ended refl

-- its next element is the Block
pub found_sought : (most : ℕ) (track : TrackNumbers) (place : Place) (text more : List ℕ) (p : Element × Sum) → (place.group == 0) ≡ false → element_read place.group place.sum text ≡ Ok (p, more) → (p.0.ident == block) ≡ true → block_sought (suc most) track place text ≡ group_read track place text
unfolding block_sought group_read group_child
found_sought most track place text more p some read is = on_size p.0.size refl
  where
    on_size : (size : Option ℕ) → p.0.size ≡ size → block_sought (suc most) track place text ≡ group_read track place text
    on_size None z = rw (some, read, z) refl
    on_size (Some n) z = rw (some, read, z, is) refl

-- or another one, which is passed
pub passed_sought : (most : ℕ) (track : TrackNumbers) (place : Place) (text more rest : List ℕ) (p : Element × Sum) (n : ℕ) (sum : Sum) → (place.group == 0) ≡ false → element_read place.group place.sum text ≡ Ok (p, more) → (p.0.ident == block) ≡ false → p.0.size ≡ Some n → passed_summed n p.1 more ≡ Ok (sum, rest) →
    block_sought (suc most) track place text ≡ block_sought most track (summed_at (group_at place p.0.left p.1) sum) rest
unfolding block_sought
passed_sought most track place text more rest p n sum some read other sized passed =
    rw (some, read, sized, other) (ap (λ z. read_on z (λ s. block_sought most track (summed_at (group_at place p.0.left p.1) s))) passed)

-- it is refused; or it is what is read in the group; or that is passed, and it is sought after that
abbrev pub Sought : ℕ → TrackNumbers → Place → List ℕ → Type 0
Sought most track place text =
    ((why : Stop) × (block_sought (suc most) track place text ≡ Err why))
    ⊎ (((0 < place.group) × (block_sought (suc most) track place text ≡ group_read track place text))
    ⊎ ((now : Place) × (more : List ℕ) × (0 < place.group) × (group_read track place text ≡ Ok (Some (step_to now), more))
    × (block_sought (suc most) track place text ≡ block_sought most track now more)))

pub sought_cases : (most : ℕ) (track : TrackNumbers) (place : Place) (text : List ℕ) → Sought most track place text
unfolding block_sought group_read group_child passed_on
sought_cases most track place text = on_left (place.group == 0) refl
  where
    on_sound : (p : Element × Sum) (more rest : List ℕ) (n : ℕ) (sum : Sum) → (place.group == 0) ≡ false → element_read place.group place.sum text ≡ Ok (p, more) → p.0.size ≡ Some n → (p.0.ident == block) ≡ false → passed_summed n p.1 more ≡ Ok (sum, rest) →
        (b : Bool) → is_sound (summed_at (group_at place p.0.left p.1) sum) ≡ b → Sought most track place text
    on_sound p more rest n sum some read z other passed true sound =
        let left : 0 < place.group = grind (arith, nat_tests, some) in
        let now : Place = summed_at (group_at place p.0.left p.1) sum in
        inr (inr (now, rest, left, rw (read, z, other, passed, sound) refl, passed_sought most track place text more rest p n sum some read other z passed))
    on_sound p more rest n sum some read z other passed false sound =
        let now : Place = summed_at (group_at place p.0.left p.1) sum in
        let ended : now.group ≡ 0 = grind (arith, nat_tests, sound) in
        inl (Met fault.BadElement rest, passed_sought most track place text more rest p n sum some read other z passed ∙ none_sought most track now rest ended)

    on_passed : (p : Element × Sum) (more : List ℕ) (n : ℕ) → (place.group == 0) ≡ false → element_read place.group place.sum text ≡ Ok (p, more) → p.0.size ≡ Some n → (p.0.ident == block) ≡ false → (z : Result (Sum × List ℕ) Stop) → passed_summed n p.1 more ≡ z → Sought most track place text
    on_passed p more n some read z other (Err why) passed = inl (why, rw (some, read, z, other, passed) refl)
    on_passed p more n some read z other (Ok (sum, rest)) passed = on_sound p more rest n sum some read z other passed (is_sound (summed_at (group_at place p.0.left p.1) sum)) refl

    on_size : (p : Element × Sum) (more : List ℕ) → (place.group == 0) ≡ false → element_read place.group place.sum text ≡ Ok (p, more) → (b : Bool) → (p.0.ident == block) ≡ b → (size : Option ℕ) → p.0.size ≡ size → Sought most track place text
    on_size p more some read true is size z = let left : 0 < place.group = grind (arith, nat_tests, some) in inr (inl (left, found_sought most track place text more p some read is))
    on_size p more some read false other None z = inl (Met fault.BadElement more, rw (some, read, z) refl)
    on_size p more some read false other (Some n) z = on_passed p more n some read z other (passed_summed n p.1 more) refl

    on_header : (place.group == 0) ≡ false → (z : Result ((Element × Sum) × List ℕ) Stop) → element_read place.group place.sum text ≡ z → Sought most track place text
    on_header some (Err why) read = inl (why, rw (some, read) refl)
    on_header some (Ok (p, more)) read = on_size p more some read (p.0.ident == block) refl p.0.size refl

    on_left : (b : Bool) → (place.group == 0) ≡ b → Sought most track place text
    on_left true ended = inl (Met fault.BadElement text, rw ended refl)
    on_left false some = on_header some (element_read place.group place.sum text) refl

-- an element after its header
pub child_found : (on : Place → Reading (Option Step)) (track : TrackNumbers) (e : Element) (place : Place) (n : ℕ) → e.size ≡ Some n → e.ident ≡ block → (text : List ℕ) → sought_child on track e.ident place e.size text ≡ block_read track n place text
child_found on track e place n sized is text = let ours : (e.ident == block) ≡ true = ap (λ i. i == block) is in rw (sized, ours) refl

pub child_passed : (on : Place → Reading (Option Step)) (track : TrackNumbers) (e : Element) (place : Place) (n : ℕ) → e.size ≡ Some n → (e.ident ≡ block → ⊥) → (text : List ℕ) → sought_child on track e.ident place e.size text ≡ (passed_summed n place.sum >>= λ sum. on (summed_at place sum)) text
child_passed on track e place n sized other text = let another : (e.ident == block) ≡ false = ne_eqb _ _ other in rw (sized, another) refl
