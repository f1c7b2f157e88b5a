-- What is read in a BlockGroup and in a Cluster is their elements.
use Rattle.std.proofs.Common.{◌≡◌, ◌≤◌, ◌<◌, ◌+◌, ◌==◌, ◌∙◌, ◌++◌, ◌∷◌, [], ℕ, suc, zero, List, true, nat_lt, Option, Some, None, Result, Ok, length, refl, sym, ap, subst, arith, append_assoc, length-append}
use Rattle.std.proofs.lemmas.Bool.{lt-ltb}
use Rattle.ffv1_reads.specs.declared.fault.FileFault.TheVariants as fault
use Rattle.ffv1_reads.specs.Reads.{Met, Stop, given, read_on}
use Rattle.ffv1_reads.proofs.Results.{ok_is, read_on_ok}
use Rattle.ffv1_ebml.specs.Elements.{element_read}
use Rattle.ffv1_ebml.specs.Spelled.{SaysSize}
use Rattle.ffv1_ebml.specs.Sums.{summed}
use Rattle.ffv1_ebml.specs.Vints.{number_of}
use Rattle.ffv1_ebml.specs.declared.element.Element.{Element}
use Rattle.ffv1_ebml.specs.declared.sum.Sum.{Sum}
use Rattle.ffv1_ebml.proofs.ElementLaws.{summed_twice}
use Rattle.ffv1_matroska.specs.Elements.{AreLeaves, IsContent, IsLeaf, Leaf, content_frames, content_text, leaf_frames, leaf_text, leaves_frames, leaves_text}
use Rattle.ffv1_matroska.specs.Files.{frames_read}
use Rattle.ffv1_matroska.specs.Places.{group_at, is_sound}
use Rattle.ffv1_matroska.specs.Segments.{block, group_child, group_read, group_rest, step_read}
use Rattle.ffv1_matroska.specs.declared.place.Place.{Place}
use Rattle.ffv1_matroska.specs.declared.place.Step.{Step}
use Rattle.ffv1_matroska.proofs.BlockLaws.{content_read}
use Rattle.ffv1_matroska.proofs.FrameTurns.{Turn, frames_turn, led, step_kept, turn_read, turns_on}
use Rattle.ffv1_matroska.proofs.HeaderLaws.{HasHeader, header_sound}
use Rattle.ffv1_matroska.proofs.PieceLaws.{summed_none}
use Rattle.ffv1_matroska.proofs.ReadBlocks.{content_sound}
use Rattle.ffv1_matroska.proofs.StepBounds.{err_is_no_ok}
use Rattle.ffv1_matroska.specs.declared.track.TrackNumbers.{TrackNumbers}

-- what was read begins with the frames of a turn
pub record HasTurn (track : TrackNumbers) (place : Place) (text : List ℕ) (w : List (List ℕ) × List ℕ) : Type 0 where
  pub turn : Turn
  pub more : List ℕ
  pub read : turn_read track place text ≡ Ok (turn, more)
  pub on : turns_on track turn more ≡ Ok w

pub turn_sound : (track : TrackNumbers) (place : Place) (text : List ℕ) (w : List (List ℕ) × List ℕ) → frames_read track place text ≡ Ok w → HasTurn track place text w
turn_sound track place text w h =
    let first = read_on_ok (turn_read track place text) (turns_on track) w (sym (frames_turn track place text) ∙ h) in
    record { turn = first.0.0; more = first.0.1; read = first.1; on = first.2 }

-- and goes on after them
pub record GoesOn (track : TrackNumbers) (place : Place) (text : List ℕ) (frames : List (List ℕ)) (w : List (List ℕ) × List ℕ) : Type 0 where
  pub later : List (List ℕ)
  pub read : frames_read track place text ≡ Ok (later, w.1)
  pub all : w.0 ≡ frames ++ later

pub led_sound : (track : TrackNumbers) (place : Place) (text : List ℕ) (frames : List (List ℕ)) (w : List (List ℕ) × List ℕ) → led frames (frames_read track place text) ≡ Ok w → GoesOn track place text frames w
led_sound track place text frames w h =
    let first = read_on_ok (frames_read track place text) (λ more. given (frames ++ more)) w h in
    let same = ok_is (frames ++ first.0.0, first.0.1) w first.2 in
    let answer : List ℕ → Result (List (List ℕ) × List ℕ) Stop = λ r. Ok (first.0.0, r) in
    record { later = first.0.0; read = first.1 ∙ ap answer (ap (λ (z : List (List ℕ) × List ℕ). z.1) same); all = ap (λ (z : List (List ℕ) × List ℕ). z.0) (sym same) }

-- after a turn that is known
pub turn_goes : (track : TrackNumbers) (o : Turn) (place : Place) (text : List ℕ) (frames : List (List ℕ)) (w : List (List ℕ) × List ℕ) → o ≡ Some (frames, place) → turns_on track o text ≡ Ok w → GoesOn track place text frames w
turn_goes track o place text frames w is h =
    let P : Turn → Type 0 = λ z. turns_on track z text ≡ Ok w in
    led_sound track place text frames w (subst P is h)

-- an element of a BlockGroup
pub record HasLeaf (track : TrackNumbers) (base : Place) (g : ℕ) (s : Sum) (text : List ℕ) (o : Turn) (rest : List ℕ) : Type 0 where
  pub leaf : Leaf
  pub is : IsLeaf block track leaf
  pub text_is : text ≡ leaf_text leaf ++ rest
  pub left : ℕ
  pub fits : length (leaf_text leaf) + left ≡ g
  pub sound : is_sound (group_at base left (summed s (leaf_text leaf))) ≡ true
  pub turn : o ≡ Some (leaf_frames leaf, group_at base left (summed s (leaf_text leaf)))

pub leaf_sound : (track : TrackNumbers) (base : Place) (g : ℕ) (s : Sum) (text : List ℕ) (o : Turn) (rest : List ℕ) → 0 < g → turn_read track (group_at base g s) text ≡ Ok (o, rest) → HasLeaf track base g s text o rest
unfolding step_read group_read group_child
leaf_sound track base g s text o rest some h =
    let test : nat_lt 0 g ≡ true = lt-ltb _ _ some in
    let whole : read_on (read_on (element_read g s text) (group_rest track (group_at base g s))) step_kept ≡ Ok (o, rest) = rw test at h in
    let first = read_on_ok (read_on (element_read g s text) (group_rest track (group_at base g s))) step_kept (o, rest) whole in
    let second = read_on_ok (element_read g s text) (group_rest track (group_at base g s)) first.0 first.1 in
    on_size second.0.0 second.0.1 first.0 (header_sound g s text second.0.0 second.0.1 second.1) second.0.0.0.size refl second.2 first.2
  where
    on_size : (p : Element × Sum) (more : List ℕ) (q : Option Step × List ℕ) → HasHeader g s text p more → (size : Option ℕ) → p.0.size ≡ size →
        group_child track p.0.ident (group_at base p.0.left p.1) p.0.size more ≡ Ok q → step_kept q.0 q.1 ≡ Ok (o, rest) → HasLeaf track base g s text o rest
    on_size p more q h None z child kept = absurd (err_is_no_ok (Met fault.BadElement more) q (rw z at child))
    on_size p more q h (Some n) z child kept =
        let now : Place = group_at base p.0.left p.1 in
        let read : content_read track (p.0.ident == block) n now more ≡ Ok (o, rest) = ap (λ z. read_on z step_kept) (rw z at child) ∙ kept in
        let c = content_sound track (p.0.ident == block) n now more o rest read in
        let head = h.ident ++ h.size in
        let body = content_text c.content in
        let l : Leaf = record { ident = h.ident; size = h.size; content = c.content } in
        let sums : summed p.1 body ≡ summed s (leaf_text l) = ap (λ (k : Sum). summed k body) h.sum_is ∙ summed_twice s head body in
        let sized : SaysSize h.size (Some (length body)) = rw c.long (rw z at h.is.sized) in
        let fit : length head + (n + p.0.left) ≡ g = rw z at h.left_is in
        let holds : IsContent track (number_of h.ident == block) c.content = rw h.number c.is in
        record {
          leaf = l;
          is = record { named = h.is.named; few = h.is.few; sized = sized; holds = holds };
          text_is = h.text_is ∙ ap (λ z. head ++ z) c.text_is ∙ sym (append_assoc head body rest);
          left = p.0.left;
          fits = omega (arith, fit, c.long, length-append head body);
          sound = ap (λ (k : Sum). is_sound (group_at base p.0.left k)) (sym sums) ∙ c.sound;
          turn = c.turn ∙ ap (λ (k : Sum). Some (content_frames c.content, group_at base p.0.left k)) sums;
        }

-- the elements of a BlockGroup, and what is read after them
pub record HasLeaves (track : TrackNumbers) (base : Place) (g : ℕ) (s : Sum) (text : List ℕ) (w : List (List ℕ) × List ℕ) : Type 0 where
  pub leaves : List Leaf
  pub are : AreLeaves block track leaves
  pub more : List ℕ
  pub text_is : text ≡ leaves_text leaves ++ more
  pub long : length (leaves_text leaves) ≡ g
  pub sound : is_sound (group_at base 0 (summed s (leaves_text leaves))) ≡ true
  pub after : GoesOn track (group_at base 0 (summed s (leaves_text leaves))) more (leaves_frames leaves) w

no_leaves : (track : TrackNumbers) (base : Place) (s : Sum) (text : List ℕ) (w : List (List ℕ) × List ℕ) → is_sound (group_at base 0 s) ≡ true → frames_read track (group_at base 0 s) text ≡ Ok w → HasLeaves track base 0 s text w
no_leaves track base s text w sound read =
    let P : Sum → Type 0 = λ k. is_sound (group_at base 0 k) ≡ true in
    let Q : Sum → Type 0 = λ k. GoesOn track (group_at base 0 k) text [] w in
    let same = sym (summed_none s) in
    record { leaves = []; are = tt; more = text; text_is = refl; long = refl; sound = subst P same sound; after = subst Q same (record { later = w.0; read = read; all = refl }) }

pub leaves_sound : (most : ℕ) (track : TrackNumbers) (base : Place) (g : ℕ) (s : Sum) (text : List ℕ) (w : List (List ℕ) × List ℕ) → g ≤ most → is_sound (group_at base g s) ≡ true → frames_read track (group_at base g s) text ≡ Ok w → HasLeaves track base g s text w
leaves_sound most track base zero s text w fits sound read = no_leaves track base s text w sound read
leaves_sound zero track base (suc g) s text w fits sound read = absurd (omega (arith, fits))
leaves_sound (suc most) track base (suc g) s text w fits sound read =
    let first = turn_sound track (group_at base (suc g) s) text w read in
    let leaf = leaf_sound track base (suc g) s text first.turn first.more (omega arith) first.read in
    let on = turn_goes track first.turn (group_at base leaf.left (summed s (leaf_text leaf.leaf))) first.more (leaf_frames leaf.leaf) w leaf.turn first.on in
    let some : 1 ≤ length (leaf_text leaf.leaf) = omega (arith, leaf.is.named.0, length-append (leaf.leaf.ident ++ leaf.leaf.size) (content_text leaf.leaf.content), length-append leaf.leaf.ident leaf.leaf.size) in
    let next = leaves_sound most track base leaf.left (summed s (leaf_text leaf.leaf)) first.more (on.later, w.1) (omega (arith, leaf.fits, some, fits)) leaf.sound on.read in
    let front = leaf_text leaf.leaf in
    let back = leaves_text next.leaves in
    let sums : summed (summed s front) back ≡ summed s (front ++ back) = summed_twice s front back in
    let P : Sum → Type 0 = λ k. is_sound (group_at base 0 k) ≡ true in
    let Q : Sum → Type 0 = λ k. GoesOn track (group_at base 0 k) next.more (leaf_frames leaf.leaf ++ leaves_frames next.leaves) w in
    record {
      leaves = leaf.leaf ∷ next.leaves;
      are = (leaf.is, next.are);
      more = next.more;
      text_is = leaf.text_is ∙ ap (λ z. front ++ z) next.text_is ∙ sym (append_assoc front back next.more);
      long = length-append front back ∙ (omega (arith, next.long, leaf.fits));
      sound = subst P sums next.sound;
      after = subst Q sums (record { later = next.after.later; read = next.after.read; all = on.all ∙ ap (λ z. leaf_frames leaf.leaf ++ z) next.after.all ∙ sym (append_assoc (leaf_frames leaf.leaf) (leaves_frames next.leaves) next.after.later) });
    }
