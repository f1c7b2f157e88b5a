-- What a reader tells of bytes after the last RIFF is so.
use Rattle.std.proofs.Common.{◌≡◌, inl, inr, true, Ok, Bool, ◌<◌, ℕ, List, [], Option, Some, None, length, ap, subst, sym, ◌∙◌, arith, length-append}
use Rattle.ffv1_wire.specs.Passage.{Passage}
use Rattle.ffv1_avi.specs.declared.place.Extent.{Extent}
use Rattle.ffv1_avi.specs.declared.place.Extent.TheVariants.{FirstMovi, EveryRiff}
use Rattle.ffv1_avi.specs.declared.place.Open.{Open}
use Rattle.ffv1_avi.specs.declared.place.Open.TheVariants.{Sized, OpenRiff, OpenMovi}
use Rattle.ffv1_avi.specs.Opens.{open_found}
use Rattle.ffv1_avi.specs.Places.{extent_of, is_open}
use Rattle.ffv1_avi.proofs.Moves.{extent_first}
use Rattle.ffv1_avi.proofs.OpenCases.{OpenCase, open_case}
use Rattle.ffv1_avi.specs.declared.place.Place.{Place}
use Rattle.ffv1_avi.specs.Behind.{BehindEnd, EndsBehind, IsOver, OpenEnd, StandAfter}
use Rattle.ffv1_avi.specs.Internal.Offsets.{TellsBehind}
use Rattle.ffv1_avi.specs.Offsets.{ReadsUpTo}

-- at the end a reader tells what was found
pub end_told : (extent : Extent) (from : Place) (before : ℕ) (was after : Option ℕ) (open_ended : Bool) (p : Passage) → TellsBehind extent from p.old p.new before after open_ended → BehindEnd extent from before was p after
end_told FirstMovi from before was after open_ended p h = λ none. h.0
end_told EveryRiff from before was after open_ended p h = h.0

-- and whether the last RIFF or movi has a size
pub end_open : (extent : Extent) (from : Place) (before : ℕ) (was : Bool) (after : Option ℕ) (open_ended : Bool) (p : Passage) → TellsBehind extent from p.old p.new before after open_ended → OpenEnd extent from before was p after open_ended
end_open FirstMovi from before was after open_ended p h = λ none. h.1
end_open EveryRiff from before was after open_ended p h = h

module _ (from : Place) (text : List ℕ) (before : ℕ) where
  abbrev EndsAt : Option (List ℕ) → Type 0
  EndsAt new = (new ≡ Some []) × (to : Place) × (end : ℕ) × (to.movi ≡ 0) × (to.open_in ≡ Sized → to.riff ≡ 0) × ReadsUpTo from (Some text) (Some []) to before end

  ends_at : (to : Place) (between : Option (List ℕ)) (end : ℕ) (new : Option (List ℕ)) → ReadsUpTo from (Some text) between to before end → to.movi ≡ 0 → (to.open_in ≡ Sized → to.riff ≡ 0) → StandAfter between new end None → EndsAt new
  ends_at to None end new chunks movi riff told = absurd chunks.1.consumed
  ends_at to (Some left) end None chunks movi riff told = absurd told.0
  ends_at to (Some left) end (Some rest) chunks movi riff told =
      let none : rest ≡ [] = told.1 in
      let empty : left ≡ [] = told.0 ∙ none in
      let P : List ℕ → Type 0 = λ z. ReadsUpTo from (Some text) (Some z) to before end in
      (ap (λ z. Some z) none, to, end, movi, riff, subst P empty chunks)

  abbrev StandsAt : ℕ → Type 0
  StandsAt after = (behind : List ℕ) × (to : Place) × (0 < length behind) × (to.movi ≡ 0) × (to.open_in ≡ Sized → to.riff ≡ 0) × ReadsUpTo from (Some text) (Some behind) to before after

  stands_at : (to : Place) (between : Option (List ℕ)) (end after : ℕ) (new : Option (List ℕ)) → ReadsUpTo from (Some text) between to before end → to.movi ≡ 0 → (to.open_in ≡ Sized → to.riff ≡ 0) → StandAfter between new end (Some after) → StandsAt after
  stands_at to None end after new chunks movi riff told = absurd chunks.1.consumed
  stands_at to (Some left) end after None chunks movi riff told = absurd told.1.2
  stands_at to (Some left) end after (Some rest) chunks movi riff told =
      let bytes = told.1.0 in
      let some : 0 < length left = omega (arith, told.1.1, ap length told.1.2, length-append bytes rest) in
      let P : ℕ → Type 0 = λ n. ReadsUpTo from (Some text) (Some left) to before n in
      (left, to, some, movi, riff, subst P (sym told.0) chunks)

pub none_behind : (from : Place) (text : List ℕ) (new : Option (List ℕ)) (before : ℕ) → EndsBehind from (Some text) new before None → EndsAt from text before new
none_behind from text new before h = ends_at from text before h.to h.between h.end new h.chunks h.movi h.riff h.told

pub some_behind : (from : Place) (text : List ℕ) (new : Option (List ℕ)) (before after : ℕ) → EndsBehind from (Some text) new before (Some after) → StandsAt from text before after
some_behind from text new before after h = stands_at from text before h.to h.between h.end after new h.chunks h.movi h.riff h.told

-- an RIFF or a movi without size ends where the input does
open_case_over : (place : Place) (text rest : List ℕ) → (place.input ≡ 0 → ⊥) → open_found place text ≡ Ok (None, rest) → (text ≡ []) × (rest ≡ [])
open_case_over place text rest some h = on_case (open_case place text (None, rest) h)
  where
    on_case : OpenCase place text None rest → (text ≡ []) × (rest ≡ [])
    on_case (inl none) = absurd (some none.0)
    on_case (inr over) = (over.2, over.3)

pub open_behind : (place : Place) (text rest : List ℕ) → is_open place.open_in ≡ true → extent_of place ≡ EveryRiff → IsOver place.open_in place text rest → (text ≡ []) × (rest ≡ [])
open_behind place text rest unknown every over = by_open place.open_in unknown over
  where
    no_extent : ◌≡◌ {A = Extent} FirstMovi EveryRiff → ⊥
    no_extent e = absurd (cc)

    some : place.input ≡ 0 → ⊥
    some none = no_extent (sym (extent_first place none) ∙ every)

    by_open : (o : Open) → is_open o ≡ true → IsOver o place text rest → (text ≡ []) × (rest ≡ [])
    by_open Sized e over = absurd (cc)
    by_open OpenRiff e over = open_case_over place text rest some over
    by_open OpenMovi e over = open_case_over place text rest some over
