-- Lists that grow at their end, and files that are read on.
use Rattle.std.proofs.Common.{◌≡◌, refl, ℕ, suc, ◌==◌, Bool, true, Option, Some, None, Ok, List, [], ◌∷◌, ◌++◌, length, map, ap, subst, arith}
use Rattle.std.proofs.lemmas.Grind.{common_steps}
use Rattle.std.specs.declared.vec.Vec.{Vec}
use Rattle.std.specs.Vec.{vec_len}
use Rattle.ffv1_files.specs.Places.{Place}
use Rattle.ffv1_files.specs.Files.{frame_read}
use Rattle.ffv1_reads.specs.Known.{Known}
use Rattle.ffv1_unpack.specs.Stream.{AreAll, ReadsFrames}
use Rattle.ffv1_unpack.specs.Internal.Play.{NextIs}
use Rattle.ffv1_unpack.specs.Play.{but_last}

pub but_last_more : {X : Type 0} (xs : List X) (x : X) → but_last (xs ++ (x ∷ [])) ≡ xs
but_last_more [] x = refl
but_last_more (y ∷ []) x = refl
but_last_more (y ∷ z ∷ zs) x = ap (λ l. y ∷ l) (but_last_more (z ∷ zs) x)

pub all_more : {X : Type 0} (Is : X → Type 0) (xs : List X) (x : X) → AreAll Is xs → Is x → AreAll Is (xs ++ (x ∷ []))
all_more Is [] x are is = (is, tt)
all_more Is (y ∷ ys) x are is = (are.0, all_more Is ys x are.1 is)

pub counted_more : {X : Type 0} (xs : List X) (x : X) → suc (length xs) ≡ length (xs ++ (x ∷ []))
counted_more [] x = refl
counted_more (y ∷ ys) x = ap suc (counted_more ys x)

frames_more : {X : Type 0} (payload : X → List ℕ) (from : Place) (text : List ℕ) (xs : List X) (to : Place) (at : List ℕ) (x : X) (last : Place) (rest : List ℕ) →
    ReadsFrames from text (map payload xs) to at → frame_read to at ≡ Ok (Some (payload x, last), rest) → ReadsFrames from text (map payload (xs ++ (x ∷ []))) last rest
frames_more payload from text [] to at x last rest h next = (
  last,
  rest,
  subst (λ l. frame_read l text ≡ Ok (Some (payload x, last), rest)) h.0 (subst (λ t. frame_read to t ≡ Ok (Some (payload x, last), rest)) h.1 next),
  (refl, refl),
)
frames_more payload from text (y ∷ ys) to at x last rest h next = (h.0, h.1, h.2, frames_more payload h.0 h.1 ys to at x last rest h.3 next)

pub reads_none : (from : Place) (o : Option (List ℕ)) → Known o o (λ bytes rest. ReadsFrames from bytes [] from rest)
reads_none from None = tt
reads_none from (Some text) = (refl, refl)

pub reads_more : {X : Type 0} (payload : X → List ℕ) (from to last : Place) (o m n : Option (List ℕ)) (xs : List X) (x : X) → Known o m (λ bytes rest. ReadsFrames from bytes (map payload xs) to rest) →
    NextIs to m n (Some (payload x, last)) → Known o n (λ bytes rest. ReadsFrames from bytes (map payload (xs ++ (x ∷ []))) last rest)
reads_more payload from to last None m n xs x h next = tt
reads_more payload from to last (Some text) None n xs x h next = absurd h
reads_more payload from to last (Some text) (Some at) None xs x h next = absurd next
reads_more payload from to last (Some text) (Some at) (Some rest) xs x h next = frames_more payload from text xs to at x last rest h next

-- a list that has no length
pub none_long : {X : Type 0} (xs : List X) → length xs ≡ 0 → xs ≡ []
none_long [] none = refl
none_long (x ∷ xs) none = absurd (omega (arith, none))

-- bytes of which there are none
pub no_bytes : {A : Type 0} (v : Vec ℕ A) {empty : Bool} → empty ≡ (vec_len v == 0) → empty ≡ true → v.items ≡ []
no_bytes v is none = none_long v.items (grind (arith, common_steps, is, none))
