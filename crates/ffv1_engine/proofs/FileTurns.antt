-- A file that is read whole, frame by frame.
use Rattle.std.proofs.Common.{◌≡◌, refl, ℕ, Option, Some, None, Result, Ok, Err, List, [], ◌∷◌, ◌++◌, inl, inr, ap, sym, subst, ◌∙◌}
use Rattle.ffv1_files.specs.declared.container.Scope.{Scope}
use Rattle.ffv1_files.specs.Places.{Place}
use Rattle.ffv1_files.specs.Files.{file_read, frame_read, frames_read, more_frames, open_read}
use Rattle.ffv1_reads.specs.Head.{Head}
use Rattle.ffv1_reads.specs.Reads as avi
use Rattle.ffv1_video.specs.declared.fault.Fault.{Fault}
use Rattle.ffv1_unpack.specs.Play.{FaultsRead}
use Rattle.ffv1_unpack.specs.Stream.{ReadsFrames}

-- what was read, apart from what is left
is_read : {X : Type 0} → Result X avi.Stop → Option X
is_read (Ok x) = Some x
is_read (Err f) = None

no_read : {X : Type 0} (r : Result X avi.Stop) (why : avi.Stop) (x : X) → r ≡ Err why → r ≡ Ok x → ⊥
no_read r why x e f = cc

same_read : {X : Type 0} (r : Result X avi.Stop) (x y : X) → r ≡ Ok x → r ≡ Ok y → x ≡ y
same_read r x y e f = cc

-- bytes that have a fault are not read
pub no_fault : {X : Type 0} (reading : avi.Reading X) (text rest : List ℕ) (f : Fault) (x : X × List ℕ) → FaultsRead reading text rest f → reading text ≡ Ok x → ⊥
no_fault reading text rest f x (inl h) e = no_read (reading text) _ x h.1 e
no_fault reading text rest f x (inr h) e = no_read (reading text) _ x h.1 e

-- a file is its head and then its frames
pub record Opened (scope : Scope) (file : List ℕ) (head : Head) (frames : List (List ℕ)) (rest : List ℕ) : Type 0 where
  pub from : Place
  pub behind : List ℕ
  pub opened : open_read scope file ≡ Ok ((head, from), behind)
  pub read : frames_read from behind ≡ Ok (frames, rest)

abbrev Pair : Type 0
Pair = Head × List (List ℕ)

frames_with : (r : Result (List (List ℕ) × List ℕ) avi.Stop) (first head : Head) (frames : List (List ℕ)) (rest : List ℕ) →
    avi.read_on {Y = Pair} r (λ fs. avi.given (first, fs)) ≡ Ok ((head, frames), rest) → (first ≡ head) × (r ≡ Ok (frames, rest))
frames_with (Err why) first head frames rest e = absurd (cc)
frames_with (Ok p) first head frames rest e =
    let same : ((first, p.0), p.1) ≡ ((head, frames), rest) = same_read (Ok ((first, p.0), p.1)) _ _ refl e in
    (ap (λ (z : Pair × List ℕ). z.0.0) same, ap (λ (z : Pair × List ℕ). Ok (z.0.1, z.1)) same)

opened_with : (scope : Scope) (r : Result ((Head × Place) × List ℕ) avi.Stop) (file : List ℕ) (head : Head) (frames : List (List ℕ)) (rest : List ℕ) → open_read scope file ≡ r →
    avi.read_on {Y = Pair} r (λ p text. avi.read_on {Y = Pair} (frames_read p.1 text) (λ fs. avi.given (p.0, fs))) ≡ Ok ((head, frames), rest) → Opened scope file head frames rest
opened_with scope (Err why) file head frames rest is e = absurd (cc)
opened_with scope (Ok p) file head frames rest is e =
    let parts = frames_with (frames_read p.0.1 p.1) p.0.0 head frames rest e in
    record { from = p.0.1; behind = p.1; opened = is ∙ ap (λ h. Ok ((h, p.0.1), p.1)) parts.0; read = parts.1 }

pub opened : (scope : Scope) (file : List ℕ) (head : Head) (frames : List (List ℕ)) (rest : List ℕ) → file_read scope file ≡ Ok ((head, frames), rest) → Opened scope file head frames rest
opened scope file head frames rest e = opened_with scope (open_read scope file) file head frames rest refl e

-- so many frames are a beginning of them all, and after them the others are read
pub record Others (from : Place) (at : List ℕ) (frames all : List (List ℕ)) (rest : List ℕ) : Type 0 where
  pub more : List (List ℕ)
  pub parts : all ≡ frames ++ more
  pub read : frames_read from at ≡ Ok (more, rest)

module _ (next : (from : Place) (text : List ℕ) → frames_read from text ≡ avi.read_on (frame_read from text) (more_frames frames_read)) where
  tail_with : (r : Result (List (List ℕ) × List ℕ) avi.Stop) (f : List ℕ) (all : List (List ℕ)) (rest : List ℕ) →
      avi.read_on r (λ fs. avi.given (f ∷ fs)) ≡ Ok (all, rest) → (more : List (List ℕ)) × (all ≡ f ∷ more) × (r ≡ Ok (more, rest))
  tail_with (Err why) f all rest e = absurd (cc)
  tail_with (Ok p) f all rest e =
      let same : (f ∷ p.0, p.1) ≡ (all, rest) = same_read (Ok (f ∷ p.0, p.1)) _ _ refl e in
      (p.0, sym (ap (λ (z : List (List ℕ) × List ℕ). z.0) same), ap (λ (z : List (List ℕ) × List ℕ). Ok (p.0, z.1)) same)

  -- one frame more
  pub one_more : (from after : Place) (text behind f : List ℕ) (all : List (List ℕ)) (rest : List ℕ) → frame_read from text ≡ Ok (Some (f, after), behind) → frames_read from text ≡ Ok (all, rest) →
      (more : List (List ℕ)) × (all ≡ f ∷ more) × (frames_read after behind ≡ Ok (more, rest))
  one_more from after text behind f all rest here is =
      tail_with (frames_read after behind) f all rest (ap (λ z. avi.read_on z (more_frames frames_read)) (sym here) ∙ sym (next from text) ∙ is)

  -- no frame more
  pub no_more : (from : Place) (text behind : List ℕ) (all : List (List ℕ)) (rest : List ℕ) → frame_read from text ≡ Ok (None, behind) → frames_read from text ≡ Ok (all, rest) → all ≡ []
  no_more from text behind all rest here is =
      let none : Ok ([], behind) ≡ frames_read from text = ap (λ z. avi.read_on z (more_frames frames_read)) (sym here) ∙ sym (next from text) in
      ap (λ (z : List (List ℕ) × List ℕ). z.0) (same_read (frames_read from text) (all, rest) ([], behind) is (sym none))

  -- and what is left is left behind all
  pub none_left : (from : Place) (text behind : List ℕ) (all : List (List ℕ)) (rest : List ℕ) → frame_read from text ≡ Ok (None, behind) → frames_read from text ≡ Ok (all, rest) → behind ≡ rest
  none_left from text behind all rest here is =
      let none : Ok ([], behind) ≡ frames_read from text = ap (λ z. avi.read_on z (more_frames frames_read)) (sym here) ∙ sym (next from text) in
      ap (λ (z : List (List ℕ) × List ℕ). z.1) (same_read (frames_read from text) ([], behind) (all, rest) (sym none) is)

  -- nor a fault in the place of one
  pub no_stop : (from : Place) (text behind : List ℕ) (f : Fault) (all : List (List ℕ)) (rest : List ℕ) → FaultsRead (frame_read from) text behind f → frames_read from text ≡ Ok (all, rest) → ⊥
  no_stop from text behind f all rest (inl h) is =
      no_read (frames_read from text) _ (all, rest) (next from text ∙ ap (λ z. avi.read_on z (more_frames frames_read)) h.1) is
  no_stop from text behind f all rest (inr h) is =
      no_read (frames_read from text) _ (all, rest) (next from text ∙ ap (λ z. avi.read_on z (more_frames frames_read)) h.1) is

  pub others : (from : Place) (text : List ℕ) (frames : List (List ℕ)) (to : Place) (at : List ℕ) (all : List (List ℕ)) (rest : List ℕ) → ReadsFrames from text frames to at → frames_read from text ≡ Ok (all, rest) →
      Others to at frames all rest
  others from text [] to at all rest h is = record {
    more = all;
    parts = refl;
    read = subst (λ l. frames_read l at ≡ Ok (all, rest)) (sym h.0) (subst (λ t. frames_read from t ≡ Ok (all, rest)) (sym h.1) is);
  }
  others from text (f ∷ fs) to at all rest (after, behind, here, more) is =
      let turn = one_more from after text behind f all rest here is in
      let rest_of = others after behind fs to at turn.0 rest more turn.2 in
      record { more = rest_of.more; parts = turn.1 ∙ ap (λ z. f ∷ z) rest_of.parts; read = rest_of.read }
