-- The coded frames that frames show, as they grow by one: one that repeats another shows the last
-- coded one.
use Rattle.std.proofs.Common.{◌≡◌, refl, Option, Some, None, List, [], ◌∷◌, ◌++◌, map, ap, sym, ◌∙◌, append-nil, append_assoc}
use Rattle.ffv1_unpack.specs.Stream.{Again, Coded, CodedFrame, Frame, coded_frames, last_of, shown_after, shown_frames, those}

-- what one shows after this coded frame, and which one is the last then
abbrev pub shows_after : Option CodedFrame → Frame → List CodedFrame
shows_after last (Coded f) = f ∷ []
shows_after last Again = those last

abbrev last_then : Option CodedFrame → Frame → Option CodedFrame
last_then last (Coded f) = Some f
last_then last Again = last

last_after : Option CodedFrame → List Frame → Option CodedFrame
last_after last [] = last
last_after last (f ∷ fs) = last_after (last_then last f) fs

shown_grows : (last : Option CodedFrame) (frames : List Frame) (f : Frame) → shown_after last (frames ++ (f ∷ [])) ≡ shown_after last frames ++ shows_after (last_after last frames) f
unfolding last_after
shown_grows last [] (Coded f) = refl
shown_grows last [] Again = append-nil (those last)
shown_grows last (Coded g ∷ gs) f = ap (λ z. g ∷ z) (shown_grows (Some g) gs f)
shown_grows last (Again ∷ gs) f = ap (λ z. those last ++ z) (shown_grows last gs f) ∙ sym (append_assoc (those last) (shown_after last gs) (shows_after (last_after last gs) f))

last_some : (g : CodedFrame) (frames : List Frame) → last_after (Some g) frames ≡ last_of (g ∷ coded_frames frames)
unfolding last_after
last_some g [] = refl
last_some g (Coded f ∷ fs) = last_some f fs
last_some g (Again ∷ fs) = last_some g fs

last_none : (frames : List Frame) → last_after None frames ≡ last_of (coded_frames frames)
unfolding last_after
last_none [] = refl
last_none (Coded f ∷ fs) = last_some f fs
last_none (Again ∷ fs) = last_none fs

pub shown_more : (frames : List Frame) (f : Frame) → shown_frames (frames ++ (f ∷ [])) ≡ shown_frames frames ++ shows_after (last_of (coded_frames frames)) f
shown_more frames f = shown_grows None frames f ∙ ap (λ z. shown_frames frames ++ shows_after z f) (last_none frames)

-- those of more frames
shown_on : (last : Option CodedFrame) (frames more : List Frame) → shown_after last (frames ++ more) ≡ shown_after last frames ++ shown_after (last_after last frames) more
unfolding last_after
shown_on last [] more = refl
shown_on last (Coded g ∷ gs) more = ap (λ z. g ∷ z) (shown_on (Some g) gs more)
shown_on last (Again ∷ gs) more = ap (λ z. those last ++ z) (shown_on last gs more) ∙ sym (append_assoc (those last) (shown_after last gs) (shown_after (last_after last gs) more))

pub shown_behind : (frames more : List Frame) → shown_frames (frames ++ more) ≡ shown_frames frames ++ shown_after (last_of (coded_frames frames)) more
shown_behind frames more = shown_on None frames more ∙ ap (λ z. shown_frames frames ++ shown_after z more) (last_none frames)

-- the last one that is shown is the last coded one
shown_some : (g : CodedFrame) (frames : List Frame) → last_of (g ∷ shown_after (Some g) frames) ≡ last_after (Some g) frames
unfolding last_after
shown_some g [] = refl
shown_some g (Coded f ∷ fs) = shown_some f fs
shown_some g (Again ∷ fs) = shown_some g fs

shown_none : (frames : List Frame) → last_of (shown_after None frames) ≡ last_after None frames
unfolding last_after
shown_none [] = refl
shown_none (Coded f ∷ fs) = shown_some f fs
shown_none (Again ∷ fs) = shown_none fs

pub shown_last : (frames : List Frame) → last_of (shown_frames frames) ≡ last_of (coded_frames frames)
shown_last frames = shown_none frames ∙ last_none frames

-- one that is coded is the last one
pub coded_more : (frames : List Frame) (f : CodedFrame) → coded_frames (frames ++ (Coded f ∷ [])) ≡ coded_frames frames ++ (f ∷ [])
coded_more [] f = refl
coded_more (Coded g ∷ gs) f = ap (λ z. g ∷ z) (coded_more gs f)
coded_more (Again ∷ gs) f = coded_more gs f

pub coded_again : (frames : List Frame) → coded_frames (frames ++ (Again ∷ [])) ≡ coded_frames frames
coded_again [] = refl
coded_again (Coded g ∷ gs) = ap (λ z. g ∷ z) (coded_again gs)
coded_again (Again ∷ gs) = coded_again gs

pub last_is : {X : Type 0} (xs : List X) (x : X) → last_of (xs ++ (x ∷ [])) ≡ Some x
last_is [] x = refl
last_is (y ∷ []) x = refl
last_is (y ∷ z ∷ zs) x = last_is (z ∷ zs) x

-- a list that has no last one is empty
some_last : {X : Type 0} (y : X) (ys : List X) → last_of (y ∷ ys) ≡ None → ⊥
some_last y [] none = absurd (cc)
some_last y (z ∷ zs) none = some_last z zs none

pub no_last : {X : Type 0} (xs : List X) → last_of xs ≡ None → xs ≡ []
no_last [] none = refl
no_last (y ∷ ys) none = absurd (some_last y ys none)

-- frames that are all coded show themselves
all_after : (last : Option CodedFrame) (frames : List CodedFrame) → shown_after last (map Coded frames) ≡ frames
all_after last [] = refl
all_after last (f ∷ fs) = ap (λ z. f ∷ z) (all_after (Some f) fs)

pub all_shown : (frames : List CodedFrame) → shown_frames (map Coded frames) ≡ frames
all_shown frames = all_after None frames

pub all_coded : (frames : List CodedFrame) → coded_frames (map Coded frames) ≡ frames
all_coded [] = refl
all_coded (f ∷ fs) = ap (λ z. f ∷ z) (all_coded fs)
