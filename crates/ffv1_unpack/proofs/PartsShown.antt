-- What a part of frames shows.
use Rattle.std.proofs.Common.{◌≡◌, refl, ℕ, ◌<◌, true, Option, Some, None, List, [], ◌∷◌, ◌++◌, length, ap, sym, ◌∙◌, arith}
use Rattle.ffv1_files.specs.declared.notes.Notes.{Notes}
use Rattle.ffv1_reads.specs.Head.{Head}
use Rattle.ffv1_video.specs.declared.profile.Profile.{Profile}
use Rattle.ffv1_unpack.specs.Plays.{FramesEnd, NextBehind, has_more}
use Rattle.ffv1_unpack.specs.Ranges.{PartThen, RangeThen}
use Rattle.ffv1_unpack.specs.Stream.{Again, AreAll, Coded, CodedFrame, Frame, bytes_or, coded_frames, frames_after, last_bytes, last_of, payloads, shown_after, shown_by, shown_frames}
use Rattle.ffv1_unpack.proofs.FramesCarried.{or_none}
use Rattle.ffv1_unpack.proofs.FramesInParts.{payloads_behind}

pub part_shown : (last : Option CodedFrame) (frames : List Frame) → shown_frames (frames_after last frames) ≡ shown_after last frames
part_shown None frames = refl
part_shown (Some f) [] = refl
part_shown (Some f) (Coded g ∷ gs) = refl
part_shown (Some f) (Again ∷ gs) = refl

-- ---- payloads

abbrev HaveBytes : List CodedFrame → Type 0
HaveBytes frames = AreAll (λ (f : CodedFrame). 0 < length f.payload) frames

-- that of a frame, if there is one
abbrev payload_in : Option CodedFrame → List ℕ
payload_in None = []
payload_in (Some f) = f.payload

itself : (p other : List ℕ) → 0 < length p → bytes_or p other ≡ p
itself [] other some = absurd (omega (arith, some))
itself (b ∷ bs) other some = refl

-- the last of some has bytes
last_itself : (f : CodedFrame) (fs : List CodedFrame) (other : List ℕ) → HaveBytes (f ∷ fs) → bytes_or (payload_in (last_of (f ∷ fs))) other ≡ payload_in (last_of (f ∷ fs))
last_itself f [] other are = itself f.payload other are.0
last_itself f (g ∷ gs) other are = last_itself g gs other are.1

after_first : (f : CodedFrame) (fs : List CodedFrame) → HaveBytes fs → bytes_or (payload_in (last_of fs)) f.payload ≡ payload_in (last_of (f ∷ fs))
after_first f [] are = refl
after_first f (g ∷ gs) are = last_itself g gs f.payload are

-- the last payload that has bytes is that of the last coded frame
last_payload : (frames : List Frame) → HaveBytes (coded_frames frames) → last_bytes (payloads frames) ≡ payload_in (last_of (coded_frames frames))
last_payload [] are = refl
last_payload (Coded f ∷ fs) are = ap (λ z. bytes_or z f.payload) (last_payload fs are.1) ∙ after_first f (coded_frames fs) are.1
last_payload (Again ∷ fs) are = or_none (last_bytes (payloads fs)) ∙ last_payload fs are

on_last : (last : Option CodedFrame) (frames : List Frame) → HaveBytes (coded_frames frames) → payloads (frames_after last frames) ≡ shown_by (payload_in last) (payloads frames)
on_last None [] are = refl
on_last (Some f) [] are = refl
on_last None (Coded g ∷ gs) are = ap (λ z. z ∷ payloads gs) (sym (itself g.payload [] are.0))
on_last (Some f) (Coded g ∷ gs) are = ap (λ z. z ∷ payloads gs) (sym (itself g.payload f.payload are.0))
on_last None (Again ∷ gs) are = refl
on_last (Some f) (Again ∷ gs) are = refl

pub part_payloads : (before frames : List Frame) → HaveBytes (coded_frames before) → HaveBytes (coded_frames frames) → payloads (frames_after (last_of (coded_frames before)) frames) ≡ shown_by (last_bytes (payloads before)) (payloads frames)
part_payloads before frames held are = on_last (last_of (coded_frames before)) frames are ∙ ap (λ z. shown_by z (payloads frames)) (sym (last_payload before held))

pub payloads_of_part : (profile : Profile) (head other : Head) (first : ℕ) (most : Option ℕ) (carried : List ℕ) (held some : List (List ℕ)) (file rest left : List ℕ) → RangeThen profile 0 head held FramesEnd file rest → (notes : Notes) →
    PartThen profile first carried other some (NextBehind notes most (length some)) file left →
    (before : List (List ℕ)) × (own : List (List ℕ)) × (more : List (List ℕ)) × (length before ≡ first) × (held ≡ before ++ (own ++ more)) × (other ≡ head) × (some ≡ shown_by (last_bytes before) own) × (has_more most (length some) ≡ true → more ≡ [])
payloads_of_part profile head other first most carried held some file rest left whole notes p =
    let b = payloads_behind profile head other most (length some) p.0 held p.3 file rest left whole notes p.5 in
    (p.0, p.3, b.0, p.1, b.1, b.2, p.4 ∙ ap (λ c. shown_by c p.3) p.2, b.3)
