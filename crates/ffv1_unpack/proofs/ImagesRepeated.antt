-- The last image is written once more.
use Rattle.std.proofs.Common.{◌≡◌, refl, ℕ, ◌<◌, true, Option, Some, None, Result, Ok, Err, List, [], ◌∷◌, ◌++◌, length, ap, sym, subst, ◌∙◌, arith}
use Rattle.std.specs.List.{flat_map}
use Rattle.std.specs.Io.KnownBytes.{Appends}
use Rattle.std.proofs.KnownBytes.{Appends-nil}
use Rattle.ffv1_wire.specs.Passage.{Passage, between}
use Rattle.ffv1_record.specs.Accepted.{Accepted}
use Rattle.ffv1_record.specs.Configuration.{Configuration}
use Rattle.ffv1_codec.specs.Outcome.{OffersLine}
use Rattle.ffv1_reads.proofs.Results.{some_is}
use Rattle.ffv1_y4m.specs.Sink.{PpmSink}
use Rattle.ffv1_video.specs.declared.fault.Fault.{Fault}
use Rattle.ffv1_unpack.specs.Internal.ImagesOut.{IsLastPayload, IsPayloadOf, RepeatsImage, image_of}
use Rattle.ffv1_unpack.specs.Internal.Salvage.{CutBy, PutsPictures}
use Rattle.ffv1_unpack.specs.Stream.{Again, AreAll, AreFrames, Coded, CodedFrame, Frame, IsCoded, Stream, coded_frames, last_of, those}
use Rattle.ffv1_unpack.specs.Unpacked.{is_ppm_stream, ppm_text, text_by}

-- a payload that has bytes is that of a coded frame
pub last_some : (o : Option CodedFrame) (payload : List ℕ) → IsPayloadOf o payload → 0 < length payload → (f : CodedFrame) × (o ≡ Some f) × (payload ≡ f.payload)
last_some None payload is some =
    let none : length payload ≡ 0 = ap (λ (p : List ℕ). length p) is in
    absurd (omega (arith, none, some))
last_some (Some f) payload is some = (f, refl, is.0)

-- which is one of the frames
coded_all : (a : Accepted) (frames : List Frame) → AreFrames a frames → AreAll (IsCoded a) (coded_frames frames)
coded_all a [] are = tt
coded_all a (Coded f ∷ fs) are = (are.0, coded_all a fs are.1)
coded_all a (Again ∷ fs) are = coded_all a fs are.1

last_all : {X : Type 0} (Is : X → Type 0) (xs : List X) (x : X) → AreAll Is xs → last_of xs ≡ Some x → Is x
last_all Is [] x are is = absurd (cc)
last_all Is (y ∷ []) x are is = subst Is (some_is y x is) are.0
last_all Is (y ∷ z ∷ zs) x are is = last_all Is (z ∷ zs) x are.1 is

pub last_coded : (a : Accepted) (frames : List Frame) (f : CodedFrame) → AreFrames a frames → last_of (coded_frames frames) ≡ Some f → IsCoded a f
last_coded a frames f are is = last_all (IsCoded a) (coded_frames frames) f (coded_all a frames are) is

-- before the first one nothing is written
nothing_shown : (c : Configuration) (o : Option CodedFrame) (payload : List ℕ) → IsPayloadOf o payload → length payload ≡ 0 → flat_map (image_of c) (those o) ≡ []
nothing_shown c None payload is none = refl
nothing_shown c (Some f) payload is none = absurd (let some = is.1 in omega (arith, none, some))

pub repeats_none : (a : Accepted) (frames : List Frame) (payload : List ℕ) (o : Option (List ℕ)) (n : ℕ) → IsLastPayload frames payload → length payload ≡ 0 → RepeatsImage a frames payload (between o o n n) (Ok tt)
repeats_none a frames payload o n is none = (refl, subst (Appends o o) (sym (nothing_shown a.configuration (last_of (coded_frames frames)) payload is none)) (Appends-nil o))

-- and after it the last one
first_is : (x y : CodedFrame) → x ∷ [] ≡ y ∷ [] → x ≡ y
first_is x y e = cc

module _ {P : Type 0} (ready : Stream → List CodedFrame → P → Type 0) (s : Stream) (ppm : is_ppm_stream s ≡ true) (frames : List Frame) (f : CodedFrame) (last : last_of (coded_frames frames) ≡ Some f)
    (payload : List ℕ) (of : payload ≡ f.payload) (p : Passage) (new : P) where
  pub repeats_whole : PutsPictures ready s [] (f ∷ []) p new (Ok tt) → RepeatsImage s.accepted frames payload p (Ok tt)
  repeats_whole h =
      let image : flat_map (image_of s.accepted.configuration) (those (last_of (coded_frames frames))) ≡ ppm_text s (f ∷ []) = ap (λ (o : Option CodedFrame). flat_map (image_of s.accepted.configuration) (those o)) last in
      let text : ppm_text s (f ∷ []) ≡ h.2 = sym (ap (λ b. text_by b s (f ∷ [])) ppm) ∙ h.3 ∙ ap (λ b. text_by b s [] ++ h.2) ppm in
      (h.1, subst (Appends p.old p.new) (sym (image ∙ text)) h.4)

  pub repeats_cut : (e : Fault) → PutsPictures ready s [] (f ∷ []) p new (Err e) → RepeatsImage s.accepted frames payload p (Err e)
  repeats_cut e h =
      let cut : CutBy true s [] (f ∷ []) p = subst (λ b. CutBy b s [] (f ∷ []) p) ppm h.2 in
      let same : payload ≡ cut.0.payload = of ∙ ap (λ (z : CodedFrame). z.payload) (first_is f cut.0 cut.1) in
      (h.0, h.1, (f, last, of), cut.2, cut.3, subst (λ (bytes : List ℕ). OffersLine s.accepted bytes cut.2 cut.3) (sym same) cut.4, cut.5)

-- a sink that took nothing before writes it so
pub repeats_from : {W : Type 0} (contents : W → Option (List ℕ)) (failed : W → ℕ) (a b : Accepted) (frames : List Frame) (payload : List ℕ) (s t u : PpmSink W) (r : Result (Unit {0}) Fault) → t ≡ s → b ≡ a →
    RepeatsImage b frames payload (between (contents t.out) (contents u.out) (failed t.out) (failed u.out)) r → RepeatsImage a frames payload (between (contents s.out) (contents u.out) (failed s.out) (failed u.out)) r
repeats_from {W = W} contents failed a b frames payload s t u r same is h =
    subst (λ (z : PpmSink W). RepeatsImage a frames payload (between (contents z.out) (contents u.out) (failed z.out) (failed u.out)) r) same
    (subst (λ z. RepeatsImage z frames payload (between (contents t.out) (contents u.out) (failed t.out) (failed u.out)) r) is h)
