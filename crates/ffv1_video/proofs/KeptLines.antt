-- A new sink keeps the lines of pictures of its configuration.
use Rattle.ffv1_samples.specs.Samples.{sample_bytes}
use Rattle.std.proofs.Common.{◌≡◌, refl, ℕ, ◌+◌, ◌*◌, ◌<◌, Option, Some, List, get_or, replicate, [], length, ap, sym, subst, ◌∙◌, arith}
use Rattle.std.proofs.lemmas.List.{length-replicate}
use Rattle.std.proofs.lemmas.List.FromFn.{get_or-map-range_with_len, length-map-range_with_len}
use Rattle.std.proofs.lemmas.Option.{slice_get-get_or}
use Rattle.ffv1_record.specs.Accepted.{Accepted}
use Rattle.ffv1_slice.specs.Grid.{Division, across, division_of, down, whole_of}
use Rattle.ffv1_frame.specs.Kept.{Kept, zeros_of}
use Rattle.ffv1_frame.specs.Picture.{AreOf, samples_in}
use Rattle.ffv1_video.specs.KeptLines.{IsKeptFor}

-- planes of zeros are planes
pub zeros_are : (d : Division) → AreOf d (zeros_of d)
zeros_are d =
    let f : ℕ → List ℕ = λ p. replicate (sample_bytes d.depth * (whole_of (across d p) * whole_of (down d p))) 0 in
    let many : length (zeros_of d) ≡ d.planes = length-map-range_with_len f 0 d.planes in
    record {
      count = many;
      sizes = λ p inside.
          let within : p < length (zeros_of d) = omega (arith, many, inside) in
          let none : 0 + p ≡ p = omega arith in
          let item : get_or (zeros_of d) p [] ≡ f p = get_or-map-range_with_len f 0 d.planes p p [] inside none in
          ap (λ (o : Option (List ℕ)). length (samples_in o)) (slice_get-get_or (zeros_of d) p [] within ∙ ap Some item) ∙ length-replicate (sample_bytes d.depth * (whole_of (across d p) * whole_of (down d p))) 0;
    }

-- a sink that is new keeps the lines of its pictures
pub zeros_kept : (a b : Accepted) (kept : Kept) → b ≡ a →
    kept ≡ record { grid = division_of b.configuration; planes = zeros_of (division_of b.configuration); failures = 0 } → IsKeptFor a kept
zeros_kept a b kept same is =
    subst (λ z. IsKeptFor z kept) same (subst (IsKeptFor b) (sym is) (record { grid = refl; planes = zeros_are (division_of b.configuration) }))
