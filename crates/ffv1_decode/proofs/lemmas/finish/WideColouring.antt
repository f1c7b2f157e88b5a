-- How the lines of RCT of 16 bits a sample stand.
use Rattle.std.proofs.Common.{◌≡◌, false, ap}
use Rattle.ffv1_record.specs.Configuration.{Configuration}
use Rattle.ffv1_decode.specs.Internal.Finished.{colouring_of, words_colouring}

-- nothing changes places at 16 bits
pub wide_colouring : (c : Configuration) → c.depth ≡ 16 → colouring_of c ≡ words_colouring 16 c.width false c.extra_plane
wide_colouring c is = ap (λ d. colouring_of (record c { depth = d })) is
