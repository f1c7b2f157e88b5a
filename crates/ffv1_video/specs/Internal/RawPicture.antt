-- What is known of planes and of bytes that are hashed.
use Rattle.std.specs.Prelude.{◌≡◌, ℕ, List}
use Rattle.std.specs.Prelude.{length}
use Rattle.md5.specs.Md5.{Holds}
use Rattle.ffv1_range.specs.Counts.{saturated}
use Rattle.ffv1_video.specs.declared.picture_md5.Hashed.{Hashed}

-- these bytes are held: what their MD5 is made from, and how many they are
pub record IsOf (h : Hashed) (bytes : List ℕ) : Type 0 where
  pub holds : Holds h.hasher bytes
  pub counted : h.size ≡ saturated (length bytes)
