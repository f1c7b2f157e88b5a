-- What is noted of the end of a file, if that was read.
use Rattle.std.proofs.Common.{◌≡◌, refl, ℕ, Bool, true, false, Option, List, sym, subst}
use Rattle.ffv1_wire.specs.Passage.{between}
use Rattle.ffv1_files.specs.Places.{Place}
use Rattle.ffv1_files.specs.declared.notes.Notes.{Notes}
use Rattle.ffv1_files.specs.Readers.{Standing}
use Rattle.ffv1_video.specs.declared.profile.Profile.{Profile}
use Rattle.ffv1_video.specs.Profiles.{scope_in}
use Rattle.ffv1_unpack.specs.Behind.{NotedIn}
use Rattle.ffv1_unpack.specs.Internal.Located.{EndsNoted}
use Rattle.ffv1_unpack.specs.Located.{Stands}
use Rattle.ffv1_unpack.specs.Plays.{NextBehindBy}

-- what comes after so many frames is the same with notes that are these if the end was read
pub noted_by : (P : (Place → List ℕ → List ℕ → Type 0) → Type 0) (notes told : Notes) (room : Bool) → (room ≡ true → told ≡ notes) → P (NextBehindBy notes room) → P (NextBehindBy told room)
noted_by P notes told true read h = subst (λ (z : Notes). P (NextBehindBy z true)) (sym (read refl)) h
noted_by P notes told false read h = h

-- and they are those of the file that a reader stood in before
pub noted_file : (profile : Profile) (r : Standing) (i0 i1 i2 : Option (List ℕ)) (ib im ia : ℕ) (notes told : Notes) (room : Bool) → Stands (scope_in profile) i0 i1 r → (room ≡ true → EndsNoted r (between i1 i2 im ia) notes) → (room ≡ true → told ≡ notes) → room ≡ true →
    NotedIn profile (between i0 i2 ib ia) told
noted_file profile r i0 i1 i2 ib im ia notes told room stands ends read more = subst (λ z. NotedIn profile (between i0 i2 ib ia) z) (sym (read more)) (ends more (scope_in profile) i0 stands)
