-- A frame that is decoded again, and compared with its picture.
use Rattle.std.proofs.Common.{◌≡◌, ◌<◌, ◌↔◌, IsTrue, subst, sym, ap, ◌∙◌, ℕ, Bool, List, [], length, get_or}
use Rattle.std.specs.declared.vec.Vec.{Vec}
use Rattle.std.proofs.lemmas.List.{get_or-map}
use Rattle.ffv1_record.specs.Accepted.{Accepted, IsAccepted}
use Rattle.ffv1_record.specs.Configuration.{Configuration}
use Rattle.ffv1_record.specs.declared.config.Profile.{Profile}
use Rattle.ffv1_range.specs.Table.{Table}
use Rattle.ffv1_codec.specs.Frame.{CodesPicture}
use Rattle.ffv1_codec.specs.Picture.{Planes, planes_of}
use Rattle.ffv1_codec.specs.SliceList.{Said}

-- one of some planes
pub plane_at : {A : Type 0} (planes : List (Vec ℕ A)) (k : ℕ) (v : Vec ℕ A) (bytes : List ℕ) → k < length planes → v ≡ get_or planes k v → bytes ≡ v.items → bytes ≡ get_or (planes_of planes) k []
plane_at planes k v bytes inside is value = value ∙ ap (λ (u : Vec ℕ _). u.items) is ∙ sym (get_or-map (λ (u : Vec ℕ _). u.items) planes k v [] inside)

pub alike : (t : Bool) (xs ys us vs : List ℕ) → xs ≡ us → ys ≡ vs → (IsTrue t ↔ (xs ≡ ys)) → (IsTrue t ↔ (us ≡ vs))
alike t xs ys us vs first second both = subst (λ z. IsTrue t ↔ (us ≡ z)) second (subst (λ z. IsTrue t ↔ (z ≡ ys)) first both)

-- what it codes is its picture
pub picture_coded : (a : Accepted) (frame : List ℕ) (found picture : Planes) (said info : Said) → CodesPicture a frame found said → found ≡ picture → said ≡ info → CodesPicture a frame picture info
picture_coded a frame found picture said info codes same says = subst (λ s. CodesPicture a frame picture s) says (subst (λ p. CodesPicture a frame p said) same codes)

-- a configuration that is accepted twice, in one profile, is the same one
pub same_accepted : (a b : Accepted) → a.configuration ≡ b.configuration → a.profile ≡ b.profile → ((c : Configuration) (t u : Table) → IsAccepted c t → IsAccepted c u → t ≡ u) →
    IsAccepted a.configuration a.table → IsAccepted b.configuration b.table → a ≡ b
same_accepted a b same within one first second =
    let table : a.table ≡ b.table = one b.configuration a.table b.table (subst (λ c. IsAccepted c a.table) same first) second in
    let with_configuration : Configuration → Accepted = λ c. record { configuration = c; table = a.table; profile = a.profile } in
    let with_table : Table → Accepted = λ t. record { configuration = b.configuration; table = t; profile = a.profile } in
    let with_profile : Profile → Accepted = λ p. record { configuration = b.configuration; table = b.table; profile = p } in
    ap with_configuration same ∙ ap with_table table ∙ ap with_profile within
