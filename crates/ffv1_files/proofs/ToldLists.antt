-- Whether a fault is told.
use Rattle.std.proofs.Common.{◌≡◌, ◌==◌, [], ◌∷◌, ℕ, Bool, true, false, List, length, refl, ap, sym, ◌∙◌, arith}
use Rattle.std.proofs.lemmas.Bool.{eq-eqb, eqb-true}
use Rattle.std.specs.declared.vec.Vec.{Vec}
use Rattle.std.specs.Vec.{vec_len}
use Rattle.ffv1_matroska.specs.declared.told.ToldFault.{ToldFault}
use Rattle.ffv1_files.specs.Salvaged.{SomeTold}
use Rattle.ffv1_files.specs.Ways.{tells}
use Rattle.ffv1_files.specs.declared.way.Way.{Way}
use Rattle.ffv1_files.specs.declared.way.Way.TheVariants as way

no_length : (n : ℕ) (ts : List ToldFault) → n ≡ length ts → n ≡ 0 → ts ≡ []
no_length n [] long none = refl
no_length n (t ∷ ts) long none = absurd (omega (arith, long, none))

pub none_told : {A : Type 0} (v : Vec ToldFault A) (empty : Bool) → empty ≡ (vec_len v == 0) → empty ≡ true → v.items ≡ []
none_told v empty is told = no_length (vec_len v) v.items v.ok.0 (eqb-true (vec_len v) 0 (sym is ∙ told))

pub some_told : {A : Type 0} (v : Vec ToldFault A) (empty : Bool) → empty ≡ (vec_len v == 0) → empty ≡ false → SomeTold v.items
some_told v empty is told none =
    let zero : (vec_len v == 0) ≡ true = eq-eqb (vec_len v) 0 (v.ok.0 ∙ ap length none) in
    let no : true ≡ false = sym zero ∙ sym is ∙ told in
    cc

-- a file was read once, and nothing was told
pub never_telling : {P : Type 0} (faults : List ToldFault) (w : Way) → (w ≡ way.Telling → SomeTold faults) → (w ≡ way.TellingLate → ⊥) → faults ≡ [] → tells w ≡ true → P
never_telling faults way.Plainly some once none telling = absurd (let no : false ≡ true = telling in cc)
never_telling faults way.Telling some once none telling = absurd (some refl none)
never_telling faults way.TellingLate some once none telling = absurd (once refl)
