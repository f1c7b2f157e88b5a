-- Elements are looked for, one after the other.
use Rattle.std.proofs.Common.{◌≡◌, ◌<◌, ◌≤◌, ◌==◌, ◌∙◌, ℕ, suc, zero, List, Option, Some, None, Result, Ok, Err, true, false, length, refl, sym, ap, arith}
use Rattle.std.proofs.lemmas.Bool.{eq-eqb, ne_eqb}
use Rattle.ffv1_reads.specs.declared.fault.FileFault.{FileFault}
use Rattle.ffv1_ebml.specs.Contents.{Part, first_part, found_or_on, found_up_to}
use Rattle.ffv1_ebml.proofs.MemoryReadings.{part_none}

no_some : (p : Part) → ◌≡◌ {A = Result (Option Part) FileFault} (Ok None) (Ok (Some p)) → ⊥
no_some p e = absurd (cc)

no_fault : (f : FileFault) → ◌≡◌ {A = Result (Option Part) FileFault} (Ok None) (Err f) → ⊥
no_fault f e = absurd (cc)

pub found_none : (n ident : ℕ) (xs : List ℕ) → first_part xs ≡ Ok None → found_up_to n ident xs ≡ Ok None
unfolding found_up_to
found_none zero ident xs is = refl
found_none (suc n) ident xs is = ap (found_or_on ident (found_up_to n ident)) is

pub found_fault : (n ident : ℕ) (xs : List ℕ) (f : FileFault) → length xs ≤ n → first_part xs ≡ Err f → found_up_to n ident xs ≡ Err f
unfolding found_up_to
found_fault zero ident xs f few is = absurd (no_fault f (sym (part_none xs (omega (arith, few))) ∙ is))
found_fault (suc n) ident xs f few is = ap (found_or_on ident (found_up_to n ident)) is

pub found_here : (n ident : ℕ) (xs : List ℕ) (p : Part) → length xs ≤ n → first_part xs ≡ Ok (Some p) → p.ident ≡ ident → found_up_to n ident xs ≡ Ok (Some p.content)
unfolding found_up_to
found_here zero ident xs p few is same = absurd (no_some p (sym (part_none xs (omega (arith, few))) ∙ is))
found_here (suc n) ident xs p few is same =
    let test : (p.ident == ident) ≡ true = eq-eqb _ _ same in
    ap (found_or_on ident (found_up_to n ident)) is ∙ rw test refl

-- it is looked for after another one
pub found_on : (n ident : ℕ) (xs : List ℕ) (p : Part) → length xs ≤ n → first_part xs ≡ Ok (Some p) → (p.ident ≡ ident → ⊥) → length p.rest < length xs → (m : ℕ) × (length p.rest ≤ m) × (found_up_to n ident xs ≡ found_up_to m ident p.rest)
unfolding found_up_to
found_on zero ident xs p few is other less = absurd (no_some p (sym (part_none xs (omega (arith, few))) ∙ is))
found_on (suc n) ident xs p few is other less =
    let test : (p.ident == ident) ≡ false = ne_eqb _ _ other in
    (n, omega (arith, few, less), ap (found_or_on ident (found_up_to n ident)) is ∙ rw test refl)
