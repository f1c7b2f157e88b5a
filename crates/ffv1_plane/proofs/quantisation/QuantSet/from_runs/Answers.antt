-- The set of five tables by their runs (RFC 9043, 4.1): run `v` of a table, from 0, gives `scale *
-- v` to its next entries until 128 are filled.
use Rattle.std.proofs.Common.{◌≡◌, refl, ◌∙◌, sym, ℕ, List, [], ◌∷◌, map, length, get_or, arith}
use Rattle.std.proofs.Common.{Bor, rules}
use Rattle.std.proofs.lemmas.Bool.{both_ways}
use Rattle.ffv1_plane.proofs.quantisation.QuantSet.from_runs.Goals as goal

-- five slices, listed
five : (xs : List (Bor (List ℕ))) (d : Bor (List ℕ)) → length xs ≡ 5 →
    map (λ r. r.now) xs ≡ (get_or xs 0 d).now ∷ (get_or xs 1 d).now ∷ (get_or xs 2 d).now ∷
    (get_or xs 3 d).now ∷ (get_or xs 4 d).now ∷ []
five [] d h = absurd (omega arith)
five (a ∷ []) d h = absurd (omega arith)
five (a ∷ b ∷ []) d h = absurd (omega arith)
five (a ∷ b ∷ c ∷ []) d h = absurd (omega arith)
five (a ∷ b ∷ c ∷ e ∷ []) d h = absurd (omega arith)
five (a ∷ b ∷ c ∷ e ∷ f ∷ []) d h = refl
five (a ∷ b ∷ c ∷ e ∷ f ∷ g ∷ more) d h = absurd (omega arith)

pub returns : goal.returns
returns g c =
    let listed = five c.args.runs.now (record { ref_ptr = (0, 0); now = [] }) c.told-runs in
    let set = c.in_ok-scales.ensures.ok.set in
    let few = set.few in
    record {
      runs = (λ h. cc, λ no. absurd (both_ways _ no (rw listed set.filled)));
      contexts = (λ h. cc, λ more. let many = rw listed at more.1 in absurd (omega arith));
      memory = search rules;
      ok = c.in_ok-set.ensures ∙ sym listed;
      set = search rules;
    }
