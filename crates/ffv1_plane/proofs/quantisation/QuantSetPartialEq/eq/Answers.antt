-- `eq` of `PartialEq` for `QuantSet`.
use Rattle.std.proofs.Common.{◌≡◌, refl, ℕ, Bool, List, nat_eq, rules, Decides}
use Rattle.std.proofs.lemmas.Bool.Decides.{Decides-eqb}
use Rattle.std.proofs.lemmas.Slice.Eq.{slice_eq-Decides}
use lib.Pointwise.{pointwise}
use Rattle.ffv1_plane.proofs.quantisation.QuantSetPartialEq.eq.Goals as goal

-- lists that agree place by place are equal
agree : (xs ys : List (List ℕ)) (r : Bool) → r ≡ pointwise (pointwise nat_eq) xs ys → Decides r
    (xs ≡ ys)
agree xs ys r is = slice_eq-Decides (λ a b. slice_eq-Decides Decides-eqb a b (pointwise nat_eq a b)
    refl) xs ys r is

pub returns-then-eq-4-clause-same : goal.returns-then-eq-4-clause-same
returns-then-eq-4-clause-same g c =
    let is : c.eq-then-eq-4.result ≡ pointwise (pointwise nat_eq) c.args.self.now c.args.other.now =
    search rules in
    agree c.args.self.now c.args.other.now c.eq-then-eq-4.result is

pub returns-else-eq-4-clause-same : goal.returns-else-eq-4-clause-same
returns-else-eq-4-clause-same g c =
    let is : c.if-eq-3.value ≡ pointwise (pointwise nat_eq) c.args.self.now c.args.other.now =
    search rules in
    agree c.args.self.now c.args.other.now c.if-eq-3.value is
