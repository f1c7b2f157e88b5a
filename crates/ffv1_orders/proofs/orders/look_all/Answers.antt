-- Looks at all files of an order in one way.
use Rattle.std.proofs.Common.{ℕ, List, Bor, length, refl, ◌∙◌}
use Rattle.std.proofs.lemmas.List.{length-map}
use Rattle.std.specs.Prelude.{◌≢◌}
use Rattle.ffv1_orders.specs.Looked.{paths_of}
use Rattle.ffv1_orders.proofs.orders.look_all.Goals as goal

pub returns-clause-looked : goal.returns-clause-looked
returns-clause-looked g c =
    let long = length-map c.args.paths.now (λ (path : Bor (List ℕ)). path.now) in
    let many : length (paths_of c.args.paths.now) ≢ 1 → length c.args.paths.now ≢ 1 =
    λ more one. more (long ∙ one) in
    record {
      last = c.look_all-status.new.looker;
      is = refl;
      looked = record {
        one = c.look_all-status.ensures.one;
        each = λ more. c.look_all-status.ensures.ok (many more);
        stopped = λ more. c.look_all-status.ensures.err (many more);
      };
    }
