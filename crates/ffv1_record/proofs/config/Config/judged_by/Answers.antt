-- The state transition table of a configuration with other sets, of which there are so many.
use Rattle.std.proofs.Common.{sym, subst, refl, inl, inr, IsTrue, IsFalse}
use Rattle.ffv1_record.specs.Configuration.{configuration_of, at_depth, with_sets}
use Rattle.ffv1_record.specs.declared.fault.RecordFault.TheVariants as fault
use Rattle.ffv1_record.specs.Accepted.{is_depth, is_subsampled, is_transparent}
use Rattle.ffv1_record.specs.Accepted.{are_counted, is_divided, IsFirstWhere, PassesEdges}
use Rattle.ffv1_record.specs.Accepted.{has_coder}
use Rattle.ffv1_record.proofs.Checks.{not_true, first_size, first_depth}
use Rattle.ffv1_record.proofs.Edges.{edges_at, edges_of, edges_with, edges_without}
use Rattle.ffv1_record.proofs.config.Config.judged_by.Goals as goal

pub returns-then-not-is_sized-clause-refused : goal.returns-then-not-is_sized-clause-refused
returns-then-not-is_sized-clause-refused g c = λ ss many.
    first_size _ c.args.most (with_sets (at_depth (configuration_of c.args.self.now) c.args.depth) ss)
    (sym c.if-not-is_sized.ensures)

pub returns-then-not-is_depth-clause-refused : goal.returns-then-not-is_depth-clause-refused
returns-then-not-is_depth-clause-refused g c = λ ss many.
    first_depth _ c.args.most (with_sets (at_depth (configuration_of c.args.self.now) c.args.depth) ss)
    (sym c.if-not-is_sized.ensures) (sym c.if-not-is_depth.ensures)

pub returns-then-not-is_subsampled-clause-refused :
    goal.returns-then-not-is_subsampled-clause-refused
returns-then-not-is_subsampled-clause-refused g c = λ ss many.
    let x = with_sets (at_depth (configuration_of c.args.self.now) c.args.depth) ss in
    let deep : IsTrue (is_depth c.args.most c.args.depth) = sym c.if-not-is_depth.ensures in
    let none : IsFalse (is_subsampled x) = sym c.if-not-is_subsampled.ensures in
    subst (λ b. IsFirstWhere c.args.profile b x fault.Subsampling) (sym deep) (inr (
      sym c.if-not-is_sized.ensures,
      inl (not_true _ none, refl),
    ))

pub returns-then-not-is_transparent-clause-refused :
    goal.returns-then-not-is_transparent-clause-refused
returns-then-not-is_transparent-clause-refused g c = λ ss many.
    let x = with_sets (at_depth (configuration_of c.args.self.now) c.args.depth) ss in
    let deep : IsTrue (is_depth c.args.most c.args.depth) = sym c.if-not-is_depth.ensures in
    let none : IsFalse (is_transparent x) = sym c.if-not-is_transparent.ensures in
    subst (λ b. IsFirstWhere c.args.profile b x fault.ExtraPlane) (sym deep) (inr (
      sym c.if-not-is_sized.ensures,
      inr (sym c.if-not-is_subsampled.ensures, inl (not_true _ none, refl)),
    ))

pub returns-then-not-are_so_many-clause-refused : goal.returns-then-not-are_so_many-clause-refused
returns-then-not-are_so_many-clause-refused g c = λ ss many.
    let x = with_sets (at_depth (configuration_of c.args.self.now) c.args.depth) ss in
    let deep : IsTrue (is_depth c.args.most c.args.depth) = sym c.if-not-is_depth.ensures in
    let none : IsFalse (are_counted x) = sym (c.if-not-are_so_many.ensures ss many) in
    subst (λ b. IsFirstWhere c.args.profile b x fault.Sets) (sym deep) (inr (
      sym c.if-not-is_sized.ensures,
      inr (
        sym c.if-not-is_subsampled.ensures,
        inr (sym c.if-not-is_transparent.ensures, inl (not_true _ none, refl)),
      ),
    ))

pub returns-then-not-is_divided-clause-refused : goal.returns-then-not-is_divided-clause-refused
returns-then-not-is_divided-clause-refused g c = λ ss many.
    let x = with_sets (at_depth (configuration_of c.args.self.now) c.args.depth) ss in
    let deep : IsTrue (is_depth c.args.most c.args.depth) = sym c.if-not-is_depth.ensures in
    let none : IsFalse (is_divided x) = sym c.if-not-is_divided.ensures in
    subst (λ b. IsFirstWhere c.args.profile b x fault.Grid) (sym deep) (inr (
      sym c.if-not-is_sized.ensures,
      inr (
        sym c.if-not-is_subsampled.ensures,
        inr (
          sym c.if-not-is_transparent.ensures,
          inr (
            sym (c.if-not-are_so_many.ensures ss many),
            inr ((c.in-Ok.table, c.in-Ok.ensures.ok), inl (not_true _ none, refl)),
          ),
        ),
      ),
    ))

pub returns-then-not-is_aligned-clause-refused : goal.returns-then-not-is_aligned-clause-refused
returns-then-not-is_aligned-clause-refused g c = λ ss many.
    let y = configuration_of c.args.self.now in
    let x = with_sets (at_depth y c.args.depth) ss in
    let deep : IsTrue (is_depth c.args.most c.args.depth) = sym c.if-not-is_depth.ensures in
    let none : PassesEdges c.args.profile x → ⊥ = λ edges. not_true c.is_aligned.result
    c.if-not-is_aligned.true (c.is_aligned.ensures.1
    (edges_of c.args.profile y c.args.depth (edges_without c.args.profile (at_depth y c.args.depth) ss edges))) in
    subst (λ b. IsFirstWhere c.args.profile b x fault.ChromaEdge) (sym deep) (inr (
      sym c.if-not-is_sized.ensures,
      inr (
        sym c.if-not-is_subsampled.ensures,
        inr (
          sym c.if-not-is_transparent.ensures,
          inr (
            sym (c.if-not-are_so_many.ensures ss many),
            inr (
              (c.in-Ok.table, c.in-Ok.ensures.ok),
              inr (sym c.if-not-is_divided.ensures, inl (none, refl)),
            ),
          ),
        ),
      ),
    ))

pub returns-then-not-has_coder-clause-refused : goal.returns-then-not-has_coder-clause-refused
returns-then-not-has_coder-clause-refused g c = λ ss many.
    let y = configuration_of c.args.self.now in
    let x = with_sets (at_depth y c.args.depth) ss in
    let deep : IsTrue (is_depth c.args.most c.args.depth) = sym c.if-not-is_depth.ensures in
    let none : IsFalse (has_coder c.args.profile x) = sym c.if-not-has_coder.ensures in
    subst (λ b. IsFirstWhere c.args.profile b x fault.Coder) (sym deep) (inr (
      sym c.if-not-is_sized.ensures,
      inr (
        sym c.if-not-is_subsampled.ensures,
        inr (
          sym c.if-not-is_transparent.ensures,
          inr (
            sym (c.if-not-are_so_many.ensures ss many),
            inr (
              (c.in-Ok.table, c.in-Ok.ensures.ok),
              inr (
                sym c.if-not-is_divided.ensures,
                inr (
                  edges_with c.args.profile (at_depth y c.args.depth) ss
                      (edges_at c.args.profile _ c.args.depth
                      (c.is_aligned.ensures.0 c.if-not-is_aligned.false)),
                  inl (not_true _ none, refl),
                ),
              ),
            ),
          ),
        ),
      ),
    ))

pub returns-clause-passes : goal.returns-clause-passes
returns-clause-passes g c = λ ss many. (
  sym c.if-not-is_sized.ensures,
  (
    sym c.if-not-is_subsampled.ensures,
    (
      sym c.if-not-is_transparent.ensures,
      (
        sym (c.if-not-are_so_many.ensures ss many),
        (
          (c.in-Ok.table, c.in-Ok.ensures.ok),
          (
            sym c.if-not-is_divided.ensures,
            (
              edges_with c.args.profile (at_depth (configuration_of c.args.self.now) c.args.depth) ss
                  (edges_at c.args.profile _ c.args.depth (c.is_aligned.ensures.0 c.if-not-is_aligned.false)),
              (sym c.if-not-has_coder.ensures, tt),
            ),
          ),
        ),
      ),
    ),
  ),
)
