-- Reads the key of a slice: the first begins with a keyframe of 1 in a state of its own, and the
-- others have none.
use Rattle.std.proofs.Common.{refl, arith, [], ◌∷◌, true, false, subst}
use Rattle.ffv1_slice.specs.Head.{no_key, CodesKey}
use Rattle.ffv1_slice.proofs.Symbols.{reads_at}
use Rattle.ffv1_slice.proofs.Keys.{key_coded, one_key}
use Rattle.ffv1_slice.proofs.head.get_key.Goals as goal

pub returns-then-get-clause-ok : goal.returns-then-get-clause-ok
returns-then-get-clause-ok g c =
    rw (c.if-slice-ne0.false, ← c.table-table.ensures.value)
    (reads_at _ 0 1 _ _ _ (record { slot = 0; bit = true } ∷ []) (omega arith, tt)
    (c.if-get.ensures.follows (128 ∷ []) 0 refl))

pub returns-clause-refused : goal.returns-clause-refused
returns-clause-refused g c =
    rw (← c.table-table.ensures.value)
    (reads_at _ 0 1 _ _ _ (record { slot = 0; bit = false } ∷ []) (omega arith, tt)
    (c.if-get.ensures.follows (128 ∷ []) 0 refl))

pub returns-clause-exact : goal.returns-clause-exact
returns-clause-exact g c = λ stands. record {
  first = c.if-slice-ne0.false;
  codes = key_coded _ _ _ no_key (returns-clause-refused g c) stands;
}

pub returns-clause-only : goal.returns-clause-only
returns-clause-only g c = λ begins.
    let coded = subst (CodesKey c.args.decoder.now.bytes c.args.checked.now.table)
    c.if-slice-ne0.false begins.2 in
    absurd (one_key c.args.checked.now.table c.args.decoder.now.bytes begins.0 coded
    (key_coded c.args.checked.now.table c.args.decoder.now _ no_key (returns-clause-refused g c)
    begins.1))
