-- Where a state goes after a decision of a list, without a branch or a choice.
use Rattle.std.proofs.Common.{◌≡◌, ◌+◌, ◌*◌, ◌/◌, ◌%◌, ◌≤◌, ◌==◌, get_or, subst, sym, arith}
use Rattle.ffv1_range.specs.Table.{Table, moved, IsTable}
use Rattle.ffv1_range.proofs.Standard.{next_moved}
use Rattle.ffv1_range.proofs.Named.{moved_held}
use Rattle.ffv1_range.proofs.table.StateTable.after_listed.Goals as goal

is_moved : (c : goal.After-result-1) →
    get_or c.self.inside.next (c.args.step / 256 % 2 * 256 + c.args.state) 0 ≡ moved c.args.self.now
    c.args.state (c.args.step / 256 % 2 == 1)
is_moved c =
    let state = c.args.state in
    let least : c.self.inside.floor ≤ state = subst (λ (t : Table). t.floor ≤ state)
    (sym c.self.view_is) c.requires.least in
    let most : state + c.self.inside.floor ≤ 256 = subst (λ (t : Table). state + t.floor ≤ 256)
    (sym c.self.view_is) c.requires.most in
    let found = next_moved _ _ _ _ state (c.args.step / 256 % 2) c.self.invariant.1
    c.self.invariant.3 least most (omega arith) in
    subst (λ (t : Table). get_or c.self.inside.next (c.args.step / 256 % 2 * 256 + state) 0 ≡ moved
    t state (c.args.step / 256 % 2 == 1)) c.self.view_is found

pub returns-clause-moves : goal.returns-clause-moves
returns-clause-moves c = is_moved c

pub returns-clause-held : goal.returns-clause-held
returns-clause-held c =
    let table = subst (λ (t : Table). IsTable t.floor t.one) c.self.view_is c.self.invariant.0 in
    rw (is_moved c) (moved_held c.args.self.now table c.args.state _ c.requires)
