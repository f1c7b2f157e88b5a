use Rattle.std.proofs.Common.{◌≡◌, ◌++◌, take}
use Rattle.ffv1_info.specs.Contexts.{contexts_behind}
use Rattle.ffv1_info.proofs.contexts.push_behind.Given as goal

abbrev pub invariant-loop-set : goal.invariant-loop-set
invariant-loop-set g l = l.value.items
    ≡ l.initial.value.items ++ contexts_behind l.shown l.sign (take l.set-index l.sets)
