-- After its key bytes code one head at most, or are refused in one way.
use Rattle.ffv1_slice.specs.Head.{head_rules, head_values, key_steps}
use Rattle.ffv1_slice.proofs.Heads.{one_meets, meets_or_stops, one_stops}
use Rattle.ffv1_slice.proofs.HeadValues.{meets_head, same_head}
use Rattle.ffv1_slice.proofs.laws.bytes_code_one_head.Goals as goal

pub returns-clause-head : goal.returns-clause-head
returns-clause-head k = λ bytes t p c n g h are closed small few x y.
    same_head p c n g h x.head y.head
    (one_meets bytes are t closed (head_rules p c n) 0 (key_steps n) (head_values c n g)
    (head_values c n h) (meets_head p c n g small few x.head)
    (meets_head p c n h small few y.head) x.codes y.codes)

pub returns-clause-apart : goal.returns-clause-apart
returns-clause-apart k = λ bytes t p c n h f steps are closed small few x y.
    meets_or_stops bytes are t closed (head_rules p c n) 0 (key_steps n) (head_values c n h) f steps
    (meets_head p c n h small few x.head) y.stops x.codes y.codes

pub returns-clause-refusal : goal.returns-clause-refusal
returns-clause-refusal k = λ bytes t p c n f g xs ys are closed x y.
    one_stops bytes are t closed (head_rules p c n) 0 (key_steps n) f g xs ys x.stops y.stops
    x.codes y.codes
