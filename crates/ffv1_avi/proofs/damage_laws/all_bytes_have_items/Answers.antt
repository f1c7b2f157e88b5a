-- All bytes have an item, or none; and once there is none, there is none after that.
use Rattle.ffv1_avi.proofs.ItemLaws.{item_is_read, over_is_over}
use Rattle.ffv1_avi.proofs.damage_laws.all_bytes_have_items.Goals as goal

pub returns-clause-total : goal.returns-clause-total
returns-clause-total c = λ d text. item_is_read d text

pub returns-clause-over : goal.returns-clause-over
returns-clause-over c = λ d text. over_is_over d text
