-- A row is coded by the states of the contexts of its set alone.
use Rattle.ffv1_rice.proofs.RowAlike.{row_bits_same, places_after_same, row_contexts, coded_same}
use Rattle.ffv1_rice.proofs.RowAlike.{refused_same}
use Rattle.ffv1_rice.proofs.laws.a_row_needs_its_contexts_alone.Goals as goal

pub returns-clause-contexts : goal.returns-clause-contexts
returns-clause-contexts c = λ set is depth two one row n. row_contexts set depth two one row n
    (c.contexts_stay_below_their_count.ensures set is)

pub returns-clause-bits : goal.returns-clause-bits
returns-clause-bits c = row_bits_same

pub returns-clause-after : goal.returns-clause-after
returns-clause-after c = places_after_same

pub returns-clause-codes : goal.returns-clause-codes
returns-clause-codes c = λ r start row rest is same codes. coded_same r start
    (c.contexts_stay_below_their_count.ensures r.set is) same row rest codes

pub returns-clause-refused : goal.returns-clause-refused
returns-clause-refused c = λ r start row x fault is same refused. refused_same r start
    (c.contexts_stay_below_their_count.ensures r.set is) same row x fault refused
