-- Where the lines stand that are handed over, and in which order, depends on the configuration
-- alone: the planes and rows of the lines of any picture.
use Rattle.ffv1_frame.specs.Order.Event.{Hand}
use Rattle.std.proofs.Common.{◌∷◌}
use Rattle.ffv1_frame.proofs.lemmas.laws.sink.LinePlaces.{colour_places, picture_places, picture_there, places_at}
use Rattle.ffv1_frame.proofs.lemmas.laws.sink.LinePlaces.{places_begun, places_decoded, places_refused}
use Rattle.ffv1_frame.proofs.laws.sink.lines_are_handed_in_turn.Goals as goal

pub returns-clause-lines : goal.returns-clause-lines
returns-clause-lines c = λ a planes. picture_there a.configuration planes

pub returns-clause-picture : goal.returns-clause-picture
returns-clause-picture c = λ a planes. picture_places a.configuration planes

pub returns-clause-begun : goal.returns-clause-begun
returns-clause-begun c = λ a coded before after t parts runs.
    (places_at a.configuration after, places_begun a coded before after t parts runs)

pub returns-clause-offered : goal.returns-clause-offered
returns-clause-offered c = λ a coded r i p y t offers. (
  places_at a.configuration offers.after,
  places_begun a coded offers.before
      (Hand r i p y ∷ offers.after) t offers.parts offers.runs,
)

pub returns-clause-refused : goal.returns-clause-refused
returns-clause-refused c = λ a coded f t refuses. places_refused a coded f t refuses

pub returns-clause-decoded : goal.returns-clause-decoded
returns-clause-decoded c = λ a coded t decodes. places_decoded a coded t decodes

pub returns-clause-colours : goal.returns-clause-colours
returns-clause-colours c = λ a is rct three. colour_places a.configuration
    (c.planes_are_divided_part_by_part.ensures a.configuration a.table is) rct three
