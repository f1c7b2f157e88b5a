-- Frame rates that are read back as they were written: whole ones, those times 1000/1001, and those
-- that are said in hundredths and thousandths.
use Rattle.std.proofs.Common.{refl}
use Rattle.ffv1_matroska.specs.Rates.{rate_of}
use Rattle.ffv1_matroska.proofs.laws.usual_rates_are_read_back.Goals as goal

pub returns-clause-film : goal.returns-clause-film
unfolding rate_of
returns-clause-film c = refl

pub returns-clause-pal : goal.returns-clause-pal
unfolding rate_of
returns-clause-pal c = refl

pub returns-clause-thirty : goal.returns-clause-thirty
unfolding rate_of
returns-clause-thirty c = refl

pub returns-clause-fifty : goal.returns-clause-fifty
unfolding rate_of
returns-clause-fifty c = refl

pub returns-clause-sixty : goal.returns-clause-sixty
unfolding rate_of
returns-clause-sixty c = refl

pub returns-clause-slow_film : goal.returns-clause-slow_film
unfolding rate_of
returns-clause-slow_film c = refl

pub returns-clause-ntsc : goal.returns-clause-ntsc
unfolding rate_of
returns-clause-ntsc c = refl

pub returns-clause-fields : goal.returns-clause-fields
unfolding rate_of
returns-clause-fields c = refl

pub returns-clause-film_said : goal.returns-clause-film_said
unfolding rate_of
returns-clause-film_said c = refl

pub returns-clause-pal_said : goal.returns-clause-pal_said
unfolding rate_of
returns-clause-pal_said c = refl

pub returns-clause-ntsc_said : goal.returns-clause-ntsc_said
unfolding rate_of
returns-clause-ntsc_said c = refl

pub returns-clause-fields_said : goal.returns-clause-fields_said
unfolding rate_of
returns-clause-fields_said c = refl
