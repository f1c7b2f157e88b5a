-- What a writer's calls write one after the other is the file that is begun, of these frames. With
-- what the last call writes it is the open file. That is the whole file once the finished opening
-- is written over it, from so many bytes before its end on as it has.
use Rattle.std.proofs.Common.{refl}
use Rattle.ffv1_matroska.proofs.OpeningLength.{opening_long}
use Rattle.ffv1_matroska.proofs.PieceByPiece.{more_begun, open_at_last, over_whole, whole_long}
use Rattle.ffv1_matroska.proofs.written_laws.writes_make_up_the_file.Goals as goal

pub returns-clause-none : goal.returns-clause-none
returns-clause-none c = λ head details. refl

pub returns-clause-more : goal.returns-clause-more
returns-clause-more c = λ head details frames frame. more_begun head details frames frame

pub returns-clause-open : goal.returns-clause-open
returns-clause-open c = λ head details frames some. open_at_last head details frames some

pub returns-clause-whole : goal.returns-clause-whole
returns-clause-whole c = λ head details frames. whole_long head details frames

pub returns-clause-over : goal.returns-clause-over
returns-clause-over c = λ head details frames. over_whole head details frames

pub returns-clause-openings : goal.returns-clause-openings
returns-clause-openings c = λ head finish. opening_long head finish
