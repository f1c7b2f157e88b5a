-- If no bytes are noted after a file, and no other file was met there, none stand there.
use Rattle.ffv1_files.proofs.Behinds.{lists_bare, segment_bare}
use Rattle.ffv1_files.proofs.laws.no_bytes_noted_are_none.Goals as goal

pub returns-clause-avi : goal.returns-clause-avi
returns-clause-avi c = λ from text new before failed was every h. lists_bare
    c.no_bytes_told_are_none.ensures.none from text new before failed was every h

pub returns-clause-matroska : goal.returns-clause-matroska
returns-clause-matroska c = λ size end track place cued text rest notes h none. segment_bare
    c.what_stands_behind_is_known.ensures.nothing size end track place cued text rest notes h none
