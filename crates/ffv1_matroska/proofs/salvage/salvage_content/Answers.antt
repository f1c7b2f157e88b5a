-- Passes so many bytes of content of such an element, and answers `Checksum` if its CRC-32 is not
-- the sum.
use Rattle.ffv1_ebml.specs.Elements.{content_passed}
use Rattle.ffv1_matroska.proofs.SalvagePlain.{content_none, content_refused, content_sum, fault_as, read_as, refused_as, section_passed}
use Rattle.ffv1_matroska.proofs.salvage.salvage_content.Goals as goal

pub returns-in-Ok-clause-answer : goal.returns-in-Ok-clause-answer
returns-in-Ok-clause-answer g c =
    let read = c.in-Ok.ensures.answer in (
      read.0,
      content_none c.args.size _ _
          (read_as _ (content_passed c.args.size) (section_passed c.args.ident c.args.size c.requires.section) read.1),
    )

pub returns-in-Checksum-clause-answer : goal.returns-in-Checksum-clause-answer
returns-in-Checksum-clause-answer g c =
    let why = rw c.in-Checksum.is at c.in-Err.ensures.answer in
    rw c.in-Checksum.is (
      why.0,
      content_sum c.args.size _ _
          (fault_as _ (content_passed c.args.size) (section_passed c.args.ident c.args.size c.requires.section) why.1),
    )

pub returns-in_default : goal.returns-in_default
returns-in_default g c =
    let f = c.in-Err.fault in
    let why = refused_as _ (content_passed c.args.size) _ _ _ _ f (section_passed c.args.ident c.args.size c.requires.section) c.in-Err.ensures.answer in
    record { answer = content_refused c.args.size _ _ _ _ f c.in_default.not-Checksum why; told = tt; plain = why; tick = tt }
