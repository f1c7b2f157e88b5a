-- Reads `more` bytes, at least one, after those that the vector has.
use Rattle.std.proofs.Common.{◌≡◌, ◌+◌, ◌<◌, ◌≤◌, take, drop, length, inl, arith}
use Rattle.std.proofs.lemmas.Grind.{common_steps}
use Rattle.ffv1_reads.proofs.LoopReadings.{appends_some}
use Rattle.ffv1_reads.proofs.LoopReadings.{append_not, append_short}
use Rattle.ffv1_reads.proofs.bytes.append.Goals as goal

pub returns-then-len-more-clause-answer : goal.returns-then-len-more-clause-answer
returns-then-len-more-clause-answer g c =
    let buf = c.fill_from.new.bytes in
    let done = c.len-done.result in
    let n = c.in-Ok.len in
    let h = c.in-Ok.ensures in
    let long : length (drop done buf) ≡ c.args.more = grind (arith, common_steps) in
    let few : n < c.args.more = omega arith in (
      h.counted,
      inl (append_short _ _ c.args.bytes.now.items (drop done buf) c.args.more n long few
          h.ok),
    )

pub returns-then-len-more-clause-err : goal.returns-then-len-more-clause-err
returns-then-len-more-clause-err g c =
    let buf = c.fill_from.new.bytes in
    let done = c.len-done.result in
    let n = c.in-Ok.len in
    let h = c.in-Ok.ensures in
    let kept : take done buf ≡ c.args.bytes.now.items = grind (arith, common_steps) in
    let bound : done + n ≤ length buf = grind (arith, common_steps, h.bound) in
    let out : c.truncate.new.self.items ≡ take (done + n) buf = grind (arith, common_steps) in
    let most : n ≤ c.args.more = omega arith in
    rw out (appends_some _ _ c.args.bytes.now.items buf done n c.args.more kept bound h.ok most)

pub returns-in-Err-clause-answer : goal.returns-in-Err-clause-answer
returns-in-Err-clause-answer g c =
    let buf = c.fill_from.new.bytes in
    let done = c.len-done.result in
    let h = c.in-Err.ensures in
    let long : length (drop done buf) ≡ c.args.more = grind (arith, common_steps) in
    (h.counted, append_not _ _ c.args.bytes.now.items (drop done buf) c.args.more long h.err)
