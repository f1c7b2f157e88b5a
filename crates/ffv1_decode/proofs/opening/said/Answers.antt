-- What a head says, in whichever profile it is one.
use Rattle.std.proofs.Common.{◌≡◌, ◌<◌, ◌∙◌, sym, rules}
use Rattle.ffv1_frame.specs.SliceList.{Said}
use Rattle.ffv1_frame.proofs.lemmas.Aspects.{no_aspect, whole_aspect, said_none, said_as}
use Rattle.ffv1_decode.proofs.opening.said.Goals as goal

pub returns-then-head : goal.returns-then-head
returns-then-head c = λ p.
    let head = c.args.head.now in
    let unknown : Said = record { structure = head.structure; sar_num = 0; sar_den = 0 } in
    let is : c.unwrap.result ≡ unknown = search rules in
    is ∙ sym (said_none p head (no_aspect head.sar_num head.sar_den c.if-head.true))

pub returns : goal.returns
returns c = λ p.
    let head = c.args.head.now in
    let whole : Said = record {
      structure = head.structure;
      sar_num = head.sar_num;
      sar_den =
          head.sar_den;
    } in
    let is : c.unwrap-2.result ≡ whole = search rules in
    let wide : head.sar_num < 65536 = search rules in
    let high : head.sar_den < 65536 = search rules in
    is ∙ sym (said_as p head (whole_aspect head.sar_num head.sar_den c.if-head.false wide high))
