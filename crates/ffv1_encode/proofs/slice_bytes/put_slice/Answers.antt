-- Puts the decisions of a slice, by fresh states: its key, its head and its residuals.
use Rattle.std.proofs.Common.{◌≡◌, ℕ, ◌-◌, ◌^◌, ◌<◌, ◌≤◌, ◌∙◌, sym, subst, List, ◌++◌, append_assoc}
use Rattle.std.proofs.Common.{arith}
use Rattle.std.proofs.lemmas.Grind.{common_steps}
use Rattle.ffv1_range.specs.Symbols.{Step}
use Rattle.ffv1_slice.specs.Head.{key_steps, head_steps}
use Rattle.ffv1_frame.specs.Picture.{cell_in}
use Rattle.ffv1_frame.specs.SliceList.{chosen_head, chosen_body, lines_in}
use Rattle.ffv1_encode.specs.Internal.HasPut.{HasPut, states_in}
use Rattle.ffv1_line.specs.Length.{row_decisions}
use Rattle.ffv1_frame.specs.Length.{slice_residuals}
use Rattle.ffv1_encode.proofs.lemmas.slice_bytes.Counted.{counted_between, begin_few}
use Rattle.ffv1_encode.proofs.slice_bytes.put_slice.Given.{Over}
use Rattle.ffv1_encode.proofs.slice_bytes.put_slice.Goals.{After-decisions}
use Rattle.ffv1_encode.proofs.slice_bytes.put_slice.Goals as goal

-- what was put, and how many decisions the body is
module _ (g : Over) (c : After-decisions g) where
  first :
      let slice = c.args.slice.now in
      let conf = slice.checked.now.configuration in
      HasPut slice.checked.now.table (key_steps slice.number ++ head_steps conf slice.number
      (chosen_head conf slice.info)) c.put_beginning.new.encoder c.args.states.now
  first =
      let slice = c.args.slice.now in
      let conf = slice.checked.now.configuration in
      subst (HasPut slice.checked.now.table (key_steps slice.number ++ head_steps conf slice.number
      (chosen_head conf slice.info)) c.put_beginning.new.encoder) (sym c.requires.fresh)
      (c.in_ok-put_beginning.ensures.ok (states_in conf))

  between : (c.decisions-before.result ≤ c.decisions.result) ×
      (c.decisions.result - c.decisions-before.result ≡ row_decisions (slice_residuals
      c.args.slice.now.checked.now.configuration c.args.slice.now.picture.now
      c.args.slice.now.info c.args.slice.now.number))
  between =
      let slice = c.args.slice.now in
      let a = slice.checked.now in
      let conf = a.configuration in
      let n : ℕ = slice.number in
      let head = chosen_head conf slice.info in
      let begin : List Step = key_steps n ++ head_steps conf n head in
      let body : List Step = chosen_body conf head (cell_in conf slice.picture.now n)
      (lines_in conf n) in
      let last : HasPut a.table (begin ++ body) c.put_body.new.encoder c.put_body.new.states =
      c.in_ok-put_body.ensures.ok.behind begin first in
      let depth = c.accepted_configuration_is_in_range.ensures.depth conf a.table
      c.table-table.ensures.accepted in
      let few : row_decisions (slice_residuals conf slice.picture.now slice.info n) < 2 ^ 40 =
      c.slice_length_follows_from_residuals.ensures.few a slice.picture.now slice.info n
      c.table-table.ensures.accepted slice.inside in
      counted_between c.decisions-before.result c.decisions.result _ begin body
      (c.decisions-before.ensures ∙ (c.counters_from_zero_show_all_steps.ensures begin _
      first.counts).2) (c.decisions.ensures ∙
      (c.counters_from_zero_show_all_steps.ensures (begin ++ body) _ last.counts).2)
      (c.slice_length_follows_from_residuals.ensures.body a slice.picture.now slice.info n
      (omega (arith, depth.0)) depth.1) (begin_few conf _
      (c.slice_length_follows_from_residuals.ensures.beginning a slice.info n
      c.table-table.ensures.accepted c.structure-structure.ensures.said slice.inside)) few

pub overflow_sub-result : goal.overflow_sub-result
overflow_sub-result g c = (between g (goal.at.overflow_sub-result g c).After-decisions).0

pub returns-clause-ok : goal.returns-clause-ok
returns-clause-ok g c =
    let slice = c.args.slice.now in
    let conf = slice.checked.now.configuration in
    let n : ℕ = slice.number in
    let head = chosen_head conf slice.info in
    let key : List Step = key_steps n in
    let begin : List Step = head_steps conf n head in
    let body : List Step = chosen_body conf head (cell_in conf slice.picture.now n)
    (lines_in conf n) in
    let first = first g (goal.at.returns-clause-ok g c).After-decisions in
    subst (λ past. HasPut slice.checked.now.table past c.put_body.new.encoder c.put_body.new.states)
    (append_assoc key begin body) (c.in_ok-put_body.ensures.ok.behind (key ++ begin) first)

pub returns-clause-decisions : goal.returns-clause-decisions
returns-clause-decisions g c = (between g (goal.at.returns-clause-decisions g c).After-decisions).1

pub put_body-requires-clause-room : goal.put_body-requires-clause-room
put_body-requires-clause-room g c = grind (arith, common_steps)
