-- The frame of a picture that fits the configuration (RFC 9043, 4.4 to 4.9).
use Rattle.std.proofs.Common.{ℕ, ◌≤◌, List, length, ap, sym, ◌∙◌, subst, arith}
use Rattle.std.proofs.lemmas.Grind.{common_steps, elements}
use Rattle.ffv1_record.specs.Accepted.{Accepted}
use Rattle.ffv1_frame.specs.Length.{Encoding, frame_most}
use Rattle.ffv1_encode.proofs.frame.FrameEncoder.encode.Goals as goal

pub returns-clause-coded : goal.returns-clause-coded
returns-clause-coded g c = grind (arith, common_steps)

pub returns-clause-most : goal.returns-clause-most
returns-clause-most g c =
    let a = c.self.inside.checked in
    let picture = c.args.picture.now in
    let info = c.args.info in
    let most = c.frame_length_follows_from_residuals.ensures.most a picture info
    c.table-table.ensures.accepted c.structure-structure.ensures.said in
    subst (λ (x : Accepted). length c.in_ok-bytes.bytes.items
    ≤ frame_most x.configuration picture info) (ap (λ (x : Encoding). x.accepted) c.self.view_is)
    (subst (λ (xs : List ℕ). length xs ≤ frame_most a.configuration picture info)
    (sym (c.in_ok-bytes.ensures.items ∙ c.in_ok-counts.ensures.ok)) most)

pub returns-clause-codes : goal.returns-clause-codes
returns-clause-codes g c = λ range.
    let law = c.encoded_frame_codes_its_picture.ensures in
    grind (arith, elements)

pub returns-clause-long : goal.returns-clause-long
returns-clause-long g c = grind (arith, elements)
