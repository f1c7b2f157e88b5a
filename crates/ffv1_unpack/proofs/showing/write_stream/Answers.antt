-- Writes the lines of a file's head and of the configuration of its frames, in one piece.
use Rattle.std.proofs.Common.{◌≡◌, ◌∙◌, ap, rules, Err, ℕ, List, subst}
use Rattle.ffv1_wire.specs.Passage.{passage}
use Rattle.ffv1_reads.specs.Head.{Head}
use Rattle.ffv1_record.specs.Accepted.{Accepted}
use Rattle.ffv1_files.specs.declared.container.Container.{Container}
use Rattle.ffv1_video.specs.declared.fault.Fault.TheVariants as fault
use Rattle.ffv1_unpack.specs.Internal.Told.{WritesFrame}
use Rattle.ffv1_unpack.specs.StreamLines.{show_text}
use Rattle.ffv1_unpack.proofs.showing.write_stream.Goals as goal

-- the lines are those of the reader's container, of the others that it counts, and of its head
same_lines : (a : Accepted) {c d : Container} {m n : ℕ} {h k : Head} → c ≡ d → m ≡ n → h ≡ k →
    show_text c m (record { head = h; accepted = a })
    ≡ show_text d n (record { head = k; accepted = a })
same_lines a {d = d} {m = m} {n = n} {h = h} container others head =
    ap (λ (z : Container). show_text z m (record { head = h; accepted = a })) container
    ∙ ap (λ (z : ℕ). show_text d z (record { head = h; accepted = a })) others
    ∙ ap (λ (z : Head). show_text d n (record { head = z; accepted = a })) head

pub returns-then-is_err : goal.returns-then-is_err
returns-then-is_err g c =
    let output = passage g.W.ByteOut.contents g.W.ByteOut.failures c.args.output.now
    c.write_all.new.out in
    let lines = c.in_ok-text.ensures ∙ same_lines c.args.checked.now c.container.ensures
    c.others.ensures c.head.ensures.value in
    let written : WritesFrame c.in_ok-text.text.items output (Err fault.Write) = search rules in
    subst (λ (z : List ℕ). WritesFrame z output (Err fault.Write)) lines written
