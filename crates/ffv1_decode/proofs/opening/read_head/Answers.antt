-- Reads the key and the head of a slice.
use Rattle.ffv1_decode.proofs.lemmas.opening.Openings.{key_refused, head_read, head_refused}
use Rattle.ffv1_decode.proofs.opening.read_head.Goals as goal

pub returns-in-Err-clause-err : goal.returns-in-Err-clause-err
returns-in-Err-clause-err g c =
    key_refused c.args.checked.now c.args.slice c.args.decoder.now c.get_key.new.decoder
    c.requires.begins c.requires.counts c.in-Err.fault c.codec_fault.result
    c.in-Err.ensures.not_key.0 c.codec_fault.ensures c.in-Err.ensures.refused
    c.in-Err.ensures.exact

pub returns-in-Ok-get_head-clause-ok : goal.returns-in-Ok-get_head-clause-ok
returns-in-Ok-get_head-clause-ok g c =
    head_read c.args.checked.now c.args.slice c.args.decoder.now c.get_key.new.decoder
    c.get_head.new.decoder c.requires.begins c.requires.counts
    c.counters_go_on_by_both_parts.ensures.append c.in-Ok.ensures.ok c.in-Ok-get_head.head
    c.in-Ok-get_head.ensures.ok c.in-Ok-get_head.ensures.found

pub returns-in-Err-get_head-clause-err : goal.returns-in-Err-get_head-clause-err
returns-in-Err-get_head-clause-err g c =
    head_refused c.args.checked.now c.args.slice c.args.decoder.now c.get_key.new.decoder
    c.get_head.new.decoder c.requires.begins c.requires.counts
    c.counters_go_on_by_both_parts.ensures.append c.in-Ok.ensures.ok c.in-Err-get_head.fault
    c.codec_fault-in-Err-get_head.result c.codec_fault-in-Err-get_head.ensures
    c.in-Err-get_head.ensures.refused
