-- The places of a block, by a decoder of its own.
use Rattle.std.proofs.Common.{ℕ, ◌≡◌, ◌+◌, ◌-◌, min, length, arith, sym, subst, ◌∙◌}
use Rattle.std.proofs.lemmas.List.{length-set}
use Rattle.ffv1_range.specs.Reading.{summed}
use Rattle.ffv1_range.specs.Among.{sums_among}
use Rattle.ffv1_line.specs.Internal.Places.{ReadOn}
use Rattle.ffv1_line.proofs.lemmas.cell.Rows.{lined_next, lined_refused, same_from_next}
use Rattle.ffv1_line.proofs.lemmas.decode.Prepared.{behind_here, behind_next, comes}
use Rattle.ffv1_line.proofs.lemmas.decode.Zeros.{read_nothing, read_further}
use Rattle.ffv1_line.specs.Coder.{decoder_by}
use Rattle.ffv1_line.proofs.decode.block.decode_block.Goals as goal

pub places-init : goal.places-init
places-init g c =
    let p = c.args.places.now in
    let same : p.from + 0 ≡ p.from = omega arith in
    record {
      inside = omega arith;
      ready = c.requires.ready;
      are = c.nonzeros-nonzeros.ensures.are;
      few = rw c.nonzeros-nonzeros.ensures.none (omega arith);
      begins = rw (same, c.sample_two_before.ensures, c.sample_before.ensures)
          (behind_here _ _ p.from c.requires.ready.places.some);
      read = rw (same, c.nonzeros-nonzeros.ensures.stays)
          (read_nothing p p.from (decoder_by c.args.decoder.now c.args.states.now) c.args.cur.now);
    }

pub places-preserved : goal.places-preserved
places-preserved g c =
    let p = c.args.places.now in
    let x : ℕ = p.from + c.decode_zeros-i.result in
    let more : p.from + (c.decode_zeros-i.result + 1) ≡ x + 1 = omega arith in
    let at = c.decode_zeros-i.ensures.stands in
    let here = comes p _ _ _ _ at in
    let kept = c.places.invariant in
    let read = read_further p _ _ _ _ _ _ _ _ _ kept.read
    (c.decode_zeros-i.ensures.read.read c.places.nonzeros kept.few) in
    record {
      inside = omega (arith, at.inside);
      ready = record {
        places = at.ready.places;
        long = length-set c.decode_zeros-i.new.cur x _ ∙ at.ready.long;
        rows = omega (arith, at.ready.rows);
        held = c.in-Ok.ensures.held;
      };
      are = c.in-Ok.ensures.are;
      few = c.in-Ok.ensures.few;
      begins = rw more (behind_next _ _ x _ _ _ _ _ here.within here.wide here.stands);
      read = record {
        on = λ before on. rw more (same_from_next _ _ _ _ (read.on before on));
        lined = λ first lined. rw more (lined_next _ _ _ _ _ _ x
            (min (x + 1) (length p.one.now - 1)) _ _ _ _ _ (omega arith) here.within here.wide
            here.stands (read.lined first lined) (c.in-Ok.ensures.ok _ _ here.prepared));
      };
    }

pub returns-in-Err-clause-refused : goal.returns-in-Err-clause-refused
returns-in-Err-clause-refused g c =
    let p = c.args.places.now in
    let x : ℕ = p.from + c.decode_zeros-i.result in
    let here = comes p _ _ _ _ c.decode_zeros-i.ensures.stands in
    let kept = c.places.invariant in
    let read = read_further p _ _ _ _ _ _ _ _ _ kept.read
    (c.decode_zeros-i.ensures.read.read c.places.nonzeros kept.few) in
    record {
      inside = here.within;
      on = read.on;
      refused = λ first lined. rw (c.count_all.ensures, c.among_refused.ensures)
          (lined_refused _ _ _ _ _ _ x (min (x + 1) (length p.one.now - 1)) _ _ _ _ (omega arith)
          here.within here.wide here.stands (read.lined first lined)
          (c.in-Err.ensures.refused _ _ here.prepared));
    }

pub returns-clause-ok : goal.returns-clause-ok
returns-clause-ok g c =
    let end : c.args.places.now.count ≡ c.places.i = omega (arith, c.places.invariant.inside) in
    let p = c.args.places.now in
    rw (c.count_all-2.ensures, c.among.ensures)
    (subst (λ n. ReadOn p p.from (decoder_by c.args.decoder.now c.args.states.now)
    c.args.cur.now (p.from + n) (decoder_by
    (summed c.places.decoder (sums_among n c.places.nonzeros)) c.places.states) c.places.cur)
    (sym end) c.places.invariant.read)
