-- The content of the first chunk or list of this name, or no bytes if there is none.
use Rattle.std.proofs.Common.{◌∙◌, sym, refl, length, arith}
use Rattle.ffv1_outline.specs.AviOutline as avi
use Rattle.ffv1_outline.specs.declared.avi_outline.Chunk.{Chunk}
use Rattle.ffv1_outline.proofs.ChunkSearch.{chunk_here, chunk_none, chunk_on}
use Rattle.ffv1_outline.proofs.avi_outline.found_chunk.Goals as goal

abbrev seen : Chunk → avi.Chunk
seen c = record { name = c.name.now; content = c.content.now; rest = c.rest.now }

pub loop-chunk-init : goal.loop-chunk-init
loop-chunk-init c = (length c.args.bytes.now, omega arith, refl)

pub loop-chunk-preserved : goal.loop-chunk-preserved
loop-chunk-preserved c =
    let inv = c.loop-chunk.invariant in
    let value = rw c.in-Some.is at c.first_chunk.ensures.value in
    let less = rw c.in-Some.is at c.first_chunk.ensures.less in
    let on = chunk_on inv.0 c.args.name.now c.loop-chunk.rest.now (seen c.in-Some.chunk) inv.1
    (sym value) less (sym c.if-is_name.ensures) in
    (on.0, on.1, sym on.2 ∙ inv.2)

pub returns-then-is_name : goal.returns-then-is_name
returns-then-is_name c =
    let inv = c.loop-chunk.invariant in
    let value = rw c.in-Some.is at c.first_chunk.ensures.value in
    let less = rw c.in-Some.is at c.first_chunk.ensures.less in
    sym (chunk_here inv.0 c.args.name.now c.loop-chunk.rest.now (seen c.in-Some.chunk) inv.1
    (sym value) less (sym c.if-is_name.ensures)) ∙ inv.2

pub returns : goal.returns
returns c =
    let inv = c.loop-chunk.invariant in
    let value = rw c.in_default.is at c.first_chunk.ensures.value in
    sym (chunk_none inv.0 c.args.name.now c.loop-chunk.rest.now (sym value)) ∙ inv.2
