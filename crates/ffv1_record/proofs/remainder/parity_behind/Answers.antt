-- The parity of some bytes and of more behind them, from the parity of the bytes.
use Rattle.std.proofs.Common.{◌≡◌, ◌++◌, ◌∷◌, [], List, ℕ, zero, suc, ◌<◌, take, length, slice_index, ap, sym, ◌∙◌, arith}
use Rattle.std.proofs.lemmas.List.{append-nil, append_assoc, take_all, take_more}
use Rattle.ffv1_range.specs.Codes.{AreBytes, value}
use Rattle.ffv1_record.specs.Parity.{parity_of, remainder_behind}
use Rattle.ffv1_record.proofs.ParityLaws.{parity_goes_on}
use Rattle.ffv1_record.proofs.remainder.parity_behind.Goals as goal

-- a byte by itself
one_byte : (b : ℕ) → b < 256 → AreBytes (b ∷ [])
one_byte b small zero = small
one_byte b small (suc k) = omega arith

pub loop-byte-init : goal.loop-byte-init
loop-byte-init c = λ bytes same. same ∙ ap parity_of (sym (append-nil bytes))

pub loop-byte-preserved : goal.loop-byte-preserved
loop-byte-preserved c = λ bytes same.
    let more = c.args.more.now in
    let i = c.loop-byte.byte-index in
    let inside : i < length more = c.loop-byte-test.true in
    let b = slice_index more i in
    let before = bytes ++ take i more in
    let one : value (b ∷ []) 1 ≡ b = omega arith in
    let goes = parity_goes_on before (b ∷ []) (one_byte b (omega (arith, c.type_inv.more i))) in
    c.after_byte-remainder.ensures ∙ ap (λ r. remainder_behind 8 r b) (c.loop-byte.invariant bytes same)
    ∙ ap (remainder_behind 8 (parity_of before)) (sym one) ∙ sym goes ∙ ap parity_of (append_assoc bytes (take i more) (b ∷ [])
    ∙ ap (λ xs. bytes ++ xs) (sym (take_more more i 0 inside)))

pub returns : goal.returns
returns c = λ bytes same.
    let more = c.args.more.now in
    let i = c.loop-byte.byte-index in
    c.loop-byte.invariant bytes same ∙ ap (λ xs. parity_of (bytes ++ xs)) (take_all i more (omega (arith, c.loop-byte-test.false)))
