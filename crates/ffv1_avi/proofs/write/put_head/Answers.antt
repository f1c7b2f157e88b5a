-- The file's parts before movi, for the given sizes of the format and of RIFF.
use Rattle.std.proofs.Common.{◌≡◌, ℕ, List, ◌+◌, ◌++◌, ◌∙◌, ap, length, Option, Err, arith}
use Rattle.std.proofs.lemmas.Result.{err_from_is_err_and}
use Rattle.ffv1_reads.specs.declared.fault.FileFault.{FileFault}
use Rattle.ffv1_reads.specs.Head.{Head, head_of}
use Rattle.ffv1_avi.specs.Padding.{padded}
use Rattle.ffv1_avi.specs.Written.{avih, format_size, head_text, opening, padding, spelled, stream}
use Rattle.ffv1_avi.specs.Written.{strf}
use Rattle.ffv1_wire.specs.Passage.{between}
use Rattle.ffv1_reads.specs.Writes.{Writes}
use Rattle.ffv1_reads.proofs.Writing.{appends_then, stops_then, writes_stop, writes_then}
use Rattle.ffv1_avi.proofs.write.put_head.Goals as goal

-- the parts before each step
abbrev one : Head → ℕ → List ℕ
one h size = spelled (opening size (format_size h))

abbrev two : Head → ℕ → ℕ → List ℕ
two h count size = one h size ++ spelled (avih h count)

abbrev three : Head → ℕ → ℕ → List ℕ
three h count size = two h count size ++ spelled (stream h (format_size h) count)

abbrev four : Head → ℕ → ℕ → List ℕ
four h count size = three h count size ++ spelled (strf h)

abbrev five : Head → ℕ → ℕ → List ℕ
five h count size = four h count size ++ h.config_record

from_five : (a b : Option (List ℕ)) (m n : ℕ) (h : Head) (count size : ℕ) (f : FileFault) → Writes
    (between a b m n) (five h count size) (Err f) → Writes (between a b m n)
    (head_text h count size) (Err f)
from_five a b m n h count size f w = writes_stop a b m n (five h count size)
    (padding (40 + length h.config_record)) f w

from_four : (a b : Option (List ℕ)) (m n : ℕ) (h : Head) (count size : ℕ) (f : FileFault) → Writes
    (between a b m n) (four h count size) (Err f) → Writes (between a b m n)
    (head_text h count size) (Err f)
from_four a b m n h count size f w = from_five a b m n h count size f
    (writes_stop a b m n (four h count size) h.config_record f w)

from_three : (a b : Option (List ℕ)) (m n : ℕ) (h : Head) (count size : ℕ) (f : FileFault) → Writes
    (between a b m n) (three h count size) (Err f) → Writes (between a b m n)
    (head_text h count size) (Err f)
from_three a b m n h count size f w = from_four a b m n h count size f
    (writes_stop a b m n (three h count size) (spelled (strf h)) f w)

from_two : (a b : Option (List ℕ)) (m n : ℕ) (h : Head) (count size : ℕ) (f : FileFault) → Writes
    (between a b m n) (two h count size) (Err f) → Writes (between a b m n) (head_text h count size)
    (Err f)
from_two a b m n h count size f w = from_three a b m n h count size f
    (writes_stop a b m n (two h count size) (spelled (stream h (format_size h) count)) f w)

from_one : (a b : Option (List ℕ)) (m n : ℕ) (h : Head) (count size : ℕ) (f : FileFault) → Writes
    (between a b m n) (one h size) (Err f) → Writes (between a b m n) (head_text h count size)
    (Err f)
from_one a b m n h count size f w = from_two a b m n h count size f
    (writes_stop a b m n (one h size) (spelled (avih h count)) f w)

pub put_opening-requires : goal.put_opening-requires
put_opening-requires g c = omega (
  arith,
  c.requires.short,
  c.padded-format.ensures,
  c.len-len.ensures,
)

pub put_stream-requires-clause-format : goal.put_stream-requires-clause-format
put_stream-requires-clause-format g c = omega (
  arith,
  c.requires.short,
  c.padded-format.ensures,
  c.len-len.ensures,
)

pub returns-in_err-put_opening : goal.returns-in_err-put_opening
returns-in_err-put_opening g c =
    let p = err_from_is_err_and c.from_residual.result c.from_residual.ensures.1 in
    let h = head_of c.args.head.now in
    let long : c.len-len.result ≡ length c.args.head.now.config_record.items =
    omega (arith, c.len-len.ensures) in
    let e : c.padded-format.result ≡ format_size h = c.padded-format.ensures ∙
    ap (λ n. padded (40 + n)) long in
    rw (p.1, p.2) (from_one _ _ _ _ h c.args.count c.args.size _
    (rw e at c.in_err-put_opening.ensures))

pub returns-in_err-put_main_header : goal.returns-in_err-put_main_header
returns-in_err-put_main_header g c =
    let p = err_from_is_err_and c.from_residual-in_err-put_main_header.result
    c.from_residual-in_err-put_main_header.ensures.1 in
    let h = head_of c.args.head.now in
    let long : c.len-len.result ≡ length c.args.head.now.config_record.items =
    omega (arith, c.len-len.ensures) in
    let e : c.padded-format.result ≡ format_size h = c.padded-format.ensures ∙
    ap (λ n. padded (40 + n)) long in
    let w1 = rw e at c.in_ok-put_opening.ensures in
    rw (p.1, p.2) (from_two _ _ _ _ h c.args.count c.args.size _
    (stops_then _ _ _ _ _ _ (one h c.args.size) (spelled (avih h c.args.count)) _ w1.0 w1.1
    c.in_err-put_main_header.ensures))

pub returns-in_err-put_stream : goal.returns-in_err-put_stream
returns-in_err-put_stream g c =
    let p = err_from_is_err_and c.from_residual-in_err-put_stream.result
    c.from_residual-in_err-put_stream.ensures.1 in
    let h = head_of c.args.head.now in
    let count = c.args.count in
    let size = c.args.size in
    let long : c.len-len.result ≡ length c.args.head.now.config_record.items =
    omega (arith, c.len-len.ensures) in
    let e : c.padded-format.result ≡ format_size h = c.padded-format.ensures ∙
    ap (λ n. padded (40 + n)) long in
    let w1 = rw e at c.in_ok-put_opening.ensures in
    let w2 = c.in_ok-put_main_header.ensures in
    let a2 = appends_then _ _ _ (one h size) (spelled (avih h count)) w1.1 w2.1 in
    rw (p.1, p.2) (from_three _ _ _ _ h count size _
    (stops_then _ _ _ _ _ _ (two h count size) (spelled (stream h (format_size h) count)) _
    (w2.0 ∙ w1.0) a2 (rw e at c.in_err-put_stream.ensures)))

pub returns-in_err-put_format : goal.returns-in_err-put_format
returns-in_err-put_format g c =
    let p = err_from_is_err_and c.from_residual-in_err-put_format.result
    c.from_residual-in_err-put_format.ensures.1 in
    let h = head_of c.args.head.now in
    let count = c.args.count in
    let size = c.args.size in
    let long : c.len-len.result ≡ length c.args.head.now.config_record.items =
    omega (arith, c.len-len.ensures) in
    let e : c.padded-format.result ≡ format_size h = c.padded-format.ensures ∙
    ap (λ n. padded (40 + n)) long in
    let w1 = rw e at c.in_ok-put_opening.ensures in
    let w2 = c.in_ok-put_main_header.ensures in
    let w3 = rw e at c.in_ok-put_stream.ensures in
    let a2 = appends_then _ _ _ (one h size) (spelled (avih h count)) w1.1 w2.1 in
    let a3 = appends_then _ _ _ (two h count size) (spelled (stream h (format_size h) count)) a2
    w3.1 in
    rw (p.1, p.2) (from_four _ _ _ _ h count size _
    (stops_then _ _ _ _ _ _ (three h count size) (spelled (strf h)) _ (w3.0 ∙ w2.0 ∙ w1.0) a3
    c.in_err-put_format.ensures))

pub returns-in_err-put : goal.returns-in_err-put
returns-in_err-put g c =
    let p = err_from_is_err_and c.from_residual-in_err-put.result
    c.from_residual-in_err-put.ensures.1 in
    let h = head_of c.args.head.now in
    let count = c.args.count in
    let size = c.args.size in
    let long : c.len-len.result ≡ length c.args.head.now.config_record.items =
    omega (arith, c.len-len.ensures) in
    let e : c.padded-format.result ≡ format_size h = c.padded-format.ensures ∙
    ap (λ n. padded (40 + n)) long in
    let w1 = rw e at c.in_ok-put_opening.ensures in
    let w2 = c.in_ok-put_main_header.ensures in
    let w3 = rw e at c.in_ok-put_stream.ensures in
    let a2 = appends_then _ _ _ (one h size) (spelled (avih h count)) w1.1 w2.1 in
    let a3 = appends_then _ _ _ (two h count size) (spelled (stream h (format_size h) count)) a2
    w3.1 in
    let w4 = c.in_ok-put_format.ensures in
    let a4 = appends_then _ _ _ (three h count size) (spelled (strf h)) a3 w4.1 in
    rw (p.1, p.2) (from_five _ _ _ _ h count size _
    (stops_then _ _ _ _ _ _ (four h count size) h.config_record _ (w4.0 ∙ w3.0 ∙ w2.0 ∙ w1.0) a4
    (rw c.deref.ensures.value at c.in_err-put.ensures)))

pub returns : goal.returns
returns g c =
    let h = head_of c.args.head.now in
    let count = c.args.count in
    let size = c.args.size in
    let long : c.len-len.result ≡ length c.args.head.now.config_record.items =
    omega (arith, c.len-len.ensures) in
    let e : c.padded-format.result ≡ format_size h = c.padded-format.ensures ∙
    ap (λ n. padded (40 + n)) long in
    let w1 = rw e at c.in_ok-put_opening.ensures in
    let w2 = c.in_ok-put_main_header.ensures in
    let w3 = rw e at c.in_ok-put_stream.ensures in
    let a2 = appends_then _ _ _ (one h size) (spelled (avih h count)) w1.1 w2.1 in
    let a3 = appends_then _ _ _ (two h count size) (spelled (stream h (format_size h) count)) a2
    w3.1 in
    let w4 = c.in_ok-put_format.ensures in
    let a4 = appends_then _ _ _ (three h count size) (spelled (strf h)) a3 w4.1 in
    let w5 = rw c.deref.ensures.value at c.in_ok-put.ensures in
    let a5 = appends_then _ _ _ (four h count size) h.config_record a4 w5.1 in
    writes_then _ _ _ _ _ _ (five h count size) (padding (40 + length h.config_record))
    c.put_padding.result (w5.0 ∙ w4.0 ∙ w3.0 ∙ w2.0 ∙ w1.0) a5
    (rw long at c.put_padding.ensures)
