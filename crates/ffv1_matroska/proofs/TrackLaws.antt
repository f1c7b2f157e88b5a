-- Files without Tracks, and elements before the first Tracks that pass the Segment.
use Rattle.ffv1_ebml.proofs.OutsideLaws.{others_read}
use Rattle.std.proofs.Common.{◌≡◌, ◌≤◌, ◌<◌, ◌+◌, ◌-◌, ◌==◌, ◌∙◌, ◌++◌, [], ℕ, suc, zero, List, Bool, true, false, Option, Some, None, Err, inl, inr, length, refl, sym, ap, arith, append_assoc, length-append}
use Rattle.std.proofs.lemmas.Bool.{eq-eqb, lt-ltb, ne_eqb}
use Rattle.ffv1_reads.specs.declared.fault.FileFault.TheVariants as fault
use Rattle.ffv1_reads.specs.Reads.{Met, Stop, given, read_on, ◌>>=◌}
use Rattle.ffv1_ebml.specs.Elements.{element_in, element_judged, element_read, element_rest, first_read}
use Rattle.ffv1_ebml.specs.Spelled.{SaysSize}
use Rattle.ffv1_ebml.specs.Sums.{summed}
use Rattle.ffv1_ebml.specs.Vints.{number_of, size_of}
use Rattle.ffv1_ebml.specs.declared.sum.Sum.{Sum}
use Rattle.ffv1_ebml.specs.declared.sum.Sum.TheVariants.{Absent}
use Rattle.ffv1_ebml.proofs.VintLaws.{vint_complete}
use Rattle.ffv1_matroska.specs.Begun.{Fits, Passes, room}
use Rattle.ffv1_matroska.specs.Elements.{AreTopLevel, SaysIdent, TopLevel, tops_text}
use Rattle.ffv1_matroska.specs.Internal.{bytes_of}
use Rattle.ffv1_matroska.specs.MatroskaFiles.{AreBefore, FileBegins, SegmentEnds, endless}
use Rattle.ffv1_matroska.specs.Opened.{begin_up_to, begun_at, element_or_begun, open_read, segment_opened}
use Rattle.ffv1_matroska.specs.Opening.{segment_begun}
use Rattle.ffv1_matroska.specs.Places.{amount, segment_at}
use Rattle.ffv1_matroska.specs.Segments.{cluster, header_read}
use Rattle.ffv1_matroska.specs.declared.place.Place.{Place}
use Rattle.ffv1_matroska.proofs.FileLaws.{HasEnded}
use Rattle.ffv1_matroska.proofs.OpenedLaws.{begins_complete, tops_begun}
use Rattle.ffv1_matroska.proofs.PartLaws.{header_is_read, header_there}
use Rattle.ffv1_matroska.proofs.PieceLaws.{header_some}

-- where a Segment of this size begins
pub record HasStart (size : Option ℕ) : Type 0 where
  pub base : Place
  pub most : ℕ
  pub fits : room size < most
  pub open_only : base.endless ≡ true → size ≡ None
  pub ended : (long m : ℕ) (rest : List ℕ) → long + m ≡ room size → SegmentEnds size long rest → HasEnded base m rest
  pub opened : (content : List ℕ) → segment_opened size content ≡ read_on (begin_up_to most None (segment_at base false (room size)) content) (λ p. given (record { track = p.0; segment = size; place = p.1 }))

pub segment_start : (size : Option ℕ) → HasStart size
segment_start (Some n) =
    record { base = segment_begun (Some n); most = suc (amount (segment_begun (Some n))); fits = omega arith; open_only = λ e. absurd (cc e); ended = λ long m rest whole ends. inl (omega (arith, whole, ends)); opened = λ content. refl }
segment_start None =
    record { base = segment_begun None; most = suc (amount (segment_begun None)); fits = omega arith; open_only = λ e. refl; ended = ended; opened = λ content. refl }
  where
    ended : (long m : ℕ) (rest : List ℕ) → long + m ≡ room None → SegmentEnds None long rest → HasEnded (segment_begun None) m rest
    ended long m rest whole (inl full) = inl (omega (arith, whole, full))
    ended long m rest whole (inr (less, over)) = inr (omega (arith, whole, less), over, refl)

-- what its first elements are refused for, a file is
pub refused_at : (file content : List ℕ) (size : Option ℕ) (why : Stop) → FileBegins file size content → begin_up_to (segment_start size).most None (segment_at (segment_start size).base false (room size)) content ≡ Err why → open_read file ≡ Err why
refused_at file content size why is h =
    begins_complete file content size is ∙ (segment_start size).opened content ∙ ap (λ z. read_on z (λ p. given (record { track = p.0; segment = size; place = p.1 }))) h

-- a header whose element passes its parent
pub header_passes : (left : ℕ) (sum : Sum) (ident size rest : List ℕ) → Passes left ident size → element_read left sum ((ident ++ size) ++ rest) ≡ Err (Met fault.Truncated rest)
unfolding element_in
header_passes left sum ident size rest h =
    let parts : length (ident ++ size) ≡ length ident + length size = length-append ident size in
    let id : length ident ≤ left = omega (arith, h.header, parts) in
    let more : length size ≤ left - length ident = omega (arith, h.header, parts) in
    let few : left - length ident - length size < h.long = omega (arith, h.header, h.passes, parts) in
    ap (element_read left sum) (append_assoc ident size rest)
    ∙ ap (λ z. read_on z (element_rest left sum)) (vint_complete 4 left ident (size ++ rest) h.named h.few id)
    ∙ ap (λ z. read_on z (λ size. element_judged (left - length ident - length size) (number_of ident) (size_of size) >>= λ e. given (e, summed (summed sum ident) size))) (vint_complete 8 (left - length ident) size rest h.sized.0 h.sized.1 more)
    ∙ rw (h.sized.2, lt-ltb _ _ few) refl

pub passes_inside : (outside : ℕ → Bool) (left : ℕ) (sum : Sum) (ident size rest : List ℕ) → Passes left ident size → outside (number_of ident) ≡ false → element_in outside left sum ((ident ++ size) ++ rest) ≡ Err (Met fault.Truncated rest)
passes_inside outside left sum ident size rest h inside =
    let whole = append_assoc ident size rest in
    let fits : length ident ≤ left = omega (arith, h.header, length-append ident size) in
    ap (element_in outside left sum) whole ∙ others_read outside left sum ident (size ++ rest) h.named h.few fits inside
    ∙ ap (element_read left sum) (sym whole) ∙ header_passes left sum ident size rest h

pub header_refused : (base : Place) (loose : Bool) (left : ℕ) (ident size rest : List ℕ) → Passes left ident size → header_read (segment_at base loose left) ((ident ++ size) ++ rest) ≡ Err (Met fault.Truncated rest)
header_refused base loose left ident size rest passes =
    let there : 0 < length ((ident ++ size) ++ rest) = header_some ident size rest passes.named in
    let some : 0 < left = omega (arith, header_some ident size [] passes.named, length-append (ident ++ size) [], passes.header) in
    header_there (segment_at base loose left) ((ident ++ size) ++ rest) some there ∙ ap (λ z. read_on z (λ p. given (Some p.0))) (header_passes left Absent ident size rest passes)

-- a Cluster before any Tracks
pub cluster_first : (most : ℕ) (base : Place) (ident size rest : List ℕ) (known : Option ℕ) (m : ℕ) → SaysIdent ident cluster → SaysSize size known →
    begin_up_to (suc most) None (segment_at base false (length (ident ++ size) + (bytes_of known + m))) ((ident ++ size) ++ rest) ≡ Err (Met fault.NoTracks rest)
unfolding begin_up_to begun_at
cluster_first most base ident size rest known m is says =
    let there : (number_of ident == cluster) ≡ true = eq-eqb _ _ is.2 in
    ap (λ z. read_on z (element_or_begun (begin_up_to most) None (segment_at base false (length (ident ++ size) + (bytes_of known + m))))) (header_is_read base false ident size known m rest is.0 is.1 says)
    ∙ rw there refl

room_of : (n : ℕ) (header : List ℕ) (known : Option ℕ) → Fits n header known → length header + bytes_of known ≤ n
room_of n header None h = omega (arith, h)
room_of n header (Some k) h = h

pub cluster_without : (file : List ℕ) (size : Option ℕ) (before : List TopLevel) (ident said rest : List ℕ) (known : Option ℕ) → FileBegins file size (tops_text before ++ ((ident ++ said) ++ rest)) → AreTopLevel before → AreBefore before → SaysIdent ident cluster → SaysSize said known →
    Fits (room size) (tops_text before ++ (ident ++ said)) known → open_read file ≡ Err (Met fault.NoTracks rest)
cluster_without file size before ident said rest known begins are first is says fits = refused_at file _ size (Met fault.NoTracks rest) begins at
  where
    start : HasStart size
    start = segment_start size

    head : List ℕ
    head = ident ++ said

    at : begin_up_to start.most None (segment_at start.base false (room size)) (tops_text before ++ (head ++ rest)) ≡ Err (Met fault.NoTracks rest)
    at =
        let within = room_of (room size) (tops_text before ++ head) known fits in
        let parts : length (tops_text before ++ head) ≡ length (tops_text before) + length head = length-append (tops_text before) head in
        let m = room size - (length (tops_text before) + length head + bytes_of known) in
        let there = length head + (bytes_of known + m) in
        let whole : room size ≡ length (tops_text before) + there = omega (arith, within, parts) in
        let one = tops_begun start.most start.base before there (head ++ rest) are first (omega (arith, whole, start.fits)) in
        ap (λ k. begin_up_to start.most None (segment_at start.base false k) (tops_text before ++ (head ++ rest))) whole ∙ one.2 ∙ on_most one.0 one.1 m
      where
        on_most : (less : ℕ) → {m' : ℕ} → m' < less → (m : ℕ) → begin_up_to less None (segment_at start.base false (length head + (bytes_of known + m))) (head ++ rest) ≡ Err (Met fault.NoTracks rest)
        on_most zero less m = absurd (omega (arith, less))
        on_most (suc less) fits m = cluster_first less start.base ident said rest known m is says

-- the end of a Segment without Tracks
ended_first : (most : ℕ) (base : Place) (m : ℕ) (rest : List ℕ) → HasEnded base m rest → begin_up_to most None (segment_at base false m) rest ≡ Err (Met fault.NoTracks rest)
unfolding begin_up_to begun_at header_read first_read
ended_first zero base m rest h = refl
ended_first (suc most) base m rest (inl none) = rw none refl
ended_first (suc most) base m rest (inr (some, over, endless)) =
    let left : (m == 0) ≡ false = ne_eqb _ _ (λ e. omega (arith, e, some)) in
    rw (over, left, endless) refl

pub end_without : (file : List ℕ) (size : Option ℕ) (before : List TopLevel) (rest : List ℕ) → FileBegins file size (tops_text before ++ rest) → AreTopLevel before → AreBefore before → SegmentEnds size (length (tops_text before)) rest → open_read file ≡ Err (Met fault.NoTracks rest)
end_without file size before rest begins are first ends =
    let start = segment_start size in
    let long = length (tops_text before) in
    let m = room size - long in
    let whole : long + m ≡ room size = omega (arith, within size ends) in
    let one = tops_begun start.most start.base before m rest are first (omega (arith, whole, start.fits)) in
    refused_at file _ size (Met fault.NoTracks rest) begins
    (ap (λ k. begin_up_to start.most None (segment_at start.base false k) (tops_text before ++ rest)) (sym whole) ∙ one.2 ∙ ended_first one.0 start.base m rest (start.ended long m rest whole ends))
  where
    within : (size : Option ℕ) → SegmentEnds size (length (tops_text before)) rest → length (tops_text before) ≤ room size
    within (Some n) e = omega (arith, e)
    within None (inl full) = omega (arith, full)
    within None (inr (less, over)) = omega (arith, less)

-- an element before the first Tracks that passes the Segment
pub before_passes : (file : List ℕ) (size : Option ℕ) (before : List TopLevel) (left : ℕ) (ident said rest : List ℕ) → FileBegins file size (tops_text before ++ ((ident ++ said) ++ rest)) → AreTopLevel before → AreBefore before → room size ≡ length (tops_text before) + left →
    Passes left ident said → open_read file ≡ Err (Met fault.Truncated rest)
unfolding begin_up_to
before_passes file size before left ident said rest begins are first whole passes =
    let start = segment_start size in
    let head = ident ++ said in
    let one = tops_begun start.most start.base before left (head ++ rest) are first (omega (arith, whole, start.fits)) in
    refused_at file _ size (Met fault.Truncated rest) begins
    (ap (λ k. begin_up_to start.most None (segment_at start.base false k) (tops_text before ++ (head ++ rest))) whole ∙ one.2 ∙ on_most start.base one.0 one.1)
  where
    on_most : (base : Place) (less : ℕ) → left < less → begin_up_to less None (segment_at base false left) ((ident ++ said) ++ rest) ≡ Err (Met fault.Truncated rest)
    on_most base zero less = absurd (omega (arith, less))
    on_most base (suc most) less =
        ap (λ z. read_on z (element_or_begun (begin_up_to most) None (segment_at base false left))) (header_refused base false left ident said rest passes)
