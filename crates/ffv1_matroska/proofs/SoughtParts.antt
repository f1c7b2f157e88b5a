-- The first Tracks of a Segment are found among its parts, wherever they stand.
use Rattle.std.proofs.Common.{◌≡◌, if◌then◌else◌, ◌≤◌, ◌<◌, ◌+◌, ◌==◌, ◌||◌, ◌&&◌, ◌∙◌, ◌++◌, ◌∷◌, [], ℕ, suc, zero, List, Bool, true, false, nat_lt, Option, Some, None, Result, Ok, Err, inl, inr, length, refl, sym, ap, subst, arith, append_assoc, length-append}
use Rattle.std.proofs.lemmas.Bool.{cases_eq, eq-eqb, le-ltb, ltb-false, ne_eqb}
use Rattle.ffv1_reads.specs.Head.{limit}
use Rattle.ffv1_reads.specs.declared.fault.FileFault.{FileFault}
use Rattle.ffv1_reads.specs.declared.fault.FileFault.TheVariants as fault
use Rattle.ffv1_reads.specs.Reads.{Kept, Met, Reading, read_on, ◌>>=◌}
use Rattle.ffv1_reads.proofs.Results.{ok_is}
use Rattle.ffv1_reads.proofs.WantedBytes.{passed_complete, wanted_complete}
use Rattle.ffv1_ebml.specs.Elements.{first_read}
use Rattle.ffv1_ebml.specs.Spelled.{SaysSize}
use Rattle.ffv1_ebml.specs.Vints.{IsVint, number_of}
use Rattle.ffv1_matroska.specs.Elements.{AreLoose, AreParts, ArePieces, IsPart, IsPiece, IsTopLevel, Part, Piece, SaysIdent, Top, TopLevel, Sized, Unsized, part_text, parts_text, piece_ident, piece_text, pieces_text, top_text}
use Rattle.ffv1_matroska.specs.Internal.{bytes_of}
use Rattle.ffv1_matroska.specs.Late.{passed_over, sought_up_to, tracks_or_on}
use Rattle.ffv1_matroska.specs.MatroskaFiles.{IsTracks}
use Rattle.ffv1_matroska.specs.Opened.{element_passed, told, tracks, tracks_read}
use Rattle.ffv1_matroska.specs.Opening.{content_kept}
use Rattle.ffv1_matroska.specs.Places.{segment_at}
use Rattle.ffv1_matroska.specs.SegmentFiles.{FirstTracks}
use Rattle.ffv1_matroska.specs.Segments.{cluster, header_read, is_filler, is_of_cluster}
use Rattle.ffv1_matroska.specs.Tracks.{Track, track_in}
use Rattle.ffv1_matroska.specs.declared.place.Place.{Place}
use Rattle.ffv1_matroska.specs.declared.track.TrackNumbers.{TrackNumbers}
use Rattle.ffv1_matroska.proofs.FileLaws.{HasEnded}
use Rattle.ffv1_matroska.proofs.OpenedLaws.{top_passed}
use Rattle.ffv1_matroska.proofs.PartLaws.{and_false, filler_only, header_is_read, of_cluster_apart, top_only}
use Rattle.ffv1_matroska.proofs.PieceLaws.{header_some, piece_content, piece_parts}
use Rattle.ffv1_matroska.proofs.StepBounds.{err_is_no_ok}

-- what is sought after the header of an element
abbrev after_header : ℕ → Place → Bool → ℕ → Option ℕ → ℕ → Reading Track
after_header most base loose ident known m =
    if ident == tracks then tracks_read known else (passed_over loose ident known >>= λ l. sought_up_to most (segment_at base l m))

element_sought : (most : ℕ) (base : Place) (loose : Bool) (ident size : List ℕ) (known : Option ℕ) (m : ℕ) (rest : List ℕ) → IsVint ident → length ident ≤ 4 → SaysSize size known →
    sought_up_to (suc most) (segment_at base loose (length (ident ++ size) + (bytes_of known + m))) ((ident ++ size) ++ rest) ≡ after_header most base loose (number_of ident) known m rest
unfolding sought_up_to
element_sought most base loose ident size known m rest named few sized =
    ap (λ z. read_on z (tracks_or_on (sought_up_to most) (segment_at base loose (length (ident ++ size) + (bytes_of known + m))))) (header_is_read base loose ident size known m rest named few sized)

-- an element of known size with its content
content_sought : (most : ℕ) (base : Place) (loose : Bool) (ident size body : List ℕ) (m : ℕ) (rest : List ℕ) → IsVint ident → length ident ≤ 4 → SaysSize size (Some (length body)) →
    sought_up_to (suc most) (segment_at base loose (length ((ident ++ size) ++ body) + m)) (((ident ++ size) ++ body) ++ rest) ≡ after_header most base loose (number_of ident) (Some (length body)) m (body ++ rest)
content_sought most base loose ident size body m rest named few sized =
    let head = ident ++ size in
    let long : length (head ++ body) + m ≡ length head + (length body + m) = omega (arith, length-append head body) in
    ap (λ k. sought_up_to (suc most) (segment_at base loose k) ((head ++ body) ++ rest)) long
    ∙ ap (sought_up_to (suc most) (segment_at base loose (length head + (length body + m)))) (append_assoc head body rest)
    ∙ element_sought most base loose ident size (Some (length body)) m (body ++ rest) named few sized

-- no Tracks, and no Cluster
top_sought : (most : ℕ) (base : Place) (loose : Bool) (t : TopLevel) (m : ℕ) (rest : List ℕ) → IsTopLevel t → (number_of t.ident ≡ tracks → ⊥) →
    sought_up_to (suc most) (segment_at base loose (length (top_text t) + m)) (top_text t ++ rest) ≡ sought_up_to most (segment_at base (loose && is_filler (number_of t.ident)) m) rest
unfolding passed_over
top_sought most base loose t m rest is other =
    let n = number_of t.ident in
    let only = top_only n is.known in
    let differ : (n == tracks) ≡ false = ne_eqb _ _ other in
    let no : (loose && is_of_cluster n) ≡ false = ap (λ b. loose && b) only.1 ∙ and_false loose in
    content_sought most base loose t.ident t.size t.content m rest is.named is.few is.sized
    ∙ rw (differ, only.0, no, top_passed t rest is) refl

-- Tracks
tracks_found : (most : ℕ) (base : Place) (loose : Bool) (t : TopLevel) (track : Track) (m : ℕ) (rest : List ℕ) → IsTracks t track →
    sought_up_to (suc most) (segment_at base loose (length (top_text t) + m)) (top_text t ++ rest) ≡ Ok (track, rest)
unfolding tracks_read content_kept
tracks_found most base loose t track m rest is =
    let body = t.content in
    let there : (number_of t.ident == tracks) ≡ true = eq-eqb _ _ is.is in
    content_sought most base loose t.ident t.size body m rest is.named is.few is.sized
    ∙ rw (there, le-ltb _ _ is.short, wanted_complete Kept (length body) body rest refl, is.says) refl

-- those that were read
tracks_are : (most : ℕ) (base : Place) (loose : Bool) (t : TopLevel) (track : Track) (m : ℕ) (rest left : List ℕ) → IsTopLevel t → number_of t.ident ≡ tracks →
    sought_up_to (suc most) (segment_at base loose (length (top_text t) + m)) (top_text t ++ rest) ≡ Ok (track, left) → IsTracks t track
unfolding tracks_read content_kept
tracks_are most base loose t track m rest left is same read = on_limit (nat_lt limit (length t.content)) refl
  where
    body : List ℕ
    body = t.content

    there : (number_of t.ident == tracks) ≡ true
    there = eq-eqb _ _ same

    after : tracks_read (Some (length body)) (body ++ rest) ≡ Ok (track, left)
    after =
        let all = sym (content_sought most base loose t.ident t.size body m rest is.named is.few is.sized) ∙ read in
        rw there at all

    on_told : nat_lt limit (length body) ≡ false → (r : Result Track FileFault) → track_in body ≡ r → told r rest ≡ Ok (track, left) → IsTracks t track
    on_told short (Err f) says r = absurd (err_is_no_ok (Met f rest) (track, left) r)
    on_told short (Ok other) says r =
        let end = ok_is (other, rest) (track, left) r in
        let one : other ≡ track = ap (λ (z : Track × List ℕ). z.0) end in
        record { named = is.named; few = is.few; is = same; sized = is.sized; short = ltb-false _ _ short; says = says ∙ ap Ok one }

    on_limit : (b : Bool) → nat_lt limit (length body) ≡ b → IsTracks t track
    on_limit true b = absurd (err_is_no_ok (Met fault.ChunkTooLong (body ++ rest)) (track, left) (rw b at after))
    on_limit false b =
        let kept = rw (b, wanted_complete Kept (length body) body rest refl) at after in
        on_told b (track_in body) refl kept

-- a Cluster of known size
sized_sought : (most : ℕ) (base : Place) (loose : Bool) (ident size body : List ℕ) (m : ℕ) (rest : List ℕ) → SaysIdent ident cluster → SaysSize size (Some (length body)) →
    sought_up_to (suc most) (segment_at base loose (length ((ident ++ size) ++ body) + m)) (((ident ++ size) ++ body) ++ rest) ≡ sought_up_to most (segment_at base false m) rest
unfolding passed_over
sized_sought most base loose ident size body m rest is sized =
    let apart : (number_of ident == tracks) ≡ false = ap (λ k. k == tracks) is.2 in
    let there : (number_of ident == cluster) ≡ true = eq-eqb _ _ is.2 in
    content_sought most base loose ident size body m rest is.0 is.1 sized
    ∙ rw (apart, there, passed_complete (length body) body rest refl) refl

-- the header of one of unknown size
unsized_sought : (most : ℕ) (base : Place) (loose : Bool) (ident size : List ℕ) (m : ℕ) (rest : List ℕ) → SaysIdent ident cluster → SaysSize size None →
    sought_up_to (suc most) (segment_at base loose (length (ident ++ size) + m)) ((ident ++ size) ++ rest) ≡ sought_up_to most (segment_at base true m) rest
unfolding passed_over
unsized_sought most base loose ident size m rest is unsized =
    let apart : (number_of ident == tracks) ≡ false = ap (λ k. k == tracks) is.2 in
    let there : (number_of ident == cluster) ≡ true = eq-eqb _ _ is.2 in
    let long : length (ident ++ size) + m ≡ length (ident ++ size) + (0 + m) = omega arith in
    ap (λ k. sought_up_to (suc most) (segment_at base loose k) ((ident ++ size) ++ rest)) long
    ∙ element_sought most base loose ident size None m rest is.0 is.1 unsized
    ∙ rw (apart, there) refl

-- an element of it
loose_apart : (n : ℕ) → (is_of_cluster n || is_filler n) ≡ true → (n == tracks) ≡ false
unfolding is_of_cluster is_filler
loose_apart n h = elim (cases_eq n tracks) [ inl same ↦ absurd (no same h) | inr other ↦ ne_eqb _ _ other ]
  where
    no : n ≡ tracks → (is_of_cluster n || is_filler n) ≡ true → ⊥
    no same h = let P : ℕ → Type 0 = λ k. (is_of_cluster k || is_filler k) ≡ true in cc (subst P same h)

loose_over : (n : ℕ) (body rest : List ℕ) → (is_of_cluster n || is_filler n) ≡ true → passed_over true n (Some (length body)) (body ++ rest) ≡ Ok (true, rest)
unfolding passed_over element_passed
loose_over n body rest h = on_test (is_of_cluster n) refl h
  where
    no : (n == cluster) ≡ false
    no = of_cluster_apart n h

    on_test : (b : Bool) → is_of_cluster n ≡ b → (b || is_filler n) ≡ true → passed_over true n (Some (length body)) (body ++ rest) ≡ Ok (true, rest)
    on_test true t k = rw (no, t, passed_complete (length body) body rest refl) refl
    on_test false t k = let only = filler_only n k in rw (no, t, only.no_section, k, passed_complete (length body) body rest refl) refl

piece_sought : (track : TrackNumbers) (most : ℕ) (base : Place) (p : Piece) (m : ℕ) (rest : List ℕ) → IsPiece track p → (is_of_cluster (piece_ident p) || is_filler (piece_ident p)) ≡ true →
    sought_up_to (suc most) (segment_at base true (length (piece_text p) + m)) (piece_text p ++ rest) ≡ sought_up_to most (segment_at base true m) rest
piece_sought track most base p m rest is loose =
    let h = piece_parts track p is in
    let body = piece_content p in
    let apart : (number_of h.ident == tracks) ≡ false = ap (λ k. k == tracks) h.number ∙ loose_apart (piece_ident p) loose in
    let over : passed_over true (number_of h.ident) (Some (length body)) (body ++ rest) ≡ Ok (true, rest) = ap (λ k. passed_over true k (Some (length body)) (body ++ rest)) h.number ∙ loose_over (piece_ident p) body rest loose in
    ap (λ z. sought_up_to (suc most) (segment_at base true (length z + m)) (z ++ rest)) h.text_is
    ∙ content_sought most base true h.ident h.size body m rest h.named h.few h.sized
    ∙ rw (apart, over) refl

pieces_sought : (track : TrackNumbers) (most : ℕ) (base : Place) (ps : List Piece) (m : ℕ) (rest : List ℕ) → ArePieces track ps → AreLoose ps → length (pieces_text ps) + m < most →
    (less : ℕ) × (m < less) × (sought_up_to most (segment_at base true (length (pieces_text ps) + m)) (pieces_text ps ++ rest) ≡ sought_up_to less (segment_at base true m) rest)
pieces_sought track most base [] m rest are loose fits =
    let none : 0 + m ≡ m = omega arith in
    (most, omega (arith, fits), ap (λ k. sought_up_to most (segment_at base true k) rest) none)
pieces_sought track zero base (p ∷ ps) m rest are loose fits = absurd (omega (arith, fits))
pieces_sought track (suc most) base (p ∷ ps) m rest are loose fits =
    let long : length (piece_text p ++ pieces_text ps) + m ≡ length (piece_text p) + (length (pieces_text ps) + m) = omega (arith, length-append (piece_text p) (pieces_text ps)) in
    let h = piece_parts track p are.0 in
    let some : 0 < length (piece_text p) = omega (arith, header_some h.ident h.size (piece_content p) h.named, ap length h.text_is) in
    let next = pieces_sought track most base ps m rest are.1 loose.1 (omega (arith, fits, long, some)) in (
      next.0,
      next.1,
      ap (λ k. sought_up_to (suc most) (segment_at base true k) ((piece_text p ++ pieces_text ps) ++ rest)) long
          ∙ ap (sought_up_to (suc most) (segment_at base true (length (piece_text p) + (length (pieces_text ps) + m)))) (append_assoc (piece_text p) (pieces_text ps) rest)
          ∙ piece_sought track most base p (length (pieces_text ps) + m) (pieces_text ps ++ rest) are.0 loose.0
          ∙ next.2,
    )

-- a part that is no Tracks
abbrev pub IsOther : Part → Type 0
IsOther (Top t) = number_of t.ident ≡ tracks → ⊥
IsOther (Sized ident size ps) = Unit {0}
IsOther (Unsized ident size ps) = Unit {0}

part_some : (track : TrackNumbers) (p : Part) → IsPart track p → 0 < length (part_text p)
part_some track (Top t) is = omega (arith, header_some t.ident t.size t.content is.named)
part_some track (Sized ident size ps) is = omega (arith, header_some ident size (pieces_text ps) is.0.0)
part_some track (Unsized ident size ps) is = omega (arith, header_some ident size (pieces_text ps) is.0.0)

part_sought : (track : TrackNumbers) (most : ℕ) (base : Place) (loose : Bool) (p : Part) (m : ℕ) (rest : List ℕ) → IsPart track p → IsOther p → length (part_text p) + m < suc most →
    (less : ℕ) × (l : Bool) × (m < less) × (sought_up_to (suc most) (segment_at base loose (length (part_text p) + m)) (part_text p ++ rest) ≡ sought_up_to less (segment_at base l m) rest)
part_sought track most base loose (Top t) m rest is other fits =
    (most, (loose && is_filler (number_of t.ident)), omega (arith, fits, part_some track (Top t) is), top_sought most base loose t m rest is other)
part_sought track most base loose (Sized ident size ps) m rest is other fits =
    (most, false, omega (arith, fits, part_some track (Sized ident size ps) is), sized_sought most base loose ident size (pieces_text ps) m rest is.0 is.1)
part_sought track most base loose (Unsized ident size ps) m rest is other fits =
    let head = ident ++ size in
    let body = pieces_text ps in
    let long : length (head ++ body) + m ≡ length head + (length body + m) = omega (arith, length-append head body) in
    let next = pieces_sought track most base ps m rest is.2 is.3 (omega (arith, fits, long, header_some ident size [] is.0.0, length-append head [])) in (
      next.0,
      true,
      next.1,
      ap (λ k. sought_up_to (suc most) (segment_at base loose k) ((head ++ body) ++ rest)) long
          ∙ ap (sought_up_to (suc most) (segment_at base loose (length head + (length body + m)))) (append_assoc head body rest)
          ∙ unsized_sought most base loose ident size (length body + m) (body ++ rest) is.0 is.1
          ∙ next.2,
    )

-- a part and those after it
module _ (most : ℕ) (base : Place) (loose : Bool) (p : Part) (ps : List Part) (m : ℕ) (rest : List ℕ) where
  part_first : sought_up_to most (segment_at base loose (length (parts_text (p ∷ ps)) + m)) (parts_text (p ∷ ps) ++ rest) ≡ sought_up_to most (segment_at base loose (length (part_text p) + (length (parts_text ps) + m))) (part_text p ++ (parts_text ps ++ rest))
  part_first =
      let here = length (parts_text ps) + m in
      let long : length (part_text p ++ parts_text ps) + m ≡ length (part_text p) + here = omega (arith, length-append (part_text p) (parts_text ps)) in
      ap (λ k. sought_up_to most (segment_at base loose k) ((part_text p ++ parts_text ps) ++ rest)) long
      ∙ ap (sought_up_to most (segment_at base loose (length (part_text p) + here))) (append_assoc (part_text p) (parts_text ps) rest)

  part_fits : length (parts_text (p ∷ ps)) + m < most → length (part_text p) + (length (parts_text ps) + m) < most
  part_fits fits = omega (arith, fits, length-append (part_text p) (parts_text ps))

  -- what is sought after it
  pub part_over : (track : TrackNumbers) → IsPart track p → IsOther p → length (parts_text (p ∷ ps)) + m < most →
      (less : ℕ) × (l : Bool) × (length (parts_text ps) + m < less) × (sought_up_to most (segment_at base loose (length (parts_text (p ∷ ps)) + m)) (parts_text (p ∷ ps) ++ rest) ≡ sought_up_to less (segment_at base l (length (parts_text ps) + m)) (parts_text ps ++ rest))
  part_over track is other fits = on_most most (part_fits fits) part_first
    where
      here : ℕ
      here = length (parts_text ps) + m

      back : List ℕ
      back = parts_text ps ++ rest

      on_most : (n : ℕ) → length (part_text p) + here < n → sought_up_to most (segment_at base loose (length (parts_text (p ∷ ps)) + m)) (parts_text (p ∷ ps) ++ rest) ≡ sought_up_to n (segment_at base loose (length (part_text p) + here)) (part_text p ++ back) →
          (less : ℕ) × (l : Bool) × (here < less) × (sought_up_to most (segment_at base loose (length (parts_text (p ∷ ps)) + m)) (parts_text (p ∷ ps) ++ rest) ≡ sought_up_to less (segment_at base l here) back)
      on_most zero fits first = absurd (omega (arith, fits))
      on_most (suc n) fits first =
          let next = part_sought track n base loose p here back is other fits in
          (next.0, next.1, next.2, first ∙ next.3)

-- the first Tracks are found
abbrev pub Finds : Place → List Part → Track → ℕ → List ℕ → Type 0
Finds base ps track m rest = (most : ℕ) (loose : Bool) → length (parts_text ps) + m < most →
    (left : List ℕ) × (sought_up_to most (segment_at base loose (length (parts_text ps) + m)) (parts_text ps ++ rest) ≡ Ok (track, left))

finds_after : (numbers : TrackNumbers) (base : Place) (p : Part) (ps : List Part) (track : Track) (m : ℕ) (rest : List ℕ) → IsPart numbers p → IsOther p → Finds base ps track m rest → Finds base (p ∷ ps) track m rest
finds_after numbers base p ps track m rest is other again = λ most loose fits.
    (let over = part_over most base loose p ps m rest numbers is other fits in
    let on = again over.0 over.1 over.2 in
    (on.0, over.3 ∙ on.1))

finds_here : (base : Place) (t : TopLevel) (ps : List Part) (track : Track) (m : ℕ) (rest : List ℕ) → IsTracks t track → Finds base (Top t ∷ ps) track m rest
finds_here base t ps track m rest is zero loose fits = absurd (omega (arith, fits))
finds_here base t ps track m rest is (suc most) loose fits =
    let here = length (parts_text ps) + m in
    let back = parts_text ps ++ rest in
    (back, part_first (suc most) base loose (Top t) ps m rest ∙ tracks_found most base loose t track here back is)

pub parts_find : (numbers : TrackNumbers) (base : Place) (ps : List Part) (track : Track) (m : ℕ) (rest : List ℕ) → AreParts numbers ps → FirstTracks ps track → Finds base ps track m rest
parts_find numbers base [] track m rest are first = absurd first
parts_find numbers base (Top t ∷ ps) track m rest are (inl is) = finds_here base t ps track m rest is
parts_find numbers base (Top t ∷ ps) track m rest are (inr (other, more)) = finds_after numbers base (Top t) ps track m rest are.0 other (parts_find numbers base ps track m rest are.1 more)
parts_find numbers base (Sized ident size pieces ∷ ps) track m rest are first = finds_after numbers base (Sized ident size pieces) ps track m rest are.0 tt (parts_find numbers base ps track m rest are.1 first)
parts_find numbers base (Unsized ident size pieces ∷ ps) track m rest are first = finds_after numbers base (Unsized ident size pieces) ps track m rest are.0 tt (parts_find numbers base ps track m rest are.1 first)

-- those that are found are the first
abbrev pub Tells : Place → List Part → Track → ℕ → List ℕ → Type 0
Tells base ps track m rest = (most : ℕ) (loose : Bool) (left : List ℕ) → length (parts_text ps) + m < most →
    sought_up_to most (segment_at base loose (length (parts_text ps) + m)) (parts_text ps ++ rest) ≡ Ok (track, left) → FirstTracks ps track

tells_after : (numbers : TrackNumbers) (base : Place) (p : Part) (ps : List Part) (track : Track) (m : ℕ) (rest : List ℕ) → IsPart numbers p → IsOther p → Tells base ps track m rest →
    (most : ℕ) (loose : Bool) (left : List ℕ) → length (parts_text (p ∷ ps)) + m < most → sought_up_to most (segment_at base loose (length (parts_text (p ∷ ps)) + m)) (parts_text (p ∷ ps) ++ rest) ≡ Ok (track, left) → FirstTracks ps track
tells_after numbers base p ps track m rest is other again most loose left fits read =
    let over = part_over most base loose p ps m rest numbers is other fits in
    again over.0 over.1 left over.2 (sym over.3 ∙ read)

tells_here : (base : Place) (t : TopLevel) (ps : List Part) (track : Track) (m : ℕ) (rest : List ℕ) → IsTopLevel t → number_of t.ident ≡ tracks →
    (most : ℕ) (loose : Bool) (left : List ℕ) → length (parts_text (Top t ∷ ps)) + m < most → sought_up_to most (segment_at base loose (length (parts_text (Top t ∷ ps)) + m)) (parts_text (Top t ∷ ps) ++ rest) ≡ Ok (track, left) → IsTracks t track
tells_here base t ps track m rest is same zero loose left fits read = absurd (omega (arith, fits))
tells_here base t ps track m rest is same (suc most) loose left fits read =
    tracks_are most base loose t track (length (parts_text ps) + m) (parts_text ps ++ rest) left is same (sym (part_first (suc most) base loose (Top t) ps m rest) ∙ read)

-- there are none up to the end
ended_sought : (most : ℕ) (base : Place) (loose : Bool) (m : ℕ) (rest : List ℕ) → HasEnded base m rest → sought_up_to most (segment_at base loose m) rest ≡ Err (Met fault.NoTracks rest)
unfolding sought_up_to header_read first_read
ended_sought zero base loose m rest h = refl
ended_sought (suc most) base loose m rest (inl none) = rw none refl
ended_sought (suc most) base loose m rest (inr (some, over, endless)) =
    let left : (m == 0) ≡ false = ne_eqb _ _ (λ e. omega (arith, e, some)) in
    rw (over, left, endless) refl

pub parts_tell : (numbers : TrackNumbers) (base : Place) (ps : List Part) (track : Track) (m : ℕ) (rest : List ℕ) → HasEnded base m rest → AreParts numbers ps → Tells base ps track m rest
parts_tell numbers base [] track m rest ended are = λ most loose left fits read.
    (let none : 0 + m ≡ m = omega arith in
    let at : sought_up_to most (segment_at base loose (0 + m)) rest ≡ Err (Met fault.NoTracks rest) = ap (λ k. sought_up_to most (segment_at base loose k) rest) none ∙ ended_sought most base loose m rest ended in
    absurd (err_is_no_ok (Met fault.NoTracks rest) (track, left) (sym at ∙ read)))
parts_tell numbers base (Top t ∷ ps) track m rest ended are = λ most loose left fits read. elim (cases_eq (number_of t.ident) tracks) [
  | inl same ↦ inl (tells_here base t ps track m rest are.0 same most loose left fits read)
  | inr other ↦ inr (other, tells_after numbers base (Top t) ps track m rest are.0 other (parts_tell numbers base ps track m rest ended are.1) most loose left fits read)
]
parts_tell numbers base (Sized ident size pieces ∷ ps) track m rest ended are = tells_after numbers base (Sized ident size pieces) ps track m rest are.0 tt (parts_tell numbers base ps track m rest ended are.1)
parts_tell numbers base (Unsized ident size pieces ∷ ps) track m rest ended are = tells_after numbers base (Unsized ident size pieces) ps track m rest are.0 tt (parts_tell numbers base ps track m rest ended are.1)
