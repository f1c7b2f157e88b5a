-- Nothing stands after a written file: it has one RIFF and in that one movi, and its chunks lead to
-- where the bytes end.
use Rattle.std.proofs.Common.{◌≡◌, ◌+◌, ◌≤◌, ◌==◌, ℕ, Bool, true, false, Option, Some, None, Result, Ok, Err, List, [], ◌∷◌, ◌++◌, length, length-append, drop, refl, sym, ap, subst, ◌∙◌, append-nil, append_assoc, arith}
use Rattle.byteorder.specs.Endian.{little_number}
use Rattle.ffv1_reads.specs.Head.{Head}
use Rattle.ffv1_reads.specs.Offsets.{Leads, ReadsWhole, all_bytes}
use Rattle.ffv1_reads.specs.Reads.{Kept, Stop, given, taken, ◌>>=◌}
use Rattle.ffv1_reads.proofs.Results.{ok_is, read_on_ok}
use Rattle.ffv1_avi.specs.declared.chunk.Entry.{Entry}
use Rattle.ffv1_avi.specs.declared.place.Extent.TheVariants.{EveryRiff}
use Rattle.ffv1_avi.specs.declared.place.Extent.{Extent}
use Rattle.ffv1_avi.specs.declared.place.Place.{Place}
use Rattle.ffv1_avi.specs.Chunks.{IsWritable, chunks_text}
use Rattle.ffv1_avi.specs.Files.{Headers, begins, no_headers, open_read, place_in, riff_begun, room_in, top_read, visit_top}
use Rattle.ffv1_avi.specs.Opens.{taken_or_end, visit_movi}
use Rattle.ffv1_avi.specs.Offsets.{BeforeFrames, InRiff, Spot, Start, chunk_taken, frame_taken, movi_taken, riff_begins, riff_taken, spot_taken, top_left, top_taken}
use Rattle.ffv1_avi.specs.Padding.{content, padded}
use Rattle.ffv1_avi.specs.Places.{ended, frame_at}
use Rattle.ffv1_avi.specs.Walk.{entry_in, entry_read, walk_in}
use Rattle.ffv1_avi.specs.Names.{riff_rule, rule_of}
use Rattle.ffv1_avi.specs.declared.place.Open.TheVariants.{Sized}
use Rattle.ffv1_avi.specs.Riffs.{riffs_text, sections_text}
use Rattle.ffv1_avi.specs.Written.{file_of}
use Rattle.ffv1_avi.proofs.ChunkByChunk.{walk_step_in}
use Rattle.ffv1_avi.proofs.ChunkReadings.{content_takes, entry_takes, visit_takes}
use Rattle.ffv1_avi.proofs.EveryRiffLaws.{file_opened}
use Rattle.ffv1_avi.proofs.WrittenRiffs.{written_once, written_riff}

-- before the frames nothing is read
stays_before : (extent : Extent) (head : Head) (place : Place) (els : List (List ℕ)) (to : Spot) → Leads (spot_taken extent) (BeforeFrames head place) els to → (to ≡ BeforeFrames head place) × (all_bytes els ≡ [])
unfolding spot_taken
stays_before extent head place [] to h = (h, refl)
stays_before extent head place (b ∷ bs) to (next, reads, more) =
    let here : Spot = BeforeFrames head place in
    let both = ok_is (here, b ++ []) (next, []) (reads []) in
    let same : here ≡ next = ap (λ (z : Spot × List ℕ). z.0) both in
    let none : b ≡ [] = sym (append-nil b) ∙ ap (λ (z : Spot × List ℕ). z.1) both in
    let later = stays_before extent head place bs to (subst (λ z. Leads (spot_taken extent) z bs to) (sym same) more) in
    (later.0, ap (λ z. z ++ all_bytes bs) none ∙ later.1)

spot_pair : (y z : Head × Place) → BeforeFrames y.0 y.1 ≡ BeforeFrames z.0 z.1 → y ≡ z
spot_pair (a, b) (c, d) h = cc

-- chunks of RIFF that lead to the first movi are walked to it
abbrev Reached : Extent → ℕ → Headers → ℕ → List ℕ → Head → Place → List ℕ → Type 0
Reached extent said found left text head place rest = (k : Headers) × (p : Place) × (place ≡ place_in extent said p) × (walk_in (riff_rule extent) (visit_top extent) left found text ≡ Ok ((k, Some (head, p)), rest))

no_fault : {X : Type 0} (s : Stop) (p : X × List ℕ) → ◌≡◌ {A = Result (X × List ℕ) Stop} (Err s) (Ok p) → ⊥
no_fault s p e = absurd (cc)

top_leads : (extent : Extent) (said : ℕ) (els : List (List ℕ)) (found : Headers) (left : ℕ) (head : Head) (place : Place) (rest : List ℕ) → Leads (spot_taken extent) (InRiff said found left) els (BeforeFrames head place) → Reached extent said found left (all_bytes els ++ rest) head place rest
unfolding spot_taken
top_leads extent said [] found left head place rest h = absurd (cc)
top_leads extent said (b ∷ bs) found left head place rest (next, reads, more) =
    let behind = all_bytes bs ++ rest in
    let text = b ++ behind in
    let whole : (b ++ all_bytes bs) ++ rest ≡ text = append_assoc b (all_bytes bs) rest in
    subst (λ z. Reached extent said found left z head place rest) (sym whole) (on_entry text behind (read_on_ok (entry_in (riff_rule extent) left text) (top_taken extent said found) (next, behind) (reads behind)) (λ k l is. top_leads extent said bs k l head place rest is) refl)
  where
    Later : Type 0
    Later = (k : Headers) (l : ℕ) → Leads (spot_taken extent) (InRiff said k l) bs (BeforeFrames head place) → Reached extent said k l (all_bytes bs ++ rest) head place rest

    on_visit : (text behind : List ℕ) (e : Entry) (r : List ℕ) → entry_in (riff_rule extent) left text ≡ Ok (Some e, r) → (q : (Headers × Option (Head × Place)) × List ℕ) × (visit_top extent found e r ≡ Ok q) × (top_left extent said e.left q.0 q.1 ≡ Ok (next, behind)) → Later → behind ≡ all_bytes bs ++ rest → Reached extent said found left text head place rest
    on_visit text behind e r one (((k, None), s), three, four) later tail =
        let both = ok_is (InRiff said k e.left, s) (next, behind) four in
        let to : InRiff said k e.left ≡ next = ap (λ (z : Spot × List ℕ). z.0) both in
        let left_is : s ≡ behind = ap (λ (z : Spot × List ℕ). z.1) both in
        let on = later k e.left (subst (λ z. Leads (spot_taken extent) z bs (BeforeFrames head place)) (sym to) more) in
        (on.0, on.1, on.2, walk_step_in (riff_rule extent) (visit_top extent) left found text ∙ rw (one, three) (ap (λ z. walk_in (riff_rule extent) (visit_top extent) e.left k z) (left_is ∙ tail) ∙ on.3))
    on_visit text behind e r one (((k, Some y), s), three, four) later tail =
        let there : Head × Place = (y.0, place_in extent said y.1) in
        let both = ok_is (BeforeFrames there.0 there.1, s) (next, behind) four in
        let to : BeforeFrames there.0 there.1 ≡ next = ap (λ (z : Spot × List ℕ). z.0) both in
        let left_is : s ≡ behind = ap (λ (z : Spot × List ℕ). z.1) both in
        let on = stays_before extent there.0 there.1 bs (BeforeFrames head place) (subst (λ z. Leads (spot_taken extent) z bs (BeforeFrames head place)) (sym to) more) in
        let pair : there ≡ (head, place) = spot_pair there (head, place) (sym on.0) in
        let first : y.0 ≡ head = ap (λ (z : Head × Place). z.0) pair in
        let second : place ≡ place_in extent said y.1 = sym (ap (λ (z : Head × Place). z.1) pair) in
        let gone : s ≡ rest = left_is ∙ tail ∙ ap (λ z. z ++ rest) on.1 in
        (k, y.1, second, walk_step_in (riff_rule extent) (visit_top extent) left found text ∙ rw (one, three) (ap (λ z. Ok ((k, Some (z, y.1)), s)) first ∙ ap (λ z. Ok ((k, Some (head, y.1)), z)) gone))

    on_entry : (text behind : List ℕ) → (p : Option Entry × List ℕ) × (entry_in (riff_rule extent) left text ≡ Ok p) × (top_taken extent said found p.0 p.1 ≡ Ok (next, behind)) → Later → behind ≡ all_bytes bs ++ rest → Reached extent said found left text head place rest
    on_entry text behind ((None, r), one, two) later tail = absurd (no_fault _ (next, behind) two)
    on_entry text behind ((Some e, r), one, two) later tail = on_visit text behind e r one (read_on_ok (visit_top extent found e r) (top_left extent said e.left) (next, behind) two) later tail

-- chunks that lead from the beginning of a file to its first movi are read as those
opened_as : (extent : Extent) (els : List (List ℕ)) (head : Head) (place : Place) (rest : List ℕ) → Leads (spot_taken extent) Start els (BeforeFrames head place) → open_read extent (all_bytes els ++ rest) ≡ Ok ((head, place), rest)
unfolding spot_taken open_read top_read
opened_as extent [] head place rest h = absurd (cc)
opened_as extent (b ∷ bs) head place rest (next, reads, more) =
    let behind = all_bytes bs ++ rest in
    let text = b ++ behind in
    let whole : (b ++ all_bytes bs) ++ rest ≡ text = append_assoc b (all_bytes bs) rest in
    ap (open_read extent) whole ∙ on_taken text behind (read_on_ok (taken 12 text) (riff_begins extent) (next, behind) (reads behind)) refl
  where
    on_begins : (text behind bytes r : List ℕ) → taken 12 text ≡ Ok (bytes, r) → (b : Bool) → begins extent bytes ≡ b → riff_begins extent bytes r ≡ Ok (next, behind) → behind ≡ all_bytes bs ++ rest → open_read extent text ≡ Ok ((head, place), rest)
    on_begins text behind bytes r one false is two tail = absurd (no_fault _ (next, behind) (rw is at two))
    on_begins text behind bytes r one true is two tail =
        let said = little_number 4 (drop 4 bytes) in
        let room = room_in extent said in
        let both = ok_is (InRiff said no_headers room, r) (next, behind) (rw is at two) in
        let to : InRiff said no_headers room ≡ next = ap (λ (z : Spot × List ℕ). z.0) both in
        let left_is : r ≡ all_bytes bs ++ rest = ap (λ (z : Spot × List ℕ). z.1) both ∙ tail in
        let on = top_leads extent said bs no_headers room head place rest (subst (λ z. Leads (spot_taken extent) z bs (BeforeFrames head place)) (sym to) more) in
        rw (one, is, left_is, on.3) (ap (λ p. Ok ((head, p), rest)) (sym on.2))

    on_taken : (text behind : List ℕ) → (p : List ℕ × List ℕ) × (taken 12 text ≡ Ok p) × (riff_begins extent p.0 p.1 ≡ Ok (next, behind)) → behind ≡ all_bytes bs ++ rest → open_read extent text ≡ Ok ((head, place), rest)
    on_taken text behind (p, one, two) tail = on_begins text behind p.0 p.1 one (begins extent p.0) refl two tail

-- an RIFF of which nothing comes after its movi, which has all bytes that are left
abbrev HasAll : Place → List ℕ → Type 0
HasAll place text = (place.riff ≡ 0) × (length text ≤ place.movi) × (place.open_in ≡ Sized)

empty : (text : List ℕ) → length text ≤ 0 → text ≡ []
empty [] h = refl
empty (b ∷ bs) h = absurd (omega (arith, h))

-- a chunk that is read leaves it so
-- at the end of the bytes nothing more is read, or more is wanted
end_keeps : (place next : Place) (rest : List ℕ) (b : Bool) → (place.owed == 0) ≡ b → (entry_read 0 >>= riff_taken place) [] ≡ Ok (next, rest) → HasAll next rest
unfolding riff_begun entry_in taken_or_end
end_keeps place next rest false is h = absurd (no_fault _ (next, rest) (rw is at h))
end_keeps place next rest true is h =
    let both = ok_is (ended, []) (next, rest) (rw is at h) in
    subst (λ (z : Place × List ℕ). HasAll z.0 z.1) both (refl, omega arith, refl)

chunk_keeps : (place next : Place) (text rest : List ℕ) → HasAll place text → chunk_taken place text ≡ Ok (next, rest) → HasAll next rest
unfolding chunk_taken
chunk_keeps place next text rest has h = on_entry (read_on_ok (entry_in (rule_of place.names) place.movi text) (movi_taken place) (next, rest) h)
  where
    moved : (left : ℕ) (to : Place) (r : List ℕ) → to.riff ≡ place.riff → to.open_in ≡ place.open_in → to.movi ≡ left → length r ≤ left → given to r ≡ Ok (next, rest) → HasAll next rest
    moved left to r riff open_is movi fits is =
        let both = ok_is (to, r) (next, rest) is in
        subst (λ (z : Place × List ℕ). HasAll z.0 z.1) both (riff ∙ has.0, omega (arith, movi, fits), open_is ∙ has.2)

    on_found : (e : Entry) (r : List ℕ) → length r ≤ padded e.size + e.left → (q : (Unit {0} × Option (ℕ × ℕ)) × List ℕ) × (visit_movi place.names tt e r ≡ Ok q) × (frame_taken place e.left q.0.1 q.1 ≡ Ok (next, rest)) → HasAll next rest
    on_found e r fits (((u, None), s), three, four) =
        let takes = ((visit_takes place.names e).only r s (u, None) three).1 in
        moved e.left _ s refl refl refl (omega (arith, fits, takes)) four
    on_found e r fits (((u, Some p), s), three, four) =
        let both = (visit_takes place.names e).only r s (u, Some p) three in
        let size : p.0 ≡ e.size = ap (λ (z : ℕ × ℕ). z.0) both.0 in
        let left : p.1 ≡ e.left = ap (λ (z : ℕ × ℕ). z.1) both.0 in
        on_bytes e p size left s (omega (arith, fits, both.1)) (read_on_ok (content Kept p.0 s) _ (next, rest) four)
      where
        on_bytes : (e : Entry) (p : ℕ × ℕ) → p.0 ≡ e.size → p.1 ≡ e.left → (s : List ℕ) → length s ≤ padded e.size + e.left → (w : List ℕ × List ℕ) × (content Kept p.0 s ≡ Ok w) × (given (frame_at place p.1) w.1 ≡ Ok (next, rest)) → HasAll next rest
        on_bytes e p size left s fits (w, five, six) =
            let takes = ((content_takes Kept p.0).only s w.1 w.0 five).1 in
            let long : padded p.0 ≡ padded e.size = ap padded size in
            moved e.left _ w.1 refl refl left (omega (arith, fits, takes, long)) six

    on_end : (r : List ℕ) → place.movi ≡ 0 → r ≡ [] → (b : Bool) → (place.input == 0) ≡ b → movi_taken place None r ≡ Ok (next, rest) → HasAll next rest
    on_end r movi none true is two = moved 0 place r refl refl movi (omega (arith, ap length none)) (rw is at two)
    on_end r movi none false is two = end_keeps (record place { riff = 0; open_in = Sized }) next rest (place.owed == 0) refl (rw (is, has.2, has.0, none) at two)

    on_entry : (p : Option Entry × List ℕ) × (entry_in (rule_of place.names) place.movi text ≡ Ok p) × (movi_taken place p.0 p.1 ≡ Ok (next, rest)) → HasAll next rest
    on_entry ((Some e, r), one, two) =
        let both = (entry_takes (rule_of place.names) place.movi).only text r (Some e) one in
        on_found e r (omega (arith, has.1, both.0, both.1)) (read_on_ok (visit_movi place.names tt e r) _ (next, rest) two)
    on_entry ((None, r), one, two) =
        let both = (entry_takes (rule_of place.names) place.movi).only text r None one in
        on_end r both.0 (empty r (omega (arith, has.1, both.0, both.1))) (place.input == 0) refl two

all_led : (els : List (List ℕ)) (place to : Place) (rest : List ℕ) → HasAll place (all_bytes els ++ rest) → Leads chunk_taken place els to → HasAll to rest
all_led [] place to rest has h = subst (λ z. HasAll z rest) (sym h) has
all_led (b ∷ bs) place to rest has (next, reads, more) =
    let behind = all_bytes bs ++ rest in
    let here = subst (HasAll place) (append_assoc b (all_bytes bs) rest) has in
    all_led bs next to rest (chunk_keeps place next (b ++ behind) behind here (reads behind)) more

-- chunks of a written file that lead to the end of its movi leave no bytes
pub none_left : (head : Head) (frames : List (List ℕ)) → IsWritable EveryRiff head frames → (first : Place) (other : Head) (between : Option (List ℕ)) (to : Place) (behind : List ℕ) (n m : ℕ) → ReadsWhole (spot_taken EveryRiff) Start (Some (file_of head frames)) between (BeforeFrames other first) n → ReadsWhole chunk_taken first between (Some behind) to m → to.movi ≡ 0 → (behind ≡ []) × (to.open_in ≡ Sized)
none_left head frames is first other None to behind n m opens leads over = absurd opens.consumed
none_left head frames is first other (Some mid) to behind n m opens leads over =
    let file = written_riff head frames is in
    let tail = chunks_text file.chunks ++ (sections_text file.sections ++ riffs_text file.riffs) in
    let once = written_once head frames is in
    let one = ap (open_read EveryRiff) opens.consumed ∙ opened_as EveryRiff opens.elements other first mid opens.leads in
    let two = ap (open_read EveryRiff) file.bytes ∙ file_opened file tail in
    let both = ok_is ((other, first), mid) ((_, _), tail) (sym one ∙ two) in
    let place = ap (λ (z : (Head × Place) × List ℕ). z.0.1) both in
    let text : mid ≡ tail = ap (λ (z : (Head × Place) × List ℕ). z.1) both in
    let long : length mid ≡ length (chunks_text file.chunks) = ap length (text ∙ ap (λ z. chunks_text file.chunks ++ z) once ∙ append-nil (chunks_text file.chunks)) in
    let movi : first.movi ≡ length (chunks_text file.chunks) = ap (λ (z : Place). z.movi) place in
    let last : length (sections_text file.sections) + length (riffs_text file.riffs) ≡ 0 = sym (length-append (sections_text file.sections) (riffs_text file.riffs)) ∙ ap length once in
    let riff : first.riff ≡ length (sections_text file.sections) = ap (λ (z : Place). z.riff) place in
    let known : first.open_in ≡ Sized = ap (λ (z : Place). z.open_in) place in
    let has : HasAll first mid = (omega (arith, riff, last), omega (arith, long, movi), known) in
    let all = all_led leads.elements first to behind (subst (HasAll first) leads.consumed has) leads.leads in
    (empty behind (omega (arith, over, all.1)), all.2)
