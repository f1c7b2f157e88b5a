-- A stream's list is read exactly if its first header and its first format say a head.
use Rattle.std.proofs.Common.{◌≡◌, ◌⊎◌, inl, inr, ℕ, ◌+◌, ◌≤◌, ◌==◌, Bool, true, false, Option, Some, None, Result, Ok, List, [], ◌∷◌, ◌++◌, length, codes, ap, ◌∙◌, sym, subst, arith, refl, add-zero}
use Rattle.std.specs.Cmp.Lexicographic.{same_text}
use Rattle.ffv1_avi.specs.Chunks.{AreChunks, Chunk, Says, SaysOther, chunks_text, first_of, is_named, says_of, those}
use Rattle.ffv1_reads.specs.Colour.{unsaid}
use Rattle.ffv1_reads.specs.declared.colour.Colour.{Colour}
use Rattle.ffv1_reads.specs.Head.{Head, limit, without_colour}
use Rattle.ffv1_reads.specs.Reads.{Stop, given, read_on, ◌>>=◌}
use Rattle.ffv1_avi.specs.Streams.{Format, Known, format_of, head_judged, no_video, nothing_known, rates_of, stream_judged, stream_read, visit_field}
use Rattle.ffv1_avi.specs.declared.place.Extent.{Extent}
use Rattle.ffv1_avi.specs.declared.place.Extent.TheVariants.{FirstMovi, EveryRiff}
use Rattle.ffv1_avi.specs.Walk.{is_name, walk, walk_up_to, plain}
use Rattle.ffv1_avi.proofs.ListWalks.{Ended, Run, walk_complete, walk_sound}
use Rattle.ffv1_avi.proofs.Fields.{IsShort, TakesField, field_complete, field_sound, format_next, rates_next}
use Rattle.ffv1_reads.proofs.Results.{read_on_ok}
use Rattle.ffv1_reads.proofs.Results.{ok_is, some_is}

-- what a chunk that may be there says
abbrev first_says : {X : Type 0} → (List ℕ → X) → Option Chunk → Option X
first_says says None = None
first_says says (Some c) = Some (says c.bytes)

-- what was known stays
abbrev or_new : {X : Type 0} → Option X → Option X → Option X
or_new (Some old) new = Some old
or_new None new = new

abbrev header_of : List Chunk → Option Chunk
header_of cs = first_of (those (is_named (codes "strh")) cs)

abbrev format_chunk : List Chunk → Option Chunk
format_chunk cs = first_of (those (is_named (codes "strf")) cs)

-- four bytes have one name
pub one_name : (bytes a b : List ℕ) → is_name bytes a ≡ true → is_name a b ≡ false → is_name bytes b ≡ false
one_name bytes a b is other = let P : List ℕ → Type 0 = λ z. is_name z b ≡ false in subst P (sym (same_text bytes a (sym is))) other

run_rates : (extent : Extent) (cs : List Chunk) (k t : Known) → Run (TakesField extent) k cs t → t.rates ≡ or_new k.rates (first_says rates_of (header_of cs))
run_rates extent [] k t run = rw run (nothing_more k.rates)
  where
    nothing_more : (r : Option (Option (ℕ × ℕ))) → r ≡ or_new r None
    nothing_more None = refl
    nothing_more (Some x) = refl
run_rates extent (c ∷ cs) k t run =
    on_names (is_name c.name (codes "strh")) (is_name c.name (codes "strf")) refl refl k.rates refl k.format refl run.0 run.1 (run_rates extent cs run.0 t run.2)
  where
    Goal : Type 0
    Goal = t.rates ≡ or_new k.rates (first_says rates_of (header_of (c ∷ cs)))

    on_names : (a b : Bool) → is_name c.name (codes "strh") ≡ a → is_name c.name (codes "strf") ≡ b → (r : Option (Option (ℕ × ℕ))) → k.rates ≡ r → (f : Option (Option Format)) → k.format ≡ f → (m : Known) →
        TakesField extent k c.name c.bytes m → t.rates ≡ or_new m.rates (first_says rates_of (header_of cs)) → Goal
    on_names true b p q None is f of m takes more =
        let next : m ≡ rates_next k c.bytes None = (rw p at takes) ∙ ap (rates_next k c.bytes) is in
        let here = rw next at more in
        rw (p, is) here
    on_names true b p q (Some old) is f of m takes more =
        let next : m ≡ k = (rw p at takes) ∙ ap (rates_next k c.bytes) is in
        let here = rw (next, is) at more in
        rw (p, is) here
    on_names false true p q r is None of m takes more =
        let both = rw (p, q) at takes in
        let next : m ≡ format_next extent k c.bytes None = both.1 ∙ ap (format_next extent k c.bytes) of in
        let here = rw next at more in
        rw p here
    on_names false true p q r is (Some old) of m takes more =
        let both = rw (p, q) at takes in
        let next : m ≡ k = both.1 ∙ ap (format_next extent k c.bytes) of in
        let here = rw next at more in
        rw p here
    on_names false false p q r is f of m takes more =
        let next : m ≡ k = rw (p, q) at takes in
        let here = rw next at more in
        rw p here

run_format : (extent : Extent) (cs : List Chunk) (k t : Known) → Run (TakesField extent) k cs t → t.format ≡ or_new k.format (first_says (format_of extent) (format_chunk cs))
run_format extent [] k t run = rw run (nothing_more k.format)
  where
    nothing_more : (f : Option (Option Format)) → f ≡ or_new f None
    nothing_more None = refl
    nothing_more (Some x) = refl
run_format extent (c ∷ cs) k t run =
    on_names (is_name c.name (codes "strh")) (is_name c.name (codes "strf")) refl refl k.rates refl k.format refl run.0 run.1 (run_format extent cs run.0 t run.2)
  where
    Goal : Type 0
    Goal = t.format ≡ or_new k.format (first_says (format_of extent) (format_chunk (c ∷ cs)))

    on_names : (a b : Bool) → is_name c.name (codes "strh") ≡ a → is_name c.name (codes "strf") ≡ b → (r : Option (Option (ℕ × ℕ))) → k.rates ≡ r → (f : Option (Option Format)) → k.format ≡ f → (m : Known) →
        TakesField extent k c.name c.bytes m → t.format ≡ or_new m.format (first_says (format_of extent) (format_chunk cs)) → Goal
    on_names true b p q None is f of m takes more =
        let other : is_name c.name (codes "strf") ≡ false = one_name c.name (codes "strh") (codes "strf") p refl in
        let next : m ≡ rates_next k c.bytes None = (rw p at takes) ∙ ap (rates_next k c.bytes) is in
        let here = rw next at more in
        rw other here
    on_names true b p q (Some old) is f of m takes more =
        let other : is_name c.name (codes "strf") ≡ false = one_name c.name (codes "strh") (codes "strf") p refl in
        let next : m ≡ k = (rw p at takes) ∙ ap (rates_next k c.bytes) is in
        let here = rw next at more in
        rw other here
    on_names false true p q r is None of m takes more =
        let both = rw (p, q) at takes in
        let next : m ≡ format_next extent k c.bytes None = both.1 ∙ ap (format_next extent k c.bytes) of in
        let here = rw next at more in
        rw (q, of) here
    on_names false true p q r is (Some old) of m takes more =
        let both = rw (p, q) at takes in
        let next : m ≡ k = both.1 ∙ ap (format_next extent k c.bytes) of in
        let here = rw (next, of) at more in
        rw (q, of) here
    on_names false false p q r is f of m takes more =
        let next : m ≡ k = rw (p, q) at takes in
        let here = rw next at more in
        rw q here

-- the first format is not too long
run_short : (extent : Extent) (cs : List Chunk) (k t : Known) → Run (TakesField extent) k cs t → k.format ≡ None → (x : Chunk) → format_chunk cs ≡ Some x → length x.bytes ≤ limit
run_short extent [] k t run none x first = absurd (cc)
run_short extent (c ∷ cs) k t run none x first =
    on_names (is_name c.name (codes "strh")) (is_name c.name (codes "strf")) refl refl run.0 run.1 (run_short extent cs run.0 t run.2)
  where
    kept : (m : Known) (r : Option (Option (ℕ × ℕ))) → m ≡ rates_next k c.bytes r → m.format ≡ k.format
    kept m None is = ap (λ (z : Known). z.format) is
    kept m (Some old) is = ap (λ (z : Known). z.format) is

    on_names : (a b : Bool) → is_name c.name (codes "strh") ≡ a → is_name c.name (codes "strf") ≡ b → (m : Known) → TakesField extent k c.name c.bytes m → (m.format ≡ None → (x : Chunk) → format_chunk cs ≡ Some x → length x.bytes ≤ limit) → length x.bytes ≤ limit
    on_names true b p q m takes more =
        let other : is_name c.name (codes "strf") ≡ false = one_name c.name (codes "strh") (codes "strf") p refl in
        more (kept m k.rates (rw p at takes) ∙ none) x (rw other at first)
    on_names false true p q m takes more =
        let both = rw (p, q) at takes in
        let short : length c.bytes ≤ limit = rw none at both.0 in
        let same : c ≡ x = some_is c x (rw q at first) in
        let P : Chunk → Type 0 = λ z. length z.bytes ≤ limit in
        subst P same short
    on_names false false p q m takes more =
        let next : m ≡ k = rw (p, q) at takes in
        more (ap (λ (z : Known). z.format) next ∙ none) x (rw q at first)

-- what the chunks of a stream make known
pub run_exists : (extent : Extent) (cs : List Chunk) (k : Known) → (k.format ≡ None → (x : Chunk) → format_chunk cs ≡ Some x → length x.bytes ≤ limit) → (t : Known) × Run (TakesField extent) k cs t
run_exists extent [] k short = (k, refl)
run_exists extent (c ∷ cs) k short =
    on_names (is_name c.name (codes "strh")) (is_name c.name (codes "strf")) refl refl (λ m h. run_exists extent cs m h)
  where
    Again : Type 0
    Again = (m : Known) → (m.format ≡ None → (x : Chunk) → format_chunk cs ≡ Some x → length x.bytes ≤ limit) → (t : Known) × Run (TakesField extent) m cs t

    kept : (r : Option (Option (ℕ × ℕ))) → (rates_next k c.bytes r).format ≡ k.format
    kept None = refl
    kept (Some old) = refl

    came : (f : Option (Option Format)) → (format_next extent k c.bytes f).format ≡ None → k.format ≡ f → ⊥
    came None none is = absurd (cc)
    came (Some old) none is = absurd (cc)

    is_short : (f : Option (Option Format)) → k.format ≡ f → is_name c.name (codes "strf") ≡ true → IsShort f c.bytes
    is_short None is q = short is c (rw q refl)
    is_short (Some old) is q = tt

    on_names : (a b : Bool) → is_name c.name (codes "strh") ≡ a → is_name c.name (codes "strf") ≡ b → Again → (t : Known) × Run (TakesField extent) k (c ∷ cs) t
    on_names true b p q again =
        let m = rates_next k c.bytes k.rates in
        let other : is_name c.name (codes "strf") ≡ false = one_name c.name (codes "strh") (codes "strf") p refl in
        let more = again m (λ none x first. short (sym (kept k.rates) ∙ none) x (rw other first)) in
        (more.0, (m, rw p refl, more.1))
    on_names false true p q again =
        let m = format_next extent k c.bytes k.format in
        let more = again m (λ none x first. absurd (came k.format none refl)) in
        (more.0, (m, rw (p, q) (is_short k.format refl q, refl), more.1))
    on_names false false p q again =
        let more = again k (λ none x first. short none x (rw q first)) in
        (more.0, (k, rw (p, q) refl, more.1))

-- what a chunk has said, if one came
abbrev spoken : {X : Type 0} → Option (Option X) → Option X
spoken None = None
spoken (Some x) = x

-- what the judgement of a stream says
abbrev Judged : Extent → Option (Option (ℕ × ℕ)) → Option (Option Format) → Option Head → Type 0
Judged extent r f (Some head) =
    (r ≡ Some (Some (head.rate, head.scale))) × (f ≡ Some (Some (record { width = head.width; height = head.height; config_record = head.config_record }))) × ((head.rate == 0) ≡ (head.scale == 0)) × (head.colour ≡ unsaid)
Judged extent r f None = (extent ≡ EveryRiff) × ((spoken r ≡ None) ⊎ (spoken f ≡ None))

no_video_sound : (extent : Extent) (r : Option (Option (ℕ × ℕ))) (f : Option (Option Format)) (text : List ℕ) (w : Option Head × List ℕ) → (spoken r ≡ None) ⊎ (spoken f ≡ None) → no_video extent text ≡ Ok w → Judged extent r f w.0 × (text ≡ w.1)
no_video_sound FirstMovi r f text w none h = absurd (cc)
no_video_sound EveryRiff r f text w none h =
    let P : Option Head × List ℕ → Type 0 = λ w. Judged EveryRiff r f w.0 × (text ≡ w.1) in
    subst P (ok_is (None, text) w h) ((refl, none), refl)

judged_sound : (extent : Extent) (r : Option (Option (ℕ × ℕ))) (f : Option (Option Format)) (text : List ℕ) (w : Option Head × List ℕ) → stream_judged extent r f text ≡ Ok w → Judged extent r f w.0 × (text ≡ w.1)
judged_sound extent None f text w h = no_video_sound extent None f text w (inl refl) h
judged_sound extent (Some None) f text w h = no_video_sound extent (Some None) f text w (inl refl) h
judged_sound extent (Some (Some r)) None text w h = no_video_sound extent (Some (Some r)) None text w (inr refl) h
judged_sound extent (Some (Some r)) (Some None) text w h = no_video_sound extent (Some (Some r)) (Some None) text w (inr refl) h
judged_sound extent (Some (Some r)) (Some (Some f)) text w h = on_zero (r.0 == 0) (r.1 == 0) refl refl h
  where
    P : Option Head × List ℕ → Type 0
    P w = Judged extent (Some (Some r)) (Some (Some f)) w.0 × (text ≡ w.1)

    head : Head
    head = record { width = f.width; height = f.height; rate = r.0; scale = r.1; colour = unsaid; config_record = f.config_record }

    on_zero : (a b : Bool) → (r.0 == 0) ≡ a → (r.1 == 0) ≡ b → (head_judged r f >>= λ head. given (Some head)) text ≡ Ok w → P w
    on_zero true true p q h = subst P (ok_is (Some head, text) w (rw (p, q) at h)) ((refl, refl, p ∙ sym q, refl), refl)
    on_zero true false p q h = absurd (cc (rw (p, q) at h))
    on_zero false true p q h = absurd (cc (rw (p, q) at h))
    on_zero false false p q h = subst P (ok_is (Some head, text) w (rw (p, q) at h)) ((refl, refl, p ∙ sym q, refl), refl)

judged_complete : (extent : Extent) (head : Head) (text : List ℕ) → ((head.rate == 0) ≡ (head.scale == 0)) → head.colour ≡ unsaid →
    stream_judged extent (Some (Some (head.rate, head.scale))) (Some (Some (record { width = head.width; height = head.height; config_record = head.config_record }))) text ≡ Ok (Some head, text)
judged_complete extent head text both plain = on_zero (head.rate == 0) refl
  where
    format : Format
    format = record { width = head.width; height = head.height; config_record = head.config_record }

    same : ◌≡◌ {A = Result (Option Head × List ℕ) Stop} (Ok (Some (without_colour head), text)) (Ok (Some head, text))
    same = ap (λ (c : Colour). Ok (Some (record head { colour = c }), text)) (sym plain)

    on_zero : (a : Bool) → (head.rate == 0) ≡ a → (head_judged (head.rate, head.scale) format >>= λ head. given (Some head)) text ≡ Ok (Some head, text)
    on_zero true p = rw (p, sym both ∙ p) same
    on_zero false p = rw (p, sym both ∙ p) same

judged_other : (r : Option (Option (ℕ × ℕ))) (f : Option (Option Format)) (text : List ℕ) → (spoken r ≡ None) ⊎ (spoken f ≡ None) → stream_judged EveryRiff r f text ≡ Ok (None, text)
judged_other None f text none = refl
judged_other (Some None) f text none = refl
judged_other (Some (Some r)) None text none = refl
judged_other (Some (Some r)) (Some None) text none = refl
judged_other (Some (Some r)) (Some (Some f)) text (inl none) = absurd (cc)
judged_other (Some (Some r)) (Some (Some f)) text (inr none) = absurd (cc)

-- what a chunk that is there says
said : {X : Type 0} (says : List ℕ → X) (c : Option Chunk) (x : X) → first_says says c ≡ Some x → (d : Chunk) × (c ≡ Some d) × (says d.bytes ≡ x)
said says None x h = absurd (cc)
said says (Some d) x h = (d, refl, some_is _ _ h)

-- what the chunks of a stream say: a head, or that it is no FFV1 video
abbrev pub SaysThat : Extent → List Chunk → Option Head → Type 0
SaysThat extent fields (Some head) = Says extent fields head
SaysThat extent fields None = (extent ≡ EveryRiff) × SaysOther extent fields

spoken_says : {X : Type 0} (says : List ℕ → Option X) (c : Option Chunk) → spoken (first_says says c) ≡ says_of says c
spoken_says says None = refl
spoken_says says (Some c) = refl

pub stream_sound : (extent : Extent) (room : ℕ) (text : List ℕ) (w : Option Head × List ℕ) → stream_read extent room text ≡ Ok w →
    (fields : List Chunk) × (text ≡ chunks_text fields ++ w.1) × AreChunks fields × (length (chunks_text fields) ≡ room) × SaysThat extent fields w.0
unfolding stream_read
stream_sound extent room text w h =
    let first = read_on_ok (walk (visit_field extent) room nothing_known text) (λ k. stream_judged extent k.0.rates k.0.format) w h in
    let walked = walk_sound (visit_field extent) (TakesField extent) (field_sound extent) room nothing_known text first.0 first.1 in
    on_end first.0.0.1 walked.chunks walked.behind walked.after walked.last walked.text_is walked.each walked.long walked.run first.0.0.0 first.0.1 walked.end first.2
  where
    Goal : Type 0
    Goal = (fields : List Chunk) × (text ≡ chunks_text fields ++ w.1) × AreChunks fields × (length (chunks_text fields) ≡ room) × SaysThat extent fields w.0

    saying : (chunks : List Chunk) (last : Known) → Run (TakesField extent) nothing_known chunks last → (o : Option Head) → Judged extent last.rates last.format o → SaysThat extent chunks o
    saying chunks last run (Some head) known =
        let rates = said rates_of (header_of chunks) _ (sym (run_rates extent chunks nothing_known last run) ∙ known.0) in
        let format = said (format_of extent) (format_chunk chunks) _ (sym (run_format extent chunks nothing_known last run) ∙ known.1) in
        let short = run_short extent chunks nothing_known last run refl format.0 format.1 in
        record { header = rates.0; format = format.0; first_header = rates.1; first_format = format.1; short = short; video = rates.2; ffv1 = format.2; both = known.2; plain = known.3 }
    saying chunks last run None known =
        let rates : last.rates ≡ first_says rates_of (header_of chunks) = run_rates extent chunks nothing_known last run in
        let format : last.format ≡ first_says (format_of extent) (format_chunk chunks) = run_format extent chunks nothing_known last run in
        let short : (x : Chunk) → format_chunk chunks ≡ Some x → length x.bytes ≤ limit = run_short extent chunks nothing_known last run refl in
        (known.0, record { short = short; other = elim known.1 [ inl none ↦ inl (sym (ap spoken rates ∙ spoken_says rates_of (header_of chunks)) ∙ none) | inr none ↦ inr (sym (ap spoken format ∙ spoken_says (format_of extent) (format_chunk chunks)) ∙ none) ] })

    on_end : (o : Option ⊥) (chunks : List Chunk) (behind : List ℕ) (after : ℕ) (last : Known) → text ≡ chunks_text chunks ++ behind → AreChunks chunks → length (chunks_text chunks) + after ≡ room → Run (TakesField extent) nothing_known chunks last →
        (t : Known) (rest : List ℕ) → Ended plain (visit_field extent) after last behind t o rest → stream_judged extent t.rates t.format rest ≡ Ok w → Goal
    on_end (Some y) chunks behind after last whole each long run t rest end judged = absurd y
    on_end None chunks behind after last whole each long run t rest end judged =
        let known = judged_sound extent t.rates t.format rest w judged in
        let P : Known → Type 0 = λ z. Run (TakesField extent) nothing_known chunks z in
        (chunks, whole ∙ ap (λ z. chunks_text chunks ++ z) (end.2 ∙ known.1), each, omega (arith, long, end.0), saying chunks t (subst P (sym end.1) run) w.0 known.0)

-- the chunks of a stream are walked
stream_walked : (extent : Extent) (fields : List Chunk) (t : Known) (rest : List ℕ) → AreChunks fields → Run (TakesField extent) nothing_known fields t →
    stream_read extent (length (chunks_text fields)) (chunks_text fields ++ rest) ≡ stream_judged extent t.rates t.format rest
unfolding stream_read walk_up_to
stream_walked extent fields t rest each run =
    let walked = walk_complete (visit_field extent) (TakesField extent) (field_complete extent) fields nothing_known t 0 rest each run in
    ap (λ n. read_on (walk (visit_field extent) n nothing_known (chunks_text fields ++ rest)) (λ k. stream_judged extent k.0.rates k.0.format)) (sym (add-zero (length (chunks_text fields))))
    ∙ ap (λ z. read_on z (λ k. stream_judged extent k.0.rates k.0.format)) walked

pub stream_complete : (extent : Extent) (fields : List Chunk) (head : Head) (rest : List ℕ) → AreChunks fields → Says extent fields head → stream_read extent (length (chunks_text fields)) (chunks_text fields ++ rest) ≡ Ok (Some head, rest)
stream_complete extent fields head rest each says =
    let short : nothing_known.format ≡ None → (x : Chunk) → format_chunk fields ≡ Some x → length x.bytes ≤ limit = λ none x first. (let same : says.format ≡ x = some_is says.format x (sym says.first_format ∙ first) in let P : Chunk → Type 0 = λ z. length z.bytes ≤ limit in subst P same says.short) in
    let run = run_exists extent fields nothing_known short in
    let rates : run.0.rates ≡ Some (Some (head.rate, head.scale)) = run_rates extent fields nothing_known run.0 run.1 ∙ ap (first_says rates_of) says.first_header ∙ ap Some says.video in
    let format : run.0.format ≡ Some (Some (record { width = head.width; height = head.height; config_record = head.config_record })) = run_format extent fields nothing_known run.0 run.1 ∙ ap (first_says (format_of extent)) says.first_format ∙ ap Some says.ffv1 in
    stream_walked extent fields run.0 rest each run.1
    ∙ ap (λ r. stream_judged extent r run.0.format rest) rates
    ∙ ap (λ f. stream_judged extent (Some (Some (head.rate, head.scale))) f rest) format
    ∙ judged_complete extent head rest says.both says.plain

pub stream_other : (fields : List Chunk) (rest : List ℕ) → AreChunks fields → SaysOther EveryRiff fields → stream_read EveryRiff (length (chunks_text fields)) (chunks_text fields ++ rest) ≡ Ok (None, rest)
stream_other fields rest each says =
    let run = run_exists EveryRiff fields nothing_known (λ _. says.short) in
    let rates : run.0.rates ≡ first_says rates_of (header_of fields) = run_rates EveryRiff fields nothing_known run.0 run.1 in
    let format : run.0.format ≡ first_says (format_of EveryRiff) (format_chunk fields) = run_format EveryRiff fields nothing_known run.0 run.1 in
    let none : (spoken run.0.rates ≡ None) ⊎ (spoken run.0.format ≡ None) = elim says.other [ inl none ↦ inl (ap spoken rates ∙ spoken_says rates_of (header_of fields) ∙ none) | inr none ↦ inr (ap spoken format ∙ spoken_says (format_of EveryRiff) (format_chunk fields) ∙ none) ] in
    stream_walked EveryRiff fields run.0 rest each run.1 ∙ judged_other run.0.rates run.0.format rest none
