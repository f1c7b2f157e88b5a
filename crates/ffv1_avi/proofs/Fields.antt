-- The chunks of a stream's list: what they say together is what the first header and the first format say.
use Rattle.std.proofs.Common.{◌≡◌, ℕ, ◌≤◌, nat_lt, Bool, true, false, Option, Some, None, Ok, List, ◌++◌, length, codes, ap, ◌∙◌, sym, subst, refl}
use Rattle.std.proofs.lemmas.Bool.{le-ltb, ltb-false}
use Rattle.ffv1_avi.specs.declared.chunk.Entry.{Entry}
use Rattle.ffv1_reads.specs.Reads.{Looked, Reading, given, passed, read_on}
use Rattle.ffv1_avi.specs.Padding.{content, padded}
use Rattle.ffv1_avi.specs.Streams.{Format, Known, format_in, format_of, format_read, rates_in, rates_of, rates_read, skipped, visit_field}
use Rattle.ffv1_avi.specs.declared.place.Extent.{Extent}
use Rattle.ffv1_avi.specs.Walk.{is_name}
use Rattle.ffv1_avi.proofs.ListWalks.{Complete, IsPassed, Sound, Taking}
use Rattle.ffv1_avi.proofs.Contents.{format_complete, format_sound, format_whole}
use Rattle.ffv1_avi.proofs.PassedBytes.{content_complete, content_sound, skip_complete, skip_sound}
use Rattle.ffv1_reads.proofs.Results.{read_on_ok}
use Rattle.ffv1_reads.proofs.Results.{ok_is, read_on_twice}
use Rattle.ffv1_reads.specs.Head.{limit}

-- what is known after a header, and after a format
abbrev pub rates_next : Known → List ℕ → Option (Option (ℕ × ℕ)) → Known
rates_next k bytes None = record { rates = Some (rates_of bytes); format = k.format }
rates_next k bytes (Some old) = k

abbrev pub format_next : Extent → Known → List ℕ → Option (Option Format) → Known
format_next extent k bytes None = record { rates = k.rates; format = Some (format_of extent bytes) }
format_next extent k bytes (Some old) = k

abbrev pub IsShort : Option (Option Format) → List ℕ → Type 0
IsShort None bytes = length bytes ≤ limit
IsShort (Some old) bytes = Unit {0}

abbrev pub FieldTakes : Extent → Bool → Bool → Known → List ℕ → Known → Type 0
FieldTakes extent true b k bytes t = t ≡ rates_next k bytes k.rates
FieldTakes extent false true k bytes t = IsShort k.format bytes × (t ≡ format_next extent k bytes k.format)
FieldTakes extent false false k bytes t = t ≡ k

abbrev pub TakesField : Extent → Taking Known
TakesField extent k name bytes t = FieldTakes extent (is_name name (codes "strh")) (is_name name (codes "strf")) k bytes t

-- a chunk that is passed
pub skipped_passed : {S Y : Type 0} (T : Taking S) (s : S) (e : Entry) (text : List ℕ) (t : S) (rest : List ℕ) → ((bytes : List ℕ) → T s e.name bytes s) → skipped {Y = Y} s e.size text ≡ Ok ((t, None), rest) → IsPassed T s e t text rest
skipped_passed {S = S} {Y = Y} T s e text t rest takes h =
    let first = read_on_ok (passed (padded e.size) text) (λ _. given (s, None)) ((t, None), rest) h in
    let gone = skip_sound e.size text first.0 first.1 in
    let here : IsPassed T s e s text first.0.1 = record { bytes = gone.0; padding = gone.1.padding; text_is = gone.1.text_is; long = gone.1.long; padded_by = gone.1.odd; takes = takes gone.0 } in
    let P : (S × Option Y) × List ℕ → Type 0 = λ z. IsPassed T s e z.0.0 text z.1 in
    subst P (ok_is ((s, None), first.0.1) ((t, None), rest) first.2) here

pub field_sound : (extent : Extent) → Sound (visit_field extent) (TakesField extent)
unfolding visit_field rates_in
field_sound extent k e text t rest listed h = on_names (is_name e.name (codes "strh")) (is_name e.name (codes "strf")) refl refl h
  where
    Z : Type 0
    Z = (Known × Option ⊥) × List ℕ

    T : Bool → Bool → Taking Known
    T a b = λ k name bytes t. FieldTakes extent a b k bytes t

    on_rates : (r : Option (Option (ℕ × ℕ))) (b : Bool) → k.rates ≡ r → rates_read k e.size r text ≡ Ok ((t, None), rest) → IsPassed (T true b) k e t text rest
    on_rates None b is h =
        let next : List ℕ → Known = λ bytes. record { rates = Some (rates_of bytes); format = k.format } in
        let first = read_on_ok (content Looked e.size text) (λ bytes. given (next bytes, None)) ((t, None), rest) (sym (read_on_twice (content Looked e.size text) (λ bytes. given (rates_of bytes)) (λ r. given (record { rates = Some r; format = k.format }, None))) ∙ h) in
        let c = content_sound Looked e.size text first.0 first.1 in
        let here : IsPassed (T true b) k e (next first.0.0) text first.0.1 = record { bytes = first.0.0; padding = c.padding; text_is = c.text_is; long = c.long; padded_by = c.odd; takes = rw is refl } in
        let P : Z → Type 0 = λ z. IsPassed (T true b) k e z.0.0 text z.1 in
        subst P (ok_is ((next first.0.0, None), first.0.1) ((t, None), rest) first.2) here
    on_rates (Some old) b is h = skipped_passed {Y = ⊥} (T true b) k e text t rest (λ bytes. rw is refl) h

    on_format : (f : Option (Option Format)) → k.format ≡ f → format_read extent k e.size f text ≡ Ok ((t, None), rest) → IsPassed (T false true) k e t text rest
    on_format None is h = on_limit (nat_lt limit e.size) refl h
      where
        on_limit : (o : Bool) → nat_lt limit e.size ≡ o → format_read extent k e.size None text ≡ Ok ((t, None), rest) → IsPassed (T false true) k e t text rest
        on_limit true o h = absurd (cc (rw o at h))
        on_limit false o h =
            let next : List ℕ → Known = λ bytes. record { rates = k.rates; format = Some (format_of extent bytes) } in
            let said : Option Format → Reading (Known × Option ⊥) = λ f. given (record { rates = k.rates; format = Some f }, None) in
            let got = read_on_ok (format_in extent e.size text) said ((t, None), rest) (rw o at h) in
            let whole : read_on (format_whole extent e.size text) said ≡ Ok ((t, None), rest) = ap (λ z. read_on z said) (format_sound extent e.size text got.0 got.1) ∙ got.2 in
            let first = read_on_ok (content Looked e.size text) (λ bytes. given (next bytes, None)) ((t, None), rest) (sym (read_on_twice (content Looked e.size text) (λ bytes. given (format_of extent bytes)) said) ∙ whole) in
            let c = content_sound Looked e.size text first.0 first.1 in
            let small : e.size ≤ limit = ltb-false _ _ o in
            let short : IsShort k.format first.0.0 = rw (is, c.long) small in
            let here : IsPassed (T false true) k e (next first.0.0) text first.0.1 = record { bytes = first.0.0; padding = c.padding; text_is = c.text_is; long = c.long; padded_by = c.odd; takes = (short, rw is refl) } in
            let P : Z → Type 0 = λ z. IsPassed (T false true) k e z.0.0 text z.1 in
            subst P (ok_is ((next first.0.0, None), first.0.1) ((t, None), rest) first.2) here
    on_format (Some old) is h = skipped_passed {Y = ⊥} (T false true) k e text t rest (λ bytes. rw is (tt, refl)) h

    named : (a b : Bool) → is_name e.name (codes "strh") ≡ a → is_name e.name (codes "strf") ≡ b → IsPassed (T a b) k e t text rest → IsPassed (TakesField extent) k e t text rest
    named a b p q x = record { bytes = x.bytes; padding = x.padding; text_is = x.text_is; long = x.long; padded_by = x.padded_by; takes = rw (p, q) x.takes }

    on_names : (a b : Bool) → is_name e.name (codes "strh") ≡ a → is_name e.name (codes "strf") ≡ b → visit_field extent k e text ≡ Ok ((t, None), rest) → IsPassed (TakesField extent) k e t text rest
    on_names true b p q h = named true b p q (on_rates k.rates b refl (rw p at h))
    on_names false true p q h = named false true p q (on_format k.format refl (rw (p, q) at h))
    on_names false false p q h = named false false p q (skipped_passed {Y = ⊥} (T false false) k e text t rest (λ bytes. refl) (rw (p, q) at h))

pub field_complete : (extent : Extent) → Complete (visit_field extent) (TakesField extent)
unfolding visit_field rates_in
field_complete extent k e bytes padding t rest listed long odd takes = on_names (is_name e.name (codes "strh")) (is_name e.name (codes "strf")) refl refl takes
  where
    text : List ℕ
    text = (bytes ++ padding) ++ rest

    skip : skipped {Y = ⊥} k e.size text ≡ Ok ((k, None), rest)
    skip = ap (λ z. read_on z (λ _. given (k, None))) (skip_complete e.size bytes padding rest long odd)

    on_rates : (r : Option (Option (ℕ × ℕ))) → t ≡ rates_next k bytes r → rates_read k e.size r text ≡ Ok ((t, None), rest)
    on_rates None is = rw is (ap (λ z. read_on (read_on z (λ bytes. given (rates_of bytes))) (λ r. given (record { rates = Some r; format = k.format }, None))) (content_complete Looked e.size bytes padding rest long odd))
    on_rates (Some old) is = rw is skip

    on_format : (f : Option (Option Format)) → IsShort f bytes → t ≡ format_next extent k bytes f → format_read extent k e.size f text ≡ Ok ((t, None), rest)
    on_format None short is =
        let small : nat_lt limit e.size ≡ false = le-ltb _ _ (rw (← long) short) in
        let whole : format_whole extent e.size text ≡ Ok (format_of extent bytes, rest) = ap (λ z. read_on z (λ bytes. given (format_of extent bytes))) (content_complete Looked e.size bytes padding rest long odd) in
        rw (is, small) (ap (λ z. read_on z (λ f. given (record { rates = k.rates; format = Some f }, None))) (format_complete extent e.size text (format_of extent bytes, rest) whole))
    on_format (Some old) short is = rw is skip

    on_names : (a b : Bool) → is_name e.name (codes "strh") ≡ a → is_name e.name (codes "strf") ≡ b → TakesField extent k e.name bytes t → visit_field extent k e text ≡ Ok ((t, None), rest)
    on_names true b p q takes = rw p (on_rates k.rates (rw p at takes))
    on_names false true p q takes = let both = rw (p, q) at takes in rw (p, q) (on_format k.format both.0 both.1)
    on_names false false p q takes = rw (p, q, rw (p, q) at takes) skip
