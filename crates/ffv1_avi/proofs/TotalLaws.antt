-- The list odml: its first dmlh says how many frames a file has.
use Rattle.std.proofs.Common.{◌≡◌, ℕ, ◌-◌, ◌%◌, ◌≤◌, ◌<◌, nat_lt, Bool, true, false, Option, Some, None, Ok, List, ◌++◌, length, take, codes, ap, ◌∙◌, subst, arith, refl}
use Rattle.std.proofs.lemmas.Bool.{le-ltb, lt-ltb, ltb-false, ltb-true}
use Rattle.byteorder.specs.Endian.{little_number}
use Rattle.ffv1_avi.specs.Files.{extended_read, total_read, visit_extended}
use Rattle.ffv1_reads.specs.Reads.{given, passed, read_on, taken, ◌>>=◌}
use Rattle.ffv1_avi.specs.Padding.{padded}
use Rattle.ffv1_avi.specs.Walk.{is_name}
use Rattle.ffv1_avi.proofs.Contents.{number_front, number_taken}
use Rattle.ffv1_avi.proofs.Fields.{skipped_passed}
use Rattle.ffv1_avi.proofs.InnerLists.{IsList, list_read_complete, list_read_sound, list_skip_complete, list_skip_sound, own_taken}
use Rattle.ffv1_avi.proofs.ListWalks.{Complete, IsPassed, Run, Sound, Taking}
use Rattle.ffv1_reads.proofs.Results.{read_on_ok}
use Rattle.ffv1_avi.proofs.PassedBytes.{skip_complete}
use Rattle.ffv1_reads.proofs.WantedBytes.{taken_sound}
use Rattle.ffv1_reads.proofs.Results.{ok_is}
use Rattle.ffv1_avi.specs.Chunks.{AreChunks, Chunk, chunks_text, total_next}

abbrev pub TotalTakes : Bool → Option ℕ → List ℕ → Option ℕ → Type 0
TotalTakes true s bytes t = t ≡ total_next bytes s
TotalTakes false s bytes t = t ≡ s

abbrev pub TakesTotal : Taking (Option ℕ)
TakesTotal s name bytes t = TotalTakes (is_name name (codes "dmlh")) s bytes t

abbrev Z : Type 0
Z = (Option ℕ × Option ⊥) × List ℕ

pub total_sound : Sound visit_extended TakesTotal
unfolding visit_extended
total_sound s e text t rest listed h = on_name (is_name e.name (codes "dmlh")) refl h
  where
    on_old : (o : Option ℕ) → s ≡ o → is_name e.name (codes "dmlh") ≡ true → total_read e.size o text ≡ Ok ((t, None), rest) → IsPassed TakesTotal s e t text rest
    on_old (Some n) is p k = skipped_passed {Y = ⊥} TakesTotal s e text t rest (λ bytes. rw (p, is) refl) (rw is k)
    on_old None is p k = on_size (nat_lt e.size 4) refl k
      where
        on_size : (b : Bool) → nat_lt e.size 4 ≡ b → total_read e.size None text ≡ Ok ((t, None), rest) → IsPassed TakesTotal s e t text rest
        on_size true q k =
            let few : e.size < 4 = ltb-true _ _ q in
            let passed_by = skipped_passed {Y = ⊥} (λ (x : Option ℕ) (name bytes : List ℕ) (y : Option ℕ). y ≡ x) None e text t rest (λ bytes. refl) (rw q at k) in
            let short : nat_lt (length passed_by.bytes) 4 ≡ true = lt-ltb _ _ (omega (arith, few, passed_by.long)) in
            record { bytes = passed_by.bytes; padding = passed_by.padding; text_is = passed_by.text_is; long = passed_by.long; padded_by = passed_by.padded_by; takes = rw (p, is, short) passed_by.takes }
        on_size false q k =
            let room : 4 ≤ e.size = ltb-false _ _ q in
            let first = read_on_ok (taken 4 text) (λ bytes. (passed (padded e.size - 4) >>= λ _. given (Some (little_number 4 bytes), None))) ((t, None), rest) (rw q at k) in
            let own = taken_sound 4 text first.0 first.1 in
            let second = read_on_ok (passed (padded e.size - 4) first.0.1) (λ _. given (Some (little_number 4 first.0.0), None)) ((t, None), rest) first.2 in
            let c = list_skip_sound e.size first.0.0 first.0.1 second.0 room own.1 second.1 in
            let bytes = first.0.0 ++ c.0 in
            let n : Option ℕ = Some (little_number 4 first.0.0) in
            let long : nat_lt (length bytes) 4 ≡ false = le-ltb _ _ (omega (arith, room, c.1.long)) in
            let number : little_number 4 bytes ≡ little_number 4 first.0.0 = number_front 4 0 first.0.0 c.0 (omega (arith, own.1)) in
            let here : IsPassed TakesTotal s e n text second.0.1 = record { bytes = bytes; padding = c.1.padding; text_is = own.0 ∙ c.1.text_is; long = c.1.long; padded_by = c.1.odd; takes = rw (p, is, long, number) refl } in
            let P : Z → Type 0 = λ z. IsPassed TakesTotal s e z.0.0 text z.1 in
            subst P (ok_is ((n, None), second.0.1) ((t, None), rest) second.2) here

    on_name : (a : Bool) → is_name e.name (codes "dmlh") ≡ a → visit_extended s e text ≡ Ok ((t, None), rest) → IsPassed TakesTotal s e t text rest
    on_name true p h = on_old s refl p (rw p at h)
    on_name false p h = skipped_passed {Y = ⊥} TakesTotal s e text t rest (λ bytes. rw p refl) (rw p at h)

pub total_complete : Complete visit_extended TakesTotal
unfolding visit_extended
total_complete s e bytes padding t rest listed long odd takes = on_name (is_name e.name (codes "dmlh")) refl takes
  where
    text : List ℕ
    text = (bytes ++ padding) ++ rest

    on_old : (o : Option ℕ) → t ≡ total_next bytes o → total_read e.size o text ≡ Ok ((t, None), rest)
    on_old (Some n) is = rw is (ap (λ z. read_on z (λ _. given (Some n, None))) (skip_complete e.size bytes padding rest long odd))
    on_old None is = on_size (nat_lt e.size 4) refl
      where
        on_size : (b : Bool) → nat_lt e.size 4 ≡ b → total_read e.size None text ≡ Ok ((t, None), rest)
        on_size true q =
            let short : nat_lt (length bytes) 4 ≡ true = rw long q in
            let none : t ≡ None = rw short at is in
            rw (q, none) (ap (λ z. read_on z (λ _. given (None, None))) (skip_complete e.size bytes padding rest long odd))
        on_size false q =
            let room : 4 ≤ e.size = ltb-false _ _ q in
            let enough : nat_lt (length bytes) 4 ≡ false = rw long q in
            let some : t ≡ Some (little_number 4 bytes) = rw enough at is in
            let own = own_taken e.size bytes padding rest room long in
            let front : little_number 4 (take 4 bytes) ≡ little_number 4 bytes = number_taken 4 bytes (omega arith) in
            rw (q, some)
            (ap (λ z. read_on z (λ bytes. (passed (padded e.size - 4) >>= λ _. given (Some (little_number 4 bytes), None)))) own
            ∙ ap (λ z. read_on z (λ _. given (Some (little_number 4 (take 4 bytes)), None))) (list_skip_complete e.size bytes padding rest room long odd)
            ∙ rw front refl)

    on_name : (a : Bool) → is_name e.name (codes "dmlh") ≡ a → TakesTotal s e.name bytes t → visit_extended s e text ≡ Ok ((t, None), rest)
    on_name true p takes = rw p (on_old s (rw p at takes))
    on_name false p takes = rw (p, rw p at takes) (ap (λ z. read_on z (λ _. given (s, None))) (skip_complete e.size bytes padding rest long odd))

pub extended_sound : (s : Option ℕ) (size : ℕ) (text : List ℕ) (p : Option ℕ × List ℕ) → extended_read s size text ≡ Ok p → IsList TakesTotal s size text p.0 p.1
unfolding extended_read
extended_sound s size text p h = list_read_sound visit_extended TakesTotal total_sound s size text p h

pub extended_complete : (s t : Option ℕ) (chunks : List Chunk) (size : ℕ) (padding rest : List ℕ) → length (chunks_text chunks) ≡ size - 4 → length padding ≡ size % 2 → AreChunks chunks → Run TakesTotal s chunks t →
    extended_read s size ((chunks_text chunks ++ padding) ++ rest) ≡ Ok (t, rest)
unfolding extended_read
extended_complete s t chunks size padding rest long odd each run = list_read_complete visit_extended TakesTotal total_complete s t chunks size padding rest long odd each run
