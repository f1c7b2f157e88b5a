-- A list in another one, of which its own name has been read, with its padding.
use Rattle.std.proofs.Common.{◌≡◌, ℕ, ◌+◌, ◌-◌, ◌%◌, ◌≤◌, Option, Some, None, Ok, List, ◌++◌, length, take, drop, ap, ◌∙◌, sym, subst, arith, append_assoc, length-append, length-take, length-drop}
use Rattle.std.proofs.lemmas.List.{take-append-drop}
use Rattle.ffv1_avi.specs.Chunks.{AreChunks, Chunk, chunks_text}
use Rattle.ffv1_reads.specs.Reads.{Reading, given, passed, read_on, taken, ◌>>=◌}
use Rattle.ffv1_avi.specs.Padding.{padded}
use Rattle.ffv1_avi.specs.Walk.{Visit, walk, walk_up_to, plain}
use Rattle.ffv1_avi.proofs.ListWalks.{Complete, Ended, Run, Sound, Taking, walk_complete, walk_sound}
use Rattle.ffv1_avi.proofs.PassedBytes.{IsContent}
use Rattle.ffv1_reads.proofs.WantedBytes.{passed_complete, passed_sound, taken_complete}
use Rattle.ffv1_reads.proofs.Results.{read_on_ok}
use Rattle.ffv1_reads.proofs.Results.{ok_is}

-- the rest of a list after its own name
pub list_skip_sound : (size : ℕ) (own more : List ℕ) (p : Unit {0} × List ℕ) → 4 ≤ size → length own ≡ 4 → passed (padded size - 4) more ≡ Ok p → (bytes : List ℕ) × IsContent size (own ++ more) (own ++ bytes) p.1
list_skip_sound size own more p room four h =
    let gone = passed_sound (padded size - 4) more p h in
    let all = gone.0 in
    let front = take (size - 4) all in
    let behind = drop (size - 4) all in
    let whole : own ++ more ≡ ((own ++ front) ++ behind) ++ p.1 = ap (λ z. own ++ z) (gone.1 ∙ ap (λ z. z ++ p.1) (sym (take-append-drop (size - 4) all))) ∙ regrouped own front behind p.1 in
    let long : length (own ++ front) ≡ size = length-append own front ∙ (omega (arith, four, room, gone.2, length-take (size - 4) all)) in
    let odd : length behind ≡ size % 2 = length-drop (size - 4) all ∙ (omega (arith, room, gone.2)) in
    (front, record { padding = behind; text_is = whole; long = long; odd = odd })
  where
    regrouped : (a b c d : List ℕ) → a ++ ((b ++ c) ++ d) ≡ ((a ++ b) ++ c) ++ d
    regrouped a b c d = simp append_assoc

-- a list's bytes are its own name and the rest
pub own_first : (size : ℕ) (bytes padding rest : List ℕ) → 4 ≤ size → length bytes ≡ size → (bytes ++ padding) ++ rest ≡ take 4 bytes ++ ((drop 4 bytes ++ padding) ++ rest)
own_first size bytes padding rest room long = ap (λ z. (z ++ padding) ++ rest) (sym (take-append-drop 4 bytes)) ∙ regrouped (take 4 bytes) (drop 4 bytes) padding rest
  where
    regrouped : (a b c d : List ℕ) → ((a ++ b) ++ c) ++ d ≡ a ++ ((b ++ c) ++ d)
    regrouped a b c d = simp append_assoc

pub own_taken : (size : ℕ) (bytes padding rest : List ℕ) → 4 ≤ size → length bytes ≡ size → taken 4 ((bytes ++ padding) ++ rest) ≡ Ok (take 4 bytes, (drop 4 bytes ++ padding) ++ rest)
own_taken size bytes padding rest room long =
    let four : length (take 4 bytes) ≡ 4 = length-take 4 bytes ∙ (omega (arith, room, long)) in
    ap (taken 4) (own_first size bytes padding rest room long) ∙ taken_complete 4 (take 4 bytes) ((drop 4 bytes ++ padding) ++ rest) four

pub list_skip_complete : (size : ℕ) (bytes padding rest : List ℕ) → 4 ≤ size → length bytes ≡ size → length padding ≡ size % 2 → passed (padded size - 4) ((drop 4 bytes ++ padding) ++ rest) ≡ Ok (tt, rest)
list_skip_complete size bytes padding rest room long odd =
    passed_complete (padded size - 4) (drop 4 bytes ++ padding) rest (omega (arith, room, long, odd, length-append (drop 4 bytes) padding, length-drop 4 bytes))

-- the chunks of a list are walked to its end
abbrev pub list_read : {S : Type 0} → Visit S ⊥ → S → ℕ → Reading S
list_read visit s size = walk visit (size - 4) s >>= λ p. (passed (size % 2) >>= λ _. given p.0)

pub record IsList {S : Type 0} (T : Taking S) (s : S) (size : ℕ) (text : List ℕ) (t : S) (rest : List ℕ) : Type 0 where
  pub chunks : List Chunk
  pub padding : List ℕ
  pub text_is : text ≡ (chunks_text chunks ++ padding) ++ rest
  pub each : AreChunks chunks
  pub long : length (chunks_text chunks) ≡ size - 4
  pub odd : length padding ≡ size % 2
  pub run : Run T s chunks t

pub list_read_sound : {S : Type 0} (visit : Visit S ⊥) (T : Taking S) → Sound visit T → (s : S) (size : ℕ) (text : List ℕ) (p : S × List ℕ) → list_read visit s size text ≡ Ok p → IsList T s size text p.0 p.1
list_read_sound {S = S} visit T sound s size text p h =
    let first = read_on_ok (walk visit (size - 4) s text) (λ p. (passed (size % 2) >>= λ _. given p.0)) p h in
    let walked = walk_sound visit T sound (size - 4) s text first.0 first.1 in
    let second = read_on_ok (passed (size % 2) first.0.1) (λ _. given first.0.0.0) p first.2 in
    let gone = passed_sound (size % 2) first.0.1 second.0 second.1 in
    let P : S × List ℕ → Type 0 = λ p. IsList T s size text p.0 p.1 in
    subst P (ok_is (first.0.0.0, second.0.1) p second.2)
    (on_end first.0.0.1 first.0.0.0 first.0.1 second.0.1 gone.0 gone.1 gone.2 walked.chunks walked.behind walked.after walked.last walked.text_is walked.each walked.long walked.run walked.end)
  where
    on_end : (o : Option ⊥) (t : S) (more rest padding : List ℕ) → more ≡ padding ++ rest → length padding ≡ size % 2 → (chunks : List Chunk) (behind : List ℕ) (after : ℕ) (last : S) → text ≡ chunks_text chunks ++ behind → AreChunks chunks →
        length (chunks_text chunks) + after ≡ size - 4 → Run T s chunks last → Ended plain visit after last behind t o more → IsList T s size text t rest
    on_end (Some y) t more rest padding is odd chunks behind after last whole each long run end = absurd y
    on_end None t more rest padding is odd chunks behind after last whole each long run end =
        let P : S → Type 0 = λ z. Run T s chunks z in
        record { chunks = chunks; padding = padding; text_is = whole ∙ ap (λ z. chunks_text chunks ++ z) (end.2 ∙ is) ∙ sym (append_assoc (chunks_text chunks) padding rest); each = each; long = omega (arith, long, end.0); odd = odd; run = subst P (sym end.1) run }

pub list_read_complete : {S : Type 0} (visit : Visit S ⊥) (T : Taking S) → Complete visit T → (s t : S) (chunks : List Chunk) (size : ℕ) (padding rest : List ℕ) → length (chunks_text chunks) ≡ size - 4 → length padding ≡ size % 2 → AreChunks chunks → Run T s chunks t →
    list_read visit s size ((chunks_text chunks ++ padding) ++ rest) ≡ Ok (t, rest)
unfolding walk_up_to
list_read_complete visit T complete s t chunks size padding rest long odd each run =
    let walked = walk_complete visit T complete chunks s t 0 (padding ++ rest) each run in
    let count : size - 4 ≡ length (chunks_text chunks) + 0 = omega (arith, long) in
    ap (λ z. read_on (walk visit (size - 4) s z) (λ p. (passed (size % 2) >>= λ _. given p.0))) (append_assoc (chunks_text chunks) padding rest)
    ∙ ap (λ n. read_on (walk visit n s (chunks_text chunks ++ (padding ++ rest))) (λ p. (passed (size % 2) >>= λ _. given p.0))) count
    ∙ ap (λ z. read_on z (λ p. (passed (size % 2) >>= λ _. given p.0))) walked
    ∙ ap (λ z. read_on z (λ _. given t)) (passed_complete (size % 2) padding rest odd)
