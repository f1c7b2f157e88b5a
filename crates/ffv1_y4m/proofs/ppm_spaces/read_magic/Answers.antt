-- Whether the first word is `P6`, of which the first byte may have been read before.
use Rattle.std.proofs.Common.{◌≡◌, ◌∙◌, ℕ, List, [], ◌∷◌, codes, length, take, arith}
use Rattle.std.proofs.lemmas.Grind.{common_steps}
use Rattle.std.proofs.lemmas.Result.{err_from_is_err_and}
use Rattle.ffv1_y4m.specs.Header.{is_text}
use Rattle.ffv1_y4m.specs.Reads.{Nowhere}
use Rattle.ffv1_y4m.specs.Sequence.{give}
use Rattle.ffv1_y4m.specs.Spaces.{byte_read, word_read}
use Rattle.ffv1_y4m.proofs.SpacedHeaders.{first_word_shortens, magic_extends, magic_word}
use Rattle.ffv1_y4m.proofs.SpacesRead.{byte_extends, stays_of}
use Rattle.ffv1_y4m.proofs.Sequences.{stands_first, stands_given, stands_next}
use Rattle.ffv1_y4m.proofs.ppm_spaces.read_magic.Goals as goal

pub returns-in_err-word-clause-answer : goal.returns-in_err-word-clause-answer
returns-in_err-word-clause-answer g c =
    let p = err_from_is_err_and c.from_residual.result c.from_residual.ensures.1 in
    rw (p.1, p.2) (stands_first magic_word (λ word. give (is_text word (codes "P6"))) Nowhere
    Nowhere _ c.in_err-word.field-0.0 (λ word rest. omega arith) (λ xs k. k)
    (stands_first byte_read (λ b. word_read 2 (b ∷ [])) Nowhere Nowhere _ c.in_err-word.field-0.0
    first_word_shortens (λ xs k. k) c.in_err-word.ensures.answer))

pub returns-in_err-end-clause-answer : goal.returns-in_err-end-clause-answer
returns-in_err-end-clause-answer g c =
    let p = err_from_is_err_and c.from_residual-in_err-end.result
    c.from_residual-in_err-end.ensures.1 in
    let byte : ℕ = c.in_ok-word.field-0 in
    let long : length c.read_word.new.word ≡ 3 = c.read_word.auto.word in
    let read = rw long at c.in_err-end.ensures.answer in
    rw (p.1, p.2) (stands_first magic_word (λ word. give (is_text word
    (codes "P6"))) Nowhere Nowhere _ c.in_err-end.field-0.0 (λ word rest. omega arith)
    (λ xs k. k) (stands_next byte_read (λ b. word_read 2
    (b ∷ [])) Nowhere Nowhere Nowhere _ _ _ _ _ _ byte _
    (stays_of byte_read byte (λ text x mid h behind. byte_extends text x mid h behind))
    (λ xs ys a b. b) c.in_ok-word.ensures.answer read))

pub returns-clause-answer : goal.returns-clause-answer
returns-clause-answer g c =
    let byte : ℕ = c.in_ok-word.field-0 in
    let long : length c.read_word.new.word ≡ 3 = c.read_word.auto.word in
    let read = rw long at c.in_ok-end.ensures.answer in
    let word : List ℕ = take c.in_ok-end.end c.read_word.new.word in
    let is : c.is_text.result ≡ is_text (take c.in_ok-end.end c.read_word.new.word) (codes "P6") =
    c.is_text.ensures ∙ grind (arith, common_steps) in
    rw is (stands_next magic_word (λ w. give (is_text w
    (codes "P6"))) Nowhere Nowhere Nowhere _ _ _ _ _ _ word _
    (stays_of magic_word word magic_extends) (λ xs ys a b. b)
    (stands_next byte_read (λ b. word_read 2
    (b ∷ [])) Nowhere Nowhere Nowhere _ _ _ _ _ _ byte _
    (stays_of byte_read byte (λ text x mid h behind. byte_extends text x mid h behind))
    (λ xs ys a b. b) c.in_ok-word.ensures.answer read) (stands_given (is_text word
    (codes "P6")) Nowhere _ _))
