-- Reads the word after white space and comments into the front of `word`.
use Rattle.std.proofs.Common.{◌-◌, ℕ, [], ◌∷◌, false, length}
use Rattle.std.proofs.lemmas.Result.{err_from_is_err_and}
use Rattle.ffv1_y4m.specs.Reads.{Nowhere}
use Rattle.ffv1_y4m.specs.Spaces.{blank_read, blank_room, word_read}
use Rattle.ffv1_y4m.proofs.SpacesRead.{blank_extends, room_is, set_first, stays_of, word_shortens}
use Rattle.ffv1_y4m.proofs.Sequences.{stands_first, stands_next}
use Rattle.ffv1_y4m.proofs.ppm_spaces.read_spaced.Goals as goal

pub returns-in_err-word-clause-answer : goal.returns-in_err-word-clause-answer
returns-in_err-word-clause-answer g c =
    let p = err_from_is_err_and c.from_residual.result c.from_residual.ensures.1 in
    let most = length c.args.word.now - 1 in
    let read = rw (← room_is) at c.in_err-word.ensures.answer in
    rw (p.1, p.2) (stands_first (blank_read blank_room false) (λ b. word_read most (b ∷ [])) Nowhere
    Nowhere _ c.in_err-word.field-0.0 (λ b text. word_shortens most (b ∷ []) text) (λ xs k. k)
    read)

pub returns-clause-answer : goal.returns-clause-answer
returns-clause-answer g c =
    let most = length c.read_word.new.word - 1 in
    let byte : ℕ = c.in_ok-word.field-0 in
    let read = rw (← room_is) at c.in_ok-word.ensures.answer in
    let word = rw (set_first c.args.word.now byte c.requires) at c.read_word.ensures.answer in
    stands_next (blank_read blank_room false) (λ b. word_read most
    (b ∷ [])) Nowhere Nowhere Nowhere _ _ _ _ _ _ byte _
    (stays_of (blank_read blank_room false) byte
    (λ text x mid h behind. blank_extends blank_room false text x mid h behind))
    (λ xs ys a b. b) read word
