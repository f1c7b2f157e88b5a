-- The next chunk of a file that may be damaged is read header by header.
use Rattle.std.proofs.Common.{◌≡◌, ◌∙◌, ◌++◌, ◌==◌, ℕ, nat_lt, Bool, true, false, List, [], length, take, drop, codes, Option, Some, None, Ok, Err, refl, sym, ap, arith, take-append-drop, append_assoc}
use Rattle.std.proofs.lemmas.Bool.{ltb-true, ne_eqb}
use Rattle.byteorder.specs.Endian.{little_number}
use Rattle.ffv1_reads.specs.Behind.{begins_file}
use Rattle.ffv1_reads.specs.Reads.{Looked, Reading, Short, given, ◌>>=◌}
use Rattle.ffv1_reads.specs.declared.fault.FileFault.TheVariants as fault
use Rattle.ffv1_avi.specs.declared.came.Came.TheVariants as came
use Rattle.ffv1_avi.specs.declared.chunk.Entry.{Entry}
use Rattle.ffv1_avi.specs.declared.place.Open.TheVariants.{Sized}
use Rattle.ffv1_avi.specs.declared.place.Place.{Place}
use Rattle.ffv1_avi.specs.Files.{riff_begun, riff_judged, riff_named}
use Rattle.ffv1_avi.specs.Internal.Came.{came_read, came_turn, header_read, riff_came}
use Rattle.ffv1_avi.specs.Internal.Hears.{begun_named_turn, begun_turn, header_of, sized_turn}
use Rattle.ffv1_avi.specs.Names.{rule_of}
use Rattle.ffv1_avi.specs.Opens.{Step, no_frame, taken_or_end}
use Rattle.ffv1_avi.specs.Places.{is_open}
use Rattle.ffv1_avi.specs.Turns.{beyond_step, chunk_step, chunk_turn, movi_step, riff_place, riff_step, step_read}
use Rattle.ffv1_avi.specs.Walk.{Rule, entry_in, entry_judged, is_name, plain}
use Rattle.ffv1_avi.proofs.HeardTurns.{MoviLeads, headed, heard_came, heard_end, heard_short, movi_headed}
use Rattle.ffv1_avi.proofs.HeardRiffs.{RiffLeads, judged_came, riff_headed}

-- ---- in a list that has a size

-- what is made of a header there
abbrev Judges : Bool → Place → Rule → ℕ → (Option Entry → Reading (Option Step)) → Type 0
Judges in_movi place rule left k = (head rest : List ℕ) →
    (entry_judged rule left (take 4 head) (little_number 4 (drop 4 head)) >>= k) rest ≡ header_read in_movi (header_of in_movi place left head) rest

sized_heard : (in_movi : Bool) (place : Place) (rule : Rule) (left : ℕ) (k : Option Entry → Reading (Option Step)) (text : List ℕ) → (left == 0) ≡ false → ((text : List ℕ) → step_read place text ≡ (entry_in rule left >>= k) text) → Judges in_movi place rule left k →
    chunk_turn place text ≡ sized_turn in_movi place left text
unfolding entry_in sized_turn
sized_heard in_movi place rule left k text some is judges = on_left (nat_lt left 8) (nat_lt (length text) 8) refl refl
  where
    head : List ℕ
    head = take 8 text

    rest : List ℕ
    rest = drop 8 text

    on_left : (a b : Bool) → nat_lt left 8 ≡ a → nat_lt (length text) 8 ≡ b → chunk_turn place text ≡ sized_turn in_movi place left text
    on_left true b p q =
        let read : step_read place text ≡ came_read (came.Fault fault.Truncated) text = is text ∙ (rw (some, p) refl) in
        heard_came place (came.Fault fault.Truncated) [] text read ∙ (rw p refl)
    on_left false true p q =
        let read : step_read place text ≡ Err (Short Looked) = is text ∙ (rw (some, p, q) refl) in
        heard_short place text Looked read ∙ (rw (p, q) refl)
    on_left false false p q =
        let whole : head ++ rest ≡ text = take-append-drop 8 text in
        let first : (entry_in rule left >>= k) text ≡ (entry_judged rule left (take 4 head) (little_number 4 (drop 4 head)) >>= k) rest = rw (some, p, q) refl in
        let read : step_read place (head ++ rest) ≡ header_read in_movi (header_of in_movi place left head) rest = ap (step_read place) whole ∙ is text ∙ first ∙ judges head rest in
        ap (chunk_turn place) (sym whole) ∙ headed in_movi place (header_of in_movi place left head) head rest read ∙ (rw (p, q) refl)

-- in movi
movi_leads : (place : Place) → nat_lt 0 place.movi ≡ true → MoviLeads place (λ left o. given (Some (movi_step place left o)))
movi_leads place some = record {
  none = λ left text. rw some refl;
  some = λ left p text. rw some refl;
}

pub movi_heard : (place : Place) (text : List ℕ) → nat_lt 0 place.movi ≡ true → chunk_turn place text ≡ sized_turn true place place.movi text
unfolding step_read
movi_heard place text some =
    let there : (place.movi == 0) ≡ false = ne_eqb place.movi 0 (λ z. omega (arith, z, ltb-true 0 place.movi some)) in
    sized_heard true place (rule_of place.names) place.movi (chunk_step place) text there (λ text. refl)
    (λ head rest. movi_headed place (λ left o. given (Some (movi_step place left o))) (movi_leads place some) (chunk_step place) (λ e text. refl) place.movi (take 4 head) (little_number 4 (drop 4 head)) rest)

-- ---- behind movi

module _ (place : Place) (none : place.movi ≡ 0) (more : (place.input == 0) ≡ false) where
  pub beyond_is : (text : List ℕ) → step_read place text ≡ beyond_step place.open_in place text
  unfolding step_read entry_in
  beyond_is text = rw (none, more) refl

  -- in RIFF
  module _ (closed : place.open_in ≡ Sized) where
    riff_leads : RiffLeads place (λ e o. given (Some (None, riff_place place e.left o)))
    riff_leads = record {
      none = λ e text. rw closed refl;
      some = λ e text. rw closed refl;
    }

    riff_is : (text : List ℕ) → step_read place text ≡ (entry_in plain place.riff >>= riff_step place) text
    riff_is text = beyond_is text ∙ ap (λ o. beyond_step o place text) closed

    riff_judges : Judges false place plain place.riff (riff_step place)
    riff_judges head rest =
        riff_headed place (λ e o. given (Some (None, riff_place place e.left o))) riff_leads (riff_step place) (λ e text. refl) place.riff (take 4 head) (little_number 4 (drop 4 head)) rest
        ∙ (rw closed refl)

    pub riff_heard : (text : List ℕ) → nat_lt 0 place.riff ≡ true → chunk_turn place text ≡ sized_turn false place place.riff text
    riff_heard text some =
        let there : (place.riff == 0) ≡ false = ne_eqb place.riff 0 (λ z. omega (arith, z, ltb-true 0 place.riff some)) in
        sized_heard false place plain place.riff (riff_step place) text there riff_is riff_judges

    -- where an RIFF may begin
    begun_is : (text : List ℕ) → place.riff ≡ 0 → step_read place text ≡ (riff_begun place >>= no_frame) text
    unfolding entry_in
    begun_is text ended = riff_is text ∙ (rw ended refl)

    module _ (text : List ℕ) (ended : place.riff ≡ 0) where
      abbrev name : List ℕ
      name = take 4 text

      abbrev rest : List ℕ
      rest = drop 4 text

      whole : name ++ rest ≡ text
      whole = take-append-drop 4 text

      -- after four bytes
      named_is : nat_lt (length text) 4 ≡ false → (b : Bool) → (place.owed == 0) ≡ b → step_read place text ≡ (riff_named place name >>= no_frame) rest
      unfolding riff_begun taken_or_end
      named_is long true owed = begun_is text ended ∙ (rw (long, owed) refl)
      named_is long false owed = begun_is text ended ∙ (rw (long, owed) refl)

      begun_named : nat_lt (length text) 4 ≡ false → (b : Bool) → (place.owed == 0) ≡ b → begun_turn place text ≡ begun_named_turn place name rest
      unfolding begun_turn taken_or_end
      begun_named long true owed = rw (long, owed) refl
      begun_named long false owed = rw (long, owed) refl

      on_owed : nat_lt (length text) 4 ≡ false → is_name name (codes "RIFF") ≡ false → begins_file name ≡ false → (b : Bool) → (place.owed == 0) ≡ b → chunk_turn place text ≡ begun_turn place text
      on_owed long riff file true owed =
          let read : step_read place text ≡ Ok (None, rest) = named_is long true owed ∙ (rw (riff, file, owed) refl) in
          heard_end place text rest read ∙ sym (begun_named long true owed ∙ (rw (riff, file, owed) refl))
      on_owed long riff file false owed =
          let read : step_read place (name ++ rest) ≡ came_read (came.Fault fault.Truncated) rest = ap (step_read place) whole ∙ named_is long false owed ∙ (rw (riff, file, owed) refl) in
          ap (chunk_turn place) (sym whole) ∙ heard_came place (came.Fault fault.Truncated) name rest read ∙ sym (begun_named long false owed ∙ (rw (riff, file, owed) refl))

      on_file : nat_lt (length text) 4 ≡ false → is_name name (codes "RIFF") ≡ false → (b : Bool) → begins_file name ≡ b → chunk_turn place text ≡ begun_turn place text
      on_file long riff true file =
          let owed : Bool = place.owed == 0 in
          let read : step_read place (name ++ rest) ≡ came_read (came.Fault fault.Another) rest = ap (step_read place) whole ∙ named_is long owed refl ∙ (rw (riff, file) refl) in
          ap (chunk_turn place) (sym whole) ∙ heard_came place (came.Fault fault.Another) name rest read ∙ sym (begun_named long owed refl ∙ (rw (riff, file) refl))
      on_file long riff false file = on_owed long riff file (place.owed == 0) refl

      -- an RIFF
      entered_is : nat_lt (length text) 4 ≡ false → is_name name (codes "RIFF") ≡ true → (a b : Bool) → nat_lt (length rest) 8 ≡ a → (place.owed == 0) ≡ b → chunk_turn place text ≡ begun_turn place text
      unfolding taken_or_end
      entered_is long riff true true p owed =
          let read : step_read place text ≡ Ok (None, []) = named_is long true owed ∙ (rw (riff, p, owed) refl) in
          heard_end place text [] read ∙ sym (begun_named long true owed ∙ (rw (riff, p, owed) refl))
      entered_is long riff true false p owed =
          let read : step_read place text ≡ Err (Short Looked) = named_is long false owed ∙ (rw (riff, p, owed) refl) in
          heard_short place text Looked read ∙ sym (begun_named long false owed ∙ (rw (riff, p, owed) refl))
      entered_is long riff false b p owed =
          let more : List ℕ = take 8 rest in
          let behind : List ℕ = drop 8 rest in
          let all : (name ++ more) ++ behind ≡ text = append_assoc name more behind ∙ ap (λ z. name ++ z) (take-append-drop 8 rest) ∙ whole in
          let entered : (riff_named place name >>= no_frame) rest ≡ (riff_judged place more >>= no_frame) behind = rw (riff, p) refl in
          let turned : begun_named_turn place name rest ≡ came_turn place (riff_came place more) (name ++ more) behind = rw (riff, p) refl in
          let shut : is_open place.open_in ≡ false = rw closed refl in
          let read : step_read place ((name ++ more) ++ behind) ≡ came_read (riff_came place more) behind = ap (step_read place) all ∙ named_is long b owed ∙ entered ∙ judged_came place more behind shut in
          ap (chunk_turn place) (sym all) ∙ heard_came place (riff_came place more) (name ++ more) behind read ∙ sym (begun_named long b owed ∙ turned)

      on_name : nat_lt (length text) 4 ≡ false → (b : Bool) → is_name name (codes "RIFF") ≡ b → chunk_turn place text ≡ begun_turn place text
      on_name long true riff = entered_is long riff (nat_lt (length rest) 8) (place.owed == 0) refl refl
      on_name long false riff = on_file long riff (begins_file name) refl

      pub begun_heard : (a b : Bool) → nat_lt (length text) 4 ≡ a → (place.owed == 0) ≡ b → chunk_turn place text ≡ begun_turn place text
      unfolding riff_begun begun_turn taken_or_end
      begun_heard true true p owed = heard_end place text [] (begun_is text ended ∙ (rw (p, owed) refl)) ∙ (rw (p, owed) refl)
      begun_heard true false p owed = heard_short place text Looked (begun_is text ended ∙ (rw (p, owed) refl)) ∙ (rw (p, owed) refl)
      begun_heard false b p owed = on_name p (is_name name (codes "RIFF")) refl
