-- The next chunk of an RIFF or a movi without size, in a file that may be damaged.
use Rattle.std.proofs.Common.{◌≡◌, ◌∙◌, ◌-◌, ◌++◌, ◌==◌, ℕ, nat_lt, Bool, true, false, List, [], length, take, drop, codes, Some, None, refl, sym, ap, arith, take-append-drop, append_assoc, length-append}
use Rattle.std.proofs.lemmas.Bool.{ltb-false}
use Rattle.std.proofs.lemmas.List.{length-take}
use Rattle.byteorder.specs.Endian.{little_number}
use Rattle.ffv1_reads.specs.Reads.{Looked, given}
use Rattle.ffv1_reads.proofs.Results.{cut_back, cut_front}
use Rattle.ffv1_avi.specs.declared.place.Open.{Open}
use Rattle.ffv1_avi.specs.declared.place.Open.TheVariants.{Sized, OpenRiff, OpenMovi}
use Rattle.ffv1_avi.specs.declared.place.Place.{Place}
use Rattle.ffv1_avi.specs.Internal.Came.{came_read, header_read, header_turn, is_unsized, movi_header, riff_came, sized_header, sizeless_header}
use Rattle.ffv1_avi.specs.Internal.Hears.{further_turn, heard_turn, named_turn, open_named_turn, open_turn}
use Rattle.ffv1_avi.specs.Opens.{goes_on, open_found, open_framed, open_in_movi, open_in_riff, open_named, open_passed, size_read, taken_or_end}
use Rattle.ffv1_avi.specs.Places.{is_open}
use Rattle.ffv1_avi.specs.Turns.{beyond_step, chunk_turn, step_read}
use Rattle.ffv1_avi.specs.Walk.{entry_in, is_name}
use Rattle.ffv1_avi.proofs.HeardTurns.{MoviLeads, headed, heard_came, heard_end, heard_short, movi_headed}
use Rattle.ffv1_avi.proofs.HeardRiffs.{RiffLeads, open_came_is, riff_headed, sizeless_headed}
use Rattle.ffv1_avi.proofs.HeardChunks.{begun_heard, beyond_is, movi_heard, riff_heard}

module _ (place : Place) (none : place.movi ≡ 0) (more : (place.input == 0) ≡ false) (opened : is_open place.open_in ≡ true) where
  found_is : (text : List ℕ) (o : Open) → is_open o ≡ true → beyond_step o place text ≡ open_found place text
  found_is text Sized is = absurd (cc (is))
  found_is text OpenRiff is = refl
  found_is text OpenMovi is = refl

  open_is : (text : List ℕ) → step_read place text ≡ open_found place text
  open_is text = beyond_is place none more text ∙ found_is text place.open_in opened

  movi_leads : MoviLeads place (λ left o. open_framed place left o)
  movi_leads = record {
    none = λ left text. rw none refl;
    some = λ left p text. rw none refl;
  }

  riff_leads : RiffLeads place (λ e o. given (Some (None, open_passed place e.left o)))
  riff_leads = record {
    none = λ e text. rw opened refl;
    some = λ e text. rw opened refl;
  }

  -- after a name
  module _ (name rest : List ℕ) (four : length name ≡ 4) (at : step_read place (name ++ rest) ≡ open_named place name rest) where
    abbrev size : List ℕ
    size = take 4 rest

    abbrev behind : List ℕ
    behind = drop 4 rest

    whole : (name ++ size) ++ behind ≡ name ++ rest
    whole = append_assoc name size behind ∙ ap (λ z. name ++ z) (take-append-drop 4 rest)

    front : take 4 (name ++ size) ≡ name
    front = cut_front 4 name size four

    back : drop 4 (name ++ size) ≡ size
    back = cut_back 4 name size four

    short : nat_lt (length rest) 4 ≡ true → is_name name (codes "RIFF") ≡ false → (b : Bool) → goes_on place.open_in name ≡ b → chunk_turn place (name ++ rest) ≡ named_turn place name rest
    unfolding open_named named_turn size_read
    short p riff true goes = heard_short place (name ++ rest) Looked (at ∙ (rw (riff, goes, p) refl)) ∙ (rw p refl)
    short p riff false goes = heard_short place (name ++ rest) Looked (at ∙ (rw (riff, goes, p) refl)) ∙ (rw p refl)

    in_movi : nat_lt (length rest) 4 ≡ false → is_name name (codes "RIFF") ≡ false → goes_on place.open_in name ≡ true → chunk_turn place (name ++ rest) ≡ named_turn place name rest
    unfolding open_named named_turn size_read
    in_movi p riff goes =
        let head = movi_header place (place.input - 1) name (little_number 4 size) in
        let read : step_read place ((name ++ size) ++ behind) ≡ header_read true head behind =
        ap (step_read place) whole ∙ at ∙ (rw (riff, goes, p) refl)
        ∙ movi_headed place (λ left o. open_framed place left o) movi_leads (open_in_movi place) (λ e text. refl) (place.input - 1) name (little_number 4 size) behind in
        let turned : named_turn place name rest ≡ header_turn true place head (name ++ size) behind = rw (p, goes, front, back) refl in
        ap (chunk_turn place) (sym whole) ∙ headed true place head (name ++ size) behind read ∙ sym turned

    in_riff : nat_lt (length rest) 4 ≡ false → is_name name (codes "RIFF") ≡ false → goes_on place.open_in name ≡ false → (b : Bool) → is_unsized place name (little_number 4 size) ≡ b → chunk_turn place (name ++ rest) ≡ named_turn place name rest
    unfolding open_named named_turn size_read
    in_riff p riff goes true unsized =
        let list : is_unsized (record { input = place.input; riff = place.riff; movi = place.movi; names = place.names; owed = place.owed; open_in = OpenRiff }) name (little_number 4 size) ≡ true = rw opened at unsized in
        let head = sizeless_header place (place.input - 1) in
        let read : step_read place ((name ++ size) ++ behind) ≡ header_read false head behind =
        ap (step_read place) whole ∙ at ∙ (rw (riff, goes, p, list) refl)
        ∙ sizeless_headed place (place.input - 1) name behind in
        let turned : named_turn place name rest ≡ header_turn false place head (name ++ size) behind = rw (p, goes, front, back, unsized) refl in
        ap (chunk_turn place) (sym whole) ∙ headed false place head (name ++ size) behind read ∙ sym turned
    in_riff p riff goes false sized =
        let list : is_unsized (record { input = place.input; riff = place.riff; movi = place.movi; names = place.names; owed = place.owed; open_in = OpenRiff }) name (little_number 4 size) ≡ false = rw opened at sized in
        let head = sized_header place (place.input - 1) name (little_number 4 size) in
        let read : step_read place ((name ++ size) ++ behind) ≡ header_read false head behind =
        ap (step_read place) whole ∙ at ∙ (rw (riff, goes, p, list) refl)
        ∙ riff_headed place (λ e o. given (Some (None, open_passed place e.left o))) riff_leads (open_in_riff place) (λ e text. refl) (place.input - 1) name (little_number 4 size) behind in
        let turned : named_turn place name rest ≡ header_turn false place head (name ++ size) behind = rw (p, goes, front, back, sized) refl in
        ap (chunk_turn place) (sym whole) ∙ headed false place head (name ++ size) behind read ∙ sym turned

    named : is_name name (codes "RIFF") ≡ false → (a b : Bool) → nat_lt (length rest) 4 ≡ a → goes_on place.open_in name ≡ b → chunk_turn place (name ++ rest) ≡ named_turn place name rest
    named riff true b p goes = short p riff b goes
    named riff false true p goes = in_movi p riff goes
    named riff false false p goes = in_riff p riff goes (is_unsized place name (little_number 4 size)) refl

    -- an RIFF
    further : is_name name (codes "RIFF") ≡ true → (a : Bool) → nat_lt (length rest) 8 ≡ a → chunk_turn place (name ++ rest) ≡ further_turn place name rest
    unfolding open_named further_turn
    further riff true p = heard_short place (name ++ rest) Looked (at ∙ (rw (riff, p) refl)) ∙ (rw p refl)
    further riff false p =
        let next : List ℕ = take 8 rest in
        let after : List ℕ = drop 8 rest in
        let all : (name ++ next) ++ after ≡ name ++ rest = append_assoc name next after ∙ ap (λ z. name ++ z) (take-append-drop 8 rest) in
        let read : step_read place ((name ++ next) ++ after) ≡ came_read (riff_came place next) after =
        ap (step_read place) all ∙ at ∙ (rw (riff, p) refl) ∙ open_came_is place next after opened in
        ap (chunk_turn place) (sym all) ∙ heard_came place (riff_came place next) (name ++ next) after read ∙ (rw p refl)

    pub name_heard : (b : Bool) → is_name name (codes "RIFF") ≡ b → chunk_turn place (name ++ rest) ≡ open_named_turn place name rest
    name_heard true riff = further riff (nat_lt (length rest) 8) refl ∙ (rw riff refl)
    name_heard false riff = named riff (nat_lt (length rest) 4) (goes_on place.open_in name) refl refl ∙ (rw riff refl)

  pub open_heard : (text : List ℕ) (a b c : Bool) → nat_lt (length text) 1 ≡ a → (place.owed == 0) ≡ b → nat_lt (length (drop 1 text)) 3 ≡ c → chunk_turn place text ≡ open_turn place text
  unfolding open_found open_turn taken_or_end
  open_heard text true true c p owed q = heard_end place text [] (open_is text ∙ (rw (more, p, owed) refl)) ∙ (rw (p, owed) refl)
  open_heard text true false c p owed q = heard_short place text Looked (open_is text ∙ (rw (more, p, owed) refl)) ∙ (rw (p, owed) refl)
  open_heard text false b true p owed q = heard_short place text Looked (open_is text ∙ (rw (more, p, q) refl)) ∙ (rw (p, q) refl)
  open_heard text false b false p owed q =
      let name : List ℕ = take 1 text ++ take 3 (drop 1 text) in
      let rest : List ℕ = drop 3 (drop 1 text) in
      let whole : name ++ rest ≡ text = append_assoc (take 1 text) (take 3 (drop 1 text)) rest ∙ ap (λ z. take 1 text ++ z) (take-append-drop 3 (drop 1 text)) ∙ take-append-drop 1 text in
      let one = ltb-false (length text) 1 p in
      let three = ltb-false (length (drop 1 text)) 3 q in
      let first : length (take 1 text) ≡ 1 = length-take 1 text ∙ (omega (arith, one)) in
      let others : length (take 3 (drop 1 text)) ≡ 3 = length-take 3 (drop 1 text) ∙ (omega (arith, three)) in
      let four : length name ≡ 4 = length-append (take 1 text) (take 3 (drop 1 text)) ∙ (omega (arith, first, others)) in
      let read : step_read place (name ++ rest) ≡ open_named place name rest = ap (step_read place) whole ∙ open_is text ∙ (rw (more, p, q) refl) in
      let turned : open_turn place text ≡ open_named_turn place name rest = rw (p, q) refl in
      ap (chunk_turn place) (sym whole) ∙ name_heard name rest four read (is_name name (codes "RIFF")) refl ∙ sym turned

-- ---- any chunk

opens_heard : (place : Place) (text : List ℕ) → place.movi ≡ 0 → (place.input == 0) ≡ false → (o : Open) → place.open_in ≡ o → (b : Bool) → nat_lt 0 place.riff ≡ b → chunk_turn place text ≡ heard_turn place text
unfolding heard_turn
opens_heard place text none more OpenRiff is b riff = let opened : is_open place.open_in ≡ true = rw is refl in open_heard place none more opened text (nat_lt (length text) 1) (place.owed == 0) (nat_lt (length (drop 1 text)) 3) refl refl refl ∙ (rw (none, more, opened) refl)
opens_heard place text none more OpenMovi is b riff = let opened : is_open place.open_in ≡ true = rw is refl in open_heard place none more opened text (nat_lt (length text) 1) (place.owed == 0) (nat_lt (length (drop 1 text)) 3) refl refl refl ∙ (rw (none, more, opened) refl)
opens_heard place text none more Sized is true riff = let closed : is_open place.open_in ≡ false = rw is refl in riff_heard place none more is text riff ∙ (rw (none, more, closed, riff) refl)
opens_heard place text none more Sized is false riff =
    let closed : is_open place.open_in ≡ false = rw is refl in
    let ended : place.riff ≡ 0 = omega (arith, ltb-false 0 place.riff riff) in
    begun_heard place none more is text ended (nat_lt (length text) 4) (place.owed == 0) refl refl ∙ (rw (none, more, closed, riff) refl)

ends_heard : (place : Place) (text : List ℕ) → place.movi ≡ 0 → (b : Bool) → (place.input == 0) ≡ b → chunk_turn place text ≡ heard_turn place text
unfolding heard_turn step_read entry_in
ends_heard place text none true more = heard_end place text text (rw (none, more) refl) ∙ (rw (none, more) refl)
ends_heard place text none false more = opens_heard place text none more place.open_in refl (nat_lt 0 place.riff) refl

chunks_heard : (place : Place) (text : List ℕ) (b : Bool) → nat_lt 0 place.movi ≡ b → chunk_turn place text ≡ heard_turn place text
unfolding heard_turn
chunks_heard place text true some = movi_heard place text some ∙ (rw some refl)
chunks_heard place text false none = ends_heard place text (omega (arith, ltb-false 0 place.movi none)) (place.input == 0) refl

-- a chunk is read header by header
pub chunk_heard : (place : Place) (text : List ℕ) → chunk_turn place text ≡ heard_turn place text
chunk_heard place text = chunks_heard place text (nat_lt 0 place.movi) refl
