-- A chunk of which a fault is a value is read header by header.
use Rattle.std.proofs.Common.{◌≡◌, ◌∙◌, ◌+◌, ◌-◌, ◌++◌, ◌&&◌, ℕ, nat_lt, Bool, true, false, List, length, take, drop, codes, Option, Some, None, Ok, Err, refl, sym, ap, arith, append_assoc, length-append, take-append-drop}
use Rattle.std.proofs.lemmas.Bool.{le-ltb}
use Rattle.ffv1_reads.specs.Reads.{Looked, Reading, Short, Want, passed, ◌>>=◌}
use Rattle.ffv1_reads.proofs.Results.{cut_front}
use Rattle.ffv1_avi.specs.declared.came.Came.{Came}
use Rattle.ffv1_avi.specs.declared.came.Came.TheVariants as came
use Rattle.ffv1_avi.specs.declared.came.Header.{Header}
use Rattle.ffv1_avi.specs.declared.came.Header.TheVariants as header
use Rattle.ffv1_avi.specs.declared.chunk.Entry.{Entry}
use Rattle.ffv1_avi.specs.declared.place.Names.{Names}
use Rattle.ffv1_avi.specs.declared.place.Names.TheVariants.{Any, Closed}
use Rattle.ffv1_avi.specs.declared.place.Place.{Place}
use Rattle.ffv1_avi.specs.Internal.Came.{came_read, came_turn, frame_next, header_read, header_turn, movi_entry, movi_header, movi_next, own_came}
use Rattle.ffv1_avi.specs.Names.{bars, is_barred, is_frame, least_bytes, most_bytes, rule_of}
use Rattle.ffv1_avi.specs.Opens.{Step, visit_movi}
use Rattle.ffv1_avi.specs.Padding.{padded}
use Rattle.ffv1_avi.specs.Turns.{chunk_turn, step_read}
use Rattle.ffv1_avi.specs.Walk.{entry_judged, entry_of, is_name, size_in}

-- the bytes before others
front_of : (bytes rest : List ℕ) → take (length (bytes ++ rest) - length rest) (bytes ++ rest) ≡ bytes
front_of bytes rest =
    let long : length (bytes ++ rest) - length rest ≡ length bytes = omega (arith, length-append bytes rest) in
    rw long (cut_front (length bytes) bytes rest refl)

pub heard_came : (place : Place) (c : Came) (bytes rest : List ℕ) → step_read place (bytes ++ rest) ≡ came_read c rest → chunk_turn place (bytes ++ rest) ≡ came_turn place c bytes rest
unfolding chunk_turn
heard_came place (came.Fault f) bytes rest is = rw (is, front_of bytes rest) refl
heard_came place (came.Frame size next) bytes rest is = rw is refl
heard_came place (came.Pass count next) bytes rest is = on_test (nat_lt (length rest) count) refl
  where
    on_test : (b : Bool) → nat_lt (length rest) count ≡ b → chunk_turn place (bytes ++ rest) ≡ came_turn place (came.Pass count next) bytes rest
    on_test true test = rw (is, test) refl
    on_test false test = rw (is, test) refl

-- more bytes are wanted, or there is nothing more
pub heard_short : (place : Place) (text : List ℕ) (w : Want) → step_read place text ≡ Err (Short w) → chunk_turn place text ≡ Err (Short w)
unfolding chunk_turn
heard_short place text w is = rw is refl

pub heard_end : (place : Place) (text rest : List ℕ) → step_read place text ≡ Ok (None, rest) → chunk_turn place text ≡ Ok (None, rest)
unfolding chunk_turn
heard_end place text rest is = rw is refl

-- a header, after which a list's own name comes
pub headed : (in_movi : Bool) (place : Place) (h : Header) (head rest : List ℕ) → step_read place (head ++ rest) ≡ header_read in_movi h rest → chunk_turn place (head ++ rest) ≡ header_turn in_movi place h head rest
headed in_movi place (header.Whole c) head rest is = heard_came place c head rest is
headed in_movi place (header.Named enters next size) head rest is = on_test (nat_lt (length rest) 4) refl
  where
    own : List ℕ
    own = take 4 rest

    behind : List ℕ
    behind = drop 4 rest

    on_test : (b : Bool) → nat_lt (length rest) 4 ≡ b → chunk_turn place (head ++ rest) ≡ header_turn in_movi place (header.Named enters next size) head rest
    on_test true test =
        let short : header_read in_movi (header.Named enters next size) rest ≡ Err (Short Looked) = rw test refl in
        let other : header_turn in_movi place (header.Named enters next size) head rest ≡ Err (Short Looked) = rw test refl in
        heard_short place (head ++ rest) Looked (is ∙ short) ∙ sym other
    on_test false test =
        let whole : (head ++ own) ++ behind ≡ head ++ rest = append_assoc head own behind ∙ ap (λ z. head ++ z) (take-append-drop 4 rest) in
        let after : header_read in_movi (header.Named enters next size) rest ≡ came_read (own_came in_movi enters next size own) behind = rw test refl in
        let last : header_turn in_movi place (header.Named enters next size) head rest ≡ came_turn place (own_came in_movi enters next size own) (head ++ own) behind = rw test refl in
        let read : step_read place ((head ++ own) ++ behind) ≡ came_read (own_came in_movi enters next size own) behind = ap (step_read place) whole ∙ is ∙ after in
        ap (chunk_turn place) (sym whole) ∙ heard_came place (own_came in_movi enters next size own) (head ++ own) behind read ∙ sym last

pub passed_none : (text : List ℕ) → passed 0 text ≡ Ok (tt, text)
passed_none text = rw (le-ltb (length text) 0 (omega arith)) refl

-- ---- a header of movi

-- a list that is opened is taken as its own name
pub list_of_four : (names : Names) (name : List ℕ) (size : ℕ) → is_barred names name ≡ false → is_name name (codes "LIST") ≡ true → size_in (rule_of names) name size ≡ 4
list_of_four Any name size free list = absurd (cc (list, free))
list_of_four (Closed stream streams) name size free list = rw list refl

-- where a chunk of movi leads
pub record MoviLeads (place : Place) (on : ℕ → Option (ℕ × ℕ) → Reading (Option Step)) : Type 0 where
  pub none : (left : ℕ) (text : List ℕ) → on left None text ≡ Ok (Some (None, movi_next place left), text)
  pub some : (left : ℕ) (p : ℕ × ℕ) (text : List ℕ) → on left (Some p) text ≡ Ok (Some (Some p.0, frame_next place p.1), text)

module _ (place : Place) (on : ℕ → Option (ℕ × ℕ) → Reading (Option Step)) (leads : MoviLeads place on) where
  abbrev Enters : Entry → List ℕ → Type 0
  Enters e text = (visit_movi place.names tt e >>= λ p. on e.left p.1) text ≡ header_read true (movi_entry place e) text

  frames_enter : (e : Entry) (text : List ℕ) (a b : Bool) → nat_lt (most_bytes place.names) e.size ≡ a → nat_lt e.size (least_bytes place.names) ≡ b → is_barred place.names e.name ≡ false → is_frame place.names e.name ≡ true → Enters e text
  unfolding visit_movi
  frames_enter e text true b p q free frame = rw (free, frame, p) refl
  frames_enter e text false true p q free frame = rw (free, frame, p, q) refl
  frames_enter e text false false p q free frame = rw (free, frame, p, q) (leads.some e.left (e.size, e.left) text)

  lists_enter : (e : Entry) (text : List ℕ) (a : Bool) → nat_lt (length text) 4 ≡ a → e.size ≡ 4 → is_barred place.names e.name ≡ false → is_frame place.names e.name ≡ false → is_name e.name (codes "LIST") ≡ true → Enters e text
  unfolding visit_movi
  lists_enter e text true p four free frame list = rw (free, frame, list, four, p) refl
  lists_enter e text false p four free frame list = on_own (is_name (take 4 text) (codes "rec ")) refl
    where
      none : passed 0 (drop 4 text) ≡ Ok (tt, drop 4 text)
      none = passed_none (drop 4 text)

      on_own : (b : Bool) → is_name (take 4 text) (codes "rec ") ≡ b → Enters e text
      on_own true q = rw (free, frame, list, four, p, none, q) (rw none (leads.none e.left (drop 4 text)))
      on_own false q = rw (free, frame, list, four, p, none, q) refl

  others_enter : (e : Entry) (text : List ℕ) (a : Bool) → nat_lt (length text) (padded e.size) ≡ a → is_barred place.names e.name ≡ false → is_frame place.names e.name ≡ false → is_name e.name (codes "LIST") ≡ false → Enters e text
  unfolding visit_movi
  others_enter e text true p free frame list = rw (free, frame, list, p) refl
  others_enter e text false p free frame list = rw (free, frame, list, p) (leads.none e.left (drop (padded e.size) text))

  enters : (e : Entry) (text : List ℕ) (a b c : Bool) → is_barred place.names e.name ≡ a → is_frame place.names e.name ≡ b → is_name e.name (codes "LIST") ≡ c → (a ≡ false → c ≡ true → e.size ≡ 4) → Enters e text
  unfolding visit_movi
  enters e text true b c p q r four = rw p refl
  enters e text false true c p q r four = frames_enter e text (nat_lt (most_bytes place.names) e.size) (nat_lt e.size (least_bytes place.names)) refl refl p q
  enters e text false false true p q r four = lists_enter e text (nat_lt (length text) 4) refl (four refl refl) p q r
  enters e text false false false p q r four = others_enter e text (nat_lt (length text) (padded e.size)) refl p q r

  -- a header, and what is made of its chunk
  pub movi_headed : (k : Option Entry → Reading (Option Step)) → ((e : Entry) (text : List ℕ) → k (Some e) text ≡ (visit_movi place.names tt e >>= λ p. on e.left p.1) text) → (left : ℕ) (name : List ℕ) (size : ℕ) (text : List ℕ) →
      (entry_judged (rule_of place.names) left name size >>= k) text ≡ header_read true (movi_header place left name size) text
  movi_headed k is left name size text = on_names (bars place.names name) (nat_lt left (8 + padded size)) (is_name name (codes "LIST") && nat_lt size 4) refl refl refl
    where
      e : Entry
      e = entry_of left name (size_in (rule_of place.names) name size)

      on_names : (a b c : Bool) → bars place.names name ≡ a → nat_lt left (8 + padded size) ≡ b → (is_name name (codes "LIST") && nat_lt size 4) ≡ c → (entry_judged (rule_of place.names) left name size >>= k) text ≡ header_read true (movi_header place left name size) text
      on_names true b c p q r = rw p refl
      on_names false true c p q r = rw (p, q) refl
      on_names false false true p q r = rw (p, q, r) refl
      on_names false false false p q r = rw (p, q, r) (is e text ∙ enters e text (is_barred place.names name) (is_frame place.names name) (is_name name (codes "LIST")) refl refl refl (λ free list. list_of_four place.names name size free list))
