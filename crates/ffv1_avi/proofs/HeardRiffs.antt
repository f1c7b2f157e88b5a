-- The header of a chunk of RIFF in a file that may be damaged, and an RIFF that begins there.
use Rattle.std.proofs.Common.{◌≡◌, ◌∙◌, ◌+◌, ◌-◌, ◌==◌, ◌&&◌, ℕ, nat_lt, nat_le, Bool, true, false, List, length, take, drop, codes, Option, Some, None, Ok, refl, arith}
use Rattle.std.proofs.lemmas.Bool.{ltb-false, ne_eqb}
use Rattle.byteorder.specs.Endian.{little_number}
use Rattle.ffv1_reads.specs.Reads.{Reading, ◌>>=◌}
use Rattle.ffv1_avi.specs.declared.chunk.Entry.{Entry}
use Rattle.ffv1_avi.specs.declared.place.Place.{Place}
use Rattle.ffv1_avi.specs.Files.{riff_judged}
use Rattle.ffv1_avi.specs.Internal.Came.{came_read, header_read, movi_enters, riff_came, riff_entry, riff_next, sized_header, sizeless_header}
use Rattle.ffv1_avi.specs.Names.{is_frame}
use Rattle.ffv1_avi.specs.Opens.{Step, no_frame, open_judged, sizeless_in_riff, visit_riff}
use Rattle.ffv1_avi.specs.Padding.{padded}
use Rattle.ffv1_avi.specs.Places.{is_open}
use Rattle.ffv1_avi.specs.Walk.{entry_judged, entry_of, is_known, is_name, plain, sizeless_judged}
use Rattle.ffv1_avi.proofs.HeardTurns.{passed_none}

-- where a chunk of RIFF leads
pub record RiffLeads (place : Place) (on : Entry → Option (ℕ × ℕ) → Reading (Option Step)) : Type 0 where
  pub none : (e : Entry) (text : List ℕ) → on e None text ≡ Ok (Some (None, riff_next place e.left), text)
  pub some : (e : Entry) (text : List ℕ) → on e (Some (e.size - 4, e.left)) text ≡ Ok (Some (None, movi_enters place e), text)

module _ (place : Place) (on : Entry → Option (ℕ × ℕ) → Reading (Option Step)) (leads : RiffLeads place on) where
  abbrev Enters : Entry → List ℕ → Type 0
  Enters e text = (visit_riff place.names tt e >>= λ p. on e p.1) text ≡ header_read false (riff_entry place e) text

  lists_enter : (e : Entry) (text : List ℕ) (a b c : Bool) → nat_lt (length text) 4 ≡ a → is_name (take 4 text) (codes "movi") ≡ b → nat_lt (length (drop 4 text)) (padded e.size - 4) ≡ c → (e.size == 0) ≡ false → is_name e.name (codes "LIST") ≡ true → Enters e text
  unfolding visit_riff
  lists_enter e text true b c p q r some list = rw (list, p) refl
  lists_enter e text false true c p q r some list = rw (list, p, q, passed_none (drop 4 text)) (leads.some e (drop 4 text))
  lists_enter e text false false true p q r some list = rw (list, p, q, some, r) refl
  lists_enter e text false false false p q r some list = rw (list, p, q, some, r) (leads.none e (drop (padded e.size - 4) (drop 4 text)))

  others_enter : (e : Entry) (text : List ℕ) (a b : Bool) → is_frame place.names e.name ≡ a → nat_lt (length text) (padded e.size) ≡ b → is_name e.name (codes "LIST") ≡ false → Enters e text
  unfolding visit_riff
  others_enter e text true b p q list = rw (list, p) refl
  others_enter e text false true p q list = rw (list, p, q) refl
  others_enter e text false false p q list = rw (list, p, q) (leads.none e (drop (padded e.size) text))

  enters : (e : Entry) (text : List ℕ) (a : Bool) → is_name e.name (codes "LIST") ≡ a → (a ≡ true → (e.size == 0) ≡ false) → Enters e text
  enters e text true p some = lists_enter e text (nat_lt (length text) 4) (is_name (take 4 text) (codes "movi")) (nat_lt (length (drop 4 text)) (padded e.size - 4)) refl refl refl (some refl) p
  enters e text false p some = others_enter e text (is_frame place.names e.name) (nat_lt (length text) (padded e.size)) refl refl p

  -- a list with room for its own name has a size
  sized : (name : List ℕ) (size : ℕ) → (is_name name (codes "LIST") && nat_lt size 4) ≡ false → is_name name (codes "LIST") ≡ true → (size == 0) ≡ false
  sized name size both list =
      let small : nat_lt size 4 ≡ false = rw list at both in
      ne_eqb size 0 (λ z. omega (arith, z, ltb-false size 4 small))

  pub riff_headed : (k : Option Entry → Reading (Option Step)) → ((e : Entry) (text : List ℕ) → k (Some e) text ≡ (visit_riff place.names tt e >>= λ p. on e p.1) text) → (left : ℕ) (name : List ℕ) (size : ℕ) (text : List ℕ) →
      (entry_judged plain left name size >>= k) text ≡ header_read false (sized_header place left name size) text
  riff_headed k is left name size text = on_sizes (nat_lt left (8 + padded size)) (is_name name (codes "LIST") && nat_lt size 4) refl refl
    where
      e : Entry
      e = entry_of left name size

      on_sizes : (a b : Bool) → nat_lt left (8 + padded size) ≡ a → (is_name name (codes "LIST") && nat_lt size 4) ≡ b → (entry_judged plain left name size >>= k) text ≡ header_read false (sized_header place left name size) text
      on_sizes true b p q = rw p refl
      on_sizes false true p q = rw (p, q) refl
      on_sizes false false p q = rw (p, q) (is e text ∙ enters e text (is_name name (codes "LIST")) refl (λ list. sized name size q list))

-- a list without size
pub sizeless_headed : (place : Place) (left : ℕ) (name text : List ℕ) → (sizeless_judged left name >>= sizeless_in_riff place) text ≡ header_read false (sizeless_header place left) text
sizeless_headed place left name text = on_left (nat_lt left 12) (nat_lt (length text) 4) (is_name (take 4 text) (codes "movi")) refl refl refl
  where
    on_left : (a b c : Bool) → nat_lt left 12 ≡ a → nat_lt (length text) 4 ≡ b → is_name (take 4 text) (codes "movi") ≡ c → (sizeless_judged left name >>= sizeless_in_riff place) text ≡ header_read false (sizeless_header place left) text
    on_left true b c p q r = rw p refl
    on_left false true c p q r = rw (p, q) refl
    on_left false false true p q r =
        let same : left - 8 - 3 ≡ left - 11 = omega arith in
        rw (p, q, r, passed_none (drop 4 text), same) refl
    on_left false false false p q r = rw (p, q, r) refl

-- ---- an RIFF

-- its size and its form, behind one with a size
pub judged_came : (place : Place) (more text : List ℕ) → is_open place.open_in ≡ false → (riff_judged place more >>= no_frame) text ≡ came_read (riff_came place more) text
judged_came place more text closed = on_form (is_name (drop 4 more) (codes "AVIX")) (is_known (little_number 4 more)) (nat_le 4 (little_number 4 more)) (nat_lt (8 + little_number 4 more) place.input) (nat_lt 12 place.input) refl refl refl refl refl
  where
    on_form : (a b c d e : Bool) → is_name (drop 4 more) (codes "AVIX") ≡ a → is_known (little_number 4 more) ≡ b → nat_le 4 (little_number 4 more) ≡ c → nat_lt (8 + little_number 4 more) place.input ≡ d → nat_lt 12 place.input ≡ e →
        (riff_judged place more >>= no_frame) text ≡ came_read (riff_came place more) text
    on_form false b c d e p q r s t = rw p refl
    on_form true true true true e p q r s t = rw (p, closed, q, r, s, passed_none text) refl
    on_form true true true false e p q r s t = rw (p, closed, q, r, s) refl
    on_form true true false d e p q r s t = rw (p, closed, q, r) refl
    on_form true false c d true p q r s t = rw (p, closed, q, t, passed_none text) refl
    on_form true false c d false p q r s t = rw (p, closed, q, t) refl

-- and behind one without size
pub open_came_is : (place : Place) (more text : List ℕ) → is_open place.open_in ≡ true → open_judged place more text ≡ came_read (riff_came place more) text
open_came_is place more text opened = on_form (is_name (drop 4 more) (codes "AVIX")) (nat_lt 12 place.input) refl refl
  where
    on_form : (a b : Bool) → is_name (drop 4 more) (codes "AVIX") ≡ a → nat_lt 12 place.input ≡ b → open_judged place more text ≡ came_read (riff_came place more) text
    on_form false b p q = rw p refl
    on_form true true p q = rw (p, opened, q, passed_none text) refl
    on_form true false p q = rw (p, opened, q) refl
