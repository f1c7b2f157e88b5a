-- A chunk takes bytes, unless it is told before any is read.
use Rattle.std.proofs.Common.{◌≡◌, ◌⊎◌, ◌-◌, ◌<◌, ◌≤◌, ◌++◌, ◌==◌, ℕ, nat_lt, Bool, true, false, List, length, take, drop, codes, Option, Some, None, Result, Ok, Err, inl, inr, refl, arith}
use Rattle.std.specs.Prelude.{⊤}
use Rattle.std.proofs.lemmas.Bool.{ltb-false}
use Rattle.std.proofs.lemmas.List.{length-drop}
use Rattle.ffv1_reads.specs.Behind.{begins_file}
use Rattle.ffv1_reads.specs.Reads.{Stop}
use Rattle.ffv1_avi.specs.declared.came.Came.{Came}
use Rattle.ffv1_avi.specs.declared.came.Came.TheVariants as came
use Rattle.ffv1_avi.specs.declared.came.Header.{Header}
use Rattle.ffv1_avi.specs.declared.came.Header.TheVariants as header
use Rattle.ffv1_avi.specs.declared.course.Turn.{Turn}
use Rattle.ffv1_avi.specs.declared.course.Turn.TheVariants.{Frame, On, Told}
use Rattle.ffv1_avi.specs.declared.place.Place.{Place}
use Rattle.ffv1_avi.specs.Internal.Came.{came_turn, header_turn, own_came, riff_came}
use Rattle.ffv1_avi.specs.Internal.Hears.{begun_named_turn, begun_turn, entered_turn, further_turn, header_of, heard_turn, named_turn, open_named_turn, open_turn, sized_turn}
use Rattle.ffv1_avi.specs.Opens.{goes_on, taken_or_end}
use Rattle.ffv1_avi.specs.Places.{is_open}
use Rattle.ffv1_avi.specs.Walk.{is_name}

-- what a turn came to
abbrev pub Turned : Type 0
Turned = Result (Option Turn × List ℕ) Stop

-- no byte more is left; and fewer are, unless it is told
abbrev pub Within : List ℕ → Turned → Type 0
Within text (Ok p) = length p.1 ≤ length text
Within text (Err why) = ⊤

abbrev pub is_told : Turn → Bool
is_told (Frame count size place) = false
is_told (On count next place) = false
is_told (Told f count next place) = true

abbrev pub Less : List ℕ → Turned → Type 0
Less text (Ok (None, rest)) = ⊤
Less text (Ok (Some t, rest)) = (is_told t ≡ true) ⊎ (length rest < length text)
Less text (Err why) = ⊤

less_of : (text rest : List ℕ) (z : Turned) → length rest < length text → Within rest z → Less text z
less_of text rest (Ok (None, more)) fewer within = tt
less_of text rest (Ok (Some t, more)) fewer within = inr (omega (arith, fewer, within))
less_of text rest (Err why) fewer within = tt

within_of : (text rest : List ℕ) (z : Turned) → length rest ≤ length text → Within rest z → Within text z
within_of text rest (Ok p) fewer within = omega (arith, fewer, within)
within_of text rest (Err why) fewer within = tt

behind : (n : ℕ) (text : List ℕ) → length (drop n text) ≤ length text
behind n text = omega (arith, length-drop n text)

before : (n : ℕ) (text : List ℕ) → 0 < n → nat_lt (length text) n ≡ false → length (drop n text) < length text
before n text some long = omega (arith, some, ltb-false (length text) n long, length-drop n text)

came_within : (place : Place) (c : Came) (bytes text : List ℕ) → Within text (came_turn place c bytes text)
came_within place (came.Fault f) bytes text = omega arith
came_within place (came.Frame size next) bytes text = omega arith
came_within place (came.Pass count next) bytes text = on_test (nat_lt (length text) count) refl
  where
    on_test : (b : Bool) → nat_lt (length text) count ≡ b → Within text (came_turn place (came.Pass count next) bytes text)
    on_test true test = rw test tt
    on_test false test = rw test (behind count text)

header_within : (in_movi : Bool) (place : Place) (h : Header) (head text : List ℕ) → Within text (header_turn in_movi place h head text)
header_within in_movi place (header.Whole c) head text = came_within place c head text
header_within in_movi place (header.Named enters next size) head text = on_test (nat_lt (length text) 4) refl
  where
    own : List ℕ
    own = take 4 text

    on_test : (b : Bool) → nat_lt (length text) 4 ≡ b → Within text (header_turn in_movi place (header.Named enters next size) head text)
    on_test true test = rw test tt
    on_test false test = rw test (within_of text (drop 4 text) (came_turn place (own_came in_movi enters next size own) (head ++ own) (drop 4 text)) (behind 4 text) (came_within place (own_came in_movi enters next size own) (head ++ own) (drop 4 text)))

sized_less : (in_movi : Bool) (place : Place) (left : ℕ) (text : List ℕ) (a b : Bool) → nat_lt left 8 ≡ a → nat_lt (length text) 8 ≡ b → Less text (sized_turn in_movi place left text)
unfolding sized_turn
sized_less in_movi place left text true b p q = rw p (inl refl)
sized_less in_movi place left text false true p q = rw (p, q) tt
sized_less in_movi place left text false false p q =
    let head : List ℕ = take 8 text in
    let h = header_of in_movi place left head in
    rw (p, q) (less_of text (drop 8 text) (header_turn in_movi place h head (drop 8 text)) (before 8 text (omega arith) q) (header_within in_movi place h head (drop 8 text)))

named_within : (place : Place) (name text : List ℕ) (b : Bool) → nat_lt (length text) 4 ≡ b → Within text (named_turn place name text)
unfolding named_turn
named_within place name text true test = rw test tt
named_within place name text false test =
    let head : List ℕ = name ++ take 4 text in
    let in_movi = goes_on place.open_in name in
    let h = header_of in_movi place (place.input - 1) head in
    rw test (within_of text (drop 4 text) (header_turn in_movi place h head (drop 4 text)) (behind 4 text) (header_within in_movi place h head (drop 4 text)))

further_within : (place : Place) (name text : List ℕ) (b : Bool) → nat_lt (length text) 8 ≡ b → Within text (further_turn place name text)
unfolding further_turn
further_within place name text true test = rw test tt
further_within place name text false test =
    let more : List ℕ = take 8 text in
    rw test (within_of text (drop 8 text) (came_turn place (riff_came place more) (name ++ more) (drop 8 text)) (behind 8 text) (came_within place (riff_came place more) (name ++ more) (drop 8 text)))

open_within : (place : Place) (name text : List ℕ) (b : Bool) → is_name name (codes "RIFF") ≡ b → Within text (open_named_turn place name text)
open_within place name text true riff = rw riff (further_within place name text (nat_lt (length text) 8) refl)
open_within place name text false riff = rw riff (named_within place name text (nat_lt (length text) 4) refl)

open_less : (place : Place) (text : List ℕ) (a b c : Bool) → nat_lt (length text) 1 ≡ a → (place.owed == 0) ≡ b → nat_lt (length (drop 1 text)) 3 ≡ c → Less text (open_turn place text)
unfolding open_turn taken_or_end
open_less place text true true c p owed q = rw (p, owed) tt
open_less place text true false c p owed q = rw (p, owed) tt
open_less place text false b true p owed q = rw (p, q) tt
open_less place text false b false p owed q =
    let name : List ℕ = take 1 text ++ take 3 (drop 1 text) in
    let rest : List ℕ = drop 3 (drop 1 text) in
    let fewer : length rest < length text = omega (arith, before 1 text (omega arith) p, behind 3 (drop 1 text)) in
    rw (p, q) (less_of text rest (open_named_turn place name rest) fewer (open_within place name rest (is_name name (codes "RIFF")) refl))

entered_within : (place : Place) (name text : List ℕ) (a b : Bool) → nat_lt (length text) 8 ≡ a → (place.owed == 0) ≡ b → Within text (entered_turn place name text)
unfolding taken_or_end
entered_within place name text true true p owed = rw (p, owed) (omega arith)
entered_within place name text true false p owed = rw (p, owed) tt
entered_within place name text false b p owed =
    let more : List ℕ = take 8 text in
    rw p (within_of text (drop 8 text) (came_turn place (riff_came place more) (name ++ more) (drop 8 text)) (behind 8 text) (came_within place (riff_came place more) (name ++ more) (drop 8 text)))

begun_within : (place : Place) (name text : List ℕ) (a b c : Bool) → is_name name (codes "RIFF") ≡ a → begins_file name ≡ b → (place.owed == 0) ≡ c → Within text (begun_named_turn place name text)
begun_within place name text true b c riff file owed = rw riff (entered_within place name text (nat_lt (length text) 8) (place.owed == 0) refl refl)
begun_within place name text false true c riff file owed = rw (riff, file) (omega arith)
begun_within place name text false false true riff file owed = rw (riff, file, owed) (omega arith)
begun_within place name text false false false riff file owed = rw (riff, file, owed) (omega arith)

begun_less : (place : Place) (text : List ℕ) (a b : Bool) → nat_lt (length text) 4 ≡ a → (place.owed == 0) ≡ b → Less text (begun_turn place text)
unfolding begun_turn taken_or_end
begun_less place text true true p owed = rw (p, owed) tt
begun_less place text true false p owed = rw (p, owed) tt
begun_less place text false b p owed =
    let name : List ℕ = take 4 text in
    rw p (less_of text (drop 4 text) (begun_named_turn place name (drop 4 text)) (before 4 text (omega arith) p) (begun_within place name (drop 4 text) (is_name name (codes "RIFF")) (begins_file name) (place.owed == 0) refl refl refl))

pub heard_less : (place : Place) (text : List ℕ) (a b c d : Bool) → nat_lt 0 place.movi ≡ a → (place.input == 0) ≡ b → is_open place.open_in ≡ c → nat_lt 0 place.riff ≡ d → Less text (heard_turn place text)
unfolding heard_turn
heard_less place text true b c d movi input opened riff = rw movi (sized_less true place place.movi text (nat_lt place.movi 8) (nat_lt (length text) 8) refl refl)
heard_less place text false true c d movi input opened riff = rw (movi, input) tt
heard_less place text false false true d movi input opened riff = rw (movi, input, opened) (open_less place text (nat_lt (length text) 1) (place.owed == 0) (nat_lt (length (drop 1 text)) 3) refl refl refl)
heard_less place text false false false true movi input opened riff = rw (movi, input, opened, riff) (sized_less false place place.riff text (nat_lt place.riff 8) (nat_lt (length text) 8) refl refl)
heard_less place text false false false false movi input opened riff = rw (movi, input, opened, riff) (begun_less place text (nat_lt (length text) 4) (place.owed == 0) refl refl)
