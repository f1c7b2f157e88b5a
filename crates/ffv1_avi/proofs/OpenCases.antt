-- What the next chunk of an RIFF or a movi without size may be.
use Rattle.std.proofs.Common.{◌≡◌, ◌⊎◌, inl, inr, ℕ, ◌+◌, ◌-◌, ◌≤◌, ◌<◌, ◌==◌, nat_lt, Bool, true, false, Option, Some, None, Ok, List, [], ◌∷◌, ◌++◌, length, drop, take, codes, if◌then◌else◌, ◌&&◌, ap, ◌∙◌, sym, subst, arith, refl, append_assoc, length-append}
use Rattle.std.proofs.lemmas.Bool.{eqb-false, eqb-true, ltb-true, ltb-false}
use Rattle.std.proofs.lemmas.List.{take-append-drop}
use Rattle.std.specs.Cmp.Lexicographic.{same_text}
use Rattle.byteorder.specs.Endian.{little_number}
use Rattle.ffv1_avi.specs.declared.chunk.Entry.{Entry}
use Rattle.ffv1_avi.specs.declared.place.Extent.TheVariants.{EveryRiff}
use Rattle.ffv1_avi.specs.declared.place.Open.TheVariants.{OpenRiff, OpenMovi}
use Rattle.ffv1_avi.specs.declared.place.Place.{Place}
use Rattle.ffv1_reads.specs.declared.fault.FileFault.{FileFault}
use Rattle.ffv1_reads.specs.declared.fault.FileFault.TheVariants as fault
use Rattle.ffv1_avi.specs.Padding.{padded}
use Rattle.ffv1_avi.specs.Names.{riff_rule, rule_of}
use Rattle.ffv1_avi.specs.Opens.{Step, further_riff, goes_on, movi_chunk, named_or_end, open_entry, open_found, open_framed, open_in_movi, open_in_riff, open_judged, open_named, open_passed, or_end, rest_named, riff_chunk, size_read, sizeless_in_riff, sizeless_opened, taken_or_end, visit_movi, visit_riff}
use Rattle.ffv1_avi.specs.Places.{open_at, open_frame_at}
use Rattle.ffv1_avi.specs.Walk.{Rule, entry_judged, entry_of, is_known, is_name, is_sizeless, plain, size_in, sizeless_judged, sizeless_or}
use Rattle.ffv1_reads.specs.Reads.{Reading, given, read_on, taken, ◌>>=◌}
use Rattle.ffv1_reads.proofs.Results.{ok_is, read_on_ok, some_is}
use Rattle.ffv1_reads.proofs.WantedBytes.{taken_complete, taken_sound}
use Rattle.ffv1_avi.proofs.ListWalks.{judged_none, never_sizeless, sizeless_is}
use Rattle.ffv1_avi.proofs.TakenBytes.{end_there, enough_there, none_taken, some_taken}

no_some : {X : Type 0} (x : X) → ◌≡◌ {A = Option X} (Some x) None → ⊥
no_some x e = absurd (cc)

-- a name, or the end of the input
abbrev pub NamedAs : ℕ → List ℕ → Option (List ℕ) → List ℕ → Type 0
NamedAs owes text None rest = (owes ≡ 0) × (text ≡ []) × (rest ≡ [])
NamedAs owes text (Some name) rest = (text ≡ name ++ rest) × (length name ≡ 4)

pub named_sound : (owes : ℕ) (text : List ℕ) (w : Option (List ℕ) × List ℕ) → named_or_end owes text ≡ Ok w → NamedAs owes text w.0 w.1
named_sound owes text w h =
    let first = read_on_ok (taken_or_end 1 owes text) rest_named w h in
    on_first first.0.0 first.0.1 first.1 first.2
  where
    P : Option (List ℕ) × List ℕ → Type 0
    P z = NamedAs owes text z.0 z.1

    none_long : (xs : List ℕ) → length xs < 1 → xs ≡ []
    none_long [] h = refl
    none_long (x ∷ xs) h = absurd (omega (arith, h))

    on_first : (o : Option (List ℕ)) (more : List ℕ) → taken_or_end 1 owes text ≡ Ok (o, more) → rest_named o more ≡ Ok w → P w
    on_first None more is k =
        let none = none_taken 1 owes text more is in
        subst P (ok_is (None, more) w k) (none.0, none_long text none.1, none.2)
    on_first (Some first) more is k =
        let one = some_taken 1 owes text first more is in
        let second = read_on_ok (taken 3 more) (λ m. given (Some (first ++ m))) w k in
        let three = taken_sound 3 more second.0 second.1 in
        let whole : text ≡ (first ++ second.0.0) ++ second.0.1 = one.0 ∙ ap (λ z. first ++ z) three.0 ∙ sym (append_assoc first second.0.0 second.0.1) in
        subst P (ok_is (Some (first ++ second.0.0), second.0.1) w second.2) (whole, omega (arith, length-append first second.0.0, one.1, three.1))

pub named_there : (owes : ℕ) (name rest : List ℕ) → length name ≡ 4 → named_or_end owes (name ++ rest) ≡ Ok (Some name, rest)
named_there owes [] rest four = absurd (omega (arith, four))
named_there owes (a ∷ more) rest four =
    ap (λ z. read_on z rest_named) (enough_there 1 owes (a ∷ []) (more ++ rest) refl)
    ∙ ap (λ z. read_on z (λ m. given (Some ((a ∷ []) ++ m)))) (taken_complete 3 more rest (omega (arith, four)))

pub named_none : named_or_end 0 [] ≡ Ok (None, [])
named_none = ap (λ z. read_on z rest_named) (end_there 1 0 [] refl (omega arith))

-- a size
pub size_sound : (text : List ℕ) (w : ℕ × List ℕ) → size_read text ≡ Ok w → (size : List ℕ) × (text ≡ size ++ w.1) × (length size ≡ 4) × (w.0 ≡ little_number 4 size)
unfolding size_read
size_sound text w h =
    let first = read_on_ok (taken 4 text) (λ size. given (little_number 4 size)) w h in
    let four = taken_sound 4 text first.0 first.1 in
    let both = ok_is (little_number 4 first.0.0, first.0.1) w first.2 in
    (first.0.0, four.0 ∙ ap (λ z. first.0.0 ++ z) (ap (λ (z : ℕ × List ℕ). z.1) both), four.1, sym (ap (λ (z : ℕ × List ℕ). z.0) both))

pub size_there : (size rest : List ℕ) → length size ≡ 4 → size_read (size ++ rest) ≡ Ok (little_number 4 size, rest)
unfolding size_read
size_there size rest four = ap (λ z. read_on z (λ size. given (little_number 4 size))) (taken_complete 4 size rest four)

-- a further RIFF
pub record IsFurther (place : Place) (text : List ℕ) (next : Place) (rest : List ℕ) : Type 0 where
  pub size : List ℕ
  pub text_is : text ≡ (codes "RIFF" ++ size ++ codes "AVIX") ++ rest
  pub sized : length size ≡ 4
  pub fits : 12 < place.input
  pub place_is : next ≡ open_at place OpenRiff (place.input - 12) 0

-- what a header is that was judged, where no list is without size
pub judged_as : (rule : Rule) (left n : ℕ) (name text rest : List ℕ) (e : Entry) → rule.sizeless ≡ false → entry_judged rule left name n text ≡ Ok (Some e, rest) → (entry_of left name (size_in rule name n) ≡ e) × (8 + padded n ≤ left) × (is_name name (codes "LIST") ≡ true → 4 ≤ n) × (text ≡ rest)
judged_as rule left n name text rest e never h = on_tests (nat_lt left (8 + padded n)) (is_name name (codes "LIST") && nat_lt n 4) (rule.bars name) refl refl refl h
  where
    As : Type 0
    As = (entry_of left name (size_in rule name n) ≡ e) × (8 + padded n ≤ left) × (is_name name (codes "LIST") ≡ true → 4 ≤ n) × (text ≡ rest)

    on_fault : (f : FileFault) → sizeless_or rule left name n f text ≡ Ok (Some e, rest) → As
    on_fault f k = absurd (cc (rw (never_sizeless rule name n never) at k))

    on_tests : (a b d : Bool) → nat_lt left (8 + padded n) ≡ a → (is_name name (codes "LIST") && nat_lt n 4) ≡ b → rule.bars name ≡ d → entry_judged rule left name n text ≡ Ok (Some e, rest) → As
    on_tests a b true p q t k = absurd (cc (rw t at k))
    on_tests true b false p q t k = on_fault fault.Truncated (rw (t, p) at k)
    on_tests false true false p q t k = on_fault fault.NotAvi (rw (t, p, q) at k)
    on_tests false false false p q t k =
        let made : Entry = entry_of left name (size_in rule name n) in
        let both = ok_is (Some made, text) (Some e, rest) (rw (t, p, q) at k) in
        (some_is made e (ap (λ (z : Option Entry × List ℕ). z.0) both), ltb-false _ _ p, λ l. ltb-false _ _ (rw l at q), ap (λ (z : Option Entry × List ℕ). z.1) both)

-- a chunk of movi
pub record IsOfMovi (place : Place) (text : List ℕ) (s : Step) (rest : List ℕ) : Type 0 where
  pub name : List ℕ
  pub size : List ℕ
  pub middle : List ℕ
  pub found : Option (ℕ × ℕ)
  pub text_is : text ≡ (name ++ size) ++ middle
  pub named : length name ≡ 4
  pub sized : length size ≡ 4
  pub goes : goes_on place.open_in name ≡ true
  pub no_riff : is_name name (codes "RIFF") ≡ false
  pub whole : 8 + padded (little_number 4 size) ≤ place.input - 1
  pub room : is_name name (codes "LIST") ≡ true → 4 ≤ little_number 4 size
  pub visit : visit_movi place.names tt (entry_of (place.input - 1) name (size_in (rule_of place.names) name (little_number 4 size))) middle ≡ Ok ((tt, found), rest)
  pub step : open_framed place (place.input - 1 - (8 + padded (size_in (rule_of place.names) name (little_number 4 size)))) found rest ≡ Ok (Some s, rest)

-- a chunk of RIFF
pub record IsOfRiff (place : Place) (text : List ℕ) (next : Place) (rest : List ℕ) : Type 0 where
  pub name : List ℕ
  pub size : List ℕ
  pub middle : List ℕ
  pub found : Option (ℕ × ℕ)
  pub text_is : text ≡ (name ++ size) ++ middle
  pub named : length name ≡ 4
  pub sized : length size ≡ 4
  pub stays : goes_on place.open_in name ≡ false
  pub no_riff : is_name name (codes "RIFF") ≡ false
  pub known : is_sizeless (riff_rule EveryRiff) name (little_number 4 size) ≡ false
  pub whole : 8 + padded (little_number 4 size) ≤ place.input - 1
  pub room : is_name name (codes "LIST") ≡ true → 4 ≤ little_number 4 size
  pub visit : visit_riff place.names tt (entry_of (place.input - 1) name (little_number 4 size)) middle ≡ Ok ((tt, found), rest)
  pub place_is : next ≡ open_passed place (place.input - 1 - (8 + padded (little_number 4 size))) found

-- a movi without size
pub record IsBare (place : Place) (text : List ℕ) (next : Place) (rest : List ℕ) : Type 0 where
  pub size : List ℕ
  pub text_is : text ≡ (codes "LIST" ++ size ++ codes "movi") ++ rest
  pub sized : length size ≡ 4
  pub stays : goes_on place.open_in (codes "LIST") ≡ false
  pub unknown : is_known (little_number 4 size) ≡ false
  pub fits : 12 < place.input
  pub place_is : next ≡ open_at place OpenMovi (place.input - 12) 0

abbrev pub IsAhead : Place → List ℕ → Place → List ℕ → Type 0
IsAhead place text next rest = IsFurther place text next rest ⊎ (IsOfRiff place text next rest ⊎ IsBare place text next rest)

abbrev pub IsStep : Place → List ℕ → Step → List ℕ → Type 0
IsStep place text s rest = IsOfMovi place text s rest ⊎ ((s.0 ≡ None) × IsAhead place text s.1 rest)

-- or the end
abbrev pub OpenCase : Place → List ℕ → Option Step → List ℕ → Type 0
OpenCase place text None rest = (place.input ≡ 0) × (text ≡ rest) ⊎ ((place.input ≡ 0 → ⊥) × (place.owed ≡ 0) × (text ≡ []) × (rest ≡ []))
OpenCase place text (Some s) rest = (place.input ≡ 0 → ⊥) × IsStep place text s rest

module _ (place : Place) (text : List ℕ) (w : Option Step × List ℕ) (some : place.input ≡ 0 → ⊥) where
  abbrev P : Option Step × List ℕ → Type 0
  P z = OpenCase place text z.0 z.1

  -- an RIFF that was read
  further : (more : List ℕ) → text ≡ codes "RIFF" ++ more → further_riff place more ≡ Ok w → P w
  further more whole h =
      let first = read_on_ok (taken 8 more) (open_judged place) w h in
      let eight = taken_sound 8 more first.0 first.1 in
      on_form first.0.0 first.0.1 (is_name (drop 4 first.0.0) (codes "AVIX")) (nat_lt 12 place.input) refl refl eight.0 eight.1 first.2
    where
      on_form : (bytes rest : List ℕ) (a b : Bool) → is_name (drop 4 bytes) (codes "AVIX") ≡ a → nat_lt 12 place.input ≡ b → more ≡ bytes ++ rest → length bytes ≡ 8 → open_judged place bytes rest ≡ Ok w → P w
      on_form bytes rest false b p q there long k = absurd (cc (rw p at k))
      on_form bytes rest true false p q there long k = absurd (cc (rw (p, q) at k))
      on_form bytes rest true true p q there long k =
          let size = take_four bytes in
          let form : drop 4 bytes ≡ codes "AVIX" = same_text (drop 4 bytes) (codes "AVIX") (sym p) in
          let apart : bytes ≡ size.0 ++ codes "AVIX" = size.1 ∙ ap (λ z. size.0 ++ z) form in
          let here : text ≡ (codes "RIFF" ++ size.0 ++ codes "AVIX") ++ rest = whole ∙ ap (λ z. codes "RIFF" ++ z) (there ∙ ap (λ z. z ++ rest) apart) ∙ regrouped (codes "RIFF") size.0 (codes "AVIX") rest in
          let four : length size.0 ≡ 4 = omega (arith, long, ap length apart, length-append size.0 (codes "AVIX"), spelled) in
          let next = open_at place OpenRiff (place.input - 12) 0 in
          let is : IsFurther place text next rest = record { size = size.0; text_is = here; sized = four; fits = ltb-true _ _ q; place_is = refl } in
          let s : Step = (None, next) in
          subst P (ok_is (Some s, rest) w (rw (p, q) at k)) (some, inr (refl, inl is))
        where
          take_four : (xs : List ℕ) → (size : List ℕ) × (xs ≡ size ++ drop 4 xs)
          take_four xs = (take 4 xs, sym (take-append-drop 4 xs))

          spelled : length (codes "AVIX") ≡ 4
          spelled = refl

          regrouped : (a b c d : List ℕ) → a ++ ((b ++ c) ++ d) ≡ ((a ++ b) ++ c) ++ d
          regrouped a b c d = simp append_assoc

  -- a chunk of movi
  of_movi : (name more : List ℕ) → text ≡ name ++ more → length name ≡ 4 → is_name name (codes "RIFF") ≡ false → goes_on place.open_in name ≡ true → movi_chunk place name more ≡ Ok w → P w
  of_movi name more whole four no_riff goes h =
      let rule = rule_of place.names in
      let left = place.input - 1 in
      let first = read_on_ok (size_read more) (λ size. (open_entry rule place name size >>= open_in_movi place)) w h in
      let said = size_sound more first.0 first.1 in
      let second = read_on_ok (entry_judged rule left name first.0.0 first.0.1) (open_in_movi place) w first.2 in
      on_entry said.0 first.0.1 said.1 said.2 second.0.0 second.0.1 (ap (λ n. entry_judged rule left name n first.0.1) (sym said.3) ∙ second.1) second.2
    where
      rule : Rule
      rule = rule_of place.names

      left : ℕ
      left = place.input - 1

      made : List ℕ → Entry
      made size = entry_of left name (size_in rule name (little_number 4 size))

      on_visit : (size middle : List ℕ) → more ≡ size ++ middle → length size ≡ 4 → 8 + padded (little_number 4 size) ≤ left → (is_name name (codes "LIST") ≡ true → 4 ≤ little_number 4 size) →
          (o : Option (ℕ × ℕ)) (rest : List ℕ) → visit_movi place.names tt (made size) middle ≡ Ok ((tt, o), rest) → open_framed place (made size).left o rest ≡ Ok w → P w
      on_visit size middle there sized fits room None rest is k =
          let s : Step = (None, open_at place OpenMovi ((made size).left + 1) 0) in
          let found : IsOfMovi place text s rest = record { name = name; size = size; middle = middle; found = None; text_is = whole ∙ ap (λ z. name ++ z) there ∙ sym (append_assoc name size middle); named = four; sized = sized; goes = goes; no_riff = no_riff; whole = fits; room = room; visit = is; step = refl } in
          subst P (ok_is (Some s, rest) w k) (some, inl found)
      on_visit size middle there sized fits room (Some y) rest is k =
          let s : Step = (Some y.0, open_frame_at place (y.1 + 1)) in
          let found : IsOfMovi place text s rest = record { name = name; size = size; middle = middle; found = Some y; text_is = whole ∙ ap (λ z. name ++ z) there ∙ sym (append_assoc name size middle); named = four; sized = sized; goes = goes; no_riff = no_riff; whole = fits; room = room; visit = is; step = refl } in
          subst P (ok_is (Some s, rest) w k) (some, inl found)

      on_entry : (size middle : List ℕ) → more ≡ size ++ middle → length size ≡ 4 → (o : Option Entry) (behind : List ℕ) → entry_judged rule left name (little_number 4 size) middle ≡ Ok (o, behind) → open_in_movi place o behind ≡ Ok w → P w
      on_entry size middle there sized None behind is k = absurd (judged_none rule left (little_number 4 size) name middle behind is)
      on_entry size middle there sized (Some e) behind is k =
          let told = judged_as rule left (little_number 4 size) name middle behind e refl is in
          let Q : Entry → Type 0 = λ z. open_in_movi place (Some z) behind ≡ Ok w in
          let R : List ℕ → Type 0 = λ z. open_in_movi place (Some (made size)) z ≡ Ok w in
          let here : open_in_movi place (Some (made size)) middle ≡ Ok w = subst R (sym told.3) (subst Q (sym told.0) k) in
          let third = read_on_ok (visit_movi place.names tt (made size) middle) (λ p. open_framed place (made size).left p.1) w here in
          on_visit size middle there sized told.1 told.2 third.0.0.1 third.0.1 third.1 third.2

  -- a chunk of RIFF
  of_riff : (name more : List ℕ) → text ≡ name ++ more → length name ≡ 4 → is_name name (codes "RIFF") ≡ false → goes_on place.open_in name ≡ false → riff_chunk place name more ≡ Ok w → P w
  of_riff name more whole four no_riff stays h =
      let first = read_on_ok (size_read more) sized_chunk w h in
      let said = size_sound more first.0 first.1 in
      on_size said.0 first.0.1 said.1 said.2 (is_sizeless (riff_rule EveryRiff) name (little_number 4 said.0)) refl (ap (λ n. sized_chunk n first.0.1) (sym said.3) ∙ first.2)
    where
      left : ℕ
      left = place.input - 1

      sized_chunk : ℕ → Reading (Option Step)
      sized_chunk size =
          if is_sizeless (riff_rule EveryRiff) name size
          then (sizeless_judged left name >>= sizeless_in_riff place)
          else (open_entry plain place name size >>= open_in_riff place)

      made : List ℕ → Entry
      made size = entry_of left name (little_number 4 size)

      on_visit : (size middle : List ℕ) → more ≡ size ++ middle → length size ≡ 4 → is_sizeless (riff_rule EveryRiff) name (little_number 4 size) ≡ false → 8 + padded (little_number 4 size) ≤ left → (is_name name (codes "LIST") ≡ true → 4 ≤ little_number 4 size) →
          (o : Option (ℕ × ℕ)) (rest : List ℕ) → visit_riff place.names tt (made size) middle ≡ Ok ((tt, o), rest) → given (Some (None, open_passed place (made size).left o)) rest ≡ Ok w → P w
      on_visit size middle there sized known fits room o rest is k =
          let next = open_passed place (made size).left o in
          let s : Step = (None, next) in
          let found : IsOfRiff place text next rest = record { name = name; size = size; middle = middle; found = o; text_is = whole ∙ ap (λ z. name ++ z) there ∙ sym (append_assoc name size middle); named = four; sized = sized; stays = stays; no_riff = no_riff; known = known; whole = fits; room = room; visit = is; place_is = refl } in
          subst P (ok_is (Some s, rest) w k) (some, inr (refl, inr (inl found)))

      on_entry : (size middle : List ℕ) → more ≡ size ++ middle → length size ≡ 4 → is_sizeless (riff_rule EveryRiff) name (little_number 4 size) ≡ false → (o : Option Entry) (behind : List ℕ) → entry_judged plain left name (little_number 4 size) middle ≡ Ok (o, behind) → open_in_riff place o behind ≡ Ok w → P w
      on_entry size middle there sized known None behind is k = absurd (judged_none plain left (little_number 4 size) name middle behind is)
      on_entry size middle there sized known (Some e) behind is k =
          let told = judged_as plain left (little_number 4 size) name middle behind e refl is in
          let Q : Entry → Type 0 = λ z. open_in_riff place (Some z) behind ≡ Ok w in
          let R : List ℕ → Type 0 = λ z. open_in_riff place (Some (made size)) z ≡ Ok w in
          let here : open_in_riff place (Some (made size)) middle ≡ Ok w = subst R (sym told.3) (subst Q (sym told.0) k) in
          let third = read_on_ok (visit_riff place.names tt (made size) middle) (λ p. given (Some (None, open_passed place (made size).left p.1))) w here in
          on_visit size middle there sized known told.1 told.2 third.0.0.1 third.0.1 third.1 third.2

      on_own : (size middle own rest : List ℕ) → more ≡ size ++ middle → length size ≡ 4 → name ≡ codes "LIST" → is_known (little_number 4 size) ≡ false → 12 ≤ left → middle ≡ own ++ rest → (b : Bool) → is_name own (codes "movi") ≡ b → sizeless_opened place (left - 8) own rest ≡ Ok w → P w
      on_own size middle own rest there sized list unknown fits own_is false p k = absurd (cc (rw p at k))
      on_own size middle own rest there sized list unknown fits own_is true p k =
          let next = open_at place OpenMovi (left - 8 - 3) 0 in
          let s : Step = (None, next) in
          let named : own ≡ codes "movi" = same_text own (codes "movi") (sym p) in
          let here : text ≡ (codes "LIST" ++ size ++ codes "movi") ++ rest =
          whole ∙ ap (λ z. z ++ more) list ∙ ap (λ z. codes "LIST" ++ z) (there ∙ ap (λ z. size ++ z) (own_is ∙ ap (λ z. z ++ rest) named)) ∙ regrouped (codes "LIST") size (codes "movi") rest in
          let Q : List ℕ → Type 0 = λ z. goes_on place.open_in z ≡ false in
          let less : left - 8 - 3 ≡ place.input - 12 = omega arith in
          let found : IsBare place text next rest = record { size = size; text_is = here; sized = sized; stays = subst Q list stays; unknown = unknown; fits = omega (arith, fits); place_is = ap (λ n. open_at place OpenMovi n 0) less } in
          subst P (ok_is (Some s, rest) w (rw p at k)) (some, inr (refl, inr (inr found)))
        where
          regrouped : (a b c d : List ℕ) → a ++ (b ++ (c ++ d)) ≡ ((a ++ b) ++ c) ++ d
          regrouped a b c d = simp append_assoc

      on_sizeless : (size middle : List ℕ) → more ≡ size ++ middle → length size ≡ 4 → name ≡ codes "LIST" → is_known (little_number 4 size) ≡ false → (b : Bool) → nat_lt left 12 ≡ b → (sizeless_judged left name >>= sizeless_in_riff place) middle ≡ Ok w → P w
      on_sizeless size middle there sized list unknown true p k = absurd (cc (rw p at k))
      on_sizeless size middle there sized list unknown false p k =
          let first = read_on_ok (taken 4 middle) (sizeless_opened place (left - 8)) w (rw p at k) in
          let own = taken_sound 4 middle first.0 first.1 in
          on_own size middle first.0.0 first.0.1 there sized list unknown (ltb-false _ _ p) own.0 (is_name first.0.0 (codes "movi")) refl first.2

      on_size : (size middle : List ℕ) → more ≡ size ++ middle → length size ≡ 4 → (b : Bool) → is_sizeless (riff_rule EveryRiff) name (little_number 4 size) ≡ b → sized_chunk (little_number 4 size) middle ≡ Ok w → P w
      on_size size middle there sized false is k =
          let second = read_on_ok (entry_judged plain left name (little_number 4 size) middle) (open_in_riff place) w (rw is at k) in
          on_entry size middle there sized is second.0.0 second.0.1 second.1 second.2
      on_size size middle there sized true is k =
          let parts = sizeless_is (riff_rule EveryRiff) name (little_number 4 size) is in
          on_sizeless size middle there sized (same_text name (codes "LIST") (sym parts.1)) parts.2 (nat_lt left 12) refl (rw is at k)

  of_name : (name more : List ℕ) (a b : Bool) → is_name name (codes "RIFF") ≡ a → goes_on place.open_in name ≡ b → text ≡ name ++ more → length name ≡ 4 → open_named place name more ≡ Ok w → P w
  unfolding open_named
  of_name name more true b p q whole four h = further more (whole ∙ ap (λ z. z ++ more) (same_text name (codes "RIFF") (sym p))) (rw p at h)
  of_name name more false true p q whole four h = of_movi name more whole four p q (rw (p, q) at h)
  of_name name more false false p q whole four h = of_riff name more whole four p q (rw (p, q) at h)

  of_named : (o : Option (List ℕ)) (more : List ℕ) → NamedAs place.owed text o more → or_end (open_named place) o more ≡ Ok w → P w
  of_named None more named h = subst P (ok_is (None, more) w h) (inr (some, named.0, named.1, named.2))
  of_named (Some name) more named h = of_name name more (is_name name (codes "RIFF")) (goes_on place.open_in name) refl refl named.0 named.1 h

pub open_case : (place : Place) (text : List ℕ) (w : Option Step × List ℕ) → open_found place text ≡ Ok w → OpenCase place text w.0 w.1
unfolding open_found
open_case place text w h = on_input (place.input == 0) refl h
  where
    on_input : (b : Bool) → (place.input == 0) ≡ b → open_found place text ≡ Ok w → OpenCase place text w.0 w.1
    on_input true is k =
        let Q : Option Step × List ℕ → Type 0 = λ z. OpenCase place text z.0 z.1 in
        subst Q (ok_is (None, text) w (rw is at k)) (inl (eqb-true place.input 0 is, refl))
    on_input false is k =
        let first = read_on_ok (named_or_end place.owed text) (or_end (open_named place)) w (rw is at k) in
        of_named place text w (eqb-false place.input 0 is) first.0.0 first.0.1 (named_sound place.owed text first.0 first.1) first.2
