-- The last line of the last plane is the last that a slice codes, and no other one is.
use Rattle.std.proofs.Common.{◌≡◌, refl, ℕ, zero, suc, ◌+◌, ◌-◌, ◌<◌, Bool, true, false, if◌then◌else◌, List, [], ◌∷◌, ◌++◌, map, length, ap, sym, subst, ◌∙◌, arith, append-nil, append_assoc, length-append}
use Rattle.std.specs.List.{flat_map, range_with_len}
use Rattle.std.proofs.lemmas.List.FromFn.{map-range_with_len_more}
use Rattle.ffv1_record.specs.Configuration.{Configuration, is_rct}
use Rattle.ffv1_slice.specs.Grid.{planes_in}
use Rattle.ffv1_frame.specs.Picture.{plane_count}
use Rattle.ffv1_frame.specs.SliceList.{Line, lines_of_plane, planes_of_line}
use Rattle.ffv1_frame.specs.Order.{IsLastLine, lines_down}
use Rattle.ffv1_frame.proofs.lemmas.laws.decoding.Machines.{Each, each_append, each_range, each_map_range}
use Rattle.ffv1_frame.proofs.lemmas.laws.decoding.LinesRead.{row_lines}

-- a list of lines ends in the last one, and in no other
pub record HasLastOf (c : Configuration) (r : ℕ) (ls : List Line) : Type 0 where
  pub front : List Line
  pub last : Line
  pub parts : ls ≡ front ++ (last ∷ [])
  pub is : IsLastLine c r last.plane last.y
  pub before : Each (λ (l : Line). IsLastLine c r l.plane l.y → ⊥) front

abbrev pub HasLast : Configuration → ℕ → Type 0
HasLast c r = HasLastOf c r (row_lines c r)

flat_more : (f : ℕ → List Line) (from n : ℕ) → flat_map f (range_with_len from (suc n)) ≡ flat_map f (range_with_len from n) ++ f (from + n)
flat_more f from zero = append-nil (f from) ∙ ap f (let here : from ≡ from + 0 = omega arith in here)
flat_more f from (suc n) =
    ap (λ ls. f from ++ ls) (flat_more f (from + 1) n)
    ∙ sym (append_assoc (f from) (flat_map f (range_with_len (from + 1) n)) (f (from + 1 + n)))
    ∙ ap (λ k. (f from ++ flat_map f (range_with_len (from + 1) n)) ++ f k) (let next : from + 1 + n ≡ from + suc n = omega arith in next)

-- lines in groups, of which the last has one at least
nested : (line : ℕ → ℕ → Line) (many : ℕ → ℕ) (m h : ℕ) → many m ≡ h + 1 →
    flat_map (λ i. map (line i) (range_with_len 0 (many i))) (range_with_len 0 (suc m))
    ≡ (flat_map (λ i. map (line i) (range_with_len 0 (many i))) (range_with_len 0 m) ++ map (line m) (range_with_len 0 h)) ++ (line m h ∷ [])
nested line many m h is =
    let groups : ℕ → List Line = λ i. map (line i) (range_with_len 0 (many i)) in
    flat_more groups 0 m
    ∙ ap (λ i. flat_map groups (range_with_len 0 m) ++ groups i) (let here : 0 + m ≡ m = omega arith in here)
    ∙ ap (λ n. flat_map groups (range_with_len 0 m) ++ map (line m) (range_with_len 0 n)) is
    ∙ ap (λ ls. flat_map groups (range_with_len 0 m) ++ ls) (map-range_with_len_more (line m) 0 h h (let here : 0 + h ≡ h = omega arith in here))
    ∙ sym (append_assoc (flat_map groups (range_with_len 0 m)) (map (line m) (range_with_len 0 h)) (line m h ∷ []))

last_by : (c : Configuration) (r m : ℕ) (rct : Bool) → is_rct c.colour ≡ rct → (is_rct c.colour ≡ true → (p : ℕ) → lines_down c p r ≡ lines_down c 0 r) →
    plane_count c ≡ suc m → 0 < lines_down c m r →
    HasLastOf c r (if rct then flat_map (planes_of_line (plane_count c)) (range_with_len 0 (lines_down c 0 r)) else flat_map (λ p. lines_of_plane (lines_down c p r) p) (range_with_len 0 (plane_count c)))
last_by c r m true e same count high =
    let h = lines_down c 0 r - 1 in
    let line : ℕ → ℕ → Line = λ y p. record { plane = p; y = y } in
    let high_is : lines_down c 0 r ≡ suc h = (let alike = same e m in omega (arith, alike, high)) in
    record {
      front = flat_map (planes_of_line (plane_count c)) (range_with_len 0 h) ++ map (line h) (range_with_len 0 m);
      last = line h m;
      parts =
          ap (λ n. flat_map (planes_of_line (plane_count c)) (range_with_len 0 n)) high_is
          ∙ nested line (λ y. plane_count c) h m (omega (arith, count));
      is = record { plane = omega (arith, count); line = let alike = same e m in omega (arith, alike, high_is) };
      before =
          each_append (λ (l : Line). IsLastLine c r l.plane l.y → ⊥) (flat_map (planes_of_line (plane_count c)) (range_with_len 0 h)) (map (line h) (range_with_len 0 m))
          (each_range (λ (l : Line). IsLastLine c r l.plane l.y → ⊥) (planes_of_line (plane_count c)) 0 h
          (λ y least most. each_map_range (λ (l : Line). IsLastLine c r l.plane l.y → ⊥) (line y) 0 (plane_count c)
          (λ p from below last. let here = last.line in let alike = same e p in absurd (omega (arith, here, alike, high_is, most)))))
          (each_map_range (λ (l : Line). IsLastLine c r l.plane l.y → ⊥) (line h) 0 m (λ p from below last. let here = last.plane in absurd (omega (arith, here, count, below))));
    }
last_by c r m false e same count high =
    let h = lines_down c m r - 1 in
    let line : ℕ → ℕ → Line = λ p y. record { plane = p; y = y } in
    let groups : ℕ → List Line = λ p. lines_of_plane (lines_down c p r) p in
    let high_is : lines_down c m r ≡ h + 1 = omega (arith, high) in
    record {
      front = flat_map groups (range_with_len 0 m) ++ map (line m) (range_with_len 0 h);
      last = line m h;
      parts =
          ap (λ n. flat_map groups (range_with_len 0 n)) count
          ∙ nested line (λ p. lines_down c p r) m h high_is;
      is = record { plane = omega (arith, count); line = sym high_is };
      before =
          each_append (λ (l : Line). IsLastLine c r l.plane l.y → ⊥) (flat_map groups (range_with_len 0 m)) (map (line m) (range_with_len 0 h))
          (each_range (λ (l : Line). IsLastLine c r l.plane l.y → ⊥) groups 0 m
          (λ p least most. each_map_range (λ (l : Line). IsLastLine c r l.plane l.y → ⊥) (line p) 0 (lines_down c p r)
          (λ y from below last. let here = last.plane in absurd (omega (arith, here, count, most)))))
          (each_map_range (λ (l : Line). IsLastLine c r l.plane l.y → ⊥) (line m) 0 h (λ y from below last. let here = last.line in absurd (omega (arith, here, high_is, below))));
    }

planes_are : (chroma transparent : Bool) → 0 < planes_in chroma transparent
planes_are chroma true = omega arith
planes_are true false = omega arith
planes_are false false = omega arith

pub planes_some : (c : Configuration) → 0 < plane_count c
planes_some c = planes_are c.chroma_planes c.extra_plane

pub has_last : (c : Configuration) (r : ℕ) → (is_rct c.colour ≡ true → (p : ℕ) → lines_down c p r ≡ lines_down c 0 r) → 0 < plane_count c → ((p : ℕ) → 0 < lines_down c p r) → HasLast c r
has_last c r same some high =
    let m = plane_count c - 1 in
    last_by c r m (is_rct c.colour) refl same (omega (arith, some)) (high m)

-- after the last line nothing is to be read
nothing_after : (P : Line → Type 0) (front before : List Line) (last l : Line) (more : List Line) → Each (λ (x : Line). P x → ⊥) front → P l →
    front ++ (last ∷ []) ≡ before ++ (l ∷ more) → more ≡ []
nothing_after P [] [] last l more are is same = cc
nothing_after P [] (b ∷ before) last l more are is same =
    let long = ap (λ (xs : List Line). length xs) same in
    let sum = length-append before (l ∷ more) in
    absurd (omega (arith, long, sum))
nothing_after P (x ∷ front) [] last l more are is same =
    let here : l ≡ x = cc in
    absurd (are.0 (subst P here is))
nothing_after P (x ∷ front) (b ∷ before) last l more are is same =
    let rest : front ++ (last ∷ []) ≡ before ++ (l ∷ more) = cc in
    nothing_after P front before last l more are.1 is rest

pub last_ends : (c : Configuration) (r : ℕ) (before : List Line) (l : Line) (more : List Line) → HasLast c r → row_lines c r ≡ before ++ (l ∷ more) → IsLastLine c r l.plane l.y → more ≡ []
last_ends c r before l more has parts is =
    nothing_after (λ (x : Line). IsLastLine c r x.plane x.y) has.front before has.last l more has.before is (sym has.parts ∙ parts)

-- lists that end alike
pub same_last : (xs ys : List Line) (x y : Line) → xs ++ (x ∷ []) ≡ ys ++ (y ∷ []) → x ≡ y
same_last [] [] x y same = cc
same_last [] (b ∷ ys) x y same =
    let long = ap (λ (zs : List Line). length zs) same in
    let sum = length-append ys (y ∷ []) in
    absurd (omega (arith, long, sum))
same_last (a ∷ xs) [] x y same =
    let long = ap (λ (zs : List Line). length zs) same in
    let sum = length-append xs (x ∷ []) in
    absurd (omega (arith, long, sum))
same_last (a ∷ xs) (b ∷ ys) x y same =
    let rest : xs ++ (x ∷ []) ≡ ys ++ (y ∷ []) = cc in
    same_last xs ys x y rest
