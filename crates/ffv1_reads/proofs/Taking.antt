-- How many bytes a reading takes, by what it gives.
use Rattle.std.proofs.Common.{◌≡◌, ◌+◌, ℕ, List, Result, Ok, Err, Bool, true, false, if◌then◌else◌, nat_lt, length, take, drop, refl, Option, [], ◌++◌, ap, subst, arith}
use Rattle.std.proofs.lemmas.Bool.Decides.{nat_tests}
use Rattle.std.proofs.lemmas.List.{length-append}
use Rattle.std.proofs.lemmas.Grind.{common_steps}
use Rattle.ffv1_reads.specs.Reads.{Read, Reading, Stop, Want, given, passed, refused, wanted, ◌>>=◌}
use Rattle.ffv1_reads.specs.declared.fault.FileFault.{FileFault}
use Rattle.ffv1_reads.proofs.Results.{ok_is, read_on_ok}

-- whatever a reading gives has this property; and of so many bytes that there were it leaves as many
-- as that says
pub record Takes {X : Type 0} (P : X → Type 0) (before : ℕ) (after : X → ℕ) (reading : Reading X) : Type 0 where
  pub only : (text rest : List ℕ) (x : X) → reading text ≡ Ok (x, rest) → P x × (length text + after x ≡ length rest + before)

-- of any value
abbrev pub Any : {X : Type 0} → X → Type 0
Any x = Unit {0}

no_ok : {X : Type 0} (s : Stop) (p : X × List ℕ) → ◌≡◌ {A = Result (X × List ℕ) Stop} (Err s) (Ok p) → ⊥
no_ok s p e = absurd (cc)

pub takes_given : {X : Type 0} {P : X → Type 0} {before : ℕ} {after : X → ℕ} (x : X) → P x → after x ≡ before → Takes P before after (given x)
takes_given {X = X} {P = P} {before = before} {after = after} x is same = record { only = on_text }
  where
    on_text : (text rest : List ℕ) (y : X) → given x text ≡ Ok (y, rest) → P y × (length text + after y ≡ length rest + before)
    on_text text rest y h =
        let both = ok_is (x, text) (y, rest) h in
        let value : x ≡ y = ap (λ (z : X × List ℕ). z.0) both in
        let left : text ≡ rest = ap (λ (z : X × List ℕ). z.1) both in
        (subst P value is, rw (← value, ← left, same) refl)

pub takes_refused : {X : Type 0} {P : X → Type 0} {before : ℕ} {after : X → ℕ} (f : FileFault) → Takes P before after (refused {X = X} f)
takes_refused f = record { only = λ text rest y h. absurd (no_ok _ (y, rest) h) }

pub takes_then : {X Y : Type 0} {Q : X → Type 0} {P : Y → Type 0} {before : ℕ} {between : X → ℕ} {after : Y → ℕ} (r : Reading X) (k : X → Reading Y) → Takes Q before between r → ((x : X) → Q x → Takes P (between x) after (k x)) → Takes P before after (r >>= k)
takes_then {X = X} {Y = Y} {Q = Q} {P = P} {before = before} {between = between} {after = after} r k first next = record { only = λ text rest y h. on_first text rest y (read_on_ok (r text) k (y, rest) h) }
  where
    on_first : (text rest : List ℕ) (y : Y) → (p : X × List ℕ) × (r text ≡ Ok p) × (k p.0 p.1 ≡ Ok (y, rest)) → P y × (length text + after y ≡ length rest + before)
    on_first text rest y (p, one, two) =
        let a = first.only text p.1 p.0 one in
        let b = (next p.0 a.0).only p.1 rest y two in
        (b.0, omega (arith, a.1, b.1))

pub takes_if : {X : Type 0} {P : X → Type 0} {before : ℕ} {after : X → ℕ} (b : Bool) (r s : Reading X) → (b ≡ true → Takes P before after r) → (b ≡ false → Takes P before after s) → Takes P before after (if b then r else s)
takes_if true r s one two = one refl
takes_if false r s one two = two refl

pub takes_same : {X : Type 0} {P : X → Type 0} {after : X → ℕ} (a b : ℕ) (r : Reading X) → a ≡ b → Takes P a after r → Takes P b after r
takes_same {P = P} {after = after} a b r same h = subst (λ n. Takes P n after r) same h

-- so many bytes, of them and some more
pub takes_wanted : (w : Want) (n more : ℕ) → Takes (λ (bytes : List ℕ). length bytes ≡ n) (n + more) (λ _. more) (wanted w n)
takes_wanted w n more = record { only = λ text rest bytes h. on_length text rest bytes (nat_lt (length text) n) refl h }
  where
    on_length : (text rest bytes : List ℕ) (b : Bool) → nat_lt (length text) n ≡ b → wanted w n text ≡ Ok (bytes, rest) → (length bytes ≡ n) × (length text + more ≡ length rest + (n + more))
    on_length text rest bytes true short h = absurd (no_ok _ (bytes, rest) (rw short at h))
    on_length text rest bytes false enough h =
        let both = ok_is (take n text, drop n text) (bytes, rest) (rw enough at h) in
        let front : take n text ≡ bytes = ap (λ (z : List ℕ × List ℕ). z.0) both in
        let back : drop n text ≡ rest = ap (λ (z : List ℕ × List ℕ). z.1) both in
        rw (← front, ← back) (grind (arith, nat_tests, common_steps, enough), grind (arith, nat_tests, common_steps, enough))

pub takes_passed : (n more : ℕ) → Takes Any (n + more) (λ _. more) (passed n)
takes_passed n more = record { only = λ text rest u h. on_length text rest u (nat_lt (length text) n) refl h }
  where
    on_length : (text rest : List ℕ) (u : Unit {0}) (b : Bool) → nat_lt (length text) n ≡ b → passed n text ≡ Ok (u, rest) → Unit {0} × (length text + more ≡ length rest + (n + more))
    on_length text rest u true short h = absurd (no_ok _ (u, rest) (rw short at h))
    on_length text rest u false enough h =
        let both = ok_is (tt {0}, drop n text) (u, rest) (rw enough at h) in
        let back : drop n text ≡ rest = ap (λ (z : Unit {0} × List ℕ). z.1) both in
        (tt, rw (← back) (grind (arith, nat_tests, common_steps, enough)))

-- the bytes that were read are as many
pub takes_read : {X : Type 0} {P : X → Type 0} {before : ℕ} {after : X → ℕ} {reading : Reading X} {old new : Option (List ℕ)} {x : X} → Takes P before after reading → (read : Read reading old new x) → length read.bytes + after x ≡ before
takes_read {x = x} h read =
    let all = (h.only (read.bytes ++ []) [] x (read.is [])).1 in
    omega (arith, all, length-append read.bytes [])
