-- Whether a name ends so, in letters of either case.
use Rattle.std.proofs.Common.{◌≡◌, ◌-◌, ◌↔◌, IsTrue, Bool, true, false, List, ℕ, drop, take, length, length-drop, map, sym, refl, arith}
use Rattle.std.specs.Char.{to_ascii_lowercase}
use Rattle.std.specs.Str.{bytes_eq}
use Rattle.std.proofs.lemmas.Bool.{false≢true}
use Rattle.std.proofs.lemmas.List.{take_all}
use Rattle.std.proofs.lemmas.Slice.Eq.{bytes_eq-Decides}
use Rattle.ffv1_words.specs.Order.{has_ending}
use Rattle.ffv1_words.proofs.order.has_ending.Goals as goal

-- a test of texts is their comparison
compared : (r : Bool) (xs ys : List ℕ) → (IsTrue r ↔ (xs ≡ ys)) → r ≡ bytes_eq xs ys
compared true xs ys h = sym ((bytes_eq-Decides xs ys).1 (h.0 refl))
compared false xs ys h = go (bytes_eq xs ys) refl
  where
    go : (b : Bool) → bytes_eq xs ys ≡ b → false ≡ bytes_eq xs ys
    go true is = absurd (false≢true (h.1 ((bytes_eq-Decides xs ys).0 is)))
    go false is = sym is

ends : (r : Bool) (n : ℕ) (p e path end : List ℕ) → p ≡ path → e ≡ end →
    n ≡ length path - length end →
    (IsTrue r ↔ (map to_ascii_lowercase (take (length p - n) (drop n p))
    ≡ map to_ascii_lowercase e)) → r ≡ has_ending path end
ends r n p e path end p_is e_is n_is h =
    let from = length path - length end in
    let rest = take_all (length path - from) (drop from path) (omega (arith, length-drop from path)) in
    compared r _ _ (rw (p_is, e_is, n_is, rest) at h)

pub returns : goal.returns
returns c =
    ends _ _ _ _ _ _ c.as_bytes.ensures.value c.as_bytes-2.ensures.value
    c.saturating_sub-from.ensures c.eq_ignore_ascii_case.ensures.test
