-- An argument among others, by tests that compute: no two have one id, and a use that passes gives a
-- value.
use Rattle.std.proofs.Common.{◌≡◌, ◌∙◌, ◌<◌, ◌&&◌, ◌||◌, ◌⊎◌, not, inl, inr, subst, refl, sym, List, [], ◌∷◌, None, Bool, true, false, length, nat_lt, true≢false}
use Rattle.std.specs.List.{list_all, list_any}
use Rattle.std.specs.Str.{bytes_eq}
use Rattle.std.proofs.lemmas.Bool.{ltb-true}
use Rattle.std.proofs.lemmas.Slice.Eq.{bytes_eq-Decides}
use Rattle.clap.specs.Facts.{unwrap_or_range}
use Rattle.clap.specs.Walk.{Rule, Text, action_of, first_of, nothing_held, rows_after}
use Rattle.clap.specs.declared.builder.action.ArgAction.{ArgAction}
use Rattle.clap.specs.declared.builder.action.ArgAction.TheVariants.{Set, SetTrue, Help, Append}
use Rattle.clap.specs.Simple.{Shape}
use Rattle.clap.specs.Takes.{level_passes}
use Rattle.ffv1_words.proofs.TakenRows.{Each, HasValue, IsExpected, IsIn, Usual, both, either, level_optional, level_value}

-- no two have one id
abbrev has_distinct_ids : List Rule → Bool
has_distinct_ids [] = true
has_distinct_ids (b ∷ bs) = not (list_any (λ x. bytes_eq x.id b.id) bs) && has_distinct_ids bs

-- a use that passes gives a value, or asks for help
abbrev gives_value : ArgAction → Rule → Bool
gives_value Set b = nat_lt 0 (unwrap_or_range b.range).start_inclusive
gives_value SetTrue b = nat_lt 0 (length b.missing)
gives_value Help b = true
gives_value Append b = nat_lt 0 (unwrap_or_range b.range).start_inclusive
gives_value _ b = false

abbrev pub are_usual : List Rule → Bool
are_usual bs = has_distinct_ids bs && list_all (λ b. gives_value (action_of b) b) bs

abbrev pub is_expected : Rule → Bool
is_expected a = a.required || nat_lt 0 (length a.defaults)

each_in : (P : Rule → Type 0) (bs : List Rule) → ((b : Rule) → IsIn b bs → P b) → Each P bs
each_in P [] h = tt
each_in P (b ∷ bs) h = (h b (inl refl), each_in P bs (λ x here. h x (inr here)))

all_in : (p : Rule → Bool) (bs : List Rule) (b : Rule) → list_all p bs ≡ true → IsIn b bs → p b ≡ true
all_in p [] b e here = absurd here
all_in p (x ∷ xs) b e (inl is) = subst (λ y. p y ≡ true) is (both (p x) (list_all p xs) e).0
all_in p (x ∷ xs) b e (inr here) = all_in p xs b (both (p x) (list_all p xs) e).1 here

none_in : (p : Rule → Bool) (bs : List Rule) (b : Rule) → not (list_any p bs) ≡ true → IsIn b bs → p b ≡ true → ⊥
none_in p [] b e here met = absurd here
none_in p (x ∷ xs) b e (inl is) met =
    let first : p x ≡ true = subst (λ y. p y ≡ true) (sym is) met in
    true≢false (sym (rw first at e))
none_in p (x ∷ xs) b e (inr here) met = go (p x) e (λ rest. none_in p xs b rest here met)
  where
    go : (t : Bool) → not (t || list_any p xs) ≡ true → (not (list_any p xs) ≡ true → ⊥) → ⊥
    go true bad more = true≢false (sym bad)
    go false rest more = more rest

same_id : (x y : Text) → bytes_eq x y ≡ true → bytes_eq y x ≡ true
same_id x y e = (bytes_eq-Decides y x).1 (sym ((bytes_eq-Decides x y).0 e))

-- an id tells the argument
by_id : (bs : List Rule) (a b : Rule) → has_distinct_ids bs ≡ true → IsIn a bs → IsIn b bs → bytes_eq b.id a.id ≡ true → b ≡ a
by_id [] a b e here there same = absurd here
by_id (x ∷ xs) a b e (inl is) (inl was) same = sym was ∙ is
by_id (x ∷ xs) a b e (inl is) (inr there) same =
    absurd (none_in (λ y. bytes_eq y.id x.id) xs b (both _ (has_distinct_ids xs) e).0 there (subst (λ (y : Rule). bytes_eq b.id y.id ≡ true) (sym is) same))
by_id (x ∷ xs) a b e (inr here) (inl was) same =
    absurd (none_in (λ y. bytes_eq y.id x.id) xs a (both _ (has_distinct_ids xs) e).0 here
    (same_id x.id a.id (subst (λ (y : Rule). bytes_eq y.id a.id ≡ true) (sym was) same)))
by_id (x ∷ xs) a b e (inr here) (inr there) same = by_id xs a b (both _ (has_distinct_ids xs) e).1 here there same

kind_of_use : (x : ArgAction) (b : Rule) → gives_value x b ≡ true
    → ((x ≡ Set) × (0 < (unwrap_or_range b.range).start_inclusive)) ⊎ ((x ≡ SetTrue) × (0 < length b.missing)) ⊎ (x ≡ Help)
    ⊎ ((x ≡ Append) × (0 < (unwrap_or_range b.range).start_inclusive))
kind_of_use Set b e = inl (refl, ltb-true _ _ e)
kind_of_use SetTrue b e = inr (inl (refl, ltb-true _ _ e))
kind_of_use Help b e = inr (inr (inl refl))
kind_of_use Append b e = inr (inr (inr (refl, ltb-true _ _ e)))
kind_of_use _ b e = absurd (true≢false (sym e))

usual_in : (bs : List Rule) (a b : Rule) → are_usual bs ≡ true → IsIn a bs → IsIn b bs → Usual a.id a b
usual_in bs a b e here there =
    let parts = both (has_distinct_ids bs) (list_all (λ b. gives_value (action_of b) b) bs) e in
    record {
      own = by_id bs a b parts.0 here there;
      kind = kind_of_use (action_of b) b (all_in (λ b. gives_value (action_of b) b) bs b parts.1 there);
    }

expected : (a : Rule) → is_expected a ≡ true → IsExpected a.id a
expected a e = elim (either a.required (nat_lt 0 (length a.defaults)) e) [ inl needs ↦ inl needs | inr some ↦ inr (ltb-true _ _ some) ]

-- the level of a subcommand that passes leaves each argument that it expects a value
pub value_left : (s : Shape) (words : List Text) (a : Rule) → are_usual s.rules ≡ true → s.subcommand_negates_reqs ≡ false → IsIn a s.rules → is_expected a ≡ true
    → level_passes s [] nothing_held words false ≡ true → HasValue a.id a (rows_after s.rules [] words)
value_left s words a usual negates here wanted passes =
    level_value a.id a s [] words false (each_in (Usual a.id a) s.rules (λ b there. usual_in s.rules a b usual here there)) refl here (expected a wanted) negates passes

-- and each other one a value or none
pub optional_left : (s : Shape) (words : List Text) (a : Rule) → are_usual s.rules ≡ true → IsIn a s.rules → level_passes s [] nothing_held words false ≡ true
    → (first_of a.id (rows_after s.rules [] words) ≡ None) ⊎ HasValue a.id a (rows_after s.rules [] words)
optional_left s words a usual here passes = level_optional a.id a s [] words false (each_in (Usual a.id a) s.rules (λ b there. usual_in s.rules a b usual here there)) passes
