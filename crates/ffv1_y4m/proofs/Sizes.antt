-- The values of a head that was read.
use Rattle.std.proofs.Common.{◌≡◌, ℕ, ◌≤◌, ◌==◌, ◌&&◌, nat_le, nat_lt, Bool, true, false, cond, Option, Some, None, List, [], ◌∷◌, take, drop, Result, Ok, Err, refl, sym, ◌∙◌, IfOk, ◌+◌, arith, codes}
use Rattle.std.proofs.Math.Bool.{or-true}
use Rattle.std.proofs.lemmas.Bool.{le-ltb, leb-true, true≢false}
use Rattle.std.specs.List.{position}
use Rattle.std.specs.Option.{option_and_then}
use Rattle.ffv1_y4m.specs.declared.fault.Fault.{Fault}
use Rattle.ffv1_y4m.specs.declared.fault.Fault.TheVariants as fault
use Rattle.ffv1_y4m.specs.declared.head.DeepHead.{DeepHead}
use Rattle.ffv1_y4m.specs.declared.tags.Chroma.{Chroma}
use Rattle.ffv1_y4m.specs.declared.tags.Tags.{Tags}
use Rattle.ffv1_y4m.specs.declared.head.Range.{Range}
use Rattle.ffv1_y4m.specs.declared.head.Siting.{Siting}
use Rattle.ffv1_y4m.specs.declared.head.Siting.TheVariants as siting
use Rattle.ffv1_y4m.specs.VideoHead.{IsRatio, IsChroma, IsHead, IsNamed, SaysNeither, has_depth_name, has_siting, is_named}
use Rattle.ffv1_y4m.specs.Sequence.{◌>>=◌}
use Rattle.ffv1_y4m.specs.Header.{first_value, first_answer, within, number_of, structure_of, tagged, judged, words_of, all_judged, no_tags, present, head_of_tags, head_from, or_else, size_of, capped_of, both_of, parted_of, ratio_of, at_depth, deep_chroma_of, chroma_named, chroma_of, chroma_planes, depth_of, next_range, no_chroma, range_of, sited_planes, unsited_named, up_to, is_text}

-- a value, if there is one
abbrev pub IsSome : {X : Type 0} → (X → Type 0) → Option X → Type 0
IsSome P None = Unit {0}
IsSome P (Some x) = P x

abbrev pub IsOk : {X : Type 0} → (X → Type 0) → Result X Fault → Type 0
IsOk P (Ok x) = P x
IsOk P (Err f) = Unit {0}

pub record IsSize (n : ℕ) : Type 0 where
  pub some : 1 ≤ n
  pub most : n ≤ 8192

abbrev pub IsPair : ℕ → ℕ × ℕ → Type 0
IsPair most p = IsRatio most p.0 p.1

pub record IsKnown (c : Chroma) : Type 0 where
  pub named : IsChroma c.planes c.log2_h c.log2_v c.extra
  pub wide : c.log2_h ≤ 2
  pub high : c.log2_v ≤ 2
  pub least : 8 ≤ c.depth
  pub most : c.depth ≤ 16
  pub name : is_named c.depth c.planes c.log2_h c.log2_v c.extra ≡ true
  pub sited : has_siting c.depth c.planes c.log2_h c.log2_v ≡ false → c.siting ≡ None

within_both : (least most n : ℕ) (P : ℕ → Type 0) → (least ≤ n → n ≤ most → P n) → (b c : Bool) → nat_le least n ≡ b → nat_le n most ≡ c → IsSome P (cond (b && c) (Some n) None)
within_both least most n P h false c p q = tt
within_both least most n P h true false p q = tt
within_both least most n P h true true p q = h (leb-true _ _ p) (leb-true _ _ q)

and_then_within : (least most : ℕ) (P : ℕ → Type 0) → ((n : ℕ) → least ≤ n → n ≤ most → P n) → (n : Option ℕ) → IsSome P (option_and_then (within least most) n)
and_then_within least most P h None = tt
and_then_within least most P h (Some n) = within_both least most n P (h n) (nat_le least n) (nat_le n most) refl refl

pub size_is : (value : List ℕ) → IsSome IsSize (size_of value)
unfolding size_of
size_is value = and_then_within 1 8192 IsSize (λ n p q. record { some = p; most = q }) (number_of value)

capped_is : (most : ℕ) (value : List ℕ) → IsSome (λ n. n ≤ most) (capped_of most value)
unfolding capped_of
capped_is most value = and_then_within 0 most (λ n. n ≤ most) (λ n p q. q) (number_of value)

pair_is : (most n d : ℕ) → n ≤ most → d ≤ most → (a b : Bool) → (n == 0) ≡ a → (d == 0) ≡ b → IsSome (IsPair most) (cond a (cond b (Some (n, d)) None) (cond b None (Some (n, d))))
pair_is most n d p q true true e f = record { first = p; second = q; both = e ∙ sym f }
pair_is most n d p q true false e f = tt
pair_is most n d p q false true e f = tt
pair_is most n d p q false false e f = record { first = p; second = q; both = e ∙ sym f }

both_is : (most : ℕ) (n d : Option ℕ) → IsSome (λ k. k ≤ most) n → IsSome (λ k. k ≤ most) d → IsSome (IsPair most) (both_of n d)
both_is most None d p q = tt
both_is most (Some n) None p q = tt
both_is most (Some n) (Some d) p q = pair_is most n d p q (n == 0) (d == 0) refl refl

parted_is : (most : ℕ) (value : List ℕ) (colon : Option ℕ) → IsSome (IsPair most) (parted_of most value colon)
parted_is most value None = tt
parted_is most value (Some colon) = both_is most _ _ (capped_is most (take colon value)) (capped_is most (drop (colon + 1) value))

pub ratio_is : (most : ℕ) (value : List ℕ) → IsSome (IsPair most) (ratio_of most value)
ratio_is most value = parted_is most value (position (λ c. c == 58) value)

pub record IsKnownValue (c : Option Chroma) : Type 0 where
  pub value : IsSome IsKnown c

chroma_cond : (b : Bool) (x y : Option Chroma) → IsKnownValue x → IsKnownValue y → IsKnownValue (cond b x y)
chroma_cond true x y h k = h
chroma_cond false x y h k = k

chroma_none : IsKnownValue None
chroma_none = record { value = tt }

chroma_some : (planes : Bool) (log2_h log2_v : ℕ) (extra : Bool) → IsChroma planes log2_h log2_v extra → log2_h ≤ 2 → log2_v ≤ 2 → IsKnownValue (Some (record { planes = planes; log2_h = log2_h; log2_v = log2_v; extra = extra; depth = 8; siting = None }))
chroma_some planes log2_h log2_v extra named wide high = record { value = record { named = named; wide = wide; high = high; least = omega arith; most = omega arith; name = rw named refl; sited = λ unsaid. refl } }

-- chroma that a line says without a tag C
pub none_known : IsKnown (chroma_planes 1 1)
none_known = (chroma_some true 1 1 false refl (omega arith) (omega arith)).value

-- 4:2:0 of 8 bits, with its siting or without
sited_is : (deep : Bool) (s : Siting) → IsKnownValue (Some (sited_planes deep s))
sited_is false s = record { value = none_known }
sited_is true s = record { value = record { named = refl; wide = omega arith; high = omega arith; least = omega arith; most = omega arith; name = refl; sited = λ unsaid. absurd (true≢false unsaid) } }

-- chroma without transparency, at a depth that has a name beside it
record IsPlain (c : Chroma) : Type 0 where
  opaque : c.extra ≡ false
  few : nat_lt c.log2_h 2 ≡ true
  known : IsKnown c
  unsaid : c.siting ≡ None

depth_by : (c : Chroma) (depth : ℕ) → 8 ≤ depth → depth ≤ 16 → IsPlain c → (b : Bool) → has_depth_name c.planes depth ≡ b → IsKnownValue (cond b (Some (record c { depth = depth })) None)
depth_by c depth least most is false test = chroma_none
depth_by c depth least most is true test = record { value = record { named = is.known.named; wide = is.known.wide; high = is.known.high; least = least; most = most; name = rw (is.known.named, test, is.opaque, is.few) (or-true (depth == 8)); sited = λ other. is.unsaid } }

depth_is : (c : Chroma) (text : List ℕ) → IsPlain c → IsKnownValue (at_depth c (depth_of text))
depth_is c text is = at (is_text text (codes "9")) (is_text text (codes "10")) (is_text text (codes "12")) (is_text text (codes "14")) (is_text text (codes "16"))
  where
    one : (depth : ℕ) → 8 ≤ depth → depth ≤ 16 → IsKnownValue (at_depth c (Some depth))
    one depth least most = depth_by c depth least most is (has_depth_name c.planes depth) refl

    at : (p q r s t : Bool) → IsKnownValue (at_depth c (cond p (Some 9) (cond q (Some 10) (cond r (Some 12) (cond s (Some 14) (cond t (Some 16) None))))))
    at true q r s t = one 9 (omega arith) (omega arith)
    at false true r s t = one 10 (omega arith) (omega arith)
    at false false true s t = one 12 (omega arith) (omega arith)
    at false false false true t = one 14 (omega arith) (omega arith)
    at false false false false true = one 16 (omega arith) (omega arith)
    at false false false false false = chroma_none

planes_plain : (log2_h log2_v : ℕ) → IsChroma true log2_h log2_v false → nat_lt log2_h 2 ≡ true → log2_h ≤ 2 → log2_v ≤ 2 → IsPlain (chroma_planes log2_h log2_v)
planes_plain log2_h log2_v named few wide high = record { opaque = refl; few = few; known = (chroma_some true log2_h log2_v false named wide high).value; unsaid = refl }

none_plain : IsPlain no_chroma
none_plain = record { opaque = refl; few = refl; known = (chroma_some false 0 0 false refl (omega arith) (omega arith)).value; unsaid = refl }

deep_is : (value : List ℕ) → IsKnownValue (deep_chroma_of value)
unfolding deep_chroma_of
deep_is value =
    chroma_cond (is_text (take 4 value) (codes "420p")) _ _ (depth_is (chroma_planes 1 1) (drop 4 value) (planes_plain 1 1 refl refl (omega arith) (omega arith)))
    (chroma_cond (is_text (take 4 value) (codes "422p")) _ _ (depth_is (chroma_planes 1 0) (drop 4 value) (planes_plain 1 0 refl refl (omega arith) (omega arith)))
    (chroma_cond (is_text (take 4 value) (codes "444p")) _ _ (depth_is (chroma_planes 0 0) (drop 4 value) (planes_plain 0 0 refl refl (omega arith) (omega arith)))
    (chroma_cond (is_text (take 4 value) (codes "mono")) _ None (depth_is no_chroma (drop 4 value) none_plain) chroma_none)))

unsited_is : (value : List ℕ) → IsKnownValue (unsited_named value)
unsited_is value =
    (chroma_cond (is_text value (codes "422")) _ _ (chroma_some true 1 0 false refl (omega arith) (omega arith))
    (chroma_cond (is_text value (codes "444")) _ _ (chroma_some true 0 0 false refl (omega arith) (omega arith))
    (chroma_cond (is_text value (codes "411")) _ _ (chroma_some true 2 0 false refl (omega arith) (omega arith))
    (chroma_cond (is_text value (codes "444alpha")) _ _ (chroma_some true 0 0 true refl (omega arith) (omega arith))
    (chroma_cond (is_text value (codes "mono")) _ _ (chroma_some false 0 0 false refl (omega arith) (omega arith)) (deep_is value))))))

pub named_is : (deep : Bool) (value : List ℕ) → IsKnownValue (chroma_named deep value)
unfolding chroma_named
named_is deep value =
    chroma_cond (is_text value (codes "420jpeg")) _ _ (sited_is deep siting.Centre)
    (chroma_cond (is_text value (codes "420mpeg2")) _ _ (sited_is deep siting.Left)
    (chroma_cond (is_text value (codes "420paldv")) _ _ (sited_is deep siting.TopLeft)
    (chroma_cond (is_text value (codes "420")) _ _ (chroma_cond deep _ None (sited_is true siting.Centre) chroma_none) (unsited_is value))))

-- chroma that says no siting
abbrev pub IsUnsited : Chroma → Type 0
IsUnsited c = c.siting ≡ None

pub record Unsited (o : Option Chroma) : Type 0 where
  pub value : IsSome IsUnsited o

unsited_cond : (b : Bool) (x y : Option Chroma) → Unsited x → Unsited y → Unsited (cond b x y)
unsited_cond true x y h k = h
unsited_cond false x y h k = k

unsited_none : Unsited None
unsited_none = record { value = tt }

unsited_some : (c : Chroma) → c.siting ≡ None → Unsited (Some c)
unsited_some c none = record { value = none }

depth_unsited : (c : Chroma) (depth : Option ℕ) → c.siting ≡ None → Unsited (at_depth c depth)
depth_unsited c None none = unsited_none
depth_unsited c (Some depth) none = unsited_cond (has_depth_name c.planes depth) _ None (unsited_some _ none) unsited_none

deep_unsited : (value : List ℕ) → Unsited (deep_chroma_of value)
unfolding deep_chroma_of
deep_unsited value =
    let depth = depth_of (drop 4 value) in
    unsited_cond (is_text (take 4 value) (codes "420p")) _ _ (depth_unsited (chroma_planes 1 1) depth refl)
    (unsited_cond (is_text (take 4 value) (codes "422p")) _ _ (depth_unsited (chroma_planes 1 0) depth refl)
    (unsited_cond (is_text (take 4 value) (codes "444p")) _ _ (depth_unsited (chroma_planes 0 0) depth refl)
    (unsited_cond (is_text (take 4 value) (codes "mono")) _ None (depth_unsited no_chroma depth refl) unsited_none)))

pub named_unsited : (value : List ℕ) → Unsited (chroma_named false value)
unfolding chroma_named
named_unsited value =
    unsited_cond (is_text value (codes "420jpeg")) _ _ (unsited_some _ refl)
    (unsited_cond (is_text value (codes "420mpeg2")) _ _ (unsited_some _ refl)
    (unsited_cond (is_text value (codes "420paldv")) _ _ (unsited_some _ refl)
    (unsited_cond (is_text value (codes "420")) _ _ unsited_none
    (unsited_cond (is_text value (codes "422")) _ _ (unsited_some _ refl)
    (unsited_cond (is_text value (codes "444")) _ _ (unsited_some _ refl)
    (unsited_cond (is_text value (codes "411")) _ _ (unsited_some _ refl)
    (unsited_cond (is_text value (codes "444alpha")) _ _ (unsited_some _ refl)
    (unsited_cond (is_text value (codes "mono")) _ _ (unsited_some _ refl) (deep_unsited value)))))))))

-- a siting is said if depths above 8 are read
abbrev pub IsStrict : ℕ → Chroma → Type 0
IsStrict most c = most ≤ 8 → c.siting ≡ None

strict_none : (most : ℕ) (c : Option Chroma) → (most ≤ 8 → ⊥) → IsSome (IsStrict most) c
strict_none most None deep = tt
strict_none most (Some c) deep = λ small. absurd (deep small)

strict_some : (most : ℕ) (c : Option Chroma) → IsSome IsUnsited c → IsSome (IsStrict most) c
strict_some most None h = tt
strict_some most (Some c) h = λ small. h

deep_most : (most : ℕ) → nat_lt 8 most ≡ true → most ≤ 8 → ⊥
deep_most most deep small = true≢false (sym deep ∙ le-ltb 8 most small)

named_strict : (most : ℕ) (deep : Bool) (value : List ℕ) → nat_lt 8 most ≡ deep → IsSome (IsStrict most) (chroma_named deep value)
named_strict most true value test = strict_none most (chroma_named true value) (deep_most most test)
named_strict most false value test = strict_some most (chroma_named false value) (named_unsited value).value

range_strict : (most : ℕ) (deep : Bool) (value : List ℕ) → nat_lt 8 most ≡ deep → most ≤ 8 → range_of deep value ≡ None
range_strict most true value test small = absurd (deep_most most test small)
range_strict most false value test small = refl

-- chroma of at most this depth
abbrev pub IsKnownTo : ℕ → Chroma → Type 0
IsKnownTo most c = IsKnown c × (8 ≤ most → c.depth ≤ most) × IsStrict most c

up_by : (most : ℕ) (c : Chroma) (b : Bool) → nat_le c.depth most ≡ b → IsKnown c → IsStrict most c → IsSome (IsKnownTo most) (cond b (Some c) None)
up_by most c false test h strict = tt
up_by most c true test h strict = (h, (λ eight. leb-true c.depth most test), strict)

up_is : (most : ℕ) (c : Option Chroma) → IsSome IsKnown c → IsSome (IsStrict most) c → IsSome (IsKnownTo most) (option_and_then (up_to most) c)
up_is most None h strict = tt
up_is most (Some c) h strict = up_by most c (nat_le c.depth most) refl h strict

chroma_is : (most : ℕ) (value : List ℕ) → IsSome (IsKnownTo most) (chroma_of most value)
chroma_is most value = up_is most (chroma_named (nat_lt 8 most) value) (named_is (nat_lt 8 most) value).value (named_strict most (nat_lt 8 most) value refl)

pub record HasValues (most : ℕ) (t : Tags) : Type 0 where
  pub wide : IsSome IsSize t.width
  pub high : IsSome IsSize t.height
  pub rate : IsSome (IsPair 4294967295) t.rate
  pub structure : IsSome (λ s. s ≤ 3) t.structure
  pub aspect : IsSome (IsPair 65535) t.aspect
  pub chroma : IsSome (IsKnownTo most) t.chroma
  pub range : most ≤ 8 → t.range ≡ None

pub record Gives (most : ℕ) (r : Result Tags Fault) : Type 0 where
  pub values : IsOk (HasValues most) r

pub record IsStructure (r : Result ℕ Fault) : Type 0 where
  pub value : IsOk (λ s. s ≤ 3) r

structure_cond : (b : Bool) (x y : Result ℕ Fault) → IsStructure x → IsStructure y → IsStructure (cond b x y)
structure_cond true x y h k = h
structure_cond false x y h k = k

pub structure_is : (value : List ℕ) → IsStructure (structure_of value)
unfolding structure_of
structure_is value =
    structure_cond _ (Ok 3) _ (record { value = omega arith }) (structure_cond _ (Ok 1) _ (record { value = omega arith })
    (structure_cond _ (Ok 2) _ (record { value = omega arith }) (structure_cond _ (Ok 0) _ (record { value = omega arith })
    (structure_cond _ (Err fault.Unsupported) (Err fault.Tag) (record { value = tt }) (record { value = tt })))))

gives_cond : (most : ℕ) (b : Bool) (r s : Result Tags Fault) → Gives most r → Gives most s → Gives most (cond b r s)
gives_cond most true r s h k = h
gives_cond most false r s h k = k

gives_err : (most : ℕ) (f : Fault) → Gives most (Err f)
gives_err most f = record { values = tt }

gives_first : {X : Type 0} (most : ℕ) (P : X → Type 0) (old new : Option X) (f : Fault) (set : X → Tags) → IsSome P new → ((x : X) → P x → HasValues most (set x)) → Gives most (first_value old new f >>= λ x. Ok (set x))
gives_first most P (Some x) new f set value h = record { values = tt }
gives_first most P None None f set value h = record { values = tt }
gives_first most P None (Some x) f set value h = record { values = h x value }

gives_answer : {X : Type 0} (most : ℕ) (P : X → Type 0) (old : Option X) (new : Result X Fault) (set : X → Tags) → IsOk P new → ((x : X) → P x → HasValues most (set x)) → Gives most (first_answer old new >>= λ x. Ok (set x))
gives_answer most P (Some x) new set value h = record { values = tt }
gives_answer most P None (Err f) set value h = record { values = tt }
gives_answer most P None (Ok x) set value h = record { values = h x value }

gives_range : (most : ℕ) (t : Tags) (old new : Option Range) → HasValues most t → t.range ≡ old → (most ≤ 8 → new ≡ None) → Gives most (next_range old new >>= λ r. Ok (record t { range = r }))
gives_range most t old None h is unsaid = record { values = record { wide = h.wide; high = h.high; rate = h.rate; structure = h.structure; aspect = h.aspect; chroma = h.chroma; range = λ small. sym is ∙ h.range small } }
gives_range most t None (Some r) h is unsaid = record { values = record { wide = h.wide; high = h.high; rate = h.rate; structure = h.structure; aspect = h.aspect; chroma = h.chroma; range = unsaid } }
gives_range most t (Some s) (Some r) h is unsaid = record { values = tt }

gives_tagged : (most : ℕ) (t : Tags) (letter : ℕ) (value : List ℕ) → HasValues most t → Gives most (tagged most t letter value)
unfolding tagged
gives_tagged most t letter value h =
    gives_cond most (letter == 87) _ _ (gives_first most IsSize t.width (size_of value) fault.Tag (λ n. record t { width = Some n }) (size_is value) (λ n s. record { wide = s; high = h.high; rate = h.rate; structure = h.structure; aspect = h.aspect; chroma = h.chroma; range = h.range }))
    (gives_cond most (letter == 72) _ _ (gives_first most IsSize t.height (size_of value) fault.Tag (λ n. record t { height = Some n }) (size_is value) (λ n s. record { wide = h.wide; high = s; rate = h.rate; structure = h.structure; aspect = h.aspect; chroma = h.chroma; range = h.range }))
    (gives_cond most (letter == 70) _ _ (gives_first most (IsPair 4294967295) t.rate (ratio_of 4294967295 value) fault.Tag (λ r. record t { rate = Some r }) (ratio_is 4294967295 value) (λ r s. record { wide = h.wide; high = h.high; rate = s; structure = h.structure; aspect = h.aspect; chroma = h.chroma; range = h.range }))
    (gives_cond most (letter == 73) _ _ (gives_answer most (λ s. s ≤ 3) t.structure (structure_of value) (λ s. record t { structure = Some s }) (structure_is value).value (λ r s. record { wide = h.wide; high = h.high; rate = h.rate; structure = s; aspect = h.aspect; chroma = h.chroma; range = h.range }))
    (gives_cond most (letter == 65) _ _ (gives_first most (IsPair 65535) t.aspect (ratio_of 65535 value) fault.Tag (λ r. record t { aspect = Some r }) (ratio_is 65535 value) (λ r s. record { wide = h.wide; high = h.high; rate = h.rate; structure = h.structure; aspect = s; chroma = h.chroma; range = h.range }))
    (gives_cond most (letter == 67) _ _ (gives_first most (IsKnownTo most) t.chroma (chroma_of most value) fault.Unsupported (λ c. record t { chroma = Some c }) (chroma_is most value) (λ r s. record { wide = h.wide; high = h.high; rate = h.rate; structure = h.structure; aspect = h.aspect; chroma = s; range = h.range }))
    (gives_cond most (letter == 88) _ _ (gives_range most t t.range (range_of (nat_lt 8 most) value) h refl (range_strict most (nat_lt 8 most) value refl)) (gives_err most fault.Tag)))))))

gives_judged : (most : ℕ) (t : Tags) (word : List ℕ) → HasValues most t → Gives most (judged most t word)
gives_judged most t [] h = gives_err most fault.Tag
gives_judged most t (letter ∷ value) h = gives_tagged most t letter value h

gives_next : (most : ℕ) (r : Result Tags Fault) (next : Tags → Result Tags Fault) → Gives most r → ((u : Tags) → HasValues most u → Gives most (next u)) → Gives most (r >>= next)
gives_next most (Ok u) next h k = k u h.values
gives_next most (Err f) next h k = record { values = tt }

gives_all : (most : ℕ) (t : Tags) (words : List (List ℕ)) → HasValues most t → Gives most (all_judged most t words)
gives_all most t [] h = record { values = h }
gives_all most t (word ∷ words) h = gives_next most (judged most t word) (λ u. all_judged most u words) (gives_judged most t word h) (λ u k. gives_all most u words k)

else_is : {X : Type 0} (P : X → Type 0) (x : Option X) (d : X) → IsSome P x → P d → P (or_else x d)
else_is P None d h k = k
else_is P (Some x) d h k = h

-- a head with a name at its depth, which is read
pub record IsDeepHead (most : ℕ) (h : DeepHead) : Type 0 where
  pub head : IsHead h.head
  pub named : IsNamed h.depth h.head
  pub small : 8 ≤ most → h.depth ≤ most
  pub neither : most ≤ 8 → SaysNeither h.head

-- the head of these sizes
by_sizes : (most : ℕ) (width height : Option ℕ) (head : ℕ → ℕ → DeepHead) → ((w h : ℕ) → IsSize w → IsSize h → IsDeepHead most (head w h)) → IsSome IsSize width → IsSome IsSize height →
    IsOk (IsDeepHead most) (present width >>= λ w. present height >>= λ h. Ok (head w h))
by_sizes most None height head sized wide high = tt
by_sizes most (Some w) None head sized wide high = tt
by_sizes most (Some w) (Some h) head sized wide high = sized w h wide high

head_is : (most w h : ℕ) (rate : ℕ × ℕ) (structure : ℕ) (aspect : ℕ × ℕ) (chroma : Chroma) (range : Option Range) → IsSize w → IsSize h → IsPair 4294967295 rate → structure ≤ 3 → IsPair 65535 aspect → IsKnownTo most chroma → (most ≤ 8 → range ≡ None) →
    IsDeepHead most (head_from (w, h) rate structure aspect chroma range)
head_is most w h rate structure aspect chroma range p q r s a c n = record {
  head = record {
    sized = record { some_wide = p.some; wide = p.most; some_high = q.some; high = q.most };
    factors = record { wide = c.0.wide; high = c.0.high };
    rate = r;
    structure = s;
    aspect = a;
    chroma = c.0.named;
  };
  named = record { least = c.0.least; most = c.0.most; name = c.0.name; sited = c.0.sited };
  small = c.1;
  neither = λ strict. (c.2 strict, n strict);
}

head_valued : (most : ℕ) (t : Tags) → HasValues most t → IsOk (IsDeepHead most) (head_of_tags t)
unfolding head_of_tags
head_valued most t h = by_sizes most t.width t.height _ (λ w k wide high.
    head_is most w k (or_else t.rate (0, 0)) (or_else t.structure 0) (or_else t.aspect (0, 0)) (or_else t.chroma (chroma_planes 1 1)) t.range wide high
    (else_is (IsPair 4294967295) t.rate (0, 0) h.rate (record { first = omega arith; second = omega arith; both = refl }))
    (else_is (λ s. s ≤ 3) t.structure 0 h.structure (omega arith))
    (else_is (IsPair 65535) t.aspect (0, 0) h.aspect (record { first = omega arith; second = omega arith; both = refl }))
    (else_is (IsKnownTo most) t.chroma (chroma_planes 1 1) h.chroma (none_known, (λ eight. eight), λ small. refl)) h.range) h.wide h.high

-- the head of the words of a line
pub words_head : (most : ℕ) (line : List ℕ) (t : Tags) (r : Result DeepHead Fault) → Ok t ≡ all_judged most no_tags (words_of line) → r ≡ head_of_tags t → IsOk (IsDeepHead most) r
words_head most line t r judging is =
    let given : Gives most (Ok t) = rw judging (gives_all most no_tags (words_of line) (record { wide = tt; high = tt; rate = tt; structure = tt; aspect = tt; chroma = tt; range = λ small. refl })) in
    rw is (head_valued most t given.values)

-- what it says, part by part
pub head_known : (most : ℕ) (r : Result DeepHead Fault) → IsOk (IsDeepHead most) r → IfOk r (λ h. IsHead h.head)
head_known most (Ok h) is = is.head
head_known most (Err f) is = tt

pub name_known : (most : ℕ) (r : Result DeepHead Fault) → IsOk (IsDeepHead most) r → IfOk r (λ h. IsNamed h.depth h.head)
name_known most (Ok h) is = is.named
name_known most (Err f) is = tt

pub depth_known : (most : ℕ) (r : Result DeepHead Fault) → IsOk (IsDeepHead most) r → IfOk r (λ h. 8 ≤ most → h.depth ≤ most)
depth_known most (Ok h) is = is.small
depth_known most (Err f) is = tt

pub neither_known : (most : ℕ) (r : Result DeepHead Fault) → IsOk (IsDeepHead most) r → IfOk r (λ h. most ≤ 8 → SaysNeither h.head)
neither_known most (Ok h) is = is.neither
neither_known most (Err f) is = tt
