-- The head of an image's header.
use Rattle.std.proofs.Common.{◌≡◌, ℕ, ◌+◌, ◌≤◌, ◌==◌, Bool, true, false, cond, Option, Some, None, List, arith, take, drop, codes, refl, subst, sym}
use Rattle.std.proofs.lemmas.Bool.{leb-true}
use Rattle.std.proofs.Common.{nat_le, ◌&&◌}
use Rattle.std.specs.List.{position}
use Rattle.std.specs.Prelude.{IfSome}
use Rattle.std.specs.Option.{option_and_then}
use Rattle.ffv1_y4m.specs.declared.head.DeepHead.{DeepHead}
use Rattle.ffv1_y4m.specs.Header.{size_of, is_text, within}
use Rattle.ffv1_y4m.specs.Ppm.{both_sizes, depth_of_line, maximum_depth, sizes_at, sizes_of, sized_head, spaced_head, image_head}
use Rattle.ffv1_y4m.specs.VideoHead.{IsNamed, IsSized, colour_head}
use Rattle.ffv1_y4m.proofs.Sizes.{IsSome, IsSize, size_is}

-- a head of these colours and this depth
pub record HeadSaid (depth : Option ℕ) (h : DeepHead) : Type 0 where
  pub sized : IsSized h.head
  pub colour : h.head ≡ colour_head h.head.width h.head.height
  pub deep : depth ≡ Some h.depth

both_head : (depth w h : Option ℕ) → IsSome IsSize w → IsSome IsSize h → IsSome (HeadSaid depth) (sized_head depth (both_sizes w h))
both_head None w h p q = tt
both_head (Some depth) None h p q = tt
both_head (Some depth) (Some w) None p q = tt
both_head (Some depth) (Some w) (Some h) p q = record { sized = record { some_wide = p.some; wide = p.most; some_high = q.some; high = q.most }; colour = refl; deep = refl }

no_head : (depth : Option ℕ) → IsSome (HeadSaid depth) (sized_head depth None)
no_head None = tt
no_head (Some depth) = tt

at_head : (depth : Option ℕ) (line : List ℕ) (space : Option ℕ) → IsSome (HeadSaid depth) (sized_head depth (sizes_at line space))
at_head depth line None = no_head depth
at_head depth line (Some space) = both_head depth (size_of (take space line)) (size_of (drop (space + 1) line)) (size_is (take space line)) (size_is (drop (space + 1) line))

some_cond : (b : Bool) (depth : Option ℕ) (h : Option DeepHead) → IsSome (HeadSaid depth) h → IsSome (HeadSaid depth) (cond b h None)
some_cond true depth h p = p
some_cond false depth h p = tt

is_colour : (magic line : List ℕ) (depth : Option ℕ) → IsSome (HeadSaid depth) (image_head magic line depth)
unfolding image_head
is_colour magic line depth = some_cond (is_text magic (codes "P6")) depth (sized_head depth (sizes_of line)) (at_head depth line (position (λ c. c == 32) line))

pub head_is_colour : (magic line : List ℕ) (depth : Option ℕ) (h : DeepHead) → Some h ≡ image_head magic line depth → HeadSaid depth h
head_is_colour magic line depth h is =
    let P : Option DeepHead → Type 0 = λ o. IsSome (HeadSaid depth) o in
    subst P (sym is) (is_colour magic line depth)

-- a depth that a header says
abbrev pub IsImageDepth : ℕ → Type 0
IsImageDepth depth = (width height : ℕ) → IsNamed depth (colour_head width height)

named_if : (b : Bool) (depth : ℕ) (next : Option ℕ) → IsImageDepth depth → IsSome IsImageDepth next → IsSome IsImageDepth (cond b (Some depth) next)
named_if true depth next p q = p
named_if false depth next p q = q

maximum_named : (text : List ℕ) → IsSome IsImageDepth (maximum_depth text)
maximum_named text =
    named_if (is_text text (codes "255")) 8 _ (λ width height. record { least = omega arith; most = omega arith; name = refl; sited = λ unsaid. refl })
    (named_if (is_text text (codes "511")) 9 _ (λ width height. record { least = omega arith; most = omega arith; name = refl; sited = λ unsaid. refl })
    (named_if (is_text text (codes "1023")) 10 _ (λ width height. record { least = omega arith; most = omega arith; name = refl; sited = λ unsaid. refl })
    (named_if (is_text text (codes "4095")) 12 _ (λ width height. record { least = omega arith; most = omega arith; name = refl; sited = λ unsaid. refl })
    (named_if (is_text text (codes "16383")) 14 _ (λ width height. record { least = omega arith; most = omega arith; name = refl; sited = λ unsaid. refl })
    (named_if (is_text text (codes "65535")) 16 None (λ width height. record { least = omega arith; most = omega arith; name = refl; sited = λ unsaid. refl }) tt)))))

abbrev pub IsLineDepth : ℕ → ℕ → Type 0
IsLineDepth most depth = (depth ≤ most) × IsImageDepth depth

within_by : (a b : Bool) (most depth : ℕ) → nat_le depth most ≡ b → IsImageDepth depth → IsSome (IsLineDepth most) (cond (a && b) (Some depth) None)
within_by false b most depth test p = tt
within_by true false most depth test p = tt
within_by true true most depth test p = (leb-true _ _ test, p)

line_by : (most : ℕ) (o : Option ℕ) → IsSome IsImageDepth o → IsSome (IsLineDepth most) (option_and_then (within 8 most) o)
line_by most None p = tt
line_by most (Some depth) p = within_by (nat_le 8 depth) (nat_le depth most) most depth refl p

line_named : (most : ℕ) (line : List ℕ) → IsSome (IsLineDepth most) (depth_of_line most line)
unfolding depth_of_line
line_named most line = line_by most (maximum_depth line) (maximum_named line)

pub depth_is_named : (most : ℕ) (line : List ℕ) (depth : ℕ) → Some depth ≡ depth_of_line most line → IsLineDepth most depth
depth_is_named most line depth is =
    let P : Option ℕ → Type 0 = λ o. IsSome (IsLineDepth most) o in
    subst P (sym is) (line_named most line)

named_in : (most : ℕ) (depth : Option ℕ) (d : ℕ) → depth ≡ Some d → IfSome depth (IsLineDepth most) → IsLineDepth most d
named_in most depth d is h =
    let P : Option ℕ → Type 0 = λ o. IfSome o (IsLineDepth most) in
    subst P is h

pub head_is_named : (most : ℕ) (magic line : List ℕ) (depth : Option ℕ) (h : DeepHead) → Some h ≡ image_head magic line depth → IfSome depth (IsLineDepth most) → IsNamed h.depth h.head × (h.depth ≤ most)
head_is_named most magic line depth h is named =
    let t = head_is_colour magic line depth h is in
    let d = named_in most depth h.depth t.deep named in
    (subst (IsNamed h.depth) (sym t.colour) (d.1 h.head.width h.head.height), d.0)

-- the same of a header whose parts were read one by one
within_size : (n : Option ℕ) → IfSome n (λ k. (1 ≤ k) × (k ≤ 8192)) → IsSome IsSize n
within_size None h = tt
within_size (Some k) h = record { some = h.0; most = h.1 }

spaced_by : (magic : Bool) (width height depth : Option ℕ) → IsSome IsSize width → IsSome IsSize height → IsSome (HeadSaid depth) (spaced_head magic width height depth)
spaced_by true width height depth p q = both_head depth width height p q
spaced_by false width height depth p q = tt

pub spaced_is_colour : (magic : Bool) (width height depth : Option ℕ) (h : DeepHead) → IfSome width (λ k. (1 ≤ k) × (k ≤ 8192)) → IfSome height (λ k. (1 ≤ k) × (k ≤ 8192)) → Some h ≡ spaced_head magic width height depth → HeadSaid depth h
spaced_is_colour magic width height depth h p q is =
    let P : Option DeepHead → Type 0 = λ o. IsSome (HeadSaid depth) o in
    subst P (sym is) (spaced_by magic width height depth (within_size width p) (within_size height q))

pub spaced_is_named : (most : ℕ) (depth : Option ℕ) (h : DeepHead) → HeadSaid depth h → IfSome depth (IsLineDepth most) → IsNamed h.depth h.head × (h.depth ≤ most)
spaced_is_named most depth h t named =
    let d = named_in most depth h.depth t.deep named in
    (subst (IsNamed h.depth) (sym t.colour) (d.1 h.head.width h.head.height), d.0)
