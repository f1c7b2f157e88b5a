-- A head that a line says is one that is read here.
use Rattle.std.proofs.Common.{◌≡◌, ℕ, ◌≤◌, nat_lt, List, [], ◌∷◌, Option, Some, Ok, Result, sym, subst, arith, refl}
use Rattle.ffv1_y4m.specs.declared.fault.Fault.{Fault}
use Rattle.ffv1_y4m.specs.declared.head.VideoHead.{VideoHead}
use Rattle.ffv1_y4m.specs.declared.tags.Chroma.{Chroma}
use Rattle.ffv1_y4m.specs.Header.{chroma_named, chroma_planes, ratio_of, size_of, structure_of}
use Rattle.ffv1_y4m.specs.HeaderLine.{AtMostOnce, IsHeaderLine, Once, SaysChroma, SaysRatio, SaysSize, SaysStructure, chroma_in, values_of}
use Rattle.ffv1_y4m.specs.VideoHead.{IsHead, IsNamed}
use Rattle.ffv1_y4m.proofs.Sizes.{IsKnown, IsOk, IsPair, IsSize, IsSome, named_is, none_known, ratio_is, size_is, structure_is}

-- what is said has a property that all that is said has
once_is : {X : Type 0} (P : X → Type 0) (says : List ℕ → X → Type 0) (values : List (List ℕ)) (x : X) → ((value : List ℕ) → says value x → P x) → Once says values x → P x
once_is P says [] x each h = absurd h
once_is P says (value ∷ []) x each h = each value h
once_is P says (value ∷ second ∷ more) x each h = absurd h

pub most_is : {X : Type 0} (P : X → Type 0) (says : List ℕ → X → Type 0) (d : X) (values : List (List ℕ)) (x : X) → P d → ((value : List ℕ) → says value x → P x) → AtMostOnce says d values x → P x
most_is P says d [] x none each h = subst P (sym h) none
most_is P says d (value ∷ []) x none each h = each value h
most_is P says d (value ∷ second ∷ more) x none each h = absurd h

pub some_is : {X : Type 0} (P : X → Type 0) (o : Option X) (x : X) → IsSome P o → o ≡ Some x → P x
some_is P o x is e = subst (IsSome P) e is

ok_is : {X : Type 0} (P : X → Type 0) (r : Result X Fault) (x : X) → IsOk P r → r ≡ Ok x → P x
ok_is P r x is e = subst (IsOk P) e is

said_size : (values : List (List ℕ)) (n : ℕ) → Once SaysSize values n → IsSize n
said_size values n = once_is IsSize SaysSize values n (λ value e. some_is IsSize (size_of value) n (size_is value) e)

said_ratio : (most : ℕ) (values : List (List ℕ)) (r : ℕ × ℕ) → AtMostOnce (SaysRatio most) (0, 0) values r → IsPair most r
said_ratio most values r = most_is (IsPair most) (SaysRatio most) (0, 0) values r (record { first = omega arith; second = omega arith; both = refl }) (λ value e. some_is (IsPair most) (ratio_of most value) r (ratio_is most value) e)

said_structure : (values : List (List ℕ)) (s : ℕ) → AtMostOnce SaysStructure 0 values s → s ≤ 3
said_structure values s = most_is (λ z. z ≤ 3) SaysStructure 0 values s (omega arith) (λ value e. ok_is (λ z. z ≤ 3) (structure_of value) s (structure_is value).value e)

said_chroma : (most : ℕ) (values : List (List ℕ)) (c : Chroma) → AtMostOnce (SaysChroma most) (chroma_planes 1 1) values c → IsKnown c
said_chroma most values c = most_is IsKnown (SaysChroma most) (chroma_planes 1 1) values c none_known (λ value e. some_is IsKnown (chroma_named (nat_lt 8 most) value) c (named_is (nat_lt 8 most) value).value e)

pub said_head : (most : ℕ) (line : List ℕ) (depth : ℕ) (h : VideoHead) → IsHeaderLine most line depth h → IsHead h
said_head most line depth h said =
    let wide = said_size (values_of 87 said.tags) h.width said.width in
    let high = said_size (values_of 72 said.tags) h.height said.height in
    let chroma = said_chroma most (values_of 67 said.tags) (chroma_in depth h) said.chroma in
    record {
      sized = record { some_wide = wide.some; wide = wide.most; some_high = high.some; high = high.most };
      factors = record { wide = chroma.wide; high = chroma.high };
      rate = said_ratio 4294967295 (values_of 70 said.tags) (h.rate, h.scale) said.rate;
      structure = said_structure (values_of 73 said.tags) h.structure said.structure;
      aspect = said_ratio 65535 (values_of 65 said.tags) (h.sar_num, h.sar_den) said.aspect;
      chroma = chroma.named;
    }

pub said_depth : (most : ℕ) (line : List ℕ) (depth : ℕ) (h : VideoHead) → IsHeaderLine most line depth h → IsNamed depth h
said_depth most line depth h said =
    let chroma = said_chroma most (values_of 67 said.tags) (chroma_in depth h) said.chroma in
    record { least = chroma.least; most = chroma.most; name = chroma.name; sited = chroma.sited }
