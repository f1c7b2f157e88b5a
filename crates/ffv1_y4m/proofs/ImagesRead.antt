-- Images that were read are there.
use Rattle.std.proofs.Common.{◌≡◌, ℕ, ◌+◌, ◌*◌, ◌-◌, ◌≤◌, ◌<◌, ◌==◌, ◌&&◌, ◌^◌, nat_lt, nat_le, nat_eq, Bool, true, false, cond, Option, Some, None, List, [], ◌∷◌, ◌++◌, length, take, drop, codes, decimal, Ok, Err, inl, inr, refl, ap, ◌∙◌, sym, subst, arith, length-take, take-append-drop}
use Rattle.std.proofs.lemmas.Bool.{cases_lt, eqb-true, leb-true, true≢false, false≢true}
use Rattle.std.proofs.lemmas.List.{take_all}
use Rattle.std.specs.Cmp.Lexicographic.{same_text}
use Rattle.std.specs.List.{position}
use Rattle.std.specs.Option.{option_and_then}
use Rattle.std.specs.Str.Parse.{digits_value}
use lib.Pointwise.{pointwise}
use Rattle.ffv1_y4m.specs.declared.head.DeepHead.{DeepHead}
use Rattle.ffv1_y4m.specs.declared.head.VideoHead.{VideoHead}
use Rattle.ffv1_y4m.specs.declared.fault.Fault.TheVariants as fault
use Rattle.ffv1_y4m.specs.Header.{is_text, within, number_of, size_of, line_read}
use Rattle.ffv1_y4m.specs.Sequence.{Outcome, ◌then◌, give, refuse, where_begun}
use Rattle.ffv1_y4m.specs.Ppm.{both_sizes, colours_read, depth_of_line, half_of, image_begun, image_bytes, image_head, image_header, image_header_text, image_read, image_rest, lined_header, maximum_depth, maximum_read, maximum_room, parted, same_format, sized_head, sizes_at, sizes_of, some_head, third_of}
use Rattle.ffv1_y4m.specs.Images.{AreColours, AllColours, AreSpelled, samples_text, IsHeader, IsImages, IsImagesIn, ReadsImages, ReadsFrom}
use Rattle.ffv1_y4m.specs.VideoHead.{AreInDepth, IsNamed, IsSized, colour_head}
use Rattle.ffv1_y4m.proofs.AnswerParts.{value_in, rest_in, is_fault, is_some, some_in, parted_by}
use Rattle.ffv1_y4m.proofs.Maxima.{spelled_8, spelled_9, spelled_10, spelled_12, spelled_14, spelled_16}
use Rattle.ffv1_y4m.proofs.Lines.{line_parts, line_was}
use Rattle.ffv1_y4m.proofs.DeepThirds.{interleaved-parted, length-third, whole_samples}
use Rattle.ffv1_y4m.proofs.ImageTexts.{header_parts, images_lined}
use Rattle.ffv1_y4m.proofs.PpmSteps.{header_is_lined, header_is_spaced}
use Rattle.ffv1_y4m.proofs.SpacedHeaders.{PartsTold, header_behind, parts_told}
use Rattle.ffv1_y4m.proofs.PpmHeads.{depth_is_named}
use Rattle.ffv1_y4m.proofs.Colours.{told}

-- a number that was read is spelled so
number_by : (a b : Bool) (text : List ℕ) (v n : ℕ) → pointwise nat_eq text (decimal v) ≡ b → cond (a && b) (Some v) None ≡ Some n → text ≡ decimal n
number_by false b text v n e h = absurd (false≢true (ap is_some h))
number_by true false text v n e h = absurd (false≢true (ap is_some h))
number_by true true text v n e h = same_text _ _ (sym e) ∙ ap (λ o. decimal (some_in v o)) h

number_read : (text : List ℕ) (n : ℕ) → number_of text ≡ Some n → text ≡ decimal n
unfolding number_of
number_read text n h = number_by (nat_lt (digits_value 10 text) (2 ^ 32)) (pointwise nat_eq text (decimal (digits_value 10 text))) text (digits_value 10 text) n refl h

pub record SizeTold (text : List ℕ) (n : ℕ) : Type 0 where
  pub spelled : text ≡ decimal n
  pub some : 1 ≤ n
  pub most : n ≤ 8192

size_with : (a b : Bool) (text : List ℕ) (m n : ℕ) → text ≡ decimal m → nat_le 1 m ≡ a → nat_le m 8192 ≡ b → cond (a && b) (Some m) None ≡ Some n → SizeTold text n
size_with false b text m n e p q h = absurd (false≢true (ap is_some h))
size_with true false text m n e p q h = absurd (false≢true (ap is_some h))
size_with true true text m n e p q h =
    let P : ℕ → Type 0 = λ k. SizeTold text k in
    subst P (ap (some_in m) h) (record { spelled = e; some = leb-true _ _ p; most = leb-true _ _ q })

size_by : (o : Option ℕ) (text : List ℕ) (n : ℕ) → number_of text ≡ o → option_and_then (within 1 8192) o ≡ Some n → SizeTold text n
size_by None text n e h = absurd (false≢true (ap is_some h))
size_by (Some m) text n e h = size_with (nat_le 1 m) (nat_le m 8192) text m n (number_read text m e) refl refl h

pub size_read : (text : List ℕ) (n : ℕ) → size_of text ≡ Some n → SizeTold text n
unfolding size_of
size_read text n h = size_by (number_of text) text n refl h

pub record SizesTold (depth : Option ℕ) (line : List ℕ) (said : DeepHead) : Type 0 where
  pub wide : ℕ
  pub high : ℕ
  pub spelled : line ≡ decimal wide ++ 32 ∷ decimal high
  pub sized : IsSized (colour_head wide high)
  pub is : said ≡ record { head = colour_head wide high; depth = said.depth }
  pub deep : depth ≡ Some said.depth

no_depth : (s : Option (ℕ × ℕ)) (said : DeepHead) → sized_head None s ≡ Some said → ⊥
no_depth s said h = false≢true (ap is_some h)

both_by : (depth a b : Option ℕ) (x y line : List ℕ) (said : DeepHead) → line ≡ x ++ 32 ∷ y → size_of x ≡ a → size_of y ≡ b → sized_head depth (both_sizes a b) ≡ Some said → SizesTold depth line said
both_by None a b x y line said parts p q h = absurd (no_depth (both_sizes a b) said h)
both_by (Some d) None b x y line said parts p q h = absurd (false≢true (ap is_some h))
both_by (Some d) (Some w) None x y line said parts p q h = absurd (false≢true (ap is_some h))
both_by (Some d) (Some w) (Some k) x y line said parts p q h =
    let one = size_read x w p in
    let two = size_read y k q in
    let same : record { head = colour_head w k; depth = d } ≡ said = ap (some_in said) h in
    let deep : d ≡ said.depth = ap (λ (z : DeepHead). z.depth) same in
    record {
      wide = w;
      high = k;
      spelled = parts ∙ (rw (one.spelled, two.spelled) refl);
      sized = record { some_wide = one.some; wide = one.most; some_high = two.some; high = two.most };
      is = sym same ∙ ap (λ (z : ℕ). record { head = colour_head w k; depth = z }) deep;
      deep = ap (λ z. Some z) deep;
    }

pub sizes_by : (depth : Option ℕ) (space : Option ℕ) (line : List ℕ) (said : DeepHead) → position (λ c. c == 32) line ≡ space → sized_head depth (sizes_at line space) ≡ Some said → SizesTold depth line said
sizes_by None None line said found h = absurd (false≢true (ap is_some h))
sizes_by (Some d) None line said found h = absurd (false≢true (ap is_some h))
sizes_by depth (Some space) line said found h =
    let P : List ℕ → Type 0 = λ z. position (λ c. c == 32) z ≡ Some space in
    let all : take (length line) line ≡ line = take_all (length line) line (omega arith) in
    both_by depth (size_of (take space line)) (size_of (drop (space + 1) line)) (take space line) (drop (space + 1) line) line said (line_parts 32 (length line) line space (subst P (sym all) found)) refl refl h

record LinesTold (magic line : List ℕ) (depth : Option ℕ) (said : DeepHead) : Type 0 where
  first : magic ≡ codes "P6"
  sizes : SizesTold depth line said

lines_by : (a : Bool) (magic line : List ℕ) (depth : Option ℕ) (said : DeepHead) → is_text magic (codes "P6") ≡ a → cond a (sized_head depth (sizes_of line)) None ≡ Some said → LinesTold magic line depth said
lines_by false magic line depth said p h = absurd (false≢true (ap is_some h))
lines_by true magic line depth said p h = record { first = same_text _ _ (sym p); sizes = sizes_by depth (position (λ c. c == 32) line) line said refl h }

lines_read : (magic line : List ℕ) (depth : Option ℕ) (said : DeepHead) → image_head magic line depth ≡ Some said → LinesTold magic line depth said
unfolding image_head
lines_read magic line depth said h = lines_by (is_text magic (codes "P6")) magic line depth said refl h

some_told : (o : Option DeepHead) (text : List ℕ) (said : DeepHead) (rest : List ℕ) → some_head o text ≡ Ok (said, rest) → (o ≡ Some said) × (text ≡ rest)
some_told None text said rest h = absurd (true≢false (ap is_fault h))
some_told (Some k) text said rest h = (ap (λ r. Some (value_in said r)) h, ap rest_in h)

-- the line of the greatest sample
spelled_if : (b : Bool) (text name : List ℕ) (n depth : ℕ) (next : Option ℕ) → is_text text name ≡ b → name ≡ decimal (2 ^ n - 1) → (next ≡ Some depth → text ≡ decimal (2 ^ depth - 1)) → cond b (Some n) next ≡ Some depth → text ≡ decimal (2 ^ depth - 1)
spelled_if true text name n depth next test is more h = same_text _ _ (sym test) ∙ (is ∙ ap (λ o. decimal (2 ^ some_in n o - 1)) h)
spelled_if false text name n depth next test is more h = more h

maximum_spelled : (text : List ℕ) (depth : ℕ) → maximum_depth text ≡ Some depth → text ≡ decimal (2 ^ depth - 1)
maximum_spelled text depth h =
    spelled_if _ text (codes "255") 8 depth _ refl (sym spelled_8)
    (spelled_if _ text (codes "511") 9 depth _ refl (sym spelled_9)
    (spelled_if _ text (codes "1023") 10 depth _ refl (sym spelled_10)
    (spelled_if _ text (codes "4095") 12 depth _ refl (sym spelled_12)
    (spelled_if _ text (codes "16383") 14 depth _ refl (sym spelled_14)
    (spelled_if _ text (codes "65535") 16 depth None refl (sym spelled_16) (λ none. absurd (false≢true (ap is_some none)))))))) h

within_told : (a b : Bool) (n depth : ℕ) → cond (a && b) (Some n) None ≡ Some depth → Some n ≡ Some depth
within_told false b n depth h = absurd (false≢true (ap is_some h))
within_told true false n depth h = absurd (false≢true (ap is_some h))
within_told true true n depth h = h

depth_by : (most : ℕ) (o : Option ℕ) (depth : ℕ) → option_and_then (within 8 most) o ≡ Some depth → o ≡ Some depth
depth_by most None depth h = absurd (false≢true (ap is_some h))
depth_by most (Some n) depth h = within_told (nat_le 8 n) (nat_le n most) n depth h

pub depth_read : (most : ℕ) (line : List ℕ) (depth : ℕ) → depth_of_line most line ≡ Some depth → line ≡ decimal (2 ^ depth - 1)
unfolding depth_of_line
depth_read most line depth h = maximum_spelled line depth (depth_by most (maximum_depth line) depth h)

record LinedTold (most : ℕ) (text : List ℕ) (said : DeepHead) (rest : List ℕ) : Type 0 where
  sized : IsSized (colour_head said.head.width said.head.height)
  named : IsNamed said.depth (colour_head said.head.width said.head.height)
  most_is : said.depth ≤ most
  whole : text ≡ image_header_text said.depth said.head.width said.head.height ++ rest

header_with : (most : ℕ) (text one two rest magic line third : List ℕ) (depth : Option ℕ) (said : DeepHead) → text ≡ magic ++ 10 ∷ one → one ≡ line ++ 10 ∷ two → two ≡ third ++ 10 ∷ rest → depth_of_line most third ≡ depth → LinesTold magic line depth said → LinedTold most text said rest
header_with most text one two rest magic line third depth said p q r is t =
    let s = t.sizes in
    let d = said.depth in
    let last : depth_of_line most third ≡ Some said.depth = is ∙ s.deep in
    let spelled : third ≡ decimal (2 ^ said.depth - 1) = depth_read most third d last in
    let named = depth_is_named most third d (sym last) in
    let P : DeepHead → Type 0 = λ k. LinedTold most text k rest in
    let whole : text ≡ codes "P6\n" ++ ((decimal s.wide ++ 32 ∷ decimal s.high) ++ 10 ∷ (decimal (2 ^ said.depth - 1) ++ 10 ∷ rest)) = p ∙ (rw (t.first, q, s.spelled, r, spelled) refl) in
    subst P (sym s.is) (record { sized = s.sized; named = named.1 s.wide s.high; most_is = named.0; whole = whole ∙ sym (header_parts d s.wide s.high rest) })

pub record MaximumTold (most : ℕ) (text : List ℕ) (depth : Option ℕ) (rest : List ℕ) : Type 0 where
  pub line : List ℕ
  pub read : line_read (maximum_room most) text ≡ Ok (line, rest)
  pub is : depth_of_line most line ≡ depth

pub maximum_told : (most : ℕ) (text : List ℕ) (depth : Option ℕ) (rest : List ℕ) → maximum_read most text ≡ Ok (depth, rest) → MaximumTold most text depth rest
maximum_told most text depth rest h =
    let t = parted_by (line_read (maximum_room most) text) (λ line. give (depth_of_line most line)) depth rest h in
    let same : t.mid ≡ rest = ap rest_in t.goes_on in
    record { line = t.value; read = t.begins ∙ ap (λ z. Ok (t.value, z)) same; is = ap (value_in depth) t.goes_on }

lined_read : (most : ℕ) (text : List ℕ) (said : DeepHead) (rest : List ℕ) → lined_header most text ≡ Ok (said, rest) → LinedTold most text said rest
lined_read most text said rest h =
    let one = parted_by (line_read 3 text) (λ magic. line_read 10 then λ sizes. maximum_read most then λ depth. some_head (image_head magic sizes depth)) said rest h in
    let two = parted_by (line_read 10 one.mid) (λ sizes. maximum_read most then λ depth. some_head (image_head one.value sizes depth)) said rest one.goes_on in
    let three = parted_by (maximum_read most two.mid) (λ depth. some_head (image_head one.value two.value depth)) said rest two.goes_on in
    let last = some_told (image_head one.value two.value three.value) three.mid said rest three.goes_on in
    let third = maximum_told most two.mid three.value three.mid three.begins in
    let r : two.mid ≡ third.line ++ 10 ∷ rest = (line_was (maximum_room most) two.mid third.line three.mid third.read).whole ∙ ap (λ z. third.line ++ 10 ∷ z) last.1 in
    header_with most text one.mid two.mid rest one.value two.value third.line three.value said (line_was 3 text one.value one.mid one.begins).whole (line_was 10 one.mid two.value two.mid two.begins).whole r third.is (lines_read one.value two.value three.value said last.0)

-- a header that was read, of whatever kind
pub record HeaderTold (most : ℕ) (text : List ℕ) (said : DeepHead) (rest : List ℕ) : Type 0 where
  pub sized : IsSized (colour_head said.head.width said.head.height)
  pub named : IsNamed said.depth (colour_head said.head.width said.head.height)
  pub most_is : said.depth ≤ most
  pub header : List ℕ
  pub is : IsHeader most said.depth said.head.width said.head.height header
  pub whole : text ≡ header ++ rest

lined_told : (most : ℕ) (text : List ℕ) (said : DeepHead) (rest : List ℕ) → most ≤ 8 → LinedTold most text said rest → HeaderTold most text said rest
lined_told most text said rest few t = record {
  sized = t.sized;
  named = t.named;
  most_is = t.most_is;
  header = image_header_text said.depth said.head.width said.head.height;
  is = record { lined = λ again. refl; spaced = λ deep. absurd (omega (arith, few, deep)) };
  whole = t.whole;
}

spaced_told : (most : ℕ) (text : List ℕ) (said : DeepHead) (rest : List ℕ) → 8 < most → PartsTold most text said rest → HeaderTold most text said rest
spaced_told most text said rest deep t =
    let one = size_read t.wide t.width t.is_width in
    let two = size_read t.high t.height t.is_height in
    let spelled : t.top ≡ decimal (2 ^ t.depth - 1) = depth_read most t.top t.depth t.is_depth in
    let named = depth_is_named most t.top t.depth (sym t.is_depth) in
    let last : List ℕ = t.last ∷ [] in
    let header : List ℕ = codes "P6" ++ (t.before_width ++ (decimal t.width ++ (t.before_height ++ (decimal t.height ++ (t.before_greatest ++ (decimal (2 ^ t.depth - 1) ++ t.last ∷ [])))))) in
    let P : DeepHead → Type 0 = λ k. HeaderTold most text k rest in
    subst P (sym t.is) (record {
      sized = record { some_wide = one.some; wide = one.most; some_high = two.some; high = two.most };
      named = named.1 t.width t.height;
      most_is = named.0;
      header = header;
      is = record {
        lined = λ few. absurd (omega (arith, few, deep));
        spaced = λ again. record {
          before_width = t.before_width;
          before_height = t.before_height;
          before_greatest = t.before_greatest;
          last = t.last;
          first = t.first;
          second = t.second;
          third = t.third;
          white = t.white;
          whole = refl;
        };
      };
      whole = t.whole ∙ (rw (one.spelled, two.spelled, spelled) (sym (header_behind (codes "P6") t.before_width (decimal t.width) t.before_height (decimal t.height) t.before_greatest (decimal (2 ^ t.depth - 1)) t.last rest)));
    })

pub header_read : (most : ℕ) (text : List ℕ) (said : DeepHead) (rest : List ℕ) → image_header most text ≡ Ok (said, rest) → HeaderTold most text said rest
header_read most text said rest h = elim (cases_lt 8 most) [
  | inl deep ↦ spaced_told most text said rest deep (parts_told most text said rest (sym (header_is_spaced most text deep) ∙ h))
  | inr few ↦ lined_told most text said rest few (lined_read most text said rest (sym (header_is_lined most text few) ∙ h))
]

-- samples are their thirds
pub record SamplesTold (depth n : ℕ) (text : List ℕ) (p : List (List ℕ)) (rest : List ℕ) : Type 0 where
  pub fits : AreColours n p
  pub small : AreInDepth depth p
  pub whole : text ≡ samples_text depth p ++ rest

front_long : (n : ℕ) (text : List ℕ) → n ≤ length text → length (take n text) ≡ n
front_long n text h = length-take n text ∙ (omega (arith, h))

samples_with : (depth n : ℕ) (text xs : List ℕ) (p : List (List ℕ)) (rest : List ℕ) → half_of depth n ≡ 0 → length xs ≡ 3 * n → text ≡ xs ++ rest → parted depth xs ≡ p → AreInDepth depth p → SamplesTold depth n text p rest
samples_with depth n text xs p rest half long whole parts small =
    let P : List (List ℕ) → Type 0 = λ z. AreInDepth depth z → SamplesTold depth n text z rest in
    subst P parts (λ few. record {
      fits = record {
        red = third_of depth 0 xs;
        green = third_of depth 1 xs;
        blue = third_of depth 2 xs;
        planes_are = refl;
        red_long = length-third depth n 0 xs long half (omega arith);
        green_long = length-third depth n 1 xs long half (omega arith);
        blue_long = length-third depth n 2 xs long half (omega arith);
      };
      small = few;
      whole = whole ∙ ap (λ z. z ++ rest) (sym (interleaved-parted depth n xs long half));
    }) small

samples_read : (depth n : ℕ) (text : List ℕ) (p : List (List ℕ)) (rest : List ℕ) → half_of depth n ≡ 0 → colours_read depth n text ≡ Ok (p, rest) → SamplesTold depth n text p rest
samples_read depth n text p rest half h =
    let t = told depth n text p rest h in
    let whole : text ≡ take (3 * n) text ++ rest = sym (take-append-drop (3 * n) text) ∙ ap (λ z. take (3 * n) text ++ z) t.left in
    samples_with depth n text (take (3 * n) text) p rest half (front_long (3 * n) text t.enough) whole t.parts t.small

-- the samples of the first image
pub first_read : (depth n : ℕ) (text : List ℕ) (p : List (List ℕ)) (rest : List ℕ) → half_of depth n ≡ 0 → where_begun (colours_read depth n) true text ≡ Ok (Some p, rest) → SamplesTold depth n text p rest
first_read depth n text p rest half h =
    let t = parted_by (colours_read depth n text) (λ x. give (Some x)) (Some p) rest h in
    let a = samples_read depth n text t.value t.mid half t.begins in
    let P : List (List ℕ) → Type 0 = λ z. SamplesTold depth n text z t.mid in
    let Q : List ℕ → Type 0 = λ z. SamplesTold depth n text p z in
    subst Q (ap rest_in t.goes_on) (subst P (ap (λ r. some_in [] (value_in None r)) t.goes_on) a)

-- a later image
record SameFormat (said next : DeepHead) (text rest : List ℕ) : Type 0 where
  wide : said.head.width ≡ next.head.width
  high : said.head.height ≡ next.head.height
  deep : said.depth ≡ next.depth
  left : text ≡ rest

same_by : (a b c : Bool) (said next : DeepHead) (text rest : List ℕ) → (said.head.width == next.head.width) ≡ a → (said.head.height == next.head.height) ≡ b → (said.depth == next.depth) ≡ c → cond (a && (b && c)) (give true) (refuse fault.FormatChanged) text ≡ Ok (true, rest) →
    SameFormat said next text rest
same_by false b c said next text rest p q r h = absurd (true≢false (ap is_fault h))
same_by true false c said next text rest p q r h = absurd (true≢false (ap is_fault h))
same_by true true false said next text rest p q r h = absurd (true≢false (ap is_fault h))
same_by true true true said next text rest p q r h = record { wide = eqb-true _ _ p; high = eqb-true _ _ q; deep = eqb-true _ _ r; left = ap rest_in h }

pub record LaterTold (most : ℕ) (said : DeepHead) (text rest : List ℕ) : Type 0 where
  pub header : List ℕ
  pub is : IsHeader most said.depth said.head.width said.head.height header
  pub whole : text ≡ header ++ rest
  pub most_is : said.depth ≤ most

later_with : (most : ℕ) (said next : DeepHead) (text mid rest : List ℕ) → HeaderTold most text next mid → SameFormat said next mid rest → LaterTold most said text rest
later_with most said next text mid rest t same = record { header = t.header; is = rw (same.wide, same.high, same.deep) t.is; whole = t.whole ∙ ap (λ z. t.header ++ z) same.left; most_is = rw same.deep t.most_is }

later_by : (most : ℕ) (said : DeepHead) (text rest : List ℕ) → (image_header most then same_format said) text ≡ Ok (true, rest) → LaterTold most said text rest
later_by most said text rest h =
    let t = parted_by (image_header most text) (same_format said) true rest h in
    let same = same_by (said.head.width == t.value.head.width) (said.head.height == t.value.head.height) (said.depth == t.value.depth) said t.value t.mid rest refl refl refl t.goes_on in
    later_with most said t.value text t.mid rest (header_read most text t.value t.mid t.begins) same

abbrev bool_in : Outcome Bool → Bool
bool_in (Ok p) = p.0
bool_in (Err f) = false

pub begun_read : (most : ℕ) (said : DeepHead) (text rest : List ℕ) → image_begun most said text ≡ Ok (true, rest) → LaterTold most said text rest
begun_read most said [] rest h = absurd (false≢true (ap bool_in h))
begun_read most said (c ∷ cs) rest h = later_by most said (c ∷ cs) rest h

not_same : (a : Bool) (text rest : List ℕ) → cond a (give true) (refuse fault.FormatChanged) text ≡ Ok (false, rest) → ⊥
not_same false text rest h = true≢false (ap is_fault h)
not_same true text rest h = true≢false (ap bool_in h)

ended_read : (most : ℕ) (said : DeepHead) (text rest : List ℕ) → image_begun most said text ≡ Ok (false, rest) → text ≡ []
ended_read most said [] rest h = refl
ended_read most said (c ∷ cs) rest h =
    let t = parted_by (image_header most (c ∷ cs)) (same_format said) false rest h in
    absurd (not_same (said.head.width == t.value.head.width && (said.head.height == t.value.head.height && said.depth == t.value.depth)) t.mid rest t.goes_on)

pub record ImageTold (most : ℕ) (said : DeepHead) (text : List ℕ) (p : List (List ℕ)) (rest : List ℕ) : Type 0 where
  pub fits : AreColours (image_bytes said) p
  pub small : AreInDepth said.depth p
  pub header : List ℕ
  pub is : IsHeader most said.depth said.head.width said.head.height header
  pub whole : text ≡ header ++ (samples_text said.depth p ++ rest)

pub whole_image : (said : DeepHead) → half_of said.depth (image_bytes said) ≡ 0
whole_image said = whole_samples said.depth (said.head.width * said.head.height)

image_with : (most : ℕ) (said : DeepHead) (text mid : List ℕ) (p : List (List ℕ)) (rest : List ℕ) (b : Bool) → image_begun most said text ≡ Ok (b, mid) → image_rest said b mid ≡ Ok (Some p, rest) → ImageTold most said text p rest
image_with most said text mid p rest false begins h = absurd (false≢true (ap (λ r. is_some (value_in None r)) h))
image_with most said text mid p rest true begins h =
    let a = begun_read most said text mid begins in
    let b = first_read said.depth (image_bytes said) mid p rest (whole_image said) h in
    record { fits = b.fits; small = b.small; header = a.header; is = a.is; whole = a.whole ∙ ap (λ z. a.header ++ z) b.whole }

pub image_told : (most : ℕ) (said : DeepHead) (text : List ℕ) (p : List (List ℕ)) (rest : List ℕ) → image_read most said false text ≡ Ok (Some p, rest) → ImageTold most said text p rest
image_told most said text p rest h =
    let t = parted_by (image_begun most said text) (image_rest said) (Some p) rest h in
    image_with most said text t.mid p rest t.value t.begins t.goes_on

end_with : (most : ℕ) (said : DeepHead) (text mid rest : List ℕ) (b : Bool) → image_begun most said text ≡ Ok (b, mid) → image_rest said b mid ≡ Ok (None, rest) → text ≡ []
end_with most said text mid rest false begins h = ended_read most said text mid begins
end_with most said text mid rest true begins h =
    let t = parted_by (colours_read said.depth (image_bytes said) mid) (λ x. give (Some x)) None rest h in
    absurd (true≢false (ap (λ r. is_some (value_in None r)) t.goes_on))

pub end_told : (most : ℕ) (said : DeepHead) (text rest : List ℕ) → image_read most said false text ≡ Ok (None, rest) → text ≡ []
end_told most said text rest h =
    let t = parted_by (image_begun most said text) (image_rest said) None rest h in
    end_with most said text t.mid rest t.value t.begins t.goes_on

record ImagesTold (most : ℕ) (said : DeepHead) (text : List ℕ) (ps : List (List (List ℕ))) : Type 0 where
  fit : AllColours said.depth (image_bytes said) ps
  spelled : AreSpelled most said.depth said.head.width said.head.height text ps

images_told : (most : ℕ) (said : DeepHead) (text : List ℕ) (ps : List (List (List ℕ))) → ReadsImages most said text ps → ImagesTold most said text ps
images_told most said text [] reads = record { fit = tt; spelled = end_told most said text [] reads }
images_told most said text (p ∷ ps) reads =
    let a = image_told most said text p reads.0 reads.1 in
    let b = images_told most said reads.0 ps reads.2 in
    record { fit = ((a.fits, a.small), b.fit); spelled = (a.header, reads.0, a.is, a.whole, b.spelled) }

all_by : (most : ℕ) (text : List ℕ) (said : DeepHead) (rest : List ℕ) (p : List (List ℕ)) (ps : List (List (List ℕ))) → image_header most text ≡ Ok (said, rest) → ReadsFrom most said rest p ps →
    IsImagesIn most text said.depth said.head.width said.head.height (p ∷ ps)
all_by most text said rest p ps h reads =
    let t = header_read most text said rest h in
    let a = first_read said.depth (image_bytes said) rest p reads.0 (whole_image said) reads.1 in
    let b = images_told most said reads.0 ps reads.2 in
    record {
      sized = t.sized;
      named = t.named;
      spelled = (t.header, reads.0, t.is, t.whole ∙ ap (λ z. t.header ++ z) a.whole, b.spelled);
      fit = ((a.fits, a.small), b.fit);
    }

pub all_spelled_read : (text : List ℕ) (most depth : ℕ) (head : VideoHead) (rest : List ℕ) (p : List (List ℕ)) (ps : List (List (List ℕ))) → image_header most text ≡ Ok (record { head = head; depth = depth }, rest) → ReadsFrom most (record { head = head; depth = depth }) rest p ps →
    IsImagesIn most text depth head.width head.height (p ∷ ps)
all_spelled_read text most depth head rest p ps h reads = all_by most text (record { head = head; depth = depth }) rest p ps h reads

pub all_images_read : (text : List ℕ) (most depth : ℕ) (head : VideoHead) (rest : List ℕ) (p : List (List ℕ)) (ps : List (List (List ℕ))) → most ≤ 8 → image_header most text ≡ Ok (record { head = head; depth = depth }, rest) → ReadsFrom most (record { head = head; depth = depth }) rest p ps →
    IsImages text depth head.width head.height (p ∷ ps)
all_images_read text most depth head rest p ps few h reads = images_lined text most depth head.width head.height (p ∷ ps) few (all_spelled_read text most depth head rest p ps h reads)
