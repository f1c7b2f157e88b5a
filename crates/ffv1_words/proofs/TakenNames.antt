-- A value that passes is a number, a flag or a word that an order can name.
use Rattle.std.proofs.Common.{◌≡◌, ◌∙◌, ◌≤◌, ◌==◌, ◌||◌, cond, inl, inr, subst, ℕ, refl, sym, ap, arith, List, [], ◌∷◌, Bool, true, false, drop, Some, None, true≢false, codes, map}
use Rattle.std.specs.Prelude.{pos, unwrap_or}
use Rattle.std.specs.List.{list_any}
use Rattle.std.specs.Str.{bytes_eq}
use Rattle.std.specs.Str.Parse.{IsNumeral, digits_value, starts_with_minus, without_leading_plus}
use Rattle.std.specs.Borrow.{Bor}
use Rattle.std.proofs.lemmas.Bool.{cases_eq, ne_eqb}
use Rattle.std.proofs.lemmas.Int.{ints}
use Rattle.std.proofs.lemmas.Slice.Eq.{bytes_eq-Decides}
use Rattle.std.proofs.lemmas.Str.Parse.{digit_from_value}
use Rattle.clap.specs.Lexer.{without_minus}
use Rattle.clap.specs.Values.{IsSignedIn}
use Rattle.clap.specs.ValueTests.{accepts}
use Rattle.clap.specs.Walk.{Row, Text, first_of, one_of}
use Rattle.clap.specs.declared.builder.value_parser.ValueParser.TheVariants as parser
use Rattle.clap.proofs.ValueTestLemmas.{accepts-Accepts}
use Rattle.clap.proofs.WalkLemmas.{list_any-map}
use Rattle.ffv1_words.specs.CommandLine.{AreCodecIds, AreContainers, AreContexts, AreRanges, AreSitings, Words}
use Rattle.ffv1_words.specs.Order.{NamesFlag, NamesNumber, bit_number, codec_id_word, coder_number, container_word, contexts_word, range_word, siting_word}
use Rattle.ffv1_words.specs.declared.order.CodecIdChoice.{CodecIdChoice}
use Rattle.ffv1_words.specs.declared.order.CodecIdChoice.TheVariants as codec_id
use Rattle.ffv1_words.specs.declared.order.CoderChoice.{CoderChoice}
use Rattle.ffv1_words.specs.declared.order.CoderChoice.TheVariants as coder
use Rattle.ffv1_words.specs.declared.order.ContainerChoice.{ContainerChoice}
use Rattle.ffv1_words.specs.declared.order.ContainerChoice.TheVariants as container
use Rattle.ffv1_words.specs.declared.order.RangeChoice.{RangeChoice}
use Rattle.ffv1_words.specs.declared.order.RangeChoice.TheVariants as range
use Rattle.ffv1_words.specs.declared.order.SitingChoice.{SitingChoice}
use Rattle.ffv1_words.specs.declared.order.SitingChoice.TheVariants as siting
use Rattle.ffv1_words.proofs.TakenRows.{either}

-- ---- numbers

without_minus-cond : (t : Text) → without_minus t ≡ cond (starts_with_minus t) (drop 1 t) t
without_minus-cond [] = refl
without_minus-cond (x ∷ xs) = go (x == 45)
  where
    go : (b : Bool) → unwrap_or (cond b (Some xs) None) (x ∷ xs) ≡ cond b xs (x ∷ xs)
    go true = refl
    go false = refl

no_plus : (ds : Text) → IsNumeral 10 ds → without_leading_plus ds ≡ ds
no_plus [] h = refl
no_plus (d ∷ ds) h =
    let plus : (d == 43) ≡ false = ne_eqb _ _ (λ e. omega (arith, digit_from_value d h.1.0)) in
    ap (λ (b : Bool). drop (cond b 1 0) (d ∷ ds)) plus

-- a numeral of a number from low to high
abbrev IsNumeralIn : ℕ → ℕ → Text → Type 0
IsNumeralIn low high t = IsNumeral 10 (without_leading_plus t) × (low ≤ digits_value 10 (without_leading_plus t)) × (digits_value 10 (without_leading_plus t) ≤ high)

-- a text that passed a range with no negative number is a numeral in it, but for its hyphen
numeral_in : (low high : ℕ) (t : Text) → IsSignedIn (pos low) (pos high) t → IsNumeralIn low high (without_minus t)
numeral_in low high t passed = subst (IsNumeralIn low high) (sym (without_minus-cond t)) (go (starts_with_minus t) refl)
  where
    go : (b : Bool) → starts_with_minus t ≡ b → IsNumeralIn low high (cond b (drop 1 t) t)
    go true minus =
        let low_ok = rw minus at passed.2 in
        let high_ok = rw minus at passed.3 in
        let numeral : IsNumeral 10 (drop 1 t) = rw minus at passed.0 in
        let same = no_plus (drop 1 t) numeral in
        (rw same numeral, rw same (omega (arith, ints)), rw same (omega (arith, ints)))
    go false minus =
        let low_ok = rw minus at passed.2 in
        let high_ok = rw minus at passed.3 in
        let numeral = rw minus at passed.0 in
        (numeral, omega (arith, ints), omega (arith, ints))

pub number_named : (rows : List Row) (id : Text) (low high : ℕ) (t : Text) → one_of id rows ≡ Some (without_minus t)
    → accepts false (parser.Signed (pos low) (pos high)) t ≡ true → (n : ℕ) × NamesNumber rows id low high n
number_named rows id low high t reads passes =
    let numeral = numeral_in low high t (accepts-Accepts false (parser.Signed (pos low) (pos high)) t passes) in
    (digits_value 10 (without_leading_plus (without_minus t)), (without_minus t, reads, numeral.0, refl, numeral.1, numeral.2))

-- a number of two is one of both
pub coder_named : (rows : List Row) (id : Text) (n : ℕ) → NamesNumber rows id 1 2 n → (c : CoderChoice) × NamesNumber rows id 1 2 (coder_number c)
coder_named rows id n named = elim (cases_eq n 1) [
  | inl one ↦ (coder.Standard, subst (NamesNumber rows id 1 2) one named)
  | inr two ↦ (coder.Carried, subst (NamesNumber rows id 1 2) (let differ = two in let low = named.4 in let high = named.5 in omega arith) named)
]

pub bit_named : (rows : List Row) (id : Text) (n : ℕ) → NamesNumber rows id 0 1 n → (b : Bool) × NamesNumber rows id 0 1 (bit_number b)
bit_named rows id n named = elim (cases_eq n 0) [
  | inl none ↦ (false, subst (NamesNumber rows id 0 1) none named)
  | inr one ↦ (true, subst (NamesNumber rows id 0 1) (let differ = one in let high = named.5 in omega arith) named)
]

-- ---- words

is_text : (x y : Text) → bytes_eq x y ≡ true → x ≡ y
is_text x y e = (bytes_eq-Decides x y).0 e

pub flag_named : (rows : List Row) (id t : Text) → first_of id rows ≡ Some t → accepts false parser.Bool t ≡ true → (b : Bool) × NamesFlag rows id b
flag_named rows id t is passes = elim (either (bytes_eq t (codes "true")) (bytes_eq t (codes "false")) passes) [
  | inl set ↦ (true, is ∙ ap Some (is_text t (codes "true") set))
  | inr unset ↦ (false, is ∙ ap Some (is_text t (codes "false") unset))
]

among : (words : Words) (texts : List Text) (t : Text) → map (λ (w : Bor Text). w.now) words.now ≡ texts → accepts false (parser.Names words) t ≡ true
    → list_any (λ (x : Text). bytes_eq x t) texts ≡ true
among words texts t are passes =
    let mapped = list_any-map (λ (x : Text). bytes_eq x t) (λ (w : Bor Text). w.now) words.now in
    sym (ap (list_any (λ (x : Text). bytes_eq x t)) are) ∙ sym mapped ∙ passes

pub contexts_named : (rows : List Row) (id : Text) (words : Words) (t : Text) → AreContexts words → first_of id rows ≡ Some t → accepts false (parser.Names words) t ≡ true
    → (b : Bool) × (first_of id rows ≡ Some (contexts_word b))
contexts_named rows id words t are is passes = elim (either (bytes_eq (codes "small") t) (bytes_eq (codes "large") t || false) (among words (codes "small" ∷ codes "large" ∷ []) t are passes)) [
  | inl small ↦ (false, is ∙ ap Some (sym (is_text (codes "small") t small)))
  | inr more ↦ elim (either (bytes_eq (codes "large") t) false more) [
    | inl large ↦ (true, is ∙ ap Some (sym (is_text (codes "large") t large)))
    | inr none ↦ absurd (true≢false (sym none))
  ]
]

pub codec_id_named : (rows : List Row) (id : Text) (words : Words) (t : Text) → AreCodecIds words → first_of id rows ≡ Some t → accepts false (parser.Names words) t ≡ true
    → (c : CodecIdChoice) × (first_of id rows ≡ Some (codec_id_word c))
codec_id_named rows id words t are is passes = elim (either (bytes_eq (codes "native") t) (bytes_eq (codes "vfw") t || false) (among words (codes "native" ∷ codes "vfw" ∷ []) t are passes)) [
  | inl native ↦ (codec_id.Native, is ∙ ap Some (sym (is_text (codes "native") t native)))
  | inr more ↦ elim (either (bytes_eq (codes "vfw") t) false more) [
    | inl vfw ↦ (codec_id.Vfw, is ∙ ap Some (sym (is_text (codes "vfw") t vfw)))
    | inr none ↦ absurd (true≢false (sym none))
  ]
]

pub container_named : (rows : List Row) (id : Text) (words : Words) (t : Text) → AreContainers words → first_of id rows ≡ Some t → accepts false (parser.Names words) t ≡ true
    → (c : ContainerChoice) × (first_of id rows ≡ Some (container_word c))
container_named rows id words t are is passes =
    elim (either (bytes_eq (codes "auto") t) (bytes_eq (codes "avi") t || (bytes_eq (codes "mkv") t || false)) (among words (codes "auto" ∷ codes "avi" ∷ codes "mkv" ∷ []) t are passes)) [
      | inl auto ↦ (container.Auto, is ∙ ap Some (sym (is_text (codes "auto") t auto)))
      | inr more ↦ elim (either (bytes_eq (codes "avi") t) (bytes_eq (codes "mkv") t || false) more) [
        | inl avi ↦ (container.Avi, is ∙ ap Some (sym (is_text (codes "avi") t avi)))
        | inr last ↦ elim (either (bytes_eq (codes "mkv") t) false last) [
          | inl mkv ↦ (container.Matroska, is ∙ ap Some (sym (is_text (codes "mkv") t mkv)))
          | inr none ↦ absurd (true≢false (sym none))
        ]
      ]
    ]

pub range_named : (rows : List Row) (id : Text) (words : Words) (t : Text) → AreRanges words → first_of id rows ≡ Some t → accepts false (parser.Names words) t ≡ true
    → (c : RangeChoice) × (first_of id rows ≡ Some (range_word c))
range_named rows id words t are is passes = elim (either (bytes_eq (codes "auto") t) (bytes_eq (codes "limited") t || (bytes_eq (codes "full") t || false)) (among words (codes "auto" ∷ codes "limited" ∷ codes "full" ∷ []) t are passes)) [
  | inl here ↦ (range.Auto, is ∙ ap Some (sym (is_text (codes "auto") t here)))
  | inr more ↦ elim (either (bytes_eq (codes "limited") t) (bytes_eq (codes "full") t || false) more) [
    | inl here ↦ (range.Limited, is ∙ ap Some (sym (is_text (codes "limited") t here)))
    | inr more ↦ elim (either (bytes_eq (codes "full") t) false more) [
      | inl here ↦ (range.Full, is ∙ ap Some (sym (is_text (codes "full") t here)))
      | inr none ↦ absurd (true≢false (sym none))
    ]
  ]
]

pub siting_named : (rows : List Row) (id : Text) (words : Words) (t : Text) → AreSitings words → first_of id rows ≡ Some t → accepts false (parser.Names words) t ≡ true
    → (c : SitingChoice) × (first_of id rows ≡ Some (siting_word c))
siting_named rows id words t are is passes = elim (either (bytes_eq (codes "auto") t) (bytes_eq (codes "left") t || (bytes_eq (codes "centre") t || (bytes_eq (codes "topleft") t || false))) (among words (codes "auto" ∷ codes "left" ∷ codes "centre" ∷ codes "topleft" ∷ []) t are passes)) [
  | inl here ↦ (siting.Auto, is ∙ ap Some (sym (is_text (codes "auto") t here)))
  | inr more ↦ elim (either (bytes_eq (codes "left") t) (bytes_eq (codes "centre") t || (bytes_eq (codes "topleft") t || false)) more) [
    | inl here ↦ (siting.Left, is ∙ ap Some (sym (is_text (codes "left") t here)))
    | inr more ↦ elim (either (bytes_eq (codes "centre") t) (bytes_eq (codes "topleft") t || false) more) [
      | inl here ↦ (siting.Centre, is ∙ ap Some (sym (is_text (codes "centre") t here)))
      | inr more ↦ elim (either (bytes_eq (codes "topleft") t) false more) [
        | inl here ↦ (siting.TopLeft, is ∙ ap Some (sym (is_text (codes "topleft") t here)))
        | inr none ↦ absurd (true≢false (sym none))
      ]
    ]
  ]
]
