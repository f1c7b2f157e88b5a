-- What a head says of siting and range, if depths above 8 are read and if not.
use Rattle.std.proofs.Common.{◌≡◌, ℕ, ◌≤◌, ◌<◌, nat_lt, Bool, true, false, List, [], ◌∷◌, Option, Some, None, Ok, refl, ap, ◌∙◌, sym, subst}
use Rattle.std.proofs.lemmas.Bool.{le-ltb, lt-ltb, true≢false, false≢true}
use Rattle.ffv1_y4m.specs.declared.head.Siting.{Siting}
use Rattle.ffv1_y4m.specs.declared.head.VideoHead.{VideoHead}
use Rattle.ffv1_y4m.specs.Canonical.{as_said}
use Rattle.ffv1_y4m.specs.Header.{chroma_named, chroma_planes, header_of, range_of}
use Rattle.ffv1_y4m.specs.HeaderLine.{AtMostOnce, IsHeaderLine, Perhaps, chroma_in, ranging, values_of}
use Rattle.ffv1_y4m.specs.VideoHead.{IsNamed, SaysNeither, has_siting}
use Rattle.ffv1_y4m.proofs.HeaderLines.{line_only}
use Rattle.ffv1_y4m.proofs.SaidHeads.{most_is, some_is}
use Rattle.ffv1_y4m.proofs.Sizes.{IsUnsited, named_unsited}
use Rattle.ffv1_y4m.proofs.Texts.{header_told}

-- ---- up to 8 bits

none_ranging : (values : List (List ℕ)) → ranging false values ≡ []
none_ranging [] = refl
none_ranging (value ∷ values) = none_ranging values

nothing_perhaps : {X : Type 0} (says : List ℕ → X → Type 0) (values : List (List ℕ)) (said : Option X) → values ≡ [] → Perhaps says values said → said ≡ None
nothing_perhaps says values said none h = subst (λ z. Perhaps says z said) none h

neither_by : (most : ℕ) (depth : ℕ) (h : VideoHead) (chroma ranges : List (List ℕ)) (deep : Bool) → deep ≡ false → AtMostOnce (λ value c. chroma_named deep value ≡ Some c) (chroma_planes 1 1) chroma (chroma_in depth h) → Perhaps (λ value r. range_of deep value ≡ Some r) (ranging deep ranges) h.range → SaysNeither h
neither_by most depth h chroma ranges true read named ranged = absurd (true≢false read)
neither_by most depth h chroma ranges false read named ranged = (
  most_is IsUnsited (λ value c. chroma_named false value ≡ Some c) (chroma_planes 1 1) chroma (chroma_in depth h) refl (λ value e. some_is IsUnsited (chroma_named false value) (chroma_in depth h) (named_unsited value).value e) named,
  nothing_perhaps (λ value r. range_of false value ≡ Some r) (ranging false ranges) h.range (none_ranging ranges) ranged,
)

pub line_neither : (most : ℕ) (line : List ℕ) (depth : ℕ) (h : VideoHead) → IsHeaderLine most line depth h → most ≤ 8 → SaysNeither h
line_neither most line depth h l strict = neither_by most depth h (values_of 67 l.tags) (values_of 88 l.tags) (nat_lt 8 most) (le-ltb 8 most strict) l.chroma l.range

pub header_neither : (most : ℕ) (text : List ℕ) (depth : ℕ) (h : VideoHead) (rest : List ℕ) → header_of most text ≡ Ok (record { head = h; depth = depth }, rest) → most ≤ 8 → SaysNeither h
header_neither most text depth h rest is strict =
    let t = header_told most text (record { head = h; depth = depth }) rest is in
    line_neither most t.line depth h (line_only t.line most (record { head = h; depth = depth }) t.head).0 strict

-- ---- above 8 bits

siting_again : (h : VideoHead) (s : Option Siting) → s ≡ h.siting → record h { siting = s } ≡ h
siting_again h s same = ap (λ z. record h { siting = z }) same

again_by : (most depth : ℕ) (h : VideoHead) (deep b : Bool) (s : Option Siting) → nat_lt 8 most ≡ deep → deep ≡ true → has_siting depth h.chroma_planes h.log2_h h.log2_v ≡ b → h.siting ≡ s → (s ≡ None → b ≡ false) → (b ≡ false → s ≡ None) → as_said most depth h ≡ h
again_by most depth h false b s test read sited is full named = absurd (false≢true read)
again_by most depth h true true None test read sited is full named = absurd (true≢false (full refl))
again_by most depth h true true (Some s) test read sited is full named = rw (sited, test, is) refl
again_by most depth h true false s test read sited is full named = rw (sited, test) (siting_again h None (sym (is ∙ named refl)))

pub sited_again : (most depth : ℕ) (h : VideoHead) → IsNamed depth h → 8 < most → (h.siting ≡ None → has_siting depth h.chroma_planes h.log2_h h.log2_v ≡ false) → as_said most depth h ≡ h
sited_again most depth h named deep full = again_by most depth h (nat_lt 8 most) _ h.siting refl (lt-ltb 8 most deep) refl refl full named.sited
