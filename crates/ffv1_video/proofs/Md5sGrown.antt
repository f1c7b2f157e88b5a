-- The text of pictures grows by that of the next one.
use Rattle.std.proofs.Common.{◌≡◌, refl, ℕ, suc, ◌+◌, ◌<◌, ◌==◌, Bool, false, if◌then◌else◌, List, [], ◌∷◌, ◌++◌, length, ap, sym, ◌∙◌, arith, append-nil, append_assoc}
use Rattle.std.proofs.lemmas.Bool.Decides.{nat_tests}
use Rattle.md5.specs.Md5.{md5}
use Rattle.ffv1_range.specs.Counts.{saturated}
use Rattle.ffv1_frame.specs.Picture.{Planes}
use Rattle.ffv1_y4m.specs.declared.head.VideoHead.{VideoHead}
use Rattle.ffv1_video.specs.Md5Text.{line_of, md5_head, md5_line, md5_lines, md5_text}
use Rattle.ffv1_video.specs.Md5Text.{next_md5}
use Rattle.ffv1_video.specs.RawPicture.{raw_bytes}

module _ (rct : Bool) (depth : ℕ) where
  abbrev pub line : ℕ → Planes → List ℕ
  line i p = md5_line i (raw_bytes rct depth p)

  pub lines_more : (i : ℕ) (ps : List Planes) (p : Planes) → md5_lines rct depth i (ps ++ (p ∷ [])) ≡ md5_lines rct depth i ps ++ line (i + length ps) p
  lines_more i [] p =
      let same : i ≡ i + 0 = omega arith in
      append-nil (line i p) ∙ ap (λ n. line n p) same
  lines_more i (q ∷ qs) p =
      let same : suc i + length qs ≡ i + suc (length qs) = omega arith in
      ap (λ z. line i q ++ z) (lines_more (suc i) qs p)
      ∙ sym (append_assoc (line i q) (md5_lines rct depth (suc i) qs) (line (suc i + length qs) p))
      ∙ ap (λ n. (line i q ++ md5_lines rct depth (suc i) qs) ++ line n p) same

  -- a count says the same of a line as its number
  pub counted_line : (number n : ℕ) (p : Planes) → number ≡ saturated n → line n p ≡ line number p
  counted_line number n p is =
      let bytes = raw_bytes rct depth p in
      let twice : saturated n ≡ saturated number = omega (arith, is) in
      ap (λ k. line_of k (saturated (length bytes)) (md5 bytes)) twice

pub not_first : (n : ℕ) (h : VideoHead) (rest : List ℕ) → 0 < n → (if n == 0 then md5_head h else []) ++ rest ≡ rest
not_first n h rest some =
    let other : (n == 0) ≡ false = grind (arith, nat_tests) in
    rw other refl

-- the text of pictures grows by that of the next one
pub text_grows : (rct : Bool) (depth : ℕ) (h : VideoHead) (ps : List Planes) (p : Planes) (number : ℕ) → number ≡ saturated (length ps) →
    md5_text rct depth h (ps ++ (p ∷ [])) ≡ md5_text rct depth h ps ++ next_md5 rct depth h number p
text_grows rct depth h [] p number is =
    let first : number ≡ 0 = omega (arith, is) in
    let bytes = raw_bytes rct depth p in
    ap (λ z. md5_head h ++ z) (append-nil (md5_line 0 bytes)) ∙ ap (λ n. (if n == 0 then md5_head h else []) ++ md5_line n bytes) (sym first)
text_grows rct depth h (q ∷ qs) p number is =
    let some : 0 < number = omega (arith, is) in
    let head = md5_head h in
    let ps = q ∷ qs in
    let long : 0 + length ps ≡ length ps = omega arith in
    let bytes = raw_bytes rct depth p in
    ap (λ z. head ++ z) (lines_more rct depth 0 ps p)
    ∙ sym (append_assoc head (md5_lines rct depth 0 ps) (md5_line (0 + length ps) bytes))
    ∙ ap (λ n. (head ++ md5_lines rct depth 0 ps) ++ md5_line n bytes) long
    ∙ ap (λ z. (head ++ md5_lines rct depth 0 ps) ++ z) (counted_line rct depth number (length ps) p is ∙ sym (not_first number h (md5_line number bytes) some))
