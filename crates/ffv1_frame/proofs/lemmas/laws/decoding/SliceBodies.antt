-- What a slice has read is the list of its lines.
use Rattle.std.proofs.Common.{◌≡◌, ◌≢◌, ◌⊎◌, refl, ℕ, ℤ, Bool, true, false, zero, suc, ◌+◌, ◌*◌, ◌<◌, ◌≤◌, List, [], ◌∷◌, ◌++◌, length, get_or, set, inl, inr, ap, sym, subst, ◌∙◌, arith, length-set, length-append, append-nil, append_assoc, get_or-set_same, get_or-set_other}
use Rattle.std.proofs.lemmas.Bool.{cases_eq, cases_Bool}
use Rattle.std.proofs.lemmas.List.{get_or_append_left}
use Rattle.ffv1_range.specs.Codes.{Codes}
use Rattle.ffv1_range.specs.Symbols.{Step, shifted}
use Rattle.ffv1_range.specs.History.{decisions_after}
use Rattle.ffv1_plane.specs.Quantisation.{Set}
use Rattle.ffv1_line.specs.Cell.{Cell, Agree, cell_of}
use Rattle.ffv1_line.specs.Row.{AreSuiting, row_steps}
use Rattle.ffv1_record.specs.Configuration.{Configuration}
use Rattle.ffv1_record.specs.Accepted.{Accepted}
use Rattle.ffv1_slice.specs.declared.head.SliceHead.{SliceHead}
use Rattle.ffv1_slice.specs.Head.{IsHead, key_steps, head_steps}
use Rattle.ffv1_frame.specs.Picture.{Planes, plane, plane_count}
use Rattle.ffv1_frame.specs.SliceList.{Line, IsBody, line_steps, set_in, bits_of, base_of}
use Rattle.ffv1_frame.specs.Order.{Event, IsLastLine}
use Rattle.ffv1_frame.specs.Decoding.{Slice, slice_number, width_in, bits_of_line, coder_of_line}
use Rattle.ffv1_frame.proofs.lemmas.laws.decoding.Machines.{Each, each_append}
use Rattle.ffv1_frame.proofs.lemmas.laws.decoding.OneLine.{in_rows}
use Rattle.ffv1_frame.proofs.lemmas.laws.decoding.LinesRead.{read_at}
use Rattle.ffv1_frame.proofs.lemmas.laws.decoding.ColumnSteps.{ReadsNext}
use Rattle.ffv1_frame.specs.Overread.{IsWithin}
use Rattle.ffv1_frame.specs.Ending.{IsBehind, SliceEnds}
use Rattle.ffv1_frame.specs.CodedSlice.{IsBodyOf}
use Rattle.ffv1_frame.specs.RiceLines.{ByCoder, fresh_coder, line_bits, line_after, lines_bits, lines_after, rice_bits}
use Rattle.ffv1_record.specs.Accepted.{is_rice}
use Rattle.ffv1_frame.proofs.lemmas.laws.rice.BitBodies.{bits_append, after_append, bits_none, after_none, bits_first, after_first, bits_alike, after_alike, bits_added, after_added}
use Rattle.ffv1_frame.proofs.lemmas.laws.decoding.LastLine.{same_last}

-- the laws of cells that agree
pub record CellLaws : Type 0 where
  pub steps : (set : Set) (c d : Cell) (y x : ℕ) (qs : List ℤ) → Agree c d y → row_steps set c y x qs ≡ row_steps set d y x qs
  pub suits : (set : Set) (bits : ℕ) (c d : Cell) (y x : ℕ) (qs : List ℤ) → Agree c d y → AreSuiting set bits c y x qs → AreSuiting set bits d y x qs

-- planes by their numbers
pub plane_is : (planes : Planes) (p : ℕ) → plane planes p ≡ get_or planes p []
plane_is [] p = refl
plane_is (xs ∷ planes) zero = refl
plane_is (xs ∷ planes) (suc p) = plane_is planes p

pub plane_put : (planes : Planes) (p : ℕ) (xs : List ℕ) → p < length planes → plane (set planes p xs) p ≡ xs
plane_put planes p xs inside = plane_is (set planes p xs) p ∙ get_or-set_same planes p xs [] inside

pub plane_beside : (planes : Planes) (p q : ℕ) (xs : List ℕ) → q ≢ p → plane (set planes p xs) q ≡ plane planes q
plane_beside planes p q xs other = plane_is (set planes p xs) q ∙ get_or-set_other planes p q xs [] other ∙ sym (plane_is planes q)

pub body_append : (c : Configuration) (h : SliceHead) (cell : ℕ → Cell) (xs ys : List Line) (a b : List Step) →
    IsBody c h cell xs a → IsBody c h cell ys b → IsBody c h cell (xs ++ ys) (a ++ b)
unfolding IsBody
body_append c h cell [] ys a b f g = subst (λ z. IsBody c h cell ys (z ++ b)) (sym f) g
body_append c h cell (x ∷ xs) ys a b f g =
    (f.0, f.1 ++ b, f.2, f.3, body_append c h cell xs ys f.1 b f.4 g, ap (λ z. z ++ b) f.5 ∙ append_assoc _ f.1 b)

pub body_one : (c : Configuration) (h : SliceHead) (cell : ℕ → Cell) (l : Line) (qs : List ℤ) → length qs ≡ (cell l.plane).width →
    AreSuiting (set_in c h l.plane) (bits_of c) (cell l.plane) l.y 0 qs → IsBody c h cell (l ∷ []) (line_steps c h cell l qs)
unfolding IsBody
body_one c h cell l qs long suits = (qs, [], long, suits, refl, sym (append-nil (line_steps c h cell l qs)))

-- cells that agree have the same bodies
pub body_alike : CellLaws → (c : Configuration) (h : SliceHead) (cell other : ℕ → Cell) (ls : List Line) (body : List Step) →
    Each (λ (l : Line). Agree (cell l.plane) (other l.plane) l.y) ls → IsBody c h cell ls body → IsBody c h other ls body
unfolding IsBody
body_alike laws c h cell other [] body are f = f
body_alike laws c h cell other (l ∷ ls) body are f = (
  f.0,
  f.1,
  f.2 ∙ are.0.wide,
  laws.suits (set_in c h l.plane) (bits_of c) (cell l.plane) (other l.plane) l.y 0 f.0 are.0 f.3,
  body_alike laws c h cell other ls f.1 are.1 f.4,
  f.5 ∙ ap (λ z. shifted (base_of c l.plane) z ++ f.1) (laws.steps (set_in c h l.plane) (cell l.plane) (other l.plane) l.y 0 f.0 are.0),
)

-- more samples after those that are there change no row above
pub agree_more : (width y : ℕ) (samples more : List ℕ) → 0 < width → suc y * width ≤ length samples → Agree (cell_of width samples) (cell_of width (samples ++ more)) y
agree_more width y samples more some long = record {
  some = some;
  wide = refl;
  each = λ x z h k.
      let inside : z * width + x < length samples = omega (arith, in_rows width x z (suc y) h k, long) in
      sym (get_or_append_left samples more 0 (z * width + x) inside);
}

module _ (a : Accepted) (coded : ℕ → List ℕ) (r k : ℕ) where
  -- the cells of a slice, by the samples that were read
  abbrev pub cells_of : Slice → ℕ → Cell
  cells_of q p = cell_of (width_in a.configuration p k) (plane q.cells p)

  -- a line was read
  abbrev pub IsRead : Slice → Line → Type 0
  IsRead q l = suc l.y * width_in a.configuration l.plane k ≤ length (plane q.cells l.plane)

  -- the bits that were read are those of these lines
  pub record HasBits (ls : List Line) (q : Slice) : Type 0 where
    pub bits : q.bits ≡ rice_bits a.configuration q.head (cells_of q) ls
    pub coder : q.coder ≡ lines_after a.configuration q.head (cells_of q) fresh_coder ls
    pub begun : (ls ≡ []) ⊎ ((rest : List Bool) × IsBehind a (coded (slice_number a.configuration r k)) q.past (q.bits ++ rest))

  -- a slice that was opened, and of which these lines were read
  pub record HasRead (ls : List Line) (q : Slice) : Type 0 where
    pub is_head : IsHead a.profile a.configuration q.head
    pub many : length q.cells ≡ plane_count a.configuration
    pub are : Each (IsRead q) ls
    pub body : List Step
    pub past : q.past ≡ key_steps (slice_number a.configuration r k) ++ (head_steps a.configuration (slice_number a.configuration r k) q.head ++ body)
    pub is_body : IsBodyOf a.configuration q.head (cells_of q) ls body
    pub codes : Codes (coded (slice_number a.configuration r k)) (decisions_after a.table [] q.past)
    pub within : IsWithin a (coded (slice_number a.configuration r k)) q.past
    pub bits : ByCoder (is_rice a.configuration.coder) (Unit {0}) (HasBits ls q)
    pub ending : (front : List Line) (l : Line) → ls ≡ front ++ (l ∷ []) → IsLastLine a.configuration r l.plane l.y → SliceEnds a (coded (slice_number a.configuration r k)) q.past q.bits

  -- one plane is longer, and the others stay
  pub record Longer (q t : Slice) : Type 0 where
    pub head : t.head ≡ q.head
    pub many : length t.cells ≡ length q.cells
    pub more : (p : ℕ) → (xs : List ℕ) × (plane t.cells p ≡ plane q.cells p ++ xs)

  pub longer : (e : Event) (q t : Slice) → length q.cells ≡ plane_count a.configuration → ReadsNext a coded r k e q t → Longer q t
  longer e q t many next =
      let p = next.p in
      let here : p < length q.cells = rw many next.inside in
      record {
        head = ap (λ (z : Slice). z.head) next.behind;
        many = ap (λ (z : Slice). length z.cells) next.behind ∙ length-set q.cells p (plane q.cells p ++ next.row);
        more = λ j. elim (cases_eq j p) [
          | inl same ↦ (
            next.row,
            ap (λ (z : Slice). plane z.cells j) next.behind ∙ ap (λ i. plane (set q.cells p (plane q.cells p ++ next.row)) i) same
                ∙ plane_put q.cells p (plane q.cells p ++ next.row) here ∙ ap (λ i. plane q.cells i ++ next.row) (sym same),
          )
          | inr other ↦ (
            [],
            ap (λ (z : Slice). plane z.cells j) next.behind ∙ plane_beside q.cells p j (plane q.cells p ++ next.row) other ∙ sym (append-nil (plane q.cells j)),
          )
        ];
      }

  pub read_later : (q t : Slice) (l : Line) → Longer q t → IsRead q l → IsRead t l
  read_later q t l more is =
      let longer = ap (λ (xs : List ℕ). length xs) (more.more l.plane).1 ∙ length-append (plane q.cells l.plane) (more.more l.plane).0 in
      omega (arith, is, longer)

  pub reads_later : (q t : Slice) (ls : List Line) → Longer q t → Each (IsRead q) ls → Each (IsRead t) ls
  reads_later q t [] more are = tt
  reads_later q t (l ∷ ls) more are = (read_later q t l more are.0, reads_later q t ls more are.1)

  module _ (some : (p : ℕ) → 0 < width_in a.configuration p k) where
    pub agree_later : (q t : Slice) (ls : List Line) → Longer q t → Each (IsRead q) ls → Each (λ (l : Line). Agree (cells_of q l.plane) (cells_of t l.plane) l.y) ls
    agree_later q t [] more are = tt
    agree_later q t (l ∷ ls) more are =
        let width = width_in a.configuration l.plane k in
        let here : Agree (cells_of q l.plane) (cells_of t l.plane) l.y =
        subst (λ xs. Agree (cells_of q l.plane) (cell_of width xs) l.y) (sym (more.more l.plane).1)
        (agree_more width l.y (plane q.cells l.plane) (more.more l.plane).0 (some l.plane) are.0) in
        (here, agree_later q t ls more are.1)

    -- the bits of the line that is read go on after those that were
    bits_more : (ls : List Line) (q t : Slice) (e : Event) → is_rice a.configuration.coder ≡ true → HasBits ls q → Each (IsRead q) ls → (next : ReadsNext a coded r k e q t) → Longer q t →
        plane t.cells next.p ≡ plane q.cells next.p ++ next.row → t.past ≡ q.past → HasBits (ls ++ (record { plane = next.p; y = next.y } ∷ [])) t
    bits_more ls q t e is has are next more now still =
        let c = a.configuration in
        let n = slice_number c r k in
        let p = next.p in
        let y = next.y in
        let width = width_in c p k in
        let samples = plane q.cells p in
        let l : Line = record { plane = p; y = y } in
        let k_then = lines_after c q.head (cells_of q) fresh_coder ls in
        let k_now = lines_after c q.head (cells_of t) fresh_coder ls in
        let agree = agree_later q t ls more are in
        let cell_is : cells_of t p ≡ cell_of width (samples ++ next.row) = ap (cell_of width) now in
        let same_k : q.coder ≡ k_now = has.coder ∙ after_alike c q.head (cells_of q) (cells_of t) fresh_coder ls agree in
        let line_is : bits_of_line (is_rice c.coder) c q p width y next.row ≡ line_bits c q.head (cells_of t) k_now l =
        ap (λ b. bits_of_line b c q p width y next.row) is
        ∙ sym (bits_added c q.head (cells_of t) q.coder p width y samples next.row next.reads.above next.reads.row_long cell_is)
        ∙ ap (λ z. line_bits c q.head (cells_of t) z l) same_k in
        let coder_is : coder_of_line (is_rice c.coder) c q p width y next.row ≡ line_after c q.head (cells_of t) k_now l =
        ap (λ b. coder_of_line b c q p width y next.row) is
        ∙ sym (after_added c q.head (cells_of t) q.coder p width y samples next.row next.reads.above next.reads.row_long cell_is)
        ∙ ap (λ z. line_after c q.head (cells_of t) z l) same_k in
        let one : lines_bits c q.head (cells_of t) k_now (l ∷ []) ≡ line_bits c q.head (cells_of t) k_now l =
        bits_first c q.head (cells_of t) k_now l [] ∙ ap (λ z. line_bits c q.head (cells_of t) k_now l ++ z) (bits_none c q.head (cells_of t) (line_after c q.head (cells_of t) k_now l)) ∙ append-nil (line_bits c q.head (cells_of t) k_now l) in
        let bits_are : t.bits ≡ q.bits ++ bits_of_line (is_rice c.coder) c q p width y next.row = ap (λ (z : Slice). z.bits) next.behind in
        let found = next.reads.codes.rice is in
        let text_is : t.bits ++ found.rest ≡ q.bits ++ found.text =
        ap (λ z. z ++ found.rest) (bits_are ∙ ap (λ b. q.bits ++ bits_of_line b c q p width y next.row) is)
        ∙ append_assoc q.bits (bits_of_line true c q p width y next.row) found.rest ∙ ap (λ z. q.bits ++ z) (sym found.codes.bits) in
        record {
          bits =
              bits_are ∙ ap (λ z. q.bits ++ z) line_is ∙ ap (λ z. z ++ line_bits c q.head (cells_of t) k_now l) (has.bits ∙ bits_alike c q.head (cells_of q) (cells_of t) fresh_coder ls agree)
              ∙ ap (λ z. lines_bits c q.head (cells_of t) fresh_coder ls ++ z) (sym one) ∙ sym (bits_append c q.head (cells_of t) fresh_coder ls (l ∷ []))
              ∙ ap (λ h. rice_bits c h (cells_of t) (ls ++ (l ∷ []))) (sym more.head);
          coder =
              ap (λ (z : Slice). z.coder) next.behind ∙ coder_is ∙ sym (after_first c q.head (cells_of t) k_now l [] ∙ after_none c q.head (cells_of t) (line_after c q.head (cells_of t) k_now l))
              ∙ sym (after_append c q.head (cells_of t) fresh_coder ls (l ∷ [])) ∙ ap (λ h. lines_after c h (cells_of t) fresh_coder (ls ++ (l ∷ []))) (sym more.head);
          begun = inr (found.rest, subst (λ past. IsBehind a (coded n) past (t.bits ++ found.rest)) (sym still) (subst (IsBehind a (coded n) q.past) (sym text_is) found.behind));
        }

    module _ (laws : CellLaws) where
      -- the line that is read goes on after those that were
      pub has_read_more : (ls : List Line) (q t : Slice) (e : Event) → HasRead ls q → ReadsNext a coded r k e q t → HasRead (ls ++ read_at k e) t
      has_read_more ls q t e has next =
          let c = a.configuration in
          let n = slice_number c r k in
          let p = next.p in
          let width = width_in c p k in
          let l : Line = record { plane = p; y = next.y } in
          let more = longer e q t has.many next in
          let here : p < length q.cells = rw has.many next.inside in
          let samples = plane q.cells p in
          let now : plane t.cells p ≡ samples ++ next.row =
          ap (λ (z : Slice). plane z.cells p) next.behind ∙ plane_put q.cells p (samples ++ next.row) here in
          let steps = line_steps c q.head (λ j. cell_of (width_in c j k) (samples ++ next.row)) l next.qs in
          let same_steps : line_steps c q.head (cells_of t) l next.qs ≡ steps =
          ap (λ xs. shifted (base_of c p) (row_steps (set_in c q.head p) (cell_of width xs) next.y 0 next.qs)) now in
          let new_body : is_rice c.coder ≡ false → IsBody c q.head (cells_of t) (ls ++ (l ∷ [])) (has.body ++ line_steps c q.head (cells_of t) l next.qs) =
          λ is.
          let suits : AreSuiting (set_in c q.head p) (bits_of c) (cells_of t p) next.y 0 next.qs =
          subst (λ xs. AreSuiting (set_in c q.head p) (bits_of c) (cell_of width xs) next.y 0 next.qs) (sym now) (next.reads.codes.range is).suits in
          let old_body : IsBody c q.head (cells_of t) ls has.body =
          body_alike laws c q.head (cells_of q) (cells_of t) ls has.body (agree_later q t ls more has.are) (has.is_body.range is) in
          body_append c q.head (cells_of t) ls (l ∷ []) has.body (line_steps c q.head (cells_of t) l next.qs) old_body
          (body_one c q.head (cells_of t) l next.qs (next.reads.long.range is) suits) in
          let no_body : is_rice c.coder ≡ true → has.body ++ line_steps c q.head (cells_of t) l next.qs ≡ [] =
          λ is. ap (λ rs. has.body ++ line_steps c q.head (cells_of t) l rs) (next.reads.long.rice is) ∙ append-nil has.body ∙ has.is_body.rice is in
          let past : t.past ≡ q.past ++ steps = ap (λ (z : Slice). z.past) next.behind in
          let still : is_rice c.coder ≡ true → t.past ≡ q.past =
          λ is. past ∙ ap (λ rs. q.past ++ line_steps c q.head (λ j. cell_of (width_in c j k) (samples ++ next.row)) l rs) (next.reads.long.rice is) ∙ append-nil q.past in
          let is_read : IsRead t l =
          let long = ap (λ (xs : List ℕ). length xs) now ∙ length-append samples next.row in
          omega (arith, long, next.reads.above, next.reads.row_long) in
          subst (λ more. HasRead (ls ++ more) t) (sym next.line) (record {
            is_head = subst (IsHead a.profile c) (sym more.head) has.is_head;
            many = more.many ∙ has.many;
            are = each_append (IsRead t) ls (l ∷ []) (reads_later q t ls more has.are) (is_read, tt);
            body = has.body ++ line_steps c q.head (cells_of t) l next.qs;
            past =
                past ∙ ap (λ z. z ++ steps) has.past ∙ append_assoc (key_steps n) (head_steps c n q.head ++ has.body) steps
                ∙ ap (λ z. key_steps n ++ z) (append_assoc (head_steps c n q.head) has.body steps)
                ∙ ap (λ z. key_steps n ++ (head_steps c n q.head ++ (has.body ++ z))) (sym same_steps)
                ∙ ap (λ h. key_steps n ++ (head_steps c n h ++ (has.body ++ line_steps c q.head (cells_of t) l next.qs))) (sym more.head);
            is_body = record {
              range = λ is. subst (λ h. IsBody c h (cells_of t) (ls ++ (l ∷ [])) (has.body ++ line_steps c q.head (cells_of t) l next.qs)) (sym more.head) (new_body is);
              rice = no_body;
            };
            codes = elim (cases_Bool (is_rice c.coder)) [
              | inl is ↦ subst (λ steps. Codes (coded n) (decisions_after a.table [] steps)) (sym (still is)) has.codes
              | inr is ↦ subst (λ steps. Codes (coded n) (decisions_after a.table [] steps)) (sym past) (next.reads.codes.range is).codes
            ];
            bits = record { range = λ is. tt; rice = λ is. bits_more ls q t e is (has.bits.rice is) has.are next more now (still is) };
            within = subst (IsWithin a (coded n)) (sym past) next.within;
            ending = λ front last parts is.
                let same : last ≡ l = sym (same_last ls front l last parts) in
                subst (λ (z : Slice). SliceEnds a (coded n) z.past z.bits) (sym next.behind) (next.ending (subst (λ (z : Line). IsLastLine c r z.plane z.y) same is));
          })
