-- The bits behind what was decided in a slice are those of one line at most, or are refused in one
-- place.
use Rattle.std.proofs.Common.{◌≡◌, ◌⊎◌, ℕ, ◌*◌, ◌<◌, Bool, true, List, [], ◌∷◌, ◌++◌, length, drop, ap, sym, subst, ◌∙◌, None, Some}
use Rattle.std.proofs.lemmas.List.{append_cancel_left}
use Rattle.ffv1_range.specs.Interval.{interval_of}
use Rattle.ffv1_range.specs.Codes.{Codes}
use Rattle.ffv1_range.specs.Symbols.{Step}
use Rattle.ffv1_rice.specs.Bits as bits
use Rattle.ffv1_rice.specs.Row.{IsRunning}
use Rattle.ffv1_rice.specs.Rows as rows
use Rattle.ffv1_rice.specs.Rows.{Reading, AreSamples}
use Rattle.ffv1_rice.specs.declared.fault.Fault.{Fault}
use Rattle.ffv1_record.specs.Accepted.{Accepted}
use Rattle.ffv1_record.specs.Accepted.{is_rice}
use Rattle.ffv1_range.specs.Ending.{bits_place}
use Rattle.ffv1_frame.specs.SliceList.{bits_of}
use Rattle.ffv1_frame.specs.Ending.{IsBehind, HasPadding, LacksPadding, sealed_by}
use Rattle.ffv1_frame.specs.Decoding.{Slice, CodesBits, RefusesLine, reading_in}

-- the laws of bits
pub record BitLaws (a : Accepted) (bytes : List ℕ) : Type 0 where
  pub depth : is_rice a.configuration.coder ≡ true → (bits_of a.configuration ≡ 8) ⊎ (bits_of a.configuration ≡ 9)
  pub seal : (past : List Step) (b c : Bool) → Codes bytes (sealed_by a past b) → Codes bytes (sealed_by a past c) → b ≡ c
  pub one : (r : Reading) (row other : List ℕ) (rest others : List Bool) → (r.depth ≡ 8) ⊎ (r.depth ≡ 9) → IsRunning r.start.index r.start.run →
      length row ≡ length other → rows.CodesRow r row rest → rows.CodesRow r other others → (row ≡ other) × (rest ≡ others)
  pub coded : (r : Reading) (row other : List ℕ) (x : ℕ) (reason : Fault) (rest : List Bool) → (r.depth ≡ 8) ⊎ (r.depth ≡ 9) → IsRunning r.start.index r.start.run →
      length row ≡ length other → x < length row → AreSamples r.depth x row → rows.IsRefused r row x reason → rows.CodesRow r other rest → ⊥
  pub once : (r : Reading) (row other : List ℕ) (x y : ℕ) (reason cause : Fault) → (r.depth ≡ 8) ⊎ (r.depth ≡ 9) → IsRunning r.start.index r.start.run →
      length row ≡ length other → x < length row → y < length other → AreSamples r.depth x row → AreSamples r.depth y other →
      rows.IsRefused r row x reason → rows.IsRefused r other y cause → (x ≡ y) × (reason ≡ cause)

-- no run is on where a row begins
pub none_runs : (index : ℕ) → IsRunning index None
none_runs index = λ n e. cc

module _ (a : Accepted) (bytes : List ℕ) (laws : BitLaws a bytes) where
  -- the bits behind some decisions are one text
  pub one_text : (past : List Step) (text other : List Bool) → IsBehind a bytes past text → IsBehind a bytes past other → text ≡ other
  one_text past text other f g =
      f.is ∙ ap (λ b. drop (8 * bits_place (interval_of (sealed_by a past b))) (bits.bits_of bytes)) (laws.seal past f.unused g.unused f.codes g.codes) ∙ sym g.is

  -- they end in padding, or they do not
  pub padded_or_not : (past : List Step) (read : List Bool) → HasPadding a bytes past read → LacksPadding a bytes past read → ⊥
  padded_or_not past read f g =
      let same = append_cancel_left read f.rest g.rest (one_text past (read ++ f.rest) (read ++ g.rest) f.behind g.behind) in
      g.other (subst bits.IsPadding same f.padding)

module _ (a : Accepted) (coded : ℕ → List ℕ) (n : ℕ) (laws : BitLaws a (coded n)) (is : is_rice a.configuration.coder ≡ true) (p width y : ℕ) (q : Slice) where
  pub one_row : (row other : List ℕ) → length row ≡ length other → CodesBits a coded n p width y q row → CodesBits a coded n p width y q other → row ≡ other
  one_row row other long f g =
      let same = append_cancel_left q.bits f.text g.text (one_text a (coded n) laws q.past (q.bits ++ f.text) (q.bits ++ g.text) f.behind g.behind) in
      (laws.one (reading_in a.configuration q p width y f.text) row other f.rest g.rest (laws.depth is) (none_runs _) long f.codes
      (subst (λ t. rows.CodesRow (reading_in a.configuration q p width y t) other g.rest) (sym same) g.codes)).0

  pub row_or_refused : (row other : List ℕ) (x : ℕ) (reason : Fault) → length row ≡ width → CodesBits a coded n p width y q row → RefusesLine a coded n p width y q other x reason → ⊥
  row_or_refused row other x reason long f g =
      let same = append_cancel_left q.bits f.text g.text (one_text a (coded n) laws q.past (q.bits ++ f.text) (q.bits ++ g.text) f.behind g.behind) in
      laws.coded (reading_in a.configuration q p width y g.text) other row x reason f.rest (laws.depth is) (none_runs _) (g.row_long ∙ sym long)
      (subst (λ k. x < k) (sym g.row_long) g.inside) g.samples g.refuses
      (subst (λ t. rows.CodesRow (reading_in a.configuration q p width y t) row f.rest) same f.codes)

  pub one_refused : (row other : List ℕ) (x z : ℕ) (reason cause : Fault) → RefusesLine a coded n p width y q row x reason → RefusesLine a coded n p width y q other z cause → (x ≡ z) × (reason ≡ cause)
  one_refused row other x z reason cause f g =
      let same = append_cancel_left q.bits f.text g.text (one_text a (coded n) laws q.past (q.bits ++ f.text) (q.bits ++ g.text) f.behind g.behind) in
      laws.once (reading_in a.configuration q p width y f.text) row other x z reason cause (laws.depth is) (none_runs _) (f.row_long ∙ sym g.row_long)
      (subst (λ k. x < k) (sym f.row_long) f.inside) (subst (λ k. z < k) (sym g.row_long) g.inside) f.samples g.samples f.refuses
      (subst (λ t. rows.IsRefused (reading_in a.configuration q p width y t) other z cause) (sym same) g.refuses)
