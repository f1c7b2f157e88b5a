-- The range and the siting that a head says come back from the numbers of a file.
use Rattle.std.proofs.Common.{◌≡◌, refl, ℕ, ◌<◌, ◌==◌, ◌||◌, not, Bool, true, false, true≢false, Option, Some, None, List, ap, ap₂, sym, subst, if◌then◌else◌, arith}
use Rattle.ffv1_y4m.specs.VideoHead.{IsHead, IsNamed, SaysNeither, has_siting}
use Rattle.ffv1_y4m.specs.declared.head.Range.{Range}
use Rattle.ffv1_y4m.specs.declared.head.Range.TheVariants.{Full, Limited}
use Rattle.ffv1_y4m.specs.declared.head.Siting.{Siting}
use Rattle.ffv1_y4m.specs.declared.head.Siting.TheVariants.{Centre, Left, TopLeft}
use Rattle.ffv1_y4m.specs.declared.head.VideoHead.{VideoHead}
use Rattle.ffv1_video.specs.Colours.{IsByteColour, across_number, file_colour, down_number, loses_colour, plain_head, range_chosen, range_named, range_number, range_shown, shown_head, siting_chosen, siting_named, siting_shown}
use Rattle.ffv1_engine.specs.RoundTrip.{canonical_by}
use Rattle.ffv1_reads.specs.Colour.{IsColour}
use Rattle.ffv1_y4m.specs.Canonical.{canonical_text, header_text, sizes_text, times_text}
use Rattle.ffv1_words.specs.declared.order.ColourChoice.{ColourChoice}
use Rattle.ffv1_words.specs.declared.order.RangeChoice.{RangeChoice}
use Rattle.ffv1_words.specs.declared.order.RangeChoice.TheVariants as range_choice
use Rattle.ffv1_words.specs.declared.order.SitingChoice.{SitingChoice}
use Rattle.ffv1_words.specs.declared.order.SitingChoice.TheVariants as siting_choice
use Rattle.ffv1_video.specs.Video.{SaidHead}
use Rattle.ffv1_pack.specs.VideoReads.{IsHeadBy}

pub range_back : (r : Option Range) → range_named (range_number r) ≡ r
range_back None = refl
range_back (Some Limited) = refl
range_back (Some Full) = refl

siting_back : (s : Option Siting) → siting_named (across_number s) (down_number s) ≡ s
siting_back None = refl
siting_back (Some Centre) = refl
siting_back (Some Left) = refl
siting_back (Some TopLeft) = refl

-- the siting of a file, if a text names one, is the one that is shown
pub siting_shown_back : (k : SitingChoice) (b : Bool) (s : Option Siting) → (b ≡ false → s ≡ None) →
    (if b then siting_named (across_number (siting_chosen k s)) (down_number (siting_chosen k s)) else None) ≡ siting_shown k b s
siting_shown_back siting_choice.Auto true s none = siting_back s
siting_shown_back siting_choice.Auto false s none = sym (none refl)
siting_shown_back siting_choice.Left true s none = refl
siting_shown_back siting_choice.Left false s none = sym (none refl)
siting_shown_back siting_choice.Centre true s none = refl
siting_shown_back siting_choice.Centre false s none = sym (none refl)
siting_shown_back siting_choice.TopLeft true s none = refl
siting_shown_back siting_choice.TopLeft false s none = sym (none refl)

-- what is shown has a siting only where a name says one
siting_shown_none : (k : SitingChoice) (b : Bool) (s : Option Siting) → (b ≡ false → s ≡ None) → b ≡ false → siting_shown k b s ≡ None
siting_shown_none siting_choice.Auto b s none e = none e
siting_shown_none siting_choice.Left true s none e = absurd (true≢false e)
siting_shown_none siting_choice.Left false s none e = none refl
siting_shown_none siting_choice.Centre true s none e = absurd (true≢false e)
siting_shown_none siting_choice.Centre false s none e = none refl
siting_shown_none siting_choice.TopLeft true s none e = absurd (true≢false e)
siting_shown_none siting_choice.TopLeft false s none e = none refl

pub range_shown_back : (k : RangeChoice) (r : Option Range) → range_named (range_number (range_chosen k r)) ≡ range_shown k false r
range_shown_back range_choice.Auto r = range_back r
range_shown_back range_choice.Limited r = refl
range_shown_back range_choice.Full r = refl

-- of PPM nothing more is shown
siting_ppm : (k : SitingChoice) (s : Option Siting) → siting_shown k false s ≡ s
siting_ppm siting_choice.Auto s = refl
siting_ppm siting_choice.Left s = refl
siting_ppm siting_choice.Centre s = refl
siting_ppm siting_choice.TopLeft s = refl

range_ppm : (k : RangeChoice) (r : Option Range) → range_shown k true r ≡ r
range_ppm range_choice.Auto r = refl
range_ppm range_choice.Limited r = refl
range_ppm range_choice.Full r = refl

pub shown_ppm : (k : ColourChoice) (h : SaidHead) → shown_head k true h ≡ h
shown_ppm k h = ap₂ (λ s r. record h { head = record h.head { siting = s; range = r } }) (siting_ppm k.siting h.head.siting) (range_ppm k.range h.head.range)

-- numbers of 8 bits
range_small : (r : Option Range) → range_number r < 256
range_small None = omega arith
range_small (Some Limited) = omega arith
range_small (Some Full) = omega arith

across_small : (s : Option Siting) → across_number s < 256
across_small None = omega arith
across_small (Some Centre) = omega arith
across_small (Some Left) = omega arith
across_small (Some TopLeft) = omega arith

down_small : (s : Option Siting) → down_number s < 256
down_small None = omega arith
down_small (Some Centre) = omega arith
down_small (Some Left) = omega arith
down_small (Some TopLeft) = omega arith

pub colour_small : (k : ColourChoice) (h : VideoHead) → IsByteColour k → IsColour (file_colour k h)
colour_small k h is = record {
  matrix = is.matrix;
  transfer = is.transfer;
  primaries = is.primaries;
  range = range_small (range_chosen k.range h.range);
  siting_across = across_small (siting_chosen k.siting h.siting);
  siting_down = down_small (siting_chosen k.siting h.siting);
}

-- where an AVI loses nothing, the canonical text is the same without them
text_same : (depth : ℕ) (h : VideoHead) (s : Option Siting) (r : Option Range) (ps : List (List (List ℕ))) → (not (range_number r == 0) || across_number s == 1) ≡ false →
    canonical_text depth (record h { siting = None; range = None }) ps ≡ canonical_text depth (record h { siting = s; range = r }) ps
unfolding header_text sizes_text times_text
text_same depth h None None ps e = refl
text_same depth h (Some Centre) None ps e = refl
text_same depth h (Some Left) None ps e = absurd (true≢false e)
text_same depth h (Some TopLeft) None ps e = absurd (true≢false e)
text_same depth h s (Some Limited) ps e = absurd (true≢false e)
text_same depth h s (Some Full) ps e = absurd (true≢false e)

either_false : (a b : Bool) → (a || b) ≡ false → (a ≡ false) × (b ≡ false)
either_false true b e = absurd (true≢false e)
either_false false b e = (refl, e)

shown_across : (k : SitingChoice) (b : Bool) (s : Option Siting) → (b ≡ false → s ≡ None) → (across_number (siting_chosen k s) == 1) ≡ false → (across_number (siting_shown k b s) == 1) ≡ false
shown_across siting_choice.Auto b s none e = e
shown_across siting_choice.Left b s none e = absurd (true≢false e)
shown_across siting_choice.Centre true s none e = refl
shown_across siting_choice.Centre false s none e = subst (λ z. (across_number z == 1) ≡ false) (sym (none refl)) refl
shown_across siting_choice.TopLeft b s none e = absurd (true≢false e)

shown_range : (k : RangeChoice) (r : Option Range) → (not (range_number (range_chosen k r) == 0)) ≡ false → (not (range_number (range_shown k false r) == 0)) ≡ false
shown_range range_choice.Auto r e = e
shown_range range_choice.Limited r e = e
shown_range range_choice.Full r e = e

pub kept_text : (k : ColourChoice) (ppm : Bool) (h : SaidHead) (ps : List (List (List ℕ))) → IsNamed h.depth h.head → loses_colour (file_colour k h.head) ≡ false →
    canonical_by ppm (plain_head h) ps ≡ canonical_by ppm (shown_head k ppm h) ps
kept_text k true h ps named e = refl
kept_text k false h ps named e =
    let parts = either_false (not (range_number (range_chosen k.range h.head.range) == 0)) (across_number (siting_chosen k.siting h.head.siting) == 1) e in
    let b = has_siting h.depth h.head.chroma_planes h.head.log2_h h.head.log2_v in
    text_same h.depth h.head (siting_shown k.siting b h.head.siting) (range_shown k.range false h.head.range) ps
    (ap₂ (λ x y. x || y) (shown_range k.range h.head.range parts.0) (shown_across k.siting b h.head.siting named.sited parts.1))

-- a head without them is one as well
abbrev without : VideoHead → VideoHead
without h = record h { siting = None; range = None }

pub plain_head_by : (ppm : Bool) (h : VideoHead) → IsHeadBy ppm h → IsHeadBy ppm (without h)
plain_head_by true h is = (record { some_wide = is.0.some_wide; wide = is.0.wide; some_high = is.0.some_high; high = is.0.high }, ap without is.1)
plain_head_by false h is = record {
  sized = record { some_wide = is.sized.some_wide; wide = is.sized.wide; some_high = is.sized.some_high; high = is.sized.high };
  factors = record { wide = is.factors.wide; high = is.factors.high };
  rate = is.rate;
  structure = is.structure;
  aspect = is.aspect;
  chroma = is.chroma;
}

pub plain_named : (depth : ℕ) (h : VideoHead) → IsNamed depth h → IsNamed depth (without h)
plain_named depth h named = record { least = named.least; most = named.most; name = named.name; sited = λ _. refl }

-- one that says neither is plain
pub plain_is : (h : SaidHead) → SaysNeither h.head → plain_head h ≡ h
plain_is h none = ap₂ (λ s r. record h { head = record h.head { siting = s; range = r } }) (sym none.0) (sym none.1)

-- with what a choice says it is one as well
pub shown_head_by : (k : ColourChoice) (h : SaidHead) → IsHead h.head → IsHead (shown_head k false h).head
shown_head_by k h is = record {
  sized = record { some_wide = is.sized.some_wide; wide = is.sized.wide; some_high = is.sized.some_high; high = is.sized.high };
  factors = record { wide = is.factors.wide; high = is.factors.high };
  rate = is.rate;
  structure = is.structure;
  aspect = is.aspect;
  chroma = is.chroma;
}

pub shown_named : (k : ColourChoice) (h : SaidHead) → IsNamed h.depth h.head → IsNamed h.depth (shown_head k false h).head
shown_named k h named = record {
  least = named.least;
  most = named.most;
  name = named.name;
  sited = siting_shown_none k.siting (has_siting h.depth h.head.chroma_planes h.head.log2_h h.head.log2_v) h.head.siting named.sited;
}
