-- A text and what it reads as.
use Rattle.std.proofs.Common.{◌≡◌, ℕ, ◌≤◌, ◌<◌, ◌==◌, ◌&&◌, zero, suc, codes, if◌then◌else◌, nat_lt, Bool, true, false, cond, Option, Some, None, List, [], ◌∷◌, ◌++◌, length, take, drop, map, flat_map, Result, Ok, Err, refl, ap, ◌∙◌, sym, subst, append_assoc, arith, take-append-drop, length-take}
use Rattle.std.proofs.lemmas.Bool.{ltb-false, le-ltb, lt-ltb, true≢false, false≢true}
use Rattle.std.proofs.lemmas.Grind.{common_steps}
use Rattle.std.proofs.Math.Seq.{take-append_seam, drop-append_seam}
use Rattle.ffv1_y4m.specs.declared.fault.Fault.{Fault}
use Rattle.ffv1_y4m.specs.declared.fault.Fault.TheVariants as fault
use Rattle.ffv1_samples.specs.Samples.{are_in_depth}
use Rattle.ffv1_y4m.specs.declared.head.DeepHead.{DeepHead}
use Rattle.ffv1_y4m.specs.declared.head.VideoHead.{VideoHead}
use Rattle.ffv1_y4m.specs.Header.{header_of, head_of_line, line_read, or_else}
use Rattle.ffv1_y4m.specs.Sequence.{Outcome, ◌then◌, give, judge, where_begun}
use Rattle.ffv1_y4m.specs.Pictures.{plane_read, planes_read, frame_begun, frame_line, picture_read, picture_text}
use Rattle.ffv1_y4m.specs.VideoHead.{AreInDepth, Fits, IsHead, IsNamed, has_siting, is_chroma, is_named, plane_bytes}
use Rattle.ffv1_y4m.specs.Canonical.{as_said, chroma_name, depth_name, header_text, canonical_text, name_of_chroma, name_text, next_text, range_end, siting_name, sizes_text, times_text}
use Rattle.ffv1_y4m.specs.declared.head.Siting.{Siting}
use Rattle.ffv1_y4m.specs.declared.head.Siting.TheVariants as siting
use Rattle.ffv1_y4m.specs.HeaderLine.{Without}
use Rattle.ffv1_y4m.specs.Text.{AllFit, IsText, ReadsAll}
use Rattle.ffv1_y4m.proofs.AnswerParts.{value_in, rest_in, is_fault, is_some, some_in, parted_by}
use Rattle.ffv1_y4m.proofs.HeaderLines.{line_found, line_only}
use Rattle.ffv1_y4m.proofs.CanonicalLine.{head_line, header_parts, line_said, line_single, line_short}
use Rattle.ffv1_y4m.proofs.Lines.{line_local, line_was}
use Rattle.ffv1_y4m.proofs.Frames.{frame_ended, frame_found, frame_only}

-- a plane
pub plane_found : (depth : ℕ) (p rest : List ℕ) → are_in_depth depth p ≡ true → plane_read depth (length p) (p ++ rest) ≡ Ok (p, rest)
plane_found depth p rest small =
    let enough : nat_lt (length (p ++ rest)) (length p) ≡ false = le-ltb _ _ (grind (arith, common_steps)) in
    rw (enough, take-append_seam p rest, drop-append_seam p rest, small) refl

-- planes
pub planes_found : (depth : ℕ) (planes : List (List ℕ)) (rest : List ℕ) → AreInDepth depth planes → planes_read depth (map (λ p. length p) planes) (flat_map (λ p. p) planes ++ rest) ≡ Ok (planes, rest)
planes_found depth [] rest small = refl
planes_found depth (p ∷ planes) rest small =
    rw (append_assoc p (flat_map (λ p. p) planes) rest, plane_found depth p (flat_map (λ p. p) planes ++ rest) small.0, planes_found depth planes rest small.1) refl

picture_by : (depth : ℕ) (sizes : List ℕ) (p : List (List ℕ)) (rest : List ℕ) → map (λ q. length q) p ≡ sizes → AreInDepth depth p → (frame_begun then where_begun (planes_read depth sizes)) (picture_text p ++ rest) ≡ Ok (Some p, rest)
picture_by depth sizes p rest fits small =
    rw (append_assoc frame_line (flat_map (λ q. q) p) rest, frame_found (flat_map (λ q. q) p ++ rest)) (rw (← fits) (rw (planes_found depth p rest small) refl))

pub picture_found : (depth : ℕ) (h : VideoHead) (p : List (List ℕ)) (rest : List ℕ) → Fits depth h p → AreInDepth depth p → picture_read depth h (picture_text p ++ rest) ≡ Ok (Some p, rest)
picture_found depth h p rest fits small = picture_by depth (plane_bytes depth h) p rest fits small

pub end_found : (depth : ℕ) (h : VideoHead) → picture_read depth h [] ≡ Ok (None, [])
unfolding frame_begun
end_found depth h = refl

pub pictures_found : (depth : ℕ) (h : VideoHead) (ps : List (List (List ℕ))) → AllFit depth h ps → ReadsAll depth h (flat_map picture_text ps) ps
pictures_found depth h [] fit = end_found depth h
pictures_found depth h (p ∷ ps) fit = (flat_map picture_text ps, picture_found depth h p (flat_map picture_text ps) fit.0.0 fit.0.1, pictures_found depth h ps fit.1)

abbrev said : ℕ → VideoHead → DeepHead
said depth h = record { head = h; depth = depth }

pub header_found : (most : ℕ) (line rest : List ℕ) (h : DeepHead) → Without 10 line → length line ≤ 1024 → head_of_line most line ≡ Ok h → header_of most (line ++ 10 ∷ rest) ≡ Ok (h, rest)
header_found most line rest h single short is =
    let found : line_read 1025 (line ++ 10 ∷ rest) ≡ Ok (line, rest) = rw (← append_assoc line (10 ∷ []) rest) (line_local 1025 line single (omega (arith, short)) rest) in
    rw found (rw is refl)

pub text_found : (text : List ℕ) (most depth : ℕ) (h : VideoHead) (ps : List (List (List ℕ))) → IsText most text depth h ps → depth ≤ most → (rest : List ℕ) × (header_of most text ≡ Ok (said depth h, rest)) × ReadsAll depth h rest ps
text_found text most depth h ps t small =
    (flat_map picture_text ps, rw t.whole (header_found most t.line (flat_map picture_text ps) (said depth h) t.single t.short (line_found t.line most depth h t.said small)), pictures_found depth h ps t.fit)

-- what was read is there
pub record PlaneTold (depth n : ℕ) (text p rest : List ℕ) : Type 0 where
  pub long : length p ≡ n
  pub whole : text ≡ p ++ rest
  pub small : are_in_depth depth p ≡ true

plane_by : (b c : Bool) (depth n : ℕ) (text p rest : List ℕ) → nat_lt (length text) n ≡ b → are_in_depth depth (take n text) ≡ c →
    cond {A = Outcome (List ℕ)} b (Err (fault.FrameTruncated, [])) (cond c (Ok (take n text, drop n text)) (Err (fault.SampleTooLarge, drop n text))) ≡ Ok (p, rest) → PlaneTold depth n text p rest
plane_by true c depth n text p rest test within h = absurd (true≢false (ap is_fault h))
plane_by false false depth n text p rest test within h = absurd (true≢false (ap is_fault h))
plane_by false true depth n text p rest test within h =
    let enough : n ≤ length text = ltb-false _ _ test in
    let front : take n text ≡ p = ap (value_in []) h in
    let behind : drop n text ≡ rest = ap rest_in h in
    record { long = sym (ap length front) ∙ (length-take n text ∙ (omega (arith, enough))); whole = rw (← front, ← behind) (sym (take-append-drop n text)); small = subst (λ z. are_in_depth depth z ≡ true) front within }

pub plane_only : (depth n : ℕ) (text p rest : List ℕ) → plane_read depth n text ≡ Ok (p, rest) → PlaneTold depth n text p rest
plane_only depth n text p rest h = plane_by (nat_lt (length text) n) (are_in_depth depth (take n text)) depth n text p rest refl refl h

record PlanesTold (depth : ℕ) (sizes text : List ℕ) (planes : List (List ℕ)) (rest : List ℕ) : Type 0 where
  long : map (λ p. length p) planes ≡ sizes
  whole : text ≡ flat_map (λ p. p) planes ++ rest
  small : AreInDepth depth planes

planes_one : (depth size : ℕ) (sizes text p mid : List ℕ) (ps planes : List (List ℕ)) (left rest : List ℕ) → PlaneTold depth size text p mid → PlanesTold depth sizes mid ps left → p ∷ ps ≡ planes → left ≡ rest → PlanesTold depth (size ∷ sizes) text planes rest
planes_one depth size sizes text p mid ps planes left rest a b is same =
    rw (← is, ← same) (record { long = rw (a.long, b.long) refl; whole = a.whole ∙ (rw b.whole (sym (append_assoc p (flat_map (λ q. q) ps) left))); small = (a.small, b.small) })

planes_only : (depth : ℕ) (sizes text : List ℕ) (planes : List (List ℕ)) (rest : List ℕ) → planes_read depth sizes text ≡ Ok (planes, rest) → PlanesTold depth sizes text planes rest
planes_only depth [] text planes rest h =
    let none : [] ≡ planes = ap (value_in []) h in
    let same : text ≡ rest = ap rest_in h in
    rw (← none) (record { long = refl; whole = same; small = tt })
planes_only depth (size ∷ sizes) text planes rest h =
    let one = parted_by (plane_read depth size text) (λ p. planes_read depth sizes then λ ps. give (p ∷ ps)) planes rest h in
    let two = parted_by (planes_read depth sizes one.mid) (λ ps. give (one.value ∷ ps)) planes rest one.goes_on in
    let a = plane_only depth size text one.value one.mid one.begins in
    let b = planes_only depth sizes one.mid two.value two.mid two.begins in
    let is : one.value ∷ two.value ≡ planes = ap (value_in []) two.goes_on in
    let left : two.mid ≡ rest = ap rest_in two.goes_on in
    planes_one depth size sizes text one.value one.mid two.value planes two.mid rest a b is left

pub record PictureTold (depth : ℕ) (sizes text : List ℕ) (p : List (List ℕ)) (rest : List ℕ) : Type 0 where
  pub fits : map (λ q. length q) p ≡ sizes
  pub whole : text ≡ picture_text p ++ rest
  pub small : AreInDepth depth p

picture_of : (depth : ℕ) (sizes text mid : List ℕ) (value p : List (List ℕ)) (left rest : List ℕ) → text ≡ frame_line ++ mid → PlanesTold depth sizes mid value left → value ≡ p → left ≡ rest → PictureTold depth sizes text p rest
picture_of depth sizes text mid value p left rest begun a is same =
    let behind : mid ≡ flat_map (λ q. q) p ++ rest = rw (← is, ← same) a.whole in
    record { fits = rw (← is) a.long; whole = begun ∙ (rw behind (sym (append_assoc frame_line (flat_map (λ q. q) p) rest))); small = subst (AreInDepth depth) is a.small }

picture_with : (depth : ℕ) (sizes text : List ℕ) (p : List (List ℕ)) (rest mid : List ℕ) (b : Bool) → frame_begun text ≡ Ok (b, mid) → where_begun (planes_read depth sizes) b mid ≡ Ok (Some p, rest) → PictureTold depth sizes text p rest
picture_with depth sizes text p rest mid false begins h = absurd (false≢true (ap (λ r. is_some (value_in None r)) h))
picture_with depth sizes text p rest mid true begins h =
    let t = parted_by (planes_read depth sizes mid) (λ x. give (Some x)) (Some p) rest h in
    let a = planes_only depth sizes mid t.value t.mid t.begins in
    let is : t.value ≡ p = ap (λ r. some_in [] (value_in None r)) t.goes_on in
    let left : t.mid ≡ rest = ap rest_in t.goes_on in
    picture_of depth sizes text mid t.value p t.mid rest (frame_only text mid begins) a is left

pub picture_only : (depth : ℕ) (sizes text : List ℕ) (p : List (List ℕ)) (rest : List ℕ) → (frame_begun then where_begun (planes_read depth sizes)) text ≡ Ok (Some p, rest) → PictureTold depth sizes text p rest
picture_only depth sizes text p rest h =
    let t = parted_by (frame_begun text) (where_begun (planes_read depth sizes)) (Some p) rest h in
    picture_with depth sizes text p rest t.mid t.value t.begins t.goes_on

end_with : (depth : ℕ) (sizes text rest mid : List ℕ) (b : Bool) → frame_begun text ≡ Ok (b, mid) → where_begun (planes_read depth sizes) b mid ≡ Ok (None, rest) → text ≡ []
end_with depth sizes text rest mid false begins h = frame_ended text mid begins
end_with depth sizes text rest mid true begins h =
    let t = parted_by (planes_read depth sizes mid) (λ x. give (Some x)) None rest h in
    absurd (true≢false (ap (λ r. is_some (value_in None r)) t.goes_on))

pub end_only : (depth : ℕ) (sizes text rest : List ℕ) → (frame_begun then where_begun (planes_read depth sizes)) text ≡ Ok (None, rest) → text ≡ []
end_only depth sizes text rest h =
    let t = parted_by (frame_begun text) (where_begun (planes_read depth sizes)) None rest h in
    end_with depth sizes text rest t.mid t.value t.begins t.goes_on

pub record PicturesTold (depth : ℕ) (h : VideoHead) (text : List ℕ) (ps : List (List (List ℕ))) : Type 0 where
  pub fit : AllFit depth h ps
  pub whole : text ≡ flat_map picture_text ps

pub pictures_only : (depth : ℕ) (h : VideoHead) (text : List ℕ) (ps : List (List (List ℕ))) → ReadsAll depth h text ps → PicturesTold depth h text ps
pictures_only depth h text [] reads = record { fit = tt; whole = end_only depth (plane_bytes depth h) text [] reads }
pictures_only depth h text (p ∷ ps) reads =
    let a = picture_only depth (plane_bytes depth h) text p reads.0 reads.1 in
    let b = pictures_only depth h reads.0 ps reads.2 in
    record { fit = ((a.fits, a.small), b.fit); whole = a.whole ∙ ap (λ z. picture_text p ++ z) b.whole }

pub record HeaderTold (most : ℕ) (text : List ℕ) (h : DeepHead) (rest : List ℕ) : Type 0 where
  pub line : List ℕ
  pub single : Without 10 line
  pub short : length line ≤ 1024
  pub head : head_of_line most line ≡ Ok h
  pub whole : text ≡ line ++ 10 ∷ rest

judged_told : (r : Result DeepHead Fault) (text : List ℕ) (h : DeepHead) (rest : List ℕ) → judge r text ≡ Ok (h, rest) → (r ≡ Ok h) × (text ≡ rest)
judged_told (Ok k) text h rest is = (ap (λ z. Ok (value_in h z)) is, ap rest_in is)
judged_told (Err f) text h rest is = absurd (true≢false (ap is_fault is))

pub header_told : (most : ℕ) (text : List ℕ) (h : DeepHead) (rest : List ℕ) → header_of most text ≡ Ok (h, rest) → HeaderTold most text h rest
header_told most text h rest is =
    let t = parted_by (line_read 1025 text) (λ line. judge (head_of_line most line)) h rest is in
    let a = line_was 1025 text t.value t.mid t.begins in
    let b = judged_told (head_of_line most t.value) t.mid h rest t.goes_on in
    record { line = t.value; single = a.single; short = omega (arith, a.short); head = b.0; whole = a.whole ∙ ap (λ z. t.value ++ 10 ∷ z) b.1 }

text_of : (most : ℕ) (text : List ℕ) (depth : ℕ) (h : VideoHead) (rest : List ℕ) (ps : List (List (List ℕ))) → HeaderTold most text (said depth h) rest → PicturesTold depth h rest ps → IsText most text depth h ps
text_of most text depth h rest ps a b = record { line = a.line; single = a.single; short = a.short; said = (line_only a.line most (said depth h) a.head).0; whole = a.whole ∙ ap (λ z. a.line ++ 10 ∷ z) b.whole; fit = b.fit }

pub text_only : (text : List ℕ) (most depth : ℕ) (h : VideoHead) (rest : List ℕ) (ps : List (List (List ℕ))) → header_of most text ≡ Ok (said depth h, rest) → ReadsAll depth h rest ps → IsText most text depth h ps
text_only text most depth h rest ps is reads = text_of most text depth h rest ps (header_told most text (said depth h) rest is) (pictures_only depth h rest ps reads)

-- what a head says of siting and range makes no difference to its pictures
fit_said : (most depth : ℕ) (h : VideoHead) (ps : List (List (List ℕ))) → AllFit depth h ps → AllFit depth (as_said most depth h) ps
fit_said most depth h [] fit = tt
fit_said most depth h (p ∷ ps) fit = (fit.0, fit_said most depth h ps fit.1)

-- the canonical text is a text of its pictures and of its head, as a text says it
pub canonical_is : (most depth : ℕ) (h : VideoHead) (pictures : List (List (List ℕ))) → IsHead h → IsNamed depth h → AllFit depth h pictures → IsText most (canonical_text depth h pictures) depth (as_said most depth h) pictures
canonical_is most depth h pictures k named fit = record {
  line = head_line depth h;
  single = line_single depth h k;
  short = line_short depth h k;
  said = line_said most depth h k named;
  whole = ap (λ z. z ++ flat_map picture_text pictures) (header_parts depth h) ∙ append_assoc (head_line depth h) (10 ∷ []) (flat_map picture_text pictures);
  fit = fit_said most depth h pictures fit;
}

-- and reads as them
pub canonical_back : (most depth : ℕ) (h : VideoHead) (pictures : List (List (List ℕ))) → IsHead h → IsNamed depth h → AllFit depth h pictures → depth ≤ most →
    (rest : List ℕ) × (header_of most (canonical_text depth h pictures) ≡ Ok (said depth (as_said most depth h), rest)) × ReadsAll depth (as_said most depth h) rest pictures
canonical_back most depth h pictures k named fit small = text_found (canonical_text depth h pictures) most depth (as_said most depth h) pictures (canonical_is most depth h pictures k named fit) small

nothing_said : (h : VideoHead) → h.siting ≡ None → h.range ≡ None → record h { siting = None; range = None } ≡ h
nothing_said h unsited unranged =
    let one : record h { siting = None; range = None } ≡ record h { range = None } = ap (λ z. record h { siting = z; range = None }) (sym unsited) in
    let two : record h { range = None } ≡ h = ap (λ z. record h { range = z }) (sym unranged) in
    one ∙ two

-- if depths above 8 are not read, a head that says neither siting nor range is said as it is
plain_said : (most depth : ℕ) (h : VideoHead) (b deep : Bool) → has_siting depth h.chroma_planes h.log2_h h.log2_v ≡ b → nat_lt 8 most ≡ deep → deep ≡ false → h.siting ≡ None → h.range ≡ None → as_said most depth h ≡ h
plain_said most depth h b true test read strict unsited unranged = absurd (true≢false strict)
plain_said most depth h true false test read strict unsited unranged = rw (test, read) (nothing_said h unsited unranged)
plain_said most depth h false false test read strict unsited unranged = rw (test, read) (nothing_said h unsited unranged)

pub canonical_strict : (most depth : ℕ) (h : VideoHead) (pictures : List (List (List ℕ))) → IsHead h → IsNamed depth h → h.siting ≡ None → h.range ≡ None → most ≤ 8 → AllFit depth h pictures → IsText most (canonical_text depth h pictures) depth h pictures
canonical_strict most depth h pictures k named unsited unranged strict fit =
    let shallow : nat_lt 8 most ≡ false = le-ltb 8 most strict in
    let same : as_said most depth h ≡ h = plain_said most depth h _ _ refl refl shallow unsited unranged in
    subst (λ z. IsText most (canonical_text depth h pictures) depth z pictures) same (canonical_is most depth h pictures k named fit)

-- the canonical text of the head that a text says is that of the head
half_wide : (a b : ℕ) (extra : Bool) → is_chroma true a b extra ≡ true → (b == 1) ≡ true → (a == 1) ≡ true
half_wide zero zero extra named test = absurd (false≢true test)
half_wide zero (suc b) extra named test = absurd (false≢true named)
half_wide (suc zero) b extra named test = refl
half_wide (suc (suc zero)) zero extra named test = absurd (false≢true test)
half_wide (suc (suc zero)) (suc b) extra named test = absurd (false≢true named)
half_wide (suc (suc (suc a))) b extra named test = absurd (false≢true named)

middle_name : (s : Option Siting) → siting_name (Some (or_else s siting.Centre)) ≡ siting_name s
middle_name None = refl
middle_name (Some s) = refl

half_name : (planes extra c : Bool) (a b : ℕ) (s : Option Siting) → is_chroma planes a b extra ≡ true → (b == 1) ≡ c → name_of_chroma planes a b extra (if (planes && (a == 1 && b == 1)) && true then Some (or_else s siting.Centre) else None) ≡ name_of_chroma planes a b extra s
half_name false extra c a b s named test = refl
half_name true true c a b s named test = refl
half_name true false false a b s named test = rw test refl
half_name true false true a b s named test = rw (half_wide a b false named test, test) (middle_name s)

chroma_of_named : (depth : ℕ) (planes : Bool) (a b : ℕ) (extra : Bool) → is_named depth planes a b extra ≡ true → is_chroma planes a b extra ≡ true
chroma_of_named depth planes a b extra named = front (is_chroma planes a b extra) _ named
  where
    front : (x y : Bool) → x && y ≡ true → x ≡ true
    front true y e = refl
    front false y e = e

name_by : (depth : ℕ) (h : VideoHead) (eight : Bool) → (depth == 8) ≡ eight → IsNamed depth h → chroma_name depth (record h { siting = if has_siting depth h.chroma_planes h.log2_h h.log2_v && true then Some (or_else h.siting siting.Centre) else None }) ≡ chroma_name depth h
name_by depth h false test named = rw test refl
name_by depth h true test named = rw test (half_name h.chroma_planes h.extra_plane (h.log2_v == 1) h.log2_h h.log2_v h.siting (chroma_of_named depth h.chroma_planes h.log2_h h.log2_v h.extra_plane named.name) refl)

header_same : (most depth : ℕ) (h : VideoHead) → IsNamed depth h → nat_lt 8 most ≡ true → header_text depth (as_said most depth h) ≡ header_text depth h
unfolding header_text sizes_text times_text
header_same most depth h named deep = rw deep (ap (λ z. sizes_text h ++ (times_text h ++ (name_text (codes " C") z ++ name_text (depth_name depth) (range_end h.range)))) (name_by depth h (depth == 8) refl named))

pub canonical_same : (most depth : ℕ) (h : VideoHead) (pictures : List (List (List ℕ))) → IsNamed depth h → 8 < most → canonical_text depth (as_said most depth h) pictures ≡ canonical_text depth h pictures
canonical_same most depth h pictures named deep = ap (λ z. z ++ flat_map picture_text pictures) (header_same most depth h named (lt-ltb 8 most deep))

-- picture by picture
pub canonical_written : (depth : ℕ) (h : VideoHead) (p : List (List ℕ)) (ps : List (List (List ℕ))) → next_text depth h false p ++ flat_map (next_text depth h true) ps ≡ canonical_text depth h (p ∷ ps)
canonical_written depth h p ps = append_assoc (header_text depth h) (picture_text p) (flat_map picture_text ps)
