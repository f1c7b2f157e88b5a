-- Items are judged one after the other.
use Rattle.std.proofs.Common.{◌≡◌, refl, ℕ, suc, ◌+◌, ◌-◌, ◌^◌, ◌<◌, Bool, true, false, Option, Some, None, Ok, Err, List, [], ◌∷◌, ◌++◌, length, map, take, inl, inr, ap, sym, subst, ◌∙◌, arith, append-nil, append_assoc, length-append}
use Rattle.std.specs.Io.KnownBytes.{Appends}
use Rattle.std.proofs.KnownBytes.{Appends-nil, Appends-trans, Appends-kept}
use Rattle.ffv1_range.specs.Counts.{saturated}
use Rattle.ffv1_wire.specs.Failures.{one_more}
use Rattle.ffv1_wire.specs.Passage.{Passage, between}
use Rattle.ffv1_record.specs.Accepted.{Accepted}
use Rattle.ffv1_record.specs.Configuration.{Configuration}
use Rattle.ffv1_reads.specs.Known.{Known}
use Rattle.ffv1_files.specs.declared.course.Course.{Course}
use Rattle.ffv1_reads.specs.Items.{Given, GivesFrame}
use Rattle.ffv1_reads.specs.declared.item.Item.TheVariants as item
use Rattle.ffv1_reads.specs.declared.fault.FileFault.{FileFault}
use Rattle.ffv1_reads.specs.declared.fault.FileFault.TheVariants as file_fault
use Rattle.ffv1_files.specs.Answers.{ReadsAs}
use Rattle.ffv1_reads.specs.Reads as readings
use Rattle.ffv1_files.specs.Items.{ItemSoFar, Next, StopsCourse, StopsItem, item_of, item_read}
use Rattle.ffv1_files.specs.Places.{InAvi, InMatroska, Place}
use Rattle.ffv1_files.specs.declared.course.Course.TheVariants as course
use Rattle.ffv1_video.specs.declared.fault.Fault.{Fault}
use Rattle.ffv1_video.specs.Faults.{Cause, cause_of, of_avi}
use Rattle.ffv1_video.specs.Faults.Cause.{Reading, Writing, Memory, Content}
use Rattle.ffv1_video.specs.Output.{Silent, WritesUpTo}
use Rattle.ffv1_video.proofs.KnownTexts.{known_map, known_then}
use Rattle.ffv1_video.proofs.Output.{silent, take_past}
use Rattle.ffv1_unpack.specs.declared.judging.JudgedCounts.{JudgedCounts}
use Rattle.ffv1_unpack.specs.Judged.{IsJudged, Judged, payload_of, refusal_of, with_refusal}
use Rattle.ffv1_unpack.specs.JudgedItems.{IsJudgedItem, ItemsAll, ItemsFrom, ItemsGo, ItemsLack, ItemsNext, ItemsOver, ItemsStay, ItemsStopBy, ItemsWant, ItemsWritten, JudgedItem, OfFrame, ReadsItems, ToldAt, fault_of, faults_of, frames_of, given_as, item_line, item_lines, item_lines_from, number_after, with_frame}
use Rattle.ffv1_unpack.specs.Internal.Judged.{first_of, one_counted}
use Rattle.ffv1_unpack.specs.Internal.JudgedItems.{AreItemCounts, ItemComes, ItemFailsBy, item_counted, told_counted}
use Rattle.ffv1_unpack.specs.Internal.Plainly.{is_plain}
use Rattle.ffv1_unpack.specs.Internal.Told.{WritesFrame}
use Rattle.ffv1_unpack.specs.Play.{but_last}
use Rattle.ffv1_unpack.specs.Stream.{AreAll}
use Rattle.ffv1_unpack.specs.Told.{is_telling_fault}
use Rattle.ffv1_unpack.proofs.FramesInTurn.{all_more, but_last_more, counted_more}
use Rattle.ffv1_unpack.proofs.FramesJudged.{first_more, no_more, with_more}

-- ---- one more

frames_after : (x : JudgedItem) (js ks : List Judged) → with_frame x (js ++ ks) ≡ with_frame x js ++ ks
frames_after (OfFrame j) js ks = refl
frames_after (ToldAt f offset) js ks = refl

pub frames_more : (xs : List JudgedItem) (x : JudgedItem) → frames_of (xs ++ (x ∷ [])) ≡ frames_of xs ++ with_frame x []
frames_more [] x = refl
frames_more (y ∷ ys) x = ap (with_frame y) (frames_more ys x) ∙ frames_after y (frames_of ys) (with_frame x [])

faults_more : (xs : List JudgedItem) (x : JudgedItem) → faults_of (xs ++ (x ∷ [])) ≡ faults_of xs ++ with_refusal (fault_of x) []
faults_more [] x = refl
faults_more (y ∷ ys) x = ap (with_refusal (fault_of y)) (faults_more ys x) ∙ with_more (fault_of y) (faults_of ys) (with_refusal (fault_of x) [])

numbered : (i : ℕ) (y : JudgedItem) (js : List Judged) → number_after i y + length js ≡ i + length (with_frame y js)
numbered i (OfFrame j) js =
    let same : suc i + length js ≡ i + suc (length js) = omega arith in
    same
numbered i (ToldAt f offset) js = refl

from_more : (place : Bool) (c : Configuration) (i : ℕ) (xs : List JudgedItem) (x : JudgedItem) →
    item_lines_from place c i (xs ++ (x ∷ [])) ≡ item_lines_from place c i xs ++ item_line place c (saturated (i + length (frames_of xs))) x
from_more place c i [] x =
    let same : i ≡ i + 0 = omega arith in
    append-nil (item_line place c (saturated i) x) ∙ ap (λ n. item_line place c (saturated n) x) same
from_more place c i (y ∷ ys) x =
    let here = item_line place c (saturated i) y in
    let others = item_lines_from place c (number_after i y) ys in
    ap (λ z. here ++ z) (from_more place c (number_after i y) ys x)
    ∙ sym (append_assoc here others (item_line place c (saturated (number_after i y + length (frames_of ys))) x))
    ∙ ap (λ n. (here ++ others) ++ item_line place c (saturated n) x) (numbered i y (frames_of ys))

pub lines_more : (place : Bool) (c : Configuration) (xs : List JudgedItem) (n : ℕ) → n ≡ saturated (length (frames_of xs)) → (x : JudgedItem) →
    item_lines place c (xs ++ (x ∷ [])) ≡ item_lines place c xs ++ item_line place c n x
lines_more place c xs n is x =
    let same : 0 + length (frames_of xs) ≡ length (frames_of xs) = omega arith in
    from_more place c 0 xs x
    ∙ ap (λ m. item_lines place c xs ++ item_line place c (saturated m) x) same
    ∙ ap (λ m. item_lines place c xs ++ item_line place c m x) (sym is)

-- ---- counts

counts_frame : (c : JudgedCounts) (xs ys : List JudgedItem) (j : Judged) (o : Option Fault) → frames_of ys ≡ frames_of xs ++ (j ∷ []) → faults_of ys ≡ faults_of xs ++ with_refusal o [] → AreItemCounts c xs →
    AreItemCounts (one_counted c o) ys
counts_frame c xs ys j None e d h =
    let same : faults_of ys ≡ faults_of xs = d ∙ no_more (faults_of xs) in
    record {
      frames = rw e (let long = counted_more (frames_of xs) j in let is = h.frames in omega (arith, long, is));
      faults = rw same h.faults;
      first = rw same h.first;
    }
counts_frame c xs ys j (Some f) e d h =
    record {
      frames = rw e (let long = counted_more (frames_of xs) j in let is = h.frames in omega (arith, long, is));
      faults = rw d (let long = counted_more (faults_of xs) f in let is = h.faults in omega (arith, long, is));
      first = rw d (ap (λ z. first_of z f) h.first ∙ sym (first_more (faults_of xs) f));
    }

counts_told : (c : JudgedCounts) (xs ys : List JudgedItem) (f : Fault) → frames_of ys ≡ frames_of xs → faults_of ys ≡ faults_of xs ++ (f ∷ []) → AreItemCounts c xs → AreItemCounts (told_counted c f) ys
counts_told c xs ys f e d h =
    record {
      frames = rw e h.frames;
      faults = rw d (let long = counted_more (faults_of xs) f in let is = h.faults in omega (arith, long, is));
      first = rw d (ap (λ z. first_of z f) h.first ∙ sym (first_more (faults_of xs) f));
    }

pub counts_more : (c : JudgedCounts) (xs : List JudgedItem) (x : JudgedItem) → AreItemCounts c xs → AreItemCounts (item_counted c x) (xs ++ (x ∷ []))
counts_more c xs (OfFrame j) h = counts_frame c xs (xs ++ (OfFrame j ∷ [])) j (refusal_of j) (frames_more xs (OfFrame j)) (faults_more xs (OfFrame j)) h
counts_more c xs (ToldAt f offset) h =
    counts_told c xs (xs ++ (ToldAt f offset ∷ [])) (of_avi f) (frames_more xs (ToldAt f offset) ∙ append-nil (frames_of xs)) (faults_more xs (ToldAt f offset)) h

-- ---- items that are read on

items_more : (from : Place) (c : Course) (text : List ℕ) (xs : List JudgedItem) (to : Place) (d : Course) (at : List ℕ) (x : JudgedItem) (last : Place) (e : Course) (rest : List ℕ) →
    ReadsItems from c text (map given_as xs) to d at → item_read to d at ≡ Ok (Some (given_as x, last, e), rest) → ReadsItems from c text (map given_as (xs ++ (x ∷ []))) last e rest
items_more from c text [] to d at x last e rest h next = (
  last,
  e,
  rest,
  subst (λ l. item_read l c text ≡ Ok (Some (given_as x, last, e), rest)) h.0
      (subst (λ z. item_read to z text ≡ Ok (Some (given_as x, last, e), rest)) h.1 (subst (λ t. item_read to d t ≡ Ok (Some (given_as x, last, e), rest)) h.2 next)),
  (refl, refl, refl),
)
items_more from c text (y ∷ ys) to d at x last e rest h next = (h.0, h.1, h.2, h.3, items_more h.0 h.1 h.2 ys to d at x last e rest h.4 next)

pub items_none : (from : Place) (c : Course) (o : Option (List ℕ)) → Known o o (λ bytes rest. ReadsItems from c bytes [] from c rest)
items_none from c None = tt
items_none from c (Some text) = (refl, refl, refl)

module _ (from to last : Place) (c d e : Course) where
  pub reads_more : (o m n : Option (List ℕ)) (xs : List JudgedItem) (x : JudgedItem) → Known o m (λ bytes rest. ReadsItems from c bytes (map given_as xs) to d rest) →
      Known m n (λ text rest. item_read to d text ≡ Ok (Some (given_as x, last, e), rest)) → Known o n (λ bytes rest. ReadsItems from c bytes (map given_as (xs ++ (x ∷ []))) last e rest)
  reads_more None m n xs x h next = tt
  reads_more (Some text) None n xs x h next = absurd h
  reads_more (Some text) (Some at) None xs x h next = absurd next
  reads_more (Some text) (Some at) (Some rest) xs x h next = items_more from c text xs to d at x last e rest h next

-- first these, and then this
module _ (from to : Place) (c d : Course) (o : Option (List ℕ)) (is : List Given) where
  pub has_then : (m n : Option (List ℕ)) (Next : ItemsNext) → Known o m (λ bytes rest. ReadsItems from c bytes is to d rest) → Known m n (Next to d) → Known o n (ItemsFrom from c is Next)
  has_then m n Next read next =
      known_map o n (λ bytes rest. (left : List ℕ) × ReadsItems from c bytes is to d left × Next to d left rest) (ItemsFrom from c is Next) (λ bytes rest p. (to, d, p.0, p.1, p.2))
      (known_then o m n (λ bytes rest. ReadsItems from c bytes is to d rest) (Next to d) read next)

  pub has_stays : (n : Option (List ℕ)) → Known o n (λ bytes rest. ReadsItems from c bytes is to d rest) → Known o n (ItemsFrom from c is ItemsStay)
  has_stays n read = known_map o n (λ bytes rest. ReadsItems from c bytes is to d rest) (ItemsFrom from c is ItemsStay) (λ bytes rest r. (to, d, rest, r, refl)) read

  pub has_many : (n : Option (List ℕ)) (count : ℕ) → count ≡ 2 ^ 64 - 1 → Known o n (λ bytes rest. ReadsItems from c bytes is to d rest) → Known o n (ItemsFrom from c is (ItemsOver count))
  has_many n count many read =
      known_map o n (λ bytes rest. ReadsItems from c bytes is to d rest) (ItemsFrom from c is (ItemsOver count)) (λ bytes rest r. (to, d, rest, r, inr (many, refl))) read

-- ---- written lines

-- a beginning of what comes after lines that were written
pub up_to : (o0 o1 o2 : Option (List ℕ)) (least : ℕ) (lines line all : List ℕ) → least ≡ length lines → all ≡ lines ++ line → Appends o0 o1 lines → (k : ℕ) → k < length line → Appends o1 o2 (take k line) →
    WritesUpTo o0 o2 least all
up_to o0 o1 o2 least lines line all few is first k short next =
    let long : length (lines ++ line) ≡ length lines + length line = length-append lines line in
    record {
      count = length lines + k;
      enough = omega (arith, few);
      short = rw is (omega (arith, long, short));
      writes = rw is (subst (Appends o0 o2) (sym (take_past lines line k)) (Appends-trans o0 o1 o2 lines (take k line) first next));
    }

-- ---- so far

-- so many were judged, up to this place and this course
pub record ItemsSo (place : Bool) (a : Accepted) (from : Place) (c : Course) (input output : Passage) (n : ℕ) (counts : JudgedCounts) (to : Place) (d : Course) : Type 0 where
  pub xs : List JudgedItem
  pub many : length xs ≡ n
  pub counted : AreItemCounts counts xs
  pub are : AreAll (IsJudgedItem a) xs
  pub read : Known input.old input.new (λ bytes rest. ReadsItems from c bytes (map given_as xs) to d rest)
  pub kept : input.after ≡ input.before
  pub wrote : ItemsWritten (ItemsFrom from c) a place input output xs

module _ (place : Bool) (a : Accepted) (from : Place) (c : Course) where
  pub so_none : (i o : Option (List ℕ)) (ib ob : ℕ) (counts : JudgedCounts) → AreItemCounts counts [] → ItemsSo place a from c (between i i ib ib) (between o o ob ob) 0 counts from c
  so_none i o ib ob counts none = record {
    xs = [];
    many = refl;
    counted = none;
    are = tt;
    read = items_none from c i;
    kept = refl;
    wrote = record { written = refl; writes = Appends-nil o };
  }

module _ (place : Bool) (a : Accepted) (from to last : Place) (c d e : Course) (n : ℕ) (counts : JudgedCounts) (i0 i1 i2 o0 o1 o2 : Option (List ℕ)) (ib im ia ob om oa : ℕ)
    (so : ItemsSo place a from c (between i0 i1 ib im) (between o0 o1 ob om) n counts to d) where
  abbrev lines : List ℕ
  lines = item_lines place a.configuration so.xs

  more : (x : JudgedItem) → item_lines place a.configuration (so.xs ++ (x ∷ [])) ≡ lines ++ item_line place a.configuration counts.frames x
  more = lines_more place a.configuration so.xs counts.frames so.counted.frames

  abbrev Comes : JudgedItem → Type 0
  Comes x = ItemComes place a counts.frames to last d e (between i1 i2 im ia) (between o1 o2 om oa) x

  reads : (x : JudgedItem) → Comes x → Known i0 i2 (λ bytes rest. ReadsItems from c bytes (map given_as (so.xs ++ (x ∷ []))) last e rest)
  reads x here = reads_more from to last c d e i0 i1 i2 so.xs x so.read here.next

  pub so_more : (new : JudgedCounts) (x : JudgedItem) → Comes x → oa ≡ om → Appends o1 o2 (item_line place a.configuration counts.frames x) → new ≡ item_counted counts x →
      ItemsSo place a from c (between i0 i2 ib ia) (between o0 o2 ob oa) (n + 1) new last e
  so_more new x here same writes is = record {
    xs = so.xs ++ (x ∷ []);
    many = (let long = counted_more so.xs x in let many = so.many in omega (arith, long, many));
    counted = rw is (counts_more counts so.xs x so.counted);
    are = all_more (IsJudgedItem a) so.xs x so.are here.is;
    read = reads x here;
    kept = here.kept ∙ so.kept;
    wrote = record {
      written = same ∙ so.wrote.written;
      writes = subst (Appends o0 o2) (sym (more x)) (Appends-trans o0 o1 o2 lines (item_line place a.configuration counts.frames x) so.wrote.writes writes);
    };
  }

  -- and then this
  goes_on : (Next : ItemsNext) → Known i1 i2 (Next to d) → ItemsGo (ItemsFrom from c) a place (between i0 i2 ib ia) (between o0 o2 ob oa) so.xs Next
  goes_on Next next = record { are = so.are; has = has_then from to c d i0 (map given_as so.xs) i1 i2 Next so.read next }

  silent_after : Silent (between o1 o2 om oa) → ItemsWritten (ItemsFrom from c) a place (between i0 i2 ib ia) (between o0 o2 ob oa) so.xs
  silent_after none = record { written = none.same ∙ so.wrote.written; writes = Appends-kept o0 o1 o2 lines so.wrote.writes none.kept }

  pub so_over : ia ≡ im → Known i1 i2 (λ text rest. item_read to d text ≡ Ok (None, rest)) → Silent (between o1 o2 om oa) →
      ItemsAll (ItemsFrom from c) a place (between i0 i2 ib ia) (between o0 o2 ob oa) so.xs
  so_over same over none = record {
    go = goes_on (ItemsOver (length so.xs)) (known_map i1 i2 (λ text rest. item_read to d text ≡ Ok (None, rest)) (ItemsOver (length so.xs) to d) (λ text rest is. inl is) over);
    wrote = silent_after none;
    kept = same ∙ so.kept;
  }

  -- why no further one is judged
  pub so_stops : (why : Cause) → ItemFailsBy place a counts.frames to last d e (between i1 i2 im ia) (between o1 o2 om oa) why →
      ItemsStopBy (ItemsFrom from c) a place (between i0 i2 ib ia) (between o0 o2 ob oa) why
  so_stops Writing (x, here, counted, (k, short, writes)) =
      let all = so.xs ++ (x ∷ []) in (
        all,
        record {
          are = all_more (IsJudgedItem a) so.xs x so.are here.is;
          has = has_stays from last c e i0 (map given_as all) i2 (reads x here);
        },
        here.kept ∙ so.kept,
        counted ∙ ap one_more so.wrote.written,
        up_to o0 o1 o2 (length (item_lines place a.configuration (but_last all))) lines (item_line place a.configuration counts.frames x) (item_lines place a.configuration all)
            (ap (λ ys. length (item_lines place a.configuration ys)) (but_last_more so.xs x)) (more x) so.wrote.writes k short writes,
      )
  so_stops Reading (none, failed, wants) = (so.xs, goes_on ItemsWant wants, failed ∙ ap one_more so.kept, silent_after none)
  so_stops Memory (none, same, lacks) = (so.xs, goes_on (ItemsLack a) lacks, same ∙ so.kept, silent_after none)
  so_stops Content h = absurd h

-- so many that no further one is read
module _ (place : Bool) (a : Accepted) (from to : Place) (c d : Course) (n : ℕ) (counts : JudgedCounts) (input output : Passage) (so : ItemsSo place a from c input output n counts to d) where
  pub so_many : n ≡ 2 ^ 64 - 1 → ItemsAll (ItemsFrom from c) a place input output so.xs
  so_many full = record {
    go = record { are = so.are; has = has_many from to c d input.old (map given_as so.xs) input.new (length so.xs) (so.many ∙ full) so.read };
    wrote = so.wrote;
    kept = so.kept;
  }

-- ---- one

module _ (place : Bool) (a : Accepted) (i : ℕ) (from to : Place) (c d : Course) (input output : Passage) where
  abbrev Here : JudgedItem → Type 0
  Here x = ItemComes place a i from to c d input output x

  abbrev Fails : Cause → Type 0
  Fails why = ItemFailsBy place a i from to c d input output why

  pub frame_comes : (bytes : List ℕ) → ReadsAs (item_read from c) input (item_of item.Frame bytes to d) → (j : Judged) → IsJudged a j → payload_of j ≡ bytes → Here (OfFrame j)
  frame_comes bytes read j is same = record {
    is = is;
    kept = read.0;
    next = subst (λ z. Known input.old input.new (λ text rest. item_read from c text ≡ Ok (Some (GivesFrame z, to, d), rest))) (sym same) read.1;
  }

  pub told_comes : (f : FileFault) (offset : ℕ) (bytes : List ℕ) → ReadsAs (item_read from c) input (item_of (item.Told f offset) bytes to d) → Here (ToldAt f offset)
  told_comes f offset bytes read = record { is = tt; kept = read.0; next = read.1 }

  -- its lines were not written
  pub line_fails : (x : JudgedItem) (f : Fault) → Here x → WritesFrame (item_line place a.configuration i x) output (Err f) → Fails (cause_of f)
  line_fails x f here answer = elim answer [
    | inl write ↦ subst (λ z. Fails (cause_of z)) (sym write.0) (x, here, write.1, write.2)
    | inr none ↦
        subst (λ z. Fails (cause_of z)) (sym none.0) (
          record { kept = none.2; same = none.1 },
          here.kept,
          known_map input.old input.new (λ text rest. item_read from c text ≡ Ok (Some (given_as x, to, d), rest)) (ItemsLack a from c) (λ text rest is. inr (x, here.is, (to, d, is))) here.next,
        )
  ]

-- by a course that reads on, why there is none
pub stops_on : (from : Place) (c : Course) → is_plain c ≡ false → (reading : readings.Reading Next) (p : Passage) (f : FileFault) → StopsItem from c reading p f → StopsCourse reading p f
stops_on from course.Plain reads reading p f h = absurd (let no : true ≡ false = reads in cc)
stops_on (InAvi q) (course.Avi c repeated) reads reading p f h = h
stops_on (InAvi q) (course.Matroska c) reads reading p f h = h
stops_on (InMatroska size track q) (course.Avi c repeated) reads reading p f h = h
stops_on (InMatroska size track q) (course.Matroska c) reads reading p f h = h

-- by a fault that telling frames has
course_own : (reading : readings.Reading Next) (p : Passage) (f : FileFault) → StopsCourse reading p f → is_telling_fault (of_avi f) ≡ true
course_own reading p file_fault.Read h = refl
course_own reading p file_fault.OutOfMemory h = refl
course_own reading p f h = absurd h

pub item_own : (from : Place) (c : Course) → is_plain c ≡ false → (p : Passage) (f : FileFault) → StopsItem from c (item_read from c) p f → is_telling_fault (of_avi f) ≡ true
item_own from c reads p f h = course_own (item_read from c) p f (stops_on from c reads (item_read from c) p f h)

-- there is none
module _ (place : Bool) (a : Accepted) (i : ℕ) (from to : Place) (c d : Course) (input : Passage) (o : Option (List ℕ)) (n : ℕ) where
  course_fails : (f : FileFault) → StopsCourse (item_read from c) input f → ItemFailsBy place a i from to c d input (between o o n n) (cause_of (of_avi f))
  course_fails file_fault.Read h = (silent o n, h.0, h.1)
  course_fails file_fault.OutOfMemory h = (
    silent o n,
    h.0,
    known_map input.old input.new (ItemSoFar (item_read from c)) (ItemsLack a from c) (λ text rest wants. inl wants) h.1,
  )
  course_fails f h = absurd h

  pub item_fails : is_plain c ≡ false → (f : FileFault) → StopsItem from c (item_read from c) input f → ItemFailsBy place a i from to c d input (between o o n n) (cause_of (of_avi f))
  item_fails reads f h = course_fails f (stops_on from c reads (item_read from c) input f h)

pub line_own : (line : List ℕ) (p : Passage) (f : Fault) → WritesFrame line p (Err f) → is_telling_fault f ≡ true
line_own line p f h = elim h [
  | inl write ↦ rw write.0 refl
  | inr none ↦ rw none.0 refl
]
