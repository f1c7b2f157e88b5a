-- A sink that takes lines, and what they make it write.
use Rattle.std.proofs.Common.{◌≡◌, ℕ, ◌+◌, inl, inr, Option, List, [], ◌∷◌, ◌++◌, length, take, ap, ◌∙◌, sym, subst, append_assoc, length-append, arith}
use Rattle.std.proofs.Math.Seq.{take-append_seam, take-append-add}
use Rattle.std.proofs.lemmas.List.{take-append-le}
use Rattle.std.specs.Io.KnownBytes.{Appends}
use Rattle.ffv1_wire.specs.Writes.{AppendsBeginning}
use Rattle.ffv1_wire.specs.Runs.{Grows, Line, Refuses as RunRefuses}
use Rattle.ffv1_y4m.specs.Sink.{PpmSink, Takes, Refuses, line_text, text_with, kept_behind, row_with}
use Rattle.ffv1_y4m.specs.Images.{text_of_lines}
use Rattle.ffv1_y4m.specs.Sink.{WritesPart}
use Rattle.ffv1_y4m.proofs.Written.{appends_then, appends_none}

-- what a sink writes for lines
abbrev sink_text : {W : Type 0} → PpmSink W → List Line → List ℕ
sink_text s lines = text_of_lines s.depth s.width s.height s.kept s.row lines

-- after a line that it takes
taken_text : {W : Type 0} (contents : W → Option (List ℕ)) (failed : W → ℕ) (s m : PpmSink W) (l : Line) (ls : List Line) → Takes contents failed s l.plane l.row l.samples m →
    sink_text m ls ≡ text_of_lines s.depth s.width s.height (kept_behind s.kept l.samples) (row_with s.height s.row s.kept) ls
taken_text contents failed s m l ls t = ap (λ z. sink_text z ls) t.sink

pub lines_taken : {W : Type 0} (contents : W → Option (List ℕ)) (failed : W → ℕ) (s t : PpmSink W) (lines : List Line) → Grows (Takes contents failed) s lines t →
    Appends (contents s.out) (contents t.out) (text_of_lines s.depth s.width s.height s.kept s.row lines)
lines_taken {W = W} contents failed s t [] h =
    let P : PpmSink W → Type 0 = λ z. Appends (contents s.out) (contents z.out) [] in
    subst P (sym h) (appends_none (contents s.out))
lines_taken {W = W} contents failed s t (l ∷ ls) (m, step, more) =
    let rest = lines_taken contents failed m t ls more in
    let P : List ℕ → Type 0 = λ z. Appends (contents m.out) (contents t.out) z in
    appends_then (contents s.out) (contents m.out) (contents t.out) _ _ step.written (subst P (taken_text contents failed s m l ls step) rest)

-- the text of lines after others
text_parts : {W : Type 0} (contents : W → Option (List ℕ)) (failed : W → ℕ) (s m : PpmSink W) (xs ys : List Line) → Grows (Takes contents failed) s xs m →
    sink_text s (xs ++ ys) ≡ sink_text s xs ++ sink_text m ys
text_parts contents failed s m [] ys h = ap (λ z. sink_text z ys) (sym h)
text_parts contents failed s m (l ∷ xs) ys (n, step, more) =
    let first = text_with s.depth s.width s.height s.row s.kept l.samples in
    let all = taken_text contents failed s n l (xs ++ ys) step in
    let some = taken_text contents failed s n l xs step in
    ap (λ z. first ++ z) (sym all ∙ (text_parts contents failed n m xs ys more ∙ ap (λ z. z ++ sink_text m ys) some)) ∙ sym (append_assoc first _ (sink_text m ys))

part_whole : (a b : Option (List ℕ)) (xs ys : List ℕ) → Appends a b xs → WritesPart a b (xs ++ ys)
part_whole a b xs ys h =
    let P : List ℕ → Type 0 = λ z. Appends a b z in
    record { count = length xs; within = omega (arith, length-append xs ys); written = subst P (sym (take-append_seam xs ys)) h }

part_later : (a b c : Option (List ℕ)) (xs ys zs : List ℕ) → Appends a b xs → AppendsBeginning b c ys → WritesPart a c (xs ++ (ys ++ zs))
part_later a b c xs ys zs h k =
    let P : List ℕ → Type 0 = λ z. Appends a c z in
    let front : take k.0 (ys ++ zs) ≡ take k.0 ys = take-append-le k.0 ys zs (omega (arith, k.1)) in
    let all : take (length xs + k.0) (xs ++ (ys ++ zs)) ≡ xs ++ take k.0 ys = take-append-add xs (ys ++ zs) k.0 ∙ ap (λ z. xs ++ z) front in
    record {
      count = length xs + k.0;
      within = omega (arith, length-append xs (ys ++ zs), length-append ys zs, k.1);
      written = subst P (sym all) (appends_then a b c xs (take k.0 ys) h k.2);
    }

refused_by : {W : Type 0} (contents : W → Option (List ℕ)) (failed : W → ℕ) (s m t : PpmSink W) (xs : List Line) (l : Line) (ys : List Line) → Grows (Takes contents failed) s xs m →
    Refuses contents failed m l.plane l.row l.samples t → WritesPart (contents s.out) (contents t.out) (sink_text s (xs ++ l ∷ ys))
refused_by {W = W} contents failed s m t xs l ys grows (inl other) =
    let P : List ℕ → Type 0 = λ z. WritesPart (contents s.out) (contents t.out) z in
    let Q : W → Type 0 = λ z. WritesPart (contents s.out) (contents z) (sink_text s xs ++ sink_text m (l ∷ ys)) in
    subst P (sym (text_parts contents failed s m xs (l ∷ ys) grows))
    (subst Q (sym (ap (λ z. z.out) other.1)) (part_whole (contents s.out) (contents m.out) (sink_text s xs) (sink_text m (l ∷ ys)) (lines_taken contents failed s m xs grows)))
refused_by {W = W} contents failed s m t xs l ys grows (inr cut) =
    let P : List ℕ → Type 0 = λ z. WritesPart (contents s.out) (contents t.out) z in
    subst P (sym (text_parts contents failed s m xs (l ∷ ys) grows))
    (part_later (contents s.out) (contents m.out) (contents t.out) (sink_text s xs) (line_text m l.samples) _ (lines_taken contents failed s m xs grows) cut.1)

pub lines_refused : {W : Type 0} (contents : W → Option (List ℕ)) (failed : W → ℕ) (s t : PpmSink W) (lines : List Line) → RunRefuses (Takes contents failed) (Refuses contents failed) s lines t →
    WritesPart (contents s.out) (contents t.out) (text_of_lines s.depth s.width s.height s.kept s.row lines)
lines_refused {W = W} contents failed s t lines r =
    let P : List Line → Type 0 = λ z. WritesPart (contents s.out) (contents t.out) (sink_text s z) in
    subst P (sym r.parts) (refused_by contents failed s r.between t r.before r.line r.after r.grows r.last)
