-- A list of MD5s, as FFmpeg's framemd5 writes it: which MD5s it has of its stream of video, or the
-- first line that is none.
use Rattle.std.specs.Prelude.{ℕ, ◌+◌, ◌==◌, Bool, if◌then◌else◌, List, [], ◌∷◌, ◌++◌, length}
use Rattle.std.specs.Prelude.{◌≡◌, Option, Some, None, Result, Ok, Err}
use Rattle.ffv1_range.specs.Counts.{saturated}
use Rattle.ffv1_wire.specs.Failures.{one_more}
use Rattle.ffv1_wire.specs.Passage.{Passage}
use Rattle.ffv1_reads.specs.Known.{Known}
use Rattle.ffv1_unpack.specs.Md5Line.{says}
use Rattle.ffv1_unpack.specs.declared.md5_list.ListFault.{ListFault}
use Rattle.ffv1_unpack.specs.declared.md5_list.ListFault.TheVariants as list_fault
use Rattle.ffv1_unpack.specs.declared.md5_line.Md5Line.{Md5Line}
use Rattle.ffv1_unpack.specs.declared.md5_line.Md5Line.TheVariants as line

-- the lines of a text, whose bytes follow these of a line: each ends with a line feed, and the last
-- one also with the text
abbrev pub lines_from : List ℕ → List ℕ → List (List ℕ)
lines_from line [] = if length line == 0 then [] else line ∷ []
lines_from line (b ∷ bs) =
    if b == 10 then line ∷ lines_from [] bs else lines_from (line ++ (b ∷ [])) bs

-- what some lines say: how many they are, the stream of video that they name first, and the MD5s
-- of its pictures
pub record Listed : Type 0 where
  pub number : ℕ
  pub stream : Option ℕ
  pub md5s : List ℕ

abbrev pub nothing_listed : Listed
nothing_listed = record { number = 0; stream = None; md5s = [] }

-- the stream that counts is the first one of video, or 0 if none was named
abbrev pub first_stream : Option ℕ → ℕ → Option ℕ
first_stream None stream = Some stream
first_stream (Some first) stream = Some first

abbrev pub is_stream : Option ℕ → ℕ → Bool
is_stream None stream = stream == 0
is_stream (Some first) stream = stream == first

abbrev pub counted : Listed → Listed
counted l = record l { number = saturated (l.number + 1) }

-- with one more line; or the number of that line, which is none
abbrev pub with_line : Listed → Md5Line → Result Listed ℕ
with_line l line.Head = Ok (counted l)
with_line l (line.Video stream) = Ok (record (counted l) { stream = first_stream l.stream stream })
with_line l (line.Picture stream md5) =
    Ok (if is_stream l.stream stream then record (counted l) { md5s = l.md5s ++ (md5 ∷ []) }
    else counted l)
with_line l line.Other = Err (saturated (l.number + 1))

abbrev pub on_listed : Result Listed ℕ → (Listed → Result (List ℕ) ℕ) → Result (List ℕ) ℕ
on_listed (Ok l) next = next l
on_listed (Err number) next = Err number

-- the MD5s of these lines, which come after others; or the number of the first line that is none,
-- or of the last one if they have no MD5 of the stream
abbrev pub md5s_in : Listed → List (List ℕ) → Result (List ℕ) ℕ
md5s_in l [] = if length l.md5s == 0 then Err l.number else Ok l.md5s
md5s_in l (line ∷ lines) = on_listed (with_line l (says line)) (λ m. md5s_in m lines)

-- the MD5s of a list
abbrev pub md5s_of : List ℕ → Result (List ℕ) ℕ
md5s_of text = md5s_in nothing_listed (lines_from [] text)

-- ---- a list is read

-- these are its MD5s, and it was read to its end
pub record IsListed (input : Passage) (md5s : List ℕ) : Type 0 where
  pub listed : Known input.old input.new (λ text rest. (rest ≡ []) × (md5s_of text ≡ Ok md5s))
  pub kept : input.after ≡ input.before

-- why it is refused, by what a text says: a read failed, which was counted; memory was refused, or
-- the list has 2^64 bytes; or by this line, whatever comes after what was read
abbrev pub StopsBy : (List ℕ → Result (List ℕ) ℕ) → Passage → ListFault → Type 0
StopsBy said input list_fault.Read = input.after ≡ one_more input.before
StopsBy said input list_fault.OutOfMemory = input.after ≡ input.before
StopsBy said input (list_fault.Line number) = (input.after ≡ input.before)
    × Known input.old input.new (λ text rest. said text ≡ Err number)

abbrev pub ListStops : Passage → ListFault → Type 0
ListStops = StopsBy md5s_of
