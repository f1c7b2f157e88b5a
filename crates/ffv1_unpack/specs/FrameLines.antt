-- The lines that are written of the frames of a file.
use Rattle.std.specs.Prelude.{ℕ, ◌*◌, Bool, true, false, List, [], ◌∷◌, ◌++◌, length, codes}
use Rattle.std.specs.Prelude.{decimal}
use Rattle.std.proofs.Common.{suc}
use Rattle.ffv1_range.specs.declared.tally.Tally.{Tally}
use Rattle.ffv1_range.specs.Counts.{saturated}
use Rattle.ffv1_record.specs.Configuration.{Configuration}
use Rattle.ffv1_codec.specs.Answer.{decided_by}
use Rattle.ffv1_frame.specs.declared.fault.FrameFault.{FrameFault}
use Rattle.ffv1_unpack.specs.declared.frame_line.FrameLine.{FrameLine}
use Rattle.ffv1_unpack.specs.declared.frame_line.FrameLine.TheVariants as line
use Rattle.ffv1_unpack.specs.Stream.{Again, Coded, Frame}

-- the number of a frame, the length of its payload in bytes, its slices and its decisions
unfoldable pub sizes_line : ℕ → ℕ → ℕ → ℕ → List ℕ
sizes_line i bytes slices decisions =
    codes "frame " ++ decimal i ++ codes ": " ++ decimal bytes ++ codes " bytes, " ++ decimal slices
    ++ codes " slices, " ++ decimal decisions ++ codes " decisions\n"

-- the number of a frame, how many of its decisions were 1 and how many 0, and how often its coders
-- renormalised
unfoldable pub cost_line : ℕ → Tally → List ℕ
cost_line i tally =
    codes "cost frame " ++ decimal i ++ codes ": ones " ++ decimal tally.ones ++ codes " zeros "
    ++ decimal tally.zeros ++ codes " renormalisations " ++ decimal tally.renormalisations
    ++ codes "\n"

-- the line of a frame by its number, its payload, and what was decided in it
abbrev pub frame_line : FrameLine → Configuration → ℕ → List ℕ → Tally → List ℕ
frame_line line.Sizes c i payload tally =
    sizes_line i (length payload) (c.columns * c.rows) (decided_by tally)
frame_line line.Cost c i payload tally = cost_line i tally

-- the line of a frame that repeats the one before it, by its number
unfoldable pub again_line : FrameLine → ℕ → List ℕ
again_line line.Sizes i = codes "frame " ++ decimal i ++ codes ": again\n"
again_line line.Cost i = codes "cost frame " ++ decimal i ++ codes ": again\n"

-- the line of any frame
abbrev pub line_of : FrameLine → Configuration → ℕ → Frame → List ℕ
line_of kind c i (Coded f) = frame_line kind c i f.payload f.tally
line_of kind c i Again = again_line kind i

-- the lines of frames from a number on
abbrev pub lines_from : FrameLine → Configuration → ℕ → List Frame → List ℕ
lines_from kind c i [] = []
lines_from kind c i (f ∷ fs) = line_of kind c (saturated i) f ++ lines_from kind c (suc i) fs

-- the lines of all frames
abbrev pub frame_lines : FrameLine → Configuration → List Frame → List ℕ
frame_lines kind c frames = lines_from kind c 0 frames

-- where a frame is refused, and what was decided before
unfoldable pub part_of_frame : FrameFault → List ℕ
part_of_frame f =
    (codes " slice " ++ decimal f.slice) ++ (codes " plane " ++ decimal f.plane)
    ++ (codes " line " ++ decimal f.line) ++ (codes " x " ++ decimal f.x)

unfoldable pub place_line : ℕ → FrameFault → ℕ → List ℕ
place_line i f decisions =
    (codes "fault frame " ++ decimal i) ++ part_of_frame f
    ++ (codes " decisions " ++ decimal decisions) ++ codes "\n"

-- the number of the frame that would come next, and how many bytes of the file come before the
-- element or chunk at fault
unfoldable pub offset_line : ℕ → ℕ → List ℕ
offset_line i offset =
    (codes "fault frame " ++ decimal i) ++ (codes " byte " ++ decimal offset) ++ codes "\n"

-- it is written if the place is asked for
abbrev pub place_text : Bool → ℕ → FrameFault → Tally → List ℕ
place_text false i f tally = []
place_text true i f tally = place_line i f (decided_by tally)
