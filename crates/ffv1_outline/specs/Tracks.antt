-- The tracks of a file: a line each, or an array of objects of JSON.
use Rattle.std.specs.Prelude.{ℕ, zero, suc, ◌+◌, ◌==◌, if◌then◌else◌, List, [], ◌∷◌, ◌++◌, codes}
use Rattle.std.specs.Prelude.{decimal}
use Rattle.std.specs.Prelude.{length, Option, Some, None}
use Rattle.ffv1_outline.specs.declared.facts.Form.{Form}
use Rattle.ffv1_outline.specs.declared.facts.Form.TheVariants as forms
use Rattle.ffv1_outline.specs.Facts.{fact, opening}

-- a step through what lists the tracks: the content of a track, if one stands there, and what comes
-- after it
pub record Step : Type 0 where
  pub track : Option (List ℕ)
  pub rest : List ℕ

abbrev pub with_track : Option (List ℕ) → List (List ℕ) → List (List ℕ)
with_track None tracks = tracks
with_track (Some track) tracks = track ∷ tracks

abbrev pub tracks_on : (List ℕ → List (List ℕ)) → Option Step → List (List ℕ)
tracks_on on None = []
tracks_on on (Some s) = with_track s.track (on s.rest)

-- the tracks of at most so many steps
unfoldable pub tracks_up_to : (List ℕ → Option Step) → ℕ → List ℕ → List (List ℕ)
tracks_up_to step zero content = []
tracks_up_to step (suc most) content = tracks_on (tracks_up_to step most) (step content)

-- all tracks: each step passes a byte or more
abbrev pub tracks_in : (List ℕ → Option Step) → List ℕ → List (List ℕ)
tracks_in step content = tracks_up_to step (length content) content

-- a comma before each object but the first one
abbrev pub comma_before : ℕ → List ℕ
comma_before n = if n == 1 then [] else codes ","

-- what comes before a track: the name of its line; or its object begins, after a comma if another
-- track comes before
abbrev pub entry_opening : Form → ℕ → List ℕ
entry_opening forms.Text n = opening forms.Text (codes "track " ++ decimal n)
entry_opening forms.Json n = comma_before n ++ codes "{\"kind\":"

abbrev pub before_codec : Form → List ℕ
before_codec forms.Text = codes ", "
before_codec forms.Json = codes ",\"codec\":"

abbrev pub before_language : Form → List ℕ
before_language forms.Text = codes ", "
before_language forms.Json = codes ",\"language\":"

abbrev pub entry_closing : Form → List ℕ
entry_closing forms.Text = codes "\n"
entry_closing forms.Json = codes "}"

-- a track by its kind, codec and language, as they are written
unfoldable pub entry : Form → ℕ → List ℕ → List ℕ → List ℕ → List ℕ
entry form n kind codec language =
    entry_opening form n ++ kind ++ before_codec form ++ codec ++ before_language form ++ language
    ++ entry_closing form

-- tracks that are numbered from a number on
unfoldable pub entries : (ℕ → List ℕ → List ℕ) → ℕ → List (List ℕ) → List ℕ
entries entry_of n [] = []
entries entry_of n (track ∷ tracks) = entry_of n track ++ entries entry_of (n + 1) tracks

-- one of them, if it stands there, and the number of the next one
abbrev pub entry_there : (List ℕ → List ℕ) → Option (List ℕ) → List ℕ
entry_there entry_of None = []
entry_there entry_of (Some track) = entry_of track

abbrev pub number_behind : ℕ → Option (List ℕ) → ℕ
number_behind n None = n
number_behind n (Some track) = n + 1

-- these lines, or one member that is an array
abbrev pub tracks_fact : Form → List ℕ → List ℕ
tracks_fact forms.Text lines = lines
tracks_fact forms.Json objects =
    fact forms.Json (codes "tracks") (codes "[" ++ objects ++ codes "]")
