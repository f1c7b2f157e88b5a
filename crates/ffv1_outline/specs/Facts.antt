-- Facts of a file, each a name and a value: as lines for people, or as members of an object of JSON
-- (RFC 8259, 4).
use Rattle.std.specs.Prelude.{ℕ, Bool, true, false, List, [], ◌++◌, codes, decimal, drop}
use Rattle.std.specs.Prelude.{length, if◌then◌else◌, ◌==◌}
use Rattle.std.specs.Str.Lossy.{utf8_lossy}
use Rattle.json.specs.Print.{quoted}
use Rattle.ffv1_outline.specs.Strings.{masked}
use Rattle.ffv1_outline.specs.declared.facts.Form.{Form}
use Rattle.ffv1_outline.specs.declared.facts.Form.TheVariants as forms

-- as many as the column has at which values begin in a line
abbrev pub blanks : List ℕ
blanks = codes "                    "

-- what comes before the value: a name and blanks, or a member's name after a comma
unfoldable pub opening : Form → List ℕ → List ℕ
opening forms.Text name = name ++ drop (length name) blanks
opening forms.Json name = codes ",\"" ++ name ++ codes "\":"

-- what comes after it
abbrev pub closing : Form → List ℕ
closing forms.Text = codes "\n"
closing forms.Json = []

-- a fact whose value is written so
abbrev pub fact : Form → List ℕ → List ℕ → List ℕ
fact form name value = opening form name ++ value ++ closing form

-- a word that needs no escape
abbrev pub word_value : Form → List ℕ → List ℕ
word_value forms.Text word = word
word_value forms.Json word = codes "\"" ++ word ++ codes "\""

-- a string of a file, which is quoted in a line too: quotes, backslashes and control characters
-- below U+0020 are escaped (RFC 8259, 7), and what is no UTF-8 becomes U+FFFD, control characters
-- from U+007F to U+009F with it
unfoldable pub string_value : List ℕ → List ℕ
string_value string = quoted (utf8_lossy (masked false string))

abbrev pub unknown_value : Form → List ℕ
unknown_value forms.Text = codes "unknown"
unknown_value forms.Json = codes "null"

-- a string that is unknown if it is empty
unfoldable pub known_string : Form → List ℕ → List ℕ
known_string form string =
    if length string == 0 then unknown_value form else string_value string

abbrev pub truth_value : Form → Bool → List ℕ
truth_value forms.Text true = codes "yes"
truth_value forms.Text false = codes "no"
truth_value forms.Json true = codes "true"
truth_value forms.Json false = codes "false"

-- two numbers with a sign between them, or an array of them
abbrev pub pair_value : Form → ℕ → List ℕ → ℕ → List ℕ
pair_value forms.Text a sign b = decimal a ++ sign ++ decimal b
pair_value forms.Json a sign b = codes "[" ++ decimal a ++ codes "," ++ decimal b ++ codes "]"

abbrev pub word_fact : Form → List ℕ → List ℕ → List ℕ
word_fact form name word = fact form name (word_value form word)

abbrev pub unknown_fact : Form → List ℕ → List ℕ
unknown_fact form name = fact form name (unknown_value form)

abbrev pub truth_fact : Form → List ℕ → Bool → List ℕ
truth_fact form name truth = fact form name (truth_value form truth)

abbrev pub number_fact : Form → List ℕ → ℕ → List ℕ
number_fact form name n = fact form name (decimal n)

abbrev pub pair_fact : Form → List ℕ → ℕ → List ℕ → ℕ → List ℕ
pair_fact form name a sign b = fact form name (pair_value form a sign b)

-- a number that has a word, or has none
abbrev pub named_fact : Form → List ℕ → List ℕ → ℕ → List ℕ
named_fact form name word n =
    if length word == 0 then number_fact form name n else word_fact form name word

abbrev pub string_fact : Form → List ℕ → List ℕ → List ℕ
string_fact form name string = fact form name (string_value string)
