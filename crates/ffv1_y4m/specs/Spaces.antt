-- White space and comments in the header of binary PPM (ppm(5) and pbm(5) of Netpbm), and what
-- stands between them, read byte by byte.
use Rattle.std.specs.Prelude.{◌≡◌, ℕ, zero, suc, ◌<◌, ◌==◌, ◌&&◌, ◌||◌, not, Bool, true, false}
use Rattle.std.specs.Prelude.{if◌then◌else◌, List, [], ◌∷◌, ◌++◌, length, Ok, Err}
use Rattle.ffv1_y4m.specs.Sequence.{Reading, ◌then◌}
use Rattle.ffv1_y4m.specs.declared.fault.Fault.TheVariants as fault

-- white space: a blank, a tab, a line feed, a carriage return
abbrev pub is_white : ℕ → Bool
is_white c = c == 32 || (c == 9 || (c == 10 || c == 13))

-- what ends a comment: a line feed or a carriage return
abbrev pub is_break : ℕ → Bool
is_break c = c == 10 || c == 13

-- white space and comments, each from `#` to the end of its line; true if a comment has begun
unfoldable pub is_blank : Bool → List ℕ → Bool
is_blank inside [] = not inside
is_blank true (c ∷ cs) = is_blank (not (is_break c)) cs
is_blank false (c ∷ cs) = if is_white c then is_blank false cs else (c == 35 && is_blank true cs)

-- how many bytes white space and comments may have, with the first byte after them
unfoldable pub blank_room : ℕ
blank_room = 65536

-- what comes before a number of a header: a byte of white space, then white space and comments
pub record IsGap (text : List ℕ) : Type 0 where
  pub first : ℕ
  pub more : List ℕ
  pub is : text ≡ first ∷ more
  pub white : is_white first ≡ true
  pub blank : is_blank false more ≡ true
  pub short : length more < blank_room

-- the next byte
abbrev pub byte_read : Reading ℕ
byte_read [] = Err (fault.Header, [])
byte_read (c ∷ cs) = Ok (c, cs)

-- a word that begins so, up to the next byte of white space, which is among the next so many
unfoldable pub word_read : ℕ → List ℕ → Reading (List ℕ)
word_read zero word text = Err (fault.Header, text)
word_read (suc n) word [] = Err (fault.Header, [])
word_read (suc n) word (c ∷ cs) =
    if is_white c then Ok (word, cs) else word_read n (word ++ c ∷ []) cs

-- the first byte after white space and comments, which is among the next so many
unfoldable pub blank_read : ℕ → Bool → Reading ℕ
blank_read zero inside text = Err (fault.Header, text)
blank_read (suc n) inside [] = Err (fault.Header, [])
blank_read (suc n) true (c ∷ cs) = blank_read n (not (is_break c)) cs
blank_read (suc n) false (c ∷ cs) =
    if is_white c then blank_read n false cs
    else if c == 35 then blank_read n true cs
    else Ok (c, cs)

-- the word of at most so many bytes that comes after white space and comments
abbrev pub spaced_word : ℕ → Reading (List ℕ)
spaced_word most = blank_read blank_room false then λ c. word_read most (c ∷ [])
