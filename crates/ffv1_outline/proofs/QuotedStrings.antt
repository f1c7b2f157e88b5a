-- A string alone, as JSON writes it.
use Rattle.std.proofs.Common.{◌≡◌, ℕ, List, [], ◌∷◌, append-nil}
use Rattle.json.specs.Print.{print, print_from, quoted}
use Rattle.json.specs.Token.{string}

pub one_string : (s : List ℕ) → print (string s ∷ []) ≡ quoted s
unfolding print_from
one_string s = append-nil (quoted s)
