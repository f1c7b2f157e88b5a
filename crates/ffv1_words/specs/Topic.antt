-- What help is asked for of faults.
use Rattle.std.specs.Prelude.{◌≡◌, ◌≤◌, codes, List, [], ◌∷◌}
use Rattle.std.specs.Str.Parse.{IsNumeral, digits_value, without_leading_plus}
use Rattle.clap.specs.Words.{Text}
use Rattle.ffv1_words.specs.declared.topic.Topic.{Topic}
use Rattle.ffv1_words.specs.declared.topic.Topic.TheVariants as topic

-- the word names the topic: all faults, or one by a decimal numeral of 32 bits
abbrev pub NamesTopic : Text → Topic → Type 0
NamesTopic word topic.Faults = word ≡ codes "faults"
NamesTopic word (topic.Fault n) = IsNumeral 10 (without_leading_plus word)
    × (digits_value 10 (without_leading_plus word) ≡ n) × (n ≤ 4294967295)

-- the words are the program's name, `help` and a word that names the topic
abbrev pub AsksTopic : List Text → Topic → Type 0
AsksTopic [] t = ⊥
AsksTopic (name ∷ []) t = ⊥
AsksTopic (name ∷ help ∷ []) t = ⊥
AsksTopic (name ∷ help ∷ word ∷ []) t = (help ≡ codes "help") × NamesTopic word t
AsksTopic (name ∷ help ∷ word ∷ more ∷ words) t = ⊥
