-- The topic of a line of three words.
use Rattle.std.proofs.Common.{◌≡◌, List, [], ◌∷◌, Bor, Option, Some, None, length, map, get_or, sym, arith, codes}
use Rattle.std.specs.Prelude.{IfSome}
use Rattle.std.proofs.lemmas.Slice.Eq.{bytes_eq-Decides}
use Rattle.clap.specs.Words.{Text}
use Rattle.ffv1_words.specs.Topic.{AsksTopic, NamesTopic}
use Rattle.ffv1_words.specs.declared.topic.Topic.{Topic}
use Rattle.ffv1_words.proofs.topic.help_topic.Goals as goal

-- the third of three words names the topic, and the second is `help`
asked : (ws : List (Bor Text)) (none : Bor Text) → length ws ≡ 3
    → (get_or ws 1 none).now ≡ codes "help" → (o : Option Topic)
    → IfSome o (NamesTopic (get_or ws 2 none).now) → IfSome o (AsksTopic (map (λ w. w.now) ws))
asked [] none few helps o named = absurd (omega (arith, few))
asked (a ∷ []) none few helps o named = absurd (omega (arith, few))
asked (a ∷ b ∷ []) none few helps o named = absurd (omega (arith, few))
asked (a ∷ b ∷ c ∷ []) none few helps None named = tt
asked (a ∷ b ∷ c ∷ []) none few helps (Some t) named = (helps, named)
asked (a ∷ b ∷ c ∷ d ∷ ws) none few helps o named = absurd (omega (arith, few))

pub returns-then-eq-clause-some : goal.returns-then-eq-clause-some
returns-then-eq-clause-some c =
    asked c.args.words.now (record { ref_ptr = (0, 0); now = [] }) c.if-words-eq3.true
    ((bytes_eq-Decides _ (codes "help")).0 (sym c.if-eq.ensures)) _ c.topic_named.ensures.some
