-- What a record says.
use Rattle.std.proofs.Common.{ap, sym}
use Rattle.ffv1_record.specs.Configuration.{Configuration}
use Rattle.ffv1_info.specs.StreamFacts.{record_facts}
use Rattle.ffv1_info.proofs.stream_facts.record_text.Goals as goal

pub returns : goal.returns
unfolding record_facts
returns g c =
    rw (
      c.in_ok-push_truth-3.ensures,
      c.in_ok-push_truth-2.ensures,
      c.in_ok-push_contexts.ensures,
      c.in_ok-push_word-2.ensures,
      c.in_ok-push_pair.ensures,
      c.in_ok-push_truth.ensures,
      c.in_ok-push_chroma.ensures,
      c.in_ok-push_word.ensures,
      c.in_ok-push_number_fact.ensures,
      c.new-text.ensures.items,
      c.colours_name.ensures,
      c.coder_name.ensures,
      c.as_slice.ensures.value,
      c.from.ensures,
      c.depth.ensures.value,
    )
    (ap (λ (z : Configuration). record_facts c.args.form z) (sym c.config-config.ensures.value))
