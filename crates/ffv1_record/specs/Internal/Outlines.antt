-- What is known of a record's configuration before its sets are stored.
use Rattle.std.specs.Prelude.{◌≡◌, length}
use Rattle.ffv1_record.specs.declared.judge.Outline.{Outline}
use Rattle.ffv1_record.specs.Configuration.{Configuration, configuration_of, at_depth, with_sets}

-- the configuration is what the outline says, with so many sets
pub record Outlines {A : Type 0} (c : Configuration) (o : Outline A) : Type 0 where
  pub rest : c ≡ with_sets (at_depth (configuration_of o.config) o.depth) c.sets
  pub count : length c.sets ≡ o.count
