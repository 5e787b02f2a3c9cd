-- What a demo job asks for.
use Rattle.std.specs.Prelude.{ℕ}
use Rattle.semantics.specs.declared.metric.Kind.TheVariants.{Abs}
use Rattle.semantics.specs.Error.{one_word}
use Rattle.proof_semantics.specs.declared.constraint.Constraint.{Constraint}

-- the absolute error of one word
abbrev pub demo_aim : (bound conflicts : ℕ) → Constraint
demo_aim bound conflicts = record { metric = one_word Abs; bound = bound; limit = conflicts }
