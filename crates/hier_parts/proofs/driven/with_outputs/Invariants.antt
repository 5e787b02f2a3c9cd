use Rattle.std.proofs.Common.{◌≡◌, ◌++◌, map, filter, drop}
use Rattle.semantics.specs.Refusals.{has_name}
use Rattle.text_words.specs.Slices.{texts}
use Rattle.hier_parts.proofs.driven.with_outputs.Given as goal

abbrev pub invariant-loop-b : goal.invariant-loop-b
invariant-loop-b l =
    texts l.names.items ++ map (λ b. b.actual) (filter (λ b. has_name l.model.outputs b.formal) (drop l.b-index l.b-items))
    ≡ texts l.fn.names.items ++ map (λ b. b.actual) (filter (λ b. has_name l.model.outputs b.formal) l.b-items)
