use Rattle.std.proofs.Common.{ap, sym, subst, ◌∙◌, ◌∷◌, ◌++◌, List, ℕ, arith}
use Rattle.semantics.specs.Net.{IsName}
use Rattle.hier_flat.proofs.FlatSteps.{dollar_name}
use Rattle.hier_flat.proofs.flat_tables.numbered.Goals as goal

pub known-requires : goal.known-requires
known-requires c =
    subst IsName
    (sym
    (c.deref.ensures.value
    ∙ c.in_ok-extend_from_slice.ensures.items
    ∙ ap (λ (front : List ℕ). front ++ c.bytes.result.now) c.in_ok-bytes.ensures.items
    ∙ ap (λ (back : List ℕ). 36 ∷ back) (c.bytes.ensures.value ∙ c.in_ok-digits.ensures)))
    (dollar_name c.args.number (omega (arith, c.ranges.number)))
