use Rattle.std.proofs.Common.{ap, sym, ◌∙◌, arith}
use Rattle.std.proofs.lemmas.List.{drop_all}
use Rattle.semantics.specs.Refusals.{has_name}
use Rattle.text_words.specs.Slices.{texts}
use Rattle.hier_parts.specs.Sets.{with_names}
use Rattle.hier_parts.proofs.Sets.{has-set}
use Rattle.hier_parts.proofs.names.set_of.Goals as goal

pub returns-clause-holds : goal.returns-clause-holds
returns-clause-holds c = λ word.
    ap (λ v. has_name v word)
    (sym (ap (λ l. with_names c.loop-name.all (texts l)) (drop_all c.loop-name.name-index c.args.names.now (omega (arith, c.loop-name-test.false)))) ∙ c.loop-name.invariant)
    ∙ has-set (texts c.args.names.now) word
