use Rattle.std.proofs.Common.{sym, ap, ◌∙◌}
use Rattle.semantics.specs.Refusals.{first_doubled}
use Rattle.hierarchy_semantics.specs.Refusals.{same_model, model_names}
use Rattle.text_words.specs.Slices.{texts}
use Rattle.hier_faults.specs.Faults.{uses_value}
use Rattle.hier_parts.proofs.Sets.{same-set}
use Rattle.hier_faults.proofs.Tested.{none_found, none_unknown}
use Rattle.hier_faults.proofs.faulty.names_fault.Goals as goal

pub recursive-requires-clause-names : goal.recursive-requires-clause-names
recursive-requires-clause-names c =
    let h = c.args.models.now in
    let differ = none_found c.in_ok-fault.fault same_model (first_doubled (texts c.args.names.now)) c.if-is_some.ensures c.in_ok-fault.ensures in
    c.requires.known ∙ same-set (model_names h) (ap first_doubled (sym c.requires.names) ∙ differ)

pub recursive-requires-clause-known : goal.recursive-requires-clause-known
recursive-requires-clause-known c =
    let h = c.args.models.now in
    let differ = none_found c.in_ok-fault.fault same_model (first_doubled (texts c.args.names.now)) c.if-is_some.ensures c.in_ok-fault.ensures in
    let known = c.requires.known ∙ same-set (model_names h) (ap first_doubled (sym c.requires.names) ∙ differ) in
    none_unknown h c.unknown-fault.result c.args.known.now (uses_value c.args.uses.now) known c.requires.uses c.if-is_some-2.ensures c.unknown-fault.ensures
