use Rattle.std.proofs.Common.{option_map, sym, ap, ◌∙◌}
use Rattle.hier_faults.specs.Faults.{fault_value}
use Rattle.hier_blif.proofs.NamedFaults.{told_named}
use Rattle.hier_blif.proofs.refusing.refuse.Goals as goal

pub refusal_of-requires : goal.refusal_of-requires
refusal_of-requires c =
    told_named c.args.models.now (fault_value c.in-Some.fault) c.requires (sym (ap (option_map fault_value) c.in-Some.is) ∙ c.in_ok-first_fault.ensures)
