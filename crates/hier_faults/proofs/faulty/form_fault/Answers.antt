use Rattle.std.proofs.Common.{◌≡◌, subst, IfOk, option_map}
use Rattle.hier_faults.specs.Faults.{fault_value, uses_value}
use Rattle.hier_faults.proofs.Tested.{ports-told, parts-told}
use Rattle.hier_faults.proofs.faulty.form_fault.Goals as goal

pub returns-then-is_some : goal.returns-then-is_some
returns-then-is_some c = ports-told c.args.models.now (uses_value c.args.uses.now) c.in_ok-fault.fault c.if-is_some.ensures c.in_ok-fault.ensures

pub returns : goal.returns
returns c =
    subst (λ r. IfOk c.whole_fault.result (λ o. option_map fault_value o ≡ r))
    (parts-told c.args.models.now (uses_value c.args.uses.now) c.in_ok-fault.fault c.if-is_some.ensures c.in_ok-fault.ensures) c.whole_fault.ensures
