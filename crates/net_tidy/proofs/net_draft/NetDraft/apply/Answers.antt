use Rattle.net_tidy.proofs.Stepping.{constant_pin_found, dashed_pin_found, repeated_pin_found}
use Rattle.net_tidy.proofs.net_draft.NetDraft.apply.Goals as goal

pub fix_pin-requires-clause-pin : goal.fix_pin-requires-clause-pin
fix_pin-requires-clause-pin c = (constant_pin_found c.args.self.now.net c.args.t c.in-ConstantPin.q c.args.rule c.requires.first.is c.in-ConstantPin.is).0

pub fix_pin-requires-clause-constant : goal.fix_pin-requires-clause-constant
fix_pin-requires-clause-constant c = (constant_pin_found c.args.self.now.net c.args.t c.in-ConstantPin.q c.args.rule c.requires.first.is c.in-ConstantPin.is).1

pub remove_pin-requires-clause-pin : goal.remove_pin-requires-clause-pin
remove_pin-requires-clause-pin c = dashed_pin_found c.args.self.now.net c.args.t c.in-DashedPin.q c.args.rule c.requires.first.is c.in-DashedPin.is

pub join_pin-requires-clause-pin : goal.join_pin-requires-clause-pin
join_pin-requires-clause-pin c = (repeated_pin_found c.args.self.now.net c.args.t c.in-RepeatedPin.q c.args.rule c.requires.first.is c.in-RepeatedPin.is).0

pub join_pin-requires-clause-repeated : goal.join_pin-requires-clause-repeated
join_pin-requires-clause-repeated c = (repeated_pin_found c.args.self.now.net c.args.t c.in-RepeatedPin.q c.args.rule c.requires.first.is c.in-RepeatedPin.is).1
