use Rattle.std.proofs.Common.{length, ap, arith}
use Rattle.std.proofs.lemmas.List.{length-take}
use Rattle.cdcl_core.proofs.Rounds.{next_model, next_refuted, next_open}
use Rattle.cdcl_core.proofs.forgetting.solve_forgetting.Goals as goal

pub rounds-init : goal.rounds-init
rounds-init g c = record {
  behind = record { begins = c.in_ok-direct.ensures.begins; derivation = c.in_ok-direct.ensures.derivation };
  within = omega arith;
  some = omega arith;
}

pub returns-in-Model : goal.returns-in-Model
returns-in-Model g c = next_model c.args.cnf.now c.rounds.whole c.in-Model.bits _ c.in_ok-bits.ensures c.in-Model.is

pub returns-in-Refuted : goal.returns-in-Refuted
returns-in-Refuted g c = next_refuted c.args.cnf.now c.args.derived c.rounds.whole c.in-Refuted.log _ c.rounds.invariant.behind c.in_ok-bits.ensures c.in-Refuted.is

pub rounds-preserved : goal.rounds-preserved
rounds-preserved g c = record {
  behind = next_open c.args.cnf.now c.args.derived c.rounds.whole c.in-Open.longer _ c.rounds.invariant.behind c.in_ok-bits.ensures c.in-Open.is;
  within = omega arith;
  some = omega arith;
}

pub first_memory-requires-clause-count : goal.first_memory-requires-clause-count
first_memory-requires-clause-count g c =
    let same = ap length c.in_ok-direct.ensures.begins in
    omega (arith, same, length-take (length c.args.derived) c.in_ok-direct.direct.log)
