use Rattle.std.proofs.Common.{false, refl}
use Rattle.cnf_core.specs.declared.lrat_reader.LratReader.TheInside.{Inside}
use Rattle.cnf_core.proofs.LratReaders.{starts}
use Rattle.cnf_core.proofs.lrat_reader.LratReader.new.Goals as goal

pub returns : goal.returns
returns c =
    let a : Inside = record { scanner = c.new.result; draft = c.new-2.result; waiting = c.new-3.result; is_finished = false; text = c.new-4.result } in
    starts a (c.new.ensures c.new-2.result) c.new-3.ensures.items refl c.new-4.ensures
