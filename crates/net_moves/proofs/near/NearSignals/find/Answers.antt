use Rattle.std.proofs.Common.{[], ap, sym, ◌∙◌}
use Rattle.std.proofs.lemmas.List.{append-nil}
use Rattle.semantics.specs.Net.{TableValue, table_at}
use Rattle.net_moves.specs.Left.{first_once}
use Rattle.net_moves.proofs.NearOnes.{near-found}
use Rattle.net_moves.proofs.near.NearSignals.find.Goals as goal

pub loop-pin-init : goal.loop-pin-init
loop-pin-init c = c.add_all.ensures [] c.clear.ensures ∙ ap first_once (sym (append-nil c.as_slice-pins.result.now))

pub returns : goal.returns
returns c =
    near-found c.args.net.now (table_at c.args.net.now.tables c.args.t) c.as_slice-pins.result.now c.loop-pin.self c.loop-pin.pin-index c.loop-pin.invariant
    c.loop-pin-test.false (c.as_slice-pins.ensures ∙ c.pins.ensures.value ∙ ap (λ (t : TableValue). t.pins) c.table.ensures.value)
