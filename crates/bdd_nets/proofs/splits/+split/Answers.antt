use Rattle.std.proofs.Common.{ap, refl, subst, List, ◌∙◌}
use Rattle.std.specs.Prelude.{slice_set}
use Rattle.std.proofs.lemmas.Result.{IfOk-weaker}
use Rattle.semantics.specs.declared.mark.Mark.{Mark}
use Rattle.semantics.specs.declared.mark.Mark.TheVariants.{Zero, One, Dash}
use Rattle.bdd_nets.specs.Splits.{DrawnRows, IsSplitOver}
use Rattle.bdd_nets.proofs.Splitting.{chosen_anew, chosen_back, split_halves}
use Rattle.bdd_nets.proofs.splits.+split.Goals as goal

pub returns-clause-same : goal.returns-clause-same
returns-clause-same t c =
    let p = c.in-Some-next_pin.p in
    let last = c.in_ok-high.ensures.same ∙ ap (λ (cs : List Mark). slice_set cs p One) c.in_ok-low.ensures.same ∙ chosen_anew c.args.chosen.now p Zero One in
    IfOk-weaker c.ite.result _ _
    (λ r ite. ap (λ (cs : List Mark). slice_set cs p Dash) last ∙ chosen_back c.args.chosen.now p One c.in-Some-next_pin.ensures)
    c.ite.ensures.ok

pub returns-clause-ok : goal.returns-clause-ok
returns-clause-ok t c =
    let p = c.in-Some-next_pin.p in
    let table : DrawnRows = record { rows = c.args.rows.now; pins = c.args.pins.now; signals = c.args.signals.now } in
    let anew = ap (λ (cs : List Mark). slice_set cs p One) c.in_ok-low.ensures.same ∙ chosen_anew c.args.chosen.now p Zero One in
    IfOk-weaker c.ite.result _ _
    (λ r ite.
    split_halves c.split.new.d c.split-2.new.d c.ite.new.self table c.args.chosen.now p _ c.in_ok-low.low c.in_ok-high.high r
    c.in_ok-low.ensures.ok
    (subst (λ (cs : List Mark). IsSplitOver c.split-2.new.d table cs c.in_ok-high.high) anew c.in_ok-high.ensures.ok)
    c.in_ok-high.ensures.grows c.ite.ensures.grows ite refl)
    c.ite.ensures.ok
