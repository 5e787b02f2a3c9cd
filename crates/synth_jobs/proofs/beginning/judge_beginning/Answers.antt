use Rattle.std.proofs.Common.{subst}
use Rattle.net_search.specs.Bounds.{IsBoundAnswer}
use Rattle.synth_jobs.proofs.beginning.judge_beginning.Goals as goal

pub returns : goal.returns
returns g c =
    c.judged.ensures c.args.aim c.args.exact.now c.args.begin.now (c.same_ports.ensures.0 c.if-not-same_ports.false) c.see_sound.ensures.sound
    (subst (λ P. IsBoundAnswer c.args.aim P.exact P.approx c.in_ok-margin.margin) c.new-nets.ensures c.in_ok-margin.ensures)
