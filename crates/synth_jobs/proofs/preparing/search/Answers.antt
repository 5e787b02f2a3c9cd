use Rattle.std.proofs.Common.{sym, subst}
use Rattle.semantics.specs.Error.{IsWithin}
use Rattle.job_semantics.specs.Synthesis.{request_of}
use Rattle.level_answers.specs.Maximum.{IsMaximumAnswer}
use Rattle.synth_jobs.specs.Prepared.{told_shrinking}
use Rattle.synth_jobs.proofs.Parts.{kept, kept-candidate}
use Rattle.synth_jobs.proofs.preparing.search.Goals as goal

pub new-nets-requires : goal.new-nets-requires
new-nets-requires g c =
    kept-candidate c.args.task c.args.aim c.args.exact.now c.args.begin (told_shrinking c.in_ok-shrunk.shrunk) c.requires.small c.requires.beginning c.in_ok-shrunk.ensures

pub maximum-requires-clause-within : goal.maximum-requires-clause-within
maximum-requires-clause-within g c =
    subst (λ P. IsWithin c.args.aim.metric P.exact c.args.aim.bound P.approx) (sym c.new-nets.ensures)
    (kept c.args.task c.args.aim c.args.exact.now c.args.begin (told_shrinking c.in_ok-shrunk.shrunk) c.requires.beginning c.in_ok-shrunk.ensures).within

pub returns : goal.returns
returns g c =
    c.together.ensures (request_of c.args.task c.args.aim c.args.exact.now c.args.begin) c.in_ok-shrunk.ensures
    (subst (λ P. IsMaximumAnswer c.args.aim P.exact P.approx c.in_ok-maximum.maximum) c.new-nets.ensures c.in_ok-maximum.ensures)
