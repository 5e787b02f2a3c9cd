use Rattle.synth_jobs.specs.Prepared.{told_shrinking}
use Rattle.synth_jobs.specs.Requests.{told_request}
use Rattle.synth_jobs.proofs.Parts.{kept-candidate, gathered-fits, gathered-prepared}
use Rattle.synth_jobs.proofs.preparing.prepare.Goals as goal

pub goal_for-requires : goal.goal_for-requires
goal_for-requires g c =
    let are_found = rw c.in-Found.is at c.in_ok-level.ensures in
    let r = c.args.request in
    kept-candidate r.task r.aim r.exact r.begin (told_shrinking c.in-Found.found.shrunk) c.requires.small c.requires.beginning are_found.search

pub gathered-requires : goal.gathered-requires
gathered-requires g c =
    let are_found = rw c.in-Found.is at c.in_ok-level.ensures in
    let made = c.in_ok-goal-in-Found in
    gathered-fits (told_request c.args.request) c.in-Found.found made.goal made.ensures.exact_sound c.requires.small c.requires.begin_small c.requires.beginning made.ensures.approx_sound c.requires.bound
    are_found made.ensures.formula made.ensures.few_variables

pub returns-in_ok-goal-in-Found : goal.returns-in_ok-goal-in-Found
returns-in_ok-goal-in-Found g c =
    let are_found = rw c.in-Found.is at c.in_ok-level.ensures in
    let made = c.in_ok-goal-in-Found in
    gathered-prepared (told_request c.args.request) c.in-Found.found made.goal made.ensures.exact_sound c.requires.small c.requires.begin_small c.requires.beginning made.ensures.approx_sound
    c.requires.bound are_found made.ensures.formula made.ensures.few_variables c.gathered.result c.gathered.ensures
