use Rattle.std.proofs.Common.{[], ◌∷◌, ap, subst}
use Rattle.cnf_core.specs.LratReads.{LogRead, read_items}
use Rattle.bundle_texts.specs.LogTold.{AreJudged}
use Rattle.bundle_texts.specs.LogJudged.{HasTaken}
use Rattle.bundle_texts.proofs.LogChecks.{grown_within, ended_items, judged_at_end, kept_in, never_ended}
use Rattle.bundle_texts.proofs.log_check.refuting.Goals as goal

pub accepts_all-requires : goal.accepts_all-requires
accepts_all-requires g c =
    let is = c.in-Ok.ensures.ok.2 in
    grown_within c.args.reader.now c.finish.new.self (10 ∷ []) c.requires.going c.requires.given (ended_items c.args.reader.now c.finish.new.self is) (ap (λ (v : LogRead). v.given) is)

pub returns-then-not-branch : goal.returns-then-not-branch
returns-then-not-branch g c clauses h =
    let S = HasTaken g.L.ItemSink.holds in
    let judged = c.in_ok-accepts_all-in-Ok.ensures.judged clauses (judged_at_end S c.in-Ok.ensures.ok.2 h) in
    let never = subst (λ b. AreJudged S b clauses (read_items c.finish.new.self) c.accepts_all.new.judge) c.if-not-branch.true judged in
    never_ended clauses c.args.reader.now.text (read_items c.finish.new.self) c.in-Ok.ensures.ok.1 never

pub returns-in-Ok : goal.returns-in-Ok
returns-in-Ok g c clauses h =
    let S = HasTaken g.L.ItemSink.holds in
    let judged = c.in_ok-accepts_all-in-Ok.ensures.judged clauses (judged_at_end S c.in-Ok.ensures.ok.2 h) in
    let taken = subst (λ b. AreJudged S b clauses (read_items c.finish.new.self) c.accepts_all.new.judge) c.if-not-branch.false judged in
    kept_in g.L.ItemSink.holds clauses c.args.reader.now.text (read_items c.finish.new.self) c.accepts_all.new.judge c.finish-in-Ok.result c.in-Ok.ensures.ok.1 taken
    (c.finish-in-Ok.ensures clauses (read_items c.finish.new.self) taken)
