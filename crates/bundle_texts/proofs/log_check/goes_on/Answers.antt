use Rattle.std.proofs.Common.{ap}
use Rattle.cnf_core.specs.LratReads.{LogRead}
use Rattle.bundle_texts.specs.LogJudged.{HasTaken}
use Rattle.bundle_texts.proofs.LogChecks.{fed_items, grown_within, went_on, refused_now}
use Rattle.bundle_texts.proofs.log_check.goes_on.Goals as goal

pub accepts_all-requires : goal.accepts_all-requires
accepts_all-requires g c =
    let is = c.in-Ok.ensures.ok.1 in
    grown_within c.args.reader.now c.feed.new.self c.args.piece.now c.requires.going c.requires.given
    (fed_items c.args.reader.now c.feed.new.self c.args.piece.now c.requires.going is) (ap (λ (v : LogRead). v.given) is)

pub returns-in-Ok-clause-judged : goal.returns-in-Ok-clause-judged
returns-in-Ok-clause-judged g c =
    went_on (HasTaken g.L.ItemSink.holds) c.args.reader.now c.feed.new.self c.accepts_all.new.reader c.args.piece.now c.args.judge.now c.accepts_all.new.judge c.accepts_all.result
    c.in-Ok.ensures.ok.1 c.in-Ok.ensures.ok.2 c.accepts_all.ensures.reading c.accepts_all.ensures.all_given c.accepts_all.ensures.judged

pub returns-in_default : goal.returns-in_default
returns-in_default g c =
    let refused = refused_now c.args.reader.now c.feed.new.self c.args.piece.now c.in-Err.refusal c.requires.calm c.in-Err.ensures.err c.in_default.not-OutOfMemory in
    record { text = refused.text; judged = λ clauses _. refused.judged clauses }
