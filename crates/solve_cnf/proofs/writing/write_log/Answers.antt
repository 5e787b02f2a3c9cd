use Rattle.std.proofs.Common.{take}
use Rattle.cnf_core.proofs.Pages.{page_and_rest}
use Rattle.solve_cnf.proofs.Appended.{none_appended, next_appended}
use Rattle.solve_cnf.proofs.writing.write_log.Goals as goal

pub loop-text-init : goal.loop-text-init
loop-text-init g c = none_appended (g.W.Write.contents c.args.out.now) c.new-text.ensures

pub loop-text-preserved : goal.loop-text-preserved
loop-text-preserved g c =
    let count = c.fill-count.result in
    let page = take count c.fill-count.new.buf in
    next_appended page c.fill-count.new.self
    (page_and_rest c.loop-text.text page c.fill-count.new.self count c.fill-count.ensures.given c.fill-count.ensures.rest) c.loop-text.invariant c.in_ok-write_all.ensures.bytes
