use Rattle.std.proofs.Common.{take}
use Rattle.std.proofs.lemmas.Result.{err_from_is_err_and}
use Rattle.cnf_core.proofs.Pages.{page_and_rest, WrittenUpTo-none, WrittenUpTo-next, WrittenUpTo-failed}
use Rattle.cnf_core.proofs.token_text.write_text.Goals as goal

pub loop-page-init : goal.loop-page-init
loop-page-init g c = WrittenUpTo-none _ _

pub loop-page-preserved : goal.loop-page-preserved
loop-page-preserved g c =
    let count = c.fill-count.result in
    let page = take count c.fill-count.new.buf in
    WrittenUpTo-next c.loop-page.text page c.fill-count.new.self
    (page_and_rest c.loop-page.text page c.fill-count.new.self count c.fill-count.ensures.given c.fill-count.ensures.rest) c.loop-page.invariant c.in_ok-append_all.ensures.ok

pub returns-in_err-append_all : goal.returns-in_err-append_all
returns-in_err-append_all g c =
    let p = err_from_is_err_and c.from_residual.result c.from_residual.ensures.1 in
    let count = c.fill-count.result in
    let page = take count c.fill-count.new.buf in
    rw p.1
    (record {
      ok = tt;
      err = WrittenUpTo-failed c.loop-page.text page c.fill-count.new.self
          (page_and_rest c.loop-page.text page c.fill-count.new.self count c.fill-count.ensures.given c.fill-count.ensures.rest) c.loop-page.invariant
          c.in_err-append_all.ensures.err;
    })
