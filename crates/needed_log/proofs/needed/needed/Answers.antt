use Rattle.std.proofs.Common.{length, ap, ◌∙◌}
use Rattle.std.proofs.lemmas.Result.{IfOk-weaker}
use Rattle.needed_log.proofs.Shortening.{IsShortened, shortened_is}
use Rattle.needed_log.proofs.needed.needed.Goals as goal

pub returns : goal.returns
returns c =
    let all = IfOk-weaker _ _ (IsShortened c.args.formula.now c.args.first c.args.log.now)
    (λ short is.
    shortened_is c.args.formula.now c.args.first c.len.result c.args.log.now c.as_slice-items.result.now short c.in_ok-marks.marks.items c.deref.result.now c.deref-2.result.now
    c.in_ok-ids.ids.items c.deref-3.result.now c.as_slice-items.ensures (c.len.ensures ∙ ap length c.clauses.ensures.value) c.deref.ensures.value c.deref-2.ensures.value
    c.deref-3.ensures.value c.requires.derivation c.requires.refutes c.requires.first c.in_ok-marks.ensures c.in_ok-ids.ensures is)
    c.kept_items.ensures in
    record {
      derivation = IfOk-weaker _ _ _ (λ short (h : IsShortened c.args.formula.now c.args.first c.args.log.now short). h.derivation) all;
      refutes = IfOk-weaker _ _ _ (λ short (h : IsShortened c.args.formula.now c.args.first c.args.log.now short). h.refutes) all;
      begins = IfOk-weaker _ _ _ (λ short (h : IsShortened c.args.formula.now c.args.first c.args.log.now short). h.begins) all;
      kept = IfOk-weaker _ _ _ (λ short (h : IsShortened c.args.formula.now c.args.first c.args.log.now short). h.kept) all;
      needed = IfOk-weaker _ _ _ (λ short (h : IsShortened c.args.formula.now c.args.first c.args.log.now short). h.needed) all;
      shorter = IfOk-weaker _ _ _ (λ short (h : IsShortened c.args.formula.now c.args.first c.args.log.now short). h.shorter) all;
    }
