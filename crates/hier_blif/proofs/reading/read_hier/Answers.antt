use Rattle.std.proofs.Common.{◌≡◌, ap, sym, subst, ◌∙◌, None, Ok}
use Rattle.std.proofs.lemmas.Result.{err_from_is_err_and}
use Rattle.blif_semantics.specs.Lines.{logical_lines, statements}
use Rattle.hierarchy_semantics.specs.Models.{hierarchy_of}
use Rattle.hierarchy_semantics.specs.Reading.{hier_reading}
use Rattle.hier_blif.specs.Refusals.{Tells, TellsOne}
use Rattle.hier_blif.specs.Tested.{lines_refusal}
use Rattle.hier_blif.proofs.Read.{reading-long, tells-text, accepted, passed_on}
use Rattle.hier_blif.proofs.reading.read_hier.Goals as goal

pub returns-then-text-limit-clause-err : goal.returns-then-text-limit-clause-err
returns-then-text-limit-clause-err c = reading-long c.args.text.now c.args.limit c.if-text-limit.true

pub returns-in_err-test_lines-clause-err : goal.returns-in_err-test_lines-clause-err
returns-in_err-test_lines-clause-err c =
    let same = c.as_slice.ensures ∙ c.in-Ok.ensures.lines in
    passed_on _ _ (λ told. Tells told (hier_reading c.args.text.now c.args.limit)) (err_from_is_err_and c.from_residual.result c.from_residual.ensures.1)
    (tells-text c.args.text.now c.args.limit _ c.if-text-limit.false (subst (λ l. TellsOne c.in_err-test_lines.field-0.0 (lines_refusal l)) same c.in_err-test_lines.ensures.err))

pub new-requires : goal.new-requires
new-requires c =
    let same = c.as_slice.ensures ∙ c.in-Ok.ensures.lines in
    let none : lines_refusal (statements (logical_lines c.args.text.now)) ≡ None = ap lines_refusal (sym same) ∙ c.in_ok-test_lines.ensures.ok in
    record {
      text = c.args.text.now;
      most = c.args.limit;
      few = c.requires;
      read = accepted c.args.text.now c.args.limit c.if-text-limit.false none ∙ ap (λ l. Ok (hierarchy_of l)) (sym c.in-Ok.ensures.lines);
    }

pub returns-clause-ok : goal.returns-clause-ok
returns-clause-ok c =
    let same = c.as_slice.ensures ∙ c.in-Ok.ensures.lines in
    let none : lines_refusal (statements (logical_lines c.args.text.now)) ≡ None = ap lines_refusal (sym same) ∙ c.in_ok-test_lines.ensures.ok in
    accepted c.args.text.now c.args.limit c.if-text-limit.false none ∙ ap (λ l. Ok (hierarchy_of l)) (sym c.in-Ok.ensures.lines) ∙ ap Ok (sym c.new.ensures)
