use Rattle.std.proofs.Common.{◌≡◌, ◌≤◌, Ok, Err, IfOk, IfErr, length, ap, sym, subst, ◌∙◌, arith}
use Rattle.std.proofs.lemmas.Option.{same_Some}
use Rattle.std.proofs.lemmas.Result.{err_from_is_err_and}
use Rattle.aiger_semantics.specs.TextLines.{text_lines}
use Rattle.text_words.specs.Slices.{texts}
use Rattle.aiger_text.specs.Refusals.{Tells}
use Rattle.aiger_text.proofs.SectionSteps.{texts-count}
use Rattle.aiger_text.proofs.BodySteps.{circuit-is-read}
use Rattle.aiger_text.proofs.NetSteps.{passed_on}
use Rattle.aiger_text.proofs.TextSteps.{lines-short, long_told, circuit_told, circuit-net}
use Rattle.aiger_text.proofs.reading.read_aiger.Goals as goal

pub returns-then-text-limit-clause-err : goal.returns-then-text-limit-clause-err
returns-then-text-limit-clause-err c = λ refusal e. long_told c.args.text.now c.args.limit (omega (arith, c.if-text-limit.true)) ∙ ap Err (same_Some _ _ e)

pub circuit_reading-requires : goal.circuit_reading-requires
circuit_reading-requires c =
    let short : length c.args.text.now ≤ c.args.limit = omega (arith, c.if-text-limit.false) in
    let are : texts c.deref.result.now ≡ text_lines c.args.text.now = ap texts c.deref.ensures.value ∙ c.in_ok-lines.ensures in
    omega (arith, short, c.requires, texts-count c.deref.result.now, ap length are, lines-short c.args.text.now)

pub returns-in_err-circuit-clause-err : goal.returns-in_err-circuit-clause-err
returns-in_err-circuit-clause-err c =
    let short : length c.args.text.now ≤ c.args.limit = omega (arith, c.if-text-limit.false) in
    let are : texts c.deref.result.now ≡ text_lines c.args.text.now = ap texts c.deref.ensures.value ∙ c.in_ok-lines.ensures in
    passed_on _ _ _ (err_from_is_err_and c.from_residual-in_err-circuit.result c.from_residual-in_err-circuit.ensures.1)
    (circuit_told c.args.text.now c.args.limit short (texts c.deref.result.now) are _ c.in_err-circuit.ensures.err)

pub net_reading-requires : goal.net_reading-requires
net_reading-requires c =
    let short : length c.args.text.now ≤ c.args.limit = omega (arith, c.if-text-limit.false) in
    let are : texts c.deref.result.now ≡ text_lines c.args.text.now = ap texts c.deref.ensures.value ∙ c.in_ok-lines.ensures in
    record {
      read = circuit-is-read (texts c.deref.result.now) c.in_ok-circuit.circuit (omega (arith, short, c.requires, ap length are, lines-short c.args.text.now)) c.in_ok-circuit.ensures.ok;
    }

pub returns-clause-ok : goal.returns-clause-ok
returns-clause-ok c =
    let short : length c.args.text.now ≤ c.args.limit = omega (arith, c.if-text-limit.false) in
    let are : texts c.deref.result.now ≡ text_lines c.args.text.now = ap texts c.deref.ensures.value ∙ c.in_ok-lines.ensures in
    subst (λ g. IfOk c.net_reading.result (λ n. g ≡ Ok n)) (sym (circuit-net c.args.text.now c.args.limit short (texts c.deref.result.now) are c.in_ok-circuit.circuit c.in_ok-circuit.ensures.ok))
    c.net_reading.ensures.ok

pub returns-clause-err : goal.returns-clause-err
returns-clause-err c =
    let short : length c.args.text.now ≤ c.args.limit = omega (arith, c.if-text-limit.false) in
    let are : texts c.deref.result.now ≡ text_lines c.args.text.now = ap texts c.deref.ensures.value ∙ c.in_ok-lines.ensures in
    subst (λ g. IfErr c.net_reading.result (λ told. Tells told g))
    (sym (circuit-net c.args.text.now c.args.limit short (texts c.deref.result.now) are c.in_ok-circuit.circuit c.in_ok-circuit.ensures.ok)) c.net_reading.ensures.err
