use Rattle.std.proofs.Common.{◌+◌, drop, IsTrue, refl, ap, sym, subst, ◌∙◌, rules, arith}
use Rattle.cnf_core.specs.declared.held_word.HeldWord.{HeldWord}
use Rattle.cnf_core.specs.LratScanning.{ScannerValue}
use Rattle.cnf_core.specs.FrontDigits.{LeadAlike}
use Rattle.cnf_core.specs.FrontNumbers.{ready}
use Rattle.cnf_core.specs.Drafts.{ItemDraftValue, with_numbers}
use Rattle.cnf_core.specs.LratParts.{stage_at, scanner_at}
use Rattle.cnf_core.proofs.lrat_scanner.Scanner.with_numbers.Goals as goal

pub returns-clause-lead : goal.returns-clause-lead
returns-clause-lead c =
    let draft = c.args.draft.now in
    let part = c.args.self.part in
    let count = c.in_ok-count.count in
    let at = c.args.self.at + count in
    let yes : IsTrue c.takes_numbers.result = search rules in
    let takes = c.takes_numbers.ensures yes in
    let lead =
    c.in_ok-count.ensures.lead (λ numbers. stage_at part (with_numbers draft numbers)) (scanner_at c.args.self draft) (takes.1 draft) refl takes.0
    (omega (arith, c.if-count-eq0.false))
    in
    subst (λ (v : ScannerValue). LeadAlike (scanner_at c.args.self draft) c.args.bytes.now v (drop count c.args.bytes.now))
    (ap (λ (d : ItemDraftValue). ready (stage_at part d) at) (sym c.in_ok-count.ensures.kept)
    ∙ ap (λ (w : HeldWord). record { stage = stage_at part c.push_numbers.new.self; word = w; start = at; at = at }) (sym takes.0))
    lead
