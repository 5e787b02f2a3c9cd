use Rattle.std.proofs.Common.{◌+◌, None, cond, drop, take, bytes_eq, sym, ap, ◌∙◌}
use Rattle.aiger_semantics.specs.TextLines.{line_numbers}
use Rattle.aiger_semantics.specs.CircuitLines.{most_in_header, header_numbers}
use Rattle.std.proofs.lemmas.List.{take_all}
use Rattle.aiger_text.proofs.HeaderWords.{header-none, header-first, header-behind, rest-length}
use Rattle.aiger_text.proofs.header.header_of.Goals as goal

pub returns-in-Some : goal.returns-in-Some
returns-in-Some c =
    let line = c.args.line.now in
    header-behind c.header_rest.result line _ c.in-Some.at (sym c.blank_at.ensures ∙ c.in-Some.is) (ap (bytes_eq (take c.in-Some.at line)) (sym c.as_slice.ensures) ∙ sym c.if-eq.ensures)
    (take_all _ _ (rest-length line c.in-Some.at)) c.header_rest.ensures

pub returns-in_default : goal.returns-in_default
returns-in_default c =
    let line = c.args.line.now in
    sym
    (header-first line c.in-Some.at (sym c.blank_at.ensures ∙ c.in-Some.is)
    ∙ ap (λ t. cond t (header_numbers (line_numbers most_in_header (drop (c.in-Some.at + 1) line))) None) (ap (bytes_eq (take c.in-Some.at line)) (sym c.as_slice.ensures) ∙ sym c.if-eq.ensures))

pub returns-in_default-2 : goal.returns-in_default-2
returns-in_default-2 c = sym (header-none c.args.line.now (sym c.blank_at.ensures ∙ c.in_default.is))
