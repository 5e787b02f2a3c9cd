-- A small sound net is read back from its text.
use Rattle.std.proofs.Common.{◌≡◌, Result, ℕ, ◌<◌, ◌≤◌, List, [], map, length, All, None, Ok, refl, ap, sym, subst, ◌∙◌, arith}
use Rattle.std.proofs.lemmas.Bool.{le-leb, ne_eqb}
use Rattle.std.proofs.lemmas.List.{length-map}
use Rattle.semantics.specs.declared.limits.TheConstants.{MOST_BUNDLE_BYTES}
use Rattle.semantics.specs.Texts.{Bytes, Line}
use Rattle.semantics.specs.Net.{NetValue, input_count, signal_names, name_of, signal_count, IsSound, IsSmall}
use Rattle.semantics.specs.Refusals.{first_doubled, first_ungrounded, first_limit}
use Rattle.semantics.specs.Blif.{blif_lines, blif_text}
use Rattle.semantics.proofs.Refused.{differ-undoubled, acyclic-grounded, limits-small}
use Rattle.blif_semantics.specs.Lines.{Statement, logical_lines, statements}
use Rattle.blif_semantics.specs.Statements.{first_wrong}
use Rattle.blif_semantics.specs.Reading.{Refusal, wrong_line, unless_refused, single, lines_reading, blif_reading}
use Rattle.blif_semantics.proofs.WordLines.{statements-text_of}
use Rattle.blif_semantics.proofs.NetLines.{length-signal_names, blif_lines-are_lines}
use Rattle.blif_semantics.proofs.RightLines.{AllRight, none_wrong}
use Rattle.blif_semantics.proofs.WrittenRight.{blif_lines-right}
use Rattle.blif_semantics.proofs.WrittenNet.{named_of, named_net-blif_lines, names_of-named_of, numbered-named_of, named_of-driven}
use Rattle.blif_semantics.proofs.WrittenLength.{blif_text-short}
use Rattle.blif_semantics.proofs.Accepted.{same_Ok, IsAccepted, read-accepted}

named_of-read : (N : NetValue) → IsSound N → IsSmall N → single (named_of N) ≡ Ok N
named_of-read N h small =
    let names : List Bytes = signal_names N in
    let count : signal_count N ≡ length names = sym (length-signal_names N) in
    let outputs : All (λ s. s < length names) N.outputs = subst (λ k. All (λ s. s < k) N.outputs) count h.outputs_are_signals in
    let pins : All (λ t. All (λ s. s < length names) t.pins) N.tables = subst (λ k. All (λ t. All (λ s. s < k) t.pins) N.tables) count h.pins_are_signals in
    let is = numbered-named_of N h.names_differ pins outputs in
    let accepted : IsAccepted (named_of N) = record {
      undoubled = ap first_doubled (names_of-named_of N) ∙ differ-undoubled names h.names_differ;
      some_output = ne_eqb (length (map (name_of names) N.outputs)) 0 (λ e. omega (arith, e, length-map N.outputs (name_of names), h.has_output));
      driven = named_of-driven N pins outputs;
      grounded = ap (λ M. first_ungrounded (input_count M) M.tables) is ∙ acyclic-grounded (input_count N) N.tables h.acyclic;
      small = ap first_limit is ∙ limits-small N small;
    } in
    read-accepted (named_of N) accepted ∙ ap Ok is

-- what is read of statements
abbrev statements_reading : List Statement → Result NetValue Refusal
statements_reading all = unless_refused (first_wrong all) (λ w. wrong_line w.line w.wrong) (lines_reading (map (λ s. s.words) all))

within_limit : (text : Bytes) (most : ℕ) → length text ≤ most → blif_reading text most ≡ statements_reading (statements (logical_lines text))
unfolding blif_reading
within_limit text most short = rw (le-leb (length text) most short) refl

-- a text that keeps the limit, none of whose lines is wrong
reading_of : (text : Bytes) (most : ℕ) (lines : List Line) → length text ≤ most → map (λ s. s.words) (statements (logical_lines text)) ≡ lines → AllRight [] lines
    → blif_reading text most ≡ lines_reading lines
reading_of text most lines short words right =
    let all : List Statement = statements (logical_lines text) in
    let none : first_wrong all ≡ None = none_wrong all (subst (AllRight []) (sym words) right) in
    within_limit text most short
    ∙ ap (λ w. unless_refused w (λ w. wrong_line w.line w.wrong) (lines_reading (map (λ s. s.words) all))) none
    ∙ ap lines_reading words

pub read_within : (N : NetValue) (most : ℕ) → IsSound N → IsSmall N → length (blif_text N) ≤ most → blif_reading (blif_text N) most ≡ Ok N
unfolding blif_text
read_within N most h small short =
    reading_of (blif_text N) most (blif_lines N) short (statements-text_of (blif_lines N) (blif_lines-are_lines N h)) (blif_lines-right N h)
    ∙ ap single (named_net-blif_lines N h.tables_formed)
    ∙ named_of-read N h small

pub within : (N : NetValue) → IsSound N → IsSmall N → length (blif_text N) ≤ MOST_BUNDLE_BYTES
within N h small = omega (arith, blif_text-short N h small, small.all_pins)

pub read : (N : NetValue) → IsSound N → IsSmall N → blif_reading (blif_text N) MOST_BUNDLE_BYTES ≡ Ok N
read N h small = read_within N MOST_BUNDLE_BYTES h small (within N h small)

-- what is read depends on the statements alone
pub same_reading : (text other : Bytes) (most : ℕ) → length text ≤ most → length other ≤ most → statements (logical_lines text) ≡ statements (logical_lines other)
    → blif_reading text most ≡ blif_reading other most
same_reading text other most short short' e = within_limit text most short ∙ ap statements_reading e ∙ sym (within_limit other most short')

pub only : (N M : NetValue) → IsSound N → IsSmall N → IsSound M → IsSmall M → blif_text N ≡ blif_text M → N ≡ M
only N M n n' m m' e = same_Ok N M (sym (read N n n') ∙ ap (λ text. blif_reading text MOST_BUNDLE_BYTES) e ∙ read M m m')
