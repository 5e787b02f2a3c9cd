-- Exactly the texts beyond the limit are refused for their length.
use Rattle.std.proofs.Common.{◌≡◌, ◌↔◌, ℕ, zero, suc, ◌+◌, ◌<◌, Bool, true, false, cond, not, ◌==◌, leb, List, [], ◌∷◌, length, drop, Option, Some, None, Result, Ok, Err, refl, ap, sym, ◌∙◌}
use Rattle.std.proofs.Common.{true≢false, inl, inr, arith}
use Rattle.std.proofs.lemmas.Bool.{leb-true, false_from_ne_true, le-leb, cases_lt}
use Rattle.semantics.specs.Texts.{Bytes}
use Rattle.semantics.specs.Net.{NetValue, signal_names}
use Rattle.semantics.specs.Refusals.{first_doubled, first_limit}
use Rattle.aiger_semantics.specs.declared.header.Header.{Header}
use Rattle.aiger_semantics.specs.Circuit.{CircuitValue}
use Rattle.aiger_semantics.specs.TextLines.{text_lines}
use Rattle.aiger_semantics.specs.CircuitLines.{Refusal, text_long, has_latches, wrong_line, wrong_symbol, twice, undefined, no_output, loop, doubled, limit, and_then, header_of, put_before, all_read}
use Rattle.aiger_semantics.specs.CircuitLines.{Symbol, symbol_of, is_new, symbols_after, body_reading, with_header, circuit_reading, greatest_literal, input_of, output_of, and_of, before_comment}
use Rattle.aiger_semantics.specs.CircuitLines.{symbols_line}
use Rattle.aiger_semantics.specs.ReadNet.{variables, net_of}
use Rattle.aiger_semantics.specs.Reading.{first_repeated, first_undefined, first_loop, unless_refused, sized, named, grounded, with_output, defined, net_reading, aiger_reading}

abbrev is_long : Refusal → Bool
is_long text_long = true
is_long _ = false

-- the answer is no refusal for the length
abbrev IsOther : {X : Type 0} → Result X Refusal → Type 0
IsOther (Ok x) = Unit {0}
IsOther (Err refusal) = is_long refusal ≡ false

other-then : {X Y : Type 0} (r : Result X Refusal) (rest : X → Result Y Refusal) → IsOther r → ((x : X) → IsOther (rest x)) → IsOther (and_then r rest)
other-then (Ok x) rest h k = k x
other-then (Err refusal) rest h k = h

other-put : {X : Type 0} (x : X) (r : Result (List X) Refusal) → IsOther r → IsOther (put_before x r)
other-put x (Ok xs) h = tt
other-put x (Err refusal) h = h

other-found : {X : Type 0} (found : Option X) (number : ℕ) (r : Result (List X) Refusal) → IsOther r → IsOther {X = List X} (elim found [ None ↦ Err (wrong_line number) | Some x ↦ put_before x r ])
other-found None number r h = refl
other-found (Some x) number r h = other-put x r h

all-other : {X : Type 0} (read : Bytes → Option X) (number count : ℕ) (lines : List Bytes) → IsOther (all_read read number count lines)
all-other read number zero lines = tt
all-other read number (suc count) [] = refl
all-other read number (suc count) (line ∷ lines) = other-found (read line) number (all_read read (number + 1) count lines) (all-other read (number + 1) count lines)

symbols-step : (found : Option Symbol) (number : ℕ) (so_far : List Symbol) (rest : Symbol → Result (List Symbol) Refusal) → ((s : Symbol) → IsOther (rest s))
    → IsOther {X = List Symbol} (elim found [ None ↦ Err (wrong_symbol number) | Some s ↦ cond (is_new so_far s) (rest s) (Err (wrong_symbol number)) ])
symbols-step None number so_far rest h = refl
symbols-step (Some s) number so_far rest h = at_test (is_new so_far s)
  where
    at_test : (t : Bool) → IsOther {X = List Symbol} (cond t (rest s) (Err (wrong_symbol number)))
    at_test true = h s
    at_test false = refl

symbols-other : (h : Header) (number : ℕ) (so_far : List Symbol) (lines : List Bytes) → IsOther (symbols_after h number so_far lines)
symbols-other h number so_far [] = tt
symbols-other h number so_far (line ∷ lines) = symbols-step (symbol_of h line) number so_far (λ s. symbols_after h (number + 1) (s ∷ so_far) lines)
    (λ s. symbols-other h (number + 1) (s ∷ so_far) lines)

body-other : (h : Header) (lines : List Bytes) → IsOther (body_reading h lines)
body-other h lines =
    let most = greatest_literal h in
    other-then (all_read (input_of most) 2 h.inputs lines) _ (all-other (input_of most) 2 h.inputs lines)
    (λ inputs. other-then (all_read (output_of most) (2 + h.inputs) h.outputs (drop h.inputs lines)) _ (all-other (output_of most) (2 + h.inputs) h.outputs (drop h.inputs lines))
    (λ outputs. other-then (all_read (and_of most) (2 + h.inputs + h.outputs) h.ands (drop (h.inputs + h.outputs) lines)) _
    (all-other (and_of most) (2 + h.inputs + h.outputs) h.ands (drop (h.inputs + h.outputs) lines))
    (λ ands. other-then (symbols_after h (symbols_line h) [] (before_comment (drop (h.inputs + h.outputs + h.ands) lines))) _
    (symbols-other h (symbols_line h) [] (before_comment (drop (h.inputs + h.outputs + h.ands) lines))) (λ symbols. tt))))

header-other : (o : Option Header) (lines : List Bytes) → IsOther (with_header o lines)
header-other None lines = refl
header-other (Some h) lines = at_test (h.latches == 0)
  where
    at_test : (t : Bool) → IsOther (cond t (body_reading h lines) (Err has_latches))
    at_test true = body-other h lines
    at_test false = refl

circuit-other : (lines : List Bytes) → IsOther (circuit_reading lines)
circuit-other [] = refl
circuit-other (line ∷ lines) = header-other (header_of line) lines

other-unless : {X : Type 0} (o : Option X) (refuse : X → Refusal) (rest : Result NetValue Refusal) → ((x : X) → is_long (refuse x) ≡ false) → IsOther rest → IsOther (unless_refused o refuse rest)
other-unless None refuse rest h k = k
other-unless (Some x) refuse rest h k = h x

net-other : (c : CircuitValue) → IsOther (net_reading c)
net-other c =
    other-unless (first_repeated (variables c)) twice (defined c) (λ _. refl)
    (other-unless (first_undefined c) undefined (with_output c) (λ _. refl) (at_test (length c.outputs == 0)))
  where
    at_test : (t : Bool) → IsOther (cond t (Err no_output) (grounded c))
    at_test true = refl
    at_test false =
        other-unless (first_loop c) loop (named (net_of c)) (λ _. refl)
        (other-unless (first_doubled (signal_names (net_of c))) doubled (sized (net_of c)) (λ _. refl) (other-unless (first_limit (net_of c)) limit (Ok (net_of c)) (λ _. refl) tt))

err-of : Result NetValue Refusal → Bool
err-of (Ok N) = false
err-of (Err refusal) = is_long refusal

not-long : (r : Result NetValue Refusal) → IsOther r → r ≡ Err text_long → ⊥
unfolding err-of
not-long (Ok N) h e = true≢false (sym (ap err-of e))
not-long (Err refusal) h e = true≢false (sym (ap err-of e) ∙ h)

pub long : (text : Bytes) (most : ℕ) → (aiger_reading text most ≡ Err text_long) ↔ (most < length text)
unfolding aiger_reading
long text most = (
  at_test (leb (length text) most) refl,
  (λ past. ap (λ t. cond (not t) (Err text_long) rest) (false_from_ne_true (leb (length text) most) (λ t. let low = leb-true (length text) most t in omega (arith, low, past)))),
)
  where
    rest : Result NetValue Refusal
    rest = and_then (circuit_reading (text_lines text)) net_reading

    at_test : (t : Bool) → leb (length text) most ≡ t → cond (not t) (Err text_long) (and_then (circuit_reading (text_lines text)) net_reading) ≡ Err text_long → most < length text
    at_test true is e = absurd (not-long (and_then (circuit_reading (text_lines text)) net_reading)
        (other-then (circuit_reading (text_lines text)) net_reading (circuit-other (text_lines text)) net-other) e)
    at_test false is e = elim (cases_lt most (length text)) [ inl low ↦ low | inr past ↦ absurd (true≢false (sym (le-leb (length text) most past) ∙ is)) ]
