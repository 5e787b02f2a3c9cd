-- The circuit of a small sound net is one that a text can have, so it is read back.
use Rattle.std.proofs.Common.{◌≡◌, ℕ, zero, suc, ◌+◌, ◌^◌, ◌<◌, ◌≤◌, not, cond, List, [], ◌∷◌, ◌++◌, map, length, All, Ok, Err, ap, sym, subst, ◌∙◌, arith}
use Rattle.std.specs.List.{AllByRecursion, range_with_len, sum_by}
use Rattle.std.proofs.lemmas.Bool.{le-leb}
use Rattle.std.proofs.lemmas.List.{length-map}
use Rattle.std.proofs.lemmas.List.FromFn.{length-range_with_len}
use Rattle.std.proofs.lemmas.List.Elements.{All-map, All-weaker, All-get_or}
use Rattle.semantics.specs.Net.{NetValue, input_count, signal_count, signal_names, name_of, IsName, IsSound, IsSmall}
use Rattle.blif_semantics.proofs.NetLines.{signal_names-are_names, length-signal_names}
use Rattle.aiger_semantics.specs.declared.and_line.AndLine.{AndLine}
use Rattle.aiger_semantics.specs.Circuit.{CircuitValue}
use Rattle.aiger_semantics.specs.NetCircuit.{table_ands, signal_literal, ands_of}
use Rattle.aiger_semantics.specs.Laws.{variable_count, IsLiteralOf}
use Rattle.aiger_semantics.specs.Text.{aiger_text}
use Rattle.aiger_semantics.specs.TextLines.{text_lines}
use Rattle.aiger_semantics.specs.CircuitLines.{text_long, and_then, circuit_reading}
use Rattle.aiger_semantics.specs.Reading.{net_reading, aiger_reading}
use Rattle.aiger_semantics.proofs.Each.{each-left, each-right}
use Rattle.aiger_semantics.proofs.FewLines.{small_fits}
use Rattle.aiger_semantics.proofs.Numbered.{count_of, all_variables, all_lines, all_outputs}
use Rattle.aiger_semantics.proofs.ReadLines.{ok-same}
use Rattle.aiger_semantics.proofs.WrittenCircuit.{greatest_of, IsVariable, IsLiteral, IsTextual, each-weaker, circuit-read}

range-within : (a n most : ℕ) → 0 < a → a + n ≤ most + 1 → AllByRecursion (λ v. (0 < v) × (v ≤ most)) (range_with_len a n)
range-within a zero most some fits = tt
range-within a (suc n) most some fits = ((some, omega (arith, fits)), range-within (a + 1) n most (omega arith) (omega (arith, fits)))

from-map : {X Y : Type 0} (P : Y → Type 0) (f : X → Y) (xs : List X) → AllByRecursion P (map f xs) → AllByRecursion (λ x. P (f x)) xs
from-map P f [] h = tt
from-map P f (x ∷ xs) h = (h.0, from-map P f xs h.1)

both : {X : Type 0} (P Q : X → Type 0) (xs : List X) → AllByRecursion P xs → AllByRecursion Q xs → AllByRecursion (λ x. P x × Q x) xs
both P Q [] p q = tt
both P Q (x ∷ xs) p q = ((p.0, q.0), both P Q xs p.1 q.1)

variables-within : (c : CircuitValue) → c.inputs ++ map (λ a. a.variable) c.ands ≡ range_with_len 1 (variable_count c) → AllByRecursion (IsVariable c) (c.inputs ++ map (λ a. a.variable) c.ands)
variables-within c numbered = subst (AllByRecursion (IsVariable c)) (sym numbered) (range-within 1 (variable_count c) (greatest_of c) (omega arith) (omega arith))

module _ (N : NetValue) (sound : IsSound N) (small : IsSmall N) where
  circuit : CircuitValue
  circuit = ands_of N

  within : AllByRecursion (IsVariable (ands_of N)) ((ands_of N).inputs ++ map (λ a. a.variable) (ands_of N).ands)
  within = variables-within (ands_of N) (all_variables N sound)

  lines : AllByRecursion (λ a. IsVariable (ands_of N) a.variable × IsLiteral (ands_of N) a.left × IsLiteral (ands_of N) a.right) (ands_of N).ands
  lines =
      let variables = from-map (IsVariable (ands_of N)) (λ (a : AndLine). a.variable) (ands_of N).ands
      (each-right (IsVariable (ands_of N)) (ands_of N).inputs (map (λ a. a.variable) (ands_of N).ands) within) in
      each-weaker (λ a. IsVariable (ands_of N) a.variable × (IsLiteralOf (ands_of N) a.left × IsLiteralOf (ands_of N) a.right))
      (λ a. IsVariable (ands_of N) a.variable × IsLiteral (ands_of N) a.left × IsLiteral (ands_of N) a.right) (ands_of N).ands
      (λ a is. (is.0, omega (arith, is.1.0), omega (arith, is.1.1)))
      (both (λ a. IsVariable (ands_of N) a.variable) (λ a. IsLiteralOf (ands_of N) a.left × IsLiteralOf (ands_of N) a.right) (ands_of N).ands variables (all_lines N sound))

  few : greatest_of (ands_of N) + 1 ≤ 2 ^ 31
  few = let count : variable_count (ands_of N) ≡ input_count N + sum_by table_ands N.tables = count_of N sound in let fits = small_fits N small sound.tables_formed in omega (arith, count, fits)

  output_names : All IsName (map (name_of (signal_names N)) N.outputs)
  output_names =
      All-map IsName (name_of (signal_names N)) N.outputs
      (All-weaker (λ s. s < signal_count N) (λ s. IsName (name_of (signal_names N) s))
      (λ s low. All-get_or IsName (signal_names N) s [] (let size = length-signal_names N in omega (arith, low, size)) (signal_names-are_names N sound)) N.outputs sound.outputs_are_signals)

  textual : IsTextual (ands_of N)
  unfolding ands_of
  textual = record {
    few_variables = let most = few in omega (arith, most);
    few_outputs = let size = length-map N.outputs (signal_literal (input_count N) N.tables) in omega (arith, size, small.outputs);
    input_count = sym (length-range_with_len 1 (input_count N));
    output_count = length-map N.outputs (name_of (signal_names N)) ∙ sym (length-map N.outputs (signal_literal (input_count N) N.tables));
    inputs_named = sound.inputs_named;
    outputs_named = output_names;
    inputs_within = each-left (IsVariable (ands_of N)) (ands_of N).inputs (map (λ a. a.variable) (ands_of N).ands) within;
    lines_within = lines;
    outputs_within = each-weaker (IsLiteralOf (ands_of N)) (IsLiteral (ands_of N)) (ands_of N).outputs (λ l low. omega (arith, low)) (all_outputs N sound);
  }

  pub net-read : circuit_reading (text_lines (aiger_text (ands_of N))) ≡ Ok (ands_of N)
  net-read = circuit-read (ands_of N) textual

pub same-circuit : (N M : NetValue) → IsSound N → IsSmall N → IsSound M → IsSmall M → aiger_text (ands_of N) ≡ aiger_text (ands_of M) → ands_of N ≡ ands_of M
same-circuit N M sound small sound' small' e =
    ok-same (ands_of N) (ands_of M) (sym (net-read N sound small) ∙ ap (λ text. circuit_reading (text_lines text)) e ∙ net-read M sound' small')

pub net-of-text : (N : NetValue) (most : ℕ) → IsSound N → IsSmall N → length (aiger_text (ands_of N)) ≤ most → aiger_reading (aiger_text (ands_of N)) most ≡ net_reading (ands_of N)
unfolding aiger_reading
net-of-text N most sound small low =
    ap (λ t. cond (not t) (Err text_long) (and_then (circuit_reading (text_lines (aiger_text (ands_of N)))) net_reading)) (le-leb (length (aiger_text (ands_of N))) most low)
    ∙ ap (λ r. and_then r net_reading) (net-read N sound small)
