-- The parts of a circuit's text make the whole.
use Rattle.std.proofs.Common.{◌≡◌, ℕ, ◌<◌, get_or, List, [], ◌∷◌, ◌++◌, map, flat_map, decimal, refl, sym, ap, ◌∙◌, append_assoc, length, take, ◌≤◌, arith}
use Rattle.std.specs.List.{range_with_len}
use Rattle.std.proofs.lemmas.Grind.{flat_map-append}
use Rattle.std.proofs.lemmas.List.FromFn.{length-range_with_len, get_or-range_with_len}
use Rattle.std.proofs.lemmas.List.{take_all}
use Rattle.semantics.specs.Texts.{Bytes, Line, line_text, text_of}
use Rattle.semantics.specs.Net.{name_of}
use Rattle.aiger_semantics.specs.declared.and_line.AndLine.{AndLine}
use Rattle.aiger_semantics.specs.Circuit.{CircuitValue}
use Rattle.aiger_semantics.specs.Text.{header_line, number_line, input_line, and_line, symbol_line, symbol_lines, aiger_text}
use Rattle.aiger_text.specs.CircuitText.{inputs_text, outputs_text, ands_text, symbols_text, body_text}

lines_of : {X : Type 0} (f : X → Line) (xs : List X) → flat_map line_text (map f xs) ≡ flat_map (λ x. line_text (f x)) xs
lines_of f [] = refl
lines_of f (x ∷ xs) = ap (λ rest. line_text (f x) ++ rest) (lines_of f xs)

-- lines and what follows
lines_then : {X : Type 0} (f : X → Line) (xs : List X) (rest : List Line) (text : Bytes) → flat_map line_text rest ≡ text
    → flat_map line_text (map f xs ++ rest) ≡ flat_map (λ x. line_text (f x)) xs ++ text
lines_then f xs rest text is = flat_map-append line_text (map f xs) rest ∙ ap (λ t. t ++ flat_map line_text rest) (lines_of f xs) ∙ ap (λ t. flat_map (λ x. line_text (f x)) xs ++ t) is

five : (h i o a s : Bytes) → (h ++ (i ++ (o ++ a))) ++ s ≡ h ++ (i ++ (o ++ (a ++ s)))
five h i o a s =
    append_assoc h (i ++ (o ++ a)) s ∙ ap (λ t. h ++ t) (append_assoc i (o ++ a) s ∙ ap (λ t. i ++ t) (append_assoc o a s))

-- the text is the lines before the symbols, and the symbols
pub aiger_text-parts : (c : CircuitValue) → body_text c ++ (symbols_text 105 c.input_names ++ symbols_text 111 c.output_names) ≡ aiger_text c
unfolding text_of aiger_text
aiger_text-parts c =
    let symbols = symbols_text 105 c.input_names ++ symbols_text 111 c.output_names in
    let names : flat_map line_text (symbol_lines 105 c.input_names ++ symbol_lines 111 c.output_names) ≡ symbols =
    lines_then (symbol_line 105 c.input_names) (range_with_len 0 (length c.input_names)) (symbol_lines 111 c.output_names) (symbols_text 111 c.output_names)
    (lines_of (symbol_line 111 c.output_names) (range_with_len 0 (length c.output_names))) in
    five (line_text (header_line c)) (inputs_text c.inputs) (outputs_text c.outputs) (ands_text c.ands) symbols
    ∙ ap (λ t. line_text (header_line c) ++ t)
    (sym
    (lines_then input_line c.inputs (map number_line c.outputs ++ (map and_line c.ands ++ (symbol_lines 105 c.input_names ++ symbol_lines 111 c.output_names)))
    (outputs_text c.outputs ++ (ands_text c.ands ++ symbols))
    (lines_then number_line c.outputs (map and_line c.ands ++ (symbol_lines 105 c.input_names ++ symbol_lines 111 c.output_names)) (ands_text c.ands ++ symbols)
    (lines_then and_line c.ands (symbol_lines 105 c.input_names ++ symbol_lines 111 c.output_names) symbols names))))

-- the parts of the lines before the symbols
pub body_text-parts : (c : CircuitValue) (inputs outputs : List ℕ) (ands : List AndLine) → inputs ≡ c.inputs → outputs ≡ c.outputs → ands ≡ c.ands
    → line_text (header_line c) ++ (inputs_text inputs ++ (outputs_text outputs ++ ands_text ands)) ≡ body_text c
body_text-parts c inputs outputs ands i o a =
    ap (λ t. line_text (header_line c) ++ (inputs_text t ++ (outputs_text outputs ++ ands_text ands))) i
    ∙ ap (λ t. line_text (header_line c) ++ (inputs_text c.inputs ++ (outputs_text t ++ ands_text ands))) o
    ∙ ap (λ t. line_text (header_line c) ++ (inputs_text c.inputs ++ (outputs_text c.outputs ++ ands_text t))) a

-- the circuit's text, where these names are the circuit's
pub aiger_text-of : (c : CircuitValue) (inputs outputs : List Bytes) → inputs ≡ c.input_names → outputs ≡ c.output_names
    → body_text c ++ (symbols_text 105 inputs ++ symbols_text 111 outputs) ≡ aiger_text c
aiger_text-of c inputs outputs i o =
    ap (λ t. body_text c ++ (symbols_text 105 t ++ symbols_text 111 outputs)) i ∙ ap (λ t. body_text c ++ (symbols_text 105 c.input_names ++ symbols_text 111 t)) o ∙ aiger_text-parts c

-- the line of the symbol at a place
pub symbol_text_at : (letter : ℕ) (names : List Bytes) (i : ℕ) → i < length names → (place name : Bytes) → place ≡ decimal i → name ≡ name_of names i
    → letter ∷ (place ++ (32 ∷ (name ++ 10 ∷ []))) ≡ line_text (symbol_line letter names (get_or (range_with_len 0 (length names)) i 0))
symbol_text_at letter names i within place name p n =
    let at : get_or (range_with_len 0 (length names)) i 0 ≡ i = get_or-range_with_len 0 (length names) i 0 within ∙ (omega arith) in
    ap (λ t. letter ∷ (t ++ (32 ∷ (name ++ 10 ∷ [])))) p ∙ ap (λ t. letter ∷ (decimal i ++ (32 ∷ (t ++ 10 ∷ [])))) n
    ∙ ap (λ t. letter ∷ t) (sym (append_assoc (decimal i) (32 ∷ name_of names i) (10 ∷ [])))
    ∙ ap (λ k. line_text (symbol_line letter names k)) (sym at)

-- all of them
pub all_of_range : (f : ℕ → Bytes) (n i : ℕ) → n ≤ i → flat_map f (take i (range_with_len 0 n)) ≡ flat_map f (range_with_len 0 n)
all_of_range f n i past = let size = length-range_with_len 0 n in ap (flat_map f) (take_all i (range_with_len 0 n) (omega (arith, size)))
