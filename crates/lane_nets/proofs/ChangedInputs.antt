-- Inputs that keep their bits from one wide block to the next.
use Rattle.std.proofs.Common.{◌≡◌, ℕ, ◌+◌, ◌-◌, ◌*◌, ◌^◌, ◌%◌, ◌<◌, ◌==◌, Bool, true, Option, Some, None, List, [], ◌∷◌, ◌++◌, length, get_or, take, drop, w64, ap, sym, subst, ◌∙◌, inl, inr, arith}
use Rattle.std.specs.Prelude.{bit_or}
use Rattle.std.proofs.lemmas.Bool.{cases_eq}
use Rattle.std.proofs.lemmas.List.{get_or_push, get_or_append_left, length_push, take-append-le, take_all}
use Rattle.std.proofs.lemmas.Nat.Bits.{bit_at_set_same, bit_at_set_other}
use Rattle.semantics.specs.Net.{NetValue}
use Rattle.lane_bits.specs.Rows.{row_bit}
use Rattle.lane_bits.specs.Patterns.{PatternSet, pattern_bit}
use Rattle.lane_nets.specs.declared.graph_blocks.GraphWalk.{GraphWalk}
use Rattle.lane_nets.specs.Words.{word_bit}
use Rattle.lane_nets.specs.Changes.{IsKept, IsSameInput, AreChanges, IsInputAt, HasInputBlock, AreKeptInputs, HasNext, WalkState, IsWalked}
use Rattle.lane_nets.specs.Graphs.{IsWalkOf, HasRoom}
use Rattle.lane_nets.proofs.RowBits.{row_bit-word}
use Rattle.lane_nets.proofs.WordBits.{ones_bit}

pub same_input : (vectors : List (List Bool)) (row : List ℕ) (q i : ℕ) → ((p : ℕ) → row_bit row p ≡ pattern_bit vectors i p)
    → ((j : ℕ) → j < 8 → get_or row (8 * q + j) 0 ≡ get_or row (8 * (q - 1) + j) 0) → IsSameInput vectors q i
same_input vectors row q i bits same j b lane low =
    sym (bits (64 * (8 * q + j) + b)) ∙ row_bit-word row (8 * q + j) b low ∙ ap (λ w. word_bit w b) (same j lane) ∙ sym (row_bit-word row (8 * (q - 1) + j) b low)
    ∙ bits (64 * (8 * (q - 1) + j) + b)

-- ---- marks of one block

-- input s is marked
pub marks_set : (P : ℕ → Type 0) (marks s : ℕ) → s < 64 → ((i : ℕ) → i < s → IsKept marks i → P i) → (i : ℕ) → i < s + 1 → IsKept (bit_or marks (1 * 2 ^ s % 2 ^ 64)) i → P i
marks_set P marks s few before i low kept =
    elim (cases_eq i s) [
      | inl e ↦
          let set : word_bit (bit_or marks (1 * 2 ^ s % 2 ^ 64)) i ≡ true = ap (word_bit (bit_or marks (1 * 2 ^ s % 2 ^ 64))) e ∙ ap (λ n. n == 1) (bit_at_set_same w64 marks s few) in
          absurd (let clear = kept.bit in cc)
      | inr other ↦
          before i (omega (arith, low, other))
          (record { within = kept.within; bit = sym (ap (λ n. n == 1) (bit_at_set_other w64 marks s few i other)) ∙ kept.bit })
    ]

-- input s is not marked
pub marks_left : (P : ℕ → Type 0) (marks s : ℕ) → P s → ((i : ℕ) → i < s → IsKept marks i → P i) → (i : ℕ) → i < s + 1 → IsKept marks i → P i
marks_left P marks s here before i low kept =
    elim (cases_eq i s) [
      | inl e ↦ subst P (sym e) here
      | inr other ↦ before i (omega (arith, low, other)) kept
    ]

-- ---- marks of all blocks

pub changes_none : (s : PatternSet) → AreChanges s []
changes_none s q i later within = absurd (omega (arith, within))

pub changes_first : (s : PatternSet) (m : ℕ) → AreChanges s (m ∷ [])
changes_first s m q i later within = absurd (omega (arith, later, within))

pub changes_more : (s : PatternSet) (marks : List ℕ) (q m : ℕ) → length marks ≡ q → ((i : ℕ) → i < s.inputs → IsKept m i → IsSameInput s.vectors q i) → AreChanges s marks
    → AreChanges s (marks ++ m ∷ [])
changes_more s marks q m long here before k i later within inside kept =
    elim (cases_eq k q) [
      | inl e ↦
          let at : get_or (marks ++ m ∷ []) k 0 ≡ m = ap (λ n. get_or (marks ++ m ∷ []) n 0) e ∙ get_or_push marks m 0 q long in
          subst (λ n. IsSameInput s.vectors n i) (sym e) (here i inside (subst (λ w. IsKept w i) at kept))
      | inr other ↦
          let low : k < length marks = omega (arith, within, other, long, length_push marks m) in
          before k i later low inside (subst (λ w. IsKept w i) (get_or_append_left marks (m ∷ []) 0 k low) kept)
    ]

-- ---- what the values hold

pub kept_next : (s : PatternSet) (wides : List (List ℕ)) (changes : List ℕ) (next q : ℕ) → 0 < q → q ≡ next → q < length changes → AreChanges s changes
    → (0 < next → HasInputBlock s (next - 1) wides) → AreKeptInputs s q (get_or changes q 0) wides
kept_next s wides changes next q later is within are held i inside kept j b lane low =
    let before : IsInputAt s (q - 1) wides i = subst (λ n. IsInputAt s (n - 1) wides i) (sym is) (held (omega (arith, later, is)) i inside) in
    before j b lane low ∙ sym (are q i later within inside kept j b lane low)

pub kept_none : (s : PatternSet) (wides : List (List ℕ)) (q : ℕ) → AreKeptInputs s q (2 ^ 64 - 1) wides
kept_none s wides q i inside kept = absurd (let set = ones_bit i kept.within in let clear = kept.bit in cc)

-- the inputs of wide block q stand in the values, and block q + 1 is next
pub next_held : (s : PatternSet) (walk : Option GraphWalk) (w : GraphWalk) (q : ℕ) (wides : List (List ℕ)) → walk ≡ Some w → HasInputBlock s q wides → HasNext s walk (q + 1) wides
next_held s walk w q wides is held =
    let at : q ≡ q + 1 - 1 = omega arith in
    subst (λ (v : Option GraphWalk). HasNext s v (q + 1) wides) (sym is) (λ some. subst (λ n. HasInputBlock s n wides) at held)

pub next_none : (s : PatternSet) (walk : Option GraphWalk) (next : ℕ) (wides : List (List ℕ)) → walk ≡ None → HasNext s walk next wides
next_none s walk next wides is = subst (λ (v : Option GraphWalk). HasNext s v next wides) (sym is) tt

pub next_kept : (s : PatternSet) (walk : Option GraphWalk) (w : GraphWalk) (next : ℕ) (wides held : List (List ℕ)) → walk ≡ Some w → held ≡ wides → HasNext s walk next wides
    → 0 < next → HasInputBlock s (next - 1) held
next_kept s walk w next wides held is same before some =
    subst (λ (l : List (List ℕ)). HasInputBlock s (next - 1) l) (sym same) (subst (λ (v : Option GraphWalk). HasNext s v next wides) is before some)

-- what was written over a whole list
pub wides_back : (n : ℕ) (new old : List (List ℕ)) → length new ≡ n → take n (new ++ drop (length new) old) ≡ new
wides_back n new old e = take-append-le n new (drop (length new) old) (omega (arith, e)) ∙ take_all n new (omega (arith, e))

abbrev pub walk_state : List ℕ → Option GraphWalk → ℕ → List (List ℕ) → List (List ℕ) → WalkState
walk_state marks walk next wides outputs = record { marks = marks; walk = walk; next = next; wides = wides; outputs = outputs }

pub walked_same : (N : NetValue) (s : PatternSet) (marks : List ℕ) (walk : Option GraphWalk) (behind : ℕ) (wides outputs new_wides new_outputs : List (List ℕ)) → new_wides ≡ wides
    → new_outputs ≡ outputs → IsWalked N s (walk_state marks walk behind wides outputs) → IsWalked N s (walk_state marks walk behind new_wides new_outputs)
walked_same N s marks walk behind wides outputs new_wides new_outputs first second h =
    subst (λ (l : List (List ℕ)). IsWalked N s (walk_state marks walk behind l new_outputs)) (sym first)
    (subst (λ (l : List (List ℕ)). IsWalked N s (walk_state marks walk behind wides l)) (sym second) h)

module _ (N : NetValue) (s : PatternSet) (marks : List ℕ) (walk : Option GraphWalk) (behind q : ℕ) (old_wides old_outputs wides outputs : List (List ℕ))
    (before : IsWalked N s (walk_state marks walk behind old_wides old_outputs)) (count : length outputs ≡ length old_outputs) where
  pub walked_graph : (w : GraphWalk) → walk ≡ Some w → IsWalkOf N w wides → HasInputBlock s q wides → IsWalked N s (walk_state marks walk (q + 1) wides outputs)
  walked_graph w is room held = record {
    room = subst (λ (v : Option GraphWalk). HasRoom N v wides) (sym is) room;
    count = count ∙ before.count;
    inputs = before.inputs;
    changes = before.changes;
    next = next_held s walk w q wides is held;
  }

  pub walked_tables : walk ≡ None → length wides ≡ length old_wides → IsWalked N s (walk_state marks walk (q + 1) wides outputs)
  walked_tables is room = record {
    room = subst (λ (v : Option GraphWalk). HasRoom N v wides) (sym is) (room ∙ subst (λ (v : Option GraphWalk). HasRoom N v old_wides) is before.room);
    count = count ∙ before.count;
    inputs = before.inputs;
    changes = before.changes;
    next = next_none s walk (q + 1) wides is;
  }
