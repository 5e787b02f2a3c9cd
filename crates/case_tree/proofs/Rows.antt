-- The hint of a row decides its variable.
use Rattle.std.proofs.Common.{◌≡◌, ℕ, ◌+◌, ◌<◌, Bool, true, false, cond, not, ◌&&◌, List, [], ◌∷◌, ◌++◌, length, map, refl, subst, ◌∙◌, arith, ℤ, neg_ℤ, Option, Some}
use Rattle.std.specs.List.{AllByRecursion}
use Rattle.std.proofs.lemmas.Bool.{and_parts}
use Rattle.std.proofs.lemmas.List.{length-set}
use Rattle.semantics.specs.declared.mark.Mark.{Mark}
use Rattle.semantics.specs.declared.mark.Mark.TheVariants.{Zero, One, Dash}
use Rattle.semantics.specs.Value.{Assignment, row_matches}
use Rattle.proof_semantics.specs.Clauses.{Clause}
use Rattle.proof_semantics.specs.NetClauses.{literal_at, literals_of_row, implication}
use Rattle.proof_semantics.specs.Logs.{LiteralSet, is_false_in}
use Rattle.case_tree.specs.Cases.{row_hint, asked_by_row, asked_by_failing}
use Rattle.case_tree.proofs.Sets.{Holds, AllFalse}
use Rattle.case_tree.proofs.Units.{AreHeldFrom}
use Rattle.case_tree.proofs.Needs.{IsNeeded, set_flag, needed-set, row-keeps}

-- the set has the value of each signal that is known
abbrev pub Knows : Assignment → LiteralSet → (ℕ → Type 0) → Type 0
Knows v set known = (s : ℕ) → known s → Holds set (literal_at s (v s))

pub Knows-literal : (v : Assignment) (set : LiteralSet) (known : ℕ → Type 0) (s : ℕ) (b : Bool) → Knows v set known → known s → v s ≡ b → Holds set (literal_at s b)
Knows-literal v set known s b h below e = subst (λ c. Holds set (literal_at s c)) e (h s below)

not_true-false : (b : Bool) → not b ≡ true → b ≡ false
not_true-false true h = cc
not_true-false false h = refl

-- a row that matches: its hint is the clause behind its literals, and all their negations are false
pub row_hint-matching : (held : ℕ → Option Clause) (v : Assignment) (row : ℕ) (whole : Clause) (next : ℕ) (marks : List Mark) (pins : List ℕ)
    → AreHeldFrom held next (map (implication row) (literals_of_row marks pins) ++ whole ∷ []) → row_matches marks pins v ≡ true → held (row_hint next marks pins v) ≡ Some whole
row_hint-matching held v row whole next [] pins h e = h.0
row_hint-matching held v row whole next (m ∷ marks) [] h e = h.0
row_hint-matching held v row whole next (Zero ∷ marks) (s ∷ pins) h e =
    let both = and_parts (not (v s)) (row_matches marks pins v) e in
    let here = both.0 in
    rw here (row_hint-matching held v row whole (next + 1) marks pins h.1 both.1)
row_hint-matching held v row whole next (One ∷ marks) (s ∷ pins) h e =
    let both = and_parts (v s) (row_matches marks pins v) e in
    let here = both.0 in
    rw here (row_hint-matching held v row whole (next + 1) marks pins h.1 both.1)
row_hint-matching held v row whole next (Dash ∷ marks) (s ∷ pins) h e = row_hint-matching held v row whole next marks pins h e

-- what the row asks for is known
pub matching-false : (v : Assignment) (set : LiteralSet) (known : ℕ → Type 0) (size : ℕ) (marks : List Mark) (pins : List ℕ) (needed : List Bool) → Knows v set known
    → length needed ≡ size → AllByRecursion (λ s. s < size) pins → ((q : ℕ) → IsNeeded (asked_by_row marks pins needed) q → known q)
    → row_matches marks pins v ≡ true → AllFalse set (map neg_ℤ (literals_of_row marks pins))
matching-false v set known size [] pins needed k as_many within asked e = tt
matching-false v set known size (m ∷ marks) [] needed k as_many within asked e = tt
matching-false v set known size (Zero ∷ marks) (s ∷ pins) needed k as_many within asked e =
    let both = and_parts (not (v s)) (row_matches marks pins v) e in
    let here : known s = asked s (row-keeps marks pins (set_flag needed s) s (needed-set needed s (omega (arith, within.0, as_many)))) in (
      Knows-literal v set known s false k here (not_true-false (v s) both.0),
      matching-false v set known size marks pins (set_flag needed s) k (length-set needed s true ∙ as_many) within.1 asked both.1,
    )
matching-false v set known size (One ∷ marks) (s ∷ pins) needed k as_many within asked e =
    let both = and_parts (v s) (row_matches marks pins v) e in
    let here : known s = asked s (row-keeps marks pins (set_flag needed s) s (needed-set needed s (omega (arith, within.0, as_many)))) in (
      Knows-literal v set known s true k here both.0,
      matching-false v set known size marks pins (set_flag needed s) k (length-set needed s true ∙ as_many) within.1 asked both.1,
    )
matching-false v set known size (Dash ∷ marks) (s ∷ pins) needed k as_many within asked e = matching-false v set known size marks pins needed k as_many within.1 asked e

-- the clause says that the row implies a literal that is false
abbrev pub FailingHint : (ℕ → Option Clause) → LiteralSet → ℕ → ℕ → Type 0
FailingHint held set row hint = (l : ℤ) × (held hint ≡ Some (implication row l)) × (is_false_in set l ≡ true)

pub row_hint-failing : (held : ℕ → Option Clause) (v : Assignment) (set : LiteralSet) (known : ℕ → Type 0) (size row : ℕ) (whole : Clause) (next : ℕ) (marks : List Mark) (pins : List ℕ)
    (needed : List Bool) → Knows v set known → length needed ≡ size → AllByRecursion (λ s. s < size) pins → ((q : ℕ) → IsNeeded (asked_by_failing marks pins v needed) q → known q)
    → AreHeldFrom held next (map (implication row) (literals_of_row marks pins) ++ whole ∷ []) → row_matches marks pins v ≡ false → FailingHint held set row (row_hint next marks pins v)
row_hint-failing held v set known size row whole next [] pins needed k as_many within asked h e = cc
row_hint-failing held v set known size row whole next (m ∷ marks) [] needed k as_many within asked h e = cc
row_hint-failing held v set known size row whole next (Zero ∷ marks) (s ∷ pins) needed k as_many within asked h e =
    at_bit (v s) refl e asked (λ asked'. row_hint-failing held v set known size row whole (next + 1) marks pins needed k as_many within.1 asked' h.1) where
      at_bit : (b : Bool) → v s ≡ b → (not b && row_matches marks pins v) ≡ false → ((q : ℕ) → IsNeeded (cond (not b) (asked_by_failing marks pins v needed) (set_flag needed s)) q → known q)
          → (((q : ℕ) → IsNeeded (asked_by_failing marks pins v needed) q → known q) → row_matches marks pins v ≡ false → FailingHint held set row (row_hint (next + 1) marks pins v))
          → FailingHint held set row (cond (not b) (row_hint (next + 1) marks pins v) next)
      at_bit true is e' asked' rest = (literal_at s false, h.0, Knows-literal v set known s true k (asked' s (needed-set needed s (omega (arith, within.0, as_many)))) is)
      at_bit false is e' asked' rest = rest asked' e'
row_hint-failing held v set known size row whole next (One ∷ marks) (s ∷ pins) needed k as_many within asked h e =
    at_bit (v s) refl e asked (λ asked'. row_hint-failing held v set known size row whole (next + 1) marks pins needed k as_many within.1 asked' h.1) where
      at_bit : (b : Bool) → v s ≡ b → (b && row_matches marks pins v) ≡ false → ((q : ℕ) → IsNeeded (cond b (asked_by_failing marks pins v needed) (set_flag needed s)) q → known q)
          → (((q : ℕ) → IsNeeded (asked_by_failing marks pins v needed) q → known q) → row_matches marks pins v ≡ false → FailingHint held set row (row_hint (next + 1) marks pins v))
          → FailingHint held set row (cond b (row_hint (next + 1) marks pins v) next)
      at_bit true is e' asked' rest = rest asked' e'
      at_bit false is e' asked' rest = (literal_at s true, h.0, Knows-literal v set known s false k (asked' s (needed-set needed s (omega (arith, within.0, as_many)))) is)
row_hint-failing held v set known size row whole next (Dash ∷ marks) (s ∷ pins) needed k as_many within asked h e =
    row_hint-failing held v set known size row whole next marks pins needed k as_many within.1 asked h e
