-- Worked examples of reading logs, computed from the definitions.
use Rattle.std.specs.Prelude.{◌≡◌, ℕ, List, [], ◌∷◌, ◌++◌, codes, pos, Some, None, Ok, Err}
use Rattle.proof_semantics.specs.declared.item.Item.TheVariants.{Add, Remove}
use Rattle.proof_semantics.specs.declared.lrat_refusal.LratRefusal.TheVariants.{BadByte, BadNumber, Negative}
use Rattle.proof_semantics.specs.declared.lrat_refusal.LratRefusal.TheVariants.{Cut}
use Rattle.proof_semantics.specs.Logs.{LogItem}
use Rattle.proof_semantics.specs.LratReading.{whole_items, lrat_refusal, lrat_items}
use Rattle.semantics.specs.Examples.{minus}
use Rattle.proof_semantics.specs.Examples.{step}

-- an addition of the empty clause
abbrev pub empty_clause : ℕ → List ℕ → LogItem
empty_clause id hints = Add (step id [] hints)

pub record LratReadingExamples : Type 0 where
  pub no_text : lrat_items [] ≡ Ok []
  pub addition : lrat_items (codes "4 0 1 2 3 0") ≡ Ok (empty_clause 4 (1 ∷ 2 ∷ 3 ∷ []) ∷ [])
  pub no_hints : lrat_items (codes "4 0 0") ≡ Ok (empty_clause 4 [] ∷ [])
  pub deletion : lrat_items (codes "3 d 1 0 4 0 1 2 3 0")
      ≡ Ok (Remove (1 ∷ []) ∷ empty_clause 4 (1 ∷ 2 ∷ 3 ∷ []) ∷ [])
  pub deletion_of_none : lrat_items (codes "5 d 0") ≡ Ok (Remove [] ∷ [])
  pub deletion_from_zero : lrat_items (codes "-0 d 7 0") ≡ Ok (Remove (7 ∷ []) ∷ [])
  -- blanks of each kind, leading zeros, zeros with a minus
  pub spelling : lrat_items (9 ∷ codes "007  -3 002147483647 -0" ++ 13 ∷ 10 ∷ codes "05 -0" ++ 10 ∷ 10 ∷ [])
      ≡ Ok (Add (step 7 (minus 3 ∷ pos 2147483647 ∷ []) (5 ∷ [])) ∷ [])
  pub greatest : lrat_items (codes "9223372036854775807 0 9223372036854775807 0")
      ≡ Ok (empty_clause 9223372036854775807 (9223372036854775807 ∷ []) ∷ [])
  pub negative : lrat_items (codes "4 0 -1 2 0") ≡ Err (Negative 4)
  pub cut : lrat_items (codes "4 0 1 2") ≡ Err Cut
  pub bad_byte : lrat_items (codes "4 0 1 x 0") ≡ Err (BadByte 6)
  pub id_alone : lrat_items (codes "4") ≡ Err Cut
  pub large_literal : lrat_items (codes "7 2147483648 0 5 0") ≡ Err (BadNumber 2)
  pub large_number : lrat_items (codes "1 0 9223372036854775808 0") ≡ Err (BadNumber 4)
  -- a negative hint is refused only where its size is allowed
  pub large_negative : lrat_items (codes "1 0 -9223372036854775808 0") ≡ Err (BadNumber 4)
  pub negative_id : lrat_items (codes "4 d -1 0") ≡ Err (BadNumber 4)
  pub negative_lead : lrat_items (codes "-4 d 1 0") ≡ Err (BadNumber 0)
  pub zero_id : lrat_items (codes "0 0 1 0") ≡ Err (BadNumber 2)
  pub late_letter : lrat_items (codes "4 1 d 0") ≡ Err (BadNumber 4)
  pub minus_alone : lrat_items (codes "1 - 0") ≡ Err (BadNumber 2)
  pub minus_at_end : lrat_items (codes "1 -") ≡ Err (BadNumber 2)
  pub minus_within : lrat_items (codes "1 2-3 0") ≡ Err (BadNumber 2)
  pub letters : lrat_items (codes "1 dd 2 0") ≡ Err (BadNumber 2)
  pub no_item : lrat_items (codes "1 0 2 0 d") ≡ Err (BadNumber 8)
  -- the first that is decided: a bad number at the end of its token, a bad byte at its own place
  pub number_first : lrat_items (codes "0 1 x") ≡ Err (BadNumber 2)
  pub byte_first : lrat_items (codes "0 1x ") ≡ Err (BadByte 3)
  pub two_bytes : lrat_items (codes "x y") ≡ Err (BadByte 0)
  pub not_decided : lrat_refusal (codes "0 1") ≡ None
  pub decided : lrat_refusal (codes "0 1 ") ≡ Some (BadNumber 2)
  -- the last 0 has not ended, and then it has; what stands before a refused place stays
  pub not_whole : whole_items (codes "1 0 2 0") ≡ []
  pub whole : whole_items (codes "1 0 2 0 3") ≡ empty_clause 1 (2 ∷ []) ∷ []
  pub before : whole_items (codes "1 0 2 0 d 1 0 2 0 ") ≡ empty_clause 1 (2 ∷ []) ∷ []
