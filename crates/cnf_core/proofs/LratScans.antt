-- One byte of a piece.
use Rattle.std.proofs.Common.{ℕ, ◌+◌, ◌≤◌, true, false, Bool, arith}
use Rattle.std.specs.Prelude.{if◌then◌else◌}
use Rattle.proof_semantics.specs.declared.lrat_refusal.LratRefusal.TheVariants.{BadByte}
use Rattle.proof_semantics.specs.LratTokens.{is_blank, is_log_byte}
use Rattle.proof_semantics.specs.LratMatching.{Refused}
use Rattle.proof_semantics.specs.LratReading.{is_refused}
use Rattle.cnf_core.specs.LratScanning.{ScannerValue, held_with, closed, scanned}

-- a byte moves the place by one at most
pub scanned-at : (s : ScannerValue) (c : ℕ) → (scanned s c).at ≤ s.at + 1
scanned-at s c = at_refused (is_refused s.stage) where
  at_good : (g : Bool) → (if g then record s { word = held_with s.word c; at = s.at + 1 } else record s { stage = Refused (BadByte s.at) }).at ≤ s.at + 1
  at_good true = omega arith
  at_good false = omega arith

  at_blank : (b : Bool) → (if b then closed s else (if is_log_byte c then record s { word = held_with s.word c; at = s.at + 1 } else record s { stage = Refused (BadByte s.at) })).at ≤ s.at + 1
  at_blank true = omega arith
  at_blank false = at_good (is_log_byte c)

  at_refused : (r : Bool)
      → (if r then s else (if is_blank c then closed s else (if is_log_byte c then record s { word = held_with s.word c; at = s.at + 1 } else record s { stage = Refused (BadByte s.at) }))).at
      ≤ s.at + 1
  at_refused true = omega arith
  at_refused false = at_blank (is_blank c)
