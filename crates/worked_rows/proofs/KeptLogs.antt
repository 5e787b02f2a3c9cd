-- What is known of a log that is kept whole.
use Rattle.std.proofs.Common.{◌≡◌, List, Option, None, Some, IfSome, subst, sym}
use Rattle.semantics.specs.Texts.{Bytes}
use Rattle.proof_semantics.specs.Clauses.{Clause}
use Rattle.proof_semantics.specs.Logs.{LogItem, Refutes}
use Rattle.bundle_texts.specs.LogJudged.{IsLogIn}

-- a log that is kept of a text refutes the clauses
pub kept_refutes : (clauses : List Clause) (kept : Option (List LogItem)) (text : Bytes) → IsLogIn (λ k log. k ≡ log) clauses kept text → IfSome kept (Refutes clauses)
kept_refutes clauses None text h = tt
kept_refutes clauses (Some kept) text (log, read, refutes, held) = subst (Refutes clauses) (sym held) refutes
