-- by computation
use Rattle.std.proofs.Common.{refl}
use Rattle.std.specs.Fmt.{digits}
use Rattle.semantics.specs.Texts.{text_of}
use Rattle.proof_semantics.specs.NetClauses.{net_clauses}
use Rattle.proof_semantics.specs.Formula.{dimacs_text}
use Rattle.proof_semantics.proofs.examples.dimacs_texts.Goals as goal

pub returns : goal.returns
unfolding digits text_of net_clauses dimacs_text
returns c = record { of_half_adder = refl; no_clauses = refl; empty_clause = refl }
