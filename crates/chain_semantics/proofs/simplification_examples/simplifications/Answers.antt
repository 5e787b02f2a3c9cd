-- by computation, vector by vector
use Rattle.std.proofs.Common.{◌<◌, ◌≤◌, ℕ, Bool, true, false, [], ◌∷◌, refl, ap, arith}
use Rattle.std.specs.List.{AllByRecursion}
use Rattle.semantics.specs.Net.{NetValue, literal_count}
use Rattle.semantics.specs.Error.{error_of, net_error, IsWithin}
use Rattle.semantics.specs.declared.metric.Kind.TheVariants.{Abs}
use Rattle.semantics.specs.Error.{one_word}
use Rattle.semantics.specs.Examples.{half_adder, constant_sum}
use Rattle.semantics.specs.Value.{after_rounds, value_of, outputs_of}
use Rattle.chain_semantics.specs.declared.moves.Move.{Move}
use Rattle.chain_semantics.specs.declared.moves.Move.TheVariants.{Const, DropLiteral}
use Rattle.chain_semantics.specs.Chain.{IsFirstAllowed}
use Rattle.chain_semantics.specs.Chain.IsInChain.{first, next}
use Rattle.chain_semantics.specs.Moves.{depends_within, moves_of, moved}
use Rattle.chain_semantics.specs.Tidy.{tidy_step}
use Rattle.chain_semantics.specs.Tidy.IsReachedFrom.{start, next as reach}
use Rattle.chain_semantics.specs.Simplification.{IsAllowedMove, IsSimplificationEnd, IsSimplificationEndFrom}
use Rattle.chain_semantics.specs.SimplificationExamples.{carry_is_b}
use Rattle.chain_semantics.proofs.Simplifications.{end_from-only}
use Rattle.chain_semantics.proofs.simplification_examples.simplifications.Goals as goal

Errs : NetValue → Bool → Bool → ℕ
Errs N a b = net_error (one_word Abs) half_adder N (a ∷ b ∷ [])

-- the bound is kept on every vector, where it is kept on the four
on_each : (N : NetValue) → Errs N false false ≤ 1 → Errs N true false ≤ 1 → Errs N false true ≤ 1 → Errs N true true ≤ 1 → IsWithin (one_word Abs) half_adder 1 N
unfolding Errs
on_each N oo io oi ii [] e = cc
on_each N oo io oi ii (a ∷ []) e = cc
on_each N oo io oi ii (false ∷ false ∷ []) e = oo
on_each N oo io oi ii (true ∷ false ∷ []) e = io
on_each N oo io oi ii (false ∷ true ∷ []) e = oi
on_each N oo io oi ii (true ∷ true ∷ []) e = ii
on_each N oo io oi ii (a ∷ b ∷ c ∷ x) e = cc

-- the bound is not kept, where one vector exceeds it
not_at : (N : NetValue) (a b : Bool) → 1 < Errs N a b → ¬ IsWithin (one_word Abs) half_adder 1 N
unfolding Errs
not_at N a b over within = omega (arith, over, within (a ∷ b ∷ []) refl)

Allowed : NetValue → Move → Type 0
Allowed = IsAllowedMove (one_word Abs) half_adder 1

allowed_sum : Allowed half_adder (Const 0 false)
unfolding Allowed Errs after_rounds value_of outputs_of error_of net_error
allowed_sum = on_each constant_sum (omega arith) (omega arith) (omega arith) (omega arith)

sum_goes : IsFirstAllowed (Allowed half_adder) (moves_of half_adder) (Const 0 false)
unfolding depends_within moves_of
sum_goes = record { before = []; after = _; stands = refl; none_before = tt; allowed = allowed_sum }

allowed_literal : Allowed constant_sum (DropLiteral 1 0 0)
unfolding Allowed Errs after_rounds value_of outputs_of error_of net_error
allowed_literal = on_each (moved constant_sum (DropLiteral 1 0 0)) (omega arith) (omega arith) (omega arith) (omega arith)

refused_constants : (N : NetValue) → (1 < Errs (moved N (Const 1 false)) true true) → (1 < Errs (moved N (Const 1 true)) false false)
    → (¬ Allowed N (Const 1 false)) × (¬ Allowed N (Const 1 true))
unfolding Allowed
refused_constants N low high = (not_at (moved N (Const 1 false)) true true low, not_at (moved N (Const 1 true)) false false high)

literal_goes : IsFirstAllowed (Allowed constant_sum) (moves_of constant_sum) (DropLiteral 1 0 0)
unfolding depends_within moves_of Errs after_rounds value_of outputs_of error_of net_error
literal_goes =
    let refused = refused_constants constant_sum (omega arith) (omega arith) in
    record { before = Const 1 false ∷ Const 1 true ∷ []; after = _; stands = refl; none_before = (refused.0, (refused.1, tt)); allowed = allowed_literal }

none_goes : AllByRecursion (λ m. ¬ Allowed carry_is_b m) (moves_of carry_is_b)
unfolding depends_within moves_of Allowed Errs after_rounds value_of outputs_of error_of net_error
none_goes =
    let refused = refused_constants carry_is_b (omega arith) (omega arith) in
    (refused.0, (refused.1, (not_at (moved carry_is_b (DropLiteral 1 0 0)) false false (omega arith), tt)))

within_one : IsSimplificationEnd (one_word Abs) half_adder 1 carry_is_b
unfolding tidy_step Allowed
within_one = record {
  start = half_adder;
  tidied = record { reached = start; tidy = refl };
  end = record {
    member =
        next constant_sum carry_is_b (DropLiteral 1 0 0)
        (next half_adder constant_sum (Const 0 false) first sum_goes (record { reached = start; tidy = refl }))
        literal_goes (record { reached = reach start refl; tidy = refl });
    none_allowed = none_goes;
  };
}

-- the half adder whose sum is constant 0 is tidy
from_a_beginning : IsSimplificationEndFrom (one_word Abs) half_adder 1 constant_sum carry_is_b
unfolding tidy_step Allowed
from_a_beginning = record {
  start = constant_sum;
  tidied = record { reached = start; tidy = refl };
  end = record { member = next constant_sum carry_is_b (DropLiteral 1 0 0) first literal_goes (record { reached = reach start refl; tidy = refl }); none_allowed = none_goes };
}

pub returns : goal.returns
returns c = record {
  within_one = within_one;
  not_the_read_net = λ h. omega (arith, ap literal_count (end_from-only (one_word Abs) half_adder 1 half_adder half_adder carry_is_b h within_one));
  from_a_beginning = from_a_beginning;
  not_the_beginning = λ h. omega (arith, ap literal_count (end_from-only (one_word Abs) half_adder 1 constant_sum constant_sum carry_is_b h from_a_beginning));
}
