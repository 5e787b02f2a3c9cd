-- by computation
use Rattle.std.proofs.Common.{◌≡◌, true, false, [], ◌∷◌, refl, arith}
use Rattle.semantics.specs.Error.{error_of, net_error}
use Rattle.semantics.specs.declared.metric.Kind.TheVariants.{Abs}
use Rattle.semantics.specs.Error.{one_word}
use Rattle.semantics.specs.Examples.{half_adder}
use Rattle.semantics.specs.Value.{after_rounds, value_of, outputs_of}
use Rattle.chain_semantics.specs.declared.moves.Move.TheVariants.{Const}
use Rattle.chain_semantics.specs.Moves.{moved}
use Rattle.chain_semantics.specs.Flips.{flipped_outputs}
use Rattle.chain_semantics.proofs.move_examples.care.Goals as goal

pub returns : goal.returns
unfolding after_rounds value_of outputs_of error_of net_error flipped_outputs
returns c =
    let carry : error_of (one_word Abs) (outputs_of half_adder (true ∷ true ∷ [])) (flipped_outputs half_adder (true ∷ true ∷ []) 1) ≡ 2 = refl in
    let sum : error_of (one_word Abs) (outputs_of half_adder (true ∷ true ∷ [])) (flipped_outputs half_adder (true ∷ true ∷ []) 0) ≡ 1 = refl in
    let ones : net_error (one_word Abs) half_adder (moved half_adder (Const 1 false)) (true ∷ true ∷ []) ≡ 2 = refl in
    let zeros : net_error (one_word Abs) half_adder (moved half_adder (Const 1 false)) (false ∷ false ∷ []) ≡ 0 = refl in
    record { carry = omega (arith, carry); sum = λ h. omega (arith, sum, h); broken = omega (arith, ones); not_broken = λ h. omega (arith, zeros, h) }
