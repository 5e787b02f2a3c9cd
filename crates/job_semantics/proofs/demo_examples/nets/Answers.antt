-- by computation
use Rattle.std.proofs.Common.{◌≡◌, false, [], ◌∷◌, refl, arith}
use Rattle.std.specs.Fmt.{digits}
use Rattle.semantics.specs.Texts.{text_of}
use Rattle.semantics.specs.Blif.{blif_text}
use Rattle.semantics.specs.Value.{after_rounds, value_of, outputs_of}
use Rattle.semantics.specs.Error.{error_of, one_word}
use Rattle.semantics.specs.declared.metric.Kind.TheVariants.{Abs}
use Rattle.chain_semantics.specs.Flips.{flipped_outputs}
use Rattle.job_semantics.specs.Demo.{demo_net}
use Rattle.job_semantics.proofs.demo_examples.nets.Goals as goal

pub returns : goal.returns
unfolding text_of blif_text digits after_rounds value_of outputs_of error_of flipped_outputs demo_net
returns c =
    let zeros = false ∷ false ∷ false ∷ false ∷ [] in
    let error : error_of (one_word Abs) (outputs_of (demo_net 2) zeros) (flipped_outputs (demo_net 2) zeros 1) ≡ 2 = refl in
    record {
      one_bit = refl;
      one_bit_text = refl;
      two_bits_text = refl;
      outputs = refl;
      counts_of_two = (refl, refl);
      counts_of_sixteen = (refl, refl);
      sum = refl;
      carry_flipped = refl;
      carry_cared_for = omega (arith, error);
    }
