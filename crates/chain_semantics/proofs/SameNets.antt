-- A net has no error against itself.
use Rattle.std.proofs.Common.{◌≡◌, ℕ, ◌*◌, max, Bool, List, [], ◌∷◌, length, refl, ap, ◌∙◌, arith}
use Rattle.std.proofs.Math.Nat.{zero-div, zero-mod}
use Rattle.semantics.specs.Net.{NetValue}
use Rattle.semantics.specs.Value.{outputs_of}
use Rattle.semantics.specs.Error.{number_of, distance, rounded_up, differing, word_error, word_width, word_at, error_of, net_error, IsWithin}
use Rattle.semantics.specs.declared.metric.Metric.{Metric}
use Rattle.semantics.specs.declared.metric.Kind.{Kind}
use Rattle.semantics.specs.declared.metric.Kind.TheVariants.{Abs, Rel, Ham, Sabs}
use Rattle.semantics.proofs.Words.{error_of-most}
use Rattle.semantics.proofs.Signed.{signed_error-naturals}

differing-same : (bits : List Bool) → differing bits bits ≡ 0
differing-same [] = refl
differing-same (b ∷ bits) = omega (arith, differing-same bits)

word_error-same : (kind : Kind) (bits : List Bool) → word_error kind bits bits ≡ 0
word_error-same Abs bits = omega arith
word_error-same Rel bits =
    let k : ℕ = max 1 (number_of bits) in
    let none : distance (number_of bits) (number_of bits) * 1000000 ≡ 0 = omega arith in
    ap (λ d. rounded_up d k) none ∙ omega (arith, zero-div k, zero-mod k)
word_error-same Ham bits = differing-same bits
word_error-same Sabs bits = omega (arith, signed_error-naturals bits bits)

error_of-same : (metric : Metric) (bits : List Bool) → error_of metric bits bits ≡ 0
error_of-same metric bits =
    let each = error_of-most metric bits bits 0 (λ j low. omega (arith, word_error-same metric.kind (word_at (word_width metric (length bits)) j bits))) in
    omega (arith, each)

pub IsWithin-same : (metric : Metric) (N : NetValue) (level : ℕ) → IsWithin metric N level N
unfolding net_error
IsWithin-same metric N level x width = omega (arith, error_of-same metric (outputs_of N x))
