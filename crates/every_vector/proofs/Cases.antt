-- What the joint net gives where no error exceeds the level.
use Rattle.std.proofs.Common.{◌≡◌, ℕ, ◌≤◌, Bool, false, List, [], ◌∷◌, length, ap, ◌∙◌}
use Rattle.std.proofs.lemmas.Bool.{le-ltb}
use Rattle.semantics.specs.Net.{NetValue, input_count}
use Rattle.semantics.specs.Value.{outputs_of}
use Rattle.semantics.specs.declared.metric.Metric.{Metric}
use Rattle.semantics.specs.Error.{net_error, IsWithin}
use Rattle.quality_semantics.specs.Joint.{joint_net, AreComparable}
use Rattle.quality_semantics.proofs.Joint.{joint_inputs, joint_output as output_tells}

module _ (metric : Metric) (N M : NetValue) (k : ℕ) (h : AreComparable N M) where
  -- where no error exceeds the level the joint net's output is always 0
  pub joint_never : IsWithin metric N k M → (J : NetValue) → J ≡ joint_net N M metric k → (x : List Bool) → length x ≡ input_count J → outputs_of J x ≡ false ∷ []
  joint_never within J is x width =
      let low : net_error metric N M x ≤ k = within x (width ∙ ap input_count is ∙ joint_inputs N M metric k) in
      ap (λ K. outputs_of K x) is ∙ output_tells N M metric k h x ∙ ap (λ bit. bit ∷ []) (le-ltb k (net_error metric N M x) low)
