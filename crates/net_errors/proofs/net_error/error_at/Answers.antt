use Rattle.std.proofs.Common.{◌≡◌, ℕ, Bool, List, length, sym, ap, ◌∙◌, refl, arith}
use Rattle.std.proofs.lemmas.List.{length-map}
use Rattle.semantics.specs.Net.{NetValue, HasSamePorts, input_count, name_of, signal_names}
use Rattle.semantics.specs.Value.{outputs_of, value_of}
use Rattle.semantics.specs.declared.metric.Metric.{Metric}
use Rattle.semantics.specs.Error.{net_error, error_of}
use Rattle.net_errors.proofs.net_error.error_at.Goals as goal

length-outputs_of : (N : NetValue) (x : List Bool) → length (outputs_of N x) ≡ length N.outputs
unfolding outputs_of
length-outputs_of N x = length-map N.outputs (value_of (input_count N) N.tables x)

same_count : (N M : NetValue) → HasSamePorts N M → length N.outputs ≡ length M.outputs
same_count N M ports = sym (length-map N.outputs (name_of (signal_names N))) ∙ ap length ports.outputs ∙ length-map M.outputs (name_of (signal_names M))

-- a list of the outputs, wherever it was read
length_read : (N N₀ : NetValue) (x word word₀ : List Bool) → N₀ ≡ N → word₀ ≡ outputs_of N₀ x → word ≡ word₀ → length word ≡ length N.outputs
length_read N N₀ x word word₀ en eo ew = ap length (ew ∙ eo) ∙ length-outputs_of N₀ x ∙ ap (λ (n : NetValue). length n.outputs) en

error_read : (metric : Metric) (N M N₀ M₀ : NetValue) (x right word right₀ word₀ : List Bool) (e : ℕ) → N₀ ≡ N → M₀ ≡ M → right₀ ≡ outputs_of N₀ x → word₀ ≡ outputs_of M₀ x
    → right ≡ right₀ → word ≡ word₀ → e ≡ error_of metric right word → e ≡ net_error metric N M x
unfolding net_error
error_read metric N M N₀ M₀ x right word right₀ word₀ e en em eo eo' er ew ee = ee ∙ rw (er, ew, eo, eo', en, em) refl

pub error-requires-clause-width : goal.error-requires-clause-width
error-requires-clause-width c =
    length_read c.args.nets.now.exact _ _ _ _ c.exact.ensures.value c.in_ok-right.ensures c.as_slice.ensures
    ∙ same_count c.args.nets.now.exact c.args.nets.now.approx c.exact.ensures.candidate.ports
    ∙ sym (length_read c.args.nets.now.approx _ _ _ _ c.approx.ensures.value c.in_ok-word.ensures c.as_slice-2.ensures)

pub error-requires-clause-few : goal.error-requires-clause-few
error-requires-clause-few c =
    omega (arith, c.exact.ensures.candidate.few_outputs, length_read c.args.nets.now.exact _ _ _ _ c.exact.ensures.value c.in_ok-right.ensures c.as_slice.ensures)

pub returns : goal.returns
returns c =
    error_read _ c.args.nets.now.exact c.args.nets.now.approx _ _ _ _ _ _ _ _ c.exact.ensures.value c.approx.ensures.value c.in_ok-right.ensures c.in_ok-word.ensures
    c.as_slice.ensures c.as_slice-2.ensures c.error.ensures
