-- The diagram of the error, and what is decided by it.
use Rattle.std.proofs.Common.{◌≡◌, ℕ, ◌<◌, ltb, Bool, false, List, [], ◌∷◌, ◌++◌, length, get_or, map, take, drop, refl, sym, ap, subst, ◌∙◌, arith}
use Rattle.std.specs.Prelude.{All}
use Rattle.std.proofs.lemmas.Bool.{ltb-true, ltb-false}
use Rattle.std.proofs.lemmas.List.{length-append, length-map, get_or-map, map-append}
use Rattle.std.proofs.lemmas.List.Elements.{All-append}
use Rattle.std.proofs.Math.Seq.{take-append_seam, drop-append_seam}
use Rattle.semantics.specs.Net.{NetValue, input_count, signal_names, name_of, HasSamePorts}
use Rattle.semantics.specs.Value as nets
use Rattle.semantics.specs.Value.{Assignment, outputs_of}
use Rattle.semantics.specs.declared.metric.Metric.{Metric}
use Rattle.semantics.specs.Error.{net_error, error_of, IsCandidate}
use Rattle.bdd_core.specs.declared.node.Node.{Node}
use Rattle.bdd_core.specs.Diagrams.{IsValuation, Grows, HasOneValuation, value_of}
use Rattle.bdd_core.proofs.Growing.{valuation_before}
use Rattle.bdd_nets.specs.Signals.{AreVariablesOf, AreOutputsOf}
use Rattle.bdd_nets.specs.Decided.{IsDiagramDecided}
use Rattle.bdd_nets.specs.declared.ever_true.Decision.{Decision}
use Rattle.bdd_nets.specs.declared.ever_true.Decision.TheVariants.{Never, At, Unknown}
use Rattle.bdd_nets.proofs.Signals.{within_later}
use Rattle.bdd_nets.proofs.Deciding.{looked_up, looked_up_all}
use Rattle.net_errors.specs.Compared.{NetPair}
use Rattle.bdd_levels.specs.declared.level.Level.{Level}
use Rattle.bdd_levels.specs.Levels.{TellsLevel, IsLevelOf, IsOverOf, AreDrawn, AreInputVariables, IsLevelDecided}

pub variables_later : (b c : List Node) (variables fs : List ℕ) → Grows b c → AreVariablesOf b variables fs → AreVariablesOf c variables fs
variables_later b c variables fs grows are = record {
  count = are.count;
  within = within_later b c fs grows are.within;
  is = λ x v val. are.is x v (valuation_before b c x v grows val);
}

pub outputs_later : (b c : List Node) (N : NetValue) (inputs fs : List ℕ) → Grows b c → AreOutputsOf b N inputs fs → AreOutputsOf c N inputs fs
outputs_later b c N inputs fs grows are = record {
  count = are.count;
  within = within_later b c fs grows are.within;
  is = λ x v val. are.is x v (valuation_before b c x v grows val);
}

pub drawn_later : (b c : List Node) (N : NetValue) (variables inputs outputs : List ℕ) → Grows b c → AreDrawn N variables b inputs outputs → AreDrawn N variables c inputs outputs
drawn_later b c N variables inputs outputs grows are = record {
  inputs_are = variables_later b c variables inputs grows are.inputs_are;
  outputs_are = outputs_later b c N inputs outputs grows are.outputs_are;
}

pub length-outputs_of : (N : NetValue) (x : List Bool) → length (outputs_of N x) ≡ length N.outputs
unfolding outputs_of
length-outputs_of N x = length-map N.outputs (nets.value_of (input_count N) N.tables x)

error_unfolds : (metric : Metric) (N M : NetValue) (x : List Bool) → net_error metric N M x ≡ error_of metric (outputs_of N x) (outputs_of M x)
unfolding net_error
error_unfolds metric N M x = refl

pub same_inputs : (N M : NetValue) → IsCandidate N M → input_count M ≡ input_count N
same_inputs N M candidate = sym (ap length candidate.ports.inputs)

pub same_output_count : (N M : NetValue) → HasSamePorts N M → length N.outputs ≡ length M.outputs
same_output_count N M ports =
    sym (length-map N.outputs (name_of (signal_names N))) ∙ ap length ports.outputs ∙ length-map M.outputs (name_of (signal_names M))

pub same_outputs : (N M : NetValue) → IsCandidate N M → length N.outputs ≡ length M.outputs
same_outputs N M candidate = same_output_count N M candidate.ports

-- the network of a level says of both nets' outputs whether their error exceeds it
pub error_told : (metric : Metric) (N M Q : NetValue) (w k : ℕ) (x : List Bool) → IsCandidate N M → w ≡ length N.outputs → TellsLevel metric w k Q
    → outputs_of Q (outputs_of N x ++ outputs_of M x) ≡ ltb k (net_error metric N M x) ∷ []
error_told metric N M Q w k x candidate width level =
    let e : List Bool = outputs_of N x in
    let m : List Bool = outputs_of M x in
    let e_width : length e ≡ w = length-outputs_of N x ∙ sym width in
    let m_width : length m ≡ w = length-outputs_of M x ∙ sym (same_outputs N M candidate) ∙ sym width in
    let front : take w (e ++ m) ≡ e = subst (λ n. take n (e ++ m) ≡ e) e_width (take-append_seam e m) in
    let rest : drop w (e ++ m) ≡ m = subst (λ n. drop n (e ++ m) ≡ m) e_width (drop-append_seam e m) in
    level.tells (e ++ m) (omega (arith, length-append e m, e_width, m_width))
    ∙ (rw (front, rest) (ap (λ n. ltb k n ∷ []) (sym (error_unfolds metric N M x))))

-- both words' diagrams
pub both_within : (nodes : List Node) (first second both : List ℕ) → both ≡ first ++ second → All (λ f. f < length nodes) first → All (λ f. f < length nodes) second → All (λ f. f < length nodes) both
both_within nodes first second both is a b = rw is (All-append (λ f. f < length nodes) first second a b)

pub both_count : (N M Q : NetValue) (metric : Metric) (w k : ℕ) (nodes after : List Node) (inputs first second both : List ℕ) → IsCandidate N M → w ≡ length N.outputs → TellsLevel metric w k Q
    → AreOutputsOf nodes N inputs first → AreOutputsOf after M inputs second → both ≡ first ++ second → length both ≡ input_count Q
both_count N M Q metric w k nodes after inputs first second both candidate width level exact approximate is =
    omega (arith, ap length is, length-append first second, exact.count, approximate.count, same_outputs N M candidate, width, level.inputs)

module _ (a b c : List Node) (nets : NetPair) (level : Level) (inputs first second both over : List ℕ) (f : ℕ) where
  pub over_is : Grows a b → Grows b c → IsCandidate nets.exact nets.approx → IsLevelOf nets.exact level → AreOutputsOf a nets.exact inputs first → AreOutputsOf b nets.approx inputs second
      → both ≡ first ++ second → AreOutputsOf c level.network both over → f ≡ get_or over 0 f → IsOverOf c nets level inputs f
  over_is ab bc candidate is_level exact approximate is asked read =
      let some : 0 < length over = omega (arith, asked.count, is_level.one) in
      record {
        within = rw read (asked.within 0 f some);
        is = λ x v val.
            let at_b : IsValuation b x v = valuation_before b c x v bc val in
            let at_a : IsValuation a x v = valuation_before a b x v ab at_b in
            let words : map v both ≡ outputs_of nets.exact (map v inputs) ++ outputs_of nets.approx (map v inputs) =
            ap (map v) is ∙ map-append v first second ∙ (rw (exact.is x v at_a, approximate.is x v at_b) refl) in
            let told : map v over ≡ ltb level.k (net_error level.metric nets.exact nets.approx (map v inputs)) ∷ [] =
            asked.is x v val ∙ ap (outputs_of level.network) words
            ∙ error_told level.metric nets.exact nets.approx level.network (length nets.exact.outputs) level.k (map v inputs) candidate refl is_level in
            ap v read ∙ sym (get_or-map v over 0 f false some) ∙ ap (λ (bits : List Bool). get_or bits 0 false) told;
      }

module _ (nodes : List Node) (nets : NetPair) (level : Level) (variables inputs : List ℕ) (f : ℕ) where
  -- the error at an input vector
  abbrev error_at : List Bool → ℕ
  error_at = net_error level.metric nets.exact nets.approx

  -- what is decided of the diagram is decided of the error
  pub level_decided : AreInputVariables nets.exact variables → AreVariablesOf nodes variables inputs → IsOverOf nodes nets level inputs f → ((x : Assignment) → HasOneValuation nodes x)
      → (d : Decision) → IsDiagramDecided nodes variables f d → IsLevelDecided level.metric nets.exact nets.approx level.k d
  level_decided own are over law = by_decision
    where
      told : (x : Assignment) → value_of nodes x f ≡ ltb level.k (error_at (map x variables))
      told x = over.is x (value_of nodes x) (law x).is ∙ ap (λ (bits : List Bool). ltb level.k (error_at bits)) (are.is x (value_of nodes x) (law x).is)

      by_decision : (d : Decision) → IsDiagramDecided nodes variables f d → IsLevelDecided level.metric nets.exact nets.approx level.k d
      by_decision Never never = λ bits width.
          let values : map (looked_up variables bits) variables ≡ bits = looked_up_all variables bits own.distinct (width ∙ sym own.count) in
          ltb-false level.k (error_at bits)
          (subst (λ (b : List Bool). ltb level.k (error_at b) ≡ false) values (sym (told (looked_up variables bits)) ∙ never (looked_up variables bits)))
      by_decision (At bits) there = record {
        width = ap length there.bits_are ∙ length-map variables there.x ∙ own.count;
        exceeds = ltb-true level.k (error_at bits.items)
            (ap (λ (b : List Bool). ltb level.k (error_at b)) there.bits_are ∙ sym (told there.x) ∙ there.true_there);
      }
      by_decision Unknown nothing = tt
