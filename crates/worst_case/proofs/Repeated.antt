-- What further queries come to, behind a query that was spent.
use Rattle.std.proofs.Common.{◌≡◌, ℕ, suc, ◌+◌, ◌<◌, ◌≤◌, List, [], ◌∷◌, ◌++◌, length, length-append, take, drop, get_or, ap, sym, subst, ◌∙◌, add-one, arith}
use Rattle.std.proofs.lemmas.List.{take-append-drop, take-append-le, length-take, length-drop, append_assoc, drop-set-lt}
use Rattle.std.proofs.Math.Seq.{drop-cons, take-append_seam}
use Rattle.std.proofs.Math.ListN.{set}
use Rattle.semantics.specs.Net.{NetValue}
use Rattle.quality_semantics.specs.Joint.{joint_net}
use Rattle.proof_semantics.specs.declared.constraint.Constraint.{Constraint}
use Rattle.proof_semantics.specs.Formula.{Formula}
use Rattle.proof_semantics.specs.Logs.{LogItem, IsDerivation}
use Rattle.proof_semantics.specs.Miter.{miter}
use Rattle.proof_semantics.specs.Merges.{IsMergeLog}
use Rattle.cdcl_core.specs.Searched.{Begins}
use Rattle.cdcl_core.specs.Outcomes.{IsOutcome}
use Rattle.cdcl_core.specs.declared.outcome.Outcome.{Outcome}
use Rattle.cdcl_core.specs.declared.outcome.Outcome.TheVariants.{Model, Refuted, Open}
use Rattle.level_answers.specs.declared.query.Spent as spent
use Rattle.worst_case.specs.Exceeds.{IsChainOn}

-- the first items of a log that begins with another one
front_of : (n : ℕ) (b c : List LogItem) → n ≤ length b → Begins b c → take n c ≡ take n b
front_of n b c few begins =
    ap (take n) (sym (take-append-drop (length b) c)) ∙ ap (λ front. take n (front ++ drop (length b) c)) begins ∙ take-append-le n b (drop (length b) c) few

pub no_longer : (a b : List LogItem) → Begins a b → length a ≤ length b
no_longer a b begins = let count : length a ≡ length (take (length a) b) = ap length (sym begins) in omega (arith, count, length-take (length a) b)

-- what a longer log comes to, a log that it begins with comes to as well
pub outcome_joins : (f : Formula) (a b : List LogItem) (o : Outcome) → Begins a b → IsOutcome f b o → IsOutcome f a o
outcome_joins f a b (Model bits) first found = found
outcome_joins f a b (Refuted log) first found = record {
  begins = front_of (length a) b log (no_longer a b first) found.begins ∙ first;
  derivation = found.derivation;
  refutes = found.refutes;
}
outcome_joins f a b (Open log) first found = record {
  begins = front_of (length a) b log (no_longer a b first) found.begins ∙ first;
  derivation = found.derivation;
}

module _ (aim : Constraint) (N M : NetValue) (s : spent.Spent) (h : IsChainOn aim N M s) where
  -- a spent query's log is a derivation
  pub chain_derives : (f : Formula) → f ≡ miter N M aim.metric aim.bound → IsDerivation f s.log
  chain_derives f is =
      subst (λ g. IsDerivation g s.log) (ap (λ K. miter N K aim.metric s.k) h.net ∙ ap (miter N M aim.metric) h.level ∙ sym is) h.chain.derivation

  -- a log that begins with a spent query's log has the merges at its head
  pub chain_counted : (log : List LogItem) → Begins s.log log → s.merged ≤ length log
  chain_counted log begins = omega (arith, h.chain.count, no_longer s.log log begins)

  pub chain_merges : (log : List LogItem) → Begins s.log log → IsMergeLog (joint_net N M aim.metric aim.bound) (take s.merged log)
  chain_merges log begins =
      let few : s.merged ≤ length s.log = omega (arith, h.chain.count) in
      let same : joint_net N s.net aim.metric s.k ≡ joint_net N M aim.metric aim.bound = ap (λ K. joint_net N K aim.metric s.k) h.net ∙ ap (joint_net N M aim.metric) h.level in
      subst (λ J. IsMergeLog J (take s.merged log)) same (subst (IsMergeLog (joint_net N s.net aim.metric s.k)) (sym (front_of s.merged s.log log few begins)) h.merged)

  -- the spent query, whose log was got back from a longer log
  pub chain_back : (f : Formula) (log : List LogItem) → IsOutcome f s.log (Open log) → (first : List LogItem) → first ≡ take (length s.log) log
      → IsChainOn aim N M (record { net = s.net; k = s.k; merged = s.merged; log = first })
  chain_back f log found first is =
      subst (λ (l : List LogItem). IsChainOn aim N M (record { net = s.net; k = s.k; merged = s.merged; log = l })) (sym (is ∙ found.begins)) h

-- a log that another one begins with is no longer than it
pub log_counted : (f : Formula) (first log : List LogItem) → IsOutcome f first (Open log) → length first ≤ length log
log_counted f first log found = no_longer first log found.begins

-- there is one item more to take from a log
pub one_left : (first log whole : List LogItem) (i count : ℕ) → first ++ drop i log ≡ whole → length first ≡ i → i < count → count ≤ length whole → i < length log
one_left first log whole i count all at less room =
    let counted : length first + length (drop i log) ≡ length whole = sym (length-append first (drop i log)) ∙ ap length all in
    omega (arith, at, less, room, counted, length-drop i log)

-- one item more is taken from the front of a log, and another item stands in its place
pub taken_more : (first next log rest whole : List LogItem) (i : ℕ) (item other : LogItem) → first ++ drop i log ≡ whole → i < length log → next ≡ first ++ (item ∷ []) → rest ≡ set log i other
    → item ≡ get_or log i item → next ++ drop (i + 1) rest ≡ whole
taken_more first next log rest whole i item other all low next_is rest_is is =
    let front : drop i log ≡ item ∷ drop (i + 1) log = rw add-one (drop-cons log i item low ∙ ap (λ x. x ∷ drop (suc i) log) (sym is)) in
    let behind : drop (i + 1) rest ≡ drop (i + 1) log = ap (drop (i + 1)) rest_is ∙ drop-set-lt (i + 1) log i other (omega (arith)) in
    ap (λ head. head ++ drop (i + 1) rest) next_is ∙ ap (λ tail. (first ++ (item ∷ [])) ++ tail) behind ∙ append_assoc first (item ∷ []) (drop (i + 1) log)
    ∙ ap (λ tail. first ++ tail) (sym front) ∙ all

pub counted_more : (first next : List LogItem) (i : ℕ) (item : LogItem) → length first ≡ i → next ≡ first ++ (item ∷ []) → length next ≡ i + 1
counted_more first next i item at next_is = ap length next_is ∙ length-append first (item ∷ []) ∙ ap (λ n. n + 1) at

-- the items that were taken are the first items of the whole log
pub taken_all : (first log whole : List LogItem) (i count : ℕ) → first ++ drop i log ≡ whole → length first ≡ i → i ≤ count → count ≤ i → first ≡ take count whole
taken_all first log whole i count all at low high =
    let same : count ≡ length first = omega (arith, at, low, high) in
    sym (ap (take count) (sym all) ∙ ap (λ n. take n (first ++ drop i log)) same ∙ take-append_seam first (drop i log))
