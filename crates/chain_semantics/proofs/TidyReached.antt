-- Steps end, at one net, and keep what each step keeps.
use Rattle.std.proofs.Common.{◌≡◌, ◌↔◌, ℕ, zero, suc, ◌<◌, Option, Some, None, refl, sym, subst, ◌∙◌, arith}
use Rattle.semantics.specs.Net.{NetValue, IsSound}
use Rattle.chain_semantics.specs.Tidy.{tidy_step, IsReachedFrom, IsTidiedFrom}
use Rattle.chain_semantics.specs.Tidy.IsReachedFrom.{start, next}
use Rattle.chain_semantics.proofs.TidyMeasure.{tidy_measure}
use Rattle.chain_semantics.specs.TidyLaws.{KeepsNet, DoesNotGrow}
use Rattle.chain_semantics.proofs.TidyGood.{IsGoodStep}
use Rattle.chain_semantics.proofs.TidySteps.{good-step}

keeps-itself : (N : NetValue) → IsSound N → KeepsNet N N
keeps-itself N sound = record { sound = sound; model = refl; ports = record { inputs = refl; outputs = refl }; values = λ x. refl }

keeps-both : (N K M : NetValue) → KeepsNet N K → KeepsNet K M → KeepsNet N M
keeps-both N K M a b = record {
  sound = b.sound;
  model = b.model ∙ a.model;
  ports = record { inputs = a.ports.inputs ∙ b.ports.inputs; outputs = a.ports.outputs ∙ b.ports.outputs };
  values = λ x. a.values x ∙ b.values x;
}

no_growth-itself : (N : NetValue) → DoesNotGrow N N
no_growth-itself N = record { tables = omega arith; literals = omega arith; rows = omega arith; pins = omega arith; table_pins = λ most h. h }

pub no_growth-both : (N K M : NetValue) → DoesNotGrow N K → DoesNotGrow K M → DoesNotGrow N M
no_growth-both N K M a b = record {
  tables = omega arith;
  literals = omega arith;
  rows = omega arith;
  pins = omega arith;
  table_pins = λ most h. b.table_pins most (a.table_pins most h);
}

pub reached-keeps : (N M : NetValue) → IsSound N → IsReachedFrom N M → KeepsNet N M
reached-keeps N M sound start = keeps-itself N sound
reached-keeps N M sound (next {K = K} r e) =
    let before : KeepsNet N K = reached-keeps N K sound r in
    keeps-both N K M before (good-step K M before.sound e).keeps

pub reached-no_growth : (N M : NetValue) → IsSound N → IsReachedFrom N M → DoesNotGrow N M
reached-no_growth N M sound start = no_growth-itself N
reached-no_growth N M sound (next {K = K} r e) =
    no_growth-both N K M (reached-no_growth N K sound r) (good-step K M (reached-keeps N K sound r).sound e).no_growth

reached-after : (N K M : NetValue) → tidy_step N ≡ Some K → IsReachedFrom K M → IsReachedFrom N M
reached-after N K M e start = next start e
reached-after N K M e (next {K = L} r f) = next (reached-after N K L e r) f

tidied_at : (most : ℕ) (N : NetValue) → IsSound N → tidy_measure N < suc most
    → ((K : NetValue) → IsSound K → tidy_measure K < most → (M : NetValue) × IsTidiedFrom K M)
    → (o : Option NetValue) → tidy_step N ≡ o → (M : NetValue) × IsTidiedFrom N M
tidied_at most N sound h f None e = (N, record { reached = start; tidy = e })
tidied_at most N sound h f (Some K) e =
    let good : IsGoodStep N K = good-step N K sound e in
    let rest : (M : NetValue) × IsTidiedFrom K M = f K good.keeps.sound (omega (arith, good.falls)) in
    (rest.0, record { reached = reached-after N K rest.0 e rest.1.reached; tidy = rest.1.tidy })

-- by the measure
tidied_within : (most : ℕ) (N : NetValue) → IsSound N → tidy_measure N < most → (M : NetValue) × IsTidiedFrom N M
tidied_within zero N sound h = absurd (omega arith)
tidied_within (suc most) N sound h = tidied_at most N sound h (tidied_within most) (tidy_step N) refl

pub tidied-exists : (N : NetValue) → IsSound N → (M : NetValue) × IsTidiedFrom N M
tidied-exists N sound = tidied_within (suc (tidy_measure N)) N sound (omega arith)

-- M comes of N by exactly k steps
IsRun : ℕ → NetValue → NetValue → Type 0
IsRun zero N M = N ≡ M
IsRun (suc k) N M = (K : NetValue) × (tidy_step N ≡ Some K) × IsRun k K M

run-more : (k : ℕ) (N K M : NetValue) → IsRun k N K → tidy_step K ≡ Some M → IsRun (suc k) N M
unfolding IsRun
run-more zero N K M r e = (M, subst (λ L. tidy_step L ≡ Some M) (sym r) e, refl)
run-more (suc k) N K M (L, f, r) e = (L, f, run-more k L K M r e)

reached-run : (N M : NetValue) → IsReachedFrom N M → (k : ℕ) × IsRun k N M
unfolding IsRun
reached-run N M start = (0, refl)
reached-run N M (next {K = K} r e) = let before = reached-run N K r in (suc before.0, run-more before.0 N K M before.1 e)

run-unique : (j k : ℕ) (N M K : NetValue) → IsRun j N M → IsRun k N K → tidy_step M ≡ None → tidy_step K ≡ None → M ≡ K
unfolding IsRun
run-unique zero zero N M K a b m l = sym a ∙ b
run-unique zero (suc k) N M K a (L, f, b) m l = let stops : tidy_step N ≡ None = subst (λ P. tidy_step P ≡ None) (sym a) m in cc
run-unique (suc j) zero N M K (L, f, a) b m l = let stops : tidy_step N ≡ None = subst (λ P. tidy_step P ≡ None) (sym b) l in cc
run-unique (suc j) (suc k) N M K (L, f, a) (P, g, b) m l = let same : L ≡ P = cc in run-unique j k L M K a (subst (λ Q. IsRun k Q K) (sym same) b) m l

pub tidied-unique : (N M K : NetValue) → IsTidiedFrom N M → IsTidiedFrom N K → M ≡ K
tidied-unique N M K a b =
    let m = reached-run N M a.reached in
    let k = reached-run N K b.reached in
    run-unique m.0 k.0 N M K m.1 k.1 a.tidy b.tidy

pub tidied-stops : (N : NetValue) → tidy_step N ≡ None → IsTidiedFrom N N
tidied-stops N e = record { reached = start; tidy = e }

run-reached : (k : ℕ) (N M : NetValue) → IsRun k N M → IsReachedFrom N M
unfolding IsRun
run-reached zero N M r = subst (IsReachedFrom N) r start
run-reached (suc k) N M (L, f, r) = reached-after N L M f (run-reached k L M r)

run-rest : (k : ℕ) (N K M : NetValue) → tidy_step N ≡ Some K → IsRun k N M → tidy_step M ≡ None → IsReachedFrom K M
unfolding IsRun
run-rest zero N K M e r tidy = let stops : tidy_step N ≡ None = subst (λ P. tidy_step P ≡ None) (sym r) tidy in cc
run-rest (suc k) N K M e (L, f, r) tidy = let same : L ≡ K = cc in run-reached k K M (subst (λ Q. IsRun k Q M) same r)

-- a net is tidied to what the net after its first step is tidied to
pub tidied-goes_on : (N K M : NetValue) → tidy_step N ≡ Some K → IsTidiedFrom N M ↔ IsTidiedFrom K M
tidied-goes_on N K M e = (
  λ t. let r = reached-run N M t.reached in record { reached = run-rest r.0 N K M e r.1 t.tidy; tidy = t.tidy },
  λ t. record { reached = reached-after N K M e t.reached; tidy = t.tidy },
)
