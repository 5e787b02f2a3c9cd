-- What diagrams and the solver decide, told of the nets that were asked about.
use Rattle.std.proofs.Common.{◌≡◌, ℕ, ◌<◌, Bool, List, inl, inr, sym, subst, arith}
use Rattle.semantics.specs.Net.{NetValue, input_count}
use Rattle.semantics.specs.Error.{IsWithin}
use Rattle.bdd_levels.specs.Levels.{IsOverAt}
use Rattle.proof_semantics.specs.declared.constraint.Constraint.{Constraint}
use Rattle.proof_semantics.specs.Conflicts.{IsEnough}
use Rattle.level_answers.specs.Levels.{IsExceededAt}
use Rattle.level_answers.specs.Levels.{IsLevelAnswer, IsSureAnswer}
use Rattle.level_answers.specs.declared.query.Exceed.{Exceed}
use Rattle.level_answers.specs.declared.query.Exceed.TheVariants as exceed
use Rattle.level_answers.specs.declared.margin.Margin.{Margin}
use Rattle.level_answers.specs.declared.margin.Margin.TheVariants.{Over, Within, Spent}
use Rattle.worst_case.specs.Exceeds.{IsAsked}
use Rattle.worst_case.specs.Levels.{without_log}
use Rattle.worst_case.proofs.Queries.{asked_at}

pub answer_over : (aim : Constraint) (N M E A : NetValue) (x y : List Bool) → E ≡ N → A ≡ M → x ≡ y → IsOverAt aim.metric E A aim.bound y → IsExceededAt aim N M x
answer_over aim N M E A x y exact approx same over =
    rw (same, ← exact, ← approx) (record { width = over.width; exceeds = over.exceeds })

pub answer_within : (aim : Constraint) (N M E A : NetValue) → E ≡ N → A ≡ M → IsWithin aim.metric E aim.bound A → IsWithin aim.metric N aim.bound M
answer_within aim N M E A exact approx within = rw (← exact, ← approx) within

pub sure_answer : (aim : Constraint) (N M : NetValue) (m : Margin) → IsSureAnswer aim N M m → IsLevelAnswer aim N M m
sure_answer aim N M (Over x) over = over
sure_answer aim N M Within within = within
sure_answer aim N M (Spent s) none = absurd none

too_many : (limit inputs : ℕ) → 16 < inputs → IsEnough limit inputs → ⊥
too_many limit inputs many (inl few) = omega (arith, few, many)
too_many limit inputs many (inr (few, _)) = omega (arith, few, many)

-- with more than sixteen inputs no limit is enough, so what was spent counts as spent
pub level_answer : (aim : Constraint) (N M : NetValue) (e : Exceed) → 16 < input_count N → IsAsked aim N M e → IsLevelAnswer aim N M (without_log e)
level_answer aim N M (exceed.Over x) many over = record { width = over.width; exceeds = over.exceeds }
level_answer aim N M (exceed.Never log) many never = never.within
level_answer aim N M (exceed.Spent s) many chain = record {
  net = chain.net;
  level = chain.level;
  query = record { not_enough = too_many aim.limit (input_count N) many; merged = chain.merged; chain = chain.chain };
}

-- an answer without its log, to the question that was posed
pub level_told : (aim asked : Constraint) (N M : NetValue) (e : Exceed) (margin : Margin) → margin ≡ without_log e → asked ≡ aim → 16 < input_count N → IsAsked asked N M e
    → IsLevelAnswer aim N M margin
level_told aim asked N M e margin is same many answer =
    subst (IsLevelAnswer aim N M) (sym is) (level_answer aim N M e many (asked_at aim asked N M e same answer))

pub level_at : (aim asked : Constraint) (N M : NetValue) (margin : Margin) → asked ≡ aim → IsLevelAnswer asked N M margin → IsLevelAnswer aim N M margin
level_at aim asked N M margin same answer = subst (λ a. IsLevelAnswer a N M margin) same answer
