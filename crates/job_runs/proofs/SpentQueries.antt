-- What the spent query of a job is, from what the job comes to.
use Rattle.std.proofs.Common.{◌≡◌, ◌⊎◌, ◌≤◌, Bool, List, ◌∷◌, ◌++◌, Option, Some, None, MatchOption, Contains, inl, inr, ap, sym, subst, ◌∙◌, arith}
use Rattle.std.proofs.lemmas.List.Elements.{Contains-append_right}
use Rattle.chain_semantics.proofs.MoveLists.{Contains-here}
use Rattle.semantics.specs.Net.{NetValue}
use Rattle.proof_semantics.specs.declared.constraint.Constraint.{Constraint}
use Rattle.chain_semantics.specs.Simplification.{IsInSimplificationFrom}
use Rattle.proof_semantics.specs.Queries.{SpentValue, IsSpentQuery, IsSpentLevel}
use Rattle.job_semantics.specs.declared.task.Task.{Task}
use Rattle.job_semantics.specs.declared.task.Task.TheVariants.{Certify, Refine}
use Rattle.job_semantics.specs.Shrinking.{Shrinking, IsShownEnd, IsSpentMove, IsShrinking}
use Rattle.job_semantics.specs.Synthesis.{IsTaskDone, MaximumSpent, request_of}
use Rattle.job_semantics.specs.SecondNetlist.{IsBoundSpent, IsTaskSpent}
use Rattle.job_semantics.specs.Headline.{AreSpentOn}
use Rattle.job_semantics.specs.SecondHeadline.{IsOfTheChainFrom, AreSpentOnSecond}
use Rattle.job_runs.specs.Outcome.{SpentQueries, NothingSpent}

-- no query is told
pub none_is : (q : SpentValue) (queries : SpentQueries) → NothingSpent queries → (queries.spent ≡ Some q) ⊎ (queries.level ≡ Some q) → ⊥
none_is q queries nothing (inl is) = let bad : ◌≡◌ {A = Option SpentValue} None (Some q) = sym nothing.0 ∙ is in cc
none_is q queries nothing (inr is) = let bad : ◌≡◌ {A = Option SpentValue} None (Some q) = sym nothing.1 ∙ is in cc

-- the query that is told on a level
pub same_query : (spent level : Option SpentValue) (s q : SpentValue) → level ≡ Some s → (spent ≡ Some q) ⊎ (level ≡ Some q) → (spent ≡ Some q) ⊎ (s ≡ q)
same_query spent level s q at (inl is) = inl is
same_query spent level s q at (inr is) = inr (let both : ◌≡◌ {A = Option SpentValue} (Some s) (Some q) = sym at ∙ is in cc)

-- the query is on a member of the chain that begins with `begin`, or on what comes of a member by one move
abbrev pub AreSpentOnChain : Constraint → NetValue → NetValue → SpentValue → Type 0
AreSpentOnChain aim exact begin q = (q.k ≤ aim.bound) × IsOfTheChainFrom aim.metric exact aim.bound begin q.net × IsSpentQuery aim.metric exact aim.limit q

module _ (aim : Constraint) (exact begin : NetValue) where
  move_spent : (N : NetValue) (pool : List (List Bool)) (q : SpentValue) → IsInSimplificationFrom aim.metric exact aim.bound begin N → IsSpentMove aim exact N pool q
      → AreSpentOnChain aim exact begin q
  move_spent N pool q member s =
      let among : Contains (s.before ++ s.move ∷ s.after) s.move = Contains-append_right s.before (s.move ∷ s.after) s.move (Contains-here s.move s.after) in (
        omega (arith, s.level),
        record { member = N; in_the_chain = member; at_most_a_move = inr (s.move, subst (λ l. Contains l s.move) (sym s.stands) among, s.net) },
        s.query,
      )

  level_spent : (N : NetValue) (q : SpentValue) → IsInSimplificationFrom aim.metric exact aim.bound begin N → IsSpentLevel aim exact N q → AreSpentOnChain aim exact begin q
  level_spent N q member s = (s.level, record { member = N; in_the_chain = member; at_most_a_move = inl s.net }, s.query)

  -- the query of the chain
  of_chain : (N : NetValue) (pool : List (List Bool)) (told : Option SpentValue) (q : SpentValue) → IsInSimplificationFrom aim.metric exact aim.bound begin N → told ≡ Some q
      → MatchOption told (IsShownEnd aim exact begin N pool) (IsSpentMove aim exact N pool) → AreSpentOnChain aim exact begin q
  of_chain N pool None q member is h = let bad : ◌≡◌ {A = Option SpentValue} None (Some q) = is in cc
  of_chain N pool (Some s) q member is h = let same : s ≡ q = cc is in subst (AreSpentOnChain aim exact begin) same (move_spent N pool s member h)

  pub of_refined : (s : Shrinking) (q : SpentValue) → IsShrinking aim exact begin s → s.spent ≡ Some q → AreSpentOnChain aim exact begin q
  of_refined s q search is = of_chain s.net s.pool s.spent q search.member is search.outcome

  pub of_maximum : (spent : Option SpentValue) (s q : SpentValue) → MaximumSpent (request_of Refine aim exact begin) spent s → (spent ≡ Some q) ⊎ (s ≡ q)
      → AreSpentOnChain aim exact begin q
  of_maximum spent s q m (inl is) = of_refined m.result q m.search (sym m.is_spent ∙ is)
  of_maximum spent s q m (inr same) = subst (AreSpentOnChain aim exact begin) same (level_spent m.result.net s m.search.member m.query)

  -- ---- a query of a task

  on_second : (q : SpentValue) → AreSpentOnChain aim exact begin q → AreSpentOnSecond (request_of Refine aim exact begin) q
  on_second q s = record { level = s.0; net = inr s.1; query = s.2 }

  pub of_task : (task : Task) (s : Shrinking) (q : SpentValue) → IsTaskDone task aim exact begin s → s.spent ≡ Some q → AreSpentOnSecond (request_of task aim exact begin) q
  of_task Certify s q certified is = let bad : ◌≡◌ {A = Option SpentValue} None (Some q) = sym (ap (λ (t : Shrinking). t.spent) certified) ∙ is in cc
  of_task Refine s q search is = on_second q (of_refined s q search is)

  of_task_maximum : (task : Task) (spent : Option SpentValue) (s q : SpentValue) → MaximumSpent (request_of task aim exact begin) spent s → (spent ≡ Some q) ⊎ (s ≡ q)
      → AreSpentOnSecond (request_of task aim exact begin) q
  of_task_maximum Certify spent s q m (inl is) = of_task Certify m.result q m.search (sym m.is_spent ∙ is)
  of_task_maximum Certify spent s q m (inr same) = subst (AreSpentOnSecond (request_of Certify aim exact begin)) same
      (record { level = m.query.level; net = m.query.net ∙ ap (λ (t : Shrinking). t.net) m.search; query = m.query.query })
  of_task_maximum Refine spent s q m is = on_second q (of_maximum spent s q m is)

  -- the query whether the second net keeps the bound
  of_bound : (task : Task) (q : SpentValue) → IsBoundSpent aim exact begin q → AreSpentOnSecond (request_of task aim exact begin) q
  of_bound Certify q s = record { level = omega (arith, s.at_bound); net = s.net; query = s.query }
  of_bound Refine q s = record { level = omega (arith, s.at_bound); net = inl s.net; query = s.query }

  pub of_task_spent : (task : Task) (spent : Option SpentValue) (s q : SpentValue) → IsTaskSpent (request_of task aim exact begin) spent s → (spent ≡ Some q) ⊎ (s ≡ q)
      → AreSpentOnSecond (request_of task aim exact begin) q
  of_task_spent task spent s q (inl (on_bound, none)) (inl is) = let bad : ◌≡◌ {A = Option SpentValue} None (Some q) = sym none ∙ is in cc
  of_task_spent task spent s q (inl (on_bound, none)) (inr same) = subst (AreSpentOnSecond (request_of task aim exact begin)) same (of_bound task s on_bound)
  of_task_spent task spent s q (inr (beginning, search)) is = of_task_maximum task spent s q search is

-- where the chain begins with the exact net itself
pub on_chain : (aim : Constraint) (exact : NetValue) (q : SpentValue) → AreSpentOnChain aim exact exact q → AreSpentOn aim exact q
on_chain aim exact q s = record { level = s.0; net = record { member = s.1.member; in_the_chain = s.1.in_the_chain; at_most_a_move = s.1.at_most_a_move }; query = s.2 }
