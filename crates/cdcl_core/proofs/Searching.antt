-- What holds of a search between its steps, and what the search answers.
use Rattle.std.proofs.Math.IntN.{neg_ℤ-neg_ℤ}
use Rattle.std.proofs.Common.{◌≡◌, ℕ, zero, suc, ◌+◌, ◌-◌, ◌^◌, ◌<◌, ◌≤◌, Bool, true, false, not, IsTrue, ◌↔◌, List, [], ◌∷◌, ◌++◌, take, reverse, length, get_or, refl, ap, subst, sym, ◌∙◌, inl, inr}
use Rattle.std.proofs.Common.{length-append, arith, ℤ, pos, negsuc, neg_ℤ, None}
use Rattle.std.specs.Prelude.{◌⊎◌, All}
use Rattle.std.specs.List.{Contains}
use Rattle.std.proofs.lemmas.Bool.{cases_lt, false_from_ne_true}
use Rattle.std.proofs.lemmas.List.{take-append-le}
use Rattle.std.proofs.Math.ListN.{get_or-append}
use Rattle.std.proofs.Math.Seq.{take-length, get_or-append_seam}
use Rattle.std.proofs.lemmas.List.Elements.{All-nil, All-cons, All-append, All-push, All-contains, All-contains_itself, Contains-append_left}
use Rattle.std.proofs.lemmas.List.Folds.{list_any_at}
use Rattle.std.proofs.lemmas.List.Sums.{list_all-from_AllPass}
use Rattle.proof_semantics.specs.declared.item.Item.TheVariants.{Add, Remove}
use Rattle.proof_semantics.specs.Clauses.{Clause, IsLiteralOf, AreClausesOf, literal_value, clause_value}
use Rattle.proof_semantics.specs.Formula.{Formula}
use Rattle.proof_semantics.specs.Variables.{by_place}
use Rattle.proof_semantics.specs.Logs.{StepValue, LogItem, Derives, held_of, AddsInTurn, IsDerivation}
use Rattle.proof_semantics.specs.Conflicts.{IsNew, added_clauses, clauses_with, IsConflictChain}
use Rattle.proof_semantics.specs.ConflictLaws.{IsNextStep}
use Rattle.proof_semantics.proofs.Conflicts.{derivation_law, conflict_law, length-added, clauses_with-pushed}
use Rattle.cdcl_core.specs.Settled.{IsSettled, IsSettledAt, IsOpen}
use Rattle.cdcl_core.specs.Trail.{IsConsistent}
use Rattle.cdcl_core.specs.Explained.{Holds}
use Rattle.cdcl_core.specs.Placed.{TrailValue}
use Rattle.cdcl_core.specs.StepLog.{LogValue}
use Rattle.cdcl_core.specs.Watches.{WatchesValue}
use Rattle.cdcl_core.specs.Propagation.{IsExtended}
use Rattle.cdcl_core.specs.Jump.{IsRunning, closed}
use Rattle.cdcl_core.specs.Decided.{IsFull, AreValues}
use Rattle.cdcl_core.specs.Searched.{IsSearching, IsModelTrail, IsSearch, HasMoved, HasEnded, HasLearned}
use Rattle.cdcl_core.specs.Answers.{IsModel, IsRefutation}
use Rattle.cdcl_core.specs.Refuted.{IsRefuted}
use Rattle.cdcl_core.specs.Analysed.{IsAnalysed}
use Rattle.cdcl_core.specs.declared.analysis.Learned.{Learned}
use Rattle.cdcl_core.specs.declared.search.SolverState.{SolverState}
use Rattle.cdcl_core.proofs.NewClauses.{not_both}
use Rattle.cdcl_core.proofs.Jumping.{running_decided, running_extended, running_closed}

-- ---- between the steps

pub searching_extended : (clauses : List Clause) (old new : TrailValue) (order : ℕ) → IsSearching clauses old order → IsExtended clauses old new → IsSearching clauses new order
searching_extended clauses old new order h e = record {
  running = running_extended clauses old new h.running e;
  literals = rw e.variables h.literals;
  variables = h.variables ∙ sym e.variables;
  small = rw e.variables h.small;
}

pub searching_decided : (clauses : List Clause) (t new : TrailValue) (order : ℕ) (l : ℤ) → IsSearching clauses t order → IsSettled (Holds t.literals) clauses
    → new ≡ record t { literals = t.literals ++ l ∷ []; reasons = t.reasons ++ None ∷ []; starts = t.starts ++ length t.literals ∷ [] } → IsSearching clauses new order
searching_decided clauses t new order l h settled e = rw e (record {
  running = running_decided clauses t l h.running settled;
  literals = h.literals;
  variables = h.variables;
  small = h.small;
})

-- each turn adds an entry, and there are few entries
pub searching_smaller : (clauses : List Clause) (old t new : TrailValue) (l : ℤ) → length old.literals ≤ old.variables + 1 → IsExtended clauses old t
    → new ≡ record t { literals = t.literals ++ l ∷ []; reasons = t.reasons ++ None ∷ []; starts = t.starts ++ length t.literals ∷ [] }
    → (new.variables + 2) - length new.literals < (old.variables + 2) - length old.literals
searching_smaller clauses old t new l few h e =
    let longer = h.longer in
    let variables = ap (λ u. u.variables) e ∙ h.variables in
    let more : length new.literals ≡ length (t.literals ++ l ∷ []) = ap (λ u. length u.literals) e in
    omega (arith, length-append t.literals (l ∷ []))

-- ---- the start

pub added-literals : (variables last : ℕ) (log : List LogItem) → AddsInTurn variables last log → AreClausesOf variables (added_clauses log)
added-literals variables last [] h = All-nil (All (IsLiteralOf variables))
added-literals variables last (Add s ∷ log) h = All-cons (All (IsLiteralOf variables)) s.literals (added_clauses log) h.1 (added-literals variables s.id log h.2)
added-literals variables last (Remove ids ∷ log) h = absurd h

-- where nothing is true, nothing is asked
running-empty : (clauses : List Clause) (variables : ℕ) → IsRunning clauses (record { variables = variables; literals = []; reasons = []; starts = [] })
running-empty clauses variables = record {
  trail = record { same_length = refl; reason = λ i j within is. absurd (omega arith); decision = λ i within is. absurd (omega arith) };
  levels = record { rising = λ i j d low within. absurd (omega arith); within = All-nil (λ s. s < 0) };
  settled = λ k d within. absurd (omega arith);
}

pub search_started : (f : Formula) (merged : List LogItem) (s : SolverState) → AreClausesOf f.variables f.clauses → f.variables < 2 ^ 31 → IsDerivation f merged
    → s.clauses.list ≡ clauses_with f.clauses merged → s.trail ≡ record { variables = f.variables; literals = []; reasons = []; starts = [] } → s.order ≡ f.variables → s.log.items ≡ merged
    → IsSearch f merged 0 s
search_started f merged s literals small h clauses trail order log = record {
  searching = rw (clauses, trail, order) (record {
    running = running-empty (clauses_with f.clauses merged) f.variables;
    literals = All-append (All (IsLiteralOf f.variables)) f.clauses (added_clauses merged) literals (added-literals f.variables (length f.clauses) merged h.in_turn);
    variables = refl;
    small = small;
  });
  variables = ap (λ t. t.variables) trail;
  clauses = clauses ∙ ap (clauses_with f.clauses) (sym log);
  begins = ap (take (length merged)) log ∙ take-length merged;
  chain = subst (IsConflictChain f (length merged) 0) (sym log) (conflict_law.none f merged h);
}

-- ---- one step more

next_of : (f : Formula) (log : List LogItem) (clauses : List Clause) (s : StepValue) → IsDerivation f log → clauses ≡ clauses_with f.clauses log → s.id ≡ length clauses + 1
    → length clauses < 2 ^ 59 → All (IsLiteralOf f.variables) s.literals → Derives (held_of clauses) s → IsNextStep f log s
next_of f log clauses s h all id few literals derives =
    let count = ap length all in
    let added = length-added f log h in
    let both = length-append f.clauses (added_clauses log) in
    record {
      id = omega arith;
      short = omega arith;
      literals = literals;
      derives = subst (λ held. Derives (held_of held) s) all derives;
    }

begins_longer : (merged log : List LogItem) (s : StepValue) (n : ℕ) → length log ≡ length merged + n → take (length merged) log ≡ merged
    → take (length merged) (log ++ Add s ∷ []) ≡ merged
begins_longer merged log s n count h = take-append-le (length merged) log (Add s ∷ []) (omega arith) ∙ h

pub search_learned : (f : Formula) (merged : List LogItem) (k : ℕ) (old new : SolverState) → IsSearch f merged k old → IsSearching new.clauses.list new.trail new.order
    → new.trail.variables ≡ old.trail.variables → HasLearned old new → IsSearch f merged (k + 1) new
search_learned f merged k old new h searching variables learned =
    let s : StepValue = learned.step in
    let new_clause = learned.is_new in
    let next : IsNextStep f old.log.items s =
    next_of f old.log.items old.clauses.list s h.chain.derivation h.clauses learned.id learned.few
    (subst (λ n. All (IsLiteralOf n) s.literals) h.variables learned.literals) learned.derives in
    record {
      searching = searching;
      variables = variables ∙ h.variables;
      clauses = learned.added ∙ ap (λ c. c ++ s.literals ∷ []) h.clauses ∙ sym (clauses_with-pushed f.clauses old.log.items s) ∙ ap (clauses_with f.clauses) (sym learned.logged);
      begins = ap (take (length merged)) learned.logged ∙ begins_longer merged old.log.items s k h.chain.count h.begins;
      chain = subst (IsConflictChain f (length merged) (k + 1)) (sym learned.logged)
          (conflict_law.next f (length merged) k old.log.items s h.chain next (rw h.clauses at new_clause));
    }

pub search_ended : (f : Formula) (merged : List LogItem) (limit k : ℕ) (s : SolverState) (after : List LogItem) → IsSearch f merged k s → k < limit → HasEnded s.clauses.list s.log.items after
    → IsRefutation f merged after limit
search_ended f merged limit k s after h low ended =
    let step : StepValue = ended.step in
    let next : IsNextStep f s.log.items step =
    next_of f s.log.items s.clauses.list step h.chain.derivation h.clauses ended.id ended.few
    (subst (All (IsLiteralOf f.variables)) (sym ended.empty) (All-nil (IsLiteralOf f.variables))) ended.derives in
    let count = h.chain.count in
    let longer = length-append s.log.items (Add step ∷ []) in
    rw ended.logged (record {
      begins = begins_longer merged s.log.items step k h.chain.count h.begins;
      short = omega arith;
      derivation = derivation_law.next f s.log.items step h.chain.derivation next;
      refutes = derivation_law.refutes f s.log.items step h.chain.derivation next ended.empty;
    })

-- ---- what was learned

pub searching_learned : (clauses more : List Clause) (t u : TrailValue) (order after start : ℕ) (r : Learned) → IsSearching clauses t order → after ≡ order → IsAnalysed clauses t start r
    → IsRunning more u → more ≡ clauses ++ r.clause.items ∷ [] → u.variables ≡ t.variables → IsSearching more u after
searching_learned clauses more t u order after start r h same a running added variables = record {
  running = running;
  literals = rw (added, variables) (All-push (All (IsLiteralOf t.variables)) clauses r.clause.items h.literals a.literals);
  variables = same ∙ h.variables ∙ sym variables;
  small = rw variables h.small;
}

-- a step of equal parts
pub step_of : (s : StepValue) (id n : ℕ) (C D : Clause) (hints : List ℕ) → s ≡ record { id = id; literals = C; hints = hints } → id ≡ n → C ≡ D → s ≡ record { id = n; literals = D; hints = hints }
step_of s id n C D hints is same_id same = cc

pub has_learned : (old new : SolverState) (start : ℕ) (r : Learned) (s : StepValue) → IsAnalysed old.clauses.list old.trail start r
    → s ≡ record { id = length old.clauses.list + 1; literals = r.clause.items; hints = reverse r.hints.items } → length old.clauses.list < 2 ^ 59
    → new.log.items ≡ old.log.items ++ Add s ∷ [] → new.clauses.list ≡ old.clauses.list ++ r.clause.items ∷ [] → HasLearned old new
has_learned old new start r s a is few logged added = record {
  step = s;
  logged = logged;
  added = added ∙ ap (λ (t : StepValue). old.clauses.list ++ t.literals ∷ []) (sym is);
  id = ap (λ t. t.id) is;
  few = few;
  literals = subst (λ (t : StepValue). All (IsLiteralOf old.trail.variables) t.literals) (sym is) a.literals;
  derives = subst (Derives (held_of old.clauses.list)) (sym is) (a.derives (length old.clauses.list + 1));
  is_new = subst (λ (t : StepValue). IsNew old.clauses.list t.literals) (sym is) a.new;
}

pub has_ended : (clauses : List Clause) (before after : List LogItem) (hints : List ℕ) (s : StepValue) → IsRefuted clauses hints
    → s ≡ record { id = length clauses + 1; literals = []; hints = hints } → length clauses < 2 ^ 59 → after ≡ before ++ Add s ∷ [] → HasEnded clauses before after
has_ended clauses before after hints s r is few logged = record {
  step = s;
  logged = logged;
  id = ap (λ t. t.id) is;
  few = few;
  empty = ap (λ t. t.literals) is;
  derives = subst (Derives (held_of clauses)) (sym is) (r (length clauses + 1));
}

-- a search whose trail went on
pub search_found : (f : Formula) (merged : List LogItem) (k : ℕ) (s : SolverState) (t : TrailValue) (w : WatchesValue) (order : ℕ) → IsSearch f merged k s → IsSearching s.clauses.list t order
    → order ≡ s.order
    → IsSearch f merged k (record s { trail = t; watches = w; order = order })
search_found f merged k s t w order h searching same = record {
  searching = searching;
  variables = sym searching.variables ∙ same ∙ h.searching.variables ∙ h.variables;
  clauses = h.clauses;
  begins = h.begins;
  chain = h.chain;
}

pub moved_none : (s : SolverState) → IsSearching s.clauses.list s.trail s.order → HasMoved s s
moved_none s h = record { searching = h; variables = refl; clauses = refl; log = refl }

pub moved_again : (a b c : SolverState) → HasMoved a b → HasMoved b c → HasMoved a c
moved_again a b c one two = record {
  searching = two.searching;
  variables = two.variables ∙ one.variables;
  clauses = two.clauses ∙ one.clauses;
  log = two.log ∙ one.log;
}

pub moved_found : (s : SolverState) (t : TrailValue) (w : WatchesValue) (order : ℕ) → IsSearching s.clauses.list s.trail s.order → IsSearching s.clauses.list t order → order ≡ s.order
    → HasMoved s (record s { trail = t; watches = w; order = order })
moved_found s t w order h searching same = record {
  searching = searching;
  variables = sym searching.variables ∙ same ∙ h.variables;
  clauses = refl;
  log = refl;
}

-- a search whose trail went on or back
pub search_moved : (f : Formula) (merged : List LogItem) (k : ℕ) (old new : SolverState) → IsSearch f merged k old → HasMoved old new → IsSearch f merged k new
search_moved f merged k old new h m = record {
  searching = m.searching;
  variables = m.variables ∙ h.variables;
  clauses = m.clauses ∙ h.clauses ∙ ap (λ (l : LogValue). clauses_with f.clauses l.items) (sym m.log);
  begins = ap (λ (l : LogValue). take (length merged) l.items) m.log ∙ h.begins;
  chain = subst (λ (l : LogValue). IsConflictChain f (length merged) k l.items) (sym m.log) h.chain;
}

pub searching_closed : (clauses : List Clause) (t u : TrailValue) (order after m : ℕ) → IsSearching clauses t order → after ≡ order → m < length t.starts → u ≡ closed t m → IsSearching clauses u after
searching_closed clauses t u order after m h same m_low e = rw (e, same) (record {
  running = running_closed clauses t m h.running m_low;
  literals = h.literals;
  variables = h.variables;
  small = h.small;
})

-- the order keeps its variables
pub searching_ordered : (clauses : List Clause) (t : TrailValue) (order after : ℕ) → after ≡ order → IsSearching clauses t order → IsSearching clauses t after
searching_ordered clauses t order after same h = subst (IsSearching clauses t) (sym same) h

-- ---- values

pub closed_next : (trail : List ℤ) (v : ℕ) (l : ℤ) → l ≡ neg_ℤ (pos (v + 1)) → Holds trail l ⊎ Holds trail (neg_ℤ l) → Holds trail (pos (suc v)) ⊎ Holds trail (neg_ℤ (pos (suc v)))
closed_next trail v l is closed =
    let next : v + 1 ≡ suc v = omega arith in
    let here : l ≡ neg_ℤ (pos (suc v)) = is ∙ ap (λ n. neg_ℤ (pos n)) next in
    elim closed [
      | inl off ↦ inr (subst (Holds trail) here off)
      | inr on ↦ inl (subst (Holds trail) (ap neg_ℤ here ∙ neg_ℤ-neg_ℤ (pos (suc v))) on)
    ]

-- the values so far, and one more
pub values_next : (trail : List ℤ) (bits more : List Bool) (v : ℕ) (l : ℤ) (b : Bool) → length bits ≡ v
    → ((k : ℕ) → k < v → IsTrue (get_or bits k false) ↔ Holds trail (pos (suc k))) → l ≡ pos (v + 1) → (IsTrue b ↔ Holds trail l) → more ≡ bits ++ b ∷ []
    → (k : ℕ) → k < v + 1 → IsTrue (get_or more k false) ↔ Holds trail (pos (suc k))
values_next trail bits more v l b width each is says pushed k low = elim (cases_lt k v) [
  | inl below ↦
      let here : get_or more k false ≡ get_or bits k false = ap (λ xs. get_or xs k false) pushed ∙ get_or-append bits (b ∷ []) false k (omega arith) in
      rw here (each k below)
  | inr high ↦
      let last : k ≡ length bits = omega arith in
      let here : get_or more k false ≡ b = ap (λ xs. get_or xs k false) pushed ∙ ap (λ n. get_or (bits ++ b ∷ []) n false) last ∙ get_or-append_seam bits b [] false in
      let number : v + 1 ≡ suc k = omega arith in
      let same : l ≡ pos (suc k) = is ∙ ap pos number in
      rw here (subst (λ a. IsTrue b ↔ Holds trail a) same says)
]

-- ---- a model

-- a literal that holds is true
literal_true : (t : TrailValue) (bits : List Bool) (l : ℤ) → IsConsistent t.literals → AreValues t bits → IsLiteralOf t.variables l → Holds t.literals l
    → literal_value (by_place (λ place. get_or bits place false)) l ≡ true
literal_true t bits (pos zero) c v ok h = let some = ok.not_zero in absurd (omega arith)
literal_true t bits (pos (suc k)) c v ok h = let low = ok.within in (v.each k (omega arith)).1 h
literal_true t bits (negsuc k) c v ok h =
    let low = ok.within in
    let off : get_or bits k false ≡ false = false_from_ne_true _ (λ on. not_both t.literals (length t.literals) (length t.literals) (pos (suc k)) c ((v.each k (omega arith)).0 on) h) in
    ap not off

-- no literal is open
none_open : (t : TrailValue) (l : ℤ) → IsFull t → IsLiteralOf t.variables l → IsOpen (Holds t.literals) l → ⊥
none_open t (pos zero) full ok o = let some = ok.not_zero in omega arith
none_open t (pos (suc k)) full ok o = let low = ok.within in elim (full k (omega arith)) [ inl on ↦ o.not_true on | inr off ↦ o.not_false off ]
none_open t (negsuc k) full ok o = let low = ok.within in elim (full k (omega arith)) [ inl on ↦ o.not_false on | inr off ↦ o.not_true off ]

clause_true : (t : TrailValue) (bits : List Bool) (C : Clause) → IsConsistent t.literals → IsFull t → AreValues t bits → All (IsLiteralOf t.variables) C → IsSettledAt (Holds t.literals) C
    → clause_value (by_place (λ place. get_or bits place false)) C ≡ true
clause_true t bits C c full v ok (inr two) = absurd (none_open t two.one full (All-contains (IsLiteralOf t.variables) C two.one ok two.one_inside) two.one_open)
clause_true t bits C c full v ok (inl h) =
    let a : ℕ → Bool = by_place (λ place. get_or bits place false) in
    let inside = h.inside in
    let here : literal_value a h.literal ≡ true = literal_true t bits h.literal c v (All-contains (IsLiteralOf t.variables) C h.literal ok h.inside) h.holds in
    list_any_at (literal_value a) C inside.0 h.literal inside.1 (subst (λ l. literal_value a l ≡ true) (sym inside.2) here)

pub search_modelled : (f : Formula) (merged : List LogItem) (k : ℕ) (s : SolverState) (bits : List Bool) → IsSearch f merged k s → IsConsistent s.trail.literals → IsModelTrail s.clauses.list s.trail
    → AreValues s.trail bits → IsModel f bits
search_modelled f merged k s bits h c m v =
    let t : TrailValue = s.trail in
    let a : ℕ → Bool = by_place (λ place. get_or bits place false) in
    let all : All (λ C. clause_value a C ≡ true) s.clauses.list = λ j d within.
    clause_true t bits (get_or s.clauses.list j d) c m.full v (h.searching.literals j d within) (m.settled j d within) in
    record {
      width = v.width ∙ h.variables;
      satisfies = list_all-from_AllPass (clause_value a) f.clauses (λ j d within.
          All-contains (λ C. clause_value a C ≡ true) s.clauses.list (get_or f.clauses j d) all
          (subst (λ cs. Contains cs (get_or f.clauses j d)) (sym h.clauses)
          (Contains-append_left f.clauses (added_clauses s.log.items) (get_or f.clauses j d) (All-contains_itself f.clauses j d within))));
    }
