-- Where merging begins and ends.
use Rattle.std.proofs.Common.{◌≡◌, ℕ, zero, suc, ◌+◌, ◌<◌, ◌≤◌, ◌^◌, List, [], ◌∷◌, ◌++◌, length, get_or, ap, subst, sym, ◌∙◌, inl, inr, arith}
use Rattle.std.specs.Prelude.{All, Contains}
use Rattle.std.proofs.lemmas.Bool.{cases_lt, cases_eq}
use Rattle.std.proofs.lemmas.List.Elements.{All-nil}
use Rattle.std.proofs.lemmas.List.{get_or_default}
use Rattle.semantics.specs.Net.{NetValue, input_count, table_count, signal_count, IsGroundedIn}
use Rattle.proof_semantics.specs.Formula.{goal_of}
use Rattle.proof_semantics.specs.Logs.{IsDerivation}
use Rattle.proof_semantics.specs.Merges.{IsPair, AreMadeEqual, IsMergeLog}
use Rattle.proof_semantics.specs.Alike.{IsFirstAlike}
use Rattle.proof_semantics.specs.Conflicts.{added_clauses, clauses_with}
use Rattle.proof_semantics.proofs.Alike.{alike-input, alike-to_form}
use Rattle.proof_semantics.specs.Clauses.{Clause}
use Rattle.merge_log.specs.Chains.{first_of}
use Rattle.merge_log.specs.Ids.{HasId, forth, back}
use Rattle.merge_log.specs.Levels.{AreLevels}
use Rattle.merge_log.specs.Merging.{MergingValue, IsDone, IsMerging}

-- a clause with an id past the formula's is added
contains_added : (formula added : List Clause) (id : ℕ) (clause : Clause) → length formula < id → HasId (formula ++ added) id clause → Contains added clause
contains_added [] added id clause past (place, is, within, here) = (place, within, get_or_default added place clause [] within ∙ here)
contains_added (x ∷ formula) added zero clause past h = absurd (omega (arith, past))
contains_added (x ∷ formula) added (suc id) clause past (zero, is, within, here) = absurd (omega (arith, past, is))
contains_added (x ∷ formula) added (suc id) clause past (suc place, is, within, here) =
    contains_added formula added id clause (omega (arith, past)) (place, omega (arith, is), omega (arith, within), here)

-- where the same signals are taken, the same holds of the merging
pub merging_same : (N : NetValue) (levels : List ℕ) (level t next u : ℕ) (g : MergingValue) → ((s : ℕ) → IsDone N levels level t s → IsDone N levels next u s)
    → ((s : ℕ) → IsDone N levels next u s → IsDone N levels level t s) → IsMerging N levels level t g → IsMerging N levels next u g
merging_same N levels level t next u g to from h = record {
  derivation = h.derivation;
  pairs = h.pairs;
  merged = h.merged;
  behind = h.behind;
  count = h.count;
  alone = λ s not_done. h.alone s (λ done. not_done (to s done));
  earlier = λ s done. h.earlier s (from s done);
  alike = λ s done. h.alike s (from s done);
  same = λ s v done done_v. h.same s v (from s done) (from v done_v);
  forms_count = h.forms_count;
  kinds = λ k low. let kind = h.kinds k low in record { table = kind.table; done = to (input_count N + get_or g.tables k 0) kind.done; alone = kind.alone; form = kind.form };
  all = λ i low done. h.all i low (from (input_count N + i) done);
}

-- a table of another level is passed over
pub merging_passed : (N : NetValue) (levels : List ℕ) (level t : ℕ) (g : MergingValue) → (get_or levels (input_count N + t) 0 ≡ level → ⊥) → IsMerging N levels level t g
    → IsMerging N levels level (t + 1) g
merging_passed N levels level t g other h =
    merging_same N levels level t level (t + 1) g
    (λ s done. (done.0, elim done.1 [ inl lower ↦ inl lower | inr before ↦ inr (before.0, omega (arith, before.1)) ]))
    (λ s done. (
      done.0,
      elim done.1 [
        | inl lower ↦ inl lower
        | inr before ↦ elim (cases_eq s (input_count N + t)) [
          | inl is ↦ absurd (other (ap (λ x. get_or levels x 0) (sym is) ∙ before.0))
          | inr apart ↦ inr (before.0, omega (arith, before.1, apart))
        ]
      ],
    )) h

-- a whole level is taken
pub merging_level : (N : NetValue) (levels : List ℕ) (level t : ℕ) (g : MergingValue) → AreLevels (input_count N) N.tables levels → table_count N ≤ t → IsMerging N levels level t g
    → IsMerging N levels (level + 1) 0 g
merging_level N levels level t g are all h =
    merging_same N levels level t (level + 1) 0 g
    (λ s done. (done.0, elim done.1 [ inl lower ↦ inl (omega (arith, lower)) | inr before ↦ inl (omega (arith, before.0)) ]))
    (λ s done. (
      done.0,
      elim done.1 [
        | inl lower ↦ elim (cases_lt (get_or levels s 0) level) [
          | inl below ↦ inl below
          | inr here ↦ inr (omega (arith, lower, here), omega (arith, done.0, all))
        ]
        | inr before ↦ elim (cases_lt (get_or levels s 0) level) [
          | inl below ↦ inl below
          | inr here ↦ absurd (no_input s before)
        ]
      ],
    )) h
  where
    no_input : (s : ℕ) → (get_or levels s 0 ≡ level + 1) × (s < input_count N + 0) → ⊥
    no_input s before = let least = (are s (omega (arith, before.1))).least 0 (omega (arith, before.1)) in omega (arith, least, before.0)

-- only the inputs are taken
pub merging_started : (N : NetValue) (levels : List ℕ) (g : MergingValue) → AreLevels (input_count N) N.tables levels → length (goal_of N).clauses < 2 ^ 63 → g.log ≡ [] → g.forms ≡ []
    → g.tables ≡ [] → length g.merged.firsts ≡ signal_count N → ((s : ℕ) → first_of g.merged s ≡ s) → IsMerging N levels 1 0 g
merging_started N levels g are short log forms tables count alone = record {
  derivation = subst (IsDerivation (goal_of N)) (sym log) (record { sound = tt; in_turn = tt; short = omega (arith, short) });
  pairs = subst (λ l. All IsPair (added_clauses l)) (sym log) (All-nil IsPair);
  merged = λ s other. absurd (other (alone s));
  behind = λ s other. absurd (other (alone s));
  count = count;
  alone = λ s not_done. alone s;
  earlier = λ s done. omega (arith, alone s);
  alike = λ s done. (0, sym (alone s));
  same = λ s u done done_u like. alone s ∙ alike-input (input_count N) N.tables s u (input_only s done) like ∙ sym (alone u);
  forms_count = ap length forms ∙ sym (ap length tables);
  kinds = λ k low. absurd (omega (arith, low, ap length tables));
  all = λ i low done is. absurd (let input = input_only (input_count N + i) done in omega (arith, input));
}
  where
    input_only : (s : ℕ) → IsDone N levels 1 0 s → s < input_count N
    input_only s (within, inl lower) =
        let none : get_or levels s 0 ≡ 0 = omega (arith, lower) in subst (λ l. IsGroundedIn (input_count N) N.tables l s) none (are s within).grounded
    input_only s (within, inr before) = omega (arith, before.1)

-- all tables are taken
pub merging_ended : (N : NetValue) (levels : List ℕ) (depth : ℕ) (g : MergingValue) → ((s : ℕ) → get_or levels s 0 ≤ depth) → IsMerging N levels (depth + 1) 0 g → IsMergeLog N g.log
merging_ended N levels depth g most h = record {
  derivation = h.derivation;
  pairs = h.pairs;
  merged = λ s u f. made s u f (both_signals s u f);
}
  where
    both_signals : (s u : ℕ) → IsFirstAlike (input_count N) N.tables s u → (s < signal_count N) × (u < signal_count N)
    both_signals s u f =
        elim (alike-to_form (input_count N) N.tables s u f.alike) [ inl same ↦ absurd (omega (arith, same, f.earlier)) | inr form ↦ (form.s_table.1, form.u_table.1) ]

    done : (s : ℕ) → s < signal_count N → IsDone N levels (depth + 1) 0 s
    done s low = (low, inl (omega (arith, most s)))

    made : (s u : ℕ) → IsFirstAlike (input_count N) N.tables s u → (s < signal_count N) × (u < signal_count N) → AreMadeEqual (added_clauses g.log) s u
    made s u f within =
        let s_done = done s within.0 in
        let u_done = done u within.1 in
        let same = h.same s u s_done u_done f.alike in
        let low = h.earlier u u_done in
        let high : u ≤ first_of g.merged s =
        elim (cases_lt (first_of g.merged s) u) [ inl before ↦ absurd (f.first (first_of g.merged s) before (h.alike s s_done)) | inr past ↦ past ] in
        let is : first_of g.merged s ≡ u = omega (arith, same, low, high) in
        let other : first_of g.merged s ≡ s → ⊥ = λ e. omega (arith, e, is, f.earlier) in
        let both = h.merged s other in
        let past = h.behind s other in
        record {
          forth = contains_added (goal_of N).clauses (added_clauses g.log) (get_or g.merged.ids s 0) _ past
              (subst (λ v. HasId (clauses_with (goal_of N).clauses g.log) (get_or g.merged.ids s 0) (forth s v)) is both.0);
          back = contains_added (goal_of N).clauses (added_clauses g.log) (suc (get_or g.merged.ids s 0)) _ (omega (arith, past))
              (subst (λ v. HasId (clauses_with (goal_of N).clauses g.log) (suc (get_or g.merged.ids s 0)) (back s v)) is both.1);
        }
