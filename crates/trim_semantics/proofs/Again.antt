-- The trimmed log is its own trimmed log, and the laws.
use Rattle.std.proofs.Common.{◌≡◌, ℕ, Bool, true, false, cond, List, [], ◌∷◌, ◌++◌, map, refl, ap, subst, sym, ◌∙◌, Option, Some}
use Rattle.proof_semantics.specs.declared.item.Item.TheVariants.{Add, Remove}
use Rattle.proof_semantics.specs.Clauses.{Clause}
use Rattle.proof_semantics.specs.Logs.{StepValue, LogItem, Refutes}
use Rattle.trim_semantics.specs.Kept.{is_empty_clause, root_of, IsKept}
use Rattle.trim_semantics.specs.Trimmed.{IsLastToName, AreEndedAfter, removal_of, IsListOf, IsTrimmed}
use Rattle.trim_semantics.specs.Trimming.{is_named, kept_steps, ended_after, with_removals, trimmed}
use Rattle.trim_semantics.specs.TrimLaws.{TrimmedLaw, KeptLaw}
use Rattle.trim_semantics.proofs.Refuting.{trimmed_refutes}
use Rattle.trim_semantics.proofs.Keeping.{kept_added, kept_contains, has_root, none_behind, in_order}
use Rattle.trim_semantics.proofs.Trims.{is_trimmed, only_trimmed, added_kept}

-- ---- the root stays

over_removal : (ids : List ℕ) (rest : List LogItem) → root_of (removal_of ids ++ rest) ≡ root_of rest
over_removal [] rest = refl
over_removal (id ∷ ids) rest = refl

root_with : (ids : List ℕ) (s : StepValue) (kept : List StepValue) (empty named : Bool) (rest : Option StepValue) → is_empty_clause s.literals ≡ empty
    → root_of (with_removals ids kept) ≡ rest → root_of (with_removals ids (cond empty (s ∷ []) (cond named (s ∷ kept) kept))) ≡ cond empty (Some s) rest
root_with ids s kept true named rest e h = ap (λ t. cond t (Some s) (root_of [])) e
root_with ids s kept false true rest e h =
    ap (λ t. cond t (Some s) (root_of (removal_of (ended_after ids s kept) ++ with_removals ids kept))) e ∙ over_removal (ended_after ids s kept) (with_removals ids kept) ∙ h
root_with ids s kept false false rest e h = h

root_stays : (ids : List ℕ) (log : List LogItem) → root_of (with_removals ids (kept_steps log)) ≡ root_of log
root_stays ids [] = refl
root_stays ids (Add s ∷ log) = root_with ids s (kept_steps log) (is_empty_clause s.literals) (is_named (kept_steps log) s.id) (root_of log) refl (root_stays ids log)
root_stays ids (Remove gone ∷ log) = root_stays ids log

-- ---- what is kept stays, and nothing else is kept

same_root : (log : List LogItem) → root_of (trimmed log) ≡ root_of log
same_root log = root_stays (map (λ s. s.id) (kept_steps log)) log

stays_kept : (formula : List Clause) (log : List LogItem) → Refutes formula log → (s : StepValue) → IsKept log s → IsKept (trimmed log) s
stays_kept formula log r s (IsKept.root t e) = IsKept.root t (same_root log ∙ e)
stays_kept formula log r s (IsKept.named t u a k n) = IsKept.named t u ((added_kept formula log r t).1 (IsKept.named t u a k n)) (stays_kept formula log r u k) n

was_kept : (formula : List Clause) (log : List LogItem) → Refutes formula log → (s : StepValue) → IsKept (trimmed log) s → IsKept log s
was_kept formula log r s k = (added_kept formula log r s).0 (kept_added (trimmed log) s (kept_contains formula (trimmed log) (trimmed_refutes formula log r) s k))

module _ (formula : List Clause) (log : List LogItem) (r : Refutes formula log) where
  last_stays : (s t : StepValue) → IsLastToName log s t → IsLastToName (trimmed log) s t
  last_stays s t h = record { kept = stays_kept formula log r t h.kept; named = h.named; last = λ u k n. h.last u (was_kept formula log r u k) n }

  was_last : (s t : StepValue) → IsLastToName (trimmed log) s t → IsLastToName log s t
  was_last s t h = record { kept = was_kept formula log r t h.kept; named = h.named; last = λ u k n. h.last u (stays_kept formula log r u k) n }

  ended_stays : (s : StepValue) (ids : List ℕ) → AreEndedAfter log s ids → AreEndedAfter (trimmed log) s ids
  ended_stays s ids h = record {
    exactly = λ id. (
      (λ m. let e = (h.exactly id).0 m in ((λ root. e.0 (sym (same_root log) ∙ root)), (e.1.0, e.1.1, last_stays s e.1.0 e.1.2))),
      (λ e. (h.exactly id).1 ((λ root. e.0 (same_root log ∙ root)), (e.1.0, e.1.1, was_last s e.1.0 e.1.2))),
    );
    in_order = h.in_order;
  }

  list_stays : (steps : List StepValue) (short : List LogItem) → IsListOf log steps short → IsListOf (trimmed log) steps short
  list_stays [] short h = h
  list_stays (s ∷ steps) short (ids, rest, ended, e, more) = (ids, rest, ended_stays s ids ended, e, list_stays steps rest more)

  trimmed_again : trimmed (trimmed log) ≡ trimmed log
  trimmed_again =
      let h = is_trimmed formula log r in
      sym (only_trimmed formula (trimmed log) (trimmed_refutes formula log r) (trimmed log) (record {
        steps = h.steps;
        kept = record {
          exactly = λ s. ((λ m. stays_kept formula log r s ((h.kept.exactly s).0 m)), (λ k. (h.kept.exactly s).1 (was_kept formula log r s k)));
          in_order = h.kept.in_order;
        };
        lists = list_stays h.steps (trimmed log) h.lists;
      }))

-- ---- the laws

pub trimmed_law : TrimmedLaw
trimmed_law = record {
  exactly = λ formula log r short. (only_trimmed formula log r short, λ e. subst (IsTrimmed log) (sym e) (is_trimmed formula log r));
  refutes = trimmed_refutes;
  again = trimmed_again;
}

pub kept_law : KeptLaw
kept_law = record {
  in_order = in_order;
  root = has_root;
  none_behind = none_behind;
  added = added_kept;
  reached = λ formula log r s m. stays_kept formula log r s ((added_kept formula log r s).0 m);
}
