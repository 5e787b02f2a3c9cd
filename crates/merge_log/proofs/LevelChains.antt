-- The chains of the tables of each level, and merging along them.
use Rattle.std.proofs.Common.{◌≡◌, ℕ, zero, suc, ◌+◌, ◌-◌, ◌<◌, ◌≤◌, List, length, get_or, set, ap, subst, sym, ◌∙◌, inl, inr, arith, get_or-set_same, get_or-set_other, length-set}
use Rattle.std.proofs.lemmas.Bool.{cases_lt, cases_eq}
use Rattle.semantics.specs.Net.{NetValue, input_count, table_count}
use Rattle.merge_log.specs.LevelLists.{IsFirstFrom, AreLevelLists}
use Rattle.merge_log.specs.Merging.{MergingValue, IsMerging}
use Rattle.merge_log.proofs.Ends.{merging_same, merging_ended}
use Rattle.proof_semantics.specs.Merges.{IsMergeLog}

module _ (n count : ℕ) (levels : List ℕ) where
  -- no table from the last on
  pub lists_none : (firsts nexts : List ℕ) → length nexts ≡ count → ((level : ℕ) → level < length firsts → get_or firsts level 0 ≡ count)
      → AreLevelLists n count (record { levels = levels; firsts = firsts; nexts = nexts }) count
  lists_none firsts nexts long none = record {
    within = omega arith;
    nexts_count = long;
    firsts_are = λ level low. let is = none level low in record {
      since = omega (arith, is);
      within = omega (arith, is);
      level_is = λ first. absurd (omega (arith, is, first));
      others = λ t since before same. omega (arith, is, since, before);
    };
    nexts_are = λ t since before. absurd (omega (arith, since, before));
  }

  -- the table before these becomes the first of its level
  pub lists_more : (v : ℕ) (firsts nexts : List ℕ) → v < count → get_or levels (n + v) 0 < length firsts → AreLevelLists n count (record { levels = levels; firsts = firsts; nexts = nexts }) (v + 1)
      → AreLevelLists n count (record {
        levels = levels;
        firsts = set firsts (get_or levels (n + v) 0) v;
        nexts = set nexts v (get_or firsts (get_or levels (n + v) 0) 0);
      }) v
  lists_more v firsts nexts low deep h = record {
    within = omega (arith, low);
    nexts_count = length-set nexts v _ ∙ h.nexts_count;
    firsts_are = λ level within. elim (cases_eq level own) [
      | inl is ↦ subst (λ first. IsFirstFrom n count levels level v first) (sym (ap (λ at. get_or (set firsts own v) at 0) is ∙ get_or-set_same firsts own v 0 deep)) (itself level is)
      | inr apart ↦ subst (λ first. IsFirstFrom n count levels level v first) (sym (get_or-set_other firsts own level v 0 apart))
          (earlier level apart (h.firsts_are level (let same = length-set firsts own v in omega (arith, same, within))))
    ];
    nexts_are = λ t since before. elim (cases_eq t v) [
      | inl is ↦ subst (λ first. IsFirstFrom n count levels (get_or levels (n + t) 0) (t + 1) first)
          (sym (ap (λ at. get_or (set nexts v (get_or firsts own 0)) at 0) is ∙ get_or-set_same nexts v (get_or firsts own 0) 0 (omega (arith, h.nexts_count, low))))
          (subst (λ u. IsFirstFrom n count levels (get_or levels (n + u) 0) (u + 1) (get_or firsts own 0)) (sym is) (h.firsts_are own deep))
      | inr apart ↦ subst (λ first. IsFirstFrom n count levels (get_or levels (n + t) 0) (t + 1) first) (sym (get_or-set_other nexts v t (get_or firsts own 0) 0 apart))
          (h.nexts_are t (omega (arith, since, apart)) before)
    ];
  }
    where
      own : ℕ
      own = get_or levels (n + v) 0

      itself : (level : ℕ) → level ≡ own → IsFirstFrom n count levels level v v
      itself level is = record {
        since = omega arith;
        within = omega (arith, low);
        level_is = λ first. sym is;
        others = λ t since before same. omega (arith, since, before);
      }

      earlier : (level : ℕ) → (level ≡ own → ⊥) → {first : ℕ} → IsFirstFrom n count levels level (v + 1) first → IsFirstFrom n count levels level v first
      earlier level apart f = record {
        since = omega (arith, f.since);
        within = f.within;
        level_is = f.level_is;
        others = λ t since before same. elim (cases_eq t v) [
          | inl is ↦ apart (sym same ∙ ap (λ u. get_or levels (n + u) 0) is)
          | inr other ↦ f.others t (omega (arith, since, other)) before same
        ];
      }

-- tables of other levels are passed over
pub merging_skipped : (N : NetValue) (levels : List ℕ) (level t next : ℕ) (g : MergingValue) → t ≤ next
    → ((u : ℕ) → t ≤ u → u < next → get_or levels (input_count N + u) 0 ≡ level → ⊥) → IsMerging N levels level t g → IsMerging N levels level next g
merging_skipped N levels level t next g on others h =
    merging_same N levels level t level next g
    (λ s done. (done.0, elim done.1 [ inl lower ↦ inl lower | inr before ↦ inr (before.0, omega (arith, before.1, on)) ]))
    (λ s done. (
      done.0,
      elim done.1 [
        | inl lower ↦ inl lower
        | inr before ↦ elim (cases_lt s (input_count N + t)) [
          | inl already ↦ inr (before.0, already)
          | inr past ↦ absurd (others (s - input_count N) (omega (arith, past)) (omega (arith, past, before.1))
              (let back : input_count N + (s - input_count N) ≡ s = omega (arith, past) in ap (λ x. get_or levels x 0) back ∙ before.0))
        ]
      ],
    )) h

-- it is also the first from itself on
pub first_from_itself : (n count : ℕ) (levels : List ℕ) (level from first : ℕ) → IsFirstFrom n count levels level from first → IsFirstFrom n count levels level first first
first_from_itself n count levels level from first f = record {
  since = omega arith;
  within = f.within;
  level_is = f.level_is;
  others = λ t since before same. omega (arith, since, before);
}

-- merging goes on at the first table of its level from `from` on
pub chain_next : (N : NetValue) (levels : List ℕ) (level from first : ℕ) (g : MergingValue) → IsFirstFrom (input_count N) (table_count N) levels level from first → IsMerging N levels level from g
    → IsFirstFrom (input_count N) (table_count N) levels level first first × IsMerging N levels level first g
chain_next N levels level from first g f h =
    (first_from_itself (input_count N) (table_count N) levels level from first f, merging_skipped N levels level from first g f.since (λ u since before same. f.others u since before same) h)

-- all levels below this one are taken, and no signal has it or a higher one
pub merging_all : (N : NetValue) (levels : List ℕ) (level : ℕ) (g : MergingValue) → ((s : ℕ) → get_or levels s 0 < level) → IsMerging N levels level 0 g → IsMergeLog N g.log
merging_all N levels zero g below h = absurd (omega (arith, below 0))
merging_all N levels (suc depth) g below h =
    merging_ended N levels depth g (λ s. omega (arith, below s)) (subst (λ l. IsMerging N levels l 0 g) (let same : suc depth ≡ depth + 1 = omega arith in same) h)
