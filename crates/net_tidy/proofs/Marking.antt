-- What is marked, and the flags that are raised by it.
use Rattle.std.proofs.Common.{◌≡◌, ℕ, zero, suc, ◌+◌, ◌<◌, ◌≤◌, Bool, true, false, ◌||◌, eqb, List, [], ◌∷◌, length, get_or, set, drop, replicate, refl, ap, sym, ◌∙◌, inl, inr, arith}
use Rattle.std.proofs.Common.{get_or-set_same, get_or-set_other}
use Rattle.std.specs.List.{list_any}
use Rattle.std.proofs.lemmas.Bool.{cases_eq, ne_eqb, eq-eqb, false≢true}
use Rattle.std.proofs.lemmas.List.{drop_more, drop_all, get_or-replicate, length-replicate}
use Rattle.semantics.specs.Net.{TableValue, NetValue, no_table, table_at, table_count}
use Rattle.chain_semantics.specs.TidyRules.{has, is_read}
use Rattle.chain_semantics.specs.Tidy.{IsTidiedFrom}
use Rattle.chain_semantics.specs.Tidy.IsReachedFrom.{start}
use Rattle.net_tidy.specs.Flags.{IsFlagged}
use Rattle.net_tidy.proofs.Stepping.{tidy_by_rules}

or_true : (a : Bool) → (a || true) ≡ true
or_true true = refl
or_true false = refl

or_false : (a : Bool) → (a || false) ≡ a
or_false true = refl
or_false false = refl

or_swap : (a b c : Bool) → ((a || b) || c) ≡ (b || (a || c))
or_swap true true c = refl
or_swap true false c = refl
or_swap false true c = refl
or_swap false false c = refl

-- one more signal is marked
pub mark_step : (signals : List ℕ) (marks : List Bool) (i p s : ℕ) (whole : Bool) → i < length signals → p ≡ get_or signals i 0 → p < length marks
    → (has (drop i signals) s || get_or marks s false) ≡ whole → (has (drop (i + 1) signals) s || get_or (set marks p true) s false) ≡ whole
mark_step signals marks i p s whole low is room before =
    let rest : Bool = has (drop (i + 1) signals) s in
    let split : has (drop i signals) s ≡ (eqb s p || rest) = ap (λ l. has l s) (drop_more signals i 0 low) ∙ ap (λ k. eqb s k || rest) (sym is) in
    elim (cases_eq s p) [
      | inl e ↦
          ap (λ x. rest || x) (ap (λ k. get_or (set marks p true) k false) e ∙ get_or-set_same marks p true false room) ∙ or_true rest
          ∙ sym (sym before ∙ ap (λ x. x || get_or marks s false) (split ∙ ap (λ x. x || rest) (eq-eqb s p e)))
      | inr other ↦
          ap (λ x. rest || x) (get_or-set_other marks p s true false other) ∙ sym (ap (λ x. x || get_or marks s false) (split ∙ ap (λ x. x || rest) (ne_eqb s p other))) ∙ before
    ]

pub mark_end : (signals : List ℕ) (marks : List Bool) (i s : ℕ) (whole : Bool) → length signals ≤ i → (has (drop i signals) s || get_or marks s false) ≡ whole → get_or marks s false ≡ whole
mark_end signals marks i s whole past before = sym (ap (λ l. has l s || get_or marks s false) (drop_all i signals past)) ∙ before

none_marked : (n s : ℕ) → get_or (replicate n false) s false ≡ false
none_marked zero s = refl
none_marked (suc n) zero = refl
none_marked (suc n) (suc s) = none_marked n s

-- nothing else is marked
pub marked_alone : (signals all : List ℕ) (old new : List Bool) (n s : ℕ) → old ≡ replicate n false → signals ≡ all → get_or new s false ≡ (has signals s || get_or old s false)
    → get_or new s false ≡ has all s
marked_alone signals all old new n s none is marked =
    marked ∙ ap (λ x. has signals s || x) (ap (λ l. get_or l s false) none ∙ none_marked n s) ∙ or_false (has signals s) ∙ ap (λ l. has l s) is

-- the pins of one more table are marked
pub read_step : (tables : List TableValue) (old new : List Bool) (pins : List ℕ) (t s : ℕ) → t < length tables → pins ≡ (table_at tables t).pins
    → get_or new s false ≡ (has pins s || get_or old s false) → (is_read (drop t tables) s || get_or old s false) ≡ is_read tables s
    → (is_read (drop (t + 1) tables) s || get_or new s false) ≡ is_read tables s
read_step tables old new pins t s low is marked before =
    let rest : Bool = is_read (drop (t + 1) tables) s in
    let split : is_read (drop t tables) s ≡ (has pins s || rest) =
    ap (λ l. is_read l s) (drop_more tables t no_table low) ∙ ap (λ ps. has ps s || rest) (sym is) in
    ap (λ x. rest || x) marked ∙ sym (or_swap (has pins s) rest (get_or old s false)) ∙ sym (ap (λ x. x || get_or old s false) split) ∙ before

pub read_end : (tables : List TableValue) (marks : List Bool) (t s : ℕ) → length tables ≤ t → (is_read (drop t tables) s || get_or marks s false) ≡ is_read tables s
    → get_or marks s false ≡ is_read tables s
read_end tables marks t s past before = sym (ap (λ l. is_read l s || get_or marks s false) (drop_all t tables past)) ∙ before

pub read_start : (tables : List TableValue) (marks : List Bool) (s : ℕ) → get_or marks s false ≡ false → (is_read tables s || get_or marks s false) ≡ is_read tables s
read_start tables marks s clear = ap (λ x. is_read tables s || x) clear ∙ or_false (is_read tables s)

-- ---- flags

pub flagged_raised : (N : NetValue) (flags : List Bool) → flags ≡ replicate (table_count N) true → IsFlagged N flags
flagged_raised N flags is = record {
  count = ap length is ∙ length-replicate (table_count N) true;
  rests = λ i within down. absurd (false≢true (sym down ∙ ap (λ l. get_or l i true) is ∙ get_or-replicate (table_count N) i true true within));
}

none_raised : (flags : List Bool) (i : ℕ) → list_any (λ flag. flag) flags ≡ false → i < length flags → get_or flags i true ≡ false
none_raised [] i none low = absurd (omega arith)
none_raised (true ∷ flags) i none low = absurd (false≢true (sym none))
none_raised (false ∷ flags) zero none low = refl
none_raised (false ∷ flags) (suc i) none low = none_raised flags i none (omega arith)

-- where no flag is raised, the net is tidy
pub tidied_already : (N : NetValue) (flags : List Bool) (raised : Bool) → IsFlagged N flags → raised ≡ list_any (λ flag. flag) flags → raised ≡ false → IsTidiedFrom N N
tidied_already N flags raised h is none = record {
  reached = start;
  tidy = tidy_by_rules N (λ i within. h.rests i within (none_raised flags i (sym is ∙ none) (omega (arith, within, h.count))));
}
