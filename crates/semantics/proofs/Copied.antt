-- Tables appended and copied behind others.
use Rattle.std.proofs.Common.{◌≡◌, ℕ, suc, ◌+◌, ◌-◌, ◌<◌, Bool, false, List, [], ◌∷◌, ◌++◌, length, get_or, refl, ap, sym, subst, ◌∙◌, inl, inr, arith}
use Rattle.std.specs.List.{AllByRecursion}
use Rattle.std.proofs.lemmas.Bool.{cases_lt}
use Rattle.std.proofs.lemmas.List.{length-append, length_push, get_or-append-add, get_or_push}
use Rattle.semantics.specs.Net.{TableValue, no_table, table_at, IsGroundedIn, IsAcyclic}
use Rattle.semantics.specs.Value.{value_of}
use Rattle.semantics.proofs.Values.{IsGroundedIn-signal}
use Rattle.semantics.specs.Embedding.{IsEmbedded}
use Rattle.semantics.specs.Copies.{IsCopiedBehind}
use Rattle.semantics.proofs.Depends.{each_weaker}
use Rattle.semantics.proofs.Embedded.{embedded-values, appended-embedded, appended-values}
use Rattle.semantics.proofs.Ordered.{acyclic_from_steps}
use Rattle.semantics.proofs.Grounding.{IsGroundedIn-table, embedded-grounded}

-- signals of acyclic tables stay grounded where tables are appended
pub appended-grounded : (n : ℕ) (tables more : List TableValue) → IsAcyclic n tables → (s : ℕ) → s < n + length tables → IsGroundedIn n (tables ++ more) (length tables + 0) s
appended-grounded n tables more acyclic s within =
    embedded-grounded n tables n (tables ++ more) (λ p. p) (appended-embedded n tables more) 0 (λ i low. low) (length tables) s (IsGroundedIn-signal n tables acyclic s within)

pub appended-acyclic : (n : ℕ) (tables : List TableValue) (new : TableValue) → IsAcyclic n tables → AllByRecursion (λ s. s < n + length tables) new.pins → IsAcyclic n (tables ++ new ∷ [])
appended-acyclic n tables new acyclic reads =
    let old : ((s : ℕ) → s < n + length tables → IsGroundedIn n (tables ++ new ∷ []) (length tables + 0) s) = appended-grounded n tables (new ∷ []) acyclic in
    let last : table_at (tables ++ new ∷ []) (length tables) ≡ new = get_or_push tables new no_table (length tables) refl in
    let pins : AllByRecursion (IsGroundedIn n (tables ++ new ∷ []) (length tables + 0)) new.pins =
    each_weaker (λ s. s < n + length tables) (IsGroundedIn n (tables ++ new ∷ []) (length tables + 0)) new.pins old reads in
    let own : IsGroundedIn n (tables ++ new ∷ []) (suc (length tables + 0)) (n + length tables) =
    IsGroundedIn-table n (tables ++ new ∷ []) (length tables + 0) (length tables) (omega (arith, length_push tables new))
    (subst (λ u. AllByRecursion (IsGroundedIn n (tables ++ new ∷ []) (length tables + 0)) u.pins) (sym last) pins) in
    acyclic_from_steps n (tables ++ new ∷ [])
    (λ i within. elim (cases_lt i (length tables)) [
      | inl low ↦ (length tables + 0, old (n + i) (omega arith))
      | inr high ↦
          let place : n + length tables ≡ n + i = omega (arith, length_push tables new) in
          (suc (length tables + 0), subst (IsGroundedIn n (tables ++ new ∷ []) (suc (length tables + 0))) place own)
    ])

pub copied-embedded : (m : ℕ) (before : List TableValue) (n : ℕ) (tables copies : List TableValue) (f : ℕ → ℕ) → IsCopiedBehind m before n tables copies f → IsEmbedded n tables m (before ++ copies) f
copied-embedded m before n tables copies f h = record {
  input = λ s low. omega (arith, h.input s low, length-append before copies);
  table = λ i within.
      let same : table_at (before ++ copies) (length before + i) ≡ table_at copies i = get_or-append-add before copies i no_table in
      record {
        place = length before + i;
        is = h.table i within;
        within = omega (arith, length-append before copies, h.count);
        pins = ap (λ t. t.pins) same ∙ h.pins i within;
        rows = ap (λ t. t.rows) same ∙ h.rows i within;
        plane = ap (λ t. t.plane) same ∙ h.plane i within;
      };
}

pub copied-acyclic : (m : ℕ) (before : List TableValue) (n : ℕ) (tables copies : List TableValue) (f : ℕ → ℕ) → IsAcyclic m before → IsAcyclic n tables → IsCopiedBehind m before n tables copies f
    → IsAcyclic m (before ++ copies)
copied-acyclic m before n tables copies f acyclic acyclic' h =
    acyclic_from_steps m (before ++ copies)
    (λ i within. elim (cases_lt i (length before)) [
      | inl low ↦ (length before + 0, appended-grounded m before copies acyclic (m + i) (omega arith))
      | inr high ↦
          let inside : i - length before < length tables = omega (arith, length-append before copies, h.count) in
          let place : f (n + (i - length before)) ≡ m + i = (let sum : m + (length before + (i - length before)) ≡ m + i = omega arith in h.table (i - length before) inside ∙ sum) in
          let there : IsGroundedIn m (before ++ copies) (length tables + (length before + 0)) (f (n + (i - length before))) =
          embedded-grounded n tables m (before ++ copies) f (copied-embedded m before n tables copies f h) (length before + 0)
          (λ p low. appended-grounded m before copies acyclic (f p) (h.input p low)) (length tables) (n + (i - length before)) (acyclic' (i - length before) inside) in
          (length tables + (length before + 0), subst (IsGroundedIn m (before ++ copies) (length tables + (length before + 0))) place there)
    ])

pub copied-values : (m : ℕ) (before : List TableValue) (n : ℕ) (tables copies : List TableValue) (f : ℕ → ℕ) → IsAcyclic m before → IsAcyclic n tables → IsCopiedBehind m before n tables copies f
    → (x y : List Bool) → ((i : ℕ) → i < n → get_or y i false ≡ value_of m before x (f i)) → (s : ℕ) → s < n + length tables → value_of m (before ++ copies) x (f s) ≡ value_of n tables y s
copied-values m before n tables copies f acyclic acyclic' h x y inputs =
    let whole : IsAcyclic m (before ++ copies) = copied-acyclic m before n tables copies f acyclic acyclic' h in
    embedded-values n tables m (before ++ copies) f x y acyclic' whole (copied-embedded m before n tables copies f h)
    (λ i low. inputs i low ∙ sym (appended-values m before copies x acyclic whole (f i) (h.input i low)))
