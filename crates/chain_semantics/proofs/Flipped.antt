-- The flipped values, and that each list whose new table has the opposite value has them.
use Rattle.std.proofs.Common.{◌≡◌, ℕ, ◌+◌, ◌<◌, Bool, true, false, not, List, [], length, refl, ap, sym, ◌∙◌}
use Rattle.std.proofs.lemmas.List.{length-set, get_or-set_same}
use Rattle.semantics.specs.Net.{TableValue, no_table, constant_table, IsAcyclic}
use Rattle.semantics.specs.Value.{Assignment, table_value, IsConsistent, value_of}
use Rattle.semantics.proofs.Values.{value_law}
use Rattle.semantics.specs.Replaced.{replaced}
use Rattle.semantics.specs.Dependence.{DependsOn}
use Rattle.chain_semantics.specs.Flips.{flipped_tables, flipped_values, IsFlipped}
use Rattle.semantics.proofs.Grounding.{replaced-acyclic}
use Rattle.semantics.proofs.Replaced.{IsConsistentBut, IsConsistentBut-replaced, replaced-apart, replaced-only, replaced-new}

constant-value : (b : Bool) (v : Assignment) → table_value (constant_table [] b) v ≡ b
constant-value false v = refl
constant-value true v = refl

constant-acyclic : (n : ℕ) (tables : List TableValue) (t : ℕ) (b : Bool) → IsAcyclic n tables → t < length tables → IsAcyclic n (replaced tables t (constant_table [] b))
constant-acyclic n tables t false acyclic within = replaced-acyclic n tables t (constant_table [] false) acyclic within tt
constant-acyclic n tables t true acyclic within = replaced-acyclic n tables t (constant_table [] true) acyclic within tt

pub flipped-is : (n : ℕ) (tables : List TableValue) (x : List Bool) (t : ℕ) → IsAcyclic n tables → t < length tables → IsFlipped n tables x t (flipped_values n tables x t)
flipped-is n tables x t acyclic within =
    let b : Bool = not (value_of n tables x (n + t)) in
    let v : Assignment = flipped_values n tables x t in
    let law : IsConsistent n (flipped_tables n tables x t) x v = (value_law n (flipped_tables n tables x t) x (constant-acyclic n tables t b acyclic within)).consistent in
    let but : IsConsistentBut n tables x t v = IsConsistentBut-replaced n tables x t (constant_table [] b) v law in
    record {
      input = but.input;
      itself = law.table t (rw (length-set tables t (constant_table [] b)) within)
          ∙ ap (λ u. table_value u v) (get_or-set_same tables t (constant_table [] b) no_table within)
          ∙ constant-value b v;
      others = but.others;
    }

pub flipped-only : (n : ℕ) (tables : List TableValue) (x : List Bool) (t : ℕ) → IsAcyclic n tables → t < length tables → (v : Assignment) → IsFlipped n tables x t v → (s : ℕ) → s < n + length tables
    → v s ≡ flipped_values n tables x t s
flipped-only n tables x t acyclic within v h =
    let b : Bool = not (value_of n tables x (n + t)) in
    replaced-only n tables t (constant_table [] b) x v (constant-acyclic n tables t b acyclic within)
    (record { input = h.input; others = h.others }) (h.itself ∙ sym (constant-value b v))

pub flipped-apart : (n : ℕ) (tables : List TableValue) (x : List Bool) (t : ℕ) → IsAcyclic n tables → t < length tables → (s : ℕ) → s < n + length tables → ¬ DependsOn n tables t s
    → flipped_values n tables x t s ≡ value_of n tables x s
flipped-apart n tables x t acyclic within =
    let b : Bool = not (value_of n tables x (n + t)) in
    replaced-apart n tables t (constant_table [] b) x acyclic (constant-acyclic n tables t b acyclic within)

pub flipped-opposite : (n : ℕ) (tables : List TableValue) (x : List Bool) (t : ℕ) (new : TableValue) → IsAcyclic n tables → IsAcyclic n (replaced tables t new) → t < length tables
    → table_value new (value_of n tables x) ≡ not (value_of n tables x (n + t)) → (s : ℕ) → s < n + length tables → value_of n (replaced tables t new) x s ≡ flipped_values n tables x t s
flipped-opposite n tables x t new acyclic acyclic' within e =
    let v : Assignment = value_of n (replaced tables t new) x in
    let but : IsConsistentBut n tables x t v = IsConsistentBut-replaced n tables x t new v (value_law n (replaced tables t new) x acyclic').consistent in
    flipped-only n tables x t acyclic within v
    (record { input = but.input; itself = replaced-new n tables t new x acyclic acyclic' within ∙ e; others = but.others })
