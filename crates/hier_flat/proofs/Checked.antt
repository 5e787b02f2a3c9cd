-- What the net of parts tells of the flat net.
use Rattle.std.proofs.Common.{◌≡◌, ℕ, ◌+◌, ◌==◌, Bool, true, false, cond, length, Option, Some, None, Result, Ok, Err, refl, ap, sym, subst, ◌∙◌}
use Rattle.semantics.specs.declared.which.Which.{Which}
use Rattle.semantics.specs.Texts.{Bytes}
use Rattle.semantics.specs.Net.{NetValue, input_count, signal_names, name_of, IsSound, IsSmall}
use Rattle.semantics.specs.Refusals.{doubled, no_output, undriven, cycle, limit, or_else, first_doubled, first_undriven, first_ungrounded, first_limit, net_refusal}
use Rattle.semantics.proofs.Refused.{acyclic-grounded, small}
use Rattle.blif_semantics.specs.Reading as r
use Rattle.hierarchy_semantics.specs.Refusals as h
use Rattle.hierarchy_semantics.specs.Refusals.{flat}
use Rattle.hierarchy_semantics.specs.Flat.{flat_checked}

-- the answer of these two tests
abbrev answer_of : NetValue → Option Which → Option ℕ → Result NetValue h.HierRefusal
answer_of N (Some which) ungrounded = Err (flat (r.limit which))
answer_of N None (Some i) = Err (flat (r.cycle (name_of (signal_names N) (input_count N + i))))
answer_of N None None = Ok N

checked_is : (N : NetValue) → flat_checked N ≡ answer_of N (first_limit N) (first_ungrounded (input_count N) N.tables)
checked_is N = at_tests (first_limit N) (first_ungrounded (input_count N) N.tables)
  where
    at_tests : (o : Option Which) (u : Option ℕ)
        → elim o [ Some which ↦ Err (flat (r.limit which)) | None ↦ elim u [ Some i ↦ Err (flat (r.cycle (name_of (signal_names N) (input_count N + i)))) | None ↦ Ok N ] ]
        ≡ answer_of N o u
    at_tests (Some which) u = refl
    at_tests None (Some i) = refl
    at_tests None None = refl

pub checked_sound : (N : NetValue) → first_limit N ≡ None → IsSound N → flat_checked N ≡ Ok N
checked_sound N limits sound =
    checked_is N
    ∙ ap (λ o. answer_of N o (first_ungrounded (input_count N) N.tables)) limits
    ∙ ap (answer_of N None) (acyclic-grounded (input_count N) N.tables sound.acyclic)

-- of what is known to be these parts
pub checked_at : (N n : NetValue) → n ≡ N → first_limit N ≡ None → IsSound n → flat_checked N ≡ Ok n
checked_at N n is limits sound = checked_sound N limits (subst IsSound is sound) ∙ ap Ok (sym is)

pub small_at : (N n : NetValue) → n ≡ N → first_limit N ≡ None → IsSmall n
small_at N n is limits = subst IsSmall (sym is) (small N limits)

pub checked_limit : (N : NetValue) (which : Which) → first_limit N ≡ Some which → flat_checked N ≡ Err (flat (r.limit which))
checked_limit N which limits = checked_is N ∙ ap (λ o. answer_of N o (first_ungrounded (input_count N) N.tables)) limits

told_cycle : (a : Option Bytes) (b : Bool) (u d : Option ℕ) (e : Option Which) (n s : ℕ)
    → or_else a doubled (cond b (Some no_output) (or_else u undriven (or_else d (λ i. cycle (n + i)) (or_else e limit None)))) ≡ Some (cycle s)
    → (i : ℕ) × (d ≡ Some i) × (n + i ≡ s)
told_cycle (Some name) b u d e n s told = cc
told_cycle None true u d e n s told = cc
told_cycle None false (Some x) d e n s told = cc
told_cycle None false None (Some i) e n s told = (i, refl, cc)
told_cycle None false None None (Some which) n s told = cc
told_cycle None false None None None n s told = cc

pub checked_cycle : (N : NetValue) (s : ℕ) → first_limit N ≡ None → net_refusal N ≡ Some (cycle s) → flat_checked N ≡ Err (flat (r.cycle (name_of (signal_names N) s)))
unfolding net_refusal
checked_cycle N s limits told =
    let at = told_cycle (first_doubled (signal_names N)) (length N.outputs == 0) (first_undriven N) (first_ungrounded (input_count N) N.tables) (first_limit N) (input_count N) s told in
    checked_is N
    ∙ ap (λ o. answer_of N o (first_ungrounded (input_count N) N.tables)) limits
    ∙ ap (answer_of N None) at.1
    ∙ ap (λ k. Err (flat (r.cycle (name_of (signal_names N) k)))) at.2
