-- What the words of a job say of its numbers, and which job the words of a task are.
use Rattle.std.proofs.Common.{◌≡◌, ◌≤◌, ℕ, Bool, true, false, ◌&&◌, if◌then◌else◌, Some, None, nat_le, bytes_eq, ◌<◌, List, [], ◌∷◌, length, get_or, refl, sym, subst, arith}
use Rattle.std.proofs.lemmas.Bool.Decides.{nat_tests}
use Rattle.semantics.specs.Texts.{Bytes}
use Rattle.semantics.specs.Decimal.{digits_number, is_decimal}
use Rattle.job_semantics.specs.declared.task.Task.{Task}
use Rattle.job_semantics.specs.declared.task.Task.TheVariants.{Certify, Refine}
use Rattle.proof_semantics.specs.declared.constraint.Constraint.{Constraint}
use Rattle.job_semantics.specs.Job.{number_from_to, synth, against, constraint_of, TaskNames, are_task_names, task_job, task_of}

within_if : (is_digits : Bool) (low high d n : ℕ) → (if is_digits && (nat_le low d && nat_le d high) then Some d else None) ≡ Some n → (low ≤ n) × (n ≤ high)
within_if is_digits low high d n is = (grind (arith, nat_tests), grind (arith, nat_tests))

pub number_within : (low high : ℕ) (word : Bytes) (n : ℕ) → number_from_to low high word ≡ Some n → (low ≤ n) × (n ≤ high)
number_within low high word n is = within_if (is_decimal word) low high (digits_number word) n is

-- ---- the words of a task

all_six : (ws : List Bytes) (m b c input second stem : Bytes) → 6 ≤ length ws → length ws < 7 → m ≡ get_or ws 0 m → b ≡ get_or ws 1 b → c ≡ get_or ws 2 c
    → input ≡ get_or ws 3 input → second ≡ get_or ws 4 second → stem ≡ get_or ws 5 stem → ws ≡ m ∷ b ∷ c ∷ input ∷ second ∷ stem ∷ []
all_six (m' ∷ b' ∷ c' ∷ input' ∷ second' ∷ stem' ∷ []) m b c input second stem least most is-m is-b is-c is-input is-second is-stem =
    rw (is-m, is-b, is-c, is-input, is-second, is-stem) refl
all_six [] m b c input second stem least most is-m is-b is-c is-input is-second is-stem = absurd (omega (arith, least))
all_six (v ∷ []) m b c input second stem least most is-m is-b is-c is-input is-second is-stem = absurd (omega (arith, least))
all_six (v ∷ w ∷ []) m b c input second stem least most is-m is-b is-c is-input is-second is-stem = absurd (omega (arith, least))
all_six (v ∷ w ∷ x ∷ []) m b c input second stem least most is-m is-b is-c is-input is-second is-stem = absurd (omega (arith, least))
all_six (v ∷ w ∷ x ∷ y ∷ []) m b c input second stem least most is-m is-b is-c is-input is-second is-stem = absurd (omega (arith, least))
all_six (v ∷ w ∷ x ∷ y ∷ z ∷ []) m b c input second stem least most is-m is-b is-c is-input is-second is-stem = absurd (omega (arith, least))
all_six (v ∷ w ∷ x ∷ y ∷ z ∷ u ∷ t ∷ more) m b c input second stem least most is-m is-b is-c is-input is-second is-stem = absurd (omega (arith, most))

-- the word is the one at this place
abbrev pub IsWordOf : List Bytes → ℕ → Bytes → Type 0
IsWordOf ws at word = (item : Bytes) × (word ≡ item) × (item ≡ get_or ws at item)

at_word : (ws : List Bytes) (at : ℕ) (word : Bytes) → IsWordOf ws at word → word ≡ get_or ws at word
at_word ws at word is = subst (λ w. w ≡ get_or ws at w) (sym is.1) is.2

module _ (task : Task) (aim : Constraint) (names : TaskNames) where
  pub task_words : (ws : List Bytes) (m b c : Bytes) → 6 ≤ length ws → length ws < 7 → IsWordOf ws 0 m → IsWordOf ws 1 b → IsWordOf ws 2 c → IsWordOf ws 3 names.input
      → IsWordOf ws 4 names.second → IsWordOf ws 5 names.stem → constraint_of m b c ≡ Some aim → are_task_names names ≡ true → task_of task ws ≡ Some (task_job task aim names)
  task_words ws m b c least most is-m is-b is-c is-input is-second is-stem asked allowed =
      let six = all_six ws m b c names.input names.second names.stem least most (at_word ws 0 m is-m) (at_word ws 1 b is-b) (at_word ws 2 c is-c) (at_word ws 3 names.input is-input)
      (at_word ws 4 names.second is-second) (at_word ws 5 names.stem is-stem) in
      rw (six, asked, allowed) refl

  -- to refine IN itself is to simplify it
  pub refined_itself : task ≡ Refine → bytes_eq names.input names.second ≡ true → task_job task aim names ≡ synth aim names.input names.stem
  refined_itself refines itself = rw (refines, itself) refl

  pub certified : task ≡ Certify → task_job task aim names ≡ against task aim names
  certified certifies = rw certifies refl

pub refined_another : (task : Task) (aim : Constraint) (names : TaskNames) → bytes_eq names.input names.second ≡ false → task_job task aim names ≡ against task aim names
refined_another Certify aim names another = refl
refined_another Refine aim names another = rw another refl
