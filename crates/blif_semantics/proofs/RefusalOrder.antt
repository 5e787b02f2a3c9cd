-- Which refusal a net of names has: by cases of what each of the tests in order finds.
use Rattle.std.proofs.Common.{◌≡◌, ◌↔◌, ℕ, ◌+◌, ◌≤◌, Bool, true, false, not, leb, eqb, cond, List, [], ◌∷◌, map, length, Option, Some, None, Result, Ok, Err, refl, ap, sym, ◌∙◌, arith}
use Rattle.std.proofs.lemmas.Bool.{eqb-true, eq-eqb, eqb-false, ne_eqb, leb-true, le-leb}
use Rattle.std.proofs.lemmas.Option.{none-some}
use Rattle.semantics.specs.declared.which.Which.{Which}
use Rattle.semantics.specs.Texts.{Bytes, Line}
use Rattle.semantics.specs.Net.{NetValue, input_count, signal_names, name_of, IsSmall}
use Rattle.semantics.specs.Refusals.{first_doubled, first_ungrounded, first_limit}
use Rattle.semantics.specs.RefusalOrder.{IsFirstPassed, IsFirstDoubled}
use Rattle.semantics.proofs.FirstFound.{first_doubled-first}
use Rattle.semantics.proofs.RefusalOrder.{first_passed, passed_first}
use Rattle.semantics.proofs.Refused.{undoubled, differ-undoubled, grounded as all_grounded, acyclic-grounded, ungrounded, first-ungrounded, small, limits-small}
use Rattle.blif_semantics.specs.Lines.{Statement, logical_lines, statements}
use Rattle.blif_semantics.specs.Statements.{Wrong, WrongLine, first_wrong}
use Rattle.blif_semantics.specs.Reading.{Refusal, text_long, wrong_line, doubled, no_output, undriven, cycle, limit, NamedNet, names_of, named_net, first_undriven_name, numbered, unless_refused}
use Rattle.blif_semantics.specs.Reading.{single, lines_reading, blif_reading}
use Rattle.blif_semantics.specs.FirstRefusals.{IsFirstWrong, IsFirstUndriven}
use Rattle.blif_semantics.specs.RefusalOrder.{NamesDiffer, HasOutput, ReadsDriven, IsGrounded, IsFirstOnCycle}
use Rattle.blif_semantics.proofs.FirstRefusals.{first_wrong-first, first_undriven-first, driven-each}

-- what is told of a net, by what the five tests find
abbrev told : NetValue → (ℕ → Bytes) → Option Bytes → Bool → Option Bytes → Option ℕ → Option Which → Result NetValue Refusal
told N name_at twice none_listed missing ungrounded passed =
    unless_refused twice doubled
    (cond none_listed (Err no_output)
    (unless_refused missing undriven
    (unless_refused ungrounded (λ i. cycle (name_at i))
    (unless_refused passed limit (Ok N)))))

module _ (N : NetValue) (name_at : ℕ → Bytes) where
  told-doubled : (o : Option Bytes) (b : Bool) (p : Option Bytes) (q : Option ℕ) (r : Option Which) (name : Bytes) → told N name_at o b p q r ≡ Err (doubled name) → o ≡ Some name
  told-doubled (Some x) b p q r name e = cc
  told-doubled None true p q r name e = cc
  told-doubled None false (Some x) q r name e = cc
  told-doubled None false None (Some i) r name e = cc
  told-doubled None false None None (Some w) name e = cc
  told-doubled None false None None None name e = cc

  told-no_output : (o : Option Bytes) (b : Bool) (p : Option Bytes) (q : Option ℕ) (r : Option Which) → told N name_at o b p q r ≡ Err no_output → (o ≡ None) × (b ≡ true)
  told-no_output (Some x) b p q r e = cc
  told-no_output None true p q r e = (refl, refl)
  told-no_output None false (Some x) q r e = cc
  told-no_output None false None (Some i) r e = cc
  told-no_output None false None None (Some w) e = cc
  told-no_output None false None None None e = cc

  told-undriven : (o : Option Bytes) (b : Bool) (p : Option Bytes) (q : Option ℕ) (r : Option Which) (name : Bytes) → told N name_at o b p q r ≡ Err (undriven name)
      → (o ≡ None) × (b ≡ false) × (p ≡ Some name)
  told-undriven (Some x) b p q r name e = cc
  told-undriven None true p q r name e = cc
  told-undriven None false (Some x) q r name e = (refl, refl, cc)
  told-undriven None false None (Some i) r name e = cc
  told-undriven None false None None (Some w) name e = cc
  told-undriven None false None None None name e = cc

  record IsToldCycle (o : Option Bytes) (b : Bool) (p : Option Bytes) (q : Option ℕ) (name : Bytes) : Type 0 where
    once : o ≡ None
    listed : b ≡ false
    driven : p ≡ None
    at : ℕ
    found : q ≡ Some at
    named : name_at at ≡ name

  told-cycle : (o : Option Bytes) (b : Bool) (p : Option Bytes) (q : Option ℕ) (r : Option Which) (name : Bytes) → told N name_at o b p q r ≡ Err (cycle name) → IsToldCycle o b p q name
  told-cycle (Some x) b p q r name e = cc
  told-cycle None true p q r name e = cc
  told-cycle None false (Some x) q r name e = cc
  told-cycle None false None (Some i) r name e = record { once = refl; listed = refl; driven = refl; at = i; found = refl; named = cc }
  told-cycle None false None None (Some w) name e = cc
  told-cycle None false None None None name e = cc

  told-limit : (o : Option Bytes) (b : Bool) (p : Option Bytes) (q : Option ℕ) (r : Option Which) (which : Which) → told N name_at o b p q r ≡ Err (limit which)
      → (o ≡ None) × (b ≡ false) × (p ≡ None) × (q ≡ None) × (r ≡ Some which)
  told-limit (Some x) b p q r which e = cc
  told-limit None true p q r which e = cc
  told-limit None false (Some x) q r which e = cc
  told-limit None false None (Some i) r which e = cc
  told-limit None false None None (Some w) which e = (refl, refl, refl, refl, cc)
  told-limit None false None None None which e = cc

  told-accepted : (o : Option Bytes) (b : Bool) (p : Option Bytes) (q : Option ℕ) (r : Option Which) (M : NetValue) → told N name_at o b p q r ≡ Ok M
      → (o ≡ None) × (b ≡ false) × (p ≡ None) × (q ≡ None) × (r ≡ None) × (N ≡ M)
  told-accepted (Some x) b p q r M e = cc
  told-accepted None true p q r M e = cc
  told-accepted None false (Some x) q r M e = cc
  told-accepted None false None (Some i) r M e = cc
  told-accepted None false None None (Some w) M e = cc
  told-accepted None false None None None M e = (refl, refl, refl, refl, refl, cc)

no_elements : {X : Type 0} (xs : List X) → length xs ≡ 0 → xs ≡ []
no_elements [] e = refl
no_elements (x ∷ xs) e = absurd (omega (arith, e))

module _ (d : NamedNet) where
  abbrev N : NetValue
  N = numbered d

  abbrev name_at : ℕ → Bytes
  name_at i = name_of (signal_names N) (input_count N + i)

  abbrev Found : Option Bytes → Bool → Option Bytes → Option ℕ → Option Which → Type 0
  Found o b p q r =
      (first_doubled (names_of d) ≡ o) × (eqb (length d.outputs) 0 ≡ b) × (first_undriven_name d ≡ p) × (first_ungrounded (input_count N) N.tables ≡ q) × (first_limit N ≡ r)

  abbrev whole : Result NetValue Refusal
  whole = told N name_at (first_doubled (names_of d)) (eqb (length d.outputs) 0) (first_undriven_name d) (first_ungrounded (input_count N) N.tables) (first_limit N)

  -- the tests one after the other
  at_once : (o : Option Bytes) → first_doubled (names_of d) ≡ o
      → single d ≡ told N name_at o (eqb (length d.outputs) 0) (first_undriven_name d) (first_ungrounded (input_count N) N.tables) (first_limit N)
  at_once o e = ap (λ o. told N name_at o (eqb (length d.outputs) 0) (first_undriven_name d) (first_ungrounded (input_count N) N.tables) (first_limit N)) e

  at_listed : (b : Bool) → first_doubled (names_of d) ≡ None → eqb (length d.outputs) 0 ≡ b
      → single d ≡ told N name_at None b (first_undriven_name d) (first_ungrounded (input_count N) N.tables) (first_limit N)
  at_listed b once e = at_once None once ∙ ap (λ b. told N name_at None b (first_undriven_name d) (first_ungrounded (input_count N) N.tables) (first_limit N)) e

  at_driven : (p : Option Bytes) → first_doubled (names_of d) ≡ None → eqb (length d.outputs) 0 ≡ false → first_undriven_name d ≡ p
      → single d ≡ told N name_at None false p (first_ungrounded (input_count N) N.tables) (first_limit N)
  at_driven p once listed e = at_listed false once listed ∙ ap (λ p. told N name_at None false p (first_ungrounded (input_count N) N.tables) (first_limit N)) e

  at_grounded : (q : Option ℕ) → first_doubled (names_of d) ≡ None → eqb (length d.outputs) 0 ≡ false → first_undriven_name d ≡ None → first_ungrounded (input_count N) N.tables ≡ q
      → single d ≡ told N name_at None false None q (first_limit N)
  at_grounded q once listed driven e = at_driven None once listed driven ∙ ap (λ q. told N name_at None false None q (first_limit N)) e

  at_sized : (r : Option Which) → first_doubled (names_of d) ≡ None → eqb (length d.outputs) 0 ≡ false → first_undriven_name d ≡ None → first_ungrounded (input_count N) N.tables ≡ None
      → first_limit N ≡ r → single d ≡ told N name_at None false None None r
  at_sized r once listed driven grounded e = at_grounded None once listed driven grounded ∙ ap (told N name_at None false None None) e

  -- ---- the tests and what they decide

  has_output : NamesDiffer d → eqb (length d.outputs) 0 ≡ false → HasOutput d
  has_output differ some = (differ, let not_none = eqb-false (length d.outputs) 0 some in omega (arith, not_none))

  output_test : HasOutput d → (first_doubled (names_of d) ≡ None) × (eqb (length d.outputs) 0 ≡ false)
  output_test h = (differ-undoubled (names_of d) h.0, ne_eqb (length d.outputs) 0 (λ e. omega (arith, e, h.1)))

  differs : first_doubled (names_of d) ≡ None → NamesDiffer d
  differs e = undoubled (names_of d) e

  reads_driven : first_doubled (names_of d) ≡ None → eqb (length d.outputs) 0 ≡ false → first_undriven_name d ≡ None → ReadsDriven d
  reads_driven once listed driven = (has_output (differs once) listed, (driven-each d).0 driven)

  is_grounded : first_doubled (names_of d) ≡ None → eqb (length d.outputs) 0 ≡ false → first_undriven_name d ≡ None → first_ungrounded (input_count N) N.tables ≡ None → IsGrounded d
  is_grounded once listed driven grounded = (reads_driven once listed driven, all_grounded (input_count N) N.tables grounded)

  -- ---- each refusal

  pub of-doubled : (name : Bytes) → (single d ≡ Err (doubled name)) ↔ IsFirstDoubled (names_of d) name
  of-doubled name = (
    λ e. (first_doubled-first (names_of d) name).0
        (told-doubled N name_at (first_doubled (names_of d)) (eqb (length d.outputs) 0) (first_undriven_name d) (first_ungrounded (input_count N) N.tables) (first_limit N) name e),
    λ h. at_once (Some name) ((first_doubled-first (names_of d) name).1 h),
  )

  pub of-no_output : (single d ≡ Err no_output) ↔ (NamesDiffer d × (d.outputs ≡ []))
  of-no_output = (
    λ e.
        let found = told-no_output N name_at (first_doubled (names_of d)) (eqb (length d.outputs) 0) (first_undriven_name d) (first_ungrounded (input_count N) N.tables) (first_limit N) e in
        (differs found.0, no_elements d.outputs (eqb-true (length d.outputs) 0 found.1)),
    λ h. at_listed true (differ-undoubled (names_of d) h.0) (eq-eqb (length d.outputs) 0 (ap length h.1)),
  )

  pub of-undriven : (name : Bytes) → (single d ≡ Err (undriven name)) ↔ (HasOutput d × IsFirstUndriven d name)
  of-undriven name = (
    λ e.
        let found = told-undriven N name_at (first_doubled (names_of d)) (eqb (length d.outputs) 0) (first_undriven_name d) (first_ungrounded (input_count N) N.tables) (first_limit N) name e in
        (has_output (differs found.0) found.1, (first_undriven-first d name).0 found.2),
    λ h. let tests = output_test h.0 in at_driven (Some name) tests.0 tests.1 ((first_undriven-first d name).1 h.1),
  )

  pub of-cycle : (name : Bytes) → (single d ≡ Err (cycle name)) ↔ (ReadsDriven d × IsFirstOnCycle d name)
  of-cycle name = (
    λ e.
        let found = told-cycle N name_at (first_doubled (names_of d)) (eqb (length d.outputs) 0) (first_undriven_name d) (first_ungrounded (input_count N) N.tables) (first_limit N) name e in
        (reads_driven found.once found.listed found.driven, (found.at, ungrounded (input_count N) N.tables found.at found.found, found.named)),
    λ h.
        let tests = output_test h.0.0 in
        let i : ℕ = h.1.0 in
        at_grounded (Some i) tests.0 tests.1 ((driven-each d).1 h.0.1) (first-ungrounded (input_count N) N.tables i h.1.1) ∙ ap (λ name. Err (cycle name)) h.1.2,
  )

  pub of-limit : (which : Which) → (single d ≡ Err (limit which)) ↔ (IsGrounded d × IsFirstPassed (numbered d) which)
  of-limit which = (
    λ e.
        let found = told-limit N name_at (first_doubled (names_of d)) (eqb (length d.outputs) 0) (first_undriven_name d) (first_ungrounded (input_count N) N.tables) (first_limit N) which e in
        (is_grounded found.0 found.1 found.2 found.3, first_passed N which found.4),
    λ h.
        let tests = output_test h.0.0.0 in
        at_sized (Some which) tests.0 tests.1 ((driven-each d).1 h.0.0.1) (acyclic-grounded (input_count N) N.tables h.0.1) (passed_first N which h.1),
  )

  pub of-accepted : (M : NetValue) → (single d ≡ Ok M) ↔ (IsGrounded d × IsSmall (numbered d) × (numbered d ≡ M))
  of-accepted M = (
    λ e.
        let found = told-accepted N name_at (first_doubled (names_of d)) (eqb (length d.outputs) 0) (first_undriven_name d) (first_ungrounded (input_count N) N.tables) (first_limit N) M e in
        (is_grounded found.0 found.1 found.2 found.3, small N found.4, found.5),
    λ h.
        let tests = output_test h.0.0.0 in
        at_sized None tests.0 tests.1 ((driven-each d).1 h.0.0.1) (acyclic-grounded (input_count N) N.tables h.0.1) (limits-small N h.1) ∙ ap (λ M. Ok M) h.2,
  )

-- ---- the first wrong line

tells_wrong : Result NetValue Refusal → Option WrongLine
tells_wrong (Err (wrong_line line w)) = Some (record { line = line; wrong = w })
tells_wrong _ = None

told-no_line : (N : NetValue) (name_at : ℕ → Bytes) (o : Option Bytes) (b : Bool) (p : Option Bytes) (q : Option ℕ) (r : Option Which) → tells_wrong (told N name_at o b p q r) ≡ None
unfolding tells_wrong
told-no_line N name_at (Some x) b p q r = refl
told-no_line N name_at None true p q r = refl
told-no_line N name_at None false (Some x) q r = refl
told-no_line N name_at None false None (Some i) r = refl
told-no_line N name_at None false None None (Some w) = refl
told-no_line N name_at None false None None None = refl

single-no_line : (d : NamedNet) → tells_wrong (single d) ≡ None
single-no_line d =
    let M : NetValue = numbered d in
    told-no_line M (λ i. name_of (signal_names M) (input_count M + i)) (first_doubled (names_of d)) (eqb (length d.outputs) 0) (first_undriven_name d)
    (first_ungrounded (input_count M) M.tables) (first_limit M)

line_told : (fits : Bool) (o : Option WrongLine) (rest : Result NetValue Refusal) (line : ℕ) (w : Wrong) → tells_wrong rest ≡ None
    → cond (not fits) (Err text_long) (unless_refused o (λ v. wrong_line v.line v.wrong) rest) ≡ Err (wrong_line line w) → (fits ≡ true) × (o ≡ Some (record { line = line; wrong = w }))
unfolding tells_wrong
line_told false o rest line w none e = absurd (none-some (record { line = line; wrong = w }) (ap tells_wrong e))
line_told true (Some v) rest line w none e = (refl, ap tells_wrong e)
line_told true None rest line w none e = absurd (none-some (record { line = line; wrong = w }) (sym none ∙ ap tells_wrong e))

pub of-wrong_line : (text : Bytes) (most line : ℕ) (w : Wrong)
    → (blif_reading text most ≡ Err (wrong_line line w)) ↔ ((length text ≤ most) × IsFirstWrong (statements (logical_lines text)) (record { line = line; wrong = w }))
unfolding blif_reading
of-wrong_line text most line w =
    let all : List Statement = statements (logical_lines text) in
    let at : WrongLine = record { line = line; wrong = w } in
    let lines : List Line = map (λ s. s.words) all in (
      λ e. (
          let found = line_told (leb (length text) most) (first_wrong all) (lines_reading lines) line w (single-no_line (named_net lines)) e in
          (leb-true (length text) most found.0, (first_wrong-first all at).0 found.1)),
      λ h.
          ap (λ fits. cond (not fits) (Err text_long) (unless_refused (first_wrong all) (λ v. wrong_line v.line v.wrong) (lines_reading lines))) (le-leb (length text) most h.0)
          ∙ ap (λ o. unless_refused o (λ v. wrong_line v.line v.wrong) (lines_reading lines)) ((first_wrong-first all at).1 h.1),
    )
