-- What holds of a hierarchy that has no refusal.
use Rattle.std.proofs.Common.{◌≡◌, ℕ, ◌<◌, Bool, true, false, not, leb, ◌==◌, ◌&&◌, cond, List, [], ◌∷◌, map, length, find, bytes_eq, Option, Some, None, Result, Ok, Err, option_map, refl, ap, sym}
use Rattle.std.proofs.Common.{subst, ◌∙◌, inl, inr, arith}
use Rattle.std.proofs.lemmas.Bool.{not-false, eqb-false}
use Rattle.std.proofs.lemmas.Option.{none-some}
use Rattle.semantics.specs.Texts.{Bytes}
use Rattle.semantics.specs.Refusals.{has_name, first_doubled, or_else}
use Rattle.blif_semantics.specs.Lines.{Statement, logical_lines, statements}
use Rattle.blif_semantics.specs.Statements.{WrongLine}
use Rattle.blif_semantics.specs.Reading.{Refusal, doubled, no_output, undriven, text_long, wrong_line}
use Rattle.semantics.proofs.FirstFound.{none_if}
use Rattle.blif_semantics.proofs.Looked.{each_there}
use Rattle.hierarchy_semantics.specs.Models.{BlifModel, Hierarchy, no_model, model_from, sections_of, hierarchy_of, main_of, model_named, uses_of, all_uses}
use Rattle.hierarchy_semantics.specs.ModelLines.{first_wrong}
use Rattle.hierarchy_semantics.specs.Driven.{names_driven, names_read}
use Rattle.hierarchy_semantics.specs.Refusals.{HierRefusal, line, same_model, no_model_named, recursive, part, taken, first_found, model_names, first_unknown, is_model_grounded, first_recursive}
use Rattle.hierarchy_semantics.specs.Refusals.{doubled_port, formals_of, formal_refusal, unbound_refusal, unbound, model_refusal, part_refusal, is_taken, hier_refusal}
use Rattle.hierarchy_semantics.specs.Reading.{hierarchy_checked, hier_reading}
use Rattle.hierarchy_semantics.proofs.Members.{IsIn, none_found, found_in, all_in, named_in}
use Rattle.hierarchy_semantics.proofs.Parts.{in_flat_map}
use Rattle.hierarchy_semantics.proofs.Placed.{IsFit, IsGood}

none_of : {X R : Type 0} (o : Option X) (f : X → R) (rest : Option R) → or_else o f rest ≡ None → (o ≡ None) × (rest ≡ None)
none_of None f rest e = (refl, e)
none_of (Some x) f rest e = absurd (none-some (f x) (sym e))

pub none_mapped : {X R : Type 0} (f : X → R) (o : Option X) → option_map f o ≡ None → o ≡ None
none_mapped f None e = refl
none_mapped f (Some x) e = absurd (none-some (f x) (sym e))

abbrev pub first_answer : {Y : Type 0} → Option Y → Option Y → Option Y
first_answer o rest = elim o [ None ↦ rest | Some y ↦ Some y ]

none_first : {X Y : Type 0} (f : X → Option Y) (x : X) (xs : List X) → first_found f xs ≡ None → IsIn x xs → f x ≡ None
none_first f x [] e h = absurd h
none_first {X} {Y} f x (z ∷ xs) e h = at_found (f z) refl e h (none_first f x xs)
  where
    at_found : (o : Option Y) → f z ≡ o → first_answer o (first_found f xs) ≡ None → IsIn x (z ∷ xs) → (first_found f xs ≡ None → IsIn x xs → f x ≡ None) → f x ≡ None
    at_found None is e (inl same) others = ap f (sym same) ∙ is
    at_found None is e (inr h) others = others e h
    at_found (Some y) is e h others = absurd (none-some y (sym e))

-- none of the tests tells a refusal
pub record HasNoRefusal (h : Hierarchy) : Type 0 where
  pub names_differ : first_doubled (model_names h) ≡ None
  pub known : first_unknown h ≡ None
  pub grounded : first_recursive h ≡ None
  pub ports : first_found (doubled_port h) h ≡ None
  pub formals : first_found (formal_refusal h) (all_uses h) ≡ None
  pub bound : first_found (unbound_refusal h) (all_uses h) ≡ None
  pub parts : first_found (part_refusal h) h ≡ None
  pub free : find is_taken (names_driven h (main_of h)) ≡ None

pub has_no_refusal : (h : Hierarchy) → hier_refusal h ≡ None → HasNoRefusal h
unfolding hier_refusal
has_no_refusal h e =
    let one = none_of (first_doubled (model_names h)) same_model _ e in
    let two = none_of (first_unknown h) (λ c. no_model_named c.model) _ one.1 in
    let three = none_of (first_recursive h) (λ m. recursive m.name) _ two.1 in
    let four = none_of (first_found (doubled_port h) h) (λ r. r) _ three.1 in
    let five = none_of (first_found (formal_refusal h) (all_uses h)) (λ r. r) _ four.1 in
    let six = none_of (first_found (unbound_refusal h) (all_uses h)) (λ r. r) _ five.1 in
    let seven = none_of (first_found (part_refusal h) h) (λ r. r) _ six.1 in
    let eight = none_of (find is_taken (names_driven h (main_of h))) taken None seven.1 in
    record { names_differ = one.0; known = two.0; grounded = three.0; ports = four.0; formals = five.0; bound = six.0; parts = seven.0; free = eight.0 }

-- ---- each model

pub record HasNoFault (h : Hierarchy) (m : BlifModel) : Type 0 where
  pub once : first_doubled (names_driven h m) ≡ None
  pub some_output : 0 < length m.outputs
  pub reads : find (λ name. not (has_name (names_driven h m) name)) (names_read h m) ≡ None

pub fault_parts : (h : Hierarchy) (m : BlifModel) → model_refusal h m ≡ None → HasNoFault h m
fault_parts h m whole =
    let reads : Option Refusal = option_map undriven (find (λ name. not (has_name (names_driven h m) name)) (names_read h m)) in
    let names = none_of (first_doubled (names_driven h m)) doubled (cond (length m.outputs == 0) (Some no_output) reads) whole in
    let outputs = none_if (length m.outputs == 0) no_output reads names.1 in
    let some = eqb-false (length m.outputs) 0 outputs.0 in
    record { once = names.0; some_output = omega (arith, some); reads = none_mapped undriven (find (λ name. not (has_name (names_driven h m) name)) (names_read h m)) outputs.1 }

pub no_fault : (h : Hierarchy) (m : BlifModel) → HasNoRefusal h → IsIn m h → HasNoFault h m
no_fault h m none inside = fault_parts h m (none_mapped (part m.name) (model_refusal h m) (none_first (part_refusal h) m h none.parts inside))

pub fit_model : (h : Hierarchy) (m : BlifModel) → HasNoRefusal h → IsIn m h → IsFit h m
fit_model h m none inside =
    let fault = no_fault h m none inside in
    record {
      once = fault.once;
      reads = λ name read. named_in (names_driven h m) name
          (all_in (λ word. has_name (names_driven h m) word ≡ true) name (names_read h m) (each_there (names_driven h m) (names_read h m) fault.reads) read);
      bound = λ c c_in name input.
          let bound : find (λ name. not (has_name (formals_of c) name)) (model_named h c.model).inputs ≡ None =
          none_mapped (unbound c.line) _ (none_first (unbound_refusal h) c (all_uses h) none.bound (in_flat_map uses_of m c h inside c_in)) in
          named_in (formals_of c) name
          (all_in (λ word. has_name (formals_of c) word ≡ true) name (model_named h c.model).inputs (each_there (formals_of c) (model_named h c.model).inputs bound) input);
    }

fit_none : (h : Hierarchy) → IsFit h no_model
fit_none h = record { once = refl; reads = λ name read. read; bound = λ c c_in name input. absurd c_in }

fit_named : (h : Hierarchy) → HasNoRefusal h → (name : Bytes) → IsFit h (model_named h name)
fit_named h none name = at_found (find (λ m. bytes_eq m.name name) h) refl
  where
    at_found : (o : Option BlifModel) → find (λ m. bytes_eq m.name name) h ≡ o → IsFit h (elim o [ None ↦ no_model | Some m ↦ m ])
    at_found None e = fit_none h
    at_found (Some m) e = fit_model h m none (found_in (λ m. bytes_eq m.name name) m h e).0

pub good_from : (h : Hierarchy) → HasNoRefusal h → IsIn (main_of h) h → IsGood h
good_from h none inside = record {
  grounded = not-false (is_model_grounded h (length h) (main_of h)) (none_found (λ m. not (is_model_grounded h (length h) m)) (main_of h) h none.grounded inside);
  main = fit_model h (main_of h) none inside;
  named = fit_named h none;
}

-- ---- texts

HasMain : Hierarchy → Type 0
HasMain h = IsIn (main_of h) h

has_main : (before : List Statement) (sections : List (List Statement)) → HasMain (map model_from (cond (length before == 0 && not (length sections == 0)) sections (before ∷ sections)))
unfolding HasMain
has_main before [] = at_test (length before == 0)
  where
    at_test : (t : Bool) → HasMain (map model_from (cond (t && not (0 == 0)) [] (before ∷ [])))
    at_test true = inl refl
    at_test false = inl refl
has_main before (lines ∷ sections) = at_test (length before == 0 && not (length (lines ∷ sections) == 0))
  where
    at_test : (t : Bool) → HasMain (map model_from (cond t (lines ∷ sections) (before ∷ lines ∷ sections)))
    at_test true = inl refl
    at_test false = inl refl

main_inside : (lines : List Statement) → HasMain (hierarchy_of lines)
unfolding hierarchy_of
main_inside lines = has_main (sections_of lines).before (sections_of lines).sections

pub record IsRead (text : Bytes) (most : ℕ) (h : Hierarchy) : Type 0 where
  pub right : first_wrong (statements (logical_lines text)) ≡ None
  pub is : hierarchy_of (statements (logical_lines text)) ≡ h
  pub none : HasNoRefusal h

abbrev checked_answer : Hierarchy → Option HierRefusal → Result Hierarchy HierRefusal
checked_answer h o = elim o [ None ↦ Ok h | Some r ↦ Err r ]

abbrev text_answer : Hierarchy → Bool → Option WrongLine → Result Hierarchy HierRefusal
text_answer h fits o = cond (not fits) (Err (line text_long)) (elim o [ None ↦ hierarchy_checked h | Some w ↦ Err (line (wrong_line w.line w.wrong)) ])

checked_parts : (h k : Hierarchy) (o : Option HierRefusal) → hier_refusal h ≡ o → checked_answer h o ≡ Ok k → (hier_refusal k ≡ None) × (h ≡ k)
checked_parts h k None is e = let same : h ≡ k = cc in (subst (λ g. hier_refusal g ≡ None) same is, same)
checked_parts h k (Some r) is e = cc

text_parts : (lines : List Statement) (h : Hierarchy) (fits : Bool) (o : Option WrongLine) → first_wrong lines ≡ o
    → text_answer (hierarchy_of lines) fits o ≡ Ok h
    → (first_wrong lines ≡ None) × (hier_refusal h ≡ None) × (hierarchy_of lines ≡ h)
text_parts lines h false o is e = cc
text_parts lines h true (Some w) is e = cc
text_parts lines h true None is e = let parts = checked_parts (hierarchy_of lines) h (hier_refusal (hierarchy_of lines)) refl e in (is, parts.0, parts.1)

pub read_parts : (text : Bytes) (most : ℕ) (h : Hierarchy) → hier_reading text most ≡ Ok h → IsRead text most h
unfolding hier_reading
read_parts text most h e =
    let lines : List Statement = statements (logical_lines text) in
    let parts = text_parts lines h (leb (length text) most) (first_wrong lines) refl e in
    record { right = parts.0; is = parts.2; none = has_no_refusal h parts.1 }

pub main_read : (text : Bytes) (most : ℕ) (h : Hierarchy) → IsRead text most h → IsIn (main_of h) h
unfolding HasMain
main_read text most h read = subst HasMain read.is (main_inside (statements (logical_lines text)))

pub good_reading : (text : Bytes) (most : ℕ) (h : Hierarchy) → IsRead text most h → IsGood h
good_reading text most h read = good_from h read.none (main_read text most h read)
