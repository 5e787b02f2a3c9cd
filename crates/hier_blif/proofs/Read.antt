-- The reading of a text, refusal by refusal.
use Rattle.std.proofs.Common.{◌≡◌, ℕ, ◌<◌, ◌≤◌, leb, List, Option, Some, None, option_map, Result, Ok, Err, IfErr, refl, sym, ap, subst, ◌∙◌, arith}
use Rattle.std.proofs.lemmas.Bool.{le-leb, leb-true, false_from_ne_true}
use Rattle.std.specs.Prelude.{length}
use Rattle.semantics.specs.Texts.{Bytes}
use Rattle.semantics.specs.Refusals.{or_else}
use Rattle.blif_semantics.specs.Lines.{Statement, logical_lines, statements}
use Rattle.blif_semantics.specs.Statements.{WrongLine}
use Rattle.blif_semantics.specs.Reading.{text_long, wrong_line}
use Rattle.hierarchy_semantics.specs.Models.{Hierarchy, hierarchy_of}
use Rattle.hierarchy_semantics.specs.ModelLines.{first_wrong}
use Rattle.hierarchy_semantics.specs.Refusals as r
use Rattle.hierarchy_semantics.specs.Refusals.{line, hier_refusal}
use Rattle.hierarchy_semantics.specs.Reading.{hierarchy_checked, hier_reading}
use Rattle.hier_blif.specs.declared.refusal.HierRefusal.{HierRefusal}
use Rattle.hier_blif.specs.declared.refusal.HierRefusal.TheVariants.{OutOfMemory as NoMemory}
use Rattle.hier_blif.specs.Refusals.{refusal_of, Tells, TellsOne}
use Rattle.hier_blif.specs.Tested.{lines_refusal}

abbrev pub answer : Hierarchy → Option r.HierRefusal → Result Hierarchy r.HierRefusal
answer h o = elim o [ None ↦ Ok h | Some refusal ↦ Err refusal ]

lines_of : Bytes → List Statement
lines_of text = statements (logical_lines text)

by_lines : (h : Hierarchy) (o : Option WrongLine)
    → elim o [ None ↦ hierarchy_checked h | Some w ↦ Err (line (wrong_line w.line w.wrong)) ] ≡ answer h (or_else o (λ w. line (wrong_line w.line w.wrong)) (hier_refusal h))
by_lines h None = refl
by_lines h (Some w) = refl

-- a text that is not too long is read by its lines
pub reading-short : (text : Bytes) (most : ℕ) → length text ≤ most → hier_reading text most ≡ answer (hierarchy_of (statements (logical_lines text))) (lines_refusal (statements (logical_lines text)))
unfolding hier_reading
reading-short text most short = rw (le-leb (length text) most short) (by_lines (hierarchy_of (statements (logical_lines text))) (first_wrong (statements (logical_lines text))))

pub reading-long : (text : Bytes) (most : ℕ) → most < length text → hier_reading text most ≡ Err (line text_long)
unfolding hier_reading
reading-long text most long = rw (false_from_ne_true (leb (length text) most) (λ t. absurd (omega (arith, leb-true (length text) most t, long)))) refl

-- ---- answers

abbrev IsTold : HierRefusal → Option r.HierRefusal → Option r.HierRefusal → Type 0
IsTold told o None = told ≡ NoMemory
IsTold told o (Some refusal) = o ≡ Some refusal

abbrev IsTold-text : HierRefusal → Result Hierarchy r.HierRefusal → Option r.HierRefusal → Type 0
IsTold-text told a None = told ≡ NoMemory
IsTold-text told a (Some refusal) = a ≡ Err refusal

pub tells-answer : (told : HierRefusal) (h : Hierarchy) (o : Option r.HierRefusal) → TellsOne told o → Tells told (answer h o)
tells-answer told h o is = at_refusal (refusal_of told) is
  where
    at_refusal : (f : Option r.HierRefusal) → IsTold told o f → IsTold-text told (answer h o) f
    at_refusal None is = is
    at_refusal (Some refusal) is = ap (answer h) is

-- the text is refused by its lines
pub tells-text : (text : Bytes) (most : ℕ) (told : HierRefusal) → length text ≤ most → TellsOne told (lines_refusal (statements (logical_lines text))) → Tells told (hier_reading text most)
tells-text text most told short is =
    subst (Tells told) (sym (reading-short text most short)) (tells-answer told (hierarchy_of (statements (logical_lines text))) (lines_refusal (statements (logical_lines text))) is)

pub accepted : (text : Bytes) (most : ℕ) → length text ≤ most → lines_refusal (statements (logical_lines text)) ≡ None → hier_reading text most ≡ Ok (hierarchy_of (statements (logical_lines text)))
accepted text most short none = reading-short text most short ∙ ap (answer (hierarchy_of (statements (logical_lines text)))) none

-- ---- one test before others

-- the first of two tests refuses
pub tells-first : {X : Type 0} (told : HierRefusal) (o : Option X) (f : X → r.HierRefusal) (rest : Option r.HierRefusal) → TellsOne told (option_map f o) → TellsOne told (or_else o f rest)
tells-first {X} told o f rest is = at_refusal (refusal_of told) is
  where
    both : (o : Option X) (refusal : r.HierRefusal) → option_map f o ≡ Some refusal → or_else o f rest ≡ Some refusal
    both None refusal e = cc
    both (Some x) refusal e = e

    at_refusal : (g : Option r.HierRefusal) → IsTold told (option_map f o) g → IsTold told (or_else o f rest) g
    at_refusal None is = is
    at_refusal (Some refusal) is = both o refusal is

-- the first passes, and the rest decides
pub tells-rest : {X : Type 0} (told : HierRefusal) (o : Option X) (f : X → r.HierRefusal) (rest : Option r.HierRefusal) → o ≡ None → TellsOne told rest → TellsOne told (or_else o f rest)
tells-rest told o f rest none is = subst (λ p. TellsOne told (or_else p f rest)) (sym none) is

pub none-both : {X : Type 0} (o : Option X) (f : X → r.HierRefusal) (rest : Option r.HierRefusal) → o ≡ None → rest ≡ None → or_else o f rest ≡ None
none-both o f rest none others = ap (λ p. or_else p f rest) none ∙ others

-- what is passed on by `?` is told as before
pub passed_on : {X : Type 0} (r : Result X HierRefusal) (told : HierRefusal) (P : HierRefusal → Type 0) → ((y : HierRefusal) × (r ≡ Err y) × (y ≡ told)) → P told → IfErr r P
passed_on r told P h is = rw h.1 (subst P (sym h.2) is)

pub if_err_weaker : {X : Type 0} {P Q : HierRefusal → Type 0} (r : Result X HierRefusal) → ((told : HierRefusal) → P told → Q told) → IfErr r P → IfErr r Q
if_err_weaker (Ok x) f h = tt
if_err_weaker (Err told) f h = f told h
