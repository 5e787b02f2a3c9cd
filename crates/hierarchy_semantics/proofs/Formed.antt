-- In a text that is read each name is a name, and each table has rows of its width.
use Rattle.std.proofs.Common.{◌≡◌, Bool, true, false, not, ◌&&◌, ◌==◌, cond, List, [], ◌∷◌, ◌++◌, map, flat_map, filter, find, length, codes, bytes_eq, All, Option, Some, None, refl, ap, sym, subst}
use Rattle.std.proofs.Common.{◌∙◌, inl, inr}
use Rattle.std.specs.List.{AllByRecursion, list_all}
use Rattle.std.proofs.lemmas.Bool.{and_parts}
use Rattle.std.proofs.lemmas.List.Elements.{recursion_from_All}
use Rattle.semantics.specs.Texts.{Bytes, Line}
use Rattle.semantics.specs.Net.{IsName}
use Rattle.blif_semantics.specs.declared.kind.Kind.{Kind}
use Rattle.blif_semantics.specs.declared.kind.Kind.TheVariants as kind
use Rattle.blif_semantics.specs.Lines.{Statement}
use Rattle.blif_semantics.specs.Statements.{kind_of, first_word, arguments, is_name, is_model}
use Rattle.blif_semantics.specs.Tables.{NamedTable, named, with_rows, if_row, rows_first, table_first, tables_of}
use Rattle.blif_semantics.specs.Reading.{is_inputs, listed, model_of, named_net}
use Rattle.blif_semantics.specs.Named.{IsNamedTable, IsNamedNet}
use Rattle.blif_semantics.proofs.Names.{IsName-from_test}
use Rattle.blif_semantics.proofs.ReadNet.{names_formed}
use Rattle.hierarchy_semantics.specs.Models.{Binding, Subcircuit, names_part, subckt_part, BlifModel, Hierarchy, no_model, is_subckt, binding_of, subcircuit_of, part_first, parts_of, model_from}
use Rattle.hierarchy_semantics.specs.Models.{Sections, sections_of, hierarchy_of, model_named}
use Rattle.hierarchy_semantics.specs.ModelLines.{is_binding, is_use, first_wrong}
use Rattle.hierarchy_semantics.proofs.Members.{IsIn, in_append, from_map, found_in, all_in, passed_in}
use Rattle.hierarchy_semantics.proofs.PlainLines.{words_in, plain, UsesRight, subckt_kind, IsRightModel, models_right}

pub record IsFormed (m : BlifModel) : Type 0 where
  pub name : IsName m.name
  pub inputs : All IsName m.inputs
  pub tables : (t : NamedTable) → IsIn (names_part t) m.parts → IsNamedTable t
  pub actuals : (c : Subcircuit) → IsIn (subckt_part c) m.parts → (b : Binding) → IsIn b c.bindings → IsName b.actual

-- ---- what a model without its `.subckt` lines has

abbrev first_model : List Line → Option Line
first_model lines = find (λ words. is_model (kind_of words)) lines

plain_find-next : (words : Line) (lines : List Line) → first_model (map plain lines) ≡ first_model lines → (t : Bool) → is_subckt words ≡ t
    → first_model (cond t (codes ".inputs" ∷ []) words ∷ map plain lines) ≡ first_model (words ∷ lines)
plain_find-next words lines rest true is = rest ∙ sym (ap (λ k. cond (is_model k) (Some words) (first_model lines)) (subckt_kind words is))
plain_find-next words lines rest false is = ap (cond (is_model (kind_of words)) (Some words)) rest

plain_find : (lines : List Line) → first_model (map plain lines) ≡ first_model lines
plain_find [] = refl
plain_find (words ∷ lines) = plain_find-next words lines (plain_find lines) (is_subckt words) refl

plain_model : (lines : List Line) → model_of (map plain lines) ≡ model_of lines
plain_model lines = ap (λ o. elim o [ None ↦ codes "top" | Some words ↦ first_word (arguments words) ]) (plain_find lines)

listed_more : (b : Bool) (words : Line) (xs ys : List Line) → flat_map arguments xs ≡ flat_map arguments ys → flat_map arguments (cond b (words ∷ xs) xs) ≡ flat_map arguments (cond b (words ∷ ys) ys)
listed_more true words xs ys same = ap (λ rest. arguments words ++ rest) same
listed_more false words xs ys same = same

plain_listed-next : (words : Line) (lines : List Line) → listed is_inputs (map plain lines) ≡ listed is_inputs lines → (t : Bool) → is_subckt words ≡ t
    → listed is_inputs (cond t (codes ".inputs" ∷ []) words ∷ map plain lines) ≡ listed is_inputs (words ∷ lines)
plain_listed-next words lines rest true is =
    rest ∙ sym (ap (λ k. flat_map arguments (cond (is_inputs k) (words ∷ filter (λ w. is_inputs (kind_of w)) lines) (filter (λ w. is_inputs (kind_of w)) lines))) (subckt_kind words is))
plain_listed-next words lines rest false is =
    listed_more (is_inputs (kind_of words)) words (filter (λ w. is_inputs (kind_of w)) (map plain lines)) (filter (λ w. is_inputs (kind_of w)) lines) rest

plain_listed : (lines : List Line) → listed is_inputs (map plain lines) ≡ listed is_inputs lines
plain_listed [] = refl
plain_listed (words ∷ lines) = plain_listed-next words lines (plain_listed lines) (is_subckt words) refl

plain_rows-next : (words : Line) (lines : List Line) → rows_first (map plain lines) ≡ rows_first lines → (t : Bool) → is_subckt words ≡ t
    → rows_first (cond t (codes ".inputs" ∷ []) words ∷ map plain lines) ≡ rows_first (words ∷ lines)
plain_rows-next words lines rest true is = sym (ap (λ k. if_row k (words ∷ rows_first lines) []) (subckt_kind words is))
plain_rows-next words lines rest false is = ap (λ rows. if_row (kind_of words) (words ∷ rows) []) rest

plain_rows : (lines : List Line) → rows_first (map plain lines) ≡ rows_first lines
plain_rows [] = refl
plain_rows (words ∷ lines) = plain_rows-next words lines (plain_rows lines) (is_subckt words) refl

first_in : (k : Kind) (words : Line) (lines more : List Line) (rest : List NamedTable) (t : NamedTable) → rows_first more ≡ rows_first lines → IsIn t (table_first k words lines [])
    → IsIn t (table_first k words more rest)
first_in kind.Names words lines more rest t same (inl e) = inl (ap (with_rows (named (arguments words))) same ∙ e)
first_in kind.Names words lines more rest t same (inr h) = absurd h
first_in kind.Model words lines more rest t same h = absurd h
first_in kind.Inputs words lines more rest t same h = absurd h
first_in kind.Outputs words lines more rest t same h = absurd h
first_in kind.End words lines more rest t same h = absurd h
first_in kind.Command words lines more rest t same h = absurd h
first_in kind.Row words lines more rest t same h = absurd h

later_in : (k : Kind) (words : Line) (lines : List Line) (rest : List NamedTable) (t : NamedTable) → IsIn t rest → IsIn t (table_first k words lines rest)
later_in kind.Names words lines rest t h = inr h
later_in kind.Model words lines rest t h = h
later_in kind.Inputs words lines rest t h = h
later_in kind.Outputs words lines rest t h = h
later_in kind.End words lines rest t h = h
later_in kind.Command words lines rest t h = h
later_in kind.Row words lines rest t h = h

same_table : (t u : NamedTable) → names_part t ≡ names_part u → t ≡ u
same_table t u e = cc

here_in : (s : Statement) (lines : List Line) (t : NamedTable) (b : Bool) → is_subckt s.words ≡ b
    → IsIn (names_part t) (cond b (subckt_part (subcircuit_of s) ∷ []) (map names_part (table_first (kind_of s.words) s.words lines [])))
    → IsIn t (tables_of (cond b (codes ".inputs" ∷ []) s.words ∷ map plain lines))
here_in s lines t true is (inl e) = cc
here_in s lines t true is (inr h) = absurd h
here_in s lines t false is h =
    let from = from_map names_part (names_part t) (table_first (kind_of s.words) s.words lines []) h in
    let inside = first_in (kind_of s.words) s.words lines (map plain lines) (tables_of (map plain lines)) from.from (plain_rows lines) from.inside in
    subst (λ u. IsIn u (tables_of (s.words ∷ map plain lines))) (same_table from.from t from.is) inside

tables_in : (lines : List Statement) (t : NamedTable) → IsIn (names_part t) (parts_of lines) → IsIn t (tables_of (map plain (words_in lines)))
tables_in [] t h = absurd h
tables_in (s ∷ rest) t h =
    elim (in_append (names_part t) (part_first s (words_in rest)) (parts_of rest) h) [
      | inl here ↦ here_in s (words_in rest) t (is_subckt s.words) refl here
      | inr later ↦
          later_in (kind_of (plain s.words)) (plain s.words) (map plain (words_in rest)) (tables_of (map plain (words_in rest))) t (tables_in rest t later)
    ]

-- ---- the names in `.subckt` lines

same_use : (c d : Subcircuit) → subckt_part c ≡ subckt_part d → c ≡ d
same_use c d e = cc

use_in : (s : Statement) (lines : List Line) (c : Subcircuit) (b : Bool) → is_subckt s.words ≡ b
    → IsIn (subckt_part c) (cond b (subckt_part (subcircuit_of s) ∷ []) (map names_part (table_first (kind_of s.words) s.words lines [])))
    → (is_subckt s.words ≡ true) × (subcircuit_of s ≡ c)
use_in s lines c true is (inl e) = (is, same_use (subcircuit_of s) c e)
use_in s lines c true is (inr h) = absurd h
use_in s lines c false is h = let from = from_map names_part (subckt_part c) (table_first (kind_of s.words) s.words lines []) h in let e = from.is in absurd (no_table from.from e)
  where
    no_table : (t : NamedTable) → names_part t ≡ subckt_part c → ⊥
    no_table t e = cc

bound_names : (words : List Bytes) → is_use words ≡ true → (b : Binding) → IsIn b (map binding_of (arguments words)) → IsName b.actual
bound_names words e b inside =
    let from = from_map binding_of b (arguments words) inside in
    let all = (and_parts (is_name (first_word words)) (list_all is_binding (arguments words)) e).1 in
    let test : is_binding from.from ≡ true = passed_in is_binding from.from (arguments words) all from.inside in
    let actual = (and_parts (is_name (binding_of from.from).formal) (is_name (binding_of from.from).actual) test).1 in
    subst (λ (b : Binding). IsName b.actual) from.is (IsName-from_test (binding_of from.from).actual actual)

uses_in : (lines : List Statement) (c : Subcircuit) → UsesRight lines → IsIn (subckt_part c) (parts_of lines) → (b : Binding) → IsIn b c.bindings → IsName b.actual
uses_in [] c right h b inside = absurd h
uses_in (s ∷ rest) c right h b inside =
    elim (in_append (subckt_part c) (part_first s (words_in rest)) (parts_of rest) h) [
      | inl here ↦
          let found = use_in s (words_in rest) c (is_subckt s.words) refl here in
          bound_names (arguments s.words) (right.0 found.0) b (subst (λ (d : Subcircuit). IsIn b d.bindings) (sym found.1) inside)
      | inr later ↦ uses_in rest c right.1 later b inside
    ]

-- ---- models

all_members : (P : NamedTable → Type 0) (ts : List NamedTable) (t : NamedTable) → All P ts → IsIn t ts → P t
all_members P ts t all inside = all_in P t ts (recursion_from_All P ts all) inside

net_model : (lines : List Line) → (named_net lines).model ≡ model_of lines
unfolding named_net
net_model lines = refl

net_inputs : (lines : List Line) → (named_net lines).inputs ≡ listed is_inputs lines
unfolding named_net
net_inputs lines = refl

net_tables : (lines : List Line) → (named_net lines).tables ≡ tables_of lines
unfolding named_net
net_tables lines = refl

formed_model : (lines : List Statement) → IsRightModel lines → IsFormed (model_from lines)
formed_model lines h =
    let words : List Line = words_in lines in
    let net : IsNamedNet (named_net (map plain words)) = names_formed (map plain words) h.right in
    record {
      name = subst IsName (net_model (map plain words) ∙ plain_model words) net.model;
      inputs = subst (All IsName) (net_inputs (map plain words) ∙ plain_listed words) net.inputs;
      tables = λ t inside. all_members IsNamedTable (tables_of (map plain words)) t (subst (All IsNamedTable) (net_tables (map plain words)) net.tables) (tables_in lines t inside);
      actuals = λ c inside. uses_in lines c h.uses inside;
    }

AllFormed : Hierarchy → Type 0
AllFormed h = (m : BlifModel) → IsIn m h → IsFormed m

formed_from : (sections : List (List Statement)) → AllByRecursion IsRightModel sections → AllFormed (map model_from sections)
unfolding AllFormed
formed_from sections all m inside =
    let from = from_map model_from m sections inside in
    subst IsFormed from.is (formed_model from.from (all_in IsRightModel from.from sections all from.inside))

formed_all : (before : List Statement) (sections : List (List Statement)) → IsRightModel before → AllByRecursion IsRightModel sections → (t : Bool)
    → AllFormed (map model_from (cond t sections (before ∷ sections)))
formed_all before sections first all true = formed_from sections all
formed_all before sections first all false = formed_from (before ∷ sections) (first, all)

pub formed : (lines : List Statement) → first_wrong lines ≡ None → (m : BlifModel) → IsIn m (hierarchy_of lines) → IsFormed m
unfolding AllFormed first_wrong hierarchy_of
formed lines none =
    let found : Sections = sections_of lines in
    let right = models_right lines none in
    formed_all found.before found.sections right.before right.sections (length found.before == 0 && not (length found.sections == 0))

-- the model of a name, if there is none also
pub record HasFormedParts (m : BlifModel) : Type 0 where
  pub tables : (t : NamedTable) → IsIn (names_part t) m.parts → IsNamedTable t
  pub actuals : (c : Subcircuit) → IsIn (subckt_part c) m.parts → (b : Binding) → IsIn b c.bindings → IsName b.actual

pub formed_named : (h : Hierarchy) → ((m : BlifModel) → IsIn m h → IsFormed m) → (name : Bytes) → HasFormedParts (model_named h name)
formed_named h all name = at_found (find (λ m. bytes_eq m.name name) h) refl
  where
    at_found : (o : Option BlifModel) → find (λ m. bytes_eq m.name name) h ≡ o → HasFormedParts (elim o [ None ↦ no_model | Some m ↦ m ])
    at_found None e = record { tables = λ t inside. absurd inside; actuals = λ c inside b bound. absurd inside }
    at_found (Some m) e = let here = all m (found_in (λ m. bytes_eq m.name name) m h e).0 in record { tables = here.tables; actuals = here.actuals }
