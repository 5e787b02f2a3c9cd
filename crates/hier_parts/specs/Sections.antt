-- The lines of models, cut one after another, and what the code holds of a part.
use Rattle.std.specs.Prelude.{◌≡◌, ℕ, zero, suc, ◌+◌, Bool, List, [], ◌∷◌, map, drop, if◌then◌else◌}
use Rattle.semantics.specs.Texts.{Line}
use Rattle.blif_semantics.specs.declared.kind.Kind.{Kind}
use Rattle.blif_semantics.specs.Lines.{Statement}
use Rattle.blif_semantics.specs.Statements.{kind_of, is_model}
use Rattle.blif_semantics.specs.Reading.{is_inputs, is_outputs}
use Rattle.hierarchy_semantics.specs.Models as m
use Rattle.hierarchy_semantics.specs.Models.{BlifModel, model_from, sections_of, all_sections, is_port}
use Rattle.hier_parts.specs.declared.models.Part.{Part}
use Rattle.hier_parts.specs.declared.models.Part.TheVariants.{Names, Use}
use Rattle.hier_parts.specs.declared.models.Listing.{Listing}
use Rattle.hier_parts.specs.declared.models.Listing.TheVariants.{Ports, Inputs, Outputs}

abbrev pub words_in : List Statement → List Line
words_in lines = map (λ t. t.words) lines

-- the value of what the code holds
abbrev pub part_value : Part → m.Part
part_value (Names t) = m.names_part t
part_value (Use c) = m.subckt_part c

-- the kinds of lines that list such ports
abbrev pub kinds_of : Listing → Kind → Bool
kinds_of Ports = is_port
kinds_of Inputs = is_inputs
kinds_of Outputs = is_outputs

-- the number of lines before the first `.model`
abbrev pub leading : List Statement → ℕ
leading [] = 0
leading (s ∷ rest) = if is_model (kind_of s.words) then 0 else suc (leading rest)

-- where the model that begins at this line ends
abbrev pub section_end : List Statement → ℕ → ℕ
section_end lines start = start + 1 + leading (drop (start + 1) lines)

-- the models that are left: all, or those that begin at or after this line
abbrev pub models_from : List Statement → ℕ → List BlifModel
models_from lines zero = map model_from (all_sections (sections_of lines))
models_from lines (suc i) = map model_from (sections_of (drop (suc i) lines)).sections

-- a model begins there, or there are no lines
abbrev pub Begins : List Statement → ℕ → Type 0
Begins lines zero = Unit {0}
Begins lines (suc i) = (sections_of (drop (suc i) lines)).before ≡ []
