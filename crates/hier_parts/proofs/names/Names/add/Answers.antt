use Rattle.std.proofs.Common.{not, ap, ◌∙◌, List}
use Rattle.semantics.specs.Texts.{Bytes}
use Rattle.semantics.specs.Refusals.{has_name}
use Rattle.blif_text.proofs.Places.{has_name-texts}
use Rattle.hier_parts.proofs.Sets.{texts-insert}
use Rattle.hier_parts.proofs.names.Names.add.Goals as goal

pub returns-clause-new : goal.returns-clause-new
returns-clause-new c =
    let name = c.args.name.now in
    c.in_ok-is_new.ensures.new ∙ ap not (has_name-texts name _) ∙ ap (λ (v : List Bytes). not (has_name v name)) c.self.view_is

pub returns-clause-added : goal.returns-clause-added
returns-clause-added c = texts-insert _ _ c.args.name _ c.in_ok-is_new.ensures.keys c.self.view_is
