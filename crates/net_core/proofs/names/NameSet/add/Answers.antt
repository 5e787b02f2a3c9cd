use Rattle.std.proofs.Common.{not, ap, ◌∙◌, List}
use Rattle.semantics.specs.Texts.{Bytes}
use Rattle.semantics.specs.Refusals.{has_name}
use Rattle.net_core.proofs.Keys.{has_name-keys}
use Rattle.net_core.proofs.names.NameSet.add.Goals as goal

pub returns-clause-new : goal.returns-clause-new
returns-clause-new c =
    let name = c.bytes.result.now in
    c.in_ok-is_new.ensures.new ∙ ap not (has_name-keys name _) ∙ ap (λ (v : List Bytes). not (has_name v name)) c.self.view_is ∙ ap (λ (n : Bytes). not (has_name c.args.self.now n))
    c.bytes.ensures.value
