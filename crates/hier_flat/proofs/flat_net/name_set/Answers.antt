use Rattle.std.proofs.Common.{◌≡◌, IfOk, ap, subst, ◌∙◌, []}
use Rattle.text_words.specs.Slices.{texts}
use Rattle.hier_parts.specs.Sets.{with_names}
use Rattle.hier_flat.proofs.flat_net.name_set.Goals as goal

pub returns : goal.returns
returns c = subst (λ l. IfOk c.set_of.result (λ known. known ≡ with_names [] l)) (ap texts c.deref.ensures.value ∙ c.in_ok-names.ensures) c.set_of.ensures.is
