use Rattle.std.proofs.Common.{map, subst}
use Rattle.merge_log.specs.Forms.{form_value, IsNumbered}
use Rattle.merge_log.proofs.Numbered.{numbered, are_alike, alike_same, same_alike}
use Rattle.merge_log.proofs.form.FormSet.number.Goals as goal

pub returns : goal.returns
returns c =
    let stored = c.in_ok-at.ensures.stored in
    subst (λ old. IsNumbered old (map form_value c.insert_full.new.self.keys) (form_value c.args.form) c.in_ok-at.at) c.self.view_is
    (numbered are_alike alike_same same_alike c.self.inside.forms.keys c.insert_full.new.self.keys c.args.form stored.0 c.in_ok-at.at c.in_ok-at.ensures.keys c.in_ok-at.ensures.index
    c.in_ok-at.ensures.within stored.1 stored.2)
