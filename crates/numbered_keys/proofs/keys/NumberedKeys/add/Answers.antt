use Rattle.std.proofs.Common.{◌≡◌, ◌++◌, ◌∷◌, [], Some, cond, length, position, ap, sym, ◌∙◌, arith}
use Rattle.std.specs.BTreeMap.{get}
use Rattle.std.specs.List.{list_any}
use Rattle.std.specs.Ordering.{is_eq}
use Rattle.numbered_keys.proofs.Places.{places-next}
use Rattle.numbered_keys.proofs.keys.NumberedKeys.add.Goals as goal

pub invariant_of-self-2 : goal.invariant_of-self-2
invariant_of-self-2 g c = λ q.
    let key = c.args.key in
    let keys = c.self.inside.keys.items in
    let equal = g.K.PartialEq.eq in
    let before = get g.K.Ord.cmp c.self.inside.places in
    let count : c.len.result ≡ length keys = omega (arith, c.len.ensures, ap length c.in_ok-reserve.ensures.items) in
    places-next g.met.K.Eq.laws keys key (λ x. is_eq (g.K.Ord.cmp key x)) before (get g.K.Ord.cmp c.insert.new.self)
    (λ x. g.met.K.Ord.matches_eq key x)
    (ap (list_any (equal key)) c.self.view_is ∙ sym c.contains.ensures ∙ c.if-contains.false)
    c.self.invariant
    (λ x. c.in_ok-insert.ensures.updates.0 x ∙ ap (λ n. cond (is_eq (g.K.Ord.cmp key x)) (Some n) (before x)) count)
    q
    ∙ ap (position (equal q)) (sym (c.in_ok-push.ensures.items ∙ ap (λ v. v ++ key ∷ []) c.in_ok-reserve.ensures.items))
