use Rattle.std.proofs.Common.{◌≡◌, Bool, true, false, None, Some, refl, sym, ap, ◌∙◌}
use Rattle.std.proofs.lemmas.Bool.{both_ways}
use Rattle.std.specs.FinMap.{contains_key}
use Rattle.semantics.specs.Texts.{Bytes}
use Rattle.outside_semantics.specs.Outside.{Held}
use Rattle.file_core.specs.Entries.{held_in, name_at}
use Rattle.file_core.specs.Sure.{SureValue, found, not_found}
use Rattle.file_core.proofs.Memory.{contains_key-first, contains_key-lacks}
use Rattle.file_core.proofs.Sure.{Opened-sure_given, Opened-sure_missing}
use Rattle.file_core.proofs.sure_files.SureFilesFiles.open_file.Goals as goal

-- what was found is told of the files as they were
given_as : (name : Bytes) (is_held : Bool) (h : Held) (m n : SureValue) → n ≡ m → n.given ≡ h → contains_key h name ≡ is_held → contains_key m.given name ≡ is_held
given_as name is_held h m n same is e = ap (λ v. contains_key v.given name) (sym same) ∙ ap (λ x. contains_key x name) is ∙ e

pub returns-in-Some-clause-ok : goal.returns-in-Some-clause-ok
returns-in-Some-clause-ok c =
    let h = held_in c.self.inside.files in
    let n : SureValue = record {
      given = h;
      told = c.self.inside.told;
      reading = Some (record { name = name_at c.self.inside.files c.in-Some.file; at = 0 });
      opened = c.open-self-inside.result.opened;
      turns = c.open-self-inside.result.turns;
    } in
    let is : n ≡ found c.args.self.now c.args.name.now =
    (λ i. record n { reading = Some (record { name = c.in-Some.ensures.named i; at = 0 }); opened = c.open-self-inside.ensures.0 i; turns = c.open-self-inside.ensures.1 i })
    ∙ ap (λ (m : SureValue). found m c.args.name.now) c.self.view_is in
    Opened-sure_given c.args.self.now n _ is (given_as c.args.name.now true h c.args.self.now _ c.self.view_is refl (contains_key-first c.in-Some.ensures))

pub returns-in-Some-clause-not_given : goal.returns-in-Some-clause-not_given
returns-in-Some-clause-not_given c =
    λ e. absurd (both_ways _ e (given_as c.args.name.now true (held_in c.self.inside.files) c.args.self.now _ c.self.view_is refl (contains_key-first c.in-Some.ensures)))

pub returns-in-None-clause-ok : goal.returns-in-None-clause-ok
returns-in-None-clause-ok c =
    let n : SureValue = record { given = held_in c.self.inside.files; told = false; reading = None; opened = c.open-self-inside.result.opened; turns = c.open-self-inside.result.turns } in
    let is : n ≡ not_found c.args.self.now c.args.name.now =
    (λ i. record n { opened = c.open-self-inside.ensures.0 i; turns = c.open-self-inside.ensures.1 i }) ∙ ap (λ (m : SureValue). not_found m c.args.name.now) c.self.view_is in
    Opened-sure_missing c.args.self.now n _ is
    (given_as c.args.name.now false (held_in c.self.inside.files) c.args.self.now _ c.self.view_is refl (contains_key-lacks _ _ c.in-None.ensures))

pub returns-in-None-clause-given : goal.returns-in-None-clause-given
returns-in-None-clause-given c =
    λ e. absurd (both_ways _ (given_as c.args.name.now false (held_in c.self.inside.files) c.args.self.now _ c.self.view_is refl (contains_key-lacks _ _ c.in-None.ensures)) e)
