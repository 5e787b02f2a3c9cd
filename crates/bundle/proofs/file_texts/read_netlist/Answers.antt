use Rattle.std.proofs.Common.{Some, None, ap, subst, sym, ◌∙◌}
use Rattle.std.proofs.lemmas.Result.{err_from_is_err_and}
use Rattle.semantics.specs.declared.limits.TheConstants.{MOST_BUNDLE_BYTES}
use Rattle.blif_semantics.specs.Reading.{blif_reading}
use Rattle.blif_semantics.proofs.ReadNet.{read_small}
use Rattle.file_reading.specs.Front.{FrontValue}
use Rattle.file_reading.specs.Refused.{FileUnread}
use Rattle.bundle_texts.specs.FilesRead.{IsNetIn}
use Rattle.bundle.proofs.FileTexts.{reading_front, refused_text}
use Rattle.bundle.proofs.ToldAnswers.{text_read, text_unread}
use Rattle.bundle.proofs.file_texts.read_netlist.Goals as goal

pub returns-in_err-read_file-clause-err : goal.returns-in_err-read_file-clause-err
returns-in_err-read_file-clause-err g c =
    let p = err_from_is_err_and c.from_residual.result c.from_residual.ensures.1 in
    let old = g.F.Files.told c.args.files.now in
    let new = g.F.Files.told c.read_file.new.files in
    let text = c.read_file.new.intake.bytes in
    rw p.1 (text_unread old new c.args.name.now text p.0 (subst (FileUnread old new c.args.name.now text) (sym p.2) c.in_err-read_file.ensures.err))

pub returns-in-Ok-clause-ok : goal.returns-in-Ok-clause-ok
returns-in-Ok-clause-ok g c =
    let front = c.read_file.new.intake in
    let limit = c.in_ok-read_file.ensures.aim ∙ ap (λ (v : FrontValue). v.limit) c.new-front.ensures in
    text_read (IsNetIn (Some c.in-Ok.net)) c.in_ok-read_file.ensures.ok
    (λ content wanted. sym (reading_front content front.bytes front.limit limit wanted) ∙ ap (λ t. blif_reading t MOST_BUNDLE_BYTES) (sym c.bytes.ensures.value) ∙ c.in-Ok.ensures.ok)

pub returns-in-Ok-clause-small : goal.returns-in-Ok-clause-small
returns-in-Ok-clause-small g c = read_small c.bytes.result.now MOST_BUNDLE_BYTES c.in-Ok.net c.in-Ok.ensures.ok

pub returns : goal.returns
returns g c =
    let front = c.read_file.new.intake in
    let limit = c.in_ok-read_file.ensures.aim ∙ ap (λ (v : FrontValue). v.limit) c.new-front.ensures in
    record {
      ok = text_read (IsNetIn None) c.in_ok-read_file.ensures.ok
          (λ content wanted.
          refused_text c.in-Err.refusal content c.bytes.result.now
          (ap (λ t. blif_reading t MOST_BUNDLE_BYTES) c.bytes.ensures.value ∙ reading_front content front.bytes front.limit limit wanted) c.in-Err.ensures.err c.in_default.not-OutOfMemory);
      small = tt;
      err = tt;
    }
