use Rattle.std.proofs.Common.{◌≡◌, true, sym, subst}
use Rattle.std.proofs.lemmas.Result.{err_from_is_err_and}
use Rattle.net_errors.specs.Compared.{NetPair}
use Rattle.job_semantics.specs.declared.ending.Ending.TheVariants as file
use Rattle.job_semantics.specs.declared.certificate_clause.Clause.TheVariants as clause
use Rattle.bundle_texts.specs.FilesRead.{IsNetIn}
use Rattle.bundle.specs.Judging.{TextRead, TextUnread, Answers, NothingKnown, NetKnown}
use Rattle.std.proofs.Common.{Some, None}
use Rattle.bundle.specs.Loading.{of_stem}
use Rattle.bundle.proofs.JudgedTexts.{no_netlist, other_ports, netlist_needed}
use Rattle.bundle.proofs.ToldAnswers.{answers_unread, answers_failing, answers_later}
use Rattle.bundle.proofs.judging.check_netlist.Goals as goal

pub returns-in_err-approx : goal.returns-in_err-approx
returns-in_err-approx g c =
    let N = c.args.net.now in
    let stem = c.args.stem.now in
    let old = g.F.Files.told c.args.files.now in
    let new = g.F.Files.told c.read_netlist.new.files in
    let p = err_from_is_err_and c.from_residual.result c.from_residual.ensures.1 in
    rw p.1
    (answers_unread g.L.ItemSink.holds (of_stem c.args.claim N stem) old new file.Netlist NothingKnown p.0
    (subst (λ n. TextUnread old new n p.0) c.name.ensures (subst (TextUnread old new c.name.result.now) (sym p.2) c.in_err-approx.ensures.err))
    (λ texts known. netlist_needed c.args.claim N texts))

pub returns-in_default : goal.returns-in_default
returns-in_default g c =
    let N = c.args.net.now in
    let stem = c.args.stem.now in
    let old = g.F.Files.told c.args.files.now in
    let new = g.F.Files.told c.read_netlist.new.files in
    let was = subst (λ n. TextRead old new n (IsNetIn None)) c.name.ensures (subst (λ o. TextRead old new c.name.result.now (IsNetIn o)) c.in_default.is c.in_ok-approx.ensures.ok) in
    answers_failing g.L.ItemSink.holds (of_stem c.args.claim N stem) old new file.Netlist (IsNetIn None) NothingKnown clause.Netlist was
    (λ texts known. netlist_needed c.args.claim N texts)
    (λ texts known none. no_netlist c.args.claim N texts none)

pub returns-then-not-same_ports : goal.returns-then-not-same_ports
returns-then-not-same_ports g c =
    let N = c.args.net.now in
    let stem = c.args.stem.now in
    let old = g.F.Files.told c.args.files.now in
    let new = g.F.Files.told c.read_netlist.new.files in
    let M = c.in-Some.approx in
    let was =
    subst (λ n. TextRead old new n (IsNetIn (Some M))) c.name.ensures (subst (λ o. TextRead old new c.name.result.now (IsNetIn o)) c.in-Some.is c.in_ok-approx.ensures.ok) in
    answers_failing g.L.ItemSink.holds (of_stem c.args.claim N stem) old new file.Netlist (IsNetIn (Some M)) NothingKnown clause.Ports was
    (λ texts known. netlist_needed c.args.claim N texts)
    (λ texts known net. other_ports c.args.claim N texts M net (λ ports. let is : c.same_ports.result ≡ true = c.same_ports.ensures.1 ports in cc))

pub returns : goal.returns
returns g c =
    let N = c.args.net.now in
    let stem = c.args.stem.now in
    let old = g.F.Files.told c.args.files.now in
    let mid = g.F.Files.told c.read_netlist.new.files in
    let new = g.F.Files.told c.check_report.new.files in
    let M = c.in-Some.approx in
    let was =
    subst (λ n. TextRead old mid n (IsNetIn (Some M))) c.name.ensures (subst (λ o. TextRead old mid c.name.result.now (IsNetIn o)) c.in-Some.is c.in_ok-approx.ensures.ok) in
    answers_later g.L.ItemSink.holds (of_stem c.args.claim N stem) old mid new file.Netlist (IsNetIn (Some M)) NothingKnown (NetKnown N M) was
    (λ texts known. netlist_needed c.args.claim N texts)
    (λ texts known net. record { netlist = net; ports = c.same_ports.ensures.0 c.if-not-same_ports.false }) c.check_report.result
    (subst (λ (p : NetPair). Answers g.L.ItemSink.holds (of_stem c.args.claim p.exact stem) (NetKnown p.exact p.approx) mid new c.check_report.result) c.new-nets.ensures c.check_report.ensures)

pub new-nets-requires : goal.new-nets-requires
new-nets-requires g c = record { ports = c.same_ports.ensures.0 c.if-not-same_ports.false; few_outputs = c.requires.outputs }
