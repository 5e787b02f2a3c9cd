use Rattle.std.proofs.Common.{sym, ◌∙◌, ap, Some}
use Rattle.command_words.specs.Names.{names_of}
use Rattle.command_words.proofs.JobWords.{task_words, refined_itself, certified, refined_another}
use Rattle.command_words.proofs.words.task.Goals as goal
use Rattle.command_words.proofs.words.task.Goals.{in_default-task-via-in-Refine+else-eq, in_default-task-via-in_default-task}

pub returns-in-Refine-clause-job : goal.returns-in-Refine-clause-job
returns-in-Refine-clause-job c =
    let names = names_of (record { input = c.bytes-4.result; second = c.bytes-5.result; stem = c.bytes-6.result }) in
    let found =
    task_words c.args.task c.in_ok-aim.aim names c.args.words.now c.bytes.result.now c.bytes-2.result.now c.bytes-3.result.now c.in-len6.len_at_least c.in-len6.len_below
    (c.metric-item.result, c.bytes.ensures, c.metric-item.is) (c.bound-item.result, c.bytes-2.ensures, c.bound-item.is) (c.conflicts-item.result, c.bytes-3.ensures, c.conflicts-item.is)
    (c.input-item.result, c.bytes-4.ensures, c.input-item.is) (c.second-item.result, c.bytes-5.ensures, c.second-item.is) (c.stem-item.result, c.bytes-6.ensures, c.stem-item.is)
    (sym c.in_ok-aim.ensures.value) (sym c.are_task_names.ensures ∙ c.if-not-are_task_names.false) in
    ap Some (sym (refined_itself c.args.task c.in_ok-aim.aim names c.in-Refine.is (sym c.eq.ensures ∙ c.if-eq.true))) ∙ sym found

pub returns-in_default-task-clause-job : goal.returns-in_default-task-clause-job
returns-in_default-task-clause-job c =
    let names = names_of (record { input = c.bytes-4.result; second = c.bytes-5.result; stem = c.bytes-6.result }) in
    let found =
    task_words c.args.task c.in_ok-aim.aim names c.args.words.now c.bytes.result.now c.bytes-2.result.now c.bytes-3.result.now c.in-len6.len_at_least c.in-len6.len_below
    (c.metric-item.result, c.bytes.ensures, c.metric-item.is) (c.bound-item.result, c.bytes-2.ensures, c.bound-item.is) (c.conflicts-item.result, c.bytes-3.ensures, c.conflicts-item.is)
    (c.input-item.result, c.bytes-4.ensures, c.input-item.is) (c.second-item.result, c.bytes-5.ensures, c.second-item.is) (c.stem-item.result, c.bytes-6.ensures, c.stem-item.is)
    (sym c.in_ok-aim.ensures.value) (sym c.are_task_names.ensures ∙ c.if-not-are_task_names.false) in
    elim c.in_default-task.branch [
      | in_default-task-via-in-Refine+else-eq w ↦ ap Some (sym (refined_another c.args.task c.in_ok-aim.aim names (sym w.eq.ensures ∙ w.if-eq.false))) ∙ sym found
      | in_default-task-via-in_default-task w ↦ ap Some (sym (certified c.args.task c.in_ok-aim.aim names w.in_default-task.is)) ∙ sym found
    ]
