use Rattle.std.proofs.Common.{[], length, take, zero-add, arith}
use Rattle.cnf_core.proofs.Pieces.{given_more, used_up, kept_more, next_token}
use Rattle.cnf_core.proofs.token_text.TokenText.fill.Goals as goal

pub loop-filled-init : goal.loop-filled-init
loop-filled-init g c =
    let a = c.self.inside in
    let count = c.give-filled.result in
    let gave = c.give-filled.ensures in
    let left = c.give-filled.new.self in
    record {
      text = rw zero-add at (given_more [] a.token left (g.T.Tokens.rest a.tokens) c.args.self.now c.give-filled.new.buf 0 count c.self.view_is gave.rest gave.written);
      used_up = λ less. used_up a.token left 0 count (length c.args.buf.now) gave.rest gave.count (omega (arith, less, c.give-filled.auto.buf));
      kept = rw zero-add at gave.kept;
      within = omega (arith, gave.count, c.give-filled.auto.buf);
    }

pub loop-filled-preserved : goal.loop-filled-preserved
loop-filled-preserved g c =
    let l = c.loop-filled in
    let tokens = g.T.Tokens.rest c.next.new.self in
    let gave = c.give-filled-in-loop-filled.ensures in
    let count = c.give-filled-in-loop-filled.result in
    let left = c.give-filled-in-loop-filled.new.self in
    let buf = c.give-filled-in-loop-filled.new.buf in
    record {
      text = given_more (take l.filled l.buf) c.next.new.token left tokens c.args.self.now buf l.filled count
          (next_token (take l.filled l.buf) l.self-inside.token (g.T.Tokens.rest l.self-inside.tokens) c.next.new.token tokens c.args.self.now l.invariant.text
          (l.invariant.used_up c.loop-filled-test.true) c.if-not-next.ensures.0) gave.rest gave.written;
      used_up = λ less. used_up c.next.new.token left l.filled count (length l.buf) gave.rest gave.count (omega (arith, less, c.give-filled-in-loop-filled.auto.buf));
      kept = kept_more c.args.buf.now l.buf buf l.filled count l.invariant.kept gave.kept;
      within = omega (arith, gave.count, l.invariant.within, c.give-filled-in-loop-filled.auto.buf);
    }
