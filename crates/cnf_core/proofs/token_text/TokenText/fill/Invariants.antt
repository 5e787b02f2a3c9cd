use Rattle.std.proofs.Common.{◌≡◌, ◌-◌, ◌<◌, ◌≤◌, ◌++◌, [], length, take, drop}
use Rattle.cnf_core.proofs.token_text.TokenText.fill.Given as goal

-- what was filled and what is left are the text, and the rest of the buffer is as it was
abbrev pub invariant-loop-filled : goal.invariant-loop-filled
invariant-loop-filled g l = record {
  text : take l.filled l.buf ++ (l.self-inside.token ++ g.T.Tokens.rest l.self-inside.tokens) ≡ l.fn.self;
  used_up : l.filled < length l.buf → l.self-inside.token ≡ [];
  kept : drop l.filled l.buf ≡ drop l.filled l.fn.buf;
  within : l.filled ≤ length l.buf;
}

abbrev pub decreases-loop-filled : goal.decreases-loop-filled
decreases-loop-filled g l = length l.buf - l.filled
