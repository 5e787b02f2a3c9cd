use Rattle.std.proofs.Common.{◌≡◌, map, take}
use Rattle.hier_parts.specs.Users.{user_table}
use Rattle.hier_parts.proofs.users.user_tables.Given as goal

abbrev pub invariant-loop-m : goal.invariant-loop-m
invariant-loop-m l = l.tables.items ≡ map (user_table l.names) (take l.m-index l.models)
