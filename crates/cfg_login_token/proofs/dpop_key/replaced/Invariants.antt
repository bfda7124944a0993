use Rattle.std.proofs.Common.{◌≡◌, ◌++◌, length, string_bytes}
use Rattle.cfg_base.specs.Text.{characters}
use Rattle.cfg_login_token.specs.DpopKeys.{with_line_feeds}
use Rattle.cfg_login_token.proofs.dpop_key.replaced.Given as goal

abbrev pub invariant-loop-c : goal.invariant-loop-c
invariant-loop-c l = characters (string_bytes l.out) ++ with_line_feeds l.rest ≡ with_line_feeds l.fn.all

abbrev pub decreases-loop-c : goal.decreases-loop-c
decreases-loop-c l = length l.rest
