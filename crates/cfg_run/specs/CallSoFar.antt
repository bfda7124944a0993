-- How far a call is, and what is kept.
use Rattle.std.specs.Prelude.{List, Option, Some, None}
use Rattle.cfg_world.specs.declared.ask.Question.{Question}
use Rattle.cfg_world.specs.Fits.{Pair}
use Rattle.cfg_token.specs.declared.token_key.TokenKey.{TokenKey}
use Rattle.cfg_kept.specs.declared.kept.Kept.{Kept}
use Rattle.cfg_kept.specs.Kinds.{Value, States}
use Rattle.cfg_chain.specs.declared.member.Member.{Member}

-- whose token is kept; the kept states at the start, and now; the values that were found; the receipts that were
-- handed in, in order; and the question that is shown, if one is, and the member of the chain that asks it
pub record CallSoFar : Type 0 where
  pub key : Option TokenKey
  pub base : States
  pub kept : States
  pub found : List Value
  pub asked : List Pair
  pub question : Option Question
  pub member : Option Member

-- what is kept: as the last poll left it, and before there was one, as at the start
abbrev pub kept_now : Kept → Option Kept → Kept
kept_now base (Some kept) = kept
kept_now base None = base
