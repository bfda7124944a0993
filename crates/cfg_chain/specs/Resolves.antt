-- What a finished call of the default chain is: the parts of its members, one after the other, each
-- with its cause.
use Rattle.std.specs.Prelude.{List, []}
use Rattle.cfg_world.specs.Fits.{Pair}
use Rattle.cfg_kept.specs.Kinds.{Value}
use Rattle.cfg_kept.specs.KeptInquiry.{Reads}
use Rattle.cfg_providers.specs.CustomSources.{Answer}
use Rattle.cfg_chain.specs.declared.member.Member.{Member}
use Rattle.cfg_chain.specs.Settings.{Setting}
use Rattle.cfg_chain.specs.Members.{member_tree, credentials_chain, default_members}
use Rattle.cfg_kept.specs.ChainParts.{AreParts}
use Rattle.cfg_chain.specs.Causes.{Cause}

-- The part of a member: over it the member answers so, and the answer has its cause.
pub record IsPart (s : Setting) (member : Member) (found : List Value) (part : List Pair) (out : Answer) : Type 0 where
  pub reads : Reads (member_tree s member) found part out
  pub cause : Cause s member found part out

-- A call of the default chain found these values kept, has this journal, and came to this outcome.
abbrev pub Resolves : Setting → List Value → List Pair → Answer → Type 0
Resolves s found journal out = AreParts (credentials_chain s) (IsPart s) default_members [] found journal out
