-- Replies by their kinds.
use Rattle.std.specs.Prelude.{Option, Some, None, Result, Ok, Err}
use Rattle.cfg_types.specs.declared.reply.Reply.{Reply}
use Rattle.cfg_types.specs.declared.reply.Reply.TheVariants as reply
use Rattle.cfg_types.specs.declared.reply.Refusal.{Refusal}
use Rattle.cfg_types.specs.declared.reply.http.HttpReply.{HttpReply}
use Rattle.cfg_types.specs.declared.reply.sts.StsReply.{StsReply}
use Rattle.cfg_types.specs.declared.reply.sso.RoleReply.{RoleReply}
use Rattle.cfg_types.specs.declared.reply.sso.TokenReply.{TokenReply}
use Rattle.cfg_types.specs.declared.reply.sign_in.SignInReply.{SignInReply}

-- the reply to an HTTP request
abbrev pub http_in : Reply → Option HttpReply
http_in (reply.Http given) = Some given
http_in _ = None

-- the reply of the Security Token Service, or its refusal
abbrev pub sts_in : Reply → Option (Result StsReply Refusal)
sts_in (reply.Sts given) = Some (Ok given)
sts_in (reply.Refused refusal) = Some (Err refusal)
sts_in _ = None

-- the reply to `GetRoleCredentials`, or its refusal
abbrev pub role_in : Reply → Option (Result RoleReply Refusal)
role_in (reply.Role given) = Some (Ok given)
role_in (reply.Refused refusal) = Some (Err refusal)
role_in _ = None

-- the reply to `CreateToken`, or its refusal
abbrev pub token_in : Reply → Option (Result TokenReply Refusal)
token_in (reply.Token given) = Some (Ok given)
token_in (reply.Refused refusal) = Some (Err refusal)
token_in _ = None

-- the reply to `CreateOAuth2Token`, or its refusal
abbrev pub sign_in_in : Reply → Option (Result SignInReply Refusal)
sign_in_in (reply.SignIn given) = Some (Ok given)
sign_in_in (reply.Refused refusal) = Some (Err refusal)
sign_in_in _ = None
