-- Replies to requests, commands and look-ups.
use Rattle.std.specs.Prelude.{ℕ, ℤ, List, bytes_eq, is_some, codes, Option, Some, None, Result, Ok, Err, if◌then◌else◌}
use Rattle.serde_json.specs.Data.{Data}
use Rattle.serde_json.specs.Find.{as_str, as_null}
use Rattle.cfg_base.specs.Moment.{Moment}
use Rattle.cfg_base.specs.declared.address.Address.{Address}
use Rattle.cfg_types.specs.declared.command.Finished.{Finished}
use Rattle.cfg_types.specs.declared.reply.Reply.{Reply}
use Rattle.cfg_types.specs.declared.reply.Reply.TheVariants as reply
use Rattle.cfg_types.specs.declared.reply.FailKind.{FailKind}
use Rattle.cfg_types.specs.declared.reply.FailKind.TheVariants as fail
use Rattle.cfg_types.specs.declared.reply.RefusalKind.{RefusalKind}
use Rattle.cfg_types.specs.declared.reply.RefusalKind.TheVariants as kind
use Rattle.cfg_types.specs.declared.reply.http.Header.{Header}
use Rattle.cfg_script.specs.Json.{◌>>=◌}
use Rattle.cfg_script.specs.Forms.{Form, whole_form, standing_for, list_of, list_by, pair_of, triple_of, text_or, by_member}
use Rattle.cfg_script.specs.Objects.{ObjectForm, optional_member, required_member, ◌&◌, nothing_more, object_of}
use Rattle.cfg_script.specs.Scalars.{characters_of, signed_integer, content, command_status, http_status, header_name}
use Rattle.cfg_script.specs.Moments.{moment}
use Rattle.cfg_script.specs.Addresses.{address}
use Rattle.cfg_script.specs.declared.fault.Fault.{Fault}
use Rattle.cfg_script.specs.declared.fault.Wanted.TheVariants as wanted

-- ---- what failed

-- why a send failed
abbrev pub fail_kind : List ℕ → Option FailKind
fail_kind name =
    if bytes_eq name (codes "dispatch") then Some fail.Dispatch
    else (if bytes_eq name (codes "timeout") then Some fail.Timeout
    else (if bytes_eq name (codes "broken") then Some fail.Broken
    else None))

-- a send that failed
abbrev pub failed_send : List ℕ → Option (Result Reply FailKind)
failed_send name = fail_kind name >>= λ k. Some (Err k)

-- a command or a look-up that failed
abbrev pub failed : {A : Type 0} → List ℕ → Option (Result A FailKind)
failed name = if bytes_eq name (codes "fail") then Some (Err fail.Io) else None

-- ---- commands and look-ups

-- a command: [status, output, errors], or "fail"
abbrev pub command : Form (Result Finished FailKind)
command = text_or wanted.Command failed
    (standing_for (λ t. Ok (record { status = t.0; output = t.1; errors = t.2 }))
    (triple_of wanted.Command command_status content content))

-- a look-up: a list of addresses, or "fail"
abbrev pub look_up : Form (Result (List Address) FailKind)
look_up = text_or wanted.LookUp failed (standing_for Ok (list_by wanted.LookUp address))

-- ---- replies of HTTP

-- a header: [name, value]
abbrev pub header : Form Header
header = standing_for (λ p. record { name = p.0; value = p.1 }) (pair_of wanted.Header header_name characters_of)

-- a reply of HTTP: [status, headers, content], or a send that failed
abbrev pub http_reply : Form (Result Reply FailKind)
http_reply = text_or wanted.HttpReply failed_send
    (standing_for (λ t. Ok (reply.Http (record { status = t.0; headers = t.1; body = t.2 })))
    (triple_of wanted.HttpReply http_status (list_of header) content))

-- ---- refusals

-- what a call was refused for
abbrev pub refusal_kind : List ℕ → Option RefusalKind
refusal_kind name =
    if bytes_eq name (codes "RegionDisabled") then Some kind.RegionDisabled
    else (if bytes_eq name (codes "MalformedPolicyDocument") then Some kind.MalformedPolicyDocument
    else (if bytes_eq name (codes "InsufficientPermissions") then Some kind.InsufficientPermissions
    else (if bytes_eq name (codes "TokenExpired") then Some kind.TokenExpired
    else (if bytes_eq name (codes "UserCredentialsChanged") then Some kind.UserCredentialsChanged
    else (if bytes_eq name (codes "Other") then Some kind.Other
    else None)))))

unfoldable pub refusal_kind_of : Data → Option RefusalKind
refusal_kind_of d = as_str d >>= refusal_kind

abbrev pub kind_name : Form RefusalKind
kind_name = whole_form wanted.RefusalKind refusal_kind_of

-- {"refused": kind, "message": text}, and no other member
abbrev pub refusal_members : ObjectForm (RefusalKind × (List ℕ × Unit {0}))
refusal_members =
    required_member (codes "refused") kind_name
    & required_member (codes "message") characters_of
    & nothing_more

abbrev pub refusal : Form Reply
refusal = standing_for (λ p. reply.Refused (record { kind = p.0; message = p.1.0 })) (object_of wanted.Reply refusal_members)

-- ---- what services grant

-- {"id", "secret", "token": texts, "expires": moment, "arn": text, optional}
abbrev pub sts_members : ObjectForm (List ℕ × (List ℕ × (List ℕ × (Moment × (Option (List ℕ) × Unit {0})))))
sts_members =
    required_member (codes "id") characters_of
    & required_member (codes "secret") characters_of
    & required_member (codes "token") characters_of
    & required_member (codes "expires") moment
    & optional_member (codes "arn") characters_of
    & nothing_more

abbrev pub sts_grant : Form Reply
sts_grant = standing_for (λ p. reply.Sts (record {
  credentials = Some (record { access_key_id = p.0; secret_access_key = p.1.0; session_token = p.1.1.0; expiration = p.1.1.1.0 });
  arn = p.1.1.1.1.0;
})) (object_of wanted.Reply sts_members)

-- {"id", "secret", "token": texts, each optional, "expires_ms": whole number}
abbrev pub role_members : ObjectForm (Option (List ℕ) × (Option (List ℕ) × (Option (List ℕ) × (ℤ × Unit {0}))))
role_members =
    optional_member (codes "id") characters_of
    & optional_member (codes "secret") characters_of
    & optional_member (codes "token") characters_of
    & required_member (codes "expires_ms") signed_integer
    & nothing_more

abbrev pub role_grant : Form Reply
role_grant = standing_for (λ p. reply.Role (record {
  credentials = Some (record { access_key_id = p.0; secret_access_key = p.1.0; session_token = p.1.1.0; expiration_ms = p.1.1.1.0 });
})) (object_of wanted.Reply role_members)

-- {"access", "refresh": texts, each optional, "expires_in": whole number}
abbrev pub token_members : ObjectForm (Option (List ℕ) × (Option (List ℕ) × (ℤ × Unit {0})))
token_members =
    optional_member (codes "access") characters_of
    & optional_member (codes "refresh") characters_of
    & required_member (codes "expires_in") signed_integer
    & nothing_more

abbrev pub token_grant : Form Reply
token_grant = standing_for (λ p. reply.Token (record { access_token = p.0; refresh_token = p.1.0; expires_in = p.1.1.0 })) (object_of wanted.Reply token_members)

-- {"id", "secret", "token", "refresh": texts, "expires_in": whole number}
abbrev pub sign_in_members : ObjectForm (List ℕ × (List ℕ × (List ℕ × (List ℕ × (ℤ × Unit {0})))))
sign_in_members =
    required_member (codes "id") characters_of
    & required_member (codes "secret") characters_of
    & required_member (codes "token") characters_of
    & required_member (codes "refresh") characters_of
    & required_member (codes "expires_in") signed_integer
    & nothing_more

abbrev pub sign_in_grant : Form Reply
sign_in_grant = standing_for (λ p. reply.SignIn (record {
  token = Some (record { access_key_id = p.0; secret_access_key = p.1.0; session_token = p.1.1.0; refresh_token = p.1.1.1.0; expires_in = p.1.1.1.1.0 });
})) (object_of wanted.Reply sign_in_members)

-- ---- replies of services

-- a refusal, or what the service grants
abbrev pub refusal_or : Form Reply → Form Reply
refusal_or grant = by_member (codes "refused") refusal grant

-- the reply that null stands for, where it stands for one, or else what the value says
abbrev pub reply_or : Option Reply → Result Reply Fault → Result Reply Fault
reply_or None said = said
reply_or (Some null_reply) said = Ok null_reply

-- an answer of a service, where null stands for this reply
abbrev pub answer : Option Reply → Form Reply → Form Reply
answer null_reply grant = λ d. if is_some (as_null d) then reply_or null_reply (refusal_or grant d) else refusal_or grant d

-- the same, or a send that failed
abbrev pub reply_of : Option Reply → Form Reply → Form (Result Reply FailKind)
reply_of null_reply grant = text_or wanted.Reply failed_send (standing_for Ok (answer null_reply grant))

-- a reply without credentials
abbrev pub no_sts : Reply
no_sts = reply.Sts (record { credentials = None; arn = None })

abbrev pub no_role : Reply
no_role = reply.Role (record { credentials = None })

abbrev pub no_sign_in : Reply
no_sign_in = reply.SignIn (record { token = None })

abbrev pub sts_reply : Form (Result Reply FailKind)
sts_reply = reply_of (Some no_sts) sts_grant

abbrev pub role_reply : Form (Result Reply FailKind)
role_reply = reply_of (Some no_role) role_grant

abbrev pub token_reply : Form (Result Reply FailKind)
token_reply = reply_of None token_grant

abbrev pub sign_in_reply : Form (Result Reply FailKind)
sign_in_reply = reply_of (Some no_sign_in) sign_in_grant
