-- The members of a script of an audit: what one call is configured with, and a journal.
use Rattle.std.specs.Prelude.{ℕ, List, Bool, true, false, codes, bytes_eq, Option, Some, None, Result, Ok, Err, unwrap_or, if◌then◌else◌}
use Rattle.serde_json.specs.Data.{Data}
use Rattle.serde_json.specs.Find.{as_bool, as_str}
use Rattle.cfg_base.specs.Gives.{◌>>=◌}
use Rattle.cfg_base.specs.Text.{characters}
use Rattle.cfg_types.specs.declared.reply.FailKind.{FailKind}
use Rattle.cfg_types.specs.declared.reply.FailKind.TheVariants.{Io}
use Rattle.cfg_world.specs.declared.ask.Answer.{Answer}
use Rattle.cfg_world.specs.declared.ask.Answer.TheVariants as answer
use Rattle.cfg_script.specs.Script.{PlainAudit}
use Rattle.cfg_script.specs.Json.{pair_from}
use Rattle.cfg_script.specs.Faults.{under_place, wanting}
use Rattle.cfg_script.specs.Forms.{Form, whole_form, standing_for}
use Rattle.cfg_script.specs.Scalars.{unsigned_integer, content}
use Rattle.cfg_script.specs.Moments.{clock_moment}
use Rattle.cfg_script.specs.Replies.{command, look_up, http_reply, sts_reply, role_reply, token_reply, sign_in_reply}
use Rattle.cfg_script.specs.Objects.{ObjectForm, list_member, ◌&◌, nothing_more, together}
use Rattle.cfg_script.specs.Settings.{ConfigurationRows, configuration, profiles_of}
use Rattle.cfg_script.specs.declared.audits.ItemForm.{ItemForm}
use Rattle.cfg_script.specs.declared.audits.ItemForm.TheVariants as item
use Rattle.cfg_script.specs.declared.fault.Wanted.TheVariants as wanted

-- ---- kinds

-- what the items of this kind are
abbrev pub form_of_kind : List ℕ → Option ItemForm
form_of_kind name =
    if bytes_eq name (codes "now") then Some item.Moment
    else (if bytes_eq name (codes "jitter") then Some item.Number
    else (if bytes_eq name (codes "read") then Some item.Contents
    else (if bytes_eq name (codes "write") then Some item.Written
    else (if bytes_eq name (codes "run") then Some item.Finished
    else (if bytes_eq name (codes "lookup") then Some item.Addresses
    else (if bytes_eq name (codes "http") then Some item.Http
    else (if bytes_eq name (codes "imds-token") then Some item.Http
    else (if bytes_eq name (codes "imds-get") then Some item.Http
    else (if bytes_eq name (codes "assume-role") then Some item.Sts
    else (if bytes_eq name (codes "web-identity") then Some item.Sts
    else (if bytes_eq name (codes "role-credentials") then Some item.Role
    else (if bytes_eq name (codes "create-token") then Some item.Token
    else (if bytes_eq name (codes "sign-in") then Some item.SignIn
    else None)))))))))))))

abbrev pub with_form : List ℕ → Option ItemForm → Option (List ℕ × ItemForm)
with_form name None = None
with_form name (Some form) = Some (characters name, form)

abbrev pub kind_by : Option (List ℕ) → Option (List ℕ × ItemForm)
kind_by None = None
kind_by (Some name) = with_form name (form_of_kind name)

-- the name of a kind, as its characters, and what its items are
unfoldable pub kind_named : Data → Option (List ℕ × ItemForm)
kind_named d = kind_by (as_str d)

abbrev pub kind : Form (List ℕ × ItemForm)
kind = whole_form wanted.Kind kind_named

-- ---- items

-- what devices answered, or how they failed
abbrev pub or_failed : {A : Type 0} → (A → Answer) → Result A FailKind → Answer
or_failed of (Ok a) = of a
or_failed of (Err kind) = answer.Failed kind

abbrev pub is_fail : Option (List ℕ) → Bool
is_fail None = false
is_fail (Some text) = bytes_eq text (codes "fail")

-- "fail", or a value of a form
abbrev pub fail_or : Form Answer → Form Answer
fail_or form = λ d. if is_fail (as_str d) then Ok (answer.Failed Io) else form d

-- true, for a file that was written
abbrev pub written_if : Option Bool → Option Answer
written_if None = None
written_if (Some true) = Some answer.Written
written_if (Some false) = None

unfoldable pub written_of : Data → Option Answer
written_of d = written_if (as_bool d)

-- what was read of a file: a content, or "fail"
abbrev pub read_form : Form Answer
read_form = fail_or (standing_for answer.Contents content)

-- whether a file was written: true, or "fail"
abbrev pub write_form : Form Answer
write_form = fail_or (whole_form wanted.Written written_of)

-- a form, seen from the entry whose second item is of this form
abbrev pub second : {A : Type 0} → Form A → Form A
second form = λ d. under_place 1 (form d)

-- the answer that an item of this form is, seen from its entry
abbrev pub answer_form : ItemForm → Form Answer
answer_form item.Moment = standing_for answer.Moment (second clock_moment)
answer_form item.Number = standing_for answer.Jitter (second unsigned_integer)
answer_form item.Contents = second read_form
answer_form item.Written = second write_form
answer_form item.Finished = standing_for (or_failed answer.Finished) (second command)
answer_form item.Addresses = standing_for (or_failed answer.Addresses) (second look_up)
answer_form item.Http = standing_for (or_failed answer.Replied) (second http_reply)
answer_form item.Sts = standing_for (or_failed answer.Replied) (second sts_reply)
answer_form item.Role = standing_for (or_failed answer.Replied) (second role_reply)
answer_form item.Token = standing_for (or_failed answer.Replied) (second token_reply)
answer_form item.SignIn = standing_for (or_failed answer.Replied) (second sign_in_reply)

-- an entry: [kind, answer], where the kind says what form the answer has
abbrev pub entry : Form (List ℕ × Answer)
entry = λ d.
    wanting wanted.Entry (pair_from d) >>= λ p.
    under_place 0 (kind p.0) >>= λ k.
    answer_form k.1 p.1 >>= λ a. Ok (k.0, a)

-- ---- the script

abbrev pub AuditRows : Type 0
AuditRows = ConfigurationRows (List (List ℕ × Answer) × Unit {0})

-- all members of a script of an audit
abbrev pub audit_members : ObjectForm AuditRows
audit_members = configuration (list_member (codes "journal") entry & nothing_more)

-- each member in its place
unfoldable pub audit_in : AuditRows → PlainAudit
audit_in rows = record {
  variables = rows.0;
  profiles = profiles_of rows.1.1.1.0 rows.1.0 rows.1.1.0;
  selected = rows.1.1.1.1.0;
  region = rows.1.1.1.1.1.0;
  sleep = unwrap_or rows.1.1.1.1.1.1.0 true;
  service = rows.1.1.1.1.1.1.1.0;
  journal = rows.1.1.1.1.1.1.1.1.0;
}

-- the members of a script of an audit, each in its place
abbrev pub audit : ObjectForm PlainAudit
audit = together audit_in audit_members
