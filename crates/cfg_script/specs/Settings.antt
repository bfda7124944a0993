-- The members of a script, a line each: the settings, and the lists of the devices.
use Rattle.std.specs.Prelude.{ℕ, List, [], Bool, true, codes, Option, Some, None, Result, unwrap_or}
use Rattle.cfg_base.specs.Moment.{Moment}
use Rattle.cfg_base.specs.declared.address.Address.{Address}
use Rattle.cfg_types.specs.declared.environment.EnvText.{EnvText}
use Rattle.cfg_types.specs.declared.command.Finished.{Finished}
use Rattle.cfg_types.specs.declared.reply.Reply.{Reply}
use Rattle.cfg_types.specs.declared.reply.FailKind.{FailKind}
use Rattle.cfg_world.specs.declared.script.DeviceLists.{DeviceLists}
use Rattle.cfg_script.specs.Script.{Section, PlainProfiles, Sections, RefusedSections, Plain}
use Rattle.cfg_script.specs.Forms.{Form, pair_of}
use Rattle.cfg_script.specs.Objects.{ObjectForm, list_member, member_or, optional_member, ◌&◌, nothing_more, together, object_of}
use Rattle.cfg_script.specs.Scalars.{text, characters_of, boolean, unsigned_integer, content_or_null, call_count}
use Rattle.cfg_script.specs.Moments.{clock_moment}
use Rattle.cfg_script.specs.Sections.{variable, section}
use Rattle.cfg_script.specs.Services.{service_member}
use Rattle.cfg_script.specs.Replies.{command, look_up, http_reply, sts_reply, role_reply, token_reply, sign_in_reply}
use Rattle.cfg_script.specs.declared.fault.Wanted.TheVariants as wanted
use Rattle.cfg_script.specs.declared.service.ServiceConfig.{ServiceConfig}

-- a file: [path, content], or [path, null] for one that cannot be read
abbrev pub file : Form (List ℕ × Option (List ℕ))
file = pair_of wanted.File characters_of content_or_null

abbrev pub Sent : Type 0
Sent = Result Reply FailKind

-- what the lists of replies say, in the order of their rows
abbrev pub Queues : Type 0
Queues = List Sent × (List Sent × (List Sent × (List Sent × (List Sent × (List Sent × (List Sent × (List Sent × Unit {0})))))))

-- the lists of replies, a list for each kind of request
abbrev pub queue_members : ObjectForm Queues
queue_members =
    list_member (codes "http") http_reply
    & list_member (codes "imds-token") http_reply
    & list_member (codes "imds-get") http_reply
    & list_member (codes "assume-role") sts_reply
    & list_member (codes "web-identity") sts_reply
    & list_member (codes "role-credentials") role_reply
    & list_member (codes "create-token") token_reply
    & list_member (codes "sign-in") sign_in_reply
    & nothing_more

abbrev pub replies : Form Queues
replies = object_of wanted.Replies queue_members

abbrev pub no_queues : Queues
no_queues = ([], ([], ([], ([], ([], ([], ([], ([], tt))))))))

abbrev pub DeviceRows : Type 0
DeviceRows = List (List ℕ × Option (List ℕ)) × (List (List ℕ) × (List Moment × (List ℕ × (List (Result Finished FailKind) × (List (Result (List Address) FailKind) × (Queues × Unit {0}))))))

-- the lists of the devices
abbrev pub device_members : ObjectForm DeviceRows
device_members =
    list_member (codes "files") file
    & list_member (codes "unwritable") characters_of
    & list_member (codes "clock") clock_moment
    & list_member (codes "jitter") unsigned_integer
    & list_member (codes "commands") command
    & list_member (codes "lookups") look_up
    & member_or (codes "replies") no_queues replies
    & nothing_more

-- each list in its place
unfoldable pub lists_in : DeviceRows → DeviceLists
lists_in rows = let queues = rows.1.1.1.1.1.1.0 in record {
  files = rows.0;
  unwritable = rows.1.0;
  clock = rows.1.1.0;
  jitter = rows.1.1.1.0;
  commands = rows.1.1.1.1.0;
  lookups = rows.1.1.1.1.1.0;
  http = queues.0;
  imds_token = queues.1.0;
  imds_get = queues.1.1.0;
  assume_role = queues.1.1.1.0;
  web_identity = queues.1.1.1.1.0;
  role_credentials = queues.1.1.1.1.1.0;
  create_token = queues.1.1.1.1.1.1.0;
  sign_in = queues.1.1.1.1.1.1.1.0;
}

abbrev pub devices : ObjectForm DeviceLists
devices = together lists_in device_members

-- what one call is configured with, in the order of the rows, and what the members behind that say
abbrev pub ConfigurationRows : Type 0 → Type 0
ConfigurationRows B =
    List (List ℕ × EnvText) × (List Section × (List Section
    × (Option (List ℕ) × (Option (List ℕ) × (Option (List ℕ) × (Option Bool × (ServiceConfig × B)))))))

-- what one call is configured with, and other members behind that
abbrev pub configuration : {B : Type 0} → ObjectForm B → ObjectForm (ConfigurationRows B)
configuration others =
    list_member (codes "variables") variable
    & list_member (codes "profiles") section
    & list_member (codes "sessions") section
    & optional_member (codes "refused") characters_of
    & optional_member (codes "selected") text
    & optional_member (codes "region") text
    & optional_member (codes "sleep") boolean
    & service_member
    & others

-- what the settings say, in the order of their rows, and what the members behind them say
abbrev pub SettingRows : Type 0 → Type 0
SettingRows B = ConfigurationRows (Option ℕ × B)

-- the settings, and other members behind them
abbrev pub settings : {B : Type 0} → ObjectForm B → ObjectForm (SettingRows B)
settings others = configuration (optional_member (codes "calls") call_count & others)

abbrev pub ScriptRows : Type 0
ScriptRows = SettingRows DeviceLists

-- all members of a script: the settings, and the lists of the devices
abbrev pub script_members : ObjectForm ScriptRows
script_members = settings devices

-- sections, unless they are refused
abbrev pub profiles_of : Option (List ℕ) → List Section → List Section → PlainProfiles
profiles_of None profiles sessions = Sections profiles sessions
profiles_of (Some message) profiles sessions = RefusedSections message

-- each member in its place
unfoldable pub plain_in : ScriptRows → Plain
plain_in rows = record {
  variables = rows.0;
  profiles = profiles_of rows.1.1.1.0 rows.1.0 rows.1.1.0;
  selected = rows.1.1.1.1.0;
  region = rows.1.1.1.1.1.0;
  sleep = unwrap_or rows.1.1.1.1.1.1.0 true;
  service = rows.1.1.1.1.1.1.1.0;
  calls = unwrap_or rows.1.1.1.1.1.1.1.1.0 1;
  devices = rows.1.1.1.1.1.1.1.1.1;
}

-- a script's members, each in its place
abbrev pub script : ObjectForm Plain
script = together plain_in script_members
