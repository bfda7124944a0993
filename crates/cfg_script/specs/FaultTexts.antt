-- The texts of faults, as they are shown to a user.
use Rattle.std.specs.Prelude.{ℕ, List, [], ◌∷◌, ◌++◌, Bool, ◌&&◌, ◌||◌, ◌==◌, not, Option, Some, length, codes, if◌then◌else◌}
use Rattle.std.specs.List.{list_all}
use Rattle.std.specs.Char.{is_ascii_alphanumeric}
use Rattle.std.specs.Str.{encode_utf8_all}
use Rattle.std.specs.Fmt.{decimal, debug_str, ◌++?◌}
use Rattle.cfg_script.specs.declared.fault.Fault.{Fault}
use Rattle.cfg_script.specs.declared.fault.ScriptFault.{ScriptFault}
use Rattle.cfg_script.specs.declared.fault.ScriptFault.TheVariants.{NoJson, Form}
use Rattle.cfg_script.specs.declared.fault.Step.{Step}
use Rattle.cfg_script.specs.declared.fault.Step.TheVariants.{Member, Item}
use Rattle.cfg_script.specs.declared.fault.Wanted.{Wanted}
use Rattle.cfg_script.specs.declared.fault.Wanted.TheVariants as wanted

-- what is wanted
abbrev pub wanted_text : Wanted → List ℕ
wanted_text wanted.Object = codes "a script is one JSON object"
wanted_text wanted.KnownName = codes "no member of this name belongs here"
wanted_text wanted.Present = codes "this member has to be there"
wanted_text wanted.List = codes "a list is wanted"
wanted_text wanted.Text = codes "a text is wanted"
wanted_text wanted.Boolean = codes "true or false is wanted"
wanted_text wanted.TextOrNull = codes "a text or null is wanted"
wanted_text wanted.Variable = codes "a variable is [name, text] or [name, null]"
wanted_text wanted.Section = codes "a section is [name, list of properties]"
wanted_text wanted.Property = codes "a property is [key, value]"
wanted_text wanted.RefusedAlone = codes "no profiles and no sessions stand beside refused"
wanted_text wanted.Service = codes "service is an object of settings"
wanted_text wanted.Attempts = codes "attempts are a whole number of 32 bits without sign"
wanted_text wanted.Timeouts = codes "timeouts are an object of times in milliseconds"
wanted_text wanted.Calls = codes "calls are a whole number from 1 to 100"
wanted_text wanted.File = codes "a file is [path, content] or [path, null]"
wanted_text wanted.Content = codes "a content is a text or {\"hex\": digits}"
wanted_text wanted.HexDigits = codes "two hexadecimal digits for each byte are wanted"
wanted_text wanted.Moment = codes "a moment is whole seconds or [seconds, nanos]"
wanted_text wanted.ClockMoment = codes "a moment of the clock is whole seconds or [seconds, nanos], from 0 on"
wanted_text wanted.UnsignedInteger = codes "a whole number of 64 bits without sign is wanted"
wanted_text wanted.SignedInteger = codes "a whole number of 64 bits with sign is wanted"
wanted_text wanted.Command = codes "a command is [status, output, errors] or \"fail\""
wanted_text wanted.CommandStatus = codes "a status is a whole number of 32 bits with sign"
wanted_text wanted.LookUp = codes "a look-up is a list of addresses or \"fail\""
wanted_text wanted.Address = codes "an address is wanted"
wanted_text wanted.Replies = codes "replies are an object of lists"
wanted_text wanted.HttpReply = codes "a reply of HTTP is [status, headers, content], \"dispatch\", \"timeout\" or \"broken\""
wanted_text wanted.HttpStatus = codes "a status of HTTP is a whole number from 100 to 599"
wanted_text wanted.Header = codes "a header is [name, value]"
wanted_text wanted.HeaderName = codes "a header name is wanted"
wanted_text wanted.Reply = codes "a reply is what the service grants, a refusal, null where it may be, \"dispatch\", \"timeout\" or \"broken\""
wanted_text wanted.RefusalKind = codes "a refusal is RegionDisabled, MalformedPolicyDocument, InsufficientPermissions, TokenExpired, UserCredentialsChanged or Other"
wanted_text wanted.Callers = codes "callers are a list of 1 to 16 objects"
wanted_text wanted.Caller = codes "a caller is an object of lists"
wanted_text wanted.Entry = codes "an entry is [kind, answer]"
wanted_text wanted.Kind = codes "a kind is now, jitter, read, write, run, lookup or the name of a list of replies"
wanted_text wanted.Written = codes "a write is true or \"fail\""
wanted_text wanted.Mode = codes "a mode is container or metadata"
wanted_text wanted.NoRole = codes "a container has no role"
wanted_text wanted.CallNumber = codes "the number of a call is a whole number from 1 to 100"

-- a letter, a digit, `-` or `_`
abbrev pub is_plain : ℕ → Bool
is_plain byte = is_ascii_alphanumeric byte || (byte == 45 || byte == 95)

-- a name that cannot be taken for something else
abbrev pub is_plain_name : List ℕ → Bool
is_plain_name name = not (length name == 0) && list_all is_plain name

-- a plain name as it is, and another one quoted; past ASCII, no text is said of it
abbrev pub name_text : List ℕ → Option (List ℕ)
name_text name = if is_plain_name name then Some name else debug_str name

-- the first step of a way
abbrev pub step_text : Step → Option (List ℕ)
step_text (Member name) = name_text (encode_utf8_all name)
step_text (Item place) = Some (codes "[" ++ (decimal place ++ codes "]"))

-- a step behind another one
abbrev pub later_step_text : Step → Option (List ℕ)
later_step_text (Member name) = Some (codes ".") ++? step_text (Member name)
later_step_text (Item place) = step_text (Item place)

abbrev pub later_text : List Step → Option (List ℕ)
later_text [] = Some []
later_text (s ∷ steps) = later_step_text s ++? later_text steps

-- the way to a value, where it has steps
abbrev pub path_text : List Step → Option (List ℕ)
path_text [] = Some []
path_text (s ∷ steps) = step_text s ++? (later_text steps ++? Some (codes ": "))

-- the way to a value of another form, and what is wanted there
abbrev pub fault_text : Fault → Option (List ℕ)
fault_text f = path_text f.path ++? Some (wanted_text f.wanted)

-- why bytes are no script
abbrev pub script_fault_text : ScriptFault → Option (List ℕ)
script_fault_text (NoJson p) = Some (codes "line " ++ (decimal p.line ++ (codes ", column " ++ (decimal p.column ++ codes ": no JSON"))))
script_fault_text (Form f) = fault_text f
