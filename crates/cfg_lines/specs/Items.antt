-- Scripts that answer one question and say nothing else.
use Rattle.std.specs.Prelude.{◌==◌, ℕ, List, length, Bool, false, ◌&&◌, ◌||◌, bytes_eq, is_none}
use Rattle.std.specs.List.{list_any}
use Rattle.cfg_types.specs.declared.request.Request.{Request}
use Rattle.cfg_types.specs.declared.request.Request.TheVariants as request
use Rattle.cfg_world.specs.declared.ask.Question.{Question}
use Rattle.cfg_world.specs.declared.ask.Question.TheVariants as question
use Rattle.cfg_world.specs.declared.script.DeviceLists.{DeviceLists}
use Rattle.cfg_world.specs.Script.{is_unwritable}
use Rattle.cfg_script.specs.Devices.{lists_of}
use Rattle.cfg_script.specs.Script.{Plain, PlainProfiles, Sections, RefusedSections}
use Rattle.cfg_script.specs.declared.service.ServiceConfig.{ServiceConfig}
use Rattle.cfg_lines.specs.declared.items.Counts.{Counts}

-- no items
abbrev pub none : Counts
none = record { files = 0; unwritable = 0; clock = 0; jitter = 0; commands = 0; lookups = 0; http = 0; imds_token = 0; imds_get = 0; assume_role = 0; web_identity = 0; role_credentials = 0; create_token = 0; sign_in = 0 }

-- the lists of replies have so many items each
unfoldable pub has_reply_counts : Counts → DeviceLists → Bool
has_reply_counts counts lists = (length lists.http == counts.http)
    && (length lists.imds_token == counts.imds_token)
    && (length lists.imds_get == counts.imds_get)
    && (length lists.assume_role == counts.assume_role)
    && (length lists.web_identity == counts.web_identity)
    && (length lists.role_credentials == counts.role_credentials)
    && (length lists.create_token == counts.create_token)
    && (length lists.sign_in == counts.sign_in)

-- each list has so many items
unfoldable pub has_counts : Counts → DeviceLists → Bool
has_counts counts lists = (length lists.files == counts.files)
    && (length lists.unwritable == counts.unwritable)
    && (length lists.clock == counts.clock)
    && (length lists.jitter == counts.jitter)
    && (length lists.commands == counts.commands)
    && (length lists.lookups == counts.lookups)
    && has_reply_counts counts lists

-- one reply to this request, and no other item
abbrev pub one_reply : Request → Counts
one_reply (request.Http call) = record none { http = 1 }
one_reply (request.MetadataToken call) = record none { imds_token = 1 }
one_reply (request.MetadataGet call) = record none { imds_get = 1 }
one_reply (request.AssumeRole call) = record none { assume_role = 1 }
one_reply (request.AssumeRoleWithWebIdentity call) = record none { web_identity = 1 }
one_reply (request.GetRoleCredentials call) = record none { role_credentials = 1 }
one_reply (request.CreateToken call) = record none { create_token = 1 }
one_reply (request.CreateOAuth2Token call) = record none { sign_in = 1 }

-- one item of what is asked, and no other; of a write it tells that it failed
abbrev pub one_item : Question → Counts
one_item question.Now = record none { clock = 1 }
one_item question.Jitter = record none { jitter = 1 }
one_item (question.Read path) = record none { files = 1 }
one_item (question.Write path bytes) = record none { unwritable = 1 }
one_item (question.Run command) = record none { commands = 1 }
one_item (question.LookUp host) = record none { lookups = 1 }
one_item (question.Send request) = one_reply request

-- a file of this path is listed
abbrev pub is_listed : DeviceLists → List ℕ → Bool
is_listed lists path = list_any (λ file. bytes_eq file.0 path) lists.files

-- The lists have one item of what is asked, of the asked path, and no other. A write that is granted has none.
unfoldable pub has_one_item : Question → DeviceLists → Bool
has_one_item (question.Read path) lists = has_counts (one_item (question.Read path)) lists && is_listed lists path
has_one_item (question.Write path bytes) lists = has_counts none lists
    || (has_counts (one_item (question.Write path bytes)) lists && is_unwritable lists path)
has_one_item asked lists = has_counts (one_item asked) lists

abbrev pub has_no_sections : PlainProfiles → Bool
has_no_sections (Sections profiles sessions) = (length profiles == 0) && (length sessions == 0)
has_no_sections (RefusedSections message) = false

-- nothing is said of how calls are sent
abbrev pub sets_nothing : ServiceConfig → Bool
sets_nothing service = is_none service.use_fips && is_none service.use_dual_stack && is_none service.max_attempts && is_none service.timeouts

-- a script that configures nothing: no variables, no sections nor their refusal, no selected profile, no region, no
-- settings of how calls are sent, and what holds of `sleep` and `calls` where a script leaves them out
unfoldable pub configures_nothing : Plain → Bool
configures_nothing p = (length p.variables == 0)
    && has_no_sections p.profiles
    && is_none p.selected
    && is_none p.region
    && p.sleep
    && sets_nothing p.service
    && (p.calls == 1)

-- the script answers this question, and says nothing else
abbrev pub answers : Question → Plain → Bool
answers asked p = configures_nothing p && has_one_item asked (lists_of p)
