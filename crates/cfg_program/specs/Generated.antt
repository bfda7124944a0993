-- The call over a set of profiles that comes from a number.
use Rattle.std.specs.Prelude.{◌≡◌, ℕ, zero, suc, ◌+◌, ◌-◌, pos, List, [], ◌∷◌, ◌++◌, Bool, true, Some, None, Result, Ok, ◌⊎◌, codes}
use Rattle.std.specs.Fmt.{decimal}
use Rattle.cfg_base.specs.Text.{characters}
use Rattle.cfg_types.specs.declared.reply.FailKind.{FailKind}
use Rattle.cfg_types.specs.declared.reply.Reply.{Reply}
use Rattle.cfg_types.specs.declared.reply.Reply.TheVariants as reply
use Rattle.cfg_world.specs.declared.script.DeviceLists.{DeviceLists}
use Rattle.cfg_profile.specs.declared.sections.ProfileSource.TheVariants as source
use Rattle.cfg_profile.specs.Configuration.{Configuration}
use Rattle.cfg_profile.specs.Generated.{generated}
use Rattle.cfg_chain.specs.Settings.{alone}
use Rattle.cfg_program.specs.declared.lines.LineForm.TheVariants.{Generated}
use Rattle.cfg_program.specs.declared.status.Status.{Status}
use Rattle.cfg_program.specs.declared.status.Status.TheVariants as status
use Rattle.cfg_script.specs.Services.{nothing_set}
use Rattle.cfg_program.specs.Calls.{configured_by, AnswersOver}
use Rattle.cfg_program.specs.Streams.{SinkSeen}
use Rattle.cfg_program.specs.Written.{LinesWritten}

-- the configuration of the set of n profiles, of which `p1` is selected
abbrev pub generated_configuration : ℕ → Configuration
generated_configuration n = configured_by [] (source.Sections (generated n)) (Some (codes "p1")) true nothing_set

-- the credentials that the exchange of this number is granted, without an ARN; the seconds are those
-- of 2023-11-14T22:13:20Z, and the number
abbrev pub generated_reply : ℕ → Result Reply FailKind
generated_reply j = Ok (reply.Sts (record {
  credentials = Some (record {
    access_key_id = characters (codes "K" ++ decimal j);
    secret_access_key = characters (codes "S" ++ decimal j);
    session_token = characters (codes "T" ++ decimal j);
    expiration = record { seconds = pos (1700000000 + j); nanos = 0 };
  });
  arn = None;
}))

-- the replies of the numbers from 1 to this one
abbrev pub generated_replies : ℕ → List (Result Reply FailKind)
generated_replies zero = []
generated_replies (suc j) = generated_replies j ++ generated_reply (suc j) ∷ []

-- devices that grant one exchange for each role of the set of n profiles, and answer nothing else
abbrev pub generated_lists : ℕ → DeviceLists
generated_lists n = record {
  files = [];
  unwritable = [];
  clock = [];
  jitter = [];
  commands = [];
  lookups = [];
  http = [];
  imds_token = [];
  imds_get = [];
  assume_role = generated_replies (n - 1);
  web_identity = [];
  role_credentials = [];
  create_token = [];
  sign_in = [];
}

-- the call over the set of n profiles, with no sources of the caller's own
abbrev pub GeneratedAnswers : ℕ → Bool → List ℕ → Type 0
GeneratedAnswers n is_credentials line = AnswersOver (alone (generated_configuration n)) (generated_lists n) 1 (Generated n) is_credentials line

-- the line of that call was written, or a prefix of it, by the status that says how it ended
pub record GeneratedLineWritten (sink : SinkSeen) (n : ℕ) (ended : Status) : Type 0 where
  pub is_credentials : Bool
  pub line : List ℕ
  pub answers : GeneratedAnswers n is_credentials line
  pub written : LinesWritten sink is_credentials line ended

-- that line, or nothing where memory ran out before it
abbrev pub GeneratedWritten : SinkSeen → ℕ → Status → Type 0
GeneratedWritten sink n status.OutOfMemory = (sink.written_after ≡ sink.written) ⊎ GeneratedLineWritten sink n status.OutOfMemory
GeneratedWritten sink n ended = GeneratedLineWritten sink n ended
