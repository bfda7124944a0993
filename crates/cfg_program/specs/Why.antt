-- What stands below the line of a call.
use Rattle.std.specs.Prelude.{ℕ, List, [], ◌∷◌, ◌++◌, Option, Some, None, Result, Ok, Err, codes}
use Rattle.std.specs.List.{flat_map}
use Rattle.std.specs.Str.{encode_utf8_all}
use Rattle.cfg_types.specs.Keys.{Keys}
use Rattle.cfg_types.specs.Environment.{Variables}
use Rattle.cfg_types.specs.declared.errors.CredentialsError.{CredentialsError}
use Rattle.cfg_world.specs.Fits.{Pair}
use Rattle.cfg_error_report.specs.CredentialsCauses.{causes_of}
use Rattle.cfg_error_report.specs.Lines.{one_line}
use Rattle.cfg_chain.specs.declared.member.Member.{Member}
use Rattle.cfg_chain.specs.Members.{name_of}
use Rattle.cfg_chain.specs.Settings.{ChainSetting}
use Rattle.cfg_explain.specs.declared.reasons.PassedOver.{PassedOver}
use Rattle.cfg_explain.specs.declared.reasons.Reasons.{Reasons}
use Rattle.cfg_explain.specs.Reasons.{reasons_of, own_part}
use Rattle.cfg_explain.specs.Subjects.{subject_of}
use Rattle.cfg_program.specs.declared.causes.Below.{Below}
use Rattle.cfg_program.specs.declared.causes.Below.TheVariants.{Nothing, Causes}
use Rattle.cfg_program.specs.declared.lines.LineForm.{LineForm}
use Rattle.cfg_program.specs.declared.lines.LineForm.TheVariants.{Call, Generated}
use Rattle.cfg_program.specs.Escapes.{line_text}
use Rattle.cfg_program.specs.Lines.{kind, shown_as}

-- a member that was passed over, and in one line all that its error comes of
abbrev pub passed_over_line : PassedOver → List ℕ
passed_over_line p = codes "  " ++ (encode_utf8_all (name_of p.member) ++ (codes " passed over: " ++ (line_text (one_line (causes_of p.error)) ++ codes "\n")))

-- the member that gave the credentials
abbrev pub answered_line : Member → List ℕ
answered_line m = codes "  " ++ (encode_utf8_all (name_of m) ++ codes " answered\n")

-- a blank, and what a question is about, where there is such a text
abbrev pub subject_behind : List ℕ → List ℕ
subject_behind [] = []
subject_behind (b ∷ text) = codes " " ++ line_text (b ∷ text)

-- the kind of a question, with `!` where it failed, and what it was about
abbrev pub asked_line : Pair → List ℕ
asked_line e = codes "    " ++ (kind e ++ (subject_behind (subject_of e.0) ++ codes "\n"))

-- a line for each question, below a heading, and nothing where nothing was asked
abbrev pub asked_lines : List Pair → List ℕ
asked_lines [] = []
asked_lines (e ∷ journal) = codes "  asked\n" ++ flat_map asked_line (e ∷ journal)

-- what was asked before an error, where it is asked for
abbrev pub asked_below : {A E : Type 0} → Below → Result A E → List Pair → List ℕ
asked_below Nothing out journal = []
asked_below Causes (Ok gave) journal = []
asked_below Causes (Err e) journal = asked_lines journal

-- one line for the member that answered, and one for each question that it asked
abbrev pub answered_lines : Variables → Option Member → List Pair → List ℕ
answered_lines env (Some m) journal = answered_line m ++ flat_map asked_line (own_part env m journal)
answered_lines env None journal = []

-- the reasons of a call of this journal: a line for each member that was passed over, and those of the one that answered
abbrev pub lines_by : Variables → Reasons → List Pair → List ℕ
lines_by env r journal = flat_map passed_over_line r.passed_over ++ answered_lines env r.answered journal

abbrev pub reason_lines : ChainSetting → Result Keys CredentialsError → List Pair → List ℕ
reason_lines over out journal = lines_by over.configuration.environment (reasons_of over out) journal

-- what stands below the line of credentials, and of an error behind its causes, where it is asked for
abbrev pub below_credentials : ChainSetting → Below → Result Keys CredentialsError → List Pair → List ℕ
below_credentials over Nothing out journal = []
below_credentials over Causes (Ok keys) journal = reason_lines over (Ok keys) journal
below_credentials over Causes (Err e) journal = asked_lines journal

abbrev pub below_call : ChainSetting → LineForm → Result Keys CredentialsError → List Pair → List ℕ
below_call over (Call below) out journal = below_credentials over below out journal
below_call over (Generated n) out journal = []

-- The line of a call of a chain of this setting in this form, with what stands below it.
abbrev pub told_as : ChainSetting → LineForm → Result Keys CredentialsError → List Pair → List ℕ
told_as over form out journal = shown_as form out journal ++ below_call over form out journal
