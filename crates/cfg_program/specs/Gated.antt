-- What the sections of a script's callers answer at a gate round the token of the default token chain.
use Rattle.std.specs.Prelude.{◌≡◌, ℕ, ◌+◌, List, [], ◌∷◌, ◌++◌, map, Bool, false, Option, Some, None, Result, Err, is_ok, codes}
use Rattle.std.specs.List.{flat_map, AllByRecursion, AllZip}
use Rattle.std.specs.Fmt.{decimal}
use Rattle.cfg_base.specs.Moment.{Moment}
use Rattle.cfg_types.specs.declared.errors.sso.SsoTokenProviderError.{SsoTokenProviderError}
use Rattle.cfg_types.specs.declared.errors.token.TokenError.{TokenError}
use Rattle.cfg_world.specs.declared.script.DeviceLists.{DeviceLists}
use Rattle.cfg_world.specs.Fits.{Pair}
use Rattle.cfg_world.specs.Inquiry.{Reads}
use Rattle.cfg_world.specs.Script.{Script, Given, start}
use Rattle.cfg_profile.specs.Configuration.{Configuration}
use Rattle.cfg_profile.specs.Settings.{settings_of}
use Rattle.cfg_token.specs.declared.sections.Sectioned.{Sectioned}
use Rattle.cfg_token.specs.declared.sso_token.CachedSsoToken.{CachedSsoToken}
use Rattle.cfg_token.specs.declared.token_key.TokenKey.{TokenKey}
use Rattle.cfg_token.specs.Histories.{TokenLoad, token_in}
use Rattle.cfg_token.specs.SectionCalls.{is_memory}
use Rattle.cfg_token.specs.Sections.{section, answer_of}
use Rattle.cfg_token.specs.SsoTokens.{sso_rules}
use Rattle.cfg_gate.specs.declared.calls.Called.{Called}
use Rattle.cfg_gate.specs.GatedSections.{loads_of, Finds}
use Rattle.cfg_gate.specs.Turns.{greatest}
use Rattle.cfg_kept.specs.KeptInquiry.{Reads as Answers}
use Rattle.cfg_sso.specs.BearerTokens.{bearer}
use Rattle.cfg_token_chain.specs.ProfileTokens.{default_token}
use Rattle.cfg_token_chain.specs.Sessions.{session_key}
use Rattle.cfg_script.specs.Script.{PlainShare}
use Rattle.cfg_program.specs.Shares.{share_configuration}
use Rattle.cfg_program.specs.Tokens.{shown_token}

-- A caller's section: how many loads it found, of which these are the one that is kept and the last attempt, its questions
-- with their answers, what it came to, and how many loads its caller had seen then.
pub record GatedSection : Type 0 where
  pub found : ℕ
  pub kept : Option (TokenLoad CachedSsoToken SsoTokenProviderError)
  pub last : Option Moment
  pub journal : List Pair
  pub answer : Result CachedSsoToken SsoTokenProviderError
  pub seen : ℕ

-- One section of the token of this key, by this configuration, from a history of loads, of which the one that is kept
-- carries the receipts by which it gave its token. Its answers are those that its caller's lists give. Its caller has then
-- seen the loads that it found and its own.
pub record IsGatedSection (conf : Configuration) (key : TokenKey) (lists : DeviceLists) (s : GatedSection) : Type 0 where
  pub finds : Finds sso_rules s.found s.kept s.last
  pub made : Sectioned CachedSsoToken SsoTokenProviderError
  pub answers : s.answer ≡ answer_of made
  pub reads : Reads (section sso_rules key conf.environment (settings_of conf) (token_in s.kept) s.last) s.journal made
  pub agrees : Given lists start s.journal
  pub sees : s.seen ≡ s.found + loads_of made

-- a section's line, as the default token chain's call has it
abbrev pub section_line : GatedSection → List ℕ
section_line s = shown_token (bearer s.answer) s.journal

-- the lines of all sections, in order
abbrev pub section_lines : List GatedSection → List ℕ
section_lines sections = flat_map section_line sections

-- whether the last section gave a token
abbrev pub last_is_token : List GatedSection → Bool
last_is_token [] = false
last_is_token (s ∷ []) = is_ok s.answer
last_is_token (s ∷ next ∷ later) = last_is_token (next ∷ later)

-- the greatest number of loads that a section's caller had seen, where none were there at the start
abbrev pub most_seen : List GatedSection → ℕ
most_seen sections = greatest 0 (map (λ s. s.seen) sections)

-- the last line: how many loads the callers have seen together
abbrev pub shown_loads : ℕ → List ℕ
shown_loads n = codes "loads " ++ (decimal n ++ codes "\n")

-- Each caller made one section of the token of this key, and they have these lines. Behind them stands the greatest
-- number of loads that a caller had seen.
pub record AtGate (conf : Configuration) (key : TokenKey) (all : List DeviceLists) (is_token : Bool) (lines : List ℕ) : Type 0 where
  pub sections : List GatedSection
  pub made : AllZip (IsGatedSection conf key) all sections
  pub token : is_token ≡ last_is_token sections
  pub shows : lines ≡ section_lines sections ++ shown_loads (most_seen sections)

-- Without a session each caller has the error of the default token chain, which finds and asks nothing.
pub record WithoutSession (conf : Configuration) (all : List DeviceLists) (is_token : Bool) (lines : List ℕ) : Type 0 where
  pub error : TokenError
  pub answers : Answers (default_token conf) [] [] (Err error)
  pub token : is_token ≡ false
  pub shows : lines ≡ flat_map (λ _. shown_token (Err error) []) all ++ shown_loads 0

-- the callers' sections over this configuration, by the key whose token its default token chain needs
abbrev pub GatedBy : Option TokenKey → Configuration → List DeviceLists → Bool → List ℕ → Type 0
GatedBy (Some key) conf all is_token lines = AtGate conf key all is_token lines
GatedBy None conf all is_token lines = WithoutSession conf all is_token lines

-- the sections of a script's callers
abbrev pub GatedAnswers : PlainShare → Bool → List ℕ → Type 0
GatedAnswers p is_token lines = GatedBy (session_key (share_configuration p)) (share_configuration p) p.callers is_token lines

-- ---- what is told of what was handed back

-- what a caller's section was
abbrev pub section_of : Called CachedSsoToken Script SsoTokenProviderError → GatedSection
section_of called = record {
  found = called.found;
  kept = called.answer.kept;
  last = called.answer.last;
  journal = called.world.journal;
  answer = called.answer.outcome;
  seen = called.seen;
}

-- No section ran out of memory. These are the sections' lines, and this is what the last one gave.
pub record TellsSections (sections : List GatedSection) (is_token : Bool) (lines : List ℕ) : Type 0 where
  pub answered : AllByRecursion (λ s. is_memory sso_rules s.answer ≡ false) sections
  pub token : is_token ≡ last_is_token sections
  pub shows : lines ≡ section_lines sections
