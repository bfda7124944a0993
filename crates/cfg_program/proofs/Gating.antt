-- Sections at a gate are those of a script's callers, and without a session the default token chain asks nothing.
use denote.Hole.Carrier as carrier
use Rattle.std.proofs.Common.{◌≡◌, ℕ, ◌+◌, ◌<◌, List, [], ◌∷◌, ◌++◌, Bool, true, false, Option, Some, None, Result, Ok, Err}
use Rattle.std.proofs.Common.{refl, sym, ap, ◌∙◌, subst, inl, inr, length, get_or, take, map, append-nil}
use Rattle.std.specs.Prelude.{IfOk, is_ok, codes}
use Rattle.std.specs.List.{flat_map, AllByRecursion, AllZip}
use Rattle.std.proofs.lemmas.Grind.{flat_map-append}
use Rattle.std.proofs.lemmas.List.{take_more, map-append}
use Rattle.cfg_base.specs.TextMap.{named}
use Rattle.cfg_types.specs.declared.errors.sso.SsoTokenProviderError.{SsoTokenProviderError}
use Rattle.cfg_types.specs.declared.errors.token.TokenError.{TokenError}
use Rattle.cfg_types.specs.declared.errors.token.TokenError as errors
use Rattle.cfg_types.specs.declared.errors.token.TokenClass.TheVariants as class
use Rattle.cfg_types.specs.TokenClasses.{token_class_name}
use Rattle.cfg_types.specs.Environment.{Variables}
use Rattle.cfg_types.specs.declared.settings.CallSettings.{CallSettings}
use Rattle.cfg_world.specs.declared.script.DeviceLists.{DeviceLists}
use Rattle.cfg_world.specs.declared.devices.Devices.{Ghosts}
use Rattle.cfg_world.specs.Fits.{Pair}
use Rattle.cfg_world.specs.Held.{Held}
use Rattle.cfg_world.specs.Inquiry.{Reads}
use Rattle.cfg_world.specs.Script.{Script, Given, Allows, start}
use Rattle.cfg_profile.specs.Configuration.{Configuration}
use Rattle.cfg_profile.specs.Settings.{settings_of}
use Rattle.cfg_token.specs.declared.sso_token.CachedSsoToken.{CachedSsoToken}
use Rattle.cfg_token.specs.declared.token_key.TokenKey.{TokenKey}
use Rattle.cfg_token.specs.Histories.{token_in}
use Rattle.cfg_token.specs.SectionCalls.{is_memory}
use Rattle.cfg_token.specs.Sections.{section}
use Rattle.cfg_token.specs.SsoTokens.{is_sso, sso_rules}
use Rattle.cfg_gate.specs.declared.calls.Called.{Called}
use Rattle.cfg_gate.specs.GatedSections.{AnswersTurn}
use Rattle.cfg_gate.specs.Turns.{greater, greatest}
use Rattle.cfg_gate.specs.Worlds.{worlds_of}
use Rattle.cfg_kept.specs.Kinds.{Value}
use Rattle.cfg_kept.specs.KeptInquiry.{Reads as Answers}
use Rattle.cfg_sso.specs.BearerTokens.{Bearer, bearer}
use Rattle.cfg_token_chain.specs.ProfileTokens.{default_token, IsSessionPart, DefaultTokenCause}
use Rattle.cfg_token_chain.specs.Sessions.{profile_session, key_in, session_key}
use Rattle.cfg_token_chain.proofs.OneSession.{session_sso}
use Rattle.cfg_script.specs.declared.script.ShareScript.{ShareScript}
use Rattle.cfg_script.specs.Script.{plain_profiles, plain_share}
use Rattle.cfg_program.specs.declared.outcome.Answered.{Answered}
use Rattle.cfg_program.specs.Calls.{in_region, bytes_of, region_of, source_of, configured_by}
use Rattle.cfg_program.specs.Shares.{share_configuration}
use Rattle.cfg_program.specs.Gated.{GatedSection, IsGatedSection, section_line, section_lines, last_is_token, most_seen, shown_loads}
use Rattle.cfg_program.specs.Gated.{AtGate, WithoutSession, GatedBy, section_of, TellsSections}
use Rattle.cfg_program.specs.Lines.{shown_expiry}
use Rattle.cfg_program.specs.Sharing.{new_world}
use Rattle.cfg_program.specs.Tokens.{shown_bearer, shown_token}

-- what a caller hands back
abbrev pub Back : Type 0
Back = Called CachedSsoToken Script SsoTokenProviderError

-- ---- a section's line

pub given_token : (token : CachedSsoToken) → shown_bearer (bearer (Ok token)) ≡ codes "token " ++ shown_expiry (Some token.expires_at)
unfolding bearer
given_token token = refl

pub given_error : (e : SsoTokenProviderError) → shown_bearer (bearer (Err e)) ≡ codes "error " ++ token_class_name class.ProviderError
unfolding bearer errors.out-TokenError carrier.out
given_error e = refl

-- ---- one section more

last_behind : (sections : List GatedSection) (s : GatedSection) → last_is_token (sections ++ s ∷ []) ≡ is_ok s.answer
last_behind [] s = refl
last_behind (a ∷ []) s = refl
last_behind (a ∷ b ∷ sections) s = last_behind (b ∷ sections) s

all_behind : {X : Type 0} (P : X → Type 0) (xs : List X) (x : X) → AllByRecursion P xs → P x → AllByRecursion P (xs ++ x ∷ [])
all_behind P [] x all p = (p, tt)
all_behind P (y ∷ xs) x all p = (all.0, all_behind P xs x all.1 p)

pub no_sections : (lines : List ℕ) → lines ≡ [] → TellsSections [] false lines
no_sections lines none = record { answered = tt; token = refl; shows = none }

pub sections_more : (calls : List Back) (i : ℕ) (one : Back) (was is : Bool) (lines more : List ℕ) → i < length calls → one ≡ get_or calls i one
    → TellsSections (map section_of (take i calls)) was lines → is_memory sso_rules one.answer.outcome ≡ false
    → is ≡ is_ok one.answer.outcome → more ≡ lines ++ shown_token (bearer one.answer.outcome) one.world.journal
    → TellsSections (map section_of (take (i + 1) calls)) is more
sections_more calls i one was is lines more lt at so_far answered given shows =
    let so = map section_of (take i calls) in
    let line = section_line (section_of one) in
    let next : so ++ section_of one ∷ [] ≡ map section_of (take (i + 1) calls) =
    ap (λ (x : Back). so ++ section_of x ∷ []) at
    ∙ sym (map-append section_of (take i calls) (get_or calls i one ∷ []))
    ∙ ap (map section_of) (sym (take_more calls i one lt)) in
    subst (λ (s : List GatedSection). TellsSections s is more) next (record {
      answered = all_behind (λ s. is_memory sso_rules s.answer ≡ false) so (section_of one) so_far.answered answered;
      token = given ∙ sym (last_behind so (section_of one));
      shows = shows ∙ ap (λ (l : List ℕ). l ++ line) so_far.shows
          ∙ sym (flat_map-append section_line so (section_of one ∷ []) ∙ ap (λ (l : List ℕ). section_lines so ++ l) (append-nil line));
    })

-- ---- at a gate

-- scripted devices, by what they allow and stand for
module _ (d : Ghosts Script) (starts : (lists : DeviceLists) → d.stands (new_world lists).devices [])
    (stands_allowed : (s : Script) (entries : List Pair) → d.stands s entries → d.allows s entries)
    (allowed : (s : Script) (entries : List Pair) → d.allows s entries → Allows s entries) (conf : Configuration) (key : TokenKey) where
  -- a caller had its turn at the gate, over this world
  abbrev IsTurn : Held Script → Back → Type 0
  IsTurn world called =
      AnswersTurn sso_rules (worlds_of d) key conf.environment (settings_of conf) world called.world
      called.answer.kept called.answer.last called.found called.seen called.answer.outcome

  one_section : (lists : DeviceLists) (called : Back) → IsTurn (new_world lists) called → is_memory sso_rules called.answer.outcome ≡ false
      → IsGatedSection conf key lists (section_of called)
  one_section lists called turn answered =
      let t = turn.finished answered in
      let e = t.ends in
      let journal : called.world.journal ≡ e.part = e.grows in
      let stood : d.stands called.world.devices e.part = e.stands [] (starts lists) in
      let allows : d.allows (new_world lists).devices e.part = e.same.from e.part (stands_allowed called.world.devices e.part stood) in
      let given : Given lists start e.part = allowed (new_world lists).devices e.part allows in
      let tree = section sso_rules key conf.environment (settings_of conf) (token_in called.answer.kept) called.answer.last in
      record {
        finds = t.finds;
        made = t.made;
        answers = t.answers;
        reads = subst (λ (j : List Pair). Reads tree j t.made) (sym journal) e.reads;
        agrees = subst (λ (j : List Pair). Given lists start j) (sym journal) given;
        sees = t.sees;
      }

  all_sections : (all : List DeviceLists) (calls : List Back) → AllZip IsTurn (map new_world all) calls
      → AllByRecursion (λ s. is_memory sso_rules s.answer ≡ false) (map section_of calls)
      → AllZip (IsGatedSection conf key) all (map section_of calls)
  all_sections [] [] turns answered = tt
  all_sections [] (called ∷ calls) turns answered = absurd turns
  all_sections (lists ∷ all) [] turns answered = absurd turns
  all_sections (lists ∷ all) (called ∷ calls) turns answered = (one_section lists called turns.0 answered.0, all_sections all calls turns.1 answered.1)

-- the sections' callers have seen what is handed back
same_seen : (n : ℕ) (calls : List Back) → greatest n (map (λ (s : GatedSection). s.seen) (map section_of calls)) ≡ greatest n (map (λ (c : Back). c.seen) calls)
same_seen n [] = refl
same_seen n (c ∷ calls) = same_seen (greater n c.seen) calls

-- callers had their turns, over these worlds
module _ (d : Ghosts Script) where
  abbrev pub Turns : TokenKey → Variables → CallSettings → List (Held Script) → List Back → Type 0
  Turns key env settings worlds calls =
      AllZip (λ world called. AnswersTurn sso_rules (worlds_of d) key env settings world called.world
      called.answer.kept called.answer.last called.found called.seen called.answer.outcome) worlds calls

  turns_by : (one key : TokenKey) (made env : Variables) (given settings : CallSettings) (worlds news : List (Held Script)) (calls : List Back)
      → one ≡ key → made ≡ env → given ≡ settings → worlds ≡ news → Turns one made given worlds calls → Turns key env settings news calls
  turns_by one key made env given settings worlds news calls k e s w turns =
      let by_key = subst (λ (x : TokenKey). Turns x made given worlds calls) k turns in
      let by_env = subst (λ (x : Variables). Turns key x given worlds calls) e by_key in
      let by_settings = subst (λ (x : CallSettings). Turns key env x worlds calls) s by_env in
      subst (λ (x : List (Held Script)). Turns key env settings x calls) w by_settings

  pub at_gate : (conf : Configuration) (one key : TokenKey) (made : Variables) (given : CallSettings) (worlds : List (Held Script)) (calls listed : List Back)
      (loads : ℕ) (all : List DeviceLists) (is_token : Bool) (told lines : List ℕ) → Turns one made given worlds calls
      → one ≡ key → made ≡ conf.environment → given ≡ settings_of conf → worlds ≡ map new_world all → listed ≡ calls
      → loads ≡ greatest 0 (map (λ called. called.seen) calls) → TellsSections (map section_of listed) is_token told → lines ≡ told ++ shown_loads loads
      → (starts : (lists : DeviceLists) → d.stands (new_world lists).devices [])
      → (stands_allowed : (s : Script) (entries : List Pair) → d.stands s entries → d.allows s entries)
      → (allowed : (s : Script) (entries : List Pair) → d.allows s entries → Allows s entries) → AtGate conf key all is_token lines
  at_gate conf one key made given worlds calls listed loads all is_token told lines turns k e s w same seen tells shows starts stands_allowed allowed =
      let turned = turns_by one key made conf.environment given (settings_of conf) worlds (map new_world all) calls k e s w turns in
      let own = subst (λ (x : List Back). TellsSections (map section_of x) is_token told) same tells in record {
        sections = map section_of calls;
        made = all_sections d starts stands_allowed allowed conf key all calls turned own.answered;
        token = own.token;
        shows = shows ∙ ap (λ (n : ℕ). told ++ shown_loads n) (seen ∙ sym (same_seen 0 calls))
            ∙ ap (λ (l : List ℕ). l ++ shown_loads (most_seen (map section_of calls))) own.shows;
      }

-- ---- without a session

-- the chain's answer where it has no session: an error, for which nothing was found and nothing asked
record AsksNothing (found : List Value) (part : List Pair) (out : Bearer) : Type 0 where
  error : TokenError
  found_none : found ≡ []
  asked_none : part ≡ []
  is : out ≡ Err error

no_session : (conf : Configuration) (session : Result TokenKey TokenError) (found : List Value) (part : List Pair) (out : Bearer) → key_in session ≡ None
    → IsSessionPart conf session found part out → AsksNothing found part out
no_session conf (Ok key) found part out none h = absurd cc
no_session conf (Err e) found part out none h = record { error = e; found_none = h.0; asked_none = h.1; is = h.2 }

both_none : {X : Type 0} (whole first later : List X) → whole ≡ first ++ later → first ≡ [] → later ≡ [] → whole ≡ []
both_none whole first later is one other = is ∙ ap (λ x. x ++ later) one ∙ other

asks_nothing : (conf : Configuration) (found : List Value) (part : List Pair) (out : Bearer) → session_key conf ≡ None
    → DefaultTokenCause conf found part out → AsksNothing found part out
asks_nothing conf found part out none (inl h) =
    let n = no_session conf (profile_session conf) h.0 h.2 h.4 none h.8 in record {
      error = _;
      found_none = both_none found h.0 h.1 h.6 n.found_none h.10.0;
      asked_none = both_none part h.2 h.3 h.7 n.asked_none h.10.1;
      is = h.10.2;
    }
asks_nothing conf found part out none (inr h) = no_session conf (profile_session conf) found part out none h.0

-- the same line for each
abbrev each_line : List DeviceLists → Bearer → List Pair → List ℕ
each_line all out journal = flat_map (λ _. shown_token out journal) all ++ shown_loads 0

-- the key of a session is one of IAM Identity Center
key_given : (session : Result TokenKey TokenError) (key : TokenKey) → key_in session ≡ Some key → session ≡ Ok key
key_given (Ok k) key h = let same : k ≡ key = cc in ap Ok same
key_given (Err e) key h = absurd cc

pub key_is_sso : (conf : Configuration) (key : TokenKey) → session_key conf ≡ Some key → is_sso key ≡ true
key_is_sso conf key h = session_sso conf key (key_given (profile_session conf) key h)

pub without_session : (conf : Configuration) (all : List DeviceLists) (found : List Value) (part journal : List Pair) (out : Bearer) (lines : List ℕ)
    → session_key conf ≡ None → Answers (default_token conf) found part out → DefaultTokenCause conf found part out → journal ≡ part
    → lines ≡ flat_map (λ _. shown_token out journal) all ++ shown_loads 0 → WithoutSession conf all false lines
without_session conf all found part journal out lines none answers cause own shows =
    let n = asks_nothing conf found part out none cause in
    let tree = default_token conf in
    let unfound = subst (λ (f : List Value). Answers tree f part out) n.found_none answers in
    let unasked = subst (λ (p : List Pair). Answers tree [] p out) n.asked_none unfound in record {
      error = n.error;
      answers = subst (λ (o : Bearer). Answers tree [] [] o) n.is unasked;
      token = refl;
      shows = shows ∙ ap (λ (j : List Pair). each_line all out j) (own ∙ n.asked_none) ∙ ap (λ (o : Bearer). each_line all o []) n.is;
    }

-- ---- by the key

-- what is told of this configuration, which is the script's
module _ {E : Type 0} (r : Result Answered E) (conf held : Configuration) (all listed : List DeviceLists) (is : held ≡ conf) (same : listed ≡ all) where
  pub gated_with : (key : TokenKey) → session_key conf ≡ Some key → IfOk r (λ a. AtGate held key listed a.is_ok a.lines.items)
      → IfOk r (λ a. GatedBy (session_key conf) conf all a.is_ok a.lines.items)
  gated_with key has h =
      subst (λ (o : Option TokenKey). IfOk r (λ a. GatedBy o conf all a.is_ok a.lines.items)) (sym has)
      (subst (λ (c : Configuration). IfOk r (λ a. AtGate c key all a.is_ok a.lines.items)) is
      (subst (λ (l : List DeviceLists). IfOk r (λ a. AtGate held key l a.is_ok a.lines.items)) same h))

  pub gated_without : session_key conf ≡ None → IfOk r (λ a. WithoutSession held listed a.is_ok a.lines.items)
      → IfOk r (λ a. GatedBy (session_key conf) conf all a.is_ok a.lines.items)
  gated_without none h =
      subst (λ (o : Option TokenKey). IfOk r (λ a. GatedBy o conf all a.is_ok a.lines.items)) (sym none)
      (subst (λ (c : Configuration). IfOk r (λ a. WithoutSession c all a.is_ok a.lines.items)) is
      (subst (λ (l : List DeviceLists). IfOk r (λ a. WithoutSession held l a.is_ok a.lines.items)) same h))

-- what the chain and the sections are configured with is what the script says
pub chain_is : (chain config copied : Configuration) (given region : Option (List ℕ)) → chain ≡ in_region copied given → copied ≡ config → given ≡ region
    → chain ≡ in_region config region
chain_is chain config copied given region is copy same = is ∙ ap (λ (k : Configuration). in_region k given) copy ∙ ap (λ r. in_region config r) same

pub script_is : (script : ShareScript) (config : Configuration) (region : Option (List ℕ))
    → config ≡ configured_by (map named script.variables.items) (source_of (plain_profiles script.profiles)) (bytes_of script.selected) script.sleep script.service
    → region ≡ region_of script.region → in_region config region ≡ share_configuration (plain_share script)
script_is script config region is same =
    let said = configured_by (map named script.variables.items) (source_of (plain_profiles script.profiles)) (bytes_of script.selected) script.sleep script.service in
    ap (λ (k : Configuration). in_region k region) is ∙ ap (λ r. in_region said r) same
