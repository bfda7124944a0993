-- Which calls of the default chain give credentials, said of the variables, of the selected profile
-- and of the journal's entries.
use Rattle.std.specs.Prelude.{◌≡◌, ◌≢◌, ◌⊎◌, ◌≤◌, ℕ, suc, pos, List, [], ◌∷◌, ◌==◌, Bool, true, false, Option, Some, None, IsSome, IsNone, IfSome, IsOk, Result, Ok, Err, codes, if◌then◌else◌}
use Rattle.std.specs.List.{All}
use Rattle.std.specs.Str.{encode_utf8_all, is_utf8}
use Rattle.cfg_base.specs.declared.address.Address.{Address}
use Rattle.cfg_types.specs.Environment.{Variables, variable}
use Rattle.cfg_types.specs.Replies.{sts_in}
use Rattle.cfg_types.specs.declared.command.Finished.{Finished}
use Rattle.cfg_types.specs.declared.environment.VarError.TheVariants.{NotUnicode}
use Rattle.cfg_types.specs.declared.errors.CredentialsError.{CredentialsError}
use Rattle.cfg_types.specs.declared.reply.FailKind.{FailKind}
use Rattle.cfg_types.specs.declared.reply.sts.StsReply.{StsReply}
use Rattle.cfg_types.specs.declared.request.Request.{Request}
use Rattle.cfg_types.specs.declared.request.Request.TheVariants as request
use Rattle.cfg_world.specs.declared.ask.Question.{Question}
use Rattle.cfg_world.specs.declared.ask.Question.TheVariants as question
use Rattle.cfg_world.specs.declared.ask.Answer.{Answer as Given}
use Rattle.cfg_world.specs.declared.ask.Answer.TheVariants as answer
use Rattle.cfg_world.specs.declared.leaves.NotGranted.{NotGranted}
use Rattle.cfg_world.specs.Leaves.{contents_of, addresses_of, granted_of}
use Rattle.cfg_world.specs.Fits.{Pair}
use Rattle.cfg_world.specs.Repeats.{IsRepeated}
use Rattle.cfg_exchange.specs.declared.container.ContainerUri.{ContainerUri}
use Rattle.cfg_exchange.specs.declared.container.ContainerUri.TheVariants as uri
use Rattle.cfg_exchange.specs.declared.full_uri.FullUri.{FullUri}
use Rattle.cfg_exchange.specs.declared.full_uri.FullUri.TheVariants.{Secure, AtAddress, AtName}
use Rattle.cfg_exchange.specs.Addresses.{is_allowed}
use Rattle.cfg_exchange.specs.Containers.{token_file, token_text, answer_keys}
use Rattle.cfg_exchange.specs.HeaderValues.{is_header_value}
use Rattle.cfg_kept.specs.Beginnings.{IsPrefix}
use Rattle.cfg_kept.specs.Kinds.{Value}
use Rattle.cfg_kept.specs.KeptInquiry.{Reads}
use Rattle.cfg_imds_credentials.specs.Settings.{MetadataSetting}
use Rattle.cfg_imds_credentials.specs.Metadata.{metadata}
use Rattle.cfg_imds_credentials.specs.Causes.{retrieved_in}
use Rattle.cfg_imds_credentials.specs.Valid as usable
use Rattle.cfg_login.specs.declared.asked_by.AskedBy.TheVariants as by
use Rattle.cfg_login.specs.SignIns.{sign_in_credentials}
use Rattle.cfg_login.specs.InNoWay as sign_in
use Rattle.cfg_sso.specs.declared.config.SsoProviderConfig.{SsoProviderConfig}
use Rattle.cfg_sso.specs.SsoCauses.{SsoCause}
use Rattle.cfg_sso.specs.InNoWay.{NothingInTheWay}
use Rattle.cfg_profile.specs.Configuration.{Configuration}
use Rattle.cfg_profile.specs.declared.chain.BaseProvider.{BaseProvider}
use Rattle.cfg_profile.specs.declared.chain.BaseProvider.TheVariants as base
use Rattle.cfg_profile.specs.NamedSources.{is_alike}
use Rattle.cfg_providers.specs.declared.web_identity_token.WebIdentity.{WebIdentity}
use Rattle.cfg_providers.specs.CustomSources.{Answer, last_named}
use Rattle.cfg_providers.specs.EnvironmentKeys.{usable}
use Rattle.cfg_providers.specs.ProcessDocuments.{process_document}
use Rattle.cfg_providers.specs.WebIdentities.{identity_in}
use Rattle.cfg_chain.specs.Settings.{Setting, names_of, chain_metadata, named_metadata}
use Rattle.cfg_chain.specs.profile.Bases.{signed_on}
use Rattle.cfg_chain.specs.profile.Plans.{Planned, plan, is_not_loaded_error}

-- ---- the entries

-- the number of colons, each the byte 58
abbrev pub colons : List ℕ → ℕ
colons [] = 0
colons (b ∷ bytes) = if b == 58 then suc (colons bytes) else colons bytes

-- The text has at least five parts with a colon between each two. The fifth part of an ARN is the
-- account: arn:PARTITION:SERVICE:REGION:ACCOUNT:RESOURCE.
abbrev pub HasFiveParts : List ℕ → Type 0
HasFiveParts arn = 4 ≤ colons (encode_utf8_all arn)

-- The reply has credentials, and its ARN, where it has one, has at least five parts.
pub record HoldsCredentials (given : StsReply) : Type 0 where
  pub credentials : IsSome given.credentials
  pub arn : IfSome given.arn HasFiveParts

-- A service granted something, and what it granted holds credentials.
abbrev pub IsGrantOfUse : Result StsReply NotGranted → Type 0
IsGrantOfUse (Ok given) = HoldsCredentials given
IsGrantOfUse (Err reason) = ⊥

-- A request for a role was granted, and a container's reply is a document of credentials. No other
-- request is looked at here.
abbrev pub IsGranted : Request → Given → Type 0
IsGranted (request.AssumeRole call) given = IsGrantOfUse (granted_of sts_in given)
IsGranted (request.AssumeRoleWithWebIdentity call) given = IsGrantOfUse (granted_of sts_in given)
IsGranted (request.Http call) given = IsOk (answer_keys given)
IsGranted _ given = Unit {0}

-- what was read of a file, or why it could not be read
abbrev pub Contents : Type 0
Contents = Result (List ℕ) FailKind

-- The file of a web identity was read, and is UTF-8.
abbrev pub IsText : Contents → Type 0
IsText (Ok bytes) = is_utf8 bytes ≡ true
IsText (Err kind) = ⊥

-- The file of a container's token was read, and holds a header value.
abbrev pub HoldsHeaderValue : Contents → Type 0
HoldsHeaderValue (Ok bytes) = is_header_value bytes ≡ true
HoldsHeaderValue (Err kind) = ⊥

-- A command ended with the status 0, and its output is a document of credentials, in UTF-8.
pub record HasPrinted (finished : Finished) : Type 0 where
  pub ended : finished.status ≡ pos 0
  pub text : is_utf8 finished.output ≡ true
  pub document : (account : Option (List ℕ)) → IsOk (process_document finished.output account)

abbrev pub IsPrinted : Given → Type 0
IsPrinted (answer.Finished finished) = HasPrinted finished
IsPrinted _ = ⊥

-- All addresses of a name are allowed.
abbrev pub AreAllowed : Result (List Address) FailKind → Type 0
AreAllowed (Ok addresses) = All (λ a. is_allowed a ≡ true) addresses
AreAllowed (Err kind) = ⊥

-- The answer is of use, where this is asked of a file.
abbrev pub IsOfUse : (Contents → Type 0) → Question → Given → Type 0
IsOfUse Files (question.Read path) given = Files (contents_of given)
IsOfUse Files (question.Run command) given = IsPrinted given
IsOfUse Files (question.LookUp host) given = AreAllowed (addresses_of given)
IsOfUse Files (question.Send request) given = IsGranted request given
IsOfUse Files _ given = Unit {0}

-- Each answer is of use, but for those of attempts that are made again.
abbrev pub AreOfUse : (Contents → Type 0) → List Pair → Type 0
AreOfUse Files [] = Unit {0}
AreOfUse Files (e ∷ rest) = (IsOfUse Files e.0 e.1 ⊎ IsRepeated e.0 rest) × AreOfUse Files rest

-- ---- the variables and the profile

-- The variables that the environment needs are Unicode where they are set: the access key, and
-- behind it the older name of the secret, where the first name gives none.
pub record HasTexts (env : Variables) : Type 0 where
  pub access_key : variable env (codes "AWS_ACCESS_KEY_ID") ≢ Err NotUnicode
  pub older_secret : IsSome (usable (variable env (codes "AWS_ACCESS_KEY_ID"))) → IsNone (usable (variable env (codes "AWS_SECRET_ACCESS_KEY"))) → variable env (codes "SECRET_ACCESS_KEY") ≢ Err NotUnicode

-- The environment has an access key, and a secret under one of its two names.
pub record HoldsKeys (env : Variables) : Type 0 where
  pub access_key : IsSome (usable (variable env (codes "AWS_ACCESS_KEY_ID")))
  pub secret : IsSome (usable (variable env (codes "AWS_SECRET_ACCESS_KEY"))) ⊎ IsSome (usable (variable env (codes "SECRET_ACCESS_KEY")))

-- A full address names HTTPS, an allowed address, or a name.
abbrev pub IsFullAddress : FullUri → Type 0
IsFullAddress (Secure target) = Unit {0}
IsFullAddress (AtAddress target address) = is_allowed address ≡ true
IsFullAddress (AtName target host) = Unit {0}
IsFullAddress _ = ⊥

-- The variables name an address of a container that may be asked.
abbrev pub IsAddress : ContainerUri → Type 0
IsAddress (uri.Relative target) = Unit {0}
IsAddress (uri.Full text named) = IsFullAddress named
IsAddress _ = ⊥

-- A container's token is none, that of a file, or a header value.
abbrev pub HasToken : Option (List ℕ) → Option (List ℕ) → Type 0
HasToken (Some path) text = Unit {0}
HasToken None text = IfSome text (λ t. is_header_value (encode_utf8_all t) ≡ true)

-- A container can be asked.
pub record IsContainer (s : Setting) : Type 0 where
  pub address : IsAddress s.container
  pub token : HasToken (token_file s.configuration.environment) (token_text s.configuration.environment)

-- What a base finds and asks begins the values that a call finds and its journal: the environment and the plan find
-- and ask nothing. Over one call a base comes to its end over one such beginning alone, which is its own part.

-- Over the part in which the instance metadata service is asked, nothing stands in the way, or retrieved
-- credentials are found there.
abbrev pub GivesMetadata : MetadataSetting → List Value → List Pair → Type 0
GivesMetadata m found journal = (mine : List Value) (part : List Pair) (given : Answer) → IsPrefix mine found → IsPrefix part journal → Reads (metadata m) mine part given →
    IsSome (retrieved_in mine) ⊎ usable.IsValid m part

-- Over the part in which IAM Identity Center is asked, nothing stands in the way.
abbrev pub GivesSignOn : Configuration → SsoProviderConfig → List Value → List Pair → Type 0
GivesSignOn conf sso found journal = (mine : List Value) (part : List Pair) (given : Answer) → IsPrefix mine found → IsPrefix part journal → (cause : SsoCause conf sso mine part given) →
    NothingInTheWay conf sso mine cause.token_part cause.role_part

-- Over the part in which the token of a sign-in session is looked at, nothing stands in the way.
abbrev pub GivesSignIn : Configuration → List ℕ → List Value → List Pair → Type 0
GivesSignIn conf session found journal = (mine : List Value) (part : List Pair) (given : Answer) → IsPrefix mine found → IsPrefix part journal → Reads (sign_in_credentials conf session by.Profile) mine part given →
    sign_in.NothingInTheWay conf mine part

-- by whether the name is that of the environment, of a container, of instance metadata
abbrev pub IsBuiltInBy : Setting → Bool → Bool → Bool → List Value → List Pair → Type 0
IsBuiltInBy s true container metadata found journal = HoldsKeys s.configuration.environment
IsBuiltInBy s false true metadata found journal = IsContainer s
IsBuiltInBy s false false true found journal = GivesMetadata (named_metadata s) found journal
IsBuiltInBy s false false false found journal = ⊥

-- A caller's own source answers, or one that is always there has something to give.
abbrev pub IsSource : Setting → List ℕ → Option Answer → List Value → List Pair → Type 0
IsSource s name (Some given) found journal = IsOk given
IsSource s name None found journal =
    IsBuiltInBy s (is_alike name (codes "Environment")) (is_alike name (codes "EcsContainer")) (is_alike name (codes "Ec2InstanceMetadata")) found journal

-- A base has something to give: a named source answers, and any other base stands in the profile.
abbrev pub IsBase : Setting → BaseProvider → List Value → List Pair → Type 0
IsBase s (base.AccessKey keys) found journal = Unit {0}
IsBase s (base.NamedSource name) found journal = IsSource s name (last_named name s.sources) found journal
IsBase s (base.WebIdentityTokenRole arn file session) found journal = Unit {0}
IsBase s (base.CredentialProcess command account) found journal = Unit {0}
IsBase s (base.Sso session region url (Some account) (Some role)) found journal = GivesSignOn s.configuration (signed_on session region url account role) found journal
IsBase s (base.LoginSession session) found journal = GivesSignIn s.configuration session found journal
IsBase s _ found journal = ⊥

-- what is asked behind a container that the variables do not name: where a file holds its token, this is read
-- before, and nothing else
abbrev pub behind_container : Option (List ℕ) → List Pair → List Pair
behind_container (Some path) (read ∷ rest) = rest
behind_container _ journal = journal

-- The variables name no container, its token is fine, and behind it the instance metadata service gives something.
pub record GivesBehindContainer (s : Setting) (found : List Value) (journal : List Pair) : Type 0 where
  pub unset : s.container ≡ uri.NotSet
  pub token : HasToken (token_file s.configuration.environment) (token_text s.configuration.environment)
  pub metadata : GivesMetadata (chain_metadata s) found (behind_container (token_file s.configuration.environment) journal)

-- The variables name a web identity, or a container that can be asked; or no container, and the instance
-- metadata service gives something.
abbrev pub GivesBehindProfile : Setting → List Value → List Pair → Type 0
GivesBehindProfile s found journal = IsOk (identity_in s.configuration.environment) ⊎ (IsContainer s ⊎ GivesBehindContainer s found journal)

-- The selected profile has a base with something to give; or it is passed over, and a member behind it
-- has.
abbrev pub GivesBehindEnvironment : Setting → Planned → List Value → List Pair → Type 0
GivesBehindEnvironment s (Ok p) found journal = IsBase s p.base found journal
GivesBehindEnvironment s (Err e) found journal = (is_not_loaded_error e ≡ true) × GivesBehindProfile s found journal

-- What is asked of a file that a base reads: a web identity's own, or that of a container's token, which is
-- the only one that a named source reads. Those of sessions are judged with the section of their token.
abbrev pub IsFileOfBase : BaseProvider → Contents → Type 0
IsFileOfBase (base.WebIdentityTokenRole arn file session) held = IsText held
IsFileOfBase (base.NamedSource name) held = HoldsHeaderValue held
IsFileOfBase _ held = Unit {0}

-- Behind the profile that of the web identity is read, where the variables name one, and else that of a
-- container's token.
abbrev pub IsFileBehindProfile : Result WebIdentity CredentialsError → Contents → Type 0
IsFileBehindProfile (Ok identity) held = IsText held
IsFileBehindProfile (Err e) held = HoldsHeaderValue held

-- what is asked of a file that a call reads
abbrev pub IsFile : Variables → Planned → Contents → Type 0
IsFile env (Ok p) held = IsFileOfBase p.base held
IsFile env (Err e) held = IsFileBehindProfile (identity_in env) held

-- Nothing stands in the way of credentials: the variables are texts; the environment has something to
-- give, or a member behind it; and each answer in the journal's part is of use.
pub record IsValid (s : Setting) (found : List Value) (part : List Pair) : Type 0 where
  pub texts : HasTexts s.configuration.environment
  pub given : HoldsKeys s.configuration.environment ⊎ GivesBehindEnvironment s (plan s.configuration (names_of s.sources)) found part
  pub answers : AreOfUse (IsFile s.configuration.environment (plan s.configuration (names_of s.sources))) part
