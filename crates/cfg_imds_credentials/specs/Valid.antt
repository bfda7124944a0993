-- Which calls of a provider of metadata credentials give some, said of what it is set to and of the
-- entries of the journal.
use Rattle.std.specs.Prelude.{◌≡◌, ◌⊎◌, ℕ, List, [], ◌∷◌, false, Option, Some, None, IfSome, IsOk}
use Rattle.cfg_types.specs.declared.request.Request.{Request}
use Rattle.cfg_types.specs.declared.request.Request.TheVariants as request
use Rattle.cfg_world.specs.declared.ask.Question.{Question}
use Rattle.cfg_world.specs.declared.ask.Question.TheVariants.{Send}
use Rattle.cfg_world.specs.Fits.{Pair}
use Rattle.cfg_world.specs.Repeats.{IsRepeated}
use Rattle.cfg_imds.specs.Clients.{endpoint_fault}
use Rattle.cfg_imds.specs.Fetches.{entry_fault, entry_text}
use Rattle.cfg_imds.specs.Paths.{IsPath}
use Rattle.cfg_imds.specs.Tokens.{read_token}
use Rattle.cfg_kept.specs.RoleDocuments.{role_document}
use Rattle.cfg_imds_credentials.specs.Settings.{MetadataSetting}
use Rattle.cfg_imds_credentials.specs.Metadata.{role_path}
use Rattle.cfg_imds_credentials.specs.Causes.{first_text}

-- The reply gives a session token, together with the reading of the clock that follows it.
abbrev pub GivesToken : Pair → List Pair → Type 0
GivesToken reply [] = ⊥
GivesToken reply (reading ∷ rest) = IsOk (read_token reply reading)

abbrev pub IsAnswered : Request → Pair → List Pair → Type 0
IsAnswered (request.MetadataToken call) e rest = GivesToken e rest
IsAnswered (request.MetadataGet call) e rest = entry_fault e ≡ None
IsAnswered _ e rest = Unit {0}

-- The answer is of use: a session token, or a success whose body is UTF-8.
abbrev pub IsOfUse : Question → Pair → List Pair → Type 0
IsOfUse (Send request) e rest = IsAnswered request e rest
IsOfUse _ e rest = Unit {0}

-- Each answer is of use, but for those of attempts that are made again.
abbrev pub AreOfUse : List Pair → Type 0
AreOfUse [] = Unit {0}
AreOfUse (e ∷ rest) = (IsOfUse e.0 e rest ⊎ IsRepeated e.0 rest) × AreOfUse rest

abbrev pub IsDocument : Option (Pair × List Pair) → Type 0
IsDocument text = IfSome text (λ t. IsOk (role_document t.0))

-- The text of a listing is a path behind the listing's, and the text behind it is a document of keys.
pub record IsListing (text : Pair × List Pair) : Type 0 where
  pub path : IsPath (role_path (entry_text text.0))
  pub document : IsDocument (first_text text.1)

abbrev pub GivesRole : Option (List ℕ) → List Pair → Type 0
GivesRole (Some role) part = IsPath (role_path role) × IsDocument (first_text part)
GivesRole None part = IfSome (first_text part) IsListing

-- Nothing stands in the way: metadata is not switched off, its endpoint can be asked, and so can the
-- path of the role, whose document has keys; and each answer in the part is of use.
pub record IsValid (s : MetadataSetting) (part : List Pair) : Type 0 where
  pub enabled : s.disabled ≡ false
  pub endpoint : endpoint_fault s.client.endpoint ≡ None
  pub role : GivesRole s.role part
  pub answers : AreOfUse part
