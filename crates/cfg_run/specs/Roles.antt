-- The questions for roles of a journal, and what is left of a path's roles behind one of them.
use Rattle.std.specs.Prelude.{◌≡◌, ℕ, zero, suc, List, [], ◌∷◌, ◌++◌, length, drop, Option, Some, None}
use Rattle.cfg_types.specs.Keys.{Keys}
use Rattle.cfg_types.specs.declared.request.Request.{Request}
use Rattle.cfg_types.specs.declared.request.Request.TheVariants.{AssumeRole}
use Rattle.cfg_types.specs.declared.settings.CallSettings.{CallSettings}
use Rattle.cfg_world.specs.declared.ask.Question.{Question}
use Rattle.cfg_world.specs.declared.ask.Question.TheVariants.{Send}
use Rattle.cfg_world.specs.Fits.{Pair}
use Rattle.cfg_world.specs.Inquiry.{Inquiry, Done, Begun, after}
use Rattle.cfg_profile.specs.declared.chain.RoleArn.{RoleArn}
use Rattle.cfg_providers.specs.AssumeRole.{assumes_roles}
use Rattle.cfg_providers.specs.CustomSources.{Answer}
use Rattle.cfg_chain.specs.profile.Profiles.{marked}
use Rattle.cfg_run.specs.declared.last_role.LastRole.{LastRole}

-- whose credentials sign a request for a role
abbrev pub signer_of : Request → Option Keys
signer_of (AssumeRole request) = Some request.signer
signer_of _ = None

-- whose credentials sign a question for a role, where it is one
abbrev pub signer_in : Question → Option Keys
signer_in (Send request) = signer_of request
signer_in _ = None

abbrev pub counted : Option Keys → ℕ → ℕ
counted (Some signer) n = suc n
counted None n = n

-- how many entries are for roles
abbrev pub roles_in : List Pair → ℕ
roles_in [] = zero
roles_in (e ∷ journal) = counted (signer_in e.0) (roles_in journal)

-- An entry for a role, with what is before it and behind it.
pub record IsForRole (journal front : List Pair) (entry : Pair) (behind : List Pair) (signer : Keys) : Type 0 where
  pub parts : journal ≡ front ++ entry ∷ behind
  pub signed : signer_in entry.0 ≡ Some signer

-- The last entry for a role is at this place, and so many for roles are before it.
pub record IsAtRole (last : LastRole) (journal : List Pair) : Type 0 where
  pub front : List Pair
  pub entry : Pair
  pub behind : List Pair
  pub signer : Keys
  pub is : IsForRole journal front entry behind signer
  pub at : last.at ≡ length front
  pub number : last.number ≡ roles_in front
  pub none : roles_in behind ≡ zero

abbrev pub IsLastRole : Option LastRole → List Pair → Type 0
IsLastRole None journal = roles_in journal ≡ zero
IsLastRole (Some last) journal = IsAtRole last journal

-- how many questions a role asks before its exchange: the clock, where it names no session
abbrev pub asked_before : Option (List ℕ) → ℕ
asked_before (Some name) = zero
asked_before None = suc zero

-- these roles, one after another, the first of them with these credentials, and the last one's marked
abbrev pub marked_roles : CallSettings → List RoleArn → Keys → Inquiry Answer
marked_roles settings roles keys = after (assumes_roles settings roles keys) (λ last. Done (marked last))

-- What is left of these roles at a place of a journal: the role that is assumed there, those behind it, whose
-- credentials sign for it, and the entries from its first question on, which have begun what is left.
pub record AreLeft (settings : CallSettings) (roles : List RoleArn) (journal : List Pair) (last : LastRole) : Type 0 where
  pub role : RoleArn
  pub more : List RoleArn
  pub there : drop last.number roles ≡ role ∷ more
  pub before : List Pair
  pub asked : List Pair
  pub entry : Pair
  pub behind : List Pair
  pub signer : Keys
  pub is : IsForRole journal (before ++ asked) entry behind signer
  pub at : last.at ≡ length (before ++ asked)
  pub few : length asked ≡ asked_before role.session_name
  pub begun : Begun (marked_roles settings (role ∷ more) signer) (asked ++ entry ∷ behind)
