-- What the members of a chain read of sign-in sessions.
use Rattle.std.specs.Prelude.{◌≡◌, ◌⊎◌, List, [], ◌∷◌, ◌++◌, false, is_ok, IfOk, Err}
use Rattle.cfg_types.specs.declared.errors.CredentialsError.{CredentialsError}
use Rattle.cfg_world.specs.Fits.{Pair}
use Rattle.cfg_world.specs.LastReadings.{last_reading}
use Rattle.cfg_kept.specs.Kinds.{Value}
use Rattle.cfg_providers.specs.CustomSources.{Answer}
use Rattle.cfg_login.specs.Endings.{EndsAfter}
use Rattle.cfg_login.specs.FoundSessions.{ReadsNoSession}
use Rattle.cfg_chain.specs.Sessions.{ReadsSession, ChainReadsSession, StopsInSession}
use Rattle.cfg_assume_role.specs.Sessions.{RoleReadsSession, RoleStopsInSession}
use Rattle.cfg_meta.specs.MemberParts.{Keeping}
use Rattle.cfg_credentials_chain.specs.Members.{Asked, OfSignIn, OfProfile, ByDefault, ForRole, NamedAsked}

-- A line for each member: its own session, that of its plan, that of its base, or none. It found these values, this is
-- its part of the journal, and so it answers.
abbrev pub MemberReadsSession : Asked → List Value → List Pair → Answer → Type 0
MemberReadsSession (OfSignIn s) found part out = IfOk out (λ keys. EndsAfter (last_reading part) keys.expiry)
MemberReadsSession (OfProfile over) found part out = ReadsSession over found part out
MemberReadsSession (ByDefault over) found part out = ChainReadsSession over found part out
MemberReadsSession (ForRole call base) found part out = RoleReadsSession call base found part out
MemberReadsSession _ found part out = ReadsNoSession found

-- the same of the beginning of a part, which hands on no credentials of its own session
abbrev pub MemberStopsInSession : Asked → List Value → List Pair → Type 0
MemberStopsInSession (OfSignIn s) found part = Unit {0}
MemberStopsInSession (OfProfile over) found part = StopsInSession over found part
MemberStopsInSession (ByDefault over) found part = StopsInSession over found part
MemberStopsInSession (ForRole call base) found part = RoleStopsInSession call base found part
MemberStopsInSession _ found part = ReadsNoSession found

-- The journal is the parts of members that gave errors, in order, and then one of which the first argument holds; or
-- each member gave an error, and the second holds.
abbrev pub InOrder : (Asked → List Value → List Pair → Type 0) → Type 0 → List NamedAsked → List Keeping → List Pair → Type 0
InOrder at_member at_end (member ∷ members) (kept ∷ keepings) journal =
    at_member member.1 kept.found journal
    ⊎ ((part : List Pair) × (rest : List Pair) × (e : CredentialsError) × (journal ≡ part ++ rest) × MemberReadsSession member.1 kept.found part (Err e)
    × InOrder at_member at_end members keepings rest)
InOrder at_member at_end _ _ journal = (journal ≡ []) × at_end

-- The outcome is what the last of these members answers; or there are no credentials.
abbrev pub MembersReadSession : List NamedAsked → List Keeping → List Pair → Answer → Type 0
MembersReadSession members keepings journal out = InOrder (λ member found part. MemberReadsSession member found part out) (is_ok out ≡ false) members keepings journal

-- The last of them has only begun.
abbrev pub MembersStopInSession : List NamedAsked → List Keeping → List Pair → Type 0
MembersStopInSession members keepings journal = InOrder MemberStopsInSession (Unit {0}) members keepings journal
