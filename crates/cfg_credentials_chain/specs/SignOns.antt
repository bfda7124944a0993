-- What the members of a chain ask IAM Identity Center for.
use Rattle.std.specs.Prelude.{◌≡◌, ◌⊎◌, List, [], ◌∷◌, ◌++◌}
use Rattle.cfg_world.specs.Fits.{Pair}
use Rattle.cfg_kept.specs.Kinds.{Value}
use Rattle.cfg_sso.specs.RoleRequests.{AsksNoRole, SendsOnce}
use Rattle.cfg_chain.specs.SignOns.{SignsOn}
use Rattle.cfg_assume_role.specs.SignOns.{BaseSignsOn}
use Rattle.cfg_meta.specs.MemberParts.{Keeping}
use Rattle.cfg_credentials_chain.specs.Members.{Asked, OfSession, OfProfile, ByDefault, ForRole, NamedAsked}

-- A line for each member: its role once, as its plan says, as its base does, or nothing. It found these values, and
-- this is its part of the journal.
abbrev pub MemberSignsOn : Asked → List Value → List Pair → Type 0
MemberSignsOn (OfSession s) found part = SendsOnce s.configuration s.sso found part ⊎ AsksNoRole part
MemberSignsOn (OfProfile over) found part = SignsOn over found part
MemberSignsOn (ByDefault over) found part = SignsOn over found part
MemberSignsOn (ForRole call base) found part = BaseSignsOn base found part
MemberSignsOn _ found part = AsksNoRole part

-- The journal is the parts of members, in order, each with what was found of it. Members behind have none.
abbrev pub MembersSignOn : List NamedAsked → List Keeping → List Pair → Type 0
MembersSignOn (member ∷ members) (kept ∷ keepings) journal =
    (part : List Pair) × (rest : List Pair) × (journal ≡ part ++ rest) × MemberSignsOn member.1 kept.found part × MembersSignOn members keepings rest
MembersSignOn _ _ journal = journal ≡ []
