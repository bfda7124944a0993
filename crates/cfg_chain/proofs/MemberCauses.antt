-- Each member's answer has its cause, and a member is passed over by its line of the table.
use Rattle.std.proofs.Common.{List, [], None}
use Rattle.cfg_world.specs.Fits.{Pair}
use Rattle.cfg_kept.specs.Kinds.{Value}
use Rattle.cfg_kept.specs.KeptInquiry.{Reads}
use Rattle.cfg_kept.proofs.Splits.{lowered}
use Rattle.cfg_imds_credentials.proofs.Reasons as metadata
use Rattle.cfg_providers.specs.CustomSources.{Answer}
use Rattle.cfg_providers.specs.EnvironmentKeys.{by_environment}
use Rattle.cfg_providers.specs.WebIdentities.{no_policies, web_identity}
use Rattle.cfg_providers.proofs.WebIdentityCauses.{web_identity_cause}
use Rattle.cfg_chain.specs.declared.member.Member.{Member}
use Rattle.cfg_chain.specs.declared.member.Member.TheVariants.{Environment, Profile, WebIdentityToken, EcsContainer, Ec2InstanceMetadata}
use Rattle.cfg_chain.specs.Settings.{Setting, chain_metadata}
use Rattle.cfg_chain.specs.Members.{member_tree, credentials_chain, default_members, default_chain}
use Rattle.cfg_chain.specs.Causes.{Cause}
use Rattle.cfg_kept.specs.ChainParts.{MemberReads}
use Rattle.cfg_chain.specs.profile.Bases.{by_container}
use Rattle.cfg_chain.specs.Resolves.{IsPart, Resolves}
use Rattle.cfg_kept.proofs.ChainParts.{chain_parts, parts_chain, parts_more}
use Rattle.cfg_chain.proofs.ProfileCauses.{environment_fails, container_fails, profile_fails}

pub has_cause : (s : Setting) (member : Member) (found : List Value) (part : List Pair) (out : Answer) → Reads (member_tree s member) found part out → Cause s member found part out
unfolding member_tree
has_cause s Environment found part out h = environment_fails s part out (lowered (by_environment s.configuration.environment) found part out h).1
has_cause s Profile found part out h = profile_fails s found part out h
has_cause s WebIdentityToken found part out h = web_identity_cause s.configuration None no_policies part out (lowered (web_identity s.configuration None no_policies) found part out h).1
has_cause s EcsContainer found part out h = container_fails s part out (lowered (by_container s.configuration s.container) found part out h).1
has_cause s Ec2InstanceMetadata found part out h = metadata.has_cause (chain_metadata s) found part out h

is_part : (s : Setting) (member : Member) (found : List Value) (part : List Pair) (out : Answer) → MemberReads (credentials_chain s) member found part out → IsPart s member found part out
is_part s member found part out h = record { reads = h; cause = has_cause s member found part out h }

-- what the default chain reads is a call of it, and the other way round
pub resolved : (s : Setting) (found : List Value) (journal : List Pair) (out : Answer) → Reads (default_chain s) found journal out → Resolves s found journal out
resolved s found journal out h = parts_more (credentials_chain s) (is_part s) default_members [] found journal out (chain_parts (credentials_chain s) default_members [] found journal out h)

pub reads_resolved : (s : Setting) (found : List Value) (journal : List Pair) (out : Answer) → Resolves s found journal out → Reads (default_chain s) found journal out
reads_resolved s found journal out h =
    parts_chain (credentials_chain s) default_members [] found journal out
    (parts_more (credentials_chain s) {P = IsPart s} {Q = MemberReads (credentials_chain s)} (λ member found part out p. p.reads) default_members [] found journal out h)
