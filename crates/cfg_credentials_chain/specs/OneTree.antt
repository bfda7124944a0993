-- A member has one tree.
use Rattle.std.proofs.Common.{◌≡◌, sym, ap, ◌∙◌}
use Rattle.cfg_exchange.proofs.OnePlace.{one_place}
use Rattle.cfg_kept.specs.KeptInquiry.{KeptInquiry, lift}
use Rattle.cfg_providers.specs.ContainerSetups.{asks_container}
use Rattle.cfg_providers.specs.CustomSources.{Answer}
use Rattle.cfg_chain.specs.Settings.{setting}
use Rattle.cfg_chain.proofs.Calls.{one_answer}
use Rattle.cfg_chain.specs.Members.{default_chain}
use Rattle.cfg_chain.specs.profile.Profiles.{profile}
use Rattle.cfg_assume_role.specs.Bases as base
use Rattle.cfg_assume_role.specs.Bases.{Base, IsBaseTree}
use Rattle.cfg_assume_role.specs.Roles.{role_tree}
use Rattle.cfg_credentials_chain.specs.Members.{Asked, OfEnvironment, OfProcess, OfWebIdentity, OfContainer, OfMetadata, OfSession, OfSignIn, OfProfile, ByDefault, ForRole, Given, ByCaller, NamedAsked, IsMemberTree, IsNamedTree}

one_base : (b : Base) (one other : KeptInquiry Answer) → IsBaseTree b one → IsBaseTree b other → one ≡ other
one_base (base.ByDefault over) one other h g = h.2 ∙ ap (λ s. default_chain (setting over s)) (one_answer over h.0 g.0 h.1 g.1) ∙ sym g.2
one_base (base.ByEnvironment env) one other h g = h ∙ sym g
one_base (base.ByKeys keys) one other h g = h ∙ sym g
one_base (base.BySource answer) one other h g = h ∙ sym g

pub one_member_tree : (m : Asked) (one other : KeptInquiry Answer) → IsMemberTree m one → IsMemberTree m other → one ≡ other
one_member_tree (OfEnvironment env) one other h g = h ∙ sym g
one_member_tree (OfProcess p) one other h g = h ∙ sym g
one_member_tree (OfWebIdentity w) one other h g = h ∙ sym g
one_member_tree (OfContainer c) one other h g = h.2 ∙ ap (λ named. lift (asks_container c named)) (one_place c.configuration.environment h.0 g.0 h.1 g.1) ∙ sym g.2
one_member_tree (OfMetadata m) one other h g = h ∙ sym g
one_member_tree (OfSession s) one other h g = h ∙ sym g
one_member_tree (OfSignIn s) one other h g = h ∙ sym g
one_member_tree (OfProfile over) one other h g = h.2 ∙ ap (λ s. profile (setting over s)) (one_answer over h.0 g.0 h.1 g.1) ∙ sym g.2
one_member_tree (ByDefault over) one other h g = one_base (base.ByDefault over) one other h g
one_member_tree (ForRole call b) one other h g = h.2 ∙ ap (λ signer. role_tree call signer) (one_base b h.0 g.0 h.1 g.1) ∙ sym g.2
one_member_tree (Given keys) one other h g = h ∙ sym g
one_member_tree (ByCaller answer fallback) one other h g = h ∙ sym g

pub one_named_tree : (m : NamedAsked) (one other : KeptInquiry Answer) → IsNamedTree m one → IsNamedTree m other → one ≡ other
one_named_tree m one other h g = one_member_tree m.1 one other h g
