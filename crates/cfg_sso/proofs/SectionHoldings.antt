-- A holding of a token's section never asks for the credentials of a role.
use Rattle.std.proofs.Common.{◌≡◌, false}
use Rattle.cfg_types.specs.Environment.{Variables}
use Rattle.cfg_types.specs.declared.settings.CallSettings.{CallSettings}
use Rattle.cfg_world.specs.declared.ask.Question.TheVariants as question
use Rattle.cfg_token.specs.declared.token_key.TokenKey.{TokenKey}
use Rattle.cfg_token.specs.Rules.{Rules}
use Rattle.cfg_token.specs.Sections.{section}
use Rattle.cfg_kept.specs.SectionHoldings.{TokenSpot, kept_section, settled, section_holding}
use Rattle.cfg_sso.specs.RoleRequests.{is_role_request, AsksNoRole}
use Rattle.cfg_sso.proofs.NoRoleAsked.{NeverAsks, after_without, holding_without, all_without}
use Rattle.cfg_sso.proofs.SectionWalks.{section_asks_none}

module _ {T E : Type 0} (t : Rules T E) (sends : (key : TokenKey) (settings : CallSettings) (file : T) → is_role_request (question.Send (t.request key settings file)) ≡ false) where
  pub holding_asks_none : (s : TokenSpot T) (key : TokenKey) (env : Variables) (settings : CallSettings) → NeverAsks (section_holding t s key env settings)
  unfolding section_holding
  holding_asks_none s key env settings =
      holding_without s.spot s.at (λ v. kept_section t key env settings (s.token_in v)) (λ v.
      let was = s.token_in v in
      after_without (section t key env settings was.token was.last) (settled was)
      (all_without (section t key env settings was.token was.last) (λ part made. AsksNoRole part) (section_asks_none t sends key env settings was.token was.last) (λ part made w. w)) (λ made. tt))
