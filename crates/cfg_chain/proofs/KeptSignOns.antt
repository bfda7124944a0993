-- A kept token that lasts is enough for IAM Identity Center, whatever is asked behind its request.
use Rattle.std.proofs.Common.{◌≡◌, List, [], ◌∷◌, ◌++◌, Bool, true, false, cond, Option, Some, None, refl, sym, ap, ◌∙◌, subst, inl, append_assoc}
use Rattle.cfg_base.specs.Moment.{Moment}
use Rattle.cfg_types.specs.Environment.{Variables}
use Rattle.cfg_types.specs.Replies.{role_in}
use Rattle.cfg_types.specs.declared.settings.CallSettings.{CallSettings}
use Rattle.cfg_world.specs.Fits.{Pair}
use Rattle.cfg_world.specs.Inquiry.{Inquiry, Done, Reads}
use Rattle.cfg_world.specs.Leaves.{clock, moment_of, granted_of}
use Rattle.cfg_token.specs.Decisions.{outlasts_buffer}
use Rattle.cfg_token.specs.Readings.{IsHit}
use Rattle.cfg_token.specs.Rules.{Rules}
use Rattle.cfg_token.specs.Sections.{by_reading, section}
use Rattle.cfg_token.specs.SsoTokens.{sso_rules}
use Rattle.cfg_token.specs.declared.sections.Sectioned.{Sectioned}
use Rattle.cfg_token.specs.declared.sections.Sectioned.TheVariants.{Hit}
use Rattle.cfg_token.specs.declared.token_key.TokenKey.{TokenKey}
use Rattle.cfg_kept.specs.Beginnings.{IsPrefix}
use Rattle.cfg_kept.specs.Kinds.{Value}
use Rattle.cfg_kept.specs.SectionParts.{found_at}
use Rattle.cfg_kept.specs.SsoHoldings.{sso_spot}
use Rattle.cfg_profile.specs.Configuration.{Configuration}
use Rattle.cfg_sso.specs.InNoWay.{IsGranted, AreGranted, IsTokenInTime}
use Rattle.cfg_sso.specs.SsoCauses.{IsTokenPart}
use Rattle.cfg_sso.specs.Tokens.{Token, sso_key}
use Rattle.cfg_sso.specs.declared.config.SsoProviderConfig.{SsoProviderConfig}
use Rattle.cfg_chain.specs.Valid.{GivesSignOn}

nothing_behind : {T E : Type 0} (token : T) (others : Inquiry (Sectioned T E)) (b : Bool) (part : List Pair) (made : Sectioned T E) → b ≡ true → Reads (cond b (Done (Hit token)) others) part made → part ≡ []
nothing_behind token others true [] made is h = refl
nothing_behind token others true (e ∷ part) made is h = absurd h
nothing_behind token others false part made is h = cc

-- the part of a section that hands out such a token is the first reading alone
one_reading : {T E : Type 0} (t : Rules T E) (key : TokenKey) (env : Variables) (settings : CallSettings) (kept : Option T) (last : Option Moment) (part behind rest : List Pair) (first : Pair) (made : Sectioned T E) →
    IsHit t kept (first ∷ []) → first ∷ rest ≡ part ++ behind → Reads (section t key env settings kept last) part made → part ≡ first ∷ []
unfolding section by_reading clock
one_reading t key env settings None last part behind rest first made hit starts h = absurd hit
one_reading t key env settings (Some token) last [] behind rest first made hit starts h = absurd h
one_reading t key env settings (Some token) last (e ∷ part) behind rest first made hit starts h =
    let same : first ≡ e = cc in
    let lasts = subst (λ (x : Pair). outlasts_buffer t token (moment_of x.1) ≡ true) same hit in
    ap (λ x. e ∷ x) (nothing_behind token _ (outlasts_buffer t token (moment_of e.1)) part made lasts h.1) ∙ ap (λ x. x ∷ []) (sym same)

granted_alone : (reading reply : Pair) (role_part behind rest : List Pair) → reading ∷ (reply ∷ rest) ≡ (reading ∷ role_part) ++ behind → IsGranted (granted_of role_in reply.1) → AreGranted role_part
granted_alone reading reply [] behind rest starts fine = tt
granted_alone reading reply (e ∷ role_part) behind rest starts fine = let same : reply ≡ e = cc in subst (λ (x : Pair). IsGranted (granted_of role_in x.1)) same fine

module _ (conf : Configuration) (sso : SsoProviderConfig) (value : Value) (found : List Value) (reading reply : Pair) (rest : List Pair)
    (hit : IsHit sso_rules (sso_spot.token_in value).token (reading ∷ [])) (fine : IsGranted (granted_of role_in reply.1)) where
  over_part : (key : Option TokenKey) (mine : List Value) (token_part role_part : List Pair) (token : Token) → (k : TokenKey) → key ≡ Some k → IsPrefix mine (value ∷ found) →
      IsPrefix (token_part ++ role_part) (reading ∷ (reply ∷ rest)) → IsTokenPart conf sso.start_url key mine token_part token →
      (IsHit sso_rules (found_at sso_spot mine).token token_part) × IsTokenInTime key token_part × AreGranted role_part
  over_part None mine token_part role_part token k named begins starts p = cc
  over_part (Some key) mine token_part role_part token k named begins starts p =
      let s = p.1 in
      let values : value ∷ found ≡ s.value ∷ begins.0 = begins.1 ∙ ap (λ m. m ++ begins.0) s.finds in
      let same : value ≡ s.value = cc in
      let held = subst (λ v. IsHit sso_rules (sso_spot.token_in v).token (reading ∷ [])) same hit in
      let all = starts.1 ∙ append_assoc token_part role_part starts.0 in
      let one = one_reading sso_rules key conf.environment _ (sso_spot.token_in s.value).token (sso_spot.token_in s.value).last token_part (role_part ++ starts.0) (reply ∷ rest) reading s.made held all s.reads in (
        subst (λ m. IsHit sso_rules (found_at sso_spot m).token token_part) (sym s.finds) (subst (λ t. IsHit sso_rules (sso_spot.token_in s.value).token t) (sym one) held),
        subst (λ t. IsTokenInTime (Some key) t) (sym one) tt,
        granted_alone reading reply role_part starts.0 rest (starts.1 ∙ ap (λ t. (t ++ role_part) ++ starts.0) one) fine,
      )

  pub kept_token_gives : (key : TokenKey) → sso_key sso ≡ Some key → GivesSignOn conf sso (value ∷ found) (reading ∷ (reply ∷ rest))
  kept_token_gives key named = λ mine part given begins starts cause.
      let is = over_part (sso_key sso) mine cause.token_part cause.role_part cause.token key named begins (subst (λ p. IsPrefix p (reading ∷ (reply ∷ rest))) cause.parts starts) cause.of_token in
      record { home = inl is.0; token = is.1; role = is.2 }
