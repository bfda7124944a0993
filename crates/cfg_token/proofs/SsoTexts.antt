-- A token's file has one text, or none.
use Rattle.std.proofs.Common.{◌≡◌, inl, inr, List, ℕ, Option, Some, None, refl, sym, ap, ◌∙◌}
use Rattle.std.specs.Prelude.{option_map}
use Rattle.cfg_base.specs.Moment.{Moment}
use Rattle.cfg_token.specs.declared.sso_token.CachedSsoToken.{CachedSsoToken}
use Rattle.cfg_token.specs.DateTexts.{date_of}
use Rattle.cfg_token.specs.SsoText.{dated_text, date_if_there, sso_text, IsWrittenIfThere, IsOutsideIfThere, IsSsoText, HasNoText}
use Rattle.cfg_token.proofs.DateTexts.{date_is, no_date}

date_if_there_is : (text : Option (List ℕ)) (m : Option Moment) → IsWrittenIfThere text m → date_if_there m ≡ Some text
date_if_there_is None None h = refl
date_if_there_is None (Some m) h = absurd h
date_if_there_is (Some text) None h = absurd h
date_if_there_is (Some text) (Some m) h = ap (λ (d : Option (List ℕ)). option_map (λ (t : List ℕ). Some t) d) (date_is text m h)

no_date_if_there : (m : Option Moment) → IsOutsideIfThere m → date_if_there m ≡ None
no_date_if_there None h = absurd h
no_date_if_there (Some m) h = ap (λ (d : Option (List ℕ)). option_map (λ (t : List ℕ). Some t) d) (no_date m h)

no_dated_text : (token : CachedSsoToken) (expiry : Option (List ℕ)) → dated_text token expiry None ≡ None
no_dated_text token None = refl
no_dated_text token (Some expiry) = refl

pub text_is : (token : CachedSsoToken) (text : List ℕ) → IsSsoText token text → sso_text token ≡ Some text
unfolding sso_text
text_is token text h =
    ap (λ (d : Option (List ℕ)). dated_text token d (date_if_there token.registration_expires_at)) (date_is h.expiry token.expires_at h.is_expiry)
    ∙ ap (λ (d : Option (Option (List ℕ))). dated_text token (Some h.expiry) d) (date_if_there_is h.registration token.registration_expires_at h.is_registration)
    ∙ ap (λ (t : List ℕ). Some t) (sym h.is)

pub no_text : (token : CachedSsoToken) → HasNoText token → sso_text token ≡ None
unfolding sso_text
no_text token h = elim h [
  | inl out ↦ ap (λ (d : Option (List ℕ)). dated_text token d (date_if_there token.registration_expires_at)) (no_date token.expires_at out)
  | inr out ↦ ap (λ (d : Option (Option (List ℕ))). dated_text token (date_of token.expires_at) d) (no_date_if_there token.registration_expires_at out) ∙ no_dated_text token (date_of token.expires_at)
]

pub ruleset sso_texts = (text_is, no_text)
