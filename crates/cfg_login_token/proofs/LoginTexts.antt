-- A token's file has one text, or none.
use Rattle.std.proofs.Common.{◌≡◌, List, ℕ, Option, Some, None, refl, sym, ap, ◌∙◌}
use Rattle.std.specs.Prelude.{option_map}
use Rattle.cfg_base.specs.Moment.{Moment}
use Rattle.cfg_json.specs.Writing.{braced}
use Rattle.cfg_token.specs.SsoText.{date_if_there, IsWrittenIfThere, IsOutsideIfThere}
use Rattle.cfg_token.proofs.DateTexts.{date_is, no_date}
use Rattle.cfg_login_token.specs.declared.login_token.LoginToken.{LoginToken}
use Rattle.cfg_login_token.specs.LoginText.{token_members, login_text, IsLoginText, HasNoText}

some_date : (text : Option (List ℕ)) (m : Option Moment) → IsWrittenIfThere text m → date_if_there m ≡ Some text
some_date None None h = refl
some_date None (Some m) h = absurd h
some_date (Some text) None h = absurd h
some_date (Some text) (Some m) h = ap (λ (d : Option (List ℕ)). option_map (λ (t : List ℕ). Some t) d) (date_is text m h)

no_date_there : (m : Option Moment) → IsOutsideIfThere m → date_if_there m ≡ None
no_date_there None h = absurd h
no_date_there (Some m) h = ap (λ (d : Option (List ℕ)). option_map (λ (t : List ℕ). Some t) d) (no_date m h)

-- the text of a file, from that of the end
abbrev file_text : LoginToken → Option (Option (List ℕ)) → Option (List ℕ)
file_text token expiry = option_map (λ (e : Option (List ℕ)). braced (token_members token e)) expiry

pub text_is : (token : LoginToken) (text : List ℕ) → IsLoginText token text → login_text token ≡ Some text
unfolding login_text
text_is token text h = ap (file_text token) (some_date h.expiry token.access_token.expiry h.is_expiry) ∙ ap (λ (t : List ℕ). Some t) (sym h.is)

pub no_text : (token : LoginToken) → HasNoText token → login_text token ≡ None
unfolding login_text
no_text token h = ap (file_text token) (no_date_there token.access_token.expiry h)

pub ruleset login_texts = (text_is, no_text)
