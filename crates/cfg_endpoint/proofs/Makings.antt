-- How an endpoint is made.
use Rattle.std.proofs.Common.{◌≡◌, ◌≢◌, ℕ, List, [], ◌∷◌, length, Bool, true, false, refl, sym, ap, ◌∙◌}
use Rattle.std.specs.Prelude.{Result, Ok, Err, IfOk, Some, None, is_none, nat_eq, if◌then◌else◌}
use Rattle.std.specs.Option.{option_or}
use Rattle.std.specs.Str.{IsUtf8, encode_utf8_all}
use Rattle.cfg_base.specs.Text.{characters}
use Rattle.cfg_base.proofs.TextLemmas.{encodes-chars}
use Rattle.cfg_types.specs.declared.errors.imds.UnexpectedCause.TheVariants.{Path}
use Rattle.cfg_imds.specs.Clients.{why_unusable}
use Rattle.cfg_imds.specs.Paths.{is_path}
use Rattle.cfg_imds_credentials.specs.Metadata.{role_path}
use Rattle.cfg_endpoint.specs.Made.{is_asked_for}

pub if_ok : {A E : Type 0} (r : Result A E) (P Q : A → Type 0) → IfOk r P → ((x : A) → P x → Q x) → IfOk r Q
if_ok (Ok x) P Q h f = f x h
if_ok (Err e) P Q h f = tt

-- a role that is not empty is asked for where its path is one
pub asked_is : (role : List ℕ) → role ≢ [] → is_asked_for role ≡ is_path (role_path role)
unfolding why_unusable
asked_is [] h = absurd (h refl)
asked_is (x ∷ role) h = by_path (is_path (role_path (x ∷ role))) refl
  where
    by_path : (b : Bool) → is_path (role_path (x ∷ role)) ≡ b → is_none (option_or (if b then None else Some (Path (characters (role_path (x ∷ role))))) None) ≡ b
    by_path true e = refl
    by_path false e = refl

pub asked_by_path : (role path : List ℕ) (b : Bool) → IsUtf8 role → false ≡ nat_eq (length role) 0 → path ≡ role_path (characters role) → b ≡ is_path path → b ≡ is_asked_for (characters role)
asked_by_path role path b u some same is =
    let there : characters role ≢ [] = λ e. let none : role ≡ [] = sym (encodes-chars role u) ∙ ap encode_utf8_all e in let no = some ∙ ap (λ r. nat_eq (length r) 0) none in cc in
    is ∙ ap is_path same ∙ sym (asked_is (characters role) there)
