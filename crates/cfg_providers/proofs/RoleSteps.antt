-- What is left of a derivation after each role.
use Rattle.std.proofs.Common.{◌≡◌, ℕ, ◌+◌, ◌<◌, ◌≤◌, List, Result, Ok, Err, get_or, drop, length, refl, ap, sym, ◌∙◌, subst, add-one}
use Rattle.std.proofs.Math.Seq.{drop-cons}
use Rattle.std.proofs.Math.ListN.{drop_of_length-le}
use Rattle.cfg_types.specs.Keys.{Keys}
use Rattle.cfg_types.specs.declared.errors.CredentialsError.{CredentialsError}
use Rattle.cfg_types.specs.declared.request.sts.AssumeRole.{AssumeRole}
use Rattle.cfg_types.specs.declared.reply.sts.StsReply.{StsReply}
use Rattle.cfg_types.specs.declared.settings.CallSettings.{CallSettings}
use Rattle.cfg_world.specs.declared.leaves.NotGranted.{NotGranted}
use Rattle.cfg_world.specs.Leaves.{assuming}
use Rattle.cfg_world.specs.declared.asking.Asking.{Ghosts}
use Rattle.cfg_world.specs.Inquiry.{Inquiry, Done, after, if_ok, ◌>>=◌}
use Rattle.cfg_world.specs.Follows.{Ends, Waits, Breaks}
use Rattle.cfg_world.proofs.Inquiries.{Leads, leads_start, leads_after, ends_after, ends_done, waits_first, breaks_first, breaks_here}
use Rattle.cfg_profile.specs.declared.chain.RoleArn.{RoleArn}
use Rattle.cfg_providers.specs.SessionNames.{session_name}
use Rattle.cfg_providers.specs.AssumeRole.{role_session, request, granted, in_role, exchange, assumes, assumes_roles}

assumes_roles-drop : (settings : CallSettings) (roles : List RoleArn) (i : ℕ) (d : RoleArn) (signer : Keys) → i < length roles →
    assumes_roles settings (drop i roles) signer ≡ (assumes settings signer (get_or roles i d) >>= assumes_roles settings (drop (i + 1) roles))
unfolding assumes_roles
assumes_roles-drop settings roles i d signer h = rw (add-one, drop-cons roles i d h) refl

assumes_roles-end : (settings : CallSettings) (roles : List RoleArn) (i : ℕ) (signer : Keys) → length roles ≤ i → assumes_roles settings (drop i roles) signer ≡ Done (Ok signer)
unfolding assumes_roles
assumes_roles-end settings roles i signer h = rw (drop_of_length-le roles h) refl

module _ {W : Type 0} {w : Ghosts W} where
  at_role : {old mid : W} {inquiry : Inquiry (Result Keys CredentialsError)} (settings : CallSettings) (roles : List RoleArn) (i : ℕ) (d : RoleArn) (signer : Keys) →
      Leads w inquiry old mid (assumes_roles settings (drop i roles) signer) → i < length roles →
      Leads w inquiry old mid (after (assumes settings signer (get_or roles i d)) (if_ok (assumes_roles settings (drop (i + 1) roles))))
  at_role {old} {mid} {inquiry} settings roles i d signer a lt = subst (λ p. Leads w inquiry old mid p) (assumes_roles-drop settings roles i d signer lt) a

  pub role_derived : {old mid new : W} {inquiry : Inquiry (Result Keys CredentialsError)} (settings : CallSettings) (roles : List RoleArn) (i : ℕ) (d : RoleArn) (signer keys : Keys) →
      Leads w inquiry old mid (assumes_roles settings (drop i roles) signer) → i < length roles → Ends w (assumes settings signer (get_or roles i d)) mid new (Ok keys) →
      Leads w inquiry old new (assumes_roles settings (drop (i + 1) roles) keys)
  role_derived settings roles i d signer keys a lt e = leads_after (if_ok (assumes_roles settings (drop (i + 1) roles))) (at_role settings roles i d signer a lt) e

  pub role_failed : {old mid new : W} {inquiry : Inquiry (Result Keys CredentialsError)} (settings : CallSettings) (roles : List RoleArn) (i : ℕ) (d : RoleArn) (signer : Keys) (e : CredentialsError) →
      Leads w inquiry old mid (assumes_roles settings (drop i roles) signer) → i < length roles → Ends w (assumes settings signer (get_or roles i d)) mid new (Err e) →
      Ends w inquiry old new (Err e)
  role_failed settings roles i d signer e a lt h = (leads_after (if_ok (assumes_roles settings (drop (i + 1) roles))) (at_role settings roles i d signer a lt) h).ends _ _ ends_done

  pub role_waits : {old mid new : W} {inquiry : Inquiry (Result Keys CredentialsError)} (settings : CallSettings) (roles : List RoleArn) (i : ℕ) (d : RoleArn) (signer : Keys) →
      Leads w inquiry old mid (assumes_roles settings (drop i roles) signer) → i < length roles → Waits w (assumes settings signer (get_or roles i d)) mid new → Waits w inquiry old new
  role_waits settings roles i d signer a lt e = (at_role settings roles i d signer a lt).waits _ (waits_first (if_ok (assumes_roles settings (drop (i + 1) roles))) e)

  pub role_breaks : {old mid new : W} {inquiry : Inquiry (Result Keys CredentialsError)} (settings : CallSettings) (roles : List RoleArn) (i : ℕ) (d : RoleArn) (signer : Keys) →
      Leads w inquiry old mid (assumes_roles settings (drop i roles) signer) → i < length roles → Breaks w (assumes settings signer (get_or roles i d)) mid new → Breaks w inquiry old new
  role_breaks settings roles i d signer a lt e = (at_role settings roles i d signer a lt).breaks _ (breaks_first (if_ok (assumes_roles settings (drop (i + 1) roles))) e)

  pub all_derived : {old mid : W} {inquiry : Inquiry (Result Keys CredentialsError)} (settings : CallSettings) (roles : List RoleArn) (i : ℕ) (signer : Keys) →
      Leads w inquiry old mid (assumes_roles settings (drop i roles) signer) → length roles ≤ i → Ends w inquiry old mid (Ok signer)
  all_derived {old} {mid} {inquiry} settings roles i signer a le = (subst (λ p. Leads w inquiry old mid p) (assumes_roles-end settings roles i signer le) a).ends _ _ ends_done

  -- one exchange
  pub role_assumed : {old mid new : W} (settings : CallSettings) (role : RoleArn) (signer : Keys) (name : List ℕ) (sent : AssumeRole) (answer : Result StsReply NotGranted) (given out : Result Keys CredentialsError) →
      Ends w (session_name role_session role.session_name) old mid name → sent ≡ request settings role signer name → Ends w (assuming sent) mid new answer →
      given ≡ granted answer → out ≡ in_role given → Ends w (assumes settings signer role) old new out
  unfolding assumes
  role_assumed {old} {mid} {new} settings role signer name sent answer given out e is s gives told =
      let exchanged : Ends w (exchange settings role signer name) mid new (in_role (granted answer)) =
      ends_after (λ a. Done (in_role (granted a))) (subst (λ r. Ends w (assuming r) mid new answer) is s) ends_done in
      ends_after (exchange settings role signer) e (subst (λ o. Ends w (exchange settings role signer name) mid new o) (sym (told ∙ ap in_role gives)) exchanged)

pub ruleset role_steps = (leads_start, role_derived, role_failed, role_waits, role_breaks, all_derived)
