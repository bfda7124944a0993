-- The steps of a container's questions.
use Rattle.std.proofs.Common.{◌≡◌, ℕ, List, Option, Some, None, sym, ap, subst, ◌∙◌}
use Rattle.std.specs.Prelude.{Result, Ok, Err, option_map}
use Rattle.std.specs.Str.{encode_utf8_all}
use Rattle.cfg_types.specs.Keys.{Keys}
use Rattle.cfg_types.specs.Environment.{Variables}
use Rattle.cfg_types.specs.declared.errors.CredentialsError.{CredentialsError}
use Rattle.cfg_types.specs.declared.request.http.Http.{Http}
use Rattle.cfg_types.specs.declared.reply.FailKind.{FailKind}
use Rattle.cfg_world.specs.declared.ask.Answer.{Answer}
use Rattle.cfg_world.specs.declared.asking.Asking.{Ghosts}
use Rattle.cfg_world.specs.declared.asking.Stop.{Stop}
use Rattle.cfg_world.specs.declared.asking.Stop.TheVariants.{OutOfMemory, Open}
use Rattle.cfg_world.specs.Fits.{Pair}
use Rattle.cfg_world.specs.Inquiry.{Inquiry, Done, after, if_ok}
use Rattle.cfg_world.specs.Follows.{Ends, Waits, Breaks, Halts}
use Rattle.cfg_world.specs.Leaves.{reading_file}
use Rattle.cfg_world.proofs.Inquiries.{ends_after, waits_after, waits_first, breaks_after, breaks_first, ends_done, breaks_here}
use Rattle.cfg_exchange.specs.declared.container.ContainerSettings.{ContainerSettings}
use Rattle.cfg_exchange.specs.declared.container.ContainerUri.{ContainerUri}
use Rattle.cfg_exchange.specs.declared.target.Target.{Target}
use Rattle.cfg_exchange.specs.Containers.{Read, token_of_file, token_of_bytes, token_by, token_file, token_text, auth_token, container_target, answer_keys, credentials_request, credentials_attempts, fetched_keys, with_token, container}

abbrev Token : Type 0
Token = Option (List ℕ)

abbrev of_file : List ℕ → Result (List ℕ) FailKind → Inquiry (Read Token)
of_file path held = Done (token_of_file path held)

file_is : (env : Variables) (path : List ℕ) → token_file env ≡ Some path → auth_token env ≡ after (reading_file path) (of_file path)
unfolding auth_token
file_is env path e = ap (λ f. token_by f (token_text env)) e

abbrev last_keys : Pair → Inquiry (Read Keys)
last_keys last = Done (answer_keys last.1)

module _ {W : Type 0} {w : Ghosts W} where
  -- ---- the token

  pub token_held : {old new : W} (env : Variables) (path asked : List ℕ) (held : Result (List ℕ) FailKind) (token : Read Token) →
      token_file env ≡ Some path → asked ≡ path → Ends w (reading_file asked) old new held → token ≡ token_of_file path held → Ends w (auth_token env) old new token
  token_held {old} {new} env path asked held token e s h t =
      subst (λ p. Ends w p old new token) (sym (file_is env path e))
      (subst (λ r. Ends w (after (reading_file path) (of_file path)) old new r) (sym t)
      (ends_after (of_file path) (subst (λ a. Ends w (reading_file a) old new held) s h) ends_done))

  pub token_waits : {old new : W} (env : Variables) (path asked : List ℕ) →
      token_file env ≡ Some path → asked ≡ path → Waits w (reading_file asked) old new → Waits w (auth_token env) old new
  token_waits {old} {new} env path asked e s h =
      subst (λ p. Waits w p old new) (sym (file_is env path e)) (waits_first (of_file path) (subst (λ a. Waits w (reading_file a) old new) s h))

  pub token_breaks : {old new : W} (env : Variables) (path asked : List ℕ) →
      token_file env ≡ Some path → asked ≡ path → Breaks w (reading_file asked) old new → Breaks w (auth_token env) old new
  token_breaks {old} {new} env path asked e s h =
      subst (λ p. Breaks w p old new) (sym (file_is env path e)) (breaks_first (of_file path) (subst (λ a. Breaks w (reading_file a) old new) s h))

  pub token_unread : {old new : W} (env : Variables) (path asked : List ℕ) (held : Result (List ℕ) FailKind) →
      token_file env ≡ Some path → asked ≡ path → Ends w (reading_file asked) old new held → Breaks w (auth_token env) old new
  token_unread {old} {new} env path asked held e s h =
      subst (λ p. Breaks w p old new) (sym (file_is env path e)) (breaks_after (of_file path) (subst (λ a. Ends w (reading_file a) old new held) s h) breaks_here)

  pub token_given : {old : W} (env : Variables) (bytes : Token) (token : Read Token) →
      token_file env ≡ None → bytes ≡ option_map encode_utf8_all (token_text env) → token ≡ token_of_bytes bytes → Ends w (auth_token env) old old token
  unfolding auth_token
  token_given {old} env bytes token e b t =
      subst (λ f. Ends w (token_by f (token_text env)) old old token) (sym e)
      (subst (λ r. Ends w (Done (token_of_bytes (option_map encode_utf8_all (token_text env)))) old old r) (sym (t ∙ ap token_of_bytes b)) ends_done)

  -- ---- the attempts

  pub fetched_ends : {old new : W} (settings : ContainerSettings) (token : Token) (target : Target) (call : Http) (last : Pair) (answer : Answer) (out : Read Keys) →
      call ≡ credentials_request settings token target → Ends w (credentials_attempts settings call) old new last → answer ≡ last.1 → out ≡ answer_keys answer →
      Ends w (fetched_keys settings token target) old new out
  unfolding fetched_keys
  fetched_ends {old} {new} settings token target call last answer out c h a o =
      subst (λ r. Ends w (after (credentials_attempts settings (credentials_request settings token target)) last_keys) old new r) (sym (o ∙ ap answer_keys a))
      (ends_after last_keys (subst (λ r. Ends w (credentials_attempts settings r) old new last) c h) ends_done)

  pub fetched_waits : {old new : W} (settings : ContainerSettings) (token : Token) (target : Target) (call : Http) →
      call ≡ credentials_request settings token target → Waits w (credentials_attempts settings call) old new → Waits w (fetched_keys settings token target) old new
  unfolding fetched_keys
  fetched_waits {old} {new} settings token target call c h = waits_first last_keys (subst (λ r. Waits w (credentials_attempts settings r) old new) c h)

  pub fetched_breaks : {old new : W} (settings : ContainerSettings) (token : Token) (target : Target) (call : Http) →
      call ≡ credentials_request settings token target → Breaks w (credentials_attempts settings call) old new → Breaks w (fetched_keys settings token target) old new
  unfolding fetched_keys
  fetched_breaks {old} {new} settings token target call c h = breaks_first last_keys (subst (λ r. Breaks w (credentials_attempts settings r) old new) c h)

  pub fetched_unread : {old new : W} (settings : ContainerSettings) (token : Token) (target : Target) (call : Http) (last : Pair) →
      call ≡ credentials_request settings token target → Ends w (credentials_attempts settings call) old new last → Breaks w (fetched_keys settings token target) old new
  unfolding fetched_keys
  fetched_unread {old} {new} settings token target call last c h =
      breaks_after last_keys (subst (λ r. Ends w (credentials_attempts settings r) old new last) c h) breaks_here

  -- ---- the whole

  pub container_refused : {old new : W} (env : Variables) (settings : ContainerSettings) (named : ContainerUri) (e : CredentialsError) (given : Read Token) →
      Ends w (auth_token env) old new given → given ≡ Err e → Ends w (container env settings named) old new (Err e)
  unfolding container
  container_refused {old} {new} env settings named e given h g =
      ends_after (if_ok (with_token settings named)) (subst (λ r. Ends w (auth_token env) old new r) g h) ends_done

  pub container_waits : {old new : W} (env : Variables) (settings : ContainerSettings) (named : ContainerUri) → Waits w (auth_token env) old new → Waits w (container env settings named) old new
  unfolding container
  container_waits env settings named h = waits_first (if_ok (with_token settings named)) h

  pub container_breaks : {old new : W} (env : Variables) (settings : ContainerSettings) (named : ContainerUri) → Breaks w (auth_token env) old new → Breaks w (container env settings named) old new
  unfolding container
  container_breaks env settings named h = breaks_first (if_ok (with_token settings named)) h

  pub container_untargeted : {old mid new : W} (env : Variables) (settings : ContainerSettings) (named : ContainerUri) (e : CredentialsError) (token : Token) (given : Read Token) (goal : Read Target) →
      Ends w (auth_token env) old mid given → given ≡ Ok token → Ends w (container_target settings.dns named) mid new goal → goal ≡ Err e → Ends w (container env settings named) old new (Err e)
  unfolding container
  container_untargeted {old} {mid} {new} env settings named e token given goal h g k t =
      ends_after (if_ok (with_token settings named)) (subst (λ r. Ends w (auth_token env) old mid r) g h)
      (ends_after (if_ok (fetched_keys settings token)) (subst (λ r. Ends w (container_target settings.dns named) mid new r) t k) ends_done)

  pub container_target_waits : {old mid new : W} (env : Variables) (settings : ContainerSettings) (named : ContainerUri) (token : Token) (given : Read Token) →
      Ends w (auth_token env) old mid given → given ≡ Ok token → Waits w (container_target settings.dns named) mid new → Waits w (container env settings named) old new
  unfolding container
  container_target_waits {old} {mid} {new} env settings named token given h g k =
      waits_after (if_ok (with_token settings named)) (subst (λ r. Ends w (auth_token env) old mid r) g h) (waits_first (if_ok (fetched_keys settings token)) k)

  pub container_target_breaks : {old mid new : W} (env : Variables) (settings : ContainerSettings) (named : ContainerUri) (token : Token) (given : Read Token) →
      Ends w (auth_token env) old mid given → given ≡ Ok token → Breaks w (container_target settings.dns named) mid new → Breaks w (container env settings named) old new
  unfolding container
  container_target_breaks {old} {mid} {new} env settings named token given h g k =
      breaks_after (if_ok (with_token settings named)) (subst (λ r. Ends w (auth_token env) old mid r) g h) (breaks_first (if_ok (fetched_keys settings token)) k)

  pub container_target_halts : {old mid : W} (new : W) (env : Variables) (settings : ContainerSettings) (named : ContainerUri) (token : Token) (given : Read Token) (stop : Stop) →
      Ends w (auth_token env) old mid given → given ≡ Ok token → Halts w (container_target settings.dns named) mid new stop → Halts w (container env settings named) old new stop
  container_target_halts new env settings named token given Open h g k = container_target_waits env settings named token given h g k
  container_target_halts new env settings named token given OutOfMemory h g k = container_target_breaks env settings named token given h g k

  -- what is left is the attempts
  pub container_ends : {old mid now new : W} (env : Variables) (settings : ContainerSettings) (named : ContainerUri) (token : Token) (given : Read Token) (target : Target) (goal : Read Target) (out : Read Keys) →
      Ends w (auth_token env) old mid given → given ≡ Ok token → Ends w (container_target settings.dns named) mid now goal → goal ≡ Ok target →
      Ends w (fetched_keys settings token target) now new out → Ends w (container env settings named) old new out
  unfolding container
  container_ends {old} {mid} {now} {new} env settings named token given target goal out h g k t f =
      ends_after (if_ok (with_token settings named)) (subst (λ r. Ends w (auth_token env) old mid r) g h)
      (ends_after (if_ok (fetched_keys settings token)) (subst (λ r. Ends w (container_target settings.dns named) mid now r) t k) f)

  pub container_fetch_waits : {old mid now new : W} (env : Variables) (settings : ContainerSettings) (named : ContainerUri) (token : Token) (given : Read Token) (target : Target) (goal : Read Target) →
      Ends w (auth_token env) old mid given → given ≡ Ok token → Ends w (container_target settings.dns named) mid now goal → goal ≡ Ok target →
      Waits w (fetched_keys settings token target) now new → Waits w (container env settings named) old new
  unfolding container
  container_fetch_waits {old} {mid} {now} {new} env settings named token given target goal h g k t f =
      waits_after (if_ok (with_token settings named)) (subst (λ r. Ends w (auth_token env) old mid r) g h)
      (waits_after (if_ok (fetched_keys settings token)) (subst (λ r. Ends w (container_target settings.dns named) mid now r) t k) f)

  pub container_fetch_breaks : {old mid now new : W} (env : Variables) (settings : ContainerSettings) (named : ContainerUri) (token : Token) (given : Read Token) (target : Target) (goal : Read Target) →
      Ends w (auth_token env) old mid given → given ≡ Ok token → Ends w (container_target settings.dns named) mid now goal → goal ≡ Ok target →
      Breaks w (fetched_keys settings token target) now new → Breaks w (container env settings named) old new
  unfolding container
  container_fetch_breaks {old} {mid} {now} {new} env settings named token given target goal h g k t f =
      breaks_after (if_ok (with_token settings named)) (subst (λ r. Ends w (auth_token env) old mid r) g h)
      (breaks_after (if_ok (fetched_keys settings token)) (subst (λ r. Ends w (container_target settings.dns named) mid now r) t k) f)

pub ruleset token_steps = (token_held, token_waits, token_breaks, token_unread, token_given, breaks_here)

pub ruleset fetch_steps = (fetched_ends, fetched_waits, fetched_breaks, fetched_unread)

pub ruleset container_steps = (container_refused, container_waits, container_breaks, container_untargeted, container_target_waits, container_target_breaks, container_ends, container_fetch_waits, container_fetch_breaks)
