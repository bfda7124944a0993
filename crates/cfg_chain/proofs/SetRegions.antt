-- What a configuration settles does not depend on its region.
use Rattle.std.proofs.Common.{◌≡◌, ℕ, List, Option, Some, None, refl, sym, ◌∙◌, subst}
use Rattle.cfg_world.specs.declared.devices.Devices.{Ghosts}
use Rattle.cfg_world.specs.Held.{Held}
use Rattle.cfg_imds.specs.Endpoints.{setting, by_mode, or_mode, endpoint_setting, endpoint_text, IsEndpointBy}
use Rattle.cfg_profile.specs.Configuration.{Configuration}
use Rattle.cfg_region.specs.Calls.{RegionSet}
use Rattle.cfg_region.specs.Environments.{Told}
use Rattle.cfg_region.specs.Sources.{Source}
use Rattle.cfg_chain.specs.declared.settled.Settled.{Settled}
use Rattle.cfg_chain.specs.profile.Plans.{plan, settled_plan, key_of}
use Rattle.cfg_chain.specs.Settled.{IsSettled}

same_key : (conf : Configuration) (region : Told) → key_of conf ≡ key_of (record conf { region = region })
unfolding plan key_of
same_key conf region = refl

same_plan : (conf : Configuration) (region : Told) → settled_plan conf ≡ settled_plan (record conf { region = region })
unfolding plan settled_plan
same_plan conf region = refl

or_same : (said : Option (List ℕ)) (conf : Configuration) (region : Told) → or_mode said conf None ≡ or_mode said (record conf { region = region }) None
unfolding setting by_mode
or_same (Some text) conf region = refl
or_same None conf region = refl

same_text : (conf : Configuration) (region : Told) → endpoint_text conf None None ≡ endpoint_text (record conf { region = region }) None None
unfolding setting
same_text conf region = or_same (endpoint_setting conf) conf region

settled_in : (conf : Configuration) (region : Told) (settled : Settled) → IsSettled conf settled → IsSettled (record conf { region = region }) settled
settled_in conf region settled h = record {
  token_key = h.token_key ∙ same_key conf region;
  plan = h.plan ∙ same_plan conf region;
  container = h.container;
  imds_endpoint = subst (λ text. IsEndpointBy text settled.imds_endpoint) (same_text conf region) h.imds_endpoint;
}

-- it settles the same
pub settled_set : {D : Type 0} {d : Ghosts D} (given : Option Source) (conf set : Configuration) (old new : Held D) (settled : Settled) → RegionSet d given conf old new set → IsSettled conf settled → IsSettled set settled
settled_set given conf set old new settled s h = subst (λ c. IsSettled c settled) (sym s.is) (settled_in conf s.region settled h)
