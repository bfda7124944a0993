-- A configuration asks one source for its region.
use Rattle.std.proofs.Common.{◌≡◌, Option, Some, None, sym, ap, ◌∙◌}
use Rattle.cfg_profile.specs.Configuration.{Configuration}
use Rattle.cfg_imds.proofs.OneEndpoint.{one_endpoint}
use Rattle.cfg_region.specs.Calls.{IsAsked}
use Rattle.cfg_region.specs.Defaults.{DefaultRegions, IsDefault}
use Rattle.cfg_region.specs.Sources.{Source, ByDefault}

one_record : (a b : DefaultRegions) → a.configuration ≡ b.configuration → a.endpoint ≡ b.endpoint → a ≡ b
one_record a b configuration endpoint = λ i. record { configuration = configuration i; endpoint = endpoint i }

pub one_default : (conf : Configuration) (a b : DefaultRegions) → IsDefault conf a → IsDefault conf b → a ≡ b
one_default conf a b h g =
    one_record a b (h.configuration ∙ sym g.configuration) (one_endpoint conf None None a.endpoint b.endpoint h.endpoint g.endpoint)

pub one_source : (given : Option Source) (conf : Configuration) (a b : Source) → IsAsked given conf a → IsAsked given conf b → a ≡ b
one_source (Some source) conf a b h g = h ∙ sym g
one_source None conf a b h g = h.2 ∙ ap ByDefault (one_default conf h.0 g.0 h.1 g.1) ∙ sym g.2
