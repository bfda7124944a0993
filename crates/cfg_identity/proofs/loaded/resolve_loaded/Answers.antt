-- The reading of the clock, and what is held, or behind it the chain's call.
use Rattle.std.proofs.Common.{◌≡◌, sym, ap, ◌∙◌, None, Some}
use Rattle.std.specs.Option.{option_copied}
use Rattle.cfg_chain.specs.Settings.{ChainSetting}
use Rattle.cfg_chain.specs.Views.{chain_of}
use Rattle.cfg_identity.specs.declared.loaded.Loaded.{Loaded}
use Rattle.cfg_identity.specs.Lives.{lasting}
use Rattle.cfg_identity.specs.NameStates.{state_of}
use Rattle.cfg_identity.proofs.CallSteps.{hit_caches, load_caches, load_breaks}
use Rattle.cfg_identity.proofs.loaded.resolve_loaded.Goals as goal

pub returns-in-Some-clause-caches : goal.returns-in-Some-clause-caches
returns-in-Some-clause-caches g c = λ none.
    let over : ChainSetting = chain_of (λ z. (goal.ProvideCredentials-dyn g z).value z.1) (λ z. (goal.ClassifyRetry-dyn g z).repeated z.1) c.args.chain.now in
    let at : Loaded = record { kept = c.clear_found.new.self; held = c.args.loaded.now.held } in
    let same : state_of at ≡ state_of c.args.loaded.now = ap (λ s. record { held = c.args.loaded.now.held; states = s }) c.clear_found.ensures.kept in
    let lasts : Some c.in-Some.held.now ≡ lasting c.args.settings at.held c.moment-now.result = ap option_copied (sym c.in-Some.is) ∙ c.lasting.ensures in
    hit_caches g.D.Devices c.args.settings over (state_of c.args.loaded.now) at c.args.world.now c.ask.new.self c.in_ok-reading.reading c.moment-now.result
    c.in-Some.held.now c.in_ok-copy-in-Some.field-0 c.in_ok-reading.ensures.asked c.in_ok-reading.ensures.grows c.moment-now.ensures same lasts
    c.in_ok-copy-in-Some.ensures c.clear_found.ensures.found

pub returns-clause-caches : goal.returns-clause-caches
returns-clause-caches g c = λ none.
    let over : ChainSetting = chain_of (λ z. (goal.ProvideCredentials-dyn g z).value z.1) (λ z. (goal.ClassifyRetry-dyn g z).repeated z.1) c.args.chain.now in
    let at : Loaded = record { kept = c.clear_found.new.self; held = c.args.loaded.now.held } in
    let same : state_of at ≡ state_of c.args.loaded.now = ap (λ s. record { held = c.args.loaded.now.held; states = s }) c.clear_found.ensures.kept in
    let due : None ≡ lasting c.args.settings at.held c.moment-now.result = ap option_copied (sym c.in-None.is) ∙ c.lasting.ensures in
    load_caches g.D.Devices c.args.settings over (state_of c.args.loaded.now) at c.load.new.loaded c.args.world.now c.ask.new.self c.load.new.world
    c.in_ok-reading.reading c.moment-now.result c.load.result c.in_ok-reading.ensures.asked c.in_ok-reading.ensures.grows c.moment-now.ensures same due (c.load.ensures.loads none)

pub returns-clause-breaks : goal.returns-clause-breaks
returns-clause-breaks g c = λ ran_out.
    let over : ChainSetting = chain_of (λ z. (goal.ProvideCredentials-dyn g z).value z.1) (λ z. (goal.ClassifyRetry-dyn g z).repeated z.1) c.args.chain.now in
    let at : Loaded = record { kept = c.clear_found.new.self; held = c.args.loaded.now.held } in
    let same : state_of at ≡ state_of c.args.loaded.now = ap (λ s. record { held = c.args.loaded.now.held; states = s }) c.clear_found.ensures.kept in
    let due : None ≡ lasting c.args.settings at.held c.moment-now.result = ap option_copied (sym c.in-None.is) ∙ c.lasting.ensures in
    load_breaks g.D.Devices c.args.settings over (state_of c.args.loaded.now) at c.load.new.loaded c.args.world.now c.ask.new.self c.load.new.world
    c.in_ok-reading.reading c.moment-now.result c.in_ok-reading.ensures.asked c.in_ok-reading.ensures.grows c.moment-now.ensures same due (c.load.ensures.breaks ran_out)
