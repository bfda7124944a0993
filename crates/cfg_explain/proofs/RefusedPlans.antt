-- A profile without a plan.
use Rattle.std.proofs.Common.{◌≡◌, ◌⊎◌, inl, inr, Option, Err, refl, sym, ap, ◌∙◌}
use Rattle.cfg_types.specs.declared.errors.CredentialsError.{CredentialsError}
use Rattle.cfg_types.specs.declared.errors.ProfileFileError.{ProfileFileError}
use Rattle.cfg_world.specs.declared.asking.Halt.{Halt}
use Rattle.cfg_world.specs.declared.asking.Halt.TheVariants.{Stopped, Refused}
use Rattle.cfg_world.specs.declared.asking.Stop.TheVariants.{OutOfMemory}
use Rattle.cfg_chain.specs.profile.Plans.{Planned}
use Rattle.cfg_explain.specs.Reasons.{without_plan}

no_stop : (halt : Halt ProfileFileError) (e : ProfileFileError) → halt ≡ Refused e → halt ≡ Stopped OutOfMemory → ⊥
no_stop halt e h k = absurd cc

-- the answer is that of the error by which the plan was refused
pub not_planned : (said : Planned) (e : ProfileFileError) (answer : Option CredentialsError) →
    (◌≡◌ {A = Halt ProfileFileError} (Refused e) (Stopped OutOfMemory)) ⊎ (said ≡ Err e) → answer ≡ without_plan (Err e) → answer ≡ without_plan said
not_planned said e answer (inl stopped) is = absurd (no_stop (Refused e) e refl stopped)
not_planned said e answer (inr refused) is = is ∙ ap without_plan (sym refused)
