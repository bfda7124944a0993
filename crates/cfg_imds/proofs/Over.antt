-- Calls over a world, from what they follow.
use Rattle.std.proofs.Common.{◌≡◌, false}
use Rattle.std.specs.Prelude.{IsSome, Result, Ok, Err}
use Rattle.cfg_types.specs.declared.errors.imds.ImdsError.{ImdsError}
use Rattle.cfg_world.specs.declared.asking.Asking.{Ghosts}
use Rattle.cfg_world.specs.declared.asking.Stop.{Stop}
use Rattle.cfg_world.specs.Inquiry.{Inquiry}
use Rattle.cfg_world.specs.Follows.{Ends, Breaks, Follows}
use Rattle.cfg_exchange.proofs.Checks.{read_begun, broken}
use Rattle.cfg_imds.specs.Calls.{is_memory, or_memory}
use Rattle.cfg_imds.specs.Settles.{with_kept}

module _ {W T V : Type 0} {w : Ghosts W} {old new : W} where
  pub kept_ends : (inquiry : Inquiry (Result T ImdsError × V)) (kept : V) (r : Result (Result T ImdsError) Stop) →
      Follows w inquiry old new (with_kept kept r) → is_memory (or_memory r) ≡ false → Ends w inquiry old new (or_memory r, kept)
  kept_ends inquiry kept (Ok out) h n = h
  kept_ends inquiry kept (Err stop) h n = absurd cc

  pub kept_breaks : (inquiry : Inquiry (Result T ImdsError × V)) (kept : V) (r : Result (Result T ImdsError) Stop) →
      Follows w inquiry old new (with_kept kept r) → (IsSome (w.open_question new) → ⊥) → Breaks w inquiry old new
  kept_breaks inquiry kept (Ok out) h n = record { part = h.part; grows = h.grows; fits = h.fits; made = h.made; same = h.same; counted = h.counted; begun = read_begun inquiry h.part (out, kept) h.reads }
  kept_breaks inquiry kept (Err stop) h n = broken stop h n

module _ {W T : Type 0} {w : Ghosts W} {old new : W} where
  pub plain_ends : (inquiry : Inquiry (Result T ImdsError)) (r : Result (Result T ImdsError) Stop) →
      Follows w inquiry old new r → is_memory (or_memory r) ≡ false → Ends w inquiry old new (or_memory r)
  plain_ends inquiry (Ok out) h n = h
  plain_ends inquiry (Err stop) h n = absurd cc

  pub plain_breaks : (inquiry : Inquiry (Result T ImdsError)) (r : Result (Result T ImdsError) Stop) →
      Follows w inquiry old new r → (IsSome (w.open_question new) → ⊥) → Breaks w inquiry old new
  plain_breaks inquiry (Ok out) h n = record { part = h.part; grows = h.grows; fits = h.fits; made = h.made; same = h.same; counted = h.counted; begun = read_begun inquiry h.part out h.reads }
  plain_breaks inquiry (Err stop) h n = broken stop h n
