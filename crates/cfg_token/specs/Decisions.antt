-- What is done with a file's token.
use Rattle.std.specs.Prelude.{Bool, not, ◌&&◌, cond, Option}
use Rattle.cfg_base.specs.Moment.{Moment}
use Rattle.cfg_token.specs.declared.decision.Decision.{Decision as Decided}
use Rattle.cfg_token.specs.declared.decision.Decision.TheVariants.{Use, Refresh, Refuse}
use Rattle.cfg_token.specs.Rules.{Rules}
use Rattle.cfg_base.specs.Instant.{is_later_by}
use Rattle.cfg_token.specs.Moments.{is_before, buffer_seconds, may_attempt}

abbrev pub is_expired : {T E : Type 0} → Rules T E → T → Moment → Bool
is_expired t token now = not (is_before now (t.expiry token))

-- it ends after the time before its end at which it is refreshed
abbrev pub outlasts_buffer : {T E : Type 0} → Rules T E → T → Moment → Bool
outlasts_buffer t token now = is_later_by (t.expiry token) now buffer_seconds

abbrev pub ends_soon : {T E : Type 0} → Rules T E → T → Moment → Bool
ends_soon t token now = not (outlasts_buffer t token now)

abbrev pub is_refreshable : {T E : Type 0} → Rules T E → T → Option Moment → Moment → Bool
is_refreshable t token last now = t.refreshable token now && may_attempt last now

abbrev pub decision : {T E : Type 0} → Rules T E → T → Option Moment → Moment → Decided
decision t token last now =
    cond (is_expired t token now && not (is_refreshable t token last now)) Refuse (cond (ends_soon t token now && is_refreshable t token last now) Refresh Use)
